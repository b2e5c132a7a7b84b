-- A cargo's transfers, one after another: what is handed over at the end of them.
use Prim.Native.Nat.{ℕ, zero, suc, ◌-◌, ◌≤◌, ◌<◌}
use native.Mathlib.Omega.{arith}
use mathlib.Core.Bool.{Bool, true, false, cond, ◌&&◌, and-false}
use mathlib.Core.List.{List, [], ◌∷◌, ◌++◌, append-nil}
use mathlib.Core.Path.{◌≡◌, refl, ◌∙◌, ap, subst⁻¹}
use lib.ListN.{length, take}
use lib.Dec.{ltb, leb, eqb, eqb-suc-suc}
use borrow.Author.Tests.{leb-true, leb-false, eq-eqb, ne_eqb}
use Rattle.header.specs.declared.Header.{Header}
use Rattle.laws.proofs.Tests.{by_cases}
use Rattle.std.specs.Prelude.{Option, None, Some}
use Rattle.joining.specs.declared.Cargo.{Cargo as Load}
use Rattle.joining.specs.declared.channels.Channel.{Channel}
use Rattle.sender.specs.Whole.{calls_for}
use Rattle.link.specs.Run.{Setup, Cargo, World, arrive, send_all}
use Rattle.link.specs.Demand.{longest, LossesUpTo, every}
use Rattle.link.specs.Rules.{Joins, Spares}
use Rattle.link.proofs.Ledger.{Ledger, note, tally, anew, gap_is, not_repeat, lose, again, heard}
use Rattle.link.proofs.Places.{load, next, next_more, way_at, way_mid, way_end, header_at, transfer_of}
use Rattle.link.proofs.Sending.{InRange, Fits, fits_at, number_at}
use Rattle.link.proofs.Joining.{Enough, joins_on, hearing}
use Rattle.link.proofs.Receiving.{channel_in, filled, Able, able_idle, filled_length, filled_same}
use Rattle.link.proofs.Flow.{Point, world, sent_on, ended, arrive_first, arrive_join, arrive_unjoined}
use Rattle.link.proofs.Left.{calls_zero, left_some, left_step, reach}
use Rattle.link.proofs.Steps.{Mid, moved, mid_moved, sent_lost, sent_heard}

none_left : (fs : List ℕ) → length fs ≤ 0 → every fs ≡ true
unfolding every
none_left [] h = refl
none_left (k ∷ fs) h = absurd (omega arith)

-- what is under way, if anything, is not gone on with after the losses so far
abbrev pub Stale : Joins → Option Load → Ledger → Type 0
Stale J w a = (h : Header) → joins_on J w h a.pending ≡ false

stale_lost : {J : Joins} {L : Spares} → Enough J L → (w : Option Load) (a : Ledger) → Stale J w (note a 0)
stale_lost S None a h = refl
stale_lost S (Some w) a h = S.none_after_loss w h a.pending

spares_at : {J : Joins} {L : Spares} → Enough J L → (c m o : ℕ) → L c (way_at c m o) ≡ way_at c m o
unfolding way_at
spares_at {J} {L} S c m o = by_cases (λ (w : Option Load). L c w ≡ w) (ltb 0 o && ltb o m) (load c m o) None (λ e. S.spares_own_lem c m o) (λ e. S.spares_none c)

module _ {J : Joins} {L : Spares} (S : Enough J L) {g : Setup} (R : InRange g) {x : Cargo} (F : Fits g x) (led : ℕ → Ledger) where
  abbrev ch : ℕ
  ch = x.channel

  abbrev m : ℕ
  m = length x.bytes

  abbrev T : ℕ
  T = g.largest

  abbrev at : Point → ℕ → List Cargo → World
  at p o got = world g p (way_at ch m o) got

  pub record Ends (v : World) (o : ℕ) (a : Ledger) (got : List Cargo) : Type 0 where
    pub point : Point
    pub is : v ≡ world g point (way_at ch m o) got
    pub mid : Mid g x led point a

  -- ---- once a transfer is lost, nothing of the cargo is delivered

  abbrev BadRun : List ℕ → Type 0
  BadRun fs = (o : ℕ) (p : Point) (got : List Cargo) (a : Ledger) → Mid g x led p a → Stale J p.w a → 0 < o → length fs ≤ calls_for T (m - o) → LossesUpTo longest a.pending fs
      → Ends (send_all (hearing J L) x fs (at p o got)) (reach T x o fs) (tally a fs) got

  bad_none : BadRun []
  unfolding send_all reach tally
  bad_none o p got a M st z len few = record { point = p; is = refl; mid = M }

  bad_lost : (fs : List ℕ) → BadRun fs → BadRun (0 ∷ fs)
  unfolding send_all reach tally LossesUpTo
  bad_lost fs ih o p got a M st z len few =
      let l : Channel = channel_in p.cs ch in
      let some_left : 1 ≤ m - o = left_some T (m - o) R.five (omega arith) in
      let h : o < m = omega arith in
      subst⁻¹ (λ (v : World). Ends (send_all (hearing J L) x fs v) (reach T x (next T x o) fs) (tally (note a 0) fs) got) (sent_lost S R F led p got M.room o h)
      (ih (next T x o) (moved g x o p l p.w p.buf) got (note a 0) (mid_moved S R F led M o h l M.able (lose M.here (omega (arith, few.0))))
      (stale_lost S p.w a) (omega arith) (omega (arith, left_step T m o R.five h)) few.1)

  bad_heard : (j : ℕ) (fs : List ℕ) → BadRun fs → BadRun (suc j ∷ fs)
  unfolding send_all reach tally LossesUpTo
  bad_heard j fs ih o p got a M st z len few =
      let q : ℕ = number_at p.ns ch in
      let l : Channel = channel_in p.cs ch in
      let some_left : 1 ≤ m - o = left_some T (m - o) R.five (omega arith) in
      let h : o < m = omega arith in
      let A : Able g None p.buf = able_idle g p.buf M.able.long in
      subst⁻¹ (λ (v : World). Ends (send_all (hearing J L) x fs v) (reach T x (next T x o) fs) (tally (note a (suc j)) fs) got)
      (sent_heard S R F led p got got M o j h A (S.spares_none ch)
      (arrive_unjoined S R F (way_at ch m (next T x o)) o q h (sent_on g x o p) got M.able (not_repeat M.here) z (rw (gap_is M.here) (st (header_at x o q)))))
      (ih (next T x o) (moved g x o p (again j (anew l q)) None p.buf) got (note a (suc j)) (mid_moved S R F led M o h (again j (anew l q)) A (heard j M.here))
      (λ d. refl) (omega arith) (omega (arith, left_step T m o R.five h)) few)

  bad_run : (fs : List ℕ) → BadRun fs
  bad_run [] = bad_none
  bad_run (zero ∷ fs) = bad_lost fs (bad_run fs)
  bad_run (suc j ∷ fs) = bad_heard j fs (bad_run fs)

  -- ---- as long as all its transfers arrive, the receiver holds what the sender sent

  pub record Good (o : ℕ) (p : Point) (a : Ledger) : Type 0 where
    pub way : 0 < o → p.w ≡ load ch m o
    pub none_lost : 0 < o → a.pending ≡ 0
    pub same : take o p.buf ≡ take o x.bytes

  abbrev pub due : ℕ → List ℕ → List Cargo
  due o fs = cond (eqb (length fs) (calls_for T (m - o)) && every fs) (x ∷ []) []

  abbrev pub GoodRun : List ℕ → Type 0
  GoodRun fs = (o : ℕ) (p : Point) (got : List Cargo) (a : Ledger) → Mid g x led p a → Good o p a → o < m → length fs ≤ calls_for T (m - o) → LossesUpTo longest a.pending fs
      → Ends (send_all (hearing J L) x fs (at p o got)) (reach T x o fs) (tally a fs) (got ++ due o fs)

  good_none : GoodRun []
  unfolding send_all reach tally
  good_none o p got a M G h len few =
      let some_left : 0 < calls_for T (m - o) = omega (arith, left_step T m o R.five h) in
      let e : got ≡ got ++ due o [] = simp (ne_eqb 0 (calls_for T (m - o)) (omega arith), append-nil got) in
      record { point = p; is = ap (λ (y : List Cargo). at p o y) e; mid = M }

  good_lost : (fs : List ℕ) → GoodRun (0 ∷ fs)
  unfolding send_all reach tally LossesUpTo every
  good_lost fs o p got a M G h len few =
      let l : Channel = channel_in p.cs ch in
      let e : got ++ due o (0 ∷ fs) ≡ got = simp (and-false, append-nil got) in
      subst⁻¹ (λ (y : List Cargo). Ends (send_all (hearing J L) x (0 ∷ fs) (at p o got)) (reach T x (next T x o) fs) (tally (note a 0) fs) y) e
      (subst⁻¹ (λ (v : World). Ends (send_all (hearing J L) x fs v) (reach T x (next T x o) fs) (tally (note a 0) fs) got) (sent_lost S R F led p got M.room o h)
      (bad_run fs (next T x o) (moved g x o p l p.w p.buf) got (note a 0) (mid_moved S R F led M o h l M.able (lose M.here (omega (arith, few.0))))
      (stale_lost S p.w a) (omega (arith, next_more T x o R.five h)) (omega (arith, left_step T m o R.five h)) few.1))

  -- the first copy of a transfer when all before it arrived
  placed : (o : ℕ) (p : Point) (got : List Cargo) (a : Ledger) → Mid g x led p a → Good o p a → o < m
      → arrive (hearing J L) (transfer_of T x o (number_at p.ns ch)) (at (sent_on g x o p) (next T x o) got)
      ≡ at (moved g x o p (anew (channel_in p.cs ch) (number_at p.ns ch)) (way_at ch m (next T x o)) (filled T x o p.buf)) (next T x o) (got ++ ended T x o)
  placed zero p got a M G h = arrive_first S R F (way_at ch m (next T x 0)) 0 (number_at p.ns ch) h (sent_on g x 0 p) got M.able (not_repeat M.here) refl
  placed (suc o) p got a M G h =
      arrive_join S R F (way_at ch m (next T x (suc o))) (suc o) (number_at p.ns ch) h (sent_on g x (suc o) p) got M.able (not_repeat M.here)
      (omega arith) (G.way (omega arith)) (gap_is M.here ∙ G.none_lost (omega arith)) G.same

  good_heard : (j : ℕ) (fs : List ℕ) → GoodRun fs → GoodRun (suc j ∷ fs)
  unfolding send_all reach tally LossesUpTo every
  good_heard j fs ih o p got a M G h len few =
      subst⁻¹ (λ (v : World). Ends (send_all (hearing J L) x fs v) (reach T x to fs) (tally (note a (suc j)) fs) (got ++ due o (suc j ∷ fs)))
      (sent_heard S R F led p got (got ++ ended T x o) M o j h A (spares_at S ch m to) (placed o p got a M G h))
      (go (leb m to) refl)
    where
      to : ℕ
      to = next T x o

      l : Channel
      l = again j (anew (channel_in p.cs ch) (number_at p.ns ch))

      A : Able g (way_at ch m to) (filled T x o p.buf)
      A = record { fit = fits_at R F to; long = rw (filled_length J L R F p.cs M.able o (number_at p.ns ch) h) M.able.long }

      p' : Point
      p' = moved g x o p l (way_at ch m to) (filled T x o p.buf)

      M' : Mid g x led p' (note a (suc j))
      M' = mid_moved S R F led M o h l A (heard j M.here)

      one : calls_for T (m - o) ≡ suc (calls_for T (m - to))
      one = left_step T m o R.five h

      go : (b : Bool) → leb m to ≡ b → Ends (send_all (hearing J L) x fs (at p' to (got ++ cond b (x ∷ []) []))) (reach T x to fs) (tally (note a (suc j)) fs) (got ++ due o (suc j ∷ fs))
      go true e =
          let past : m ≤ to = leb-true m to e in
          let z : m - to ≡ 0 = omega arith in
          let none : calls_for T (m - to) ≡ 0 = ap (λ (i : ℕ). calls_for T i) z ∙ calls_zero T R.five in
          let d : due o (suc j ∷ fs) ≡ x ∷ [] = simp (eq-eqb (suc (length fs)) (calls_for T (m - o)) (omega (arith, one)), none_left fs (omega (arith, one))) in
          subst⁻¹ (λ (y : List Cargo). Ends (send_all (hearing J L) x fs (at p' to (got ++ x ∷ []))) (reach T x to fs) (tally (note a (suc j)) fs) (got ++ y)) d
          (bad_run fs to p' (got ++ x ∷ []) (note a (suc j)) M' (λ h. ap (λ (w : Option Load). joins_on J w h 0) (way_end ch m to (omega arith) past)) (omega arith) (omega (arith, one)) few)
      go false e =
          let under : to < m = leb-false m to e in
          let d : due o (suc j ∷ fs) ≡ due to fs = rw (one, eqb-suc-suc (length fs) (calls_for T (m - to))) in
          subst⁻¹ (λ (y : List Cargo). Ends (send_all (hearing J L) x fs (at p' to (got ++ []))) (reach T x to fs) (tally (note a (suc j)) fs) (got ++ y)) d
          (subst⁻¹ (λ (y : List Cargo). Ends (send_all (hearing J L) x fs (at p' to y)) (reach T x to fs) (tally (note a (suc j)) fs) (got ++ due to fs)) (append-nil got)
          (ih to p' got (note a (suc j)) M'
          record { way = λ z. way_mid ch m to z under; none_lost = λ z. refl; same = filled_same J L R F p.cs M.able o (number_at p.ns ch) h G.same }
          under (omega (arith, one)) few))

  pub good_run : (fs : List ℕ) → GoodRun fs
  good_run [] = good_none
  good_run (zero ∷ fs) = good_lost fs
  good_run (suc j ∷ fs) = good_heard j fs (good_run fs)
