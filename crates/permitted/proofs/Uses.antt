-- Each transfer that is written uses up a permit of its own, and each permit was a Notification's.
use Prim.Native.Nat.{ℕ, ◌+◌, ◌≤◌}
use mathlib.Core.Bool.{Bool, true, false, cond, ◌||◌}
use mathlib.Core.Logic.{inl, inr, ⊎_elim}
use mathlib.Core.Path.{◌≡◌, refl, subst}
use mathlib.Core.List.{List, [], ◌∷◌, ◌++◌, map, map-append, append_assoc}
use native.Mathlib.Omega.{arith}
use lib.Dec.{ltb}
use lib.ListN.{length, length-append, length-map}
use borrow.Author.Tests.{ltb-false}
use Rattle.std.specs.Prelude.{Option, None, Some, Ok, Err, option_to_list}
use Rattle.refusals.specs.declared.Refusal.TheVariants.{EndedPermit, SmallPermit}
use Rattle.laws.proofs.Tests.{clash, no_ok, skip}
use Rattle.sender.specs.Send.{header_at}
use Rattle.link.specs.Run.{Setup, Cargo, finished}
use Rattle.reader.proofs.Runs.{or_false}
use Rattle.listener.specs.declared.News.{News}
use Rattle.listener.specs.declared.News.TheVariants.{Nothing, Transfer, Query, Notice, Refused}
use Rattle.permit.specs.declared.Permit.{Permit}
use Rattle.permit.specs.Permit.{heard, refusal}
use Rattle.permit.specs.Permit as permits
use Rattle.permitted.specs.Run.{Hearing, Try, Attempt, Host, heard_all, permit_at, call_at, writes, try_one, try_all, fates_by, shipment, abandon, ship, plain, fresh}
use Rattle.permitted.specs.Uses.{notice_of, notices_in, notices_by, notices, Use, use_of, uses_by, uses, sent_in, Among, InOrder, AllInOrder, OneEach}
use Rattle.permit.specs.Send.{Way, transfers, messages}
use Rattle.permit.specs.Claims.{AsPlain}
use Rattle.permit.proofs.Claimed.{Asks, transfers_ask, messages_ask, refused_untouched, written_as_plain}

-- ---- one permit

-- a permit that allows a transfer
record Allows (held : Option Permit) (l clock timeout : ℕ) : Type 0 where
  grant : Permit
  is : held ≡ Some grant
  good : InOrder record { grant = grant; l = l; clock = clock; timeout = timeout }

allows : (held : Option Permit) (l clock timeout : ℕ) → refusal held l clock timeout ≡ Ok tt → Allows held l clock timeout
unfolding refusal permits.ended
allows None l clock timeout e = absurd (clash (cc))
allows (Some p) l clock timeout e =
    let u = skip (ltb (p.came + timeout) clock || ltb clock p.came) (Err EndedPermit) _ (Ok tt) (no_ok EndedPermit tt) e in
    let v = skip (ltb p.room l) (Err SmallPermit) (Ok tt) (Ok tt) (no_ok SmallPermit tt) u.1 in
    let w = or_false _ _ u.0 in
    record {
      grant = p;
      is = refl;
      good = record { room = ltb-false p.room l v.0; not_before = ltb-false clock p.came w.1; in_time = ltb-false (p.came + timeout) clock w.0 };
    }

-- ---- some of these, in their order

later : (xs ys zs : List Permit) → Among xs ys → Among xs (zs ++ ys)
unfolding Among
later xs ys [] a = a
later [] ys (z ∷ zs) a = tt
later (x ∷ xs) ys (z ∷ zs) a = inr (later (x ∷ xs) ys zs a)

among_no_more : (xs ys : List Permit) → Among xs ys → length xs ≤ length ys
unfolding Among
among_no_more [] ys a = omega arith
among_no_more (x ∷ xs) [] a = absurd a
among_no_more (x ∷ xs) (y ∷ ys) a = ⊎_elim (λ p. let n = among_no_more xs ys p.1 in omega arith) (λ q. let n = among_no_more (x ∷ xs) ys q in omega arith) a

-- what is among the permit held after some news, and more, is among the one held before, those news and more
after_one : (p : Option Permit) (n : News) (clock : ℕ) (gs more : List Permit) → Among gs (option_to_list (heard p n clock) ++ more) → Among gs (option_to_list p ++ (notice_of n clock ++ more))
unfolding heard
after_one p Nothing clock gs more a = a
after_one p (Transfer channel held answer) clock gs more a = a
after_one p Query clock gs more a = a
after_one p (Notice room) clock gs more a = later gs _ (option_to_list p) a
after_one p (Refused refusal) clock gs more a = a

after_news : (p : Option Permit) (xs : List Hearing) (gs more : List Permit) → Among gs (option_to_list (heard_all p xs) ++ more) → Among gs (option_to_list p ++ (notices_in xs ++ more))
unfolding heard_all notices_in
after_news p [] gs more a = a
after_news p (x ∷ xs) gs more a =
    rw (append_assoc (notice_of x.news x.clock) (notices_in xs) more)
    (after_one p x.news x.clock gs (notices_in xs ++ more) (after_news (heard p x.news x.clock) xs gs more a))

-- ---- a run

abbrev grants : List Use → List Permit
grants us = map (λ (u : Use). u.grant) us

order_append : (us vs : List Use) → AllInOrder us → AllInOrder vs → AllInOrder (us ++ vs)
unfolding AllInOrder
order_append [] vs a b = b
order_append (u ∷ us) vs a b = (a.0, order_append us vs a.1 b)

-- the use of one call
abbrev use_at : Way → Cargo → Try → Host → List Use
use_at way x t h = cond (writes way x t h) (use_of (permit_at t h) (header_at h.line.sender x.channel (length x.bytes)).length t.clock t.timeout) []

-- as many uses as transfers, each in order
record Good (us : List Use) (fates : List ℕ) : Type 0 where
  count : length us ≡ length fates
  order : AllInOrder us

module _ (way : Way) (A : Asks way) where
  written : (x : Cargo) (t : Try) (h : Host) → writes way x t h ≡ true → AsPlain way (permit_at t h) (call_at x t h)
  written x t h q = written_as_plain way A (permit_at t h) (call_at x t h) q

  allowed : (x : Cargo) (t : Try) (h : Host) → writes way x t h ≡ true → Allows (permit_at t h) (header_at h.line.sender x.channel (length x.bytes)).length t.clock t.timeout
  allowed x t h q = allows (permit_at t h) _ t.clock t.timeout (written x t h q).allowed

  one_among : (x : Cargo) (t : Try) (h : Host) (gs more : List Permit) → Among gs (option_to_list (try_one way x t h).permit ++ more) → Among (grants (use_at way x t h) ++ gs) (option_to_list (permit_at t h) ++ more)
  unfolding try_one Among
  one_among x t h gs more a = go (writes way x t h) refl
    where
      go : (b : Bool) → writes way x t h ≡ b
          → Among (grants (cond b (use_of (permit_at t h) (header_at h.line.sender x.channel (length x.bytes)).length t.clock t.timeout) []) ++ gs) (option_to_list (permit_at t h) ++ more)
      go true q = rw (allowed x t h q).is (inl (refl, rw (written x t h q).permit at a))
      go false q = rw (refused_untouched way (permit_at t h) (call_at x t h) q).permit at a

  one_good : (x : Cargo) (t : Try) (h : Host) → Good (use_at way x t h) (cond (writes way x t h) (t.fate ∷ []) [])
  unfolding AllInOrder
  one_good x t h = go (writes way x t h) refl
    where
      go : (b : Bool) → writes way x t h ≡ b
          → Good (cond b (use_of (permit_at t h) (header_at h.line.sender x.channel (length x.bytes)).length t.clock t.timeout) []) (cond b (t.fate ∷ []) [])
      go true q = rw (allowed x t h q).is record { count = refl; order = ((allowed x t h q).good, tt) }
      go false q = record { count = refl; order = tt }

  all_among : (x : Cargo) (ts : List Try) (h : Host) (gs more : List Permit) → Among gs (option_to_list (try_all way x ts h).permit ++ more)
      → Among (grants (uses_by way x ts h) ++ gs) (option_to_list h.permit ++ (notices_by ts ++ more))
  unfolding try_all uses_by notices_by
  all_among x [] h gs more a = a
  all_among x (t ∷ ts) h gs more a =
      let k = try_one way x t h in
      let us = use_at way x t h in
      let vs = uses_by way x ts k in
      rw (map-append (λ (u : Use). u.grant) us vs, append_assoc (grants us) (grants vs) gs, append_assoc (notices_in t.heard) (notices_by ts) more)
      (after_news h.permit t.heard (grants us ++ (grants vs ++ gs)) (notices_by ts ++ more) (one_among x t h (grants vs ++ gs) (notices_by ts ++ more) (all_among x ts k gs more a)))

  all_good : (x : Cargo) (ts : List Try) (h : Host) → Good (uses_by way x ts h) (fates_by way x ts h)
  unfolding uses_by fates_by AllInOrder
  all_good x [] h = record { count = refl; order = tt }
  all_good x (t ∷ ts) h =
      let a = one_good x t h in
      let b = all_good x ts (try_one way x t h) in
      let n = a.count in
      let m = b.count in
      record { count = simp length-append (omega arith); order = order_append (use_at way x t h) (uses_by way x ts (try_one way x t h)) a.order b.order }

  ship_permit : (largest : ℕ) (x : Attempt) (h : Host) → (ship way largest x h).permit ≡ (try_all way x.cargo x.tries h).permit
  unfolding ship
  ship_permit largest x h = go (finished largest (shipment way x h))
    where
      go : (b : Bool) → (cond b (try_all way x.cargo x.tries h) (abandon (try_all way x.cargo x.tries h))).permit ≡ (try_all way x.cargo x.tries h).permit
      go true = refl
      go false = refl

  run_among : (largest : ℕ) (xs : List Attempt) (h : Host) → Among (grants (uses way largest xs h)) (option_to_list h.permit ++ notices xs)
  unfolding uses notices Among
  run_among largest [] h = tt
  run_among largest (x ∷ xs) h =
      let k = ship way largest x h in
      rw (map-append (λ (u : Use). u.grant) (uses_by way x.cargo x.tries h) (uses way largest xs k))
      (all_among x.cargo x.tries h (grants (uses way largest xs k)) (notices xs) (subst (λ (p : Option Permit). Among (grants (uses way largest xs k)) (option_to_list p ++ notices xs)) (ship_permit largest x h) (run_among largest xs k)))

  run_count : (largest : ℕ) (xs : List Attempt) (h : Host) → length (uses way largest xs h) ≡ sent_in (plain way largest xs h)
  unfolding uses plain sent_in
  run_count largest [] h = refl
  run_count largest (x ∷ xs) h =
      let n = (all_good x.cargo x.tries h).count in
      let m = run_count largest xs (ship way largest x h) in
      simp length-append (omega arith)

  run_order : (largest : ℕ) (xs : List Attempt) (h : Host) → AllInOrder (uses way largest xs h)
  unfolding uses AllInOrder
  run_order largest [] h = tt
  run_order largest (x ∷ xs) h = order_append (uses_by way x.cargo x.tries h) (uses way largest xs (ship way largest x h)) (all_good x.cargo x.tries h).order (run_order largest xs (ship way largest x h))

  one_each : (g : Setup) (out : List ℕ) (xs : List Attempt) → OneEach way g out xs
  one_each g out xs =
      let us = uses way g.largest xs (fresh g out) in
      let c = run_count g.largest xs (fresh g out) in
      let a = run_among g.largest xs (fresh g out) in
      let n = among_no_more (grants us) (notices xs) a in
      let m = length-map us (λ (u : Use). u.grant) in
      record { each_used_one = c; of_its_own = a; no_more = omega arith; allowed = run_order g.largest xs (fresh g out) }

pub transfers_one_each : (g : Setup) (out : List ℕ) (xs : List Attempt) → OneEach transfers g out xs
transfers_one_each = one_each transfers transfers_ask

pub messages_one_each : (g : Setup) (out : List ℕ) (xs : List Attempt) → OneEach messages g out xs
messages_one_each = one_each messages messages_ask
