-- Demand 3, proved.
use Prim.Native.Nat.{ℕ, suc, ◌+◌, ◌-◌, ◌%◌, ◌^◌, ◌≤◌, ◌<◌}
use native.Mathlib.Omega.{arith}
use mathlib.Core.Bool.{Bool, true, false, cond, ◌&&◌, and-false}
use mathlib.Core.List.{List, [], ◌∷◌, ◌++◌, append-nil, append_assoc}
use mathlib.Core.Path.{◌≡◌, refl, sym, ◌∙◌, ap, subst}
use lib.ListN.{length, replicate, get_or-replicate}
use lib.Dec.{eqb}
use borrow.Author.Tests.{eqb-true, eqb-false, eq-eqb, ne_eqb}
use Rattle.header.specs.declared.sequence.Counter.{Counter}
use Rattle.header.specs.Sequence.{fresh_counter}
use Rattle.std.specs.Prelude.{Option, None}
use Rattle.joining.specs.declared.Cargo.{Cargo as Load}
use Rattle.joining.specs.Channel.{fresh_channel}
use Rattle.receiver.specs.State.{channel_at}
use Rattle.sender.specs.declared.Sender.{Sender}
use Rattle.sender.specs.Whole.{calls_for}
use Rattle.sender.proofs.Ready.{fit}
use Rattle.link.specs.Run.{Setup, Cargo, Shipment, World, Hear, receiving, start, send_all, abandon, ship, run, finished}
use Rattle.link.specs.Demand.{longest, fates_of, all_arrived, wanted, LossesUpTo, every, some, lost, Sendable, AllSendable, Kept}
use Rattle.link.specs.Rules.{Joins, Spares, joins_due, spares_all}
use Rattle.link.proofs.Ruled.{rules_right}
use Rattle.link.proofs.Ledger.{Ledger, tally, tally_append, few_append, tally_lost, tally_extra, none_lost, Linked, linked_as}
use Rattle.link.proofs.Places.{way_at, way_end}
use Rattle.link.proofs.Sending.{InRange, Fits, number_at, abandon_at}
use Rattle.link.proofs.Joining.{Enough, hearing}
use Rattle.link.proofs.Receiving.{channel_in, Able, able_idle}
use Rattle.link.proofs.Flow.{Point, world}
use Rattle.link.proofs.Left.{reach, reach_end}
use Rattle.link.proofs.Steps.{Mid}
use Rattle.link.proofs.Cargoes.{Good, due, good_run}

-- ---- between cargoes

pub record Rest (g : Setup) (p : Point) (led : ℕ → Ledger) : Type 0 where
  pub numbers : g.settings.count ≤ length p.ns
  pub channels : g.settings.count ≤ length p.cs
  pub able : Able g p.w p.buf
  pub room : g.largest ≤ length p.out
  pub linked : (c : ℕ) → c < g.settings.count → Linked (number_at p.ns c) (channel_in p.cs c) (led c)

pub record Rests (g : Setup) (v : World) (led : ℕ → Ledger) (got : List Cargo) : Type 0 where
  pub point : Point
  pub is : v ≡ world g point None got
  pub rest : Rest g point led

abbrev fates_on : Shipment → ℕ → List ℕ
fates_on x c = cond (eqb x.cargo.channel c) x.fates []

abbrev noted : (ℕ → Ledger) → Shipment → ℕ → Ledger
noted led x c = tally (led c) (fates_on x c)

abbrev handed_over : ℕ → Shipment → List Cargo
handed_over largest x = cond (all_arrived largest x) (x.cargo ∷ []) []

pub fits_of : {g : Setup} {x : Shipment} → Sendable g x → Fits g x.cargo
fits_of F = record { inside = F.channel; some_bytes = F.some_bytes; few_bytes = F.few_bytes }

module _ {J : Joins} {L : Spares} (S : Enough J L) {g : Setup} (R : InRange g) where
  module _ {x : Shipment} (F : Sendable g x) (led : ℕ → Ledger) where
    abbrev ch : ℕ
    ch = x.cargo.channel

    abbrev m : ℕ
    m = length x.cargo.bytes

    -- the sender is idle after the cargo, finished or abandoned
    closed : (v : World) (p : Point) (got : List Cargo) → v ≡ world g p (way_at ch m (reach g.largest x.cargo 0 x.fates)) got
        → cond (finished g.largest x) v (abandon v) ≡ world g p None got
    unfolding finished
    closed v p got e = go (finished g.largest x) refl
      where
        o : ℕ
        o = reach g.largest x.cargo 0 x.fates

        go : (b : Bool) → eqb (length x.fates) (calls_for g.largest m) ≡ b → cond b v (abandon v) ≡ world g p None got
        go true f =
            let n : length x.fates ≡ calls_for g.largest m = eqb-true (length x.fates) (calls_for g.largest m) f in
            let z : m ≡ m - 0 = omega arith in
            let r : o ≡ m = reach_end g.largest x.cargo x.fates 0 R.five (omega arith) (n ∙ ap (λ (i : ℕ). calls_for g.largest i) z) in
            e ∙ ap (λ (y : Option Load). world g p y got) (way_end ch m o (omega (arith, F.some_bytes)) (omega arith))
        go false f =
            ap (λ (y : World). abandon y) e
            ∙ ap (λ (s : Sender). record { sender = s; receiver = (world g p None got).receiver; buffer = p.buf; out = p.out; got = got }) (abandon_at R (fits_of F) p.ns o)

    after_cargo : (p : Point) → Mid g x.cargo led p (tally (led ch) x.fates) → Rest g p (noted led x)
    unfolding tally
    after_cargo p M = record { numbers = M.numbers; channels = M.channels; able = M.able; room = M.room; linked = λ c i. go c i (eqb ch c) refl }
      where
        go : (c : ℕ) → c < g.settings.count → (b : Bool) → eqb ch c ≡ b → Linked (number_at p.ns c) (channel_in p.cs c) (tally (led c) (cond b x.fates []))
        go c i true e = subst (λ (d : ℕ). Linked (number_at p.ns d) (channel_in p.cs d) (tally (led d) x.fates)) (eqb-true ch c e) M.here
        go c i false e = M.others c i (λ f. eqb-false ch c e (sym f))

    ship_rests : (p : Point) (got : List Cargo) → Rest g p led → LossesUpTo longest (led ch).pending x.fates
        → Rests g (ship (hearing J L) g.largest x (world g p None got)) (noted led x) (got ++ handed_over g.largest x)
    unfolding ship way_at all_arrived finished
    ship_rests p got I few =
        let M : Mid g x.cargo led p (led ch) = record { numbers = I.numbers; channels = I.channels; able = I.able; room = I.room; here = I.linked ch F.channel; others = λ c i n. I.linked c i } in
        let G : Good S R (fits_of F) led 0 p (led ch) = record { way = λ z. absurd (omega arith); none_lost = λ z. absurd (omega arith); same = refl } in
        let z : m - 0 ≡ m = omega arith in
        let E = good_run S R (fits_of F) led x.fates 0 p got (led ch) M G F.some_bytes (rw z F.transfers) few in
        let d : due S R (fits_of F) led 0 x.fates ≡ handed_over g.largest x = ap (λ (i : ℕ). cond {A = List Cargo} (eqb (length x.fates) (calls_for g.largest i) && every x.fates) (x.cargo ∷ []) []) z in
        record {
          point = E.point;
          is = closed (send_all (hearing J L) x.cargo x.fates (world g p None got)) E.point (got ++ handed_over g.largest x)
              (E.is ∙ ap (λ (y : List Cargo). world g E.point (way_at ch m (reach g.largest x.cargo 0 x.fates)) (got ++ y)) d);
          rest = after_cargo E.point E.mid;
        }

  -- ---- all the cargoes

  abbrev RunRests : List Shipment → Type 0
  RunRests xs = (led : ℕ → Ledger) (p : Point) (got : List Cargo) → AllSendable g xs → Rest g p led → ((c : ℕ) → c < g.settings.count → LossesUpTo longest (led c).pending (fates_of c xs))
      → Rests g (run (hearing J L) g.largest xs (world g p None got)) (λ c. tally (led c) (fates_of c xs)) (got ++ wanted g.largest xs)

  run_none : RunRests []
  unfolding run wanted fates_of tally
  run_none led p got F I few = record { point = p; is = ap (λ (y : List Cargo). world g p None y) (sym (append-nil got)); rest = I }

  run_more : (x : Shipment) (xs : List Shipment) → RunRests xs → RunRests (x ∷ xs)
  unfolding run wanted fates_of AllSendable
  run_more x xs ih led p got F I few =
      let fewer : (c : ℕ) → c < g.settings.count → LossesUpTo longest (led c).pending (fates_on x c) × LossesUpTo longest (noted led x c).pending (fates_of c xs)
      = λ c i. few_append (led c) (fates_on x c) (fates_of c xs) (few c i) in
      let ch = x.cargo.channel in
      let own : LossesUpTo longest (led ch).pending x.fates = rw (eq-eqb ch ch refl) at (fewer ch F.0.channel).0 in
      let P = ship_rests F.0 led p got I own in
      let T = ih (noted led x) P.point (got ++ handed_over g.largest x) F.1 P.rest (λ c i. (fewer c i).1) in
      record {
        point = T.point;
        is = ap (λ (v : World). run (hearing J L) g.largest xs v) P.is ∙ T.is ∙ ap (λ (y : List Cargo). world g T.point None y) (append_assoc got (handed_over g.largest x) (wanted g.largest xs));
        rest = record {
          numbers = T.rest.numbers;
          channels = T.rest.channels;
          able = T.rest.able;
          room = T.rest.room;
          linked = λ c i. rw (tally_append (led c) (fates_on x c) (fates_of c xs)) (T.rest.linked c i);
        };
      }

  run_rests : (xs : List Shipment) → RunRests xs
  run_rests [] = run_none
  run_rests (x ∷ xs) = run_more x xs (run_rests xs)

-- ---- from the start

abbrev blank : Ledger
blank = record { pending = 0; lost = 0; extra = 0 }

abbrev begin : List ℕ → List ℕ → Point
begin buffer out = record { out = out; ns = replicate 32 fresh_counter; cs = replicate 32 fresh_channel; w = None; buf = buffer }

begins : (g : Setup) (buffer out : List ℕ) → InRange g → g.settings.limit - 4 ≤ length buffer → g.largest ≤ length out → Rest g (begin buffer out) (λ c. blank)
begins g buffer out R long room =
    record {
      numbers = R.range.few;
      channels = R.range.few;
      able = able_idle g buffer long;
      room = room;
      linked = λ c i. linked_as (ap (λ (n : Counter). n.next) (get_or-replicate 32 c fresh_counter fresh_counter (omega (arith, R.range.few)))) (get_or-replicate 32 c fresh_channel fresh_channel (omega (arith, R.range.few))) unheard;
    }
  where
    unheard : Linked 0 fresh_channel blank
    unheard = record { low = omega arith; number = refl; few = omega arith; missing = refl; repeats = refl }

all_lost : (fs : List ℕ) (b : Bool) → some fs ≡ b → 0 + cond b (0 + lost fs) 0 ≡ lost fs
all_lost fs true e = omega arith
all_lost fs false e = sym (none_lost fs e)

-- demand 3 of every receiver that goes on with its own continuations and with none after a loss, and whose repeats spare the cargo on their own channel
pub enough_keeps : {J : Joins} {L : Spares} → Enough J L → Kept (hearing J L)
unfolding start
enough_keeps {J} {L} S g buffer out xs F =
    let R = fit g.settings g.largest None F.settings in
    let T = run_rests S R xs (λ c. blank) (begin buffer out) [] F.cargoes (begins g buffer out R F.buffer_long F.output_long) F.wire in
    record {
      delivered = ap (λ (v : World). v.got) T.is;
      missing = λ c i. ap (λ (v : World). (channel_at v.receiver c).missing) T.is ∙ (T.rest.linked c i).missing ∙ ap (λ (n : ℕ). n % 2 ^ 32) (tally_lost blank (fates_of c xs) ∙ all_lost (fates_of c xs) (some (fates_of c xs)) refl);
      repeats = λ c i. ap (λ (v : World). (channel_at v.receiver c).repeats) T.is ∙ (T.rest.linked c i).repeats ∙ ap (λ (n : ℕ). n % 2 ^ 32) (tally_extra blank (fates_of c xs) ∙ omega arith);
    }

pub due_enough : Enough joins_due spares_all
due_enough =
    record {
      none_after_loss = λ w h gap. simp (ne_eqb (suc gap) 0 (omega arith), and-false);
      joins_own = λ x o q. simp (eq-eqb x.channel x.channel refl, eq-eqb (length x.bytes - o + 4 - 4) (length x.bytes - o) (omega arith));
      spares_none = λ c. refl;
      spares_own_lem = λ c m o. refl;
    }

pub demand_3 : Kept receiving
demand_3 = subst (λ (hear : Hear). Kept hear) rules_right (enough_keeps due_enough)
