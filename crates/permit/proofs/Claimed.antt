-- The claims hold of both functions: one proof over the way.
use Prim.Native.Nat.{ℕ, ◌≤◌}
use mathlib.Core.Path.{◌≡◌, refl, sym, ap, ◌∙◌}
use mathlib.Core.Bool.{true, false}
use mathlib.Core.List.{List, ◌++◌}
use native.Mathlib.Omega.{arith}
use lib.Dec.{ltb}
use lib.ListN.{length, drop, length-append, length-drop}
use lib.Seq.{take_at, drop_at}
use borrow.Author.Tests.{le-ltb, ltb-false}
use Rattle.std.specs.Prelude.{Option, Some, Result, Ok, Err, is_ok}
use Rattle.std.specs.Result.{result_and}
use Rattle.std.proofs.lemmas.List.Sums.{count_by-le-length}
use Rattle.refusals.specs.declared.Refusal.{Refusal}
use Rattle.refusals.specs.declared.Refusal.TheVariants.{EndedPermit, SmallPermit}
use Rattle.laws.proofs.Tests.{clash, no_ok, skip}
use Rattle.sender.specs.Send.{judge_send, header_at, transfer_at}
use Rattle.sender.proofs.Coming.{coming}
use Rattle.sender.proofs.Transfer.{sent_is, transfer_length}
use Rattle.writer.specs.Message.{special, written_length, write_answer}
use Rattle.writer.proofs.Escaped.{message_length}
use Rattle.writer.proofs.Writing.{writable}
use Rattle.permit.specs.declared.Permit.{Permit}
use Rattle.permit.specs.declared.send.Allowed.{Allowed}
use Rattle.permit.specs.Permit.{ended, refusal}
use Rattle.permit.specs.Permit as permits
use Rattle.permit.specs.Send.{Way, transfers, messages, asked, written, sender_after, permit_after, written_in}
use Rattle.permit.specs.Claims.{Call, answer_to, output_of, MoreRoom, Untouched, RefusedUntouched, WrittenAsPlain, NoneHeld, AlwaysEnough}
use Rattle.permit.proofs.Answering.{refused, granted}

-- one test after another: both are passed
pub both : {A B : Type 0} (x : Result A Refusal) (y : Result B Refusal) {b : B} → result_and x y ≡ Ok b → (is_ok x ≡ true) × (y ≡ Ok b)
both (Ok a) y e = (refl, e)
both (Err r) y e = absurd (clash (cc))

-- a test that tells nothing else
pub passes : (x : Result Unit Refusal) → is_ok x ≡ true → x ≡ Ok tt
passes (Ok u) e = refl
passes (Err r) e = absurd (clash (cc))

-- what a way asks before the permit: the sender, and room for its bytes
pub record Asks (way : Way) : Type 0 where
  pub sender : (k : Call) → way.own k.sender k.channel k.cargo (length k.out) ≡ Ok tt → judge_send k.sender k.channel (length k.cargo) (length k.out) ≡ Ok tt
  pub room : (k : Call) → way.own k.sender k.channel k.cargo (length k.out) ≡ Ok tt → length (way.bytes k.sender k.channel k.cargo) ≤ length k.out

pub transfers_ask : Asks transfers
transfers_ask =
    record {
      sender = λ k e. e;
      room = λ k e.
          let t = transfer_length k.sender k.channel k.cargo k.out e in
          let r = (coming k.sender k.channel (length k.cargo) (length k.out) e refl refl).roomy in
          omega arith;
    }

-- the message is written, where the writer is asked
message_fits : (t : List ℕ) (room : ℕ) (x : Result ℕ Refusal) → write_answer 1 t room ≡ x → is_ok x ≡ true → written_length t ≤ room
message_fits t room (Ok n) p e = (writable 1 t room n p).fits
message_fits t room (Err r) p e = absurd (clash (cc))

pub messages_ask : Asks messages
messages_ask =
    record {
      sender = λ k e. passes _ (both _ _ e).0;
      room = λ k e.
          let t = transfer_at k.sender k.channel k.cargo in
          let n = message_length 1 t (omega arith) in
          let j = judge_send k.sender k.channel (length k.cargo) (length k.out) in
          let w = write_answer 1 t (length k.out) in
          let r = message_fits t (length k.out) w refl (both w (Ok tt) (both j (result_and w (Ok tt)) e).1).0 in
          omega arith;
    }

-- ---- what is asked, by the answer

abbrev asked_of : Way → Option Permit → Call → Result Unit Refusal
asked_of way held k = asked way held k.sender k.channel k.cargo (length k.out) k.clock k.timeout

abbrev own_of : Way → Call → Result Unit Refusal
own_of way k = way.own k.sender k.channel k.cargo (length k.out)

asked_ok : (way : Way) (held : Option Permit) (k : Call) → is_ok (answer_to way held k) ≡ true → asked_of way held k ≡ Ok tt
asked_ok way held k e = go (asked_of way held k) refl e
  where
    go : (x : Result Unit Refusal) → asked_of way held k ≡ x → is_ok {T = Allowed} {E = Refusal} (result_and x (Ok (written way k.sender k.channel k.cargo))) ≡ true → asked_of way held k ≡ Ok tt
    go (Ok u) p q = p
    go (Err r) p q = absurd (clash (cc))

-- ---- more room

more_refusal : (less more came l clock timeout : ℕ) → less ≤ more → refusal (Some (permits.granted less came)) l clock timeout ≡ Ok tt
    → refusal (Some (permits.granted more came)) l clock timeout ≡ Ok tt
unfolding refusal
more_refusal less more came l clock timeout h e =
    let u = skip (ended came clock timeout) (Err EndedPermit) _ (Ok tt) (no_ok EndedPermit tt) e in
    let v = skip (ltb less l) (Err SmallPermit) (Ok tt) (Ok tt) (no_ok SmallPermit tt) u.1 in
    let w = ltb-false less l v.0 in
    simp (u.0, le-ltb more l (omega arith))

pub more_room : (way : Way) → MoreRoom way
more_room way less more came k h e =
    let z = asked_ok way (Some (permits.granted less came)) k e in
    let b = both (own_of way k) _ z in
    let o = passes (own_of way k) b.0 in
    let y : asked_of way (Some (permits.granted more came)) k ≡ Ok tt = rw o (more_refusal less more came (header_at k.sender k.channel (length k.cargo)).length k.clock k.timeout h b.1) in
    let u = granted way (Some (permits.granted less came)) k.sender k.channel k.cargo k.out k.clock k.timeout z in
    let v = granted way (Some (permits.granted more came)) k.sender k.channel k.cargo k.out k.clock k.timeout y in
    (sym v.0 ∙ u.0, sym v.1 ∙ u.1)

-- ---- refused, or written

pub refused_untouched : (way : Way) → RefusedUntouched way
refused_untouched way held k e = go (asked_of way held k) refl e
  where
    go : (x : Result Unit Refusal) → asked_of way held k ≡ x → is_ok {T = Allowed} {E = Refusal} (result_and x (Ok (written way k.sender k.channel k.cargo))) ≡ false → Untouched way held k
    go (Ok u) p q = absurd (clash (cc))
    go (Err r) p q =
        let n = refused way held k.sender k.channel k.cargo k.out k.clock k.timeout p in
        record { sender = ap (sender_after k.sender) (sym n.0); permit = ap (permit_after held) (sym n.0); written = ap written_in (sym n.0); output = sym n.1 }

pub written_as_plain : (way : Way) → Asks way → WrittenAsPlain way
written_as_plain way A held k e =
    let z = asked_ok way held k e in
    let b = both (own_of way k) _ z in
    let o = passes (own_of way k) b.0 in
    let own = A.sender k o in
    let bytes = way.bytes k.sender k.channel k.cargo in
    let g = granted way held k.sender k.channel k.cargo k.out k.clock k.timeout z in
    let n : written_in (answer_to way held k) ≡ length bytes = ap written_in (sym g.0) in
    let t : output_of way held k ≡ bytes ++ drop (length bytes) k.out = sym g.1 in
    let r = A.room k o in
    record {
      own = own;
      allowed = b.1;
      sender = ap (sender_after k.sender) (sym g.0) ∙ rw (sent_is k.sender k.channel k.cargo k.out own);
      permit = ap (permit_after held) (sym g.0);
      front = rw (n, t) (take_at bytes (drop (length bytes) k.out) (length bytes) refl);
      behind = rw (n, t) (drop_at bytes (drop (length bytes) k.out) (length bytes) refl);
      size = ap length t ∙ length-append bytes (drop (length bytes) k.out) ∙ simp length-drop (omega arith);
    }

pub none_held : (way : Way) → NoneHeld way
unfolding refusal
none_held way k e = rw e

-- ---- the message's output

pub always_enough : AlwaysEnough
unfolding write_answer
always_enough k e h =
    let t = transfer_length k.sender k.channel k.cargo k.out e in
    let c = transfer_at k.sender k.channel k.cargo in
    let m = count_by-le-length special c in
    let n : written_length c ≤ length k.out = omega arith in
    simp (e, le-ltb (length k.out) (written_length c) n)
