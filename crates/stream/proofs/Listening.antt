-- Listening to any bytes, in slices cut anywhere, is hearing the transfers of their messages, one by one.
use Prim.Native.Nat.{ℕ, zero, suc, ◌-◌, ◌≤◌, ◌<◌}
use native.Mathlib.Omega.{arith}
use mathlib.Core.Bool.{Bool, true, false}
use mathlib.Core.List.{List, [], ◌∷◌, ◌++◌, append-nil, flat_map, flatten}
use mathlib.Core.Path.{◌≡◌, refl, sym, ◌∙◌, ap}
use lib.Dec.{ltb}
use lib.ListN.{length, drop, drop_of_length-le}
use borrow.Author.Tests.{ltb-true, ltb-false, lt-ltb, le-ltb}
use Rattle.link.specs.Run.{Cargo, World, receiving, arrive}
use Rattle.reader.specs.declared.Event.{Event}
use Rattle.reader.specs.declared.Event.TheVariants.{Nothing, Message, Query, Notice, Refused}
use Rattle.reader.specs.declared.Reader.{Reader}
use Rattle.reader.specs.Reader.{step_of}
use Rattle.reader.specs.Run.{read_from}
use Rattle.listener.specs.Listen.{payload_of, handed, cargo_handed}
use Rattle.reader.proofs.Onward.{onward}
use Rattle.messages.specs.Messages.{Said, transfer_of, transfers_in}
use Rattle.messages.specs.Tells.{Reading, heard, read_by}
use Rattle.messages.proofs.Cut.{cut, call_reads}
use Rattle.messages.proofs.Parts.{flat_append}
use Rattle.stream.specs.Stream.{Caller, handed_by, call, calls, calls_all}
use Rattle.stream.proofs.Arriving.{hear_all, hear_append}

-- a caller whose receiver, cargo buffer and cargoes are those of a world
abbrev pub caller : Reader → ℕ → List ℕ → World → Caller
caller r at m w = record { listener = record { reader = r; receiver = w.receiver }; message = m; buffer = w.buffer; at = at; got = w.got }

-- the world after an event, the message buffer being m
abbrev world_after : Event → List ℕ → World → World
world_after Nothing m w = w
world_after (Message n) m w = arrive receiving (payload_of n m) w
world_after Query m w = w
world_after (Notice room) m w = w
world_after (Refused refusal) m w = w

-- what the receiver makes of an event, and the caller of the news
abbrev got_by : Event → List ℕ → World → List Cargo
got_by event m w = w.got ++ handed_by (handed w.receiver event m (length w.buffer)).news (cargo_handed w.receiver event m w.buffer)

event_heard : (event : Event) (r : Reader) (at : ℕ) (m : List ℕ) (w : World)
    → record {
      listener = record { reader = r; receiver = (handed w.receiver event m (length w.buffer)).receiver };
      message = m;
      buffer = cargo_handed w.receiver event m w.buffer;
      at = at;
      got = got_by event m w;
    } ≡ caller r at m (world_after event m w)
unfolding handed cargo_handed arrive
event_heard Nothing r at m w = rw append-nil
event_heard (Message n) r at m w = refl
event_heard Query r at m w = rw append-nil
event_heard (Notice room) r at m w = rw append-nil
event_heard (Refused refusal) r at m w = rw append-nil

one_call : (input : List ℕ) (r : Reader) (at : ℕ) (m : List ℕ) (w : World)
    → (let x = read_from r input at m in call input (caller r at m w) ≡ caller x.answer.reader x.answer.next x.buffer (world_after x.answer.event x.buffer w))
unfolding call
one_call input r at m w = let x = read_from r input at m in event_heard x.answer.event x.answer.reader x.answer.next x.buffer w

-- the transfers from an event on
heard_first : (event : Event) (m : List ℕ) (later : List Said) (w : World)
    → hear_all receiving (transfers_in (heard event m later)) w ≡ hear_all receiving (transfers_in later) (world_after event m w)
unfolding heard flat_map hear_all
heard_first Nothing m later w = refl
heard_first (Message n) m later w = refl
heard_first Query m later w = refl
heard_first (Notice room) m later w = refl
heard_first (Refused refusal) m later w = refl

-- a call where bytes are left, and none where none are
calls_on : (n : ℕ) (input : List ℕ) (c : Caller) {c' : Caller} → c.at < length input → call input c ≡ c' → calls (suc n) input c ≡ calls n input c'
unfolding calls
calls_on n input c l e = simp (lt-ltb c.at (length input) l) (ap (calls n input) e)

calls_end : (n : ℕ) (input : List ℕ) (c : Caller) → length input ≤ c.at → calls n input c ≡ c
unfolding calls
calls_end zero input c l = refl
calls_end (suc n) input c l = simp (le-ltb c.at (length input) l)

-- a caller who has read some bytes, from a world w on, and heard their transfers
pub record Hears (c : Caller) (y : Reading) (w : World) : Type 0 where
  pub at : ℕ
  pub is : c ≡ caller y.reader at y.buffer (hear_all receiving (transfers_in y.said) w)

-- ---- a slice

module _ (input : List ℕ) where
  abbrev Listens : ℕ → Type 0
  Listens n = (r : Reader) (at : ℕ) (m : List ℕ) (w : World) → length input - at ≤ n → Hears (calls n input (caller r at m w)) (read_by step_of r (drop at input) m) w

  at_end_lem : (n : ℕ) (r : Reader) (at : ℕ) (m : List ℕ) (w : World) → length input ≤ at → Hears (calls n input (caller r at m w)) (read_by step_of r (drop at input) m) w
  unfolding read_by flat_map hear_all
  at_end_lem n r at m w l = rw (drop_of_length-le input {i = at} l) record { at = at; is = calls_end n input (caller r at m w) l }

  one_more : (n : ℕ) → Listens n → Listens (suc n)
  one_more n ih r at m w h = go (ltb at (length input)) refl
    where
      go : (t : Bool) → ltb at (length input) ≡ t → Hears (calls (suc n) input (caller r at m w)) (read_by step_of r (drop at input) m) w
      go true q =
          let l = ltb-true at (length input) q in
          let x = read_from r input at m in
          let on = onward r input at m l in
          let y = read_by step_of x.answer.reader (drop x.answer.next input) x.buffer in
          let H = ih x.answer.reader x.answer.next x.buffer (world_after x.answer.event x.buffer w) (omega arith) in
          rw (call_reads r input at m (omega arith))
          record {
            at = H.at;
            is =
                calls_on n input (caller r at m w) l (one_call input r at m w)
                ∙ H.is
                ∙ ap (caller y.reader H.at y.buffer) (sym (heard_first x.answer.event x.buffer y.said w));
          }
      go false q = at_end_lem (suc n) r at m w (ltb-false at (length input) q)

  listens : (n : ℕ) → Listens n
  listens zero r at m w h = at_end_lem zero r at m w (omega arith)
  listens (suc n) r at m w h = one_more n (listens n) r at m w h

-- ---- slice by slice

pub slices_heard : (slices : List (List ℕ)) (r : Reader) (at : ℕ) (m : List ℕ) (w : World) → Hears (calls_all slices (caller r at m w)) (read_by step_of r (flatten slices) m) w
unfolding calls_all flatten read_by hear_all flat_map
slices_heard [] r at m w = record { at = at; is = refl }
slices_heard (s ∷ slices) r at m w =
    let H = listens s (length s) r 0 m w (omega arith) in
    let x = read_by step_of r s m in
    let y = read_by step_of x.reader (flatten slices) x.buffer in
    let K = slices_heard slices x.reader H.at x.buffer (hear_all receiving (transfers_in x.said) w) in
    let both : hear_all receiving (transfers_in (x.said ++ y.said)) w ≡ hear_all receiving (transfers_in y.said) (hear_all receiving (transfers_in x.said) w)
    = ap (λ (ts : List (List ℕ)). hear_all receiving ts w) (flat_append transfer_of x.said y.said) ∙ hear_append receiving (transfers_in x.said) (transfers_in y.said) w in
    rw (cut step_of r s (flatten slices) m)
    record { at = K.at; is = ap (calls_all slices) H.is ∙ K.is ∙ ap (caller y.reader K.at y.buffer) (sym both) }
