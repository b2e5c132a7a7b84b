-- What a reader tells of the bytes of a stream: one by one, and over slices however the stream is cut.
use Rattle.std.specs.Prelude.{ℕ, zero, suc, List, [], ◌∷◌, ◌++◌, cond, ltb, length}
use Rattle.reader.specs.declared.Event.{Event}
use Rattle.reader.specs.declared.Event.TheVariants as events
use Rattle.reader.specs.declared.Reader.{Reader}
use Rattle.reader.specs.declared.Stepped.{Stepped}
use Rattle.reader.specs.Reader.{step_of, buffer_after}
use Rattle.reader.specs.Run.{read_from}
use Rattle.listener.specs.Listen.{payload_of}
use Rattle.messages.specs.Messages.{Said, transfer, query, notice, refused}

-- what was told of some bytes, and the reader and the lent buffer behind them
pub record Reading : Type 0 where
  pub said : List Said
  pub reader : Reader
  pub buffer : List ℕ

abbrev pub unread : Reader → List ℕ → Reading
unread r buf = record { said = []; reader = r; buffer = buf }

-- an event, before what is told later; a transfer's payload is read off the lent buffer
unfoldable pub heard : Event → List ℕ → List Said → List Said
heard events.Nothing buf later = later
heard (events.Message n) buf later = transfer (payload_of n buf) ∷ later
heard events.Query buf later = query ∷ later
heard (events.Notice room) buf later = notice room ∷ later
heard (events.Refused refusal) buf later = refused refusal ∷ later

abbrev pub before : Event → List ℕ → Reading → Reading
before event buf y = record { said = heard event buf y.said; reader = y.reader; buffer = y.buffer }

-- ---- byte by byte, by a rule for one byte (ours is `step_of`)

abbrev pub Rule : Type 0
Rule = Reader → ℕ → List ℕ → Stepped

unfoldable pub read_by : Rule → Reader → List ℕ → List ℕ → Reading
read_by step r [] buf = unread r buf
read_by step r (b ∷ bs) buf =
    let s = step r b buf in
    let after = buffer_after r b buf in
    before s.event after (read_by step s.reader bs after)

abbrev pub tells : Reader → List ℕ → List ℕ → List Said
tells r bytes buf = (read_by step_of r bytes buf).said

-- ---- over slices

-- `read`, called again and again from its next place on, until the slice ends: at most n calls
unfoldable pub read_slice : ℕ → Reader → List ℕ → ℕ → List ℕ → Reading
read_slice zero r input from buf = unread r buf
read_slice (suc n) r input from buf =
    let x = read_from r input from buf in
    cond (ltb from (length input))
    (before x.answer.event x.buffer (read_slice n x.answer.reader input x.answer.next x.buffer))
    (unread r buf)

-- one part of a stream behind another
abbrev pub behind : Reading → Reading → Reading
behind x y = record { said = x.said ++ y.said; reader = y.reader; buffer = y.buffer }

-- each call takes a byte or more, so that a slice of n bytes needs no more than n calls
unfoldable pub read_slices : Reader → List (List ℕ) → List ℕ → Reading
read_slices r [] buf = unread r buf
read_slices r (s ∷ slices) buf =
    let x = read_slice (length s) r s 0 buf in
    behind x (read_slices x.reader slices x.buffer)
