-- What an answer tells (document 01, "The receiver", "Answer numbers").
use Rattle.std.specs.Prelude.{ℕ, ◌≡◌, Bool, false, cond, List, leb, length, take}
use Rattle.std.specs.Borrow.{Bor}
use Rattle.refusals.specs.declared.Refusal.{Refusal}
use Rattle.refusals.specs.Number.{number_of}
use Rattle.verdict.specs.declared.answers.Answer.{Answer}
use Rattle.verdict.specs.declared.answers.Kind.{Kind}
use Rattle.verdict.specs.declared.answers.Kind.TheVariants.{Delivered, Part, Null, Refused}

-- "Every answer tells its kind, number, gap (0 unless the gap step was reached) and whether a cargo was dropped."
abbrev pub tell : (kind : Kind) (number gap : ℕ) (dropped : Bool) → Answer
tell kind number gap dropped = record { kind = kind; number = number; gap = gap; dropped = dropped }

abbrev pub refusal : (number : ℕ) → Answer
refusal number = tell Refused number 0 false

-- a refusal before the gap step
abbrev pub refused : Refusal → Answer
refused r = refusal (number_of r)

-- how many of the buffer's first bytes are the delivered cargo:
-- none for another kind, or where the buffer is shorter than the cargo
abbrev pub delivered_bytes : Kind → (room : ℕ) → ℕ
delivered_bytes (Delivered channel len) room = cond (leb len room) len 0
delivered_bytes Part room = 0
delivered_bytes Null room = 0
delivered_bytes Refused room = 0

-- r is that part of the buffer: its bytes, and the very place in memory, where the buffer begins
pub record IsDelivered (answer : Answer) (cargo : Bor (List ℕ)) (r : Bor (List ℕ)) : Type 0 where
  pub bytes : r.now ≡ take (delivered_bytes answer.kind (length cargo.now)) cargo.now
  pub place : r.ref_ptr ≡ cargo.ref_ptr
