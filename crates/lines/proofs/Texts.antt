-- Texts one behind the other, at the front of a buffer.
use Rattle.std.proofs.Common.{◌≡◌, ℕ, ◌+◌, ◌-◌, ◌≤◌, ◌<◌, List, [], ◌∷◌, ◌++◌, append_assoc, add-one, length, take, arith}
use Rattle.std.specs.Prelude.{Option, None, Some}
use borrow.Rule.Slice.PartMut.{put_mid, Post-is}
use lib.ListN.{set}
use lib.Seq.{paste, take-suc-set, take-paste, take-length, length-paste}
use Rattle.fields.specs.declared.Event.{Event}
use Rattle.fields.specs.declared.Event.TheVariants.{Cargo, Part, Null, Query, Notice, Refused}
use Rattle.lines.specs.Line.{name_of, or_dash}
use Rattle.lines.proofs.Numbers.{decimal_short}

-- the part that was copied to is a paste
pasted : (d text x : List ℕ) (at : ℕ) → at + length text ≤ length d → x ≡ text
    → put_mid at (at + length text - at) d x ≡ paste d at text (length text)
pasted d text x at room e = rw (e, Post-is at (at + length text) d (omega arith), take-length text) (simp append_assoc)

-- a text x was copied behind the first `at` bytes, and the byte `end` stored behind it
pub put_behind : (d text x : List ℕ) (end at : ℕ) → at + length text < length d → x ≡ text
    → take (at + length text + 1) (set (put_mid at (at + length text - at) d x) (at + length text) end) ≡ take at d ++ (text ++ end ∷ [])
put_behind d text x end at room e =
    let p = pasted d text x at (omega arith) e in
    let l : length (paste d at text (length text)) ≡ length d = length-paste d at text (length text) (omega arith) (omega arith) in
    rw (p, add-one, take-suc-set (paste d at text (length text)) (at + length text) end (omega arith), take-paste d at text (length text) (omega arith) (omega arith), take-length, append_assoc)

pub name_short : (event : Event) → length (name_of event) ≤ 7
name_short Cargo = omega arith
name_short Part = omega arith
name_short Null = omega arith
name_short Query = omega arith
name_short Notice = omega arith
name_short Refused = omega arith

pub dash_short : (number : Option ℕ) → length (or_dash number) ≤ 20
dash_short None = omega arith
dash_short (Some n) = decimal_short n
