-- An advertisement opened once and stepped n times hands out the n-th answer of the plain walk.
use mathlib.Core.Path.{◌≡◌, refl, ap, ◌∙◌}
use mathlib.Core.List.{List}
use Prim.Native.Nat.{ℕ, zero, suc, ◌+◌, ◌≤◌}
use native.Mathlib.Omega.{arith}
use lib.ListN.{length, get_or}
use denote.Ref.{Bor}
use Rattle.std.specs.Prelude.{None, Some, Ok, Err}
use Rattle.advert.specs.Entry.{EntryAnswer, entry_at}
use Rattle.advert.specs.Walk.{place_after, next_place, goes_on, ends_with, entries_by, end_by, walk_answer}
use Rattle.opened.specs.Opened.{opened, answer_of, stepped_by}
use Rattle.advert.proofs.Inside.{inside, past}

-- the place after n answers
abbrev place_by : ℕ → List ℕ → ℕ → ℕ
place_by zero cargo place = place
place_by (suc n) cargo place = place_by n cargo (next_place cargo place)

-- an answer after which the place stays is given again and again
stays : (n : ℕ) (cargo : List ℕ) (place : ℕ) (e : EntryAnswer) → entry_at cargo place ≡ e → place_after e place ≡ place → entry_at cargo (place_by n cargo place) ≡ e
stays zero cargo place e q s = q
stays (suc n) cargo place e q s = ap (λ (p : ℕ). entry_at cargo (place_by n cargo p)) (ap (λ (x : EntryAnswer). place_after x place) q ∙ s) ∙ stays n cargo place e q s

-- one turn, by the answer e at the place; rest is the walk of at most `most` entries behind it
by_answer : (most : ℕ) (cargo : List ℕ) (place : ℕ) → length cargo ≤ place + suc most
    → ((place n : ℕ) → length cargo ≤ place + most → entry_at cargo (place_by n cargo place) ≡ get_or (entries_by most cargo place) n (end_by most cargo place))
    → (e : EntryAnswer) → entry_at cargo place ≡ e → (n : ℕ)
    → entry_at cargo (place_by n cargo place) ≡ get_or (goes_on e (entries_by most cargo (place_after e place))) n (ends_with e (end_by most cargo (place_after e place)))
by_answer most cargo place h rest (Ok (Some entry)) q zero = q
by_answer most cargo place h rest (Ok (Some entry)) q (suc n) =
    let behind = inside cargo place entry q in
    ap (λ (x : EntryAnswer). entry_at cargo (place_by n cargo (place_after x place))) q ∙ rest entry.next n (omega (arith, behind.end))
by_answer most cargo place h rest (Ok None) q n = stays n cargo place (Ok None) q refl
by_answer most cargo place h rest (Err refusal) q n = stays n cargo place (Err refusal) q refl

answers_by : (most : ℕ) (cargo : List ℕ) (place n : ℕ) → length cargo ≤ place + most → entry_at cargo (place_by n cargo place) ≡ get_or (entries_by most cargo place) n (end_by most cargo place)
answers_by zero cargo place n h = stays n cargo place (Ok None) (past cargo place (omega arith)) refl
answers_by (suc most) cargo place n h = by_answer most cargo place h (λ p m l. answers_by most cargo p m l) (entry_at cargo place) refl n

-- its steps keep its cargo, and its place is the plain walk's
steps : (n : ℕ) (cargo : Bor (List ℕ)) (place : ℕ) → stepped_by n (opened cargo place) ≡ opened cargo (place_by n cargo.now place)
steps zero cargo place = refl
steps (suc n) cargo place = steps n cargo (next_place cargo.now place)

pub in_turn : (n : ℕ) (cargo : Bor (List ℕ)) (place : ℕ) → answer_of (stepped_by n (opened cargo place)) ≡ walk_answer cargo.now place n
in_turn n cargo place = ap answer_of (steps n cargo place) ∙ answers_by (length cargo.now) cargo.now place n (omega arith)
