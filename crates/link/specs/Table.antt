-- P1 to P12 of document 01 ("Both sides of each line"): one table of inputs and expected results.
use Rattle.std.specs.Prelude.{ℕ, ◌-◌, false, List, [], ◌∷◌, map, ◌≡◌, length, replicate}
use Rattle.verdict.specs.declared.answers.Answer.{Answer}
use Rattle.verdict.specs.declared.answers.Kind.TheVariants.{Delivered, Part, Null}
use Rattle.verdict.specs.Answer.{tell, refusal}
use Rattle.verdict.specs.Judge.{settings_of}
use Rattle.receiver.specs.declared.Receiver.{Receiver}
use Rattle.receiver.specs.State.{fresh_receiver}
use Rattle.receiver.specs.Take.{receive}
use Rattle.sender.specs.State.{fresh_sender}
use Rattle.sender.specs.Whole.{calls, calls_for}

-- a cargo for a fresh sender with this largest transfer, or transfers for a fresh receiver;
-- both with limit 32,766 and 32 channels
pub data Given : Type 0 where
  sends : (largest channel : ℕ) (cargo : List ℕ) → Given
  takes : (transfers : List (List ℕ)) → Given

-- the transfers that the sender's calls write, or the receiver's answers
pub data Effect : Type 0 where
  writes : List (List ℕ) → Effect
  tells : List Answer → Effect

abbrev pub answers : (r : Receiver) (transfers : List (List ℕ)) → List Answer
answers r [] = []
answers r (t ∷ ts) = let a = receive r t (r.settings.limit - 4) in a.answer ∷ answers a.receiver ts

abbrev pub effect_of : Given → Effect
effect_of (sends largest channel cargo) =
    let s = fresh_sender (settings_of 32766 32) largest in
    writes (calls (calls_for largest (length cargo)) s channel cargo (replicate largest 0)).transfers
effect_of (takes ts) = tells (answers (fresh_receiver (settings_of 32766 32)) ts)

-- the cases that occur, besides refusals before the gap step: delivered or taken as a part after this gap, and null;
-- nothing is dropped in any
abbrev pub delivers : (channel len gap : ℕ) → Answer
delivers channel len gap = tell (Delivered channel len) 0 gap false

abbrev pub keeps : (gap : ℕ) → Answer
keeps gap = tell Part 0 gap false

abbrev pub passes : Answer
passes = tell Null 0 0 false

-- a cargo of one byte on channel 31, the last, in a transfer with this number
abbrev pub numbered : (n : ℕ) → List ℕ
numbered n = 0x05 ∷ 0x00 ∷ 0x1F ∷ n ∷ 0x41 ∷ []

pub record Row : Type 0 where
  pub p : ℕ
  pub given : Given
  pub expected : Effect

abbrev pub row : (p : ℕ) (given : Given) (expected : Effect) → Row
row p given expected = record { p = p; given = given; expected = expected }

abbrev pub table : List Row
table =
    row 1 (sends 8 3 (0x41 ∷ 0x42 ∷ 0x43 ∷ 0x44 ∷ 0x45 ∷ 0x46 ∷ 0x47 ∷ 0x48 ∷ 0x49 ∷ 0x4A ∷ []))
    (writes (
    (0x0E ∷ 0x00 ∷ 0x03 ∷ 0x00 ∷ 0x41 ∷ 0x42 ∷ 0x43 ∷ 0x44 ∷ [])
    ∷ (0x0A ∷ 0x80 ∷ 0x03 ∷ 0x01 ∷ 0x45 ∷ 0x46 ∷ 0x47 ∷ 0x48 ∷ [])
    ∷ (0x06 ∷ 0x80 ∷ 0x03 ∷ 0x02 ∷ 0x49 ∷ 0x4A ∷ [])
    ∷ []
    ))
    ∷ row 2 (takes ((0x04 ∷ 0x00 ∷ 0x02 ∷ 0x00 ∷ []) ∷ [])) (tells (refusal 4 ∷ []))
    ∷ row 3 (takes ((0x05 ∷ 0x00 ∷ 0x02 ∷ 0x00 ∷ 0x41 ∷ []) ∷ [])) (tells (delivers 2 1 0 ∷ []))
    ∷ row 4 (takes ((0xFE ∷ 0x7F ∷ 0x02 ∷ 0x00 ∷ []) ∷ [])) (tells (keeps 0 ∷ []))
    ∷ row 4 (takes ((0xFE ∷ 0x7F ∷ 0x02 ∷ 0x00 ∷ replicate 32762 0x41) ∷ [])) (tells (delivers 2 32762 0 ∷ []))
    ∷ row 5 (takes ((0xFF ∷ 0x7F ∷ 0x02 ∷ 0x00 ∷ []) ∷ (0xFF ∷ 0xFF ∷ 0x02 ∷ 0x00 ∷ []) ∷ []))
    (tells (refusal 22 ∷ refusal 22 ∷ []))
    ∷ row 6 (takes ((0x00 ∷ 0x00 ∷ 0x00 ∷ []) ∷ [])) (tells (refusal 2 ∷ []))
    ∷ row 7 (takes ((0x00 ∷ 0x00 ∷ 0x00 ∷ 0x00 ∷ []) ∷ [])) (tells (passes ∷ []))
    ∷ row 8 (takes ((0x06 ∷ 0x00 ∷ 0x02 ∷ 0x00 ∷ []) ∷ (0x06 ∷ 0x80 ∷ 0x02 ∷ 0x01 ∷ 0x41 ∷ 0x42 ∷ []) ∷ []))
    (tells (keeps 0 ∷ delivers 2 2 0 ∷ []))
    ∷ row 9 (takes (numbered 9 ∷ numbered 8 ∷ [])) (tells (delivers 31 1 9 ∷ delivers 31 1 254 ∷ []))
    ∷ row 10 (takes (numbered 9 ∷ numbered 9 ∷ [])) (tells (delivers 31 1 9 ∷ refusal 20 ∷ []))
    ∷ row 11 (takes (numbered 255 ∷ numbered 0 ∷ [])) (tells (delivers 31 1 255 ∷ delivers 31 1 0 ∷ []))
    ∷ row 12 (takes (numbered 255 ∷ [])) (tells (delivers 31 1 255 ∷ []))
    ∷ []

-- every row: the definitions give what is expected
abbrev pub TableHolds : Type 0
TableHolds = map (λ (x : Row). effect_of x.given) table ≡ map (λ (x : Row). x.expected) table
