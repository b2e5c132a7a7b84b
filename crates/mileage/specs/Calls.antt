-- "It never falls" (document 02, request 9), over any sequence of calls.
use Rattle.std.specs.Prelude.{ℕ, ◌≤◌, true, List, [], ◌∷◌, ◌≡◌, is_ok}
use Rattle.std.specs.Result.{result_unwrap_or}
use Rattle.verdict.specs.declared.answers.Answer.{Answer}
use Rattle.odometer.specs.declared.Odometer.{Odometer}
use Rattle.odometer.specs.Odometer.{hear, hear_answer, distance_of}

-- the calls that give back an odometer
pub data Call : Type 0 where
  cargo : (channel : ℕ) (bytes : List ℕ) → Call
  answer : (a : Answer) (buffer : List ℕ) → Call

abbrev pub called : Odometer → Call → Odometer
called o (cargo channel bytes) = (hear o channel bytes).odometer
called o (answer a buffer) = (hear_answer o a buffer).odometer

unfoldable pub called_all : Odometer → List Call → Odometer
called_all o [] = o
called_all o (x ∷ xs) = called_all (called o x) xs

-- the later odometer tells a distance too, and no less
pub record NoLess (earlier later : Odometer) : Type 0 where
  pub told : is_ok (distance_of later) ≡ true
  pub far : result_unwrap_or (distance_of earlier) 0 ≤ result_unwrap_or (distance_of later) 0

abbrev pub NeverFalls : Type 0
NeverFalls = (o : Odometer) (xs : List Call) → is_ok (distance_of o) ≡ true → NoLess o (called_all o xs)
