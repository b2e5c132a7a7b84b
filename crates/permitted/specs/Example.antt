-- A run under permits in which 43, 44 and 45 come up: P1's cargo, with a timeout of 50 ms.
use Rattle.std.specs.Prelude.{ℕ, List, [], ◌∷◌, ◌≡◌, replicate}
use Rattle.refusals.specs.Number.{number_in}
use Rattle.link.specs.Run.{Setup, Cargo}
use Rattle.listener.specs.declared.News.TheVariants.{Query, Notice}
use Rattle.permit.specs.Send.{Way}
use Rattle.permitted.specs.Run.{Hearing, Try, Attempt, Host, answer_at, try_one, fresh, plainly}

abbrev pub setup : Setup
setup = record { settings = record { limit = 32766; count = 4 }; largest = 8 }

abbrev pub cargo : Cargo
cargo = record { channel = 3; bytes = 65 ∷ 66 ∷ 67 ∷ 68 ∷ 69 ∷ 70 ∷ 71 ∷ 72 ∷ 73 ∷ 74 ∷ [] }

-- a Notification of this many bytes at this clock
abbrev pub notice : ℕ → ℕ → List Hearing
notice room clock = record { news = Notice room; clock = clock } ∷ []

abbrev pub at : ℕ → List Hearing → Try
at clock heard = record { heard = heard; clock = clock; timeout = 50; fate = 1 }

abbrev pub attempt : Attempt
attempt =
    record {
      cargo = cargo;
      tries =
          at 1000 []
          ∷ at 1000 (notice 13 1000)
          ∷ at 1052 (notice 14 1001)
          -- the clock is set back, and the same permit is judged anew
          ∷ at 1051 (record { news = Query; clock = 1051 } ∷ [])
          ∷ at 1051 []
          ∷ at 1060 (notice 10 1060)
          ∷ at 1070 (notice 6 1070)
          ∷ [];
    }

-- the answers' numbers
unfoldable pub answers : Way → Cargo → List Try → Host → List ℕ
answers way x [] h = []
answers way x (t ∷ ts) h = number_in (answer_at way x t h) ∷ answers way x ts (try_one way x t h)

abbrev pub output : List ℕ
output = replicate 19 0

-- in either way, and three transfers are written
pub record Runs (way : Way) : Type 0 where
  pub numbers : answers way cargo attempt.tries (fresh setup output) ≡ 43 ∷ 44 ∷ 45 ∷ 0 ∷ 43 ∷ 0 ∷ 0 ∷ []
  pub written : plainly way setup output (attempt ∷ []) ≡ record { cargo = cargo; fates = 1 ∷ 1 ∷ 1 ∷ [] } ∷ []
