-- "if fewer than 2,147,483,648 turns pass between accepted cargoes it is exact from the first to the last, lost ones
-- included" (document 02, request 9).
use Rattle.std.specs.Prelude.{ℕ, ◌-◌, ◌*◌, ◌/◌, ◌%◌, ◌≤◌, ◌<◌, Bool, true, false, cond, List, [], ◌∷◌, ◌++◌, ◌≡◌, Result, Ok}
use Rattle.link.specs.Run.{Cargo}
use Rattle.odometer.specs.declared.Odometer.{Odometer}
use Rattle.odometer.specs.declared.outcomes.Outcome.{Outcome}
use Rattle.odometer.specs.declared.outcomes.Outcome.TheVariants.{Passed, Base, Advanced, Refused}
use Rattle.refusals.specs.declared.Refusal.{Refusal}
use Rattle.odometer.specs.Odometer.{in_range, fresh_odometer, half_round, fits, hear, distance_of}

-- ---- what is sent, and heard

-- the wheel's true turns so far, or a cargo on another channel; and what becomes of it
pub data Sent (F : Type 0) : Type 0 where
  total : (turns : ℕ) (fate : F) → Sent F
  other : (cargo : Cargo) (fate : F) → Sent F

-- "five bytes: kind 1, then the running turn total in 32 bits, low byte first"
abbrev pub total_bytes : ℕ → List ℕ
total_bytes turns = 1 ∷ turns % 256 ∷ turns / 256 % 256 ∷ turns / 65536 % 256 ∷ turns / 16777216 % 256 ∷ []

abbrev pub cargo_of : {F : Type 0} → ℕ → Sent F → Cargo
cargo_of channel (total turns fate) = record { channel = channel; bytes = total_bytes turns }
cargo_of channel (other cargo fate) = cargo

abbrev pub fate_of : {F : Type 0} → Sent F → F
fate_of (total turns fate) = fate
fate_of (other cargo fate) = fate

abbrev pub turns_of : {F : Type 0} → Sent F → List ℕ
turns_of (total turns fate) = turns ∷ []
turns_of (other cargo fate) = []

-- an odometer hears what arrives; "lost ones included"
unfoldable pub hears : Odometer → List (Sent Bool) → Odometer
hears o [] = o
hears o (s ∷ ss) =
    let x = cargo_of o.channel s in
    hears (cond (fate_of s) (hear o x.channel x.bytes).odometer o) ss

-- the true turns of the totals that arrive
unfoldable pub arrived : List (Sent Bool) → List ℕ
arrived [] = []
arrived (s ∷ ss) = cond (fate_of s) (turns_of s) [] ++ arrived ss

-- and of those that are accepted
abbrev pub accepts : Outcome → Bool
accepts Passed = false
accepts Base = true
accepts (Advanced turns) = true
accepts (Refused refusal) = false

unfoldable pub accepted_by : Odometer → List (Sent Bool) → List ℕ
accepted_by o [] = []
accepted_by o (s ∷ ss) =
    let x = cargo_of o.channel s in
    let h = hear o x.channel x.bytes in
    cond (fate_of s) (cond (accepts h.outcome) (turns_of s) [] ++ accepted_by h.odometer ss) (accepted_by o ss)

-- ---- what is assumed

-- the wheel never turns back
unfoldable pub Rising : {F : Type 0} → ℕ → List (Sent F) → Type 0
Rising from [] = Unit
Rising from (total turns fate ∷ ss) = (from ≤ turns) × Rising turns ss
Rising from (other cargo fate ∷ ss) = Rising from ss

-- "Other channels"
unfoldable pub Apart : {F : Type 0} → ℕ → List (Sent F) → Type 0
Apart channel [] = Unit
Apart channel (total turns fate ∷ ss) = Apart channel ss
Apart channel (other cargo fate ∷ ss) = (cargo.channel ≡ channel → ⊥) × Apart channel ss

-- "fewer than 2,147,483,648 turns pass between" one and the next
unfoldable pub NearTo : ℕ → List ℕ → Type 0
NearTo from [] = Unit
NearTo from (n ∷ ns) = (n - from < half_round) × NearTo n ns

abbrev pub Near : List ℕ → Type 0
Near [] = Unit
Near (n ∷ ns) = NearTo n ns

-- ---- what is concluded

-- "from the first to the last"
abbrev pub last_of : ℕ → List ℕ → ℕ
last_of n [] = n
last_of n (m ∷ ms) = last_of m ms

abbrev pub span : List ℕ → ℕ
span [] = 0
span (n ∷ ns) = last_of n ns - n

abbrev pub shows : ℕ → Result ℕ Refusal
shows millimetres = Ok millimetres

abbrev pub Exact : Type 0
Exact =
    (channel circumference : ℕ) (ss : List (Sent Bool)) → in_range circumference ≡ true → Rising 0 ss → Apart channel ss
    → let o = fresh_odometer channel circumference in
    Near (accepted_by o ss) → distance_of (hears o ss) ≡ shows (span (accepted_by o ss) * circumference)

-- and all that arrive are accepted, where so few turns pass between these, as long as 64 bits hold the distance
abbrev pub AllAccepted : Type 0
AllAccepted =
    (channel circumference : ℕ) (ss : List (Sent Bool)) → in_range circumference ≡ true → Rising 0 ss → Apart channel ss
    → Near (arrived ss) → fits (span (arrived ss) * circumference) ≡ true
    → accepted_by (fresh_odometer channel circumference) ss ≡ arrived ss

-- "Other channels are passed over unchanged": without them all is the same
unfoldable pub totals_only : {F : Type 0} → List (Sent F) → List (Sent F)
totals_only [] = []
totals_only (total turns fate ∷ ss) = total turns fate ∷ totals_only ss
totals_only (other cargo fate ∷ ss) = totals_only ss

abbrev pub OthersNothing : Type 0
OthersNothing = (o : Odometer) (ss : List (Sent Bool)) → Apart o.channel ss → hears o ss ≡ hears o (totals_only ss)
