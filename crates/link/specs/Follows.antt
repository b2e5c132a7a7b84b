-- What follows from demand 3: channel by channel, and on a wire that does nothing.
use Rattle.std.specs.Prelude.{ℕ, ◌<◌, cond, List, [], ◌∷◌, ◌++◌, ◌≡◌, eqb}
use Rattle.receiver.specs.State.{channel_at}
use Rattle.link.specs.Run.{Setup, Cargo, Shipment, Hear, outcome, finished}
use Rattle.link.specs.Demand.{longest, wanted, Assumed}

-- of these, those on channel c
unfoldable pub cargoes_on : (c : ℕ) (xs : List Cargo) → List Cargo
cargoes_on c [] = []
cargoes_on c (x ∷ xs) = cond (eqb x.channel c) (x ∷ []) [] ++ cargoes_on c xs

unfoldable pub shipments_on : (c : ℕ) (xs : List Shipment) → List Shipment
shipments_on c [] = []
shipments_on c (x ∷ xs) = cond (eqb x.cargo.channel c) (x ∷ []) [] ++ shipments_on c xs

-- a channel's delivered cargoes are those of its own that were to be, in the order in which they were sent on it
abbrev pub ByChannel : Hear → Type 0
ByChannel hear = (g : Setup) (buffer out : List ℕ) (xs : List Shipment) → Assumed longest g buffer out xs
    → (c : ℕ) → cargoes_on c (outcome hear g buffer out xs).got ≡ wanted g.largest (shipments_on c xs)

-- every transfer that was sent arrived, once
unfoldable pub Once : (fates : List ℕ) → Type 0
Once [] = Unit
Once (fate ∷ fates) = (fate ≡ 1) × Once fates

unfoldable pub AllOnce : (xs : List Shipment) → Type 0
AllOnce [] = Unit
AllOnce (x ∷ xs) = Once x.fates × AllOnce xs

-- the finished cargoes
unfoldable pub finished_of : (largest : ℕ) (xs : List Shipment) → List Cargo
finished_of largest [] = []
finished_of largest (x ∷ xs) = cond (finished largest x) (x.cargo ∷ []) [] ++ finished_of largest xs

pub record AllDelivered (hear : Hear) (g : Setup) (buffer out : List ℕ) (xs : List Shipment) : Type 0 where
  pub delivered : (outcome hear g buffer out xs).got ≡ finished_of g.largest xs
  pub missing : (c : ℕ) → c < g.settings.count → (channel_at (outcome hear g buffer out xs).receiver c).missing ≡ 0
  pub repeats : (c : ℕ) → c < g.settings.count → (channel_at (outcome hear g buffer out xs).receiver c).repeats ≡ 0

-- with nothing lost and nothing repeated, everything finished is delivered and both counts are 0
abbrev pub OnCleanWire : Hear → Type 0
OnCleanWire hear = (g : Setup) (buffer out : List ℕ) (xs : List Shipment) → Assumed longest g buffer out xs → AllOnce xs
    → AllDelivered hear g buffer out xs
