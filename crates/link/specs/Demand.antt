-- Demand 3, stated: what the wire did in a run, what is assumed, and what is concluded.
-- The rest of what the demand assumes is how a run goes (Run.antt): the wire only loses a transfer or repeats it,
-- a cargo's bytes stay the same from call to call, one buffer is lent throughout, nobody else writes to it,
-- and counts are not cleared.
use Rattle.std.specs.Prelude.{ℕ, zero, suc, ◌+◌, ◌-◌, ◌%◌, ◌^◌, ◌≤◌, ◌<◌, Bool, true, false, cond, ◌&&◌, List, [], ◌∷◌, ◌++◌, ◌≡◌, eqb, length}
use Rattle.receiver.specs.State.{channel_at}
use Rattle.sender.specs.State.{fresh_sender, sound_sender}
use Rattle.sender.specs.Whole.{calls_for}
use Rattle.link.specs.Run.{Setup, Cargo, Shipment, Hear, finished, outcome}

-- ---- what the wire did

-- the fates of all transfers of channel c, in order
unfoldable pub fates_of : (c : ℕ) (xs : List Shipment) → List ℕ
fates_of c [] = []
fates_of c (x ∷ xs) = cond (eqb x.cargo.channel c) x.fates [] ++ fates_of c xs

-- "never more than 254 losses in a row of one channel"
abbrev pub longest : ℕ
longest = 254

-- no more than `most` losses in a row, where `before` went before these
unfoldable pub LossesUpTo : (most before : ℕ) (fates : List ℕ) → Type 0
LossesUpTo most before [] = Unit
LossesUpTo most before (zero ∷ fates) = (before < most) × LossesUpTo most (suc before) fates
LossesUpTo most before (suc k ∷ fates) = LossesUpTo most 0 fates

-- one of them arrived; every one did
unfoldable pub some : (fates : List ℕ) → Bool
some [] = false
some (zero ∷ fates) = some fates
some (suc k ∷ fates) = true

unfoldable pub every : (fates : List ℕ) → Bool
every [] = true
every (zero ∷ fates) = false
every (suc k ∷ fates) = every fates

-- "its losses before its last arrival"
unfoldable pub lost : (fates : List ℕ) → ℕ
lost [] = 0
lost (zero ∷ fates) = cond (some fates) (1 + lost fates) 0
lost (suc k ∷ fates) = lost fates

-- "its surplus copies"
unfoldable pub surplus : (fates : List ℕ) → ℕ
surplus [] = 0
surplus (zero ∷ fates) = surplus fates
surplus (suc k ∷ fates) = k + surplus fates

-- "exactly the finished cargoes whose every transfer arrived", "once each, in sending order, unaltered"
unfoldable pub all_arrived : (largest : ℕ) (x : Shipment) → Bool
all_arrived largest x = finished largest x && every x.fates

unfoldable pub wanted : (largest : ℕ) (xs : List Shipment) → List Cargo
wanted largest [] = []
wanted largest (x ∷ xs) = cond (all_arrived largest x) (x.cargo ∷ []) [] ++ wanted largest xs

-- ---- the demand

-- a cargo that the sender takes, and no more transfers of it than it has
pub record Sendable (g : Setup) (x : Shipment) : Type 0 where
  pub channel : x.cargo.channel < g.settings.count
  pub some_bytes : 1 ≤ length x.cargo.bytes
  pub few_bytes : length x.cargo.bytes ≤ g.settings.limit - 4
  pub transfers : length x.fates ≤ calls_for g.largest (length x.cargo.bytes)

unfoldable pub AllSendable : (g : Setup) (xs : List Shipment) → Type 0
AllSendable g [] = Unit
AllSendable g (x ∷ xs) = Sendable g x × AllSendable g xs

-- what is assumed, on a wire that may lose `most` transfers of a channel in a row
pub record Assumed (most : ℕ) (g : Setup) (buffer out : List ℕ) (xs : List Shipment) : Type 0 where
  -- the settings lie in range: with them a fresh sender is sound
  pub settings : sound_sender (fresh_sender g.settings g.largest) ≡ true
  -- "buffers are long enough"
  pub buffer_long : g.settings.limit - 4 ≤ length buffer
  pub output_long : g.largest ≤ length out
  -- "Cargoes are sent .. on any channels, each finished or abandoned."
  pub cargoes : AllSendable g xs
  -- no longer row of losses on any channel
  pub wire : (c : ℕ) → c < g.settings.count → LossesUpTo most 0 (fates_of c xs)

-- what is concluded: the cargoes delivered, and each channel's counts, "each modulo 4,294,967,296"
pub record Concluded (hear : Hear) (g : Setup) (buffer out : List ℕ) (xs : List Shipment) : Type 0 where
  pub delivered : (outcome hear g buffer out xs).got ≡ wanted g.largest xs
  pub missing : (c : ℕ) → c < g.settings.count
      → (channel_at (outcome hear g buffer out xs).receiver c).missing ≡ lost (fates_of c xs) % 2 ^ 32
  pub repeats : (c : ℕ) → c < g.settings.count
      → (channel_at (outcome hear g buffer out xs).receiver c).repeats ≡ surplus (fates_of c xs) % 2 ^ 32

abbrev pub KeptUpTo : (most : ℕ) (hear : Hear) → Type 0
KeptUpTo most hear =
    (g : Setup) (buffer out : List ℕ) (xs : List Shipment)
    → Assumed most g buffer out xs → Concluded hear g buffer out xs

-- demand 3 of a receiving function; that `receiving` keeps it is proved in proofs/Kept.antt
abbrev pub Kept : Hear → Type 0
Kept = KeptUpTo longest
