-- What it is that a receiving function is refuted: a run on a small link on which demand 3 is false of it.
use Rattle.std.specs.Prelude.{ℕ, List, [], ◌∷◌, ◌≡◌, replicate}
use Rattle.receiver.specs.State.{channel_at}
use Rattle.link.specs.Run.{Setup, Cargo, Shipment, Hear, World, outcome}
use Rattle.link.specs.Demand.{Assumed, Concluded}

-- two channels, cargoes of up to 8 bytes, 4 of them to a transfer
abbrev pub small : Setup
small = record { settings = record { limit = 12; count = 2 }; largest = 8 }

abbrev pub zeros : List ℕ
zeros = replicate 8 0

abbrev pub cargo : (channel : ℕ) (bytes : List ℕ) → Cargo
cargo channel bytes = record { channel = channel; bytes = bytes }

abbrev pub sends : (x : Cargo) (fates : List ℕ) → Shipment
sends x fates = record { cargo = x; fates = fates }

-- what is seen of a run: the cargoes handed over, and both channels' missing counts and repeat counts
pub record Seen : Type 0 where
  pub got : List Cargo
  pub missing : List ℕ
  pub repeats : List ℕ

abbrev pub shows : (got : List Cargo) (missing repeats : List ℕ) → Seen
shows got missing repeats = record { got = got; missing = missing; repeats = repeats }

abbrev pub seen_at : World → Seen
seen_at w =
    let a = channel_at w.receiver 0 in
    let b = channel_at w.receiver 1 in
    shows w.got (a.missing ∷ b.missing ∷ []) (a.repeats ∷ b.repeats ∷ [])

abbrev pub seen : (hear : Hear) (xs : List Shipment) → Seen
seen hear xs = seen_at (outcome hear small zeros zeros xs)

-- a run that a wire allows which may lose `most` in a row; what is seen of it; and demand 3's conclusion is false there
pub record Refuted (most : ℕ) (hear : Hear) (xs : List Shipment) (s : Seen) : Type 0 where
  pub allowed : Assumed most small zeros zeros xs
  pub sees : seen hear xs ≡ s
  pub wrong : Concluded hear small zeros zeros xs → ⊥
