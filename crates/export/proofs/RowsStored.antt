-- A receiver's row and a sender's, stored part by part.
use Prim.Native.Nat.{ℕ, ◌<◌, ◌≤◌}
use mathlib.Core.Path.{◌≡◌, refl, ap, ◌∙◌}
use mathlib.Core.List.{List, [], ◌∷◌, ◌++◌, map}
use native.Mathlib.Omega.{arith}
use lib.ListN.{length, set, drop, length-map}
use lib.Seq.{paste}
use Rattle.verdict.specs.declared.Settings.{Settings}
use Rattle.std.specs.Prelude.{Option}
use Rattle.joining.specs.declared.Cargo.{Cargo}
use Rattle.joining.specs.declared.channels.Channel.{Channel}
use Rattle.receiver.specs.declared.Receiver.{Receiver}
use Rattle.receiver.specs.State.{with_channel}
use Rattle.sender.specs.declared.Sender.{Sender}
use Rattle.export.specs.Fields as fields
use Rattle.export.specs.Receivers.{channels_in, channel_put, receiver_of, channels_numbers, receiver_numbers}
use Rattle.export.specs.Senders.{sender_numbers, sent_numbers}
use Rattle.export.proofs.Channels.{channels_length, channel_put_lem}
use Rattle.laws.proofs.Fills.{unfilled, fill, full, filled}

-- a receiver's row
pub receiver_row : (r : Receiver) (d x y s : List ℕ) → 134 ≤ length d → length x ≡ length d → length s ≡ 6
    → s ≡ r.settings.limit ∷ r.settings.count ∷ fields.underway_numbers r.underway
    → x ≡ channels_numbers r.channels ++ drop 128 d → y ≡ paste x 128 s (length s) → y ≡ receiver_numbers r ++ drop 134 d
receiver_row r d x y s h l k t e q =
    rw (← t) (fill s y (length s) 134 (filled d (channels_numbers r.channels) x 128 e l (omega arith)) refl (omega arith) q).is

-- a receiver's row of which one channel changed and the cargo under way, and behind it what was told
pub row_after : (row x₁ x₂ x₃ x₄ s told : List ℕ) (i : ℕ) (c : Channel) (settings : Settings) (underway : Option Cargo) → 140 ≤ length row → i < 32
    → x₁ ≡ channels_numbers (channels_in row 32) ++ drop 128 row → x₂ ≡ channel_put x₁ i c → length x₂ ≡ length row
    → settings ≡ (receiver_of row).settings → s ≡ settings.limit ∷ settings.count ∷ fields.underway_numbers underway → length s ≡ 6
    → x₃ ≡ paste x₂ 128 s (length s) → length told ≡ 6 → x₄ ≡ paste x₃ 134 told (length told)
    → x₄ ≡ receiver_numbers (with_channel (receiver_of row) i c underway) ++ told ++ drop 140 row
row_after row x₁ x₂ x₃ x₄ s told i c settings underway h l e₁ e₂ m es et k e₃ n e₄ =
    let cs = channels_in row 32 in
    let q : x₂ ≡ channels_numbers (set cs i c) ++ drop 128 row = e₂ ∙ rw e₁ (channel_put_lem cs (drop 128 row) i c (channels_length row 32) l) in
    let f₁ = fill s x₃ (length s) 134 (filled row (channels_numbers (set cs i c)) x₂ 128 q m (omega arith)) refl (omega arith) e₃ in
    let f₂ = fill told x₄ (length told) 140 f₁ refl (omega arith) e₄ in
    let t : s ≡ (receiver_of row).settings.limit ∷ (receiver_of row).settings.count ∷ fields.underway_numbers underway = et ∙ rw es in
    rw (← t) f₂.is

-- a sender's row
pub sender_row : (s : Sender) (d x₁ x₂ x₃ t u : List ℕ)
    → length s.counters ≡ 32 → length t ≡ 6 → t ≡ s.settings.limit ∷ s.settings.count ∷ fields.underway_numbers s.underway → u ≡ s.largest ∷ []
    → x₁ ≡ paste d 0 (map fields.counter_number s.counters) 32 → x₂ ≡ paste x₁ 32 t (length t) → x₃ ≡ paste x₂ 38 u (length u)
    → x₃ ≡ sender_numbers s ++ drop 39 d
sender_row s d x₁ x₂ x₃ t u a l e g e₁ e₂ e₃ =
    let f₁ = fill (map fields.counter_number s.counters) x₁ 32 32 (unfilled d) (length-map s.counters fields.counter_number ∙ a) refl e₁ in
    let f₂ = fill t x₂ (length t) 38 f₁ refl (omega arith) e₂ in
    let k : length u ≡ 1 = ap length g in
    let f₃ = fill u x₃ (length u) 39 f₂ refl (omega arith) e₃ in
    rw (← e, ← g) f₃.is

-- and behind it how many bytes the last call wrote
pub sent_row : (s : Sender) (written : ℕ) (d x y : List ℕ) → length d ≡ 40 → x ≡ sender_numbers s ++ drop 39 d → length x ≡ length d
    → y ≡ paste x 39 (written ∷ []) 1 → y ≡ sent_numbers s written
sent_row s written d x y h e l q = full d _ y 40 (fill (written ∷ []) y 1 40 (filled d (sender_numbers s) x 39 e l (omega arith)) refl refl q) h
