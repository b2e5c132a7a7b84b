-- The messages that our writer writes carry their transfers, whatever harmless bytes stand beside them.
use Prim.Native.Nat.{ℕ, suc, ◌+◌, ◌≤◌}
use native.Mathlib.Omega.{arith}
use mathlib.Core.List.{List, [], ◌∷◌, map, flat_map}
use mathlib.Core.Path.{◌≡◌, refl, ◌∙◌, ap}
use Rattle.std.specs.List.{All}
use Rattle.std.proofs.lemmas.List.Elements.{All-head, All-tail}
use Rattle.writer.specs.Message.{flag, message}
use Rattle.messages.specs.Messages.{transfer_of, transfers_in, messages_of}
use Rattle.messages.specs.Sent.{closed, on_line, Body, written, told_on}
use Rattle.messages.proofs.Parts.{flat_append}
use Rattle.messages.proofs.Sent.{sent_are_told, transfer_told}
use Rattle.stream.specs.Stream.{Harmless, transfers, start, CarriedOverUart}
use Rattle.stream.proofs.Arriving.{Short, run_bounded, start_bounded}

abbrev with_id : List ℕ → Body
with_id t = record { id = 1; payload = t }

as_written : (ts : List (List ℕ)) → map (message 1) ts ≡ map written (map with_id ts)
as_written [] = refl
as_written (t ∷ ts) = ap (λ (ms : List (List ℕ)). message 1 t ∷ ms) (as_written ts)

module _ {r : ℕ} {noise : List ℕ} {between : ℕ → List (List ℕ)} {rest : List ℕ} (H : Harmless r noise between rest) where
  all_carried : (room i : ℕ) (ts : List (List ℕ)) → All (Short room) ts → 1 + room ≤ r → transfers_in (told_on r between i (map with_id ts) rest) ≡ ts
  unfolding told_on flat_map
  all_carried room i [] s h = H.silent_rest
  all_carried room i (t ∷ ts) s h =
      rw (transfer_told r t (omega (arith, All-head (Short room) t ts s)), flat_append transfer_of (messages_of r (flag ∷ closed (between i))) _, H.silent i)
      (ap (λ (us : List (List ℕ)). t ∷ us) (all_carried room (suc i) ts (All-tail (Short room) t ts s) h))

pub carried_over_uart : CarriedOverUart
carried_over_uart g out noise rest between xs r H h =
    let ts = transfers g out xs in
    let short = (run_bounded g.largest xs (start g out) (start_bounded g out)).arrived in
    ap (λ (ms : List (List ℕ)). transfers_in (messages_of r (on_line noise between ms rest))) (as_written ts)
    ∙ ap transfers_in (sent_are_told r noise between (map with_id ts) rest H.no_flag)
    ∙ all_carried H g.largest 0 ts short h
