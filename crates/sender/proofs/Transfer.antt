-- The transfer that a call writes: its bytes in the output, and its header read back.
use Prim.Native.Nat.{ℕ, ◌-◌}
use mathlib.Core.Path.{◌≡◌, ap, ◌∙◌}
use mathlib.Core.List.{List, ◌++◌}
use native.Mathlib.Omega.{arith}
use lib.ListN.{length, take, drop, length-append, length-drop}
use lib.Seq.{take_at, length-take-le}
use Rattle.std.specs.Prelude.{Some, Result, Ok}
use Rattle.refusals.specs.declared.Refusal.{Refusal}
use Rattle.header.specs.Header.{reading_of}
use Rattle.header.proofs.WriteRead.{Sayable, bytes_read}
use Rattle.joining.specs.Joining.{held_of}
use Rattle.sender.specs.declared.Sender.{Sender}
use Rattle.sender.specs.declared.Sent.{Sent}
use Rattle.sender.specs.Send.{judge_send, size_at, header_at, transfer_at, after, sent, out_after}
use Rattle.sender.proofs.Ready.{Ready, ready, sized}

module _ (s : Sender) (channel : ℕ) (cargo out : List ℕ) (e : judge_send s channel (length cargo) (length out) ≡ Ok tt) where
  pub passed : Ready s.settings s.largest s.underway channel (length cargo) (length out)
  passed = ready s.settings s.largest s.underway channel (length cargo) (length out) e

  pub sent_is : sent s channel (length cargo) (length out) ≡ Ok record { sender = after s channel (length cargo); written = size_at s (length cargo) }
  sent_is = simp e

  -- what a call tells of it
  pub told : {y : Sent} → Ok y ≡ sent s channel (length cargo) (length out) → y ≡ record { sender = after s channel (length cargo); written = size_at s (length cargo) }
  told {y} q = let k : ◌≡◌ {A = Result Sent Refusal} (Ok y) (Ok record { sender = after s channel (length cargo); written = size_at s (length cargo) }) = q ∙ sent_is in cc

  pub out_is : out_after s channel cargo out ≡ transfer_at s channel cargo ++ drop (size_at s (length cargo)) out
  unfolding out_after
  out_is = simp e

  pub transfer_length : length (transfer_at s channel cargo) ≡ size_at s (length cargo)
  transfer_length =
      let r = passed in
      let z = sized s.largest (length cargo - held_of s.underway) r.fits.five in
      let l = r.less in
      let k : length (take (size_at s (length cargo) - 4) (drop (held_of s.underway) cargo)) ≡ size_at s (length cargo) - 4 =
      length-take-le (size_at s (length cargo) - 4) (drop (held_of s.underway) cargo) (simp length-drop (omega arith)) in
      omega arith

  -- the written bytes of the output are the transfer
  pub written_is : take (size_at s (length cargo)) (out_after s channel cargo out) ≡ transfer_at s channel cargo
  written_is = ap (take (size_at s (length cargo))) out_is ∙ take_at (transfer_at s channel cargo) (drop (size_at s (length cargo)) out) (size_at s (length cargo)) transfer_length

  -- the output keeps its length
  pub out_length : length (out_after s channel cargo out) ≡ length out
  out_length =
      let r = passed.roomy in
      let k = transfer_length in
      ap length out_is ∙ length-append (transfer_at s channel cargo) (drop (size_at s (length cargo)) out) ∙ simp length-drop (omega arith)

  sayable : Sayable (header_at s channel (length cargo))
  sayable =
      let r = passed in
      let l = r.less in
      let b = r.below in
      let h = r.short in
      let k = r.fits.range in
      record { some = omega arith; most = omega arith; byte = omega arith }

  -- every header that a sender writes is read back
  pub header_read : reading_of (transfer_at s channel cargo) ≡ Ok (Some (header_at s channel (length cargo)))
  header_read = bytes_read (header_at s channel (length cargo)) (take (size_at s (length cargo) - 4) (drop (held_of s.underway) cargo)) sayable

  pub out_read : reading_of (out_after s channel cargo out) ≡ Ok (Some (header_at s channel (length cargo)))
  out_read = rw out_is (bytes_read (header_at s channel (length cargo)) (take (size_at s (length cargo) - 4) (drop (held_of s.underway) cargo) ++ drop (size_at s (length cargo)) out) sayable)
