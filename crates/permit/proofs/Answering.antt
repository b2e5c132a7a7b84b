-- A permitted call, as its answer and its output: refused, or written.
use Prim.Native.Nat.{ℕ, ◌-◌, ◌+◌}
use mathlib.Core.Path.{◌≡◌, sym, ap, ◌∙◌}
use mathlib.Core.List.{List, ◌++◌}
use native.Mathlib.Omega.{arith}
use lib.ListN.{length, take, drop, drop_of_length-le}
use Rattle.std.specs.Prelude.{Option, Result, None, Ok, Err}
use Rattle.refusals.specs.declared.Refusal.{Refusal}
use Rattle.header.specs.Header.{header_bytes, header_written}
use Rattle.sender.specs.declared.Sender.{Sender}
use Rattle.sender.specs.declared.Next.{Next}
use Rattle.sender.specs.declared.Sent.{Sent}
use Rattle.sender.specs.Send.{judge_send, transfer_at, after, next_of, out_after}
use Rattle.sender.specs.Send as plain
use Rattle.sender.proofs.Closing.{header_stored, passed, parts, fits}
use Rattle.sender.proofs.Coming.{refused_next}
use Rattle.sender.proofs.Transfer.{told, out_is, transfer_length}
use Rattle.writer.specs.Message.{message, written_length, write_answer, output_after}
use Rattle.writer.proofs.Escaped.{message_length}
use Rattle.writer.proofs.Writing.{writable, written_out}
use Rattle.permit.specs.declared.Permit.{Permit}
use Rattle.permit.specs.declared.send.Allowed.{Allowed}
use Rattle.permit.specs.Permit.{refusal}
use Rattle.permit.specs.Send.{Way, transfers, messages, asked, written, answer, output}

-- ---- either way, by what is asked

module _ (way : Way) (held : Option Permit) (s : Sender) (channel : ℕ) (cargo out : List ℕ) (clock timeout : ℕ) where
  pub refused : {r : Refusal} → asked way held s channel cargo (length out) clock timeout ≡ Err r
      → (Err r ≡ answer way held s channel cargo (length out) clock timeout) × (out ≡ output way held s channel cargo out clock timeout)
  unfolding output
  refused e = (simp e, simp e)

  pub granted : asked way held s channel cargo (length out) clock timeout ≡ Ok tt
      → (Ok (written way s channel cargo) ≡ answer way held s channel cargo (length out) clock timeout)
      × (way.bytes s channel cargo ++ drop (length (way.bytes s channel cargo)) out ≡ output way held s channel cargo out clock timeout)
  unfolding output
  granted e = (simp e, simp e)

  pub own_refused : {r : Refusal} → way.own s channel cargo (length out) ≡ Err r → asked way held s channel cargo (length out) clock timeout ≡ Err r
  own_refused e = simp e

  -- nothing is refused before the permit is asked, which is told the L of the next transfer
  pub permit_asked : way.own s channel cargo (length out) ≡ Ok tt → {x : Next} → Ok x ≡ next_of s channel (length cargo) (length out)
      → refusal held x.header.length clock timeout ≡ asked way held s channel cargo (length out) clock timeout
  permit_asked o e = rw (parts s channel cargo out e) (simp o)

-- ---- `send`

module _ (held : Option Permit) (s : Sender) (channel : ℕ) (cargo out : List ℕ) (clock timeout : ℕ) where
  -- what the sender wrote is what is promised
  pub sent_plainly : judge_send s channel (length cargo) (length out) ≡ Ok tt → asked transfers held s channel cargo (length out) clock timeout ≡ Ok tt
      → {y : Sent} → Ok y ≡ plain.sent s channel (length cargo) (length out) → {o : List ℕ} → o ≡ out_after s channel cargo out
      → (◌≡◌ {A = Result Allowed Refusal} (Ok record { sender = y.sender; permit = None; written = y.written }) (answer transfers held s channel cargo (length out) clock timeout))
      × (o ≡ output transfers held s channel cargo out clock timeout)
  sent_plainly own z e d =
      let g = granted transfers held s channel cargo out clock timeout z in
      let n = sym (transfer_length s channel cargo out own) in (
        rw (told s channel cargo out own e)
            (ap (λ (k : ℕ). Ok record { sender = after s channel (length cargo); permit = None; written = k }) n ∙ g.0),
        d ∙ out_is s channel cargo out own ∙ ap (λ (k : ℕ). transfer_at s channel cargo ++ drop k out) n ∙ g.1,
      )

-- ---- `send_message`, by the next transfer

pub next_refused : (s : Sender) (channel : ℕ) (cargo out : List ℕ) {r : Refusal} → Err r ≡ next_of s channel (length cargo) (length out)
    → messages.own s channel cargo (length out) ≡ Err r
next_refused s channel cargo out e = simp (refused_next s channel (length cargo) (length out) e)

module _ (s : Sender) (channel : ℕ) (cargo out : List ℕ) {x : Next} (e : Ok x ≡ next_of s channel (length cargo) (length out)) where
  -- the header's bytes and the carried ones are the transfer
  pub joined : (zeros : List ℕ) → length zeros ≡ 4 → {front : List ℕ} → front ≡ header_written x.header zeros
      → front ++ take (x.from + (x.size - 4) - x.from) (drop x.from cargo) ≡ transfer_at s channel cargo
  joined zeros n {front} w =
      let f = fits s channel cargo out e in
      let k : x.from + (x.size - 4) - x.from ≡ x.size - 4 = omega arith in
      let b : front ≡ header_bytes x.header = header_stored x.header zeros front f.0 f.1 (omega arith) w ∙ rw (drop_of_length-le zeros {i = 4} (omega arith)) in
      rw (b, k) (rw (parts s channel cargo out e))

  -- the message writer is asked after the sender
  pub writer_asked : {n : ℕ} → write_answer 1 (transfer_at s channel cargo) (length out) ≡ Ok n → messages.own s channel cargo (length out) ≡ Ok tt
  writer_asked a = simp (passed s channel cargo out e, a)

  pub writer_refused : {r : Refusal} → write_answer 1 (transfer_at s channel cargo) (length out) ≡ Err r → messages.own s channel cargo (length out) ≡ Err r
  writer_refused a = simp (passed s channel cargo out e, a)

  module _ (held : Option Permit) (clock timeout : ℕ) where
    -- the message that was written is the promised one
    pub message_plainly : {n : ℕ} → write_answer 1 (transfer_at s channel cargo) (length out) ≡ Ok n → asked messages held s channel cargo (length out) clock timeout ≡ Ok tt
        → {o : List ℕ} → o ≡ output_after 1 (transfer_at s channel cargo) out
        → (◌≡◌ {A = Result Allowed Refusal} (Ok record { sender = x.sender; permit = None; written = n }) (answer messages held s channel cargo (length out) clock timeout))
        × (o ≡ output messages held s channel cargo out clock timeout)
    message_plainly {n} a z d =
        let t = transfer_at s channel cargo in
        let g = granted messages held s channel cargo out clock timeout z in
        let l : written_length t ≡ length (message 1 t) = sym (message_length 1 t (omega arith)) in
        let v : n ≡ length (message 1 t) = (writable 1 t (length out) n a).whole ∙ l in
        (rw (parts s channel cargo out e, v) g.0, d ∙ sym (written_out 1 t out a) ∙ rw l g.1)
