-- What the writer answers, and the output with it: a message written, or nothing.
use Rattle.std.proofs.Common.{◌≡◌, ℕ, ◌≤◌, ltb, List, ◌++◌, length, drop, ltb-false}
use Rattle.std.specs.Prelude.{Result, Ok, Err}
use Rattle.refusals.specs.declared.Refusal.{Refusal}
use Rattle.refusals.specs.declared.Refusal.TheVariants.{UnknownId, ShortOutput}
use Rattle.laws.proofs.Tests.{no_ok, skip}
use Rattle.writer.specs.Message.{message, written_length, write_answer, output_after}

pub record Writable (id : ℕ) (p : List ℕ) (room n : ℕ) : Type 0 where
  pub known : id ≤ 1
  pub fits : written_length p ≤ room
  pub whole : n ≡ written_length p

pub writable : (id : ℕ) (p : List ℕ) (room n : ℕ) → write_answer id p room ≡ Ok n → Writable id p room n
unfolding write_answer
writable id p room n e =
    let a = skip (ltb 1 id) (Err UnknownId) _ (Ok n) (no_ok UnknownId n) e in
    let b = skip (ltb room (written_length p)) (Err ShortOutput) (Ok (written_length p)) (Ok n) (no_ok ShortOutput n) a.1 in
    let q : ◌≡◌ {A = Result ℕ Refusal} (Ok (written_length p)) (Ok n) = b.1 in
    record { known = ltb-false 1 id a.0; fits = ltb-false room (written_length p) b.0; whole = cc }

pub written_out : (id : ℕ) (p out : List ℕ) {n : ℕ} → write_answer id p (length out) ≡ Ok n → message id p ++ drop (written_length p) out ≡ output_after id p out
unfolding output_after
written_out id p out e = simp e

pub unwritten_out : (id : ℕ) (p out : List ℕ) {refusal : Refusal} → write_answer id p (length out) ≡ Err refusal → out ≡ output_after id p out
unfolding output_after
unwritten_out id p out e = simp e
