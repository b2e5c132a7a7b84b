use Rattle.std.proofs.Common.{◌%◌, ℕ, refl, sym, ap, ◌∙◌, length}
use Rattle.receiver.specs.Take.{received_by}
use Rattle.receiver.proofs.Written.{taken, bytes_taken}
use Rattle.receiver.proofs.Receiver.take.Goals as goal

pub returns-in-Err-clause-value : goal.returns-in-Err-clause-value
returns-in-Err-clause-value c =
    let a = c.args in
    ap (received_by a.self _) (sym c.in-Err.is) ∙ taken a.self a.transfer.now (length a.cargo.now) _ (ap (λ (n : ℕ). n % 32) c.channel_of-at.ensures) c.is_sound-sound.ensures c.step_in.ensures.value

pub returns-in-Err-clause-cargo_after : goal.returns-in-Err-clause-cargo_after
returns-in-Err-clause-cargo_after c =
    let a = c.args in
    c.step_in.ensures.cargo_after ∙ bytes_taken a.self a.transfer.now (length a.cargo.now) _ (ap (λ (n : ℕ). n % 32) c.channel_of-at.ensures) c.is_sound-sound.ensures refl a.cargo.now refl

pub returns-in-Ok-clause-value : goal.returns-in-Ok-clause-value
returns-in-Ok-clause-value c =
    let a = c.args in
    ap (received_by a.self (c.channel_of-at.result % 32)) (sym c.in-Ok.is) ∙ taken a.self a.transfer.now (length a.cargo.now) _ (ap (λ (n : ℕ). n % 32) c.channel_of-at.ensures) c.is_sound-sound.ensures c.step_in.ensures.value

pub returns-in-Ok-clause-cargo_after : goal.returns-in-Ok-clause-cargo_after
returns-in-Ok-clause-cargo_after c =
    let a = c.args in
    c.step_in.ensures.cargo_after ∙ bytes_taken a.self a.transfer.now (length a.cargo.now) _ (ap (λ (n : ℕ). n % 32) c.channel_of-at.ensures) c.is_sound-sound.ensures refl a.cargo.now refl
