use Rattle.std.proofs.Common.{◌≡◌, ℕ, List, length, map, arith, ap, ◌∙◌, true, false, le-ltb}
use Rattle.std.proofs.lemmas.List.{length-map}
use Rattle.std.proofs.Math.Seq.{paste}
use Rattle.laws.proofs.Tests.{went}
use Rattle.laws.proofs.TwoPastes.{two_pastes}
use Rattle.receiver.specs.Counts.{field_of, copying, row_after}
use Rattle.receiver.proofs.Soundness.{is_sound}
use Rattle.receiver.proofs.Receiver.copy_counts.Goals as goal

pub overflow_mul-count : goal.overflow_mul-count
overflow_mul-count c =
    let k = (is_sound _ _ (went c.is_sound.ensures c.if-not-is_sound.false)).few in
    omega arith

pub copy_field-requires : goal.copy_field-requires
copy_field-requires c =
    let k = (is_sound _ _ (went c.is_sound.ensures c.if-not-is_sound.false)).few in
    let h = c.if-row-count.false in
    (omega arith, omega arith)

pub returns-clause-row_after : goal.returns-clause-row_after
unfolding copying row_after
returns-clause-row_after c =
    let a = c.args in
    let e = went c.is_sound.ensures c.if-not-is_sound.false in
    let f = le-ltb _ _ c.if-row-count.false in
    let k = (is_sound _ _ e).few in
    let n = a.self.settings.count in
    let m : length a.self.channels ≡ 32 = c.copy_field.ensures.channels_len in
    let p : length (map (field_of false) a.self.channels) ≡ 32 = length-map a.self.channels (field_of false) ∙ m in
    let q : length (map (field_of true) a.self.channels) ≡ 32 = length-map a.self.channels (field_of true) ∙ m in
    let h = c.if-row-count.false in
    let t = two_pastes a.row.now (map (field_of false) a.self.channels) (map (field_of true) a.self.channels) n (omega arith) (omega arith) (omega arith) in
    simp (e, f) (c.copy_field-2.ensures.row_after ∙ ap (λ (x : List ℕ). paste x n (map (field_of true) a.self.channels) n) c.copy_field.ensures.row_after ∙ t)
