use Rattle.std.proofs.Common.{arith, sym, ◌∙◌}
use Rattle.receiver.proofs.Soundness.{in_range_lem}
use Rattle.receiver.proofs.sound.is_sound.Goals as goal

pub fits-requires : goal.fits-requires
fits-requires c = let r = in_range_lem _ (sym c.in_range.ensures ∙ c.if-in_range.true) in omega arith
