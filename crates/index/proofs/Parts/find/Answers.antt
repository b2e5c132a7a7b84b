use Rattle.std.proofs.Common.{◌≡◌, suc, refl, sym, arith}
use Rattle.index.specs.Index.{of_parts}
use Rattle.index.proofs.Listing.{few, left_all, left_turn}
use Rattle.index.proofs.Parts.find.Goals as goal

pub loop-i-init : goal.loop-i-init
loop-i-init c =
    let counted : c.args.occurrence ≡ suc c.in-Some.before = omega arith in
    (few _ _ (sym c.if-not-is_sound.ensures), rw (counted, left_all (of_parts c.args.self)) refl)

pub loop-i-preserved : goal.loop-i-preserved
loop-i-preserved c =
    let turn = left_turn (of_parts c.args.self) c.loop-i.i (omega arith) in
    (c.loop-i.invariant.0, grind arith)
