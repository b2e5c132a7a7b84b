-- The `refl` computes the test of the table.
use Rattle.std.proofs.Common.{refl, ◌∙◌, arith}
use Rattle.advert.specs.Tags.{rule_of}
use Rattle.advert.proofs.Table.{table_right}
use Rattle.advert.proofs.tags.rule_of.Goals as goal

pub returns : goal.returns
unfolding rule_of
returns c = c.rule_in.ensures ∙ table_right _ refl c.args.tag (omega arith)
