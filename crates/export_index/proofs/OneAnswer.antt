-- Each public function's contract decides its answer, and the content of what was lent to it.
-- `Learnt` is the contract itself, as the checker hands it to callers: nothing is stated a second time here.
use mathlib.Core.List.{List}
use Prim.Native.Nat.{ℕ}
use contract.Lifetimes.{Lfts}
use borrow.Fn.Kinds.{Dens}
use Rattle.laws.specs.OneAnswer.{OneAnswer, one_answer, together}
use Rattle.advert.proofs.OneAnswer.{Seen, seen, is_seen}
use Rattle.export_index.proofs.growth.boherlin_build_index.Kinds as build_index_kinds
use Rattle.export_index.proofs.growth.boherlin_build_index.Reads as build_index
use Rattle.export_index.proofs.growth.boherlin_extend_index.Kinds as extend_index_kinds
use Rattle.export_index.proofs.growth.boherlin_extend_index.Reads as extend_index
use Rattle.export_index.proofs.findings.boherlin_find_tag.Kinds as find_tag_kinds
use Rattle.export_index.proofs.findings.boherlin_find_tag.Reads as find_tag
use Rattle.export_index.proofs.findings.boherlin_tag_value.Kinds as tag_value_kinds
use Rattle.export_index.proofs.findings.boherlin_tag_value.Reads as tag_value

-- a number, and the parts of an index
abbrev Told : Type 0
Told = ℕ × (List ℕ × (List ℕ × (List ℕ × (ℕ × ℕ))))

pub one_build_index : (κs : Lfts 6) (a : Dens κs build_index_kinds.ps) → OneAnswer {W = Told} (build_index.Learnt κs a) (λ r s. (r, (s.1.1.0.now, (s.1.1.1.0.now, (s.1.1.1.1.0.now, (s.1.1.1.1.1.0.now, s.1.1.1.1.1.1.0.now))))))
one_build_index κs a = one_answer _ _ _ (λ r s p. together p.0 (together p.1.0 (together p.1.1.0 (together p.1.1.1.0 (together p.1.1.1.1.0 p.1.1.1.1.1)))))

pub one_extend_index : (κs : Lfts 6) (a : Dens κs extend_index_kinds.ps) → OneAnswer {W = Told} (extend_index.Learnt κs a) (λ r s. (r, (s.1.0.now, (s.1.1.0.now, (s.1.1.1.0.now, (s.1.1.1.1.0.now, s.1.1.1.1.1.0.now))))))
one_extend_index κs a = one_answer _ _ _ (λ r s p. together p.0 (together p.1.0 (together p.1.1.0 (together p.1.1.1.0 (together p.1.1.1.1.0 p.1.1.1.1.1)))))

pub one_find_tag : (κs : Lfts 3) (a : Dens κs find_tag_kinds.ps) → OneAnswer {W = ℕ × List ℕ} (find_tag.Learnt κs a) (λ r s. (r, s.1.1.1.1.1.1.1.0.now))
one_find_tag κs a = one_answer _ _ _ (λ r s p. together p.0 p.1)

pub one_tag_value : (κs : Lfts 5) (a : Dens κs tag_value_kinds.ps) → OneAnswer {W = Seen} (tag_value.Learnt κs a) (λ r s. seen s.1.1.1.1.1.1.1.0.now)
one_tag_value κs a = one_answer _ _ _ (λ r s p. is_seen p)
