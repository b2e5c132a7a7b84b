-- Each public function's contract decides its answer, and the content of what was lent to it.
use mathlib.Core.List.{List}
use Prim.Native.Nat.{ℕ}
use contract.Lifetimes.{Lfts}
use borrow.Fn.Kinds.{Dens}
use Rattle.laws.specs.OneAnswer.{OneAnswer, one_answer, together}
use Rattle.listener.specs.declared.HeardByte.{HeardByte}
use Rattle.listener.specs.declared.Listened.{Listened}
use Rattle.listener.proofs.News.number.Kinds as news_number_kinds
use Rattle.listener.proofs.News.number.Reads as news_number
use Rattle.listener.proofs.Listener.hear.Kinds as hear_kinds
use Rattle.listener.proofs.Listener.hear.Reads as hear
use Rattle.listener.proofs.Listener.listen.Kinds as listen_kinds
use Rattle.listener.proofs.Listener.listen.Reads as listen

pub one_news_number : (κs : Lfts 0) (a : Dens κs news_number_kinds.ps) → OneAnswer (news_number.Learnt κs a) (λ r s. r)
one_news_number κs a = one_answer _ _ _ (λ r s p. p)

pub one_hear : (κs : Lfts 2) (a : Dens κs hear_kinds.ps) → OneAnswer {W = HeardByte × (List ℕ × List ℕ)} (hear.Learnt κs a) (λ r s. (r, (s.1.1.0.now, s.1.1.1.0.now)))
one_hear κs a = one_answer _ _ _ (λ r s p. together p.0 (together p.1.0 p.1.1))

pub one_listen : (κs : Lfts 3) (a : Dens κs listen_kinds.ps) → OneAnswer {W = Listened × (List ℕ × List ℕ)} (listen.Learnt κs a) (λ r s. (r, (s.1.1.1.0.now, s.1.1.1.1.0.now)))
one_listen κs a = one_answer _ _ _ (λ r s p. together p.0 (together p.1.0 p.1.1))
