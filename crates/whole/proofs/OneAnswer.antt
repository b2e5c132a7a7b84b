-- Each public function's contract decides its answer, and the content of what was lent to it.
use Rattle.std.proofs.Common.{ℕ, List}
use contract.Lifetimes.{Lfts}
use borrow.Fn.Kinds.{Dens}
use Rattle.laws.specs.OneAnswer.{OneAnswer, one_answer, together}
use Rattle.whole.proofs.streams.boherlin_tally_messages.Kinds as tally_messages_kinds
use Rattle.whole.proofs.streams.boherlin_tally_messages.Reads as tally_messages
use Rattle.whole.proofs.streams.boherlin_tally_stream.Kinds as tally_stream_kinds
use Rattle.whole.proofs.streams.boherlin_tally_stream.Reads as tally_stream

pub one_tally_messages : (κs : Lfts 3) (a : Dens κs tally_messages_kinds.ps)
    → OneAnswer {W = ℕ × (List ℕ × List ℕ)} (tally_messages.Learnt κs a) (λ r s. (r, (s.1.0.now, s.1.1.0.now)))
one_tally_messages κs a = one_answer _ _ _ (λ r s p. together p.0 (together p.1.0 p.1.1))

pub one_tally_stream : (κs : Lfts 4) (a : Dens κs tally_stream_kinds.ps)
    → OneAnswer {W = ℕ × (List ℕ × (List ℕ × List ℕ))} (tally_stream.Learnt κs a)
    (λ r s. (r, (s.1.1.1.0.now, (s.1.1.1.1.0.now, s.1.1.1.1.1.0.now))))
one_tally_stream κs a = one_answer _ _ _ (λ r s p. together p.0 (together p.1.0 (together p.1.1.0 p.1.1.1)))
