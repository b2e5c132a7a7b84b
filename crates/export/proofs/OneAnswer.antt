-- Each public function's contract decides its answer, and the content of what was lent to it.
-- `Learnt` is the contract itself, as the checker hands it to callers: nothing is stated a second time here.
use mathlib.Core.List.{List}
use Prim.Native.Nat.{ℕ}
use contract.Lifetimes.{Lfts}
use denote.RattleType.{RattleType}
use denote.Param.Laws.{Laws, IsCopy}
use borrow.Fn.Kinds.{Dens}
use Rattle.std.specs.declared.clone.Clone.{Ghosts}
use mir.Syntax.{Dict}
use Rattle.laws.specs.OneAnswer.{OneAnswer, one_answer, together}
use Rattle.export.proofs.receivers.boherlin_take.Kinds as take_kinds
use Rattle.export.proofs.receivers.boherlin_take.Reads as take
use Rattle.export.proofs.receivers.boherlin_copy_counts.Kinds as copy_counts_kinds
use Rattle.export.proofs.receivers.boherlin_copy_counts.Reads as copy_counts
use Rattle.export.proofs.receivers.boherlin_clear_counts.Kinds as clear_counts_kinds
use Rattle.export.proofs.receivers.boherlin_clear_counts.Reads as clear_counts
use Rattle.export.proofs.senders.boherlin_send.Kinds as send_kinds
use Rattle.export.proofs.senders.boherlin_send.Reads as send
use Rattle.export.proofs.senders.boherlin_abandon.Kinds as abandon_kinds
use Rattle.export.proofs.senders.boherlin_abandon.Reads as abandon
use Rattle.export.proofs.messages.boherlin_write.Kinds as write_kinds
use Rattle.export.proofs.messages.boherlin_write.Reads as write
use Rattle.export.proofs.messages.boherlin_write_query.Kinds as write_query_kinds
use Rattle.export.proofs.messages.boherlin_write_query.Reads as write_query
use Rattle.export.proofs.messages.boherlin_write_notice.Kinds as write_notice_kinds
use Rattle.export.proofs.messages.boherlin_write_notice.Reads as write_notice
use Rattle.export.proofs.messages.lent_back.Kinds as lent_back_kinds
use Rattle.export.proofs.messages.lent_back.Reads as lent_back
use Rattle.export.proofs.listeners.boherlin_listen.Kinds as listen_kinds
use Rattle.export.proofs.listeners.boherlin_listen.Reads as listen
use Rattle.export.proofs.readers.boherlin_step.Kinds as step_kinds
use Rattle.export.proofs.readers.boherlin_step.Reads as step
use Rattle.export.proofs.readers.boherlin_read.Kinds as read_kinds
use Rattle.export.proofs.readers.boherlin_read.Reads as read
use Rattle.export.proofs.fresh.boherlin_fresh_receiver.Kinds as fresh_receiver_kinds
use Rattle.export.proofs.fresh.boherlin_fresh_receiver.Reads as fresh_receiver
use Rattle.export.proofs.fresh.boherlin_fresh_sender.Kinds as fresh_sender_kinds
use Rattle.export.proofs.fresh.boherlin_fresh_sender.Reads as fresh_sender
use Rattle.export.proofs.permits.boherlin_grant.Kinds as grant_kinds
use Rattle.export.proofs.permits.boherlin_grant.Reads as grant
use Rattle.export.proofs.permits.boherlin_permitted_send.Kinds as permitted_send_kinds
use Rattle.export.proofs.permits.boherlin_permitted_send.Reads as permitted_send
use Rattle.export.proofs.permits.boherlin_permitted_message.Kinds as permitted_message_kinds
use Rattle.export.proofs.permits.boherlin_permitted_message.Reads as permitted_message
use Rattle.export.proofs.receivers.answer_numbers.Kinds as answer_numbers_kinds
use Rattle.export.proofs.receivers.answer_numbers.Reads as answer_numbers_lem
use Rattle.export.proofs.numbers.underway_numbers.Kinds as underway_numbers_kinds
use Rattle.export.proofs.numbers.underway_numbers.Reads as underway_numbers_lem
use Rattle.export.proofs.numbers.channel_numbers.Kinds as channel_numbers_kinds
use Rattle.export.proofs.numbers.channel_numbers.Reads as channel_numbers_lem
use Rattle.export.proofs.numbers.channel_from.Kinds as channel_from_kinds
use Rattle.export.proofs.numbers.channel_from.Reads as channel_from
use Rattle.export.proofs.numbers.count_number.Kinds as count_number_kinds
use Rattle.export.proofs.numbers.count_number.Reads as count_number
use Rattle.export.proofs.numbers.count_of.Kinds as count_of_kinds
use Rattle.export.proofs.numbers.count_of.Reads as count_of
use Rattle.export.proofs.numbers.flag_number.Kinds as flag_number_kinds
use Rattle.export.proofs.numbers.flag_number.Reads as flag_number_lem
use Rattle.export.proofs.numbers.flag_of.Kinds as flag_of_kinds
use Rattle.export.proofs.numbers.flag_of.Reads as flag_of
use Rattle.export.proofs.numbers.underway_of.Kinds as underway_of_kinds
use Rattle.export.proofs.numbers.underway_of.Reads as underway_of
use Rattle.export.proofs.fresh.boherlin_outside.Kinds as outside_kinds
use Rattle.export.proofs.fresh.boherlin_outside.Reads as outside

pub one_take : (κs : Lfts 3) (a : Dens κs take_kinds.ps) → OneAnswer {W = ℕ × (List ℕ × List ℕ)} (take.Learnt κs a) (λ r s. (r, (s.0.now, s.1.1.0.now)))
one_take κs a = one_answer _ _ _ (λ r s p. together p.0 (together p.1.0 p.1.1))

pub one_copy_counts : (κs : Lfts 2) (a : Dens κs copy_counts_kinds.ps) → OneAnswer {W = ℕ × List ℕ} (copy_counts.Learnt κs a) (λ r s. (r, s.1.0.now))
one_copy_counts κs a = one_answer _ _ _ (λ r s p. together p.0 p.1)

pub one_clear_counts : (κs : Lfts 1) (a : Dens κs clear_counts_kinds.ps) → OneAnswer {W = ℕ × List ℕ} (clear_counts.Learnt κs a) (λ r s. (r, s.0.now))
one_clear_counts κs a = one_answer _ _ _ (λ r s p. together p.0 p.1)

pub one_send : (κs : Lfts 3) (a : Dens κs send_kinds.ps) → OneAnswer {W = ℕ × (List ℕ × List ℕ)} (send.Learnt κs a) (λ r s. (r, (s.0.now, s.1.1.1.0.now)))
one_send κs a = one_answer _ _ _ (λ r s p. together p.0 (together p.1.0 p.1.1))

pub one_abandon : (κs : Lfts 1) (a : Dens κs abandon_kinds.ps) → OneAnswer {W = ℕ × List ℕ} (abandon.Learnt κs a) (λ r s. (r, s.0.now))
one_abandon κs a = one_answer _ _ _ (λ r s p. together p.0 p.1)

pub one_write : (κs : Lfts 3) (a : Dens κs write_kinds.ps) → OneAnswer {W = ℕ × (List ℕ × ℕ)} (write.Learnt κs a) (λ r s. (r, (s.1.1.0.now, s.1.1.1.0.now)))
one_write κs a = one_answer _ _ _ (λ r s p. together p.0 (together p.1.0 p.1.1))

pub one_write_query : (κs : Lfts 2) (a : Dens κs write_query_kinds.ps) → OneAnswer {W = ℕ × (List ℕ × ℕ)} (write_query.Learnt κs a) (λ r s. (r, (s.0.now, s.1.0.now)))
one_write_query κs a = one_answer _ _ _ (λ r s p. together p.0 (together p.1.0 p.1.1))

pub one_write_notice : (κs : Lfts 2) (a : Dens κs write_notice_kinds.ps) → OneAnswer {W = ℕ × (List ℕ × ℕ)} (write_notice.Learnt κs a) (λ r s. (r, (s.1.0.now, s.1.1.0.now)))
one_write_notice κs a = one_answer _ _ _ (λ r s p. together p.0 (together p.1.0 p.1.1))

pub one_step : (κs : Lfts 2) (a : Dens κs step_kinds.ps) → OneAnswer {W = ℕ × (List ℕ × List ℕ)} (step.Learnt κs a) (λ r s. (r, (s.0.now, s.1.1.0.now)))
one_step κs a = one_answer _ _ _ (λ r s p. together p.0 (together p.1.0 p.1.1))

pub one_read : (κs : Lfts 3) (a : Dens κs read_kinds.ps) → OneAnswer {W = ℕ × (List ℕ × List ℕ)} (read.Learnt κs a) (λ r s. (r, (s.0.now, s.1.1.1.0.now)))
one_read κs a = one_answer _ _ _ (λ r s p. together p.0 (together p.1.0 p.1.1))

pub one_listen : (κs : Lfts 4) (a : Dens κs listen_kinds.ps) → OneAnswer {W = ℕ × (List ℕ × (List ℕ × List ℕ))} (listen.Learnt κs a) (λ r s. (r, (s.0.now, (s.1.1.1.0.now, s.1.1.1.1.0.now))))
one_listen κs a = one_answer _ _ _ (λ r s p. together p.0 (together p.1.0 (together p.1.1.0 p.1.1.1)))

pub one_fresh_receiver : (κs : Lfts 1) (a : Dens κs fresh_receiver_kinds.ps) → OneAnswer {W = ℕ × List ℕ} (fresh_receiver.Learnt κs a) (λ r s. (r, s.1.1.0.now))
one_fresh_receiver κs a = one_answer _ _ _ (λ r s p. together p.0 p.1)

pub one_fresh_sender : (κs : Lfts 1) (a : Dens κs fresh_sender_kinds.ps) → OneAnswer {W = ℕ × List ℕ} (fresh_sender.Learnt κs a) (λ r s. (r, s.1.1.1.0.now))
one_fresh_sender κs a = one_answer _ _ _ (λ r s p. together p.0 p.1)

pub one_outside : (κs : Lfts 1) (a : Dens κs outside_kinds.ps) → OneAnswer {W = List ℕ} (outside.Learnt κs a) (λ r s. s.0.now)
one_outside κs a = one_answer _ _ _ (λ r s p. p)

pub one_grant : (κs : Lfts 1) (a : Dens κs grant_kinds.ps) → OneAnswer {W = ℕ × List ℕ} (grant.Learnt κs a) (λ r s. (r, s.1.1.0.now))
one_grant κs a = one_answer _ _ _ (λ r s p. together p.0 p.1)

pub one_permitted_send : (κs : Lfts 4) (a : Dens κs permitted_send_kinds.ps) → OneAnswer {W = ℕ × (List ℕ × (List ℕ × List ℕ))} (permitted_send.Learnt κs a) (λ r s. (r, (s.0.now, (s.1.0.now, s.1.1.1.1.1.1.0.now))))
one_permitted_send κs a = one_answer _ _ _ (λ r s p. together p.0 (together p.1.0 (together p.1.1.0 p.1.1.1)))

pub one_permitted_message : (κs : Lfts 4) (a : Dens κs permitted_message_kinds.ps) → OneAnswer {W = ℕ × (List ℕ × (List ℕ × List ℕ))} (permitted_message.Learnt κs a) (λ r s. (r, (s.0.now, (s.1.0.now, s.1.1.1.1.1.1.0.now))))
one_permitted_message κs a = one_answer _ _ _ (λ r s p. together p.0 (together p.1.0 (together p.1.1.0 p.1.1.1)))

pub one_answer_numbers : (κs : Lfts 0) (a : Dens κs answer_numbers_kinds.ps) → OneAnswer (answer_numbers_lem.Learnt κs a) (λ r s. r)
one_answer_numbers κs a = one_answer _ _ _ (λ r s p. p)

pub one_underway_numbers : (κs : Lfts 0) (a : Dens κs underway_numbers_kinds.ps) → OneAnswer (underway_numbers_lem.Learnt κs a) (λ r s. r)
one_underway_numbers κs a = one_answer _ _ _ (λ r s p. p)

pub one_channel_numbers : (κs : Lfts 0) (a : Dens κs channel_numbers_kinds.ps) → OneAnswer (channel_numbers_lem.Learnt κs a) (λ r s. r)
one_channel_numbers κs a = one_answer _ _ _ (λ r s p. p)

pub one_channel_from : (κs : Lfts 0) (a : Dens κs channel_from_kinds.ps) → OneAnswer (channel_from.Learnt κs a) (λ r s. r)
one_channel_from κs a = one_answer _ _ _ (λ r s p. p)

pub one_count_number : (κs : Lfts 0) (a : Dens κs count_number_kinds.ps) → OneAnswer (count_number.Learnt κs a) (λ r s. r)
one_count_number κs a = one_answer _ _ _ (λ r s p. p)

pub one_count_of : (κs : Lfts 0) (a : Dens κs count_of_kinds.ps) → OneAnswer (count_of.Learnt κs a) (λ r s. r)
one_count_of κs a = one_answer _ _ _ (λ r s p. p)

pub one_flag_number : (κs : Lfts 0) (a : Dens κs flag_number_kinds.ps) → OneAnswer (flag_number_lem.Learnt κs a) (λ r s. r)
one_flag_number κs a = one_answer _ _ _ (λ r s p. p)

pub one_flag_of : (κs : Lfts 0) (a : Dens κs flag_of_kinds.ps) → OneAnswer (flag_of.Learnt κs a) (λ r s. r)
one_flag_of κs a = one_answer _ _ _ (λ r s p. p)

pub one_underway_of : (κs : Lfts 0) (a : Dens κs underway_of_kinds.ps) → OneAnswer (underway_of.Learnt κs a) (λ r s. r)
one_underway_of κs a = one_answer _ _ _ (λ r s p. p)

pub one_lent_back : (T : RattleType) (laws : Laws T) (copy : IsCopy T) (clone : Ghosts T.Denot) (d : Dict) (κs : Lfts 2) (a : Dens κs (lent_back_kinds.ps T laws copy))
    → OneAnswer {W = ℕ × T.Denot} (lent_back.Learnt T laws copy clone d κs a) (λ r s. (r, s.1.1.0.now))
one_lent_back T laws copy clone d κs a = one_answer _ _ _ (λ r s p. together p.0 p.1)
