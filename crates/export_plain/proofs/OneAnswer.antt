-- Each public function's contract decides its answer, and the content of what was lent to it.
-- `Learnt` is the contract itself, as the checker hands it to callers: nothing is stated a second time here.
use mathlib.Core.Bool.{Bool}
use mathlib.Core.List.{List}
use Prim.Native.Nat.{ℕ}
use contract.Lifetimes.{Lfts}
use denote.Ref.{Bor}
use borrow.Fn.Kinds.{Dens}
use Rattle.laws.specs.OneAnswer.{OneAnswer, one_answer, together}
use Rattle.export_plain.proofs.headers.boherlin_read_header.Kinds as read_header_kinds
use Rattle.export_plain.proofs.headers.boherlin_read_header.Reads as read_header
use Rattle.export_plain.proofs.headers.boherlin_write_header.Kinds as write_header_kinds
use Rattle.export_plain.proofs.headers.boherlin_write_header.Reads as write_header
use Rattle.export_plain.proofs.headers.boherlin_first_number.Kinds as first_number_kinds
use Rattle.export_plain.proofs.headers.boherlin_first_number.Reads as first_number
use Rattle.export_plain.proofs.headers.boherlin_next_number.Kinds as next_number_kinds
use Rattle.export_plain.proofs.headers.boherlin_next_number.Reads as next_number
use Rattle.export_plain.proofs.headers.boherlin_gap.Kinds as gap_kinds
use Rattle.export_plain.proofs.headers.boherlin_gap.Reads as gap
use Rattle.export_plain.proofs.entries.boherlin_entry_at.Kinds as entry_at_kinds
use Rattle.export_plain.proofs.entries.boherlin_entry_at.Reads as entry_at
use Rattle.export_plain.proofs.entries.boherlin_next_entry.Kinds as next_entry_kinds
use Rattle.export_plain.proofs.entries.boherlin_next_entry.Reads as next_entry
use Rattle.export_plain.proofs.entries.boherlin_value_at.Kinds as value_at_kinds
use Rattle.export_plain.proofs.entries.boherlin_value_at.Reads as value_at
use Rattle.export_plain.proofs.entries.boherlin_write_entry.Kinds as write_entry_kinds
use Rattle.export_plain.proofs.entries.boherlin_write_entry.Reads as write_entry
use Rattle.export_plain.proofs.error_lists.boherlin_count_codes.Kinds as count_codes_kinds
use Rattle.export_plain.proofs.error_lists.boherlin_count_codes.Reads as count_codes
use Rattle.export_plain.proofs.error_lists.boherlin_code_at.Kinds as code_at_kinds
use Rattle.export_plain.proofs.error_lists.boherlin_code_at.Reads as code_at
use Rattle.export_plain.proofs.error_lists.boherlin_meaning_of.Kinds as meaning_of_kinds
use Rattle.export_plain.proofs.error_lists.boherlin_meaning_of.Reads as meaning_of
use Rattle.export_plain.proofs.answers.boherlin_told.Kinds as told_kinds
use Rattle.export_plain.proofs.answers.boherlin_told.Reads as told
use Rattle.export_plain.proofs.answers.boherlin_delivered.Kinds as delivered_kinds
use Rattle.export_plain.proofs.answers.boherlin_delivered.Reads as delivered
use Rattle.export_plain.proofs.answers.boherlin_is_sound.Kinds as is_sound_kinds
use Rattle.export_plain.proofs.answers.boherlin_is_sound.Reads as is_sound
use Rattle.export_plain.proofs.texts.boherlin_heading.Kinds as heading_kinds
use Rattle.export_plain.proofs.texts.boherlin_heading.Reads as heading
use Rattle.export_plain.proofs.texts.boherlin_line.Kinds as line_kinds
use Rattle.export_plain.proofs.texts.boherlin_line.Reads as line
use Rattle.export_plain.proofs.steps.boherlin_step_in.Kinds as step_in_kinds
use Rattle.export_plain.proofs.steps.boherlin_step_in.Reads as step_in
use Rattle.export_plain.proofs.steps.boherlin_slot.Kinds as slot_kinds
use Rattle.export_plain.proofs.steps.boherlin_slot.Reads as slot
use Rattle.export_plain.proofs.odometers.boherlin_fresh_odometer.Kinds as fresh_odometer_kinds
use Rattle.export_plain.proofs.odometers.boherlin_fresh_odometer.Reads as fresh_odometer
use Rattle.export_plain.proofs.odometers.boherlin_hear.Kinds as hear_kinds
use Rattle.export_plain.proofs.odometers.boherlin_hear.Reads as hear
use Rattle.export_plain.proofs.odometers.boherlin_hear_answer.Kinds as hear_answer_kinds
use Rattle.export_plain.proofs.odometers.boherlin_hear_answer.Reads as hear_answer
use Rattle.export_plain.proofs.odometers.boherlin_distance.Kinds as distance_kinds
use Rattle.export_plain.proofs.odometers.boherlin_distance.Reads as distance
use Rattle.export_plain.proofs.odometers.boherlin_total_in.Kinds as total_in_kinds
use Rattle.export_plain.proofs.odometers.boherlin_total_in.Reads as total_in

-- a part: its bytes, and where it lies
abbrev Part : Type 0
Part = List ℕ × (ℕ × ℕ)

abbrev part : Bor (List ℕ) → Part
part r = (r.now, r.ref_ptr)

pub one_read_header : (κs : Lfts 2) (a : Dens κs read_header_kinds.ps) → OneAnswer {W = ℕ × List ℕ} (read_header.Learnt κs a) (λ r s. (r, s.1.0.now))
one_read_header κs a = one_answer _ _ _ (λ r s p. together p.0 p.1)

pub one_write_header : (κs : Lfts 1) (a : Dens κs write_header_kinds.ps) → OneAnswer {W = ℕ × List ℕ} (write_header.Learnt κs a) (λ r s. (r, s.1.1.1.1.0.now))
one_write_header κs a = one_answer _ _ _ (λ r s p. together p.0 p.1)

pub one_first_number : (κs : Lfts 0) (a : Dens κs first_number_kinds.ps) → OneAnswer (first_number.Learnt κs a) (λ r s. r)
one_first_number κs a = one_answer _ _ _ (λ r s p. p)

pub one_next_number : (κs : Lfts 0) (a : Dens κs next_number_kinds.ps) → OneAnswer (next_number.Learnt κs a) (λ r s. r)
one_next_number κs a = one_answer _ _ _ (λ r s p. p)

pub one_gap : (κs : Lfts 0) (a : Dens κs gap_kinds.ps) → OneAnswer (gap.Learnt κs a) (λ r s. r)
one_gap κs a = one_answer _ _ _ (λ r s p. p)

pub one_entry_at : (κs : Lfts 2) (a : Dens κs entry_at_kinds.ps) → OneAnswer {W = ℕ × List ℕ} (entry_at.Learnt κs a) (λ r s. (r, s.1.1.0.now))
one_entry_at κs a = one_answer _ _ _ (λ r s p. together p.0 p.1)

pub one_next_entry : (κs : Lfts 3) (a : Dens κs next_entry_kinds.ps) → OneAnswer {W = ℕ × (ℕ × List ℕ)} (next_entry.Learnt κs a) (λ r s. (r, (s.1.0.now, s.1.1.0.now)))
one_next_entry κs a = one_answer _ _ _ (λ r s p. together p.0 (together p.1.0 p.1.1))

pub one_value_at : (κs : Lfts 2) (a : Dens κs value_at_kinds.ps) → OneAnswer {W = Part} (value_at.Learnt κs a) (λ r s. part s.1.1.0.now)
one_value_at κs a = one_answer _ _ _ (λ r s p. together p.bytes (together p.block p.start))

pub one_write_entry : (κs : Lfts 3) (a : Dens κs write_entry_kinds.ps) → OneAnswer {W = ℕ × (List ℕ × ℕ)} (write_entry.Learnt κs a) (λ r s. (r, (s.1.1.0.now, s.1.1.1.0.now)))
one_write_entry κs a = one_answer _ _ _ (λ r s p. together p.0 (together p.1.0 p.1.1))

pub one_count_codes : (κs : Lfts 2) (a : Dens κs count_codes_kinds.ps) → OneAnswer {W = ℕ × ℕ} (count_codes.Learnt κs a) (λ r s. (r, s.1.0.now))
one_count_codes κs a = one_answer _ _ _ (λ r s p. together p.0 p.1)

pub one_code_at : (κs : Lfts 2) (a : Dens κs code_at_kinds.ps) → OneAnswer {W = ℕ × List ℕ} (code_at.Learnt κs a) (λ r s. (r, s.1.1.0.now))
one_code_at κs a = one_answer _ _ _ (λ r s p. together p.0 p.1)

pub one_meaning_of : (κs : Lfts 0) (a : Dens κs meaning_of_kinds.ps) → OneAnswer (meaning_of.Learnt κs a) (λ r s. r)
one_meaning_of κs a = one_answer _ _ _ (λ r s p. p)

pub one_told : (κs : Lfts 3) (a : Dens κs told_kinds.ps) → OneAnswer {W = ℕ × (ℕ × Bool)} (told.Learnt κs a) (λ r s. (r, (s.1.0.now, s.1.1.0.now)))
one_told κs a = one_answer _ _ _ (λ r s p. together p.0 (together p.1.0 p.1.1))

pub one_delivered : (κs : Lfts 3) (a : Dens κs delivered_kinds.ps) → OneAnswer {W = Part} (delivered.Learnt κs a) (λ r s. part s.1.1.0.now)
one_delivered κs a = one_answer _ _ _ (λ r s p. together p.bytes p.place)

pub one_is_sound : (κs : Lfts 1) (a : Dens κs is_sound_kinds.ps) → OneAnswer (is_sound.Learnt κs a) (λ r s. r)
one_is_sound κs a = one_answer _ _ _ (λ r s p. p)

pub one_heading : (κs : Lfts 2) (a : Dens κs heading_kinds.ps) → OneAnswer {W = ℕ × (List ℕ × ℕ)} (heading.Learnt κs a) (λ r s. (r, (s.0.now, s.1.0.now)))
one_heading κs a = one_answer _ _ _ (λ r s p. together p.0 (together p.1.0 p.1.1))

pub one_line : (κs : Lfts 6) (a : Dens κs line_kinds.ps) → OneAnswer {W = ℕ × (List ℕ × ℕ)} (line.Learnt κs a) (λ r s. (r, (s.1.1.1.1.0.now, s.1.1.1.1.1.0.now)))
one_line κs a = one_answer _ _ _ (λ r s p. together p.0 (together p.1.0 p.1.1))

pub one_step_in : (κs : Lfts 5) (a : Dens κs step_in_kinds.ps) → OneAnswer {W = ℕ × (List ℕ × (List ℕ × (List ℕ × List ℕ)))} (step_in.Learnt κs a) (λ r s. (r, (s.1.1.0.now, (s.1.1.1.0.now, (s.1.1.1.1.1.0.now, s.1.1.1.1.1.1.0.now)))))
one_step_in κs a = one_answer _ _ _ (λ r s p. together p.0 (together p.1.0 (together p.1.1.0 (together p.1.1.1.0 p.1.1.1.1))))

pub one_slot : (κs : Lfts 1) (a : Dens κs slot_kinds.ps) → OneAnswer (slot.Learnt κs a) (λ r s. r)
one_slot κs a = one_answer _ _ _ (λ r s p. p)

pub one_fresh_odometer : (κs : Lfts 1) (a : Dens κs fresh_odometer_kinds.ps) → OneAnswer {W = List ℕ} (fresh_odometer.Learnt κs a) (λ r s. s.1.1.0.now)
one_fresh_odometer κs a = one_answer _ _ _ (λ r s p. p)

pub one_hear : (κs : Lfts 3) (a : Dens κs hear_kinds.ps) → OneAnswer {W = ℕ × (List ℕ × List ℕ)} (hear.Learnt κs a) (λ r s. (r, (s.0.now, s.1.1.1.0.now)))
one_hear κs a = one_answer _ _ _ (λ r s p. together p.0 (together p.1.0 p.1.1))

pub one_hear_answer : (κs : Lfts 4) (a : Dens κs hear_answer_kinds.ps) → OneAnswer {W = ℕ × (List ℕ × List ℕ)} (hear_answer.Learnt κs a) (λ r s. (r, (s.0.now, s.1.1.1.0.now)))
one_hear_answer κs a = one_answer _ _ _ (λ r s p. together p.0 (together p.1.0 p.1.1))

pub one_distance : (κs : Lfts 2) (a : Dens κs distance_kinds.ps) → OneAnswer {W = ℕ × ℕ} (distance.Learnt κs a) (λ r s. (r, s.1.0.now))
one_distance κs a = one_answer _ _ _ (λ r s p. together p.0 p.1)

pub one_total_in : (κs : Lfts 2) (a : Dens κs total_in_kinds.ps) → OneAnswer {W = ℕ × ℕ} (total_in.Learnt κs a) (λ r s. (r, s.1.0.now))
one_total_in κs a = one_answer _ _ _ (λ r s p. together p.0 p.1)
