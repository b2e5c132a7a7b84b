-- The receiver with document 01's rules is the receiver.
use Prim.Native.Nat.{ℕ, ◌-◌, ◌≤◌}
use mathlib.Core.Bool.{Bool, true, false}
use mathlib.Core.List.{List}
use mathlib.Core.Path.{◌≡◌, refl, sym, ap, ◌∙◌}
use lib.Dec.{ltb}
use lib.ListN.{length, get_or, set}
use lib.Seq.{set-set, set_out, get_or-set_same}
use borrow.Author.Tests.{ltb-true, ltb-false}
use Rattle.laws.proofs.Tests.{and-true}
use Rattle.header.specs.declared.Header.{Header}
use Rattle.verdict.specs.declared.Settings.{Settings}
use Rattle.verdict.specs.declared.answers.Answer.{Answer}
use Rattle.verdict.specs.Judge.{judge}
use Rattle.verdict.proofs.Checked.{accepted}
use Rattle.std.specs.Prelude.{Option, None, Some, Result, Ok, Err}
use Rattle.joining.specs.declared.Cargo.{Cargo}
use Rattle.joining.specs.declared.channels.Channel.{Channel}
use Rattle.step.specs.declared.steps.Went.{Went}
use Rattle.joining.specs.Channel.{fresh_channel, is_repeat, repeated, heard_of}
use Rattle.joining.specs.Joining.{place}
use Rattle.step.specs.Step.{go_on, step_of, bytes_in, channel_of}
use Rattle.receiver.specs.declared.Receiver.{Receiver}
use Rattle.receiver.specs.declared.Received.{Received}
use Rattle.receiver.specs.State.{in_range, fits, sound, sound_receiver, channel_at}
use Rattle.receiver.specs.Take.{step_on, received_by}
use Rattle.receiver.proofs.Rule.{join_by_rule}
use Rattle.link.specs.Run.{receiving}
use Rattle.link.specs.Rules.{Joins, Spares, numbered, place_by, go_on_by, step_by, taken_by, receiving_by, joins_due, spares_all, RulesRight, own}

-- a number kept at the channel's own place is the channel's
own_kept : (cs : List Channel) (i : ℕ) (c : Channel) → set (set cs i c) i (numbered c (get_or (set cs i c) i fresh_channel)) ≡ set cs i c
own_kept cs i c = set-set cs i c _ ∙ go (ltb i (length cs)) refl
  where
    go : (b : Bool) → ltb i (length cs) ≡ b → set cs i (numbered c (get_or (set cs i c) i fresh_channel)) ≡ set cs i c
    go true e = ap (λ (y : Channel). set cs i (numbered c y)) (get_or-set_same cs i c fresh_channel (ltb-true i (length cs) e))
    go false e = set_out cs i _ (ltb-false i (length cs) e) ∙ sym (set_out cs i c (ltb-false i (length cs) e))

module _ (J : Joins) (L : Spares) where
  pub own_taken : (r : Receiver) (i : ℕ) (s : Result Went Answer) → taken_by own J is_repeat L repeated heard_of r i s ≡ received_by r i s
  own_taken r i (Err answer) = refl
  own_taken r i (Ok w) = rw (own_kept r.channels i w.channel)

-- in a sound state, with a buffer that is long enough
module _ (g : Settings) (h : Header) (room : ℕ) (roomy : g.limit - 4 ≤ room) where
  place_right : (underway : Option Cargo) (gap : ℕ) → fits g underway ≡ true
      → place_by own joins_due is_repeat spares_all repeated heard_of underway h gap ≡ place underway h room gap
  unfolding place_by place
  place_right None gap e = refl
  place_right (Some cargo) gap e = rw (join_by_rule g h room gap cargo e roomy)

  go_right : (underway : Option Cargo) (c : Channel) (n : ℕ) → fits g underway ≡ true
      → go_on_by own joins_due is_repeat spares_all repeated heard_of underway c h n ≡ go_on underway c h n room
  unfolding go_on_by go_on
  go_right underway c n e = rw (place_right underway _ e)

module _ (r : Receiver) (buffer t : List ℕ) where
  step_right : (v : Result Header Answer) → judge (sound_receiver r) r.settings t (length buffer) ≡ v
      → step_by own joins_due is_repeat spares_all repeated heard_of r.underway (channel_at r (channel_of t)) (length t) v
      ≡ step_of r.underway (channel_at r (channel_of t)) (length t) (length buffer) v
  unfolding step_by step_of sound
  step_right (Err answer) e = refl
  step_right (Ok h) e =
      let a = accepted (sound_receiver r) r.settings t (length buffer) h e in
      ap (λ (w : Went). Ok w) (go_right r.settings h (length buffer) a.roomy r.underway _ (length t) (and-true (in_range r.settings) _ a.ok).1)

  receiving_right : receiving_by own joins_due is_repeat spares_all repeated heard_of r buffer t ≡ receiving r buffer t
  unfolding receiving_by step_on
  receiving_right =
      let v = judge (sound_receiver r) r.settings t (length buffer) in
      let s = step_by own joins_due is_repeat spares_all repeated heard_of r.underway (channel_at r (channel_of t)) (length t) v in
      ap (λ (a : Received). record { received = a; buffer = bytes_in s t buffer }) (own_taken joins_due spares_all r (channel_of t) s)
      ∙ ap (λ (s : Result Went Answer). record { received = received_by r (channel_of t) s; buffer = bytes_in s t buffer }) (step_right _ refl)

pub rules_right : RulesRight
rules_right i r buffer t = receiving_right r buffer t i
