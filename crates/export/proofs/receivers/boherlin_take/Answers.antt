use Prim.Native.Nat.{ℕ, ◌<◌, ◌%◌}
use mathlib.Core.Path.{◌≡◌, refl, sym, ap, ◌∙◌}
use mathlib.Core.Bool.{Bool}
use mathlib.Core.List.{List, ◌++◌, append-nil}
use native.Mathlib.Omega.{arith}
use lib.ListN.{length, drop, drop_of_length-le}
use lib.Seq.{set-get_or}
use borrow.Author.Tests.{eq-eqb}
use Rattle.verdict.specs.declared.Settings.{Settings}
use Rattle.verdict.specs.declared.answers.Answer.{Answer}
use Rattle.std.specs.Prelude.{Option, Result, Ok, Err}
use Rattle.joining.specs.declared.Cargo.{Cargo}
use Rattle.joining.specs.declared.channels.Channel.{Channel}
use Rattle.joining.specs.Channel.{fresh_channel}
use Rattle.step.specs.declared.steps.Went.{Went}
use Rattle.step.specs.declared.steps.Taken.{Taken}
use Rattle.step.specs.Step.{step_in, bytes_in, taken_by, channel_of}
use Rattle.receiver.specs.declared.Receiver.{Receiver}
use Rattle.receiver.specs.declared.Received.{Received}
use Rattle.receiver.specs.State as states
use Rattle.receiver.specs.State.{sound_receiver, channel_at, with_channel}
use Rattle.receiver.specs.Take.{received_by, receive}
use Rattle.receiver.proofs.Written.{taken, bytes_taken}
use Rattle.export.specs.Receivers.{channel_in, receiver_of, receiver_numbers, answer_numbers, take_number, row_taken, cargo_taken}
use Rattle.export.proofs.Channels.{channel_at_lem}
use Rattle.export.proofs.receivers.boherlin_take.Goals as goal

-- what a step leaves, put back at its channel's place, is the receiver that it makes
rejoined : (row : List ℕ) (i : ℕ) → i < 32 → {underway : Option Cargo} → underway ≡ (receiver_of row).underway → {c : Channel} → c ≡ channel_in row i
    → (step : Result Went Answer) {x : Taken} → x ≡ taken_by c underway step
    → record { receiver = with_channel (receiver_of row) i x.channel x.underway; answer = x.answer } ≡ received_by (receiver_of row) i step
rejoined row i l eu ec (Err answer) ex =
    rw (ex, eu, ec, ← channel_at_lem row 32 i fresh_channel l, set-get_or (receiver_of row).channels i fresh_channel)
rejoined row i l eu ec (Ok w) ex = rw ex

module _ (row t cargo : List ℕ) (all : length row ≡ 140) (i : ℕ) (p : i ≡ channel_of t % 32) (l : i < 32)
    {settings : Settings} (es : settings ≡ (receiver_of row).settings) {underway : Option Cargo} (eu : underway ≡ (receiver_of row).underway)
    {sound : Bool} (ok : sound ≡ states.sound settings underway) {c : Channel} (ec : c ≡ channel_in row i)
    {step : Result Went Answer} (e : step ≡ step_in sound settings underway c t (length cargo))
    {cargo' : List ℕ} (ed : cargo' ≡ bytes_in (step_in sound settings underway c t (length cargo)) t cargo) where
  abbrev r : Receiver
  r = receiver_of row

  is_sound : sound ≡ sound_receiver r
  is_sound = ok ∙ rw (es, eu)

  -- the step over what was read of the row is the receiver's
  step_is : step_in sound settings underway c t (length cargo) ≡ step_in sound r.settings r.underway (channel_at r i) t (length cargo)
  step_is = rw (es, eu, ec ∙ sym (channel_at_lem row 32 i fresh_channel l))

  took : (c' : Channel) (underway' : Option Cargo) (answer : Answer) → record { receiver = with_channel r i c' underway'; answer = answer } ≡ received_by r i step
      → {told : List ℕ} → told ≡ answer_numbers answer → {row' : List ℕ} → row' ≡ receiver_numbers (with_channel r i c' underway') ++ told ++ drop 140 row
      → (answer.number ≡ take_number row t (length cargo)) × ((row' ≡ row_taken row t (length cargo)) × (cargo' ≡ cargo_taken row t cargo))
  unfolding take_number row_taken cargo_taken
  took c' underway' answer ew {told} et {row'} er =
      let g = eq-eqb (length row) 140 all in
      let x : Received = record { receiver = with_channel r i c' underway'; answer = answer } in
      let w : x ≡ receive r t (length cargo) = ew ∙ taken r t (length cargo) i p is_sound (e ∙ step_is) in
      let y : row' ≡ receiver_numbers x.receiver ++ answer_numbers x.answer = er ∙ rw (drop_of_length-le row {i = 140} (omega arith), et) (append-nil _) in (
        simp g (ap (λ (q : Received). q.answer.number) w),
        (
          simp g (y ∙ ap (λ (q : Received). receiver_numbers q.receiver ++ answer_numbers q.answer) w),
          simp g (ed ∙ bytes_taken r t (length cargo) i p is_sound step_is cargo refl),
        ),
      )

pub returns-clause-value : goal.returns-clause-value
returns-clause-value c =
    let a = c.args in
    let k = c.step_in-step.ensures in
    let u = c.underway_in-before.ensures in
    let p = ap (λ (n : ℕ). n % 32) c.channel_of-i.ensures in
    let w = rejoined a.row.now (c.channel_of-i.result % 32) (omega arith) u c.channel_in-kept.ensures c.step_in-step.result c.taken_by-underway.ensures in
    (took a.row.now a.transfer.now a.cargo.now c.if-row-ne-ROW.false _ p (omega arith) c.settings_in-settings.ensures u c.is_sound-sound.ensures c.channel_in-kept.ensures k.value k.cargo_after _ _ _ w c.answer_numbers.ensures c.store_after.ensures).0

pub returns-clause-row_after : goal.returns-clause-row_after
returns-clause-row_after c =
    let a = c.args in
    let k = c.step_in-step.ensures in
    let u = c.underway_in-before.ensures in
    let p = ap (λ (n : ℕ). n % 32) c.channel_of-i.ensures in
    let w = rejoined a.row.now (c.channel_of-i.result % 32) (omega arith) u c.channel_in-kept.ensures c.step_in-step.result c.taken_by-underway.ensures in
    (took a.row.now a.transfer.now a.cargo.now c.if-row-ne-ROW.false _ p (omega arith) c.settings_in-settings.ensures u c.is_sound-sound.ensures c.channel_in-kept.ensures k.value k.cargo_after _ _ _ w c.answer_numbers.ensures c.store_after.ensures).1.0

pub returns-clause-cargo_after : goal.returns-clause-cargo_after
returns-clause-cargo_after c =
    let a = c.args in
    let k = c.step_in-step.ensures in
    let u = c.underway_in-before.ensures in
    let p = ap (λ (n : ℕ). n % 32) c.channel_of-i.ensures in
    let w = rejoined a.row.now (c.channel_of-i.result % 32) (omega arith) u c.channel_in-kept.ensures c.step_in-step.result c.taken_by-underway.ensures in
    (took a.row.now a.transfer.now a.cargo.now c.if-row-ne-ROW.false _ p (omega arith) c.settings_in-settings.ensures u c.is_sound-sound.ensures c.channel_in-kept.ensures k.value k.cargo_after _ _ _ w c.answer_numbers.ensures c.store_after.ensures).1.1
