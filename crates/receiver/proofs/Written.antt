-- A receiver whose step is made over the channel at a transfer's place is the receiver.
use Prim.Native.Nat.{ℕ, ◌%◌}
use mathlib.Core.Path.{◌≡◌, refl, ap, ◌∙◌}
use mathlib.Core.List.{List}
use mathlib.Core.Bool.{Bool}
use native.Mathlib.Omega.{arith}
use lib.ListN.{length}
use Rattle.header.specs.declared.Header.{Header}
use Rattle.receiver.specs.declared.Receiver.{Receiver}
use Rattle.std.specs.Prelude.{Result, Ok, Err}
use Rattle.verdict.specs.declared.answers.Answer.{Answer}
use Rattle.step.specs.declared.steps.Went.{Went}
use Rattle.receiver.specs.State.{sound_receiver, channel_at}
use Rattle.verdict.specs.Judge.{judge}
use Rattle.step.specs.Step.{step_of, step_in, bytes_in, channel_of}
use Rattle.receiver.specs.Take.{step_on, received_by, receive, cargo_after}
use Rattle.receiver.proofs.Soundness.{is_sound}
use Rattle.verdict.proofs.Checked.{accepted}

module _ (r : Receiver) (t : List ℕ) (room i : ℕ) (p : i ≡ channel_of t % 32) where
  abbrev verdict : Result Header Answer
  verdict = judge (sound_receiver r) r.settings t room

  abbrev by : ℕ → Result Went Answer
  by j = step_in (sound_receiver r) r.settings r.underway (channel_at r j) t room

  place_is : (h : Header) → verdict ≡ Ok h → i ≡ channel_of t
  place_is h e =
      let a = accepted (sound_receiver r) r.settings t room h e in
      let k : channel_of t ≡ h.channel = ap (λ (x : Header). x.channel) a.stands.same in
      let f = (is_sound r.settings r.underway a.ok).few in
      let l = a.read.taken.channel in
      omega arith

  by_slot : (v : Result Header Answer) → verdict ≡ v → received_by r i (by i) ≡ received_by r (channel_of t) (by (channel_of t))
  unfolding step_of
  by_slot (Err answer) e = rw e
  by_slot (Ok h) e = rw (place_is h e)

  same : (v : Result Header Answer) → verdict ≡ v → by i ≡ by (channel_of t)
  unfolding step_of
  same (Err answer) e = rw e
  same (Ok h) e = rw (place_is h e)

  module _ {sound : Bool} (ok : sound ≡ sound_receiver r) {s : Result Went Answer} (e : s ≡ step_in sound r.settings r.underway (channel_at r i) t room) where
    is_by : s ≡ by i
    is_by = e ∙ ap (λ (b : Bool). step_in b r.settings r.underway (channel_at r i) t room) ok

    -- the step made over the channel at its place
    pub step_is : s ≡ step_on r t room
    unfolding step_on
    step_is = is_by ∙ same verdict refl

    -- the receiver after it, written at that place
    pub taken : received_by r i s ≡ receive r t room
    unfolding step_on
    taken = ap (received_by r i) is_by ∙ by_slot verdict refl

    -- and the buffer
    pub bytes_taken : (d : List ℕ) → length d ≡ room → bytes_in s t d ≡ cargo_after r t d
    bytes_taken d q = rw q (ap (λ (x : Result Went Answer). bytes_in x t d) step_is)
