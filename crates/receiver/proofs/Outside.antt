-- "no other byte of the buffer changes": what lies before and behind the carried bytes.
use Prim.Native.Nat.{ℕ, ◌<◌, ◌≤◌, ◌+◌, ◌-◌}
use mathlib.Core.Path.{◌≡◌, refl, sym, ap, ◌∙◌}
use mathlib.Core.List.{List, ◌++◌, append_assoc}
use native.Mathlib.Omega.{arith}
use lib.ListN.{length, get_or, take, drop, length-drop}
use lib.Seq.{paste, paste-zero, length-paste, drop-paste, get_or-take, get_or-drop, take_at, length-take-le}
use Rattle.receiver.specs.declared.Receiver.{Receiver}
use mathlib.Core.Bool.{Bool}
use lib.Dec.{leb}
use Rattle.laws.proofs.Tests.{by_cases}
use Rattle.header.specs.declared.Header.{Header}
use Rattle.header.specs.Sequence.{gap_of}
use Rattle.std.specs.Prelude.{Option, None, Some, is_some, Result, Ok, Err}
use Rattle.joining.specs.declared.Cargo.{Cargo}
use Rattle.joining.specs.declared.channels.Channel.{Channel}
use Rattle.verdict.specs.declared.answers.Answer.{Answer}
use Rattle.joining.specs.declared.joinings.Joining.{Joining}
use Rattle.step.specs.declared.steps.Went.{Went}
use Rattle.receiver.specs.State.{sound_receiver, channel_at}
use Rattle.verdict.specs.Judge.{judge}
use Rattle.joining.specs.Channel.{is_repeat}
use Rattle.joining.specs.Joining.{held_of, carried_of}
use Rattle.step.specs.Step.{ended, after, go_on, step_of, bytes_in, channel_of}
use Rattle.receiver.specs.Take.{step_on, cargo_after}
use Rattle.step.proofs.Carried.{Copies, place_copies}
use Rattle.verdict.proofs.Checked.{accepted}

-- where a step carried its bytes to, and how many
abbrev pub at_of : Result Went Answer → ℕ
at_of (Err answer) = 0
at_of (Ok w) = w.at

abbrev pub carried_by : Result Went Answer → ℕ
carried_by (Err answer) = 0
carried_by (Ok w) = w.carried

pub record Within (n room : ℕ) (s : Result Went Answer) : Type 0 where
  pub there : carried_by s ≤ n - 4
  pub fits : at_of s + carried_by s ≤ room

ended_within : (c : Channel) (h : Header) (n room gap : ℕ) (dropped : Bool) (carried : ℕ) (cargo : Option Cargo)
    → carried ≤ n - 4 → held_of cargo + carried ≤ room → Within n room (Ok (ended c h n gap dropped carried cargo))
unfolding ended
ended_within c h n room gap dropped carried None a b = record { there = a; fits = b }
ended_within c h n room gap dropped carried (Some cargo) a b =
    by_cases (λ (w : Went). Within n room (Ok w)) (leb h.length n) _ _ (λ q. record { there = a; fits = b }) (λ q. record { there = a; fits = b })

after_within : (c : Channel) (h : Header) (n room gap : ℕ) (p : Joining) → Copies h n room p
    → Within n room (Ok (after c h n gap p (carried_of (is_some p.cargo) n h.length)))
after_within c h n room gap p k = ended_within c h n room gap p.dropped _ p.cargo k.there k.fits

step_within : (sound : Bool) (r : Receiver) (underway : Option Cargo) (c : Channel) (t : List ℕ) (room : ℕ) (v : Result Header Answer) → judge sound r.settings t room ≡ v
    → Within (length t) room (step_of underway c (length t) room v)
unfolding step_of go_on
step_within sound r underway c t room (Err answer) e = record { there = omega arith; fits = omega arith }
step_within sound r underway c t room (Ok h) e =
    let a = accepted sound r.settings t room h e in
    let s = a.read.taken.short in
    let l = a.roomy in
    by_cases (λ (w : Went). Within (length t) room (Ok w)) (is_repeat c (gap_of h.number c.counter.next)) _ _
    (λ q. record { there = omega arith; fits = omega arith })
    (λ q. after_within _ h (length t) room _ _ (place_copies h (length t) room a.read.taken.long (omega arith) underway _))

whole : (s : Result Went Answer) (t d : List ℕ) → bytes_in s t d ≡ paste d (at_of s) (drop 4 t) (carried_by s)
whole (Err answer) t d = paste-zero d 0 (drop 4 t)
whole (Ok w) t d = refl

module _ (s : Result Went Answer) (t d : List ℕ) (c : Within (length t) (length d) s) where
  abbrev pasted : List ℕ
  pasted = paste d (at_of s) (drop 4 t) (carried_by s)

  there : carried_by s ≤ length (drop 4 t)
  there = let k = c.there in simp length-drop k

  pub same_length : length (bytes_in s t d) ≡ length d
  same_length = ap length (whole s t d) ∙ length-paste d (at_of s) (drop 4 t) (carried_by s) c.fits there

  pub before : (i : ℕ) → i < at_of s → get_or (bytes_in s t d) i 0 ≡ get_or d i 0
  before i h =
      let f = c.fits in
      let e : take (at_of s) pasted ≡ take (at_of s) d =
      ap (take (at_of s)) (append_assoc (take (at_of s) d) (take (carried_by s) (drop 4 t)) (drop (at_of s + carried_by s) d))
      ∙ take_at (take (at_of s) d) (take (carried_by s) (drop 4 t) ++ drop (at_of s + carried_by s) d) (at_of s) (length-take-le (at_of s) d (omega arith)) in
      ap (λ (l : List ℕ). get_or l i 0) (whole s t d) ∙ sym (get_or-take (at_of s) pasted i 0 h) ∙ ap (λ (l : List ℕ). get_or l i 0) e ∙ get_or-take (at_of s) d i 0 h

  pub behind : (i : ℕ) → at_of s + carried_by s ≤ i → get_or (bytes_in s t d) i 0 ≡ get_or d i 0
  behind i h =
      let f = c.fits in
      let n = at_of s + carried_by s in
      let e : drop (at_of s + carried_by s) pasted ≡ drop (at_of s + carried_by s) d = drop-paste d (at_of s) (drop 4 t) (carried_by s) (omega arith) there in
      let k : at_of s + carried_by s + (i - (at_of s + carried_by s)) ≡ i = omega arith in
      let g : (l : List ℕ) → get_or (drop (at_of s + carried_by s) l) (i - (at_of s + carried_by s)) 0 ≡ get_or l i 0 =
      λ l. get_or-drop (at_of s + carried_by s) l (i - (at_of s + carried_by s)) 0 ∙ ap (λ (j : ℕ). get_or l j 0) k in
      ap (λ (l : List ℕ). get_or l i 0) (whole s t d) ∙ sym (g pasted) ∙ ap (λ (l : List ℕ). get_or l (i - (at_of s + carried_by s)) 0) e ∙ g d

module _ (r : Receiver) (t d : List ℕ) where
  abbrev step : Result Went Answer
  step = step_on r t (length d)

  within : Within (length t) (length d) step
  unfolding step_on
  within = step_within (sound_receiver r) r r.underway (channel_at r (channel_of t)) t (length d) (judge (sound_receiver r) r.settings t (length d)) refl

  pub cargo_length : length (cargo_after r t d) ≡ length d
  cargo_length = same_length step t d within

  pub cargo_before : (i : ℕ) → i < at_of step → get_or (cargo_after r t d) i 0 ≡ get_or d i 0
  cargo_before = before step t d within

  pub cargo_behind : (i : ℕ) → at_of step + carried_by step ≤ i → get_or (cargo_after r t d) i 0 ≡ get_or d i 0
  cargo_behind = behind step t d within
