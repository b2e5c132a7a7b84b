-- Each transfer goes one of four ways: it is stopped, it is a repeat, it is not joined, or it is taken on its channel.
use Prim.Native.Nat.{ℕ}
use mathlib.Core.Path.{◌≡◌, refl, sym, ap}
use mathlib.Core.List.{List}
use mathlib.Core.Bool.{Bool, true, false, not, ◌&&◌}
use lib.Dec.{ltb, leb, eqb}
use lib.ListN.{length}
use Rattle.laws.proofs.Tests.{by_cases, clash}
use Rattle.header.proofs.Stands.{stands}
use Rattle.header.specs.declared.Header.{Header}
use Rattle.std.specs.Prelude.{Option, None, Some, is_some, Result, Ok, Err}
use Rattle.refusals.specs.declared.Refusal.{Refusal}
use Rattle.refusals.specs.declared.Refusal.TheVariants.{ShortTransfer}
use Rattle.header.specs.Header.{reading_of}
use Rattle.header.specs.Sequence.{gap_of}
use Rattle.verdict.specs.declared.Settings.{Settings}
use Rattle.joining.specs.declared.Cargo.{Cargo}
use Rattle.verdict.specs.declared.answers.Answer.{Answer}
use Rattle.verdict.specs.declared.answers.Kind.{Kind}
use Rattle.verdict.specs.declared.answers.Kind.TheVariants.{Delivered, Part, Null, Refused}
use Rattle.joining.specs.declared.channels.Channel.{Channel}
use Rattle.step.specs.declared.steps.Went.{Went}
use Rattle.verdict.specs.Answer.{tell, refusal, refused}
use Rattle.verdict.specs.Judge.{judge_header, answered, judge_reading, judge}
use Rattle.joining.specs.Channel.{is_repeat, repeated, heard_of}
use Rattle.joining.specs.Joining.{carried_of}
use Rattle.step.specs.Step.{went, ended, go_on, step_of, step_in, channel_of}

-- null, and every refusal but 20 and 21
abbrev pub quiet_kind : Kind → ℕ → Bool
quiet_kind (Delivered channel len) number = false
quiet_kind Part number = false
quiet_kind Null number = eqb number 0
quiet_kind Refused number = not (eqb number 20) && not (eqb number 21)

abbrev pub quiet : Answer → Bool
quiet a = quiet_kind a.kind a.number

-- a cargo of this channel is under way
abbrev pub Under : ℕ → Option Cargo → Type 0
Under channel None = ⊥
Under channel (Some cargo) = cargo.channel ≡ channel

-- delivered and part: the cargo is this channel's
abbrev pub Taken : ℕ → Option Cargo → Kind → Type 0
Taken channel underway (Delivered c len) = c ≡ channel
Taken channel underway Part = Under channel underway
Taken channel underway Null = ⊥
Taken channel underway Refused = ⊥

pub data Way (channel : ℕ) (underway : Option Cargo) (c : Channel) : Result Went Answer → Type 0 where
  kept : (answer : Answer) → quiet answer ≡ true → Way channel underway c (Err answer)
  again : Way channel underway c (Ok (went (repeated c) underway (refusal 20) 0 0))
  lost : (number gap : ℕ) (dropped : Bool) (at carried : ℕ) → carried ≡ 0
      → Way channel underway c (Ok (went (heard_of c number gap) None (tell Refused 21 gap dropped) at carried))
  took : (number gap : ℕ) (dropped : Bool) (underway' : Option Cargo) (kind : Kind) (at carried : ℕ) → Taken channel underway' kind
      → Way channel underway c (Ok (went (heard_of c number gap) underway' (tell kind 0 gap dropped) at carried))

-- a header that was read is this channel's
abbrev Of : ℕ → Result (Option Header) Refusal → Type 0
Of channel x = (h : Header) → x ≡ Ok (Some h) → h.channel ≡ channel

of_channel : (t : List ℕ) → Of (channel_of t) (reading_of t)
of_channel t h e = sym (ap (λ (x : Header). x.channel) (stands t h e).same)

-- what is too short for a header is refused with 2
short : (t : List ℕ) (r : Refusal) → reading_of t ≡ Err r → quiet (refused r) ≡ true
unfolding reading_of
short t r e =
    by_cases (λ (x : Result (Option Header) Refusal). x ≡ Err r → quiet (refused r) ≡ true) (ltb (length t) 4) _ _
    (λ q f. let g : ShortTransfer ≡ r = cc in rw (← g) refl) (λ q f. absurd (clash (cc))) e

module _ (channel : ℕ) (underway : Option Cargo) (c : Channel) (n room : ℕ) where
  abbrev Goes : Result Went Answer → Type 0
  Goes = Way channel underway c

  module _ (h : Header) (on : h.channel ≡ channel) where
    ended_way : (gap : ℕ) (dropped : Bool) (cargo : Option Cargo)
        → Goes (Ok (ended (heard_of c h.number gap) h n gap dropped (carried_of (is_some cargo) n h.length) cargo))
    unfolding ended carried_of
    ended_way gap dropped None = lost h.number gap dropped 0 _ refl
    ended_way gap dropped (Some cargo) =
        by_cases (λ (w : Went). Goes (Ok w)) (leb h.length n) _ _
        (λ q. took h.number gap dropped None (Delivered h.channel cargo.total) cargo.held _ on)
        (λ q. took h.number gap dropped _ Part cargo.held _ on)

    go_way : Goes (Ok (go_on underway c h n room))
    unfolding go_on
    go_way = by_cases (λ (w : Went). Goes (Ok w)) (is_repeat c (gap_of h.number c.counter.next)) _ _ (λ q. again) (λ q. ended_way _ _ _)

  -- what the tests stop changes nothing
  abbrev Judged : Result Header Answer → Type 0
  Judged v = Goes (step_of underway c n room v)

  stop_way : (answer : Answer) → quiet answer ≡ true → Judged (Err answer)
  unfolding step_of
  stop_way answer e = kept answer e

  on_way : (h : Header) → h.channel ≡ channel → Judged (Ok h)
  unfolding step_of
  on_way h on = go_way h on

  header_way : (g : Settings) (h : Header) → h.channel ≡ channel → Judged (answered (judge_header g h))
  unfolding judge_header
  header_way g h on =
      by_cases (λ (r : Result Header Refusal). Judged (answered r)) (eqb h.length 32767) _ _ (λ q. stop_way _ refl)
      (λ q. by_cases (λ (r : Result Header Refusal). Judged (answered r)) (leb h.length 4) _ _ (λ q. stop_way _ refl)
      (λ q. by_cases (λ (r : Result Header Refusal). Judged (answered r)) (ltb g.limit h.length) _ _ (λ q. stop_way _ refl)
      (λ q. by_cases (λ (r : Result Header Refusal). Judged (answered r)) (leb g.count h.channel) _ _ (λ q. stop_way _ refl)
      (λ q. on_way h on))))

  reading_way : (g : Settings) (t : List ℕ) (x : Result (Option Header) Refusal) → reading_of t ≡ x → Of channel x → Judged (judge_reading g x)
  unfolding judge_reading
  reading_way g t (Err r) e on = stop_way _ (short t r e)
  reading_way g t (Ok None) e on = stop_way _ refl
  reading_way g t (Ok (Some h)) e on = header_way g h (on h refl)

pub way : (sound : Bool) (g : Settings) (underway : Option Cargo) (c : Channel) (t : List ℕ) (room : ℕ)
    → Way (channel_of t) underway c (step_in sound g underway c t room)
unfolding judge
way sound g underway c t room =
    by_cases (Judged (channel_of t) underway c (length t) room) (not sound) _ _ (λ q. stop_way (channel_of t) underway c (length t) room _ refl)
    (λ q. by_cases (Judged (channel_of t) underway c (length t) room) (ltb room _) _ _ (λ q. stop_way (channel_of t) underway c (length t) room _ refl)
    (λ q. reading_way (channel_of t) underway c (length t) room g t (reading_of t) refl (of_channel t)))
