-- What a transfer does to its channel, to the cargo under way and to the buffer (document 01, "The receiver").
use Rattle.std.specs.Prelude.{ℕ, ◌+◌, List, Bool, cond, leb, length, drop, get_or, Option, None, Some, is_some, Result, Ok, Err}
use Rattle.std.proofs.Math.Seq.{paste}
use Rattle.header.specs.declared.Header.{Header}
use Rattle.header.specs.Sequence.{gap_of}
use Rattle.verdict.specs.declared.Settings.{Settings}
use Rattle.verdict.specs.declared.answers.Answer.{Answer}
use Rattle.verdict.specs.declared.answers.Kind.TheVariants.{Delivered, Part, Refused}
use Rattle.verdict.specs.Answer.{tell, refusal}
use Rattle.verdict.specs.Judge.{judge}
use Rattle.joining.specs.declared.Cargo.{Cargo}
use Rattle.joining.specs.declared.channels.Channel.{Channel}
use Rattle.joining.specs.declared.joinings.Joining.{Joining}
use Rattle.joining.specs.Channel.{is_repeat, repeated, heard_of}
use Rattle.joining.specs.Joining.{place, carried_of}
use Rattle.step.specs.declared.steps.Went.{Went}
use Rattle.step.specs.declared.steps.Taken.{Taken}

abbrev pub went : (c : Channel) (underway : Option Cargo) (answer : Answer) (at carried : ℕ) → Went
went c underway answer at carried =
    record { channel = c; underway = underway; answer = answer; at = at; carried = carried }

-- "It ends its cargo when n is at least L"; "A finished cargo is delivered and none is under way."
unfoldable pub ended : (c : Channel) (h : Header) (n gap : ℕ) (dropped : Bool) (carried : ℕ) → Option Cargo → Went
ended c h n gap dropped carried None = went c None (tell Refused 21 gap dropped) 0 carried
ended c h n gap dropped carried (Some cargo) =
    cond (leb h.length n)
    (went c None (tell (Delivered h.channel cargo.total) 0 gap dropped) cargo.held carried)
    (went c (Some record { channel = h.channel; total = cargo.total; held = cargo.held + carried })
    (tell Part 0 gap dropped) cargo.held carried)

abbrev pub after : (c : Channel) (h : Header) (n gap : ℕ) (j : Joining) (carried : ℕ) → Went
after c h n gap j carried = ended c h n gap j.dropped carried j.cargo

abbrev pub new_step : (underway : Option Cargo) (c : Channel) (h : Header) (n room gap : ℕ) → Went
new_step underway c h n room gap =
    let j = place underway h room gap in
    after (heard_of c h.number gap) h n gap j (carried_of (is_some j.cargo) n h.length)

-- "A repeat is not a new transfer, so it loses nothing": 20, and else the transfer is taken
unfoldable pub go_on : (underway : Option Cargo) (c : Channel) (h : Header) (n room : ℕ) → Went
go_on underway c h n room =
    let gap = gap_of h.number c.counter.next in
    cond (is_repeat c gap) (went (repeated c) underway (refusal 20) 0 0) (new_step underway c h n room gap)

-- what a transfer of n bytes does: an answer alone, where the tests stop it
unfoldable pub step_of : (underway : Option Cargo) (c : Channel) (n room : ℕ) → Result Header Answer → Result Went Answer
step_of underway c n room (Err answer) = Err answer
step_of underway c n room (Ok h) = Ok (go_on underway c h n room)

abbrev pub step_in : (sound : Bool) (settings : Settings) (underway : Option Cargo) (c : Channel) (t : List ℕ) (room : ℕ)
    → Result Went Answer
step_in sound settings underway c t room = step_of underway c (length t) room (judge sound settings t room)

-- "Carried bytes go behind those held; no other byte of the buffer changes."
abbrev pub bytes_of : Went → (t d : List ℕ) → List ℕ
bytes_of w t d = paste d w.at (drop 4 t) w.carried

abbrev pub bytes_in : Result Went Answer → (t d : List ℕ) → List ℕ
bytes_in (Err answer) t d = d
bytes_in (Ok w) t d = bytes_of w t d

-- a channel and the cargo under way after a step, and its answer
abbrev pub taken_by : (c : Channel) (underway : Option Cargo) → Result Went Answer → Taken
taken_by c underway (Err answer) = record { channel = c; underway = underway; answer = answer }
taken_by c underway (Ok w) = record { channel = w.channel; underway = w.underway; answer = w.answer }

-- a transfer's channel
abbrev pub channel_of : (t : List ℕ) → ℕ
channel_of t = get_or t 2 0
