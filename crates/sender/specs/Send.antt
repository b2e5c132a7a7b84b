-- What a sender does with a cargo (document 01, "The sender"; 004, 2.4).
use Rattle.std.specs.Prelude.{ℕ, ◌+◌, ◌-◌, min, List, ◌++◌, Bool, false, cond, not, ◌&&◌, ltb, leb, eqb, length, take, drop, get_or, set, Option, None, Some, Result, Ok, Err, is_ok}
use Rattle.std.specs.Result.{result_and}
use Rattle.refusals.specs.declared.Refusal.{Refusal}
use Rattle.refusals.specs.declared.Refusal.TheVariants.{Unsound, NoSuchChannel, EmptyCargo, LongCargo, OtherUnderWay, ShortOutput}
use Rattle.verdict.specs.declared.Settings.{Settings}
use Rattle.header.specs.declared.Header.{Header}
use Rattle.header.specs.Header.{header_bytes}
use Rattle.header.specs.Sequence.{fresh_counter, stepped}
use Rattle.joining.specs.declared.Cargo.{Cargo}
use Rattle.joining.specs.Joining.{held_of}
use Rattle.sender.specs.declared.Sender.{Sender}
use Rattle.sender.specs.declared.Next.{Next}
use Rattle.sender.specs.declared.Sent.{Sent}
use Rattle.sender.specs.State.{sound, sound_sender}

-- "Each call writes one transfer: min(T, bytes left + 4) bytes"
unfoldable pub size_of : ℕ → ℕ → ℕ
size_of largest left = min largest (left + 4)

-- 29: "another channel or length is under way"; "only its channel and length are checked against the one under way"
unfoldable pub differs : Option Cargo → ℕ → ℕ → Bool
differs None channel m = false
differs (Some cargo) channel m = not (eqb cargo.channel channel && eqb cargo.total m)

-- "Order: 23, 9, 26, 27, 29, 28", for a cargo of m bytes and an output of room bytes
unfoldable pub judge : Settings → ℕ → Option Cargo → ℕ → ℕ → ℕ → Result Unit Refusal
judge settings largest underway channel m room =
    cond (not (sound settings largest underway)) (Err Unsound)
    (cond (leb settings.count channel) (Err NoSuchChannel)
    (cond (eqb m 0) (Err EmptyCargo)
    (cond (ltb (settings.limit - 4) m) (Err LongCargo)
    (cond (differs underway channel m) (Err OtherUnderWay)
    (cond (ltb room (size_of largest (m - held_of underway))) (Err ShortOutput)
    (Ok tt))))))

abbrev pub judge_send : Sender → ℕ → ℕ → ℕ → Result Unit Refusal
judge_send s channel m room = judge s.settings s.largest s.underway channel m room

-- the size of the transfer that comes next
abbrev pub size_at : Sender → ℕ → ℕ
size_at s m = size_of s.largest (m - held_of s.underway)

-- "In a first transfer L-4 is the whole cargo; in a continuation L-4 is what remains, this transfer included."
abbrev pub header_at : Sender → ℕ → ℕ → Header
header_at s channel m =
    record {
      continuation = ltb 0 (held_of s.underway);
      length = m - held_of s.underway + 4;
      channel = channel;
      number = (get_or s.counters channel fresh_counter).next;
    }

-- the transfer: its header, and the cargo's bytes from those sent on
abbrev pub transfer_at : Sender → ℕ → List ℕ → List ℕ
transfer_at s channel cargo =
    header_bytes (header_at s channel (length cargo))
    ++ take (size_at s (length cargo) - 4) (drop (held_of s.underway) cargo)

-- the cargo under way once `done` of its m bytes are sent
unfoldable pub underway_at : ℕ → ℕ → ℕ → Option Cargo
underway_at channel m done = cond (ltb done m) (Some record { channel = channel; total = m; held = done }) None

-- the sender once that transfer is written: its channel's counter steps
abbrev pub after : Sender → ℕ → ℕ → Sender
after s channel m =
    record {
      settings = s.settings;
      largest = s.largest;
      counters = set s.counters channel (stepped (get_or s.counters channel fresh_counter));
      underway = underway_at channel m (held_of s.underway + (size_at s m - 4));
    }

-- the refusal, or the transfer that comes next: its header and size, where in the cargo its bytes begin, and the sender
-- once it is written
abbrev pub next_of : Sender → ℕ → ℕ → ℕ → Result Next Refusal
next_of s channel m room =
    result_and (judge_send s channel m room)
    (Ok record {
      sender = after s channel m;
      header = header_at s channel m;
      size = size_at s m;
      from = held_of s.underway;
    })

-- the answer: the refusal, or the sender once the transfer is written, and how many bytes it has
abbrev pub sent : Sender → ℕ → ℕ → ℕ → Result Sent Refusal
sent s channel m room =
    result_and (judge_send s channel m room) (Ok record { sender = after s channel m; written = size_at s m })

-- "Every answer below leaves state and buffers untouched": the sender after a call, and how many bytes were written
abbrev pub sender_after : Sender → Result Sent Refusal → Sender
sender_after s (Ok sent) = sent.sender
sender_after s (Err refusal) = s

abbrev pub written_in : Result Sent Refusal → ℕ
written_in (Ok sent) = sent.written
written_in (Err refusal) = 0

-- the output: the transfer stands at its front, and "Output bytes behind what is written stay"
unfoldable pub out_after : Sender → ℕ → List ℕ → List ℕ → List ℕ
out_after s channel cargo out =
    cond (is_ok (judge_send s channel (length cargo) (length out)))
    (transfer_at s channel cargo ++ drop (size_at s (length cargo)) out)
    out

-- "Abandoning forgets the cargo under way and keeps the numbers; with none under way it changes nothing; unsound gives
-- 23."
unfoldable pub abandoned : Sender → Result Sender Refusal
abandoned s =
    cond (not (sound_sender s)) (Err Unsound)
    (Ok record { settings = s.settings; largest = s.largest; counters = s.counters; underway = None })
