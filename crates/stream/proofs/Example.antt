-- One small cargo whose only transfer arrives twice, with a single flag between: its bytes on the wire, and what may and may not
-- stand beside them; and with a message buffer a byte shorter it is lost.
use Prim.Native.Nat.{ℕ}
use native.Mathlib.Omega.{arith}
use mathlib.Core.List.{List, [], ◌∷◌, ◌++◌, append-nil, flat_map, flatten}
use mathlib.Core.Path.{◌≡◌, refl, sym, ◌∙◌, ap}
use lib.Dec.{eqb}
use lib.ListN.{length, replicate}
use Rattle.laws.proofs.Tests.{by_cases}
use Rattle.receiver.specs.State.{in_range, fits, sound}
use Rattle.sender.specs.State.{begun, sound as sound_sender}
use Rattle.sender.specs.Send.{size_of, differs, judge as judge_send, underway_at, out_after}
use Rattle.sender.specs.Whole.{calls_for}
use Rattle.link.specs.Run.{Setup, Cargo, Shipment, finished}
use Rattle.link.specs.Demand.{longest, fates_of, LossesUpTo, wanted, AllSendable, Assumed}
use Rattle.writer.specs.Message.{sent as sent_byte, escaped}
use Rattle.messages.specs.Messages.{onto, pieces, meant, hangs, control_said, said, judged, messages_of, transfers_in}
use Rattle.messages.specs.Sent.{line}
use Rattle.stream.specs.Stream.{send_one, send_all, ship, run, transfers, stream, Harmless, listened_to, CarriedWith}
use Rattle.stream.proofs.Carried.{carried_over_uart}
use Rattle.stream.proofs.Kept.{demand_3_over_uart}

abbrev pub six : Setup
six = record { settings = record { limit = 10; count = 3 }; largest = 6 }

abbrev pub zeros : ℕ → List ℕ
zeros n = replicate n 0

abbrev pub small : Cargo
small = record { channel = 2; bytes = 126 ∷ 1 ∷ [] }

abbrev pub twice : List Shipment
twice = record { cargo = small; fates = 2 ∷ [] } ∷ []

abbrev pub none : ℕ → List (List ℕ)
none i = []

abbrev pub ten : List ℕ
ten = 6 ∷ 0 ∷ 2 ∷ 0 ∷ 126 ∷ 1 ∷ []

both : transfers six (zeros 6) twice ≡ ten ∷ ten ∷ []
unfolding run ship send_all send_one finished calls_for out_after judge_send sound_sender sound in_range fits begun size_of differs underway_at
both = refl

-- ---- behind a byte of noise, with a single flag between the two

abbrev pub on_wire : List ℕ
on_wire = stream (17 ∷ []) none (transfers six (zeros 6) twice) []

pub on_the_wire : on_wire ≡ 17 ∷ 126 ∷ 1 ∷ 6 ∷ 0 ∷ 2 ∷ 0 ∷ 125 ∷ 94 ∷ 1 ∷ 126 ∷ 1 ∷ 6 ∷ 0 ∷ 2 ∷ 0 ∷ 125 ∷ 94 ∷ 1 ∷ 126 ∷ []
unfolding sent_byte escaped line flat_map
on_the_wire = ap (λ (ts : List (List ℕ)). stream (17 ∷ []) none ts []) both

-- the theorem's assumptions hold of it
assumed : Assumed longest six (zeros 6) (zeros 6) twice
unfolding sound_sender sound in_range fits begun AllSendable calls_for fates_of LossesUpTo
assumed =
    record {
      settings = refl;
      buffer_long = omega arith;
      output_long = omega arith;
      cargoes = (record { channel = omega arith; some_bytes = omega arith; few_bytes = omega arith; transfers = omega arith }, tt);
      wire = λ c i. by_cases (λ (fates : List ℕ). LossesUpTo longest 0 (fates ++ [])) (eqb 2 c) (2 ∷ []) [] (λ q. tt) (λ q. tt);
    }

noise_alone : (room : ℕ) → Harmless room (17 ∷ []) none []
unfolding messages_of flat_map pieces onto
noise_alone room = record { no_flag = refl; silent = λ i. refl; silent_rest = refl }

-- cut anywhere in two
pub one_cargo_heard : (first second : List ℕ) → first ++ second ≡ on_wire → (listened_to six (zeros 7) (zeros 6) (first ∷ second ∷ [])).got ≡ wanted 6 twice
unfolding flatten
one_cargo_heard first second e =
    let c = carried_over_uart six (zeros 6) (17 ∷ []) [] none twice 7 (noise_alone 7) (omega arith) in
    (demand_3_over_uart six (zeros 7) (zeros 6) (zeros 6) (first ∷ second ∷ []) twice assumed (simp (append-nil, e) c)).delivered

-- ---- what may stand beside them: a further flag, a query, 30, 31, 32 (eight bytes where seven fit) and 33; behind the last a message not closed

abbrev pub idle : ℕ → List (List ℕ)
idle i = [] ∷ (0 ∷ []) ∷ (2 ∷ []) ∷ (125 ∷ []) ∷ (1 ∷ zeros 7) ∷ (0 ∷ 1 ∷ []) ∷ []

all_kinds : Harmless 7 (17 ∷ []) idle (1 ∷ 5 ∷ [])
unfolding messages_of flat_map judged said control_said meant hangs pieces onto
all_kinds = record { no_flag = refl; silent = λ i. refl; silent_rest = refl }

pub idle_carried : transfers_in (messages_of 7 (stream (17 ∷ []) idle (transfers six (zeros 6) twice) (1 ∷ 5 ∷ []))) ≡ transfers six (zeros 6) twice
idle_carried = carried_over_uart six (zeros 6) (17 ∷ []) (1 ∷ 5 ∷ []) idle twice 7 all_kinds (omega arith)

-- ---- and what may not: an ID of 1 that a flag closes is an empty transfer, behind a flag in the noise, between two messages, or behind the last

pub flag_in_noise : transfers_in (messages_of 7 (stream (126 ∷ 1 ∷ []) none (ten ∷ ten ∷ []) [])) ≡ [] ∷ ten ∷ ten ∷ []
unfolding messages_of flat_map judged said meant hangs pieces onto sent_byte escaped line
flag_in_noise = refl

pub transfer_between : transfers_in (messages_of 7 (stream [] (λ (i : ℕ). (1 ∷ []) ∷ []) (ten ∷ ten ∷ []) [])) ≡ [] ∷ ten ∷ [] ∷ ten ∷ []
unfolding messages_of flat_map judged said meant hangs pieces onto sent_byte escaped line
transfer_between = refl

pub transfer_behind : transfers_in (messages_of 7 (stream [] none (ten ∷ ten ∷ []) (1 ∷ 126 ∷ []))) ≡ ten ∷ ten ∷ [] ∷ []
unfolding messages_of flat_map judged said meant hangs pieces onto sent_byte escaped line
transfer_behind = refl

-- ---- with a message buffer one byte shorter both are refused with 32

none_there : transfers_in (messages_of 6 on_wire) ≡ []
unfolding messages_of flat_map judged said meant hangs pieces onto
none_there = ap (λ (input : List ℕ). transfers_in (messages_of 6 input)) on_the_wire ∙ refl

pub one_byte_short : CarriedWith (λ (g : Setup). g.largest) → ⊥
one_byte_short carried =
    let e : [] ≡ ten ∷ ten ∷ [] = sym none_there ∙ carried six (zeros 6) (17 ∷ []) [] none twice 6 (noise_alone 6) (omega arith) ∙ both in
    let z : ◌≡◌ {A = ℕ} 0 2 = ap length e in
    omega arith
