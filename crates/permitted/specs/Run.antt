-- A run under permits (document 02, request 14): a host that hears news of the hub, tries to send in one of the two
-- ways, and is refused or allowed.
use Rattle.std.specs.Prelude.{ℕ, Bool, cond, List, [], ◌∷◌, ◌++◌, take, replicate, Option, None, Result, is_ok}
use Rattle.refusals.specs.declared.Refusal.{Refusal}
use Rattle.link.specs.Run.{Setup, Cargo, Shipment, finished}
use Rattle.stream.specs.Stream as stream
use Rattle.stream.specs.Stream.{Line}
use Rattle.listener.specs.declared.News.{News}
use Rattle.permit.specs.declared.Permit.{Permit}
use Rattle.permit.specs.declared.send.Allowed.{Allowed}
use Rattle.permit.specs.Permit.{heard}
use Rattle.permit.specs.Send.{Way, sender_after, permit_after, written_in}
use Rattle.permit.specs.Claims.{Call, answer_to, output_of}

-- ---- what the host does

-- a piece of news, and the clock when it was heard
pub record Hearing : Type 0 where
  pub news : News
  pub clock : ℕ

-- one call: what was heard before it, its clock and timeout; and, where it writes, what the wire makes of the transfer
-- (link's Run.antt)
pub record Try : Type 0 where
  pub heard : List Hearing
  pub clock : ℕ
  pub timeout : ℕ
  pub fate : ℕ

-- a cargo, and the calls with it, "each finished or abandoned"
pub record Attempt : Type 0 where
  pub cargo : Cargo
  pub tries : List Try

-- ---- the run

-- the sending end, with what arrived so far (stream's Stream.antt), and the permit held
pub record Host : Type 0 where
  pub line : Line
  pub permit : Option Permit

unfoldable pub heard_all : Option Permit → List Hearing → Option Permit
heard_all p [] = p
heard_all p (x ∷ xs) = heard_all (heard p x.news x.clock) xs

-- the permit at the call, what the call is given, its answer, its output, and whether it writes
abbrev pub permit_at : Try → Host → Option Permit
permit_at t h = heard_all h.permit t.heard

abbrev pub call_at : Cargo → Try → Host → Call
call_at x t h =
    record {
      sender = h.line.sender;
      channel = x.channel;
      cargo = x.bytes;
      out = h.line.out;
      clock = t.clock;
      timeout = t.timeout;
    }

abbrev pub answer_at : Way → Cargo → Try → Host → Result Allowed Refusal
answer_at way x t h = answer_to way (permit_at t h) (call_at x t h)

abbrev pub output_at : Way → Cargo → Try → Host → List ℕ
output_at way x t h = output_of way (permit_at t h) (call_at x t h)

abbrev pub writes : Way → Cargo → Try → Host → Bool
writes way x t h = is_ok (answer_at way x t h)

-- what is written arrives as often as its fate says; what is refused does not go out
unfoldable pub try_one : Way → Cargo → Try → Host → Host
try_one way x t h =
    let a = answer_at way x t h in
    let o = output_at way x t h in
    record {
      line =
          record {
            sender = sender_after h.line.sender a;
            out = o;
            arrived = h.line.arrived ++ replicate (cond (writes way x t h) t.fate 0) (take (written_in a) o);
          };
      permit = permit_after (permit_at t h) a;
    }

unfoldable pub try_all : Way → Cargo → List Try → Host → Host
try_all way x [] h = h
try_all way x (t ∷ ts) h = try_all way x ts (try_one way x t h)

-- the fates of the transfers that were written
unfoldable pub fates_by : Way → Cargo → List Try → Host → List ℕ
fates_by way x [] h = []
fates_by way x (t ∷ ts) h = cond (writes way x t h) (t.fate ∷ []) [] ++ fates_by way x ts (try_one way x t h)

abbrev pub shipment : Way → Attempt → Host → Shipment
shipment way x h = record { cargo = x.cargo; fates = fates_by way x.cargo x.tries h }

abbrev pub abandon : Host → Host
abandon h = record { line = stream.abandon h.line; permit = h.permit }

unfoldable pub ship : Way → ℕ → Attempt → Host → Host
ship way largest x h =
    let k = try_all way x.cargo x.tries h in
    cond (finished largest (shipment way x h)) k (abandon k)

unfoldable pub run : Way → ℕ → List Attempt → Host → Host
run way largest [] h = h
run way largest (x ∷ xs) h = run way largest xs (ship way largest x h)

-- the plain run of the same cargoes: only what was written is sent
unfoldable pub plain : Way → ℕ → List Attempt → Host → List Shipment
plain way largest [] h = []
plain way largest (x ∷ xs) h = shipment way x h ∷ plain way largest xs (ship way largest x h)

-- fresh, and no permit held
abbrev pub fresh : Setup → List ℕ → Host
fresh g out = record { line = stream.start g out; permit = None }

abbrev pub after_all : Way → Setup → List ℕ → List Attempt → Host
after_all way g out xs = run way g.largest xs (fresh g out)

abbrev pub plainly : Way → Setup → List ℕ → List Attempt → List Shipment
plainly way g out xs = plain way g.largest xs (fresh g out)
