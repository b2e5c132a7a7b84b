-- One call of the sender, and the copies of its transfer that arrive.
use Prim.Native.Nat.{ℕ, zero, suc, ◌≤◌, ◌<◌}
use native.Mathlib.Omega.{arith}
use mathlib.Core.Bool.{Bool, true, false, cond}
use mathlib.Core.List.{List, [], ◌∷◌, ◌++◌, append-nil}
use mathlib.Core.Path.{◌≡◌, refl, sym, ◌∙◌, ap}
use lib.ListN.{length, take, set, length-set}
use lib.Seq.{take-length, set-get_or, set-set, get_or-set_same}
use lib.Dec.{leb}
use borrow.Author.Tests.{leb-true, le-leb}
use Rattle.header.specs.declared.sequence.Counter.{Counter}
use Rattle.std.specs.Prelude.{Option, None}
use Rattle.joining.specs.declared.Cargo.{Cargo as Load}
use Rattle.verdict.specs.declared.answers.Kind.TheVariants.{Delivered, Part}
use Rattle.joining.specs.declared.channels.Channel.{Channel}
use Rattle.joining.specs.Channel.{fresh_channel, is_repeat, repeated}
use Rattle.link.specs.Run.{Setup, Cargo, Hear, Reply, World, handed, arrive, arrivals, send_one}
use Rattle.link.specs.Rules.{Joins, Spares}
use Rattle.link.proofs.Ledger.{gap_at, anew, again, Last, is_repeat_lem}
use Rattle.link.proofs.Places.{load, next, next_le, way_at, header_at, transfer_of}
use Rattle.link.proofs.Sending.{InRange, Fits, sender_of, number_at, up, over, sent_at, over_take}
use Rattle.link.proofs.Joining.{Enough, joins_on, hearing}
use Rattle.link.proofs.Receiving.{receiver_of, channel_in, filled, kind_at, Able, filled_length, filled_same, hears_repeat, hears_first, hears_join, hears_unjoined}

-- what changes as transfers go by, but for the sender's place in the cargo and what was handed over:
-- the output and the sender's counters; the receiver's channels, what it has under way, and its buffer
pub record Point : Type 0 where
  pub out : List ℕ
  pub ns : List Counter
  pub cs : List Channel
  pub w : Option Load
  pub buf : List ℕ

abbrev pub world : Setup → Point → Option Load → List Cargo → World
world g p sw got = record { sender = sender_of g p.ns sw; receiver = receiver_of g p.cs p.w; buffer = p.buf; out = p.out; got = got }

-- the transfer at place o is sent; and a receiver goes on
abbrev pub sent_on : Setup → Cargo → ℕ → Point → Point
sent_on g x o p = record { out = over g x p.ns o p.out; ns = up p.ns x.channel; cs = p.cs; w = p.w; buf = p.buf }

abbrev pub heard_on : Point → List Channel → Option Load → List ℕ → Point
heard_on p cs w buf = record { out = p.out; ns = p.ns; cs = cs; w = w; buf = buf }

-- the cargo, if the transfer at place o ends it
abbrev pub ended : ℕ → Cargo → ℕ → List Cargo
ended largest x o = cond (leb (length x.bytes) (next largest x o)) (x ∷ []) []

arrive_by : (hear : Hear) (t : List ℕ) (v : World) (h : Reply) → hear v.receiver v.buffer t ≡ h
    → arrive hear t v ≡ record { sender = v.sender; receiver = h.received.receiver; buffer = h.buffer; out = v.out; got = v.got ++ handed h.received.answer.kind h.buffer }
unfolding arrive
arrive_by hear t v h e = rw e

module _ {J : Joins} {L : Spares} (S : Enough J L) {g : Setup} (R : InRange g) {x : Cargo} (F : Fits g x) where
  abbrev ch : ℕ
  ch = x.channel

  abbrev m : ℕ
  m = length x.bytes

  pub sent_is : (p : Point) → g.largest ≤ length p.out → (got : List Cargo) (o k : ℕ) → o < m
      → send_one (hearing J L) x k (world g p (way_at ch m o) got)
      ≡ arrivals (hearing J L) k (transfer_of g.largest x o (number_at p.ns ch)) (world g (sent_on g x o p) (way_at ch m (next g.largest x o)) got)
  unfolding send_one
  sent_is p room got o k h = rw (sent_at R F p.ns p.out room o h, over_take R F p.ns p.out room o h)

  module _ (sw : Option Load) (o q : ℕ) (mid : o < m) where
    abbrev t : List ℕ
    t = transfer_of g.largest x o q

    -- ---- the further copies change the channel's repeats alone

    arrive_repeat : (p : Point) (got : List Cargo) → Able g p.w p.buf → L ch p.w ≡ p.w → (l : Channel) → channel_in p.cs ch ≡ l → Last q l
        → arrive (hearing J L) t (world g p sw got) ≡ world g (heard_on p (set p.cs ch (repeated l)) p.w p.buf) sw got
    arrive_repeat p got A s l e h =
        arrive_by (hearing J L) t (world g p sw got) _ (hears_repeat J L R F p.cs A o q mid (ap (λ (y : Channel). is_repeat y (gap_at y q)) e ∙ is_repeat_lem h) s)
        ∙ ap (λ (y : List Cargo). world g (heard_on p (set p.cs ch (repeated (channel_in p.cs ch))) p.w p.buf) sw y) (append-nil got)
        ∙ ap (λ (y : Channel). world g (heard_on p (set p.cs ch (repeated y)) p.w p.buf) sw got) e

    pub arrive_repeats : (k : ℕ) (p : Point) (got : List Cargo) → Able g p.w p.buf → L ch p.w ≡ p.w → g.settings.count ≤ length p.cs → (l : Channel) → channel_in p.cs ch ≡ l → Last q l
        → arrivals (hearing J L) k t (world g p sw got) ≡ world g (heard_on p (set p.cs ch (again k l)) p.w p.buf) sw got
    unfolding arrivals
    arrive_repeats zero p got A s n l e h =
        ap (λ (y : List Channel). world g (heard_on p y p.w p.buf) sw got) (sym (set-get_or p.cs ch fresh_channel) ∙ ap (λ (y : Channel). set p.cs ch y) e)
    arrive_repeats (suc k) p got A s n l e h =
        ap (λ (v : World). arrivals (hearing J L) k t v) (arrive_repeat p got A s l e h)
        ∙ arrive_repeats k (heard_on p (set p.cs ch (repeated l)) p.w p.buf) got A s (simp length-set n) (repeated l) (get_or-set_same p.cs ch (repeated l) fresh_channel (omega (arith, F.inside))) record { heard = h.heard; expected = h.expected; low = h.low }
        ∙ ap (λ (y : List Channel). world g (heard_on p y p.w p.buf) sw got) (set-set p.cs ch (repeated l) (again k (repeated l)))

    -- ---- the first copy

    module _ (p : Point) (got : List Cargo) (A : Able g p.w p.buf) (new : is_repeat (channel_in p.cs ch) (gap_at (channel_in p.cs ch) q) ≡ false) where
      abbrev full : List ℕ
      full = filled g.largest x o p.buf

      abbrev to : ℕ
      to = next g.largest x o

      handed_is : take o p.buf ≡ take o x.bytes → handed (kind_at g.largest x o) full ≡ ended g.largest x o
      handed_is same = go (leb m to) refl
        where
          long : m ≤ length full
          long = omega (arith, filled_length J L R F p.cs A o q mid, A.long, F.few_bytes)

          go : (b : Bool) → leb m to ≡ b → handed (cond b (Delivered ch m) Part) full ≡ cond b (x ∷ []) []
          go true e =
              let z : to ≡ m = omega (arith, leb-true m to e, next_le g.largest x o (omega arith)) in
              let f : take m full ≡ x.bytes = ap (λ (i : ℕ). take i full) (sym z) ∙ filled_same J L R F p.cs A o q mid same ∙ ap (λ (i : ℕ). take i x.bytes) z ∙ take-length x.bytes in
              simp (le-leb m (length full) long) (ap {B = List Cargo} (λ (b : List ℕ). record { channel = ch; bytes = b } ∷ []) f)
          go false e = refl

      abbrev pub placed_on : Point
      placed_on = heard_on p (set p.cs ch (anew (channel_in p.cs ch) q)) (way_at ch m to) full

      pub arrive_first : o ≡ 0 → arrive (hearing J L) t (world g p sw got) ≡ world g placed_on sw (got ++ ended g.largest x o)
      arrive_first z =
          arrive_by (hearing J L) t (world g p sw got) _ (hears_first J L R F p.cs A o q mid new z)
          ∙ ap (λ (y : List Cargo). world g placed_on sw (got ++ y)) (handed_is (ap (λ (i : ℕ). take i p.buf) z ∙ sym (ap (λ (i : ℕ). take i x.bytes) z)))

      pub arrive_join : 0 < o → p.w ≡ load ch m o → gap_at (channel_in p.cs ch) q ≡ 0 → take o p.buf ≡ take o x.bytes
          → arrive (hearing J L) t (world g p sw got) ≡ world g placed_on sw (got ++ ended g.largest x o)
      arrive_join z e k same =
          arrive_by (hearing J L) t (world g p sw got) _ (hears_join J L R F p.cs A o q mid S new z e k)
          ∙ ap (λ (y : List Cargo). world g placed_on sw (got ++ y)) (handed_is same)

      pub arrive_unjoined : 0 < o → joins_on J p.w (header_at x o q) (gap_at (channel_in p.cs ch) q) ≡ false
          → arrive (hearing J L) t (world g p sw got) ≡ world g (heard_on p (set p.cs ch (anew (channel_in p.cs ch) q)) None p.buf) sw got
      arrive_unjoined z j =
          arrive_by (hearing J L) t (world g p sw got) _ (hears_unjoined J L R F p.cs A o q mid new z j)
          ∙ ap (λ (y : List Cargo). world g (heard_on p (set p.cs ch (anew (channel_in p.cs ch) q)) None p.buf) sw y) (append-nil got)
