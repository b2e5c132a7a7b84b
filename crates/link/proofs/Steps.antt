-- One transfer amid a cargo: lost, or arrived with its copies.
use Prim.Native.Nat.{ℕ, suc, ◌+◌, ◌%◌, ◌≤◌, ◌<◌}
use native.Mathlib.Omega.{arith}
use mathlib.Core.List.{List}
use mathlib.Core.Path.{◌≡◌, refl, sym, ◌∙◌, ap}
use lib.ListN.{length, get_or, set, length-set}
use lib.Seq.{set-get_or, set-set, get_or-set_same, get_or-set_other}
use Rattle.header.specs.declared.sequence.Counter.{Counter}
use Rattle.header.specs.Sequence.{fresh_counter, stepped}
use Rattle.std.specs.Prelude.{Option}
use Rattle.joining.specs.declared.Cargo.{Cargo as Load}
use Rattle.joining.specs.declared.channels.Channel.{Channel}
use Rattle.joining.specs.Channel.{fresh_channel}
use Rattle.link.specs.Run.{Setup, Cargo, World, arrive, arrivals, send_one}
use Rattle.link.specs.Rules.{Joins, Spares}
use Rattle.link.proofs.Ledger.{Ledger, anew, Linked, linked_as, again}
use Rattle.link.proofs.Places.{next, way_at, transfer_of}
use Rattle.link.proofs.Sending.{InRange, Fits, number_at, up, over_room}
use Rattle.link.proofs.Joining.{Enough, hearing}
use Rattle.link.proofs.Receiving.{channel_in, Able}
use Rattle.link.proofs.Flow.{Point, world, sent_on, heard_on, sent_is, arrive_repeats}

-- ---- amid a cargo: its channel and number change, and no other's

module _ (g : Setup) (x : Cargo) (led : ℕ → Ledger) where
  pub record Mid (p : Point) (a : Ledger) : Type 0 where
    pub numbers : g.settings.count ≤ length p.ns
    pub channels : g.settings.count ≤ length p.cs
    pub able : Able g p.w p.buf
    pub room : g.largest ≤ length p.out
    pub here : Linked (number_at p.ns x.channel) (channel_in p.cs x.channel) a
    pub others : (c : ℕ) → c < g.settings.count → (c ≡ x.channel → ⊥) → Linked (number_at p.ns c) (channel_in p.cs c) (led c)

number_same : (ns : List Counter) (c : ℕ) → c < length ns → number_at (up ns c) c ≡ (number_at ns c + 1) % 256
number_same ns c i = ap (λ (n : Counter). n.next) (get_or-set_same ns c (stepped (get_or ns c fresh_counter)) fresh_counter i)

number_other : (ns : List Counter) (c d : ℕ) → (d ≡ c → ⊥) → number_at (up ns c) d ≡ number_at ns d
number_other ns c d n = ap (λ (n : Counter). n.next) (get_or-set_other ns c d (stepped (get_or ns c fresh_counter)) fresh_counter n)

-- the transfer at place o was sent, and the receiver has its channel as l, and this under way in this buffer
abbrev pub moved : Setup → Cargo → ℕ → Point → Channel → Option Load → List ℕ → Point
moved g x o p l w buf = heard_on (sent_on g x o p) (set p.cs x.channel l) w buf

module _ {J : Joins} {L : Spares} (S : Enough J L) {g : Setup} (R : InRange g) {x : Cargo} (F : Fits g x) (led : ℕ → Ledger) where
  abbrev ch : ℕ
  ch = x.channel

  abbrev m : ℕ
  m = length x.bytes

  abbrev T : ℕ
  T = g.largest

  pub mid_moved : {p : Point} {a a' : Ledger} → Mid g x led p a → (o : ℕ) → o < m → (l : Channel) {w : Option Load} {buf : List ℕ} → Able g w buf → Linked ((number_at p.ns ch + 1) % 256) l a'
      → Mid g x led (moved g x o p l w buf) a'
  mid_moved {p} M o h l A k =
      record {
        numbers = simp length-set M.numbers;
        channels = simp length-set M.channels;
        able = A;
        room = over_room R F p.ns p.out M.room o h;
        here = linked_as (number_same p.ns ch (omega (arith, M.numbers, F.inside))) (get_or-set_same p.cs ch l fresh_channel (omega (arith, M.channels, F.inside))) k;
        others = λ c i n. linked_as (number_other p.ns ch c n) (get_or-set_other p.cs ch c l fresh_channel n) (M.others c i n);
      }

  -- ---- one transfer: lost, or its first copy told, all its copies

  pub sent_lost : (p : Point) (got : List Cargo) → T ≤ length p.out → (o : ℕ) → o < m
      → send_one (hearing J L) x 0 (world g p (way_at ch m o) got) ≡ world g (moved g x o p (channel_in p.cs ch) p.w p.buf) (way_at ch m (next T x o)) got
  unfolding arrivals
  sent_lost p got room o h =
      sent_is S R F p room got o 0 h
      ∙ ap (λ (y : List Channel). world g (heard_on (sent_on g x o p) y p.w p.buf) (way_at ch m (next T x o)) got) (sym (set-get_or p.cs ch fresh_channel))

  pub sent_heard : (p : Point) (got got' : List Cargo) {a : Ledger} → Mid g x led p a → (o j : ℕ) → o < m → {w : Option Load} {buf : List ℕ} → Able g w buf → L ch w ≡ w
      → arrive (hearing J L) (transfer_of T x o (number_at p.ns ch)) (world g (sent_on g x o p) (way_at ch m (next T x o)) got)
      ≡ world g (moved g x o p (anew (channel_in p.cs ch) (number_at p.ns ch)) w buf) (way_at ch m (next T x o)) got'
      → send_one (hearing J L) x (suc j) (world g p (way_at ch m o) got)
      ≡ world g (moved g x o p (again j (anew (channel_in p.cs ch) (number_at p.ns ch))) w buf) (way_at ch m (next T x o)) got'
  unfolding arrivals
  sent_heard p got got' M o j h {w} {buf} A s e =
      let q : ℕ = number_at p.ns ch in
      let l : Channel = anew (channel_in p.cs ch) q in
      sent_is S R F p M.room got o (suc j) h
      ∙ ap (λ (v : World). arrivals (hearing J L) j (transfer_of T x o q) v) e
      ∙ arrive_repeats S R F (way_at ch m (next T x o)) o q h j (moved g x o p l w buf) got' A s (simp length-set M.channels) l (get_or-set_same p.cs ch l fresh_channel (omega (arith, M.channels, F.inside)))
      record { heard = refl; expected = refl; low = omega (arith, M.here.number) }
      ∙ ap (λ (y : List Channel). world g (heard_on (sent_on g x o p) y w buf) (way_at ch m (next T x o)) got') (set-set p.cs ch l (again j l))
