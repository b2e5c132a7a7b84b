-- What a receiver makes of a transfer of the sender's.
use Prim.Native.Nat.{ℕ, ◌+◌, ◌-◌, ◌≤◌, ◌<◌}
use native.Mathlib.Omega.{arith}
use mathlib.Core.Bool.{Bool, true, false, cond}
use mathlib.Core.List.{List}
use mathlib.Core.Path.{◌≡◌, refl, sym, ◌∙◌, ap}
use lib.ListN.{length, take, drop, get_or, set}
use lib.Seq.{paste, paste-zero, length-paste, take-paste, take-take, take-add}
use lib.Dec.{leb}
use borrow.Author.Tests.{leb-true, leb-false, le-leb, lt-leb, lt-ltb, le-ltb, ne_eqb}
use Rattle.header.proofs.WriteRead.{Sayable, bytes_read}
use Rattle.verdict.specs.declared.answers.Answer.{Answer}
use Rattle.verdict.specs.declared.answers.Kind.{Kind}
use Rattle.verdict.specs.declared.answers.Kind.TheVariants.{Delivered, Part, Refused}
use Rattle.verdict.specs.Answer.{tell, refusal}
use Rattle.verdict.specs.Judge.{judge, judge_reading, judge_header}
use Rattle.header.specs.declared.Header.{Header}
use Rattle.std.specs.Prelude.{Option, None, is_some, Result, Ok}
use Rattle.joining.specs.declared.Cargo.{Cargo as Load}
use Rattle.joining.specs.declared.channels.Channel.{Channel}
use Rattle.joining.specs.declared.joinings.Joining.{Joining}
use Rattle.step.specs.declared.steps.Went.{Went}
use Rattle.joining.specs.Channel.{fresh_channel, is_repeat, repeated, heard_of}
use Rattle.joining.specs.Joining.{carried_of}
use Rattle.step.specs.Step.{went, ended, after, bytes_in}
use Rattle.receiver.specs.declared.Receiver.{Receiver}
use Rattle.receiver.specs.declared.Received.{Received}
use Rattle.receiver.specs.State.{fits, sound, sound_receiver}
use Rattle.receiver.specs.Take.{received_by}
use Rattle.link.specs.Run.{Setup, Cargo, Reply}
use Rattle.link.specs.Rules.{Joins, Spares, go_on_by, step_by, receiving_by, own}
use Rattle.link.proofs.Ruled.{own_taken}
use Rattle.link.proofs.Ledger.{gap_at, anew}
use Rattle.link.proofs.Places.{carry, carry_le, load, next, next_le, next_more, way_at, way_mid, way_end, header_at, body_at, transfer_of, body_length, transfer_length}
use Rattle.link.proofs.Sending.{InRange, in_range_lem, Fits}
use Rattle.link.proofs.Joining.{Enough, joins_on, hearing, placing, first_place, join_place, unjoined_place}

-- a receiver with these channels and this under way
abbrev pub receiver_of : Setup → List Channel → Option Load → Receiver
receiver_of g cs w = record { settings = g.settings; channels = cs; underway = w }

abbrev pub channel_in : List Channel → ℕ → Channel
channel_in cs c = get_or cs c fresh_channel

-- it, its answer, and its buffer; and so after a step
abbrev pub makes : Setup → List Channel → Option Load → Answer → List ℕ → Reply
makes g cs w answer buf = record { received = record { receiver = receiver_of g cs w; answer = answer }; buffer = buf }

abbrev pub taken : Receiver → ℕ → List ℕ → List ℕ → Result Went Answer → Reply
taken r c buf t s = record { received = received_by r c s; buffer = bytes_in s t buf }

-- the buffer with the bytes of the transfer at place o, and the answer to it
abbrev pub filled : ℕ → Cargo → ℕ → List ℕ → List ℕ
filled largest x o buf = paste buf o (body_at largest x o) (carry largest (length x.bytes - o))

abbrev pub kind_at : ℕ → Cargo → ℕ → Kind
kind_at largest x o = cond (leb (length x.bytes) (next largest x o)) (Delivered x.channel (length x.bytes)) Part

-- a receiver that refuses nothing of the sender's
pub record Able (g : Setup) (w : Option Load) (buf : List ℕ) : Type 0 where
  pub fit : fits g.settings w ≡ true
  pub long : g.settings.limit - 4 ≤ length buf

pub able_idle : (g : Setup) (buf : List ℕ) → g.settings.limit - 4 ≤ length buf → Able g None buf
unfolding fits
able_idle g buf h = record { fit = refl; long = h }

module _ (J : Joins) (L : Spares) {g : Setup} (R : InRange g) {x : Cargo} (F : Fits g x) (cs : List Channel) {w : Option Load} {buf : List ℕ} (A : Able g w buf) (o q : ℕ) (mid : o < length x.bytes) where
  abbrev m : ℕ
  m = length x.bytes

  abbrev n : ℕ
  n = carry g.largest (m - o) + 4

  abbrev t : List ℕ
  t = transfer_of g.largest x o q

  abbrev l : Channel
  l = channel_in cs x.channel

  abbrev gap : ℕ
  gap = gap_at l q

  sayable : Sayable (header_at x o q)
  sayable =
      let a = R.range.high in
      let b = R.range.few in
      let c = F.few_bytes in
      let d = F.inside in
      record { some = omega arith; most = omega arith; byte = omega arith }

  judged : judge (sound_receiver (receiver_of g cs w)) g.settings t (length buf) ≡ Ok (header_at x o q)
  unfolding judge judge_reading judge_header sound transfer_of
  judged =
      simp (
        in_range_lem R,
        A.fit,
        le-ltb (length buf) (g.settings.limit - 4) A.long,
        bytes_read (header_at x o q) (body_at g.largest x o) sayable,
        ne_eqb (m - o + 4) 32767 (omega (arith, F.few_bytes, R.range.high)),
        lt-leb (m - o + 4) 4 (omega arith),
        le-ltb g.settings.limit (m - o + 4) (omega (arith, F.few_bytes, R.range.low)),
        lt-leb g.settings.count x.channel F.inside,
      )

  abbrev does : Result Went Answer → Reply
  does s = taken (receiver_of g cs w) x.channel buf t s

  -- the header is read as it was written, and its channel decides
  goes : hearing J L (receiver_of g cs w) buf t ≡ does (Ok (go_on_by own J is_repeat L repeated heard_of w l (header_at x o q) n))
  unfolding receiving_by step_by transfer_of
  goes =
      let v = judge (sound_receiver (receiver_of g cs w)) g.settings t (length buf) in
      let s = step_by own J is_repeat L repeated heard_of w l (length t) v in
      ap (λ (a : Received). record { received = a; buffer = bytes_in s t buf }) (own_taken J L (receiver_of g cs w) x.channel s)
      ∙ ap (λ (v : Result Header Answer). does (step_by own J is_repeat L repeated heard_of w l (length t) v)) judged
      ∙ ap (λ (k : ℕ). does (Ok (go_on_by own J is_repeat L repeated heard_of w l (header_at x o q) k))) (transfer_length g.largest x o q)

  -- another copy of what was the channel's last
  pub hears_repeat : is_repeat l gap ≡ true → L x.channel w ≡ w
      → hearing J L (receiver_of g cs w) buf t ≡ makes g (set cs x.channel (repeated l)) w (refusal 20) buf
  unfolding go_on_by
  hears_repeat h s = goes ∙ simp (h, s) (ap (λ (b : List ℕ). makes g (set cs x.channel (repeated l)) w (refusal 20) b) (sym (paste-zero buf 0 (drop 4 t))))

  -- a new one, by where its bytes go
  goes_new : is_repeat l gap ≡ false → (j : Joining) → placing J L w (header_at x o q) gap ≡ j
      → hearing J L (receiver_of g cs w) buf t ≡ does (Ok (after (anew l q) (header_at x o q) n gap j (carried_of (is_some j.cargo) n (m - o + 4))))
  unfolding go_on_by
  goes_new h j e = goes ∙ simp (h, e)

  -- ---- its bytes go behind those held

  abbrev c : ℕ
  c = carry g.largest (m - o)

  abbrev to : ℕ
  to = next g.largest x o

  pub filled_length : length (filled g.largest x o buf) ≡ length buf
  filled_length = length-paste buf o (body_at g.largest x o) c (omega (arith, next_le g.largest x o (omega arith), A.long, F.few_bytes)) (omega (arith, body_length g.largest x o))

  pub filled_same : take o buf ≡ take o x.bytes → take to (filled g.largest x o buf) ≡ take to x.bytes
  filled_same h =
      take-paste buf o (body_at g.largest x o) c (omega (arith, A.long, F.few_bytes)) (omega (arith, body_length g.largest x o))
      ∙ rw (h, take-take c c (drop o x.bytes) (omega arith), take-add o c x.bytes)

  carried : carried_of true n (m - o + 4) ≡ c
  unfolding carried_of
  carried = omega (arith, carry_le g.largest (m - o))

  abbrev joined : Bool → Joining
  joined dropped = record { cargo = load x.channel m o; dropped = dropped }

  after_is : (dropped : Bool) → after (anew l q) (header_at x o q) n gap (joined dropped) (carried_of true n (m - o + 4))
      ≡ went (anew l q) (way_at x.channel m to) (tell (kind_at g.largest x o) 0 gap dropped) o c
  unfolding ended
  after_is dropped = go (leb m to) refl
    where
      past : 0 < to
      past = omega (arith, next_more g.largest x o R.five mid)

      go : (b : Bool) → leb m to ≡ b → after (anew l q) (header_at x o q) n gap (joined dropped) (carried_of true n (m - o + 4))
          ≡ went (anew l q) (way_at x.channel m to) (tell (cond b (Delivered x.channel m) Part) 0 gap dropped) o c
      go true e = simp (carried, le-leb (m - o + 4) n (omega (arith, leb-true m to e)), way_end x.channel m to past (leb-true m to e))
      go false e = simp (carried, lt-leb (m - o + 4) n (omega (arith, leb-false m to e)), way_mid x.channel m to past (leb-false m to e))

  -- ---- what it does, by cases

  abbrev pub placed : Bool → Reply
  placed dropped = makes g (set cs x.channel (anew l q)) (way_at x.channel m to) (tell (kind_at g.largest x o) 0 gap dropped) (filled g.largest x o buf)

  hears_joined : is_repeat l gap ≡ false → (dropped : Bool) → placing J L w (header_at x o q) gap ≡ joined dropped
      → hearing J L (receiver_of g cs w) buf t ≡ placed dropped
  unfolding transfer_of
  hears_joined h dropped e = goes_new h _ e ∙ ap (λ (s : Went). does (Ok s)) (after_is dropped)

  pub hears_first : is_repeat l gap ≡ false → o ≡ 0 → hearing J L (receiver_of g cs w) buf t ≡ placed (is_some w)
  hears_first h z = hears_joined h (is_some w) (first_place J L w (header_at x o q) gap (le-ltb 0 o (omega arith)) ∙ rw (whole, z))
    where
      whole : m - o + 4 - 4 ≡ m
      whole = omega arith

  pub hears_join : Enough J L → is_repeat l gap ≡ false → 0 < o → w ≡ load x.channel m o → gap ≡ 0 → hearing J L (receiver_of g cs w) buf t ≡ placed false
  hears_join S h z e k =
      hears_joined h false
      (ap (λ (v : Option Load). placing J L v (header_at x o q) gap) e ∙ join_place J L record { channel = x.channel; total = m; held = o } (header_at x o q) gap (lt-ltb 0 o z) (rw k (S.joins_own x o q)))

  pub hears_unjoined : is_repeat l gap ≡ false → 0 < o → joins_on J w (header_at x o q) gap ≡ false
      → hearing J L (receiver_of g cs w) buf t ≡ makes g (set cs x.channel (anew l q)) None (tell Refused 21 gap (is_some w)) buf
  unfolding ended carried_of
  hears_unjoined h z j =
      goes_new h _ (unjoined_place J L w (header_at x o q) gap (lt-ltb 0 o z) j)
      ∙ ap (λ (b : List ℕ). makes g (set cs x.channel (anew l q)) None (tell Refused 21 gap (is_some w)) b) (sym (paste-zero buf 0 (drop 4 t)))
