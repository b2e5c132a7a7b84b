-- The channels of a row: loaded one after the other, stored to its four parts, and one of them read or written.
use Prim.Native.Nat.{ℕ, zero, suc, ◌+◌, ◌<◌, ◌≤◌}
use mathlib.Core.Path.{◌≡◌, refl, sym, ap, ◌∙◌}
use mathlib.Core.Logic.{◌≢◌, ⊎_elim}
use mathlib.Core.List.{List, [], ◌∷◌, ◌++◌, map, append_assoc}
use native.Mathlib.Numerals.{add-one}
use native.Mathlib.Nat.{zero-add, suc-add, eq-or-lt_of_le, le_of_suc-le-suc}
use native.Mathlib.Omega.{arith}
use lib.ListN.{length, get_or, set, take, drop, length-append, length-map, length-set, length-drop, take-append-drop, get_or-append}
use lib.Seq.{paste, paste-zero, length-paste, length-take-le, set-append_left, get_or-set_other, get_or_at, take-suc-set, drop-drop}
use Rattle.joining.specs.declared.channels.Channel.{Channel}
use Rattle.laws.proofs.Maps.{store_turn}
use Rattle.laws.proofs.Fills.{whole_row}
use Rattle.export.specs.Fields.{part, counter_number, flag_number, count_number}
use Rattle.export.specs.Receivers.{channel_in, channels_in, channel_put, channels_numbers}

pub channel_loaded : (x : List Channel) (row : List ℕ) (i : ℕ) (y : Channel) → take i x ≡ channels_in row i → i < length x → y ≡ channel_in row i
    → take (i + 1) (set x i y) ≡ channels_in row (i + 1)
unfolding channels_in
channel_loaded x row i y e h p = rw (add-one, take-suc-set x i y h, e, p)

pub channels_length : (row : List ℕ) (n : ℕ) → length (channels_in row n) ≡ n
unfolding channels_in
channels_length row zero = refl
channels_length row (suc n) = length-append (channels_in row n) _ ∙ rw (channels_length row n) (omega arith)

pub channel_at_lem : (row : List ℕ) (n i : ℕ) (z : Channel) → i < n → get_or (channels_in row n) i z ≡ channel_in row i
unfolding channels_in
channel_at_lem row zero i z h = absurd (omega arith)
channel_at_lem row (suc n) i z h =
    let l = channels_length row n in
    ⊎_elim (λ is. rw is (get_or_at (channels_in row n) (channel_in row n) [] z n l))
    (λ less. get_or-append (channels_in row n) _ z i (omega arith) ∙ channel_at_lem row n i z less)
    (eq-or-lt_of_le (le_of_suc-le-suc h))

-- ---- a channel put to a row leaves those behind it

module _ (row : List ℕ) (i : ℕ) (c : Channel) where
  untouched : (k : ℕ) → k ≢ i → k ≢ 32 + i → k ≢ 64 + i → k ≢ 96 + i → get_or (channel_put row i c) k 0 ≡ get_or row k 0
  untouched k h₁ h₂ h₃ h₄ = rw (get_or-set_other {A = ℕ} _ (96 + i) k _ 0 h₄, get_or-set_other {A = ℕ} _ (64 + i) k _ 0 h₃, get_or-set_other {A = ℕ} _ (32 + i) k _ 0 h₂, get_or-set_other {A = ℕ} _ i k _ 0 h₁)

  pub channel_kept : (j : ℕ) → i < j → j < 32 → channel_in (channel_put row i c) j ≡ channel_in row j
  channel_kept j h l =
      let u₁ = untouched j (λ e. omega arith) (λ e. omega arith) (λ e. omega arith) (λ e. omega arith) in
      let u₂ = untouched (32 + j) (λ e. omega arith) (λ e. omega arith) (λ e. omega arith) (λ e. omega arith) in
      let u₃ = untouched (64 + j) (λ e. omega arith) (λ e. omega arith) (λ e. omega arith) (λ e. omega arith) in
      let u₄ = untouched (96 + j) (λ e. omega arith) (λ e. omega arith) (λ e. omega arith) (λ e. omega arith) in
      rw (u₁, u₂, u₃, u₄)

-- ---- a store to each of four parts of 32

past : (p q : List ℕ) (j y : ℕ) → set (p ++ q) (length p + j) y ≡ p ++ set q j y
past [] q j y = ap (λ (k : ℕ). set q k y) (zero-add j)
past (x ∷ p) q j y = ap (λ (k : ℕ). set (x ∷ (p ++ q)) k y) (suc-add (length p) j) ∙ ap (λ (r : List ℕ). x ∷ r) (past p q j y)

past_part : (p q : List ℕ) (k j y : ℕ) → length p ≡ 32 → k ≡ 32 + j → set (p ++ q) k y ≡ p ++ set q j y
past_part p q k j y l e = rw (e, ← l) (past p q j y)

module _ (i a b c d : ℕ) (h : i < 32) where
  four_parts : (p q s t r : List ℕ) → length p ≡ 32 → length q ≡ 32 → length s ≡ 32 → length t ≡ 32
      → set (set (set (set (p ++ (q ++ (s ++ (t ++ r)))) i a) (32 + i) b) (64 + i) c) (96 + i) d
      ≡ set p i a ++ (set q i b ++ (set s i c ++ (set t i d ++ r)))
  four_parts p q s t r lp lq ls lt =
      let p' = set p i a in
      let q' = set q i b in
      let s' = set s i c in
      let mp : length p' ≡ 32 = simp length-set lp in
      let mq : length q' ≡ 32 = simp length-set lq in
      let ms : length s' ≡ 32 = simp length-set ls in
      let e₁ : set (p ++ (q ++ (s ++ (t ++ r)))) i a ≡ p' ++ (q ++ (s ++ (t ++ r))) = set-append_left p _ i a (omega arith) in
      let e₂ : set (p' ++ (q ++ (s ++ (t ++ r)))) (32 + i) b ≡ p' ++ (q' ++ (s ++ (t ++ r))) =
      past_part p' _ (32 + i) i b mp (omega arith) ∙ rw (set-append_left q (s ++ (t ++ r)) i b (omega arith)) in
      let e₃ : set (p' ++ (q' ++ (s ++ (t ++ r)))) (64 + i) c ≡ p' ++ (q' ++ (s' ++ (t ++ r))) =
      past_part p' _ (64 + i) (32 + i) c mp (omega arith) ∙ rw (past_part q' (s ++ (t ++ r)) (32 + i) i c mq (omega arith), set-append_left s (t ++ r) i c (omega arith)) in
      let e₄ : set (p' ++ (q' ++ (s' ++ (t ++ r)))) (96 + i) d ≡ p' ++ (q' ++ (s' ++ (set t i d ++ r))) =
      past_part p' _ (96 + i) (64 + i) d mp (omega arith)
      ∙ rw (past_part q' (s' ++ (t ++ r)) (64 + i) (32 + i) d mq (omega arith), past_part s' (t ++ r) (32 + i) i d ms (omega arith), set-append_left t r i d (omega arith)) in
      rw (e₁, e₂, e₃, e₄)

-- ---- the first i channels stored, and behind them in each part what the row has

abbrev expected : Channel → ℕ
expected c = counter_number c.counter

abbrev heard : Channel → ℕ
heard c = flag_number c.heard

abbrev missing : Channel → ℕ
missing c = count_number c.missing

abbrev repeats : Channel → ℕ
repeats c = count_number c.repeats

map_set : (f : Channel → ℕ) (cs : List Channel) (i : ℕ) (c : Channel) → map f (set cs i c) ≡ set (map f cs) i (f c)
map_set f [] i c = refl
map_set f (x ∷ cs) zero c = refl
map_set f (x ∷ cs) (suc i) c = ap (λ (l : List ℕ). f x ∷ l) (map_set f cs i c)

-- a channel put to a row that holds channels
pub channel_put_lem : (cs : List Channel) (rest : List ℕ) (i : ℕ) (c : Channel) → length cs ≡ 32 → i < 32
    → channel_put (channels_numbers cs ++ rest) i c ≡ channels_numbers (set cs i c) ++ rest
channel_put_lem cs rest i c all h =
    let l : (f : Channel → ℕ) → length (map f cs) ≡ 32 = λ f. length-map cs f ∙ all in
    let w : (x : List Channel) → channels_numbers x ++ rest ≡ map expected x ++ (map heard x ++ (map missing x ++ (map repeats x ++ rest))) = λ x. simp append_assoc in
    rw (w cs, w (set cs i c), map_set expected cs i c, map_set heard cs i c, map_set missing cs i c, map_set repeats cs i c)
    (four_parts i (expected c) (heard c) (missing c) (repeats c) h (map expected cs) (map heard cs) (map missing cs) (map repeats cs) rest (l expected) (l heard) (l missing) (l repeats))

module _ (row : List ℕ) (cs : List Channel) where
  abbrev mixed : (at : ℕ) (f : Channel → ℕ) (i : ℕ) → List ℕ
  mixed at f i = paste (part at row) 0 (map f cs) i

  abbrev pub stored : (i : ℕ) → List ℕ
  stored i = mixed 0 expected i ++ (mixed 32 heard i ++ (mixed 64 missing i ++ (mixed 96 repeats i ++ drop 128 row)))

  pub none_stored : row ≡ stored 0
  none_stored =
      let z : (at : ℕ) (f : Channel → ℕ) → mixed at f 0 ≡ part at row = λ at f. sym (paste-zero (part at row) 0 (map f cs)) in
      let d : (at : ℕ) → part at row ++ drop (at + 32) row ≡ drop at row = λ at. rw (← drop-drop 32 at row) (take-append-drop 32 (drop at row)) in
      sym (rw (z 0 expected, z 32 heard, z 64 missing, z 96 repeats, d 96, d 64, d 32) (d 0))

  module _ (room : 128 ≤ length row) (all : length cs ≡ 32) where
    part_length : (at : ℕ) → at + 32 ≤ length row → length (part at row) ≡ 32
    part_length at h = length-take-le 32 (drop at row) (simp length-drop (omega arith))

    mixed_length : (at : ℕ) (f : Channel → ℕ) (i : ℕ) → at + 32 ≤ length row → i < 32 → length (mixed at f i) ≡ 32
    mixed_length at f i h l =
        let n = part_length at h in
        let m = length-map cs f in
        length-paste (part at row) 0 (map f cs) i (omega arith) (omega arith) ∙ n

    mixed_turn : (at : ℕ) (f : Channel → ℕ) (i : ℕ) (z : Channel) → at + 32 ≤ length row → i < 32
        → set (mixed at f i) i (f (get_or cs i z)) ≡ mixed at f (i + 1)
    mixed_turn at f i z h l =
        let n = part_length at h in
        ap (λ (k : ℕ). set (mixed at f i) k (f (get_or cs i z))) (sym (zero-add i))
        ∙ store_turn f (part at row) _ cs 0 i z _ refl (omega arith) (omega arith) refl

    mixed_whole : (at : ℕ) (f : Channel → ℕ) → at + 32 ≤ length row → mixed at f 32 ≡ map f cs
    mixed_whole at f h =
        let n = part_length at h in
        let m = length-map cs f ∙ all in
        whole_row (part at row) (map f cs) _ (omega arith) (rw m)

    pub channel_stored : (x : List ℕ) (i : ℕ) (c z : Channel) → x ≡ stored i → i < 32 → c ≡ get_or cs i z → channel_put x i c ≡ stored (i + 1)
    channel_stored x i c z e l p =
        let m₁ = mixed_length 0 expected i (omega arith) l in
        let m₂ = mixed_length 32 heard i (omega arith) l in
        let m₃ = mixed_length 64 missing i (omega arith) l in
        let m₄ = mixed_length 96 repeats i (omega arith) l in
        let t₁ = mixed_turn 0 expected i z (omega arith) l in
        let t₂ = mixed_turn 32 heard i z (omega arith) l in
        let t₃ = mixed_turn 64 missing i z (omega arith) l in
        let t₄ = mixed_turn 96 repeats i z (omega arith) l in
        rw e
        (four_parts i (expected c) (heard c) (missing c) (repeats c) l (mixed 0 expected i) (mixed 32 heard i) (mixed 64 missing i) (mixed 96 repeats i) (drop 128 row) m₁ m₂ m₃ m₄
        ∙ rw (p, t₁, t₂, t₃, t₄))

    pub channels_stored : (x : List ℕ) (i : ℕ) → x ≡ stored i → i ≡ 32 → x ≡ channels_numbers cs ++ drop 128 row
    channels_stored x i e h =
        let w₁ = mixed_whole 0 expected (omega arith) in
        let w₂ = mixed_whole 32 heard (omega arith) in
        let w₃ = mixed_whole 64 missing (omega arith) in
        let w₄ = mixed_whole 96 repeats (omega arith) in
        rw (e, h, w₁, w₂, w₃, w₄) (simp append_assoc)
