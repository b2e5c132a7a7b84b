-- The wrong receivers, refuted: for each a run, and what is seen of it.
use Prim.Native.Nat.{ℕ}
use mathlib.Core.List.{List, [], ◌∷◌}
use mathlib.Core.Path.{refl}
use Rattle.link.specs.Refuted.{cargo, sends, shows, Refuted}
use Rattle.link.specs.Wrong.{channel_alone, one_number, repeats_anew, gap_of255, gap_at_repeat, whole_length, last_length, refuses, nulls, idles, nods, invents_missing, invents_repeats, deaf_at21, drops_at_repeat}
use Rattle.link.proofs.Refute.{allowed, view, same, due, refute}

abbrev one : List ℕ
one = 1 ∷ 2 ∷ 3 ∷ 4 ∷ 5 ∷ 6 ∷ 7 ∷ 8 ∷ []

abbrev two : List ℕ
two = 11 ∷ 12 ∷ 13 ∷ 14 ∷ 15 ∷ 16 ∷ 17 ∷ 18 ∷ []

abbrev byte : List ℕ
byte = 7 ∷ []

-- the end of one cargo is lost, and the beginning of another: half of one meets half of the other
pub channel_alone_lem : Refuted 254 channel_alone
    (sends (cargo 0 one) (1 ∷ 0 ∷ []) ∷ sends (cargo 0 two) (0 ∷ 1 ∷ []) ∷ [])
    (shows (cargo 0 (1 ∷ 2 ∷ 3 ∷ 4 ∷ 15 ∷ 16 ∷ 17 ∷ 18 ∷ []) ∷ []) (2 ∷ 0 ∷ []) (0 ∷ 0 ∷ []))
unfolding allowed view same due channel_alone
channel_alone_lem = refute refl refl refl

-- it does ask for the channel: a half of another channel's cargo is not joined
pub channel_alone_across : Refuted 254 channel_alone
    (sends (cargo 0 one) (1 ∷ 0 ∷ []) ∷ sends (cargo 1 two) (0 ∷ 1 ∷ []) ∷ sends (cargo 0 one) (1 ∷ 0 ∷ []) ∷ sends (cargo 0 two) (0 ∷ 1 ∷ []) ∷ [])
    (shows (cargo 0 (1 ∷ 2 ∷ 3 ∷ 4 ∷ 15 ∷ 16 ∷ 17 ∷ 18 ∷ []) ∷ []) (3 ∷ 1 ∷ []) (0 ∷ 0 ∷ []))
unfolding allowed view same due channel_alone
channel_alone_across = refute refl refl refl

-- two busy channels and nothing lost: 254 losses that never were
pub one_number_lem : Refuted 254 one_number
    (sends (cargo 0 one) (1 ∷ 1 ∷ []) ∷ sends (cargo 1 byte) (1 ∷ []) ∷ [])
    (shows (cargo 0 one ∷ cargo 1 byte ∷ []) (0 ∷ 254 ∷ []) (0 ∷ 0 ∷ []))
unfolding allowed view same due one_number
one_number_lem = refute refl refl refl

-- and every other cargo taken for a repeat
pub one_number_repeats : Refuted 254 one_number
    (sends (cargo 1 byte) (1 ∷ []) ∷ sends (cargo 0 byte) (1 ∷ []) ∷ sends (cargo 0 byte) (1 ∷ []) ∷ sends (cargo 1 byte) (1 ∷ []) ∷ [])
    (shows (cargo 1 byte ∷ cargo 0 byte ∷ []) (0 ∷ 0 ∷ []) (1 ∷ 1 ∷ []))
unfolding allowed view same due one_number
one_number_repeats = refute refl refl refl

-- a transfer arrives twice: the same cargo twice
pub repeats_anew_lem : Refuted 254 repeats_anew
    (sends (cargo 0 byte) (2 ∷ []) ∷ [])
    (shows (cargo 0 byte ∷ cargo 0 byte ∷ []) (0 ∷ 0 ∷ []) (0 ∷ 0 ∷ []))
unfolding allowed view same due repeats_anew
repeats_anew_lem = refute refl refl refl

-- the same: 255 losses that never were, and the cargo twice; or once
pub gap_of_255 : Refuted 254 gap_of255
    (sends (cargo 0 byte) (2 ∷ []) ∷ [])
    (shows (cargo 0 byte ∷ cargo 0 byte ∷ []) (255 ∷ 0 ∷ []) (0 ∷ 0 ∷ []))
unfolding allowed view same due gap_of255
gap_of_255 = refute refl refl refl

pub gap_at_repeat_lem : Refuted 254 gap_at_repeat
    (sends (cargo 0 byte) (2 ∷ []) ∷ [])
    (shows (cargo 0 byte ∷ []) (255 ∷ 0 ∷ []) (1 ∷ 0 ∷ []))
unfolding allowed view same due gap_at_repeat
gap_at_repeat_lem = refute refl refl refl

-- a cargo in two transfers, both of which arrive: it is not joined; or half of it is handed over
pub whole_length_lem : Refuted 254 whole_length (sends (cargo 0 one) (1 ∷ 1 ∷ []) ∷ []) (shows [] (0 ∷ 0 ∷ []) (0 ∷ 0 ∷ []))
unfolding allowed view same due whole_length
whole_length_lem = refute refl refl refl

pub last_length_lem : Refuted 254 last_length (sends (cargo 0 one) (1 ∷ 1 ∷ []) ∷ []) (shows (cargo 0 (1 ∷ 2 ∷ 3 ∷ 4 ∷ []) ∷ []) (0 ∷ 0 ∷ []) (0 ∷ 0 ∷ []))
unfolding allowed view same due last_length
last_length_lem = refute refl refl refl

pub always_refuses : Refuted 254 refuses (sends (cargo 0 byte) (1 ∷ []) ∷ []) (shows [] (0 ∷ 0 ∷ []) (0 ∷ 0 ∷ []))
unfolding allowed view same due refuses
always_refuses = refute refl refl refl

pub always_null : Refuted 254 nulls (sends (cargo 0 byte) (1 ∷ []) ∷ []) (shows [] (0 ∷ 0 ∷ []) (0 ∷ 0 ∷ []))
unfolding allowed view same due nulls
always_null = refute refl refl refl

pub does_nothing : Refuted 254 idles (sends (cargo 0 byte) (1 ∷ []) ∷ []) (shows [] (0 ∷ 0 ∷ []) (0 ∷ 0 ∷ []))
unfolding allowed view same due idles
does_nothing = refute refl refl refl

-- two cargoes, both of which arrive: the first alone is handed over
pub only_nods : Refuted 254 nods
    (sends (cargo 0 one) (1 ∷ 1 ∷ []) ∷ sends (cargo 0 two) (1 ∷ 1 ∷ []) ∷ [])
    (shows (cargo 0 one ∷ []) (0 ∷ 0 ∷ []) (0 ∷ 0 ∷ []))
unfolding allowed view same due nods idles
only_nods = refute refl refl refl

-- nothing lost, one missing; one surplus copy, two repeats
pub invents_missing_lem : Refuted 254 invents_missing (sends (cargo 0 byte) (1 ∷ []) ∷ []) (shows (cargo 0 byte ∷ []) (1 ∷ 0 ∷ []) (0 ∷ 0 ∷ []))
unfolding allowed view same due invents_missing
invents_missing_lem = refute refl refl refl

pub invents_repeats_lem : Refuted 254 invents_repeats (sends (cargo 0 byte) (2 ∷ []) ∷ []) (shows (cargo 0 byte ∷ []) (0 ∷ 0 ∷ []) (2 ∷ 0 ∷ []))
unfolding allowed view same due invents_repeats
invents_repeats_lem = refute refl refl refl

-- number 0 is lost, and the continuation 1 arrives twice: its repeat is counted as 255 more losses
pub deaf_at_21 : Refuted 254 deaf_at21 (sends (cargo 0 one) (0 ∷ 2 ∷ []) ∷ []) (shows [] (256 ∷ 0 ∷ []) (0 ∷ 0 ∷ []))
unfolding allowed view same due deaf_at21
deaf_at_21 = refute refl refl refl

-- the first of two transfers arrives twice: nothing is handed over
pub drops_at_repeat_lem : Refuted 254 drops_at_repeat (sends (cargo 0 one) (2 ∷ 1 ∷ []) ∷ []) (shows [] (0 ∷ 0 ∷ []) (1 ∷ 0 ∷ []))
unfolding allowed view same due drops_at_repeat
drops_at_repeat_lem = refute refl refl refl
