-- A sound state stays sound, and an unsound one unsound, under every call.
use Prim.Native.Nat.{ℕ, ◌≤◌, ◌<◌, ◌-◌, ◌+◌}
use mathlib.Core.Path.{◌≡◌, refl, sym, ◌∙◌}
use mathlib.Core.Bool.{true, not, ◌&&◌}
use native.Mathlib.Omega.{arith}
use lib.Dec.{ltb, leb}
use borrow.Author.Tests.{lt-ltb, le-leb, ltb-true, not-false}
use Rattle.verdict.specs.declared.Settings.{Settings}
use Rattle.laws.proofs.Tests.{no_ok, by_cases, skip, and-true}
use Rattle.std.specs.Prelude.{Option, None, Result, Ok, Err}
use Rattle.std.specs.Result.{result_and, result_unwrap_or}
use Rattle.refusals.specs.declared.Refusal.{Refusal}
use Rattle.refusals.specs.declared.Refusal.TheVariants.{Unsound}
use Rattle.joining.specs.declared.Cargo.{Cargo}
use Rattle.receiver.specs.State as receiver
use Rattle.joining.specs.Joining.{held_of}
use Rattle.receiver.specs.State.{in_range, fits}
use Rattle.sender.specs.declared.Sender.{Sender}
use Rattle.sender.specs.State.{begun, sound, sound_sender}
use Rattle.sender.specs.Send.{size_of, judge, judge_send, size_at, underway_at, after, sent, sender_after, abandoned}
use Rattle.sender.proofs.Ready.{Ready, ready}

-- a sound sender's settings are in order
settled : (settings : Settings) (largest : ℕ) (underway : Option Cargo) → sound settings largest underway ≡ true
    → (in_range settings ≡ true) × (leb 5 largest ≡ true) × (leb largest settings.limit ≡ true)
unfolding sound receiver.sound
settled settings largest underway e =
    let p = and-true (receiver.sound settings underway && leb 5 largest && leb largest settings.limit) _ e in
    let q = and-true (receiver.sound settings underway && leb 5 largest) _ p.0 in
    let s = and-true (receiver.sound settings underway) _ q.0 in
    ((and-true (in_range settings) _ s.0).0, s.1, q.1)

idle_sound : (settings : Settings) (largest : ℕ) → in_range settings ≡ true → leb 5 largest ≡ true → leb largest settings.limit ≡ true → sound settings largest None ≡ true
unfolding sound begun receiver.sound fits
idle_sound settings largest a b c = simp (a, b, c)

-- each call sends a byte
enough : (largest m held : ℕ) → 5 ≤ largest → 1 ≤ m → 1 ≤ held + (size_of largest (m - held) - 4)
unfolding size_of
enough largest m held a b = omega arith

-- a cargo with a byte sent, and one still to send or none
load_sound : (settings : Settings) (largest channel m done : ℕ) → in_range settings ≡ true → leb 5 largest ≡ true → leb largest settings.limit ≡ true
    → channel < settings.count → m ≤ settings.limit - 4 → 1 ≤ done → sound settings largest (underway_at channel m done) ≡ true
unfolding underway_at sound begun receiver.sound fits
load_sound settings largest channel m done a b c d e f =
    by_cases (λ (u : Option Cargo). sound settings largest u ≡ true) (ltb done m) _ _
    (λ q. let l = ltb-true done m q in simp (a, b, c, lt-ltb channel settings.count d, le-leb 1 m (omega arith), le-leb m (settings.limit - 4) e, q, le-leb 1 done f))
    (λ q. idle_sound settings largest a b c)

-- a call that writes a transfer leaves a sound sender sound
after_sound : (s : Sender) (channel m room : ℕ) → judge_send s channel m room ≡ Ok tt → (sound_sender (after s channel m) ≡ true) × (sound_sender s ≡ true)
unfolding judge
after_sound s channel m room e =
    let k = not-false _ (skip (not (sound_sender s)) (Err Unsound) _ (Ok tt) (no_ok Unsound tt) e).0 in
    let r = passed e in
    let p = settled s.settings s.largest s.underway k in
    let l = r.less in
    (load_sound s.settings s.largest channel m (held_of s.underway + (size_at s m - 4)) p.0 p.1 p.2 r.below r.short (some r), k)
  where
    passed : judge_send s channel m room ≡ Ok tt → Ready s.settings s.largest s.underway channel m room
    passed q = ready s.settings s.largest s.underway channel m room q

    some : Ready s.settings s.largest s.underway channel m room → 1 ≤ held_of s.underway + (size_at s m - 4)
    some r = let a = r.some in let b = r.fits.five in enough s.largest m (held_of s.underway) b a

pub send_sound : (s : Sender) (channel m room : ℕ) → sound_sender (sender_after s (sent s channel m room)) ≡ sound_sender s
send_sound s channel m room = go (judge_send s channel m room) refl
  where
    go : (r : Result Unit Refusal) → judge_send s channel m room ≡ r
        → sound_sender (sender_after s (result_and r (Ok record { sender = after s channel m; written = size_at s m }))) ≡ sound_sender s
    go (Ok u) e = let k = after_sound s channel m room e in k.0 ∙ sym k.1
    go (Err r) e = refl

pub abandon_sound : (s : Sender) → sound_sender (result_unwrap_or (abandoned s) s) ≡ sound_sender s
unfolding abandoned
abandon_sound s =
    by_cases (λ (x : Result Sender Refusal). sound_sender (result_unwrap_or x s) ≡ sound_sender s) (not (sound_sender s)) _ _ (λ q. refl)
    (λ q. let k = not-false _ q in let p = settled s.settings s.largest s.underway k in idle_sound s.settings s.largest p.0 p.1 p.2 ∙ sym k)
