-- What is sent with single flags, or more, is told: a body means what was escaped, and further flags say nothing.
use Prim.Native.Nat.{ℕ, suc, ◌≤◌}
use mathlib.Core.Path.{◌≡◌, refl, ap, ◌∙◌}
use mathlib.Core.List.{List, [], ◌∷◌, ◌++◌, append_assoc, map, flat_map}
use mathlib.Core.Bool.{Bool, true, false, cond}
use borrow.Author.Tests.{le-ltb, eqb-false}
use lib.Dec.{eqb}
use lib.ListN.{length}
use Rattle.writer.specs.Message.{flag, escape, special, turned, sent, escaped}
use Rattle.reader.proofs.Runs.{or_false}
use Rattle.reader.proofs.WriteRead.{NoFlag, none, more, no_flag, turned_back}
use Rattle.messages.specs.Messages.{Said, transfer, meant, hangs, said, judged, messages_of}
use Rattle.messages.specs.Sent.{closed, line, Body, written, told_on, SentAreTold}
use Rattle.messages.proofs.Parts.{behind_flag, closed_parts, piece_first, noise_ignored}

-- ---- a body

-- a byte as it is sent, before others
sent_flagless : (b : ℕ) (bs : List ℕ) → NoFlag bs → NoFlag (sent b ++ bs)
unfolding sent
sent_flagless b bs n = go (special b) refl
  where
    go : (t : Bool) → special b ≡ t → NoFlag (cond t (escape ∷ turned b ∷ []) (b ∷ []) ++ bs)
    go true e = more {b = escape} (eqb-false escape flag refl) (more (eqb-false (turned b) flag (no_flag b e)) n)
    go false e = more (eqb-false b flag (or_false (eqb b flag) (eqb b escape) e).0) n

flagless : (m : List ℕ) → NoFlag (escaped m)
unfolding escaped
flagless [] = none
flagless (b ∷ m) = sent_flagless b (escaped m) (flagless m)

sent_meant : (b : ℕ) (bs : List ℕ) → (meant false (sent b ++ bs) ≡ b ∷ meant false bs) × (hangs false (sent b ++ bs) ≡ hangs false bs)
unfolding sent meant hangs
sent_meant b bs = go (special b) refl
  where
    go : (t : Bool) → special b ≡ t
        → (meant false (cond t (escape ∷ turned b ∷ []) (b ∷ []) ++ bs) ≡ b ∷ meant false bs) × (hangs false (cond t (escape ∷ turned b ∷ []) (b ∷ []) ++ bs) ≡ hangs false bs)
    go true e = (rw (turned_back b e), refl)
    go false e = let o = (or_false (eqb b flag) (eqb b escape) e).1 in (simp o, simp o)

escaped_meant : (m : List ℕ) → (meant false (escaped m) ≡ m) × (hangs false (escaped m) ≡ false)
unfolding escaped meant hangs
escaped_meant [] = (refl, refl)
escaped_meant (b ∷ m) =
    let s = sent_meant b (escaped m) in
    let ih = escaped_meant m in
    (s.0 ∙ ap (λ (xs : List ℕ). b ∷ xs) ih.0, s.1 ∙ ih.1)

-- ---- a line

module _ (room : ℕ) where
  pub body_told : (m rest : List ℕ) → messages_of room (flag ∷ (escaped m ++ (flag ∷ rest))) ≡ judged room m false ++ messages_of room (flag ∷ rest)
  unfolding flat_map
  body_told m rest =
      let e = escaped_meant m in
      behind_flag room (escaped m ++ (flag ∷ rest)) ∙ rw (piece_first (flagless m) rest, e.0, e.1, behind_flag room rest)

  module _ (between : ℕ → List (List ℕ)) (rest : List ℕ) where
    line_told : (i : ℕ) (ms : List Body) → messages_of room (flag ∷ line between i (map written ms) rest) ≡ told_on room between i ms rest
    unfolding line told_on
    line_told i [] = refl
    line_told i (m ∷ ms) =
        let on = line between (suc i) (map written ms) rest in
        let bytes = m.id ∷ m.payload in
        closed_parts room (between i) ((escaped bytes ++ flag ∷ []) ++ on)
        ∙ ap (λ (xs : List Said). messages_of room (flag ∷ closed (between i)) ++ xs)
        (ap (λ (xs : List ℕ). messages_of room (flag ∷ xs)) (append_assoc (escaped bytes) (flag ∷ []) on)
        ∙ body_told bytes on
        ∙ ap (λ (xs : List Said). judged room bytes false ++ xs) (line_told (suc i) ms))

pub sent_are_told : SentAreTold
sent_are_told room noise between ms rest h = noise_ignored room noise (line between 0 (map written ms) rest) h ∙ line_told room between rest 0 ms

-- a transfer that fits
pub transfer_told : (room : ℕ) (t : List ℕ) → suc (length t) ≤ room → judged room (1 ∷ t) false ≡ transfer t ∷ []
unfolding judged said
transfer_told room t h = simp (le-ltb room (suc (length t)) h)
