-- What is sent is told, with a single flag between messages or more (document 02, request 3).
use Rattle.std.specs.Prelude.{ℕ, suc, ◌≡◌, false, drop}
use mathlib.Core.List.{List, [], ◌∷◌, ◌++◌, map, flat_map}
use Rattle.writer.specs.Message.{flag, message}
use Rattle.messages.specs.Messages.{Said, pieces, judged, messages_of}

-- no flag closes anything in it
abbrev pub FlagFree : List ℕ → Type 0
FlagFree bytes = pieces bytes ≡ []

-- any bytes, with a flag behind each
abbrev pub closed : List (List ℕ) → List ℕ
closed ps = flat_map (λ (p : List ℕ). p ++ flag ∷ []) ps

-- Messages as they are written, flag to flag, on a line behind a flag. The flag that stands before a message opens it,
-- so its own is left out. Before the i-th stands `between i`: nothing where it shares its flag with the one before it.
unfoldable pub line : (ℕ → List (List ℕ)) → ℕ → List (List ℕ) → List ℕ → List ℕ
line between i [] rest = rest
line between i (m ∷ ms) rest = closed (between i) ++ (drop 1 m ++ line between (suc i) ms rest)

-- with noise before the first flag
abbrev pub on_line : List ℕ → (ℕ → List (List ℕ)) → List (List ℕ) → List ℕ → List ℕ
on_line noise between ms rest = noise ++ (flag ∷ line between 0 ms rest)

-- what a message is to say
pub record Body : Type 0 where
  pub id : ℕ
  pub payload : List ℕ

abbrev pub written : Body → List ℕ
written m = message m.id m.payload

-- what is told of them: each message as it was sent, and what stands between
unfoldable pub told_on : ℕ → (ℕ → List (List ℕ)) → ℕ → List Body → List ℕ → List Said
told_on room between i [] rest = messages_of room (flag ∷ rest)
told_on room between i (m ∷ ms) rest =
    messages_of room (flag ∷ closed (between i))
    ++ (judged room (m.id ∷ m.payload) false ++ told_on room between (suc i) ms rest)

abbrev pub SentAreTold : Type 0
SentAreTold =
    (room : ℕ) (noise : List ℕ) (between : ℕ → List (List ℕ)) (ms : List Body) (rest : List ℕ) → FlagFree noise
    → messages_of room (on_line noise between (map written ms) rest) ≡ told_on room between 0 ms rest
