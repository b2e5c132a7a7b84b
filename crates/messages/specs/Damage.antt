-- Damage stays between its flags (document 02, request 5).
use Rattle.std.specs.Prelude.{ℕ, ◌≡◌, false, length, take}
use mathlib.Core.List.{List, [], ◌∷◌, ◌++◌, flatten}
use Rattle.reader.specs.declared.Reader.{Reader}
use Rattle.writer.specs.Message.{flag, escaped}
use Rattle.reader.specs.Reader.{outside, step_of}
use Rattle.messages.specs.Messages.{Said, judged, messages_of}
use Rattle.messages.specs.Tells.{Rule, read_by, read_slices}

-- ---- "Take a stream that begins with a flag and choose two flags in it."

-- p stands before the first, m strictly between them, s behind the second; p may begin with a flag or not
abbrev pub chosen : List ℕ → List ℕ → List ℕ → List ℕ
chosen p m s = p ++ (flag ∷ (m ++ (flag ∷ s)))

-- what is told up to the first chosen flag, which is included; from there up to the second, included too; and later
pub record Parts : Type 0 where
  pub before : List Said
  pub between : List Said
  pub after : List Said

-- as a reader tells it, byte by byte
abbrev pub parts_by : Rule → Reader → List ℕ → List ℕ → List ℕ → List ℕ → Parts
parts_by step r p m s buf =
    let x = read_by step r (p ++ flag ∷ []) buf in
    let y = read_by step x.reader (m ++ flag ∷ []) x.buffer in
    let z = read_by step y.reader s y.buffer in
    record { before = x.said; between = y.said; after = z.said }

-- as the messages of a stream are: p alone decides the first, m the second, s the third
abbrev pub parts_of : ℕ → List ℕ → List ℕ → List ℕ → Parts
parts_of room p m s =
    record {
      before = messages_of room (p ++ flag ∷ []);
      between = messages_of room (flag ∷ (m ++ flag ∷ []));
      after = messages_of room (flag ∷ s);
    }

-- our reader tells just these
abbrev pub ToldInParts : Type 0
ToldInParts = (p m s buf : List ℕ) → parts_by step_of outside p m s buf ≡ parts_of (length buf) p m s

-- ---- "Replace the bytes strictly between them by any others, flags among them or none."

-- "The messages before the first chosen flag, and those after the second, come out as they did before the receiver, in
-- the same order."
pub record Same (was is : Parts) : Type 0 where
  pub before : is.before ≡ was.before
  pub after : is.after ≡ was.after

-- two message buffers of one size, with the same bytes where the reader holds some of a message, and any elsewhere; one
-- that is outside holds none
pub record Alike (r : Reader) (buf buf' : List ℕ) : Type 0 where
  pub size : length buf' ≡ length buf
  pub held : take r.held buf' ≡ take r.held buf

-- m' in the place of m, from any state of the reader
abbrev pub StaysBy : Rule → Type 0
StaysBy step =
    (r : Reader) (p m m' s buf buf' : List ℕ) → Alike r buf buf'
    → Same (parts_by step r p m s buf) (parts_by step r p m' s buf')

-- over slices, cut anywhere: what is told of the two streams begins and ends in the same way
abbrev pub StaysInSlices : Type 0
StaysInSlices =
    (r : Reader) (slices slices' : List (List ℕ)) (p m m' s buf buf' : List ℕ)
    → Alike r buf buf' → flatten slices ≡ chosen p m s → flatten slices' ≡ chosen p m' s
    → (let was = parts_by step_of r p m s buf in
    let is = parts_by step_of r p m' s buf' in
    ((read_slices r slices buf).said ≡ was.before ++ (was.between ++ was.after))
    × ((read_slices r slices' buf').said ≡ was.before ++ (is.between ++ was.after)))

-- ---- "What comes from between may be false."

-- whatever the message, there are bytes that spell it: the ID and the payload, escaped
abbrev pub AnyMayCome : Type 0
AnyMayCome =
    (room id : ℕ) (payload p s : List ℕ)
    → (parts_of room p (escaped (id ∷ payload)) s).between ≡ judged room (id ∷ payload) false
