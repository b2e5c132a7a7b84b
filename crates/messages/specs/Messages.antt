-- The messages of a stream, said at once and without a reader: split it at its flags, unescape each piece, judge it
-- (document 01, "UART messages"; document 02, request 3). The reader tells just these: proofs/Split.antt.
use Rattle.std.specs.Prelude.{ℕ, ◌+◌, ◌*◌, Bool, true, false, cond, ltb, eqb, length, drop}
use mathlib.Core.List.{List, [], ◌∷◌, flat_map}
use Rattle.refusals.specs.declared.Refusal.{Refusal}
use Rattle.refusals.specs.declared.Refusal.TheVariants.{UnknownId, FlagAfterEscape, LongMessage, ControlPayload}
use Rattle.writer.specs.Message.{flag, escape, turned}

-- a message: the payload of ID 1, a query, a notification with its room, or why it is refused
pub data Said : Type 0 where
  transfer : List ℕ → Said
  query : Said
  notice : ℕ → Said
  refused : Refusal → Said

-- ---- split: "every flag closes what precedes it and opens what follows"

-- a byte goes to the front of the piece that follows it; where no flag closes that one, there is none
unfoldable pub onto : ℕ → List (List ℕ) → List (List ℕ)
onto b [] = []
onto b (p ∷ ps) = (b ∷ p) ∷ ps

-- the pieces that a flag closes
unfoldable pub pieces : List ℕ → List (List ℕ)
pieces [] = []
pieces (b ∷ bs) = cond (eqb b flag) ([] ∷ pieces bs) (onto b (pieces bs))

-- ---- unescape; `after`: the byte before was a 0x7D that turns this one

-- "After 0x7D a byte b other than a flag means b XOR 0x20."
unfoldable pub meant : Bool → List ℕ → List ℕ
meant after [] = []
meant true (b ∷ bs) = turned b ∷ meant false bs
meant false (b ∷ bs) = cond (eqb b escape) (meant true bs) (b ∷ meant false bs)

-- "flag right after 0x7D": the piece ends in a 0x7D that turns nothing
unfoldable pub hangs : Bool → List ℕ → Bool
hangs after [] = after
hangs true (b ∷ bs) = hangs false bs
hangs false (b ∷ bs) = hangs (eqb b escape) bs

-- ---- judge

-- "ID 0 with no payload is a Buffer Status Query, with two bytes a Notification, low byte first"; 33
unfoldable pub control_said : List ℕ → Said
control_said [] = query
control_said (a ∷ []) = refused ControlPayload
control_said (low ∷ high ∷ []) = notice (low + 256 * high)
control_said (a ∷ b ∷ c ∷ bs) = refused ControlPayload

-- ID and payload; "nothing between two flags is no message"
unfoldable pub said : List ℕ → List Said
said [] = []
said (id ∷ payload) = cond (ltb 1 id) (refused UnknownId) (cond (eqb id 1) (transfer payload) (control_said payload)) ∷ []

-- "At the closing flag, in order: 32, 31, 30, 33.", with room for so many bytes
unfoldable pub judged : ℕ → List ℕ → Bool → List Said
judged room bytes hanging =
    cond (ltb room (length bytes)) (refused LongMessage ∷ [])
    (cond hanging (refused FlagAfterEscape ∷ [])
    (said bytes))

abbrev pub said_of : ℕ → List ℕ → List Said
said_of room piece = judged room (meant false piece) (hangs false piece)

-- ---- the messages of a stream, for a message buffer of so many bytes: what stands before its first flag is ignored

unfoldable pub messages_of : ℕ → List ℕ → List Said
messages_of room stream = flat_map (said_of room) (drop 1 (pieces stream))

-- "ID 1 hands the payload to the receiver": the transfers among them
abbrev pub transfer_of : Said → List (List ℕ)
transfer_of (transfer t) = t ∷ []
transfer_of query = []
transfer_of (notice room) = []
transfer_of (refused refusal) = []

abbrev pub transfers_in : List Said → List (List ℕ)
transfers_in xs = flat_map transfer_of xs
