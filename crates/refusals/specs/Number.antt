-- The numbers of the answers (document 01, "Answer numbers"; document 02, requests 1, 9 and 14).
use Rattle.std.specs.Prelude.{ℕ, Result, Ok, Err}
use Rattle.refusals.specs.declared.Refusal.{Refusal}
use Rattle.refusals.specs.declared.Refusal.TheVariants.{ShortTransfer, LongTransfer, HeaderAlone, NoSuchChannel, Repeat, NotJoined, LengthOfOnes, Unsound, ShortCargoBuffer, EmptyCargo, LongCargo, ShortOutput, OtherUnderWay, UnknownId, FlagAfterEscape, LongMessage, ControlPayload, OneByteLeft, ValuePastEnd, LongValue, NoErrorList, FullIndex, Circumference, NoTotal, TotalBehind, LongDistance, NoPermit, SmallPermit, EndedPermit}

abbrev pub number_of : Refusal → ℕ
number_of ShortTransfer = 2
number_of LongTransfer = 3
number_of HeaderAlone = 4
number_of NoSuchChannel = 9
number_of Repeat = 20
number_of NotJoined = 21
number_of LengthOfOnes = 22
number_of Unsound = 23
number_of ShortCargoBuffer = 24
number_of EmptyCargo = 26
number_of LongCargo = 27
number_of ShortOutput = 28
number_of OtherUnderWay = 29
number_of UnknownId = 30
number_of FlagAfterEscape = 31
number_of LongMessage = 32
number_of ControlPayload = 33
number_of OneByteLeft = 34
number_of ValuePastEnd = 35
number_of LongValue = 36
number_of NoErrorList = 37
number_of FullIndex = 38
number_of Circumference = 39
number_of NoTotal = 40
number_of TotalBehind = 41
number_of LongDistance = 42
number_of NoPermit = 43
number_of SmallPermit = 44
number_of EndedPermit = 45

-- "0: taken, delivered, written"
abbrev pub number_in : {A : Type 0} → Result A Refusal → ℕ
number_in (Ok a) = 0
number_in (Err refusal) = number_of refusal
