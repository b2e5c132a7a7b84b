-- "0 to 12 have 004's meanings, others are unknown" (document 01, "Advertisement and error list"; 004, 5.1.2.1, the
-- figure of error codes).
use Rattle.std.specs.Prelude.{ℕ, List, [], ◌∷◌, get_or}
use Rattle.errors.specs.declared.meanings.Meaning.{Meaning}
use Rattle.errors.specs.declared.meanings.Meaning.TheVariants.{NoError, ReadCargoTooLong, WriteTooShort, LengthAboveMaximum, LengthWithinHeader, FirstFragmentUnsupported, ContinuationUnsupported, UnknownCommand, UnknownParameter, UnknownChannel, AdvertisementPending, WriteBeforeAdvertisement, ListTruncated, Unknown}

-- codes 0 to 12 in turn
abbrev pub meanings : List Meaning
meanings =
    NoError  -- 0: no error
    ∷ ReadCargoTooLong  -- 1: a hub application exceeded the maximum read cargo length
    ∷ WriteTooShort  -- 2: the host wrote fewer than the header's 4 bytes
    ∷ LengthAboveMaximum  -- 3: the host's header has a length above the maximum write cargo length
    ∷ LengthWithinHeader  -- 4: the host's header has a length no greater than the header's own
    ∷ FirstFragmentUnsupported  -- 5: the host began a fragmented cargo, which is not supported
    ∷ ContinuationUnsupported  -- 6: the host continued one, which is not supported
    ∷ UnknownCommand  -- 7: unrecognized command on the control channel
    ∷ UnknownParameter  -- 8: unrecognized parameter of the get-advertisement command
    ∷ UnknownChannel  -- 9: the host wrote to an unrecognized channel
    ∷ AdvertisementPending  -- 10: an advertisement was asked for while a response was pending
    ∷ WriteBeforeAdvertisement  -- 11: the host wrote before the hub had sent its advertisement
    ∷ ListTruncated  -- 12: the error list was too long to send
    ∷ []

abbrev pub meaning_of : ℕ → Meaning
meaning_of code = get_or meanings code Unknown
