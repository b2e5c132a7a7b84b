-- An advertisement opened once (document 01: it "hands out its entries in turn, keeping its place; each of its calls
-- gives what the plain walk from that place gives").
use Rattle.std.specs.Prelude.{ℕ, zero, suc, List}
use Rattle.std.specs.Borrow.{Bor}
use Rattle.advert.specs.Entry.{EntryAnswer, entry_at}
use Rattle.advert.specs.Walk.{next_place}
use Rattle.opened.specs.declared.Advertisement.{Advertisement}
use Rattle.opened.specs.declared.Turn.{Turn}

-- "The caller gives the place where an entry walk begins"
abbrev pub opened : Bor (List ℕ) → ℕ → Advertisement
opened cargo place = record { cargo = cargo; place = place }

-- what it hands out next, and where it stands then
abbrev pub answer_of : Advertisement → EntryAnswer
answer_of ad = entry_at ad.cargo.now ad.place

abbrev pub stepped : Advertisement → Advertisement
stepped ad = record { cargo = ad.cargo; place = next_place ad.cargo.now ad.place }

-- after n calls
abbrev pub stepped_by : ℕ → Advertisement → Advertisement
stepped_by zero ad = ad
stepped_by (suc n) ad = stepped_by n (stepped ad)

-- one call, as plain data
abbrev pub turn_of : Advertisement → Turn
turn_of ad = record { answer = answer_of ad; place = (stepped ad).place }
