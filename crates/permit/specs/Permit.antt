-- A permit, and what it says to a transfer (document 02, request 14; 004, 4.3 and 4.5).
use Rattle.std.specs.Prelude.{ℕ, ◌+◌, Bool, cond, ◌||◌, ltb, Option, None, Some, Result, Ok, Err}
use Rattle.refusals.specs.declared.Refusal.{Refusal}
use Rattle.refusals.specs.declared.Refusal.TheVariants.{NoPermit, EndedPermit, SmallPermit}
use Rattle.listener.specs.declared.News.{News}
use Rattle.listener.specs.declared.News.TheVariants.{Nothing, Transfer, Query, Notice, Refused}
use Rattle.permit.specs.declared.Permit.{Permit}

-- "a Notification of b bytes", at the clock when it comes
abbrev pub granted : ℕ → ℕ → Permit
granted room clock = record { room = room; came = clock }

-- "a newer one replaces it"; no other news touches what is held
unfoldable pub heard : Option Permit → News → ℕ → Option Permit
heard held Nothing clock = held
heard held (Transfer channel bytes answer) clock = held
heard held Query clock = held
heard held (Notice room) clock = Some (granted room clock)
heard held (Refused refusal) clock = held

-- "when more than the timeout has passed since it came, or when the clock is earlier than that"
unfoldable pub ended : ℕ → ℕ → ℕ → Bool
ended came clock timeout = ltb (came + timeout) clock || ltb clock came

-- what is said to a transfer whose header has L = l: "43 none held, 45 ended, 44 L too large, in that order"
unfoldable pub refusal : Option Permit → ℕ → ℕ → ℕ → Result Unit Refusal
refusal None l clock timeout = Err NoPermit
refusal (Some permit) l clock timeout =
    cond (ended permit.came clock timeout) (Err EndedPermit)
    (cond (ltb permit.room l) (Err SmallPermit)
    (Ok tt))
