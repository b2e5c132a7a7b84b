-- "a Notification of b bytes allows one transfer whose header has L of at most b, a newer one replaces it, and a write
-- uses it up"
use Rattle.std.specs.Prelude.{ℕ, ◌+◌, ◌≤◌, cond, true, List, [], ◌∷◌, ◌++◌, map, ◌≡◌, ◌⊎◌, length, Option, None, Some, Ok, Err}
use Rattle.refusals.specs.declared.Refusal.TheVariants.{NoPermit}
use Rattle.sender.specs.Send.{header_at}
use Rattle.link.specs.Run.{Setup, Cargo, Shipment}
use Rattle.listener.specs.declared.News.{News}
use Rattle.listener.specs.declared.News.TheVariants.{Nothing, Transfer, Query, Notice, Refused}
use Rattle.permit.specs.declared.Permit.{Permit}
use Rattle.permit.specs.Permit.{granted}
use Rattle.permit.specs.Send.{Way}
use Rattle.permitted.specs.Run.{Hearing, Try, Attempt, Host, permit_at, answer_at, writes, try_one, ship, fresh, plainly}

-- ---- the Notifications of a run, in order, each as the permit that it grants

abbrev pub notice_of : News → ℕ → List Permit
notice_of Nothing clock = []
notice_of (Transfer channel held answer) clock = []
notice_of Query clock = []
notice_of (Notice room) clock = granted room clock ∷ []
notice_of (Refused refusal) clock = []

unfoldable pub notices_in : List Hearing → List Permit
notices_in [] = []
notices_in (x ∷ xs) = notice_of x.news x.clock ++ notices_in xs

unfoldable pub notices_by : List Try → List Permit
notices_by [] = []
notices_by (t ∷ ts) = notices_in t.heard ++ notices_by ts

unfoldable pub notices : List Attempt → List Permit
notices [] = []
notices (x ∷ xs) = notices_by x.tries ++ notices xs

-- ---- the transfers written, each with the permit that it used

pub record Use : Type 0 where
  pub grant : Permit
  pub l : ℕ
  pub clock : ℕ
  pub timeout : ℕ

abbrev pub use_of : Option Permit → ℕ → ℕ → ℕ → List Use
use_of None l clock timeout = []
use_of (Some permit) l clock timeout =
    record { grant = permit; l = l; clock = clock; timeout = timeout } ∷ []

unfoldable pub uses_by : Way → Cargo → List Try → Host → List Use
uses_by way x [] h = []
uses_by way x (t ∷ ts) h =
    cond (writes way x t h)
    (use_of (permit_at t h) (header_at h.line.sender x.channel (length x.bytes)).length t.clock t.timeout)
    []
    ++ uses_by way x ts (try_one way x t h)

unfoldable pub uses : Way → ℕ → List Attempt → Host → List Use
uses way largest [] h = []
uses way largest (x ∷ xs) h = uses_by way x.cargo x.tries h ++ uses way largest xs (ship way largest x h)

-- how many transfers were written
unfoldable pub sent_in : List Shipment → ℕ
sent_in [] = 0
sent_in (x ∷ xs) = length x.fates + sent_in xs

-- ---- what is claimed of them

-- some of these, each once and in their order
unfoldable pub Among : List Permit → List Permit → Type 0
Among [] ys = Unit
Among (x ∷ xs) [] = ⊥
Among (x ∷ xs) (y ∷ ys) = ((x ≡ y) × Among xs ys) ⊎ Among (x ∷ xs) ys

-- L of at most the room, and no earlier than it came nor later than the timeout after that
pub record InOrder (u : Use) : Type 0 where
  pub room : u.l ≤ u.grant.room
  pub not_before : u.grant.came ≤ u.clock
  pub in_time : u.clock ≤ u.grant.came + u.timeout

unfoldable pub AllInOrder : List Use → Type 0
AllInOrder [] = Unit
AllInOrder (u ∷ us) = InOrder u × AllInOrder us

-- after a write, and no Notification since, what the caller's own order lets through is 43
abbrev pub SecondWrite : Way → Type 0
SecondWrite way =
    (x y : Cargo) (t u : Try) (h : Host)
    → writes way x t h ≡ true
    → notices_in u.heard ≡ []
    → way.own (try_one way x t h).line.sender y.channel y.bytes (length (try_one way x t h).line.out) ≡ Ok tt
    → answer_at way y u (try_one way x t h) ≡ Err NoPermit

-- each transfer written used one permit, each permit was a Notification's of its own, and allowed it
pub record OneEach (way : Way) (g : Setup) (out : List ℕ) (xs : List Attempt) : Type 0 where
  pub each_used_one : length (uses way g.largest xs (fresh g out)) ≡ sent_in (plainly way g out xs)
  pub of_its_own : Among (map (λ (u : Use). u.grant) (uses way g.largest xs (fresh g out))) (notices xs)
  pub no_more : sent_in (plainly way g out xs) ≤ length (notices xs)
  pub allowed : AllInOrder (uses way g.largest xs (fresh g out))
