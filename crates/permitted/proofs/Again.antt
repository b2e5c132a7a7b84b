-- A second write without a Notification of its own is 43.
use Prim.Native.Nat.{ℕ}
use mathlib.Core.Path.{◌≡◌, refl, ap, ◌∙◌}
use mathlib.Core.List.{List, [], ◌∷◌, ◌++◌}
use native.Mathlib.Omega.{arith}
use lib.ListN.{length}
use Rattle.std.specs.Prelude.{Option, None}
use Rattle.listener.specs.declared.News.{News}
use Rattle.listener.specs.declared.News.TheVariants.{Nothing, Transfer, Query, Notice, Refused}
use Rattle.permit.specs.declared.Permit.{Permit}
use Rattle.permit.specs.Permit.{heard}
use Rattle.permit.specs.Send.{Way}
use Rattle.permit.proofs.Claimed.{Asks, written_as_plain, none_held}
use Rattle.permitted.specs.Run.{Hearing, heard_all, permit_at, call_at, try_one}
use Rattle.permitted.specs.Uses.{notice_of, notices_in, SecondWrite}

-- news without a Notification leave none held
quiet : (n : News) (clock : ℕ) (more : List Permit) → notice_of n clock ++ more ≡ [] → (heard None n clock ≡ None) × (more ≡ [])
unfolding heard
quiet Nothing clock more e = (refl, e)
quiet (Transfer channel held answer) clock more e = (refl, e)
quiet Query clock more e = (refl, e)
quiet (Notice room) clock more e = let n = ap length e in absurd (omega arith)
quiet (Refused refusal) clock more e = (refl, e)

still_none : (xs : List Hearing) → notices_in xs ≡ [] → heard_all None xs ≡ None
unfolding heard_all notices_in
still_none [] e = refl
still_none (x ∷ xs) e =
    let q = quiet x.news x.clock (notices_in xs) e in
    ap (λ (p : Option Permit). heard_all p xs) q.0 ∙ still_none xs q.1

pub second_write_43 : (way : Way) → Asks way → SecondWrite way
unfolding try_one
second_write_43 way A x y t u h q e own =
    let W = written_as_plain way A (permit_at t h) (call_at x t h) q in
    let n : permit_at u (try_one way x t h) ≡ None = ap (λ (p : Option Permit). heard_all p u.heard) W.permit ∙ still_none u.heard e in
    rw n (none_held way (call_at y u (try_one way x t h)) own)
