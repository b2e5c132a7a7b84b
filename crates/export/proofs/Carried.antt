-- A permitted call carried in and out of the rows: one law for each way out of the functions that make one.
use Rattle.std.proofs.Common.{◌≡◌, ℕ, ap, ◌∙◌, true, false, List, length, eqb}
use borrow.Author.Tests.{eqb-true}
use Rattle.std.specs.Prelude.{Option, None, Some, Result, unwrap_or}
use Rattle.laws.proofs.Tests.{by_cases, clash, and-true}
use Rattle.refusals.specs.declared.Refusal.{Refusal}
use Rattle.refusals.specs.Number.{number_in}
use Rattle.sender.specs.declared.Sender.{Sender}
use Rattle.permit.specs.declared.Permit.{Permit}
use Rattle.permit.specs.declared.send.Allowed.{Allowed}
use Rattle.permit.specs.Send as sends
use Rattle.export.specs.Senders.{sender_of, sent_numbers}
use Rattle.export.specs.Permits.{Call, permit_of, permit_numbers, fit, loaded, number_after, row_after, permit_after, out_after}

module _ (f : Call) (g : Option Permit → Sender → List ℕ) (row permit out : List ℕ) where
  abbrev After : ℕ → List ℕ → List ℕ → List ℕ → Type 0
  After n row' permit' out' =
      (n ≡ number_after f row permit) × (row' ≡ row_after f row permit) × (permit' ≡ permit_after f row permit) × (out' ≡ out_after g row permit out)

  -- what was loaded, and what was not
  none_fit : loaded row permit ≡ None → fit row permit ≡ false
  none_fit = by_cases (λ (x : Option (Sender × Option Permit)). x ≡ None → fit row permit ≡ false) (fit row permit) _ _
      (λ q e. absurd (clash (cc))) (λ q e. q)

  both_fit : (s : Sender) (held : Option Permit) → loaded row permit ≡ Some (s, held) → (fit row permit ≡ true) × (sender_of row ≡ s) × (permit_of permit ≡ held)
  both_fit s held = by_cases (λ (x : Option (Sender × Option Permit)). x ≡ Some (s, held) → (fit row permit ≡ true) × (sender_of row ≡ s) × (permit_of permit ≡ held)) (fit row permit) _ _
      (λ q e. (q, ap (λ (x : Option (Sender × Option Permit)). (unwrap_or x (s, held)).0) e, ap (λ (x : Option (Sender × Option Permit)). (unwrap_or x (s, held)).1) e))
      (λ q e. absurd (clash (cc)))

  -- the rows have their lengths
  pub lengths : (s : Sender) (held : Option Permit) → loaded row permit ≡ Some (s, held) → (length row ≡ 40) × (length permit ≡ 3)
  unfolding fit
  lengths s held e =
      let k = and-true (eqb (length row) 40) (eqb (length permit) 3) (both_fit s held e).0 in
      (eqb-true _ _ k.0, eqb-true _ _ k.1)

  pub refused : loaded row permit ≡ None → After 23 row permit out
  unfolding number_after row_after permit_after out_after
  refused h = let e = none_fit h in (simp e, simp e, simp e, simp e)

  pub carried : (s : Sender) (held : Option Permit) (x : Result Allowed Refusal) (n : ℕ) (row' permit' out' : List ℕ) → loaded row permit ≡ Some (s, held)
      → x ≡ f held s → out' ≡ g held s → n ≡ number_in x → row' ≡ sent_numbers (sends.sender_after s x) (sends.written_in x)
      → permit' ≡ permit_numbers (sends.permit_after held x) → After n row' permit' out'
  unfolding number_after row_after permit_after out_after
  carried s held x n row' permit' out' h ex eo en er eq =
      let k = both_fit s held h in
      let e = k.0 in
      let es = k.1 in
      let ep = k.2 in (
        simp e (rw (es, ep) (en ∙ ap number_in ex)),
        simp e (rw (es, ep) (er ∙ ap (λ (q : Result Allowed Refusal). sent_numbers (sends.sender_after s q) (sends.written_in q)) ex)),
        simp e (rw (es, ep) (eq ∙ ap (λ (q : Result Allowed Refusal). permit_numbers (sends.permit_after held q)) ex)),
        simp e (rw (es, ep) eo),
      )
