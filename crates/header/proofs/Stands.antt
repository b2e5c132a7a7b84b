-- A header that is read stands in the first four bytes.
use Rattle.std.proofs.Common.{◌≡◌, ℕ, ◌%◌, ◌≤◌, cond, eqb, ltb, List, length, get_or, ltb-false}
use Rattle.header.specs.declared.Header.{Header}
use Rattle.std.specs.Prelude.{Option, None, Some, Ok, Err}
use Rattle.refusals.specs.declared.Refusal.TheVariants.{ShortTransfer}
use Rattle.header.specs.Header.{field_of, header_of, reading_of_bytes, reading_of}
use Rattle.laws.proofs.Tests.{clash, no_ok, skip}

no_null : (h : Header) → ◌≡◌ {A = Option Header} None (Some h) → ⊥
no_null h q = clash (cc)

pub record Stands (t : List ℕ) (h : Header) : Type 0 where
  pub whole : 4 ≤ length t
  pub same : header_of (get_or t 0 0) (get_or t 1 0) (get_or t 2 0) (get_or t 3 0) ≡ h

pub stands : (t : List ℕ) (h : Header) → reading_of t ≡ Ok (Some h) → Stands t h
unfolding reading_of reading_of_bytes
stands t h e =
    let g = header_of (get_or t 0 0) (get_or t 1 0) (get_or t 2 0) (get_or t 3 0) in
    let null = eqb (field_of (get_or t 0 0) (get_or t 1 0) % 32768) 0 in
    let a = skip (ltb (length t) 4) (Err ShortTransfer) _ (Ok (Some h)) (no_ok ShortTransfer (Some h)) e in
    let s : cond null None (Some g) ≡ Some h = cc in
    let b = skip null None (Some g) (Some h) (no_null h) s in
    record { whole = ltb-false _ _ a.0; same = cc }
