-- A call made until it is not to be made again.
use Rattle.std.specs.Prelude.{ℕ, ◌≡◌}

-- the answer is that of one call, and what no call changes is then as it was at the first
abbrev pub LastCall : {F A : Type 0} (step : F → A → F → Type 0) (first : F) (answer : A) → Type 0
LastCall {F} {A} step first answer =
    (kept : F → ℕ) → ((s : F) (a : A) (t : F) → step s a t → kept t ≡ kept s)
    → (s : F) × (t : F) × (kept s ≡ kept first) × step s answer t
