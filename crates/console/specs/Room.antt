-- What can be said of the outside: nothing of what is read or written, but what is done without asking it.
use Rattle.std.specs.Prelude.{ℕ, ◌-◌, ◌≤◌, Bool, true, false, ◌&&◌, ◌≡◌, leb, Option, Some, IfSome}

-- behind the first `used` of n bytes there is room for more
unfoldable pub has_room : ℕ → ℕ → ℕ → Bool
has_room more used n = leb used n && leb more (n - used)

-- with room the bytes gathered stay and nothing fails; without it they are written, or not
pub record MadeRoom (more used n : ℕ) (left : Option ℕ) : Type 0 where
  pub untouched : has_room more used n ≡ true → left ≡ Some used
  pub emptied : has_room more used n ≡ false → IfSome left (λ k. k ≡ 0)
  pub inside : IfSome left (λ k. k ≤ n)
