-- Where a new transfer's bytes go (document 01, "The receiver").
use Rattle.std.specs.Prelude.{ℕ, ◌-◌, min, Bool, true, false, cond, ◌&&◌, ◌==◌, nat_le, Option, None, Some}
use Rattle.header.specs.declared.Header.{Header}
use Rattle.joining.specs.declared.Cargo.{Cargo}
use Rattle.joining.specs.declared.joinings.Joining.{Joining}

-- how many bytes of the cargo under way, if any, are held
abbrev pub held_of : Option Cargo → ℕ
held_of None = 0
held_of (Some cargo) = cargo.held

-- "Otherwise the cargo under way, if any, is dropped, and the answer is 21."
abbrev pub unjoined : (dropped : Bool) → Joining
unjoined dropped = record { cargo = None; dropped = dropped }

-- "A first transfer drops any cargo under way and begins anew with nothing held."
abbrev pub begin : Header → (dropped : Bool) → Joining
begin h dropped =
    record {
      cargo = Some record { channel = h.channel; total = h.length - 4; held = 0 };
      dropped = dropped;
    }

-- "A continuation is joined only if a cargo is under way on this channel, the gap is 0, and L-4 equals the bytes still
-- due." (The buffer has room for a cargo under way in every sound state, after 24: receiver, `join_by_rule`.)
unfoldable pub join : (h : Header) (room gap : ℕ) (cargo : Cargo) → Joining
join h room gap cargo =
    cond (cargo.channel == h.channel && gap == 0 && h.length - 4 == cargo.total - cargo.held && nat_le cargo.total room)
    record { cargo = Some cargo; dropped = false }
    (unjoined true)

unfoldable pub place : Option Cargo → Header → (room gap : ℕ) → Joining
place None h room gap = cond h.continuation (unjoined false) (begin h false)
place (Some cargo) h room gap = cond h.continuation (join h room gap cargo) (begin h true)

-- "A transfer of n bytes carries min(n, L) - 4 cargo bytes."
unfoldable pub carried_of : (joined : Bool) (n length : ℕ) → ℕ
carried_of joined n length = cond joined (min n length - 4) 0
