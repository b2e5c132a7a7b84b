-- What a new transfer carries is there, and has room; and where it went.
use Rattle.std.proofs.Common.{◌≡◌, refl, ℕ, ◌≤◌, ◌-◌, ◌+◌, List, Bool, true, false, ◌&&◌, arith, leb, eqb, drop}
use Rattle.std.specs.Prelude.{Option, None, Some, is_some}
use Rattle.std.proofs.Math.Seq.{paste}
use borrow.Author.Tests.{eqb-true, leb-true}
use Rattle.laws.proofs.Tests.{by_cases, and-true}
use Rattle.header.specs.declared.Header.{Header}
use Rattle.joining.specs.declared.Cargo.{Cargo}
use Rattle.joining.specs.declared.channels.Channel.{Channel}
use Rattle.joining.specs.declared.joinings.Joining.{Joining}
use Rattle.joining.specs.Joining.{held_of, carried_of, unjoined, begin, join, place}
use Rattle.step.specs.declared.steps.Went.{Went}
use Rattle.step.specs.Step.{ended, after, bytes_of}

pub record Copies (h : Header) (n room : ℕ) (p : Joining) : Type 0 where
  pub there : carried_of (is_some p.cargo) n h.length ≤ n - 4
  pub fits : held_of p.cargo + carried_of (is_some p.cargo) n h.length ≤ room

module _ (h : Header) (n room : ℕ) (long : 5 ≤ h.length) (short : h.length ≤ room + 4) where
  unjoined_copies : (dropped : Bool) → Copies h n room (unjoined dropped)
  unfolding carried_of
  unjoined_copies dropped = record { there = omega arith; fits = omega arith }

  begin_copies : (dropped : Bool) → Copies h n room (begin h dropped)
  unfolding carried_of
  begin_copies dropped = record { there = omega arith; fits = omega arith }

  join_copies : (gap : ℕ) (cargo : Cargo) → Copies h n room (join h room gap cargo)
  unfolding join carried_of
  join_copies gap cargo =
      by_cases (Copies h n room)
      (eqb cargo.channel h.channel && eqb gap 0 && eqb (h.length - 4) (cargo.total - cargo.held) && leb cargo.total room) _ _
      (λ q. let u = and-true (eqb cargo.channel h.channel && eqb gap 0 && eqb (h.length - 4) (cargo.total - cargo.held)) _ q in
      let v = eqb-true (h.length - 4) (cargo.total - cargo.held) (and-true (eqb cargo.channel h.channel && eqb gap 0) _ u.0).1 in
      let w = leb-true cargo.total room u.1 in
      record { there = omega arith; fits = omega arith })
      (λ q. unjoined_copies true)

  pub place_copies : (underway : Option Cargo) (gap : ℕ) → Copies h n room (place underway h room gap)
  unfolding place
  place_copies None gap = by_cases (Copies h n room) h.continuation _ _ (λ q. unjoined_copies false) (λ q. begin_copies false)
  place_copies (Some cargo) gap =
      by_cases (Copies h n room) h.continuation _ _ (λ q. join_copies gap cargo) (λ q. begin_copies true)

ended_bytes : (c : Channel) (h : Header) (n gap : ℕ) (dropped : Bool) (carried : ℕ) (cargo : Option Cargo) (t d : List ℕ)
    → bytes_of (ended c h n gap dropped carried cargo) t d ≡ paste d (held_of cargo) (drop 4 t) carried
unfolding ended
ended_bytes c h n gap dropped carried None t d = refl
ended_bytes c h n gap dropped carried (Some cargo) t d =
    by_cases (λ (w : Went). bytes_of w t d ≡ paste d cargo.held (drop 4 t) carried) (leb h.length n) _ _ (λ q. refl) (λ q. refl)

pub after_bytes : (c : Channel) (h : Header) (n gap : ℕ) (p : Joining) (carried : ℕ) (t d : List ℕ)
    → bytes_of (after c h n gap p carried) t d ≡ paste d (held_of p.cargo) (drop 4 t) carried
after_bytes c h n gap p carried t d = ended_bytes c h n gap p.dropped carried p.cargo t d
