-- A cargo sent by call after call (document 01, "The sender": "The caller lends the whole cargo at each call").
use Rattle.std.specs.Prelude.{ℕ, zero, suc, ◌+◌, ◌-◌, ◌/◌, ◌≤◌, ◌<◌, ◌≡◌, true, List, [], ◌∷◌, ◌++◌, length, take, drop, get_or, set, is_some, None}
use Rattle.header.specs.declared.sequence.Counter.{Counter}
use Rattle.header.specs.Sequence.{fresh_counter, stepped}
use Rattle.sender.specs.declared.Sender.{Sender}
use Rattle.sender.specs.Send.{sent, sender_after, written_in, out_after}

-- the transfers that n calls write into one lent output, in order, and the sender after them
pub record Calls : Type 0 where
  pub sender : Sender
  pub transfers : List (List ℕ)

unfoldable pub calls : ℕ → Sender → ℕ → List ℕ → List ℕ → Calls
calls zero s channel cargo out = record { sender = s; transfers = [] }
calls (suc n) s channel cargo out =
    let a = sent s channel (length cargo) (length out) in
    let o = out_after s channel cargo out in
    let rest = calls n (sender_after s a) channel cargo o in
    record { sender = rest.sender; transfers = take (written_in a) o ∷ rest.transfers }

-- "A cargo of m bytes takes m/(T-4) transfers, rounded up."
unfoldable pub calls_for : ℕ → ℕ → ℕ
calls_for largest m = (m + (largest - 5)) / (largest - 4)

-- the cargo bytes of transfers, joined
unfoldable pub joined : List (List ℕ) → List ℕ
joined [] = []
joined (t ∷ ts) = drop 4 t ++ joined ts

-- the sequence numbers of transfers
unfoldable pub numbers_of : List (List ℕ) → List ℕ
numbers_of [] = []
numbers_of (t ∷ ts) = get_or t 3 0 ∷ numbers_of ts

-- n numbers, the first a counter's; and the counter n steps on
unfoldable pub numbers_from : ℕ → Counter → List ℕ
numbers_from zero c = []
numbers_from (suc n) c = c.next ∷ numbers_from n (stepped c)

unfoldable pub forward : ℕ → Counter → Counter
forward zero c = c
forward (suc n) c = forward n (stepped c)

-- A cargo on a channel, taken up by a sender that has none under way, is sent by as many calls as document 01 says and
-- no fewer. Their carried bytes joined are the cargo; numbers step by one on that channel and no other
pub record SentWhole (s : Sender) (channel : ℕ) (cargo out : List ℕ) : Type 0 where
  pub ends : (calls (calls_for s.largest (length cargo)) s channel cargo out).sender
      ≡ record {
        settings = s.settings;
        largest = s.largest;
        counters =
            set s.counters channel
            (forward (calls_for s.largest (length cargo)) (get_or s.counters channel fresh_counter));
        underway = None;
      }
  pub earlier : (k : ℕ) → 1 ≤ k → k < calls_for s.largest (length cargo)
      → is_some (calls k s channel cargo out).sender.underway ≡ true
  pub carried : joined (calls (calls_for s.largest (length cargo)) s channel cargo out).transfers ≡ cargo
  pub numbers : numbers_of (calls (calls_for s.largest (length cargo)) s channel cargo out).transfers
      ≡ numbers_from (calls_for s.largest (length cargo)) (get_or s.counters channel fresh_counter)
