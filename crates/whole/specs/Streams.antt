-- A whole input taken call after call, from a fresh start, and all that it told counted.
use Rattle.std.specs.Prelude.{ℕ, zero, suc, Bool, cond, ltb, List, length, nat_lt}
use Rattle.verdict.specs.declared.Settings.{Settings}
use Rattle.verdict.specs.Judge.{settings_of}
use Rattle.receiver.specs.State.{fresh_receiver}
use Rattle.reader.specs.declared.Reader.{Reader}
use Rattle.listener.specs.declared.Listener.{Listener}
use Rattle.reader.specs.Reader.{outside}
use Rattle.reader.specs.Run.{read_from}
use Rattle.listener.specs.Listen.{listen, cargo_listened}
use Rattle.whole.specs.Tallies.{news_counted, event_counted}

-- turns while there is more, at most k
unfoldable pub turns : {S : Type 0} → (S → Bool) → (S → S) → ℕ → S → S
turns more turn zero s = s
turns more turn (suc k) s = cond (more s) (turns more turn k (turn s)) s

-- a reader, the place of its next byte, and what is lent
pub record Reading : Type 0 where
  pub reader : Reader
  pub at : ℕ
  pub message : List ℕ
  pub tally : List ℕ

abbrev pub read_turn : List ℕ → Reading → Reading
read_turn input s =
    let x = read_from s.reader input s.at s.message in
    record {
      reader = x.answer.reader;
      at = x.answer.next;
      message = x.buffer;
      tally = event_counted s.tally x.answer.event;
    }

-- a listener, likewise
pub record Listening : Type 0 where
  pub listener : Listener
  pub at : ℕ
  pub message : List ℕ
  pub cargo : List ℕ
  pub tally : List ℕ

abbrev pub listen_turn : List ℕ → Listening → Listening
listen_turn input s =
    let x = listen s.listener input s.at s.message (length s.cargo) in
    record {
      listener = x.listener;
      at = x.next;
      message = (read_from s.listener.reader input s.at s.message).buffer;
      cargo = cargo_listened s.listener input s.at s.message s.cargo;
      tally = news_counted s.tally x.news;
    }

-- a tally of fewer than nine places is refused with 28, and nothing changes
unfoldable pub tally_number : ℕ → ℕ
tally_number places = cond (nat_lt places 9) 28 0

-- to the end of the input: every turn takes a byte or more
abbrev pub read_whole : List ℕ → List ℕ → List ℕ → Reading
read_whole input message tally =
    turns (λ (s : Reading). ltb s.at (length input)) (read_turn input) (length input)
    record { reader = outside; at = 0; message = message; tally = tally }

abbrev pub listen_whole : Settings → List ℕ → List ℕ → List ℕ → List ℕ → Listening
listen_whole settings input message cargo tally =
    turns (λ (s : Listening). ltb s.at (length input)) (listen_turn input) (length input)
    record {
      listener = record { reader = outside; receiver = fresh_receiver settings };
      at = 0;
      message = message;
      cargo = cargo;
      tally = tally;
    }

-- what is lent, after the call
unfoldable pub message_read : List ℕ → List ℕ → List ℕ → List ℕ
message_read input message tally = cond (nat_lt (length tally) 9) message (read_whole input message tally).message

unfoldable pub tally_read : List ℕ → List ℕ → List ℕ → List ℕ
tally_read input message tally = cond (nat_lt (length tally) 9) tally (read_whole input message tally).tally

unfoldable pub message_heard : ℕ → ℕ → List ℕ → List ℕ → List ℕ → List ℕ → List ℕ
message_heard limit count input message cargo tally =
    cond (nat_lt (length tally) 9) message (listen_whole (settings_of limit count) input message cargo tally).message

unfoldable pub cargo_heard : ℕ → ℕ → List ℕ → List ℕ → List ℕ → List ℕ → List ℕ
cargo_heard limit count input message cargo tally =
    cond (nat_lt (length tally) 9) cargo (listen_whole (settings_of limit count) input message cargo tally).cargo

unfoldable pub tally_heard : ℕ → ℕ → List ℕ → List ℕ → List ℕ → List ℕ → List ℕ
tally_heard limit count input message cargo tally =
    cond (nat_lt (length tally) 9) tally (listen_whole (settings_of limit count) input message cargo tally).tally
