-- Listening over a slice is hearing its bytes one by one, until there is news or the input ends.
use Prim.Native.Nat.{ℕ, ◌-◌}
use mathlib.Core.Path.{◌≡◌, refl, sym, ap, ◌∙◌}
use mathlib.Core.List.{List, [], ◌∷◌}
use mathlib.Core.Bool.{Bool, true, false, cond}
use lib.ListN.{length, drop}
use Rattle.refusals.specs.declared.Refusal.TheVariants.{Unsound}
use Rattle.receiver.specs.declared.Receiver.{Receiver}
use Rattle.reader.specs.declared.Event.{Event}
use Rattle.reader.specs.declared.Event.TheVariants as events
use Rattle.listener.specs.declared.Listener.{Listener}
use Rattle.listener.specs.declared.Listened.{Listened}
use Rattle.listener.specs.declared.News.{News}
use Rattle.listener.specs.declared.News.TheVariants.{Nothing, Transfer, Query, Notice, Refused}
use Rattle.reader.specs.Reader.{unsound, step_of, buffer_after}
use Rattle.reader.specs.Run.{quiet, Run, at_end, run, end_from, read_from}
use Rattle.listener.specs.Listen.{handed, cargo_handed, hear, cargo_heard, listen, cargo_listened}
use Rattle.reader.proofs.Runs.{clash, goes_on_lem, stops}

-- the answer after some bytes, and both lent buffers
pub record Hearing : Type 0 where
  pub answer : Listened
  pub message : List ℕ
  pub cargo : List ℕ

abbrev pub silent : News → Bool
silent Nothing = true
silent (Transfer channel held answer) = false
silent Query = false
silent (Notice room) = false
silent (Refused refusal) = false

-- no byte is left
unfoldable pub heard_out : Listener → ℕ → List ℕ → List ℕ → Hearing
heard_out l end m d =
    let news = cond (unsound l.reader m) (Refused Unsound) Nothing in
    record { answer = record { listener = l; next = end; news = news }; message = m; cargo = d }

-- the last bytes of an input that ends at the place `end`, heard one by one
unfoldable pub hears : Listener → List ℕ → ℕ → List ℕ → List ℕ → Hearing
hears l [] end m d = heard_out l end m d
hears l (b ∷ rest) end m d =
    let h = hear l b m (length d) in
    let after = buffer_after l.reader b m in
    cond (silent h.news) (hears h.listener rest end after (cargo_heard l b m d))
    record { answer = record { listener = h.listener; next = end - length rest; news = h.news }; message = after; cargo = cargo_heard l b m d }

-- a run of the reader, and its event handed on
abbrev handed_on : Run → Receiver → List ℕ → Hearing
handed_on x rx d =
    let h = handed rx x.answer.event x.buffer (length d) in
    record {
      answer = record { listener = record { reader = x.answer.reader; receiver = h.receiver }; next = x.answer.next; news = h.news };
      message = x.buffer;
      cargo = cargo_handed rx x.answer.event x.buffer d;
    }

quiet_silent : (rx : Receiver) (event : Event) (m : List ℕ) (room : ℕ) → silent (handed rx event m room).news ≡ quiet event
unfolding handed
quiet_silent rx events.Nothing m room = refl
quiet_silent rx (events.Message length) m room = refl
quiet_silent rx events.Query m room = refl
quiet_silent rx (events.Notice available) m room = refl
quiet_silent rx (events.Refused refusal) m room = refl

pub nothing : (event : Event) → quiet event ≡ true → event ≡ events.Nothing
nothing events.Nothing q = refl
nothing (events.Message length) q = clash q
nothing events.Query q = clash q
nothing (events.Notice available) q = clash q
nothing (events.Refused refusal) q = clash q

module _ (l : Listener) (b : ℕ) (rest : List ℕ) (end : ℕ) (m d : List ℕ) where
  abbrev after_byte : Listener
  after_byte = record { reader = (step_of l.reader b m).reader; receiver = l.receiver }

  hears_on : quiet (step_of l.reader b m).event ≡ true → hears l (b ∷ rest) end m d ≡ hears after_byte rest end (buffer_after l.reader b m) d
  unfolding hears handed cargo_handed
  hears_on q = rw (nothing (step_of l.reader b m).event q)

  hears_news : quiet (step_of l.reader b m).event ≡ false → hears l (b ∷ rest) end m d ≡ handed_on (run l.reader (b ∷ rest) end m) l.receiver d
  unfolding hears
  hears_news q =
      let n = quiet_silent l.receiver (step_of l.reader b m).event (buffer_after l.reader b m) (length d) ∙ q in
      simp n (ap (λ (x : Run). handed_on x l.receiver d) (sym (stops l.reader b rest end m q)))

  hears_byte : hears after_byte rest end (buffer_after l.reader b m) d ≡ handed_on (run after_byte.reader rest end (buffer_after l.reader b m)) l.receiver d
      → (t : Bool) → quiet (step_of l.reader b m).event ≡ t → hears l (b ∷ rest) end m d ≡ handed_on (run l.reader (b ∷ rest) end m) l.receiver d
  hears_byte ih true q = hears_on q ∙ ih ∙ ap (λ (x : Run). handed_on x l.receiver d) (sym (goes_on_lem l.reader b rest end m q))
  hears_byte ih false q = hears_news q

heard_out_lem : (l : Listener) (end : ℕ) (m d : List ℕ) → heard_out l end m d ≡ handed_on (run l.reader [] end m) l.receiver d
unfolding heard_out run at_end handed cargo_handed
heard_out_lem l end m d = go (unsound l.reader m) refl
  where
    go : (t : Bool) → unsound l.reader m ≡ t → heard_out l end m d ≡ handed_on (run l.reader [] end m) l.receiver d
    go true u = simp u
    go false u = simp u

hears_run : (l : Listener) (bytes : List ℕ) (end : ℕ) (m d : List ℕ) → hears l bytes end m d ≡ handed_on (run l.reader bytes end m) l.receiver d
unfolding hears run handed cargo_handed
hears_run l [] end m d = heard_out_lem l end m d
hears_run l (b ∷ rest) end m d =
    hears_byte l b rest end m d (hears_run (after_byte l b rest end m d) rest end (buffer_after l.reader b m) d) (quiet (step_of l.reader b m).event) refl

pub listen_hears : (l : Listener) (input : List ℕ) (from : ℕ) (m d : List ℕ)
    → hears l (drop from input) (end_from input from) m d
    ≡ record { answer = listen l input from m (length d); message = (read_from l.reader input from m).buffer; cargo = cargo_listened l input from m d }
listen_hears l input from m d = hears_run l (drop from input) (end_from input from) m d
