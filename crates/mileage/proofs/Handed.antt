-- The odometer of a run hears the cargoes that a caller is handed, in their order.
use Prim.Native.Nat.{ℕ, zero, suc}
use mathlib.Core.Bool.{Bool, true, false, cond}
use mathlib.Core.List.{List, [], ◌∷◌, ◌++◌}
use mathlib.Core.Path.{◌≡◌, refl, sym, ◌∙◌, ap}
use lib.Dec.{ltb}
use lib.ListN.{length}
use Rattle.verdict.specs.declared.answers.Kind.{Kind}
use Rattle.verdict.specs.declared.answers.Kind.TheVariants.{Delivered, Part, Null, Refused as Refused-kind}
use Rattle.laws.proofs.Tests.{by_cases}
use Rattle.link.specs.Run as link
use Rattle.link.specs.Run.{Setup, Cargo, Shipment, World, Hear, handed, arrive, outcome}
use Rattle.listener.specs.declared.News.{News}
use Rattle.listener.specs.declared.News.TheVariants.{Nothing, Transfer, Query, Notice, Refused}
use Rattle.listener.specs.Listen.{listen, cargo_listened}
use Rattle.stream.specs.Stream.{Caller, handed_by, call, calls, at_front, calls_all, transfers}
use Rattle.stream.proofs.Arriving.{hear_all, outcome_heard}
use Rattle.odometer.specs.declared.Odometer.{Odometer}
use Rattle.odometer.specs.declared.Heard.{Heard}
use Rattle.odometer.specs.Odometer.{in_range, fresh_odometer, hear, hear_kind, pass_over}
use Rattle.mileage.specs.Product.{Device, fresh_device, takes, takes_all, Rider, hear_news, ride, rides, rides_all}

unfoldable pub hear_cargoes : Odometer → List Cargo → Odometer
hear_cargoes o [] = o
hear_cargoes o (x ∷ xs) = hear_cargoes (hear o x.channel x.bytes).odometer xs

pub hear_append : (o : Odometer) (xs ys : List Cargo) → hear_cargoes o (xs ++ ys) ≡ hear_cargoes (hear_cargoes o xs) ys
unfolding hear_cargoes
hear_append o [] ys = refl
hear_append o (x ∷ xs) ys = hear_append (hear o x.channel x.bytes).odometer xs ys

-- ---- one answer, one piece of news

pass_over_same : (o : Odometer) → (pass_over o).odometer ≡ o
unfolding pass_over
pass_over_same o = by_cases (λ (h : Heard). h.odometer ≡ o) (in_range o.circumference) _ _ (λ q. refl) (λ q. refl)

kind_handed : (o : Odometer) (k : Kind) (buffer : List ℕ) → (hear_kind o k buffer).odometer ≡ hear_cargoes o (handed k buffer)
unfolding hear_cargoes
kind_handed o (Delivered channel len) buffer = refl
kind_handed o Part buffer = pass_over_same o
kind_handed o Null buffer = pass_over_same o
kind_handed o Refused-kind buffer = pass_over_same o

news_handed : (o : Odometer) (news : News) (buffer : List ℕ) → hear_news o news buffer ≡ hear_cargoes o (handed_by news buffer)
unfolding hear_cargoes
news_handed o Nothing buffer = refl
news_handed o (Transfer channel held answer) buffer = kind_handed o answer.kind buffer
news_handed o Query buffer = refl
news_handed o (Notice room) buffer = refl
news_handed o (Refused number) buffer = refl

-- ---- transfer by transfer

module _ (hearing : Hear) (o : Odometer) where
  abbrev device_of : World → Device
  device_of w = record { receiver = w.receiver; buffer = w.buffer; odometer = hear_cargoes o w.got }

  one_taken : (w : World) (t : List ℕ) → takes hearing (device_of w) t ≡ device_of (arrive hearing t w)
  unfolding takes arrive
  one_taken w t =
      let h = hearing w.receiver w.buffer t in
      let k = h.received.answer.kind in
      ap (λ (p : Odometer). record { receiver = h.received.receiver; buffer = h.buffer; odometer = p })
      (kind_handed (hear_cargoes o w.got) k h.buffer ∙ sym (hear_append o w.got (handed k h.buffer)))

  all_taken : (ts : List (List ℕ)) (w : World) → takes_all hearing (device_of w) ts ≡ device_of (hear_all hearing ts w)
  unfolding takes_all hear_all
  all_taken [] w = refl
  all_taken (t ∷ ts) w = ap (λ (d : Device). takes_all hearing d ts) (one_taken w t) ∙ all_taken ts (arrive hearing t w)

pub device_handed : (hearing : Hear) (g : Setup) (channel circumference : ℕ) (buffer out : List ℕ) (xs : List Shipment)
    → (takes_all hearing (fresh_device g channel circumference buffer) (transfers g out xs)).odometer
    ≡ hear_cargoes (fresh_odometer channel circumference) (outcome hearing g buffer out xs).got
unfolding link.start hear_cargoes
device_handed hearing g channel circumference buffer out xs =
    let o = fresh_odometer channel circumference in
    ap (λ (d : Device). d.odometer) (all_taken hearing o (transfers g out xs) (link.start g buffer out))
    ∙ ap (λ (w : World). hear_cargoes o w.got) (sym (outcome_heard hearing g buffer out xs))

-- ---- call by call

abbrev rider_of : Odometer → Caller → Rider
rider_of o c = record { caller = c; odometer = hear_cargoes o c.got }

module _ (o : Odometer) (input : List ℕ) where
  one_ridden : (c : Caller) → ride input (rider_of o c) ≡ rider_of o (call input c)
  unfolding ride call
  one_ridden c =
      let news = (listen c.listener input c.at c.message (length c.buffer)).news in
      let buffer = cargo_listened c.listener input c.at c.message c.buffer in
      ap (λ (p : Odometer). record { caller = call input c; odometer = p })
      (news_handed (hear_cargoes o c.got) news buffer ∙ sym (hear_append o c.got (handed_by news buffer)))

  slice_ridden : (n : ℕ) (c : Caller) → rides n input (rider_of o c) ≡ rider_of o (calls n input c)
  unfolding rides calls
  slice_ridden zero c = refl
  slice_ridden (suc n) c = go (ltb c.at (length input)) (slice_ridden n (call input c))
    where
      go : (b : Bool) → rides n input (rider_of o (call input c)) ≡ rider_of o (calls n input (call input c))
          → cond b (rides n input (ride input (rider_of o c))) (rider_of o c) ≡ rider_of o (cond b (calls n input (call input c)) c)
      go true e = ap (rides n input) (one_ridden c) ∙ e
      go false e = refl

pub all_ridden : (o : Odometer) (slices : List (List ℕ)) (c : Caller) → rides_all slices (rider_of o c) ≡ rider_of o (calls_all slices c)
unfolding rides_all calls_all
all_ridden o [] c = refl
all_ridden o (s ∷ slices) c =
    ap (rides_all slices) (slice_ridden o s (length s) (at_front c)) ∙ all_ridden o slices (calls (length s) s (at_front c))
