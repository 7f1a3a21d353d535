-- More of the caught list as a function of what is handled and what travels.
use Rattle.std.proofs.Common.{◌≡◌, ℕ, suc, Bool, true, false, List, [], ◌∷◌, refl, sym, ap, ◌∙◌, arith}
use Rattle.std.specs.Prelude.{◌==◌, ◌||◌, not, if◌then◌else◌}
use Rattle.std.proofs.lemmas.Bool.Decides.{nat_tests}
use Rattle.meaning_forms.specs.Class.{contains, some_of}
use Rattle.region_forms.specs.Caught.{Entry, counted, handled_on, flown, holds_other, caught_of, only_front}
use Rattle.region_forms.specs.Effect.{newest_of}
use Rattle.region_forms.specs.Laws.{CaughtListFollows}

-- an exception that is not the newest does not change when another travels
flown_other : (e x : ℕ) (b : Bool) (ys : List Entry) → (x == e) ≡ false → flown e (handled_on x b ys) ≡ handled_on x b ys
flown_other e x b [] h = ap (λ c. (if c then record { number = x; more = 0; again = true } else record { number = x; more = 0; again = b }) ∷ []) h
flown_other e x b (y ∷ ys) h = go (y.number == x)
  where
    go : (c : Bool) → flown e (counted c x b y ys) ≡ counted c x b y ys
    go true = ap (λ c. (if c then record { number = x; more = suc y.more; again = true } else record { number = x; more = suc y.more; again = b }) ∷ ys) h
    go false = ap (λ c. (if c then record { number = x; more = 0; again = true } else record { number = x; more = 0; again = b }) ∷ y ∷ ys) h

not_held : (b : Bool) → not b ≡ true → b ≡ false
not_held true h = absurd (cc h)
not_held false h = refl

-- an exception that begins to travel, whether its handlers are the newest or it has none
pub flown_front : CaughtListFollows → (e : ℕ) (travelling handled : List ℕ) → only_front e handled ≡ true → flown e (caught_of travelling handled) ≡ caught_of (e ∷ travelling) handled
flown_front laws e ts [] front = refl
flown_front laws e ts (x ∷ hs) front = go (x == e) refl front
  where
    go : (b : Bool) → (x == e) ≡ b → (if b then only_front e hs else not (contains hs e)) ≡ true → flown e (caught_of ts (x ∷ hs)) ≡ caught_of (e ∷ ts) (x ∷ hs)
    go true same f =
        let is : x ≡ e = grind (arith, nat_tests, same) in
        ap (λ y. flown e (caught_of ts (y ∷ hs))) is ∙ laws.rethrown e ts hs f ∙ ap (λ y. caught_of (e ∷ ts) (y ∷ hs)) (sym is)
    go false other f =
        flown_other e x (contains ts x) (caught_of ts hs) other ∙
        sym (laws.thrown e ts (x ∷ hs) (ap (λ b. b || contains hs e) other ∙ not_held (contains hs e) f))

-- the newest entry is of the newest handled exception
pub newest_is : (e : ℕ) (travelling handled : List ℕ) → newest_of (caught_of travelling (e ∷ handled)) ≡ e
newest_is e ts hs = go (caught_of ts hs)
  where
    two : (b : Bool) (y : Entry) (ys : List Entry) → newest_of (counted b e (contains ts e) y ys) ≡ e
    two true y ys = refl
    two false y ys = refl

    go : (ys : List Entry) → newest_of (handled_on e (contains ts e) ys) ≡ e
    go [] = refl
    go (y ∷ ys) = two (y.number == e) y ys

-- the list holds another exception exactly where another is handled
holds_on : (e x : ℕ) (b : Bool) (ys : List Entry) → holds_other e (handled_on x b ys) ≡ (not (x == e) || holds_other e ys)
holds_on e x b [] = refl
holds_on e x b (y ∷ ys) = go (y.number == x) refl
  where
    twice : (c d : Bool) → (c || d) ≡ (c || (c || d))
    twice true d = refl
    twice false d = refl

    go : (c : Bool) → (y.number == x) ≡ c → holds_other e (counted c x b y ys) ≡ (not (x == e) || (not (y.number == e) || holds_other e ys))
    go true same =
        let is : x ≡ y.number = grind (arith, nat_tests, same) in
        twice (not (x == e)) (holds_other e ys) ∙ ap (λ z. not (x == e) || (not (z == e) || holds_other e ys)) is
    go false same = refl

pub holds_is : (e : ℕ) (travelling handled : List ℕ) → holds_other e (caught_of travelling handled) ≡ some_of (λ f. not (f == e)) handled
holds_is e ts [] = refl
holds_is e ts (x ∷ hs) = holds_on e x (contains ts x) (caught_of ts hs) ∙ ap (λ z. not (x == e) || z) (holds_is e ts hs)

-- an exception that is not handled stands in front
pub front_unhandled : (e : ℕ) (handled : List ℕ) → contains handled e ≡ false → only_front e handled ≡ true
front_unhandled e [] h = refl
front_unhandled e (x ∷ hs) h = go (x == e) refl h
  where
    go : (b : Bool) → (x == e) ≡ b → (b || contains hs e) ≡ false → (if x == e then only_front e hs else not (contains hs e)) ≡ true
    go true same h = absurd (cc h)
    go false other h = ap (λ b. if b then only_front e hs else not (contains hs e)) other ∙ ap (λ b. not b) h

-- the newest handled exception stands in front where the entries of each stand side by side
pub front_newest : (e : ℕ) (handled : List ℕ) → only_front e handled ≡ true → only_front e (e ∷ handled) ≡ true
front_newest e hs h = let same : (e == e) ≡ true = grind (arith, nat_tests) in ap (λ b. if b then only_front e hs else not (contains hs e)) same ∙ h

-- what holds of an exception that comes out of a handler of f
pub front_out : (e f : ℕ) (hs : List ℕ) → only_front e (f ∷ hs) ≡ true → only_front e hs ≡ true
front_out e f hs h = go (f == e) h
  where
    go : (b : Bool) → (if b then only_front e hs else not (contains hs e)) ≡ true → only_front e hs ≡ true
    go true h = h
    go false h = front_unhandled e hs (not_held (contains hs e) h)
