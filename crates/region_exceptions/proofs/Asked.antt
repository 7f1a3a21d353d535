-- What regions ask of exceptions holds where the source is sound.
use Rattle.std.proofs.Common.{◌≡◌, ℕ, suc, Bool, true, false, List, [], ◌∷◌, refl, ap, ap₂, ◌∙◌, arith, length}
use Rattle.std.specs.Prelude.{◌==◌, ◌||◌, ◌&&◌, not, if◌then◌else◌}
use Rattle.std.proofs.lemmas.Bool.Decides.{nat_tests}
use Rattle.cxx_ast.specs.Plain.{Checked}
use Rattle.meaning_forms.specs.Class.{contains, some_of}
use Rattle.meaning_forms.specs.World.{World as SourceWorld, Exception as SourceException, building as source_building, native as source_native, foreign as source_foreign, exception_at as source_exception_at}
use Rattle.meaning_forms.specs.Context.{Context as SourceContext, handling, with_travelling}
use Rattle.meaning_forms.specs.Handler.{is_foreign as source_is_foreign}
use Rattle.region_forms.specs.Caught.{Entry, counted, handled_on, caught_of, only_front}
use Rattle.region_forms.specs.Layout.{Layout}
use Rattle.region_forms.specs.World.{World, exception_at}
use Rattle.region_forms.specs.Lives.{is_built, is_native, is_being_built, can_travel, is_on_top, may_enter, may_leave}
use Rattle.region_forms.specs.Outcome.{State}
use Rattle.region_simulation.specs.Lives.{is_built as source_is_built, CanBeThrown}
use Rattle.region_simulation.specs.Places.{Places}
use Rattle.region_simulation.specs.Stands.{exception_of, Stands}
use Rattle.region_simulation.proofs.There.{live_alike}
use Rattle.region_exceptions.specs.Unbuilt.{IsUnbuilt}
use Rattle.region_exceptions.proofs.Raises.{exception_same}

built_same : (p : Checked) (x : SourceException) → is_built (exception_of p x) ≡ source_is_built x
built_same p source_building = refl
built_same p (source_native t o kept) = refl
built_same p (source_foreign k t) = refl

native_by : (p : Checked) (x : SourceException) → source_is_built x ≡ true → source_is_foreign x ≡ false → is_native (exception_of p x) ≡ true
native_by p source_building built native = absurd (cc built)
native_by p (source_native t o kept) built native = refl
native_by p (source_foreign k t) built native = absurd (cc native)

-- the caught list begins with the newest handled exception
pub leaves_newest : (w : World) (e : ℕ) (b : Bool) (xs : List Entry) → may_leave w (handled_on e b xs) ≡ can_travel w e
leaves_newest w e b [] = refl
leaves_newest w e b (x ∷ xs) = go (x.number == e)
  where
    go : (z : Bool) → may_leave w (counted z e b x xs) ≡ can_travel w e
    go true = refl
    go false = refl

abbrev has : ℕ → List Entry → Bool
has e xs = some_of (λ y. y.number == e) xs

neither : (a b : Bool) → a ≡ false → b ≡ false → (a || b) ≡ false
neither a b h k = ap₂ (λ p q. p || q) h k

left_one : (a b : Bool) → (a || b) ≡ false → a ≡ false
left_one true b h = absurd (cc h)
left_one false b h = refl

right_one : (a b : Bool) → (a || b) ≡ false → b ≡ false
right_one true b h = absurd (cc h)
right_one false b h = h

-- an exception that is not handled has no entry
absent_on : (x e : ℕ) (b : Bool) (xs : List Entry) → (x == e) ≡ false → has e xs ≡ false → has e (handled_on x b xs) ≡ false
absent_on x e b [] other none = neither (x == e) false other refl
absent_on x e b (y ∷ ys) other none = go (y.number == x)
  where
    go : (z : Bool) → has e (counted z x b y ys) ≡ false
    go true = neither (x == e) (has e ys) other (right_one (y.number == e) (has e ys) none)
    go false = neither (x == e) (y.number == e || has e ys) other none

absent : (ts : List ℕ) (e : ℕ) (hs : List ℕ) → contains hs e ≡ false → has e (caught_of ts hs) ≡ false
absent ts e [] none = refl
absent ts e (x ∷ hs) none =
    absent_on x e (contains ts x) (caught_of ts hs) (left_one (x == e) (contains hs e) none) (absent ts e hs (right_one (x == e) (contains hs e) none))

top_of : (e : ℕ) (zs : List Entry) → has e zs ≡ false → is_on_top e zs ≡ true
top_of e [] none = refl
top_of e (z ∷ zs) none =
    ap₂ (λ a b. a || not b) (left_one (z.number == e) (has e zs) none) (right_one (z.number == e) (has e zs) none)

newest_top : (x e : ℕ) (b : Bool) (xs : List Entry) → (x == e) ≡ true → is_on_top e (handled_on x b xs) ≡ true
newest_top x e b [] same = ap (λ z. z || true) same
newest_top x e b (y ∷ ys) same = go (y.number == x)
  where
    go : (z : Bool) → is_on_top e (counted z x b y ys) ≡ true
    go true = ap (λ q. q || not (has e ys)) same
    go false = ap (λ q. q || not (has e (y ∷ ys))) same

-- one whose handlers are the newest has the newest entry, or none
on_top : (ts : List ℕ) (e : ℕ) (hs : List ℕ) → only_front e hs ≡ true → is_on_top e (caught_of ts hs) ≡ true
on_top ts e [] front = refl
on_top ts e (x ∷ hs) front = go (x == e) refl front
  where
    none : (b : Bool) → not b ≡ true → b ≡ false
    none true h = absurd (cc h)
    none false h = refl

    go : (z : Bool) → (x == e) ≡ z → (if z then only_front e hs else not (contains hs e)) ≡ true → is_on_top e (caught_of ts (x ∷ hs)) ≡ true
    go true same h = newest_top x e (contains ts x) (caught_of ts hs) same
    go false other h = top_of e (caught_of ts (x ∷ hs)) (absent ts e (x ∷ hs) (neither (x == e) (contains hs e) other (none (contains hs e) h)))

module _ (l : Layout) (p : Checked) (at : Places) (c : SourceContext) (w : SourceWorld) (s : State) (stands : Stands l p at c w s) (e : ℕ) where
  pub being_built : IsUnbuilt e w → is_being_built s.world e ≡ true
  being_built u =
      ap₂ (λ a b. a && not b) (live_alike l p at c w s stands e ∙ u.0)
      (ap is_built (exception_same l p at c w s stands e) ∙ built_same p (source_exception_at w e) ∙ ap source_is_built u.1)

  pub travels : CanBeThrown w.live e → can_travel s.world e ≡ true
  travels can = ap is_built (exception_same l p at c w s stands e) ∙ built_same p (source_exception_at w e) ∙ can

  pub stays_native : CanBeThrown w.live e → source_is_foreign (source_exception_at w e) ≡ false → is_native (exception_at s.world e) ≡ true
  stays_native can native = ap is_native (exception_same l p at c w s stands e) ∙ native_by p (source_exception_at w e) can native

-- what travels, and has no handlers beneath those of others, may be entered
pub enterable : (l : Layout) (p : Checked) (at : Places) (c : SourceContext) (w : SourceWorld) (s : State) (e : ℕ) → Stands l p at (with_travelling e c) w s
    → only_front e c.handled ≡ true → may_enter s.world e ≡ true
enterable l p at c w s e stands front =
    ap₂ (λ a b. a && b) (travels l p at (with_travelling e c) w s stands e (stands.sound.thrown e newest))
    (ap₂ (λ n xs. not (n == 0) && is_on_top e xs) (ap (λ y. y.uncaught) stands.world) (ap (λ y. y.caught) stands.world) ∙
    ap₂ (λ a b. not a && b) some (on_top (e ∷ c.travelling) e c.handled front))
  where
    newest : contains (e ∷ c.travelling) e ≡ true
    newest = let same : (e == e) ≡ true = grind (arith, nat_tests) in ap (λ b. b || contains c.travelling e) same

    some : (suc (length c.travelling) == 0) ≡ false
    some = grind (arith, nat_tests)

-- the newest handled exception may be left
pub leavable : (l : Layout) (p : Checked) (at : Places) (c : SourceContext) (w : SourceWorld) (s : State) (e : ℕ) → Stands l p at (handling e c) w s
    → may_leave s.world s.world.caught ≡ true
leavable l p at c w s e stands =
    ap (λ y. may_leave s.world y.caught) stands.world ∙ leaves_newest s.world e (contains c.travelling e) (caught_of c.travelling c.handled) ∙
    travels l p at (handling e c) w s stands e (stands.sound.entered e newest)
  where
    newest : contains (e ∷ c.handled) e ≡ true
    newest = let same : (e == e) ≡ true = grind (arith, nat_tests) in ap (λ b. b || contains c.handled e) same
