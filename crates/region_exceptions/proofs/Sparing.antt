-- Nothing stands at an exception, where its object is forgotten.
use Rattle.std.proofs.Common.{◌≡◌, ℕ, ℤ, Bool, true, false, Option, Some, None, refl, ap, ◌∙◌, subst, arith}
use Rattle.std.specs.Prelude.{◌==◌, slice_get, if◌then◌else◌}
use Rattle.std.proofs.lemmas.Bool.Decides.{nat_tests}
use Rattle.cxx_ast.specs.Plain.{Checked}
use Rattle.meaning_forms.specs.Class.{ObjectType}
use Rattle.meaning_forms.specs.World.{World as SourceWorld, Installed, native}
use Rattle.meaning_forms.specs.Context.{Context as SourceContext}
use Rattle.region_forms.specs.Layout.{Layout}
use Rattle.region_forms.specs.World.{Base, of_global, of_variable, of_exception, Address}
use Rattle.region_forms.specs.Outcome.{State}
use Rattle.region_simulation.specs.Places.{Places, Stood, Remembers}
use Rattle.region_simulation.specs.Stands.{Stands}
use Rattle.region_simulation.specs.Alike.{Follows}
use Rattle.region_simulation.proofs.Paths.{some_same}
use Rattle.region_exceptions.specs.Unbuilt.{IsUnbuilt}

-- what stands at exception e stands nowhere
abbrev pub unless_at : ℕ → Stood → Base → Option Stood
unless_at e x (of_exception f) = if f == e then None else Some x
unless_at e x b = Some x

abbrev pub spared : ℕ → Option Stood → Option Stood
spared e None = None
spared e (Some x) = unless_at e x x.base

abbrev pub without_exception_object : ℕ → Places → Places
without_exception_object e at o = spared e (at o)

unless_is : (e : ℕ) (x y : Stood) (b : Base) → unless_at e x b ≡ Some y → (x ≡ y) × (b ≡ of_exception e → ⊥)
unless_is e x y (of_global g) h = (some_same h, λ f. cc f)
unless_is e x y (of_variable c s) h = (some_same h, λ f. cc f)
unless_is e x y (of_exception f) h = go (f == e) refl h
  where
    go : (z : Bool) → (f == e) ≡ z → (if z then None else Some x) ≡ Some y → (x ≡ y) × (of_exception f ≡ of_exception e → ⊥)
    go true is h = absurd (cc h)
    go false is h = (some_same h, λ same. different (number same))
      where
        number : of_exception f ≡ of_exception e → f ≡ e
        number same = cc same

        different : f ≡ e → ⊥
        different same = go2 (f == e) is (let i : (f == e) ≡ true = grind (arith, nat_tests, same) in i)
          where
            go2 : (z : Bool) → z ≡ false → z ≡ true → ⊥
            go2 true a b = cc a
            go2 false a b = cc b

pub spared_is : (e : ℕ) (z : Option Stood) (y : Stood) → spared e z ≡ Some y → (z ≡ Some y) × (y.base ≡ of_exception e → ⊥)
spared_is e None y h = absurd (cc h)
spared_is e (Some x) y h = let (same, other) = unless_is e x y x.base h in (ap (λ q. Some q) same, subst (λ q. q.base ≡ of_exception e → ⊥) same other)

pub unless_other : (e : ℕ) (x : Stood) (b : Base) → (b ≡ of_exception e → ⊥) → unless_at e x b ≡ Some x
unless_other e x (of_global g) h = refl
unless_other e x (of_variable c s) h = refl
unless_other e x (of_exception f) h = go (f == e) refl
  where
    go : (z : Bool) → (f == e) ≡ z → (if z then None else Some x) ≡ Some x
    go true is = absurd (h (ap (λ n. of_exception n) (grind (arith, nat_tests, is))))
    go false is = refl

-- what is nowhere at e is as it was
pub spared_none : (e : ℕ) (z : Option Stood) → ((x : Stood) → z ≡ Some x → x.base ≡ of_exception e → ⊥) → spared e z ≡ z
spared_none e None h = refl
spared_none e (Some x) h = unless_other e x x.base (h x refl)

module _ (l : Layout) (p : Checked) where
  pub remembers_sparing : (e : ℕ) (at : Places) (w : SourceWorld) (memory : Address → Option ℤ) → Remembers l p at w memory
      → Remembers l p (without_exception_object e at) w memory
  remembers_sparing e at w memory m = record {
    made = λ o x is. m.made o x (spared_is e (at o) x is).0;
    apart = λ o q x y is it same. m.apart o q x y (spared_is e (at o) x is).0 (spared_is e (at q) y it).0 same;
    shaped = λ o x is. m.shaped o x (spared_is e (at o) x is).0;
    holds = λ o x path v is there. m.holds o x path v (spared_is e (at o) x is).0 there;
  }

  pub stands_sparing : (e : ℕ) (at : Places) (c : SourceContext) (w : SourceWorld) (s : State) → IsUnbuilt e w → Stands l p at c w s → Stands l p (without_exception_object e at) c w s
  stands_sparing e at c w s unbuilt h = record {
    world = h.world;
    turns = h.turns;
    memory = remembers_sparing e at w s.world.memory h.memory;
    globals = λ g lt. ap (spared e) (h.globals g lt);
    exceptions = λ i f o t kept is. (ap (spared e) (h.exceptions i f o t kept is) ∙
        unless_other e (record { base = of_exception f; type = t }) (of_exception f) (λ same. native_elsewhere i f o t kept is (number f same)));
    made = λ o x is. h.made o x (spared_is e (at o) x is).0;
    sound = h.sound;
    handlers = h.handlers;
    kept = h.kept;
  }
    where
      number : (f : ℕ) → of_exception f ≡ of_exception e → f ≡ e
      number f same = cc same

      native_elsewhere : (i f o : ℕ) (t : ObjectType) (kept : Installed) → slice_get w.live i ≡ Some (record { number = f; exception = native t o kept }) → f ≡ e → ⊥
      native_elsewhere i f o t kept is same = unbuilt.2 i o t kept (is ∙ ap (λ n. Some (record { number = n; exception = native t o kept })) same)

  -- what follows, with nothing at the exception that is being built
  abbrev pub follows_sparing : (e : ℕ) (at : Places) (k : ℕ) (w : SourceWorld) (s : State) (c : SourceContext) (w2 : SourceWorld) (s2 : State)
      → ((o : ℕ) (x : Stood) → at o ≡ Some x → x.base ≡ of_exception e → ⊥) → IsUnbuilt e w2 → Follows l p at k w s c w2 s2 → Follows l p at k w s c w2 s2
  follows_sparing e at k w s c w2 s2 empty unbuilt h = record {
    places = without_exception_object e h.places;
    stay = λ o lt. (ap (spared e) (h.stay o lt) ∙ spared_none e (at o) (λ x is. empty o x is));
    objects = h.objects;
    calls = h.calls;
    open_calls = h.open_calls;
    keeps = h.keeps;
    stands = stands_sparing e h.places c w2 s2 unbuilt h.stands;
  }
