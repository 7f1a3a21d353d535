-- An exception is no longer live, and nothing stands at it.
use Rattle.std.proofs.Common.{◌≡◌, ℕ, zero, suc, ◌<◌, ◌⊎◌, inl, inr, Bool, true, false, List, [], ◌∷◌, ◌++◌, Some, refl, sym, ap, ◌∙◌, subst, arith, length}
use Rattle.std.specs.Prelude.{◌==◌, not, cond, map, filter, slice_get}
use Rattle.std.proofs.lemmas.Bool.Decides.{nat_tests}
use Rattle.cxx_ast.specs.Plain.{Checked}
use Rattle.run_items.specs.declared.item.Item.{Item}
use Rattle.meaning_forms.specs.Class.{contains}
use Rattle.meaning_forms.specs.World.{World as SourceWorld, Live as SourceLive, native as source_native, building as source_building, exception_at as source_exception_at, without_exception as source_without}
use Rattle.meaning_forms.specs.Context.{Context as SourceContext}
use Rattle.region_forms.specs.Layout.{Layout}
use Rattle.region_forms.specs.World.{Base, of_global, of_variable, of_exception, Live, World, with_item, without_exception}
use Rattle.region_forms.specs.Outcome.{State}
use Rattle.region_simulation.specs.Lives.{is_built}
use Rattle.region_simulation.specs.Places.{Places, Stood}
use Rattle.region_simulation.specs.Stands.{live_of, world_of, IsMade, Stands}
use Rattle.region_simulation.specs.Alike.{Follows}
use Rattle.region_simulation.proofs.Builtins.{remembers_same}
use Rattle.region_exceptions.proofs.Lives.{live_taken, thrown_taken}
use Rattle.region_exceptions.proofs.Sparing.{spared, without_exception_object, spared_is, spared_none, unless_other, remembers_sparing}
use Rattle.region_exceptions.proofs.Standing.{sound_later}

-- what is not of a number stays by its number
others_live : (p : Checked) (e : ℕ) (xs : List SourceLive) → filter (λ x. not (x.number == e)) (map (live_of p) xs) ≡ map (live_of p) (filter (λ x. not (x.number == e)) xs)
others_live p e [] = refl
others_live p e (x ∷ xs) = go (x.number == e) (others_live p e xs)
  where
    go : (b : Bool) → filter (λ x. not (x.number == e)) (map (live_of p) xs) ≡ map (live_of p) (filter (λ x. not (x.number == e)) xs)
        → cond (not b) (live_of p x ∷ filter (λ x. not (x.number == e)) (map (live_of p) xs)) (filter (λ x. not (x.number == e)) (map (live_of p) xs))
        ≡ map (live_of p) (cond (not b) (x ∷ filter (λ x. not (x.number == e)) xs) (filter (λ x. not (x.number == e)) xs))
    go true ih = ih
    go false ih = ap (λ ys. live_of p x ∷ ys) ih

-- an element that is left was one before, and passes the test
pub left_of_list : {A : Type 0} (test : A → Bool) (xs : List A) (i : ℕ) (y : A) → slice_get (filter test xs) i ≡ Some y → (j : ℕ) × (slice_get xs j ≡ Some y) × (test y ≡ true)
left_of_list test [] i y e = absurd (cc e)
left_of_list {A} test (x ∷ xs) i y e = go (test x) refl i e (λ j f. left_of_list test xs j y f)
  where
    next : ((j : ℕ) × (slice_get xs j ≡ Some y) × (test y ≡ true)) → (j : ℕ) × (slice_get (x ∷ xs) j ≡ Some y) × (test y ≡ true)
    next (j, f, passes) = (suc j, f, passes)

    go : (b : Bool) → test x ≡ b → (i : ℕ) → slice_get (cond b (x ∷ filter test xs) (filter test xs)) i ≡ Some y
        → ((j : ℕ) → slice_get (filter test xs) j ≡ Some y → (k : ℕ) × (slice_get xs k ≡ Some y) × (test y ≡ true))
        → (j : ℕ) × (slice_get (x ∷ xs) j ≡ Some y) × (test y ≡ true)
    go true is zero e ih = (0, e, subst (λ z. test z ≡ true) (some_is x y e) is)
      where
        some_is : (a b : A) → Some a ≡ Some b → a ≡ b
        some_is a b e = cc e
    go true is (suc i) e ih = next (ih i e)
    go false is i e ih = next (ih i e)

pub left_before : {A : Type 0} (test : A → Bool) (xs : List A) (i : ℕ) (y : A) → slice_get (filter test xs) i ≡ Some y → (j : ℕ) × (slice_get xs j ≡ Some y)
left_before test xs i y e = let (j, there, passes) = left_of_list test xs i y e in (j, there)

not_false : (b : Bool) → not b ≡ true → b ≡ false
not_false true h = absurd (cc h)
not_false false h = refl

other_than : (e f : ℕ) → (f == e) ≡ false → (e == f) ≡ false
other_than e f h = grind (arith, nat_tests, h)

not_same : (e f : ℕ) → (f == e) ≡ false → of_exception f ≡ of_exception e → ⊥
not_same e f h same = go (f == e) h (let is = number f e same in itself f e is)
  where
    itself : (m n : ℕ) → m ≡ n → (m == n) ≡ true
    itself m n is = grind (arith, nat_tests, is)

    go : (z : Bool) → z ≡ false → z ≡ true → ⊥
    go true a b = cc a
    go false a b = cc b

    number : (m n : ℕ) → of_exception m ≡ of_exception n → m ≡ n
    number m n same = cc same

-- what is in a list is no number that is not
apart_in : (es : List ℕ) (e f : ℕ) → contains es e ≡ false → contains es f ≡ true → (e == f) ≡ false
apart_in es e f none there = go (e == f) refl
  where
    never : true ≡ false → ⊥
    never e = cc e

    go : (b : Bool) → (e == f) ≡ b → b ≡ false
    go true is = absurd (never (sym there ∙ ap (contains es) (let same : f ≡ e = grind (arith, nat_tests, is) in same) ∙ none))
    go false is = refl

module _ (l : Layout) (p : Checked) (at : Places) (e : ℕ) (i : Item) where
  -- an exception is no longer live
  abbrev pub without : SourceWorld → SourceWorld
  without w = source_without (record w { items = w.items ++ i ∷ [] }) e

  -- neither is its object
  pub without_on : (c : SourceContext) (w : SourceWorld) (s : State) → contains c.travelling e ≡ false → contains c.handled e ≡ false → Stands l p at c w s
      → Stands l p (without_exception_object e at) c (without w) (record s { world = without_exception e (with_item i s.world) })
  without_on c w s rests unhandled stands =
      subst (λ y. Stands l p (without_exception_object e at) c (without w) (record s { world = y })) (sym is) (record {
        world = refl;
        turns = stands.turns;
        memory = remembers_same l p (without_exception_object e at) w (without w) s.world.memory refl (remembers_sparing l p e at w s.world.memory stands.memory);
        globals = λ g lt. ap (spared e) (stands.globals g lt);
        exceptions = λ j f o t kept there. (let (k, before, passes) = left_of_list (λ x. not (x.number == e)) w.live j (record { number = f; exception = source_native t o kept }) there in
            ap (spared e) (stands.exceptions k f o t kept before) ∙
            unless_other e (record { base = of_exception f; type = t }) (of_exception f) (not_same e f (not_false (f == e) passes)));
        made = λ o x is. (let (there, other) = spared_is e (at o) x is in still_made x.base other (stands.made o x there));
        sound = sound_later c w.last_number w.last_number w.live (without w).live (omega arith)
            (λ j x there. (let (k, before) = left_before (λ x. not (x.number == e)) w.live j x there in stands.sound.live k x before))
            (λ f reached can. thrown_taken w.live e f (apart f reached) can) stands.sound;
        handlers = stands.handlers;
        kept = λ j f o t kept there. (let (k, before) = left_before (λ x. not (x.number == e)) w.live j (record { number = f; exception = source_native t o kept }) there in
            stands.kept k f o t kept before);
      })
    where
      is : without_exception e (with_item i s.world) ≡ world_of p c (without w) s.world.memory s.world.calls
      is =
          let world = world_of p c (without w) s.world.memory s.world.calls in
          ap (λ y. without_exception e (with_item i y)) stands.world ∙ ap {A = List Live} {B = World} (λ xs. record world { live = xs }) (others_live p e w.live)

      apart : (f : ℕ) → (contains c.handled f ≡ true) ⊎ (contains c.travelling f ≡ true) → (e == f) ≡ false
      apart f (inl there) = apart_in c.handled e f unhandled there
      apart f (inr there) = apart_in c.travelling e f rests there

      still_made : (b : Base) → (b ≡ of_exception e → ⊥) → IsMade s.world.calls w.last_number w.live b → IsMade s.world.calls w.last_number (without w).live b
      still_made (of_global g) other h = tt
      still_made (of_variable k t) other h = h
      still_made (of_exception f) other h = (h.0, live_taken w.live e f (go (e == f) refl) ∙ h.1)
        where
          go : (b : Bool) → (e == f) ≡ b → (e == f) ≡ false
          go true same = absurd (other (ap (λ n. of_exception n) (let is : f ≡ e = grind (arith, nat_tests, same) in is)))
          go false same = same

  -- so it follows upon what had no object there
  pub follows_without : (at0 : Places) (k : ℕ) (w0 : SourceWorld) (s0 : State) (c : SourceContext) (w : SourceWorld) (s : State)
      → contains c.travelling e ≡ false → contains c.handled e ≡ false
      → ((o : ℕ) (x : Stood) → o < length w0.objects → at0 o ≡ Some x → x.base ≡ of_exception e → ⊥)
      → (h : Follows l p at0 k w0 s0 c w s) → h.places ≡ at → Follows l p at0 k w0 s0 c (without w) (record s { world = without_exception e (with_item i s.world) })
  follows_without at0 k w0 s0 c w s rests unhandled new h same = record {
    places = without_exception_object e at;
    stay = λ o lt. (ap (spared e) (ap (λ q. q o) (sym same) ∙ h.stay o lt) ∙ spared_none e (at0 o) (λ x is. new o x lt is));
    objects = h.objects;
    calls = h.calls;
    open_calls = h.open_calls;
    keeps = h.keeps;
    stands = without_on c w s rests unhandled (subst (λ q. Stands l p q c w s) same h.stands);
  }

-- what is being built is neither handled nor travels
pub unbuilt_rests : (l : Layout) (p : Checked) (at : Places) (c : SourceContext) (w : SourceWorld) (s : State) (e : ℕ) → Stands l p at c w s → source_exception_at w e ≡ source_building
    → (contains c.travelling e ≡ false) × (contains c.handled e ≡ false)
unbuilt_rests l p at c w s e stands is = (none c.travelling (λ there. stands.sound.thrown e there), none c.handled (λ there. stands.sound.entered e there))
  where
    never : true ≡ false → ⊥
    never e = cc e

    none : (es : List ℕ) → (contains es e ≡ true → is_built (source_exception_at w e) ≡ true) → contains es e ≡ false
    none es can = go (contains es e) refl
      where
        go : (b : Bool) → contains es e ≡ b → b ≡ false
        go true there = absurd (never (sym (can there) ∙ ap is_built is))
        go false there = refl
