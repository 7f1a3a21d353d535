-- A new object stands where nothing stood.
use Rattle.std.proofs.Common.{◌≡◌, ℕ, ◌+◌, ◌<◌, ◌⊎◌, inl, inr, ℤ, Bool, true, false, List, [], ◌∷◌, ◌++◌, Option, Some, None, refl, sym, ap, ◌∙◌, subst, arith, length, length-append}
use Rattle.std.specs.Prelude.{◌==◌, if◌then◌else◌}
use Rattle.std.proofs.lemmas.Bool.Decides.{nat_tests}
use Rattle.std.proofs.lemmas.Option.{unwrap_or-slice_get}
use Rattle.std.proofs.Math.ListN.{get_or-append}
use Rattle.std.proofs.Math.Seq.{get_or-append_seam}
use Rattle.cxx_ast.specs.Plain.{Checked}
use Rattle.meaning_forms.specs.Class.{ObjectType, int_type}
use Rattle.meaning_forms.specs.Part.{Part, cell, part_at}
use Rattle.meaning_forms.specs.World.{World as SourceWorld, object_at}
use Rattle.meaning_forms.specs.Context.{Context as SourceContext}
use Rattle.region_forms.specs.Layout.{Layout}
use Rattle.region_forms.specs.World.{Base, of_global, of_exception, Address, World}
use Rattle.region_forms.specs.Outcome.{State}
use Rattle.region_simulation.specs.Typed.{Shaped}
use Rattle.region_simulation.specs.Places.{Places, Stood, address_along, Remembers}
use Rattle.region_simulation.specs.Stands.{IsMade, Stands}
use Rattle.region_simulation.specs.Alike.{Follows}
use Rattle.region_simulation.proofs.Paths.{some_same}
use Rattle.region_simulation.proofs.Following.{keeps_all}

-- an object stands somewhere
abbrev pub with_place : Places → ℕ → Stood → Places
with_place at o x q = if q == o then Some x else at q

-- a world with one more object
abbrev pub with_object : Part → SourceWorld → SourceWorld
with_object a w = record w { objects = w.objects ++ a ∷ [] }

is_number : (m n : ℕ) → (m == n) ≡ true → m ≡ n
is_number m n e = grind (arith, nat_tests, e)

itself : (n : ℕ) → (n == n) ≡ true
itself n = grind (arith, nat_tests)

is_not : (m n : ℕ) → (m == n) ≡ false → m ≡ n → ⊥
is_not m n e is = go (m == n) e (subst (λ q. (m == q) ≡ true) is (itself m))
  where
    go : (z : Bool) → z ≡ false → z ≡ true → ⊥
    go true e f = cc e
    go false e f = cc f

other : (m n : ℕ) → (m ≡ n → ⊥) → (m == n) ≡ false
other m n ne = go (m == n) refl
  where
    go : (z : Bool) → (m == n) ≡ z → (m == n) ≡ false
    go true e = absurd (ne (is_number m n e))
    go false e = e

pub placed_new : (at : Places) (o : ℕ) (x : Stood) → with_place at o x o ≡ Some x
placed_new at o x = ap (λ z. if z then Some x else at o) (itself o)

pub placed_old : (at : Places) (o q : ℕ) (x : Stood) → (q ≡ o → ⊥) → with_place at o x q ≡ at q
placed_old at o q x ne = ap (λ z. if z then Some x else at q) (other q o ne)

pub placed : (at : Places) (o q : ℕ) (x y : Stood) → with_place at o x q ≡ Some y → ((q ≡ o) × (x ≡ y)) ⊎ ((q ≡ o → ⊥) × (at q ≡ Some y))
placed at o q x y = go (q == o) refl
  where
    go : (z : Bool) → (q == o) ≡ z → (if z then Some x else at q) ≡ Some y → ((q ≡ o) × (x ≡ y)) ⊎ ((q ≡ o → ⊥) × (at q ≡ Some y))
    go true e is = inl (is_number q o e, some_same is)
    go false e is = inr (is_not q o e, is)

pub new_object_at : (a : Part) (w : SourceWorld) → object_at (with_object a w) (length w.objects) ≡ a
new_object_at a w = unwrap_or-slice_get (w.objects ++ a ∷ []) (length w.objects) (cell None) ∙ get_or-append_seam w.objects a [] (cell None)

pub old_object_at : (a : Part) (w : SourceWorld) (o : ℕ) → o < length w.objects → object_at (with_object a w) o ≡ object_at w o
old_object_at a w o lt =
    unwrap_or-slice_get (w.objects ++ a ∷ []) o (cell None) ∙ get_or-append w.objects (a ∷ []) (cell None) o lt ∙ sym (unwrap_or-slice_get w.objects o (cell None))

pub one_more : (a : Part) (w : SourceWorld) → length (w.objects ++ a ∷ []) ≡ length w.objects + 1
one_more a w = length-append w.objects (a ∷ [])

module _ (l : Layout) (p : Checked) (at : Places) (c : SourceContext) (w : SourceWorld) (s : State) (stands : Stands l p at c w s)
    (base : Base) (t : ObjectType) (a : Part) (memory : Address → Option ℤ) (empty : (o : ℕ) (x : Stood) → at o ≡ Some x → x.base ≡ base → ⊥)
    (made : IsMade s.world.calls w.last_number w.live base) (shaped : Shaped p t a) (same : (q : Address) → (q.base ≡ base → ⊥) → memory q ≡ s.world.memory q)
    (holds : (path : List ℕ) (v : ℤ) → part_at a path ≡ cell (Some v) → memory (address_along l p (record { base = base; type = t }) path) ≡ Some v) where
  abbrev pub newly : Stood
  newly = record { base = base; type = t }

  abbrev pub places_new : Places
  places_new = with_place at (length w.objects) newly

  old : (o : ℕ) (x : Stood) → at o ≡ Some x → places_new o ≡ Some x
  old o x is = let lt = stands.memory.made o x is in placed_old at (length w.objects) o newly (λ e. omega (arith, lt, e)) ∙ is

  remembers : Remembers l p places_new (with_object a w) memory
  remembers = record {
    made = λ o x is. made_go o x (placed at (length w.objects) o newly x is);
    apart = λ o q x y is too same. apart_go o q x y (placed at (length w.objects) o newly x is) (placed at (length w.objects) q newly y too) same;
    shaped = λ o x is. shaped_go o x (placed at (length w.objects) o newly x is);
    holds = λ o x path v is there. holds_go o x path v (placed at (length w.objects) o newly x is) there;
  }
    where
      made_go : (o : ℕ) (x : Stood) → ((o ≡ length w.objects) × (newly ≡ x)) ⊎ ((o ≡ length w.objects → ⊥) × (at o ≡ Some x)) → o < length (w.objects ++ a ∷ [])
      made_go o x (inl (e, f)) = let more = one_more a w in omega (arith, more, e)
      made_go o x (inr (ne, is)) = let more = one_more a w in let lt = stands.memory.made o x is in omega (arith, more, lt)

      apart_go : (o q : ℕ) (x y : Stood) → ((o ≡ length w.objects) × (newly ≡ x)) ⊎ ((o ≡ length w.objects → ⊥) × (at o ≡ Some x))
          → ((q ≡ length w.objects) × (newly ≡ y)) ⊎ ((q ≡ length w.objects → ⊥) × (at q ≡ Some y)) → x.base ≡ y.base → o ≡ q
      apart_go o q x y (inl (e, f)) (inl (d, g)) same = e ∙ sym d
      apart_go o q x y (inl (e, f)) (inr (ne, is)) same = absurd (empty q y is (sym same ∙ ap (λ z. z.base) (sym f)))
      apart_go o q x y (inr (ne, is)) (inl (d, g)) same = absurd (empty o x is (same ∙ ap (λ z. z.base) (sym g)))
      apart_go o q x y (inr (ne, is)) (inr (too, it)) same = stands.memory.apart o q x y is it same

      shaped_go : (o : ℕ) (x : Stood) → ((o ≡ length w.objects) × (newly ≡ x)) ⊎ ((o ≡ length w.objects → ⊥) × (at o ≡ Some x)) → Shaped p x.type (object_at (with_object a w) o)
      shaped_go o x (inl (e, f)) =
          subst (λ z. Shaped p z.type (object_at (with_object a w) o)) f (subst (λ z. Shaped p t (object_at (with_object a w) z)) (sym e) (subst (Shaped p t) (sym (new_object_at a w)) shaped))
      shaped_go o x (inr (ne, is)) = subst (Shaped p x.type) (sym (old_object_at a w o (stands.memory.made o x is))) (stands.memory.shaped o x is)

      holds_go : (o : ℕ) (x : Stood) (path : List ℕ) (v : ℤ) → ((o ≡ length w.objects) × (newly ≡ x)) ⊎ ((o ≡ length w.objects → ⊥) × (at o ≡ Some x))
          → part_at (object_at (with_object a w) o) path ≡ cell (Some v) → memory (address_along l p x path) ≡ Some v
      holds_go o x path v (inl (e, f)) there =
          subst (λ z. memory (address_along l p z path) ≡ Some v) f
          (holds path v (ap (λ z. part_at z path) (sym (new_object_at a w)) ∙ ap (λ z. part_at (object_at (with_object a w) z) path) (sym e) ∙ there))
      holds_go o x path v (inr (ne, is)) there =
          same (address_along l p x path) (λ e. empty o x is e) ∙
          stands.memory.holds o x path v is (ap (λ z. part_at z path) (sym (old_object_at a w o (stands.memory.made o x is))) ∙ there)

  pub stands_new : Stands l p places_new c (with_object a w) (record s { world = record (s.world) { memory = memory } })
  stands_new = record {
    world = ap {A = World} (λ y. record y { memory = memory }) stands.world;
    turns = stands.turns;
    memory = remembers;
    globals = λ g lt. old g (record { base = of_global g; type = int_type }) (stands.globals g lt);
    exceptions = λ i e o t kept is. old o (record { base = of_exception e; type = t }) (stands.exceptions i e o t kept is);
    made = λ o x is. made_go o x (placed at (length w.objects) o newly x is);
    sound = stands.sound;
    handlers = stands.handlers;
    kept = stands.kept;
  }
    where
      made_go : (o : ℕ) (x : Stood) → ((o ≡ length w.objects) × (newly ≡ x)) ⊎ ((o ≡ length w.objects → ⊥) × (at o ≡ Some x)) → IsMade s.world.calls w.last_number w.live x.base
      made_go o x (inl (e, f)) = subst (λ z. IsMade s.world.calls w.last_number w.live z.base) f made
      made_go o x (inr (ne, is)) = stands.made o x is

  abbrev pub follows_new : (k : ℕ) → Follows l p at k w s c (with_object a w) (record s { world = record (s.world) { memory = memory } })
  follows_new k = record {
    places = places_new;
    stay = λ o lt. placed_old at (length w.objects) o newly (λ e. omega (arith, lt, e));
    objects = (let more = one_more a w in omega (arith, more));
    calls = omega arith;
    open_calls = refl;
    keeps = keeps_all k s.frame;
    stands = stands_new;
  }
