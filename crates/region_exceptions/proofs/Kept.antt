-- An exception whose object is built is kept as one of the object's type.
use Rattle.std.proofs.Common.{◌≡◌, ℕ, zero, suc, ◌≤◌, Bool, true, false, List, [], ◌∷◌, Option, Some, refl, sym, ap, ◌∙◌, subst, arith}
use Rattle.std.specs.Prelude.{◌==◌, map, slice_get, if◌then◌else◌}
use Rattle.std.proofs.lemmas.Bool.Decides.{nat_tests}
use Rattle.cxx_ast.specs.Plain.{Checked}
use Rattle.meaning_forms.specs.Class.{ObjectType, int_type, class_type}
use Rattle.meaning_forms.specs.Part.{Part, cell, object, part_type}
use Rattle.meaning_forms.specs.World.{World as SourceWorld, Live as SourceLive, Exception as SourceException, Installed, native as source_native, object_at, replaced as source_replaced, with_exception as source_with_exception}
use Rattle.meaning_forms.specs.Context.{Context as SourceContext}
use Rattle.region_forms.specs.Layout.{Layout}
use Rattle.region_forms.specs.Numbering.{type_number, destructor_of}
use Rattle.region_forms.specs.World.{of_exception, Live, World, replaced, native}
use Rattle.region_forms.specs.Effect.{kept}
use Rattle.region_forms.specs.Outcome.{State}
use Rattle.region_simulation.specs.Typed.{Shaped}
use Rattle.region_simulation.specs.Places.{Places}
use Rattle.region_simulation.specs.Stands.{exception_of, live_of, world_of, AreHandlers, IsOfProgram, IsKept, Stands}
use Rattle.region_simulation.proofs.Paths.{some_same}
use Rattle.region_exceptions.proofs.Standing.{sound_later, stands_with}
use Rattle.region_simulation.specs.Lives.{CanBeThrown}
use Rattle.region_exceptions.proofs.Lives.{live_put, thrown_put, thrown_kept}

-- the type of a part is that of its shape
pub shaped_type : (p : Checked) (t : ObjectType) (a : Part) → Shaped p t a → part_type a ≡ t
shaped_type p int_type (cell v) h = refl
shaped_type p int_type (object k parts) h = absurd h
shaped_type p (class_type k) (cell v) h = absurd h
shaped_type p (class_type k) (object j parts) h = ap (λ n. class_type n) h.0

-- an exception that takes the place of another
replaced_live : (p : Checked) (e : ℕ) (x : SourceException) (xs : List SourceLive)
    → map (replaced e (exception_of p x)) (map (live_of p) xs) ≡ map (live_of p) (map (source_replaced e x) xs)
replaced_live p e x [] = refl
replaced_live p e x (y ∷ ys) = go (y.number == e) (replaced_live p e x ys)
  where
    go : (b : Bool) → map (replaced e (exception_of p x)) (map (live_of p) ys) ≡ map (live_of p) (map (source_replaced e x) ys)
        → ◌≡◌ {A = List Live} ((if b then record { number = e; exception = exception_of p x } else live_of p y) ∷ map (replaced e (exception_of p x)) (map (live_of p) ys))
        (live_of p (if b then record { number = e; exception = x } else y) ∷ map (live_of p) (map (source_replaced e x) ys))
    go true ih = ap (λ zs. record { number = e; exception = exception_of p x } ∷ zs) ih
    go false ih = ap (λ zs. live_of p y ∷ zs) ih

-- one of the list is as it was, or the one that took a place
pub data Replaces (e : ℕ) (x : SourceException) (xs : List SourceLive) (i : ℕ) (z : SourceLive) : Type 0 where
  is_new : (y : SourceLive) → slice_get xs i ≡ Some y → y.number ≡ e → z ≡ record { number = e; exception = x } → Replaces e x xs i z
  is_old : slice_get xs i ≡ Some z → Replaces e x xs i z

pub replaces : (e : ℕ) (x : SourceException) (xs : List SourceLive) (i : ℕ) (z : SourceLive) → slice_get (map (source_replaced e x) xs) i ≡ Some z → Replaces e x xs i z
replaces e x [] i z is = absurd (cc is)
replaces e x (y ∷ ys) zero z is = go (y.number == e) refl is
  where
    go : (b : Bool) → (y.number == e) ≡ b → ◌≡◌ {A = Option SourceLive} (Some (if b then record { number = e; exception = x } else y)) (Some z) → Replaces e x (y ∷ ys) zero z
    go true same is = is_new y refl (grind (arith, nat_tests, same)) (sym (some_same is))
    go false same is = is_old is
replaces e x (y ∷ ys) (suc i) z is = go (replaces e x ys i z is)
  where
    go : Replaces e x ys i z → Replaces e x (y ∷ ys) (suc i) z
    go (is_new q there number same) = is_new q there number same
    go (is_old there) = is_old there

module _ (l : Layout) (p : Checked) (at : Places) (c : SourceContext) (w : SourceWorld) (s : State) (stands : Stands l p at c w s)
    (e o : ℕ) (t : ObjectType) (placed : at o ≡ Some (record { base = of_exception e; type = t })) where
  abbrev pub after_keeping : SourceWorld
  after_keeping = source_with_exception w e (source_native (part_type (object_at w o)) o w.installed)

  type_is : part_type (object_at w o) ≡ t
  type_is = shaped_type p t (object_at w o) (stands.memory.shaped o (record { base = of_exception e; type = t }) placed)

  -- and can be thrown
  pub kept_thrown : CanBeThrown after_keeping.live e
  kept_thrown =
      let made = stands.made o (record { base = of_exception e; type = t }) placed in
      thrown_kept w.live e (source_native (part_type (object_at w o)) o w.installed) refl made.1

  pub kept_on : IsOfProgram p t → Stands l p at c after_keeping (record s { world = kept e (type_number t) (destructor_of p t) s.world })
  kept_on known =
      let x = source_native (part_type (object_at w o)) o w.installed in
      let world = world_of p c after_keeping s.world.memory s.world.calls in
      stands_with l p at c c w after_keeping s (kept e (type_number t) (destructor_of p t) s.world)
      (ap (λ y. kept e (type_number t) (destructor_of p t) y) stands.world ∙
      ap {B = World} (λ u. record world { live = map (replaced e (native (type_number u) (destructor_of p u) w.installed)) (map (live_of p) w.live) }) (sym type_is) ∙
      ap {A = List Live} {B = World} (λ xs. record world { live = xs }) (replaced_live p e x w.live))
      refl refl (omega arith)
      (sound_later c w.last_number w.last_number w.live after_keeping.live (omega arith) (λ i z there. made i z (replaces e x w.live i z there)) (λ f in_reach can. thrown_put w.live e f x refl can) stands.sound)
      stands.handlers
      (λ i f q u handlers there. natives f q u handlers i (replaces e x w.live i (record { number = f; exception = source_native u q handlers }) there))
      (λ f h. (live_put w.live e f x ∙ h))
      stands
    where
      made : (i : ℕ) (z : SourceLive) → Replaces e (source_native (part_type (object_at w o)) o w.installed) w.live i z → z.number ≤ w.last_number
      made i z (is_new y there number same) = (let le = stands.sound.live i y there in let n = ap {A = SourceLive} (λ q. q.number) same in omega (arith, le, n, number))
      made i z (is_old there) = stands.sound.live i z there

      exception_number : (m n : SourceLive) → m ≡ n → m.number ≡ n.number
      exception_number m n same = ap {A = SourceLive} (λ q. q.number) same

      exception_there : (m n : SourceLive) → m ≡ n → m.exception ≡ n.exception
      exception_there m n same = ap {A = SourceLive} (λ q. q.exception) same

      object_of : (u v : ObjectType) (q r : ℕ) (g h : Installed) → source_native u q g ≡ source_native v r h → (u ≡ v) × (q ≡ r) × (g ≡ h)
      object_of u v q r g h same = (cc same, cc same, cc same)

      natives : (f q : ℕ) (u : ObjectType) (handlers : Installed) (i : ℕ)
          → Replaces e (source_native (part_type (object_at w o)) o w.installed) w.live i (record { number = f; exception = source_native u q handlers })
          → (at q ≡ Some (record { base = of_exception f; type = u })) × IsKept p u handlers
      natives f q u handlers i (is_old there) = (stands.exceptions i f q u handlers there, stands.kept i f q u handlers there)
      natives f q u handlers i (is_new y there number same) =
          let n : f ≡ e = exception_number _ _ same in
          let (types, objects, installed) = object_of u (part_type (object_at w o)) q o handlers w.installed (exception_there _ _ same) in (
            ap at objects ∙ placed ∙ ap (λ m. Some (record { base = of_exception m; type = t })) (sym n) ∙
                ap (λ v. Some (record { base = of_exception f; type = v })) (sym (types ∙ type_is)),
            record { type = subst (IsOfProgram p) (sym (types ∙ type_is)) known; handlers = subst (AreHandlers p) (sym installed) stands.handlers },
          )
