-- A write to an int of an object is one to memory.
use Rattle.std.proofs.Common.{◌≡◌, ℕ, zero, suc, ◌<◌, ◌⊎◌, inl, inr, ℤ, Bool, true, false, List, [], ◌∷◌, Option, Some, None, refl, sym, ap, ap₂, ◌∙◌, subst, arith, length}
use Rattle.std.specs.Prelude.{slice_get, slice_set, unwrap_or, ◌==◌, ◌&&◌, if◌then◌else◌}
use Rattle.std.proofs.lemmas.Bool.Decides.{nat_tests}
use Rattle.cxx_ast.specs.Plain.{Checked}
use Rattle.class_layout.specs.StandApart.{StandApart}
use Rattle.meaning_forms.specs.Class.{int_type}
use Rattle.meaning_forms.specs.Part.{Part, cell, part_at, with_part_at}
use Rattle.meaning_forms.specs.World.{Reference, World as SourceWorld, object_at, written as source_written}
use Rattle.meaning_forms.specs.Context.{Context as SourceContext}
use Rattle.region_forms.specs.Layout.{Layout}
use Rattle.region_forms.specs.World.{Base, of_global, of_variable, of_exception, Address, World, same_base, same_address, written}
use Rattle.region_forms.specs.Outcome.{State}
use Rattle.region_simulation.specs.Typed.{type_along, offset_along, Shaped}
use Rattle.region_simulation.specs.Places.{Places, Stood, address_along, Refers, Remembers}
use Rattle.region_simulation.specs.Stands.{Stands}
use Rattle.region_simulation.proofs.Paths.{some_same}
use Rattle.region_simulation.proofs.Offsets.{one_place}
use Rattle.region_simulation.proofs.Parts.{same_or_not, set_typed, shaped_written, written_same, written_other}

-- a list with another item at a place
pub set_length : {A : Type 0} (xs : List A) (i : ℕ) (x : A) → length (slice_set xs i x) ≡ length xs
set_length [] i x = refl
set_length (y ∷ xs) zero x = refl
set_length (y ∷ xs) (suc i) x = ap suc (set_length xs i x)

set_same : {A : Type 0} (xs : List A) (i : ℕ) (x : A) → i < length xs → slice_get (slice_set xs i x) i ≡ Some x
set_same [] i x lt = absurd (omega (arith, lt))
set_same (y ∷ xs) zero x lt = refl
set_same (y ∷ xs) (suc i) x lt = set_same xs i x (omega (arith, lt))

set_other : {A : Type 0} (xs : List A) (i j : ℕ) (x : A) → (i ≡ j → ⊥) → slice_get (slice_set xs i x) j ≡ slice_get xs j
set_other [] i j x ne = refl
set_other (y ∷ xs) zero zero x ne = absurd (ne refl)
set_other (y ∷ xs) zero (suc j) x ne = refl
set_other (y ∷ xs) (suc i) zero x ne = refl
set_other (y ∷ xs) (suc i) (suc j) x ne = set_other xs i j x (λ e. ne (ap suc e))

pub both_true : (a b : Bool) → (a && b) ≡ true → (a ≡ true) × (b ≡ true)
both_true true true e = (refl, refl)
both_true false b e = absurd (cc e)
both_true true false e = absurd (cc e)

pub number_is : (m n : ℕ) → (m == n) ≡ true → m ≡ n
number_is m n e = grind (arith, nat_tests, e)

pub number_itself : (n : ℕ) → (n == n) ≡ true
number_itself n = grind (arith, nat_tests)

pub base_is : (a b : Base) → same_base a b ≡ true → a ≡ b
base_is (of_global m) (of_global n) e = ap of_global (number_is m n e)
base_is (of_exception m) (of_exception n) e = ap of_exception (number_is m n e)
base_is (of_variable m s) (of_variable n t) e =
    let (a, b) = both_true (m == n) (s == t) e in ap₂ of_variable (number_is m n a) (number_is s t b)
base_is (of_global m) (of_variable n t) e = absurd (cc e)
base_is (of_global m) (of_exception n) e = absurd (cc e)
base_is (of_variable m s) (of_global n) e = absurd (cc e)
base_is (of_variable m s) (of_exception n) e = absurd (cc e)
base_is (of_exception m) (of_global n) e = absurd (cc e)
base_is (of_exception m) (of_variable n t) e = absurd (cc e)

base_itself : (a : Base) → same_base a a ≡ true
base_itself (of_global n) = number_itself n
base_itself (of_exception n) = number_itself n
base_itself (of_variable n s) = ap₂ (λ x y. x && y) (number_itself n) (number_itself s)

pub address_itself : (a : Address) → same_address a a ≡ true
address_itself a = ap₂ (λ x y. x && y) (number_itself a.offset) (base_itself a.base)

true_is_not : (b : Bool) → b ≡ true → b ≡ false → ⊥
true_is_not b e f = let g : true ≡ false = sym e ∙ f in cc g

module _ (l : Layout) (p : Checked) (apart : StandApart l.classes p.classes) (at : Places) (w : SourceWorld) (memory : Address → Option ℤ) (m : Remembers l p at w memory)
    (r : Reference) (a : Address) (v : ℤ) (refers : Refers l p at r int_type a) where
  abbrev changed : Part
  changed = with_part_at (object_at w r.object) r.path (cell (Some v))

  abbrev after : Address → Option ℤ
  after b = if same_address a b then Some v else memory b

  object_set : object_at (source_written w r v) r.object ≡ changed
  object_set = ap (λ x. unwrap_or x (cell None)) (set_same w.objects r.object changed (m.made r.object refers.stood refers.stands))

  object_kept : (o : ℕ) → (r.object ≡ o → ⊥) → object_at (source_written w r v) o ≡ object_at w o
  object_kept o ne = ap (λ x. unwrap_or x (cell None)) (set_other w.objects r.object o changed ne)

  shape : Shaped p refers.stood.type (object_at w r.object)
  shape = m.shaped r.object refers.stood refers.stands

  -- the object that is written to
  own_holds : (path : List ℕ) (n : ℤ) → part_at changed path ≡ cell (Some n) → after (address_along l p refers.stood path) ≡ Some n
  own_holds path n is = go (same_address a (address_along l p refers.stood path)) refl
    where
      typed : type_along p refers.stood.type path ≡ Some int_type
      typed = set_typed p refers.stood.type changed path n (shaped_written p refers.stood.type (object_at w r.object) r.path (Some v) shape refers.typed) is

      int_of : (x y : ℤ) → cell (Some x) ≡ cell (Some y) → Some x ≡ Some y
      int_of x y e = cc e

      go : (z : Bool) → same_address a (address_along l p refers.stood path) ≡ z → (if z then Some v else memory (address_along l p refers.stood path)) ≡ Some n
      go true e =
          let (offsets, bases) = both_true (a.offset == offset_along l p refers.stood.type path) (same_base a.base refers.stood.base) e in
          let one = one_place l p apart refers.stood.type r.path path refers.typed typed
          (sym (ap (λ x. x.offset) refers.address) ∙ number_is a.offset (offset_along l p refers.stood.type path) offsets) in
          int_of v n (sym (written_same p refers.stood.type (object_at w r.object) r.path (Some v) shape refers.typed) ∙ ap (λ q. part_at changed q) one ∙ is)
      go false e =
          m.holds r.object refers.stood path n refers.stands
          (sym (written_other p refers.stood.type (object_at w r.object) r.path path (Some v) shape refers.typed typed
          (λ same. true_is_not (same_address a (address_along l p refers.stood path))
          (subst (λ x. same_address a x ≡ true) (refers.address ∙ ap (λ q. address_along l p refers.stood q) same) (address_itself a)) e)) ∙ is)

  -- any other
  other_holds : (o : ℕ) (x : Stood) (path : List ℕ) (n : ℤ) → at o ≡ Some x → (r.object ≡ o → ⊥) → part_at (object_at w o) path ≡ cell (Some n)
      → after (address_along l p x path) ≡ Some n
  other_holds o x path n there ne is = go (same_address a (address_along l p x path)) refl
    where
      go : (z : Bool) → same_address a (address_along l p x path) ≡ z → (if z then Some v else memory (address_along l p x path)) ≡ Some n
      go true e =
          let (offsets, bases) = both_true (a.offset == offset_along l p x.type path) (same_base a.base x.base) e in
          absurd (ne (m.apart r.object o refers.stood x refers.stands there (sym (ap (λ y. y.base) refers.address) ∙ base_is a.base x.base bases)))
      go false e = m.holds o x path n there is

  pub remembers_written : Remembers l p at (source_written w r v) after
  remembers_written = record {
    made = λ o x there. subst (λ n. o < n) (sym (set_length w.objects r.object changed)) (m.made o x there);
    apart = m.apart;
    shaped = λ o x there. shaped o x there (same_or_not r.object o);
    holds = λ o x path n there is. holds o x path n there is (same_or_not r.object o);
  }
    where
      shaped : (o : ℕ) (x : Stood) → at o ≡ Some x → (r.object ≡ o) ⊎ (r.object ≡ o → ⊥) → Shaped p x.type (object_at (source_written w r v) o)
      shaped o x there (inr ne) = subst (Shaped p x.type) (sym (object_kept o ne)) (m.shaped o x there)
      shaped o x there (inl e) =
          let same : refers.stood ≡ x = some_same (sym refers.stands ∙ ap at e ∙ there) in
          subst (λ y. Shaped p y.type (object_at (source_written w r v) o)) same (subst (λ q. Shaped p refers.stood.type (object_at (source_written w r v) q)) e
          (subst (Shaped p refers.stood.type) (sym object_set) (shaped_written p refers.stood.type (object_at w r.object) r.path (Some v) shape refers.typed)))

      holds : (o : ℕ) (x : Stood) (path : List ℕ) (n : ℤ) → at o ≡ Some x → part_at (object_at (source_written w r v) o) path ≡ cell (Some n)
          → (r.object ≡ o) ⊎ (r.object ≡ o → ⊥) → after (address_along l p x path) ≡ Some n
      holds o x path n there is (inr ne) = other_holds o x path n there ne (ap (λ q. part_at q path) (sym (object_kept o ne)) ∙ is)
      holds o x path n there is (inl e) =
          let same : refers.stood ≡ x = some_same (sym refers.stands ∙ ap at e ∙ there) in
          subst (λ y. after (address_along l p y path) ≡ Some n) same
          (own_holds path n (ap (λ q. part_at q path) (sym object_set) ∙ ap (λ q. part_at (object_at (source_written w r v) q) path) e ∙ is))

-- a state after a write to memory stands for the world after the write to the object
pub stands_written : (l : Layout) (p : Checked) → StandApart l.classes p.classes → (at : Places) (c : SourceContext) (w : SourceWorld) (s : State) (r : Reference) (a : Address) (v : ℤ)
    → Stands l p at c w s → Refers l p at r int_type a → Stands l p at c (source_written w r v) (record s { world = written a v s.world })
stands_written l p apart at c w s r a v h refers = record {
  world = ap {A = World} (λ y. record y { memory = λ b. if same_address a b then Some v else s.world.memory b }) h.world;
  turns = h.turns;
  memory = remembers_written l p apart at w s.world.memory h.memory r a v refers;
  globals = h.globals;
  exceptions = h.exceptions;
  made = h.made;
  sound = h.sound;
  handlers = h.handlers;
  kept = h.kept;
}
