-- What stands where a variable is declared: an int at its slot, set or not, or a reference by the address in its slot.
use Rattle.std.proofs.Common.{◌≡◌, ℕ, zero, suc, ◌+◌, ◌<◌, ◌≤◌, ℤ, Bool, true, false, List, [], ◌∷◌, Option, Some, None, refl, sym, ap, ◌∙◌, subst, arith, length}
use Rattle.std.specs.Prelude.{◌==◌, map, if◌then◌else◌}
use Rattle.cxx_ast.specs.Plain.{Checked}
use Rattle.cxx_ast.specs.declared.name.Name.{Name}
use Rattle.cxx_ast.specs.declared.types.Ty.{Ty}
use Rattle.cxx_ast.specs.declared.types.Ty.TheVariants.{Int, Void, Object, IntRef, ObjectRef}
use Rattle.meaning_forms.specs.Class.{ObjectType, int_type, class_type, class_named, object_type, parts_of}
use Rattle.meaning_forms.specs.Part.{cell, object, Parts, nth_part, part_at, parts_from, unset_within, unset}
use Rattle.meaning_forms.specs.World.{World as SourceWorld, Reference, whole}
use Rattle.meaning_forms.specs.Context.{Context as SourceContext}
use Rattle.meaning_forms.specs.Frame.{Frame as SourceFrame, variable_in}
use Rattle.region_forms.specs.Layout.{Layout}
use Rattle.region_forms.specs.World.{Frame, Address, of_variable, Word, address_word, same_base, same_address, with_slot, written}
use Rattle.region_forms.specs.Outcome.{State}
use Rattle.region_forms.specs.LowerExpression.{Lowering, variable_type}
use Rattle.region_forms.specs.LowerStatement.{variable_slot}
use Rattle.region_simulation.specs.Typed.{Shaped}
use Rattle.region_simulation.specs.Places.{Places, Stood, address_along, Refers}
use Rattle.region_simulation.specs.Reach.{slot_address, IsReachedBy, VariableStands}
use Rattle.region_simulation.specs.Stands.{Stands}
use Rattle.region_simulation.specs.Alike.{Follows}
use Rattle.region_simulation.specs.Flows.{InScope}
use Rattle.region_simulation.proofs.Storing.{same_number, other_number}
use Rattle.region_simulation.proofs.Writing.{both_true, base_is, address_itself, number_itself}
use Rattle.region_simulation.proofs.Leaving.{reaches_on}
use Rattle.region_simulation.proofs.Standing.{with_object, placed_new, follows_new}
use Rattle.region_simulation.proofs.Declaring.{declaring, scope_declared, free_placed, variable_empty}

-- nothing is set in a cell that is unset
unset_path : (path : List ℕ) → part_at (cell None) path ≡ cell None
unset_path [] = refl
unset_path (i ∷ path) = unset_path path

object_not_set : (k : ℕ) (parts : Parts) (x : ℤ) → object k parts ≡ cell (Some x) → ⊥
object_not_set k parts x e = cc e

pub unset_nowhere : (path : List ℕ) (x : ℤ) → part_at (cell None) path ≡ cell (Some x) → ⊥
unset_nowhere path x e = let f = sym (unset_path path) ∙ e in cc f

pub same_cell : (x y : ℤ) → cell (Some x) ≡ cell (Some y) → x ≡ y
same_cell x y e = cc e

-- no int is set in an object that is not
none_among : (p : Checked) (n : ℕ) (types : List ObjectType) (i : ℕ) (path : List ℕ) (x : ℤ) → ((t : ObjectType) → part_at (unset_within n p t) path ≡ cell (Some x) → ⊥)
    → part_at (nth_part (parts_from (map (unset_within n p) types)) i) path ≡ cell (Some x) → ⊥
none_among p n [] i path x each e = unset_nowhere path x e
none_among p n (t ∷ types) zero path x each e = each t e
none_among p n (t ∷ types) (suc i) path x each e = none_among p n types i path x each e

none_set : (p : Checked) (n : ℕ) (t : ObjectType) (path : List ℕ) (x : ℤ) → part_at (unset_within n p t) path ≡ cell (Some x) → ⊥
none_set p zero t path x e = unset_nowhere path x e
none_set p (suc n) int_type path x e = unset_nowhere path x e
none_set p (suc n) (class_type k) [] x e = object_not_set k (parts_from (map (unset_within n p) (parts_of p k))) x e
none_set p (suc n) (class_type k) (i ∷ path) x e = none_among p n (parts_of p k) i path x (λ t. none_set p n t path x) e

unset_is_not_set : (p : Checked) (t : ObjectType) (path : List ℕ) (x : ℤ) → part_at (unset p t) path ≡ cell (Some x) → ⊥
unset_is_not_set p t path x e = none_set p (suc (length p.classes)) t path x e

-- a slot that is no variable is set
abbrev pub follows_slot : (l : Layout) (p : Checked) (at : Places) (k : ℕ) (c : SourceContext) (w : SourceWorld) (s : State) (t : ℕ) (x : Word) → k ≤ t
    → Stands l p at c w s → Follows l p at k w s c w (record s { frame = with_slot t x s.frame })
follows_slot l p at k c w s t x le stands = record {
  places = at;
  stay = λ o lt. refl;
  objects = omega arith;
  calls = omega arith;
  open_calls = refl;
  keeps = record {
    call = refl;
    slots = λ q lt. ap (λ b. if b then x else s.frame.slots q) (other_number q t (omega (arith, lt, le)));
  };
  stands = record {
    world = stands.world;
    turns = stands.turns;
    memory = stands.memory;
    globals = stands.globals;
    exceptions = stands.exceptions;
    made = stands.made;
    sound = stands.sound;
    handlers = stands.handlers;
    kept = stands.kept;
  };
}

-- the type of a reference
abbrev pub IsReference : Ty → Type 0
IsReference (IntRef k) = Unit {0}
IsReference (ObjectRef k m) = Unit {0}
IsReference _ = ⊥

reached_through : (t : Ty) (k : ℕ) (f : Frame) (a : Address) → IsReference t → f.slots k ≡ address_word a → IsReachedBy t k f a
reached_through (IntRef m) k f a is e = e
reached_through (ObjectRef m q) k f a is e = e
reached_through Int k f a is e = absurd is
reached_through Void k f a is e = absurd is
reached_through (Object q) k f a is e = absurd is

-- memory behind a write
pub written_apart : (a : Address) (z : ℤ) (memory : Address → Option ℤ) (q : Address) → (q.base ≡ a.base → ⊥) → (if same_address a q then Some z else memory q) ≡ memory q
written_apart a z memory q ne = go (same_address a q) refl
  where
    go : (y : Bool) → same_address a q ≡ y → (if y then Some z else memory q) ≡ memory q
    go true e = absurd (ne (sym (base_is a.base q.base (both_true (a.offset == q.offset) (same_base a.base q.base) e).1)))
    go false e = refl

pub written_int : (l : Layout) (p : Checked) (call slot : ℕ) (z : ℤ) (memory : Address → Option ℤ) (path : List ℕ) (y : ℤ) → part_at (cell (Some z)) path ≡ cell (Some y)
    → (if same_address (slot_address call slot) (address_along l p (record { base = of_variable call slot; type = int_type }) path) then Some z
    else memory (address_along l p (record { base = of_variable call slot; type = int_type }) path)) ≡ Some y
written_int l p call slot z memory [] y e =
    ap (λ q. if q then Some z else memory (slot_address call slot)) (address_itself (slot_address call slot)) ∙ ap (λ q. Some q) (same_cell z y e)
written_int l p call slot z memory (j ∷ path) y e = absurd (unset_nowhere path y e)

-- What follows a declaration: the variable is in reach, if it has a name, and the next is that behind it.
pub record Declared (l : Lowering) (own : Option ℕ) (v : SourceFrame) (n : ℕ) (at : Places) (c : SourceContext) (w : SourceWorld) (s : State) (r : Reference)
    (w2 : SourceWorld) (s2 : State) : Type 0 where
  pub follows : Follows l.layout l.program at (variable_slot l n) w s c w2 s2
  pub named : InScope l own (n + 1) follows.places (declaring n r v) s2
  pub unnamed : InScope l own (n + 1) follows.places v s2

module _ (l : Lowering) (own : Option ℕ) (v : SourceFrame) (c : SourceContext) (n : ℕ) (there : n < length l.variables) (at : Places) (w : SourceWorld) (s : State)
    (stands : Stands l.layout l.program at c w s) (scope : InScope l own n at v s) where
  -- without a name
  scope_unnamed : (w2 : SourceWorld) (s2 : State) (h : Follows l.layout l.program at (variable_slot l n) w s c w2 s2)
      → ((o m : ℕ) (x : Stood) → h.places o ≡ Some x → x.base ≡ of_variable s2.frame.call (variable_slot l m) → m < n + 1) → InScope l own (n + 1) h.places v s2
  scope_unnamed w2 s2 h free =
      let running = scope.running in let more = h.calls in let same = h.keeps.call in
      record {
        reach = reaches_on l own v n at w s c c w2 s2 stands h scope;
        before = λ m is. (let lt = scope.before m is in omega (arith, lt));
        free = free;
        there = omega (arith, there);
        running = omega (arith, running, more, same);
      }

  -- an int, whatever memory then holds at its slot
  pub int_declared : variable_type l n ≡ Int → (a : Option ℤ) (memory : Address → Option ℤ)
      → ((q : Address) → (q.base ≡ of_variable s.frame.call (variable_slot l n) → ⊥) → memory q ≡ s.world.memory q)
      → ((path : List ℕ) (x : ℤ) → part_at (cell a) path ≡ cell (Some x)
      → memory (address_along l.layout l.program (record { base = of_variable s.frame.call (variable_slot l n); type = int_type }) path) ≡ Some x)
      → Declared l own v n at c w s (whole (length w.objects)) (with_object (cell a) w) (record s { world = record (s.world) { memory = memory } })
  int_declared is_int a memory same holds =
      let k = variable_slot l n in
      let o = length w.objects in
      let s2 = record s { world = record (s.world) { memory = memory } } in
      let base = of_variable s.frame.call k in
      let g = follows_new l.layout l.program at c w s stands base int_type (cell a) memory (variable_empty l own v n at s scope) scope.running tt same holds k in
      let newly : VariableStands l g.places (declaring n (whole o) v) s2.frame n = record {
        there = there;
        address = slot_address s.frame.call k;
        refers = subst (λ r. Refers l.layout l.program g.places r (object_type (variable_type l n)) (slot_address s.frame.call k))
            (sym (ap (λ z. if z then whole o else variable_in v.variables n) (number_itself n)))
            (record { stood = record { base = base; type = int_type }; stands = placed_new at o (record { base = base; type = int_type }); typed = ap (λ t. Some (object_type t)) (sym is_int); address = refl });
        reached = subst (λ t. IsReachedBy t k s2.frame (slot_address s.frame.call k)) (sym is_int) refl;
      } in
      let free : (q m : ℕ) (y : Stood) → g.places q ≡ Some y → y.base ≡ of_variable s2.frame.call (variable_slot l m) → m < n + 1 =
      (λ q m y is it. free_placed l own v n at s scope o q m (record { base = base; type = int_type }) y refl is it) in
      record {
        follows = g;
        named = scope_declared l own v n at w s c c (with_object (cell a) w) s2 stands g scope (whole o) newly free;
        unnamed = scope_unnamed (with_object (cell a) w) s2 g free;
      }

  -- an int that is set
  pub int_set : variable_type l n ≡ Int → (z : ℤ)
      → Declared l own v n at c w s (whole (length w.objects)) (with_object (cell (Some z)) w) (record s { world = written (slot_address s.frame.call (variable_slot l n)) z s.world })
  int_set is_int z =
      int_declared is_int (Some z) (λ q. if same_address (slot_address s.frame.call (variable_slot l n)) q then Some z else s.world.memory q)
      (λ q ne. written_apart (slot_address s.frame.call (variable_slot l n)) z s.world.memory q ne)
      (λ path y e. written_int l.layout l.program s.frame.call (variable_slot l n) z s.world.memory path y e)

  -- an object of a class, in which no int is set
  pub object_declared : (k : Name) → variable_type l n ≡ Object k → Shaped l.program (class_type (class_named k)) (unset l.program (class_type (class_named k)))
      → (d : Declared l own v n at c w s (whole (length w.objects)) (with_object (unset l.program (class_type (class_named k))) w) s)
      × (d.follows.places (length w.objects) ≡ Some (record { base = of_variable s.frame.call (variable_slot l n); type = class_type (class_named k) }))
  object_declared k is_object shaped =
      let m = variable_slot l n in
      let o = length w.objects in
      let a = unset l.program (class_type (class_named k)) in
      let base = of_variable s.frame.call m in
      let t = class_type (class_named k) in
      let g = follows_new l.layout l.program at c w s stands base t a s.world.memory (variable_empty l own v n at s scope) scope.running shaped (λ q ne. refl)
      (λ path x e. absurd (unset_is_not_set l.program t path x e)) m in
      let newly : VariableStands l g.places (declaring n (whole o) v) s.frame n = record {
        there = there;
        address = slot_address s.frame.call m;
        refers = subst (λ r. Refers l.layout l.program g.places r (object_type (variable_type l n)) (slot_address s.frame.call m))
            (sym (ap (λ z. if z then whole o else variable_in v.variables n) (number_itself n)))
            (record { stood = record { base = base; type = t }; stands = placed_new at o (record { base = base; type = t }); typed = ap (λ u. Some (object_type u)) (sym is_object); address = refl });
        reached = subst (λ u. IsReachedBy u m s.frame (slot_address s.frame.call m)) (sym is_object) refl;
      } in
      let free : (q j : ℕ) (y : Stood) → g.places q ≡ Some y → y.base ≡ of_variable s.frame.call (variable_slot l j) → j < n + 1 =
      (λ q j y is it. free_placed l own v n at s scope o q j (record { base = base; type = t }) y refl is it) in (
        record {
          follows = g;
          named = scope_declared l own v n at w s c c (with_object a w) s stands g scope (whole o) newly free;
          unnamed = scope_unnamed (with_object a w) s g free;
        },
        placed_new at o (record { base = base; type = t }),
      )

  -- a reference to what stands at an address
  pub reference_declared : IsReference (variable_type l n) → (r : Reference) (a : Address) → Refers l.layout l.program at r (object_type (variable_type l n)) a
      → Declared l own v n at c w s r w (record s { frame = with_slot (variable_slot l n) (address_word a) s.frame })
  reference_declared is_reference r a refers =
      let k = variable_slot l n in
      let s2 = record s { frame = with_slot k (address_word a) s.frame } in
      let g = follows_slot l.layout l.program at k c w s k (address_word a) (omega arith) stands in
      let newly : VariableStands l g.places (declaring n r v) s2.frame n = record {
        there = there;
        address = a;
        refers = subst (λ q. Refers l.layout l.program at q (object_type (variable_type l n)) a)
            (sym (ap (λ z. if z then r else variable_in v.variables n) (number_itself n))) refers;
        reached = reached_through (variable_type l n) k s2.frame a is_reference (ap (λ z. if z then address_word a else s.frame.slots k) (same_number k));
      } in
      let free : (o m : ℕ) (y : Stood) → at o ≡ Some y → y.base ≡ of_variable s2.frame.call (variable_slot l m) → m < n + 1 =
      (λ o m y is it. (let lt = scope.free o m y is it in omega (arith, lt))) in
      record {
        follows = g;
        named = scope_declared l own v n at w s c c w s2 stands g scope r newly free;
        unnamed = scope_unnamed w s2 g free;
      }
