-- Handlers for all exceptions, and those that catch by reference.
use Rattle.std.proofs.Common.{◌≡◌, ℕ, ◌+◌, ◌<◌, ◌≤◌, true, [], ◌∷◌, Option, Some, None, refl, sym, ap, ◌∙◌, subst, arith, length}
use Rattle.std.specs.Prelude.{◌==◌, if◌then◌else◌}
use Rattle.cxx_ast.specs.declared.name.Name.{Name}
use Rattle.cxx_ast.specs.declared.types.Ty.{Ty}
use Rattle.cxx_ast.specs.declared.types.Ty.TheVariants.{Int, Void, Object, IntRef, ObjectRef}
use Rattle.cxx_ast.specs.Plain.{Checked}
use Rattle.meaning_forms.specs.Class.{ObjectType, int_type, class_type, class_named, object_type, derives as source_derives}
use Rattle.meaning_forms.specs.World.{World as SourceWorld, Reference, Exception as SourceException, building as source_building, native as source_native, foreign as source_foreign, Installed, whole, as_class, exception_at as source_exception_at, exception_type as source_exception_type, type_at as source_type_at}
use Rattle.meaning_forms.specs.Context.{Context as SourceContext, catch_type}
use Rattle.meaning_forms.specs.Frame.{Frame as SourceFrame, with_parameter, bound_as, variable_in}
use Rattle.meaning_forms.specs.Guard.{matches as source_matches}
use Rattle.region_forms.specs.Form.{op, bind, regions_from}
use Rattle.region_forms.specs.Layout.{Layout}
use Rattle.region_forms.specs.World.{Address, of_variable, address_word, object_address, address_in, Word, Frame, with_slot}
use Rattle.region_forms.specs.Evaluation.{location_behind, location_address, with_some}
use Rattle.region_forms.specs.Effect.{if_some, goes}
use Rattle.region_forms.specs.Outcome.{State, Context, normal, done, continued, pure}
use Rattle.region_forms.specs.Ending.{Running, perform}
use Rattle.region_forms.specs.Meaning.{followed}
use Rattle.linear_simulation.specs.Watched.{watched_all as regions}
use Rattle.region_forms.specs.LowerExpression.{Lowering, exception_slot, variable_type}
use Rattle.region_forms.specs.LowerStatement.{variable_slot, thrown_place}
use Rattle.region_simulation.specs.Places.{Places, Stood, Refers}
use Rattle.region_simulation.specs.Stands.{Stands}
use Rattle.region_simulation.specs.Alike.{Keeps, Follows}
use Rattle.region_simulation.specs.Reach.{IsReachedBy, VariableStands}
use Rattle.region_simulation.specs.Flows.{InScope}
use Rattle.region_simulation.specs.Statements.{HasNumber}
use Rattle.region_simulation.proofs.Leaving.{reaches_on}
use Rattle.region_simulation.proofs.Declaring.{declaring, scope_declared}
use Rattle.region_simulation.proofs.Members.{refers_shaped, refers_base}
use Rattle.region_simulation.proofs.Storing.{other_number, same_number}
use Rattle.region_exceptions.proofs.Standing.{stands_framed}
use Rattle.region_exceptions.proofs.Raises.{native_in}
use Rattle.region_exceptions.proofs.Giving.{object_refers}

-- what is caught by a type is a native exception of it, or of one derived from it
pub record CaughtAs (p : Checked) (w : SourceWorld) (e : ℕ) (u : ObjectType) : Type 0 where
  pub type : ObjectType
  pub object : ℕ
  pub handlers : Installed
  pub is : source_exception_at w e ≡ source_native type object handlers
  pub derived : source_derives p type u ≡ true

pub caught_as : (p : Checked) (w : SourceWorld) (e : ℕ) (u : ObjectType) → source_matches p (source_type_at w e) (catch_type u) ≡ true → CaughtAs p w e u
caught_as p w e u h = go (source_exception_at w e) refl h
  where
    go : (x : SourceException) → source_exception_at w e ≡ x → source_matches p (source_exception_type x) (catch_type u) ≡ true → CaughtAs p w e u
    go source_building is h = absurd (cc h)
    go (source_foreign k t) is h = absurd (cc h)
    go (source_native t o kept) is h = record { type = t; object = o; handlers = kept; is = is; derived = h }

int_only : (p : Checked) (t : ObjectType) → source_derives p t int_type ≡ true → t ≡ int_type
int_only p int_type h = refl
int_only p (class_type k) h = absurd (cc h)

module _ (l : Layout) (p : Checked) (at : Places) (c : SourceContext) (w : SourceWorld) (s : State) (stands : Stands l p at c w s) (e : ℕ) where
  -- the object of an exception, as what it is caught as
  pub caught_int : (x : CaughtAs p w e int_type) → Refers l p at (whole x.object) int_type (object_address e)
  caught_int x =
      let (i, there) = native_in w.live e x.object x.type x.handlers x.is in
      subst (λ t. Refers l p at (whole x.object) t (object_address e)) (int_only p x.type x.derived) (object_refers l p at c w s i e x.object x.type x.handlers stands there)

  pub caught_class : (k : ℕ) (x : CaughtAs p w e (class_type k)) → Refers l p at (as_class w k (whole x.object)) (class_type k) (object_address e)
  caught_class k x =
      let (i, there) = native_in w.live e x.object x.type x.handlers x.is in
      let refers = object_refers l p at c w s i e x.object x.type x.handlers stands there in
      refers_base w x.type k refers (refers_shaped w stands.memory refers) x.derived

-- what a reference of a type is bound to
abbrev pub IsReference : Ty → Type 0
IsReference (IntRef const) = Unit {0}
IsReference (ObjectRef const n) = Unit {0}
IsReference t = ⊥

pub caught_reference : (l : Layout) (p : Checked) (at : Places) (c : SourceContext) (w : SourceWorld) (s : State) → Stands l p at c w s → (e : ℕ) (t : Ty) → IsReference t
    → (x : CaughtAs p w e (object_type t)) → Refers l p at (bound_as w t (whole x.object)) (object_type t) (object_address e)
caught_reference l p at c w s stands e (ObjectRef const n) h x = caught_class l p at c w s stands e (class_named n) x
caught_reference l p at c w s stands e (IntRef const) h x = caught_int l p at c w s stands e x
caught_reference l p at c w s stands e Int h x = absurd h
caught_reference l p at c w s stands e Void h x = absurd h
caught_reference l p at c w s stands e (Object n) h x = absurd h

-- a variable that is newly in reach
pub variable_newly : (l : Lowering) (at : Places) (v : SourceFrame) (f : Frame) (n : ℕ) (t : Ty) (r : Reference) (address : Address) → n < length l.variables → variable_type l n ≡ t
    → Refers l.layout l.program at r (object_type t) address → IsReachedBy t (variable_slot l n) f address → VariableStands l at (declaring n r v) f n
variable_newly l at v f n t r address there typed refers reached = record {
  there = there;
  address = address;
  refers = subst (λ u. Refers l.layout l.program at (if n == n then r else variable_in v.variables n) (object_type u) address) (sym typed)
      (subst (λ q. Refers l.layout l.program at q (object_type t) address) (sym (ap (λ z. if z then r else variable_in v.variables n) (same_number n))) refers);
  reached = subst (λ u. IsReachedBy u (variable_slot l n) f address) (sym typed) reached;
}

module _ (l : Lowering) (own : Option ℕ) (v : SourceFrame) (n : ℕ) (at : Places) (w : SourceWorld) (s : State) (c d : SourceContext) (w2 : SourceWorld) (s2 : State)
    (stands : Stands l.layout l.program at c w s) (h : Follows l.layout l.program at (variable_slot l n) w s d w2 s2) (inside : InScope l own n at v s) where
  -- a parameter comes in reach where it has a name, and else is there without one
  pub scope_parameter : (x : Option Name) → HasNumber x n → (r : Reference) → n < length l.variables → VariableStands l h.places (declaring n r v) s2.frame n
      → ((o m : ℕ) (z : Stood) → h.places o ≡ Some z → z.base ≡ of_variable s2.frame.call (variable_slot l m) → m < n + 1)
      → InScope l own (n + 1) h.places (with_parameter x r v) s2
  scope_parameter (Some q) numbered r there newly free =
      subst (λ m. InScope l own (n + 1) h.places (declaring m r v) s2) (sym numbered) (scope_declared l own v n at w s c d w2 s2 stands h inside r newly free)
  scope_parameter None numbered r there newly free =
      let running = inside.running in let more = h.calls in let same = h.keeps.call in
      record {
        reach = reaches_on l own v n at w s c d w2 s2 stands h inside;
        before = λ m is. (let lt = inside.before m is in omega (arith, lt));
        free = free;
        there = omega (arith, there);
        running = omega (arith, running, more, same);
      }

-- where the frame alone is changed, from a slot on
abbrev pub follows_framed : (l : Layout) (p : Checked) (at : Places) (k : ℕ) (c : SourceContext) (w : SourceWorld) (s : State) (f : Frame) → Keeps k s.frame f → Stands l p at c w s
    → Follows l p at k w s c w (record s { frame = f })
follows_framed l p at k c w s f keeps stands = record {
  places = at;
  stay = λ o lt. refl;
  objects = omega arith;
  calls = omega arith;
  open_calls = refl;
  keeps = keeps;
  stands = stands_framed l p at c w s f stands;
}

pub slot_keeps : (k t : ℕ) (x : Word) (f : Frame) → k ≤ t → Keeps k f (with_slot t x f)
slot_keeps k t x f le = record { call = refl; slots = λ q lt. ap (λ z. if z then x else f.slots q) (other_number q t (omega (arith, lt, le))) }

pub scope_framed : (l : Lowering) (own : Option ℕ) (v : SourceFrame) (n : ℕ) (at : Places) (w : SourceWorld) (s : State) (c : SourceContext) (f : Frame)
    → Stands l.layout l.program at c w s → Keeps (variable_slot l n) s.frame f → InScope l own n at v s → InScope l own n at v (record s { frame = f })
scope_framed l own v n at w s c f stands keeps inside =
    let running = inside.running in let same = keeps.call in
    record {
      reach = reaches_on l own v n at w s c c w (record s { frame = f }) stands (follows_framed l.layout l.program at (variable_slot l n) c w s f keeps stands) inside;
      before = inside.before;
      free = λ o m x is base. inside.free o m x is (base ∙ ap (λ q. of_variable q (variable_slot l m)) same);
      there = inside.there;
      running = omega (arith, running, same);
    }

-- the address of an exception's object is bound to a slot
pub bound_there : (l : Lowering) (b : Running) (e t : ℕ) (ctx : Context) (s : State) → s.frame.slots (exception_slot l) ≡ address_word (object_address e)
    → regions b (regions_from (op (bind t (thrown_place l)) ∷ [])) ctx s ≡ done normal (record s { frame = with_slot t (address_word (object_address e)) s.frame })
bound_there l b e t ctx s slot =
    ap (λ z. continued (continued (perform b (if_some (with_some (location_behind 0 (address_in z)) location_address) (λ a. goes (with_slot t (address_word a) s.frame) s.world)) ctx s)
    (λ u. pure normal)) (followed (pure normal))) slot
