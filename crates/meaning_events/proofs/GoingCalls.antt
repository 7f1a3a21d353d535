-- Nor does a function, a constructor or a destructor, nor a call with any fuel.
use Rattle.std.specs.Prelude.{ℕ, zero, suc, Bool, true, false, [], ◌∷◌, Option, Some, None, List, ℤ, refl, ◌+◌}
use Rattle.cxx_ast.specs.declared.types.Ty.{Ty}
use Rattle.cxx_ast.specs.declared.types.Ty.TheVariants.{Int}
use Rattle.cxx_ast.specs.Plain.{Expressions, no_expressions, expression_then, Checked, Function}
use Rattle.run_items.specs.declared.item.Item.{Item}
use Rattle.meaning_forms.specs.World.{Reference, part}
use Rattle.meaning_forms.specs.Context.{Context}
use Rattle.meaning_forms.specs.Outcome.{Action, Result, done, stopped, out_of_turns, Flow, returns}
use Rattle.meaning_forms.specs.Running.{Running, Callee, Argument, Constructor, declared, implicit_default, implicit_copy, function, method, constructor, destructor}
use Rattle.meaning_forms.specs.Construct.{destroy}
use Rattle.meaning_forms.specs.Call.{value_returned, run_function, build_parts, default_part, copy_part, initial_value, initial_part, construction, run_constructor, destroy_parts, run_destructor, run_callee, after_call, open_call, running, opened}
use Rattle.meaning_forms.specs.Frame.{Frame}
use Rattle.meaning_forms.specs.Class.{ObjectType, int_type, class_type}
use Rattle.meaning_events.specs.Going.{Follows, items_left, GoesOn, CallsGoOn}
use Rattle.meaning_events.proofs.Going.{bind_goes, if_goes, stop_goes, world_goes, pure_goes, write_goes, read_goes, scope_goes, until_complete_goes, default_object_goes, copy_object_goes, destroy_goes, change_goes, under_specification_goes}
use Rattle.meaning_events.proofs.GoingTrees.{with_arguments_goes, value_of_goes, construct_goes, spend_turn_goes, statements_goes}

pub value_returned_goes : (b : Bool) (t : Ty) (x : Flow) → GoesOn ℤ (value_returned b t x)
value_returned_goes b t (returns (Some v)) = search pure_goes
value_returned_goes b t (returns None) = search pure_goes
value_returned_goes true t x = search pure_goes
value_returned_goes false Int x = search stop_goes
value_returned_goes false t x = search pure_goes

pub run_function_goes : (r : Running) (b : Bool) (f : Function) (x : Reference) (given : List Argument) (c : Context) → CallsGoOn r → GoesOn ℤ (run_function r b f x given c)
run_function_goes r b f x given c h =
    search (bind_goes, with_arguments_goes, under_specification_goes, statements_goes, value_returned_goes) depth 9

pub build_parts_goes : (r : Running) (one : ℕ → ObjectType → Action (Unit {0})) (x : Reference) (i : ℕ) (ts : List ObjectType) (c : Context) (left : Action Flow) → CallsGoOn r
    → ((j : ℕ) (t : ObjectType) → GoesOn (Unit {0}) (one j t)) → GoesOn Flow left → GoesOn Flow (build_parts r one x i ts c left)
build_parts_goes r one x i [] c left h k g = g
build_parts_goes r one x i (t ∷ ts) c left h k g =
    bind_goes _ _ (k i t) (λ u. until_complete_goes _ r c (destroy r t (part i x)) _ h (λ d. destroy_goes r t (part i x) d h)
    (build_parts_goes r one x (i + 1) ts c left h k g))

pub default_part_goes : (r : Running) (x : Reference) (c : Context) (i : ℕ) (t : ObjectType) → CallsGoOn r → GoesOn (Unit {0}) (default_part r x c i t)
default_part_goes r x c i int_type h = search write_goes
default_part_goes r x c i (class_type k) h = search default_object_goes

pub copy_part_goes : (r : Running) (x y : Reference) (c : Context) (i : ℕ) (t : ObjectType) → CallsGoOn r → GoesOn (Unit {0}) (copy_part r x y c i t)
copy_part_goes r x y c i int_type h = search (bind_goes, read_goes, write_goes)
copy_part_goes r x y c i (class_type k) h = search copy_object_goes

pub initial_value_goes : (r : Running) (f : Frame) (es : Expressions) (c : Context) → CallsGoOn r → GoesOn ℤ (initial_value r f es c)
initial_value_goes r f no_expressions c h = search pure_goes
initial_value_goes r f (expression_then e es) c h = search value_of_goes

pub initial_part_goes : (r : Running) (f : Frame) (c : Context) (i : ℕ) (o : Option Expressions) (t : ObjectType) → CallsGoOn r → GoesOn (Unit {0}) (initial_part r f c i o t)
initial_part_goes r f c i None int_type h = search pure_goes
initial_part_goes r f c i None (class_type k) h = search default_object_goes
initial_part_goes r f c i (Some es) int_type h = search (bind_goes, initial_value_goes, write_goes)
initial_part_goes r f c i (Some es) (class_type k) h = search construct_goes

pub construction_goes : (r : Running) (k : ℕ) (f : Function) (g : Frame) (c : Context) → CallsGoOn r → GoesOn Flow (construction r k f g c)
construction_goes r k f g c h = search (build_parts_goes, initial_part_goes, statements_goes)

pub run_constructor_goes : (r : Running) (k : ℕ) (x : Constructor) (y : Reference) (given : List Argument) (c : Context) → CallsGoOn r → GoesOn Flow (run_constructor r k x y given c)
run_constructor_goes r k implicit_default y given c h = search (build_parts_goes, default_part_goes, pure_goes)
run_constructor_goes r k implicit_copy y given c h = search (build_parts_goes, copy_part_goes, pure_goes)
run_constructor_goes r k (declared i) y given c h = search (bind_goes, with_arguments_goes, under_specification_goes, construction_goes)

pub destroy_parts_goes : (r : Running) (x : Reference) (i : ℕ) (ts : List ObjectType) (c : Context) (body : Action Flow) → CallsGoOn r → GoesOn Flow body → GoesOn Flow (destroy_parts r x i ts c body)
destroy_parts_goes r x i [] c body h g = g
destroy_parts_goes r x i (t ∷ ts) c body h g =
    let others : GoesOn Flow (destroy_parts r x (i + 1) ts c body) = destroy_parts_goes r x (i + 1) ts c body h g in
    search (scope_goes, destroy_goes, others)

pub run_destructor_goes : (r : Running) (k : ℕ) (o : Option ℕ) (x : Reference) (c : Context) → CallsGoOn r → GoesOn Flow (run_destructor r k o x c)
run_destructor_goes r k None x c h = search (destroy_parts_goes, pure_goes)
run_destructor_goes r k (Some i) x c h = search (under_specification_goes, destroy_parts_goes, statements_goes)

pub run_callee_goes : (r : Running) (callee : Callee) (x : Reference) (given : List Argument) (c : Context) → CallsGoOn r → GoesOn ℤ (run_callee r callee x given c)
run_callee_goes r (function n) x given c h = search run_function_goes
run_callee_goes r (method k i) x given c h = search run_function_goes
run_callee_goes r (constructor k which) x given c h = search (bind_goes, run_constructor_goes, pure_goes)
run_callee_goes r (destructor k) x given c h = search (bind_goes, run_destructor_goes, pure_goes)

pub after_call_goes : (n : List Item) (m : Result ℤ) → Follows n (items_left m) → Follows n (items_left (after_call m))
after_call_goes n (done v w) g = g
after_call_goes n (stopped s w) g = g

pub calling_goes : (act : Action ℤ) → GoesOn ℤ act → GoesOn ℤ (λ w. after_call (act w))
calling_goes act k = record { at = λ w. after_call_goes _ (act w) (k.at w) }

pub open_call_goes : (limit : ℕ) (act : Action ℤ) → GoesOn ℤ act → GoesOn ℤ (open_call limit act)
open_call_goes limit act k =
    bind_goes _ _ world_goes (λ w. if_goes _ _ _ (stop_goes _ _)
    (bind_goes _ _ spend_turn_goes (λ u. bind_goes _ _ (change_goes opened (λ v. refl)) (λ u. calling_goes act k))))

-- no call takes an item back
pub calls_go_on : (p : Checked) (limit fuel : ℕ) → CallsGoOn (running p limit fuel)
calls_go_on p limit zero callee x given c w = (stop_goes ℤ out_of_turns).at w
calls_go_on p limit (suc fuel) callee x given c w =
    (open_call_goes limit _ (run_callee_goes (running p limit fuel) callee x given c (calls_go_on p limit fuel))).at w
