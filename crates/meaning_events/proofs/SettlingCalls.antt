-- What functions, constructors and destructors settle, and calls with any fuel.
use Rattle.std.proofs.Common.{ℕ, zero, suc, ◌+◌, ℤ, Bool, true, false, List, [], ◌∷◌, Option, Some, None, refl}
use Rattle.std.specs.Prelude.{nat_le, if◌then◌else◌}
use Rattle.cxx_ast.specs.declared.types.Ty.{Ty}
use Rattle.cxx_ast.specs.declared.types.Ty.TheVariants.{Int}
use Rattle.cxx_ast.specs.Plain.{Expressions, no_expressions, expression_then, Checked, Function}
use Rattle.meaning_forms.specs.World.{Reference, part}
use Rattle.meaning_forms.specs.Context.{Context}
use Rattle.meaning_forms.specs.Outcome.{Action, Result, done, stopped, thrown, cancelled, out_of_turns, stop, world, ◌>>◌, change, Flow, returns, ended, undefined, deep}
use Rattle.meaning_forms.specs.Running.{Running, Callee, Argument, Constructor, declared, implicit_default, implicit_copy, function, method, constructor, destructor}
use Rattle.meaning_forms.specs.Construct.{destroy}
use Rattle.meaning_forms.specs.Statement.{spend_turn, ◌then◌}
use Rattle.meaning_forms.specs.Call.{value_returned, run_function, build_parts, default_part, copy_part, initial_value, initial_part, construction, run_constructor, destroy_parts, run_destructor, run_callee, after_call, open_call, running, statements_in, body_of, destruction, opened}
use Rattle.meaning_forms.specs.Frame.{Frame}
use Rattle.meaning_forms.specs.Class.{ObjectType, int_type, class_type, parts_of, method_at}
use Rattle.meaning_events.specs.Fates.{Story, story}
use Rattle.meaning_events.specs.Settles.{Nobody, Settles, CallsSettle}
use Rattle.meaning_events.proofs.SettlingHandlers.{copy_object_settles}
use Rattle.meaning_events.proofs.SettlingSpecifications.{default_settles}
use Rattle.meaning_events.proofs.SettlingActions.{SettlesAct, bind_settles, change_settles, complete_in, destroy_in, if_settles, pure_settles, read_settles, scope_in, specified_in, stop_deep, stop_undefined, turn_settles, world_settles, write_settles}
use Rattle.meaning_events.proofs.SettlingTrees.{construct_settles, statements_settles, value_of_settles, with_arguments_settles}

pub value_returned_settles : {p : Checked} {c : Context} (b : Bool) (t : Ty) (x : Flow) → SettlesAct p c ℤ (value_returned b t x)
value_returned_settles b t (returns (Some v)) = search pure_settles
value_returned_settles b t (returns None) = search pure_settles
value_returned_settles true t x = search pure_settles
value_returned_settles false Int x = search stop_undefined
value_returned_settles false t x = search pure_settles

pub run_function_settles : (r : Running) (b : Bool) (f : Function) (x : Reference) (given : List Argument) (c : Context) → CallsSettle r → SettlesAct r.program c ℤ (run_function r b f x given c)
run_function_settles r b f x given c h =
    bind_settles _ _ (with_arguments_settles f.parameters given (record { this = x; variables = [] }))
    (λ frame. bind_settles _ _ (specified_in r h f.specification (body_of r f frame) c (λ d. statements_settles r (statements_in f.body) frame d h)) (λ flow. value_returned_settles b f.result flow))

pub build_parts_settles : (r : Running) (one : ℕ → ObjectType → Action (Unit {0})) (x : Reference) (i : ℕ) (ts : List ObjectType) (c : Context) (left : Action Flow) → CallsSettle r
    → ((j : ℕ) (t : ObjectType) → SettlesAct r.program c (Unit {0}) (one j t)) → SettlesAct r.program c Flow left → SettlesAct r.program c Flow (build_parts r one x i ts c left)
build_parts_settles r one x i [] c left h k g = g
build_parts_settles r one x i (t ∷ ts) c left h k g =
    bind_settles _ _ (k i t) (λ u. complete_in r h c (destroy r t (part i x)) (build_parts r one x (i + 1) ts c left) (λ d. destroy_in r t (part i x) d h)
    (build_parts_settles r one x (i + 1) ts c left h k g))

pub default_part_settles : (r : Running) (x : Reference) (c : Context) (i : ℕ) (t : ObjectType) → CallsSettle r → SettlesAct r.program c (Unit {0}) (default_part r x c i t)
default_part_settles r x c i int_type h = search write_settles
default_part_settles r x c i (class_type k) h = record { at = default_settles r h k (part i x) c }

pub copy_part_settles : (r : Running) (x y : Reference) (c : Context) (i : ℕ) (t : ObjectType) → CallsSettle r → SettlesAct r.program c (Unit {0}) (copy_part r x y c i t)
copy_part_settles r x y c i int_type h = search (bind_settles, read_settles, write_settles)
copy_part_settles r x y c i (class_type k) h = record { at = copy_object_settles r h k (part i x) (part i y) c }

pub initial_value_settles : (r : Running) (f : Frame) (es : Expressions) (c : Context) → CallsSettle r → SettlesAct r.program c ℤ (initial_value r f es c)
initial_value_settles r f no_expressions c h = search pure_settles
initial_value_settles r f (expression_then e es) c h = search value_of_settles

pub initial_part_settles : (r : Running) (f : Frame) (c : Context) (i : ℕ) (o : Option Expressions) (t : ObjectType) → CallsSettle r → SettlesAct r.program c (Unit {0}) (initial_part r f c i o t)
initial_part_settles r f c i None int_type h = search pure_settles
initial_part_settles r f c i None (class_type k) h = record { at = default_settles r h k (part i f.this) c }
initial_part_settles r f c i (Some es) int_type h = search (bind_settles, initial_value_settles, write_settles)
initial_part_settles r f c i (Some es) (class_type k) h = search construct_settles

pub construction_settles : (r : Running) (k : ℕ) (f : Function) (g : Frame) (c : Context) → CallsSettle r → SettlesAct r.program c Flow (construction r k f g c)
construction_settles r k f g c h = search (build_parts_settles, initial_part_settles, statements_settles)

pub run_constructor_settles : (r : Running) (k : ℕ) (x : Constructor) (y : Reference) (given : List Argument) (c : Context) → CallsSettle r
    → SettlesAct r.program c Flow (run_constructor r k x y given c)
run_constructor_settles r k implicit_default y given c h = search (build_parts_settles, default_part_settles, pure_settles)
run_constructor_settles r k implicit_copy y given c h = search (build_parts_settles, copy_part_settles, pure_settles)
run_constructor_settles r k (declared i) y given c h =
    bind_settles _ _ (with_arguments_settles (method_at r.program k i).parameters given (record { this = y; variables = [] }))
    (λ frame. specified_in r h (method_at r.program k i).specification (construction r k (method_at r.program k i) frame) c (λ d. construction_settles r k (method_at r.program k i) frame d h))

pub destroy_parts_settles : (r : Running) (x : Reference) (i : ℕ) (ts : List ObjectType) (c : Context) (body : Action Flow) → CallsSettle r → SettlesAct r.program c Flow body
    → SettlesAct r.program c Flow (destroy_parts r x i ts c body)
destroy_parts_settles r x i [] c body h g = g
destroy_parts_settles r x i (t ∷ ts) c body h g =
    scope_in r h c (destroy r t (part i x)) (destroy_parts r x (i + 1) ts c body) (λ d. destroy_in r t (part i x) d h) (destroy_parts_settles r x (i + 1) ts c body h g)

pub destruction_settles : (r : Running) (k : ℕ) (f : Function) (x : Reference) (c : Context) → CallsSettle r → SettlesAct r.program c Flow (destruction r k f x c)
destruction_settles r k f x c h =
    destroy_parts_settles r x 0 (parts_of r.program k) c (body_of r f (record { this = x; variables = [] }) c) h
    (statements_settles r (statements_in f.body) (record { this = x; variables = [] }) c h)

pub run_destructor_settles : (r : Running) (k : ℕ) (o : Option ℕ) (x : Reference) (c : Context) → CallsSettle r → SettlesAct r.program c Flow (run_destructor r k o x c)
run_destructor_settles r k None x c h = search (destroy_parts_settles, pure_settles)
run_destructor_settles r k (Some i) x c h =
    specified_in r h (method_at r.program k i).specification (destruction r k (method_at r.program k i) x) c (λ d. destruction_settles r k (method_at r.program k i) x d h)

pub run_callee_settles : (r : Running) (callee : Callee) (x : Reference) (given : List Argument) (c : Context) → CallsSettle r → SettlesAct r.program c ℤ (run_callee r callee x given c)
run_callee_settles r (function n) x given c h = search run_function_settles
run_callee_settles r (method k i) x given c h = search run_function_settles
run_callee_settles r (constructor k which) x given c h = search (bind_settles, run_constructor_settles, pure_settles)
run_callee_settles r (destructor k) x given c h = search (bind_settles, run_destructor_settles, pure_settles)

-- a call is closed however it comes out
closed_settles : (p : Checked) (c : Context) (s : Story) (x : Result ℤ) → Settles p c.handled c.guards Nobody s x → Settles p c.handled c.guards Nobody s (after_call x)
closed_settles p c s (done v w) h = h
closed_settles p c s (stopped (thrown e) w) h = h
closed_settles p c s (stopped (cancelled v) w) h = h
closed_settles p c s (stopped undefined w) h = h
closed_settles p c s (stopped (ended x) w) h = h
closed_settles p c s (stopped out_of_turns w) h = h
closed_settles p c s (stopped deep w) h = h

pub open_settles : {p : Checked} {c : Context} (limit : ℕ) (act : Action ℤ) → SettlesAct p c ℤ act → SettlesAct p c ℤ (open_call limit act)
open_settles {p} {c} limit act k =
    let called : SettlesAct p c ℤ (λ w. after_call (act w)) = record { at = λ w tells. closed_settles p c (story w) (act w) (k.at w tells) } in
    let opening : SettlesAct p c ℤ (change opened >> (λ v. after_call (act v))) = bind_settles (change opened) (λ u w. after_call (act w)) (change_settles opened (λ w. refl)) (λ u. called) in
    bind_settles world (λ w. if nat_le limit w.open_calls then stop deep else (spend_turn >> (change opened >> (λ v. after_call (act v))))) world_settles
    (λ w. if_settles (nat_le limit w.open_calls) (stop deep) (spend_turn >> (change opened >> (λ v. after_call (act v)))) (stop_deep ℤ)
    (bind_settles spend_turn (λ u. change opened >> (λ v. after_call (act v))) turn_settles (λ u. opening)))

-- calls settle what they make with any fuel
pub calls_settle : (p : Checked) (limit fuel : ℕ) → CallsSettle (running p limit fuel)
calls_settle p limit zero callee x given c w tells = tells.allowed
calls_settle p limit (suc fuel) callee x given c w tells =
    (open_settles limit (run_callee (running p limit fuel) callee x given c) (run_callee_settles (running p limit fuel) callee x given c (calls_settle p limit fuel))).at w tells
