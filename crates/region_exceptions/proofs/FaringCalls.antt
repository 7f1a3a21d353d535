-- What functions, constructors and destructors keep, and calls with any fuel.
use Rattle.std.proofs.Common.{ℕ, zero, suc, ◌+◌, ℤ, Bool, true, false, List, [], ◌∷◌, Option, Some, None, refl}
use Rattle.std.specs.Prelude.{nat_le, if◌then◌else◌}
use Rattle.meaning_forms.specs.World.{World, Reference}
use Rattle.meaning_forms.specs.Context.{Context}
use Rattle.meaning_forms.specs.Outcome.{Action, Result, done, stopped, thrown, cancelled, out_of_turns, stop, world, ◌>>◌, change}
use Rattle.meaning_forms.specs.Running.{Running, Callee, Argument}
use Rattle.meaning_forms.specs.World.{part}
use Rattle.meaning_forms.specs.Construct.{destroy}
use Rattle.cxx_ast.specs.declared.types.Ty.{Ty}
use Rattle.cxx_ast.specs.declared.types.Ty.TheVariants.{Int}
use Rattle.cxx_ast.specs.Plain.{Expressions, no_expressions, expression_then}
use Rattle.cxx_ast.specs.Plain.{Checked, Function}
use Rattle.meaning_forms.specs.Outcome.{Flow, returns}
use Rattle.meaning_forms.specs.Running.{Constructor, declared, implicit_default, implicit_copy, function, method, constructor, destructor}
use Rattle.meaning_forms.specs.Statement.{spend_turn, ◌then◌}
use Rattle.meaning_forms.specs.Call.{value_returned, run_function, build_parts, default_part, copy_part, initial_value, initial_part, construction, run_constructor, destroy_parts, run_destructor, run_callee, after_call, open_call, running}
use Rattle.meaning_forms.specs.Frame.{Frame}
use Rattle.meaning_forms.specs.Class.{ObjectType, int_type, class_type}
use Rattle.meaning_forms.specs.Class.{parts_of, method_at}
use Rattle.meaning_forms.specs.Outcome.{ended, undefined, deep}
use Rattle.meaning_forms.specs.Call.{statements_in, body_of, destruction, opened, closed}
use Rattle.region_exceptions.specs.Fares.{Fares, CallsFare}
use Rattle.region_exceptions.proofs.Faring.{goes_live}
use Rattle.region_exceptions.proofs.FaringHandlers.{copy_object_fares}
use Rattle.region_exceptions.proofs.FaringSpecifications.{default_fares}
use Rattle.region_exceptions.proofs.FaringActions.{KeepsIn, bind_fares, change_fares, complete_in, destroy_in, if_fares, pure_fares, read_fares, scope_in, specified_in, stop_undefined, turn_fares, world_fares, write_fares}
use Rattle.region_exceptions.proofs.FaringTrees.{construct_fares, statements_fares, value_of_fares, with_arguments_fares}

pub value_returned_fares : {p : Checked} {c : Context} (b : Bool) (t : Ty) (x : Flow) → KeepsIn p c ℤ (value_returned b t x)
value_returned_fares b t (returns (Some v)) = search pure_fares
value_returned_fares b t (returns None) = search pure_fares
value_returned_fares true t x = search pure_fares
value_returned_fares false Int x = search stop_undefined
value_returned_fares false t x = search pure_fares

pub run_function_fares : (r : Running) (b : Bool) (f : Function) (x : Reference) (given : List Argument) (c : Context) → CallsFare r → KeepsIn r.program c ℤ (run_function r b f x given c)
run_function_fares r b f x given c h =
    bind_fares _ _ (with_arguments_fares f.parameters given (record { this = x; variables = [] }))
    (λ frame. bind_fares _ _ (specified_in r h f.specification (body_of r f frame) c (λ d. statements_fares r (statements_in f.body) frame d h)) (λ flow. value_returned_fares b f.result flow))

pub build_parts_fares : (r : Running) (one : ℕ → ObjectType → Action (Unit {0})) (x : Reference) (i : ℕ) (ts : List ObjectType) (c : Context) (left : Action Flow) → CallsFare r → ((j : ℕ) (t : ObjectType) → KeepsIn r.program c (Unit {0}) (one j t)) → KeepsIn r.program c Flow left → KeepsIn r.program c Flow (build_parts r one x i ts c left)
build_parts_fares r one x i [] c left h k g = g
build_parts_fares r one x i (t ∷ ts) c left h k g =
    bind_fares _ _ (k i t) (λ u. complete_in r h c (destroy r t (part i x)) (build_parts r one x (i + 1) ts c left) (λ d. destroy_in r t (part i x) d h)
    (build_parts_fares r one x (i + 1) ts c left h k g))

pub default_part_fares : (r : Running) (x : Reference) (c : Context) (i : ℕ) (t : ObjectType) → CallsFare r → KeepsIn r.program c (Unit {0}) (default_part r x c i t)
default_part_fares r x c i int_type h = search write_fares
default_part_fares r x c i (class_type k) h = record { at = default_fares r h k (part i x) c }

pub copy_part_fares : (r : Running) (x y : Reference) (c : Context) (i : ℕ) (t : ObjectType) → CallsFare r → KeepsIn r.program c (Unit {0}) (copy_part r x y c i t)
copy_part_fares r x y c i int_type h = search (bind_fares, read_fares, write_fares)
copy_part_fares r x y c i (class_type k) h = record { at = copy_object_fares r h k (part i x) (part i y) c }

pub initial_value_fares : (r : Running) (f : Frame) (es : Expressions) (c : Context) → CallsFare r → KeepsIn r.program c ℤ (initial_value r f es c)
initial_value_fares r f no_expressions c h = search pure_fares
initial_value_fares r f (expression_then e es) c h = search value_of_fares

pub initial_part_fares : (r : Running) (f : Frame) (c : Context) (i : ℕ) (o : Option Expressions) (t : ObjectType) → CallsFare r → KeepsIn r.program c (Unit {0}) (initial_part r f c i o t)
initial_part_fares r f c i None int_type h = search pure_fares
initial_part_fares r f c i None (class_type k) h = record { at = default_fares r h k (part i f.this) c }
initial_part_fares r f c i (Some es) int_type h = search (bind_fares, initial_value_fares, write_fares)
initial_part_fares r f c i (Some es) (class_type k) h = search construct_fares

pub construction_fares : (r : Running) (k : ℕ) (f : Function) (g : Frame) (c : Context) → CallsFare r → KeepsIn r.program c Flow (construction r k f g c)
construction_fares r k f g c h = search (build_parts_fares, initial_part_fares, statements_fares)

pub run_constructor_fares : (r : Running) (k : ℕ) (x : Constructor) (y : Reference) (given : List Argument) (c : Context) → CallsFare r → KeepsIn r.program c Flow (run_constructor r k x y given c)
run_constructor_fares r k implicit_default y given c h = search (build_parts_fares, default_part_fares, pure_fares)
run_constructor_fares r k implicit_copy y given c h = search (build_parts_fares, copy_part_fares, pure_fares)
run_constructor_fares r k (declared i) y given c h =
    bind_fares _ _ (with_arguments_fares (method_at r.program k i).parameters given (record { this = y; variables = [] }))
    (λ frame. specified_in r h (method_at r.program k i).specification (construction r k (method_at r.program k i) frame) c (λ d. construction_fares r k (method_at r.program k i) frame d h))

pub destroy_parts_fares : (r : Running) (x : Reference) (i : ℕ) (ts : List ObjectType) (c : Context) (body : Action Flow) → CallsFare r → KeepsIn r.program c Flow body → KeepsIn r.program c Flow (destroy_parts r x i ts c body)
destroy_parts_fares r x i [] c body h g = g
destroy_parts_fares r x i (t ∷ ts) c body h g =
    scope_in r h c (destroy r t (part i x)) (destroy_parts r x (i + 1) ts c body) (λ d. destroy_in r t (part i x) d h) (destroy_parts_fares r x (i + 1) ts c body h g)

pub destruction_fares : (r : Running) (k : ℕ) (f : Function) (x : Reference) (c : Context) → CallsFare r → KeepsIn r.program c Flow (destruction r k f x c)
destruction_fares r k f x c h =
    destroy_parts_fares r x 0 (parts_of r.program k) c (body_of r f (record { this = x; variables = [] }) c) h
    (statements_fares r (statements_in f.body) (record { this = x; variables = [] }) c h)

pub run_destructor_fares : (r : Running) (k : ℕ) (o : Option ℕ) (x : Reference) (c : Context) → CallsFare r → KeepsIn r.program c Flow (run_destructor r k o x c)
run_destructor_fares r k None x c h = search (destroy_parts_fares, pure_fares)
run_destructor_fares r k (Some i) x c h =
    specified_in r h (method_at r.program k i).specification (destruction r k (method_at r.program k i) x) c (λ d. destruction_fares r k (method_at r.program k i) x d h)

pub run_callee_fares : (r : Running) (callee : Callee) (x : Reference) (given : List Argument) (c : Context) → CallsFare r → KeepsIn r.program c ℤ (run_callee r callee x given c)
run_callee_fares r (function n) x given c h = search run_function_fares
run_callee_fares r (method k i) x given c h = search run_function_fares
run_callee_fares r (constructor k which) x given c h = search (bind_fares, run_constructor_fares, pure_fares)
run_callee_fares r (destructor k) x given c h = search (bind_fares, run_destructor_fares, pure_fares)

-- a call is closed however it comes out
closed_fares : (p : Checked) (n : ℕ) (c : Context) (w : World) (x : Result ℤ) → Fares p n c w x → Fares p n c w (after_call x)
closed_fares p n c w (done v w2) h = goes_live c w w2 (closed w2) refl refl h
closed_fares p n c w (stopped (thrown e) w2) h =
    (goes_live c w w2 (closed w2) refl refl h.0, record { raised = record { made = h.1.raised.made; rests = h.1.raised.rests; front = h.1.raised.front }; known = h.1.known; safe = h.1.safe })
closed_fares p n c w (stopped (cancelled v) w2) h = goes_live c w w2 (closed w2) refl refl h
closed_fares p n c w (stopped undefined w2) h = tt
closed_fares p n c w (stopped (ended x) w2) h = tt
closed_fares p n c w (stopped out_of_turns w2) h = tt
closed_fares p n c w (stopped deep w2) h = tt

pub open_fares : {p : Checked} {c : Context} (limit : ℕ) (act : Action ℤ) → KeepsIn p c ℤ act → KeepsIn p c ℤ (open_call limit act)
open_fares {p} {c} limit act k =
    let called : KeepsIn p c ℤ (λ w. after_call (act w)) = record { at = λ n w few order. closed_fares p n c w (act w) (k.at n w few order) } in
    let opening : KeepsIn p c ℤ (change opened >> (λ v. after_call (act v))) = bind_fares (change opened) (λ u w. after_call (act w)) (change_fares opened (λ w. refl) (λ w. refl)) (λ u. called) in
    bind_fares world (λ w. if nat_le limit w.open_calls then stop deep else (spend_turn >> (change opened >> (λ v. after_call (act v))))) world_fares
    (λ w. if_fares (nat_le limit w.open_calls) (stop deep) (spend_turn >> (change opened >> (λ v. after_call (act v)))) (record { at = λ n v few order. tt })
    (bind_fares spend_turn (λ u. change opened >> (λ v. after_call (act v))) turn_fares (λ u. opening)))

-- calls keep it with any fuel
pub calls_fare : (p : Checked) (limit fuel : ℕ) → CallsFare (running p limit fuel)
calls_fare p limit zero callee x given c n w few order = tt
calls_fare p limit (suc fuel) callee x given c n w few order =
    (open_fares limit (run_callee (running p limit fuel) callee x given c) (run_callee_fares (running p limit fuel) callee x given c (calls_fare p limit fuel))).at n w few order
