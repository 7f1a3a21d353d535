-- Nor is a function, a constructor or a destructor, nor a call with any fuel; so no meaning is.
use Rattle.std.specs.Prelude.{◌≡◌, ℕ, zero, suc, ◌≤◌, nat_le, Bool, true, false, [], ◌∷◌, Option, Some, None, List, ℤ, refl, ◌+◌, if◌then◌else◌}
use Rattle.std.proofs.Common.{arith}
use Rattle.std.proofs.lemmas.Bool.Decides.{nat_tests}
use Rattle.cxx_ast.specs.declared.types.Ty.{Ty}
use Rattle.cxx_ast.specs.declared.types.Ty.TheVariants.{Int}
use Rattle.cxx_ast.specs.Plain.{Expressions, no_expressions, expression_then, Checked, Function}
use Rattle.meaning_forms.specs.World.{World, Reference, part, nowhere}
use Rattle.meaning_forms.specs.Context.{Context, no_context}
use Rattle.meaning_forms.specs.Outcome.{Action, Result, done, stopped, thrown, cancelled, ended, undefined, out_of_turns, deep, Flow, returns, stop, change, continued, ◌>>◌}
use Rattle.meaning_forms.specs.Running.{Running, Callee, Argument, Constructor, declared, implicit_default, implicit_copy, function, method, constructor, destructor}
use Rattle.meaning_forms.specs.Construct.{destroy}
use Rattle.meaning_forms.specs.Call.{value_returned, run_function, build_parts, default_part, copy_part, initial_value, initial_part, construction, run_constructor, destroy_parts, run_destructor, run_callee, after_call, open_call, running, opened, call_with}
use Rattle.meaning_forms.specs.Statement.{spend, spend_turn}
use Rattle.meaning_forms.specs.Meaning.{stopped_by, after_main, first_world}
use Rattle.meaning_forms.specs.Frame.{Frame}
use Rattle.meaning_forms.specs.Class.{ObjectType, int_type, class_type}
use Rattle.meaning_depths.specs.Shallow.{IsBelow, ComesBelow, Shallow, CallsAreShallow}
use Rattle.meaning_depths.specs.Laws.{ShallowMeanings}
use Rattle.meaning_depths.proofs.Stopping.{bind_below, undefined_below, turns_below, pure_below, write_below, read_below, scope_below, until_complete_below, default_object_below, copy_object_below, destroy_below, under_specification_below}
use Rattle.meaning_depths.proofs.StoppingTrees.{with_arguments_below, value_of_below, construct_below, statements_below}

pub value_returned_below : {L : ℕ} (b : Bool) (t : Ty) (x : Flow) → Shallow L ℤ (value_returned b t x)
value_returned_below b t (returns (Some v)) = search pure_below
value_returned_below b t (returns None) = search pure_below
value_returned_below true t x = search pure_below
value_returned_below false Int x = search undefined_below
value_returned_below false t x = search pure_below

pub run_function_below : {L : ℕ} (r : Running) (b : Bool) (f : Function) (x : Reference) (given : List Argument) (c : Context) → CallsAreShallow L r → Shallow L ℤ (run_function r b f x given c)
run_function_below r b f x given c h =
    search (bind_below, with_arguments_below, under_specification_below, statements_below, value_returned_below) depth 9

pub build_parts_below : {L : ℕ} (r : Running) (one : ℕ → ObjectType → Action (Unit {0})) (x : Reference) (i : ℕ) (ts : List ObjectType) (c : Context) (left : Action Flow) → CallsAreShallow L r
    → ((j : ℕ) (t : ObjectType) → Shallow L (Unit {0}) (one j t)) → Shallow L Flow left → Shallow L Flow (build_parts r one x i ts c left)
build_parts_below r one x i [] c left h k g = g
build_parts_below r one x i (t ∷ ts) c left h k g =
    bind_below _ _ (k i t) (λ u. until_complete_below _ r c (destroy r t (part i x)) _ h (λ d. destroy_below r t (part i x) d h)
    (build_parts_below r one x (i + 1) ts c left h k g))

pub default_part_below : {L : ℕ} (r : Running) (x : Reference) (c : Context) (i : ℕ) (t : ObjectType) → CallsAreShallow L r → Shallow L (Unit {0}) (default_part r x c i t)
default_part_below r x c i int_type h = search write_below
default_part_below r x c i (class_type k) h = search default_object_below

pub copy_part_below : {L : ℕ} (r : Running) (x y : Reference) (c : Context) (i : ℕ) (t : ObjectType) → CallsAreShallow L r → Shallow L (Unit {0}) (copy_part r x y c i t)
copy_part_below r x y c i int_type h = search (bind_below, read_below, write_below)
copy_part_below r x y c i (class_type k) h = search copy_object_below

pub initial_value_below : {L : ℕ} (r : Running) (f : Frame) (es : Expressions) (c : Context) → CallsAreShallow L r → Shallow L ℤ (initial_value r f es c)
initial_value_below r f no_expressions c h = search pure_below
initial_value_below r f (expression_then e es) c h = search value_of_below

pub initial_part_below : {L : ℕ} (r : Running) (f : Frame) (c : Context) (i : ℕ) (o : Option Expressions) (t : ObjectType) → CallsAreShallow L r → Shallow L (Unit {0}) (initial_part r f c i o t)
initial_part_below r f c i None int_type h = search pure_below
initial_part_below r f c i None (class_type k) h = search default_object_below
initial_part_below r f c i (Some es) int_type h = search (bind_below, initial_value_below, write_below)
initial_part_below r f c i (Some es) (class_type k) h = search construct_below

pub construction_below : {L : ℕ} (r : Running) (k : ℕ) (f : Function) (g : Frame) (c : Context) → CallsAreShallow L r → Shallow L Flow (construction r k f g c)
construction_below r k f g c h = search (build_parts_below, initial_part_below, statements_below)

pub run_constructor_below : {L : ℕ} (r : Running) (k : ℕ) (x : Constructor) (y : Reference) (given : List Argument) (c : Context) → CallsAreShallow L r → Shallow L Flow (run_constructor r k x y given c)
run_constructor_below r k implicit_default y given c h = search (build_parts_below, default_part_below, pure_below)
run_constructor_below r k implicit_copy y given c h = search (build_parts_below, copy_part_below, pure_below)
run_constructor_below r k (declared i) y given c h = search (bind_below, with_arguments_below, under_specification_below, construction_below)

pub destroy_parts_below : {L : ℕ} (r : Running) (x : Reference) (i : ℕ) (ts : List ObjectType) (c : Context) (body : Action Flow) → CallsAreShallow L r → Shallow L Flow body → Shallow L Flow (destroy_parts r x i ts c body)
destroy_parts_below r x i [] c body h g = g
destroy_parts_below {L} r x i (t ∷ ts) c body h g =
    let others : Shallow L Flow (destroy_parts r x (i + 1) ts c body) = destroy_parts_below r x (i + 1) ts c body h g in
    search (scope_below, destroy_below, others)

pub run_destructor_below : {L : ℕ} (r : Running) (k : ℕ) (o : Option ℕ) (x : Reference) (c : Context) → CallsAreShallow L r → Shallow L Flow (run_destructor r k o x c)
run_destructor_below r k None x c h = search (destroy_parts_below, pure_below)
run_destructor_below r k (Some i) x c h = search (under_specification_below, destroy_parts_below, statements_below)

pub run_callee_below : {L : ℕ} (r : Running) (callee : Callee) (x : Reference) (given : List Argument) (c : Context) → CallsAreShallow L r → Shallow L ℤ (run_callee r callee x given c)
run_callee_below r (function n) x given c h = search run_function_below
run_callee_below r (method k i) x given c h = search run_function_below
run_callee_below r (constructor k which) x given c h = search (bind_below, run_constructor_below, pure_below)
run_callee_below r (destructor k) x given c h = search (bind_below, run_destructor_below, pure_below)

pub after_call_below : (L : ℕ) (m : Result ℤ) → ComesBelow L m → ComesBelow L (after_call m)
after_call_below L (done v w) g = omega (arith, g)
after_call_below L (stopped (thrown e) w) g = omega (arith, g)
after_call_below L (stopped (cancelled n) w) g = omega (arith, g)
after_call_below L (stopped (ended e) w) g = omega (arith, g)
after_call_below L (stopped undefined w) g = omega (arith, g)
after_call_below L (stopped out_of_turns w) g = omega (arith, g)
after_call_below L (stopped deep w) g = g

pub calling_below : {L : ℕ} (act : Action ℤ) → Shallow L ℤ act → Shallow L ℤ (λ w. after_call (act w))
calling_below act k = record { at = λ w l. after_call_below _ (act w) (k.at w l) }

-- the call of which a turn is spent is one more that is open
opened_below : {L : ℕ} (n : ℕ) (act : Action ℤ) (w : World) → n ≡ w.turns → Shallow L ℤ act → IsBelow L w → ComesBelow L (continued (spend n w) (λ u. change opened >> (λ v. after_call (act v))))
opened_below zero act w e k l = l
opened_below (suc n) act w e k l = (calling_below act k).at (opened (record w { turns = n })) (omega (arith, e, l))

open_call_below : {L : ℕ} (limit : ℕ) (act : Action ℤ) → L ≤ limit → Shallow L ℤ act → Shallow L ℤ (open_call limit act)
open_call_below {L} limit act le k = record { at = λ w l. go w l (nat_le limit w.open_calls) refl }
  where
    go : (w : World) → IsBelow L w → (b : Bool) → nat_le limit w.open_calls ≡ b → ComesBelow L ((if b then stop deep else (spend_turn >> (change opened >> (λ v. after_call (act v))))) w)
    go w l true e = let high : limit ≤ w.open_calls = grind (arith, nat_tests, e) in absurd (omega (arith, high, le, l))
    go w l false e = opened_below w.turns act w refl k l

-- no call is too deep where turns are few
pub calls_are_below : (p : Checked) (limit fuel : ℕ) → CallsAreShallow limit (running p limit fuel)
calls_are_below p limit zero callee x given c w = (turns_below ℤ).at w
calls_are_below p limit (suc fuel) callee x given c w =
    (open_call_below limit _ (omega arith) (run_callee_below (running p limit fuel) callee x given c (calls_are_below p limit fuel))).at w

main_below : (limit : ℕ) (r : Result ℤ) → ComesBelow limit r → (after_main r).main ≡ stopped_by deep → ⊥
main_below limit (done v w) h e = cc e
main_below limit (stopped (thrown x) w) h e = cc e
main_below limit (stopped (cancelled n) w) h e = cc e
main_below limit (stopped (ended x) w) h e = cc e
main_below limit (stopped undefined w) h e = cc e
main_below limit (stopped out_of_turns w) h e = cc e
main_below limit (stopped deep w) h e = h

pub shallow_meanings : ShallowMeanings
shallow_meanings p input replies turns limit few =
    main_below limit (call_with p limit (suc turns) (function p.main) nowhere [] no_context (first_world p input replies turns))
    (calls_are_below p limit (suc turns) (function p.main) nowhere [] no_context (first_world p input replies turns) (omega (arith, few)))
