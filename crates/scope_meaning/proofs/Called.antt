-- What is called, from the function that is found for it, and the value of a call that is done.
use Rattle.std.proofs.Common.{◌≡◌, ◌∙◌, ℕ, ℤ, pos, Bool, false, List, [], ◌∷◌, Option, Some, None, map, refl, sym, subst, Result as CodeResult}
use Rattle.std.specs.Prelude.{◌==◌}
use Rattle.cxx_ast.specs.declared.types.Param.{Param}
use Rattle.cxx_ast.specs.declared.types.Ty.{Ty}
use Rattle.cxx_ast.specs.declared.types.Ty.TheVariants.{Int, Void, Object, IntRef, ObjectRef}
use Rattle.cxx_ast.specs.Plain.{Specification, listed, noexcept, Function}
use Rattle.meaning_forms.specs.Class.{ObjectType, function_at, method_at, object_type, parts_of}
use Rattle.meaning_forms.specs.World.{World, Reference}
use Rattle.meaning_forms.specs.Context.{Context, catch_all, try_block, guarded_by, specification}
use Rattle.meaning_forms.specs.Outcome.{Action, Flow, normal, done, pure, ◌>>=◌}
use Rattle.meaning_forms.specs.Running.{Running, Argument, function, method, declared, implicit_copy}
use Rattle.meaning_forms.specs.Frame.{Frame, with_arguments}
use Rattle.meaning_forms.specs.Specification.{after_extent, end_noexcept, under_specification}
use Rattle.meaning_forms.specs.Statement.{after_try}
use Rattle.meaning_forms.specs.Call.{body_of, build_parts, construction, copy_part, destroy_parts, destruction, new_frame, run_callee, run_constructor, run_destructor, run_function, source_of, value_at_end, value_returned}
use Rattle.scope_world.specs.declared.outcome.Halt.{Halt}
use Rattle.scope_world.specs.declared.outcome.Flow.{Flow as CodeFlow}
use Rattle.scope_world.specs.declared.outcome.Flow.TheVariants as flows
use Rattle.scope_world.specs.Gives.{Gives, GivesBy, Halts, flow_of}
use Rattle.scope_flow.proofs.Passing.{halts_continued, halts_next, gives_next, gives_by_next}

-- a function that is found is called
pub called_function : (r : Running) (n : ℕ) (x : Reference) (given : List Argument) (c : Context) (w v : World) (answer : CodeResult ℤ Halt) (is_main : Bool) (f : Function)
    → is_main ≡ (n == r.program.main) → f ≡ function_at r.program n → Gives (run_function r is_main f x given c w) answer v → Gives (run_callee r (function n) x given c w) answer v
called_function r n x given c w v answer is_main f m e g =
    subst (λ b. Gives (run_function r b (function_at r.program n) x given c w) answer v) m (subst (λ h. Gives (run_function r is_main h x given c w) answer v) e g)

pub called_method : (r : Running) (k i : ℕ) (x : Reference) (given : List Argument) (c : Context) (w v : World) (answer : CodeResult ℤ Halt) (f : Function)
    → f ≡ method_at r.program k i → Gives (run_function r false f x given c w) answer v → Gives (run_callee r (method k i) x given c w) answer v
called_method r k i x given c w v answer f e g = subst (λ h. Gives (run_function r false h x given c w) answer v) e g

-- the end of a function is defined where it is main's, or the function gives no int
pub end_defined : (t : Ty) (w : World) → (t ≡ Int → ⊥) → value_at_end false t w ≡ done (pos 0) w
end_defined Int w other = absurd (other refl)
end_defined Void w other = refl
end_defined (Object n) w other = refl
end_defined (IntRef b) w other = refl
end_defined (ObjectRef b n) w other = refl

-- a body that does not return comes to the function's end
pub comes_to_end : (is_main : Bool) (t : Ty) (flow : CodeFlow) (w : World) (answer : CodeResult ℤ Halt) → ((v : Option ℤ) → flow ≡ flows.Returns v → ⊥) → Gives (value_at_end is_main t w) answer w → Gives (value_returned is_main t (flow_of flow) w) answer w
comes_to_end is_main t flows.Normal w answer other g = g
comes_to_end is_main t flows.Breaks w answer other g = g
comes_to_end is_main t flows.Continues w answer other g = g
comes_to_end is_main t (flows.Returns v) w answer other g = absurd (other v refl)

-- a body that is done gives the call's value
pub ran : (r : Running) (is_main : Bool) (f : Function) (x : Reference) (given : List Argument) (c : Context) (w u v : World) (ps : List Param) (frame : Frame) (flow : Flow) (answer : CodeResult ℤ Halt)
    → ps ≡ f.parameters → with_arguments ps given (record { this = x; variables = [] }) w ≡ done frame u → under_specification r f.specification (body_of r f frame) c u ≡ done flow v
    → Gives (value_returned is_main f.result flow v) answer v → Gives (run_function r is_main f x given c w) answer v
ran r is_main f x given c w u v ps frame flow answer p bound body g =
    gives_next (new_frame f x given w) (λ y. under_specification r f.specification (body_of r f y) c >>= (λ z. value_returned is_main f.result z)) frame u v answer
    (subst (λ qs. with_arguments qs given (record { this = x; variables = [] }) w ≡ done frame u) p bound)
    (gives_next (under_specification r f.specification (body_of r f frame) c u) (λ z. value_returned is_main f.result z) flow v v answer body g)

-- one that is stopped stops the call
pub run_halted : (r : Running) (is_main : Bool) (f : Function) (x : Reference) (given : List Argument) (c : Context) (w u v : World) (ps : List Param) (frame : Frame) (h : Halt)
    → ps ≡ f.parameters → with_arguments ps given (record { this = x; variables = [] }) w ≡ done frame u → Halts (under_specification r f.specification (body_of r f frame) c u) h v
    → Halts (run_function r is_main f x given c w) h v
run_halted r is_main f x given c w u v ps frame h p bound g =
    halts_next (new_frame f x given w) (λ y. under_specification r f.specification (body_of r f y) c >>= (λ z. value_returned is_main f.result z)) frame u v h
    (subst (λ qs. with_arguments qs given (record { this = x; variables = [] }) w ≡ done frame u) p bound)
    (halts_continued (under_specification r f.specification (body_of r f frame) c u) (λ z. value_returned is_main f.result z) h v g)

-- a declared constructor
pub constructed : (r : Running) (k i : ℕ) (x : Reference) (given : List Argument) (c : Context) (w u v : World) (f : Function) (ps : List Param) (frame : Frame) (answer : CodeResult CodeFlow Halt)
    → f ≡ method_at r.program k i → ps ≡ f.parameters → with_arguments ps given (record { this = x; variables = [] }) w ≡ done frame u
    → GivesBy flow_of (under_specification r f.specification (construction r k f frame) c u) answer v → GivesBy flow_of (run_constructor r k (declared i) x given c w) answer v
constructed r k i x given c w u v f ps frame answer e p bound g =
    subst (λ h. GivesBy flow_of ((new_frame h x given >>= (λ y. under_specification r h.specification (construction r k h y) c)) w) answer v) e
    (gives_by_next flow_of (new_frame f x given w) (λ y. under_specification r f.specification (construction r k f y) c) frame u v answer
    (subst (λ qs. with_arguments qs given (record { this = x; variables = [] }) w ≡ done frame u) p bound) g)

-- an implicit copy constructor, from what it copies
pub constructed_copy : (r : Running) (k : ℕ) (x source : Reference) (given : List Argument) (c : Context) (w v : World) (answer : CodeResult CodeFlow Halt) → source ≡ source_of given
    → GivesBy flow_of (build_parts r (copy_part r x source c) x 0 (parts_of r.program k) c (pure normal) w) answer v → GivesBy flow_of (run_constructor r k implicit_copy x given c w) answer v
constructed_copy r k x source given c w v answer e g = subst (λ y. GivesBy flow_of (build_parts r (copy_part r x y c) x 0 (parts_of r.program k) c (pure normal) w) answer v) e g

-- the parts that are built are those of the class
pub parts_built : (r : Running) (build : ℕ → ObjectType → Action (Unit {0})) (x : Reference) (types all : List ObjectType) (c : Context) (left : Action Flow) (w v : World) (answer : CodeResult CodeFlow Halt)
    → types ≡ all → GivesBy flow_of (build_parts r build x 0 types c left w) answer v → GivesBy flow_of (build_parts r build x 0 all c left w) answer v
parts_built r build x types all c left w v answer e g = subst (λ ts. GivesBy flow_of (build_parts r build x 0 ts c left w) answer v) e g

-- and those that are destroyed
pub parts_destroyed : (r : Running) (x : Reference) (types all : List ObjectType) (c : Context) (body : Action Flow) (w v : World) (answer : CodeResult CodeFlow Halt)
    → types ≡ all → GivesBy flow_of (destroy_parts r x 0 types c body w) answer v → GivesBy flow_of (destroy_parts r x 0 all c body w) answer v
parts_destroyed r x types all c body w v answer e g = subst (λ ts. GivesBy flow_of (destroy_parts r x 0 ts c body w) answer v) e g

-- a class without a declared destructor
pub destroyed_plainly : (r : Running) (k : ℕ) (found place : Option ℕ) (x : Reference) (c : Context) (w v : World) (answer : CodeResult CodeFlow Halt)
    → found ≡ place → found ≡ None → GivesBy flow_of (destroy_parts r x 0 (parts_of r.program k) c (pure normal) w) answer v → GivesBy flow_of (run_destructor r k place x c w) answer v
destroyed_plainly r k found place x c w v answer e n g = subst (λ o. GivesBy flow_of (run_destructor r k o x c w) answer v) (sym n ∙ e) g

-- a declared destructor
pub destroyed_so : (r : Running) (k i : ℕ) (found place : Option ℕ) (f : Function) (x : Reference) (c : Context) (w v : World) (answer : CodeResult CodeFlow Halt)
    → found ≡ place → found ≡ Some i → f ≡ method_at r.program k i → GivesBy flow_of (under_specification r f.specification (destruction r k f x) c w) answer v → GivesBy flow_of (run_destructor r k place x c w) answer v
destroyed_so r k i found place f x c w v answer e n m g =
    subst (λ o. GivesBy flow_of (run_destructor r k o x c w) answer v) (sym n ∙ e) (subst (λ h. GivesBy flow_of (under_specification r h.specification (destruction r k h x) c w) answer v) m g)

-- a function without a specification
pub unguarded : (r : Running) (found spec : Option Specification) (act : Context → Action Flow) (c : Context) (w v : World) (answer : CodeResult CodeFlow Halt)
    → found ≡ spec → found ≡ None → GivesBy flow_of (act c w) answer v → GivesBy flow_of (under_specification r spec act c w) answer v
unguarded r found spec act c w v answer e n g = subst (λ o. GivesBy flow_of (under_specification r o act c w) answer v) (sym n ∙ e) g

-- one with a list
pub guarded : (r : Running) (types : List Ty) (found spec : Option Specification) (act : Context → Action Flow) (c : Context) (w v : World) (answer : CodeResult CodeFlow Halt)
    → found ≡ spec → found ≡ Some (listed types) → GivesBy flow_of (after_extent r (map object_type types) c (act (guarded_by (specification (map object_type types)) c) w)) answer v
    → GivesBy flow_of (under_specification r spec act c w) answer v
guarded r types found spec act c w v answer e n g = subst (λ o. GivesBy flow_of (under_specification r o act c w) answer v) (sym n ∙ e) g

-- and one that is `noexcept`
pub ended : (r : Running) (place : ℕ) (b : Bool) (found spec : Option Specification) (act : Context → Action Flow) (c : Context) (w v : World) (answer : CodeResult CodeFlow Halt)
    → found ≡ spec → found ≡ Some (noexcept place b) → GivesBy flow_of (after_try (end_noexcept r c) (act (guarded_by (try_block (catch_all ∷ [])) c) w)) answer v
    → GivesBy flow_of (under_specification r spec act c w) answer v
ended r place b found spec act c w v answer e n g = subst (λ o. GivesBy flow_of (under_specification r o act c w) answer v) (sym n ∙ e) g
