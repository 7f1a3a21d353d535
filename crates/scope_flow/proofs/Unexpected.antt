-- What comes out of an unexpected handler is passed on, and what a specification stops is unexpected.
use Rattle.std.proofs.Common.{◌≡◌, ◌∙◌, ℕ, Bool, true, false, List, Option, refl, ap, sym, subst, Ok, Result as CodeResult}
use Rattle.std.specs.Prelude.{if◌then◌else◌}
use Rattle.meaning_forms.specs.Class.{ObjectType, class_type, some_of}
use Rattle.meaning_forms.specs.Part.{Part, unset}
use Rattle.meaning_forms.specs.World.{World, Exception, Installed, Reference, exception_type, type_at, whole, exception_at}
use Rattle.meaning_forms.specs.Context.{Context, handling}
use Rattle.meaning_forms.specs.Outcome.{Action, done, Flow, new_object, pure, ◌>>◌}
use Rattle.meaning_forms.specs.Guard.{allows}
use Rattle.meaning_forms.specs.Running.{Running}
use Rattle.meaning_forms.specs.Terminate.{terminate_with}
use Rattle.meaning_forms.specs.Throw.{raise_exception, throw_new}
use Rattle.meaning_forms.specs.Construct.{default_object}
use Rattle.meaning_forms.specs.Handler.{enter, after_handler, while_handled}
use Rattle.meaning_forms.specs.Specification.{is_bad_exception, new_bad_exception, pass_on, kept_with, run_unexpected_handler, unexpected}
use Rattle.scope_world.specs.declared.outcome.Halt.{Halt}
use Rattle.scope_world.specs.declared.outcome.Flow.{Flow as CodeFlow}
use Rattle.scope_world.specs.Gives.{GivesBy, Halts, flow_of}
use Rattle.scope_flow.proofs.Passing.{halts_continued, halts_next, gives_next, gives_by_next}

-- a bad_exception is built in a new object
pub bad_made : (r : Running) (c : Context) (w u v : World) (o : ℕ) (a : Part) (x : Reference)
    → a ≡ unset r.program (class_type 0) → new_object a w ≡ done o u → x ≡ whole o → default_object r 0 x c u ≡ done tt v → new_bad_exception r c w ≡ done o v
bad_made r c w u v o a x e made at built =
    gives_next (new_object (unset r.program (class_type 0)) w) (λ n. default_object r 0 (whole n) c >> pure n) o u v (Ok o) (subst (λ b. new_object b w ≡ done o u) e made)
    (gives_next (default_object r 0 (whole o) c u) (λ b. pure o) tt v v (Ok o) (subst (λ y. default_object r 0 y c u ≡ done tt v) at built) refl)

-- or its building is stopped
pub bad_halted : (r : Running) (c : Context) (w u v : World) (o : ℕ) (a : Part) (x : Reference) (h : Halt)
    → a ≡ unset r.program (class_type 0) → new_object a w ≡ done o u → x ≡ whole o → Halts (default_object r 0 x c u) h v → Halts (new_bad_exception r c w) h v
bad_halted r c w u v o a x h e made at g =
    halts_next (new_object (unset r.program (class_type 0)) w) (λ n. default_object r 0 (whole n) c >> pure n) o u v h (subst (λ b. new_object b w ≡ done o u) e made)
    (halts_continued (default_object r 0 (whole o) c u) (λ b. pure o) h v (subst (λ y. Halts (default_object r 0 y c u) h v) at g))

-- whether a specification allows an exception, from what is found of it
pub allowed_as : (r : Running) (types : List ObjectType) (w : World) (e : ℕ) (x : Exception) (t : Option ObjectType) (b : Bool) → x ≡ exception_at w e → t ≡ exception_type x → b ≡ allows r.program types t → b ≡ allows r.program types (type_at w e)
allowed_as r types w e x t b at typed is = is ∙ ap (allows r.program types) (typed ∙ ap exception_type at)

-- what is passed on where the specification does not allow it
abbrev not_allowed : Running → List ObjectType → Installed → Context → Action Flow
not_allowed r types kept c = if some_of is_bad_exception types then throw_new r c (new_bad_exception r c) else terminate_with r kept.terminate_handler c

-- an exception that a specification allows is thrown again
pub passed_again : (r : Running) (types : List ObjectType) (kept : Installed) (f : ℕ) (c : Context) (w v : World) (h : Halt) (a : Bool) → a ≡ allows r.program types (type_at w f) → a ≡ true → Halts (raise_exception {A = Flow} r f c w) h v
    → Halts (pass_on {A = Flow} r types kept f c w) h v
passed_again r types kept f c w v h a is permitted g = subst (λ b. Halts ((if b then raise_exception {A = Flow} r f c else not_allowed r types kept c) w) h v) (sym permitted ∙ is) g

-- else a bad_exception that is listed takes its place
pub passed_bad : (r : Running) (types : List ObjectType) (kept : Installed) (f : ℕ) (c : Context) (w v : World) (h : Halt) (a l : Bool) → a ≡ allows r.program types (type_at w f) → a ≡ false → l ≡ some_of is_bad_exception types → l ≡ true
    → Halts (throw_new {A = Flow} r c (new_bad_exception r c) w) h v → Halts (pass_on {A = Flow} r types kept f c w) h v
passed_bad r types kept f c w v h a l is forbidden listed found g =
    subst (λ b. Halts ((if b then raise_exception {A = Flow} r f c else not_allowed r types kept c) w) h v) (sym forbidden ∙ is)
    (subst (λ b. Halts ((if b then throw_new {A = Flow} r c (new_bad_exception r c) else terminate_with {A = Flow} r kept.terminate_handler c) w) h v) (sym found ∙ listed) g)

-- and else terminate is called
pub passed_ended : (r : Running) (types : List ObjectType) (kept : Installed) (f : ℕ) (c : Context) (w v : World) (h : Halt) (a l : Bool) → a ≡ allows r.program types (type_at w f) → a ≡ false → l ≡ some_of is_bad_exception types → l ≡ false
    → Halts (terminate_with {A = Flow} r kept.terminate_handler c w) h v → Halts (pass_on {A = Flow} r types kept f c w) h v
passed_ended r types kept f c w v h a l is forbidden listed none g =
    subst (λ b. Halts ((if b then raise_exception {A = Flow} r f c else not_allowed r types kept c) w) h v) (sym forbidden ∙ is)
    (subst (λ b. Halts ((if b then throw_new {A = Flow} r c (new_bad_exception r c) else terminate_with {A = Flow} r kept.terminate_handler c) w) h v) (sym none ∙ listed) g)

-- an unexpected exception is entered, its handler is called, and it is left
pub unexpected_left : (r : Running) (types : List ObjectType) (e : ℕ) (c : Context) (w u v : World) (x : Exception) (kept : Installed) (answer : CodeResult CodeFlow Halt) → enter r e c w ≡ done tt u → x ≡ exception_at u e → kept ≡ kept_with x
    → GivesBy flow_of (after_handler r e c (run_unexpected_handler {A = Flow} r types kept kept.unexpected_handler (handling e c) u)) answer v → GivesBy flow_of (unexpected {A = Flow} r types e c w) answer v
unexpected_left r types e c w u v x kept answer begun at k g =
    gives_by_next flow_of (enter r e c w)
    (λ a x. while_handled {A = Flow} r e c (run_unexpected_handler r types (kept_with (exception_at x e)) (kept_with (exception_at x e)).unexpected_handler) x) tt u v answer begun
    (subst (λ i. GivesBy flow_of (after_handler r e c (run_unexpected_handler {A = Flow} r types i i.unexpected_handler (handling e c) u)) answer v) (k ∙ ap kept_with at) g)
