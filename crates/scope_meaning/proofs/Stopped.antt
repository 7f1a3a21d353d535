-- Throwing is never done: it is always stopped.
use Rattle.std.proofs.Common.{◌≡◌, ℕ, ◌+◌, Bool, true, false, List, [], ◌∷◌, Option, Some, None, refl}
use Rattle.std.specs.Prelude.{if◌then◌else◌}
use Rattle.cxx_ast.specs.Plain.{Expression}
use Rattle.meaning_forms.specs.Class.{contains}
use Rattle.meaning_forms.specs.World.{World, Exception, building, native, foreign, exception_at, type_at, nowhere}
use Rattle.meaning_forms.specs.Context.{Context, barrier, guarded_by, handling}
use Rattle.meaning_forms.specs.Outcome.{Action, Flow, Result, done, stopped, thrown, cancelled, ended, undefined, out_of_turns, deep, aborted, stop, continued}
use Rattle.meaning_forms.specs.Guard.{is_doomed}
use Rattle.meaning_forms.specs.Running.{Running, function}
use Rattle.meaning_forms.specs.Terminate.{terminate, terminate_with, run_terminate_handler, after_terminate_handler, enter_and_terminate, terminate_because}
use Rattle.meaning_forms.specs.Throw.{raise_exception, throw_new, rethrow_newest, after_building, is_full, keep}
use Rattle.meaning_forms.specs.Frame.{Frame}
use Rattle.meaning_forms.specs.Statement.{throwing, operand_thrown}
use Rattle.scope_flow.proofs.Raising.{thrown_anew}

-- a computation is stopped
abbrev pub IsStopped : {A : Type 0} → Result A → Type 0
IsStopped (done a w) = ⊥
IsStopped (stopped s w) = Unit {0}

-- nothing follows what is stopped
pub nothing_follows : {A : Type 0} (m : Result A) (next : A → Action A) → IsStopped m → continued m next ≡ m
nothing_follows (done a w) next h = absurd h
nothing_follows (stopped s w) next h = refl

stops_next : {A B : Type 0} (m : Result A) (next : A → Action B) → ((a : A) (w : World) → IsStopped (next a w)) → IsStopped (continued m next)
stops_next (done a w) next h = h a w
stops_next (stopped s w) next h = tt

stops_if : {A : Type 0} (b : Bool) (x y : Action A) (w : World) → IsStopped (x w) → IsStopped (y w) → IsStopped ((if b then x else y) w)
stops_if true x y w h k = h
stops_if false x y w h k = k

handled_stops : {A : Type 0} (B : Type 0) (m : Result A) → IsStopped (after_terminate_handler {B = B} m)
handled_stops B (done a w) = tt
handled_stops B (stopped (thrown e) w) = tt
handled_stops B (stopped (cancelled n) w) = tt
handled_stops B (stopped (ended e) w) = tt
handled_stops B (stopped undefined w) = tt
handled_stops B (stopped out_of_turns w) = tt
handled_stops B (stopped deep w) = tt

run_stops : (A : Type 0) (r : Running) (o : Option ℕ) (c : Context) (w : World) → IsStopped (run_terminate_handler {A = A} r o c w)
run_stops A r None c w = tt
run_stops A r (Some h) c w = handled_stops A (r.call (function h) nowhere [] (guarded_by barrier (record c { ending = true })) w)

with_stops : (A : Type 0) (r : Running) (o : Option ℕ) (c : Context) (w : World) → IsStopped (terminate_with {A = A} r o c w)
with_stops A r o c w = stops_if c.ending (stop (ended aborted)) (run_terminate_handler {A = A} r o c) w tt (run_stops A r o c w)

pub terminate_stops : (A : Type 0) (r : Running) (c : Context) (w : World) → IsStopped (terminate {A = A} r c w)
terminate_stops A r c w = with_stops A r w.installed.terminate_handler c w

entered_stops : (A : Type 0) (r : Running) (e : ℕ) (x : Exception) (c : Context) (w : World) → IsStopped (enter_and_terminate {A = A} r e x c w)
entered_stops A r e (native t o kept) c w = with_stops A r kept.terminate_handler (handling e c) _
entered_stops A r e building c w = terminate_stops A r c w
entered_stops A r e (foreign k t) c w = terminate_stops A r c w

because_stops : (A : Type 0) (r : Running) (e : ℕ) (c : Context) (w : World) → IsStopped (terminate_because {A = A} r e c w)
because_stops A r e c w = stops_if c.ending (stop (ended aborted)) (enter_and_terminate {A = A} r e (exception_at w e) c) w tt (entered_stops A r e (exception_at w e) c w)

raise_stops : (A : Type 0) (r : Running) (e : ℕ) (c : Context) (w : World) → IsStopped (raise_exception {A = A} r e c w)
raise_stops A r e c w = stops_if (is_doomed r.program c.guards (type_at w e)) (terminate_because {A = A} r e c) (stop (thrown e)) w (because_stops A r e c w) tt

rethrow_stops : (A : Type 0) (r : Running) (es : List ℕ) (c : Context) (w : World) → IsStopped (rethrow_newest {A = A} r es c w)
rethrow_stops A r [] c w = terminate_stops A r c w
rethrow_stops A r (e ∷ es) c w = stops_if (contains c.travelling e) (terminate {A = A} r c) (raise_exception {A = A} r e c) w (terminate_stops A r c w) (raise_stops A r e c w)

made_stops : (A : Type 0) (r : Running) (e : ℕ) (c : Context) (m : Result ℕ) → IsStopped (continued (after_building e m) (λ o w. continued (keep e o w) (λ a. raise_exception {A = A} r e c)))
made_stops A r e c m = stops_next (after_building e m) (λ o w. continued (keep e o w) (λ a. raise_exception {A = A} r e c)) (λ o w. raise_stops A r e c _)

new_stops : (A : Type 0) (r : Running) (c : Context) (build : Action ℕ) (w : World) → IsStopped (throw_new {A = A} r c build w)
new_stops A r c build w = stops_if (is_full w) (terminate {A = A} r c) (thrown_anew {A = A} r c build) w (terminate_stops A r c w) (made_stops A r (w.last_number + 1) c (build _))

pub throwing_stops : (r : Running) (f : Frame) (e : Option Expression) (c : Context) (w : World) → IsStopped (throwing r f e c w)
throwing_stops r f None c w = rethrow_stops Flow r c.handled c w
throwing_stops r f (Some e) c w = new_stops Flow r c (operand_thrown r f e c) w
