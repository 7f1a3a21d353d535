-- Leaving a scope, from how it is left and what the leaving gives.
use Rattle.std.proofs.Common.{◌≡◌, ◌∙◌, ℕ, ℤ, Bool, true, false, refl, ap, Ok, Err, Result as CodeResult}
use Rattle.meaning_forms.specs.World.{World}
use Rattle.meaning_forms.specs.Context.{Context, with_travelling}
use Rattle.meaning_forms.specs.Outcome.{Action, Result, done, stopped, Stop, thrown, cancelled, ended, exit, aborted, undefined, out_of_turns, deep, stop, pure, continued}
use Rattle.meaning_forms.specs.Running.{Running}
use Rattle.meaning_forms.specs.Terminate.{terminate, after_barrier, behind_barrier}
use Rattle.meaning_forms.specs.Scope.{unwound, after_scope, after_part}
use Rattle.scope_world.specs.declared.outcome.Halt.{Halt}
use Rattle.scope_world.specs.declared.outcome.Halt.TheVariants.{Thrown, Cancelled, Exited, Aborted, Undefined, OutOfTurns, Deep, NoMemory}
use Rattle.scope_world.specs.Gives.{Gives, Halts, unwinds}
use Rattle.scope_flow.specs.Steps.{left_as}
use Rattle.scope_flow.proofs.Passing.{halts_continued}

-- a forced unwind
abbrev pub cancels : Halt → Bool
cancels (Cancelled n) = true
cancels _ = false

-- an exception
abbrev pub throws : Halt → Bool
throws (Thrown e) = true
throws _ = false

-- what is done after a scope, or after a part, where that is stopped
abbrev pub Unwinds : {A : Type 0} → Running → Context → (Context → Action (Unit {0})) → (Result A → Result A) → Type 0
Unwinds r c leaving after = (s : Stop) (w : World) → after (stopped s w) ≡ unwound r c leaving s w

pub scope_unwinds : (A : Type 0) (r : Running) (c : Context) (leaving : Context → Action (Unit {0})) → Unwinds {A = A} r c leaving (after_scope r c leaving)
scope_unwinds A r c leaving s w = refl

pub part_unwinds : (A : Type 0) (r : Running) (c : Context) (leaving : Context → Action (Unit {0})) → Unwinds {A = A} r c leaving (after_part r c leaving)
part_unwinds A r c leaving s w = refl

-- what ends the program leaves nothing
pub stays : {A : Type 0} (r : Running) (c : Context) (leaving : Context → Action (Unit {0})) (after : Result A → Result A) → Unwinds r c leaving after
    → (m : Result A) (h : Halt) (w : World) → unwinds h ≡ false → Halts m h w → Halts (after m) h w
stays r c leaving after k m (Thrown e) w u g = absurd (cc u)
stays r c leaving after k m (Cancelled n) w u g = absurd (cc u)
stays r c leaving after k m (Exited n) w u g = ap after g ∙ k (ended (exit n)) w
stays r c leaving after k m Aborted w u g = ap after g ∙ k (ended aborted) w
stays r c leaving after k m Undefined w u g = ap after g ∙ k undefined w
stays r c leaving after k m OutOfTurns w u g = ap after g ∙ k out_of_turns w
stays r c leaving after k m Deep w u g = ap after g ∙ k deep w
stays r c leaving after k m NoMemory w u g = tt

-- a leaving behind a barrier, and then the stop
then_stop : (A : Type 0) (m : Result (Unit {0})) (s : Stop) (h : Halt) (v : World) (left : CodeResult (Unit {0}) Halt) → ((w : World) → Halts {A = A} (stopped s w) h w) → Gives m left v
    → Halts {A = A} (continued m (λ a. stop s)) (left_as left h) v
then_stop A m s h v (Ok a) is g = rw g (is v)
then_stop A m s h v (Err other) is g = halts_continued m (λ a. stop s) other v g

-- an exception leaves what was built while it travels
pub left_thrown : {A : Type 0} (r : Running) (c : Context) (leaving : Context → Action (Unit {0})) (after : Result A → Result A) → Unwinds r c leaving after
    → (m : Result A) (n : ℕ) (w v : World) (left : CodeResult (Unit {0}) Halt) → m ≡ stopped (thrown n) w → Gives (behind_barrier r (with_travelling n c) leaving w) left v → Halts (after m) (left_as left (Thrown n)) v
left_thrown {A} r c leaving after k m n w v left e g =
    rw (e, k (thrown n) w) (then_stop A (behind_barrier r (with_travelling n c) leaving w) (thrown n) (Thrown n) v left (λ x. refl) g)

-- and so does a forced unwind
pub left_cancelled : {A : Type 0} (r : Running) (c : Context) (leaving : Context → Action (Unit {0})) (after : Result A → Result A) → Unwinds r c leaving after
    → (m : Result A) (n : ℤ) (w v : World) (left : CodeResult (Unit {0}) Halt) → m ≡ stopped (cancelled n) w → Gives (behind_barrier r c leaving w) left v → Halts (after m) (left_as left (Cancelled n)) v
left_cancelled {A} r c leaving after k m n w v left e g =
    rw (e, k (cancelled n) w) (then_stop A (behind_barrier r c leaving w) (cancelled n) (Cancelled n) v left (λ x. refl) g)

-- a normal exit, and the leaving
pub scope_done : {A : Type 0} (r : Running) (c : Context) (leaving : Context → Action (Unit {0})) (m : Result A) (a : A) (w v : World) → m ≡ done a w → leaving c w ≡ done tt v → after_scope r c leaving m ≡ done a v
scope_done r c leaving m a w v e g = ap (after_scope r c leaving) e ∙ ap (λ x. continued x (λ u. pure a)) g

pub scope_halted : {A : Type 0} (r : Running) (c : Context) (leaving : Context → Action (Unit {0})) (m : Result A) (a : A) (w v : World) (h : Halt) → m ≡ done a w → Halts (leaving c w) h v → Halts (after_scope r c leaving m) h v
scope_halted r c leaving m a w v h e g = rw e (halts_continued (leaving c w) (λ u. pure a) h v g)

-- what is no forced unwind passes a barrier
pub barrier_passed : {A : Type 0} (r : Running) (c : Context) (m : Result A) (h : Halt) (w : World) → cancels h ≡ false → Halts m h w → Halts (after_barrier r c m) h w
barrier_passed r c m (Thrown e) w u g = ap (after_barrier r c) g
barrier_passed r c m (Cancelled n) w u g = absurd (cc u)
barrier_passed r c m (Exited n) w u g = ap (after_barrier r c) g
barrier_passed r c m Aborted w u g = ap (after_barrier r c) g
barrier_passed r c m Undefined w u g = ap (after_barrier r c) g
barrier_passed r c m OutOfTurns w u g = ap (after_barrier r c) g
barrier_passed r c m Deep w u g = ap (after_barrier r c) g
barrier_passed r c m NoMemory w u g = tt

-- a forced unwind does not
pub barrier_reached : {A : Type 0} (r : Running) (c : Context) (m : Result A) (n : ℤ) (w v : World) (h : Halt) → m ≡ stopped (cancelled n) w → Halts (terminate {A = A} r c w) h v → Halts (after_barrier r c m) h v
barrier_reached r c m n w v h e g = rw e g
