-- Statements one after the other.
use Rattle.std.proofs.Common.{◌≡◌, ◌∙◌, ℤ, false, refl, ap, sym, Option, Some, None}
use Rattle.cxx_ast.specs.Plain.{Expression, Statement, block, empty, if_else, while, return, break, continue, throw, try, assign, evaluate, local_int, local_ref, local_object, Statements, statement_then}
use Rattle.meaning_forms.specs.World.{World}
use Rattle.meaning_forms.specs.Context.{Context}
use Rattle.meaning_forms.specs.Outcome.{Action, Result, done, stopped, Flow, normal, returns, pure, continued, write}
use Rattle.meaning_forms.specs.Running.{Running}
use Rattle.meaning_forms.specs.Frame.{Frame, lvalue}
use Rattle.meaning_forms.specs.Expression.{value_of}
use Rattle.meaning_forms.specs.Statement.{followed, statement, statements, returning, throwing}
use Rattle.scope_world.specs.declared.outcome.Halt.{Halt}
use Rattle.scope_world.specs.declared.outcome.Flow.{Flow as CodeFlow}
use Rattle.scope_world.specs.declared.outcome.Flow.TheVariants as flows
use Rattle.scope_world.specs.Gives.{Halts, flow_of}
use Rattle.scope_meaning.specs.Steps.{declares, plainly}
use Rattle.scope_flow.proofs.Passing.{halts_continued}
use Rattle.scope_meaning.proofs.Stopped.{nothing_follows, throwing_stops}

-- what a computation is followed by, where its answer is always to return
returned : (m : Result ℤ) (rest : Action Flow) → continued m (λ v. pure (returns (Some v))) ≡ continued (continued m (λ v. pure (returns (Some v)))) (followed rest)
returned (done v w) rest = refl
returned (stopped s w) rest = refl

returning_followed : (r : Running) (f : Frame) (e : Option Expression) (c : Context) (w : World) (rest : Action Flow) → returning r f e c w ≡ continued (returning r f e c w) (followed rest)
returning_followed r f None c w rest = refl
returning_followed r f (Some e) c w rest = returned (value_of r f e c w) rest

-- two steps and then the rest
in_two : {A : Type 0} (m : Result A) (next : A → Action (Unit {0})) (rest : Action Flow)
    → continued m (λ v w. continued (next v w) (λ a. rest)) ≡ continued (continued m (λ v w. continued (next v w) (λ a. pure normal))) (followed rest)
in_two (done v w) next rest = within (next v w) rest
  where
    within : (m : Result (Unit {0})) (rest : Action Flow) → continued m (λ a. rest) ≡ continued (continued m (λ a. pure normal)) (followed rest)
    within (done v w) rest = refl
    within (stopped s w) rest = refl
in_two (stopped s w) next rest = refl

evaluated : (m : Result ℤ) (rest : Action Flow) → continued m (λ v. rest) ≡ continued (continued m (λ v. pure normal)) (followed rest)
evaluated (done v w) rest = refl
evaluated (stopped s w) rest = refl

-- a statement that declares nothing, then the rest of its block
pub plain_then : (r : Running) (s : Statement) (rest : Frame → Action Flow) (f : Frame) (c : Context) (w : World) → declares s ≡ false → statement r s rest f c w ≡ continued (plainly r s f c w) (followed (rest f))
plain_then r (block ss) rest f c w e = refl
plain_then r empty rest f c w e = refl
plain_then r (if_else t s u) rest f c w e = refl
plain_then r (while t s) rest f c w e = refl
plain_then r (return place t) rest f c w e = returning_followed r f t c w (rest f)
plain_then r (break place) rest f c w e = refl
plain_then r (continue place) rest f c w e = refl
plain_then r (throw place t) rest f c w e = sym (nothing_follows (throwing r f t c w) (followed (rest f)) (throwing_stops r f t c w))
plain_then r (try ss hs) rest f c w e = refl
plain_then r (assign names t) rest f c w e = in_two (value_of r f t c w) (λ v u. write (lvalue r.program u f names) v u) (rest f)
plain_then r (evaluate t) rest f c w e = evaluated (value_of r f t c w) (rest f)
plain_then r (local_int n t) rest f c w e = absurd (cc e)
plain_then r (local_ref x names) rest f c w e = absurd (cc e)
plain_then r (local_object k n es) rest f c w e = absurd (cc e)

-- a first statement that is done in the normal way leaves the others
pub stepped : (r : Running) (s : Statement) (ss : Statements) (f : Frame) (c : Context) (w w' : World) → declares s ≡ false → plainly r s f c w ≡ done normal w' → statements r (statement_then s ss) f c w ≡ statements r ss f c w'
stepped r s ss f c w w' d e = plain_then r s (λ g. statements r ss g c) f c w d ∙ ap (λ m. continued m (followed (statements r ss f c))) e

others_left : (rest : Action Flow) (flow : CodeFlow) (w : World) → (flow ≡ flows.Normal → ⊥) → followed rest (flow_of flow) w ≡ done (flow_of flow) w
others_left rest flows.Normal w other = absurd (other refl)
others_left rest flows.Breaks w other = refl
others_left rest flows.Continues w other = refl
others_left rest (flows.Returns v) w other = refl

-- one that is left in another way leaves them all
pub left_by : (r : Running) (s : Statement) (ss : Statements) (f : Frame) (c : Context) (w w' : World) (flow : CodeFlow) → declares s ≡ false → (flow ≡ flows.Normal → ⊥) → plainly r s f c w ≡ done (flow_of flow) w'
    → statements r (statement_then s ss) f c w ≡ done (flow_of flow) w'
left_by r s ss f c w w' flow d other e =
    plain_then r s (λ g. statements r ss g c) f c w d ∙ ap (λ m. continued m (followed (statements r ss f c))) e ∙ others_left (statements r ss f c) flow w' other

-- and one that is stopped stops them all
pub halted : (r : Running) (s : Statement) (ss : Statements) (f : Frame) (c : Context) (w w' : World) (h : Halt) → declares s ≡ false → Halts (plainly r s f c w) h w' → Halts (statements r (statement_then s ss) f c w) h w'
halted r s ss f c w w' h d g = rw (plain_then r s (λ g. statements r ss g c) f c w d) (halts_continued (plainly r s f c w) (followed (statements r ss f c)) h w' g)
