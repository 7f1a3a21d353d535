-- The rows put together: whatever operation a compiled function is at.
use Rattle.std.proofs.Common.{◌≡◌, ◌∙◌, refl, sym, ap, subst, ℕ, ◌<◌, ◌^◌, ◌&&◌, inl, inr, ℤ, Bool, true, false, List, [], ◌∷◌, length, Option, Some, None}
use Rattle.std.specs.Prelude.{slice_get}
use Rattle.cxx_ast.specs.declared.name.Builtin.{Builtin}
use Rattle.cxx_ast.specs.declared.name.Builtin.TheVariants.{WriteInt, ReadByte, Exit, Module, Cancel, Terminate, SetTerminate, SetUnexpected, Uncaught, BadException}
use Rattle.meaning_forms.specs.World.{Installed}
use Rattle.cxa_runtime.specs.World as abi
use Rattle.region_forms.specs.Effect.{is_full, kept}
use Rattle.region_forms.specs.Form.{Place, Callee, defined, builtin, Value, number, load, unary, binary, call_value, Arguments, no_arguments, Op, evaluate, store, bind, call, construct, destroy, make, throw, rethrow, enter, leave}
use Rattle.region_forms.specs.Lives.{is_native, may_enter}
use Rattle.region_forms.specs.World.{Word, nothing, number_word, address_word, flying, unwinding, Exception, building, native, foreign, World, exception_in_slot, exception_at}
use Rattle.linear_forms.specs.Linear.{LinearOp, plain, label, jump, jump_zero, pad, jump_filter, free, resume, unexpected, return}
use Rattle.linear_forms.specs.Stub.{Function, compiled, end_catch, terminating, call_unexpected}
use Rattle.linear_forms.specs.Activation.{Activation, State, Code, Next, goes_to, finishes, by_program, not_defined, fault}
use Rattle.linear_forms.specs.Machine.{step}
use Rattle.linear_forms.specs.Operation.{resumed}
use Rattle.linear_forms.specs.UnitRun.{code_at}
use Rattle.flight_homes.specs.Nest.{is_called_by, CallsNest}
use Rattle.source_bounds.specs.Compiled.{unit_for}
use Rattle.machine_simulation.specs.Plan.{Plan}
use Rattle.machine_exceptions.specs.Enters.{is_crowded}
use Rattle.machine_exceptions.specs.Terminates.{TerminatesAtOnce}
use Rattle.machine_raises.specs.Cancels.{Cancels}
use Rattle.step_law.specs.Facts.{code_for}
use Rattle.step_law.specs.Standing.{IsFounded}
use Rattle.step_law.specs.Passing.{StoppedTerminates, UnexpectedReturns}
use Rattle.step_law.specs.Rows.{Run, IsAt, FollowsIn, QuietStepsFollow, LinesFollow, BytesFollow, CallsFollow, ReturnsFollow, MainsFollow, ExitsFollow, MakesFollow, FreesFollow, EntersFollow, AnswersFollow, AbortsFollow, HandlersAbort}
use Rattle.step_law.specs.Raises.{ResumesFollow}
use Rattle.step_law.specs.Throws.{ThrowsFollow, RethrowsFollow}
use Rattle.step_law.specs.Modules.{ModulesFollow}
use Rattle.step_law.specs.Breaks.{BreaksFollow}
use Rattle.step_law.specs.OwnLeaves.{OwnDestructorsEndFollow}
use Rattle.step_law.specs.Leaves.{destructor_due, LeavesFollow, DestructorsBeginFollow, DestructorsEndFollow}
use Rattle.step_law.specs.Forced.{ForcedFollow, CancelsFollow}
use Rattle.step_law.specs.ForcedEnds.{ForcedEndsFollow}
use Rattle.step_law.specs.Barred.{BarredFollow}
use Rattle.step_law.specs.Filters.{FiltersFollow}
use Rattle.step_law.specs.Terminates.{TerminatesFollow, CrowdsFollow}
use Rattle.step_law.specs.Unexpected.{IsStopped, UnexpectedFollows, UnexpectedBreaks}
use Rattle.builtin_calls.specs.Fits.{Calls, BuiltinFits}
use Rattle.kept_handlers.proofs.Runs.{returns_to_stopped}
use Rattle.step_law.proofs.At.{in_unit, step_acts}
use Rattle.step_law.proofs.Handled.{handles}

-- ---- all rows of compiled functions

pub record Rows : Type 0 where
  pub quiet : QuietStepsFollow
  pub lines : LinesFollow
  pub bytes : BytesFollow
  pub called : CallsFollow
  pub returned : ReturnsFollow
  pub mains : MainsFollow
  pub exits : ExitsFollow
  pub made : MakesFollow
  pub freed : FreesFollow
  pub entered : EntersFollow
  pub crowds : CrowdsFollow
  pub answers : AnswersFollow
  pub aborts : AbortsFollow
  pub terminated : TerminatesFollow
  pub handlers_abort : HandlersAbort
  pub thrown : ThrowsFollow
  pub rethrown : RethrowsFollow
  pub modules : ModulesFollow
  pub left : LeavesFollow
  pub destructors : DestructorsBeginFollow
  pub destructors_end : DestructorsEndFollow
  pub filters : FiltersFollow
  pub resumes : ResumesFollow
  pub forced : ForcedFollow
  pub cancels : CancelsFollow
  pub forced_ends : ForcedEndsFollow
  pub barred : BarredFollow
  pub stopped : UnexpectedFollows
  pub stopped_breaks : UnexpectedBreaks
  pub breaks : BreaksFollow
  pub stopped_ends : StoppedTerminates
  pub handlers_return : UnexpectedReturns
  pub own_destructors_end : OwnDestructorsEndFollow

second_true : (a b : Bool) → (a && b) ≡ true → b ≡ true
second_true true b h = h
second_true false b h = absurd (cc h)

first_true : (a b : Bool) → (a && b) ≡ true → a ≡ true
first_true true b h = refl
first_true false b h = absurd (cc h)

module _ (rows : Rows) (x : Run) (q : Plan) (before n : ℕ) (few : before < 2 ^ 40) (st : State) (w : abi.World)
    (fit : (place : ℕ) (o : LinearOp) → slice_get (code_at (unit_for x.program) n).ops place ≡ Some o → BuiltinFits (length (unit_for x.program).functions) o) where
  abbrev code : Code
  code = code_for x.program

  abbrev Row : LinearOp → Type 0
  Row o = IsAt x q before n o st w → FollowsIn x before st w

  faults : (v : World) → step code st ≡ finishes fault v → FollowsIn x before st w
  faults v is = rows.breaks x before st w fault v is (λ why by. cc by)

  undefined_ends : (v : World) → step code st ≡ finishes not_defined v → FollowsIn x before st w
  undefined_ends v is = rows.breaks x before st w not_defined v is (λ why by. cc by)

  -- a handler is in effect, or none
  by_handler : (h : Option ℕ) → (h ≡ None → FollowsIn x before st w) → ((m : ℕ) → h ≡ Some m → FollowsIn x before st w) → FollowsIn x before st w
  by_handler None none some = none refl
  by_handler (Some m) none some = some m refl

  at_once : (o : LinearOp) → IsAt x q before n o st w → TerminatesAtOnce st.world o → FollowsIn x before st w
  at_once o at h = by st.world.ending refl
    where
      by : (b : Bool) → st.world.ending ≡ b → FollowsIn x before st w
      by true is = rows.aborts x q before n o st w at h (inl is)
      by false is = by_handler st.world.installed.terminate_handler (λ none. rows.aborts x q before n o st w at h (inr none)) (λ m some. rows.terminated x q before n m o st w at h is some)

  -- a forced unwind
  unwinds : (s : ℕ) (z : ℤ) → IsAt x q before n (resume s) st w → st.top.frame.slots s ≡ unwinding z → (y : Next) → step code st ≡ y → FollowsIn x before st w
  unwinds s z at is (goes_to next) goes = by next.top.function refl
    where
      by : (f : Function) → next.top.function ≡ f → FollowsIn x before st w
      by (compiled m) f = rows.forced x q before n s z st next w at is goes (λ ends. let no : compiled m ≡ terminating = sym f ∙ ends in cc no)
      by end_catch f = rows.forced x q before n s z st next w at is goes (λ ends. let no : end_catch ≡ terminating = sym f ∙ ends in cc no)
      by call_unexpected f = rows.forced x q before n s z st next w at is goes (λ ends. let no : call_unexpected ≡ terminating = sym f ∙ ends in cc no)
      by terminating f =
          by_handler st.world.installed.terminate_handler (λ none. rows.forced_ends.resumed_aborts x q before n s z st next w at is goes f none) (λ m some. rows.barred.resumed x q before n s m z st next w at is goes f some)
  unwinds s z at is (finishes (by_program why) v) ends = rows.forced_ends.resumed x q before n s z why st v w at is ends
  unwinds s z at is (finishes not_defined v) ends = undefined_ends v ends
  unwinds s z at is (finishes fault v) ends = faults v ends

  cancelled : (o : LinearOp) (value : Value) → IsAt x q before n o st w → Cancels value o → (y : Next) → step code st ≡ y → FollowsIn x before st w
  cancelled o value at is (goes_to next) goes = by next.top.function refl
    where
      by : (f : Function) → next.top.function ≡ f → FollowsIn x before st w
      by (compiled m) f = rows.cancels x q before n o value st next w at is goes (λ ends. let no : compiled m ≡ terminating = sym f ∙ ends in cc no)
      by end_catch f = rows.cancels x q before n o value st next w at is goes (λ ends. let no : end_catch ≡ terminating = sym f ∙ ends in cc no)
      by call_unexpected f = rows.cancels x q before n o value st next w at is goes (λ ends. let no : call_unexpected ≡ terminating = sym f ∙ ends in cc no)
      by terminating f =
          by_handler st.world.installed.terminate_handler (λ none. rows.forced_ends.cancelled_aborts x q before n o value st next w at is goes f none) (λ m some. rows.barred.cancelled x q before n m o value st next w at is goes f some)
  cancelled o value at is (finishes (by_program why) v) ends = rows.forced_ends.cancelled x q before n o value why st v w at is ends
  cancelled o value at is (finishes not_defined v) ends = undefined_ends v ends
  cancelled o value at is (finishes fault v) ends = faults v ends

  -- a built-in function is called
  at_builtin : (b : Builtin) (o : LinearOp) → IsAt x q before n o st w → Calls (length (unit_for x.program).functions) b o → FollowsIn x before st w
  at_builtin WriteInt o at h = rows.lines x q before n h.0 o st w at h.1
  at_builtin ReadByte o at h = rows.bytes x q before n h.0 o st w at h.1
  at_builtin Exit o at h = rows.exits x q before n h.0 o st w at h.1
  at_builtin Module o at h = rows.modules x q before n o h.0 h.1 h.2 st w at h.3
  at_builtin Cancel o at h = cancelled o h.0 at h.1 (step code st) refl
  at_builtin Terminate o at h = at_once o at (inl h)
  at_builtin SetTerminate o at h = rows.answers.terminate_set x q before n h.0 o st w at h.2
  at_builtin SetUnexpected o at h = rows.answers.unexpected_set x q before n h.0 o st w at h.2
  at_builtin Uncaught o at h = rows.answers.uncaught x q before n h.0 o st w at h.1
  at_builtin BadException o at h = absurd h

  at_make : (s : ℕ) → Row (plain (make s))
  at_make s at = by (is_full st.world) refl
    where
      by : (b : Bool) → is_full st.world ≡ b → FollowsIn x before st w
      by false is = rows.made x q before n s st w at is
      by true is = at_once (plain (make s)) at (inr (inl (s, refl, is)))

  at_enter : (s : ℕ) → Row (plain (enter s))
  at_enter s at = by (is_crowded st.world (exception_in_slot st.top.frame s)) refl
    where
      by : (b : Bool) → is_crowded st.world (exception_in_slot st.top.frame s) ≡ b → FollowsIn x before st w
      by false is = rows.entered x q before n s st w at few is
      by true is = rows.crowds x q before n s st w at few is

  at_leave : Row (plain leave)
  at_leave at = by (destructor_due st.world st.world.caught) refl
    where
      by : (d : Option ℕ) → destructor_due st.world st.world.caught ≡ d → FollowsIn x before st w
      by None is = rows.left x q before n st w at is
      by (Some d) is = rows.destructors x q before n d st w at is

  -- a call, for a place that wants its value or for none
  at_call : (c : Callee) (args : Arguments) → Row (plain (call c args))
  at_call (defined k) args at = rows.called x q before n (plain (call (defined k) args)) (record { number = k; object = None; arguments = args }) st w at refl
  at_call (builtin b) args at = at_builtin b (plain (call (builtin b) args)) at (fit st.top.place (plain (call (builtin b) args)) (in_unit x q before n (plain (call (builtin b) args)) st w at))

  at_value : (v : Value) → Row (plain (evaluate v))
  at_value (call_value (defined k) args) at = rows.called x q before n (plain (evaluate (call_value (defined k) args))) (record { number = k; object = None; arguments = args }) st w at refl
  at_value (call_value (builtin b) args) at =
      at_builtin b (plain (evaluate (call_value (builtin b) args))) at (fit st.top.place (plain (evaluate (call_value (builtin b) args))) (in_unit x q before n (plain (evaluate (call_value (builtin b) args))) st w at))
  at_value (number z) at = rows.quiet x q before n (plain (evaluate (number z))) st w at tt
  at_value (load p) at = rows.quiet x q before n (plain (evaluate (load p))) st w at tt
  at_value (unary o v) at = rows.quiet x q before n (plain (evaluate (unary o v))) st w at tt
  at_value (binary o v u) at = rows.quiet x q before n (plain (evaluate (binary o v u))) st w at tt

  at_store : (p : Place) (v : Value) → Row (plain (store p v))
  at_store p (call_value (defined k) args) at = rows.called x q before n (plain (store p (call_value (defined k) args))) (record { number = k; object = None; arguments = args }) st w at refl
  at_store p (call_value (builtin b) args) at =
      at_builtin b (plain (store p (call_value (builtin b) args))) at (fit st.top.place (plain (store p (call_value (builtin b) args))) (in_unit x q before n (plain (store p (call_value (builtin b) args))) st w at))
  at_store p (number z) at = rows.quiet x q before n (plain (store p (number z))) st w at tt
  at_store p (load a) at = rows.quiet x q before n (plain (store p (load a))) st w at tt
  at_store p (unary o v) at = rows.quiet x q before n (plain (store p (unary o v))) st w at tt
  at_store p (binary o v u) at = rows.quiet x q before n (plain (store p (binary o v u))) st w at tt

  at_plain : (op : Op) → Row (plain op)
  at_plain (evaluate v) = at_value v
  at_plain (store p v) = at_store p v
  at_plain (bind s p) = λ at. rows.quiet x q before n (plain (bind s p)) st w at tt
  at_plain (call c args) = at_call c args
  at_plain (construct p k args) = λ at. rows.called x q before n (plain (construct p k args)) (record { number = k; object = Some p; arguments = args }) st w at refl
  at_plain (destroy p k) = λ at. rows.called x q before n (plain (destroy p k)) (record { number = k; object = Some p; arguments = no_arguments }) st w at refl
  at_plain (make s) = at_make s
  at_plain (throw s t d) = rows.thrown x q before n s t d st w
  at_plain rethrow = rows.rethrown x q before n st w
  at_plain (enter s) = at_enter s
  at_plain leave = at_leave

  -- what is on its way goes on outwards
  at_resume : (s : ℕ) → Row (resume s)
  at_resume s at = by (st.top.frame.slots s) refl
    where
      lost : (word : Word) → st.top.frame.slots s ≡ word → resumed code word st.top st.frames st.world ≡ finishes fault st.world → FollowsIn x before st w
      lost word is none = faults st.world (step_acts x q before n (resume s) st w at ∙ ap (λ y. resumed code y st.top st.frames st.world) is ∙ none)

      by : (word : Word) → st.top.frame.slots s ≡ word → FollowsIn x before st w
      by (flying e d) is = rows.resumes x q before n s e d st w at is
      by (unwinding z) is = unwinds s z at is (step code st) refl
      by nothing is = lost nothing is refl
      by (number_word k) is = lost (number_word k) is refl
      by (address_word a) is = lost (address_word a) is refl

  at_unexpected : (o s : ℕ) → Row (unexpected o s)
  at_unexpected o s at = by (is_native (exception_at st.world e) && may_enter st.world e) refl
    where
      e : ℕ
      e = exception_in_slot st.top.frame o

      kept_handler : (h : Option ℕ) (type : ℕ) (d : Option ℕ) (kept : Installed) → kept.unexpected_handler ≡ h → IsStopped st o type d kept → FollowsIn x before st w
      kept_handler None type d kept none is = rows.stopped_ends x q before n o s type d kept st w at few is none
      kept_handler (Some m) type d kept some is = rows.stopped x q before n o s type m d kept st w at few is some

      kind : (y : Exception) → exception_at st.world e ≡ y → is_native y ≡ true → may_enter st.world e ≡ true → FollowsIn x before st w
      kind building is own may = absurd (cc own)
      kind (native type d kept) is own may = kept_handler kept.unexpected_handler type d kept refl (record { native = is; may = may })
      kind (foreign k token) is own may = absurd (cc own)

      by : (b : Bool) → (is_native (exception_at st.world e) && may_enter st.world e) ≡ b → FollowsIn x before st w
      by false is = rows.stopped_breaks x q before n o s st w at is
      by true is = kind (exception_at st.world e) refl (first_true (is_native (exception_at st.world e)) (may_enter st.world e) is) (second_true (is_native (exception_at st.world e)) (may_enter st.world e) is)

  at_return : (r : Option ℕ) → Row (return r)
  at_return r at = by st.frames refl
    where
      -- a destructor that end_catch called
      caught : (waiting : Activation) (fs : List Activation) → st.frames ≡ waiting ∷ fs → waiting.function ≡ end_catch → FollowsIn x before st w
      caught waiting [] is own =
          let founded = subst (IsFounded st.top.function) is at.stands.founded in
          let no : compiled founded.0 ≡ end_catch = sym founded.1 ∙ own in
          absurd (cc no)
      caught waiting (a ∷ fs) is own = by_caller a.function refl (subst (λ gs. CallsNest (st.top ∷ gs)) is at.stands.stands.stand.nest).1.0
        where
          by_caller : (f : Function) → a.function ≡ f → is_called_by waiting.function a.function ≡ true → FollowsIn x before st w
          by_caller (compiled m) f nest = rows.destructors_end x q before n m r waiting a fs st w at is own f
          by_caller call_unexpected f nest = rows.own_destructors_end x q before n r waiting a fs st w at is own f
          by_caller end_catch f nest = let no : false ≡ true = sym (ap (λ g. is_called_by g end_catch) own) ∙ (ap (is_called_by waiting.function) (sym f) ∙ nest) in absurd (cc no)
          by_caller terminating f nest = let no : false ≡ true = sym (ap (λ g. is_called_by g terminating) own) ∙ (ap (is_called_by waiting.function) (sym f) ∙ nest) in absurd (cc no)

      -- an unexpected handler
      handled : (waiting : Activation) (fs : List Activation) → st.frames ≡ waiting ∷ fs → waiting.function ≡ call_unexpected → IsFounded st.top.function (waiting ∷ fs) → FollowsIn x before st w
      handled waiting [] is own founded =
          let no : compiled founded.0 ≡ call_unexpected = sym founded.1 ∙ own in
          absurd (cc no)
      handled waiting (a ∷ fs) is own founded =
          let there = returns_to_stopped at.stands.handlers.depths st n waiting (a ∷ fs) at.stands.handlers.state at.runs is own in
          let stays = handles waiting there.1 st.world there.2 in
          rows.handlers_return x q before n stays.type r stays.destructor stays.kept waiting a fs st w at (record { frames = is; stub = own; place = there.0; native = stays.native })

      by : (fs : List Activation) → st.frames ≡ fs → FollowsIn x before st w
      by [] is = rows.mains x q before n r st w at is
      by (a ∷ fs) is = by_caller a.function refl
        where
          by_caller : (f : Function) → a.function ≡ f → FollowsIn x before st w
          by_caller (compiled m) f = rows.returned x q before n r a fs m st w at is f
          by_caller end_catch f = caught a fs is f
          by_caller terminating f = rows.handlers_abort x q before n r a fs st w at is f
          by_caller call_unexpected f = handled a fs is f (subst (IsFounded st.top.function) is at.stands.founded)

  -- whatever it is at
  pub at_any : (o : LinearOp) → Row o
  at_any (plain op) = at_plain op
  at_any (label l) = λ at. rows.quiet x q before n (label l) st w at tt
  at_any (jump l) = λ at. rows.quiet x q before n (jump l) st w at tt
  at_any (jump_zero v l) = λ at. rows.quiet x q before n (jump_zero v l) st w at tt
  at_any (pad o s) = λ at. faults st.world (step_acts x q before n (pad o s) st w at)
  at_any (jump_filter s f l) = rows.filters x q before n s l f st w
  at_any (free s) = rows.freed x q before n s st w
  at_any (resume s) = at_resume s
  at_any (unexpected o s) = at_unexpected o s
  at_any (return r) = at_return r
