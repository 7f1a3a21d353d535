-- No jump comes out of a function's body.
use Rattle.std.proofs.Common.{ℕ, zero, suc, ◌+◌, ℤ, Bool, true, false, List, [], ◌∷◌, Option, Some, None}
use Rattle.std.specs.Prelude.{map, if◌then◌else◌}
use Rattle.cxx_ast.specs.declared.name.Name.{Name}
use Rattle.cxx_ast.specs.declared.types.Ty.{Ty}
use Rattle.cxx_ast.specs.Plain.{Expression, Statement, block, empty, if_else, while, return, break, continue, throw, try, assign, evaluate, local_int, local_ref, local_object, Else, no_else, else_do, Statements, no_statements, statement_then, Handlers, no_handlers, handler_then, Specification, listed, noexcept}
use Rattle.meaning_forms.specs.Arithmetic.{is_zero}
use Rattle.meaning_forms.specs.Call.{statements_in, body_of}
use Rattle.meaning_forms.specs.Class.{ObjectType, object_type, class_type, class_named, contains, some_of}
use Rattle.meaning_forms.specs.Construct.{destroy}
use Rattle.meaning_forms.specs.Context.{Context, with_travelling, handling, guarded_by, try_block, catch_all, specification}
use Rattle.meaning_forms.specs.Expression.{value_of, construct}
use Rattle.meaning_forms.specs.Frame.{Frame, with_variable, with_parameter}
use Rattle.meaning_forms.specs.Guard.{is_doomed, matches, allows}
use Rattle.meaning_forms.specs.Handler.{clause_of, clauses_of, enter, let_go, goes_on, while_handled, catch_parameter, destroy_parameter, exception_object, handle}
use Rattle.meaning_forms.specs.Outcome.{Action, Result, done, stopped, thrown, cancelled, ended, undefined, out_of_turns, deep, Flow, normal, breaks, continues, returns, pure, stop, continued, ◌>>=◌}
use Rattle.meaning_forms.specs.Running.{Running, function}
use Rattle.meaning_forms.specs.Scope.{after_scope, scope}
use Rattle.meaning_forms.specs.Specification.{kept_with, is_bad_exception, new_bad_exception, pass_on, after_unexpected, run_unexpected_handler, unexpected, after_extent, under_specification, end_noexcept}
use Rattle.meaning_forms.specs.Statement.{spend_turn, followed, ◌then◌, looped, loop, throwing, operand_thrown, returning, local_cell, after_try, statement, otherwise, statements, caught}
use Rattle.meaning_forms.specs.Terminate.{after_terminate_handler, run_terminate_handler, terminate_with, terminate, enter_and_terminate, terminate_because, behind_barrier}
use Rattle.meaning_forms.specs.Throw.{raise_exception, is_full, after_building, throw_new, rethrow_newest, rethrow}
use Rattle.meaning_forms.specs.World.{World, whole, nowhere, Installed, Exception, building, native, foreign, exception_at, type_at}
use Rattle.region_statements.specs.Main.{NotJumped}
use Rattle.region_statements.specs.Jumps.{HasNoJump, ElseHasNoJump, HaveNoJump, HandlersHaveNoJump, JumpsStayInLoops}

-- never, in any world
abbrev Never : Action Flow → Type 0
Never act = (w : World) → NotJumped (act w)

-- what follows decides
behind : {A : Type 0} (x : Result A) (f : A → Action Flow) → ((a : A) → Never (f a)) → NotJumped (continued x f)
behind (done a w) f so = so a w
behind (stopped x w) f so = tt

first_then : (x : Result Flow) (next : Action Flow) → NotJumped x → Never next → NotJumped (continued x (followed next))
first_then (done normal w) next h so = so w
first_then (done breaks w) next h so = absurd h
first_then (done continues w) next h so = absurd h
first_then (done (returns v) w) next h so = tt
first_then (stopped x w) next h so = tt

either : (z : Bool) (a b : Action Flow) → Never a → Never b → Never (if z then a else b)
either true a b ha hb = ha
either false a b ha hb = hb

answer_stays : (a : Flow) (w u : World) → NotJumped (done a w) → NotJumped (done a u)
answer_stays normal w u h = tt
answer_stays breaks w u h = h
answer_stays continues w u h = h
answer_stays (returns v) w u h = tt

scope_stays : (r : Running) (c : Context) (destruction : Context → Action (Unit {0})) (x : Result Flow) → NotJumped x → NotJumped (after_scope r c destruction x)
scope_stays r c destruction (done a w) h = behind (destruction c w) (λ u. pure a) (λ u w2. answer_stays a w w2 h)
scope_stays r c destruction (stopped (thrown e) w) h = behind (behind_barrier r (with_travelling e c) destruction w) (λ u. stop (thrown e)) (λ u w2. tt)
scope_stays r c destruction (stopped (cancelled n) w) h = behind (behind_barrier r c destruction w) (λ u. stop (cancelled n)) (λ u w2. tt)
scope_stays r c destruction (stopped (ended x) w) h = tt
scope_stays r c destruction (stopped undefined w) h = tt
scope_stays r c destruction (stopped out_of_turns w) h = tt
scope_stays r c destruction (stopped deep w) h = tt

module _ (r : Running) where
  -- terminate never comes back
  handler_stays : (x : Result ℤ) → NotJumped (after_terminate_handler x)
  handler_stays (done a w) = tt
  handler_stays (stopped (thrown e) w) = tt
  handler_stays (stopped (cancelled n) w) = tt
  handler_stays (stopped (ended x) w) = tt
  handler_stays (stopped undefined w) = tt
  handler_stays (stopped out_of_turns w) = tt
  handler_stays (stopped deep w) = tt

  terminate_with_stays : (o : Option ℕ) (c : Context) → Never (terminate_with r o c)
  terminate_with_stays o c = either c.ending (stop _) (run_terminate_handler r o c) (λ w. tt) (go o)
    where
      go : (o : Option ℕ) → Never (run_terminate_handler r o c)
      go None w = tt
      go (Some h) w = handler_stays _

  terminate_stays : (c : Context) → Never (terminate r c)
  terminate_stays c w = terminate_with_stays w.installed.terminate_handler c w

  because_stays : (e : ℕ) (c : Context) → Never (terminate_because r e c)
  because_stays e c w = either c.ending (stop _) (enter_and_terminate r e (exception_at w e) c) (λ u. tt) (go (exception_at w e)) w
    where
      go : (x : Exception) → Never (enter_and_terminate r e x c)
      go (native t o kept) u = terminate_with_stays kept.terminate_handler _ _
      go building u = terminate_stays c u
      go (foreign k t) u = terminate_stays c u

  -- nor does what raises an exception
  raise_stays : (e : ℕ) (c : Context) → Never (raise_exception r e c)
  raise_stays e c w = either (is_doomed r.program c.guards (type_at w e)) (terminate_because r e c) (stop (thrown e)) (because_stays e c) (λ u. tt) w

  throw_stays : (c : Context) (build : Action ℕ) → Never (throw_new r c build)
  throw_stays c build w =
      either (is_full w) (terminate r c) _ (terminate_stays c) (λ u. behind (after_building (u.last_number + 1) (build _)) _ (λ o u2. raise_stays (u.last_number + 1) c _)) w

  rethrow_stays : (c : Context) → Never (rethrow r c)
  rethrow_stays c = go c.handled
    where
      go : (es : List ℕ) → Never (rethrow_newest r es c)
      go [] = terminate_stays c
      go (e ∷ es) = either (contains c.travelling e) (terminate r c) (raise_exception r e c) (terminate_stays c) (raise_stays e c)

  throwing_stays : (v : Frame) (e : Option Expression) (c : Context) → Never (throwing r v e c)
  throwing_stays v None c = rethrow_stays c
  throwing_stays v (Some e) c = throw_stays c (operand_thrown r v e c)

  -- what is done while an exception is handled, and an unexpected handler
  handled_stays : (e : ℕ) (c : Context) (act : Context → Action Flow) → Never (act (handling e c)) → Never (while_handled r e c act)
  handled_stays e c act h w = scope_stays r c (let_go r e (goes_on e c (act (handling e c) w))) (act (handling e c) w) (h w)

  pass_stays : (types : List ObjectType) (kept : Installed) (f : ℕ) (c : Context) → Never (pass_on r types kept f c)
  pass_stays types kept f c w =
      either (allows r.program types (type_at w f)) (raise_exception r f c) _ (raise_stays f c)
      (either (some_of is_bad_exception types) (throw_new r c (new_bad_exception r c)) (terminate_with r kept.terminate_handler c) (throw_stays c (new_bad_exception r c))
      (terminate_with_stays kept.terminate_handler c)) w

  unexpected_stays : (types : List ObjectType) (e : ℕ) (c : Context) → Never (unexpected r types e c)
  unexpected_stays types e c w =
      behind (enter r e c w) _ (λ x u. handled_stays e c (run_unexpected_handler r types (kept_with (exception_at u e)) (kept_with (exception_at u e)).unexpected_handler)
      (go (kept_with (exception_at u e)) (handling e c) (kept_with (exception_at u e)).unexpected_handler) u)
    where
      after : (kept : Installed) (d : Context) (x : Result ℤ) → NotJumped (after_unexpected r types kept d x)
      after kept d (done v u) = terminate_with_stays kept.terminate_handler d u
      after kept d (stopped (thrown f) u) = behind (enter r f d u) (λ x. while_handled r f d (pass_on r types kept f)) (λ x. handled_stays f d (pass_on r types kept f) (pass_stays types kept f (handling f d)))
      after kept d (stopped (cancelled n) u) = tt
      after kept d (stopped (ended x) u) = tt
      after kept d (stopped undefined u) = tt
      after kept d (stopped out_of_turns u) = tt
      after kept d (stopped deep u) = tt

      go : (kept : Installed) (d : Context) (o : Option ℕ) → Never (run_unexpected_handler r types kept o d)
      go kept d None = terminate_with_stays kept.terminate_handler d
      go kept d (Some h) = λ u. after kept d (r.call (function h) nowhere [] (guarded_by (try_block (catch_all ∷ [])) d) u)

  extent_stays : (types : List ObjectType) (c : Context) (x : Result Flow) → NotJumped x → NotJumped (after_extent r types c x)
  extent_stays types c (done a w) h = h
  extent_stays types c (stopped (thrown e) w) h = either (allows r.program types (type_at w e)) (stop (thrown e)) (unexpected r types e c) (λ u. tt) (unexpected_stays types e c) w
  extent_stays types c (stopped (cancelled n) w) h = tt
  extent_stays types c (stopped (ended x) w) h = tt
  extent_stays types c (stopped undefined w) h = tt
  extent_stays types c (stopped out_of_turns w) h = tt
  extent_stays types c (stopped deep w) h = tt

  -- nor does the end of what is `noexcept`
  noexcept_stays : (c : Context) (e : ℕ) → Never (end_noexcept r c e)
  noexcept_stays c e w = behind (enter r e c w) (λ u. terminate r (handling e c)) (λ u. terminate_stays (handling e c))

  -- a loop takes its jumps
  turn_stays : (x : Result Flow) (again : Action Flow) → Never again → NotJumped (continued x (looped again))
  turn_stays (done normal w) again so = so w
  turn_stays (done continues w) again so = so w
  turn_stays (done breaks w) again so = tt
  turn_stays (done (returns v) w) again so = tt
  turn_stays (stopped x w) again so = tt

  loop_stays : (m : ℕ) (test : Action ℤ) (body : Action Flow) → Never (loop m test body)
  loop_stays zero test body w = tt
  loop_stays (suc m) test body w =
      go (loop m test body) (loop_stays m test body)
    where
      go : (again : Action Flow) → Never again → NotJumped (continued (spend_turn w) (λ u. test >>= (λ v. if is_zero v then pure normal else (body >>= looped again))))
      go again so =
          behind (spend_turn w) _ (λ u w2. behind (test w2) _ (λ v. either (is_zero v) (pure normal) (body >>= looped again) (λ w3. tt) (λ w3. turn_stays (body w3) again so)))

  returning_stays : (v : Frame) (e : Option Expression) (c : Context) → Never (returning r v e c)
  returning_stays v None c w = tt
  returning_stays v (Some e) c w = behind (value_of r v e c w) _ (λ x u. tt)

  try_stays : (caught : ℕ → Action Flow) → ((e : ℕ) → Never (caught e)) → (x : Result Flow) → NotJumped x → NotJumped (after_try caught x)
  try_stays caught so (done a w) h = h
  try_stays caught so (stopped (thrown e) w) h = so e w
  try_stays caught so (stopped (cancelled n) w) h = tt
  try_stays caught so (stopped (ended x) w) h = tt
  try_stays caught so (stopped undefined w) h = tt
  try_stays caught so (stopped out_of_turns w) h = tt
  try_stays caught so (stopped deep w) h = tt

  handle_stays : (t : Option Ty) (n : Option Name) (v : Frame) (c : Context) (e : ℕ) (body : Frame → Context → Action Flow) → ((g : Frame) (d : Context) → Never (body g d))
      → Never (handle r e t n body v c)
  handle_stays t n v c e body so w =
      behind (catch_parameter r t (exception_object (exception_at w e)) (with_travelling e c) w) _
      (λ target u. behind (enter r e c u) _
      (λ x u2. handled_stays e c (λ d. scope r d (destroy_parameter r t target) (body (with_parameter n target v) d))
      (λ u3. scope_stays r (handling e c) (destroy_parameter r t target) (body (with_parameter n target v) (handling e c) u3) (so (with_parameter n target v) (handling e c) u3)) u2))

  mutual
    statement_stays : (s : Statement) → HasNoJump s → (rest : Frame → Action Flow) → ((g : Frame) → Never (rest g)) → (v : Frame) (c : Context) → Never (statement r s rest v c)
    statement_stays (block ss) h rest so v c w = first_then (statements r ss v c w) (rest v) (statements_stay ss h v c w) (so v)
    statement_stays empty h rest so v c w = so v w
    statement_stays (if_else e s t) h rest so v c w =
        first_then _ (rest v) (behind (value_of r v e c w) _ (λ z. either (is_zero z) (otherwise r t v c) (statement r s (λ g. pure normal) v c) (otherwise_stays t h.1 v c)
        (statement_stays s h.0 (λ g. pure normal) (λ g u. tt) v c))) (so v)
    statement_stays (while e s) h rest so v c w =
        first_then _ (rest v) (loop_stays (suc w.turns) (value_of r v e c) (statement r s (λ g. pure normal) v c) w) (so v)
    statement_stays (return place e) h rest so v c w = returning_stays v e c w
    statement_stays (break place) h rest so v c w = absurd h
    statement_stays (continue place) h rest so v c w = absurd h
    statement_stays (throw place e) h rest so v c w = throwing_stays v e c w
    statement_stays (try ss hs) h rest so v c w =
        first_then _ (rest v) (try_stays (caught r hs v c) (λ e. caught_stays hs h.1 v c e) _ (statements_stay ss h.0 v (guarded_by (try_block (clauses_of hs)) c) w)) (so v)
    statement_stays (assign names e) h rest so v c w = behind (value_of r v e c w) _ (λ z u. so v _)
    statement_stays (evaluate e) h rest so v c w = behind (value_of r v e c w) _ (λ z. so v)
    statement_stays (local_int x e) h rest so v c w = behind (local_cell r v e c w) _ (λ o. so (with_variable x (whole o) v))
    statement_stays (local_ref x names) h rest so v c w = so _ w
    statement_stays (local_object k x es) h rest so v c w =
        behind (construct r v (class_named k) es _ c _) _ (λ u w2. scope_stays r c (destroy r (class_type (class_named k)) _) (rest (with_variable x _ v) w2) (so (with_variable x _ v) w2))

    otherwise_stays : (t : Else) → ElseHasNoJump t → (v : Frame) (c : Context) → Never (otherwise r t v c)
    otherwise_stays no_else h v c w = tt
    otherwise_stays (else_do s) h v c w = statement_stays s h (λ g. pure normal) (λ g u. tt) v c w

    statements_stay : (ss : Statements) → HaveNoJump ss → (v : Frame) (c : Context) → Never (statements r ss v c)
    statements_stay no_statements h v c w = tt
    statements_stay (statement_then s ss) h v c w = statement_stays s h.0 (λ g. statements r ss g c) (λ g. statements_stay ss h.1 g c) v c w

    caught_stays : (hs : Handlers) → HandlersHaveNoJump hs → (v : Frame) (c : Context) (e : ℕ) → Never (caught r hs v c e)
    caught_stays no_handlers h v c e w = tt
    caught_stays (handler_then t x ss place hs) h v c e w =
        either (matches r.program (type_at w e) (clause_of t)) (handle r e t x (λ g d. statements r ss g d) v c) (caught r hs v c e)
        (handle_stays t x v c e (λ g d. statements r ss g d) (λ g d. statements_stay ss h.0 g d)) (caught_stays hs h.1 v c e) w

pub jumps_stay_in_loops : JumpsStayInLoops
jumps_stay_in_loops r f h v c w = go f.specification
  where
    go : (s : Option Specification) → NotJumped (under_specification r s (body_of r f v) c w)
    go None = statements_stay r (statements_in f.body) h v c w
    go (Some (noexcept place q)) =
        try_stays r (end_noexcept r c) (noexcept_stays r c) _ (statements_stay r (statements_in f.body) h v (guarded_by (try_block (catch_all ∷ [])) c) w)
    go (Some (listed types)) = extent_stays r (map object_type types) c _ (statements_stay r (statements_in f.body) h v (guarded_by (specification (map object_type types)) c) w)
