-- The fuel of calls does not matter as long as it is above the turns left.
use Rattle.std.specs.Prelude.{◌≡◌, ◌≤◌, ℕ, zero, suc, Bool, true, false, [], ◌∷◌, Option, Some, None, if◌then◌else◌, List}
use Rattle.std.proofs.Common.{arith}
use Rattle.meaning_forms.specs.World.{World, Reference, Exception, building, native, foreign}
use Rattle.meaning_forms.specs.Context.{Context, barrier, guarded_by, handling}
use Rattle.meaning_forms.specs.Outcome.{turns_left, Action, Result, done, stopped, Stop, thrown, cancelled, deep, pure, stop, continued, ◌>>=◌, ◌>>◌, change}
use Rattle.meaning_forms.specs.Running.{Running, Callee, Argument}
use Rattle.meaning_forms.specs.Terminate.{terminate, terminate_with, run_terminate_handler, after_terminate_handler, enter_and_terminate, terminate_because, after_barrier, behind_barrier}
use Rattle.std.specs.Prelude.{ℤ, pos, negsuc, refl, ◌+◌, ◌<◌, map, nat_le}
use Rattle.std.proofs.Common.{ap, ◌∙◌}
use Rattle.eh_outer.specs.declared.module.Reply.{Reply}
use Rattle.eh_outer.specs.declared.module.Reply.TheVariants.{Value, Raise}
use Rattle.meaning_forms.specs.World.{whole, part, nowhere}
use Rattle.meaning_forms.specs.Throw.{raise_exception, throw_new, rethrow_newest, after_building, raise_foreign, take_reply, call_module}
use Rattle.meaning_forms.specs.Scope.{unwound, after_scope, scope, after_part, until_complete}
use Rattle.meaning_forms.specs.Construct.{default_object, copy_object, destroy}
use Rattle.cxx_ast.specs.declared.types.Ty.{Ty}
use Rattle.cxx_ast.specs.declared.types.Ty.TheVariants.{Int, Object}
use Rattle.cxx_ast.specs.declared.name.Name.{Name}
use Rattle.cxx_ast.specs.declared.name.Bound.{Bound}
use Rattle.cxx_ast.specs.declared.name.Bound.TheVariants.{Class, Func, Method, Builtin as BuiltinBound}
use Rattle.cxx_ast.specs.declared.name.Builtin.{Builtin}
use Rattle.cxx_ast.specs.declared.name.Builtin.TheVariants.{WriteInt, ReadByte, Exit, Module, Cancel, Terminate, SetTerminate, SetUnexpected, Uncaught, BadException}
use Rattle.cxx_ast.specs.declared.expression.BinaryOp.{BinaryOp}
use Rattle.cxx_ast.specs.Plain.{Expression, number, path, paren, unary, binary, call, std_call, Expressions, no_expressions, expression_then, Statement, block, empty, if_else, while, return, break, continue, throw, try, assign, evaluate, local_int, local_ref, local_object, Else, no_else, else_do, Statements, no_statements, statement_then, Handlers, no_handlers, handler_then}
use Rattle.meaning_forms.specs.Context.{try_block, catch_all}
use Rattle.meaning_forms.specs.World.{Installed}
use Rattle.cxx_ast.specs.Plain.{Checked, Specification, listed, noexcept, Function}
use Rattle.meaning_forms.specs.Guard.{allows}
use Rattle.meaning_forms.specs.World.{type_at}
use Rattle.meaning_forms.specs.Outcome.{Flow, normal, breaks, continues, returns}
use Rattle.meaning_forms.specs.Running.{Constructor, declared, implicit_default, implicit_copy, function, method, constructor, destructor}
use Rattle.meaning_forms.specs.Statement.{spend as spend_one, spend_turn, followed, ◌then◌, looped, loop, int_thrown, object_thrown, call_thrown, part_thrown, lvalue_thrown, operand_thrown, throwing, returning, local_cell, after_try, statement, otherwise, statements, caught}
use Rattle.meaning_forms.specs.Call.{run_function, build_parts, default_part, copy_part, initial_value, initial_part, construction, run_constructor, destroy_parts, run_destructor, run_callee, opened, after_call, open_call, call_with}
use Rattle.meaning_forms.specs.Frame.{Frame}
use Rattle.meaning_forms.specs.Handler.{enter, after_destructor, give_back, let_go, after_handler, while_handled, new_copy, catch_parameter, destroy_parameter, handle, goes_on}
use Rattle.meaning_forms.specs.Specification.{new_bad_exception, pass_on, after_unexpected, run_unexpected_handler, unexpected, after_extent, guard_of, end_noexcept, after_specification, under_specification}
use Rattle.meaning_forms.specs.Expression.{passed, builtin, called, with_right_side, value_of, arguments, construct}
use Rattle.meaning_forms.specs.Class.{ObjectType, int_type, class_type, object_type}
use Rattle.meaning_forms.proofs.Turns.{Spends, CallsSpend, after_barrier-spends, after_building-spends, after_destructor-spends, after_part-spends, after_scope-spends, after_specification-spends, after_terminate_handler-spends, after_try-spends, after_unexpected-spends, binary_value-spends, bind-spends, call_with-spends, calling-spends, change-spends, emit-spends, keep-spends, new_exception-spends, new_object-spends, next_byte-spends, open_call-spends, pure-spends, read-spends, spend_turn-spends, stop-spends, unary_value-spends, value_returned-spends, with_arguments-spends, world-spends, write-spends}

-- two computations give the same where fewer than `lim` turns are left, and the first gives no turn back
pub record Same (lim : ℕ) (A : Type 0) (x y : Action A) : Type 0 where
  pub same : (w : World) → w.turns < lim → x w ≡ y w
  pub spends : Spends A x

-- a call, as a running program makes it
abbrev pub Calls : Type 0
Calls = Callee → Reference → List Argument → Context → Action ℤ

-- two ways to make calls agree where fewer than `lim` turns are left
abbrev pub Agree : ℕ → Calls → Calls → Type 0
Agree lim calls calls' = (callee : Callee) (x : Reference) (given : List Argument) (c : Context) → Same lim ℤ (calls callee x given c) (calls' callee x given c)

abbrev pub with_calls : Checked → Calls → Running
with_calls p calls = record { program = p; call = calls }

pub continued-same : {A B : Type 0} (lim : ℕ) (m : Result A) (next next' : A → Action B) → turns_left m < lim → ((a : A) → Same lim B (next a) (next' a)) → continued m next ≡ continued m next'
continued-same lim (done a w) next next' l k = (k a).same w l
continued-same lim (stopped s w) next next' l k = refl

module _ (p : Checked) (lim : ℕ) (calls calls' : Calls) (agree : Agree lim calls calls') where
  abbrev R : Running
  R = with_calls p calls

  abbrev S : Running
  S = with_calls p calls'

  spend : CallsSpend R
  spend callee x given c w = (agree callee x given c).spends.at w

  pub own-same : {A : Type 0} {x : Action A} → Spends A x → Same lim A x x
  own-same k = record { same = λ w l. refl; spends = k }

  pub bind-same : {A B : Type 0} (x y : Action A) (next next' : A → Action B) → Same lim A x y → ((a : A) → Same lim B (next a) (next' a)) → Same lim B (x >>= next) (y >>= next')
  bind-same x y next next' h k = record {
    same = λ w l. continued-same lim (x w) next next' (omega (arith, h.spends.at w, l)) k ∙ ap (λ m. continued m next') (h.same w l);
    spends = bind-spends x next h.spends (λ a. (k a).spends);
  }

  pub if-same : {A : Type 0} (b : Bool) (x x' y y' : Action A) → Same lim A x x' → Same lim A y y' → Same lim A (if b then x else y) (if b then x' else y')
  if-same true x x' y y' h k = h
  if-same false x x' y y' h k = k

  pub mapped-same : {A B : Type 0} (g g' : Result A → Result B) (x y : Action A) → Same lim A x y → ((m : Result A) → turns_left m < lim → g m ≡ g' m) → ((n : ℕ) (m : Result A) → turns_left m ≤ n → turns_left (g m) ≤ n) → Same lim B (λ w. g (x w)) (λ w. g' (y w))
  mapped-same g g' x y h k s = record {
    same = λ w l. k (x w) (omega (arith, h.spends.at w, l)) ∙ ap g' (h.same w l);
    spends = record { at = λ w. s w.turns (x w) (h.spends.at w) };
  }

  pub run_terminate_handler-same : (A : Type 0) (o : Option ℕ) (c : Context) → Same lim A (run_terminate_handler R o c) (run_terminate_handler S o c)
  run_terminate_handler-same A None c = search (own-same, stop-spends)
  run_terminate_handler-same A (Some f) c =
      mapped-same after_terminate_handler after_terminate_handler _ _ (agree (function f) nowhere [] (guarded_by barrier (record c { ending = true }))) (λ m l. refl)
      (λ n m g. after_terminate_handler-spends A n m g)

  pub terminate_with-same : (A : Type 0) (handler : Option ℕ) (c : Context) → Same lim A (terminate_with R handler c) (terminate_with S handler c)
  terminate_with-same A handler c = search (if-same, stop-spends, run_terminate_handler-same, own-same)

  pub terminate-same : (A : Type 0) (c : Context) → Same lim A (terminate R c) (terminate S c)
  terminate-same A c = search (bind-same, world-spends, terminate_with-same, own-same)

  pub enter_and_terminate-same : (A : Type 0) (e : ℕ) (x : Exception) (c : Context) → Same lim A (enter_and_terminate R e x c) (enter_and_terminate S e x c)
  enter_and_terminate-same A e (native t o kept) c = search (bind-same, emit-spends, terminate_with-same, own-same)
  enter_and_terminate-same A e _ c = search (terminate-same)

  pub terminate_because-same : (A : Type 0) (e : ℕ) (c : Context) → Same lim A (terminate_because R e c) (terminate_because S e c)
  terminate_because-same A e c = search (bind-same, world-spends, if-same, stop-spends, enter_and_terminate-same, own-same)

  pub raise_exception-same : (A : Type 0) (e : ℕ) (c : Context) → Same lim A (raise_exception R e c) (raise_exception S e c)
  raise_exception-same A e c = search (bind-same, world-spends, if-same, stop-spends, terminate_because-same, own-same)

  barrier_result-same : (A : Type 0) (c : Context) (m : Result A) → turns_left m < lim → after_barrier R c m ≡ after_barrier S c m
  barrier_result-same A c (stopped (cancelled n) w) l = (terminate-same A c).same w l
  barrier_result-same A c m l = refl

  pub behind_barrier-same : (A : Type 0) (c : Context) (act act' : Context → Action A) → ((d : Context) → Same lim A (act d) (act' d)) → Same lim A (behind_barrier R c act) (behind_barrier S c act')
  behind_barrier-same A c act act' k =
      mapped-same (after_barrier R c) (after_barrier S c) (act (guarded_by barrier c)) (act' (guarded_by barrier c)) (k (guarded_by barrier c)) (barrier_result-same A c)
      (λ n m g. after_barrier-spends A R c n m spend g)

  pub building-same : (e : ℕ) (x y : Action ℕ) → Same lim ℕ x y → Same lim ℕ (λ w. after_building e (x w)) (λ w. after_building e (y w))
  building-same e x y k = mapped-same (after_building e) (after_building e) x y k (λ m l. refl) (after_building-spends ℕ e)

  pub throw_new-same : (A : Type 0) (c : Context) (x y : Action ℕ) → Same lim ℕ x y → Same lim A (throw_new R c x) (throw_new S c y)
  throw_new-same A c x y k =
      search (bind-same, own-same, world-spends, if-same, terminate-same, new_exception-spends, building-same, keep-spends, raise_exception-same) depth 9

  pub rethrow-same : (A : Type 0) (es : List ℕ) (c : Context) → Same lim A (rethrow_newest R es c) (rethrow_newest S es c)
  rethrow-same A [] c = search (terminate-same)
  rethrow-same A (e ∷ es) c = search (if-same, terminate-same, raise_exception-same)

  pub unwound-same : (A : Type 0) (c : Context) (act act' : Context → Action (Unit {0})) (s : Stop) → ((d : Context) → Same lim (Unit {0}) (act d) (act' d)) → Same lim A (unwound R c act s) (unwound S c act' s)
  unwound-same A c act act' (thrown e) k = search (bind-same, behind_barrier-same, own-same, stop-spends)
  unwound-same A c act act' (cancelled n) k = search (bind-same, behind_barrier-same, own-same, stop-spends)
  unwound-same A c act act' s k = search (own-same, stop-spends)

  scope_result-same : (A : Type 0) (c : Context) (act act' : Context → Action (Unit {0})) (m : Result A) → ((d : Context) → Same lim (Unit {0}) (act d) (act' d)) → turns_left m < lim → after_scope R c act m ≡ after_scope S c act' m
  scope_result-same A c act act' (done a w) k l =
      let p : Same lim A (act c >> pure a) (act' c >> pure a) = search (bind-same, own-same, pure-spends, k) in p.same w l
  scope_result-same A c act act' (stopped s w) k l = (unwound-same A c act act' s k).same w l

  pub scope-same : (A : Type 0) (c : Context) (act act' : Context → Action (Unit {0})) (x y : Action A) → ((d : Context) → Same lim (Unit {0}) (act d) (act' d)) → Same lim A x y → Same lim A (scope R c act x) (scope S c act' y)
  scope-same A c act act' x y k g =
      mapped-same (after_scope R c act) (after_scope S c act') x y g (λ m l. scope_result-same A c act act' m k l)
      (λ n m l. after_scope-spends A R c act n m spend (λ d. (k d).spends) l)

  part_result-same : (A : Type 0) (c : Context) (act act' : Context → Action (Unit {0})) (m : Result A) → ((d : Context) → Same lim (Unit {0}) (act d) (act' d)) → turns_left m < lim → after_part R c act m ≡ after_part S c act' m
  part_result-same A c act act' (done a w) k l = refl
  part_result-same A c act act' (stopped s w) k l = (unwound-same A c act act' s k).same w l

  pub until_complete-same : (A : Type 0) (c : Context) (act act' : Context → Action (Unit {0})) (x y : Action A) → ((d : Context) → Same lim (Unit {0}) (act d) (act' d)) → Same lim A x y → Same lim A (until_complete R c act x) (until_complete S c act' y)
  until_complete-same A c act act' x y k g =
      mapped-same (after_part R c act) (after_part S c act') x y g (λ m l. part_result-same A c act act' m k l)
      (λ n m l. after_part-spends A R c act n m spend (λ d. (k d).spends) l)

  pub call-same : (callee : Callee) (x : Reference) (given : List Argument) (c : Context) → Same lim ℤ (calls callee x given c) (calls' callee x given c)
  call-same = agree

  pub default_object-same : (k : ℕ) (x : Reference) (c : Context) → Same lim (Unit {0}) (default_object R k x c) (default_object S k x c)
  default_object-same k x c = search (bind-same, call-same, pure-spends, own-same)

  pub copy_object-same : (k : ℕ) (x y : Reference) (c : Context) → Same lim (Unit {0}) (copy_object R k x y c) (copy_object S k x y c)
  copy_object-same k x y c = search (bind-same, call-same, pure-spends, own-same)

  pub destroy-same : (t : ObjectType) (x : Reference) (c : Context) → Same lim (Unit {0}) (destroy R t x c) (destroy S t x c)
  destroy-same int_type x c = search (pure-spends, own-same)
  destroy-same (class_type k) x c = search (bind-same, call-same, pure-spends, own-same)

  pub raise_foreign-same : (A : Type 0) (k t : ℕ) (c : Context) → Same lim A (raise_foreign R k t c) (raise_foreign S k t c)
  raise_foreign-same A k t c = search (bind-same, world-spends, if-same, terminate-same, new_exception-spends, raise_exception-same, own-same) depth 9

  pub take_reply-same : (k : ℕ) (o : Option (List Reply)) (c : Context) → Same lim ℤ (take_reply R k o c) (take_reply S k o c)
  take_reply-same k None c = search (pure-spends, own-same)
  take_reply-same k (Some []) c = search (pure-spends, own-same)
  take_reply-same k (Some (Value v ∷ left)) c = search (bind-same, change-spends, pure-spends, arith, own-same)
  take_reply-same k (Some (Raise t ∷ left)) c = search (bind-same, change-spends, raise_foreign-same, arith, own-same)

  pub call_module-same : (k : ℤ) (c : Context) → Same lim ℤ (call_module R k c) (call_module S k c)
  call_module-same (negsuc k) c = search (pure-spends, own-same)
  call_module-same (pos k) c = search (bind-same, world-spends, take_reply-same, own-same)

  pub enter-same : (e : ℕ) (c : Context) → Same lim (Unit {0}) (enter R e c) (enter S e c)
  enter-same e c = search (bind-same, world-spends, if-same, terminate-same, emit-spends, own-same)

  pub destructor-same : (e : ℕ) (x y : Action (Unit {0})) → Same lim (Unit {0}) x y → Same lim (Unit {0}) (λ w. after_destructor e (x w)) (λ w. after_destructor e (y w))
  destructor-same e x y k = mapped-same (after_destructor e) (after_destructor e) x y k (λ m l. refl) (after_destructor-spends e)

  pub give_back-same : (e : ℕ) (x : Exception) (c : Context) → Same lim (Unit {0}) (give_back R e x c) (give_back S e x c)
  give_back-same e building c = search (own-same, pure-spends)
  give_back-same e (native t o kept) c =
      bind-same _ _ _ _ (own-same (emit-spends _)) (λ u. destructor-same e (destroy R t (whole o) c) (destroy S t (whole o) c) (destroy-same t (whole o) c))
  give_back-same e (foreign k t) c = search (bind-same, own-same, emit-spends, change-spends, arith)

  pub let_go-same : (e : ℕ) (kept : Bool) (c : Context) → Same lim (Unit {0}) (let_go R e kept c) (let_go S e kept c)
  let_go-same e kept c = search (bind-same, world-spends, emit-spends, if-same, pure-spends, give_back-same, own-same) depth 9

  handler_result-same : (A : Type 0) (e : ℕ) (c : Context) (m : Result A) → turns_left m < lim → after_handler R e c m ≡ after_handler S e c m
  handler_result-same A e c m l = scope_result-same A c (let_go R e (goes_on e c m)) (let_go S e (goes_on e c m)) m (λ d. let_go-same e (goes_on e c m) d) l

  pub while_handled-same : (A : Type 0) (e : ℕ) (c : Context) (act act' : Context → Action A) → ((d : Context) → Same lim A (act d) (act' d)) → Same lim A (while_handled R e c act) (while_handled S e c act')
  while_handled-same A e c act act' k =
      mapped-same (after_handler R e c) (after_handler S e c) (act (handling e c)) (act' (handling e c)) (k (handling e c)) (handler_result-same A e c)
      (λ n m l. after_scope-spends A R c (let_go R e (goes_on e c m)) n m spend (λ d. (let_go-same e (goes_on e c m) d).spends) l)

  pub new_copy-same : (k : ℕ) (x : Reference) (c : Context) → Same lim ℕ (new_copy R k x c) (new_copy S k x c)
  new_copy-same k x c = search (bind-same, new_object-spends, behind_barrier-same, copy_object-same, pure-spends, own-same) depth 9

  pub catch_parameter-same : (t : Option Ty) (x : Reference) (c : Context) → Same lim Reference (catch_parameter R t x c) (catch_parameter S t x c)
  catch_parameter-same None x c = search (pure-spends, own-same)
  catch_parameter-same (Some Int) x c = search (bind-same, read-spends, new_object-spends, pure-spends, own-same)
  catch_parameter-same (Some (Object n)) x c = search (bind-same, world-spends, new_copy-same, pure-spends, own-same)
  catch_parameter-same (Some t) x c = search (bind-same, world-spends, pure-spends, own-same)

  pub destroy_parameter-same : (t : Option Ty) (x : Reference) (c : Context) → Same lim (Unit {0}) (destroy_parameter R t x c) (destroy_parameter S t x c)
  destroy_parameter-same (Some (Object n)) x c = search (destroy-same)
  destroy_parameter-same t x c = search (pure-spends, own-same)

  pub handle-same : (A : Type 0) (e : ℕ) (t : Option Ty) (n : Option Name) (body body' : Frame → Context → Action A) (f : Frame) (c : Context) → ((g : Frame) (d : Context) → Same lim A (body g d) (body' g d)) → Same lim A (handle R e t n body f c) (handle S e t n body' f c)
  handle-same A e t n body body' f c k =
      search (bind-same, own-same, world-spends, catch_parameter-same, enter-same, while_handled-same, scope-same, destroy_parameter-same, k) depth 9

  pub new_bad_exception-same : (c : Context) → Same lim ℕ (new_bad_exception R c) (new_bad_exception S c)
  new_bad_exception-same c = search (bind-same, new_object-spends, default_object-same, pure-spends, own-same)

  pub pass_on-same : (A : Type 0) (types : List ObjectType) (kept : Installed) (f : ℕ) (c : Context) → Same lim A (pass_on R types kept f c) (pass_on S types kept f c)
  pass_on-same A types kept f c =
      search (bind-same, world-spends, if-same, raise_exception-same, throw_new-same, new_bad_exception-same, terminate_with-same, own-same) depth 9

  unexpected_result-same : (A : Type 0) (types : List ObjectType) (kept : Installed) (c : Context) (m : Result ℤ) → turns_left m < lim → after_unexpected {A = A} R types kept c m ≡ after_unexpected S types kept c m
  unexpected_result-same A types kept c (done v w) l = (terminate_with-same A kept.terminate_handler c).same w l
  unexpected_result-same A types kept c (stopped (thrown f) w) l =
      let p : Same lim A (enter R f c >> while_handled R f c (pass_on R types kept f)) (enter S f c >> while_handled S f c (pass_on S types kept f)) = search (bind-same, enter-same, while_handled-same, pass_on-same) in
      p.same w l
  unexpected_result-same A types kept c (stopped s w) l = refl

  pub run_unexpected_handler-same : (A : Type 0) (types : List ObjectType) (kept : Installed) (o : Option ℕ) (c : Context) → Same lim A (run_unexpected_handler R types kept o c) (run_unexpected_handler S types kept o c)
  run_unexpected_handler-same A types kept None c = search (terminate_with-same)
  run_unexpected_handler-same A types kept (Some f) c =
      mapped-same (after_unexpected R types kept c) (after_unexpected S types kept c) _ _ (agree (function f) nowhere [] (guarded_by (try_block (catch_all ∷ [])) c)) (unexpected_result-same A types kept c)
      (λ n m g. after_unexpected-spends A R types kept c n m spend g)

  pub unexpected-same : (A : Type 0) (types : List ObjectType) (e : ℕ) (c : Context) → Same lim A (unexpected R types e c) (unexpected S types e c)
  unexpected-same A types e c = search (bind-same, world-spends, enter-same, while_handled-same, run_unexpected_handler-same, own-same) depth 9

  extent_result-same : (A : Type 0) (types : List ObjectType) (c : Context) (m : Result A) → turns_left m < lim → after_extent R types c m ≡ after_extent S types c m
  extent_result-same A types c (stopped (thrown e) w) l =
      let p : Same lim A (if allows p types (type_at w e) then stop (thrown e) else unexpected R types e c) (if allows p types (type_at w e) then stop (thrown e) else unexpected S types e c) = search (if-same, own-same, stop-spends, unexpected-same) in
      p.same w l
  extent_result-same A types c m l = refl

  end_noexcept-same : (A : Type 0) (c : Context) (e : ℕ) → Same lim A (end_noexcept R c e) (end_noexcept S c e)
  end_noexcept-same A c e = search (bind-same, enter-same, terminate-same)

  specification_result-same : (A : Type 0) (s : Specification) (c : Context) (m : Result A) → turns_left m < lim → after_specification R s c m ≡ after_specification S s c m
  specification_result-same A (listed types) c m l = extent_result-same A (map object_type types) c m l
  specification_result-same A (noexcept place b) c (stopped (thrown e) w) l = (end_noexcept-same A c e).same w l
  specification_result-same A (noexcept place b) c m l = refl

  pub under_specification-same : (A : Type 0) (o : Option Specification) (act act' : Context → Action A) (c : Context) → ((d : Context) → Same lim A (act d) (act' d)) → Same lim A (under_specification R o act c) (under_specification S o act' c)
  under_specification-same A None act act' c k = k c
  under_specification-same A (Some s) act act' c k =
      mapped-same (after_specification R s c) (after_specification S s c) _ _ (k (guarded_by (guard_of s) c)) (specification_result-same A s c)
      (λ n m g. after_specification-spends A R s c n m spend g)

  pub passed-same : (f : Frame) (types : List Ty) (e : Expression) (x y : Action ℤ) → Same lim ℤ x y → Same lim Argument (passed R f types e x) (passed S f types e y)
  passed-same f [] e x y k = search (bind-same, own-same, pure-spends)
  passed-same f (t ∷ types) e x y k = search (bind-same, own-same, world-spends, if-same, pure-spends) depth 9

  pub builtin-same : (b : Builtin) (es : Expressions) (x y : Action (List Argument)) (c : Context) → Same lim (List Argument) x y → Same lim ℤ (builtin R b es x c) (builtin S b es y c)
  builtin-same WriteInt es x y c k = search (bind-same, own-same, emit-spends, pure-spends)
  builtin-same ReadByte es x y c k = search (bind-same, own-same, world-spends, next_byte-spends)
  builtin-same Exit es x y c k = search (bind-same, own-same, stop-spends)
  builtin-same Module es x y c k = search (bind-same, call_module-same)
  builtin-same Cancel es x y c k = search (bind-same, own-same, stop-spends)
  builtin-same Terminate es x y c k = search (terminate-same)
  builtin-same SetTerminate es x y c k = search (bind-same, own-same, change-spends, pure-spends, arith)
  builtin-same SetUnexpected es x y c k = search (bind-same, own-same, change-spends, pure-spends, arith)
  builtin-same Uncaught es x y c k = search (own-same, pure-spends)
  builtin-same BadException es x y c k = search (own-same, pure-spends)

  pub called-same : (f : Frame) (b : Bound) (names : List Name) (es : Expressions) (x y : Action (List Argument)) (c : Context) → Same lim (List Argument) x y → Same lim ℤ (called R f b names es x c) (called S f b names es y c)
  called-same f (Func n) names es x y c k = search (bind-same, call-same)
  called-same f (Method m i) names es x y c k = search (bind-same, own-same, world-spends, call-same)
  called-same f (BuiltinBound b) names es x y c k = search (builtin-same)
  called-same f b names es x y c k = search (own-same, pure-spends)

  pub with_right_side-same : (op : BinaryOp) (v : ℤ) (o : Option ℤ) (x y : Action ℤ) → Same lim ℤ x y → Same lim ℤ (with_right_side op v o x) (with_right_side op v o y)
  with_right_side-same op v (Some u) x y k = search (own-same, pure-spends)
  with_right_side-same op v None x y k = search (bind-same, own-same, binary_value-spends)

  mutual
    pub value_of-same : (f : Frame) (e : Expression) (c : Context) → Same lim ℤ (value_of R f e c) (value_of S f e c)
    value_of-same f (number v place) c = search (own-same, pure-spends)
    value_of-same f (path names) c = search (bind-same, own-same, world-spends, read-spends)
    value_of-same f (paren e place) c = value_of-same f e c
    value_of-same f (unary op e place) c = bind-same _ _ _ _ (value_of-same f e c) (λ v. own-same (unary_value-spends op v))
    value_of-same f (binary op a b) c = bind-same _ _ _ _ (value_of-same f a c) (λ v. with_right_side-same op v _ _ _ (value_of-same f b c))
    value_of-same f (call names es) c = called-same f _ _ es _ _ c (arguments-same f es _ c)
    value_of-same f (std_call n es place) c = called-same f _ _ es _ _ c (arguments-same f es _ c)

    pub arguments-same : (f : Frame) (es : Expressions) (types : List Ty) (c : Context) → Same lim (List Argument) (arguments R f es types c) (arguments S f es types c)
    arguments-same f no_expressions types c = search (own-same, pure-spends)
    arguments-same f (expression_then e es) types c =
        bind-same _ _ _ _ (passed-same f types e _ _ (value_of-same f e c)) (λ a. bind-same _ _ _ _ (arguments-same f es _ c) (λ given. own-same (pure-spends _ _)))

  pub construct-same : (f : Frame) (k : ℕ) (es : Expressions) (x : Reference) (c : Context) → Same lim (Unit {0}) (construct R f k es x c) (construct S f k es x c)
  construct-same f k es x c = search (bind-same, world-spends, arguments-same, call-same, pure-spends, own-same) depth 9

  pub followed-same : (x y : Action Flow) (flow : Flow) → Same lim Flow x y → Same lim Flow (followed x flow) (followed y flow)
  followed-same x y normal k = k
  followed-same x y flow k = search (own-same, pure-spends)

  pub then-same : (x y next next' : Action Flow) → Same lim Flow x y → Same lim Flow next next' → Same lim Flow (x then next) (y then next')
  then-same x y next next' h k = bind-same _ _ _ _ h (λ flow. followed-same next next' flow k)

  pub looped-same : (x y : Action Flow) (flow : Flow) → Same lim Flow x y → Same lim Flow (looped x flow) (looped y flow)
  looped-same x y normal k = k
  looped-same x y continues k = k
  looped-same x y breaks k = search (own-same, pure-spends)
  looped-same x y (returns v) k = search (own-same, pure-spends)

  pub loop-same : (n : ℕ) (test test' : Action ℤ) (body body' : Action Flow) → Same lim ℤ test test' → Same lim Flow body body' → Same lim Flow (loop n test body) (loop n test' body')
  loop-same zero test test' body body' h k = search (own-same, stop-spends)
  loop-same (suc n) test test' body body' h k =
      bind-same _ _ _ _ (own-same spend_turn-spends) (λ u. bind-same _ _ _ _ h (λ v. if-same _ _ _ _ _ (own-same (pure-spends _ normal))
      (bind-same _ _ _ _ k (λ flow. looped-same (loop n test body) (loop n test' body') flow (loop-same n test test' body body' h k)))))

  pub int_thrown-same : (f : Frame) (e : Expression) (c : Context) → Same lim ℕ (int_thrown R f e c) (int_thrown S f e c)
  int_thrown-same f e c = search (bind-same, value_of-same, new_object-spends, own-same)

  pub object_thrown-same : (f : Frame) (k : ℕ) (es : Expressions) (c : Context) → Same lim ℕ (object_thrown R f k es c) (object_thrown S f k es c)
  object_thrown-same f k es c = search (bind-same, new_object-spends, construct-same, pure-spends, own-same)

  pub call_thrown-same : (f : Frame) (b : Bound) (e : Expression) (es : Expressions) (c : Context) → Same lim ℕ (call_thrown R f b e es c) (call_thrown S f b e es c)
  call_thrown-same f (Class k) e es c = search (object_thrown-same)
  call_thrown-same f (BuiltinBound BadException) e es c = search (object_thrown-same)
  call_thrown-same f b e es c = search (int_thrown-same)

  pub part_thrown-same : (f : Frame) (e : Expression) (x : Reference) (t : ObjectType) (c : Context) → Same lim ℕ (part_thrown R f e x t c) (part_thrown S f e x t c)
  part_thrown-same f e x int_type c = search (int_thrown-same)
  part_thrown-same f e x (class_type k) c = search (new_copy-same)

  pub lvalue_thrown-same : (f : Frame) (e : Expression) (o : Option (List Name)) (c : Context) → Same lim ℕ (lvalue_thrown R f e o c) (lvalue_thrown S f e o c)
  lvalue_thrown-same f e None c = search (int_thrown-same)
  lvalue_thrown-same f e (Some names) c = search (bind-same, world-spends, part_thrown-same, own-same)

  pub operand_thrown-same : (f : Frame) (e : Expression) (c : Context) → Same lim ℕ (operand_thrown R f e c) (operand_thrown S f e c)
  operand_thrown-same f (call names es) c = search (call_thrown-same)
  operand_thrown-same f (std_call n es place) c = search (call_thrown-same)
  operand_thrown-same f e c = search (lvalue_thrown-same)

  pub throwing-same : (f : Frame) (o : Option Expression) (c : Context) → Same lim Flow (throwing R f o c) (throwing S f o c)
  throwing-same f None c = search (rethrow-same)
  throwing-same f (Some e) c = search (throw_new-same, operand_thrown-same)

  pub returning-same : (f : Frame) (o : Option Expression) (c : Context) → Same lim Flow (returning R f o c) (returning S f o c)
  returning-same f None c = search (pure-spends, own-same)
  returning-same f (Some e) c = search (bind-same, value_of-same, pure-spends, own-same)

  pub local_cell-same : (f : Frame) (o : Option Expression) (c : Context) → Same lim ℕ (local_cell R f o c) (local_cell S f o c)
  local_cell-same f None c = search (new_object-spends, own-same)
  local_cell-same f (Some e) c = search (bind-same, value_of-same, new_object-spends, own-same)

  try_result-same : (A : Type 0) (handler handler' : ℕ → Action A) (m : Result A) → ((e : ℕ) → Same lim A (handler e) (handler' e)) → turns_left m < lim → after_try handler m ≡ after_try handler' m
  try_result-same A handler handler' (stopped (thrown e) w) k l = (k e).same w l
  try_result-same A handler handler' m k l = refl

  pub try-same : (A : Type 0) (handler handler' : ℕ → Action A) (x y : Action A) → ((e : ℕ) → Same lim A (handler e) (handler' e)) → Same lim A x y → Same lim A (λ w. after_try handler (x w)) (λ w. after_try handler' (y w))
  try-same A handler handler' x y k g =
      mapped-same (after_try handler) (after_try handler') x y g (λ m l. try_result-same A handler handler' m k l) (λ n m l. after_try-spends A handler n m (λ e. (k e).spends) l)

  mutual
    pub statement-same : (s : Statement) (rest rest' : Frame → Action Flow) (f : Frame) (c : Context) → ((g : Frame) → Same lim Flow (rest g) (rest' g)) → Same lim Flow (statement R s rest f c) (statement S s rest' f c)
    statement-same (block ss) rest rest' f c k = then-same _ _ _ _ (statements-same ss f c) (k f)
    statement-same empty rest rest' f c k = k f
    statement-same (if_else e s t) rest rest' f c k =
        then-same _ _ _ _ (bind-same _ _ _ _ (value_of-same f e c)
        (λ v. if-same _ _ _ _ _ (otherwise-same t f c) (statement-same s _ _ f c (λ g. own-same (pure-spends _ normal))))) (k f)
    statement-same (while e s) rest rest' f c k =
        then-same _ _ _ _ (bind-same _ _ _ _ (own-same world-spends)
        (λ w. loop-same (suc w.turns) _ _ _ _ (value_of-same f e c) (statement-same s (λ g. pure normal) (λ g. pure normal) f c (λ g. own-same (pure-spends _ normal))))) (k f)
    statement-same (return place e) rest rest' f c k = returning-same f e c
    statement-same (break place) rest rest' f c k = own-same (pure-spends _ _)
    statement-same (continue place) rest rest' f c k = own-same (pure-spends _ _)
    statement-same (throw place e) rest rest' f c k = throwing-same f e c
    statement-same (try ss hs) rest rest' f c k =
        then-same _ _ _ _ (try-same _ _ _ _ _ (λ e. caught-same hs f c e) (statements-same ss f _)) (k f)
    statement-same (assign names e) rest rest' f c k =
        bind-same _ _ _ _ (value_of-same f e c) (λ v. bind-same _ _ _ _ (own-same world-spends) (λ w. bind-same _ _ _ _ (own-same (write-spends _ v)) (λ u. k f)))
    statement-same (evaluate e) rest rest' f c k = bind-same _ _ _ _ (value_of-same f e c) (λ v. k f)
    statement-same (local_int n e) rest rest' f c k = bind-same _ _ _ _ (local_cell-same f e c) (λ o. k _)
    statement-same (local_ref x names) rest rest' f c k = bind-same _ _ _ _ (own-same world-spends) (λ w. k _)
    statement-same (local_object m n es) rest rest' f c k =
        search (bind-same, own-same, new_object-spends, construct-same, scope-same, destroy-same, k) depth 9

    pub otherwise-same : (t : Else) (f : Frame) (c : Context) → Same lim Flow (otherwise R t f c) (otherwise S t f c)
    otherwise-same no_else f c = own-same (pure-spends _ _)
    otherwise-same (else_do s) f c = statement-same s _ _ f c (λ g. own-same (pure-spends _ normal))

    pub statements-same : (ss : Statements) (f : Frame) (c : Context) → Same lim Flow (statements R ss f c) (statements S ss f c)
    statements-same no_statements f c = own-same (pure-spends _ _)
    statements-same (statement_then s ss) f c = statement-same s _ _ f c (λ g. statements-same ss g c)

    pub caught-same : (hs : Handlers) (f : Frame) (c : Context) (e : ℕ) → Same lim Flow (caught R hs f c e) (caught S hs f c e)
    caught-same no_handlers f c e = own-same (stop-spends _ _)
    caught-same (handler_then t n ss place hs) f c e =
        bind-same _ _ _ _ (own-same world-spends) (λ w. if-same _ _ _ _ _ (handle-same _ e t n _ _ f c (λ g d. statements-same ss g d)) (caught-same hs f c e))

  pub run_function-same : (b : Bool) (f : Function) (x : Reference) (given : List Argument) (c : Context) → Same lim ℤ (run_function R b f x given c) (run_function S b f x given c)
  run_function-same b f x given c =
      search (bind-same, with_arguments-spends, under_specification-same, statements-same, value_returned-spends, own-same) depth 9

  pub build_parts-same : (one one' : ℕ → ObjectType → Action (Unit {0})) (x : Reference) (i : ℕ) (ts : List ObjectType) (c : Context) (left left' : Action Flow) → ((j : ℕ) (t : ObjectType) → Same lim (Unit {0}) (one j t) (one' j t)) → Same lim Flow left left' → Same lim Flow (build_parts R one x i ts c left) (build_parts S one' x i ts c left')
  build_parts-same one one' x i [] c left left' k g = g
  build_parts-same one one' x i (t ∷ ts) c left left' k g =
      bind-same _ _ _ _ (k i t) (λ u. until_complete-same _ c (destroy R t (part i x)) (destroy S t (part i x)) _ _ (λ d. destroy-same t (part i x) d)
      (build_parts-same one one' x (i + 1) ts c left left' k g))

  pub default_part-same : (x : Reference) (c : Context) (i : ℕ) (t : ObjectType) → Same lim (Unit {0}) (default_part R x c i t) (default_part S x c i t)
  default_part-same x c i int_type = search (write-spends, own-same)
  default_part-same x c i (class_type k) = search (default_object-same)

  pub copy_part-same : (x y : Reference) (c : Context) (i : ℕ) (t : ObjectType) → Same lim (Unit {0}) (copy_part R x y c i t) (copy_part S x y c i t)
  copy_part-same x y c i int_type = search (bind-same, read-spends, write-spends, own-same)
  copy_part-same x y c i (class_type k) = search (copy_object-same)

  pub initial_value-same : (f : Frame) (es : Expressions) (c : Context) → Same lim ℤ (initial_value R f es c) (initial_value S f es c)
  initial_value-same f no_expressions c = search (pure-spends, own-same)
  initial_value-same f (expression_then e es) c = search (value_of-same)

  pub initial_part-same : (f : Frame) (c : Context) (i : ℕ) (o : Option Expressions) (t : ObjectType) → Same lim (Unit {0}) (initial_part R f c i o t) (initial_part S f c i o t)
  initial_part-same f c i None int_type = search (pure-spends, own-same)
  initial_part-same f c i None (class_type k) = search (default_object-same)
  initial_part-same f c i (Some es) int_type = search (bind-same, initial_value-same, write-spends, own-same)
  initial_part-same f c i (Some es) (class_type k) = search (construct-same)

  pub construction-same : (k : ℕ) (f : Function) (g : Frame) (c : Context) → Same lim Flow (construction R k f g c) (construction S k f g c)
  construction-same k f g c = search (build_parts-same, initial_part-same, statements-same)

  pub run_constructor-same : (k : ℕ) (x : Constructor) (y : Reference) (given : List Argument) (c : Context) → Same lim Flow (run_constructor R k x y given c) (run_constructor S k x y given c)
  run_constructor-same k implicit_default y given c = search (build_parts-same, default_part-same, pure-spends, own-same)
  run_constructor-same k implicit_copy y given c = search (build_parts-same, copy_part-same, pure-spends, own-same)
  run_constructor-same k (declared i) y given c = search (bind-same, with_arguments-spends, under_specification-same, construction-same, own-same)

  pub destroy_parts-same : (x : Reference) (i : ℕ) (ts : List ObjectType) (c : Context) (body body' : Action Flow) → Same lim Flow body body' → Same lim Flow (destroy_parts R x i ts c body) (destroy_parts S x i ts c body')
  destroy_parts-same x i [] c body body' g = g
  destroy_parts-same x i (t ∷ ts) c body body' g =
      scope-same _ c (destroy R t (part i x)) (destroy S t (part i x)) _ _ (λ d. destroy-same t (part i x) d) (destroy_parts-same x (i + 1) ts c body body' g)

  pub run_destructor-same : (k : ℕ) (o : Option ℕ) (x : Reference) (c : Context) → Same lim Flow (run_destructor R k o x c) (run_destructor S k o x c)
  run_destructor-same k None x c = search (destroy_parts-same, pure-spends, own-same)
  run_destructor-same k (Some i) x c = search (under_specification-same, destroy_parts-same, statements-same)

  pub run_callee-same : (callee : Callee) (x : Reference) (given : List Argument) (c : Context) → Same lim ℤ (run_callee R callee x given c) (run_callee S callee x given c)
  run_callee-same (function n) x given c = search (run_function-same)
  run_callee-same (method k i) x given c = search (run_function-same)
  run_callee-same (constructor k which) x given c = search (bind-same, run_constructor-same, pure-spends, own-same)
  run_callee-same (destructor k) x given c = search (bind-same, run_destructor-same, pure-spends, own-same)

-- what a call does once it is open
abbrev call_body : Action ℤ → Action ℤ
call_body act = change opened >> (λ v. after_call (act v))

spending-same : (lim n : ℕ) (x y : Action ℤ) (w : World) → n < suc lim → Same lim ℤ (call_body x) (call_body y) → continued (spend_one n w) (λ u. call_body x) ≡ continued (spend_one n w) (λ u. call_body y)
spending-same lim zero x y w l k = refl
spending-same lim (suc n) x y w l k = k.same (record w { turns = n }) (omega (arith, l))

choosing-same : (lim : ℕ) (b : Bool) (x y : Action ℤ) (w : World) → w.turns < suc lim → Same lim ℤ (call_body x) (call_body y) → (if b then stop deep else (spend_turn >> call_body x)) w ≡ (if b then stop deep else (spend_turn >> call_body y)) w
choosing-same lim true x y w l k = refl
choosing-same lim false x y w l k = spending-same lim w.turns x y w l k

after_call-same : (lim : ℕ) (x y : Action ℤ) → Same lim ℤ x y → Same lim ℤ (call_body x) (call_body y)
after_call-same lim x y k = record {
  same = λ w l. ap after_call (k.same (opened w) l);
  spends = bind-spends _ _ (change-spends opened (λ w. search arith)) (λ u. calling-spends x k.spends);
}

-- a call spends a turn before anything in it
open_call-same : (lim limit : ℕ) (x y : Action ℤ) → Same lim ℤ x y → Same (suc lim) ℤ (open_call limit x) (open_call limit y)
open_call-same lim limit x y k = record {
  same = λ w l. choosing-same lim (nat_le limit w.open_calls) x y w l (after_call-same lim x y k);
  spends = open_call-spends limit x k.spends;
}

-- calls with two amounts of fuel agree where fewer turns are left than either
pub call_with-same : (p : Checked) (limit lim n m : ℕ) → lim ≤ n → lim ≤ m → Agree lim (call_with p limit n) (call_with p limit m)
call_with-same p limit zero n m h k callee x given c =
    record { same = λ w l. absurd (omega (arith, l)); spends = record { at = call_with-spends p limit n callee x given c } }
call_with-same p limit (suc lim) zero m h k callee x given c = absurd (omega (arith, h))
call_with-same p limit (suc lim) (suc n) zero h k callee x given c = absurd (omega (arith, k))
call_with-same p limit (suc lim) (suc n) (suc m) h k callee x given c =
    open_call-same lim limit _ _
    (run_callee-same p lim (call_with p limit n) (call_with p limit m) (call_with-same p limit lim n m (omega (arith, h)) (omega (arith, k))) callee x given c)

-- any fuel above the turns left gives what one more unit than they gives
pub call_with-enough : (p : Checked) (limit n : ℕ) (callee : Callee) (x : Reference) (given : List Argument) (c : Context) (w : World) → w.turns < n → call_with p limit n callee x given c w ≡ call_with p limit (suc w.turns) callee x given c w
call_with-enough p limit n callee x given c w l = (call_with-same p limit (suc w.turns) n (suc w.turns) (omega (arith, l)) (omega arith) callee x given c).same w (omega arith)
