-- No computation gives turns back.
use Rattle.std.specs.Prelude.{◌≡◌, ◌≤◌, ℕ, zero, suc, Bool, true, false, [], ◌∷◌, Option, Some, None, if◌then◌else◌, List}
use Rattle.std.proofs.Common.{arith, map}
use Rattle.meaning_forms.specs.Class.{object_type}
use Rattle.meaning_forms.specs.World.{World, Reference, Exception, building, native, foreign}
use Rattle.meaning_forms.specs.Context.{Context, barrier, guarded_by, handling}
use Rattle.meaning_forms.specs.Outcome.{turns_left, Action, Result, done, stopped, Stop, thrown, cancelled, out_of_turns, pure, stop, world, continued, ◌>>=◌, ◌>>◌, change, emit}
use Rattle.meaning_forms.specs.Running.{Running, Callee, Argument}
use Rattle.meaning_forms.specs.Terminate.{terminate, terminate_with, run_terminate_handler, after_terminate_handler, enter_and_terminate, terminate_because, after_barrier, behind_barrier}
use Rattle.std.specs.Prelude.{ℤ, pos, negsuc, refl, ◌+◌}
use Rattle.eh_outer.specs.declared.module.Reply.{Reply}
use Rattle.eh_outer.specs.declared.module.Reply.TheVariants.{Value, Raise}
use Rattle.meaning_forms.specs.World.{whole, part}
use Rattle.meaning_forms.specs.Part.{Part, cell, object}
use Rattle.meaning_forms.specs.Outcome.{new_object, read_part, read, write}
use Rattle.meaning_forms.specs.Throw.{raise_exception, throw_new, rethrow_newest, new_exception, free, after_building, keep, raise_foreign, take_reply, call_module}
use Rattle.meaning_forms.specs.Scope.{unwound, after_scope, scope, after_part, until_complete}
use Rattle.meaning_forms.specs.Construct.{default_object, copy_object, destroy}
use Rattle.cxx_ast.specs.declared.types.Ty.{Ty}
use Rattle.cxx_ast.specs.declared.types.Ty.TheVariants.{Int, Object}
use Rattle.cxx_ast.specs.declared.types.Param.{Param}
use Rattle.cxx_ast.specs.declared.name.Name.{Name}
use Rattle.cxx_ast.specs.declared.name.Bound.{Bound}
use Rattle.cxx_ast.specs.declared.name.Bound.TheVariants.{Class, Func, Method, Builtin as BuiltinBound}
use Rattle.cxx_ast.specs.declared.name.Builtin.{Builtin}
use Rattle.cxx_ast.specs.declared.name.Builtin.TheVariants.{WriteInt, ReadByte, Exit, Module, Cancel, Terminate, SetTerminate, SetUnexpected, Uncaught, BadException}
use Rattle.cxx_ast.specs.declared.expression.UnaryOp.{UnaryOp}
use Rattle.cxx_ast.specs.declared.expression.UnaryOp.TheVariants.{Minus, Not}
use Rattle.cxx_ast.specs.declared.expression.BinaryOp.{BinaryOp}
use Rattle.cxx_ast.specs.declared.expression.BinaryOp.TheVariants.{Add, Subtract, Multiply, Divide, Remainder, Less, Greater, LessEqual, GreaterEqual, Equal, NotEqual, And, Or}
use Rattle.cxx_ast.specs.Plain.{Expression, number, path, paren, unary, binary, call, std_call, Expressions, no_expressions, expression_then, Statement, block, empty, if_else, while, return, break, continue, throw, try, assign, evaluate, local_int, local_ref, local_object, Else, no_else, else_do, Statements, no_statements, statement_then, Handlers, no_handlers, handler_then}
use Rattle.meaning_forms.specs.World.{Installed}
use Rattle.meaning_forms.specs.Running.{by_value, by_reference}
use Rattle.cxx_ast.specs.Plain.{Checked, Specification, listed, noexcept, Function}
use Rattle.meaning_forms.specs.Guard.{allows}
use Rattle.meaning_forms.specs.World.{type_at}
use Rattle.meaning_forms.specs.Outcome.{Flow, normal, breaks, continues, returns}
use Rattle.meaning_forms.specs.Running.{Constructor, declared, implicit_default, implicit_copy, function, method, constructor, destructor}
use Rattle.meaning_forms.specs.Statement.{spend, spend_turn, followed, ◌then◌, looped, loop, int_thrown, object_thrown, call_thrown, part_thrown, lvalue_thrown, operand_thrown, throwing, returning, local_cell, after_try, statement, otherwise, statements, caught}
use Rattle.meaning_forms.specs.Call.{value_returned, run_function, build_parts, default_part, copy_part, initial_value, initial_part, construction, run_constructor, destroy_parts, run_destructor, run_callee, after_call, open_call, running}
use Rattle.meaning_forms.specs.Frame.{Frame, with_argument, with_arguments}
use Rattle.meaning_forms.specs.Handler.{enter, after_destructor, give_back, let_go, while_handled, new_copy, catch_parameter, destroy_parameter, handle, goes_on}
use Rattle.meaning_forms.specs.Specification.{new_bad_exception, pass_on, after_unexpected, run_unexpected_handler, unexpected, after_extent, end_noexcept, after_specification, under_specification}
use Rattle.meaning_forms.specs.Arithmetic.{in_range, dividing, unary_value, binary_value}
use Rattle.meaning_forms.specs.Expression.{passed, next_byte, builtin, called, with_right_side, value_of, arguments, construct}
use Rattle.meaning_forms.specs.Class.{ObjectType, int_type, class_type}

-- a computation gives no turn back
pub record Spends (A : Type 0) (act : Action A) : Type 0 where
  pub at : (w : World) → turns_left (act w) ≤ w.turns

-- neither does what follows a result
pub continued-spends : {A B : Type 0} (n : ℕ) (m : Result A) (next : A → Action B) → turns_left m ≤ n → ((a : A) → Spends B (next a)) → turns_left (continued m next) ≤ n
continued-spends n (done a w) next h k = omega (arith, (k a).at w)
continued-spends n (stopped s w) next h k = h

pub bind-spends : {A B : Type 0} (first : Action A) (next : A → Action B) → Spends A first → ((a : A) → Spends B (next a)) → Spends B (first >>= next)
bind-spends first next h k = record { at = λ w. continued-spends w.turns (first w) next (h.at w) k }

pub if-spends : {A : Type 0} (b : Bool) (x y : Action A) → Spends A x → Spends A y → Spends A (if b then x else y)
if-spends true x y h k = h
if-spends false x y h k = k

pub stop-spends : (A : Type 0) (s : Stop) → Spends A (stop s)
stop-spends A s = record { at = λ w. search arith }

pub world-spends : Spends World world
world-spends = record { at = λ w. search arith }

pub emit-spends : (i : _) → Spends (Unit {0}) (emit i)
emit-spends i = record { at = λ w. search arith }

-- the calls of a program give no turn back
abbrev pub CallsSpend : Running → Type 0
CallsSpend r = (callee : Callee) (this : Reference) (given : List Argument) (c : Context) (w : World) → turns_left (r.call callee this given c w) ≤ w.turns

pub after_terminate_handler-spends : {A : Type 0} (B : Type 0) (n : ℕ) (m : Result A) → turns_left m ≤ n → turns_left (after_terminate_handler {B = B} m) ≤ n
after_terminate_handler-spends B n (done a w) h = h
after_terminate_handler-spends B n (stopped (thrown e) w) h = h
after_terminate_handler-spends B n (stopped (cancelled e) w) h = h
after_terminate_handler-spends B n (stopped s w) h = h

pub run_terminate_handler-spends : (A : Type 0) (r : Running) (handler : Option ℕ) (c : Context) → CallsSpend r → Spends A (run_terminate_handler r handler c)
run_terminate_handler-spends A r None c h = search stop-spends
run_terminate_handler-spends A r (Some f) c h = record { at = λ w. search (after_terminate_handler-spends, h) }

pub terminate_with-spends : (A : Type 0) (r : Running) (handler : Option ℕ) (c : Context) → CallsSpend r → Spends A (terminate_with r handler c)
terminate_with-spends A r handler c h = search (if-spends, stop-spends, run_terminate_handler-spends)

pub terminate-spends : (A : Type 0) (r : Running) (c : Context) → CallsSpend r → Spends A (terminate r c)
terminate-spends A r c h = search (bind-spends, world-spends, terminate_with-spends)

pub enter_and_terminate-spends : (A : Type 0) (r : Running) (e : ℕ) (x : Exception) (c : Context) → CallsSpend r → Spends A (enter_and_terminate r e x c)
enter_and_terminate-spends A r e (native t o kept) c h = search (bind-spends, emit-spends, terminate_with-spends)
enter_and_terminate-spends A r e _ c h = search terminate-spends

pub terminate_because-spends : (A : Type 0) (r : Running) (e : ℕ) (c : Context) → CallsSpend r → Spends A (terminate_because r e c)
terminate_because-spends A r e c h = search (bind-spends, world-spends, if-spends, stop-spends, enter_and_terminate-spends)

pub raise_exception-spends : (A : Type 0) (r : Running) (e : ℕ) (c : Context) → CallsSpend r → Spends A (raise_exception r e c)
raise_exception-spends A r e c h = search (bind-spends, world-spends, if-spends, stop-spends, terminate_because-spends)

pub pure-spends : (A : Type 0) (a : A) → Spends A (pure a)
pure-spends A a = record { at = λ w. search arith }

pub new_object-spends : (a : Part) → Spends ℕ (new_object a)
new_object-spends a = record { at = λ w. search arith }

pub new_exception-spends : (x : Exception) (item : _) → Spends ℕ (new_exception x item)
new_exception-spends x item = record { at = λ w. search arith }

pub free-spends : (e : ℕ) → Spends (Unit {0}) (free e)
free-spends e = record { at = λ w. search arith }

pub keep-spends : (e o : ℕ) → Spends (Unit {0}) (keep e o)
keep-spends e o = record { at = λ w. search arith }

pub write-spends : (x : Reference) (v : ℤ) → Spends (Unit {0}) (write x v)
write-spends x v = record { at = λ w. search arith }

pub read_part-spends : (a : Part) → Spends ℤ (read_part a)
read_part-spends (cell None) = search stop-spends
read_part-spends (cell (Some v)) = search pure-spends
read_part-spends (object k parts) = search stop-spends

pub read-spends : (x : Reference) → Spends ℤ (read x)
read-spends x = record { at = λ w. (read_part-spends _).at w }

pub after_barrier-spends : (A : Type 0) (r : Running) (c : Context) (n : ℕ) (m : Result A) → CallsSpend r → turns_left m ≤ n → turns_left (after_barrier r c m) ≤ n
after_barrier-spends A r c n (stopped (cancelled k) w) h g = omega (arith, (terminate-spends A r c h).at w, g)
after_barrier-spends A r c n m h g = g

pub behind_barrier-spends : (A : Type 0) (r : Running) (c : Context) (act : Context → Action A) → CallsSpend r → ((d : Context) → Spends A (act d)) → Spends A (behind_barrier r c act)
behind_barrier-spends A r c act h k = record { at = λ w. after_barrier-spends A r c _ (act (guarded_by barrier c) w) h ((k (guarded_by barrier c)).at w) }

pub after_building-spends : (A : Type 0) (e n : ℕ) (m : Result A) → turns_left m ≤ n → turns_left (after_building e m) ≤ n
after_building-spends A e n (stopped (thrown f) w) g = g
after_building-spends A e n (stopped (cancelled f) w) g = g
after_building-spends A e n m g = g

pub building-spends : (e : ℕ) (build : Action ℕ) → Spends ℕ build → Spends ℕ (λ w. after_building e (build w))
building-spends e build k = record { at = λ w. after_building-spends ℕ e _ (build w) (k.at w) }

pub throw_new-spends : (A : Type 0) (r : Running) (c : Context) (build : Action ℕ) → CallsSpend r → Spends ℕ build → Spends A (throw_new r c build)
throw_new-spends A r c build h k =
    search (bind-spends, world-spends, if-spends, terminate-spends, new_exception-spends, building-spends, keep-spends, raise_exception-spends) depth 9

pub rethrow-spends : (A : Type 0) (r : Running) (es : List ℕ) (c : Context) → CallsSpend r → Spends A (rethrow_newest r es c)
rethrow-spends A r [] c h = search terminate-spends
rethrow-spends A r (e ∷ es) c h = search (if-spends, terminate-spends, raise_exception-spends)

pub unwound-spends : (A : Type 0) (r : Running) (c : Context) (act : Context → Action (Unit {0})) (s : Stop) → CallsSpend r → ((d : Context) → Spends (Unit {0}) (act d)) → Spends A (unwound r c act s)
unwound-spends A r c act (thrown e) h k = search (bind-spends, behind_barrier-spends, stop-spends)
unwound-spends A r c act (cancelled n) h k = search (bind-spends, behind_barrier-spends, stop-spends)
unwound-spends A r c act s h k = search stop-spends

pub after_scope-spends : (A : Type 0) (r : Running) (c : Context) (act : Context → Action (Unit {0})) (n : ℕ) (m : Result A) → CallsSpend r → ((d : Context) → Spends (Unit {0}) (act d)) → turns_left m ≤ n → turns_left (after_scope r c act m) ≤ n
after_scope-spends A r c act n (done a w) h k g =
    let p : Spends A (act c >> pure a) = search (bind-spends, pure-spends, k) in omega (arith, p.at w, g)
after_scope-spends A r c act n (stopped s w) h k g = omega (arith, (unwound-spends A r c act s h k).at w, g)

pub scope-spends : (A : Type 0) (r : Running) (c : Context) (act : Context → Action (Unit {0})) (m : Action A) → CallsSpend r → ((d : Context) → Spends (Unit {0}) (act d)) → Spends A m → Spends A (scope r c act m)
scope-spends A r c act m h k g = record { at = λ w. after_scope-spends A r c act _ (m w) h k (g.at w) }

pub after_part-spends : (A : Type 0) (r : Running) (c : Context) (act : Context → Action (Unit {0})) (n : ℕ) (m : Result A) → CallsSpend r → ((d : Context) → Spends (Unit {0}) (act d)) → turns_left m ≤ n → turns_left (after_part r c act m) ≤ n
after_part-spends A r c act n (done a w) h k g = g
after_part-spends A r c act n (stopped s w) h k g = omega (arith, (unwound-spends A r c act s h k).at w, g)

pub until_complete-spends : (A : Type 0) (r : Running) (c : Context) (act : Context → Action (Unit {0})) (m : Action A) → CallsSpend r → ((d : Context) → Spends (Unit {0}) (act d)) → Spends A m → Spends A (until_complete r c act m)
until_complete-spends A r c act m h k g = record { at = λ w. after_part-spends A r c act _ (m w) h k (g.at w) }

pub call-spends : (r : Running) (callee : Callee) (this : Reference) (given : List Argument) (c : Context) → CallsSpend r → Spends ℤ (r.call callee this given c)
call-spends r callee this given c h = record { at = h callee this given c }

pub default_object-spends : (r : Running) (k : ℕ) (x : Reference) (c : Context) → CallsSpend r → Spends (Unit {0}) (default_object r k x c)
default_object-spends r k x c h = search (bind-spends, call-spends, pure-spends)

pub copy_object-spends : (r : Running) (k : ℕ) (x y : Reference) (c : Context) → CallsSpend r → Spends (Unit {0}) (copy_object r k x y c)
copy_object-spends r k x y c h = search (bind-spends, call-spends, pure-spends)

pub destroy-spends : (r : Running) (t : ObjectType) (x : Reference) (c : Context) → CallsSpend r → Spends (Unit {0}) (destroy r t x c)
destroy-spends r int_type x c h = search pure-spends
destroy-spends r (class_type k) x c h = search (bind-spends, call-spends, pure-spends)

pub raise_foreign-spends : (A : Type 0) (r : Running) (k t : ℕ) (c : Context) → CallsSpend r → Spends A (raise_foreign r k t c)
raise_foreign-spends A r k t c h = search (bind-spends, world-spends, if-spends, terminate-spends, new_exception-spends, raise_exception-spends) depth 9

pub change-spends : (f : World → World) → ((w : World) → (f w).turns ≤ w.turns) → Spends (Unit {0}) (change f)
change-spends f h = record { at = h }

pub take_reply-spends : (r : Running) (k : ℕ) (o : Option (List Reply)) (c : Context) → CallsSpend r → Spends ℤ (take_reply r k o c)
take_reply-spends r k None c h = search pure-spends
take_reply-spends r k (Some []) c h = search pure-spends
take_reply-spends r k (Some (Value v ∷ left)) c h = search (bind-spends, change-spends, pure-spends, arith)
take_reply-spends r k (Some (Raise t ∷ left)) c h = search (bind-spends, change-spends, raise_foreign-spends, arith)

pub call_module-spends : (r : Running) (k : ℤ) (c : Context) → CallsSpend r → Spends ℤ (call_module r k c)
call_module-spends r (negsuc k) c h = search pure-spends
call_module-spends r (pos k) c h = search (bind-spends, world-spends, take_reply-spends)

pub enter-spends : (r : Running) (e : ℕ) (c : Context) → CallsSpend r → Spends (Unit {0}) (enter r e c)
enter-spends r e c h = search (bind-spends, world-spends, if-spends, terminate-spends, emit-spends)

pub after_destructor-spends : (e n : ℕ) (m : Result (Unit {0})) → turns_left m ≤ n → turns_left (after_destructor e m) ≤ n
after_destructor-spends e n (done a w) g = g
after_destructor-spends e n (stopped (thrown f) w) g = g
after_destructor-spends e n (stopped (cancelled f) w) g = g
after_destructor-spends e n (stopped s w) g = g

pub destructor-spends : (e : ℕ) (act : Action (Unit {0})) → Spends (Unit {0}) act → Spends (Unit {0}) (λ w. after_destructor e (act w))
destructor-spends e act k = record { at = λ w. after_destructor-spends e _ (act w) (k.at w) }

pub give_back-spends : (r : Running) (e : ℕ) (x : Exception) (c : Context) → CallsSpend r → Spends (Unit {0}) (give_back r e x c)
give_back-spends r e building c h = search pure-spends
give_back-spends r e (native t o kept) c h =
    bind-spends _ _ (emit-spends _) (λ u. destructor-spends e (destroy r t (whole o) c) (destroy-spends r t (whole o) c h))
give_back-spends r e (foreign k t) c h = search (bind-spends, emit-spends, change-spends, arith)

pub let_go-spends : (r : Running) (e : ℕ) (kept : Bool) (c : Context) → CallsSpend r → Spends (Unit {0}) (let_go r e kept c)
let_go-spends r e kept c h = search (bind-spends, world-spends, emit-spends, if-spends, pure-spends, give_back-spends) depth 9

pub while_handled-spends : (A : Type 0) (r : Running) (e : ℕ) (c : Context) (act : Context → Action A) → CallsSpend r → ((d : Context) → Spends A (act d)) → Spends A (while_handled r e c act)
while_handled-spends A r e c act h k =
    record { at = λ w. after_scope-spends A r c (let_go r e (goes_on e c (act (handling e c) w))) _ (act (handling e c) w) h (λ d. let_go-spends r e _ d h) ((k (handling e c)).at w) }

pub new_copy-spends : (r : Running) (k : ℕ) (x : Reference) (c : Context) → CallsSpend r → Spends ℕ (new_copy r k x c)
new_copy-spends r k x c h = search (bind-spends, new_object-spends, behind_barrier-spends, copy_object-spends, pure-spends) depth 9

pub catch_parameter-spends : (r : Running) (t : Option Ty) (x : Reference) (c : Context) → CallsSpend r → Spends Reference (catch_parameter r t x c)
catch_parameter-spends r None x c h = search pure-spends
catch_parameter-spends r (Some Int) x c h = search (bind-spends, read-spends, new_object-spends, pure-spends)
catch_parameter-spends r (Some (Object n)) x c h = search (bind-spends, world-spends, new_copy-spends, pure-spends)
catch_parameter-spends r (Some t) x c h = search (bind-spends, world-spends, pure-spends)

pub destroy_parameter-spends : (r : Running) (t : Option Ty) (x : Reference) (c : Context) → CallsSpend r → Spends (Unit {0}) (destroy_parameter r t x c)
destroy_parameter-spends r (Some (Object n)) x c h = search destroy-spends
destroy_parameter-spends r t x c h = search pure-spends

pub handle-spends : (A : Type 0) (r : Running) (e : ℕ) (t : Option Ty) (n : Option Name) (body : Frame → Context → Action A) (f : Frame) (c : Context) → CallsSpend r → ((g : Frame) (d : Context) → Spends A (body g d)) → Spends A (handle r e t n body f c)
handle-spends A r e t n body f c h k =
    search (bind-spends, world-spends, catch_parameter-spends, enter-spends, while_handled-spends, scope-spends, destroy_parameter-spends, k) depth 9

pub new_bad_exception-spends : (r : Running) (c : Context) → CallsSpend r → Spends ℕ (new_bad_exception r c)
new_bad_exception-spends r c h = search (bind-spends, new_object-spends, default_object-spends, pure-spends)

pub pass_on-spends : (A : Type 0) (r : Running) (types : List ObjectType) (kept : Installed) (f : ℕ) (c : Context) → CallsSpend r → Spends A (pass_on r types kept f c)
pass_on-spends A r types kept f c h =
    search (bind-spends, world-spends, if-spends, raise_exception-spends, throw_new-spends, new_bad_exception-spends, terminate_with-spends) depth 9

pub after_unexpected-spends : (A : Type 0) (r : Running) (types : List ObjectType) (kept : Installed) (c : Context) (n : ℕ) (m : Result ℤ) → CallsSpend r → turns_left m ≤ n → turns_left (after_unexpected {A = A} r types kept c m) ≤ n
after_unexpected-spends A r types kept c n (done v w) h g = omega (arith, (terminate_with-spends A r kept.terminate_handler c h).at w, g)
after_unexpected-spends A r types kept c n (stopped (thrown f) w) h g =
    let p : Spends A (enter r f c >> while_handled r f c (pass_on r types kept f)) = search (bind-spends, enter-spends, while_handled-spends, pass_on-spends) in
    omega (arith, p.at w, g)
after_unexpected-spends A r types kept c n (stopped s w) h g = g

pub run_unexpected_handler-spends : (A : Type 0) (r : Running) (types : List ObjectType) (kept : Installed) (o : Option ℕ) (c : Context) → CallsSpend r → Spends A (run_unexpected_handler r types kept o c)
run_unexpected_handler-spends A r types kept None c h = search terminate_with-spends
run_unexpected_handler-spends A r types kept (Some f) c h = record { at = λ w. search (after_unexpected-spends, h) }

pub unexpected-spends : (A : Type 0) (r : Running) (types : List ObjectType) (e : ℕ) (c : Context) → CallsSpend r → Spends A (unexpected r types e c)
unexpected-spends A r types e c h = search (bind-spends, world-spends, enter-spends, while_handled-spends, run_unexpected_handler-spends) depth 9

pub after_extent-spends : (A : Type 0) (r : Running) (types : List ObjectType) (c : Context) (n : ℕ) (m : Result A) → CallsSpend r → turns_left m ≤ n → turns_left (after_extent r types c m) ≤ n
after_extent-spends A r types c n (stopped (thrown e) w) h g =
    let p : Spends A (if allows r.program types (type_at w e) then stop (thrown e) else unexpected r types e c) = search (if-spends, stop-spends, unexpected-spends) in
    omega (arith, p.at w, g)
after_extent-spends A r types c n m h g = g

pub after_try-spends : (A : Type 0) (handler : ℕ → Action A) (n : ℕ) (m : Result A) → ((e : ℕ) → Spends A (handler e)) → turns_left m ≤ n → turns_left (after_try handler m) ≤ n
after_try-spends A handler n (stopped (thrown e) w) k g = omega (arith, (k e).at w, g)
after_try-spends A handler n m k g = g

pub end_noexcept-spends : (A : Type 0) (r : Running) (c : Context) (e : ℕ) → CallsSpend r → Spends A (end_noexcept r c e)
end_noexcept-spends A r c e h = search (bind-spends, enter-spends, terminate-spends)

pub after_specification-spends : (A : Type 0) (r : Running) (s : Specification) (c : Context) (n : ℕ) (m : Result A) → CallsSpend r → turns_left m ≤ n → turns_left (after_specification r s c m) ≤ n
after_specification-spends A r (listed types) c n m h g = after_extent-spends A r (map object_type types) c n m h g
after_specification-spends A r (noexcept place b) c n m h g = after_try-spends A (end_noexcept r c) n m (λ e. end_noexcept-spends A r c e h) g

pub under_specification-spends : (A : Type 0) (r : Running) (o : Option Specification) (act : Context → Action A) (c : Context) → CallsSpend r → ((d : Context) → Spends A (act d)) → Spends A (under_specification r o act c)
under_specification-spends A r None act c h k = k c
under_specification-spends A r (Some s) act c h k = record { at = λ w. after_specification-spends A r s c _ (act _ w) h ((k _).at w) }

pub with_argument-spends : (x : Param) (a : Argument) (f : Frame) → Spends Frame (with_argument x a f)
with_argument-spends x (by_value v) f = search (bind-spends, new_object-spends, pure-spends)
with_argument-spends x (by_reference y) f = search pure-spends

pub with_arguments-spends : (xs : List Param) (given : List Argument) (f : Frame) → Spends Frame (with_arguments xs given f)
with_arguments-spends [] given f = search pure-spends
with_arguments-spends (x ∷ xs) [] f = search pure-spends
with_arguments-spends (x ∷ xs) (a ∷ given) f = bind-spends _ _ (with_argument-spends x a f) (λ g. with_arguments-spends xs given g)

pub in_range-spends : (z : ℤ) → Spends ℤ (in_range z)
in_range-spends z = search (if-spends, pure-spends, stop-spends)

pub dividing-spends : (x y v : ℤ) → Spends ℤ (dividing x y v)
dividing-spends x y v = search (if-spends, pure-spends, stop-spends)

pub unary_value-spends : (op : UnaryOp) (x : ℤ) → Spends ℤ (unary_value op x)
unary_value-spends Minus x = search in_range-spends
unary_value-spends Not x = search pure-spends

pub binary_value-spends : (op : BinaryOp) (x y : ℤ) → Spends ℤ (binary_value op x y)
binary_value-spends Add x y = search in_range-spends
binary_value-spends Subtract x y = search in_range-spends
binary_value-spends Multiply x y = search in_range-spends
binary_value-spends Divide x y = search dividing-spends
binary_value-spends Remainder x y = search dividing-spends
binary_value-spends Less x y = search pure-spends
binary_value-spends Greater x y = search pure-spends
binary_value-spends LessEqual x y = search pure-spends
binary_value-spends GreaterEqual x y = search pure-spends
binary_value-spends Equal x y = search pure-spends
binary_value-spends NotEqual x y = search pure-spends
binary_value-spends And x y = search pure-spends
binary_value-spends Or x y = search pure-spends

pub passed-spends : (r : Running) (f : Frame) (types : List Ty) (e : Expression) (m : Action ℤ) → Spends ℤ m → Spends Argument (passed r f types e m)
passed-spends r f [] e m k = search (bind-spends, pure-spends)
passed-spends r f (t ∷ types) e m k = search (bind-spends, world-spends, if-spends, pure-spends) depth 9

pub next_byte-spends : (bytes : List ℕ) → Spends ℤ (next_byte bytes)
next_byte-spends [] = search pure-spends
next_byte-spends (b ∷ bytes) = search (bind-spends, change-spends, pure-spends, arith)

pub builtin-spends : (r : Running) (b : Builtin) (es : Expressions) (given : Action (List Argument)) (c : Context) → CallsSpend r → Spends (List Argument) given → Spends ℤ (builtin r b es given c)
builtin-spends r WriteInt es given c h k = search (bind-spends, emit-spends, pure-spends)
builtin-spends r ReadByte es given c h k = search (bind-spends, world-spends, next_byte-spends)
builtin-spends r Exit es given c h k = search (bind-spends, stop-spends)
builtin-spends r Module es given c h k = search (bind-spends, call_module-spends)
builtin-spends r Cancel es given c h k = search (bind-spends, stop-spends)
builtin-spends r Terminate es given c h k = search terminate-spends
builtin-spends r SetTerminate es given c h k = search (bind-spends, change-spends, pure-spends, arith)
builtin-spends r SetUnexpected es given c h k = search (bind-spends, change-spends, pure-spends, arith)
builtin-spends r Uncaught es given c h k = search pure-spends
builtin-spends r BadException es given c h k = search pure-spends

pub called-spends : (r : Running) (f : Frame) (b : Bound) (names : List Name) (es : Expressions) (given : Action (List Argument)) (c : Context) → CallsSpend r → Spends (List Argument) given → Spends ℤ (called r f b names es given c)
called-spends r f (Func n) names es given c h k = search (bind-spends, call-spends)
called-spends r f (Method m i) names es given c h k = search (bind-spends, world-spends, call-spends)
called-spends r f (BuiltinBound b) names es given c h k = search builtin-spends
called-spends r f b names es given c h k = search pure-spends

pub with_right_side-spends : (op : BinaryOp) (x : ℤ) (o : Option ℤ) (m : Action ℤ) → Spends ℤ m → Spends ℤ (with_right_side op x o m)
with_right_side-spends op x (Some v) m k = search pure-spends
with_right_side-spends op x None m k = search (bind-spends, binary_value-spends)

mutual
  pub value_of-spends : (r : Running) (f : Frame) (e : Expression) (c : Context) → CallsSpend r → Spends ℤ (value_of r f e c)
  value_of-spends r f (number v place) c h = search pure-spends
  value_of-spends r f (path names) c h = search (bind-spends, world-spends, read-spends)
  value_of-spends r f (paren e place) c h = value_of-spends r f e c h
  value_of-spends r f (unary op e place) c h = bind-spends _ _ (value_of-spends r f e c h) (λ x. unary_value-spends op x)
  value_of-spends r f (binary op a b) c h = bind-spends _ _ (value_of-spends r f a c h) (λ x. with_right_side-spends op x _ _ (value_of-spends r f b c h))
  value_of-spends r f (call names es) c h = called-spends r f _ _ es _ c h (arguments-spends r f es _ c h)
  value_of-spends r f (std_call n es place) c h = called-spends r f _ _ es _ c h (arguments-spends r f es _ c h)

  pub arguments-spends : (r : Running) (f : Frame) (es : Expressions) (types : List Ty) (c : Context) → CallsSpend r → Spends (List Argument) (arguments r f es types c)
  arguments-spends r f no_expressions types c h = search pure-spends
  arguments-spends r f (expression_then e es) types c h =
      bind-spends _ _ (passed-spends r f types e _ (value_of-spends r f e c h)) (λ a. bind-spends _ _ (arguments-spends r f es _ c h) (λ given. pure-spends _ _))

pub construct-spends : (r : Running) (f : Frame) (k : ℕ) (es : Expressions) (x : Reference) (c : Context) → CallsSpend r → Spends (Unit {0}) (construct r f k es x c)
construct-spends r f k es x c h = search (bind-spends, world-spends, arguments-spends, call-spends, pure-spends) depth 9

pub spend-spends : (n : ℕ) (w : World) → w.turns ≡ n → turns_left (spend n w) ≤ n
spend-spends zero w e = omega (arith, e)
spend-spends (suc n) w e = omega arith

pub spend_turn-spends : Spends (Unit {0}) spend_turn
spend_turn-spends = record { at = λ w. spend-spends w.turns w refl }

pub followed-spends : (m : Action Flow) (x : Flow) → Spends Flow m → Spends Flow (followed m x)
followed-spends m normal k = k
followed-spends m x k = search pure-spends

pub then-spends : (m next : Action Flow) → Spends Flow m → Spends Flow next → Spends Flow (m then next)
then-spends m next h k = bind-spends _ _ h (λ x. followed-spends next x k)

pub looped-spends : (m : Action Flow) (x : Flow) → Spends Flow m → Spends Flow (looped m x)
looped-spends m normal k = k
looped-spends m continues k = k
looped-spends m breaks k = search pure-spends
looped-spends m (returns v) k = search pure-spends

pub loop-spends : (n : ℕ) (test : Action ℤ) (body : Action Flow) → Spends ℤ test → Spends Flow body → Spends Flow (loop n test body)
loop-spends zero test body h k = search stop-spends
loop-spends (suc n) test body h k =
    bind-spends _ _ spend_turn-spends (λ u. bind-spends _ _ h (λ v. if-spends _ _ _ (pure-spends _ normal)
    (bind-spends _ _ k (λ x. looped-spends (loop n test body) x (loop-spends n test body h k)))))

pub int_thrown-spends : (r : Running) (f : Frame) (e : Expression) (c : Context) → CallsSpend r → Spends ℕ (int_thrown r f e c)
int_thrown-spends r f e c h = search (bind-spends, value_of-spends, new_object-spends)

pub object_thrown-spends : (r : Running) (f : Frame) (k : ℕ) (es : Expressions) (c : Context) → CallsSpend r → Spends ℕ (object_thrown r f k es c)
object_thrown-spends r f k es c h = search (bind-spends, new_object-spends, construct-spends, pure-spends)

pub call_thrown-spends : (r : Running) (f : Frame) (b : Bound) (e : Expression) (es : Expressions) (c : Context) → CallsSpend r → Spends ℕ (call_thrown r f b e es c)
call_thrown-spends r f (Class k) e es c h = search object_thrown-spends
call_thrown-spends r f (BuiltinBound BadException) e es c h = search object_thrown-spends
call_thrown-spends r f b e es c h = search int_thrown-spends

pub part_thrown-spends : (r : Running) (f : Frame) (e : Expression) (x : Reference) (t : ObjectType) (c : Context) → CallsSpend r → Spends ℕ (part_thrown r f e x t c)
part_thrown-spends r f e x int_type c h = search int_thrown-spends
part_thrown-spends r f e x (class_type k) c h = search new_copy-spends

pub lvalue_thrown-spends : (r : Running) (f : Frame) (e : Expression) (o : Option (List Name)) (c : Context) → CallsSpend r → Spends ℕ (lvalue_thrown r f e o c)
lvalue_thrown-spends r f e None c h = search int_thrown-spends
lvalue_thrown-spends r f e (Some names) c h = search (bind-spends, world-spends, part_thrown-spends)

pub operand_thrown-spends : (r : Running) (f : Frame) (e : Expression) (c : Context) → CallsSpend r → Spends ℕ (operand_thrown r f e c)
operand_thrown-spends r f (call names es) c h = search call_thrown-spends
operand_thrown-spends r f (std_call n es place) c h = search call_thrown-spends
operand_thrown-spends r f e c h = search lvalue_thrown-spends

pub throwing-spends : (r : Running) (f : Frame) (o : Option Expression) (c : Context) → CallsSpend r → Spends Flow (throwing r f o c)
throwing-spends r f None c h = search rethrow-spends
throwing-spends r f (Some e) c h = search (throw_new-spends, operand_thrown-spends)

pub returning-spends : (r : Running) (f : Frame) (o : Option Expression) (c : Context) → CallsSpend r → Spends Flow (returning r f o c)
returning-spends r f None c h = search pure-spends
returning-spends r f (Some e) c h = search (bind-spends, value_of-spends, pure-spends)

pub local_cell-spends : (r : Running) (f : Frame) (o : Option Expression) (c : Context) → CallsSpend r → Spends ℕ (local_cell r f o c)
local_cell-spends r f None c h = search new_object-spends
local_cell-spends r f (Some e) c h = search (bind-spends, value_of-spends, new_object-spends)

pub try-spends : (A : Type 0) (handler : ℕ → Action A) (m : Action A) → ((e : ℕ) → Spends A (handler e)) → Spends A m → Spends A (λ w. after_try handler (m w))
try-spends A handler m k g = record { at = λ w. after_try-spends A handler _ (m w) k (g.at w) }

mutual
  pub statement-spends : (r : Running) (s : Statement) (rest : Frame → Action Flow) (f : Frame) (c : Context) → CallsSpend r → ((g : Frame) → Spends Flow (rest g)) → Spends Flow (statement r s rest f c)
  statement-spends r (block ss) rest f c h k = then-spends _ _ (statements-spends r ss f c h) (k f)
  statement-spends r empty rest f c h k = k f
  statement-spends r (if_else e s t) rest f c h k =
      then-spends _ _ (bind-spends _ _ (value_of-spends r f e c h)
      (λ v. if-spends _ _ _ (otherwise-spends r t f c h) (statement-spends r s _ f c h (λ g. pure-spends _ normal)))) (k f)
  statement-spends r (while e s) rest f c h k =
      then-spends _ _ (bind-spends _ _ world-spends
      (λ w. loop-spends (suc w.turns) _ _ (value_of-spends r f e c h) (statement-spends r s (λ g. pure normal) f c h (λ g. pure-spends _ normal)))) (k f)
  statement-spends r (return place e) rest f c h k = returning-spends r f e c h
  statement-spends r (break place) rest f c h k = pure-spends _ _
  statement-spends r (continue place) rest f c h k = pure-spends _ _
  statement-spends r (throw place e) rest f c h k = throwing-spends r f e c h
  statement-spends r (try ss hs) rest f c h k =
      then-spends _ _ (try-spends _ _ _ (λ e. caught-spends r hs f c e h) (statements-spends r ss f _ h)) (k f)
  statement-spends r (assign names e) rest f c h k =
      bind-spends _ _ (value_of-spends r f e c h) (λ v. bind-spends _ _ world-spends (λ w. bind-spends _ _ (write-spends _ v) (λ u. k f)))
  statement-spends r (evaluate e) rest f c h k = bind-spends _ _ (value_of-spends r f e c h) (λ v. k f)
  statement-spends r (local_int n e) rest f c h k = bind-spends _ _ (local_cell-spends r f e c h) (λ o. k _)
  statement-spends r (local_ref x names) rest f c h k = bind-spends _ _ world-spends (λ w. k _)
  statement-spends r (local_object m n es) rest f c h k =
      search (bind-spends, new_object-spends, construct-spends, scope-spends, destroy-spends, k) depth 9

  pub otherwise-spends : (r : Running) (t : Else) (f : Frame) (c : Context) → CallsSpend r → Spends Flow (otherwise r t f c)
  otherwise-spends r no_else f c h = pure-spends _ _
  otherwise-spends r (else_do s) f c h = statement-spends r s _ f c h (λ g. pure-spends _ normal)

  pub statements-spends : (r : Running) (ss : Statements) (f : Frame) (c : Context) → CallsSpend r → Spends Flow (statements r ss f c)
  statements-spends r no_statements f c h = pure-spends _ _
  statements-spends r (statement_then s ss) f c h = statement-spends r s _ f c h (λ g. statements-spends r ss g c h)

  pub caught-spends : (r : Running) (hs : Handlers) (f : Frame) (c : Context) (e : ℕ) → CallsSpend r → Spends Flow (caught r hs f c e)
  caught-spends r no_handlers f c e h = stop-spends _ _
  caught-spends r (handler_then t n ss place hs) f c e h =
      bind-spends _ _ world-spends (λ w. if-spends _ _ _ (handle-spends _ r e t n _ f c h (λ g d. statements-spends r ss g d h)) (caught-spends r hs f c e h))

pub value_returned-spends : (b : Bool) (t : Ty) (x : Flow) → Spends ℤ (value_returned b t x)
value_returned-spends b t (returns (Some v)) = search pure-spends
value_returned-spends b t (returns None) = search pure-spends
value_returned-spends true t x = search pure-spends
value_returned-spends false Int x = search stop-spends
value_returned-spends false t x = search pure-spends

pub run_function-spends : (r : Running) (b : Bool) (f : Function) (x : Reference) (given : List Argument) (c : Context) → CallsSpend r → Spends ℤ (run_function r b f x given c)
run_function-spends r b f x given c h =
    search (bind-spends, with_arguments-spends, under_specification-spends, statements-spends, value_returned-spends) depth 9

pub build_parts-spends : (r : Running) (one : ℕ → ObjectType → Action (Unit {0})) (x : Reference) (i : ℕ) (ts : List ObjectType) (c : Context) (left : Action Flow) → CallsSpend r → ((j : ℕ) (t : ObjectType) → Spends (Unit {0}) (one j t)) → Spends Flow left → Spends Flow (build_parts r one x i ts c left)
build_parts-spends r one x i [] c left h k g = g
build_parts-spends r one x i (t ∷ ts) c left h k g =
    bind-spends _ _ (k i t) (λ u. until_complete-spends _ r c (destroy r t (part i x)) _ h (λ d. destroy-spends r t (part i x) d h)
    (build_parts-spends r one x (i + 1) ts c left h k g))

pub default_part-spends : (r : Running) (x : Reference) (c : Context) (i : ℕ) (t : ObjectType) → CallsSpend r → Spends (Unit {0}) (default_part r x c i t)
default_part-spends r x c i int_type h = search write-spends
default_part-spends r x c i (class_type k) h = search default_object-spends

pub copy_part-spends : (r : Running) (x y : Reference) (c : Context) (i : ℕ) (t : ObjectType) → CallsSpend r → Spends (Unit {0}) (copy_part r x y c i t)
copy_part-spends r x y c i int_type h = search (bind-spends, read-spends, write-spends)
copy_part-spends r x y c i (class_type k) h = search copy_object-spends

pub initial_value-spends : (r : Running) (f : Frame) (es : Expressions) (c : Context) → CallsSpend r → Spends ℤ (initial_value r f es c)
initial_value-spends r f no_expressions c h = search pure-spends
initial_value-spends r f (expression_then e es) c h = search value_of-spends

pub initial_part-spends : (r : Running) (f : Frame) (c : Context) (i : ℕ) (o : Option Expressions) (t : ObjectType) → CallsSpend r → Spends (Unit {0}) (initial_part r f c i o t)
initial_part-spends r f c i None int_type h = search pure-spends
initial_part-spends r f c i None (class_type k) h = search default_object-spends
initial_part-spends r f c i (Some es) int_type h = search (bind-spends, initial_value-spends, write-spends)
initial_part-spends r f c i (Some es) (class_type k) h = search construct-spends

pub construction-spends : (r : Running) (k : ℕ) (f : Function) (g : Frame) (c : Context) → CallsSpend r → Spends Flow (construction r k f g c)
construction-spends r k f g c h = search (build_parts-spends, initial_part-spends, statements-spends)

pub run_constructor-spends : (r : Running) (k : ℕ) (x : Constructor) (y : Reference) (given : List Argument) (c : Context) → CallsSpend r → Spends Flow (run_constructor r k x y given c)
run_constructor-spends r k implicit_default y given c h = search (build_parts-spends, default_part-spends, pure-spends)
run_constructor-spends r k implicit_copy y given c h = search (build_parts-spends, copy_part-spends, pure-spends)
run_constructor-spends r k (declared i) y given c h = search (bind-spends, with_arguments-spends, under_specification-spends, construction-spends)

pub destroy_parts-spends : (r : Running) (x : Reference) (i : ℕ) (ts : List ObjectType) (c : Context) (body : Action Flow) → CallsSpend r → Spends Flow body → Spends Flow (destroy_parts r x i ts c body)
destroy_parts-spends r x i [] c body h g = g
destroy_parts-spends r x i (t ∷ ts) c body h g =
    let others : Spends Flow (destroy_parts r x (i + 1) ts c body) = destroy_parts-spends r x (i + 1) ts c body h g in
    search (scope-spends, destroy-spends, others)

pub run_destructor-spends : (r : Running) (k : ℕ) (o : Option ℕ) (x : Reference) (c : Context) → CallsSpend r → Spends Flow (run_destructor r k o x c)
run_destructor-spends r k None x c h = search (destroy_parts-spends, pure-spends)
run_destructor-spends r k (Some i) x c h = search (under_specification-spends, destroy_parts-spends, statements-spends)

pub run_callee-spends : (r : Running) (callee : Callee) (x : Reference) (given : List Argument) (c : Context) → CallsSpend r → Spends ℤ (run_callee r callee x given c)
run_callee-spends r (function n) x given c h = search run_function-spends
run_callee-spends r (method k i) x given c h = search run_function-spends
run_callee-spends r (constructor k which) x given c h = search (bind-spends, run_constructor-spends, pure-spends)
run_callee-spends r (destructor k) x given c h = search (bind-spends, run_destructor-spends, pure-spends)

pub after_call-spends : (n : ℕ) (m : Result ℤ) → turns_left m ≤ n → turns_left (after_call m) ≤ n
after_call-spends n (done v w) g = g
after_call-spends n (stopped s w) g = g

pub calling-spends : (act : Action ℤ) → Spends ℤ act → Spends ℤ (λ w. after_call (act w))
calling-spends act k = record { at = λ w. after_call-spends _ (act w) (k.at w) }

pub open_call-spends : (limit : ℕ) (act : Action ℤ) → Spends ℤ act → Spends ℤ (open_call limit act)
open_call-spends limit act k =
    search (bind-spends, world-spends, if-spends, stop-spends, spend_turn-spends, change-spends, calling-spends, arith) depth 9

-- no call gives turns back
pub call_with-spends : (p : Checked) (limit fuel : ℕ) → CallsSpend (running p limit fuel)
call_with-spends p limit zero callee x given c w = (stop-spends ℤ out_of_turns).at w
call_with-spends p limit (suc fuel) callee x given c w =
    (open_call-spends limit _ (run_callee-spends (running p limit fuel) callee x given c (call_with-spends p limit fuel))).at w
