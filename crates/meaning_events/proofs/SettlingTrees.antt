-- What expressions and statements settle.
use Rattle.std.proofs.Common.{ℕ, zero, suc, ℤ, pos, List, [], ◌∷◌, Option, Some, None, refl, ap, ◌∙◌}
use Rattle.std.specs.Prelude.{◌||◌, if◌then◌else◌}
use Rattle.cxx_ast.specs.declared.types.Ty.{Ty}
use Rattle.cxx_ast.specs.declared.types.Param.{Param}
use Rattle.cxx_ast.specs.declared.name.Name.{Name}
use Rattle.cxx_ast.specs.declared.name.Bound.{Bound}
use Rattle.cxx_ast.specs.declared.name.Bound.TheVariants.{Class, Func, Method, Builtin as BuiltinBound}
use Rattle.cxx_ast.specs.declared.name.Builtin.{Builtin}
use Rattle.cxx_ast.specs.declared.name.Builtin.TheVariants.{WriteInt, ReadByte, Exit, Module, Cancel, Terminate, SetTerminate, SetUnexpected, Uncaught, BadException}
use Rattle.cxx_ast.specs.declared.expression.UnaryOp.{UnaryOp}
use Rattle.cxx_ast.specs.declared.expression.UnaryOp.TheVariants.{Minus, Not}
use Rattle.cxx_ast.specs.declared.expression.BinaryOp.{BinaryOp}
use Rattle.cxx_ast.specs.declared.expression.BinaryOp.TheVariants.{Add, Subtract, Multiply, Divide, Remainder, Less, Greater, LessEqual, GreaterEqual, Equal, NotEqual, And, Or}
use Rattle.cxx_ast.specs.Plain.{Expression, number, path, paren, unary, binary, call, std_call, Expressions, no_expressions, expression_then, Statement, block, empty, if_else, while, return, break, continue, throw, try, assign, evaluate, local_int, local_ref, local_object, Else, no_else, else_do, Statements, no_statements, statement_then, Handlers, no_handlers, handler_then, Checked}
use Rattle.meaning_forms.specs.World.{Reference, whole, type_at, nowhere, as_class}
use Rattle.meaning_forms.specs.Context.{Context, guarded_by, try_block}
use Rattle.meaning_forms.specs.Outcome.{Action, pure, Flow, normal, breaks, continues, returns}
use Rattle.meaning_forms.specs.Running.{Running, Argument, by_value, by_reference, function, method, constructor}
use Rattle.meaning_forms.specs.Construct.{destroy}
use Rattle.meaning_forms.specs.Statement.{followed, ◌then◌, looped, loop, int_thrown, object_thrown, call_thrown, part_thrown, lvalue_thrown, operand_thrown, throwing, returning, local_cell, statement, otherwise, statements, caught}
use Rattle.meaning_forms.specs.Frame.{Frame, with_argument, with_arguments, with_variable, lvalue}
use Rattle.meaning_forms.specs.Handler.{handle, new_copy, clause_of, clauses_of}
use Rattle.meaning_forms.specs.Arithmetic.{in_range, dividing, unary_value, binary_value}
use Rattle.meaning_forms.specs.Expression.{passed, next_byte, builtin, called, with_right_side, value_of, arguments, construct, function_named, value_at, constructor_types, constructor_chosen}
use Rattle.meaning_forms.specs.Class.{ObjectType, int_type, class_type, class_named, some_of, contains}
use Rattle.meaning_forms.specs.Guard.{matches}
use Rattle.meaning_events.specs.Fates.{story}
use Rattle.meaning_events.specs.Settles.{Nobody, Unless, CallsSettle}
use Rattle.meaning_events.proofs.Settling.{inside_settles}
use Rattle.meaning_events.proofs.SettlingThrows.{module_settles}
use Rattle.meaning_events.proofs.SettlingHandlers.{new_copy_inside, handle_settles}
use Rattle.meaning_events.proofs.SettlingSpecifications.{goes_on_out}
use Rattle.meaning_events.proofs.SettlingActions.{SettlesAct, CaughtSettles, bind_settles, change_settles, destroy_in, if_settles, line_settles, new_object_settles, pure_settles, read_settles, rethrow_in, scope_in, stop_cancelled, stop_ended, stop_turns, stop_undefined, terminated_settles, throw_in, tried_settles, try_settles, turn_settles, world_settles, write_settles}

pub with_argument_settles : {p : Checked} {c : Context} (x : Param) (a : Argument) (f : Frame) → SettlesAct p c Frame (with_argument x a f)
with_argument_settles x (by_value v) f = search (bind_settles, new_object_settles, pure_settles)
with_argument_settles x (by_reference y) f = search pure_settles

pub with_arguments_settles : {p : Checked} {c : Context} (xs : List Param) (given : List Argument) (f : Frame) → SettlesAct p c Frame (with_arguments xs given f)
with_arguments_settles [] given f = search pure_settles
with_arguments_settles (x ∷ xs) [] f = search pure_settles
with_arguments_settles (x ∷ xs) (a ∷ given) f = bind_settles _ _ (with_argument_settles x a f) (λ g. with_arguments_settles xs given g)

pub in_range_settles : {p : Checked} {c : Context} (z : ℤ) → SettlesAct p c ℤ (in_range z)
in_range_settles z = search (if_settles, pure_settles, stop_undefined)

pub dividing_settles : {p : Checked} {c : Context} (x y v : ℤ) → SettlesAct p c ℤ (dividing x y v)
dividing_settles x y v = search (if_settles, pure_settles, stop_undefined)

pub unary_value_settles : {p : Checked} {c : Context} (op : UnaryOp) (x : ℤ) → SettlesAct p c ℤ (unary_value op x)
unary_value_settles Minus x = search in_range_settles
unary_value_settles Not x = search pure_settles

pub binary_value_settles : {p : Checked} {c : Context} (op : BinaryOp) (x y : ℤ) → SettlesAct p c ℤ (binary_value op x y)
binary_value_settles Add x y = search in_range_settles
binary_value_settles Subtract x y = search in_range_settles
binary_value_settles Multiply x y = search in_range_settles
binary_value_settles Divide x y = search dividing_settles
binary_value_settles Remainder x y = search dividing_settles
binary_value_settles Less x y = search pure_settles
binary_value_settles Greater x y = search pure_settles
binary_value_settles LessEqual x y = search pure_settles
binary_value_settles GreaterEqual x y = search pure_settles
binary_value_settles Equal x y = search pure_settles
binary_value_settles NotEqual x y = search pure_settles
binary_value_settles And x y = search pure_settles
binary_value_settles Or x y = search pure_settles

pub passed_settles : {c : Context} (r : Running) (f : Frame) (types : List Ty) (e : Expression) (m : Action ℤ) → SettlesAct r.program c ℤ m → SettlesAct r.program c Argument (passed r f types e m)
passed_settles r f [] e m k = search (bind_settles, pure_settles)
passed_settles r f (t ∷ types) e m k = search (bind_settles, world_settles, if_settles, pure_settles) depth 9

pub next_byte_settles : {p : Checked} {c : Context} (bytes : List ℕ) → SettlesAct p c ℤ (next_byte bytes)
next_byte_settles [] = search pure_settles
next_byte_settles (b ∷ bytes) = bind_settles _ _ (change_settles (λ w. record w { input = bytes }) (λ w. refl)) (λ u. pure_settles ℤ (pos b))

pub builtin_settles : (r : Running) (b : Builtin) (es : Expressions) (given : Action (List Argument)) (c : Context) → CallsSettle r → SettlesAct r.program c (List Argument) given
    → SettlesAct r.program c ℤ (builtin r b es given c)
builtin_settles r WriteInt es given c h k = search (bind_settles, line_settles, pure_settles)
builtin_settles r ReadByte es given c h k = search (bind_settles, world_settles, next_byte_settles)
builtin_settles r Exit es given c h k = search (bind_settles, stop_ended)
builtin_settles r Module es given c h k = bind_settles _ _ k (λ vs. record { at = module_settles r h c (value_at vs 0) })
builtin_settles r Cancel es given c h k = search (bind_settles, stop_cancelled)
builtin_settles r Terminate es given c h k = search terminated_settles
builtin_settles r SetTerminate es given c h k =
    bind_settles _ _ (change_settles (λ w. record w { installed = record (w.installed) { terminate_handler = function_named es } }) (λ w. refl)) (λ u. pure_settles ℤ (pos 0))
builtin_settles r SetUnexpected es given c h k =
    bind_settles _ _ (change_settles (λ w. record w { installed = record (w.installed) { unexpected_handler = function_named es } }) (λ w. refl)) (λ u. pure_settles ℤ (pos 0))
builtin_settles r Uncaught es given c h k = search pure_settles
builtin_settles r BadException es given c h k = search pure_settles

pub called_settles : (r : Running) (f : Frame) (b : Bound) (names : List Name) (es : Expressions) (given : Action (List Argument)) (c : Context) → CallsSettle r
    → SettlesAct r.program c (List Argument) given → SettlesAct r.program c ℤ (called r f b names es given c)
called_settles r f (Func n) names es given c h k = bind_settles _ _ k (λ vs. record { at = h (function n) nowhere vs c })
called_settles r f (Method m i) names es given c h k = bind_settles _ _ k (λ vs. bind_settles _ _ world_settles (λ w. record { at = h (method m i) (as_class w m (lvalue r.program w f names)) vs c }))
called_settles r f (BuiltinBound b) names es given c h k = search builtin_settles
called_settles r f b names es given c h k = search pure_settles

pub with_right_side_settles : {p : Checked} {c : Context} (op : BinaryOp) (x : ℤ) (o : Option ℤ) (m : Action ℤ) → SettlesAct p c ℤ m → SettlesAct p c ℤ (with_right_side op x o m)
with_right_side_settles op x (Some v) m k = search pure_settles
with_right_side_settles op x None m k = search (bind_settles, binary_value_settles)

mutual
  pub value_of_settles : (r : Running) (f : Frame) (e : Expression) (c : Context) → CallsSettle r → SettlesAct r.program c ℤ (value_of r f e c)
  value_of_settles r f (number v place) c h = search pure_settles
  value_of_settles r f (path names) c h = search (bind_settles, world_settles, read_settles)
  value_of_settles r f (paren e place) c h = value_of_settles r f e c h
  value_of_settles r f (unary op e place) c h = bind_settles _ _ (value_of_settles r f e c h) (λ x. unary_value_settles op x)
  value_of_settles r f (binary op a b) c h = bind_settles _ _ (value_of_settles r f a c h) (λ x. with_right_side_settles op x _ _ (value_of_settles r f b c h))
  value_of_settles r f (call names es) c h = called_settles r f _ _ es _ c h (arguments_settles r f es _ c h)
  value_of_settles r f (std_call n es place) c h = called_settles r f _ _ es _ c h (arguments_settles r f es _ c h)

  pub arguments_settles : (r : Running) (f : Frame) (es : Expressions) (types : List Ty) (c : Context) → CallsSettle r → SettlesAct r.program c (List Argument) (arguments r f es types c)
  arguments_settles r f no_expressions types c h = search pure_settles
  arguments_settles r f (expression_then e es) types c h =
      bind_settles _ _ (passed_settles r f types e _ (value_of_settles r f e c h)) (λ a. bind_settles _ _ (arguments_settles r f es _ c h) (λ given. pure_settles _ _))

pub construct_settles : (r : Running) (f : Frame) (k : ℕ) (es : Expressions) (x : Reference) (c : Context) → CallsSettle r → SettlesAct r.program c (Unit {0}) (construct r f k es x c)
construct_settles r f k es x c h =
    bind_settles _ _ world_settles (λ w. bind_settles _ _ (arguments_settles r f es (constructor_types r.program k (constructor_chosen r.program w f k es)) c h)
    (λ given. bind_settles _ _ (record { at = h (constructor k (constructor_chosen r.program w f k es)) x given c }) (λ v. pure_settles _ _)))

pub followed_settles : {p : Checked} {c : Context} (m : Action Flow) (x : Flow) → SettlesAct p c Flow m → SettlesAct p c Flow (followed m x)
followed_settles m normal k = k
followed_settles m x k = search pure_settles

pub then_settles : {p : Checked} {c : Context} (m next : Action Flow) → SettlesAct p c Flow m → SettlesAct p c Flow next → SettlesAct p c Flow (m then next)
then_settles m next h k = bind_settles _ _ h (λ x. followed_settles next x k)

pub looped_settles : {p : Checked} {c : Context} (m : Action Flow) (x : Flow) → SettlesAct p c Flow m → SettlesAct p c Flow (looped m x)
looped_settles m normal k = k
looped_settles m continues k = k
looped_settles m breaks k = search pure_settles
looped_settles m (returns v) k = search pure_settles

pub loop_settles : {p : Checked} {c : Context} (n : ℕ) (test : Action ℤ) (body : Action Flow) → SettlesAct p c ℤ test → SettlesAct p c Flow body → SettlesAct p c Flow (loop n test body)
loop_settles zero test body h k = search stop_turns
loop_settles (suc n) test body h k =
    bind_settles _ _ turn_settles (λ u. bind_settles _ _ h (λ v. if_settles _ _ _ (pure_settles _ normal)
    (bind_settles _ _ k (λ x. looped_settles (loop n test body) x (loop_settles n test body h k)))))

pub int_thrown_settles : (r : Running) (f : Frame) (e : Expression) (c : Context) → CallsSettle r → SettlesAct r.program c ℕ (int_thrown r f e c)
int_thrown_settles r f e c h = search (bind_settles, value_of_settles, new_object_settles)

pub object_thrown_settles : (r : Running) (f : Frame) (k : ℕ) (es : Expressions) (c : Context) → CallsSettle r → SettlesAct r.program c ℕ (object_thrown r f k es c)
object_thrown_settles r f k es c h = search (bind_settles, new_object_settles, construct_settles, pure_settles)

pub call_thrown_settles : (r : Running) (f : Frame) (b : Bound) (e : Expression) (es : Expressions) (c : Context) → CallsSettle r → SettlesAct r.program c ℕ (call_thrown r f b e es c)
call_thrown_settles r f (Class k) e es c h = search object_thrown_settles
call_thrown_settles r f (BuiltinBound BadException) e es c h = search object_thrown_settles
call_thrown_settles r f b e es c h = search int_thrown_settles

pub part_thrown_settles : (r : Running) (f : Frame) (e : Expression) (x : Reference) (t : ObjectType) (c : Context) → CallsSettle r → SettlesAct r.program c ℕ (part_thrown r f e x t c)
part_thrown_settles r f e x int_type c h = search int_thrown_settles
part_thrown_settles r f e x (class_type k) c h = record { at = λ w tells. inside_settles r.program c.handled c.guards Nobody (story w) (new_copy r k x c w) (new_copy_inside r h k x c w tells) }

pub lvalue_thrown_settles : (r : Running) (f : Frame) (e : Expression) (o : Option (List Name)) (c : Context) → CallsSettle r → SettlesAct r.program c ℕ (lvalue_thrown r f e o c)
lvalue_thrown_settles r f e None c h = search int_thrown_settles
lvalue_thrown_settles r f e (Some names) c h = search (bind_settles, world_settles, part_thrown_settles)

pub operand_thrown_settles : (r : Running) (f : Frame) (e : Expression) (c : Context) → CallsSettle r → SettlesAct r.program c ℕ (operand_thrown r f e c)
operand_thrown_settles r f (call names es) c h = search call_thrown_settles
operand_thrown_settles r f (std_call n es place) c h = search call_thrown_settles
operand_thrown_settles r f e c h = search lvalue_thrown_settles

pub throwing_settles : (r : Running) (f : Frame) (o : Option Expression) (c : Context) → CallsSettle r → SettlesAct r.program c Flow (throwing r f o c)
throwing_settles r f None c h = rethrow_in Flow r c h
throwing_settles r f (Some e) c h = throw_in Flow r c (operand_thrown r f e c) h (operand_thrown_settles r f e c h)

pub returning_settles : (r : Running) (f : Frame) (o : Option Expression) (c : Context) → CallsSettle r → SettlesAct r.program c Flow (returning r f o c)
returning_settles r f None c h = search pure_settles
returning_settles r f (Some e) c h = search (bind_settles, value_of_settles, pure_settles)

pub local_cell_settles : (r : Running) (f : Frame) (o : Option Expression) (c : Context) → CallsSettle r → SettlesAct r.program c ℕ (local_cell r f o c)
local_cell_settles r f None c h = search new_object_settles
local_cell_settles r f (Some e) c h = search (bind_settles, value_of_settles, new_object_settles)

mutual
  pub statement_settles : (r : Running) (s : Statement) (rest : Frame → Action Flow) (f : Frame) (c : Context) → CallsSettle r → ((g : Frame) → SettlesAct r.program c Flow (rest g))
      → SettlesAct r.program c Flow (statement r s rest f c)
  statement_settles r (block ss) rest f c h k = then_settles _ _ (statements_settles r ss f c h) (k f)
  statement_settles r empty rest f c h k = k f
  statement_settles r (if_else e s t) rest f c h k =
      then_settles _ _ (bind_settles _ _ (value_of_settles r f e c h)
      (λ v. if_settles _ _ _ (otherwise_settles r t f c h) (statement_settles r s _ f c h (λ g. pure_settles _ normal)))) (k f)
  statement_settles r (while e s) rest f c h k =
      then_settles _ _ (bind_settles _ _ world_settles
      (λ w. loop_settles (suc w.turns) _ _ (value_of_settles r f e c h) (statement_settles r s (λ g. pure normal) f c h (λ g. pure_settles _ normal)))) (k f)
  statement_settles r (return place e) rest f c h k = returning_settles r f e c h
  statement_settles r (break place) rest f c h k = pure_settles _ _
  statement_settles r (continue place) rest f c h k = pure_settles _ _
  statement_settles r (throw place e) rest f c h k = throwing_settles r f e c h
  statement_settles r (try ss hs) rest f c h k =
      then_settles _ _ (try_settles r hs f c (statements r ss f (guarded_by (try_block (clauses_of hs)) c)) (λ e. caught_settles r hs f c e h)
      (statements_settles r ss f (guarded_by (try_block (clauses_of hs)) c) h)) (k f)
  statement_settles r (assign names e) rest f c h k =
      bind_settles _ _ (value_of_settles r f e c h) (λ v. bind_settles _ _ world_settles (λ w. bind_settles _ _ (write_settles _ v) (λ u. k f)))
  statement_settles r (evaluate e) rest f c h k = bind_settles _ _ (value_of_settles r f e c h) (λ v. k f)
  statement_settles r (local_int n e) rest f c h k = bind_settles _ _ (local_cell_settles r f e c h) (λ o. k _)
  statement_settles r (local_ref x names) rest f c h k = bind_settles _ _ world_settles (λ w. k _)
  statement_settles r (local_object m n es) rest f c h k =
      bind_settles _ _ (new_object_settles _) (λ o. bind_settles _ _ (construct_settles r f (class_named m) es (whole o) c h)
      (λ u. scope_in r h c (destroy r (class_type (class_named m)) (whole o)) (rest (with_variable n (whole o) f)) (λ d. destroy_in r (class_type (class_named m)) (whole o) d h) (k (with_variable n (whole o) f))))

  pub otherwise_settles : (r : Running) (t : Else) (f : Frame) (c : Context) → CallsSettle r → SettlesAct r.program c Flow (otherwise r t f c)
  otherwise_settles r no_else f c h = pure_settles _ _
  otherwise_settles r (else_do s) f c h = statement_settles r s _ f c h (λ g. pure_settles _ normal)

  pub statements_settles : (r : Running) (ss : Statements) (f : Frame) (c : Context) → CallsSettle r → SettlesAct r.program c Flow (statements r ss f c)
  statements_settles r no_statements f c h = pure_settles _ _
  statements_settles r (statement_then s ss) f c h = statement_settles r s _ f c h (λ g. statements_settles r ss g c h)

  pub caught_settles : (r : Running) (hs : Handlers) (f : Frame) (c : Context) (e : ℕ) → CallsSettle r → CaughtSettles r hs f c e
  caught_settles r no_handlers f c e h w tells whole safe = goes_on_out r.program c.handled c.guards Flow w e tells whole (safe refl)
  caught_settles r (handler_then t x ss place hs) f c e h w tells whole safe =
      tried_settles r c w (Unless (contains c.handled e) e) (matches r.program (type_at w e) (clause_of t)) (handle r e t x (λ g d. statements r ss g d) f c) (caught r hs f c e)
      (handle_settles r h c w e tells whole t x (λ g d. statements r ss g d) f (λ g d. (statements_settles r ss g d h).at))
      (λ other. caught_settles r hs f c e h w tells whole (λ none. safe (ap (λ z. z || some_of (matches r.program (type_at w e)) (clauses_of hs)) other ∙ none)))
