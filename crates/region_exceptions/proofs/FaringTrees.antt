-- What expressions and statements keep.
use Rattle.std.proofs.Common.{ℕ, zero, suc, ℤ, pos, List, [], ◌∷◌, Option, Some, None, refl, ap, ◌∙◌}
use Rattle.std.specs.Prelude.{◌||◌, if◌then◌else◌}
use Rattle.meaning_forms.specs.World.{Reference}
use Rattle.meaning_forms.specs.Context.{Context, guarded_by}
use Rattle.meaning_forms.specs.Outcome.{Action, pure}
use Rattle.meaning_forms.specs.Running.{Running, Argument}
use Rattle.meaning_forms.specs.World.{whole}
use Rattle.meaning_forms.specs.Construct.{destroy}
use Rattle.cxx_ast.specs.declared.types.Ty.{Ty}
use Rattle.cxx_ast.specs.declared.types.Param.{Param}
use Rattle.cxx_ast.specs.declared.name.Name.{Name}
use Rattle.cxx_ast.specs.declared.name.Bound.{Bound}
use Rattle.cxx_ast.specs.declared.name.Bound.TheVariants.{Class, Func, Method, Builtin as BuiltinBound}
use Rattle.cxx_ast.specs.declared.name.Builtin.{Builtin}
use Rattle.cxx_ast.specs.declared.name.Builtin.TheVariants.{WriteInt, ReadByte, Exit, Module, Cancel, Terminate, SetTerminate, SetUnexpected, Uncaught, BadException}
use Rattle.cxx_ast.specs.declared.expression.UnaryOp.{UnaryOp}
use Rattle.cxx_ast.specs.declared.expression.UnaryOp.TheVariants.{Minus, Not}
use Rattle.cxx_ast.specs.declared.expression.BinaryOp.{BinaryOp}
use Rattle.cxx_ast.specs.declared.expression.BinaryOp.TheVariants.{Add, Subtract, Multiply, Divide, Remainder, Less, Greater, LessEqual, GreaterEqual, Equal, NotEqual, And, Or}
use Rattle.cxx_ast.specs.Plain.{Expression, number, path, paren, unary, binary, call, std_call, Expressions, no_expressions, expression_then, Statement, block, empty, if_else, while, return, break, continue, throw, try, assign, evaluate, local_int, local_ref, local_object, Else, no_else, else_do, Statements, no_statements, statement_then, Handlers, no_handlers, handler_then}
use Rattle.meaning_forms.specs.Running.{by_value, by_reference}
use Rattle.cxx_ast.specs.Plain.{Checked}
use Rattle.meaning_forms.specs.World.{type_at}
use Rattle.meaning_forms.specs.Outcome.{Flow, normal, breaks, continues, returns}
use Rattle.meaning_forms.specs.Running.{function, method, constructor}
use Rattle.meaning_forms.specs.Statement.{followed, ◌then◌, looped, loop, int_thrown, object_thrown, call_thrown, part_thrown, lvalue_thrown, operand_thrown, throwing, returning, local_cell, statement, otherwise, statements, caught}
use Rattle.meaning_forms.specs.Frame.{Frame, with_argument, with_arguments}
use Rattle.meaning_forms.specs.Handler.{handle}
use Rattle.meaning_forms.specs.Arithmetic.{in_range, dividing, unary_value, binary_value}
use Rattle.meaning_forms.specs.Expression.{passed, next_byte, builtin, called, with_right_side, value_of, arguments, construct}
use Rattle.meaning_forms.specs.Class.{ObjectType, int_type, class_type}
use Rattle.meaning_forms.specs.Class.{class_named, some_of}
use Rattle.meaning_forms.specs.World.{nowhere, as_class}
use Rattle.meaning_forms.specs.Context.{try_block}
use Rattle.meaning_forms.specs.Guard.{matches}
use Rattle.meaning_forms.specs.Handler.{clause_of, clauses_of}
use Rattle.meaning_forms.specs.Frame.{with_variable, lvalue}
use Rattle.meaning_forms.specs.Expression.{function_named, value_at, constructor_types, constructor_chosen}
use Rattle.region_exceptions.specs.Fares.{CallsFare}
use Rattle.region_exceptions.proofs.Faring.{goes_same}
use Rattle.region_exceptions.proofs.FaringThrows.{module_fares}
use Rattle.region_exceptions.proofs.FaringHandlers.{new_copy_fares, handle_fares}
use Rattle.region_exceptions.proofs.FaringActions.{KeepsIn, CaughtFares, bind_fares, change_fares, destroy_in, emit_fares, if_fares, new_object_fares, pure_fares, read_fares, rethrow_in, scope_in, stop_cancelled, stop_ended, stop_turns, stop_undefined, terminated_fares, throw_in, tried_fares, try_fares, turn_fares, world_fares, write_fares}

pub with_argument_fares : {p : Checked} {c : Context} (x : Param) (a : Argument) (f : Frame) → KeepsIn p c Frame (with_argument x a f)
with_argument_fares x (by_value v) f = search (bind_fares, new_object_fares, pure_fares)
with_argument_fares x (by_reference y) f = search pure_fares

pub with_arguments_fares : {p : Checked} {c : Context} (xs : List Param) (given : List Argument) (f : Frame) → KeepsIn p c Frame (with_arguments xs given f)
with_arguments_fares [] given f = search pure_fares
with_arguments_fares (x ∷ xs) [] f = search pure_fares
with_arguments_fares (x ∷ xs) (a ∷ given) f = bind_fares _ _ (with_argument_fares x a f) (λ g. with_arguments_fares xs given g)

pub in_range_fares : {p : Checked} {c : Context} (z : ℤ) → KeepsIn p c ℤ (in_range z)
in_range_fares z = search (if_fares, pure_fares, stop_undefined)

pub dividing_fares : {p : Checked} {c : Context} (x y v : ℤ) → KeepsIn p c ℤ (dividing x y v)
dividing_fares x y v = search (if_fares, pure_fares, stop_undefined)

pub unary_value_fares : {p : Checked} {c : Context} (op : UnaryOp) (x : ℤ) → KeepsIn p c ℤ (unary_value op x)
unary_value_fares Minus x = search in_range_fares
unary_value_fares Not x = search pure_fares

pub binary_value_fares : {p : Checked} {c : Context} (op : BinaryOp) (x y : ℤ) → KeepsIn p c ℤ (binary_value op x y)
binary_value_fares Add x y = search in_range_fares
binary_value_fares Subtract x y = search in_range_fares
binary_value_fares Multiply x y = search in_range_fares
binary_value_fares Divide x y = search dividing_fares
binary_value_fares Remainder x y = search dividing_fares
binary_value_fares Less x y = search pure_fares
binary_value_fares Greater x y = search pure_fares
binary_value_fares LessEqual x y = search pure_fares
binary_value_fares GreaterEqual x y = search pure_fares
binary_value_fares Equal x y = search pure_fares
binary_value_fares NotEqual x y = search pure_fares
binary_value_fares And x y = search pure_fares
binary_value_fares Or x y = search pure_fares

pub passed_fares : {c : Context} (r : Running) (f : Frame) (types : List Ty) (e : Expression) (m : Action ℤ) → KeepsIn r.program c ℤ m → KeepsIn r.program c Argument (passed r f types e m)
passed_fares r f [] e m k = search (bind_fares, pure_fares)
passed_fares r f (t ∷ types) e m k = search (bind_fares, world_fares, if_fares, pure_fares) depth 9

pub next_byte_fares : {p : Checked} {c : Context} (bytes : List ℕ) → KeepsIn p c ℤ (next_byte bytes)
next_byte_fares [] = search pure_fares
next_byte_fares (b ∷ bytes) = bind_fares _ _ (change_fares (λ w. record w { input = bytes }) (λ w. refl) (λ w. refl)) (λ u. pure_fares ℤ (pos b))

pub builtin_fares : (r : Running) (b : Builtin) (es : Expressions) (given : Action (List Argument)) (c : Context) → CallsFare r → KeepsIn r.program c (List Argument) given → KeepsIn r.program c ℤ (builtin r b es given c)
builtin_fares r WriteInt es given c h k = search (bind_fares, emit_fares, pure_fares)
builtin_fares r ReadByte es given c h k = search (bind_fares, world_fares, next_byte_fares)
builtin_fares r Exit es given c h k = search (bind_fares, stop_ended)
builtin_fares r Module es given c h k = bind_fares _ _ k (λ vs. record { at = module_fares r (value_at vs 0) c })
builtin_fares r Cancel es given c h k = search (bind_fares, stop_cancelled)
builtin_fares r Terminate es given c h k = search terminated_fares
builtin_fares r SetTerminate es given c h k =
    bind_fares _ _ (change_fares (λ w. record w { installed = record (w.installed) { terminate_handler = function_named es } }) (λ w. refl) (λ w. refl)) (λ u. pure_fares ℤ (pos 0))
builtin_fares r SetUnexpected es given c h k =
    bind_fares _ _ (change_fares (λ w. record w { installed = record (w.installed) { unexpected_handler = function_named es } }) (λ w. refl) (λ w. refl)) (λ u. pure_fares ℤ (pos 0))
builtin_fares r Uncaught es given c h k = search pure_fares
builtin_fares r BadException es given c h k = search pure_fares

pub called_fares : (r : Running) (f : Frame) (b : Bound) (names : List Name) (es : Expressions) (given : Action (List Argument)) (c : Context) → CallsFare r → KeepsIn r.program c (List Argument) given → KeepsIn r.program c ℤ (called r f b names es given c)
called_fares r f (Func n) names es given c h k = bind_fares _ _ k (λ vs. record { at = h (function n) nowhere vs c })
called_fares r f (Method m i) names es given c h k = bind_fares _ _ k (λ vs. bind_fares _ _ world_fares (λ w. record { at = h (method m i) (as_class w m (lvalue r.program w f names)) vs c }))
called_fares r f (BuiltinBound b) names es given c h k = search builtin_fares
called_fares r f b names es given c h k = search pure_fares

pub with_right_side_fares : {p : Checked} {c : Context} (op : BinaryOp) (x : ℤ) (o : Option ℤ) (m : Action ℤ) → KeepsIn p c ℤ m → KeepsIn p c ℤ (with_right_side op x o m)
with_right_side_fares op x (Some v) m k = search pure_fares
with_right_side_fares op x None m k = search (bind_fares, binary_value_fares)

mutual
  pub value_of_fares : (r : Running) (f : Frame) (e : Expression) (c : Context) → CallsFare r → KeepsIn r.program c ℤ (value_of r f e c)
  value_of_fares r f (number v place) c h = search pure_fares
  value_of_fares r f (path names) c h = search (bind_fares, world_fares, read_fares)
  value_of_fares r f (paren e place) c h = value_of_fares r f e c h
  value_of_fares r f (unary op e place) c h = bind_fares _ _ (value_of_fares r f e c h) (λ x. unary_value_fares op x)
  value_of_fares r f (binary op a b) c h = bind_fares _ _ (value_of_fares r f a c h) (λ x. with_right_side_fares op x _ _ (value_of_fares r f b c h))
  value_of_fares r f (call names es) c h = called_fares r f _ _ es _ c h (arguments_fares r f es _ c h)
  value_of_fares r f (std_call n es place) c h = called_fares r f _ _ es _ c h (arguments_fares r f es _ c h)

  pub arguments_fares : (r : Running) (f : Frame) (es : Expressions) (types : List Ty) (c : Context) → CallsFare r → KeepsIn r.program c (List Argument) (arguments r f es types c)
  arguments_fares r f no_expressions types c h = search pure_fares
  arguments_fares r f (expression_then e es) types c h =
      bind_fares _ _ (passed_fares r f types e _ (value_of_fares r f e c h)) (λ a. bind_fares _ _ (arguments_fares r f es _ c h) (λ given. pure_fares _ _))

pub construct_fares : (r : Running) (f : Frame) (k : ℕ) (es : Expressions) (x : Reference) (c : Context) → CallsFare r → KeepsIn r.program c (Unit {0}) (construct r f k es x c)
construct_fares r f k es x c h =
    bind_fares _ _ world_fares (λ w. bind_fares _ _ (arguments_fares r f es (constructor_types r.program k (constructor_chosen r.program w f k es)) c h)
    (λ given. bind_fares _ _ (record { at = h (constructor k (constructor_chosen r.program w f k es)) x given c }) (λ v. pure_fares _ _)))

pub followed_fares : {p : Checked} {c : Context} (m : Action Flow) (x : Flow) → KeepsIn p c Flow m → KeepsIn p c Flow (followed m x)
followed_fares m normal k = k
followed_fares m x k = search pure_fares

pub then_fares : {p : Checked} {c : Context} (m next : Action Flow) → KeepsIn p c Flow m → KeepsIn p c Flow next → KeepsIn p c Flow (m then next)
then_fares m next h k = bind_fares _ _ h (λ x. followed_fares next x k)

pub looped_fares : {p : Checked} {c : Context} (m : Action Flow) (x : Flow) → KeepsIn p c Flow m → KeepsIn p c Flow (looped m x)
looped_fares m normal k = k
looped_fares m continues k = k
looped_fares m breaks k = search pure_fares
looped_fares m (returns v) k = search pure_fares

pub loop_fares : {p : Checked} {c : Context} (n : ℕ) (test : Action ℤ) (body : Action Flow) → KeepsIn p c ℤ test → KeepsIn p c Flow body → KeepsIn p c Flow (loop n test body)
loop_fares zero test body h k = search stop_turns
loop_fares (suc n) test body h k =
    bind_fares _ _ turn_fares (λ u. bind_fares _ _ h (λ v. if_fares _ _ _ (pure_fares _ normal)
    (bind_fares _ _ k (λ x. looped_fares (loop n test body) x (loop_fares n test body h k)))))

pub int_thrown_fares : (r : Running) (f : Frame) (e : Expression) (c : Context) → CallsFare r → KeepsIn r.program c ℕ (int_thrown r f e c)
int_thrown_fares r f e c h = search (bind_fares, value_of_fares, new_object_fares)

pub object_thrown_fares : (r : Running) (f : Frame) (k : ℕ) (es : Expressions) (c : Context) → CallsFare r → KeepsIn r.program c ℕ (object_thrown r f k es c)
object_thrown_fares r f k es c h = search (bind_fares, new_object_fares, construct_fares, pure_fares)

pub call_thrown_fares : (r : Running) (f : Frame) (b : Bound) (e : Expression) (es : Expressions) (c : Context) → CallsFare r → KeepsIn r.program c ℕ (call_thrown r f b e es c)
call_thrown_fares r f (Class k) e es c h = search object_thrown_fares
call_thrown_fares r f (BuiltinBound BadException) e es c h = search object_thrown_fares
call_thrown_fares r f b e es c h = search int_thrown_fares

pub part_thrown_fares : (r : Running) (f : Frame) (e : Expression) (x : Reference) (t : ObjectType) (c : Context) → CallsFare r → KeepsIn r.program c ℕ (part_thrown r f e x t c)
part_thrown_fares r f e x int_type c h = search int_thrown_fares
part_thrown_fares r f e x (class_type k) c h = record { at = new_copy_fares r h k x c }

pub lvalue_thrown_fares : (r : Running) (f : Frame) (e : Expression) (o : Option (List Name)) (c : Context) → CallsFare r → KeepsIn r.program c ℕ (lvalue_thrown r f e o c)
lvalue_thrown_fares r f e None c h = search int_thrown_fares
lvalue_thrown_fares r f e (Some names) c h = search (bind_fares, world_fares, part_thrown_fares)

pub operand_thrown_fares : (r : Running) (f : Frame) (e : Expression) (c : Context) → CallsFare r → KeepsIn r.program c ℕ (operand_thrown r f e c)
operand_thrown_fares r f (call names es) c h = search call_thrown_fares
operand_thrown_fares r f (std_call n es place) c h = search call_thrown_fares
operand_thrown_fares r f e c h = search lvalue_thrown_fares

pub throwing_fares : (r : Running) (f : Frame) (o : Option Expression) (c : Context) → CallsFare r → KeepsIn r.program c Flow (throwing r f o c)
throwing_fares r f None c h = rethrow_in r c
throwing_fares r f (Some e) c h = throw_in r c (operand_thrown r f e c) (operand_thrown_fares r f e c h)

pub returning_fares : (r : Running) (f : Frame) (o : Option Expression) (c : Context) → CallsFare r → KeepsIn r.program c Flow (returning r f o c)
returning_fares r f None c h = search pure_fares
returning_fares r f (Some e) c h = search (bind_fares, value_of_fares, pure_fares)

pub local_cell_fares : (r : Running) (f : Frame) (o : Option Expression) (c : Context) → CallsFare r → KeepsIn r.program c ℕ (local_cell r f o c)
local_cell_fares r f None c h = search new_object_fares
local_cell_fares r f (Some e) c h = search (bind_fares, value_of_fares, new_object_fares)

mutual
  pub statement_fares : (r : Running) (s : Statement) (rest : Frame → Action Flow) (f : Frame) (c : Context) → CallsFare r → ((g : Frame) → KeepsIn r.program c Flow (rest g)) → KeepsIn r.program c Flow (statement r s rest f c)
  statement_fares r (block ss) rest f c h k = then_fares _ _ (statements_fares r ss f c h) (k f)
  statement_fares r empty rest f c h k = k f
  statement_fares r (if_else e s t) rest f c h k =
      then_fares _ _ (bind_fares _ _ (value_of_fares r f e c h)
      (λ v. if_fares _ _ _ (otherwise_fares r t f c h) (statement_fares r s _ f c h (λ g. pure_fares _ normal)))) (k f)
  statement_fares r (while e s) rest f c h k =
      then_fares _ _ (bind_fares _ _ world_fares
      (λ w. loop_fares (suc w.turns) _ _ (value_of_fares r f e c h) (statement_fares r s (λ g. pure normal) f c h (λ g. pure_fares _ normal)))) (k f)
  statement_fares r (return place e) rest f c h k = returning_fares r f e c h
  statement_fares r (break place) rest f c h k = pure_fares _ _
  statement_fares r (continue place) rest f c h k = pure_fares _ _
  statement_fares r (throw place e) rest f c h k = throwing_fares r f e c h
  statement_fares r (try ss hs) rest f c h k =
      then_fares _ _ (try_fares r hs f c (statements r ss f (guarded_by (try_block (clauses_of hs)) c)) (λ e. caught_fares r hs f c e h)
      (statements_fares r ss f (guarded_by (try_block (clauses_of hs)) c) h)) (k f)
  statement_fares r (assign names e) rest f c h k =
      bind_fares _ _ (value_of_fares r f e c h) (λ v. bind_fares _ _ world_fares (λ w. bind_fares _ _ (write_fares _ v) (λ u. k f)))
  statement_fares r (evaluate e) rest f c h k = bind_fares _ _ (value_of_fares r f e c h) (λ v. k f)
  statement_fares r (local_int n e) rest f c h k = bind_fares _ _ (local_cell_fares r f e c h) (λ o. k _)
  statement_fares r (local_ref x names) rest f c h k = bind_fares _ _ world_fares (λ w. k _)
  statement_fares r (local_object m n es) rest f c h k =
      bind_fares _ _ (new_object_fares _) (λ o. bind_fares _ _ (construct_fares r f (class_named m) es (whole o) c h)
      (λ u. scope_in r h c (destroy r (class_type (class_named m)) (whole o)) (rest (with_variable n (whole o) f)) (λ d. destroy_in r (class_type (class_named m)) (whole o) d h) (k (with_variable n (whole o) f))))

  pub otherwise_fares : (r : Running) (t : Else) (f : Frame) (c : Context) → CallsFare r → KeepsIn r.program c Flow (otherwise r t f c)
  otherwise_fares r no_else f c h = pure_fares _ _
  otherwise_fares r (else_do s) f c h = statement_fares r s _ f c h (λ g. pure_fares _ normal)

  pub statements_fares : (r : Running) (ss : Statements) (f : Frame) (c : Context) → CallsFare r → KeepsIn r.program c Flow (statements r ss f c)
  statements_fares r no_statements f c h = pure_fares _ _
  statements_fares r (statement_then s ss) f c h = statement_fares r s _ f c h (λ g. statements_fares r ss g c h)

  pub caught_fares : (r : Running) (hs : Handlers) (f : Frame) (c : Context) (e : ℕ) → CallsFare r → CaughtFares r hs f c e
  caught_fares r no_handlers f c e h n w few order can known safe = (goes_same c w order, record { raised = can; known = known; safe = safe refl })
  caught_fares r (handler_then t x ss place hs) f c e h n w few order can known safe =
      tried_fares r n c w e (matches r.program (type_at w e) (clause_of t)) (handle r e t x (λ g d. statements r ss g d) f c) (caught r hs f c e)
      (handle_fares r h n c w few order e can known t x (λ g d. statements r ss g d) f (λ g d. (statements_fares r ss g d h).at))
      (λ other. caught_fares r hs f c e h n w few order can known (λ none. safe (ap (λ z. z || some_of (matches r.program (type_at w e)) (clauses_of hs)) other ∙ none)))
