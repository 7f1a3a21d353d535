-- Nor is an expression or a statement.
use Rattle.std.proofs.Common.{arith}
use Rattle.std.specs.Prelude.{◌≤◌, ℕ, zero, suc, [], ◌∷◌, Option, Some, None, if◌then◌else◌, List, ℤ, pos}
use Rattle.cxx_ast.specs.declared.types.Ty.{Ty}
use Rattle.cxx_ast.specs.declared.types.Param.{Param}
use Rattle.cxx_ast.specs.declared.name.Name.{Name}
use Rattle.cxx_ast.specs.declared.name.Bound.{Bound}
use Rattle.cxx_ast.specs.declared.name.Bound.TheVariants.{Class, Func, Method, Builtin as BuiltinBound}
use Rattle.cxx_ast.specs.declared.name.Builtin.{Builtin}
use Rattle.cxx_ast.specs.declared.name.Builtin.TheVariants.{WriteInt, ReadByte, Exit, Module, Cancel, Terminate, SetTerminate, SetUnexpected, Uncaught, BadException}
use Rattle.cxx_ast.specs.declared.expression.UnaryOp.{UnaryOp}
use Rattle.cxx_ast.specs.declared.expression.UnaryOp.TheVariants.{Minus, Not}
use Rattle.cxx_ast.specs.declared.expression.BinaryOp.{BinaryOp}
use Rattle.cxx_ast.specs.declared.expression.BinaryOp.TheVariants.{Add, Subtract, Multiply, Divide, Remainder, Less, Greater, LessEqual, GreaterEqual, Equal, NotEqual, And, Or}
use Rattle.cxx_ast.specs.Plain.{Expression, number, path, paren, unary, binary, call, std_call, Expressions, no_expressions, expression_then, Statement, block, empty, if_else, while, return, break, continue, throw, try, assign, evaluate, local_int, local_ref, local_object, Else, no_else, else_do, Statements, no_statements, statement_then, Handlers, no_handlers, handler_then}
use Rattle.meaning_forms.specs.World.{World, Reference}
use Rattle.meaning_forms.specs.Context.{Context}
use Rattle.meaning_forms.specs.Outcome.{Action, Result, stopped, thrown, pure, Flow, normal, breaks, continues, returns}
use Rattle.meaning_forms.specs.Running.{Running, Argument, by_value, by_reference}
use Rattle.meaning_forms.specs.Statement.{spend, spend_turn, followed, ◌then◌, looped, loop, int_thrown, object_thrown, call_thrown, part_thrown, lvalue_thrown, operand_thrown, throwing, returning, local_cell, after_try, statement, otherwise, statements, caught}
use Rattle.meaning_forms.specs.Frame.{Frame, with_argument, with_arguments}
use Rattle.meaning_forms.specs.Arithmetic.{in_range, dividing, unary_value, binary_value}
use Rattle.meaning_forms.specs.Expression.{passed, next_byte, builtin, called, with_right_side, value_of, arguments, construct, function_named}
use Rattle.meaning_forms.specs.Class.{ObjectType, int_type, class_type}
use Rattle.meaning_depths.specs.Shallow.{IsBelow, ComesBelow, Shallow, CallsAreShallow}
use Rattle.meaning_depths.proofs.Stopping.{bind_below, if_below, thrown_below, cancelled_below, ended_below, undefined_below, turns_below, world_below, emit_below, terminate_below, pure_below, new_object_below, write_below, read_below, throw_new_below, rethrow_below, scope_below, call_below, destroy_below, change_below, call_module_below, new_copy_below, handle_below}

pub with_argument_below : {L : ℕ} (x : Param) (a : Argument) (f : Frame) → Shallow L Frame (with_argument x a f)
with_argument_below x (by_value v) f = search (bind_below, new_object_below, pure_below)
with_argument_below x (by_reference y) f = search pure_below

pub with_arguments_below : {L : ℕ} (xs : List Param) (given : List Argument) (f : Frame) → Shallow L Frame (with_arguments xs given f)
with_arguments_below [] given f = search pure_below
with_arguments_below (x ∷ xs) [] f = search pure_below
with_arguments_below (x ∷ xs) (a ∷ given) f = bind_below _ _ (with_argument_below x a f) (λ g. with_arguments_below xs given g)

pub in_range_below : {L : ℕ} (z : ℤ) → Shallow L ℤ (in_range z)
in_range_below z = search (if_below, pure_below, undefined_below)

pub dividing_below : {L : ℕ} (x y v : ℤ) → Shallow L ℤ (dividing x y v)
dividing_below x y v = search (if_below, pure_below, undefined_below)

pub unary_value_below : {L : ℕ} (op : UnaryOp) (x : ℤ) → Shallow L ℤ (unary_value op x)
unary_value_below Minus x = search in_range_below
unary_value_below Not x = search pure_below

pub binary_value_below : {L : ℕ} (op : BinaryOp) (x y : ℤ) → Shallow L ℤ (binary_value op x y)
binary_value_below Add x y = search in_range_below
binary_value_below Subtract x y = search in_range_below
binary_value_below Multiply x y = search in_range_below
binary_value_below Divide x y = search dividing_below
binary_value_below Remainder x y = search dividing_below
binary_value_below Less x y = search pure_below
binary_value_below Greater x y = search pure_below
binary_value_below LessEqual x y = search pure_below
binary_value_below GreaterEqual x y = search pure_below
binary_value_below Equal x y = search pure_below
binary_value_below NotEqual x y = search pure_below
binary_value_below And x y = search pure_below
binary_value_below Or x y = search pure_below

pub passed_below : {L : ℕ} (r : Running) (f : Frame) (types : List Ty) (e : Expression) (m : Action ℤ) → Shallow L ℤ m → Shallow L Argument (passed r f types e m)
passed_below r f [] e m k = search (bind_below, pure_below)
passed_below r f (t ∷ types) e m k = search (bind_below, world_below, if_below, pure_below) depth 9

pub next_byte_below : {L : ℕ} (bytes : List ℕ) → Shallow L ℤ (next_byte bytes)
next_byte_below [] = search pure_below
next_byte_below (b ∷ bytes) = bind_below _ _ (change_below (λ w. record w { input = bytes }) (λ w l. l)) (λ u. pure_below ℤ (pos b))

pub builtin_below : {L : ℕ} (r : Running) (b : Builtin) (es : Expressions) (given : Action (List Argument)) (c : Context) → CallsAreShallow L r → Shallow L (List Argument) given → Shallow L ℤ (builtin r b es given c)
builtin_below r WriteInt es given c h k = search (bind_below, emit_below, pure_below)
builtin_below r ReadByte es given c h k = search (bind_below, world_below, next_byte_below)
builtin_below r Exit es given c h k = search (bind_below, ended_below)
builtin_below r Module es given c h k = search (bind_below, call_module_below)
builtin_below r Cancel es given c h k = search (bind_below, cancelled_below)
builtin_below r Terminate es given c h k = search terminate_below
builtin_below r SetTerminate es given c h k =
    bind_below _ _ (change_below (λ w. record w { installed = record (w.installed) { terminate_handler = function_named es } }) (λ w l. l)) (λ u. pure_below ℤ (pos 0))
builtin_below r SetUnexpected es given c h k =
    bind_below _ _ (change_below (λ w. record w { installed = record (w.installed) { unexpected_handler = function_named es } }) (λ w l. l)) (λ u. pure_below ℤ (pos 0))
builtin_below r Uncaught es given c h k = search pure_below
builtin_below r BadException es given c h k = search pure_below

pub called_below : {L : ℕ} (r : Running) (f : Frame) (b : Bound) (names : List Name) (es : Expressions) (given : Action (List Argument)) (c : Context) → CallsAreShallow L r → Shallow L (List Argument) given
    → Shallow L ℤ (called r f b names es given c)
called_below r f (Func n) names es given c h k = search (bind_below, call_below)
called_below r f (Method m i) names es given c h k = search (bind_below, world_below, call_below)
called_below r f (BuiltinBound b) names es given c h k = search builtin_below
called_below r f b names es given c h k = search pure_below

pub with_right_side_below : {L : ℕ} (op : BinaryOp) (x : ℤ) (o : Option ℤ) (m : Action ℤ) → Shallow L ℤ m → Shallow L ℤ (with_right_side op x o m)
with_right_side_below op x (Some v) m k = search pure_below
with_right_side_below op x None m k = search (bind_below, binary_value_below)

mutual
  pub value_of_below : {L : ℕ} (r : Running) (f : Frame) (e : Expression) (c : Context) → CallsAreShallow L r → Shallow L ℤ (value_of r f e c)
  value_of_below r f (number v place) c h = search pure_below
  value_of_below r f (path names) c h = search (bind_below, world_below, read_below)
  value_of_below r f (paren e place) c h = value_of_below r f e c h
  value_of_below r f (unary op e place) c h = bind_below _ _ (value_of_below r f e c h) (λ x. unary_value_below op x)
  value_of_below r f (binary op a b) c h = bind_below _ _ (value_of_below r f a c h) (λ x. with_right_side_below op x _ _ (value_of_below r f b c h))
  value_of_below r f (call names es) c h = called_below r f _ _ es _ c h (arguments_below r f es _ c h)
  value_of_below r f (std_call n es place) c h = called_below r f _ _ es _ c h (arguments_below r f es _ c h)

  pub arguments_below : {L : ℕ} (r : Running) (f : Frame) (es : Expressions) (types : List Ty) (c : Context) → CallsAreShallow L r → Shallow L (List Argument) (arguments r f es types c)
  arguments_below r f no_expressions types c h = search pure_below
  arguments_below r f (expression_then e es) types c h =
      bind_below _ _ (passed_below r f types e _ (value_of_below r f e c h)) (λ a. bind_below _ _ (arguments_below r f es _ c h) (λ given. pure_below _ _))

pub construct_below : {L : ℕ} (r : Running) (f : Frame) (k : ℕ) (es : Expressions) (x : Reference) (c : Context) → CallsAreShallow L r → Shallow L (Unit {0}) (construct r f k es x c)
construct_below r f k es x c h = search (bind_below, world_below, arguments_below, call_below, pure_below) depth 9

pub spend_below : (L : ℕ) (n : ℕ) (w : World) → n ≤ w.turns → IsBelow L w → ComesBelow L (spend n w)
spend_below L zero w h l = l
spend_below L (suc n) w h l = omega (arith, h, l)

pub spend_turn_below : {L : ℕ} → Shallow L (Unit {0}) spend_turn
spend_turn_below = record { at = λ w l. spend_below _ w.turns w (omega arith) l }

pub followed_below : {L : ℕ} (m : Action Flow) (x : Flow) → Shallow L Flow m → Shallow L Flow (followed m x)
followed_below m normal k = k
followed_below m x k = search pure_below

pub then_below : {L : ℕ} (m next : Action Flow) → Shallow L Flow m → Shallow L Flow next → Shallow L Flow (m then next)
then_below m next h k = bind_below _ _ h (λ x. followed_below next x k)

pub looped_below : {L : ℕ} (m : Action Flow) (x : Flow) → Shallow L Flow m → Shallow L Flow (looped m x)
looped_below m normal k = k
looped_below m continues k = k
looped_below m breaks k = search pure_below
looped_below m (returns v) k = search pure_below

pub loop_below : {L : ℕ} (n : ℕ) (test : Action ℤ) (body : Action Flow) → Shallow L ℤ test → Shallow L Flow body → Shallow L Flow (loop n test body)
loop_below zero test body h k = search turns_below
loop_below (suc n) test body h k =
    bind_below _ _ spend_turn_below (λ u. bind_below _ _ h (λ v. if_below _ _ _ (pure_below _ normal)
    (bind_below _ _ k (λ x. looped_below (loop n test body) x (loop_below n test body h k)))))

pub int_thrown_below : {L : ℕ} (r : Running) (f : Frame) (e : Expression) (c : Context) → CallsAreShallow L r → Shallow L ℕ (int_thrown r f e c)
int_thrown_below r f e c h = search (bind_below, value_of_below, new_object_below)

pub object_thrown_below : {L : ℕ} (r : Running) (f : Frame) (k : ℕ) (es : Expressions) (c : Context) → CallsAreShallow L r → Shallow L ℕ (object_thrown r f k es c)
object_thrown_below r f k es c h = search (bind_below, new_object_below, construct_below, pure_below)

pub call_thrown_below : {L : ℕ} (r : Running) (f : Frame) (b : Bound) (e : Expression) (es : Expressions) (c : Context) → CallsAreShallow L r → Shallow L ℕ (call_thrown r f b e es c)
call_thrown_below r f (Class k) e es c h = search object_thrown_below
call_thrown_below r f (BuiltinBound BadException) e es c h = search object_thrown_below
call_thrown_below r f b e es c h = search int_thrown_below

pub part_thrown_below : {L : ℕ} (r : Running) (f : Frame) (e : Expression) (x : Reference) (t : ObjectType) (c : Context) → CallsAreShallow L r → Shallow L ℕ (part_thrown r f e x t c)
part_thrown_below r f e x int_type c h = search int_thrown_below
part_thrown_below r f e x (class_type k) c h = search new_copy_below

pub lvalue_thrown_below : {L : ℕ} (r : Running) (f : Frame) (e : Expression) (o : Option (List Name)) (c : Context) → CallsAreShallow L r → Shallow L ℕ (lvalue_thrown r f e o c)
lvalue_thrown_below r f e None c h = search int_thrown_below
lvalue_thrown_below r f e (Some names) c h = search (bind_below, world_below, part_thrown_below)

pub operand_thrown_below : {L : ℕ} (r : Running) (f : Frame) (e : Expression) (c : Context) → CallsAreShallow L r → Shallow L ℕ (operand_thrown r f e c)
operand_thrown_below r f (call names es) c h = search call_thrown_below
operand_thrown_below r f (std_call n es place) c h = search call_thrown_below
operand_thrown_below r f e c h = search lvalue_thrown_below

pub throwing_below : {L : ℕ} (r : Running) (f : Frame) (o : Option Expression) (c : Context) → CallsAreShallow L r → Shallow L Flow (throwing r f o c)
throwing_below r f None c h = search rethrow_below
throwing_below r f (Some e) c h = search (throw_new_below, operand_thrown_below)

pub returning_below : {L : ℕ} (r : Running) (f : Frame) (o : Option Expression) (c : Context) → CallsAreShallow L r → Shallow L Flow (returning r f o c)
returning_below r f None c h = search pure_below
returning_below r f (Some e) c h = search (bind_below, value_of_below, pure_below)

pub local_cell_below : {L : ℕ} (r : Running) (f : Frame) (o : Option Expression) (c : Context) → CallsAreShallow L r → Shallow L ℕ (local_cell r f o c)
local_cell_below r f None c h = search new_object_below
local_cell_below r f (Some e) c h = search (bind_below, value_of_below, new_object_below)

pub after_try_below : {L : ℕ} (A : Type 0) (handler : ℕ → Action A) (m : Result A) → ((e : ℕ) → Shallow L A (handler e)) → ComesBelow L m → ComesBelow L (after_try handler m)
after_try_below A handler (stopped (thrown e) w) k g = (k e).at w g
after_try_below A handler m k g = g

pub try_below : {L : ℕ} (A : Type 0) (handler : ℕ → Action A) (m : Action A) → ((e : ℕ) → Shallow L A (handler e)) → Shallow L A m → Shallow L A (λ w. after_try handler (m w))
try_below A handler m k g = record { at = λ w l. after_try_below A handler (m w) k (g.at w l) }

mutual
  pub statement_below : {L : ℕ} (r : Running) (s : Statement) (rest : Frame → Action Flow) (f : Frame) (c : Context) → CallsAreShallow L r → ((g : Frame) → Shallow L Flow (rest g)) → Shallow L Flow (statement r s rest f c)
  statement_below r (block ss) rest f c h k = then_below _ _ (statements_below r ss f c h) (k f)
  statement_below r empty rest f c h k = k f
  statement_below r (if_else e s t) rest f c h k =
      then_below _ _ (bind_below _ _ (value_of_below r f e c h)
      (λ v. if_below _ _ _ (otherwise_below r t f c h) (statement_below r s _ f c h (λ g. pure_below _ normal)))) (k f)
  statement_below r (while e s) rest f c h k =
      then_below _ _ (bind_below _ _ world_below
      (λ w. loop_below (suc w.turns) _ _ (value_of_below r f e c h) (statement_below r s (λ g. pure normal) f c h (λ g. pure_below _ normal)))) (k f)
  statement_below r (return place e) rest f c h k = returning_below r f e c h
  statement_below r (break place) rest f c h k = pure_below _ _
  statement_below r (continue place) rest f c h k = pure_below _ _
  statement_below r (throw place e) rest f c h k = throwing_below r f e c h
  statement_below r (try ss hs) rest f c h k =
      then_below _ _ (try_below _ _ _ (λ e. caught_below r hs f c e h) (statements_below r ss f _ h)) (k f)
  statement_below r (assign names e) rest f c h k =
      bind_below _ _ (value_of_below r f e c h) (λ v. bind_below _ _ world_below (λ w. bind_below _ _ (write_below _ v) (λ u. k f)))
  statement_below r (evaluate e) rest f c h k = bind_below _ _ (value_of_below r f e c h) (λ v. k f)
  statement_below r (local_int n e) rest f c h k = bind_below _ _ (local_cell_below r f e c h) (λ o. k _)
  statement_below r (local_ref x names) rest f c h k = bind_below _ _ world_below (λ w. k _)
  statement_below r (local_object m n es) rest f c h k =
      search (bind_below, new_object_below, construct_below, scope_below, destroy_below, k) depth 9

  pub otherwise_below : {L : ℕ} (r : Running) (t : Else) (f : Frame) (c : Context) → CallsAreShallow L r → Shallow L Flow (otherwise r t f c)
  otherwise_below r no_else f c h = pure_below _ _
  otherwise_below r (else_do s) f c h = statement_below r s _ f c h (λ g. pure_below _ normal)

  pub statements_below : {L : ℕ} (r : Running) (ss : Statements) (f : Frame) (c : Context) → CallsAreShallow L r → Shallow L Flow (statements r ss f c)
  statements_below r no_statements f c h = pure_below _ _
  statements_below r (statement_then s ss) f c h = statement_below r s _ f c h (λ g. statements_below r ss g c h)

  pub caught_below : {L : ℕ} (r : Running) (hs : Handlers) (f : Frame) (c : Context) (e : ℕ) → CallsAreShallow L r → Shallow L Flow (caught r hs f c e)
  caught_below r no_handlers f c e h = thrown_below _ _
  caught_below r (handler_then t n ss place hs) f c e h =
      bind_below _ _ world_below (λ w. if_below _ _ _ (handle_below _ r e t n _ f c h (λ g d. statements_below r ss g d h)) (caught_below r hs f c e h))
