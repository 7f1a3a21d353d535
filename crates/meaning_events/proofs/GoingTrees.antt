-- Nor does an expression or a statement.
use Rattle.std.specs.Prelude.{ℕ, zero, suc, [], ◌∷◌, Option, Some, None, if◌then◌else◌, List, ℤ, pos, refl}
use Rattle.cxx_ast.specs.declared.types.Ty.{Ty}
use Rattle.cxx_ast.specs.declared.types.Param.{Param}
use Rattle.cxx_ast.specs.declared.name.Name.{Name}
use Rattle.cxx_ast.specs.declared.name.Bound.{Bound}
use Rattle.cxx_ast.specs.declared.name.Bound.TheVariants.{Class, Func, Method, Builtin as BuiltinBound}
use Rattle.cxx_ast.specs.declared.name.Builtin.{Builtin}
use Rattle.cxx_ast.specs.declared.name.Builtin.TheVariants.{WriteInt, ReadByte, Exit, Module, Cancel, Terminate, SetTerminate, SetUnexpected, Uncaught, BadException}
use Rattle.cxx_ast.specs.declared.expression.UnaryOp.{UnaryOp}
use Rattle.cxx_ast.specs.declared.expression.UnaryOp.TheVariants.{Minus, Not}
use Rattle.cxx_ast.specs.declared.expression.BinaryOp.{BinaryOp}
use Rattle.cxx_ast.specs.declared.expression.BinaryOp.TheVariants.{Add, Subtract, Multiply, Divide, Remainder, Less, Greater, LessEqual, GreaterEqual, Equal, NotEqual, And, Or}
use Rattle.cxx_ast.specs.Plain.{Expression, number, path, paren, unary, binary, call, std_call, Expressions, no_expressions, expression_then, Statement, block, empty, if_else, while, return, break, continue, throw, try, assign, evaluate, local_int, local_ref, local_object, Else, no_else, else_do, Statements, no_statements, statement_then, Handlers, no_handlers, handler_then}
use Rattle.run_items.specs.declared.item.Item.{Item}
use Rattle.meaning_forms.specs.World.{World, Reference}
use Rattle.meaning_forms.specs.Context.{Context}
use Rattle.meaning_forms.specs.Outcome.{Action, Result, stopped, thrown, pure, Flow, normal, breaks, continues, returns}
use Rattle.meaning_forms.specs.Running.{Running, Argument, by_value, by_reference}
use Rattle.meaning_forms.specs.Statement.{spend, spend_turn, followed, ◌then◌, looped, loop, int_thrown, object_thrown, call_thrown, part_thrown, lvalue_thrown, operand_thrown, throwing, returning, local_cell, after_try, statement, otherwise, statements, caught}
use Rattle.meaning_forms.specs.Frame.{Frame, with_argument, with_arguments}
use Rattle.meaning_forms.specs.Arithmetic.{in_range, dividing, unary_value, binary_value}
use Rattle.meaning_forms.specs.Expression.{passed, next_byte, builtin, called, with_right_side, value_of, arguments, construct, function_named}
use Rattle.meaning_forms.specs.Class.{ObjectType, int_type, class_type}
use Rattle.meaning_events.specs.Going.{Follows, items_left, GoesOn, CallsGoOn}
use Rattle.meaning_events.proofs.Going.{follows_same, follows_on, bind_goes, if_goes, stop_goes, world_goes, emit_goes, terminate_goes, pure_goes, new_object_goes, write_goes, read_goes, throw_new_goes, rethrow_goes, scope_goes, call_goes, destroy_goes, change_goes, call_module_goes, new_copy_goes, handle_goes}

pub with_argument_goes : (x : Param) (a : Argument) (f : Frame) → GoesOn Frame (with_argument x a f)
with_argument_goes x (by_value v) f = search (bind_goes, new_object_goes, pure_goes)
with_argument_goes x (by_reference y) f = search pure_goes

pub with_arguments_goes : (xs : List Param) (given : List Argument) (f : Frame) → GoesOn Frame (with_arguments xs given f)
with_arguments_goes [] given f = search pure_goes
with_arguments_goes (x ∷ xs) [] f = search pure_goes
with_arguments_goes (x ∷ xs) (a ∷ given) f = bind_goes _ _ (with_argument_goes x a f) (λ g. with_arguments_goes xs given g)

pub in_range_goes : (z : ℤ) → GoesOn ℤ (in_range z)
in_range_goes z = search (if_goes, pure_goes, stop_goes)

pub dividing_goes : (x y v : ℤ) → GoesOn ℤ (dividing x y v)
dividing_goes x y v = search (if_goes, pure_goes, stop_goes)

pub unary_value_goes : (op : UnaryOp) (x : ℤ) → GoesOn ℤ (unary_value op x)
unary_value_goes Minus x = search in_range_goes
unary_value_goes Not x = search pure_goes

pub binary_value_goes : (op : BinaryOp) (x y : ℤ) → GoesOn ℤ (binary_value op x y)
binary_value_goes Add x y = search in_range_goes
binary_value_goes Subtract x y = search in_range_goes
binary_value_goes Multiply x y = search in_range_goes
binary_value_goes Divide x y = search dividing_goes
binary_value_goes Remainder x y = search dividing_goes
binary_value_goes Less x y = search pure_goes
binary_value_goes Greater x y = search pure_goes
binary_value_goes LessEqual x y = search pure_goes
binary_value_goes GreaterEqual x y = search pure_goes
binary_value_goes Equal x y = search pure_goes
binary_value_goes NotEqual x y = search pure_goes
binary_value_goes And x y = search pure_goes
binary_value_goes Or x y = search pure_goes

pub passed_goes : (r : Running) (f : Frame) (types : List Ty) (e : Expression) (m : Action ℤ) → GoesOn ℤ m → GoesOn Argument (passed r f types e m)
passed_goes r f [] e m k = search (bind_goes, pure_goes)
passed_goes r f (t ∷ types) e m k = search (bind_goes, world_goes, if_goes, pure_goes) depth 9

pub next_byte_goes : (bytes : List ℕ) → GoesOn ℤ (next_byte bytes)
next_byte_goes [] = search pure_goes
next_byte_goes (b ∷ bytes) = bind_goes _ _ (change_goes (λ w. record w { input = bytes }) (λ w. refl)) (λ u. pure_goes ℤ (pos b))

pub builtin_goes : (r : Running) (b : Builtin) (es : Expressions) (given : Action (List Argument)) (c : Context) → CallsGoOn r → GoesOn (List Argument) given → GoesOn ℤ (builtin r b es given c)
builtin_goes r WriteInt es given c h k = search (bind_goes, emit_goes, pure_goes)
builtin_goes r ReadByte es given c h k = search (bind_goes, world_goes, next_byte_goes)
builtin_goes r Exit es given c h k = search (bind_goes, stop_goes)
builtin_goes r Module es given c h k = search (bind_goes, call_module_goes)
builtin_goes r Cancel es given c h k = search (bind_goes, stop_goes)
builtin_goes r Terminate es given c h k = search terminate_goes
builtin_goes r SetTerminate es given c h k =
    bind_goes _ _ (change_goes (λ w. record w { installed = record (w.installed) { terminate_handler = function_named es } }) (λ w. refl)) (λ u. pure_goes ℤ (pos 0))
builtin_goes r SetUnexpected es given c h k =
    bind_goes _ _ (change_goes (λ w. record w { installed = record (w.installed) { unexpected_handler = function_named es } }) (λ w. refl)) (λ u. pure_goes ℤ (pos 0))
builtin_goes r Uncaught es given c h k = search pure_goes
builtin_goes r BadException es given c h k = search pure_goes

pub called_goes : (r : Running) (f : Frame) (b : Bound) (names : List Name) (es : Expressions) (given : Action (List Argument)) (c : Context) → CallsGoOn r → GoesOn (List Argument) given
    → GoesOn ℤ (called r f b names es given c)
called_goes r f (Func n) names es given c h k = search (bind_goes, call_goes)
called_goes r f (Method m i) names es given c h k = search (bind_goes, world_goes, call_goes)
called_goes r f (BuiltinBound b) names es given c h k = search builtin_goes
called_goes r f b names es given c h k = search pure_goes

pub with_right_side_goes : (op : BinaryOp) (x : ℤ) (o : Option ℤ) (m : Action ℤ) → GoesOn ℤ m → GoesOn ℤ (with_right_side op x o m)
with_right_side_goes op x (Some v) m k = search pure_goes
with_right_side_goes op x None m k = search (bind_goes, binary_value_goes)

mutual
  pub value_of_goes : (r : Running) (f : Frame) (e : Expression) (c : Context) → CallsGoOn r → GoesOn ℤ (value_of r f e c)
  value_of_goes r f (number v place) c h = search pure_goes
  value_of_goes r f (path names) c h = search (bind_goes, world_goes, read_goes)
  value_of_goes r f (paren e place) c h = value_of_goes r f e c h
  value_of_goes r f (unary op e place) c h = bind_goes _ _ (value_of_goes r f e c h) (λ x. unary_value_goes op x)
  value_of_goes r f (binary op a b) c h = bind_goes _ _ (value_of_goes r f a c h) (λ x. with_right_side_goes op x _ _ (value_of_goes r f b c h))
  value_of_goes r f (call names es) c h = called_goes r f _ _ es _ c h (arguments_goes r f es _ c h)
  value_of_goes r f (std_call n es place) c h = called_goes r f _ _ es _ c h (arguments_goes r f es _ c h)

  pub arguments_goes : (r : Running) (f : Frame) (es : Expressions) (types : List Ty) (c : Context) → CallsGoOn r → GoesOn (List Argument) (arguments r f es types c)
  arguments_goes r f no_expressions types c h = search pure_goes
  arguments_goes r f (expression_then e es) types c h =
      bind_goes _ _ (passed_goes r f types e _ (value_of_goes r f e c h)) (λ a. bind_goes _ _ (arguments_goes r f es _ c h) (λ given. pure_goes _ _))

pub construct_goes : (r : Running) (f : Frame) (k : ℕ) (es : Expressions) (x : Reference) (c : Context) → CallsGoOn r → GoesOn (Unit {0}) (construct r f k es x c)
construct_goes r f k es x c h = search (bind_goes, world_goes, arguments_goes, call_goes, pure_goes) depth 9

pub spend_goes : (n : ℕ) (w : World) → Follows w.items (items_left (spend n w))
spend_goes zero w = follows_same w.items
spend_goes (suc n) w = follows_same w.items

pub spend_turn_goes : GoesOn (Unit {0}) spend_turn
spend_turn_goes = record { at = λ w. spend_goes w.turns w }

pub followed_goes : (m : Action Flow) (x : Flow) → GoesOn Flow m → GoesOn Flow (followed m x)
followed_goes m normal k = k
followed_goes m x k = search pure_goes

pub then_goes : (m next : Action Flow) → GoesOn Flow m → GoesOn Flow next → GoesOn Flow (m then next)
then_goes m next h k = bind_goes _ _ h (λ x. followed_goes next x k)

pub looped_goes : (m : Action Flow) (x : Flow) → GoesOn Flow m → GoesOn Flow (looped m x)
looped_goes m normal k = k
looped_goes m continues k = k
looped_goes m breaks k = search pure_goes
looped_goes m (returns v) k = search pure_goes

pub loop_goes : (n : ℕ) (test : Action ℤ) (body : Action Flow) → GoesOn ℤ test → GoesOn Flow body → GoesOn Flow (loop n test body)
loop_goes zero test body h k = search stop_goes
loop_goes (suc n) test body h k =
    bind_goes _ _ spend_turn_goes (λ u. bind_goes _ _ h (λ v. if_goes _ _ _ (pure_goes _ normal)
    (bind_goes _ _ k (λ x. looped_goes (loop n test body) x (loop_goes n test body h k)))))

pub int_thrown_goes : (r : Running) (f : Frame) (e : Expression) (c : Context) → CallsGoOn r → GoesOn ℕ (int_thrown r f e c)
int_thrown_goes r f e c h = search (bind_goes, value_of_goes, new_object_goes)

pub object_thrown_goes : (r : Running) (f : Frame) (k : ℕ) (es : Expressions) (c : Context) → CallsGoOn r → GoesOn ℕ (object_thrown r f k es c)
object_thrown_goes r f k es c h = search (bind_goes, new_object_goes, construct_goes, pure_goes)

pub call_thrown_goes : (r : Running) (f : Frame) (b : Bound) (e : Expression) (es : Expressions) (c : Context) → CallsGoOn r → GoesOn ℕ (call_thrown r f b e es c)
call_thrown_goes r f (Class k) e es c h = search object_thrown_goes
call_thrown_goes r f (BuiltinBound BadException) e es c h = search object_thrown_goes
call_thrown_goes r f b e es c h = search int_thrown_goes

pub part_thrown_goes : (r : Running) (f : Frame) (e : Expression) (x : Reference) (t : ObjectType) (c : Context) → CallsGoOn r → GoesOn ℕ (part_thrown r f e x t c)
part_thrown_goes r f e x int_type c h = search int_thrown_goes
part_thrown_goes r f e x (class_type k) c h = search new_copy_goes

pub lvalue_thrown_goes : (r : Running) (f : Frame) (e : Expression) (o : Option (List Name)) (c : Context) → CallsGoOn r → GoesOn ℕ (lvalue_thrown r f e o c)
lvalue_thrown_goes r f e None c h = search int_thrown_goes
lvalue_thrown_goes r f e (Some names) c h = search (bind_goes, world_goes, part_thrown_goes)

pub operand_thrown_goes : (r : Running) (f : Frame) (e : Expression) (c : Context) → CallsGoOn r → GoesOn ℕ (operand_thrown r f e c)
operand_thrown_goes r f (call names es) c h = search call_thrown_goes
operand_thrown_goes r f (std_call n es place) c h = search call_thrown_goes
operand_thrown_goes r f e c h = search lvalue_thrown_goes

pub throwing_goes : (r : Running) (f : Frame) (o : Option Expression) (c : Context) → CallsGoOn r → GoesOn Flow (throwing r f o c)
throwing_goes r f None c h = search rethrow_goes
throwing_goes r f (Some e) c h = search (throw_new_goes, operand_thrown_goes)

pub returning_goes : (r : Running) (f : Frame) (o : Option Expression) (c : Context) → CallsGoOn r → GoesOn Flow (returning r f o c)
returning_goes r f None c h = search pure_goes
returning_goes r f (Some e) c h = search (bind_goes, value_of_goes, pure_goes)

pub local_cell_goes : (r : Running) (f : Frame) (o : Option Expression) (c : Context) → CallsGoOn r → GoesOn ℕ (local_cell r f o c)
local_cell_goes r f None c h = search new_object_goes
local_cell_goes r f (Some e) c h = search (bind_goes, value_of_goes, new_object_goes)

pub after_try_goes : (A : Type 0) (handler : ℕ → Action A) (n : List Item) (m : Result A) → ((e : ℕ) → GoesOn A (handler e)) → Follows n (items_left m) → Follows n (items_left (after_try handler m))
after_try_goes A handler n (stopped (thrown e) w) k g = follows_on g ((k e).at w)
after_try_goes A handler n m k g = g

pub try_goes : (A : Type 0) (handler : ℕ → Action A) (m : Action A) → ((e : ℕ) → GoesOn A (handler e)) → GoesOn A m → GoesOn A (λ w. after_try handler (m w))
try_goes A handler m k g = record { at = λ w. after_try_goes A handler _ (m w) k (g.at w) }

mutual
  pub statement_goes : (r : Running) (s : Statement) (rest : Frame → Action Flow) (f : Frame) (c : Context) → CallsGoOn r → ((g : Frame) → GoesOn Flow (rest g)) → GoesOn Flow (statement r s rest f c)
  statement_goes r (block ss) rest f c h k = then_goes _ _ (statements_goes r ss f c h) (k f)
  statement_goes r empty rest f c h k = k f
  statement_goes r (if_else e s t) rest f c h k =
      then_goes _ _ (bind_goes _ _ (value_of_goes r f e c h)
      (λ v. if_goes _ _ _ (otherwise_goes r t f c h) (statement_goes r s _ f c h (λ g. pure_goes _ normal)))) (k f)
  statement_goes r (while e s) rest f c h k =
      then_goes _ _ (bind_goes _ _ world_goes
      (λ w. loop_goes (suc w.turns) _ _ (value_of_goes r f e c h) (statement_goes r s (λ g. pure normal) f c h (λ g. pure_goes _ normal)))) (k f)
  statement_goes r (return place e) rest f c h k = returning_goes r f e c h
  statement_goes r (break place) rest f c h k = pure_goes _ _
  statement_goes r (continue place) rest f c h k = pure_goes _ _
  statement_goes r (throw place e) rest f c h k = throwing_goes r f e c h
  statement_goes r (try ss hs) rest f c h k =
      then_goes _ _ (try_goes _ _ _ (λ e. caught_goes r hs f c e h) (statements_goes r ss f _ h)) (k f)
  statement_goes r (assign names e) rest f c h k =
      bind_goes _ _ (value_of_goes r f e c h) (λ v. bind_goes _ _ world_goes (λ w. bind_goes _ _ (write_goes _ v) (λ u. k f)))
  statement_goes r (evaluate e) rest f c h k = bind_goes _ _ (value_of_goes r f e c h) (λ v. k f)
  statement_goes r (local_int n e) rest f c h k = bind_goes _ _ (local_cell_goes r f e c h) (λ o. k _)
  statement_goes r (local_ref x names) rest f c h k = bind_goes _ _ world_goes (λ w. k _)
  statement_goes r (local_object m n es) rest f c h k =
      search (bind_goes, new_object_goes, construct_goes, scope_goes, destroy_goes, k) depth 9

  pub otherwise_goes : (r : Running) (t : Else) (f : Frame) (c : Context) → CallsGoOn r → GoesOn Flow (otherwise r t f c)
  otherwise_goes r no_else f c h = pure_goes _ _
  otherwise_goes r (else_do s) f c h = statement_goes r s _ f c h (λ g. pure_goes _ normal)

  pub statements_goes : (r : Running) (ss : Statements) (f : Frame) (c : Context) → CallsGoOn r → GoesOn Flow (statements r ss f c)
  statements_goes r no_statements f c h = pure_goes _ _
  statements_goes r (statement_then s ss) f c h = statement_goes r s _ f c h (λ g. statements_goes r ss g c h)

  pub caught_goes : (r : Running) (hs : Handlers) (f : Frame) (c : Context) (e : ℕ) → CallsGoOn r → GoesOn Flow (caught r hs f c e)
  caught_goes r no_handlers f c e h = stop_goes _ _
  caught_goes r (handler_then t n ss place hs) f c e h =
      bind_goes _ _ world_goes (λ w. if_goes _ _ _ (handle_goes _ r e t n _ f c h (λ g d. statements_goes r ss g d h)) (caught_goes r hs f c e h))
