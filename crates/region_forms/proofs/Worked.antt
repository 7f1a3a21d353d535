-- Worked programs: their regions mean what they mean, by computation.
use Rattle.std.specs.Prelude.{◌≡◌, refl, pos, ℕ, true, false, List, [], ◌∷◌, Option, Some, None}
use Rattle.cxx_ast.specs.declared.name.Bound.{Bound}
use Rattle.cxx_ast.specs.declared.name.Bound.TheVariants.{Local, Field, Class, Func, Builtin}
use Rattle.cxx_ast.specs.declared.name.Builtin.TheVariants.{WriteInt, Module, SetUnexpected}
use Rattle.cxx_ast.specs.declared.types.Ty.TheVariants.{Int, Void, Object, IntRef, ObjectRef}
use Rattle.cxx_ast.specs.declared.declaration.FuncKind.TheVariants.{Plain, Constructor, Destructor}
use Rattle.cxx_ast.specs.declared.expression.BinaryOp.TheVariants.{Add, Less, Equal, And, Or}
use Rattle.cxx_ast.specs.Plain.{Class as ClassTree, listed, noexcept, Specification, Checked, Expression, number, path, paren, binary, call, std_call, Expressions, no_expressions, expression_then, Statement, if_else, block, while, return, break, continue, throw, try, assign, evaluate, local_int, local_object, no_else, Statements, no_statements, statement_then, no_handlers, handler_then}
use Rattle.eh_outer.specs.declared.module.Reply.{Reply}
use Rattle.eh_outer.specs.declared.module.Reply.TheVariants.{Raise}
use Rattle.meaning_forms.specs.Meaning.{program_meaning}
use Rattle.meaning_forms.proofs.Trees.{nm, pa, ini, fn, cl, ck}
use Rattle.region_forms.specs.Form.{Place, in_slot, through, defined, builtin, Value, number as number_value, load, binary as binary_value, call_value, Arguments, no_arguments, argument_then, int_argument, store, call as call_op, construct, enter, destroy_scope, leave_handler, Region, op, protect, catch, leave_region, no_clauses, clause_then, in_order, function_at}
use Rattle.region_forms.specs.Layout.{layout_of}
use Rattle.region_forms.specs.LowerProgram.{regions_of}
use Rattle.region_forms.specs.Meaning.{regions_meaning}
use Rattle.region_forms.specs.WellFormed.{is_well_formed}

abbrev rows : List Statement → Statements
rows [] = no_statements
rows (s ∷ ss) = statement_then s (rows ss)

abbrev arguments : List Expression → Expressions
arguments [] = no_expressions
arguments (e ∷ es) = expression_then e (arguments es)

abbrev int : ℕ → Expression
int n = number (pos n) 0

abbrev var : Bound → Expression
var b = path (nm b ∷ [])

abbrev called : Bound → List Expression → Expression
called b es = call (nm b ∷ []) (arguments es)

abbrev say : Expression → Statement
say e = evaluate (called (Builtin WriteInt) (e ∷ []))

abbrev object : ℕ → ℕ → List Expression → Statement
object k n es = local_object (nm (Class k)) (nm (Local n)) (arguments es)

abbrev bad_exception : ClassTree
bad_exception = cl None [] []

-- struct A { int n; A(int k) { n = k; } ~A() { write_int(n); } };
abbrev class_a : ClassTree
class_a = cl None (pa Int (Some (nm (Field 1 0))) ∷ []) (
    fn Constructor Void (pa Int (Some (nm (Local 0))) ∷ []) None [] (rows (assign (nm (Field 1 0) ∷ []) (var (Local 0)) ∷ [])) ∷
    fn Destructor Void [] None [] (rows (say (var (Field 1 0)) ∷ [])) ∷ [])

-- its regions mean what a program means, and are well-formed
abbrev AreSame : Checked → List (List Reply) → Type 0
AreSame p replies =
    (regions_meaning (regions_of p (layout_of p)) (65 ∷ []) replies 100 128 ≡ program_meaning p (65 ∷ []) replies 100 128) ×
    (is_well_formed (regions_of p (layout_of p)) ≡ true)

-- A loop's object is destroyed at `continue`, at `break` and at the end of its body.
--     int main() { int i = 0; while (i < 4) { A a(i); i = i + 1; if (i == 1) continue; if (i == 3) break; write_int(9); } return i; }
leaves_a_loop : Checked
leaves_a_loop = ck (bad_exception ∷ class_a ∷ []) [] (
    fn Plain Int [] None [] (rows (
    local_int (nm (Local 0)) (Some (int 0)) ∷
    while (binary Less (var (Local 0)) (int 4)) (block (rows (
    object 1 1 (var (Local 0) ∷ []) ∷
    assign (nm (Local 0) ∷ []) (binary Add (var (Local 0)) (int 1)) ∷
    if_else (binary Equal (var (Local 0)) (int 1)) (continue 0) no_else ∷
    if_else (binary Equal (var (Local 0)) (int 3)) (break 0) no_else ∷
    say (int 9) ∷ []))) ∷
    return 0 (Some (var (Local 0))) ∷ [])) ∷ []) 0

leaves_a_loop-same : AreSame leaves_a_loop []
unfolding leaves_a_loop
leaves_a_loop-same = (refl, refl)

-- The right sides of `&&` and `||` that make calls are evaluated only where they decide.
--     int f(int x) { write_int(x); return x; } int main() { write_int(f(0) && f(1)); write_int(f(2) || f(3)); return f(4) + (f(0) || f(5)); }
calls_that_decide : Checked
calls_that_decide = ck (bad_exception ∷ []) [] (
    fn Plain Int (pa Int (Some (nm (Local 0))) ∷ []) None [] (rows (say (var (Local 0)) ∷ return 0 (Some (var (Local 0))) ∷ [])) ∷
    fn Plain Int [] None [] (rows (
    say (binary And (called (Func 0) (int 0 ∷ [])) (called (Func 0) (int 1 ∷ []))) ∷
    say (binary Or (called (Func 0) (int 2 ∷ [])) (called (Func 0) (int 3 ∷ []))) ∷
    return 0 (Some (binary Add (called (Func 0) (int 4 ∷ [])) (binary Or (called (Func 0) (int 0 ∷ [])) (called (Func 0) (int 5 ∷ []))))) ∷ [])) ∷ []) 1

calls_that_decide-same : AreSame calls_that_decide []
unfolding calls_that_decide
calls_that_decide-same = (refl, refl)

-- Where a constructor throws, its complete parts are destroyed in reverse order, and a handler takes a copy of what is thrown.
--     struct C : A { A m; C() : A(1), m(2) { throw A(5); } ~C() { write_int(9); } };
--     int main() { try { C c; } catch (A a) { write_int(a.n); } return 0; }
constructor_that_throws : Checked
constructor_that_throws = ck (
    bad_exception ∷ class_a ∷
    cl (Some (nm (Class 1))) (pa (Object (nm (Class 1))) (Some (nm (Field 2 0))) ∷ []) (
    fn Constructor Void [] None (ini (nm (Class 1)) (arguments (int 1 ∷ [])) ∷ ini (nm (Field 2 0)) (arguments (int 2 ∷ [])) ∷ [])
    (rows (throw 0 (Some (called (Class 1) (int 5 ∷ []))) ∷ [])) ∷
    fn Destructor Void [] None [] (rows (say (int 9) ∷ [])) ∷ []) ∷ []) [] (
    fn Plain Int [] None [] (rows (
    try (rows (object 2 0 [] ∷ []))
    (handler_then (Some (Object (nm (Class 1)))) (Some (nm (Local 1))) (rows (say (path (nm (Local 1) ∷ nm (Field 1 0) ∷ [])) ∷ [])) 0 no_handlers) ∷
    return 0 (Some (int 0)) ∷ [])) ∷ []) 0

constructor_that_throws-same : AreSame constructor_that_throws []
unfolding constructor_that_throws
constructor_that_throws-same = (refl, refl)

-- A specification replaces an exception by a bad_exception, and a foreign exception passes a clause for a class.
--     void f() throw(std::bad_exception) { A a(1); throw 3; } void u() { throw; }
--     int main() { std::set_unexpected(u);
--         try { f(); } catch (std::bad_exception&) { write_int(6); }
--         try { __module(0, 0); } catch (A&) { write_int(1); } catch (...) { write_int(2); }
--         return 0; }
specification_and_module : Checked
specification_and_module = ck (bad_exception ∷ class_a ∷ []) [] (
    fn Plain Void [] (Some (listed (Object (nm (Class 0)) ∷ []))) [] (rows (object 1 0 (int 1 ∷ []) ∷ throw 0 (Some (int 3)) ∷ [])) ∷
    fn Plain Void [] None [] (rows (throw 0 None ∷ [])) ∷
    fn Plain Int [] None [] (rows (
    evaluate (std_call (nm (Builtin SetUnexpected)) (arguments (var (Func 1) ∷ [])) 0) ∷
    try (rows (evaluate (called (Func 0) []) ∷ []))
    (handler_then (Some (ObjectRef false (nm (Class 0)))) None (rows (say (int 6) ∷ [])) 0 no_handlers) ∷
    try (rows (evaluate (called (Builtin Module) (int 0 ∷ int 0 ∷ [])) ∷ []))
    (handler_then (Some (ObjectRef false (nm (Class 1)))) None (rows (say (int 1) ∷ [])) 0
    (handler_then None None (rows (say (int 2) ∷ [])) 0 no_handlers)) ∷
    return 0 (Some (int 0)) ∷ [])) ∷ []) 2

specification_and_module-same : AreSame specification_and_module ((Raise 7 ∷ []) ∷ [])
unfolding specification_and_module
specification_and_module-same = (refl, refl)

-- The regions of a function with two objects, a try block and a return in it. Its variables are in slots 0 to 3, its result is in slot 4, and
-- the address of an exception object in slot 5; the functions of class A are numbered from 5 on, behind those of `std::bad_exception`.
--     void g() { } int f(int x) { A a(x); try { A b(x + 1); g(); return 2; } catch (int e) { write_int(e); } return 1; }
two_objects : Checked
two_objects = ck (bad_exception ∷ class_a ∷ []) [] (
    fn Plain Void [] None [] no_statements ∷
    fn Plain Int (pa Int (Some (nm (Local 0))) ∷ []) None [] (rows (
    object 1 1 (var (Local 0) ∷ []) ∷
    try (rows (object 1 2 (binary Add (var (Local 0)) (int 1) ∷ []) ∷ evaluate (called (Func 0) []) ∷ return 0 (Some (int 2)) ∷ []))
    (handler_then (Some Int) (Some (nm (Local 3))) (rows (say (var (Local 3)) ∷ [])) 0 no_handlers) ∷
    return 0 (Some (int 1)) ∷ [])) ∷ []) 0

-- a slot's beginning
abbrev at : ℕ → Place
at s = record { root = in_slot s; offset = 0 }

-- what an argument is
abbrev given : Value → Arguments
given v = argument_then (int_argument v) no_arguments

-- a handler of the function, and what its try block guards
abbrev handler_of_f : Region
handler_of_f = in_order (
    op (store (at 3) (load (record { root = through 5; offset = 0 }))) ∷
    op (enter 5) ∷
    protect (in_order (op (call_op (builtin WriteInt) (given (load (at 3)))) ∷ [])) leave_handler ∷ [])

abbrev guarded_of_f : Region
guarded_of_f = in_order (
    op (construct (at 2) 5 (given (binary_value Add (load (at 0)) (number_value (pos 1))))) ∷
    protect (in_order (op (call_op (defined 0) no_arguments) ∷ op (store (at 4) (number_value (pos 2))) ∷ leave_region 8 ∷ []))
    (destroy_scope (at 2) 6) ∷ [])

two_objects-regions : (function_at (regions_of two_objects (layout_of two_objects)) 1).body ≡ in_order (in_order (
    op (construct (at 1) 5 (given (load (at 0)))) ∷
    protect (in_order (
    catch guarded_of_f (clause_then (Some 0) 5 handler_of_f no_clauses) ∷
    op (store (at 4) (number_value (pos 1))) ∷
    leave_region 4 ∷ []))
    (destroy_scope (at 1) 6) ∷ []) ∷ [])
unfolding two_objects
two_objects-regions = refl

-- What a call gives goes to a variable, behind a reference and to the result at once, also in parentheses; inside a sum it waits in slot 4.
--     int h(int k) { write_int(k); return k; } int f(int& x) { int y = h(1); x = (h(y)); y = h(2) + x; return h(y); } int main() { int a; return f(a) + a; }
calls_that_are_stored : Checked
calls_that_are_stored = ck (bad_exception ∷ []) [] (
    fn Plain Int (pa Int (Some (nm (Local 0))) ∷ []) None [] (rows (say (var (Local 0)) ∷ return 0 (Some (var (Local 0))) ∷ [])) ∷
    fn Plain Int (pa (IntRef false) (Some (nm (Local 0))) ∷ []) None [] (rows (
    local_int (nm (Local 1)) (Some (called (Func 0) (int 1 ∷ []))) ∷
    assign (nm (Local 0) ∷ []) (paren (called (Func 0) (var (Local 1) ∷ [])) 0) ∷
    assign (nm (Local 1) ∷ []) (binary Add (called (Func 0) (int 2 ∷ [])) (var (Local 0))) ∷
    return 0 (Some (called (Func 0) (var (Local 1) ∷ []))) ∷ [])) ∷
    fn Plain Int [] None [] (rows (
    local_int (nm (Local 0)) None ∷
    return 0 (Some (binary Add (called (Func 1) (var (Local 0) ∷ [])) (var (Local 0)))) ∷ [])) ∷ []) 2

calls_that_are_stored-same : AreSame calls_that_are_stored []
unfolding calls_that_are_stored
calls_that_are_stored-same = (refl, refl)

-- what function h gives
abbrev given_by_h : Value → Value
given_by_h v = call_value (defined 0) (given v)

-- what x refers to
abbrev referred : Place
referred = record { root = through 0; offset = 0 }

calls_that_are_stored-regions : (function_at (regions_of calls_that_are_stored (layout_of calls_that_are_stored)) 1).body ≡ in_order (in_order (
    op (store (at 1) (given_by_h (number_value (pos 1)))) ∷
    op (store referred (given_by_h (load (at 1)))) ∷
    op (store (at 4) (given_by_h (number_value (pos 2)))) ∷
    op (store (at 1) (binary_value Add (load (at 4)) (load referred))) ∷
    op (store (at 2) (given_by_h (load (at 1)))) ∷
    leave_region 2 ∷ []) ∷ [])
unfolding calls_that_are_stored
calls_that_are_stored-regions = refl

-- What is `noexcept` is unwound, and ends the program, whatever comes out of it: an int, a foreign exception, or an exception of a destructor.
--     struct T { int n; T(int k) { n = k; } ~T() noexcept { write_int(n); if (n == 2) throw n; } };
--     void f() noexcept { T x(1); throw 2; } int main() { try { f(); } catch (int) { write_int(3); } return 0; }
abbrev ends : Option Specification
ends = Some (noexcept 0 true)

abbrev class_t : ClassTree
class_t = cl None (pa Int (Some (nm (Field 1 0))) ∷ []) (
    fn Constructor Void (pa Int (Some (nm (Local 0))) ∷ []) None [] (rows (assign (nm (Field 1 0) ∷ []) (var (Local 0)) ∷ [])) ∷
    fn Destructor Void [] ends [] (rows (
    say (var (Field 1 0)) ∷ if_else (binary Equal (var (Field 1 0)) (int 2)) (throw 0 (Some (var (Field 1 0)))) no_else ∷ [])) ∷ [])

noexcept_function : ℕ → Statement → Checked
noexcept_function n s = ck (bad_exception ∷ class_t ∷ []) [] (
    fn Plain Void [] ends [] (rows (object 1 0 (int n ∷ []) ∷ s ∷ [])) ∷
    fn Plain Int [] None [] (rows (
    try (rows (evaluate (called (Func 0) []) ∷ [])) (handler_then (Some Int) None (rows (say (int 3) ∷ [])) 0 no_handlers) ∷
    return 0 (Some (int 0)) ∷ [])) ∷ []) 1

throws_in_noexcept : Checked
unfolding noexcept_function
throws_in_noexcept = noexcept_function 1 (throw 0 (Some (int 2)))

throws_in_noexcept-same : AreSame throws_in_noexcept []
unfolding noexcept_function throws_in_noexcept
throws_in_noexcept-same = (refl, refl)

raises_in_noexcept : Checked
unfolding noexcept_function
raises_in_noexcept = noexcept_function 1 (evaluate (called (Builtin Module) (int 0 ∷ int 0 ∷ [])))

raises_in_noexcept-same : AreSame raises_in_noexcept ((Raise 7 ∷ []) ∷ [])
unfolding noexcept_function raises_in_noexcept
raises_in_noexcept-same = (refl, refl)

leaves_noexcept : Checked
unfolding noexcept_function
leaves_noexcept = noexcept_function 1 (return 0 None)

leaves_noexcept-same : AreSame leaves_noexcept []
unfolding noexcept_function leaves_noexcept
leaves_noexcept-same = (refl, refl)

destroys_in_noexcept : Checked
unfolding noexcept_function
destroys_in_noexcept = noexcept_function 2 (return 0 None)

destroys_in_noexcept-same : AreSame destroys_in_noexcept []
unfolding noexcept_function destroys_in_noexcept
destroys_in_noexcept-same = (refl, refl)
