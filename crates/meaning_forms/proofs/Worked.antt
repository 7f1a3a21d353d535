-- Worked programs and what they mean, by computation. `A` stands for the class that is defined first here.
use Rattle.std.specs.Prelude.{◌≡◌, refl, pos, negsuc, List, [], ◌∷◌, Some, None, true, false}
use Rattle.cxx_ast.specs.declared.name.Bound.TheVariants.{Local, Field, Class, Func, Builtin}
use Rattle.cxx_ast.specs.declared.name.Builtin.TheVariants.{WriteInt, ReadByte, Exit, Module, Cancel, SetTerminate, SetUnexpected}
use Rattle.cxx_ast.specs.declared.types.Ty.TheVariants.{Int, Void, Object, IntRef, ObjectRef}
use Rattle.cxx_ast.specs.declared.declaration.FuncKind.TheVariants.{Plain, Constructor, Destructor}
use Rattle.cxx_ast.specs.declared.expression.BinaryOp.TheVariants.{Remainder, Add, Divide, Equal}
use Rattle.cxx_ast.specs.declared.expression.UnaryOp.TheVariants.{Minus}
use Rattle.cxx_ast.specs.Plain.{Class as ClassTree, listed, Checked, number, path, unary, binary, call, std_call, no_expressions, expression_then, if_else, return, throw, try, assign, evaluate, local_object, no_else, no_statements, statement_then, no_handlers, handler_then}
use Rattle.eh_outer.specs.declared.module.Reply.TheVariants.{Value, Raise}
use Rattle.run_items.specs.declared.item.Item.{Item}
use Rattle.run_items.specs.declared.item.Item.TheVariants.{Line, Make, Foreign, Enter, Leave, Destroy, Free, Clean}
use Rattle.meaning_forms.specs.declared.ending.MeanEnd.{MeanEnd}
use Rattle.meaning_forms.specs.declared.ending.MeanEnd.TheVariants.{Exit, Aborted}
use Rattle.meaning_forms.specs.Meaning.{Meaning, program_meaning}
use Rattle.meaning_forms.proofs.Trees.{nm, pa, ini, fn, cl, ck, lines_of}

-- what a program writes, with the events or without them, and how it ends
abbrev pub told : Meaning → List Item × MeanEnd
told m = (m.items, m.end)

abbrev pub told_lines : Meaning → List Item × MeanEnd
told_lines m = (lines_of m.items, m.end)

-- std::bad_exception
abbrev pub bad_exception : ClassTree
bad_exception = cl None [] []

-- struct A { int n; A(int k) { n = k; } ~A() { write_int(n); } };
abbrev pub class_a : ClassTree
class_a = cl None (pa Int (Some (nm (Field 1 0))) ∷ []) ((fn Constructor Void (pa Int (Some (nm (Local 0))) ∷ []) None [] (statement_then (assign (nm (Field 1 0) ∷ []) (path (nm (Local 0) ∷ []))) no_statements)) ∷ (fn Destructor Void [] None [] (statement_then (evaluate (call (nm (Builtin WriteInt) ∷ []) (expression_then (path (nm (Field 1 0) ∷ [])) no_expressions))) no_statements)) ∷ [])

-- An exception unwinds its function and the try block, innermost objects first.
--     A void f() { A x(1); A y(2); throw 7; } int main() { try { A z(3); f(); } catch (int e) { write_int(e); } return 0; }
unwinds_to_the_handler : Checked
unwinds_to_the_handler = ck (
    bad_exception
    ∷ class_a ∷ []) [] (
    fn Plain Void [] None [] (statement_then (local_object (nm (Class 1)) (nm (Local 0)) (expression_then (number (pos 1) 0) no_expressions)) (statement_then (local_object (nm (Class 1)) (nm (Local 1)) (expression_then (number (pos 2) 0) no_expressions)) (statement_then (throw 0 (Some (number (pos 7) 0))) no_statements)))
    ∷ fn Plain Int [] None [] (statement_then (try (statement_then (local_object (nm (Class 1)) (nm (Local 0)) (expression_then (number (pos 3) 0) no_expressions)) (statement_then (evaluate (call (nm (Func 0) ∷ []) no_expressions)) no_statements)) (handler_then (Some Int) (Some (nm (Local 1))) (statement_then (evaluate (call (nm (Builtin WriteInt) ∷ []) (expression_then (path (nm (Local 1) ∷ [])) no_expressions))) no_statements) 0 no_handlers)) (statement_then (return 0 (Some (number (pos 0) 0))) no_statements)) ∷ []) 1

unwinds_to_the_handler-means : told (program_meaning unwinds_to_the_handler [] [] 100 128) ≡ ((Make 1 ∷ Line (pos 2) ∷ Line (pos 1) ∷ Line (pos 3) ∷ Enter 1 ∷ Line (pos 7) ∷ Leave 1 ∷ Destroy 1 ∷ Free 1 ∷ []), Exit (pos 0))
unfolding unwinds_to_the_handler
unwinds_to_the_handler-means = refl

-- With nothing that stops it, terminate comes before any cleanup.
--     A void f() { A x(1); A y(2); throw 7; } int main() { A z(3); f(); return 0; }
uncaught : Checked
uncaught = ck (
    bad_exception
    ∷ class_a ∷ []) [] (
    fn Plain Void [] None [] (statement_then (local_object (nm (Class 1)) (nm (Local 0)) (expression_then (number (pos 1) 0) no_expressions)) (statement_then (local_object (nm (Class 1)) (nm (Local 1)) (expression_then (number (pos 2) 0) no_expressions)) (statement_then (throw 0 (Some (number (pos 7) 0))) no_statements)))
    ∷ fn Plain Int [] None [] (statement_then (local_object (nm (Class 1)) (nm (Local 0)) (expression_then (number (pos 3) 0) no_expressions)) (statement_then (evaluate (call (nm (Func 0) ∷ []) no_expressions)) (statement_then (return 0 (Some (number (pos 0) 0))) no_statements))) ∷ []) 1

uncaught-means : told (program_meaning uncaught [] [] 100 128) ≡ ((Make 1 ∷ Enter 1 ∷ []), Aborted)
unfolding uncaught
uncaught-means = refl

-- The first clause that matches is taken, and not the closest.
--     struct B { }; struct D : B { }; int main() { try { throw D(); } catch (B&) { write_int(1); } catch (D&) { write_int(2); } return 0; }
first_clause : Checked
first_clause = ck (
    bad_exception
    ∷ cl None [] []
    ∷ cl (Some (nm (Class 1))) [] [] ∷ []) [] (
    fn Plain Int [] None [] (statement_then (try (statement_then (throw 0 (Some (call (nm (Class 2) ∷ []) no_expressions))) no_statements) (handler_then (Some (ObjectRef false (nm (Class 1)))) None (statement_then (evaluate (call (nm (Builtin WriteInt) ∷ []) (expression_then (number (pos 1) 0) no_expressions))) no_statements) 0 (handler_then (Some (ObjectRef false (nm (Class 2)))) None (statement_then (evaluate (call (nm (Builtin WriteInt) ∷ []) (expression_then (number (pos 2) 0) no_expressions))) no_statements) 0 no_handlers))) (statement_then (return 0 (Some (number (pos 0) 0))) no_statements)) ∷ []) 0

first_clause-means : told_lines (program_meaning first_clause [] [] 100 128) ≡ ((Line (pos 1) ∷ []), Exit (pos 0))
unfolding first_clause
first_clause-means = refl

-- An exception that is rethrown and caught again inside its own handler is freed when the outer handler is left.
--     int main() { try { throw 4; } catch (int&) { try { throw; } catch (int&) { } write_int(1); } return 0; }
rethrown_inside_its_handler : Checked
rethrown_inside_its_handler = ck (
    bad_exception ∷ []) [] (
    fn Plain Int [] None [] (statement_then (try (statement_then (throw 0 (Some (number (pos 4) 0))) no_statements) (handler_then (Some (IntRef false)) None (statement_then (try (statement_then (throw 0 None) no_statements) (handler_then (Some (IntRef false)) None no_statements 0 no_handlers)) (statement_then (evaluate (call (nm (Builtin WriteInt) ∷ []) (expression_then (number (pos 1) 0) no_expressions))) no_statements)) 0 no_handlers)) (statement_then (return 0 (Some (number (pos 0) 0))) no_statements)) ∷ []) 0

rethrown_inside_its_handler-means : told (program_meaning rethrown_inside_its_handler [] [] 100 128) ≡ ((Make 1 ∷ Enter 1 ∷ Enter 1 ∷ Leave 1 ∷ Line (pos 1) ∷ Leave 1 ∷ Destroy 1 ∷ Free 1 ∷ []), Exit (pos 0))
unfolding rethrown_inside_its_handler
rethrown_inside_its_handler-means = refl

-- A destructor that throws in a normal exit makes it an exceptional one, and the other objects are destroyed under it.
--     struct T { int n; T(int k) { n = k; } ~T() { write_int(n); if (n == 2) throw n; } }; int main() { try { T a(1); T b(2); } catch (int e) { write_int(e + 10); } return 0; }
destructor_that_throws : Checked
destructor_that_throws = ck (
    bad_exception
    ∷ cl None (pa Int (Some (nm (Field 1 0))) ∷ []) ((fn Constructor Void (pa Int (Some (nm (Local 0))) ∷ []) None [] (statement_then (assign (nm (Field 1 0) ∷ []) (path (nm (Local 0) ∷ []))) no_statements)) ∷ (fn Destructor Void [] None [] (statement_then (evaluate (call (nm (Builtin WriteInt) ∷ []) (expression_then (path (nm (Field 1 0) ∷ [])) no_expressions))) (statement_then (if_else (binary Equal (path (nm (Field 1 0) ∷ [])) (number (pos 2) 0)) (throw 0 (Some (path (nm (Field 1 0) ∷ [])))) no_else) no_statements))) ∷ []) ∷ []) [] (
    fn Plain Int [] None [] (statement_then (try (statement_then (local_object (nm (Class 1)) (nm (Local 0)) (expression_then (number (pos 1) 0) no_expressions)) (statement_then (local_object (nm (Class 1)) (nm (Local 1)) (expression_then (number (pos 2) 0) no_expressions)) no_statements)) (handler_then (Some Int) (Some (nm (Local 2))) (statement_then (evaluate (call (nm (Builtin WriteInt) ∷ []) (expression_then (binary Add (path (nm (Local 2) ∷ [])) (number (pos 10) 0)) no_expressions))) no_statements) 0 no_handlers)) (statement_then (return 0 (Some (number (pos 0) 0))) no_statements)) ∷ []) 0

destructor_that_throws-means : told_lines (program_meaning destructor_that_throws [] [] 100 128) ≡ ((Line (pos 2) ∷ Line (pos 1) ∷ Line (pos 12) ∷ []), Exit (pos 0))
unfolding destructor_that_throws
destructor_that_throws-means = refl

-- An exception that would leave a destructor during unwinding is doomed where it is thrown.
--     A struct T { ~T() { A x(9); throw 8; } }; int main() { try { T t; throw 7; } catch (...) { } return 0; }
doomed_in_a_cleanup : Checked
doomed_in_a_cleanup = ck (
    bad_exception
    ∷ class_a
    ∷ cl None [] ((fn Destructor Void [] None [] (statement_then (local_object (nm (Class 1)) (nm (Local 0)) (expression_then (number (pos 9) 0) no_expressions)) (statement_then (throw 0 (Some (number (pos 8) 0))) no_statements))) ∷ []) ∷ []) [] (
    fn Plain Int [] None [] (statement_then (try (statement_then (local_object (nm (Class 2)) (nm (Local 0)) no_expressions) (statement_then (throw 0 (Some (number (pos 7) 0))) no_statements)) (handler_then None None no_statements 0 no_handlers)) (statement_then (return 0 (Some (number (pos 0) 0))) no_statements)) ∷ []) 0

doomed_in_a_cleanup-means : told (program_meaning doomed_in_a_cleanup [] [] 100 128) ≡ ((Make 1 ∷ Make 2 ∷ Enter 2 ∷ []), Aborted)
unfolding doomed_in_a_cleanup
doomed_in_a_cleanup-means = refl

-- Where a constructor throws, its complete parts are destroyed in reverse order, and not the object.
--     A struct C : A { A m; C() : A(1), m(2) { throw 5; } ~C() { write_int(9); } }; int main() { try { C c; } catch (int e) { write_int(e); } return 0; }
constructor_that_throws : Checked
constructor_that_throws = ck (
    bad_exception
    ∷ class_a
    ∷ cl (Some (nm (Class 1))) (pa (Object (nm (Class 1))) (Some (nm (Field 2 0))) ∷ []) ((fn Constructor Void [] None (ini (nm (Class 1)) (expression_then (number (pos 1) 0) no_expressions) ∷ ini (nm (Field 2 0)) (expression_then (number (pos 2) 0) no_expressions) ∷ []) (statement_then (throw 0 (Some (number (pos 5) 0))) no_statements)) ∷ (fn Destructor Void [] None [] (statement_then (evaluate (call (nm (Builtin WriteInt) ∷ []) (expression_then (number (pos 9) 0) no_expressions))) no_statements)) ∷ []) ∷ []) [] (
    fn Plain Int [] None [] (statement_then (try (statement_then (local_object (nm (Class 2)) (nm (Local 0)) no_expressions) no_statements) (handler_then (Some Int) (Some (nm (Local 1))) (statement_then (evaluate (call (nm (Builtin WriteInt) ∷ []) (expression_then (path (nm (Local 1) ∷ [])) no_expressions))) no_statements) 0 no_handlers)) (statement_then (return 0 (Some (number (pos 0) 0))) no_statements)) ∷ []) 0

constructor_that_throws-means : told_lines (program_meaning constructor_that_throws [] [] 100 128) ≡ ((Line (pos 2) ∷ Line (pos 1) ∷ Line (pos 5) ∷ []), Exit (pos 0))
unfolding constructor_that_throws
constructor_that_throws-means = refl

-- An exception that leaves a handler leaves the handled exception first.
--     int main() { try { try { throw 1; } catch (int) { throw 2; } } catch (int e) { write_int(e); } return 0; }
thrown_in_a_handler : Checked
thrown_in_a_handler = ck (
    bad_exception ∷ []) [] (
    fn Plain Int [] None [] (statement_then (try (statement_then (try (statement_then (throw 0 (Some (number (pos 1) 0))) no_statements) (handler_then (Some Int) None (statement_then (throw 0 (Some (number (pos 2) 0))) no_statements) 0 no_handlers)) no_statements) (handler_then (Some Int) (Some (nm (Local 1))) (statement_then (evaluate (call (nm (Builtin WriteInt) ∷ []) (expression_then (path (nm (Local 1) ∷ [])) no_expressions))) no_statements) 0 no_handlers)) (statement_then (return 0 (Some (number (pos 0) 0))) no_statements)) ∷ []) 0

thrown_in_a_handler-means : told (program_meaning thrown_in_a_handler [] [] 100 128) ≡ ((Make 1 ∷ Enter 1 ∷ Make 2 ∷ Leave 1 ∷ Destroy 1 ∷ Free 1 ∷ Enter 2 ∷ Line (pos 2) ∷ Leave 2 ∷ Destroy 2 ∷ Free 2 ∷ []), Exit (pos 0))
unfolding thrown_in_a_handler
thrown_in_a_handler-means = refl

-- Without a handler for unexpected exceptions, terminate is called with the function unwound.
--     A struct B { }; void f() throw(int) { A x(1); throw B(); } int main() { try { f(); } catch (...) { write_int(2); } return 0; }
no_unexpected_handler : Checked
no_unexpected_handler = ck (
    bad_exception
    ∷ class_a
    ∷ cl None [] [] ∷ []) [] (
    fn Plain Void [] (Some (listed (Int ∷ []))) [] (statement_then (local_object (nm (Class 1)) (nm (Local 0)) (expression_then (number (pos 1) 0) no_expressions)) (statement_then (throw 0 (Some (call (nm (Class 2) ∷ []) no_expressions))) no_statements))
    ∷ fn Plain Int [] None [] (statement_then (try (statement_then (evaluate (call (nm (Func 0) ∷ []) no_expressions)) no_statements) (handler_then None None (statement_then (evaluate (call (nm (Builtin WriteInt) ∷ []) (expression_then (number (pos 2) 0) no_expressions))) no_statements) 0 no_handlers)) (statement_then (return 0 (Some (number (pos 0) 0))) no_statements)) ∷ []) 1

no_unexpected_handler-means : told (program_meaning no_unexpected_handler [] [] 100 128) ≡ ((Make 1 ∷ Line (pos 1) ∷ Enter 1 ∷ []), Aborted)
unfolding no_unexpected_handler
no_unexpected_handler-means = refl

-- An unexpected handler may throw an exception that the specification allows.
--     A struct B { }; void f() throw(int) { A x(1); throw B(); } void u() { throw 4; } int main() { std::set_unexpected(u); try { f(); } catch (int e) { write_int(e); } return 0; }
unexpected_replaces : Checked
unexpected_replaces = ck (
    bad_exception
    ∷ class_a
    ∷ cl None [] [] ∷ []) [] (
    fn Plain Void [] (Some (listed (Int ∷ []))) [] (statement_then (local_object (nm (Class 1)) (nm (Local 0)) (expression_then (number (pos 1) 0) no_expressions)) (statement_then (throw 0 (Some (call (nm (Class 2) ∷ []) no_expressions))) no_statements))
    ∷ fn Plain Void [] None [] (statement_then (throw 0 (Some (number (pos 4) 0))) no_statements)
    ∷ fn Plain Int [] None [] (statement_then (evaluate (std_call (nm (Builtin SetUnexpected)) (expression_then (path (nm (Func 1) ∷ [])) no_expressions) 0)) (statement_then (try (statement_then (evaluate (call (nm (Func 0) ∷ []) no_expressions)) no_statements) (handler_then (Some Int) (Some (nm (Local 0))) (statement_then (evaluate (call (nm (Builtin WriteInt) ∷ []) (expression_then (path (nm (Local 0) ∷ [])) no_expressions))) no_statements) 0 no_handlers)) (statement_then (return 0 (Some (number (pos 0) 0))) no_statements))) ∷ []) 2

unexpected_replaces-means : told (program_meaning unexpected_replaces [] [] 100 128) ≡ ((Make 1 ∷ Line (pos 1) ∷ Enter 1 ∷ Make 2 ∷ Enter 2 ∷ Leave 2 ∷ Leave 1 ∷ Destroy 1 ∷ Free 1 ∷ Enter 2 ∷ Line (pos 4) ∷ Leave 2 ∷ Destroy 2 ∷ Free 2 ∷ []), Exit (pos 0))
unfolding unexpected_replaces
unexpected_replaces-means = refl

-- Where the specification lists bad_exception, one is thrown in place of an exception that it does not allow.
--     void f() throw(std::bad_exception) { throw 3; } void u() { throw; } int main() { std::set_unexpected(u); try { f(); } catch (std::bad_exception&) { write_int(6); } return 0; }
bad_exception_in_its_place : Checked
bad_exception_in_its_place = ck (
    bad_exception ∷ []) [] (
    fn Plain Void [] (Some (listed ((Object (nm (Class 0))) ∷ []))) [] (statement_then (throw 0 (Some (number (pos 3) 0))) no_statements)
    ∷ fn Plain Void [] None [] (statement_then (throw 0 None) no_statements)
    ∷ fn Plain Int [] None [] (statement_then (evaluate (std_call (nm (Builtin SetUnexpected)) (expression_then (path (nm (Func 1) ∷ [])) no_expressions) 0)) (statement_then (try (statement_then (evaluate (call (nm (Func 0) ∷ []) no_expressions)) no_statements) (handler_then (Some (ObjectRef false (nm (Class 0)))) None (statement_then (evaluate (call (nm (Builtin WriteInt) ∷ []) (expression_then (number (pos 6) 0) no_expressions))) no_statements) 0 no_handlers)) (statement_then (return 0 (Some (number (pos 0) 0))) no_statements))) ∷ []) 2

bad_exception_in_its_place-means : told (program_meaning bad_exception_in_its_place [] [] 100 128) ≡ ((Make 1 ∷ Enter 1 ∷ Enter 1 ∷ Make 2 ∷ Leave 1 ∷ Leave 1 ∷ Destroy 1 ∷ Free 1 ∷ Enter 2 ∷ Line (pos 6) ∷ Leave 2 ∷ Destroy 2 ∷ Free 2 ∷ []), Exit (pos 0))
unfolding bad_exception_in_its_place
bad_exception_in_its_place-means = refl

-- To rethrow with nothing handled calls terminate.
--     int main() { try { throw; } catch (...) { } return 0; }
nothing_to_rethrow : Checked
nothing_to_rethrow = ck (
    bad_exception ∷ []) [] (
    fn Plain Int [] None [] (statement_then (try (statement_then (throw 0 None) no_statements) (handler_then None None no_statements 0 no_handlers)) (statement_then (return 0 (Some (number (pos 0) 0))) no_statements)) ∷ []) 0

nothing_to_rethrow-means : told (program_meaning nothing_to_rethrow [] [] 100 128) ≡ ([], Aborted)
unfolding nothing_to_rethrow
nothing_to_rethrow-means = refl

-- The copy of a thrown object is made behind a barrier.
--     struct X { X() { } X(const X& o) { throw 1; } }; int main() { try { X x; throw x; } catch (...) { } return 0; }
copy_that_throws : Checked
copy_that_throws = ck (
    bad_exception
    ∷ cl None [] ((fn Constructor Void [] None [] no_statements) ∷ (fn Constructor Void (pa (ObjectRef true (nm (Class 1))) (Some (nm (Local 0))) ∷ []) None [] (statement_then (throw 0 (Some (number (pos 1) 0))) no_statements)) ∷ []) ∷ []) [] (
    fn Plain Int [] None [] (statement_then (try (statement_then (local_object (nm (Class 1)) (nm (Local 0)) no_expressions) (statement_then (throw 0 (Some (path (nm (Local 0) ∷ [])))) no_statements)) (handler_then None None no_statements 0 no_handlers)) (statement_then (return 0 (Some (number (pos 0) 0))) no_statements)) ∷ []) 0

copy_that_throws-means : told (program_meaning copy_that_throws [] [] 100 128) ≡ ((Make 1 ∷ Make 2 ∷ Enter 2 ∷ []), Aborted)
unfolding copy_that_throws
copy_that_throws-means = refl

-- A foreign exception is matched by `...` alone, and its module cleans up where it is left for good.
--     A int main() { try { try { __module(0, 0); } catch (A&) { write_int(1); } catch (...) { write_int(2); throw; } } catch (...) { write_int(3); } return 0; }
foreign : Checked
foreign = ck (
    bad_exception
    ∷ class_a ∷ []) [] (
    fn Plain Int [] None [] (statement_then (try (statement_then (try (statement_then (evaluate (call (nm (Builtin Module) ∷ []) (expression_then (number (pos 0) 0) (expression_then (number (pos 0) 0) no_expressions)))) no_statements) (handler_then (Some (ObjectRef false (nm (Class 1)))) None (statement_then (evaluate (call (nm (Builtin WriteInt) ∷ []) (expression_then (number (pos 1) 0) no_expressions))) no_statements) 0 (handler_then None None (statement_then (evaluate (call (nm (Builtin WriteInt) ∷ []) (expression_then (number (pos 2) 0) no_expressions))) (statement_then (throw 0 None) no_statements)) 0 no_handlers))) no_statements) (handler_then None None (statement_then (evaluate (call (nm (Builtin WriteInt) ∷ []) (expression_then (number (pos 3) 0) no_expressions))) no_statements) 0 no_handlers)) (statement_then (return 0 (Some (number (pos 0) 0))) no_statements)) ∷ []) 0

foreign-means : told (program_meaning foreign [] ((Raise 7 ∷ []) ∷ []) 100 128) ≡ ((Foreign 1 0 7 ∷ Enter 1 ∷ Line (pos 2) ∷ Leave 1 ∷ Enter 1 ∷ Line (pos 3) ∷ Leave 1 ∷ Clean 0 7 ∷ []), Exit (pos 0))
unfolding foreign
foreign-means = refl

-- A forced unwind passes every try block over, and destroys objects.
--     A int main() { A a(1); try { A b(2); __cancel(4); } catch (...) { write_int(9); } return 0; }
forced_unwinding : Checked
forced_unwinding = ck (
    bad_exception
    ∷ class_a ∷ []) [] (
    fn Plain Int [] None [] (statement_then (local_object (nm (Class 1)) (nm (Local 0)) (expression_then (number (pos 1) 0) no_expressions)) (statement_then (try (statement_then (local_object (nm (Class 1)) (nm (Local 1)) (expression_then (number (pos 2) 0) no_expressions)) (statement_then (evaluate (call (nm (Builtin Cancel) ∷ []) (expression_then (number (pos 4) 0) no_expressions))) no_statements)) (handler_then None None (statement_then (evaluate (call (nm (Builtin WriteInt) ∷ []) (expression_then (number (pos 9) 0) no_expressions))) no_statements) 0 no_handlers)) (statement_then (return 0 (Some (number (pos 0) 0))) no_statements))) ∷ []) 0

forced_unwinding-means : told_lines (program_meaning forced_unwinding [] [] 100 128) ≡ ((Line (pos 2) ∷ Line (pos 1) ∷ []), Exit (pos 4))
unfolding forced_unwinding
forced_unwinding-means = refl

-- The replies of a module come in order, and then 0.
--     int main() { write_int(__module(0, 9)); write_int(__module(0, 9)); write_int(__module(0, 9)); write_int(__module(0, 9)); write_int(__module(1, 9)); }
module_replies : Checked
module_replies = ck (
    bad_exception ∷ []) [] (
    fn Plain Int [] None [] (statement_then (evaluate (call (nm (Builtin WriteInt) ∷ []) (expression_then (call (nm (Builtin Module) ∷ []) (expression_then (number (pos 0) 0) (expression_then (number (pos 9) 0) no_expressions))) no_expressions))) (statement_then (evaluate (call (nm (Builtin WriteInt) ∷ []) (expression_then (call (nm (Builtin Module) ∷ []) (expression_then (number (pos 0) 0) (expression_then (number (pos 9) 0) no_expressions))) no_expressions))) (statement_then (evaluate (call (nm (Builtin WriteInt) ∷ []) (expression_then (call (nm (Builtin Module) ∷ []) (expression_then (number (pos 0) 0) (expression_then (number (pos 9) 0) no_expressions))) no_expressions))) (statement_then (evaluate (call (nm (Builtin WriteInt) ∷ []) (expression_then (call (nm (Builtin Module) ∷ []) (expression_then (number (pos 0) 0) (expression_then (number (pos 9) 0) no_expressions))) no_expressions))) (statement_then (evaluate (call (nm (Builtin WriteInt) ∷ []) (expression_then (call (nm (Builtin Module) ∷ []) (expression_then (number (pos 1) 0) (expression_then (number (pos 9) 0) no_expressions))) no_expressions))) no_statements))))) ∷ []) 0

module_replies-means : told_lines (program_meaning module_replies [] ((Value (pos 5) ∷ Value (negsuc 1) ∷ Value (negsuc 1) ∷ []) ∷ []) 100 128) ≡ ((Line (pos 5) ∷ Line (negsuc 1) ∷ Line (negsuc 1) ∷ Line (pos 0) ∷ Line (pos 0) ∷ []), Exit (pos 0))
unfolding module_replies
module_replies-means = refl

-- The terminate handler kept with a doomed exception may rethrow it and end the program.
--     void t() { try { throw; } catch (int e) { write_int(e); } exit(5); } int main() { std::set_terminate(t); throw 6; }
terminate_handler : Checked
terminate_handler = ck (
    bad_exception ∷ []) [] (
    fn Plain Void [] None [] (statement_then (try (statement_then (throw 0 None) no_statements) (handler_then (Some Int) (Some (nm (Local 0))) (statement_then (evaluate (call (nm (Builtin WriteInt) ∷ []) (expression_then (path (nm (Local 0) ∷ [])) no_expressions))) no_statements) 0 no_handlers)) (statement_then (evaluate (call (nm (Builtin Exit) ∷ []) (expression_then (number (pos 5) 0) no_expressions))) no_statements))
    ∷ fn Plain Int [] None [] (statement_then (evaluate (std_call (nm (Builtin SetTerminate)) (expression_then (path (nm (Func 0) ∷ [])) no_expressions) 0)) (statement_then (throw 0 (Some (number (pos 6) 0))) no_statements)) ∷ []) 1

terminate_handler-means : told (program_meaning terminate_handler [] [] 100 128) ≡ ((Make 1 ∷ Enter 1 ∷ Enter 1 ∷ Line (pos 6) ∷ Leave 1 ∷ []), Exit (pos 5))
unfolding terminate_handler
terminate_handler-means = refl

-- A by-value parameter is copied while the exception travels, and destroyed before the exception.
--     struct B { int n; B(int k) : n(k) { } B(const B& o) : n(o.n + 1) { } ~B() { write_int(n); } }; struct D : B { D() : B(5) { } }; int main() { try { throw D(); } catch (B b) { write_int(b.n + 100); } return 0; }
sliced_copy : Checked
sliced_copy = ck (
    bad_exception
    ∷ cl None (pa Int (Some (nm (Field 1 0))) ∷ []) ((fn Constructor Void (pa Int (Some (nm (Local 0))) ∷ []) None (ini (nm (Field 1 0)) (expression_then (path (nm (Local 0) ∷ [])) no_expressions) ∷ []) no_statements) ∷ (fn Constructor Void (pa (ObjectRef true (nm (Class 1))) (Some (nm (Local 0))) ∷ []) None (ini (nm (Field 1 0)) (expression_then (binary Add (path (nm (Local 0) ∷ nm (Field 1 0) ∷ [])) (number (pos 1) 0)) no_expressions) ∷ []) no_statements) ∷ (fn Destructor Void [] None [] (statement_then (evaluate (call (nm (Builtin WriteInt) ∷ []) (expression_then (path (nm (Field 1 0) ∷ [])) no_expressions))) no_statements)) ∷ [])
    ∷ cl (Some (nm (Class 1))) [] ((fn Constructor Void [] None (ini (nm (Class 1)) (expression_then (number (pos 5) 0) no_expressions) ∷ []) no_statements) ∷ []) ∷ []) [] (
    fn Plain Int [] None [] (statement_then (try (statement_then (throw 0 (Some (call (nm (Class 2) ∷ []) no_expressions))) no_statements) (handler_then (Some (Object (nm (Class 1)))) (Some (nm (Local 0))) (statement_then (evaluate (call (nm (Builtin WriteInt) ∷ []) (expression_then (binary Add (path (nm (Local 0) ∷ nm (Field 1 0) ∷ [])) (number (pos 100) 0)) no_expressions))) no_statements) 0 no_handlers)) (statement_then (return 0 (Some (number (pos 0) 0))) no_statements)) ∷ []) 0

sliced_copy-means : told (program_meaning sliced_copy [] [] 100 128) ≡ ((Make 1 ∷ Enter 1 ∷ Line (pos 106) ∷ Line (pos 6) ∷ Leave 1 ∷ Destroy 1 ∷ Line (pos 5) ∷ Free 1 ∷ []), Exit (pos 0))
unfolding sliced_copy
sliced_copy-means = refl

-- Division truncates toward zero.
--     int main() { write_int(-7 / 2); write_int(-7 % 2); }
division : Checked
division = ck (
    bad_exception ∷ []) [] (
    fn Plain Int [] None [] (statement_then (evaluate (call (nm (Builtin WriteInt) ∷ []) (expression_then (binary Divide (unary Minus (number (pos 7) 0) 0) (number (pos 2) 0)) no_expressions))) (statement_then (evaluate (call (nm (Builtin WriteInt) ∷ []) (expression_then (binary Remainder (unary Minus (number (pos 7) 0) 0) (number (pos 2) 0)) no_expressions))) no_statements)) ∷ []) 0

division-means : told_lines (program_meaning division [] [] 100 128) ≡ ((Line (negsuc 2) ∷ Line (negsuc 0) ∷ []), Exit (pos 0))
unfolding division
division-means = refl

-- Input bytes are numbers from 0 to 255, and -1 comes at the end.
--     int main() { write_int(read_byte()); write_int(read_byte()); write_int(read_byte()); }
input : Checked
input = ck (
    bad_exception ∷ []) [] (
    fn Plain Int [] None [] (statement_then (evaluate (call (nm (Builtin WriteInt) ∷ []) (expression_then (call (nm (Builtin ReadByte) ∷ []) no_expressions) no_expressions))) (statement_then (evaluate (call (nm (Builtin WriteInt) ∷ []) (expression_then (call (nm (Builtin ReadByte) ∷ []) no_expressions) no_expressions))) (statement_then (evaluate (call (nm (Builtin WriteInt) ∷ []) (expression_then (call (nm (Builtin ReadByte) ∷ []) no_expressions) no_expressions))) no_statements))) ∷ []) 0

input-means : told_lines (program_meaning input (65 ∷ 255 ∷ []) [] 100 128) ≡ ((Line (pos 65) ∷ Line (pos 255) ∷ Line (negsuc 0) ∷ []), Exit (pos 0))
unfolding input
input-means = refl
