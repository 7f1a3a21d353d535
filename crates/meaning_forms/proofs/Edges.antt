-- Worked programs at the edges of rules, and what they mean, by computation: each shows a rule that no other program needs. `A` stands for the
-- class whose destructor writes its number.
use Rattle.std.specs.Prelude.{◌≡◌, refl, pos, List, [], ◌∷◌, Some, None, false}
use Rattle.cxx_ast.specs.declared.name.Bound.{Bound}
use Rattle.cxx_ast.specs.declared.name.Bound.TheVariants.{Local, Class, Func, Builtin}
use Rattle.cxx_ast.specs.declared.name.Builtin.TheVariants.{WriteInt, Module, Cancel, Terminate, SetTerminate}
use Rattle.cxx_ast.specs.declared.types.Ty.TheVariants.{Int, Void, ObjectRef}
use Rattle.cxx_ast.specs.declared.declaration.FuncKind.TheVariants.{Plain, Destructor}
use Rattle.cxx_ast.specs.Plain.{Checked, listed, Expression, number, path, call, std_call, no_expressions, expression_then, Statement, return, throw, try, evaluate, local_object, Statements, no_statements, statement_then, Handlers, no_handlers, handler_then}
use Rattle.eh_outer.specs.declared.module.Reply.TheVariants.{Raise}
use Rattle.run_items.specs.declared.item.Item.TheVariants.{Line, Make, Foreign, Enter, Leave, Destroy, Free}
use Rattle.meaning_forms.specs.declared.ending.MeanEnd.TheVariants.{Exit, Aborted}
use Rattle.meaning_forms.specs.Meaning.{program_meaning}
use Rattle.meaning_forms.proofs.Trees.{nm, fn, cl, ck}
use Rattle.meaning_forms.proofs.Worked.{told, bad_exception, class_a}

abbrev statements : List Statement → Statements
statements [] = no_statements
statements (s ∷ ss) = statement_then s (statements ss)

-- f(e);
abbrev calls_with : Bound → Expression → Statement
calls_with f e = evaluate (call (nm f ∷ []) (expression_then e no_expressions))

-- f();
abbrev calls : Bound → Statement
calls f = evaluate (call (nm f ∷ []) no_expressions)

-- __module(0, 0);
abbrev asks_module : Statement
asks_module = evaluate (call (nm (Builtin Module) ∷ []) (expression_then (number (pos 0) 0) (expression_then (number (pos 0) 0) no_expressions)))

-- catch (...) { .. }
abbrev catch_all : List Statement → Handlers
catch_all body = handler_then None None (statements body) 0 no_handlers

-- catch (int e) { write_int(e); }, where e is the variable of that number
abbrev catch_int : Bound → Handlers
catch_int e = handler_then (Some Int) (Some (nm e)) (statements (calls_with (Builtin WriteInt) (path (nm e ∷ [])) ∷ [])) 0 no_handlers

-- A x(1);
abbrev object_1 : Statement
object_1 = local_object (nm (Class 1)) (nm (Local 0)) (expression_then (number (pos 1) 0) no_expressions)

abbrev return_0 : Statement
return_0 = return 0 (Some (number (pos 0) 0))

-- A specification does not stop what it allows: with no handler farther out, terminate comes before any cleanup (15.4/8, 15.5.1).
--     void f() throw(int) { A x(1); throw 7; } int main() { f(); return 0; }
allowed_and_uncaught : Checked
allowed_and_uncaught = ck (bad_exception ∷ class_a ∷ []) [] (
    fn Plain Void [] (Some (listed (Int ∷ []))) [] (statements (object_1 ∷ throw 0 (Some (number (pos 7) 0)) ∷ []))
    ∷ fn Plain Int [] None [] (statements (calls (Func 0) ∷ return_0 ∷ [])) ∷ []) 1

allowed_and_uncaught-means : told (program_meaning allowed_and_uncaught [] [] 100 128) ≡ ((Make 1 ∷ Enter 1 ∷ []), Aborted)
unfolding allowed_and_uncaught
allowed_and_uncaught-means = refl

-- A foreign exception does not pass a specification, and it is not unexpected: terminate comes before any cleanup.
--     void f() throw(int) { A x(1); __module(0, 0); } int main() { try { f(); } catch (...) { write_int(2); } return 0; }
foreign_at_a_specification : Checked
foreign_at_a_specification = ck (bad_exception ∷ class_a ∷ []) [] (
    fn Plain Void [] (Some (listed (Int ∷ []))) [] (statements (object_1 ∷ asks_module ∷ []))
    ∷ fn Plain Int [] None [] (statements (try (statements (calls (Func 0) ∷ [])) (catch_all (calls_with (Builtin WriteInt) (number (pos 2) 0) ∷ [])) ∷ return_0 ∷ [])) ∷ []) 1

foreign_at_a_specification-means : told (program_meaning foreign_at_a_specification [] ((Raise 9 ∷ []) ∷ []) 100 128) ≡ ((Foreign 1 0 9 ∷ []), Aborted)
unfolding foreign_at_a_specification
foreign_at_a_specification-means = refl

-- What travels is not thrown again: a destructor that runs for it calls terminate by `throw;`, though a handler would stop it there (15.1/8).
--     struct T { ~T() { try { throw; } catch (...) { } } }; int main() { try { try { throw 1; } catch (...) { T t; throw; } } catch (int e) { write_int(e); } return 0; }
thrown_again_while_it_travels : Checked
thrown_again_while_it_travels = ck (bad_exception ∷ cl None [] (fn Destructor Void [] None [] (statements (try (statements (throw 0 None ∷ [])) (catch_all []) ∷ [])) ∷ []) ∷ []) [] (
    fn Plain Int [] None [] (statements (
    try (statements (try (statements (throw 0 (Some (number (pos 1) 0)) ∷ [])) (catch_all (local_object (nm (Class 1)) (nm (Local 0)) no_expressions ∷ throw 0 None ∷ [])) ∷ [])) (catch_int (Local 1))
    ∷ return_0 ∷ [])) ∷ []) 0

thrown_again_while_it_travels-means : told (program_meaning thrown_again_while_it_travels [] [] 100 128) ≡ ((Make 1 ∷ Enter 1 ∷ []), Aborted)
unfolding thrown_again_while_it_travels
thrown_again_while_it_travels-means = refl

-- While the terminate handler runs it is not called again (18.6.3: it may not return, and the program ends).
--     void h() { write_int(1); std::terminate(); } int main() { std::set_terminate(h); std::terminate(); return 0; }
terminate_in_its_handler : Checked
terminate_in_its_handler = ck (bad_exception ∷ []) [] (
    fn Plain Void [] None [] (statements (calls_with (Builtin WriteInt) (number (pos 1) 0) ∷ evaluate (std_call (nm (Builtin Terminate)) no_expressions 0) ∷ []))
    ∷ fn Plain Int [] None [] (statements (
    evaluate (std_call (nm (Builtin SetTerminate)) (expression_then (path (nm (Func 0) ∷ [])) no_expressions) 0)
    ∷ evaluate (std_call (nm (Builtin Terminate)) no_expressions 0) ∷ return_0 ∷ [])) ∷ []) 1

terminate_in_its_handler-means : told (program_meaning terminate_in_its_handler [] [] 100 128) ≡ ((Line (pos 1) ∷ []), Aborted)
unfolding terminate_in_its_handler
terminate_in_its_handler-means = refl

-- An exception whose destructor throws, where its last handler is left, is given back all the same (15.1/4).
--     struct T { ~T() { throw 5; } }; int main() { try { try { throw T(); } catch (T&) { } } catch (int e) { write_int(e); } return 0; }
destructor_of_an_exception_throws : Checked
destructor_of_an_exception_throws = ck (bad_exception ∷ cl None [] (fn Destructor Void [] None [] (statements (throw 0 (Some (number (pos 5) 0)) ∷ [])) ∷ []) ∷ []) [] (
    fn Plain Int [] None [] (statements (
    try (statements (
    try (statements (throw 0 (Some (call (nm (Class 1) ∷ []) no_expressions)) ∷ [])) (handler_then (Some (ObjectRef false (nm (Class 1)))) None no_statements 0 no_handlers) ∷ []))
    (catch_int (Local 1)) ∷ return_0 ∷ [])) ∷ []) 0

destructor_of_an_exception_throws-means : told (program_meaning destructor_of_an_exception_throws [] [] 100 128) ≡ ((Make 1 ∷ Enter 1 ∷ Leave 1 ∷ Destroy 1 ∷ Make 2 ∷ Free 1 ∷ Enter 2 ∷ Line (pos 5) ∷ Leave 2 ∷ Destroy 2 ∷ Free 2 ∷ []), Exit (pos 0))
unfolding destructor_of_an_exception_throws
destructor_of_an_exception_throws-means = refl

-- A foreign exception is not entered while another is handled (Itanium C++ ABI: Exception Handling, 2.5.3, __cxa_begin_catch).
--     int main() { try { throw 1; } catch (...) { try { __module(0, 0); } catch (...) { write_int(3); } } return 0; }
foreign_beside_another : Checked
foreign_beside_another = ck (bad_exception ∷ []) [] (
    fn Plain Int [] None [] (statements (
    try (statements (throw 0 (Some (number (pos 1) 0)) ∷ []))
    (catch_all (try (statements (asks_module ∷ [])) (catch_all (calls_with (Builtin WriteInt) (number (pos 3) 0) ∷ [])) ∷ [])) ∷ return_0 ∷ [])) ∷ []) 0

foreign_beside_another-means : told (program_meaning foreign_beside_another [] ((Raise 9 ∷ []) ∷ []) 100 128) ≡ ((Make 1 ∷ Enter 1 ∷ Foreign 2 0 9 ∷ []), Aborted)
unfolding foreign_beside_another
foreign_beside_another-means = refl

-- A forced unwind out of the operand of a `throw` gives the object back that was being built.
--     int f() { __cancel(3); return 0; } int main() { throw f(); }
cancelled_while_it_is_built : Checked
cancelled_while_it_is_built = ck (bad_exception ∷ []) [] (
    fn Plain Int [] None [] (statements (calls_with (Builtin Cancel) (number (pos 3) 0) ∷ return_0 ∷ []))
    ∷ fn Plain Int [] None [] (statements (throw 0 (Some (call (nm (Func 0) ∷ []) no_expressions)) ∷ [])) ∷ []) 1

cancelled_while_it_is_built-means : told (program_meaning cancelled_while_it_is_built [] [] 100 128) ≡ ((Make 1 ∷ Free 1 ∷ []), Exit (pos 3))
unfolding cancelled_while_it_is_built
cancelled_while_it_is_built-means = refl

-- A forced unwind does not leave the terminate handler.
--     void h() { __cancel(3); } int main() { std::set_terminate(h); std::terminate(); return 0; }
cancelled_in_the_terminate_handler : Checked
cancelled_in_the_terminate_handler = ck (bad_exception ∷ []) [] (
    fn Plain Void [] None [] (statements (calls_with (Builtin Cancel) (number (pos 3) 0) ∷ []))
    ∷ fn Plain Int [] None [] (statements (
    evaluate (std_call (nm (Builtin SetTerminate)) (expression_then (path (nm (Func 0) ∷ [])) no_expressions) 0)
    ∷ evaluate (std_call (nm (Builtin Terminate)) no_expressions 0) ∷ return_0 ∷ [])) ∷ []) 1

cancelled_in_the_terminate_handler-means : told (program_meaning cancelled_in_the_terminate_handler [] [] 100 128) ≡ ([], Aborted)
unfolding cancelled_in_the_terminate_handler
cancelled_in_the_terminate_handler-means = refl
