-- Worked programs: what their linear code shows is what their regions mean, and both are what was worked out by hand.
use Rattle.std.specs.Prelude.{◌≡◌, refl, pos, ℕ, false, List, [], ◌∷◌, Some, None}
use Rattle.cxx_ast.specs.declared.name.Bound.{Bound}
use Rattle.cxx_ast.specs.declared.name.Bound.TheVariants.{Local, Field, Class, Func, Builtin}
use Rattle.cxx_ast.specs.declared.name.Builtin.TheVariants.{WriteInt, Cancel, SetUnexpected}
use Rattle.cxx_ast.specs.declared.types.Ty.TheVariants.{Int, Void, Object, ObjectRef}
use Rattle.cxx_ast.specs.declared.declaration.FuncKind.TheVariants.{Plain, Constructor, Destructor}
use Rattle.cxx_ast.specs.declared.expression.BinaryOp.TheVariants.{Add, Less, Equal}
use Rattle.cxx_ast.specs.Plain.{Class as ClassTree, Checked, Expression, number, path, binary, call, std_call, Expressions, no_expressions, expression_then, Statement, if_else, block, while, return, break, throw, try, assign, evaluate, local_int, local_object, no_else, Statements, no_statements, statement_then, no_handlers, handler_then, listed}
use Rattle.eh_bytes.specs.Spelling.{uleb_spelling, uleb_spelling_within}
use Rattle.run_items.specs.declared.item.Item.TheVariants.{Line, Make, Enter, Leave, Destroy, Free}
use Rattle.meaning_forms.specs.declared.ending.MeanEnd.TheVariants.{Exit, Aborted}
use Rattle.meaning_forms.proofs.Trees.{nm, pa, fn, cl, ck}
use Rattle.region_forms.specs.Layout.{layout_of}
use Rattle.region_forms.specs.LowerProgram.{regions_of}
use Rattle.region_forms.specs.Meaning.{regions_meaning}
use Rattle.linear_forms.specs.Pace.{paying, counted}
use Rattle.linear_forms.specs.Unit.{unit_of}
use Rattle.linear_forms.specs.UnitRun.{code_of, first_state, unit_run, Seen, seen, seen_of, seen_run}

abbrev rows : List Statement → Statements
rows [] = no_statements
rows (s ∷ ss) = statement_then s (rows ss)

abbrev arguments : List Expression → Expressions
arguments [] = no_expressions
arguments (e ∷ es) = expression_then e (arguments es)

abbrev int : ℕ → Expression
int n = number (pos n) 0

abbrev var : Bound → Expression
var b = path (nm b ∷ [])

abbrev called : Bound → List Expression → Statement
called b es = evaluate (call (nm b ∷ []) (arguments es))

abbrev say : Expression → Statement
say e = called (Builtin WriteInt) (e ∷ [])

abbrev object : ℕ → Expression → Statement
object n e = local_object (nm (Class 1)) (nm (Local n)) (arguments (e ∷ []))

abbrev throws : ℕ → Statement
throws n = throw 0 (Some (int n))

abbrev gives : ℕ → Statement
gives n = return 0 (Some (int n))

-- struct A { int n; A(int k) { n = k; } ~A() { write_int(n); } };
abbrev classes : List ClassTree
classes = cl None [] [] ∷ cl None (pa Int (Some (nm (Field 1 0))) ∷ []) (
    fn Constructor Void (pa Int (Some (nm (Local 0))) ∷ []) None [] (rows (assign (nm (Field 1 0) ∷ []) (var (Local 0)) ∷ [])) ∷
    fn Destructor Void [] None [] (rows (say (var (Field 1 0)) ∷ [])) ∷ []) ∷ []

-- the regions of a program mean this, and its linear code shows it
abbrev Shows : Checked → Seen → Type 0
Shows p s =
    (seen_of (regions_meaning (regions_of p (layout_of p)) [] [] 100 128) ≡ s) ×
    (seen_run (unit_run (unit_of (regions_of p (layout_of p))) [] [] 1000) ≡ s)

-- A throw is caught outside the function, whose object is destroyed on the way.
--     void f() { A a(1); throw 7; }
--     int main() { try { f(); } catch (int e) { write_int(e); } return 0; }
unfoldable pub caught_outside : Checked
caught_outside = ck classes [] (
    fn Plain Void [] None [] (rows (object 0 (int 1) ∷ throws 7 ∷ [])) ∷
    fn Plain Int [] None [] (rows (
    try (rows (called (Func 0) [] ∷ []))
    (handler_then (Some Int) (Some (nm (Local 0))) (rows (say (var (Local 0)) ∷ [])) 0 no_handlers) ∷
    gives 0 ∷ [])) ∷ []) 1

caught_outside-shows : Shows caught_outside
    (seen (Make 1 ∷ Line (pos 1) ∷ Enter 1 ∷ Line (pos 7) ∷ Leave 1 ∷ Destroy 1 ∷ Free 1 ∷ []) (Exit (pos 0)) 3 [])
unfolding caught_outside uleb_spelling uleb_spelling_within
caught_outside-shows = (refl, refl)

-- A return goes through two cleanups.
--     int main() { A a(1); A b(2); return 5; }
two_cleanups : Checked
two_cleanups = ck classes [] (
    fn Plain Int [] None [] (rows (object 0 (int 1) ∷ object 1 (int 2) ∷ gives 5 ∷ [])) ∷ []) 0

two_cleanups-shows : Shows two_cleanups (seen (Line (pos 2) ∷ Line (pos 1) ∷ []) (Exit (pos 5)) 2 [])
unfolding two_cleanups uleb_spelling uleb_spelling_within
two_cleanups-shows = (refl, refl)

-- A loop is left through a cleanup.
--     int main() { int i = 0; while (i < 9) { A a(i); i = i + 1; if (i == 2) break; write_int(7); } return i; }
leaves_a_loop : Checked
leaves_a_loop = ck classes [] (
    fn Plain Int [] None [] (rows (
    local_int (nm (Local 0)) (Some (int 0)) ∷
    while (binary Less (var (Local 0)) (int 9)) (block (rows (
    object 1 (var (Local 0)) ∷
    assign (nm (Local 0) ∷ []) (binary Add (var (Local 0)) (int 1)) ∷
    if_else (binary Equal (var (Local 0)) (int 2)) (break 0) no_else ∷
    say (int 7) ∷ []))) ∷
    return 0 (Some (var (Local 0))) ∷ [])) ∷ []) 0

leaves_a_loop-shows : Shows leaves_a_loop (seen (Line (pos 7) ∷ Line (pos 0) ∷ Line (pos 1) ∷ []) (Exit (pos 2)) 2 [])
unfolding leaves_a_loop uleb_spelling uleb_spelling_within
leaves_a_loop-shows = (refl, refl)

-- Ten of its steps may pay for a turn: two constructors, two destructors, two tests of the loop, two of the `if`, and two behind the destructor, of where the exit goes on.
-- Five are calls, or turn back.
abbrev Paces : Checked → ℕ → ℕ → Type 0
Paces p pays counts =
    let u = unit_of (regions_of p (layout_of p)) in (paying (code_of u) 1000 (first_state u [] []) ≡ pays) × (counted (code_of u) 1000 (first_state u [] []) ≡ counts)

leaves_a_loop-paces : Paces leaves_a_loop 10 5
unfolding leaves_a_loop uleb_spelling uleb_spelling_within
leaves_a_loop-paces = (refl, refl)

-- An exception is thrown again: its handler is left on the way, and it is given back where the outer one is left.
--     int main() { try { try { throw 3; } catch (int e) { A a(1); throw; } } catch (...) { write_int(4); } return 0; }
thrown_again : Checked
thrown_again = ck classes [] (
    fn Plain Int [] None [] (rows (
    try (rows (
    try (rows (throws 3 ∷ []))
    (handler_then (Some Int) (Some (nm (Local 0))) (rows (object 1 (int 1) ∷ throw 0 None ∷ [])) 0 no_handlers) ∷ []))
    (handler_then None None (rows (say (int 4) ∷ [])) 0 no_handlers) ∷
    gives 0 ∷ [])) ∷ []) 0

thrown_again-shows : Shows thrown_again
    (seen (Make 1 ∷ Enter 1 ∷ Line (pos 1) ∷ Leave 1 ∷ Enter 1 ∷ Line (pos 4) ∷ Leave 1 ∷ Destroy 1 ∷ Free 1 ∷ []) (Exit (pos 0)) 2 [])
unfolding thrown_again uleb_spelling uleb_spelling_within
thrown_again-shows = (refl, refl)

-- A specification does not allow an exception, and neither what the unexpected handler throws, but it lists `std::bad_exception`.
--     void f() throw(std::bad_exception) { A a(1); throw 3; }
--     void u() { throw; }
--     int main() { std::set_unexpected(u); try { f(); } catch (std::bad_exception&) { write_int(6); } return 0; }
bad_exception_thrown : Checked
bad_exception_thrown = ck classes [] (
    fn Plain Void [] (Some (listed (Object (nm (Class 0)) ∷ []))) [] (rows (object 0 (int 1) ∷ throws 3 ∷ [])) ∷
    fn Plain Void [] None [] (rows (throw 0 None ∷ [])) ∷
    fn Plain Int [] None [] (rows (
    evaluate (std_call (nm (Builtin SetUnexpected)) (arguments (var (Func 1) ∷ [])) 0) ∷
    try (rows (called (Func 0) [] ∷ []))
    (handler_then (Some (ObjectRef false (nm (Class 0)))) None (rows (say (int 6) ∷ [])) 0 no_handlers) ∷
    gives 0 ∷ [])) ∷ []) 2

bad_exception_thrown-shows : Shows bad_exception_thrown
    (seen (Make 1 ∷ Line (pos 1) ∷ Enter 1 ∷ Enter 1 ∷ Make 2 ∷ Leave 1 ∷ Leave 1 ∷ Destroy 1 ∷ Free 1 ∷
    Enter 2 ∷ Line (pos 6) ∷ Leave 2 ∷ Destroy 2 ∷ Free 2 ∷ []) (Exit (pos 0)) 3 [])
unfolding bad_exception_thrown uleb_spelling uleb_spelling_within
bad_exception_thrown-shows = (refl, refl)

-- A forced unwind goes through a cleanup in each of two functions, and passes a handler.
--     void f() { A a(1); __cancel(9); }
--     int main() { A b(2); try { f(); } catch (...) { write_int(3); } return 0; }
cancelled_through : Checked
cancelled_through = ck classes [] (
    fn Plain Void [] None [] (rows (object 0 (int 1) ∷ called (Builtin Cancel) (int 9 ∷ []) ∷ [])) ∷
    fn Plain Int [] None [] (rows (
    object 0 (int 2) ∷
    try (rows (called (Func 0) [] ∷ [])) (handler_then None None (rows (say (int 3) ∷ [])) 0 no_handlers) ∷
    gives 0 ∷ [])) ∷ []) 1

cancelled_through-shows : Shows cancelled_through (seen (Line (pos 1) ∷ Line (pos 2) ∷ []) (Exit (pos 9)) 3 [])
unfolding cancelled_through uleb_spelling uleb_spelling_within
cancelled_through-shows = (refl, refl)

-- An exception that nothing stops is entered, and the program ends before any cleanup.
--     int main() { A a(1); throw 2; }
stopped_by_nothing : Checked
stopped_by_nothing = ck classes [] (
    fn Plain Int [] None [] (rows (object 0 (int 1) ∷ throws 2 ∷ [])) ∷ []) 0

stopped_by_nothing-shows : Shows stopped_by_nothing (seen (Make 1 ∷ Enter 1 ∷ []) Aborted 2 [])
unfolding stopped_by_nothing uleb_spelling uleb_spelling_within
stopped_by_nothing-shows = (refl, refl)
