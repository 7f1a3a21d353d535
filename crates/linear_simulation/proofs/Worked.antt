-- Worked programs: sources whose watched meanings are their meanings; and well-formed regions, written by hand, whose linear code comes to a
-- fault, since an exception changes its type while it travels.
use Rattle.std.specs.Prelude.{◌≡◌, refl, pos, ℕ, true, false, List, [], ◌∷◌, Some, None}
use Rattle.cxx_ast.specs.declared.name.Bound.{Bound}
use Rattle.cxx_ast.specs.declared.name.Bound.TheVariants.{Local, Field, Class, Func, Builtin}
use Rattle.cxx_ast.specs.declared.name.Builtin.TheVariants.{WriteInt, SetUnexpected}
use Rattle.cxx_ast.specs.declared.types.Ty.TheVariants.{Int, Void, Object, ObjectRef}
use Rattle.cxx_ast.specs.declared.declaration.FuncKind.TheVariants.{Plain, Constructor, Destructor}
use Rattle.cxx_ast.specs.Plain.{Class as ClassTree, Checked, Expression, number, path, call, std_call, Expressions, no_expressions, expression_then, Statement, return, throw, try, assign, evaluate, local_object, Statements, no_statements, statement_then, no_handlers, handler_then, listed}
use Rattle.eh_bytes.specs.Spelling.{uleb_spelling, uleb_spelling_within}
use Rattle.meaning_forms.specs.Outcome.{undefined}
use Rattle.meaning_forms.specs.Meaning.{stopped_by}
use Rattle.meaning_forms.specs.declared.ending.MeanEnd.TheVariants.{Undefined}
use Rattle.meaning_forms.proofs.Trees.{nm, pa, fn, cl, ck}
use Rattle.region_forms.specs.Form.{help_slot, Slot, through, make, throw as throw_op, destroy_scope, op, protect, catch, no_clauses, clause_then, in_order, TypeRow, Regions}
use Rattle.region_forms.specs.Layout.{layout_of}
use Rattle.region_forms.specs.LowerProgram.{regions_of}
use Rattle.region_forms.specs.Meaning.{regions_meaning}
use Rattle.region_forms.specs.WellFormed.{is_well_formed}
use Rattle.linear_forms.specs.Unit.{unit_of}
use Rattle.linear_forms.specs.UnitRun.{unit_run, seen_run, seen_of}
use Rattle.linear_simulation.specs.Watched.{watched_meaning}
use Rattle.linear_simulation.specs.FunctionsRun.{catches_have_clauses}

abbrev rows : List Statement → Statements
rows [] = no_statements
rows (s ∷ ss) = statement_then s (rows ss)

abbrev arguments : List Expression → Expressions
arguments [] = no_expressions
arguments (e ∷ es) = expression_then e (arguments es)

abbrev int : ℕ → Expression
int n = number (pos n) 0

abbrev var : Bound → Expression
var b = path (nm b ∷ [])

abbrev called : Bound → List Expression → Statement
called b es = evaluate (call (nm b ∷ []) (arguments es))

abbrev object : ℕ → Expression → Statement
object n e = local_object (nm (Class 1)) (nm (Local n)) (arguments (e ∷ []))

-- struct A { int n; A(int k) { n = k; } ~A() { write_int(n); } };
abbrev classes : List ClassTree
classes = cl None [] [] ∷ cl None (pa Int (Some (nm (Field 1 0))) ∷ []) (
    fn Constructor Void (pa Int (Some (nm (Local 0))) ∷ []) None [] (rows (assign (nm (Field 1 0) ∷ []) (var (Local 0)) ∷ [])) ∷
    fn Destructor Void [] None [] (rows (called (Builtin WriteInt) (var (Field 1 0) ∷ []) ∷ [])) ∷ []) ∷ []

-- A throw is caught outside the function, whose object is destroyed on the way, and thrown again.
--     void f() { A a(1); throw 7; }
--     int main() { try { try { f(); } catch (int e) { A b(2); throw; } } catch (...) { write_int(4); } return 0; }
thrown_again : Checked
thrown_again = ck classes [] (
    fn Plain Void [] None [] (rows (object 0 (int 1) ∷ throw 0 (Some (int 7)) ∷ [])) ∷
    fn Plain Int [] None [] (rows (
    try (rows (
    try (rows (called (Func 0) [] ∷ []))
    (handler_then (Some Int) (Some (nm (Local 0))) (rows (object 1 (int 2) ∷ throw 0 None ∷ [])) 0 no_handlers) ∷ []))
    (handler_then None None (rows (called (Builtin WriteInt) (int 4 ∷ []) ∷ [])) 0 no_handlers) ∷
    return 0 (Some (int 0)) ∷ [])) ∷ []) 1

abbrev again : Regions
unfolding thrown_again
again = regions_of thrown_again (layout_of thrown_again)

thrown_again-watched :
    (watched_meaning again [] [] 100 128 ≡ regions_meaning again [] [] 100 128) × (is_well_formed again ≡ true) × (catches_have_clauses again ≡ true)
unfolding thrown_again
thrown_again-watched = (refl, refl, refl)

-- A specification does not allow an exception, and neither what the unexpected handler throws, but it lists `std::bad_exception`.
--     void f() throw(std::bad_exception) { A a(1); throw 3; }
--     void u() { throw; }
--     int main() { std::set_unexpected(u); try { f(); } catch (std::bad_exception&) { write_int(6); } return 0; }
bad_exception_thrown : Checked
bad_exception_thrown = ck classes [] (
    fn Plain Void [] (Some (listed (Object (nm (Class 0)) ∷ []))) [] (rows (object 0 (int 1) ∷ throw 0 (Some (int 3)) ∷ [])) ∷
    fn Plain Void [] None [] (rows (throw 0 None ∷ [])) ∷
    fn Plain Int [] None [] (rows (
    evaluate (std_call (nm (Builtin SetUnexpected)) (arguments (var (Func 1) ∷ [])) 0) ∷
    try (rows (called (Func 0) [] ∷ []))
    (handler_then (Some (ObjectRef false (nm (Class 0)))) None (rows (called (Builtin WriteInt) (int 6 ∷ []) ∷ [])) 0 no_handlers) ∷
    return 0 (Some (int 0)) ∷ [])) ∷ []) 2

abbrev bad : Regions
unfolding bad_exception_thrown
bad = regions_of bad_exception_thrown (layout_of bad_exception_thrown)

bad_exception_thrown-watched :
    (watched_meaning bad [] [] 100 128 ≡ regions_meaning bad [] [] 100 128) × (is_well_formed bad ≡ true) × (catches_have_clauses bad ≡ true)
unfolding bad_exception_thrown
bad_exception_thrown-watched = (refl, refl, refl)

-- Function 1 throws an exception of type 0 that type 0 is to catch. On the way the cleanup calls function 0 with the exception's own object,
-- and there that is to be thrown once more, as type 1. Only an exception that is being built can be, so nothing more is defined. No program is lowered
-- so: what takes an object takes it in a slot for addresses.
abbrev help : Slot
help = record { kind = help_slot; size = 8 }

abbrev row : ℕ → TypeRow
row kind = record { kind = kind; name = []; base = None }

changes_a_type : Regions
changes_a_type = record {
  functions =
      record { name = []; parameters = 1; slots = help ∷ help ∷ []; result = None; body = catch (op (throw_op 0 1 None)) (clause_then None 1 (in_order []) no_clauses) } ∷
      record {
        name = [];
        parameters = 0;
        slots = help ∷ help ∷ [];
        result = None;
        body = catch (in_order (op (make 0) ∷ protect (op (throw_op 0 0 None)) (destroy_scope (record { root = through 0; offset = 0 }) 0) ∷ []))
            (clause_then (Some 0) 1 (in_order []) no_clauses);
      } ∷ [];
  types = row 1 ∷ row 2 ∷ [];
  globals = [];
  tokens = 0;
  main = 1;
}

changes_a_type-undefined :
    (is_well_formed changes_a_type ≡ false) × ((regions_meaning changes_a_type [] [] 100 128).end ≡ Undefined) ×
    (seen_run (unit_run (unit_of changes_a_type) [] [] 1000) ≡ seen_of (regions_meaning changes_a_type [] [] 100 128)) ×
    ((watched_meaning changes_a_type [] [] 100 128).main ≡ stopped_by undefined)
unfolding changes_a_type uleb_spelling uleb_spelling_within
changes_a_type-undefined = (refl, refl, refl, refl)
