-- Programs with `noexcept`, with the specifications that count, and what they mean, by computation; and that it is as a try block.
use Rattle.std.specs.Prelude.{◌≡◌, refl, ℕ, ℤ, pos, Bool, true, false, List, [], ◌∷◌, Option, Some, None, if◌then◌else◌}
use Rattle.std.proofs.Common.{sym, ap, ◌∙◌}
use Rattle.cxx_ast.specs.declared.name.Bound.TheVariants.{Local, Field, Class, Func, Builtin}
use Rattle.cxx_ast.specs.declared.name.Builtin.TheVariants.{WriteInt, Module}
use Rattle.cxx_ast.specs.declared.types.Ty.TheVariants.{Int, Void}
use Rattle.cxx_ast.specs.declared.declaration.FuncKind.TheVariants.{Plain, Constructor, Destructor}
use Rattle.cxx_ast.specs.declared.expression.BinaryOp.TheVariants.{Add, Equal}
use Rattle.cxx_ast.specs.Plain.{Class as ClassTree, Expression, Statement, Statements, noexcept, Specification, Function, Checked, number, path, binary, call, no_expressions, expression_then, if_else, return, throw, try, assign, evaluate, local_object, no_else, no_statements, statement_then, no_handlers, handler_then}
use Rattle.eh_outer.specs.declared.module.Reply.TheVariants.{Raise}
use Rattle.run_items.specs.declared.item.Item.{Item}
use Rattle.run_items.specs.declared.item.Item.TheVariants.{Line, Make, Foreign, Enter}
use Rattle.meaning_forms.specs.declared.ending.MeanEnd.{MeanEnd}
use Rattle.meaning_forms.specs.declared.ending.MeanEnd.TheVariants.{Exit, Aborted}
use Rattle.meaning_forms.specs.Meaning.{Meaning, program_meaning}
use Rattle.meaning_forms.specs.World.{World, nowhere}
use Rattle.meaning_forms.specs.Context.{Context, handling}
use Rattle.meaning_forms.specs.Outcome.{Action, Result, done, stopped, Stop, thrown, cancelled, ended, undefined, out_of_turns, deep, aborted, stop, Flow, pure, normal, continued}
use Rattle.meaning_forms.specs.Running.{Running}
use Rattle.meaning_forms.specs.Terminate.{after_terminate_handler, run_terminate_handler, terminate}
use Rattle.meaning_forms.specs.Scope.{after_scope, unwound}
use Rattle.meaning_forms.specs.Handler.{enter, let_go, goes_on, while_handled, destroy_parameter}
use Rattle.meaning_forms.specs.Statement.{after_try, caught}
use Rattle.meaning_forms.specs.Specification.{end_noexcept}
use Rattle.meaning_forms.specs.Laws.{terminating, NoexceptIsATry}
use Rattle.meaning_forms.proofs.Trees.{nm, pa, fn, cl, ck, lines_of}

abbrev told : Meaning → List Item × MeanEnd
told m = (m.items, m.end)

abbrev told_lines : Meaning → List Item × MeanEnd
told_lines m = (lines_of m.items, m.end)

abbrev ends : Option Specification
ends = Some (noexcept 0 true)

abbrev int : ℕ → Expression
int n = number (pos n) 0

abbrev say : Expression → Statement
say e = evaluate (call (nm (Builtin WriteInt) ∷ []) (expression_then e no_expressions))

abbrev rows : List Statement → Statements
rows [] = no_statements
rows (s ∷ ss) = statement_then s (rows ss)

abbrev bad_exception : ClassTree
bad_exception = cl None [] []

-- a constructor that sets the one member of class k to its parameter
abbrev setting : ℕ → Function
setting k = fn Constructor Void (pa Int (Some (nm (Local 0))) ∷ []) None [] (rows (assign (nm (Field k 0) ∷ []) (path (nm (Local 0) ∷ [])) ∷ []))

-- struct A { int n; A(int k) { n = k; } ~A() { write_int(n); } };
abbrev class_a : ClassTree
class_a = cl None (pa Int (Some (nm (Field 1 0))) ∷ []) (setting 1 ∷ fn Destructor Void [] ends [] (rows (say (path (nm (Field 1 0) ∷ [])) ∷ [])) ∷ [])

-- A destructor that throws out of a scope that is left normally ends the program.
--     struct T { int n; T(int k) { n = k; } ~T() { write_int(n); if (n == 2) throw n; } };
--     int main() { try { T a(1); T b(2); } catch (int e) { write_int(e + 10); } return 0; }
abbrev class_t : Option Specification → ClassTree
class_t s = cl None (pa Int (Some (nm (Field 1 0))) ∷ []) (
    setting 1 ∷
    fn Destructor Void [] s [] (rows (
    say (path (nm (Field 1 0) ∷ [])) ∷
    if_else (binary Equal (path (nm (Field 1 0) ∷ [])) (int 2)) (throw 0 (Some (path (nm (Field 1 0) ∷ [])))) no_else ∷ [])) ∷ [])

destructor_throws : Option Specification → Checked
destructor_throws s = ck (bad_exception ∷ class_t s ∷ []) [] (
    fn Plain Int [] None [] (rows (
    try (rows (
    local_object (nm (Class 1)) (nm (Local 0)) (expression_then (int 1) no_expressions) ∷
    local_object (nm (Class 1)) (nm (Local 1)) (expression_then (int 2) no_expressions) ∷ []))
    (handler_then (Some Int) (Some (nm (Local 2))) (rows (say (binary Add (path (nm (Local 2) ∷ [])) (int 10)) ∷ [])) 0 no_handlers) ∷
    return 0 (Some (int 0)) ∷ [])) ∷ []) 0

destructor_throws-ends : told (program_meaning (destructor_throws ends) [] [] 100 128) ≡ ((Line (pos 2) ∷ Make 1 ∷ Enter 1 ∷ []), Aborted)
unfolding destructor_throws
destructor_throws-ends = refl

-- with `noexcept(false)` it has no specification
destructor_throws-free : told_lines (program_meaning (destructor_throws None) [] [] 100 128) ≡ ((Line (pos 2) ∷ Line (pos 1) ∷ Line (pos 12) ∷ []), Exit (pos 0))
unfolding destructor_throws
destructor_throws-free = refl

-- A destructor that throws while an exception travels is unwound, and then the program ends.
--     A struct T { ~T() { A x(9); throw 8; } }; int main() { try { T t; throw 7; } catch (...) { } return 0; }
cleanup_throws : Checked
cleanup_throws = ck (
    bad_exception ∷ class_a ∷
    cl None [] (fn Destructor Void [] ends [] (rows (
    local_object (nm (Class 1)) (nm (Local 0)) (expression_then (int 9) no_expressions) ∷ throw 0 (Some (int 8)) ∷ [])) ∷ []) ∷ []) [] (
    fn Plain Int [] None [] (rows (
    try (rows (local_object (nm (Class 2)) (nm (Local 0)) no_expressions ∷ throw 0 (Some (int 7)) ∷ [])) (handler_then None None no_statements 0 no_handlers) ∷
    return 0 (Some (int 0)) ∷ [])) ∷ []) 0

cleanup_throws-ends : told (program_meaning cleanup_throws [] [] 100 128) ≡ ((Make 1 ∷ Make 2 ∷ Line (pos 9) ∷ Enter 2 ∷ []), Aborted)
unfolding cleanup_throws
cleanup_throws-ends = refl

-- A function is unwound to its outermost block, and what it is called in is not.
--     A void f() noexcept { A x(1); throw 2; } int main() { try { f(); } catch (int) { write_int(3); } return 0; }
function_throws : Statement → Checked
function_throws s = ck (bad_exception ∷ class_a ∷ []) [] (
    fn Plain Void [] ends [] (rows (local_object (nm (Class 1)) (nm (Local 0)) (expression_then (int 1) no_expressions) ∷ s ∷ [])) ∷
    fn Plain Int [] None [] (rows (
    try (rows (evaluate (call (nm (Func 0) ∷ []) no_expressions) ∷ [])) (handler_then (Some Int) None (rows (say (int 3) ∷ [])) 0 no_handlers) ∷
    return 0 (Some (int 0)) ∷ [])) ∷ []) 1

function_throws-ends : told (program_meaning (function_throws (throw 0 (Some (int 2)))) [] [] 100 128) ≡ ((Make 1 ∷ Line (pos 1) ∷ Enter 1 ∷ []), Aborted)
unfolding function_throws
function_throws-ends = refl

-- a foreign exception is entered too
module_raises-ends :
    told (program_meaning (function_throws (evaluate (call (nm (Builtin Module) ∷ []) (expression_then (int 0) (expression_then (int 0) no_expressions))))) [] ((Raise 4 ∷ []) ∷ []) 100 128)
    ≡ ((Foreign 1 0 4 ∷ Line (pos 1) ∷ Enter 1 ∷ []), Aborted)
unfolding function_throws
module_raises-ends = refl

-- What is `noexcept` and throws nothing is done as it is.
--     void f() noexcept { } int main() { f(); return 0; }
quiet_function : Checked
quiet_function = ck (bad_exception ∷ []) [] (
    fn Plain Void [] ends [] no_statements ∷
    fn Plain Int [] None [] (rows (evaluate (call (nm (Func 0) ∷ []) no_expressions) ∷ return 0 (Some (int 0)) ∷ [])) ∷ []) 1

quiet_function-means : told (program_meaning quiet_function [] [] 100 128) ≡ ([], Exit (pos 0))
unfolding quiet_function
quiet_function-means = refl

-- no handler and no scope does anything upon such a stop
abbrev IsOver : Stop → Type 0
IsOver (thrown e) = ⊥
IsOver (cancelled n) = ⊥
IsOver _ = Unit {0}

-- a call of terminate stops so, whatever it is asked to give
record Over (A B : Type 0) (x : Result A) (y : Result B) : Type 0 where
  why : Stop
  world : World
  over : IsOver why
  one : x ≡ stopped why world
  other : y ≡ stopped why world

module _ (r : Running) (A B : Type 0) where
  handler_over : (m : Result ℤ) → Over A B (after_terminate_handler m) (after_terminate_handler m)
  handler_over (done v w) = record { why = ended aborted; world = w; over = tt; one = refl; other = refl }
  handler_over (stopped (thrown e) w) = record { why = ended aborted; world = w; over = tt; one = refl; other = refl }
  handler_over (stopped (cancelled n) w) = record { why = ended aborted; world = w; over = tt; one = refl; other = refl }
  handler_over (stopped (ended e) w) = record { why = ended e; world = w; over = tt; one = refl; other = refl }
  handler_over (stopped undefined w) = record { why = undefined; world = w; over = tt; one = refl; other = refl }
  handler_over (stopped out_of_turns w) = record { why = out_of_turns; world = w; over = tt; one = refl; other = refl }
  handler_over (stopped deep w) = record { why = deep; world = w; over = tt; one = refl; other = refl }

  run_over : (h : Option ℕ) (c : Context) (w : World) → Over A B (run_terminate_handler r h c w) (run_terminate_handler r h c w)
  run_over None c w = record { why = ended aborted; world = w; over = tt; one = refl; other = refl }
  run_over (Some n) c w = handler_over _

  terminate_over : (c : Context) (w : World) → Over A B (terminate r c w) (terminate r c w)
  terminate_over c w = go c.ending
    where
      go : (b : Bool) → Over A B ((if b then stop (ended aborted) else run_terminate_handler r w.installed.terminate_handler c) w)
          ((if b then stop (ended aborted) else run_terminate_handler r w.installed.terminate_handler c) w)
      go true = record { why = ended aborted; world = w; over = tt; one = refl; other = refl }
      go false = run_over w.installed.terminate_handler c w

unwound_over : {A : Type 0} (r : Running) (c : Context) (d : Context → Action (Unit {0})) (s : Stop) (w : World) → IsOver s → unwound {A = A} r c d s w ≡ stopped s w
unwound_over r c d (thrown e) w h = absurd h
unwound_over r c d (cancelled n) w h = absurd h
unwound_over r c d (ended e) w h = refl
unwound_over r c d undefined w h = refl
unwound_over r c d out_of_turns w h = refl
unwound_over r c d deep w h = refl

same_after : {A B : Type 0} (x : Result A) (f g : A → Action B) → ((a : A) (w : World) → f a w ≡ g a w) → continued x f ≡ continued x g
same_after (done a w) f g h = h a w
same_after (stopped s w) f g h = refl

-- what the handler does once the exception is entered
left_over : (r : Running) (e : ℕ) (c : Context) (w : World) →
    while_handled {A = Flow} r e c (λ d u. after_scope r d (destroy_parameter r None nowhere) (continued (terminate {A = ℤ} r d u) (λ v. pure normal))) w ≡ terminate r (handling e c) w
left_over r e c w =
    let d = handling e c in
    let x = terminate_over r ℤ Flow d w in
    let inner : after_scope {A = Flow} r d (destroy_parameter r None nowhere) (continued (terminate {A = ℤ} r d w) (λ v. pure normal)) ≡ stopped x.why x.world =
    ap (λ y. after_scope {A = Flow} r d (destroy_parameter r None nowhere) (continued y (λ v. pure normal))) x.one ∙
    unwound_over r d (destroy_parameter r None nowhere) x.why x.world x.over in
    ap (λ y. after_scope {A = Flow} r c (let_go r e (goes_on e c y)) y) inner ∙ unwound_over r c (let_go r e (goes_on {A = Flow} e c (stopped x.why x.world))) x.why x.world x.over ∙ sym x.other

pub noexcept_is_a_try : NoexceptIsATry
noexcept_is_a_try r place b act f c w = go (act _ w)
  where
    go : (m : Result Flow) → after_try (end_noexcept r c) m ≡ after_try (caught r terminating f c) m
    go (stopped (thrown e) u) = same_after (enter r e c u) _ _ (λ a v. sym (left_over r e c v))
    go (stopped (cancelled n) u) = refl
    go (stopped (ended x) u) = refl
    go (stopped undefined u) = refl
    go (stopped out_of_turns u) = refl
    go (stopped deep u) = refl
    go (done a u) = refl
