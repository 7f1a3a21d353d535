-- That expressions are lowered to what they mean, with calls that do the same.
use Rattle.std.specs.Prelude.{ℕ, ℤ, ◌≤◌, List, [], Option}
use Rattle.cxx_ast.specs.declared.name.Bound.TheVariants.{Builtin as BuiltinBound}
use Rattle.cxx_ast.specs.declared.name.Builtin.{Builtin}
use Rattle.cxx_ast.specs.declared.name.Builtin.TheVariants.{Module, Terminate}
use Rattle.cxx_ast.specs.declared.name.Name.{Name}
use Rattle.cxx_ast.specs.Plain.{Expression, Expressions}
use Rattle.meaning_forms.specs.World.{Reference}
use Rattle.meaning_forms.specs.Context.{Context as SourceContext}
use Rattle.meaning_forms.specs.Outcome.{Action as SourceAction}
use Rattle.meaning_forms.specs.Frame.{Frame as SourceFrame}
use Rattle.meaning_forms.specs.Running.{Running as SourceRunning, Argument as SourceArgument, Callee}
use Rattle.meaning_forms.specs.Expression.{value_of, arguments, called}
use Rattle.region_forms.specs.Ending.{Running}
use Rattle.region_forms.specs.LowerExpression.{Lowering, first_temporary, lower, lower_arguments, call_of, call_stored}
use Rattle.region_simulation.specs.Reach.{KindsFit}
use Rattle.region_simulation.specs.Typing.{IsTyped, IsStandard, UnlessHandler, types_for}
use Rattle.region_simulation.specs.Calls.{SameCalls}
use Rattle.region_simulation.specs.Evaluates.{Evaluates}
use Rattle.region_simulation.specs.Passes.{Passes}

-- a running source: the program that is lowered, and what its calls do
abbrev pub source_running : Lowering → (Callee → Reference → List SourceArgument → SourceContext → SourceAction ℤ) → SourceRunning
source_running l call = record { program = l.program; call = call }

-- a built-in function that can be called does the same, with arguments that are passed alike
abbrev pub SameBuiltin : Lowering → (own : Option ℕ) → (Callee → Reference → List SourceArgument → SourceContext → SourceAction ℤ) → Running → SourceFrame → SourceContext → Builtin → Type 0
SameBuiltin l own call b v c f =
    (object : List Name) (es : Expressions) (t : ℕ) → first_temporary l ≤ t → IsStandard l.program (BuiltinBound f) es
    → UnlessHandler (BuiltinBound f) (Passes l own b v c t (types_for [] es) (arguments (source_running l call) v es [] c) (lower_arguments l es [] t))
    → Evaluates l own b v c t (called (source_running l call) v (BuiltinBound f) object es (arguments (source_running l call) v es [] c) c)
    (call_stored t (call_of l (BuiltinBound f) object es (lower_arguments l es [] t)))

-- each does
abbrev pub SameBuiltins : Lowering → (own : Option ℕ) → (Callee → Reference → List SourceArgument → SourceContext → SourceAction ℤ) → Running → SourceFrame → SourceContext → Type 0
SameBuiltins l own call b v c = (f : Builtin) → SameBuiltin l own call b v c f

-- With calls that do the same, and the two built-in functions that may terminate or raise, what an expression is lowered to evaluates to
-- what it means.
abbrev pub ExpressionsEvaluate : Type 0
ExpressionsEvaluate =
    (l : Lowering) (own : Option ℕ) (call : Callee → Reference → List SourceArgument → SourceContext → SourceAction ℤ) (b : Running) (v : SourceFrame) (c : SourceContext)
    → KindsFit l b.kinds → SameCalls l.layout (source_running l call) b → SameBuiltin l own call b v c Terminate → SameBuiltin l own call b v c Module
    → (e : Expression) (t : ℕ) → first_temporary l ≤ t → IsTyped l own v.variables e
    → Evaluates l own b v c t (value_of (source_running l call) v e c) (lower l e t)
