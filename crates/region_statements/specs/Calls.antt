-- That calls of functions do the same, with fuel: those inside a call have one unit less.
use Rattle.std.specs.Prelude.{slice_get, ◌≡◌, ℕ, suc, Bool, true, false, ◌==◌, List, [], ◌∷◌, Option, Some, None}
use Rattle.class_layout.specs.StandApart.{StandApart}
use Rattle.cxx_ast.specs.declared.declaration.FuncKind.TheVariants.{Plain, Method}
use Rattle.cxx_ast.specs.Plain.{Checked, Function, Statements, Specification}
use Rattle.meaning_forms.specs.Class.{function_at as source_function_at, method_at}
use Rattle.meaning_forms.specs.Context.{Context as SourceContext}
use Rattle.meaning_forms.specs.Frame.{Frame as SourceFrame}
use Rattle.meaning_forms.specs.Running.{Running as SourceRunning, Argument, Callee, function, method}
use Rattle.meaning_forms.specs.Specification.{under_specification}
use Rattle.meaning_forms.specs.Statement.{statements as source_statements}
use Rattle.meaning_forms.specs.World.{World as SourceWorld, Reference}
use Rattle.region_forms.specs.Form.{Kinds, help_slot, Regions}
use Rattle.region_forms.specs.Layout.{Layout}
use Rattle.region_forms.specs.World.{Word}
use Rattle.region_forms.specs.Outcome.{State}
use Rattle.region_forms.specs.Ending.{Running}
use Rattle.linear_simulation.specs.Watched.{watched_call}
use Rattle.region_forms.specs.Numbering.{number_of, variables_of}
use Rattle.region_forms.specs.LowerExpression.{Lowering}
use Rattle.region_forms.specs.LowerStatement.{statements}
use Rattle.region_forms.specs.LowerProgram.{lowering, limited, declared_function}
use Rattle.region_simulation.specs.Places.{Places}
use Rattle.region_simulation.specs.Reach.{KindsFit}
use Rattle.region_simulation.specs.Stands.{Stands, context_of}
use Rattle.region_simulation.specs.Alike.{Alike}
use Rattle.region_simulation.specs.Calls.{SamePassed, SameCalls}
use Rattle.region_simulation.specs.Expressions.{source_running}
use Rattle.region_simulation.specs.Flows.{DoesAlike}
use Rattle.region_simulation.specs.Statements.{AreTypedStatements}
use Rattle.region_statements.specs.Fueled.{fueled, fueled_call}
use Rattle.region_statements.specs.Statements.{SourceCalls, StatementsDo, SameExceptions}
use Rattle.region_statements.specs.Functions.{gives_int, IsTypedBody}

-- regions that run, in a function whose slots are of these kinds
abbrev pub regions_running : Regions → (limit fuel : ℕ) → Kinds → Running
regions_running q limit fuel kinds = record { types = q.types; kinds = kinds; limit = limit; call = watched_call q limit fuel }

-- calls of one callee do the same
abbrev pub SameCall : Layout → SourceRunning → Running → Callee → Type 0
SameCall l a b callee =
    (at : Places) (this : Reference) (given : List Argument) (words : List Word) (k : ℕ) (c : SourceContext) (w : SourceWorld) (s : State)
    → Stands l a.program at c w s → SamePassed l a.program at callee this given words
    → Alike l a.program at k c w s (λ x y w2 at2 s2. x ≡ y) (a.call callee this given c w) (b.call (number_of a.program callee) words (context_of w.open_calls c) s)

-- the extent of a specification is the same for statements that do
abbrev pub SameExtents : Lowering → (own : Option ℕ) → (gives : Bool) → SourceCalls → Running → Type 0
SameExtents l own gives call b =
    (v : SourceFrame) (c : SourceContext) (n : ℕ) (s : Specification) (ss : Statements) → StatementsDo l own gives call b ss → AreTypedStatements l own gives ss v.variables n
    → DoesAlike l own gives b v c n 0 1 (under_specification (source_running l call) (Some s) (source_statements (source_running l call) ss v) c)
    (limited l (Some s) (λ d. statements l ss 0 n d) 1 ∷ [])

-- whatever is asked of the function that a lowering is of
abbrev pub RunsAlike : Checked → Layout → Regions → (limit fuel : ℕ) → (own : Option ℕ) → (is_member : Bool) → Function → Type 0
RunsAlike p layout q limit fuel own is_member f =
    let l = lowering p layout is_member (variables_of f) in
    (kinds : Kinds) → KindsFit l kinds → SameExceptions l own (gives_int f.result) (fueled_call p limit fuel) (regions_running q limit fuel kinds) ×
    SameExtents l own (gives_int f.result) (fueled_call p limit fuel) (regions_running q limit fuel kinds)

-- A call of a function that is not main does the same with one unit of fuel more, where calls with that fuel do.
abbrev pub FunctionsRunAlike : Type 0
FunctionsRunAlike =
    (p : Checked) (layout : Layout) (q : Regions) (limit fuel n : ℕ) → StandApart layout.classes p.classes
    → SameCalls layout (fueled p limit fuel) (regions_running q limit fuel (λ s. help_slot))
    → (n == p.main) ≡ false → (source_function_at p n).kind ≡ Plain → slice_get q.functions n ≡ Some (declared_function p layout false false 0 (source_function_at p n))
    → IsTypedBody (lowering p layout false (variables_of (source_function_at p n))) None (source_function_at p n)
    → RunsAlike p layout q limit fuel None false (source_function_at p n)
    → SameCall layout (fueled p limit (suc fuel)) (regions_running q limit (suc fuel) (λ s. help_slot)) (function n)

-- so does a call of a function of a class
abbrev pub MethodsRunAlike : Type 0
MethodsRunAlike =
    (p : Checked) (layout : Layout) (q : Regions) (limit fuel k i : ℕ) → StandApart layout.classes p.classes
    → SameCalls layout (fueled p limit fuel) (regions_running q limit fuel (λ s. help_slot))
    → (method_at p k i).kind ≡ Method → slice_get q.functions (number_of p (method k i)) ≡ Some (declared_function p layout true false k (method_at p k i))
    → IsTypedBody (lowering p layout true (variables_of (method_at p k i))) (Some k) (method_at p k i)
    → RunsAlike p layout q limit fuel (Some k) true (method_at p k i)
    → SameCall layout (fueled p limit (suc fuel)) (regions_running q limit (suc fuel) (λ s. help_slot)) (method k i)
