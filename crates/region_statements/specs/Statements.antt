-- That statements are lowered to what they do, with calls, and with exceptions, that do the same.
use Rattle.std.specs.Prelude.{ℕ, ◌+◌, ◌<◌, ℤ, Bool, List, [], ◌∷◌, length, Option, Some}
use Rattle.class_layout.specs.StandApart.{StandApart}
use Rattle.cxx_ast.specs.declared.name.Builtin.TheVariants.{Module, Terminate}
use Rattle.cxx_ast.specs.declared.name.Name.{Name}
use Rattle.cxx_ast.specs.declared.types.Ty.TheVariants.{Object}
use Rattle.cxx_ast.specs.Plain.{Expression, Expressions, Statements, Handlers, no_handlers, handler_then, local_object}
use Rattle.meaning_forms.specs.Class.{class_named}
use Rattle.meaning_forms.specs.World.{Reference, whole}
use Rattle.meaning_forms.specs.Context.{Context as SourceContext, try_block, guarded_by}
use Rattle.meaning_forms.specs.Frame.{Frame as SourceFrame, with_variable}
use Rattle.meaning_forms.specs.Handler.{clauses_of}
use Rattle.meaning_forms.specs.Outcome.{Action as SourceAction, Flow as SourceFlow}
use Rattle.meaning_forms.specs.Running.{Argument as SourceArgument, Callee}
use Rattle.meaning_forms.specs.Statement.{throwing as source_throwing, after_try, statement as source_statement, statements as source_statements, caught}
use Rattle.region_forms.specs.Form.{Region, catch, in_order}
use Rattle.region_forms.specs.Ending.{Running}
use Rattle.region_forms.specs.LowerExpression.{Lowering}
use Rattle.region_forms.specs.LowerStatement.{throwing, statement, statements, clauses}
use Rattle.region_forms.specs.Numbering.{all_declared_in}
use Rattle.region_simulation.specs.Reach.{KindsFit}
use Rattle.region_simulation.specs.Calls.{SameCalls}
use Rattle.region_simulation.specs.Expressions.{source_running, SameBuiltin}
use Rattle.region_simulation.specs.Flows.{DoesAlike}
use Rattle.region_simulation.specs.Statements.{DeclaresNext, CanConstruct, CanThrow, AreTypedStatements, AreTypedHandlers}

-- what a call of the source does
abbrev pub SourceCalls : Type 0
SourceCalls = Callee → Reference → List SourceArgument → SourceContext → SourceAction ℤ

-- statements do what they are lowered to, wherever they are typed
abbrev pub StatementsDo : Lowering → (own : Option ℕ) → (gives : Bool) → SourceCalls → Running → Statements → Type 0
StatementsDo l own gives call b ss =
    (v : SourceFrame) (c : SourceContext) (n i d : ℕ) → i < d → AreTypedStatements l own gives ss v.variables n
    → DoesAlike l own gives b v c n i d (source_statements (source_running l call) ss v c) (statements l ss i n d)

-- the statements of each handler do
abbrev pub HandlersDo : Lowering → (own : Option ℕ) → (gives : Bool) → SourceCalls → Running → Handlers → Type 0
HandlersDo l own gives call b no_handlers = Unit {0}
HandlersDo l own gives call b (handler_then t x ss place hs) = StatementsDo l own gives call b ss × HandlersDo l own gives call b hs

-- The forms that raise exceptions, or clean up behind them, do the same: the two built-in functions that may terminate or raise, throws, the
-- scopes of local objects, and try blocks whose statements and handlers do.
pub record SameExceptions (l : Lowering) (own : Option ℕ) (gives : Bool) (call : SourceCalls) (b : Running) : Type 0 where
  pub terminates : (v : SourceFrame) (c : SourceContext) → SameBuiltin l own call b v c Terminate
  pub modules : (v : SourceFrame) (c : SourceContext) → SameBuiltin l own call b v c Module
  pub throws : (v : SourceFrame) (c : SourceContext) (n i d : ℕ) (e : Option Expression) → i < d → CanThrow l own v.variables e
      → DoesAlike l own gives b v c n i d (source_throwing (source_running l call) v e c) (throwing l e)
  pub objects : (v : SourceFrame) (c : SourceContext) (n i d : ℕ) (k x : Name) (es : Expressions) (rest : SourceFrame → SourceAction SourceFlow) (ys : ℕ → List Region)
      → i < d → DeclaresNext l n (Some x) (Object k) → CanConstruct l own v.variables (class_named k) es
      → ((o e : ℕ) → i < e → DoesAlike l own gives b (with_variable x (whole o) v) c (n + 1) i e (rest (with_variable x (whole o) v)) (ys e))
      → DoesAlike l own gives b v c n i d (source_statement (source_running l call) (local_object k x es) rest v c) (statement l (local_object k x es) ys i n d)
  pub tries : (v : SourceFrame) (c : SourceContext) (n i d : ℕ) (ss : Statements) (hs : Handlers) → i < d
      → StatementsDo l own gives call b ss → HandlersDo l own gives call b hs
      → AreTypedStatements l own gives ss v.variables n → AreTypedHandlers l own gives hs v.variables (n + length (all_declared_in ss))
      → DoesAlike l own gives b v c n i d
      (λ w. after_try (caught (source_running l call) hs v c) (source_statements (source_running l call) ss v (guarded_by (try_block (clauses_of hs)) c) w))
      (catch (in_order (statements l ss i n (d + 2))) (clauses l hs i (n + length (all_declared_in ss)) (d + 2)) ∷ [])

-- every typed statement does what it is lowered to
abbrev pub StatementsDoAlike : Type 0
StatementsDoAlike =
    (l : Lowering) (own : Option ℕ) (gives : Bool) (call : SourceCalls) (b : Running)
    → KindsFit l b.kinds → StandApart l.layout.classes l.program.classes → SameCalls l.layout (source_running l call) b → SameExceptions l own gives call b
    → (ss : Statements) → StatementsDo l own gives call b ss
