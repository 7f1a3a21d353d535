-- That handlers, and try blocks of statements with handlers, do the same (ISO/IEC 14882:2003, 15.3).
use Rattle.std.specs.Prelude.{ℕ, ◌+◌, ◌<◌, ◌≤◌, ℤ, Bool, List, [], ◌∷◌, length, Option}
use Rattle.cxx_ast.specs.Plain.{Statements, Handlers, no_handlers, handler_then}
use Rattle.meaning_forms.specs.World.{Reference}
use Rattle.meaning_forms.specs.Context.{Context as SourceContext, try_block, guarded_by}
use Rattle.meaning_forms.specs.Frame.{Frame as SourceFrame}
use Rattle.meaning_forms.specs.Outcome.{Action as SourceAction}
use Rattle.meaning_forms.specs.Running.{Argument as SourceArgument, Callee}
use Rattle.meaning_forms.specs.Handler.{clauses_of}
use Rattle.meaning_forms.specs.Statement.{after_try, statements as source_statements, caught}
use Rattle.region_forms.specs.Form.{catch, in_order}
use Rattle.region_forms.specs.Ending.{Running}
use Rattle.region_forms.specs.LowerExpression.{Lowering}
use Rattle.region_forms.specs.LowerStatement.{statements, clauses}
use Rattle.region_forms.specs.Numbering.{all_declared_in}
use Rattle.region_simulation.specs.Reach.{KindsFit}
use Rattle.region_simulation.specs.Flows.{DoesAlike}
use Rattle.region_simulation.specs.Expressions.{source_running}
use Rattle.region_simulation.specs.Statements.{AreTypedStatements, AreTypedHandlers}
use Rattle.region_exceptions.specs.Fares.{CallsFare}
use Rattle.region_exceptions.specs.Handlers.{EmptyDestructor}
use Rattle.region_exceptions.specs.Throws.{InEachContext}
use Rattle.region_exceptions.specs.Tries.{CanBeCaught, CatchesAlike}

-- statements do what they are lowered to, wherever they are typed
abbrev pub BlockDoes : Lowering → (own : Option ℕ) → (gives : Bool) → (Callee → Reference → List SourceArgument → SourceContext → SourceAction ℤ) → Running → Statements → Type 0
BlockDoes l own gives call b ss =
    (v : SourceFrame) (c : SourceContext) (n i d : ℕ) → i < d → AreTypedStatements l own gives ss v.variables n
    → DoesAlike l own gives b v c n i d (source_statements (source_running l call) ss v c) (statements l ss i n d)

-- the statements of each handler do
abbrev pub BlocksDo : Lowering → (own : Option ℕ) → (gives : Bool) → (Callee → Reference → List SourceArgument → SourceContext → SourceAction ℤ) → Running → Handlers → Type 0
BlocksDo l own gives call b no_handlers = Unit {0}
BlocksDo l own gives call b (handler_then t x ss place hs) = BlockDoes l own gives call b ss × BlocksDo l own gives call b hs

-- the first handler whose clause matches is entered, with its parameter; where none does, the exception travels on
abbrev pub HandlersCatchAlike : Type 0
HandlersCatchAlike = InEachContext (λ l own gives call b v c.
    KindsFit l b.kinds → CallsFare (source_running l call) → EmptyDestructor l.layout (source_running l call) b
    → (n m i d : ℕ) (hs : Handlers) → i < d → n ≤ m → BlocksDo l own gives call b hs → AreTypedHandlers l own gives hs v.variables m
    → CatchesAlike l own gives b v c n i d (caught (source_running l call) hs v c) (clauses l hs i m (d + 1)))

-- so a try block of statements does
abbrev pub TryBlocksDoAlike : Type 0
TryBlocksDoAlike = InEachContext (λ l own gives call b v c.
    KindsFit l b.kinds → CallsFare (source_running l call) → EmptyDestructor l.layout (source_running l call) b
    → (n i d : ℕ) (ss : Statements) (hs : Handlers) → i < d → BlockDoes l own gives call b ss → BlocksDo l own gives call b hs
    → AreTypedStatements l own gives ss v.variables n → AreTypedHandlers l own gives hs v.variables (n + length (all_declared_in ss))
    → CanBeCaught (guarded_by (try_block (clauses_of hs)) c) (source_statements (source_running l call) ss v (guarded_by (try_block (clauses_of hs)) c))
    → DoesAlike l own gives b v c n i d
    (λ w. after_try (caught (source_running l call) hs v c) (source_statements (source_running l call) ss v (guarded_by (try_block (clauses_of hs)) c) w))
    (catch (in_order (statements l ss i n (d + 2))) (clauses l hs i (n + length (all_declared_in ss)) (d + 2)) ∷ []))
