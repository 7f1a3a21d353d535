-- That scopes of parts and of local objects are the same, as statements and functions ask it.
use Rattle.std.specs.Prelude.{ℕ, ◌<◌, Bool, Option, length}
use Rattle.region_forms.specs.Ending.{Running}
use Rattle.region_forms.specs.LowerExpression.{Lowering}
use Rattle.region_simulation.specs.Reach.{KindsFit}
use Rattle.region_simulation.specs.Expressions.{source_running}
use Rattle.region_statements.specs.Statements.{SourceCalls}
use Rattle.region_statements.specs.Parts.{SameParts}
use Rattle.region_statements.specs.Objects.{ObjectScopesDo}
use Rattle.region_exceptions.specs.Fares.{CallsFare}
use Rattle.region_exceptions.specs.Same.{RunAlike}

abbrev pub PartsAreSame : Type 0
PartsAreSame =
    (l : Lowering) (k : ℕ) (gives : Bool) (call : SourceCalls) (b : Running) → RunAlike l.layout (source_running l call) b → CallsFare (source_running l call)
    → k < length l.program.classes → SameParts l k gives call b

abbrev pub ObjectScopesAreSame : Type 0
ObjectScopesAreSame =
    (l : Lowering) (own : Option ℕ) (gives : Bool) (call : SourceCalls) (b : Running) → RunAlike l.layout (source_running l call) b → CallsFare (source_running l call)
    → KindsFit l b.kinds → ObjectScopesDo l own gives call b
