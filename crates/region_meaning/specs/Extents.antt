-- That the extents of specifications are the same, as functions, constructors and destructors ask it.
use Rattle.std.specs.Prelude.{ℕ, Bool, Option}
use Rattle.region_forms.specs.Ending.{Running}
use Rattle.region_forms.specs.LowerExpression.{Lowering}
use Rattle.region_simulation.specs.Expressions.{source_running}
use Rattle.region_statements.specs.Calls.{SameExtents}
use Rattle.region_statements.specs.Members.{SameMemberExtents}
use Rattle.region_statements.specs.Statements.{SourceCalls}
use Rattle.region_exceptions.specs.Extents.{EmptyConstructor}
use Rattle.region_exceptions.specs.Fares.{CallsFare}
use Rattle.region_exceptions.specs.Handlers.{EmptyDestructor}
use Rattle.region_exceptions.specs.Same.{RunAlike}

-- the extents in every function, and those in the constructors and the destructor of every class
pub record AllExtentsAreSame (l : Lowering) (call : SourceCalls) (b : Running) : Type 0 where
  pub functions : (own : Option ℕ) (gives : Bool) → SameExtents l own gives call b
  pub members : (k : ℕ) (gives : Bool) → SameMemberExtents l k gives call b

-- they are the same in every context, where calls of the source keep what is known of exceptions
abbrev pub ExtentsAreSame : Type 0
ExtentsAreSame =
    (l : Lowering) (call : SourceCalls) (b : Running) → RunAlike l.layout (source_running l call) b → CallsFare (source_running l call)
    → EmptyDestructor l.layout (source_running l call) b → EmptyConstructor l.layout (source_running l call) b → AllExtentsAreSame l call b
