-- The extents of specifications are the same in functions, constructors and destructors.
use Rattle.std.proofs.Common.{ℕ, ◌+◌, Bool, [], Option, Some, arith, length}
use Rattle.meaning_forms.specs.Call.{statements_in, body_of as source_body_of, construction, destruction}
use Rattle.meaning_forms.specs.Class.{parts_of}
use Rattle.meaning_forms.specs.Context.{guarded_by}
use Rattle.meaning_forms.specs.Frame.{Frame as SourceFrame}
use Rattle.meaning_forms.specs.Statement.{statements as source_statements}
use Rattle.region_forms.specs.Ending.{Running}
use Rattle.region_forms.specs.Laws.{CaughtListFollows}
use Rattle.region_forms.specs.LowerExpression.{Lowering}
use Rattle.region_forms.specs.LowerProgram.{body_of}
use Rattle.region_forms.specs.LowerStatement.{statements}
use Rattle.region_simulation.specs.Expressions.{source_running}
use Rattle.region_statements.specs.Calls.{SameExtents}
use Rattle.region_statements.specs.Members.{SameMemberExtents}
use Rattle.region_statements.specs.Statements.{SourceCalls}
use Rattle.region_exceptions.specs.Extents.{EmptyConstructor}
use Rattle.region_exceptions.specs.Fares.{CallsFare}
use Rattle.region_exceptions.specs.Handlers.{EmptyDestructor}
use Rattle.region_exceptions.specs.Same.{RunAlike}
use Rattle.region_meaning.specs.Extents.{ExtentsAreSame}
use Rattle.region_exceptions.proofs.Extents.{extents_do_alike}
use Rattle.region_exceptions.proofs.FaringCalls.{construction_fares, destroy_parts_fares}
use Rattle.region_exceptions.proofs.FaringTrees.{statements_fares}
use Rattle.meaning_forms.specs.Specification.{guard_of}

module _ (laws : CaughtListFollows) (l : Lowering) (call : SourceCalls) (b : Running) (run : RunAlike l.layout (source_running l call) b)
    (fare : CallsFare (source_running l call)) (empty : EmptyDestructor l.layout (source_running l call) b)
    (built : EmptyConstructor l.layout (source_running l call) b) where
  pub extents : (own : Option ℕ) (gives : Bool) → SameExtents l own gives call b
  extents own gives v c n s ss does typed =
      let r = source_running l call in
      let inside = guarded_by (guard_of s) c in
      extents_do_alike laws l own gives call b v c run fare empty built n 0 1 s (source_statements r ss v) (statements l ss 0 n (1 + 2)) (omega arith)
      (statements_fares r ss v inside fare).at (does v inside n 0 (1 + 2) (omega arith) typed)

  pub member_extents : (k : ℕ) (gives : Bool) → SameMemberExtents l k gives call b
  member_extents k gives =
      let r = source_running l call in
      record {
        constructions = λ v c f s does.
            let inside = guarded_by (guard_of s) c in
            extents_do_alike laws l (Some k) gives call b v c run fare empty built (length f.parameters) 0 1 s (construction r k f v)
            (body_of l f.kind k f (1 + 2)) (omega arith) (construction_fares r k f v inside fare).at (does inside (1 + 2) (omega arith));
        destructions = λ v c f s does.
            let inside = guarded_by (guard_of s) c in
            let frame : SourceFrame = record { this = v.this; variables = [] } in
            extents_do_alike laws l (Some k) gives call b v c run fare empty built (length f.parameters) 0 1 s (destruction r k f v.this)
            (body_of l f.kind k f (1 + 2)) (omega arith)
            (destroy_parts_fares r v.this 0 (parts_of l.program k) inside (source_body_of r f frame inside) fare (statements_fares r (statements_in f.body) frame inside fare)).at
            (does inside (1 + 2) (omega arith));
      }

pub extents_are_same : CaughtListFollows → ExtentsAreSame
extents_are_same laws l call b run fare empty built = record { functions = extents laws l call b run fare empty built; members = member_extents laws l call b run fare empty built }
