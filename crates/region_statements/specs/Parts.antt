-- The parts of an object, built in order and destroyed in reverse order (ISO/IEC 14882:2003, 12.4/6, 12.6.2/5, 15.2).
use Rattle.std.specs.Prelude.{◌≡◌, ℕ, ◌+◌, ◌<◌, Bool, List, [], ◌∷◌, Some, slice_get}
use Rattle.meaning_forms.specs.Call.{build_parts as source_build_parts, destroy_parts as source_destroy_parts}
use Rattle.meaning_forms.specs.Class.{ObjectType, class_type, parts_of}
use Rattle.meaning_forms.specs.Construct.{destroy}
use Rattle.meaning_forms.specs.Context.{Context as SourceContext}
use Rattle.meaning_forms.specs.Frame.{Frame as SourceFrame}
use Rattle.meaning_forms.specs.Outcome.{Action as SourceAction, Flow as SourceFlow}
use Rattle.meaning_forms.specs.Running.{destructor}
use Rattle.meaning_forms.specs.Scope.{scope, until_complete}
use Rattle.meaning_forms.specs.World.{part}
use Rattle.region_forms.specs.Form.{Region, protect, destroy_part, destroy_scope, in_order}
use Rattle.region_forms.specs.Ending.{Running}
use Rattle.region_forms.specs.LowerExpression.{Lowering}
use Rattle.region_forms.specs.LowerProgram.{part_place, build_parts, destroy_parts}
use Rattle.region_forms.specs.Numbering.{number_of}
use Rattle.region_simulation.specs.Expressions.{source_running}
use Rattle.region_simulation.specs.Flows.{DoesAlike}
use Rattle.region_statements.specs.Sequences.{GoesOn}
use Rattle.region_statements.specs.Statements.{SourceCalls}

-- In a function of class k, what is done between the completion of a part and that of its object, and in the scope of a part, does the same
-- in a region that the destruction of the part protects.
pub record SameParts (l : Lowering) (k : ℕ) (gives : Bool) (call : SourceCalls) (b : Running) : Type 0 where
  pub completes : (v : SourceFrame) (c : SourceContext) (n d i j : ℕ) (act : SourceAction SourceFlow) (rs : List Region) → 0 < d
      → slice_get (parts_of l.program k) i ≡ Some (class_type j) → DoesAlike l (Some k) gives b v c n 0 (d + 2) act rs
      → DoesAlike l (Some k) gives b v c n 0 d (until_complete (source_running l call) c (destroy (source_running l call) (class_type j) (part i v.this)) act)
      (protect (in_order rs) (destroy_part (part_place l.layout l.program k 0 i) (number_of l.program (destructor j))) ∷ [])
  pub scopes : (v : SourceFrame) (c : SourceContext) (n d i j : ℕ) (act : SourceAction SourceFlow) (rs : List Region) → 0 < d
      → slice_get (parts_of l.program k) i ≡ Some (class_type j) → DoesAlike l (Some k) gives b v c n 0 (d + 2) act rs
      → DoesAlike l (Some k) gives b v c n 0 d (scope (source_running l call) c (destroy (source_running l call) (class_type j) (part i v.this)) act)
      (protect (in_order rs) (destroy_scope (part_place l.layout l.program k 0 i) (number_of l.program (destructor j))) ∷ [])

-- what is said in each call of a function of class k
abbrev pub InEachMember : (Lowering → (k : ℕ) → (gives : Bool) → SourceCalls → Running → SourceFrame → SourceContext → Type 0) → Type 0
InEachMember said =
    (l : Lowering) (k : ℕ) (gives : Bool) (call : SourceCalls) (b : Running) (v : SourceFrame) (c : SourceContext) → SameParts l k gives call b → said l k gives call b v c

-- the parts are built in order, then what is left of the construction is done
abbrev pub PartsBuildAlike : Type 0
PartsBuildAlike = InEachMember (λ l k gives call b v c.
    (n d : ℕ) → 0 < d → (build : ℕ → ObjectType → SourceAction (Unit {0})) (lowered : ℕ → ObjectType → List Region)
    → ((i : ℕ) (t : ObjectType) → slice_get (parts_of l.program k) i ≡ Some t → GoesOn l (Some k) b v c (build i t) (lowered i t))
    → (left : SourceAction SourceFlow) (ys : ℕ → List Region) → ((e : ℕ) → 0 < e → DoesAlike l (Some k) gives b v c n 0 e left (ys e))
    → DoesAlike l (Some k) gives b v c n 0 d (source_build_parts (source_running l call) build v.this 0 (parts_of l.program k) c left)
    (build_parts l k lowered 0 (parts_of l.program k) ys d))

-- the body of a destructor is done in the scope of the parts
abbrev pub PartsDestroyAlike : Type 0
PartsDestroyAlike = InEachMember (λ l k gives call b v c.
    (n d : ℕ) → 0 < d → (body : SourceAction SourceFlow) (ys : ℕ → List Region) → ((e : ℕ) → 0 < e → DoesAlike l (Some k) gives b v c n 0 e body (ys e))
    → DoesAlike l (Some k) gives b v c n 0 d (source_destroy_parts (source_running l call) v.this 0 (parts_of l.program k) c body)
    (destroy_parts l k 0 (parts_of l.program k) ys d))
