-- The parts of an object are built and destroyed alike, one by one.
use Rattle.std.proofs.Common.{◌≡◌, ℕ, suc, ◌+◌, ◌<◌, Bool, List, [], ◌∷◌, Some, refl, subst, arith}
use Rattle.std.specs.Prelude.{slice_get}
use Rattle.meaning_forms.specs.Call.{build_parts as source_build_parts, destroy_parts as source_destroy_parts}
use Rattle.meaning_forms.specs.Class.{ObjectType, int_type, class_type, parts_of}
use Rattle.meaning_forms.specs.Construct.{destroy}
use Rattle.meaning_forms.specs.Context.{Context as SourceContext}
use Rattle.meaning_forms.specs.Frame.{Frame as SourceFrame}
use Rattle.meaning_forms.specs.Outcome.{Result as SourceResult, done as source_done, stopped as source_stopped, thrown, cancelled, ended, undefined, out_of_turns, deep, Action as SourceAction, Flow as SourceFlow}
use Rattle.meaning_forms.specs.Running.{Running as SourceRunning}
use Rattle.meaning_forms.specs.Scope.{after_scope, after_part, scope, until_complete}
use Rattle.meaning_forms.specs.World.{Reference, part}
use Rattle.region_forms.specs.Form.{Region}
use Rattle.region_forms.specs.Ending.{Running}
use Rattle.region_forms.specs.LowerExpression.{Lowering}
use Rattle.region_forms.specs.LowerProgram.{build_parts, destroy_parts}
use Rattle.region_simulation.specs.Expressions.{source_running}
use Rattle.region_simulation.specs.Flows.{DoesAlike}
use Rattle.region_statements.specs.Sequences.{GoesOn}
use Rattle.region_statements.specs.Statements.{SourceCalls}
use Rattle.region_statements.specs.Parts.{SameParts, PartsBuildAlike, PartsDestroyAlike}
use Rattle.region_statements.proofs.Ending.{does_next}
use Rattle.region_statements.proofs.Locals.{does_same}

-- an int needs no destruction, however what it is part of is left
int_complete : (r : SourceRunning) (c : SourceContext) (target : Reference) (x : SourceResult SourceFlow) → x ≡ after_part r c (destroy r int_type target) x
int_complete r c target (source_done a w) = refl
int_complete r c target (source_stopped (thrown e) w) = refl
int_complete r c target (source_stopped (cancelled n) w) = refl
int_complete r c target (source_stopped (ended x) w) = refl
int_complete r c target (source_stopped undefined w) = refl
int_complete r c target (source_stopped out_of_turns w) = refl
int_complete r c target (source_stopped deep w) = refl

int_scope : (r : SourceRunning) (c : SourceContext) (target : Reference) (x : SourceResult SourceFlow) → x ≡ after_scope r c (destroy r int_type target) x
int_scope r c target (source_done a w) = refl
int_scope r c target (source_stopped (thrown e) w) = refl
int_scope r c target (source_stopped (cancelled n) w) = refl
int_scope r c target (source_stopped (ended x) w) = refl
int_scope r c target (source_stopped undefined w) = refl
int_scope r c target (source_stopped out_of_turns w) = refl
int_scope r c target (source_stopped deep w) = refl

module _ (l : Lowering) (k : ℕ) (gives : Bool) (call : SourceCalls) (b : Running) (v : SourceFrame) (c : SourceContext) (same : SameParts l k gives call b) (n : ℕ) where
  -- what stands in a list of parts from the i-th on
  abbrev StandFrom : ℕ → List ObjectType → Type 0
  StandFrom i types = (j : ℕ) (t : ObjectType) → slice_get types j ≡ Some t → slice_get (parts_of l.program k) (i + j) ≡ Some t

  first_there : (i : ℕ) (t : ObjectType) (types : List ObjectType) → StandFrom i (t ∷ types) → slice_get (parts_of l.program k) i ≡ Some t
  first_there i t types there = let none : i + 0 ≡ i = omega arith in subst (λ m. slice_get (parts_of l.program k) m ≡ Some t) none (there 0 t refl)

  rest_there : (i : ℕ) (t : ObjectType) (types : List ObjectType) → StandFrom i (t ∷ types) → StandFrom (i + 1) types
  rest_there i t types there j u is = let more : i + suc j ≡ i + 1 + j = omega arith in subst (λ m. slice_get (parts_of l.program k) m ≡ Some u) more (there (suc j) u is)

  module _ (build : ℕ → ObjectType → SourceAction (Unit {0})) (lowered : ℕ → ObjectType → List Region)
      (builds : (i : ℕ) (t : ObjectType) → slice_get (parts_of l.program k) i ≡ Some t → GoesOn l (Some k) b v c (build i t) (lowered i t))
      (left : SourceAction SourceFlow) (ys : ℕ → List Region) (rest : (e : ℕ) → 0 < e → DoesAlike l (Some k) gives b v c n 0 e left (ys e)) where
    build_from : (types : List ObjectType) (i d : ℕ) → 0 < d → StandFrom i types
        → DoesAlike l (Some k) gives b v c n 0 d (source_build_parts (source_running l call) build v.this i types c left) (build_parts l k lowered i types ys d)
    build_from [] i d lt there = rest d lt
    build_from (int_type ∷ types) i d lt there =
        let r = source_running l call in
        let others = source_build_parts r build v.this (i + 1) types c left in
        does_next l (Some k) gives b v c n 0 d (build i int_type) (λ u. until_complete r c (destroy r int_type (part i v.this)) others) (lowered i int_type)
        (build_parts l k lowered (i + 1) types ys d) (builds i int_type (first_there i int_type types there))
        (λ u.
        does_same l (Some k) gives b v c n 0 d others (until_complete r c (destroy r int_type (part i v.this)) others) (build_parts l k lowered (i + 1) types ys d)
        (λ w. int_complete r c (part i v.this) (others w)) (build_from types (i + 1) d lt (rest_there i int_type types there)))
    build_from (class_type j ∷ types) i d lt there =
        let r = source_running l call in
        let others = source_build_parts r build v.this (i + 1) types c left in
        does_next l (Some k) gives b v c n 0 d (build i (class_type j)) (λ u. until_complete r c (destroy r (class_type j) (part i v.this)) others) (lowered i (class_type j)) _
        (builds i (class_type j) (first_there i (class_type j) types there))
        (λ u.
        same.completes v c n d i j others (build_parts l k lowered (i + 1) types ys (d + 2)) lt (first_there i (class_type j) types there)
        (build_from types (i + 1) (d + 2) (omega arith) (rest_there i (class_type j) types there)))

  module _ (body : SourceAction SourceFlow) (ys : ℕ → List Region) (rest : (e : ℕ) → 0 < e → DoesAlike l (Some k) gives b v c n 0 e body (ys e)) where
    destroy_from : (types : List ObjectType) (i d : ℕ) → 0 < d → StandFrom i types
        → DoesAlike l (Some k) gives b v c n 0 d (source_destroy_parts (source_running l call) v.this i types c body) (destroy_parts l k i types ys d)
    destroy_from [] i d lt there = rest d lt
    destroy_from (int_type ∷ types) i d lt there =
        let r = source_running l call in
        let others = source_destroy_parts r v.this (i + 1) types c body in
        does_same l (Some k) gives b v c n 0 d others (scope r c (destroy r int_type (part i v.this)) others) (destroy_parts l k (i + 1) types ys d)
        (λ w. int_scope r c (part i v.this) (others w)) (destroy_from types (i + 1) d lt (rest_there i int_type types there))
    destroy_from (class_type j ∷ types) i d lt there =
        let r = source_running l call in
        same.scopes v c n d i j (source_destroy_parts r v.this (i + 1) types c body) (destroy_parts l k (i + 1) types ys (d + 2)) lt (first_there i (class_type j) types there)
        (destroy_from types (i + 1) (d + 2) (omega arith) (rest_there i (class_type j) types there))

  all_there : StandFrom 0 (parts_of l.program k)
  all_there j t is = let none : j ≡ 0 + j = omega arith in subst (λ m. slice_get (parts_of l.program k) m ≡ Some t) none is

pub parts_build_alike : PartsBuildAlike
parts_build_alike l k gives call b v c same n d lt build lowered builds left ys rest =
    build_from l k gives call b v c same n build lowered builds left ys rest (parts_of l.program k) 0 d lt (all_there l k gives call b v c same n)

pub parts_destroy_alike : PartsDestroyAlike
parts_destroy_alike l k gives call b v c same n d lt body ys rest =
    destroy_from l k gives call b v c same n body ys rest (parts_of l.program k) 0 d lt (all_there l k gives call b v c same n)
