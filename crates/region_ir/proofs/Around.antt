-- Parts that are built or destroyed around what is left.
use Rattle.std.proofs.Common.{◌≡◌, ◌∙◌, ◌+◌, ℕ, List, [], ◌∷◌, ◌++◌, map, ap, sym}
use Rattle.std.proofs.lemmas.List.{map_push}
use Rattle.meaning_forms.specs.Class.{ObjectType, int_type, class_type}
use Rattle.meaning_forms.specs.Running.{destructor}
use Rattle.region_forms.specs.Form.{Region, Cleanup, destroy_part, destroy_scope, protect, in_order}
use Rattle.region_forms.specs.Numbering.{number_of}
use Rattle.region_forms.specs.LowerExpression.{Lowering}
use Rattle.region_forms.specs.LowerProgram.{build_parts, destroy_parts, part_place}
use Rattle.region_ir.specs.declared.region.Region.{Region as RegionTree}
use Rattle.region_ir.specs.View.{region_of}
use Rattle.region_ir.proofs.Behind.{put_behind, both_behind}

abbrev Left : Type 0
Left = ℕ → List Region

-- the next part is an int
pub int_built : (l : Lowering) (k : ℕ) (build : ℕ → ObjectType → List Region) (i j d : ℕ) (types others : List ObjectType) (left : Left) (old new last : List Region) →
    types ≡ int_type ∷ others → j ≡ i + 1 → new ≡ old ++ build i int_type → last ≡ new ++ build_parts l k build j others left d →
    last ≡ old ++ build_parts l k build i types left d
int_built l k build i j d types others left old new last e next built more =
    both_behind old new last (build i int_type) (build_parts l k build (i + 1) others left d) built (more ∙ ap (λ m. new ++ build_parts l k build m others left d) next)
    ∙ ap (λ ts. old ++ build_parts l k build i ts left d) (sym e)

-- the cleanup of a part behind which the others are built
abbrev part_cleanup : Lowering → ℕ → ℕ → ℕ → Cleanup
part_cleanup l k i c = destroy_part (part_place l.layout l.program k 0 i) (number_of l.program (destructor c))

-- the next part is an object
pub object_built : (l : Lowering) (k c : ℕ) (build : ℕ → ObjectType → List Region) (i j d b : ℕ) (types others : List ObjectType) (left : Left) (old : List Region)
    (now more : List RegionTree) (x : RegionTree) → types ≡ class_type c ∷ others → j ≡ i + 1 → b ≡ d + 2 → map region_of now ≡ old ++ build i (class_type c) →
    map region_of more ≡ build_parts l k build j others left b →
    region_of x ≡ protect (in_order (map region_of more)) (destroy_part (part_place l.layout l.program k 0 i) (number_of l.program (destructor c))) →
    map region_of (now ++ x ∷ []) ≡ old ++ build_parts l k build i types left d
object_built l k c build i j d b types others left old now more x e next deep built inner made =
    let r = protect (in_order (build_parts l k build (i + 1) others left (d + 2))) (part_cleanup l k i c) in
    put_behind old (build i (class_type c)) r now x built
    (made ∙ ap (λ rs. protect (in_order rs) (part_cleanup l k i c))
    (inner ∙ (ap (λ m. build_parts l k build m others left b) next ∙ ap (λ m. build_parts l k build (i + 1) others left m) deep)))
    ∙ ap (λ ts. old ++ build_parts l k build i ts left d) (sym e)

-- an int needs no destruction
pub int_destroyed : (l : Lowering) (k i j d : ℕ) (types others : List ObjectType) (body : Left) (old last : List Region) → types ≡ int_type ∷ others → j ≡ i + 1 →
    last ≡ old ++ destroy_parts l k j others body d → last ≡ old ++ destroy_parts l k i types body d
int_destroyed l k i j d types others body old last e next more =
    more ∙ (ap (λ m. old ++ destroy_parts l k m others body d) next ∙ ap (λ ts. old ++ destroy_parts l k i ts body d) (sym e))

abbrev scope_cleanup : Lowering → ℕ → ℕ → ℕ → Cleanup
scope_cleanup l k i c = destroy_scope (part_place l.layout l.program k 0 i) (number_of l.program (destructor c))

-- an object is destroyed behind the others
pub object_destroyed : (l : Lowering) (k c i j d b : ℕ) (types others : List ObjectType) (body : Left) (now more : List RegionTree) (x : RegionTree) →
    types ≡ class_type c ∷ others → j ≡ i + 1 → b ≡ d + 2 → map region_of more ≡ destroy_parts l k j others body b →
    region_of x ≡ protect (in_order (map region_of more)) (destroy_scope (part_place l.layout l.program k 0 i) (number_of l.program (destructor c))) →
    map region_of (now ++ x ∷ []) ≡ map region_of now ++ destroy_parts l k i types body d
object_destroyed l k c i j d b types others body now more x e next deep inner made =
    map_push region_of now x
    ∙ (ap (λ y. map region_of now ++ y ∷ [])
    (made ∙ ap (λ rs. protect (in_order rs) (scope_cleanup l k i c))
    (inner ∙ (ap (λ m. destroy_parts l k m others body b) next ∙ ap (λ m. destroy_parts l k (i + 1) others body m) deep)))
    ∙ ap (λ ts. map region_of now ++ destroy_parts l k i ts body d) (sym e))
