-- Regions that are put behind others.
use Rattle.std.proofs.Common.{◌≡◌, ◌∙◌, ℕ, false, List, [], ◌∷◌, ◌++◌, map, ap, append_assoc}
use Rattle.std.proofs.lemmas.List.{map_push}
use Rattle.cxx_ast.specs.Plain.{Expression}
use Rattle.region_forms.specs.Form.{Region}
use Rattle.region_forms.specs.LowerExpression.{Lowering, has_call, lower}
use Rattle.region_ir.specs.declared.region.Region.{Region as RegionTree}
use Rattle.region_ir.specs.View.{region_of}
use Rattle.region_ir.proofs.Quiet.{quiet}

-- a region behind regions that were put behind others
pub put_behind : (others more : List Region) (r : Region) (now : List RegionTree) (x : RegionTree) → map region_of now ≡ others ++ more → region_of x ≡ r →
    map region_of (now ++ x ∷ []) ≡ others ++ (more ++ r ∷ [])
put_behind others more r now x e h =
    map_push region_of now x ∙ (ap (λ xs. xs ++ region_of x ∷ []) e ∙ (append_assoc others more (region_of x ∷ []) ∙
    ap (λ y. others ++ (more ++ y ∷ [])) h))

-- regions, and more behind these
pub both_behind : (old new last a b : List Region) → new ≡ old ++ a → last ≡ new ++ b → last ≡ old ++ (a ++ b)
both_behind old new last a b e f = f ∙ (ap (λ xs. xs ++ b) e ∙ append_assoc old a b)

-- one region is put behind
pub one_behind : (old now : List RegionTree) (x : RegionTree) (r : Region) → now ≡ old ++ x ∷ [] → region_of x ≡ r → map region_of now ≡ map region_of old ++ r ∷ []
one_behind old now x r e h = ap (map region_of) e ∙ (map_push region_of old x ∙ ap (λ y. map region_of old ++ y ∷ []) h)

-- a region is put behind, as a list of regions
pub listed_behind : (old now : List RegionTree) (x : RegionTree) (rs : List Region) → now ≡ old ++ x ∷ [] → region_of x ∷ [] ≡ rs → map region_of now ≡ map region_of old ++ rs
listed_behind old now x rs e h = ap (map region_of) e ∙ (map_push region_of old x ∙ ap (λ ys. map region_of old ++ ys) h)

-- three regions are put behind
pub three_behind : (old one two now : List RegionTree) (x y z : RegionTree) (r s t : Region) → one ≡ old ++ x ∷ [] → two ≡ one ++ y ∷ [] → now ≡ two ++ z ∷ [] →
    region_of x ≡ r → region_of y ≡ s → region_of z ≡ t → map region_of now ≡ map region_of old ++ r ∷ s ∷ t ∷ []
three_behind old one two now x y z r s t e f g h i j =
    one_behind two now z t g j ∙ (ap (λ rs. rs ++ t ∷ []) (one_behind one two y s f i ∙ ap (λ rs. rs ++ s ∷ []) (one_behind old one x r e h))
    ∙ (ap (λ rs. rs ++ t ∷ []) (append_assoc (map region_of old) (r ∷ []) (s ∷ [])) ∙ append_assoc (map region_of old) (r ∷ s ∷ []) (t ∷ [])))

-- a region is put behind what comes before an expression without calls, which is nothing
pub quiet_behind : (l : Lowering) (e : Expression) (t : ℕ) (old : List Region) (now : List RegionTree) (x : RegionTree) (r : Region) → has_call e ≡ false →
    map region_of now ≡ old ++ (lower l e t).before → region_of x ≡ r → map region_of (now ++ x ∷ []) ≡ old ++ r ∷ []
quiet_behind l e t old now x r q h g =
    put_behind old (lower l e t).before r now x h g ∙ ap (λ rs. old ++ (rs ++ r ∷ [])) (quiet l e t q)
