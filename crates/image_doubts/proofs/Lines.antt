-- Lines that are put one behind the other.
use Rattle.std.proofs.Common.{◌≡◌, ◌++◌, ◌∙◌, ℕ, List, ◌∷◌, ap, sym, append_assoc}
use Rattle.std.specs.Prelude.{flat_map}
use Rattle.eh_bytes.specs.declared.frames.Region64.{Region64}
use Rattle.eh_bytes.specs.Memory.{Memory}
use Rattle.table_forms.specs.Keys.{keys}
use Rattle.table_forms.specs.Lsda.{Table}
use Rattle.lsda_read.specs.Names.{types_named}
use Rattle.lsda_read.specs.WholeTable.{IsWhole, value_of}
use Rattle.lsda_read.proofs.Whole.{under}
use Rattle.image_doubts.specs.Doubts.{nowhere_line}

-- the types of a table under their numbers
pub types_put : (memory : Memory) (region : Region64) (t : Table) (types out new : List ℕ) → IsWhole t → types ≡ keys (types_named t) →
    new ≡ out ++ flat_map (λ i. nowhere_line memory region (i, value_of t i)) types → new ≡ out ++ flat_map (nowhere_line memory region) t.types
types_put memory region t types out new whole are put =
    put ∙ ap (λ ns. out ++ flat_map (λ i. nowhere_line memory region (i, value_of t i)) ns) are ∙
    ap (λ o. out ++ o) (sym (ap (flat_map (nowhere_line memory region)) whole.types ∙ under (nowhere_line memory region) (value_of t) (keys (types_named t))))

-- one type further
pub type_on : (memory : Memory) (region : Region64) (t : Table) (all out new : List ℕ) (i value : ℕ) (is : List ℕ) → all ≡ out ++ flat_map (λ n. nowhere_line memory region (n, value_of t n)) (i ∷ is) →
    value ≡ value_of t i → new ≡ out ++ nowhere_line memory region (i, value) → all ≡ new ++ flat_map (λ n. nowhere_line memory region (n, value_of t n)) is
type_on memory region t all out new i value is so_far same put =
    so_far ∙ sym (append_assoc out (nowhere_line memory region (i, value_of t i)) (flat_map (λ n. nowhere_line memory region (n, value_of t n)) is)) ∙
    ap (λ o. o ++ flat_map (λ n. nowhere_line memory region (n, value_of t n)) is) (sym (put ∙ ap (λ v. out ++ nowhere_line memory region (i, v)) same))

pub two : (out a b x y : List ℕ) → x ≡ out ++ a → y ≡ x ++ b → y ≡ out ++ (a ++ b)
two out a b x y p q = q ∙ ap (λ o. o ++ b) p ∙ append_assoc out a b

pub three : (out a b d x y z : List ℕ) → x ≡ out ++ a → y ≡ x ++ b → z ≡ y ++ d → z ≡ out ++ (a ++ b ++ d)
three out a b d x y z p q r = two out (a ++ b) d y z (two out a b x y p q) r

pub four : (out a b d e w x y z : List ℕ) → w ≡ out ++ a → x ≡ w ++ b → y ≡ x ++ d → z ≡ y ++ e → z ≡ out ++ (a ++ b ++ d ++ e)
four out a b d e w x y z p q r s =
    two out (a ++ b ++ d) e y z (two out (a ++ b) d x y (two out a b w x p q) r) s
