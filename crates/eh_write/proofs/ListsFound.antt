-- The list that a filter names is read as its indices.
use Rattle.std.proofs.Common.{◌≡◌, ◌+◌, ◌-◌, ◌<◌, ◌≤◌, ◌^◌, ◌==◌, ℕ, Bool, true, false, nat_lt, List, [], ◌∷◌, ◌++◌, length, drop, refl, ap, sym, subst, ◌∙◌, arith, append_assoc, if◌then◌else◌}
use Rattle.std.specs.Prelude.{Some, None, flat_map, reverse}
use Rattle.std.specs.List.{AllByRecursion}
use Rattle.std.proofs.lemmas.Bool.Decides.{nat_tests}
use Rattle.std.proofs.lemmas.List.{length-reverse}
use Rattle.eh_bytes.specs.Spelling.{uleb_spelling}
use Rattle.eh_bytes.specs.Memory.{Part}
use Rattle.eh_bytes.specs.Listed.{ListedTable}
use Rattle.table_forms.specs.LsdaTypes.{list_at}
use Rattle.table_forms.specs.WrittenTable.{list_size, list_from}
use Rattle.eh_write.specs.Written.{lists_bytes, entries_from}
use Rattle.eh_write.specs.CanWrite.{TypeIsThere}
use Rattle.eh_write.specs.Fits.{IsWord}
use Rattle.eh_write.proofs.Reading.{Stands, next_stands}
use Rattle.eh_write.proofs.ListsRead.{list_read}
use Rattle.eh_write.proofs.Shape.{IsLaid, entries_place, base_place}
use Rattle.eh_write.proofs.HeadRead.{types_of}
use Rattle.eh_write.proofs.Lengths.{some_uleb, no_more_items, inside, entries_length, base_is}

some_same : {X : Type 0} (x y : X) → Some x ≡ Some y → x ≡ y
some_same x y e = cc

-- what holds of each list holds of one that begins at a byte
pub all_from : (P : List ℕ → Type 0) (lists : List (List ℕ)) (n : ℕ) (l : List ℕ) → AllByRecursion P lists → list_from lists n ≡ Some l → P l
all_from P [] n l holds found = cc
all_from P (m ∷ lists) n l holds found = by_first (n == 0) found (λ k f. all_from P lists k l holds.1 f)
  where
    by_inside : (b : Bool) → (if b then None else list_from lists (n - list_size m)) ≡ Some l → ((k : ℕ) → list_from lists k ≡ Some l → P l) → P l
    by_inside true f later = absurd cc
    by_inside false f later = later (n - list_size m) f

    by_first : (b : Bool) → (if b then Some m else if nat_lt n (list_size m) then None else list_from lists (n - list_size m)) ≡ Some l →
        ((k : ℕ) → list_from lists k ≡ Some l → P l) → P l
    by_first true f later = subst P (some_same m l f) holds.0
    by_first false f later = by_inside (nat_lt n (list_size m)) f later

-- the list stands there, with its 0
pub list_stands : (bytes : List ℕ) (p : ℕ) (lists : List (List ℕ)) (rest : List ℕ) (n : ℕ) (l : List ℕ) → Stands bytes p (lists_bytes lists) rest →
    list_from lists n ≡ Some l → (more : List ℕ) × Stands bytes (p + n) (flat_map uleb_spelling l) (0 ∷ more)
list_stands bytes p [] rest n l here found = absurd cc
list_stands bytes p (m ∷ lists) rest n l here found =
    let x = flat_map uleb_spelling m in
    let xs = lists_bytes lists in
    let first : Stands bytes p x (0 ∷ (xs ++ rest)) = here ∙ append_assoc (x ++ 0 ∷ []) xs rest ∙ append_assoc x (0 ∷ []) (xs ++ rest) in
    let zero_here = next_stands bytes p x (0 ∷ (xs ++ rest)) first in
    let there : p + list_size m ≡ p + length x + 1 = omega arith in
    let second : Stands bytes (p + list_size m) xs rest = ap (λ q. drop q bytes) there ∙ next_stands bytes (p + length x) (0 ∷ []) (xs ++ rest) zero_here in
    by_first (n == 0) refl found first (λ k f. list_stands bytes (p + list_size m) lists rest k l second f)
  where
    Later : Type 0
    Later = (k : ℕ) → list_from lists k ≡ Some l → (more : List ℕ) × Stands bytes (p + list_size m + k) (flat_map uleb_spelling l) (0 ∷ more)

    Found : Type 0
    Found = (more : List ℕ) × Stands bytes (p + n) (flat_map uleb_spelling l) (0 ∷ more)

    by_inside : (b : Bool) → nat_lt n (list_size m) ≡ b → (if b then None else list_from lists (n - list_size m)) ≡ Some l → Later → Found
    by_inside true e f later = absurd cc
    by_inside false e f later =
        let at = later (n - list_size m) f in
        let le : list_size m ≤ n = grind (arith, nat_tests, e) in
        let there : p + n ≡ p + list_size m + (n - list_size m) = omega (arith, le) in
        (at.0, ap (λ q. drop q bytes) there ∙ at.1)

    by_first : (b : Bool) → (n == 0) ≡ b → (if b then Some m else if nat_lt n (list_size m) then None else list_from lists (n - list_size m)) ≡ Some l →
        Stands bytes p (flat_map uleb_spelling m) (0 ∷ (lists_bytes lists ++ rest)) → Later → Found
    by_first true e f first later =
        let there : p + n ≡ p = grind (arith, nat_tests, e) in
        (lists_bytes lists ++ rest, ap (λ q. drop q bytes) there ∙ first ∙ ap (λ k. flat_map uleb_spelling k ++ 0 ∷ (lists_bytes lists ++ rest)) (some_same m l f))
    by_first false e f first later = by_inside (nat_lt n (list_size m)) refl f later

-- an index of a list counts from 1 and is a word
pub index_fits : (list : ListedTable) (ks : List ℕ) → AllByRecursion (TypeIsThere list) ks → AllByRecursion IsWord ks → AllByRecursion (λ k. (0 < k) × (k < 2 ^ 64)) ks
index_fits list [] there words = tt
index_fits list (k ∷ ks) there words = ((there.0.0, words.0), index_fits list ks there.1 words.1)

pub list_found : (list : ListedTable) (entries_at : ℕ) (part : Part) (p : ℕ) (rest : List ℕ) (n : ℕ) (l : List ℕ) → IsLaid list entries_at part.bytes p rest →
    AllByRecursion (AllByRecursion (TypeIsThere list)) list.lists → AllByRecursion (AllByRecursion IsWord) list.lists → list_from list.lists n ≡ Some l →
    list_at part (types_of list p) n ≡ record { indices = l; cut = [] }
list_found list entries_at part p rest n l laid there words found =
    let base : entries_place list p + length (entries_from entries_at (reverse list.types)) ≡ base_place list p =
    omega (arith, base_is list p, entries_length entries_at (reverse list.types), length-reverse list.types) in
    let lists : Stands part.bytes (base_place list p) (lists_bytes list.lists) rest = ap (λ q. drop q part.bytes) (sym base) ∙ laid.lists in
    let stands = list_stands part.bytes (base_place list p) list.lists rest n l lists found in
    let fits = index_fits list l (all_from (AllByRecursion (TypeIsThere list)) list.lists n l there found) (all_from (AllByRecursion IsWord) list.lists n l words found) in
    let enough : length l < 1 + length part.bytes =
    omega (arith, no_more_items uleb_spelling some_uleb l, inside part.bytes (base_place list p + n) (flat_map uleb_spelling l) (0 ∷ stands.0) stands.1) in
    list_read part (base_place list p + n) (base_place list p + n) (1 + length part.bytes) l stands.0 fits enough stands.1
