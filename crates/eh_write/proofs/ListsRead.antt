-- A list of indices that is written is read as its indices.
use Rattle.std.proofs.Common.{◌≡◌, ◌+◌, ◌<◌, ◌^◌, ℕ, zero, suc, List, [], ◌∷◌, ◌++◌, length, Ok, refl, ap, sym, ◌∙◌, arith, append_assoc}
use Rattle.std.specs.Prelude.{flat_map}
use Rattle.std.specs.List.{AllByRecursion}
use Rattle.eh_bytes.specs.Memory.{Part}
use Rattle.eh_bytes.specs.Field.{at}
use Rattle.eh_bytes.specs.Leb128.{uleb}
use Rattle.eh_bytes.specs.Spelling.{uleb_spelling, uleb_spelling_within}
use Rattle.table_forms.specs.LsdaTypes.{index_at, cut_by, indices_from, indices_within}
use Rattle.eh_write.proofs.Reading.{Stands, next_stands, uleb_stands}

zero_spelled : uleb_spelling 0 ≡ 0 ∷ []
unfolding uleb_spelling uleb_spelling_within
zero_spelled = refl

index_read : (part : Part) (first p k next : ℕ) → at uleb part.bytes p ≡ Ok (k, next) → index_at part first p ≡ Ok (k, next)
index_read part first p k next read = ap (cut_by part first p) read

pub list_read : (part : Part) (first p n : ℕ) (ks : List ℕ) (rest : List ℕ) → AllByRecursion (λ k. (0 < k) × (k < 2 ^ 64)) ks → length ks < n →
    Stands part.bytes p (flat_map uleb_spelling ks) (0 ∷ rest) → indices_within n part first p ≡ record { indices = ks; cut = [] }
unfolding indices_within
list_read part first p zero ks rest fits enough here = absurd (omega (arith, enough))
list_read part first p (suc n) [] rest fits enough here =
    let zero_here : Stands part.bytes p (uleb_spelling 0) rest = here ∙ ap (λ x. x ++ rest) (sym zero_spelled) in
    ap (λ r. indices_from r (indices_within n part first))
    (index_read part first p 0 (p + length (uleb_spelling 0)) (uleb_stands part.bytes p 0 rest (omega arith) zero_here))
list_read part first p (suc n) (zero ∷ ks) rest fits enough here = let some = fits.0.0 in absurd (omega (arith, some))
list_read part first p (suc n) (suc k ∷ ks) rest fits enough here =
    let x = uleb_spelling (suc k) in
    let xs = flat_map uleb_spelling ks in
    let one : Stands part.bytes p x (xs ++ 0 ∷ rest) = here ∙ append_assoc x xs (0 ∷ rest) in
    ap (λ r. indices_from r (indices_within n part first))
    (index_read part first p (suc k) (p + length x) (uleb_stands part.bytes p (suc k) (xs ++ 0 ∷ rest) fits.0.1 one)) ∙
    ap (λ r. record { indices = suc k ∷ r.indices; cut = r.cut })
    (list_read part first (p + length x) n ks rest fits.1 (omega (arith, enough)) (next_stands part.bytes p x (xs ++ 0 ∷ rest) one))
