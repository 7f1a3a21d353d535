-- What destructors allow together: more than may be taken over stays more, whatever else is allowed.
use Rattle.std.proofs.Common.{◌≡◌, ◌≤◌, ◌<◌, Bool, true, false, List, [], ◌∷◌, ◌++◌, length, Some, None, refl, sym, subst, arith, if◌then◌else◌}
use Rattle.std.specs.Prelude.{nat_lt}
use Rattle.std.proofs.lemmas.Bool.Decides.{nat_tests}
use Rattle.std.proofs.lemmas.List.{length-append}
use Rattle.cxx_ast.specs.declared.types.Ty.{Ty}
use Rattle.cxx_ast.specs.Limits.{most_taken}
use Rattle.cxx_ast.specs.Settled.{Allowed, allowed_together, lists, taken, with_types}
use Rattle.cxx_check.specs.Together.{together}

grows_by : (before : List Ty) (t : Ty) (types : List Ty) (b : Bool) → length before ≤ length (with_types before types) →
    length (before ++ t ∷ []) ≤ length (with_types (before ++ t ∷ []) types) → length before ≤ length (with_types (if b then before else before ++ t ∷ []) types)
grows_by before t types true h k = h
grows_by before t types false h k = omega (arith, k, length-append before (t ∷ []))

grows : (before types : List Ty) → length before ≤ length (with_types before types)
grows before [] = omega arith
grows before (t ∷ types) = grows_by before t types (lists before t) (grows before types) (grows (before ++ t ∷ []) types)

taken_long : (types : List Ty) → most_taken < length types → taken (Some types) ≡ None
taken_long [] h = absurd (omega (arith, h))
taken_long (t ∷ types) h = let long : nat_lt most_taken (length (t ∷ types)) ≡ true = grind (arith, nat_tests) in rw long refl

all_taken : (before : List Ty) (rest : List Allowed) → most_taken < length before → taken (allowed_together before rest) ≡ None
all_taken before [] h = taken_long before h
all_taken before (None ∷ rest) h = refl
all_taken before (Some types ∷ rest) h = all_taken (with_types before types) rest (omega (arith, h, grows before types))

-- one type more than may be taken over
pub too_many : (types : List Ty) (t : Ty) (others all : List Ty) (rest : List Allowed) → lists types t ≡ false → most_taken ≤ length types → with_types types (t ∷ others) ≡ all →
    taken (together None rest) ≡ taken (allowed_together all rest)
too_many types t others all rest absent many e =
    let more : most_taken < length (with_types (types ++ t ∷ []) others) = omega (arith, many, length-append types (t ∷ []), grows (types ++ t ∷ []) others) in
    let is : with_types (types ++ t ∷ []) others ≡ all = subst (λ b. with_types (if b then types else types ++ t ∷ []) others ≡ all) absent e in
    sym (all_taken all rest (subst (λ x. most_taken < length x) is more))
