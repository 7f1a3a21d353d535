-- A type entry matches an exception exactly where its clause does.
use Rattle.std.proofs.Common.{◌≡◌, ◌∙◌, refl, ap, arith, ℕ, zero, suc, ◌-◌, ◌*◌, ◌<◌, ◌≤◌, ◌==◌, ◌||◌, Bool, true, false, List, [], ◌∷◌, map, length, Option, Some, None, if◌then◌else◌}
use Rattle.std.specs.Prelude.{slice_get}
use Rattle.std.specs.List.{AllByRecursion, list_any}
use Rattle.std.proofs.lemmas.Bool.Decides.{nat_tests}
use Rattle.table_forms.specs.Verdict as tables
use Rattle.region_forms.specs.Form.{TypeRow}
use Rattle.region_forms.specs.Guard.{base_row, in_chain, matches}
use Rattle.image_forms.specs.Linkable.{BaseIsThere}
use Rattle.image_forms.specs.Placed.{record_at, type_at}
use Rattle.table_verdicts.specs.Types.{types_within, with_bases, thrown_as}
use Rattle.table_verdicts.specs.Asked.{TypesAreAsked}

same_test : (a b c d : ℕ) → (a ≡ b → c ≡ d) → (c ≡ d → a ≡ b) → (a == b) ≡ (c == d)
same_test a b c d there back = by (a == b) (c == d) refl refl
  where
    by : (x y : Bool) → (a == b) ≡ x → (c == d) ≡ y → x ≡ y
    by true true e f = refl
    by false false e f = refl
    by true false e f = let g : a ≡ b = grind (arith, nat_tests, e) in let h : c ≡ d = there g in absurd (grind (arith, nat_tests, f, h))
    by false true e f = let g : c ≡ d = grind (arith, nat_tests, f) in let h : a ≡ b = back g in absurd (grind (arith, nat_tests, e, h))

-- no two types have their records at one address
record_same : (end rows t u : ℕ) → 24 * rows < end → t < rows → u < rows → (record_at end t == record_at end u) ≡ (t == u)
record_same end rows t u room there inside =
    same_test (record_at end t) (record_at end u) t u (λ e. omega (arith, e, room, there, inside)) (λ e. ap (record_at end) e)

pub base_is_there : (rows : ℕ) (xs : List TypeRow) (t : ℕ) → AllByRecursion (λ x. BaseIsThere rows x.base) xs → BaseIsThere rows (base_row (slice_get xs t))
base_is_there rows [] t all = tt
base_is_there rows (x ∷ xs) zero all = all.0
base_is_there rows (x ∷ xs) (suc t) all = base_is_there rows xs t all.1

chain_matches : (n end : ℕ) (rows : List TypeRow) (t : Option ℕ) (u : ℕ) → TypesAreAsked end rows → BaseIsThere (length rows) t → u < length rows →
    list_any (λ v. v == record_at end u) (map (record_at end) (types_within n rows t)) ≡ in_chain n rows t u
chain_matches zero end rows t u asked there inside = refl
chain_matches (suc n) end rows None u asked there inside = refl
chain_matches (suc n) end rows (Some t) u asked there inside =
    ap (λ b. b || list_any (λ v. v == record_at end u) (map (record_at end) (types_within n rows (base_row (slice_get rows t))))) (record_same end (length rows) t u asked.room there inside)
    ∙ ap (λ b. (t == u) || b) (chain_matches n end rows (base_row (slice_get rows t)) u asked (base_is_there (length rows) rows t asked.bases) inside)

-- the type of an entry, if it is not that of `catch (...)`
abbrev pub entry_of : ℕ → Option ℕ
entry_of zero = None
entry_of (suc t) = Some t

type_is : (end u : ℕ) → type_at end (suc u) ≡ record_at end u
type_is end u =
    let some : (suc u == 0) ≡ false = grind (arith, nat_tests) in
    ap (λ b. if b then 0 else end - 24 * suc u) some ∙ omega arith

some_record : (end rows u : ℕ) → 24 * rows < end → u < rows → (record_at end u == 0) ≡ false
some_record end rows u room inside =
    let some : 0 < record_at end u = omega (arith, room, inside) in
    grind (arith, nat_tests, some)

pub entry_matches : (end : ℕ) (rows : List TypeRow) (t : Option ℕ) (x : ℕ) → TypesAreAsked end rows → BaseIsThere (length rows) t → x ≤ length rows →
    tables.matches (thrown_as end rows t) (type_at end x) ≡ matches rows t (entry_of x)
entry_matches end rows None zero asked there inside = refl
entry_matches end rows (Some t) zero asked there inside = refl
entry_matches end rows None (suc u) asked there inside =
    ap (λ n. n == 0) (type_is end u) ∙ some_record end (length rows) u asked.room (omega (arith, inside))
entry_matches end rows (Some t) (suc u) asked there inside =
    ap (λ n. n == 0 || list_any (λ v. v == n) (map (record_at end) (with_bases rows t))) (type_is end u)
    ∙ (ap (λ b. b || list_any (λ v. v == record_at end u) (map (record_at end) (with_bases rows t))) (some_record end (length rows) u asked.room (omega (arith, inside)))
    ∙ chain_matches (suc (length rows)) end rows (Some t) u asked there (omega (arith, inside)))
