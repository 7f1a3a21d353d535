-- The first clause that matches decides.
use Rattle.std.proofs.Common.{◌≡◌, ℕ, Bool, true, false, List, [], ◌∷◌, ◌++◌, Option, Some, None, refl, ap, ◌∙◌}
use Rattle.std.specs.Prelude.{ℤ, find, if◌then◌else◌}
use Rattle.region_forms.specs.Form.{TypeRow}
use Rattle.region_forms.specs.Guard.{matches}
use Rattle.linear_forms.specs.Tables.{Sense, clause}
use Rattle.linear_forms.specs.Verdict.{Verdict, target, judged, verdict}
use Rattle.linear_forms.specs.Emission.{Emitting, filters_of}
use Rattle.linear_forms.specs.Means.{AllMean}
use Rattle.linear_forms.specs.Laws.{chosen, HandlersAreChosen}

one_more : (filter : Sense → ℤ) (u : Option ℕ) (found : Option (Option ℕ)) (b : Bool) (v rest : Verdict) → v ≡ chosen filter found rest
    → (if b then target (filter (clause u)) else v) ≡ chosen filter (if b then Some u else found) rest
one_more filter u found true v rest e = refl
one_more filter u found false v rest e = e

first_decides : (rows : List TypeRow) (senses : ℤ → Sense) (em : Emitting) (ts : List (Option ℕ)) (chain : List ℤ) (t : Option ℕ)
    → AllMean senses em.filter ts
    → verdict rows senses (filters_of em ts ++ chain) t ≡ chosen em.filter (find (matches rows t) ts) (verdict rows senses chain t)
first_decides rows senses em [] chain t m = refl
first_decides rows senses em (u ∷ ts) chain t m =
    ap (λ x. judged rows t (em.filter (clause u)) x (verdict rows senses (filters_of em ts ++ chain) t)) m.0 ∙
    one_more em.filter u (find (matches rows t) ts) (matches rows t u) (verdict rows senses (filters_of em ts ++ chain) t)
    (verdict rows senses chain t) (first_decides rows senses em ts chain t m.1)

pub handlers_are_chosen : HandlersAreChosen
handlers_are_chosen = record {
  clauses = first_decides;
  list = λ rows senses n types chain t m. ap (λ x. judged rows (Some t) n x (verdict rows senses chain (Some t))) m;
  foreign = λ rows senses n types chain m. ap (λ x. judged rows None n x (verdict rows senses chain None)) m;
}
