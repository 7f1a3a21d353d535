-- The tokens and the types of a checked program.
use Rattle.std.proofs.Common.{◌≡◌, ℕ, ◌+◌, ◌<◌, ◌≤◌, ◌&&◌, true, List, [], ◌∷◌, map, length, Option, Some, None, refl, sym, ap, subst, arith}
use Rattle.std.proofs.lemmas.Bool.{and_parts}
use Rattle.std.proofs.lemmas.Bool.Decides.{nat_tests}
use Rattle.std.proofs.lemmas.List.{length-map}
use Rattle.std.specs.List.{AllByRecursion}
use Rattle.std.specs.Prelude.{nat_lt}
use Rattle.cxx_ast.specs.Checked.{checked, IsChecked}
use Rattle.cxx_ast.specs.Plain.{Checked, Program}
use Rattle.region_forms.specs.Form.{TypeRow}
use Rattle.region_forms.specs.Numbering.{type_rows}
use Rattle.region_forms.specs.WellFormed.{rows_test}
use Rattle.machine_forms.specs.Emitted.{listed_type}
use Rattle.image_forms.specs.Linkable.{BaseIsThere}
use Rattle.source_bounds.specs.Laws.{TokensAreFew, BasesAreThere, BadExceptionIsThere}
use Rattle.cxx_ast.specs.declared.standard.Std.{Std}

tokens_kept : (std : Std) (p : Program) → (checked std p).program.tokens ≡ p.tokens
unfolding checked
tokens_kept std p = refl

pub tokens_are_few : TokensAreFew
tokens_are_few p h =
    let same : p.program.tokens ≡ (checked h.std h.program).program.tokens = ap (λ q. q.program.tokens) h.resolved in
    omega (arith, same, tokens_kept h.std h.program, h.tree.tokens_counted, h.lexed.few)

-- rows whose bases stand before them
bases_within : (rows : List TypeRow) (n all : ℕ) → rows_test n rows ≡ true → n + length rows ≤ all →
    AllByRecursion (λ t. BaseIsThere all t.base) (map listed_type rows)
bases_within [] n all h k = tt
bases_within (x ∷ rows) n all h k = go x.base h (λ e. bases_within rows (n + 1) all e (omega (arith, k)))
  where
    is_below : (b : ℕ) → nat_lt b n ≡ true → b < n
    is_below b e = grind (arith, nat_tests, e)

    go : (base : Option ℕ) → elim base [ None ↦ rows_test (n + 1) rows | Some b ↦ nat_lt b n && rows_test (n + 1) rows ] ≡ true →
        (rows_test (n + 1) rows ≡ true → AllByRecursion (λ t. BaseIsThere all t.base) (map listed_type rows)) →
        BaseIsThere all base × AllByRecursion (λ t. BaseIsThere all t.base) (map listed_type rows)
    go None e rest = (tt, rest e)
    go (Some b) e rest =
        let parts = and_parts (nat_lt b n) (rows_test (n + 1) rows) e in
        (omega (arith, is_below b parts.0, k), rest parts.1)

pub bases_are_there : ((p : Checked) → IsChecked p → rows_test 0 (type_rows p) ≡ true) → BasesAreThere
bases_are_there before p h =
    bases_within (type_rows p) 0 (length (map listed_type (type_rows p))) (before p h) (omega (arith, length-map (type_rows p) listed_type))

some_class : (std : Std) (p : Program) → 1 < length (map listed_type (type_rows (checked std p)))
unfolding checked
some_class std p = omega arith

pub bad_exception_is_there : BadExceptionIsThere
bad_exception_is_there p h = subst (λ q. 1 < length (map listed_type (type_rows q))) (sym h.resolved) (some_class h.std h.program)
