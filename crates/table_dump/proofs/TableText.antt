-- The text of a table, under its numbers.
use Rattle.std.proofs.Common.{◌≡◌, ℕ, List, ◌++◌, refl, ap, ◌∙◌, append_assoc}
use Rattle.std.specs.Prelude.{flat_map}
use Rattle.table_forms.specs.Keys.{keys}
use Rattle.table_forms.specs.Lsda.{Table}
use Rattle.lsda_read.specs.Names.{actions_named, types_named, lists_named}
use Rattle.lsda_read.specs.WholeTable.{filters_at, value_of, indices_at, IsWhole}
use Rattle.lsda_read.proofs.Whole.{under}
use Rattle.table_dump.specs.Tables.{site_line, action_line, type_line, list_line, table_text}

whole_text : (t : Table) → IsWhole t →
    flat_map site_line t.sites ++ flat_map (λ a. action_line (a, filters_at t a)) (keys (actions_named t)) ++
    flat_map (λ i. type_line (i, value_of t i)) (keys (types_named t)) ++ flat_map (λ j. list_line (j, indices_at t j)) (keys (lists_named t)) ≡ table_text t
whole_text t w =
    let a = ap (flat_map action_line) w.actions ∙ under action_line (filters_at t) (keys (actions_named t)) in
    let b = ap (flat_map type_line) w.types ∙ under type_line (value_of t) (keys (types_named t)) in
    let d = ap (flat_map list_line) w.lists ∙ under list_line (indices_at t) (keys (lists_named t)) in
    rw (a, b, d) refl

pub table_put : (t : Table) (out a b d e : List ℕ) (actions types lists : List ℕ) → IsWhole t → actions ≡ keys (actions_named t) → types ≡ keys (types_named t) → lists ≡ keys (lists_named t) →
    a ≡ out ++ flat_map site_line t.sites → b ≡ a ++ flat_map (λ n. action_line (n, filters_at t n)) actions →
    d ≡ b ++ flat_map (λ n. type_line (n, value_of t n)) types → e ≡ d ++ flat_map (λ n. list_line (n, indices_at t n)) lists → e ≡ out ++ table_text t
table_put t out a b d e actions types lists w x y z p q r s =
    let S = flat_map site_line t.sites in
    let A = flat_map (λ n. action_line (n, filters_at t n)) actions in
    let T = flat_map (λ n. type_line (n, value_of t n)) types in
    let L = flat_map (λ n. list_line (n, indices_at t n)) lists in
    s ∙ ap (λ o. o ++ L) (r ∙ ap (λ o. o ++ T) (q ∙ ap (λ o. o ++ A) p)) ∙
    (ap (λ o. (o ++ T) ++ L) (append_assoc out S A) ∙ ap (λ o. o ++ L) (append_assoc out (S ++ A) T) ∙ append_assoc out ((S ++ A) ++ T) L) ∙
    ap (λ ns. out ++ (((S ++ flat_map (λ n. action_line (n, filters_at t n)) ns) ++ T) ++ L)) x ∙
    ap (λ ns. out ++ (((S ++ flat_map (λ n. action_line (n, filters_at t n)) (keys (actions_named t))) ++ flat_map (λ n. type_line (n, value_of t n)) ns) ++ L)) y ∙
    ap (λ ns. out ++ (((S ++ flat_map (λ n. action_line (n, filters_at t n)) (keys (actions_named t))) ++ flat_map (λ n. type_line (n, value_of t n)) (keys (types_named t))) ++
    flat_map (λ n. list_line (n, indices_at t n)) ns)) z ∙ ap (λ o. out ++ o) (whole_text t w)
