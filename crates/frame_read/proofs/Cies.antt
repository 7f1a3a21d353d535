-- One step through the CIEs.
use Rattle.std.proofs.Common.{◌≡◌, List, [], ◌∷◌, ◌++◌, Some, None, refl, ap, sym, ◌∙◌, append_assoc, append-nil, length, arith}
use Rattle.std.specs.List.{cons_option}
use Rattle.std.proofs.lemmas.List.{map-append}
use Rattle.eh_bytes.specs.Memory.{Part}
use Rattle.table_forms.specs.Spans.{Span, distance_at}
use Rattle.table_forms.specs.Parts.{cie_of, cies_of}
use Rattle.frame_read.specs.SeenPart.{entry_seen, entries_seen}
use Rattle.frame_read.specs.declared.entry.CieEntry.{CieEntry}

pub cies_some : (part : Part) (entries new : List CieEntry) (e : CieEntry) (s : Span) (rest : List Span) → new ≡ entries ++ e ∷ [] →
    cie_of part s (distance_at part s) ≡ Some (entry_seen part e) →
    entries_seen part new ++ cies_of part rest ≡ entries_seen part entries ++ cies_of part (s ∷ rest)
unfolding cies_of
cies_some part entries new e s rest grown here =
    ap (λ xs. entries_seen part xs ++ cies_of part rest) grown ∙
    ap (λ xs. xs ++ cies_of part rest) (map-append (entry_seen part) entries (e ∷ [])) ∙
    append_assoc (entries_seen part entries) (entry_seen part e ∷ []) (cies_of part rest) ∙
    ap (λ o. entries_seen part entries ++ cons_option o (cies_of part rest)) (sym here)

pub cies_none : (part : Part) (entries : List CieEntry) (s : Span) (rest : List Span) → cie_of part s (distance_at part s) ≡ None →
    entries_seen part entries ++ cies_of part rest ≡ entries_seen part entries ++ cies_of part (s ∷ rest)
unfolding cies_of
cies_none part entries s rest here = ap (λ o. entries_seen part entries ++ cons_option o (cies_of part rest)) (sym here)

pub cies_end : (part : Part) (entries : List CieEntry) → entries_seen part entries ≡ entries_seen part entries ++ cies_of part []
unfolding cies_of
cies_end part entries = sym (append-nil (entries_seen part entries))

pub empty : {A : Type 0} (xs : List A) → length xs ≡ 0 → xs ≡ []
empty [] e = refl
empty (x ∷ xs) e = absurd (omega (arith, e))
