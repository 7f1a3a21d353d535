-- Tables and frames of functions that are put behind others.
use Rattle.std.proofs.Common.{◌≡◌, ℕ, ◌+◌, List, [], ◌∷◌, ◌++◌, length, length-append, sym, ◌∙◌, ap, arith}
use Rattle.std.proofs.lemmas.List.{append_assoc}
use Rattle.image_forms.specs.Placed.{PlacedFunction}
use Rattle.image_forms.specs.Tables.{placed_table, tables_bytes, linked_frame, linked_frames}

-- behind the first tables
pub behind : (end a : ℕ) (f : PlacedFunction) (fs : List PlacedFunction) →
    a + length (placed_table end a f) + length (tables_bytes end (a + length (placed_table end a f)) fs) ≡ a + length (tables_bytes end a (f ∷ fs))
behind end a f fs = omega (arith, length-append (placed_table end a f) (tables_bytes end (a + length (placed_table end a f)) fs))

pub tables_joined : (end a : ℕ) (fs gs : List PlacedFunction) →
    tables_bytes end a (fs ++ gs) ≡ tables_bytes end a fs ++ tables_bytes end (a + length (tables_bytes end a fs)) gs
tables_joined end a [] gs = ap (λ n. tables_bytes end n gs) (omega arith)
tables_joined end a (f ∷ fs) gs =
    let first = placed_table end a f in
    let next = a + length first in
    ap (λ bytes. first ++ bytes) (tables_joined end next fs gs)
    ∙ (ap (λ n. first ++ (tables_bytes end next fs ++ tables_bytes end n gs)) (behind end a f fs)
    ∙ sym (append_assoc first (tables_bytes end next fs) (tables_bytes end (a + length (tables_bytes end a (f ∷ fs))) gs)))

pub frames_joined : (end a : ℕ) (fs gs : List PlacedFunction) →
    linked_frames end a (fs ++ gs) ≡ linked_frames end a fs ++ linked_frames end (a + length (tables_bytes end a fs)) gs
frames_joined end a [] gs = ap (λ n. linked_frames end n gs) (omega arith)
frames_joined end a (f ∷ fs) gs =
    let next = a + length (placed_table end a f) in
    ap (λ frames. linked_frame a f ∷ frames) (frames_joined end next fs gs)
    ∙ ap (λ n. linked_frame a f ∷ (linked_frames end next fs ++ linked_frames end n gs)) (behind end a f fs)
