-- What is gathered of tables as they are placed is what the definitions name.
use Rattle.std.proofs.Common.{◌≡◌, List, [], ◌∷◌, ◌++◌, map, refl, ap, sym, ◌∙◌}
use Rattle.std.specs.Prelude.{flat_map}
use Rattle.std.proofs.lemmas.List.{map-append}
use Rattle.eh_bytes.specs.Memory.{Memory, part_with}
use Rattle.elf_image.specs.Clean.{CleanImage}
use Rattle.elf_image.specs.Runnable.{frames_start}
use Rattle.lsda_pack.specs.declared.placing.Placing.{Placing}
use Rattle.lsda_pack.specs.Gathered.{others_by}
use Rattle.lsda_pack.specs.Placed.{Placed}
use Rattle.lsda_pack.specs.Placings.{ArePlacings}
use Rattle.lsda_pack.specs.Reaches.{extent_taken, table_taken}
use Rattle.lsda_pack.specs.SharedTables.{Extent, frames_extent, header_in, others_in, words_of}

pub tables_are : (memory : Memory) (ps : List Placing) (ts : List Placed) → ArePlacings memory ps ts → map (λ (p : Placing). p.taken) ps ≡ map table_taken ts
tables_are memory [] [] are = refl
tables_are memory [] (t ∷ ts) are = absurd are
tables_are memory (p ∷ ps) [] are = absurd are
tables_are memory (p ∷ ps) (t ∷ ts) are =
    ap (λ x. x ∷ map (λ (q : Placing). q.taken) ps) are.0.taken ∙ ap (λ xs. table_taken t ∷ xs) (tables_are memory ps ts are.1)

abbrev named : Memory → Placed → List Extent
named memory t = words_of memory t.part t.head.types t.table.types

words_named : (memory : Memory) (ps : List Placing) (ts : List Placed) → ArePlacings memory ps ts → flat_map (λ (p : Placing). p.words.items) ps ≡ map extent_taken (flat_map (named memory) ts)
words_named memory [] [] are = refl
words_named memory [] (t ∷ ts) are = absurd are
words_named memory (p ∷ ps) [] are = absurd are
words_named memory (p ∷ ps) (t ∷ ts) are =
    ap (λ xs. xs ++ flat_map (λ (q : Placing). q.words.items) ps) are.0.words ∙
    ap (λ xs. map extent_taken (named memory t) ++ xs) (words_named memory ps ts are.1) ∙
    sym (map-append extent_taken (named memory t) (flat_map (named memory) ts))

pub others_are : (i : CleanImage) (ps : List Placing) (ts : List Placed) → ArePlacings i.image.memory ps ts →
    others_by i.image.memory i.image.frame_header ps ≡ map extent_taken (others_in i ts)
others_are i ps ts are =
    let memory = i.image.memory in
    let header = i.image.frame_header in
    let frames = frames_extent memory (frames_start memory header) in
    let own = header_in header (part_with memory header) in
    let words = flat_map (named memory) ts in
    ap (λ xs. map extent_taken frames ++ map extent_taken own ++ xs) (words_named memory ps ts are) ∙
    sym (map-append extent_taken (frames ++ own) words ∙ ap (λ xs. xs ++ map extent_taken words) (map-append extent_taken frames own))
