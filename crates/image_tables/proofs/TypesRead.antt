-- The runtime reads the records of a type and of its bases.
use Rattle.std.proofs.Common.{◌≡◌, ◌∙◌, refl, sym, ap, subst, arith, ℕ, zero, suc, ◌+◌, ◌-◌, ◌*◌, ◌%◌, ◌^◌, ◌<◌, ◌≤◌, ◌==◌, true, false, List, [], ◌∷◌, ◌++◌, map, drop, length, flat_map, Option, Some, None, if◌then◌else◌}
use Rattle.std.specs.Prelude.{slice_get, slice_index, option_map, option_and_then}
use Rattle.std.specs.Int.{w32, w64, to_le_bytes}
use Rattle.std.proofs.lemmas.Bool.Decides.{nat_tests}
use Rattle.std.proofs.lemmas.List.{drop-drop}
use Rattle.eh_bytes.specs.Listed.{ListedUnit}
use Rattle.eh_bytes.specs.Memory as read
use Rattle.rv64_isa.specs.State.{State, Byte, byte_of, part_with}
use Rattle.elf_image.specs.Clean.{CleanImage}
use Rattle.region_forms.specs.Form.{TypeRow}
use Rattle.region_forms.specs.Guard.{base_row}
use Rattle.linear_forms.specs.Linear.{UnitCode}
use Rattle.linear_forms.proofs.Lists.{mapped}
use Rattle.machine_forms.specs.Emitted.{listed_type, emitted_of}
use Rattle.cxa_runtime.specs.Types.{word_at, base_of, and_bases, records_within}
use Rattle.eh_run.specs.Program.{part_run, program_of}
use Rattle.image_forms.specs.Linkable.{BaseIsThere}
use Rattle.image_forms.specs.Placed.{globals_at, records_at, code_at, all_code, names_at, record_at, base_at}
use Rattle.image_forms.specs.Records.{records_bytes, globals_bytes}
use Rattle.image_forms.specs.Linked.{part_at, constant_bytes, memory_for}
use Rattle.image_link.proofs.Bounds.{code_length}
use Rattle.image_link.proofs.ReadMemory.{read_part}
use Rattle.image_link.proofs.Stands.{constants_low}
use Rattle.image_link.proofs.Whole.{globals_end, records_end as records_done, code_end}
use Rattle.table_verdicts.specs.Types.{types_within, ChainEndsWithin}
use Rattle.table_verdicts.proofs.Matching.{base_is_there}
use Rattle.image_tables.specs.Read.{IsImageOf}
use Rattle.image_tables.specs.Functions.{records_end}
use Rattle.image_tables.specs.TableLaws.{IsRunOf}
use Rattle.image_tables.specs.TypeLaws.{TypesAreRead}
use Rattle.image_tables.proofs.FixedBytes.{fixed_part, low_part, constant_byte, HoldsBytes, word_there, word_is}
use Rattle.image_tables.proofs.Records.{record_found}
use Rattle.image_tables.proofs.Told.{types_asked, types_count}

-- ---- the records in memory
records_part : (e : ListedUnit) (a : ℕ) → records_at e ≤ a → a < code_at e →
    read.part_with (memory_for e) a ≡ Some (part_at (records_at e) false false (records_bytes (code_at e) (names_at e) e.types))
records_part e a low high =
    let g = part_at (globals_at e) true false (globals_bytes e.globals) in
    let r = part_at (records_at e) false false (records_bytes (code_at e) (names_at e) e.types) in
    let c : read.Memory = part_at (code_at e) false true (flat_map (to_le_bytes w32) (all_code e)) ∷ part_at (names_at e) false false (constant_bytes e) ∷ [] in
    let before : read.covers g a ≡ false = behind_part g a (omega (arith, globals_end e, low)) in
    let here : read.covers r a ≡ true = in_part r a low (omega (arith, records_done e, high)) in
    ap (λ b. if b then Some g else read.part_with (r ∷ c) a) before ∙ ap (λ b. if b then Some r else read.part_with c a) here
  where
    behind_part : (part : read.Part) (a : ℕ) → part.address + length part.bytes ≤ a → read.covers part a ≡ false
    behind_part part a le = grind (arith, nat_tests, le)

    in_part : (part : read.Part) (a : ℕ) → part.address ≤ a → a < part.address + length part.bytes → read.covers part a ≡ true
    in_part part a low high = grind (arith, nat_tests, low, high)

-- the code begins low enough
code_begins : (u : UnitCode) (i : CleanImage) → IsImageOf u i → records_end u ≤ 0x60000000
code_begins u i image =
    let e = emitted_of u in
    omega (arith, code_end e, code_length (all_code e), constants_low e image.linkable)

records_held : (u : UnitCode) (i : CleanImage) (s : State) → IsImageOf u i → IsRunOf i s →
    HoldsBytes s.memory (records_at (emitted_of u)) (records_bytes (code_at (emitted_of u)) (names_at (emitted_of u)) (emitted_of u).types)
records_held u i s image run n inside =
    let e = emitted_of u in
    let a = records_at e + n in
    let bytes = records_bytes (code_at e) (names_at e) e.types in
    let below : a < code_at e = omega (arith, inside, records_done e) in
    let found = read_part i.image.memory a (part_at (records_at e) false false bytes) (ap (λ m. read.part_with m a) image.stands.image.memory ∙ records_part e a (omega arith) below) in
    let old = low_part i.image.memory a found.part (omega (arith, below, code_begins u i image)) found.found in
    let write : found.part.write ≡ false = ap (λ p. p.write) found.same in
    let new : part_with s.memory a ≡ Some (part_run found.part) = fixed_part (program_of i).hart.memory s.memory a (part_run found.part) run old write in
    ap (option_map (λ p. byte_of p a)) new ∙ byte_is found.part bytes (records_at e) n (ap (λ p. p.address) found.same) (ap (λ p. p.bytes) found.same) write (ap (λ p. p.exec) found.same)
  where
    byte_is : (p : read.Part) (bytes : List ℕ) (first n : ℕ) → p.address ≡ first → p.bytes ≡ bytes → p.write ≡ false → p.exec ≡ false →
        (let o : Option Byte = Some (byte_of (part_run p) (first + n)) in o) ≡ Some (constant_byte (slice_index bytes n))
    byte_is p bytes first n a b w x =
        let place : first + n - p.address ≡ n = omega (arith, a) in
        ap (λ k. Some (record { value = slice_index p.bytes k; write = p.write; exec = p.exec })) place
        ∙ (ap (λ bs. Some (record { value = slice_index bs n; write = p.write; exec = p.exec })) b
        ∙ (ap (λ y. Some (record { value = slice_index bytes n; write = y; exec = p.exec })) w ∙ ap (λ y. Some (record { value = slice_index bytes n; write = false; exec = y })) x))

-- ---- one record
three_words : (s : State) (a kind name base : ℕ) → a + 16 < 2 ^ 64 → word_at s a ≡ Some kind → word_at s (a + 8) ≡ Some name → word_at s (a + 16) ≡ Some base → base_of s a ≡ Some base
three_words s a kind name base low one two three =
    let second : (a + 8) % 2 ^ 64 ≡ a + 8 = omega (arith, low) in
    let third : (a + 16) % 2 ^ 64 ≡ a + 16 = omega (arith, low) in
    ap (option_and_then (λ k. option_and_then (λ n. word_at s ((a + 16) % 2 ^ 64)) (word_at s ((a + 8) % 2 ^ 64)))) one
    ∙ (ap (λ o. option_and_then (λ n. word_at s ((a + 16) % 2 ^ 64)) o) (ap (word_at s) second ∙ two) ∙ (ap (word_at s) third ∙ three))

base_small : (end rows : ℕ) (base : Option ℕ) → end ≤ 0x60000000 → base_at end base < 2 ^ 32
base_small end rows None low = omega arith
base_small end rows (Some b) low = omega (arith, low)

base_read : (u : UnitCode) (i : CleanImage) (s : State) (t : ℕ) (row : TypeRow) → IsImageOf u i → IsRunOf i s → t < length u.types → slice_get u.types t ≡ Some row →
    base_of s (record_at (records_end u) t) ≡ Some (base_at (records_end u) row.base)
base_read u i s t row image run inside at =
    let e = emitted_of u in
    let end = records_end u in
    let bytes = records_bytes end (names_at e) e.types in
    let k = 24 * (length e.types - (t + 1)) in
    let holds = records_held u i s image run in
    let here = record_found end (names_at e) e.types t (listed_type row) (mapped listed_type u.types t row at) in
    let place : record_at end t ≡ records_at e + k = omega (arith, inside, types_count u) in
    let low : record_at end t + 16 < 2 ^ 64 = omega (arith, code_begins u i image) in
    let aligned : (records_at e + k) % 8 ≡ 0 = omega arith in
    let second_aligned : (records_at e + (k + 8)) % 8 ≡ 0 = omega arith in
    let third_aligned : (records_at e + (k + 16)) % 8 ≡ 0 = omega arith in
    let base = base_at end row.base in
    let K = to_le_bytes w64 row.kind in
    let N = to_le_bytes w64 here.name in
    let B = to_le_bytes w64 base in
    let one : drop k bytes ≡ K ++ (N ++ (B ++ here.rest)) = here.here in
    let two : drop (k + 8) bytes ≡ N ++ (B ++ here.rest) = sym (drop-drop 8 k bytes) ∙ ap (drop 8) one in
    let three : drop (k + 16) bytes ≡ B ++ here.rest = sym (drop-drop 16 k bytes) ∙ ap (drop 16) one in
    let kind = word_there s (records_at e) k row.kind bytes (N ++ (B ++ here.rest)) holds aligned one in
    let name = word_there s (records_at e) (k + 8) here.name bytes (B ++ here.rest) holds second_aligned two in
    let last = word_is s (records_at e) (k + 16) base bytes here.rest holds third_aligned (base_small end (length u.types) row.base (code_begins u i image)) three in
    let next : records_at e + (k + 8) ≡ record_at end t + 8 = omega (arith, place) in
    let after : records_at e + (k + 16) ≡ record_at end t + 16 = omega (arith, place) in
    three_words s (record_at end t) _ _ base low (ap (word_at s) place ∙ kind) (ap (word_at s) (sym next) ∙ name) (ap (word_at s) (sym after) ∙ last)

-- ---- chains
row_there : (rows : List TypeRow) (t : ℕ) → t < length rows → (row : TypeRow) × (slice_get rows t ≡ Some row)
row_there [] t inside = absurd (omega (arith, inside))
row_there (x ∷ rows) zero inside = (x, refl)
row_there (x ∷ rows) (suc t) inside = row_there rows t (omega (arith, inside))

nothing_within : (n : ℕ) (rows : List TypeRow) → types_within n rows None ≡ []
nothing_within zero rows = refl
nothing_within (suc n) rows = refl

chain_read : (n : ℕ) (u : UnitCode) (i : CleanImage) (s : State) (t : ℕ) → IsImageOf u i → IsRunOf i s → t < length u.types → ChainEndsWithin n u.types (Some t) →
    records_within n s (record_at (records_end u) t) ≡ Some (map (record_at (records_end u)) (types_within n u.types (Some t)))
unfolding records_within
chain_read zero u i s t image run inside ends = absurd ends
chain_read (suc n) u i s t image run inside ends =
    let row = row_there u.types t inside in
    let there = base_is_there (length u.types) u.types t (types_asked u i image).bases in
    let is : base_row (slice_get u.types t) ≡ row.0.base = ap base_row row.1 in
    ap (and_bases a (records_within n s)) (base_read u i s t row.0 image run inside row.1)
    ∙ (by row.0.base (subst (BaseIsThere (length u.types)) is there) (subst (ChainEndsWithin n u.types) is ends) (λ b below more. chain_read n u i s b image run below more)
    ∙ ap (λ o. Some (a ∷ map (record_at end) (types_within n u.types o))) (sym is))
  where
    end : ℕ
    end = records_end u

    a : ℕ
    a = record_at end t

    room : 24 * length u.types < end
    room = (types_asked u i image).room

    by : (o : Option ℕ) → BaseIsThere (length u.types) o → ChainEndsWithin n u.types o →
        ((b : ℕ) → b < length u.types → ChainEndsWithin n u.types (Some b) → records_within n s (record_at end b) ≡ Some (map (record_at end) (types_within n u.types (Some b)))) →
        and_bases a (records_within n s) (Some (base_at end o)) ≡ Some (a ∷ map (record_at end) (types_within n u.types o))
    by None below more later = ap (λ ts. Some (a ∷ map (record_at end) ts)) (sym (nothing_within n u.types))
    by (Some b) below more later =
        let positive : 0 < record_at end b = omega (arith, room, below) in
        let some : (record_at end b == 0) ≡ false = grind (arith, nat_tests, positive) in
        ap (λ x. if x then Some (a ∷ []) else option_map (λ bases. a ∷ bases) (records_within n s (record_at end b))) some
        ∙ ap (option_map (λ bases. a ∷ bases)) (later b below more)

same_ends : (n m : ℕ) (rows : List TypeRow) (o : Option ℕ) → ChainEndsWithin n rows o → ChainEndsWithin m rows o → types_within n rows o ≡ types_within m rows o
same_ends n m rows None one two = nothing_within n rows ∙ sym (nothing_within m rows)
same_ends zero m rows (Some t) one two = absurd one
same_ends (suc n) zero rows (Some t) one two = absurd two
same_ends (suc n) (suc m) rows (Some t) one two = ap (λ ts. t ∷ ts) (same_ends n m rows (base_row (slice_get rows t)) one two)

pub types_are_read : TypesAreRead
types_are_read u i s t image run inside ends =
    chain_read 64 u i s t image run inside ends.read
    ∙ ap (λ ts. Some (map (record_at (records_end u)) ts)) (same_ends 64 (suc (length u.types)) u.types (Some t) ends.read ends.all)
