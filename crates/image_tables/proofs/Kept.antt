-- What a run of an image can't write: its tables.
use Rattle.std.proofs.Common.{◌≡◌, ◌∙◌, refl, sym, ap, subst, arith, ℕ, ◌+◌, ◌-◌, ◌<◌, Bool, true, false, cond, List, [], ◌∷◌, ◌++◌, length, length-drop, map, drop, replicate, Some}
use Rattle.std.specs.Prelude.{IsSomeAnd}
use Rattle.std.proofs.lemmas.List.{drop-map, length-replicate}
use Rattle.eh_bytes.specs.Listed.{ListedTable, ListedUnit}
use Rattle.eh_bytes.specs.Memory as read
use Rattle.eh_bytes.specs.Memory.{part_with}
use Rattle.eh_write.specs.Written.{table_bytes}
use Rattle.rv64_isa.specs.State.{State, Part}
use Rattle.elf_image.specs.Clean.{CleanImage}
use Rattle.elf_image.specs.Stands.{unplaced}
use Rattle.frame_walk.specs.Outward.{part_read, tables_of}
use Rattle.cxa_runtime.specs.Frozen.{frozen, without_bytes}
use Rattle.image_forms.specs.Placed.{names_at}
use Rattle.image_forms.specs.Linked.{constant_bytes, memory_for}
use Rattle.image_link.proofs.Stands.{constants_part, last_found}
use Rattle.image_link.proofs.ReadMemory.{read_part}
use Rattle.eh_run.specs.Program.{program_of}
use Rattle.eh_run.proofs.Alike.{Alike, AreAlike, IsFixed}
use Rattle.eh_run.proofs.Lasting.{run_back}
use Rattle.image_tables.specs.TableLaws.{IsRunOf}

-- ---- the machine's segments
abbrev zeroed : Part → Part
zeroed part = record part { bytes = replicate (length part.bytes) 0 }

address_kept : (part : Part) (b : Bool) → (cond b (zeroed part) part).address ≡ part.address
address_kept part true = refl
address_kept part false = refl

size_kept : (part : Part) (b : Bool) → length (cond b (zeroed part) part).bytes ≡ length part.bytes
size_kept part true = length-replicate (length part.bytes) 0
size_kept part false = refl

exec_kept : (part : Part) (b : Bool) → (cond b (zeroed part) part).exec ≡ part.exec
exec_kept part true = refl
exec_kept part false = refl

write_kept : (part : Part) (b : Bool) → (cond b (zeroed part) part).write ≡ part.write
write_kept part true = refl
write_kept part false = refl

unwritten_same : (part : Part) → part.write ≡ false → without_bytes part ≡ part
unwritten_same part h = ap (λ (b : Bool). cond b (zeroed part) part) h

alike_part : (x y : Part) → without_bytes x ≡ without_bytes y → Alike (part_read x) (part_read y)
alike_part x y e = record {
  address = sym (address_kept x x.write) ∙ ap (λ (p : Part). p.address) e ∙ address_kept y y.write;
  size = sym (size_kept x x.write) ∙ ap (λ (p : Part). length p.bytes) e ∙ size_kept y y.write;
  exec = sym (exec_kept x x.write) ∙ ap (λ (p : Part). p.exec) e ∙ exec_kept y y.write;
  fixed = λ h.
      let fixed : x.write ≡ false = sym (write_kept x x.write) ∙ ap (λ (p : Part). p.write) e ∙ write_kept y y.write ∙ h in
      ap part_read (sym (unwritten_same x fixed) ∙ e ∙ unwritten_same y h);
}

heads : (x y : Part) (xs ys : List Part) → x ∷ xs ≡ y ∷ ys → x ≡ y
heads x y xs ys e = cc

tails : (x y : Part) (xs ys : List Part) → x ∷ xs ≡ y ∷ ys → xs ≡ ys
tails x y xs ys e = cc

alike_parts : (xs ys : List Part) → map without_bytes xs ≡ map without_bytes ys → AreAlike (map part_read xs) (map part_read ys)
alike_parts [] [] e = tt
alike_parts [] (y ∷ ys) e = absurd cc
alike_parts (x ∷ xs) [] e = absurd cc
alike_parts (x ∷ xs) (y ∷ ys) e = (
  alike_part x y (heads (without_bytes x) (without_bytes y) (map without_bytes xs) (map without_bytes ys) e),
  alike_parts xs ys (tails (without_bytes x) (without_bytes y) (map without_bytes xs) (map without_bytes ys) e),
)

pub tables_alike : (i : CleanImage) (s : State) → IsRunOf i s → AreAlike (tables_of s) i.image.memory
unfolding frozen
tables_alike i s e =
    let t = (program_of i).hart in
    subst (AreAlike (tables_of s)) (run_back i.image.memory)
    (alike_parts (drop 2 s.memory) (drop 2 t.memory) (sym (drop-map without_bytes 2 s.memory) ∙ ap (drop 2) e ∙ drop-map without_bytes 2 t.memory))

-- ---- the bytes of a table
table_begins : (list : ListedTable) (address : ℕ) → (rest : List ℕ) × (table_bytes list address ≡ 255 ∷ 0x1b ∷ rest)
unfolding table_bytes
table_begins list address = (_, refl)

pub record TableHeld (memory : read.Memory) (address : ℕ) : Type 0 where
  pub fixed : IsFixed (part_with memory address)
  pub begins : IsSomeAnd (part_with memory address) (λ part. (rest : List ℕ) × (drop (address - part.address) part.bytes ≡ 255 ∷ 0x1b ∷ rest))

held : (memory : read.Memory) (address : ℕ) (part : read.Part) (rest : List ℕ) → part_with memory address ≡ Some part → part.write ≡ false → drop (address - part.address) part.bytes ≡ 255 ∷ 0x1b ∷ rest →
    TableHeld memory address
held memory address part rest found kept bytes = record {
  fixed = subst IsFixed (sym found) kept;
  begins = subst (λ o. IsSomeAnd o (λ x. (more : List ℕ) × (drop (address - x.address) x.bytes ≡ 255 ∷ 0x1b ∷ more))) (sym found) (rest, bytes);
}

pub table_held : (e : ListedUnit) (memory : read.Memory) (list : ListedTable) (address offset : ℕ) (rest : List ℕ) → map unplaced memory ≡ memory_for e → address ≡ names_at e + offset →
    drop offset (constant_bytes e) ≡ table_bytes list address ++ rest → TableHeld memory address
table_held e memory list address offset rest same at here =
    let begins = table_begins list address in
    let first : drop offset (constant_bytes e) ≡ 255 ∷ 0x1b ∷ (begins.0 ++ rest) = here ∙ ap (λ bytes. bytes ++ rest) begins.1 in
    let inside : offset < length (constant_bytes e) = omega (arith, ap length first, length-drop offset (constant_bytes e)) in
    let found = read_part memory address (constants_part e) (ap (λ m. part_with m address) same ∙ last_found e address (omega (arith, at)) (omega (arith, at, inside))) in
    let place : address - found.part.address ≡ offset = omega (arith, ap (λ p. p.address) found.same, at) in
    let bytes : drop (address - found.part.address) found.part.bytes ≡ 255 ∷ 0x1b ∷ (begins.0 ++ rest)
    = ap (λ k. drop k found.part.bytes) place ∙ (ap (λ p. drop offset p.bytes) found.same ∙ first) in
    held memory address found.part (begins.0 ++ rest) found.found (ap (λ p. p.write) found.same) bytes
