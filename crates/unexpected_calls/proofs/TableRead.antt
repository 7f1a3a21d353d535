-- The exception table of a function of an image, as the runtime reads it where the FDE of the function names it.
use Rattle.std.proofs.Common.{◌≡◌, ◌∙◌, refl, sym, ap, subst, arith, ℕ, zero, suc, ◌^◌, ◌<◌, ◌≤◌, ◌==◌, Bool, true, false, List, [], ◌∷◌, ◌++◌, length, length-append, length-drop, Option, Some, None, Result, Ok, Err, if◌then◌else◌}
use Rattle.std.specs.Prelude.{find, slice_get, IsSomeAnd}
use Rattle.std.specs.List.{AllByRecursion}
use Rattle.std.proofs.lemmas.Bool.Decides.{nat_tests}
use Rattle.eh_bytes.specs.declared.frames.Region64.{Region64}
use Rattle.eh_bytes.specs.Memory.{Memory}
use Rattle.eh_write.specs.Written.{table_bytes}
use Rattle.table_forms.specs.Fault.{Fault}
use Rattle.table_forms.specs.Fde.{Fde, is_in, fde_for}
use Rattle.table_forms.specs.Lsda.{Table, lsda}
use Rattle.table_forms.specs.WrittenTable.{TableStands}
use Rattle.rv64_isa.specs.State.{State}
use Rattle.elf_image.specs.Clean as clean
use Rattle.elf_image.specs.Clean.{CleanImage, table_read}
use Rattle.frame_walk.specs.Outward.{tables_of}
use Rattle.raise_core.specs.Asked.{readable, table_of}
use Rattle.eh_run.specs.Program.{program_of}
use Rattle.linear_forms.specs.Linear.{UnitCode}
use Rattle.linear_forms.specs.Stub.{compiled}
use Rattle.linear_forms.specs.UnitRun.{code_at}
use Rattle.machine_forms.specs.Routine.{Routine, routine_words, routine_table}
use Rattle.machine_forms.specs.Emitted.{emitted_of}
use Rattle.image_forms.specs.Function.{FunctionFits}
use Rattle.image_forms.specs.Placed.{all_functions, names_at}
use Rattle.image_forms.specs.Tables.{linked_table}
use Rattle.image_forms.specs.Linked.{constant_bytes}
use Rattle.image_link.proofs.Handed.{fit}
use Rattle.image_link.proofs.Stands.{constants_low}
use Rattle.table_verdicts.specs.Asked.{NamesType, ListsNameTypes}
use Rattle.table_verdicts.proofs.Looked.{Looked, looked}
use Rattle.image_tables.specs.Read.{IsImageOf}
use Rattle.image_tables.specs.Functions.{routine_of, records_end, first_byte}
use Rattle.image_tables.specs.TableLaws.{IsRunOf}
use Rattle.image_tables.proofs.Placed.{placed, StandsAt, function_there, function_stands}
use Rattle.image_tables.proofs.Found.{FunctionFound, image_function}
use Rattle.image_tables.proofs.Fixed.{same_table}
use Rattle.image_tables.proofs.Kept.{tables_alike, table_held}
use Rattle.image_tables.proofs.Told.{types_count}
use Rattle.unexpected_calls.proofs.OneFde.{named_by, found_by_other, names_once, table_some}

item_holds : {A : Type 0} (P : A → Type 0) (xs : List A) (i : ℕ) (x : A) → AllByRecursion P xs → slice_get xs i ≡ Some x → P x
item_holds P [] i x all e = absurd (cc e)
item_holds P (y ∷ ys) zero x all e = let same : y ≡ x = cc e in subst P same all.0
item_holds P (y ∷ ys) (suc i) x all e = item_holds P ys i x all.1 e

-- ---- what is asked of it

pub lists_name : (u : UnitCode) (n : ℕ) → ListsNameTypes u → n < length u.functions → AllByRecursion (AllByRecursion (NamesType (code_at u n).types)) (code_at u n).lists
lists_name u n names there = item_holds (λ g. AllByRecursion (AllByRecursion (NamesType g.types)) g.lists) u.functions n (code_at u n) names (function_there u n there)

pub types_fit : (u : UnitCode) (i : CleanImage) (n : ℕ) → IsImageOf u i → n < length u.functions → AllByRecursion (λ t. t ≤ length u.types) (code_at u n).types
types_fit u i n image there =
    let r = routine_of u (compiled n) in
    let stands = function_stands u (compiled n) there in
    let fits = item_holds (λ f. FunctionFits (length (emitted_of u).types) f.function) (all_functions (emitted_of u)) stands.number (placed (first_byte u (compiled n)) stands.first r) (fit (emitted_of u) image.linkable) stands.there in
    subst (λ m. AllByRecursion (λ t. t ≤ m) (code_at u n).types) (types_count u) fits.table.types

-- ---- it is read

record ReadSo (memory : Memory) (address : ℕ) (region : Region64) (t : Table) : Type 0 where
  read : lsda memory address region ≡ Ok t
  some : (address == 0) ≡ false

named_read : (memory : Memory) (address : ℕ) (region : Region64) (t : Table) → clean.table_named memory address region ≡ Ok (Some t) → ReadSo memory address region t
named_read memory address region t e = by (address == 0) refl e
  where
    was_read : (r : Result Table Fault) → table_read r ≡ Ok (Some t) → r ≡ Ok t
    was_read (Ok x) e = ap Ok (same x t (table_read (Ok x)) refl e)
      where
        same : (x y : Table) (r : Result (Option Table) Fault) → Ok (Some x) ≡ r → r ≡ Ok (Some y) → x ≡ y
        same x y r e f = cc
    was_read (Err f) e = absurd cc

    none : (r : Result (Option Table) Fault) → r ≡ Ok None → r ≡ Ok (Some t) → ⊥
    none r e f = absurd cc

    by : (b : Bool) → (address == 0) ≡ b → (if b then Ok None else table_read (lsda memory address region)) ≡ Ok (Some t) → ReadSo memory address region t
    by true z e = absurd (none (Ok None) refl e)
    by false z e = record { read = was_read (lsda memory address region) e; some = z }

-- the FDE of a function, which alone names its table, and the table
pub record FunctionTable (u : UnitCode) (i : CleanImage) (s : State) (n : ℕ) : Type 0 where
  pub fde : Fde
  pub table : Table
  pub found : fde_for (program_of i).image.fdes (first_byte u (compiled n)) ≡ Some fde
  pub only : find (named_by fde.lsda) (program_of i).image.fdes ≡ Some fde
  pub low : fde.lsda < 2 ^ 64
  pub named : table_of (tables_of s) fde ≡ Some table
  pub stands : TableStands (linked_table (records_end u) (routine_table (routine_of u (compiled n)))) fde.region table
  pub looked : Looked (linked_table (records_end u) (routine_table (routine_of u (compiled n)))) table

words_some : (r : Routine) → 0 < length r.front → 0 < routine_words r
words_some r some = omega (arith, some)

itself : (a : ℕ) (f : Fde) → f.lsda ≡ a → named_by a f ≡ true
itself a f is = grind (arith, nat_tests, is)

pub function_table : (u : UnitCode) (i : CleanImage) (s : State) (n : ℕ) → IsImageOf u i → IsRunOf i s → n < length u.functions → FunctionTable u i s n
function_table u i s n image run there = by (image_function u i stands.number (placed address stands.first r) address image stands.there (omega arith) (omega (arith, words_some r (omega arith))))
  where
    r : Routine
    r = routine_of u (compiled n)

    address : ℕ
    address = first_byte u (compiled n)

    stands : StandsAt u address r
    stands = function_stands u (compiled n) there

    memory : Memory
    memory = i.image.memory

    with_table : (here : FunctionFound memory (names_at (emitted_of u)) (constant_bytes (emitted_of u)) (records_end u) (placed address stands.first r) address (program_of i).image.fdes) → (o : Option Table) →
        clean.table_named memory here.function.fde.lsda here.function.fde.region ≡ Ok o → IsSomeAnd o (TableStands (linked_table (records_end u) (routine_table r)) here.function.fde.region) → FunctionTable u i s n
    with_table here None named has = absurd has
    with_table here (Some t) named has =
        let fde = here.function.fde in
        let read = named_read memory fde.lsda fde.region t named in
        let held = table_held (emitted_of u) memory (linked_table (records_end u) (routine_table r)) fde.lsda here.offset here.rest image.stands.image.memory (here.frame.lsda ∙ here.at)
        (here.here ∙ ap (λ a. table_bytes (linked_table (records_end u) (routine_table r)) a ++ here.rest) (sym here.frame.lsda)) in
        let list = linked_table (records_end u) (routine_table r) in
        let bytes = constant_bytes (emitted_of u) in
        let inside : here.offset < length bytes = omega (arith, ap length here.here, length-drop here.offset bytes, length-append (table_bytes list here.table) here.rest, table_some list here.table) in
        let again : lsda (tables_of s) fde.lsda fde.region ≡ Ok t = same_table (tables_of s) memory fde.lsda fde.region t (tables_alike i s run) held.fixed held.begins read.read in
        record {
          fde = fde;
          table = t;
          found = here.found;
          only = found_by_other (λ f. is_in f.region address) (named_by fde.lsda) (program_of i).image.fdes fde here.found (itself fde.lsda fde refl) (names_once u i fde.lsda image);
          low = omega (arith, here.frame.lsda, here.at, constants_low (emitted_of u) image.linkable, inside);
          named = ap (λ b. if b then None else readable (lsda (tables_of s) fde.lsda fde.region)) read.some ∙ ap readable again;
          stands = has;
          looked = looked memory fde.lsda fde.region (linked_table (records_end u) (routine_table r)) t read.read has;
        }

    by : FunctionFound memory (names_at (emitted_of u)) (constant_bytes (emitted_of u)) (records_end u) (placed address stands.first r) address (program_of i).image.fdes → FunctionTable u i s n
    by here = with_table here here.function.table here.named here.has
