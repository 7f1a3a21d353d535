-- What the personality routine says of a frame inside a function of an image.
use Rattle.std.proofs.Common.{◌≡◌, ◌∙◌, refl, sym, ap, subst, arith, ℕ, zero, suc, ◌+◌, ◌*◌, ◌<◌, ◌≤◌, ◌==◌, ◌^◌, Bool, true, false, List, [], ◌∷◌, ◌++◌, map, take, length, Option, Some, None, Result, Ok, Err, if◌then◌else◌}
use Rattle.std.specs.Prelude.{slice_get, IsSomeAnd, option_and_then}
use Rattle.std.specs.List.{AllByRecursion}
use Rattle.std.proofs.lemmas.List.{length-map}
use Rattle.eh_bytes.specs.declared.frames.Region64.{Region64}
use Rattle.eh_bytes.specs.Memory.{Memory}
use Rattle.eh_write.specs.Written.{table_bytes}
use Rattle.table_forms.specs.declared.found.Verdict.{Verdict}
use Rattle.table_forms.specs.Fault.{Fault}
use Rattle.table_forms.specs.Fde.{Fde, fde_for}
use Rattle.table_forms.specs.Lsda.{Table, lsda}
use Rattle.table_forms.specs.Verdict.{Thrown, look_up_place, verdict, forced}
use Rattle.table_forms.specs.WrittenTable.{TableStands}
use Rattle.rv64_isa.specs.State.{State}
use Rattle.elf_image.specs.Clean as clean
use Rattle.elf_image.specs.Clean.{CleanImage, table_read}
use Rattle.frame_walk.specs.declared.frame.Frame.{Frame}
use Rattle.frame_walk.specs.Outward.{tables_of}
use Rattle.raise_core.specs.Asked.{readable, table_of, verdict_of}
use Rattle.eh_run.specs.Program.{program_of}
use Rattle.region_forms.specs.Form.{TypeRow}
use Rattle.linear_forms.specs.Linear.{CodeSite, UnitCode}
use Rattle.linear_forms.specs.Stub.{Function, compiled, end_catch, terminating, call_unexpected}
use Rattle.linear_forms.specs.Tables.{look_up, sense_in}
use Rattle.linear_forms.specs.Verdict.{pad_verdict}
use Rattle.linear_forms.specs.Activation.{look, sense}
use Rattle.linear_forms.specs.UnitRun.{code_at, code_of}
use Rattle.machine_forms.specs.Routine.{Routine, routine_words, op_byte, all_words, routine_table}
use Rattle.machine_forms.specs.StubCode.{start_routine, stub_routines}
use Rattle.machine_forms.specs.Emitted.{listed_type, emitted_of}
use Rattle.machine_forms.proofs.Words.{words_stand}
use Rattle.image_forms.specs.Function.{FunctionFits}
use Rattle.image_forms.specs.Linkable.{BaseIsThere}
use Rattle.image_forms.specs.Placed.{PlacedFunction, all_functions, all_code, names_at}
use Rattle.image_forms.specs.Tables.{linked_table}
use Rattle.image_forms.specs.Linked.{constant_bytes}
use Rattle.image_link.proofs.Bounds.{code_length}
use Rattle.image_link.proofs.Handed.{fit, code_row}
use Rattle.image_link.proofs.Row.{InRow, row_end}
use Rattle.image_link.proofs.Stands.{constants_low}
use Rattle.image_link.proofs.Whole.{code_end}
use Rattle.table_verdicts.specs.Verdicts.{told_of, forced_judge}
use Rattle.table_verdicts.specs.Types.{thrown_as}
use Rattle.table_verdicts.specs.Asked.{NamesType, ListsNameTypes, PadIsInside, TableIsAsked, TypesAreAsked}
use Rattle.table_verdicts.specs.Laws as routine
use Rattle.table_verdicts.proofs.Telling as routines
use Rattle.image_tables.specs.Read.{IsImageOf}
use Rattle.image_tables.specs.Functions.{IsThere, routine_of, records_end, first_byte, operation_at}
use Rattle.image_tables.specs.TableLaws.{IsRunOf, GoesOnBehind, TablesSay, StartPasses}
use Rattle.image_tables.proofs.Placed.{placed, StandsAt, function_there, function_stands, start_stands}
use Rattle.image_tables.proofs.Found.{FunctionFound, image_function}
use Rattle.image_tables.proofs.Fixed.{same_table}
use Rattle.image_tables.proofs.Kept.{tables_alike, table_held}
use Rattle.image_tables.proofs.Stubs.{stub_raised, stub_forced}

-- ---- what is asked of tables and types
some_same : {A : Type 0} (a b : A) → Some a ≡ Some b → a ≡ b
some_same a b e = cc

item_holds : {A : Type 0} (P : A → Type 0) (xs : List A) (i : ℕ) (x : A) → AllByRecursion P xs → slice_get xs i ≡ Some x → P x
item_holds P [] i x all e = absurd (cc e)
item_holds P (y ∷ ys) zero x all e = subst P (some_same y x e) all.0
item_holds P (y ∷ ys) (suc i) x all e = item_holds P ys i x all.1 e

pads_inside : (r : Routine) (sites : List CodeSite) → 0 < length r.front → AllByRecursion (λ s. PadIsInside r s.pad) sites
pads_inside r [] some = tt
pads_inside r (s ∷ sites) some = (by s.pad, pads_inside r sites some)
  where
    by : (o : Option ℕ) → PadIsInside r o
    by None = tt
    by (Some p) = omega (arith, some)

bases_there : (rows : ℕ) (types : List TypeRow) → AllByRecursion (λ t. BaseIsThere rows t.base) (map listed_type types) → AllByRecursion (λ x. BaseIsThere rows x.base) types
bases_there rows [] all = tt
bases_there rows (x ∷ xs) all = (all.0, bases_there rows xs all.1)

pub types_count : (u : UnitCode) → length (emitted_of u).types ≡ length u.types
types_count u = length-map u.types listed_type

pub types_asked : (u : UnitCode) (i : CleanImage) → IsImageOf u i → TypesAreAsked (records_end u) u.types
types_asked u i image = record {
  bases = bases_there (length u.types) u.types (subst (λ n. AllByRecursion (λ t. BaseIsThere n t.base) (emitted_of u).types) (types_count u) image.linkable.bases);
  room = omega (arith, types_count u);
}

-- the types of a routine's table are those of its unit
types_few : (u : UnitCode) (i : CleanImage) (address : ℕ) (r : Routine) → IsImageOf u i → StandsAt u address r → AllByRecursion (λ t. t ≤ length u.types) r.types
types_few u i address r image stands =
    let fits = item_holds (λ f. FunctionFits (length (emitted_of u).types) f.function) (all_functions (emitted_of u)) stands.number (placed address stands.first r) (fit (emitted_of u) image.linkable) stands.there in
    subst (λ n. AllByRecursion (λ t. t ≤ n) r.types) (types_count u) fits.table.types

table_asked : (u : UnitCode) (i : CleanImage) (f : Function) → IsImageOf u i → ListsNameTypes u → IsThere u f → TableIsAsked (length u.types) (routine_of u f)
table_asked u i f image names there = record {
  pads = pads_inside (routine_of u f) (routine_of u f).sites (front f);
  types = types_few u i (first_byte u f) (routine_of u f) image (function_stands u f there);
  lists = lists f there;
}
  where
    front : (g : Function) → 0 < length (routine_of u g).front
    front (compiled n) = omega arith
    front end_catch = omega arith
    front terminating = omega arith
    front call_unexpected = omega arith

    lists : (g : Function) → IsThere u g → AllByRecursion (AllByRecursion (NamesType (routine_of u g).types)) (routine_of u g).lists
    lists (compiled n) there = item_holds (λ g. AllByRecursion (AllByRecursion (NamesType g.types)) g.lists) u.functions n (code_at u n) names (function_there u n there)
    lists end_catch there = tt
    lists terminating there = tt
    lists call_unexpected there = tt

-- ---- the table that is read
-- the look-up place of a byte of code is below the end of the address space
row_inside : (before limit : ℕ) (fs : List PlacedFunction) (n : ℕ) (f : PlacedFunction) → InRow before limit fs → slice_get fs n ≡ Some f → f.address + 4 * f.function.words ≤ limit
row_inside before limit [] n f row e = absurd (cc e)
row_inside before limit (x ∷ fs) zero f (first, rest) e =
    subst (λ y. y.address + 4 * y.function.words ≤ limit) (some_same x f e) (row_end (x.address + 4 * x.function.words) limit fs rest)
row_inside before limit (x ∷ fs) (suc n) f (first, rest) e = row_inside (x.address + 4 * x.function.words) limit fs n f rest e

pub code_low : (u : UnitCode) (i : CleanImage) (address : ℕ) (r : Routine) → IsImageOf u i → StandsAt u address r → address + 4 * routine_words r ≤ 0x60000000
code_low u i address r image stands =
    let e = emitted_of u in
    let inside = row_inside (records_end u) (records_end u + 4 * length (all_code e)) (all_functions e) stands.number (placed address stands.first r) (code_row e image.linkable) stands.there in
    omega (arith, inside, code_end e, code_length (all_code e), constants_low e image.linkable)

record TableFound (u : UnitCode) (i : CleanImage) (s : State) (address k : ℕ) (r : Routine) : Type 0 where
  fde : Fde
  table : Table
  found : fde_for (program_of i).image.fdes (address + k) ≡ Some fde
  start : fde.region.start ≡ address
  stands : TableStands (linked_table (records_end u) (routine_table r)) fde.region table
  reads : lsda i.image.memory fde.lsda fde.region ≡ Ok table
  named : table_of (tables_of s) fde ≡ Some table

named_read : (memory : Memory) (address : ℕ) (region : Region64) (t : Table) → clean.table_named memory address region ≡ Ok (Some t) → (lsda memory address region ≡ Ok t) × ((address == 0) ≡ false)
named_read memory address region t e = by (address == 0) refl e
  where
    was_read : (r : Result Table Fault) → table_read r ≡ Ok (Some t) → r ≡ Ok t
    was_read (Ok x) e = ap Ok (same x t (table_read (Ok x)) refl e)
      where
        same : (x y : Table) (r : Result (Option Table) Fault) → Ok (Some x) ≡ r → r ≡ Ok (Some y) → x ≡ y
        same x y r e f = cc
    was_read (Err f) e = absurd cc

    none : (r : Result (Option Table) Fault) → r ≡ Ok None → r ≡ Ok (Some t) → ⊥
    none r e f = absurd cc

    by : (b : Bool) → (address == 0) ≡ b → (if b then Ok None else table_read (lsda memory address region)) ≡ Ok (Some t) → (lsda memory address region ≡ Ok t) × ((address == 0) ≡ false)
    by true z e = absurd (none (Ok None) refl e)
    by false z e = (was_read (lsda memory address region) e, z)

table_found : (u : UnitCode) (i : CleanImage) (s : State) (address k : ℕ) (r : Routine) → IsImageOf u i → IsRunOf i s → StandsAt u address r → k < 4 * routine_words r → TableFound u i s address k r
table_found u i s address k r image run stands inside =
    by (image_function u i stands.number (placed address stands.first r) (address + k) image stands.there (omega arith) (omega (arith, inside)))
  where
    memory : Memory
    memory = i.image.memory

    with_table : (here : FunctionFound memory (names_at (emitted_of u)) (constant_bytes (emitted_of u)) (records_end u) (placed address stands.first r) (address + k) (program_of i).image.fdes) → (o : Option Table) →
        clean.table_named memory here.function.fde.lsda here.function.fde.region ≡ Ok o → IsSomeAnd o (TableStands (linked_table (records_end u) (routine_table r)) here.function.fde.region) →
        TableFound u i s address k r
    with_table here None named has = absurd has
    with_table here (Some t) named has =
        let fde = here.function.fde in
        let read = named_read memory fde.lsda fde.region t named in
        let held = table_held (emitted_of u) memory (linked_table (records_end u) (routine_table r)) fde.lsda here.offset here.rest image.stands.image.memory (here.frame.lsda ∙ here.at)
        (here.here ∙ ap (λ a. table_bytes (linked_table (records_end u) (routine_table r)) a ++ here.rest) (sym here.frame.lsda)) in
        let again : lsda (tables_of s) fde.lsda fde.region ≡ Ok t = same_table (tables_of s) memory fde.lsda fde.region t (tables_alike i s run) held.fixed held.begins read.0 in
        record {
          fde = fde;
          table = t;
          found = here.found;
          start = ap (λ x. x.start) here.frame.region;
          stands = has;
          reads = read.0;
          named = ap (λ b. if b then None else readable (lsda (tables_of s) fde.lsda fde.region)) read.1 ∙ ap readable again;
        }

    by : FunctionFound memory (names_at (emitted_of u)) (constant_bytes (emitted_of u)) (records_end u) (placed address stands.first r) (address + k) (program_of i).image.fdes → TableFound u i s address k r
    by here = with_table here here.function.table here.named here.has

-- ---- the verdict
verdict_is : (s : State) (fdes : List Fde) (thrown : Thrown) (x : Frame) (a : ℕ) (fde : Fde) (t : Table) → GoesOnBehind a x → a + 1 < 2 ^ 64 → fde_for fdes a ≡ Some fde → table_of (tables_of s) fde ≡ Some t →
    verdict_of s fdes thrown x ≡ verdict (Some t) (a + 1) false thrown
unfolding verdict_of
verdict_is s fdes thrown x a fde t on below found named =
    let place : look_up_place (a + 1) false ≡ a = omega (arith, below) in
    let of_frame : ℕ → Bool → Verdict = λ pc signal. verdict (option_and_then (table_of (tables_of s)) (fde_for fdes (look_up_place pc signal))) pc signal thrown in
    ap (λ pc. of_frame pc x.signal) on.pc ∙ (ap (of_frame (a + 1)) on.plain
    ∙ (ap (λ n. verdict (option_and_then (table_of (tables_of s)) (fde_for fdes n)) (a + 1) false thrown) place
    ∙ (ap (λ o. verdict (option_and_then (table_of (tables_of s)) o) (a + 1) false thrown) found ∙ ap (λ o. verdict o (a + 1) false thrown) named)))

routine_tells : (u : UnitCode) (i : CleanImage) (s : State) (address p k : ℕ) (r : Routine) (x : Frame) → IsImageOf u i → IsRunOf i s → StandsAt u address r → TableIsAsked (length u.types) r →
    op_byte r p ≤ k → k < op_byte r (p + 1) → GoesOnBehind (address + k) x →
    ((t : Option ℕ) → BaseIsThere (length u.types) t → verdict_of s (program_of i).image.fdes (thrown_as (records_end u) u.types t) x ≡
    told_of (λ q. address + op_byte r q) (look_up r.sites p) (λ chain. pad_verdict u.types (sense_in r.types r.lists) chain t)) ×
    (verdict_of s (program_of i).image.fdes forced x ≡ told_of (λ q. address + op_byte r q) (look_up r.sites p) (forced_judge (sense_in r.types r.lists)))
routine_tells u i s address p k r x image run stands asked low high on =
    let inside : k < 4 * routine_words r = omega (arith, high, words_stand.inside r (p + 1)) in
    let here = table_found u i s address k r image run stands inside in
    let below : address + k + 1 < 2 ^ 64 = omega (arith, code_low u i address r image stands, inside) in
    let all = routines.tables_decide r u.types (records_end u) here.fde.lsda i.image.memory here.fde.region here.table p k asked (types_asked u i image) here.reads here.stands low high (omega (arith, here.start, below)) in
    let tells : routine.Tells r u.types (records_end u) address here.table p k = subst (λ a. routine.Tells r u.types (records_end u) a here.table p k) here.start all in
    let is : (thrown : Thrown) → verdict_of s (program_of i).image.fdes thrown x ≡ verdict (Some here.table) (address + k + 1) false thrown = λ thrown. verdict_is s (program_of i).image.fdes thrown x (address + k) here.fde here.table on below here.found here.named in
    (λ t there. is (thrown_as (records_end u) u.types t) ∙ tells.raised t there, is forced ∙ tells.unwound)

-- ---- the laws
raised_same : (u : UnitCode) (f : Function) (at : ℕ → ℕ) (p : ℕ) (t : Option ℕ) →
    told_of at (look_up (routine_of u f).sites p) (λ chain. pad_verdict u.types (sense_in (routine_of u f).types (routine_of u f).lists) chain t) ≡
    told_of at (look (code_of u) f p) (λ chain. pad_verdict u.types (sense (code_of u) f) chain t)
raised_same u (compiled n) at p t = refl
raised_same u end_catch at p t = stub_raised at u.types end_catch p t
raised_same u terminating at p t = stub_raised at u.types terminating p t
raised_same u call_unexpected at p t = stub_raised at u.types call_unexpected p t

forced_same : (u : UnitCode) (f : Function) (at : ℕ → ℕ) (p : ℕ) →
    told_of at (look_up (routine_of u f).sites p) (forced_judge (sense_in (routine_of u f).types (routine_of u f).lists)) ≡ told_of at (look (code_of u) f p) (forced_judge (sense (code_of u) f))
forced_same u (compiled n) at p = refl
forced_same u end_catch at p = stub_forced at end_catch p
forced_same u terminating at p = stub_forced at terminating p
forced_same u call_unexpected at p = stub_forced at call_unexpected p

pub tables_say : TablesSay
tables_say u i s f p k x image names run there byte on =
    let stands = function_stands u f there in
    let tells = routine_tells u i s (first_byte u f) p k (routine_of u f) x image run stands (table_asked u i f image names there) byte.first byte.last on in
    record {
      raised = λ t known. tells.0 t known ∙ raised_same u f (operation_at u f) p t;
      unwound = tells.1 ∙ forced_same u f (operation_at u f) p;
    }

pub start_passes : StartPasses
start_passes u i s k x image run early on =
    let a = records_end u + 4 * all_words (take 0 stub_routines) in
    let first : a ≡ records_end u = omega arith in
    let low : op_byte start_routine 0 ≤ k = omega arith in
    let asked : TableIsAsked (length u.types) start_routine = record { pads = (tt, tt); types = tt; lists = tt } in
    let tells = routine_tells u i s a 0 k start_routine x image run (start_stands u) asked low early (subst (λ b. GoesOnBehind (b + k) x) (sym first) on) in
    record { raised = λ t known. tells.0 t known; unwound = tells.1 }
