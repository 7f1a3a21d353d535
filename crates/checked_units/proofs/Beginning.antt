-- A run of an image begins as the simulation of linear code asks.
use Rattle.std.proofs.Common.{◌≡◌, refl, subst, ◌∙◌, ◌==◌, unwrap_or, arith, ℕ, zero, suc, ◌+◌, ◌-◌, ◌*◌, ◌<◌, ◌≤◌, ◌^◌, ℤ, pos, true, List, [], ◌∷◌, ◌++◌, map, length, replicate, Some}
use Rattle.std.specs.Prelude.{slice_get, nat_lt}
use Rattle.std.specs.List.{AllByRecursion}
use Rattle.std.proofs.lemmas.Bool.{and_parts}
use Rattle.std.proofs.lemmas.Bool.Decides.{nat_tests}
use Rattle.std.proofs.lemmas.List.{length-append, length-map}
use Rattle.std.proofs.lemmas.Option.{slice_get_within, slice_get-get_or}
use Rattle.cxx_ast.specs.Plain.{Checked}
use Rattle.region_forms.specs.Form.{RegionFunction, no_function, function_at}
use Rattle.region_forms.specs.Layout.{layout_of}
use Rattle.region_forms.specs.LowerProgram.{regions_of}
use Rattle.region_forms.specs.WellFormed.{is_well_formed}
use Rattle.linear_forms.specs.Linear.{UnitCode}
use Rattle.linear_forms.specs.Unit.{function_code}
use Rattle.linear_forms.specs.UnitRun as running
use Rattle.linear_forms.specs.UnitRun.{no_code}
use Rattle.machine_forms.specs.Routine.{routine_words}
use Rattle.machine_forms.specs.StubCode.{stub_words}
use Rattle.machine_forms.specs.Emitted.{listed_type, emitted_of, emitted_stubs, unit_words, function_routine}
use Rattle.eh_bytes.specs.Listed.{ListedUnit}
use Rattle.rv64_isa.specs.State.{Part}
use Rattle.rv64_machine.specs.Initial.{initial}
use Rattle.elf_image.specs.Clean.{CleanImage}
use Rattle.elf_image.specs.Stands.{ImageStands}
use Rattle.image_forms.specs.Linkable.{IsLinkable}
use Rattle.image_forms.specs.Linked.{contents_for}
use Rattle.image_forms.specs.Placed.{page_from, globals_at, code_at, all_code}
use Rattle.eh_run.specs.Program.{part_run, program_of}
use Rattle.source_bounds.specs.Compiled.{unit_for}
use Rattle.source_bounds.specs.Laws.{CheckedIsLinkable}
use Rattle.machine_pieces.specs.Numbers.{IsInt}
use Rattle.machine_pieces.specs.Standing.{WordsAt}
use Rattle.machine_pieces.specs.Keeping.{AreSmall}
use Rattle.machine_pieces.specs.UnitAt.{whole_words}
use Rattle.machine_simulation.specs.Beginning.{global_byte, plan_before, StandsBefore}
use Rattle.machine_forms.proofs.Words.{words_stand}
use Rattle.machine_simulation.specs.Units.{UnitsStand}
use Rattle.region_formed.specs.WellFormed.{CheckedRegionsAreWellFormed}
use Rattle.function_lengths.specs.Lengths.{CheckedFunctionsAreShort}
use Rattle.checked_units.specs.Units.{IsAsked, CheckedUnitsAreAsked}
use Rattle.checked_units.specs.Images.{ImagesBegin}
use Rattle.checked_units.proofs.CodeEnds.{code_is_low}
use Rattle.checked_units.proofs.Globals.{globals_are_ints}
use Rattle.checked_units.proofs.Jump.{jump_stands}
use Rattle.checked_units.proofs.Memory.{slots_may, stack_may}
use Rattle.checked_units.proofs.Values.{global_int, global_may, image_words}
use Rattle.checked_units.proofs.Words.{units_have_bits}

each : {A : Type 0} (P : A → Type 0) (xs : List A) (n : ℕ) (x : A) → AllByRecursion P xs → slice_get xs n ≡ Some x → P x
each P [] n x h e = absurd (cc e)
each P (y ∷ xs) zero x h e = let same : y ≡ x = cc e in subst P same h.0
each P (y ∷ xs) (suc n) x h e = each P xs n x h.1 e

stub_length : length emitted_stubs.code ≡ stub_words
stub_length = refl

-- main is one of a program's functions
main_is_there : (p : Checked) → is_well_formed (regions_of p (layout_of p)) ≡ true → (unit_for p).main < length (unit_for p).functions
main_is_there p h =
    let r = regions_of p (layout_of p) in
    let test : nat_lt r.main (length r.functions) ≡ true = (and_parts (nat_lt r.main (length r.functions)) _ h).0 in
    let inside : r.main < length r.functions = grind (arith, nat_tests, test) in
    omega (arith, inside, length-map r.functions function_code)

-- the code of a function has as many parameters as the function
same_parameters : (fs : List RegionFunction) (n : ℕ) → (unwrap_or (slice_get (map function_code fs) n) no_code).parameters ≡ (unwrap_or (slice_get fs n) no_function).parameters
same_parameters [] n = refl
same_parameters (f ∷ fs) zero = refl
same_parameters (f ∷ fs) (suc n) = same_parameters fs n

-- main has none
main_takes_nothing : (p : Checked) → is_well_formed (regions_of p (layout_of p)) ≡ true → (running.code_at (unit_for p) (unit_for p).main).parameters ≡ 0
main_takes_nothing p h =
    let r = regions_of p (layout_of p) in
    let behind = (and_parts (nat_lt r.main (length r.functions)) _ h).1 in
    let test = (and_parts ((function_at r r.main).parameters == 0) _ behind).0 in
    let none : (function_at r r.main).parameters ≡ 0 = grind (arith, nat_tests, test) in
    same_parameters r.functions r.main ∙ none

-- registers that are 0
zeros_small : (n : ℕ) → AreSmall (replicate n 0)
zeros_small zero = tt
zeros_small (suc n) = (omega arith, zeros_small n)

module _ (units_stand : UnitsStand) (u : UnitCode) (i : CleanImage) (tables : ℕ → ℕ) (stands : ImageStands (contents_for (emitted_of u)) i.image) (can : IsLinkable (emitted_of u)) (asked : IsAsked u)
    (short : AllByRecursion (λ g. routine_words (function_routine g) < 2 ^ 18) u.functions) (ints : AllByRecursion IsInt u.globals) (main : u.main < length u.functions)
    (nothing : (running.code_at u u.main).parameters ≡ 0) where
  abbrev e : ListedUnit
  e = emitted_of u

  abbrev base : ℕ
  base = code_at e

  abbrev parts : List Part
  parts = map part_run i.image.memory

  low : base + 4 * length (all_code e) < 2 ^ 30
  low = code_is_low e can

  types : length e.types ≡ length u.types
  types = length-map u.types listed_type

  room : 4 * length u.globals ≤ page_from (4 * length u.globals)
  room = omega arith

  words : WordsAt (initial parts).memory base (emitted_stubs.code ++ unit_words u)
  words = image_words e i.image stands low (units_have_bits u short)

  -- how many words there are
  all_length : length (all_code e) ≡ whole_words u
  all_length = omega (arith, length-append emitted_stubs.code (unit_words u), stub_length, words_stand.unit u)

  -- where a global is, counted from the last one
  global_place : (g k : ℕ) → g + k + 1 ≡ length u.globals → global_byte u base g ≡ globals_at e + 4 * k
  global_place g k count = omega (arith, count, types, room)

  there : (g : ℕ) → g < length u.globals → (z : ℤ) × (slice_get u.globals g ≡ Some z)
  there g inside = (_, slice_get-get_or u.globals g (pos 0) inside)

  pub begins : StandsBefore u base tables (program_of i).hart
  begins = record {
    pc = stands.entry;
    registers = refl;
    stack = refl;
    saved = zeros_small 10;
    unit = units_stand (plan_before u base tables) (initial parts).memory asked.few short asked.frames asked.registers words;
    jump = jump_stands u base (initial parts).memory words;
    main = main;
    takes_nothing = nothing;
    may = λ a n bottom top. stack_may parts a n bottom top;
    objects = λ a n bottom top. slots_may parts a n bottom top;
    deep = omega (arith, types, room);
    near = omega (arith, low, types, room, all_length);
    low = omega (arith, low);
    globals = λ g z at.
        let inside = slice_get_within u.globals g z at in
        let k = length u.globals - 1 - g in
        let count : g + k + 1 ≡ length u.globals = omega (arith, inside) in
        global_int e i.image stands low g k (global_byte u base g) z at (each IsInt u.globals g z ints at) count (global_place g k count);
    writable = λ g o n inside small.
        let k = length u.globals - 1 - g in
        let count : g + k + 1 ≡ length u.globals = omega (arith, inside) in
        let known = there g inside in
        global_may e i.image stands low g k (global_byte u base g) o n known.0 known.1 count (global_place g k count) small;
  }

pub images_begin : UnitsStand → CheckedIsLinkable → CheckedUnitsAreAsked → CheckedFunctionsAreShort → CheckedRegionsAreWellFormed → ImagesBegin
images_begin units_stand linkable asked short formed p checked i tables stands =
    begins units_stand (unit_for p) i tables stands (linkable p checked) (asked p checked) (short p checked) (globals_are_ints p checked) (main_is_there p (formed p checked)) (main_takes_nothing p (formed p checked))
