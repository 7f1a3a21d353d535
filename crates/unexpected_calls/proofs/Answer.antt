-- Runtime call 19 answers what the machine for linear code decides.
use Rattle.std.proofs.Common.{◌≡◌, ◌∙◌, refl, ap, arith, ℕ, ◌+◌, ◌-◌, ◌^◌, ◌<◌, pos, negsuc, Bool, true, false, map, Some, None, option_map, option_and_then, if◌then◌else◌}
use Rattle.std.specs.Prelude.{find, nat_le}
use Rattle.std.proofs.lemmas.Bool.Decides.{nat_tests}
use Rattle.meaning_forms.specs.Class.{contains}
use Rattle.table_forms.specs.Verdict.{native}
use Rattle.frame_walk.specs.Outward.{tables_of}
use Rattle.cxa_runtime.specs.World.{argument, a0}
use Rattle.cxa_runtime.specs.Raising.{thrown_of}
use Rattle.cxa_runtime.specs.Types.{type_records}
use Rattle.cxa_runtime.specs.Unexpected.{has_list, lists_bad, readings, checked as checked_by, answer_for, answer_in, answer_with, list_of}
use Rattle.eh_run.specs.Program.{program_of}
use Rattle.region_forms.specs.Ending.{bad_row}
use Rattle.region_forms.specs.Guard.{allows}
use Rattle.linear_forms.specs.Stub.{compiled}
use Rattle.linear_forms.specs.StubOperation.{checked}
use Rattle.image_forms.specs.Placed.{record_at}
use Rattle.machine_pieces.specs.Numbers.{IsInt, extended}
use Rattle.machine_pieces.proofs.Numbers.{small_neg}
use Rattle.table_verdicts.specs.Types.{with_bases}
use Rattle.image_tables.specs.Functions.{routine_of, records_end}
use Rattle.image_tables.proofs.Told.{types_asked}
use Rattle.image_tables.proofs.TypesRead.{types_are_read}
use Rattle.raise_simulation.specs.Opens.{table_in}
use Rattle.unexpected_calls.specs.Lists.{ListsAnswer, TablesAreLow}
use Rattle.unexpected_calls.proofs.OneFde.{reading_found}
use Rattle.unexpected_calls.proofs.TableRead.{lists_name, types_fit, function_table}
use Rattle.unexpected_calls.proofs.Lists.{table_has, list_says}

-- the list that a selector names
list_named_by : (j : ℕ) → IsInt (negsuc j) → list_of (extended (negsuc j)) ≡ Some j
list_named_by j int =
    let small = small_neg j int in
    let high : nat_le (2 ^ 63) (extended (negsuc j)) ≡ true = grind (arith, nat_tests, small) in
    let is : 2 ^ 64 - extended (negsuc j) - 1 ≡ j = omega (arith, small) in
    ap (λ b. if b then Some (2 ^ 64 - extended (negsuc j) - 1) else None) high ∙ ap Some is

-- both answers, by two tests
record Answers (a b : Bool) : Type 0 where
  number : ℕ
  few : number < 3
  machine : (if a then 0 else if b then 1 else 2) ≡ number
  linear : (if a then pos 0 else if b then pos 1 else pos 2) ≡ pos number

answers : (a b : Bool) → Answers a b
answers true b = record { number = 0; few = omega arith; machine = refl; linear = refl }
answers false true = record { number = 1; few = omega arith; machine = refl; linear = refl }
answers false false = record { number = 2; few = omega arith; machine = refl; linear = refl }

pub lists_answer : ListsAnswer
lists_answer i p n j t w h =
    let run = h.running in
    let u = p.unit in
    let end : ℕ = records_end u in
    let image = (program_of i).image in
    let f = function_table u i w.hart n run.image run.run h.known in
    let r = routine_of u (compiled n) in
    let has : has_list j f.table ≡ true = table_has end r f.fde.region f.table j h.filter.place h.filter.index h.filter.site f.stands h.filter.there h.filter.is in
    let says = list_says end u.types r f.table j t (omega arith) (types_asked u i run.image) h.type h.bad (types_fit u i n run.image h.known) (lists_name u n run.lists h.known) f.looked has in
    let lsda : argument w a0 ≡ f.fde.lsda = h.table ∙ run.tables n h.known ∙ ap table_in f.found in
    let reading : find (has_list j) (readings (tables_of w.hart) image.fdes (argument w a0)) ≡ Some f.table
    = ap (λ a. find (has_list j) (readings (tables_of w.hart) image.fdes a)) lsda ∙ reading_found (tables_of w.hart) f.fde.lsda j image.fdes f.fde f.table f.only f.named has in
    let bad : image.places.bad_exception ≡ record_at end bad_row = h.named ∙ ap (λ b. record_at b bad_row) run.base in
    let types : type_records w.hart (record_at p.base t) ≡ Some (map (record_at end) (with_bases u.types t)) = ap (λ b. type_records w.hart (record_at b t)) run.base ∙ types_are_read u i w.hart t run.image run.run h.type h.bases in
    let thrown = native (map (record_at end) (with_bases u.types t)) in
    let thrown_is : thrown_of w.hart h.object.header.kind ≡ Some thrown = ap (thrown_of w.hart) h.kind ∙ ap (option_map native) types in
    let one = answers (allows u.types says.types (Some t)) (contains says.types bad_row) in
    let by_machine : checked_by f.table thrown (j + 1) (record_at end bad_row) ≡ one.number
    = ap (λ b. if b then 0 else if lists_bad f.table (j + 1) (record_at end bad_row) then 1 else 2) says.allows_so ∙ ap (λ b. if allows u.types says.types (Some t) then 0 else if b then 1 else 2) says.bad_so ∙ one.machine in (
      one.number,
      one.few,
      ap (λ s. option_and_then (answer_with image w) (list_of s)) h.selector ∙ ap (option_and_then (answer_with image w)) (list_named_by j h.int)
          ∙ ap (option_and_then (answer_in w image.places.bad_exception j)) reading
          ∙ ap (option_and_then (answer_for w image.places.bad_exception j f.table)) h.found
          ∙ ap (option_map (λ y. checked_by f.table y (j + 1) image.places.bad_exception)) thrown_is
          ∙ ap (λ b. Some (checked_by f.table thrown (j + 1) b)) bad ∙ ap Some by_machine,
      ap (λ s. checked u.types s (Some t)) says.sense ∙ one.linear,
    )

pub tables_are_low : TablesAreLow
tables_are_low i p n s h known =
    let f = function_table p.unit i s n h.image h.run known in
    let is : p.tables n ≡ f.fde.lsda = h.tables n known ∙ ap table_in f.found in
    omega (arith, is, f.low)
