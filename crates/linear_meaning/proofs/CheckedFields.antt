-- The numbers of a checked program's regions fit 32 bits: a program has 65,536 tokens at most.
use Rattle.std.proofs.Common.{◌≡◌, ◌*◌, ◌-◌, ◌≤◌, ◌<◌, ◌^◌, ◌%◌, ◌&&◌, ◌==◌, nat_le, nat_lt, true, List, [], ◌∷◌, map, length, if◌then◌else◌, refl, arith}
use Rattle.std.proofs.lemmas.Bool.{and_parts}
use Rattle.std.proofs.lemmas.Bool.Decides.{nat_tests}
use Rattle.std.specs.Cmp.Derive.{both_true}
use Rattle.std.specs.List.{AllByRecursion}
use Rattle.cxx_ast.specs.Limits.{most_class_bytes}
use Rattle.region_forms.specs.Form.{Slot, RegionFunction, Regions, function_at}
use Rattle.region_forms.specs.Layout.{layout_of}
use Rattle.region_forms.specs.WellFormed.{every, function_test, rows_test}
use Rattle.linear_forms.specs.Frame.{has_pad, slot_bytes}
use Rattle.region_forms.specs.LowerProgram.{help, regions_of}
use Rattle.linear_forms.specs.Unit.{function_code}
use Rattle.linear_simulation.specs.FunctionsRun.{cost_bound}
use Rattle.landing_pads.proofs.Framed.{bytes_append, all_frames_fit}
use Rattle.landing_pads.proofs.CheckedFrames.{checked_frames_fit}
use Rattle.region_formed.specs.Slots.{slot_fits, slots_fit}
use Rattle.region_formed.proofs.Numbers.{counts_fit}
use Rattle.region_formed.proofs.SlotSizes.{slots_sized}
use Rattle.region_formed.proofs.Sources.{source_well_formed}
use Rattle.region_formed.proofs.Tokens.{tokens_same}
use Rattle.linear_meaning.specs.Fields.{has_field, function_has_fields, CheckedProgramsHaveFields}
use Rattle.linear_meaning.proofs.Costs.{costs_fit}
use Rattle.linear_meaning.proofs.Fields.{Few, function_in, rows_in}

-- each slot has 8 bytes at least
bytes_of_slots : (xs : List Slot) → every slot_fits xs ≡ true → 8 * length xs ≤ slot_bytes xs
bytes_of_slots [] h = omega arith
bytes_of_slots (s ∷ xs) h =
    let parts = and_parts (slot_fits s) (every slot_fits xs) h in
    let some = (and_parts (nat_le 4 s.size) (nat_le s.size most_class_bytes && s.size % 4 == 0) parts.0).0 in
    let least : 4 ≤ s.size = grind (arith, nat_tests, some) in omega (arith, least, bytes_of_slots xs parts.1)

few_slots : (f : RegionFunction) → slots_fit f ≡ true → (function_code f).frame ≤ 2032 → length f.slots ≤ 2 ^ 32 - 1
few_slots f h small =
    let own = bytes_of_slots f.slots h in
    let room = (all_frames_fit f).room in
    let all = bytes_append f.slots (if has_pad f.body then help ∷ help ∷ help ∷ [] else []) in omega (arith, own, room, all, small)

functions_in : (r : Regions) → Few r → (fs : List RegionFunction) → every (function_test r) fs ≡ true → every slots_fit fs ≡ true →
    AllByRecursion (λ g. g.frame ≤ 2032) (map function_code fs) → cost_bound fs < 2 ^ 32 → every function_has_fields fs ≡ true
functions_in r few [] h sized small less = refl
functions_in r few (f ∷ fs) h sized small less =
    let parts = and_parts (function_test r f) (every (function_test r) fs) h in
    let sizes = and_parts (slots_fit f) (every slots_fit fs) sized in
    both_true (function_in r few f parts.0 sizes.0 (few_slots f sizes.0 small.0) (omega (arith, less))) (functions_in r few fs parts.1 sizes.1 small.1 (omega (arith, less)))

pub checked_have_fields : CheckedProgramsHaveFields
checked_have_fields p c =
    let l = layout_of p in
    let r = regions_of p l in
    let well = source_well_formed p c in
    let main = and_parts (nat_lt r.main (length r.functions))
    ((function_at r r.main).parameters == 0 && (rows_test 0 r.types && every (function_test r) r.functions)) well in
    let rest = and_parts ((function_at r r.main).parameters == 0) (rows_test 0 r.types && every (function_test r) r.functions) main.1 in
    let both = and_parts (rows_test 0 r.types) (every (function_test r) r.functions) rest.1 in
    let tokens = c.lexed.few in
    let counts = counts_fit p l c in
    let functions = counts.functions in
    let types = counts.types in
    let globals = counts.globals in
    let few : Few r = record { functions = omega (arith, functions, tokens); types = omega (arith, types, tokens); globals = omega (arith, globals, tokens) } in
    let cheap = costs_fit p l c in
    let first = main.0 in
    let told = (tokens_same p l c).1 in
    let has_main : has_field r.main ≡ true = grind (arith, nat_tests, first, functions, tokens) in
    let has_tokens : has_field r.tokens ≡ true = grind (arith, nat_tests, told) in
    both_true has_main (both_true has_tokens (both_true (rows_in r few 0 r.types both.0 (omega (arith, types, tokens)))
    (functions_in r few r.functions both.1 (slots_sized p c) (checked_frames_fit p c).frames (omega (arith, cheap, tokens)))))
