-- So it is with all functions of checked programs.
use Rattle.std.proofs.Common.{ℕ, zero, suc, ◌+◌, ◌^◌, ◌<◌, ◌≤◌, ◌==◌, true, false, List, [], ◌∷◌, map, length, arith}
use Rattle.std.specs.List.{AllByRecursion}
use Rattle.cxx_ast.specs.Plain.{Function, Class, Checked}
use Rattle.cxx_ast.specs.Checked.{IsChecked}
use Rattle.meaning_forms.specs.Class.{class_at, no_class, parts_of}
use Rattle.region_forms.specs.Form.{RegionFunction}
use Rattle.region_forms.specs.Layout.{Layout, layout_of, class_parts}
use Rattle.region_forms.specs.Numbering.{variables_of}
use Rattle.region_forms.specs.LowerProgram.{lowering, copied_type, some_constructor, declared_function, implicit_default_function, implicit_copy_function, implicit_destructor_function, own_functions, functions_of_class, functions_of_classes, regions_of}
use Rattle.linear_forms.specs.Unit.{unit_of}
use Rattle.class_layout.proofs.Program.{classes_fit}
use Rattle.region_formed.proofs.Sources.{source_well_formed}
use Rattle.region_typed.proofs.Programs.{checked_typed}
use Rattle.address_bounds.specs.Everywhere.{RegionAll, holders}
use Rattle.address_bounds.proofs.Programs.{regions_reach_inside}
use Rattle.machine_simulation.specs.Matches.{FrameIs}
use Rattle.operation_premises.specs.Ints.{ints}
use Rattle.source_bounds.specs.LeastTokens.{function_tokens}
use Rattle.source_bounds.proofs.Limits.{checked_short}
use Rattle.source_bounds.proofs.Lists.{both_all, at_or}
use Rattle.source_bounds.proofs.Parts.{checked_parts}
use Rattle.checked_units.specs.Literals.{FunctionLiterals}
use Rattle.checked_units.specs.Operations.{RegionsHaveInts, RegionsHoldFew, ProgramsAreKnown}
use Rattle.checked_units.proofs.Spelled.{literals_are_ints}
use Rattle.checked_units.proofs.Statements.{One, body_good, default_whole_good, copy_whole_good, destructor_whole_good}
use Rattle.checked_units.proofs.Frames.{each, checked_frames_are_laid_out, classes_small}

abbrev IsGood : RegionFunction → Type 0
IsGood f = One 1600010 f.body

-- what holds of each class
record ClassIs (c : Class) : Type 0 where
  parts : length (class_parts c) ≤ 256
  few : AllByRecursion (λ f. function_tokens f ≤ 2000) c.functions
  literals : AllByRecursion FunctionLiterals c.functions

module _ (p : Checked) (layout : Layout) where
  own_good : (n : ℕ) (fs : List Function) → length (parts_of p 0) ≤ 256 → AllByRecursion (λ f. function_tokens f ≤ 2000) fs → AllByRecursion FunctionLiterals fs →
      AllByRecursion IsGood (own_functions p layout n fs)
  own_good n [] parts few h = tt
  own_good n (f ∷ fs) parts few h = (body_good (lowering p layout false (variables_of f)) (n == p.main) 0 f parts few.0 h.0, own_good (n + 1) fs parts few.1 h.1)

  methods_good : (k : ℕ) (fs : List Function) → length (parts_of p k) ≤ 256 → AllByRecursion (λ f. function_tokens f ≤ 2000) fs → AllByRecursion FunctionLiterals fs →
      AllByRecursion IsGood (map (declared_function p layout true false k) fs)
  methods_good k [] parts few h = tt
  methods_good k (f ∷ fs) parts few h = (body_good (lowering p layout true (variables_of f)) false k f parts few.0 h.0, methods_good k fs parts few.1 h.1)

  class_good : (k : ℕ) → ClassIs (class_at p k) → AllByRecursion IsGood (functions_of_class p layout k)
  class_good k h =
      both_all IsGood (map (declared_function p layout true false k) (class_at p k).functions)
      (implicit_default_function p layout k ∷ implicit_copy_function p layout k ∷ implicit_destructor_function p layout k ∷ []) (methods_good k (class_at p k).functions h.parts h.few h.literals) (
        default_whole_good (lowering p layout true []) (some_constructor (class_at p k).functions) k h.parts,
        (copy_whole_good (lowering p layout true (copied_type (class_at p k))) k h.parts, (destructor_whole_good (lowering p layout true []) k h.parts, tt)),
      )

  classes_good : (k n : ℕ) → ((i : ℕ) → ClassIs (class_at p i)) → AllByRecursion IsGood (functions_of_classes p layout k n)
  classes_good k zero h = tt
  classes_good k (suc n) h = both_all IsGood (functions_of_class p layout k) (functions_of_classes p layout (k + 1) n) (class_good k (h k)) (classes_good (k + 1) n h)

program_good : (p : Checked) → IsChecked p → AllByRecursion IsGood (regions_of p (layout_of p)).functions
program_good p h =
    let l = layout_of p in
    let parts = checked_parts classes_fit p h in
    let few = checked_short p h in
    let literals = literals_are_ints p h in
    let classes : (i : ℕ) → ClassIs (class_at p i) = λ i. record {
      parts = at_or (λ c. length (class_parts c) ≤ 256) p.classes i no_class parts (omega arith);
      few = at_or (λ c. AllByRecursion (λ f. function_tokens f ≤ 2000) c.functions) p.classes i no_class few.methods tt;
      literals = at_or (λ c. AllByRecursion FunctionLiterals c.functions) p.classes i no_class literals.methods tt;
    } in
    both_all IsGood (own_functions p l 0 p.functions) (functions_of_classes p l 0 (length p.classes)) (own_good p l 0 p.functions (classes 0).parts few.own literals.functions)
    (classes_good p l 0 (length p.classes) classes)

all_ints : (fs : List RegionFunction) → AllByRecursion IsGood fs → AllByRecursion (λ f. RegionAll ints f.body) fs
all_ints [] h = tt
all_ints (f ∷ fs) h = (h.0.0, all_ints fs h.1)

all_few : (fs : List RegionFunction) → AllByRecursion IsGood fs → AllByRecursion (λ f. holders f.body < 2 ^ 31) fs
all_few [] h = tt
all_few (f ∷ fs) h = (omega (arith, h.0.1), all_few fs h.1)

pub regions_have_ints : RegionsHaveInts
regions_have_ints p h = all_ints (regions_of p (layout_of p)).functions (program_good p h)

pub regions_hold_few : RegionsHoldFew
regions_hold_few p h = all_few (regions_of p (layout_of p)).functions (program_good p h)

pub programs_are_known : ProgramsAreKnown
programs_are_known p h =
    let l = layout_of p in
    let fs = (regions_of p l).functions in
    record {
      formed = source_well_formed p h;
      reach = regions_reach_inside p l (checked_typed p h) (classes_small p h);
      ints = λ n f e. each (λ f. RegionAll ints f.body) fs n f (regions_have_ints p h) e;
      few = λ n f e. each (λ f. holders f.body < 2 ^ 31) fs n f (regions_hold_few p h) e;
      frames = λ n g e. each FrameIs (unit_of (regions_of p l)).functions n g (checked_frames_are_laid_out p h) e;
    }
