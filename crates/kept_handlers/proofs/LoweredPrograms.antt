-- The regions of every program open and leave handlers in step.
use Rattle.std.proofs.Common.{◌≡◌, ℕ, zero, suc, ◌+◌, ◌==◌, true, false, List, [], ◌∷◌, ◌++◌, map, length, refl}
use Rattle.std.specs.Prelude.{◌&&◌}
use Rattle.std.specs.List.{AllByRecursion}
use Rattle.cxx_ast.specs.Plain.{Function, Checked}
use Rattle.meaning_forms.specs.Class.{class_at}
use Rattle.region_forms.specs.Form.{RegionFunction}
use Rattle.region_forms.specs.Layout.{Layout}
use Rattle.region_forms.specs.Numbering.{variables_of}
use Rattle.region_forms.specs.WellFormed.{every}
use Rattle.region_forms.specs.LowerProgram.{lowering, copied_type, some_constructor, declared_function, implicit_default_function, implicit_copy_function, implicit_destructor_function, own_functions, functions_of_class, functions_of_classes, regions_of}
use Rattle.kept_handlers.specs.Left.{is_even, region_in_step}
use Rattle.kept_handlers.specs.Lowered.{LoweredAreInStep}
use Rattle.kept_handlers.proofs.Scanning.{Even}
use Rattle.kept_handlers.proofs.Lowered.{both_true, even_test}
use Rattle.kept_handlers.proofs.Statements.{body_good, default_whole_good, copy_whole_good, destructor_whole_good}

abbrev IsGood : RegionFunction → Type 0
IsGood f = Even f.body

both_all : (fs gs : List RegionFunction) → AllByRecursion IsGood fs → AllByRecursion IsGood gs → AllByRecursion IsGood (fs ++ gs)
both_all [] gs h k = k
both_all (f ∷ fs) gs h k = (h.0, both_all fs gs h.1 k)

every_in_step : (fs : List RegionFunction) → AllByRecursion IsGood fs → every (λ f. is_even f.body && region_in_step f.body) fs ≡ true
every_in_step [] h = refl
every_in_step (f ∷ fs) h = both_true (is_even f.body && region_in_step f.body) (every (λ f. is_even f.body && region_in_step f.body) fs) (even_test f.body h.0) (every_in_step fs h.1)

module _ (p : Checked) (layout : Layout) where
  own_good : (n : ℕ) (fs : List Function) → AllByRecursion IsGood (own_functions p layout n fs)
  own_good n [] = tt
  own_good n (f ∷ fs) = (body_good (lowering p layout false (variables_of f)) (n == p.main) 0 f, own_good (n + 1) fs)

  methods_good : (k : ℕ) (fs : List Function) → AllByRecursion IsGood (map (declared_function p layout true false k) fs)
  methods_good k [] = tt
  methods_good k (f ∷ fs) = (body_good (lowering p layout true (variables_of f)) false k f, methods_good k fs)

  class_good : (k : ℕ) → AllByRecursion IsGood (functions_of_class p layout k)
  class_good k =
      both_all (map (declared_function p layout true false k) (class_at p k).functions)
      (implicit_default_function p layout k ∷ implicit_copy_function p layout k ∷ implicit_destructor_function p layout k ∷ []) (methods_good k (class_at p k).functions) (
        default_whole_good (lowering p layout true []) (some_constructor (class_at p k).functions) k,
        (copy_whole_good (lowering p layout true (copied_type (class_at p k))) k, (destructor_whole_good (lowering p layout true []) k, tt)),
      )

  classes_good : (k n : ℕ) → AllByRecursion IsGood (functions_of_classes p layout k n)
  classes_good k zero = tt
  classes_good k (suc n) = both_all (functions_of_class p layout k) (functions_of_classes p layout (k + 1) n) (class_good k) (classes_good (k + 1) n)

  program_good : AllByRecursion IsGood (regions_of p layout).functions
  program_good = both_all (own_functions p layout 0 p.functions) (functions_of_classes p layout 0 (length p.classes)) (own_good 0 p.functions) (classes_good 0 (length p.classes))

pub lowered_are_in_step : LoweredAreInStep
lowered_are_in_step p l = every_in_step _ (program_good p l)
