-- So it is with all functions of checked programs.
use Rattle.std.proofs.Common.{ℕ, zero, suc, ◌+◌, ◌==◌, true, false, List, [], ◌∷◌, map, length}
use Rattle.std.specs.Prelude.{slice_get, unwrap_or}
use Rattle.std.specs.List.{AllByRecursion}
use Rattle.cxx_ast.specs.Plain.{Function, Class, Checked}
use Rattle.cxx_ast.specs.Checked.{IsChecked}
use Rattle.cxx_ast.specs.Grammatical.{Each}
use Rattle.meaning_forms.specs.Class.{no_class, class_at}
use Rattle.region_forms.specs.Form.{RegionFunction}
use Rattle.region_forms.specs.Layout.{Layout}
use Rattle.region_forms.specs.Numbering.{variables_of}
use Rattle.region_forms.specs.LowerProgram.{lowering, copied_type, some_constructor, declared_function, implicit_default_function, implicit_copy_function, implicit_destructor_function, own_functions, functions_of_class, functions_of_classes, regions_of}
use Rattle.address_bounds.specs.Everywhere.{RegionAll}
use Rattle.source_bounds.proofs.Lists.{both_all}
use Rattle.builtin_calls.proofs.Trees.{FunctionFits}
use Rattle.builtin_calls.proofs.Declarations.{ClassesFit, functions_fit}
use Rattle.builtin_calls.proofs.Lowered.{gives}
use Rattle.builtin_calls.proofs.LoweredStatements.{body_good, default_whole_good, copy_whole_good, destructor_whole_good}

abbrev pub IsGood : RegionFunction → Type 0
IsGood f = RegionAll gives f.body

-- the functions of a class by its number
class_fits : (cs : List Class) (k : ℕ) → ClassesFit cs → Each FunctionFits (unwrap_or (slice_get cs k) no_class).functions
class_fits [] k h = tt
class_fits (c ∷ cs) zero h = h.0
class_fits (c ∷ cs) (suc k) h = class_fits cs k h.1

module _ (p : Checked) (layout : Layout) where
  own_good : (n : ℕ) (fs : List Function) → Each FunctionFits fs → AllByRecursion IsGood (own_functions p layout n fs)
  own_good n [] h = tt
  own_good n (f ∷ fs) h = (body_good (lowering p layout false (variables_of f)) (n == p.main) 0 f h.0, own_good (n + 1) fs h.1)

  methods_good : (k : ℕ) (fs : List Function) → Each FunctionFits fs → AllByRecursion IsGood (map (declared_function p layout true false k) fs)
  methods_good k [] h = tt
  methods_good k (f ∷ fs) h = (body_good (lowering p layout true (variables_of f)) false k f h.0, methods_good k fs h.1)

  class_good : (k : ℕ) → ClassesFit p.classes → AllByRecursion IsGood (functions_of_class p layout k)
  class_good k h =
      both_all IsGood (map (declared_function p layout true false k) (class_at p k).functions)
      (implicit_default_function p layout k ∷ implicit_copy_function p layout k ∷ implicit_destructor_function p layout k ∷ []) (methods_good k (class_at p k).functions (class_fits p.classes k h)) (
        default_whole_good (lowering p layout true []) (some_constructor (class_at p k).functions) k,
        (copy_whole_good (lowering p layout true (copied_type (class_at p k))) k, (destructor_whole_good (lowering p layout true []) k, tt)),
      )

  classes_good : (k n : ℕ) → ClassesFit p.classes → AllByRecursion IsGood (functions_of_classes p layout k n)
  classes_good k zero h = tt
  classes_good k (suc n) h = both_all IsGood (functions_of_class p layout k) (functions_of_classes p layout (k + 1) n) (class_good k h) (classes_good (k + 1) n h)

  pub program_good : IsChecked p → AllByRecursion IsGood (regions_of p layout).functions
  program_good c =
      let all = functions_fit p c in
      both_all IsGood (own_functions p layout 0 p.functions) (functions_of_classes p layout 0 (length p.classes)) (own_good 0 p.functions all.own) (classes_good 0 (length p.classes) all.methods)
