-- No operation of a checked program's code needs more registers than there are.
use Rattle.std.proofs.Common.{ℕ, zero, suc, ◌+◌, ◌≤◌, ◌==◌, true, false, List, [], ◌∷◌, map, length}
use Rattle.std.specs.List.{AllByRecursion}
use Rattle.cxx_ast.specs.Plain.{Checked, Function}
use Rattle.meaning_forms.specs.Class.{class_at, no_class}
use Rattle.region_forms.specs.Form.{RegionFunction}
use Rattle.region_forms.specs.Layout.{Layout}
use Rattle.region_forms.specs.Numbering.{variables_of}
use Rattle.region_forms.specs.LowerProgram.{lowering, copied_type, some_constructor, declared_function, implicit_default_function, implicit_copy_function, implicit_destructor_function, own_functions, functions_of_class, functions_of_classes, regions_of}
use Rattle.linear_forms.specs.Unit.{function_code}
use Rattle.machine_forms.specs.Bounds.{LinearFits}
use Rattle.source_bounds.specs.BuiltinCalls.{FunctionCallsFit}
use Rattle.source_bounds.specs.LeastTokens.{function_tokens}
use Rattle.source_bounds.specs.RegisterWeights.{RegionFits}
use Rattle.source_bounds.specs.RegisterLaws.{RegistersSuffice}
use Rattle.source_bounds.proofs.Limits.{checked_short}
use Rattle.source_bounds.proofs.RegisterCode.{function_fits}
use Rattle.source_bounds.proofs.RegisterStatements.{body_fits, default_whole_fits, copy_whole_fits, destructor_whole_fits}
use Rattle.source_bounds.proofs.ArityPrograms.{builtins_take_few}
use Rattle.source_bounds.proofs.Lists.{both_all, at_or}

abbrev Fit : List RegionFunction → Type 0
Fit fs = AllByRecursion (λ f. RegionFits f.body) fs

abbrev Short : List Function → Type 0
Short fs = AllByRecursion (λ f. function_tokens f ≤ 2000) fs

module _ (p : Checked) (layout : Layout) where
  own_fit : (n : ℕ) (fs : List Function) → Short fs → AllByRecursion FunctionCallsFit fs → Fit (own_functions p layout n fs)
  own_fit n [] h c = tt
  own_fit n (f ∷ fs) h c = (body_fits (lowering p layout false (variables_of f)) (n == p.main) 0 f h.0 c.0, own_fit (n + 1) fs h.1 c.1)

  methods_fit : (k : ℕ) (fs : List Function) → Short fs → AllByRecursion FunctionCallsFit fs → Fit (map (declared_function p layout true false k) fs)
  methods_fit k [] h c = tt
  methods_fit k (f ∷ fs) h c = (body_fits (lowering p layout true (variables_of f)) false k f h.0 c.0, methods_fit k fs h.1 c.1)

  class_fits : (k : ℕ) → Short (class_at p k).functions → AllByRecursion FunctionCallsFit (class_at p k).functions → Fit (functions_of_class p layout k)
  class_fits k h c =
      both_all (λ f. RegionFits f.body) (map (declared_function p layout true false k) (class_at p k).functions)
      (implicit_default_function p layout k ∷ implicit_copy_function p layout k ∷ implicit_destructor_function p layout k ∷ []) (methods_fit k (class_at p k).functions h c) (
        default_whole_fits (lowering p layout true []) (some_constructor (class_at p k).functions) k,
        (copy_whole_fits (lowering p layout true (copied_type (class_at p k))) k, (destructor_whole_fits (lowering p layout true []) k, tt)),
      )

  classes_fit : (k n : ℕ) → AllByRecursion (λ c. Short c.functions) p.classes → AllByRecursion (λ c. AllByRecursion FunctionCallsFit c.functions) p.classes →
      Fit (functions_of_classes p layout k n)
  classes_fit k zero h c = tt
  classes_fit k (suc n) h c =
      both_all (λ f. RegionFits f.body) (functions_of_class p layout k) (functions_of_classes p layout (k + 1) n)
      (class_fits k (at_or (λ x. Short x.functions) p.classes k no_class h tt) (at_or (λ x. AllByRecursion FunctionCallsFit x.functions) p.classes k no_class c tt))
      (classes_fit (k + 1) n h c)

all_fit : (fs : List RegionFunction) → Fit fs → AllByRecursion (λ g. AllByRecursion LinearFits g.ops) (map function_code fs)
all_fit [] h = tt
all_fit (f ∷ fs) h = (function_fits f h.0, all_fit fs h.1)

pub registers_suffice : RegistersSuffice
registers_suffice p l h =
    let c = builtins_take_few p h in
    let short = checked_short p h in
    all_fit (regions_of p l).functions
    (both_all (λ f. RegionFits f.body) (own_functions p l 0 p.functions) (functions_of_classes p l 0 (length p.classes)) (own_fit p l 0 p.functions short.own c.functions)
    (classes_fit p l 0 (length p.classes) short.methods c.methods))
