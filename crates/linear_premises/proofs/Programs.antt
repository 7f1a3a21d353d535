-- So it is with all functions of checked programs, whose code is as asked.
use Rattle.std.proofs.Common.{◌≡◌, ℕ, zero, suc, ◌+◌, ◌==◌, true, false, List, [], ◌∷◌, map, length, Option, Some, None, refl, ap, subst, arith}
use Rattle.std.specs.Prelude.{slice_get, unwrap_or}
use Rattle.std.proofs.lemmas.List.{length-map}
use Rattle.std.specs.List.{AllByRecursion}
use Rattle.cxx_ast.specs.Plain.{Function, Checked}
use Rattle.meaning_forms.specs.Class.{class_at}
use Rattle.region_forms.specs.Form.{Op, RegionFunction, Regions}
use Rattle.region_forms.specs.Layout.{Layout, layout_of}
use Rattle.region_forms.specs.Numbering.{variables_of, type_rows}
use Rattle.region_forms.specs.LowerProgram.{lowering, copied_type, some_constructor, declared_function, implicit_default_function, implicit_copy_function, implicit_destructor_function, own_functions, functions_of_class, functions_of_classes, regions_of}
use Rattle.machine_forms.specs.Emitted.{listed_type}
use Rattle.linear_forms.specs.Linear.{LinearOp, plain}
use Rattle.linear_forms.specs.Unit.{function_code, unit_of}
use Rattle.linear_forms.specs.UnitRun.{no_code, code_at, code_of}
use Rattle.region_formed.proofs.Sources.{source_well_formed}
use Rattle.address_bounds.specs.Everywhere.{RegionAll}
use Rattle.source_bounds.proofs.Lists.{both_all}
use Rattle.source_bounds.proofs.Types.{bad_exception_is_there}
use Rattle.flight_homes.specs.Lives.{OpKnown, anything}
use Rattle.flight_homes.proofs.Programs.{code_is}
use Rattle.linear_invariant.proofs.Programs.{programs_fit}
use Rattle.linear_premises.specs.Premises.{CheckedProgramsFit}
use Rattle.linear_premises.proofs.Expressions.{gives}
use Rattle.linear_premises.proofs.Statements.{body_good, default_whole_good, copy_whole_good, destructor_whole_good}
use Rattle.linear_premises.proofs.Linear.{function_gives}

abbrev IsGood : RegionFunction → Type 0
IsGood f = RegionAll gives f.body

module _ (p : Checked) (layout : Layout) where
  own_good : (n : ℕ) (fs : List Function) → AllByRecursion IsGood (own_functions p layout n fs)
  own_good n [] = tt
  own_good n (f ∷ fs) = (body_good (lowering p layout false (variables_of f)) (n == p.main) 0 f, own_good (n + 1) fs)

  methods_good : (k : ℕ) (fs : List Function) → AllByRecursion IsGood (map (declared_function p layout true false k) fs)
  methods_good k [] = tt
  methods_good k (f ∷ fs) = (body_good (lowering p layout true (variables_of f)) false k f, methods_good k fs)

  class_good : (k : ℕ) → AllByRecursion IsGood (functions_of_class p layout k)
  class_good k =
      both_all IsGood (map (declared_function p layout true false k) (class_at p k).functions)
      (implicit_default_function p layout k ∷ implicit_copy_function p layout k ∷ implicit_destructor_function p layout k ∷ []) (methods_good k (class_at p k).functions) (
        default_whole_good (lowering p layout true []) (some_constructor (class_at p k).functions) k,
        (copy_whole_good (lowering p layout true (copied_type (class_at p k))) k, (destructor_whole_good (lowering p layout true []) k, tt)),
      )

  classes_good : (k n : ℕ) → AllByRecursion IsGood (functions_of_classes p layout k n)
  classes_good k zero = tt
  classes_good k (suc n) = both_all IsGood (functions_of_class p layout k) (functions_of_classes p layout (k + 1) n) (class_good k) (classes_good (k + 1) n)

  program_good : AllByRecursion IsGood (regions_of p layout).functions
  program_good = both_all IsGood (own_functions p layout 0 p.functions) (functions_of_classes p layout 0 (length p.classes)) (own_good 0 p.functions) (classes_good 0 (length p.classes))

one_good : (fs : List RegionFunction) (n : ℕ) (f : RegionFunction) → AllByRecursion IsGood fs → slice_get fs n ≡ Some f → IsGood f
one_good [] n f h e = absurd (cc e)
one_good (g ∷ fs) zero f h e = let same : g ≡ f = cc e in subst IsGood same h.0
one_good (g ∷ fs) (suc n) f h e = one_good fs n f h.1 e

nothing_there : {A B : Type 0} (f : A → B) (xs : List A) (n : ℕ) → slice_get xs n ≡ None → slice_get (map f xs) n ≡ None
nothing_there f [] n e = refl
nothing_there f (x ∷ xs) zero e = absurd (cc e)
nothing_there f (x ∷ xs) (suc n) e = nothing_there f xs n e

empty : {X : Type 0} (p : ℕ) (o : LinearOp) → slice_get {X = LinearOp} [] p ≡ Some o → X
empty p o e = absurd (cc e)

-- so the code of each function gives functions to what installs handlers
code_gives : (r : Regions) → AllByRecursion IsGood r.functions → (n q : ℕ) (o : Op) → (code_of (unit_of r)).op_at n q ≡ Some (plain o) → OpKnown anything o
code_gives r good n q o e = go (slice_get r.functions n) refl
  where
    go : (f : Option RegionFunction) → slice_get r.functions n ≡ f → OpKnown anything o
    go None i =
        let none : code_at (unit_of r) n ≡ no_code = ap (λ x. unwrap_or x no_code) (nothing_there function_code r.functions n i) in
        empty q (plain o) (subst (λ g. slice_get g.ops q ≡ Some (plain o)) none e)
    go (Some f) i = function_gives f (one_good r.functions n f good i) q o (subst (λ g. slice_get g.ops q ≡ Some (plain o)) (code_is r n f i) e)

pub checked_programs_fit : CheckedProgramsFit
checked_programs_fit p h =
    let r = regions_of p (layout_of p) in
    let there = bad_exception_is_there p h in
    let count = length-map (type_rows p) listed_type in
    programs_fit r (source_well_formed p h) (omega (arith, there, count)) (record { operations = code_gives r (program_good p (layout_of p)); bad = tt; none = tt })
