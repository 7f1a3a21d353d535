-- The frames of a checked program's functions.
use Rattle.std.proofs.Common.{◌+◌, ◌≤◌, ℕ, zero, suc, Bool, true, false, ◌==◌, List, [], ◌∷◌, ◌++◌, map, length, Option, Some, None, if◌then◌else◌, refl, sym, subst, arith}
use Rattle.std.specs.Prelude.{slice_get, unwrap_or}
use Rattle.std.specs.List.{AllByRecursion}
use Rattle.cxx_ast.specs.declared.name.Bound.TheVariants.{Func, Method}
use Rattle.cxx_ast.specs.declared.standard.Std.{Std}
use Rattle.cxx_ast.specs.Settled.{settle_function}
use Rattle.cxx_ast.proofs.Settled.{all_classes, all_functions}
use Rattle.cxx_ast.specs.Plain.{Specification, Function, Class, Declaration, class_declaration, global_declaration, function_declaration, Program, Checked}
use Rattle.cxx_ast.specs.Environment.{Environment}
use Rattle.cxx_ast.specs.Locals.{outermost, declare_params}
use Rattle.cxx_ast.specs.TypeNames.{has_body}
use Rattle.cxx_ast.specs.Resolve.{function_number, resolve_body, resolve_function}
use Rattle.cxx_ast.specs.Declare.{at_the_start, declare_behind, body_environment, function_scope, head_environment, head_scope, next_class}
use Rattle.cxx_ast.specs.Checked.{resolve_methods, resolve_declarations, classes_of, functions_of, bad_exception, checked, IsChecked}
use Rattle.meaning_forms.specs.Class.{class_at, no_class}
use Rattle.region_forms.specs.Form.{RegionFunction}
use Rattle.region_forms.specs.Layout.{Layout, layout_of}
use Rattle.region_forms.specs.LowerProgram.{declared_function, own_functions, functions_of_class, functions_of_classes, regions_of}
use Rattle.linear_forms.specs.Linear.{FunctionCode}
use Rattle.linear_forms.specs.Unit.{function_code, unit_of}
use Rattle.landing_pads.specs.Numbered.{VariablesAreNumbered}
use Rattle.landing_pads.specs.Frames.{VariablesAreSmall, laid_bytes, AllCheckedFramesFit}
use Rattle.landing_pads.proofs.Resolved.{function_numbered}
use Rattle.landing_pads.proofs.CheckedBytes.{checked_within}
use Rattle.landing_pads.proofs.SourceFrames.{source_frames_fit}

-- the functions of a program whose names are bound

abbrev pub Numbered : List Function → Type 0
Numbered fs = AllByRecursion VariablesAreNumbered fs

methods_numbered : (env : Environment) (c : Class) (i : ℕ) (fs : List Function) → Numbered (resolve_methods env c i fs)
methods_numbered env c i [] = tt
methods_numbered env c i (f ∷ fs) =
    let env' = declare_behind env (class_declaration c) in (
      function_numbered (head_environment env c) (head_scope env f.name) env' (function_scope env' (Some (next_class env)) f.result) (Method (next_class env) i) f (tt, tt) refl,
      methods_numbered env c (i + 1) fs,
    )

abbrev pub ClassesNumbered : List Class → Type 0
ClassesNumbered cs = AllByRecursion (λ c. Numbered c.functions) cs

classes_numbered : (env : Environment) (ds : List Declaration) → ClassesNumbered (classes_of (resolve_declarations env ds))
classes_numbered env [] = tt
classes_numbered env (class_declaration c ∷ ds) = (methods_numbered env c 0 c.functions, classes_numbered (declare_behind env (class_declaration c)) ds)
classes_numbered env (global_declaration n value ∷ ds) = classes_numbered (declare_behind env (global_declaration n value)) ds
classes_numbered env (function_declaration f ∷ ds) = classes_numbered (declare_behind env (function_declaration f)) ds

where_defined : (b : Bool) (f : Function) (fs : List Function) → VariablesAreNumbered f → Numbered fs → Numbered (if b then f ∷ fs else fs)
where_defined true f fs h k = (h, k)
where_defined false f fs h k = k

functions_numbered : (env : Environment) (ds : List Declaration) → Numbered (functions_of (resolve_declarations env ds))
functions_numbered env [] = tt
functions_numbered env (class_declaration c ∷ ds) = functions_numbered (declare_behind env (class_declaration c)) ds
functions_numbered env (global_declaration n value ∷ ds) = functions_numbered (declare_behind env (global_declaration n value)) ds
functions_numbered env (function_declaration f ∷ ds) =
    let env' = body_environment env f in
    let sc = function_scope env None f.result in
    where_defined (has_body (resolve_body env' (declare_params env' f.parameters sc) f.body))
    (resolve_function env outermost env' sc (Func (function_number env f.name.text)) f) (functions_of (resolve_declarations (declare_behind env (function_declaration f)) ds))
    (function_numbered env outermost env' sc (Func (function_number env f.name.text)) f (tt, tt) refl) (functions_numbered (declare_behind env (function_declaration f)) ds)

-- all functions of a program
pub record ProgramNumbered (p : Checked) : Type 0 where
  pub functions : Numbered p.functions
  pub classes : ClassesNumbered p.classes

-- so they are with the specifications that count
numbered_settled : (own : Option Specification) (f : Function) → VariablesAreNumbered f → VariablesAreNumbered (settle_function own f)
numbered_settled own f h = record { initialisers = h.initialisers; body = h.body }

program_numbered : (std : Std) (p : Program) → ProgramNumbered (checked std p)
unfolding checked
program_numbered std p =
    let ds = resolve_declarations (at_the_start p.declarations) p.declarations in
    record {
      functions = all_functions VariablesAreNumbered numbered_settled None (functions_of ds) (functions_numbered (at_the_start p.declarations) p.declarations);
      classes = all_classes (λ c. Numbered c.functions) (λ own c. all_functions VariablesAreNumbered numbered_settled own c.functions) std [] (bad_exception ∷ classes_of ds)
          (tt, classes_numbered (at_the_start p.declarations) p.declarations);
    }

pub checked_numbered : (p : Checked) → IsChecked p → ProgramNumbered p
checked_numbered p h = subst ProgramNumbered (sym h.resolved) (program_numbered h.std h.program)

-- frames

abbrev Small : RegionFunction → Type 0
Small f = (function_code f).frame ≤ 1600

both_small : (a b : List RegionFunction) → AllByRecursion Small a → AllByRecursion Small b → AllByRecursion Small (a ++ b)
both_small [] b h k = k
both_small (f ∷ a) b h k = (h.0, both_small a b h.1 k)

at_or : {A : Type 0} → (P : A → Type 0) (xs : List A) (i : ℕ) (other : A) → AllByRecursion P xs → P other → P (unwrap_or (slice_get xs i) other)
at_or P [] zero other h k = k
at_or P [] (suc i) other h k = k
at_or P (x ∷ xs) zero other h k = h.0
at_or P (x ∷ xs) (suc i) other h k = at_or P xs i other h.1 k

module _ (p : Checked) (l : Layout) where
  abbrev Within : List Function → Type 0
  Within fs = AllByRecursion (λ f. laid_bytes l f ≤ 1536) fs

  declared_small : (is_member is_main : Bool) (k : ℕ) (f : Function) → VariablesAreNumbered f → laid_bytes l f ≤ 1536 → Small (declared_function p l is_member is_main k f)
  declared_small is_member is_main k f h b = let fits = (source_frames_fit p l).declared is_member is_main k f h b in omega (arith, fits)

  own_small : (n : ℕ) (fs : List Function) → Numbered fs → Within fs → AllByRecursion Small (own_functions p l n fs)
  own_small n [] h b = tt
  own_small n (f ∷ fs) h b = (declared_small false (n == p.main) 0 f h.0 b.0, own_small (n + 1) fs h.1 b.1)

  methods_small : (k : ℕ) (fs : List Function) → Numbered fs → Within fs → AllByRecursion Small (map (declared_function p l true false k) fs)
  methods_small k [] h b = tt
  methods_small k (f ∷ fs) h b = (declared_small true false k f h.0 b.0, methods_small k fs h.1 b.1)

  class_small : (k : ℕ) → Numbered (class_at p k).functions → Within (class_at p k).functions → AllByRecursion Small (functions_of_class p l k)
  class_small k h b =
      let fits = source_frames_fit p l in
      both_small (map (declared_function p l true false k) (class_at p k).functions) _ (methods_small k (class_at p k).functions h b)
      (omega (arith, fits.default k), (omega (arith, fits.copy k), (omega (arith, fits.destructor k), tt)))

  classes_small : (k n : ℕ) → ClassesNumbered p.classes → AllByRecursion (λ c. Within c.functions) p.classes → AllByRecursion Small (functions_of_classes p l k n)
  classes_small k zero h b = tt
  classes_small k (suc n) h b =
      both_small (functions_of_class p l k) _
      (class_small k (at_or (λ c. Numbered c.functions) p.classes k no_class h tt) (at_or (λ c. Within c.functions) p.classes k no_class b tt))
      (classes_small (k + 1) n h b)

coded : (fs : List RegionFunction) → AllByRecursion Small fs → AllByRecursion (λ g. g.frame ≤ 1600) (map function_code fs)
coded [] h = tt
coded (f ∷ fs) h = (h.0, coded fs h.1)

-- what 1,600 bytes hold 2,032 do
nameable : (gs : List FunctionCode) → AllByRecursion (λ g. g.frame ≤ 1600) gs → AllByRecursion (λ g. g.frame ≤ 2032) gs
nameable [] h = tt
nameable (g ∷ gs) h = (omega (arith, h.0), nameable gs h.1)

checked_small : (p : Checked) (l : Layout) → IsChecked p → VariablesAreSmall p l → AllByRecursion (λ g. g.frame ≤ 1600) (unit_of (regions_of p l)).functions
checked_small p l h small =
    let numbered = checked_numbered p h in
    coded (regions_of p l).functions
    (both_small (own_functions p l 0 p.functions) _ (own_small p l 0 p.functions numbered.functions small.functions)
    (classes_small p l 0 (length p.classes) numbered.classes small.methods))

pub checked_frames_fit : AllCheckedFramesFit
checked_frames_fit p h =
    let within = checked_within p h in
    let small = checked_small p (layout_of p) h within in
    record { variables = within; small = small; frames = nameable _ small }
