-- Checked programs are shallow.
use Rattle.std.proofs.Common.{◌≡◌, refl, sym, subst, ℕ, ◌+◌, ◌-◌, ◌≤◌, Bool, true, false, List, [], ◌∷◌, length, length-append, map, Option, Some, None, arith}
use Rattle.std.specs.Prelude.{nat_le, if◌then◌else◌}
use Rattle.std.specs.List.{AllByRecursion, list_all}
use Rattle.std.proofs.lemmas.Bool.{le-leb, and_from}
use Rattle.cxx_ast.specs.declared.name.Bound.TheVariants.{Func, Method}
use Rattle.cxx_ast.specs.declared.standard.Std.{Std}
use Rattle.cxx_ast.specs.Plain.{Specification, Statements, Initialiser, Function, Class, Declaration, class_declaration, global_declaration, function_declaration, Program, Checked}
use Rattle.cxx_ast.specs.Checked.{IsChecked, bad_exception, resolve_methods, resolve_declarations, classes_of, functions_of, checked}
use Rattle.cxx_ast.specs.Declare.{next_class, head_environment, head_scope, declare_behind, at_the_start, body_environment, function_scope}
use Rattle.cxx_ast.specs.Depth.{below_initialisers, below_body, below_function, below_functions, depth}
use Rattle.cxx_ast.specs.Environment.{Environment}
use Rattle.cxx_ast.specs.Locals.{outermost, declare_params}
use Rattle.cxx_ast.specs.Resolve.{function_number, resolve_body, resolve_function}
use Rattle.cxx_ast.specs.Settled.{settle_function, settle_class}
use Rattle.cxx_ast.proofs.Settled.{all_classes, all_functions}
use Rattle.cxx_ast.specs.Sizes.{most_levels}
use Rattle.cxx_ast.specs.TypeNames.{has_body}
use Rattle.region_forms.specs.Layout.{Layout, layout_of}
use Rattle.region_forms.specs.Numbering.{variables_of, declared_in_body}
use Rattle.class_layout.specs.Fit.{CheckedClassesFit}
use Rattle.landing_pads.specs.Frames.{laid_bytes, AllCheckedFramesFit}
use Rattle.scope_meaning.specs.Levels.{initialisers_fit, body_levels, function_fits, part_levels, level_limit, class_fits}
use Rattle.evaluation_levels.specs.Shallow.{CheckedProgramsAreShallow}
use Rattle.evaluation_levels.proofs.Resolved.{function_same}
use Rattle.evaluation_levels.proofs.Deep.{expressions_deep, statements_deep}
use Rattle.evaluation_levels.proofs.Sizes.{HaveBytes, layouts_have_bytes, slots_bytes, HasFewParts, classes_have_few}

-- ---- the depth of functions whose names are bound

abbrev IsDeep : Function → Type 0
IsDeep f = below_function f ≤ 64

abbrev AreDeep : List Function → Type 0
AreDeep fs = AllByRecursion IsDeep fs

methods_deep : (env : Environment) (c : Class) (i : ℕ) (fs : List Function) → below_functions fs ≤ 64 → AreDeep (resolve_methods env c i fs)
methods_deep env c i [] h = tt
methods_deep env c i (f ∷ fs) h =
    let there = declare_behind env (class_declaration c) in
    let same = function_same (head_environment env c) (head_scope env f.name) there (function_scope there (Some (next_class env)) f.result) (Method (next_class env) i) f in
    (omega (arith, same, h), methods_deep env c (i + 1) fs (omega (arith, h)))

classes_deep : (env : Environment) (ds : List Declaration) → depth ds ≤ 64 → AllByRecursion (λ c. AreDeep c.functions) (classes_of (resolve_declarations env ds))
classes_deep env [] h = tt
classes_deep env (class_declaration c ∷ ds) h = (methods_deep env c 0 c.functions (omega (arith, h)), classes_deep (declare_behind env (class_declaration c)) ds (omega (arith, h)))
classes_deep env (global_declaration n value ∷ ds) h = classes_deep (declare_behind env (global_declaration n value)) ds (omega (arith, h))
classes_deep env (function_declaration f ∷ ds) h = classes_deep (declare_behind env (function_declaration f)) ds (omega (arith, h))

where_defined : (b : Bool) (f : Function) (fs : List Function) → IsDeep f → AreDeep fs → AreDeep (if b then f ∷ fs else fs)
where_defined true f fs h k = (h, k)
where_defined false f fs h k = k

functions_deep : (env : Environment) (ds : List Declaration) → depth ds ≤ 64 → AreDeep (functions_of (resolve_declarations env ds))
functions_deep env [] h = tt
functions_deep env (class_declaration c ∷ ds) h = functions_deep (declare_behind env (class_declaration c)) ds (omega (arith, h))
functions_deep env (global_declaration n value ∷ ds) h = functions_deep (declare_behind env (global_declaration n value)) ds (omega (arith, h))
functions_deep env (function_declaration f ∷ ds) h =
    let there = body_environment env f in
    let sc = function_scope env None f.result in
    let bound = Func (function_number env f.name.text) in
    let same = function_same env outermost there sc bound f in
    where_defined (has_body (resolve_body there (declare_params there f.parameters sc) f.body)) (resolve_function env outermost there sc bound f) (functions_of (resolve_declarations (declare_behind env (function_declaration f)) ds))
    (omega (arith, same, h)) (functions_deep (declare_behind env (function_declaration f)) ds (omega (arith, h)))

record ProgramDeep (p : Checked) : Type 0 where
  functions : AreDeep p.functions
  classes : AllByRecursion (λ c. AreDeep c.functions) p.classes

-- nothing of this is said of specifications
function_settled : (own : Option Specification) (f : Function) → IsDeep f → IsDeep (settle_function own f)
function_settled own f h = h

class_settled : (own : Option Specification) (c : Class) → AreDeep c.functions → AreDeep (settle_class own c).functions
class_settled own c h = all_functions IsDeep function_settled own c.functions h

program_deep : (std : Std) (p : Program) → depth p.declarations ≤ 64 → ProgramDeep (checked std p)
unfolding checked
program_deep std p h = record {
  functions = all_functions IsDeep function_settled None (functions_of (resolve_declarations (at_the_start p.declarations) p.declarations)) (functions_deep (at_the_start p.declarations) p.declarations h);
  classes = all_classes (λ c. AreDeep c.functions) class_settled std [] (bad_exception ∷ classes_of (resolve_declarations (at_the_start p.declarations) p.declarations))
      (tt, classes_deep (at_the_start p.declarations) p.declarations h);
}

checked_deep : (p : Checked) → IsChecked p → ProgramDeep p
checked_deep p h = subst ProgramDeep (sym h.resolved) (program_deep h.std h.program h.tree.depth)

-- ---- what fits

initialisers_do : (room : ℕ) (is : List Initialiser) → below_initialisers is ≤ room → initialisers_fit room is ≡ true
initialisers_do room [] h = refl
initialisers_do room (i ∷ is) h =
    and_from (nat_le (most_levels i.arguments) room) (initialisers_fit room is) (le-leb (most_levels i.arguments) room (omega (arith, h, expressions_deep i.arguments))) (initialisers_do room is (omega (arith, h)))

body_deep : (o : Option Statements) → body_levels o ≤ below_body o + length (declared_in_body o)
body_deep None = omega arith
body_deep (Some ss) = omega (arith, statements_deep ss)

function_does : (l : Layout) (room : ℕ) (f : Function) → HaveBytes l.classes → 300 ≤ room → IsDeep f → laid_bytes l f ≤ 1536 → function_fits room f ≡ true
function_does l room f bytes many deep small =
    let variables = slots_bytes l (variables_of f) bytes in
    let both = length-append (map (λ x. x.ty) f.parameters) (declared_in_body f.body) in
    and_from (initialisers_fit room f.initialisers) (nat_le (body_levels f.body) room) (initialisers_do room f.initialisers (omega (arith, deep, many)))
    (le-leb (body_levels f.body) room (omega (arith, body_deep f.body, variables, both, deep, small, many)))

functions_do : (l : Layout) (room : ℕ) (fs : List Function) → HaveBytes l.classes → 300 ≤ room → AreDeep fs → AllByRecursion (λ f. laid_bytes l f ≤ 1536) fs → list_all (function_fits room) fs ≡ true
functions_do l room [] bytes many deep small = refl
functions_do l room (f ∷ fs) bytes many deep small =
    and_from (function_fits room f) (list_all (function_fits room) fs) (function_does l room f bytes many deep.0 small.0) (functions_do l room fs bytes many deep.1 small.1)

classes_do : (l : Layout) (cs : List Class) → HaveBytes l.classes → AllByRecursion HasFewParts cs → AllByRecursion (λ c. AreDeep c.functions) cs → AllByRecursion (λ c. AllByRecursion (λ f. laid_bytes l f ≤ 1536) c.functions) cs →
    list_all class_fits cs ≡ true
classes_do l [] bytes few deep small = refl
classes_do l (c ∷ cs) bytes few deep small =
    and_from (class_fits c) (list_all class_fits cs)
    (and_from (nat_le (part_levels c) level_limit) (list_all (function_fits (level_limit - part_levels c)) c.functions) (le-leb (part_levels c) level_limit (omega (arith, few.0)))
    (functions_do l (level_limit - part_levels c) c.functions bytes (omega (arith, few.0)) deep.0 small.0))
    (classes_do l cs bytes few.1 deep.1 small.1)

pub checked_programs_are_shallow : CheckedClassesFit → AllCheckedFramesFit → CheckedProgramsAreShallow
checked_programs_are_shallow fit frames p h =
    let l = layout_of p in
    let deep = checked_deep p h in
    let small = (frames p h).variables in
    let bytes = layouts_have_bytes [] p.classes tt in
    and_from (list_all (function_fits level_limit) p.functions) (list_all class_fits p.classes) (functions_do l level_limit p.functions bytes (omega arith) deep.functions small.functions)
    (classes_do l p.classes bytes (classes_have_few [] p.classes tt (fit p h)) deep.classes small.methods)
