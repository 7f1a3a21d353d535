-- The functions of a class: what its constructors and its destructor have beside what their own tokens pay for.
use Rattle.std.proofs.Common.{◌≡◌, ◌∙◌, ℕ, ◌+◌, ◌*◌, ◌≤◌, ◌&&◌, Bool, true, false, not, List, [], ◌∷◌, ◌++◌, map, length, Option, if◌then◌else◌, refl, sym, ap, subst, arith}
use Rattle.std.specs.Prelude.{nat_lt, flat_map}
use Rattle.std.specs.List.{AllByRecursion}
use Rattle.std.proofs.Math.Nat.{mul-le-mul_left}
use Rattle.std.proofs.lemmas.List.{length-map}
use Rattle.cxx_ast.specs.declared.declaration.FuncKind.{FuncKind}
use Rattle.cxx_ast.specs.declared.declaration.FuncKind.TheVariants.{Plain, Method, Constructor, Destructor}
use Rattle.cxx_ast.specs.Plain.{Function, Class, Declaration, class_declaration, global_declaration, function_declaration, Program, Checked, Specification}
use Rattle.cxx_ast.specs.Broken.{Valid, broken, declaration_found, declarations_found, has_main}
use Rattle.cxx_ast.specs.Checked.{resolve_methods, resolve_class_tree, resolve_declarations, classes_of, checked, IsChecked, bad_exception}
use Rattle.cxx_ast.specs.ClassRules.{is_taken, base_found, field_found, method_names, twice_among, specials_found, size_found, method_found, class_rules_found}
use Rattle.cxx_ast.specs.Construct.{is_constructor_kind}
use Rattle.cxx_ast.specs.Declare.{at_the_start, definitions, declare_behind, head_environment, head_scope, method_of, next_class, class_entry, name_of}
use Rattle.cxx_ast.specs.DeclaredNames.{once_only_found}
use Rattle.cxx_ast.specs.Environment.{Environment}
use Rattle.cxx_ast.specs.Finding.{is_sound, breaks_if}
use Rattle.cxx_ast.specs.Rule.{redeclared, no_main}
use Rattle.cxx_ast.specs.TypeNames.{passing}
use Rattle.meaning_forms.specs.Construct.{is_constructor}
use Rattle.region_forms.specs.LowerProgram.{some_constructor}
use Rattle.class_layout.proofs.Sound.{front_sound, back_sound, nothing_refused}
use Rattle.source_bounds.proofs.Bound.{params_kept}
use Rattle.source_bounds.proofs.Functions.{extra_words}
use Rattle.source_bounds.proofs.Specials.{count, is_small, is_destructor_kind, one_destructor, few_constructors}
use Rattle.source_bounds.proofs.Sums.{flag}
use Rattle.cxx_ast.specs.declared.standard.Std.{Std}
use Rattle.cxx_ast.specs.Settled.{settle_function, settle_class}
use Rattle.cxx_ast.specs.Standards.{standard_found}
use Rattle.cxx_ast.proofs.Settled.{all_classes}

-- constructors with fewer than 16 parameters, and destructors
abbrev pub small_constructors : List Function → ℕ
small_constructors [] = 0
small_constructors (f ∷ fs) = flag (is_constructor_kind f.kind && nat_lt (length f.parameters) 16) + small_constructors fs

abbrev pub destructors : List Function → ℕ
destructors [] = 0
destructors (f ∷ fs) = flag (is_destructor_kind f.kind) + destructors fs

pub record FewSpecials (c : Class) : Type 0 where
  pub constructors : small_constructors c.functions ≤ 17
  pub destructors : destructors c.functions ≤ 1

small_kept : (env : Environment) (c : Class) (i : ℕ) (fs : List Function) →
    small_constructors (resolve_methods env c i fs) ≡ count is_small (map (method_of env c) fs)
small_kept env c i [] = refl
small_kept env c i (f ∷ fs) =
    let head = head_environment env c in
    let heads = head_scope env f.name in
    let same = params_kept head heads f.parameters ∙ sym (length-map f.parameters (passing head heads)) in
    omega (arith, ap (λ n. flag (is_constructor_kind f.kind && nat_lt n 16)) same, small_kept env c (i + 1) fs)

destructors_kept : (env : Environment) (c : Class) (i : ℕ) (fs : List Function) →
    destructors (resolve_methods env c i fs) ≡ count (λ s. is_destructor_kind s.form) (map (method_of env c) fs)
destructors_kept env c i [] = refl
destructors_kept env c i (f ∷ fs) = omega (arith, destructors_kept env c (i + 1) fs)

class_few : (env : Environment) (c : Class) → is_sound (class_rules_found env c) ≡ true → FewSpecials (resolve_class_tree env c)
class_few env c h =
    let names = map name_of c.members ++ method_names c.functions in
    let before = breaks_if (is_taken env c.name.text) redeclared c.name.place ++ base_found env c c.base ++ flat_map (field_found env c) c.members ++ twice_among names names in
    let own = specials_found (next_class env) c.name.text [] (class_entry env c).functions in
    let size = size_found (class_entry env c) c.name.place in
    let sound = back_sound before own (front_sound (before ++ own) size (front_sound (before ++ own ++ size) (flat_map (method_found env c) c.functions) h)) in
    record {
      constructors = omega (arith, small_kept env c 0 c.functions, few_constructors (next_class env) c.name.text (class_entry env c).functions sound);
      destructors = omega (arith, destructors_kept env c 0 c.functions, one_destructor (next_class env) c.name.text (class_entry env c).functions sound);
    }

classes_few : (env : Environment) (ds : List Declaration) → is_sound (declarations_found env ds) ≡ true → AllByRecursion FewSpecials (classes_of (resolve_declarations env ds))
classes_few env [] h = tt
classes_few env (class_declaration c ∷ ds) h =
    let rest = declarations_found (declare_behind env (class_declaration c)) ds in
    (class_few env c (front_sound (class_rules_found env c) rest h), classes_few (declare_behind env (class_declaration c)) ds (back_sound (class_rules_found env c) rest h))
classes_few env (global_declaration n value ∷ ds) h =
    classes_few (declare_behind env (global_declaration n value)) ds
    (back_sound (declaration_found env (global_declaration n value)) (declarations_found (declare_behind env (global_declaration n value)) ds) h)
classes_few env (function_declaration f ∷ ds) h =
    classes_few (declare_behind env (function_declaration f)) ds
    (back_sound (declaration_found env (function_declaration f)) (declarations_found (declare_behind env (function_declaration f)) ds) h)

-- so it is with the specifications that count
small_settled : (own : Option Specification) (fs : List Function) → small_constructors (map (settle_function own) fs) ≡ small_constructors fs
small_settled own [] = refl
small_settled own (f ∷ fs) = ap (λ n. flag (is_constructor_kind f.kind && nat_lt (length f.parameters) 16) + n) (small_settled own fs)

destructors_settled : (own : Option Specification) (fs : List Function) → destructors (map (settle_function own) fs) ≡ destructors fs
destructors_settled own [] = refl
destructors_settled own (f ∷ fs) = ap (λ n. flag (is_destructor_kind f.kind) + n) (destructors_settled own fs)

class_settled : (own : Option Specification) (c : Class) → FewSpecials c → FewSpecials (settle_class own c)
class_settled own c h = record {
  constructors = omega (arith, small_settled own c.functions, h.constructors);
  destructors = omega (arith, destructors_settled own c.functions, h.destructors);
}

program_few : (std : Std) (p : Program) → Valid std p → AllByRecursion FewSpecials (checked std p).classes
unfolding checked broken
program_few std p valid =
    let walked = declarations_found (at_the_start p.declarations) p.declarations in
    let once = once_only_found p.declarations in
    let main = breaks_if (not (has_main p.declarations)) no_main p.length in
    let own = standard_found std p.declarations in
    let right = nothing_refused (definitions p.declarations) (walked ++ once ++ main ++ own) valid in
    let sound = front_sound walked once (front_sound (walked ++ once) main (front_sound (walked ++ once ++ main) own right)) in
    all_classes FewSpecials class_settled std [] (bad_exception ∷ classes_of (resolve_declarations (at_the_start p.declarations) p.declarations))
    (record { constructors = omega arith; destructors = omega arith }, classes_few (at_the_start p.declarations) p.declarations sound)

pub checked_few : (p : Checked) → IsChecked p → AllByRecursion FewSpecials p.classes
checked_few p h = subst (λ q. AllByRecursion FewSpecials q.classes) (sym h.resolved) (program_few h.std h.program h.valid)

-- beside what tokens pay for

abbrev pub extras : ℕ → List Function → ℕ
extras m [] = 0
extras m (f ∷ fs) = extra_words f.kind m (length f.parameters) + extras m fs

extra_flagged : (k : FuncKind) (m n : ℕ) → extra_words k m n ≤ 16 * m * flag (is_constructor_kind k && nat_lt n 16) + 47 * m * flag (is_destructor_kind k)
extra_flagged Plain m n = omega arith
extra_flagged Method m n = omega arith
extra_flagged Destructor m n = omega arith
extra_flagged Constructor m n = go (nat_lt n 16)
  where
    go : (b : Bool) → (if b then 16 * m else 0) ≤ 16 * m * flag b + 47 * m * 0
    go true = omega arith
    go false = omega arith

one_more : (w a b : ℕ) → w * (a + b) ≡ w * a + w * b
one_more w a b = omega arith

extras_flagged : (m : ℕ) (fs : List Function) → extras m fs ≤ 16 * m * small_constructors fs + 47 * m * destructors fs
extras_flagged m [] = omega arith
extras_flagged m (f ∷ fs) =
    omega (
      arith,
      extra_flagged f.kind m (length f.parameters),
      extras_flagged m fs,
      one_more (16 * m) (flag (is_constructor_kind f.kind && nat_lt (length f.parameters) 16)) (small_constructors fs),
      one_more (47 * m) (flag (is_destructor_kind f.kind)) (destructors fs),
    )

-- where no constructor is declared none is small
none_small : (fs : List Function) → some_constructor fs ≡ false → small_constructors fs ≡ 0
none_small [] h = refl
none_small (f ∷ fs) h = go f.kind h (none_small fs)
  where
    none : (k : FuncKind) → is_constructor k ≡ false → is_constructor_kind k ≡ false
    none Plain e = refl
    none Method e = refl
    none Constructor e = absurd (cc e)
    none Destructor e = refl

    rest : (b : Bool) (k : FuncKind) → is_constructor k ≡ b → (if b then true else some_constructor fs) ≡ false → (some_constructor fs ≡ false → small_constructors fs ≡ 0) →
        flag (is_constructor_kind k && nat_lt (length f.parameters) 16) + small_constructors fs ≡ 0
    rest true k e q ih = absurd (cc q)
    rest false k e q ih = omega (arith, ih q, ap (λ b. flag (b && nat_lt (length f.parameters) 16)) (none k e))

    go : (k : FuncKind) → (if is_constructor k then true else some_constructor fs) ≡ false → (some_constructor fs ≡ false → small_constructors fs ≡ 0) →
        flag (is_constructor_kind k && nat_lt (length f.parameters) 16) + small_constructors fs ≡ 0
    go k q ih = rest (is_constructor k) k refl q ih

-- an implicit default constructor is there where no constructor is declared
pub all_extras : (m : ℕ) (c : Class) → FewSpecials c → extras m c.functions + (if some_constructor c.functions then 0 else 16 * m) ≤ 319 * m
all_extras m c few = go (some_constructor c.functions) refl
  where
    dtors : 47 * m * destructors c.functions ≤ 47 * m * 1
    dtors = mul-le-mul_left (47 * m) few.destructors

    ctors : 16 * m * small_constructors c.functions ≤ 16 * m * 17
    ctors = mul-le-mul_left (16 * m) few.constructors

    go : (b : Bool) → some_constructor c.functions ≡ b → extras m c.functions + (if b then 0 else 16 * m) ≤ 319 * m
    go true e = omega (arith, extras_flagged m c.functions, dtors, ctors)
    go false e =
        let nothing : 16 * m * small_constructors c.functions ≡ 0 = ap (λ n. 16 * m * n) (none_small c.functions e) ∙ omega arith in
        omega (arith, extras_flagged m c.functions, dtors, nothing)
