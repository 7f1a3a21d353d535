-- A class that a type's name is bound to is one of a program's classes, and each has a row.
use Rattle.std.proofs.Common.{◌≡◌, ◌∙◌, ℕ, suc, ◌+◌, ◌<◌, ◌≤◌, Bool, true, false, List, [], ◌∷◌, ◌++◌, map, length, Option, Some, None, if◌then◌else◌, refl, sym, ap, subst, arith}
use Rattle.std.proofs.lemmas.List.{length-append, length-map}
use Rattle.std.specs.List.{AllByRecursion}
use Rattle.cxx_ast.specs.declared.name.Bound.{Bound}
use Rattle.cxx_ast.specs.declared.name.Bound.TheVariants.{Class as ClassBound, Func, Method}
use Rattle.cxx_ast.specs.declared.name.Name.{Name}
use Rattle.cxx_ast.specs.declared.types.Ty.{Ty}
use Rattle.cxx_ast.specs.declared.types.Ty.TheVariants.{Int, Void, Object, IntRef, ObjectRef}
use Rattle.cxx_ast.specs.Plain.{Statement, block, empty, if_else, while, return, break, continue, throw, try, assign, evaluate, local_int, local_ref, local_object, Else, no_else, else_do, Statements, no_statements, statement_then, Handlers, no_handlers, handler_then, Function, Class, Declaration, class_declaration, global_declaration, function_declaration, Program, Checked, Specification, listed, noexcept}
use Rattle.cxx_ast.specs.Finding.{is_sound}
use Rattle.cxx_ast.specs.Spelling.{is_bad_exception}
use Rattle.cxx_ast.specs.Environment.{global_thing, class_thing, Environment, Scope, Meaning, unknown, a_local, a_field, a_method, a_global, a_function, a_class, a_builtin}
use Rattle.cxx_ast.specs.Lookup.{look}
use Rattle.cxx_ast.specs.TypeNames.{class_wanted, has_body, signature}
use Rattle.cxx_ast.specs.Locals.{inner, after, handler_scope, caught_count, locals_in, locals_of, scope_behind, declare_params, outermost}
use Rattle.cxx_ast.specs.Resolve.{bind, bound_of, function_number, resolve_class, resolve_type, resolve_statement, resolve_else, resolve_statements, resolve_handlers, resolve_specification, resolve_body, resolve_function}
use Rattle.cxx_ast.specs.Declare.{next_class, with_class_name, head_environment, head_scope, class_entry, declare_behind, at_the_start, body_environment, function_scope}
use Rattle.cxx_ast.specs.Checked.{resolve_methods, resolve_declarations, classes_of, functions_of, checked, IsChecked, bad_exception}
use Rattle.meaning_forms.specs.Class.{class_named}
use Rattle.region_forms.specs.Numbering.{type_rows, class_row, class_rows}
use Rattle.class_layout.proofs.Named.{Known, known_more, name_stands}
use Rattle.class_layout.proofs.Declared.{named_classes, named_known, behind_function}
use Rattle.source_bounds.specs.NamedTypes.{HasRow, NamesRows, ElseNamesRows, AllNameRows, HandlersNameRows, BodyNamesRows, HaveRows, SpecificationNamesRows, FunctionNamesRows}
use Rattle.cxx_ast.specs.declared.standard.Std.{Std}
use Rattle.cxx_ast.specs.Grammatical.{Each}
use Rattle.cxx_ast.specs.Settled.{Allowed, allowed_by, destructor_of, given, settle_function, settle_classes}
use Rattle.cxx_ast.proofs.Settled.{OfTypes, OfClass, settled_kept, settled_types, settled_length}

-- the name of a class is bound to one of the first n, whether or not it stands for a class
class_below : (n : ℕ) (env : Environment) (sc : Scope) (name : Name) → 0 < n → Known n env.names → class_named (resolve_class env sc name) < n
class_below n env sc name some known =
    go (is_bad_exception name) (look env sc name)
    (λ s. let there = name_stands n env sc name some known s in subst (λ k. k < n) (sym there.name_is) there.below)
  where
    go : (b : Bool) (m : Meaning) → (is_sound (if b then [] else class_wanted name.place m) ≡ true →
        class_named (if b then bind name (ClassBound 0) else bind name (bound_of env m)) < n) →
        class_named (if b then bind name (ClassBound 0) else bind name (bound_of env m)) < n
    go true m h = h refl
    go false (a_class j) h = h refl
    go false unknown h = some
    go false (a_local v) h = some
    go false (a_field i j kind) h = some
    go false (a_method i j x) h = some
    go false (a_global g) h = some
    go false (a_function x) h = some
    go false (a_builtin x) h = some

-- the names of an environment stand for classes among the first n, and these have rows
module _ (n rows : ℕ) (some : 0 < n) (few : n + 1 ≤ rows) where
  type_has_row : (env : Environment) → Known n env.names → (sc : Scope) (t : Ty) → HasRow rows (resolve_type env sc t)
  type_has_row env known sc Int = omega (arith, few)
  type_has_row env known sc Void = omega (arith, few)
  type_has_row env known sc (Object c) = omega (arith, few, class_below n env sc c some known)
  type_has_row env known sc (IntRef const) = omega (arith, few)
  type_has_row env known sc (ObjectRef const c) = omega (arith, few, class_below n env sc c some known)

  module _ (env : Environment) (known : Known n env.names) where
    mutual
      statement_named : (s : Statement) (sc : Scope) → NamesRows rows (resolve_statement env sc s)
      statement_named (block ss) sc = statements_named ss (inner sc)
      statement_named empty sc = tt
      statement_named (if_else e s t) sc = (statement_named s sc, else_named t (after (locals_in s) sc))
      statement_named (while e s) sc = statement_named s sc
      statement_named (return place e) sc = tt
      statement_named (break place) sc = tt
      statement_named (continue place) sc = tt
      statement_named (throw place e) sc = tt
      statement_named (try ss hs) sc = (statements_named ss (inner sc), handlers_named hs (after (locals_of ss) sc))
      statement_named (assign names e) sc = tt
      statement_named (evaluate e) sc = tt
      statement_named (local_int x e) sc = tt
      statement_named (local_ref p names) sc = tt
      statement_named (local_object c x es) sc = tt

      else_named : (t : Else) (sc : Scope) → ElseNamesRows rows (resolve_else env sc t)
      else_named no_else sc = tt
      else_named (else_do s) sc = statement_named s sc

      statements_named : (ss : Statements) (sc : Scope) → AllNameRows rows (resolve_statements env sc ss)
      statements_named no_statements sc = tt
      statements_named (statement_then s ss) sc = (statement_named s sc, statements_named ss (scope_behind env sc s))

      handlers_named : (hs : Handlers) (sc : Scope) → HandlersNameRows rows (resolve_handlers env sc hs)
      handlers_named no_handlers sc = tt
      handlers_named (handler_then None x ss place hs) sc =
          (statements_named ss (handler_scope env None x sc), handlers_named hs (after (caught_count None + locals_of ss) sc))
      handlers_named (handler_then (Some t) x ss place hs) sc = (
        type_has_row env known sc t,
        statements_named ss (handler_scope env (Some t) x sc),
        handlers_named hs (after (caught_count (Some t) + locals_of ss) sc),
      )

    body_named : (o : Option Statements) (sc : Scope) → BodyNamesRows rows (resolve_body env sc o)
    body_named None sc = tt
    body_named (Some ss) sc = statements_named ss sc

  listed_rows : (env : Environment) → Known n env.names → (sc : Scope) (types : List Ty) → HaveRows rows (map (resolve_type env sc) types)
  listed_rows env known sc [] = tt
  listed_rows env known sc (t ∷ types) = (type_has_row env known sc t, listed_rows env known sc types)

  specification_named : (env : Environment) → Known n env.names → (sc : Scope) (o : Option Specification) → SpecificationNamesRows rows (resolve_specification env sc o)
  specification_named env known sc None = tt
  specification_named env known sc (Some (listed types)) = listed_rows env known sc types
  specification_named env known sc (Some (noexcept place b)) = tt

  function_named : (head : Environment) (heads : Scope) (env : Environment) (sc : Scope) (b : Bound) (f : Function) → Known n head.names → Known n env.names →
      FunctionNamesRows rows (resolve_function head heads env sc b f)
  function_named head heads env sc b f first second = record {
    specification = specification_named head first heads f.specification;
    body = body_named env second f.body (declare_params env f.parameters sc);
  }

  methods_named : (env : Environment) (c : Class) (i : ℕ) (fs : List Function) → Known n (with_class_name env c).names →
      AllByRecursion (FunctionNamesRows rows) (resolve_methods env c i fs)
  methods_named env c i [] known = tt
  methods_named env c i (f ∷ fs) known =
      let env' = declare_behind env (class_declaration c) in (
        function_named (head_environment env c) (head_scope env f.name) env' (function_scope env' (Some (next_class env)) f.result) (Method (next_class env) i) f known known,
        methods_named env c (i + 1) fs known,
      )

  where_defined : (b : Bool) (f : Function) (fs : List Function) → FunctionNamesRows rows f → AllByRecursion (FunctionNamesRows rows) fs →
      AllByRecursion (FunctionNamesRows rows) (if b then f ∷ fs else fs)
  where_defined true f fs h k = (h, k)
  where_defined false f fs h k = k

-- the functions of a program's classes, and its own
pub record AllNamed (rows : ℕ) (classes : List Class) (fs : List Function) : Type 0 where
  pub methods : AllByRecursion (λ c. AllByRecursion (FunctionNamesRows rows) c.functions) classes
  pub own : AllByRecursion (FunctionNamesRows rows) fs

declarations_named : (rows : ℕ) (env : Environment) (ds : List Declaration) → 0 < length env.classes → Known (length env.classes) env.names →
    length env.classes + length (classes_of (resolve_declarations env ds)) + 1 ≤ rows →
    AllNamed rows (classes_of (resolve_declarations env ds)) (functions_of (resolve_declarations env ds))
declarations_named rows env [] some known few = record { methods = tt; own = tt }
declarations_named rows env (class_declaration c ∷ ds) some known few =
    let n = length env.classes in
    let env' = declare_behind env (class_declaration c) in
    let inside : Known (suc n) (with_class_name env c).names = named_known (suc n) env c.name.text (class_thing n) (omega arith) (known_more n env.names known) in
    let longer : length env'.classes ≡ suc n =
    ap (λ cs. length (cs ++ class_entry env c ∷ [])) (named_classes env c.name.text (class_thing n)) ∙ (length-append env.classes (class_entry env c ∷ []) ∙ omega arith) in
    let rest = declarations_named rows env' ds (omega (arith, longer)) (subst (λ m. Known m env'.names) (sym longer) inside) (omega (arith, few, longer)) in
    record {
      methods = (methods_named (suc n) rows (omega arith) (omega (arith, few)) env c 0 c.functions inside, rest.methods);
      own = rest.own;
    }
declarations_named rows env (global_declaration g value ∷ ds) some known few =
    let n = length env.classes in
    let env' = declare_behind env (global_declaration g value) in
    let same : length env'.classes ≡ n = ap length (named_classes env g.text (global_thing env.globals)) in
    let rest = declarations_named rows env' ds (omega (arith, same, some))
    (subst (λ m. Known m env'.names) (sym same) (named_known n env g.text (global_thing env.globals) tt known)) (omega (arith, few, same)) in
    record { methods = rest.methods; own = rest.own }
declarations_named rows env (function_declaration f ∷ ds) some known few =
    let n = length env.classes in
    let env' = body_environment env f in
    let kept = behind_function env (signature env outermost f) in
    let same : length env'.classes ≡ n = ap length kept.classes in
    let there : Known n env'.names = kept.known n known in
    let sc = function_scope env None f.result in
    let b = Func (function_number env f.name.text) in
    let rest = declarations_named rows env' ds (omega (arith, same, some)) (subst (λ m. Known m env'.names) (sym same) there) (omega (arith, few, same)) in
    record {
      methods = rest.methods;
      own = where_defined n rows some (omega (arith, few)) (has_body (resolve_body env' (declare_params env' f.parameters sc) f.body)) (resolve_function env outermost env' sc b f)
          (functions_of (resolve_declarations env' ds)) (function_named n rows some (omega (arith, few)) env outermost env' sc b f known there) rest.own;
    }

-- types that have rows, one by one
each_row : (rows : ℕ) (types : List Ty) → HaveRows rows types → Each (HasRow rows) types
each_row rows [] h = tt
each_row rows (t ∷ types) h = (h.0, each_row rows types h.1)

have_rows : (rows : ℕ) (types : List Ty) → Each (HasRow rows) types → HaveRows rows types
have_rows rows [] h = tt
have_rows rows (t ∷ types) h = (h.0, have_rows rows types h.1)

types_named : (rows : ℕ) (o : Option Specification) → SpecificationNamesRows rows o → OfTypes (HasRow rows) o
types_named rows None h = tt
types_named rows (Some (listed types)) h = each_row rows types h
types_named rows (Some (noexcept place b)) h = tt

named_types : (rows : ℕ) (o : Option Specification) → OfTypes (HasRow rows) o → SpecificationNamesRows rows o
named_types rows None h = tt
named_types rows (Some (listed types)) h = have_rows rows types h
named_types rows (Some (noexcept place b)) h = tt

-- so have the types of the specifications that count
functions_of_types : (rows : ℕ) (fs : List Function) → AllByRecursion (FunctionNamesRows rows) fs → Each (λ (f : Function). OfTypes (HasRow rows) f.specification) fs
functions_of_types rows [] h = tt
functions_of_types rows (f ∷ fs) h = (types_named rows f.specification h.0.specification, functions_of_types rows fs h.1)

classes_of_types : (rows : ℕ) (cs : List Class) → AllByRecursion (λ c. AllByRecursion (FunctionNamesRows rows) c.functions) cs → Each (OfClass (HasRow rows)) cs
classes_of_types rows [] h = tt
classes_of_types rows (c ∷ cs) h = (functions_of_types rows c.functions h.0, classes_of_types rows cs h.1)

functions_still_named : (rows : ℕ) (own : Option Specification) (fs : List Function) → AllByRecursion (FunctionNamesRows rows) fs →
    Each (λ (f : Function). OfTypes (HasRow rows) f.specification) (map (settle_function own) fs) → AllByRecursion (FunctionNamesRows rows) (map (settle_function own) fs)
functions_still_named rows own [] h k = tt
functions_still_named rows own (f ∷ fs) h k =
    (record { specification = named_types rows (settle_function own f).specification k.0; body = h.0.body }, functions_still_named rows own fs h.1 k.1)

classes_still_named : (rows : ℕ) (std : Std) (before : List Allowed) (cs : List Class) → AllByRecursion (λ c. AllByRecursion (FunctionNamesRows rows) c.functions) cs →
    Each (OfClass (HasRow rows)) (settle_classes std before cs) → AllByRecursion (λ c. AllByRecursion (FunctionNamesRows rows) c.functions) (settle_classes std before cs)
classes_still_named rows std before [] h k = tt
classes_still_named rows std before (c ∷ cs) h k =
    let own = given std before c in
    (functions_still_named rows own c.functions h.0 k.0, classes_still_named rows std (before ++ allowed_by (destructor_of own c.functions) ∷ []) cs h.1 k.1)

own_still_named : (rows : ℕ) (fs : List Function) → AllByRecursion (FunctionNamesRows rows) fs → AllByRecursion (FunctionNamesRows rows) (map (settle_function None) fs)
own_still_named rows [] h = tt
own_still_named rows (f ∷ fs) h =
    let kept = settled_kept (HasRow rows) None f.kind f.specification tt (types_named rows f.specification h.0.specification) in
    (record { specification = named_types rows (settle_function None f).specification kept; body = h.0.body }, own_still_named rows fs h.1)

rows_of_classes : (cs : List Class) → length (class_rows cs) ≡ length cs
rows_of_classes [] = refl
rows_of_classes (c ∷ cs) = omega (arith, length-map cs (class_row 2))

class_rows_counted : (std : Std) (p : Program) → length (type_rows (checked std p)) ≡ length (checked std p).classes + 1
class_rows_counted std p = omega (arith, rows_of_classes (checked std p).classes)

program_named : (std : Std) (p : Program) → AllNamed (length (checked std p).classes + 1) (checked std p).classes (checked std p).functions
unfolding checked
program_named std p =
    let env = at_the_start p.declarations in
    let ds = resolve_declarations env p.declarations in
    let rows = length (checked std p).classes + 1 in
    let same = settled_length std [] (bad_exception ∷ classes_of ds) in
    let rest = declarations_named rows env p.declarations (omega arith) tt (omega (arith, same)) in
    let all : AllByRecursion (λ c. AllByRecursion (FunctionNamesRows rows) c.functions) (bad_exception ∷ classes_of ds) = (tt, rest.methods) in
    record {
      methods = classes_still_named rows std [] (bad_exception ∷ classes_of ds) all
          (settled_types (HasRow rows) std [] (bad_exception ∷ classes_of ds) tt (classes_of_types rows (bad_exception ∷ classes_of ds) all));
      own = own_still_named rows (functions_of ds) rest.own;
    }

pub checked_named : (p : Checked) → IsChecked p → AllNamed (length (type_rows p)) p.classes p.functions
checked_named p h =
    let all = program_named h.std h.program in
    subst (λ q. AllNamed (length (type_rows q)) q.classes q.functions) (sym h.resolved)
    (subst (λ n. AllNamed n (checked h.std h.program).classes (checked h.std h.program).functions) (sym (class_rows_counted h.std h.program)) all)

-- int and each class have a row
pub rows_counted : (p : Checked) → IsChecked p → length (type_rows p) ≡ length p.classes + 1
rows_counted p h = subst (λ q. length (type_rows q) ≡ length q.classes + 1) (sym h.resolved) (class_rows_counted h.std h.program)
