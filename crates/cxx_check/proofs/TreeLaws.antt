-- Trees with their names bound, part by part.
use Rattle.std.proofs.Common.{◌≡◌, ◌<◌, ℕ, ℤ, codes, ◌+◌, Bool, true, false, cond, List, [], ◌∷◌, ◌++◌, Option, Some, None, refl, ap, ◌∙◌, sym, map, length, get_or, append_assoc}
use Rattle.std.proofs.lemmas.List.{get_or-map}
use Rattle.cxx_ast.specs.declared.name.Bound.{Bound}
use Rattle.cxx_ast.specs.declared.name.Name.{Name}
use Rattle.cxx_ast.specs.declared.name.Bound.TheVariants.{Class as ClassBound, Func, Field as FieldBound, Method as MethodBound}
use Rattle.cxx_ast.specs.declared.declaration.FuncKind.{FuncKind}
use Rattle.cxx_ast.specs.declared.types.Param.{Param}
use Rattle.cxx_ast.specs.declared.types.Ty.{Ty}
use Rattle.cxx_ast.specs.declared.types.Ty.TheVariants.{Int, Void, Object, IntRef, ObjectRef}
use Rattle.cxx_ast.specs.Plain.{Specification, Function, Class, Initialiser, Statements, Program, Checked, Declaration, class_declaration, global_declaration, function_declaration}
use Rattle.cxx_ast.specs.Spelling.{is_bad_exception}
use Rattle.cxx_ast.specs.Environment.{class_kind, Environment, Scope, Meaning, unknown, a_local, a_field, a_method, a_global, a_function, a_class, a_builtin}
use Rattle.cxx_ast.specs.Lookup.{look}
use Rattle.cxx_ast.specs.TypeNames.{class_meant, class_of_name, type_kind, has_body}
use Rattle.cxx_ast.specs.Locals.{outermost}
use Rattle.cxx_ast.specs.Declare.{next_class, with_class_name, head_environment, declare_behind, body_environment, at_the_start, is_int_kind, function_scope, head_scope, name_of}
use Rattle.cxx_ast.specs.Resolve.{bind, function_number, resolve_function, resolve_params, resolve_specification, resolve_initialiser, resolve_body, resolve_type, bind_some}
use Rattle.cxx_check.specs.FunctionParts.{inside_scope}
use Rattle.cxx_ast.specs.Checked.{resolve_base, resolve_fields, resolve_methods, resolve_class_tree, resolve_declaration, resolve_declarations, classes_of, globals_of, functions_of, bad_exception, checked}
use Rattle.cxx_ast.specs.Refused.{first}
use Rattle.cxx_ast.specs.Settled.{settle_function, settle_classes}
use Rattle.cxx_ast.specs.declared.standard.Std.{Std}
use Rattle.cxx_check.specs.PartsOf.{class_in, global_in, function_in}
use Rattle.cxx_check.specs.TreeParts.{base_tree, fields_tree, methods_tree}

-- the base of a class
pub base_is : (env : Environment) (c : Class) (b : Option Name) → base_tree (with_class_name env c) b ≡ resolve_base env c b
base_is env c None = refl
base_is env c (Some b) = refl

-- its data members
pub fields_are : (env : Environment) (c : Class) (i : ℕ) (ps : List Param) → fields_tree (head_environment env c) (next_class env) i ps ≡ resolve_fields env c i ps
fields_are env c i [] = refl
fields_are env c i (p ∷ ps) =
    let first : Param = record { ty = resolve_type (head_environment env c) (head_scope env (name_of p)) p.ty; name = bind_some p.name (FieldBound (next_class env) i) } in
    ap (λ xs. first ∷ xs) (fields_are env c (i + 1) ps)

methods_are : (env : Environment) (c : Class) (i : ℕ) (fs : List Function) →
    methods_tree (head_environment env c) (declare_behind env (class_declaration c)) (next_class env) i fs ≡ resolve_methods env c i fs
methods_are env c i [] = refl
methods_are env c i (f ∷ fs) =
    let known = declare_behind env (class_declaration c) in
    let first = resolve_function (head_environment env c) (head_scope env f.name) known (function_scope known (Some (next_class env)) f.result) (MethodBound (next_class env) i) f in
    ap (λ xs. first ∷ xs) (methods_are env c (i + 1) fs)

same_class : (m n : Name) (a b : Option Name) (p q : List Param) (f g : List Function) → m ≡ n → a ≡ b → p ≡ q → f ≡ g →
    (let c : Class = record { name = m; base = a; members = p; functions = f } in let d : Class = record { name = n; base = b; members = q; functions = g } in c ≡ d)
same_class m n a b p q f g e h i j = cc

-- a class of its parts
pub class_tree_by : (env : Environment) (c : Class) (known : Environment) (k : ℕ) (name : Name) (base : Option Name) (members : List Param) (functions : List Function) →
    known ≡ declare_behind env (class_declaration c) → k ≡ next_class env →
    name ≡ bind c.name (ClassBound k) → base ≡ resolve_base env c c.base → members ≡ resolve_fields env c 0 c.members →
    functions ≡ methods_tree (head_environment env c) known k 0 c.functions →
    (let t : Class = record { name = name; base = base; members = members; functions = functions } in t ≡ resolve_class_tree env c)
class_tree_by env c known k name base members functions i j p q r s =
    let H = head_environment env c in
    let K = declare_behind env (class_declaration c) in
    same_class name _ base _ members _ functions _
    (p ∙ ap (λ x. bind c.name (ClassBound x)) j) q r
    (s ∙ ap (λ x. methods_tree H x k 0 c.functions) i ∙ ap (λ x. methods_tree H K x 0 c.functions) j ∙ methods_are env c 0 c.functions)

-- no class is int
meant_no_int : (m : Meaning) → is_int_kind (class_meant m) ≡ false
meant_no_int unknown = refl
meant_no_int (a_local v) = refl
meant_no_int (a_field k i kind) = refl
meant_no_int (a_method k i s) = refl
meant_no_int (a_global n) = refl
meant_no_int (a_function s) = refl
meant_no_int (a_class k) = refl
meant_no_int (a_builtin b) = refl

class_no_int : (env : Environment) (sc : Scope) (n : Name) → is_int_kind (class_of_name env sc n) ≡ false
class_no_int env sc n = by (is_bad_exception n) (look env sc n)
  where
    by : (b : Bool) (m : Meaning) → is_int_kind (cond b (class_kind 0) (class_meant m)) ≡ false
    by true m = refl
    by false m = meant_no_int m

int_same : (a b : Environment) (ty : Ty) → is_int_kind (type_kind a outermost ty) ≡ is_int_kind (type_kind b outermost ty)
int_same a b Int = refl
int_same a b Void = refl
int_same a b (Object n) = class_no_int a outermost n ∙ sym (class_no_int b outermost n)
int_same a b (IntRef const) = refl
int_same a b (ObjectRef const n) = class_no_int a outermost n ∙ sym (class_no_int b outermost n)

scope_same : (a b : Environment) (own : Option ℕ) (ty : Ty) → function_scope a own ty ≡ function_scope b own ty
scope_same a b own ty = ap {A = Bool} {B = Scope} (λ x. record outermost { locals = [] ∷ []; own = own; gives_value = x }) (int_same a b ty)

same_function : (m n : Name) (k l : FuncKind) (a b : Ty) (p q : List Param) (s t : Option Specification) (i j : List Initialiser) (x y : Option Statements) (z w : ℕ) →
    m ≡ n → k ≡ l → a ≡ b → p ≡ q → s ≡ t → i ≡ j → x ≡ y → z ≡ w →
    (let f : Function = record { name = m; kind = k; result = a; parameters = p; specification = s; initialisers = i; body = x; tokens = z } in
    let g : Function = record { name = n; kind = l; result = b; parameters = q; specification = t; initialisers = j; body = y; tokens = w } in f ≡ g)
same_function m n k l a b p q s t i j x y z w e1 e2 e3 e4 e5 e6 e7 e8 = cc

-- a function of its head and what stands behind it
pub function_parts_are : (head : Environment) (place : Scope) (env : Environment) (own : Option ℕ) (b : Bound) (f g : Function) →
    g.name ≡ bind f.name b → g.kind ≡ f.kind → g.result ≡ f.result → g.parameters ≡ resolve_params head place f.parameters →
    g.specification ≡ resolve_specification head place f.specification →
    g.initialisers ≡ map (resolve_initialiser env (inside_scope env own f)) f.initialisers → g.body ≡ resolve_body env (inside_scope env own f) f.body → g.tokens ≡ f.tokens →
    g ≡ resolve_function head place env (function_scope env own f.result) b f
function_parts_are head place env own b f g e k h i j p q t =
    same_function g.name (bind f.name b) g.kind f.kind g.result f.result g.parameters (resolve_params head place f.parameters) g.specification (resolve_specification head place f.specification)
    g.initialisers (map (resolve_initialiser env (inside_scope env own f)) f.initialisers) g.body (resolve_body env (inside_scope env own f) f.body) g.tokens f.tokens
    e k h i j p q t

-- a function of no class
pub function_tree_is : (env known : Environment) (f g : Function) (number : ℕ) → known ≡ body_environment env f → number ≡ function_number env f.name.text →
    g ≡ resolve_function env outermost known (function_scope known None f.result) (Func number) f →
    function_declaration g ≡ resolve_declaration env (function_declaration f)
function_tree_is env known f g number e h i =
    ap function_declaration
    (i ∙ ap (λ sc. resolve_function env outermost known sc (Func number) f) (scope_same known env None f.result)
    ∙ ap (λ x. resolve_function env outermost x (function_scope env None f.result) (Func number) f) e
    ∙ ap (λ x. resolve_function env outermost (body_environment env f) (function_scope env None f.result) (Func x) f) h)

-- an item of two lists whose images are the same
pub image_same : {X Y Z : Type 0} (f : X → Z) (g : Y → Z) (xs : List X) (ys : List Y) (i : ℕ) (x : X) (y : Y) → map f xs ≡ map g ys →
    i < length xs → i < length ys → x ≡ get_or xs i x → y ≡ get_or ys i y → f x ≡ g y
image_same f g xs ys i x y e h k p q =
    ap f p ∙ sym (get_or-map f xs i x (f x) h) ∙ ap (λ zs. get_or zs i (f x)) e ∙ get_or-map g ys i y (f x) k ∙ ap g (sym q)

-- one item more of a list that is rebuilt
pub rebuilt_more : {X Y : Type 0} (f : X → Y) (done new : List X) (x : X) (y : Y) (rest goal : List Y) →
    map f new ≡ map f done ++ f x ∷ [] → f x ≡ y → map f done ++ y ∷ rest ≡ goal → map f new ++ rest ≡ goal
rebuilt_more f done new x y rest goal e h i =
    ap (λ ys. ys ++ rest) e ∙ append_assoc (map f done) (f x ∷ []) rest ∙ ap (λ z. map f done ++ z ∷ rest) h ∙ i

-- what one declaration declares is in front of what the others declare
pub class_one : (d : Declaration) (ds : List Declaration) → class_in d ++ classes_of ds ≡ classes_of (d ∷ ds)
class_one (class_declaration c) ds = refl
class_one (global_declaration n value) ds = refl
class_one (function_declaration f) ds = refl

pub global_one : (d : Declaration) (ds : List Declaration) → global_in d ++ globals_of ds ≡ globals_of (d ∷ ds)
global_one (class_declaration c) ds = refl
global_one (global_declaration n value) ds = refl
global_one (function_declaration f) ds = refl

function_by : (b : Bool) (f : Function) (fs : List Function) → (cond b (f ∷ []) [] ++ fs) ≡ cond b (f ∷ fs) fs
function_by true f fs = refl
function_by false f fs = refl

pub function_one : (d : Declaration) (ds : List Declaration) → function_in d ++ functions_of ds ≡ functions_of (d ∷ ds)
function_one (class_declaration c) ds = refl
function_one (global_declaration n value) ds = refl
function_one (function_declaration f) ds = function_by (has_body f.body) f (functions_of ds)

-- the parts with those of one declaration more
pub parts_more : {X : Type 0} (one : Declaration → List X) (all : List Declaration → List X) → ((d : Declaration) (ds : List Declaration) → one d ++ all ds ≡ all (d ∷ ds)) →
    (done new goal : List X) (known next : Environment) (d tree : Declaration) (rest : List Declaration) → new ≡ done ++ one tree →
    tree ≡ resolve_declaration known d → next ≡ declare_behind known d → done ++ all (resolve_declarations known (d ∷ rest)) ≡ goal →
    new ++ all (resolve_declarations next rest) ≡ goal
parts_more one all law done new goal known next d tree rest e h i j =
    ap (λ xs. xs ++ all (resolve_declarations next rest)) e ∙ append_assoc done (one tree) (all (resolve_declarations next rest))
    ∙ ap (λ xs. done ++ xs) (law tree (resolve_declarations next rest) ∙ ap (λ t. all (t ∷ resolve_declarations next rest)) h ∙ ap (λ e. all (resolve_declaration known d ∷ resolve_declarations e rest)) i)
    ∙ j

pub head_same : {X : Type 0} (x y : X) → x ∷ [] ≡ y ∷ [] → x ≡ y
head_same x y e = cc

same_checked : (m n : Program) (a b : List Class) (p q : List ℤ) (f g : List Function) (i j : ℕ) → m ≡ n → a ≡ b → p ≡ q → f ≡ g → i ≡ j →
    (let c : Checked = record { program = m; classes = a; globals = p; functions = f; main = i } in let d : Checked = record { program = n; classes = b; globals = q; functions = g; main = j } in c ≡ d)
same_checked m n a b p q f g i j e1 e2 e3 e4 e5 = cc

-- the checked program of its parts
pub checked_by : (std : Std) (p : Program) (start second : Environment) (ds : List Declaration) (classes : List Class) (globals : List ℤ) (functions : List Function) (main : ℕ) →
    start ≡ at_the_start p.declarations → second ≡ at_the_start p.declarations → ds ≡ resolve_declarations start p.declarations →
    classes ≡ settle_classes std [] (bad_exception ∷ classes_of (resolve_declarations second p.declarations)) → globals ≡ globals_of (resolve_declarations second p.declarations) →
    functions ≡ map (settle_function None) (functions_of (resolve_declarations second p.declarations)) → main ≡ function_number start (codes "main") →
    (let c : Checked = record { program = record { declarations = ds; tokens = p.tokens; length = p.length }; classes = classes; globals = globals; functions = functions; main = main } in c ≡ checked std p)
unfolding checked
checked_by std p start second ds classes globals functions main e h i j k f m =
    let tree = i ∙ ap (λ x. resolve_declarations x p.declarations) e in
    same_checked _ _ classes _ globals _ functions _ main _
    (ap {A = List Declaration} {B = Program} (λ x. record { declarations = x; tokens = p.tokens; length = p.length }) tree)
    (j ∙ ap (λ x. settle_classes std [] (bad_exception ∷ classes_of (resolve_declarations x p.declarations))) h)
    (k ∙ ap (λ x. globals_of (resolve_declarations x p.declarations)) h)
    (f ∙ ap (λ x. map (settle_function None) (functions_of (resolve_declarations x p.declarations))) h)
    (m ∙ ap (λ x. function_number x (codes "main")) e)

-- no pair is the first where there is none
pub none_first : (ps : List (ℕ × ℕ)) → first ps ≡ None → ps ≡ []
none_first [] e = refl
none_first (a ∷ ps) e = cc
