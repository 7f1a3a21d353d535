-- What functions become catches only where a clause is, if each try block has a handler.
use Rattle.std.proofs.Common.{◌≡◌, ◌+◌, ℕ, Bool, true, false, List, [], ◌∷◌, length, Option, Some, None, if◌then◌else◌, refl}
use Rattle.std.proofs.lemmas.Bool.{and_parts}
use Rattle.std.specs.Cmp.Derive.{both_true}
use Rattle.std.specs.Prelude.{◌&&◌}
use Rattle.cxx_ast.specs.declared.declaration.FuncKind.{FuncKind}
use Rattle.cxx_ast.specs.declared.declaration.FuncKind.TheVariants.{Constructor, Destructor}
use Rattle.cxx_ast.specs.Plain.{Checked, Class, Function, Expressions, no_expressions, expression_then, Specification, listed, noexcept}
use Rattle.meaning_forms.specs.Class.{ObjectType, int_type, class_type, class_at, no_class, parts_of}
use Rattle.meaning_forms.specs.Call.{initialiser_for, statements_in}
use Rattle.region_forms.specs.Form.{Place, Region, RegionFunction}
use Rattle.region_forms.specs.Layout.{Layout}
use Rattle.region_forms.specs.Numbering.{variables_of}
use Rattle.region_forms.specs.LowerExpression.{Lowering, first_temporary}
use Rattle.region_forms.specs.LowerStatement.{statements, nothing_more}
use Rattle.region_forms.specs.LowerProgram.{part_place, limited, build_parts, destroy_parts, default_part, copy_part, initial_value, initial_part, lowering, last_result, body_of, declared_function, copied_type, some_constructor, implicit_default_function, implicit_copy_function, implicit_destructor_function, regions_of}
use Rattle.region_forms.specs.WellFormed.{every}
use Rattle.linear_simulation.specs.Simulates.{has_clauses}
use Rattle.linear_simulation.specs.FunctionsRun.{catches_have_clauses}
use Rattle.region_ir.proofs.EachFunction.{at_place, at_or, each_passes}
use Rattle.linear_meaning.proofs.Rows.{Row, behind}
use Rattle.linear_meaning.proofs.Expressions.{constructed_row}
use Rattle.linear_meaning.proofs.Statements.{all_handled, Rest, valued, statements_row, nothing_row}

-- each try block of a function, of a class and of a program has a handler
abbrev pub function_handled : Function → Bool
function_handled f = all_handled (statements_in f.body)

abbrev pub class_handled : Class → Bool
class_handled c = every function_handled c.functions

abbrev pub program_handled : Checked → Bool
program_handled p = every function_handled p.functions && every class_handled p.classes

-- how each part is built
abbrev Built : (ℕ → ObjectType → List Region) → Type 0
Built build = (i : ℕ) (t : ObjectType) → Row (build i t)

built_row : (l : Lowering) (k : ℕ) (build : ℕ → ObjectType → List Region) (i : ℕ) (types : List ObjectType) (left : ℕ → List Region) →
    Built build → Rest left → Rest (build_parts l k build i types left)
built_row l k build i [] left b h d = h d
built_row l k build i (int_type ∷ types) left b h d = behind (build i int_type) _ (b i int_type) (built_row l k build (i + 1) types left b h d)
built_row l k build i (class_type c ∷ types) left b h d =
    behind (build i (class_type c)) _ (b i (class_type c)) (both_true (built_row l k build (i + 1) types left b h (d + 2)) refl)

destroyed_row : (l : Lowering) (k i : ℕ) (types : List ObjectType) (body : ℕ → List Region) → Rest body → Rest (destroy_parts l k i types body)
destroyed_row l k i [] body h d = h d
destroyed_row l k i (int_type ∷ types) body h d = destroyed_row l k (i + 1) types body h d
destroyed_row l k i (class_type c ∷ types) body h d = both_true (destroyed_row l k (i + 1) types body h (d + 2)) refl

-- each kind of part
default_row : (l : Lowering) (k : ℕ) → Built (default_part l k)
default_row l k i int_type = refl
default_row l k i (class_type c) = refl

copy_row : (l : Lowering) (k : ℕ) → Built (copy_part l k)
copy_row l k i int_type = refl
copy_row l k i (class_type c) = refl

value_row : (l : Lowering) (p : Place) (es : Expressions) → Row (initial_value l p es)
value_row l p no_expressions = refl
value_row l p (expression_then e es) = valued l e p

initial_row : (l : Lowering) (k i : ℕ) (es : Option Expressions) (t : ObjectType) → Row (initial_part l k i es t)
initial_row l k i None int_type = refl
initial_row l k i None (class_type c) = refl
initial_row l k i (Some es) int_type = value_row l (part_place l.layout l.program k 0 i) es
initial_row l k i (Some es) (class_type c) = constructed_row l c es (part_place l.layout l.program k 0 i) (first_temporary l)

-- the body of a declared function
body_statements : (l : Lowering) (f : Function) → function_handled f ≡ true → Rest (statements l (statements_in f.body) 0 (length f.parameters))
body_statements l f h d = statements_row l (statements_in f.body) 0 (length f.parameters) d h

body_row : (l : Lowering) (kind : FuncKind) (k : ℕ) (f : Function) → function_handled f ≡ true → Rest (body_of l kind k f)
body_row l Constructor k f h d =
    built_row l k (λ i. initial_part l k i (initialiser_for l.program f.initialisers i)) 0 (parts_of l.program k)
    (statements l (statements_in f.body) 0 (length f.parameters)) (λ i t. initial_row l k i (initialiser_for l.program f.initialisers i) t) (body_statements l f h) d
body_row l Destructor k f h d =
    destroyed_row l k 0 (parts_of l.program k) (statements l (statements_in f.body) 0 (length f.parameters)) (body_statements l f h) d
body_row l kind k f h d = body_statements l f h d

limited_row : (l : Lowering) (s : Option Specification) (act : ℕ → List Region) (d : ℕ) → Rest act → Row (limited l s act d ∷ [])
limited_row l None act d h = both_true (h (d + 1)) refl
limited_row l (Some (listed types)) act d h = both_true (h (d + 2)) refl
limited_row l (Some (noexcept place b)) act d h = both_true (both_true (h (d + 2)) refl) refl

last_row : (l : Lowering) (is_main : Bool) → Row (last_result l is_main)
last_row l false = refl
last_row l true = refl

-- a function
abbrev test : RegionFunction → Bool
test f = has_clauses f.body

declared_row : (p : Checked) (layout : Layout) (is_member is_main : Bool) (k : ℕ) (f : Function) → function_handled f ≡ true →
    test (declared_function p layout is_member is_main k f) ≡ true
declared_row p layout is_member is_main k f h =
    let l = lowering p layout is_member (variables_of f) in
    behind (limited l f.specification (body_of l f.kind k f) 1 ∷ []) (last_result l is_main)
    (limited_row l f.specification (body_of l f.kind k f) 1 (body_row l f.kind k f h)) (last_row l is_main)

-- the implicit functions of a class
unless_declared : (is_declared : Bool) (rs : List Region) → Row rs → Row (if is_declared then [] else rs)
unless_declared true rs h = refl
unless_declared false rs h = h

implicit_default_row : (p : Checked) (layout : Layout) (k : ℕ) → test (implicit_default_function p layout k) ≡ true
implicit_default_row p layout k =
    let l = lowering p layout true [] in
    unless_declared (some_constructor (class_at p k).functions) (build_parts l k (default_part l k) 0 (parts_of p k) nothing_more 1)
    (built_row l k (default_part l k) 0 (parts_of p k) nothing_more (default_row l k) nothing_row 1)

implicit_copy_row : (p : Checked) (layout : Layout) (k : ℕ) → test (implicit_copy_function p layout k) ≡ true
implicit_copy_row p layout k =
    let l = lowering p layout true (copied_type (class_at p k)) in
    built_row l k (copy_part l k) 0 (parts_of p k) nothing_more (copy_row l k) nothing_row 1

implicit_destructor_row : (p : Checked) (layout : Layout) (k : ℕ) → test (implicit_destructor_function p layout k) ≡ true
implicit_destructor_row p layout k = destroyed_row (lowering p layout true []) k 0 (parts_of p k) nothing_more nothing_row 1

-- each function of a program
pub regions_have_clauses : (p : Checked) (l : Layout) → program_handled p ≡ true → catches_have_clauses (regions_of p l) ≡ true
regions_have_clauses p l h =
    let parts = and_parts (every function_handled p.functions) (every class_handled p.classes) h in
    each_passes p l test (record {
      own = λ is_main i f e. declared_row p l false is_main 0 f (at_place function_handled p.functions i f parts.0 e);
      method = λ k i f below e. declared_row p l true false k f
          (at_place function_handled (class_at p k).functions i f (at_or class_handled p.classes k no_class parts.1 refl) e);
      default = λ k below. implicit_default_row p l k;
      copy = λ k below. implicit_copy_row p l k;
      destructor = λ k below. implicit_destructor_row p l k;
    })
