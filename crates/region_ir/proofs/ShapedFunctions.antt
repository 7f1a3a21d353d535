-- The body of every function has the shape.
use Rattle.std.proofs.Common.{◌≡◌, ◌+◌, ◌<◌, ℕ, zero, suc, Bool, true, false, List, [], ◌∷◌, ◌++◌, map, length, Option, Some, None, ◌==◌, if◌then◌else◌, refl, arith}
use Rattle.std.proofs.lemmas.Bool.{and_parts}
use Rattle.std.specs.Cmp.Derive.{both_true}
use Rattle.cxx_ast.specs.declared.declaration.FuncKind.{FuncKind}
use Rattle.cxx_ast.specs.declared.declaration.FuncKind.TheVariants.{Constructor, Destructor}
use Rattle.cxx_ast.specs.Plain.{Checked, Specification, listed, noexcept, Function, Expressions, no_expressions, expression_then}
use Rattle.meaning_forms.specs.Class.{ObjectType, int_type, class_type, class_at, parts_of}
use Rattle.meaning_forms.specs.Call.{initialiser_for, statements_in}
use Rattle.region_forms.specs.Form.{Place, Region, RegionFunction}
use Rattle.region_forms.specs.Layout.{Layout}
use Rattle.region_forms.specs.Numbering.{variables_of}
use Rattle.region_forms.specs.LowerExpression.{Lowering, first_temporary, lower}
use Rattle.region_forms.specs.LowerStatement.{statements, nothing_more}
use Rattle.region_forms.specs.LowerProgram.{part_place, limited, build_parts, destroy_parts, default_part, copy_part, initial_value, initial_part, lowering, last_result, body_of, declared_function, copied_type, some_constructor, implicit_default_function, implicit_copy_function, implicit_destructor_function, own_functions, functions_of_class, functions_of_classes, regions_of}
use Rattle.region_ir.specs.Shape.{is_row, functions_have_shape, all_shaped}
use Rattle.region_ir.proofs.ShapedRows.{Row, behind, with_last}
use Rattle.region_ir.proofs.ShapedExpressions.{whole, lowered, constructed_shaped}
use Rattle.region_ir.proofs.ShapedStatements.{Rest, deeper, statements_shaped, nothing_shaped}

-- how each part is built has the shape
abbrev Built : (ℕ → ObjectType → List Region) → Type 0
Built build = (i : ℕ) (t : ObjectType) → Row (build i t)

built_shaped : (l : Lowering) (k : ℕ) (build : ℕ → ObjectType → List Region) (i : ℕ) (types : List ObjectType) (left : ℕ → List Region) (d : ℕ) →
    Built build → Rest 0 left → 0 < d → Row (build_parts l k build i types left d)
built_shaped l k build i [] left d b h below = h d below
built_shaped l k build i (int_type ∷ types) left d b h below =
    behind (build i int_type) _ (b i int_type) (built_shaped l k build (i + 1) types left d b h below)
built_shaped l k build i (class_type c ∷ types) left d b h below =
    behind (build i (class_type c)) _ (b i (class_type c)) (both_true (built_shaped l k build (i + 1) types left (d + 2) b h (deeper 2 0 d below)) refl)

destroyed_shaped : (l : Lowering) (k i : ℕ) (types : List ObjectType) (body : ℕ → List Region) (d : ℕ) →
    Rest 0 body → 0 < d → Row (destroy_parts l k i types body d)
destroyed_shaped l k i [] body d h below = h d below
destroyed_shaped l k i (int_type ∷ types) body d h below = destroyed_shaped l k (i + 1) types body d h below
destroyed_shaped l k i (class_type c ∷ types) body d h below =
    both_true (destroyed_shaped l k (i + 1) types body (d + 2) h (deeper 2 0 d below)) refl

-- each kind of part
default_shaped : (l : Lowering) (k : ℕ) → Built (default_part l k)
default_shaped l k i int_type = refl
default_shaped l k i (class_type c) = refl

copy_shaped : (l : Lowering) (k : ℕ) → Built (copy_part l k)
copy_shaped l k i int_type = refl
copy_shaped l k i (class_type c) = refl

value_shaped : (l : Lowering) (p : Place) (es : Expressions) → Row (initial_value l p es)
value_shaped l p no_expressions = refl
value_shaped l p (expression_then e es) =
    let x = lowered l e (first_temporary l) in
    with_last (lower l e (first_temporary l)).before _ x.before (whole (lower l e (first_temporary l)).value x.value)

initial_shaped : (l : Lowering) (k i : ℕ) (es : Option Expressions) (t : ObjectType) → Row (initial_part l k i es t)
initial_shaped l k i None int_type = refl
initial_shaped l k i None (class_type c) = refl
initial_shaped l k i (Some es) int_type = value_shaped l (part_place l.layout l.program k 0 i) es
initial_shaped l k i (Some es) (class_type c) = constructed_shaped l c es (part_place l.layout l.program k 0 i) (first_temporary l)

-- the body of a declared function
body_statements : (l : Lowering) (f : Function) → Rest 0 (statements l (statements_in f.body) 0 (length f.parameters))
body_statements l f d below = statements_shaped l (statements_in f.body) 0 (length f.parameters) d below

body_shaped : (l : Lowering) (kind : FuncKind) (k : ℕ) (f : Function) → Rest 0 (body_of l kind k f)
body_shaped l Constructor k f d below =
    built_shaped l k (λ i. initial_part l k i (initialiser_for l.program f.initialisers i)) 0 (parts_of l.program k)
    (statements l (statements_in f.body) 0 (length f.parameters)) d
    (λ i t. initial_shaped l k i (initialiser_for l.program f.initialisers i) t) (body_statements l f) below
body_shaped l Destructor k f d below =
    destroyed_shaped l k 0 (parts_of l.program k) (statements l (statements_in f.body) 0 (length f.parameters)) d (body_statements l f) below
body_shaped l kind k f d below = body_statements l f d below

limited_shaped : (l : Lowering) (s : Option Specification) (act : ℕ → List Region) (d : ℕ) → Rest 0 act → Row (limited l s act d ∷ [])
limited_shaped l None act d h = both_true (h (d + 1) (omega arith)) refl
limited_shaped l (Some (listed types)) act d h = both_true (h (d + 2) (omega arith)) refl
limited_shaped l (Some (noexcept place b)) act d h = both_true (both_true (h (d + 2) (omega arith)) refl) refl

last_shaped : (l : Lowering) (is_main : Bool) → Row (last_result l is_main)
last_shaped l false = refl
last_shaped l true = refl

-- a function's body is a row
abbrev HasShape : RegionFunction → Type 0
HasShape f = is_row f.body ≡ true

declared_shaped : (p : Checked) (layout : Layout) (is_member is_main : Bool) (k : ℕ) (f : Function) →
    HasShape (declared_function p layout is_member is_main k f)
declared_shaped p layout is_member is_main k f =
    let l = lowering p layout is_member (variables_of f) in
    behind (limited l f.specification (body_of l f.kind k f) 1 ∷ []) (last_result l is_main)
    (limited_shaped l f.specification (body_of l f.kind k f) 1 (body_shaped l f.kind k f)) (last_shaped l is_main)

-- the implicit functions of a class
unless_declared : (is_declared : Bool) (rs : List Region) → Row rs → Row (if is_declared then [] else rs)
unless_declared true rs h = refl
unless_declared false rs h = h

implicit_default_shaped : (p : Checked) (layout : Layout) (k : ℕ) → HasShape (implicit_default_function p layout k)
implicit_default_shaped p layout k =
    let l = lowering p layout true [] in
    unless_declared (some_constructor (class_at p k).functions) (build_parts l k (default_part l k) 0 (parts_of p k) nothing_more 1)
    (built_shaped l k (default_part l k) 0 (parts_of p k) nothing_more 1 (default_shaped l k) (nothing_shaped 0) (omega arith))

implicit_copy_shaped : (p : Checked) (layout : Layout) (k : ℕ) → HasShape (implicit_copy_function p layout k)
implicit_copy_shaped p layout k =
    let l = lowering p layout true (copied_type (class_at p k)) in
    built_shaped l k (copy_part l k) 0 (parts_of p k) nothing_more 1 (copy_shaped l k) (nothing_shaped 0) (omega arith)

implicit_destructor_shaped : (p : Checked) (layout : Layout) (k : ℕ) → HasShape (implicit_destructor_function p layout k)
implicit_destructor_shaped p layout k =
    destroyed_shaped (lowering p layout true []) k 0 (parts_of p k) nothing_more 1 (nothing_shaped 0) (omega arith)

-- all functions of a program
abbrev Functions : List RegionFunction → Type 0
Functions fs = functions_have_shape fs ≡ true

both_lists : (fs others : List RegionFunction) → Functions fs → Functions others → Functions (fs ++ others)
both_lists [] others h k = k
both_lists (f ∷ fs) others h k =
    let parts = and_parts (is_row f.body) (functions_have_shape fs) h in
    both_true parts.0 (both_lists fs others parts.1 k)

own_shaped : (p : Checked) (l : Layout) (n : ℕ) (fs : List Function) → Functions (own_functions p l n fs)
own_shaped p l n [] = refl
own_shaped p l n (f ∷ fs) = both_true (declared_shaped p l false (n == p.main) 0 f) (own_shaped p l (n + 1) fs)

methods_shaped : (p : Checked) (l : Layout) (k : ℕ) (fs : List Function) → Functions (map (declared_function p l true false k) fs)
methods_shaped p l k [] = refl
methods_shaped p l k (f ∷ fs) = both_true (declared_shaped p l true false k f) (methods_shaped p l k fs)

class_shaped : (p : Checked) (l : Layout) (k : ℕ) → Functions (functions_of_class p l k)
class_shaped p l k =
    both_lists (map (declared_function p l true false k) (class_at p k).functions) _ (methods_shaped p l k (class_at p k).functions)
    (both_true (implicit_default_shaped p l k) (both_true (implicit_copy_shaped p l k) (both_true (implicit_destructor_shaped p l k) refl)))

classes_shaped : (p : Checked) (l : Layout) (k n : ℕ) → Functions (functions_of_classes p l k n)
classes_shaped p l k zero = refl
classes_shaped p l k (suc n) = both_lists (functions_of_class p l k) _ (class_shaped p l k) (classes_shaped p l (k + 1) n)

pub regions_shaped : (p : Checked) (l : Layout) → all_shaped (regions_of p l) ≡ true
regions_shaped p l =
    both_lists (own_functions p l 0 p.functions) _ (own_shaped p l 0 p.functions) (classes_shaped p l 0 (length p.classes))
