-- The exits of every function of a checked program lead inside.
use Rattle.std.proofs.Common.{◌≡◌, ◌+◌, ◌<◌, ℕ, Bool, true, false, List, [], ◌∷◌, length, Option, Some, None, if◌then◌else◌, refl, arith}
use Rattle.std.proofs.lemmas.Bool.{and_parts}
use Rattle.std.specs.Cmp.Derive.{both_true}
use Rattle.cxx_ast.specs.declared.declaration.FuncKind.{FuncKind}
use Rattle.cxx_ast.specs.declared.declaration.FuncKind.TheVariants.{Constructor, Destructor}
use Rattle.cxx_ast.specs.Plain.{Checked, Specification, listed, noexcept, Function, Expressions, no_expressions, expression_then}
use Rattle.cxx_ast.specs.Checked.{IsChecked}
use Rattle.meaning_forms.specs.Class.{ObjectType, int_type, class_type, class_at, no_class, parts_of}
use Rattle.meaning_forms.specs.Call.{initialiser_for, statements_in}
use Rattle.region_forms.specs.Form.{Place, Region, RegionFunction}
use Rattle.region_forms.specs.Layout.{Layout}
use Rattle.region_forms.specs.Numbering.{variables_of}
use Rattle.region_forms.specs.LowerExpression.{Lowering, first_temporary, lower}
use Rattle.region_forms.specs.LowerStatement.{statements, nothing_more}
use Rattle.region_forms.specs.LowerProgram.{part_place, limited, build_parts, destroy_parts, default_part, copy_part, initial_value, initial_part, lowering, last_result, body_of, declared_function, copied_type, some_constructor, implicit_default_function, implicit_copy_function, implicit_destructor_function, regions_of}
use Rattle.region_forms.specs.WellFormed.{every}
use Rattle.region_ir.specs.Exits.{exits_inside, program_exits_inside, function_jumps_stand, class_jumps_stand, program_jumps_stand}
use Rattle.region_ir.proofs.ExitExpressions.{Inside, behind, with_last, Anywhere, lowered, constructed_anywhere}
use Rattle.region_ir.proofs.ExitStatements.{Rest, deeper, two_deeper, statements_inside, nothing_inside}
use Rattle.region_ir.proofs.EachFunction.{at_place, at_or, each_passes}
use Rattle.region_ir.proofs.JumpsStand.{checked_jumps}

-- no part is built with an exit
abbrev Built : (ℕ → ObjectType → List Region) → Type 0
Built build = (i : ℕ) (t : ObjectType) → Anywhere (build i t)

built_inside : (l : Lowering) (k : ℕ) (build : ℕ → ObjectType → List Region) (i : ℕ) (types : List ObjectType) (left : ℕ → List Region) (d : ℕ) →
    Built build → Rest 0 left → 0 < d → Inside d (build_parts l k build i types left d)
built_inside l k build i [] left d b h below = h d below
built_inside l k build i (int_type ∷ types) left d b h below =
    behind d (build i int_type) _ (b i int_type d) (built_inside l k build (i + 1) types left d b h below)
built_inside l k build i (class_type c ∷ types) left d b h below =
    behind d (build i (class_type c)) _ (b i (class_type c) d)
    (both_true (two_deeper d (build_parts l k build (i + 1) types left (d + 2)) (built_inside l k build (i + 1) types left (d + 2) b h (deeper 2 0 d below))) refl)

destroyed_inside : (l : Lowering) (k i : ℕ) (types : List ObjectType) (body : ℕ → List Region) (d : ℕ) →
    Rest 0 body → 0 < d → Inside d (destroy_parts l k i types body d)
destroyed_inside l k i [] body d h below = h d below
destroyed_inside l k i (int_type ∷ types) body d h below = destroyed_inside l k (i + 1) types body d h below
destroyed_inside l k i (class_type c ∷ types) body d h below =
    both_true (two_deeper d (destroy_parts l k (i + 1) types body (d + 2)) (destroyed_inside l k (i + 1) types body (d + 2) h (deeper 2 0 d below))) refl

-- each kind of part
default_built : (l : Lowering) (k : ℕ) → Built (default_part l k)
default_built l k i int_type d = refl
default_built l k i (class_type c) d = refl

copy_built : (l : Lowering) (k : ℕ) → Built (copy_part l k)
copy_built l k i int_type d = refl
copy_built l k i (class_type c) d = refl

value_anywhere : (l : Lowering) (p : Place) (es : Expressions) → Anywhere (initial_value l p es)
value_anywhere l p no_expressions d = refl
value_anywhere l p (expression_then e es) d = with_last d (lower l e (first_temporary l)).before _ (lowered l e (first_temporary l) d) refl

initial_built : (l : Lowering) (k i : ℕ) (es : Option Expressions) (t : ObjectType) → Anywhere (initial_part l k i es t)
initial_built l k i None int_type d = refl
initial_built l k i None (class_type c) d = refl
initial_built l k i (Some es) int_type d = value_anywhere l (part_place l.layout l.program k 0 i) es d
initial_built l k i (Some es) (class_type c) d = constructed_anywhere l c es (part_place l.layout l.program k 0 i) (first_temporary l) d

-- the body of a declared function whose jumps stand in loops
abbrev Jumps : Function → Type 0
Jumps f = function_jumps_stand f ≡ true

body_statements : (l : Lowering) (f : Function) → Jumps f → Rest 0 (statements l (statements_in f.body) 0 (length f.parameters))
body_statements l f j d below = statements_inside l (statements_in f.body) false 0 (length f.parameters) d tt j below

body_inside : (l : Lowering) (kind : FuncKind) (k : ℕ) (f : Function) → Jumps f → Rest 0 (body_of l kind k f)
body_inside l Constructor k f j d below =
    built_inside l k (λ i. initial_part l k i (initialiser_for l.program f.initialisers i)) 0 (parts_of l.program k)
    (statements l (statements_in f.body) 0 (length f.parameters)) d
    (λ i t. initial_built l k i (initialiser_for l.program f.initialisers i) t) (body_statements l f j) below
body_inside l Destructor k f j d below =
    destroyed_inside l k 0 (parts_of l.program k) (statements l (statements_in f.body) 0 (length f.parameters)) d (body_statements l f j) below
body_inside l kind k f j d below = body_statements l f j d below

limited_inside : (l : Lowering) (s : Option Specification) (act : ℕ → List Region) → Rest 0 act → Inside 1 (limited l s act 1 ∷ [])
limited_inside l None act h = both_true (h 2 (omega arith)) refl
limited_inside l (Some (listed types)) act h = both_true (h 3 (omega arith)) refl
limited_inside l (Some (noexcept place b)) act h = both_true (both_true (h 3 (omega arith)) refl) refl

last_inside : (l : Lowering) (is_main : Bool) → Inside 1 (last_result l is_main)
last_inside l false = refl
last_inside l true = refl

-- the exits of a function
abbrev test : RegionFunction → Bool
test f = exits_inside 0 f.body

declared_inside : (p : Checked) (layout : Layout) (is_member is_main : Bool) (k : ℕ) (f : Function) → Jumps f →
    test (declared_function p layout is_member is_main k f) ≡ true
declared_inside p layout is_member is_main k f j =
    let l = lowering p layout is_member (variables_of f) in
    behind 1 (limited l f.specification (body_of l f.kind k f) 1 ∷ []) (last_result l is_main)
    (limited_inside l f.specification (body_of l f.kind k f) (body_inside l f.kind k f j)) (last_inside l is_main)

-- the implicit functions of a class
unless_declared : (is_declared : Bool) (rs : List Region) → Inside 1 rs → Inside 1 (if is_declared then [] else rs)
unless_declared true rs h = refl
unless_declared false rs h = h

implicit_default_inside : (p : Checked) (layout : Layout) (k : ℕ) → test (implicit_default_function p layout k) ≡ true
implicit_default_inside p layout k =
    let l = lowering p layout true [] in
    unless_declared (some_constructor (class_at p k).functions) (build_parts l k (default_part l k) 0 (parts_of p k) nothing_more 1)
    (built_inside l k (default_part l k) 0 (parts_of p k) nothing_more 1 (default_built l k) (nothing_inside 0) (omega arith))

implicit_copy_inside : (p : Checked) (layout : Layout) (k : ℕ) → test (implicit_copy_function p layout k) ≡ true
implicit_copy_inside p layout k =
    let l = lowering p layout true (copied_type (class_at p k)) in
    built_inside l k (copy_part l k) 0 (parts_of p k) nothing_more 1 (copy_built l k) (nothing_inside 0) (omega arith)

implicit_destructor_inside : (p : Checked) (layout : Layout) (k : ℕ) → test (implicit_destructor_function p layout k) ≡ true
implicit_destructor_inside p layout k =
    destroyed_inside (lowering p layout true []) k 0 (parts_of p k) nothing_more 1 (nothing_inside 0) (omega arith)

-- each function of a program
pub regions_exit_inside : (p : Checked) (l : Layout) → program_jumps_stand p ≡ true → program_exits_inside (regions_of p l) ≡ true
regions_exit_inside p l j =
    let parts = and_parts (every function_jumps_stand p.functions) (every class_jumps_stand p.classes) j in
    each_passes p l test (record {
      own = λ is_main i f e. declared_inside p l false is_main 0 f (at_place function_jumps_stand p.functions i f parts.0 e);
      method = λ k i f below e. declared_inside p l true false k f
          (at_place function_jumps_stand (class_at p k).functions i f (at_or class_jumps_stand p.classes k no_class parts.1 refl) e);
      default = λ k below. implicit_default_inside p l k;
      copy = λ k below. implicit_copy_inside p l k;
      destructor = λ k below. implicit_destructor_inside p l k;
    })

pub exits_inside_checked : (p : Checked) (l : Layout) → IsChecked p → program_exits_inside (regions_of p l) ≡ true
exits_inside_checked p l h = regions_exit_inside p l (checked_jumps p h)
