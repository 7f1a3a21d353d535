-- How functions, constructors, destructors and programs are lowered. Parts are built in order and destroyed in reverse order
-- (ISO/IEC 14882:2003, 12.4/6, 12.6.2/5, 12.8/8, 15.2).
use Rattle.std.specs.Prelude.{ℕ, zero, suc, ◌+◌, ◌-◌, pos, Bool, true, false, ◌==◌, List, [], ◌∷◌, ◌++◌, map, length, replicate, Option, Some, None, if◌then◌else◌}
use Rattle.cxx_ast.specs.declared.types.Ty.{Ty}
use Rattle.cxx_ast.specs.declared.types.Ty.TheVariants.{Int, Void, Object, IntRef, ObjectRef}
use Rattle.cxx_ast.specs.declared.declaration.FuncKind.{FuncKind}
use Rattle.cxx_ast.specs.declared.declaration.FuncKind.TheVariants.{Constructor as ConstructorKind, Destructor as DestructorKind}
use Rattle.cxx_ast.specs.declared.name.Builtin.TheVariants.{Terminate}
use Rattle.cxx_ast.specs.Plain.{Checked, Specification, listed, noexcept, Function, Class as ClassTree, Expressions, no_expressions, expression_then}
use Rattle.meaning_forms.specs.Class.{ObjectType, int_type, class_type, class_at, object_type, parts_of}
use Rattle.meaning_forms.specs.Running.{constructor, destructor}
use Rattle.meaning_forms.specs.Construct.{constructor_for, copy_constructor, is_constructor}
use Rattle.meaning_forms.specs.Call.{initialiser_for, statements_in}
use Rattle.region_forms.specs.Form.{int_slot, address_slot, object_slot, help_slot, Slot, Place, number, load, builtin, address_argument, no_arguments, arguments_from, store, call, construct, enter, destroy_scope, destroy_part, Region, op, protect, catch, limit, Clauses, no_clauses, clause_then, in_order, RegionFunction, Regions, leave_handler}
use Rattle.region_forms.specs.Layout.{Layout, laid_part, laid_size}
use Rattle.region_forms.specs.Numbering.{number_of, type_number, type_rows, variables_of}
use Rattle.region_forms.specs.LowerExpression.{Lowering, result_slot, exception_slot, first_temporary, slot_place, through_place, lower, lower_construct}
use Rattle.region_forms.specs.LowerStatement.{statements, nothing_more}
use Rattle.region_forms.specs.Mentioned.{slots_of}

-- the i-th part of an object of class k whose address slot s holds
abbrev pub part_place : Layout → Checked → ℕ → ℕ → ℕ → Place
part_place l p k s i = through_place s (laid_part l p k i)

-- what is `noexcept` has one handler, for every exception, in which terminate is called; nothing comes out of that, so the handler is never left
abbrev pub ending : Lowering → Clauses
ending l =
    clause_then None (exception_slot l)
    (in_order (op (enter (exception_slot l)) ∷ protect (in_order (op (call (builtin Terminate) no_arguments) ∷ [])) leave_handler ∷ [])) no_clauses

-- a region in the extent of a specification
abbrev pub specified : Lowering → Specification → Region → Region
specified l (listed types) r = limit r (map (λ t. type_number (object_type t)) types)
specified l (noexcept place b) r = catch r (ending l)

-- the extent of a specification; without one there is no guard
abbrev pub limited : Lowering → Option Specification → (ℕ → List Region) → ℕ → Region
limited l None act d = in_order (act (d + 1))
limited l (Some s) act d = specified l s (in_order (act (d + 2)))

-- The parts of an object from the i-th on are built in order, then what is left of its construction is done; where that is exited by an
-- exception or a forced unwind, the parts that are complete are destroyed in reverse order.
abbrev pub build_parts : (Lowering) → ℕ → (ℕ → ObjectType → List Region) → ℕ → List ObjectType → (ℕ → List Region) → ℕ → List Region
build_parts l k build i [] left d = left d
build_parts l k build i (int_type ∷ types) left d = build i int_type ++ build_parts l k build (i + 1) types left d
build_parts l k build i (class_type c ∷ types) left d =
    build i (class_type c) ++
    protect (in_order (build_parts l k build (i + 1) types left (d + 2)))
    (destroy_part (part_place l.layout l.program k 0 i) (number_of l.program (destructor c))) ∷ []

-- what is done in the scope of the parts from the i-th on, which are then destroyed in reverse order
abbrev pub destroy_parts : Lowering → ℕ → ℕ → List ObjectType → (ℕ → List Region) → ℕ → List Region
destroy_parts l k i [] body d = body d
destroy_parts l k i (int_type ∷ types) body d = destroy_parts l k (i + 1) types body d
destroy_parts l k i (class_type c ∷ types) body d =
    protect (in_order (destroy_parts l k (i + 1) types body (d + 2)))
    (destroy_scope (part_place l.layout l.program k 0 i) (number_of l.program (destructor c))) ∷ []

-- an object is built by its default constructor, or copied
abbrev pub default_built : Lowering → ℕ → Place → List Region
default_built l c p = op (construct p (number_of l.program (constructor c (constructor_for l.program c 0))) no_arguments) ∷ []

-- an object of class c is copied from a place to another
abbrev pub copy_built : Lowering → ℕ → Place → Place → List Region
copy_built l c p source =
    op (construct p (number_of l.program (constructor c (copy_constructor l.program c))) (arguments_from (address_argument source ∷ []))) ∷ []

-- an implicit default constructor sets an int to 0
abbrev pub default_part : Lowering → ℕ → ℕ → ObjectType → List Region
default_part l k i int_type = op (store (part_place l.layout l.program k 0 i) (number (pos 0))) ∷ []
default_part l k i (class_type c) = default_built l c (part_place l.layout l.program k 0 i)

-- an implicit copy constructor copies each part of what slot 1 names
abbrev pub copy_part : Lowering → ℕ → ℕ → ObjectType → List Region
copy_part l k i int_type = op (store (part_place l.layout l.program k 0 i) (load (part_place l.layout l.program k 1 i))) ∷ []
copy_part l k i (class_type c) = copy_built l c (part_place l.layout l.program k 0 i) (part_place l.layout l.program k 1 i)

-- the value of an int's initialiser
abbrev pub initial_value : Lowering → Place → Expressions → List Region
initial_value l p no_expressions = op (store p (number (pos 0))) ∷ []
initial_value l p (expression_then e es) =
    (lower l e (first_temporary l)).before ++ op (store p (lower l e (first_temporary l)).value) ∷ []

-- a declared constructor builds a part by its initialiser; without one an object is default-constructed, and an int stays unset
abbrev pub initial_part : Lowering → ℕ → ℕ → Option Expressions → ObjectType → List Region
initial_part l k i None int_type = []
initial_part l k i None (class_type c) = default_built l c (part_place l.layout l.program k 0 i)
initial_part l k i (Some es) int_type = initial_value l (part_place l.layout l.program k 0 i) es
initial_part l k i (Some es) (class_type c) = lower_construct l c es (part_place l.layout l.program k 0 i) (first_temporary l)

-- the slot of a variable: references hold addresses
abbrev pub slot_for : Layout → Ty → Slot
slot_for l Int = record { kind = int_slot; size = 4 }
slot_for l Void = record { kind = help_slot; size = 8 }
slot_for l (Object n) = record { kind = object_slot; size = laid_size l (object_type (Object n)) }
slot_for l (IntRef const) = record { kind = address_slot; size = 8 }
slot_for l (ObjectRef const n) = record { kind = address_slot; size = 8 }

-- a slot for an address or a value between calls
abbrev pub help : Slot
help = record { kind = help_slot; size = 8 }

-- a function of a class has its object's address in slot 0
abbrev pub own_slots : Bool → List Slot
own_slots false = []
own_slots true = record { kind = address_slot; size = 8 } ∷ []

-- what a function's lowering is given
abbrev pub lowering : Checked → Layout → Bool → List Ty → Lowering
lowering p layout is_member variables = record { program = p; layout = layout; variables = variables; first_variable = length (own_slots is_member) }

-- behind the variables stand the result, an exception object's address, and what the body mentions behind them
abbrev pub slots_for : Layout → Bool → List Ty → Region → List Slot
slots_for l is_member variables body =
    own_slots is_member ++ (map (slot_for l) variables ++
    replicate (2 + (slots_of body - (length (own_slots is_member) + length variables + 2))) help)

-- an int function gives what its result slot holds
abbrev pub result_for : Lowering → Ty → Option ℕ
result_for l Int = Some (result_slot l)
result_for l _ = None

-- the result of main is 0 where control flows off its end (3.6.1/5), also where an exception came in the way of a `return`
abbrev pub last_result : Lowering → Bool → List Region
last_result l false = []
last_result l true = op (store (slot_place (result_slot l)) (number (pos 0))) ∷ []

-- a function with its body's region
abbrev pub with_body : Layout → Bool → List Ty → ℕ → List ℕ → Option ℕ → Region → RegionFunction
with_body layout is_member variables parameters name result body = record {
  name = name;
  parameters = parameters;
  slots = slots_for layout is_member variables body;
  result = result;
  body = body;
}

-- the body of a function, of a member function, of a constructor or of a destructor of class k
abbrev pub body_of : Lowering → FuncKind → ℕ → Function → ℕ → List Region
body_of l ConstructorKind k f d =
    build_parts l k (λ i. initial_part l k i (initialiser_for l.program f.initialisers i)) 0 (parts_of l.program k)
    (λ e. statements l (statements_in f.body) 0 (length f.parameters) e) d
body_of l DestructorKind k f d =
    destroy_parts l k 0 (parts_of l.program k) (λ e. statements l (statements_in f.body) 0 (length f.parameters) e) d
body_of l _ k f d = statements l (statements_in f.body) 0 (length f.parameters) d

-- a declared function; its specification guards a constructor's initialisers and a destructor's destruction of parts too
abbrev pub declared_function : Checked → Layout → Bool → Bool → ℕ → Function → RegionFunction
declared_function p layout is_member is_main k f =
    let l = lowering p layout is_member (variables_of f) in
    with_body layout is_member (variables_of f) (l.first_variable + length f.parameters) f.name.text (result_for l f.result)
    (in_order (limited l f.specification (body_of l f.kind k f) 1 ∷ last_result l is_main))

-- the address of what an implicit copy constructor copies is its one parameter
abbrev pub copied_type : ClassTree → List Ty
copied_type c = ObjectRef true c.name ∷ []

-- a class declares a constructor
abbrev pub some_constructor : List Function → Bool
some_constructor [] = false
some_constructor (f ∷ fs) = if is_constructor f.kind then true else some_constructor fs

-- an implicit default constructor, of a class that declares no constructor
abbrev pub implicit_default_function : Checked → Layout → ℕ → RegionFunction
implicit_default_function p layout k =
    let l = lowering p layout true [] in
    with_body layout true [] 1 (class_at p k).name.text None
    (in_order (if some_constructor (class_at p k).functions then [] else build_parts l k (default_part l k) 0 (parts_of p k) nothing_more 1))

-- an implicit copy constructor
abbrev pub implicit_copy_function : Checked → Layout → ℕ → RegionFunction
implicit_copy_function p layout k =
    let l = lowering p layout true (copied_type (class_at p k)) in
    with_body layout true (copied_type (class_at p k)) 2 (class_at p k).name.text None
    (in_order (build_parts l k (copy_part l k) 0 (parts_of p k) nothing_more 1))

-- an implicit destructor
abbrev pub implicit_destructor_function : Checked → Layout → ℕ → RegionFunction
implicit_destructor_function p layout k =
    let l = lowering p layout true [] in
    with_body layout true [] 1 (class_at p k).name.text None (in_order (destroy_parts l k 0 (parts_of p k) nothing_more 1))

-- the program's own functions, numbered from n on
abbrev pub own_functions : Checked → Layout → ℕ → List Function → List RegionFunction
own_functions p l n [] = []
own_functions p l n (f ∷ fs) = declared_function p l false (n == p.main) 0 f ∷ own_functions p l (n + 1) fs

-- the functions of class k
abbrev pub functions_of_class : Checked → Layout → ℕ → List RegionFunction
functions_of_class p l k =
    map (declared_function p l true false k) (class_at p k).functions ++
    implicit_default_function p l k ∷ implicit_copy_function p l k ∷ implicit_destructor_function p l k ∷ []

-- the functions of n classes, those from class k on
abbrev pub functions_of_classes : Checked → Layout → ℕ → ℕ → List RegionFunction
functions_of_classes p l k zero = []
functions_of_classes p l k (suc n) = functions_of_class p l k ++ functions_of_classes p l (k + 1) n

-- the regions of a program
abbrev pub regions_of : Checked → Layout → Regions
regions_of p l = record {
  functions = own_functions p l 0 p.functions ++ functions_of_classes p l 0 (length p.classes);
  types = type_rows p;
  globals = p.globals;
  tokens = p.program.tokens;
  main = p.main;
}
