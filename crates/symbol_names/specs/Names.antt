-- The names of the functions of a program, in the order of their numbers, of its types and of its globals (Itanium C++ ABI, 5.1).
use Rattle.std.specs.Prelude.{ℕ, zero, suc, ◌+◌, ◌==◌, nat_le, Bool, true, false, List, [], ◌∷◌, ◌++◌, length, map, codes, Option, Some, None, is_some, if◌then◌else◌}
use Rattle.cxx_ast.specs.declared.types.Param.{Param}
use Rattle.cxx_ast.specs.declared.declaration.FuncKind.{FuncKind}
use Rattle.cxx_ast.specs.declared.declaration.FuncKind.TheVariants as kinds
use Rattle.cxx_ast.specs.Plain.{Function, Class, Checked, Declaration, global_declaration}
use Rattle.meaning_forms.specs.Class.{class_at}
use Rattle.meaning_forms.specs.Construct.{place_from, is_copy_constructor, destructor_place}
use Rattle.region_forms.specs.LowerProgram.{some_constructor}
use Rattle.symbol_names.specs.Mangled.{Mangled, put, put_source_name, put_object, put_reference, put_parameters}

-- a longer name has no symbol
abbrev pub kept : List ℕ → Option (List ℕ)
kept name = if nat_le (length name) 96 then Some name else None

abbrev pub begun : List ℕ → Mangled
begun front = record { text = front; seen = [] }

-- a function of no class
abbrev pub free_name : List ℕ → List Param → List ℕ
free_name name parameters = (put_parameters parameters (put_source_name name (begun (codes "_Z")))).text

-- the complete object constructor and destructor
abbrev pub put_own_name : FuncKind → List ℕ → Mangled → Mangled
put_own_name kinds.Constructor name m = put (codes "C1E") m
put_own_name kinds.Destructor name m = put (codes "D1E") m
put_own_name _ name m = put (codes "E") (put_source_name name m)

-- a function of class k
abbrev pub member_name : ℕ → List ℕ → FuncKind → List ℕ → List Param → List ℕ
member_name k class kind name parameters =
    (put_parameters parameters (put_own_name kind name (put_object (k + 1) class (begun (codes "_ZN"))))).text

-- the name of `main` is as it stands
abbrev pub function_name : Bool → Function → Option (List ℕ)
function_name true f = Some (codes "main")
function_name false f = kept (free_name f.name.text f.parameters)

-- the program's own functions, numbered from n on
abbrev pub own_names : (main n : ℕ) → List Function → List (Option (List ℕ))
own_names main n [] = []
own_names main n (f ∷ fs) = function_name (n == main) f ∷ own_names main (n + 1) fs

-- the functions that class k declares
abbrev pub declared_names : ℕ → List ℕ → List Function → List (Option (List ℕ))
declared_names k class fs = map (λ f. kept (member_name k class f.kind f.name.text f.parameters)) fs

-- an implicit copy constructor
abbrev pub copy_name : ℕ → List ℕ → List ℕ
copy_name k class = (put_reference true (k + 1) class (put (codes "C1E") (put_object (k + 1) class (begun (codes "_ZN"))))).text

abbrev pub unless_declared : Bool → List ℕ → Option (List ℕ)
unless_declared true name = None
unless_declared false name = kept name

-- The functions of class k, and the implicit ones behind them. One of these is never called, and has no name, where the class declares
-- a function in its place.
abbrev pub class_names : Checked → ℕ → List (Option (List ℕ))
class_names p k =
    let c = class_at p k in
    let name = c.name.text in
    declared_names k name c.functions ++
    unless_declared (some_constructor c.functions) (member_name k name kinds.Constructor name []) ∷
    unless_declared (is_some (place_from 0 (is_copy_constructor k) c.functions)) (copy_name k name) ∷
    unless_declared (is_some (destructor_place p k)) (member_name k name kinds.Destructor name []) ∷ []

-- those of n classes, from class k on
abbrev pub classes_names : Checked → ℕ → ℕ → List (Option (List ℕ))
classes_names p k zero = []
classes_names p k (suc n) = class_names p k ++ classes_names p (k + 1) n

abbrev pub functions_names : Checked → List (Option (List ℕ))
functions_names p = own_names p.main 0 p.functions ++ classes_names p 0 (length p.classes)

-- the record of a type: int has number 0, and class k number k + 1
abbrev pub record_name : ℕ → List ℕ → List ℕ
record_name number name = (put_object number name (begun (codes "_ZTI"))).text

abbrev pub records_from : ℕ → List Class → List (Option (List ℕ))
records_from number [] = []
records_from number (c ∷ cs) = kept (record_name number c.name.text) ∷ records_from (number + 1) cs

abbrev pub types_names : Checked → List (Option (List ℕ))
types_names p = kept (record_name 0 []) ∷ records_from 1 p.classes

-- a global has its own name
abbrev pub globals_names : List Declaration → List (Option (List ℕ))
globals_names [] = []
globals_names (global_declaration name value ∷ ds) = kept name.text ∷ globals_names ds
globals_names (_ ∷ ds) = globals_names ds
