-- What is known of classes, functions and names while a program is walked, by what becomes of them in the checked program.
use Rattle.std.proofs.Common.{◌≡◌, ◌<◌, ◌≤◌, ℕ, Bool, true, false, List, [], ◌∷◌, length, Some, None, option_map, position, bytes_eq, find}
use Rattle.std.specs.Prelude.{slice_get, unwrap_or}
use Rattle.cxx_ast.specs.declared.name.Builtin.{Builtin}
use Rattle.cxx_ast.specs.declared.name.Builtin.TheVariants.{BadException}
use Rattle.cxx_ast.specs.declared.types.Ty.{Ty}
use Rattle.cxx_ast.specs.declared.types.Ty.TheVariants.{Int, Void, IntRef, ObjectRef}
use Rattle.cxx_ast.specs.declared.types.Param.{Param}
use Rattle.cxx_ast.specs.Plain.{Checked, Function}
use Rattle.cxx_ast.specs.Environment.{Kind, int_kind, class_kind, no_kind, Passing, Signature, Field, ClassEntry, Thing, global_thing, class_thing, function_thing, Entry, Environment, Variable, Scope, Meaning, unknown, a_local, a_field, a_method, a_global, a_function, a_class, a_builtin}
use Rattle.cxx_ast.specs.Lookup.{is_method, method_named}
use Rattle.cxx_ast.specs.TypeNames.{is_const}
use Rattle.cxx_ast.specs.Construct.{is_constructor_kind}
use Rattle.cxx_ast.specs.FunctionRules.{has_text, part_kind}
use Rattle.cxx_ast.specs.Grammatical.{Each}
use Rattle.cxx_ast.specs.Checked.{IsChecked}
use Rattle.meaning_forms.specs.Class.{ObjectType, int_type, class_type, class_named, object_type, class_at, function_at, method_at}
use Rattle.meaning_forms.specs.Expression.{is_reference, types_of}
use Rattle.region_forms.specs.Form.{Slot, Region, Regions}
use Rattle.region_forms.specs.Layout.{layout_of, laid_size}
use Rattle.region_forms.specs.LowerExpression.{Lowering, variable_type}
use Rattle.region_forms.specs.LowerProgram.{lowering, slots_for, regions_of}

-- the type of a variable or a member, one of n classes or int, by its kind
abbrev pub Typed : ℕ → Kind → ObjectType → Type 0
Typed n int_kind t = t ≡ int_type
Typed n (class_kind k) t = (t ≡ class_type k) × (k < n)
Typed n _ t = ⊥

-- an expression has a type
abbrev pub HasKind : Kind → Type 0
HasKind no_kind = ⊥
HasKind _ = Unit {0}

-- a variable may be of the type
abbrev pub IsHeld : Ty → Type 0
IsHeld Void = ⊥
IsHeld _ = Unit {0}

-- a parameter may be of the type: an int by value, or a reference
abbrev pub IsPassed : Ty → Type 0
IsPassed Int = Unit {0}
IsPassed (IntRef const) = Unit {0}
IsPassed (ObjectRef const n) = Unit {0}
IsPassed _ = ⊥

-- arguments are passed by reference or as ints, as the types of parameters say
abbrev pub Shaped : List Passing → List Ty → Type 0
Shaped [] [] = Unit {0}
Shaped (q ∷ qs) (t ∷ ts) = (q.is_reference ≡ is_reference t) × IsPassed t × HasKind q.kind × Shaped qs ts
Shaped _ _ = ⊥

-- a parameter of a member function
pub record ParamMeant (n : ℕ) (q : Passing) (t : Ty) : Type 0 where
  pub reference : q.is_reference ≡ is_reference t
  pub const : q.is_const ≡ is_const t
  pub typed : Typed n q.kind (object_type t)
  pub passed : IsPassed t

abbrev pub ParamsMeant : ℕ → List Passing → List Param → Type 0
ParamsMeant n [] [] = Unit {0}
ParamsMeant n (q ∷ qs) (x ∷ xs) = ParamMeant n q x.ty × ParamsMeant n qs xs
ParamsMeant n _ _ = ⊥

-- a function of a class with a name
pub record MethodMeant (n : ℕ) (text : List ℕ) (s : Signature) (f : Function) : Type 0 where
  pub form : s.form ≡ f.kind
  pub result : HasKind s.result
  pub parameters : ParamsMeant n s.parameters f.parameters
  pub named : is_constructor_kind s.form ≡ true → bytes_eq s.name.text text ≡ true

abbrev pub MethodsMeant : ℕ → List ℕ → List Signature → List Function → Type 0
MethodsMeant n text [] [] = Unit {0}
MethodsMeant n text (s ∷ ss) (f ∷ fs) = MethodMeant n text s f × MethodsMeant n text ss fs
MethodsMeant n text _ _ = ⊥

-- the data members of a class
abbrev pub FieldsMeant : ℕ → List Field → List Param → Type 0
FieldsMeant n [] [] = Unit {0}
FieldsMeant n (f ∷ fs) (m ∷ ms) = Typed n f.kind (object_type m.ty) × FieldsMeant n fs ms
FieldsMeant n _ _ = ⊥

-- no member has one of some names
pub record MembersAlone (special : List (List ℕ)) (c : ClassEntry) : Type 0 where
  pub fields : Each (λ (f : Field). has_text f.name.text special ≡ false) c.fields
  pub methods : Each (λ (s : Signature). is_method s.form ≡ true → has_text s.name.text special ≡ false) c.functions
  pub apart : (text : List ℕ) (kind : Kind) → part_kind text c.fields ≡ Some kind → (k i : ℕ) → method_named None text k i c.functions ≡ None

-- class k; `special` are the names of all classes
pub record EntryMeant (p : Checked) (special : List (List ℕ)) (k : ℕ) (c : ClassEntry) : Type 0 where
  pub below : k < length p.classes
  pub base : option_map class_named (class_at p k).base ≡ c.base
  pub fields : FieldsMeant (length p.classes) c.fields (class_at p k).members
  pub functions : MethodsMeant (length p.classes) c.name c.functions (class_at p k).functions
  pub alone : MembersAlone special c
  pub named : has_text c.name special ≡ true

-- the number of a function among those that are defined
abbrev pub numbered : List (List ℕ) → List ℕ → ℕ
numbered defined text = unwrap_or (position (λ d. bytes_eq d text) defined) (length defined)

-- a function of the program with a number takes arguments as a declaration says
abbrev pub FunctionThere : Checked → ℕ → Signature → Type 0
FunctionThere p n s = (n < length p.functions) × Shaped s.parameters (types_of (function_at p n).parameters)

-- the first declaration of a function
pub record SignatureMeant (p : Checked) (defined : List (List ℕ)) (s : Signature) : Type 0 where
  pub result : HasKind s.result
  pub there : has_text s.name.text defined ≡ true → FunctionThere p (numbered defined s.name.text) s

-- a name of globals, classes and functions
abbrev pub ThingMeant : Checked → List (List ℕ) → List ℕ → Thing → Type 0
ThingMeant p special text (global_thing g) = g < length p.globals
ThingMeant p special text (class_thing k) = (k < length p.classes) × (has_text text special ≡ true)
ThingMeant p special text function_thing = Unit {0}

-- what is known at a place of a program
pub record Meant (p : Checked) (defined special : List (List ℕ)) (env : Environment) : Type 0 where
  pub some : 0 < length p.classes
  pub classes : (k : ℕ) (c : ClassEntry) → slice_get env.classes k ≡ Some c → EntryMeant p special k c
  pub names : Each (λ (e : Entry). ThingMeant p special e.text e.thing) env.names
  pub signatures : (text : List ℕ) (s : Signature) → find (λ s. bytes_eq s.name.text text) env.signatures ≡ Some s → SignatureMeant p defined s
  pub definitions : env.definitions ≡ defined

-- a function whose body is walked: the program, whether it is one of a class, the types of its variables, its region, and what is known there
pub record Given : Type 0 where
  pub program : Checked
  pub checked : IsChecked program
  pub is_member : Bool
  pub variables : List Ty
  pub body : Region
  pub env : Environment
  pub defined : List (List ℕ)
  pub special : List (List ℕ)
  pub meant : Meant program defined special env

abbrev pub lowering_in : Given → Lowering
lowering_in g = lowering g.program (layout_of g.program) g.is_member g.variables

abbrev pub slots_in : Given → List Slot
slots_in g = slots_for (layout_of g.program) g.is_member g.variables g.body

abbrev pub regions_in : Given → Regions
regions_in g = regions_of g.program (layout_of g.program)

-- how many classes there are
abbrev pub classes_in : Given → ℕ
classes_in g = length g.program.classes

-- the bytes of an object
abbrev pub size_in_program : Checked → ObjectType → ℕ
size_in_program p t = laid_size (layout_of p) t

-- a variable in reach
pub record VariableMeant (g : Given) (v : Variable) : Type 0 where
  pub within : v.number < length g.variables
  pub typed : Typed (classes_in g) v.kind (object_type (variable_type (lowering_in g) v.number))
  pub held : IsHeld (variable_type (lowering_in g) v.number)

-- a scope of the function
pub record Reach (g : Given) (sc : Scope) : Type 0 where
  pub locals : Each (Each (VariableMeant g)) sc.locals
  pub own : (k : ℕ) → sc.own ≡ Some k → g.is_member ≡ true

-- a data member of class k
pub record FieldThere (p : Checked) (k i : ℕ) (kind : Kind) : Type 0 where
  pub below : k < length p.classes
  pub member : Param
  pub at : slice_get (class_at p k).members i ≡ Some member
  pub typed : Typed (length p.classes) kind (object_type member.ty)

-- a member function of class k
pub record MethodThere (p : Checked) (k i : ℕ) (s : Signature) : Type 0 where
  pub below : k < length p.classes
  pub place : i < length (class_at p k).functions
  pub result : HasKind s.result
  pub parameters : ParamsMeant (length p.classes) s.parameters (method_at p k i).parameters

-- a built-in function, and not the class of `std`
abbrev pub IsFunction : Builtin → Type 0
IsFunction BadException = ⊥
IsFunction _ = Unit {0}

-- what a name means as a member of class k: a class that has it is no larger
abbrev pub MemberMeant : Checked → ℕ → Meaning → Type 0
MemberMeant p k unknown = Unit {0}
MemberMeant p k (a_field j i kind) = FieldThere p j i kind × (size_in_program p (class_type j) ≤ size_in_program p (class_type k))
MemberMeant p k (a_method j i s) = MethodThere p j i s
MemberMeant p k _ = ⊥

-- what a name means where it stands
abbrev pub MeaningMeant : Given → Meaning → Type 0
MeaningMeant g (a_local v) = VariableMeant g v
MeaningMeant g (a_field k i kind) = FieldThere g.program k i kind × (g.is_member ≡ true)
MeaningMeant g (a_method k i s) = MethodThere g.program k i s × (g.is_member ≡ true)
MeaningMeant g (a_global n) = n < length g.program.globals
MeaningMeant g (a_function s) = SignatureMeant g.program g.defined s
MeaningMeant g (a_class k) = k < classes_in g
MeaningMeant g (a_builtin b) = IsFunction b
MeaningMeant g unknown = Unit {0}
