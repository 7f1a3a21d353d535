-- Which constructor builds an object, and the calls that build, copy and destroy objects.
use Rattle.std.specs.Prelude.{ℕ, ◌+◌, Bool, true, false, ◌&&◌, not, ◌==◌, List, [], ◌∷◌, length, Option, Some, None, if◌then◌else◌}
use Rattle.cxx_ast.specs.declared.types.Ty.{Ty}
use Rattle.cxx_ast.specs.declared.types.Ty.TheVariants.{ObjectRef}
use Rattle.cxx_ast.specs.declared.types.Param.{Param}
use Rattle.cxx_ast.specs.declared.declaration.FuncKind.{FuncKind}
use Rattle.cxx_ast.specs.declared.declaration.FuncKind.TheVariants.{Constructor as ConstructorKind, Destructor as DestructorKind}
use Rattle.cxx_ast.specs.Plain.{Checked, Function}
use Rattle.meaning_forms.specs.Class.{ObjectType, int_type, class_type, class_named, class_at}
use Rattle.meaning_forms.specs.World.{Reference}
use Rattle.meaning_forms.specs.Context.{Context}
use Rattle.meaning_forms.specs.Outcome.{Action, pure, ◌>>◌}
use Rattle.meaning_forms.specs.Running.{Running, by_reference, Constructor, declared, implicit_default, implicit_copy, constructor, destructor}

-- a function is a constructor
abbrev pub is_constructor : FuncKind → Bool
is_constructor ConstructorKind = true
is_constructor _ = false

-- a function is a destructor
abbrev pub is_destructor : FuncKind → Bool
is_destructor DestructorKind = true
is_destructor _ = false

-- a type is `const T&`, where T is class k
abbrev pub is_const_ref_to : ℕ → Ty → Bool
is_const_ref_to k (ObjectRef true n) = class_named n == k
is_const_ref_to k _ = false

-- the parameters of a copy constructor of class k: one `const T&` of the class
abbrev pub takes_copy : ℕ → List Param → Bool
takes_copy k (x ∷ []) = is_const_ref_to k x.ty
takes_copy k _ = false

-- a copy constructor of class k
abbrev pub is_copy_constructor : ℕ → Function → Bool
is_copy_constructor k f = is_constructor f.kind && takes_copy k f.parameters

-- any other constructor of class k, with n parameters
abbrev pub is_constructor_with : ℕ → ℕ → Function → Bool
is_constructor_with k n f = is_constructor f.kind && (not (takes_copy k f.parameters) && length f.parameters == n)

-- the place of the first function that passes a test, counted from i
abbrev pub place_from : ℕ → (Function → Bool) → List Function → Option ℕ
place_from i test [] = None
place_from i test (f ∷ fs) = if test f then Some i else place_from (i + 1) test fs

-- a declared constructor, or the implicit one where none is declared
abbrev pub declared_or : Constructor → Option ℕ → Constructor
declared_or implicit None = implicit
declared_or implicit (Some i) = declared i

-- the constructor of class k for n arguments
abbrev pub constructor_for : Checked → ℕ → ℕ → Constructor
constructor_for p k n = declared_or implicit_default (place_from 0 (is_constructor_with k n) (class_at p k).functions)

-- the copy constructor of class k
abbrev pub copy_constructor : Checked → ℕ → Constructor
copy_constructor p k = declared_or implicit_copy (place_from 0 (is_copy_constructor k) (class_at p k).functions)

-- the place of the declared destructor of class k
abbrev pub destructor_place : Checked → ℕ → Option ℕ
destructor_place p k = place_from 0 (λ f. is_destructor f.kind) (class_at p k).functions

-- an object of class k is built by the default constructor
abbrev pub default_object : Running → ℕ → Reference → Context → Action (Unit {0})
default_object r k target c = do
  r.call (constructor k (constructor_for r.program k 0)) target [] c
  pure tt

-- an object of class k is built by the copy constructor
abbrev pub copy_object : Running → ℕ → Reference → Reference → Context → Action (Unit {0})
copy_object r k target source c = do
  r.call (constructor k (copy_constructor r.program k)) target (by_reference source ∷ []) c
  pure tt

-- an object is destroyed; an int needs no destruction
abbrev pub destroy : Running → ObjectType → Reference → Context → Action (Unit {0})
destroy r int_type target c = pure tt
destroy r (class_type k) target c = do
  r.call (destructor k) target [] c
  pure tt
