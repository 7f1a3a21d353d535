-- What is asked for, as what the rules of the language ask.
use Rattle.std.specs.Prelude.{ℕ, Bool, true, List, [], ◌∷◌}
use Rattle.cxx_ast.specs.Plain.{Function}
use Rattle.cxx_ast.specs.declared.types.Ty.{Ty}
use Rattle.cxx_ast.specs.declared.types.Ty.TheVariants.{ObjectRef}
use Rattle.cxx_ast.specs.declared.name.Bound.TheVariants.{Class}
use Rattle.scope_flow.specs.declared.callee.Constructor.{Constructor as CodeConstructor}
use Rattle.scope_flow.specs.declared.callee.Constructor.TheVariants as made
use Rattle.scope_flow.specs.declared.callee.Callee.{Callee as CodeCallee}
use Rattle.scope_flow.specs.declared.callee.Callee.TheVariants as called
use Rattle.scope_flow.specs.declared.construct.Wanted.{Wanted}
use Rattle.scope_flow.specs.declared.construct.Wanted.TheVariants as wanted
use Rattle.scope_flow.specs.declared.destroy.Leaving.{Leaving}
use Rattle.scope_flow.specs.declared.destroy.Leaving.TheVariants as leaving
use Rattle.scope_flow.specs.declared.names.Parameters.{Parameters}
use Rattle.scope_flow.specs.declared.names.Parameters.TheVariants as parameters
use Rattle.scope_world.specs.Objects.{type_of, reference_of}
use Rattle.meaning_forms.specs.Context.{Context}
use Rattle.meaning_forms.specs.Outcome.{Action}
use Rattle.meaning_forms.specs.Running.{Running, Constructor, declared, implicit_default, implicit_copy, Callee, function, method, constructor, destructor}
use Rattle.meaning_forms.specs.Construct.{destroy, is_copy_constructor, is_constructor_with, is_destructor}
use Rattle.meaning_forms.specs.Handler.{let_go}
use Rattle.meaning_forms.specs.Expression.{types_of}

-- a constructor
abbrev pub constructor_of : CodeConstructor → Constructor
constructor_of (made.Declared i) = declared i
constructor_of made.ImplicitDefault = implicit_default
constructor_of made.ImplicitCopy = implicit_copy

-- what is called
abbrev pub callee_of : CodeCallee → Callee
callee_of (called.Function n) = function n
callee_of (called.Method k i) = method k i
callee_of (called.Constructor k which) = constructor k (constructor_of which)
callee_of (called.Destructor k) = destructor k

-- what is left
abbrev pub leaving_of : Running → Leaving → Context → Action (Unit {0})
leaving_of r (leaving.Object t target) = destroy r (type_of t) (reference_of target.now)
leaving_of r (leaving.Exception e kept) = let_go r e kept

-- the test of a function that is searched for
abbrev pub wanted_of : ℕ → Wanted → Function → Bool
wanted_of k wanted.Copy = is_copy_constructor k
wanted_of k (wanted.With n) = is_constructor_with k n
wanted_of k wanted.Destructor = λ f. is_destructor f.kind

-- the type of the parameter of the implicit copy constructor of a class
abbrev pub copied_type : ℕ → List Ty
copied_type k = ObjectRef true (record { text = []; place = 0; bound = Class k }) ∷ []

-- the types of parameters
abbrev pub parameter_types_of : Parameters → List Ty
parameter_types_of (parameters.Of ps) = types_of ps.now
parameter_types_of (parameters.CopyOf k) = copied_type k
