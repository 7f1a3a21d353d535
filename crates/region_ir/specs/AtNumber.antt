-- The functions of a program's regions by their numbers.
use Rattle.std.specs.Prelude.{ℕ, ◌<◌, ◌==◌, false, true, length, Option, Some, None}
use Rattle.cxx_ast.specs.Plain.{Checked}
use Rattle.meaning_forms.specs.Class.{class_at, function_at, method_at}
use Rattle.meaning_forms.specs.Construct.{destructor_place}
use Rattle.meaning_forms.specs.Running.{Callee, function, method, constructor, destructor, declared, implicit_default, implicit_copy}
use Rattle.region_forms.specs.Form.{RegionFunction}
use Rattle.region_forms.specs.Layout.{Layout}
use Rattle.region_forms.specs.LowerProgram.{declared_function, implicit_default_function, implicit_copy_function, implicit_destructor_function}

-- what can be called is there
abbrev pub IsThere : Checked → Callee → Type 0
IsThere p (function n) = n < length p.functions
IsThere p (method k i) = (k < length p.classes) × (i < length (class_at p k).functions)
IsThere p (constructor k (declared i)) = (k < length p.classes) × (i < length (class_at p k).functions)
IsThere p (constructor k which) = k < length p.classes
IsThere p (destructor k) = k < length p.classes

-- the destructor of class k, which is declared at a place or implicit
abbrev pub destructor_function : Checked → Layout → ℕ → Option ℕ → RegionFunction
destructor_function p l k None = implicit_destructor_function p l k
destructor_function p l k (Some i) = declared_function p l true false k (method_at p k i)

-- the function of regions that a callee is
abbrev pub called_function : Checked → Layout → Callee → RegionFunction
called_function p l (function n) = declared_function p l false (n == p.main) 0 (function_at p n)
called_function p l (method k i) = declared_function p l true false k (method_at p k i)
called_function p l (constructor k (declared i)) = declared_function p l true false k (method_at p k i)
called_function p l (constructor k implicit_default) = implicit_default_function p l k
called_function p l (constructor k implicit_copy) = implicit_copy_function p l k
called_function p l (destructor k) = destructor_function p l k (destructor_place p k)
