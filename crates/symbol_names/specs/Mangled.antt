-- Names of functions and types, type by type (Itanium C++ ABI, 5.1.3 to 5.1.5).
use Rattle.std.specs.Prelude.{ℕ, zero, suc, ◌+◌, ◌==◌, Bool, true, false, List, [], ◌∷◌, ◌++◌, length, codes, position, Some, None, if◌then◌else◌}
use Rattle.std.specs.Fmt.{decimal}
use Rattle.cxx_ast.specs.declared.types.Ty.{Ty}
use Rattle.cxx_ast.specs.declared.types.Ty.TheVariants as types
use Rattle.cxx_ast.specs.declared.types.Param.{Param}
use Rattle.meaning_forms.specs.Class.{class_named}
use Rattle.symbol_names.specs.declared.component.Component.{Component}
use Rattle.symbol_names.specs.declared.component.Component.TheVariants.{Object, Constant, Reference, ReferenceToConstant}
use Rattle.symbol_names.specs.Component.{is_same, substitution}

-- a name so far, and the components to which it may refer, in the order in which they were written
pub record Mangled : Type 0 where
  pub text : List ℕ
  pub seen : List Component

abbrev pub put : List ℕ → Mangled → Mangled
put text m = record { text = m.text ++ text; seen = m.seen }

abbrev pub remember : Component → Mangled → Mangled
remember c m = record { text = m.text; seen = m.seen ++ c ∷ [] }

-- a component that was written before is referred to; else it is written, and may be referred to from then on
abbrev pub put_component : Component → (Mangled → Mangled) → Mangled → Mangled
put_component c write m = elim (position (is_same c) m.seen) [ None ↦ remember c (write m) | Some n ↦ put (substitution n) m ]

-- a name of the source, behind its length
abbrev pub put_source_name : List ℕ → Mangled → Mangled
put_source_name name m = put (decimal (length name) ++ name) m

-- the first class is `std::bad_exception`
abbrev pub put_class_name : (number : ℕ) → List ℕ → Mangled → Mangled
put_class_name number name m = if number == 1 then put (codes "St13bad_exception") m else put_source_name name m

-- int, or a class, by its number
abbrev pub put_object : (number : ℕ) → List ℕ → Mangled → Mangled
put_object zero name m = put (codes "i") m
put_object (suc k) name m = put_component (Object (suc k)) (put_class_name (suc k) name) m

abbrev pub put_constant : (number : ℕ) → List ℕ → Mangled → Mangled
put_constant number name m = put_component (Constant number) (λ n. put_object number name (put (codes "K") n)) m

abbrev pub put_reference : (constant : Bool) → (number : ℕ) → List ℕ → Mangled → Mangled
put_reference false number name m = put_component (Reference number) (λ n. put_object number name (put (codes "R") n)) m
put_reference true number name m = put_component (ReferenceToConstant number) (λ n. put_constant number name (put (codes "R") n)) m

-- a type of the source; only a function's result can be void
abbrev pub put_type : Ty → Mangled → Mangled
put_type types.Int m = put_object 0 [] m
put_type types.Void m = put (codes "v") m
put_type (types.Object n) m = put_object (class_named n + 1) n.text m
put_type (types.IntRef constant) m = put_reference constant 0 [] m
put_type (types.ObjectRef constant n) m = put_reference constant (class_named n + 1) n.text m

abbrev pub put_types : List Param → Mangled → Mangled
put_types [] m = m
put_types (x ∷ xs) m = put_types xs (put_type x.ty m)

-- the types of parameters; where there are none, void
abbrev pub put_parameters : List Param → Mangled → Mangled
put_parameters [] m = put (codes "v") m
put_parameters (x ∷ xs) m = put_types (x ∷ xs) m
