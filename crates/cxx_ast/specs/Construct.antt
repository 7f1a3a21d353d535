-- Which constructor builds an object (ISO/IEC 14882:2003, 12.1, 12.8, 13.3). A single argument of the class, or of one derived from it, selects the
-- copy constructor; else the number of arguments decides (profile).
use Rattle.std.specs.Prelude.{ℕ, Bool, true, false, not, ◌&&◌, ◌||◌, ◌==◌, List, [], ◌∷◌, ◌++◌, length, bytes_eq, Option, Some, None, slice_get, find, if◌then◌else◌}
use Rattle.cxx_ast.specs.declared.declaration.FuncKind.{FuncKind}
use Rattle.cxx_ast.specs.declared.declaration.FuncKind.TheVariants.{Constructor}
use Rattle.cxx_ast.specs.Environment.{Kind, class_kind, no_kind, same_kind, Passing, Signature, Environment}
use Rattle.cxx_ast.specs.Lookup.{derives}
use Rattle.cxx_ast.specs.Rule.{arity, not_lvalue, no_default}
use Rattle.cxx_ast.specs.Finding.{Finding, breaks, breaks_if}
use Rattle.cxx_ast.specs.Reference.{Judgement, arguments_found, all_found}

-- the parameters of a copy constructor of class k: one, a reference to a const object of the class
abbrev pub are_copy_parameters : ℕ → List Passing → Bool
are_copy_parameters k (p ∷ []) = p.is_reference && p.is_const && same_kind p.kind (class_kind k)
are_copy_parameters k _ = false

-- a constructor, as its kind says
abbrev pub is_constructor_kind : FuncKind → Bool
is_constructor_kind Constructor = true
is_constructor_kind _ = false

-- a constructor of a class, which has the class's name
abbrev pub is_constructor : List ℕ → Signature → Bool
is_constructor text s = is_constructor_kind s.form && bytes_eq s.name.text text

-- a constructor of class k with so many parameters, and not the copy constructor
abbrev pub is_constructor_with : ℕ → List ℕ → ℕ → Signature → Bool
is_constructor_with k text count s = is_constructor text s && length s.parameters == count && not (are_copy_parameters k s.parameters)

-- a class declares a constructor
abbrev pub declares_constructor : List ℕ → List Signature → Bool
declares_constructor text [] = false
declares_constructor text (s ∷ ss) = is_constructor text s || declares_constructor text ss

-- the constructor that so many arguments select; without a declared one there is one without parameters
abbrev pub constructor_parameters : Environment → ℕ → ℕ → Option (List Passing)
constructor_parameters env k count = elim (slice_get env.classes k) [
  | None ↦ None
  | Some c ↦ elim (find (is_constructor_with k c.name count) c.functions) [ None ↦ None | Some s ↦ Some s.parameters ]
]

-- an object of class k needs no arguments
abbrev pub has_default : Environment → ℕ → Bool
has_default env k = elim (slice_get env.classes k) [ None ↦ true | Some c ↦ c.has_default ]

-- the constructor with the number of arguments
abbrev pub by_number_found : Environment → ℕ → List Judgement → ℕ → List Finding
by_number_found env k given called = elim (constructor_parameters env k (length given)) [
  | None ↦ breaks arity called ∷ all_found given
  | Some ps ↦ arguments_found env ps given
]

-- a single argument of class j, for an object of class k
abbrev pub single_found : Environment → ℕ → Judgement → ℕ → Kind → List Finding
single_found env k a called no_kind = a.found
single_found env k a called (class_kind j) =
    if derives env j k then a.found ++ elim a.target [ Some t ↦ [] | None ↦ breaks not_lvalue a.place ∷ [] ] else by_number_found env k (a ∷ []) called
single_found env k a called _ = by_number_found env k (a ∷ []) called

-- an object of class k is built of arguments: `arity` stands at the first place, `no_default` at the second
abbrev pub construction_found : Environment → ℕ → List Judgement → ℕ → ℕ → List Finding
construction_found env k [] called needs = breaks_if (not (has_default env k)) no_default needs
construction_found env k (a ∷ []) called needs = single_found env k a called a.kind
construction_found env k given called needs = by_number_found env k given called
