-- References and const (ISO/IEC 14882:2003, 8.5.3): a reference binds to an lvalue of its type or of a class derived from it (to no other value,
-- also where it is const: profile), and a plain one not through const.
use Rattle.std.specs.Prelude.{ℕ, Bool, true, false, not, ◌&&◌, List, [], ◌∷◌, ◌++◌, Option, Some, None, if◌then◌else◌}
use Rattle.cxx_ast.specs.declared.name.Name.{Name}
use Rattle.cxx_ast.specs.Environment.{Kind, int_kind, truth_kind, void_kind, class_kind, no_kind, Passing, Environment}
use Rattle.cxx_ast.specs.Lookup.{derives}
use Rattle.cxx_ast.specs.Rule.{type_mismatch, const_write, not_lvalue}
use Rattle.cxx_ast.specs.Finding.{Finding, breaks, breaks_if}

-- an lvalue as an expression
pub record Target : Type 0 where
  pub names : List Name
  pub is_const : Bool

-- an expression: its type, what is broken in it, the place of its first token, and the lvalue that it is
pub record Judgement : Type 0 where
  pub kind : Kind
  pub found : List Finding
  pub place : ℕ
  pub target : Option Target

-- a reference to the first type binds to the second
abbrev pub binds : Environment → Kind → Kind → Bool
binds env int_kind int_kind = true
binds env (class_kind b) (class_kind k) = derives env k b
binds env _ _ = false

-- what is broken where a reference binds to an lvalue of a type at a place
abbrev pub binding_found : Environment → Kind → Bool → Kind → Bool → ℕ → List Finding
binding_found env no_kind const kind through_const place = []
binding_found env wanted const no_kind through_const place = []
binding_found env wanted const kind through_const place =
    breaks_if (not (binds env wanted kind)) type_mismatch place ++ breaks_if (through_const && not const) const_write place

-- a value would convert to the type that a reference has
abbrev pub would_convert : Environment → Kind → Kind → Bool
would_convert env int_kind truth_kind = true
would_convert env wanted kind = binds env wanted kind

-- what is broken where an argument is no lvalue
abbrev pub no_lvalue_found : Environment → Kind → Kind → ℕ → List Finding
no_lvalue_found env no_kind kind place = []
no_lvalue_found env wanted no_kind place = []
no_lvalue_found env wanted kind place = breaks not_lvalue place ∷ breaks_if (not (would_convert env wanted kind)) type_mismatch place

-- an argument for a reference parameter
abbrev pub bound_found : Environment → Passing → Judgement → List Finding
bound_found env p a = a.found ++ elim a.target [
  | Some t ↦ binding_found env p.kind p.is_const a.kind t.is_const a.place
  | None ↦ no_lvalue_found env p.kind a.kind a.place
]

-- an int is needed, to which a truth value converts
abbrev pub int_wanted : Kind → ℕ → List Finding
int_wanted void_kind place = breaks type_mismatch place ∷ []
int_wanted (class_kind k) place = breaks type_mismatch place ∷ []
int_wanted _ place = []

-- an expression where an int is needed
abbrev pub int_found : Judgement → List Finding
int_found a = a.found ++ int_wanted a.kind a.place

-- an argument
abbrev pub argument_found : Environment → Passing → Judgement → List Finding
argument_found env p a = if p.is_reference then bound_found env p a else int_found a

-- arguments, as many as there are parameters
abbrev pub arguments_found : Environment → List Passing → List Judgement → List Finding
arguments_found env (p ∷ ps) (a ∷ more) = argument_found env p a ++ arguments_found env ps more
arguments_found env _ _ = []

-- what is broken in expressions alone
abbrev pub all_found : List Judgement → List Finding
all_found [] = []
all_found (a ∷ more) = a.found ++ all_found more
