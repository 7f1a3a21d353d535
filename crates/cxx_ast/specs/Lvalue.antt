-- What `a.b.c` reaches (ISO/IEC 14882:2003, 5.1, 5.2.5).
use Rattle.std.specs.Prelude.{ℕ, Bool, false, List, [], ◌∷◌, ◌++◌}
use Rattle.cxx_ast.specs.declared.name.Name.{Name}
use Rattle.cxx_ast.specs.Environment.{Kind, class_kind, no_kind, Environment, Scope, Meaning, unknown, a_local, a_field, a_global}
use Rattle.cxx_ast.specs.Lookup.{look, member_meaning, meaning_kind}
use Rattle.cxx_ast.specs.Rule.{unknown_name, type_mismatch}
use Rattle.cxx_ast.specs.Finding.{Finding, breaks}

-- a type, whether it is reached through a reference to const, and what is broken on the way
pub record Reached : Type 0 where
  pub kind : Kind
  pub is_const : Bool
  pub found : List Finding

-- the place of the first name
abbrev pub first_place : List Name → ℕ
first_place [] = 0
first_place (n ∷ names) = n.place

-- the last name
abbrev pub last_place : List Name → ℕ
last_place [] = 0
last_place (n ∷ []) = n.place
last_place (n ∷ m ∷ names) = last_place (m ∷ names)

-- a variable or a data member is needed
abbrev pub variable_wanted : ℕ → Meaning → List Finding
variable_wanted place (a_local v) = []
variable_wanted place (a_field k i kind) = []
variable_wanted place (a_global n) = []
variable_wanted place unknown = breaks unknown_name place ∷ []
variable_wanted place _ = breaks type_mismatch place ∷ []

-- a variable is a reference to const
abbrev pub through_const : Meaning → Bool
through_const (a_local v) = v.is_const
through_const _ = false

-- the members that names reach from something of a type, whose own name stands at a place
abbrev pub reached_from : Environment → List Name → ℕ → Kind → Reached
reached_from env [] before kind = record { kind = kind; is_const = false; found = [] }
reached_from env (n ∷ names) before no_kind = record { kind = no_kind; is_const = false; found = [] }
reached_from env (n ∷ names) before (class_kind k) = elim (member_meaning env k n.text) [
  | a_field j i kind ↦ reached_from env names n.place kind
  | unknown ↦ record { kind = no_kind; is_const = false; found = breaks unknown_name n.place ∷ [] }
  | _ ↦ record { kind = no_kind; is_const = false; found = breaks type_mismatch n.place ∷ [] }
]
reached_from env (n ∷ names) before _ = record { kind = no_kind; is_const = false; found = breaks type_mismatch before ∷ [] }

-- what a path reaches whose first name has a meaning
abbrev pub reached_by : Environment → Meaning → Name → List Name → Reached
reached_by env m n names =
    let r = reached_from env names n.place (meaning_kind m) in
    record { kind = r.kind; is_const = through_const m; found = variable_wanted n.place m ++ r.found }

-- what a path reaches
abbrev pub reached : Environment → Scope → List Name → Reached
reached env sc [] = record { kind = no_kind; is_const = false; found = [] }
reached env sc (n ∷ names) = reached_by env (look env sc n) n names
