-- Arguments by what the code keeps of them: what is broken in each, and what is broken by its use.
use Rattle.std.specs.Prelude.{ℕ, List, [], ◌∷◌, Option, Some, None, if◌then◌else◌}
use Rattle.cxx_ast.specs.Environment.{Kind, Passing, Environment}
use Rattle.cxx_ast.specs.Finding.{Finding}
use Rattle.cxx_ast.specs.Reference.{Target, binding_found, no_lvalue_found, int_wanted}
use Rattle.cxx_rules.specs.declared.found.Found.{Found}
use Rattle.cxx_rules.specs.Seen.{SeenJudgement}
use Rattle.cxx_rules.specs.Summary.{both, seen}

-- what is broken where an expression of a type is bound to a parameter
abbrev pub bound_by : Environment → Passing → Kind → ℕ → Option Target → List Finding
bound_by env p kind place None = no_lvalue_found env p.kind kind place
bound_by env p kind place (Some t) = binding_found env p.kind p.is_const kind t.is_const place

-- what is broken where an expression of a type is the argument of a parameter
abbrev pub argument_by : Environment → Passing → Kind → ℕ → Option Target → List Finding
argument_by env p kind place target = if p.is_reference then bound_by env p kind place target else int_wanted kind place

-- an argument
abbrev pub argument_seen : Environment → Passing → SeenJudgement → Found
argument_seen env p a = both a.found (seen env (argument_by env p a.kind a.place a.target))

-- what was found, and arguments behind it, as many as there are parameters
abbrev pub arguments_behind : Environment → Found → List Passing → List SeenJudgement → Found
arguments_behind env found (p ∷ ps) (a ∷ more) = arguments_behind env (both found (argument_seen env p a)) ps more
arguments_behind env found _ _ = found

-- an expression where an int is needed
abbrev pub int_seen : Environment → SeenJudgement → Found
int_seen env a = both a.found (seen env (int_wanted a.kind a.place))

-- what was found, and expressions behind it that are ints
abbrev pub ints_behind : Environment → Found → List SeenJudgement → Found
ints_behind env found [] = found
ints_behind env found (a ∷ more) = ints_behind env (both found (int_seen env a)) more

-- what was found, and what is broken in expressions behind it
abbrev pub all_behind : Found → List SeenJudgement → Found
all_behind found [] = found
all_behind found (a ∷ more) = all_behind (both found a.found) more
