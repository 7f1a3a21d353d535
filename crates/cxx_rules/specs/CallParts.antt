-- Parts of a call's type.
use Rattle.std.specs.Prelude.{List, [], ◌∷◌, bytes_eq, codes, if◌then◌else◌}
use Rattle.cxx_ast.specs.declared.name.Name.{Name}
use Rattle.cxx_ast.specs.Environment.{Signature, Environment, Meaning, a_function}
use Rattle.cxx_ast.specs.Finding.{breaks}
use Rattle.cxx_ast.specs.Reference.{Judgement}
use Rattle.cxx_ast.specs.Rule.{main_use}
use Rattle.cxx_ast.specs.Calls.{Valued, broken_call, call_valued}

-- a meaning is no function of the program
abbrev pub IsNoFunction : Meaning → Type 0
IsNoFunction (a_function s) = ⊥
IsNoFunction _ = Unit {0}

-- the call of a function of the program by a name, without its use
abbrev pub named_valued : Environment → Signature → Name → List Judgement → Valued
named_valued env s n given = if bytes_eq n.text (codes "main") then broken_call (breaks main_use n.place ∷ []) given else call_valued env s n.place given
