-- What is known before the first declaration.
use Rattle.std.specs.Prelude.{ℕ, ⊤, ◌≡◌, ◌+◌, ◌-◌, take, length, true, false, List, [], ◌∷◌, ◌++◌, None, codes}
use Rattle.cxx_ast.specs.Environment.{ClassEntry, Signature, Environment, global_thing}
use Rattle.cxx_ast.specs.Declare.{with_name}
use Rattle.cxx_ast.specs.FunctionRules.{has_text}
use Rattle.cxx_rules.specs.NamesOf.{field_texts, function_texts}
use Rattle.cxx_rules.specs.Positions.{AreAmong}

-- the class `std::bad_exception`, which has no parts
abbrev pub bad_exception : ClassEntry
bad_exception = record { name = codes "std::bad_exception"; base = None; fields = []; functions = []; size = 4; chain = 1; has_default = true }

-- what is known at first, where a program defines functions of these names
abbrev pub known_at_first : List (List ℕ) → Environment
known_at_first definitions = record { classes = bad_exception ∷ []; names = []; globals = 0; signatures = []; definitions = definitions }

-- the classes before the last
abbrev pub front_of : List ClassEntry → List ClassEntry
front_of cs = take (length cs - 1) cs

-- what is known with a declaration of a function more
abbrev pub with_declaration : Environment → Signature → Environment
with_declaration env s = record env { signatures = env.signatures ++ (s ∷ []) }

-- what is known with a global more
abbrev pub with_global : Environment → List ℕ → Environment
with_global env text = let next = with_name env text (global_thing env.globals) in record next { globals = env.globals + 1 }

-- the names of a class's parts
abbrev pub part_names : ClassEntry → List (List ℕ)
part_names c = field_texts c.fields ++ function_texts c.functions

-- the names of the parts of classes are among some
abbrev pub HaveMembers : List (List ℕ) → List ClassEntry → Type 0
HaveMembers members [] = ⊤
HaveMembers members (c ∷ cs) = AreAmong (part_names c) members × HaveMembers members cs

-- no class has a part of a name
abbrev pub HasNoMember : List ℕ → List ClassEntry → Type 0
HasNoMember text [] = ⊤
HasNoMember text (c ∷ cs) = (has_text text (part_names c) ≡ false) × HasNoMember text cs
