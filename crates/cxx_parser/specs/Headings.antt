-- The parts of a function in memory as they stand in a state.
use Rattle.std.specs.Prelude.{ℕ, ◌-◌, Bool, List, [], Option}
use Rattle.cxx_ast.specs.declared.types.Param.{Param}
use Rattle.cxx_ast.specs.Plain.{Specification}
use Rattle.cxx_parser.specs.Contexts.{Holder, Heading, Signature}
use Rattle.cxx_parser.specs.declared.function.Heading.{Heading as HeadingValue}

-- a heading among so many tokens
abbrev pub heading_at : HeadingValue → ℕ → Holder → Heading
heading_at h total holder = record { kind = h.kind; result = h.result; name = h.name; start = total - h.left; holder = holder }

-- a heading with parameters and an exception specification, in which a `noexcept` is written in full or not
abbrev pub signature_of : Heading → List Param → Bool → Option Specification → Signature
signature_of h ps b spec = record { heading = h; parameters = ps; specification = spec; in_full = b; initialisers = [] }
