-- What destructors allow, as it lies in memory, and together.
use Rattle.std.specs.Prelude.{List, Some, None}
use Rattle.cxx_ast.specs.Settled.{Allowed, allowed_together}
use Rattle.cxx_check.specs.declared.settled.Allowed.{Allowed as AllowedValue}
use Rattle.cxx_check.specs.declared.settled.Allowed.TheVariants as form

-- all, or the types that are listed
abbrev pub allowed_seen : AllowedValue → Allowed
allowed_seen form.All = None
allowed_seen (form.Listed types) = Some types.items

-- what is allowed so far, and by some more destructors
abbrev pub together : Allowed → List Allowed → Allowed
together None rest = None
together (Some before) rest = allowed_together before rest
