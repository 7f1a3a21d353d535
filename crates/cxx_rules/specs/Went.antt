-- A step along a path.
use Rattle.std.specs.Prelude.{false}
use Rattle.cxx_ast.specs.Environment.{Kind, no_kind}
use Rattle.cxx_rules.specs.declared.lvalue.Along.{Along}
use Rattle.cxx_rules.specs.declared.lvalue.Along.TheVariants.{On, Stops}
use Rattle.cxx_rules.specs.KindOf.{kind_of}
use Rattle.cxx_rules.specs.Seen.{SeenReached}

-- where a step leads, where f goes on from a type
abbrev pub went : (Kind → SeenReached) → Along → SeenReached
went f (On kind) = f (kind_of kind)
went f (Stops found) = record { kind = no_kind; is_const = false; found = found }
