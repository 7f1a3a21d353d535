use Rattle.std.proofs.Common.{◌≡◌, ◌++◌, drop}
use Rattle.cxx_ast.specs.Resolve.{resolve_members}
use Rattle.cxx_rules.specs.KindOf.{kind_of}
use Rattle.cxx_check.proofs.bound.resolve_members.Given as goal

abbrev pub invariant-loop-name : goal.invariant-loop-name
invariant-loop-name l =
    l.bound.items ++ resolve_members l.env (kind_of l.kind) (drop l.name-index l.names)
    ≡ l.initial.bound.items ++ resolve_members l.env (kind_of l.fn.kind) l.names
