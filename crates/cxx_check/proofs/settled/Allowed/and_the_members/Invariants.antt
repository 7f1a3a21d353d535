use Rattle.std.proofs.Common.{◌≡◌, drop, map}
use Rattle.cxx_ast.specs.Settled.{allowed_of_members, taken}
use Rattle.cxx_check.specs.Together.{allowed_seen, together}
use Rattle.cxx_check.proofs.settled.Allowed.and_the_members.Given as goal

abbrev pub invariant-loop-member : goal.invariant-loop-member
invariant-loop-member l =
    taken (together (allowed_seen l.together) (allowed_of_members (map allowed_seen l.before) (drop l.member-index l.members)))
    ≡ taken (together (allowed_seen l.initial.together) (allowed_of_members (map allowed_seen l.before) l.members))
