use Rattle.std.proofs.Common.{◌≡◌, ℕ, length}
use Rattle.cxx_ast.specs.View.{checked_of}
use Rattle.meaning_forms.specs.Frame.{members_named}
use Rattle.scope_world.specs.Objects.{reference_of}
use Rattle.scope_world.specs.Seen.{world_of}
use Rattle.scope_world.proofs.frame.lvalue.Given as goal

abbrev pub invariant-names : goal.invariant-names
invariant-names g l =
    (d : ℕ) → members_named (checked_of l.c.program.now) (world_of g.G.Outside.told d l.w) l.initial.rest (reference_of l.initial.at) ≡ members_named (checked_of l.c.program.now) (world_of g.G.Outside.told d l.w) l.rest (reference_of l.at)

abbrev pub decreases-names : goal.decreases-names
decreases-names g l = length l.rest
