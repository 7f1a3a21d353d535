use Rattle.std.proofs.Common.{◌≡◌, ◌+◌, ◌*◌, length}
use Rattle.std.specs.Prelude.{nat_le}
use Rattle.cxx_ast.specs.View.{expressions_of}
use Rattle.cxx_ast.specs.Sizes.{most_levels}
use Rattle.scope_meaning.proofs.levels.+expressions.Given as goal

abbrev pub decreases-expression_fits : goal.decreases-expression_fits
decreases-expression_fits l = l.room * 2

abbrev pub decreases-expressions_fit : goal.decreases-expressions_fit
decreases-expressions_fit l = l.room * 2 + 1

-- those that are looked at have room
abbrev pub invariant-expressions_fit-expressions : goal.invariant-expressions_fit-expressions
invariant-expressions_fit-expressions l = nat_le (most_levels (expressions_of l.initial.rest)) l.room ≡ nat_le (most_levels (expressions_of l.rest)) l.room

abbrev pub decreases-expressions_fit-expressions : goal.decreases-expressions_fit-expressions
decreases-expressions_fit-expressions l = length l.rest
