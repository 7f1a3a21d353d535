use Rattle.std.proofs.Common.{◌≡◌, ◌+◌, ◌*◌, length}
use Rattle.std.specs.Prelude.{nat_le}
use Rattle.cxx_ast.specs.View.{statements_of, handlers_of}
use Rattle.scope_meaning.specs.Levels.{statements_levels, handlers_levels}
use Rattle.scope_meaning.proofs.levels.+statements.Given as goal

abbrev pub decreases-statement_fits : goal.decreases-statement_fits
decreases-statement_fits l = l.room * 4

abbrev pub decreases-scope_fits : goal.decreases-scope_fits
decreases-scope_fits l = l.room * 4

abbrev pub decreases-statements_fit : goal.decreases-statements_fit
decreases-statements_fit l = l.room * 4 + 1

abbrev pub decreases-handlers_fit : goal.decreases-handlers_fit
decreases-handlers_fit l = l.room * 4 + 2

abbrev pub decreases-try_fits : goal.decreases-try_fits
decreases-try_fits l = l.room * 4 + 3

-- those that are looked at have room
abbrev pub invariant-statements_fit-statements : goal.invariant-statements_fit-statements
invariant-statements_fit-statements l = nat_le (statements_levels (statements_of l.initial.rest)) l.room ≡ nat_le (statements_levels (statements_of l.rest)) l.room

abbrev pub decreases-statements_fit-statements : goal.decreases-statements_fit-statements
decreases-statements_fit-statements l = length l.rest

abbrev pub invariant-handlers_fit-handlers : goal.invariant-handlers_fit-handlers
invariant-handlers_fit-handlers l = nat_le (handlers_levels (handlers_of l.initial.rest)) l.room ≡ nat_le (handlers_levels (handlers_of l.rest)) l.room

abbrev pub decreases-handlers_fit-handlers : goal.decreases-handlers_fit-handlers
decreases-handlers_fit-handlers l = length l.rest
