use Rattle.std.proofs.Common.{◌≡◌, ◌≤◌, ℕ, length}
use Rattle.cxx_parser.specs.Contexts.{InPath}
use Rattle.cxx_parser.specs.Reading.{read}
use Rattle.cxx_parser.specs.States.{after_path}
use Rattle.cxx_parser.proofs.expression.path.Given as goal

abbrev pub invariant-loop-after : goal.invariant-loop-after
invariant-loop-after l = record {
  so_far : (total : ℕ) (P : InPath) → read total l.end l.tokens (after_path l.initial.names.items P) ≡ read total l.end l.rest (after_path l.names.items P);
  shorter : length l.rest ≤ length l.tokens;
}

abbrev pub decreases-loop-after : goal.decreases-loop-after
decreases-loop-after l = length l.rest
