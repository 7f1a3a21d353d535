use Rattle.std.proofs.Common.{◌≡◌, ◌≤◌, ℕ, length, List}
use Rattle.cxx_ast.specs.Plain.{Declaration}
use Rattle.cxx_parser.specs.Members.{open_class}
use Rattle.cxx_parser.specs.Reading.{read}
use Rattle.cxx_parser.specs.States.{in_class}
use Rattle.cxx_parser.proofs.class.members.Given as goal

abbrev pub invariant-loop-after : goal.invariant-loop-after
invariant-loop-after l = record {
  so_far : (total : ℕ) (ds : List Declaration) → length l.tokens ≤ total → read total l.end l.tokens (in_class (open_class l.initial.class ds)) ≡ read total l.end l.rest (in_class (open_class l.class ds));
  shorter : length l.rest ≤ length l.tokens;
}

abbrev pub decreases-loop-after : goal.decreases-loop-after
decreases-loop-after l = length l.rest
