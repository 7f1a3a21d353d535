use Rattle.std.proofs.Common.{◌≡◌, ◌<◌, ℕ, length, List, []}
use Rattle.cxx_ast.specs.declared.types.Param.{Param}
use Rattle.cxx_parser.specs.Contexts.{Heading, of_specification}
use Rattle.cxx_parser.specs.Reading.{read}
use Rattle.cxx_parser.specs.States.{want_listed, have_types}
use Rattle.cxx_parser.proofs.function.some_types.Given as goal

abbrev pub invariant-loop-after : goal.invariant-loop-after
invariant-loop-after l = record {
  so_far : (total : ℕ) (ps : List Param) (h : Heading) → read total l.end l.tokens (want_listed (of_specification [] ps h)) ≡ read total l.end l.rest (have_types l.types.items ps h);
  shorter : length l.rest < length l.tokens;
}

abbrev pub decreases-loop-after : goal.decreases-loop-after
decreases-loop-after l = length l.rest
