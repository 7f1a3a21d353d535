use Rattle.std.proofs.Common.{◌≡◌, ◌<◌, ℕ, length, []}
use Rattle.cxx_parser.specs.Contexts.{Heading}
use Rattle.cxx_parser.specs.Reading.{read}
use Rattle.cxx_parser.specs.States.{want_param, have_param}
use Rattle.cxx_parser.proofs.types.some_parameters.Given as goal

abbrev pub invariant-loop-after : goal.invariant-loop-after
invariant-loop-after l = record {
  so_far : (total : ℕ) (h : Heading) → read total l.end l.tokens (want_param [] h) ≡ read total l.end l.rest (have_param l.params.items h);
  shorter : length l.rest < length l.tokens;
}

abbrev pub decreases-loop-after : goal.decreases-loop-after
decreases-loop-after l = length l.rest
