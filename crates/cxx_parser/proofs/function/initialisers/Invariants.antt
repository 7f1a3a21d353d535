use Rattle.std.proofs.Common.{◌≡◌, ◌<◌, ℕ, length, [], map}
use Rattle.cxx_ast.specs.View.{initialiser_of}
use Rattle.cxx_parser.specs.Contexts.{Signature, of_initialised}
use Rattle.cxx_parser.specs.Functions.{with_initialisers}
use Rattle.cxx_parser.specs.Reading.{read}
use Rattle.cxx_parser.specs.States.{want_name, have_initialiser}
use Rattle.cxx_parser.proofs.function.initialisers.Given as goal

abbrev pub invariant-loop-after : goal.invariant-loop-after
invariant-loop-after l = record {
  so_far : (total : ℕ) (s : Signature) → s.initialisers ≡ [] → read total l.end l.tokens (want_name (of_initialised s)) ≡ read total l.end l.rest (have_initialiser (with_initialisers s (map initialiser_of l.inits.items)));
  shorter : length l.rest < length l.tokens;
}

abbrev pub decreases-loop-after : goal.decreases-loop-after
decreases-loop-after l = length l.rest
