use Rattle.std.proofs.Common.{◌≡◌, ◌≤◌, length, map, []}
use Rattle.cxx_ast.specs.View.{declaration_of}
use Rattle.cxx_parser.specs.Reading.{read}
use Rattle.cxx_parser.specs.States.{want_declaration}
use Rattle.cxx_parser.proofs.program.declarations.Given as goal

abbrev pub invariant-loop-rest : goal.invariant-loop-rest
invariant-loop-rest l = record {
  so_far : read (length l.tokens) l.end l.tokens (want_declaration []) ≡ read (length l.tokens) l.end l.rest (want_declaration (map declaration_of l.decls.items));
  shorter : length l.rest ≤ length l.tokens;
}

abbrev pub decreases-loop-rest : goal.decreases-loop-rest
decreases-loop-rest l = length l.rest
