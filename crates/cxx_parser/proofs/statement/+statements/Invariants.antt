use Rattle.std.proofs.Common.{◌≡◌, ◌<◌, ◌≤◌, ℕ, ◌+◌, ◌*◌, length, [], map}
use Rattle.cxx_ast.specs.declared.mark.Mark.TheVariants as sign
use Rattle.cxx_ast.specs.declared.token.TokenKind.TheVariants as kind
use Rattle.cxx_ast.specs.Plain.{Statements}
use Rattle.cxx_ast.specs.View.{statement_of}
use Rattle.cxx_parser.specs.Contexts.{InStatement, InBlock, in_try}
use Rattle.cxx_parser.specs.Reading.{read}
use Rattle.cxx_parser.specs.States.{expect, want_caught, in_statements, after_handler}
use Rattle.cxx_parser.specs.Stored.{caught_of}
use Rattle.cxx_parser.proofs.statement.+statements.Given as goal

abbrev pub decreases-statement : goal.decreases-statement
decreases-statement l = 4 * length l.tokens.now

abbrev pub decreases-block : goal.decreases-block
decreases-block l = 4 * length l.tokens.now + 1

abbrev pub decreases-if_statement : goal.decreases-if_statement
decreases-if_statement l = 4 * length l.tokens.now

abbrev pub decreases-while_statement : goal.decreases-while_statement
decreases-while_statement l = 4 * length l.tokens.now

abbrev pub decreases-try_statement : goal.decreases-try_statement
decreases-try_statement l = 4 * length l.tokens.now

abbrev pub decreases-handlers : goal.decreases-handlers
decreases-handlers l = 4 * length l.tokens.now + 1

abbrev pub decreases-handler : goal.decreases-handler
decreases-handler l = 4 * length l.tokens.now

abbrev pub invariant-block-loop-after : goal.invariant-block-loop-after
invariant-block-loop-after l = record {
  so_far : (total : ℕ) (B : InBlock) → read total l.end l.tokens (in_statements l.depth [] B) ≡ read total l.end l.rest (in_statements l.depth (map statement_of l.body.items) B);
  shorter : length l.rest ≤ length l.tokens;
}

abbrev pub decreases-block-loop-after : goal.decreases-block-loop-after
decreases-block-loop-after l = length l.rest

abbrev pub invariant-handlers-loop-after : goal.invariant-handlers-loop-after
invariant-handlers-loop-after l = record {
  so_far : (total : ℕ) (ss : Statements) (C : InStatement) → read total l.end l.tokens (expect (kind.Mark sign.OpenParen) (want_caught (in_try ss [] l.depth C))) ≡ read total l.end l.rest (after_handler (in_try ss (map caught_of l.all.items) l.depth C));
  shorter : length l.rest < length l.tokens;
}

abbrev pub decreases-handlers-loop-after : goal.decreases-handlers-loop-after
decreases-handlers-loop-after l = length l.rest
