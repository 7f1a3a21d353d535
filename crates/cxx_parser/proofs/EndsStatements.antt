-- From each state that is reached a program can be ended, no deeper than the state allows.
use Rattle.std.specs.Prelude.{ℕ, ◌+◌, ◌≡◌, List, [], ◌∷◌, ◌++◌, Some, refl}
use Rattle.std.proofs.Common.{sym, ◌∙◌, subst}
use Rattle.cxx_ast.specs.declared.keyword.Keyword.TheVariants as keyword
use Rattle.cxx_ast.specs.declared.mark.Mark.TheVariants as sign
use Rattle.cxx_ast.specs.declared.token.Token.{Token}
use Rattle.cxx_ast.specs.declared.token.TokenKind.{TokenKind}
use Rattle.cxx_ast.specs.declared.token.TokenKind.TheVariants as kind
use Rattle.cxx_ast.specs.Plain.{Statement, Statements, Function, Declaration, block, if_else, while, try, no_else, else_do}
use Rattle.cxx_parser.specs.Contexts.{OpenClass, Holder, of_program, of_class, Signature, InStatement, in_then, in_else, in_while, in_block, InBlock, of_block, of_try, of_handler, of_function, InTry, in_try}
use Rattle.cxx_parser.specs.Functions.{have_function, open_body}
use Rattle.cxx_parser.specs.Reading.{feed}
use Rattle.cxx_parser.specs.States.{State, Step, leads, expect, have_statement, after_handler, have_signature, have_initialiser, in_class, want_declaration}
use Rattle.cxx_parser.specs.Statements.{have_block, feed_statement}
use Rattle.cxx_parser.specs.Stored.{statements_from, handlers_from}
use Rattle.cxx_parser.proofs.Past.{Passes, passes_on, token}
use Rattle.cxx_parser.proofs.Runs.{runs, first_step}

-- a program can be ended from a state with so many tokens before it
pub record Ends (limit n : ℕ) (s : State) : Type 0 where
  pub tokens : List Token
  pub declarations : List Declaration
  pub same : runs limit n tokens s ≡ Some (want_declaration declarations)

-- a token that comes first
pub comes : {limit n : ℕ} {s after : State} (k : TokenKind) → Passes limit (feed n (token k 0) s) after → Ends limit (n + 1) after → Ends limit n s
comes {limit} {n} {s} {after} k p e = record {
  tokens = token k 0 ∷ e.tokens;
  declarations = e.declarations;
  same = first_step limit n (token k 0) e.tokens s after (passes_on limit (feed n (token k 0) s) after p) ∙ e.same;
}

-- a step from which a program can be ended
pub record Ending (limit n : ℕ) (x : Step) : Type 0 where
  pub after : State
  pub leads_there : x ≡ leads after
  pub ends : Ends limit (n + 1) after

pub by_step : {limit n : ℕ} {s : State} (k : TokenKind) → Ending limit n (feed n (token k 0) s) → Ends limit n s
by_step {limit} {n} {s} k e = comes k (subst (λ (x : Step). Passes limit x e.after) (sym e.leads_there) refl) e.ends

-- the marks that end most
abbrev pub semicolon : TokenKind
semicolon = kind.Mark sign.Semicolon

abbrev pub close_brace : TokenKind
close_brace = kind.Mark sign.CloseBrace

module _ (limit : ℕ) where
  -- declarations and members
  pub declarations_end : (n : ℕ) (ds : List Declaration) → Ends limit n (want_declaration ds)
  declarations_end n ds = record { tokens = []; declarations = ds; same = refl }

  pub class_ends : (n : ℕ) (c : OpenClass) → Ends limit n (in_class c)
  unfolding feed
  class_ends n c = comes close_brace refl (comes semicolon refl (declarations_end (n + 1 + 1) _))

  pub function_ends : (n : ℕ) (f : Function) (H : Holder) → Ends limit n (have_function f H)
  function_ends n f (of_program ds) = declarations_end n _
  function_ends n f (of_class c) = class_ends n _

  -- the block of a function
  pub body_ends : (n : ℕ) (s : Signature) → Ends limit n (open_body s)
  unfolding feed
  body_ends n s = comes close_brace refl (function_ends (n + 1) _ s.heading.holder)

  mutual
    unfolding feed

    -- a statement that `}` ends, with all around it
    pub statement_ending : (C : InStatement) (s : Statement) (n : ℕ) → Ending limit n (feed_statement n (token close_brace 0) s C)
    statement_ending (in_then e c C) s n = statement_ending C (if_else e s no_else) n
    statement_ending (in_else e r C) s n = statement_ending C (if_else e r (else_do s)) n
    statement_ending (in_while e C) s n = statement_ending C (while e s) n
    statement_ending (in_block d ss B) s n = record { after = have_block n (statements_from (ss ++ (s ∷ []))) B; leads_there = refl; ends = block_ends B n (statements_from (ss ++ (s ∷ []))) (n + 1) }

    -- a block that ended
    pub block_ends : (B : InBlock) (at : ℕ) (ss : Statements) (n : ℕ) → Ends limit n (have_block at ss B)
    block_ends (of_block C) at ss n = by_step close_brace (statement_ending C (block ss) n)
    block_ends (of_try c C) at ss n =
        comes (kind.Word keyword.Catch) refl (comes (kind.Mark sign.OpenParen) refl (comes (kind.Mark sign.Ellipsis) refl (comes (kind.Mark sign.CloseParen) refl
        (comes (kind.Mark sign.OpenBrace) refl (comes close_brace refl (by_step close_brace (statement_ending C _ (n + 1 + 1 + 1 + 1 + 1 + 1))))))))
    block_ends (of_handler ty name place (in_try body cs c C)) at ss n = by_step close_brace (statement_ending C _ n)
    block_ends (of_function s) at ss n = function_ends n _ s.heading.holder

  -- a statement
  pub statement_ends : (C : InStatement) (s : Statement) (n : ℕ) → Ends limit n (have_statement s C)
  unfolding feed
  statement_ends C s n = by_step close_brace (statement_ending C s n)

  -- a handler
  pub handler_ends : (T : InTry) (n : ℕ) → Ends limit n (after_handler T)
  unfolding feed
  handler_ends (in_try ss cs c C) n = by_step close_brace (statement_ending C (try ss (handlers_from cs)) n)

  -- a statement behind its last token but one
  pub end_ends : (C : InStatement) (s : Statement) (n : ℕ) → Ends limit n (expect (kind.Mark sign.Semicolon) (have_statement s C))
  unfolding feed
  end_ends C s n = comes semicolon refl (statement_ends C s (n + 1))

  -- what stands before a body
  pub signature_ends : (n : ℕ) (s : Signature) → Ends limit n (have_signature s)
  unfolding feed
  signature_ends n s = comes (kind.Mark sign.OpenBrace) refl (body_ends (n + 1) s)

  pub initialised_ends : (n : ℕ) (s : Signature) → Ends limit n (have_initialiser s)
  unfolding feed
  initialised_ends n s = comes (kind.Mark sign.OpenBrace) refl (body_ends (n + 1) s)
