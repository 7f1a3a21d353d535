-- Statements that are spelled are read.
use Rattle.std.specs.Prelude.{ℕ, suc, ◌+◌, ◌-◌, ◌≡◌, ◌≤◌, max, false, List, [], ◌∷◌, ◌++◌, Option, Some, None, length, refl}
use Rattle.std.proofs.Common.{ap, sym, subst, arith, append_assoc, inl, inr}
use Rattle.std.proofs.lemmas.List.{append-nil}
use Rattle.cxx_ast.specs.declared.keyword.Keyword.TheVariants as keyword
use Rattle.cxx_ast.specs.declared.mark.Mark.TheVariants as sign
use Rattle.cxx_ast.specs.declared.name.Name.{Name}
use Rattle.cxx_ast.specs.declared.token.Token.{Token}
use Rattle.cxx_ast.specs.declared.token.TokenKind.TheVariants as kind
use Rattle.cxx_ast.specs.declared.types.Ty.{Ty}
use Rattle.cxx_ast.specs.Depth.{below_expression, below_statement, below_statements, below_handlers}
use Rattle.cxx_ast.specs.Grammatical.{IsExpression, IsCaught, IsStatement, AreStatements, AreHandlers, ends_open}
use Rattle.cxx_ast.specs.Piece.{Piece, mark, word}
use Rattle.cxx_ast.specs.Plain.{Expression, number, path, paren, unary, binary, call, std_call, Statement, block, empty, if_else, while, return, break, continue, throw, try, assign, evaluate, local_int, local_ref, local_object, no_else, else_do, Statements, no_statements, statement_then, Handlers, no_handlers, handler_then}
use Rattle.cxx_ast.specs.Spelling.{spell_caught, spell_expression, spell_statement, spell_statements, spell_handlers}
use Rattle.cxx_parser.specs.Contexts.{InStatement, in_then, in_else, in_while, in_block, InBlock, of_block, of_try, of_handler, InTry, in_try, Caught, of_return, of_throw, in_if_test, in_while_test}
use Rattle.cxx_parser.specs.Reading.{feed}
use Rattle.cxx_parser.specs.States.{State, Step, expect, want_operand, want_caught, want_statement, in_statements, have_statement, after_jump, after_handler}
use Rattle.cxx_parser.specs.Statements.{have_block}
use Rattle.cxx_parser.specs.Stored.{statements_from}
use Rattle.cxx_parser.proofs.Behind.{behind, ends}
use Rattle.cxx_parser.proofs.BehindStatements.{statement_list, handler_list, from_statement_list, behind_statement, statement_settles, BeginsStatement, FollowsStatement, statement_opens, following_opens}
use Rattle.cxx_parser.proofs.Past.{Leads, stays, next, ends_as, Passes, token, kind_leads, placed_leads, alike}
use Rattle.cxx_parser.proofs.ReadsCaught.{reads_caught}
use Rattle.cxx_parser.proofs.ReadsExpressions.{reads}
use Rattle.cxx_parser.proofs.ReadsSimple.{local_taken, reads_end, reads_jump_value, reads_no_value, reads_assign, reads_call, reads_std_call, reads_int, reads_int_value, reads_reference, reads_object}
use Rattle.cxx_parser.proofs.Runs.{passed}
use Rattle.cxx_parser.proofs.Sound.{IsAllowed}

-- a statement of a block begins as a statement
block_alike : (limit n : ℕ) (t : Token) (d : ℕ) (given : List Statement) (B : InBlock) → BeginsStatement t.kind → passed limit (feed n t (in_statements d given B)) ≡ passed limit (feed n t (want_statement d (in_block d given B)))
unfolding feed
block_alike limit n t d given B q = rw q.2 refl

-- behind a statement of a block stands another, or the block's end
statement_alike : (limit n : ℕ) (t : Token) (s : Statement) (d : ℕ) (given : List Statement) (B : InBlock) → FollowsStatement t.kind → passed limit (feed n t (behind_statement d s (in_block d given B))) ≡ passed limit (feed n t (in_statements d (given ++ (s ∷ [])) B))
unfolding feed
statement_alike limit n t s d given B q = ap (passed limit) (statement_settles s n t (inl q.0) q.1 d (in_block d given B))

module _ (limit total : ℕ) where
  -- `)` behind the test of an `if` or a `while`
  closes_if : (e : Expression) → IsExpression e → (d : ℕ) (C : InStatement) (x : List Piece) → Leads limit total (mark sign.CloseParen ∷ x) (behind e (d + 1) [] (in_if_test d C)) x (want_statement (d + 1) (in_then e d C))
  unfolding feed
  closes_if e g d C x =
      kind_leads (kind.Mark sign.CloseParen) _ _ (λ n p i. subst (λ (q : Step). Passes limit q (want_statement (d + 1) (in_then e d C))) (sym (ends e g n (token (kind.Mark sign.CloseParen) p) refl refl refl (d + 1) (in_if_test d C))) refl)

  closes_while : (e : Expression) → IsExpression e → (d : ℕ) (C : InStatement) (x : List Piece) → Leads limit total (mark sign.CloseParen ∷ x) (behind e (d + 1) [] (in_while_test d C)) x (want_statement (d + 1) (in_while e C))
  unfolding feed
  closes_while e g d C x =
      kind_leads (kind.Mark sign.CloseParen) _ _ (λ n p i. subst (λ (q : Step). Passes limit q (want_statement (d + 1) (in_while e C))) (sym (ends e g n (token (kind.Mark sign.CloseParen) p) refl refl refl (d + 1) (in_while_test d C))) refl)

  reads_if_test : (e : Expression) → IsExpression e → (d : ℕ) (C : InStatement) (x : List Piece) → d + 1 + below_expression e ≤ limit → Leads limit total (word keyword.If ∷ mark sign.OpenParen ∷ spell_expression e (mark sign.CloseParen ∷ x)) (want_statement d C) x (want_statement (d + 1) (in_then e d C))
  unfolding feed
  reads_if_test e g d C x l =
      next (kind_leads (kind.Word keyword.If) (want_statement d C) (expect (kind.Mark sign.OpenParen) (want_operand (d + 1) [] (in_if_test d C))) (λ n place i. (omega (arith, l), refl)))
      (next (kind_leads (kind.Mark sign.OpenParen) (expect (kind.Mark sign.OpenParen) (want_operand (d + 1) [] (in_if_test d C))) (want_operand (d + 1) [] (in_if_test d C)) (λ n place i. refl))
      (next (reads limit total e g (d + 1) [] (in_if_test d C) (mark sign.CloseParen ∷ x) l tt) (closes_if e g d C x)))

  reads_while_test : (e : Expression) → IsExpression e → (d : ℕ) (C : InStatement) (x : List Piece) → d + 1 + below_expression e ≤ limit → Leads limit total (word keyword.While ∷ mark sign.OpenParen ∷ spell_expression e (mark sign.CloseParen ∷ x)) (want_statement d C) x (want_statement (d + 1) (in_while e C))
  unfolding feed
  reads_while_test e g d C x l =
      next (kind_leads (kind.Word keyword.While) (want_statement d C) (expect (kind.Mark sign.OpenParen) (want_operand (d + 1) [] (in_while_test d C))) (λ n place i. (omega (arith, l), refl)))
      (next (kind_leads (kind.Mark sign.OpenParen) (expect (kind.Mark sign.OpenParen) (want_operand (d + 1) [] (in_while_test d C))) (want_operand (d + 1) [] (in_while_test d C)) (λ n place i. refl))
      (next (reads limit total e g (d + 1) [] (in_while_test d C) (mark sign.CloseParen ∷ x) l tt) (closes_while e g d C x)))

  -- an `else` behind a statement to which it does not belong
  reads_else : (s : Statement) → ends_open s ≡ false → (e : Expression) (d : ℕ) (C : InStatement) (x : List Piece) → Leads limit total (word keyword.Else ∷ x) (behind_statement (d + 1) s (in_then e d C)) x (want_statement (d + 1) (in_else e s C))
  unfolding feed
  reads_else s h e d C x =
      kind_leads (kind.Word keyword.Else) _ _ (λ n p i. subst (λ (q : Step). Passes limit q (want_statement (d + 1) (in_else e s C))) (sym (statement_settles s n (token (kind.Word keyword.Else) p) (inr h) refl (d + 1) (in_then e d C))) refl)

  -- a try begins
  begins_try : (d : ℕ) (C : InStatement) (x : List Piece) → d + 2 ≤ limit → Leads limit total (word keyword.Try ∷ mark sign.OpenBrace ∷ x) (want_statement d C) x (in_statements (d + 2) [] (of_try d C))
  unfolding feed
  begins_try d C x l =
      next (kind_leads (kind.Word keyword.Try) (want_statement d C) (expect (kind.Mark sign.OpenBrace) (in_statements (d + 2) [] (of_try d C))) (λ n place i. (l, refl)))
      (kind_leads (kind.Mark sign.OpenBrace) (expect (kind.Mark sign.OpenBrace) (in_statements (d + 2) [] (of_try d C))) (in_statements (d + 2) [] (of_try d C)) (λ n place i. refl))

  -- a handler begins
  begins_handler : (T : InTry) (x : List Piece) → Leads limit total (word keyword.Catch ∷ mark sign.OpenParen ∷ x) (after_handler T) x (want_caught T)
  unfolding feed
  begins_handler (in_try ss cs d C) x =
      next (kind_leads (kind.Word keyword.Catch) (after_handler (in_try ss cs d C)) (expect (kind.Mark sign.OpenParen) (want_caught (in_try ss cs d C))) (λ n place i. refl))
      (kind_leads (kind.Mark sign.OpenParen) (expect (kind.Mark sign.OpenParen) (want_caught (in_try ss cs d C))) (want_caught (in_try ss cs d C)) (λ n place i. refl))

  begins_first_handler : (s : State) (x : List Piece) → Leads limit total (word keyword.Catch ∷ mark sign.OpenParen ∷ x) (expect (kind.Word keyword.Catch) (expect (kind.Mark sign.OpenParen) s)) x s
  unfolding feed
  begins_first_handler s x =
      next (kind_leads (kind.Word keyword.Catch) (expect (kind.Word keyword.Catch) (expect (kind.Mark sign.OpenParen) s)) (expect (kind.Mark sign.OpenParen) s) (λ n place i. refl))
      (kind_leads (kind.Mark sign.OpenParen) (expect (kind.Mark sign.OpenParen) s) s (λ n place i. refl))

  -- a handler of a try at a depth, where its statements are read
  reads_handler : (ty : Option Ty) (name : Option Name) (body : Statements) (place : ℕ) → IsCaught place ty name → (ss : Statements) (cs : List Caught) (d : ℕ) (C : InStatement) (x : List Piece) → Leads limit total (spell_statements body (mark sign.CloseBrace ∷ x)) (in_statements (d + 3) [] (of_handler ty name place (in_try ss cs d C))) x (have_block (total - suc (length x)) (statements_from (statement_list body)) (of_handler ty name place (in_try ss cs d C))) → Leads limit total (spell_caught place ty name (mark sign.CloseParen ∷ mark sign.OpenBrace ∷ spell_statements body (mark sign.CloseBrace ∷ x))) (want_caught (in_try ss cs d C)) x (after_handler (in_try ss (cs ++ (record { type = ty; name = name; body = body; place = place } ∷ [])) d C))
  reads_handler ty name body place g ss cs d C x l =
      next (reads_caught limit total ty name place g (in_try ss cs d C) (spell_statements body (mark sign.CloseBrace ∷ x)))
      (ends_as (after_handler (in_try ss (cs ++ (record { type = ty; name = name; body = body; place = place } ∷ [])) d C))
      (ap (λ q. after_handler (in_try ss (cs ++ (record { type = ty; name = name; body = q; place = place } ∷ [])) d C)) (from_statement_list body)) l)

  mutual
    unfolding feed

    -- a statement at a depth
    pub reads_statement : (s : Statement) → IsStatement s → (d : ℕ) (C : InStatement) (x : List Piece) → IsAllowed C s → d + below_statement s ≤ limit → Leads limit total (spell_statement s x) (want_statement d C) x (behind_statement d s C)
    reads_statement (block ss) g d C x a l =
        next (kind_leads (kind.Mark sign.OpenBrace) (want_statement d C) (in_statements (d + 1) [] (of_block C)) (λ n place i. (omega (arith, l), refl)))
        (ends_as (have_statement (block ss) C) (ap (λ q. have_statement (block q) C) (from_statement_list ss)) (reads_statements ss g (d + 1) [] (of_block C) x (omega (arith, l))))
    reads_statement empty g d C x a l = kind_leads (kind.Mark sign.Semicolon) (want_statement d C) (have_statement empty C) (λ n place i. (omega (arith, l), refl))
    reads_statement (if_else e s no_else) g d C x a l =
        next (reads_if_test e g.0 d C (spell_statement s x) (omega (arith, l))) (reads_statement s g.1 (d + 1) (in_then e d C) x g.2 (omega (arith, l)))
    reads_statement (if_else e s (else_do u)) g d C x a l =
        next (reads_if_test e g.0 d C (spell_statement s (word keyword.Else ∷ spell_statement u x)) (omega (arith, l)))
        (next (reads_statement s g.1 (d + 1) (in_then e d C) (word keyword.Else ∷ spell_statement u x) g.2 (omega (arith, l)))
        (next (reads_else s g.4 e d C (spell_statement u x)) (reads_statement u g.3.0 (d + 1) (in_else e s C) x g.3.1 (omega (arith, l)))))
    reads_statement (while e s) g d C x a l =
        next (reads_while_test e g.0 d C (spell_statement s x) (omega (arith, l))) (reads_statement s g.1 (d + 1) (in_while e C) x g.2 (omega (arith, l)))
    reads_statement (return place None) g d C x a l =
        next (placed_leads (kind.Word keyword.Return) place (want_statement d C) (after_jump d (of_return place C)) (λ n i. (omega (arith, l), refl))) (reads_no_value limit total d (of_return place C) x)
    reads_statement (return place (Some e)) g d C x a l =
        next (placed_leads (kind.Word keyword.Return) place (want_statement d C) (after_jump d (of_return place C)) (λ n i. (omega (arith, l), refl))) (reads_jump_value limit total e g d (of_return place C) x (omega (arith, l)))
    reads_statement (throw place None) g d C x a l =
        next (placed_leads (kind.Word keyword.Throw) place (want_statement d C) (after_jump d (of_throw place C)) (λ n i. (omega (arith, l), refl))) (reads_no_value limit total d (of_throw place C) x)
    reads_statement (throw place (Some e)) g d C x a l =
        next (placed_leads (kind.Word keyword.Throw) place (want_statement d C) (after_jump d (of_throw place C)) (λ n i. (omega (arith, l), refl))) (reads_jump_value limit total e g d (of_throw place C) x (omega (arith, l)))
    reads_statement (break place) g d C x a l =
        next (placed_leads (kind.Word keyword.Break) place (want_statement d C) (expect (kind.Mark sign.Semicolon) (have_statement (break place) C)) (λ n i. (omega (arith, l), refl))) (reads_end limit total (have_statement (break place) C) x)
    reads_statement (continue place) g d C x a l =
        next (placed_leads (kind.Word keyword.Continue) place (want_statement d C) (expect (kind.Mark sign.Semicolon) (have_statement (continue place) C)) (λ n i. (omega (arith, l), refl))) (reads_end limit total (have_statement (continue place) C) x)
    reads_statement (try ss no_handlers) g d C x a l = absurd g.1
    reads_statement (try ss (handler_then ty name body place hs)) g d C x a l =
        next (begins_try d C (spell_statements ss (mark sign.CloseBrace ∷ spell_handlers (handler_then ty name body place hs) x)) (omega (arith, l)))
        (next (ends_as (have_block 0 ss (of_try d C)) (ap (λ q. have_block 0 q (of_try d C)) (from_statement_list ss)) (reads_statements ss g.0 (d + 2) [] (of_try d C) (spell_handlers (handler_then ty name body place hs) x) (omega (arith, l))))
        (next (begins_first_handler (want_caught (in_try ss [] d C)) (spell_caught place ty name (mark sign.CloseParen ∷ mark sign.OpenBrace ∷ spell_statements body (mark sign.CloseBrace ∷ spell_handlers hs x))))
        (next (reads_handler ty name body place g.2.0 ss [] d C (spell_handlers hs x) (reads_statements body g.2.1 (d + 3) [] (of_handler ty name place (in_try ss [] d C)) (spell_handlers hs x) (omega (arith, l)))) (reads_handlers hs g.2.2 ss (record { type = ty; name = name; body = body; place = place } ∷ []) d C x (omega (arith, l))))))
    reads_statement (assign names e) g d C x a l = reads_assign limit total names e g.0 g.1 d C x (omega (arith, l))
    reads_statement (evaluate (call names es)) g d C x a l = reads_call limit total names es g.0.0 g.0.1 d C x (omega (arith, l))
    reads_statement (evaluate (std_call m es place)) g d C x a l = reads_std_call limit total m es place g.0 d C x (omega (arith, l))
    reads_statement (evaluate (number v place)) g d C x a l = absurd g.1
    reads_statement (evaluate (path names)) g d C x a l = absurd g.1
    reads_statement (evaluate (paren e place)) g d C x a l = absurd g.1
    reads_statement (evaluate (unary op e place)) g d C x a l = absurd g.1
    reads_statement (evaluate (binary op e f)) g d C x a l = absurd g.1
    reads_statement (local_int m None) g d C x a l = reads_int limit total m d C x a (omega (arith, l))
    reads_statement (local_int m (Some e)) g d C x a l = reads_int_value limit total m e g d C x a (omega (arith, l))
    reads_statement (local_ref p names) g d C x a l = reads_reference limit total p.ty p.name names g.0 g.1 g.2 d C x (local_taken C (local_ref p names) refl a) (omega (arith, l))
    reads_statement (local_object c m es) g d C x a l = reads_object limit total c m es g d C x (local_taken C (local_object c m es) refl a) (omega (arith, l)) l

    -- statements at a depth, and the end of their block
    pub reads_statements : (ss : Statements) → AreStatements ss → (d : ℕ) (given : List Statement) (B : InBlock) (x : List Piece) → d + below_statements ss ≤ max (limit + 1) d → Leads limit total (spell_statements ss (mark sign.CloseBrace ∷ x)) (in_statements d given B) x (have_block (total - suc (length x)) (statements_from (given ++ statement_list ss)) B)
    reads_statements no_statements g d given B x l =
        ends_as (have_block (total - suc (length x)) (statements_from (given ++ [])) B) (ap (λ q. have_block (total - suc (length x)) (statements_from q) B) (sym (append-nil given)))
        (kind_leads (kind.Mark sign.CloseBrace) (in_statements d given B) (have_block (total - suc (length x)) (statements_from given) B) (λ n place i. ap (λ (q : ℕ). have_block q (statements_from given) B) (omega (arith, i))))
    reads_statements (statement_then s ss) g d given B x l =
        alike BeginsStatement (in_statements d given B) (want_statement d (in_block d given B)) (statement_opens s (spell_statements ss (mark sign.CloseBrace ∷ x)) g.0) (λ n t q. block_alike limit n t d given B q)
        (next (reads_statement s g.0 d (in_block d given B) (spell_statements ss (mark sign.CloseBrace ∷ x)) tt (omega (arith, l)))
        (alike FollowsStatement (behind_statement d s (in_block d given B)) (in_statements d (given ++ (s ∷ [])) B) (following_opens ss x g.1) (λ n t q. statement_alike limit n t s d given B q)
        (ends_as (have_block (total - suc (length x)) (statements_from (given ++ (s ∷ statement_list ss))) B) (ap (λ q. have_block (total - suc (length x)) (statements_from q) B) (append_assoc given (s ∷ []) (statement_list ss)))
        (reads_statements ss g.1 d (given ++ (s ∷ [])) B x (omega (arith, l))))))

    -- further handlers
    reads_handlers : (hs : Handlers) → AreHandlers hs → (ss : Statements) (cs : List Caught) (d : ℕ) (C : InStatement) (x : List Piece) → d + below_handlers hs ≤ max limit d → Leads limit total (spell_handlers hs x) (after_handler (in_try ss cs d C)) x (after_handler (in_try ss (cs ++ handler_list hs) d C))
    reads_handlers no_handlers g ss cs d C x l = ends_as (after_handler (in_try ss (cs ++ []) d C)) (ap (λ q. after_handler (in_try ss q d C)) (sym (append-nil cs))) stays
    reads_handlers (handler_then ty name body place hs) g ss cs d C x l =
        next (begins_handler (in_try ss cs d C) (spell_caught place ty name (mark sign.CloseParen ∷ mark sign.OpenBrace ∷ spell_statements body (mark sign.CloseBrace ∷ spell_handlers hs x))))
        (next (reads_handler ty name body place g.0 ss cs d C (spell_handlers hs x) (reads_statements body g.1 (d + 3) [] (of_handler ty name place (in_try ss cs d C)) (spell_handlers hs x) (omega (arith, l))))
        (ends_as (after_handler (in_try ss (cs ++ handler_list (handler_then ty name body place hs)) d C)) (ap (λ q. after_handler (in_try ss q d C)) (append_assoc cs (record { type = ty; name = name; body = body; place = place } ∷ []) (handler_list hs)))
        (reads_handlers hs g.2 ss (cs ++ (record { type = ty; name = name; body = body; place = place } ∷ [])) d C x (omega (arith, l)))))
