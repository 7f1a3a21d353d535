-- The state behind a statement that was read, and what a token does in it.
use Rattle.std.specs.Prelude.{ℕ, ◌+◌, ◌≡◌, ◌⊎◌, true, false, List, [], ◌∷◌, refl}
use Rattle.std.proofs.Common.{ap, ◌∙◌, inl, inr}
use Rattle.cxx_ast.specs.declared.keyword.Keyword.TheVariants as keyword
use Rattle.cxx_ast.specs.declared.mark.Mark.TheVariants as sign
use Rattle.cxx_ast.specs.declared.name.Name.{Name}
use Rattle.cxx_ast.specs.declared.token.Token.{Token}
use Rattle.cxx_ast.specs.declared.token.TokenKind.{TokenKind}
use Rattle.cxx_ast.specs.declared.types.Ty.{Ty}
use Rattle.cxx_ast.specs.declared.types.Ty.TheVariants.{Int, Void, Object, IntRef, ObjectRef}
use Rattle.cxx_ast.specs.Grammatical.{NotEmpty, IsReference, IsStatement, AreStatements, ends_open}
use Rattle.cxx_ast.specs.Piece.{Piece, named, mark, word, word_at}
use Rattle.cxx_ast.specs.Plain.{Expression, number, path, paren, unary, binary, call, std_call, Statement, block, empty, if_else, while, return, break, continue, throw, try, assign, evaluate, local_int, local_ref, local_object, no_else, else_do, Statements, no_statements, statement_then, Handlers, no_handlers, handler_then}
use Rattle.cxx_ast.specs.Spelling.{spell_class, spell_dots, spell_type, spell_name, spell_path, spell_expression, spell_arguments, spell_value, spell_start, spell_object_arguments, spell_statement, spell_else, spell_statements, spell_handlers}
use Rattle.cxx_parser.specs.Contexts.{InStatement, in_then, in_else, in_while, in_try, Caught}
use Rattle.cxx_parser.specs.Reading.{feed}
use Rattle.cxx_parser.specs.Signs.{is_mark, is_word}
use Rattle.cxx_parser.specs.States.{State, have_statement, after_handler}
use Rattle.cxx_parser.specs.Statements.{feed_statement, feed_handler}
use Rattle.cxx_parser.specs.Stored.{statements_from, handlers_from}
use Rattle.cxx_parser.proofs.Past.{Opening, opens, opens_as}
use Rattle.cxx_parser.proofs.ReadsTypes.{plain_spelled}

-- statements and handlers as lists
abbrev pub statement_list : Statements → List Statement
statement_list no_statements = []
statement_list (statement_then s ss) = s ∷ statement_list ss

abbrev pub handler_list : Handlers → List Caught
handler_list no_handlers = []
handler_list (handler_then ty name ss place hs) = record { type = ty; name = name; body = ss; place = place } ∷ handler_list hs

pub from_statement_list : (ss : Statements) → statements_from (statement_list ss) ≡ ss
from_statement_list no_statements = refl
from_statement_list (statement_then s ss) = ap (statement_then s) (from_statement_list ss)

pub from_handler_list : (hs : Handlers) → handlers_from (handler_list hs) ≡ hs
from_handler_list no_handlers = refl
from_handler_list (handler_then ty name ss place hs) = ap (handler_then ty name ss place) (from_handler_list hs)

-- the state behind a statement at a depth, where nothing shows yet that it ended
abbrev pub behind_statement : ℕ → Statement → InStatement → State
behind_statement d (if_else e s no_else) C = behind_statement (d + 1) s (in_then e d C)
behind_statement d (if_else e s (else_do t)) C = behind_statement (d + 1) t (in_else e s C)
behind_statement d (while e s) C = behind_statement (d + 1) s (in_while e C)
behind_statement d (try ss hs) C = after_handler (in_try ss (handler_list hs) d C)
behind_statement d s C = have_statement s C

-- no further handler
no_catch : (n : ℕ) (t : Token) → is_word keyword.Catch t.kind ≡ false → (ss : Statements) (hs : Handlers) (d : ℕ) (C : InStatement) → feed_handler n t (in_try ss (handler_list hs) d C) ≡ feed_statement n t (try ss hs) C
no_catch n t h ss hs d C = rw h (ap (λ q. feed_statement n t (try ss q) C) (from_handler_list hs))

-- no `else`
no_else_comes : (n : ℕ) (t : Token) → is_word keyword.Else t.kind ≡ false → (s : Statement) (e : Expression) (d : ℕ) (C : InStatement) → feed_statement n t s (in_then e d C) ≡ feed_statement n t (if_else e s no_else) C
no_else_comes n t h s e d C = rw h refl

-- a token behind a statement that goes on with no part of it
pub statement_settles : (s : Statement) (n : ℕ) (t : Token) → (is_word keyword.Else t.kind ≡ false) ⊎ (ends_open s ≡ false) → is_word keyword.Catch t.kind ≡ false → (d : ℕ) (C : InStatement) → feed n t (behind_statement d s C) ≡ feed_statement n t s C
unfolding feed
statement_settles (block ss) n t h c d C = refl
statement_settles empty n t h c d C = refl
statement_settles (if_else e s no_else) n t (inl h) c d C = statement_settles s n t (inl h) c (d + 1) (in_then e d C) ∙ no_else_comes n t h s e d C
statement_settles (if_else e s no_else) n t (inr h) c d C = cc
statement_settles (if_else e s (else_do u)) n t (inl h) c d C = statement_settles u n t (inl h) c (d + 1) (in_else e s C)
statement_settles (if_else e s (else_do u)) n t (inr h) c d C = statement_settles u n t (inr h) c (d + 1) (in_else e s C)
statement_settles (while e s) n t (inl h) c d C = statement_settles s n t (inl h) c (d + 1) (in_while e C)
statement_settles (while e s) n t (inr h) c d C = statement_settles s n t (inr h) c (d + 1) (in_while e C)
statement_settles (return place e) n t h c d C = refl
statement_settles (break place) n t h c d C = refl
statement_settles (continue place) n t h c d C = refl
statement_settles (throw place e) n t h c d C = refl
statement_settles (try ss hs) n t h c d C = no_catch n t c ss hs d C
statement_settles (assign names e) n t h c d C = refl
statement_settles (evaluate e) n t h c d C = refl
statement_settles (local_int m e) n t h c d C = refl
statement_settles (local_ref p names) n t h c d C = refl
statement_settles (local_object k m es) n t h c d C = refl

-- a token that begins a statement in a block
abbrev pub BeginsStatement : TokenKind → Type 0
BeginsStatement k = (is_word keyword.Else k ≡ false) × (is_word keyword.Catch k ≡ false) × (is_mark sign.CloseBrace k ≡ false)

-- a token behind a statement in a block
abbrev pub FollowsStatement : TokenKind → Type 0
FollowsStatement k = (is_word keyword.Else k ≡ false) × (is_word keyword.Catch k ≡ false)

path_opens : (names : List Name) (x : List Piece) → NotEmpty names → Opening BeginsStatement (spell_path names x)
path_opens [] x g = absurd g
path_opens (m ∷ names) x g = opens BeginsStatement (named m) (spell_dots names x) (refl, refl, refl)

reference_opens : (ty : Ty) (x : List Piece) → IsReference ty → Opening BeginsStatement (spell_type ty x)
reference_opens Int x g = absurd g
reference_opens Void x g = absurd g
reference_opens (Object m) x g = absurd g
reference_opens (IntRef true) x g = opens BeginsStatement (word keyword.Const) (word keyword.Int ∷ mark sign.Amp ∷ x) (refl, refl, refl)
reference_opens (IntRef false) x g = opens BeginsStatement (word keyword.Int) (mark sign.Amp ∷ x) (refl, refl, refl)
reference_opens (ObjectRef true m) x g = opens BeginsStatement (word keyword.Const) (spell_class m (mark sign.Amp ∷ x)) (refl, refl, refl)
reference_opens (ObjectRef false m) x g = record { piece = named m; more = mark sign.Amp ∷ x; parts = plain_spelled m (mark sign.Amp ∷ x) g; first = (refl, refl, refl) }

call_opens : (e : Expression) (x : List Piece) → IsStatement (evaluate e) → Opening BeginsStatement (spell_expression e x)
call_opens (call names es) x g = path_opens names (mark sign.OpenParen ∷ spell_arguments es (mark sign.CloseParen ∷ x)) g.0.0
call_opens (std_call m es place) x g =
    opens BeginsStatement (word_at keyword.Std place) (mark sign.ColonColon ∷ named m ∷ mark sign.OpenParen ∷ spell_arguments es (mark sign.CloseParen ∷ x)) (refl, refl, refl)
call_opens (number v place) x g = absurd g.1
call_opens (path names) x g = absurd g.1
call_opens (paren e place) x g = absurd g.1
call_opens (unary op e place) x g = absurd g.1
call_opens (binary op a b) x g = absurd g.1

-- how a statement begins
pub statement_opens : (s : Statement) (x : List Piece) → IsStatement s → Opening BeginsStatement (spell_statement s x)
statement_opens (block ss) x g = opens BeginsStatement (mark sign.OpenBrace) (spell_statements ss (mark sign.CloseBrace ∷ x)) (refl, refl, refl)
statement_opens empty x g = opens BeginsStatement (mark sign.Semicolon) x (refl, refl, refl)
statement_opens (if_else e s other) x g = opens BeginsStatement (word keyword.If) (mark sign.OpenParen ∷ spell_expression e (mark sign.CloseParen ∷ spell_statement s (spell_else other x))) (refl, refl, refl)
statement_opens (while e s) x g = opens BeginsStatement (word keyword.While) (mark sign.OpenParen ∷ spell_expression e (mark sign.CloseParen ∷ spell_statement s x)) (refl, refl, refl)
statement_opens (return place e) x g = opens BeginsStatement (word_at keyword.Return place) (spell_value e (mark sign.Semicolon ∷ x)) (refl, refl, refl)
statement_opens (break place) x g = opens BeginsStatement (word_at keyword.Break place) (mark sign.Semicolon ∷ x) (refl, refl, refl)
statement_opens (continue place) x g = opens BeginsStatement (word_at keyword.Continue place) (mark sign.Semicolon ∷ x) (refl, refl, refl)
statement_opens (throw place e) x g = opens BeginsStatement (word_at keyword.Throw place) (spell_value e (mark sign.Semicolon ∷ x)) (refl, refl, refl)
statement_opens (try ss hs) x g = opens BeginsStatement (word keyword.Try) (mark sign.OpenBrace ∷ spell_statements ss (mark sign.CloseBrace ∷ spell_handlers hs x)) (refl, refl, refl)
statement_opens (assign names e) x g = path_opens names (mark sign.Assign ∷ spell_expression e (mark sign.Semicolon ∷ x)) g.0
statement_opens (evaluate e) x g = call_opens e (mark sign.Semicolon ∷ x) g
statement_opens (local_int m e) x g = opens BeginsStatement (word keyword.Int) (named m ∷ spell_start e (mark sign.Semicolon ∷ x)) (refl, refl, refl)
statement_opens (local_ref p names) x g = reference_opens p.ty (spell_name p.name (mark sign.Assign ∷ spell_path names (mark sign.Semicolon ∷ x))) g.0
statement_opens (local_object c m es) x g = opens BeginsStatement (named c) (named m ∷ spell_object_arguments es (mark sign.Semicolon ∷ x)) (refl, refl, refl)

-- how what follows a statement in a block begins
pub following_opens : (ss : Statements) (x : List Piece) → AreStatements ss → Opening FollowsStatement (spell_statements ss (mark sign.CloseBrace ∷ x))
following_opens no_statements x g = opens FollowsStatement (mark sign.CloseBrace) x (refl, refl)
following_opens (statement_then s ss) x g =
    opens_as BeginsStatement FollowsStatement (spell_statement s (spell_statements ss (mark sign.CloseBrace ∷ x))) (λ k q. (q.0, q.1)) (statement_opens s (spell_statements ss (mark sign.CloseBrace ∷ x)) g.0)
