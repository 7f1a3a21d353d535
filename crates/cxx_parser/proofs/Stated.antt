-- States of statements that the tokens to come tell apart no more.
use Rattle.std.specs.Prelude.{ℕ, ◌+◌, ◌-◌, ◌≡◌, Bool, true, false, max, List, [], ◌∷◌, ◌++◌, None, length, nat_lt, refl}
use Rattle.std.proofs.Common.{ap, arith}
use Rattle.std.proofs.lemmas.Bool.Decides.{nat_tests}
use Rattle.cxx_ast.specs.Limits.{most_depth}
use Rattle.cxx_ast.specs.declared.mark.Mark.TheVariants as sign
use Rattle.cxx_ast.specs.declared.keyword.Keyword.TheVariants as keyword
use Rattle.cxx_ast.specs.declared.name.Name.{Name}
use Rattle.cxx_ast.specs.declared.token.Token.{Token}
use Rattle.cxx_ast.specs.declared.token.TokenKind.TheVariants as kind
use Rattle.cxx_ast.specs.Plain.{Expression, Statement, Statements, if_else, while, try, no_else, else_do}
use Rattle.cxx_parser.specs.Contexts.{InStatement, in_then, in_else, in_while, in_block, InBlock, in_try, InJump, in_jump, Caught, of_statement}
use Rattle.cxx_parser.specs.Expressions.{feed_names, begin_operand}
use Rattle.cxx_parser.specs.Gives.{begins, first_name}
use Rattle.cxx_parser.specs.Reading.{feed, read}
use Rattle.cxx_parser.specs.Signs.{is_mark, is_word, name_of}
use Rattle.cxx_parser.specs.States.{want_operand, want_statement, want_simple, want_plain, want_named, in_statements, have_statement, after_jump, after_handler, after_path, after_first_name, after_only_name, Step, stops, leads, within, within_step}
use Rattle.cxx_parser.specs.Statements.{begin_statement, begin_simple, begin_plain, begin_named, feed_block, feed_statement, feed_handler, feed_jump, takes_locals, feed_first_name, feed_class, feed_only_name}
use Rattle.cxx_parser.specs.Stored.{handlers_from}
use Rattle.cxx_parser.proofs.Settled.{stepped}

-- no variable is declared
pub no_local : (total end : ℕ) (tokens : List Token) (n : Name) (depth : ℕ) (C : InStatement) → takes_locals C ≡ false → read total end tokens (after_first_name n depth C) ≡ read total end tokens (after_only_name n depth C)
unfolding read feed
no_local total end [] n depth C h = refl
no_local total end (t ∷ ts) n depth C h = ap (stepped total end t ts) (goes h)
  where
    goes : takes_locals C ≡ false → feed_first_name t n depth C ≡ feed_only_name t n depth C
    goes h = rw (h, feed_first_name) refl

pub no_class : (total end : ℕ) (tokens : List Token) (n : Name) (depth : ℕ) (C : InStatement) → takes_locals C ≡ true → begins tokens (kind.Mark sign.Amp) ≡ false → first_name tokens ≡ None → read total end tokens (after_first_name n depth C) ≡ read total end tokens (after_only_name n depth C)
unfolding read feed
no_class total end [] n depth C h i j = refl
no_class total end (t ∷ ts) n depth C h i j = ap (stepped total end t ts) (goes h i j)
  where
    goes : takes_locals C ≡ true → is_mark sign.Amp t.kind ≡ false → name_of t ≡ None → feed_first_name t n depth C ≡ feed_only_name t n depth C
    goes h i j = rw (h, i, j, feed_first_name, feed_class) refl

-- a path at a depth that is not too great
within_least : (depth other : ℕ) → nat_lt most_depth depth ≡ false → nat_lt most_depth (max depth other) ≡ nat_lt most_depth other
within_least depth other h = go (nat_lt most_depth other) refl
  where
    go : (b : Bool) → nat_lt most_depth other ≡ b → nat_lt most_depth (max depth other) ≡ b
    go true e = grind (arith, nat_tests)
    go false e = grind (arith, nat_tests)

pub within_same : (total end : ℕ) (t : Token) (ts : List Token) (depth : ℕ) (s : Step) → nat_lt most_depth depth ≡ false → stepped total end t ts (within_step depth s) ≡ stepped total end t ts s
within_same total end t ts depth stops h = refl
within_same total end t ts depth (leads s) h = rw h refl
within_same total end t ts depth (within other s) h = rw (within_least depth other h) refl

pub only_name : (total end : ℕ) (tokens : List Token) (n : Name) (depth : ℕ) (C : InStatement) → nat_lt most_depth (depth + 1) ≡ false → read total end tokens (after_only_name n depth C) ≡ read total end tokens (after_path (n ∷ []) (of_statement depth C))
unfolding read feed
only_name total end [] n depth C h = refl
only_name total end (t ∷ ts) n depth C h = within_same total end t ts (depth + 1) (feed_names t (n ∷ []) (of_statement depth C)) h

-- another statement of a block
pub block_goes_on : (total end : ℕ) (tokens : List Token) (depth : ℕ) (ss : List Statement) (B : InBlock) → begins tokens (kind.Mark sign.CloseBrace) ≡ false → read total end tokens (in_statements depth ss B) ≡ read total end tokens (want_statement depth (in_block depth ss B))
unfolding read feed
block_goes_on total end [] depth ss B h = refl
block_goes_on total end (t ∷ ts) depth ss B h = ap (stepped total end t ts) (goes h)
  where
    goes : is_mark sign.CloseBrace t.kind ≡ false → feed_block (total - length (t ∷ ts)) t depth ss B ≡ begin_statement t depth (in_block depth ss B)
    goes h = rw h refl

-- a statement of a block was read
pub statement_settles : (total end : ℕ) (tokens : List Token) (s : Statement) (depth : ℕ) (ss : List Statement) (B : InBlock) → read total end tokens (have_statement s (in_block depth ss B)) ≡ read total end tokens (in_statements depth (ss ++ (s ∷ [])) B)
unfolding read feed
statement_settles total end [] s depth ss B = refl
statement_settles total end (t ∷ ts) s depth ss B = refl

-- an `if` without `else`
pub no_else_comes : (total end : ℕ) (tokens : List Token) (s : Statement) (e : Expression) (depth : ℕ) (C : InStatement) → begins tokens (kind.Word keyword.Else) ≡ false → read total end tokens (have_statement s (in_then e depth C)) ≡ read total end tokens (have_statement (if_else e s no_else) C)
unfolding read feed
no_else_comes total end [] s e depth C h = refl
no_else_comes total end (t ∷ ts) s e depth C h = ap (stepped total end t ts) (goes h)
  where
    goes : is_word keyword.Else t.kind ≡ false → feed_statement (total - length (t ∷ ts)) t s (in_then e depth C) ≡ feed_statement (total - length (t ∷ ts)) t (if_else e s no_else) C
    goes h = rw h refl

-- an `else` was read, or the body of a `while`
pub else_settles : (total end : ℕ) (tokens : List Token) (s : Statement) (e : Expression) (first : Statement) (C : InStatement) → read total end tokens (have_statement s (in_else e first C)) ≡ read total end tokens (have_statement (if_else e first (else_do s)) C)
unfolding read feed
else_settles total end [] s e first C = refl
else_settles total end (t ∷ ts) s e first C = refl

pub while_settles : (total end : ℕ) (tokens : List Token) (s : Statement) (e : Expression) (C : InStatement) → read total end tokens (have_statement s (in_while e C)) ≡ read total end tokens (have_statement (while e s) C)
unfolding read feed
while_settles total end [] s e C = refl
while_settles total end (t ∷ ts) s e C = refl

-- no further handler
pub handlers_end : (total end : ℕ) (tokens : List Token) (ss : Statements) (cs : List Caught) (depth : ℕ) (C : InStatement) → begins tokens (kind.Word keyword.Catch) ≡ false → read total end tokens (after_handler (in_try ss cs depth C)) ≡ read total end tokens (have_statement (try ss (handlers_from cs)) C)
unfolding read feed
handlers_end total end [] ss cs depth C h = refl
handlers_end total end (t ∷ ts) ss cs depth C h = ap (stepped total end t ts) (goes h)
  where
    goes : is_word keyword.Catch t.kind ≡ false → feed_handler (total - length (t ∷ ts)) t (in_try ss cs depth C) ≡ feed_statement (total - length (t ∷ ts)) t (try ss (handlers_from cs)) C
    goes h = rw h refl

-- a `return` or a `throw` with a value
pub jump_has_value : (total end : ℕ) (tokens : List Token) (depth : ℕ) (J : InJump) → begins tokens (kind.Mark sign.Semicolon) ≡ false → read total end tokens (after_jump depth J) ≡ read total end tokens (want_operand (depth + 1) [] (in_jump J))
unfolding read feed
jump_has_value total end [] depth J h = refl
jump_has_value total end (t ∷ ts) depth J h = ap (stepped total end t ts) (goes h)
  where
    goes : is_mark sign.Semicolon t.kind ≡ false → feed_jump t depth J ≡ begin_operand t (depth + 1) [] (in_jump J)
    goes h = rw h refl

-- a token that begins no statement with others in it
pub simple_begins : (total end : ℕ) (tokens : List Token) (depth : ℕ) (C : InStatement) → begins tokens (kind.Mark sign.OpenBrace) ≡ false → begins tokens (kind.Word keyword.If) ≡ false → begins tokens (kind.Word keyword.While) ≡ false → begins tokens (kind.Word keyword.Try) ≡ false → read total end tokens (want_statement depth C) ≡ read total end tokens (want_simple depth C)
unfolding read feed
simple_begins total end [] depth C a b c d = refl
simple_begins total end (t ∷ ts) depth C a b c d = ap (stepped total end t ts) (goes a b c d)
  where
    goes : is_mark sign.OpenBrace t.kind ≡ false → is_word keyword.If t.kind ≡ false → is_word keyword.While t.kind ≡ false → is_word keyword.Try t.kind ≡ false → begin_statement t depth C ≡ begin_simple t depth C
    goes a b c d = rw (a, b, c, d) refl

-- one that begins no bare value either
pub plain_begins : (total end : ℕ) (tokens : List Token) (depth : ℕ) (C : InStatement) → begins tokens (kind.Mark sign.Semicolon) ≡ false → begins tokens (kind.Word keyword.Return) ≡ false → begins tokens (kind.Word keyword.Throw) ≡ false → read total end tokens (want_simple depth C) ≡ read total end tokens (want_plain depth C)
unfolding read feed
plain_begins total end [] depth C a b c = refl
plain_begins total end (t ∷ ts) depth C a b c = ap (stepped total end t ts) (goes a b c)
  where
    goes : is_mark sign.Semicolon t.kind ≡ false → is_word keyword.Return t.kind ≡ false → is_word keyword.Throw t.kind ≡ false → begin_simple t depth C ≡ begin_plain t depth C
    goes a b c = rw (a, b, c) refl

-- one that begins none but with a name or the type of a variable
pub named_begins : (total end : ℕ) (tokens : List Token) (depth : ℕ) (C : InStatement) → begins tokens (kind.Word keyword.Break) ≡ false → begins tokens (kind.Word keyword.Continue) ≡ false → begins tokens (kind.Word keyword.Std) ≡ false → read total end tokens (want_plain depth C) ≡ read total end tokens (want_named depth C)
unfolding read feed
named_begins total end [] depth C a b c = refl
named_begins total end (t ∷ ts) depth C a b c = ap (stepped total end t ts) (goes a b c)
  where
    goes : is_word keyword.Break t.kind ≡ false → is_word keyword.Continue t.kind ≡ false → is_word keyword.Std t.kind ≡ false → begin_plain t depth C ≡ begin_named t depth C
    goes a b c = rw (a, b, c) refl
