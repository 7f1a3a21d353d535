-- How types, expressions and statements are spelled. Each function gives the pieces of a tree, and behind them those that are given.
use Rattle.std.specs.Prelude.{ℕ, Bool, true, false, List, [], ◌∷◌, codes, bytes_eq, Option, Some, None, if◌then◌else◌}
use Rattle.cxx_ast.specs.declared.name.Name.{Name}
use Rattle.cxx_ast.specs.declared.types.Ty.{Ty}
use Rattle.cxx_ast.specs.declared.types.Ty.TheVariants.{Int, Void, Object, IntRef, ObjectRef}
use Rattle.cxx_ast.specs.declared.types.Param.{Param}
use Rattle.cxx_ast.specs.declared.token.TokenKind.TheVariants as kind
use Rattle.cxx_ast.specs.declared.keyword.Keyword.TheVariants as keyword
use Rattle.cxx_ast.specs.declared.mark.Mark.TheVariants as sign
use Rattle.cxx_ast.specs.Plain.{Expression, number, path, paren, unary, binary, call, std_call, Expressions, no_expressions, expression_then, Statement, block, empty, if_else, while, return, break, continue, throw, try, assign, evaluate, local_int, local_ref, local_object, Else, no_else, else_do, Statements, no_statements, statement_then, Handlers, no_handlers, handler_then}
use Rattle.cxx_ast.specs.Operator.{unary_mark, binary_mark}
use Rattle.cxx_ast.specs.Piece.{Piece, anywhere, placed, named, word, mark, word_at, mark_at}

-- the pieces of something, with others behind them
abbrev pub Spelling : Type 0
Spelling = List Piece → List Piece

-- a name is that of `std::bad_exception`
abbrev pub is_bad_exception : Name → Bool
is_bad_exception n = bytes_eq n.text (codes "std::bad_exception")

-- the class that a type names
abbrev pub spell_class : Name → Spelling
spell_class n after =
    if is_bad_exception n then word_at keyword.Std n.place ∷ mark sign.ColonColon ∷ anywhere (kind.Name (codes "bad_exception")) ∷ after
    else named n ∷ after

-- `const`, or nothing
abbrev pub spell_const : Bool → Spelling
spell_const true after = word keyword.Const ∷ after
spell_const false after = after

-- a type
abbrev pub spell_type : Ty → Spelling
spell_type Int after = word keyword.Int ∷ after
spell_type Void after = word keyword.Void ∷ after
spell_type (Object n) after = spell_class n after
spell_type (IntRef const) after = spell_const const (word keyword.Int ∷ mark sign.Amp ∷ after)
spell_type (ObjectRef const n) after = spell_const const (spell_class n (mark sign.Amp ∷ after))

-- a name, where there is one
abbrev pub spell_name : Option Name → Spelling
spell_name None after = after
spell_name (Some n) after = named n ∷ after

-- a type and the name behind it
abbrev pub spell_param : Param → Spelling
spell_param p after = spell_type p.ty (spell_name p.name after)

-- the first piece stands at a place
abbrev pub first_at : ℕ → Spelling
first_at place (anywhere k ∷ ps) = placed k place ∷ ps
first_at place ps = ps

-- `.b.c`
abbrev pub spell_dots : List Name → Spelling
spell_dots [] after = after
spell_dots (n ∷ names) after = mark sign.Dot ∷ named n ∷ spell_dots names after

-- `a.b.c`
abbrev pub spell_path : List Name → Spelling
spell_path [] after = after
spell_path (n ∷ names) after = named n ∷ spell_dots names after

-- an expression, and expressions with a comma before each or between them
abbrev mutual
  pub spell_expression : Expression → Spelling
  spell_expression (number n place) after = placed (kind.Number n) place ∷ after
  spell_expression (path names) after = spell_path names after
  spell_expression (paren e place) after = mark_at sign.OpenParen place ∷ spell_expression e (mark sign.CloseParen ∷ after)
  spell_expression (unary op e place) after = mark_at (unary_mark op) place ∷ spell_expression e after
  spell_expression (binary op a b) after = spell_expression a (mark (binary_mark op) ∷ spell_expression b after)
  spell_expression (call names es) after = spell_path names (mark sign.OpenParen ∷ spell_arguments es (mark sign.CloseParen ∷ after))
  spell_expression (std_call n es place) after =
      word_at keyword.Std place ∷ mark sign.ColonColon ∷ named n ∷ mark sign.OpenParen ∷ spell_arguments es (mark sign.CloseParen ∷ after)

  pub spell_arguments : Expressions → Spelling
  spell_arguments no_expressions after = after
  spell_arguments (expression_then e es) after = spell_expression e (spell_more es after)

  pub spell_more : Expressions → Spelling
  spell_more no_expressions after = after
  spell_more (expression_then e es) after = mark sign.Comma ∷ spell_expression e (spell_more es after)

-- an expression, where there is one
abbrev pub spell_value : Option Expression → Spelling
spell_value None after = after
spell_value (Some e) after = spell_expression e after

-- `= e`, where there is a value
abbrev pub spell_start : Option Expression → Spelling
spell_start None after = after
spell_start (Some e) after = mark sign.Assign ∷ spell_expression e after

-- the arguments of an object in parentheses, which are not written where there is none
abbrev pub spell_object_arguments : Expressions → Spelling
spell_object_arguments no_expressions after = after
spell_object_arguments es after = mark sign.OpenParen ∷ spell_arguments es (mark sign.CloseParen ∷ after)

-- what a handler catches
abbrev pub spell_caught : ℕ → Option Ty → Option Name → Spelling
spell_caught place None name after = mark_at sign.Ellipsis place ∷ after
spell_caught place (Some ty) name after = first_at place (spell_type ty (spell_name name after))

-- a statement, what stands behind `else`, the statements of a block, and handlers
abbrev mutual
  pub spell_statement : Statement → Spelling
  spell_statement (block ss) after = mark sign.OpenBrace ∷ spell_statements ss (mark sign.CloseBrace ∷ after)
  spell_statement empty after = mark sign.Semicolon ∷ after
  spell_statement (if_else e s other) after =
      word keyword.If ∷ mark sign.OpenParen ∷ spell_expression e (mark sign.CloseParen ∷ spell_statement s (spell_else other after))
  spell_statement (while e s) after = word keyword.While ∷ mark sign.OpenParen ∷ spell_expression e (mark sign.CloseParen ∷ spell_statement s after)
  spell_statement (return place e) after = word_at keyword.Return place ∷ spell_value e (mark sign.Semicolon ∷ after)
  spell_statement (break place) after = word_at keyword.Break place ∷ mark sign.Semicolon ∷ after
  spell_statement (continue place) after = word_at keyword.Continue place ∷ mark sign.Semicolon ∷ after
  spell_statement (throw place e) after = word_at keyword.Throw place ∷ spell_value e (mark sign.Semicolon ∷ after)
  spell_statement (try ss hs) after = word keyword.Try ∷ mark sign.OpenBrace ∷ spell_statements ss (mark sign.CloseBrace ∷ spell_handlers hs after)
  spell_statement (assign names e) after = spell_path names (mark sign.Assign ∷ spell_expression e (mark sign.Semicolon ∷ after))
  spell_statement (evaluate e) after = spell_expression e (mark sign.Semicolon ∷ after)
  spell_statement (local_int n e) after = word keyword.Int ∷ named n ∷ spell_start e (mark sign.Semicolon ∷ after)
  spell_statement (local_ref p names) after = spell_param p (mark sign.Assign ∷ spell_path names (mark sign.Semicolon ∷ after))
  spell_statement (local_object c n es) after = named c ∷ named n ∷ spell_object_arguments es (mark sign.Semicolon ∷ after)

  pub spell_else : Else → Spelling
  spell_else no_else after = after
  spell_else (else_do s) after = word keyword.Else ∷ spell_statement s after

  pub spell_statements : Statements → Spelling
  spell_statements no_statements after = after
  spell_statements (statement_then s ss) after = spell_statement s (spell_statements ss after)

  pub spell_handlers : Handlers → Spelling
  spell_handlers no_handlers after = after
  spell_handlers (handler_then ty n ss place hs) after =
      word keyword.Catch ∷ mark sign.OpenParen ∷ spell_caught place ty n (mark sign.CloseParen ∷ mark sign.OpenBrace ∷ spell_statements ss (mark sign.CloseBrace ∷ spell_handlers hs after))
