-- Where the literals of all pieces of a source are ints, so are those of the pieces behind each part of a program.
use Rattle.std.proofs.Common.{Bool, true, false, ℕ, List, [], ◌∷◌, Option, Some, None, codes, if◌then◌else◌}
use Rattle.cxx_ast.specs.declared.name.Name.{Name}
use Rattle.cxx_ast.specs.declared.types.Ty.{Ty}
use Rattle.cxx_ast.specs.declared.types.Ty.TheVariants.{Int, Void, Object, IntRef, ObjectRef}
use Rattle.cxx_ast.specs.declared.declaration.FuncKind.{FuncKind}
use Rattle.cxx_ast.specs.declared.declaration.FuncKind.TheVariants.{Plain, Method, Constructor, Destructor}
use Rattle.cxx_ast.specs.declared.types.Param.{Param}
use Rattle.cxx_ast.specs.declared.token.TokenKind.TheVariants as kind
use Rattle.cxx_ast.specs.declared.keyword.Keyword.TheVariants as keyword
use Rattle.cxx_ast.specs.declared.mark.Mark.TheVariants as sign
use Rattle.cxx_ast.specs.Plain.{Expression, number, path, paren, unary, binary, call, std_call, Expressions, no_expressions, expression_then, Statement, block, empty, if_else, while, return, break, continue, throw, try, assign, evaluate, local_int, local_ref, local_object, Else, no_else, else_do, Statements, no_statements, statement_then, Handlers, no_handlers, handler_then, Initialiser, Function, Specification, listed, noexcept}
use Rattle.cxx_ast.specs.Piece.{Piece, anywhere, placed, named, word, mark, word_at}
use Rattle.cxx_ast.specs.Spelling.{is_bad_exception, spell_class, spell_const, spell_type, spell_name, spell_param, first_at, spell_dots, spell_path, spell_expression, spell_arguments, spell_more, spell_value, spell_start, spell_object_arguments, spell_caught, spell_statement, spell_else, spell_statements, spell_handlers}
use Rattle.cxx_ast.specs.Operator.{binary_mark}
use Rattle.cxx_ast.specs.Written.{Member, data_member, function_member, spell_more_params, spell_params, spell_result, spell_tilde, spell_base, spell_more_types, spell_types, spell_specification, spell_initialiser, spell_more_initialisers, spell_initialisers, spell_body, spell_function, spell_members, in_full}
use Rattle.checked_units.proofs.SourceLiterals.{AreInts}

after_class : (x : Name) (after : List Piece) → AreInts (spell_class x after) → AreInts after
after_class x after h = go (is_bad_exception x) h
  where
    go : (b : Bool) → AreInts (if b then word_at keyword.Std x.place ∷ mark sign.ColonColon ∷ anywhere (kind.Name (codes "bad_exception")) ∷ after else named x ∷ after) → AreInts after
    go true h = h.1.1.1
    go false h = h.1

after_const : (b : Bool) (after : List Piece) → AreInts (spell_const b after) → AreInts after
after_const true after h = h.1
after_const false after h = h

pub after_type : (t : Ty) (after : List Piece) → AreInts (spell_type t after) → AreInts after
after_type Int after h = h.1
after_type Void after h = h.1
after_type (Object x) after h = after_class x after h
after_type (IntRef const) after h = (after_const const (word keyword.Int ∷ mark sign.Amp ∷ after) h).1.1
after_type (ObjectRef const x) after h = (after_class x (mark sign.Amp ∷ after) (after_const const (spell_class x (mark sign.Amp ∷ after)) h)).1

after_some_name : (x : Option Name) (after : List Piece) → AreInts (spell_name x after) → AreInts after
after_some_name None after h = h
after_some_name (Some x) after h = h.1

pub after_param : (p : Param) (after : List Piece) → AreInts (spell_param p after) → AreInts after
after_param p after h = after_some_name p.name after (after_type p.ty (spell_name p.name after) h)

after_first : (place : ℕ) (ps : List Piece) → AreInts (first_at place ps) → AreInts ps
after_first place [] h = h
after_first place (anywhere k ∷ ps) h = h
after_first place (placed k other ∷ ps) h = h
after_first place (named x ∷ ps) h = h

after_dots : (names : List Name) (after : List Piece) → AreInts (spell_dots names after) → AreInts after
after_dots [] after h = h
after_dots (x ∷ names) after h = after_dots names after h.1.1

pub after_path : (names : List Name) (after : List Piece) → AreInts (spell_path names after) → AreInts after
after_path [] after h = h
after_path (x ∷ names) after h = after_dots names after h.1

mutual
  after_expression : (e : Expression) (after : List Piece) → AreInts (spell_expression e after) → AreInts after
  after_expression (number v place) after h = h.1
  after_expression (path names) after h = after_path names after h
  after_expression (paren e place) after h = (after_expression e (mark sign.CloseParen ∷ after) h.1).1
  after_expression (unary o e place) after h = after_expression e after h.1
  after_expression (binary o a b) after h = after_expression b after (after_expression a (mark (binary_mark o) ∷ spell_expression b after) h).1
  after_expression (call names es) after h =
      (after_arguments es (mark sign.CloseParen ∷ after) (after_path names (mark sign.OpenParen ∷ spell_arguments es (mark sign.CloseParen ∷ after)) h).1).1
  after_expression (std_call x es place) after h = (after_arguments es (mark sign.CloseParen ∷ after) h.1.1.1.1).1

  after_arguments : (es : Expressions) (after : List Piece) → AreInts (spell_arguments es after) → AreInts after
  after_arguments no_expressions after h = h
  after_arguments (expression_then e es) after h = after_more es after (after_expression e (spell_more es after) h)

  after_more : (es : Expressions) (after : List Piece) → AreInts (spell_more es after) → AreInts after
  after_more no_expressions after h = h
  after_more (expression_then e es) after h = after_more es after (after_expression e (spell_more es after) h.1)

after_value : (e : Option Expression) (after : List Piece) → AreInts (spell_value e after) → AreInts after
after_value None after h = h
after_value (Some e) after h = after_expression e after h

after_start : (e : Option Expression) (after : List Piece) → AreInts (spell_start e after) → AreInts after
after_start None after h = h
after_start (Some e) after h = after_expression e after h.1

after_object : (es : Expressions) (after : List Piece) → AreInts (spell_object_arguments es after) → AreInts after
after_object no_expressions after h = h
after_object (expression_then e es) after h = (after_arguments (expression_then e es) (mark sign.CloseParen ∷ after) h.1).1

pub after_caught : (place : ℕ) (t : Option Ty) (x : Option Name) (after : List Piece) → AreInts (spell_caught place t x after) → AreInts after
after_caught place None x after h = h.1
after_caught place (Some t) x after h = after_some_name x after (after_type t (spell_name x after) (after_first place (spell_type t (spell_name x after)) h))

mutual
  after_statement : (s : Statement) (after : List Piece) → AreInts (spell_statement s after) → AreInts after
  after_statement (block ss) after h = (after_statements ss (mark sign.CloseBrace ∷ after) h.1).1
  after_statement empty after h = h.1
  after_statement (if_else e s t) after h =
      after_else t after (after_statement s (spell_else t after) (after_expression e (mark sign.CloseParen ∷ spell_statement s (spell_else t after)) h.1.1).1)
  after_statement (while e s) after h = after_statement s after (after_expression e (mark sign.CloseParen ∷ spell_statement s after) h.1.1).1
  after_statement (return place e) after h = (after_value e (mark sign.Semicolon ∷ after) h.1).1
  after_statement (break place) after h = h.1.1
  after_statement (continue place) after h = h.1.1
  after_statement (throw place e) after h = (after_value e (mark sign.Semicolon ∷ after) h.1).1
  after_statement (try ss hs) after h = after_handlers hs after (after_statements ss (mark sign.CloseBrace ∷ spell_handlers hs after) h.1.1).1
  after_statement (assign names e) after h =
      (after_expression e (mark sign.Semicolon ∷ after) (after_path names (mark sign.Assign ∷ spell_expression e (mark sign.Semicolon ∷ after)) h).1).1
  after_statement (evaluate e) after h = (after_expression e (mark sign.Semicolon ∷ after) h).1
  after_statement (local_int x e) after h = (after_start e (mark sign.Semicolon ∷ after) h.1.1).1
  after_statement (local_ref p names) after h =
      (after_path names (mark sign.Semicolon ∷ after) (after_param p (mark sign.Assign ∷ spell_path names (mark sign.Semicolon ∷ after)) h).1).1
  after_statement (local_object c x es) after h = (after_object es (mark sign.Semicolon ∷ after) h.1.1).1

  after_else : (t : Else) (after : List Piece) → AreInts (spell_else t after) → AreInts after
  after_else no_else after h = h
  after_else (else_do s) after h = after_statement s after h.1

  after_statements : (ss : Statements) (after : List Piece) → AreInts (spell_statements ss after) → AreInts after
  after_statements no_statements after h = h
  after_statements (statement_then s ss) after h = after_statements ss after (after_statement s (spell_statements ss after) h)

  after_handlers : (hs : Handlers) (after : List Piece) → AreInts (spell_handlers hs after) → AreInts after
  after_handlers no_handlers after h = h
  after_handlers (handler_then t x ss place hs) after h =
      let rest = mark sign.CloseBrace ∷ spell_handlers hs after in
      after_handlers hs after (after_statements ss rest (after_caught place t x (mark sign.CloseParen ∷ mark sign.OpenBrace ∷ spell_statements ss rest) h.1.1).1.1).1

after_body : (b : Option Statements) (after : List Piece) → AreInts (spell_body b after) → AreInts after
after_body None after h = h.1
after_body (Some ss) after h = (after_statements ss (mark sign.CloseBrace ∷ after) h.1).1

after_more_types : (ts : List Ty) (after : List Piece) → AreInts (spell_more_types ts after) → AreInts after
after_more_types [] after h = h
after_more_types (t ∷ ts) after h = after_more_types ts after (after_type t (spell_more_types ts after) h.1)

after_types : (ts : List Ty) (after : List Piece) → AreInts (spell_types ts after) → AreInts after
after_types [] after h = h
after_types (t ∷ ts) after h = after_more_types ts after (after_type t (spell_more_types ts after) h)

pub after_specification : (full : Bool) (s : Option Specification) (after : List Piece) → AreInts (spell_specification full s after) → AreInts after
after_specification full None after h = h
after_specification full (Some (listed ts)) after h = (after_types ts (mark sign.CloseParen ∷ after) h.1.1).1
after_specification full (Some (noexcept place false)) after h = h.1.1.1.1
after_specification true (Some (noexcept place true)) after h = h.1.1.1.1
after_specification false (Some (noexcept place true)) after h = h.1

after_initialiser : (i : Initialiser) (after : List Piece) → AreInts (spell_initialiser i after) → AreInts after
after_initialiser i after h = (after_arguments i.arguments (mark sign.CloseParen ∷ after) h.1.1).1

after_more_initialisers : (is : List Initialiser) (after : List Piece) → AreInts (spell_more_initialisers is after) → AreInts after
after_more_initialisers [] after h = h
after_more_initialisers (i ∷ is) after h = after_more_initialisers is after (after_initialiser i (spell_more_initialisers is after) h.1)

after_initialisers : (is : List Initialiser) (after : List Piece) → AreInts (spell_initialisers is after) → AreInts after
after_initialisers [] after h = h
after_initialisers (i ∷ is) after h = after_more_initialisers is after (after_initialiser i (spell_more_initialisers is after) h.1)

after_more_params : (ps : List Param) (after : List Piece) → AreInts (spell_more_params ps after) → AreInts after
after_more_params [] after h = h
after_more_params (p ∷ ps) after h = after_more_params ps after (after_param p (spell_more_params ps after) h.1)

pub after_params : (ps : List Param) (after : List Piece) → AreInts (spell_params ps after) → AreInts after
after_params [] after h = h
after_params (p ∷ ps) after h = after_more_params ps after (after_param p (spell_more_params ps after) h)

-- a function before its name
pub after_result : (kind : FuncKind) (t : Ty) (after : List Piece) → AreInts (spell_result kind t after) → AreInts after
after_result Plain t after h = after_type t after h
after_result Method t after h = after_type t after h
after_result Constructor t after h = h
after_result Destructor t after h = h

pub after_tilde : (kind : FuncKind) (after : List Piece) → AreInts (spell_tilde kind after) → AreInts after
after_tilde Plain after h = h
after_tilde Method after h = h
after_tilde Constructor after h = h
after_tilde Destructor after h = h.1

pub after_function : (f : Function) (after : List Piece) → AreInts (spell_function f after) → AreInts after
after_function f after h =
    let body = spell_body f.body after in
    let inits = spell_initialisers f.initialisers body in
    let tail = spell_specification (in_full f) f.specification inits in
    let inner = mark sign.OpenParen ∷ spell_params f.parameters (mark sign.CloseParen ∷ tail) in
    let named_on = after_result f.kind f.result (named f.name ∷ inner) h in
    after_body f.body after (after_initialisers f.initialisers body (after_specification (in_full f) f.specification inits (after_params f.parameters (mark sign.CloseParen ∷ tail) named_on.1.1).1))

pub after_members : (ms : List Member) (after : List Piece) → AreInts (spell_members ms after) → AreInts after
after_members [] after h = h
after_members (data_member p ∷ ms) after h = after_members ms after (after_param p (mark sign.Semicolon ∷ spell_members ms after) h).1
after_members (function_member f ∷ ms) after h = after_members ms after (after_function f (spell_members ms after) (after_tilde f.kind (spell_function f (spell_members ms after)) h))

-- a class before its members
pub after_base : (is_public : Bool) (b : Option Name) (after : List Piece) → AreInts (spell_base is_public b after) → AreInts after
after_base is_public None after h = h
after_base true (Some x) after h = h.1.1.1
after_base false (Some x) after h = h.1.1
