-- The names of a program one behind the other, by a rule, and what stands behind each part of a program.
use Rattle.std.proofs.Common.{◌≤◌, ℕ, Bool, true, false, List, [], ◌∷◌, Option, Some, None, codes, if◌then◌else◌}
use Rattle.cxx_ast.specs.declared.name.Name.{Name}
use Rattle.cxx_ast.specs.declared.types.Ty.{Ty}
use Rattle.cxx_ast.specs.declared.types.Ty.TheVariants.{Int, Void, Object, IntRef, ObjectRef}
use Rattle.cxx_ast.specs.declared.declaration.FuncKind.{FuncKind}
use Rattle.cxx_ast.specs.declared.declaration.FuncKind.TheVariants.{Plain, Method, Constructor, Destructor}
use Rattle.cxx_ast.specs.declared.types.Param.{Param}
use Rattle.cxx_ast.specs.declared.token.TokenKind.TheVariants as kind
use Rattle.cxx_ast.specs.declared.keyword.Keyword.TheVariants as keyword
use Rattle.cxx_ast.specs.declared.mark.Mark.TheVariants as sign
use Rattle.cxx_ast.specs.Plain.{Specification, listed, noexcept, Expression, number, path, paren, unary, binary, call, std_call, Expressions, no_expressions, expression_then, Statement, block, empty, if_else, while, return, break, continue, throw, try, assign, evaluate, local_int, local_ref, local_object, Else, no_else, else_do, Statements, no_statements, statement_then, Handlers, no_handlers, handler_then, Initialiser}
use Rattle.cxx_ast.specs.Piece.{Piece, anywhere, placed, named, word, mark, word_at}
use Rattle.cxx_ast.specs.Spelling.{is_bad_exception, spell_class, spell_const, spell_type, spell_name, spell_param, first_at, spell_dots, spell_path, spell_expression, spell_arguments, spell_more, spell_value, spell_start, spell_object_arguments, spell_caught, spell_statement, spell_else, spell_statements, spell_handlers}
use Rattle.cxx_ast.specs.Operator.{binary_mark}
use Rattle.cxx_ast.specs.Written.{Start, no_start, start, spell_more_params, spell_params, spell_result, spell_tilde, spell_base, spell_start_value, spell_more_types, spell_types, spell_specification, spell_initialiser, spell_more_initialisers, spell_initialisers, spell_body}

-- what is asked of each name of a program: it fits behind those before it, which leads to the next, and the end is right
pub record Rule : Type 1 where
  pub fits : ℕ → Name → Type 0
  pub next : ℕ → Name → ℕ
  pub end : ℕ → Type 0
  pub rises : (n : ℕ) (x : Name) → fits n x → n ≤ next n x
  pub lower_fits : (m n : ℕ) (x : Name) → m ≤ n → fits n x → fits m x
  pub lower_next : (m n : ℕ) (x : Name) → m ≤ n → next m x ≤ next n x
  pub lower_end : (m n : ℕ) → m ≤ n → end n → end m

-- the names among some pieces, behind n
abbrev pub Above : Rule → ℕ → List Piece → Type 0
Above r n [] = r.end n
Above r n (anywhere k ∷ ps) = Above r n ps
Above r n (placed k place ∷ ps) = Above r n ps
Above r n (named x ∷ ps) = r.fits n x × Above r (r.next n x) ps

pub lower : (r : Rule) (ps : List Piece) (m n : ℕ) → m ≤ n → Above r n ps → Above r m ps
lower r [] m n le h = r.lower_end m n le h
lower r (anywhere k ∷ ps) m n le h = lower r ps m n le h
lower r (placed k place ∷ ps) m n le h = lower r ps m n le h
lower r (named x ∷ ps) m n le h = (r.lower_fits m n x le h.0, lower r ps (r.next m x) (r.next n x) (r.lower_next m n x le) h.1)

-- behind parts of a program
module _ (r : Rule) where
  pub after_name : (x : Name) (after : List Piece) (n : ℕ) → Above r n (named x ∷ after) → Above r n after
  after_name x after n h = lower r after n (r.next n x) (r.rises n x h.0) h.1

  pub after_class : (x : Name) (after : List Piece) (n : ℕ) → Above r n (spell_class x after) → Above r n after
  after_class x after n h = go (is_bad_exception x) h
    where
      go : (b : Bool) → Above r n (if b then word_at keyword.Std x.place ∷ mark sign.ColonColon ∷ anywhere (kind.Name (codes "bad_exception")) ∷ after else named x ∷ after) → Above r n after
      go true h = h
      go false h = after_name x after n h

  after_const : (b : Bool) (after : List Piece) (n : ℕ) → Above r n (spell_const b after) → Above r n after
  after_const true after n h = h
  after_const false after n h = h

  pub after_type : (t : Ty) (after : List Piece) (n : ℕ) → Above r n (spell_type t after) → Above r n after
  after_type Int after n h = h
  after_type Void after n h = h
  after_type (Object x) after n h = after_class x after n h
  after_type (IntRef const) after n h = after_const const (word keyword.Int ∷ mark sign.Amp ∷ after) n h
  after_type (ObjectRef const x) after n h = after_class x (mark sign.Amp ∷ after) n (after_const const (spell_class x (mark sign.Amp ∷ after)) n h)

  after_some_name : (x : Option Name) (after : List Piece) (n : ℕ) → Above r n (spell_name x after) → Above r n after
  after_some_name None after n h = h
  after_some_name (Some x) after n h = after_name x after n h

  pub after_param : (p : Param) (after : List Piece) (n : ℕ) → Above r n (spell_param p after) → Above r n after
  after_param p after n h = after_some_name p.name after n (after_type p.ty (spell_name p.name after) n h)

  after_first : (place : ℕ) (ps : List Piece) (n : ℕ) → Above r n (first_at place ps) → Above r n ps
  after_first place [] n h = h
  after_first place (anywhere k ∷ ps) n h = h
  after_first place (placed k other ∷ ps) n h = h
  after_first place (named x ∷ ps) n h = h

  after_dots : (names : List Name) (after : List Piece) (n : ℕ) → Above r n (spell_dots names after) → Above r n after
  after_dots [] after n h = h
  after_dots (x ∷ names) after n h = after_dots names after n (after_name x (spell_dots names after) n h)

  after_path : (names : List Name) (after : List Piece) (n : ℕ) → Above r n (spell_path names after) → Above r n after
  after_path [] after n h = h
  after_path (x ∷ names) after n h = after_dots names after n (after_name x (spell_dots names after) n h)

  mutual
    after_expression : (e : Expression) (after : List Piece) (n : ℕ) → Above r n (spell_expression e after) → Above r n after
    after_expression (number v place) after n h = h
    after_expression (path names) after n h = after_path names after n h
    after_expression (paren e place) after n h = after_expression e (mark sign.CloseParen ∷ after) n h
    after_expression (unary o e place) after n h = after_expression e after n h
    after_expression (binary o a b) after n h = after_expression b after n (after_expression a (mark (binary_mark o) ∷ spell_expression b after) n h)
    after_expression (call names es) after n h = after_arguments es (mark sign.CloseParen ∷ after) n (after_path names (mark sign.OpenParen ∷ spell_arguments es (mark sign.CloseParen ∷ after)) n h)
    after_expression (std_call x es place) after n h =
        after_arguments es (mark sign.CloseParen ∷ after) n (after_name x (mark sign.OpenParen ∷ spell_arguments es (mark sign.CloseParen ∷ after)) n h)

    after_arguments : (es : Expressions) (after : List Piece) (n : ℕ) → Above r n (spell_arguments es after) → Above r n after
    after_arguments no_expressions after n h = h
    after_arguments (expression_then e es) after n h = after_more es after n (after_expression e (spell_more es after) n h)

    after_more : (es : Expressions) (after : List Piece) (n : ℕ) → Above r n (spell_more es after) → Above r n after
    after_more no_expressions after n h = h
    after_more (expression_then e es) after n h = after_more es after n (after_expression e (spell_more es after) n h)

  after_value : (e : Option Expression) (after : List Piece) (n : ℕ) → Above r n (spell_value e after) → Above r n after
  after_value None after n h = h
  after_value (Some e) after n h = after_expression e after n h

  after_start : (e : Option Expression) (after : List Piece) (n : ℕ) → Above r n (spell_start e after) → Above r n after
  after_start None after n h = h
  after_start (Some e) after n h = after_expression e after n h

  after_object : (es : Expressions) (after : List Piece) (n : ℕ) → Above r n (spell_object_arguments es after) → Above r n after
  after_object no_expressions after n h = h
  after_object (expression_then e es) after n h = after_arguments (expression_then e es) (mark sign.CloseParen ∷ after) n h

  after_caught : (place : ℕ) (t : Option Ty) (x : Option Name) (after : List Piece) (n : ℕ) → Above r n (spell_caught place t x after) → Above r n after
  after_caught place None x after n h = h
  after_caught place (Some t) x after n h = after_some_name x after n (after_type t (spell_name x after) n (after_first place (spell_type t (spell_name x after)) n h))

  mutual
    after_statement : (s : Statement) (after : List Piece) (n : ℕ) → Above r n (spell_statement s after) → Above r n after
    after_statement (block ss) after n h = after_statements ss (mark sign.CloseBrace ∷ after) n h
    after_statement empty after n h = h
    after_statement (if_else e s t) after n h =
        after_else t after n (after_statement s (spell_else t after) n (after_expression e (mark sign.CloseParen ∷ spell_statement s (spell_else t after)) n h))
    after_statement (while e s) after n h = after_statement s after n (after_expression e (mark sign.CloseParen ∷ spell_statement s after) n h)
    after_statement (return place e) after n h = after_value e (mark sign.Semicolon ∷ after) n h
    after_statement (break place) after n h = h
    after_statement (continue place) after n h = h
    after_statement (throw place e) after n h = after_value e (mark sign.Semicolon ∷ after) n h
    after_statement (try ss hs) after n h = after_handlers hs after n (after_statements ss (mark sign.CloseBrace ∷ spell_handlers hs after) n h)
    after_statement (assign names e) after n h =
        after_expression e (mark sign.Semicolon ∷ after) n (after_path names (mark sign.Assign ∷ spell_expression e (mark sign.Semicolon ∷ after)) n h)
    after_statement (evaluate e) after n h = after_expression e (mark sign.Semicolon ∷ after) n h
    after_statement (local_int x e) after n h = after_start e (mark sign.Semicolon ∷ after) n (after_name x (spell_start e (mark sign.Semicolon ∷ after)) n h)
    after_statement (local_ref p names) after n h =
        after_path names (mark sign.Semicolon ∷ after) n (after_param p (mark sign.Assign ∷ spell_path names (mark sign.Semicolon ∷ after)) n h)
    after_statement (local_object c x es) after n h =
        let rest = spell_object_arguments es (mark sign.Semicolon ∷ after) in after_object es (mark sign.Semicolon ∷ after) n (after_name x rest n (after_name c (named x ∷ rest) n h))

    after_else : (t : Else) (after : List Piece) (n : ℕ) → Above r n (spell_else t after) → Above r n after
    after_else no_else after n h = h
    after_else (else_do s) after n h = after_statement s after n h

    after_statements : (ss : Statements) (after : List Piece) (n : ℕ) → Above r n (spell_statements ss after) → Above r n after
    after_statements no_statements after n h = h
    after_statements (statement_then s ss) after n h = after_statements ss after n (after_statement s (spell_statements ss after) n h)

    after_handlers : (hs : Handlers) (after : List Piece) (n : ℕ) → Above r n (spell_handlers hs after) → Above r n after
    after_handlers no_handlers after n h = h
    after_handlers (handler_then t x ss place hs) after n h =
        let rest = mark sign.CloseBrace ∷ spell_handlers hs after in
        after_handlers hs after n (after_statements ss rest n (after_caught place t x (mark sign.CloseParen ∷ mark sign.OpenBrace ∷ spell_statements ss rest) n h))

  pub after_body : (b : Option Statements) (after : List Piece) (n : ℕ) → Above r n (spell_body b after) → Above r n after
  after_body None after n h = h
  after_body (Some ss) after n h = after_statements ss (mark sign.CloseBrace ∷ after) n h

  after_more_types : (ts : List Ty) (after : List Piece) (n : ℕ) → Above r n (spell_more_types ts after) → Above r n after
  after_more_types [] after n h = h
  after_more_types (t ∷ ts) after n h = after_more_types ts after n (after_type t (spell_more_types ts after) n h)

  after_types : (ts : List Ty) (after : List Piece) (n : ℕ) → Above r n (spell_types ts after) → Above r n after
  after_types [] after n h = h
  after_types (t ∷ ts) after n h = after_more_types ts after n (after_type t (spell_more_types ts after) n h)

  pub after_specification : (full : Bool) (s : Option Specification) (after : List Piece) (n : ℕ) → Above r n (spell_specification full s after) → Above r n after
  after_specification full None after n h = h
  after_specification full (Some (noexcept place false)) after n h = h
  after_specification true (Some (noexcept place true)) after n h = h
  after_specification false (Some (noexcept place true)) after n h = h
  after_specification full (Some (listed ts)) after n h = after_types ts (mark sign.CloseParen ∷ after) n h

  after_initialiser : (i : Initialiser) (after : List Piece) (n : ℕ) → Above r n (spell_initialiser i after) → Above r n after
  after_initialiser i after n h =
      after_arguments i.arguments (mark sign.CloseParen ∷ after) n (after_name i.name (mark sign.OpenParen ∷ spell_arguments i.arguments (mark sign.CloseParen ∷ after)) n h)

  after_more_initialisers : (is : List Initialiser) (after : List Piece) (n : ℕ) → Above r n (spell_more_initialisers is after) → Above r n after
  after_more_initialisers [] after n h = h
  after_more_initialisers (i ∷ is) after n h = after_more_initialisers is after n (after_initialiser i (spell_more_initialisers is after) n h)

  pub after_initialisers : (is : List Initialiser) (after : List Piece) (n : ℕ) → Above r n (spell_initialisers is after) → Above r n after
  after_initialisers [] after n h = h
  after_initialisers (i ∷ is) after n h = after_more_initialisers is after n (after_initialiser i (spell_more_initialisers is after) n h)

  pub after_more_params : (ps : List Param) (after : List Piece) (n : ℕ) → Above r n (spell_more_params ps after) → Above r n after
  after_more_params [] after n h = h
  after_more_params (p ∷ ps) after n h = after_more_params ps after n (after_param p (spell_more_params ps after) n h)

  pub after_params : (ps : List Param) (after : List Piece) (n : ℕ) → Above r n (spell_params ps after) → Above r n after
  after_params [] after n h = h
  after_params (p ∷ ps) after n h = after_more_params ps after n (after_param p (spell_more_params ps after) n h)

  -- a function before its name
  pub after_result : (kind : FuncKind) (t : Ty) (after : List Piece) (n : ℕ) → Above r n (spell_result kind t after) → Above r n after
  after_result Plain t after n h = after_type t after n h
  after_result Method t after n h = after_type t after n h
  after_result Constructor t after n h = h
  after_result Destructor t after n h = h

  pub after_tilde : (kind : FuncKind) (after : List Piece) (n : ℕ) → Above r n (spell_tilde kind after) → Above r n after
  after_tilde Plain after n h = h
  after_tilde Method after n h = h
  after_tilde Constructor after n h = h
  after_tilde Destructor after n h = h

  -- a class before its members, and a global behind its name
  pub after_base : (is_public : Bool) (b : Option Name) (after : List Piece) (n : ℕ) → Above r n (spell_base is_public b after) → Above r n after
  after_base is_public None after n h = h
  after_base true (Some x) after n h = after_name x after n h
  after_base false (Some x) after n h = after_name x after n h

  pub after_start_value : (s : Start) (after : List Piece) (n : ℕ) → Above r n (spell_start_value s after) → Above r n after
  after_start_value no_start after n h = h
  after_start_value (start true v) after n h = h
  after_start_value (start false v) after n h = h
