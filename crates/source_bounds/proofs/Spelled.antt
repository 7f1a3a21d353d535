-- The tokens of a tree are as many as is said at least.
use Rattle.std.proofs.Common.{◌≡◌, ℕ, ◌+◌, ◌*◌, ◌≤◌, Bool, true, false, List, [], ◌∷◌, map, length, Option, Some, None, if◌then◌else◌, refl, codes, arith}
use Rattle.cxx_ast.specs.declared.name.Name.{Name}
use Rattle.cxx_ast.specs.declared.types.Ty.{Ty}
use Rattle.cxx_ast.specs.declared.types.Ty.TheVariants.{Int, Void, Object, IntRef, ObjectRef}
use Rattle.cxx_ast.specs.declared.types.Param.{Param}
use Rattle.cxx_ast.specs.declared.declaration.FuncKind.{FuncKind}
use Rattle.cxx_ast.specs.declared.declaration.FuncKind.TheVariants.{Plain, Method, Constructor, Destructor}
use Rattle.cxx_ast.specs.declared.token.Token.{Token}
use Rattle.cxx_ast.specs.declared.token.TokenKind.TheVariants as kind
use Rattle.cxx_ast.specs.declared.keyword.Keyword.TheVariants as keyword
use Rattle.cxx_ast.specs.declared.mark.Mark.TheVariants as sign
use Rattle.cxx_ast.specs.Plain.{Expression, number, path, paren, unary, binary, call, std_call, Expressions, no_expressions, expression_then, Statement, block, empty, if_else, while, return, break, continue, throw, try, assign, evaluate, local_int, local_ref, local_object, Else, no_else, else_do, Statements, no_statements, statement_then, Handlers, no_handlers, handler_then, Initialiser, Function, Specification, listed, noexcept}
use Rattle.cxx_ast.specs.Operator.{binary_mark}
use Rattle.cxx_ast.specs.Piece.{Piece, anywhere, placed, named, word, mark, word_at, Fit}
use Rattle.cxx_ast.specs.Spelling.{is_bad_exception, spell_class, spell_const, spell_type, spell_name, spell_param, first_at, spell_dots, spell_path, spell_expression, spell_arguments, spell_more, spell_value, spell_start, spell_object_arguments, spell_caught, spell_statement, spell_else, spell_statements, spell_handlers}
use Rattle.cxx_ast.specs.Written.{Member, data_member, function_member, Start, no_start, start, Written, written_class, written_global, written_function, data_members, functions, declared, spell_more_params, spell_params, spell_more_types, spell_types, spell_specification, spell_initialiser, spell_more_initialisers, spell_initialisers, spell_body, spell_result, spell_function, spell_tilde, spell_members, spell_public, spell_base, spell_minus, spell_start_value, spell_declaration, spell_declarations, in_full, spell_truth}
use Rattle.cxx_ast.specs.Grammatical.{Each, NotEmpty, Where, There, IsExpression, AreExpressions, IsStatement, IsElse, AreStatements, AreHandlers, IsInitialiser, IsFunction, IsMember, IsGrammatical, HasForm}
use Rattle.source_bounds.specs.LeastTokens.{tokens_in, tokens_in_all, tokens_in_value, statement_tokens, else_tokens, statements_tokens, handlers_tokens, initialisers_tokens, parameters_tokens, specification_tokens, body_tokens, function_tokens, functions_tokens, base_tokens, declaration_tokens, declarations_tokens}

-- names and types

dots : (names : List Name) (after : List Piece) → length after ≤ length (spell_dots names after)
dots [] after = omega arith
dots (n ∷ names) after = omega (arith, dots names after)

path_some : (names : List Name) (after : List Piece) → NotEmpty names → 1 + length after ≤ length (spell_path names after)
path_some [] after h = absurd h
path_some (n ∷ names) after h = omega (arith, dots names after)

path_any : (names : List Name) (after : List Piece) → length after ≤ length (spell_path names after)
path_any [] after = omega arith
path_any (n ∷ names) after = omega (arith, dots names after)

class_spelled : (n : Name) (after : List Piece) → 1 + length after ≤ length (spell_class n after)
class_spelled n after = go (is_bad_exception n)
  where
    go : (b : Bool) → 1 + length after ≤ length (if b then word_at keyword.Std n.place ∷ mark sign.ColonColon ∷ anywhere (kind.Name (codes "bad_exception")) ∷ after
        else named n ∷ after)
    go true = omega arith
    go false = omega arith

const_spelled : (c : Bool) (after : List Piece) → length after ≤ length (spell_const c after)
const_spelled true after = omega arith
const_spelled false after = omega arith

type_spelled : (t : Ty) (after : List Piece) → 1 + length after ≤ length (spell_type t after)
type_spelled Int after = omega arith
type_spelled Void after = omega arith
type_spelled (Object n) after = class_spelled n after
type_spelled (IntRef c) after = omega (arith, const_spelled c (word keyword.Int ∷ mark sign.Amp ∷ after))
type_spelled (ObjectRef c n) after =
    omega (arith, const_spelled c (spell_class n (mark sign.Amp ∷ after)), class_spelled n (mark sign.Amp ∷ after))

name_spelled : (n : Option Name) (after : List Piece) → length after ≤ length (spell_name n after)
name_spelled None after = omega arith
name_spelled (Some n) after = omega arith

name_there : (n : Option Name) (after : List Piece) → There n → 1 + length after ≤ length (spell_name n after)
name_there None after h = absurd h
name_there (Some n) after h = omega arith

param_spelled : (p : Param) (after : List Piece) → 1 + length after ≤ length (spell_param p after)
param_spelled p after = omega (arith, type_spelled p.ty (spell_name p.name after), name_spelled p.name after)

as_long : (place : ℕ) (ps : List Piece) → length (first_at place ps) ≡ length ps
as_long place [] = refl
as_long place (anywhere k ∷ ps) = refl
as_long place (placed k n ∷ ps) = refl
as_long place (named n ∷ ps) = refl

caught_spelled : (place : ℕ) (t : Option Ty) (n : Option Name) (after : List Piece) → 1 + length after ≤ length (spell_caught place t n after)
caught_spelled place None n after = omega arith
caught_spelled place (Some t) n after =
    omega (arith, as_long place (spell_type t (spell_name n after)), type_spelled t (spell_name n after), name_spelled n after)

-- expressions
mutual
  expression_spelled : (e : Expression) (after : List Piece) → IsExpression e → tokens_in e + length after ≤ length (spell_expression e after)
  expression_spelled (number v place) after h = omega arith
  expression_spelled (path names) after h = path_some names after h
  expression_spelled (paren e place) after h = omega (arith, expression_spelled e (mark sign.CloseParen ∷ after) h)
  expression_spelled (unary o e place) after h = omega (arith, expression_spelled e after h.0)
  expression_spelled (binary o a b) after h =
      omega (arith, expression_spelled a (mark (binary_mark o) ∷ spell_expression b after) h.0, expression_spelled b after h.1)
  expression_spelled (call names es) after h =
      omega (arith, path_some names (mark sign.OpenParen ∷ spell_arguments es (mark sign.CloseParen ∷ after)) h.0, arguments_spelled es (mark sign.CloseParen ∷ after) h.1)
  expression_spelled (std_call n es place) after h = omega (arith, arguments_spelled es (mark sign.CloseParen ∷ after) h)

  arguments_spelled : (es : Expressions) (after : List Piece) → AreExpressions es → tokens_in_all es + length after ≤ length (spell_arguments es after)
  arguments_spelled no_expressions after h = omega arith
  arguments_spelled (expression_then e es) after h = omega (arith, expression_spelled e (spell_more es after) h.0, more_spelled es after h.1)

  more_spelled : (es : Expressions) (after : List Piece) → AreExpressions es → tokens_in_all es + length after ≤ length (spell_more es after)
  more_spelled no_expressions after h = omega arith
  more_spelled (expression_then e es) after h = omega (arith, expression_spelled e (spell_more es after) h.0, more_spelled es after h.1)

value_spelled : (e : Option Expression) (after : List Piece) → Where IsExpression e → tokens_in_value e + length after ≤ length (spell_value e after)
value_spelled None after h = omega arith
value_spelled (Some e) after h = expression_spelled e after h

start_spelled : (e : Option Expression) (after : List Piece) → Where IsExpression e → tokens_in_value e + length after ≤ length (spell_start e after)
start_spelled None after h = omega arith
start_spelled (Some e) after h = omega (arith, expression_spelled e after h)

object_spelled : (es : Expressions) (after : List Piece) → AreExpressions es → tokens_in_all es + length after ≤ length (spell_object_arguments es after)
object_spelled no_expressions after h = omega arith
object_spelled (expression_then e es) after h = omega (arith, arguments_spelled (expression_then e es) (mark sign.CloseParen ∷ after) h)

-- statements
mutual
  statement_spelled : (s : Statement) (after : List Piece) → IsStatement s → statement_tokens s + length after ≤ length (spell_statement s after)
  statement_spelled (block ss) after h = omega (arith, statements_spelled ss (mark sign.CloseBrace ∷ after) h)
  statement_spelled empty after h = omega arith
  statement_spelled (if_else e s t) after h =
      omega (arith, expression_spelled e (mark sign.CloseParen ∷ spell_statement s (spell_else t after)) h.0, statement_spelled s (spell_else t after) h.1, else_spelled t after h.3)
  statement_spelled (while e s) after h =
      omega (arith, expression_spelled e (mark sign.CloseParen ∷ spell_statement s after) h.0, statement_spelled s after h.1)
  statement_spelled (return place e) after h = omega (arith, value_spelled e (mark sign.Semicolon ∷ after) h)
  statement_spelled (break place) after h = omega arith
  statement_spelled (continue place) after h = omega arith
  statement_spelled (throw place e) after h = omega (arith, value_spelled e (mark sign.Semicolon ∷ after) h)
  statement_spelled (try ss hs) after h =
      omega (arith, statements_spelled ss (mark sign.CloseBrace ∷ spell_handlers hs after) h.0, handlers_spelled hs after h.2)
  statement_spelled (assign names e) after h =
      omega (arith, path_some names (mark sign.Assign ∷ spell_expression e (mark sign.Semicolon ∷ after)) h.0, expression_spelled e (mark sign.Semicolon ∷ after) h.1)
  statement_spelled (evaluate e) after h = omega (arith, expression_spelled e (mark sign.Semicolon ∷ after) h.0)
  statement_spelled (local_int x e) after h = omega (arith, start_spelled e (mark sign.Semicolon ∷ after) h)
  statement_spelled (local_ref p names) after h =
      omega (arith, param_spelled p (mark sign.Assign ∷ spell_path names (mark sign.Semicolon ∷ after)), path_any names (mark sign.Semicolon ∷ after))
  statement_spelled (local_object c x es) after h = omega (arith, object_spelled es (mark sign.Semicolon ∷ after) h)

  else_spelled : (t : Else) (after : List Piece) → IsElse t → else_tokens t + length after ≤ length (spell_else t after)
  else_spelled no_else after h = omega arith
  else_spelled (else_do s) after h = omega (arith, statement_spelled s after h.0)

  statements_spelled : (ss : Statements) (after : List Piece) → AreStatements ss → statements_tokens ss + length after ≤ length (spell_statements ss after)
  statements_spelled no_statements after h = omega arith
  statements_spelled (statement_then s ss) after h = omega (arith, statement_spelled s (spell_statements ss after) h.0, statements_spelled ss after h.1)

  handlers_spelled : (hs : Handlers) (after : List Piece) → AreHandlers hs → handlers_tokens hs + length after ≤ length (spell_handlers hs after)
  handlers_spelled no_handlers after h = omega arith
  handlers_spelled (handler_then t n ss place hs) after h =
      omega (
        arith,
        caught_spelled place t n (mark sign.CloseParen ∷ mark sign.OpenBrace ∷ spell_statements ss (mark sign.CloseBrace ∷ spell_handlers hs after)),
        statements_spelled ss (mark sign.CloseBrace ∷ spell_handlers hs after) h.1,
        handlers_spelled hs after h.2,
      )

-- functions

more_params : (ps : List Param) (after : List Piece) → 2 * length ps + length after ≤ length (spell_more_params ps after)
more_params [] after = omega arith
more_params (p ∷ ps) after = omega (arith, param_spelled p (spell_more_params ps after), more_params ps after)

params_spelled : (ps : List Param) (after : List Piece) → parameters_tokens (length ps) + length after ≤ length (spell_params ps after)
params_spelled [] after = omega arith
params_spelled (p ∷ ps) after = omega (arith, param_spelled p (spell_more_params ps after), more_params ps after)

more_types : (ts : List Ty) (after : List Piece) → length ts + length after ≤ length (spell_more_types ts after)
more_types [] after = omega arith
more_types (t ∷ ts) after = omega (arith, type_spelled t (spell_more_types ts after), more_types ts after)

types_spelled : (ts : List Ty) (after : List Piece) → length ts + length after ≤ length (spell_types ts after)
types_spelled [] after = omega arith
types_spelled (t ∷ ts) after = omega (arith, type_spelled t (spell_more_types ts after), more_types ts after)

truth_spelled : (full b : Bool) (after : List Piece) → length after ≤ length (spell_truth full b after)
truth_spelled full false after = omega arith
truth_spelled true true after = omega arith
truth_spelled false true after = omega arith

types_counted : (k : FuncKind) (ts : List Ty) → specification_tokens k (Some (listed ts)) ≤ length ts + 3
types_counted Plain ts = omega arith
types_counted Method ts = omega arith
types_counted Constructor ts = omega arith
types_counted Destructor ts = omega arith

none_counted : (k : FuncKind) → specification_tokens k None ≤ 0
none_counted Plain = omega arith
none_counted Method = omega arith
none_counted Constructor = omega arith
none_counted Destructor = omega arith

noexcept_counted : (k : FuncKind) (place : ℕ) (b : Bool) → specification_tokens k (Some (noexcept place b)) ≤ 1
noexcept_counted Plain place b = omega arith
noexcept_counted Method place b = omega arith
noexcept_counted Constructor place b = omega arith
noexcept_counted Destructor place b = omega arith

specification_spelled : (k : FuncKind) (full : Bool) (o : Option Specification) (after : List Piece) → specification_tokens k o + length after ≤ length (spell_specification full o after)
specification_spelled k full None after = omega (arith, none_counted k)
specification_spelled k full (Some (listed ts)) after = omega (arith, types_counted k ts, types_spelled ts (mark sign.CloseParen ∷ after))
specification_spelled k full (Some (noexcept place b)) after = omega (arith, noexcept_counted k place b, truth_spelled full b after)

initialiser_spelled : (i : Initialiser) (after : List Piece) → IsInitialiser i → tokens_in_all i.arguments + 3 + length after ≤ length (spell_initialiser i after)
initialiser_spelled i after h = omega (arith, arguments_spelled i.arguments (mark sign.CloseParen ∷ after) h)

more_initialisers : (is : List Initialiser) (after : List Piece) → Each IsInitialiser is → initialisers_tokens is + length after ≤ length (spell_more_initialisers is after)
more_initialisers [] after h = omega arith
more_initialisers (i ∷ is) after h = omega (arith, initialiser_spelled i (spell_more_initialisers is after) h.0, more_initialisers is after h.1)

initialisers_spelled : (is : List Initialiser) (after : List Piece) → Each IsInitialiser is → initialisers_tokens is + length after ≤ length (spell_initialisers is after)
initialisers_spelled [] after h = omega arith
initialisers_spelled (i ∷ is) after h = omega (arith, initialiser_spelled i (spell_more_initialisers is after) h.0, more_initialisers is after h.1)

-- a semicolon is one token less than a body has
abbrev missing : Option Statements → ℕ
missing None = 1
missing (Some ss) = 0

body_spelled : (o : Option Statements) (after : List Piece) → Where AreStatements o → body_tokens o + length after ≤ length (spell_body o after) + missing o
body_spelled None after h = omega arith
body_spelled (Some ss) after h = omega (arith, statements_spelled ss (mark sign.CloseBrace ∷ after) h)

-- a function that may have no body has the type of its result
abbrev results : FuncKind → ℕ
results Plain = 1
results Method = 1
results _ = 0

result_spelled : (k : FuncKind) (t : Ty) (after : List Piece) → results k + length after ≤ length (spell_result k t after)
result_spelled Plain t after = omega (arith, type_spelled t after)
result_spelled Method t after = omega (arith, type_spelled t after)
result_spelled Constructor t after = omega arith
result_spelled Destructor t after = omega arith

at_most_one : (o : Option Statements) → missing o ≤ 1
at_most_one None = omega arith
at_most_one (Some ss) = omega arith

none_missing : (o : Option Statements) → There o → missing o ≤ 0
none_missing None h = absurd h
none_missing (Some ss) h = omega arith

result_for : (k : FuncKind) (f : Function) → HasForm k f → missing f.body ≤ results k
result_for Plain f h = at_most_one f.body
result_for Method f h = at_most_one f.body
result_for Constructor f h = none_missing f.body h.1
result_for Destructor f h = none_missing f.body h.3

pub function_spelled : (f : Function) (after : List Piece) → IsFunction f → function_tokens f + length after ≤ length (spell_function f after)
function_spelled f after h =
    let body = spell_body f.body after in
    let inits = spell_initialisers f.initialisers body in
    let specified = spell_specification (in_full f) f.specification inits in
    let params = spell_params f.parameters (mark sign.CloseParen ∷ specified) in
    omega (
      arith,
      result_spelled f.kind f.result (named f.name ∷ mark sign.OpenParen ∷ params),
      params_spelled f.parameters (mark sign.CloseParen ∷ specified),
      specification_spelled f.kind (in_full f) f.specification inits,
      initialisers_spelled f.initialisers body h.initialisers,
      body_spelled f.body after h.body,
      result_for f.kind f h.form,
    )

-- classes and programs

tilde_spelled : (k : FuncKind) (after : List Piece) → length after ≤ length (spell_tilde k after)
tilde_spelled Plain after = omega arith
tilde_spelled Method after = omega arith
tilde_spelled Constructor after = omega arith
tilde_spelled Destructor after = omega arith

members_spelled : (ms : List Member) (after : List Piece) → Each IsMember ms →
    functions_tokens (functions ms) + 3 * length (data_members ms) + length after ≤ length (spell_members ms after)
members_spelled [] after h = omega arith
members_spelled (data_member p ∷ ms) after h =
    let rest = mark sign.Semicolon ∷ spell_members ms after in
    omega (arith, type_spelled p.ty (spell_name p.name rest), name_there p.name rest h.0.1, members_spelled ms after h.1)
members_spelled (function_member f ∷ ms) after h =
    omega (arith, tilde_spelled f.kind (spell_function f (spell_members ms after)), function_spelled f (spell_members ms after) h.0.0, members_spelled ms after h.1)

public_spelled : (b : Bool) (after : List Piece) → length after ≤ length (spell_public b after)
public_spelled true after = omega arith
public_spelled false after = omega arith

base_spelled : (b : Bool) (base : Option Name) (after : List Piece) → base_tokens base + length after ≤ length (spell_base b base after)
base_spelled b None after = omega arith
base_spelled b (Some n) after = omega (arith, public_spelled b (named n ∷ after))

minus_spelled : (b : Bool) (after : List Piece) → length after ≤ length (spell_minus b after)
minus_spelled true after = omega arith
minus_spelled false after = omega arith

first_spelled : (s : Start) (after : List Piece) → length after ≤ length (spell_start_value s after)
first_spelled no_start after = omega arith
first_spelled (start b n) after = omega (arith, minus_spelled b (anywhere (kind.Number n) ∷ after))

declaration_spelled : (w : Written) (after : List Piece) → IsGrammatical w → declaration_tokens (declared w) + length after ≤ length (spell_declaration w after)
declaration_spelled (written_class n b base ms) after h =
    let rest = mark sign.CloseBrace ∷ mark sign.Semicolon ∷ after in
    omega (arith, base_spelled b base (mark sign.OpenBrace ∷ spell_members ms rest), members_spelled ms rest h)
declaration_spelled (written_global n s) after h = omega (arith, first_spelled s (mark sign.Semicolon ∷ after))
declaration_spelled (written_function f) after h = function_spelled f after h.0

declarations_spelled : (ws : List Written) (after : List Piece) → Each IsGrammatical ws →
    declarations_tokens (map declared ws) + length after ≤ length (spell_declarations ws after)
declarations_spelled [] after h = omega arith
declarations_spelled (w ∷ ws) after h = omega (arith, declaration_spelled w (spell_declarations ws after) h.0, declarations_spelled ws after h.1)

as_many : (ts : List Token) (ps : List Piece) → Fit ts ps → length ts ≡ length ps
as_many [] [] h = refl
as_many [] (p ∷ ps) h = absurd h
as_many (t ∷ ts) [] h = absurd h
as_many (t ∷ ts) (p ∷ ps) h = omega (arith, as_many ts ps h.1)

pub source_spelled : (ts : List Token) (ws : List Written) → Each IsGrammatical ws → Fit ts (spell_declarations ws []) → declarations_tokens (map declared ws) ≤ length ts
source_spelled ts ws h fit = omega (arith, as_many ts (spell_declarations ws []) fit, declarations_spelled ws [] h)
