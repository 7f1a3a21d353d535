-- In a tree that was read no name of a path is bound.
use Rattle.std.proofs.Common.{◌≡◌, ℕ, Bool, true, false, List, [], ◌∷◌, codes, Option, Some, None, if◌then◌else◌}
use Rattle.cxx_ast.specs.declared.name.Name.{Name}
use Rattle.cxx_ast.specs.declared.name.Bound.TheVariants.{Free}
use Rattle.cxx_ast.specs.declared.types.Ty.{Ty}
use Rattle.cxx_ast.specs.declared.types.Ty.TheVariants.{Int, Void, Object, IntRef, ObjectRef}
use Rattle.cxx_ast.specs.declared.types.Param.{Param}
use Rattle.cxx_ast.specs.declared.declaration.FuncKind.{FuncKind}
use Rattle.cxx_ast.specs.declared.declaration.FuncKind.TheVariants.{Plain, Method, Constructor, Destructor}
use Rattle.cxx_ast.specs.declared.token.Token.{Token}
use Rattle.cxx_ast.specs.declared.token.TokenKind.TheVariants as kind
use Rattle.cxx_ast.specs.declared.keyword.Keyword.TheVariants as keyword
use Rattle.cxx_ast.specs.declared.mark.Mark.TheVariants as sign
use Rattle.cxx_ast.specs.Plain.{Expression, number, path, paren, unary, binary, call, std_call, Expressions, no_expressions, expression_then, Statement, block, empty, if_else, while, return, break, continue, throw, try, assign, evaluate, local_int, local_ref, local_object, Else, no_else, else_do, Statements, no_statements, statement_then, Handlers, no_handlers, handler_then, Initialiser, Function, Specification, listed, noexcept}
use Rattle.cxx_ast.specs.Operator.{binary_mark}
use Rattle.cxx_ast.specs.Piece.{Piece, anywhere, placed, named, mark, word_at, Fit}
use Rattle.cxx_ast.specs.Spelling.{is_bad_exception, spell_class, spell_const, spell_type, spell_name, spell_param, first_at, spell_dots, spell_path, spell_expression, spell_arguments, spell_more, spell_value, spell_start, spell_object_arguments, spell_caught, spell_statement, spell_else, spell_statements, spell_handlers}
use Rattle.cxx_ast.specs.Written.{Member, data_member, function_member, Start, no_start, start, Written, written_class, written_global, written_function, functions, spell_more_params, spell_params, spell_more_types, spell_types, spell_specification, spell_more_initialisers, spell_initialisers, spell_body, spell_result, spell_function, spell_tilde, spell_members, spell_public, spell_base, spell_minus, spell_start_value, spell_declaration, spell_declarations, in_full}

-- names of pieces are not bound
abbrev AreFree : List Piece → Type 0
AreFree [] = Unit {0}
AreFree (named n ∷ ps) = (n.bound ≡ Free) × AreFree ps
AreFree (p ∷ ps) = AreFree ps

fit_free : (ts : List Token) (ps : List Piece) → Fit ts ps → AreFree ps
fit_free [] [] h = tt
fit_free [] (p ∷ ps) h = absurd h
fit_free (t ∷ ts) [] h = absurd h
fit_free (t ∷ ts) (anywhere k ∷ ps) h = fit_free ts ps h.1
fit_free (t ∷ ts) (placed k place ∷ ps) h = fit_free ts ps h.1
fit_free (t ∷ ts) (named n ∷ ps) h = (h.0.1, fit_free ts ps h.1)

-- the names of a path
abbrev pub NamesFree : List Name → Type 0
NamesFree [] = Unit {0}
NamesFree (n ∷ names) = (n.bound ≡ Free) × NamesFree names

-- so in calls
abbrev mutual
  pub CallsFree : Expression → Type 0
  CallsFree (paren e place) = CallsFree e
  CallsFree (unary o e place) = CallsFree e
  CallsFree (binary o a b) = CallsFree a × CallsFree b
  CallsFree (call names es) = NamesFree names × AllCallsFree es
  CallsFree (std_call n es place) = AllCallsFree es
  CallsFree e = Unit {0}

  pub AllCallsFree : Expressions → Type 0
  AllCallsFree no_expressions = Unit {0}
  AllCallsFree (expression_then e es) = CallsFree e × AllCallsFree es

abbrev pub ValueFree : Option Expression → Type 0
ValueFree None = Unit {0}
ValueFree (Some e) = CallsFree e

abbrev mutual
  pub StatementFree : Statement → Type 0
  StatementFree (block ss) = StatementsFree ss
  StatementFree (if_else e s t) = CallsFree e × StatementFree s × ElseFree t
  StatementFree (while e s) = CallsFree e × StatementFree s
  StatementFree (return place e) = ValueFree e
  StatementFree (throw place e) = ValueFree e
  StatementFree (try ss hs) = StatementsFree ss × HandlersFree hs
  StatementFree (assign names e) = CallsFree e
  StatementFree (evaluate e) = CallsFree e
  StatementFree (local_int x e) = ValueFree e
  StatementFree (local_object c x es) = AllCallsFree es
  StatementFree s = Unit {0}

  pub ElseFree : Else → Type 0
  ElseFree no_else = Unit {0}
  ElseFree (else_do s) = StatementFree s

  pub StatementsFree : Statements → Type 0
  StatementsFree no_statements = Unit {0}
  StatementsFree (statement_then s ss) = StatementFree s × StatementsFree ss

  pub HandlersFree : Handlers → Type 0
  HandlersFree no_handlers = Unit {0}
  HandlersFree (handler_then t x ss place hs) = StatementsFree ss × HandlersFree hs

abbrev pub BodyFree : Option Statements → Type 0
BodyFree None = Unit {0}
BodyFree (Some ss) = StatementsFree ss

abbrev pub InitialisersFree : List Initialiser → Type 0
InitialisersFree [] = Unit {0}
InitialisersFree (i ∷ is) = AllCallsFree i.arguments × InitialisersFree is

pub record FunctionFree (f : Function) : Type 0 where
  pub initialisers : InitialisersFree f.initialisers
  pub body : BodyFree f.body

abbrev pub FunctionsFree : List Function → Type 0
FunctionsFree [] = Unit {0}
FunctionsFree (f ∷ fs) = FunctionFree f × FunctionsFree fs

-- a path, then what is behind it
dots_free : (names : List Name) (after : List Piece) → AreFree (spell_dots names after) → NamesFree names × AreFree after
dots_free [] after h = (tt, h)
dots_free (n ∷ names) after h = let rest = dots_free names after h.1 in ((h.0, rest.0), rest.1)

path_free : (names : List Name) (after : List Piece) → AreFree (spell_path names after) → NamesFree names × AreFree after
path_free [] after h = (tt, h)
path_free (n ∷ names) after h = let rest = dots_free names after h.1 in ((h.0, rest.0), rest.1)

class_free : (n : Name) (after : List Piece) → AreFree (spell_class n after) → AreFree after
class_free n after h = go (is_bad_exception n) h
  where
    go : (b : Bool) → AreFree (if b then word_at keyword.Std n.place ∷ mark sign.ColonColon ∷ anywhere (kind.Name (codes "bad_exception")) ∷ after else named n ∷ after) → AreFree after
    go true k = k
    go false k = k.1

const_free : (c : Bool) (after : List Piece) → AreFree (spell_const c after) → AreFree after
const_free true after h = h
const_free false after h = h

type_free : (t : Ty) (after : List Piece) → AreFree (spell_type t after) → AreFree after
type_free Int after h = h
type_free Void after h = h
type_free (Object n) after h = class_free n after h
type_free (IntRef c) after h = const_free c _ h
type_free (ObjectRef c n) after h = class_free n (mark sign.Amp ∷ after) (const_free c _ h)

name_free : (n : Option Name) (after : List Piece) → AreFree (spell_name n after) → AreFree after
name_free None after h = h
name_free (Some n) after h = h.1

param_free : (p : Param) (after : List Piece) → AreFree (spell_param p after) → AreFree after
param_free p after h = name_free p.name after (type_free p.ty (spell_name p.name after) h)

same_free : (place : ℕ) (ps : List Piece) → AreFree (first_at place ps) → AreFree ps
same_free place [] h = h
same_free place (anywhere k ∷ ps) h = h
same_free place (placed k n ∷ ps) h = h
same_free place (named n ∷ ps) h = h

caught_free : (place : ℕ) (t : Option Ty) (n : Option Name) (after : List Piece) → AreFree (spell_caught place t n after) → AreFree after
caught_free place None n after h = h
caught_free place (Some t) n after h = name_free n after (type_free t (spell_name n after) (same_free place (spell_type t (spell_name n after)) h))

mutual
  expression_free : (e : Expression) (after : List Piece) → AreFree (spell_expression e after) → CallsFree e × AreFree after
  expression_free (number v place) after h = (tt, h)
  expression_free (path names) after h = (tt, (path_free names after h).1)
  expression_free (paren e place) after h = expression_free e (mark sign.CloseParen ∷ after) h
  expression_free (unary o e place) after h = expression_free e after h
  expression_free (binary o a b) after h =
      let first = expression_free a (mark (binary_mark o) ∷ spell_expression b after) h in
      let second = expression_free b after first.1 in
      ((first.0, second.0), second.1)
  expression_free (call names es) after h =
      let first = path_free names (mark sign.OpenParen ∷ spell_arguments es (mark sign.CloseParen ∷ after)) h in
      let second = arguments_free es (mark sign.CloseParen ∷ after) first.1 in
      ((first.0, second.0), second.1)
  expression_free (std_call n es place) after h = arguments_free es (mark sign.CloseParen ∷ after) h.1

  arguments_free : (es : Expressions) (after : List Piece) → AreFree (spell_arguments es after) → AllCallsFree es × AreFree after
  arguments_free no_expressions after h = (tt, h)
  arguments_free (expression_then e es) after h =
      let first = expression_free e (spell_more es after) h in
      let second = more_free es after first.1 in
      ((first.0, second.0), second.1)

  more_free : (es : Expressions) (after : List Piece) → AreFree (spell_more es after) → AllCallsFree es × AreFree after
  more_free no_expressions after h = (tt, h)
  more_free (expression_then e es) after h =
      let first = expression_free e (spell_more es after) h in
      let second = more_free es after first.1 in
      ((first.0, second.0), second.1)

value_free : (e : Option Expression) (after : List Piece) → AreFree (spell_value e after) → ValueFree e × AreFree after
value_free None after h = (tt, h)
value_free (Some e) after h = expression_free e after h

start_free : (e : Option Expression) (after : List Piece) → AreFree (spell_start e after) → ValueFree e × AreFree after
start_free None after h = (tt, h)
start_free (Some e) after h = expression_free e after h

object_free : (es : Expressions) (after : List Piece) → AreFree (spell_object_arguments es after) → AllCallsFree es × AreFree after
object_free no_expressions after h = (tt, h)
object_free (expression_then e es) after h = arguments_free (expression_then e es) (mark sign.CloseParen ∷ after) h

mutual
  statement_free : (s : Statement) (after : List Piece) → AreFree (spell_statement s after) → StatementFree s × AreFree after
  statement_free (block ss) after h = statements_free ss (mark sign.CloseBrace ∷ after) h
  statement_free empty after h = (tt, h)
  statement_free (if_else e s t) after h =
      let first = expression_free e (mark sign.CloseParen ∷ spell_statement s (spell_else t after)) h in
      let second = statement_free s (spell_else t after) first.1 in
      let third = else_free t after second.1 in
      ((first.0, second.0, third.0), third.1)
  statement_free (while e s) after h =
      let first = expression_free e (mark sign.CloseParen ∷ spell_statement s after) h in
      let second = statement_free s after first.1 in
      ((first.0, second.0), second.1)
  statement_free (return place e) after h = value_free e (mark sign.Semicolon ∷ after) h
  statement_free (break place) after h = (tt, h)
  statement_free (continue place) after h = (tt, h)
  statement_free (throw place e) after h = value_free e (mark sign.Semicolon ∷ after) h
  statement_free (try ss hs) after h =
      let first = statements_free ss (mark sign.CloseBrace ∷ spell_handlers hs after) h in
      let second = handlers_free hs after first.1 in
      ((first.0, second.0), second.1)
  statement_free (assign names e) after h =
      expression_free e (mark sign.Semicolon ∷ after) (path_free names (mark sign.Assign ∷ spell_expression e (mark sign.Semicolon ∷ after)) h).1
  statement_free (evaluate e) after h = expression_free e (mark sign.Semicolon ∷ after) h
  statement_free (local_int x e) after h = start_free e (mark sign.Semicolon ∷ after) h.1
  statement_free (local_ref p names) after h =
      (tt, (path_free names (mark sign.Semicolon ∷ after) (param_free p (mark sign.Assign ∷ spell_path names (mark sign.Semicolon ∷ after)) h)).1)
  statement_free (local_object c x es) after h = object_free es (mark sign.Semicolon ∷ after) h.1.1

  else_free : (t : Else) (after : List Piece) → AreFree (spell_else t after) → ElseFree t × AreFree after
  else_free no_else after h = (tt, h)
  else_free (else_do s) after h = statement_free s after h

  statements_free : (ss : Statements) (after : List Piece) → AreFree (spell_statements ss after) → StatementsFree ss × AreFree after
  statements_free no_statements after h = (tt, h)
  statements_free (statement_then s ss) after h =
      let first = statement_free s (spell_statements ss after) h in
      let second = statements_free ss after first.1 in
      ((first.0, second.0), second.1)

  handlers_free : (hs : Handlers) (after : List Piece) → AreFree (spell_handlers hs after) → HandlersFree hs × AreFree after
  handlers_free no_handlers after h = (tt, h)
  handlers_free (handler_then t n ss place hs) after h =
      let inside = caught_free place t n (mark sign.CloseParen ∷ mark sign.OpenBrace ∷ spell_statements ss (mark sign.CloseBrace ∷ spell_handlers hs after)) h in
      let first = statements_free ss (mark sign.CloseBrace ∷ spell_handlers hs after) inside in
      let second = handlers_free hs after first.1 in
      ((first.0, second.0), second.1)

-- functions and programs

more_params_free : (ps : List Param) (after : List Piece) → AreFree (spell_more_params ps after) → AreFree after
more_params_free [] after h = h
more_params_free (p ∷ ps) after h = more_params_free ps after (param_free p (spell_more_params ps after) h)

params_free : (ps : List Param) (after : List Piece) → AreFree (spell_params ps after) → AreFree after
params_free [] after h = h
params_free (p ∷ ps) after h = more_params_free ps after (param_free p (spell_more_params ps after) h)

more_types_free : (ts : List Ty) (after : List Piece) → AreFree (spell_more_types ts after) → AreFree after
more_types_free [] after h = h
more_types_free (t ∷ ts) after h = more_types_free ts after (type_free t (spell_more_types ts after) h)

types_free : (ts : List Ty) (after : List Piece) → AreFree (spell_types ts after) → AreFree after
types_free [] after h = h
types_free (t ∷ ts) after h = more_types_free ts after (type_free t (spell_more_types ts after) h)

specification_free : (full : Bool) (o : Option Specification) (after : List Piece) → AreFree (spell_specification full o after) → AreFree after
specification_free full None after h = h
specification_free full (Some (listed ts)) after h = types_free ts (mark sign.CloseParen ∷ after) h
specification_free full (Some (noexcept place false)) after h = h
specification_free true (Some (noexcept place true)) after h = h
specification_free false (Some (noexcept place true)) after h = h

more_initialisers_free : (is : List Initialiser) (after : List Piece) → AreFree (spell_more_initialisers is after) → InitialisersFree is × AreFree after
more_initialisers_free [] after h = (tt, h)
more_initialisers_free (i ∷ is) after h =
    let first = arguments_free i.arguments (mark sign.CloseParen ∷ spell_more_initialisers is after) h.1 in
    let rest = more_initialisers_free is after first.1 in
    ((first.0, rest.0), rest.1)

initialisers_free : (is : List Initialiser) (after : List Piece) → AreFree (spell_initialisers is after) → InitialisersFree is × AreFree after
initialisers_free [] after h = (tt, h)
initialisers_free (i ∷ is) after h =
    let first = arguments_free i.arguments (mark sign.CloseParen ∷ spell_more_initialisers is after) h.1 in
    let rest = more_initialisers_free is after first.1 in
    ((first.0, rest.0), rest.1)

body_free : (o : Option Statements) (after : List Piece) → AreFree (spell_body o after) → BodyFree o × AreFree after
body_free None after h = (tt, h)
body_free (Some ss) after h = statements_free ss (mark sign.CloseBrace ∷ after) h

result_free : (k : FuncKind) (t : Ty) (after : List Piece) → AreFree (spell_result k t after) → AreFree after
result_free Plain t after h = type_free t after h
result_free Method t after h = type_free t after h
result_free Constructor t after h = h
result_free Destructor t after h = h

function_free : (f : Function) (after : List Piece) → AreFree (spell_function f after) → FunctionFree f × AreFree after
function_free f after h =
    let body = spell_body f.body after in
    let inits = spell_initialisers f.initialisers body in
    let specified = spell_specification (in_full f) f.specification inits in
    let params = params_free f.parameters (mark sign.CloseParen ∷ specified) (result_free f.kind f.result (named f.name ∷ mark sign.OpenParen ∷ spell_params f.parameters (mark sign.CloseParen ∷ specified)) h).1 in
    let first = initialisers_free f.initialisers body (specification_free (in_full f) f.specification inits params) in
    let second = body_free f.body after first.1 in
    (record { initialisers = first.0; body = second.0 }, second.1)

tilde_free : (k : FuncKind) (after : List Piece) → AreFree (spell_tilde k after) → AreFree after
tilde_free Plain after h = h
tilde_free Method after h = h
tilde_free Constructor after h = h
tilde_free Destructor after h = h

members_free : (ms : List Member) (after : List Piece) → AreFree (spell_members ms after) → FunctionsFree (functions ms) × AreFree after
members_free [] after h = (tt, h)
members_free (data_member p ∷ ms) after h = members_free ms after (param_free p (mark sign.Semicolon ∷ spell_members ms after) h)
members_free (function_member f ∷ ms) after h =
    let first = function_free f (spell_members ms after) (tilde_free f.kind (spell_function f (spell_members ms after)) h) in
    let rest = members_free ms after first.1 in
    ((first.0, rest.0), rest.1)

public_free : (b : Bool) (after : List Piece) → AreFree (spell_public b after) → AreFree after
public_free true after h = h
public_free false after h = h

base_free : (b : Bool) (base : Option Name) (after : List Piece) → AreFree (spell_base b base after) → AreFree after
base_free b None after h = h
base_free b (Some n) after h = (public_free b (named n ∷ after) h).1

minus_free : (b : Bool) (after : List Piece) → AreFree (spell_minus b after) → AreFree after
minus_free true after h = h
minus_free false after h = h

first_free : (s : Start) (after : List Piece) → AreFree (spell_start_value s after) → AreFree after
first_free no_start after h = h
first_free (start b n) after h = minus_free b (anywhere (kind.Number n) ∷ after) h

abbrev pub WrittenFree : Written → Type 0
WrittenFree (written_class n b base ms) = FunctionsFree (functions ms)
WrittenFree (written_global n s) = Unit {0}
WrittenFree (written_function f) = FunctionFree f

abbrev pub AllWrittenFree : List Written → Type 0
AllWrittenFree [] = Unit {0}
AllWrittenFree (w ∷ ws) = WrittenFree w × AllWrittenFree ws

declaration_free : (w : Written) (after : List Piece) → AreFree (spell_declaration w after) → WrittenFree w × AreFree after
declaration_free (written_class n b base ms) after h =
    let rest = mark sign.CloseBrace ∷ mark sign.Semicolon ∷ after in
    members_free ms rest (base_free b base (mark sign.OpenBrace ∷ spell_members ms rest) h.1)
declaration_free (written_global n s) after h = (tt, first_free s (mark sign.Semicolon ∷ after) h.1)
declaration_free (written_function f) after h = function_free f after h

declarations_free : (ws : List Written) (after : List Piece) → AreFree (spell_declarations ws after) → AllWrittenFree ws × AreFree after
declarations_free [] after h = (tt, h)
declarations_free (w ∷ ws) after h =
    let first = declaration_free w (spell_declarations ws after) h in
    let rest = declarations_free ws after first.1 in
    ((first.0, rest.0), rest.1)

pub source_free : (ts : List Token) (ws : List Written) → Fit ts (spell_declarations ws []) → AllWrittenFree ws
source_free ts ws fit = (declarations_free ws [] (fit_free ts (spell_declarations ws []) fit)).0
