-- How many pieces spell something: those that come behind are added.
use Rattle.cxx_ast.specs.Written.{spell_function_as}
use Rattle.std.specs.Prelude.{◌⊎◌}
use Rattle.std.proofs.Common.{inl, inr, sym, ap, ◌∙◌}
use Rattle.std.proofs.lemmas.Bool.Decides.{nat_tests}
use Rattle.cxx_ast.specs.Plain.{Specification, listed, noexcept}
use Rattle.cxx_ast.specs.Written.{in_full}
use Rattle.std.specs.Prelude.{Bool, true, false}
use Rattle.std.specs.Prelude.{ℕ, ◌+◌, ◌≡◌, ◌≤◌, Bool, true, false, List, [], ◌∷◌, Option, Some, None, length, refl}
use Rattle.std.proofs.Common.{arith}
use Rattle.cxx_ast.specs.declared.declaration.FuncKind.{FuncKind}
use Rattle.cxx_ast.specs.declared.declaration.FuncKind.TheVariants.{Plain, Method, Constructor, Destructor}
use Rattle.cxx_ast.specs.declared.keyword.Keyword.TheVariants as keyword
use Rattle.cxx_ast.specs.declared.mark.Mark.TheVariants as sign
use Rattle.cxx_ast.specs.declared.name.Name.{Name}
use Rattle.cxx_ast.specs.declared.types.Param.{Param}
use Rattle.cxx_ast.specs.declared.types.Ty.{Ty}
use Rattle.cxx_ast.specs.declared.types.Ty.TheVariants.{Int, Void, Object, IntRef, ObjectRef}
use Rattle.cxx_ast.specs.Operator.{binary_mark}
use Rattle.cxx_ast.specs.Piece.{Piece, anywhere, placed, named, mark, word}
use Rattle.cxx_ast.specs.Plain.{Expression, number, path, paren, unary, binary, call, std_call, Expressions, no_expressions, expression_then, Statement, block, empty, if_else, while, return, break, continue, throw, try, assign, evaluate, local_int, local_ref, local_object, Else, no_else, else_do, Statements, no_statements, statement_then, Handlers, no_handlers, handler_then, Initialiser, Function}
use Rattle.cxx_ast.specs.Spelling.{Spelling, is_bad_exception, spell_class, spell_const, spell_type, spell_name, spell_param, first_at, spell_dots, spell_path, spell_expression, spell_arguments, spell_more, spell_value, spell_start, spell_object_arguments, spell_caught, spell_statement, spell_else, spell_statements, spell_handlers}
use Rattle.cxx_ast.specs.Written.{spell_params, spell_more_params, spell_types, spell_more_types, spell_specification, spell_initialiser, spell_more_initialisers, spell_initialisers, spell_body, spell_result, spell_function}

-- what comes behind is added
abbrev Adds : Spelling → List Piece → Type 0
Adds P x = length (P x) ≡ length (P []) + length x

class_adds : (m : Name) (x : List Piece) → Adds (spell_class m) x
class_adds m x = go (is_bad_exception m) refl
  where
    go : (b : Bool) → is_bad_exception m ≡ b → Adds (spell_class m) x
    go true e = rw e (omega arith)
    go false e = rw e (omega arith)

const_adds : (b : Bool) (x : List Piece) → Adds (spell_const b) x
const_adds true x = omega arith
const_adds false x = omega arith

type_adds : (ty : Ty) (x : List Piece) → Adds (spell_type ty) x
type_adds Int x = omega arith
type_adds Void x = omega arith
type_adds (Object m) x = class_adds m x
type_adds (IntRef c) x = omega (arith, const_adds c (word keyword.Int ∷ mark sign.Amp ∷ x), const_adds c (word keyword.Int ∷ mark sign.Amp ∷ []))
type_adds (ObjectRef c m) x =
    omega (arith, const_adds c (spell_class m (mark sign.Amp ∷ x)), const_adds c (spell_class m (mark sign.Amp ∷ [])), class_adds m (mark sign.Amp ∷ x), class_adds m (mark sign.Amp ∷ []))

name_adds : (m : Option Name) (x : List Piece) → Adds (spell_name m) x
name_adds None x = omega arith
name_adds (Some m) x = omega arith

param_adds : (p : Param) (x : List Piece) → Adds (spell_param p) x
param_adds p x = omega (arith, type_adds p.ty (spell_name p.name x), type_adds p.ty (spell_name p.name []), name_adds p.name x)

first_adds : (place : ℕ) (x : List Piece) → length (first_at place x) ≡ length x
first_adds place [] = refl
first_adds place (anywhere k ∷ x) = refl
first_adds place (placed k at ∷ x) = refl
first_adds place (named m ∷ x) = refl

dots_adds : (names : List Name) (x : List Piece) → Adds (spell_dots names) x
dots_adds [] x = omega arith
dots_adds (m ∷ names) x = omega (arith, dots_adds names x)

path_adds : (names : List Name) (x : List Piece) → Adds (spell_path names) x
path_adds [] x = omega arith
path_adds (m ∷ names) x = omega (arith, dots_adds names x)

-- a piece more
abbrev close : List Piece → List Piece
close x = mark sign.CloseParen ∷ x

abbrev end : List Piece → List Piece
end x = mark sign.Semicolon ∷ x

mutual
  expression_adds : (e : Expression) (x : List Piece) → Adds (spell_expression e) x
  expression_adds (number v place) x = omega arith
  expression_adds (path names) x = path_adds names x
  expression_adds (paren e place) x = omega (arith, expression_adds e (close x), expression_adds e (close []))
  expression_adds (unary op e place) x = omega (arith, expression_adds e x)
  expression_adds (binary op a b) x =
      omega (arith, expression_adds a (mark (binary_mark op) ∷ spell_expression b x), expression_adds a (mark (binary_mark op) ∷ spell_expression b []), expression_adds b x)
  expression_adds (call names es) x =
      omega (arith, path_adds names (mark sign.OpenParen ∷ spell_arguments es (close x)), path_adds names (mark sign.OpenParen ∷ spell_arguments es (close [])), arguments_adds es (close x), arguments_adds es (close []))
  expression_adds (std_call m es place) x = omega (arith, arguments_adds es (close x), arguments_adds es (close []))

  arguments_adds : (es : Expressions) (x : List Piece) → Adds (spell_arguments es) x
  arguments_adds no_expressions x = omega arith
  arguments_adds (expression_then e es) x = omega (arith, expression_adds e (spell_more es x), expression_adds e (spell_more es []), more_adds es x)

  more_adds : (es : Expressions) (x : List Piece) → Adds (spell_more es) x
  more_adds no_expressions x = omega arith
  more_adds (expression_then e es) x = omega (arith, expression_adds e (spell_more es x), expression_adds e (spell_more es []), more_adds es x)

value_adds : (e : Option Expression) (x : List Piece) → Adds (spell_value e) x
value_adds None x = omega arith
value_adds (Some e) x = expression_adds e x

start_adds : (e : Option Expression) (x : List Piece) → Adds (spell_start e) x
start_adds None x = omega arith
start_adds (Some e) x = omega (arith, expression_adds e x)

object_adds : (es : Expressions) (x : List Piece) → Adds (spell_object_arguments es) x
object_adds no_expressions x = omega arith
object_adds (expression_then e es) x = omega (arith, arguments_adds (expression_then e es) (close x), arguments_adds (expression_then e es) (close []))

caught_adds : (place : ℕ) (ty : Option Ty) (name : Option Name) (x : List Piece) → Adds (spell_caught place ty name) x
caught_adds place None name x = omega arith
caught_adds place (Some ty) name x =
    omega (arith, first_adds place (spell_type ty (spell_name name x)), first_adds place (spell_type ty (spell_name name [])), type_adds ty (spell_name name x), type_adds ty (spell_name name []), name_adds name x)

-- a test in parentheses, and what comes behind it
test_adds : (e : Expression) (y : List Piece) (z : List Piece) (k : ℕ) → length y ≡ length z + k → length (spell_expression e (close y)) ≡ length (spell_expression e (close z)) + k
test_adds e y z k i = omega (arith, expression_adds e (close y), expression_adds e (close z), i)

mutual
  statement_adds : (s : Statement) (x : List Piece) → Adds (spell_statement s) x
  statement_adds (block ss) x = omega (arith, statements_adds ss (mark sign.CloseBrace ∷ x), statements_adds ss (mark sign.CloseBrace ∷ []))
  statement_adds empty x = omega arith
  statement_adds (if_else e s other) x =
      omega (arith, test_adds e (spell_statement s (spell_else other x)) (spell_statement s (spell_else other [])) (length x) (omega (arith, statement_adds s (spell_else other x), statement_adds s (spell_else other []), else_adds other x)))
  statement_adds (while e s) x = omega (arith, test_adds e (spell_statement s x) (spell_statement s []) (length x) (statement_adds s x))
  statement_adds (return place e) x = omega (arith, value_adds e (end x), value_adds e (end []))
  statement_adds (break place) x = omega arith
  statement_adds (continue place) x = omega arith
  statement_adds (throw place e) x = omega (arith, value_adds e (end x), value_adds e (end []))
  statement_adds (try ss hs) x =
      omega (arith, statements_adds ss (mark sign.CloseBrace ∷ spell_handlers hs x), statements_adds ss (mark sign.CloseBrace ∷ spell_handlers hs []), handlers_adds hs x)
  statement_adds (assign names e) x =
      omega (arith, path_adds names (mark sign.Assign ∷ spell_expression e (end x)), path_adds names (mark sign.Assign ∷ spell_expression e (end [])), expression_adds e (end x), expression_adds e (end []))
  statement_adds (evaluate e) x = omega (arith, expression_adds e (end x), expression_adds e (end []))
  statement_adds (local_int m e) x = omega (arith, start_adds e (end x), start_adds e (end []))
  statement_adds (local_ref p names) x =
      omega (arith, param_adds p (mark sign.Assign ∷ spell_path names (end x)), param_adds p (mark sign.Assign ∷ spell_path names (end [])), path_adds names (end x), path_adds names (end []))
  statement_adds (local_object c m es) x = omega (arith, object_adds es (end x), object_adds es (end []))

  else_adds : (other : Else) (x : List Piece) → Adds (spell_else other) x
  else_adds no_else x = omega arith
  else_adds (else_do s) x = omega (arith, statement_adds s x)

  statements_adds : (ss : Statements) (x : List Piece) → Adds (spell_statements ss) x
  statements_adds no_statements x = omega arith
  statements_adds (statement_then s ss) x = omega (arith, statement_adds s (spell_statements ss x), statement_adds s (spell_statements ss []), statements_adds ss x)

  handlers_adds : (hs : Handlers) (x : List Piece) → Adds (spell_handlers hs) x
  handlers_adds no_handlers x = omega arith
  handlers_adds (handler_then ty name ss place hs) x =
      omega (
        arith,
        caught_adds place ty name (close (mark sign.OpenBrace ∷ spell_statements ss (mark sign.CloseBrace ∷ spell_handlers hs x))),
        caught_adds place ty name (close (mark sign.OpenBrace ∷ spell_statements ss (mark sign.CloseBrace ∷ spell_handlers hs []))),
        statements_adds ss (mark sign.CloseBrace ∷ spell_handlers hs x),
        statements_adds ss (mark sign.CloseBrace ∷ spell_handlers hs []),
        handlers_adds hs x,
      )

more_params_adds : (ps : List Param) (x : List Piece) → Adds (spell_more_params ps) x
more_params_adds [] x = omega arith
more_params_adds (p ∷ ps) x = omega (arith, param_adds p (spell_more_params ps x), param_adds p (spell_more_params ps []), more_params_adds ps x)

params_adds : (ps : List Param) (x : List Piece) → Adds (spell_params ps) x
params_adds [] x = omega arith
params_adds (p ∷ ps) x = omega (arith, param_adds p (spell_more_params ps x), param_adds p (spell_more_params ps []), more_params_adds ps x)

more_types_adds : (tys : List Ty) (x : List Piece) → Adds (spell_more_types tys) x
more_types_adds [] x = omega arith
more_types_adds (ty ∷ tys) x = omega (arith, type_adds ty (spell_more_types tys x), type_adds ty (spell_more_types tys []), more_types_adds tys x)

types_adds : (tys : List Ty) (x : List Piece) → Adds (spell_types tys) x
types_adds [] x = omega arith
types_adds (ty ∷ tys) x = omega (arith, type_adds ty (spell_more_types tys x), type_adds ty (spell_more_types tys []), more_types_adds tys x)

specification_adds : (b : Bool) (spec : Option Specification) (x : List Piece) → Adds (spell_specification b spec) x
specification_adds b None x = omega arith
specification_adds b (Some (listed tys)) x = omega (arith, types_adds tys (close x), types_adds tys (close []))
specification_adds b (Some (noexcept place false)) x = omega arith
specification_adds false (Some (noexcept place true)) x = omega arith
specification_adds true (Some (noexcept place true)) x = omega arith

initialiser_adds : (i : Initialiser) (x : List Piece) → Adds (spell_initialiser i) x
initialiser_adds i x = omega (arith, arguments_adds i.arguments (close x), arguments_adds i.arguments (close []))

more_initialisers_adds : (is : List Initialiser) (x : List Piece) → Adds (spell_more_initialisers is) x
more_initialisers_adds [] x = omega arith
more_initialisers_adds (i ∷ is) x = omega (arith, initialiser_adds i (spell_more_initialisers is x), initialiser_adds i (spell_more_initialisers is []), more_initialisers_adds is x)

initialisers_adds : (is : List Initialiser) (x : List Piece) → Adds (spell_initialisers is) x
initialisers_adds [] x = omega arith
initialisers_adds (i ∷ is) x = omega (arith, initialiser_adds i (spell_more_initialisers is x), initialiser_adds i (spell_more_initialisers is []), more_initialisers_adds is x)

body_adds : (body : Option Statements) (x : List Piece) → Adds (spell_body body) x
body_adds None x = omega arith
body_adds (Some ss) x = omega (arith, statements_adds ss (mark sign.CloseBrace ∷ x), statements_adds ss (mark sign.CloseBrace ∷ []))

result_adds : (k : FuncKind) (ty : Ty) (x : List Piece) → Adds (spell_result k ty) x
result_adds Plain ty x = type_adds ty x
result_adds Method ty x = type_adds ty x
result_adds Constructor ty x = omega arith
result_adds Destructor ty x = omega arith

-- what stands behind a function's name
abbrev pub rest_of : Function → Spelling
rest_of f x = spell_params f.parameters (mark sign.CloseParen ∷ spell_specification (in_full f) f.specification (spell_initialisers f.initialisers (spell_body f.body x)))

rest_adds : (f : Function) (x : List Piece) → Adds (rest_of f) x
rest_adds f x =
    omega (
      arith,
      params_adds f.parameters (mark sign.CloseParen ∷ spell_specification (in_full f) f.specification (spell_initialisers f.initialisers (spell_body f.body x))),
      params_adds f.parameters (mark sign.CloseParen ∷ spell_specification (in_full f) f.specification (spell_initialisers f.initialisers (spell_body f.body []))),
      specification_adds (in_full f) f.specification (spell_initialisers f.initialisers (spell_body f.body x)),
      specification_adds (in_full f) f.specification (spell_initialisers f.initialisers (spell_body f.body [])),
      initialisers_adds f.initialisers (spell_body f.body x),
      initialisers_adds f.initialisers (spell_body f.body []),
      body_adds f.body x,
    )

-- a function
pub function_adds : (f : Function) (x : List Piece) → Adds (spell_function f) x
function_adds f x =
    omega (arith, result_adds f.kind f.result (named f.name ∷ mark sign.OpenParen ∷ rest_of f x), result_adds f.kind f.result (named f.name ∷ mark sign.OpenParen ∷ rest_of f []), rest_adds f x)

pub function_some : (f : Function) → 1 ≤ length (spell_function f [])
function_some f = omega (arith, result_adds f.kind f.result (named f.name ∷ mark sign.OpenParen ∷ rest_of f []))

-- a function whose number of tokens is that of a spelling is spelled so

-- what stands behind a function's parameters
abbrev behind_params : Bool → Function → Spelling
behind_params b f x = spell_specification b f.specification (spell_initialisers f.initialisers (spell_body f.body x))

-- a `noexcept` that is true
abbrev IsQuiet : Option Specification → Type 0
IsQuiet o = (place : ℕ) × (o ≡ Some (noexcept place true))

spelled_alike : (b c : Bool) (o : Option Specification) → ((y : List Piece) → spell_specification b o y ≡ spell_specification c o y) ⊎ IsQuiet o
spelled_alike b c None = inl (λ y. refl)
spelled_alike b c (Some (listed tys)) = inl (λ y. refl)
spelled_alike b c (Some (noexcept place false)) = inl (λ y. refl)
spelled_alike b c (Some (noexcept place true)) = inr (place, refl)

head_adds : (f : Function) (y : List Piece) → length (spell_result f.kind f.result (named f.name ∷ mark sign.OpenParen ∷ spell_params f.parameters (mark sign.CloseParen ∷ y)))
    ≡ length (spell_result f.kind f.result []) + length (spell_params f.parameters []) + 3 + length y
head_adds f y =
    omega (
      arith,
      result_adds f.kind f.result (named f.name ∷ mark sign.OpenParen ∷ spell_params f.parameters (mark sign.CloseParen ∷ y)),
      params_adds f.parameters (mark sign.CloseParen ∷ y),
    )

-- in full it has three tokens more
three_more : (f : Function) → IsQuiet f.specification → length (spell_function_as true f []) ≡ length (spell_function_as false f []) + 3
three_more f (place, e) =
    let rest = spell_initialisers f.initialisers (spell_body f.body []) in
    let full : length (behind_params true f []) ≡ length rest + 4 = ap (λ o. length (spell_specification true o rest)) e ∙ omega arith in
    let short : length (behind_params false f []) ≡ length rest + 1 = ap (λ o. length (spell_specification false o rest)) e ∙ omega arith in
    omega (arith, head_adds f (behind_params true f []), head_adds f (behind_params false f []), full, short)

told : (b : Bool) (f : Function) → IsQuiet f.specification → f.tokens ≡ length (spell_function_as b f []) → in_full f ≡ b
unfolding in_full
told true f q e = grind (arith, nat_tests, e)
told false f q e = let more = three_more f q in grind (arith, nat_tests, e, more)

pub as_written : (b : Bool) (f : Function) → f.tokens ≡ length (spell_function_as b f []) → (x : List Piece) → spell_function_as b f x ≡ spell_function f x
as_written b f e x = go (spelled_alike b (in_full f) f.specification)
  where
    go : ((y : List Piece) → spell_specification b f.specification y ≡ spell_specification (in_full f) f.specification y) ⊎ IsQuiet f.specification → spell_function_as b f x ≡ spell_function f x
    go (inl h) =
        ap (λ y. spell_result f.kind f.result (named f.name ∷ mark sign.OpenParen ∷ spell_params f.parameters (mark sign.CloseParen ∷ y)))
        (h (spell_initialisers f.initialisers (spell_body f.body x)))
    go (inr q) = ap (λ c. spell_function_as c f x) (sym (told b f q e))
