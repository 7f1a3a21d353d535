-- Where the literals of all pieces of a source are ints, so are those of each part of a program that they spell, with its names bound.
use Rattle.std.proofs.Common.{◌≡◌, sym, subst, Bool, true, false, ℕ, ◌+◌, List, [], ◌∷◌, map, Option, Some, None, if◌then◌else◌}
use Rattle.std.specs.List.{AllByRecursion}
use Rattle.cxx_ast.specs.declared.name.Bound.{Bound}
use Rattle.cxx_ast.specs.declared.name.Bound.TheVariants.{Func, Method as MethodBound}
use Rattle.cxx_ast.specs.declared.mark.Mark.TheVariants as sign
use Rattle.cxx_ast.specs.declared.standard.Std.{Std}
use Rattle.cxx_ast.specs.Settled.{settle_function, settle_class}
use Rattle.cxx_ast.proofs.Settled.{all_classes, all_functions}
use Rattle.cxx_ast.specs.Plain.{Expression, number, path, paren, unary, binary, call, std_call, Expressions, no_expressions, expression_then, Statement, block, empty, if_else, while, return, break, continue, throw, try, assign, evaluate, local_int, local_ref, local_object, Else, no_else, else_do, Statements, no_statements, statement_then, Handlers, no_handlers, handler_then, Initialiser, Function, Class, class_declaration, Program, Specification}
use Rattle.cxx_ast.specs.Checked.{resolve_methods, resolve_declarations, classes_of, functions_of, checked, bad_exception}
use Rattle.cxx_ast.specs.Declare.{at_the_start, declare_behind, head_environment, head_scope, next_class, body_environment, function_scope}
use Rattle.cxx_ast.specs.Environment.{Environment, Scope}
use Rattle.cxx_ast.specs.Locals.{inner, after as scope_after, handler_scope, caught_count, locals_in, locals_of, scope_behind, declare_params, outermost}
use Rattle.cxx_ast.specs.Operator.{binary_mark}
use Rattle.cxx_ast.specs.Piece.{Piece, named, mark}
use Rattle.cxx_ast.specs.Resolve.{function_number, resolve_expression, resolve_expressions, resolve_value, resolve_statement, resolve_else, resolve_statements, resolve_handlers, resolve_initialiser, resolve_body, resolve_function}
use Rattle.cxx_ast.specs.Spelling.{spell_path, spell_expression, spell_arguments, spell_more, spell_value, spell_start, spell_object_arguments, spell_statement, spell_else, spell_statements, spell_handlers}
use Rattle.cxx_ast.specs.TypeNames.{has_body}
use Rattle.cxx_ast.specs.Written.{Member, data_member, function_member, functions, data_members, Written, written_class, written_global, written_function, no_start, start, declared, spell_params, spell_specification, spell_initialiser, spell_more_initialisers, spell_initialisers, spell_body, spell_function, spell_members, spell_declarations, in_full}
use Rattle.checked_units.proofs.Behind.{after_param, after_path, after_caught, after_specification, after_params, after_result, after_tilde, after_base}
use Rattle.checked_units.proofs.Globals.{literal_int}
use Rattle.checked_units.specs.Literals.{LiteralsIn, AllLiterals, ValueLiterals, StatementLiterals, ElseLiterals, StatementsLiterals, HandlersLiterals, BodyLiterals, InitialisersLiterals, FunctionLiterals, ProgramLiterals}
use Rattle.checked_units.specs.Operations.{LiteralsAreInts}
use Rattle.checked_units.proofs.SourceLiterals.{AreInts, source_has_ints}

module _ (env : Environment) where
  mutual
    expression : (sc : Scope) (e : Expression) (after : List Piece) → AreInts (spell_expression e after) → LiteralsIn (resolve_expression env sc e) × AreInts after
    expression sc (number v place) after h = (literal_int v h.0, h.1)
    expression sc (path names) after h = (tt, after_path names after h)
    expression sc (paren e place) after h = let x = expression sc e (mark sign.CloseParen ∷ after) h.1 in (x.0, x.1.1)
    expression sc (unary o e place) after h = expression sc e after h.1
    expression sc (binary o a b) after h =
        let x = expression sc a (mark (binary_mark o) ∷ spell_expression b after) h in
        let y = expression sc b after x.1.1 in
        ((x.0, y.0), y.1)
    expression sc (call names es) after h =
        let x = arguments sc es (mark sign.CloseParen ∷ after) (after_path names (mark sign.OpenParen ∷ spell_arguments es (mark sign.CloseParen ∷ after)) h).1 in
        (x.0, x.1.1)
    expression sc (std_call n es place) after h = let x = arguments sc es (mark sign.CloseParen ∷ after) h.1.1.1.1 in (x.0, x.1.1)

    arguments : (sc : Scope) (es : Expressions) (after : List Piece) → AreInts (spell_arguments es after) → AllLiterals (resolve_expressions env sc es) × AreInts after
    arguments sc no_expressions after h = (tt, h)
    arguments sc (expression_then e es) after h =
        let x = expression sc e (spell_more es after) h in
        let y = more sc es after x.1 in
        ((x.0, y.0), y.1)

    more : (sc : Scope) (es : Expressions) (after : List Piece) → AreInts (spell_more es after) → AllLiterals (resolve_expressions env sc es) × AreInts after
    more sc no_expressions after h = (tt, h)
    more sc (expression_then e es) after h =
        let x = expression sc e (spell_more es after) h.1 in
        let y = more sc es after x.1 in
        ((x.0, y.0), y.1)

  valued : (sc : Scope) (e : Option Expression) (after : List Piece) → AreInts (spell_value e after) → ValueLiterals (resolve_value env sc e) × AreInts after
  valued sc None after h = (tt, h)
  valued sc (Some e) after h = expression sc e after h

  started : (sc : Scope) (e : Option Expression) (after : List Piece) → AreInts (spell_start e after) → ValueLiterals (resolve_value env sc e) × AreInts after
  started sc None after h = (tt, h)
  started sc (Some e) after h = expression sc e after h.1

  object : (sc : Scope) (es : Expressions) (after : List Piece) → AreInts (spell_object_arguments es after) → AllLiterals (resolve_expressions env sc es) × AreInts after
  object sc no_expressions after h = (tt, h)
  object sc (expression_then e es) after h = let x = arguments sc (expression_then e es) (mark sign.CloseParen ∷ after) h.1 in (x.0, x.1.1)

  mutual
    statement : (sc : Scope) (s : Statement) (after : List Piece) → AreInts (spell_statement s after) → StatementLiterals (resolve_statement env sc s) × AreInts after
    statement sc (block ss) after h = let x = statements (inner sc) ss (mark sign.CloseBrace ∷ after) h.1 in (x.0, x.1.1)
    statement sc empty after h = (tt, h.1)
    statement sc (if_else e s t) after h =
        let x = expression sc e (mark sign.CloseParen ∷ spell_statement s (spell_else t after)) h.1.1 in
        let y = statement sc s (spell_else t after) x.1.1 in
        let z = otherwise (scope_after (locals_in s) sc) t after y.1 in
        ((x.0, y.0, z.0), z.1)
    statement sc (while e s) after h =
        let x = expression sc e (mark sign.CloseParen ∷ spell_statement s after) h.1.1 in
        let y = statement sc s after x.1.1 in
        ((x.0, y.0), y.1)
    statement sc (return place e) after h = let x = valued sc e (mark sign.Semicolon ∷ after) h.1 in (x.0, x.1.1)
    statement sc (break place) after h = (tt, h.1.1)
    statement sc (continue place) after h = (tt, h.1.1)
    statement sc (throw place e) after h = let x = valued sc e (mark sign.Semicolon ∷ after) h.1 in (x.0, x.1.1)
    statement sc (try ss hs) after h =
        let x = statements (inner sc) ss (mark sign.CloseBrace ∷ spell_handlers hs after) h.1.1 in
        let y = handlers (scope_after (locals_of ss) sc) hs after x.1.1 in
        ((x.0, y.0), y.1)
    statement sc (assign names e) after h =
        let x = expression sc e (mark sign.Semicolon ∷ after) (after_path names (mark sign.Assign ∷ spell_expression e (mark sign.Semicolon ∷ after)) h).1 in
        (x.0, x.1.1)
    statement sc (evaluate e) after h = let x = expression sc e (mark sign.Semicolon ∷ after) h in (x.0, x.1.1)
    statement sc (local_int n e) after h = let x = started sc e (mark sign.Semicolon ∷ after) h.1.1 in (x.0, x.1.1)
    statement sc (local_ref p names) after h =
        (tt, (after_path names (mark sign.Semicolon ∷ after) (after_param p (mark sign.Assign ∷ spell_path names (mark sign.Semicolon ∷ after)) h).1).1)
    statement sc (local_object c n es) after h = let x = object sc es (mark sign.Semicolon ∷ after) h.1.1 in (x.0, x.1.1)

    otherwise : (sc : Scope) (t : Else) (after : List Piece) → AreInts (spell_else t after) → ElseLiterals (resolve_else env sc t) × AreInts after
    otherwise sc no_else after h = (tt, h)
    otherwise sc (else_do s) after h = statement sc s after h.1

    statements : (sc : Scope) (ss : Statements) (after : List Piece) → AreInts (spell_statements ss after) → StatementsLiterals (resolve_statements env sc ss) × AreInts after
    statements sc no_statements after h = (tt, h)
    statements sc (statement_then s ss) after h =
        let x = statement sc s (spell_statements ss after) h in
        let y = statements (scope_behind env sc s) ss after x.1 in
        ((x.0, y.0), y.1)

    handlers : (sc : Scope) (hs : Handlers) (after : List Piece) → AreInts (spell_handlers hs after) → HandlersLiterals (resolve_handlers env sc hs) × AreInts after
    handlers sc no_handlers after h = (tt, h)
    handlers sc (handler_then t n ss place hs) after h =
        let rest = mark sign.CloseBrace ∷ spell_handlers hs after in
        let x = statements (handler_scope env t n sc) ss rest (after_caught place t n (mark sign.CloseParen ∷ mark sign.OpenBrace ∷ spell_statements ss rest) h.1.1).1.1 in
        let y = handlers (scope_after (caught_count t + locals_of ss) sc) hs after x.1.1 in
        ((x.0, y.0), y.1)

  body : (sc : Scope) (o : Option Statements) (after : List Piece) → AreInts (spell_body o after) → BodyLiterals (resolve_body env sc o) × AreInts after
  body sc None after h = (tt, h.1)
  body sc (Some ss) after h = let x = statements sc ss (mark sign.CloseBrace ∷ after) h.1 in (x.0, x.1.1)

  initialiser : (sc : Scope) (i : Initialiser) (after : List Piece) → AreInts (spell_initialiser i after) → AllLiterals (resolve_expressions env sc i.arguments) × AreInts after
  initialiser sc i after h = let x = arguments sc i.arguments (mark sign.CloseParen ∷ after) h.1.1 in (x.0, x.1.1)

  more_initialisers : (sc : Scope) (is : List Initialiser) (after : List Piece) → AreInts (spell_more_initialisers is after) →
      InitialisersLiterals (map (resolve_initialiser env sc) is) × AreInts after
  more_initialisers sc [] after h = (tt, h)
  more_initialisers sc (i ∷ is) after h =
      let x = initialiser sc i (spell_more_initialisers is after) h.1 in
      let y = more_initialisers sc is after x.1 in
      ((x.0, y.0), y.1)

  initialisers : (sc : Scope) (is : List Initialiser) (after : List Piece) → AreInts (spell_initialisers is after) → InitialisersLiterals (map (resolve_initialiser env sc) is) × AreInts after
  initialisers sc [] after h = (tt, h)
  initialisers sc (i ∷ is) after h =
      let x = initialiser sc i (spell_more_initialisers is after) h.1 in
      let y = more_initialisers sc is after x.1 in
      ((x.0, y.0), y.1)

-- functions

function : (head : Environment) (heads : Scope) (env : Environment) (sc : Scope) (b : Bound) (f : Function) (after : List Piece) → AreInts (spell_function f after) →
    FunctionLiterals (resolve_function head heads env sc b f) × AreInts after
function head heads env sc b f after h =
    let params = declare_params env f.parameters sc in
    let own = spell_body f.body after in
    let inits = spell_initialisers f.initialisers own in
    let tail = spell_specification (in_full f) f.specification inits in
    let front = after_result f.kind f.result (named f.name ∷ mark sign.OpenParen ∷ spell_params f.parameters (mark sign.CloseParen ∷ tail)) h in
    let x = initialisers env params f.initialisers own (after_specification (in_full f) f.specification inits (after_params f.parameters (mark sign.CloseParen ∷ tail) front.1.1).1) in
    let y = body env params f.body after x.1 in
    (record { initialisers = x.0; body = y.0 }, y.1)

methods : (env : Environment) (c : Class) (i : ℕ) (ms : List Member) (after : List Piece) → AreInts (spell_members ms after) →
    AllByRecursion FunctionLiterals (resolve_methods env c i (functions ms)) × AreInts after
methods env c i [] after h = (tt, h)
methods env c i (data_member p ∷ ms) after h = methods env c i ms after (after_param p (mark sign.Semicolon ∷ spell_members ms after) h).1
methods env c i (function_member f ∷ ms) after h =
    let x = function (head_environment env c) (head_scope env f.name) (declare_behind env (class_declaration c))
    (function_scope (declare_behind env (class_declaration c)) (Some (next_class env)) f.result) (MethodBound (next_class env) i) f (spell_members ms after)
    (after_tilde f.kind (spell_function f (spell_members ms after)) h) in
    let y = methods env c (i + 1) ms after x.1 in
    ((x.0, y.0), y.1)

-- the functions of classes, and those of none
record All (classes : List Class) (fs : List Function) : Type 0 where
  methods : AllByRecursion (λ c. AllByRecursion FunctionLiterals c.functions) classes
  own : AllByRecursion FunctionLiterals fs

where_defined : (b : Bool) (f : Function) (fs : List Function) → FunctionLiterals f → AllByRecursion FunctionLiterals fs → AllByRecursion FunctionLiterals (if b then f ∷ fs else fs)
where_defined true f fs h k = (h, k)
where_defined false f fs h k = k

declarations : (env : Environment) (ws : List Written) → AreInts (spell_declarations ws []) →
    All (classes_of (resolve_declarations env (map declared ws))) (functions_of (resolve_declarations env (map declared ws)))
declarations env [] h = record { methods = tt; own = tt }
declarations env (written_class n is_public base ms ∷ ws) h =
    let end = mark sign.CloseBrace ∷ mark sign.Semicolon ∷ spell_declarations ws [] in
    let d = declared (written_class n is_public base ms) in
    let c : Class = record { name = n; base = base; members = data_members ms; functions = functions ms } in
    let x = methods env c 0 ms end (after_base is_public base (mark sign.OpenBrace ∷ spell_members ms end) h.1.1).1 in
    let rest = declarations (declare_behind env d) ws x.1.1.1 in
    record { methods = (x.0, rest.methods); own = rest.own }
declarations env (written_global n no_start ∷ ws) h =
    let rest = declarations (declare_behind env (declared (written_global n no_start))) ws h.1.1.1 in record { methods = rest.methods; own = rest.own }
declarations env (written_global n (start true v) ∷ ws) h =
    let rest = declarations (declare_behind env (declared (written_global n (start true v)))) ws h.1.1.1.1.1.1 in record { methods = rest.methods; own = rest.own }
declarations env (written_global n (start false v) ∷ ws) h =
    let rest = declarations (declare_behind env (declared (written_global n (start false v)))) ws h.1.1.1.1.1 in record { methods = rest.methods; own = rest.own }
declarations env (written_function f ∷ ws) h =
    let env' = body_environment env f in
    let sc = function_scope env None f.result in
    let b = Func (function_number env f.name.text) in
    let x = function env outermost env' sc b f (spell_declarations ws []) h in
    let rest = declarations (declare_behind env (declared (written_function f))) ws x.1 in
    record {
      methods = rest.methods;
      own = where_defined (has_body (resolve_body env' (declare_params env' f.parameters sc) f.body)) (resolve_function env outermost env' sc b f)
          (functions_of (resolve_declarations env' (map declared ws))) x.0 rest.own;
    }

-- nothing of this is said of specifications
function_settled : (own : Option Specification) (f : Function) → FunctionLiterals f → FunctionLiterals (settle_function own f)
function_settled own f h = record { initialisers = h.initialisers; body = h.body }

class_settled : (own : Option Specification) (c : Class) → AllByRecursion FunctionLiterals c.functions → AllByRecursion FunctionLiterals (settle_class own c).functions
class_settled own c h = all_functions FunctionLiterals function_settled own c.functions h

program : (std : Std) (p : Program) (ws : List Written) → map declared ws ≡ p.declarations → AreInts (spell_declarations ws []) → ProgramLiterals (checked std p)
unfolding checked
program std p ws e h =
    let env = at_the_start p.declarations in
    let all = subst (λ ds. All (classes_of (resolve_declarations env ds)) (functions_of (resolve_declarations env ds))) e (declarations env ws h) in
    record {
      functions = all_functions FunctionLiterals function_settled None (functions_of (resolve_declarations env p.declarations)) all.own;
      methods = all_classes (λ c. AllByRecursion FunctionLiterals c.functions) class_settled std [] (bad_exception ∷ classes_of (resolve_declarations env p.declarations)) (tt, all.methods);
    }

pub literals_are_ints : LiteralsAreInts
literals_are_ints p h =
    let pieces = spell_declarations h.tree.written [] in
    subst ProgramLiterals (sym h.resolved) (program h.std h.program h.tree.written h.tree.declarations (source_has_ints h.source h.tokens pieces h.lexed h.tree.spelled))
