-- Every typed statement does what it is lowered to.
use Rattle.std.proofs.Common.{◌≡◌, ℕ, ◌+◌, ◌<◌, ◌≤◌, Bool, true, false, List, [], ◌∷◌, ◌++◌, Option, Some, None, refl, subst, arith, length}
use Rattle.std.specs.Prelude.{◌-◌}
use Rattle.class_layout.specs.StandApart.{StandApart}
use Rattle.cxx_ast.specs.declared.name.Name.{Name}
use Rattle.cxx_ast.specs.declared.types.Ty.TheVariants.{Int}
use Rattle.cxx_ast.specs.Plain.{Expression, Statement, block, empty, if_else, while, return, break, continue, throw, try, assign, evaluate, local_int, local_ref, local_object, Else, no_else, else_do, Statements, no_statements, statement_then, Handlers, no_handlers, handler_then}
use Rattle.meaning_forms.specs.World.{Reference, whole}
use Rattle.meaning_forms.specs.Context.{Context as SourceContext}
use Rattle.meaning_forms.specs.Frame.{Frame as SourceFrame, Variable, with_variable, with_parameter}
use Rattle.meaning_forms.specs.Outcome.{Action as SourceAction, Flow as SourceFlow, normal as source_normal, pure as source_pure, ◌>>=◌}
use Rattle.meaning_forms.specs.Expression.{value_of}
use Rattle.meaning_forms.specs.Statement.{returning as source_returning, local_cell, statement as source_statement, statements as source_statements, otherwise as source_otherwise}
use Rattle.region_forms.specs.Form.{Region, branch, catch, in_order}
use Rattle.region_forms.specs.Ending.{Running}
use Rattle.region_forms.specs.Numbering.{declared_in, all_declared_in}
use Rattle.region_forms.specs.LowerExpression.{Lowering, first_temporary, has_call, lower, dropped}
use Rattle.region_forms.specs.LowerStatement.{nothing_more, with_value, looping, clauses, returning, initialised, statement, statements, otherwise}
use Rattle.region_simulation.specs.Reach.{KindsFit}
use Rattle.region_simulation.specs.Typing.{IsTyped}
use Rattle.region_simulation.specs.Calls.{SameCalls}
use Rattle.region_simulation.specs.Evaluates.{Evaluates}
use Rattle.region_simulation.specs.Expressions.{source_running}
use Rattle.region_simulation.specs.Flows.{DoesAlike}
use Rattle.region_simulation.specs.Statements.{DeclaresNext, declared_to, CanReturn, IsTypedIfThere, IsTypedStatement, IsTypedElse, AreTypedStatements}
use Rattle.region_simulation.proofs.Values.{values_are_meant}
use Rattle.region_simulation.proofs.Standard.{expressions_evaluate}
use Rattle.region_simulation.proofs.Flowing.{does_later, does_then, does_inside}
use Rattle.region_statements.specs.Sequences.{IsTested}
use Rattle.region_statements.specs.Statements.{SourceCalls, HandlersDo, SameExceptions, StatementsDoAlike}
use Rattle.region_statements.proofs.Choosing.{does_branch}
use Rattle.region_statements.proofs.Testing.{does_break, does_continue, does_while}
use Rattle.region_statements.proofs.Ending.{does_next, does_return, does_return_value}
use Rattle.region_statements.proofs.Dropping.{dropped_goes}
use Rattle.region_statements.proofs.Naming.{does_nothing, does_assign, does_named_int, does_named_int_value, does_named_reference}

-- there is room for the variables that are in reach
typed_bound : (l : Lowering) (own : Option ℕ) (gives : Bool) (ss : Statements) (xs : List Variable) (n : ℕ) → AreTypedStatements l own gives ss xs n → n ≤ length l.variables
typed_bound l own gives no_statements xs n h = h
typed_bound l own gives (statement_then s ss) xs n h = h.0

in_reach_behind : (x : Option Name) (r : Reference) (v : SourceFrame) → declared_to x r v.variables ≡ (with_parameter x r v).variables
in_reach_behind None r v = refl
in_reach_behind (Some x) r v = refl

module _ (l : Lowering) (own : Option ℕ) (gives : Bool) (call : SourceCalls) (b : Running) (fit : KindsFit l b.kinds) (apart : StandApart l.layout.classes l.program.classes)
    (same : SameCalls l.layout (source_running l call) b) (exceptions : SameExceptions l own gives call b) where
  evaluates : (v : SourceFrame) (c : SourceContext) (e : Expression) → IsTyped l own v.variables e
      → Evaluates l own b v c (first_temporary l) (value_of (source_running l call) v e c) (lower l e (first_temporary l))
  evaluates v c e typed =
      expressions_evaluate l own call b v c fit same (exceptions.terminates v c) (exceptions.modules v c) e (first_temporary l) (omega arith) typed

  tested : (v : SourceFrame) (c : SourceContext) (e : Expression) → IsTyped l own v.variables e
      → IsTested l own b v c (has_call e) (value_of (source_running l call) v e c) (lower l e (first_temporary l))
  tested v c e typed = go (has_call e) refl
    where
      go : (q : Bool) → has_call e ≡ q → IsTested l own b v c q (value_of (source_running l call) v e c) (lower l e (first_temporary l))
      go false quiet = λ at w s stands reach.
          (values_are_meant l own b.kinds (source_running l call) v at e (first_temporary l) c c w s refl quiet typed fit reach stands).1
      go true is = evaluates v c e typed

  returns : (v : SourceFrame) (c : SourceContext) (n i d : ℕ) (e : Option Expression) → CanReturn l own gives v.variables e
      → DoesAlike l own gives b v c n i d (source_returning (source_running l call) v e c) (returning l e d)
  returns v c n i d None h = does_return l own gives b v c n i d h
  returns v c n i d (Some e) h =
      does_return_value l own gives b v c fit n i d (value_of (source_running l call) v e c) e h.0 (evaluates v c e h.1)

  int_declared : (v : SourceFrame) (c : SourceContext) (n i d : ℕ) (x : Name) (e : Option Expression) → DeclaresNext l n (Some x) Int → IsTypedIfThere l own v.variables e
      → (rest : SourceFrame → SourceAction SourceFlow) (ys : List Region)
      → ((o : ℕ) → DoesAlike l own gives b (with_variable x (whole o) v) c (n + 1) i d (rest (with_variable x (whole o) v)) ys)
      → DoesAlike l own gives b v c n i d (local_cell (source_running l call) v e c >>= (λ o. rest (with_variable x (whole o) v))) (initialised l x e ++ ys)
  int_declared v c n i d x None declares typed rest ys next = does_named_int l own gives b v c fit n i d x declares rest ys next
  int_declared v c n i d x (Some e) declares typed rest ys next =
      does_named_int_value l own gives b v c fit n i d x declares (value_of (source_running l call) v e c) e rest ys (evaluates v c e typed) next

  -- what follows a statement, where the m-th variable is the next behind it
  abbrev RestDoes : SourceContext → (m i : ℕ) → (List Variable → Type 0) → (SourceFrame → SourceAction SourceFlow) → (ℕ → List Region) → Type 0
  RestDoes c m i typed rest ys =
      (u : SourceFrame) (e : ℕ) → i < e → typed u.variables → (q : ℕ) → q ≤ m → DoesAlike l own gives b u c q i e (rest u) (ys e)

  nothing_follows : (c : SourceContext) (m i : ℕ) → RestDoes c m i (λ ys. Unit {0}) (λ g. source_pure source_normal) nothing_more
  nothing_follows c m i u e lt typed q le = does_nothing l own gives b u c fit q i e

  -- each is said with some type, since a statement is with what is said of its rest
  mutual
    statement_does : (s : Statement) (after : List Variable → Type 0) (rest : SourceFrame → SourceAction SourceFlow) (ys : ℕ → List Region) (v : SourceFrame) (c : SourceContext)
        (n i d : ℕ) → i < d → RestDoes c (n + length (declared_in s)) i after rest ys → IsTypedStatement l own gives s after v.variables n
        → DoesAlike l own gives b v c n i d (source_statement (source_running l call) s rest v c) (statement l s ys i n d)
    statement_does (block ss) after rest ys v c n i d lt next typed =
        does_then l own gives b v c n i d (source_statements (source_running l call) ss v c) (rest v) (in_order (statements l ss i n (d + 1)) ∷ []) (ys d)
        (does_inside l own gives b v c n i d (source_statements (source_running l call) ss v c) (statements l ss i n (d + 1)) lt (statements_do ss (Unit {0}) v c n i (d + 1) (omega (arith, lt)) typed.0)) (next v d lt typed.1 n (omega arith))
    statement_does empty after rest ys v c n i d lt next typed = next v d lt typed n (omega arith)
    statement_does (if_else e s t) after rest ys v c n i d lt next typed =
        let r = source_running l call in
        let first_side = statement l s nothing_more i n (d + 2) in
        let other_side = otherwise l t i (n + length (declared_in s)) (d + 2) in
        let chosen = statement_does s (λ xs. Unit {0}) (λ g. source_pure source_normal) nothing_more v c n i (d + 2) (omega (arith, lt)) (nothing_follows c _ i) typed.1 in
        let other = otherwise_does t (Unit {0}) v c n (n + length (declared_in s)) i (d + 2) (omega (arith, lt)) (omega arith) typed.2 in
        let two : d + 2 ≡ d + 1 + 1 = omega arith in
        does_then l own gives b v c n i d _ (rest v) (with_value (lower l e (first_temporary l)) (λ y. branch y (in_order first_side) (in_order other_side))) (ys d)
        (does_branch l own gives b v c n i d (value_of r v e c) (lower l e (first_temporary l)) (source_statement r s (λ g. source_pure source_normal) v c) (source_otherwise r t v c)
        (in_order first_side) (in_order other_side) lt (evaluates v c e typed.0)
        (does_inside l own gives b v c n i (d + 1) (source_statement r s (λ g. source_pure source_normal) v c) first_side (omega (arith, lt))
        (subst (λ q. DoesAlike l own gives b v c n i q (source_statement r s (λ g. source_pure source_normal) v c) first_side) two chosen))
        (does_inside l own gives b v c n i (d + 1) (source_otherwise r t v c) other_side (omega (arith, lt))
        (subst (λ q. DoesAlike l own gives b v c n i q (source_otherwise r t v c) other_side) two other)))
        (next v d lt typed.3 n (omega arith))
    statement_does (while e s) after rest ys v c n i d lt next typed =
        let r = source_running l call in
        does_then l own gives b v c n i d _ (rest v) (looping (has_call e) (lower l e (first_temporary l)) (λ q. in_order (statement l s nothing_more (d + 1) n q)) d ∷ []) (ys d)
        (does_while l own gives b v c (has_call e) n i d (value_of r v e c) (lower l e (first_temporary l)) (source_statement r s (λ g. source_pure source_normal) v c)
        (λ q. statement l s nothing_more (d + 1) n q) lt (tested v c e typed.0)
        (λ q more. statement_does s (λ xs. Unit {0}) (λ g. source_pure source_normal) nothing_more v c n (d + 1) q more (nothing_follows c _ (d + 1)) typed.1))
        (next v d lt typed.2 n (omega arith))
    statement_does (return place e) after rest ys v c n i d lt next typed = returns v c n i d e typed
    statement_does (break place) after rest ys v c n i d lt next typed = does_break l own gives b v c n i d (d - i + 1) refl
    statement_does (continue place) after rest ys v c n i d lt next typed = does_continue l own gives b v c n i d
    statement_does (throw place e) after rest ys v c n i d lt next typed = exceptions.throws v c n i d e lt typed
    statement_does (try ss hs) after rest ys v c n i d lt next typed =
        does_then l own gives b v c n i d _ (rest v)
        (catch (in_order (statements l ss i n (d + 2))) (clauses l hs i (n + length (all_declared_in ss)) (d + 2)) ∷ []) (ys d)
        (exceptions.tries v c n i d ss hs lt (λ v c n i d lt typed. statements_do ss (Unit {0}) v c n i d lt typed) (handlers_do hs (Unit {0})) typed.0 typed.1) (next v d lt typed.2 n (omega arith))
    statement_does (assign names e) after rest ys v c n i d lt next typed =
        does_assign l own gives b v c fit n i d apart (value_of (source_running l call) v e c) e names (rest v) (ys d) typed.0 (evaluates v c e typed.1)
        (next v d lt typed.2 n (omega arith))
    statement_does (evaluate e) after rest ys v c n i d lt next typed =
        does_next l own gives b v c n i d (value_of (source_running l call) v e c) (λ z. rest v) (dropped l e (first_temporary l)) (ys d)
        (dropped_goes l own b v c fit e (value_of (source_running l call) v e c) (evaluates v c e typed.0)) (λ z. next v d lt typed.1 n (omega arith))
    statement_does (local_int x e) after rest ys v c n i d lt next typed =
        int_declared v c n i d x e typed.0 typed.1 rest (ys d) (λ o. next (with_variable x (whole o) v) d lt (typed.2 (whole o)) (n + 1) (omega arith))
    statement_does (local_ref x names) after rest ys v c n i d lt next typed =
        does_named_reference l own gives b v c fit n i d x names typed.0 typed.1 rest (ys d)
        (λ r. next (with_parameter x.name r v) d lt (subst after (in_reach_behind x.name r v) (typed.2 r)) (n + 1) (omega arith))
    statement_does (local_object k x es) after rest ys v c n i d lt next typed =
        exceptions.objects v c n i d k x es rest ys lt typed.0 typed.1
        (λ o e more. next (with_variable x (whole o) v) e more (typed.2 (whole o)) (n + 1) (omega arith))

    otherwise_does : (t : Else) (any : Type 0) (v : SourceFrame) (c : SourceContext) (n m i d : ℕ) → i < d → n ≤ m → IsTypedElse l own gives t v.variables m
        → DoesAlike l own gives b v c n i d (source_otherwise (source_running l call) t v c) (otherwise l t i m d)
    otherwise_does no_else any v c n m i d lt le typed = does_nothing l own gives b v c fit n i d
    otherwise_does (else_do s) any v c n m i d lt le typed =
        does_later l own gives b v c n m i d (source_statement (source_running l call) s (λ g. source_pure source_normal) v c) (statement l s nothing_more i m d) le typed.0
        (statement_does s (λ xs. Unit {0}) (λ g. source_pure source_normal) nothing_more v c m i d lt (nothing_follows c _ i) typed.1)

    statements_do : (ss : Statements) (any : Type 0) (v : SourceFrame) (c : SourceContext) (n i d : ℕ) → i < d → AreTypedStatements l own gives ss v.variables n
        → DoesAlike l own gives b v c n i d (source_statements (source_running l call) ss v c) (statements l ss i n d)
    statements_do no_statements any v c n i d lt typed = does_nothing l own gives b v c fit n i d
    statements_do (statement_then s ss) any v c n i d lt typed =
        statement_does s (λ xs. AreTypedStatements l own gives ss xs (n + length (declared_in s))) (λ g. source_statements (source_running l call) ss g c)
        (λ e. statements l ss i (n + length (declared_in s)) e) v c n i d lt
        (λ u e more typed q le.
        does_later l own gives b u c q (n + length (declared_in s)) i e (source_statements (source_running l call) ss u c) (statements l ss i (n + length (declared_in s)) e) le
        (typed_bound l own gives ss u.variables (n + length (declared_in s)) typed)
        (statements_do ss (Unit {0}) u c (n + length (declared_in s)) i e more typed)) typed.1

    handlers_do : (hs : Handlers) (any : Type 0) → HandlersDo l own gives call b hs
    handlers_do no_handlers any = tt
    handlers_do (handler_then t x ss place hs) any = (λ v c n i d lt typed. statements_do ss (Unit {0}) v c n i d lt typed, handlers_do hs (Unit {0}))

pub statements_do_alike : StatementsDoAlike
statements_do_alike l own gives call b fit apart same exceptions ss v c n i d lt typed = statements_do l own gives call b fit apart same exceptions ss (Unit {0}) v c n i d lt typed
