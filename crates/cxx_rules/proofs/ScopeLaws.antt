-- The scope behind statements is the scope before them, but for the variables of the innermost and for how many there are.
use Rattle.std.proofs.Common.{◌≡◌, ◌≤◌, ℕ, ◌+◌, Bool, true, false, List, [], ◌∷◌, ◌++◌, Some, None, Option, refl, ap, ◌∙◌, length, take, if◌then◌else◌, arith}
use Rattle.std.proofs.lemmas.List.{length-append}
use Rattle.cxx_ast.specs.declared.name.Name.{Name}
use Rattle.cxx_ast.specs.declared.types.Ty.{Ty}
use Rattle.cxx_ast.specs.declared.types.Param.{Param}
use Rattle.cxx_ast.specs.Plain.{Statement, block, empty, if_else, while, return, break, continue, throw, try, assign, evaluate, local_int, local_ref, local_object, Statements, no_statements, statement_then}
use Rattle.cxx_ast.specs.Environment.{Kind, Environment, Variable, Scope}
use Rattle.cxx_ast.specs.Locals.{declare, declare_param, with_variable, has_variable, inner, after, locals_in, locals_of, scope_behind, handler_scope, caught_count}
use Rattle.cxx_rules.specs.ScopeOf.{others, closed}
use Rattle.cxx_rules.specs.Walk.{scope_after, first_length, first_taken, rewound}

-- so many variables more, in the innermost scope alone
pub record Within (sc new : Scope) (count : ℕ) : Type 0 where
  pub rows : others new.locals ≡ others sc.locals
  pub kept : first_taken (first_length sc.locals) new.locals ≡ sc.locals
  pub longer : first_length sc.locals ≤ first_length new.locals
  pub next : new.next ≡ sc.next + count
  pub own : new.own ≡ sc.own
  pub limit : new.limit ≡ sc.limit
  pub gives_value : new.gives_value ≡ sc.gives_value
  pub in_loop : new.in_loop ≡ sc.in_loop

rows_by : (v : Variable) (row : List Variable) (rows : List (List Variable)) (b : Bool) →
    others (if b then row ∷ rows else (row ++ v ∷ []) ∷ rows) ≡ rows
rows_by v row rows true = refl
rows_by v row rows false = refl

rows_kept : (v : Variable) (rows : List (List Variable)) → others (with_variable v rows) ≡ others rows
rows_kept v [] = refl
rows_kept v (row ∷ rows) = rows_by v row rows (has_variable v.text row)

take_whole : (row : List Variable) → take (length row) row ≡ row
take_whole [] = refl
take_whole (v ∷ row) = ap (λ xs. v ∷ xs) (take_whole row)

taken_all : (rows : List (List Variable)) → first_taken (first_length rows) rows ≡ rows
taken_all [] = refl
taken_all (row ∷ rows) = ap (λ xs. xs ∷ rows) (take_whole row)

taken_push : (v : Variable) (row : List Variable) → take (length row) (row ++ v ∷ []) ≡ row
taken_push v [] = refl
taken_push v (w ∷ row) = ap (λ xs. w ∷ xs) (taken_push v row)

taken_by : (v : Variable) (row : List Variable) (rows : List (List Variable)) (b : Bool) →
    first_taken (length row) (if b then row ∷ rows else (row ++ v ∷ []) ∷ rows) ≡ row ∷ rows
taken_by v row rows true = ap (λ xs. xs ∷ rows) (take_whole row)
taken_by v row rows false = ap (λ xs. xs ∷ rows) (taken_push v row)

first_kept : (v : Variable) (rows : List (List Variable)) → first_taken (first_length rows) (with_variable v rows) ≡ rows
first_kept v [] = refl
first_kept v (row ∷ rows) = taken_by v row rows (has_variable v.text row)

longer_by : (v : Variable) (row : List Variable) (rows : List (List Variable)) (b : Bool) →
    length row ≤ first_length (if b then row ∷ rows else (row ++ v ∷ []) ∷ rows)
longer_by v row rows true = omega arith
longer_by v row rows false = omega (arith, length-append row (v ∷ []))

first_longer : (v : Variable) (rows : List (List Variable)) → first_length rows ≤ first_length (with_variable v rows)
first_longer v [] = omega arith
first_longer v (row ∷ rows) = longer_by v row rows (has_variable v.text row)

declare_within : (n : Name) (kind : Kind) (const : Bool) (sc : Scope) → Within sc (declare n kind const sc) 1
declare_within n kind const sc =
    let v : Variable = record { text = n.text; kind = kind; is_const = const; number = sc.next } in
    record {
      rows = rows_kept v sc.locals;
      kept = first_kept v sc.locals;
      longer = first_longer v sc.locals;
      next = refl;
      own = refl;
      limit = refl;
      gives_value = refl;
      in_loop = refl;
    }

after_within : (count : ℕ) (sc : Scope) → Within sc (after count sc) count
after_within count sc = record {
  rows = refl;
  kept = taken_all sc.locals;
  longer = omega arith;
  next = refl;
  own = refl;
  limit = refl;
  gives_value = refl;
  in_loop = refl;
}

nothing_within : (sc : Scope) → Within sc sc 0
nothing_within sc = record {
  rows = refl;
  kept = taken_all sc.locals;
  longer = omega arith;
  next = omega arith;
  own = refl;
  limit = refl;
  gives_value = refl;
  in_loop = refl;
}

param_within : (env : Environment) (p : Param) (name : Option Name) (sc : Scope) → Within sc (declare_param env (record p { name = name }) sc) 1
param_within env p None sc = after_within 1 sc
param_within env p (Some n) sc = declare_within n _ _ sc

pub behind_within : (env : Environment) (sc : Scope) (s : Statement) → Within sc (scope_behind env sc s) (locals_in s)
behind_within env sc (local_int n e) = declare_within n _ _ sc
behind_within env sc (local_ref p names) = param_within env p p.name sc
behind_within env sc (local_object c n es) = declare_within n _ _ sc
behind_within env sc (block ss) = after_within (locals_in (block ss)) sc
behind_within env sc empty = after_within 0 sc
behind_within env sc (if_else e s other) = after_within (locals_in (if_else e s other)) sc
behind_within env sc (while e s) = after_within (locals_in (while e s)) sc
behind_within env sc (return place e) = after_within 0 sc
behind_within env sc (break place) = after_within 0 sc
behind_within env sc (continue place) = after_within 0 sc
behind_within env sc (throw place e) = after_within 0 sc
behind_within env sc (try ss hs) = after_within (locals_in (try ss hs)) sc
behind_within env sc (assign names e) = after_within 0 sc
behind_within env sc (evaluate e) = after_within 0 sc

-- the rows alone round the innermost, and what else a scope says
pub record Round (sc new : Scope) (count : ℕ) : Type 0 where
  pub rows : others new.locals ≡ others sc.locals
  pub next : new.next ≡ sc.next + count
  pub own : new.own ≡ sc.own
  pub limit : new.limit ≡ sc.limit
  pub gives_value : new.gives_value ≡ sc.gives_value
  pub in_loop : new.in_loop ≡ sc.in_loop

pub after_round : (env : Environment) (sc : Scope) (ss : Statements) → Round sc (scope_after env sc ss) (locals_of ss)
after_round env sc no_statements = record { rows = refl; next = omega arith; own = refl; limit = refl; gives_value = refl; in_loop = refl }
after_round env sc (statement_then s ss) =
    let w = behind_within env sc s in
    let r = after_round env (scope_behind env sc s) ss in
    record {
      rows = r.rows ∙ w.rows;
      next = omega (arith, r.next, w.next);
      own = r.own ∙ w.own;
      limit = r.limit ∙ w.limit;
      gives_value = r.gives_value ∙ w.gives_value;
      in_loop = r.in_loop ∙ w.in_loop;
    }

closed_by : (sc new : Scope) (count : ℕ) → Round (inner sc) new count → closed new ≡ after count sc
closed_by sc new count r =
    let a = r.rows in let b = r.next in let d = r.own in let e = r.limit in let f = r.gives_value in let g = r.in_loop in cc

-- a block is left
pub block_left : (env : Environment) (sc : Scope) (ss : Statements) → closed (scope_after env (inner sc) ss) ≡ after (locals_of ss) sc
block_left env sc ss = closed_by sc (scope_after env (inner sc) ss) (locals_of ss) (after_round env (inner sc) ss)

rewound_by : (sc new : Scope) (count : ℕ) → Within sc new count → rewound (first_length sc.locals) new ≡ after count sc
rewound_by sc new count w =
    let a = w.kept in let b = w.next in let d = w.own in let e = w.limit in let f = w.gives_value in let g = w.in_loop in cc

-- a statement that is no block is left
pub statement_left : (env : Environment) (sc : Scope) (s : Statement) → rewound (first_length sc.locals) (scope_behind env sc s) ≡ after (locals_in s) sc
statement_left env sc s = rewound_by sc (scope_behind env sc s) (locals_in s) (behind_within env sc s)

within_round : (sc mid new : Scope) (a b : ℕ) → Within sc mid a → Round mid new b → Round sc new (a + b)
within_round sc mid new a b w r = record {
  rows = r.rows ∙ w.rows;
  next = omega (arith, r.next, w.next);
  own = r.own ∙ w.own;
  limit = r.limit ∙ w.limit;
  gives_value = r.gives_value ∙ w.gives_value;
  in_loop = r.in_loop ∙ w.in_loop;
}

handler_within : (env : Environment) (ty : Option Ty) (n : Option Name) (sc : Scope) → Within (inner sc) (handler_scope env ty n sc) (caught_count ty)
handler_within env None n sc = nothing_within (inner sc)
handler_within env (Some ty) n sc = param_within env (record { ty = ty; name = n }) n (inner sc)

-- a handler is left
pub handler_left : (env : Environment) (ty : Option Ty) (n : Option Name) (sc : Scope) (ss : Statements) →
    closed (scope_after env (handler_scope env ty n sc) ss) ≡ after (caught_count ty + locals_of ss) sc
handler_left env ty n sc ss =
    closed_by sc (scope_after env (handler_scope env ty n sc) ss) (caught_count ty + locals_of ss)
    (within_round (inner sc) (handler_scope env ty n sc) (scope_after env (handler_scope env ty n sc) ss) (caught_count ty) (locals_of ss)
    (handler_within env ty n sc) (after_round env (handler_scope env ty n sc) ss))
