-- Statements one after the other, and the regions of each.
use Rattle.std.proofs.Common.{◌≡◌, ◌∙◌, ◌≤◌, ℕ, ◌+◌, false, List, [], ◌++◌, length, refl, ap, sym, arith}
use Rattle.std.proofs.lemmas.List.{append-nil, append_assoc, length-append}
use Rattle.cxx_ast.specs.Plain.{Statement, block, empty, if_else, while, return, break, continue, throw, try, assign, evaluate, local_int, local_ref, local_object, Statements, statement_then}
use Rattle.cxx_ast.specs.declared.name.Name.{Name}
use Rattle.cxx_ast.specs.declared.statement.Stmt.{Stmt, Block', Empty, If', While', Return, Break, Continue, Throw, Try', Assign, Call, LocalInt, LocalRef, LocalObject}
use Rattle.cxx_ast.specs.View.{statement_of}
use Rattle.region_forms.specs.Form.{Region, branch, in_order}
use Rattle.region_forms.specs.LowerExpression.{Lowering, dropped, first_temporary, lower, lower_store, place_of}
use Rattle.region_forms.specs.LowerStatement.{bound_to, initialised, nothing_more, otherwise, statement, statements, with_value}
use Rattle.region_forms.specs.Numbering.{declared_in, all_declared_in}
use Rattle.region_ir.specs.Standing.{leaves, opens}
use Rattle.region_ir.proofs.Weight.{weight, weight_all}

-- some regions, then others
followed : (xs rest : List Region) → xs ++ rest ≡ (xs ++ []) ++ rest
followed xs rest = ap (λ ys. ys ++ rest) (sym (append-nil xs))

-- behind any other that declares no object the rest of its block stands
pub goes_on : (l : Lowering) (s : Statement) (ss : Statements) (i n d : ℕ) → leaves s ≡ false → opens s ≡ false →
    statements l (statement_then s ss) i n d ≡ statement l s nothing_more i n d ++ statements l ss i (n + length (declared_in s)) d
goes_on l (block ts) ss i n d e f = refl
goes_on l empty ss i n d e f = refl
goes_on l (if_else t s u) ss i n d e f =
    followed (with_value (lower l t (first_temporary l)) (λ v. branch v (in_order (statement l s nothing_more i n (d + 2))) (in_order (otherwise l u i (n + length (declared_in s)) (d + 2)))))
    (statements l ss i (n + length (declared_in (if_else t s u))) d)
goes_on l (while t s) ss i n d e f = refl
goes_on l (return place t) ss i n d e f = absurd (cc e)
goes_on l (break place) ss i n d e f = absurd (cc e)
goes_on l (continue place) ss i n d e f = absurd (cc e)
goes_on l (throw place t) ss i n d e f = absurd (cc e)
goes_on l (try ts hs) ss i n d e f = refl
goes_on l (assign names t) ss i n d e f =
    followed (lower_store l t (place_of l names) (first_temporary l)) (statements l ss i (n + length (declared_in (assign names t))) d)
goes_on l (evaluate t) ss i n d e f = followed (dropped l t (first_temporary l)) (statements l ss i (n + length (declared_in (evaluate t))) d)
goes_on l (local_int x t) ss i n d e f = followed (initialised l x t) (statements l ss i (n + length (declared_in (local_int x t))) d)
goes_on l (local_ref x names) ss i n d e f =
    followed (bound_to l x.name (place_of l names)) (statements l ss i (n + length (declared_in (local_ref x names))) d)
goes_on l (local_object k x es) ss i n d e f = absurd (cc f)

-- a statement is lowered, and the rest of its block is left
pub stepped : (l : Lowering) (s : Statement) (ss rest : Statements) (i n m d : ℕ) (start old now : List Region) → rest ≡ statement_then s ss → leaves s ≡ false → opens s ≡ false →
    now ≡ old ++ statement l s nothing_more i n d → m ≡ n + length (declared_in s) → old ++ statements l rest i n d ≡ start → now ++ statements l ss i m d ≡ start
stepped l s ss rest i n m d start old now r e f h g before =
    let st = statement l s nothing_more i n d in
    ap (λ rs. rs ++ statements l ss i m d) h ∙ (append_assoc old st (statements l ss i m d)
    ∙ (ap (λ k. old ++ (st ++ statements l ss i k d)) g ∙ (ap (λ rs. old ++ rs) (sym (goes_on l s ss i n d e f))
    ∙ (ap (λ ts. old ++ statements l ts i n d) (sym r) ∙ before))))

-- the variables of a statement, then those of the rest
pub counted : (s : Statement) (ss rest : Statements) (n m total : ℕ) → rest ≡ statement_then s ss → m ≡ n + length (declared_in s) →
    n + length (all_declared_in rest) ≡ total → m + length (all_declared_in ss) ≡ total
counted s ss rest n m total r g before =
    let split : length (all_declared_in rest) ≡ length (declared_in s) + length (all_declared_in ss) =
    ap (λ ts. length (all_declared_in ts)) r ∙ length-append (declared_in s) (all_declared_in ss) in
    omega (arith, g, split, before)

-- what is behind a statement holds less
pub fewer_statements : (s : Statement) (ss rest : Statements) (total : ℕ) → rest ≡ statement_then s ss → weight_all rest ≤ total → weight_all ss ≤ total
fewer_statements s ss rest total r before =
    let split : weight_all rest ≡ weight s + weight_all ss + 8 = ap weight_all r in
    omega (arith, split, before)

-- a statement in memory that is no object's declaration
pub not_opened : (s : Stmt) → ((k x : Name) (es : _) → s ≡ LocalObject k x es → ⊥) → opens (statement_of s) ≡ false
not_opened (Block' shape row) h = refl
not_opened Empty h = refl
not_opened (If' e p a b) h = refl
not_opened (While' e p s) h = refl
not_opened (Return place e) h = refl
not_opened (Break place) h = refl
not_opened (Continue place) h = refl
not_opened (Throw place e) h = refl
not_opened (Try' shape row handlers_shape handlers_row) h = refl
not_opened (Assign l e) h = refl
not_opened (Call e) h = refl
not_opened (LocalInt n e) h = refl
not_opened (LocalRef p l) h = refl
not_opened (LocalObject c n arguments) h = absurd (h c n arguments refl)

-- regions behind others, with nothing behind them
pub alone : (old now more : List Region) → now ≡ old ++ more → now ≡ old ++ (more ++ [])
alone old now more e = e ∙ ap (λ rs. old ++ rs) (sym (append-nil more))

-- the variables of two sides
pub both_counted : (s t : Statement) (n m k : ℕ) → m ≡ n + length (declared_in s) → k ≡ m + length (declared_in t) → k ≡ n + length (declared_in s ++ declared_in t)
both_counted s t n m k e f = omega (arith, e, f, length-append (declared_in s) (declared_in t))
