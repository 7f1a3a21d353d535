-- The clauses of handlers one after the other.
use Rattle.std.proofs.Common.{◌≡◌, ◌∙◌, ◌≤◌, ℕ, ◌+◌, List, [], ◌∷◌, ◌++◌, length, Option, Some, None, refl, ap, sym, arith}
use Rattle.std.proofs.lemmas.List.{length-append}
use Rattle.std.specs.Prelude.{option_map}
use Rattle.cxx_ast.specs.declared.types.Ty.{Ty}
use Rattle.cxx_ast.specs.declared.name.Name.{Name}
use Rattle.cxx_ast.specs.Plain.{Statements, Handlers, handler_then}
use Rattle.region_forms.specs.Form.{Clauses, no_clauses, clause_then}
use Rattle.region_forms.specs.LowerExpression.{Lowering, exception_slot}
use Rattle.region_forms.specs.LowerStatement.{clause_type, clauses}
use Rattle.region_forms.specs.Numbering.{all_declared_in, declared_in_handlers}
use Rattle.region_ir.specs.declared.region.Clause.{Clause}
use Rattle.region_ir.specs.Standing.{handler_in}
use Rattle.region_ir.specs.Variables.{declared_by}
use Rattle.region_ir.specs.View.{clauses_of, region_of}
use Rattle.region_ir.proofs.Declared.{one_caught}
use Rattle.region_ir.proofs.Weight.{weight_all, weight_handlers}

-- clauses, then others
abbrev pub clauses_then : List Clause → Clauses → Clauses
clauses_then [] others = others
clauses_then (c ∷ cs) others = clause_then c.ty c.object (region_of c.body) (clauses_then cs others)

-- one clause more
pub one_clause : (cs : List Clause) (c : Clause) (others : Clauses) → clauses_then (cs ++ c ∷ []) others ≡ clauses_then cs (clause_then c.ty c.object (region_of c.body) others)
one_clause [] c others = refl
one_clause (b ∷ cs) c others = ap (clause_then b.ty b.object (region_of b.body)) (one_clause cs c others)

-- no others
pub all_clauses : (cs : List Clause) → clauses_then cs no_clauses ≡ clauses_of cs
all_clauses [] = refl
all_clauses (c ∷ cs) = ap (clause_then c.ty c.object (region_of c.body)) (all_clauses cs)

-- the clause of the first handler, then those of the others
pub first_clause : (l : Lowering) (t : Option Ty) (x : Option Name) (ss : Statements) (place : ℕ) (hs : Handlers) (i n m d : ℕ) →
    m ≡ n + length (declared_by t) + length (all_declared_in ss) →
    clauses l (handler_then t x ss place hs) i n d ≡ clause_then (option_map clause_type t) (exception_slot l) (handler_in l t ss i n d) (clauses l hs i m d)
first_clause l None x ss place hs i n m d e =
    let same : n + length (all_declared_in ss) ≡ m = omega (arith, e) in
    ap (λ k. clause_then None (exception_slot l) (handler_in l None ss i n d) (clauses l hs i k d)) same
first_clause l (Some t) x ss place hs i n m d e =
    let same : n + 1 + length (all_declared_in ss) ≡ m = omega (arith, e) in
    ap (λ k. clause_then (Some (clause_type t)) (exception_slot l) (handler_in l (Some t) ss i n d) (clauses l hs i k d)) same

-- one handler more has its clause, and the others are left
pub more_clauses : (l : Lowering) (t : Option Ty) (x : Option Name) (ss : Statements) (place : ℕ) (others left : Handlers) (i n m d : ℕ) (old now : List Clause) (c : Clause)
    (total : Clauses) → left ≡ handler_then t x ss place others → now ≡ old ++ c ∷ [] → c.ty ≡ option_map clause_type t → c.object ≡ exception_slot l →
    region_of c.body ≡ handler_in l t ss i n d → m ≡ n + length (declared_by t) + length (all_declared_in ss) →
    clauses_then old (clauses l left i n d) ≡ total → clauses_then now (clauses l others i m d) ≡ total
more_clauses l t x ss place others left i n m d old now c total a e f g h j before =
    let rest = clauses l others i m d in
    ap (λ cs. clauses_then cs rest) e ∙ (one_clause old c rest
    ∙ (ap (λ y. clauses_then old (clause_then y c.object (region_of c.body) rest)) f
    ∙ (ap (λ o. clauses_then old (clause_then (option_map clause_type t) o (region_of c.body) rest)) g
    ∙ (ap (λ r. clauses_then old (clause_then (option_map clause_type t) (exception_slot l) r rest)) h
    ∙ (ap (clauses_then old) (sym (first_clause l t x ss place others i n m d j))
    ∙ (ap (λ hs. clauses_then old (clauses l hs i n d)) (sym a) ∙ before))))))

-- the variables of a handler, then those of the others
pub more_variables : (t : Option Ty) (x : Option Name) (ss : Statements) (place : ℕ) (others left : Handlers) (n m total : ℕ) → left ≡ handler_then t x ss place others →
    m ≡ n + length (declared_by t) + length (all_declared_in ss) → n + length (declared_in_handlers left) ≡ total → m + length (declared_in_handlers others) ≡ total
more_variables t x ss place others left n m total a j before =
    let split : length (declared_in_handlers left) ≡ length ((declared_by t ++ all_declared_in ss) ++ declared_in_handlers others) =
    ap (λ hs. length (declared_in_handlers hs)) a ∙ ap length (one_caught t x ss place others) in
    let whole = length-append (declared_by t ++ all_declared_in ss) (declared_in_handlers others) in
    let first = length-append (declared_by t) (all_declared_in ss) in
    omega (arith, j, split, whole, first, before)

-- the handlers behind one hold less
pub fewer_handlers : (t : Option Ty) (x : Option Name) (ss : Statements) (place : ℕ) (others left : Handlers) (total : ℕ) → left ≡ handler_then t x ss place others →
    weight_handlers left ≤ total → weight_handlers others ≤ total
fewer_handlers t x ss place others left total a before =
    let split : weight_handlers left ≡ weight_all ss + weight_handlers others + 8 = ap weight_handlers a in
    omega (arith, split, before)
