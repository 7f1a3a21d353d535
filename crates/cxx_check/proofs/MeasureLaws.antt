-- Measures part by part.
use Rattle.std.proofs.lemmas.Bool.Decides.{nat_tests}
use Rattle.std.proofs.Common.{◌≡◌, ◌≤◌, nat_lt, ℕ, ◌+◌, ◌*◌, ◌/◌, add-zero, min, max, List, [], ◌∷◌, refl, ap, ◌∙◌, sym, arith}
use Rattle.cxx_ast.specs.Environment.{Environment}
use Rattle.cxx_ast.specs.Plain.{Expressions, no_expressions, expression_then, Statements, no_statements, statement_then, Handlers, no_handlers, handler_then, Initialiser}
use Rattle.cxx_ast.specs.Sizes.{Most, nothing, most_in, most_of, more_of, caught_bytes, statement_bytes, statements_bytes, handlers_bytes, statement_most, statements_most, handlers_most, initialisers_most}
use Rattle.cxx_check.specs.declared.measure.Measure.{Measure}
use Rattle.cxx_check.specs.Measured.{capped, both_of, round_of, operator_of, with_argument, arguments_behind, statements_behind, handlers_behind, initialisers_behind}

measure_of : ℕ → ℕ → ℕ → Measure
measure_of a b c = record { bytes = a; levels = b; arguments = c }

pub same_measure : (a b c x y z : ℕ) → a ≡ x → b ≡ y → c ≡ z → (let m : Measure = record { bytes = a; levels = b; arguments = c } in let n : Measure = record { bytes = x; levels = y; arguments = z } in m ≡ n)
same_measure a b c x y z e f g = cc

-- arguments that were measured, and others behind them
so_far : (a : Measure) (es : Expressions) → a.bytes ≡ 0 → a.levels ≤ 1537 → a.arguments ≤ 1537 →
    arguments_behind a es ≡ record { bytes = 0; levels = max a.levels (min (most_of es).levels 1537); arguments = min (a.arguments + (most_of es).arguments) 1537 }
unfolding capped with_argument
so_far a no_expressions z b c = same_measure a.bytes a.levels a.arguments _ _ _ z (omega arith) (omega arith)
so_far a (expression_then e es) z b c =
    so_far (with_argument a (capped 0 (most_in e))) es refl (omega arith) (omega arith)
    ∙ same_measure _ _ _ _ _ _ refl (omega arith) (omega arith)

pub arguments_behind_is : (es : Expressions) → arguments_behind (capped 0 nothing) es ≡ capped 0 (most_of es)
unfolding capped
arguments_behind_is es = so_far (capped 0 nothing) es refl (omega arith) (omega arith) ∙ same_measure _ _ _ _ _ _ refl (omega arith) (omega arith)

-- two parts side by side
pub both_capped : (b c : ℕ) (m n : Most) → both_of (capped b m) (capped c n) ≡ capped (b + c) (more_of m n)
unfolding capped both_of
both_capped b c m n = same_measure _ _ _ _ _ _ (omega arith) (omega arith) (omega arith)

pub capped_same : (b c : ℕ) (m : Most) → min b 1537 ≡ min c 1537 → capped b m ≡ capped c m
unfolding capped
capped_same b c m e = same_measure _ _ _ _ _ _ e refl refl

both_assoc : (a b c : Measure) → both_of (both_of a b) c ≡ both_of a (both_of b c)
unfolding both_of
both_assoc a b c = same_measure _ _ _ _ _ _ (omega arith) (omega arith) (omega arith)

-- a measure in which nothing is counted beyond the limit
abbrev IsCapped : Measure → Type 0
IsCapped a = both_of a (capped 0 nothing) ≡ a

both_is_capped : (a : Measure) (b : ℕ) (m : Most) → IsCapped (both_of a (capped b m))
unfolding capped both_of
both_is_capped a b m = same_measure _ _ _ _ _ _ (omega arith) (omega arith) (omega arith)

more : (a : Measure) (b c : ℕ) (m n : Most) → both_of (both_of a (capped b m)) (capped c n) ≡ both_of a (capped (b + c) (more_of m n))
more a b c m n = both_assoc a (capped b m) (capped c n) ∙ ap (both_of a) (both_capped b c m n)

statements_so_far : (env : Environment) (a : Measure) (ss : Statements) → IsCapped a →
    statements_behind env a ss ≡ both_of a (capped (statements_bytes env ss) (statements_most ss))
statements_so_far env a no_statements h = sym h
statements_so_far env a (statement_then s ss) h =
    statements_so_far env (both_of a (capped (statement_bytes env s) (statement_most s))) ss (both_is_capped a (statement_bytes env s) (statement_most s))
    ∙ more a (statement_bytes env s) (statements_bytes env ss) (statement_most s) (statements_most ss)

zero_both : (b : ℕ) (m : Most) → both_of (capped 0 nothing) (capped b m) ≡ capped b m
unfolding capped both_of
zero_both b m = same_measure _ _ _ _ _ _ (omega arith) (omega arith) (omega arith)

zero_capped : IsCapped (capped 0 nothing)
unfolding capped both_of
zero_capped = refl

pub statements_behind_is : (env : Environment) (ss : Statements) →
    statements_behind env (capped 0 nothing) ss ≡ capped (statements_bytes env ss) (statements_most ss)
statements_behind_is env ss = statements_so_far env (capped 0 nothing) ss zero_capped ∙ zero_both (statements_bytes env ss) (statements_most ss)

handlers_so_far : (env : Environment) (a : Measure) (hs : Handlers) → IsCapped a →
    handlers_behind env a hs ≡ both_of a (capped (handlers_bytes env hs) (handlers_most hs))
handlers_so_far env a no_handlers h = sym h
handlers_so_far env a (handler_then ty n ss place hs) h =
    handlers_so_far env (both_of a (capped (caught_bytes env ty + statements_bytes env ss) (statements_most ss))) hs
    (both_is_capped a (caught_bytes env ty + statements_bytes env ss) (statements_most ss))
    ∙ more a (caught_bytes env ty + statements_bytes env ss) (handlers_bytes env hs) (statements_most ss) (handlers_most hs)

pub handlers_behind_is : (env : Environment) (hs : Handlers) →
    handlers_behind env (capped 0 nothing) hs ≡ capped (handlers_bytes env hs) (handlers_most hs)
handlers_behind_is env hs = handlers_so_far env (capped 0 nothing) hs zero_capped ∙ zero_both (handlers_bytes env hs) (handlers_most hs)

initialisers_so_far : (a : Measure) (is : List Initialiser) → IsCapped a → initialisers_behind a is ≡ both_of a (capped 0 (initialisers_most is))
initialisers_so_far a [] h = sym h
initialisers_so_far a (i ∷ is) h =
    initialisers_so_far (both_of a (capped 0 (most_of i.arguments))) is (both_is_capped a 0 (most_of i.arguments))
    ∙ more a 0 0 (most_of i.arguments) (initialisers_most is)

pub initialisers_behind_is : (is : List Initialiser) → initialisers_behind (capped 0 nothing) is ≡ capped 0 (initialisers_most is)
initialisers_behind_is is = initialisers_so_far (capped 0 nothing) is zero_capped ∙ zero_both 0 (initialisers_most is)

pub ruleset measured = (statements_behind_is, handlers_behind_is, initialisers_behind_is)

pub round_capped : (m : Most) → round_of (capped 0 m) ≡ capped 0 (record { levels = m.levels + 1; arguments = m.arguments })
unfolding capped round_of
round_capped m = same_measure _ _ _ _ _ _ refl (omega arith) refl

pub operator_capped : (m n : Most) → operator_of (capped 0 m) (capped 0 n) ≡ capped 0 (record { levels = max m.levels n.levels + 1; arguments = m.arguments + n.arguments })
unfolding capped operator_of
operator_capped m n = same_measure _ _ _ _ _ _ refl (omega arith) (omega arith)

same_most : (a b x y : ℕ) → a ≡ x → b ≡ y → (let m : Most = record { levels = a; arguments = b } in let n : Most = record { levels = x; arguments = y } in m ≡ n)
same_most a b x y e f = cc

more_nothing : (m : Most) → more_of m nothing ≡ m
more_nothing m = same_most _ _ _ _ (omega arith) (omega arith)

nothing_more : (m : Most) → more_of nothing m ≡ m
nothing_more m = same_most _ _ _ _ (omega arith) (omega arith)

-- an expression before other parts
pub expression_both : (b : ℕ) (m n : Most) → both_of (capped 0 m) (capped b n) ≡ capped b (more_of m n)
expression_both b m n = both_capped 0 b m n ∙ ap (λ x. capped x (more_of m n)) (omega arith)

-- a variable before its expression
pub bytes_both : (b : ℕ) (m : Most) → both_of (capped b nothing) (capped 0 m) ≡ capped b m
bytes_both b m = both_capped b 0 nothing m ∙ ap (λ x. capped x (more_of nothing m)) (add-zero b) ∙ ap (capped b) (nothing_more m)

-- an `if` without `else`
pub if_both : (b : ℕ) (m n : Most) → both_of (capped 0 m) (capped b n) ≡ capped (b + 0) (more_of m (more_of n nothing))
if_both b m n = expression_both b m n ∙ ap (λ x. capped x (more_of m n)) (sym (add-zero b)) ∙ ap (λ x. capped (b + 0) (more_of m x)) (sym (more_nothing n))

more_assoc : (l m n : Most) → more_of (more_of l m) n ≡ more_of l (more_of m n)
more_assoc l m n = same_most _ _ _ _ (omega arith) (omega arith)

-- an `if` with its `else`
pub else_both : (b c : ℕ) (l m n : Most) → both_of (both_of (capped 0 l) (capped b m)) (capped c n) ≡ capped (b + c) (more_of l (more_of m n))
else_both b c l m n =
    ap (λ x. both_of x (capped c n)) (expression_both b l m) ∙ both_capped b c (more_of l m) n ∙ ap (capped (b + c)) (more_assoc l m n)

pub ruleset measures = (both_capped, round_capped, operator_capped)

pub ruleset statements = (both_capped, expression_both, bytes_both, if_both, else_both)

-- a handler
pub handler_both : (b c : ℕ) (m : Most) → both_of (capped b nothing) (capped c m) ≡ capped (b + c) m
handler_both b c m = both_capped b c nothing m ∙ ap (capped (b + c)) (nothing_more m)

-- an object by the size of its class, which is counted up to the limit
pub object_capped : (size : ℕ) (m : Most) → capped ((min size 1537 + 7) / 8 * 8) m ≡ capped ((size + 7) / 8 * 8) m
unfolding capped
object_capped size m = same_measure _ _ _ _ _ _ (omega arith) refl refl

too_many : (p b l a : ℕ) → nat_lt 1536 (8 * min p 1537 + min b 1537 + 8 * min l 1537 + 8 * min a 1537) ≡ nat_lt 1536 (8 * p + b + 8 * l + 8 * a)
too_many p b l a = grind (arith, nat_tests)

-- the bytes of a function's variables by its measure
pub too_large : (p n b l a bytes : ℕ) (m : Most) (r : Measure) → r ≡ capped bytes m → n ≡ min p 1537 → b ≡ r.bytes → l ≡ r.levels → a ≡ r.arguments →
    nat_lt 1536 (8 * n + b + 8 * l + 8 * a) ≡ nat_lt 1536 (8 * p + bytes + 8 * m.levels + 8 * m.arguments)
unfolding capped
too_large p n b l a bytes m r e f g h i =
    let x : b ≡ min bytes 1537 = g ∙ ap (λ r. r.bytes) e in
    let y : l ≡ min m.levels 1537 = h ∙ ap (λ r. r.levels) e in
    let z : a ≡ min m.arguments 1537 = i ∙ ap (λ r. r.arguments) e in
    ap (λ n. nat_lt 1536 (8 * n + b + 8 * l + 8 * a)) f ∙ ap (λ b. nat_lt 1536 (8 * min p 1537 + b + 8 * l + 8 * a)) x
    ∙ ap (λ l. nat_lt 1536 (8 * min p 1537 + min bytes 1537 + 8 * l + 8 * a)) y
    ∙ ap (λ a. nat_lt 1536 (8 * min p 1537 + min bytes 1537 + 8 * min m.levels 1537 + 8 * a)) z
    ∙ too_many p bytes m.levels m.arguments
