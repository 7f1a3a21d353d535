-- Runs of bytes that pass a test, at the start of a text.
use Rattle.std.proofs.Common.{◌≡◌, ℕ, ◌≤◌, Bool, true, false, not, ◌==◌, List, [], ◌∷◌, ◌++◌, length, drop, cond, take_while, refl, ap, ◌∙◌, arith}
use Rattle.std.proofs.lemmas.List.Sums.{take_while-cons}
use Rattle.std.proofs.lemmas.Bool.{eqb-true}
use Rattle.std.specs.List.{list_all}
use Rattle.cxx_ast.specs.Lex.{EndsLine}
use Rattle.cxx_lexer.proofs.ByteTests.{both}

-- the run, as a recursion
abbrev pub run : (ℕ → Bool) → List ℕ → List ℕ
run p [] = []
run p (b ∷ bs) = cond (p b) (b ∷ run p bs) []

pub run_is : (p : ℕ → Bool) (xs : List ℕ) → take_while p xs ≡ run p xs
run_is p [] = refl
run_is p (x ∷ xs) = take_while-cons p x xs ∙ ap (λ ys. cond (p x) (x ∷ ys) []) (run_is p xs)

-- each byte of the run passes
pub run_passes : (p : ℕ → Bool) (xs : List ℕ) → list_all p (run p xs) ≡ true
run_passes p [] = refl
run_passes p (x ∷ xs) = elim (p x) as (λ b. p x ≡ b → list_all p (cond b (x ∷ run p xs) []) ≡ true) [
  | true ↦ λ e. rw e (run_passes p xs)
  | false ↦ λ e. refl
] refl

-- the text is the run and what stands behind it
pub run_splits : (p : ℕ → Bool) (xs : List ℕ) → xs ≡ run p xs ++ drop (length (run p xs)) xs
run_splits p [] = refl
run_splits p (x ∷ xs) = elim (p x) as (λ b. x ∷ xs ≡ cond b (x ∷ run p xs) [] ++ drop (length (cond b (x ∷ run p xs) [])) (x ∷ xs)) [
  | true ↦ ap (λ (ys : List ℕ). x ∷ ys) (run_splits p xs)
  | false ↦ refl
]

-- no start of the text of which each byte passes is longer
pub run_longest : (p : ℕ → Bool) (more others : List ℕ) → list_all p more ≡ true → length more ≤ length (run p (more ++ others))
run_longest p [] others all = omega arith
run_longest p (x ∷ more) others all =
    let parts = both (p x) (list_all p more) all in
    let later : length more ≤ length (run p (more ++ others)) = run_longest p more others parts.1 in
    rw parts.0 (omega (arith, later))

abbrev pub before_line_feed : ℕ → Bool
before_line_feed b = not (b == 10)

-- behind the run up to a line feed the line ends
pub line_ends : (xs : List ℕ) → EndsLine (drop (length (run before_line_feed xs)) xs)
line_ends [] = tt
line_ends (x ∷ xs) = elim (x == 10) as (λ b. (x == 10) ≡ b → EndsLine (drop (length (cond (not b) (x ∷ run before_line_feed xs) [])) (x ∷ xs))) [
  | true ↦ λ e. eqb-true x 10 e
  | false ↦ λ e. line_ends xs
] refl
