-- Sums of numbers, digit by digit.
use Rattle.std.proofs.Common.{◌≡◌, ◌≤◌, ℕ, zero, suc, ◌+◌, ◌*◌, ◌/◌, ◌%◌, ◌==◌, Bool, true, false, List, [], ◌∷◌, ◌++◌, drop, length, slice_index, refl, ap, ◌∙◌, sym, arith, add-zero, append_assoc}
use Rattle.std.proofs.lemmas.List.{get_or-drop, drop-drop}
use Rattle.std.proofs.lemmas.Bool.Decides.{nat_tests}
use Rattle.cxx_rules.specs.SizeOf.{number_of, digit_sum, added}

split : (ds : List ℕ) → number_of ds ≡ slice_index ds 0 + 4294967296 * number_of (drop 1 ds)
split [] = refl
split (d ∷ ds) = refl

shorter : (n : ℕ) (ds : List ℕ) → length ds ≤ suc n → length (drop 1 ds) ≤ n
shorter n [] h = omega arith
shorter n (d ∷ ds) h = omega arith

ended : (ds : List ℕ) → length ds ≤ 0 → number_of ds ≡ 0
ended [] h = refl
ended (d ∷ ds) h = absurd (omega arith)

last : (c : ℕ) (b : Bool) → (c == 0) ≡ b → number_of (added zero c [] []) ≡ c
last c true e = rw e (grind (arith, nat_tests))
last c false e = rw e (omega arith)

pub added_is : (n c : ℕ) (a b : List ℕ) → length a ≤ n → length b ≤ n → number_of (added n c a b) ≡ c + number_of a + number_of b
added_is zero c a b h k = omega (arith, ended a h, ended b k, last c (c == 0) refl)
added_is (suc n) c a b h k =
    omega (arith, split a, split b, added_is n (digit_sum c a b / 4294967296) (drop 1 a) (drop 1 b) (shorter n a h) (shorter n b k))

-- one digit more
pub digit_more : (left c i s : ℕ) (a b out new all : List ℕ) → new ≡ out ++ (s % 4294967296) ∷ [] → s ≡ slice_index a i + slice_index b i + c →
    out ++ added (suc left) c (drop i a) (drop i b) ≡ all → new ++ added left (s / 4294967296) (drop (i + 1) a) (drop (i + 1) b) ≡ all
digit_more left c i s a b out new all e f h =
    let at : s ≡ digit_sum c (drop i a) (drop i b) = omega (arith, f, get_or-drop i a 0 0, get_or-drop i b 0 0, ap (slice_index a) (add-zero i), ap (slice_index b) (add-zero i)) in
    ap (λ x. x ++ added left (s / 4294967296) (drop (i + 1) a) (drop (i + 1) b)) e
    ∙ append_assoc out ((s % 4294967296) ∷ []) (added left (s / 4294967296) (drop (i + 1) a) (drop (i + 1) b))
    ∙ ap (λ x. out ++ (s % 4294967296) ∷ added left (s / 4294967296) x (drop (i + 1) b)) (sym (drop-drop 1 i a))
    ∙ ap (λ x. out ++ (s % 4294967296) ∷ added left (s / 4294967296) (drop 1 (drop i a)) x) (sym (drop-drop 1 i b))
    ∙ ap (λ x. out ++ (x % 4294967296) ∷ added left (x / 4294967296) (drop 1 (drop i a)) (drop 1 (drop i b))) at
    ∙ h
