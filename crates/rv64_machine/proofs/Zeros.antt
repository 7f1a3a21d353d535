-- Lists of bytes of which one side is given and the rest is zero.
use Rattle.std.proofs.Common.{ℕ, zero, suc, ◌≡◌, ◌<◌, ◌≤◌, ◌+◌, ◌-◌, ◌*◌, ◌/◌, ◌%◌, ◌^◌, Bool, true, false, List, [], ◌∷◌, ◌++◌, length, refl, ap, sym, ◌∙◌, arith, length-set}
use Rattle.std.specs.Prelude.{replicate, reverse, nat_lt, slice_index, slice_set}
use Rattle.std.proofs.lemmas.Bool.Decides.{nat_tests}
use Rattle.std.proofs.lemmas.Grind.{reverse_onto}
use Rattle.std.proofs.lemmas.List.{append-nil, append_assoc, length-append, length-replicate, length-reverse, reverse-append, replicate-append-replicate, replicate_more, get_or-replicate, get_or_past, get_or_append_left, get_or-append_right, get_or-reverse, set_at, set-append_left, set-append_right}
use Rattle.rv64_machine.specs.Bytes.{number_at, with_number}
use Rattle.rv64_machine.specs.Reserved.{filled_up, filled_down, number_below, with_number_below}

-- ---- zeros behind

index_zeros : (k i : ℕ) → slice_index (replicate k 0) i ≡ 0
index_zeros k i = step (nat_lt i k) refl
  where
    step : (b : Bool) → nat_lt i k ≡ b → slice_index (replicate k 0) i ≡ 0
    step true t = get_or-replicate k i 0 0 (grind (arith, nat_tests))
    step false t = let long = length-replicate {A = ℕ} k 0 in get_or_past (replicate k 0) i 0 (grind (arith, nat_tests))

index_up : (bs : List ℕ) (k i : ℕ) → slice_index (bs ++ replicate k 0) i ≡ slice_index bs i
index_up [] k i = index_zeros k i
index_up (b ∷ bs) k zero = refl
index_up (b ∷ bs) k (suc i) = index_up bs k i

number_zeros : (n : ℕ) (bs : List ℕ) (k at : ℕ) → number_at (bs ++ replicate k 0) at n ≡ number_at bs at n
unfolding number_at
number_zeros zero bs k at = refl
number_zeros (suc n) bs k at =
    ap (λ x. x + 2 ^ 8 * number_at (bs ++ replicate k 0) (at + 1) n) (index_up bs k at) ∙ ap (λ m. slice_index bs at + 2 ^ 8 * m) (number_zeros n bs k (at + 1))

with_zeros : (n : ℕ) (bs : List ℕ) (k at value : ℕ) → at + n ≤ length bs → with_number (bs ++ replicate k 0) at n value ≡ with_number bs at n value ++ replicate k 0
unfolding with_number
with_zeros zero bs k at value inside = refl
with_zeros (suc n) bs k at value inside =
    let long = length-set bs at (value % 2 ^ 8) in
    ap (λ xs. with_number xs (at + 1) n (value / 2 ^ 8)) (set-append_left bs (replicate k 0) at (value % 2 ^ 8) (omega arith)) ∙
    with_zeros n (slice_set bs at (value % 2 ^ 8)) k (at + 1) (value / 2 ^ 8) (omega arith)

pub length_with : (n : ℕ) (bs : List ℕ) (at value : ℕ) → length (with_number bs at n value) ≡ length bs
unfolding with_number
length_with zero bs at value = refl
length_with (suc n) bs at value = length_with n (slice_set bs at (value % 2 ^ 8)) (at + 1) (value / 2 ^ 8) ∙ length-set bs at (value % 2 ^ 8)

-- ---- so many bytes, of which the first are given

pub number_up : (size n : ℕ) (bs : List ℕ) (at : ℕ) → number_at (filled_up size bs) at n ≡ number_at bs at n
unfolding filled_up
number_up size n bs at = number_zeros n bs (size - length bs) at

pub with_up : (size n : ℕ) (bs : List ℕ) (at value : ℕ) → at + n ≤ length bs → with_number (filled_up size bs) at n value ≡ filled_up size (with_number bs at n value)
unfolding filled_up
with_up size n bs at value inside =
    with_zeros n bs (size - length bs) at value inside ∙ ap (λ l. with_number bs at n value ++ replicate (size - l) 0) (sym (length_with n bs at value))

long_zeros : (bs : List ℕ) (k : ℕ) → length (bs ++ replicate k 0) ≡ length bs + k
long_zeros bs k = length-append bs (replicate k 0) ∙ ap (λ j. length bs + j) (length-replicate k 0)

pub grown_up : (size : ℕ) (bs : List ℕ) (k : ℕ) → length bs + k ≤ size → filled_up size (bs ++ replicate k 0) ≡ filled_up size bs
unfolding filled_up
grown_up size bs k fits =
    let left = size - length (bs ++ replicate k 0) in
    let all : k + left ≡ size - length bs = let long = long_zeros bs k in omega arith in
    append_assoc bs (replicate k 0) (replicate left 0) ∙ ap (λ zs. bs ++ zs) (replicate-append-replicate k left 0) ∙ ap (λ j. bs ++ replicate j 0) all

pub length_up : (size : ℕ) (bs : List ℕ) → length bs ≤ size → length (filled_up size bs) ≡ size
unfolding filled_up
length_up size bs fits = let long = long_zeros bs (size - length bs) in omega arith

minus_none : (size : ℕ) → size - 0 ≡ size
minus_none size = omega arith

pub none_up : (size : ℕ) → filled_up size [] ≡ replicate size 0
unfolding filled_up
none_up size = ap (λ j. replicate {A = ℕ} j 0) (minus_none size)

-- ---- zeros in front of bytes that are turned round

index_turned : (bs : List ℕ) (k i at : ℕ) → i + at ≡ k + length bs → 1 ≤ at → slice_index (replicate k 0 ++ reverse bs) i ≡ slice_index bs (at - 1)
index_turned bs k i at e low = step (nat_lt i k) refl
  where
    step : (b : Bool) → nat_lt i k ≡ b → slice_index (replicate k 0 ++ reverse bs) i ≡ slice_index bs (at - 1)
    step true t =
        let zeros = length-replicate {A = ℕ} k 0 in
        let before : i < k = grind (arith, nat_tests) in
        get_or_append_left (replicate k 0) (reverse bs) 0 i (omega arith) ∙ get_or-replicate k i 0 0 before ∙ sym (get_or_past bs (at - 1) 0 (omega arith))
    step false t =
        let behind : k ≤ i = grind (arith, nat_tests) in
        let place : length bs - 1 - (i - k) ≡ at - 1 = omega arith in
        get_or-append_right (replicate k 0) (reverse bs) k i 0 (length-replicate k 0) behind ∙ get_or-reverse bs (i - k) 0 (omega arith) ∙ ap (λ j. slice_index bs j) place

number_turned : (n : ℕ) (bs : List ℕ) (k i at : ℕ) → i + at ≡ k + length bs → n ≤ at → number_at (replicate k 0 ++ reverse bs) i n ≡ number_below bs at n
unfolding number_at number_below
number_turned zero bs k i at e low = refl
number_turned (suc n) bs k i at e low =
    ap (λ x. x + 2 ^ 8 * number_at (replicate k 0 ++ reverse bs) (i + 1) n) (index_turned bs k i at e (omega arith)) ∙
    ap (λ m. slice_index bs (at - 1) + 2 ^ 8 * m) (number_turned n bs k (i + 1) (at - 1) (omega arith) (omega arith))

set_reverse : (bs : List ℕ) (i j v : ℕ) → i + j + 1 ≡ length bs → slice_set (reverse bs) i v ≡ reverse (slice_set bs j v)
set_reverse [] i j v e = absurd (omega arith)
set_reverse (b ∷ bs) i zero v e =
    let long : length (reverse bs) ≡ i = length-reverse bs ∙ (omega arith) in
    ap (λ l. slice_set l i v) (reverse_onto bs b []) ∙ set_at (reverse bs) b [] v i long ∙ sym (reverse_onto bs v [])
set_reverse (b ∷ bs) i (suc j) v e =
    let long = length-reverse bs in
    ap (λ l. slice_set l i v) (reverse_onto bs b []) ∙ set-append_left (reverse bs) (b ∷ []) i v (omega arith) ∙
    ap (λ l. l ++ b ∷ []) (set_reverse bs i j v (omega arith)) ∙ sym (reverse_onto (slice_set bs j v) b [])

set_turned : (bs : List ℕ) (k i at v : ℕ) → i + at ≡ k + length bs → 1 ≤ at → at ≤ length bs →
    slice_set (replicate k 0 ++ reverse bs) i v ≡ replicate k 0 ++ reverse (slice_set bs (at - 1) v)
set_turned bs k i at v e low high =
    set-append_right (replicate k 0) (reverse bs) k i v (length-replicate k 0) (omega arith) ∙
    ap (λ l. replicate k 0 ++ l) (set_reverse bs (i - k) (at - 1) v (omega arith))

with_turned : (n : ℕ) (bs : List ℕ) (k i at value : ℕ) → i + at ≡ k + length bs → n ≤ at → at ≤ length bs →
    with_number (replicate k 0 ++ reverse bs) i n value ≡ replicate k 0 ++ reverse (with_number_below bs at n value)
unfolding with_number with_number_below
with_turned zero bs k i at value e low high = refl
with_turned (suc n) bs k i at value e low high =
    let long = length-set bs (at - 1) (value % 2 ^ 8) in
    ap (λ xs. with_number xs (i + 1) n (value / 2 ^ 8)) (set_turned bs k i at (value % 2 ^ 8) e (omega arith) high) ∙
    with_turned n (slice_set bs (at - 1) (value % 2 ^ 8)) k (i + 1) (at - 1) (value / 2 ^ 8) (omega arith) (omega arith) (omega arith)

pub length_below : (n : ℕ) (bs : List ℕ) (at value : ℕ) → length (with_number_below bs at n value) ≡ length bs
unfolding with_number_below
length_below zero bs at value = refl
length_below (suc n) bs at value = length_below n (slice_set bs (at - 1) (value % 2 ^ 8)) (at - 1) (value / 2 ^ 8) ∙ length-set bs (at - 1) (value % 2 ^ 8)

one_more : (k : ℕ) → k + 1 ≡ suc k
one_more k = omega arith

reverse_zeros : (k : ℕ) → reverse (replicate {A = ℕ} k 0) ≡ replicate k 0
reverse_zeros zero = refl
reverse_zeros (suc k) = reverse_onto (replicate {A = ℕ} k 0) 0 [] ∙ ap (λ l. l ++ 0 ∷ []) (reverse_zeros k) ∙ replicate_more {X = ℕ} k 0 ∙ ap (λ j. replicate {A = ℕ} j 0) (one_more k)

-- ---- so many bytes, of which the last are given

pub number_down : (size n : ℕ) (bs : List ℕ) (i at : ℕ) → i + at ≡ size → length bs ≤ size → n ≤ at → number_at (filled_down size bs) i n ≡ number_below bs at n
unfolding filled_down
number_down size n bs i at e fits low = number_turned n bs (size - length bs) i at (omega arith) low

pub with_down : (size n : ℕ) (bs : List ℕ) (i at value : ℕ) → i + at ≡ size → length bs ≤ size → n ≤ at → at ≤ length bs →
    with_number (filled_down size bs) i n value ≡ filled_down size (with_number_below bs at n value)
unfolding filled_down
with_down size n bs i at value e fits low high =
    with_turned n bs (size - length bs) i at value (omega arith) low high ∙
    ap (λ l. replicate (size - l) 0 ++ reverse (with_number_below bs at n value)) (sym (length_below n bs at value))

pub grown_down : (size : ℕ) (bs : List ℕ) (k : ℕ) → length bs + k ≤ size → filled_down size (bs ++ replicate k 0) ≡ filled_down size bs
unfolding filled_down
grown_down size bs k fits =
    let left = size - length (bs ++ replicate k 0) in
    let all : left + k ≡ size - length bs = let long = long_zeros bs k in omega arith in
    ap (λ l. replicate left 0 ++ l) (reverse-append bs (replicate k 0) ∙ ap (λ l. l ++ reverse bs) (reverse_zeros k)) ∙
    sym (append_assoc (replicate left 0) (replicate k 0) (reverse bs)) ∙
    ap (λ l. l ++ reverse bs) (replicate-append-replicate left k 0) ∙ ap (λ j. replicate j 0 ++ reverse bs) all

pub length_down : (size : ℕ) (bs : List ℕ) → length bs ≤ size → length (filled_down size bs) ≡ size
unfolding filled_down
length_down size bs fits =
    let zeros = length-replicate {A = ℕ} (size - length bs) 0 in
    let turned = length-reverse bs in
    let both = length-append (replicate (size - length bs) 0) (reverse bs) in
    omega arith

pub none_down : (size : ℕ) → filled_down size [] ≡ replicate size 0
unfolding filled_down
none_down size = append-nil (replicate {A = ℕ} (size - 0) 0) ∙ ap (λ j. replicate {A = ℕ} j 0) (minus_none size)
