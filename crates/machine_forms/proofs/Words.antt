-- Where words stand.
use Rattle.std.proofs.Common.{◌≡◌, ℕ, ℤ, zero, suc, ◌+◌, ◌≤◌, List, [], ◌∷◌, ◌++◌, length, length-append, take, drop, flat_map, Some, refl, sym, ◌∙◌, subst, ap, arith}
use Rattle.std.specs.Prelude.{slice_get}
use Rattle.linear_forms.specs.Linear.{UnitCode}
use Rattle.machine_forms.specs.Piece.{Target, Piece, Places, words_from}
use Rattle.machine_forms.specs.Routine.{Routine, block_words, routine_words, op_word, all_words, routine_places, routine_code, routines_code}
use Rattle.machine_forms.specs.StubCode.{stub_words}
use Rattle.machine_forms.specs.Emitted.{unit_words, unit_routines, function_first, target_byte}
use Rattle.machine_forms.specs.Laws.{WordsStand}

pieces : (places : Places) (here : ℕ) (xs : List Piece) → length (words_from places here xs) ≡ length xs
pieces places here [] = refl
pieces places here (x ∷ xs) = omega (arith, pieces places (here + 1) xs)

blocks : (bs : List (List Piece)) → length (flat_map (λ b. b) bs) ≡ block_words bs
blocks [] = refl
blocks (b ∷ bs) = omega (arith, length-append b (flat_map (λ b. b) bs), blocks bs)

routine : (target : Target → ℤ) (first : ℕ) (r : Routine) → length (routine_code target first r) ≡ routine_words r
routine target first r = omega (
  arith,
  pieces (routine_places target first r) first (r.front ++ flat_map (λ b. b) r.blocks),
  length-append r.front (flat_map (λ b. b) r.blocks),
  blocks r.blocks,
)

taken : (bs : List (List Piece)) (p q : ℕ) → p ≤ q → block_words (take p bs) ≤ block_words (take q bs)
taken bs zero q le = omega arith
taken [] (suc p) q le = omega arith
taken (b ∷ bs) (suc p) zero le = absurd (omega (arith, le))
taken (b ∷ bs) (suc p) (suc q) le = omega (arith, taken bs p q (omega (arith, le)))

order : (r : Routine) (p q : ℕ) → p ≤ q → op_word r p ≤ op_word r q
order r p q le = omega (arith, taken r.blocks p q le)

within_all : (bs : List (List Piece)) (p : ℕ) → block_words (take p bs) ≤ block_words bs
within_all bs zero = omega arith
within_all [] (suc p) = omega arith
within_all (b ∷ bs) (suc p) = omega (arith, within_all bs p)

inside : (r : Routine) (p : ℕ) → op_word r p ≤ routine_words r
inside r p = omega (arith, within_all r.blocks p)

routines : (target : Target → ℤ) (first : ℕ) (rs : List Routine) → length (routines_code target first rs) ≡ all_words rs
routines target first [] = refl
routines target first (r ∷ rs) = omega (
  arith,
  length-append (routine_code target first r) (routines_code target (first + routine_words r) rs),
  routine target first r,
  routines target (first + routine_words r) rs,
)

-- as many items as the first list has are the first list
front : {A : Type 0} (a b : List A) (n : ℕ) → n ≡ length a → take n (a ++ b) ≡ a
front [] b zero e = refl
front [] b (suc n) e = absurd (omega (arith, e))
front (x ∷ a) b zero e = absurd (omega (arith, e))
front (x ∷ a) b (suc n) e = ap (λ l. x ∷ l) (front a b n (omega (arith, e)))

-- behind as many stands the second
behind : {A : Type 0} (a b : List A) (n k : ℕ) → n ≡ length a → drop (n + k) (a ++ b) ≡ drop k b
behind [] b n k e = ap (λ m. drop m b) (omega (arith, e))
behind (x ∷ a) b zero k e = absurd (omega (arith, e))
behind (x ∷ a) b (suc n) k e =
    let next : suc n + k ≡ suc (n + k) = omega arith in
    ap (λ m. drop m (x ∷ (a ++ b))) next ∙ behind a b n k (omega (arith, e))

-- a routine's words among those of routines one behind the other
at_routine : (target : Target → ℤ) (first : ℕ) (rs : List Routine) (n : ℕ) (r : Routine) → slice_get rs n ≡ Some r →
    take (routine_words r) (drop (all_words (take n rs)) (routines_code target first rs)) ≡ routine_code target (first + all_words (take n rs)) r
at_routine target first [] n r e = absurd (cc e)
at_routine target first (x ∷ rs) zero r e =
    let is : x ≡ r = cc e in
    let place : first ≡ first + 0 = omega arith in
    let found : take (routine_words x) (routines_code target first (x ∷ rs)) ≡ routine_code target first x
    = front (routine_code target first x) (routines_code target (first + routine_words x) rs) (routine_words x) (sym (routine target first x)) in
    subst (λ s. take (routine_words s) (routines_code target first (x ∷ rs)) ≡ routine_code target (first + 0) s) is
    (found ∙ ap (λ k. routine_code target k x) place)
at_routine target first (x ∷ rs) (suc n) r e =
    let place : first + routine_words x + all_words (take n rs) ≡ first + (routine_words x + all_words (take n rs)) = omega arith in
    let dropped : drop (routine_words x + all_words (take n rs)) (routines_code target first (x ∷ rs)) ≡
    drop (all_words (take n rs)) (routines_code target (first + routine_words x) rs)
    = behind (routine_code target first x) (routines_code target (first + routine_words x) rs) (routine_words x) (all_words (take n rs))
    (sym (routine target first x)) in
    ap (take (routine_words r)) dropped ∙ at_routine target (first + routine_words x) rs n r e ∙ ap (λ k. routine_code target k r) place

unit : (u : UnitCode) → length (unit_words u) ≡ 2 + all_words (unit_routines u)
unit u = omega (arith, routines (target_byte u) (stub_words + 2) (unit_routines u))

function : (u : UnitCode) (n : ℕ) (r : Routine) → slice_get (unit_routines u) n ≡ Some r →
    take (routine_words r) (drop (function_first u n) (unit_words u)) ≡ routine_code (target_byte u) (stub_words + function_first u n) r
function u n r e =
    let place : stub_words + 2 + all_words (take n (unit_routines u)) ≡ stub_words + function_first u n = omega arith in
    let behind_two : function_first u n ≡ suc (suc (all_words (take n (unit_routines u)))) = omega arith in
    ap (λ m. take (routine_words r) (drop m (unit_words u))) behind_two ∙ at_routine (target_byte u) (stub_words + 2) (unit_routines u) n r e ∙ ap (λ k. routine_code (target_byte u) k r) place

pub words_stand : WordsStand
words_stand = record { pieces = pieces; routine = routine; order = order; inside = inside; unit = unit; function = function }
