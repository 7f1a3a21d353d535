-- All words of an image have 32 bits.
use Rattle.std.proofs.Common.{lit<, ◌≡◌, refl, subst, arith, ℕ, zero, suc, ◌+◌, ◌<◌, ◌^◌, ℤ, Bool, true, false, List, [], ◌∷◌, ◌++◌, map}
use Rattle.std.specs.Prelude.{nat_lt, ◌&&◌}
use Rattle.std.specs.List.{AllByRecursion, list_all}
use Rattle.std.proofs.lemmas.Bool.Decides.{nat_tests}
use Rattle.linear_forms.specs.Linear.{FunctionCode, UnitCode}
use Rattle.machine_forms.specs.Piece.{Target, Piece, Places, words_from}
use Rattle.machine_forms.specs.Routine.{Routine, routine_words, routine_places, routine_code, routines_code}
use Rattle.machine_forms.specs.StubCode.{stub_words}
use Rattle.machine_forms.specs.Emitted.{function_routine, unit_routines, main_jump, target_byte, unit_words, emitted_stubs}
use Rattle.machine_pieces.specs.Standing.{PieceFits, HaveBits}
use Rattle.machine_pieces.specs.UnitAt.{routine_pieces}
use Rattle.machine_simulation.proofs.Fields.{pieces_fit}
use Rattle.checked_units.specs.Images.{UnitsHaveBits}
use Rattle.checked_units.proofs.WordBits.{words_have_bits}

abbrev AreWords : List ℕ → Type 0
AreWords words = AllByRecursion (λ w. w < 2 ^ 32) words

words_then : (xs ys : List ℕ) → AreWords xs → AreWords ys → AreWords (xs ++ ys)
words_then [] ys hx hy = hy
words_then (x ∷ xs) ys hx hy = (hx.0, words_then xs ys hx.1 hy)

have_bits : (words : List ℕ) → AreWords words → HaveBits words
have_bits [] h n word e = absurd (cc e)
have_bits (w ∷ words) h zero word e = let same : w ≡ word = cc e in subst (λ x. x < 2 ^ 32) same h.0
have_bits (w ∷ words) h (suc n) word e = have_bits words h.1 n word e

pieces_words : (places : Places) (here : ℕ) (xs : List Piece) → AllByRecursion PieceFits xs → AreWords (words_from places here xs)
pieces_words places here [] h = tt
pieces_words places here (x ∷ xs) h = (words_have_bits places here x h.0, pieces_words places (here + 1) xs h.1)

abbrev AreShort : List FunctionCode → Type 0
AreShort gs = AllByRecursion (λ g. routine_words (function_routine g) < 2 ^ 18) gs

functions_words : (target : Target → ℤ) (first : ℕ) (gs : List FunctionCode) → AreShort gs → AreWords (routines_code target first (map function_routine gs))
functions_words target first [] h = tt
functions_words target first (g ∷ gs) h =
    let r : Routine = function_routine g in
    words_then (routine_code target first r) (routines_code target (first + routine_words r) (map function_routine gs))
    (pieces_words (routine_places target first r) first (routine_pieces r) (pieces_fit.function g h.0)) (functions_words target (first + routine_words r) gs h.1)

jump_fits : (u : UnitCode) → AllByRecursion PieceFits (main_jump u)
jump_fits u = (lit< tt, ((lit< tt, lit< tt), tt))

-- those of the runtime's own functions are known
tested : (words : List ℕ) → list_all (λ w. nat_lt w (2 ^ 32)) words ≡ true → AreWords words
tested [] h = tt
tested (w ∷ words) h =
    let both = and_both (nat_lt w (2 ^ 32)) (list_all (λ v. nat_lt v (2 ^ 32)) words) h in
    (below w both.0, tested words both.1)
  where
    and_both : (a b : Bool) → (a && b) ≡ true → (a ≡ true) × (b ≡ true)
    and_both true b e = (refl, e)
    and_both false b e = absurd (cc)

    below : (w : ℕ) → nat_lt w (2 ^ 32) ≡ true → w < 2 ^ 32
    below w h = grind (arith, nat_tests, h)

stubs_are_words : AreWords emitted_stubs.code
stubs_are_words = tested emitted_stubs.code refl

pub units_have_bits : UnitsHaveBits
units_have_bits u short =
    let places : Places = record { target = target_byte u; label = λ l. l } in
    have_bits (emitted_stubs.code ++ unit_words u) (words_then emitted_stubs.code (unit_words u) stubs_are_words
    (words_then (words_from places stub_words (main_jump u)) (routines_code (target_byte u) (stub_words + 2) (unit_routines u)) (pieces_words places stub_words (main_jump u) (jump_fits u))
    (functions_words (target_byte u) (stub_words + 2) u.functions short)))
