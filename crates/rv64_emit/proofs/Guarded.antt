-- Code that a jump goes over, whose distance is known only behind it.
use Rattle.std.proofs.Common.{◌≡◌, ◌∙◌, ℕ, suc, ◌+◌, ◌-◌, ◌*◌, List, [], ◌∷◌, ◌++◌, length, length-append, set, refl, ap, append_assoc, arith}
use Rattle.rv64_isa.specs.declared.instr.Instr.TheVariants.{Jal}
use Rattle.machine_forms.specs.Piece.{Piece, instruction}
use Rattle.machine_forms.specs.Registers.{zero_register}
use Rattle.machine_forms.specs.ValueCode.{over}

set_behind : (front back : List Piece) (x p q : Piece) → set ((front ++ x ∷ p ∷ []) ++ back) (suc (length front)) q ≡ front ++ x ∷ q ∷ back
set_behind [] back x p q = refl
set_behind (y ∷ front) back x p q = ap (λ l. y ∷ l) (set_behind front back x p q)

-- a jump of so many words
abbrev jump_of : ℕ → Piece
jump_of words = instruction (Jal zero_register (2 * words))

-- what stands in the end: two parts, the second of which is passed over by a branch or not, and what is done behind them
pub guarded : (c0 c1 c2 c3 c4 c5 a b t t' : List Piece) (x x' p : Piece) (place : ℕ) → c1 ≡ c0 ++ a → c2 ≡ c1 ++ x ∷ p ∷ [] → place ≡ length c1 + 1 →
    c3 ≡ c2 ++ b → c4 ≡ set c3 place (jump_of (length c3 - place)) → x ≡ x' → t ≡ t' → c5 ≡ c4 ++ t → c5 ≡ c0 ++ (a ++ (x' ∷ over b ∷ b) ++ t')
guarded c0 c1 c2 c3 c4 c5 a b t t' x x' p place e1 e2 at e3 e4 ex et e5 =
    let whole : c3 ≡ (c1 ++ x ∷ p ∷ []) ++ b = e3 ∙ ap (λ l. l ++ b) e2 in
    let where_it_is : place ≡ suc (length c1) = omega (arith, at) in
    let words : length c3 - place ≡ length b + 1
    = omega (arith, ap length whole, length-append (c1 ++ x ∷ p ∷ []) b, length-append c1 (x ∷ p ∷ []), where_it_is) in
    let closed : c4 ≡ c1 ++ x' ∷ over b ∷ b
    = e4 ∙ (ap (λ n. set c3 place (jump_of n)) words ∙ (ap (λ n. set c3 n (over b)) where_it_is ∙ (ap (λ l. set l (suc (length c1)) (over b)) whole
    ∙ (set_behind c1 b x p (over b) ∙ ap (λ y. c1 ++ y ∷ over b ∷ b) ex)))) in
    let joined : c1 ++ x' ∷ over b ∷ b ≡ c0 ++ (a ++ x' ∷ over b ∷ b) = ap (λ l. l ++ x' ∷ over b ∷ b) e1 ∙ append_assoc c0 a (x' ∷ over b ∷ b) in
    e5 ∙ (ap (λ l. l ++ t) (closed ∙ joined) ∙ (append_assoc c0 (a ++ x' ∷ over b ∷ b) t ∙ ap (λ l. c0 ++ ((a ++ x' ∷ over b ∷ b) ++ l)) et))
