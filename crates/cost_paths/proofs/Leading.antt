-- Where a piece of code that goes ahead leads.
use Rattle.std.proofs.Common.{◌≡◌, ℕ, zero, suc, ◌+◌, ◌*◌, ◌<◌, ◌≤◌, List, [], ◌∷◌, length, Option, Some, inl, inr, subst, arith}
use Rattle.std.specs.Prelude.{slice_get}
use Rattle.rv64_isa.specs.declared.instr.Instr.TheVariants.{Jal, Beq, Bne, Blt, Bge, Bltu, Bgeu}
use Rattle.machine_forms.specs.Piece.{Piece, instruction}
use Rattle.cost_paths.specs.Ahead.{distance_of, LeadsTo, IsAhead, GoesAhead, AllGoAhead}

pub twice : (a b : ℕ) → 2 * a ≡ 2 * b → a ≡ b
twice a b e = omega (arith, e)

pub led : (i j n d : ℕ) → IsAhead n d → 2 * j ≡ 2 * i + d → (i < j) × (j ≤ i + n)
led i j n d h e = (omega (arith, e, h.is, h.some), omega (arith, e, h.is, h.inside))

pub some_number : (a b : ℕ) → Some a ≡ Some b → a ≡ b
some_number a b e = cc e

pub distance_ahead : (target : Option ℕ) (n : ℕ) (x : Piece) (d : ℕ) → GoesAhead target n x → distance_of x ≡ Some d → IsAhead n d
distance_ahead target n (instruction (Jal rd k)) d h e = subst (IsAhead n) (some_number k d e) h
distance_ahead target n (instruction (Beq x y k)) d h e = subst (IsAhead n) (some_number k d e) h.ahead
distance_ahead target n (instruction (Bne x y k)) d h e = subst (IsAhead n) (some_number k d e) h.ahead
distance_ahead target n (instruction (Blt x y k)) d h e = subst (IsAhead n) (some_number k d e) h.ahead
distance_ahead target n (instruction (Bge x y k)) d h e = subst (IsAhead n) (some_number k d e) h.ahead
distance_ahead target n (instruction (Bltu x y k)) d h e = subst (IsAhead n) (some_number k d e) h.ahead
distance_ahead target n (instruction (Bgeu x y k)) d h e = subst (IsAhead n) (some_number k d e) h.ahead
distance_ahead target n x d h e = absurd (cc e)

pub leads_ahead : (target : Option ℕ) (n i j : ℕ) (x : Piece) → GoesAhead target n x → 1 ≤ n → LeadsTo x i j → (i < j) × (j ≤ i + n)
leads_ahead target n i j x h some (inl next) = (omega (arith, next.1), omega (arith, next.1, some))
leads_ahead target n i j x h some (inr far) = led i j n far.0 (distance_ahead target n x far.0 h far.1) far.2

-- what is said of the pieces of code is said of each
pub piece_ahead : (target : Option ℕ) (xs : List Piece) (i : ℕ) (x : Piece) → AllGoAhead target 0 xs → slice_get xs i ≡ Some x → (n : ℕ) × GoesAhead target n x × (i + n ≡ length xs) × (1 ≤ n)
piece_ahead target [] i x h e = absurd (cc e)
piece_ahead target (y ∷ xs) zero x h e =
    let same : y ≡ x = cc e in (length xs + 1 + 0, subst (GoesAhead target (length xs + 1 + 0)) same h.0, omega arith, omega arith)
piece_ahead target (y ∷ xs) (suc i) x h e = let rest = piece_ahead target xs i x h.1 e in (rest.0, rest.1, omega (arith, rest.2), rest.3)
