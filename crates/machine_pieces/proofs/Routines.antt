-- The words of a routine's operations.
use Rattle.std.proofs.Common.{◌≡◌, subst, arith, ℕ, zero, suc, ◌+◌, List, [], ◌∷◌, ◌++◌, length, take, Some, flat_map}
use Rattle.std.specs.Prelude.{slice_get}
use Rattle.rv64_isa.specs.State.{Part}
use Rattle.machine_forms.specs.Piece.{Piece}
use Rattle.machine_forms.specs.Routine.{Routine, block_words, op_word}
use Rattle.machine_pieces.specs.Standing.{Ground, PiecesAt}
use Rattle.machine_pieces.proofs.Fetching.{pieces_split}

-- each of blocks one behind the other
block_of : (memory : List Part) (g : Ground) (here : ℕ) (blocks : List (List Piece)) (p : ℕ) (b : List Piece) → PiecesAt memory g here (flat_map (λ x. x) blocks) → slice_get blocks p ≡ Some b →
    PiecesAt memory g (here + block_words (take p blocks)) b
block_of memory g here [] p b h e = absurd (cc e)
block_of memory g here (c ∷ blocks) zero b h e =
    let same : c ≡ b = cc e in
    let parts = pieces_split memory g here c (flat_map (λ x. x) blocks) h in
    subst (λ n. PiecesAt memory g n b) (omega arith) (subst (PiecesAt memory g here) same parts.0)
block_of memory g here (c ∷ blocks) (suc p) b h e =
    let parts = pieces_split memory g here c (flat_map (λ x. x) blocks) h in
    subst (λ n. PiecesAt memory g n b) (omega arith) (block_of memory g (here + length c) blocks p b parts.1 e)

-- where a routine's pieces stand, each operation's stand from its first word on
pub op_stands : (memory : List Part) (g : Ground) (first : ℕ) (r : Routine) (p : ℕ) (b : List Piece) → PiecesAt memory g first (r.front ++ flat_map (λ x. x) r.blocks) → slice_get r.blocks p ≡ Some b →
    PiecesAt memory g first r.front × PiecesAt memory g (first + op_word r p) b
op_stands memory g first r p b h e =
    let parts = pieces_split memory g first r.front (flat_map (λ x. x) r.blocks) h in
    (parts.0, subst (λ n. PiecesAt memory g n b) (omega arith) (block_of memory g (first + length r.front) r.blocks p b parts.1 e))
