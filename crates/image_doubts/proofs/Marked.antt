-- A walk over instructions, byte by byte.
use Rattle.std.proofs.Common.{◌≡◌, ◌++◌, ◌-◌, ◌<◌, ℕ, zero, suc, Bool, true, false, List, [], ◌∷◌, length, ap, sym, ◌∙◌, append_assoc, append-nil, arith}
use Rattle.image_doubts.specs.Starts.{behind_first, marks_from}

-- an instruction begins
pub one_begun : (all marks new : List Bool) (k b next : ℕ) (bs : List ℕ) → k ≡ 0 → next ≡ behind_first b → new ≡ marks ++ true ∷ [] → all ≡ marks ++ marks_from k (b ∷ bs) → all ≡ new ++ marks_from next bs
unfolding marks_from
one_begun all marks new k b next bs none is put so_far =
    so_far ∙ ap (λ n. marks ++ marks_from n (b ∷ bs)) none ∙ sym (append_assoc marks (true ∷ []) (marks_from (behind_first b) bs)) ∙
    ap (λ n. (marks ++ true ∷ []) ++ marks_from n bs) (sym is) ∙ ap (λ m. m ++ marks_from next bs) (sym put)

-- a byte behind the first of one
pub one_behind : (all marks new : List Bool) (k b : ℕ) (bs : List ℕ) → 0 < k → new ≡ marks ++ false ∷ [] → all ≡ marks ++ marks_from k (b ∷ bs) → all ≡ new ++ marks_from (k - 1) bs
unfolding marks_from
one_behind all marks new zero b bs some put so_far = absurd (omega (arith, some))
one_behind all marks new (suc k) b bs some put so_far =
    let less : suc k - 1 ≡ k = omega arith in
    so_far ∙ sym (append_assoc marks (false ∷ []) (marks_from k bs)) ∙ ap (λ n. (marks ++ false ∷ []) ++ marks_from n bs) (sym less) ∙ ap (λ m. m ++ marks_from (suc k - 1) bs) (sym put)

-- no byte is left
pub all_marked : (all marks : List Bool) (k : ℕ) (bs : List ℕ) → length bs ≡ 0 → all ≡ marks ++ marks_from k bs → marks ≡ all
unfolding marks_from
all_marked all marks zero [] none is = sym (is ∙ append-nil marks)
all_marked all marks (suc k) [] none is = sym (is ∙ append-nil marks)
all_marked all marks k (b ∷ bs) none is = absurd (omega (arith, none))
