-- The code of each region has ranks.
use Rattle.std.proofs.Common.{◌≡◌, ℕ, ◌+◌, Bool, true, false, List, [], ◌∷◌, length, refl, arith}
use Rattle.region_forms.specs.Form.{through, bind, Region, seq, op, branch, loop, protect, catch, limit, barrier, leave_region, RegionList, no_regions, region_then, Clauses, no_clauses, clause_then}
use Rattle.region_forms.specs.Guard.{types_of}
use Rattle.linear_forms.specs.Linear.{FunctionCode, LinearOp, plain, label, jump, jump_zero, pad, resume}
use Rattle.linear_forms.specs.Tables.{Cover, bare, list_of}
use Rattle.linear_forms.specs.Distinct.{distinct}
use Rattle.linear_forms.specs.Exits.{Exit, exit_to, inner, beyond, outs_of}
use Rattle.linear_forms.specs.Emission.{Emitting, put, cleaned, guarded, protect_exit, filters_of}
use Rattle.linear_forms.specs.Code.{labels, labels_clauses, clause_tests, region_code, all_code, clauses_code}
use Rattle.cost_paths.proofs.Ranks.{weight, lower_cover}
use Rattle.cost_paths.proofs.Pieces.{Ordered, nothing_ordered, one_first, both_ordered, put_first, leave_ordered, RegionOrdered, ended}
use Rattle.cost_paths.proofs.Handlers.{HandlersOrdered, no_handlers, one_handler}
use Rattle.cost_paths.proofs.Forms.{branch_ordered, loop_ordered}
use Rattle.cost_paths.proofs.Cleaning.{protect_ordered}
use Rattle.cost_paths.proofs.Guarding.{catch_ordered, limit_ordered}

-- a region's code has the label of the region's end
abbrev pub has_end : Region → Bool
has_end (op o) = false
has_end (leave_region n) = false
has_end r = true

module _ (g : FunctionCode) (weigh : LinearOp → ℕ) (top : ℕ) (light : (l : ℕ) → weigh (label l) ≡ 0) (em : Emitting) where
  mutual
    -- from place q on, which is p for the covers in it
    pub region_ordered : (r : Region) (c : Cover) (xs : List Exit) (l p q b : ℕ) → q ≡ p → RegionOrdered g weigh top light q b c xs l (has_end r) (region_code em c xs l p r)
    region_ordered (seq rs) c xs l p q b e =
        ended g weigh top light q b c c xs l (all_code em c (exit_to l ∷ xs) (l + 1) p rs) (λ rank d e le end around. lower_cover g weigh top rank d e c le around.cover)
        (all_ordered rs c (exit_to l ∷ xs) (l + 1) p q b e)
    region_ordered (op o) c xs l p q b e = record {
      all = one_first g weigh top light q b c xs (put o c) [] (put_first g weigh top light q b c xs o) (nothing_ordered g weigh top light (q + 1) (b + weigh (plain o)) c xs);
      label = λ no. absurd (cc no);
    }
    region_ordered (branch v x y) c xs l p q b e =
        let first = region_code em c (exit_to l ∷ xs) (l + 2) (p + 1) x in
        let r = q + 1 + length first + 2 in
        let d = b + weigh (jump_zero v (l + 1)) + weight weigh first + weigh (jump l) in
        let one = region_ordered x c (exit_to l ∷ xs) (l + 2) (p + 1) (q + 1) (b + weigh (jump_zero v (l + 1))) (omega (arith, e)) in
        let other = region_ordered y c (exit_to l ∷ xs) (l + 2 + labels x) (p + 3 + length first) r d (omega (arith, e)) in
        branch_ordered g weigh top light q b c xs l v r d first (region_code em c (exit_to l ∷ xs) (l + 2 + labels x) (p + 3 + length first) y) refl refl one.all other.all
    region_ordered (loop v x) c xs l p q b e =
        let body = region_ordered x c (exit_to l ∷ xs) (l + 2) (p + 2) (q + 1 + 1) (b + weigh (jump_zero v l)) (omega (arith, e)) in
        loop_ordered g weigh top light q b c xs l v (region_code em c (exit_to l ∷ xs) (l + 2) (p + 2) x) body.all
    region_ordered (protect x cl) c xs l p q b e =
        let inside = region_ordered x (cleaned em (p + 1) c) (protect_exit cl l ∷ xs) (l + 3) (p + 5) (q + 1 + 1 + 1 + 1 + 1) (b + weigh (jump (l + 1))) (omega (arith, e)) in
        protect_ordered g weigh top light em q b p c xs l cl (distinct (beyond (outs_of x))) (region_code em (cleaned em (p + 1) c) (protect_exit cl l ∷ xs) (l + 3) (p + 5) x) e inside.all
    region_ordered (catch x cs) c xs l p q b e =
        let tests = clause_tests em (l + 2) cs in
        let n = length (types_of cs) in
        let handlers = clauses_code em c (exit_to l ∷ xs) l (l + 2) (l + 2 + n) (p + 3 + length tests) cs in
        let cover = guarded (p + 1) (filters_of em (types_of cs)) c in
        let body = region_code em cover (exit_to l ∷ xs) (l + 2 + n + labels_clauses cs) (p + 4 + length tests + length handlers) x in
        let r = q + 3 + length tests in
        let s = r + length handlers + 1 in
        let d = b + weigh (jump (l + 1)) + weight weigh body + weigh (pad em.object em.selector) + weight weigh tests + weigh (resume em.object) in
        let handling = clauses_ordered cs c (exit_to l ∷ xs) l (l + 2) (l + 2 + n) (p + 3 + length tests) r d (omega (arith, e)) in
        let inside = region_ordered x cover (exit_to l ∷ xs) (l + 2 + n + labels_clauses cs) (p + 4 + length tests + length handlers) s (b + weigh (jump (l + 1))) (omega (arith, e)) in
        catch_ordered g weigh top light em q b p e c xs l cs (filters_of em (types_of cs)) handlers body r s d refl refl refl handling inside.all
    region_ordered (limit x types) c xs l p q b e =
        let cover = guarded (p + 1) (em.filter (list_of types) ∷ []) c in
        let inside = region_ordered x cover (exit_to l ∷ xs) (l + 3) (p + 7) (q + 1 + 1 + 1 + 1 + 1 + 1 + 1) (b + weigh (jump (l + 1))) (omega (arith, e)) in
        limit_ordered g weigh top light em q b p e c xs l (em.filter (list_of types)) (em.filter (list_of types) ∷ []) (region_code em cover (exit_to l ∷ xs) (l + 3) (p + 7) x) inside.all
    region_ordered (barrier x) c xs l p q b e =
        let inside = region_ordered x bare (exit_to l ∷ xs) (l + 1) p q b e in
        ended g weigh top light q b c bare xs l (region_code em bare (exit_to l ∷ xs) (l + 1) p x) (λ rank d e le end around. tt) inside.all
    region_ordered (leave_region n) c xs l p q b e = record { all = leave_ordered g weigh top light em q b c (inner n) xs; label = λ no. absurd (cc no) }

    all_ordered : (rs : RegionList) (c : Cover) (xs : List Exit) (l p q b : ℕ) → q ≡ p → Ordered g weigh top light q b c xs (all_code em c xs l p rs)
    all_ordered no_regions c xs l p q b e = nothing_ordered g weigh top light q b c xs
    all_ordered (region_then r rs) c xs l p q b e =
        let first = region_code em c xs l p r in
        let one = region_ordered r c xs l p q b e in
        let others = all_ordered rs c xs (l + labels r) (p + length first) (q + length first) (b + weight weigh first) (omega (arith, e)) in
        both_ordered g weigh top light q (q + length first) b (b + weight weigh first) c xs first (all_code em c xs (l + labels r) (p + length first) rs) refl refl one.all others

    clauses_ordered : (cs : Clauses) (c : Cover) (xs : List Exit) (last first l p q b : ℕ) → q ≡ p → HandlersOrdered g weigh top light q b c xs last first cs (clauses_code em c xs last first l p cs)
    clauses_ordered no_clauses c xs last first l p q b e = no_handlers g weigh top light q b c xs last first
    clauses_ordered (clause_then t x r cs) c xs last first l p q b e =
        let o = plain (bind x (record { root = through em.object; offset = 0 })) in
        let body = region_code em c xs l (p + 2) r in
        let z = q + length body + 3 in
        let d = b + weigh o + weight weigh body + weigh (jump last) in
        let one = region_ordered r c xs l (p + 2) (q + 1 + 1) (b + weigh o) (omega (arith, e)) in
        let others = clauses_ordered cs c xs last (first + 1) (l + labels r) (p + 3 + length body) z d (omega (arith, e)) in
        one_handler g weigh top light em c xs last q z b d first x t x r cs body (clauses_code em c xs last (first + 1) (l + labels r) (p + 3 + length body) cs) refl refl one.all others
