-- The code of each region can be marked.
use Rattle.std.proofs.Common.{ℕ, ◌+◌, List, [], ◌∷◌, length, refl}
use Rattle.region_forms.specs.Form.{Region, seq, op, branch, loop, protect, catch, limit, barrier, leave_region, RegionList, no_regions, region_then, Clauses, no_clauses, clause_then}
use Rattle.region_forms.specs.Guard.{types_of}
use Rattle.linear_forms.specs.Linear.{FunctionCode}
use Rattle.linear_forms.specs.Tables.{Cover, bare, list_of}
use Rattle.linear_forms.specs.Distinct.{distinct}
use Rattle.linear_forms.specs.Exits.{Exit, exit_to, inner, beyond, outs_of}
use Rattle.linear_forms.specs.Emission.{Emitting, put, cleaned, guarded, protect_exit, filters_of}
use Rattle.linear_forms.specs.Code.{labels, labels_clauses, clause_tests, region_code, all_code, clauses_code}
use Rattle.cost_paths.proofs.Regions.{has_end}
use Rattle.exceptions_in_flight.proofs.Parts.{Marked, nothing_marked, one_first, both_parts, put_right, leave_marked, RegionMarked, ended}
use Rattle.exceptions_in_flight.proofs.Forms.{branch_marked, loop_marked, HandlersMarked, no_handlers, one_handler}
use Rattle.exceptions_in_flight.proofs.Guards.{protect_marked, catch_marked, limit_marked}

module _ (g : FunctionCode) (em : Emitting) where
  mutual
    pub region_marked : (r : Region) (c : Cover) (xs : List Exit) (l p q : ℕ) → RegionMarked g em q xs l (has_end r) (region_code em c xs l p r)
    region_marked (seq rs) c xs l p q = ended g em q xs l (all_code em c (exit_to l ∷ xs) (l + 1) p rs) (all_marked rs c (exit_to l ∷ xs) (l + 1) p q)
    region_marked (op o) c xs l p q = record { all = one_first g em q xs (put o c) [] (put_right g em q xs o c) (nothing_marked g em (q + 1) xs); label = λ no. absurd (cc no) }
    region_marked (branch v x y) c xs l p q =
        let first = region_code em c (exit_to l ∷ xs) (l + 2) (p + 1) x in
        let r = q + 1 + length first + 2 in
        let one = region_marked x c (exit_to l ∷ xs) (l + 2) (p + 1) (q + 1) in
        let other = region_marked y c (exit_to l ∷ xs) (l + 2 + labels x) (p + 3 + length first) r in
        branch_marked g em q r xs l v first (region_code em c (exit_to l ∷ xs) (l + 2 + labels x) (p + 3 + length first) y) refl one.all other.all
    region_marked (loop v x) c xs l p q =
        let body = region_marked x c (exit_to l ∷ xs) (l + 2) (p + 2) (q + 1 + 1) in
        loop_marked g em q xs l v (region_code em c (exit_to l ∷ xs) (l + 2) (p + 2) x) body.all
    region_marked (protect x cl) c xs l p q =
        let inside = region_marked x (cleaned em (p + 1) c) (protect_exit cl l ∷ xs) (l + 3) (p + 5) (q + 1 + 1 + 1 + 1 + 1) in
        protect_marked g em q c xs l cl (distinct (beyond (outs_of x))) (region_code em (cleaned em (p + 1) c) (protect_exit cl l ∷ xs) (l + 3) (p + 5) x) inside.all
    region_marked (catch x cs) c xs l p q =
        let tests = clause_tests em (l + 2) cs in
        let n = length (types_of cs) in
        let handlers = clauses_code em c (exit_to l ∷ xs) l (l + 2) (l + 2 + n) (p + 3 + length tests) cs in
        let cover = guarded (p + 1) (filters_of em (types_of cs)) c in
        let body = region_code em cover (exit_to l ∷ xs) (l + 2 + n + labels_clauses cs) (p + 4 + length tests + length handlers) x in
        let r = q + 3 + length tests in
        let s = r + length handlers + 1 in
        let handling = clauses_marked cs c (exit_to l ∷ xs) l (l + 2) (l + 2 + n) (p + 3 + length tests) r in
        let inside = region_marked x cover (exit_to l ∷ xs) (l + 2 + n + labels_clauses cs) (p + 4 + length tests + length handlers) s in
        catch_marked g em q r s c xs l cs handlers body refl refl handling inside.all
    region_marked (limit x types) c xs l p q =
        let cover = guarded (p + 1) (em.filter (list_of types) ∷ []) c in
        let inside = region_marked x cover (exit_to l ∷ xs) (l + 3) (p + 7) (q + 1 + 1 + 1 + 1 + 1 + 1 + 1) in
        limit_marked g em q c xs l (em.filter (list_of types)) (region_code em cover (exit_to l ∷ xs) (l + 3) (p + 7) x) inside.all
    region_marked (barrier x) c xs l p q =
        let inside = region_marked x bare (exit_to l ∷ xs) (l + 1) p q in ended g em q xs l (region_code em bare (exit_to l ∷ xs) (l + 1) p x) inside.all
    region_marked (leave_region n) c xs l p q = record { all = leave_marked g em q (inner n) xs; label = λ no. absurd (cc no) }

    all_marked : (rs : RegionList) (c : Cover) (xs : List Exit) (l p q : ℕ) → Marked g em q xs (all_code em c xs l p rs)
    all_marked no_regions c xs l p q = nothing_marked g em q xs
    all_marked (region_then r rs) c xs l p q =
        let first = region_code em c xs l p r in
        let one = region_marked r c xs l p q in
        both_parts g em q (q + length first) xs first (all_code em c xs (l + labels r) (p + length first) rs) refl one.all (all_marked rs c xs (l + labels r) (p + length first) (q + length first))

    clauses_marked : (cs : Clauses) (c : Cover) (xs : List Exit) (last first l p q : ℕ) → HandlersMarked g em q xs last (clauses_code em c xs last first l p cs)
    clauses_marked no_clauses c xs last first l p q = no_handlers g em q xs last
    clauses_marked (clause_then t x r cs) c xs last first l p q =
        let body = region_code em c xs l (p + 2) r in
        let z = q + length body + 3 in
        let one = region_marked r c xs l (p + 2) (q + 1 + 1) in
        let others = clauses_marked cs c xs last (first + 1) (l + labels r) (p + 3 + length body) z in
        one_handler g em q z xs last first x body (clauses_code em c xs last (first + 1) (l + labels r) (p + 3 + length body) cs) refl one.all others
