-- The code of a region has the label of the region's end behind all else, or no label.
use Rattle.std.proofs.Common.{◌≡◌, ℕ, ◌+◌, true, List, [], ◌∷◌, ◌++◌, length, refl, ap}
use Rattle.region_forms.specs.Form.{Region, seq, op, branch, loop, protect, catch, limit, barrier, leave_region}
use Rattle.region_forms.specs.Guard.{types_of}
use Rattle.linear_forms.specs.Linear.{label}
use Rattle.linear_forms.specs.Tables.{Cover, bare, list_of}
use Rattle.linear_forms.specs.Sites.{Placed}
use Rattle.linear_forms.specs.Distinct.{distinct}
use Rattle.linear_forms.specs.Exits.{Exit, exit_to, beyond, outs_of}
use Rattle.linear_forms.specs.Emission.{Emitting, quiet, cleaned, guarded, protect_exit, filters_of, exit_cleanup, exit_code}
use Rattle.linear_forms.specs.Code.{labels, labels_clauses, clause_tests, region_code, all_code, clauses_code}
use Rattle.cost_paths.proofs.Regions.{has_end}

-- a label stands behind all else
pub record Ends (l : ℕ) (is : List Placed) : Type 0 where
  pub front : List Placed
  pub same : is ≡ front ++ quiet (label l) ∷ []

end_one : (l : ℕ) → Ends l (quiet (label l) ∷ [])
end_one l = record { front = []; same = refl }

end_then : (l : ℕ) (x : Placed) (is : List Placed) → Ends l is → Ends l (x ∷ is)
end_then l x is h = record { front = x ∷ h.front; same = ap (λ xs. x ∷ xs) h.same }

end_both : (l : ℕ) (a b : List Placed) → Ends l b → Ends l (a ++ b)
end_both l [] b h = h
end_both l (x ∷ a) b h = end_then l x (a ++ b) (end_both l a b h)

end_behind : (l : ℕ) (a : List Placed) → Ends l (a ++ quiet (label l) ∷ [])
end_behind l a = record { front = a; same = refl }

pub region_ends : (em : Emitting) (a : Region) (c : Cover) (xs : List Exit) (l p : ℕ) → has_end a ≡ true → Ends l (region_code em c xs l p a)
region_ends em (seq rs) c xs l p e = end_behind l (all_code em c (exit_to l ∷ xs) (l + 1) p rs)
region_ends em (op o) c xs l p e = absurd (cc e)
region_ends em (branch v a b) c xs l p e =
    let first = region_code em c (exit_to l ∷ xs) (l + 2) (p + 1) a in
    let second = region_code em c (exit_to l ∷ xs) (l + 2 + labels a) (p + 3 + length first) b in
    end_then l _ _ (end_both l first _ (end_then l _ _ (end_then l _ _ (end_behind l second))))
region_ends em (loop v a) c xs l p e =
    let body = region_code em c (exit_to l ∷ xs) (l + 2) (p + 2) a in
    end_then l _ _ (end_then l _ _ (end_both l body _ (end_then l _ _ (end_one l))))
region_ends em (protect a cl) c xs l p e =
    let outs = distinct (beyond (outs_of a)) in
    let body = region_code em (cleaned em (p + 1) c) (protect_exit cl l ∷ xs) (l + 3) (p + 5) a in
    end_then l _ _ (end_then l _ _ (end_then l _ _ (end_then l _ _ (end_then l _ _ (end_both l body _ (end_behind l (exit_code em (exit_cleanup cl) c xs l outs)))))))
region_ends em (catch a cs) c xs l p e =
    let tests = clause_tests em (l + 2) cs in
    let k = length (types_of cs) in
    let handlers = clauses_code em c (exit_to l ∷ xs) l (l + 2) (l + 2 + k) (p + 3 + length tests) cs in
    let body = region_code em (guarded (p + 1) (filters_of em (types_of cs)) c) (exit_to l ∷ xs) (l + 2 + k + labels_clauses cs) (p + 4 + length tests + length handlers) a in
    end_then l _ _ (end_then l _ _ (end_both l tests _ (end_then l _ _ (end_both l handlers _ (end_then l _ _ (end_behind l body))))))
region_ends em (limit a types) c xs l p e =
    let body = region_code em (guarded (p + 1) (em.filter (list_of types) ∷ []) c) (exit_to l ∷ xs) (l + 3) (p + 7) a in
    end_then l _ _ (end_then l _ _ (end_then l _ _ (end_then l _ _ (end_then l _ _ (end_then l _ _ (end_then l _ _ (end_behind l body)))))))
region_ends em (barrier a) c xs l p e = end_behind l (region_code em bare (exit_to l ∷ xs) (l + 1) p a)
region_ends em (leave_region n) c xs l p e = absurd (cc e)
