-- What holds of all operations of a region, and of those that code adds to them, holds of all operations of its linear code.
use Rattle.std.proofs.Common.{arith, ◌≤◌, ◌≡◌, refl, subst, ℕ, zero, suc, ◌+◌, Bool, true, false, List, [], ◌∷◌, ◌++◌, length, Some, if◌then◌else◌}
use Rattle.std.specs.Prelude.{⊤, ◌||◌, map, drop, slice_get, ℤ, pos}
use Rattle.cxx_ast.specs.declared.expression.BinaryOp.TheVariants.{NotEqual}
use Rattle.region_forms.specs.Form.{through, Value, number, load, binary, Op, store, bind, leave, destroy, Cleanup, destroy_scope, destroy_part, free_object, leave_handler, Region, seq, op, branch, loop, protect, catch, limit, barrier, leave_region, RegionList, no_regions, region_then, Clauses, no_clauses, clause_then}
use Rattle.region_forms.specs.Guard.{types_of}
use Rattle.linear_forms.specs.Linear.{LinearOp, plain, label, jump, jump_zero, pad, jump_filter, free, resume, unexpected}
use Rattle.linear_forms.specs.Tables.{Cover, bare, list_of}
use Rattle.linear_forms.specs.Sites.{Placed}
use Rattle.linear_forms.specs.Distinct.{distinct}
use Rattle.linear_forms.specs.Exits.{Exit, exit_to, inner, beyond, outs_of, crosses, name_of, first_label}
use Rattle.linear_forms.specs.Emission.{Emitting, quiet, outward, put, guarded, cleaned, way_place, set_way, leave_code, way_tests, pad_cleanup, exit_cleanup, protect_exit, no_way_out, exit_code, filters_of}
use Rattle.linear_forms.specs.Code.{labels, labels_clauses, clause_tests, region_code, all_code, clauses_code}
use Rattle.linear_forms.specs.Frame.{has_pad, some_has_pad}
use Rattle.address_bounds.specs.Everywhere.{Said, CleanupAll, RegionAll, RegionsAll, ClausesAll, holders, holders_all, holders_clauses}

-- What is to be shown of operations of linear code: of those of regions by what is said of them, and of those that code adds, some of which
-- only a function with pads has. The names of exits are no greater than the number of regions that hold others.
pub record Shows (said : Said) (P : LinearOp → Type 0) (em : Emitting) (padded : Type 0) (most : ℕ) : Type 0 where
  pub operation : (o : Op) → said.operation o → P (plain o)
  pub leaves : P (plain leave)
  pub test : (v : Value) (l : ℕ) → said.test v → P (jump_zero v l)
  pub caught : (s : ℕ) → padded → said.caught s → P (plain (bind s (record { root = through em.object; offset = 0 })))
  pub freed : (s : ℕ) → said.freed s → P (free s)
  pub way_set : (n : ℕ) → n ≤ most → padded → P (plain (store (way_place em) (number (pos n))))
  pub way_test : (n l : ℕ) → n ≤ most → padded → P (jump_zero (binary NotEqual (load (way_place em)) (number (pos n))) l)
  pub labels : (l : ℕ) → P (label l)
  pub jumps : (l : ℕ) → P (jump l)
  pub pads : padded → P (pad em.object em.selector)
  pub filters : (n : ℤ) (l : ℕ) → padded → P (jump_filter em.selector n l)
  pub resumes : padded → P (resume em.object)
  pub passes : padded → P (unexpected em.object em.selector)

-- the name of an exit is no greater than how many regions hold its place
name_small : (n : ℕ) (xs : List Exit) → name_of n xs ≤ length xs
name_small zero xs = let same : length (drop zero xs) ≡ length xs = refl in omega (arith, same)
name_small (suc n) [] = omega arith
name_small (suc n) (x ∷ xs) = let more = name_small n xs in omega (arith, more)

left_is : (a b : Bool) → a ≡ true → (a || b) ≡ true
left_is true b e = refl
left_is false b e = absurd (cc e)

right_is : (a b : Bool) → b ≡ true → (a || b) ≡ true
right_is true b e = refl
right_is false b e = e

module _ (said : Said) (P : LinearOp → Type 0) (em : Emitting) (padded : Type 0) (most : ℕ) (s : Shows said P em padded most) where
  abbrev pub Placeds : List Placed → Type 0
  Placeds [] = ⊤
  Placeds (x ∷ xs) = P x.op × Placeds xs

  pub both_placed : (xs ys : List Placed) → Placeds xs → Placeds ys → Placeds (xs ++ ys)
  both_placed [] ys a b = b
  both_placed (x ∷ xs) ys a b = (a.0, both_placed xs ys a.1 b)

  -- an exit by way of a cleanup is one of a function with pads
  abbrev pub Crosses : List Exit → Type 0
  Crosses xs = (n : ℕ) → crosses n xs ≡ true → padded

  crosses_on : (xs : List Exit) (l : ℕ) → Crosses xs → Crosses (exit_to l ∷ xs)
  crosses_on xs l h zero e = absurd (cc e)
  crosses_on xs l h (suc n) e = h n e

  ways_placed : padded → (xs : List Exit) → length xs ≤ most → (ns : List ℕ) → Placeds (way_tests em xs ns)
  ways_placed w xs few [] = tt
  ways_placed w xs few (n ∷ ns) = let small = name_small n xs in (s.way_test (name_of n xs) (first_label n xs) (omega (arith, small, few)) w, ways_placed w xs few ns)

  no_way_placed : padded → (ns : List ℕ) → Placeds (no_way_out em ns)
  no_way_placed w [] = tt
  no_way_placed w (n ∷ ns) = (s.way_set 0 (omega arith) w, tt)

  leave_placed : (n : ℕ) (xs : List Exit) → Crosses xs → length xs ≤ most → Placeds (leave_code em n xs)
  leave_placed n xs h few = by (crosses n xs) refl
    where
      by : (b : Bool) → crosses n xs ≡ b → Placeds (if b then set_way em (name_of n xs) ∷ quiet (jump (first_label n xs)) ∷ [] else quiet (jump (first_label n xs)) ∷ [])
      by true e = let small = name_small n xs in (s.way_set (name_of n xs) (omega (arith, small, few)) (h n e), (s.jumps (first_label n xs), tt))
      by false e = (s.jumps (first_label n xs), tt)

  cleanup_placed : (cl : Cleanup) → CleanupAll said cl → P (pad_cleanup cl).op
  cleanup_placed (destroy_scope q d) h = s.operation (destroy q d) h
  cleanup_placed (destroy_part q d) h = s.operation (destroy q d) h
  cleanup_placed (free_object x) h = s.freed x h
  cleanup_placed leave_handler h = s.leaves

  exits_placed : padded → (cl : Cleanup) (c : Cover) (xs : List Exit) → length xs ≤ most → (l : ℕ) (outs : List ℕ) → CleanupAll said cl → Placeds (exit_code em (exit_cleanup cl) c xs l outs)
  exits_placed w (destroy_scope q d) c xs few l outs h = both_placed (no_way_out em outs) (quiet (label (l + 2)) ∷ put (destroy q d) c ∷ way_tests em xs outs) (no_way_placed w outs) (s.labels (l + 2), (s.operation (destroy q d) h, ways_placed w xs few outs))
  exits_placed w (destroy_part q d) c xs few l outs h = tt
  exits_placed w (free_object x) c xs few l outs h = tt
  exits_placed w leave_handler c xs few l outs h = both_placed (no_way_out em outs) (quiet (label (l + 2)) ∷ put leave c ∷ way_tests em xs outs) (no_way_placed w outs) (s.labels (l + 2), (s.leaves, ways_placed w xs few outs))

  tests_placed : padded → (l : ℕ) (cs : Clauses) → Placeds (clause_tests em l cs)
  tests_placed w l no_clauses = tt
  tests_placed w l (clause_then t x r cs) = (s.filters _ l w, tests_placed w (l + 1) cs)

  mutual
    pub region_placed : (c : Cover) (xs : List Exit) (l p : ℕ) (r : Region) → Crosses xs → (has_pad r ≡ true → padded) → length xs + holders r ≤ most → RegionAll said r → Placeds (region_code em c xs l p r)
    region_placed c xs l p (seq rs) x up few h =
        both_placed (all_code em c (exit_to l ∷ xs) (l + 1) p rs) (quiet (label l) ∷ []) (all_placed c (exit_to l ∷ xs) (l + 1) p rs (crosses_on xs l x) up (omega (arith, few)) h) (s.labels l, tt)
    region_placed c xs l p (op o) x up few h = (s.operation o h, tt)
    region_placed c xs l p (branch v a b) x up few h =
        let first : List Placed = region_code em c (exit_to l ∷ xs) (l + 2) (p + 1) a in
        let second : List Placed = region_code em c (exit_to l ∷ xs) (l + 2 + labels a) (p + 3 + length first) b in
        let a_placed = region_placed c (exit_to l ∷ xs) (l + 2) (p + 1) a (crosses_on xs l x) (λ e. up (left_is (has_pad a) (has_pad b) e)) (omega (arith, few)) h.1 in
        let b_placed = region_placed c (exit_to l ∷ xs) (l + 2 + labels a) (p + 3 + length first) b (crosses_on xs l x) (λ e. up (right_is (has_pad a) (has_pad b) e)) (omega (arith, few)) h.2 in
        let behind = both_placed second (quiet (label l) ∷ []) b_placed (s.labels l, tt) in
        (s.test v (l + 1) h.0, both_placed first (quiet (jump l) ∷ quiet (label (l + 1)) ∷ (second ++ quiet (label l) ∷ [])) a_placed (s.jumps l, (s.labels (l + 1), behind)))
    region_placed c xs l p (loop v a) x up few h =
        let body = region_placed c (exit_to l ∷ xs) (l + 2) (p + 2) a (crosses_on xs l x) up (omega (arith, few)) h.1 in
        let all = both_placed (region_code em c (exit_to l ∷ xs) (l + 2) (p + 2) a) (quiet (jump (l + 1)) ∷ quiet (label l) ∷ []) body (s.jumps (l + 1), (s.labels l, tt)) in
        (s.labels (l + 1), (s.test v l h.0, all))
    region_placed c xs l p (protect r cl) x up few h =
        let w : padded = up refl in
        let body : List Placed = region_code em (cleaned em (p + 1) c) (protect_exit cl l ∷ xs) (l + 3) (p + 5) r in
        let outs : List ℕ = distinct (beyond (outs_of r)) in
        let body_placed = region_placed (cleaned em (p + 1) c) (protect_exit cl l ∷ xs) (l + 3) (p + 5) r (λ n e. w) (λ e. w) (omega (arith, few)) h.0 in
        let exits = both_placed (exit_code em (exit_cleanup cl) c xs l outs) (quiet (label l) ∷ []) (exits_placed w cl c xs (omega (arith, few)) l outs h.1) (s.labels l, tt) in
        let behind = both_placed body (exit_code em (exit_cleanup cl) c xs l outs ++ quiet (label l) ∷ []) body_placed exits in
        let from_resume : Placeds (outward (resume em.object) c ∷ quiet (label (l + 1)) ∷ (body ++ (exit_code em (exit_cleanup cl) c xs l outs ++ quiet (label l) ∷ []))) = (s.resumes w, (s.labels (l + 1), behind)) in
        (s.jumps (l + 1), (s.pads w, (cleanup_placed cl h.1, from_resume)))
    region_placed c xs l p (catch r cs) x up few h =
        let w : padded = up refl in
        let tests : List Placed = clause_tests em (l + 2) cs in
        let handlers : List Placed = clauses_code em c (exit_to l ∷ xs) l (l + 2) (l + 2 + length (types_of cs)) (p + 3 + length tests) cs in
        let cover : Cover = guarded (p + 1) (filters_of em (types_of cs)) c in
        let first : ℕ = l + 2 + length (types_of cs) + labels_clauses cs in
        let place : ℕ = p + 4 + length tests + length handlers in
        let body : List Placed = region_code em cover (exit_to l ∷ xs) first place r in
        let body_placed = region_placed cover (exit_to l ∷ xs) first place r (crosses_on xs l x) (λ e. w) (omega (arith, few)) h.0 in
        let handlers_placed = clauses_placed c (exit_to l ∷ xs) l (l + 2) (l + 2 + length (types_of cs)) (p + 3 + length tests) cs (crosses_on xs l x) w (omega (arith, few)) h.1 in
        let behind = both_placed body (quiet (label l) ∷ []) body_placed (s.labels l, tt) in
        let from_handlers = both_placed handlers (quiet (label (l + 1)) ∷ (body ++ quiet (label l) ∷ [])) handlers_placed (s.labels (l + 1), behind) in
        (s.jumps (l + 1), (s.pads w, both_placed tests (outward (resume em.object) c ∷ (handlers ++ quiet (label (l + 1)) ∷ (body ++ quiet (label l) ∷ []))) (tests_placed w (l + 2) cs) (s.resumes w, from_handlers)))
    region_placed c xs l p (limit r types) x up few h =
        let w : padded = up refl in
        let cover : Cover = guarded (p + 1) (em.filter (list_of types) ∷ []) c in
        let body_placed = region_placed cover (exit_to l ∷ xs) (l + 3) (p + 7) r (crosses_on xs l x) (λ e. w) (omega (arith, few)) h in
        let body : List Placed = region_code em cover (exit_to l ∷ xs) (l + 3) (p + 7) r in
        let behind = both_placed body (quiet (label l) ∷ []) body_placed (s.labels l, tt) in
        let from_passing : Placeds (outward (unexpected em.object em.selector) c ∷ quiet (label (l + 1)) ∷ (body ++ quiet (label l) ∷ [])) = (s.passes w, (s.labels (l + 1), behind)) in
        let from_resume : Placeds (outward (resume em.object) c ∷ quiet (label (l + 2)) ∷ outward (unexpected em.object em.selector) c ∷ quiet (label (l + 1)) ∷ (body ++ quiet (label l) ∷ [])) = (s.resumes w, (s.labels (l + 2), from_passing)) in
        (s.jumps (l + 1), (s.pads w, (s.filters (em.filter (list_of types)) (l + 2) w, from_resume)))
    region_placed c xs l p (barrier r) x up few h =
        both_placed (region_code em bare (exit_to l ∷ xs) (l + 1) p r) (quiet (label l) ∷ []) (region_placed bare (exit_to l ∷ xs) (l + 1) p r (crosses_on xs l x) up (omega (arith, few)) h) (s.labels l, tt)
    region_placed c xs l p (leave_region n) x up few h = leave_placed (inner n) xs x (omega (arith, few))

    all_placed : (c : Cover) (xs : List Exit) (l p : ℕ) (rs : RegionList) → Crosses xs → (some_has_pad rs ≡ true → padded) → length xs + holders_all rs ≤ most → RegionsAll said rs → Placeds (all_code em c xs l p rs)
    all_placed c xs l p no_regions x up few h = tt
    all_placed c xs l p (region_then r rs) x up few h =
        let a : List Placed = region_code em c xs l p r in
        both_placed a (all_code em c xs (l + labels r) (p + length a) rs) (region_placed c xs l p r x (λ e. up (left_is (has_pad r) (some_has_pad rs) e)) (omega (arith, few)) h.0)
        (all_placed c xs (l + labels r) (p + length a) rs x (λ e. up (right_is (has_pad r) (some_has_pad rs) e)) (omega (arith, few)) h.1)

    clauses_placed : (c : Cover) (xs : List Exit) (end first l p : ℕ) (cs : Clauses) → Crosses xs → padded → length xs + holders_clauses cs ≤ most → ClausesAll said cs → Placeds (clauses_code em c xs end first l p cs)
    clauses_placed c xs end first l p no_clauses x w few h = tt
    clauses_placed c xs end first l p (clause_then t y r cs) x w few h =
        let a : List Placed = region_code em c xs l (p + 2) r in
        let rest = clauses_placed c xs end (first + 1) (l + labels r) (p + 3 + length a) cs x w (omega (arith, few)) h.2 in
        let body = both_placed a (quiet (jump end) ∷ clauses_code em c xs end (first + 1) (l + labels r) (p + 3 + length a) cs) (region_placed c xs l (p + 2) r x (λ e. w) (omega (arith, few)) h.1) (s.jumps end, rest) in
        (s.labels first, (s.caught y w h.0, body))

  pub ops_are : (xs : List Placed) → Placeds xs → (place : ℕ) (o : LinearOp) → slice_get (map (λ x. x.op) xs) place ≡ Some o → P o
  ops_are [] h place o e = absurd (cc e)
  ops_are (x ∷ xs) h zero o e = let same : x.op ≡ o = cc e in subst P same h.0
  ops_are (x ∷ xs) h (suc place) o e = ops_are xs h.1 place o e
