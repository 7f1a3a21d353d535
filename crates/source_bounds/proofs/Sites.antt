-- The sites of a function are no more than its operations out of which something may come.
use Rattle.std.proofs.Common.{◌≡◌, ℕ, ◌+◌, ◌≤◌, Bool, true, false, List, [], ◌∷◌, ◌++◌, length, Option, Some, None, refl, if◌then◌else◌, arith}
use Rattle.region_forms.specs.Form.{Op, Cleanup, destroy_scope, destroy_part, free_object, leave_handler, Region, seq, op, branch, loop, protect, catch, limit, barrier, leave_region, RegionList, no_regions, region_then, Clauses, no_clauses, clause_then, RegionFunction}
use Rattle.region_forms.specs.Guard.{types_of}
use Rattle.linear_forms.specs.Linear.{label, jump, resume, return, CodeSite}
use Rattle.linear_forms.specs.Tables.{Cover, bare, unpadded, padded, list_of}
use Rattle.linear_forms.specs.Sites.{Placed, site_at, single_sites, joins, joined_from, merged}
use Rattle.linear_forms.specs.Distinct.{distinct}
use Rattle.linear_forms.specs.Exits.{Exit, exit_to, inner, first_label, crosses, name_of, beyond, outs_of}
use Rattle.linear_forms.specs.Emission.{Emitting, may_raise, quiet, outward, put, guarded, cleaned, set_way, leave_code, way_tests, pad_cleanup, exit_cleanup, protect_exit, no_way_out, exit_code, filters_of}
use Rattle.linear_forms.specs.Code.{labels, labels_clauses, clause_tests, region_code, all_code, clauses_code}
use Rattle.linear_forms.specs.Unit.{emitting, placed_code, function_code}
use Rattle.source_bounds.specs.TableWeights.{cleanup_sites, sites_in, sites_in_all, sites_in_clauses}

-- 1 for a cover that has a site
abbrev sited : Cover → ℕ
sited bare = 0
sited unpadded = 1
sited (padded p chain) = 1

abbrev covered : List Placed → ℕ
covered [] = 0
covered (x ∷ xs) = sited x.cover + covered xs

covered-append : (a b : List Placed) → covered (a ++ b) ≡ covered a + covered b
covered-append [] b = omega arith
covered-append (x ∷ a) b = omega (arith, covered-append a b)

one_sited : (c : Cover) → sited c ≤ 1
one_sited bare = omega arith
one_sited unpadded = omega arith
one_sited (padded p chain) = omega arith

put_sited : (o : Op) (c : Cover) → sited (put o c).cover ≤ (if may_raise o then 1 else 0)
put_sited o c = go (may_raise o)
  where
    go : (b : Bool) → sited (if b then c else bare) ≤ (if b then 1 else 0)
    go true = one_sited c
    go false = omega arith

leave_quiet : (em : Emitting) (n : ℕ) (xs : List Exit) → covered (leave_code em n xs) ≡ 0
leave_quiet em n xs = go (crosses n xs)
  where
    go : (b : Bool) → covered (if b then set_way em (name_of n xs) ∷ quiet (jump (first_label n xs)) ∷ [] else quiet (jump (first_label n xs)) ∷ []) ≡ 0
    go true = refl
    go false = refl

tests_quiet : (em : Emitting) (xs : List Exit) (outs : List ℕ) → covered (way_tests em xs outs) ≡ 0
tests_quiet em xs [] = refl
tests_quiet em xs (n ∷ outs) = omega (arith, tests_quiet em xs outs)

no_way_quiet : (em : Emitting) (outs : List ℕ) → covered (no_way_out em outs) ≡ 0
no_way_quiet em [] = refl
no_way_quiet em (n ∷ outs) = refl

clause_tests_quiet : (em : Emitting) (l : ℕ) (cs : Clauses) → covered (clause_tests em l cs) ≡ 0
clause_tests_quiet em l no_clauses = refl
clause_tests_quiet em l (clause_then t s r cs) = omega (arith, clause_tests_quiet em (l + 1) cs)

-- the cleanup of normal exits has at most one site
abbrev exits_with : Option Op → ℕ
exits_with None = 0
exits_with (Some o) = 1

exit_sited : (em : Emitting) (o : Option Op) (c : Cover) (xs : List Exit) (l : ℕ) (outs : List ℕ) → covered (exit_code em o c xs l outs) ≤ exits_with o
exit_sited em None c xs l outs = omega arith
exit_sited em (Some o) c xs l outs =
    omega (
      arith,
      covered-append (no_way_out em outs) (quiet (label (l + 2)) ∷ put o c ∷ way_tests em xs outs),
      no_way_quiet em outs,
      tests_quiet em xs outs,
      one_sited (put o c).cover,
    )

pad_quiet : (cl : Cleanup) → sited (pad_cleanup cl).cover ≡ 0
pad_quiet (destroy_scope p n) = refl
pad_quiet (destroy_part p n) = refl
pad_quiet (free_object s) = refl
pad_quiet leave_handler = refl

cleanup_sited : (cl : Cleanup) → exits_with (exit_cleanup cl) + 1 ≤ cleanup_sites cl
cleanup_sited (destroy_scope p n) = omega arith
cleanup_sited (destroy_part p n) = omega arith
cleanup_sited (free_object s) = omega arith
cleanup_sited leave_handler = omega arith

mutual
  region_sited : (r : Region) (em : Emitting) (c : Cover) (xs : List Exit) (l p : ℕ) → covered (region_code em c xs l p r) ≤ sites_in r
  region_sited (seq rs) em c xs l p =
      omega (arith, covered-append (all_code em c (exit_to l ∷ xs) (l + 1) p rs) (quiet (label l) ∷ []), all_sited rs em c (exit_to l ∷ xs) (l + 1) p)
  region_sited (op o) em c xs l p = omega (arith, put_sited o c)
  region_sited (branch v a b) em c xs l p =
      let first = region_code em c (exit_to l ∷ xs) (l + 2) (p + 1) a in
      let second = region_code em c (exit_to l ∷ xs) (l + 2 + labels a) (p + 3 + length first) b in
      omega (
        arith,
        covered-append first (quiet (jump l) ∷ quiet (label (l + 1)) ∷ (second ++ quiet (label l) ∷ [])),
        covered-append second (quiet (label l) ∷ []),
        region_sited a em c (exit_to l ∷ xs) (l + 2) (p + 1),
        region_sited b em c (exit_to l ∷ xs) (l + 2 + labels a) (p + 3 + length first),
      )
  region_sited (loop v r) em c xs l p =
      omega (
        arith,
        covered-append (region_code em c (exit_to l ∷ xs) (l + 2) (p + 2) r) (quiet (jump (l + 1)) ∷ quiet (label l) ∷ []),
        region_sited r em c (exit_to l ∷ xs) (l + 2) (p + 2),
      )
  region_sited (protect r cl) em c xs l p =
      let outs = distinct (beyond (outs_of r)) in
      let exits = exit_code em (exit_cleanup cl) c xs l outs in
      let body = region_code em (cleaned em (p + 1) c) (protect_exit cl l ∷ xs) (l + 3) (p + 5) r in
      omega (
        arith,
        one_sited c,
        pad_quiet cl,
        exit_sited em (exit_cleanup cl) c xs l outs,
        cleanup_sited cl,
        covered-append body (exits ++ quiet (label l) ∷ []),
        covered-append exits (quiet (label l) ∷ []),
        region_sited r em (cleaned em (p + 1) c) (protect_exit cl l ∷ xs) (l + 3) (p + 5),
      )
  region_sited (catch r cs) em c xs l p =
      let n = length (types_of cs) in
      let tests = clause_tests em (l + 2) cs in
      let handlers = clauses_code em c (exit_to l ∷ xs) l (l + 2) (l + 2 + n) (p + 3 + length tests) cs in
      let inside = guarded (p + 1) (filters_of em (types_of cs)) c in
      let body = region_code em inside (exit_to l ∷ xs) (l + 2 + n + labels_clauses cs) (p + 4 + length tests + length handlers) r in
      omega (
        arith,
        one_sited c,
        clause_tests_quiet em (l + 2) cs,
        covered-append tests (outward (resume em.object) c ∷ (handlers ++ quiet (label (l + 1)) ∷ (body ++ quiet (label l) ∷ []))),
        covered-append handlers (quiet (label (l + 1)) ∷ (body ++ quiet (label l) ∷ [])),
        covered-append body (quiet (label l) ∷ []),
        clauses_sited cs em c (exit_to l ∷ xs) l (l + 2) (l + 2 + n) (p + 3 + length tests),
        region_sited r em inside (exit_to l ∷ xs) (l + 2 + n + labels_clauses cs) (p + 4 + length tests + length handlers),
      )
  region_sited (limit r types) em c xs l p =
      let inside = guarded (p + 1) (em.filter (list_of types) ∷ []) c in
      omega (arith, one_sited c, covered-append (region_code em inside (exit_to l ∷ xs) (l + 3) (p + 7) r) (quiet (label l) ∷ []), region_sited r em inside (exit_to l ∷ xs) (l + 3) (p + 7))
  region_sited (barrier r) em c xs l p =
      omega (arith, covered-append (region_code em bare (exit_to l ∷ xs) (l + 1) p r) (quiet (label l) ∷ []), region_sited r em bare (exit_to l ∷ xs) (l + 1) p)
  region_sited (leave_region n) em c xs l p = omega (arith, leave_quiet em (inner n) xs)

  all_sited : (rs : RegionList) (em : Emitting) (c : Cover) (xs : List Exit) (l p : ℕ) → covered (all_code em c xs l p rs) ≤ sites_in_all rs
  all_sited no_regions em c xs l p = omega arith
  all_sited (region_then r rs) em c xs l p =
      let first = region_code em c xs l p r in
      omega (
        arith,
        covered-append first (all_code em c xs (l + labels r) (p + length first) rs),
        region_sited r em c xs l p,
        all_sited rs em c xs (l + labels r) (p + length first),
      )

  clauses_sited : (cs : Clauses) (em : Emitting) (c : Cover) (xs : List Exit) (end first l p : ℕ) → covered (clauses_code em c xs end first l p cs) ≤ sites_in_clauses cs
  clauses_sited no_clauses em c xs end first l p = omega arith
  clauses_sited (clause_then t s r cs) em c xs end first l p =
      let body = region_code em c xs l (p + 2) r in
      omega (
        arith,
        covered-append body (quiet (jump end) ∷ clauses_code em c xs end (first + 1) (l + labels r) (p + 3 + length body) cs),
        region_sited r em c xs l (p + 2),
        clauses_sited cs em c xs end (first + 1) (l + labels r) (p + 3 + length body),
      )

-- joining makes no site more
joined_few : (s : CodeSite) (sites : List CodeSite) → length (joined_from s sites) ≤ length sites + 1
joined_few s [] = omega arith
joined_few s (t ∷ sites) = go (joins s t) (joined_few (record s { end = t.end }) sites) (joined_few t sites)
  where
    go : (b : Bool) → length (joined_from (record s { end = t.end }) sites) ≤ length sites + 1 → length (joined_from t sites) ≤ length sites + 1 →
        length (if b then joined_from (record s { end = t.end }) sites else s ∷ joined_from t sites) ≤ length (t ∷ sites) + 1
    go true h k = omega (arith, h)
    go false h k = omega (arith, k)

merged_few : (sites : List CodeSite) → length (merged sites) ≤ length sites
merged_few [] = omega arith
merged_few (s ∷ sites) = omega (arith, joined_few s sites)

one_site : (c : Cover) (p : ℕ) (sites : List CodeSite) → length (site_at p c ++ sites) ≡ sited c + length sites
one_site bare p sites = omega arith
one_site unpadded p sites = omega arith
one_site (padded q chain) p sites = omega arith

single_few : (code : List Placed) (p : ℕ) → length (single_sites p code) ≡ covered code
single_few [] p = refl
single_few (x ∷ xs) p = omega (arith, single_few xs (p + 1), one_site x.cover p (single_sites (p + 1) xs))

pub sites_are_few : (f : RegionFunction) → length (function_code f).sites ≤ sites_in f.body
sites_are_few f =
    let body = region_code (emitting f) unpadded [] 0 0 f.body in
    omega (
      arith,
      merged_few (single_sites 0 (placed_code f)),
      single_few (placed_code f) 0,
      covered-append body (quiet (return f.result) ∷ []),
      region_sited f.body (emitting f) unpadded [] 0 0,
    )
