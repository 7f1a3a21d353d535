-- The covers of a region's code say the guards around each operation.
use Rattle.std.proofs.Common.{◌≡◌, ℕ, zero, suc, ◌+◌, ℤ, Bool, true, false, List, [], ◌∷◌, ◌++◌, length, map, Option, Some, None, refl, sym, ap, subst}
use Rattle.std.specs.Prelude.{⊤, nat_lt, ◌&&◌, ◌||◌, take, is_some, if◌then◌else◌}
use Rattle.linear_forms.proofs.Integers.{both_hold}
use Rattle.region_forms.specs.Form.{Slot, Op, Cleanup, destroy_scope, destroy_part, free_object, leave_handler, Region, seq, op, branch, loop, protect, catch, limit, barrier, leave_region, RegionList, no_regions, region_then, Clauses, no_clauses, clause_then, Regions}
use Rattle.region_forms.specs.Guard.{Guard, clauses, listed, everything, types_of}
use Rattle.region_forms.specs.WellFormed.{every, is_op, is_help, pure_value, slot_test, cleanup_test, clause_type_test, region_test, regions_test, clauses_test}
use Rattle.linear_forms.specs.Linear.{label, jump}
use Rattle.linear_forms.specs.Tables.{Cover, bare, Sense, list_of}
use Rattle.linear_forms.specs.Agrees.{IsSited}
use Rattle.linear_forms.specs.Means.{FiltersMean, AllFiltersMean, ClauseFiltersMean}
use Rattle.linear_forms.specs.Sites.{Placed}
use Rattle.linear_forms.specs.Distinct.{distinct}
use Rattle.linear_forms.specs.Exits.{Exit, exit_to, inner, first_label, crosses, name_of, beyond, outs_of}
use Rattle.linear_forms.specs.Emission.{Emitting, quiet, put, set_way, leave_code, way_tests, no_way_out, pad_cleanup, exit_cleanup, exit_code, cleaned, guarded, protect_exit, filters_of}
use Rattle.linear_forms.specs.Code.{labels, labels_clauses, clause_tests, region_code, all_code, clauses_code}
use Rattle.handler_choice.specs.Around.{goes_out, each, meets_cleanup, leaving, cleaning, guards_in, guards_in_all, guards_in_handlers}
use Rattle.handler_choice.specs.Says.{Says}
use Rattle.handler_choice.proofs.Covers.{opens, cleaned_says, caught_says, limited_says}

-- an operation out of which something may come has a cover that says its guards
abbrev pub Said : (ℤ → Sense) → Placed → List Guard → Type 0
Said senses x gs = goes_out x.op ≡ true → Says senses gs x.cover

-- so each of a code, beside which the guards stand
abbrev pub AllSaid : (ℤ → Sense) → List Placed → List (List Guard) → Type 0
AllSaid senses [] [] = ⊤
AllSaid senses (x ∷ xs) (gs ∷ gss) = Said senses x gs × AllSaid senses xs gss
AllSaid senses xs gss = ⊥

pub both_said : (senses : ℤ → Sense) (a b : List Placed) (ga gb : List (List Guard)) → AllSaid senses a ga → AllSaid senses b gb → AllSaid senses (a ++ b) (ga ++ gb)
both_said senses [] b [] gb h k = k
both_said senses [] b (gs ∷ ga) gb h k = absurd h
both_said senses (x ∷ a) b [] gb h k = absurd h
both_said senses (x ∷ a) b (gs ∷ ga) gb h k = (h.0, both_said senses a b ga gb h.1 k)

-- as many guards as operations
pub as_many : (senses : ℤ → Sense) (a : List Placed) (ga : List (List Guard)) → AllSaid senses a ga → length ga ≡ length a
as_many senses [] [] h = refl
as_many senses [] (gs ∷ ga) h = absurd h
as_many senses (x ∷ a) [] h = absurd h
as_many senses (x ∷ a) (gs ∷ ga) h = ap suc (as_many senses a ga h.1)

no : {A : Type 0} → false ≡ true → A
no e = absurd (cc e)

-- a region that holds a part has a cleanup at normal exits
abbrev has_cleanup : Exit → Bool
has_cleanup x = is_some x.cleanup

abbrev pub ways_of : List Exit → List Bool
ways_of xs = map has_cleanup xs

meets_same : (n : ℕ) (xs : List Exit) → crosses n xs ≡ meets_cleanup n (ways_of xs)
meets_same n [] = refl
meets_same zero (x ∷ xs) = go x.cleanup
  where
    go : (c : Option ℕ) → (elim c [ None ↦ false | Some l ↦ true ]) ≡ is_some c
    go None = refl
    go (Some l) = refl
meets_same (suc n) (x ∷ xs) = go x.cleanup (meets_same n xs)
  where
    go : (c : Option ℕ) → crosses n xs ≡ meets_cleanup n (ways_of xs) → (elim c [ None ↦ crosses n xs | Some l ↦ true ]) ≡ (is_some c || meets_cleanup n (ways_of xs))
    go None same = same
    go (Some l) same = refl

-- what a cleanup region says of itself
way_same : (cl : Cleanup) (l : ℕ) → has_cleanup (protect_exit cl l) ≡ is_some (exit_cleanup cl)
way_same (destroy_scope p d) l = refl
way_same (destroy_part p d) l = refl
way_same (free_object s) l = refl
way_same leave_handler l = refl

module _ (senses : ℤ → Sense) (em : Emitting) (r : Regions) (slots : List Slot) where
  abbrev All : List Placed → List (List Guard) → Type 0
  All = AllSaid senses

  abbrev both : (a b : List Placed) (ga gb : List (List Guard)) → All a ga → All b gb → All (a ++ b) (ga ++ gb)
  both = both_said senses

  -- an operation of regions
  put_said : (o : Op) (gs : List Guard) (c : Cover) → Says senses gs c → Said senses (put o c) gs
  put_said o gs c h = λ e. subst (λ b. Says senses gs (if b then c else bare)) (sym e) h

  leave_said : (n : ℕ) (out : List Guard) (xs : List Exit) → All (leave_code em n xs) (leaving out (meets_cleanup n (ways_of xs)))
  leave_said n out xs = subst (λ w. All (leave_code em n xs) (leaving out w)) (meets_same n xs) (go (crosses n xs))
    where
      go : (b : Bool) → All (if b then set_way em (name_of n xs) ∷ quiet (jump (first_label n xs)) ∷ [] else quiet (jump (first_label n xs)) ∷ []) (leaving out b)
      go true = (no, (no, tt))
      go false = (no, tt)

  ways_said : (out : List Guard) (xs : List Exit) (outs : List ℕ) → All (way_tests em xs outs) (each out outs)
  ways_said out xs [] = tt
  ways_said out xs (n ∷ outs) = (no, ways_said out xs outs)

  no_way_said : (out : List Guard) (outs : List ℕ) → All (no_way_out em outs) (each out (take 1 outs))
  no_way_said out [] = tt
  no_way_said out (n ∷ outs) = (no, tt)

  -- the cleanup of normal exits, and that of the pad
  exit_said : (o : Option Op) (out : List Guard) (c : Cover) (xs : List Exit) (l : ℕ) (outs : List ℕ) → Says senses out c → All (exit_code em o c xs l outs) (cleaning out o outs)
  exit_said None out c xs l outs h = tt
  exit_said (Some o) out c xs l outs h =
      both (no_way_out em outs) (quiet (label (l + 2)) ∷ put o c ∷ way_tests em xs outs) (each out (take 1 outs)) (out ∷ out ∷ each out outs) (no_way_said out outs)
      (no, (put_said o out c h, ways_said out xs outs))

  cleanup_said : (cl : Cleanup) (out : List Guard) → Said senses (pad_cleanup cl) (everything ∷ out)
  cleanup_said (destroy_scope p d) out = λ e. (out, refl)
  cleanup_said (destroy_part p d) out = λ e. (out, refl)
  cleanup_said (free_object s) out = λ e. no e
  cleanup_said leave_handler out = λ e. (out, refl)

  tests_said : (out : List Guard) (l : ℕ) (cs : Clauses) → All (clause_tests em l cs) (each out (types_of cs))
  tests_said out l no_clauses = tt
  tests_said out l (clause_then t s x cs) = (no, tests_said out (l + 1) cs)

  -- a barrier holds one operation
  alone_said : (a : Region) (out : List Guard) (xs : List Exit) (l p : ℕ) → is_op a ≡ true → All (region_code em bare xs l p a) (guards_in (everything ∷ out) (ways_of xs) a)
  alone_said (op o) out xs l p e = (put_said o (everything ∷ out) bare (out, refl), tt)
  alone_said (seq rs) out xs l p e = no e
  alone_said (branch v a b) out xs l p e = no e
  alone_said (loop v a) out xs l p e = no e
  alone_said (protect a cl) out xs l p e = no e
  alone_said (catch a cs) out xs l p e = no e
  alone_said (limit a types) out xs l p e = no e
  alone_said (barrier a) out xs l p e = no e
  alone_said (leave_region n) out xs l p e = no e

  mutual
    pub region_said : (x : Region) (out : List Guard) (c : Cover) (xs : List Exit) (d l p : ℕ) → region_test r slots d x ≡ true → FiltersMean senses em.filter x → IsSited c → Says senses out c →
        All (region_code em c xs l p x) (guards_in out (ways_of xs) x)
    region_said (seq rs) out c xs d l p w m s h =
        both (all_code em c (exit_to l ∷ xs) (l + 1) p rs) (quiet (label l) ∷ []) (guards_in_all out (false ∷ ways_of xs) rs) (out ∷ []) (all_said rs out c (exit_to l ∷ xs) (d + 1) (l + 1) p w m s h) (no, tt)
    region_said (op o) out c xs d l p w m s h = (put_said o out c h, tt)
    region_said (branch v a b) out c xs d l p w m s h =
        let tests = both_hold (region_test r slots (d + 1) a) (region_test r slots (d + 1) b) (both_hold (pure_value r slots v) (region_test r slots (d + 1) a && region_test r slots (d + 1) b) w).1 in
        let first = region_code em c (exit_to l ∷ xs) (l + 2) (p + 1) a in
        let second = region_code em c (exit_to l ∷ xs) (l + 2 + labels a) (p + 3 + length first) b in
        let inside = guards_in out (false ∷ ways_of xs) in (
          no,
          both first (quiet (jump l) ∷ quiet (label (l + 1)) ∷ (second ++ quiet (label l) ∷ [])) (inside a) (out ∷ out ∷ (inside b ++ out ∷ []))
              (region_said a out c (exit_to l ∷ xs) (d + 1) (l + 2) (p + 1) tests.0 m.0 s h)
              (no, (no, both second (quiet (label l) ∷ []) (inside b) (out ∷ []) (region_said b out c (exit_to l ∷ xs) (d + 1) (l + 2 + labels a) (p + 3 + length first) tests.1 m.1 s h) (no, tt))),
        )
    region_said (loop v a) out c xs d l p w m s h =
        let test = (both_hold (pure_value r slots v) (region_test r slots (d + 1) a) w).1 in
        let body = region_code em c (exit_to l ∷ xs) (l + 2) (p + 2) a in
        (no, (no, both body (quiet (jump (l + 1)) ∷ quiet (label l) ∷ []) (guards_in out (false ∷ ways_of xs) a) (out ∷ out ∷ []) (region_said a out c (exit_to l ∷ xs) (d + 1) (l + 2) (p + 2) test m s h) (no, (no, tt))))
    region_said (protect a cl) out c xs d l p w m s h =
        let test = (both_hold (cleanup_test r slots cl) (region_test r slots (d + 1) a) w).1 in
        let inside = cleaned em (p + 1) c in
        let outs = distinct (beyond (outs_of a)) in
        let exits = exit_code em (exit_cleanup cl) c xs l outs in
        let body = region_code em inside (protect_exit cl l ∷ xs) (l + 3) (p + 5) a in
        let said = region_said a out inside (protect_exit cl l ∷ xs) (d + 1) (l + 3) (p + 5) test m.1 tt (cleaned_says senses em out c (p + 1) m.0 (opens senses out c s h)) in (
          no,
          (
            no,
            (
              cleanup_said cl out,
              (
                λ e. h,
                (
                  no,
                  both body (exits ++ quiet (label l) ∷ []) (guards_in out (is_some (exit_cleanup cl) ∷ ways_of xs) a) (cleaning out (exit_cleanup cl) outs ++ out ∷ [])
                      (subst (λ w. All body (guards_in out (w ∷ ways_of xs) a)) (way_same cl l) said)
                      (both exits (quiet (label l) ∷ []) (cleaning out (exit_cleanup cl) outs) (out ∷ []) (exit_said (exit_cleanup cl) out c xs l outs h) (no, tt)),
                ),
              ),
            ),
          ),
        )
    region_said (catch a cs) out c xs d l p w m s h =
        let holds = both_hold (region_test r slots (d + 1) a) (clauses_test r slots (d + 1) cs) w in
        let tests = clause_tests em (l + 2) cs in
        let n = length (types_of cs) in
        let handlers = clauses_code em c (exit_to l ∷ xs) l (l + 2) (l + 2 + n) (p + 3 + length tests) cs in
        let inside = guarded (p + 1) (filters_of em (types_of cs)) c in
        let body = region_code em inside (exit_to l ∷ xs) (l + 2 + n + labels_clauses cs) (p + 4 + length tests + length handlers) a in
        let outer = guards_in_handlers out (false ∷ ways_of xs) cs in
        let inner = guards_in (clauses (types_of cs) ∷ out) (false ∷ ways_of xs) a in (
          no,
          (
            no,
            both tests _ (each out (types_of cs)) (out ∷ (outer ++ out ∷ (inner ++ out ∷ []))) (tests_said out (l + 2) cs) (
              λ e. h,
              both handlers _ outer (out ∷ (inner ++ out ∷ []))
                  (clauses_said cs out c (exit_to l ∷ xs) l (l + 2) (d + 1) (l + 2 + n) (p + 3 + length tests) holds.1 m.2 s h) (
                    no,
                    both body (quiet (label l) ∷ []) inner (out ∷ [])
                        (region_said a (clauses (types_of cs) ∷ out) inside (exit_to l ∷ xs) (d + 1) (l + 2 + n + labels_clauses cs) (p + 4 + length tests + length handlers) holds.0 m.1 tt
                        (caught_says senses em out c (p + 1) (types_of cs) m.0 (opens senses out c s h))) (no, tt),
                  ),
            ),
          ),
        )
    region_said (limit a types) out c xs d l p w m s h =
        let test = (both_hold (every (λ t. nat_lt t (length r.types)) types) (region_test r slots (d + 1) a) w).1 in
        let inside = guarded (p + 1) (em.filter (list_of types) ∷ []) c in
        let body = region_code em inside (exit_to l ∷ xs) (l + 3) (p + 7) a in
        let said = region_said a (listed types ∷ out) inside (exit_to l ∷ xs) (d + 1) (l + 3) (p + 7) test m.1 tt (limited_says senses em out c (p + 1) types m.0 (opens senses out c s h)) in
        (no, (no, (no, (λ e. h, (no, (λ e. h, (no, both body (quiet (label l) ∷ []) (guards_in (listed types ∷ out) (false ∷ ways_of xs) a) (out ∷ []) said (no, tt))))))))
    region_said (barrier a) out c xs d l p w m s h =
        let test = (both_hold (is_op a) (region_test r slots (d + 1) a) w).0 in
        both (region_code em bare (exit_to l ∷ xs) (l + 1) p a) (quiet (label l) ∷ []) (guards_in (everything ∷ out) (false ∷ ways_of xs) a) (out ∷ []) (alone_said a out (exit_to l ∷ xs) (l + 1) p test) (no, tt)
    region_said (leave_region n) out c xs d l p w m s h = leave_said (inner n) out xs

    all_said : (rs : RegionList) (out : List Guard) (c : Cover) (xs : List Exit) (d l p : ℕ) → regions_test r slots d rs ≡ true → AllFiltersMean senses em.filter rs → IsSited c → Says senses out c →
        All (all_code em c xs l p rs) (guards_in_all out (ways_of xs) rs)
    all_said no_regions out c xs d l p w m s h = tt
    all_said (region_then a rs) out c xs d l p w m s h =
        let tests = both_hold (region_test r slots d a) (regions_test r slots d rs) w in
        let first = region_code em c xs l p a in
        both first (all_code em c xs (l + labels a) (p + length first) rs) (guards_in out (ways_of xs) a) (guards_in_all out (ways_of xs) rs) (region_said a out c xs d l p tests.0 m.0 s h)
        (all_said rs out c xs d (l + labels a) (p + length first) tests.1 m.1 s h)

    clauses_said : (cs : Clauses) (out : List Guard) (c : Cover) (xs : List Exit) (end first d l p : ℕ) → clauses_test r slots d cs ≡ true → ClauseFiltersMean senses em.filter cs → IsSited c → Says senses out c →
        All (clauses_code em c xs end first l p cs) (guards_in_handlers out (ways_of xs) cs)
    clauses_said no_clauses out c xs end first d l p w m s h = tt
    clauses_said (clause_then t x a cs) out c xs end first d l p w m s h =
        let slot = (both_hold (clause_type_test r t) (slot_test is_help slots x && (region_test r slots d a && clauses_test r slots d cs)) w).1 in
        let tests = both_hold (region_test r slots d a) (clauses_test r slots d cs) (both_hold (slot_test is_help slots x) (region_test r slots d a && clauses_test r slots d cs) slot).1 in
        let body = region_code em c xs l (p + 2) a in (
          no,
          (
            no,
            both body (quiet (jump end) ∷ clauses_code em c xs end (first + 1) (l + labels a) (p + 3 + length body) cs) (guards_in out (ways_of xs) a) (out ∷ guards_in_handlers out (ways_of xs) cs)
                (region_said a out c xs d l (p + 2) tests.0 m.0 s h)
                (no, clauses_said cs out c xs end (first + 1) d (l + labels a) (p + 3 + length body) tests.1 m.1 s h),
          ),
        )
