-- Each filter of a chain is 0, the index of a type of the function, or what says a byte of its lists.
use Rattle.std.proofs.Common.{◌≡◌, ℕ, zero, suc, ◌+◌, ◌<◌, ℤ, Bool, true, false, List, [], ◌∷◌, ◌++◌, map, length, Option, Some, None, refl, sym, ◌∙◌, subst, arith}
use Rattle.std.specs.Prelude.{⊤, pos, negsuc, slice_get, ◌==◌, if◌then◌else◌}
use Rattle.std.specs.List.{AllByRecursion}
use Rattle.std.proofs.lemmas.Bool.Decides.{nat_tests}
use Rattle.std.proofs.lemmas.Option.{slice_get_within}
use Rattle.meaning_forms.specs.Arithmetic.{int_equal}
use Rattle.meaning_forms.specs.Class.{some_of}
use Rattle.region_forms.specs.Form.{Op, Cleanup, destroy_scope, destroy_part, free_object, leave_handler, Region, seq, op, branch, loop, protect, catch, limit, barrier, leave_region, RegionList, no_regions, region_then, Clauses, no_clauses, clause_then}
use Rattle.region_forms.specs.Guard.{types_of}
use Rattle.linear_forms.specs.Linear.{FunctionCode, label, jump, return}
use Rattle.linear_forms.specs.Tables.{Cover, bare, unpadded, padded, Sense, cleanup, clause, list_of, no_sense, clause_sense, list_bytes, type_at_index, list_sense, sense_in}
use Rattle.linear_forms.specs.Means.{Means, AllMean, FiltersMean, AllFiltersMean, ClauseFiltersMean}
use Rattle.linear_forms.specs.Sites.{Placed, cover_in}
use Rattle.linear_forms.specs.Distinct.{distinct}
use Rattle.linear_forms.specs.Exits.{Exit, exit_to, inner, first_label, crosses, name_of, beyond, outs_of}
use Rattle.linear_forms.specs.Emission.{Emitting, may_raise, quiet, put, chain_of, set_way, leave_code, way_tests, no_way_out, pad_cleanup, exit_cleanup, exit_code, cleaned, guarded, protect_exit, filters_of}
use Rattle.linear_forms.specs.Code.{labels, labels_clauses, clause_tests, region_code, all_code, clauses_code}
use Rattle.linear_forms.specs.Unit.{emitting, placed_code, function_code}
use Rattle.linear_forms.proofs.Merging.{sites_are_right}
use Rattle.linear_forms.proofs.Meaning.{filters_are_right}
use Rattle.flight_homes.specs.Filters.{bytes_of_lists, IsFilter, FiltersAreNamed}

-- a filter with a sense
abbrev HasSense : Sense → Type 0
HasSense no_sense = ⊥
HasSense x = ⊤

list_at : (types : List ℕ) (lists : List (List ℕ)) (at n : ℕ) → HasSense (list_sense types lists at n) → n < at + bytes_of_lists lists
list_at types [] at n h = absurd h
list_at types (l ∷ lists) at n h = go (at == n) refl h (list_at types lists (at + list_bytes l) n)
  where
    go : (b : Bool) → (at == n) ≡ b → HasSense (if b then list_of (map (type_at_index types) l) else list_sense types lists (at + list_bytes l) n) →
        (HasSense (list_sense types lists (at + list_bytes l) n) → n < at + list_bytes l + bytes_of_lists lists) → n < at + (list_bytes l + bytes_of_lists lists)
    go true e h rest = let same : at ≡ n = grind (arith, nat_tests, e) in omega (arith, same)
    go false e h rest = omega (arith, rest h)

entry_there : (types : List ℕ) (i : ℕ) (o : Option ℕ) → slice_get types i ≡ o → HasSense (clause_sense o) → i < length types
entry_there types i None e h = absurd h
entry_there types i (Some t) e h = slice_get_within types i t e

module _ (g : FunctionCode) where
  abbrev senses : ℤ → Sense
  senses = sense_in g.types g.lists

  named : (n : ℤ) → HasSense (senses n) → IsFilter g n
  named (pos zero) h = tt
  named (pos (suc i)) h = entry_there g.types i (slice_get g.types i) refl h
  named (negsuc b) h = let less = list_at g.types g.lists 0 b h in omega (arith, less)

  abbrev All : List ℤ → Type 0
  All = AllByRecursion (IsFilter g)

  all_both : (a b : List ℤ) → All a → All b → All (a ++ b)
  all_both [] b h k = k
  all_both (n ∷ a) b h k = (h.0, all_both a b h.1 k)

  abbrev Named : Cover → Type 0
  Named bare = ⊤
  Named unpadded = ⊤
  Named (padded q chain) = All chain

  chain_named : (c : Cover) → Named c → All (chain_of c)
  chain_named bare h = tt
  chain_named unpadded h = tt
  chain_named (padded q chain) h = h

  abbrev AllNamed : List Placed → Type 0
  AllNamed [] = ⊤
  AllNamed (x ∷ xs) = Named x.cover × AllNamed xs

  both_named : (a b : List Placed) → AllNamed a → AllNamed b → AllNamed (a ++ b)
  both_named [] b h k = k
  both_named (x ∷ a) b h k = (h.0, both_named a b h.1 k)

  put_named : (o : Op) (c : Cover) → Named c → Named (put o c).cover
  put_named o c h = go (may_raise o)
    where
      go : (b : Bool) → Named (if b then c else bare)
      go true = h
      go false = tt

  module _ (em : Emitting) where
    of_sense : (x : Sense) → HasSense x → Means senses em.filter x → IsFilter g (em.filter x)
    of_sense x h means = named (em.filter x) (subst HasSense (sym means) h)

    filters_named : (ts : List (Option ℕ)) → AllMean senses em.filter ts → All (filters_of em ts)
    filters_named [] h = tt
    filters_named (t ∷ ts) h = (of_sense (clause t) tt h.0, filters_named ts h.1)

    cleaned_named : (p : ℕ) (c : Cover) → Means senses em.filter cleanup → Named c → Named (cleaned em p c)
    cleaned_named p c means h = go (some_of (int_equal (em.filter cleanup)) (chain_of c))
      where
        go : (b : Bool) → All (if b then chain_of c else em.filter cleanup ∷ chain_of c)
        go true = chain_named c h
        go false = (of_sense cleanup tt means, chain_named c h)

    guarded_named : (p : ℕ) (own : List ℤ) (c : Cover) → All own → Named c → Named (guarded p own c)
    guarded_named p own c k h = all_both own (chain_of c) k (chain_named c h)

    leave_named : (n : ℕ) (xs : List Exit) → AllNamed (leave_code em n xs)
    leave_named n xs = go (crosses n xs)
      where
        go : (b : Bool) → AllNamed (if b then set_way em (name_of n xs) ∷ quiet (jump (first_label n xs)) ∷ [] else quiet (jump (first_label n xs)) ∷ [])
        go true = (tt, (tt, tt))
        go false = (tt, tt)

    ways_named : (xs : List Exit) (outs : List ℕ) → AllNamed (way_tests em xs outs)
    ways_named xs [] = tt
    ways_named xs (n ∷ outs) = (tt, ways_named xs outs)

    no_way_named : (outs : List ℕ) → AllNamed (no_way_out em outs)
    no_way_named [] = tt
    no_way_named (n ∷ outs) = (tt, tt)

    exit_named : (o : Option Op) (c : Cover) (xs : List Exit) (l : ℕ) (outs : List ℕ) → Named c → AllNamed (exit_code em o c xs l outs)
    exit_named None c xs l outs h = tt
    exit_named (Some o) c xs l outs h = both_named (no_way_out em outs) (quiet (label (l + 2)) ∷ put o c ∷ way_tests em xs outs) (no_way_named outs) (tt, (put_named o c h, ways_named xs outs))

    cleanup_named : (cl : Cleanup) → Named (pad_cleanup cl).cover
    cleanup_named (destroy_scope p d) = tt
    cleanup_named (destroy_part p d) = tt
    cleanup_named (free_object s) = tt
    cleanup_named leave_handler = tt

    tests_named : (l : ℕ) (cs : Clauses) → AllNamed (clause_tests em l cs)
    tests_named l no_clauses = tt
    tests_named l (clause_then t s x cs) = (tt, tests_named (l + 1) cs)

    mutual
      region_named : (x : Region) (c : Cover) (xs : List Exit) (l p : ℕ) → FiltersMean senses em.filter x → Named c → AllNamed (region_code em c xs l p x)
      region_named (seq rs) c xs l p m h = both_named (all_code em c (exit_to l ∷ xs) (l + 1) p rs) (quiet (label l) ∷ []) (all_named rs c (exit_to l ∷ xs) (l + 1) p m h) (tt, tt)
      region_named (op o) c xs l p m h = (put_named o c h, tt)
      region_named (branch v a b) c xs l p m h =
          let first = region_code em c (exit_to l ∷ xs) (l + 2) (p + 1) a in
          let second = region_code em c (exit_to l ∷ xs) (l + 2 + labels a) (p + 3 + length first) b in (
            tt,
            both_named first (quiet (jump l) ∷ quiet (label (l + 1)) ∷ (second ++ quiet (label l) ∷ [])) (region_named a c (exit_to l ∷ xs) (l + 2) (p + 1) m.0 h)
                (tt, (tt, both_named second (quiet (label l) ∷ []) (region_named b c (exit_to l ∷ xs) (l + 2 + labels a) (p + 3 + length first) m.1 h) (tt, tt))),
          )
      region_named (loop v a) c xs l p m h =
          let body = region_code em c (exit_to l ∷ xs) (l + 2) (p + 2) a in
          (tt, (tt, both_named body (quiet (jump (l + 1)) ∷ quiet (label l) ∷ []) (region_named a c (exit_to l ∷ xs) (l + 2) (p + 2) m h) (tt, (tt, tt))))
      region_named (protect a cl) c xs l p m h =
          let inside = cleaned em (p + 1) c in
          let exits = exit_code em (exit_cleanup cl) c xs l (distinct (beyond (outs_of a))) in
          let body = region_code em inside (protect_exit cl l ∷ xs) (l + 3) (p + 5) a in (
            tt,
            (
              tt,
              (
                cleanup_named cl,
                (
                  h,
                  (
                    tt,
                    both_named body (exits ++ quiet (label l) ∷ []) (region_named a inside (protect_exit cl l ∷ xs) (l + 3) (p + 5) m.1 (cleaned_named (p + 1) c m.0 h))
                        (both_named exits (quiet (label l) ∷ []) (exit_named (exit_cleanup cl) c xs l (distinct (beyond (outs_of a))) h) (tt, tt)),
                  ),
                ),
              ),
            ),
          )
      region_named (catch a cs) c xs l p m h =
          let tests = clause_tests em (l + 2) cs in
          let n = length (types_of cs) in
          let handlers = clauses_code em c (exit_to l ∷ xs) l (l + 2) (l + 2 + n) (p + 3 + length tests) cs in
          let inside = guarded (p + 1) (filters_of em (types_of cs)) c in
          let body = region_code em inside (exit_to l ∷ xs) (l + 2 + n + labels_clauses cs) (p + 4 + length tests + length handlers) a in (
            tt,
            (
              tt,
              both_named tests _ (tests_named (l + 2) cs) (
                h,
                both_named handlers _ (clauses_named cs c (exit_to l ∷ xs) l (l + 2) (l + 2 + n) (p + 3 + length tests) m.2 h) (
                  tt,
                  both_named body (quiet (label l) ∷ [])
                      (region_named a inside (exit_to l ∷ xs) (l + 2 + n + labels_clauses cs) (p + 4 + length tests + length handlers) m.1
                      (guarded_named (p + 1) (filters_of em (types_of cs)) c (filters_named (types_of cs) m.0) h)) (tt, tt),
                ),
              ),
            ),
          )
      region_named (limit a types) c xs l p m h =
          let own = em.filter (list_of types) ∷ [] in
          let inside = guarded (p + 1) own c in
          let body = region_code em inside (exit_to l ∷ xs) (l + 3) (p + 7) a in
          let within = guarded_named (p + 1) own c (of_sense (list_of types) tt m.0, tt) h in
          (tt, (tt, (tt, (h, (tt, (h, (tt, both_named body (quiet (label l) ∷ []) (region_named a inside (exit_to l ∷ xs) (l + 3) (p + 7) m.1 within) (tt, tt))))))))
      region_named (barrier a) c xs l p m h =
          both_named (region_code em bare (exit_to l ∷ xs) (l + 1) p a) (quiet (label l) ∷ []) (region_named a bare (exit_to l ∷ xs) (l + 1) p m tt) (tt, tt)
      region_named (leave_region n) c xs l p m h = leave_named (inner n) xs

      all_named : (rs : RegionList) (c : Cover) (xs : List Exit) (l p : ℕ) → AllFiltersMean senses em.filter rs → Named c → AllNamed (all_code em c xs l p rs)
      all_named no_regions c xs l p m h = tt
      all_named (region_then a rs) c xs l p m h =
          let first = region_code em c xs l p a in
          both_named first (all_code em c xs (l + labels a) (p + length first) rs) (region_named a c xs l p m.0 h) (all_named rs c xs (l + labels a) (p + length first) m.1 h)

      clauses_named : (cs : Clauses) (c : Cover) (xs : List Exit) (end first l p : ℕ) → ClauseFiltersMean senses em.filter cs → Named c → AllNamed (clauses_code em c xs end first l p cs)
      clauses_named no_clauses c xs end first l p m h = tt
      clauses_named (clause_then t s a cs) c xs end first l p m h =
          let body = region_code em c xs l (p + 2) a in (
            tt,
            (
              tt,
              both_named body (quiet (jump end) ∷ clauses_code em c xs end (first + 1) (l + labels a) (p + 3 + length body) cs) (region_named a c xs l (p + 2) m.0 h)
                  (tt, clauses_named cs c xs end (first + 1) (l + labels a) (p + 3 + length body) m.1 h),
            ),
          )

  cover_named : (is : List Placed) (p : ℕ) → AllNamed is → Named (cover_in is p)
  cover_named [] p h = tt
  cover_named (x ∷ is) zero h = h.0
  cover_named (x ∷ is) (suc p) h = cover_named is p h.1

pub filters_are_named : FiltersAreNamed
filters_are_named f p q chain e =
    let g = function_code f in
    let body = region_code (emitting f) unpadded [] 0 0 f.body in
    let all = both_named g body (quiet (return f.result) ∷ []) (region_named g (emitting f) f.body unpadded [] 0 0 (filters_are_right f.body) tt) (tt, tt) in
    subst (Named g) (sym (sites_are_right.said (placed_code f) p) ∙ e) (cover_named g (placed_code f) p all)
