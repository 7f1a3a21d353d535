-- Behind each test of a filter stands another, or what goes on outwards: so calls carry at each.
use Rattle.std.proofs.Common.{◌≡◌, ◌⊎◌, inl, inr, ℕ, zero, suc, ◌+◌, ◌≤◌, ℤ, Bool, true, false, List, [], ◌∷◌, ◌++◌, map, length, Some, refl, ap, ◌∙◌, subst, arith}
use Rattle.std.specs.Prelude.{⊤, slice_get, if◌then◌else◌}
use Rattle.std.proofs.lemmas.Option.{slice_get_within}
use Rattle.region_forms.specs.Form.{destroy, leave, Cleanup, destroy_scope, destroy_part, free_object, leave_handler, Region, seq, op, branch, loop, protect, catch, limit, barrier, leave_region, RegionList, no_regions, region_then, Clauses, no_clauses, clause_then, RegionFunction}
use Rattle.region_forms.specs.Guard.{types_of}
use Rattle.linear_forms.specs.Linear.{LinearOp, plain, label, jump, jump_zero, pad, jump_filter, free, resume, unexpected, return}
use Rattle.linear_forms.specs.Tables.{Cover, bare, unpadded, clause, list_of}
use Rattle.linear_forms.specs.Sites.{Placed}
use Rattle.linear_forms.specs.Distinct.{distinct}
use Rattle.linear_forms.specs.Exits.{Exit, exit_to, inner, first_label, crosses, name_of, beyond, outs_of}
use Rattle.linear_forms.specs.Emission.{Emitting, quiet, put, outward, set_way, leave_code, way_tests, no_way_out, pad_cleanup, exit_cleanup, exit_code, cleaned, guarded, protect_exit, filters_of}
use Rattle.linear_forms.specs.Code.{labels, labels_clauses, clause_tests, region_code, all_code, clauses_code}
use Rattle.linear_forms.specs.Unit.{emitting, placed_code, function_code}
use Rattle.exceptions_in_flight.specs.Flights.{AreFlights}

-- a test, or what goes on outwards
abbrev is_end : LinearOp → Bool
is_end (jump_filter s z l) = true
is_end (resume s) = true
is_end o = false

abbrev Next : LinearOp → List Placed → Type 0
Next (jump_filter s z l) [] = ⊥
Next (jump_filter s z l) (y ∷ ys) = is_end y.op ≡ true
Next o ys = ⊤

abbrev Followed : List Placed → Type 0
Followed [] = ⊤
Followed (x ∷ xs) = Next x.op xs × Followed xs

next_more : (o : LinearOp) (a b : List Placed) → Next o a → Next o (a ++ b)
next_more (jump_filter s z l) [] b h = absurd h
next_more (jump_filter s z l) (y ∷ a) b h = h
next_more (plain o) a b h = tt
next_more (label l) a b h = tt
next_more (jump l) a b h = tt
next_more (jump_zero v l) a b h = tt
next_more (pad o s) a b h = tt
next_more (free s) a b h = tt
next_more (resume s) a b h = tt
next_more (unexpected o s) a b h = tt
next_more (return r) a b h = tt

both : (a b : List Placed) → Followed a → Followed b → Followed (a ++ b)
both [] b h k = k
both (x ∷ a) b h k = (next_more x.op a b h.0, both a b h.1 k)

module _ (em : Emitting) where
  leaves : (n : ℕ) (xs : List Exit) → Followed (leave_code em n xs)
  leaves n xs = go (crosses n xs)
    where
      go : (b : Bool) → Followed (if b then set_way em (name_of n xs) ∷ quiet (jump (first_label n xs)) ∷ [] else quiet (jump (first_label n xs)) ∷ [])
      go true = (tt, (tt, tt))
      go false = (tt, tt)

  ways : (xs : List Exit) (outs : List ℕ) → Followed (way_tests em xs outs)
  ways xs [] = tt
  ways xs (n ∷ outs) = (tt, ways xs outs)

  no_ways : (outs : List ℕ) → Followed (no_way_out em outs)
  no_ways [] = tt
  no_ways (n ∷ outs) = (tt, tt)

  exits_follow : (cl : Cleanup) (c : Cover) (xs : List Exit) (l : ℕ) (outs : List ℕ) → Followed (exit_code em (exit_cleanup cl) c xs l outs)
  exits_follow (destroy_scope p d) c xs l outs = both (no_way_out em outs) (quiet (label (l + 2)) ∷ put (destroy p d) c ∷ way_tests em xs outs) (no_ways outs) (tt, (tt, ways xs outs))
  exits_follow (destroy_part p d) c xs l outs = tt
  exits_follow (free_object s) c xs l outs = tt
  exits_follow leave_handler c xs l outs = both (no_way_out em outs) (quiet (label (l + 2)) ∷ put leave c ∷ way_tests em xs outs) (no_ways outs) (tt, (tt, ways xs outs))

  cleanup_next : (cl : Cleanup) (xs : List Placed) → Next (pad_cleanup cl).op xs
  cleanup_next (destroy_scope p d) xs = tt
  cleanup_next (destroy_part p d) xs = tt
  cleanup_next (free_object s) xs = tt
  cleanup_next leave_handler xs = tt

  -- the tests of clauses, behind which the rest goes on outwards
  module _ (s : ℕ) (c : Cover) (rest : List Placed) (h : Followed rest) where
    first_ends : (n t l : ℕ) (z : ℤ) (cs : Clauses) → Next (jump_filter t z n) (clause_tests em l cs ++ outward (resume s) c ∷ rest)
    first_ends n t l z no_clauses = refl
    first_ends n t l z (clause_then u x r cs) = refl

    tests_follow : (l : ℕ) (cs : Clauses) → Followed (clause_tests em l cs ++ outward (resume s) c ∷ rest)
    tests_follow l no_clauses = (tt, h)
    tests_follow l (clause_then u x r cs) = (first_ends l em.selector (l + 1) (em.filter (clause u)) cs, tests_follow (l + 1) cs)

  mutual
    region_follows : (x : Region) (c : Cover) (xs : List Exit) (l p : ℕ) → Followed (region_code em c xs l p x)
    region_follows (seq rs) c xs l p = both (all_code em c (exit_to l ∷ xs) (l + 1) p rs) (quiet (label l) ∷ []) (all_follow rs c (exit_to l ∷ xs) (l + 1) p) (tt, tt)
    region_follows (op o) c xs l p = (tt, tt)
    region_follows (branch v a b) c xs l p =
        let first = region_code em c (exit_to l ∷ xs) (l + 2) (p + 1) a in
        let second = region_code em c (exit_to l ∷ xs) (l + 2 + labels a) (p + 3 + length first) b in (
          tt,
          both first (quiet (jump l) ∷ quiet (label (l + 1)) ∷ (second ++ quiet (label l) ∷ [])) (region_follows a c (exit_to l ∷ xs) (l + 2) (p + 1))
              (tt, (tt, both second (quiet (label l) ∷ []) (region_follows b c (exit_to l ∷ xs) (l + 2 + labels a) (p + 3 + length first)) (tt, tt))),
        )
    region_follows (loop v a) c xs l p =
        let body = region_code em c (exit_to l ∷ xs) (l + 2) (p + 2) a in
        (tt, (tt, both body (quiet (jump (l + 1)) ∷ quiet (label l) ∷ []) (region_follows a c (exit_to l ∷ xs) (l + 2) (p + 2)) (tt, (tt, tt))))
    region_follows (protect a cl) c xs l p =
        let inside = cleaned em (p + 1) c in
        let exits = exit_code em (exit_cleanup cl) c xs l (distinct (beyond (outs_of a))) in
        let body = region_code em inside (protect_exit cl l ∷ xs) (l + 3) (p + 5) a in (
          tt,
          (
            tt,
            (
              cleanup_next cl _,
              (
                tt,
                (
                  tt,
                  both body (exits ++ quiet (label l) ∷ []) (region_follows a inside (protect_exit cl l ∷ xs) (l + 3) (p + 5))
                      (both exits (quiet (label l) ∷ []) (exits_follow cl c xs l (distinct (beyond (outs_of a)))) (tt, tt)),
                ),
              ),
            ),
          ),
        )
    region_follows (catch a cs) c xs l p =
        let tests = clause_tests em (l + 2) cs in
        let n = length (types_of cs) in
        let handlers = clauses_code em c (exit_to l ∷ xs) l (l + 2) (l + 2 + n) (p + 3 + length tests) cs in
        let inside = guarded (p + 1) (filters_of em (types_of cs)) c in
        let body = region_code em inside (exit_to l ∷ xs) (l + 2 + n + labels_clauses cs) (p + 4 + length tests + length handlers) a in (
          tt,
          (
            tt,
            tests_follow em.object c (handlers ++ quiet (label (l + 1)) ∷ (body ++ quiet (label l) ∷ []))
                (both handlers (quiet (label (l + 1)) ∷ (body ++ quiet (label l) ∷ [])) (clauses_follow cs c (exit_to l ∷ xs) l (l + 2) (l + 2 + n) (p + 3 + length tests))
                (tt, both body (quiet (label l) ∷ []) (region_follows a inside (exit_to l ∷ xs) (l + 2 + n + labels_clauses cs) (p + 4 + length tests + length handlers)) (tt, tt))) (l + 2) cs,
          ),
        )
    region_follows (limit a types) c xs l p =
        let inside = guarded (p + 1) (em.filter (list_of types) ∷ []) c in
        let body = region_code em inside (exit_to l ∷ xs) (l + 3) (p + 7) a in
        (tt, (tt, (refl, (tt, (tt, (tt, (tt, both body (quiet (label l) ∷ []) (region_follows a inside (exit_to l ∷ xs) (l + 3) (p + 7)) (tt, tt))))))))
    region_follows (barrier a) c xs l p = both (region_code em bare (exit_to l ∷ xs) (l + 1) p a) (quiet (label l) ∷ []) (region_follows a bare (exit_to l ∷ xs) (l + 1) p) (tt, tt)
    region_follows (leave_region n) c xs l p = leaves (inner n) xs

    all_follow : (rs : RegionList) (c : Cover) (xs : List Exit) (l p : ℕ) → Followed (all_code em c xs l p rs)
    all_follow no_regions c xs l p = tt
    all_follow (region_then a rs) c xs l p =
        let first = region_code em c xs l p a in both first (all_code em c xs (l + labels a) (p + length first) rs) (region_follows a c xs l p) (all_follow rs c xs (l + labels a) (p + length first))

    clauses_follow : (cs : Clauses) (c : Cover) (xs : List Exit) (end first l p : ℕ) → Followed (clauses_code em c xs end first l p cs)
    clauses_follow no_clauses c xs end first l p = tt
    clauses_follow (clause_then t s a cs) c xs end first l p =
        let body = region_code em c xs l (p + 2) a in (
          tt,
          (
            tt,
            both body (quiet (jump end) ∷ clauses_code em c xs end (first + 1) (l + labels a) (p + 3 + length body) cs) (region_follows a c xs l (p + 2))
                (tt, clauses_follow cs c xs end (first + 1) (l + labels a) (p + 3 + length body)),
          ),
        )

-- what stands behind a test
record Behind (ops : List LinearOp) (p : ℕ) : Type 0 where
  op : LinearOp
  there : slice_get ops (p + 1) ≡ Some op
  ends : is_end op ≡ true

next_there : (o : LinearOp) (is : List Placed) (s l : ℕ) (z : ℤ) → o ≡ jump_filter s z l → Next o is → Behind (o ∷ map (λ x. x.op) is) 0
next_there o [] s l z e h = absurd (subst (λ i. Next i []) e h)
next_there o (y ∷ is) s l z e h = record { op = y.op; there = refl; ends = subst (λ i. Next i (y ∷ is)) e h }

behind : (is : List Placed) (p s l : ℕ) (z : ℤ) → Followed is → slice_get (map (λ x. x.op) is) p ≡ Some (jump_filter s z l) → Behind (map (λ x. x.op) is) p
behind [] p s l z h e = absurd (cc e)
behind (x ∷ is) zero s l z h e = next_there x.op is s l z (cc e) h.0
behind (x ∷ is) (suc p) s l z h e = go (behind is p s l z h.1 e)
  where
    go : Behind (map (λ y. y.op) is) p → Behind (map (λ y. y.op) (x ∷ is)) (suc p)
    go b = let same : suc p + 1 ≡ suc (p + 1) = omega arith in record { op = b.op; there = ap (slice_get (x.op ∷ map (λ y. y.op) is)) same ∙ b.there; ends = b.ends }

module _ (f : RegionFunction) (carries : ℕ → Bool) (flights : AreFlights f carries) where
  abbrev ops : List LinearOp
  ops = (function_code f).ops

  follows : Followed (placed_code f)
  follows = both (region_code (emitting f) unpadded [] 0 0 f.body) (quiet (return f.result) ∷ []) (region_follows (emitting f) f.body unpadded [] 0 0) (tt, tt)

  from_next : (p s l : ℕ) (z : ℤ) → slice_get ops p ≡ Some (jump_filter s z l) → carries (p + 1) ≡ true → carries p ≡ true
  from_next p s l z e there = go (flights.comes p (p + 1) (jump_filter s z l) e (inl (refl, refl)) there)
    where
      go : (carries p ≡ true) ⊎ ((jump_filter s z l ≡ pad (emitting f).object (emitting f).selector) × (p + 1 ≡ p + 1)) → carries p ≡ true
      go (inl h) = h
      go (inr h) = absurd (cc h.0)

  carried_by : (m p s l : ℕ) (z : ℤ) → length ops ≤ p + m → slice_get ops p ≡ Some (jump_filter s z l) → carries p ≡ true
  carried_by zero p s l z most e = let less = slice_get_within ops p (jump_filter s z l) e in absurd (omega (arith, most, less))
  carried_by (suc m) p s l z most e = let b = behind (placed_code f) p s l z follows e in from_next p s l z e (go b.op b.there b.ends (λ t k u i. carried_by m (p + 1) t k u (omega (arith, most)) i))
    where
      go : (o : LinearOp) → slice_get ops (p + 1) ≡ Some o → is_end o ≡ true → ((t k : ℕ) (u : ℤ) → slice_get ops (p + 1) ≡ Some (jump_filter t u k) → carries (p + 1) ≡ true) → carries (p + 1) ≡ true
      go (jump_filter t u k) i h rest = rest t k u i
      go (resume t) i h rest = (flights.resumes (p + 1) t i).0
      go (plain o) i h rest = absurd (cc h)
      go (label k) i h rest = absurd (cc h)
      go (jump k) i h rest = absurd (cc h)
      go (jump_zero v k) i h rest = absurd (cc h)
      go (pad o t) i h rest = absurd (cc h)
      go (free t) i h rest = absurd (cc h)
      go (unexpected o t) i h rest = absurd (cc h)
      go (return r) i h rest = absurd (cc h)

  pub filters_carry : (p s l : ℕ) (z : ℤ) → slice_get ops p ≡ Some (jump_filter s z l) → carries p ≡ true
  filters_carry p s l z e = carried_by (length ops) p s l z (omega arith) e
