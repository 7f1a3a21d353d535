-- In front of each operation by which a specification passes on what it stopped stands the test of its list.
use Rattle.std.proofs.Common.{◌≡◌, ℕ, zero, suc, ◌+◌, negsuc, Bool, true, false, List, [], ◌∷◌, ◌++◌, map, length, Option, Some, None, refl, ap, ◌∙◌, subst, arith}
use Rattle.std.specs.Prelude.{slice_get, if◌then◌else◌}
use Rattle.region_forms.specs.Form.{through, bind, Op, Cleanup, destroy_scope, destroy_part, free_object, leave_handler, Region, seq, op, branch, loop, protect, catch, limit, barrier, leave_region, RegionList, no_regions, region_then, Clauses, no_clauses, clause_then}
use Rattle.region_forms.specs.Guard.{types_of}
use Rattle.linear_forms.specs.Linear.{FunctionCode, LinearOp, label, jump, jump_zero, plain, pad, jump_filter, resume, unexpected}
use Rattle.linear_forms.specs.Tables.{Cover, bare, list_of}
use Rattle.linear_forms.specs.Sites.{Placed}
use Rattle.linear_forms.specs.CodeRuns.{HasAt}
use Rattle.linear_forms.specs.Distinct.{distinct}
use Rattle.linear_forms.specs.Exits.{Exit, exit_to, inner, first_label, crosses, name_of, beyond, outs_of}
use Rattle.linear_forms.specs.Emission.{Emitting, quiet, outward, put, set_way, leave_code, way_tests, no_way_out, pad_cleanup, exit_cleanup, exit_code, cleaned, guarded, protect_exit, filters_of}
use Rattle.linear_forms.specs.Code.{labels, labels_clauses, clause_tests, region_code, all_code, clauses_code}
use Rattle.cost_paths.proofs.Ranks.{alone, has_front, has_back}

module _ (g : FunctionCode) where
  -- what stands in front of it
  pub record Front (u : ℕ) : Type 0 where
    pub test : ℕ
    pub place : u ≡ test + 3
    pub slot : ℕ
    pub list : ℕ
    pub goal : ℕ
    pub tests : slice_get g.ops test ≡ Some (jump_filter slot (negsuc list) goal)
    pub object : ℕ
    pub lets : slice_get g.ops (test + 1) ≡ Some (resume object)
    pub name : ℕ
    pub begins : slice_get g.ops (test + 1 + 1) ≡ Some (label name)

  abbrev pub Fronted : ℕ → LinearOp → Type 0
  Fronted u (unexpected o s) = Front u
  Fronted u o = Unit {0}

  abbrev pub AllFronted : ℕ → List Placed → Type 0
  AllFronted p [] = Unit {0}
  AllFronted p (x ∷ xs) = Fronted p x.op × AllFronted (p + 1) xs

  pub both : (p q : ℕ) (a b : List Placed) → q ≡ p + length a → AllFronted p a → AllFronted q b → AllFronted p (a ++ b)
  both p q [] b e h k = let same : q ≡ p = omega (arith, e) in subst (λ n. AllFronted n b) same k
  both p q (x ∷ a) b e h k = (h.0, both (p + 1) q a b (omega (arith, e)) h.1 k)

  pub front_at : (is : List Placed) (q k p : ℕ) (o : LinearOp) → p ≡ q + k → AllFronted q is → slice_get (map (λ x. x.op) is) k ≡ Some o → Fronted p o
  front_at [] q k p o e all there = absurd (cc there)
  front_at (x ∷ is) q zero p o e all there =
      let same : q ≡ p = omega (arith, e) in
      let is_it : x.op ≡ o = cc there in
      subst (λ n. Fronted n o) same (subst (Fronted q) is_it all.0)
  front_at (x ∷ is) q (suc k) p o e all there = front_at is (q + 1) k p o (omega (arith, e)) all.1 there

  module _ (em : Emitting) (listed : (types : List ℕ) → (j : ℕ) × (em.filter (list_of types) ≡ negsuc j)) where
    abbrev Has : ℕ → List Placed → Type 0
    Has = HasAt (alone g) 0

    leave_fronted : (n p : ℕ) (xs : List Exit) → AllFronted p (leave_code em n xs)
    leave_fronted n p xs = go (crosses n xs)
      where
        go : (b : Bool) → AllFronted p (if b then set_way em (name_of n xs) ∷ quiet (jump (first_label n xs)) ∷ [] else quiet (jump (first_label n xs)) ∷ [])
        go true = (tt, (tt, tt))
        go false = (tt, tt)

    ways_fronted : (xs : List Exit) (p : ℕ) (outs : List ℕ) → AllFronted p (way_tests em xs outs)
    ways_fronted xs p [] = tt
    ways_fronted xs p (n ∷ outs) = (tt, ways_fronted xs (p + 1) outs)

    no_way_fronted : (p : ℕ) (outs : List ℕ) → AllFronted p (no_way_out em outs)
    no_way_fronted p [] = tt
    no_way_fronted p (n ∷ outs) = (tt, tt)

    exit_fronted : (o : Option Op) (c : Cover) (xs : List Exit) (l p : ℕ) (outs : List ℕ) → AllFronted p (exit_code em o c xs l outs)
    exit_fronted None c xs l p outs = tt
    exit_fronted (Some o) c xs l p outs =
        let front = no_way_out em outs in
        let q = p + length front in
        both p q front (quiet (label (l + 2)) ∷ put o c ∷ way_tests em xs outs) refl (no_way_fronted p outs) (tt, (tt, ways_fronted xs (q + 1 + 1) outs))

    cleanup_fronted : (cl : Cleanup) (p : ℕ) → Fronted p (pad_cleanup cl).op
    cleanup_fronted (destroy_scope q d) p = tt
    cleanup_fronted (destroy_part q d) p = tt
    cleanup_fronted (free_object s) p = tt
    cleanup_fronted leave_handler p = tt

    tests_fronted : (cs : Clauses) (l p : ℕ) → AllFronted p (clause_tests em l cs)
    tests_fronted no_clauses l p = tt
    tests_fronted (clause_then t s r cs) l p = (tt, tests_fronted cs (l + 1) (p + 1))

    mutual
      pub region_fronted : (x : Region) (c : Cover) (xs : List Exit) (l p q : ℕ) → Has q (region_code em c xs l p x) → AllFronted q (region_code em c xs l p x)
      region_fronted (seq rs) c xs l p q has =
          let body = all_code em c (exit_to l ∷ xs) (l + 1) p rs in
          both q (q + length body) body (quiet (label l) ∷ []) refl (all_fronted rs c (exit_to l ∷ xs) (l + 1) p q (has_front g q body (quiet (label l) ∷ []) has)) (tt, tt)
      region_fronted (op o) c xs l p q has = (tt, tt)
      region_fronted (branch v a b) c xs l p q has =
          let first = region_code em c (exit_to l ∷ xs) (l + 2) (p + 1) a in
          let second = region_code em c (exit_to l ∷ xs) (l + 2 + labels a) (p + 3 + length first) b in
          let end = quiet (label l) ∷ [] in
          let middle = quiet (jump l) ∷ quiet (label (l + 1)) ∷ [] in
          let j = q + 1 + length first in
          let r = j + 2 in
          let has_j = has_back g (q + 1) j first (middle ++ (second ++ end)) refl has.3 in
          let has_r = has_back g j r middle (second ++ end) refl has_j in (
            tt,
            both (q + 1) j first (middle ++ (second ++ end)) refl (region_fronted a c (exit_to l ∷ xs) (l + 2) (p + 1) (q + 1) (has_front g (q + 1) first (middle ++ (second ++ end)) has.3))
                (both j r middle (second ++ end) refl (tt, (tt, tt))
                (both r (r + length second) second end refl (region_fronted b c (exit_to l ∷ xs) (l + 2 + labels a) (p + 3 + length first) r (has_front g r second end has_r)) (tt, tt))),
          )
      region_fronted (loop v a) c xs l p q has =
          let body = region_code em c (exit_to l ∷ xs) (l + 2) (p + 2) a in
          let head = quiet (label (l + 1)) ∷ quiet (jump_zero v l) ∷ [] in
          let end = quiet (jump (l + 1)) ∷ quiet (label l) ∷ [] in
          let has_body = has_back g q (q + 2) head (body ++ end) refl has in
          both q (q + 2) head (body ++ end) refl (tt, (tt, tt))
          (both (q + 2) (q + 2 + length body) body end refl (region_fronted a c (exit_to l ∷ xs) (l + 2) (p + 2) (q + 2) (has_front g (q + 2) body end has_body)) (tt, (tt, tt)))
      region_fronted (protect a cl) c xs l p q has =
          let inside = cleaned em (p + 1) c in
          let outs = distinct (beyond (outs_of a)) in
          let exits = exit_code em (exit_cleanup cl) c xs l outs in
          let body = region_code em inside (protect_exit cl l ∷ xs) (l + 3) (p + 5) a in
          let end = quiet (label l) ∷ [] in
          let tail = exits ++ end in
          let head = quiet (jump (l + 1)) ∷ quiet (pad em.object em.selector) ∷ pad_cleanup cl ∷ outward (resume em.object) c ∷ quiet (label (l + 1)) ∷ [] in
          let has_body = has_back g q (q + 5) head (body ++ tail) refl has in
          let j = q + 5 + length body in
          both q (q + 5) head (body ++ tail) refl (tt, (tt, (cleanup_fronted cl (q + 1 + 1), (tt, (tt, tt)))))
          (both (q + 5) j body tail refl (region_fronted a inside (protect_exit cl l ∷ xs) (l + 3) (p + 5) (q + 5) (has_front g (q + 5) body tail has_body))
          (both j (j + length exits) exits end refl (exit_fronted (exit_cleanup cl) c xs l j outs) (tt, tt)))
      region_fronted (catch a cs) c xs l p q has =
          let tests = clause_tests em (l + 2) cs in
          let n = length (types_of cs) in
          let handlers = clauses_code em c (exit_to l ∷ xs) l (l + 2) (l + 2 + n) (p + 3 + length tests) cs in
          let inside = guarded (p + 1) (filters_of em (types_of cs)) c in
          let body = region_code em inside (exit_to l ∷ xs) (l + 2 + n + labels_clauses cs) (p + 4 + length tests + length handlers) a in
          let end = quiet (label l) ∷ [] in
          let begin = quiet (label (l + 1)) ∷ [] in
          let going = outward (resume em.object) c ∷ [] in
          let later = handlers ++ (begin ++ (body ++ end)) in
          let u = q + 1 + 1 + length tests in
          let r = u + 1 in
          let v = r + length handlers in
          let t = v + 1 in
          let has_u = has_back g (q + 1 + 1) u tests (going ++ later) refl has.3.3 in
          let has_r = has_back g u r going later refl has_u in
          let has_v = has_back g r v handlers (begin ++ (body ++ end)) refl has_r in
          let has_t = has_back g v t begin (body ++ end) refl has_v in (
            tt,
            (
              tt,
              both (q + 1 + 1) u tests (going ++ later) refl (tests_fronted cs (l + 2) (q + 1 + 1))
                  (both u r going later refl (tt, tt)
                  (both r v handlers (begin ++ (body ++ end)) refl (clauses_fronted cs c (exit_to l ∷ xs) l (l + 2) (l + 2 + n) (p + 3 + length tests) r (has_front g r handlers (begin ++ (body ++ end)) has_r))
                  (both v t begin (body ++ end) refl (tt, tt)
                  (both t (t + length body) body end refl
                  (region_fronted a inside (exit_to l ∷ xs) (l + 2 + n + labels_clauses cs) (p + 4 + length tests + length handlers) t (has_front g t body end has_t)) (tt, tt))))),
            ),
          )
      region_fronted (limit a types) c xs l p q has =
          let f = em.filter (list_of types) in
          let inside = guarded (p + 1) (f ∷ []) c in
          let body = region_code em inside (exit_to l ∷ xs) (l + 3) (p + 7) a in
          let end = quiet (label l) ∷ [] in
          let head = quiet (jump (l + 1)) ∷ quiet (pad em.object em.selector) ∷ quiet (jump_filter em.selector f (l + 2)) ∷ outward (resume em.object) c ∷ quiet (label (l + 2)) ∷ outward (unexpected em.object em.selector) c ∷ quiet (label (l + 1)) ∷ [] in
          let has_body = has_back g q (q + 7) head (body ++ end) refl has in
          let front : Front (q + 1 + 1 + 1 + 1 + 1) = record {
            test = q + 1 + 1;
            place = omega arith;
            slot = em.selector;
            list = (listed types).0;
            goal = l + 2;
            tests = has.3.3.0 ∙ ap (λ z. Some (jump_filter em.selector z (l + 2))) (listed types).1;
            object = em.object;
            lets = has.3.3.3.0;
            name = l + 2;
            begins = has.3.3.3.3.0;
          } in
          both q (q + 7) head (body ++ end) refl (tt, (tt, (tt, (tt, (tt, (front, (tt, tt)))))))
          (both (q + 7) (q + 7 + length body) body end refl (region_fronted a inside (exit_to l ∷ xs) (l + 3) (p + 7) (q + 7) (has_front g (q + 7) body end has_body)) (tt, tt))
      region_fronted (barrier a) c xs l p q has =
          let body = region_code em bare (exit_to l ∷ xs) (l + 1) p a in
          both q (q + length body) body (quiet (label l) ∷ []) refl (region_fronted a bare (exit_to l ∷ xs) (l + 1) p q (has_front g q body (quiet (label l) ∷ []) has)) (tt, tt)
      region_fronted (leave_region n) c xs l p q has = leave_fronted (inner n) q xs

      all_fronted : (rs : RegionList) (c : Cover) (xs : List Exit) (l p q : ℕ) → Has q (all_code em c xs l p rs) → AllFronted q (all_code em c xs l p rs)
      all_fronted no_regions c xs l p q has = tt
      all_fronted (region_then a rs) c xs l p q has =
          let first = region_code em c xs l p a in
          let r = q + length first in
          let rest = all_code em c xs (l + labels a) (p + length first) rs in
          both q r first rest refl (region_fronted a c xs l p q (has_front g q first rest has)) (all_fronted rs c xs (l + labels a) (p + length first) r (has_back g q r first rest refl has))

      clauses_fronted : (cs : Clauses) (c : Cover) (xs : List Exit) (end first l p q : ℕ) → Has q (clauses_code em c xs end first l p cs) → AllFronted q (clauses_code em c xs end first l p cs)
      clauses_fronted no_clauses c xs end first l p q has = tt
      clauses_fronted (clause_then t x a cs) c xs end first l p q has =
          let body = region_code em c xs l (p + 2) a in
          let j = q + 2 + length body in
          let r = j + 1 in
          let rest = clauses_code em c xs end (first + 1) (l + labels a) (p + 3 + length body) cs in
          let going = quiet (jump end) ∷ [] in
          let head = quiet (label first) ∷ quiet (plain (bind x (record { root = through em.object; offset = 0 }))) ∷ [] in
          let has_body = has_back g q (q + 2) head (body ++ (going ++ rest)) refl has in
          let has_j = has_back g (q + 2) j body (going ++ rest) refl has_body in
          let has_r = has_back g j r going rest refl has_j in
          both q (q + 2) head (body ++ (going ++ rest)) refl (tt, (tt, tt))
          (both (q + 2) j body (going ++ rest) refl (region_fronted a c xs l (p + 2) (q + 2) (has_front g (q + 2) body (going ++ rest) has_body))
          (both j r going rest refl (tt, tt) (clauses_fronted cs c xs end (first + 1) (l + labels a) (p + 3 + length body) r has_r)))
