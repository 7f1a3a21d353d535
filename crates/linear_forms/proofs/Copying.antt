-- Each cleanup of a scope or a handler stands twice.
use Rattle.std.proofs.Common.{◌≡◌, ℕ, ◌+◌, Bool, true, false, List, [], ◌∷◌, ◌++◌, length, Some, refl, sym, ap, ◌∙◌, arith}
use Rattle.std.specs.Prelude.{if◌then◌else◌}
use Rattle.region_forms.specs.Form.{Op, destroy, leave, Cleanup, destroy_scope, destroy_part, free_object, leave_handler, Region, seq, op, branch, loop, protect, catch, limit, barrier, leave_region, RegionList, no_regions, region_then, Clauses, no_clauses, clause_then, RegionFunction}
use Rattle.region_forms.specs.Guard.{types_of}
use Rattle.linear_forms.specs.Linear.{plain, label, jump, resume, return}
use Rattle.linear_forms.specs.Tables.{Cover, bare, unpadded, list_of}
use Rattle.linear_forms.specs.Sites.{Placed}
use Rattle.linear_forms.specs.Distinct.{distinct}
use Rattle.linear_forms.specs.Exits.{Exit, exit_to, inner, first_label, crosses, name_of, beyond, outs_of}
use Rattle.linear_forms.specs.Emission.{Emitting, quiet, outward, put, guarded, cleaned, set_way, leave_code, way_tests, pad_cleanup, exit_cleanup, protect_exit, no_way_out, exit_code, filters_of}
use Rattle.linear_forms.specs.Code.{labels, labels_clauses, clause_tests, region_code, all_code, clauses_code}
use Rattle.linear_forms.specs.Unit.{emitting, placed_code}
use Rattle.linear_forms.specs.Copies.{cleans, cleans_in, copies_of, copies, copies_all, copies_clauses}
use Rattle.linear_forms.specs.Laws.{CleanupsStandTwice}

in_both : (a b : List Placed) → cleans_in (a ++ b) ≡ cleans_in a + cleans_in b
in_both [] b = omega arith
in_both (i ∷ a) b = omega (arith, in_both a b)

leave_none : (em : Emitting) (n : ℕ) (xs : List Exit) → cleans_in (leave_code em n xs) ≡ 0
leave_none em n xs = go (crosses n xs)
  where
    go : (b : Bool) → cleans_in (if b then set_way em (name_of n xs) ∷ quiet (jump (first_label n xs)) ∷ [] else quiet (jump (first_label n xs)) ∷ []) ≡ 0
    go true = refl
    go false = refl

tests_none : (em : Emitting) (xs : List Exit) (outs : List ℕ) → cleans_in (way_tests em xs outs) ≡ 0
tests_none em xs [] = refl
tests_none em xs (n ∷ outs) = omega (arith, tests_none em xs outs)

clause_tests_none : (em : Emitting) (l : ℕ) (cs : Clauses) → cleans_in (clause_tests em l cs) ≡ 0
clause_tests_none em l no_clauses = refl
clause_tests_none em l (clause_then t s r cs) = omega (arith, clause_tests_none em (l + 1) cs)

no_way_none : (em : Emitting) (outs : List ℕ) → cleans_in (no_way_out em outs) ≡ 0
no_way_none em [] = refl
no_way_none em (n ∷ outs) = refl

-- the cleanup of normal exits stands once in their code
exit_once : (em : Emitting) (o : Op) (c : Cover) (xs : List Exit) (l : ℕ) (outs : List ℕ) → cleans_in (exit_code em (Some o) c xs l outs) ≡ cleans (plain o)
exit_once em o c xs l outs =
    in_both (no_way_out em outs) (quiet (label (l + 2)) ∷ put o c ∷ way_tests em xs outs) ∙ omega (arith, no_way_none em outs, tests_none em xs outs)

copies_in : (em : Emitting) (cl : Cleanup) (c : Cover) (xs : List Exit) (l : ℕ) (outs : List ℕ)
    → cleans (pad_cleanup cl).op + cleans_in (exit_code em (exit_cleanup cl) c xs l outs) ≡ copies_of cl
copies_in em (destroy_scope p d) c xs l outs = omega (arith, exit_once em (destroy p d) c xs l outs)
copies_in em (destroy_part p d) c xs l outs = refl
copies_in em (free_object s) c xs l outs = refl
copies_in em leave_handler c xs l outs = omega (arith, exit_once em leave c xs l outs)

mutual
  region_copies : (r : Region) (em : Emitting) (c : Cover) (xs : List Exit) (l p : ℕ) → cleans_in (region_code em c xs l p r) ≡ copies r
  region_copies (seq rs) em c xs l p =
      let body = all_code em c (exit_to l ∷ xs) (l + 1) p rs in
      in_both body (quiet (label l) ∷ []) ∙ omega (arith, all_copies rs em c (exit_to l ∷ xs) (l + 1) p)
  region_copies (op o) em c xs l p = omega arith
  region_copies (branch v a b) em c xs l p =
      let first = region_code em c (exit_to l ∷ xs) (l + 2) (p + 1) a in
      let second = region_code em c (exit_to l ∷ xs) (l + 2 + labels a) (p + 3 + length first) b in
      omega (
        arith,
        in_both first (quiet (jump l) ∷ quiet (label (l + 1)) ∷ (second ++ quiet (label l) ∷ [])),
        in_both second (quiet (label l) ∷ []),
        region_copies a em c (exit_to l ∷ xs) (l + 2) (p + 1),
        region_copies b em c (exit_to l ∷ xs) (l + 2 + labels a) (p + 3 + length first),
      )
  region_copies (loop v r) em c xs l p =
      let body = region_code em c (exit_to l ∷ xs) (l + 2) (p + 2) r in
      omega (arith, in_both body (quiet (jump (l + 1)) ∷ quiet (label l) ∷ []), region_copies r em c (exit_to l ∷ xs) (l + 2) (p + 2))
  region_copies (protect r cl) em c xs l p =
      let exits = exit_code em (exit_cleanup cl) c xs l (distinct (beyond (outs_of r))) in
      let body = region_code em (cleaned em (p + 1) c) (protect_exit cl l ∷ xs) (l + 3) (p + 5) r in
      omega (
        arith,
        copies_in em cl c xs l (distinct (beyond (outs_of r))),
        in_both body (exits ++ quiet (label l) ∷ []),
        in_both exits (quiet (label l) ∷ []),
        region_copies r em (cleaned em (p + 1) c) (protect_exit cl l ∷ xs) (l + 3) (p + 5),
      )
  region_copies (catch r cs) em c xs l p =
      let tests = clause_tests em (l + 2) cs in
      let n = length (types_of cs) in
      let handlers = clauses_code em c (exit_to l ∷ xs) l (l + 2) (l + 2 + n) (p + 3 + length tests) cs in
      let inside = guarded (p + 1) (filters_of em (types_of cs)) c in
      let body = region_code em inside (exit_to l ∷ xs) (l + 2 + n + labels_clauses cs) (p + 4 + length tests + length handlers) r in
      omega (
        arith,
        clause_tests_none em (l + 2) cs,
        in_both tests (outward (resume em.object) c ∷ (handlers ++ quiet (label (l + 1)) ∷ (body ++ quiet (label l) ∷ []))),
        in_both handlers (quiet (label (l + 1)) ∷ (body ++ quiet (label l) ∷ [])),
        in_both body (quiet (label l) ∷ []),
        clauses_copies cs em c (exit_to l ∷ xs) l (l + 2) (l + 2 + n) (p + 3 + length tests),
        region_copies r em inside (exit_to l ∷ xs) (l + 2 + n + labels_clauses cs) (p + 4 + length tests + length handlers),
      )
  region_copies (limit r types) em c xs l p =
      let inside = guarded (p + 1) (em.filter (list_of types) ∷ []) c in
      omega (arith, in_both (region_code em inside (exit_to l ∷ xs) (l + 3) (p + 7) r) (quiet (label l) ∷ []), region_copies r em inside (exit_to l ∷ xs) (l + 3) (p + 7))
  region_copies (barrier r) em c xs l p =
      in_both (region_code em bare (exit_to l ∷ xs) (l + 1) p r) (quiet (label l) ∷ []) ∙ omega (arith, region_copies r em bare (exit_to l ∷ xs) (l + 1) p)
  region_copies (leave_region n) em c xs l p = leave_none em (inner n) xs

  all_copies : (rs : RegionList) (em : Emitting) (c : Cover) (xs : List Exit) (l p : ℕ) → cleans_in (all_code em c xs l p rs) ≡ copies_all rs
  all_copies no_regions em c xs l p = refl
  all_copies (region_then r rs) em c xs l p =
      let first = region_code em c xs l p r in
      in_both first (all_code em c xs (l + labels r) (p + length first) rs) ∙
      omega (arith, region_copies r em c xs l p, all_copies rs em c xs (l + labels r) (p + length first))

  clauses_copies : (cs : Clauses) (em : Emitting) (c : Cover) (xs : List Exit) (end first l p : ℕ) → cleans_in (clauses_code em c xs end first l p cs) ≡ copies_clauses cs
  clauses_copies no_clauses em c xs end first l p = refl
  clauses_copies (clause_then t s r cs) em c xs end first l p =
      let body = region_code em c xs l (p + 2) r in
      let rest = clauses_code em c xs end (first + 1) (l + labels r) (p + 3 + length body) cs in
      omega (
        arith,
        in_both body (quiet (jump end) ∷ rest),
        region_copies r em c xs l (p + 2),
        clauses_copies cs em c xs end (first + 1) (l + labels r) (p + 3 + length body),
      )

function_copies : (f : RegionFunction) → cleans_in (placed_code f) ≡ copies f.body
function_copies f =
    in_both (region_code (emitting f) unpadded [] 0 0 f.body) (quiet (return f.result) ∷ []) ∙ omega (arith, region_copies f.body (emitting f) unpadded [] 0 0)

bare_pads : (cl : Cleanup) → (pad_cleanup cl).cover ≡ bare
bare_pads (destroy_scope p d) = refl
bare_pads (destroy_part p d) = refl
bare_pads (free_object s) = refl
bare_pads leave_handler = refl

some_same : (a b : Op) → Some a ≡ Some b → a ≡ b
some_same a b e = cc e

sited_exits : (cl : Cleanup) (o : Op) (c : Cover) → exit_cleanup cl ≡ Some o → (put o c).cover ≡ c
sited_exits (destroy_scope p d) o c e = ap (λ x. (put x c).cover) (sym (some_same (destroy p d) o e))
sited_exits (destroy_part p d) o c e = absurd (cc e)
sited_exits (free_object s) o c e = absurd (cc e)
sited_exits leave_handler o c e = ap (λ x. (put x c).cover) (sym (some_same leave o e))

pub cleanups_stand_twice : CleanupsStandTwice
cleanups_stand_twice = record { counted = function_copies; bare_in_pad = bare_pads; sited_at_exits = sited_exits }
