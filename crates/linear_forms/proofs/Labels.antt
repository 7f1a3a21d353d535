-- Each label of a region's code stands once, in its own range.
use Rattle.std.proofs.Common.{◌≡◌, ℕ, zero, suc, ◌+◌, ◌<◌, ◌≤◌, Bool, true, false, List, [], ◌∷◌, ◌++◌, length, map, Option, Some, None, refl, sym, ap, ◌∙◌, arith, ⊎_elim}
use Rattle.std.proofs.lemmas.Bool.{cases_lt}
use Rattle.std.proofs.lemmas.Bool.Decides.{nat_tests}
use Rattle.std.specs.Prelude.{◌==◌, slice_get, if◌then◌else◌}
use Rattle.region_forms.specs.Form.{Op, Cleanup, destroy_scope, destroy_part, free_object, leave_handler, Region, seq, op, branch, loop, protect, catch, limit, barrier, leave_region, RegionList, no_regions, region_then, Clauses, no_clauses, clause_then, RegionFunction}
use Rattle.region_forms.specs.Guard.{types_of}
use Rattle.linear_forms.specs.Linear.{LinearOp, plain, label, jump, jump_zero, pad, jump_filter, free, resume, unexpected, return}
use Rattle.linear_forms.specs.Tables.{Cover, bare, unpadded, list_of, label_place}
use Rattle.linear_forms.specs.Sites.{Placed}
use Rattle.linear_forms.specs.Distinct.{distinct}
use Rattle.linear_forms.specs.Exits.{Exit, exit_to, inner, first_label, crosses, name_of, beyond, outs_of}
use Rattle.linear_forms.specs.Emission.{Emitting, quiet, outward, guarded, cleaned, set_way, leave_code, way_tests, pad_cleanup, exit_cleanup, protect_exit, no_way_out, exit_code, filters_of}
use Rattle.linear_forms.specs.Code.{labels, labels_all, labels_clauses, clause_tests, region_code, all_code, clauses_code}
use Rattle.linear_forms.specs.Unit.{emitting, placed_code}
use Rattle.linear_forms.specs.Laws.{LabelsAreDistinct}

-- 1 where a test holds
abbrev flag : Bool → ℕ
flag true = 1
flag false = 0

-- 1 where an operation is label x
abbrev is_label : ℕ → LinearOp → ℕ
is_label x (label l) = flag (l == x)
is_label x _ = 0

-- how often label x stands
abbrev count : ℕ → List Placed → ℕ
count x [] = 0
count x (i ∷ is) = is_label x i.op + count x is

count_append : (x : ℕ) (a b : List Placed) → count x (a ++ b) ≡ count x a + count x b
count_append x [] b = omega arith
count_append x (i ∷ a) b = omega (arith, count_append x a b)

-- labels are counted so, lie from lo up to hi, and stand at most once each
record In (f : ℕ → ℕ) (lo hi : ℕ) : Type 0 where
  order : lo ≤ hi
  below : (x : ℕ) → x < lo → f x ≡ 0
  above : (x : ℕ) → hi ≤ x → f x ≡ 0
  once : (x : ℕ) → f x ≤ 1

flag_once : (l x : ℕ) → flag (l == x) ≤ 1
flag_once l x = go (l == x)
  where
    go : (b : Bool) → flag b ≤ 1
    go true = omega arith
    go false = omega arith

flag_less : (l x : ℕ) → x < l → flag (l == x) ≡ 0
flag_less l x h = let e : (l == x) ≡ false = grind (arith, nat_tests) in ap flag e

flag_more : (l x : ℕ) → l < x → flag (l == x) ≡ 0
flag_more l x h = let e : (l == x) ≡ false = grind (arith, nat_tests) in ap flag e

one : (l : ℕ) → In (λ x. flag (l == x)) l (l + 1)
one l = record { order = omega arith; below = λ x h. flag_less l x h; above = λ x h. flag_more l x (omega (arith, h)); once = λ x. flag_once l x }

none : (lo hi : ℕ) → lo ≤ hi → In (λ x. 0) lo hi
none lo hi h = record { order = h; below = λ x k. refl; above = λ x k. refl; once = λ x. omega arith }

once_of_two : (x mid a b : ℕ) → (x < mid → b ≡ 0) → (mid ≤ x → a ≡ 0) → a ≤ 1 → b ≤ 1 → a + b ≤ 1
once_of_two x mid a b hb ha oa ob = ⊎_elim (λ lt. omega (arith, hb lt, oa)) (λ le. omega (arith, ha le, ob)) (cases_lt x mid)

-- two ranges, one behind the other
plus : {f g : ℕ → ℕ} {lo mid from hi : ℕ} → mid ≡ from → In f lo mid → In g from hi → In (λ x. f x + g x) lo hi
plus {f} {g} {lo} {mid} {from} {hi} e p q = record {
  order = omega (arith, e, p.order, q.order);
  below = λ x h. omega (arith, p.below x h, q.below x (omega (arith, e, h, p.order)));
  above = λ x h. omega (arith, p.above x (omega (arith, e, h, q.order)), q.above x h);
  once = λ x. once_of_two x mid (f x) (g x) (λ h. q.below x (omega (arith, e, h))) (p.above x) (p.once x) (q.once x);
}

-- the same counts, in the same range
alike : {f g : ℕ → ℕ} {lo hi hi' : ℕ} → hi ≡ hi' → ((x : ℕ) → g x ≡ f x) → In f lo hi → In g lo hi'
alike {f} {g} {lo} {hi} {hi'} e s p = record {
  order = omega (arith, e, p.order);
  below = λ x h. s x ∙ p.below x h;
  above = λ x h. s x ∙ p.above x (omega (arith, e, h));
  once = λ x. omega (arith, s x, p.once x);
}

-- pieces without labels

leave_quiet : (em : Emitting) (n : ℕ) (xs : List Exit) (x : ℕ) → count x (leave_code em n xs) ≡ 0
leave_quiet em n xs x = go (crosses n xs)
  where
    go : (b : Bool) → count x (if b then set_way em (name_of n xs) ∷ quiet (jump (first_label n xs)) ∷ [] else quiet (jump (first_label n xs)) ∷ []) ≡ 0
    go true = refl
    go false = refl

tests_quiet : (em : Emitting) (xs : List Exit) (outs : List ℕ) (x : ℕ) → count x (way_tests em xs outs) ≡ 0
tests_quiet em xs [] x = refl
tests_quiet em xs (n ∷ outs) x = omega (arith, tests_quiet em xs outs x)

clause_tests_quiet : (em : Emitting) (l : ℕ) (cs : Clauses) (x : ℕ) → count x (clause_tests em l cs) ≡ 0
clause_tests_quiet em l no_clauses x = refl
clause_tests_quiet em l (clause_then t s r cs) x = omega (arith, clause_tests_quiet em (l + 1) cs x)

no_way_quiet : (em : Emitting) (outs : List ℕ) (x : ℕ) → count x (no_way_out em outs) ≡ 0
no_way_quiet em [] x = refl
no_way_quiet em (n ∷ outs) x = refl

pad_quiet : (cl : Cleanup) (x : ℕ) → is_label x (pad_cleanup cl).op ≡ 0
pad_quiet (destroy_scope p d) x = refl
pad_quiet (destroy_part p d) x = refl
pad_quiet (free_object s) x = refl
pad_quiet leave_handler x = refl

-- the cleanup of normal exits has at most its own label
exit_labels : (em : Emitting) (o : Option Op) (c : Cover) (xs : List Exit) (l : ℕ) (outs : List ℕ)
    → In (λ x. count x (exit_code em o c xs l outs)) (l + 2) (l + 3)
exit_labels em None c xs l outs = none (l + 2) (l + 3) (omega arith)
exit_labels em (Some o) c xs l outs =
    alike (omega arith)
    (λ x. count_append x (no_way_out em outs) _ ∙ omega (arith, no_way_quiet em outs x, tests_quiet em xs outs x))
    (one (l + 2))

-- the labels at which handlers begin
abbrev heads : ℕ → Clauses → ℕ → ℕ
heads k no_clauses x = 0
heads k (clause_then t s r cs) x = flag (k == x) + heads (k + 1) cs x

heads_in : (k : ℕ) (cs : Clauses) → In (heads k cs) k (k + length (types_of cs))
heads_in k no_clauses = none k (k + 0) (omega arith)
heads_in k (clause_then t s r cs) = alike (omega arith) (λ x. refl) (plus (omega arith) (one k) (heads_in (k + 1) cs))

-- how often label x stands in the bodies of handlers
abbrev bodies : Emitting → Cover → List Exit → (l p : ℕ) → Clauses → ℕ → ℕ
bodies em c xs l p no_clauses x = 0
bodies em c xs l p (clause_then t s r cs) x =
    count x (region_code em c xs l (p + 2) r) + bodies em c xs (l + labels r) (p + 3 + length (region_code em c xs l (p + 2) r)) cs x

-- the labels of handlers are those at which they begin and those of their bodies
clauses_split : (cs : Clauses) (em : Emitting) (c : Cover) (xs : List Exit) (end first l p x : ℕ)
    → count x (clauses_code em c xs end first l p cs) ≡ heads first cs x + bodies em c xs l p cs x
clauses_split no_clauses em c xs end first l p x = refl
clauses_split (clause_then t s r cs) em c xs end first l p x =
    let body = region_code em c xs l (p + 2) r in
    let q = p + 3 + length body in
    omega (
      arith,
      count_append x body (quiet (jump end) ∷ clauses_code em c xs end (first + 1) (l + labels r) q cs),
      clauses_split cs em c xs end (first + 1) (l + labels r) q x,
    )

mutual
  region_labels : (r : Region) (em : Emitting) (c : Cover) (xs : List Exit) (l p : ℕ)
      → In (λ x. count x (region_code em c xs l p r)) l (l + labels r)
  region_labels (seq rs) em c xs l p =
      let body = all_code em c (exit_to l ∷ xs) (l + 1) p rs in
      alike (omega arith) (λ x. omega (arith, count_append x body (quiet (label l) ∷ [])))
      (plus (omega arith) (one l) (all_labels rs em c (exit_to l ∷ xs) (l + 1) p))
  region_labels (op o) em c xs l p = none l (l + 0) (omega arith)
  region_labels (branch v a b) em c xs l p =
      let first = region_code em c (exit_to l ∷ xs) (l + 2) (p + 1) a in
      let second = region_code em c (exit_to l ∷ xs) (l + 2 + labels a) (p + 3 + length first) b in
      alike (omega arith)
      (λ x. omega (arith, count_append x first (quiet (jump l) ∷ quiet (label (l + 1)) ∷ (second ++ quiet (label l) ∷ [])), count_append x second (quiet (label l) ∷ [])))
      (plus (omega arith) (one l) (plus (omega arith) (one (l + 1)) (plus (omega arith)
      (region_labels a em c (exit_to l ∷ xs) (l + 2) (p + 1))
      (region_labels b em c (exit_to l ∷ xs) (l + 2 + labels a) (p + 3 + length first)))))
  region_labels (loop v r) em c xs l p =
      let body = region_code em c (exit_to l ∷ xs) (l + 2) (p + 2) r in
      alike (omega arith)
      (λ x. omega (arith, count_append x body (quiet (jump (l + 1)) ∷ quiet (label l) ∷ [])))
      (plus (omega arith) (one l) (plus (omega arith) (one (l + 1)) (region_labels r em c (exit_to l ∷ xs) (l + 2) (p + 2))))
  region_labels (protect r cl) em c xs l p =
      let outs = distinct (beyond (outs_of r)) in
      let exits = exit_code em (exit_cleanup cl) c xs l outs in
      let body = region_code em (cleaned em (p + 1) c) (protect_exit cl l ∷ xs) (l + 3) (p + 5) r in
      alike (omega arith)
      (λ x. omega (arith, pad_quiet cl x, count_append x body (exits ++ quiet (label l) ∷ []), count_append x exits (quiet (label l) ∷ [])))
      (plus (omega arith) (one l) (plus (omega arith) (one (l + 1)) (plus (omega arith) (exit_labels em (exit_cleanup cl) c xs l outs)
      (region_labels r em (cleaned em (p + 1) c) (protect_exit cl l ∷ xs) (l + 3) (p + 5)))))
  region_labels (catch r cs) em c xs l p =
      let n = length (types_of cs) in
      let tests = clause_tests em (l + 2) cs in
      let q = p + 3 + length tests in
      let handlers = clauses_code em c (exit_to l ∷ xs) l (l + 2) (l + 2 + n) q cs in
      let inside = guarded (p + 1) (filters_of em (types_of cs)) c in
      let t = p + 4 + length tests + length handlers in
      let body = region_code em inside (exit_to l ∷ xs) (l + 2 + n + labels_clauses cs) t r in
      alike (omega arith)
      (λ x. omega (
        arith,
        clause_tests_quiet em (l + 2) cs x,
        count_append x tests (outward (resume em.object) c ∷ (handlers ++ quiet (label (l + 1)) ∷ (body ++ quiet (label l) ∷ []))),
        count_append x handlers (quiet (label (l + 1)) ∷ (body ++ quiet (label l) ∷ [])),
        count_append x body (quiet (label l) ∷ []),
        clauses_split cs em c (exit_to l ∷ xs) l (l + 2) (l + 2 + n) q x,
      ))
      (plus (omega arith) (one l) (plus (omega arith) (one (l + 1)) (plus (omega arith) (heads_in (l + 2) cs) (plus (omega arith)
      (bodies_in cs em c (exit_to l ∷ xs) (l + 2 + n) q)
      (region_labels r em inside (exit_to l ∷ xs) (l + 2 + n + labels_clauses cs) t)))))
  region_labels (limit r types) em c xs l p =
      let inside = guarded (p + 1) (em.filter (list_of types) ∷ []) c in
      let body = region_code em inside (exit_to l ∷ xs) (l + 3) (p + 7) r in
      alike (omega arith) (λ x. omega (arith, count_append x body (quiet (label l) ∷ [])))
      (plus (omega arith) (one l) (plus (omega arith) (one (l + 1)) (plus (omega arith) (one (l + 2)) (region_labels r em inside (exit_to l ∷ xs) (l + 3) (p + 7)))))
  region_labels (barrier r) em c xs l p =
      let body = region_code em bare (exit_to l ∷ xs) (l + 1) p r in
      alike (omega arith) (λ x. omega (arith, count_append x body (quiet (label l) ∷ [])))
      (plus (omega arith) (one l) (region_labels r em bare (exit_to l ∷ xs) (l + 1) p))
  region_labels (leave_region n) em c xs l p = alike (omega arith) (λ x. leave_quiet em (inner n) xs x) (none l (l + 0) (omega arith))

  all_labels : (rs : RegionList) (em : Emitting) (c : Cover) (xs : List Exit) (l p : ℕ)
      → In (λ x. count x (all_code em c xs l p rs)) l (l + labels_all rs)
  all_labels no_regions em c xs l p = none l (l + 0) (omega arith)
  all_labels (region_then r rs) em c xs l p =
      let first = region_code em c xs l p r in
      alike (omega arith) (λ x. count_append x first (all_code em c xs (l + labels r) (p + length first) rs))
      (plus (omega arith) (region_labels r em c xs l p) (all_labels rs em c xs (l + labels r) (p + length first)))

  -- the labels of handlers but for those at which they begin
  bodies_in : (cs : Clauses) (em : Emitting) (c : Cover) (xs : List Exit) (l p : ℕ) → In (bodies em c xs l p cs) l (l + labels_clauses cs)
  bodies_in no_clauses em c xs l p = none l (l + 0) (omega arith)
  bodies_in (clause_then t s r cs) em c xs l p =
      let q = p + 3 + length (region_code em c xs l (p + 2) r) in
      alike (omega arith) (λ x. refl) (plus (omega arith) (region_labels r em c xs l (p + 2)) (bodies_in cs em c xs (l + labels r) q))

-- a function's code has each label once
function_once : (f : RegionFunction) (x : ℕ) → count x (placed_code f) ≤ 1
function_once f x =
    let body = region_code (emitting f) unpadded [] 0 0 f.body in
    omega (arith, count_append x body (quiet (return f.result) ∷ []), (region_labels f.body (emitting f) unpadded [] 0 0).once x)

-- the operations of code
abbrev ops_of : List Placed → List LinearOp
ops_of code = map (λ x. x.op) code

some_same : (a b : LinearOp) → Some a ≡ Some b → a ≡ b
some_same a b e = cc e

label_itself : (l : ℕ) → flag (l == l) ≡ 1
label_itself l = let e : (l == l) ≡ true = grind (arith, nat_tests) in ap flag e

is_counted : (o : LinearOp) (l : ℕ) → o ≡ label l → is_label l o ≡ 1
is_counted o l e = ap (is_label l) e ∙ label_itself l

-- a label that stands is counted
stands : (code : List Placed) (l p : ℕ) → slice_get (ops_of code) p ≡ Some (label l) → 1 ≤ count l code
stands [] l p e = absurd (cc e)
stands (i ∷ is) l zero e = omega (arith, is_counted i.op l (some_same i.op (label l) e))
stands (i ∷ is) l (suc p) e = omega (arith, stands is l p e)

too_many : (a b : ℕ) → a ≡ 1 → 1 ≤ b → a + b ≤ 1 → ⊥
too_many a b e h k = omega (arith, e, h, k)

same_place : (code : List Placed) (l p q : ℕ) → count l code ≤ 1 → slice_get (ops_of code) p ≡ Some (label l) → slice_get (ops_of code) q ≡ Some (label l) → p ≡ q
same_place [] l p q h a b = absurd (cc a)
same_place (i ∷ is) l zero zero h a b = refl
same_place (i ∷ is) l zero (suc q) h a b =
    absurd (too_many (is_label l i.op) (count l is) (is_counted i.op l (some_same i.op (label l) a)) (stands is l q b) h)
same_place (i ∷ is) l (suc p) zero h a b =
    absurd (too_many (is_label l i.op) (count l is) (is_counted i.op l (some_same i.op (label l) b)) (stands is l p a) h)
same_place (i ∷ is) l (suc p) (suc q) h a b = ap suc (same_place is l p q (omega (arith, h)) a b)

-- another operation is passed
passed : (o : LinearOp) (ops : List LinearOp) (l p : ℕ) → is_label l o ≡ 0 → label_place (o ∷ ops) l p ≡ label_place ops l (p + 1)
passed (plain o) ops l p e = refl
passed (label m) ops l p e = go (m == l) refl
  where
    go : (b : Bool) → (m == l) ≡ b → (if b then p else label_place ops l (p + 1)) ≡ label_place ops l (p + 1)
    go true k = let x : 1 ≡ 0 = sym (ap flag k) ∙ e in absurd (cc x)
    go false k = refl
passed (jump m) ops l p e = refl
passed (jump_zero v m) ops l p e = refl
passed (pad o s) ops l p e = refl
passed (jump_filter s n m) ops l p e = refl
passed (free s) ops l p e = refl
passed (resume s) ops l p e = refl
passed (unexpected o s) ops l p e = refl
passed (return r) ops l p e = refl

reached : (l p : ℕ) (ops : List LinearOp) → label_place (label l ∷ ops) l p ≡ p
reached l p ops = let e : (l == l) ≡ true = grind (arith, nat_tests) in ap (λ b. if b then p else label_place ops l (p + 1)) e

found_place : (code : List Placed) (l k p : ℕ) → count l code ≤ 1 → slice_get (ops_of code) k ≡ Some (label l) → label_place (ops_of code) l p ≡ p + k
found_place [] l k p h a = absurd (cc a)
found_place (i ∷ is) l zero p h a = ap (λ o. label_place (o ∷ ops_of is) l p) (some_same i.op (label l) a) ∙ reached l p (ops_of is) ∙ omega arith
found_place (i ∷ is) l (suc k) p h a =
    passed i.op (ops_of is) l p (omega (arith, h, stands is l k a)) ∙ found_place is l k (p + 1) (omega (arith, h)) a ∙ omega arith

pub labels_are_distinct : LabelsAreDistinct
labels_are_distinct = record {
  once = λ f l p q a b. same_place (placed_code f) l p q (function_once f l) a b;
  found = λ f l p a. found_place (placed_code f) l p 0 (function_once f l) a ∙ omega arith;
}
