-- The handlers that are open behind operations, as their row says it: a pad that leaves one leaves it for what goes on outwards alone.
use Rattle.std.proofs.Common.{◌≡◌, ℕ, zero, suc, ◌+◌, Bool, true, false, List, [], ◌∷◌, ◌++◌, length, Some, refl, sym, ap, ◌∙◌}
use Rattle.std.specs.Prelude.{◌&&◌, not, if◌then◌else◌}
use Rattle.std.proofs.lemmas.Bool.{and_parts}
use Rattle.region_forms.specs.Form.{bind, Op, evaluate, store, call, construct, destroy, make, throw, rethrow, enter, leave, Cleanup, destroy_scope, destroy_part, free_object, leave_handler, Region, seq, op, branch, loop, protect, catch, limit, barrier, leave_region, RegionList, no_regions, region_then, Clauses, no_clauses, clause_then}
use Rattle.region_forms.specs.Guard.{types_of}
use Rattle.linear_forms.specs.Linear.{LinearOp, plain, label, jump, pad, resume}
use Rattle.linear_forms.specs.Tables.{Cover, bare, list_of}
use Rattle.linear_forms.specs.Sites.{Placed}
use Rattle.linear_forms.specs.Distinct.{distinct}
use Rattle.linear_forms.specs.Exits.{Exit, exit_to, inner, first_label, crosses, name_of, beyond, outs_of}
use Rattle.linear_forms.specs.Emission.{Emitting, quiet, outward, put, set_way, leave_code, way_tests, no_way_out, exit_code, cleaned, guarded, protect_exit, protect_code, filters_of}
use Rattle.linear_forms.specs.Code.{labels, labels_clauses, clause_tests, region_code, all_code, clauses_code}
use Rattle.kept_handlers.specs.Left.{is_leave, opens_one, leaves_one, is_even, region_in_step, regions_in_step, clauses_in_step}

-- behind a pad, behind one that left a handler, or elsewhere
pub data Phase : Type 0 where
  off : Phase
  caught : Phase
  left : Phase

-- with how many handlers are open
pub record Scan : Type 0 where
  pub phase : Phase
  pub many : ℕ

abbrev pub lower : ℕ → ℕ
lower zero = zero
lower (suc n) = n

abbrev pub elsewhere : ℕ → Scan
elsewhere n = record { phase = off; many = n }

abbrev pub behind_leave : Phase → ℕ → Scan
behind_leave caught n = record { phase = left; many = lower n }
behind_leave off n = elsewhere (lower n)
behind_leave left n = elsewhere (lower n)

abbrev pub behind_resume : Phase → ℕ → Scan
behind_resume left n = elsewhere (suc n)
behind_resume off n = elsewhere n
behind_resume caught n = elsewhere n

-- behind an operation
abbrev pub after : Scan → LinearOp → Scan
after s (plain (enter x)) = elsewhere (suc s.many)
after s (plain leave) = behind_leave s.phase s.many
after s (pad o x) = record { phase = caught; many = s.many }
after s (resume x) = behind_resume s.phase s.many
after s o = elsewhere s.many

-- behind operations in a row
abbrev pub after_all : Scan → List Placed → Scan
after_all s [] = s
after_all s (x ∷ xs) = after_all (after s x.op) xs

pub after_both : (s t u : Scan) (a b : List Placed) → after_all s a ≡ t → after_all t b ≡ u → after_all s (a ++ b) ≡ u
after_both s t u [] b first rest = ap (λ x. after_all x b) first ∙ rest
after_both s t u (x ∷ a) b first rest = after_both (after s x.op) t u a b first rest

-- one more
abbrev pub with_open : Bool → ℕ → Scan
with_open true n = elsewhere (suc n)
with_open false n = elsewhere n

pub opens_one_as : (o : Op) (n : ℕ) → not (is_leave o) ≡ true → after (elsewhere n) (plain o) ≡ with_open (opens_one (op o)) n
opens_one_as (evaluate v) n e = refl
opens_one_as (store p v) n e = refl
opens_one_as (bind s p) n e = refl
opens_one_as (call c args) n e = refl
opens_one_as (construct p k args) n e = refl
opens_one_as (destroy p k) n e = refl
opens_one_as (make s) n e = refl
opens_one_as (throw s t d) n e = refl
opens_one_as rethrow n e = refl
opens_one_as (enter s) n e = refl
opens_one_as leave n e = absurd (cc e)

pub not_true : (b : Bool) → not b ≡ true → b ≡ false
not_true true e = absurd (cc e)
not_true false e = refl

-- an even region, in step
pub record Even (a : Region) : Type 0 where
  pub opens : opens_one a ≡ false
  pub leaves : leaves_one a ≡ false
  pub steps : region_in_step a ≡ true

pub even_parts : (a : Region) → (is_even a && region_in_step a) ≡ true → Even a
even_parts a e =
    let both = and_parts (is_even a) (region_in_step a) e in
    let even = and_parts (not (opens_one a)) (not (leaves_one a)) both.0 in
    record { opens = not_true (opens_one a) even.0; leaves = not_true (leaves_one a) even.1; steps = both.1 }

-- the first of regions in order, in step
pub record First (a : Region) (rs : RegionList) (b : Bool) : Type 0 where
  pub leaves : leaves_one a ≡ b
  pub steps : region_in_step a ≡ true
  pub rest : regions_in_step (opens_one a) rs ≡ true

pub list_parts : (a : Region) (rs : RegionList) (b : Bool) → regions_in_step b (region_then a rs) ≡ true → First a rs b
list_parts a rs true e =
    let both = and_parts (leaves_one a) (region_in_step a && regions_in_step (opens_one a) rs) e in
    let later = and_parts (region_in_step a) (regions_in_step (opens_one a) rs) both.1 in
    record { leaves = both.0; steps = later.0; rest = later.1 }
list_parts a rs false e =
    let both = and_parts (not (leaves_one a)) (region_in_step a && regions_in_step (opens_one a) rs) e in
    let later = and_parts (region_in_step a) (regions_in_step (opens_one a) rs) both.1 in
    record { leaves = not_true (leaves_one a) both.0; steps = later.0; rest = later.1 }

module _ (em : Emitting) where
  pub leave_after : (m n : ℕ) (xs : List Exit) → after_all (elsewhere n) (leave_code em m xs) ≡ elsewhere n
  leave_after m n xs = go (crosses m xs)
    where
      go : (b : Bool) → after_all (elsewhere n) (if b then set_way em (name_of m xs) ∷ quiet (jump (first_label m xs)) ∷ [] else quiet (jump (first_label m xs)) ∷ []) ≡ elsewhere n
      go true = refl
      go false = refl

  pub ways_after : (n : ℕ) (xs : List Exit) (outs : List ℕ) → after_all (elsewhere n) (way_tests em xs outs) ≡ elsewhere n
  ways_after n xs [] = refl
  ways_after n xs (m ∷ outs) = ways_after n xs outs

  pub no_way_after : (n : ℕ) (outs : List ℕ) → after_all (elsewhere n) (no_way_out em outs) ≡ elsewhere n
  no_way_after n [] = refl
  no_way_after n (m ∷ outs) = refl

  tests_on : (n l : ℕ) (cs : Clauses) → after_all (elsewhere n) (clause_tests em l cs) ≡ elsewhere n
  tests_on n l no_clauses = refl
  tests_on n l (clause_then t x a cs) = tests_on n (l + 1) cs

  -- behind the tests of a pad control goes on outwards
  pub tests_after : (n l : ℕ) (c : Cover) (cs : Clauses) (rest : List Placed) →
      after_all (record { phase = caught; many = n }) (clause_tests em l cs ++ outward (resume em.object) c ∷ rest) ≡ after_all (elsewhere n) rest
  tests_after n l c no_clauses rest = refl
  tests_after n l c (clause_then t x a cs) rest =
      after_both (elsewhere n) (elsewhere n) (after_all (elsewhere n) rest) (clause_tests em (l + 1) cs) (outward (resume em.object) c ∷ rest) (tests_on n (l + 1) cs) refl

  pub tests_resume : (n l o : ℕ) (cs : Clauses) → after (after_all (record { phase = caught; many = n }) (clause_tests em l cs)) (resume o) ≡ elsewhere n
  tests_resume n l o no_clauses = refl
  tests_resume n l o (clause_then t x a cs) = ap (λ s. after s (resume o)) (tests_on n (l + 1) cs)

  pub exits_after : (n l : ℕ) (o : Op) (c : Cover) (xs : List Exit) (outs : List ℕ) (m : ℕ) → after (elsewhere n) (plain o) ≡ elsewhere m → after_all (elsewhere n) (exit_code em (Some o) c xs l outs) ≡ elsewhere m
  exits_after n l o c xs outs m e =
      after_both (elsewhere n) (elsewhere n) (elsewhere m) (no_way_out em outs) (quiet (label (l + 2)) ∷ put o c ∷ way_tests em xs outs) (no_way_after n outs)
      (ap (λ s. after_all s (way_tests em xs outs)) e ∙ ways_after m xs outs)

  pub protect_after : (a : Region) (cl : Cleanup) (n : ℕ) (c : Cover) (xs : List Exit) (l : ℕ) (outs : List ℕ) (body : List Placed) → ((m : ℕ) → after_all (elsewhere m) body ≡ elsewhere m) →
      after_all (with_open (leaves_one (protect a cl)) n) (protect_code em cl c xs l outs body) ≡ elsewhere n
  protect_after a (destroy_scope q d) n c xs l outs body h =
      let exits = exit_code em (Some (destroy q d)) c xs l outs in
      after_both (elsewhere n) (elsewhere n) (elsewhere n) body (exits ++ quiet (label l) ∷ []) (h n)
      (after_both (elsewhere n) (elsewhere n) (elsewhere n) exits (quiet (label l) ∷ []) (exits_after n l (destroy q d) c xs outs n refl) refl)
  protect_after a (destroy_part q d) n c xs l outs body h = after_both (elsewhere n) (elsewhere n) (elsewhere n) body (quiet (label l) ∷ []) (h n) refl
  protect_after a (free_object s) n c xs l outs body h = after_both (elsewhere n) (elsewhere n) (elsewhere n) body (quiet (label l) ∷ []) (h n) refl
  protect_after a leave_handler n c xs l outs body h =
      let exits = exit_code em (Some leave) c xs l outs in
      after_both (elsewhere (suc n)) (elsewhere (suc n)) (elsewhere n) body (exits ++ quiet (label l) ∷ []) (h (suc n))
      (after_both (elsewhere (suc n)) (elsewhere n) (elsewhere n) exits (quiet (label l) ∷ []) (exits_after (suc n) l leave c xs outs n refl) refl)

  -- code of an even region
  pub evenly : (a : Region) (n : ℕ) (is : List Placed) → Even a → after_all (with_open (leaves_one a) n) is ≡ with_open (opens_one a) n → after_all (elsewhere n) is ≡ elsewhere n
  evenly a n is even h = sym (ap (λ b. after_all (with_open b n) is) even.leaves) ∙ (h ∙ ap (λ b. with_open b n) even.opens)

  mutual
    pub region_after : (a : Region) (c : Cover) (xs : List Exit) (l p n : ℕ) → region_in_step a ≡ true → after_all (with_open (leaves_one a) n) (region_code em c xs l p a) ≡ with_open (opens_one a) n
    region_after (seq rs) c xs l p n e =
        after_both (elsewhere n) (elsewhere n) (elsewhere n) (all_code em c (exit_to l ∷ xs) (l + 1) p rs) (quiet (label l) ∷ []) (regions_after rs false c (exit_to l ∷ xs) (l + 1) p n e) refl
    region_after (op o) c xs l p n e = opens_one_as o n e
    region_after (branch v a b) c xs l p n e =
        let both = and_parts (is_even a && region_in_step a) (is_even b && region_in_step b) e in
        let one = even_parts a both.0 in
        let other = even_parts b both.1 in
        let first = region_code em c (exit_to l ∷ xs) (l + 2) (p + 1) a in
        let second = region_code em c (exit_to l ∷ xs) (l + 2 + labels a) (p + 3 + length first) b in
        let s = elsewhere n in
        after_both s s s first (quiet (jump l) ∷ quiet (label (l + 1)) ∷ (second ++ quiet (label l) ∷ []))
        (evenly a n first one (region_after a c (exit_to l ∷ xs) (l + 2) (p + 1) n one.steps))
        (after_both s s s second (quiet (label l) ∷ []) (evenly b n second other (region_after b c (exit_to l ∷ xs) (l + 2 + labels a) (p + 3 + length first) n other.steps)) refl)
    region_after (loop v a) c xs l p n e =
        let one = even_parts a e in
        let body = region_code em c (exit_to l ∷ xs) (l + 2) (p + 2) a in
        after_both (elsewhere n) (elsewhere n) (elsewhere n) body (quiet (jump (l + 1)) ∷ quiet (label l) ∷ []) (evenly a n body one (region_after a c (exit_to l ∷ xs) (l + 2) (p + 2) n one.steps)) refl
    region_after (protect a cl) c xs l p n e =
        let one = even_parts a e in
        let body = region_code em (cleaned em (p + 1) c) (protect_exit cl l ∷ xs) (l + 3) (p + 5) a in
        protect_after a cl n c xs l (distinct (beyond (outs_of a))) body (λ m. evenly a m body one (region_after a (cleaned em (p + 1) c) (protect_exit cl l ∷ xs) (l + 3) (p + 5) m one.steps))
    region_after (catch a cs) c xs l p n e =
        let both = and_parts (is_even a && region_in_step a) (clauses_in_step cs) e in
        let one = even_parts a both.0 in
        let tests = clause_tests em (l + 2) cs in
        let k = length (types_of cs) in
        let handlers = clauses_code em c (exit_to l ∷ xs) l (l + 2) (l + 2 + k) (p + 3 + length tests) cs in
        let inside = guarded (p + 1) (filters_of em (types_of cs)) c in
        let body = region_code em inside (exit_to l ∷ xs) (l + 2 + k + labels_clauses cs) (p + 4 + length tests + length handlers) a in
        let later = quiet (label (l + 1)) ∷ (body ++ quiet (label l) ∷ []) in
        let s = elsewhere n in
        tests_after n (l + 2) c cs (handlers ++ later) ∙
        after_both s s s handlers later (clauses_after cs c (exit_to l ∷ xs) l (l + 2) (l + 2 + k) (p + 3 + length tests) n both.1)
        (after_both s s s body (quiet (label l) ∷ [])
        (evenly a n body one (region_after a inside (exit_to l ∷ xs) (l + 2 + k + labels_clauses cs) (p + 4 + length tests + length handlers) n one.steps)) refl)
    region_after (limit a types) c xs l p n e =
        let one = even_parts a e in
        let inside = guarded (p + 1) (em.filter (list_of types) ∷ []) c in
        let body = region_code em inside (exit_to l ∷ xs) (l + 3) (p + 7) a in
        after_both (elsewhere n) (elsewhere n) (elsewhere n) body (quiet (label l) ∷ []) (evenly a n body one (region_after a inside (exit_to l ∷ xs) (l + 3) (p + 7) n one.steps)) refl
    region_after (barrier a) c xs l p n e =
        let one = even_parts a e in
        let body = region_code em bare (exit_to l ∷ xs) (l + 1) p a in
        after_both (elsewhere n) (elsewhere n) (elsewhere n) body (quiet (label l) ∷ []) (evenly a n body one (region_after a bare (exit_to l ∷ xs) (l + 1) p n one.steps)) refl
    region_after (leave_region m) c xs l p n e = leave_after (inner m) n xs

    pub regions_after : (rs : RegionList) (b : Bool) (c : Cover) (xs : List Exit) (l p n : ℕ) → regions_in_step b rs ≡ true → after_all (with_open b n) (all_code em c xs l p rs) ≡ elsewhere n
    regions_after no_regions true c xs l p n e = absurd (cc e)
    regions_after no_regions false c xs l p n e = refl
    regions_after (region_then a rs) b c xs l p n e =
        let parts = list_parts a rs b e in
        let first = region_code em c xs l p a in
        after_both (with_open b n) (with_open (opens_one a) n) (elsewhere n) first (all_code em c xs (l + labels a) (p + length first) rs)
        (ap (λ x. after_all (with_open x n) first) (sym parts.leaves) ∙ region_after a c xs l p n parts.steps)
        (regions_after rs (opens_one a) c xs (l + labels a) (p + length first) n parts.rest)

    pub clauses_after : (cs : Clauses) (c : Cover) (xs : List Exit) (end first l p n : ℕ) → clauses_in_step cs ≡ true → after_all (elsewhere n) (clauses_code em c xs end first l p cs) ≡ elsewhere n
    clauses_after no_clauses c xs end first l p n e = refl
    clauses_after (clause_then t x a cs) c xs end first l p n e =
        let both = and_parts (is_even a && region_in_step a) (clauses_in_step cs) e in
        let one = even_parts a both.0 in
        let body = region_code em c xs l (p + 2) a in
        after_both (elsewhere n) (elsewhere n) (elsewhere n) body (quiet (jump end) ∷ clauses_code em c xs end (first + 1) (l + labels a) (p + 3 + length body) cs)
        (evenly a n body one (region_after a c xs l (p + 2) n one.steps))
        (clauses_after cs c xs end (first + 1) (l + labels a) (p + 3 + length body) n both.1)
