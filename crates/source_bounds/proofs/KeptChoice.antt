-- The code of a region takes the addresses that the region takes.
use Rattle.std.proofs.Common.{◌≡◌, ◌∙◌, refl, sym, ap, ℕ, ◌+◌, ◌&&◌, ◌||◌, not, Bool, true, false, List, [], ◌∷◌, ◌++◌, map, take, length, Option, Some, None, if◌then◌else◌}
use Rattle.region_forms.specs.Form.{Slot, Op, Cleanup, destroy_scope, destroy_part, free_object, leave_handler, Region, seq, op, branch, loop, protect, catch, limit, barrier, leave_region, RegionList, no_regions, region_then, Clauses, no_clauses, clause_then, RegionFunction}
use Rattle.region_forms.specs.Guard.{types_of}
use Rattle.region_forms.specs.LowerProgram.{help}
use Rattle.linear_forms.specs.Linear.{LinearOp, label, jump, resume, return}
use Rattle.linear_forms.specs.Tables.{Cover, bare, unpadded, list_of}
use Rattle.linear_forms.specs.Sites.{Placed}
use Rattle.linear_forms.specs.Distinct.{distinct}
use Rattle.linear_forms.specs.Exits.{Exit, exit_to, inner, first_label, crosses, name_of, beyond, outs_of}
use Rattle.linear_forms.specs.Emission.{Emitting, quiet, outward, put, guarded, cleaned, set_way, leave_code, way_tests, pad_cleanup, exit_cleanup, protect_exit, no_way_out, exit_code, filters_of}
use Rattle.linear_forms.specs.Code.{labels, labels_clauses, clause_tests, region_code, all_code, clauses_code}
use Rattle.linear_forms.specs.Frame.{has_pad}
use Rattle.linear_forms.specs.Unit.{emitting, placed_code, function_code}
use Rattle.machine_forms.specs.Kept.{root_is, op_takes, linear_takes, is_taken, is_one_int, untaken, kept_slots}
use Rattle.source_bounds.specs.KeptChoice.{cleanup_takes, region_takes, some_take, clauses_take, untaken_in, VariablesAreChosen}

-- ---- truths

pub or_false : (a : Bool) → (a || false) ≡ a
or_false true = refl
or_false false = refl

pub or_behind : (a b c : Bool) → ((a || b) || c) ≡ (a || (b || c))
or_behind true b c = refl
or_behind false b c = refl

pub both_or : {a b c d : Bool} → a ≡ c → b ≡ d → (a || b) ≡ (c || d)
both_or e f = cc (e, f)

-- what was said before may be said again
said_again : (a b : Bool) → (a || (b || a)) ≡ (a || b)
said_again true b = refl
said_again false b = or_false b

-- ---- placed operations

abbrev takes : ℕ → List Placed → Bool
takes s [] = false
takes s (x ∷ xs) = linear_takes s x.op || takes s xs

takes_both : (s : ℕ) (a b : List Placed) → takes s (a ++ b) ≡ (takes s a || takes s b)
takes_both s [] b = refl
takes_both s (x ∷ a) b = ap (λ t. linear_takes s x.op || t) (takes_both s a b) ∙ sym (or_behind (linear_takes s x.op) (takes s a) (takes s b))

-- code behind that takes none
then_none : (s : ℕ) (a b : List Placed) → takes s b ≡ false → takes s (a ++ b) ≡ takes s a
then_none s a b e = takes_both s a b ∙ ap (λ t. takes s a || t) e ∙ or_false (takes s a)

-- code before that takes none
none_before : (s : ℕ) (a b : List Placed) → takes s a ≡ false → takes s (a ++ b) ≡ takes s b
none_before s a b e = takes_both s a b ∙ ap (λ t. t || takes s b) e

leave_takes : (s : ℕ) (em : Emitting) (n : ℕ) (xs : List Exit) → takes s (leave_code em n xs) ≡ false
leave_takes s em n xs = go (crosses n xs)
  where
    go : (b : Bool) → takes s (if b then set_way em (name_of n xs) ∷ quiet (jump (first_label n xs)) ∷ [] else quiet (jump (first_label n xs)) ∷ []) ≡ false
    go true = refl
    go false = refl

tests_take : (s : ℕ) (em : Emitting) (xs : List Exit) (outs : List ℕ) → takes s (way_tests em xs outs) ≡ false
tests_take s em xs [] = refl
tests_take s em xs (n ∷ outs) = tests_take s em xs outs

no_way_takes : (s : ℕ) (em : Emitting) (outs : List ℕ) → takes s (no_way_out em outs) ≡ false
no_way_takes s em [] = refl
no_way_takes s em (n ∷ outs) = refl

clause_tests_take : (s : ℕ) (em : Emitting) (l : ℕ) (cs : Clauses) → takes s (clause_tests em l cs) ≡ false
clause_tests_take s em l no_clauses = refl
clause_tests_take s em l (clause_then t x r cs) = clause_tests_take s em (l + 1) cs

-- a cleanup takes as much in its pad as at normal exits
abbrev exit_takes : ℕ → Option Op → Bool
exit_takes s None = false
exit_takes s (Some o) = op_takes s o

exits_take : (s : ℕ) (em : Emitting) (o : Option Op) (c : Cover) (xs : List Exit) (l : ℕ) (outs : List ℕ) → takes s (exit_code em o c xs l outs) ≡ exit_takes s o
exits_take s em None c xs l outs = refl
exits_take s em (Some o) c xs l outs =
    none_before s (no_way_out em outs) (quiet (label (l + 2)) ∷ put o c ∷ way_tests em xs outs) (no_way_takes s em outs)
    ∙ ap (λ t. op_takes s o || t) (tests_take s em xs outs) ∙ or_false (op_takes s o)

pad_takes : (s : ℕ) (cl : Cleanup) → linear_takes s (pad_cleanup cl).op ≡ cleanup_takes s cl
pad_takes s (destroy_scope p n) = refl
pad_takes s (destroy_part p n) = refl
pad_takes s (free_object t) = refl
pad_takes s leave_handler = refl

protected_takes : (s : ℕ) (cl : Cleanup) (b : Bool) → (cleanup_takes s cl || (b || exit_takes s (exit_cleanup cl))) ≡ (cleanup_takes s cl || b)
protected_takes s (destroy_scope p n) b = said_again (root_is s p.root) b
protected_takes s (destroy_part p n) b = ap (λ t. root_is s p.root || t) (or_false b)
protected_takes s (free_object t) b = or_false b
protected_takes s leave_handler b = or_false b

-- ---- regions

mutual
  code_takes : (s : ℕ) (r : Region) (em : Emitting) (c : Cover) (xs : List Exit) (l p : ℕ) → takes s (region_code em c xs l p r) ≡ region_takes s r
  code_takes s (seq rs) em c xs l p =
      then_none s (all_code em c (exit_to l ∷ xs) (l + 1) p rs) (quiet (label l) ∷ []) refl ∙ all_take s rs em c (exit_to l ∷ xs) (l + 1) p
  code_takes s (op o) em c xs l p = or_false (op_takes s o)
  code_takes s (branch v a b) em c xs l p =
      let first = region_code em c (exit_to l ∷ xs) (l + 2) (p + 1) a in
      let second = region_code em c (exit_to l ∷ xs) (l + 2 + labels a) (p + 3 + length first) b in
      takes_both s first (quiet (jump l) ∷ quiet (label (l + 1)) ∷ (second ++ quiet (label l) ∷ []))
      ∙ both_or (code_takes s a em c (exit_to l ∷ xs) (l + 2) (p + 1))
      (then_none s second (quiet (label l) ∷ []) refl ∙ code_takes s b em c (exit_to l ∷ xs) (l + 2 + labels a) (p + 3 + length first))
  code_takes s (loop v r) em c xs l p =
      then_none s (region_code em c (exit_to l ∷ xs) (l + 2) (p + 2) r) (quiet (jump (l + 1)) ∷ quiet (label l) ∷ []) refl ∙ code_takes s r em c (exit_to l ∷ xs) (l + 2) (p + 2)
  code_takes s (protect r cl) em c xs l p =
      let outs = distinct (beyond (outs_of r)) in
      let exits = exit_code em (exit_cleanup cl) c xs l outs in
      let body = region_code em (cleaned em (p + 1) c) (protect_exit cl l ∷ xs) (l + 3) (p + 5) r in
      both_or (pad_takes s cl) (takes_both s body (exits ++ quiet (label l) ∷ [])
      ∙ both_or (code_takes s r em (cleaned em (p + 1) c) (protect_exit cl l ∷ xs) (l + 3) (p + 5))
      (then_none s exits (quiet (label l) ∷ []) refl ∙ exits_take s em (exit_cleanup cl) c xs l outs))
      ∙ protected_takes s cl (region_takes s r)
  code_takes s (catch r cs) em c xs l p =
      let n = length (types_of cs) in
      let tests = clause_tests em (l + 2) cs in
      let handlers = clauses_code em c (exit_to l ∷ xs) l (l + 2) (l + 2 + n) (p + 3 + length tests) cs in
      let inside = guarded (p + 1) (filters_of em (types_of cs)) c in
      let body = region_code em inside (exit_to l ∷ xs) (l + 2 + n + labels_clauses cs) (p + 4 + length tests + length handlers) r in
      none_before s tests (outward (resume em.object) c ∷ (handlers ++ quiet (label (l + 1)) ∷ (body ++ quiet (label l) ∷ []))) (clause_tests_take s em (l + 2) cs)
      ∙ takes_both s handlers (quiet (label (l + 1)) ∷ (body ++ quiet (label l) ∷ []))
      ∙ both_or (clauses_code_take s cs em c (exit_to l ∷ xs) l (l + 2) (l + 2 + n) (p + 3 + length tests))
      (then_none s body (quiet (label l) ∷ []) refl ∙ code_takes s r em inside (exit_to l ∷ xs) (l + 2 + n + labels_clauses cs) (p + 4 + length tests + length handlers))
  code_takes s (limit r types) em c xs l p =
      let inside = guarded (p + 1) (em.filter (list_of types) ∷ []) c in
      then_none s (region_code em inside (exit_to l ∷ xs) (l + 3) (p + 7) r) (quiet (label l) ∷ []) refl ∙ code_takes s r em inside (exit_to l ∷ xs) (l + 3) (p + 7)
  code_takes s (barrier r) em c xs l p =
      then_none s (region_code em bare (exit_to l ∷ xs) (l + 1) p r) (quiet (label l) ∷ []) refl ∙ code_takes s r em bare (exit_to l ∷ xs) (l + 1) p
  code_takes s (leave_region n) em c xs l p = leave_takes s em (inner n) xs

  all_take : (s : ℕ) (rs : RegionList) (em : Emitting) (c : Cover) (xs : List Exit) (l p : ℕ) → takes s (all_code em c xs l p rs) ≡ some_take s rs
  all_take s no_regions em c xs l p = refl
  all_take s (region_then r rs) em c xs l p =
      let first = region_code em c xs l p r in
      takes_both s first (all_code em c xs (l + labels r) (p + length first) rs)
      ∙ both_or (code_takes s r em c xs l p) (all_take s rs em c xs (l + labels r) (p + length first))

  clauses_code_take : (s : ℕ) (cs : Clauses) (em : Emitting) (c : Cover) (xs : List Exit) (end first l p : ℕ) → takes s (clauses_code em c xs end first l p cs) ≡ clauses_take s cs
  clauses_code_take s no_clauses em c xs end first l p = refl
  clauses_code_take s (clause_then t x r cs) em c xs end first l p =
      let body = region_code em c xs l (p + 2) r in
      takes_both s body (quiet (jump end) ∷ clauses_code em c xs end (first + 1) (l + labels r) (p + 3 + length body) cs)
      ∙ both_or (code_takes s r em c xs l (p + 2)) (clauses_code_take s cs em c xs end (first + 1) (l + labels r) (p + 3 + length body))

-- ---- functions

ops_take : (s : ℕ) (code : List Placed) → is_taken s (map (λ x. x.op) code) ≡ takes s code
ops_take s [] = refl
ops_take s (x ∷ code) = ap (λ t. linear_takes s x.op || t) (ops_take s code)

function_takes : (f : RegionFunction) (s : ℕ) → is_taken s (function_code f).ops ≡ region_takes s f.body
function_takes f s =
    ops_take s (placed_code f) ∙ then_none s (region_code (emitting f) unpadded [] 0 0 f.body) (quiet (return f.result) ∷ []) refl ∙ code_takes s f.body (emitting f) unpadded [] 0 0

untaken_same : (ops : List LinearOp) (r : Region) (s : ℕ) (slots : List Slot) → ((t : ℕ) → is_taken t ops ≡ region_takes t r) → untaken ops s slots ≡ untaken_in r s slots
untaken_same ops r s [] same = refl
untaken_same ops r s (slot ∷ slots) same =
    ap (λ b. if is_one_int slot && not b then s ∷ untaken ops (s + 1) slots else untaken ops (s + 1) slots) (same s)
    ∙ ap (λ ks. if is_one_int slot && not (region_takes s r) then s ∷ ks else ks) (untaken_same ops r (s + 1) slots same)

-- the slots of landing pads are no ints
behind_slots : (ops : List LinearOp) (s : ℕ) (slots : List Slot) (b : Bool) → untaken ops s (slots ++ (if b then help ∷ help ∷ help ∷ [] else [])) ≡ untaken ops s slots
behind_slots ops s [] true = refl
behind_slots ops s [] false = refl
behind_slots ops s (slot ∷ slots) b = ap (λ ks. if is_one_int slot && not (is_taken s ops) then s ∷ ks else ks) (behind_slots ops (s + 1) slots b)

pub variables_are_chosen : VariablesAreChosen
unfolding kept_slots
variables_are_chosen f =
    ap (take 10) (behind_slots (function_code f).ops 0 f.slots (has_pad f.body) ∙ untaken_same (function_code f).ops f.body 0 f.slots (function_takes f))
