-- What the operations of linear code ask is there.
use Rattle.std.proofs.Common.{◌≡◌, ◌∙◌, refl, sym, ap, subst, arith, ℕ, zero, suc, ◌+◌, ◌^◌, ◌<◌, ◌≤◌, ◌==◌, nat_le, nat_lt, true, List, [], ◌∷◌, ◌++◌, length, Option, Some, None, if◌then◌else◌}
use Rattle.std.specs.Prelude.{slice_get, pos}
use Rattle.std.proofs.lemmas.Bool.Decides.{nat_tests}
use Rattle.std.proofs.lemmas.List.{length-append}
use Rattle.region_forms.specs.Form.{Slot, help_slot, kinds_of, kind_of, in_slot, Cleanup, destroy_scope, destroy_part, free_object, leave_handler, Region, seq, op, branch, loop, protect, catch, limit, barrier, leave_region, RegionList, no_regions, region_then, Clauses, no_clauses, clause_then, RegionFunction, Regions, function_at}
use Rattle.region_forms.specs.WellFormed.{every, is_variable, is_help, is_op, clause_type_test, slot_test, pure_value, op_test, cleanup_test, region_test, regions_test, clauses_test, result_test, function_test, rows_test}
use Rattle.region_forms.specs.LowerProgram.{help}
use Rattle.linear_forms.specs.Linear.{return}
use Rattle.linear_forms.specs.Tables.{unpadded}
use Rattle.linear_forms.specs.Emission.{Emitting, quiet}
use Rattle.linear_forms.specs.Code.{region_code}
use Rattle.linear_forms.specs.Frame.{code_slots, has_pad}
use Rattle.linear_forms.specs.Unit.{emitting, placed_code, function_code, unit_of}
use Rattle.machine_pieces.specs.Numbers.{IsInt}
use Rattle.machine_pieces.specs.Frames.{SlotFits}
use Rattle.machine_simulation.specs.Matches.{FrameIs}
use Rattle.machine_simulation.proofs.Slots.{slot_place_of}
use Rattle.address_bounds.specs.Rooms.{Reach}
use Rattle.address_bounds.specs.Everywhere.{Said, CleanupAll, RegionAll, RegionsAll, ClausesAll, holders}
use Rattle.address_bounds.specs.Reaches.{Needs, reaches, ValueReaches, OpReaches, RegionReaches, RegionsReach, ClausesReach}
use Rattle.address_bounds.proofs.Codes.{Shows, both_placed, region_placed, ops_are}
use Rattle.address_bounds.proofs.Reaching.{of_function}
use Rattle.operation_premises.specs.Static.{IsWord, RootStatic, LinearStatic, ResultStatic}
use Rattle.operation_premises.specs.Ints.{HasInts, OpHasInts, ints}
use Rattle.operation_premises.specs.Known.{CodeIsStatic}
use Rattle.operation_premises.proofs.Tests.{both_left, both_right, help_word}
use Rattle.operation_premises.proofs.Operations.{value_static, op_static}

module _ (r : Regions) (f : RegionFunction) (needs : Needs) (reach : Reach) (frame : FrameIs (function_code f)) (all : every (function_test r) r.functions ≡ true) where
  -- what is said of the function's regions
  abbrev pub formed : Said
  formed = record {
    operation = λ o. (op_test r f.slots o ≡ true) × OpReaches needs reach (code_slots f) o × OpHasInts o;
    test = λ v. (pure_value r f.slots v ≡ true) × ValueReaches needs reach (code_slots f) v × HasInts v;
    caught = λ s. slot_test is_help f.slots s ≡ true;
    freed = λ s. slot_test is_help f.slots s ≡ true;
  }

  cleanup_formed : (c : Cleanup) → cleanup_test r f.slots c ≡ true → CleanupAll (reaches needs reach (code_slots f)) c → CleanupAll formed c
  cleanup_formed (destroy_scope q n) e h = (e, h, tt)
  cleanup_formed (destroy_part q n) e h = (e, h, tt)
  cleanup_formed (free_object s) e h = e
  cleanup_formed leave_handler e h = tt

  mutual
    pub region_formed : (d : ℕ) (x : Region) → region_test r f.slots d x ≡ true → RegionReaches needs reach (code_slots f) x → RegionAll ints x → RegionAll formed x
    region_formed d (seq rs) e h i = regions_formed (d + 1) rs e h i
    region_formed d (op o) e h i = (e, h, i)
    region_formed d (branch v a b) e h i =
        let rest = both_right (pure_value r f.slots v) _ e in (
          (both_left (pure_value r f.slots v) _ e, h.0, i.0),
          region_formed (d + 1) a (both_left (region_test r f.slots (d + 1) a) (region_test r f.slots (d + 1) b) rest) h.1 i.1,
          region_formed (d + 1) b (both_right (region_test r f.slots (d + 1) a) (region_test r f.slots (d + 1) b) rest) h.2 i.2,
        )
    region_formed d (loop v a) e h i =
        ((both_left (pure_value r f.slots v) (region_test r f.slots (d + 1) a) e, h.0, i.0), region_formed (d + 1) a (both_right (pure_value r f.slots v) (region_test r f.slots (d + 1) a) e) h.1 i.1)
    region_formed d (protect a c) e h i =
        (region_formed (d + 1) a (both_right (cleanup_test r f.slots c) (region_test r f.slots (d + 1) a) e) h.0 i.0, cleanup_formed c (both_left (cleanup_test r f.slots c) (region_test r f.slots (d + 1) a) e) h.1)
    region_formed d (catch a cs) e h i = (
      region_formed (d + 1) a (both_left (region_test r f.slots (d + 1) a) (clauses_test r f.slots (d + 1) cs) e) h.0 i.0,
      clauses_formed (d + 1) cs (both_right (region_test r f.slots (d + 1) a) (clauses_test r f.slots (d + 1) cs) e) h.1 i.1,
    )
    region_formed d (limit a types) e h i = region_formed (d + 1) a (both_right (every (λ t. nat_lt t (length r.types)) types) (region_test r f.slots (d + 1) a) e) h i
    region_formed d (barrier a) e h i = region_formed (d + 1) a (both_right (is_op a) (region_test r f.slots (d + 1) a) e) h i
    region_formed d (leave_region n) e h i = tt

    regions_formed : (d : ℕ) (rs : RegionList) → regions_test r f.slots d rs ≡ true → RegionsReach needs reach (code_slots f) rs → RegionsAll ints rs → RegionsAll formed rs
    regions_formed d no_regions e h i = tt
    regions_formed d (region_then a rs) e h i =
        (region_formed d a (both_left (region_test r f.slots d a) (regions_test r f.slots d rs) e) h.0 i.0, regions_formed d rs (both_right (region_test r f.slots d a) (regions_test r f.slots d rs) e) h.1 i.1)

    clauses_formed : (d : ℕ) (cs : Clauses) → clauses_test r f.slots d cs ≡ true → ClausesReach needs reach (code_slots f) cs → ClausesAll ints cs → ClausesAll formed cs
    clauses_formed d no_clauses e h i = tt
    clauses_formed d (clause_then t s a cs) e h i =
        let first = both_right (clause_type_test r t) _ e in
        let rest = both_right (slot_test is_help f.slots s) _ first in (
          both_left (slot_test is_help f.slots s) _ first,
          region_formed d a (both_left (region_test r f.slots d a) (clauses_test r f.slots d cs) rest) h.1 i.1,
          clauses_formed d cs (both_right (region_test r f.slots d a) (clauses_test r f.slots d cs) rest) h.2 i.2,
        )

-- ---- the slots that pads use

helps_behind : (xs : List Slot) (i : ℕ) → i < 3 → slice_get (xs ++ (help ∷ help ∷ help ∷ [])) (length xs + i) ≡ Some help
helps_behind [] zero few = refl
helps_behind [] (suc zero) few = refl
helps_behind [] (suc (suc zero)) few = refl
helps_behind [] (suc (suc (suc i))) few = absurd (omega (arith, few))
helps_behind (x ∷ xs) i few = let one : length (x ∷ xs) + i ≡ suc (length xs + i) = omega arith in ap (slice_get (x ∷ (xs ++ (help ∷ help ∷ help ∷ [])))) one ∙ helps_behind xs i few

pad_word : (f : RegionFunction) (i : ℕ) → FrameIs (function_code f) → has_pad f.body ≡ true → i < 3 → IsWord (function_code f) (length f.slots + i)
pad_word f i frame padded few =
    let slots : code_slots f ≡ f.slots ++ (help ∷ help ∷ help ∷ []) = ap (λ b. f.slots ++ (if b then help ∷ help ∷ help ∷ [] else [])) padded in
    let many = length-append f.slots (help ∷ help ∷ help ∷ []) in
    let count : length (code_slots f) ≡ length (f.slots ++ (help ∷ help ∷ help ∷ [])) = ap (λ xs. length xs) slots in
    let inside : length f.slots + i < length (code_slots f) = omega (arith, many, count, few) in
    let place = slot_place_of (function_code f) (length f.slots + i) frame inside in
    let high = place.high in let small = frame.small in
    record {
      inside = inside;
      plain = ap (λ xs. is_variable (kinds_of xs (length f.slots + i))) slots ∙ ap (λ o. is_variable (kind_of o)) (helps_behind f.slots i few);
      near = omega (arith, high, small);
    }

module _ (r : Regions) (f : RegionFunction) (needs : Needs) (reach : Reach) (frame : FrameIs (function_code f)) (all : every (function_test r) r.functions ≡ true) (few : holders f.body < 2 ^ 31) where
  em : Emitting
  em = emitting f

  pad_static : (i : ℕ) → has_pad f.body ≡ true → i < 3 → IsWord (function_code f) (length f.slots + i)
  pad_static i padded less = pad_word f i frame padded less

  object_word : has_pad f.body ≡ true → IsWord (function_code f) (emitting f).object
  object_word padded = let none : length f.slots + 0 ≡ length f.slots = omega arith in subst (λ s. IsWord (function_code f) s) none (pad_static 0 padded (omega arith))

  -- a word slot as a place for an int
  word_place : (s : ℕ) → IsWord (function_code f) s → kinds_of (code_slots f) s ≡ help_slot → RootStatic (unit_of r) (function_code f) (in_slot s) 0
  word_place s w is = let near = w.near in (w.inside, omega (arith, near), subst (λ k. SlotFits k 0) (sym is) refl, λ k e. refl)

  way_kind : has_pad f.body ≡ true → kinds_of (code_slots f) (emitting f).way ≡ help_slot
  way_kind padded = ap (λ b. kinds_of (f.slots ++ (if b then help ∷ help ∷ help ∷ [] else [])) (length f.slots + 2)) padded ∙ ap kind_of (helps_behind f.slots 2 (omega arith))

  small_int : (n : ℕ) → n ≤ holders f.body → IsInt (pos n)
  small_int n less = let below : n < 2 ^ 31 = omega (arith, less, few) in grind (arith, nat_tests, below)

  shown : Shows (formed r f needs reach frame all) (LinearStatic (unit_of r) (function_code f)) (emitting f) (has_pad f.body ≡ true) (holders f.body)
  shown = record {
    operation = λ o h. op_static r f needs reach frame all o h.0 h.1 h.2;
    leaves = tt;
    test = λ v l h. value_static r f needs reach frame v h.0 h.1 h.2;
    caught = λ s padded h. let w = object_word padded in (help_word r f reach frame s h, (w.inside, w.near, omega arith));
    freed = λ s h. help_word r f reach frame s h;
    way_set = λ n less padded. (word_place (emitting f).way (pad_static 2 padded (omega arith)) (way_kind padded), small_int n less);
    way_test = λ n l less padded. (word_place (emitting f).way (pad_static 2 padded (omega arith)) (way_kind padded), small_int n less);
    labels = λ l. tt;
    jumps = λ l. tt;
    pads = λ padded. (object_word padded, pad_static 1 padded (omega arith));
    filters = λ n l padded. pad_static 1 padded (omega arith);
    resumes = λ padded. object_word padded;
    passes = λ padded. (object_word padded, pad_static 1 padded (omega arith));
  }

  result_static : (result : Option ℕ) → result_test f.slots result ≡ true → ResultStatic (function_code f) result
  result_static None e = tt
  result_static (Some s) e = help_word r f reach frame s e

-- one of the functions passes the test
one_passes : (r : Regions) (fs : List RegionFunction) (n : ℕ) (f : RegionFunction) → every (function_test r) fs ≡ true → slice_get fs n ≡ Some f → function_test r f ≡ true
one_passes r [] n f e is = absurd (cc is)
one_passes r (x ∷ fs) zero f e is = let same : x ≡ f = cc is in subst (λ y. function_test r y ≡ true) same (both_left (function_test r x) (every (function_test r) fs) e)
one_passes r (x ∷ fs) (suc n) f e is = one_passes r fs n f (both_right (function_test r x) (every (function_test r) fs) e) is

pub code_is_static : CodeIsStatic
code_is_static r needs k n place g o there at =
    let x = of_function r.functions n g there in
    let f : RegionFunction = x.0 in
    let all : every (function_test r) r.functions ≡ true =
    both_right (rows_test 0 r.types) _ (both_right ((function_at r r.main).parameters == 0) _ (both_right (nat_lt r.main (length r.functions)) _ k.formed)) in
    let test = one_passes r r.functions n f all x.1 in
    let rest = both_right (nat_le f.parameters (length f.slots)) _ test in
    let body = both_right (result_test f.slots f.result) (region_test r f.slots 0 f.body) rest in
    let result = both_left (result_test f.slots f.result) (region_test r f.slots 0 f.body) rest in
    let frame : FrameIs (function_code f) = subst FrameIs (sym x.2) (k.frames n g there) in
    let few = k.few n f x.1 in
    let said = formed r f needs (needs n) frame all in
    let s = shown r f needs (needs n) frame all few in
    let P = LinearStatic (unit_of r) (function_code f) in
    let whole = region_formed r f needs (needs n) frame all 0 f.body body (k.reach n f x.1) (k.ints n f x.1) in
    subst (λ h. slice_get h.ops place ≡ Some o → LinearStatic (unit_of r) h o) x.2
    (λ at. ops_are said P (emitting f) (has_pad f.body ≡ true) (holders f.body) s (placed_code f)
    (both_placed said P (emitting f) (has_pad f.body ≡ true) (holders f.body) s (region_code (emitting f) unpadded [] 0 0 f.body) (quiet (return f.result) ∷ [])
    (region_placed said P (emitting f) (has_pad f.body ≡ true) (holders f.body) s unpadded [] 0 0 f.body (λ m e. absurd (cc e)) (λ e. e) (omega arith) whole)
    (result_static r f needs (needs n) frame all few f.result result, tt)) place o at) at
