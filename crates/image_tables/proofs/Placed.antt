-- Where the functions of an image stand in the list of all.
use Rattle.std.proofs.Common.{◌≡◌, ◌∙◌, refl, ap, arith, ℕ, zero, suc, ◌+◌, ◌*◌, ◌<◌, List, [], ◌∷◌, take, length, Some}
use Rattle.std.specs.Prelude.{slice_get, unwrap_or}
use Rattle.linear_forms.specs.Linear.{FunctionCode, UnitCode}
use Rattle.linear_forms.specs.Stub.{Function, compiled, end_catch, terminating, call_unexpected}
use Rattle.linear_forms.specs.UnitRun.{no_code, code_at}
use Rattle.linear_forms.proofs.Lists.{mapped, found_in_front, behind}
use Rattle.machine_forms.specs.Routine.{Routine, routine_words, all_words, listed_routine, listed_routines}
use Rattle.machine_forms.specs.StubCode.{start_routine, stub_routine, stub_routines, stub_words}
use Rattle.machine_forms.specs.Emitted.{function_routine, unit_routines, emitted_of, emitted_stubs}
use Rattle.image_forms.specs.Placed.{PlacedFunction, placed_from, all_functions, unit_at}
use Rattle.image_tables.specs.Functions.{IsThere, routine_of, records_end, first_byte}

abbrev pub placed : ℕ → ℕ → Routine → PlacedFunction
placed address first r = record { address = address; function = listed_routine first r }

some_same : {A : Type 0} (x y : A) → Some x ≡ Some y → x ≡ y
some_same x y e = cc

routine_listed : (code first : ℕ) (rs : List Routine) (n : ℕ) (r : Routine) → slice_get rs n ≡ Some r →
    slice_get (placed_from code (listed_routines first rs)) n ≡ Some (placed (code + 4 * (first + all_words (take n rs))) (first + all_words (take n rs)) r)
routine_listed code first [] n r e = absurd (cc e)
routine_listed code first (x ∷ rs) zero r e =
    let none : first ≡ first + 0 = omega arith in
    ap (λ y. Some (placed (code + 4 * first) first y)) (some_same x r e) ∙ ap (λ k. Some (placed (code + 4 * k) k r)) none
routine_listed code first (x ∷ rs) (suc n) r e =
    let more : first + routine_words x + all_words (take n rs) ≡ first + (routine_words x + all_words (take n rs)) = omega arith in
    routine_listed code (first + routine_words x) rs n r e ∙ ap (λ k. Some (placed (code + 4 * k) k r)) more

stub_count : (code : ℕ) → length (placed_from code emitted_stubs.functions) ≡ 4
stub_count code = refl

stub_length : length emitted_stubs.code ≡ stub_words
stub_length = refl

-- a routine stands in the list at a number
pub record StandsAt (u : UnitCode) (address : ℕ) (r : Routine) : Type 0 where
  pub number : ℕ
  pub first : ℕ
  pub there : slice_get (all_functions (emitted_of u)) number ≡ Some (placed address first r)

stub_stands : (u : UnitCode) (n : ℕ) (r : Routine) → slice_get stub_routines n ≡ Some r → StandsAt u (records_end u + 4 * all_words (take n stub_routines)) r
stub_stands u n r e =
    let e' = emitted_of u in
    let words = all_words (take n stub_routines) in
    let none : 0 + words ≡ words = omega arith in
    record {
      number = n;
      first = words;
      there = found_in_front (placed_from (records_end u) emitted_stubs.functions) (placed_from (unit_at e') e'.functions) n (placed (records_end u + 4 * words) words r)
          (routine_listed (records_end u) 0 stub_routines n r e ∙ ap (λ k. Some (placed (records_end u + 4 * k) k r)) none);
    }

code_there : (fs : List FunctionCode) (n : ℕ) → n < length fs → slice_get fs n ≡ Some (unwrap_or (slice_get fs n) no_code)
code_there [] n inside = absurd (omega (arith, inside))
code_there (f ∷ fs) zero inside = refl
code_there (f ∷ fs) (suc n) inside = code_there fs n (omega (arith, inside))

pub function_there : (u : UnitCode) (n : ℕ) → n < length u.functions → slice_get u.functions n ≡ Some (code_at u n)
function_there u n inside = code_there u.functions n inside

pub start_stands : (u : UnitCode) → StandsAt u (records_end u + 4 * all_words (take 0 stub_routines)) start_routine
start_stands u = stub_stands u 0 start_routine refl

pub function_stands : (u : UnitCode) (f : Function) → IsThere u f → StandsAt u (first_byte u f) (routine_of u f)
function_stands u terminating there = stub_stands u 1 (stub_routine terminating) refl
function_stands u end_catch there = stub_stands u 2 (stub_routine end_catch) refl
function_stands u call_unexpected there = stub_stands u 3 (stub_routine call_unexpected) refl
function_stands u (compiled n) there =
    let e' = emitted_of u in
    let rs = unit_routines u in
    let r = function_routine (code_at u n) in
    let words = all_words (take n rs) in
    let stubs = placed_from (records_end u) emitted_stubs.functions in
    let at = mapped function_routine u.functions n (code_at u n) (function_there u n there) in
    let place : unit_at e' + 4 * (2 + words) ≡ first_byte u (compiled n) = omega (arith, stub_length) in
    let number : length stubs + n ≡ length stubs + n = refl in
    record {
      number = length stubs + n;
      first = 2 + words;
      there = behind stubs (placed_from (unit_at e') e'.functions) (length stubs + n) n number
          ∙ (routine_listed (unit_at e') 2 rs n r at ∙ ap (λ a. Some (placed a (2 + words) r)) place);
    }
