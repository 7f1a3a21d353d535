-- What the calls of laws state.
use Rattle.std.specs.Prelude.{◌≡◌, ℕ, ℤ, ◌+◌, ◌*◌, ◌≤◌, List, take, drop, length, slice_get, Some}
use Rattle.linear_forms.specs.Linear.{UnitCode}
use Rattle.linear_forms.specs.Stub.{end_catch, call_unexpected}
use Rattle.machine_forms.specs.Piece.{Target, Piece, Places, words_from}
use Rattle.machine_forms.specs.Routine.{Routine, routine_words, op_word, all_words, routine_code}
use Rattle.machine_forms.specs.StubCode.{stub_words, stub_routine}
use Rattle.machine_forms.specs.Emitted.{unit_words, unit_routines, function_first, target_byte}

-- Each piece becomes one word, so that the words of a routine are as many as was said before any place was known, and operations stand
-- in their order inside it. In a unit's code the words of each function stand from its first one on.
pub record WordsStand : Type 0 where
  pub pieces : (places : Places) (here : ℕ) (xs : List Piece) → length (words_from places here xs) ≡ length xs
  pub routine : (target : Target → ℤ) (first : ℕ) (r : Routine) → length (routine_code target first r) ≡ routine_words r
  pub order : (r : Routine) (p q : ℕ) → p ≤ q → op_word r p ≤ op_word r q
  pub inside : (r : Routine) (p : ℕ) → op_word r p ≤ routine_words r
  pub unit : (u : UnitCode) → length (unit_words u) ≡ 2 + all_words (unit_routines u)
  pub function : (u : UnitCode) (n : ℕ) (r : Routine) → slice_get (unit_routines u) n ≡ Some r →
      take (routine_words r) (drop (function_first u n) (unit_words u)) ≡
      routine_code (target_byte u) (stub_words + function_first u n) r

-- The runtime's own functions have few words. None of them goes back, and the longest chain of their calls is that of the last one, which
-- leaves two handlers: so one call executes at most 256 of these words.
pub record StubsAreShort : Type 0 where
  pub words : stub_words ≤ 2048
  pub executed : routine_words (stub_routine call_unexpected) + 2 * routine_words (stub_routine end_catch) ≤ 256
