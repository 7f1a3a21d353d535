-- How many words calls and tests have at least.
use Rattle.std.proofs.Common.{ℕ, ◌<◌, Option, None, Some, List, [], ◌∷◌, ◌++◌, length, length-append, arith}
use Rattle.region_forms.specs.Form.{Arguments, call_value, defined, no_arguments, Place}
use Rattle.linear_forms.specs.Stub.{compiled}
use Rattle.machine_forms.specs.CallCode.{arguments_passed, call_code, function_called, passed, value_given}
use Rattle.machine_forms.specs.KeptCode.{copied, root_register}
use Rattle.machine_forms.specs.OperationCode.{called_at, value_stored}
use Rattle.machine_forms.specs.Piece.{Piece, instruction, jump_to}
use Rattle.machine_forms.specs.PlaceCode.{place_address, place_stored}
use Rattle.machine_forms.specs.Registers.{a0, register}
use Rattle.machine_forms.specs.Shape.{Shape}
use Rattle.machine_forms.specs.ValueCode.{test_code}
use Rattle.rv64_emit.specs.Laws.{EachTurnTakesWords}

with_last : (a b : List Piece) → 0 < length b → 0 < length (a ++ b)
with_last a b h = omega (arith, length-append a b)

with_first : (a b : List Piece) → 0 < length a → 0 < length (a ++ b)
with_first a b h = omega (arith, length-append a b)

call_words : (f : Shape) (n : ℕ) (args : Arguments) → 0 < length (call_code f (defined n) args)
call_words f n args = with_last (arguments_passed f 0 args) (function_called (compiled n)) (omega arith)

called_words : (f : Shape) (p : Place) (n : ℕ) (args : Arguments) → 0 < length (called_at f p n args)
called_words f p n args =
    with_last (place_address f a0 p ++ passed a0 0 ∷ arguments_passed f 1 args) (function_called (compiled n)) (omega arith)

stored_words : (f : Shape) (p : Place) (n : ℕ) (args : Arguments) (r : Option ℕ) → 0 < length (value_stored f r p (call_value (defined n) args))
stored_words f p n args None =
    with_first (call_code f (defined n) args ++ value_given (defined n)) (place_stored f (register 0) (register 1) p)
    (with_first (call_code f (defined n) args) (value_given (defined n)) (call_words f n args))
stored_words f p n args (Some rd) = with_last (call_code f (defined n) args ++ value_given (defined n)) (instruction (copied rd (register 0)) ∷ []) (omega arith)

pub each_turn_takes_words : EachTurnTakesWords
each_turn_takes_words f = record {
  evaluated = λ n args. call_words f n args;
  stored = λ p n args. stored_words f p n args (root_register f p.root);
  called = λ n args. call_words f n args;
  constructed = λ p n args. called_words f p n args;
  destroyed = λ p n. called_words f p n no_arguments;
  tested = λ v l. with_last (test_code f v) (jump_to l ∷ []) (omega arith);
}
