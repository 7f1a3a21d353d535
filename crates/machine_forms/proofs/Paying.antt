-- How many words the operations that pay for turns have at least.
use Rattle.std.proofs.Common.{◌≡◌, ℕ, ◌<◌, true, Option, None, Some, List, [], ◌∷◌, ◌++◌, length, length-append, arith}
use Rattle.region_forms.specs.Form.{Arguments, defined, builtin, no_arguments, Place, number, load, unary, binary, call_value, Op, evaluate, store, bind, call, construct, destroy, make, throw, rethrow, enter, leave}
use Rattle.linear_forms.specs.Linear.{LinearOp, plain, label, jump, jump_zero, pad, jump_filter, free, resume, unexpected, return}
use Rattle.linear_forms.specs.Stub.{compiled, StubOp, leave_newest, destroy_held, call_held, begin_unexpected, check_unexpected, construct_bad, terminate_for, abort, linear, runtime}
use Rattle.linear_forms.specs.Pace.{op_pays, linear_pays, stub_pays}
use Rattle.machine_forms.specs.CallCode.{arguments_passed, call_code, function_called, passed, value_given}
use Rattle.machine_forms.specs.LinearCode.{linear_code}
use Rattle.machine_forms.specs.OperationCode.{called_at, op_code, value_stored}
use Rattle.machine_forms.specs.KeptCode.{copied, root_register}
use Rattle.machine_forms.specs.Piece.{Piece, instruction, jump_to}
use Rattle.machine_forms.specs.PlaceCode.{place_address, place_stored}
use Rattle.machine_forms.specs.Registers.{a0, register}
use Rattle.machine_forms.specs.Shape.{Shape}
use Rattle.machine_forms.specs.StubCode.{stub_op_code}
use Rattle.machine_forms.specs.ValueCode.{test_code}
use Rattle.machine_forms.specs.Paying.{PayingTakesWords}

with_last : (a b : List Piece) → 0 < length b → 0 < length (a ++ b)
with_last a b h = omega (arith, length-append a b)

with_first : (a b : List Piece) → 0 < length a → 0 < length (a ++ b)
with_first a b h = omega (arith, length-append a b)

module _ (f : Shape) where
  call_words : (n : ℕ) (args : Arguments) → 0 < length (call_code f (defined n) args)
  call_words n args = with_last (arguments_passed f 0 args) (function_called (compiled n)) (omega arith)

  called_words : (p : Place) (n : ℕ) (args : Arguments) → 0 < length (called_at f p n args)
  called_words p n args = with_last (place_address f a0 p ++ passed a0 0 ∷ arguments_passed f 1 args) (function_called (compiled n)) (omega arith)

  stored_words : (p : Place) (n : ℕ) (args : Arguments) (r : Option ℕ) → 0 < length (value_stored f r p (call_value (defined n) args))
  stored_words p n args None =
      with_first (call_code f (defined n) args ++ value_given (defined n)) (place_stored f (register 0) (register 1) p)
      (with_first (call_code f (defined n) args) (value_given (defined n)) (call_words n args))
  stored_words p n args (Some rd) = with_last (call_code f (defined n) args ++ value_given (defined n)) (instruction (copied rd (register 0)) ∷ []) (omega arith)

  op_words : (o : Op) → op_pays o ≡ true → 0 < length (op_code f o)
  op_words (evaluate (call_value (defined n) args)) h = call_words n args
  op_words (evaluate (call_value (builtin b) args)) h = absurd (cc h)
  op_words (evaluate (number z)) h = absurd (cc h)
  op_words (evaluate (load p)) h = absurd (cc h)
  op_words (evaluate (unary o v)) h = absurd (cc h)
  op_words (evaluate (binary o v w)) h = absurd (cc h)
  op_words (store p (call_value (defined n) args)) h = stored_words p n args (root_register f p.root)
  op_words (store p (call_value (builtin b) args)) h = absurd (cc h)
  op_words (store p (number z)) h = absurd (cc h)
  op_words (store p (load q)) h = absurd (cc h)
  op_words (store p (unary o v)) h = absurd (cc h)
  op_words (store p (binary o v w)) h = absurd (cc h)
  op_words (bind s p) h = absurd (cc h)
  op_words (call (defined n) args) h = call_words n args
  op_words (call (builtin b) args) h = absurd (cc h)
  op_words (construct p n args) h = called_words p n args
  op_words (destroy p n) h = called_words p n no_arguments
  op_words (make s) h = absurd (cc h)
  op_words (throw s t d) h = absurd (cc h)
  op_words rethrow h = absurd (cc h)
  op_words (enter s) h = absurd (cc h)
  op_words leave h = absurd (cc h)

  linear_words : (o : LinearOp) → linear_pays o ≡ true → 0 < length (linear_code f o)
  linear_words (plain o) h = op_words o h
  linear_words (jump_zero v l) h = with_last (test_code f v) (jump_to l ∷ []) (omega arith)
  linear_words (label l) h = absurd (cc h)
  linear_words (jump l) h = absurd (cc h)
  linear_words (pad o s) h = absurd (cc h)
  linear_words (jump_filter s n l) h = absurd (cc h)
  linear_words (free s) h = absurd (cc h)
  linear_words (resume s) h = absurd (cc h)
  linear_words (unexpected o s) h = absurd (cc h)
  linear_words (return r) h = absurd (cc h)

  stub_words : (o : StubOp) → stub_pays o ≡ true → 0 < length (stub_op_code f o)
  stub_words construct_bad h = omega arith
  stub_words (destroy_held d o) h = omega arith
  stub_words (call_held g) h = omega arith
  stub_words (leave_newest o d l) h = absurd (cc h)
  stub_words (begin_unexpected o g) h = absurd (cc h)
  stub_words (check_unexpected s t o x) h = absurd (cc h)
  stub_words (terminate_for o) h = absurd (cc h)
  stub_words abort h = absurd (cc h)

pub paying_takes_words : PayingTakesWords
paying_takes_words f (linear o) h = linear_words f o h
paying_takes_words f (runtime o) h = stub_words f o h
