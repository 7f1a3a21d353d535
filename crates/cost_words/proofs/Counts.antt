-- The words of operations.
use Rattle.std.proofs.Common.{ℕ, ◌+◌, ◌≤◌, false, Option, length, arith}
use Rattle.region_forms.specs.Form.{Op, evaluate, store, bind, call, construct, destroy, make, throw, rethrow, enter, leave}
use Rattle.linear_forms.specs.Linear.{LinearOp, plain, label, jump, jump_zero, pad, jump_filter, free, resume, unexpected, return}
use Rattle.linear_forms.specs.Stub.{leave_newest, destroy_held, call_held, begin_unexpected, check_unexpected, construct_bad, terminate_for, abort, linear, runtime}
use Rattle.machine_forms.specs.Emitted.{function_front}
use Rattle.machine_forms.specs.Shape.{Shape}
use Rattle.machine_forms.specs.LinearCode.{linear_code}
use Rattle.source_bounds.specs.OperationWords.{linear_words}
use Rattle.source_bounds.proofs.Counted.{counted_once}
use Rattle.source_bounds.proofs.Operations.{operations_are_short}
use Rattle.source_bounds.proofs.Regions.{front_short}
use Rattle.cost_words.specs.Counts.{called_front, code_words, OperationsHaveWords, FunctionsBeginBriefly}
use Rattle.cost_words.specs.Spends.{op_weight}

any_linear : (f : Shape) (o : LinearOp) → length (linear_code f o) ≤ linear_words o
any_linear f o = omega (arith, counted_once (linear_code f o), operations_are_short f o)

plain_words : (f : Shape) (o : Op) → length (linear_code f (plain o)) + called_front (linear (plain o)) ≤ code_words (linear (plain o))
plain_words f (evaluate v) = omega (arith, any_linear f (plain (evaluate v)))
plain_words f (store p v) = omega (arith, any_linear f (plain (store p v)))
plain_words f (bind s p) = omega (arith, any_linear f (plain (bind s p)))
plain_words f (call c args) = omega (arith, any_linear f (plain (call c args)))
plain_words f (construct p n args) = omega (arith, any_linear f (plain (construct p n args)))
plain_words f (destroy p n) = omega (arith, any_linear f (plain (destroy p n)))
plain_words f (make s) = omega (arith, any_linear f (plain (make s)))
plain_words f (throw s t d) = omega (arith, any_linear f (plain (throw s t d)))
plain_words f rethrow = omega (arith, any_linear f (plain rethrow))
plain_words f (enter s) = omega (arith, any_linear f (plain (enter s)))
plain_words f leave = omega arith

pub operations_have_words : OperationsHaveWords
operations_have_words f (linear (plain o)) = plain_words f o
operations_have_words f (linear (label l)) = omega (arith, any_linear f (label l))
operations_have_words f (linear (jump l)) = omega (arith, any_linear f (jump l))
operations_have_words f (linear (jump_zero v l)) = omega (arith, any_linear f (jump_zero v l))
operations_have_words f (linear (pad o s)) = omega (arith, any_linear f (pad o s))
operations_have_words f (linear (jump_filter s n l)) = omega (arith, any_linear f (jump_filter s n l))
operations_have_words f (linear (free s)) = omega (arith, any_linear f (free s))
operations_have_words f (linear (resume s)) = omega (arith, any_linear f (resume s))
operations_have_words f (linear (unexpected o s)) = omega arith
operations_have_words f (linear (return r)) = omega (arith, any_linear f (return r))
operations_have_words f (runtime (leave_newest o d l)) = omega arith
operations_have_words f (runtime (destroy_held d o)) = omega arith
operations_have_words f (runtime (call_held h)) = omega arith
operations_have_words f (runtime (begin_unexpected o h)) = omega arith
operations_have_words f (runtime (check_unexpected s t o x)) = omega arith
operations_have_words f (runtime construct_bad) = omega arith
operations_have_words f (runtime (terminate_for o)) = omega arith
operations_have_words f (runtime abort) = omega arith

pub functions_begin_briefly : FunctionsBeginBriefly
functions_begin_briefly f = record {
  function = λ parameters. omega (arith, counted_once (function_front f parameters), front_short f parameters);
  terminates = omega arith;
  leaves = omega arith;
  stopped = omega arith;
}

-- an operation of a compiled function weighs no less than its words
pub words_weigh : (f : Shape) (o : LinearOp) → length (linear_code f o) ≤ op_weight false (linear o)
words_weigh f (plain (evaluate v)) = omega (arith, operations_have_words f (linear (plain (evaluate v))))
words_weigh f (plain (store p v)) = omega (arith, operations_have_words f (linear (plain (store p v))))
words_weigh f (plain (bind s p)) = omega (arith, operations_have_words f (linear (plain (bind s p))))
words_weigh f (plain (call c args)) = omega (arith, operations_have_words f (linear (plain (call c args))))
words_weigh f (plain (construct p n args)) = omega (arith, operations_have_words f (linear (plain (construct p n args))))
words_weigh f (plain (destroy p n)) = omega (arith, operations_have_words f (linear (plain (destroy p n))))
words_weigh f (plain (make s)) = omega (arith, operations_have_words f (linear (plain (make s))))
words_weigh f (plain (throw s t d)) = omega (arith, operations_have_words f (linear (plain (throw s t d))))
words_weigh f (plain rethrow) = omega (arith, operations_have_words f (linear (plain rethrow)))
words_weigh f (plain (enter s)) = omega (arith, operations_have_words f (linear (plain (enter s))))
words_weigh f (plain leave) = omega (arith, operations_have_words f (linear (plain leave)))
words_weigh f (label l) = omega (arith, operations_have_words f (linear (label l)))
words_weigh f (jump l) = omega (arith, operations_have_words f (linear (jump l)))
words_weigh f (jump_zero v l) = omega (arith, operations_have_words f (linear (jump_zero v l)))
words_weigh f (pad o s) = omega (arith, operations_have_words f (linear (pad o s)))
words_weigh f (jump_filter s n l) = omega (arith, operations_have_words f (linear (jump_filter s n l)))
words_weigh f (free s) = omega (arith, operations_have_words f (linear (free s)))
words_weigh f (resume s) = omega (arith, operations_have_words f (linear (resume s)))
words_weigh f (unexpected o s) = omega (arith, operations_have_words f (linear (unexpected o s)))
words_weigh f (return r) = omega (arith, operations_have_words f (linear (return r)))

-- a return has few
pub return_words : (f : Shape) (r : Option ℕ) → length (linear_code f (return r)) ≤ 14
return_words f r = any_linear f (return r)
