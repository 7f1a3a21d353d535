-- How much is made of a program. A word that calls one of the runtime's own functions counts as 257, since each of these executes at most
-- 256 instructions of theirs.
use Rattle.std.specs.Prelude.{ℕ, ◌+◌, ◌*◌, ◌≤◌, List, [], ◌∷◌, ◌++◌, flat_map}
use Rattle.std.specs.List.{AllByRecursion}
use Rattle.region_forms.specs.Form.{Value, call_value, Argument, int_argument, Arguments, no_arguments, argument_then, Callee, defined, builtin, Op, evaluate, store, call, construct}
use Rattle.linear_forms.specs.Linear.{LinearOp, plain, jump_zero, UnitCode}
use Rattle.linear_forms.specs.Stub.{compiled}
use Rattle.machine_forms.specs.Piece.{entry, Piece, jump_rest}
use Rattle.machine_forms.specs.ValueCode.{needs}
use Rattle.machine_forms.specs.Routine.{Routine}
use Rattle.machine_forms.specs.Emitted.{unit_routines}

-- a call of one of the runtime's own functions
abbrev pub stub_calls : Piece → ℕ
stub_calls (jump_rest link base (entry (compiled n))) = 0
stub_calls (jump_rest link base (entry g)) = 1
stub_calls _ = 0

-- the words of pieces as they are counted
abbrev pub counted : List Piece → ℕ
counted [] = 0
counted (x ∷ xs) = 1 + 256 * stub_calls x + counted xs

-- the words of routines as they are counted
abbrev pub counted_all : List Routine → ℕ
counted_all [] = 0
counted_all (r ∷ rs) = counted (r.front ++ flat_map (λ b. b) r.blocks) + counted_all rs

-- the words of a unit as they are counted; its jump to main calls none of these
abbrev pub counted_words : UnitCode → ℕ
counted_words u = 2 + counted_all (unit_routines u)

-- the bounds of a unit
pub record IsBounded (u : UnitCode) : Type 0 where
  pub frames : AllByRecursion (λ g. g.frame ≤ 2032) u.functions
  pub words : counted_words u ≤ 128 * u.tokens + 2048

-- the values of an argument, of arguments and of an operation need so few registers that none runs out
abbrev pub ArgumentFits : ℕ → Argument → Type 0
ArgumentFits k (int_argument v) = k + needs v ≤ 15
ArgumentFits k a = Unit {0}

abbrev pub ArgumentsFit : ℕ → ℕ → Arguments → Type 0
ArgumentsFit step k no_arguments = Unit {0}
ArgumentsFit step k (argument_then a args) = ArgumentFits k a × ArgumentsFit step (k + step) args

-- arguments of a function are computed one after the other in the same register, those of a runtime call in one after the other
abbrev pub CallFits : Callee → Arguments → Type 0
CallFits (defined n) args = ArgumentsFit 0 0 args
CallFits (builtin b) args = ArgumentsFit 1 0 args

abbrev pub ValueFits : Value → Type 0
ValueFits (call_value c args) = CallFits c args
ValueFits v = needs v ≤ 15

abbrev pub OpFits : Op → Type 0
OpFits (evaluate v) = ValueFits v
OpFits (store p v) = ValueFits v
OpFits (call c args) = CallFits c args
OpFits (construct p n args) = ArgumentsFit 0 0 args
OpFits _ = Unit {0}

abbrev pub LinearFits : LinearOp → Type 0
LinearFits (plain o) = OpFits o
LinearFits (jump_zero v l) = needs v ≤ 15
LinearFits _ = Unit {0}
