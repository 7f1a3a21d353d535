-- Main begins.
use Rattle.std.specs.Prelude.{◌≡◌, ℕ, ◌+◌, ◌-◌, ◌*◌, ◌^◌, ◌<◌, ◌≤◌, ℤ, nat_lt, Bool, true, false, List, [], length, slice_get, Some}
use Rattle.rv64_isa.specs.State.{State}
use Rattle.rv64_isa.specs.Step.{x}
use Rattle.eh_outer.specs.declared.module.Reply.{Reply}
use Rattle.cxa_runtime.specs.World as abi
use Rattle.cxa_runtime.specs.Raising.{Image}
use Rattle.region_forms.specs.World.{Base, of_global, of_variable, of_exception}
use Rattle.linear_forms.specs.Linear.{UnitCode}
use Rattle.linear_forms.specs.UnitRun.{first_state}
use Rattle.machine_forms.specs.Registers.{sp}
use Rattle.machine_forms.specs.Emitted.{main_jump, target_byte}
use Rattle.machine_forms.specs.StubCode.{stub_words}
use Rattle.machine_pieces.specs.Memory.{MayWrite}
use Rattle.machine_pieces.specs.Standing.{PiecesAt}
use Rattle.machine_pieces.specs.Frames.{IntAt}
use Rattle.machine_pieces.specs.Keeping.{saved_of, AreSmall}
use Rattle.machine_pieces.specs.Turning.{Reaches}
use Rattle.machine_pieces.specs.UnitAt.{ground_at, whole_words}
use Rattle.machine_simulation.specs.Plan.{Plan, function, shape}
use Rattle.machine_simulation.specs.Calls.{stack_end}
use Rattle.machine_simulation.specs.Matches.{UnitStands, StackMay, ObjectsMay, Matches}
use Rattle.machine_simulation.specs.Entering.{opened, entry_turns}

-- the first byte of a global: they stand downwards below the records of types, which stand below the first word
abbrev pub global_byte : UnitCode → ℕ → ℕ → ℕ
global_byte u base g = base - (24 * length u.types + 4 * (g + 1))

abbrev pub place_before : UnitCode → ℕ → Base → ℕ
place_before u base (of_global g) = global_byte u base g
place_before u base (of_variable c s) = 0
place_before u base (of_exception e) = 0

abbrev pub is_global : ℕ → Base → Bool
is_global many (of_global g) = nat_lt g many
is_global many (of_variable c s) = false
is_global many (of_exception e) = false

-- before main, globals alone are live
abbrev pub plan_before : UnitCode → ℕ → (tables : ℕ → ℕ) → Plan
plan_before u base tables = record {
  unit = u;
  base = base;
  at = place_before u base;
  live = is_global (length u.globals);
  size = λ b. 4;
  ints = λ b. true;
  tables = tables;
  hidden = 0;
}

-- A hart before the first word: the unit stands, with a main that takes nothing, sp is at the stack's end, the registers of kept variables have
-- numbers of 64 bits, and the globals have their values, all below the exception objects
-- and the stack and near to the code.
pub record StandsBefore (u : UnitCode) (base : ℕ) (tables : ℕ → ℕ) (s : State) : Type 0 where
  pub pc : s.pc ≡ base
  pub registers : length s.regs ≡ 32
  pub stack : x s sp ≡ stack_end
  pub saved : AreSmall (saved_of s)
  pub unit : UnitStands (plan_before u base tables) s.memory
  pub jump : PiecesAt s.memory (ground_at u base (record { target = target_byte u; label = λ l. l })) stub_words (main_jump u)
  pub main : u.main < length u.functions
  pub takes_nothing : (function (plan_before u base tables) u.main).parameters ≡ 0
  pub may : StackMay s.memory
  pub objects : ObjectsMay s.memory
  pub deep : 24 * length u.types + 4 * length u.globals ≤ base
  pub near : 4 * whole_words u + 24 * length u.types + 4 * length u.globals < 2 ^ 30
  pub low : base ≤ 0x6000_0000
  pub globals : (g : ℕ) (z : ℤ) → slice_get u.globals g ≡ Some z → IntAt s.memory (global_byte u base g) z
  pub writable : (g o n : ℕ) → g < length u.globals → o + n ≤ 4 → MayWrite s.memory (global_byte u base g + o) n

-- Four turns and those of main's beginning lead from there, on a new machine, to where the first operation of main begins in the machine for linear code, with the same
-- input and replies.
abbrev pub MainBegins : Type 0
MainBegins = (image : Image) (u : UnitCode) (base : ℕ) (tables : ℕ → ℕ) (s : State) (input : List ℕ) (replies : List (List Reply)) → StandsBefore u base tables s →
    let p = plan_before u base tables in
    Reaches image (4 + entry_turns p u.main) (abi.begins s input replies) [] (λ v. Matches (opened p u.main 0 (stack_end - (shape p u.main).size)) (first_state u input replies) v)
