-- A call at an operation that may terminate has its frame above the lowest 4 KiB of the stack.
use Rattle.std.proofs.Common.{◌≡◌, ap, arith, ℕ, ◌+◌, ◌≤◌, ℤ, false, List, ◌∷◌, Option, Some, None, inl, inr}
use Rattle.std.specs.Prelude.{◌⊎◌, slice_get}
use Rattle.rv64_isa.specs.Step.{x}
use Rattle.eh_outer.specs.declared.module.Reply.{Reply}
use Rattle.elf_image.specs.Clean.{CleanImage}
use Rattle.cxx_ast.specs.declared.name.Builtin.{Builtin}
use Rattle.cxx_ast.specs.declared.name.Builtin.TheVariants.{Terminate, Module}
use Rattle.cxa_runtime.specs.World as abi
use Rattle.cxa_runtime.specs.Raising.{Image}
use Rattle.region_forms.specs.Form.{Value, Arguments, no_arguments, Place}
use Rattle.linear_forms.specs.Linear.{LinearOp}
use Rattle.linear_forms.specs.Activation.{State}
use Rattle.machine_forms.specs.Leaf.{linear_stays}
use Rattle.machine_forms.specs.Registers.{sp}
use Rattle.machine_simulation.specs.Plan.{Plan, function}
use Rattle.machine_simulation.specs.Calls.{open_bytes}
use Rattle.machine_simulation.proofs.Calling.{stack_at}
use Rattle.machine_simulation.proofs.Floors.{caller_above}
use Rattle.machine_simulation.proofs.Matching.{Stands}
use Rattle.machine_exceptions.specs.Answers.{CallsBuiltin, both_ints}
use Rattle.machine_exceptions.specs.Terminates.{AtTerminating, TerminatesAtOnce, EntersCrowded}
use Rattle.machine_raises.specs.Cancels.{Cancels}
use Rattle.raise_ends.specs.Modules.{AtRaise}
use Rattle.raise_ends.specs.Unwinds.{AtUnwind, BeginsUnwind, GoesOnUnwinding}

-- none of these operations is done inside its function
pub builtin_leaves : (b : Builtin) (args : Arguments) (wants : Option Place) (o : LinearOp) → CallsBuiltin b args wants o → linear_stays o ≡ false
builtin_leaves b args wants o (inl h) = ap linear_stays h.2
builtin_leaves b args wants o (inr (inl h)) = ap linear_stays h.1
builtin_leaves b args wants o (inr (inr h)) = ap linear_stays h.1

pub terminating_leaves : (image : Image) (p : Plan) (n : ℕ) (st : State) (at : AtTerminating image p n st) → linear_stays at.operation ≡ false
terminating_leaves image p n st at = by at.operation at.terminates
  where
    by : (o : LinearOp) → TerminatesAtOnce st.world o ⊎ EntersCrowded p n st o → linear_stays o ≡ false
    by o (inl (inl h)) = builtin_leaves Terminate no_arguments None o h
    by o (inl (inr (inl h))) = ap linear_stays h.1
    by o (inl (inr (inr h))) = ap linear_stays h.0
    by o (inr c) = ap linear_stays c.is

pub module_leaves : (i : CleanImage) (p : Plan) (n k token : ℕ) (left : List Reply) (st : State) (at : AtRaise i p n k token left st) → linear_stays at.operation ≡ false
module_leaves i p n k token left st at = builtin_leaves Module (both_ints at.calls.number at.calls.other) at.wants at.operation at.calls.calls

cancel_leaves : (v : Value) (o : LinearOp) → Cancels v o → linear_stays o ≡ false
cancel_leaves v o (inl is) = ap linear_stays is
cancel_leaves v o (inr is) = ap linear_stays is

pub unwind_leaves : (p : Plan) (n : ℕ) (st : State) (w : abi.World) (k : ℤ) (at : AtUnwind p n st w k) → linear_stays at.operation ≡ false
unwind_leaves p n st w k at = by at.unwinds
  where
    by : BeginsUnwind p n st at.operation k ⊎ GoesOnUnwinding p n st w at.operation k → linear_stays at.operation ≡ false
    by (inl b) = cancel_leaves b.value at.operation b.is
    by (inr g) = ap linear_stays g.is

-- so open calls leave those bytes free
pub page_free : (p : Plan) (n : ℕ) (st : State) (w : abi.World) (back : ℕ) (o : LinearOp) → Stands p n st w back → slice_get (function p n).ops st.top.place ≡ Some o → linear_stays o ≡ false →
    open_bytes p (st.top ∷ st.frames) + 0x1000 ≤ 0x100_0000
page_free p n st w back o h there leaves =
    omega (arith, caller_above p n st.top.place st.top.frame st.world w.hart.memory (x w.hart sp) back o there leaves h.memory.top, stack_at p n st w back h)
