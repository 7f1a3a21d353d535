-- A whole call of end_catch that has nothing to destroy.
use Rattle.std.specs.Prelude.{◌≡◌, ℕ, ◌-◌, ◌%◌, ◌^◌, ◌<◌, ◌≤◌, [], ◌∷◌, length, Some}
use Rattle.run_items.specs.declared.item.Item.TheVariants.{Leave}
use Rattle.rv64_isa.specs.Step.{x}
use Rattle.caught_stack.specs.declared.ended.Ended.{Ended}
use Rattle.caught_stack.specs.Exceptions.{Exceptions}
use Rattle.caught_stack.specs.End.{ended}
use Rattle.cxa_runtime.specs.declared.object.Object.{Object}
use Rattle.cxa_runtime.specs.Leaving.{newest_object, left_by}
use Rattle.cxa_runtime.specs.Catch.{left_as}
use Rattle.cxa_runtime.specs.World.{World, gives_both}
use Rattle.cxa_runtime.specs.Raising.{Image}
use Rattle.linear_forms.specs.Linear.{UnitCode}
use Rattle.linear_forms.specs.Stub.{end_catch}
use Rattle.machine_forms.specs.Registers.{ra, sp, a0}
use Rattle.machine_pieces.specs.Turning.{Reaches}
use Rattle.machine_pieces.specs.Keeping.{saved_of}
use Rattle.machine_stubs.specs.Stretches.{frame_size, Beside, Stands}

-- what the runtime keeps beside the hart and the exceptions stays
pub record SameRest (w v : World) : Type 0 where
  pub terminate_handler : v.terminate_handler ≡ w.terminate_handler
  pub unexpected_handler : v.unexpected_handler ≡ w.unexpected_handler
  pub last_number : v.last_number ≡ w.last_number
  pub unwinding : v.unwinding ≡ w.unwinding
  pub input : v.input ≡ w.input
  pub replies : v.replies ≡ w.replies
  pub terminating : v.terminating ≡ w.terminating

-- a call has come back: the pc is the return address, sp and the registers of kept variables are as before, a0 is 0, and memory is as before beside
-- the frame
pub record CameBack (back stack low size : ℕ) (e : Exceptions) (w v : World) : Type 0 where
  pub pc : v.hart.pc ≡ back
  pub registers : length v.hart.regs ≡ 32
  pub pointer : x v.hart sp ≡ stack
  pub variables : saved_of v.hart ≡ saved_of w.hart
  pub value : x v.hart a0 ≡ 0
  pub beside : Beside low size w.hart.memory v.hart.memory
  pub exceptions : v.exceptions ≡ e
  pub rest : SameRest w v

-- nothing is told of what became of an exception: another handler has it still, or it is on its way again
abbrev pub TellsNothing : Object → Ended → Type 0
TellsNothing o left = (t : World) → left_as o left t ≡ gives_both 0 0 t

-- Where the newest handler is not the last one of its exception, a call of end_catch comes back within twelve turns. It shows that the handler
-- is left, and the exceptions are those without it.
abbrev pub EndCatchComesBack : Type 0
EndCatchComesBack = (image : Image) (u : UnitCode) (base : ℕ) (o : Object) (left : Ended) (e : Exceptions) (w : World) → let s = w.hart in let low = x s sp - frame_size end_catch in
    frame_size end_catch ≤ x s sp → Stands u base end_catch 0 low (frame_size end_catch) s → x s ra % 4 ≡ 0 → x s ra < 2 ^ 64 →
    newest_object w.exceptions ≡ Some o → left_by o (ended w.exceptions) ≡ (Some left, e) → TellsNothing o left →
    Reaches image 12 w (Leave o.header.number ∷ []) (CameBack (x s ra) (x s sp) low (frame_size end_catch) e w)
