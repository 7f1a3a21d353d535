-- A whole call of end_catch that frees an object without a destructor.
use Rattle.std.specs.Prelude.{◌≡◌, ℕ, ◌-◌, ◌%◌, ◌^◌, ◌<◌, ◌≤◌, [], ◌∷◌, length, Some}
use Rattle.run_items.specs.declared.item.Item.TheVariants.{Leave, Destroy, Free}
use Rattle.rv64_isa.specs.Step.{x}
use Rattle.caught_stack.specs.declared.ended.Ended.TheVariants.{Last}
use Rattle.caught_stack.specs.declared.header.HeaderKind.TheVariants.{Native}
use Rattle.caught_stack.specs.Allocate.{freed}
use Rattle.caught_stack.specs.Exceptions.{Exceptions}
use Rattle.caught_stack.specs.End.{ended}
use Rattle.caught_stack.specs.Live.{slots}
use Rattle.cxa_runtime.specs.declared.object.Object.{Object}
use Rattle.cxa_runtime.specs.Leaving.{newest_object, let_go}
use Rattle.cxa_runtime.specs.World.{World}
use Rattle.cxa_runtime.specs.Raising.{Image}
use Rattle.linear_forms.specs.Linear.{UnitCode}
use Rattle.linear_forms.specs.Stub.{end_catch}
use Rattle.machine_forms.specs.Registers.{ra, sp}
use Rattle.machine_pieces.specs.Turning.{Reaches}
use Rattle.machine_stubs.specs.Stretches.{frame_size, Stands}
use Rattle.machine_stubs.specs.ComesBack.{CameBack}

-- Where the newest handler is the last one of an exception that code threw without a destructor, as one of an int, a call of end_catch comes
-- back within sixteen turns. It shows that the handler is left, and that the object is destroyed and freed; its slot is vacant then.
abbrev pub EndCatchFrees : Type 0
EndCatchFrees = (image : Image) (u : UnitCode) (base : ℕ) (o : Object) (type : ℕ) (e : Exceptions) (w : World) → let s = w.hart in let low = x s sp - frame_size end_catch in
    frame_size end_catch ≤ x s sp → Stands u base end_catch 0 low (frame_size end_catch) s → x s ra % 4 ≡ 0 → x s ra < 2 ^ 64 →
    newest_object w.exceptions ≡ Some o → o.header.kind ≡ Native type 0 → ended w.exceptions ≡ (Some (Last o.slot), e) → length w.exceptions.live ≡ slots → o.slot < slots →
    Reaches image 16 w (Leave o.header.number ∷ Destroy o.header.number ∷ Free o.header.number ∷ [])
    (CameBack (x s ra) (x s sp) low (frame_size end_catch) (freed o.slot (let_go o (Native type 0) e)) w)
