-- What the calls of laws state of the runtime's own functions.
use Rattle.std.specs.Prelude.{◌≡◌, ◌+◌, ◌*◌, ◌≤◌, true, [], ◌∷◌, length, slice_get, IsSomeAnd}
use Rattle.std.specs.List.{AllByRecursion}
use Rattle.eh_bytes.specs.declared.frames.FrameChange.TheVariants.{Undefined}
use Rattle.linear_forms.specs.Stub.{terminating, end_catch, call_unexpected}
use Rattle.machine_forms.specs.Registers.{ra}
use Rattle.machine_forms.specs.Shape.{move_at}
use Rattle.machine_forms.specs.Routine.{routine_words}
use Rattle.machine_forms.specs.StubCode.{stub_first, stub_routine}
use Rattle.machine_forms.specs.Emitted.{emitted_stubs}
use Rattle.image_forms.specs.Function.{FunctionFits, StandInRow}
use Rattle.image_forms.specs.Room.{unit_room}
use Rattle.rt_stubs.specs.Forward.{is_forward}

-- They take few bytes of an image, and meet what the writers of tables and frames need.
pub record StubsFit : Type 0 where
  pub words : length emitted_stubs.code ≤ 2048
  pub room : unit_room emitted_stubs ≤ 32768
  pub row : StandInRow 0 (length emitted_stubs.code) emitted_stubs.functions
  pub functions : AllByRecursion (FunctionFits 0) emitted_stubs.functions

-- Nothing is outward of start, whose x1 is undefined from its first byte on. No site of terminate holds a call, so that nothing comes out
-- of its handler.
pub record EndsStand : Type 0 where
  pub start : IsSomeAnd (slice_get emitted_stubs.functions 0) (λ f. (f.first ≡ 0) × (f.moves ≡ move_at 0 (Undefined ra) ∷ []))
  pub terminate : IsSomeAnd (slice_get emitted_stubs.functions 1) (λ f. (f.first ≡ stub_first terminating) × (f.table.sites ≡ []))

-- No word of one of them leads back. The longest chain of their calls is that of call_unexpected, which may leave two handlers. So one
-- call executes at most 256 of their words.
pub record StubsEnd : Type 0 where
  pub forward : AllByRecursion (λ f. is_forward emitted_stubs f ≡ true) emitted_stubs.functions
  pub executed : routine_words (stub_routine call_unexpected) + 2 * routine_words (stub_routine end_catch) ≤ 256
