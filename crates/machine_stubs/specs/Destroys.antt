-- A call of end_catch that destroys an object, up to the destructor and from there on.
use Rattle.std.specs.Prelude.{◌≡◌, ◌≢◌, ℕ, ◌+◌, ◌-◌, ◌%◌, ◌^◌, ◌<◌, ◌≤◌, [], ◌∷◌, length, Some}
use Rattle.run_items.specs.declared.item.Item.TheVariants.{Leave, Destroy, Free}
use Rattle.rv64_isa.specs.Step.{x}
use Rattle.caught_stack.specs.declared.ended.Ended.TheVariants.{Last}
use Rattle.caught_stack.specs.declared.header.HeaderKind.TheVariants.{Native}
use Rattle.caught_stack.specs.Allocate.{freed}
use Rattle.caught_stack.specs.Exceptions.{Exceptions}
use Rattle.caught_stack.specs.End.{ended}
use Rattle.caught_stack.specs.Live.{slots}
use Rattle.cxa_runtime.specs.declared.object.Object.{Object}
use Rattle.cxa_runtime.specs.Objects.{object_of, object_where, is_building}
use Rattle.cxa_runtime.specs.Leaving.{newest_object, let_go}
use Rattle.cxa_runtime.specs.World.{World}
use Rattle.cxa_runtime.specs.Raising.{Image}
use Rattle.linear_forms.specs.Linear.{UnitCode}
use Rattle.linear_forms.specs.Stub.{end_catch}
use Rattle.machine_forms.specs.Registers.{ra, sp}
use Rattle.machine_forms.specs.Shape.{return_offset}
use Rattle.machine_pieces.specs.Frames.{AddressAt}
use Rattle.machine_pieces.specs.Turning.{Reaches}
use Rattle.machine_pieces.specs.Keeping.{saved_of}
use Rattle.machine_stubs.specs.Stretches.{stub_word, frame_size, Beside, Stands}
use Rattle.machine_stubs.specs.EndCatch.{object_slot}
use Rattle.machine_stubs.specs.ComesBack.{SameRest, CameBack}

-- a destructor is called for an object, which is passed below sp and kept in the frame of end_catch, with the return address of its caller
pub record AtDestructor (base destructor object back low size : ℕ) (e : Exceptions) (w v : World) : Type 0 where
  pub pc : v.hart.pc ≡ destructor
  pub registers : length v.hart.regs ≡ 32
  pub returns : x v.hart ra ≡ stub_word base end_catch 13
  pub pointer : x v.hart sp ≡ low + 8
  pub variables : saved_of v.hart ≡ saved_of w.hart
  pub passed : AddressAt v.hart.memory low object
  pub kept : AddressAt v.hart.memory (low + 8 + object_slot) object
  pub saved : AddressAt v.hart.memory (low + 8 + return_offset) back
  pub beside : Beside low size w.hart.memory v.hart.memory
  pub exceptions : v.exceptions ≡ e
  pub rest : SameRest w v

-- Where the newest handler is the last one of an exception that code threw with a destructor, a call of end_catch comes to the destructor
-- within twelve turns, and shows that the handler is left and that the object is destroyed. Where the destructor has come back, whatever it
-- did, end_catch comes back within seven turns, and shows that the object is freed.
pub record EndCatchDestroys : Type 0 where
  pub calls : (image : Image) (u : UnitCode) (base : ℕ) (o : Object) (type destructor : ℕ) (e : Exceptions) (w : World) → let s = w.hart in let low = x s sp - (8 + frame_size end_catch) in
      8 + frame_size end_catch ≤ x s sp → Stands u base end_catch 0 low (8 + frame_size end_catch) s → x s ra < 2 ^ 64 →
      newest_object w.exceptions ≡ Some o → o.header.kind ≡ Native type destructor → ended w.exceptions ≡ (Some (Last o.slot), e) → o.slot < slots →
      destructor ≢ 0 → destructor % 4 ≡ 0 → destructor < 2 ^ 64 →
      Reaches image 12 w (Leave o.header.number ∷ Destroy o.header.number ∷ [])
      (AtDestructor base destructor (object_of o.slot) (x s ra) low (8 + frame_size end_catch) (let_go o (Native type destructor) e) w)
  pub comes_back : (image : Image) (u : UnitCode) (base object back : ℕ) (o : Object) (w : World) → let s = w.hart in let low = x s sp in
      Stands u base end_catch 13 low (frame_size end_catch) s → AddressAt s.memory (low + object_slot) object → AddressAt s.memory (low + return_offset) back → back % 4 ≡ 0 → back < 2 ^ 64 →
      object_where is_building w.exceptions.live object ≡ Some o →
      Reaches image 7 w (Free o.header.number ∷ []) (CameBack back (low + frame_size end_catch) low (frame_size end_catch) (freed o.slot w.exceptions) w)
