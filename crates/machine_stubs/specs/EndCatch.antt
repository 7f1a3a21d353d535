-- The function end_catch: it leaves the newest handler, and where that was the exception's last one it destroys the object and frees it.
use Rattle.std.specs.Prelude.{◌≡◌, ◌≢◌, ℕ, ◌+◌, ◌-◌, ◌%◌, ◌^◌, ◌<◌, ◌≤◌, []}
use Rattle.rv64_isa.specs.Step.{x}
use Rattle.cxa_runtime.specs.World.{World}
use Rattle.cxa_runtime.specs.Raising.{Image}
use Rattle.linear_forms.specs.Linear.{UnitCode}
use Rattle.linear_forms.specs.Stub.{end_catch}
use Rattle.machine_forms.specs.Registers.{ra, sp, a0, a1}
use Rattle.machine_forms.specs.RuntimeCall.{end_catch_call, free_call, resume_call}
use Rattle.machine_forms.specs.Shape.{return_offset}
use Rattle.machine_pieces.specs.Frames.{AddressAt}
use Rattle.machine_pieces.specs.Turning.{Reaches}
use Rattle.machine_stubs.specs.Stretches.{BackStays, stub_word, frame_size, slot_at, Stands, AtRuntimeCall, AtAddress}

-- the slots of the object and of its destructor, and those of what a pad gets
abbrev pub object_slot : ℕ
object_slot = slot_at end_catch 0

abbrev pub destructor_slot : ℕ
destructor_slot = slot_at end_catch 1

abbrev pub flying_slot : ℕ
flying_slot = slot_at end_catch 2

-- From its first word end_catch calls the runtime to leave the handler. Behind that call it returns at once where the runtime gives 0, and
-- else calls the destructor for the object, or frees the object at once where there is none. Where the destructor comes back the object is
-- freed, and behind that end_catch returns. From its pad, the object is freed too, and behind that what was on its way is resumed.
pub record EndCatchRuns : Type 0 where
  pub leaves : (image : Image) (u : UnitCode) (base : ℕ) (w : World) → let s = w.hart in let low = x s sp - frame_size end_catch in
      frame_size end_catch ≤ x s sp → Stands u base end_catch 0 low (frame_size end_catch) s → x s ra < 2 ^ 64 →
      Reaches image 3 w [] (AtRuntimeCall u base end_catch end_catch_call 4 low low (frame_size end_catch) w (λ t. AddressAt t.memory (low + return_offset) (x s ra)))
  pub returns_at_once : (image : Image) (u : UnitCode) (base back : ℕ) (w : World) → let s = w.hart in let low = x s sp in
      Stands u base end_catch 4 low (frame_size end_catch) s → x s a0 ≡ 0 → AddressAt s.memory (low + return_offset) back → back % 4 ≡ 0 → back < 2 ^ 64 →
      Reaches image 8 w [] (AtAddress back (low + frame_size end_catch) low (frame_size end_catch) w (λ t. x t a0 ≡ 0))
  pub destroys : (image : Image) (u : UnitCode) (base object destructor : ℕ) (w : World) → let s = w.hart in let low = x s sp - 8 in
      8 ≤ x s sp → Stands u base end_catch 4 low (8 + frame_size end_catch) s → x s a0 ≡ object → object ≢ 0 → object < 2 ^ 64 → x s a1 ≡ destructor → destructor ≢ 0 →
      destructor % 4 ≡ 0 → destructor < 2 ^ 64 →
      Reaches image 8 w [] (AtAddress destructor (x s sp) low (8 + frame_size end_catch) w
      (λ t. (x t ra ≡ stub_word base end_catch 13) × AddressAt t.memory low object × AddressAt t.memory (x s sp + object_slot) object × BackStays (x s sp) s.memory t.memory))
  pub frees_at_once : (image : Image) (u : UnitCode) (base object : ℕ) (w : World) → let s = w.hart in let low = x s sp in
      Stands u base end_catch 4 low (frame_size end_catch) s → x s a0 ≡ object → object ≢ 0 → object < 2 ^ 64 → x s a1 ≡ 0 →
      Reaches image 7 w [] (AtRuntimeCall u base end_catch free_call 16 low low (frame_size end_catch) w (λ t. (x t a0 ≡ object) × BackStays low s.memory t.memory))
  pub frees : (image : Image) (u : UnitCode) (base object : ℕ) (w : World) → let s = w.hart in let low = x s sp in
      Stands u base end_catch 13 low (frame_size end_catch) s → AddressAt s.memory (low + object_slot) object →
      Reaches image 2 w [] (AtRuntimeCall u base end_catch free_call 16 low low (frame_size end_catch) w (λ t. (t.memory ≡ s.memory) × (x t a0 ≡ object)))
  pub returns : (image : Image) (u : UnitCode) (base back : ℕ) (w : World) → let s = w.hart in let low = x s sp in
      Stands u base end_catch 16 low (frame_size end_catch) s → AddressAt s.memory (low + return_offset) back → back % 4 ≡ 0 → back < 2 ^ 64 →
      Reaches image 4 w [] (AtAddress back (low + frame_size end_catch) low (frame_size end_catch) w (λ t. (t.memory ≡ s.memory) × (x t a0 ≡ 0)))
  pub frees_on_the_way : (image : Image) (u : UnitCode) (base object flying : ℕ) (w : World) → let s = w.hart in let low = x s sp in
      Stands u base end_catch 20 low (frame_size end_catch) s → x s a0 ≡ flying → flying < 2 ^ 64 → AddressAt s.memory (low + object_slot) object →
      Reaches image 4 w [] (AtRuntimeCall u base end_catch free_call 25 low low (frame_size end_catch) w (λ t. (x t a0 ≡ object) × AddressAt t.memory (low + flying_slot) flying × BackStays low s.memory t.memory))
  pub resumes : (image : Image) (u : UnitCode) (base flying : ℕ) (w : World) → let s = w.hart in let low = x s sp in
      Stands u base end_catch 25 low (frame_size end_catch) s → AddressAt s.memory (low + flying_slot) flying →
      Reaches image 2 w [] (AtRuntimeCall u base end_catch resume_call 28 low low (frame_size end_catch) w (λ t. (t.memory ≡ s.memory) × (x t a0 ≡ flying)))
