-- What the exception tables of a linked image say, whatever has been written where memory may be written.
use Rattle.std.specs.Prelude.{◌≡◌, ◌≤◌, ◌<◌, ℕ, ◌+◌, false, length, Option}
use Rattle.table_forms.specs.declared.found.Verdict.TheVariants.{Nothing}
use Rattle.table_forms.specs.Verdict.{forced}
use Rattle.rv64_isa.specs.State.{State}
use Rattle.elf_image.specs.Clean.{CleanImage}
use Rattle.frame_walk.specs.declared.frame.Frame.{Frame}
use Rattle.raise_core.specs.Asked.{verdict_of}
use Rattle.cxa_runtime.specs.Frozen.{frozen}
use Rattle.eh_run.specs.Program.{program_of}
use Rattle.linear_forms.specs.Linear.{UnitCode}
use Rattle.linear_forms.specs.Verdict.{pad_verdict}
use Rattle.linear_forms.specs.Stub.{Function}
use Rattle.linear_forms.specs.Activation.{look, sense}
use Rattle.linear_forms.specs.UnitRun.{code_of}
use Rattle.machine_forms.specs.Routine.{op_byte}
use Rattle.machine_forms.specs.StubCode.{start_routine}
use Rattle.image_forms.specs.Linkable.{BaseIsThere}
use Rattle.table_verdicts.specs.Verdicts.{told_of, forced_judge}
use Rattle.table_verdicts.specs.Types.{thrown_as}
use Rattle.table_verdicts.specs.Asked.{ListsNameTypes}
use Rattle.image_tables.specs.Read.{IsImageOf}
use Rattle.image_tables.specs.Functions.{IsThere, routine_of, records_end, first_byte, operation_at}

-- the memory of a run of an image: nothing has been written where it may not be
abbrev pub IsRunOf : CleanImage → State → Type 0
IsRunOf i s = frozen s.memory ≡ frozen (program_of i).hart.memory

-- a frame goes on behind a byte
pub record GoesOnBehind (a : ℕ) (x : Frame) : Type 0 where
  pub pc : x.pc ≡ a + 1
  pub plain : x.signal ≡ false

-- byte k of a function is one of operation p's
pub record IsByteOf (u : UnitCode) (f : Function) (p k : ℕ) : Type 0 where
  pub first : op_byte (routine_of u f) p ≤ k
  pub last : k < op_byte (routine_of u f) (p + 1)

-- what the personality routine says of a frame in operation p of a function, of an exception and of a forced unwind
pub record Tells (u : UnitCode) (i : CleanImage) (s : State) (f : Function) (p : ℕ) (x : Frame) : Type 0 where
  pub raised : (t : Option ℕ) → BaseIsThere (length u.types) t →
      verdict_of s (program_of i).image.fdes (thrown_as (records_end u) u.types t) x ≡ told_of (operation_at u f) (look (code_of u) f p) (λ chain. pad_verdict u.types (sense (code_of u) f) chain t)
  pub unwound : verdict_of s (program_of i).image.fdes forced x ≡ told_of (operation_at u f) (look (code_of u) f p) (forced_judge (sense (code_of u) f))

abbrev pub TablesSay : Type 0
TablesSay = (u : UnitCode) (i : CleanImage) (s : State) (f : Function) (p k : ℕ) (x : Frame) → IsImageOf u i → ListsNameTypes u → IsRunOf i s → IsThere u f → IsByteOf u f p k → GoesOnBehind (first_byte u f + k) x →
    Tells u i s f p x

-- of an exception and of a forced unwind that come out of main: nothing holds them
pub record Passes (u : UnitCode) (i : CleanImage) (s : State) (x : Frame) : Type 0 where
  pub raised : (t : Option ℕ) → BaseIsThere (length u.types) t → verdict_of s (program_of i).image.fdes (thrown_as (records_end u) u.types t) x ≡ Nothing
  pub unwound : verdict_of s (program_of i).image.fdes forced x ≡ Nothing

abbrev pub StartPasses : Type 0
StartPasses = (u : UnitCode) (i : CleanImage) (s : State) (k : ℕ) (x : Frame) → IsImageOf u i → IsRunOf i s → k < op_byte start_routine 1 → GoesOnBehind (records_end u + k) x → Passes u i s x
