-- What the frames of a linked image say.
use Rattle.std.specs.Prelude.{◌≡◌, ◌≤◌, ◌<◌, ℕ, ◌+◌, ◌*◌, false, length, slice_index_or, Some}
use Rattle.table_forms.specs.declared.found.Rule.TheVariants as rules
use Rattle.table_forms.specs.Fde.{Fde, fde_for, row_at}
use Rattle.elf_image.specs.Clean.{CleanImage}
use Rattle.linear_forms.specs.Linear.{UnitCode}
use Rattle.linear_forms.specs.Stub.{Function}
use Rattle.machine_forms.specs.Routine.{routine_words}
use Rattle.machine_forms.specs.StubCode.{start_routine}
use Rattle.eh_run.specs.Program.{program_of}
use Rattle.image_tables.specs.Read.{IsImageOf}
use Rattle.image_tables.specs.Functions.{IsThere, routine_of, frame_of, saved_places, records_end, first_byte}
use Rattle.image_tables.specs.Rows.{call_row}

-- The frame of byte k of a function: its bytes, and behind the function's beginning its row.
pub record IsFramed (u : UnitCode) (i : CleanImage) (f : Function) (k : ℕ) : Type 0 where
  pub fde : Fde
  pub found : fde_for (program_of i).image.fdes (first_byte u f + k) ≡ Some fde
  pub region : fde.region ≡ record { start = first_byte u f; length = 4 * routine_words (routine_of u f) }
  pub returns : fde.cie.return_register ≡ 1
  pub plain : fde.cie.signal ≡ false
  pub row : 4 * length (routine_of u f).front ≤ k → row_at fde (first_byte u f + k) ≡ call_row (frame_of u f) (saved_places u f)

-- each function of an image has its frame in each of its bytes
abbrev pub FramesSay : Type 0
FramesSay = (u : UnitCode) (i : CleanImage) (f : Function) (k : ℕ) → IsImageOf u i → IsThere u f → k < 4 * routine_words (routine_of u f) → IsFramed u i f k

-- the row of a byte of the first function of a run marks the return address undefined
pub record IsOutermost (u : UnitCode) (i : CleanImage) (k : ℕ) : Type 0 where
  pub fde : Fde
  pub found : fde_for (program_of i).image.fdes (records_end u + k) ≡ Some fde
  pub returns : fde.cie.return_register ≡ 1
  pub plain : fde.cie.signal ≡ false
  pub undefined : slice_index_or (row_at fde (records_end u + k)).rules 1 rules.Unspecified ≡ rules.Undefined

abbrev pub StartIsOutermost : Type 0
StartIsOutermost = (u : UnitCode) (i : CleanImage) (k : ℕ) → IsImageOf u i → k < 4 * routine_words start_routine → IsOutermost u i k
