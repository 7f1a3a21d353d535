-- Clean images: all that the bytes of an image stand for, or what is refused first: of the file, then of the header and the frames, then of each exception table in the order of its function's region.
use Rattle.std.specs.Prelude.{ℕ, ◌==◌, Bool, false, List, [], ◌∷◌, Option, Some, None, Result, Ok, Err, if◌then◌else◌}
use Rattle.eh_bytes.specs.declared.frames.Region64.{Region64}
use Rattle.eh_bytes.specs.Memory.{Memory}
use Rattle.table_forms.specs.Fault.{Fault, fault, ◌>>=◌}
use Rattle.table_forms.specs.Lsda.{Table, lsda}
use Rattle.table_forms.specs.Cie.{Cie}
use Rattle.table_forms.specs.Fde.{Fde}
use Rattle.table_forms.specs.Frames.{frames, sorted}
use Rattle.elf_image.specs.Elf.{Image, elf}

-- a function by its FDE, and its exception table if it names one
pub record Function : Type 0 where
  pub fde : Fde
  pub table : Option Table

-- the functions in rising order of region
pub record CleanImage : Type 0 where
  pub image : Image
  pub cies : List Cie
  pub functions : List Function

-- a table is refused at one place, without locations that differ
abbrev pub table_read : Result Table Fault → Result (Option Table) Fault
table_read (Ok t) = Ok (Some t)
table_read (Err e) = Err (fault e.reason e.place)

-- address 0 is no table
abbrev pub table_named : Memory → ℕ → Region64 → Result (Option Table) Fault
table_named memory address region = if address == 0 then Ok None else table_read (lsda memory address region)

abbrev pub function_of : Memory → Fde → Result Function Fault
function_of memory f = do
  table ← table_named memory f.lsda f.region
  Ok (record { fde = f; table = table })

-- the first table that is refused answers
abbrev pub functions_of : Memory → List Fde → Result (List Function) Fault
functions_of memory [] = Ok []
functions_of memory (f ∷ fs) = do
  first ← function_of memory f
  rest ← functions_of memory fs
  Ok (first ∷ rest)

-- also what is refused of an image to run, in its file
unfoldable pub judged : List ℕ → Bool → Result CleanImage Fault
judged file run = do
  i ← elf file run
  read ← frames i.memory i.frame_header
  functions ← functions_of i.memory (sorted read.fdes)
  Ok (record { image = i; cies = read.cies; functions = functions })

abbrev pub clean : List ℕ → Result CleanImage Fault
clean file = judged file false
