-- That bytes are the compiled program, whatever they are run with and however many harts run them.
use Rattle.std.specs.Prelude.{◌≡◌, ◌≤◌, ◌<◌, ◌+◌, ◌*◌, ℕ, Bool, List, [], length, take, slice_get, Some, Ok}
use Rattle.std.specs.List.{AllByRecursion}
use Rattle.eh_outer.specs.declared.module.Reply.{Reply}
use Rattle.cxx_ast.specs.Plain.{Checked, Function}
use Rattle.meaning_forms.specs.declared.ending.MeanEnd.TheVariants.{Undefined}
use Rattle.meaning_forms.specs.Meaning.{program_meaning}
use Rattle.region_forms.specs.Layout.{layout_of}
use Rattle.region_forms.specs.LowerProgram.{lowering, declared_function}
use Rattle.region_forms.specs.Numbering.{variables_of}
use Rattle.linear_forms.specs.Linear.{FunctionCode}
use Rattle.linear_forms.specs.Unit.{function_code}
use Rattle.machine_forms.specs.Kept.{kept_slots}
use Rattle.image_forms.specs.Placed.{all_code}
use Rattle.source_bounds.specs.Compiled.{emitted_for}
use Rattle.source_bounds.specs.KeptFrames.{PlainFramesAreSmall}
use Rattle.source_bounds.specs.KeptSaves.{RegistersAreSavedApart}
use Rattle.source_bounds.specs.KeptVariables.{unbound_ints}
use Rattle.elf_image.specs.Clean.{CleanImage, clean}
use Rattle.elf_image.specs.Runnable.{runnable}
use Rattle.cxa_runtime.specs.Run.{Ran}
use Rattle.compiled_runs.specs.Compiled.{Compiled, IsCut, RunMeans}
use Rattle.compiled_runs.specs.Enough.{HasEnough}
use Rattle.eh_run.specs.Program.{program_of}
use Rattle.hart_sched.specs.Hart.{Hart}
use Rattle.hart_sched.specs.Schedule.{Slice, schedule}
use Rattle.hart_sched.specs.Run as several
use Rattle.hart_sched.specs.Harts.{IsRun}
use Rattle.hart_sched.specs.Laws.{IsOwnRun}
use Rattle.eh_driver.specs.Events.{EventsHold}

-- the input is one of bytes
abbrev pub AreBytes : List ℕ → Type 0
AreBytes input = AllByRecursion (λ b. b < 256) input

-- ---- several harts
-- A hart of several has a run of it alone, with as many steps as it took, of which are its lines and what was told of it. Where the program's meaning with its
-- input, no modules and as many turns is defined, that run is what the program means, and what it tells of exceptions is as promised.
pub record HartMeans (p : Checked) (i : CleanImage) (input : List ℕ) (trace : Bool) (k : ℕ) (hart : Hart) (r : several.Ran) : Type 0 where
  pub alone : IsOwnRun (program_of i).image (program_of i).hart input trace k hart r
  pub means : let m = program_meaning p input [] hart.taken (hart.taken + 1) in
      (m.end ≡ Undefined → ⊥) → RunMeans m alone.own × EventsHold m alone.own.items (IsCut alone.own.end → ⊥)

-- so for the hart of each input of bytes
abbrev pub HartsMean : Checked → CleanImage → List (List ℕ) → Bool → several.Ran → Type 0
HartsMean p i inputs trace r =
    (k : ℕ) (input : List ℕ) → slice_get inputs k ≡ Some input → AreBytes input → (hart : Hart) × (slice_get r.harts k ≡ Some hart) × HartMeans p i input trace k hart r

-- ---- variables in registers
-- the code of a program's function: it may be a member of class k, or main
abbrev pub code_for : Checked → (is_member is_main : Bool) → (k : ℕ) → Function → FunctionCode
code_for p is_member is_main k f = function_code (declared_function p (layout_of p) is_member is_main k f)

-- The first ten int variables of a function, in order of declaration, to which no reference is bound, are kept in registers. Where a function has made its
-- frame, the caller's values of these registers are saved apart in it; and the frame of a plain function is so small that no kept variable has a second place.
pub record KeepsVariables (p : Checked) : Type 0 where
  pub which : (is_member is_main : Bool) (k : ℕ) (f : Function) →
      kept_slots (code_for p is_member is_main k f) ≡ take 10 (unbound_ints (lowering p (layout_of p) is_member (variables_of f)) k f 0 (variables_of f))
  pub saved : (is_member is_main : Bool) (k : ℕ) (f : Function) → RegistersAreSavedApart (code_for p is_member is_main k f)
  pub frames : PlainFramesAreSmall p

-- ---- the compiled program
-- The bytes are an image that can be run, and a clean one, with so many words of code and so many bytes for its program's tokens at most, and that is the
-- compiled program: what its runs show, and how they end, is what the program means; and so many instructions are enough for them. So the exceptions of each
-- run that is what the program means are handled as promised. Under every schedule of several harts each of them is what the program means with its own input.
pub record AreCompiled (p : Checked) (bytes : List ℕ) : Type 0 where
  pub image : CleanImage
  pub read : runnable bytes ≡ Ok image
  pub cleanly : clean bytes ≡ Ok image
  pub words : length (all_code (emitted_for p)) ≤ 128 * p.program.tokens + 4096
  pub small : length bytes ≤ 768 * p.program.tokens + 131072
  pub compiled : Compiled p image
  pub enough : HasEnough p image
  pub events : (input : List ℕ) (replies : List (List Reply)) (n : ℕ) (r : Ran) → let m = program_meaning p input replies n (n + 1) in RunMeans m r → EventsHold m r.items (IsCut r.end → ⊥)
  pub harts : (inputs : List (List ℕ)) (text : List ℕ) (slices : List Slice) (trace : Bool) (r : several.Ran) → schedule (length inputs) text ≡ Ok slices →
      IsRun (program_of image).image (program_of image).hart inputs slices r → HartsMean p image inputs trace r
  pub kept : KeepsVariables p
