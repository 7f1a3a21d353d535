-- The image of a checked program is the compiled program.
use Rattle.std.proofs.Common.{◌≡◌, ◌∙◌, ◌≤◌, ◌+◌, ◌^◌, refl, sym, subst, ℕ, List, [], length, slice_get, Option, Some, Result, Ok, Err, arith}
use Rattle.std.specs.Prelude.{Bool, IsOkAnd}
use Rattle.cxx_ast.specs.Plain.{Checked}
use Rattle.cxx_ast.specs.Checked.{IsChecked}
use Rattle.cxx_image.specs.Image.{image_for, CheckedImagesAreSmall}
use Rattle.meaning_forms.specs.Meaning.{program_meaning}
use Rattle.region_forms.specs.Layout.{layout_of}
use Rattle.region_forms.specs.LowerProgram.{declared_function}
use Rattle.source_bounds.specs.Compiled.{emitted_for}
use Rattle.source_bounds.specs.KeptFrames.{KeptFramesAreSmall}
use Rattle.source_bounds.specs.KeptSaves.{KeptRegistersAreSaved}
use Rattle.source_bounds.specs.KeptVariables.{KeptVariablesAreUnbound}
use Rattle.source_bounds.specs.Laws.{CheckedIsLinkable}
use Rattle.table_forms.specs.Fault.{Fault}
use Rattle.elf_image.specs.Clean.{CleanImage}
use Rattle.elf_image.specs.Runnable.{runnable}
use Rattle.image_link.specs.Laws.{ImagesAreSmall}
use Rattle.image_link.specs.Runs.{UnitStands, RunsUnit}
use Rattle.compiled_runs.specs.Compiled.{Compiled}
use Rattle.compiled_runs.specs.Given.{IsGiven}
use Rattle.step_law.specs.Complete.{CheckedImagesAreCompiled, CheckedImagesHaveEnough}
use Rattle.eh_run.specs.Program.{program_of}
use Rattle.hart_sched.specs.Hart.{Hart}
use Rattle.hart_sched.specs.Schedule.{Slice, schedule}
use Rattle.hart_sched.specs.Run as several
use Rattle.hart_sched.specs.Harts.{IsRun}
use Rattle.hart_sched.specs.Laws.{EachRunsAlone, HadTurns, IsOwnRun, OwnTurnsAreFew}
use Rattle.hart_sched.proofs.Few.{scheduled_few}
use Rattle.eh_driver.specs.Compiled.{AreBytes, AreCompiled, HartMeans, HartsMean, KeepsVariables}
use Rattle.eh_driver.proofs.CleanImages.{runnable_clean}
use Rattle.eh_driver.proofs.EventsHeld.{LawsOfEvents, run_holds}

-- the laws of images, of variables that are kept in registers, and of several harts
pub record ImageLaws : Type 0 where
  pub compiled : CheckedImagesAreCompiled
  pub enough : CheckedImagesHaveEnough
  pub linkable : CheckedIsLinkable
  pub small : ImagesAreSmall
  pub sizes : CheckedImagesAreSmall
  pub events : LawsOfEvents
  pub unbound : KeptVariablesAreUnbound
  pub saved : KeptRegistersAreSaved
  pub frames : KeptFramesAreSmall
  pub apart : EachRunsAlone
  pub turns : OwnTurnsAreFew

same_hart : (o : Option Hart) (a b : Hart) → o ≡ Some a → o ≡ Some b → a ≡ b
same_hart o a b e f = let both : Some a ≡ Some b = sym e ∙ f in cc

module _ (laws : ImageLaws) (p : Checked) (is : IsChecked p) where
  variables_kept : KeepsVariables p
  variables_kept = record {
    which = λ is_member is_main k f. laws.unbound p (layout_of p) is_member is_main k f;
    saved = λ is_member is_main k f. laws.saved (declared_function p (layout_of p) is_member is_main k f);
    frames = laws.frames p is;
  }

  -- the run of one hart alone
  hart_means : (i : CleanImage) → Compiled p i → (input : List ℕ) (trace : Bool) (k : ℕ) (hart : Hart) (r : several.Ran) → AreBytes input → hart.taken ≤ 2 ^ 40 →
      IsOwnRun (program_of i).image (program_of i).hart input trace k hart r → HartMeans p i input trace k hart r
  hart_means i compiled input trace k hart r ints few own =
      let given : IsGiven input [] = record { bytes = ints; few = omega arith; ints = tt } in
      let m = program_meaning p input [] hart.taken (hart.taken + 1) in record {
        alone = own;
        means = λ defined.
            let means = compiled.means input [] hart.taken own.own given few own.runs defined in
            (means, run_holds laws.events m own.own (laws.events.right p input [] hart.taken (hart.taken + 1)) means);
      }

  harts_mean : (i : CleanImage) → Compiled p i → (inputs : List (List ℕ)) (text : List ℕ) (slices : List Slice) (trace : Bool) (r : several.Ran) → schedule (length inputs) text ≡ Ok slices →
      IsRun (program_of i).image (program_of i).hart inputs slices r → HartsMean p i inputs trace r
  harts_mean i compiled inputs text slices trace r scheduled runs k input there ints =
      let image = (program_of i).image in
      let s = (program_of i).hart in
      let (hart, at, own) = laws.apart image s inputs slices trace r runs k input there in
      let (other, at_too, had) = laws.turns image s inputs slices r runs k input there in
      let few = subst (HadTurns k slices) (same_hart (slice_get r.harts k) other hart at_too at) had in
      let a = few.own in
      let b = few.all in
      let c = scheduled_few (length inputs) text slices scheduled in
      (hart, at, hart_means i compiled input trace k hart r ints (omega (arith, a, b, c)) own)

  pub image_compiled : RunsUnit (emitted_for p) (image_for p) → AreCompiled p (image_for p)
  image_compiled runs = by (runnable (image_for p)) refl runs
    where
      by : (r : Result CleanImage Fault) → runnable (image_for p) ≡ r → IsOkAnd r (UnitStands (emitted_for p)) → AreCompiled p (image_for p)
      by (Ok i) read stands =
          let compiled = laws.compiled p is (image_for p) i read stands in record {
            image = i;
            read = read;
            cleanly = runnable_clean (image_for p) i read;
            words = laws.small.words (emitted_for p) (laws.linkable p is);
            small = laws.sizes p is;
            compiled = compiled;
            enough = laws.enough p is (image_for p) i read stands;
            events = λ input replies n r means. run_holds laws.events (program_meaning p input replies n (n + 1)) r (laws.events.right p input replies n (n + 1)) means;
            harts = harts_mean i compiled;
            kept = variables_kept;
          }
      by (Err fault) read stands = absurd stands
