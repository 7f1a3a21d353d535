-- Where main begins in an image.
use Rattle.std.proofs.Common.{◌≡◌, ℕ, zero, suc, ◌+◌, ◌≤◌, ◌<◌, ◌^◌, Bool, true, false, List, [], ◌∷◌, refl, sym, ap, ◌∙◌, arith, ℤ}
use Rattle.std.specs.List.{AllByRecursion}
use Rattle.eh_outer.specs.Domain.{is_int}
use Rattle.eh_outer.specs.declared.module.Reply.{Reply}
use Rattle.cxx_ast.specs.Plain.{Checked}
use Rattle.elf_image.specs.Clean.{CleanImage}
use Rattle.elf_image.specs.Stands.{ImageStands}
use Rattle.image_forms.specs.Linked.{contents_for}
use Rattle.image_forms.specs.Placed.{code_at}
use Rattle.linear_forms.specs.UnitRun.{code_of, first_state}
use Rattle.source_bounds.specs.Compiled.{unit_for, emitted_for}
use Rattle.machine_forms.proofs.Chosen.{variables_are_kept}
use Rattle.cxa_runtime.specs.Raising.{Image}
use Rattle.cxa_runtime.specs.Run.{run}
use Rattle.cxa_runtime.specs.World as abi
use Rattle.eh_run.specs.Program.{program_of}
use Rattle.machine_pieces.specs.Numbers.{IsInt}
use Rattle.machine_pieces.specs.Transfers.{entry_steps}
use Rattle.machine_pieces.specs.Turning.{Turns}
use Rattle.machine_simulation.specs.Plan.{Plan, function, shape}
use Rattle.machine_simulation.specs.Entering.{entry_turns}
use Rattle.machine_simulation.specs.Bytes.{AreBytes}
use Rattle.machine_simulation.specs.Matches.{Matches}
use Rattle.machine_simulation.specs.Beginning.{plan_before, StandsBefore, MainBegins}
use Rattle.machine_simulation.proofs.Words.{front_words, prologue_some}
use Rattle.checked_units.specs.Images.{ImagesBegin}
use Rattle.whole_runs.specs.Turns.{Invariant}
use Rattle.whole_runs.specs.Steps.{FollowsOn}
use Rattle.whole_runs.specs.Runs.{Starts}
use Rattle.whole_runs.proofs.Following.{runs_follow_steps}
use Rattle.whole_runs.proofs.Sufficing.{runs_suffice}
use Rattle.compiled_runs.specs.Compiled.{RunsFollow, FollowedImagesAreCompiled}
use Rattle.compiled_runs.specs.Enough.{RunsSufficeFor, SufficientImagesHaveEnough, ImagesHaveEnough}
use Rattle.compiled_runs.specs.Starts.{plan_of_main, Started, ImagesStart, StepsGoOn, ImagesAreCompiled}
use Rattle.cxx_ast.specs.Checked.{IsChecked}

-- without a turn a world stays as it is
no_turns : (image : Image) (w v : abi.World) (n : ℕ) → n ≡ 0 → Turns image n w v [] → v ≡ w
unfolding run
no_turns image w v zero e h = let same : run image (λ k. k) 0 w ≡ run image (λ k. k) 0 v = h.run (λ k. k) 0 in sym (ap (λ r. r.world) same)
no_turns image w v (suc n) e h = absurd (cc e)

-- some turn is needed from the first word of an image to main's
module _ (p : Checked) (i : CleanImage) (tables : ℕ → ℕ) (input : List ℕ) (replies : List (List Reply)) (before : StandsBefore (unit_for p) (code_at (emitted_for p)) tables (program_of i).hart)
    (turns : ℕ) (after : abi.World) (runs : Turns (program_of i).image turns (abi.begins (program_of i).hart input replies) after [])
    (matches : Matches (plan_of_main p tables) (first_state (unit_for p) input replies) after) where
  not_there : turns ≡ 0 → ⊥
  not_there none =
      let same : after ≡ abi.begins (program_of i).hart input replies = no_turns (program_of i).image (abi.begins (program_of i).hart input replies) after turns none runs in
      let pc : after.hart.pc ≡ code_at (emitted_for p) = ap (λ w. w.hart.pc) same ∙ before.pc in
      omega (arith, pc, front_words (plan_of_main p tables) matches.number, prologue_some (shape (plan_of_main p tables) matches.number), matches.pc)

  some_turns : (n : ℕ) → turns ≡ n → 0 < n
  some_turns zero e = absurd (not_there e)
  some_turns (suc n) e = omega arith

-- few turns enter a function
few_to_enter : (p : Plan) (n : ℕ) → entry_turns p n ≤ 34
few_to_enter p n = by (shape p n).leaf ((variables_are_kept (function p n)).saved (shape p n) (function p n).parameters)
  where
    by : (leaf : Bool) {saved : ℕ} → saved ≤ 30 → entry_steps leaf + saved ≤ 34
    by true few = omega (arith, few)
    by false few = omega (arith, few)

pub images_start : ImagesBegin → MainBegins → ImagesStart
images_start images_begin main_begins p checked i tables stands input replies =
    let before = images_begin p checked i tables stands in
    let m = main_begins (program_of i).image (unit_for p) (code_at (emitted_for p)) tables (program_of i).hart input replies before in
    record { turns = m.turns; some = some_turns p i tables input replies before m.turns m.after m.runs m.holds m.turns refl; few = omega (arith, m.few, few_to_enter (plan_before (unit_for p) (code_at (emitted_for p)) tables) (unit_for p).main); after = m.after; runs = m.runs; matches = m.holds }

-- an invariant that holds where main begins holds where a run does
pub starts_where : (p : Checked) (i : CleanImage) (tables : ℕ → ℕ) (pick : ℕ → ℕ) (input : List ℕ) (replies : List (List Reply)) (S : Invariant) (s : Started p i tables input replies)
    → S s.turns (first_state (unit_for p) input replies) s.after → Starts (program_of i).image pick S (first_state (unit_for p) input replies) (abi.begins (program_of i).hart input replies)
starts_where p i tables pick input replies S s stands =
    record { fresh = refl; turns = s.turns; some = s.some; after = s.after; made = record { run = λ k. s.runs.run pick k }; stands = stands }

-- runs follow from there
runs_follow_for : ImagesStart → (p : Checked) → IsChecked p → (i : CleanImage) (tables : ℕ → ℕ) → ImageStands (contents_for (emitted_for p)) i.image → StepsGoOn p i tables → RunsFollow p i
runs_follow_for start p checked i tables stands goes_on pick input replies given steps =
    let s = start p checked i tables stands input replies in
    runs_follow_steps (program_of i).image pick (code_of (unit_for p)) (2 ^ 40) (first_state (unit_for p) input replies) (abi.begins (program_of i).hart input replies)
    (starts_where p i tables pick input replies (FollowsOn (program_of i).image pick (code_of (unit_for p)) (2 ^ 40)) s (goes_on pick input replies given s)) steps

pub images_are_compiled : FollowedImagesAreCompiled → ImagesStart → ImagesAreCompiled
images_are_compiled compiled start p checked i tables stands goes_on = compiled p checked i (runs_follow_for start p checked i tables stands goes_on)

-- what is given are bytes
pub given_bytes : (input : List ℕ) → AllByRecursion (λ b. b < 256) input → AreBytes input
given_bytes [] h = tt
given_bytes (b ∷ bytes) h = (h.0, given_bytes bytes h.1)

-- and what modules answer are ints of 32 bits, and tokens of 32 bits
pub given_int : (z : ℤ) → is_int z ≡ true → IsInt z
given_int z h = h

-- so runs suffice from there
runs_suffice_for : ImagesStart → (p : Checked) → IsChecked p → (i : CleanImage) (tables : ℕ → ℕ) → ImageStands (contents_for (emitted_for p)) i.image → StepsGoOn p i tables → RunsSufficeFor p i
unfolding starts_where
runs_suffice_for start p checked i tables stands goes_on pick input replies given =
    let s = start p checked i tables stands input replies in (
      s.turns,
      s.few,
      runs_suffice (program_of i).image pick (code_of (unit_for p)) (2 ^ 40) (first_state (unit_for p) input replies) (abi.begins (program_of i).hart input replies)
          (starts_where p i tables pick input replies (FollowsOn (program_of i).image pick (code_of (unit_for p)) (2 ^ 40)) s (goes_on pick input replies given s)),
    )

pub images_have_enough : SufficientImagesHaveEnough → FollowedImagesAreCompiled → ImagesStart → ImagesHaveEnough
images_have_enough enough compiled start p checked i tables stands goes_on =
    let follow = runs_follow_for start p checked i tables stands goes_on in enough p checked i follow (runs_suffice_for start p checked i tables stands goes_on) (compiled p checked i follow)
