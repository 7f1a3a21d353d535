-- A run on its way whose items are counted.
use Rattle.std.proofs.Common.{◌≡◌, ◌∙◌, refl, sym, ap, subst, ℕ, ◌+◌, ◌*◌, ◌<◌, ◌≤◌, List, [], ◌++◌, length, zero-add, arith, cond, None, Option}
use Rattle.std.specs.Prelude.{Bool, count_by}
use Rattle.std.proofs.lemmas.List.{length-replicate}
use Rattle.std.proofs.lemmas.List.Sums.{sum_by-append}
use Rattle.eh_outer.specs.Module.{ModuleView}
use Rattle.table_forms.specs.Fde.{Fde}
use Rattle.run_items.specs.declared.item.Item.{Item}
use Rattle.run_items.specs.Line.{is_written}
use Rattle.frame_read.specs.ReadsFrames.{Listing}
use Rattle.caught_stack.specs.declared.header.Header.{Header}
use Rattle.caught_stack.specs.Live.{slots, all_vacant}
use Rattle.cxa_runtime.specs.declared.effect.End.{End}
use Rattle.cxa_runtime.specs.declared.effect.End.TheVariants as ends
use Rattle.cxa_runtime.specs.declared.effect.Turn.{Turn}
use Rattle.cxa_runtime.specs.declared.effect.Turn.TheVariants.{On, Ended}
use Rattle.cxa_runtime.specs.Kept.{Kept, StaysFrozen, image_of, replies_of, world_of}
use Rattle.cxa_runtime.specs.Lasting.{LastsAs}
use Rattle.cxa_runtime.specs.Raising.{Image}
use Rattle.cxa_runtime.specs.Run.{turn}
use Rattle.cxa_runtime.specs.World.{World, begins}
use Rattle.eh_run.specs.Counts.{CountsTo, is_make}
use Rattle.eh_run.specs.Program.{Program}
use Rattle.eh_run.specs.Ready.{IsReady, program_in}
use Rattle.eh_run.specs.Steps.{steps_at}
use Rattle.eh_run.proofs.Turning.{Onward, Counts, IsMachines, onward_first, onward_next, onward_ends, onward_budget, turn_counts}

-- behind k turns, none of which ended the run
pub record Counting (program : Program) (input : List ℕ) (before : List ModuleView) (k : ℕ) (runtime : Kept) (modules : List ModuleView) (lines makes : ℕ) : Type 0 where
  pub shown : List Item
  pub onward : Onward program.image (begins program.hart input (replies_of before)) (world_of runtime input (replies_of modules)) k shown
  pub lasts : LastsAs runtime.hart runtime.frames program.image.fdes
  pub places : runtime.places ≡ program.image.places
  pub turns : runtime.turns ≡ k
  pub lines_are : lines ≡ count_by is_written shown
  pub makes_are : makes ≡ count_by is_make shown
  pub few_lines : lines ≤ 2 * k
  pub few_makes : makes ≤ 2 * k

slots_at_first : length all_vacant ≡ slots
unfolding all_vacant
slots_at_first = length-replicate {A = Option Header} slots None

-- a run begins
pub counting_first : (runtime : Kept) (header : ℕ) (input : List ℕ) (modules : List ModuleView) → IsReady runtime header → Counting (program_in runtime header) input modules 0 runtime modules 0 0
counting_first runtime header input modules ready =
    let image = (program_in runtime header).image in
    let w = begins runtime.hart input (replies_of modules) in
    let first : world_of runtime input (replies_of modules) ≡ w = ap (λ (k : Kept). world_of k input (replies_of modules)) ready.fresh in record {
      shown = [];
      onward = subst (λ (v : World). Onward image w v 0 []) (sym first) (onward_first image w slots_at_first);
      lasts = ready.lasts;
      places = refl;
      turns = ap (λ (k : Kept). k.turns) ready.fresh;
      lines_are = refl;
      makes_are = refl;
      few_lines = omega arith;
      few_makes = omega arith;
    }

-- what a step has done
pub record StepDone (input : List ℕ) (old new : Kept) (modules after : List ModuleView) (result : Turn) (lines makes : ℕ) : Type 0 where
  pub step : (wish : ℕ) × ((fdes : List Fde) → LastsAs old.hart old.frames fdes →
      (result, world_of new input (replies_of after)) ≡ turn (image_of fdes old) wish (world_of old input (replies_of modules)))
  pub stays : StaysFrozen old new
  pub lines_are : lines ≡ count_by is_written new.shown
  pub makes_are : makes ≡ count_by is_make new.shown
  pub few_lines : lines ≤ 2
  pub few_makes : makes ≤ 2

same_image : (image : Image) (k : Kept) → k.places ≡ image.places → image_of image.fdes k ≡ image
same_image image k same = ap (λ places. record { fdes = image.fdes; places = places }) same

both : (lines more : ℕ) (test : Item → Bool) (shown items : List Item) → lines ≡ count_by test shown → more ≡ count_by test items → lines + more ≡ count_by test (shown ++ items)
both lines more test shown items a b =
    let sum = sum_by-append (λ x. cond (test x) 1 0) shown items in omega (arith, a, b, sum)

stepped : (program : Program) (input : List ℕ) (before : List ModuleView) (k : ℕ) (old new : Kept) (modules after : List ModuleView) (result : Turn) (lines makes more_lines more_makes : ℕ) →
    Counting program input before k old modules lines makes → (t : StepDone input old new modules after result more_lines more_makes) →
    turn program.image t.step.0 (world_of old input (replies_of modules)) ≡ (result, world_of new input (replies_of after))
stepped program input before k old new modules after result lines makes more_lines more_makes h t =
    sym (t.step.1 program.image.fdes h.lasts ∙ ap (λ (image : Image). turn image t.step.0 (world_of old input (replies_of modules))) (same_image program.image old h.places))

-- the run goes on
pub counting_next : (program : Program) (input : List ℕ) (before : List ModuleView) (k : ℕ) (old new : Kept) (modules after : List ModuleView) (lines makes more_lines more_makes : ℕ) →
    Counting program input before k old modules lines makes → StepDone input old new modules after On more_lines more_makes → Counting program input before (k + 1) new after (lines + more_lines) (makes + more_makes)
counting_next program input before k old new modules after lines makes more_lines more_makes h t =
    let w = begins program.hart input (replies_of before) in
    let v = world_of old input (replies_of modules) in
    let u = world_of new input (replies_of after) in
    let stays = t.stays in
    let turns = h.turns in
    let more = stays.turns in
    let a = h.few_lines in
    let b = t.few_lines in
    let x = h.few_makes in
    let y = t.few_makes in record {
      shown = h.shown ++ new.shown;
      onward = onward_next program.image w v u k t.step.0 h.shown h.onward (stepped program input before k old new modules after On lines makes more_lines more_makes h t);
      lasts = subst (λ (frames : Listing). LastsAs new.hart frames program.image.fdes) (sym stays.frames) (λ s e. h.lasts s (e ∙ stays.memory));
      places = stays.places ∙ h.places;
      turns = omega (arith, turns, more);
      lines_are = both lines more_lines is_written h.shown new.shown h.lines_are t.lines_are;
      makes_are = both makes more_makes is_make h.shown new.shown h.makes_are t.makes_are;
      few_lines = omega (arith, a, b);
      few_makes = omega (arith, x, y);
    }

-- the run ends
pub counting_ends : (program : Program) (input : List ℕ) (before : List ModuleView) (k n : ℕ) (old new : Kept) (modules after : List ModuleView) (lines makes more_lines more_makes count : ℕ) (end : End) →
    Counting program input before k old modules lines makes → k < n → StepDone input old new modules after (Ended end) more_lines more_makes → count ≡ steps_at k end →
    CountsTo program input before n (record { ran = record { end = end; count = count }; lines = lines + more_lines; makes = makes + more_makes })
counting_ends program input before k n old new modules after lines makes more_lines more_makes count end h less t counted =
    let w = begins program.hart input (replies_of before) in
    let v = world_of old input (replies_of modules) in
    let u = world_of new input (replies_of after) in
    let is = stepped program input before k old new modules after (Ended end) lines makes more_lines more_makes h t in
    let counts : (u.count ≡ steps_at v.count end) × IsMachines end = subst (Counts v.count) is (turn_counts program.image v t.step.0 h.onward.live).counts in
    let so_far : v.count ≡ k = h.onward.count ∙ zero-add k in record {
      whole = record { items = h.shown ++ new.shown; end = end; world = u };
      runs = onward_ends program.image w v u k n t.step.0 h.shown end h.onward less is;
      end = refl;
      count = counts.0 ∙ ap (λ m. steps_at m end) so_far ∙ sym counted;
      lines = both lines more_lines is_written h.shown new.shown h.lines_are t.lines_are;
      makes = both makes more_makes is_make h.shown new.shown h.makes_are t.makes_are;
    }

-- its budget is used up
pub counting_stops : (program : Program) (input : List ℕ) (before : List ModuleView) (k n : ℕ) (runtime : Kept) (modules : List ModuleView) (lines makes : ℕ) → Counting program input before k runtime modules lines makes →
    k ≡ n → CountsTo program input before n (record { ran = record { end = ends.Budget; count = n }; lines = lines; makes = makes })
counting_stops program input before k n runtime modules lines makes h all =
    subst (λ (m : ℕ). CountsTo program input before m (record { ran = record { end = ends.Budget; count = m }; lines = lines; makes = makes })) all (record {
      whole = record { items = h.shown; end = ends.Budget; world = world_of runtime input (replies_of modules) };
      runs = onward_budget program.image (begins program.hart input (replies_of before)) (world_of runtime input (replies_of modules)) k h.shown h.onward;
      end = refl;
      count = h.onward.count ∙ zero-add k;
      lines = h.lines_are;
      makes = h.makes_are;
    })
