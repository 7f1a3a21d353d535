-- A step of a runtime as a turn of its hart, and a run with one turn more.
use Rattle.std.proofs.Common.{◌≡◌, ◌∙◌, refl, sym, ap, ℕ, ◌+◌, false, cond, List, [], ◌∷◌, ◌++◌, map, slice_get, slice_set, append-nil, Option, Some, None}
use Rattle.std.specs.Prelude.{option_map}
use Rattle.run_items.specs.declared.item.Item.{Item}
use Rattle.table_forms.specs.Fde.{Fde}
use Rattle.cxa_runtime.specs.declared.effect.End.{End}
use Rattle.cxa_runtime.specs.declared.effect.Turn.{Turn}
use Rattle.cxa_runtime.specs.declared.effect.Turn.TheVariants.{On, Ended}
use Rattle.cxa_runtime.specs.Kept.{Kept, image_of, world_of}
use Rattle.cxa_runtime.specs.Lasting.{LastsAs}
use Rattle.cxa_runtime.specs.Raising.{Image}
use Rattle.cxa_runtime.specs.Run as machine
use Rattle.hart_sched.specs.Hart.{Hart, has_to_wait, live_over}
use Rattle.hart_sched.specs.Turn.{Told, shown, ended, turn, takes, waits}
use Rattle.hart_sched.specs.Run.{Ran, Runs, told_by, turn_at, turned_as, and_then}
use Rattle.hart_sched.specs.Seats.{end_as}
use Rattle.hart_sched.proofs.Joins.{runs_join}

-- what is told of a step that answered so and has shown these items
abbrev pub told_as : Turn → List Item → List Told
told_as On items = map shown items
told_as (Ended end) items = map shown items ++ ended end ∷ []

-- a hart by its runtime, the input that it has, and what is kept besides
abbrev pub seen : Kept → List ℕ → Option End → (taken waits : ℕ) → Hart
seen k input end taken waits = record { world = world_of k input []; end = end; taken = taken; waits = waits }

same_image : (image : Image) (k : Kept) → k.places ≡ image.places → image_of image.fdes k ≡ image
same_image image k same = ap (λ places. record { fdes = image.fdes; places = places }) same

-- what the runtime's clause says of a step is a turn of its hart, where that has not ended and has not to wait
pub step_is_turn : (image : Image) (old new : Kept) (input : List ℕ) (taken waits live wish : ℕ) (result : Turn) → LastsAs old.hart old.frames image.fdes → old.places ≡ image.places →
    has_to_wait live (world_of old input []) ≡ false →
    ((fdes : List Fde) → LastsAs old.hart old.frames fdes → (result, world_of new input []) ≡ machine.turn (image_of fdes old) wish (world_of old input [])) →
    turn image wish live (seen old input None taken waits) ≡ (seen new input (end_as result) (taken + 1) waits, told_as result new.shown)
unfolding turn
step_is_turn image old new input taken waits live wish result lasts places free step =
    let hart = seen old input None taken waits in
    let is : machine.turn image wish (world_of old input []) ≡ (result, world_of new input []) =
    sym (step image.fdes lasts ∙ ap (λ i. machine.turn i wish (world_of old input [])) (same_image image old places)) in
    ap (λ b. cond b (record hart { waits = hart.waits + 1 }, []) (takes hart (machine.turn image wish (world_of old input [])))) free ∙ ap (takes hart) is ∙ by result
  where
    by : (r : Turn) → takes (seen old input None taken waits) (r, world_of new input []) ≡ (seen new input (end_as r) (taken + 1) waits, told_as r new.shown)
    by On = refl
    by (Ended end) = refl

-- a run with one turn more
pub one_more : (image : Image) (ks : List ℕ) (harts : List Hart) (r : Ran) (k wish : ℕ) (hart new : Hart) (told : List Told) → Runs image ks harts r → slice_get r.harts k ≡ Some hart →
    turn image wish (live_over r.harts) hart ≡ (new, told) →
    Runs image (ks ++ (k ∷ [])) harts (record { told = r.told ++ told_by k told; harts = slice_set r.harts k new })
one_more image ks harts r k wish hart new told runs there is =
    let at : turn_at image wish k r.harts ≡ record { told = told_by k told; harts = slice_set r.harts k new } =
    ap (λ o. turned_as k r.harts (option_map (turn image wish (live_over r.harts)) o)) there ∙ ap (λ t. turned_as k r.harts (Some t)) is in
    let last : Ran = record { told = []; harts = slice_set r.harts k new } in
    runs_join image ks (k ∷ []) harts r (record { told = told_by k told; harts = slice_set r.harts k new }) runs (
      wish,
      last,
      ap (λ (q : Ran). record { told = []; harts = q.harts }) (sym at),
      ap (λ (ts : List (ℕ × Told)). record { told = ts; harts = slice_set r.harts k new }) (sym (append-nil (told_by k told))) ∙ ap (λ (q : Ran). and_then q last) (sym at),
    )
