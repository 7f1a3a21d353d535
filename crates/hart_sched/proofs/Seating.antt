-- A step of a hart by its runtime's clauses, where there are no modules.
use Rattle.std.proofs.Common.{◌≡◌, ◌∙◌, refl, ap, subst, ℕ, List, [], ◌∷◌}
use Rattle.eh_outer.specs.Module.{ModuleView}
use Rattle.run_items.specs.declared.item.Item.{Item}
use Rattle.run_items.specs.declared.item.Item.TheVariants as items
use Rattle.table_forms.specs.Fde.{Fde}
use Rattle.cxa_runtime.specs.declared.effect.Turn.{Turn}
use Rattle.cxa_runtime.specs.Kept.{Kept, StaysFrozen, image_of, replies_of, world_of}
use Rattle.cxa_runtime.specs.Lasting.{LastsAs}
use Rattle.cxa_runtime.specs.Run as machine
use Rattle.cxa_runtime.specs.Turns.{after_cleanups, apart_from_replies}
use Rattle.hart_sched.specs.declared.seat.Seat.{Seat}
use Rattle.hart_sched.specs.Seats.{Stepped, end_as}

-- no cleanup makes a module
none_after : (shown : List Item) → after_cleanups shown [] ≡ []
none_after [] = refl
none_after (items.Clean k token ∷ more) = none_after more
none_after (items.Line n ∷ more) = none_after more
none_after (items.Make n ∷ more) = none_after more
none_after (items.Foreign n k token ∷ more) = none_after more
none_after (items.Enter n ∷ more) = none_after more
none_after (items.Leave n ∷ more) = none_after more
none_after (items.Destroy n ∷ more) = none_after more
none_after (items.Free n ∷ more) = none_after more

apart_none : (modules : List ModuleView) → apart_from_replies modules ≡ [] → modules ≡ []
apart_none [] e = refl
apart_none (m ∷ ms) e = absurd cc

-- what the runtime says of a step
pub record StepSaid (input : List ℕ) (old new : Kept) (before after : List ModuleView) (turn : Turn) : Type 0 where
  pub step : (wish : ℕ) × ((fdes : List Fde) → LastsAs old.hart old.frames fdes →
      (turn, world_of new input (replies_of after)) ≡ machine.turn (image_of fdes old) wish (world_of old input (replies_of before)))
  pub modules : (fdes : List Fde) → LastsAs old.hart old.frames fdes → apart_from_replies after ≡ apart_from_replies (after_cleanups new.shown before)
  pub stays : StaysFrozen old new

without : (input : List ℕ) (old new : Kept) (before after : List ModuleView) (turn : Turn) (said : StepSaid input old new before after turn) (fdes : List Fde) → LastsAs old.hart old.frames fdes → before ≡ [] →
    ((turn, world_of new input []) ≡ machine.turn (image_of fdes old) said.step.0 (world_of old input [])) × (after ≡ [])
without input old new before after turn said fdes lasts none =
    let gone : after ≡ [] = apart_none after (said.modules fdes lasts ∙ ap (λ (b : List ModuleView). apart_from_replies (after_cleanups new.shown b)) none ∙ ap apart_from_replies (none_after new.shown)) in (
      subst (λ (a : List ModuleView). (turn, world_of new input (replies_of a)) ≡ machine.turn (image_of fdes old) said.step.0 (world_of old input [])) gone
          (subst (λ (b : List ModuleView). (turn, world_of new input (replies_of after)) ≡ machine.turn (image_of fdes old) said.step.0 (world_of old input (replies_of b))) none (said.step.1 fdes lasts)),
      gone,
    )

pub stepped : (old new : Seat) (before after : List ModuleView) (turn : Turn) → StepSaid old.input.items old.runtime new.runtime before after turn → new.end ≡ end_as turn → new.input.items ≡ old.input.items →
    new.waits ≡ old.waits → Stepped old new before after
stepped old new before after turn said end input waits = record {
  wish = said.step.0;
  turn = turn;
  step = without old.input.items old.runtime new.runtime before after turn said;
  end = end;
  input = input;
  waits = waits;
  stays = said.stays;
}
