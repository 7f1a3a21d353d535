use Rattle.std.proofs.Common.{◌≤◌, map, sym, subst}
use Rattle.std.proofs.lemmas.List.{length-map}
use Rattle.foreign_host.specs.Host.{guests_ints}
use Rattle.eh_commands.specs.Words.{texts}
use Rattle.eh_driver.proofs.AreCompiled.{ImageLaws}
use Rattle.eh_driver.proofs.EventsHeld.{LawsOfEvents}
use Rattle.eh_driver.proofs.MeantShown.{CompilerLaws}
use Rattle.eh_driver.proofs.Promised.{promised}
use Rattle.eh_driver.proofs.RunsOn.{RunLaws}
use Rattle.eh_driver.proofs.top.ehc.Goals as goal

pub returns-clause-promise : goal.returns-clause-promise
returns-clause-promise g c =
    let few = subst (λ n. n ≤ 64) (sym (length-map c.args.modules.items (λ b. (goal.Module-dyn g (b.vtable, b.value)).view b.value))) c.requires.few in
    let events : LawsOfEvents = record { right = c.events_are_right.ensures; counted = c.allowed_events_are_counted.ensures; fronts = c.fronts_are_allowed.ensures } in
    let images : ImageLaws = record { compiled = c.checked_images_are_compiled.ensures; enough = c.checked_images_have_enough.ensures; linkable = c.checked_is_linkable.ensures; small = c.images_are_small.ensures; sizes = c.checked_images_are_small.ensures; events = events; unbound = c.kept_variables_are_unbound.ensures; saved = c.kept_registers_are_saved.ensures; frames = c.kept_frames_are_small.ensures; apart = c.harts_run_apart.ensures.alone; turns = c.harts_run_apart.ensures.few } in
    let runs : RunLaws = record { balance = c.foreign_exceptions_are_cleaned_once.ensures.runs; budgets = c.a_greater_budget_goes_on.ensures } in
    let laws : CompilerLaws = record { images = images; runs = runs; generated = c.generated_sources_are_valid.ensures.valid; packing_keeps = c.packed_images_keep_their_verdicts.ensures; packs_once = c.packed_images_pack_nothing.ensures } in
    promised laws (map (λ b. (goal.Module-dyn g (b.vtable, b.value)).view b.value) c.args.modules.items) few
    (guests_ints (λ b. (goal.Module-dyn g (b.vtable, b.value)).view b.value) (λ b. (goal.Module-dyn g (b.vtable, b.value)).ints b.value) c.args.modules.items)
    (texts c.args.words.now.items) (g.St.Store.view c.args.store.now) (g.St.Store.view c.answer.new.store) (g.Out.Sink.view c.args.out.now) (g.Out.Sink.view c.answer.new.out) c.answer.result c.answer.ensures.cause
