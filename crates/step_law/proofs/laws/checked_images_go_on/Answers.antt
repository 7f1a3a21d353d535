use Rattle.step_law.proofs.Whole.{Rows}
use Rattle.step_law.proofs.Complete.{AllRows, checked_images_go_on}
use Rattle.step_law.proofs.laws.checked_images_go_on.Goals as goal

pub returns : goal.returns
returns c =
    let in_compiled : Rows = record {
      quiet = c.quiet_steps_follow.ensures;
      lines = c.lines_follow.ensures;
      bytes = c.bytes_follow.ensures;
      called = c.calls_follow.ensures;
      returned = c.returns_follow.ensures;
      mains = c.mains_follow.ensures;
      exits = c.exits_follow.ensures;
      made = c.makes_follow.ensures;
      freed = c.frees_follow.ensures;
      entered = c.enters_follow.ensures;
      crowds = c.crowds_follow.ensures;
      answers = c.answers_follow.ensures;
      aborts = c.aborts_follow.ensures;
      terminated = c.terminates_follow.ensures;
      handlers_abort = c.handlers_abort.ensures;
      thrown = c.throws_follow.ensures;
      rethrown = c.rethrows_follow.ensures;
      modules = c.modules_follow.ensures;
      left = c.leaves_follow.ensures;
      destructors = c.destructors_begin_follow.ensures;
      destructors_end = c.destructors_end_follow.ensures;
      filters = c.filters_follow.ensures;
      resumes = c.resumes_follow.ensures;
      forced = c.forced_follow.ensures;
      cancels = c.cancels_follow.ensures;
      forced_ends = c.forced_ends_follow.ensures;
      barred = c.barred_follow.ensures;
      stopped = c.unexpected_follows.ensures;
      stopped_breaks = c.unexpected_breaks.ensures;
      breaks = c.breaks_follow.ensures;
      stopped_ends = c.stopped_terminates.ensures;
      handlers_return = c.unexpected_returns.ensures;
      own_destructors_end = c.own_destructors_end_follow.ensures;
    } in
    let rows : AllRows = record {
      in_compiled = in_compiled;
      freed_flights = c.freed_flights_follow.ensures;
      freed_unwinds = c.freed_unwinds_follow.ensures;
      passed_flights = c.passed_flights_follow.ensures;
      passed_unwinds = c.passed_unwinds_follow.ensures;
      unwinds_end = c.own_unwinds_end_follow.ensures;
      unwinds_barred = c.own_barred_follow.ensures;
      checks = c.checks_follow.ensures;
      leaves = c.own_leaves_follow.ensures;
      destructors_begin = c.own_destructors_begin_follow.ensures;
    } in
    checked_images_go_on rows c.builtin_calls_fit.ensures c.checked_is_linkable.ensures c.facts_stand.ensures c.starts_stand.ensures
