use Rattle.std.proofs.Common.{◌≡◌, ◌∙◌, ap, subst, List, [], map}
use Rattle.std.specs.Prelude.{Err}
use Rattle.eh_outer.specs.Module.{ScriptView}
use Rattle.hart_sched.specs.declared.seat.Seat.{Seat}
use Rattle.hart_sched.specs.Turns.{HasSlices}
use Rattle.hart_sched.specs.Whole.{RunsAll}
use Rattle.hart_sched.proofs.Whole.{run_fails, run_ends}
use Rattle.hart_sched.proofs.harts.Harts.run.Goals.{in-Err, in-Ok}
use Rattle.hart_sched.proofs.harts.Harts.run.Goals as goal

pub returns : goal.returns
returns g c =
    let before = map (λ (m : ScriptView). m.seen) c.new-host.result.modules.items in
    let after = map (λ (m : ScriptView). m.seen) c.run_slices-ran.new.host.modules.items in
    let none : before ≡ [] = ap (λ v. map (λ (m : ScriptView). m.seen) v.items) c.new-host.ensures ∙ ap (map (λ (m : ScriptView). m.seen)) c.new.ensures.items in
    let slices = c.args.schedule.now.items in
    let new = c.run_slices-ran.new.seats.items in
    let first = c.self.inside.seats.items in
    let sink = g.S.Sink.view c.args.sink.now in
    let mid = g.S.Sink.view c.run_slices-ran.new.sink in
    subst (λ (old : List Seat). RunsAll slices c.args.trace old new sink (g.S.Sink.view c.match-ran.sink) c.match-ran.result) c.self.view_is
    (elim c.match-ran.branch [
      | in-Err w ↦
          let has : HasSlices slices c.args.trace first new before after sink mid (Err w.in-Err.e) = rw c.as_slice.ensures.value at w.in-Err.ensures.slices in
          rw (w.sink-is, w.result-is) (run_fails slices c.args.trace first new before after sink mid w.in-Err.e none has)
      | in-Ok w ↦
          let has = rw c.as_slice.ensures.value at w.in-Ok.ensures.slices in
          let puts = rw w.as_slice-in-Ok.ensures.value at w.put_budgets.ensures in
          rw (w.sink-is, w.result-is) (run_ends slices c.args.trace first new before after sink mid (g.S.Sink.view w.put_budgets.new.sink) w.put_budgets.result none has puts)
    ])
