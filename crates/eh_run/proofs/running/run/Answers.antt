use Rattle.std.proofs.Common.{◌≡◌, sym, subst, ℕ, map, arith}
use Rattle.cxa_runtime.specs.declared.effect.End.TheVariants as ends
use Rattle.eh_run.specs.Program.{Program}
use Rattle.eh_run.specs.Runs.{RunsBy, RunsToEnd}
use Rattle.eh_run.proofs.Going.{Going, going_first, going_next, going_ends, going_stops, never_budget}
use Rattle.eh_run.proofs.running.run.Goals as goal

pub loop-count-init : goal.loop-count-init
loop-count-init g c =
    let modules = map g.M.Module.view c.args.host.now.modules.items in
    let sink = g.S.Sink.view c.args.sink.now in
    let runtime = c.loaded.inside.runtime in
    subst (λ (p : Program). Going p c.args.input.now c.args.trace modules sink 0 runtime modules sink) c.loaded.view_is
    (going_first runtime c.loaded.inside.frame_header c.args.input.now c.args.trace modules sink c.loaded.invariant)

pub loop-count-preserved : goal.loop-count-preserved
loop-count-preserved g c =
    let t = c.in-On.ensures {u = tt} in
    going_next c.args.loaded c.args.input.now c.args.trace (map g.M.Module.view c.args.host.now.modules.items) (g.S.Sink.view c.args.sink.now) c.loop-count.count
    c.loop-count.runtime c.turn.new.self (map g.M.Module.view c.loop-count.host.modules.items) (map g.M.Module.view c.turn.new.host.modules.items)
    (g.S.Sink.view c.loop-count.sink) (g.S.Sink.view c.turn.new.sink) c.loop-count.invariant
    (record { step = t.step; writes = t.writes; stays = t.stays; cleans = t.modules })

pub returns-in-Ended-clause-runs : goal.returns-in-Ended-clause-runs
returns-in-Ended-clause-runs g c =
    let t = c.in-Ended.ensures {u = tt} in
    let before = map g.M.Module.view c.args.host.now.modules.items in
    let after = map g.M.Module.view c.turn.new.host.modules.items in
    let first = g.S.Sink.view c.args.sink.now in
    let last = g.S.Sink.view c.turn.new.sink in
    let end = c.in-Ended.end in
    subst (λ (n : ℕ). RunsBy end c.args.loaded c.args.input.now c.args.max c.args.trace before after first last (record { end = end; count = n })) (sym c.steps_at.ensures.steps)
    (going_ends c.args.loaded c.args.input.now c.args.trace before first c.loop-count.count c.args.max c.loop-count.runtime c.turn.new.self
    (map g.M.Module.view c.loop-count.host.modules.items) after (g.S.Sink.view c.loop-count.sink) last end c.loop-count.invariant c.loop-count-test.true
    (record { step = t.step; writes = t.writes; stays = t.stays; cleans = t.modules }))

pub returns-in-Ended-clause-budget : goal.returns-in-Ended-clause-budget
returns-in-Ended-clause-budget g c = λ is.
    let t = c.in-Ended.ensures {u = tt} in
    absurd (never_budget c.args.loaded c.args.input.now c.args.trace (map g.M.Module.view c.args.host.now.modules.items) (g.S.Sink.view c.args.sink.now) c.loop-count.count
    c.loop-count.runtime c.turn.new.self (map g.M.Module.view c.loop-count.host.modules.items) (map g.M.Module.view c.turn.new.host.modules.items)
    (g.S.Sink.view c.loop-count.sink) (g.S.Sink.view c.turn.new.sink) c.in-Ended.end is c.loop-count.invariant
    (record { step = t.step; writes = t.writes; stays = t.stays; cleans = t.modules }))

pub returns-clause-runs : goal.returns-clause-runs
returns-clause-runs g c =
    let before = map g.M.Module.view c.args.host.now.modules.items in
    let after = map g.M.Module.view c.loop-count.host.modules.items in
    let first = g.S.Sink.view c.args.sink.now in
    let last = g.S.Sink.view c.loop-count.sink in
    let all : c.loop-count.count ≡ c.args.max = omega arith in
    subst (λ (n : ℕ). RunsToEnd c.args.loaded c.args.input.now n c.args.trace before after first last (record { end = ends.Budget; count = n })) all
    (going_stops c.args.loaded c.args.input.now c.args.trace before first c.loop-count.count c.loop-count.runtime after last c.loop-count.invariant)
