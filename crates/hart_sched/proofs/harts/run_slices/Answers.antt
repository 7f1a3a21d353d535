use Rattle.std.proofs.Common.{rules, ◌<◌, ◌+◌, ◌-◌, map, length, arith}
use Rattle.eh_outer.specs.Module.{ScriptView}
use Rattle.hart_sched.proofs.Scheduling.{way_first, low_at, at_slice, slice_taken, slice_failed, way_done, no_more}
use Rattle.hart_sched.proofs.harts.run_slices.Goals as goal

pub loop-slice-init : goal.loop-slice-init
loop-slice-init g c = way_first c.args.schedule.now c.args.trace c.args.seats.now.items (map (λ (m : ScriptView). m.seen) c.args.host.now.modules.items) (g.S.Sink.view c.args.sink.now) c.requires.fresh

pub index_mut-seat-requires : goal.index_mut-seat-requires
index_mut-seat-requires g c =
    let inside : c.in-Some.slice.now.0 < length c.loop-slice.seats.items =
    low_at c.in-Some.slice.now.0 c.in-Some.slice.now.1 c.in-Some.others.now c.loop-slice.invariant (c.in-Some.ensures {u = tt}).cases.0 c.requires.fits in
    search rules

pub overflow_sub-elsewhere : goal.overflow_sub-elsewhere
overflow_sub-elsewhere g c =
    let at = at_slice c.in-Some.slice.now.0 c.in-Some.slice.now.1 c.in-Some.others.now c.index_mut-seat.result.now c.loop-slice.invariant (c.in-Some.ensures {u = tt}).cases.0 c.requires.few c.requires.fits c.index_mut-seat.ensures.value in
    let held = c.live.ensures.live in
    let within = at.next.own in omega (arith, held, within)

pub take_turns-requires-clause-others : goal.take_turns-requires-clause-others
take_turns-requires-clause-others g c =
    let at = at_slice c.in-Some.slice.now.0 c.in-Some.slice.now.1 c.in-Some.others.now c.index_mut-seat.result.now c.loop-slice.invariant (c.in-Some.ensures {u = tt}).cases.0 c.requires.few c.requires.fits c.index_mut-seat.ensures.value in
    let few = at.next.few in omega (arith, few)

pub take_turns-requires-clause-turns : goal.take_turns-requires-clause-turns
take_turns-requires-clause-turns g c =
    (at_slice c.in-Some.slice.now.0 c.in-Some.slice.now.1 c.in-Some.others.now c.index_mut-seat.result.now c.loop-slice.invariant (c.in-Some.ensures {u = tt}).cases.0 c.requires.few c.requires.fits c.index_mut-seat.ensures.value).next.taken

pub take_turns-requires-clause-waits : goal.take_turns-requires-clause-waits
take_turns-requires-clause-waits g c =
    (at_slice c.in-Some.slice.now.0 c.in-Some.slice.now.1 c.in-Some.others.now c.index_mut-seat.result.now c.loop-slice.invariant (c.in-Some.ensures {u = tt}).cases.0 c.requires.few c.requires.fits c.index_mut-seat.ensures.value).next.waited

pub returns-in-Err-clause-slices : goal.returns-in-Err-clause-slices
returns-in-Err-clause-slices g c =
    let at = at_slice c.in-Some.slice.now.0 c.in-Some.slice.now.1 c.in-Some.others.now c.index_mut-seat.result.now c.loop-slice.invariant (c.in-Some.ensures {u = tt}).cases.0 c.requires.few c.requires.fits c.index_mut-seat.ensures.value in
    slice_failed c.live.result c.take_turns.new.self c.loop-slice.seats.items (map (λ (m : ScriptView). m.seen) c.take_turns.new.host.modules.items) (g.S.Sink.view c.take_turns.new.sink) c.in-Err.e at c.live.ensures.live
    c.in-Err.ensures.turns

pub overflow_add-live : goal.overflow_add-live
overflow_add-live g c =
    let at = at_slice c.in-Some.slice.now.0 c.in-Some.slice.now.1 c.in-Some.others.now c.index_mut-seat.result.now c.loop-slice.invariant (c.in-Some.ensures {u = tt}).cases.0 c.requires.few c.requires.fits c.index_mut-seat.ensures.value in
    let few = at.next.few in
    let small = c.live-in-Ok.ensures.few in
    let sum : c.loop-slice.live - c.live.result + c.live-in-Ok.result < 18446744073709551616 = omega (arith, few, small) in
    search rules

pub loop-slice-preserved : goal.loop-slice-preserved
loop-slice-preserved g c =
    let at = at_slice c.in-Some.slice.now.0 c.in-Some.slice.now.1 c.in-Some.others.now c.index_mut-seat.result.now c.loop-slice.invariant (c.in-Some.ensures {u = tt}).cases.0 c.requires.few c.requires.fits c.index_mut-seat.ensures.value in
    slice_taken c.live.result c.live-in-Ok.result c.take_turns.new.self (map (λ (m : ScriptView). m.seen) c.take_turns.new.host.modules.items) (g.S.Sink.view c.take_turns.new.sink) at c.live.ensures.live
    c.live-in-Ok.ensures.live c.live-in-Ok.ensures.few c.in-Ok.ensures.turns c.in-Ok.ensures.remains

pub returns-clause-slices : goal.returns-clause-slices
returns-clause-slices g c =
    way_done c.args.schedule.now c.loop-slice.rest.now c.args.trace c.args.seats.now.items c.loop-slice.seats.items c.loop-slice.live (map (λ (m : ScriptView). m.seen) c.args.host.now.modules.items)
    (map (λ (m : ScriptView). m.seen) c.loop-slice.host.modules.items) (g.S.Sink.view c.args.sink.now) (g.S.Sink.view c.loop-slice.sink) (no_more c.loop-slice.rest.now (c.in_default.ensures {u = tt}).cases) c.loop-slice.invariant
