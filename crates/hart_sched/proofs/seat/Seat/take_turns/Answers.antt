use Rattle.std.proofs.Common.{rules, ◌≡◌, ◌<◌, ◌≤◌, ◌+◌, ◌-◌, ap, ℕ, map, true, false}
use Rattle.std.specs.Prelude.{is_some}
use Rattle.eh_outer.specs.Module.{ScriptView}
use Rattle.hart_sched.specs.declared.seat.Seat.{Seat}
use Rattle.hart_sched.specs.Hart.{has_to_wait, live_of}
use Rattle.hart_sched.specs.Seats.{hart_of}
use Rattle.hart_sched.proofs.Slices.{so_far_first, so_far_next, slice_fails, slice_ended, slice_waits, some_end, none_end}
use Rattle.hart_sched.proofs.seat.Seat.take_turns.Goals as goal

pub loop-taken-init : goal.loop-taken-init
loop-taken-init g c =
    so_far_first c.args.number c.args.trace c.args.others c.args.self.now (map (λ (m : ScriptView). m.seen) c.args.host.now.modules.items) (g.S.Sink.view c.args.sink.now)

pub returns-then-has_ended-clause-turns : goal.returns-then-has_ended-clause-turns
returns-then-has_ended-clause-turns g c =
    let ended : is_some c.loop-taken.self.end ≡ true = search rules in
    let less : c.loop-taken.taken ≤ c.args.turns = search rules in
    let end = some_end c.loop-taken.self.end ended in
    (slice_ended c.args.number c.loop-taken.taken c.args.turns c.args.trace c.args.others c.args.self.now c.loop-taken.self (map (λ (m : ScriptView). m.seen) c.args.host.now.modules.items)
    (map (λ (m : ScriptView). m.seen) c.loop-taken.host.modules.items) (g.S.Sink.view c.args.sink.now) (g.S.Sink.view c.loop-taken.sink) end.0 less c.loop-taken.invariant end.1).has

pub returns-then-has_to_wait-clause-turns : goal.returns-then-has_to_wait-clause-turns
returns-then-has_to_wait-clause-turns g c =
    let goes_on : is_some c.loop-taken.self.end ≡ false = search rules in
    let less : c.loop-taken.taken ≤ c.args.turns = search rules in
    let wait : has_to_wait (c.args.others + live_of (hart_of c.loop-taken.self)) (hart_of c.loop-taken.self).world ≡ true = search rules in
    let last : Seat = record c.loop-taken.self { waits = c.loop-taken.self.waits + c.from.result } in
    let left : c.from.result ≡ c.args.turns - c.loop-taken.taken = search rules in
    (slice_waits c.args.number c.loop-taken.taken c.args.turns c.args.trace c.args.others c.args.self.now c.loop-taken.self last (map (λ (m : ScriptView). m.seen) c.args.host.now.modules.items)
    (map (λ (m : ScriptView). m.seen) c.loop-taken.host.modules.items) (g.S.Sink.view c.args.sink.now) (g.S.Sink.view c.loop-taken.sink) less c.loop-taken.invariant (none_end c.loop-taken.self.end goes_on) wait
    (ap (λ (n : ℕ). record c.loop-taken.self { waits = c.loop-taken.self.waits + n }) left)).has

pub returns-in-Err-clause-turns : goal.returns-in-Err-clause-turns
returns-in-Err-clause-turns g c =
    let goes_on : is_some c.loop-taken.self.end ≡ false = search rules in
    let less : c.loop-taken.taken < c.args.turns = search rules in
    let free : has_to_wait (c.args.others + live_of (hart_of c.loop-taken.self)) (hart_of c.loop-taken.self).world ≡ false = search rules in
    slice_fails c.args.number c.loop-taken.taken c.args.turns c.args.trace c.args.others c.args.self.now c.loop-taken.self c.step.new.self (map (λ (m : ScriptView). m.seen) c.args.host.now.modules.items)
    (map (λ (m : ScriptView). m.seen) c.loop-taken.host.modules.items) (map (λ (m : ScriptView). m.seen) c.step.new.host.modules.items) (g.S.Sink.view c.args.sink.now) (g.S.Sink.view c.loop-taken.sink)
    (g.S.Sink.view c.tell.new.sink) c.in-Err.e less c.loop-taken.invariant (none_end c.loop-taken.self.end goes_on) free c.step.ensures c.in-Err.ensures

pub loop-taken-preserved : goal.loop-taken-preserved
loop-taken-preserved g c =
    let goes_on : is_some c.loop-taken.self.end ≡ false = search rules in
    let free : has_to_wait (c.args.others + live_of (hart_of c.loop-taken.self)) (hart_of c.loop-taken.self).world ≡ false = search rules in
    so_far_next c.args.number c.loop-taken.taken c.args.trace c.args.others c.args.self.now c.loop-taken.self c.step.new.self (map (λ (m : ScriptView). m.seen) c.args.host.now.modules.items)
    (map (λ (m : ScriptView). m.seen) c.loop-taken.host.modules.items) (map (λ (m : ScriptView). m.seen) c.step.new.host.modules.items) (g.S.Sink.view c.args.sink.now) (g.S.Sink.view c.loop-taken.sink)
    (g.S.Sink.view c.tell.new.sink) c.loop-taken.invariant (none_end c.loop-taken.self.end goes_on) free c.step.ensures c.in-Ok.ensures
