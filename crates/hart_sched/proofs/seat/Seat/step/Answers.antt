use Rattle.std.proofs.Common.{refl, map, Some}
use Rattle.eh_outer.specs.Module.{ScriptView}
use Rattle.cxa_runtime.specs.declared.effect.Turn.TheVariants.{On, Ended}
use Rattle.hart_sched.specs.declared.seat.Seat.{Seat}
use Rattle.hart_sched.proofs.Seating.{stepped}
use Rattle.hart_sched.proofs.seat.Seat.step.Goals as goal

pub returns-in-Ended : goal.returns-in-Ended
returns-in-Ended c =
    let t = rw c.as_slice.ensures.value at c.in-Ended.ensures in
    let new : Seat = record { runtime = c.take_step.new.self; input = c.args.self.now.input; end = Some c.in-Ended.end; waits = c.args.self.now.waits } in
    stepped c.args.self.now new (map (λ (m : ScriptView). m.seen) c.args.host.now.modules.items) (map (λ (m : ScriptView). m.seen) c.take_step.new.host.modules.items) (Ended c.in-Ended.end)
    (record { step = t.step; modules = t.modules; stays = t.stays }) refl refl refl

pub returns-in-On : goal.returns-in-On
returns-in-On c =
    let t = rw c.as_slice.ensures.value at c.in-On.ensures in
    let new : Seat = record { runtime = c.take_step.new.self; input = c.args.self.now.input; end = c.args.self.now.end; waits = c.args.self.now.waits } in
    stepped c.args.self.now new (map (λ (m : ScriptView). m.seen) c.args.host.now.modules.items) (map (λ (m : ScriptView). m.seen) c.take_step.new.host.modules.items) On
    (record { step = t.step; modules = t.modules; stays = t.stays }) c.requires.goes_on refl refl
