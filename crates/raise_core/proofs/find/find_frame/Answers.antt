use Rattle.std.proofs.Common.{◌≡◌, ◌+◌, ◌-◌, suc, refl, sym, subst, ◌∙◌, arith}
use Rattle.std.specs.Prelude.{None}
use Rattle.rv64_isa.specs.declared.step.FaultKind.TheVariants as faults
use Rattle.frame_walk.specs.declared.frame.Walk.TheVariants as walks
use Rattle.personality.specs.Seen.{thrown_of}
use Rattle.raise_core.specs.declared.found.Found.TheVariants as founds
use Rattle.raise_core.specs.Stack.{frames_within}
use Rattle.raise_core.specs.Finds.{FindsIn}
use Rattle.raise_core.proofs.Landings.{KeepsSoFar, all_left, kept_behind, kept_here}
use Rattle.raise_core.proofs.Lookups.{entry_stands, verdict_stands}
use Rattle.raise_core.proofs.Walks.{here, outward, given_up}
use Rattle.raise_core.proofs.find.find_frame.Goals as goal

pub frames-init : goal.frames-init
frames-init c =
    let s = c.args.machine.now in let thrown = thrown_of c.args.thrown.now in let first = c.first_frame-frame.ensures in (
      λ t found finds. subst (λ f. FindsIn s t.read.fdes thrown c.args.goal (frames_within 0x1000004 s t.read.fdes f) found) first finds,
      λ t. subst (λ f. KeepsSoFar s t.read.fdes thrown None (frames_within 0x1000004 s t.read.fdes f)) (sym first) (all_left s t.read.fdes thrown),
      c.look_up-lookup.ensures.says,
    )

pub returns-then-stops-clause-frame : goal.returns-then-stops-clause-frame
returns-then-stops-clause-frame c = λ t.
    let n = 0x1000004 - c.frames.counter in let m = 0x1000004 - (c.frames.counter + 1) in
    let below = c.frames-test.true in let left : n ≡ suc m = omega (arith, below) in
    let s = c.args.machine.now in let thrown = thrown_of c.args.thrown.now in let at = c.turn_to.ensures in
    let says = at.says t (c.frames.invariant.2 t) in
    let entry = entry_stands s t.read.fdes thrown c.turn_to.new.lookup c.frames.frame at.pc at.signal says in
    let verdict = verdict_stands s t.read.fdes thrown c.turn_to.new.lookup c.frames.frame at.pc at.signal says in
    c.frames.invariant.0 t (founds.At (record { frame = c.frames.frame; verdict = c.turn_to.new.lookup.verdict; target = c.target_by.result; before = c.frames.before }))
    (here n m s t.read.fdes thrown c.args.goal c.frames.frame c.turn_to.new.lookup.verdict c.target_by.result c.frames.before left verdict (c.target_by.ensures t.read.fdes entry)
    (sym c.if-stops.true ∙ c.stops.ensures t.read.fdes entry))

pub returns-then-stops-clause-pad : goal.returns-then-stops-clause-pad
returns-then-stops-clause-pad c = λ t pad.
    let n = 0x1000004 - c.frames.counter in let m = 0x1000004 - (c.frames.counter + 1) in
    let below = c.frames-test.true in let left : n ≡ suc m = omega (arith, below) in
    let s = c.args.machine.now in let thrown = thrown_of c.args.thrown.now in let at = c.turn_to.ensures in
    let verdict = verdict_stands s t.read.fdes thrown c.turn_to.new.lookup c.frames.frame at.pc at.signal (at.says t (c.frames.invariant.2 t)) in
    kept_here n m s t.read.fdes thrown c.frames.before c.frames.frame c.turn_to.new.lookup.verdict left verdict pad (c.frames.invariant.1 t)

pub returns-in-EndOfStack-clause-frame : goal.returns-in-EndOfStack-clause-frame
returns-in-EndOfStack-clause-frame c = λ t.
    let n = 0x1000004 - c.frames.counter in let m = 0x1000004 - (c.frames.counter + 1) in
    let below = c.frames-test.true in let left : n ≡ suc m = omega (arith, below) in
    let s = c.args.machine.now in let thrown = thrown_of c.args.thrown.now in let at = c.turn_to.ensures in
    let says = at.says t (c.frames.invariant.2 t) in
    let entry = entry_stands s t.read.fdes thrown c.turn_to.new.lookup c.frames.frame at.pc at.signal says in
    let verdict = verdict_stands s t.read.fdes thrown c.turn_to.new.lookup c.frames.frame at.pc at.signal says in
    c.frames.invariant.0 t founds.EndOfStack
    (outward n m s t.read.fdes thrown c.args.goal c.frames.frame c.turn_to.new.lookup.verdict walks.EndOfStack founds.EndOfStack left verdict
    (sym c.if-stops.false ∙ c.stops.ensures t.read.fdes entry) (c.in-EndOfStack.ensures t.read.fdes entry) (refl, refl))

pub returns-in-Fault-clause-frame : goal.returns-in-Fault-clause-frame
returns-in-Fault-clause-frame c = λ t.
    let n = 0x1000004 - c.frames.counter in let m = 0x1000004 - (c.frames.counter + 1) in
    let below = c.frames-test.true in let left : n ≡ suc m = omega (arith, below) in
    let s = c.args.machine.now in let thrown = thrown_of c.args.thrown.now in let at = c.turn_to.ensures in
    let says = at.says t (c.frames.invariant.2 t) in
    let entry = entry_stands s t.read.fdes thrown c.turn_to.new.lookup c.frames.frame at.pc at.signal says in
    let verdict = verdict_stands s t.read.fdes thrown c.turn_to.new.lookup c.frames.frame at.pc at.signal says in
    c.frames.invariant.0 t (founds.Broken c.in-Fault.kind)
    (outward n m s t.read.fdes thrown c.args.goal c.frames.frame c.turn_to.new.lookup.verdict (walks.Fault c.in-Fault.kind) (founds.Broken c.in-Fault.kind) left verdict
    (sym c.if-stops.false ∙ c.stops.ensures t.read.fdes entry) (c.in-Fault.ensures t.read.fdes entry) (refl, refl))

pub frames-preserved : goal.frames-preserved
frames-preserved c =
    let n = 0x1000004 - c.frames.counter in let m = 0x1000004 - (c.frames.counter + 1) in
    let below = c.frames-test.true in let left : n ≡ suc m = omega (arith, below) in
    let s = c.args.machine.now in let thrown = thrown_of c.args.thrown.now in let at = c.turn_to.ensures in
    let lookup = c.turn_to.new.lookup in let frame = c.frames.frame in (
      λ t found finds.
          let says = at.says t (c.frames.invariant.2 t) in
          let entry = entry_stands s t.read.fdes thrown lookup frame at.pc at.signal says in
          c.frames.invariant.0 t found
          (outward n m s t.read.fdes thrown c.args.goal frame lookup.verdict (walks.Next c.in-Next.outward) found left (verdict_stands s t.read.fdes thrown lookup frame at.pc at.signal says)
          (sym c.if-stops.false ∙ c.stops.ensures t.read.fdes entry) (c.in-Next.ensures t.read.fdes entry) finds),
      λ t.
          let says = at.says t (c.frames.invariant.2 t) in
          let entry = entry_stands s t.read.fdes thrown lookup frame at.pc at.signal says in
          kept_behind n m s t.read.fdes thrown c.frames.before c.keep_first.new.kept frame lookup.verdict (walks.Next c.in-Next.outward) left
          (verdict_stands s t.read.fdes thrown lookup frame at.pc at.signal says) (c.in-Next.ensures t.read.fdes entry) c.keep_first.ensures (c.frames.invariant.1 t),
      λ t. at.says t (c.frames.invariant.2 t),
    )

pub returns-clause-frame : goal.returns-clause-frame
returns-clause-frame c = λ t.
    let n = 0x1000004 - c.frames.counter in
    let ended = c.frames-test.false in let none : n ≡ 0 = omega (arith, ended) in
    c.frames.invariant.0 t (founds.Broken faults.Walk) (given_up n c.args.machine.now t.read.fdes (thrown_of c.args.thrown.now) c.args.goal c.frames.frame none)
