use Rattle.std.proofs.Common.{◌≡◌, ◌∙◌, sym, ap, subst, map, ◌+◌, ℕ}
use Rattle.rv64_isa.specs.declared.step.Step.{Step}
use Rattle.rv64_isa.specs.State.{reg_of}
use Rattle.rv64_isa.specs.Step.{step_of}
use Rattle.raise_core.specs.Reads.{AreTables}
use Rattle.table_forms.specs.Fde.{Fde}
use Rattle.std.proofs.Common.{List}
use Rattle.cxa_runtime.specs.declared.effect.Turn.TheVariants.{On, Ended}
use Rattle.cxa_runtime.specs.declared.effect.End.TheVariants.{Fault}
use Rattle.cxa_runtime.specs.Frozen.{frozen}
use Rattle.cxa_runtime.specs.Kept.{Kept, begun_turn, image_of, replies_of, world_of}
use Rattle.cxa_runtime.specs.Call.{call_effect}
use Rattle.cxa_runtime.specs.Run.{called}
use Rattle.cxa_runtime.proofs.Stepping.{turn_done, turn_fault, turn_call}
use Rattle.cxa_runtime.proofs.runtime.Runtime.take_step.Goals as goal

pub returns-in-Done-clause-step : goal.returns-in-Done-clause-step
returns-in-Done-clause-step g c = (
  0,
  λ fdes lasts.
      let old = c.args.self.now in
      let input = c.args.input.now in
      let left = replies_of (map g.M.Module.view c.args.host.now.modules.items) in
      let w = world_of old input left in
      let s = c.execute.new.self.hart in
      let stands = c.execute.ensures.rest ∙ ap (λ (k : Kept). record k { hart = s }) c.begin_turn.ensures.turn in
      let did = ap (λ (r : Step). (r, s)) (sym c.in-Done.is) ∙ c.execute.ensures.step ∙ ap (λ (k : Kept). step_of k.hart) c.begin_turn.ensures.turn in
      let after = c.tally.ensures ∙ ap (λ (k : Kept). record k { count = k.count + 1 }) stands in
      ap (λ (k : Kept). (On, world_of k input left)) after ∙ turn_done (image_of fdes old) 0 w s did,
)

pub returns-in-Fault-clause-step : goal.returns-in-Fault-clause-step
returns-in-Fault-clause-step g c = (
  0,
  λ fdes lasts.
      let old = c.args.self.now in
      let input = c.args.input.now in
      let left = replies_of (map g.M.Module.view c.args.host.now.modules.items) in
      let w = world_of old input left in
      let s = c.execute.new.self.hart in
      let stands = c.execute.ensures.rest ∙ ap (λ (k : Kept). record k { hart = s }) c.begin_turn.ensures.turn in
      let did = ap (λ (r : Step). (r, s)) (sym c.in-Fault.is) ∙ c.execute.ensures.step ∙ ap (λ (k : Kept). step_of k.hart) c.begin_turn.ensures.turn in
      let place = c.pc-place.ensures ∙ ap (λ (k : Kept). k.hart.pc) c.begin_turn.ensures.turn in
      ap (λ (k : Kept). (Ended (Fault c.in-Fault.kind c.pc-place.result), world_of k input left)) stands
      ∙ ap (λ (p : ℕ). (Ended (Fault c.in-Fault.kind p), world_of (record (begun_turn old) { hart = s }) input left)) place
      ∙ turn_fault (image_of fdes old) 0 w s c.in-Fault.kind did,
)

pub returns-in-Ecall-clause-step : goal.returns-in-Ecall-clause-step
returns-in-Ecall-clause-step g c =
    let made = c.make_call.ensures.turn in (
      made.0,
      λ fdes lasts.
          let old = c.args.self.now in
          let input = c.args.input.now in
          let left = replies_of (map g.M.Module.view c.args.host.now.modules.items) in
          let w = world_of old input left in
          let s = c.execute.new.self.hart in
          let stands = c.execute.ensures.rest ∙ ap (λ (k : Kept). record k { hart = s }) c.begin_turn.ensures.turn in
          let did = ap (λ (r : Step). (r, s)) (sym c.in-Ecall.is) ∙ c.execute.ensures.step ∙ ap (λ (k : Kept). step_of k.hart) c.begin_turn.ensures.turn in
          let place = c.pc-place.ensures ∙ ap (λ (k : Kept). k.hart.pc) c.begin_turn.ensures.turn in
          let behind : Kept = record (begun_turn old) { hart = s } in
          let after = replies_of (map g.M.Module.view c.make_call.new.host.modules.items) in
          let here = subst (λ (k : Kept). (t : AreTables k.hart k.frames) →
          (c.make_call.result, world_of c.make_call.new.self input after) ≡ called c.pc-place.result (call_effect (reg_of k.hart.regs 17) (image_of t.read.fdes k) made.0 (world_of k input left))) stands made.1 in
          let same = c.execute.ensures.frozen ∙ ap (λ (k : Kept). frozen k.hart.memory) c.begin_turn.ensures.turn in
          let tables = lasts s same in
          here tables.0
          ∙ ap (λ (f : List Fde). called c.pc-place.result (call_effect (reg_of s.regs 17) (image_of f behind) made.0 (world_of behind input left))) tables.1
          ∙ ap (λ (p : ℕ). called p (call_effect (reg_of s.regs 17) (image_of fdes behind) made.0 (world_of behind input left))) place
          ∙ turn_call (image_of fdes old) made.0 w s did,
    )
