-- What matches a plan matches it where more bytes are said of what is not live.
use Rattle.std.proofs.Common.{◌≡◌, ◌∙◌, sym, subst, arith, ℕ, ◌+◌, ◌^◌, ◌≤◌, ◌<◌, ◌⊎◌, true, List, []}
use Rattle.rv64_isa.specs.State.{Part}
use Rattle.rv64_isa.specs.Step.{x}
use Rattle.cxa_runtime.specs.World as abi
use Rattle.region_forms.specs.World.{Base, of_variable, of_exception, Frame, World}
use Rattle.linear_forms.specs.Activation.{State}
use Rattle.machine_forms.specs.Registers.{sp}
use Rattle.machine_forms.specs.Shape.{return_offset}
use Rattle.machine_pieces.specs.Memory.{Apart}
use Rattle.machine_pieces.specs.Saving.{AreApartFrom}
use Rattle.machine_simulation.specs.Plan.{Plan, shape}
use Rattle.machine_simulation.specs.Calls.{CallStands, CallsWait}
use Rattle.machine_simulation.specs.Exceptions.{PlanHas}
use Rattle.machine_simulation.specs.Extents.{StandApart}
use Rattle.machine_simulation.specs.Matches.{IsAway, ObjectsStand, Matches}
use Rattle.machine_simulation.specs.KeptCalls.{kept_of, KeptCalls}

abbrev pub resized : Plan → (Base → ℕ) → Plan
resized p size = record p { size = size }

module _ (p : Plan) (size : Base → ℕ) (same : (b : Base) → p.live b ≡ true → size b ≡ p.size b) (variables : (c s : ℕ) → size (of_variable c s) ≡ p.size (of_variable c s)) where
  abbrev r : Plan
  r = resized p size

  call_resized : (n : ℕ) (frame : Frame) (w : World) (memory : List Part) (stack back : ℕ) → CallStands p n frame w memory stack back → CallStands r n frame w memory stack back
  call_resized n frame w memory stack back h = record {
    known = h.known;
    small = h.small;
    above = h.above;
    below = h.below;
    holds = h.holds;
    slots = record {
      variables = h.slots.variables;
      whole = λ s less plain. let whole = h.slots.whole s less plain in let one = variables frame.call s in omega (arith, whole, one);
      aligned = h.slots.aligned;
      ints = h.slots.ints;
    };
    held = h.held;
    saved = h.saved;
    alone = λ b live. subst (λ k. Apart (p.at b) k (stack + return_offset) 8) (sym (same b live)) (h.alone b live);
    clear = λ b live old. subst (λ k. (p.at b + k ≤ 0x7000_0000) ⊎ (stack ≤ p.at b)) (sym (same b live)) (h.clear b live old);
  }

  apart_resized : (memory : List Part) → StandApart p memory → StandApart r memory
  apart_resized memory h = record {
    apart = λ a b first second other.
        subst (λ k. Apart (p.at a) k (p.at b) (size b)) (sym (same a first)) (subst (λ k. Apart (p.at a) (p.size a) (p.at b) k) (sym (same b second)) (h.apart a b first second other));
    may = λ b o n live less. let one = same b live in h.may b o n live (omega (arith, less, one));
    below = λ b live. let one = same b live in let below = h.below b live in omega (arith, below, one);
    aligned = h.aligned;
  }

  objects_resized : (v : World) (memory : List Part) → ((e : ℕ) → p.at (of_exception e) + size (of_exception e) < 2 ^ 64) → ObjectsStand p v memory → ObjectsStand r v memory
  objects_resized v memory placed h = record {
    may = h.may;
    made = h.made;
    fresh = h.fresh;
    away = λ b live none. subst (IsAway (p.at b)) (sym (same b live)) (h.away b live none);
    placed = placed;
  }

  plan_resized : (v : World) → PlanHas p v.live → PlanHas r v.live
  plan_resized v h = record { live = h.live; size = λ e live. same (of_exception e) live ∙ h.size e live; ints = h.ints }

  pub resized_matches : (st : State) (w : abi.World) → st.frames ≡ [] → ((e : ℕ) → p.at (of_exception e) + size (of_exception e) < 2 ^ 64) → Matches p st w → Matches r st w
  resized_matches st w alone placed m = record {
    number = m.number;
    back = m.back;
    runs = m.runs;
    registers = m.registers;
    pc = m.pc;
    memory = record {
      top = call_resized m.number st.top.frame st.world w.hart.memory (x w.hart sp) m.back m.memory.top;
      newest = m.memory.newest;
      waiting = subst (λ fs. CallsWait r fs st.world w.hart.memory (x w.hart sp + (shape p m.number).size) m.back st.top.frame.call) (sym alone)
          (subst (λ fs. CallsWait p fs st.world w.hart.memory (x w.hart sp + (shape p m.number).size) m.back st.top.frame.call) alone m.memory.waiting);
      apart = apart_resized w.hart.memory m.memory.apart;
      inside = λ a z live is. let h = m.memory.inside a z live is in let one = same a.base live in (omega (arith, h.0, one), h.1);
      may = m.memory.may;
      last = m.memory.last;
      fresh = m.memory.fresh;
      objects = objects_resized st.world w.hart.memory placed m.memory.objects;
      unit = record {
        few = m.memory.unit.few;
        short = m.memory.unit.short;
        frames = m.memory.unit.frames;
        registers = m.memory.unit.registers;
        stubs = m.memory.unit.stubs;
        functions = m.memory.unit.functions;
      };
    };
    kept = record {
      small = m.kept.small;
      before = m.kept.before;
      top = record {
        keeps = m.kept.top.keeps;
        saves = m.kept.top.saves;
        dead = m.kept.top.dead;
        alone = λ b live. subst (λ k. AreApartFrom (shape p m.number) (x w.hart sp) (p.at b) k (kept_of p m.number)) (sym (same b live)) (m.kept.top.alone b live);
      };
      waiting = subst (λ fs. KeptCalls r fs st.world w.hart.memory (x w.hart sp + (shape p m.number).size) m.kept.before) (sym alone) tt;
    };
    runtime = record {
      input = m.runtime.input;
      replies = m.runtime.replies;
      last_number = m.runtime.last_number;
      terminating = m.runtime.terminating;
      exceptions = m.runtime.exceptions;
      plan = plan_resized st.world m.runtime.plan;
    };
  }
