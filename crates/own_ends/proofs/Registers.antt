-- The registers of kept variables while one of the runtime's own functions runs: what they hold for the calls that wait stays.
use Rattle.std.proofs.Common.{◌≡◌, refl, sym, ap, subst, arith, ℕ, ◌+◌, ◌≤◌, List, ◌∷◌}
use Rattle.std.specs.Prelude.{◌&&◌, not, Bool, true, false}
use Rattle.rv64_isa.specs.State.{State, Part}
use Rattle.rv64_isa.specs.Step.{x}
use Rattle.region_forms.specs.World.{Base, of_variable, World}
use Rattle.linear_forms.specs.Stub.{Function}
use Rattle.linear_forms.specs.Activation.{Activation}
use Rattle.machine_forms.specs.Registers.{sp}
use Rattle.machine_forms.specs.Shape.{slot_offset}
use Rattle.machine_pieces.specs.Keeping.{saved_of}
use Rattle.machine_stubs.specs.Stretches.{frame_size, Beside}
use Rattle.machine_simulation.specs.Plan.{Plan, function, shape}
use Rattle.machine_simulation.specs.KeptCalls.{KeptCalls, RegistersMatch}
use Rattle.machine_simulation.specs.Objects.{is_object, without_object}
use Rattle.machine_simulation.proofs.KeptSlots.{kept_slot}
use Rattle.machine_simulation.proofs.KeptCalls.{behind_call, kept_alone, kept_calls_still}
use Rattle.machine_simulation.proofs.Closing.{live_before}
use Rattle.machine_simulation.proofs.Freeing.{IsFree}
use Rattle.stub_landings.specs.Rests.{StubMemory, StubRegisters}
use Rattle.own_ends.specs.Callers.{CalledBy}
use Rattle.own_ends.proofs.Memory.{stub_alike}

-- bytes below the calls that wait have changed
pub registers_below : (p : Plan) (f : Function) (fs : List Activation) (v : World) (old new : List Part) (stack back a k : ℕ) (regs : List ℕ) → StubMemory p f fs v old stack back → IsFree (stack + frame_size f) a k → Beside a k old new →
    StubRegisters p f fs v old stack regs → StubRegisters p f fs v new stack regs
registers_below p f fs v old new stack back a k regs h free beside r =
    let low : ℕ = stack + frame_size f in record {
      small = r.small;
      waiting = kept_calls_still p p.at p.size p.live p.ints v v old new low fs low back v.calls regs (omega arith)
          (λ m g place home rs before above less st one. record {
            ints = λ s q is. refl;
            saved = λ s q b is held. record {
              aligned = held.aligned;
              below = held.below;
              holds = beside.others (place + slot_offset (shape p m) s) 8 b (λ i j hi hj e. omega (arith, free.high, above, hi, hj, e)) held.holds;
            };
            dead = one.dead;
            alone = λ b s q live is. let e = kept_slot (function p m) s q is in kept_alone p m g v old place rs before b s q one live is e.place e.slot_is;
          }) h.waiting r.waiting;
    }

-- in a world with the same ints
pub registers_alike : (p : Plan) (f : Function) (fs : List Activation) (v u : World) (memory : List Part) (stack back : ℕ) (regs : List ℕ) → u.memory ≡ v.memory → StubMemory p f fs v memory stack back → StubRegisters p f fs v memory stack regs →
    StubRegisters p f fs u memory stack regs
registers_alike p f fs v u memory stack back regs ints h r =
    let low : ℕ = stack + frame_size f in record {
      small = r.small;
      waiting = kept_calls_still p p.at p.size p.live p.ints v u memory memory low fs low back v.calls regs (omega arith)
          (λ m g place home rs before above less st one. record {
            ints = λ s q is. ap (λ w. w (record { base = of_variable g.call s; offset = 0 })) ints;
            saved = λ s q b is held. held;
            dead = one.dead;
            alone = λ b s q live is. let e = kept_slot (function p m) s q is in kept_alone p m g v memory place rs before b s q one live is e.place e.slot_is;
          }) h.waiting r.waiting;
    }

-- what is dead stays so where something is over
dead_still : (a b : Bool) → a ≡ false → (a && not b) ≡ false
dead_still true b e = absurd (cc e)
dead_still false b e = refl

-- where an exception is given back
pub registers_without : (p : Plan) (f : Function) (fs : List Activation) (v : World) (memory : List Part) (stack back e : ℕ) (regs : List ℕ) → StubMemory p f fs v memory stack back → StubRegisters p f fs v memory stack regs →
    StubRegisters (without_object p e) f fs v memory stack regs
registers_without p f fs v memory stack back e regs h r =
    let low : ℕ = stack + frame_size f in
    let over : Base → Bool = is_object e in record {
      small = r.small;
      waiting = kept_calls_still p p.at p.size (λ b. p.live b && not (over b)) p.ints v v memory memory low fs low back v.calls regs (omega arith)
          (λ m g place home rs before above less st one. record {
            ints = λ s q is. refl;
            saved = λ s q b is held. held;
            dead = λ s q is. dead_still (p.live (of_variable g.call s)) (over (of_variable g.call s)) (one.dead s q is);
            alone = λ b s q live is. let k = kept_slot (function p m) s q is in kept_alone p m g v memory place rs before b s q one (live_before p over b live).0 is k.place k.slot_is;
          }) h.waiting r.waiting;
    }

-- and in a world with the same ints
pub registers_gone : (p : Plan) (f : Function) (fs : List Activation) (v u : World) (memory : List Part) (stack back e : ℕ) (regs : List ℕ) → u.memory ≡ v.memory → u.calls ≡ v.calls → v.last_number ≤ u.last_number → StubMemory p f fs v memory stack back →
    StubRegisters p f fs v memory stack regs → StubRegisters (without_object p e) f fs u memory stack regs
registers_gone p f fs v u memory stack back e regs ints calls later h r =
    registers_without p f fs u memory stack back e regs (stub_alike p f fs v u memory stack back ints calls later h) (registers_alike p f fs v u memory stack back regs ints h r)

-- what they hold for the compiled function that called it
pub caller_registers : (p : Plan) (f : Function) (fs : List Activation) (v : World) (memory : List Part) (stack : ℕ) (regs : List ℕ) → StubRegisters p f fs v memory stack regs → (c : CalledBy fs) →
    RegistersMatch p c.number c.caller.frame c.others v memory (stack + frame_size f) regs
caller_registers p f fs v memory stack regs r c =
    let high : ℕ = stack + frame_size f in
    let calls : KeptCalls p (c.caller ∷ c.others) v memory high regs = subst (λ gs. KeptCalls p gs v memory high regs) c.frames r.waiting in
    let k = behind_call p c.caller.frame v memory high regs (λ next others. KeptCalls p c.others v memory next others) c.caller.function c.number c.is calls in
    record { small = r.small; before = k.0; top = k.1; waiting = k.2 }

-- in a hart
pub registers_at : (p : Plan) (f : Function) (fs : List Activation) (v : World) (memory : List Part) (stack : ℕ) (regs : List ℕ) (t : State) → t.memory ≡ memory → x t sp ≡ stack → saved_of t ≡ regs → StubRegisters p f fs v memory stack regs →
    StubRegisters p f fs v t.memory (x t sp) (saved_of t)
registers_at p f fs v memory stack regs t same at saved h =
    subst (λ ps. StubRegisters p f fs v ps (x t sp) (saved_of t)) (sym same) (subst (λ a. StubRegisters p f fs v memory a (saved_of t)) (sym at) (subst (λ rs. StubRegisters p f fs v memory stack rs) (sym saved) h))
