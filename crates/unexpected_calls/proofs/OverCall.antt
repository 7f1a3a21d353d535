-- call_unexpected above the compiled call whose specification stopped an exception: memory is that of this call, with another frame below it.
use Rattle.std.proofs.Common.{◌≡◌, sym, ap, subst, arith, ℕ, ◌+◌, ◌≤◌, false, ℤ, List, ◌∷◌, Some, None, inl}
use Rattle.rv64_isa.specs.State.{Part, State}
use Rattle.rv64_isa.specs.Step.{x}
use Rattle.machine_forms.specs.Registers.{sp}
use Rattle.region_forms.specs.World.{World}
use Rattle.linear_forms.specs.Stub.{compiled, call_unexpected}
use Rattle.linear_forms.specs.Activation.{Activation}
use Rattle.flight_homes.specs.Nest.{number_of_call, newest_call}
use Rattle.machine_forms.specs.Shape.{return_offset}
use Rattle.machine_pieces.specs.Memory.{Apart}
use Rattle.machine_pieces.specs.Numbers.{int_bits}
use Rattle.machine_pieces.specs.Frames.{IntAt, AddressAt}
use Rattle.machine_stubs.specs.Stretches.{Beside}
use Rattle.machine_simulation.specs.Plan.{Plan}
use Rattle.machine_simulation.specs.Extents.{newer}
use Rattle.machine_simulation.specs.StubCalls.{StubStands}
use Rattle.machine_simulation.specs.Calls.{Waits}
use Rattle.machine_simulation.specs.Matches.{MemoryMatches}
use Rattle.machine_simulation.proofs.Lines.{matches_alike, registers_alike}
use Rattle.machine_simulation.proofs.Freeing.{beside_matches, registers_beside, IsFree}
use Rattle.machine_simulation.proofs.Returning.{call_waits}
use Rattle.stub_landings.specs.Rests.{StubMemory, StubRegisters}
use Rattle.machine_pieces.specs.Keeping.{saved_of}
use Rattle.machine_simulation.specs.KeptCalls.{RegistersMatch, KeptCalls}
use Rattle.machine_simulation.proofs.KeptCalls.{behind_call, call_behind}

-- ---- what is beside some bytes

pub int_beside : (old new : List Part) (low size a : ℕ) (z : ℤ) → Beside low size old new → Apart low size a 4 → IntAt old a z → IntAt new a z
int_beside old new low size a z b out h = record { int = h.int; aligned = h.aligned; below = h.below; holds = b.others a 4 (int_bits z) out h.holds }

pub address_beside : (old new : List Part) (low size a c : ℕ) → Beside low size old new → Apart low size a 8 → AddressAt old a c → AddressAt new a c
address_beside old new low size a c b out h = record { aligned = h.aligned; below = h.below; holds = b.others a 8 c out h.holds }

-- ---- the call below

-- the frame of call_unexpected begins at `stack` and returns to `back`, into the call of a compiled function that is the next below it
pub record OverCall (p : Plan) (n : ℕ) (a : Activation) (fs : List Activation) (v : World) (memory : List Part) (stack back : ℕ) (regs : List ℕ) : Type 0 where
  pub stands : StubStands p call_unexpected memory stack back
  pub outer : ℕ
  pub matches : MemoryMatches p n a.frame fs v memory (stack + 80) outer
  pub waits : Waits p n a v memory (stack + 80) back outer
  pub registers : RegistersMatch p n a.frame fs v memory (stack + 80) regs

newest_is : (n : ℕ) (a : Activation) (fs : List Activation) → a.function ≡ compiled n → newest_call (a ∷ fs) ≡ a.frame.call
newest_is n a fs callee = ap (λ f. elim (number_of_call f a.frame.call) [ None ↦ newest_call fs | Some c ↦ c ]) callee

pub over_call : (p : Plan) (n : ℕ) (a : Activation) (fs : List Activation) (v : World) (memory : List Part) (stack back : ℕ) (regs : List ℕ) → a.function ≡ compiled n → StubMemory p call_unexpected (a ∷ fs) v memory stack back →
    StubRegisters p call_unexpected (a ∷ fs) v memory stack regs → OverCall p n a fs v memory stack back regs
over_call p n a fs v memory stack back regs callee h r =
    let k = behind_call p a.frame v memory (stack + 80) regs (λ next others. KeptCalls p fs v memory next others) a.function n callee r.waiting in
    let c = call_waits p n a fs v memory (stack + 80) back v.calls callee h.waiting in
    record {
      stands = h.stands;
      outer = c.outer;
      matches = record {
        top = c.waits.stands;
        newest = c.less;
        waiting = c.rest;
        apart = h.apart;
        inside = h.inside;
        may = h.may;
        last = λ b live. subst (λ k. newer k b ≡ false) (newest_is n a fs callee) (h.last b live);
        fresh = h.fresh;
        objects = h.objects;
        unit = h.unit;
      };
      waits = c.waits;
      registers = record { small = r.small; before = k.0; top = k.1; waiting = k.2 };
    }

-- and back
pub over_stub : (p : Plan) (n : ℕ) (a : Activation) (fs : List Activation) (v : World) (memory : List Part) (stack back : ℕ) (regs : List ℕ) → a.function ≡ compiled n → OverCall p n a fs v memory stack back regs →
    StubMemory p call_unexpected (a ∷ fs) v memory stack back
over_stub p n a fs v memory stack back regs callee h =
    let m = h.matches in
    record {
      stands = h.stands;
      waiting = inl (m.newest, n, h.outer, h.waits, m.waiting);
      apart = m.apart;
      inside = m.inside;
      may = m.may;
      last = λ b live. subst (λ k. newer k b ≡ false) (sym (newest_is n a fs callee)) (m.last b live);
      fresh = m.fresh;
      objects = m.objects;
      unit = m.unit;
    }

pub over_registers : (p : Plan) (n : ℕ) (a : Activation) (fs : List Activation) (v : World) (memory : List Part) (stack back : ℕ) (regs : List ℕ) → a.function ≡ compiled n → OverCall p n a fs v memory stack back regs →
    StubRegisters p call_unexpected (a ∷ fs) v memory stack regs
over_registers p n a fs v memory stack back regs callee h =
    let r = h.registers in record { small = r.small; waiting = call_behind p a.frame v memory (stack + 80) regs (λ next others. KeptCalls p fs v memory next others) a.function n callee (r.before, r.top, r.waiting) }

-- in a hart
pub over_at : (p : Plan) (n : ℕ) (a : Activation) (fs : List Activation) (v : World) (memory : List Part) (stack back : ℕ) (regs : List ℕ) (t : State) → t.memory ≡ memory → x t sp ≡ stack → saved_of t ≡ regs → OverCall p n a fs v memory stack back regs →
    OverCall p n a fs v t.memory (x t sp) back (saved_of t)
over_at p n a fs v memory stack back regs t same at saved h =
    subst (λ ps. OverCall p n a fs v ps (x t sp) back (saved_of t)) (sym same) (subst (λ k. OverCall p n a fs v memory k back (saved_of t)) (sym at) (subst (λ rs. OverCall p n a fs v memory stack back rs) (sym saved) h))

-- the same call waits, with other memory or in another world
waits_with : (p : Plan) (n : ℕ) (a : Activation) (fs : List Activation) (v u : World) (old new : List Part) (stack back outer : ℕ) → Waits p n a v old stack back outer → MemoryMatches p n a.frame fs u new stack outer → Waits p n a u new stack back outer
waits_with p n a fs v u old new stack back outer w m = record { callee = w.callee; op = w.op; there = w.there; calls = w.calls; front = w.front; is = w.is; returns = w.returns; stands = m.top }

-- bytes of its frame have changed, but not the return address
pub over_beside : (p : Plan) (n : ℕ) (a : Activation) (fs : List Activation) (v : World) (old new : List Part) (stack back low size : ℕ) (regs : List ℕ) → OverCall p n a fs v old stack back regs → stack + 16 ≤ low → low + size ≤ stack + 80 →
    Beside low size old new → OverCall p n a fs v new stack back regs
over_beside p n a fs v old new stack back low size regs h from to beside =
    let floor = h.stands.above in
    let free : IsFree (stack + 80) low size = record { low = omega (arith, from, floor); high = to } in
    let m = beside_matches p n a.frame fs v old new (stack + 80) h.outer low size h.matches free beside in
    record {
      stands = record {
        above = h.stands.above;
        below = h.stands.below;
        saved = address_beside old new low size (stack + return_offset) back beside (λ i j hi hj q. omega (arith, from, hi, hj, q)) h.stands.saved;
        alone = h.stands.alone;
      };
      outer = h.outer;
      matches = m;
      waits = waits_with p n a fs v v old new (stack + 80) back h.outer h.waits m;
      registers = registers_beside p n a.frame fs v old new (stack + 80) h.outer low size regs h.matches free beside h.registers;
    }

-- in a world with the same ints and calls
pub over_alike : (p : Plan) (n : ℕ) (a : Activation) (fs : List Activation) (v u : World) (memory : List Part) (stack back : ℕ) (regs : List ℕ) → u.memory ≡ v.memory → u.calls ≡ v.calls → v.last_number ≤ u.last_number →
    OverCall p n a fs v memory stack back regs → OverCall p n a fs u memory stack back regs
over_alike p n a fs v u memory stack back regs ints calls later h =
    let m = matches_alike p n a.frame fs v u memory (stack + 80) h.outer ints calls later h.matches in
    record {
      stands = h.stands;
      outer = h.outer;
      matches = m;
      waits = waits_with p n a fs v u memory memory (stack + 80) back h.outer h.waits m;
      registers = registers_alike p n a.frame fs v u memory (stack + 80) h.outer regs ints h.matches h.registers;
    }
