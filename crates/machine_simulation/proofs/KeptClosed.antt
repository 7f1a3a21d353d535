-- What registers hold where some of what was live is over, and where a call is the newest again.
use Rattle.std.proofs.Common.{◌≡◌, refl, arith, ℕ, ◌+◌, List, length}
use Rattle.std.specs.Prelude.{◌&&◌, not, Bool, true, false}
use Rattle.rv64_isa.specs.State.{Part}
use Rattle.region_forms.specs.World.{Base, of_variable, Frame, World}
use Rattle.linear_forms.specs.Activation.{Activation}
use Rattle.machine_forms.proofs.Chosen.{variables_are_kept}
use Rattle.machine_pieces.specs.Keeping.{AreSmall}
use Rattle.machine_pieces.proofs.Outward.{registers_are_saved}
use Rattle.machine_simulation.specs.Plan.{Plan, function, shape, narrowed}
use Rattle.machine_simulation.specs.Extents.{newer}
use Rattle.machine_simulation.specs.Calls.{CallsWait}
use Rattle.machine_simulation.specs.KeptCalls.{kept_of, KeptCall, KeptCalls, RegistersMatch}
use Rattle.machine_simulation.specs.Matches.{MemoryMatches}
use Rattle.machine_simulation.specs.Returns.{closed}
use Rattle.machine_simulation.proofs.KeptSlots.{kept_slot}
use Rattle.machine_simulation.proofs.KeptCalls.{KeptStays, kept_alone, kept_still, kept_calls_still}
use Rattle.machine_simulation.proofs.KeptStores.{registers_still}
use Rattle.machine_simulation.proofs.Closing.{live_before}

dead_still : (a b : Bool) → a ≡ false → (a && not b) ≡ false
dead_still true b e = absurd (cc e)
dead_still false b e = refl

stays_narrowed : (p : Plan) (over : Base → Bool) (n : ℕ) (frame : Frame) (v : World) (memory : List Part) (stack : ℕ) (regs before : List ℕ) → KeptCall p n frame v memory stack regs before →
    KeptStays p p.at p.size (λ b. p.live b && not (over b)) n frame.call v v memory memory stack
stays_narrowed p over n frame v memory stack regs before h = record {
  ints = λ s r is. refl;
  saved = λ s r b is held. held;
  dead = λ s r is. dead_still (p.live (of_variable frame.call s)) (over (of_variable frame.call s)) (h.dead s r is);
  alone = λ b s r live is. let k = kept_slot (function p n) s r is in kept_alone p n frame v memory stack regs before b s r h (live_before p over b live).0 is k.place k.slot_is;
}

-- something is over, and no call
pub registers_narrowed : (p : Plan) (over : Base → Bool) (n : ℕ) (frame : Frame) (fs : List Activation) (v : World) (memory : List Part) (stack back : ℕ) (regs : List ℕ) → MemoryMatches p n frame fs v memory stack back →
    RegistersMatch p n frame fs v memory stack regs → RegistersMatch (narrowed p over) n frame fs v memory stack regs
registers_narrowed p over n frame fs v memory stack back regs h r =
    registers_still p p.at p.size (λ b. p.live b && not (over b)) p.ints n frame frame fs v v memory memory stack back regs refl h
    (λ m f place home rs before above le st one. stays_narrowed p over m f v memory place rs before one) r

-- what registers hold outward of a call are numbers of 64 bits
pub before_small : (p : Plan) (n : ℕ) (frame : Frame) (v : World) (memory : List Part) (stack : ℕ) (regs before : List ℕ) → KeptCall p n frame v memory stack regs before → AreSmall regs → length regs ≡ 10 →
    AreSmall before × (length before ≡ 10)
before_small p n frame v memory stack regs before h small ten = registers_are_saved.outward (shape p n) (kept_of p n) memory stack regs before (variables_are_kept (function p n)).few h.saves small ten

-- a call that waits is the newest again
pub registers_popped : (p : Plan) (m : ℕ) (frame : Frame) (fs : List Activation) (v : World) (memory : List Part) (high back : ℕ) (regs before : List ℕ) → AreSmall regs → KeptCall p m frame v memory high regs before →
    CallsWait p fs v memory (high + (shape p m).size) back frame.call → KeptCalls p fs v memory (high + (shape p m).size) before → RegistersMatch (closed p frame.call) m frame fs v memory high regs
registers_popped p m frame fs v memory high back regs before small top waits waiting =
    let over : Base → Bool = newer frame.call in record {
      small = small;
      before = before;
      top = kept_still p p.at p.size (λ b. p.live b && not (over b)) p.ints m frame v v memory memory high regs before (stays_narrowed p over m frame v memory high regs before top) top;
      waiting = kept_calls_still p p.at p.size (λ b. p.live b && not (over b)) p.ints v v memory memory high fs (high + (shape p m).size) back frame.call before (omega arith)
          (λ k f place home rs bs above less st one. stays_narrowed p over k f v memory place rs bs one) waits waiting;
    }
