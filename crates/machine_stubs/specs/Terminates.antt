-- A runtime call that terminates, from its ECALL on.
use Rattle.std.specs.Prelude.{◌≡◌, ◌≢◌, ℕ, ◌-◌, ◌%◌, ◌^◌, ◌<◌, ◌≤◌, true, false, length}
use Rattle.rv64_isa.specs.declared.step.Step.TheVariants.{Ecall}
use Rattle.rv64_isa.specs.State.{State}
use Rattle.rv64_isa.specs.Step.{step_of, x}
use Rattle.eh_bytes.specs.declared.unit.RuntimeRecord.{RuntimeRecord}
use Rattle.cxa_runtime.specs.declared.effect.End.TheVariants.{Aborted}
use Rattle.cxa_runtime.specs.World.{World}
use Rattle.cxa_runtime.specs.Raising.{Image}
use Rattle.cxa_runtime.specs.Call.{call_effect}
use Rattle.cxa_runtime.specs.Run.{counted, run}
use Rattle.cxa_runtime.specs.Terminate.{at_stub, terminates}
use Rattle.linear_forms.specs.Linear.{UnitCode}
use Rattle.linear_forms.specs.Stub.{terminating}
use Rattle.machine_forms.specs.Registers.{ra, sp, a0, a7}
use Rattle.machine_pieces.specs.Turning.{Reaches, ForcedReaches}
use Rattle.machine_stubs.specs.Stretches.{StubAt, stub_word, frame_size, Room, AtAddress}
use Rattle.machine_stubs.specs.Calls.{asked}

-- a runtime call, whatever vacant slot it is given, comes to terminate with a handler in a world
pub record Terminates (image : Image) (number handler : ℕ) (w t : World) : Type 0 where
  pub behind : State
  pub calls : step_of w.hart ≡ (Ecall, behind)
  pub asks : x behind a7 ≡ number
  pub effect : (wish : ℕ) → call_effect number image wish (asked behind w) ≡ terminates image.places handler t

-- the image names terminate, which stands in memory, and below sp is room for its frame
pub record MayTerminate (u : UnitCode) (base : ℕ) (image : Image) (t : World) : Type 0 where
  pub named : image.places.terminate ≡ stub_word base terminating 0
  pub registers : length t.hart.regs ≡ 32
  pub code : StubAt u base terminating t.hart.memory
  pub deep : frame_size terminating ≤ x t.hart sp
  pub room : Room (x t.hart sp - frame_size terminating) (frame_size terminating) t.hart.memory

-- the world in which terminate begins
abbrev pub sent : RuntimeRecord → ℕ → World → World
sent places handler t = counted (record t { hart = at_stub places handler t.hart; terminating = true })

-- Where a runtime call terminates, the handler is called within seven turns; without one the run aborts within eight, and at once where
-- terminate is running already. What the call has shown is shown. So it is too where the call begins a forced unwind.
pub record CallsTerminate : Type 0 where
  pub calls_the_handler : (image : Image) (u : UnitCode) (base number handler : ℕ) (w t : World) → let low = x t.hart sp - frame_size terminating in
      Terminates image number handler w t → t.terminating ≡ false → MayTerminate u base image t → handler ≢ 0 → handler % 4 ≡ 0 → handler < 2 ^ 64 → t.unwinding ≡ w.unwinding →
      Reaches image 7 w t.shown
      (AtAddress handler low low (frame_size terminating) (sent image.places handler t) (λ s. (x s ra ≡ stub_word base terminating 6) × (x s a0 ≡ handler)))
  pub unwinds_to_the_handler : (image : Image) (u : UnitCode) (base number handler : ℕ) (w t : World) → let low = x t.hart sp - frame_size terminating in
      Terminates image number handler w t → t.terminating ≡ false → MayTerminate u base image t → handler ≢ 0 → handler % 4 ≡ 0 → handler < 2 ^ 64 →
      ForcedReaches image 7 w t.shown
      (AtAddress handler low low (frame_size terminating) (sent image.places handler t) (λ s. (x s ra ≡ stub_word base terminating 6) × (x s a0 ≡ handler)))
  pub aborts : (image : Image) (pick : ℕ → ℕ) (n : ℕ) (u : UnitCode) (base number : ℕ) (w t : World) → Terminates image number 0 w t → t.terminating ≡ false → MayTerminate u base image t → 8 ≤ n →
      ((run image pick n w).items ≡ t.shown) × ((run image pick n w).end ≡ Aborted)
  pub aborts_again : (image : Image) (pick : ℕ → ℕ) (n number handler : ℕ) (w t : World) → Terminates image number handler w t → t.terminating ≡ true → 1 ≤ n →
      ((run image pick n w).items ≡ t.shown) × ((run image pick n w).end ≡ Aborted)
