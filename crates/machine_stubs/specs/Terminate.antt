-- The function terminate: it calls the handler in a0, if there is one, and aborts.
use Rattle.std.specs.Prelude.{◌≡◌, ◌≢◌, ℕ, ◌-◌, ◌%◌, ◌^◌, ◌<◌, ◌≤◌, [], length}
use Rattle.rv64_isa.specs.Step.{x}
use Rattle.cxa_runtime.specs.declared.effect.End.TheVariants.{Aborted}
use Rattle.cxa_runtime.specs.World.{World}
use Rattle.cxa_runtime.specs.Raising.{Image}
use Rattle.cxa_runtime.specs.Run.{run}
use Rattle.linear_forms.specs.Linear.{UnitCode}
use Rattle.linear_forms.specs.Stub.{terminating}
use Rattle.machine_forms.specs.Registers.{ra, sp, a0}
use Rattle.machine_pieces.specs.Turning.{Reaches}
use Rattle.machine_stubs.specs.Stretches.{StubAt, stub_word, frame_size, Stands, AtAddress}

-- The hart is at terminate's first word, below sp is room for its frame, and a0 has a handler's address: within six turns it is at the
-- handler's first word, to return to the word behind its call, and nothing is shown. Where a0 is 0, the run aborts within seven turns.
-- Where the handler comes back, it aborts within two, whatever the handler made of the registers and of the stack.
pub record TerminateRuns : Type 0 where
  pub calls_the_handler : (image : Image) (u : UnitCode) (base h : ℕ) (w : World) → let s = w.hart in let low = x s sp - frame_size terminating in
      frame_size terminating ≤ x s sp → Stands u base terminating 0 low (frame_size terminating) s → x s a0 ≡ h → h ≢ 0 → h % 4 ≡ 0 → h < 2 ^ 64 →
      Reaches image 6 w [] (AtAddress h low low (frame_size terminating) w (λ t. (x t ra ≡ stub_word base terminating 6) × (x t a0 ≡ h)))
  pub aborts_without : (image : Image) (pick : ℕ → ℕ) (n : ℕ) (u : UnitCode) (base : ℕ) (w : World) → let s = w.hart in let low = x s sp - frame_size terminating in
      frame_size terminating ≤ x s sp → Stands u base terminating 0 low (frame_size terminating) s → x s a0 ≡ 0 → 7 ≤ n →
      ((run image pick n w).items ≡ []) × ((run image pick n w).end ≡ Aborted)
  pub aborts_behind : (image : Image) (pick : ℕ → ℕ) (n : ℕ) (u : UnitCode) (base : ℕ) (w : World) → w.hart.pc ≡ stub_word base terminating 6 → length w.hart.regs ≡ 32 →
      StubAt u base terminating w.hart.memory → 2 ≤ n → ((run image pick n w).items ≡ []) × ((run image pick n w).end ≡ Aborted)
