-- The function start: it calls the unit by its first word, and exits with what main gives.
use Rattle.std.specs.Prelude.{◌≡◌, ℕ, ◌+◌, ◌*◌, ◌^◌, ◌<◌, ◌≤◌, ℤ, List, [], length}
use Rattle.rv64_isa.specs.State.{Part}
use Rattle.rv64_isa.specs.Step.{x}
use Rattle.cxa_runtime.specs.declared.effect.End.TheVariants.{Exit}
use Rattle.cxa_runtime.specs.World.{World}
use Rattle.cxa_runtime.specs.Raising.{Image}
use Rattle.cxa_runtime.specs.Run.{run}
use Rattle.linear_forms.specs.Linear.{UnitCode}
use Rattle.machine_forms.specs.Registers.{ra, sp, a0}
use Rattle.machine_forms.specs.StubCode.{start_routine, stub_words}
use Rattle.machine_forms.specs.Emitted.{stub_target}
use Rattle.machine_pieces.specs.Numbers.{IsInt, extended}
use Rattle.machine_pieces.specs.Standing.{PiecesAt}
use Rattle.machine_pieces.specs.Turning.{Reaches}
use Rattle.machine_pieces.specs.UnitAt.{whole_words, routine_ground, routine_pieces}
use Rattle.machine_stubs.specs.Stretches.{AtAddress}

-- its words stand in memory
abbrev pub StartAt : UnitCode → ℕ → List Part → Type 0
StartAt u base memory = PiecesAt memory (routine_ground u base stub_target 0 start_routine) 0 (routine_pieces start_routine)

-- From its first word start comes to the first word of the unit, to return behind its call. From there the run exits with the int in a0.
pub record StartRuns : Type 0 where
  pub calls_the_unit : (image : Image) (u : UnitCode) (base : ℕ) (w : World) → let s = w.hart in s.pc ≡ base → length s.regs ≡ 32 → StartAt u base s.memory → whole_words u < 2 ^ 28 →
      base + 4 * stub_words < 2 ^ 64 → Reaches image 2 w [] (AtAddress (base + 4 * stub_words) (x s sp) 0 0 w (λ t. (t.memory ≡ s.memory) × (x t ra ≡ base + 8)))
  pub exits : (image : Image) (pick : ℕ → ℕ) (n : ℕ) (u : UnitCode) (base : ℕ) (z : ℤ) (w : World) → let s = w.hart in s.pc ≡ base + 8 → length s.regs ≡ 32 → StartAt u base s.memory →
      x s a0 ≡ extended z → IsInt z → 2 ≤ n → ((run image pick n w).items ≡ []) × ((run image pick n w).end ≡ Exit z)
