-- The unit of a checked program is as the simulation asks.
use Rattle.std.proofs.Common.{arith, ◌≤◌}
use Rattle.linear_forms.specs.Linear.{UnitCode}
use Rattle.machine_forms.specs.StubCode.{stub_words}
use Rattle.machine_forms.proofs.Words.{words_stand}
use Rattle.region_forms.specs.Layout.{layout_of}
use Rattle.source_bounds.specs.Compiled.{unit_for}
use Rattle.source_bounds.specs.Laws.{TokensAreFew, UnitsAreBounded}
use Rattle.source_bounds.specs.RegisterLaws.{RegistersSuffice}
use Rattle.source_bounds.specs.WordLaws.{ProgramsAreShort}
use Rattle.machine_simulation.proofs.Frames.{frames_are_laid_out}
use Rattle.checked_units.specs.Units.{CheckedUnitsAreAsked}

pub checked_units_are_asked : ProgramsAreShort → RegistersSuffice → TokensAreFew → UnitsAreBounded → CheckedUnitsAreAsked
checked_units_are_asked short registers tokens bounded p checked =
    let u : UnitCode = unit_for p in
    let stubs : stub_words ≤ 2048 = omega arith in
    record {
      few = omega (arith, words_stand.unit u, (short p (layout_of p) checked).words, tokens p checked, stubs);
      frames = frames_are_laid_out p (layout_of p) (bounded p checked).frames;
      registers = registers p (layout_of p) checked;
    }
