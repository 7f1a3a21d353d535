-- Frames of compiled programs.
use Rattle.std.specs.Prelude.{◌≤◌}
use Rattle.std.specs.List.{AllByRecursion}
use Rattle.cxx_ast.specs.Plain.{Checked}
use Rattle.region_forms.specs.Layout.{Layout}
use Rattle.region_forms.specs.LowerProgram.{regions_of}
use Rattle.linear_forms.specs.Unit.{unit_of}
use Rattle.machine_simulation.specs.Matches.{FrameIs}

-- The frames of the functions of every checked program, by any layout of its classes, are as the simulation asks, if none has more than
-- 2,032 bytes: each has the bytes that its slots take, an int variable takes 4, and a reference and whatever is no variable 8.
abbrev pub FramesAreLaidOut : Type 0
FramesAreLaidOut = (p : Checked) (l : Layout) → AllByRecursion (λ g. g.frame ≤ 2032) (unit_of (regions_of p l)).functions → AllByRecursion FrameIs (unit_of (regions_of p l)).functions
