use Rattle.std.proofs.Common.{◌-◌}
use Rattle.personality.specs.Seen.{thrown_of}
use Rattle.raise_core.specs.declared.found.Found.{Found}
use Rattle.raise_core.specs.Stack.{frames_within}
use Rattle.raise_core.specs.Lookups.{IsLookup}
use Rattle.raise_core.specs.Reads.{AreTables}
use Rattle.raise_core.specs.Finds.{FindsIn, FindsFrame}
use Rattle.raise_core.proofs.Landings.{KeepsSoFar}
use Rattle.raise_core.proofs.find.find_frame.Given as goal

-- what is found from here on is found, the first frame with a pad is kept, and what the tables said last holds
abbrev pub invariant-frames : goal.invariant-frames
invariant-frames l =
    ((t : AreTables l.machine l.frames) (found : Found) →
    FindsIn l.machine t.read.fdes (thrown_of l.thrown) l.goal (frames_within (0x1000004 - l.counter) l.machine t.read.fdes l.frame) found →
    FindsFrame l.machine t.read.fdes (thrown_of l.thrown) l.goal found) ×
    ((t : AreTables l.machine l.frames) → KeepsSoFar l.machine t.read.fdes (thrown_of l.thrown) l.before (frames_within (0x1000004 - l.counter) l.machine t.read.fdes l.frame)) ×
    ((t : AreTables l.machine l.frames) → IsLookup l.machine t.read.fdes (thrown_of l.thrown) l.lookup)
