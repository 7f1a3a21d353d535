use Rattle.std.proofs.Common.{◌≡◌, ◌+◌, ◌*◌, ◌<◌, ◌^◌}
use Rattle.std.specs.Option.{option_or}
use Rattle.debug_frames.specs.Least.{least_of, lesser}
use Rattle.debug_frames.specs.Sections.{sections_from, sections_of}
use Rattle.debug_frames.specs.FoundSection.{unnamed_places, section_named}
use Rattle.debug_frames.proofs.find.sought_in.Given as goal

abbrev pub invariant-headers : goal.invariant-headers
invariant-headers l =
    (least_of (unnamed_places l.names.bytes.now (sections_of l.file)) ≡
    lesser l.sought.least (least_of (unnamed_places l.names.bytes.now (sections_from l.left l.file l.place)))) ×
    (section_named l.names.bytes.now (sections_of l.file) ≡ option_or l.sought.found (section_named l.names.bytes.now (sections_from l.left l.file l.place))) ×
    (l.place + 64 * l.left < 2 ^ 65)

abbrev pub decreases-headers : goal.decreases-headers
decreases-headers l = l.left
