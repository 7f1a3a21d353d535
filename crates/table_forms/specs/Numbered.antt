-- The reasons of refusals by their numbers.
use Rattle.std.specs.Prelude.{ℕ}
use Rattle.table_forms.specs.declared.reason.Reason.{Reason}
use Rattle.table_forms.specs.declared.reason.Reason.TheVariants as reasons

-- the number under which a refusal is reported
abbrev pub number_of : Reason → ℕ
number_of reasons.TableTruncated = 1
number_of reasons.LebRange = 2
number_of reasons.Encoding = 3
number_of reasons.SiteOrder = 4
number_of reasons.SiteOutside = 5
number_of reasons.PadOutside = 6
number_of reasons.ActionOutside = 7
number_of reasons.ActionLoop = 8
number_of reasons.FilterOutside = 9
number_of reasons.SpecificationOpen = 14
number_of reasons.NoTypes = 15
number_of reasons.FrameTruncated = 50
number_of reasons.Version = 51
number_of reasons.Augmentation = 52
number_of reasons.CieLink = 53
number_of reasons.UnknownInstruction = 54
number_of reasons.Expression = 55
number_of reasons.StateStack = 56
number_of reasons.Overlap = 57
number_of reasons.RegisterRange = 58
number_of reasons.HeaderDisagrees = 59
number_of reasons.Magic = 60
number_of reasons.Class = 61
number_of reasons.Machine = 62
number_of reasons.FileHeader = 63
number_of reasons.SegmentRange = 64
number_of reasons.SegmentOverlap = 65
number_of reasons.NoFrames = 66
number_of reasons.NoRuntime = 67
number_of reasons.Runtime = 68
number_of reasons.TableWritable = 69
number_of reasons.TableShared = 83
number_of reasons.FileShared = 84
number_of reasons.NoDebugFrames = 85
number_of reasons.SectionHeader = 86
number_of reasons.Compressed = 87
number_of reasons.AddressSize = 88
