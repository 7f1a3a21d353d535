use Rattle.cxa_runtime.specs.Types.{records_within}
use Rattle.cxa_runtime.proofs.Records.{ReadSoFar}
use Rattle.cxa_runtime.proofs.types.types_at.Given as goal

abbrev pub invariant-records : goal.invariant-records
invariant-records l = ReadSoFar l.machine (records_within 64 l.machine l.fn.address) l.records l.count l.record
