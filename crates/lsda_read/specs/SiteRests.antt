-- What answers of the rest of the call-site table.
use Rattle.std.specs.Prelude.{ℕ, List, ◌++◌, Option}
use Rattle.eh_bytes.specs.declared.frames.Region64.{Region64}
use Rattle.eh_bytes.specs.Memory.{Part, Memory}
use Rattle.table_forms.specs.Fault.{Fault, least}
use Rattle.table_forms.specs.LsdaHead.{Head}
use Rattle.table_forms.specs.LsdaSites.{SiteRecords, records_within}
use Rattle.table_forms.specs.Lsda.{records_faults}

abbrev pub faults_of : Memory → Part → Region64 → Head → ℕ → SiteRecords → List Fault
faults_of memory part region h before s = records_faults memory part region h before s.records ++ s.cut

abbrev pub site_rest : Memory → Part → Region64 → Head → List ℕ → ℕ → ℕ → ℕ → Option Fault
site_rest memory part region h bytes before n p = least (faults_of memory part region h before (records_within n bytes part.file_at h p))
