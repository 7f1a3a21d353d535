-- What answers of the rest of a chain.
use Rattle.std.specs.Prelude.{ℕ, List, ◌++◌, flat_map, Option}
use Rattle.eh_bytes.specs.Memory.{Part, Memory}
use Rattle.table_forms.specs.Fault.{Fault, least}
use Rattle.table_forms.specs.LsdaHead.{Head}
use Rattle.table_forms.specs.LsdaChain.{Chain, links_within, ending_faults}
use Rattle.table_forms.specs.LsdaTypes.{filter_faults}

-- what is refused in a chain of an action that a site names
abbrev pub faults_in : Memory → Part → Head → ℕ → ℕ → Chain → List Fault
faults_in memory part h site a chain =
    flat_map (λ l. filter_faults memory part h h.types l.at l.filter) chain.links ++ ending_faults part h site a chain.ending

abbrev pub chain_rest : Memory → Part → Head → ℕ → ℕ → ℕ → ℕ → Option Fault
chain_rest memory part h site a n p = least (faults_in memory part h site a (links_within n part h p))
