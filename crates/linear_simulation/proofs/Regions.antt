-- The code of every region does what the region does.
use Rattle.std.proofs.Common.{ℕ}
use Rattle.region_forms.specs.Form.{Region, seq, op, branch, loop, protect, catch, limit, barrier, leave_region, RegionList, no_regions, region_then, Clauses, no_clauses, clause_then}
use Rattle.region_forms.specs.Ending.{Running}
use Rattle.linear_forms.specs.Activation.{Code}
use Rattle.linear_simulation.specs.Comes.{CallsRun}
use Rattle.linear_simulation.specs.Simulates.{RegionRuns, CodeRunsWatched}
use Rattle.linear_simulation.proofs.Cases.{RowRuns, none_case, then_case, seq_case, op_case, leave_case, barrier_case, branch_case, loop_case, protect_case, limit_case}
use Rattle.linear_simulation.proofs.Handlers.{ClausesRun, no_clause_case, clause_case, catch_case}

module _ (code : Code) (most fuel : ℕ) (run : Running) (calls_run : CallsRun code most fuel run) where
  mutual
    pub region_runs : (r : Region) → RegionRuns code most fuel run r
    region_runs (seq rs) = seq_case code most fuel run calls_run rs (rows_run rs)
    region_runs (op o) = op_case code most fuel run calls_run o
    region_runs (branch v a b) = branch_case code most fuel run calls_run v a b (region_runs a) (region_runs b)
    region_runs (loop v r) = loop_case code most fuel run calls_run v r (region_runs r)
    region_runs (protect r c) = protect_case code most fuel run calls_run r c (region_runs r)
    region_runs (catch r cs) = catch_case code most fuel run calls_run r cs (region_runs r) (handlers_run cs)
    region_runs (limit r types) = limit_case code most fuel run calls_run r types (region_runs r)
    region_runs (barrier r) = barrier_case code most fuel run calls_run r
    region_runs (leave_region k) = leave_case code most fuel run calls_run k

    rows_run : (rs : RegionList) → RowRuns code most fuel run calls_run rs
    rows_run no_regions = none_case code most fuel run calls_run
    rows_run (region_then r rs) = then_case code most fuel run calls_run r rs (region_runs r) (rows_run rs)

    handlers_run : (cs : Clauses) → ClausesRun code most fuel run calls_run cs
    handlers_run no_clauses = no_clause_case code most fuel run calls_run
    handlers_run (clause_then t x r cs) = clause_case code most fuel run calls_run t x r cs (region_runs r) (handlers_run cs)

pub code_runs_watched : CodeRunsWatched
code_runs_watched code most fuel run calls_run r = region_runs code most fuel run calls_run r
