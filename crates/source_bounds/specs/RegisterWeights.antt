-- No value of a region needs more registers than there are.
use Rattle.std.specs.Prelude.{◌≤◌}
use Rattle.region_forms.specs.Form.{Region, seq, op, branch, loop, protect, catch, limit, barrier, leave_region, RegionList, no_regions, region_then, Clauses, no_clauses, clause_then}
use Rattle.machine_forms.specs.Bounds.{OpFits}
use Rattle.machine_forms.specs.ValueCode.{needs}

abbrev mutual
  pub RegionFits : Region → Type 0
  RegionFits (seq rs) = RegionsFit rs
  RegionFits (op o) = OpFits o
  RegionFits (branch v a b) = (needs v ≤ 15) × RegionFits a × RegionFits b
  RegionFits (loop v r) = (needs v ≤ 15) × RegionFits r
  RegionFits (protect r c) = RegionFits r
  RegionFits (catch r cs) = RegionFits r × ClausesFit cs
  RegionFits (limit r types) = RegionFits r
  RegionFits (barrier r) = RegionFits r
  RegionFits (leave_region n) = Unit {0}

  pub RegionsFit : RegionList → Type 0
  RegionsFit no_regions = Unit {0}
  RegionsFit (region_then r rs) = RegionFits r × RegionsFit rs

  pub ClausesFit : Clauses → Type 0
  ClausesFit no_clauses = Unit {0}
  ClausesFit (clause_then t x r cs) = RegionFits r × ClausesFit cs
