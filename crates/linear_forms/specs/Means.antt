-- What it is that filters mean what they are for.
use Rattle.std.specs.Prelude.{◌≡◌, ℤ, List, [], ◌∷◌, Option, ℕ}
use Rattle.region_forms.specs.Form.{Region, seq, op, branch, loop, protect, catch, limit, barrier, leave_region, RegionList, no_regions, region_then, Clauses, no_clauses, clause_then}
use Rattle.region_forms.specs.Guard.{types_of}
use Rattle.linear_forms.specs.Tables.{Sense, cleanup, clause, list_of}

-- a filter means what it is for
abbrev pub Means : (ℤ → Sense) → (Sense → ℤ) → Sense → Type 0
Means senses filter x = senses (filter x) ≡ x

-- so do the filters of clauses
abbrev pub AllMean : (ℤ → Sense) → (Sense → ℤ) → List (Option ℕ) → Type 0
AllMean senses filter [] = Unit {0}
AllMean senses filter (t ∷ ts) = Means senses filter (clause t) × AllMean senses filter ts

-- so do the filters of a region's code
abbrev mutual
  pub FiltersMean : (ℤ → Sense) → (Sense → ℤ) → Region → Type 0
  FiltersMean senses filter (seq rs) = AllFiltersMean senses filter rs
  FiltersMean senses filter (op o) = Unit {0}
  FiltersMean senses filter (branch v a b) = FiltersMean senses filter a × FiltersMean senses filter b
  FiltersMean senses filter (loop v r) = FiltersMean senses filter r
  FiltersMean senses filter (protect r c) = Means senses filter cleanup × FiltersMean senses filter r
  FiltersMean senses filter (catch r cs) =
      AllMean senses filter (types_of cs) × FiltersMean senses filter r × ClauseFiltersMean senses filter cs
  FiltersMean senses filter (limit r types) = Means senses filter (list_of types) × FiltersMean senses filter r
  FiltersMean senses filter (barrier r) = FiltersMean senses filter r
  FiltersMean senses filter (leave_region n) = Unit {0}

  pub AllFiltersMean : (ℤ → Sense) → (Sense → ℤ) → RegionList → Type 0
  AllFiltersMean senses filter no_regions = Unit {0}
  AllFiltersMean senses filter (region_then r rs) = FiltersMean senses filter r × AllFiltersMean senses filter rs

  pub ClauseFiltersMean : (ℤ → Sense) → (Sense → ℤ) → Clauses → Type 0
  ClauseFiltersMean senses filter no_clauses = Unit {0}
  ClauseFiltersMean senses filter (clause_then t x r cs) = FiltersMean senses filter r × ClauseFiltersMean senses filter cs
