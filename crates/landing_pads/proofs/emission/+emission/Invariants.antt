use Rattle.std.proofs.Common.{◌≡◌, ◌≤◌, ◌+◌, ◌++◌, drop, length, map}
use Rattle.region_forms.specs.Form.{regions_from}
use Rattle.linear_forms.specs.Code.{all_code, clauses_code, labels_all, labels_clauses}
use Rattle.region_ir.specs.View.{clauses_of, region_of}
use Rattle.landing_pads.specs.Given.{emitting_of, exits_of}
use Rattle.landing_pads.specs.View.{cover_of, placed_of}
use Rattle.landing_pads.proofs.Weight.{weight, weight_all, weight_clauses}
use Rattle.landing_pads.proofs.emission.+emission.Given as goal

abbrev pub decreases-region_code : goal.decreases-region_code
decreases-region_code l = weight (region_of l.region.now)

abbrev pub decreases-inside : goal.decreases-inside
decreases-inside l = weight (region_of l.region.now) + 1

abbrev pub decreases-covered : goal.decreases-covered
decreases-covered l = weight (region_of l.region.now) + 2

abbrev pub decreases-all_code : goal.decreases-all_code
decreases-all_code l = weight_all (regions_from (map region_of l.regions.now))

abbrev pub decreases-sequence : goal.decreases-sequence
decreases-sequence l = weight_all (regions_from (map region_of l.regions.now)) + 1

abbrev pub decreases-branched : goal.decreases-branched
decreases-branched l = weight (region_of l.first.now) + weight (region_of l.second.now) + 2

abbrev pub decreases-repeated : goal.decreases-repeated
decreases-repeated l = weight (region_of l.body.now) + 2

abbrev pub decreases-protected : goal.decreases-protected
decreases-protected l = weight (region_of l.body.now) + 3

abbrev pub decreases-closed : goal.decreases-closed
decreases-closed l = weight (region_of l.body.now) + 2

abbrev pub decreases-limited : goal.decreases-limited
decreases-limited l = weight (region_of l.body.now) + 3

abbrev pub decreases-clauses_code : goal.decreases-clauses_code
decreases-clauses_code l = weight_clauses (clauses_of l.clauses.now)

abbrev pub decreases-handlers : goal.decreases-handlers
decreases-handlers l = weight_clauses (clauses_of l.clauses.now) + 1

abbrev pub decreases-caught : goal.decreases-caught
decreases-caught l = weight_clauses (clauses_of l.clauses.now) + weight (region_of l.body.now) + 3

-- what is put so far, and the code of what is left
abbrev pub invariant-all_code-loop-region : goal.invariant-all_code-loop-region
invariant-all_code-loop-region l = record {
  code :
      map placed_of l.code.items
      ++ all_code (emitting_of l.e) (cover_of l.cover) (exits_of l.initial.exits.items) l.next (length l.code.items) (regions_from (map region_of (drop l.region-index l.regions)))
      ≡ map placed_of l.initial.code.items
      ++ all_code (emitting_of l.e) (cover_of l.cover) (exits_of l.initial.exits.items) l.label (length l.initial.code.items) (regions_from (map region_of l.regions));
  next : l.next + labels_all (regions_from (map region_of (drop l.region-index l.regions))) ≡ l.label + labels_all (regions_from (map region_of l.regions));
  lighter : weight_all (regions_from (map region_of (drop l.region-index l.regions))) ≤ weight_all (regions_from (map region_of l.regions));
  exits : l.exits.items ≡ l.initial.exits.items;
}

abbrev pub invariant-clauses_code-loop-clause : goal.invariant-clauses_code-loop-clause
invariant-clauses_code-loop-clause l = record {
  code :
      map placed_of l.code.items
      ++ clauses_code (emitting_of l.e) (cover_of l.cover) (exits_of l.initial.exits.items) l.end l.begin l.next (length l.code.items) (clauses_of (drop l.clause-index l.clauses))
      ≡ map placed_of l.initial.code.items
      ++ clauses_code (emitting_of l.e) (cover_of l.cover) (exits_of l.initial.exits.items) l.end l.first l.label (length l.initial.code.items) (clauses_of l.clauses);
  next : l.next + labels_clauses (clauses_of (drop l.clause-index l.clauses)) ≡ l.label + labels_clauses (clauses_of l.clauses);
  lighter : weight_clauses (clauses_of (drop l.clause-index l.clauses)) ≤ weight_clauses (clauses_of l.clauses);
  exits : l.exits.items ≡ l.initial.exits.items;
}
