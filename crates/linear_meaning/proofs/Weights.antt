-- Regions with what they weigh at most: what their code costs, where the exits out of each scope go to at most three places.
use Rattle.std.proofs.Common.{◌≡◌, ℕ, ◌+◌, ◌≤◌, List, [], ◌∷◌, ◌++◌, arith}
use Rattle.region_forms.specs.Form.{Value, Op, Cleanup, Region, seq, op, branch, loop, protect, catch, limit, barrier, leave_region, RegionList, no_regions, region_then, Clauses, no_clauses, clause_then, regions_from, in_order}
use Rattle.linear_forms.specs.Cost.{cost, cost_all, cost_clauses}
use Rattle.source_bounds.specs.RegionWords.{HasFewWays, AllHaveFewWays, ClausesHaveFewWays}

abbrev mutual
  pub weight : Region → ℕ
  weight (seq rs) = weight_all rs + 2
  weight (op o) = 16
  weight (branch v a b) = weight a + weight b + 4
  weight (loop v r) = weight r + 4
  weight (protect r c) = weight r + 31
  weight (catch r cs) = weight r + weight_clauses cs + 6
  weight (limit r types) = weight r + 96
  weight (barrier r) = weight r + 18
  weight (leave_region n) = 2

  pub weight_all : RegionList → ℕ
  weight_all no_regions = 0
  weight_all (region_then r rs) = weight r + weight_all rs

  pub weight_clauses : Clauses → ℕ
  weight_clauses no_clauses = 0
  weight_clauses (clause_then t x r cs) = weight r + weight_clauses cs + 4

mutual
  pub cost_within : (r : Region) → HasFewWays r → cost r ≤ weight r
  cost_within (seq rs) h = omega (arith, cost_all_within rs h)
  cost_within (op o) h = omega arith
  cost_within (branch v a b) h = omega (arith, cost_within a h.0, cost_within b h.1)
  cost_within (loop v r) h = omega (arith, cost_within r h)
  cost_within (protect r c) h = omega (arith, h.0, cost_within r h.1)
  cost_within (catch r cs) h = omega (arith, cost_within r h.0, cost_clauses_within cs h.1)
  cost_within (limit r types) h = omega (arith, cost_within r h)
  cost_within (barrier r) h = omega (arith, cost_within r h)
  cost_within (leave_region n) h = omega arith

  cost_all_within : (rs : RegionList) → AllHaveFewWays rs → cost_all rs ≤ weight_all rs
  cost_all_within no_regions h = omega arith
  cost_all_within (region_then r rs) h = omega (arith, cost_within r h.0, cost_all_within rs h.1)

  cost_clauses_within : (cs : Clauses) → ClausesHaveFewWays cs → cost_clauses cs ≤ weight_clauses cs
  cost_clauses_within no_clauses h = omega arith
  cost_clauses_within (clause_then t x r cs) h = omega (arith, cost_within r h.0, cost_clauses_within cs h.1)

pub record Weigh (m : ℕ) (rs : List Region) : Type 0 where
  pub few : weight_all (regions_from rs) ≤ m

pub record Weighs (m : ℕ) (r : Region) : Type 0 where
  pub few : weight r ≤ m

pub no_weight : (m : ℕ) → Weigh m []
no_weight m = record { few = omega arith }

pub upto : {m : ℕ} {rs : List Region} (k : ℕ) → Weigh m rs → m ≤ k → Weigh k rs
upto k h a = record { few = omega (arith, h.few, a) }

pub first_of : {m k : ℕ} {r : Region} {rs : List Region} → Weighs m r → Weigh k rs → Weigh (m + k) (r ∷ rs)
first_of h k = record { few = omega (arith, h.few, k.few) }

pub single : {m : ℕ} {r : Region} → Weighs m r → Weigh m (r ∷ [])
single h = record { few = omega (arith, h.few) }

weight_both : (rs others : List Region) → weight_all (regions_from (rs ++ others)) ≡ weight_all (regions_from rs) + weight_all (regions_from others)
weight_both [] others = omega arith
weight_both (r ∷ rs) others = omega (arith, weight_both rs others)

pub then_others : {m k : ℕ} (rs others : List Region) → Weigh m rs → Weigh k others → Weigh (m + k) (rs ++ others)
then_others rs others h k = record { few = omega (arith, h.few, k.few, weight_both rs others) }

pub then_one : {m k : ℕ} (rs : List Region) (r : Region) → Weigh m rs → Weighs k r → Weigh (m + k) (rs ++ r ∷ [])
then_one rs r h k = then_others rs (r ∷ []) h (single k)

pub an_op : (o : Op) → Weighs 16 (op o)
an_op o = record { few = omega arith }

pub in_a_row : {m : ℕ} (rs : List Region) → Weigh m rs → Weighs (m + 2) (in_order rs)
in_a_row rs h = record { few = omega (arith, h.few) }

pub two_sides : {m k : ℕ} (v : Value) (a b : Region) → Weighs m a → Weighs k b → Weighs (m + k + 4) (branch v a b)
two_sides v a b h k = record { few = omega (arith, h.few, k.few) }

pub a_loop : {m : ℕ} (v : Value) (r : Region) → Weighs m r → Weighs (m + 4) (loop v r)
a_loop v r h = record { few = omega (arith, h.few) }

pub a_scope : {m : ℕ} (r : Region) (c : Cleanup) → Weighs m r → Weighs (m + 31) (protect r c)
a_scope r c h = record { few = omega (arith, h.few) }
