-- Regions with what is said of them: where their exits go, which types their landing pads name, and how many words they have at most.
use Rattle.std.proofs.Common.{◌≡◌, ℕ, zero, suc, ◌+◌, ◌-◌, ◌≤◌, List, [], ◌∷◌, ◌++◌, map, Option, inl, inr, arith}
use Rattle.std.specs.List.{AllByRecursion}
use Rattle.region_forms.specs.Form.{Value, Op, Cleanup, Region, op, branch, loop, protect, catch, limit, barrier, leave_region, Clauses, no_clauses, clause_then, regions_from, in_order}
use Rattle.region_forms.specs.Guard.{types_of}
use Rattle.linear_forms.specs.Exits.{inner, beyond, outs_of, outs_of_all, outs_of_clauses}
use Rattle.linear_forms.specs.Filters.{table_type, type_uses, type_uses_all, type_uses_clauses}
use Rattle.source_bounds.specs.OperationWords.{value_words, op_words}
use Rattle.source_bounds.specs.RegionWords.{cleanup_words, region_words, all_words, clauses_words, HasFewWays, AllHaveFewWays, ClausesHaveFewWays}
use Rattle.source_bounds.proofs.Lists.{both_all, first_all, second_all}
use Rattle.source_bounds.proofs.Three.{IsOneOf, at_most_three}

-- An exit of what d regions hold goes to the end of the outermost one, to the end of the innermost loop's region, which has the number i
-- from outside, or to the end of what that holds.
abbrev pub IsWay : (i d n : ℕ) → Type 0
IsWay i d n = IsOneOf (d - 1) (d - i) (d - i - 1) n

abbrev pub AreWays : (i d : ℕ) → List ℕ → Type 0
AreWays i d ns = AllByRecursion (IsWay i d) ns

way_out : (i d e n : ℕ) → e ≡ d + 1 → IsWay i e (suc n) → IsWay i d n
way_out i d e n q (inl h) = inl (omega (arith, q, h))
way_out i d e n q (inr (inl h)) = inr (inl (omega (arith, q, h)))
way_out i d e n q (inr (inr h)) = inr (inr (omega (arith, q, h)))

-- exits of a region, as what is outside counts them
ways_beyond : (i d e : ℕ) (ns : List ℕ) → e ≡ d + 1 → AreWays i e ns → AreWays i d (beyond ns)
ways_beyond i d e [] q h = tt
ways_beyond i d e (zero ∷ ns) q h = ways_beyond i d e ns q h.1
ways_beyond i d e (suc n ∷ ns) q h = (way_out i d e n q h.0, ways_beyond i d e ns q h.1)

-- exits of a loop's region, whose own number is the loop's inside
loop_way_out : (i d n : ℕ) → IsWay (d + 1) (d + 1) (suc n) → IsWay i d n
loop_way_out i d n (inl h) = inl (omega (arith, h))
loop_way_out i d n (inr (inl h)) = absurd (omega (arith, h))
loop_way_out i d n (inr (inr h)) = absurd (omega (arith, h))

loop_ways_beyond : (i d : ℕ) (ns : List ℕ) → AreWays (d + 1) (d + 1) ns → AreWays i d (beyond ns)
loop_ways_beyond i d [] h = tt
loop_ways_beyond i d (zero ∷ ns) h = loop_ways_beyond i d ns h.1
loop_ways_beyond i d (suc n ∷ ns) h = (loop_way_out i d n h.0, loop_ways_beyond i d ns h.1)

-- a table names no type behind the last
abbrev pub AreNamed : ℕ → List ℕ → Type 0
AreNamed rows ts = AllByRecursion (λ t. t ≤ rows) ts

-- a region that d regions hold
pub record Whole (rows i d m : ℕ) (r : Region) : Type 0 where
  pub ways : AreWays i d (outs_of r)
  pub few : HasFewWays r
  pub named : AreNamed rows (type_uses r)
  pub words : region_words r ≤ m

-- regions one after the other
pub record Fine (rows i d m : ℕ) (rs : List Region) : Type 0 where
  pub ways : AreWays i d (outs_of_all (regions_from rs))
  pub few : AllHaveFewWays (regions_from rs)
  pub named : AreNamed rows (type_uses_all (regions_from rs))
  pub words : all_words (regions_from rs) ≤ m

-- handlers
pub record FineClauses (rows i d m : ℕ) (cs : Clauses) : Type 0 where
  pub ways : AreWays i d (outs_of_clauses cs)
  pub few : ClausesHaveFewWays cs
  pub caught : AreNamed rows (map table_type (types_of cs))
  pub named : AreNamed rows (type_uses_clauses cs)
  pub words : clauses_words cs ≤ m

pub no_more : (rows i d m : ℕ) → Fine rows i d m []
no_more rows i d m = record { ways = tt; few = tt; named = tt; words = omega arith }

-- the same, with more words
pub within : {rows i d m : ℕ} {rs : List Region} (k : ℕ) → Fine rows i d m rs → m ≤ k → Fine rows i d k rs
within k h le = record { ways = h.ways; few = h.few; named = h.named; words = omega (arith, h.words, le) }

pub whole_within : {rows i d m : ℕ} {r : Region} (k : ℕ) → Whole rows i d m r → m ≤ k → Whole rows i d k r
whole_within k h le = record { ways = h.ways; few = h.few; named = h.named; words = omega (arith, h.words, le) }

pub clauses_within : {rows i d m : ℕ} {cs : Clauses} (k : ℕ) → FineClauses rows i d m cs → m ≤ k → FineClauses rows i d k cs
clauses_within k h le = record { ways = h.ways; few = h.few; caught = h.caught; named = h.named; words = omega (arith, h.words, le) }

-- a region, then others
pub in_front : {rows i d m k : ℕ} {r : Region} {rs : List Region} → Whole rows i d m r → Fine rows i d k rs → Fine rows i d (m + k) (r ∷ rs)
in_front {rows} {i} {d} {m} {k} {r} {rs} h g = record {
  ways = both_all (IsWay i d) (outs_of r) (outs_of_all (regions_from rs)) h.ways g.ways;
  few = (h.few, g.few);
  named = both_all (λ t. t ≤ rows) (type_uses r) (type_uses_all (regions_from rs)) h.named g.named;
  words = omega (arith, h.words, g.words);
}

pub alone : {rows i d m : ℕ} {r : Region} → Whole rows i d m r → Fine rows i d m (r ∷ [])
alone {rows} {i} {d} {m} {r} h = within m (in_front h (no_more rows i d 0)) (omega arith)

behind_ways : (i d : ℕ) (rs others : List Region) → AreWays i d (outs_of_all (regions_from rs)) → AreWays i d (outs_of_all (regions_from others)) →
    AreWays i d (outs_of_all (regions_from (rs ++ others)))
behind_ways i d [] others h g = g
behind_ways i d (r ∷ rs) others h g =
    let rest = outs_of_all (regions_from rs) in
    both_all (IsWay i d) (outs_of r) (outs_of_all (regions_from (rs ++ others))) (first_all (IsWay i d) (outs_of r) rest h)
    (behind_ways i d rs others (second_all (IsWay i d) (outs_of r) rest h) g)

behind_named : (rows : ℕ) (rs others : List Region) → AreNamed rows (type_uses_all (regions_from rs)) → AreNamed rows (type_uses_all (regions_from others)) →
    AreNamed rows (type_uses_all (regions_from (rs ++ others)))
behind_named rows [] others h g = g
behind_named rows (r ∷ rs) others h g =
    let rest = type_uses_all (regions_from rs) in
    both_all (λ t. t ≤ rows) (type_uses r) (type_uses_all (regions_from (rs ++ others))) (first_all (λ t. t ≤ rows) (type_uses r) rest h)
    (behind_named rows rs others (second_all (λ t. t ≤ rows) (type_uses r) rest h) g)

behind_few : (rs others : List Region) → AllHaveFewWays (regions_from rs) → AllHaveFewWays (regions_from others) → AllHaveFewWays (regions_from (rs ++ others))
behind_few [] others h g = g
behind_few (r ∷ rs) others h g = (h.0, behind_few rs others h.1 g)

behind_words : (rs others : List Region) → all_words (regions_from (rs ++ others)) ≡ all_words (regions_from rs) + all_words (regions_from others)
behind_words [] others = omega arith
behind_words (r ∷ rs) others = omega (arith, behind_words rs others)

-- regions behind others
pub behind : {rows i d m k : ℕ} (rs others : List Region) → Fine rows i d m rs → Fine rows i d k others → Fine rows i d (m + k) (rs ++ others)
behind {rows} {i} {d} {m} {k} rs others h g = record {
  ways = behind_ways i d rs others h.ways g.ways;
  few = behind_few rs others h.few g.few;
  named = behind_named rows rs others h.named g.named;
  words = omega (arith, behind_words rs others, h.words, g.words);
}

-- a region behind others
pub with_last : {rows i d m k : ℕ} (rs : List Region) (r : Region) → Fine rows i d m rs → Whole rows i d k r → Fine rows i d (m + k) (rs ++ r ∷ [])
with_last rs r h g = behind rs (r ∷ []) h (alone g)

-- an operation
pub one_op : (rows i d : ℕ) (o : Op) → Whole rows i d (op_words o) (op o)
one_op rows i d o = record { ways = tt; few = tt; named = tt; words = omega arith }

-- regions in order in a region
pub ordered : {rows i m : ℕ} (d e : ℕ) (rs : List Region) → e ≡ d + 1 → Fine rows i e m rs → Whole rows i d m (in_order rs)
ordered {rows} {i} {m} d e rs q h = record { ways = ways_beyond i d e (outs_of_all (regions_from rs)) q h.ways; few = h.few; named = h.named; words = h.words }

-- two sides of a test
pub tested : {rows i m k : ℕ} (d e : ℕ) (v : Value) (a b : Region) → e ≡ d + 1 → Whole rows i e m a → Whole rows i e k b →
    Whole rows i d (m + k + value_words v + 3) (branch v a b)
tested {rows} {i} {m} {k} d e v a b q h g = record {
  ways = ways_beyond i d e (outs_of a ++ outs_of b) q (both_all (IsWay i e) (outs_of a) (outs_of b) h.ways g.ways);
  few = (h.few, g.few);
  named = both_all (λ t. t ≤ rows) (type_uses a) (type_uses b) h.named g.named;
  words = omega (arith, h.words, g.words);
}

-- a loop
pub looped : {rows m : ℕ} (i d : ℕ) (v : Value) (r : Region) → Whole rows (d + 1) (d + 1) m r → Whole rows i d (m + value_words v + 3) (loop v r)
looped i d v r h = record { ways = loop_ways_beyond i d (outs_of r) h.ways; few = h.few; named = h.named; words = omega (arith, h.words) }

-- a scope or a handler; its exits go to three places at most
pub protected : {rows i m : ℕ} (d e : ℕ) (r : Region) (c : Cleanup) → e ≡ d + 1 → Whole rows i e m r → Whole rows i d (m + cleanup_words c + 6) (protect r c)
protected {rows} {i} {m} d e r c q h =
    let out = ways_beyond i d e (outs_of r) q h.ways in
    record {
      ways = out;
      few = (at_most_three (d - 1) (d - i) (d - i - 1) (beyond (outs_of r)) out, h.few);
      named = h.named;
      words = omega (arith, h.words);
    }

-- a guarded region with its handlers
pub guarded : {rows i m k : ℕ} (d e : ℕ) (r : Region) (cs : Clauses) → e ≡ d + 1 → Whole rows i e m r → FineClauses rows i e k cs →
    Whole rows i d (m + k + 6) (catch r cs)
guarded {rows} {i} {m} {k} d e r cs q h g = record {
  ways = ways_beyond i d e (outs_of_clauses cs ++ outs_of r) q (both_all (IsWay i e) (outs_of_clauses cs) (outs_of r) g.ways h.ways);
  few = (h.few, g.few);
  named = both_all (λ t. t ≤ rows) (map table_type (types_of cs)) (type_uses_clauses cs ++ type_uses r) g.caught
      (both_all (λ t. t ≤ rows) (type_uses_clauses cs) (type_uses r) g.named h.named);
  words = omega (arith, h.words, g.words);
}

pub no_clause : (rows i d m : ℕ) → FineClauses rows i d m no_clauses
no_clause rows i d m = record { ways = tt; few = tt; caught = tt; named = tt; words = omega arith }

-- a handler before others
pub one_clause : {rows i d m k : ℕ} (t : Option ℕ) (x : ℕ) (r : Region) (cs : Clauses) → table_type t ≤ rows → Whole rows i d m r → FineClauses rows i d k cs →
    FineClauses rows i d (m + k + 9) (clause_then t x r cs)
one_clause {rows} {i} {d} {m} {k} t x r cs there h g = record {
  ways = both_all (IsWay i d) (outs_of r) (outs_of_clauses cs) h.ways g.ways;
  few = (h.few, g.few);
  caught = (there, g.caught);
  named = both_all (λ t. t ≤ rows) (type_uses r) (type_uses_clauses cs) h.named g.named;
  words = omega (arith, h.words, g.words);
}

-- the extent of a specification
pub limited_to : {rows i m : ℕ} (d e : ℕ) (r : Region) (types : List ℕ) → e ≡ d + 1 → AreNamed rows (map (λ t. t + 1) types) → Whole rows i e m r →
    Whole rows i d (m + 273) (limit r types)
limited_to {rows} {i} {m} d e r types q there h = record {
  ways = ways_beyond i d e (outs_of r) q h.ways;
  few = h.few;
  named = both_all (λ t. t ≤ rows) (map (λ t. t + 1) types) (type_uses r) there h.named;
  words = omega (arith, h.words);
}

-- an operation behind a barrier
pub barred_op : (rows i d : ℕ) (o : Op) → Whole rows i d (op_words o) (barrier (op o))
barred_op rows i d o = record { ways = tt; few = tt; named = tt; words = omega arith }

-- an exit
pub one_exit : (rows i d n : ℕ) → IsWay i d (inner n) → Whole rows i d 5 (leave_region n)
one_exit rows i d n h = record { ways = (h, tt); few = tt; named = tt; words = omega arith }

inner_one_less : (n : ℕ) → inner n ≡ n - 1
inner_one_less zero = omega arith
inner_one_less (suc n) = omega arith

pub out_of_all : (rows i d : ℕ) → Whole rows i d 5 (leave_region d)
out_of_all rows i d = one_exit rows i d d (inl (inner_one_less d))

pub out_of_loop : (rows i d : ℕ) → Whole rows i d 5 (leave_region (d - i + 1))
out_of_loop rows i d = one_exit rows i d (d - i + 1) (inr (inl (omega (arith, inner_one_less (d - i + 1)))))

pub to_next_turn : (rows i d : ℕ) → Whole rows i d 5 (leave_region (d - i))
to_next_turn rows i d = one_exit rows i d (d - i) (inr (inr (inner_one_less (d - i))))
