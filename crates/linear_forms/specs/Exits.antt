-- Exits of regions. An exit goes to the end of a region that holds it, by way of the cleanups on the way out. Where one is on the way, a
-- slot of the function says where the exit goes on behind it: by the number of regions that hold the region that is left, itself
-- included, so that outer ones have smaller names and 0 names none.
use Rattle.std.specs.Prelude.{ℕ, zero, suc, Bool, true, false, List, [], ◌∷◌, ◌++◌, drop, length, Option, Some, None}
use Rattle.region_forms.specs.Form.{Region, seq, op, branch, loop, protect, catch, limit, barrier, leave_region, RegionList, no_regions, region_then, Clauses, no_clauses, clause_then}

-- a region that holds a part: the label of its cleanup at normal exits, if it has one, and the label of its end
pub record Exit : Type 0 where
  pub cleanup : Option ℕ
  pub end : ℕ

-- a region without a cleanup at normal exits
abbrev pub exit_to : ℕ → Exit
exit_to l = record { cleanup = None; end = l }

-- the number of a region that holds a part, counted from 0 where it was counted from 1
abbrev pub inner : ℕ → ℕ
inner zero = zero
inner (suc n) = n

-- the name of the n-th region that holds a part, counted from 0 and outwards
abbrev pub name_of : ℕ → List Exit → ℕ
name_of n xs = length (drop n xs)

-- where an exit from the n-th region goes first: to a cleanup, or to the region's end
abbrev pub first_label : ℕ → List Exit → ℕ
first_label n [] = 0
first_label zero (x ∷ xs) = elim x.cleanup [ None ↦ x.end | Some l ↦ l ]
first_label (suc n) (x ∷ xs) = elim x.cleanup [ None ↦ first_label n xs | Some l ↦ l ]

-- a cleanup stands on the way out of the n-th region
abbrev pub crosses : ℕ → List Exit → Bool
crosses n [] = false
crosses zero (x ∷ xs) = elim x.cleanup [ None ↦ false | Some l ↦ true ]
crosses (suc n) (x ∷ xs) = elim x.cleanup [ None ↦ crosses n xs | Some l ↦ true ]

-- the numbers of exits as the region outside counts them; an exit to the region's own end is none of its
abbrev pub beyond : List ℕ → List ℕ
beyond [] = []
beyond (zero ∷ ns) = beyond ns
beyond (suc n ∷ ns) = n ∷ beyond ns

-- the exits out of a region in order, by the numbers of the regions outside, from 0 on
abbrev mutual
  pub outs_of : Region → List ℕ
  outs_of (seq rs) = beyond (outs_of_all rs)
  outs_of (op o) = []
  outs_of (branch v a b) = beyond (outs_of a ++ outs_of b)
  outs_of (loop v r) = beyond (outs_of r)
  outs_of (protect r c) = beyond (outs_of r)
  outs_of (catch r cs) = beyond (outs_of_clauses cs ++ outs_of r)
  outs_of (limit r types) = beyond (outs_of r)
  outs_of (barrier r) = beyond (outs_of r)
  outs_of (leave_region n) = inner n ∷ []

  pub outs_of_all : RegionList → List ℕ
  outs_of_all no_regions = []
  outs_of_all (region_then r rs) = outs_of r ++ outs_of_all rs

  pub outs_of_clauses : Clauses → List ℕ
  outs_of_clauses no_clauses = []
  outs_of_clauses (clause_then t x r cs) = outs_of r ++ outs_of_clauses cs
