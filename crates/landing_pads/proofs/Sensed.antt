-- Each filter of a function's code has a sense by its tables.
use Rattle.std.proofs.Common.{ℕ, Bool, true, false, List, [], ◌∷◌, ◌++◌, Option, sym, subst}
use Rattle.std.specs.Prelude.{ℤ, if◌then◌else◌}
use Rattle.std.specs.List.{AllByRecursion}
use Rattle.meaning_forms.specs.Arithmetic.{int_equal}
use Rattle.meaning_forms.specs.Class.{some_of}
use Rattle.region_forms.specs.Form.{Region, seq, op, branch, loop, protect, catch, limit, barrier, leave_region, RegionList, no_regions, region_then, Clauses, no_clauses, clause_then, RegionFunction}
use Rattle.region_forms.specs.Guard.{types_of}
use Rattle.linear_forms.specs.Linear.{return}
use Rattle.linear_forms.specs.Tables.{Cover, bare, unpadded, Sense, cleanup, list_of, no_sense, sense_in}
use Rattle.linear_forms.specs.Emission.{Emitting, quiet, chain_of, with_cleanup, guarded, cleaned, filters_of}
use Rattle.linear_forms.specs.Filters.{types_in, lists_in}
use Rattle.linear_forms.specs.Code.{region_code}
use Rattle.linear_forms.specs.Means.{AllMean, FiltersMean, AllFiltersMean, ClauseFiltersMean}
use Rattle.linear_forms.specs.Unit.{emitting, placed_code}
use Rattle.linear_forms.proofs.Meaning.{filters_are_right}
use Rattle.landing_pads.proofs.Sited.{AllCovers, both_covers}
use Rattle.landing_pads.proofs.Covered.{Inside, AllInside, ClausesInside, region_covered}

-- some sense
abbrev pub IsSense : Sense → Type 0
IsSense no_sense = ⊥
IsSense _ = Unit {0}

module _ (senses : ℤ → Sense) where
  abbrev ChainSensed : List ℤ → Type 0
  ChainSensed chain = AllByRecursion (λ n. IsSense (senses n)) chain

  -- each filter of a cover has some sense
  abbrev pub AllSensed : Cover → Type 0
  AllSensed c = ChainSensed (chain_of c)

  both_sensed : (a b : List ℤ) → ChainSensed a → ChainSensed b → ChainSensed (a ++ b)
  both_sensed [] b h g = g
  both_sensed (n ∷ a) b h g = (h.0, both_sensed a b h.1 g)

  with_cleanup_sensed : (n : ℤ) (chain : List ℤ) → IsSense (senses n) → ChainSensed chain → ChainSensed (with_cleanup n chain)
  with_cleanup_sensed n chain h g = go (some_of (int_equal n) chain)
    where
      go : (b : Bool) → ChainSensed (if b then chain else n ∷ chain)
      go true = g
      go false = (h, g)

  module _ (em : Emitting) where
    clauses_sensed : (ts : List (Option ℕ)) → AllMean senses em.filter ts → ChainSensed (filters_of em ts)
    clauses_sensed [] m = tt
    clauses_sensed (t ∷ ts) m = (subst IsSense (sym m.0) tt, clauses_sensed ts m.1)

    mutual
      region_sensed : (r : Region) (c : Cover) → AllSensed c → FiltersMean senses em.filter r → Inside em AllSensed r c
      region_sensed (seq rs) c h m = all_sensed rs c h m
      region_sensed (op o) c h m = h
      region_sensed (branch v a b) c h m = (region_sensed a c h m.0, region_sensed b c h m.1)
      region_sensed (loop v r) c h m = region_sensed r c h m
      region_sensed (protect r cl) c h m =
          (h, λ p. region_sensed r (cleaned em p c) (with_cleanup_sensed (em.filter cleanup) (chain_of c) (subst IsSense (sym m.0) tt) h) m.1)
      region_sensed (catch r cs) c h m = (
        h,
        handlers_sensed cs c h m.2,
        λ p. region_sensed r (guarded p (filters_of em (types_of cs)) c) (both_sensed (filters_of em (types_of cs)) (chain_of c) (clauses_sensed (types_of cs) m.0) h) m.1,
      )
      region_sensed (limit r types) c h m = (h, λ p. region_sensed r (guarded p (em.filter (list_of types) ∷ []) c) (subst IsSense (sym m.0) tt, h) m.1)
      region_sensed (barrier r) c h m = region_sensed r bare tt m
      region_sensed (leave_region n) c h m = tt

      all_sensed : (rs : RegionList) (c : Cover) → AllSensed c → AllFiltersMean senses em.filter rs → AllInside em AllSensed rs c
      all_sensed no_regions c h m = tt
      all_sensed (region_then r rs) c h m = (region_sensed r c h m.0, all_sensed rs c h m.1)

      handlers_sensed : (cs : Clauses) (c : Cover) → AllSensed c → ClauseFiltersMean senses em.filter cs → ClausesInside em AllSensed cs c
      handlers_sensed no_clauses c h m = tt
      handlers_sensed (clause_then t x r cs) c h m = (region_sensed r c h m.0, handlers_sensed cs c h m.1)

-- so does each of a function's code
pub function_sensed : (f : RegionFunction) → AllCovers (AllSensed (sense_in (types_in f.body) (lists_in f.body))) (placed_code f)
function_sensed f =
    let P = AllSensed (sense_in (types_in f.body) (lists_in f.body)) in
    both_covers P (region_code (emitting f) unpadded [] 0 0 f.body) (quiet (return f.result) ∷ [])
    (region_covered (emitting f) P tt f.body unpadded [] 0 0 (region_sensed (sense_in (types_in f.body) (lists_in f.body)) (emitting f) f.body unpadded tt (filters_are_right f.body)))
    (tt, tt)
