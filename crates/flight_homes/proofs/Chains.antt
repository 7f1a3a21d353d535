-- What the chain of each pad lets on, the cover at its home lets on.
use Rattle.std.proofs.Common.{◌≡◌, ℕ, ◌+◌, ℤ, List, [], ◌∷◌, ◌++◌, Option, Some, refl, sym, ap, ◌∙◌, subst}
use Rattle.std.specs.Prelude.{slice_get}
use Rattle.region_forms.specs.Form.{TypeRow, destroy, leave, Cleanup, destroy_scope, destroy_part, free_object, leave_handler, Clauses, no_clauses, clause_then}
use Rattle.region_forms.specs.Guard.{types_of}
use Rattle.linear_forms.specs.Linear.{FunctionCode, plain, jump_filter, free, resume}
use Rattle.linear_forms.specs.Tables.{Cover, Sense, cleanup, clause, list_of, look_up}
use Rattle.linear_forms.specs.Verdict.{Verdict, pad_verdict}
use Rattle.linear_forms.specs.Sites.{Placed}
use Rattle.linear_forms.specs.CodeRuns.{HasAt}
use Rattle.linear_forms.specs.Means.{Means, AllMean}
use Rattle.linear_forms.specs.Agrees.{IsSited}
use Rattle.linear_forms.specs.Emission.{Emitting, outward, chain_of, guarded, cleaned, pad_cleanup, filters_of}
use Rattle.linear_forms.specs.Code.{clause_tests}
use Rattle.cost_paths.proofs.Ranks.{alone}
use Rattle.flight_homes.specs.Homes.{GoesOnAs}
use Rattle.flight_homes.specs.LetsOn.{IsEntered, IsNone}
use Rattle.flight_homes.proofs.LetsOn.{all_pads_let_on}
use Rattle.flight_homes.specs.Places.{home_in, left_in}
use Rattle.flight_homes.proofs.Reading.{home_ends, left_ends, home_on, left_tests}
use Rattle.flight_homes.proofs.Fits.{none_lets_on, CoverFits}

module _ (rows : List TypeRow) (senses : ℤ → Sense) (g : FunctionCode) (em : Emitting) where
  -- a cleanup of a pad
  cleanup_home : (cl : Cleanup) (p : ℕ) → slice_get g.ops p ≡ Some (pad_cleanup cl).op → home_in g p ≡ home_in g (p + 1)
  cleanup_home (destroy_scope q d) p e = home_on g p (plain (destroy q d)) e refl
  cleanup_home (destroy_part q d) p e = home_on g p (plain (destroy q d)) e refl
  cleanup_home (free_object s) p e = home_on g p (free s) e refl
  cleanup_home leave_handler p e = home_on g p (plain leave) e refl

  pub cleaned_fits : (c : Cover) (cl : Cleanup) (p s : ℕ) → IsSited c → Means senses em.filter cleanup → slice_get g.ops (p + 1) ≡ Some (pad_cleanup cl).op → slice_get g.ops (p + 1 + 1) ≡ Some (resume s) →
      look_up g.sites (p + 1 + 1) ≡ c → CoverFits rows senses g (cleaned em p c)
  cleaned_fits c cl p s sited means here ends covers = λ t v e entered none.
      let home = cleanup_home cl (p + 1) here ∙ home_ends g (p + 1 + 1) s ends in
      let at : look_up g.sites (home_in g (p + 1)) ≡ c = ap (look_up g.sites) home ∙ covers in
      subst (GoesOnAs rows senses t v) (sym at) ((all_pads_let_on rows senses t c).cleanups (em.filter cleanup) v sited means e entered)

  -- the tests of clauses, behind which the rest goes on outwards
  pub record Tested (p s : ℕ) (cs : Clauses) (c : Cover) : Type 0 where
    pub home : look_up g.sites (home_in g p) ≡ c
    pub left : left_in g p ≡ filters_of em (types_of cs)

  pub tested : (cs : Clauses) (c : Cover) (l p s : ℕ) (rest : List Placed) → HasAt (alone g) 0 p (clause_tests em l cs ++ outward (resume s) c ∷ rest) → Tested p s cs c
  tested no_clauses c l p s rest has = record { home = ap (look_up g.sites) (home_ends g p s has.0) ∙ has.1; left = left_ends g p s has.0 }
  tested (clause_then t x r cs) c l p s rest has =
      let n = em.filter (clause t) in
      let behind = tested cs c (l + 1) (p + 1) s rest has.3 in
      record {
        home = ap (look_up g.sites) (home_on g p (jump_filter em.selector n l) has.0 refl) ∙ behind.home;
        left = left_tests g p em.selector l n has.0 ∙ ap (λ ns. n ∷ ns) behind.left;
      }

  caught_lets_on : (t : Option ℕ) (c : Cover) (ts : List (Option ℕ)) (v : Verdict) → IsSited c → AllMean senses em.filter ts → pad_verdict rows senses (filters_of em ts ++ chain_of c) t ≡ v → IsEntered v →
      IsNone v (filters_of em ts) → GoesOnAs rows senses t v c
  caught_lets_on t c [] v sited means e entered none = none_lets_on rows senses t c v sited e entered
  caught_lets_on t c (u ∷ us) v sited means e entered none = (all_pads_let_on rows senses t c).handlers em u us v sited means e entered none

  pub caught_fits : (c : Cover) (cs : Clauses) (p s : ℕ) → IsSited c → AllMean senses em.filter (types_of cs) → Tested (p + 1) s cs c → CoverFits rows senses g (guarded p (filters_of em (types_of cs)) c)
  caught_fits c cs p s sited means h = λ t v e entered none.
      subst (GoesOnAs rows senses t v) (sym h.home) (caught_lets_on t c (types_of cs) v sited means e entered (subst (IsNone v) h.left none))

  pub limited_fits : (c : Cover) (types : List ℕ) (p s l : ℕ) → IsSited c → Means senses em.filter (list_of types) → slice_get g.ops (p + 1) ≡ Some (jump_filter em.selector (em.filter (list_of types)) l) →
      slice_get g.ops (p + 1 + 1) ≡ Some (resume s) → look_up g.sites (p + 1 + 1) ≡ c → CoverFits rows senses g (guarded p (em.filter (list_of types) ∷ []) c)
  limited_fits c types p s l sited means test ends covers = λ t v e entered none.
      let n = em.filter (list_of types) in
      let home = home_on g (p + 1) (jump_filter em.selector n l) test refl ∙ home_ends g (p + 1 + 1) s ends in
      let left = left_tests g (p + 1) em.selector l n test ∙ ap (λ ns. n ∷ ns) (left_ends g (p + 1 + 1) s ends) in
      let at : look_up g.sites (home_in g (p + 1)) ≡ c = ap (look_up g.sites) home ∙ covers in
      subst (GoesOnAs rows senses t v) (sym at) ((all_pads_let_on rows senses t c).limits n types v sited means e entered (subst (IsNone v) left none))
