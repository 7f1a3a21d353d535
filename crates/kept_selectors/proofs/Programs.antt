-- In the code of every well-formed program what a specification passes on comes from the test of its list alone.
use Rattle.std.proofs.Common.{◌≡◌, ◌⊎◌, inl, inr, ℕ, zero, suc, ◌+◌, ℤ, negsuc, true, List, [], ◌∷◌, map, length, Option, Some, None, refl, ap, ◌∙◌, subst, arith}
use Rattle.std.specs.Prelude.{slice_get, nat_le}
use Rattle.std.proofs.lemmas.Bool.{and_parts}
use Rattle.region_forms.specs.Form.{RegionFunction, Regions}
use Rattle.region_forms.specs.WellFormed.{result_test, region_test, function_test}
use Rattle.linear_forms.specs.Linear.{FunctionCode, LinearOp, label, jump_filter, unexpected, return}
use Rattle.linear_forms.specs.Tables.{Sense, unpadded, list_of, label_place, sense_in}
use Rattle.linear_forms.specs.Filters.{types_in, lists_in}
use Rattle.linear_forms.specs.Sites.{Placed}
use Rattle.linear_forms.specs.Emission.{quiet}
use Rattle.linear_forms.specs.Code.{region_code}
use Rattle.linear_forms.specs.Unit.{emitting, placed_code, function_code, unit_of}
use Rattle.linear_forms.specs.UnitRun.{code_at, code_of}
use Rattle.linear_forms.specs.Activation.{Code}
use Rattle.linear_forms.proofs.Meaning.{filters_are_right}
use Rattle.cost_paths.proofs.Ranks.{has_front}
use Rattle.cost_paths.proofs.Missing.{function_has}
use Rattle.flight_homes.proofs.Fits.{IsSpecified, IsHandler, TestFits, AllFit, both_fit}
use Rattle.flight_homes.proofs.Programs.{every_one, all_formed, code_is}
use Rattle.flight_homes.proofs.Regions.{region_fits}
use Rattle.linear_invariant.proofs.Starts.{empty, no_code_there}
use Rattle.kept_selectors.specs.Stopping.{Stops, GoesBehind, GoesToHandler, ProgramsStop}
use Rattle.kept_selectors.proofs.Windows.{Front, AllFronted, both, front_at, region_fronted}

two_behind : (p : ℕ) → p + 1 + 1 ≡ p + 2
two_behind p = omega arith

module _ (r : Regions) (f : RegionFunction) where
  abbrev g : FunctionCode
  g = function_code f

  abbrev body : List Placed
  body = region_code (emitting f) unpadded [] 0 0 f.body

  abbrev last : List Placed
  last = quiet (return f.result) ∷ []

  list_there : (types : List ℕ) → (j : ℕ) × ((emitting f).filter (list_of types) ≡ negsuc j)
  list_there types = (_, refl)

  all_fronted : AllFronted g 0 (placed_code f)
  all_fronted =
      both g 0 (0 + length body) body last refl (region_fronted g (emitting f) list_there f.body unpadded [] 0 0 0 (has_front g 0 body last (function_has f))) (tt, tt)

  fronted : (u o s : ℕ) → slice_get g.ops u ≡ Some (unexpected o s) → Front g u
  fronted u o s e = front_at g (placed_code f) 0 u u (unexpected o s) (omega arith) all_fronted e

  module _ (formed : function_test r f ≡ true) where
    abbrev senses : ℤ → Sense
    senses = sense_in (types_in f.body) (lists_in f.body)

    all_fit : AllFit r.types senses g 0 (placed_code f)
    all_fit =
        let tested = (and_parts (result_test f.slots f.result) (region_test r f.slots 0 f.body) (and_parts (nat_le f.parameters (length f.slots)) _ formed).1).1 in
        both_fit r.types senses g 0 (0 + length body) body last refl
        (region_fits r f.slots senses g (emitting f) f.body 0 unpadded [] 0 0 tested (filters_are_right f.body) tt tt (has_front g 0 body last (function_has f))) ((tt, tt), tt)

    test_at : (is : List Placed) (q k p : ℕ) (o : LinearOp) → p ≡ q + k → AllFit r.types senses g q is → slice_get (map (λ x. x.op) is) k ≡ Some o → TestFits r.types senses g p o
    test_at [] q k p o e all there = absurd (cc there)
    test_at (x ∷ is) q zero p o e all there =
        let same : q ≡ p = omega (arith, e) in
        let is_it : x.op ≡ o = cc there in
        subst (λ n. TestFits r.types senses g n o) same (subst (TestFits r.types senses g q) is_it all.0.0)
    test_at (x ∷ is) q (suc k) p o e all there = test_at is (q + 1) k p o (omega (arith, e)) all.1 there

    test_fits : (p s l : ℕ) (z : ℤ) → slice_get g.ops p ≡ Some (jump_filter s z l) → IsSpecified r.types senses g p l ⊎ IsHandler r.types senses g l
    test_fits p s l z e = test_at (placed_code f) 0 p p (jump_filter s z l) (omega arith) all_fit e

module _ (r : Regions) where
  abbrev code : Code
  code = code_of (unit_of r)

  -- the function whose operation is at a place
  record FunctionAt (n p : ℕ) (o : LinearOp) : Type 0 where
    body : RegionFunction
    there : slice_get r.functions n ≡ Some body
    is : code_at (unit_of r) n ≡ function_code body
    op : slice_get (function_code body).ops p ≡ Some o

  function_at : (n p : ℕ) (o : LinearOp) → code.op_at n p ≡ Some o → FunctionAt n p o
  function_at n p o e = go (slice_get r.functions n) refl
    where
      go : (f : Option RegionFunction) → slice_get r.functions n ≡ f → FunctionAt n p o
      go None i = empty p o (subst (λ g. slice_get g.ops p ≡ Some o) (no_code_there r n i) e)
      go (Some f) i = record { body = f; there = i; is = code_is r n f i; op = subst (λ g. slice_get g.ops p ≡ Some o) (code_is r n f i) e }

  module _ (n : ℕ) (f : RegionFunction) (is : code_at (unit_of r) n ≡ function_code f) where
    op_there : (p : ℕ) (o : LinearOp) → slice_get (function_code f).ops p ≡ Some o → code.op_at n p ≡ Some o
    op_there p o e = ap (λ g. slice_get g.ops p) is ∙ e

    stops_there : (u : ℕ) → Front (function_code f) u → Stops code n u
    stops_there u h = record {
      test = h.test;
      place = h.place;
      slot = h.slot;
      list = h.list;
      goal = h.goal;
      tests = op_there h.test (jump_filter h.slot (negsuc h.list) h.goal) h.tests;
      object = h.object;
      lets = op_there (h.test + 1) _ h.lets;
      name = h.name;
      begins = op_there (h.test + 2) (label h.name) (subst (λ q. slice_get (function_code f).ops q ≡ Some (label h.name)) (two_behind h.test) h.begins);
    }

    label_is : (l : ℕ) → code.label_at n l ≡ label_place (function_code f).ops l 0
    label_is l = ap (λ g. label_place g.ops l 0) is

    goes_there : (p l : ℕ) → IsSpecified r.types (sense_in (types_in f.body) (lists_in f.body)) (function_code f) p l ⊎ IsHandler r.types (sense_in (types_in f.body) (lists_in f.body)) (function_code f) l → GoesBehind code n p l ⊎ GoesToHandler code n l
    goes_there p l (inl h) = inl (record {
      place = label_is l ∙ (h.place ∙ two_behind p);
      begins = op_there (p + 2) (label l) (subst (λ q. slice_get (function_code f).ops q ≡ Some (label l)) (two_behind p) h.begins);
    })
    goes_there p l (inr h) = inr (record {
      begins = ap (code.op_at n) (label_is l) ∙ op_there (label_place (function_code f).ops l 0) (label l) h.begins;
      slot = h.slot;
      object = h.object;
      binds = ap (λ q. code.op_at n (q + 1)) (label_is l) ∙ op_there (label_place (function_code f).ops l 0 + 1) _ h.binds;
    })

pub programs_stop : ProgramsStop
programs_stop r formed = record {
  stops = λ n u o s e. let it = function_at r n u (unexpected o s) e in stops_there r n it.body it.is u (fronted r it.body u o s it.op);
  tests = λ n p s l z e.
      let it = function_at r n p (jump_filter s z l) e in
      goes_there r n it.body it.is p l (test_fits r it.body (every_one (function_test r) r.functions n it.body (all_formed r formed) it.there) p s l z it.op);
}
