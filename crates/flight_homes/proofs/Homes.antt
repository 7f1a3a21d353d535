-- What the operations of a function say of homes and filters is right where a call carries what a pad caught.
use Rattle.std.proofs.Common.{◌≡◌, ◌⊎◌, inl, inr, ℕ, zero, suc, ◌+◌, ℤ, Bool, true, List, [], ◌∷◌, map, length, Option, Some, refl, sym, ap, ◌∙◌, subst, arith}
use Rattle.std.specs.Prelude.{slice_get, nat_le}
use Rattle.std.proofs.lemmas.Bool.{and_parts}
use Rattle.region_forms.specs.Form.{TypeRow, RegionFunction, Regions}
use Rattle.region_forms.specs.WellFormed.{result_test, region_test, function_test}
use Rattle.linear_forms.specs.Linear.{FunctionCode, LinearOp, plain, label, jump, jump_zero, pad, jump_filter, free, resume, unexpected, return}
use Rattle.linear_forms.specs.Tables.{Sense, unpadded, padded, look_up, sense_in}
use Rattle.linear_forms.specs.Filters.{types_in, lists_in}
use Rattle.linear_forms.specs.Verdict.{Verdict, pad_verdict}
use Rattle.linear_forms.specs.Sites.{Placed, cover_in}
use Rattle.linear_forms.specs.Emission.{quiet}
use Rattle.linear_forms.specs.Code.{region_code}
use Rattle.linear_forms.specs.Unit.{emitting, placed_code, function_code}
use Rattle.linear_forms.proofs.Merging.{sites_are_right}
use Rattle.linear_forms.proofs.Meaning.{filters_are_right}
use Rattle.cost_paths.specs.Control.{goes_on, label_of, place_of}
use Rattle.cost_paths.proofs.Ranks.{has_front}
use Rattle.cost_paths.proofs.Missing.{function_has}
use Rattle.exceptions_in_flight.specs.Carrying.{CarriesOn, Steps}
use Rattle.exceptions_in_flight.specs.Flights.{AreFlights}
use Rattle.exceptions_in_flight.proofs.Flights.{flights_are_carried}
use Rattle.flight_homes.specs.Homes.{AreHomes, GoesOnAs}
use Rattle.flight_homes.specs.LetsOn.{IsEntered, IsNone}
use Rattle.flight_homes.specs.Places.{home_in, left_in}
use Rattle.flight_homes.specs.Laws.{HomesAreFound}
use Rattle.flight_homes.proofs.Reading.{home_ends, left_ends, home_stops, left_stops, home_on, left_on, left_tests}
use Rattle.flight_homes.proofs.Fits.{IsSpecified, IsHandler, TestFits, CoverFits, AllFit, both_fit}
use Rattle.flight_homes.proofs.Regions.{region_fits}
use Rattle.flight_homes.proofs.Unhandled.{unhandled, fewer_flights, handlers_free}

module _ (rows : List TypeRow) (senses : ℤ → Sense) (g : FunctionCode) where
  -- the operation at a place fits
  test_at : (is : List Placed) (q k p : ℕ) (o : LinearOp) → p ≡ q + k → AllFit rows senses g q is → slice_get (map (λ x. x.op) is) k ≡ Some o → TestFits rows senses g p o
  test_at [] q k p o e all there = absurd (cc there)
  test_at (x ∷ is) q zero p o e all there =
      let same : q ≡ p = omega (arith, e) in
      let is_it : x.op ≡ o = cc there in
      subst (λ n. TestFits rows senses g n o) same (subst (TestFits rows senses g q) is_it all.0.0)
  test_at (x ∷ is) q (suc k) p o e all there = test_at is (q + 1) k p o (omega (arith, e)) all.1 there

  -- so does its cover
  cover_at : (is : List Placed) (q k : ℕ) → AllFit rows senses g q is → CoverFits rows senses g (cover_in is k)
  cover_at [] q k all = tt
  cover_at (x ∷ is) q zero all = all.0.1
  cover_at (x ∷ is) q (suc k) all = cover_at is (q + 1) k all.1

module _ (r : Regions) (f : RegionFunction) (formed : function_test r f ≡ true) where
  abbrev g : FunctionCode
  g = function_code f

  abbrev senses : ℤ → Sense
  senses = sense_in (types_in f.body) (lists_in f.body)

  all_fit : AllFit r.types senses g 0 (placed_code f)
  all_fit =
      let tested = (and_parts (result_test f.slots f.result) (region_test r f.slots 0 f.body) (and_parts (nat_le f.parameters (length f.slots)) _ formed).1).1 in
      let body = region_code (emitting f) unpadded [] 0 0 f.body in
      let last = quiet (return f.result) ∷ [] in
      both_fit r.types senses g 0 (0 + length body) body last refl
      (region_fits r f.slots senses g (emitting f) f.body 0 unpadded [] 0 0 tested (filters_are_right f.body) tt tt (has_front g 0 body last (function_has f))) ((tt, tt), tt)

  test_fits : (p : ℕ) (o : LinearOp) → slice_get g.ops p ≡ Some o → TestFits r.types senses g p o
  test_fits p o e = test_at r.types senses g (placed_code f) 0 p p o (omega arith) all_fit e

  covers_fit : (p : ℕ) → CoverFits r.types senses g (look_up g.sites p)
  covers_fit p = subst (CoverFits r.types senses g) (sym (sites_are_right.said (placed_code f) p)) (cover_at r.types senses g (placed_code f) 0 p all_fit)

  abbrev found : ℕ → Bool
  found = (flights_are_carried f).0

  abbrev flights : AreFlights f found
  flights = (flights_are_carried f).1

  abbrev carries : ℕ → Bool
  carries = unhandled g found

  fewer : AreFlights f carries
  fewer = fewer_flights f found flights

  -- where a test goes that is carried on, only a specification's goes
  specified : (p l : ℕ) → IsSpecified r.types senses g p l ⊎ IsHandler r.types senses g l → carries (place_of g l) ≡ true → IsSpecified r.types senses g p l
  specified p l (inl s) there = s
  specified p l (inr h) there = handlers_free f found flights (place_of g l) l h.slot h.object h.begins h.binds there

  -- the home is the same where it is stopped
  stopped_home : (p l s : ℕ) (n : ℤ) → slice_get g.ops p ≡ Some (jump_filter s n l) → IsSpecified r.types senses g p l → home_in g (place_of g l) ≡ home_in g p
  stopped_home p l s n e t =
      let first = home_on g p (jump_filter s n l) e refl ∙ home_ends g (p + 1) t.slot t.on in
      let second = ap (home_in g) t.place ∙ home_on g (p + 1 + 1) (label l) t.begins refl ∙ home_stops g (p + 1) t.object t.selector t.stops in
      second ∙ sym first

  stopped_left : (p l s : ℕ) (n : ℤ) → slice_get g.ops p ≡ Some (jump_filter s n l) → IsSpecified r.types senses g p l → left_in g (place_of g l) ≡ n ∷ []
  stopped_left p l s n e t = ap (left_in g) t.place ∙ left_on g (p + 1 + 1) (label l) t.begins refl tt ∙ left_stops g p t.object t.selector s l n e t.stops

  some_number : (a b : ℕ) → Some a ≡ Some b → a ≡ b
  some_number a b e = cc e

  stays : (p q : ℕ) (o : LinearOp) → slice_get g.ops p ≡ Some o → Steps g p o q → carries p ≡ true → carries q ≡ true → home_in g q ≡ home_in g p
  stays p q o e (inl s) here there = ap (home_in g) s.1 ∙ sym (home_on g p o e s.0)
  stays p q o e (inr s) here there = by o e (fewer.form p o e here) s.1
    where
      by : (o : LinearOp) → slice_get g.ops p ≡ Some o → CarriesOn (emitting f) o → label_of o ≡ Some s.0 → home_in g q ≡ home_in g p
      by (jump_filter t n l) e form same =
          let place : q ≡ place_of g l = s.2 ∙ ap (place_of g) (sym (some_number l s.0 same)) in
          ap (home_in g) place ∙ stopped_home p l t n e (specified p l (test_fits p (jump_filter t n l) e) (ap carries (sym place) ∙ there))
      by (plain o) e form same = absurd (cc same)
      by (label l) e form same = absurd (cc same)
      by (jump l) e form same = absurd form
      by (jump_zero v l) e form same = absurd form
      by (pad a b) e form same = absurd form
      by (free a) e form same = absurd (cc same)
      by (resume a) e form same = absurd (cc same)
      by (unexpected a b) e form same = absurd (cc same)
      by (return a) e form same = absurd form

  others : (p : ℕ) (o : LinearOp) → slice_get g.ops p ≡ Some o → goes_on o ≡ true → ((s l : ℕ) (n : ℤ) → o ≡ jump_filter s n l → ⊥) → left_in g (p + 1) ≡ left_in g p
  others p (jump_filter s n l) e go none = absurd (none s l n refl)
  others p (plain o) e go none = sym (left_on g p (plain o) e go tt)
  others p (label l) e go none = sym (left_on g p (label l) e go tt)
  others p (jump l) e go none = absurd (cc go)
  others p (jump_zero v l) e go none = sym (left_on g p (jump_zero v l) e go tt)
  others p (pad a b) e go none = sym (left_on g p (pad a b) e go tt)
  others p (free a) e go none = sym (left_on g p (free a) e go tt)
  others p (resume a) e go none = absurd (cc go)
  others p (unexpected a b) e go none = absurd (cc go)
  others p (return a) e go none = absurd (cc go)

  lets_on : (p q : ℕ) (chain : List ℤ) (t : Option ℕ) (v : Verdict) → look_up g.sites p ≡ padded q chain → pad_verdict r.types senses chain t ≡ v → IsNone v (left_in g (q + 1)) → IsEntered v →
      GoesOnAs r.types senses t v (look_up g.sites (home_in g (q + 1)))
  lets_on p q chain t v covers judged none entered = subst (CoverFits r.types senses g) covers (covers_fit p) t v judged entered none

  are_homes : AreHomes r.types senses f carries (home_in g) (left_in g)
  are_homes = record {
    flights = fewer;
    ends = λ p s e. (home_ends g p s e, left_ends g p s e);
    stays = stays;
    tests = λ p s l n e here. left_tests g p s l n e;
    taken = λ p s l n e here there. stopped_left p l s n e (specified p l (test_fits p (jump_filter s n l) e) there);
    others = λ p o e here go none. others p o e go none;
    lets_on = lets_on;
  }

pub homes_are_found : HomesAreFound
homes_are_found r f formed = (carries r f formed, are_homes r f formed)
