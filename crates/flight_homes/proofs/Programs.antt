-- Each function of a well-formed program has homes.
use Rattle.std.proofs.Common.{◌≡◌, ℕ, zero, suc, Bool, true, false, List, [], ◌∷◌, length, Option, Some, None, refl, sym, ap, ◌∙◌, subst}
use Rattle.std.specs.Prelude.{slice_get, unwrap_or, nat_lt, ◌==◌}
use Rattle.std.proofs.lemmas.Bool.{and_parts}
use Rattle.region_forms.specs.Form.{RegionFunction, Regions, function_at}
use Rattle.region_forms.specs.WellFormed.{every, function_test, rows_test, is_well_formed}
use Rattle.linear_forms.specs.Linear.{FunctionCode}
use Rattle.linear_forms.specs.Tables.{sense_in}
use Rattle.linear_forms.specs.Unit.{emitting, function_code, unit_of}
use Rattle.linear_forms.specs.UnitRun.{no_code, code_at}
use Rattle.linear_forms.proofs.Lists.{mapped}
use Rattle.flight_homes.specs.Homes.{AreHomes}
use Rattle.flight_homes.specs.Keeps.{Carrying}
use Rattle.flight_homes.specs.Places.{home_in, left_in}
use Rattle.flight_homes.specs.Laws.{ProgramsCarry}
use Rattle.flight_homes.proofs.Homes.{homes_are_found}

pub every_one : {A : Type 0} (test : A → Bool) (xs : List A) (n : ℕ) (x : A) → every test xs ≡ true → slice_get xs n ≡ Some x → test x ≡ true
every_one test [] n x h e = absurd (cc e)
every_one test (y ∷ xs) zero x h e = let same : y ≡ x = cc e in ap test (sym same) ∙ (and_parts (test y) (every test xs) h).0
every_one test (y ∷ xs) (suc n) x h e = every_one test xs n x (and_parts (test y) (every test xs) h).1 e

pub all_formed : (r : Regions) → is_well_formed r ≡ true → every (function_test r) r.functions ≡ true
all_formed r formed =
    let rest = (and_parts (nat_lt r.main (length r.functions)) _ formed).1 in
    (and_parts (rows_test 0 r.types) (every (function_test r) r.functions) (and_parts ((function_at r r.main).parameters == 0) _ rest).1).1

-- the linear code of a function by its number
pub code_is : (r : Regions) (n : ℕ) (f : RegionFunction) → slice_get r.functions n ≡ Some f → code_at (unit_of r) n ≡ function_code f
code_is r n f e = ap (λ o. unwrap_or o no_code) (mapped function_code r.functions n f e)

-- the slot for objects of a function that is there
abbrev object_of : Option RegionFunction → ℕ
object_of None = 0
object_of (Some f) = (emitting f).object

abbrev selector_of : Option RegionFunction → ℕ
selector_of None = 0
selector_of (Some f) = (emitting f).selector

module _ (r : Regions) where
  -- homes with what is known of a function's code
  abbrev Right : RegionFunction → FunctionCode → (ℕ → Bool) → Type 0
  Right f g carries = AreHomes r.types (sense_in g.types g.lists) f carries (home_in g) (left_in g)

  -- the places of a function, if it is there
  record Placing (o : Option RegionFunction) : Type 0 where
    carries : ℕ → Bool
    right : (f : RegionFunction) → o ≡ Some f → Right f (function_code f) carries

  placing : (o : Option RegionFunction) → ((f : RegionFunction) → o ≡ Some f → function_test r f ≡ true) → Placing o
  placing None tested = record { carries = λ p. false; right = λ f e. absurd (cc e) }
  placing (Some f) tested =
      let found = homes_are_found r f (tested f refl) in
      record { carries = found.0; right = λ h e. let same : f ≡ h = cc e in subst (λ x. Right x (function_code x) found.0) same found.1 }

pub programs_carry : ProgramsCarry
programs_carry r formed = (k, record { homes = homes; slots = λ n f e. (ap object_of e, ap selector_of e) })
  where
    places : (n : ℕ) → Placing r (slice_get r.functions n)
    places n = placing r (slice_get r.functions n) (λ f e. every_one (function_test r) r.functions n f (all_formed r formed) e)

    k : Carrying
    k = record {
      carries = λ n. (places n).carries;
      home = λ n. home_in (code_at (unit_of r) n);
      left = λ n. left_in (code_at (unit_of r) n);
      object = λ n. object_of (slice_get r.functions n);
      selector = λ n. selector_of (slice_get r.functions n);
    }

    homes : (n : ℕ) (f : RegionFunction) → slice_get r.functions n ≡ Some f → Right r f (code_at (unit_of r) n) (places n).carries
    homes n f e = subst (λ g. Right r f g (places n).carries) (sym (code_is r n f e)) ((places n).right f e)
