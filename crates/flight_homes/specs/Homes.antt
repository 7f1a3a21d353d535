-- Where a call goes on outwards with what a landing pad caught, and which filters of the pad are still to be tested.
use Rattle.std.specs.Prelude.{◌≡◌, ◌⊎◌, ℕ, ◌+◌, ℤ, Bool, true, false, List, [], ◌∷◌, Option, Some, None, slice_get}
use Rattle.meaning_forms.specs.Arithmetic.{int_equal}
use Rattle.meaning_forms.specs.Class.{some_of}
use Rattle.region_forms.specs.Form.{TypeRow, RegionFunction}
use Rattle.linear_forms.specs.Linear.{LinearOp, plain, pad, jump_filter, resume, unexpected}
use Rattle.linear_forms.specs.Tables.{Cover, bare, unpadded, padded, Sense, look_up}
use Rattle.linear_forms.specs.Verdict.{Verdict, target, no_way, clean, nothing_here, pad_verdict}
use Rattle.linear_forms.specs.Unit.{emitting, function_code}
use Rattle.cost_paths.specs.Control.{goes_on, place_of}
use Rattle.exceptions_in_flight.specs.Carrying.{Steps}
use Rattle.exceptions_in_flight.specs.Flights.{AreFlights}

-- a filter is one of these
abbrev pub is_one_of : ℤ → List ℤ → Bool
is_one_of n own = some_of (int_equal n) own

-- What a cover says of an exception that a pad let on: a pad that stops it has the same number for it, and any other lets it pass.
abbrev pub GoesOnAs : List TypeRow → (ℤ → Sense) → Option ℕ → Verdict → Cover → Type 0
GoesOnAs rows senses t v bare = ⊥
GoesOnAs rows senses t (target n) unpadded = ⊥
GoesOnAs rows senses t (target n) (padded q chain) = pad_verdict rows senses chain t ≡ target n
GoesOnAs rows senses t clean unpadded = Unit {0}
GoesOnAs rows senses t clean (padded q chain) = (pad_verdict rows senses chain t ≡ clean) ⊎ (pad_verdict rows senses chain t ≡ nothing_here)
GoesOnAs rows senses t v c = ⊥

-- The places from a pad up to what ends its cleanup have a home, the place of that end, and the filters of the pad that are tested from there on.
-- What a pad lets on it lets on at its home: an exception that is not stopped at this pad by a filter of its own goes on there as its chain says.
pub record AreHomes (rows : List TypeRow) (senses : ℤ → Sense) (f : RegionFunction) (carries : ℕ → Bool) (home : ℕ → ℕ) (left : ℕ → List ℤ) : Type 0 where
  pub flights : AreFlights f carries
  pub ends : (p s : ℕ) → slice_get (function_code f).ops p ≡ Some (resume s) → (home p ≡ p) × (left p ≡ [])
  pub stays : (p q : ℕ) (o : LinearOp) → slice_get (function_code f).ops p ≡ Some o → Steps (function_code f) p o q → carries p ≡ true → carries q ≡ true → home q ≡ home p
  pub tests : (p s l : ℕ) (n : ℤ) → slice_get (function_code f).ops p ≡ Some (jump_filter s n l) → carries p ≡ true → left p ≡ n ∷ left (p + 1)
  pub taken : (p s l : ℕ) (n : ℤ) → slice_get (function_code f).ops p ≡ Some (jump_filter s n l) → carries p ≡ true → carries (place_of (function_code f) l) ≡ true →
      left (place_of (function_code f) l) ≡ n ∷ []
  pub others : (p : ℕ) (o : LinearOp) → slice_get (function_code f).ops p ≡ Some o → carries p ≡ true → goes_on o ≡ true → ((s l : ℕ) (n : ℤ) → o ≡ jump_filter s n l → ⊥) → left (p + 1) ≡ left p
  pub lets_on : (p q : ℕ) (chain : List ℤ) (t : Option ℕ) (v : Verdict) → look_up (function_code f).sites p ≡ padded q chain → pad_verdict rows senses chain t ≡ v →
      ((n : ℤ) → v ≡ target n → is_one_of n (left (q + 1)) ≡ false) → ((v ≡ clean) ⊎ ((n : ℤ) × (v ≡ target n))) →
      GoesOnAs rows senses t v (look_up (function_code f).sites (home (q + 1)))
