-- What pads let on: an exception that a pad does not stop by a filter of its own goes on as the cover of its surroundings says.
use Rattle.std.specs.Prelude.{◌≡◌, ◌⊎◌, ℕ, ℤ, false, List, [], ◌∷◌, ◌++◌, Option}
use Rattle.region_forms.specs.Form.{TypeRow}
use Rattle.linear_forms.specs.Tables.{Cover, Sense, cleanup, list_of}
use Rattle.linear_forms.specs.Verdict.{Verdict, target, clean, pad_verdict}
use Rattle.linear_forms.specs.Emission.{Emitting, chain_of, with_cleanup, filters_of}
use Rattle.linear_forms.specs.Means.{AllMean}
use Rattle.linear_forms.specs.Agrees.{IsSited}
use Rattle.flight_homes.specs.Homes.{is_one_of, GoesOnAs}

-- a pad is entered: for a cleanup, or with the number of a filter
abbrev pub IsEntered : Verdict → Type 0
IsEntered v = (v ≡ clean) ⊎ ((n : ℤ) × (v ≡ target n))

-- it is no filter of these
abbrev pub IsNone : Verdict → List ℤ → Type 0
IsNone v own = (n : ℤ) → v ≡ target n → is_one_of n own ≡ false

-- a pad for a cleanup lets all on, one for clauses what none of them takes, and one for a specification what it allows
pub record PadsLetOn (rows : List TypeRow) (senses : ℤ → Sense) (t : Option ℕ) (c : Cover) : Type 0 where
  pub cleanups : (n : ℤ) (v : Verdict) → IsSited c → senses n ≡ cleanup → pad_verdict rows senses (with_cleanup n (chain_of c)) t ≡ v → IsEntered v → GoesOnAs rows senses t v c
  pub handlers : (em : Emitting) (u : Option ℕ) (us : List (Option ℕ)) (v : Verdict) → IsSited c → AllMean senses em.filter (u ∷ us) →
      pad_verdict rows senses (filters_of em (u ∷ us) ++ chain_of c) t ≡ v → IsEntered v → IsNone v (filters_of em (u ∷ us)) → GoesOnAs rows senses t v c
  pub limits : (n : ℤ) (types : List ℕ) (v : Verdict) → IsSited c → senses n ≡ list_of types → pad_verdict rows senses (n ∷ chain_of c) t ≡ v → IsEntered v → IsNone v (n ∷ []) →
      GoesOnAs rows senses t v c

abbrev pub AllPadsLetOn : Type 0
AllPadsLetOn = (rows : List TypeRow) (senses : ℤ → Sense) (t : Option ℕ) (c : Cover) → PadsLetOn rows senses t c
