-- What the calls of laws state.
use Rattle.std.specs.Prelude.{◌≡◌, ◌⊎◌, ℕ, ℤ, pos, List, ◌∷◌, ◌++◌, length, Option, Some}
use Rattle.region_forms.specs.World.{flying, World, type_at}
use Rattle.region_forms.specs.Effect.{flies}
use Rattle.linear_forms.specs.Tables.{padded}
use Rattle.linear_forms.specs.Verdict.{target, clean}
use Rattle.linear_forms.specs.Activation.{Code, Activation, Next, fetch, look}
use Rattle.linear_forms.specs.Search.{found, found_above}
use Rattle.linear_forms.specs.Unwinding.{pad_entered, unwound_above, unwind, raise}
use Rattle.exceptions_in_flight.specs.Targets.{cover_of, judged_by, AimsAt, HasTarget}

-- what the search finds among open calls stops the exception, and nothing else does
pub record SearchAims (code : Code) (t : Option ℕ) (d : ℕ) (frames : List Activation) : Type 0 where
  pub aims : found_above code t frames ≡ Some d → AimsAt code t d frames
  pub finds : AimsAt code t d frames → found_above code t frames ≡ Some d

abbrev pub SearchesAim : Type 0
SearchesAim = (code : Code) (t : Option ℕ) (d : ℕ) (frames : List Activation) → SearchAims code t d frames

-- the call is one of them
abbrev pub AimsHaveTargets : Type 0
AimsHaveTargets = (code : Code) (t : Option ℕ) (d : ℕ) (frames : List Activation) → AimsAt code t d frames → HasTarget code t d frames

-- An unwind among open calls comes to a pad of one of them: at the target with the number of its filter, and inside it for a cleanup, with 0,
-- and then the target is farther out.
pub record ComesToPad (code : Code) (t : Option ℕ) (d e : ℕ) (frames : List Activation) (w : World) (next : Next) : Type 0 where
  pub inner : List Activation
  pub call : Activation
  pub outer : List Activation
  pub split : frames ≡ inner ++ call ∷ outer
  pub pad : ℕ
  pub chain : List ℤ
  pub covers : cover_of code call ≡ padded pad chain
  pub number : ℤ
  pub why : ((length outer ≡ d) × (judged_by code call t chain ≡ target number)) ⊎ ((judged_by code call t chain ≡ clean) × (number ≡ pos 0) × AimsAt code t d outer)
  pub comes : next ≡ pad_entered (fetch code call.function pad) (flying e d) number call.function pad call.frame outer w

abbrev pub UnwindsComeToPads : Type 0
UnwindsComeToPads = (code : Code) (d e : ℕ) (frames : List Activation) (w : World) → AimsAt code (type_at w e) d frames → ComesToPad code (type_at w e) d e frames w (unwound_above code d e frames w)

-- so does an exception that is raised and has a target, and one that goes on from the place of a call with which it aims at one
pub record FlightsCome (code : Code) (e : ℕ) (a : Activation) (fs : List Activation) (w : World) : Type 0 where
  pub raised : (d : ℕ) → found code a.function (look code a.function a.place) (type_at w e) fs ≡ Some d → ComesToPad code (type_at w e) d e (a ∷ fs) (flies e w) (raise code e a fs w)
  pub goes_on : (d : ℕ) → AimsAt code (type_at w e) d (a ∷ fs) → ComesToPad code (type_at w e) d e (a ∷ fs) w (unwind code (look code a.function a.place) d e a.function a.frame fs w)

abbrev pub FlightsComeToPads : Type 0
FlightsComeToPads = (code : Code) (e : ℕ) (a : Activation) (fs : List Activation) (w : World) → FlightsCome code e a fs w
