-- A forced unwind (Itanium C++ ABI: Exception Handling, level I, "Forced unwinding"): every frame is unwound, and behind the last one the program ends.
use Rattle.std.specs.Prelude.{ℕ, ℤ, pos, Bool, true, false, List, [], ◌∷◌}
use Rattle.meaning_forms.specs.Outcome.{exit}
use Rattle.region_forms.specs.World.{unwinding, Frame, World}
use Rattle.linear_forms.specs.Tables.{Cover, bare, unpadded, padded}
use Rattle.linear_forms.specs.Verdict.{has_cleanup}
use Rattle.linear_forms.specs.Stub.{Function}
use Rattle.linear_forms.specs.Activation.{Code, Activation, Next, finishes, by_program, fetch, look, sense}
use Rattle.linear_forms.specs.Unwinding.{pad_entered, terminated_in}

-- a pad with a cleanup is entered, one without is passed
abbrev pub forced_by : Code → Bool → ℕ → ℤ → Function → Frame → List Activation → World → Next → Next
forced_by code true p n f x fs w rest = pad_entered (fetch code f p) (unwinding n) (pos 0) f p x fs w
forced_by code false p n f x fs w rest = rest

-- one call is unwound from a cover in it, where `rest` unwinds those that wait; a place without a site calls terminate
abbrev pub forced_at : Code → Cover → ℤ → Function → Frame → List Activation → World → Next → Next
forced_at code bare n f x fs w rest = terminated_in f x fs w
forced_at code unpadded n f x fs w rest = rest
forced_at code (padded p chain) n f x fs w rest = forced_by code (has_cleanup (sense code f) chain) p n f x fs w rest

-- calls that wait are unwound
abbrev pub forced_above : Code → ℤ → List Activation → World → Next
forced_above code n [] w = finishes (by_program (exit n)) w
forced_above code n (a ∷ fs) w = forced_at code (look code a.function a.place) n a.function a.frame fs w (forced_above code n fs w)

-- a forced unwind goes on, from a cover in the call that runs
abbrev pub force : Code → Cover → ℤ → Function → Frame → List Activation → World → Next
force code cover n f x fs w = forced_at code cover n f x fs w (forced_above code n fs w)
