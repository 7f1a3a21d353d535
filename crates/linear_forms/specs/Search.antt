-- The first phase: the search for what stops an exception (Itanium C++ ABI: Exception Handling, level I, "Throwing an Exception"). It goes from frame to frame outwards
-- and changes nothing. The target is a frame, by the number of frames below it.
use Rattle.std.specs.Prelude.{ℕ, ℤ, List, [], ◌∷◌, length, Option, Some, None}
use Rattle.region_forms.specs.Form.{TypeRow}
use Rattle.linear_forms.specs.Tables.{Cover, bare, unpadded, padded, Sense}
use Rattle.linear_forms.specs.Verdict.{Verdict, target, no_way, clean, nothing_here, pad_verdict}
use Rattle.linear_forms.specs.Stub.{Function}
use Rattle.linear_forms.specs.Activation.{Code, Activation, look, sense}

-- the target by the verdict of a pad with d frames below, where `rest` is the target farther out
abbrev pub found_by : Verdict → ℕ → Option ℕ → Option ℕ
found_by (target n) d rest = Some d
found_by no_way d rest = None
found_by clean d rest = rest
found_by nothing_here d rest = rest

-- the target by a cover, for an exception of a type; nothing comes out where there is no site
abbrev pub found_at : List TypeRow → (ℤ → Sense) → Cover → Option ℕ → ℕ → Option ℕ → Option ℕ
found_at rows senses bare t d rest = None
found_at rows senses unpadded t d rest = rest
found_at rows senses (padded p chain) t d rest = found_by (pad_verdict rows senses chain t) d rest

-- the target among calls that wait
abbrev pub found_above : Code → Option ℕ → List Activation → Option ℕ
found_above code t [] = None
found_above code t (a ∷ fs) =
    found_at code.rows (sense code a.function) (look code a.function a.place) t (length fs) (found_above code t fs)

-- the target from a cover in a function, with these frames below
abbrev pub found : Code → Function → Cover → Option ℕ → List Activation → Option ℕ
found code f cover t fs = found_at code.rows (sense code f) cover t (length fs) (found_above code t fs)
