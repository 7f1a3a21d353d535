-- What a chain of filters says of an exception (Itanium C++ ABI, "Exception Handling Tables" and "The Personality Routine"). A foreign
-- exception is one without a type.
use Rattle.std.specs.Prelude.{ℕ, ℤ, Bool, true, false, List, [], ◌∷◌, Option, Some, None, if◌then◌else◌}
use Rattle.region_forms.specs.Form.{TypeRow}
use Rattle.region_forms.specs.Guard.{matches, allows}
use Rattle.linear_forms.specs.Tables.{Sense, cleanup, clause, list_of, no_sense}

-- a handler or a specification's list stops the exception, by its filter; nothing can go on; there is a cleanup; or nothing
pub data Verdict : Type 0 where
  target : ℤ → Verdict
  no_way : Verdict
  clean : Verdict
  nothing_here : Verdict

-- a cleanup counts where nothing else decides
abbrev pub or_clean : Verdict → Verdict
or_clean nothing_here = clean
or_clean v = v

-- one filter, then the rest of the chain; a foreign exception can't pass a specification (profile)
abbrev pub judged : List TypeRow → Option ℕ → ℤ → Sense → Verdict → Verdict
judged rows t n cleanup rest = or_clean rest
judged rows t n (clause u) rest = if matches rows t u then target n else rest
judged rows None n (list_of types) rest = no_way
judged rows (Some t) n (list_of types) rest = if allows rows types (Some t) then rest else target n
judged rows t n no_sense rest = rest

-- the verdict of filters: the first that decides
abbrev pub verdict : List TypeRow → (ℤ → Sense) → List ℤ → Option ℕ → Verdict
verdict rows sense [] t = nothing_here
verdict rows sense (n ∷ chain) t = judged rows t n (sense n) (verdict rows sense chain t)

-- the verdict of a pad: one without filters is a cleanup
abbrev pub pad_verdict : List TypeRow → (ℤ → Sense) → List ℤ → Option ℕ → Verdict
pad_verdict rows sense [] t = clean
pad_verdict rows sense (n ∷ chain) t = verdict rows sense (n ∷ chain) t

-- a filter of a cleanup
abbrev pub is_cleanup : Sense → Bool
is_cleanup cleanup = true
is_cleanup _ = false

-- one of the filters is a cleanup
abbrev pub some_cleanup : (ℤ → Sense) → List ℤ → Bool
some_cleanup sense [] = false
some_cleanup sense (n ∷ chain) = if is_cleanup (sense n) then true else some_cleanup sense chain

-- a forced unwind sees only whether a pad has a cleanup
abbrev pub has_cleanup : (ℤ → Sense) → List ℤ → Bool
has_cleanup sense [] = true
has_cleanup sense (n ∷ chain) = some_cleanup sense (n ∷ chain)
