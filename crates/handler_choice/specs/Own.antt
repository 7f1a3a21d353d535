-- Which guards stand around the operations of the runtime's own functions (Itanium C++ ABI: Exception Handling, section 2.5.3).
use Rattle.std.specs.Prelude.{ℕ, List, [], ◌∷◌, None, slice_get, unwrap_or}
use Rattle.region_forms.specs.Guard.{Guard, clauses, everything}
use Rattle.linear_forms.specs.Stub.{Function, compiled, end_catch, terminating, call_unexpected}

-- nothing may come out
abbrev pub shut : List Guard
shut = everything ∷ []

-- Of the runtime's own functions, operation by operation: out of the destructor that end_catch calls, and of what call_unexpected throws, all may come; what
-- comes out of the unexpected handler call_unexpected stops; out of all else nothing may come.
abbrev pub own_guards : Function → List (List Guard)
own_guards (compiled n) = []
own_guards end_catch = shut ∷ [] ∷ shut ∷ shut ∷ shut ∷ shut ∷ [] ∷ []
own_guards terminating = shut ∷ shut ∷ []
own_guards call_unexpected =
    shut ∷ (clauses (None ∷ []) ∷ []) ∷ shut ∷ shut ∷ shut ∷ shut ∷ shut ∷ shut ∷ shut ∷ shut ∷ [] ∷ shut ∷ shut ∷ [] ∷ shut ∷ shut ∷ shut ∷ [] ∷ []

abbrev pub own_guards_at : Function → ℕ → List Guard
own_guards_at f p = unwrap_or (slice_get (own_guards f) p) shut
