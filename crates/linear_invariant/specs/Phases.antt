-- At which places of linear code a call carries what a pad caught, read off its operations: behind a pad up to what goes on outwards, and in front of what
-- passes on what a specification stopped.
use Rattle.std.specs.Prelude.{ℕ, zero, suc, Bool, true, false, List, [], ◌∷◌}
use Rattle.region_forms.specs.Form.{destroy, leave}
use Rattle.linear_forms.specs.Linear.{LinearOp, plain, label, pad, jump_filter, free, resume, unexpected}

-- what an operation is there
pub data Kind : Type 0 where
  opens : Kind
  tests : Kind
  ends : Kind
  passes : Kind
  cleans : Kind
  marks : Kind
  other : Kind

abbrev pub kind_of : LinearOp → Kind
kind_of (plain (destroy p n)) = cleans
kind_of (plain leave) = cleans
kind_of (free s) = cleans
kind_of (label l) = marks
kind_of (pad o s) = opens
kind_of (jump_filter s z l) = tests
kind_of (resume s) = ends
kind_of (unexpected o s) = passes
kind_of o = other

-- behind no pad; behind one; behind a test, or a cleanup; behind what goes on outwards, and a label there
pub data Phase : Type 0 where
  off : Phase
  opened : Phase
  tested : Phase
  cleaned : Phase
  passed : Phase
  labelled : Phase

abbrev pub opens_now : Kind → Phase
opens_now opens = opened
opens_now k = off

abbrev pub next_phase : Phase → Kind → Phase
next_phase off k = opens_now k
next_phase opened tests = tested
next_phase opened ends = passed
next_phase opened k = cleaned
next_phase tested tests = tested
next_phase tested k = passed
next_phase cleaned k = passed
next_phase passed marks = labelled
next_phase passed k = opens_now k
next_phase labelled k = opens_now k

-- the first of these operations is at such a place
abbrev pub first_passes : List Kind → Bool
first_passes [] = false
first_passes (passes ∷ ks) = true
first_passes (k ∷ ks) = false

abbrev pub carries_first : Phase → List Kind → Bool
carries_first off ks = false
carries_first opened ks = true
carries_first tested ks = true
carries_first cleaned ks = true
carries_first passed [] = false
carries_first passed (marks ∷ ks) = first_passes ks
carries_first passed (k ∷ ks) = false
carries_first labelled ks = first_passes ks

-- that at a place is
abbrev pub carries_in : Phase → List Kind → ℕ → Bool
carries_in ph [] p = false
carries_in ph (k ∷ ks) zero = carries_first ph (k ∷ ks)
carries_in ph (k ∷ ks) (suc p) = carries_in (next_phase ph k) ks p
