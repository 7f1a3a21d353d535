-- The guard that stops an exception, among those of the open calls (ISO/IEC 14882:2003, 15.3/2 to 15.3/9, 15.5.1).
use Rattle.std.specs.Prelude.{◌≡◌, ℕ, List, [], ◌∷◌, length, Option, Some, None, find, if◌then◌else◌}
use Rattle.region_forms.specs.Form.{TypeRow}
use Rattle.region_forms.specs.Guard.{Guard, clauses, listed, everything, matches, stops, dooms}
use Rattle.linear_forms.specs.Tables.{Sense, clause, list_of}
use Rattle.linear_forms.specs.Activation.{Code, Activation, look, sense}
use Rattle.handler_choice.specs.Says.{Says}

-- a guard with the number of calls that wait below its own
pub record Standing : Type 0 where
  pub depth : ℕ
  pub guard : Guard

-- the first guard that stops an exception of a type, or a foreign one, among the guards of each open call, the innermost call first
abbrev pub first_stop : List TypeRow → Option ℕ → List (List Guard) → Option Standing
first_stop rows t [] = None
first_stop rows t (gs ∷ outer) = elim (find (stops rows t) gs) [ None ↦ first_stop rows t outer | Some g ↦ Some (record { depth = length outer; guard = g }) ]

-- the call in which it stands; there is none where the exception is doomed
abbrev pub target_call : Option ℕ → Option Standing → Option ℕ
target_call t None = None
target_call t (Some s) = if dooms t (Some s.guard) then None else Some s.depth

-- the tables say the guards of each open call
abbrev pub AllSay : Code → List Activation → List (List Guard) → Type 0
AllSay code [] [] = Unit {0}
AllSay code [] (gs ∷ outer) = ⊥
AllSay code (a ∷ fs) [] = ⊥
AllSay code (a ∷ fs) (gs ∷ outer) = Says (sense code a.function) gs (look code a.function a.place) × AllSay code fs outer

-- the sense of a selector: the first clause that matches, or the list
abbrev pub IsFirst : List TypeRow → Option ℕ → Guard → Sense → Type 0
IsFirst rows t (clauses ts) s = (u : Option ℕ) × (find (matches rows t) ts ≡ Some u) × (s ≡ clause u)
IsFirst rows t (listed types) s = s ≡ list_of types
IsFirst rows t everything s = ⊥
