-- How many exceptions can be uncaught: each that is thrown or raised, and that no handler has.
use Rattle.std.specs.Prelude.{◌≡◌, ◌≤◌, ◌+◌, ℕ, suc, Bool, true, false, count_by, ℤ, pos, Option, Some, None}
use Rattle.std.specs.List.{list_all}
use Rattle.caught_stack.specs.declared.header.Header.{Header}
use Rattle.caught_stack.specs.declared.header.HeaderKind.{HeaderKind}
use Rattle.caught_stack.specs.declared.header.HeaderKind.TheVariants.{Building, Native, Foreign}
use Rattle.caught_stack.specs.Live.{header_of}
use Rattle.caught_stack.specs.Caught.{slots_of}
use Rattle.caught_stack.specs.Exceptions.{Exceptions}

-- an exception that was thrown or raised
abbrev pub is_built_as : HeaderKind → Bool
is_built_as Building = false
is_built_as (Native type destructor) = true
is_built_as (Foreign k token) = true

abbrev pub is_built : Option Header → Bool
is_built None = false
is_built (Some h) = is_built_as h.kind

-- a handler has it: its handlerCount is positive
abbrev pub is_handled : ℕ × ℤ → Bool
is_handled (slot, pos (suc n)) = true
is_handled _ = false

-- what is caught was thrown or raised, and so was what is uncaught
pub record IsOwed (e : Exceptions) : Type 0 where
  pub built : list_all (λ slot. is_built (header_of e.live slot)) (slots_of e.caught) ≡ true
  pub owed : e.uncaught + count_by is_handled e.caught ≤ count_by is_built e.live
