-- What holds of foreign exceptions in every turn and every run (Itanium C++ ABI: Exception Handling, section 2.5.2, "Foreign exceptions").
use Rattle.std.specs.Prelude.{◌≡◌, ◌≤◌, ℕ, ◌+◌, ◌==◌, ◌&&◌, Bool, false, cond, List, [], ◌∷◌, length, sum_by, Option, Some, None}
use Rattle.eh_outer.specs.declared.module.Reply.{Reply}
use Rattle.run_items.specs.declared.item.Item.{Item}
use Rattle.run_items.specs.declared.item.Item.TheVariants as items
use Rattle.rv64_isa.specs.State.{State}
use Rattle.caught_stack.specs.declared.header.Header.{Header}
use Rattle.caught_stack.specs.declared.header.HeaderKind.{HeaderKind}
use Rattle.caught_stack.specs.declared.header.HeaderKind.TheVariants as kinds
use Rattle.caught_stack.specs.Live.{Live, slots}
use Rattle.cxa_runtime.specs.World.{World, begins}
use Rattle.cxa_runtime.specs.Raising.{Image}
use Rattle.cxa_runtime.specs.Run.{turn, run}

-- it is one of module k with the token
abbrev pub is_of : (k token j t : ℕ) → Bool
is_of k token j t = (j == k) && (t == token)

-- 1 for the kind of such an exception, and else 0
abbrev pub kind_counts : (k token : ℕ) → HeaderKind → ℕ
kind_counts k token (kinds.Foreign j t) = cond (is_of k token j t) 1 0
kind_counts k token _ = 0

-- the same for a slot
abbrev pub slot_counts : (k token : ℕ) → Option Header → ℕ
slot_counts k token None = 0
slot_counts k token (Some h) = kind_counts k token h.kind

-- how many of them are live
abbrev pub live_of : (k token : ℕ) → Live → ℕ
live_of k token live = sum_by (slot_counts k token) live

-- how many were raised, by what was shown
abbrev pub raised_of : (k token : ℕ) → List Item → ℕ
raised_of k token [] = 0
raised_of k token (items.Foreign n j t ∷ more) = cond (is_of k token j t) 1 0 + raised_of k token more
raised_of k token (item ∷ more) = raised_of k token more

-- how many were cleaned
abbrev pub cleaned_of : (k token : ℕ) → List Item → ℕ
cleaned_of k token [] = 0
cleaned_of k token (items.Clean j t ∷ more) = cond (is_of k token j t) 1 0 + cleaned_of k token more
cleaned_of k token (item ∷ more) = cleaned_of k token more

-- in a turn, those that are live are those before, with those that it raised and without those that it cleaned
abbrev pub TurnsBalance : Type 0
TurnsBalance = (image : Image) (wish k token : ℕ) (w : World) → length w.exceptions.live ≡ slots →
    live_of k token (turn image wish w).1.exceptions.live + cleaned_of k token (turn image wish w).1.shown
    ≡ live_of k token w.exceptions.live + raised_of k token (turn image wish w).1.shown

-- in a run, no more are cleaned than were raised, and those that are live at its end were not cleaned
abbrev pub RunsBalance : Type 0
RunsBalance = (image : Image) (pick : ℕ → ℕ) (n k token : ℕ) (s : State) (input : List ℕ) (replies : List (List Reply)) →
    live_of k token (run image pick n (begins s input replies)).world.exceptions.live + cleaned_of k token (run image pick n (begins s input replies)).items
    ≡ raised_of k token (run image pick n (begins s input replies)).items
