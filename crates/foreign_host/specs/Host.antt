-- The modules of other languages, by what each tells of itself.
use Rattle.std.specs.Prelude.{ℕ, zero, suc, List, [], ◌∷◌, map, slice_get, Option, option_map}
use Rattle.std.specs.List.{AllByRecursion}
use Rattle.eh_outer.specs.declared.module.Reply.{Reply}
use Rattle.eh_outer.specs.Domain.{RepliesAreInts}
use Rattle.eh_outer.specs.Module.{ModuleView, reply_of}

-- module k is changed so, where there is one, and no other module is
abbrev pub changed_at : ℕ → (ModuleView → ModuleView) → List ModuleView → List ModuleView
changed_at k change [] = []
changed_at zero change (seen ∷ more) = change seen ∷ more
changed_at (suc k) change (seen ∷ more) = seen ∷ changed_at k change more

-- the next reply of module k, nothing where there is no such module
abbrev pub reply_at : ℕ → List ModuleView → Option Reply
reply_at k all = option_map (λ seen. reply_of seen.rest) (slice_get all k)

-- what each module has still to reply is what a call can give
abbrev pub GuestsAreInts : List ModuleView → Type 0
GuestsAreInts all = AllByRecursion RepliesAreInts (map (λ seen. seen.rest) all)

-- modules that each tell so
pub guests_ints : {A : Type 0} (view : A → ModuleView) → ((m : A) → RepliesAreInts (view m).rest) → (all : List A) → GuestsAreInts (map view all)
guests_ints view ints [] = tt
guests_ints view ints (m ∷ all) = (ints m, guests_ints view ints all)
