-- What modules tell of themselves, and what a run leaves of it.
use Rattle.std.specs.Prelude.{ℕ, List, [], ◌∷◌, map}
use Rattle.eh_outer.specs.declared.module.Reply.{Reply}
use Rattle.eh_outer.specs.Module.{ModuleView, cleaned}
use Rattle.foreign_host.specs.Host.{changed_at}
use Rattle.run_items.specs.declared.item.Item.{Item}
use Rattle.run_items.specs.declared.item.Item.TheVariants.{Clean}

-- the replies still to come of each module
abbrev pub rests_of : List ModuleView → List (List Reply)
rests_of views = map (λ seen. seen.rest) views

-- what a module keeps: the tokens that it cleaned, and its room for them
abbrev pub kept_of : ModuleView → List ℕ × ℕ
kept_of seen = (seen.cleaned, seen.room)

-- modules after the cleanup that an item tells of, if it is one
abbrev pub after_item : Item → List ModuleView → List ModuleView
after_item (Clean k token) views = changed_at k (λ seen. cleaned seen token) views
after_item _ views = views

-- modules after the cleanups that items tell of, in order
abbrev pub cleaned_by : List Item → List ModuleView → List ModuleView
cleaned_by [] views = views
cleaned_by (item ∷ items) views = cleaned_by items (after_item item views)
