-- What a turn answers, writes and has cleaned up.
use Rattle.std.specs.Prelude.{◌≡◌, ⊤, Bool, List, [], ◌∷◌, map}
use Rattle.eh_outer.specs.Module.{ModuleView, cleaned}
use Rattle.eh_outer.specs.Sink.{SinkView}
use Rattle.foreign_host.specs.Host.{changed_at}
use Rattle.run_items.specs.declared.item.Item.{Item}
use Rattle.run_items.specs.declared.item.Item.TheVariants.{Clean}
use Rattle.run_items.specs.Line.{lines_of}
use Rattle.run_items.specs.Output.{TakesAll, FailsAmong}
use Rattle.cxa_runtime.specs.declared.effect.End.TheVariants.{WriteFault}
use Rattle.cxa_runtime.specs.declared.effect.Turn.{Turn}
use Rattle.cxa_runtime.specs.declared.effect.Turn.TheVariants.{Ended}
use Rattle.caught_stack.specs.declared.header.HeaderKind.{HeaderKind}
use Rattle.caught_stack.specs.declared.header.HeaderKind.TheVariants.{Foreign}
use Rattle.cxa_runtime.specs.World.{World}
use Rattle.cxa_runtime.specs.Run.{Turned}

-- the lines of what was shown were written; or, at a write fault, the sink failed among them
abbrev pub Writes : Bool → List Item → SinkView → SinkView → Turn → Type 0
Writes trace shown old new (Ended WriteFault) = FailsAmong (lines_of trace shown) old new
Writes trace shown old new _ = TakesAll (lines_of trace shown) old new

-- the step has this answer, unless the answer is that it could not be written
abbrev pub Answers : Turned → Turn → World → Type 0
Answers (answer, w) (Ended WriteFault) after = w ≡ after
Answers (answer, w) result after = (answer ≡ result) × (w ≡ after)

-- an answer of the step itself
abbrev pub IsOwn : Turn → Type 0
IsOwn (Ended WriteFault) = ⊥
IsOwn _ = ⊤

-- the modules after the cleanups that the items tell of, one after the other
abbrev pub after_cleanups : List Item → List ModuleView → List ModuleView
after_cleanups [] modules = modules
after_cleanups (Clean k token ∷ more) modules = after_cleanups more (changed_at k (λ seen. cleaned seen token) modules)
after_cleanups (item ∷ more) modules = after_cleanups more modules

-- what modules keep, but for the replies that they have left
abbrev pub apart_from_replies : List ModuleView → List ModuleView
apart_from_replies modules = map (λ (seen : ModuleView). record seen { rest = [] }) modules

-- what is told of an exception that no handler has any more, by its module
abbrev pub cleanups_of : HeaderKind → List Item
cleanups_of (Foreign k token) = Clean k token ∷ []
cleanups_of _ = []
