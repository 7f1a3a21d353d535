-- Modules of other languages and their exceptions (Itanium C++ ABI: Exception Handling, section 2.5.2, "Foreign exceptions").
use Rattle.std.specs.Prelude.{ℕ, ◌+◌, ◌^◌, ◌%◌, List, drop, slice_get, slice_set, Option, Some, None}
use Rattle.table_forms.specs.Verdict.{foreign}
use Rattle.run_items.specs.declared.item.Item.TheVariants as items
use Rattle.eh_outer.specs.declared.module.Reply.{Reply}
use Rattle.eh_outer.specs.declared.module.Reply.TheVariants as reply_kinds
use Rattle.eh_outer.specs.Module.{reply_of}
use Rattle.caught_stack.specs.declared.header.HeaderKind.TheVariants as kinds
use Rattle.cxa_runtime.specs.declared.object.Object.{Object}
use Rattle.cxa_runtime.specs.Number.{as_register}
use Rattle.cxa_runtime.specs.Objects.{slot_for}
use Rattle.cxa_runtime.specs.Allocate.{new_header, with_new}
use Rattle.cxa_runtime.specs.World.{World, Outcome, goes, argument, gives, a0, shows, with_exceptions}
use Rattle.cxa_runtime.specs.Terminate.{terminates_now}
use Rattle.cxa_runtime.specs.Raising.{Image, raises}
use Rattle.cxa_runtime.specs.Flying.{one_uncaught}

-- the object of a foreign exception in a slot
abbrev pub foreign_object : World → ℕ → ℕ → ℕ → Object
foreign_object w k token slot = record { slot = slot; header = new_header (w.last_number + 1) (kinds.Foreign k token) }

-- it has its object, and it is told
abbrev pub foreign_made : ℕ → ℕ → ℕ → World → World
foreign_made k token slot w = shows (items.Foreign (w.last_number + 1) k token) (with_new slot (kinds.Foreign k token) w)

-- a foreign exception is raised from a slot; where none is vacant, terminate
abbrev pub raised_in : Image → World → ℕ → ℕ → Option ℕ → Outcome
raised_in image w k token None = terminates_now image.places w
raised_in image w k token (Some slot) =
    let made = foreign_made k token slot w in
    raises image made.exceptions (foreign_object w k token slot) foreign (with_exceptions (one_uncaught made.exceptions) made)

abbrev pub replied : Image → ℕ → World → ℕ → Reply → Outcome
replied image wish w k (reply_kinds.Value v) = goes (gives a0 (as_register v) w)
replied image wish w k (reply_kinds.Raise token) = raised_in image w k token (slot_for w.exceptions.live wish)

abbrev pub asked : Image → ℕ → World → ℕ → Option (List Reply) → Outcome
asked image wish w k None = goes (gives a0 0 w)
asked image wish w k (Some replies) =
    replied image wish (record w { replies = slice_set w.replies k (drop 1 replies) }) k (reply_of replies)

-- the number of the module that is called
abbrev pub module_number : World → ℕ
module_number w = argument w a0 % 2 ^ 32

-- call 14: the reply is used up, also where it raises and no slot is vacant
abbrev pub module_call : Image → ℕ → World → Outcome
module_call image wish w = asked image wish w (module_number w) (slice_get w.replies (module_number w))
