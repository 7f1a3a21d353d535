-- __cxa_begin_catch and __cxa_end_catch (Itanium C++ ABI: Exception Handling, section 2.5.3).
use Rattle.std.specs.Prelude.{◌&&◌, Bool, Option, Some, None, if◌then◌else◌}
use Rattle.eh_bytes.specs.declared.unit.RuntimeRecord.{RuntimeRecord}
use Rattle.run_items.specs.declared.item.Item.TheVariants as items
use Rattle.caught_stack.specs.declared.ended.Ended.{Ended}
use Rattle.caught_stack.specs.declared.ended.Ended.TheVariants.{Last}
use Rattle.caught_stack.specs.declared.header.HeaderKind.{HeaderKind}
use Rattle.caught_stack.specs.declared.header.HeaderKind.TheVariants.{Building, Native, Foreign}
use Rattle.caught_stack.specs.Exceptions.{Exceptions}
use Rattle.caught_stack.specs.Begin.{begun}
use Rattle.caught_stack.specs.End.{ended}
use Rattle.cxa_runtime.specs.declared.object.Object.{Object}
use Rattle.cxa_runtime.specs.Objects.{object_of, object_where, is_thrown, is_foreign}
use Rattle.cxa_runtime.specs.MayBegin.{may_begin, holds_other}
use Rattle.cxa_runtime.specs.Leaving.{newest_object, left_by}
use Rattle.cxa_runtime.specs.World.{World, Outcome, goes, argument, gives, gives_both, a0, shows, with_exceptions, needs, refused}
use Rattle.cxa_runtime.specs.Terminate.{terminates_now}

-- an exception is entered by a handler, a specification or terminate
abbrev pub entered : Object → World → World
entered o w = shows (items.Enter o.header.number) (with_exceptions (begun o.slot w.exceptions) w)

-- a foreign exception stands alone on the caught stack
abbrev pub is_crowded : World → Object → Bool
is_crowded w o = is_foreign o.header.kind && holds_other w.exceptions.caught o.slot

abbrev pub begins_catch : RuntimeRecord → World → Object → Outcome
begins_catch places w o =
    if may_begin w.exceptions o.slot
    then (if is_crowded w o then terminates_now places w else goes (gives a0 (object_of o.slot) (entered o w)))
    else refused w

-- call 6: an exception is entered; a foreign one while another is caught: terminate
abbrev pub begin : RuntimeRecord → World → Outcome
begin places w = needs w (object_where is_thrown w.exceptions.live (argument w a0)) (begins_catch places w)

-- what is told of an exception that no handler has any more: a native one is to be destroyed by the caller, a foreign one is cleaned by its module
abbrev pub told : Object → HeaderKind → World → World
told o Building w = gives_both 0 0 w
told o (Native type destructor) w = gives_both (object_of o.slot) destructor (shows (items.Destroy o.header.number) w)
told o (Foreign k token) w = gives_both 0 0 (shows (items.Clean k token) w)

abbrev pub left_as : Object → Ended → World → World
left_as o (Last slot) w = told o o.header.kind w
left_as o _ w = gives_both 0 0 w

abbrev pub leaves : Object → World → Option Ended × Exceptions → Outcome
leaves o w (None, e) = refused w
leaves o w (Some left, e) = goes (left_as o left (shows (items.Leave o.header.number) (with_exceptions e w)))

-- call 7: the newest handler is left
abbrev pub end_catch : World → Outcome
end_catch w = needs w (newest_object w.exceptions) (λ o. leaves o w (left_by o (ended w.exceptions)))
