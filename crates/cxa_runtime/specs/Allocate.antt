-- __cxa_allocate_exception and __cxa_free_exception (Itanium C++ ABI: Exception Handling, section 2.4.2).
use Rattle.std.specs.Prelude.{ℕ, ◌+◌, Option, Some, None}
use Rattle.eh_bytes.specs.declared.unit.RuntimeRecord.{RuntimeRecord}
use Rattle.run_items.specs.declared.item.Item.TheVariants.{Make, Free}
use Rattle.caught_stack.specs.declared.header.Header.{Header}
use Rattle.caught_stack.specs.declared.header.HeaderKind.{HeaderKind}
use Rattle.caught_stack.specs.declared.header.HeaderKind.TheVariants.{Building}
use Rattle.caught_stack.specs.Allocate.{freed, with_header}
use Rattle.cxa_runtime.specs.Objects.{object_of, object_where, is_building, slot_for}
use Rattle.cxa_runtime.specs.World.{World, Outcome, goes, needs, argument, gives, a0, shows, with_exceptions}
use Rattle.cxa_runtime.specs.Terminate.{terminates_now}

-- the header of a new object, with no handlers and no target yet
abbrev pub new_header : ℕ → HeaderKind → Header
new_header number kind = record { number = number; kind = kind; handlers = (0, 0); target = 0; lsda = 0 }

-- a slot has a new object, with the next number
abbrev pub with_new : ℕ → HeaderKind → World → World
with_new slot kind w =
    record w { exceptions = with_header slot (new_header (w.last_number + 1) kind) w.exceptions; last_number = w.last_number + 1 }

abbrev pub made_in : RuntimeRecord → World → Option ℕ → Outcome
made_in places w None = terminates_now places w
made_in places w (Some slot) = goes (gives a0 (object_of slot) (shows (Make (w.last_number + 1)) (with_new slot Building w)))

-- call 3: an object that is building, in the slot that is wished for or the first that is vacant; where all are live, terminate
abbrev pub allocate : RuntimeRecord → ℕ → World → Outcome
allocate places wish w = made_in places w (slot_for w.exceptions.live wish)

-- call 4: an object that is building is given back
abbrev pub free : World → Outcome
free w =
    needs w (object_where is_building w.exceptions.live (argument w a0))
    (λ o. goes (with_exceptions (freed o.slot w.exceptions) (shows (Free o.header.number) w)))
