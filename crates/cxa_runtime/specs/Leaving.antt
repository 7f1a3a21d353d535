-- What becomes of an exception that a handler leaves (Itanium C++ ABI: Exception Handling, section 2.5.3).
use Rattle.std.specs.Prelude.{Option, Some, option_and_then}
use Rattle.caught_stack.specs.declared.ended.Ended.{Ended}
use Rattle.caught_stack.specs.declared.ended.Ended.TheVariants.{Last}
use Rattle.caught_stack.specs.declared.header.Header.{Header}
use Rattle.caught_stack.specs.declared.header.HeaderKind.{HeaderKind}
use Rattle.caught_stack.specs.declared.header.HeaderKind.TheVariants.{Building, Native, Foreign}
use Rattle.caught_stack.specs.Caught.{newest}
use Rattle.caught_stack.specs.Exceptions.{Exceptions}
use Rattle.caught_stack.specs.Allocate.{freed, with_header}
use Rattle.cxa_runtime.specs.declared.object.Object.{Object}
use Rattle.cxa_runtime.specs.Objects.{object_in}

-- the most recent exception that is caught
abbrev pub newest_object : Exceptions → Option Object
newest_object e = option_and_then (object_in e.live) (newest e.caught)

-- a header that counts as building again
abbrev pub building_again : Header → Header
building_again h = record h { kind = Building }

-- no handler has the exception any more: a native one counts as building until it is given back, a foreign one is gone
abbrev pub let_go : Object → HeaderKind → Exceptions → Exceptions
let_go o Building e = e
let_go o (Native type destructor) e = with_header o.slot (building_again o.header) e
let_go o (Foreign k token) e = freed o.slot e

-- what became of the most recent exception, which its last handler lets go
abbrev pub left_by : Object → Option Ended × Exceptions → Option Ended × Exceptions
left_by o (Some (Last slot), e) = (Some (Last slot), let_go o o.header.kind e)
left_by o (left, e) = (left, e)
