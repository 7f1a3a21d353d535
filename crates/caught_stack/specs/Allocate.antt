-- __cxa_allocate_exception and __cxa_free_exception (Itanium C++ ABI: Exception Handling, section 2.4.2).
use Rattle.std.specs.Prelude.{◌≡◌, ℕ, true, slice_set, Option, Some, None}
use Rattle.caught_stack.specs.declared.header.Header.{Header}
use Rattle.caught_stack.specs.Live.{is_vacant}
use Rattle.caught_stack.specs.Exceptions.{Exceptions}

-- the exceptions with a header in the slot
abbrev pub with_header : ℕ → Header → Exceptions → Exceptions
with_header slot header e = record e { live = slice_set e.live slot (Some header) }

-- the exceptions with the slot vacant
abbrev pub freed : ℕ → Exceptions → Exceptions
freed slot e = record e { live = slice_set e.live slot None }

-- the slot was vacant, and it has the header now
abbrev pub Allocates : Header → Exceptions → Exceptions → Option ℕ → Type 0
Allocates header old new (Some slot) = (is_vacant old.live slot ≡ true) × (new ≡ with_header slot header old)
Allocates header old new None = new ≡ old
