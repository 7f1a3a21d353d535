-- The exceptions of a thread (Itanium C++ ABI: Exception Handling, section 2.2: the headers, and __cxa_eh_globals).
use Rattle.std.specs.Prelude.{◌≡◌, ℕ, nat_eq, true, [], length}
use Rattle.std.specs.List.{IsDistinct, list_all}
use Rattle.caught_stack.specs.Live.{Live, slots, all_vacant, is_live}
use Rattle.caught_stack.specs.Caught.{Caught, is_counted, slots_of}

-- the live exceptions by slot, those that are caught, and uncaughtExceptions
pub record Exceptions : Type 0 where
  pub live : Live
  pub caught : Caught
  pub uncaught : ℕ

-- no exception yet
abbrev pub no_exceptions : Exceptions
no_exceptions = record { live = all_vacant; caught = []; uncaught = 0 }

-- there are 1,024 slots, each exception that is caught is live and on the stack once, and no handlerCount on it is 0
pub record IsSound (e : Exceptions) : Type 0 where
  pub slots : length e.live ≡ slots
  pub live : list_all (is_live e.live) (slots_of e.caught) ≡ true
  pub once : IsDistinct nat_eq (slots_of e.caught)
  pub counted : list_all (λ entry. is_counted entry.1) e.caught ≡ true
