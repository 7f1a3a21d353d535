-- What a handler may enter.
use Rattle.std.specs.Prelude.{ℕ, ◌&&◌, ◌==◌, nat_lt, Bool, not}
use Rattle.std.specs.List.{list_any}
use Rattle.caught_stack.specs.Caught.{Caught, handler_count, is_in_front, is_small}
use Rattle.caught_stack.specs.Exceptions.{Exceptions}

-- some exception is uncaught, and this one is the most recent that is caught, or not caught
abbrev pub may_begin : Exceptions → ℕ → Bool
may_begin e slot = nat_lt 0 e.uncaught && is_small (handler_count e.caught slot) && is_in_front e.caught slot

-- some other exception is caught
abbrev pub holds_other : Caught → ℕ → Bool
holds_other caught slot = list_any (λ entry. not (entry.0 == slot)) caught
