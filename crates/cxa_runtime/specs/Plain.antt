-- The runtime calls that have nothing to do with an exception object.
use Rattle.std.specs.Prelude.{ℕ, ◌==◌, negsuc, List, [], ◌∷◌, if◌then◌else◌}
use Rattle.run_items.specs.declared.item.Item.TheVariants.{Line}
use Rattle.cxa_runtime.specs.Number.{as_int, as_register}
use Rattle.cxa_runtime.specs.World.{World, Outcome, goes, exits, aborts, overflows, argument, gives, a0, shows}

-- call 0
abbrev pub exit : World → Outcome
exit w = exits (as_int (argument w a0)) w

-- call 1
abbrev pub write_int : World → Outcome
write_int w = goes (shows (Line (as_int (argument w a0))) w)

-- call 2: the next byte of the input, or -1 at its end
abbrev pub read_from : World → List ℕ → Outcome
read_from w [] = goes (gives a0 (as_register (negsuc 0)) w)
read_from w (b ∷ bytes) = goes (gives a0 b (record w { input = bytes }))

abbrev pub read_byte : World → Outcome
read_byte w = read_from w w.input

-- call 10, std::uncaught_exception: whether some exception is uncaught
abbrev pub uncaught_exception : World → Outcome
uncaught_exception w = goes (gives a0 (if w.exceptions.uncaught == 0 then 0 else 1) w)

-- call 11, std::set_terminate
abbrev pub set_terminate : World → Outcome
set_terminate w = goes (record w { terminate_handler = argument w a0 })

-- call 12, std::set_unexpected
abbrev pub set_unexpected : World → Outcome
set_unexpected w = goes (record w { unexpected_handler = argument w a0 })

-- call 16
abbrev pub abort : World → Outcome
abort w = aborts w

-- call 17
abbrev pub stack_end : World → Outcome
stack_end w = overflows w
