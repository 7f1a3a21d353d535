-- What a reader answers.
use Rattle.std.specs.Prelude.{◌≡◌, ⊤, Option, Some, None, Result, Ok, Err}
use Rattle.command_line.specs.declared.error.WordsError.{WordsError}
use Rattle.command_line.specs.declared.error.WordsError.TheVariants.{Usage, NoMemory}

-- the value that is read, seen by `view`; or usage, where there is none; or memory ran out
abbrev pub Gives : {A B : Type 0} → (A → B) → Result A WordsError → Option B → Type 0
Gives view (Ok a) read = read ≡ Some (view a)
Gives view (Err Usage) read = read ≡ None
Gives view (Err NoMemory) read = ⊤
