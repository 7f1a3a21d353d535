-- The words as clap reads them.
use Rattle.std.specs.Prelude.{◌≡◌, ◌++◌, ⊤, ℕ, true, List, [], ◌∷◌, map, flat_map, Option, Some, None, unwrap_or, Result, Ok, Err, codes, bytes_eq, if◌then◌else◌}
use Rattle.clap.specs.declared.builder.action.ArgAction.TheVariants.{Append}
use Rattle.clap.specs.declared.parser.matches.ArgMatches.{ArgMatches}
use Rattle.clap.specs.Matches.{found_of}
use Rattle.clap.specs.Simple.{App, new_app, new_rule}
use Rattle.clap.specs.Walk.{Row, Rule, all_of, rows_of}
use Rattle.command_line.specs.declared.error.WordsError.{WordsError}
use Rattle.command_line.specs.declared.error.WordsError.TheVariants.{Usage, NoMemory}
use Rattle.command_line.specs.declared.setting.Setting.{Setting}
use Rattle.command_line.specs.Pieces.{Piece, Operand, Given}
use Rattle.command_line.specs.Setting.{name_of, value_count}

-- an option as clap knows it, each use of which is kept; one without values has the empty one
abbrev pub option_rule : List ℕ → ℕ → Rule
option_rule name count = record (new_rule name) {
  long = Some name;
  action = Some Append;
  range = Some (record { start_inclusive = count; end_inclusive = count });
  missing = [] ∷ [];
}

abbrev pub rule_of_setting : Setting → Rule
rule_of_setting s = option_rule (name_of s) (value_count s)

-- the operands, each of which is kept
abbrev pub operand_name : List ℕ
operand_name = codes "operand"

abbrev pub operand_rule : Rule
operand_rule = record (new_rule operand_name) { action = Some Append }

-- the command, with rules so far
abbrev pub app_with : List Rule → App
app_with rules = record (new_app (codes "ehc")) {
  top = record (new_app (codes "ehc")).top { no_binary_name = true; disable_help_flag = true; disable_version_flag = true; rules = rules };
}

abbrev pub app_of_settings : List Setting → App
app_of_settings settings = app_with (map rule_of_setting settings ++ operand_rule ∷ [])

-- under which name a piece is found, and as what
abbrev pub name_in : Piece → List ℕ
name_in (Operand word) = operand_name
name_in (Given s value) = name_of s

abbrev pub text_in : Piece → List ℕ
text_in (Operand word) = word
text_in (Given s value) = value

abbrev pub text_under : List ℕ → Piece → List (List ℕ)
text_under name piece = if bytes_eq (name_in piece) name then text_in piece ∷ [] else []

-- what stands under a name among pieces
abbrev pub texts_under : List ℕ → List Piece → List (List ℕ)
texts_under name = flat_map (text_under name)

-- what rows have under a name
abbrev pub values_under : List ℕ → List Row → List (List ℕ)
values_under name rows = unwrap_or (all_of name rows) []

-- the rows have each piece, and nothing else
abbrev pub Shows : List Row → List Piece → Type 0
Shows rows pieces = (name : List ℕ) → values_under name rows ≡ texts_under name pieces

-- what was found has the pieces that were read
abbrev pub ShowsRead : List Row → Option (List Piece) → Type 0
ShowsRead rows None = ⊥
ShowsRead rows (Some pieces) = Shows rows pieces

-- What was found has the pieces that are read; or usage, where none are; or memory ran out.
abbrev pub Finds : Option (List Piece) → Result ArgMatches WordsError → Type 0
Finds read (Ok m) = ShowsRead (rows_of (found_of m)) read
Finds read (Err Usage) = read ≡ None
Finds read (Err NoMemory) = ⊤
