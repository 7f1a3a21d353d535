-- The command that words are.
use Rattle.std.specs.Prelude.{◌≤◌, ⊤, ℕ, Bool, true, false, ◌==◌, ◌&&◌, not, nat_le, List, [], ◌∷◌, length, map, flat_map, Option, Some, None, option_map, is_some, codes, bytes_eq, if◌then◌else◌, string_bytes}
use Rattle.std.specs.List.{list_all}
use Rattle.std.specs.Option.{option_and_then}
use Rattle.cxx_ast.specs.declared.standard.Std.{Std}
use Rattle.cxx_ast.specs.declared.standard.Std.TheVariants.{Cxx03, Cxx11}
use Rattle.eh_outer.specs.declared.module.Reply.{Reply}
use Rattle.command_line.specs.declared.command.Command.{Command}
use Rattle.command_line.specs.declared.command.Raised.{Raised}
use Rattle.command_line.specs.declared.command.Verb.{Verb}
use Rattle.command_line.specs.declared.command.Verb.TheVariants.{Compile, Run, Exec, Harts, Mean, Check, Dump, Frames, At, Doubts, Pack, Gen}
use Rattle.command_line.specs.declared.setting.Setting.{Setting}
use Rattle.command_line.specs.declared.setting.Setting.TheVariants.{Input, Max, Trace, Count, Standard, Foreign, Thrown}
use Rattle.plain_text.specs.Decimal.{count_up_to}
use Rattle.command_line.specs.Address.{places_for, raised_of}
use Rattle.command_line.specs.Pieces.{Piece, Operand, Given, pieces_of}
use Rattle.command_line.specs.Script.{all_some, script_of}
use Rattle.command_line.specs.Setting.{name_of}

-- a command without where it lies in memory
pub record CommandView : Type 0 where
  pub verb : Verb
  pub operands : List (List ℕ)
  pub places : List ℕ
  pub raised : Raised
  pub inputs : List (List ℕ)
  pub max : ℕ
  pub std : Std
  pub trace : Bool
  pub count : Bool
  pub scripts : List (List (Reply × ℕ))

abbrev pub command_seen : Command → CommandView
command_seen c = record {
  verb = c.verb;
  operands = map string_bytes c.operands.items;
  places = c.places.items;
  raised = c.raised;
  inputs = map string_bytes c.inputs.items;
  max = c.max;
  std = c.std;
  trace = c.trace;
  count = c.count;
  scripts = map (λ runs. runs.items) c.scripts.items;
}

-- the operands among pieces
abbrev pub operand_in : Piece → List (List ℕ)
operand_in (Operand word) = word ∷ []
operand_in (Given s value) = []

abbrev pub operands_in : List Piece → List (List ℕ)
operands_in = flat_map operand_in

-- the values of an option among pieces
abbrev pub value_in : Setting → Piece → List (List ℕ)
value_in s (Operand word) = []
value_in s (Given t value) = if bytes_eq (name_of t) (name_of s) then value ∷ [] else []

abbrev pub values_in : Setting → List Piece → List (List ℕ)
values_in s = flat_map (value_in s)

abbrev pub are_named : List (List ℕ) → Bool
are_named = list_all (λ name. not (length name == 0))

-- so many names, none empty
abbrev pub exactly : ℕ → List (List ℕ) → Option (List (List ℕ))
exactly count names = if (length names == count) && are_named names then Some names else None

-- the greatest size of a source that is generated
abbrev pub greatest_size : ℕ
greatest_size = 2000

-- the size that a text writes, which is not 0
abbrev pub source_size : List ℕ → Option ℕ
source_size text = count_up_to greatest_size text

abbrev pub is_size : List ℕ → Bool
is_size text = is_some (source_size text)

-- so many texts or more, none empty
abbrev pub at_least : ℕ → List (List ℕ) → Option (List (List ℕ))
at_least count texts = if nat_le count (length texts) && are_named texts then Some texts else None

-- so many operands, or more where there are places: names of files, but sizes where a source is generated
abbrev pub operands_for : Verb → ℕ → List (List ℕ) → Option (List (List ℕ))
operands_for Gen count names = if list_all is_size names then exactly count names else None
operands_for At count names = at_least count names
operands_for verb count names = exactly count names

-- a name or none, and none empty
abbrev pub at_most_one : List (List ℕ) → Option (List (List ℕ))
at_most_one names = if nat_le (length names) 1 && are_named names then Some names else None

-- one to eight names, none empty
abbrev pub one_to_eight : List (List ℕ) → Option (List (List ℕ))
one_to_eight names = if nat_le 1 (length names) && nat_le (length names) 8 && are_named names then Some names else None

-- the names of inputs: one for each hart where there are several, and else one at most
abbrev pub inputs_for : Verb → List (List ℕ) → Option (List (List ℕ))
inputs_for Harts names = one_to_eight names
inputs_for verb names = at_most_one names

-- so many inputs as there are harts
abbrev pub AreHarts : Verb → List (List ℕ) → Type 0
AreHarts Harts inputs = (1 ≤ length inputs) × (length inputs ≤ 8)
AreHarts verb inputs = ⊤

-- the most turns or steps, 1 to 2^40
abbrev pub max_in : List ℕ → Option ℕ
max_in text = count_up_to 1099511627776 text

abbrev pub max_of : List (List ℕ) → Option ℕ
max_of [] = Some 10000000
max_of (text ∷ []) = max_in text
max_of (text ∷ other ∷ others) = None

-- the standard by which a source is judged, that of 2003 where no option says so
abbrev pub std_in : List ℕ → Option Std
std_in text = if bytes_eq text (codes "03") then Some Cxx03 else if bytes_eq text (codes "11") then Some Cxx11 else None

abbrev pub std_of : List (List ℕ) → Option Std
std_of [] = Some Cxx03
std_of (text ∷ []) = std_in text
std_of (text ∷ other ∷ others) = None

-- whether a switch stands, which stands at most once
abbrev pub switch_of : List (List ℕ) → Option Bool
switch_of [] = Some false
switch_of (value ∷ []) = Some true
switch_of (value ∷ other ∷ others) = None

-- the scripts, at most 64
abbrev pub scripts_of : List (List ℕ) → Option (List (List (Reply × ℕ)))
scripts_of texts = if nat_le (length texts) 64 then all_some script_of texts else None

-- what words give for the operands and for each option
pub record FoundView : Type 0 where
  pub operands : List (List ℕ)
  pub inputs : List (List ℕ)
  pub max : List (List ℕ)
  pub std : List (List ℕ)
  pub trace : List (List ℕ)
  pub count : List (List ℕ)
  pub scripts : List (List ℕ)
  pub raised : List (List ℕ)

abbrev pub found_in : List Piece → FoundView
found_in pieces = record {
  operands = operands_in pieces;
  inputs = values_in Input pieces;
  max = values_in Max pieces;
  std = values_in Standard pieces;
  trace = values_in Trace pieces;
  count = values_in Count pieces;
  scripts = values_in Foreign pieces;
  raised = values_in Thrown pieces;
}

-- the command of a verb that takes so many operands, by what is found
unfoldable pub command_from : Verb → ℕ → FoundView → Option CommandView
command_from verb most found =
    option_and_then (λ places.
    option_and_then (λ raised.
    option_and_then (λ operands.
    option_and_then (λ inputs.
    option_and_then (λ max.
    option_and_then (λ std.
    option_and_then (λ trace.
    option_and_then (λ count.
    option_map (λ scripts. record {
      verb = verb;
      operands = operands;
      places = places;
      raised = raised;
      inputs = inputs;
      max = max;
      std = std;
      trace = trace;
      count = count;
      scripts = scripts;
    }) (scripts_of found.scripts))
    (switch_of found.count))
    (switch_of found.trace))
    (std_of found.std))
    (max_of found.max))
    (inputs_for verb found.inputs))
    (operands_for verb most found.operands))
    (raised_of found.raised))
    (places_for verb found.operands)

-- the command of a verb that takes these options and so many operands, by the words behind it
abbrev pub command_taking : Verb → List Setting → ℕ → List (List ℕ) → Option CommandView
command_taking verb settings most words = option_and_then (λ pieces. command_from verb most (found_in pieces)) (pieces_of settings words None)

-- the word that a command begins with
abbrev pub verb_of : List ℕ → Option Verb
verb_of word =
    if bytes_eq word (codes "compile") then Some Compile
    else if bytes_eq word (codes "run") then Some Run
    else if bytes_eq word (codes "exec") then Some Exec
    else if bytes_eq word (codes "harts") then Some Harts
    else if bytes_eq word (codes "mean") then Some Mean
    else if bytes_eq word (codes "check") then Some Check
    else if bytes_eq word (codes "dump") then Some Dump
    else if bytes_eq word (codes "frames") then Some Frames
    else if bytes_eq word (codes "at") then Some At
    else if bytes_eq word (codes "doubts") then Some Doubts
    else if bytes_eq word (codes "pack") then Some Pack
    else if bytes_eq word (codes "gen") then Some Gen
    else None

-- what the command of a verb takes: its options, and how many operands, or at least how many where there are places
abbrev pub settings_of : Verb → List Setting
settings_of Compile = Standard ∷ []
settings_of Run = Input ∷ Max ∷ Trace ∷ Count ∷ Standard ∷ Foreign ∷ []
settings_of Exec = Input ∷ Max ∷ Trace ∷ Count ∷ Foreign ∷ []
settings_of Harts = Input ∷ Trace ∷ []
settings_of Mean = Input ∷ Max ∷ Trace ∷ Standard ∷ Foreign ∷ []
settings_of At = Thrown ∷ []
settings_of Gen = Max ∷ []
settings_of verb = []

abbrev pub operand_count : Verb → ℕ
operand_count Compile = 2
operand_count Harts = 2
operand_count Pack = 2
operand_count At = 2
operand_count verb = 1

-- the command that words are, if they are one
abbrev pub command_of : List (List ℕ) → Option CommandView
command_of [] = None
command_of (word ∷ words) = option_and_then (λ verb. command_taking verb (settings_of verb) (operand_count verb) words) (verb_of word)
