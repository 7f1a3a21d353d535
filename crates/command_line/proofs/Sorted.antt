-- What was found, by operands and options.
use Rattle.std.proofs.Common.{◌≡◌, ◌∙◌, ℕ, Bool, cond, List, [], ◌∷◌, ◌++◌, Option, Some, None, Result, Err, refl, ap, subst, bytes_eq}
use Rattle.std.specs.Option.{option_and_then}
use Rattle.clap.specs.Walk.{Row}
use Rattle.command_line.specs.declared.command.Command.{Command}
use Rattle.command_line.specs.declared.command.Verb.{Verb}
use Rattle.command_line.specs.declared.error.WordsError.{WordsError}
use Rattle.command_line.specs.declared.error.WordsError.TheVariants.{Usage, NoMemory}
use Rattle.command_line.specs.declared.setting.Setting.{Setting}
use Rattle.command_line.specs.declared.setting.Setting.TheVariants.{Input, Max, Trace, Count, Standard, Foreign, Thrown}
use Rattle.command_line.specs.Command.{FoundView, command_from, command_seen, found_in, operands_in, values_in}
use Rattle.command_line.specs.Found.{found_under}
use Rattle.command_line.specs.Gives.{Gives}
use Rattle.command_line.specs.Matches.{Finds, Shows, ShowsRead, operand_name, texts_under}
use Rattle.command_line.specs.Pieces.{Piece, Operand, Given}
use Rattle.command_line.specs.Setting.{name_of}
use Rattle.command_line.proofs.Rules.{operand_apart, option_apart}

operands_under : (ps : List Piece) → texts_under operand_name ps ≡ operands_in ps
operands_under [] = refl
operands_under (Operand word ∷ ps) = ap (λ (ts : List (List ℕ)). word ∷ ts) (operands_under ps)
operands_under (Given s v ∷ ps) = ap (λ (b : Bool). cond b (v ∷ []) [] ++ texts_under operand_name ps) (option_apart s) ∙ operands_under ps

values_under_name : (s : Setting) (ps : List Piece) → texts_under (name_of s) ps ≡ values_in s ps
values_under_name s [] = refl
values_under_name s (Operand word ∷ ps) = ap (λ (b : Bool). cond b (word ∷ []) [] ++ texts_under (name_of s) ps) (operand_apart s) ∙ values_under_name s ps
values_under_name s (Given t v ∷ ps) = ap (λ (ts : List (List ℕ)). cond (bytes_eq (name_of t) (name_of s)) (v ∷ []) [] ++ ts) (values_under_name s ps)

sorted : (rows : List Row) (ps : List Piece) → Shows rows ps → found_under rows ≡ found_in ps
sorted rows ps shows =
    let operands = shows operand_name ∙ operands_under ps in
    let inputs = shows (name_of Input) ∙ values_under_name Input ps in
    let max = shows (name_of Max) ∙ values_under_name Max ps in
    let standard = shows (name_of Standard) ∙ values_under_name Standard ps in
    let trace = shows (name_of Trace) ∙ values_under_name Trace ps in
    let count = shows (name_of Count) ∙ values_under_name Count ps in
    let scripts = shows (name_of Foreign) ∙ values_under_name Foreign ps in
    let raised = shows (name_of Thrown) ∙ values_under_name Thrown ps in
    rw (operands, inputs, max, standard, trace, count, scripts, raised) refl

-- the command of the pieces that are read
pub of_pieces : (result : Result Command WordsError) (verb : Verb) (most : ℕ) (read : Option (List Piece)) (rows : List Row) (found : FoundView) → ShowsRead rows read → found ≡ found_under rows
    → Gives command_seen result (command_from verb most found) → Gives command_seen result (option_and_then (λ pieces. command_from verb most (found_in pieces)) read)
of_pieces result verb most None rows found shows same gives = absurd shows
of_pieces result verb most (Some ps) rows found shows same gives =
    subst (λ (f : FoundView). Gives command_seen result (command_from verb most f)) (same ∙ sorted rows ps shows) gives

-- none where no pieces are read
pub no_pieces : (e : WordsError) (verb : Verb) (most : ℕ) (read : Option (List Piece)) → Finds read (Err e) → Gives command_seen (Err e) (option_and_then (λ pieces. command_from verb most (found_in pieces)) read)
no_pieces Usage verb most read none = ap (option_and_then (λ pieces. command_from verb most (found_in pieces))) none
no_pieces NoMemory verb most read none = tt
