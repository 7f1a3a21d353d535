-- What the front end answers.
use Rattle.std.specs.Prelude.{ℕ, List, Result, Ok, Err}
use Rattle.cxx_ast.specs.declared.program.Checked.{Checked}
use Rattle.cxx_ast.specs.declared.standard.Std.{Std}
use Rattle.cxx_ast.specs.Plain.{Program}
use Rattle.cxx_ast.specs.Checked.{Resolves}
use Rattle.cxx_ast.specs.View.{checked_of}
use Rattle.cxx_lexer.specs.declared.error.LexError.{LexError}
use Rattle.cxx_lexer.specs.declared.error.LexError.TheVariants as lexing
use Rattle.cxx_parser.specs.declared.error.ParseError.{ParseError}
use Rattle.cxx_parser.specs.declared.error.ParseError.TheVariants as parsing
use Rattle.cxx_check.specs.declared.error.CheckError.{CheckError}
use Rattle.cxx_check.specs.declared.error.CheckError.TheVariants as checking
use Rattle.cxx_front.specs.declared.error.SourceError.{SourceError}
use Rattle.cxx_front.specs.declared.error.SourceError.TheVariants.{Refused, NoMemory}
use Rattle.cxx_front.specs.Fate.{HasOnly, refused, valid}

-- the checked program of a valid source, or the refusal that answers; want of memory is free
abbrev pub Answers : Std → List ℕ → Result Checked SourceError → Type 0
Answers std source (Ok c) = (p : Program) × HasOnly std source (valid p) × Resolves std p (checked_of c)
Answers std source (Err (Refused number place)) = HasOnly std source (refused number place)
Answers std source (Err NoMemory) = Unit {0}

-- the refusals of each pass by their numbers
abbrev pub of_lexer : LexError → SourceError
of_lexer (lexing.BadByte place) = Refused 10 place
of_lexer (lexing.LiteralRange place) = Refused 11 place
of_lexer (lexing.OpenComment place) = Refused 12 place
of_lexer (lexing.TooManyTokens place) = Refused 13 place
of_lexer lexing.NoMemory = NoMemory

abbrev pub of_parser : ParseError → SourceError
of_parser (parsing.Unexpected place) = Refused 20 place
of_parser (parsing.TooDeep place) = Refused 21 place
of_parser parsing.NoMemory = NoMemory

abbrev pub of_checker : CheckError → SourceError
of_checker (checking.Refused number place) = Refused number place
of_checker checking.NoMemory = NoMemory
