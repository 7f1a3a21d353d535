-- The causes of statuses that come before a command does anything.
use Rattle.std.proofs.Common.{◌≡◌, List, [], ℕ, Option, Some, None, inl, inr, refl}
use Rattle.eh_outer.specs.Store.{StoreView}
use Rattle.eh_outer.specs.Sink.{SinkView}
use Rattle.command_line.specs.declared.command.Verb.{Verb}
use Rattle.command_line.specs.declared.command.Verb.TheVariants.{Compile, Run, Exec, Harts, Mean, Check, Dump, Frames, At, Doubts, Pack, Gen}
use Rattle.command_line.specs.declared.error.WordsError.{WordsError}
use Rattle.command_line.specs.declared.error.WordsError.TheVariants as words
use Rattle.command_line.specs.Command.{CommandView, command_seen}
use Rattle.command_line.specs.Gives.{Gives}
use Rattle.std.specs.Prelude.{Err}
use Rattle.eh_commands.specs.declared.status.Status.TheVariants.{NoMemory}
use Rattle.eh_commands.specs.Answer.{Cause, CommandCause, status_of_words}
use Rattle.eh_commands.specs.Status.{text_of_status}
use Rattle.eh_outer.specs.Module.{ModuleView}
use Rattle.eh_commands.specs.Words.{asked}
use Rattle.eh_commands.specs.File.{Asked}

no_memory : (verb : Verb) (a : Asked) (store : StoreView) (out : SinkView) → CommandCause verb a store store out out NoMemory
no_memory Compile a store out = (refl, refl)
no_memory Run a store out = refl
no_memory Exec a store out = refl
no_memory Harts a store out = refl
no_memory Mean a store out = refl
no_memory Check a store out = refl
no_memory Dump a store out = refl
no_memory Frames a store out = refl
no_memory At a store out = refl
no_memory Doubts a store out = refl
no_memory Pack a store out = (refl, refl)
no_memory Gen a store out = (refl, refl)

-- the text of such a status names no file
pub no_name : (e : WordsError) (name : List ℕ) → text_of_status [] (status_of_words e) ≡ text_of_status name (status_of_words e)
no_name words.Usage name = refl
no_name words.NoMemory name = refl

-- words that are read as no command
pub unread : (modules : List ModuleView) (command : Option CommandView) (e : WordsError) (store : StoreView) (out : SinkView) → Gives command_seen (Err e) command → Cause modules command store store out out (status_of_words e)
unread modules None words.Usage store out is = (inl refl, refl, refl)
unread modules (Some command) words.Usage store out is = let no : Some command ≡ None = is in cc
unread modules None words.NoMemory store out is = (inr refl, refl, refl)
unread modules (Some command) words.NoMemory store out is = no_memory command.verb (asked modules command) store out
