-- When `mean FILE` gives each status, and what it prints.
use Rattle.std.specs.Prelude.{◌≡◌, ℕ, Bool, List, [], ◌∷◌, ◌++◌, codes}
use Rattle.cxx_ast.specs.Plain.{Program}
use Rattle.cxx_ast.specs.Checked.{checked}
use Rattle.cxx_front.specs.Fate.{HasOnly, refused, valid}
use Rattle.eh_outer.specs.Store.{StoreView}
use Rattle.eh_outer.specs.Sink.{SinkView}
use Rattle.run_items.specs.declared.item.Item.{Item}
use Rattle.run_items.specs.Line.{lines_of}
use Rattle.run_items.specs.Output.{TakesAll, FailsAmong}
use Rattle.meaning_forms.specs.declared.ending.MeanEnd.{MeanEnd}
use Rattle.meaning_forms.specs.declared.ending.MeanEnd.TheVariants as ends
use Rattle.meaning_forms.specs.Meaning.{Meaning}
use Rattle.scope_meaning.specs.Mean.{meant}
use Rattle.eh_commands.specs.declared.status.Status.{Status}
use Rattle.eh_commands.specs.declared.status.Status.TheVariants.{Done, SourceRefused, ReadFault, TooLong, WriteFault, NoMemory, Aborted, Budget, Stack, Undefined}
use Rattle.eh_commands.specs.Output.{exit_line}
use Rattle.eh_commands.specs.File.{Asked, ToldBoth, UnreadEither, source_limit}

-- the line of an end
abbrev pub end_line : MeanEnd → List ℕ
end_line (ends.Exit n) = exit_line n
end_line ends.Aborted = codes "= aborted\n"
end_line ends.Undefined = codes "= undefined\n"
end_line ends.OutOfTurns = codes "= budget\n"
end_line ends.Deep = codes "= stack\n"

-- the status of an end
abbrev pub status_of_end : MeanEnd → Status
status_of_end (ends.Exit n) = Done
status_of_end ends.Aborted = Aborted
status_of_end ends.Undefined = Undefined
status_of_end ends.OutOfTurns = Budget
status_of_end ends.Deep = Stack

-- what is printed: the lines of the items, and the line of the end
abbrev pub mean_lines : Bool → List Item → MeanEnd → List (List ℕ)
mean_lines trace items end = lines_of trace items ++ end_line end ∷ []

-- the source is a valid program, which with the input means this
abbrev pub MeansThis : Asked → Meaning → List ℕ → List ℕ → Type 0
MeansThis a m source input = (p : Program) × HasOnly a.std source (valid p) × (m ≡ meant (checked a.std p) input a.modules a.turns)

-- how a meaning ends: its lines go out, and the status is that of its end; or a line fails; or memory ran out, and nothing was written
abbrev pub MeaningEnds : Bool → Meaning → SinkView → SinkView → Status → Type 0
MeaningEnds trace m old new WriteFault = FailsAmong (mean_lines trace m.items m.end) old new
MeaningEnds trace m old new NoMemory = new ≡ old
MeaningEnds trace m old new status = (status ≡ status_of_end m.end) × TakesAll (mean_lines trace m.items m.end) old new

-- what becomes of a source with an input
abbrev pub SourceMeans : Asked → List ℕ → List ℕ → SinkView → SinkView → Status → Type 0
SourceMeans a source input old new (SourceRefused number place) = HasOnly a.std source (refused number place) × (new ≡ old)
SourceMeans a source input old new NoMemory = new ≡ old
SourceMeans a source input old new status = (m : Meaning) × MeansThis a m source input × MeaningEnds a.trace m old new status

-- when `mean` gives each status, what it leaves of the store's refusals, and of `out`
abbrev pub MeanCause : Asked → StoreView → StoreView → SinkView → SinkView → Status → Type 0
MeanCause a old new out out' ReadFault = UnreadEither source_limit a old new ReadFault × (out' ≡ out)
MeanCause a old new out out' TooLong = UnreadEither source_limit a old new TooLong × (out' ≡ out)
MeanCause a old new out out' (SourceRefused number place) = ToldBoth source_limit a old (λ source input. HasOnly a.std source (refused number place)) × (out' ≡ out)
MeanCause a old new out out' NoMemory = out' ≡ out
MeanCause a old new out out' status = (m : Meaning) × ToldBoth source_limit a old (MeansThis a m) × MeaningEnds a.trace m out out' status
