-- What `at` promises.
use Rattle.std.proofs.Common.{◌≡◌, inl, inr, ℕ, List, Result, Ok, Err, refl, sym, subst}
use Rattle.std.specs.Prelude.{◌⊎◌}
use Rattle.eh_outer.specs.Store.{StoreView}
use Rattle.eh_outer.specs.Sink.{SinkView}
use Rattle.eh_commands.specs.declared.status.Status.{Status}
use Rattle.eh_commands.specs.declared.status.Status.TheVariants.{Done, Usage, SourceRefused, ImageRefused, ScheduleRefused, ReadFault, TooLong, WriteFault, NoMemory, Aborted, Budget, Stack, MachineFault, Undefined, Differs}
use Rattle.eh_commands.specs.At.{AtCause, AtPromise, Placed, place_lines}
use Rattle.eh_commands.specs.File.{Asked, Told}
use Rattle.eh_commands.specs.Image.{image_limit}
use Rattle.eh_commands.proofs.Sources.{told_of}

pub at_promised : (a : Asked) (old new : StoreView) (out out' : SinkView) (status : Status) → AtCause a old new out out' status → AtPromise a old new out out' status
at_promised a old new out out' status cause files file is there short store sink = by status cause
  where
    -- what is read of the told file is what the cause says
    same : (read : Result (List (List ℕ)) Status) → Told image_limit old a.source (λ f. place_lines a f ≡ read) → place_lines a file ≡ read
    same read told = told_of image_limit old a.source file files (λ f. place_lines a f ≡ read) is there told

    by : (s : Status) → AtCause a old new out out' s → (s ≡ NoMemory) ⊎ Placed (place_lines a file) out out' s
    by Done (lines, told, puts) = inr (subst (λ r. Placed r out out' Done) (sym (same (Ok lines) told)) (refl, puts.gains))
    by (ImageRefused number place location other) (told, kept) =
        inr (subst (λ r. Placed r out out' (ImageRefused number place location other)) (sym (same (Err (ImageRefused number place location other)) told)) (refl, kept))
    by ReadFault (why, kept) = absurd (store why.rose)
    by TooLong ((n, above, why, long), kept) = absurd (store why.rose)
    by WriteFault (lines, told, fails) = absurd (sink fails.rose)
    by NoMemory h = inl refl
    by Usage h = absurd h
    by (SourceRefused number place) h = absurd h
    by Aborted h = absurd h
    by Budget h = absurd h
    by Stack h = absurd h
    by (MachineFault kind place) h = absurd h
    by (ScheduleRefused number place) h = absurd h
    by Undefined h = absurd h
    by Differs h = absurd h
