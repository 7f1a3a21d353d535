-- What the causes of `gen` promise.
use Rattle.std.proofs.Common.{◌≡◌, ◌⊎◌, ◌∙◌, ◌+◌, ◌*◌, inl, inr, ℕ, Some, refl, sym, ap, subst}
use Rattle.eh_outer.specs.Store.{Rose}
use Rattle.eh_outer.specs.Sink.{SinkView, Gains}
use Rattle.run_items.specs.Output.{TakesAll, bytes_of}
use Rattle.cxx_ast.specs.declared.standard.Std.TheVariants.{Cxx03}
use Rattle.cxx_ast.specs.Plain.{Program}
use Rattle.cxx_front.specs.Fate.{HasOnly, valid}
use Rattle.cxa_runtime.specs.Run.{Ran}
use Rattle.gen_source.specs.Source.{generated}
use Rattle.command_line.specs.Command.{source_size}
use Rattle.command_line.proofs.Sizes.{size_bounded}
use Rattle.eh_commands.specs.declared.status.Status.{Status}
use Rattle.eh_commands.specs.declared.status.Status.TheVariants.{Done, Usage, SourceRefused, ImageRefused, ScheduleRefused, ReadFault, TooLong, WriteFault, NoMemory, Aborted, Budget, Stack, MachineFault, Undefined, Differs}
use Rattle.eh_commands.specs.File.{Asked}
use Rattle.eh_commands.specs.Generate.{gen_lines, SizeRuns, GeneratedRuns, GenCause}
use Rattle.eh_commands.specs.RunEnd.{status_of_run}
use Rattle.eh_commands.proofs.Sources.{some_same, valid_same}
use Rattle.eh_driver.specs.Promise.{ShowsCounts, GenPromise}
use Rattle.eh_driver.proofs.MeantShown.{CompilerLaws, are_compiled}

module _ (laws : CompilerLaws) (a : Asked) (n : ℕ) (size : source_size a.source ≡ Some n) (out out' : SinkView) where
  -- how many tokens the program has
  counted : (p : Program) → HasOnly Cxx03 (generated n) (valid p) → p.tokens ≡ 31 * n + 73
  counted p only =
      let s = laws.generated n (size_bounded a.source n size) in
      ap (λ (q : Program). q.tokens) (valid_same (only.only (valid s.program) (record { tokens = s.tokens; lexed = s.lexed; tree = s.tree }, s.valid))) ∙ s.counted

  module _ (status : Status) (r : Ran) (tokens : ℕ) (ended : status ≡ status_of_run r.end) (took : TakesAll (gen_lines tokens r) out out') where
    size_shown : SizeRuns a.turns n tokens r → ShowsCounts a n out out' status
    size_shown (p, only, same, alone) = (
      p,
      only.is.0,
      only.is.1,
      are_compiled laws Cxx03 (generated n) p only.is.0 only.is.1 alone.0,
      r,
      alone,
      ended,
      subst (λ k. Gains (bytes_of (gen_lines k r)) out out') (same ∙ counted p only) took.gains,
    )

    shown : GeneratedRuns a tokens r → ShowsCounts a n out out' status
    shown (m, is, runs) = size_shown (subst (λ k. SizeRuns a.turns k tokens r) (some_same (sym is ∙ size)) runs)

  module _ (calm : Rose out.faults out'.faults → ⊥) where
    shows_so : (status : Status) → GenCause a out out' status → (status ≡ NoMemory) ⊎ ShowsCounts a n out out' status
    shows_so Done (tokens, r, runs, ended, took) = inr (shown Done r tokens ended took runs)
    shows_so Usage (tokens, r, runs, ended, took) = inr (shown Usage r tokens ended took runs)
    shows_so (SourceRefused number place) h = absurd h
    shows_so (ImageRefused number place location other) h = absurd h
    shows_so ReadFault (tokens, r, runs, ended, took) = inr (shown ReadFault r tokens ended took runs)
    shows_so TooLong (tokens, r, runs, ended, took) = inr (shown TooLong r tokens ended took runs)
    shows_so WriteFault (tokens, r, runs, fails) = absurd (calm fails.rose)
    shows_so NoMemory h = inl refl
    shows_so Aborted (tokens, r, runs, ended, took) = inr (shown Aborted r tokens ended took runs)
    shows_so Budget (tokens, r, runs, ended, took) = inr (shown Budget r tokens ended took runs)
    shows_so Stack (tokens, r, runs, ended, took) = inr (shown Stack r tokens ended took runs)
    shows_so (MachineFault kind place) (tokens, r, runs, ended, took) = inr (shown (MachineFault kind place) r tokens ended took runs)
    shows_so (ScheduleRefused number place) (tokens, r, runs, ended, took) = inr (shown (ScheduleRefused number place) r tokens ended took runs)
    shows_so Undefined (tokens, r, runs, ended, took) = inr (shown Undefined r tokens ended took runs)
    shows_so Differs (tokens, r, runs, ended, took) = inr (shown Differs r tokens ended took runs)

pub gen_promised : CompilerLaws → (a : Asked) (out out' : SinkView) (status : Status) → GenCause a out out' status → GenPromise a out out' status
gen_promised laws a out out' status cause n size calm = shows_so laws a n size out out' calm status cause
