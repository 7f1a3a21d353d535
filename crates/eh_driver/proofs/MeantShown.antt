-- What is stored for a program, and run, is the compiled program.
use Rattle.std.proofs.Common.{◌≡◌, ◌≤◌, ◌+◌, ◌^◌, ℕ, List, length, refl, sym, subst}
use Rattle.std.specs.Prelude.{IsOkAnd}
use Rattle.std.proofs.lemmas.List.{length-map}
use Rattle.run_items.specs.Output.{TakesAll}
use Rattle.eh_outer.specs.Module.{ModuleView}
use Rattle.eh_outer.specs.Sink.{SinkView}
use Rattle.cxx_ast.specs.declared.standard.Std.{Std}
use Rattle.cxx_ast.specs.Plain.{Program}
use Rattle.cxx_ast.specs.Broken.{Valid}
use Rattle.cxx_ast.specs.Checked.{IsChecked, checked}
use Rattle.cxx_front.specs.Source.{IsProgram}
use Rattle.cxx_image.specs.Image.{image_for}
use Rattle.source_bounds.specs.Compiled.{emitted_for}
use Rattle.image_link.specs.Runs.{UnitStands, RunsUnit}
use Rattle.foreign_host.specs.Host.{GuestsAreInts}
use Rattle.meaning_forms.specs.declared.ending.MeanEnd.TheVariants as meanings
use Rattle.cxa_runtime.specs.Kept.{replies_of}
use Rattle.cxa_runtime.specs.Run.{Ran}
use Rattle.compiled_runs.specs.Enough.{HasEnd, HasEnough, enough_for}
use Rattle.compiled_runs.specs.Given.{IsGiven}
use Rattle.gen_source.specs.Laws.{SourcesAreValid}
use Rattle.lsda_pack.specs.Laws.{PackingKeeps, PacksNoMore}
use Rattle.eh_commands.specs.declared.status.Status.{Status}
use Rattle.eh_commands.specs.File.{Asked}
use Rattle.eh_commands.specs.RunEnd.{run_lines, status_of_run}
use Rattle.eh_commands.specs.RunSource.{CompiledRunsThis}
use Rattle.eh_driver.specs.Compiled.{AreBytes, AreCompiled}
use Rattle.eh_driver.specs.Promise.{IsMeant, ShowsMeant, ShowsEnd, ShowsAll, meaning_for, shorter_meaning}
use Rattle.eh_driver.proofs.AreCompiled.{ImageLaws, image_compiled}
use Rattle.eh_driver.proofs.EventsHeld.{run_holds}
use Rattle.eh_driver.proofs.RunsOn.{RunLaws}

-- the laws of what is compiled, of what is run, of what is generated to be compiled, and of packing
pub record CompilerLaws : Type 0 where
  pub images : ImageLaws
  pub runs : RunLaws
  pub generated : SourcesAreValid
  pub packing_keeps : PackingKeeps
  pub packs_once : PacksNoMore

-- what is so of all that is asked: so many turns, and modules that answer with ints
pub record IsAsked (a : Asked) : Type 0 where
  pub turns : a.turns ≤ 2 ^ 40
  pub few : length a.modules ≤ 64
  pub ints : GuestsAreInts a.modules

-- a valid program is a checked one
is_checked : (std : Std) (source : List ℕ) (p : Program) → IsProgram source p → Valid std p → IsChecked (checked std p)
is_checked std source p program holds = record {
  source = source;
  tokens = program.tokens;
  std = std;
  program = p;
  lexed = program.lexed;
  tree = program.tree;
  valid = holds;
  resolved = refl;
}

-- the image that is stored
pub are_compiled : CompilerLaws → (std : Std) (source : List ℕ) (p : Program) → IsProgram source p → Valid std p → RunsUnit (emitted_for (checked std p)) (image_for (checked std p)) →
    AreCompiled (checked std p) (image_for (checked std p))
are_compiled laws std source p program holds runs = image_compiled laws.images (checked std p) (is_checked std source p program holds) runs

module _ (laws : CompilerLaws) (a : Asked) (source : List ℕ) (p : Program) (program : IsProgram source p) (holds : Valid a.std p) where
  -- a run of its image
  pub is_meant : IsAsked a → (input : List ℕ) (r : Ran) → CompiledRunsThis a r (checked a.std p) input → IsMeant a p input r
  is_meant asked input r (runs, this) ints defined =
      let (i, read, run) = this in
      let stands : UnitStands (emitted_for (checked a.std p)) i = subst (λ y. IsOkAnd y (UnitStands (emitted_for (checked a.std p)))) read runs in
      let compiled = laws.images.compiled (checked a.std p) (is_checked a.std source p program holds) (image_for (checked a.std p)) i read stands in
      let few : length (replies_of a.modules) ≤ 64 = subst (λ n. n ≤ 64) (sym (length-map a.modules (λ (seen : ModuleView). seen.rest))) asked.few in
      let given : IsGiven input (replies_of a.modules) = record { bytes = ints; few = few; ints = asked.ints } in
      let means = compiled.means input (replies_of a.modules) a.turns r given asked.turns run defined in
      (means, run_holds laws.images.events (meaning_for a p input) r (laws.images.events.right (checked a.std p) input (replies_of a.modules) a.turns (a.turns + 1)) means)

  -- the run that is shown
  pub meant_shown : IsAsked a → (input : List ℕ) → AreBytes input → ((meaning_for a p input).end ≡ meanings.Undefined → ⊥) → (out out' : SinkView) (status : Status) (r : Ran) → CompiledRunsThis a r (checked a.std p) input →
      status ≡ status_of_run r.end → TakesAll (run_lines a.trace a.count r) out out' → ShowsMeant a p input out out' status
  meant_shown asked input ints defined out out' status r this end took =
      let (means, hold) = is_meant asked input r this ints defined in (r, this.1, means, hold, end, took.gains)

  -- with enough steps for a meaning with fewer turns
  module _ (asked : IsAsked a) (input : List ℕ) (ints : AreBytes input) (turns : ℕ) (many : enough_for (checked a.std p) turns ≤ a.turns) (out out' : SinkView) (status : Status) (r : Ran)
      (this : CompiledRunsThis a r (checked a.std p) input) (end : status ≡ status_of_run r.end) (took : TakesAll (run_lines a.trace a.count r) out out') where
    enough : HasEnough (checked a.std p) this.1.0
    enough = laws.images.enough (checked a.std p) (is_checked a.std source p program holds) (image_for (checked a.std p)) this.1.0 this.1.1 (subst (λ y. IsOkAnd y (UnitStands (emitted_for (checked a.std p)))) this.1.1 this.0)

    given : IsGiven input (replies_of a.modules)
    given = record { bytes = ints; few = subst (λ n. n ≤ 64) (sym (length-map a.modules (λ (seen : ModuleView). seen.rest))) asked.few; ints = asked.ints }

    pub end_shown : HasEnd (shorter_meaning a p turns input).end → ShowsEnd a p turns input out out' status
    end_shown some = (r, this.1, enough.ends input (replies_of a.modules) turns a.turns r given asked.turns many this.1.2 some, end, took.gains)

    pub all_shown : (shorter_meaning a p turns input).end ≡ meanings.OutOfTurns → ((meaning_for a p input).end ≡ meanings.Undefined → ⊥) → ShowsAll a p turns input out out' status
    all_shown gone defined = (r, this.1, enough.goes input (replies_of a.modules) turns a.turns r given asked.turns many this.1.2 gone defined, end, took.gains)
