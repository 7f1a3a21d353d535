-- What a run of a program answers, writes, and leaves of the modules.
use Rattle.std.specs.Prelude.{◌≡◌, ◌<◌, ◌+◌, ℕ, Bool, List}
use Rattle.eh_outer.specs.Module.{ModuleView}
use Rattle.eh_outer.specs.Sink.{SinkView}
use Rattle.run_items.specs.Line.{lines_of}
use Rattle.run_items.specs.Output.{TakesAll, FailsAmong}
use Rattle.cxa_runtime.specs.declared.effect.End.{End}
use Rattle.cxa_runtime.specs.declared.effect.End.TheVariants.{WriteFault}
use Rattle.cxa_runtime.specs.World.{begins}
use Rattle.cxa_runtime.specs.Kept.{replies_of}
use Rattle.cxa_runtime.specs.Run as machine
use Rattle.cxa_runtime.specs.Turns.{after_cleanups, apart_from_replies}
use Rattle.eh_run.specs.declared.running.Ran.{Ran}
use Rattle.eh_run.specs.Program.{Program}

-- a run of so many steps of the ABI machine, from the program's beginning on
abbrev pub IsRun : Program → List ℕ → List ModuleView → ℕ → machine.Ran → Type 0
IsRun program input modules n r = machine.Runs program.image n (begins program.hart input (replies_of modules)) r

-- what the run leaves of the modules: the replies that were not used, and the tokens that were cleaned besides
pub record Leaves (r : machine.Ran) (before after : List ModuleView) : Type 0 where
  pub replies : replies_of after ≡ r.world.replies
  pub cleaned : apart_from_replies after ≡ apart_from_replies (after_cleanups r.items before)

-- a run of at most n steps: its end, its count, and all its lines on the sink
pub record RunsToEnd (program : Program) (input : List ℕ) (n : ℕ) (trace : Bool) (before after : List ModuleView) (old new : SinkView) (ran : Ran) : Type 0 where
  pub whole : machine.Ran
  pub runs : IsRun program input before n whole
  pub end : whole.end ≡ ran.end
  pub count : whole.world.count ≡ ran.count
  pub writes : TakesAll (lines_of trace whole.items) old new
  pub leaves : Leaves whole before after

-- a run whose lines the sink took up to one of its last step, which is not counted
pub record RunsToFault (program : Program) (input : List ℕ) (n : ℕ) (trace : Bool) (before after : List ModuleView) (old new : SinkView) (ran : Ran) : Type 0 where
  pub front : machine.Ran
  pub runs : IsRun program input before (ran.count + 1) front
  pub budget : ran.count < n
  pub writes : FailsAmong (lines_of trace front.items) old new
  pub leaves : Leaves front before after

-- by the end
abbrev pub RunsBy : End → Program → List ℕ → ℕ → Bool → List ModuleView → List ModuleView → SinkView → SinkView → Ran → Type 0
RunsBy WriteFault program input n trace before after old new ran = RunsToFault program input n trace before after old new ran
RunsBy _ program input n trace before after old new ran = RunsToEnd program input n trace before after old new ran

abbrev pub RunsAs : Program → List ℕ → ℕ → Bool → List ModuleView → List ModuleView → SinkView → SinkView → Ran → Type 0
RunsAs program input n trace before after old new ran = RunsBy ran.end program input n trace before after old new ran
