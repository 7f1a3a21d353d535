-- What holds of the runs of any image.
use Rattle.std.proofs.Common.{◌≡◌, ◌+◌, refl, subst, ℕ, List}
use Rattle.eh_outer.specs.Module.{ModuleView}
use Rattle.cxa_runtime.specs.Kept.{replies_of}
use Rattle.cxa_runtime.specs.Laws.{RunsBalance, cleaned_of, live_of, raised_of}
use Rattle.cxa_runtime.specs.Run.{Ran, run}
use Rattle.cxa_runtime.specs.World.{begins}
use Rattle.eh_run.specs.Laws.{BudgetsGoOn, GoesOn}
use Rattle.eh_run.specs.Program.{Program}
use Rattle.eh_run.specs.Runs.{IsRun}
use Rattle.eh_driver.specs.Exec.{RunsOn}

-- the laws of any image's runs
pub record RunLaws : Type 0 where
  pub balance : RunsBalance
  pub budgets : BudgetsGoOn

pub runs_on : RunLaws → (program : Program) (input : List ℕ) (modules : List ModuleView) (n : ℕ) (r : Ran) → IsRun program input modules n r → RunsOn program input modules n r
runs_on laws program input modules n r (pick, is) = record {
  cleaned = λ k token.
      subst (λ (x : Ran). live_of k token x.world.exceptions.live + cleaned_of k token x.items ≡ raised_of k token x.items) is
      (laws.balance program.image pick n k token program.hart input (replies_of modules));
  further = λ m.
      let w = begins program.hart input (replies_of modules) in
      let long = run program.image pick (n + m) w in
      (long, (pick, refl), subst (λ (x : Ran). GoesOn x long) is (laws.budgets program.image pick n m w));
}
