-- Whole programs: calls by fuel, and what a program means.
use Rattle.std.specs.Prelude.{◌≡◌, ℕ, suc, List, []}
use Rattle.cxx_ast.specs.Plain.{Checked}
use Rattle.eh_outer.specs.declared.module.Reply.{Reply}
use Rattle.meaning_forms.specs.Class.{function_at as source_function_at}
use Rattle.meaning_forms.specs.Meaning.{Meaning, MainOutcome, stopped_by, program_meaning}
use Rattle.meaning_forms.specs.Outcome.{undefined}
use Rattle.meaning_forms.specs.Running.{Callee, function}
use Rattle.region_forms.specs.Form.{Regions, help_slot}
use Rattle.region_forms.specs.Layout.{Layout}
use Rattle.linear_simulation.specs.Watched.{watched_meaning}
use Rattle.region_simulation.specs.Calls.{IsCallable, SameCalls}
use Rattle.region_statements.specs.Fueled.{fueled}
use Rattle.region_statements.specs.Calls.{regions_running, SameCall}

-- where each call does the same with one unit of fuel more than calls with which all do, all do with any fuel
abbrev pub CallsDoAlike : Type 0
CallsDoAlike =
    (p : Checked) (layout : Layout) (q : Regions) (limit : ℕ)
    → ((fuel : ℕ) → SameCalls layout (fueled p limit fuel) (regions_running q limit fuel (λ s. help_slot)) → (callee : Callee) → IsCallable p callee
    → SameCall layout (fueled p limit (suc fuel)) (regions_running q limit (suc fuel) (λ s. help_slot)) callee)
    → (fuel : ℕ) → SameCalls layout (fueled p limit fuel) (regions_running q limit fuel (λ s. help_slot))

-- of a source that comes to what is undefined nothing is said
abbrev pub MeansTheSameBy : MainOutcome → Meaning → Meaning → Type 0
MeansTheSameBy (stopped_by undefined) m other = Unit {0}
MeansTheSameBy _ m other = other ≡ m

-- the same items and end, the same greatest number of open calls, the same outcome of main and the same replies left
abbrev pub MeansTheSame : Meaning → Meaning → Type 0
MeansTheSame m other = MeansTheSameBy m.main m other

-- where the call of main does the same, regions with the globals of a program mean what the program means
abbrev pub ProgramsMeanTheSame : Type 0
ProgramsMeanTheSame =
    (p : Checked) (layout : Layout) (q : Regions) (input : List ℕ) (replies : List (List Reply)) (turns limit : ℕ) → q.globals ≡ p.globals → q.main ≡ p.main
    → (source_function_at p p.main).parameters ≡ [] → SameCall layout (fueled p limit (suc turns)) (regions_running q limit (suc turns) (λ s. help_slot)) (function p.main)
    → MeansTheSame (program_meaning p input replies turns limit) (watched_meaning q input replies turns limit)
