-- How what the evaluator answers is the outcome of a computation.
use Rattle.std.specs.Prelude.{◌≡◌, ⊤, Bool, true, false, Ok, Err, Result as CodeResult}
use Rattle.scope_world.specs.declared.outcome.Halt.{Halt}
use Rattle.scope_world.specs.declared.outcome.Halt.TheVariants as halts
use Rattle.scope_world.specs.declared.outcome.Flow.{Flow as CodeFlow}
use Rattle.scope_world.specs.declared.outcome.Flow.TheVariants as flows
use Rattle.meaning_forms.specs.World.{World}
use Rattle.meaning_forms.specs.Outcome.{Result, done, stopped, thrown, cancelled, ended, exit, aborted, undefined, out_of_turns, deep, Flow, normal, breaks, continues, returns}

-- how a statement goes on
abbrev pub flow_of : CodeFlow → Flow
flow_of flows.Normal = normal
flow_of flows.Breaks = breaks
flow_of flows.Continues = continues
flow_of (flows.Returns v) = returns v

-- the computation is stopped so, unless memory was wanting
abbrev pub Halts : {A : Type 0} → Result A → Halt → World → Type 0
Halts m (halts.Thrown e) w = m ≡ stopped (thrown e) w
Halts m (halts.Cancelled n) w = m ≡ stopped (cancelled n) w
Halts m (halts.Exited n) w = m ≡ stopped (ended (exit n)) w
Halts m halts.Aborted w = m ≡ stopped (ended aborted) w
Halts m halts.Undefined w = m ≡ stopped undefined w
Halts m halts.OutOfTurns w = m ≡ stopped out_of_turns w
Halts m halts.Deep w = m ≡ stopped deep w
Halts m halts.NoMemory w = ⊤

-- the computation comes out so, with the answer seen through a view
abbrev pub GivesBy : {A B : Type 0} → (B → A) → Result A → CodeResult B Halt → World → Type 0
GivesBy view m (Ok b) w = m ≡ done (view b) w
GivesBy view m (Err h) w = Halts m h w

-- the computation comes out so
abbrev pub Gives : {A : Type 0} → Result A → CodeResult A Halt → World → Type 0
Gives m (Ok a) w = m ≡ done a w
Gives m (Err h) w = Halts m h w

-- memory was not wanting
abbrev pub IsKnown : {A : Type 0} → CodeResult A Halt → Type 0
IsKnown (Err halts.NoMemory) = ⊥
IsKnown _ = Unit {0}

-- an exception or a forced unwind
abbrev pub unwinds : Halt → Bool
unwinds (halts.Thrown e) = true
unwinds (halts.Cancelled n) = true
unwinds _ = false
