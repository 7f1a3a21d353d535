-- What holds of every schedule and of every run of several harts.
use Rattle.std.specs.Prelude.{ℕ, ◌≡◌, ◌≤◌, ◌<◌, ◌^◌, ◌==◌, ◌++◌, ◌+◌, true, Bool, List, [], ◌∷◌, map, unwrap_or, slice_get, slice_set, replicate, sum_by, Option, Some, None, Ok, if◌then◌else◌}
use Rattle.run_items.specs.Line as plain
use Rattle.rv64_isa.specs.State.{State, reg_of}
use Rattle.rv64_isa.specs.declared.step.Step.TheVariants as steps
use Rattle.rv64_isa.specs.Step.{step_of}
use Rattle.caught_stack.specs.Live.{slots, live_count}
use Rattle.cxa_runtime.specs.declared.effect.End.{End}
use Rattle.cxa_runtime.specs.declared.effect.End.TheVariants.{Budget}
use Rattle.cxa_runtime.specs.NextCall.{next_call}
use Rattle.cxa_runtime.specs.Raising.{Image}
use Rattle.cxa_runtime.specs.Run as machine
use Rattle.cxa_runtime.specs.World.{World, begins, a7}
use Rattle.hart_sched.specs.Schedule.{Slice, schedule, text_of, turns_among, IsSchedule}
use Rattle.hart_sched.specs.Hart.{Hart, live_of, live_over, has_to_wait}
use Rattle.hart_sched.specs.Turn.{Told, shown, ended}
use Rattle.hart_sched.specs.Run.{Ran, Runs}
use Rattle.hart_sched.specs.Harts.{IsRun}
use Rattle.run_ends.specs.EndLine.{end_line}
use Rattle.hart_sched.specs.Text.{Marked, run_lines}

-- ---- the text of a schedule
-- a schedule is read from its text, and from nothing else
abbrev pub ReadsText : Type 0
ReadsText = (harts : ℕ) (slices : List Slice) → harts ≤ 2 ^ 32 → IsSchedule harts slices → schedule harts (text_of slices) ≡ Ok slices

abbrev pub ReadsNothingElse : Type 0
ReadsNothingElse = (harts : ℕ) (bytes : List ℕ) (slices : List Slice) → harts ≤ 2 ^ 32 → schedule harts bytes ≡ Ok slices → (bytes ≡ text_of slices) × IsSchedule harts slices

-- ---- one hart
-- what was told of a hart
abbrev pub told_of : ℕ → List (ℕ × Told) → List Told
told_of k [] = []
told_of k ((j, t) ∷ more) = if j == k then t ∷ told_of k more else told_of k more

-- the lines of a hart, without its number
abbrev pub own_lines : ℕ → List Marked → List (List ℕ)
own_lines k [] = []
own_lines k ((j, line) ∷ more) = if j == k then line ∷ own_lines k more else own_lines k more

-- where its run ended, that is told last
abbrev pub ended_as : Option End → List Told
ended_as None = []
ended_as (Some end) = ended end ∷ []

-- a run of the ABI machine alone, with the hart's input, no modules, and as many steps as it took: where the schedule left the hart, this run
-- is, and what it has shown, and how it ended, is what was told of the hart, and these are the hart's lines
pub record IsOwnRun (image : Image) (s : State) (input : List ℕ) (trace : Bool) (k : ℕ) (hart : Hart) (r : Ran) : Type 0 where
  pub own : machine.Ran
  pub runs : machine.Runs image hart.taken (begins s input []) own
  pub end : own.end ≡ unwrap_or hart.end Budget
  pub world : own.world ≡ hart.world
  pub told : told_of k r.told ≡ map shown own.items ++ ended_as hart.end
  pub lines : own_lines k (run_lines trace r) ≡ plain.lines_of trace own.items ++ end_line own.end ∷ []

-- so for the hart of each input
abbrev pub RunsApart : Image → State → List (List ℕ) → Bool → Ran → Type 0
RunsApart image s inputs trace r =
    (k : ℕ) (input : List ℕ) → slice_get inputs k ≡ Some input → (hart : Hart) × (slice_get r.harts k ≡ Some hart) × IsOwnRun image s input trace k hart r

abbrev pub EachRunsAlone : Type 0
EachRunsAlone =
    (image : Image) (s : State) (inputs : List (List ℕ)) (slices : List Slice) (trace : Bool) (r : Ran) → IsRun image s inputs slices r → RunsApart image s inputs trace r

-- ---- the turns of a hart
-- how many turns of a hart a slice is
abbrev pub own_turns : ℕ → Slice → ℕ
own_turns k (j, n) = if j == k then n else 0

-- and all slices
abbrev pub turns_for : ℕ → List Slice → ℕ
turns_for k slices = sum_by (own_turns k) slices

-- it took a step, or waited, in no more than the turns of its slices
pub record HadTurns (k : ℕ) (slices : List Slice) (hart : Hart) : Type 0 where
  pub own : hart.taken + hart.waits ≤ turns_for k slices
  pub all : turns_for k slices ≤ turns_among slices

-- so for the hart of each input
abbrev pub OwnTurnsAreFew : Type 0
OwnTurnsAreFew =
    (image : Image) (s : State) (inputs : List (List ℕ)) (slices : List Slice) (r : Ran) → IsRun image s inputs slices r →
    (k : ℕ) (input : List ℕ) → slice_get inputs k ≡ Some input → (hart : Hart) × (slice_get r.harts k ≡ Some hart) × HadTurns k slices hart

-- ---- all harts
-- however slots are chosen there is a run
abbrev pub SomeRun : Type 0
SomeRun = (image : Image) (ks : List ℕ) (harts : List Hart) → (r : Ran) × Runs image ks harts r

-- turns behind turns
abbrev pub RunsJoin : Type 0
RunsJoin =
    (image : Image) (js ks : List ℕ) (harts : List Hart) (r q : Ran) → Runs image js harts r → Runs image ks r.harts q →
    Runs image (js ++ ks) harts (record { told = r.told ++ q.told; harts = q.harts })

-- where a runtime call is next, the step makes it, with that number
abbrev pub NextIsMade : Type 0
NextIsMade = (s : State) (n : ℕ) → next_call s ≡ Some n → (t : State) × (step_of s ≡ (steps.Ecall, t)) × (reg_of t.regs a7 ≡ n)

-- a hart waits only where another has objects, too
abbrev pub WaitsForOthers : Type 0
WaitsForOthers = (live : ℕ) (w : World) → has_to_wait live w ≡ true → (live_count w.exceptions.live < slots) × (slots ≤ live) × (next_call w.hart ≡ Some 3)

-- further turns of a hart that has ended change nothing
abbrev pub EndedAgain : Type 0
EndedAgain =
    (image : Image) (k n : ℕ) (harts : List Hart) (hart : Hart) (end : End) → slice_get harts k ≡ Some hart → hart.end ≡ Some end →
    Runs image (replicate n k) harts (record { told = []; harts = harts })

-- a hart that waits does so in all further turns up to one of another hart
abbrev pub WaitsAgain : Type 0
WaitsAgain =
    (image : Image) (k n : ℕ) (harts : List Hart) (hart : Hart) → slice_get harts k ≡ Some hart → hart.end ≡ None → has_to_wait (live_over harts) hart.world ≡ true →
    Runs image (replicate n k) harts (record { told = []; harts = slice_set harts k (record hart { waits = hart.waits + n }) })

-- how many objects are live over all, where one hart changes
abbrev pub LiveChanges : Type 0
LiveChanges = (harts : List Hart) (k : ℕ) (old new : Hart) → slice_get harts k ≡ Some old → live_over (slice_set harts k new) + live_of old ≡ live_over harts + live_of new
