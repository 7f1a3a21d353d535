-- What some steps of linear code are on the ABI machine.
use Rattle.std.specs.Prelude.{⊤, ◌≡◌, ◌⊎◌, true, ℕ, zero, suc, ◌+◌, ◌≤◌, ◌<◌, List, ◌++◌}
use Rattle.run_items.specs.declared.item.Item.{Item}
use Rattle.cxa_runtime.specs.declared.effect.End.{End}
use Rattle.cxa_runtime.specs.declared.effect.End.TheVariants as ends
use Rattle.cxa_runtime.specs.Raising.{Image}
use Rattle.cxa_runtime.specs.Run.{run}
use Rattle.cxa_runtime.specs.World as abi
use Rattle.meaning_forms.specs.Outcome as source
use Rattle.region_forms.specs.World.{World}
use Rattle.linear_forms.specs.Activation.{Code, State, Final, by_program, goes_to}
use Rattle.linear_forms.specs.Machine.{over, exec}
use Rattle.linear_forms.specs.Pace.{pays_at, paying, Leads}
use Rattle.linear_simulation.specs.ProgramRuns.{BeginsWith}
use Rattle.cost_words.specs.Spends.{spends}
use Rattle.whole_runs.specs.Turns.{Invariant, Made, EndsSo}

-- an end of the program on the ABI machine
abbrev pub end_of : source.End → End
end_of (source.exit n) = ends.Exit n
end_of source.aborted = ends.Aborted

-- A run with no more turns than were paid, where one of so many steps comes that may pay for another, is cut off there or before it. So it is where at most one
-- of the steps may pay.
abbrev pub StaysBehind : Image → (ℕ → ℕ) → Code → ℕ → State → abi.World → Type 0
StaysBehind image pick code steps st w = (n k : ℕ) (last : State) → n < steps → Leads code n st (goes_to last) → pays_at code last ≡ true → k ≤ paying code n st →
    BeginsWith (st.world.items ++ (run image pick k w).items) last.world.items × ((run image pick k w).end ≡ ends.Budget)

-- Steps lead to a state in which the invariant holds again. Each that may pay for a turn has a turn of the ABI machine, which shows the same items. They pay for
-- all these turns, and the first of them for all but a few.
pub record GoesOn (image : Image) (pick : ℕ → ℕ) (code : Code) (S : Invariant) (before : ℕ) (st : State) (w : abi.World) : Type 0 where
  pub steps : ℕ
  pub some : 0 < steps
  pub next : State
  pub leads : Leads code steps st (goes_to next)
  pub stays : StaysBehind image pick code steps st w
  pub items : List Item
  pub shows : next.world.items ≡ st.world.items ++ items
  pub turns : ℕ
  pub paid : paying code steps st ≤ turns
  pub few : turns ≤ spends code steps st
  pub soon : turns ≤ spends code 1 st + 64
  pub after : abi.World
  pub made : Made image pick turns w after items
  pub stands : S (before + turns) next after

-- the program ends in so many steps, and on the ABI machine so too, for which the first of them pays but for a few turns
pub record Ends (image : Image) (pick : ℕ → ℕ) (code : Code) (st : State) (w : abi.World) : Type 0 where
  pub steps : ℕ
  pub why : source.End
  pub world : World
  pub over : exec code steps st ≡ over (by_program why) world
  pub stays : StaysBehind image pick code steps st w
  pub items : List Item
  pub shows : world.items ≡ st.world.items ++ items
  pub ends : EndsSo image pick w items (end_of why)
  pub few : ends.turns ≤ spends code 1 st + 64

-- steps lead to a state in which, or before which, 4,096 calls were open, and on the ABI machine the stack is used up on the way
pub record Overflows (image : Image) (pick : ℕ → ℕ) (code : Code) (st : State) (w : abi.World) : Type 0 where
  pub steps : ℕ
  pub next : State
  pub leads : Leads code steps st (goes_to next)
  pub stays : StaysBehind image pick code steps st w
  pub deep : 4096 ≤ next.world.deepest
  pub items : List Item
  pub shows : next.world.items ≡ st.world.items ++ items
  pub ends : EndsSo image pick w items ends.Stack
  pub few : ends.turns ≤ spends code 1 st + 64

-- in so many steps, of which few may pay for a turn, linear code comes to what is not defined, or to a fault
pub record Breaks (image : Image) (pick : ℕ → ℕ) (code : Code) (st : State) (w : abi.World) : Type 0 where
  pub steps : ℕ
  pub how : Final
  pub world : World
  pub over : exec code steps st ≡ over how world
  pub stays : StaysBehind image pick code steps st w
  pub no_end : (why : source.End) → how ≡ by_program why → ⊥
  pub few : paying code steps st ≤ 64

abbrev pub Follows : Image → (ℕ → ℕ) → Code → Invariant → ℕ → State → abi.World → Type 0
Follows image pick code S before st w = GoesOn image pick code S before st w ⊎ Ends image pick code st w ⊎ Overflows image pick code st w ⊎ Breaks image pick code st w

-- So it is wherever an invariant holds behind fewer turns than these.
abbrev pub StepsFollow : Image → (ℕ → ℕ) → Code → Invariant → ℕ → Type 0
StepsFollow image pick code S most = (before : ℕ) (st : State) (w : abi.World) → S before st w → before < most → Follows image pick code S before st w

-- So it goes on for so many rounds, whatever may be kept between them.
abbrev pub FollowsFor : Image → (ℕ → ℕ) → Code → (most rounds : ℕ) → Invariant
FollowsFor image pick code most zero before st w = ⊤
FollowsFor image pick code most (suc rounds) before st w = before < most → Follows image pick code (FollowsFor image pick code most rounds) before st w

-- So it goes on and on.
abbrev pub FollowsOn : Image → (ℕ → ℕ) → Code → ℕ → Invariant
FollowsOn image pick code most before st w = (rounds : ℕ) → FollowsFor image pick code most rounds before st w
