-- A module raises an exception that nothing stops, or raises where as many are live as can be, and the handler in effect finds no room.
use Rattle.std.specs.Prelude.{◌≡◌, ℕ, ◌+◌, ◌≤◌, true, false, List, [], ◌∷◌, length, Some, None}
use Rattle.eh_outer.specs.declared.module.Reply.{Reply}
use Rattle.run_items.specs.declared.item.Item.TheVariants.{Foreign}
use Rattle.elf_image.specs.Clean.{CleanImage}
use Rattle.cxa_runtime.specs.World as abi
use Rattle.eh_run.specs.Program.{program_of}
use Rattle.region_forms.specs.Effect.{is_full}
use Rattle.linear_forms.specs.Search.{found_above}
use Rattle.linear_forms.specs.Activation.{State}
use Rattle.linear_forms.specs.UnitRun.{code_of}
use Rattle.machine_forms.specs.LinearCode.{linear_code}
use Rattle.machine_simulation.specs.Plan.{Plan, shape}
use Rattle.machine_simulation.specs.Matches.{Matches}
use Rattle.machine_raises.specs.Stacks.{IsRunning}
use Rattle.raise_ends.specs.Full.{refused_state}
use Rattle.raise_ends.specs.Modules.{AtRaise, raising_state}
use Rattle.handler_overflows.specs.Overflow.{HandlerLacksRoom, HandlerOverflows}

-- In whatever vacant slot the exception is made, that it is made is what is shown. Where 1,024 are live nothing is.
pub record ModulesOverflow : Type 0 where
  pub nothing_stops : (i : CleanImage) (pick : ℕ → ℕ) (j : ℕ) (p : Plan) (n m k token : ℕ) (left : List Reply) (st : State) (w : abi.World) → Matches p st w → IsRunning p i w.hart → (at : AtRaise i p n k token left st) → is_full st.world ≡ false →
      found_above (code_of p.unit) None (st.top ∷ st.frames) ≡ None → st.world.ending ≡ false → st.world.installed.terminate_handler ≡ Some m → p.hidden ≡ 0 → HandlerLacksRoom p m st → length (linear_code (shape p n) at.operation) + 13 ≤ j →
      HandlerOverflows (program_of i).image pick j p m st (raising_state k token left st) w (Foreign (st.world.last_number + 1) k token ∷ [])
  pub full : (i : CleanImage) (pick : ℕ → ℕ) (j : ℕ) (p : Plan) (n m k token : ℕ) (left : List Reply) (st : State) (w : abi.World) → Matches p st w → (at : AtRaise i p n k token left st) → is_full st.world ≡ true → st.world.ending ≡ false →
      st.world.installed.terminate_handler ≡ Some m → p.hidden ≡ 0 → HandlerLacksRoom p m st → length (linear_code (shape p n) at.operation) + 13 ≤ j → HandlerOverflows (program_of i).image pick j p m st (refused_state k left st) w []
