-- One step as a round: turns that match it, an end, or what is not defined.
use Rattle.std.proofs.Common.{◌≡◌, ℕ, ◌+◌, ◌≤◌, List, ◌++◌, ap, arith}
use Rattle.run_items.specs.declared.item.Item.{Item}
use Rattle.cxa_runtime.specs.Raising.{Image}
use Rattle.cxa_runtime.specs.World as abi
use Rattle.meaning_forms.specs.Outcome as source
use Rattle.region_forms.specs.World.{World}
use Rattle.linear_forms.specs.Activation.{Code, State, Final, by_program, goes_to, finishes}
use Rattle.linear_forms.specs.Machine.{step, over, exec, go_on}
use Rattle.linear_forms.specs.Pace.{pays_at, one_if}
use Rattle.linear_forms.proofs.Paces
use Rattle.machine_pieces.specs.Turning.{Turns, ForcedTurns}
use Rattle.cost_words.specs.Spends.{spends}
use Rattle.whole_runs.specs.Turns.{Invariant, Made, EndsSo}
use Rattle.whole_runs.specs.Steps.{end_of, GoesOn, Ends, Breaks}
use Rattle.whole_runs.proofs.Staying.{one_stays}

-- turns whatever slots are chosen are turns for one choice
pub made_by_turns : (image : Image) (pick : ℕ → ℕ) (n : ℕ) (w v : abi.World) (items : List Item) → Turns image n w v items → Made image pick n w v items
made_by_turns image pick n w v items h = record { run = λ k. h.run pick k }

pub made_by_forced : (image : Image) (pick : ℕ → ℕ) (n : ℕ) (w v : abi.World) (items : List Item) → ForcedTurns image n w v items → Made image pick n w v items
made_by_forced image pick n w v items h = record { run = λ k. h.run pick k }

module _ (image : Image) (pick : ℕ → ℕ) (code : Code) (st : State) (w : abi.World) where
  ended_by : (e : Final) (v : World) → step code st ≡ finishes e v → exec code 1 st ≡ over e v
  ended_by e v h = ap (go_on (exec code 0)) h

  pub goes_on_one : (S : Invariant) (before : ℕ) (next : State) (items : List Item) (turns : ℕ) (after : abi.World) → step code st ≡ goes_to next → next.world.items ≡ st.world.items ++ items
      → one_if (pays_at code st) ≤ turns → turns ≤ spends code 1 st → Made image pick turns w after items → S (before + turns) next after → GoesOn image pick code S before st w
  goes_on_one S before next items turns after h shows paid few made stands =
      let one = Paces.tally_once code (pays_at code) st in record {
        steps = 1;
        some = omega arith;
        next = next;
        leads = Paces.one_step code st (goes_to next) h;
        stays = one_stays image pick code st w;
        items = items;
        shows = shows;
        turns = turns;
        paid = omega (arith, one, paid);
        few = few;
        soon = omega (arith, few);
        after = after;
        made = made;
        stands = stands;
      }

  pub ends_one : (why : source.End) (v : World) (items : List Item) → step code st ≡ finishes (by_program why) v → v.items ≡ st.world.items ++ items → (ends : EndsSo image pick w items (end_of why))
      → ends.turns ≤ spends code 1 st + 64 → Ends image pick code st w
  ends_one why v items h shows ends few =
      record { steps = 1; why = why; world = v; over = ended_by (by_program why) v h; stays = one_stays image pick code st w; items = items; shows = shows; ends = ends; few = few }

  pub breaks_one : (how : Final) (v : World) → step code st ≡ finishes how v → ((why : source.End) → how ≡ by_program why → ⊥) → Breaks image pick code st w
  breaks_one how v h no_end =
      let one = Paces.tally_once code (pays_at code) st in
      let once = Paces.one_at_most (pays_at code st) in
      record { steps = 1; how = how; world = v; over = ended_by how v h; stays = one_stays image pick code st w; no_end = no_end; few = omega (arith, one, once) }
