-- Turns for the slots that are picked.
use Rattle.std.proofs.Common.{◌≡◌, ◌∙◌, sym, ap, arith, ℕ, suc, ◌+◌, List, ◌++◌, append_assoc}
use Rattle.run_items.specs.declared.item.Item.{Item}
use Rattle.rv64_isa.specs.declared.step.Step.TheVariants.{Ecall}
use Rattle.rv64_isa.specs.State.{State}
use Rattle.rv64_isa.specs.Step.{step_of, x}
use Rattle.cxa_runtime.specs.declared.effect.Turn.TheVariants.{On}
use Rattle.cxa_runtime.specs.World.{World, goes}
use Rattle.cxa_runtime.specs.Raising.{Image}
use Rattle.cxa_runtime.specs.Call.{call_effect}
use Rattle.cxa_runtime.specs.Run.{run, turn, called, counted, and_more}
use Rattle.machine_forms.specs.Registers.{a7}
use Rattle.machine_pieces.specs.Turning.{with_items, Turns}
use Rattle.machine_stubs.specs.Calls.{asked, CallsAreMade}
use Rattle.machine_exceptions.specs.Picks.{TurnsFor}

-- turns whatever is picked
pub turns_for : (image : Image) (pick : ℕ → ℕ) (n : ℕ) (w v : World) (items : List Item) → Turns image n w v items → TurnsFor image pick n w v items
turns_for image pick n w v items h = record { run = λ k. h.run pick k; unwinding = h.unwinding }

pub then_for : (image : Image) (pick : ℕ → ℕ) (m n : ℕ) (w v u : World) (first second : List Item) → TurnsFor image pick m w v first → TurnsFor image pick n v u second → TurnsFor image pick (m + n) w u (first ++ second)
then_for image pick m n w v u first second one two = record {
  run = λ k.
      let count : m + n + k ≡ m + (n + k) = omega arith in
      ap (λ i. run image pick i w) count ∙ one.run (n + k) ∙ ap (with_items first) (two.run k)
      ∙ ap (λ items. record (run image pick k u) { items = items }) (sym (append_assoc first second (run image pick k u).items));
  unwinding = two.unwinding ∙ one.unwinding;
}

-- a turn with the slot that is picked
turn_for : (image : Image) (pick : ℕ → ℕ) (w v : World) → turn image (pick (w.last_number + 1)) w ≡ (On, v) → v.unwinding ≡ w.unwinding → TurnsFor image pick 1 w v v.shown
unfolding run
turn_for image pick w v e kept = record {
  run = λ k.
      let count : 1 + k ≡ suc k = omega arith in
      ap (λ i. run image pick i w) count ∙ ap (and_more (run image pick k)) e;
  unwinding = kept;
}

pub call_for : CallsAreMade → (image : Image) (pick : ℕ → ℕ) (number : ℕ) (w next : World) (behind : State) → step_of w.hart ≡ (Ecall, behind) → x behind a7 ≡ number →
    call_effect number image (pick (w.last_number + 1)) (asked behind w) ≡ goes next → next.unwinding ≡ w.unwinding → TurnsFor image pick 1 w (counted next) next.shown
call_for made image pick number w next behind e is effect kept =
    turn_for image pick w (counted next) (made.made image (pick (w.last_number + 1)) number w behind e is ∙ ap (called w.hart.pc) effect) kept
