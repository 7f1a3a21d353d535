-- Runs under a greater budget.
use Rattle.std.proofs.Common.{◌≡◌, ◌∙◌, refl, sym, ap, ℕ, zero, suc, ◌+◌, List, [], ◌++◌, append_assoc, append-nil, arith}
use Rattle.run_items.specs.declared.item.Item.{Item}
use Rattle.cxa_runtime.specs.declared.effect.Turn.TheVariants.{On, Ended}
use Rattle.cxa_runtime.specs.Raising.{Image}
use Rattle.cxa_runtime.specs.Run.{Ran, Turned, and_more, run, turn}
use Rattle.cxa_runtime.specs.World.{World}
use Rattle.eh_run.specs.Laws.{GoesOn, BudgetsGoOn}
use Rattle.eh_run.proofs.Turning.{behind_items}

behind_turn : (short long : World → Ran) (t : Turned) → ((w : World) → GoesOn (short w) (long w)) → GoesOn (and_more short t) (and_more long t)
behind_turn short long (On, v) rest =
    let h = rest v in record {
      front = (h.front.0, ap (λ (xs : List Item). v.shown ++ xs) h.front.1 ∙ sym (append_assoc v.shown (short v).items h.front.0));
      ended = λ end. ap (behind_items v.shown) (h.ended end);
    }
behind_turn short long (Ended end, v) rest = record { front = ([], sym (append-nil v.shown)); ended = λ e. refl }

goes_on : (image : Image) (pick : ℕ → ℕ) (n m k : ℕ) (w : World) → k ≡ n + m → GoesOn (run image pick n w) (run image pick k w)
unfolding run
goes_on image pick zero m k w total = record { front = ((run image pick k w).items, refl); ended = λ end. absurd (end refl) }
goes_on image pick (suc n) m zero w total = absurd (omega arith)
goes_on image pick (suc n) m (suc k) w total =
    behind_turn (run image pick n) (run image pick k) (turn image (pick (w.last_number + 1)) w) (λ v. goes_on image pick n m k v (omega arith))

pub budgets_go_on : BudgetsGoOn
budgets_go_on image pick n m w = goes_on image pick n m (n + m) w refl
