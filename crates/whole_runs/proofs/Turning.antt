-- Runs of the ABI machine with fewer turns than lead to a world or to an end.
use Rattle.std.proofs.Common.{◌≡◌, ℕ, ◌+◌, ◌≤◌, ◌⊎◌, inl, inr, List, ◌++◌, refl, sym, ap, ◌∙◌, append-nil, arith}
use Rattle.run_items.specs.declared.item.Item.{Item}
use Rattle.cxa_runtime.specs.declared.effect.End.{End}
use Rattle.cxa_runtime.specs.declared.effect.End.TheVariants as ends
use Rattle.cxa_runtime.specs.Raising.{Image}
use Rattle.cxa_runtime.specs.Run.{Ran, run}
use Rattle.cxa_runtime.specs.World as abi
use Rattle.eh_run.proofs.Budgets.{budgets_go_on}
use Rattle.linear_simulation.specs.ProgramRuns.{BeginsWith}
use Rattle.machine_pieces.specs.Turning.{with_items}
use Rattle.whole_runs.specs.Turns.{Made, EndsSo}

budget_or_not : (e : End) → (e ≡ ends.Budget) ⊎ (e ≡ ends.Budget → ⊥)
budget_or_not ends.Budget = inl refl
budget_or_not (ends.Exit n) = inr (λ h. absurd (cc h))
budget_or_not ends.Aborted = inr (λ h. absurd (cc h))
budget_or_not ends.Stack = inr (λ h. absurd (cc h))
budget_or_not (ends.Fault kind place) = inr (λ h. absurd (cc h))
budget_or_not ends.WriteFault = inr (λ h. absurd (cc h))

-- a run against one with more turns, which shows these items and ends so
pub record Shortened (r : Ran) (items : List Item) (end : End) : Type 0 where
  pub front : BeginsWith r.items items
  pub over : (r.end ≡ ends.Budget) ⊎ ((r.end ≡ end) × (r.items ≡ items))

pub shortened : (image : Image) (pick : ℕ → ℕ) (n d : ℕ) (w : abi.World) (items : List Item) (end : End) → (run image pick (n + d) w).items ≡ items → (run image pick (n + d) w).end ≡ end
    → Shortened (run image pick n w) items end
shortened image pick n d w items end same over =
    let h = budgets_go_on image pick n d w in record { front = (h.front.0, sym same ∙ h.front.1); over = go (budget_or_not (run image pick n w).end) h.ended }
  where
    go : ((run image pick n w).end ≡ ends.Budget) ⊎ ((run image pick n w).end ≡ ends.Budget → ⊥) → (((run image pick n w).end ≡ ends.Budget → ⊥) → run image pick (n + d) w ≡ run image pick n w)
        → ((run image pick n w).end ≡ ends.Budget) ⊎ (((run image pick n w).end ≡ end) × ((run image pick n w).items ≡ items))
    go (inl e) whole = inl e
    go (inr other) whole = inr (sym (ap (λ r. r.end) (whole other)) ∙ over, sym (ap (λ r. r.items) (whole other)) ∙ same)

-- before an end
pub before_end : (image : Image) (pick : ℕ → ℕ) (n : ℕ) (w : abi.World) (items : List Item) (end : End) → EndsSo image pick w items end → Shortened (run image pick n w) items end
before_end image pick n w items end h =
    let enough : h.turns ≤ n + h.turns = omega arith in
    shortened image pick n h.turns w items end (h.shows (n + h.turns) enough) (h.ends (n + h.turns) enough)

no_turns : (image : Image) (pick : ℕ → ℕ) (w : abi.World) (items : List Item) → (with_items items (run image pick 0 w)).items ≡ items
unfolding run
no_turns image pick w items = append-nil items

none_left : (image : Image) (pick : ℕ → ℕ) (w : abi.World) (items : List Item) → (with_items items (run image pick 0 w)).end ≡ ends.Budget
unfolding run
none_left image pick w items = refl

-- before a world to which turns lead
pub record CutOff (r : Ran) (items : List Item) : Type 0 where
  pub front : BeginsWith r.items items
  pub end : r.end ≡ ends.Budget

pub before_world : (image : Image) (pick : ℕ → ℕ) (n d turns : ℕ) (w v : abi.World) (items : List Item) → turns ≡ n + d → Made image pick turns w v items → CutOff (run image pick n w) items
before_world image pick n d turns w v items total h =
    let count : n + d ≡ turns + 0 = omega (arith, total) in
    let same : run image pick (n + d) w ≡ with_items items (run image pick 0 v) = ap (λ k. run image pick k w) count ∙ h.run 0 in
    let short = shortened image pick n d w items ends.Budget (ap (λ r. r.items) same ∙ no_turns image pick v items) (ap (λ r. r.end) same ∙ none_left image pick v items) in
    record { front = short.front; end = go short.over }
  where
    go : ((run image pick n w).end ≡ ends.Budget) ⊎ (((run image pick n w).end ≡ ends.Budget) × ((run image pick n w).items ≡ items)) → (run image pick n w).end ≡ ends.Budget
    go (inl e) = e
    go (inr e) = e.0

-- a run without a turn
pub nothing_run : (image : Image) (pick : ℕ → ℕ) (w : abi.World) → (run image pick 0 w).end ≡ ends.Budget
unfolding run
nothing_run image pick w = refl

pub nothing_shown : (image : Image) (pick : ℕ → ℕ) (w : abi.World) (xs : List Item) → xs ++ (run image pick 0 w).items ≡ xs
unfolding run
nothing_shown image pick w xs = append-nil xs
