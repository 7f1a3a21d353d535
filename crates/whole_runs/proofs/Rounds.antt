-- What laws of single operations conclude, as rounds of a whole run.
use Rattle.std.proofs.Common.{◌≡◌, ℕ, zero, suc, ◌+◌, ◌≤◌, ◌<◌, Bool, true, false, List, ◌∷◌, ◌++◌, length, Some, refl, sym, ap, ◌∙◌, arith}
use Rattle.std.specs.Prelude.{slice_get}
use Rattle.run_items.specs.declared.item.Item.{Item}
use Rattle.cxa_runtime.specs.declared.effect.End.TheVariants as ends
use Rattle.cxa_runtime.specs.Raising.{Image}
use Rattle.cxa_runtime.specs.Run.{run}
use Rattle.cxa_runtime.specs.World as abi
use Rattle.meaning_forms.specs.Outcome as source
use Rattle.region_forms.specs.World.{World}
use Rattle.linear_forms.specs.Linear.{LinearOp}
use Rattle.linear_forms.specs.Stub.{linear, compiled}
use Rattle.linear_forms.specs.Activation.{Code, State, by_program, goes_to, fetch, compiled_op}
use Rattle.linear_forms.specs.Machine.{over, exec}
use Rattle.linear_forms.specs.Pace.{pays, linear_pays, pays_at, one_if, paying, Leads}
use Rattle.linear_forms.specs.UnitRun.{code_of}
use Rattle.linear_forms.proofs.Paces
use Rattle.machine_forms.specs.LinearCode.{linear_code}
use Rattle.machine_forms.proofs.Paying.{paying_takes_words}
use Rattle.machine_pieces.specs.Turning.{Turns, Reaches}
use Rattle.machine_simulation.specs.Plan.{Plan, function, shape}
use Rattle.machine_simulation.specs.Objects.{Shows}
use Rattle.machine_simulation.specs.Operations.{Matched}
use Rattle.machine_simulation.specs.Steps.{StepAt}
use Rattle.machine_exceptions.specs.Leaves.{StepsTo}
use Rattle.cost_words.specs.Spends.{spends}
use Rattle.whole_runs.specs.Turns.{Invariant, Made}
use Rattle.whole_runs.specs.Steps.{end_of, GoesOn, Ends, Overflows}
use Rattle.whole_runs.proofs.Counts.{at_most}
use Rattle.whole_runs.proofs.Spending.{first_among}
use Rattle.whole_runs.proofs.Staying.{once_stays}
use Rattle.whole_runs.proofs.Single.{made_by_turns, goes_on_one}

-- steps one after the other lead on
pub leads_by : (code : Code) (n : ℕ) (st next : State) → StepsTo code n st next → Leads code n st (goes_to next)
leads_by code zero st next h = ap goes_to (sym h)
leads_by code (suc n) st next h = Paces.stepped code n st h.0 (goes_to next) h.1 (leads_by code n h.0 next h.2)

-- turns that lead to another world, or that show something, are at least one
pub some_changed : (image : Image) (pick : ℕ → ℕ) (n : ℕ) (w v : abi.World) (items : List Item) → Made image pick n w v items → (v ≡ w → ⊥) → 0 < n
unfolding run
some_changed image pick zero w v items h other = let same = ap (λ r. r.world) (h.run 0) in absurd (other (sym same))
some_changed image pick (suc n) w v items h other = omega arith

pub some_shown : (image : Image) (pick : ℕ → ℕ) (n : ℕ) (w v : abi.World) (i : Item) (items : List Item) → Made image pick n w v (i ∷ items) → 0 < n
unfolding run
some_shown image pick zero w v i items h = let no = ap (λ r. r.items) (h.run 0) in absurd (cc no)
some_shown image pick (suc n) w v i items h = omega arith

-- a world in which terminate runs, or runs no longer, is another
pub some_ending : (image : Image) (pick : ℕ → ℕ) (n : ℕ) (w v : abi.World) (items : List Item) → Made image pick n w v items → w.terminating ≡ false → v.terminating ≡ true → 0 < n
some_ending image pick n w v items h before behind =
    some_changed image pick n w v items h (λ same. let both : true ≡ false = sym behind ∙ ap (λ u. u.terminating) same ∙ before in absurd (cc both))

one_if_paid : (b : Bool) (turns : ℕ) → (b ≡ true → 0 < turns) → one_if b ≤ turns
one_if_paid true turns h = h refl
one_if_paid false turns h = omega arith

module _ (image : Image) (pick : ℕ → ℕ) (p : Plan) (st : State) (w : abi.World) where
  -- what an operation of a compiled function may pay
  pub pays_known : (n : ℕ) (o : LinearOp) → st.top.function ≡ compiled n → slice_get (function p n).ops st.top.place ≡ Some o → pays_at (code_of p.unit) st ≡ linear_pays o
  pays_known n o runs there = ap (λ f. pays (fetch (code_of p.unit) f st.top.place)) runs ∙ ap (λ x. pays (compiled_op x)) there

  -- it is the operation there
  pub fetches_known : (n : ℕ) (o : LinearOp) → st.top.function ≡ compiled n → slice_get (function p n).ops st.top.place ≡ Some o → fetch (code_of p.unit) st.top.function st.top.place ≡ Some (linear o)
  fetches_known n o runs there = ap (λ f. fetch (code_of p.unit) f st.top.place) runs ∙ ap compiled_op there

  -- it has words then, and so takes a turn
  takes_turn : (n : ℕ) (o : LinearOp) (most turns : ℕ) → st.top.function ≡ compiled n → slice_get (function p n).ops st.top.place ≡ Some o → length (linear_code (shape p n) o) ≤ most → (0 < most → 0 < turns)
      → one_if (pays_at (code_of p.unit) st) ≤ turns
  takes_turn n o most turns runs there words some = one_if_paid (pays_at (code_of p.unit) st) turns (λ paid.
      let word = paying_takes_words (shape p n) (linear o) (sym (pays_known n o runs there) ∙ paid) in some (omega (arith, words, word)))

  module _ (S : Invariant) (before : ℕ) where
    -- a step that is matched, by no fewer turns than its operation has words, or none
    pub matched_goes_on : (next : State) (n : ℕ) (o : LinearOp) (most : ℕ) (items : List Item) (P : abi.World → Type 0) → StepAt p st next n o → length (linear_code (shape p n) o) ≤ most → most ≤ spends (code_of p.unit) 1 st → Shows st next items
        → Matched image most w items P → ((turns : ℕ) (u : abi.World) → Turns image turns w u items → P u → S (before + turns) next u) → GoesOn image pick (code_of p.unit) S before st w
    matched_goes_on next n o most items P at words few shows m stands =
        goes_on_one image pick (code_of p.unit) st w S before next items m.turns m.after at.step shows (takes_turn n o most m.turns at.runs at.there words m.some) (omega (arith, few, m.few))
        (made_by_turns image pick m.turns w m.after items m.runs) (stands m.turns m.after m.runs m.holds)

    -- several steps, of which at most one pays, and turns that are some if it does; all the steps pay for the turns, and the first of them for all but a few
    pub steps_go_on_soon : (steps : ℕ) (next : State) (items : List Item) (turns : ℕ) (u : abi.World) → 0 < steps → StepsTo (code_of p.unit) steps st next → paying (code_of p.unit) steps st ≤ 1 → Shows st next items
        → paying (code_of p.unit) steps st ≤ turns → turns ≤ spends (code_of p.unit) steps st → turns ≤ spends (code_of p.unit) 1 st + 64 → Made image pick turns w u items → S (before + turns) next u → GoesOn image pick (code_of p.unit) S before st w
    steps_go_on_soon steps next items turns u some leads once shows paid few soon made stands = record {
      steps = steps;
      some = some;
      next = next;
      leads = leads_by (code_of p.unit) steps st next leads;
      stays = once_stays image pick (code_of p.unit) steps st w once;
      items = items;
      shows = shows;
      turns = turns;
      paid = paid;
      few = few;
      soon = soon;
      after = u;
      made = made;
      stands = stands;
    }

    -- the first of them pays for all
    pub steps_go_on_made : (steps : ℕ) (next : State) (items : List Item) (turns : ℕ) (u : abi.World) → 0 < steps → StepsTo (code_of p.unit) steps st next → paying (code_of p.unit) steps st ≤ 1 → Shows st next items
        → paying (code_of p.unit) steps st ≤ turns → turns ≤ spends (code_of p.unit) 1 st → Made image pick turns w u items → S (before + turns) next u → GoesOn image pick (code_of p.unit) S before st w
    steps_go_on_made steps next items turns u some leads once shows paid few made stands =
        let first = first_among (code_of p.unit) steps st some in
        steps_go_on_soon steps next items turns u some leads once shows paid (omega (arith, few, first)) (omega (arith, few)) made stands

    pub reaches_goes_on_soon : (steps : ℕ) (next : State) (items : List Item) (most : ℕ) (P : abi.World → Type 0) → 0 < steps → StepsTo (code_of p.unit) steps st next → paying (code_of p.unit) steps st ≤ 1 → most ≤ spends (code_of p.unit) steps st
        → most ≤ spends (code_of p.unit) 1 st + 64 → Shows st next items → Reaches image most w items P → ((turns : ℕ) (u : abi.World) → Turns image turns w u items → P u → (paying (code_of p.unit) steps st ≤ turns) × S (before + turns) next u)
        → GoesOn image pick (code_of p.unit) S before st w
    reaches_goes_on_soon steps next items most P some leads once few soon shows m stands =
        let h = stands m.turns m.after m.runs m.holds in
        steps_go_on_soon steps next items m.turns m.after some leads once shows h.0 (omega (arith, few, m.few)) (omega (arith, soon, m.few)) (made_by_turns image pick m.turns w m.after items m.runs) h.1

    pub reaches_goes_on : (steps : ℕ) (next : State) (items : List Item) (most : ℕ) (P : abi.World → Type 0) → 0 < steps → StepsTo (code_of p.unit) steps st next → paying (code_of p.unit) steps st ≤ 1 → most ≤ spends (code_of p.unit) 1 st → Shows st next items
        → Reaches image most w items P → ((turns : ℕ) (u : abi.World) → Turns image turns w u items → P u → (paying (code_of p.unit) steps st ≤ turns) × S (before + turns) next u)
        → GoesOn image pick (code_of p.unit) S before st w
    reaches_goes_on steps next items most P some leads once few shows m stands =
        let h = stands m.turns m.after m.runs m.holds in
        steps_go_on_made steps next items m.turns m.after some leads once shows h.0 (omega (arith, few, m.few)) (made_by_turns image pick m.turns w m.after items m.runs) h.1

  -- the program ends, and each run of enough turns
  pub runs_end : (steps most : ℕ) (why : source.End) (v : World) (items : List Item) → exec (code_of p.unit) steps st ≡ over (by_program why) v → paying (code_of p.unit) steps st ≤ 1 → most ≤ spends (code_of p.unit) 1 st + 64 → v.items ≡ st.world.items ++ items
      → ((k : ℕ) → most ≤ k → ((run image pick k w).items ≡ items) × ((run image pick k w).end ≡ end_of why)) → Ends image pick (code_of p.unit) st w
  runs_end steps most why v items ends once few shows h = record {
    steps = steps;
    why = why;
    world = v;
    over = ends;
    stays = once_stays image pick (code_of p.unit) steps st w once;
    items = items;
    shows = shows;
    ends = record { turns = most; shows = λ n le. (h n le).0; ends = λ n le. (h n le).1 };
    few = few;
  }

  -- the stack is used up where the last of some steps opens a call
  pub steps_overflow : (steps : ℕ) (next : State) (most : ℕ) (items : List Item) → StepsTo (code_of p.unit) steps st next → paying (code_of p.unit) steps st ≤ 1 → most ≤ spends (code_of p.unit) 1 st + 64 → 4096 ≤ next.world.deepest → Shows st next items
      → ((k : ℕ) → most ≤ k → ((run image pick k w).items ≡ items) × ((run image pick k w).end ≡ ends.Stack)) → Overflows image pick (code_of p.unit) st w
  steps_overflow steps next most items leads once few deep shows h = record {
    steps = steps;
    next = next;
    leads = leads_by (code_of p.unit) steps st next leads;
    stays = once_stays image pick (code_of p.unit) steps st w once;
    deep = deep;
    items = items;
    shows = shows;
    ends = record { turns = most; shows = λ k le. (h k le).0; ends = λ k le. (h k le).1 };
    few = few;
  }

  pub step_overflows : (next : State) (n : ℕ) (o : LinearOp) (most : ℕ) (items : List Item) → StepAt p st next n o → most ≤ spends (code_of p.unit) 1 st + 64 → 4096 ≤ next.world.deepest → Shows st next items
      → ((k : ℕ) → most ≤ k → ((run image pick k w).items ≡ items) × ((run image pick k w).end ≡ ends.Stack)) → Overflows image pick (code_of p.unit) st w
  step_overflows next n o most items at few deep shows h = steps_overflow 1 next most items (next, at.step, refl) (at_most (code_of p.unit) 1 st) few deep shows h
