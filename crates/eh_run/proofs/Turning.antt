-- What a turn counts, and runs by their turns.
use Rattle.std.proofs.Common.{◌≡◌, ◌∙◌, refl, sym, ap, subst, ◌⊎◌, inl, inr, ℕ, zero, suc, ◌+◌, ◌<◌, ◌==◌, Bool, true, false, cond, List, [], ◌++◌, length, append_assoc, append-nil, zero-add, add-zero, arith, ◌-◌}
use Rattle.std.specs.Bool.{⊤}
use Rattle.std.proofs.lemmas.Bool.Decides.{nat_tests}
use Rattle.rv64_isa.specs.declared.step.Step.{Step}
use Rattle.rv64_isa.specs.declared.step.Step.TheVariants as steps
use Rattle.rv64_isa.specs.State.{State, reg_of}
use Rattle.rv64_isa.specs.Step.{step_of}
use Rattle.run_items.specs.declared.item.Item.{Item}
use Rattle.caught_stack.specs.Live.{slots}
use Rattle.cxa_runtime.specs.declared.effect.Effect.TheVariants.{Goes, Exits, Aborts, Overflows, Fails}
use Rattle.cxa_runtime.specs.declared.effect.End.{End}
use Rattle.cxa_runtime.specs.declared.effect.End.TheVariants as ends
use Rattle.cxa_runtime.specs.declared.effect.Turn.TheVariants.{On, Ended}
use Rattle.cxa_runtime.specs.Call.{call_effect}
use Rattle.cxa_runtime.specs.Laws.{live_of, raised_of, cleaned_of}
use Rattle.cxa_runtime.specs.Raising.{Image}
use Rattle.cxa_runtime.specs.Run.{Ran, Runs, Turned, and_more, called, run, stepped, turn}
use Rattle.cxa_runtime.specs.World.{World, Outcome, at_hart}
use Rattle.cxa_runtime.proofs.ForeignCalls.{fits_effect}
use Rattle.eh_run.specs.Steps.{steps_at}
use Rattle.eh_run.proofs.Tallies.{IsTallied, tallied_effect}

-- ---- a turn
-- an end of the machine itself
abbrev pub IsMachines : End → Type 0
IsMachines ends.Budget = ⊥
IsMachines ends.WriteFault = ⊥
IsMachines _ = ⊤

abbrev pub Counts : ℕ → Turned → Type 0
Counts n (On, v) = v.count ≡ n + 1
Counts n (Ended end, v) = (v.count ≡ steps_at n end) × IsMachines end

-- What a turn counts; it has 1,024 slots still; and whichever slot is wished for it does the same, or it gives the next number.
pub record IsCounted (turned : ℕ → Turned) (n last wish : ℕ) : Type 0 where
  pub counts : Counts n (turned wish)
  pub live : length (turned wish).1.exceptions.live ≡ slots
  pub number : (((y : ℕ) → turned y ≡ turned wish) × ((turned wish).1.last_number ≡ last)) ⊎ ((turned wish).1.last_number ≡ last + 1)

called_counts : (n place : ℕ) (o : Outcome) → o.1.count ≡ n → Counts n (called place o)
called_counts n place (Goes, v) h = ap (λ k. k + 1) h
called_counts n place (Exits exit, v) h = (ap (λ k. k + 1) h, tt)
called_counts n place (Aborts, v) h = (ap (λ k. k + 1) h, tt)
called_counts n place (Overflows, v) h = (ap (λ k. k + 1) h, tt)
called_counts n place (Fails kind, v) h = (h, tt)

called_live : (place : ℕ) (o : Outcome) → length o.1.exceptions.live ≡ slots → length (called place o).1.exceptions.live ≡ slots
called_live place (Goes, v) h = h
called_live place (Exits exit, v) h = h
called_live place (Aborts, v) h = h
called_live place (Overflows, v) h = h
called_live place (Fails kind, v) h = h

called_number : (place : ℕ) (o : Outcome) → (called place o).1.last_number ≡ o.1.last_number
called_number place (Goes, v) = refl
called_number place (Exits exit, v) = refl
called_number place (Aborts, v) = refl
called_number place (Overflows, v) = refl
called_number place (Fails kind, v) = refl

counted_call : (place : ℕ) (call : ℕ → Outcome) (w : World) (wish : ℕ) → IsTallied call w wish → length (call wish).1.exceptions.live ≡ slots →
    IsCounted (λ y. called place (call y)) w.count w.last_number wish
counted_call place call w wish t long = record {
  counts = called_counts w.count place (call wish) t.count;
  live = called_live place (call wish) long;
  number = by t.number;
}
  where
    by : (((y : ℕ) → call y ≡ call wish) × ((call wish).1.last_number ≡ w.last_number)) ⊎ ((call wish).1.last_number ≡ w.last_number + 1) →
        (((y : ℕ) → called place (call y) ≡ called place (call wish)) × ((called place (call wish)).1.last_number ≡ w.last_number)) ⊎
        ((called place (call wish)).1.last_number ≡ w.last_number + 1)
    by (inl (same, number)) = inl (λ y. ap (called place) (same y), called_number place (call wish) ∙ number)
    by (inr number) = inr (called_number place (call wish) ∙ number)

counted_step : (image : Image) (w : World) (wish : ℕ) (step : Step × State) → w.shown ≡ [] → length w.exceptions.live ≡ slots →
    IsCounted (λ y. stepped image y w step) w.count w.last_number wish
counted_step image w wish (steps.Done, s) silent long = record { counts = refl; live = long; number = inl (λ y. refl, refl) }
counted_step image w wish (steps.Fault kind, s) silent long = record { counts = (refl, tt); live = long; number = inl (λ y. refl, refl) }
counted_step image w wish (steps.Ecall, s) silent long =
    let here = at_hart s w in
    let n = reg_of s.regs 17 in
    let fits = fits_effect 0 0 (live_of 0 0 w.exceptions.live) n image wish here (
      long,
      ap (λ (shown : List Item). live_of 0 0 w.exceptions.live + cleaned_of 0 0 shown) silent ∙
          sym (ap (λ (shown : List Item). live_of 0 0 w.exceptions.live + raised_of 0 0 shown) silent),
    ) in
    let c = counted_call w.hart.pc (λ y. call_effect n image y here) here wish (tallied_effect n image here wish long) fits.0 in
    record { counts = c.counts; live = c.live; number = c.number }

pub turn_counts : (image : Image) (w : World) (wish : ℕ) → length w.exceptions.live ≡ slots → IsCounted (λ y. turn image y w) w.count w.last_number wish
unfolding turn
turn_counts image w wish long =
    let c = counted_step image (record w { shown = [] }) wish (step_of w.hart) refl long in record { counts = c.counts; live = c.live; number = c.number }

-- ---- runs
-- a turn gives no number that was given
not_before : (image : Image) (w : World) (wish k : ℕ) → length w.exceptions.live ≡ slots → (turn image wish w).1.last_number < k → w.last_number < k
not_before image w wish k long less = by (turn_counts image w wish long).number
  where
    by : (((y : ℕ) → turn image y w ≡ turn image wish w) × ((turn image wish w).1.last_number ≡ w.last_number)) ⊎ ((turn image wish w).1.last_number ≡ w.last_number + 1) → w.last_number < k
    by (inl (same, number)) = omega (arith, number, less)
    by (inr number) = omega (arith, number, less)

-- the same choices of slots for the numbers to come give the same run
same_run : (image : Image) (p q : ℕ → ℕ) (n : ℕ) (w : World) → length w.exceptions.live ≡ slots → ((k : ℕ) → w.last_number < k → p k ≡ q k) → run image p n w ≡ run image q n w
unfolding run
same_run image p q zero w long same = refl
same_run image p q (suc n) w long same =
    ap (λ wish. and_more (run image p n) (turn image wish w)) (same (w.last_number + 1) (omega arith)) ∙
    by (turn image (q (w.last_number + 1)) w) refl (λ v live later. same_run image p q n v live later)
  where
    by : (t : Turned) → turn image (q (w.last_number + 1)) w ≡ t →
        ((v : World) → length v.exceptions.live ≡ slots → ((k : ℕ) → v.last_number < k → p k ≡ q k) → run image p n v ≡ run image q n v) →
        and_more (run image p n) t ≡ and_more (run image q n) t
    by (On, v) is rest =
        let live = subst (λ (t : Turned). length t.1.exceptions.live ≡ slots) is (turn_counts image w (q (w.last_number + 1)) long).live in
        let later = λ (k : ℕ) (less : v.last_number < k). same k (not_before image w (q (w.last_number + 1)) k long (subst (λ (t : Turned). t.1.last_number < k) (sym is) less)) in
        ap (λ (r : Ran). record r { items = v.shown ++ r.items }) (rest v live later)
    by (Ended end, v) is rest = refl

-- items before those of a run
abbrev pub behind_items : List Item → Ran → Ran
behind_items items r = record r { items = items ++ r.items }

unlike : (k n : ℕ) → n < k → (k == n) ≡ false
unlike k n less = grind (arith, nat_tests, less)

-- a run behind a turn
pub turn_more : (image : Image) (wish n : ℕ) (w v : World) (r : Ran) → length w.exceptions.live ≡ slots → turn image wish w ≡ (On, v) → Runs image n v r →
    Runs image (suc n) w (behind_items v.shown r)
unfolding run
turn_more image wish n w v r long is (p, ran) = by (turn_counts image w wish long).number
  where
    by : (((y : ℕ) → turn image y w ≡ turn image wish w) × ((turn image wish w).1.last_number ≡ w.last_number)) ⊎ ((turn image wish w).1.last_number ≡ w.last_number + 1) →
        (q : ℕ → ℕ) × (and_more (run image q n) (turn image (q (w.last_number + 1)) w) ≡ behind_items v.shown r)
    by (inl (same, number)) = (
      p,
      ap (and_more (run image p n)) (same (p (w.last_number + 1)) ∙ is) ∙ ap (behind_items v.shown) ran,
    )
    by (inr number) =
        let live = subst (λ (t : Turned). length t.1.exceptions.live ≡ slots) is (turn_counts image w wish long).live in
        let last : v.last_number ≡ w.last_number + 1 = subst (λ (t : Turned). t.1.last_number ≡ w.last_number + 1) is number in
        let q : ℕ → ℕ = λ k. cond (k == w.last_number + 1) wish (p k) in
        let yes : (w.last_number + 1 == w.last_number + 1) ≡ true = grind (arith, nat_tests) in
        let chosen : q (w.last_number + 1) ≡ wish = ap (λ (b : Bool). cond b wish (p (w.last_number + 1))) yes in
        let other = λ (k : ℕ) (less : v.last_number < k). ap (λ (b : Bool). cond b wish (p k)) (unlike k (w.last_number + 1) (omega (arith, last, less))) in (
          q,
          ap (λ y. and_more (run image q n) (turn image y w)) chosen ∙ ap (and_more (run image q n)) is ∙
              ap (behind_items v.shown) (same_run image q p n v live other ∙ ran),
        )

-- a run that ends with a turn
pub turn_ends : (image : Image) (wish n : ℕ) (w v : World) (end : End) → turn image wish w ≡ (Ended end, v) → Runs image (suc n) w (record { items = v.shown; end = end; world = v })
unfolding run
turn_ends image wish n w v end is = (λ k. wish, ap (and_more (run image (λ k. wish) n)) is)

pub budget_ends : (image : Image) (w : World) → Runs image zero w (record { items = []; end = ends.Budget; world = w })
unfolding run
budget_ends image w = (λ k. 0, refl)

-- ---- so many turns
-- behind k turns that did not end the run, which have shown the items, whatever runs then is a run from the beginning
pub record Onward (image : Image) (w v : World) (k : ℕ) (items : List Item) : Type 0 where
  pub joins : (n m : ℕ) (r : Ran) → n ≡ k + m → Runs image m v r → Runs image n w (behind_items items r)
  pub count : v.count ≡ w.count + k
  pub live : length v.exceptions.live ≡ slots

pub onward_first : (image : Image) (w : World) → length w.exceptions.live ≡ slots → Onward image w w 0 []
onward_first image w long = record {
  joins = λ n m r total ran. subst (λ (x : ℕ). Runs image x w r) (sym (total ∙ zero-add m)) ran;
  count = sym (add-zero w.count);
  live = long;
}

pub onward_next : (image : Image) (w v u : World) (k wish : ℕ) (items : List Item) → Onward image w v k items → turn image wish v ≡ (On, u) → Onward image w u (k + 1) (items ++ u.shown)
onward_next image w v u k wish items h is =
    let c = turn_counts image v wish h.live in
    let counts : u.count ≡ v.count + 1 = subst (Counts v.count) is c.counts in
    let before = h.count in record {
      joins = λ n m r total ran.
          subst (λ (all : List Item). Runs image n w (record r { items = all })) (sym (append_assoc items u.shown r.items))
          (h.joins n (suc m) (behind_items u.shown r) (omega (arith, total)) (turn_more image wish m v u r h.live is ran));
      count = omega (arith, counts, before);
      live = subst (λ (t : Turned). length t.1.exceptions.live ≡ slots) is c.live;
    }

-- the run that a turn ends behind k turns
pub onward_ends : (image : Image) (w v u : World) (k n wish : ℕ) (items : List Item) (end : End) → Onward image w v k items → k < n → turn image wish v ≡ (Ended end, u) →
    Runs image n w (record { items = items ++ u.shown; end = end; world = u })
onward_ends image w v u k n wish items end h less is =
    h.joins n (suc (n - suc k)) (record { items = u.shown; end = end; world = u }) (omega (arith, less)) (turn_ends image wish (n - suc k) v u end is)

-- the run whose budget is used up behind k turns
pub onward_budget : (image : Image) (w v : World) (k : ℕ) (items : List Item) → Onward image w v k items → Runs image k w (record { items = items; end = ends.Budget; world = v })
onward_budget image w v k items h =
    subst (λ (all : List Item). Runs image k w (record { items = all; end = ends.Budget; world = v })) (append-nil items)
    (h.joins k 0 (record { items = []; end = ends.Budget; world = v }) (sym (add-zero k)) (budget_ends image v))
