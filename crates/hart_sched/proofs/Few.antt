-- A hart takes no more steps than it has turns, and a schedule has few of them.
use Rattle.std.proofs.Common.{◌≡◌, ◌∙◌, refl, sym, ap, subst, ℕ, zero, suc, ◌+◌, ◌≤◌, ◌==◌, Bool, true, false, cond, List, [], ◌∷◌, ◌++◌, map, replicate, slice_get, Option, Some, None, arith}
use Rattle.std.specs.Prelude.{Result, Ok, Err, nat_le, nat_lt, option_map}
use Rattle.std.proofs.lemmas.Bool.Decides.{nat_tests}
use Rattle.std.proofs.lemmas.List.Sums.{sum_by-cons}
use Rattle.cxa_runtime.specs.declared.effect.End.{End}
use Rattle.cxa_runtime.specs.declared.effect.Turn.TheVariants.{On, Ended}
use Rattle.cxa_runtime.specs.Raising.{Image}
use Rattle.cxa_runtime.specs.Run as machine
use Rattle.cxa_runtime.specs.World.{World}
use Rattle.plain_text.specs.Lines.{lines_of}
use Rattle.hart_sched.specs.Schedule.{Slice, Entry, Refusal, slice_of, turns_place, entries_from, fault_from, most_turns, unless_fault, tested, schedule, turns_among}
use Rattle.hart_sched.specs.Hart.{Hart, has_to_wait, hart_begins, live_over}
use Rattle.hart_sched.specs.Turn.{Turned, turn, waits, takes}
use Rattle.hart_sched.specs.Run.{Ran, Runs, turn_at, turned_as, order_of}
use Rattle.hart_sched.specs.Laws.{own_turns, turns_for, OwnTurnsAreFew}
use Rattle.hart_sched.proofs.Positions.{set_same, set_other, alike, mapped}

-- ---- one turn
-- how many turns a hart has used
abbrev used : Hart → ℕ
used hart = hart.taken + hart.waits

step_few : (v : World) (n m : ℕ) (t : machine.Turned) → used (takes (record { world = v; end = None; taken = n; waits = m }) t).0 ≤ n + m + 1
step_few v n m (On, w) = omega arith
step_few v n m (Ended end, w) = omega arith

turn_few : (image : Image) (wish live : ℕ) (hart : Hart) → used (turn image wish live hart).0 ≤ used hart + 1
unfolding turn
turn_few image wish live hart = by hart.world hart.end hart.taken hart.waits
  where
    by : (v : World) (end : Option End) (n m : ℕ) → used (turn image wish live (record { world = v; end = end; taken = n; waits = m })).0 ≤ n + m + 1
    by v (Some end) n m = omega arith
    by v None n m = waited (has_to_wait live v)
      where
        hart' : Hart
        hart' = record { world = v; end = None; taken = n; waits = m }

        waited : (b : Bool) → used (cond b (waits hart') (takes hart' (machine.turn image wish v))).0 ≤ n + m + 1
        waited true = omega arith
        waited false = step_few v n m (machine.turn image wish v)

-- ---- a turn of some hart
-- hart number k has used so many turns more
record Uses (k n : ℕ) (old : Hart) (q : Ran) : Type 0 where
  pub hart : Hart
  pub there : slice_get q.harts k ≡ Some hart
  pub few : used hart ≤ used old + n

abbrev once : Bool → ℕ
once b = cond b 1 0

other_turn : (j k : ℕ) (harts : List Hart) (hart : Hart) → (j == k) ≡ false → slice_get harts k ≡ Some hart → (o : Option Turned) → Uses k 0 hart (turned_as j harts o)
other_turn j k harts hart unlike there None = record { hart = hart; there = there; few = omega arith }
other_turn j k harts hart unlike there (Some (new, told)) = record { hart = hart; there = set_other harts j k new unlike ∙ there; few = omega arith }

some_turn : (image : Image) (wish j k : ℕ) (harts : List Hart) (hart : Hart) → slice_get harts k ≡ Some hart → Uses k (once (j == k)) hart (turn_at image wish j harts)
some_turn image wish j k harts hart there = by (j == k) refl
  where
    by : (b : Bool) → (j == k) ≡ b → Uses k (once b) hart (turn_at image wish j harts)
    by false unlike = other_turn j k harts hart unlike there (option_map (turn image wish (live_over harts)) (slice_get harts j))
    by true like =
        let new = (turn image wish (live_over harts) hart).0 in
        subst (λ (i : ℕ). Uses k 1 hart (turn_at image wish i harts)) (sym (alike j k like))
        (subst (λ (o : Option Hart). Uses k 1 hart (turned_as k harts (option_map (turn image wish (live_over harts)) o))) (sym there)
        (record { hart = new; there = set_same harts k new hart there; few = turn_few image wish (live_over harts) hart }))

-- ---- all turns
-- how often a number is among others
abbrev among : ℕ → List ℕ → ℕ
among k [] = 0
among k (j ∷ js) = once (j == k) + among k js

all_few : (image : Image) (k : ℕ) (ks : List ℕ) (harts : List Hart) (r : Ran) → Runs image ks harts r → (hart : Hart) → slice_get harts k ≡ Some hart → Uses k (among k ks) hart r
all_few image k [] harts r is hart there = subst (λ (q : Ran). Uses k 0 hart q) (sym is) (record { hart = hart; there = there; few = omega arith })
all_few image k (j ∷ ks) harts r (wish, more, runs, is) hart there =
    let first = some_turn image wish j k harts hart there in
    let rest = all_few image k ks (turn_at image wish j harts).harts more runs first.hart first.there in
    let a = first.few in
    let b = rest.few in
    subst (λ (q : Ran). Uses k (once (j == k) + among k ks) hart q) (sym is) (record { hart = rest.hart; there = rest.there; few = omega (arith, a, b) })

-- ---- the turns of a schedule
among_both : (k : ℕ) (xs ys : List ℕ) → among k (xs ++ ys) ≡ among k xs + among k ys
among_both k [] ys = omega arith
among_both k (x ∷ xs) ys = let more = among_both k xs ys in omega (arith, more)

among_one : (k j n : ℕ) → among k (replicate n j) ≡ own_turns k (j, n)
among_one k j n = by (j == k) refl
  where
    all : (m : ℕ) (b : Bool) → (j == k) ≡ b → among k (replicate m j) ≡ cond b m 0
    all zero true like = refl
    all zero false like = refl
    all (suc m) true like =
        let one = ap once like in
        let more = all m true like in omega (arith, one, more)
    all (suc m) false like =
        let none = ap once like in
        let more = all m false like in omega (arith, none, more)

    by : (b : Bool) → (j == k) ≡ b → among k (replicate n j) ≡ own_turns k (j, n)
    by b is = all n b is ∙ ap (λ c. cond c n 0) (sym is)

among_slices : (k : ℕ) (slices : List Slice) → among k (order_of slices) ≡ turns_for k slices
unfolding order_of
among_slices k [] = refl
among_slices k ((j, n) ∷ slices) =
    let one = among_one k j n in
    let more = among_slices k slices in
    let both = among_both k (replicate n j) (order_of slices) in
    let sum = sum_by-cons (own_turns k) (j, n) slices in omega (arith, one, more, both, sum)

own_within : (k : ℕ) (slices : List Slice) → turns_for k slices ≤ turns_among slices
own_within k [] = omega arith
own_within k ((j, n) ∷ slices) =
    let more = own_within k slices in
    let own = sum_by-cons (own_turns k) (j, n) slices in
    let all = sum_by-cons (λ (s : Slice). s.1) (j, n) slices in
    let one = within (j == k) in omega (arith, more, own, all, one)
  where
    within : (b : Bool) → cond b n 0 ≤ n
    within true = omega arith
    within false = omega arith

pub own_turns_are_few : OwnTurnsAreFew
own_turns_are_few image s inputs slices r runs k input given =
    let h = all_few image k (order_of slices) (map (hart_begins s) inputs) r runs (hart_begins s input) (mapped (hart_begins s) inputs k input given) in
    let few = h.few in
    let is = among_slices k slices in
    let within = own_within k slices in
    (h.hart, h.there, record { own = omega (arith, few, is); all = omega (arith, within) })

-- ---- the turns of a text
few_from : (harts turns : ℕ) (es : List Entry) → turns ≤ most_turns → fault_from harts turns es ≡ None → turns + turns_among (map slice_of es) ≤ most_turns
unfolding fault_from
few_from harts turns [] fits none = let nothing : turns_among [] ≡ 0 = refl in omega (arith, fits, nothing)
few_from harts turns (e ∷ es) fits none =
    by (nat_le harts e.line.hart) (nat_lt most_turns (turns + e.line.turns)) refl none (λ fits' none'. few_from harts (turns + e.line.turns) es fits' none')
  where
    by : (a b : Bool) → nat_lt most_turns (turns + e.line.turns) ≡ b →
        cond a (Some (record { number = 81; place = e.place })) (cond b (Some (record { number = 82; place = turns_place e })) (fault_from harts (turns + e.line.turns) es)) ≡ None →
        (turns + e.line.turns ≤ most_turns → fault_from harts (turns + e.line.turns) es ≡ None → turns + e.line.turns + turns_among (map slice_of es) ≤ most_turns) →
        turns + turns_among (map slice_of (e ∷ es)) ≤ most_turns
    by true b is h later = absurd cc
    by false true is h later = absurd cc
    by false false is h later =
        let fits' : turns + e.line.turns ≤ most_turns = grind (arith, nat_tests, is) in
        let more = later fits' h in
        let sum = sum_by-cons (λ (s : Slice). s.1) (slice_of e) (map slice_of es) in omega (arith, more, sum)

pub scheduled_few : (harts : ℕ) (bytes : List ℕ) (slices : List Slice) → schedule harts bytes ≡ Ok slices → turns_among slices ≤ most_turns
unfolding schedule
scheduled_few harts bytes slices h = by (entries_from 0 (lines_of bytes)) h
  where
    same : (x y : List Slice) → ◌≡◌ {A = Result (List Slice) Refusal} (Ok x) (Ok y) → x ≡ y
    same x y e = cc

    read : (es : List Entry) (o : Option Refusal) → fault_from harts 0 es ≡ o → unless_fault es o ≡ Ok slices → turns_among slices ≤ most_turns
    read es (Some refusal) fault h = absurd cc
    read es None fault h = let few = few_from harts 0 es (omega arith) fault in subst (λ (ss : List Slice). turns_among ss ≤ most_turns) (same (map slice_of es) slices h) (omega (arith, few))

    by : (r : Result (List Entry) Refusal) → tested harts r ≡ Ok slices → turns_among slices ≤ most_turns
    by (Err refusal) h = absurd cc
    by (Ok es) h = read es (fault_from harts 0 es) refl h
