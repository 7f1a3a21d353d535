-- The lines of one hart.
use Rattle.std.proofs.Common.{◌≡◌, ◌∙◌, refl, sym, ap, subst, ℕ, zero, suc, ◌+◌, ◌<◌, ◌==◌, Bool, true, false, cond, List, [], ◌∷◌, ◌++◌, map, length, append_assoc, append-nil, slice_get, Option, Some, None, arith}
use Rattle.std.specs.Prelude.{filter, unwrap_or}
use Rattle.std.proofs.lemmas.Bool.Decides.{nat_tests}
use Rattle.std.proofs.lemmas.List.{map-append, length-replicate}
use Rattle.std.proofs.lemmas.List.Elements.{filter-append}
use Rattle.run_items.specs.declared.item.Item.{Item}
use Rattle.run_items.specs.Line as plain
use Rattle.caught_stack.specs.declared.header.Header.{Header}
use Rattle.caught_stack.specs.Live.{slots, all_vacant}
use Rattle.cxa_runtime.specs.declared.effect.End.{End}
use Rattle.cxa_runtime.specs.declared.effect.End.TheVariants.{Budget}
use Rattle.cxa_runtime.specs.Raising.{Image}
use Rattle.cxa_runtime.specs.Run as machine
use Rattle.cxa_runtime.specs.World.{World, begins}
use Rattle.eh_run.proofs.Turning.{onward_first, onward_budget}
use Rattle.hart_sched.specs.Hart.{Hart, hart_begins}
use Rattle.hart_sched.specs.Turn.{Told, shown}
use Rattle.hart_sched.specs.Run.{Ran, order_of}
use Rattle.run_ends.specs.EndLine.{end_line}
use Rattle.hart_sched.specs.Text.{Marked, line_of, is_printed, lines_of, budget_of, budgets_from, run_lines}
use Rattle.hart_sched.specs.Laws.{told_of, own_lines, ended_as, EachRunsAlone}
use Rattle.hart_sched.proofs.Positions.{mapped}
use Rattle.hart_sched.proofs.Own.{Stands, all_turns}

own_both : (k : ℕ) (xs ys : List Marked) → own_lines k (xs ++ ys) ≡ own_lines k xs ++ own_lines k ys
own_both k [] ys = refl
own_both k ((j, line) ∷ xs) ys = by (own_both k xs ys) (j == k)
  where
    by : own_lines k (xs ++ ys) ≡ own_lines k xs ++ own_lines k ys → (b : Bool) → cond b (line ∷ own_lines k (xs ++ ys)) (own_lines k (xs ++ ys)) ≡ cond b (line ∷ own_lines k xs) (own_lines k xs) ++ own_lines k ys
    by more true = ap (λ (ls : List (List ℕ)). line ∷ ls) more
    by more false = more

-- the lines of what is told of one hart
abbrev told_lines : Bool → List Told → List (List ℕ)
told_lines trace told = map line_of (filter (is_printed trace) told)

own_told : (trace : Bool) (k : ℕ) (told : List (ℕ × Told)) → own_lines k (lines_of trace told) ≡ told_lines trace (told_of k told)
own_told trace k [] = refl
own_told trace k ((j, t) ∷ more) = by (own_told trace k more) (is_printed trace t) refl (j == k) refl
  where
    by : own_lines k (lines_of trace more) ≡ told_lines trace (told_of k more) → (p : Bool) → is_printed trace t ≡ p → (b : Bool) → (j == k) ≡ b →
        own_lines k (map (λ (x : ℕ × Told). (x.0, line_of x.1)) (cond p ((j, t) ∷ filter (λ (x : ℕ × Told). is_printed trace x.1) more) (filter (λ (x : ℕ × Told). is_printed trace x.1) more)))
        ≡ told_lines trace (cond b (t ∷ told_of k more) (told_of k more))
    by rest true printed true like =
        ap (λ b. cond b (line_of t ∷ own_lines k (lines_of trace more)) (own_lines k (lines_of trace more))) like ∙ ap (λ (ls : List (List ℕ)). line_of t ∷ ls) rest ∙
        ap (λ p. map line_of (cond p (t ∷ filter (is_printed trace) (told_of k more)) (filter (is_printed trace) (told_of k more)))) (sym printed)
    by rest true printed false unlike =
        ap (λ b. cond b (line_of t ∷ own_lines k (lines_of trace more)) (own_lines k (lines_of trace more))) unlike ∙ rest
    by rest false printed true like =
        rest ∙ ap (λ p. map line_of (cond p (t ∷ filter (is_printed trace) (told_of k more)) (filter (is_printed trace) (told_of k more)))) (sym printed)
    by rest false printed false unlike = rest

shown_lines : (trace : Bool) (items : List Item) → told_lines trace (map shown items) ≡ plain.lines_of trace items
shown_lines trace [] = refl
shown_lines trace (item ∷ items) = by (shown_lines trace items) (plain.is_printed trace item)
  where
    by : told_lines trace (map shown items) ≡ plain.lines_of trace items → (b : Bool) → map line_of (cond b (shown item ∷ filter (is_printed trace) (map shown items)) (filter (is_printed trace) (map shown items)))
        ≡ map plain.line_of (cond b (item ∷ filter (plain.is_printed trace) items) (filter (plain.is_printed trace) items))
    by more true = ap (λ (ls : List (List ℕ)). plain.line_of item ∷ ls) more
    by more false = more

-- ---- harts that go on
-- the last line of one
abbrev last_of : Option End → List (List ℕ)
last_of (Some end) = []
last_of None = end_line Budget ∷ []

unlike_less : (j k : ℕ) → k < j → (j == k) ≡ false
unlike_less j k less = grind (arith, nat_tests, less)

unlike_more : (j i : ℕ) → (j == j + suc i) ≡ false
unlike_more j i = grind (arith, nat_tests)

own_budget : (j k : ℕ) (end : Option End) → (j == k) ≡ true → own_lines k (budget_of j end) ≡ last_of end
own_budget j k (Some end) like = refl
own_budget j k None like = ap (λ b. cond b (end_line Budget ∷ []) []) like

no_budget : (j k : ℕ) (end : Option End) → (j == k) ≡ false → own_lines k (budget_of j end) ≡ []
no_budget j k (Some end) unlike = refl
no_budget j k None unlike = ap (λ b. cond b (end_line Budget ∷ []) []) unlike

none_behind : (k j : ℕ) (harts : List Hart) → k < j → own_lines k (budgets_from j harts) ≡ []
unfolding budgets_from
none_behind k j [] less = refl
none_behind k j (hart ∷ harts) less =
    own_both k (budget_of j hart.end) (budgets_from (j + 1) harts) ∙ ap (λ (ls : List (List ℕ)). ls ++ own_lines k (budgets_from (j + 1) harts)) (no_budget j k hart.end (unlike_less j k less)) ∙
    none_behind k (j + 1) harts (omega (arith, less))

own_last : (j i k : ℕ) (harts : List Hart) (hart : Hart) → k ≡ j + i → slice_get harts i ≡ Some hart → own_lines k (budgets_from j harts) ≡ last_of hart.end
unfolding budgets_from
own_last j i k [] hart is there = absurd cc
own_last j zero k (other ∷ harts) hart is there =
    let like : (j == k) ≡ true = grind (arith, nat_tests, is) in
    own_both k (budget_of j other.end) (budgets_from (j + 1) harts) ∙ ap (λ (ls : List (List ℕ)). ls ++ own_lines k (budgets_from (j + 1) harts)) (own_budget j k other.end like) ∙
    ap (λ (ls : List (List ℕ)). last_of other.end ++ ls) (none_behind k (j + 1) harts (omega (arith, is))) ∙ append-nil (last_of other.end) ∙ ap (λ (h : Hart). last_of h.end) (same there)
  where
    same : Some other ≡ Some hart → other ≡ hart
    same e = cc
own_last j (suc i) k (other ∷ harts) hart is there =
    let unlike : (j == k) ≡ false = subst (λ (n : ℕ). (j == n) ≡ false) (sym is) (unlike_more j i) in
    own_both k (budget_of j other.end) (budgets_from (j + 1) harts) ∙ ap (λ (ls : List (List ℕ)). ls ++ own_lines k (budgets_from (j + 1) harts)) (no_budget j k other.end unlike) ∙
    own_last (j + 1) i k harts hart (omega (arith, is)) there

-- ---- all lines of a hart
ends_line : (trace : Bool) (end : Option End) → told_lines trace (ended_as end) ++ last_of end ≡ end_line (unwrap_or end Budget) ∷ []
ends_line trace None = refl
ends_line trace (Some end) = refl

all_lines : (trace : Bool) (k : ℕ) (r : Ran) (items : List Item) (hart : Hart) → told_of k r.told ≡ map shown items ++ ended_as hart.end → slice_get r.harts k ≡ Some hart →
    own_lines k (run_lines trace r) ≡ plain.lines_of trace items ++ end_line (unwrap_or hart.end Budget) ∷ []
all_lines trace k r items hart told there =
    own_both k (lines_of trace r.told) (budgets_from 0 r.harts) ∙ ap (λ (ls : List (List ℕ)). ls ++ own_lines k (budgets_from 0 r.harts)) first ∙
    ap (λ (ls : List (List ℕ)). (plain.lines_of trace items ++ told_lines trace (ended_as hart.end)) ++ ls) (own_last 0 k k r.harts hart (omega arith) there) ∙
    append_assoc (plain.lines_of trace items) (told_lines trace (ended_as hart.end)) (last_of hart.end) ∙ ap (λ (ls : List (List ℕ)). plain.lines_of trace items ++ ls) (ends_line trace hart.end)
  where
    first : own_lines k (lines_of trace r.told) ≡ plain.lines_of trace items ++ told_lines trace (ended_as hart.end)
    first = own_told trace k r.told ∙ ap (told_lines trace) told ∙ ap (map line_of) (filter-append (is_printed trace) (map shown items) (ended_as hart.end)) ∙
        map-append line_of (filter (is_printed trace) (map shown items)) (filter (is_printed trace) (ended_as hart.end)) ∙
        ap (λ (ls : List (List ℕ)). ls ++ told_lines trace (ended_as hart.end)) (shown_lines trace items)

slots_at_first : length all_vacant ≡ slots
unfolding all_vacant
slots_at_first = length-replicate {A = Option Header} slots None

stands_as_run : (image : Image) (w v : World) (items : List Item) (end : Option End) (n : ℕ) → Stands image w items end v n →
    machine.Runs image n w (record { items = items; end = unwrap_or end Budget; world = v })
stands_as_run image w v items None n h = onward_budget image w v n items h
stands_as_run image w v items (Some end) n h = h

pub each_runs_alone : EachRunsAlone
each_runs_alone image s inputs slices trace r runs k input given =
    let w = begins s input [] in
    let h = all_turns image w k (order_of slices) (map (hart_begins s) inputs) r runs [] (hart_begins s input) (mapped (hart_begins s) inputs k input given) (onward_first image w slots_at_first) in (
      h.hart,
      h.there,
      record {
        own = record { items = h.on.more; end = unwrap_or h.hart.end Budget; world = h.hart.world };
        runs = stands_as_run image w h.hart.world h.on.more h.hart.end h.hart.taken h.on.stands;
        end = refl;
        world = refl;
        told = h.on.tells;
        lines = all_lines trace k r h.on.more h.hart h.on.tells h.there;
      },
    )
