-- The runs of a script, read one by one.
use Rattle.std.proofs.Common.{◌≡◌, ◌∙◌, ◌≤◌, ◌<◌, ◌-◌, ◌+◌, ℕ, Bor, Bool, true, false, cond, List, [], ◌∷◌, ◌++◌, map, drop, get_or, length, Option, Some, None, refl, sym, ap, arith}
use Rattle.std.specs.Prelude.{nat_le, sum_by}
use Rattle.std.specs.Option.{option_and_then, option_map}
use Rattle.std.proofs.lemmas.Bool.{le-leb}
use Rattle.std.proofs.lemmas.List.{drop_more}
use Rattle.std.proofs.lemmas.List.Sums.{sum_by-cons}
use Rattle.std.proofs.lemmas.Bool.Decides.{nat_tests}
use Rattle.eh_outer.specs.declared.module.Reply.{Reply}
use Rattle.command_line.proofs.Lists.{one_more, with_front}
use Rattle.command_line.specs.Script.{all_some, both, few, run_of, run_within, runs_within, within}

-- the tests of a first run and of the others are the test of all
sums : (count total left : ℕ) (runs : List (Reply × ℕ)) (run : Reply × ℕ)
    → cond (nat_le (count + total) left) (Some (run ∷ runs)) None
    ≡ cond (nat_le count left) (option_map (λ rs. run ∷ rs) (cond (nat_le total (left - count)) (Some runs) None)) None
sums count total left runs run = go (nat_le count left) refl (nat_le total (left - count)) refl
  where
    go : (a : Bool) → nat_le count left ≡ a → (b : Bool) → nat_le total (left - count) ≡ b
        → cond (nat_le (count + total) left) (Some (run ∷ runs)) None ≡ cond a (option_map (λ rs. run ∷ rs) (cond b (Some runs) None)) None
    go true e true f = let all : nat_le (count + total) left ≡ true = grind (arith, nat_tests) in rw all refl
    go true e false f = let all : nat_le (count + total) left ≡ false = grind (arith, nat_tests) in rw all refl
    go false e b f = let all : nat_le (count + total) left ≡ false = grind (arith, nat_tests) in rw all refl

nothing_within : (a : Bool) (run : Reply × ℕ) → cond a (option_map (λ (rs : List (Reply × ℕ)). run ∷ rs) None) None ≡ None
nothing_within true run = refl
nothing_within false run = refl

-- the runs of all items, where they are few, are those read one by one
pub few_within : (left : ℕ) (items : List (List ℕ)) → option_and_then (few left) (all_some run_of items) ≡ runs_within left items
unfolding runs_within
few_within left [] = ap (λ (b : Bool). cond b (Some []) None) (le-leb 0 left (omega arith))
few_within left (item ∷ items) = go (run_of item) (λ n. few_within n items)
  where
    others : (run : Reply × ℕ) (o : Option (List (Reply × ℕ))) → option_and_then (few (left - run.1)) o ≡ runs_within (left - run.1) items
        → option_and_then (few left) (option_map (λ (p : (Reply × ℕ) × List (Reply × ℕ)). p.0 ∷ p.1) (both (Some run) o)) ≡ within left run (λ rest. runs_within rest items)
    others run None e = sym (ap (λ (r : Option (List (Reply × ℕ))). cond (nat_le run.1 left) (option_map (λ rs. run ∷ rs) r) None) (sym e) ∙ nothing_within (nat_le run.1 left) run)
    others run (Some runs) e =
        ap (λ (n : ℕ). cond (nat_le n left) (Some (run ∷ runs)) None) (sum_by-cons (λ (r : Reply × ℕ). r.1) run runs)
        ∙ sums run.1 (sum_by (λ r. r.1) runs) left runs run
        ∙ ap (λ (r : Option (List (Reply × ℕ))). cond (nat_le run.1 left) (option_map (λ rs. run ∷ rs) r) None) e

    go : (r : Option (Reply × ℕ)) → ((n : ℕ) → option_and_then (few n) (all_some run_of items) ≡ runs_within n items) → option_and_then (few left) (option_map (λ (p : (Reply × ℕ) × List (Reply × ℕ)). p.0 ∷ p.1) (both r (all_some run_of items))) ≡ run_within left r (λ rest. runs_within rest items)
    go None h = refl
    go (Some run) h = others run (all_some run_of items) (h (left - run.1))

-- a run that is read leaves what the others give with the count taken off
pub read_one : (left : ℕ) (item : List ℕ) (items : List (List ℕ)) (runs : List (Reply × ℕ)) (run : Reply × ℕ) → run_of item ≡ Some run → run.1 ≤ left
    → with_front (runs ++ run ∷ []) (runs_within (left - run.1) items) ≡ with_front runs (runs_within left (item ∷ items))
unfolding runs_within
read_one left item items runs run is small =
    let test : nat_le run.1 left ≡ true = grind (arith, nat_tests) in
    let whole : runs_within left (item ∷ items) ≡ option_map (λ rs. run ∷ rs) (runs_within (left - run.1) items) = rw (is, test) refl in
    one_more runs run (runs_within (left - run.1) items) ∙ ap (with_front runs) (sym whole)

pub read_none : (left : ℕ) (item : List ℕ) (items : List (List ℕ)) → run_of item ≡ None → runs_within left (item ∷ items) ≡ None
unfolding runs_within
read_none left item items is = rw is refl

pub read_many : (left : ℕ) (item : List ℕ) (items : List (List ℕ)) (run : Reply × ℕ) → run_of item ≡ Some run → left < run.1 → runs_within left (item ∷ items) ≡ None
unfolding runs_within
read_many left item items run is large =
    let test : nat_le run.1 left ≡ false = grind (arith, nat_tests) in
    rw (is, test) refl

pub read_end : (left : ℕ) → runs_within left [] ≡ Some []
unfolding runs_within
read_end left = refl

-- the texts that are left begin with the next one
pub next_text : (items : List (Bor (List ℕ))) (i : ℕ) (d : Bor (List ℕ)) → i < length items → map (λ x. x.now) (drop i items) ≡ (get_or items i d).now ∷ map (λ x. x.now) (drop (i + 1) items)
next_text items i d at = ap (map (λ (x : Bor (List ℕ)). x.now)) (drop_more items i d at)
