-- From one turn of a loop to the next ranks rise, so no word comes twice.
use Rattle.std.proofs.Common.{◌≡◌, ℕ, zero, suc, ◌+◌, ◌<◌, ◌≤◌, List, [], ◌∷◌, map, take, length, Some, refl, ap, ⊎_elim, arith}
use Rattle.std.specs.List.{AllByRecursion}
use Rattle.std.specs.Prelude.{slice_get}
use Rattle.linear_forms.specs.Linear.{LinearOp, FunctionCode}
use Rattle.linear_forms.specs.Unit.{unit_of}
use Rattle.machine_forms.specs.LinearCode.{linear_code}
use Rattle.machine_forms.specs.Routine.{block_words, routine_words}
use Rattle.machine_forms.specs.Shape.{Shape}
use Rattle.machine_forms.specs.Emitted.{shape_of, function_front, function_routine}
use Rattle.cost_paths.specs.Words.{Leads, LoopTurns, AreWordRanks, HasWordRanks}
use Rattle.cost_paths.specs.Runs.{GoesBy, RunsFew, FewWordsRun}
use Rattle.cost_paths.proofs.Rows.{found_below}
use Rattle.cost_paths.proofs.Words.{words_are_in_order}

-- a word from which control goes is one of the function's

before_inside : (f : Shape) (ops : List LinearOp) (p i : ℕ) (o : LinearOp) → slice_get ops p ≡ Some o → i < length (linear_code f o) →
    block_words (take p (map (linear_code f) ops)) + i < block_words (map (linear_code f) ops)
before_inside f [] p i o e lt = absurd (cc e)
before_inside f (x ∷ ops) zero i o e lt = let same : x ≡ o = cc e in omega (arith, lt, ap (λ y. length (linear_code f y)) same)
before_inside f (x ∷ ops) (suc p) i o e lt = omega (arith, before_inside f ops p i o e lt)

leads_inside : (g : FunctionCode) (n m : ℕ) → Leads g n m → n < routine_words (function_routine g)
leads_inside g n m leads =
    let f : Shape = shape_of g in
    ⊎_elim (λ w. omega (arith, found_below (function_front f g.parameters) n w.0.piece w.0.there))
    (λ w. omega (arith, w.0.is, before_inside f g.ops w.0.place w.0.index w.0.operation w.0.there (found_below (linear_code f w.0.operation) w.0.index w.0.piece w.0.word))) leads

some_number : (a b : ℕ) → Some a ≡ Some b → a ≡ b
some_number a b e = cc e

module _ (g : FunctionCode) (rank : ℕ → ℕ) (h : AreWordRanks g rank) where
  abbrev most : ℕ
  most = routine_words (function_routine g)

  steps_up : (n m : ℕ) → Leads g n m → (LoopTurns g n m → ⊥) → rank n < rank m
  steps_up n m leads straight = ⊎_elim (λ up. up) (λ turn. absurd (straight turn)) (h.rises n m leads)

  few_from : (n : ℕ) (ms : List ℕ) → rank n ≤ most → GoesBy g n ms → rank n + length ms ≤ most
  few_from n [] inside goes = omega (arith, inside)
  few_from n (m ∷ ms) inside goes = last ms (steps_up n m goes.0 goes.1) (h.inside n (leads_inside g n m goes.0)) goes.2 (λ le. few_from m ms le goes.2)
    where
      last : (ms : List ℕ) → rank n < rank m → rank n < most → GoesBy g m ms → (rank m ≤ most → rank m + length ms ≤ most) → rank n + length (m ∷ ms) ≤ most
      last [] up below on rest = omega (arith, below)
      last (k ∷ ms) up below on rest = let next = rest (omega (arith, h.inside m (leads_inside g m k on.0))) in omega (arith, next, up)

  start_low : (n : ℕ) (ms : List ℕ) → GoesBy g n ms → (rank n ≤ most → rank n + length ms ≤ most) → length ms ≤ most
  start_low n [] goes rest = omega arith
  start_low n (m ∷ ms) goes rest = let all = rest (omega (arith, h.inside n (leads_inside g n m goes.0))) in omega (arith, all)

  -- what comes later has a higher rank
  above : (n : ℕ) (ms : List ℕ) (i m : ℕ) → GoesBy g n ms → slice_get ms i ≡ Some m → rank n < rank m
  above n [] i m goes e = absurd (cc e)
  above n (k ∷ ms) zero m goes e = let same = ap rank (some_number k m e) in omega (arith, steps_up n k goes.0 goes.1, same)
  above n (k ∷ ms) (suc i) m goes e = omega (arith, steps_up n k goes.0 goes.1, above k ms i m goes.2 e)

  once_at : (n : ℕ) (ms : List ℕ) (i j m : ℕ) → GoesBy g n ms → slice_get (n ∷ ms) i ≡ Some m → slice_get (n ∷ ms) j ≡ Some m → i ≡ j
  once_at n ms zero zero m goes a b = refl
  once_at n ms zero (suc j) m goes a b = let same = ap rank (some_number n m a) in absurd (omega (arith, above n ms j m goes b, same))
  once_at n ms (suc i) zero m goes a b = let same = ap rank (some_number n m b) in absurd (omega (arith, above n ms i m goes a, same))
  once_at n [] (suc i) (suc j) m goes a b = absurd (cc a)
  once_at n (k ∷ ms) (suc i) (suc j) m goes a b = ap suc (once_at k ms i j m goes.2 a b)

  runs_few : RunsFew g
  runs_few = record { few = λ n ms goes. start_low n ms goes (λ le. few_from n ms le goes); once = λ n ms i j m goes a b. once_at n ms i j m goes a b }

each_function : (gs : List FunctionCode) → AllByRecursion HasWordRanks gs → AllByRecursion RunsFew gs
each_function [] h = tt
each_function (g ∷ gs) h = (runs_few g h.0.0 h.0.1, each_function gs h.1)

pub few_words_run : FewWordsRun
few_words_run r = each_function (unit_of r).functions (words_are_in_order r)
