-- The lines of the harts that go on.
use Rattle.std.proofs.Common.{◌≡◌, ◌∙◌, refl, sym, ap, subst, ℕ, ◌+◌, List, [], ◌∷◌, ◌++◌, map, length, append_assoc, append-nil, Option, None, arith}
use Rattle.std.specs.Prelude.{Result, Ok, Err}
use Rattle.std.proofs.lemmas.List.{map-append}
use Rattle.eh_outer.specs.Sink.{SinkView, Puts}
use Rattle.eh_outer.specs.declared.sink.SinkError.{SinkError}
use Rattle.run_items.specs.Output.{TakesAll, PutsAll}
use Rattle.run_items.proofs.Puts.{takes_none}
use Rattle.cxa_runtime.specs.declared.effect.End.{End}
use Rattle.cxa_runtime.specs.declared.effect.End.TheVariants.{Budget}
use Rattle.run_ends.specs.EndLine.{end_line}
use Rattle.hart_sched.specs.declared.seat.Seat.{Seat}
use Rattle.hart_sched.specs.Seats.{harts_of}
use Rattle.hart_sched.specs.Text.{Marked, budget_of, budgets_from, piece_of}
use Rattle.hart_sched.proofs.Pieces.{puts_then, puts_fail, puts_one}

pub budget_put : (k : ℕ) (o : Option End) (old new : SinkView) (result : Result (Unit {0}) SinkError) → o ≡ None → Puts (piece_of (k, end_line Budget)) old new result → PutsAll (map piece_of (budget_of k o)) old new result
budget_put k o old new result is h =
    subst (λ (o : Option End). PutsAll (map piece_of (budget_of k o)) old new result) (sym is) (puts_one (piece_of (k, end_line Budget)) old new result h)

-- up to a hart they went out
pub record BudgetsSoFar (seats rest : List Seat) (number : ℕ) (sink sink' : SinkView) : Type 0 where
  pub gone : List Marked
  pub at : number + length rest ≡ length seats
  pub split : budgets_from 0 (harts_of seats) ≡ gone ++ budgets_from number (harts_of rest)
  pub takes : TakesAll (map piece_of gone) sink sink'

pub budgets_first : (seats : List Seat) (sink : SinkView) → BudgetsSoFar seats seats 0 sink sink
budgets_first seats sink = record { gone = []; at = omega arith; split = refl; takes = takes_none sink }

one_split : (number : ℕ) (seat : Seat) (others : List Seat) → budgets_from number (harts_of (seat ∷ others)) ≡ budget_of number seat.end ++ budgets_from (number + 1) (harts_of others)
unfolding budgets_from
one_split number seat others = refl

pub budgets_next : (seats rest : List Seat) (number : ℕ) (seat : Seat) (others : List Seat) (old mid last : SinkView) → rest ≡ seat ∷ others → BudgetsSoFar seats rest number old mid →
    TakesAll (map piece_of (budget_of number seat.end)) mid last → BudgetsSoFar seats others (number + 1) old last
budgets_next seats rest number seat others old mid last is h takes =
    let at = h.at in
    let size : length rest ≡ length (seat ∷ others) = ap length is in record {
      gone = h.gone ++ budget_of number seat.end;
      at = omega (arith, at, size);
      split = h.split ∙ ap (λ (ss : List Seat). h.gone ++ budgets_from number (harts_of ss)) is ∙ ap (λ (ms : List Marked). h.gone ++ ms) (one_split number seat others) ∙
          sym (append_assoc h.gone (budget_of number seat.end) (budgets_from (number + 1) (harts_of others)));
      takes = subst (λ (pieces : List (List ℕ)). TakesAll pieces old last) (sym (map-append piece_of h.gone (budget_of number seat.end)))
          (puts_then (map piece_of h.gone) (map piece_of (budget_of number seat.end)) old mid last (Ok tt) h.takes takes);
    }

pub budgets_fail : (seats rest : List Seat) (number : ℕ) (seat : Seat) (others : List Seat) (old mid last : SinkView) (e : SinkError) → rest ≡ seat ∷ others → BudgetsSoFar seats rest number old mid →
    PutsAll (map piece_of (budget_of number seat.end)) mid last (Err e) → PutsAll (map piece_of (budgets_from 0 (harts_of seats))) old last (Err e)
budgets_fail seats rest number seat others old mid last e is h fails =
    let own = budget_of number seat.end in
    let more = budgets_from (number + 1) (harts_of others) in
    let whole : budgets_from 0 (harts_of seats) ≡ h.gone ++ (own ++ more) = h.split ∙ ap (λ (ss : List Seat). h.gone ++ budgets_from number (harts_of ss)) is ∙ ap (λ (ms : List Marked). h.gone ++ ms) (one_split number seat others) in
    let pieces : map piece_of (budgets_from 0 (harts_of seats)) ≡ map piece_of h.gone ++ (map piece_of own ++ map piece_of more) =
    ap (map piece_of) whole ∙ map-append piece_of h.gone (own ++ more) ∙ ap (λ (ps : List (List ℕ)). map piece_of h.gone ++ ps) (map-append piece_of own more) in
    subst (λ (ps : List (List ℕ)). PutsAll ps old last (Err e)) (sym pieces)
    (puts_then (map piece_of h.gone) (map piece_of own ++ map piece_of more) old mid last (Err e) h.takes (puts_fail (map piece_of own) (map piece_of more) mid last e fails))

pub budgets_all : (seats rest : List Seat) (number : ℕ) (old new : SinkView) → rest ≡ [] → BudgetsSoFar seats rest number old new → TakesAll (map piece_of (budgets_from 0 (harts_of seats))) old new
unfolding budgets_from
budgets_all seats rest number old new none h =
    let whole : budgets_from 0 (harts_of seats) ≡ h.gone = h.split ∙ ap (λ (ss : List Seat). h.gone ++ budgets_from number (harts_of ss)) none ∙ append-nil h.gone in
    subst (λ (ms : List Marked). TakesAll (map piece_of ms) old new) (sym whole) h.takes

pub no_seat : (seats : List Seat) → length seats ≡ 0 → seats ≡ []
no_seat [] e = refl
no_seat (s ∷ ss) e = absurd (omega (arith, e))
