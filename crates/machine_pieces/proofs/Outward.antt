-- What is saved stays, and what registers hold outward of a call.
use Rattle.std.proofs.Common.{◌≡◌, ◌∙◌, sym, ap, subst, arith, ℕ, zero, suc, ◌+◌, ◌≤◌, List, [], ◌∷◌, ◌++◌, drop, length, length-append, length-drop}
use Rattle.rv64_isa.specs.State.{Part, with_value}
use Rattle.machine_forms.specs.Shape.{Shape, slot_offset}
use Rattle.machine_pieces.specs.Keeping.{AreSmall}
use Rattle.machine_pieces.specs.Saving.{SavedAt, SavedIn, AreApartFrom}
use Rattle.machine_pieces.specs.Laws.{RegistersAreSaved}
use Rattle.machine_pieces.proofs.Storing.{holds_apart}
use Rattle.machine_pieces.proofs.Restoring.{registers_restored, same_length}
use Rattle.machine_pieces.proofs.Saving.{registers_saved}

all_stay : (f : Shape) (kept values : List ℕ) (memory : List Part) (stack place size value : ℕ) → AreApartFrom f stack place size kept → SavedAt f memory stack kept values → SavedAt f (with_value memory place size value) stack kept values
all_stay f [] [] memory stack place size value out h = tt
all_stay f [] (v ∷ values) memory stack place size value out h = absurd h
all_stay f (s ∷ kept) [] memory stack place size value out h = absurd h
all_stay f (s ∷ kept) (v ∷ values) memory stack place size value out h = (
  record { aligned = h.0.aligned; below = h.0.below; holds = holds_apart memory place size value (stack + slot_offset f s) 8 v (λ i j hi hj e. out.0 j i hj hi (sym e)) h.0.holds },
  all_stay f kept values memory stack place size value out.1 h.1,
)

saved_stays : (f : Shape) (kept : List ℕ) (memory : List Part) (stack place size value : ℕ) (regs before : List ℕ) → AreApartFrom f stack place size kept → SavedIn f kept memory stack regs before →
    SavedIn f kept (with_value memory place size value) stack regs before
saved_stays f kept memory stack place size value regs before out h = record { values = h.values; there = all_stay f kept h.values memory stack place size value out h.there; before_is = h.before_is; small = h.small }

dropped : (n : ℕ) (xs : List ℕ) → AreSmall xs → AreSmall (drop n xs)
dropped zero xs h = h
dropped (suc n) [] h = tt
dropped (suc n) (x ∷ xs) h = dropped n xs h.1

joined : (xs ys : List ℕ) → AreSmall xs → AreSmall ys → AreSmall (xs ++ ys)
joined [] ys a b = b
joined (x ∷ xs) ys a b = (a.0, joined xs ys a.1 b)

outward_is_small : (f : Shape) (kept : List ℕ) (memory : List Part) (stack : ℕ) (regs before : List ℕ) → length kept ≤ 10 → SavedIn f kept memory stack regs before → AreSmall regs → length regs ≡ 10 →
    AreSmall before × (length before ≡ 10)
outward_is_small f kept memory stack regs before few h small many =
    let count = same_length f memory stack kept h.values h.there in (
      subst AreSmall (sym h.before_is) (joined h.values (drop (length h.values) regs) h.small (dropped (length h.values) regs small)),
      ap length h.before_is ∙ omega (arith, length-append h.values (drop (length h.values) regs), length-drop (length h.values) regs, count, few, many),
    )

pub registers_are_saved : RegistersAreSaved
registers_are_saved = record { saves = registers_saved; restores = registers_restored; stay = saved_stays; outward = outward_is_small }
