-- How often events are told in an allowed order.
use Rattle.std.proofs.Common.{◌≡◌, ℕ, zero, suc, ◌+◌, ◌≤◌, ◌<◌, Bool, true, false, List, [], ◌∷◌, ◌++◌, Some, refl, sym, ap, subst, arith}
use Rattle.std.specs.Prelude.{◌==◌, ◌&&◌, take, slice_get}
use Rattle.std.proofs.lemmas.List.{append_assoc, append-nil}
use Rattle.run_items.specs.declared.item.Item.{Item}
use Rattle.run_items.specs.declared.item.Item.TheVariants.{Line, Make, Foreign, Enter, Leave, Destroy, Free, Clean}
use Rattle.meaning_events.specs.Events.{one_if, is_make, is_raise, is_enter, is_leave, is_destroy, is_free, is_foreign_of, is_clean_of, makes, raises, enters, leaves, destroys, frees, foreign_of, cleans_of, IsAllowed}
use Rattle.meaning_events.specs.Counted.{AreCounted, AllowedAreCounted, FrontsAreAllowed}
use Rattle.meaning_events.proofs.Live.{number_is}
use Rattle.meaning_events.proofs.Told.{told_behind}

-- a list with an item behind it, by what the item adds
counted_by : (items : List Item) (i : Item) → ((e : ℕ) → (makes e items + is_make e i) + (raises e items + is_raise e i) ≤ 1)
    → ((e : ℕ) → destroys e items + is_destroy e i ≤ makes e items + is_make e i) → ((e : ℕ) → frees e items + is_free e i ≤ makes e items + is_make e i)
    → ((e : ℕ) → leaves e items + is_leave e i ≤ enters e items + is_enter e i)
    → ((k t : ℕ) → cleans_of k t items + is_clean_of k t i ≤ foreign_of k t items + is_foreign_of k t i) → AreCounted (items ++ i ∷ [])
counted_by items i given destroyed freed left cleaned = record {
  given = λ e. (let a = told_behind (is_make e) items i in let b = told_behind (is_raise e) items i in let x = given e in omega (arith, a, b, x));
  destroyed = λ e. (let a = told_behind (is_make e) items i in let b = told_behind (is_destroy e) items i in let x = destroyed e in omega (arith, a, b, x));
  freed = λ e. (let a = told_behind (is_make e) items i in let b = told_behind (is_free e) items i in let x = freed e in omega (arith, a, b, x));
  left = λ e. (let a = told_behind (is_leave e) items i in let b = told_behind (is_enter e) items i in let x = left e in omega (arith, a, b, x));
  cleaned = λ k t. (let a = told_behind (is_clean_of k t) items i in let b = told_behind (is_foreign_of k t) items i in let x = cleaned k t in omega (arith, a, b, x));
}

counted_behind : (items : List Item) (i : Item) → AreCounted items → IsAllowed items i → AreCounted (items ++ i ∷ [])
counted_behind items (Line z) h this =
    counted_by items (Line z) (λ e. (let x = h.given e in omega (arith, x))) (λ e. (let x = h.destroyed e in omega (arith, x))) (λ e. (let x = h.freed e in omega (arith, x)))
    (λ e. (let x = h.left e in omega (arith, x))) (λ k t. (let x = h.cleaned k t in omega (arith, x)))
counted_behind items (Enter n) h this =
    counted_by items (Enter n) (λ e. (let x = h.given e in omega (arith, x))) (λ e. (let x = h.destroyed e in omega (arith, x))) (λ e. (let x = h.freed e in omega (arith, x)))
    (λ e. (let x = h.left e in omega (arith, x))) (λ k t. (let x = h.cleaned k t in omega (arith, x)))
counted_behind items (Make n) h this =
    counted_by items (Make n) (λ e. new e (n == e) refl) (λ e. (let x = h.destroyed e in omega (arith, x))) (λ e. (let x = h.freed e in omega (arith, x)))
    (λ e. (let x = h.left e in omega (arith, x))) (λ k t. (let x = h.cleaned k t in omega (arith, x)))
  where
    new : (e : ℕ) (b : Bool) → (n == e) ≡ b → (makes e items + one_if b) + (raises e items + 0) ≤ 1
    new e true is = let a : makes e items ≡ 0 = subst (λ m. makes m items ≡ 0) (number_is n e is) this.unmade in
        let b : raises e items ≡ 0 = subst (λ m. raises m items ≡ 0) (number_is n e is) this.unraised in omega (arith, a, b)
    new e false is = let x = h.given e in omega (arith, x)
counted_behind items (Foreign n k t) h this =
    counted_by items (Foreign n k t) (λ e. new e (n == e) refl) (λ e. (let x = h.destroyed e in omega (arith, x))) (λ e. (let x = h.freed e in omega (arith, x)))
    (λ e. (let x = h.left e in omega (arith, x))) (λ j u. (let x = h.cleaned j u in omega (arith, x)))
  where
    new : (e : ℕ) (b : Bool) → (n == e) ≡ b → (makes e items + 0) + (raises e items + one_if b) ≤ 1
    new e true is = let a : makes e items ≡ 0 = subst (λ m. makes m items ≡ 0) (number_is n e is) this.unmade in
        let b : raises e items ≡ 0 = subst (λ m. raises m items ≡ 0) (number_is n e is) this.unraised in omega (arith, a, b)
    new e false is = let x = h.given e in omega (arith, x)
counted_behind items (Leave n) h this =
    counted_by items (Leave n) (λ e. (let x = h.given e in omega (arith, x))) (λ e. (let x = h.destroyed e in omega (arith, x))) (λ e. (let x = h.freed e in omega (arith, x)))
    (λ e. one e (n == e) refl) (λ k t. (let x = h.cleaned k t in omega (arith, x)))
  where
    one : (e : ℕ) (b : Bool) → (n == e) ≡ b → leaves e items + one_if b ≤ enters e items + 0
    one e true is = let a : leaves e items < enters e items = subst (λ m. leaves m items < enters m items) (number_is n e is) this in omega (arith, a)
    one e false is = let x = h.left e in omega (arith, x)
counted_behind items (Destroy n) h this =
    counted_by items (Destroy n) (λ e. (let x = h.given e in omega (arith, x))) (λ e. one e (n == e) refl) (λ e. (let x = h.freed e in omega (arith, x)))
    (λ e. (let x = h.left e in omega (arith, x))) (λ k t. (let x = h.cleaned k t in omega (arith, x)))
  where
    one : (e : ℕ) (b : Bool) → (n == e) ≡ b → destroys e items + one_if b ≤ makes e items + 0
    one e true is = let a : makes e items ≡ 1 = subst (λ m. makes m items ≡ 1) (number_is n e is) this.made in
        let b : destroys e items ≡ 0 = subst (λ m. destroys m items ≡ 0) (number_is n e is) this.whole in omega (arith, a, b)
    one e false is = let x = h.destroyed e in omega (arith, x)
counted_behind items (Free n) h this =
    counted_by items (Free n) (λ e. (let x = h.given e in omega (arith, x))) (λ e. (let x = h.destroyed e in omega (arith, x))) (λ e. one e (n == e) refl)
    (λ e. (let x = h.left e in omega (arith, x))) (λ k t. (let x = h.cleaned k t in omega (arith, x)))
  where
    one : (e : ℕ) (b : Bool) → (n == e) ≡ b → frees e items + one_if b ≤ makes e items + 0
    one e true is = let a : makes e items ≡ 1 = subst (λ m. makes m items ≡ 1) (number_is n e is) this.made in
        let b : frees e items ≡ 0 = subst (λ m. frees m items ≡ 0) (number_is n e is) this.there in omega (arith, a, b)
    one e false is = let x = h.freed e in omega (arith, x)
counted_behind items (Clean j u) h this =
    counted_by items (Clean j u) (λ e. (let x = h.given e in omega (arith, x))) (λ e. (let x = h.destroyed e in omega (arith, x))) (λ e. (let x = h.freed e in omega (arith, x)))
    (λ e. (let x = h.left e in omega (arith, x))) (λ k t. one k t (j == k) refl (u == t) refl)
  where
    one : (k t : ℕ) (b : Bool) → (j == k) ≡ b → (d : Bool) → (u == t) ≡ d → cleans_of k t items + one_if (b && d) ≤ foreign_of k t items + 0
    one k t true is true it =
        let a : cleans_of k t items < foreign_of k t items = subst (λ m. cleans_of m t items < foreign_of m t items) (number_is j k is)
        (subst (λ m. cleans_of j m items < foreign_of j m items) (number_is u t it) this) in omega (arith, a)
    one k t true is false it = let x = h.cleaned k t in omega (arith, x)
    one k t false is d it = let x = h.cleaned k t in omega (arith, x)

-- each of a list is allowed behind others and those before it
abbrev AllowedFrom : List Item → List Item → Type 0
AllowedFrom before items = (i : ℕ) (x : Item) → slice_get items i ≡ Some x → IsAllowed (before ++ take i items) x

counted_from : (before items : List Item) → AreCounted before → AllowedFrom before items → AreCounted (before ++ items)
counted_from before [] h all = subst AreCounted (sym (append-nil before)) h
counted_from before (x ∷ items) h all =
    subst AreCounted (append_assoc before (x ∷ []) items)
    (counted_from (before ++ x ∷ []) items (counted_behind before x h (subst (λ xs. IsAllowed xs x) (append-nil before) (all 0 x refl)))
    (λ i y is. subst (λ xs. IsAllowed xs y) (sym (append_assoc before (x ∷ []) (take i items))) (all (suc i) y is)))

pub allowed_are_counted : AllowedAreCounted
allowed_are_counted items all =
    counted_from [] items (record { given = λ e. omega arith; destroyed = λ e. omega arith; freed = λ e. omega arith; left = λ e. omega arith; cleaned = λ k t. omega arith }) all

-- an element of a front
in_front : (items more : List Item) (i : ℕ) (x : Item) → slice_get items i ≡ Some x → (slice_get (items ++ more) i ≡ Some x) × (take i (items ++ more) ≡ take i items)
in_front [] more i x is = absurd (cc is)
in_front (y ∷ items) more zero x is = (is, refl)
in_front (y ∷ items) more (suc i) x is = let (there, front) = in_front items more i x is in (there, ap (λ xs. y ∷ xs) front)

pub fronts_are_allowed : FrontsAreAllowed
fronts_are_allowed items more all i x is = let (there, front) = in_front items more i x is in subst (λ xs. IsAllowed xs x) front (all i x there)
