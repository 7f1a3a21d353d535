-- An item behind others: how often events are told then, and that all stay allowed.
use Rattle.std.proofs.Common.{◌≡◌, ℕ, zero, suc, ◌+◌, ◌⊎◌, inl, inr, List, [], ◌∷◌, ◌++◌, Some, refl, sym, ap, subst, arith}
use Rattle.std.specs.Prelude.{take, slice_get}
use Rattle.run_items.specs.declared.item.Item.{Item}
use Rattle.meaning_forms.specs.World.{Live, Exception, exception_in}
use Rattle.meaning_events.specs.Events.{counts, is_make, is_raise, is_destroy, is_free, makes, raises, destroys, frees, IsAllowed, AreAllowed}
use Rattle.meaning_events.specs.Fates.{Fate, fate, entries}

pub told_behind : (weight : Item → ℕ) (items : List Item) (i : Item) → counts weight (items ++ i ∷ []) ≡ counts weight items + weight i
told_behind weight [] i = omega arith
told_behind weight (x ∷ items) i = let ih = told_behind weight items i in omega (arith, ih)

pub told_same : (weight : Item → ℕ) (items : List Item) (i : Item) → weight i ≡ 0 → counts weight (items ++ i ∷ []) ≡ counts weight items
told_same weight items i none = let all = told_behind weight items i in omega (arith, all, none)

pub told_more : (weight : Item → ℕ) (items : List Item) (i : Item) (n : ℕ) → weight i ≡ 1 → counts weight items ≡ n → counts weight (items ++ i ∷ []) ≡ n + 1
told_more weight items i n one before = let all = told_behind weight items i in omega (arith, all, one, before)

-- an item in a list with one behind it
placed : (items : List Item) (x : Item) (i : ℕ) (y : Item) → slice_get (items ++ x ∷ []) i ≡ Some y
    → ((slice_get items i ≡ Some y) × (take i (items ++ x ∷ []) ≡ take i items)) ⊎ ((x ≡ y) × (take i (items ++ x ∷ []) ≡ items))
placed [] x zero y is = inr (cc is, refl)
placed [] x (suc i) y is = absurd (cc is)
placed (z ∷ items) x zero y is = inl (is, refl)
placed (z ∷ items) x (suc i) y is = go (placed items x i y is)
  where
    go : ((slice_get items i ≡ Some y) × (take i (items ++ x ∷ []) ≡ take i items)) ⊎ ((x ≡ y) × (take i (items ++ x ∷ []) ≡ items))
        → ((slice_get items i ≡ Some y) × (z ∷ take i (items ++ x ∷ []) ≡ z ∷ take i items)) ⊎ ((x ≡ y) × (z ∷ take i (items ++ x ∷ []) ≡ z ∷ items))
    go (inl (there, front)) = inl (there, ap (λ more. z ∷ more) front)
    go (inr (same, front)) = inr (same, ap (λ more. z ∷ more) front)

pub allowed_behind : (items : List Item) (x : Item) → AreAllowed items → IsAllowed items x → AreAllowed (items ++ x ∷ [])
allowed_behind items x all this i y is = go (placed items x i y is)
  where
    go : ((slice_get items i ≡ Some y) × (take i (items ++ x ∷ []) ≡ take i items)) ⊎ ((x ≡ y) × (take i (items ++ x ∷ []) ≡ items)) → IsAllowed (take i (items ++ x ∷ [])) y
    go (inl (there, front)) = subst (λ before. IsAllowed before y) (sym front) (all i y there)
    go (inr (same, front)) = subst (λ before. IsAllowed before y) (sym front) (subst (λ z. IsAllowed items z) same this)

-- a fate by its parts
pub same_fate : (n n2 : ℕ) (x x2 : Exception) (m m2 r r2 d d2 f f2 : ℕ) → n ≡ n2 → x ≡ x2 → m ≡ m2 → r ≡ r2 → d ≡ d2 → f ≡ f2
    → ◌≡◌ {A = Fate} (record { live = n; exception = x; made = m; raised = r; destroyed = d; freed = f }) (record { live = n2; exception = x2; made = m2; raised = r2; destroyed = d2; freed = f2 })
same_fate n n2 x x2 m m2 r r2 d d2 f f2 a b g h i j = cc (a, b, g, h, i, j)

-- an item that tells nothing of a fate, where what is live with its number stays
pub fate_same : (q : ℕ) (i : Item) (last last2 : ℕ) (live live2 : List Live) (items : List Item)
    → is_make q i ≡ 0 → is_raise q i ≡ 0 → is_destroy q i ≡ 0 → is_free q i ≡ 0
    → entries q live2 ≡ entries q live → exception_in live2 q ≡ exception_in live q
    → fate (record { last = last2; live = live2; items = items ++ i ∷ [] }) q ≡ fate (record { last = last; live = live; items = items }) q
fate_same q i last last2 live live2 items a b g h n x =
    same_fate (entries q live2) (entries q live) (exception_in live2 q) (exception_in live q) (makes q (items ++ i ∷ [])) (makes q items) (raises q (items ++ i ∷ [])) (raises q items)
    (destroys q (items ++ i ∷ [])) (destroys q items) (frees q (items ++ i ∷ [])) (frees q items)
    n x (told_same (is_make q) items i a) (told_same (is_raise q) items i b) (told_same (is_destroy q) items i g) (told_same (is_free q) items i h)
