-- Lists of which each item stands once grow behind, so what is said of an item that is there stays as it was: its index, and the byte at
-- which a list begins. They may be made piece by piece, from pieces in which each item stands once already.
use Rattle.std.proofs.Common.{◌≡◌, ℕ, zero, suc, ◌+◌, Bool, true, false, List, [], ◌∷◌, ◌++◌, refl, sym, ap, ◌∙◌, arith}
use Rattle.std.specs.Prelude.{◌==◌, ◌||◌, if◌then◌else◌}
use Rattle.std.proofs.lemmas.Bool.Decides.{nat_tests}
use Rattle.meaning_forms.specs.Class.{some_of}
use Rattle.linear_forms.specs.Tables.{list_bytes}
use Rattle.linear_forms.specs.Distinct.{among, added, added_all, same_number, same_list, distinct}
use Rattle.linear_forms.specs.Exits.{beyond}
use Rattle.linear_forms.specs.Filters.{index_of, byte_of_list}
use Rattle.linear_forms.proofs.Once.{still_among, all_among, number_itself, list_itself}

-- what is added after two pieces is added after their concatenation
pub added_append : {A : Type 0} (same : A → A → Bool) (acc a b : List A) → added_all same acc (a ++ b) ≡ added_all same (added_all same acc a) b
added_append same acc [] b = refl
added_append same acc (x ∷ a) b = added_append same (added same acc x) a b

same_is : (n m : ℕ) → (n == m) ≡ true → n ≡ m
same_is n m e = grind (arith, nat_tests)

-- a number that is among others is among those that these are added to
now_in : (zs acc : List ℕ) (y : ℕ) → among same_number zs y ≡ true → among same_number (added_all same_number acc zs) y ≡ true
now_in [] acc y h = absurd (cc h)
now_in (z ∷ zs) acc y h = go (y == z) refl h (all_among same_number number_itself (z ∷ zs) acc).0 (now_in zs (added same_number acc z) y)
  where
    go : (b : Bool) → (y == z) ≡ b → (b || some_of (same_number y) zs) ≡ true → among same_number (added_all same_number acc (z ∷ zs)) z ≡ true
        → (among same_number zs y ≡ true → among same_number (added_all same_number (added same_number acc z) zs) y ≡ true)
        → among same_number (added_all same_number acc (z ∷ zs)) y ≡ true
    go true e k this rest = ap (among same_number (added_all same_number acc (z ∷ zs))) (same_is y z e) ∙ this
    go false e k this rest = rest k

added_same : (xs : List ℕ) (y : ℕ) → among same_number xs y ≡ true → added same_number xs y ≡ xs
added_same xs y h = ap (λ b. if b then xs else xs ++ y ∷ []) h

added_last : (acc zs : List ℕ) (y : ℕ) → added_all same_number acc (added same_number zs y) ≡ added same_number (added_all same_number acc zs) y
added_last acc zs y = go (among same_number zs y) refl
  where
    go : (b : Bool) → among same_number zs y ≡ b
        → added_all same_number acc (if b then zs else zs ++ y ∷ []) ≡ added same_number (added_all same_number acc zs) y
    go true e = sym (added_same (added_all same_number acc zs) y (now_in zs acc y e))
    go false e = added_append same_number acc zs (y ∷ [])

added_twice : (ys acc zs : List ℕ) → added_all same_number acc (added_all same_number zs ys) ≡ added_all same_number (added_all same_number acc zs) ys
added_twice [] acc zs = refl
added_twice (y ∷ ys) acc zs =
    added_twice ys acc (added same_number zs y) ∙ ap (λ l. added_all same_number l ys) (added_last acc zs y)

-- numbers of which each stands once add what all of them add
pub added_distinct : (acc ys : List ℕ) → added_all same_number acc (distinct ys) ≡ added_all same_number acc ys
added_distinct acc ys = added_twice ys acc []

-- ways out as the region outside counts them

beyond_append : (a b : List ℕ) → beyond (a ++ b) ≡ beyond a ++ beyond b
beyond_append [] b = refl
beyond_append (zero ∷ a) b = beyond_append a b
beyond_append (suc n ∷ a) b = ap (λ l. n ∷ l) (beyond_append a b)

append_nothing : (a : List ℕ) → a ++ [] ≡ a
append_nothing [] = refl
append_nothing (n ∷ a) = ap (λ l. n ∷ l) (append_nothing a)

same_later : (n m : ℕ) → (suc n == suc m) ≡ (n == m)
same_later n m = grind (arith, nat_tests)

not_zero : (n : ℕ) → (suc n == zero) ≡ false
not_zero n = grind (arith, nat_tests)

among_beyond : (acc : List ℕ) (n : ℕ) → among same_number acc (suc n) ≡ among same_number (beyond acc) n
among_beyond [] n = refl
among_beyond (zero ∷ acc) n = ap (λ b. b || among same_number acc (suc n)) (not_zero n) ∙ among_beyond acc n
among_beyond (suc m ∷ acc) n = ap (λ b. b || among same_number acc (suc n)) (same_later n m) ∙ ap (λ b. (n == m) || b) (among_beyond acc n)

beyond_none : (acc : List ℕ) → beyond (added same_number acc zero) ≡ beyond acc
beyond_none acc = go (among same_number acc zero)
  where
    go : (b : Bool) → beyond (if b then acc else acc ++ zero ∷ []) ≡ beyond acc
    go true = refl
    go false = beyond_append acc (zero ∷ []) ∙ append_nothing (beyond acc)

beyond_one : (acc : List ℕ) (n : ℕ) → beyond (added same_number acc (suc n)) ≡ added same_number (beyond acc) n
beyond_one acc n =
    go (among same_number acc (suc n)) ∙ ap (λ b. if b then beyond acc else beyond acc ++ n ∷ []) (among_beyond acc n)
  where
    go : (b : Bool) → beyond (if b then acc else acc ++ suc n ∷ []) ≡ (if b then beyond acc else beyond acc ++ n ∷ [])
    go true = refl
    go false = beyond_append acc (suc n ∷ [])

beyond_added : (ns acc : List ℕ) → beyond (added_all same_number acc ns) ≡ added_all same_number (beyond acc) (beyond ns)
beyond_added [] acc = refl
beyond_added (zero ∷ ns) acc = beyond_added ns (added same_number acc zero) ∙ ap (λ l. added_all same_number l (beyond ns)) (beyond_none acc)
beyond_added (suc n ∷ ns) acc = beyond_added ns (added same_number acc (suc n)) ∙ ap (λ l. added_all same_number l (beyond ns)) (beyond_one acc n)

-- of ways out of which each stands once, the region outside counts each once
pub beyond_distinct : (ns : List ℕ) → beyond (distinct ns) ≡ distinct (beyond ns)
beyond_distinct ns = beyond_added ns []

-- indices and bytes stay

index_longer : (n : ℕ) (a b : List ℕ) → among same_number a n ≡ true → index_of n (a ++ b) ≡ index_of n a
index_longer n [] b h = absurd (cc h)
index_longer n (m ∷ a) b h = go (n == m) h (index_longer n a b)
  where
    go : (c : Bool) → (c || some_of (same_number n) a) ≡ true → (among same_number a n ≡ true → index_of n (a ++ b) ≡ index_of n a)
        → (if c then 1 else index_of n (a ++ b) + 1) ≡ (if c then 1 else index_of n a + 1)
    go true k rest = refl
    go false k rest = ap (λ i. i + 1) (rest k)

index_added : (n m : ℕ) (types : List ℕ) → among same_number types n ≡ true → index_of n (added same_number types m) ≡ index_of n types
index_added n m types h = go (among same_number types m)
  where
    go : (b : Bool) → index_of n (if b then types else types ++ m ∷ []) ≡ index_of n types
    go true = refl
    go false = index_longer n types (m ∷ []) h

-- the index of a number that is there
pub index_stays : (ms types : List ℕ) (n : ℕ) → among same_number types n ≡ true → index_of n (added_all same_number types ms) ≡ index_of n types
index_stays [] types n h = refl
index_stays (m ∷ ms) types n h =
    index_stays ms (added same_number types m) n (still_among same_number number_itself types m n h) ∙ index_added n m types h

byte_longer : (l : List ℕ) (a b : List (List ℕ)) → among same_list a l ≡ true → byte_of_list l (a ++ b) ≡ byte_of_list l a
byte_longer l [] b h = absurd (cc h)
byte_longer l (m ∷ a) b h = go (same_list l m) h (byte_longer l a b)
  where
    go : (c : Bool) → (c || some_of (same_list l) a) ≡ true → (among same_list a l ≡ true → byte_of_list l (a ++ b) ≡ byte_of_list l a)
        → (if c then 0 else list_bytes m + byte_of_list l (a ++ b)) ≡ (if c then 0 else list_bytes m + byte_of_list l a)
    go true k rest = refl
    go false k rest = ap (λ i. list_bytes m + i) (rest k)

byte_added : (l m : List ℕ) (lists : List (List ℕ)) → among same_list lists l ≡ true → byte_of_list l (added same_list lists m) ≡ byte_of_list l lists
byte_added l m lists h = go (among same_list lists m)
  where
    go : (b : Bool) → byte_of_list l (if b then lists else lists ++ m ∷ []) ≡ byte_of_list l lists
    go true = refl
    go false = byte_longer l lists (m ∷ []) h

-- the byte of a list that is there
pub byte_stays : (ms lists : List (List ℕ)) (l : List ℕ) → among same_list lists l ≡ true → byte_of_list l (added_all same_list lists ms) ≡ byte_of_list l lists
byte_stays [] lists l h = refl
byte_stays (m ∷ ms) lists l h =
    byte_stays ms (added same_list lists m) l (still_among same_list list_itself lists m l h) ∙ byte_added l m lists h
