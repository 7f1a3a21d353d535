-- Which handler an exception has, as handlers begin and are left.
use Rattle.std.proofs.Common.{◌≡◌, ℕ, zero, suc, ◌+◌, ◌≤◌, Bool, true, false, ◌==◌, List, [], ◌∷◌, Option, Some, None, refl, sym, ap, ◌∙◌, if◌then◌else◌, arith}
use Rattle.std.specs.Prelude.{nat_le}
use Rattle.std.proofs.lemmas.Bool.Decides.{nat_tests}
use Rattle.region_forms.specs.Caught.{Entry, counted, entered_on, flown, left_count, left_of}
use Rattle.linear_invariant.specs.Handled.{Unhandled, open_handlers}
use Rattle.kept_handlers.specs.Handlers.{handled_at}

-- what an entry has behind so many older handlers
abbrev in_entry : (k behind more number : ℕ) → Option ℕ
in_entry k behind more number = if nat_le k (behind + more) then Some number else None

-- no handler is open in front of itself
handled_below : (k n : ℕ) (xs : List Entry) → handled_at k xs ≡ Some n → k + 1 ≤ open_handlers xs
handled_below k n [] h = absurd (cc h)
handled_below k n (x ∷ xs) h = go (nat_le (open_handlers xs) k) refl (handled_below k n xs) h
  where
    inner : (b : Bool) → nat_le k (open_handlers xs + x.more) ≡ b → (if b then Some x.number else None) ≡ Some n → k + 1 ≤ x.more + 1 + open_handlers xs
    inner true i h = grind (arith, nat_tests, i)
    inner false i h = absurd (cc h)

    go : (b : Bool) → nat_le (open_handlers xs) k ≡ b → (handled_at k xs ≡ Some n → k + 1 ≤ open_handlers xs) → (if b then in_entry k (open_handlers xs) x.more x.number else handled_at k xs) ≡ Some n →
        k + 1 ≤ x.more + 1 + open_handlers xs
    go true i rest h = inner (nat_le k (open_handlers xs + x.more)) refl h
    go false i rest h = let less = rest h in omega (arith, less)

-- a handler that begins leaves older ones where they are
pub entered_same : (e k n : ℕ) (xs : List Entry) → handled_at k xs ≡ Some n → handled_at k (entered_on e xs) ≡ Some n
entered_same e k n [] h = absurd (cc h)
entered_same e k n (x ∷ xs) h = go (x.number == e) refl
  where
    less : k + 1 ≤ x.more + 1 + open_handlers xs
    less = handled_below k n (x ∷ xs) h

    -- one handler more of the same exception
    same : x.number ≡ e → (b : Bool) → nat_le (open_handlers xs) k ≡ b → (if b then in_entry k (open_handlers xs) x.more x.number else handled_at k xs) ≡ Some n →
        (if b then in_entry k (open_handlers xs) (suc x.more) e else handled_at k xs) ≡ Some n
    same is false i h = h
    same is true i h =
        let was : nat_le k (open_handlers xs + x.more) ≡ true = grind (arith, nat_tests, less) in
        let now : nat_le k (open_handlers xs + suc x.more) ≡ true = grind (arith, nat_tests, less) in
        ap (λ b. if b then Some e else None) now ∙ ap (λ m. Some m) (sym is) ∙ sym (ap (λ b. if b then Some x.number else None) was) ∙ h

    go : (b : Bool) → (x.number == e) ≡ b → handled_at k (counted b e false x xs) ≡ Some n
    go true i = let is : x.number ≡ e = grind (arith, nat_tests, i) in same is (nat_le (open_handlers xs) k) refl h
    go false i =
        let older : nat_le (open_handlers (x ∷ xs)) k ≡ false = grind (arith, nat_tests, less) in
        ap (λ b. if b then in_entry k (open_handlers (x ∷ xs)) 0 e else handled_at k (x ∷ xs)) older ∙ h

-- what begins is handled there
pub entered_here : (e : ℕ) (xs : List Entry) → handled_at (open_handlers xs) (entered_on e xs) ≡ Some e
entered_here e [] = refl
entered_here e (x ∷ xs) = go (x.number == e)
  where
    k : ℕ
    k = open_handlers (x ∷ xs)

    go : (b : Bool) → handled_at k (counted b e false x xs) ≡ Some e
    go true =
        let above : nat_le (open_handlers xs) (x.more + 1 + open_handlers xs) ≡ true = grind (arith, nat_tests) in
        let within : nat_le (x.more + 1 + open_handlers xs) (open_handlers xs + suc x.more) ≡ true = grind (arith, nat_tests) in
        ap (λ b. if b then in_entry k (open_handlers xs) (suc x.more) e else handled_at k xs) above ∙ ap (λ b. if b then Some e else None) within
    go false =
        let above : nat_le k k ≡ true = grind (arith, nat_tests) in
        let within : nat_le k (k + 0) ≡ true = grind (arith, nat_tests) in
        ap (λ b. if b then in_entry k k 0 e else handled_at k (x ∷ xs)) above ∙ ap (λ b. if b then Some e else None) within

-- an exception that travels again is handled where it was
pub flown_same : (e k : ℕ) (xs : List Entry) → handled_at k (flown e xs) ≡ handled_at k xs
flown_same e k [] = refl
flown_same e k (x ∷ xs) = go (x.number == e)
  where
    go : (b : Bool) → handled_at k ((if b then record x { again = true } else x) ∷ xs) ≡ handled_at k (x ∷ xs)
    go true = refl
    go false = refl

-- the newest handler is left, and older ones stay where they are
pub left_same : (k : ℕ) (xs : List Entry) → k + 2 ≤ open_handlers xs → handled_at k (left_of xs) ≡ handled_at k xs
left_same k [] h = refl
left_same k (x ∷ xs) h = go x.more refl
  where
    go : (m : ℕ) → x.more ≡ m → handled_at k (left_count x.again m x.number xs) ≡ handled_at k (x ∷ xs)
    go zero i =
        let older : nat_le (open_handlers xs) k ≡ false = grind (arith, nat_tests, h, i) in
        sym (ap (λ b. if b then in_entry k (open_handlers xs) x.more x.number else handled_at k xs) older)
    go (suc m) i = by (nat_le (open_handlers xs) k) refl
      where
        by : (b : Bool) → nat_le (open_handlers xs) k ≡ b →
            (if b then in_entry k (open_handlers xs) m x.number else handled_at k xs) ≡ (if b then in_entry k (open_handlers xs) x.more x.number else handled_at k xs)
        by true j =
            let now : nat_le k (open_handlers xs + m) ≡ true = grind (arith, nat_tests, h, i) in
            let was : nat_le k (open_handlers xs + x.more) ≡ true = grind (arith, nat_tests, h) in
            ap (λ b. if b then Some x.number else None) now ∙ sym (ap (λ b. if b then Some x.number else None) was)
        by false j = refl

pub left_fewer : (xs : List Entry) → 1 ≤ open_handlers xs → open_handlers (left_of xs) + 1 ≡ open_handlers xs
left_fewer [] h = absurd (omega (arith, h))
left_fewer (x ∷ xs) h = go x.more refl
  where
    go : (m : ℕ) → x.more ≡ m → open_handlers (left_count x.again m x.number xs) + 1 ≡ x.more + 1 + open_handlers xs
    go zero i = omega (arith, i)
    go (suc m) i = omega (arith, i)

-- what no handler has is another
pub unhandled_other : (e k n : ℕ) (xs : List Entry) → Unhandled e xs → handled_at k xs ≡ Some n → (n == e) ≡ false
unhandled_other e k n [] none h = absurd (cc h)
unhandled_other e k n (x ∷ xs) none h = go (nat_le (open_handlers xs) k) (unhandled_other e k n xs none.1) h
  where
    inner : (b : Bool) → (if b then Some x.number else None) ≡ Some n → (n == e) ≡ false
    inner true i = let same : x.number ≡ n = cc i in ap (λ m. m == e) (sym same) ∙ none.0
    inner false i = absurd (cc i)

    go : (b : Bool) → (handled_at k xs ≡ Some n → (n == e) ≡ false) → (if b then in_entry k (open_handlers xs) x.more x.number else handled_at k xs) ≡ Some n → (n == e) ≡ false
    go true rest i = inner (nat_le k (open_handlers xs + x.more)) i
    go false rest i = rest i
