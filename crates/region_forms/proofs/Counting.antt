-- The caught list is a function of the handled and the travelling exceptions, through throws, handlers and rethrows.
use Rattle.std.proofs.Common.{◌≡◌, ℕ, suc, Bool, true, false, List, [], ◌∷◌, refl, sym, ap, ◌∙◌, subst, arith}
use Rattle.std.specs.Prelude.{nat_eq, if◌then◌else◌, not, ◌||◌}
use Rattle.std.proofs.lemmas.Bool.Decides.{nat_tests}
use Rattle.meaning_forms.specs.Class.{contains}
use Rattle.region_forms.specs.Caught.{Entry, counted, handled_on, flown, left_of, last_count, gives_back, caught_of, only_front}

abbrev mem : ℕ → List ℕ → Bool
mem e xs = contains xs e

same : (n : ℕ) → nat_eq n n ≡ true
same n = grind arith

-- an exception that is not handled does not matter to the signs
mem_skip : (e x : ℕ) (ts : List ℕ) → nat_eq e x ≡ false → mem x (e ∷ ts) ≡ mem x ts
mem_skip e x ts h = ap (λ b. b || mem x ts) h

mem_here : (e : ℕ) (ts : List ℕ) → mem e (e ∷ ts) ≡ true
mem_here e ts = ap (λ b. b || mem e ts) (same e)

not_mem_head : (x e : ℕ) (hs : List ℕ) → mem e (x ∷ hs) ≡ false → (nat_eq x e ≡ false) × (mem e hs ≡ false)
not_mem_head x e hs h = go (nat_eq x e) h
  where
    go : (b : Bool) → (b || mem e hs) ≡ false → (b ≡ false) × (mem e hs ≡ false)
    go true h = absurd (cc h)
    go false h = (refl, h)

flip : (x e : ℕ) → nat_eq x e ≡ false → nat_eq e x ≡ false
flip x e h = grind (arith, nat_tests)

-- throwing a new exception leaves the list
pub thrown_new : (e : ℕ) (ts hs : List ℕ) → mem e hs ≡ false → caught_of (e ∷ ts) hs ≡ caught_of ts hs
thrown_new e ts [] h = refl
thrown_new e ts (x ∷ hs) h =
    let q = not_mem_head x e hs h in
    ap (λ b. handled_on x b (caught_of (e ∷ ts) hs)) (mem_skip e x ts (flip x e q.0)) ∙ ap (handled_on x (mem x ts)) (thrown_new e ts hs q.1)

-- an entry on top takes the sign of the newest
counted_again : (c : Bool) (e : ℕ) (a b : Bool) (x : Entry) (xs : List Entry) → handled_on e b (counted c e a x xs) ≡ handled_on e b (counted c e false x xs)
counted_again true e a b x xs = ap (λ c. counted c e b (record { number = e; more = suc x.more; again = a }) xs) (same e) ∙ sym (ap (λ c. counted c e b (record { number = e; more = suc x.more; again = false }) xs) (same e))
counted_again false e a b x xs = ap (λ c. counted c e b (record { number = e; more = 0; again = a }) (x ∷ xs)) (same e) ∙ sym (ap (λ c. counted c e b (record { number = e; more = 0; again = false }) (x ∷ xs)) (same e))

entered_again : (e : ℕ) (a b : Bool) (xs : List Entry) → handled_on e b (handled_on e a xs) ≡ handled_on e b (handled_on e false xs)
entered_again e a b [] = ap (λ c. counted c e b (record { number = e; more = 0; again = a }) []) (same e) ∙ sym (ap (λ c. counted c e b (record { number = e; more = 0; again = false }) []) (same e))
entered_again e a b (x ∷ xs) = counted_again (nat_eq x.number e) e a b x xs

front_next : (x e : ℕ) (hs : List ℕ) (b : Bool) → nat_eq x e ≡ b → only_front e (x ∷ hs) ≡ true → (if b then only_front e hs else not (mem e hs)) ≡ true
front_next x e hs b q h = subst (λ c. (if c then only_front e hs else not (mem e hs)) ≡ true) q h

is_same : (x e : ℕ) → nat_eq x e ≡ true → x ≡ e
is_same x e h = grind (arith, nat_tests)

not_true : (b : Bool) → not b ≡ true → b ≡ false
not_true true h = absurd (cc h)
not_true false h = refl

-- entering an exception that travels
pub enter_travelling : (e : ℕ) (ts hs : List ℕ) → mem e ts ≡ false → only_front e hs ≡ true → handled_on e false (caught_of (e ∷ ts) hs) ≡ caught_of ts (e ∷ hs)
enter_travelling e ts [] nt fr = ap (λ b. record { number = e; more = 0; again = b } ∷ []) (sym nt)
enter_travelling e ts (x ∷ hs) nt fr = go (nat_eq x e) refl (enter_travelling e ts hs nt)
  where
    go : (b : Bool) → nat_eq x e ≡ b → (only_front e hs ≡ true → handled_on e false (caught_of (e ∷ ts) hs) ≡ caught_of ts (e ∷ hs)) → handled_on e false (caught_of (e ∷ ts) (x ∷ hs)) ≡ caught_of ts (e ∷ x ∷ hs)
    go true q ih =
        let xe = is_same x e q in
        let h = ih (front_next x e hs true q fr) in
        let e1 : handled_on e false (caught_of (e ∷ ts) (x ∷ hs)) ≡ handled_on e false (handled_on e (mem e (e ∷ ts)) (caught_of (e ∷ ts) hs)) = ap (λ y. handled_on e false (handled_on y (mem y (e ∷ ts)) (caught_of (e ∷ ts) hs))) xe in
        let e2 = entered_again e (mem e (e ∷ ts)) false (caught_of (e ∷ ts) hs) in
        let e3 : handled_on e false (handled_on e false (caught_of (e ∷ ts) hs)) ≡ handled_on e (mem e ts) (handled_on e (mem e ts) (caught_of ts hs)) = ap (handled_on e false) h ∙ ap (λ b. handled_on e b (handled_on e (mem e ts) (caught_of ts hs))) (sym nt) in
        e1 ∙ e2 ∙ e3 ∙ ap (λ y. handled_on e (mem e ts) (handled_on y (mem y ts) (caught_of ts hs))) (sym xe)
    go false q ih =
        let nm : mem e hs ≡ false = not_true (mem e hs) (front_next x e hs false q fr) in
        let e1 = thrown_new e ts (x ∷ hs) (ap (λ b. b || mem e hs) q ∙ nm) in
        ap (handled_on e false) e1 ∙ ap (λ b. handled_on e b (caught_of ts (x ∷ hs))) (sym nt)

-- throwing the newest again
flown_head : (e m : ℕ) (a : Bool) (ys : List Entry)
    → flown e (record { number = e; more = m; again = a } ∷ ys) ≡ record { number = e; more = m; again = true } ∷ ys
flown_head e m a ys =
    ap (λ c. (if c then record { number = e; more = m; again = true } else record { number = e; more = m; again = a }) ∷ ys) (same e)

retold : (e : ℕ) (a : Bool) (xs : List Entry) → flown e (handled_on e a xs) ≡ handled_on e true xs
retold e a [] = flown_head e 0 a []
retold e a (x ∷ xs) = go (nat_eq x.number e)
  where
    go : (c : Bool) → flown e (counted c e a x xs) ≡ counted c e true x xs
    go true = flown_head e (suc x.more) a xs
    go false = flown_head e 0 a (x ∷ xs)

same_front : (e : ℕ) (b : Bool) (ts hs : List ℕ) → only_front e hs ≡ true → handled_on e b (caught_of (e ∷ ts) hs) ≡ handled_on e b (caught_of ts hs)
same_front e b ts [] fr = refl
same_front e b ts (x ∷ hs) fr = go (nat_eq x e) refl (same_front e (mem e ts) ts hs) (same_front e false ts hs)
  where
    go : (c : Bool) → nat_eq x e ≡ c → (only_front e hs ≡ true → handled_on e (mem e ts) (caught_of (e ∷ ts) hs) ≡ handled_on e (mem e ts) (caught_of ts hs)) → (only_front e hs ≡ true → handled_on e false (caught_of (e ∷ ts) hs) ≡ handled_on e false (caught_of ts hs)) → handled_on e b (caught_of (e ∷ ts) (x ∷ hs)) ≡ handled_on e b (caught_of ts (x ∷ hs))
    go true q ih ih0 =
        let xe = is_same x e q in
        ap (λ y. handled_on e b (handled_on y (mem y (e ∷ ts)) (caught_of (e ∷ ts) hs))) xe ∙ entered_again e (mem e (e ∷ ts)) b (caught_of (e ∷ ts) hs) ∙ ap (handled_on e b) (ih0 (front_next x e hs true q fr)) ∙ sym (entered_again e (mem e ts) b (caught_of ts hs)) ∙ ap (λ y. handled_on e b (handled_on y (mem y ts) (caught_of ts hs))) (sym xe)
    go false q ih ih0 =
        let nm : mem e hs ≡ false = not_true (mem e hs) (front_next x e hs false q fr) in
        ap (handled_on e b) (thrown_new e ts (x ∷ hs) (ap (λ c. c || mem e hs) q ∙ nm))

pub rethrow_newest : (e : ℕ) (ts hs : List ℕ) → only_front e hs ≡ true → flown e (caught_of ts (e ∷ hs)) ≡ caught_of (e ∷ ts) (e ∷ hs)
rethrow_newest e ts hs fr = retold e (mem e ts) (caught_of ts hs) ∙ sym (same_front e true ts hs fr) ∙ ap (λ b. handled_on e b (caught_of (e ∷ ts) hs)) (sym (mem_here e ts))

-- the newest entry has the sign of its exception
abbrev Signed : List ℕ → List Entry → Type 0
Signed ts [] = Unit {0}
Signed ts (x ∷ xs) = x.again ≡ mem x.number ts

signed : (ts hs : List ℕ) → Signed ts (caught_of ts hs)
signed ts [] = tt
signed ts (e ∷ hs) = go (caught_of ts hs)
  where
    two : (c : Bool) (x : Entry) (xs : List Entry) → Signed ts (counted c e (mem e ts) x xs)
    two true x xs = refl
    two false x xs = refl

    go : (ys : List Entry) → Signed ts (handled_on e (mem e ts) ys)
    go [] = refl
    go (x ∷ xs) = two (nat_eq x.number e) x xs

left_signed : (e : ℕ) (ts : List ℕ) (ys : List Entry) → Signed ts ys → left_of (handled_on e (mem e ts) ys) ≡ ys
left_signed e ts [] s = refl
left_signed e ts (x ∷ xs) s = go (nat_eq x.number e) refl
  where
    go : (c : Bool) → nat_eq x.number e ≡ c → left_of (counted c e (mem e ts) x xs) ≡ x ∷ xs
    go true q =
        let xe = is_same x.number e q in
        let ms : mem e ts ≡ x.again = ap (λ y. mem y ts) (sym xe) ∙ sym s in
        λ i. record { number = sym xe i; more = x.more; again = ms i } ∷ xs
    go false q = refl

-- leaving the newest gives back the list without it, under each outcome
pub leave_newest : (e : ℕ) (ts hs : List ℕ) → left_of (caught_of ts (e ∷ hs)) ≡ caught_of ts hs
leave_newest e ts hs = left_signed e ts (caught_of ts hs) (signed ts hs)

-- one that travels is not given back
pub travelling_stays : (e : ℕ) (ts hs : List ℕ) → mem e ts ≡ true → gives_back (caught_of ts (e ∷ hs)) ≡ false
travelling_stays e ts hs m = go (caught_of ts hs)
  where
    two : (c : Bool) (x : Entry) (xs : List Entry) → gives_back (counted c e (mem e ts) x xs) ≡ false
    two true x xs = ap (λ b. last_count b (suc x.more)) m
    two false x xs = ap (λ b. last_count b 0) m

    go : (ys : List Entry) → gives_back (handled_on e (mem e ts) ys) ≡ false
    go [] = ap (λ b. last_count b 0) m
    go (x ∷ xs) = two (nat_eq x.number e) x xs

-- one that does not is given back where no other handler of it is left
head_object : (x e : ℕ) (ts hs : List ℕ) (c : Bool) → nat_eq x e ≡ c → gives_back (handled_on e false (handled_on x (mem x ts) (caught_of ts hs))) ≡ not c
head_object x e ts hs c q = go (caught_of ts hs)
  where
    next : (y : Entry) (ys : List Entry) → y.number ≡ x → (b : Bool) → nat_eq y.number e ≡ b → c ≡ b → gives_back (counted b e false y ys) ≡ not c
    next y ys o true n cb = ap not (sym cb)
    next y ys o false n cb = ap not (sym cb)

    two : (b : Bool) (y : Entry) (ys : List Entry) → gives_back (handled_on e false (counted b x (mem x ts) y ys)) ≡ not c
    two true y ys = next (record { number = x; more = suc y.more; again = mem x ts }) ys refl (nat_eq x e) refl (sym q)
    two false y ys = next (record { number = x; more = 0; again = mem x ts }) (y ∷ ys) refl (nat_eq x e) refl (sym q)

    go : (ys : List Entry) → gives_back (handled_on e false (handled_on x (mem x ts) ys)) ≡ not c
    go [] = next (record { number = x; more = 0; again = mem x ts }) [] refl (nat_eq x e) refl (sym q)
    go (y ∷ ys) = two (nat_eq y.number x) y ys

pub given_back_last : (e : ℕ) (ts hs : List ℕ) → mem e ts ≡ false → only_front e hs ≡ true → gives_back (caught_of ts (e ∷ hs)) ≡ not (mem e hs)
given_back_last e ts [] m fr = ap (λ b. last_count b 0) m
given_back_last e ts (x ∷ hs) m fr = ap (λ b. gives_back (handled_on e b (caught_of ts (x ∷ hs)))) m ∙ go (nat_eq x e) refl
  where
    go : (c : Bool) → nat_eq x e ≡ c → gives_back (handled_on e false (caught_of ts (x ∷ hs))) ≡ not (mem e (x ∷ hs))
    go true q = head_object x e ts hs true q ∙ sym (ap (λ b. not (b || mem e hs)) q)
    go false q = head_object x e ts hs false q ∙ sym (ap (λ b. not (b || mem e hs)) q ∙ ap not (not_true (mem e hs) (front_next x e hs false q fr)))

-- what holds of an exception that comes out of a handler of f
pub front_out : (e f : ℕ) (hs : List ℕ) → only_front e (f ∷ hs) ≡ true → only_front e hs ≡ true
front_out e f hs h = go (nat_eq f e) h
  where
    never : (l : List ℕ) → mem e l ≡ false → only_front e l ≡ true
    never [] m = refl
    never (x ∷ l) m =
        let q = not_mem_head x e l m in
        ap (λ b. if b then only_front e l else not (mem e l)) q.0 ∙ ap not q.1

    go : (b : Bool) → (if b then only_front e hs else not (mem e hs)) ≡ true → only_front e hs ≡ true
    go true h = h
    go false h = never hs (not_true (mem e hs) h)
