-- A sweep finds the first place of a region that overlaps an earlier one.
use Rattle.std.proofs.Common.{◌≡◌, inl, inr, ◌+◌, ◌≤◌, ◌<◌, ◌==◌, ℕ, Bool, true, false, nat_lt, List, [], ◌∷◌, Option, Some, None, refl, ap, sym, subst, ◌∙◌, arith, if◌then◌else◌, sum_by}
use Rattle.std.proofs.lemmas.Bool.Decides.{nat_tests}
use Rattle.std.proofs.lemmas.List.Sums.{sum_by-cons}
use Rattle.eh_bytes.specs.declared.frames.Region64.{Region64}
use Rattle.table_forms.specs.Fde.{overlap}
use Rattle.frame_read.specs.Sweep.{Sweep, unswept, lesser_place, left_out, beside, swept, sweep_from}
use Rattle.frame_read.proofs.Members.{In}

abbrev pub Placed : Type 0
Placed = ℕ × Region64

-- it is a place at or below n
pub record AtMost (o : Option ℕ) (n : ℕ) : Type 0 where
  pub place : ℕ
  pub is : o ≡ Some place
  pub below : place ≤ n

-- each begins no earlier than the one before, and the first no earlier than n
abbrev pub From : ℕ → List Placed → Type 0
From n [] = n ≡ n
From n (x ∷ xs) = (n ≤ x.1.start) × From x.1.start xs

weaken : (n m : ℕ) (xs : List Placed) → n ≤ m → From m xs → From n xs
weaken n m [] less from = refl
weaken n m (x ∷ xs) less from = (omega (arith, less, from.0), from.1)

begins_behind : (n : ℕ) (xs : List Placed) (x : Placed) → From n xs → In x xs → n ≤ x.1.start
begins_behind n [] x from here = absurd here
begins_behind n (y ∷ ys) x from (inl e) = subst (λ (z : Placed). n ≤ z.1.start) (sym e) from.0
begins_behind n (y ∷ ys) x from (inr there) = let b = begins_behind y.1.start ys x from.1 there in omega (arith, b, from.0)

-- each place stands there once at most
abbrev pub at_place : ℕ → Placed → ℕ
at_place n x = if x.0 == n then 1 else 0

abbrev pub Apart : List Placed → Type 0
Apart xs = (n : ℕ) → sum_by (at_place n) xs ≤ 1

-- ---- what is left out is not above
lesser_second : (o : Option ℕ) (n : ℕ) → AtMost (lesser_place o n) n
lesser_second None n = record { place = n; is = refl; below = omega arith }
lesser_second (Some m) n = by (nat_lt m n) refl
  where
    by : (b : Bool) → nat_lt m n ≡ b → AtMost (if b then Some m else Some n) n
    by true e = record { place = m; is = refl; below = grind (arith, nat_tests, e) }
    by false e = record { place = n; is = refl; below = omega arith }

lesser_first : (o : Option ℕ) (n k : ℕ) → AtMost o k → AtMost (lesser_place o n) k
lesser_first None n k below = let e : None ≡ Some below.place = below.is in absurd cc
lesser_first (Some m) n k below = by (nat_lt m n) refl (same m below.place below.is)
  where
    same : (a b : ℕ) → (λ (x : Option ℕ). x) (Some a) ≡ Some b → a ≡ b
    same a b e = cc

    by : (b : Bool) → nat_lt m n ≡ b → m ≡ below.place → AtMost (if b then Some m else Some n) k
    by true e same = record { place = m; is = refl; below = omega (arith, same, below.below) }
    by false e same = record { place = n; is = refl; below = grind (arith, nat_tests, e, same, below.below) }

left_below : (c x : Placed) (least : Option ℕ) (k : ℕ) → AtMost least k → AtMost (left_out c least x).least k
left_below c x least k below = by (nat_lt c.0 x.0)
  where
    by : (b : Bool) → AtMost (if◌then◌else◌ {A = Sweep} b (record { kept = Some c; least = lesser_place least x.0 }) (record { kept = Some x; least = lesser_place least c.0 })).least k
    by true = lesser_first least x.0 k below
    by false = lesser_first least c.0 k below

swept_below : (s : Sweep) (x : Placed) (k : ℕ) → AtMost s.least k → AtMost (swept s x).least k
swept_below s x k below = by (x.1.length == 0) s.kept
  where
    meets : (b : Bool) (c : Placed) → AtMost (if◌then◌else◌ {A = Sweep} b (left_out c s.least x) (record { kept = Some x; least = s.least })).least k
    meets true c = left_below c x s.least k below
    meets false c = below

    by : (b : Bool) (kept : Option Placed) → AtMost (if◌then◌else◌ {A = Sweep} b s (beside kept s.least x)).least k
    by true kept = below
    by false None = below
    by false (Some c) = meets (nat_lt x.1.start (c.1.start + c.1.length)) c

pub stays_below : (xs : List Placed) (s : Sweep) (k : ℕ) → AtMost s.least k → AtMost (sweep_from s xs) k
stays_below [] s k below = below
stays_below (x ∷ xs) s k below = stays_below xs (swept s x) k (swept_below s x k below)

-- ---- each overlap is found
-- z overlaps y, and comes later
abbrev pub Meets : Placed → Placed → Type 0
Meets y z = (y.0 < z.0) × (overlap z.1 y.1 ≡ true)

empty_first : (y z : Placed) → (y.1.length == 0) ≡ true → overlap z.1 y.1 ≡ true → ⊥
empty_first y z e o = grind (arith, nat_tests, e, o)

empty_second : (y z : Placed) → (z.1.length == 0) ≡ true → overlap z.1 y.1 ≡ true → ⊥
empty_second y z e o = grind (arith, nat_tests, e, o)

abbrev state : Placed → Option ℕ → Sweep
state c least = record { kept = Some c; least = least }

-- one step of the sweep, by what stands beside
step_empty : (s : Sweep) (x : Placed) → (x.1.length == 0) ≡ true → swept s x ≡ s
step_empty s x e = rw e refl

step_apart : (c x : Placed) (least : Option ℕ) → (x.1.length == 0) ≡ false → nat_lt x.1.start (c.1.start + c.1.length) ≡ false → swept (state c least) x ≡ state x least
step_apart c x least e f = rw (e, f) refl

step_keeps : (c x : Placed) (least : Option ℕ) → (x.1.length == 0) ≡ false → nat_lt x.1.start (c.1.start + c.1.length) ≡ true → nat_lt c.0 x.0 ≡ true →
    swept (state c least) x ≡ state c (lesser_place least x.0)
step_keeps c x least e f g = rw (e, f, g) refl

step_moves : (c x : Placed) (least : Option ℕ) → (x.1.length == 0) ≡ false → nat_lt x.1.start (c.1.start + c.1.length) ≡ true → nat_lt c.0 x.0 ≡ false →
    swept (state c least) x ≡ state x (lesser_place least c.0)
step_moves c x least e f g = rw (e, f, g) refl

at_least : (o : Option ℕ) (n k : ℕ) → n ≤ k → AtMost o n → AtMost o k
at_least o n k less m = record { place = m.place; is = m.is; below = omega (arith, less, m.below) }

-- two of three, without the second
without_second : (c x y : Placed) (xs : List Placed) (P : Type 0) → In y (c ∷ x ∷ xs) → (y ≡ x → P) → (In y (c ∷ xs) → P) → P
without_second c x y xs P (inl e) f g = g (inl e)
without_second c x y xs P (inr (inl e)) f g = f e
without_second c x y xs P (inr (inr there)) f g = g (inr there)

without_first : (c x y : Placed) (xs : List Placed) (P : Type 0) → In y (c ∷ x ∷ xs) → (y ≡ c → P) → (In y (x ∷ xs) → P) → P
without_first c x y xs P (inl e) f g = f e
without_first c x y xs P (inr there) f g = g there

-- a region that begins behind the end of another does not overlap it
behind_first : (c y z : Placed) → y ≡ c → c.1.start + c.1.length ≤ z.1.start → overlap z.1 y.1 ≡ true → ⊥
behind_first c y z e behind o =
    let o' : overlap z.1 c.1 ≡ true = subst (λ (w : Placed). overlap z.1 w.1 ≡ true) e o in grind (arith, nat_tests, behind, o')

behind_second : (c y z : Placed) → z ≡ c → c.1.start + c.1.length ≤ y.1.start → overlap z.1 y.1 ≡ true → ⊥
behind_second c y z e behind o =
    let o' : overlap c.1 y.1 ≡ true = subst (λ (w : Placed). overlap w.1 y.1 ≡ true) e o in grind (arith, nat_tests, behind, o')

abbrev pub Found : Sweep → List Placed → List Placed → Type 0
Found s xs members = (y z : Placed) → In y members → In z members → Meets y z → AtMost (sweep_from s xs) z.0

pub finds : (xs : List Placed) (c : Placed) (least : Option ℕ) → From c.1.start xs → Found (state c least) xs (c ∷ xs)
finds [] c least from y z (inl ey) (inl ez) meets =
    let a = ap (λ (w : Placed). w.0) ey in let b = ap (λ (w : Placed). w.0) ez in absurd (omega (arith, a, b, meets.0))
finds [] c least from y z (inr there) in_z meets = absurd there
finds [] c least from y z (inl ey) (inr there) meets = absurd there
finds (x ∷ xs) c least from y z in_y in_z meets =
    by_length (λ c' least' f. finds xs c' least' f) (x.1.length == 0) refl
  where
    Later : Type 0
    Later = (c' : Placed) (least' : Option ℕ) → From c'.1.start xs → Found (state c' least') xs (c' ∷ xs)

    Goal : Type 0
    Goal = AtMost (sweep_from (swept (state c least) x) xs) z.0

    on_x : (s : Sweep) → swept (state c least) x ≡ s → AtMost (sweep_from s xs) z.0 → Goal
    on_x s e m = subst (λ (t : Sweep). AtMost (sweep_from t xs) z.0) (sym e) m

    by_place : Later → (x.1.length == 0) ≡ false → nat_lt x.1.start (c.1.start + c.1.length) ≡ true → (b : Bool) → nat_lt c.0 x.0 ≡ b → Goal
    by_place ih e f true g =
        let low : AtMost (sweep_from (state c (lesser_place least x.0)) xs) x.0 = stays_below xs (state c (lesser_place least x.0)) x.0 (lesser_second least x.0) in
        on_x (state c (lesser_place least x.0)) (step_keeps c x least e f g)
        (without_second c x y xs (AtMost (sweep_from (state c (lesser_place least x.0)) xs) z.0) in_y
        (λ same. let s = ap (λ (w : Placed). w.0) same in at_least (sweep_from (state c (lesser_place least x.0)) xs) x.0 z.0 (omega (arith, s, meets.0)) low)
        (λ y'. without_second c x z xs (AtMost (sweep_from (state c (lesser_place least x.0)) xs) z.0) in_z
        (λ same. let s = ap (λ (w : Placed). w.0) same in at_least (sweep_from (state c (lesser_place least x.0)) xs) x.0 z.0 (omega (arith, s)) low)
        (λ z'. ih c (lesser_place least x.0) (weaken c.1.start x.1.start xs from.0 from.1) y z y' z' meets)))
    by_place ih e f false g =
        let low : AtMost (sweep_from (state x (lesser_place least c.0)) xs) c.0 = stays_below xs (state x (lesser_place least c.0)) c.0 (lesser_second least c.0) in
        on_x (state x (lesser_place least c.0)) (step_moves c x least e f g)
        (without_first c x y xs (AtMost (sweep_from (state x (lesser_place least c.0)) xs) z.0) in_y
        (λ same. let s = ap (λ (w : Placed). w.0) same in at_least (sweep_from (state x (lesser_place least c.0)) xs) c.0 z.0 (omega (arith, s, meets.0)) low)
        (λ y'. without_first c x z xs (AtMost (sweep_from (state x (lesser_place least c.0)) xs) z.0) in_z
        (λ same. let s = ap (λ (w : Placed). w.0) same in at_least (sweep_from (state x (lesser_place least c.0)) xs) c.0 z.0 (omega (arith, s)) low)
        (λ z'. ih x (lesser_place least c.0) from.1 y z y' z' meets)))

    by_reach : Later → (x.1.length == 0) ≡ false → (b : Bool) → nat_lt x.1.start (c.1.start + c.1.length) ≡ b → Goal
    by_reach ih e true f = by_place ih e f (nat_lt c.0 x.0) refl
    by_reach ih e false f =
        let reach : c.1.start + c.1.length ≤ x.1.start = grind (arith, nat_tests, f) in
        let behind : (w : Placed) → In w (x ∷ xs) → c.1.start + c.1.length ≤ w.1.start = λ w there. let b = begins_behind x.1.start (x ∷ xs) w (omega arith, from.1) there in omega (arith, b, reach) in
        on_x (state x least) (step_apart c x least e f)
        (without_first c x y xs (AtMost (sweep_from (state x least) xs) z.0) in_y
        (λ same. without_first c x z xs (AtMost (sweep_from (state x least) xs) z.0) in_z
        (λ same'. let a = ap (λ (w : Placed). w.0) same in let b = ap (λ (w : Placed). w.0) same' in absurd (omega (arith, a, b, meets.0)))
        (λ z'. absurd (behind_first c y z same (behind z z') meets.1)))
        (λ y'. without_first c x z xs (AtMost (sweep_from (state x least) xs) z.0) in_z
        (λ same. absurd (behind_second c y z same (behind y y') meets.1))
        (λ z'. ih x least from.1 y z y' z' meets)))

    by_length : Later → (b : Bool) → (x.1.length == 0) ≡ b → Goal
    by_length ih true e =
        on_x (state c least) (step_empty (state c least) x e)
        (without_second c x y xs (AtMost (sweep_from (state c least) xs) z.0) in_y
        (λ same. absurd (empty_first y z (ap (λ (w : Placed). w.1.length == 0) same ∙ e) meets.1))
        (λ y'. without_second c x z xs (AtMost (sweep_from (state c least) xs) z.0) in_z
        (λ same. absurd (empty_second y z (ap (λ (w : Placed). w.1.length == 0) same ∙ e) meets.1))
        (λ z'. ih c least (weaken c.1.start x.1.start xs from.0 from.1) y z y' z' meets)))
    by_length ih false e = by_reach ih e (nat_lt x.1.start (c.1.start + c.1.length)) refl

-- from the first region on
pub finds_all : (n : ℕ) (xs : List Placed) → From n xs → Found unswept xs xs
finds_all n [] from y z in_y in_z meets = absurd in_y
finds_all n (x ∷ xs) from y z in_y in_z meets = by (finds_all x.1.start xs from.1 y z) (x.1.length == 0) refl
  where
    by : (In y xs → In z xs → Meets y z → AtMost (sweep_from unswept xs) z.0) → (b : Bool) → (x.1.length == 0) ≡ b → AtMost (sweep_from (swept unswept x) xs) z.0
    by ih false e =
        let s : swept unswept x ≡ state x None = rw e refl in
        subst (λ (t : Sweep). AtMost (sweep_from t xs) z.0) (sym s) (finds xs x None from.1 y z in_y in_z meets)
    by ih true e =
        let s : swept unswept x ≡ unswept = rw e refl in
        subst (λ (t : Sweep). AtMost (sweep_from t xs) z.0) (sym s) (rest in_y in_z)
      where
        rest : In y (x ∷ xs) → In z (x ∷ xs) → AtMost (sweep_from unswept xs) z.0
        rest (inl same) z' = absurd (empty_first y z (ap (λ (w : Placed). w.1.length == 0) same ∙ e) meets.1)
        rest (inr y') (inl same) = absurd (empty_second y z (ap (λ (w : Placed). w.1.length == 0) same ∙ e) meets.1)
        rest (inr y') (inr z') = ih y' z' meets

-- ---- nothing else is found
-- what holds of each later place that overlaps an earlier one
abbrev pub Holds : (ℕ → Type 0) → List Placed → Type 0
Holds T members = (y z : Placed) → In y members → In z members → Meets y z → T z.0

abbrev pub Knows : (ℕ → Type 0) → Option ℕ → Type 0
Knows T o = (a : ℕ) → o ≡ Some a → T a

knows_lesser : (T : ℕ → Type 0) (o : Option ℕ) (n : ℕ) → Knows T o → T n → Knows T (lesser_place o n)
knows_lesser T None n known at a e = subst T (some_same n a e) at
  where
    some_same : (x y : ℕ) → (λ (w : Option ℕ). w) (Some x) ≡ Some y → x ≡ y
    some_same x y e = cc
knows_lesser T (Some m) n known at a e = by (nat_lt m n) e
  where
    some_same : (x y : ℕ) → (λ (w : Option ℕ). w) (Some x) ≡ Some y → x ≡ y
    some_same x y e = cc

    by : (b : Bool) → (if b then Some m else Some n) ≡ Some a → T a
    by true e = known a e
    by false e = subst T (some_same n a e) at

count_cons : (n : ℕ) (x : Placed) (xs : List Placed) → sum_by (at_place n) (x ∷ xs) ≡ at_place n x + sum_by (at_place n) xs
count_cons n x xs = sum_by-cons (at_place n) x xs

apart_without_second : (c x : Placed) (xs : List Placed) → Apart (c ∷ x ∷ xs) → Apart (c ∷ xs)
apart_without_second c x xs apart n =
    let a = apart n in let e = count_cons n c (x ∷ xs) in let f = count_cons n x xs in let g = count_cons n c xs in omega (arith, a, e, f, g)

apart_without_first : (c : Placed) (xs : List Placed) → Apart (c ∷ xs) → Apart xs
apart_without_first c xs apart n = let a = apart n in let e = count_cons n c xs in omega (arith, a, e)

apart_differ : (c x : Placed) (xs : List Placed) → Apart (c ∷ x ∷ xs) → c.0 ≡ x.0 → ⊥
apart_differ c x xs apart same =
    let a = apart x.0 in let e = count_cons x.0 c (x ∷ xs) in let f = count_cons x.0 x xs in
    let one : at_place x.0 x ≡ 1 = let t : (x.0 == x.0) ≡ true = grind (arith, nat_tests) in ap (λ b. if b then 1 else 0) t in
    let two : at_place x.0 c ≡ 1 = let t : (c.0 == x.0) ≡ true = grind (arith, nat_tests, same) in ap (λ b. if b then 1 else 0) t in
    omega (arith, a, e, f, one, two)

holds_without_second : (T : ℕ → Type 0) (c x : Placed) (xs : List Placed) → Holds T (c ∷ x ∷ xs) → Holds T (c ∷ xs)
holds_without_second T c x xs holds y z in_y in_z meets = holds y z (longer y in_y) (longer z in_z) meets
  where
    longer : (w : Placed) → In w (c ∷ xs) → In w (c ∷ x ∷ xs)
    longer w (inl e) = inl e
    longer w (inr there) = inr (inr there)

holds_without_first : (T : ℕ → Type 0) (c : Placed) (xs : List Placed) → Holds T (c ∷ xs) → Holds T xs
holds_without_first T c xs holds y z in_y in_z meets = holds y z (inr in_y) (inr in_z) meets

pub only : (T : ℕ → Type 0) (xs : List Placed) (c : Placed) (least : Option ℕ) → (c.1.length == 0) ≡ false → From c.1.start xs → Apart (c ∷ xs) →
    Holds T (c ∷ xs) → Knows T least → Knows T (sweep_from (state c least) xs)
only T [] c least solid from apart holds known = known
only T (x ∷ xs) c least solid from apart holds known = by_length (λ c' least' e f g h k. only T xs c' least' e f g h k) (x.1.length == 0) refl
  where
    Later : Type 0
    Later = (c' : Placed) (least' : Option ℕ) → (c'.1.length == 0) ≡ false → From c'.1.start xs → Apart (c' ∷ xs) → Holds T (c' ∷ xs) → Knows T least' → Knows T (sweep_from (state c' least') xs)

    Goal : Type 0
    Goal = Knows T (sweep_from (swept (state c least) x) xs)

    on_x : (s : Sweep) → swept (state c least) x ≡ s → Knows T (sweep_from s xs) → Goal
    on_x s e m = subst (λ (t : Sweep). Knows T (sweep_from t xs)) (sym e) m

    by_place : Later → (x.1.length == 0) ≡ false → nat_lt x.1.start (c.1.start + c.1.length) ≡ true → (b : Bool) → nat_lt c.0 x.0 ≡ b → Goal
    by_place ih e f true g =
        let later : c.0 < x.0 = grind (arith, nat_tests, g) in
        let o : overlap x.1 c.1 ≡ true = grind (arith, nat_tests, e, f, solid, from.0) in
        on_x (state c (lesser_place least x.0)) (step_keeps c x least e f g)
        (ih c (lesser_place least x.0) solid (weaken c.1.start x.1.start xs from.0 from.1) (apart_without_second c x xs apart) (holds_without_second T c x xs holds)
        (knows_lesser T least x.0 known (holds c x (inl refl) (inr (inl refl)) (later, o))))
    by_place ih e f false g =
        let differ : c.0 ≡ x.0 → ⊥ = apart_differ c x xs apart in
        let later : x.0 < c.0 = grind (arith, nat_tests, g, differ) in
        let o : overlap c.1 x.1 ≡ true = grind (arith, nat_tests, e, f, solid, from.0) in
        on_x (state x (lesser_place least c.0)) (step_moves c x least e f g)
        (ih x (lesser_place least c.0) e from.1 (apart_without_first c (x ∷ xs) apart) (holds_without_first T c (x ∷ xs) holds)
        (knows_lesser T least c.0 known (holds x c (inr (inl refl)) (inl refl) (later, o))))

    by_reach : Later → (x.1.length == 0) ≡ false → (b : Bool) → nat_lt x.1.start (c.1.start + c.1.length) ≡ b → Goal
    by_reach ih e true f = by_place ih e f (nat_lt c.0 x.0) refl
    by_reach ih e false f =
        on_x (state x least) (step_apart c x least e f)
        (ih x least e from.1 (apart_without_first c (x ∷ xs) apart) (holds_without_first T c (x ∷ xs) holds) known)

    by_length : Later → (b : Bool) → (x.1.length == 0) ≡ b → Goal
    by_length ih true e =
        on_x (state c least) (step_empty (state c least) x e)
        (ih c least solid (weaken c.1.start x.1.start xs from.0 from.1) (apart_without_second c x xs apart) (holds_without_second T c x xs holds) known)
    by_length ih false e = by_reach ih e (nat_lt x.1.start (c.1.start + c.1.length)) refl

pub only_all : (T : ℕ → Type 0) (n : ℕ) (xs : List Placed) → From n xs → Apart xs → Holds T xs → Knows T (sweep_from unswept xs)
only_all T n [] from apart holds = λ a e. absurd cc
only_all T n (x ∷ xs) from apart holds = by (only_all T x.1.start xs from.1) (x.1.length == 0) refl
  where
    nothing_known : Knows T None
    nothing_known a e = absurd cc

    by : (Apart xs → Holds T xs → Knows T (sweep_from unswept xs)) → (b : Bool) → (x.1.length == 0) ≡ b → Knows T (sweep_from (swept unswept x) xs)
    by ih false e =
        let s : swept unswept x ≡ state x None = rw e refl in
        subst (λ (t : Sweep). Knows T (sweep_from t xs)) (sym s) (only T xs x None e from.1 apart holds nothing_known)
    by ih true e =
        let s : swept unswept x ≡ unswept = rw e refl in
        subst (λ (t : Sweep). Knows T (sweep_from t xs)) (sym s) (ih (apart_without_first x xs apart) (holds_without_first T x xs holds))
