-- Places of a path, and keys of a map of places.
use Rattle.std.proofs.Common.{◌≡◌, ◌==◌, ℕ, Bool, true, false, List, [], ◌∷◌, ◌++◌, length, Option, Some, refl, ap, sym, subst, arith, if◌then◌else◌}
use Rattle.std.specs.Prelude.{◌||◌, nat_lt, cond}
use Rattle.std.specs.List.{AllByRecursion}
use Rattle.std.specs.Ordering.{nat_cmp, is_eq}
use Rattle.std.specs.declared.cmp.Ordering.TheVariants.{Less, Equal, Greater}
use Rattle.std.proofs.lemmas.Bool.Decides.{nat_tests}
use Rattle.lsda_read.specs.declared.known.ChainEnd.{ChainEnd}
use Rattle.lsda_read.specs.Known.{is_on, with_path}

pub at_key : (x q : ℕ) → is_eq (nat_cmp x q) ≡ (x == q)
at_key x q = by (nat_lt x q) (x == q) refl refl
  where
    by : (a b : Bool) → nat_lt x q ≡ a → (x == q) ≡ b → is_eq (cond a Less (cond b Equal Greater)) ≡ b
    by true true ea eb = absurd (grind (arith, nat_tests, ea, eb))
    by true false ea eb = refl
    by false true ea eb = refl
    by false false ea eb = refl

pub all_push : {X : Type 0} (P : X → Type 0) (xs : List X) (x : X) → AllByRecursion P xs → P x → AllByRecursion P (xs ++ x ∷ [])
all_push P [] x all one = (one, tt)
all_push P (y ∷ ys) x all one = (all.0, all_push P ys x all.1 one)

pub all_front : {X : Type 0} (P : X → Type 0) (xs : List X) (x : X) → AllByRecursion P (xs ++ x ∷ []) → AllByRecursion P xs
all_front P [] x all = tt
all_front P (y ∷ ys) x all = (all.0, all_front P ys x all.1)

pub all_last : {X : Type 0} (P : X → Type 0) (xs : List X) (x : X) → AllByRecursion P (xs ++ x ∷ []) → P x
all_last P [] x all = all.0
all_last P (y ∷ ys) x all = all_last P ys x all.1

pub all_by : {X : Type 0} (P Q : X → Type 0) (xs : List X) → ((x : X) → P x → Q x) → AllByRecursion P xs → AllByRecursion Q xs
all_by P Q [] f all = tt
all_by P Q (x ∷ xs) f all = (f x all.0, all_by P Q xs f all.1)

pub all_of : {X : Type 0} (P : X → Type 0) (xs : List X) → ((x : X) → P x) → AllByRecursion P xs
all_of P [] f = tt
all_of P (x ∷ xs) f = (f x, all_of P xs f)

-- what holds of all for each number
pub all_each : {X : Type 0} (P : ℕ → X → Type 0) (xs : List X) → ((n : ℕ) → AllByRecursion (P n) xs) → AllByRecursion (λ x. (n : ℕ) → P n x) xs
all_each P [] f = tt
all_each P (x ∷ xs) f = ((λ n. (f n).0), all_each P xs (λ n. (f n).1))

pub all_at : (P : ℕ → Type 0) (path : List ℕ) (p : ℕ) → AllByRecursion P path → is_on path p ≡ true → P p
all_at P [] p all on = absurd cc
all_at P (q ∷ path) p all on = by (q == p) refl on (all_at P path p all.1)
  where
    by : (b : Bool) → (q == p) ≡ b → (b || is_on path p) ≡ true → (is_on path p ≡ true → P p) → P p
    by true e on rest = let same : q ≡ p = grind (arith, nat_tests, e) in subst P same all.0
    by false e on rest = rest on

pub on_front : (path : List ℕ) (x p : ℕ) → is_on path p ≡ true → is_on (path ++ x ∷ []) p ≡ true
on_front [] x p on = absurd cc
on_front (q ∷ path) x p on = by (q == p) on (on_front path x p)
  where
    by : (b : Bool) → (b || is_on path p) ≡ true → (is_on path p ≡ true → is_on (path ++ x ∷ []) p ≡ true) → (b || is_on (path ++ x ∷ []) p) ≡ true
    by true on rest = refl
    by false on rest = rest on

pub on_last : (path : List ℕ) (x p : ℕ) → (x == p) ≡ true → is_on (path ++ x ∷ []) p ≡ true
on_last [] x p e = ap (λ b. b || false) e
on_last (q ∷ path) x p e = by (q == p) (on_last path x p e)
  where
    by : (b : Bool) → is_on (path ++ x ∷ []) p ≡ true → (b || is_on (path ++ x ∷ []) p) ≡ true
    by true on = refl
    by false on = on

-- the first place of a path, noted in the map
pub with_put : (q p : ℕ) (path : List ℕ) (end : ChainEnd) (known now : ℕ → Option ChainEnd) → now p ≡ (if q == p then Some end else known p) →
    with_path (q ∷ path) end known p ≡ with_path path end now p
with_put q p path end known now puts = by (q == p) (is_on path p) puts
  where
    by : (a b : Bool) → now p ≡ (if a then Some end else known p) → (if a || b then Some end else known p) ≡ (if b then Some end else now p)
    by true true e = refl
    by true false e = sym e
    by false true e = refl
    by false false e = sym e

pub nothing : {X : Type 0} (xs : List X) → length xs ≡ 0 → xs ≡ []
nothing [] e = refl
nothing (x ∷ xs) e = absurd (omega (arith, e))
