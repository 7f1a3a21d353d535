-- What the records of a table ask, read one after the other.
use Rattle.std.proofs.Common.{◌≡◌, ◌≤◌, ◌<◌, ◌+◌, ◌==◌, ℕ, zero, suc, Bool, true, false, nat_lt, List, [], ◌∷◌, Ok, Err, refl, ap, sym, subst, ◌∙◌, arith, if◌then◌else◌}
use Rattle.std.specs.List.{AllByRecursion}
use Rattle.std.proofs.lemmas.Bool.Decides.{nat_tests}
use Rattle.table_forms.specs.Fault.{Fault}
use Rattle.table_forms.specs.Keys.{add_key, keys}
use Rattle.table_forms.specs.LsdaHead.{Head}
use Rattle.table_forms.specs.LsdaSites.{SiteRecord, record_at, records_from, records_within}
use Rattle.lsda_read.specs.Demands.{Asks, Covers, IsRising, asks_pad}

-- the reader stands at p; with what the rest asks, it is what all ask
pub record Asking (whole : List SiteRecord) (bytes : List ℕ) (file_at : ℕ) (h : Head) (len : ℕ) (moves : Bool) (reach : ℕ) (pads : List ℕ) (p : ℕ) : Type 0 where
  pub fuel : ℕ
  pub enough : len < p + fuel
  pub asks : (passes : ℕ → Bool) (most : ℕ) → reach ≤ most → AllByRecursion (λ pad. passes pad ≡ true) pads →
      Asks moves passes most (records_within fuel bytes file_at h p).records → Asks moves passes most whole

pub asking : (bytes : List ℕ) (file_at : ℕ) (h : Head) (len : ℕ) (moves : Bool) (pads : List ℕ) (p : ℕ) →
    Asking (records_within (1 + len) bytes file_at h p).records bytes file_at h len moves 0 pads p
asking bytes file_at h len moves pads p = record { fuel = 1 + len; enough = omega arith; asks = λ passes most far all rest. rest }

module _ (whole : List SiteRecord) (bytes : List ℕ) (file_at : ℕ) (h : Head) (len : ℕ) (moves : Bool) where
  record_more : (n p next : ℕ) (r : SiteRecord) → nat_lt p h.actions_at ≡ true → record_at bytes file_at h p ≡ Ok (r, next) →
      (records_within (suc n) bytes file_at h p).records ≡ r ∷ (records_within n bytes file_at h next).records
  unfolding records_within
  record_more n p next r inside read =
      ap (λ b. (records_from b (record_at bytes file_at h p) (records_within n bytes file_at h)).records) inside ∙
      ap (λ x. (records_from true x (records_within n bytes file_at h)).records) read

  pub asks_more : (reach reach' : ℕ) (pads pads' : List ℕ) (p next : ℕ) (r : SiteRecord) → nat_lt p h.actions_at ≡ true → record_at bytes file_at h p ≡ Ok (r, next) →
      p < next → p ≤ len → reach ≤ reach' → r.start + r.length ≤ reach' →
      ((passes : ℕ → Bool) → AllByRecursion (λ pad. passes pad ≡ true) pads' → AllByRecursion (λ pad. passes pad ≡ true) pads × (asks_pad moves passes r.pad ≡ true)) →
      Asking whole bytes file_at h len moves reach pads p → Asking whole bytes file_at h len moves reach' pads' next
  asks_more reach reach' pads pads' p next r within read on inside further end noted w = by_fuel w.fuel w.enough w.asks
    where
      by_fuel : (n : ℕ) → len < p + n → ((passes : ℕ → Bool) (most : ℕ) → reach ≤ most → AllByRecursion (λ pad. passes pad ≡ true) pads →
          Asks moves passes most (records_within n bytes file_at h p).records → Asks moves passes most whole) → Asking whole bytes file_at h len moves reach' pads' next
      by_fuel zero enough asks = absurd (omega (arith, enough, inside))
      by_fuel (suc n) enough asks = record {
        fuel = n;
        enough = omega (arith, enough, on);
        asks = λ passes most far all rest.
            let P : List SiteRecord → Type 0 = λ rs. Asks moves passes most rs in
            let both = noted passes all in
            asks passes most (omega (arith, further, far)) both.0
            (subst P (sym (record_more n p next r within read)) ((omega (arith, end, far), both.1), rest));
      }

  -- nothing is left
  pub asks_all : (reach : ℕ) (pads : List ℕ) (p : ℕ) → p ≤ len → ((n : ℕ) → (records_within (suc n) bytes file_at h p).records ≡ []) →
      Asking whole bytes file_at h len moves reach pads p → Covers moves reach pads whole
  asks_all reach pads p inside none w = by_fuel w.fuel w.enough w.asks
    where
      by_fuel : (n : ℕ) → len < p + n → ((passes : ℕ → Bool) (most : ℕ) → reach ≤ most → AllByRecursion (λ pad. passes pad ≡ true) pads →
          Asks moves passes most (records_within n bytes file_at h p).records → Asks moves passes most whole) → Covers moves reach pads whole
      by_fuel zero enough asks = absurd (omega (arith, enough, inside))
      by_fuel (suc n) enough asks = λ passes most far all.
          let P : List SiteRecord → Type 0 = λ rs. Asks moves passes most rs in asks passes most far all (subst P (sym (none n)) tt)

pub none_behind : (bytes : List ℕ) (file_at : ℕ) (h : Head) (n p : ℕ) → nat_lt p h.actions_at ≡ false → (records_within (suc n) bytes file_at h p).records ≡ []
unfolding records_within
none_behind bytes file_at h n p outside = ap (λ b. (records_from b (record_at bytes file_at h p) (records_within n bytes file_at h)).records) outside

pub none_read : (bytes : List ℕ) (file_at : ℕ) (h : Head) (n p : ℕ) (f : Fault) → nat_lt p h.actions_at ≡ true → record_at bytes file_at h p ≡ Err f →
    (records_within (suc n) bytes file_at h p).records ≡ []
unfolding records_within
none_read bytes file_at h n p f inside read =
    ap (λ b. (records_from b (record_at bytes file_at h p) (records_within n bytes file_at h)).records) inside ∙
    ap (λ x. (records_from true x (records_within n bytes file_at h)).records) read

-- ---- pads in rising order
key_added : (P : ℕ → Type 0) (k : ℕ) (ns : List ℕ) → AllByRecursion P (add_key k ns) → P k × AllByRecursion P ns
key_added P k [] all = (all.0, tt)
key_added P k (n ∷ ns) all = by (nat_lt k n) (k == n) refl all (key_added P k ns)
  where
    by : (a b : Bool) → (k == n) ≡ b → AllByRecursion P (if a then k ∷ n ∷ ns else if b then n ∷ ns else n ∷ add_key k ns) → (AllByRecursion P (add_key k ns) → P k × AllByRecursion P ns) → P k × AllByRecursion P (n ∷ ns)
    by true b e all rest = (all.0, all.1)
    by false true e all rest = let same : n ≡ k = grind (arith, nat_tests, e) in (subst P same all.0, all)
    by false false e all rest = let more = rest all.1 in (more.0, (all.0, more.1))

-- what holds of the keys holds of the numbers
pub all_from_keys : (P : ℕ → Type 0) (ns : List ℕ) → AllByRecursion P (keys ns) → AllByRecursion P ns
all_from_keys P [] all = tt
all_from_keys P (n ∷ ns) all = let both = key_added P n (keys ns) all in (both.0, all_from_keys P ns both.1)

at_least : (m k : ℕ) (ns : List ℕ) → m ≤ k → AllByRecursion (λ y. m ≤ y) ns → AllByRecursion (λ y. m ≤ y) (add_key k ns)
at_least m k [] low all = (low, tt)
at_least m k (n ∷ ns) low all = by (nat_lt k n) (k == n) (at_least m k ns low all.1)
  where
    by : (a b : Bool) → AllByRecursion (λ y. m ≤ y) (add_key k ns) → AllByRecursion (λ y. m ≤ y) (if a then k ∷ n ∷ ns else if b then n ∷ ns else n ∷ add_key k ns)
    by true b more = (low, all)
    by false true more = all
    by false false more = (all.0, more)

lower : (m k : ℕ) (ns : List ℕ) → m ≤ k → AllByRecursion (λ y. k ≤ y) ns → AllByRecursion (λ y. m ≤ y) ns
lower m k [] low all = tt
lower m k (n ∷ ns) low all = let first : k ≤ n = all.0 in (omega (arith, low, first), lower m k ns low all.1)

add_rises : (k : ℕ) (ns : List ℕ) → IsRising ns → IsRising (add_key k ns)
add_rises k [] rising = (tt, tt)
add_rises k (n ∷ ns) rising = by (nat_lt k n) (k == n) refl refl (add_rises k ns rising.1)
  where
    by : (a b : Bool) → nat_lt k n ≡ a → (k == n) ≡ b → IsRising (add_key k ns) → IsRising (if a then k ∷ n ∷ ns else if b then n ∷ ns else n ∷ add_key k ns)
    by true b ea eb more = let low : k ≤ n = grind (arith, nat_tests, ea) in ((low, lower k n ns low rising.0), rising)
    by false true ea eb more = rising
    by false false ea eb more = let low : n ≤ k = grind (arith, nat_tests, ea) in (at_least n k ns low rising.0, more)

pub keys_rise : (ns : List ℕ) → IsRising (keys ns)
keys_rise [] = tt
keys_rise (n ∷ ns) = add_rises n (keys ns) (keys_rise ns)
