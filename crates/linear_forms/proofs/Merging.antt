-- Joined sites say of every place what the single ones say.
use Rattle.std.proofs.Common.{◌≡◌, ℕ, zero, suc, ◌+◌, ◌<◌, ◌≤◌, Bool, true, false, List, [], ◌∷◌, ◌++◌, length, Option, Some, None, refl, sym, ap, ◌∙◌, arith}
use Rattle.std.specs.Prelude.{ℤ, ◌==◌, ◌&&◌, ◌||◌, nat_le, nat_lt, if◌then◌else◌}
use Rattle.std.proofs.lemmas.Bool.Decides.{nat_tests}
use Rattle.meaning_forms.specs.Arithmetic.{int_equal}
use Rattle.linear_forms.specs.Linear.{CodeSite}
use Rattle.linear_forms.specs.Tables.{Cover, bare, unpadded, padded, cover_of, holds, look_up}
use Rattle.linear_forms.specs.Sites.{Placed, cover_in, site_at, single_sites, same_pad, same_chain, joins, joined_from, merged, sites_of}
use Rattle.linear_forms.specs.Laws.{AreForward, NoneJoin, AreInOrder, SitesAreRight}
use Rattle.linear_forms.proofs.Integers.{equal_is_same, both_hold}

same_chain_is : (a b : List ℤ) → same_chain a b ≡ true → a ≡ b
same_chain_is [] [] e = refl
same_chain_is [] (m ∷ ms) e = absurd (cc e)
same_chain_is (n ∷ ns) [] e = absurd (cc e)
same_chain_is (n ∷ ns) (m ∷ ms) e =
    let h = both_hold (int_equal n m) (same_chain ns ms) e in
    ap (λ x. x ∷ ns) (equal_is_same n m h.0) ∙ ap (λ xs. m ∷ xs) (same_chain_is ns ms h.1)

same_number : (p q : ℕ) → (p == q) ≡ true → p ≡ q
same_number p q e = grind (arith, nat_tests)

same_pad_is : (p q : Option ℕ) → same_pad p q ≡ true → p ≡ q
same_pad_is None None e = refl
same_pad_is None (Some q) e = absurd (cc e)
same_pad_is (Some p) None e = absurd (cc e)
same_pad_is (Some p) (Some q) e = ap (λ x. Some x) (same_number p q e)

-- sites that join say the same, and the second begins where the first ends
record Joined (s t : CodeSite) : Type 0 where
  touch : s.end ≡ t.start
  alike : cover_of t ≡ cover_of s

joined_is : (s t : CodeSite) → joins s t ≡ true → Joined s t
joined_is s t e =
    let h = both_hold (s.end == t.start) (same_pad s.pad t.pad && same_chain s.filters t.filters) e in
    let g = both_hold (same_pad s.pad t.pad) (same_chain s.filters t.filters) h.1 in
    record {
      touch = same_number s.end t.start h.0;
      alike = ap (λ x. elim x [ None ↦ unpadded | Some p ↦ padded p t.filters ]) (sym (same_pad_is s.pad t.pad g.0)) ∙
          ap (λ c. elim s.pad [ None ↦ unpadded | Some p ↦ padded p c ]) (sym (same_chain_is s.filters t.filters g.1));
    }

-- two extents that touch are one
one_extent : (a b c d p : ℕ) → a ≤ b → b ≡ c → c ≤ d → (nat_le a p && nat_lt p d) ≡ ((nat_le a p && nat_lt p b) || (nat_le c p && nat_lt p d))
one_extent a b c d p h e g = grind (arith, nat_tests)

either : (x y : Bool) (c l : Cover) → (if x || y then c else l) ≡ (if x then c else if y then c else l)
either true y c l = refl
either false y c l = refl

joined_look : (s t : CodeSite) (sites : List CodeSite) (p : ℕ) → s.start ≤ s.end → t.start ≤ t.end → joins s t ≡ true
    → look_up (record s { end = t.end } ∷ sites) p ≡ look_up (s ∷ t ∷ sites) p
joined_look s t sites p hs ht e =
    let j = joined_is s t e in
    ap (λ b. if b then cover_of s else look_up sites p) (one_extent s.start s.end t.start t.end p hs j.touch ht) ∙
    either (holds s p) (holds t p) (cover_of s) (look_up sites p) ∙
    ap (λ c. if holds s p then cover_of s else if holds t p then c else look_up sites p) (sym j.alike)

joined_longer : (a b c d : ℕ) → a ≤ b → b ≡ c → c ≤ d → a ≤ d
joined_longer a b c d h e g = omega (arith, h, e, g)

from_kept : (s : CodeSite) (sites : List CodeSite) (p : ℕ) → s.start ≤ s.end → AreForward sites
    → look_up (joined_from s sites) p ≡ look_up (s ∷ sites) p
from_kept s [] p h f = refl
from_kept s (t ∷ sites) p h f = go (joins s t) refl (from_kept (record s { end = t.end }) sites p) (from_kept t sites p f.0 f.1)
  where
    go : (b : Bool) → joins s t ≡ b
        → (s.start ≤ t.end → AreForward sites → look_up (joined_from (record s { end = t.end }) sites) p ≡ look_up (record s { end = t.end } ∷ sites) p)
        → look_up (joined_from t sites) p ≡ look_up (t ∷ sites) p
        → look_up (if b then joined_from (record s { end = t.end }) sites else s ∷ joined_from t sites) p ≡ look_up (s ∷ t ∷ sites) p
    go true e more rest =
        more (joined_longer s.start s.end t.start t.end h (joined_is s t e).touch f.0) f.1 ∙ joined_look s t sites p h f.0 e
    go false e more rest = ap (λ c. if holds s p then cover_of s else c) rest

merged_kept : (sites : List CodeSite) (p : ℕ) → AreForward sites → look_up (merged sites) p ≡ look_up sites p
merged_kept [] p f = refl
merged_kept (s ∷ sites) p f = from_kept s sites p f.0 f.1

-- what does not join the first of some sites does not join the first of these joined
front_apart : (s t : CodeSite) (sites : List CodeSite) → joins s t ≡ false → NoneJoin (joined_from t sites) → NoneJoin (s ∷ joined_from t sites)
front_apart s t [] e n = (e, tt)
front_apart s t (u ∷ sites) e n = go (joins t u) n (front_apart s (record t { end = u.end }) sites e)
  where
    go : (b : Bool) → NoneJoin (if b then joined_from (record t { end = u.end }) sites else t ∷ joined_from u sites)
        → (NoneJoin (joined_from (record t { end = u.end }) sites) → NoneJoin (s ∷ joined_from (record t { end = u.end }) sites))
        → NoneJoin (s ∷ (if b then joined_from (record t { end = u.end }) sites else t ∷ joined_from u sites))
    go true k more = more k
    go false k more = (e, k)

from_apart : (s : CodeSite) (sites : List CodeSite) → NoneJoin (joined_from s sites)
from_apart s [] = tt
from_apart s (t ∷ sites) = go (joins s t) refl (from_apart (record s { end = t.end }) sites) (from_apart t sites)
  where
    go : (b : Bool) → joins s t ≡ b → NoneJoin (joined_from (record s { end = t.end }) sites) → NoneJoin (joined_from t sites)
        → NoneJoin (if b then joined_from (record s { end = t.end }) sites else s ∷ joined_from t sites)
    go true e more rest = more
    go false e more rest = front_apart s t sites e rest

merged_apart : (sites : List CodeSite) → NoneJoin (merged sites)
merged_apart [] = tt
merged_apart (s ∷ sites) = from_apart s sites

-- each operation's site says what covers it

forward_site : (p : ℕ) → p ≤ p + 1
forward_site p = omega arith

forward_append : (c : Cover) (p : ℕ) (sites : List CodeSite) → AreForward sites → AreForward (site_at p c ++ sites)
forward_append bare p sites f = f
forward_append unpadded p sites f = (forward_site p, f)
forward_append (padded q chain) p sites f = (forward_site p, f)

single_forward : (code : List Placed) (p : ℕ) → AreForward (single_sites p code)
single_forward [] p = tt
single_forward (x ∷ xs) p = forward_append x.cover p (single_sites (p + 1) xs) (single_forward xs (p + 1))

not_held : (p q : ℕ) → p < q → (nat_le q p && nat_lt p (q + 1)) ≡ false
not_held p q h = grind (arith, nat_tests)

is_held : (p q : ℕ) → p ≡ q → (nat_le q p && nat_lt p (q + 1)) ≡ true
is_held p q e = grind (arith, nat_tests)

is_passed : (p q k : ℕ) → p ≡ q + 1 + k → (nat_le q p && nat_lt p (q + 1)) ≡ false
is_passed p q k e = grind (arith, nat_tests)

-- a site that does not hold a place is passed, and one that does says what covers it
passed : (c : Cover) (q p : ℕ) (sites : List CodeSite) → (nat_le q p && nat_lt p (q + 1)) ≡ false → look_up (site_at q c ++ sites) p ≡ look_up sites p
passed bare q p sites e = refl
passed unpadded q p sites e = ap (λ b. if b then unpadded else look_up sites p) e
passed (padded r chain) q p sites e = ap (λ b. if b then padded r chain else look_up sites p) e

before : (code : List Placed) (q p : ℕ) → p < q → look_up (single_sites q code) p ≡ bare
before [] q p h = refl
before (x ∷ xs) q p h = passed x.cover q p (single_sites (q + 1) xs) (not_held p q h) ∙ before xs (q + 1) p (omega (arith, h))

held : (c : Cover) (q p : ℕ) (sites : List CodeSite) → (nat_le q p && nat_lt p (q + 1)) ≡ true → look_up sites p ≡ bare → look_up (site_at q c ++ sites) p ≡ c
held bare q p sites e n = n
held unpadded q p sites e n = ap (λ b. if b then unpadded else look_up sites p) e
held (padded r chain) q p sites e n = ap (λ b. if b then padded r chain else look_up sites p) e

single_said : (code : List Placed) (q p k : ℕ) → p ≡ q + k → look_up (single_sites q code) p ≡ cover_in code k
single_said [] q p k e = refl
single_said (x ∷ xs) q p zero e =
    held x.cover q p (single_sites (q + 1) xs) (is_held p q (omega (arith, e))) (before xs (q + 1) p (omega (arith, e)))
single_said (x ∷ xs) q p (suc k) e =
    passed x.cover q p (single_sites (q + 1) xs) (is_passed p q k (omega (arith, e))) ∙ single_said xs (q + 1) p k (omega (arith, e))

sites_said : (code : List Placed) (p : ℕ) → look_up (sites_of code) p ≡ cover_in code p
sites_said code p = merged_kept (single_sites 0 code) p (single_forward code 0) ∙ single_said code 0 p p (omega arith)

-- joined sites stand in order where the single ones do

in_order_from : (s : CodeSite) (sites : List CodeSite) (from to : ℕ) → from ≤ s.start → s.start < s.end → AreInOrder s.end to sites
    → AreInOrder from to (joined_from s sites)
in_order_from s [] from to a b c = (a, b, c)
in_order_from s (t ∷ sites) from to a b c =
    go (joins s t)
    (in_order_from (record s { end = t.end }) sites from to a (omega (arith, b, c.0, c.1)) c.2)
    (in_order_from t sites s.end to c.0 c.1 c.2)
  where
    go : (k : Bool) → AreInOrder from to (joined_from (record s { end = t.end }) sites) → AreInOrder s.end to (joined_from t sites)
        → AreInOrder from to (if k then joined_from (record s { end = t.end }) sites else s ∷ joined_from t sites)
    go true more rest = more
    go false more rest = (a, b, rest)

in_order : (sites : List CodeSite) (from to : ℕ) → AreInOrder from to sites → AreInOrder from to (merged sites)
in_order [] from to h = h
in_order (s ∷ sites) from to h = in_order_from s sites from to h.0 h.1 h.2

order_later : (from p to : ℕ) (sites : List CodeSite) → from ≤ p → AreInOrder p to sites → AreInOrder from to sites
order_later from p to [] h o = omega (arith, h, o)
order_later from p to (s ∷ sites) h o = (omega (arith, h, o.0), o.1, o.2)

order_append : (c : Cover) (p to : ℕ) (sites : List CodeSite) → AreInOrder (p + 1) to sites → AreInOrder p to (site_at p c ++ sites)
order_append bare p to sites o = order_later p (p + 1) to sites (omega arith) o
order_append unpadded p to sites o = (omega arith, omega arith, o)
order_append (padded q chain) p to sites o = (omega arith, omega arith, o)

single_order : (code : List Placed) (p to : ℕ) → p + length code ≤ to → AreInOrder p to (single_sites p code)
single_order [] p to h = omega (arith, h)
single_order (x ∷ xs) p to h = order_append x.cover p to (single_sites (p + 1) xs) (single_order xs (p + 1) to (omega (arith, h)))

sites_order : (code : List Placed) → AreInOrder 0 (length code) (sites_of code)
sites_order code = in_order (single_sites 0 code) 0 (length code) (single_order code 0 (length code) (omega arith))

pub sites_are_right : SitesAreRight
sites_are_right = record { kept = merged_kept; joined = merged_apart; said = sites_said; ordered = sites_order }
