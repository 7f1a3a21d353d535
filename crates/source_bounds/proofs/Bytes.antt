-- How many bytes an exception table and a frame entry take at most.
use Rattle.std.proofs.Common.{◌≡◌, ℕ, ℤ, zero, suc, ◌+◌, ◌-◌, ◌*◌, ◌/◌, ◌%◌, ◌<◌, ◌≤◌, ◌==◌, Bool, true, false, nat_lt, List, [], ◌∷◌, ◌++◌, length, Option, Some, None, refl, arith, if◌then◌else◌, length-append}
use Rattle.std.specs.Prelude.{pos, negsuc, flat_map, reverse, replicate}
use Rattle.std.specs.List.{AllByRecursion}
use Rattle.std.specs.Int.{w32, to_le_bytes}
use Rattle.std.proofs.lemmas.Bool.Decides.{nat_tests}
use Rattle.std.proofs.lemmas.List.{length-replicate, length-reverse}
use Rattle.eh_bytes.specs.declared.table.ListSite.{ListSite}
use Rattle.eh_bytes.specs.Listed.{ListedTable}
use Rattle.eh_bytes.specs.Spelling.{uleb_spelling, uleb_spelling_within, sleb_spelling, sleb_spelling_within, fits_seven, low_seven, without_seven}
use Rattle.eh_write.specs.Distance.{distance_bytes}
use Rattle.eh_write.specs.Written.{displacement, chain_bytes, action_bytes, actions_from, action_of, site_bytes, sites_bytes, entry_bytes, entries_from, lists_bytes, body_bytes, is_aligned, offset_from, base_offset, least_offset, front_bytes, table_bytes}
use Rattle.source_bounds.proofs.Lists.{at_or}

-- numbers

uleb_within : (k n : ℕ) → length (uleb_spelling_within k n) ≤ k
unfolding uleb_spelling_within
uleb_within zero n = omega arith
uleb_within (suc k) n = go (nat_lt n 128) (uleb_within k (n / 128))
  where
    go : (b : Bool) → length (uleb_spelling_within k (n / 128)) ≤ k → length (if b then n ∷ [] else (n % 128 + 128) ∷ uleb_spelling_within k (n / 128)) ≤ suc k
    go true h = omega arith
    go false h = omega (arith, h)

pub uleb_ten : (n : ℕ) → length (uleb_spelling n) ≤ 10
unfolding uleb_spelling
uleb_ten n = uleb_within 10 n

not_below : (n m : ℕ) → nat_lt n m ≡ false → m ≤ n
not_below n m e = grind (arith, nat_tests, e)

one_byte : (k n : ℕ) → n < 128 → length (uleb_spelling_within (suc k) n) ≤ 1
unfolding uleb_spelling_within
one_byte k n h = go (nat_lt n 128) refl
  where
    go : (b : Bool) → nat_lt n 128 ≡ b → length (if b then n ∷ [] else (n % 128 + 128) ∷ uleb_spelling_within k (n / 128)) ≤ 1
    go true e = omega arith
    go false e = absurd (omega (arith, h, not_below n 128 e))

one_more_byte : (k n m : ℕ) → 1 ≤ m → length (uleb_spelling_within k (n / 128)) ≤ m → length (uleb_spelling_within (suc k) n) ≤ m + 1
unfolding uleb_spelling_within
one_more_byte k n m some h = go (nat_lt n 128)
  where
    go : (b : Bool) → length (if b then n ∷ [] else (n % 128 + 128) ∷ uleb_spelling_within k (n / 128)) ≤ m + 1
    go true = omega (arith, some)
    go false = omega (arith, h)

two_bytes : (k n : ℕ) → n < 16384 → length (uleb_spelling_within (suc (suc k)) n) ≤ 2
two_bytes k n h = omega (arith, one_more_byte (suc k) n 1 (omega arith) (one_byte k (n / 128) (omega (arith, h))))

pub uleb_two : (n : ℕ) → n < 16384 → length (uleb_spelling n) ≤ 2
unfolding uleb_spelling
uleb_two n h = two_bytes 8 n h

pub uleb_three : (n : ℕ) → n < 2097152 → length (uleb_spelling n) ≤ 3
unfolding uleb_spelling
uleb_three n h = omega (arith, one_more_byte 9 n 2 (omega arith) (two_bytes 7 (n / 128) (omega (arith, h))))

-- a filter of at most 13 bits and a sign
abbrev pub IsSmall : ℤ → Type 0
IsSmall (pos n) = n < 8192
IsSmall (negsuc n) = n < 8192

abbrev IsSeven : ℤ → Type 0
IsSeven (pos n) = n < 64
IsSeven (negsuc n) = n < 64

seven_fit : (z : ℤ) → IsSeven z → fits_seven z ≡ true
seven_fit (pos n) h = grind (arith, nat_tests, h)
seven_fit (negsuc n) h = grind (arith, nat_tests, h)

rest_seven : (z : ℤ) → IsSmall z → IsSeven (without_seven z)
rest_seven (pos n) h = omega (arith, h)
rest_seven (negsuc n) h = omega (arith, h)

sleb_one : (k : ℕ) (z : ℤ) → fits_seven z ≡ true → length (sleb_spelling_within (suc k) z) ≤ 1
unfolding sleb_spelling_within
sleb_one k z e = go (fits_seven z) e
  where
    go : (b : Bool) → b ≡ true → length (if b then low_seven z ∷ [] else (low_seven z + 128) ∷ sleb_spelling_within k (without_seven z)) ≤ 1
    go true e = omega arith
    go false e = absurd (cc e)

sleb_next : (k : ℕ) (z : ℤ) → length (sleb_spelling_within k (without_seven z)) ≤ 1 → length (sleb_spelling_within (suc k) z) ≤ 2
unfolding sleb_spelling_within
sleb_next k z h = go (fits_seven z)
  where
    go : (b : Bool) → length (if b then low_seven z ∷ [] else (low_seven z + 128) ∷ sleb_spelling_within k (without_seven z)) ≤ 2
    go true = omega arith
    go false = omega (arith, h)

sleb_two : (z : ℤ) → IsSmall z → length (sleb_spelling z) ≤ 2
unfolding sleb_spelling
sleb_two z h = sleb_next 9 z (sleb_one 8 (without_seven z) (seven_fit (without_seven z) (rest_seven z h)))

-- tables

pub chain_short : (c : List ℤ) → AllByRecursion IsSmall c → length (chain_bytes c) ≤ 3 * length c
chain_short [] h = omega arith
chain_short (f ∷ fs) h = omega (arith, length-append (sleb_spelling f) (displacement fs ∷ chain_bytes fs), sleb_two f h.0, chain_short fs h.1)

actions_below : (n : ℕ) (cs : List (List ℤ)) (m : ℕ) → n + length (action_bytes cs) ≤ m → AllByRecursion (λ a. a ≤ m + 1) (actions_from n cs)
actions_below n [] m h = tt
actions_below n (c ∷ cs) m h =
    let split = length-append (chain_bytes c) (action_bytes cs) in
    (omega (arith, h), actions_below (n + length (chain_bytes c)) cs m (omega (arith, h, split)))

-- a site in the first two million bytes of a function
pub record IsNearSite (s : ListSite) : Type 0 where
  pub start : s.start < 2097152
  pub length : s.length < 2097152
  pub pad : s.pad < 2097152

site_short : (actions : List ℕ) (s : ListSite) → IsNearSite s → action_of actions s.chain < 2097152 → length (site_bytes actions s) ≤ 12
site_short actions s h k =
    let a = uleb_spelling s.start in
    let b = uleb_spelling s.length in
    let c = uleb_spelling s.pad in
    let d = uleb_spelling (action_of actions s.chain) in
    omega (
      arith,
      length-append (a ++ b ++ c) d,
      length-append (a ++ b) c,
      length-append a b,
      uleb_three s.start h.start,
      uleb_three s.length h.length,
      uleb_three s.pad h.pad,
      uleb_three (action_of actions s.chain) k,
    )

sites_short : (actions : List ℕ) (sites : List ListSite) → AllByRecursion IsNearSite sites → AllByRecursion (λ a. a < 2097152) actions →
    length (flat_map (site_bytes actions) sites) ≤ 12 * length sites
sites_short actions [] h k = omega arith
sites_short actions (s ∷ sites) h k =
    let there = named s.chain in
    omega (arith, length-append (site_bytes actions s) (flat_map (site_bytes actions) sites), site_short actions s h.0 there, sites_short actions sites h.1 k)
  where
    named : (c : Option ℕ) → action_of actions c < 2097152
    named None = omega arith
    named (Some c) = at_or (λ a. a < 2097152) actions c 0 k (omega arith)

entry_four : (place t : ℕ) → length (entry_bytes place t) ≡ 4
entry_four place t = go (t == 0)
  where
    go : (b : Bool) → length (if b then to_le_bytes w32 0 else distance_bytes place t) ≡ 4
    go true = refl
    go false = refl

entries_four : (place : ℕ) (ts : List ℕ) → length (entries_from place ts) ≡ 4 * length ts
entries_four place [] = refl
entries_four place (t ∷ ts) = omega (arith, entries_four (place + 4) ts, entry_four place t, length-append (entry_bytes place t) (entries_from (place + 4) ts))

offset_near : (n o : ℕ) → offset_from n o ≤ o + n
offset_near zero o = omega arith
offset_near (suc n) o = go (is_aligned o) (offset_near n (o + 1))
  where
    go : (b : Bool) → offset_from n (o + 1) ≤ o + 1 + n → (if b then o else offset_from n (o + 1)) ≤ o + suc n
    go true h = omega arith
    go false h = omega (arith, h)

base_near : (least : ℕ) → base_offset least ≤ least + 8
unfolding base_offset
base_near least = offset_near 8 least

below : (xs : List ℕ) (m n : ℕ) → m < n → AllByRecursion (λ a. a ≤ m) xs → AllByRecursion (λ a. a < n) xs
below [] m n h k = tt
below (x ∷ xs) m n h k = (omega (arith, h, k.0), below xs m n h k.1)

-- a table whose sites are near and whose chains are few
pub table_short : (t : ListedTable) → AllByRecursion IsNearSite t.sites → length (action_bytes t.chains) < 2000000 →
    length (table_bytes t 0) ≤ 31 + 12 * length t.sites + length (action_bytes t.chains) + 4 * length t.types + length (lists_bytes t.lists)
unfolding table_bytes
table_short t near few =
    let actions = actions_from 0 t.chains in
    let small = below actions (length (action_bytes t.chains) + 1) 2097152 (omega (arith, few)) (actions_below 0 t.chains (length (action_bytes t.chains)) (omega arith)) in
    let sites = sites_short actions t.sites near small in
    let offset = base_offset (least_offset t) in
    let spelled = uleb_spelling offset in
    let size = uleb_spelling (length (sites_bytes t)) in
    let body = body_bytes t in
    let padding : List ℕ = replicate (offset - least_offset t) 0 in
    let front = front_bytes t in
    let entries = entries_from (0 + length front) (reverse t.types) in
    omega (
      arith,
      sites,
      uleb_ten offset,
      uleb_ten (length (sites_bytes t)),
      base_near (least_offset t),
      length-replicate {A = ℕ} (offset - least_offset t) 0,
      length-append (size ++ sites_bytes t) (action_bytes t.chains),
      length-append size (sites_bytes t),
      length-append (spelled ++ body) padding,
      length-append spelled body,
      length-append (front ++ entries) (lists_bytes t.lists),
      length-append front entries,
      entries_four (0 + length front) (reverse t.types),
      length-reverse t.types,
    )
