-- How many bytes the parts of a table take.
use Rattle.std.proofs.Common.{◌≡◌, ◌+◌, ◌==◌, ◌-◌, ◌*◌, ◌/◌, ◌%◌, ◌<◌, ◌≤◌, ℕ, ℤ, zero, suc, Bool, true, false, nat_lt, List, [], ◌∷◌, ◌++◌, length, drop, refl, ap, arith, if◌then◌else◌, length-append}
use Rattle.std.specs.Prelude.{flat_map, reverse}
use Rattle.std.proofs.lemmas.Bool.{cond_both}
use Rattle.std.proofs.lemmas.List.{length-drop, length-replicate, length-reverse}
use Rattle.eh_bytes.specs.declared.table.ListSite.{ListSite}
use Rattle.eh_bytes.specs.Spelling.{uleb_spelling, uleb_spelling_within, sleb_spelling, sleb_spelling_within, fits_seven, low_seven, without_seven}
use Rattle.eh_bytes.specs.Listed.{ListedTable}
use Rattle.eh_write.specs.Written.{displacement, chain_bytes, action_of, site_bytes, sites_bytes, action_bytes, entry_bytes, entries_from, lists_bytes, body_bytes, front_bytes, table_bytes, is_aligned, offset_from, base_offset, least_offset}
use Rattle.std.specs.Int.{w32, to_le_bytes}
use Rattle.eh_write.specs.Distance.{distance_bytes}
use Rattle.eh_write.proofs.Reading.{Stands}
use Rattle.eh_write.proofs.Shape.{offset_of, offset_bytes, size_bytes, padding, entries_place, base_place}

pub some_uleb : (n : ℕ) → 0 < length (uleb_spelling n)
unfolding uleb_spelling uleb_spelling_within
some_uleb n = some (nat_lt n 128)
  where
    some : (b : Bool) → 0 < length (if b then n ∷ [] else (n % 128 + 128) ∷ uleb_spelling_within 9 (n / 128))
    some true = omega arith
    some false = omega arith

pub some_sleb : (z : ℤ) → 0 < length (sleb_spelling z)
unfolding sleb_spelling sleb_spelling_within
some_sleb z = some (fits_seven z)
  where
    some : (b : Bool) → 0 < length (if b then low_seven z ∷ [] else (low_seven z + 128) ∷ sleb_spelling_within 9 (without_seven z))
    some true = omega arith
    some false = omega arith

pub some_site : (actions : List ℕ) (s : ListSite) → 0 < length (site_bytes actions s)
some_site actions s =
    let a = uleb_spelling s.start in let b = uleb_spelling s.length in let c = uleb_spelling s.pad in let d = uleb_spelling (action_of actions s.chain) in
    omega (arith, some_uleb s.start, length-append (a ++ b ++ c) d, length-append (a ++ b) c, length-append a b)

-- where each item takes some byte, there are no more items than bytes
pub no_more_items : {X : Type 0} (f : X → List ℕ) → ((x : X) → 0 < length (f x)) → (xs : List X) → length xs ≤ length (flat_map f xs)
no_more_items f some [] = omega arith
no_more_items f some (x ∷ xs) = omega (arith, some x, no_more_items f some xs, length-append (f x) (flat_map f xs))

pub no_more_filters : (fs : List ℤ) → length fs ≤ length (chain_bytes fs)
no_more_filters [] = omega arith
no_more_filters (f ∷ fs) = omega (arith, no_more_filters fs, length-append (sleb_spelling f) (displacement fs ∷ chain_bytes fs))

-- what stands in a list is no longer than it
pub inside : (bytes : List ℕ) (p : ℕ) (x rest : List ℕ) → Stands bytes p x rest → length x ≤ length bytes
inside bytes p x rest here =
    let long : length (drop p bytes) ≡ length (x ++ rest) = ap length here in
    omega (arith, long, length-drop p bytes, length-append x rest)

pub four_bytes : (place t : ℕ) → length (entry_bytes place t) ≡ 4
four_bytes place t = both (t == 0)
  where
    both : (b : Bool) → length (if b then to_le_bytes w32 0 else distance_bytes place t) ≡ 4
    both true = refl
    both false = refl

pub entries_length : (place : ℕ) (ts : List ℕ) → length (entries_from place ts) ≡ 4 * length ts
entries_length place [] = refl
entries_length place (t ∷ ts) = omega (arith, entries_length (place + 4) ts, four_bytes place t, length-append (entry_bytes place t) (entries_from (place + 4) ts))

from_least : (n o : ℕ) → o ≤ offset_from n o
from_least zero o = omega arith
from_least (suc n) o = cond_both (is_aligned o) o (offset_from n (o + 1)) (λ x. o ≤ x) (λ _. omega arith) (λ _. omega (arith, from_least n (o + 1)))

pub offset_least : (list : ListedTable) → least_offset list ≤ offset_of list
unfolding base_offset
offset_least list = from_least 8 (least_offset list)

body_length : (list : ListedTable) → length (body_bytes list) ≡ 1 + length (size_bytes list) + length (sites_bytes list) + length (action_bytes list.chains)
body_length list =
    let z = size_bytes list in let s = sites_bytes list in let a = action_bytes list.chains in
    omega (arith, length-append (z ++ s) a, length-append z s)

padding_length : (list : ListedTable) → length (padding list) ≡ offset_of list - least_offset list
padding_length list = length-replicate (offset_of list - least_offset list) 0

-- the entries end at the base
pub base_is : (list : ListedTable) (p : ℕ) → base_place list p ≡ entries_place list p + 4 * length list.types
base_is list p = omega (arith, offset_least list, body_length list, padding_length list)

pub front_is : (list : ListedTable) (p : ℕ) → entries_place list p ≡ p + length (front_bytes list)
front_is list p =
    let o = offset_bytes list in let b = body_bytes list in let z = padding list in
    omega (arith, body_length list, length-append (o ++ b) z, length-append o b)

pub table_length : (list : ListedTable) (address : ℕ) →
    length (table_bytes list address) ≡ length (front_bytes list) + 4 * length list.types + length (lists_bytes list.lists)
unfolding table_bytes
table_length list address =
    let f = front_bytes list in let e = entries_from (address + length f) (reverse list.types) in let l = lists_bytes list.lists in
    omega (arith, length-append (f ++ e) l, length-append f e, entries_length (address + length f) (reverse list.types), length-reverse list.types)

-- numbers that are no greater than a table is long
pub offset_within : (list : ListedTable) (address : ℕ) → offset_of list ≤ length (table_bytes list address)
offset_within list address = omega (arith, table_length list address, base_is list 0, front_is list 0)

pub sites_within : (list : ListedTable) (address : ℕ) → length (sites_bytes list) ≤ length (table_bytes list address)
sites_within list address = omega (arith, table_length list address, front_is list 0)

pub actions_within : (list : ListedTable) (address : ℕ) → length (action_bytes list.chains) ≤ length (table_bytes list address)
actions_within list address = omega (arith, table_length list address, front_is list 0)
