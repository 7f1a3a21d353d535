-- How many bytes of an image a function takes beside its words.
use Rattle.std.proofs.Common.{◌≡◌, ℕ, ℤ, zero, suc, ◌+◌, ◌-◌, ◌*◌, ◌<◌, ◌≤◌, ◌==◌, Bool, true, false, nat_lt, List, [], ◌∷◌, ◌++◌, length, Some, None, if◌then◌else◌, refl, arith, length-append}
use Rattle.std.specs.Prelude.{pos, negsuc, flat_map, IsSome}
use Rattle.std.specs.List.{AllByRecursion}
use Rattle.std.proofs.Math.Nat.{mul-le-mul_left}
use Rattle.std.proofs.lemmas.List.{length-map}
use Rattle.std.proofs.lemmas.Bool.Decides.{nat_tests}
use Rattle.eh_bytes.specs.declared.table.ListSite.{ListSite}
use Rattle.eh_bytes.specs.Spelling.{uleb_spelling}
use Rattle.eh_bytes.specs.Listed.{ListedTable}
use Rattle.table_forms.specs.WrittenTable.{list_size, list_from}
use Rattle.eh_write.specs.CanWrite.{TypeIsThere, FilterIsThere, ChainIsGood}
use Rattle.eh_write.specs.Written.{chain_bytes, action_bytes, lists_bytes}
use Rattle.region_forms.specs.Form.{RegionFunction}
use Rattle.linear_forms.specs.Unit.{emitting, function_code}
use Rattle.landing_pads.specs.Laws.{AllTablesAreShort}
use Rattle.landing_pads.specs.Size.{longest}
use Rattle.machine_forms.specs.Emitted.{function_routine, shape_of}
use Rattle.machine_forms.specs.Routine.{listed_routine, listed_site, routine_table, routine_words}
use Rattle.image_forms.specs.Room.{function_room, symbol_room}
use Rattle.rv64_emit.specs.Laws.{SiteIsInside, TableIsGood}
use Rattle.source_bounds.specs.TableWeights.{guards_in, chain_weight}
use Rattle.source_bounds.proofs.Bytes.{uleb_two, IsSmall, chain_short, IsNearSite, table_short}
use Rattle.source_bounds.proofs.Chains.{behind_all, pads_in, few_chains}
use Rattle.source_bounds.proofs.Counted.{counted_once, pieces_counted}
use Rattle.source_bounds.proofs.FrameBytes.{frame_short}
use Rattle.source_bounds.proofs.Measures.{region_weighs, types_weigh, list_weight, table_lists_weigh}
use Rattle.source_bounds.proofs.Products.{chains_weigh, most_chains}
use Rattle.source_bounds.proofs.Regions.{functions_are_short}
use Rattle.source_bounds.proofs.Roomy.{IsRoomy, most_room}
use Rattle.source_bounds.proofs.Sites.{sites_are_few}
use Rattle.source_bounds.specs.WordLaws.{routine_pieces}

-- sites in a function of so many words
near : (words : ℕ) (sites : List ListSite) → words ≤ 500000 → AllByRecursion (SiteIsInside words) sites → AllByRecursion IsNearSite sites
near words [] h k = tt
near words (s ∷ sites) h k =
    let inside = k.0 in
    (record { start = omega (arith, h, inside.extent); length = omega (arith, h, inside.extent); pad = omega (arith, h, inside.pad) }, near words sites h k.1)

-- lists whose indices count few types

indices_short : (t : ListedTable) (l : List ℕ) → length t.types < 16384 → AllByRecursion (TypeIsThere t) l → length (flat_map uleb_spelling l) ≤ 2 * length l
indices_short t [] h k = omega arith
indices_short t (i ∷ l) h k = omega (arith, length-append (uleb_spelling i) (flat_map uleb_spelling l), uleb_two i (omega (arith, h, k.0.1)), indices_short t l h k.1)

lists_short : (t : ListedTable) (ls : List (List ℕ)) → length t.types < 16384 → AllByRecursion (AllByRecursion (TypeIsThere t)) ls → length (lists_bytes ls) ≤ list_weight ls
lists_short t [] h k = omega arith
lists_short t (l ∷ ls) h k =
    omega (arith, length-append (flat_map uleb_spelling l) (0 ∷ []), length-append (flat_map uleb_spelling l ++ 0 ∷ []) (lists_bytes ls), indices_short t l h k.0, lists_short t ls h k.1)

-- a list that is found begins among the bytes of all
found_below : (ls : List (List ℕ)) (n : ℕ) → IsSome (list_from ls n) → n < length (lists_bytes ls)
found_below [] n h = absurd (cc h)
found_below (l ∷ ls) n h = go (n == 0) refl (nat_lt n (list_size l)) refl h (found_below ls (n - list_size l))
  where
    size : length (lists_bytes (l ∷ ls)) ≡ list_size l + length (lists_bytes ls)
    size = omega (arith, length-append (flat_map uleb_spelling l) (0 ∷ []), length-append (flat_map uleb_spelling l ++ 0 ∷ []) (lists_bytes ls))

    is_zero : (n == 0) ≡ true → n ≡ 0
    is_zero e = grind (arith, nat_tests, e)

    not_below : (m : ℕ) → nat_lt n m ≡ false → m ≤ n
    not_below m e = grind (arith, nat_tests, e)

    go : (b : Bool) → (n == 0) ≡ b → (c : Bool) → nat_lt n (list_size l) ≡ c →
        IsSome (if b then Some l else if c then None else list_from ls (n - list_size l)) →
        (IsSome (list_from ls (n - list_size l)) → n - list_size l < length (lists_bytes ls)) → n < length (lists_bytes (l ∷ ls))
    go true e c q k rest = omega (arith, size, is_zero e)
    go false e true q k rest = absurd (cc k)
    go false e false q k rest = omega (arith, size, not_below (list_size l) q, rest k)

-- filters that are there

filter_small : (t : ListedTable) (z : ℤ) → length t.types < 8192 → length (lists_bytes t.lists) ≤ 8192 → FilterIsThere t z → IsSmall z
filter_small t (pos zero) h k there = omega arith
filter_small t (pos (suc i)) h k there = omega (arith, h, there.1)
filter_small t (negsuc n) h k there = omega (arith, k, found_below t.lists n there)

filters_small : (t : ListedTable) (c : List ℤ) → length t.types < 8192 → length (lists_bytes t.lists) ≤ 8192 → AllByRecursion (FilterIsThere t) c → AllByRecursion IsSmall c
filters_small t [] h k there = tt
filters_small t (z ∷ c) h k there = (filter_small t z h k there.0, filters_small t c h k there.1)

-- chains of at most so many filters
chains_short : (t : ListedTable) (most : ℕ) (cs : List (List ℤ)) → length t.types < 8192 → length (lists_bytes t.lists) ≤ 8192 → AllByRecursion (ChainIsGood t) cs →
    AllByRecursion (λ c. length c ≤ most) cs → length (action_bytes cs) ≤ 3 * most * length cs
chains_short t most [] h k good short = omega arith
chains_short t most (c ∷ cs) h k good short =
    omega (
      arith,
      length-append (chain_bytes c) (action_bytes cs),
      chain_short c (filters_small t c h k good.0.1),
      short.0,
      chains_short t most cs h k good.1 short.1,
    )

-- a function whose body is not too large takes no more, with its symbol
pub function_room_short : AllTablesAreShort → (first : ℕ) (f : RegionFunction) → IsRoomy f → (function_code f).frame ≤ 2032 → TableIsGood (listed_routine first (function_routine (function_code f))) →
    function_room (listed_routine first (function_routine (function_code f))) + symbol_room ≤ most_room f
function_room_short tables first f roomy small good =
    let g = function_code f in
    let r = function_routine g in
    let t = routine_table r in
    let em = emitting f in
    let short = tables f in
    let types : length t.types ≤ guards_in f.body = omega (arith, short.types, types_weigh f.body) in
    let lists = lists_short t t.lists (omega (arith, types, roomy.guards)) good.lists in
    let weight = table_lists_weigh f.body in
    let counted = functions_are_short f roomy.few in
    let words : routine_words r ≤ 500000 = omega (arith, counted, roomy.words, pieces_counted r, counted_once (routine_pieces r)) in
    let lengths = behind_all (λ c. length c ≤ longest f.body + 1) [] r.sites tt short.chains in
    let chains = chains_short t (longest f.body + 1) t.chains (omega (arith, types, roomy.guards)) (omega (arith, lists, weight, roomy.guards)) good.chains lengths in
    let few : 3 * (longest f.body + 1) * length t.chains ≤ 3 * (longest f.body + 1) * (2 * pads_in em f.body + 1) = mul-le-mul_left (3 * (longest f.body + 1)) (few_chains f) in
    let weighs = chains_weigh (pads_in em f.body) (longest f.body) (chain_weight f.body) (region_weighs em f.body) in
    let most = most_chains (chain_weight f.body) roomy.weight in
    let table = table_short t (near (routine_words r) t.sites words good.inside) (omega (arith, chains, few, weighs, most, roomy.weight)) in
    omega (
      arith,
      table,
      chains,
      few,
      weighs,
      types,
      lists,
      weight,
      sites_are_few f,
      length-map g.sites (listed_site r),
      frame_short (shape_of g) g.parameters small,
    )
