-- The lists that are read of packed bytes pack to those from which the bytes were made.
use Rattle.std.proofs.Common.{◌≡◌, ◌<◌, ◌+◌, ◌-◌, ◌==◌, ℕ, ℤ, Bool, true, false, List, [], ◌∷◌, ◌++◌, map, Ok, refl, ap, sym, subst, ◌∙◌, arith, if◌then◌else◌}
use Rattle.std.specs.Prelude.{Option, Some, None, filter_map, flat_map, option_map, option_and_then, slice_get, unwrap_or}
use Rattle.std.specs.List.{AllByRecursion, AllZip, cons_option}
use Rattle.std.proofs.lemmas.Bool.Decides.{nat_tests}
use Rattle.eh_bytes.specs.declared.frames.Region64.{Region64}
use Rattle.eh_bytes.specs.declared.table.ListSite.{ListSite}
use Rattle.eh_bytes.specs.Listed.{ListedTable}
use Rattle.eh_bytes.specs.Memory.{Memory}
use Rattle.table_forms.specs.declared.found.Site.{Site}
use Rattle.table_forms.specs.Keys.{keys, value_at}
use Rattle.table_forms.specs.Lsda.{Table, lsda, entries_named}
use Rattle.table_forms.specs.Lsda as forms
use Rattle.table_forms.specs.WrittenTable.{ChainStands, SiteStands, TableStands, list_from}
use Rattle.table_forms.proofs.Alls.{all_more, all_members}
use Rattle.table_forms.proofs.Kept.{IsIn}
use Rattle.eh_write.proofs.Alls.{all_append, all_flat_map, all_keys, all_map}
use Rattle.personality.proofs.Members.{in_left, in_right, all_front}
use Rattle.lsda_read.specs.Names.{types_named, lists_named}
use Rattle.lsda_read.specs.WholeTable.{indices_at, value_of}
use Rattle.lsda_read.proofs.Whole.{read_whole}
use Rattle.lsda_pack.specs.Chains.{chain_of, chains_of, distinct, number_in, numbered}
use Rattle.lsda_pack.specs.Joined.{joined}
use Rattle.lsda_pack.specs.KeptTypes.{greatest, indices_by, indices_named, indices_reached, kept_from, kept_types}
use Rattle.lsda_pack.specs.ListedVerdict.{by_index}
use Rattle.lsda_pack.specs.PackedLists.{packed_lists}
use Rattle.lsda_pack.specs.ReadLists.{AreInRow, lists_read, number_of, site_listed, values_from}
use Rattle.lsda_pack.specs.Rule.{pads_count}
use Rattle.lsda_pack.proofs.KeysAlike.{Within, within_trans, keys_same}
use Rattle.lsda_pack.proofs.ListsRead.{SiteIs, first_names, is_read, reads_its_lists}
use Rattle.lsda_pack.proofs.NamesAlike.{chains_in, filters_in, filters_within, named_in, within_filters}
use Rattle.lsda_pack.proofs.NamesPacked.{FilterReached, ListReached, action_chain, at_member, each_of, lists_reached}
use Rattle.lsda_pack.proofs.PackedTwice.{packed_twice}
use Rattle.lsda_pack.proofs.TableVerdict.{IsPositive, type_found}
use Rattle.lsda_pack.proofs.TypesKept.{type_kept}

-- ---- sites
abbrev chains_at : Table → List (List ℤ)
chains_at u = map (λ e. e.1) u.actions

chain_again : (list : ListedTable) (u : Table) (o : Option ℕ) (a : ℕ) → ((a == 0) ≡ false → IsIn a (map (λ (e : ℕ × List ℤ). e.0) u.actions)) → ChainStands list u o a →
    option_and_then (slice_get (chains_at u)) (number_of u.actions a) ≡ option_and_then (slice_get list.chains) o
chain_again list u None a named is = ap (λ n. option_and_then (slice_get (chains_at u)) (number_of u.actions n)) is
chain_again list u (Some c) a named (some, is) =
    let differs : (a == 0) ≡ false = grind (arith, nat_tests, some) in action_chain (chains_at u) u.actions a refl differs (named differs) ∙ sym is

pad_again : (start pad own : ℕ) → pad ≡ (if own == 0 then 0 else start + own) → (if pad == 0 then 0 else pad - start) ≡ own
pad_again start pad own is = by (own == 0) refl is
  where
    some : (b : Bool) → (pad == 0) ≡ b → pad ≡ start + own → (own == 0) ≡ false → (if b then 0 else pad - start) ≡ own
    some true e at differs = absurd (grind (arith, nat_tests, e, at, differs))
    some false e at differs = omega (arith, at)

    by : (b : Bool) → (own == 0) ≡ b → pad ≡ (if b then 0 else start + own) → (if pad == 0 then 0 else pad - start) ≡ own
    by true e at = let none : own ≡ 0 = grind (arith, nat_tests, e) in ap (λ p. if p == 0 then 0 else p - start) at ∙ sym none
    by false e at = some (pad == 0) refl at e

numbered_again : (list : ListedTable) (region : Region64) (u : Table) (kept : List (List ℤ)) (w : ListSite) (s : Site) → SiteStands list region u w s → SiteIs region.start u.actions s →
    numbered (chains_at u) kept (site_listed region.start u.actions s) ≡ numbered list.chains kept w
numbered_again list region u kept w s stands is =
    let C = option_map (number_in kept) (chain_of list.chains w) in
    let begins = stands.start in
    let ends = stands.end in
    let start : s.start - region.start ≡ w.start = omega (arith, begins) in
    let length : s.end - s.start ≡ w.length = omega (arith, begins, ends) in
    let chain = ap (option_map (number_in kept)) (chain_again list u w.chain s.action is.named stands.chain) in
    ap (λ (o : Option ℕ). record { start = s.start - region.start; length = s.end - s.start; pad = (if s.pad == 0 then 0 else s.pad - region.start); chain = o }) chain ∙
    ap (λ (n : ℕ). record { start = n; length = s.end - s.start; pad = (if s.pad == 0 then 0 else s.pad - region.start); chain = C }) start ∙
    ap (λ (n : ℕ). record { start = w.start; length = n; pad = (if s.pad == 0 then 0 else s.pad - region.start); chain = C }) length ∙
    ap (λ (n : ℕ). record { start = w.start; length = w.length; pad = n; chain = C }) (pad_again region.start s.pad w.pad stands.pad)

sites_again : (list : ListedTable) (region : Region64) (u : Table) (kept : List (List ℤ)) (ws : List ListSite) (ss : List Site) → AllZip (SiteStands list region u) ws ss →
    AllByRecursion (SiteIs region.start u.actions) ss → map (numbered (chains_at u) kept) (map (site_listed region.start u.actions) ss) ≡ map (numbered list.chains kept) ws
sites_again list region u kept [] [] stand are = refl
sites_again list region u kept [] (s ∷ ss) stand are = absurd stand
sites_again list region u kept (w ∷ ws) [] stand are = absurd stand
sites_again list region u kept (w ∷ ws) (s ∷ ss) stand are =
    ap (λ x. x ∷ map (numbered (chains_at u) kept) (map (site_listed region.start u.actions) ss)) (numbered_again list region u kept w s stand.0 are.0) ∙
    ap (λ xs. numbered list.chains kept w ∷ xs) (sites_again list region u kept ws ss stand.1 are.1)

chains_again : (list : ListedTable) (region : Region64) (u : Table) (ws : List ListSite) (ss : List Site) → AllZip (SiteStands list region u) ws ss →
    AllByRecursion (SiteIs region.start u.actions) ss → filter_map (chain_of (chains_at u)) (map (site_listed region.start u.actions) ss) ≡ filter_map (chain_of list.chains) ws
chains_again list region u [] [] stand are = refl
chains_again list region u [] (s ∷ ss) stand are = absurd stand
chains_again list region u (w ∷ ws) [] stand are = absurd stand
chains_again list region u (w ∷ ws) (s ∷ ss) stand are =
    ap (λ o. cons_option o (filter_map (chain_of (chains_at u)) (map (site_listed region.start u.actions) ss))) (chain_again list u w.chain s.action are.0.named stand.0.chain) ∙
    ap (cons_option (chain_of list.chains w)) (chains_again list region u ws ss stand.1 are.1)

-- ---- what is kept under the same keys is the same
pairs_same : {A : Type 0} (f : ℕ → Option A) (xs ys : List (ℕ × A)) → map (λ e. e.0) xs ≡ map (λ e. e.0) ys → AllByRecursion (λ e. f e.0 ≡ Some e.1) xs →
    AllByRecursion (λ e. f e.0 ≡ Some e.1) ys → xs ≡ ys
pairs_same f [] [] e one two = refl
pairs_same f [] (y ∷ ys) e one two = absurd cc
pairs_same f (x ∷ xs) [] e one two = absurd cc
pairs_same {A} f ((k, a) ∷ xs) ((j, b) ∷ ys) e one two =
    let first : k ≡ j = cc in
    let rest : map (λ (p : ℕ × A). p.0) xs ≡ map (λ (p : ℕ × A). p.0) ys = cc in
    let value : a ≡ b = some_same a b (sym one.0 ∙ ap f first ∙ two.0) in
    ap (λ (n : ℕ). (n, a) ∷ xs) first ∙ ap (λ (v : A). (j, v) ∷ xs) value ∙ ap (λ ps. (j, b) ∷ ps) (pairs_same f xs ys rest one.1 two.1)
  where
    some_same : (x y : A) → Some x ≡ Some y → x ≡ y
    some_same x y s = cc

pair_names : {A : Type 0} (f : ℕ → A) (ns : List ℕ) (es : List (ℕ × A)) → es ≡ map (λ n. (n, f n)) ns → map (λ (e : ℕ × A). e.0) es ≡ ns
pair_names {A} f ns es is = ap (map (λ (e : ℕ × A). e.0)) is ∙ first_names f ns

-- a type by its index
type_at : (ts : List ℕ) (i v : ℕ) → 0 < i → slice_get ts (i - 1) ≡ Some v → value_at 0 (by_index 1 ts) i ≡ v
type_at ts i v some found =
    let at : i ≡ 1 + (i - 1) = omega (arith, some) in ap (value_at 0 (by_index 1 ts)) at ∙ type_found ts 1 (i - 1) ∙ ap (λ o. unwrap_or o 0) found

-- ---- a table, and one that stands for its packed lists
module _ (memory other : Memory) (address place : ℕ) (region : Region64) (t u : Table) (read : lsda memory address region ≡ Ok t) (counts : pads_count region.start t.sites ≡ true)
    (row : AreInRow 0 t.lists) (again : lsda other place region ≡ Ok u) (stands : TableStands (packed_lists (lists_read region.start t)) region u) where
  abbrev L : ListedTable
  L = lists_read region.start t

  abbrev M : ListedTable
  M = lists_read region.start u

  abbrev P : ListedTable
  P = packed_lists L

  abbrev kept : List (List ℤ)
  kept = chains_in region.start t

  abbrev reached : List ℕ
  reached = indices_reached L.lists kept

  packed_chains : distinct (chains_of P) ≡ kept
  unfolding packed_lists
  packed_chains = ap (λ (x : ListedTable). x.chains) (packed_twice L)

  chains_same : chains_in region.start u ≡ kept
  unfolding lists_read
  chains_same = ap distinct (chains_again P region u P.sites u.sites stands.sites (is_read other place region u again).sites) ∙ packed_chains

  names_within : (g : ℤ → List ℕ) → Within (flat_map g (filters_in u)) (named_in g kept)
  names_within g = subst (λ ks. Within (flat_map g (filters_in u)) (named_in g ks)) chains_same (filters_within g region.start u (read_whole other place region u again))

  names_there : (g : ℤ → List ℕ) → Within (flat_map g (filters_in u)) (flat_map g (filters_in t))
  names_there g = within_trans (flat_map g (filters_in u)) (named_in g kept) (flat_map g (filters_in t)) (names_within g) (within_filters g region.start t)

  names_back : (g : ℤ → List ℕ) → Within (flat_map g (filters_in t)) (flat_map g (filters_in u))
  names_back g =
      within_trans (flat_map g (filters_in t)) (named_in g kept) (flat_map g (filters_in u)) (filters_within g region.start t (read_whole memory address region t read))
      (subst (λ ks. Within (named_in g ks) (flat_map g (filters_in u))) chains_same (within_filters g region.start u))

  lists_are : P.lists ≡ L.lists
  unfolding packed_lists
  lists_are = refl

  lists_same : u.lists ≡ t.lists
  unfolding lists_read
  lists_same =
      let wt = read_whole memory address region t read in
      let wu = read_whole other place region u again in
      let names = pair_names (indices_at u) (keys (lists_named u)) u.lists wu.lists ∙ keys_same (lists_named u) (lists_named t) (names_there forms.lists_named) (names_back forms.lists_named) ∙
      sym (pair_names (indices_at t) (keys (lists_named t)) t.lists wt.lists) in
      pairs_same (λ j. list_from L.lists (j - 1)) u.lists t.lists names
      (subst (λ ls. AllByRecursion (λ (l : ℕ × List ℕ). list_from ls (l.0 - 1) ≡ Some l.1) u.lists) lists_are stands.lists)
      (reads_its_lists memory address region t read counts row).lists

  -- each type that is named is reached
  filters_found : AllByRecursion (FilterReached L.lists reached) (filters_in u)
  filters_found = each_of (λ i. IsIn i reached) (indices_by L.lists) (filters_in u) (names_within (indices_by L.lists))

  entries_found : Within (flat_map entries_named (filters_in u)) reached
  entries_found =
      all_flat_map (λ i. IsIn i reached) entries_named (filters_in u)
      (all_more (FilterReached L.lists reached) (λ f. Within (entries_named f) reached) (λ f all. all_front (λ i. IsIn i reached) (entries_named f) (indices_named L.lists f) all) (filters_in u) filters_found)

  indices_found : (ls : List (ℕ × List ℕ)) → AllByRecursion (λ l. IsIn l.0 (lists_named u)) ls → AllByRecursion (λ l. list_from L.lists (l.0 - 1) ≡ Some l.1) ls →
      AllByRecursion (λ l. Within l.1 reached) ls
  indices_found [] named found = tt
  indices_found (l ∷ ls) named found = (
    at_member (ListReached L.lists reached) (lists_named u) (lists_reached L.lists reached (filters_in u) filters_found) l.0 named.0 l.1 found.0,
    indices_found ls named.1 found.1,
  )

  types_found : Within (types_named u) reached
  types_found =
      let wu = read_whole other place region u again in
      let named = subst (AllByRecursion (λ (l : ℕ × List ℕ). IsIn l.0 (lists_named u))) (sym wu.lists)
      (all_map (λ (l : ℕ × List ℕ). IsIn l.0 (lists_named u)) (λ j. (j, indices_at u j)) (keys (lists_named u)) (all_keys (λ j. IsIn j (lists_named u)) (lists_named u) (all_members (lists_named u)))) in
      let found = subst (λ ls. AllByRecursion (λ (l : ℕ × List ℕ). list_from ls (l.0 - 1) ≡ Some l.1) u.lists) lists_are stands.lists in
      all_append (λ i. IsIn i reached) (flat_map entries_named (filters_in u)) (flat_map (λ (l : ℕ × List ℕ). l.1) u.lists) entries_found
      (all_flat_map (λ i. IsIn i reached) (λ (l : ℕ × List ℕ). l.1) u.lists (indices_found u.lists named found))

  types_are : P.types ≡ kept_from reached 1 L.types
  unfolding packed_lists
  types_are = refl

  -- so it has its value
  values_again : (es : List (ℕ × ℕ)) → AllByRecursion (λ e. IsIn e.0 reached) es → AllByRecursion (λ e. IsPositive e.0 × (value_at 0 u.types e.0 ≡ e.1)) es →
      AllByRecursion (λ e. slice_get P.types (e.0 - 1) ≡ Some e.1) es → AllByRecursion (λ e. Some (value_at 0 (by_index 1 L.types) e.0) ≡ Some e.1) es
  values_again [] named over found = tt
  values_again (e ∷ es) named over found = (
    ap (λ (v : ℕ). Some v) (sym (type_kept reached e.0 named.0 L.types) ∙ ap (λ ts. value_at 0 (by_index 1 ts) e.0) (sym types_are) ∙ type_at P.types e.0 e.1 over.0.0 found.0),
    values_again es named.1 over.1 found.1,
  )

  values_read : (es : List (ℕ × ℕ)) → AllByRecursion (λ e. IsPositive e.0 × (value_at 0 t.types e.0 ≡ e.1)) es →
      AllByRecursion (λ e. slice_get L.types (e.0 - 1) ≡ Some e.1) es → AllByRecursion (λ e. Some (value_at 0 (by_index 1 L.types) e.0) ≡ Some e.1) es
  values_read [] over found = tt
  values_read (e ∷ es) over found = (ap (λ (v : ℕ). Some v) (type_at L.types e.0 e.1 over.0.0 found.0), values_read es over.1 found.1)

  both_named : (A B C : List ℕ) → Within A B → Within (A ++ C) (B ++ C)
  both_named A B C all =
      all_append (λ k. IsIn k (B ++ C)) A C (all_more (λ k. IsIn k B) (λ k. IsIn k (B ++ C)) (λ k is. in_left k B C is) A all)
      (all_more (λ k. IsIn k C) (λ k. IsIn k (B ++ C)) (λ k is. in_right k B C is) C (all_members C))

  types_same : u.types ≡ t.types
  types_same =
      let wt = read_whole memory address region t read in
      let wu = read_whole other place region u again in
      let E = λ (x : Table). flat_map entries_named (filters_in x) in
      let I = flat_map (λ (l : ℕ × List ℕ). l.1) t.lists in
      let lists : types_named u ≡ E u ++ I = ap (λ ls. E u ++ flat_map (λ (l : ℕ × List ℕ). l.1) ls) lists_same in
      let alike = ap keys lists ∙ keys_same (E u ++ I) (E t ++ I) (both_named (E u) (E t) I (names_there entries_named)) (both_named (E t) (E u) I (names_back entries_named)) in
      let names = pair_names (value_of u) (keys (types_named u)) u.types wu.types ∙ alike ∙ sym (pair_names (value_of t) (keys (types_named t)) t.types wt.types) in
      let found = subst (AllByRecursion (λ (e : ℕ × ℕ). IsIn e.0 reached)) (sym wu.types)
      (all_map (λ (e : ℕ × ℕ). IsIn e.0 reached) (λ i. (i, value_of u i)) (keys (types_named u)) (all_keys (λ i. IsIn i reached) (types_named u) types_found)) in
      pairs_same (λ i. Some (value_at 0 (by_index 1 L.types) i)) u.types t.types names
      (values_again u.types found (is_read other place region u again).types stands.types)
      (values_read t.types (is_read memory address region t read).types (reads_its_lists memory address region t read counts row).types)

  sites_same : joined (map (numbered M.chains kept) M.sites) ≡ P.sites
  unfolding packed_lists lists_read
  sites_same =
      ap joined (sites_again P region u kept P.sites u.sites stands.sites (is_read other place region u again).sites) ∙
      ap (λ ks. joined (map (numbered P.chains ks) P.sites)) (sym packed_chains) ∙ ap (λ (x : ListedTable). x.sites) (packed_twice L)

  names_same : (M.types ≡ L.types) × (M.lists ≡ L.lists)
  unfolding lists_read
  names_same = (ap (λ (ts : List (ℕ × ℕ)). values_from (greatest (map (λ (e : ℕ × ℕ). e.0) ts)) 1 ts) types_same, ap (map (λ (l : ℕ × List ℕ). l.1)) lists_same)

  pub read_again : packed_lists M ≡ P
  unfolding packed_lists
  read_again =
      ap (λ ks. record { sites = joined (map (numbered M.chains ks) M.sites); chains = ks; types = kept_types (indices_reached M.lists ks) M.types; lists = M.lists }) chains_same ∙
      ap (λ (ss : List ListSite). record { sites = ss; chains = kept; types = kept_types (indices_reached M.lists kept) M.types; lists = M.lists }) sites_same ∙
      ap (λ (ts : List ℕ). record { sites = P.sites; chains = kept; types = kept_types (indices_reached M.lists kept) ts; lists = M.lists }) names_same.0 ∙
      ap (λ (ls : List (List ℕ)). record { sites = P.sites; chains = kept; types = kept_types (indices_reached ls kept) L.types; lists = ls }) names_same.1
