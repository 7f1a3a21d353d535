-- The list of a specification allows on the ABI machine what it allows in linear code.
use Rattle.std.proofs.Common.{◌≡◌, ◌≢◌, ◌∙◌, refl, sym, ap, subst, arith, ℕ, zero, suc, ◌+◌, ◌-◌, ◌*◌, ◌<◌, ◌≤◌, ◌==◌, ◌||◌, nat_lt, ℤ, pos, negsuc, Bool, true, false, List, [], ◌∷◌, map, length, Option, Some, None, if◌then◌else◌}
use Rattle.std.specs.Prelude.{slice_get, not, Contains}
use Rattle.std.specs.List.{AllByRecursion, AllZip, list_any}
use Rattle.std.proofs.lemmas.Bool.Decides.{nat_tests}
use Rattle.meaning_forms.specs.Arithmetic.{int_equal}
use Rattle.meaning_forms.specs.Class.{contains}
use Rattle.eh_bytes.specs.declared.frames.Region64.{Region64}
use Rattle.eh_bytes.specs.Listed.{ListedTable}
use Rattle.table_forms.specs.declared.found.Site.{Site}
use Rattle.table_forms.specs.Keys.{value_at}
use Rattle.table_forms.specs.Lsda.{Table}
use Rattle.table_forms.specs.Verdict as tables
use Rattle.table_forms.specs.Verdict.{Thrown, native, stops, filters_at}
use Rattle.table_forms.specs.WrittenTable.{ChainStands, SiteStands, TableStands, list_size, list_from}
use Rattle.lsda_read.specs.Names.{types_named, lists_named}
use Rattle.personality.proofs.NamedBy.{indices_named}
use Rattle.cxa_runtime.specs.Unexpected.{is_list, has_list, lists_bad}
use Rattle.cxa_runtime.proofs.Listed.{list_named}
use Rattle.region_forms.specs.Form.{TypeRow}
use Rattle.region_forms.specs.Guard.{allows}
use Rattle.region_forms.specs.Ending.{bad_row}
use Rattle.linear_forms.specs.Linear.{CodeSite}
use Rattle.linear_forms.specs.Sites.{same_chain}
use Rattle.linear_forms.specs.Tables.{list_of, list_bytes, entry_type, type_at_index, list_sense, sense_in}
use Rattle.linear_forms.proofs.Integers.{equal_is_same, both_hold}
use Rattle.machine_forms.specs.Routine.{Routine, chain_number, chain_for, chains_of, listed_site, routine_table}
use Rattle.image_forms.specs.Placed.{record_at, type_at}
use Rattle.image_forms.specs.Tables.{linked_table}
use Rattle.table_verdicts.specs.Types.{thrown_as}
use Rattle.table_verdicts.specs.Asked.{NamesType, PadIsInside, TableIsAsked, TypesAreAsked}
use Rattle.table_verdicts.proofs.Looked.{Looked}
use Rattle.table_verdicts.proofs.Filters.{filter_means}

-- ---- a chain of a site is read as its filters

chain_same : (a b : List ℤ) → same_chain a b ≡ true → a ≡ b
chain_same [] [] e = refl
chain_same [] (m ∷ ms) e = absurd (cc e)
chain_same (n ∷ ns) [] e = absurd (cc e)
chain_same (n ∷ ns) (m ∷ ms) e =
    let both = both_hold (int_equal n m) (same_chain ns ms) e in
    ap (λ x. x ∷ ns) (equal_is_same n m both.0) ∙ ap (λ xs. m ∷ xs) (chain_same ns ms both.1)

some_same : {A : Type 0} (a b : A) → Some a ≡ Some b → a ≡ b
some_same a b e = cc

chain_found : (c : List ℤ) (chains : List (List ℤ)) (x : List ℤ) → slice_get chains (chain_number c chains) ≡ Some x → x ≡ c
chain_found c [] x e = absurd (cc e)
chain_found c (y ∷ ys) x e = by (same_chain c y) refl e (chain_found c ys x)
  where
    by : (b : Bool) → same_chain c y ≡ b → slice_get (y ∷ ys) (if b then 0 else chain_number c ys + 1) ≡ Some x → (slice_get ys (chain_number c ys) ≡ Some x → x ≡ c) → x ≡ c
    by true is e later = sym (some_same y x e) ∙ sym (chain_same c y is)
    by false is e later =
        let next : chain_number c ys + 1 ≡ suc (chain_number c ys) = omega arith in
        later (ap (slice_get (y ∷ ys)) (sym next) ∙ e)

not_zero : (a : ℕ) → a ≢ 0 → (a == 0) ≡ false
not_zero zero some = absurd (some refl)
not_zero (suc a) some = grind (arith, nat_tests)

chain_read : (list : ListedTable) (table : Table) (action : ℕ) (n : ℤ) (ns : List ℤ) → ChainStands list table (chain_for list.chains (n ∷ ns)) action → filters_at table action ≡ n ∷ ns
chain_read list table action n ns (some, there) =
    ap (λ b. if b then pos 0 ∷ [] else value_at [] table.actions action) (not_zero action some) ∙ chain_found (n ∷ ns) list.chains (value_at [] table.actions action) there

filter_there : (j index : ℕ) (fs : List ℤ) → slice_get fs index ≡ Some (negsuc j) → list_any (is_list j) fs ≡ true
filter_there j index [] e = absurd (cc e)
filter_there j zero (f ∷ fs) e =
    let same : f ≡ negsuc j = some_same f (negsuc j) e in
    let itself : (j == j) ≡ true = grind (arith, nat_tests) in
    ap (λ z. is_list j z || list_any (is_list j) fs) same ∙ ap (λ b. b || list_any (is_list j) fs) itself
filter_there j (suc index) (f ∷ fs) e = by (is_list j f) (filter_there j index fs e)
  where
    by : (b : Bool) → list_any (is_list j) fs ≡ true → (b || list_any (is_list j) fs) ≡ true
    by true more = refl
    by false more = more

site_has : (list : ListedTable) (table : Table) (j index action : ℕ) (fs : List ℤ) → ChainStands list table (chain_for list.chains fs) action → slice_get fs index ≡ Some (negsuc j) → list_any (is_list j) (filters_at table action) ≡ true
site_has list table j index action [] stands e = absurd (cc e)
site_has list table j index action (n ∷ ns) stands e = ap (list_any (is_list j)) (chain_read list table action n ns stands) ∙ filter_there j index (n ∷ ns) e

sites_have : (r : Routine) (list : ListedTable) (region : Region64) (table : Table) (j place index : ℕ) (s : CodeSite) (ss : List CodeSite) (ts : List Site) → list.chains ≡ chains_of r.sites → AllZip (SiteStands list region table) (map (listed_site r) ss) ts →
    slice_get ss place ≡ Some s → slice_get s.filters index ≡ Some (negsuc j) → list_any (λ (t : Site). list_any (is_list j) (filters_at table t.action)) ts ≡ true
sites_have r list region table j place index s [] ts chains all there e = absurd (cc there)
sites_have r list region table j place index s (x ∷ ss) [] chains all there e = absurd all
sites_have r list region table j zero index s (x ∷ ss) (t ∷ ts) chains (first, all) there e =
    let same : x ≡ s = some_same x s there in
    let stood : ChainStands list table (chain_for list.chains s.filters) t.action
    = subst (λ cs. ChainStands list table (chain_for cs s.filters) t.action) (sym chains) (subst (λ (y : CodeSite). ChainStands list table (chain_for (chains_of r.sites) y.filters) t.action) same first.chain) in
    ap (λ b. b || list_any (λ (y : Site). list_any (is_list j) (filters_at table y.action)) ts) (site_has list table j index t.action s.filters stood e)
sites_have r list region table j (suc place) index s (x ∷ ss) (t ∷ ts) chains (first, all) there e =
    by (list_any (is_list j) (filters_at table t.action)) (sites_have r list region table j place index s ss ts chains all there e)
  where
    by : (b : Bool) → list_any (λ (y : Site). list_any (is_list j) (filters_at table y.action)) ts ≡ true → (b || list_any (λ (y : Site). list_any (is_list j) (filters_at table y.action)) ts) ≡ true
    by true more = refl
    by false more = more

pub table_has : (end : ℕ) (r : Routine) (region : Region64) (table : Table) (j place index : ℕ) (s : CodeSite) → TableStands (linked_table end (routine_table r)) region table → slice_get r.sites place ≡ Some s → slice_get s.filters index ≡ Some (negsuc j) →
    has_list j table ≡ true
table_has end r region table j place index s stands there e = sites_have r (linked_table end (routine_table r)) region table j place index s r.sites table.sites refl stands.sites there e

-- ---- the list

record ListThere (types : List ℕ) (lists : List (List ℕ)) (at n : ℕ) (l : List ℕ) : Type 0 where
  sense : list_sense types lists at n ≡ list_of (map (type_at_index types) l)
  named : AllByRecursion (NamesType types) l

list_is : (types : List ℕ) (lists : List (List ℕ)) (at n m : ℕ) (l : List ℕ) → n ≡ at + m → list_from lists m ≡ Some l → AllByRecursion (AllByRecursion (NamesType types)) lists → ListThere types lists at n l
list_is types [] at n m l place found all = absurd (cc found)
list_is types (x ∷ lists) at n m l place found all =
    by (m == 0) (nat_lt m (list_size x)) refl refl found (λ far more. list_is types lists (at + list_bytes x) n (m - list_size x) l (omega (arith, place, far)) more all.1)
  where
    here : (at == n) ≡ true → x ≡ l → ListThere types (x ∷ lists) at n l
    here test is = record {
      sense = ap (λ b. if b then list_of (map (type_at_index types) x) else list_sense types lists (at + list_bytes x) n) test ∙ ap (λ y. list_of (map (type_at_index types) y)) is;
      named = subst (AllByRecursion (NamesType types)) is all.0;
    }

    behind : (at == n) ≡ false → ListThere types lists (at + list_bytes x) n l → ListThere types (x ∷ lists) at n l
    behind test later = record {
      sense = ap (λ b. if b then list_of (map (type_at_index types) x) else list_sense types lists (at + list_bytes x) n) test ∙ later.sense;
      named = later.named;
    }

    by : (first inside : Bool) → (m == 0) ≡ first → nat_lt m (list_size x) ≡ inside → (if first then Some x else if inside then None else list_from lists (m - list_size x)) ≡ Some l →
        (list_size x ≤ m → list_from lists (m - list_size x) ≡ Some l → ListThere types lists (at + list_bytes x) n l) → ListThere types (x ∷ lists) at n l
    by true inside e f found later = here (grind (arith, nat_tests, e, place)) (some_same x l found)
    by false true e f found later = absurd (cc found)
    by false false e f found later =
        let far : list_size x ≤ m = grind (arith, nat_tests, f) in
        behind (grind (arith, nat_tests, e, place)) (later far found)

-- ---- bad_exception in it

same_test : (a b c d : ℕ) → (a ≡ b → c ≡ d) → (c ≡ d → a ≡ b) → (a == b) ≡ (c == d)
same_test a b c d there back = by (a == b) (c == d) refl refl
  where
    by : (x y : Bool) → (a == b) ≡ x → (c == d) ≡ y → x ≡ y
    by true true e f = refl
    by false false e f = refl
    by true false e f = let g : a ≡ b = grind (arith, nat_tests, e) in let h : c ≡ d = there g in absurd (grind (arith, nat_tests, f, h))
    by false true e f = let g : c ≡ d = grind (arith, nat_tests, f) in let h : a ≡ b = back g in absurd (grind (arith, nat_tests, e, h))

entry_value : (end : ℕ) (types : List ℕ) (i x v : ℕ) → slice_get types i ≡ Some x → slice_get (map (type_at end) types) i ≡ Some v → type_at end x ≡ v
entry_value end [] i x v there e = absurd (cc e)
entry_value end (t ∷ ts) zero x v there e = ap (type_at end) (sym (some_same t x there)) ∙ some_same (type_at end t) v e
entry_value end (t ∷ ts) (suc i) x v there e = entry_value end ts i x v there e

type_is : (end u : ℕ) → type_at end (suc u) ≡ record_at end u
type_is end u =
    let some : (suc u == 0) ≡ false = grind (arith, nat_tests) in
    ap (λ b. if b then 0 else end - 24 * suc u) some ∙ omega arith

item_holds : {A : Type 0} (P : A → Type 0) (xs : List A) (i : ℕ) (x : A) → AllByRecursion P xs → slice_get xs i ≡ Some x → P x
item_holds P [] i x all e = absurd (cc e)
item_holds P (y ∷ ys) zero x all e = subst P (some_same y x e) all.0
item_holds P (y ∷ ys) (suc i) x all e = item_holds P ys i x all.1 e

-- an index of the list is that of bad_exception where its entry leads to that record
index_bad : (end rows : ℕ) (types : List ℕ) (table : Table) (i : ℕ) → 24 * rows < end → bad_row < rows → AllByRecursion (λ x. x ≤ rows) types → NamesType types i → slice_get (map (type_at end) types) (i - 1) ≡ Some (value_at 0 table.types i) →
    (value_at 0 table.types i == record_at end bad_row) ≡ (type_at_index types i == bad_row)
index_bad end rows types table zero room bad few named e = absurd (let below = named.1 in omega (arith, below))
index_bad end rows types table (suc k) room bad few (u, some, is) e =
    let less : suc k - 1 ≡ k = omega arith in
    let at : slice_get types k ≡ Some (suc u) = ap (slice_get types) (sym less) ∙ is in
    let inside : suc u ≤ rows = item_holds (λ x. x ≤ rows) types k (suc u) few at in
    let value : value_at 0 table.types (suc k) ≡ record_at end u = sym (entry_value end types k (suc u) (value_at 0 table.types (suc k)) at (ap (slice_get (map (type_at end) types)) (sym less) ∙ e)) ∙ type_is end u in
    ap (λ a. a == record_at end bad_row) value
    ∙ (same_test (record_at end u) (record_at end bad_row) u bad_row (λ same. omega (arith, same, room, inside, bad)) (λ same. ap (record_at end) same) ∙ ap (λ t. t == bad_row) (sym (ap entry_type at)))

indices_bad : (end rows : ℕ) (types : List ℕ) (table : Table) (l : List ℕ) → 24 * rows < end → bad_row < rows → AllByRecursion (λ x. x ≤ rows) types →
    ((i : ℕ) → Contains (types_named table) i → slice_get (map (type_at end) types) (i - 1) ≡ Some (value_at 0 table.types i)) → AllByRecursion (NamesType types) l → AllByRecursion (Contains (types_named table)) l →
    list_any (λ i. value_at 0 table.types i == record_at end bad_row) l ≡ contains (map (type_at_index types) l) bad_row
indices_bad end rows types table [] room bad few looked names named = refl
indices_bad end rows types table (i ∷ l) room bad few looked names named =
    ap (λ b. b || list_any (λ k. value_at 0 table.types k == record_at end bad_row) l) (index_bad end rows types table i room bad few names.0 (looked i named.0))
    ∙ ap (λ b. (type_at_index types i == bad_row) || b) (indices_bad end rows types table l room bad few looked names.1 named.1)

-- ---- what a list says, in a table that is read

pub record ListSays (end : ℕ) (rows : List TypeRow) (r : Routine) (table : Table) (j t : ℕ) : Type 0 where
  pub types : List ℕ
  pub sense : sense_in r.types r.lists (negsuc j) ≡ list_of types
  pub allows_so : tables.allows table (thrown_as end rows (Some t)) (j + 1) ≡ allows rows types (Some t)
  pub bad_so : lists_bad table (j + 1) (record_at end bad_row) ≡ contains types bad_row

pads_inside : (r : Routine) (sites : List CodeSite) → 0 < length r.front → AllByRecursion (λ s. PadIsInside r s.pad) sites
pads_inside r [] some = tt
pads_inside r (s ∷ sites) some = (by s.pad, pads_inside r sites some)
  where
    by : (o : Option ℕ) → PadIsInside r o
    by None = tt
    by (Some p) = omega (arith, some)

not_same : (a b : Bool) → not a ≡ not b → a ≡ b
not_same true true e = refl
not_same false false e = refl
not_same true false e = absurd (cc e)
not_same false true e = absurd (cc e)

lists_same : (a b : List ℕ) → list_of a ≡ list_of b → a ≡ b
lists_same a b e = cc

pub list_says : (end : ℕ) (rows : List TypeRow) (r : Routine) (table : Table) (j t : ℕ) → 0 < length r.front → TypesAreAsked end rows → t < length rows → bad_row < length rows → AllByRecursion (λ x. x ≤ length rows) r.types →
    AllByRecursion (AllByRecursion (NamesType r.types)) r.lists → Looked (linked_table end (routine_table r)) table → has_list j table ≡ true → ListSays end rows r table j t
list_says end rows r table j t some asked known bad few names looked has =
    let next : j + 1 ≡ suc j = omega arith in
    let named : Contains (lists_named table) (suc j) = subst (Contains (lists_named table)) next (list_named table j has) in
    let fits : TableIsAsked (length rows) r = record { pads = pads_inside r r.sites some; types = few; lists = names } in
    let means = filter_means end rows r table (Some t) (negsuc j) fits asked known looked named in
    let l : List ℕ = value_at [] table.lists (suc j) in
    let less : suc j - 1 ≡ j = omega arith in
    let whole : j ≡ 0 + j = omega arith in
    let list = list_is r.types r.lists 0 j j l whole (ap (list_from r.lists) (sym less) ∙ looked.list_there (suc j) named) names in
    let types : List ℕ = map (type_at_index r.types) l in
    let same : means.0 ≡ types = lists_same means.0 types (sym means.1 ∙ list.sense) in
    record {
      types = types;
      sense = list.sense;
      allows_so = ap (tables.allows table (thrown_as end rows (Some t))) next ∙ not_same (tables.allows table (thrown_as end rows (Some t)) (suc j)) (allows rows means.0 (Some t)) means.2 ∙ ap (λ ts. allows rows ts (Some t)) same;
      bad_so = ap (λ k. lists_bad table k (record_at end bad_row)) next ∙ indices_bad end (length rows) r.types table l asked.room bad few looked.type_there list.named (indices_named table (suc j));
    }
