-- A table that was read stands for the lists that are read from it, where its pads lie above the function's start and its lists stand one after the other.
use Rattle.std.proofs.Common.{◌≡◌, ◌<◌, ◌≤◌, ◌⊎◌, inl, inr, ℕ, ℤ, zero, suc, pos, negsuc, Bool, true, false, not, List, [], ◌∷◌, ◌++◌, map, refl, ap, sym, ◌∙◌, arith, subst, ◌+◌, ◌-◌, ◌==◌, if◌then◌else◌}
use Rattle.std.specs.Prelude.{Option, Some, None, Result, Ok, Err, find, filter, flat_map, slice_get, option_map, nat_lt, ◌&&◌, ◌||◌}
use Rattle.std.specs.List.{AllByRecursion, AllZip, position_or_len}
use Rattle.std.proofs.lemmas.Bool.{cond_both}
use Rattle.std.proofs.lemmas.Bool.Decides.{nat_tests}
use Rattle.std.proofs.lemmas.List.Folds.{find_at}
use Rattle.std.proofs.lemmas.Option.{slice_get-map, slice_get_within}
use Rattle.eh_bytes.specs.declared.frames.Region64.{Region64}
use Rattle.eh_bytes.specs.Listed.{ListedTable}
use Rattle.eh_bytes.specs.Memory.{Part, Memory, part_with}
use Rattle.table_forms.specs.declared.found.Site.{Site}
use Rattle.table_forms.specs.Fault.{Fault, ◌>>=◌, least, answer}
use Rattle.table_forms.specs.Keys.{add_key, keys, value_at}
use Rattle.table_forms.specs.LsdaHead.{Head, head_at}
use Rattle.table_forms.specs.LsdaSites.{SiteRecord, site_of, site_records}
use Rattle.table_forms.specs.Lsda.{Table, entries_named, entry_value, filters_of, table_faults, table_of, lsda_in, lsda_from, lsda}
use Rattle.table_forms.specs.WrittenTable.{list_size, list_from, ChainStands, SiteStands, TableStands}
use Rattle.table_forms.proofs.Kept.{IsIn, in_keys, value_in}
use Rattle.eh_write.specs.CanWrite.{ChainIsThere}
use Rattle.lsda_pack.specs.KeptTypes.{greatest}
use Rattle.lsda_pack.specs.ReadLists.{number_of, site_listed, values_from, lists_read, AreInRow}
use Rattle.lsda_pack.specs.Rule.{pads_count}
use Rattle.lsda_pack.proofs.TableVerdict.{IsPositive, positive_lists}
use Rattle.lsda_pack.proofs.TypesKept.{below_greatest}

-- what a site keeps to
pub record SiteIs (start : ℕ) (actions : List (ℕ × List ℤ)) (s : Site) : Type 0 where
  pub first : start ≤ s.start
  pub order : s.start ≤ s.end
  pub named : (s.action == 0) ≡ false → IsIn s.action (map (λ e. e.0) actions)

-- what a table keeps to that is read
pub record IsRead (start : ℕ) (t : Table) : Type 0 where
  pub sites : AllByRecursion (SiteIs start t.actions) t.sites
  pub types : AllByRecursion (λ e. IsPositive e.0 × (value_at 0 t.types e.0 ≡ e.1)) t.types

pub first_names : {A : Type 0} (f : ℕ → A) (ns : List ℕ) → map (λ (e : ℕ × A). e.0) (map (λ n. (n, f n)) ns) ≡ ns
first_names f [] = refl
first_names f (n ∷ ns) = ap (λ ms. n ∷ ms) (first_names f ns)

pub in_filter : (k : ℕ) (ns : List ℕ) → (k == 0) ≡ false → IsIn k ns → IsIn k (filter (λ a. not (a == 0)) ns)
in_filter k [] e is = is
in_filter k (n ∷ ns) e (inl at) = cond_both (not (n == 0)) (n ∷ filter (λ a. not (a == 0)) ns) (filter (λ a. not (a == 0)) ns) (IsIn k) (λ _. inl at)
    (λ f. absurd (let zero_is : not (k == 0) ≡ false = ap (λ m. not (m == 0)) (sym at) ∙ f in let way : true ≡ false = sym (ap not e) ∙ zero_is in cc))
in_filter k (n ∷ ns) e (inr is) = cond_both (not (n == 0)) (n ∷ filter (λ a. not (a == 0)) ns) (filter (λ a. not (a == 0)) ns) (IsIn k) (λ _. inr (in_filter k ns e is)) (λ _. in_filter k ns e is)

all_add : (P : ℕ → Type 0) (k : ℕ) (ns : List ℕ) → P k → AllByRecursion P ns → AllByRecursion P (add_key k ns)
all_add P k [] one holds = (one, tt)
all_add P k (n ∷ ns) one holds =
    cond_both (nat_lt k n) (k ∷ n ∷ ns) (if k == n then n ∷ ns else n ∷ add_key k ns) (AllByRecursion P) (λ _. (one, holds))
    (λ _. cond_both (k == n) (n ∷ ns) (n ∷ add_key k ns) (AllByRecursion P) (λ _. holds) (λ _. (holds.0, all_add P k ns one holds.1)))

all_keys : (P : ℕ → Type 0) (ns : List ℕ) → AllByRecursion P ns → AllByRecursion P (keys ns)
all_keys P [] holds = tt
all_keys P (n ∷ ns) holds = all_add P n (keys ns) holds.0 (all_keys P ns holds.1)

all_append : {X : Type 0} (P : X → Type 0) (xs ys : List X) → AllByRecursion P xs → AllByRecursion P ys → AllByRecursion P (xs ++ ys)
all_append P [] ys all more = more
all_append P (x ∷ xs) ys all more = (all.0, all_append P xs ys all.1 more)

positive_named : (fs : List ℤ) → AllByRecursion IsPositive (flat_map entries_named fs)
positive_named [] = tt
positive_named (pos zero ∷ fs) = positive_named fs
positive_named (pos (suc i) ∷ fs) = (omega arith, positive_named fs)
positive_named (negsuc n ∷ fs) = positive_named fs

all_kept : (f : ℕ → ℕ) (ns ks : List ℕ) → AllByRecursion IsPositive ks → ((k : ℕ) → IsIn k ks → IsIn k ns) →
    AllByRecursion (λ (e : ℕ × ℕ). IsPositive e.0 × (value_at 0 (map (λ n. (n, f n)) ns) e.0 ≡ e.1)) (map (λ n. (n, f n)) ks)
all_kept f ns [] over within = tt
all_kept f ns (k ∷ ks) over within = ((over.0, value_in 0 f k ns (within k (inl refl))), all_kept f ns ks over.1 (λ j is. within j (inr is)))

sites_are : (h : Head) (region : Region64) (fil : ℕ → List ℤ) (all : List ℕ) (rs : List SiteRecord) →
    ((k : ℕ) → IsIn k (map (λ s. s.action) (map (site_of h region) rs)) → (k == 0) ≡ false → IsIn k all) →
    AllByRecursion (SiteIs region.start (map (λ a. (a, fil a)) all)) (map (site_of h region) rs)
sites_are h region fil all [] within = tt
sites_are h region fil all (r ∷ rs) within = (
  record {
    first = omega arith;
    order = omega arith;
    named = λ e. subst (IsIn r.action) (sym (first_names fil all)) (within r.action (inl refl) e);
  },
  sites_are h region fil all rs (λ k is e. within k (inr is) e),
)

made_read : (memory : Memory) (part : Part) (region : Region64) (h : Head) → IsRead region.start (table_of memory part region h)
unfolding table_of
made_read memory part region h =
    let sites = map (site_of h region) (site_records part h).records in
    let names = filter (λ a. not (a == 0)) (map (λ s. s.action) sites) in
    let filters = flat_map (λ (a : ℕ × List ℤ). a.1) (map (λ a. (a, filters_of part h a)) (keys names)) in
    record {
      sites = sites_are h region (filters_of part h) (keys names) (site_records part h).records (λ k is e. in_keys k names (in_filter k (map (λ s. s.action) sites) e is));
      types = all_kept (entry_value memory part h h.types) _ _ (all_keys IsPositive _ (all_append IsPositive _ _ (positive_named filters) (positive_lists part h.types _))) (λ k is. is);
    }

pub is_read : (memory : Memory) (address : ℕ) (region : Region64) (t : Table) → lsda memory address region ≡ Ok t → IsRead region.start t
unfolding lsda lsda_in
is_read memory address region t read = by_part (part_with memory address) read
  where
    same : (x y : Table) (r : Result Table Fault) → Ok x ≡ r → r ≡ Ok y → x ≡ y
    same x y r e f = cc

    by_fault : (part : Part) (h : Head) (o : Option Fault) → answer o (table_of memory part region h) ≡ Ok t → IsRead region.start t
    by_fault part h None e = subst (IsRead region.start) (same (table_of memory part region h) t (answer None (table_of memory part region h)) refl e) (made_read memory part region h)
    by_fault part h (Some f) e = absurd cc

    by_head : (part : Part) (r : Result Head Fault) → (r >>= λ h. answer (least (table_faults memory part region h)) (table_of memory part region h)) ≡ Ok t → IsRead region.start t
    by_head part (Err f) e = absurd cc
    by_head part (Ok h) e = by_fault part h (least (table_faults memory part region h)) e

    by_part : (o : Option Part) → lsda_from memory address region o ≡ Ok t → IsRead region.start t
    by_part None e = absurd cc
    by_part (Some part) e = by_head part (head_at part region (address - part.address)) e

-- the chain of an action that is named
pub chain_there : (a : ℕ) (es : List (ℕ × List ℤ)) → IsIn a (map (λ e. e.0) es) → option_map (λ (e : ℕ × List ℤ). e.1) (find (λ e. e.0 == a) es) ≡ Some (value_at [] es a)
chain_there a [] is = absurd is
chain_there a ((n, fs) ∷ es) is = step (n == a) refl is (λ r. chain_there a es r)
  where
    step : (b : Bool) → (n == a) ≡ b → (n ≡ a) ⊎ IsIn a (map (λ e. e.0) es) →
        (IsIn a (map (λ e. e.0) es) → option_map (λ (e : ℕ × List ℤ). e.1) (find (λ e. e.0 == a) es) ≡ Some (value_at [] es a)) →
        option_map (λ (e : ℕ × List ℤ). e.1) (if b then Some (n, fs) else find (λ e. e.0 == a) es) ≡ Some (if b then fs else value_at [] es a)
    step true e is' more = refl
    step false e (inl at) more = absurd (grind (arith, nat_tests, e, at))
    step false e (inr r) more = more r

chain_stands : (list : ListedTable) (t : Table) (a : ℕ) → list.chains ≡ map (λ (e : ℕ × List ℤ). e.1) t.actions → ((a == 0) ≡ false → IsIn a (map (λ e. e.0) t.actions)) →
    ChainStands list t (number_of t.actions a) a
chain_stands list t a chains named = step (a == 0) refl
  where
    step : (b : Bool) → (a == 0) ≡ b → ChainStands list t (if b then None else Some (position_or_len (λ e. e.0 == a) t.actions)) a
    step true e = grind (arith, nat_tests, e)
    step false e =
        let k = position_or_len (λ (e : ℕ × List ℤ). e.0 == a) t.actions in (
          (λ at. absurd (grind (arith, nat_tests, e, at))),
          ap (λ cs. slice_get cs k) chains ∙ slice_get-map (λ (e : ℕ × List ℤ). e.1) t.actions k ∙
              ap (option_map (λ (e : ℕ × List ℤ). e.1)) (sym (find_at (λ (e : ℕ × List ℤ). e.0 == a) t.actions)) ∙ chain_there a t.actions (named e),
        )

pad_stands : (start pad : ℕ) → (pad == 0 || nat_lt start pad) ≡ true → pad ≡ (if (if pad == 0 then 0 else pad - start) == 0 then 0 else start + (if pad == 0 then 0 else pad - start))
pad_stands start pad counts = step (pad == 0) refl counts
  where
    over : (b : Bool) → (pad - start == 0) ≡ b → start < pad → pad ≡ (if b then 0 else start + (pad - start))
    over true e low = absurd (grind (arith, nat_tests, e, low))
    over false e low = omega (arith, low)

    step : (b : Bool) → (pad == 0) ≡ b → (b || nat_lt start pad) ≡ true → pad ≡ (if (if b then 0 else pad - start) == 0 then 0 else start + (if b then 0 else pad - start))
    step true e c = grind (arith, nat_tests, e)
    step false e c = over (pad - start == 0) refl (grind (arith, nat_tests, c))

sites_stand : (list : ListedTable) (region : Region64) (t : Table) → list.chains ≡ map (λ (e : ℕ × List ℤ). e.1) t.actions → (ss : List Site) →
    AllByRecursion (SiteIs region.start t.actions) ss → pads_count region.start ss ≡ true → AllZip (SiteStands list region t) (map (site_listed region.start t.actions) ss) ss
sites_stand list region t chains [] all counts = tt
sites_stand list region t chains (s ∷ ss) all counts = step (s.pad == 0 || nat_lt region.start s.pad) refl counts (λ c. sites_stand list region t chains ss all.1 c)
  where
    step : (b : Bool) → (s.pad == 0 || nat_lt region.start s.pad) ≡ b → (b && pads_count region.start ss) ≡ true →
        (pads_count region.start ss ≡ true → AllZip (SiteStands list region t) (map (site_listed region.start t.actions) ss) ss) →
        AllZip (SiteStands list region t) (map (site_listed region.start t.actions) (s ∷ ss)) (s ∷ ss)
    step true e c more =
        let one = all.0 in
        let low = one.first in
        let up = one.order in (
          record { start = omega (arith, low); end = omega (arith, low, up); pad = pad_stands region.start s.pad e; chain = chain_stands list t s.action chains one.named },
          more c,
        )
    step false e c more = cc

values_found : (types : List (ℕ × ℕ)) (n i k : ℕ) → k < n → slice_get (values_from n i types) k ≡ Some (value_at 0 types (i + k))
values_found types zero i k inside = absurd (omega (arith, inside))
values_found types (suc n) i zero inside = let at : i + 0 ≡ i = omega arith in ap (λ (j : ℕ). Some (value_at 0 types j)) (sym at)
values_found types (suc n) i (suc k) inside =
    let at : i + 1 + k ≡ i + suc k = omega arith in values_found types n (i + 1) k (omega (arith, inside)) ∙ ap (λ (j : ℕ). Some (value_at 0 types j)) at

types_stand : (types : List (ℕ × ℕ)) (n : ℕ) (es : List (ℕ × ℕ)) → AllByRecursion (λ e. IsPositive e.0 × (value_at 0 types e.0 ≡ e.1)) es →
    AllByRecursion (λ e. e.0 ≤ n) es → AllByRecursion (λ e. slice_get (values_from n 1 types) (e.0 - 1) ≡ Some e.1) es
types_stand types n [] all low = tt
types_stand types n (e ∷ es) all low =
    let over = all.0.0 in
    let under = low.0 in
    let at : 1 + (e.0 - 1) ≡ e.0 = omega (arith, over) in (
      values_found types n 1 (e.0 - 1) (omega (arith, over, under)) ∙ ap (λ (j : ℕ). Some (value_at 0 types j)) at ∙ ap (λ (v : ℕ). Some v) all.0.1,
      types_stand types n es all.1 low.1,
    )

below_all : (n : ℕ) (es : List (ℕ × ℕ)) → ((k : ℕ) → IsIn k (map (λ e. e.0) es) → k ≤ n) → AllByRecursion (λ e. e.0 ≤ n) es
below_all n [] low = tt
below_all n (e ∷ es) low = (low e.0 (inl refl), below_all n es (λ k is. low k (inr is)))

below_found : (ns : List ℕ) (k : ℕ) → IsIn k ns → k ≤ greatest ns
unfolding greatest
below_found ns k is = below_greatest k ns 0 is

rows_stand : (n : ℕ) (ls : List (ℕ × List ℕ)) → AreInRow n ls → AllByRecursion (λ e. (n < e.0) × (list_from (map (λ x. x.1) ls) (e.0 - 1 - n) ≡ Some e.1)) ls
rows_stand n [] row = tt
rows_stand n ((j, l) ∷ ls) row =
    let at = row.0 in
    let zero_is : j - 1 - n ≡ 0 = omega (arith, at) in
    ((omega (arith, at), ap (list_from (l ∷ map (λ x. x.1) ls)) zero_is), later ls (rows_stand (n + list_size l) ls row.1))
  where
    behind : (k : ℕ) (v : List ℕ) → n + list_size l < k → list_from (map (λ x. x.1) ls) (k - 1 - (n + list_size l)) ≡ Some v → list_from (l ∷ map (λ x. x.1) ls) (k - 1 - n) ≡ Some v
    behind k v over found = step (k - 1 - n == 0) (nat_lt (k - 1 - n) (list_size l)) refl refl
      where
        step : (b c : Bool) → (k - 1 - n == 0) ≡ b → nat_lt (k - 1 - n) (list_size l) ≡ c →
            (if b then Some l else (if c then None else list_from (map (λ x. x.1) ls) (k - 1 - n - list_size l))) ≡ Some v
        step true c e f = absurd (grind (arith, nat_tests, e, over))
        step false true e f = absurd (grind (arith, nat_tests, f, over))
        step false false e f = let same : k - 1 - n - list_size l ≡ k - 1 - (n + list_size l) = omega arith in ap (list_from (map (λ x. x.1) ls)) same ∙ found

    later : (es : List (ℕ × List ℕ)) → AllByRecursion (λ e. (n + list_size l < e.0) × (list_from (map (λ x. x.1) ls) (e.0 - 1 - (n + list_size l)) ≡ Some e.1)) es →
        AllByRecursion (λ e. (n < e.0) × (list_from (l ∷ map (λ x. x.1) ls) (e.0 - 1 - n) ≡ Some e.1)) es
    later [] all = tt
    later (e ∷ es) all = let over = all.0.0 in ((omega (arith, over), behind e.0 e.1 over all.0.1), later es all.1)

lists_found : (ls : List (ℕ × List ℕ)) (es : List (ℕ × List ℕ)) → AllByRecursion (λ e. (0 < e.0) × (list_from (map (λ x. x.1) ls) (e.0 - 1 - 0) ≡ Some e.1)) es →
    AllByRecursion (λ e. list_from (map (λ x. x.1) ls) (e.0 - 1) ≡ Some e.1) es
lists_found ls [] all = tt
lists_found ls (e ∷ es) all = let same : e.0 - 1 - 0 ≡ e.0 - 1 = omega arith in (ap (list_from (map (λ x. x.1) ls)) (sym same) ∙ all.0.1, lists_found ls es all.1)

-- it stands for them
pub reads_its_lists : (memory : Memory) (address : ℕ) (region : Region64) (t : Table) → lsda memory address region ≡ Ok t → pads_count region.start t.sites ≡ true → AreInRow 0 t.lists →
    TableStands (lists_read region.start t) region t
unfolding lists_read
reads_its_lists memory address region t read counts row =
    let is = is_read memory address region t read in
    let names = map (λ (e : ℕ × ℕ). e.0) t.types in
    record {
      sites = sites_stand (lists_read region.start t) region t refl t.sites is.sites counts;
      types = types_stand t.types (greatest names) t.types is.types (below_all (greatest names) t.types (λ k at. below_found names k at));
      lists = lists_found t.lists t.lists (rows_stand 0 t.lists row);
    }

-- the chain of each site is there
number_there : (chains : List (List ℤ)) (es : List (ℕ × List ℤ)) (a : ℕ) → chains ≡ map (λ (e : ℕ × List ℤ). e.1) es → ((a == 0) ≡ false → IsIn a (map (λ e. e.0) es)) → (list : ListedTable) →
    list.chains ≡ chains → ChainIsThere list (number_of es a)
number_there chains es a is named list same = step (a == 0) refl
  where
    step : (b : Bool) → (a == 0) ≡ b → ChainIsThere list (if b then None else Some (position_or_len (λ e. e.0 == a) es))
    step true e = tt
    step false e =
        let k = position_or_len (λ (e : ℕ × List ℤ). e.0 == a) es in
        slice_get_within list.chains k (value_at [] es a)
        (ap (λ cs. slice_get cs k) (same ∙ is) ∙ slice_get-map (λ (e : ℕ × List ℤ). e.1) es k ∙
        ap (option_map (λ (e : ℕ × List ℤ). e.1)) (sym (find_at (λ (e : ℕ × List ℤ). e.0 == a) es)) ∙ chain_there a es (named e))

sites_there : (list : ListedTable) (start : ℕ) (es : List (ℕ × List ℤ)) → list.chains ≡ map (λ (e : ℕ × List ℤ). e.1) es → (ss : List Site) → AllByRecursion (SiteIs start es) ss →
    AllByRecursion (λ s. ChainIsThere list s.chain) (map (site_listed start es) ss)
sites_there list start es is [] all = tt
sites_there list start es is (s ∷ ss) all = (number_there list.chains es s.action is all.0.named list refl, sites_there list start es is ss all.1)

pub chains_there : (memory : Memory) (address : ℕ) (region : Region64) (t : Table) → lsda memory address region ≡ Ok t →
    AllByRecursion (λ s. ChainIsThere (lists_read region.start t) s.chain) (lists_read region.start t).sites
unfolding lists_read
chains_there memory address region t read = sites_there (lists_read region.start t) region.start t.actions refl t.sites (is_read memory address region t read).sites
