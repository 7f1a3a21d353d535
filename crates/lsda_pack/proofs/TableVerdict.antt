-- A table that stands for lists decides as the lists do.
use Rattle.std.proofs.Common.{◌≡◌, ◌<◌, ℕ, ℤ, zero, suc, pos, negsuc, Bool, true, false, List, [], ◌∷◌, ◌++◌, refl, ap, sym, ◌∙◌, arith, subst, ◌+◌, ◌-◌, ◌==◌, not, map, if◌then◌else◌}
use Rattle.std.specs.Prelude.{Option, Some, None, Result, Ok, Err, Contains, find, flat_map, slice_get, unwrap_or, nat_le, nat_lt, ⊤, ◌&&◌, ◌||◌}
use Rattle.std.specs.List.{AllByRecursion, AllZip, list_any}
use Rattle.std.proofs.lemmas.Bool.Decides.{nat_tests}
use Rattle.eh_bytes.specs.declared.frames.Region64.{Region64}
use Rattle.eh_bytes.specs.declared.table.ListSite.{ListSite}
use Rattle.eh_bytes.specs.Listed.{ListedTable}
use Rattle.eh_bytes.specs.Memory.{Part, Memory, part_with}
use Rattle.table_forms.specs.declared.found.Site.{Site}
use Rattle.table_forms.specs.declared.found.Verdict.{Verdict}
use Rattle.table_forms.specs.declared.found.Verdict.TheVariants.{Nothing}
use Rattle.table_forms.specs.Fault.{Fault, ◌>>=◌, least, answer}
use Rattle.table_forms.specs.Keys.{value_at}
use Rattle.table_forms.specs.LsdaHead.{Head, Types, head_at}
use Rattle.table_forms.specs.LsdaTypes.{Indices, indices_from, indices_within, index_at}
use Rattle.table_forms.specs.Lsda.{Table, list_value, table_faults, table_of, lsda_in, lsda_from, lsda}
use Rattle.table_forms.specs.Verdict.{Thrown, native, foreign, forced, look_up_place, matches, stops, decided, filters_at, verdict_at, site_at, verdict}
use Rattle.table_forms.specs.WrittenTable.{list_from, ChainStands, SiteStands, TableStands}
use Rattle.lsda_read.specs.Names.{types_named}
use Rattle.personality.specs.Named.{FilterIsNamed}
use Rattle.personality.proofs.Members.{all_kept}
use Rattle.personality.proofs.NamedBy.{filters_named, indices_named}
use Rattle.lsda_pack.specs.ListedVerdict.{by_index, names_of, filters_of, verdict_of, site_for, listed_verdict}
use Rattle.lsda_pack.proofs.Looked.{Looked, looked}
use Rattle.lsda_pack.proofs.TypesKept.{list_found}

-- a type is found under its index
pub type_found : (ts : List ℕ) (m i : ℕ) → value_at 0 (by_index m ts) (m + i) ≡ unwrap_or (slice_get ts i) 0
type_found [] m i = refl
type_found (t ∷ ts) m zero = step (m == m + 0) refl
  where
    step : (b : Bool) → (m == m + 0) ≡ b → (if b then t else value_at 0 (by_index (m + 1) ts) (m + 0)) ≡ t
    step true e = refl
    step false e = absurd (grind (arith, nat_tests, e))
type_found (t ∷ ts) m (suc i) = step (m == m + suc i) refl (type_found ts (m + 1) i)
  where
    step : (b : Bool) → (m == m + suc i) ≡ b → value_at 0 (by_index (m + 1) ts) (m + 1 + i) ≡ unwrap_or (slice_get ts i) 0 →
        (if b then t else value_at 0 (by_index (m + 1) ts) (m + suc i)) ≡ unwrap_or (slice_get ts i) 0
    step true e rest = absurd (grind (arith, nat_tests, e))
    step false e rest = let at : m + suc i ≡ m + 1 + i = omega arith in ap (value_at 0 (by_index (m + 1) ts)) at ∙ rest

-- the indices of a list are not 0
abbrev pub IsPositive : ℕ → Type 0
IsPositive i = 0 < i

positive_from : (part : Part) (first : ℕ) (r : Result (ℕ × ℕ) Fault) (more : ℕ → Indices) → ((p : ℕ) → AllByRecursion IsPositive (more p).indices) →
    AllByRecursion IsPositive (indices_from r more).indices
positive_from part first (Err f) more all = tt
positive_from part first (Ok (zero, next)) more all = tt
positive_from part first (Ok (suc k, next)) more all = (omega arith, all next)

positive_within : (n : ℕ) (part : Part) (first p : ℕ) → AllByRecursion IsPositive (indices_within n part first p).indices
unfolding indices_within
positive_within zero part first p = tt
positive_within (suc n) part first p = positive_from part first (index_at part first p) (indices_within n part first) (λ q. positive_within n part first q)

pub positive_list : (part : Part) (types : Option Types) (j : ℕ) → AllByRecursion IsPositive (list_value part types j)
positive_list part None j = tt
positive_list part (Some types) j = positive_within _ part _ _

all_append : {X : Type 0} (P : X → Type 0) (xs ys : List X) → AllByRecursion P xs → AllByRecursion P ys → AllByRecursion P (xs ++ ys)
all_append P [] ys all more = more
all_append P (x ∷ xs) ys all more = (all.0, all_append P xs ys all.1 more)

pub positive_lists : (part : Part) (types : Option Types) (js : List ℕ) → AllByRecursion IsPositive (flat_map (λ (e : ℕ × List ℕ). e.1) (map (λ j. (j, list_value part types j)) js))
positive_lists part types [] = tt
positive_lists part types (j ∷ js) =
    all_append IsPositive (list_value part types j) (flat_map (λ (e : ℕ × List ℕ). e.1) (map (λ k. (k, list_value part types k)) js)) (positive_list part types j) (positive_lists part types js)

abbrev pub HasPositive : Table → Type 0
HasPositive t = AllByRecursion IsPositive (flat_map (λ (e : ℕ × List ℕ). e.1) t.lists)

made_positive : (memory : Memory) (part : Part) (region : Region64) (h : Head) → HasPositive (table_of memory part region h)
unfolding table_of
made_positive memory part region h = positive_lists part h.types _

read_positive : (memory : Memory) (address : ℕ) (region : Region64) (t : Table) → lsda memory address region ≡ Ok t → HasPositive t
unfolding lsda lsda_in
read_positive memory address region t read = by_part (part_with memory address) read
  where
    same : (x y : Table) (r : Result Table Fault) → Ok x ≡ r → r ≡ Ok y → x ≡ y
    same x y r e f = cc

    by_fault : (part : Part) (h : Head) (o : Option Fault) → answer o (table_of memory part region h) ≡ Ok t → HasPositive t
    by_fault part h None e = subst HasPositive (same (table_of memory part region h) t (answer None (table_of memory part region h)) refl e) (made_positive memory part region h)
    by_fault part h (Some f) e = absurd cc

    by_head : (part : Part) (r : Result Head Fault) → (r >>= λ h. answer (least (table_faults memory part region h)) (table_of memory part region h)) ≡ Ok t → HasPositive t
    by_head part (Err f) e = absurd cc
    by_head part (Ok h) e = by_fault part h (least (table_faults memory part region h)) e

    by_part : (o : Option Part) → lsda_from memory address region o ≡ Ok t → HasPositive t
    by_part None e = absurd cc
    by_part (Some part) e = by_head part (head_at part region (address - part.address)) e

-- an index names one type in the table and in the lists
abbrev pub HasType : Table → ListedTable → ℕ → Type 0
HasType t list i = value_at 0 t.types i ≡ value_at 0 (by_index 1 list.types) i

type_same : (t : Table) (list : ListedTable) → Looked list t → (i : ℕ) → 0 < i → Contains (types_named t) i → HasType t list i
type_same t list there zero over named = absurd (omega (arith, over))
type_same t list there (suc i) over named =
    let at : suc i ≡ 1 + i = omega arith in
    let less : suc i - 1 ≡ i = omega arith in
    let stands : slice_get list.types i ≡ Some (value_at 0 t.types (suc i)) = sym (ap (slice_get list.types) less) ∙ there.type_there (suc i) named in
    sym (ap (value_at 0 (by_index 1 list.types)) at ∙ type_found list.types 1 i ∙ ap (λ o. unwrap_or o 0) stands)

any_same : (t : Table) (list : ListedTable) (thrown : Thrown) (is : List ℕ) → AllByRecursion (HasType t list) is →
    list_any (λ i. matches thrown (value_at 0 t.types i)) is ≡ list_any (λ i. matches thrown (value_at 0 (by_index 1 list.types) i)) is
any_same t list thrown [] all = refl
any_same t list thrown (i ∷ is) all =
    rw all.0 (ap (λ b. matches thrown (value_at 0 (by_index 1 list.types) i) || b) (any_same t list thrown is all.1))

both_hold : (P Q R : ℕ → Type 0) → ((n : ℕ) → P n → Q n → R n) → (ns : List ℕ) → AllByRecursion P ns → AllByRecursion Q ns → AllByRecursion R ns
both_hold P Q R f [] p q = tt
both_hold P Q R f (n ∷ ns) p q = (f n p.0 q.0, both_hold P Q R f ns p.1 q.1)

stops_alike : (t : Table) (list : ListedTable) → Looked list t → HasPositive t → (thrown : Thrown) (f : ℤ) → FilterIsNamed t f →
    stops t thrown f ≡ stops (names_of list.types list.lists) thrown f
stops_alike t list there positive forced f named = refl
stops_alike t list there positive foreign (pos zero) named = refl
stops_alike t list there positive (native types) (pos zero) named = refl
stops_alike t list there positive foreign (pos (suc i)) named = ap (λ v. matches foreign v) (type_same t list there (suc i) (omega arith) named)
stops_alike t list there positive (native types) (pos (suc i)) named = ap (λ v. matches (native types) v) (type_same t list there (suc i) (omega arith) named)
stops_alike t list there positive foreign (negsuc n) named = refl
stops_alike t list there positive (native types) (negsuc n) named =
    let less : suc n - 1 ≡ n = omega arith in
    let at : suc n ≡ 1 + n = omega arith in
    let stands : list_from list.lists n ≡ Some (value_at [] t.lists (suc n)) = sym (ap (list_from list.lists) less) ∙ there.list_there (suc n) named in
    let one : value_at [] (names_of list.types list.lists).lists (suc n) ≡ value_at [] t.lists (suc n) =
    ap (value_at [] (names_of list.types list.lists).lists) at ∙ list_found list.lists 1 n ∙ ap (λ o. unwrap_or o []) stands in
    let is = value_at [] t.lists (suc n) in
    let all = both_hold IsPositive (Contains (types_named t)) (HasType t list) (λ i over within. type_same t list there i over within) is
    (all_kept IsPositive t.lists (suc n) positive) (indices_named t (suc n)) in
    ap not (any_same t list (native types) is all) ∙
    ap (λ xs. not (list_any (λ i. matches (native types) (value_at 0 (by_index 1 list.types) i)) xs)) (sym one)

found_alike : (t : Table) (list : ListedTable) → Looked list t → HasPositive t → (thrown : Thrown) (fs : List ℤ) → AllByRecursion (FilterIsNamed t) fs →
    find (stops t thrown) fs ≡ find (stops (names_of list.types list.lists) thrown) fs
found_alike t list there positive thrown [] named = refl
found_alike t list there positive thrown (f ∷ fs) named =
    rw (stops_alike t list there positive thrown f named.0)
    (ap (λ (o : Option ℤ). if stops (names_of list.types list.lists) thrown f then Some f else o) (found_alike t list there positive thrown fs named.1))

-- the filters of a site are those of its chain, and named
filters_alike : (t : Table) (list : ListedTable) (o : Option ℕ) (a : ℕ) → ChainStands list t o a →
    (filters_at t a ≡ filters_of list.chains o) × AllByRecursion (FilterIsNamed t) (filters_at t a)
filters_alike t list None a is = (ap (filters_at t) is, subst (λ n. AllByRecursion (FilterIsNamed t) (filters_at t n)) (sym is) (tt, tt))
filters_alike t list (Some c) a is = step (a == 0) refl
  where
    step : (b : Bool) → (a == 0) ≡ b →
        ((if b then pos 0 ∷ [] else value_at [] t.actions a) ≡ filters_of list.chains (Some c)) × AllByRecursion (FilterIsNamed t) (if b then pos 0 ∷ [] else value_at [] t.actions a)
    step true e = absurd (is.0 (grind (arith, nat_tests, e)))
    step false e = (sym (ap (λ o. unwrap_or o []) is.1), filters_named t a)

-- one site or none, in both
abbrev pub FoundBoth : ListedTable → Region64 → Table → Option ListSite → Option Site → Type 0
FoundBoth list region t (Some w) (Some s) = SiteStands list region t w s
FoundBoth list region t None None = ⊤
FoundBoth list region t _ _ = ⊥

found_both : (list : ListedTable) (region : Region64) (t : Table) (place : ℕ) (ws : List ListSite) (ss : List Site) → AllZip (SiteStands list region t) ws ss →
    FoundBoth list region t (site_for region.start place ws) (find (λ s. nat_le s.start place && nat_lt place s.end) ss)
found_both list region t place [] [] all = tt
found_both list region t place [] (s ∷ ss) all = absurd all
found_both list region t place (w ∷ ws) [] all = absurd all
found_both list region t place (w ∷ ws) (s ∷ ss) all =
    let stands = all.0 in
    let test : (nat_le s.start place && nat_lt place s.end) ≡ (nat_le (region.start + w.start) place && nat_lt place (region.start + w.start + w.length)) =
    ap (λ x. nat_le x place && nat_lt place s.end) stands.start ∙ ap (λ x. nat_le (region.start + w.start) place && nat_lt place x) stands.end in
    rw test (step (nat_le (region.start + w.start) place && nat_lt place (region.start + w.start + w.length)) (found_both list region t place ws ss all.1))
  where
    step : (b : Bool) → FoundBoth list region t (site_for region.start place ws) (find (λ x. nat_le x.start place && nat_lt place x.end) ss) →
        FoundBoth list region t (if b then Some w else site_for region.start place ws) (if b then Some s else find (λ x. nat_le x.start place && nat_lt place x.end) ss)
    step true rest = all.0
    step false rest = rest

site_alike : (t : Table) (list : ListedTable) (region : Region64) → Looked list t → HasPositive t → (thrown : Thrown) (w : ListSite) (s : Site) → SiteStands list region t w s →
    verdict_at t thrown (Some s) ≡ verdict_of list region.start thrown (Some w)
site_alike t list region there positive thrown w s stands = step (w.pad == 0) refl stands.pad
  where
    filters : (filters_at t s.action ≡ filters_of list.chains w.chain) × AllByRecursion (FilterIsNamed t) (filters_at t s.action)
    filters = filters_alike t list w.chain s.action stands.chain

    decides : List ℤ → Option ℤ → Verdict
    decides = λ fs o. decided thrown (region.start + w.pad) fs o

    with_pad : (b c : Bool) → (s.pad == 0) ≡ c → (w.pad == 0) ≡ b → s.pad ≡ region.start + w.pad → b ≡ false →
        (if c then Nothing else decided thrown s.pad (filters_at t s.action) (find (stops t thrown) (filters_at t s.action))) ≡
        decided thrown (region.start + w.pad) (filters_of list.chains w.chain) (find (stops (names_of list.types list.lists) thrown) (filters_of list.chains w.chain))
    with_pad b true e f at differs = absurd (grind (arith, nat_tests, e, f, at, differs))
    with_pad b false e f at differs =
        ap (λ p. decided thrown p (filters_at t s.action) (find (stops t thrown) (filters_at t s.action))) at ∙
        ap (λ o. decided thrown (region.start + w.pad) (filters_at t s.action) o) (found_alike t list there positive thrown (filters_at t s.action) filters.1) ∙
        ap (λ fs. decided thrown (region.start + w.pad) fs (find (stops (names_of list.types list.lists) thrown) fs)) filters.0

    step : (b : Bool) → (w.pad == 0) ≡ b → s.pad ≡ (if b then 0 else region.start + w.pad) →
        (if s.pad == 0 then Nothing else decided thrown s.pad (filters_at t s.action) (find (stops t thrown) (filters_at t s.action))) ≡
        (if b then Nothing else decided thrown (region.start + w.pad) (filters_of list.chains w.chain) (find (stops (names_of list.types list.lists) thrown) (filters_of list.chains w.chain)))
    step true e at = rw at refl
    step false e at = with_pad false (s.pad == 0) refl e at refl

-- at each look-up place, and for whatever is thrown
pub verdict_listed : (memory : Memory) (address : ℕ) (region : Region64) (list : ListedTable) (t : Table) → lsda memory address region ≡ Ok t → TableStands list region t →
    (ip : ℕ) (signal : Bool) (thrown : Thrown) → verdict (Some t) ip signal thrown ≡ listed_verdict list region.start (look_up_place ip signal) thrown
unfolding verdict listed_verdict
verdict_listed memory address region list t read stands ip signal thrown =
    step (site_for region.start (look_up_place ip signal) list.sites) (site_at t (look_up_place ip signal))
    (found_both list region t (look_up_place ip signal) list.sites t.sites stands.sites)
  where
    step : (w : Option ListSite) (s : Option Site) → FoundBoth list region t w s → verdict_at t thrown s ≡ verdict_of list region.start thrown w
    step None None found = refl
    step None (Some s) found = absurd found
    step (Some w) None found = absurd found
    step (Some w) (Some s) found =
        site_alike t list region (looked memory address region list t read stands) (read_positive memory address region t read) thrown w s found
