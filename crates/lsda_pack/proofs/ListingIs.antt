-- The lists by the numbers that a table names are the lists of what was read.
use Rattle.std.proofs.Common.{◌≡◌, ◌+◌, ◌-◌, ◌==◌, ℕ, ℤ, zero, suc, Bool, true, false, nat_lt, List, [], ◌∷◌, map, Option, Some, None, refl, ap, sym, ◌∙◌, arith, if◌then◌else◌}
use Rattle.std.specs.Prelude.{◌||◌, not, unwrap_or}
use Rattle.std.specs.BTreeMap.{is_at}
use Rattle.std.specs.Ordering.{nat_cmp}
use Rattle.std.specs.List.{position_or_len, list_any}
use Rattle.eh_bytes.specs.declared.table.ListSite.{ListSite}
use Rattle.eh_bytes.specs.Listed.{ListedTable}
use Rattle.table_forms.specs.declared.found.Site.{Site}
use Rattle.table_forms.specs.Keys.{keys, value_at}
use Rattle.table_forms.specs.Lsda.{Table}
use Rattle.lsda_read.specs.Names.{actions_named, types_named, lists_named}
use Rattle.lsda_pack.specs.KeptTypes.{is_among, greatest}
use Rattle.lsda_pack.specs.ReadLists.{number_of, site_listed, values_from, lists_read}
use Rattle.lsda_read.specs.WholeTable.{filters_at, value_of, indices_at, IsWhole}
use Rattle.lsda_pack.specs.Listing.{AreValues, number_among, listed_with, named_value, named_values}
use Rattle.lsda_pack.proofs.MapKeys.{at_key}

abbrev pairs : {A : Type 0} → (ℕ → A) → List ℕ → List (ℕ × A)
pairs {A} f ks = map {B = ℕ × A} (λ k. (k, f k)) ks

firsts : {A : Type 0} (f : ℕ → A) (ks : List ℕ) → map (λ (x : ℕ × A). x.0) (pairs f ks) ≡ ks
firsts f [] = refl
firsts f (k ∷ ks) = ap (λ xs. k ∷ xs) (firsts f ks)

seconds : {A : Type 0} (f : ℕ → A) (ks : List ℕ) → map (λ (x : ℕ × A). x.1) (pairs f ks) ≡ map f ks
seconds f [] = refl
seconds f (k ∷ ks) = ap (λ xs. f k ∷ xs) (seconds f ks)

-- the place among the numbers is the place among the pairs
placed : (f : ℕ → List ℤ) (a : ℕ) (ks : List ℕ) → position_or_len (λ k. k == a) ks ≡ position_or_len (λ (x : ℕ × List ℤ). x.0 == a) (pairs f ks)
placed f a [] = refl
placed f a (k ∷ ks) = ap (λ n. if not (k == a) then 1 + n else 0) (placed f a ks)

numbered : (f : ℕ → List ℤ) (a : ℕ) (ks : List ℕ) → number_among ks a ≡ number_of (pairs f ks) a
numbered f a ks = ap (λ n. if a == 0 then None else Some n) (placed f a ks)

sited : (f : ℕ → List ℤ) (start : ℕ) (ks : List ℕ) (s : Site) → listed_with start ks s ≡ site_listed start (pairs f ks) s
sited f start ks s =
    let with : Option ℕ → ListSite = λ c. record { start = s.start - start; length = s.end - s.start; pad = (if s.pad == 0 then 0 else s.pad - start); chain = c } in
    ap with (numbered f s.action ks)

all_sited : (f : ℕ → List ℤ) (start : ℕ) (ks : List ℕ) (ss : List Site) → map (listed_with start ks) ss ≡ map (site_listed start (pairs f ks)) ss
all_sited f start ks [] = refl
all_sited f start ks (s ∷ ss) =
    ap (λ x. x ∷ map (listed_with start ks) ss) (sited f start ks s) ∙ ap (λ xs. site_listed start (pairs f ks) s ∷ xs) (all_sited f start ks ss)

-- the value of an index
same_key : (a b : ℕ) → (a == b) ≡ true → a ≡ b
same_key a b e = grind (arith, e)

valued : (f : ℕ → ℕ) (i : ℕ) (ks : List ℕ) → (if is_among ks i then f i else 0) ≡ value_at 0 (pairs f ks) i
valued f i [] = refl
valued f i (k ∷ ks) = by (k == i) refl (valued f i ks)
  where
    by : (b : Bool) → (k == i) ≡ b → (if is_among ks i then f i else 0) ≡ value_at 0 (pairs f ks) i →
        (if list_any (λ n. n == i) (k ∷ ks) then f i else 0) ≡ value_at 0 (pairs f (k ∷ ks)) i
    by true e more = grind (arith, e, same_key k i e)
    by false e more = grind (arith, e, more)

all_valued : (t : Table) (is : List ℕ) (n i : ℕ) → named_values n i is t ≡ values_from n i (pairs (value_of t) is)
all_valued t is zero i = refl
all_valued t is (suc n) i =
    ap (λ x. x ∷ named_values n (i + 1) is t) (valued (value_of t) i is) ∙
    ap (λ xs. value_at 0 (pairs (value_of t) is) i ∷ xs) (all_valued t is n (i + 1))

abbrev with : List ListSite → List (List ℤ) → List ℕ → List (List ℕ) → ListedTable
with sites chains types lists = record { sites = sites; chains = chains; types = types; lists = lists }

pub lists_are : (start : ℕ) (t : Table) (acts : List (ℕ × List ℤ)) (ks : List ℕ) (tys : List (ℕ × ℕ)) (is : List ℕ) (ls : List (ℕ × List ℕ)) (js : List ℕ) →
    acts ≡ pairs (filters_at t) ks → tys ≡ pairs (value_of t) is → ls ≡ pairs (indices_at t) js →
    with (map (listed_with start ks) t.sites) (map (filters_at t) ks) (named_values (greatest is) 1 is t) (map (indices_at t) js) ≡
    with (map (site_listed start acts) t.sites) (map (λ a. a.1) acts) (values_from (greatest (map (λ x. x.0) tys)) 1 tys) (map (λ l. l.1) ls)
lists_are start t acts ks tys is ls js ea et el =
    let sites = all_sited (filters_at t) start ks t.sites ∙ ap (λ xs. map (site_listed start xs) t.sites) (sym ea) in
    let chains = sym (seconds (filters_at t) ks) ∙ ap (map (λ (a : ℕ × List ℤ). a.1)) (sym ea) in
    let last = ap greatest (sym (firsts (value_of t) is)) in
    let types = all_valued t is (greatest is) 1 ∙ ap (λ n. values_from n 1 (pairs (value_of t) is)) last ∙
    ap (λ ts. values_from (greatest (map (λ (x : ℕ × ℕ). x.0) ts)) 1 ts) (sym et) in
    let lists = sym (seconds (indices_at t) js) ∙ ap (map (λ (l : ℕ × List ℕ). l.1)) (sym el) in
    cc

pub listing_is : (start : ℕ) (t : Table) → IsWhole t →
    with (map (listed_with start (keys (actions_named t))) t.sites) (map (filters_at t) (keys (actions_named t)))
    (named_values (greatest (keys (types_named t))) 1 (keys (types_named t)) t) (map (indices_at t) (keys (lists_named t))) ≡ lists_read start t
unfolding lists_read
listing_is start t w =
    lists_are start t t.actions (keys (actions_named t)) t.types (keys (types_named t)) t.lists (keys (lists_named t)) w.actions w.types w.lists

pub next_value : (types : List ℕ) (t : Table) (n i : ℕ) → nat_lt 0 n ≡ true → named_values n i types t ≡ named_value types t i ∷ named_values (n - 1) (i + 1) types t
next_value types t zero i e = absurd cc
next_value types t (suc n) i e = let back : n ≡ suc n - 1 = omega arith in ap (λ m. named_value types t i ∷ named_values m (i + 1) types t) back

-- the number of an action that is not 0
pub named_number : (actions : List ℕ) (a n : ℕ) → (a == 0) ≡ false → n ≡ position_or_len (λ k. k == a) actions → Some n ≡ number_among actions a
named_number actions a n some is = ap (λ m. Some m) is ∙ ap (λ b. if b then None else Some (position_or_len (λ k. k == a) actions)) (sym some)

-- the value of one more type
pub one_value : (t : Table) (types : List ℕ) (index value : ℕ) (values more : ℕ → Option ℕ) → value ≡ value_of t index → AreValues t types values →
    ((i : ℕ) → more i ≡ (if is_at (nat_cmp index) i then Some value else values i)) → AreValues t (index ∷ types) more
one_value t types index value values more is are says = λ i. says i ∙ ap (λ b. if b then Some value else values i) (at_key index i) ∙ by i (index == i) refl
  where
    by : (i : ℕ) (b : Bool) → (index == i) ≡ b → (if b then Some value else values i) ≡ (if (index == i) || is_among types i then Some (value_of t i) else None)
    by i true e = ap (λ n. Some n) (is ∙ ap (value_of t) (same_key index i e)) ∙ ap (λ b. if b || is_among types i then Some (value_of t i) else None) (sym e)
    by i false e = are i ∙ ap (λ b. if b || is_among types i then Some (value_of t i) else None) (sym e)

-- the value under an index
pub value_named : (types : List ℕ) (t : Table) (values : ℕ → Option ℕ) (i : ℕ) → AreValues t types values → unwrap_or (values i) 0 ≡ named_value types t i
value_named types t values i are = ap (λ o. unwrap_or o 0) (are i) ∙ by (is_among types i)
  where
    by : (b : Bool) → unwrap_or (if b then Some (value_of t i) else None) 0 ≡ (if b then value_of t i else 0)
    by true = refl
    by false = refl
