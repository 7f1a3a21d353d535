-- What a filter of a table stops is what its sense stops.
use Rattle.std.proofs.Common.{◌≡◌, ◌∙◌, refl, sym, ap, subst, arith, ℕ, zero, suc, ◌+◌, ◌-◌, ◌≤◌, ◌==◌, ◌||◌, nat_lt, ℤ, pos, negsuc, Bool, true, false, List, [], ◌∷◌, map, length, Option, Some, None, if◌then◌else◌}
use Rattle.std.specs.Prelude.{slice_get, not, Contains}
use Rattle.std.specs.List.{AllByRecursion, list_any}
use Rattle.std.proofs.lemmas.Bool.Decides.{nat_tests}
use Rattle.meaning_forms.specs.Class.{some_of}
use Rattle.table_forms.specs.Keys.{value_at}
use Rattle.table_forms.specs.Lsda.{Table}
use Rattle.table_forms.specs.Verdict as tables
use Rattle.table_forms.specs.Verdict.{Thrown, stops}
use Rattle.table_forms.specs.WrittenTable.{list_size, list_from}
use Rattle.region_forms.specs.Form.{TypeRow}
use Rattle.region_forms.specs.Guard.{derives, matches, allows}
use Rattle.linear_forms.specs.Tables.{Sense, cleanup, clause, list_of, clause_sense, list_bytes, entry_type, type_at_index, list_sense, sense_in}
use Rattle.machine_forms.specs.Routine.{Routine, routine_table}
use Rattle.image_forms.specs.Linkable.{BaseIsThere}
use Rattle.image_forms.specs.Placed.{type_at}
use Rattle.image_forms.specs.Tables.{linked_table}
use Rattle.lsda_read.specs.Names.{types_named}
use Rattle.personality.specs.Named.{FilterIsNamed}
use Rattle.personality.proofs.NamedBy.{indices_named}
use Rattle.table_verdicts.specs.Types.{thrown_as}
use Rattle.table_verdicts.specs.Asked.{NamesType, TableIsAsked, TypesAreAsked}
use Rattle.table_verdicts.proofs.Looked.{Looked}
use Rattle.table_verdicts.proofs.Matching.{entry_of, entry_matches}

-- a filter means what it stops
abbrev pub FilterMeans : Table → Thrown → List TypeRow → Option ℕ → (ℤ → Sense) → ℤ → Type 0
FilterMeans table thrown rows t senses (pos zero) = (stops table thrown (pos zero) ≡ false) × (senses (pos zero) ≡ cleanup)
FilterMeans table thrown rows t senses (pos (suc i)) = (u : Option ℕ) × (senses (pos (suc i)) ≡ clause u) × (stops table thrown (pos (suc i)) ≡ matches rows t u)
FilterMeans table thrown rows t senses (negsuc n) = (types : List ℕ) × (senses (negsuc n) ≡ list_of types) × (stops table thrown (negsuc n) ≡ not (allows rows types t))

-- ---- entries of the type table
record Entry (end : ℕ) (types : List ℕ) (i v : ℕ) : Type 0 where
  type : ℕ
  there : slice_get types i ≡ Some type
  value : type_at end type ≡ v

entry_there : (end : ℕ) (types : List ℕ) (i v : ℕ) → slice_get (map (type_at end) types) i ≡ Some v → Entry end types i v
entry_there end [] i v e = absurd (cc e)
entry_there end (t ∷ ts) zero v e = record { type = t; there = refl; value = same (type_at end t) v e }
  where
    same : (x y : ℕ) → Some x ≡ Some y → x ≡ y
    same x y e = cc
entry_there end (t ∷ ts) (suc i) v e = let later = entry_there end ts i v e in record { type = later.type; there = later.there; value = later.value }

some_same : {A : Type 0} (a b : A) → Some a ≡ Some b → a ≡ b
some_same a b e = cc

item_holds : {A : Type 0} (P : A → Type 0) (xs : List A) (i : ℕ) (x : A) → AllByRecursion P xs → slice_get xs i ≡ Some x → P x
item_holds P [] i x all e = absurd (cc e)
item_holds P (y ∷ ys) zero x all e = subst P (some_same y x e) all.0
item_holds P (y ∷ ys) (suc i) x all e = item_holds P ys i x all.1 e

entry_sense : (x : ℕ) → clause_sense (Some x) ≡ clause (entry_of x)
entry_sense zero = refl
entry_sense (suc t) = refl

-- ---- lists of specifications
record ListThere (types : List ℕ) (lists : List (List ℕ)) (at n : ℕ) (l : List ℕ) : Type 0 where
  sense : list_sense types lists at n ≡ list_of (map (type_at_index types) l)
  named : AllByRecursion (NamesType types) l

list_is : (types : List ℕ) (lists : List (List ℕ)) (at n m : ℕ) (l : List ℕ) → n ≡ at + m → list_from lists m ≡ Some l → AllByRecursion (AllByRecursion (NamesType types)) lists → ListThere types lists at n l
list_is types [] at n m l place found all = absurd (cc found)
list_is types (x ∷ lists) at n m l place found all =
    by (m == 0) (nat_lt m (list_size x)) refl refl found (λ far more. list_is types lists (at + list_bytes x) n (m - list_size x) l (omega (arith, place, far)) more all.1)
  where
    same : (a b : List ℕ) → Some a ≡ Some b → a ≡ b
    same a b e = cc

    here : (at == n) ≡ true → x ≡ l → ListThere types (x ∷ lists) at n l
    here test is = record {
      sense = ap (λ b. if b then list_of (map (type_at_index types) x) else list_sense types lists (at + list_bytes x) n) test ∙ ap (λ y. list_of (map (type_at_index types) y)) is;
      named = subst (AllByRecursion (NamesType types)) is all.0;
    }

    behind : (at == n) ≡ false → ListThere types lists (at + list_bytes x) n l → ListThere types (x ∷ lists) at n l
    behind test later = record {
      sense = ap (λ b. if b then list_of (map (type_at_index types) x) else list_sense types lists (at + list_bytes x) n) test ∙ later.sense;
      named = later.named;
    }

    by : (first inside : Bool) → (m == 0) ≡ first → nat_lt m (list_size x) ≡ inside → (if first then Some x else if inside then None else list_from lists (m - list_size x)) ≡ Some l →
        (list_size x ≤ m → list_from lists (m - list_size x) ≡ Some l → ListThere types lists (at + list_bytes x) n l) → ListThere types (x ∷ lists) at n l
    by true inside e f found later = here (grind (arith, nat_tests, e, place)) (same x l found)
    by false true e f found later = absurd (cc found)
    by false false e f found later =
        let far : list_size x ≤ m = grind (arith, nat_tests, f) in
        behind (grind (arith, nat_tests, e, place)) (later far found)

-- an index of a list allows what its type does
index_allows : (end : ℕ) (rows : List TypeRow) (types : List ℕ) (table : Table) (t i : ℕ) → TypesAreAsked end rows → BaseIsThere (length rows) (Some t) → AllByRecursion (λ x. x ≤ length rows) types →
    NamesType types i → slice_get (map (type_at end) types) (i - 1) ≡ Some (value_at 0 table.types i) →
    tables.matches (thrown_as end rows (Some t)) (value_at 0 table.types i) ≡ derives rows t (type_at_index types i)
index_allows end rows types table t zero asked there few named e = absurd (let below = named.1 in omega (arith, below))
index_allows end rows types table t (suc j) asked there few (u, some, is) e =
    let less : suc j - 1 ≡ j = omega arith in
    let entry = entry_there end types j (value_at 0 table.types (suc j)) (ap (slice_get (map (type_at end) types)) (sym less) ∙ e) in
    let at : slice_get types j ≡ Some (suc u) = ap (slice_get types) (sym less) ∙ is in
    let type : entry.type ≡ suc u = same entry.type (suc u) (sym entry.there ∙ at) in
    let inside : suc u ≤ length rows = item_holds (λ x. x ≤ length rows) types j (suc u) few at in
    ap (tables.matches (thrown_as end rows (Some t))) (sym entry.value ∙ ap (type_at end) type)
    ∙ (entry_matches end rows (Some t) (suc u) asked there inside ∙ ap (derives rows t) (sym (ap entry_type at)))
  where
    same : (a b : ℕ) → Some a ≡ Some b → a ≡ b
    same a b e = cc

indices_allow : (end : ℕ) (rows : List TypeRow) (types : List ℕ) (table : Table) (t : ℕ) (l : List ℕ) → TypesAreAsked end rows → BaseIsThere (length rows) (Some t) → AllByRecursion (λ x. x ≤ length rows) types →
    ((i : ℕ) → Contains (types_named table) i → slice_get (map (type_at end) types) (i - 1) ≡ Some (value_at 0 table.types i)) →
    AllByRecursion (NamesType types) l → AllByRecursion (Contains (types_named table)) l →
    list_any (λ i. tables.matches (thrown_as end rows (Some t)) (value_at 0 table.types i)) l ≡ some_of (derives rows t) (map (type_at_index types) l)
indices_allow end rows types table t [] asked there few looked names named = refl
indices_allow end rows types table t (i ∷ l) asked there few looked names named =
    ap (λ b. b || list_any (λ j. tables.matches (thrown_as end rows (Some t)) (value_at 0 table.types j)) l) (index_allows end rows types table t i asked there few names.0 (looked i named.0))
    ∙ ap (λ b. derives rows t (type_at_index types i) || b) (indices_allow end rows types table t l asked there few looked names.1 named.1)

-- ---- all filters
pub filter_means : (end : ℕ) (rows : List TypeRow) (r : Routine) (table : Table) (t : Option ℕ) (f : ℤ) → TableIsAsked (length rows) r → TypesAreAsked end rows → BaseIsThere (length rows) t →
    Looked (linked_table end (routine_table r)) table → FilterIsNamed table f → FilterMeans table (thrown_as end rows t) rows t (sense_in r.types r.lists) f
filter_means end rows r table None (pos zero) fits asked there looked named = (refl, refl)
filter_means end rows r table (Some t) (pos zero) fits asked there looked named = (refl, refl)
filter_means end rows r table t (pos (suc i)) fits asked there looked named =
    let less : suc i - 1 ≡ i = omega arith in
    let entry = entry_there end r.types i (value_at 0 table.types (suc i)) (ap (slice_get (map (type_at end) r.types)) (sym less) ∙ looked.type_there (suc i) named) in
    let inside : entry.type ≤ length rows = item_holds (λ x. x ≤ length rows) r.types i entry.type fits.types entry.there in
    let same : tables.matches (thrown_as end rows t) (value_at 0 table.types (suc i)) ≡ matches rows t (entry_of entry.type)
    = ap (tables.matches (thrown_as end rows t)) (sym entry.value) ∙ entry_matches end rows t entry.type asked there inside in
    (entry_of entry.type, ap clause_sense entry.there ∙ entry_sense entry.type, stopping t i same)
  where
    stopping : (o : Option ℕ) (k : ℕ) {b : Bool} → tables.matches (thrown_as end rows o) (value_at 0 table.types (suc k)) ≡ b → stops table (thrown_as end rows o) (pos (suc k)) ≡ b
    stopping None k e = e
    stopping (Some x) k e = e
filter_means end rows r table t (negsuc n) fits asked there looked named =
    let less : suc n - 1 ≡ n = omega arith in
    let l = value_at [] table.lists (suc n) in
    let whole : n ≡ 0 + n = omega arith in
    let list = list_is r.types r.lists 0 n n l whole (ap (list_from r.lists) (sym less) ∙ looked.list_there (suc n) named) fits.lists in
    (map (type_at_index r.types) l, list.sense, stopping t there list.named)
  where
    l : List ℕ
    l = value_at [] table.lists (suc n)

    stopping : (o : Option ℕ) → BaseIsThere (length rows) o → AllByRecursion (NamesType r.types) l → stops table (thrown_as end rows o) (negsuc n) ≡ not (allows rows (map (type_at_index r.types) l) o)
    stopping None known names = refl
    stopping (Some x) known names = ap not (indices_allow end rows r.types table x l asked known fits.types looked.type_there names (indices_named table (suc n)))
