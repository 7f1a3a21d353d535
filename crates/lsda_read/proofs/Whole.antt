-- What a table names, each under its number.
use Rattle.std.proofs.Common.{◌≡◌, ◌-◌, ◌==◌, ℕ, ℤ, suc, Bool, true, false, nat_lt, List, [], ◌∷◌, ◌++◌, map, Option, Some, None, Ok, Err, Result, refl, ap, sym, subst, ◌∙◌, arith, if◌then◌else◌}
use Rattle.std.specs.Prelude.{flat_map, Contains}
use Rattle.std.specs.List.{AllByRecursion}
use Rattle.eh_bytes.specs.declared.frames.Region64.{Region64}
use Rattle.eh_bytes.specs.Memory.{Part, Memory, part_with}
use Rattle.table_forms.specs.Fault.{Fault, ◌>>=◌, least, answer}
use Rattle.table_forms.specs.Keys.{add_key, keys, value_at}
use Rattle.table_forms.specs.LsdaHead.{Head, head_at}
use Rattle.table_forms.specs.Lsda.{Table, filters_of, entry_value, list_value, table_faults, table_of, lsda_in, lsda_from, lsda, entries_named}
use Rattle.table_forms.specs.Lsda as forms
use Rattle.table_forms.proofs.Kept.{value_kept}
use Rattle.lsda_read.specs.Names.{actions_named, types_named, lists_named}
use Rattle.lsda_read.specs.WholeTable.{filters_at, indices_at, IsWhole}

-- the keys of a list stand in it
further : {X : Type 0} (n k : X) (ns : List X) → Contains ns k → Contains (n ∷ ns) k
further n k ns (i, inside, at) = (suc i, omega (arith, inside), at)

all_further : {X : Type 0} (n : X) (ns ks : List X) → AllByRecursion (Contains ns) ks → AllByRecursion (Contains (n ∷ ns)) ks
all_further n ns [] all = tt
all_further n ns (k ∷ ks) all = (further n k ns all.0, all_further n ns ks all.1)

pub all_in : {X : Type 0} (ns : List X) → AllByRecursion (Contains ns) ns
all_in [] = tt
all_in (n ∷ ns) = ((0, omega arith, refl), all_further n ns ns (all_in ns))

added : (P : ℕ → Type 0) (k : ℕ) (ns : List ℕ) → P k → AllByRecursion P ns → AllByRecursion P (add_key k ns)
added P k [] one all = (one, tt)
added P k (n ∷ ns) one all = by (nat_lt k n) (k == n) (added P k ns one all.1)
  where
    by : (a b : Bool) → AllByRecursion P (add_key k ns) → AllByRecursion P (if a then k ∷ n ∷ ns else if b then n ∷ ns else n ∷ add_key k ns)
    by true b more = (one, all)
    by false true more = all
    by false false more = (all.0, more)

all_keys : (P : ℕ → Type 0) (ns : List ℕ) → AllByRecursion P ns → AllByRecursion P (keys ns)
all_keys P [] all = tt
all_keys P (n ∷ ns) all = added P n (keys ns) all.0 (all_keys P ns all.1)

pub keys_in : (ns : List ℕ) → AllByRecursion (Contains ns) (keys ns)
keys_in ns = all_keys (Contains ns) ns (all_in ns)

-- what is kept under them
abbrev pairs : {A : Type 0} → (ℕ → A) → List ℕ → List (ℕ × A)
pairs {A} f ks = map {B = ℕ × A} (λ k. (k, f k)) ks

kept_all : {A : Type 0} (d : A) (f : ℕ → A) (ns ks : List ℕ) → AllByRecursion (Contains ns) ks → pairs f ks ≡ pairs (λ k. value_at d (pairs f (keys ns)) k) ks
kept_all d f ns [] all = refl
kept_all {A} d f ns (k ∷ ks) all =
    let first : ℕ × A → List (ℕ × A) = λ x. x ∷ pairs f ks in
    let here : ℕ × A = (k, value_at d (pairs f (keys ns)) k) in
    ap (λ (x : A). let y : ℕ × A = (k, x) in first y) (sym (value_kept d f ns k all.0)) ∙ ap (λ (xs : List (ℕ × A)). here ∷ xs) (kept_all d f ns ks all.1)

kept : {A : Type 0} (d : A) (f : ℕ → A) (ns : List ℕ) → pairs f (keys ns) ≡ pairs (λ k. value_at d (pairs f (keys ns)) k) (keys ns)
kept d f ns = kept_all d f ns (keys ns) (keys_in ns)

table_whole : (memory : Memory) (part : Part) (region : Region64) (h : Head) → IsWhole (table_of memory part region h)
unfolding table_of
table_whole memory part region h =
    record {
      actions = kept [] (filters_of part h) (actions_named (table_of memory part region h));
      types = kept 0 (entry_value memory part h h.types) (types_named (table_of memory part region h));
      lists = kept [] (list_value part h.types) (lists_named (table_of memory part region h));
    }

-- a table that is read
pub read_whole : (memory : Memory) (address : ℕ) (region : Region64) (t : Table) → lsda memory address region ≡ Ok t → IsWhole t
unfolding lsda lsda_in
read_whole memory address region t e = from (part_with memory address) e
  where
    same : (x y : Table) (r : Result Table Fault) → Ok x ≡ r → r ≡ Ok y → x ≡ y
    same x y r e f = cc

    answered : (part : Part) (h : Head) (o : Option Fault) → answer o (table_of memory part region h) ≡ Ok t → IsWhole t
    answered part h (Some f) e = absurd cc
    answered part h None e = subst IsWhole (same (table_of memory part region h) t (Ok (table_of memory part region h)) refl e) (table_whole memory part region h)

    headed : (part : Part) (r : Result Head Fault) → (r >>= λ h. answer (least (table_faults memory part region h)) (table_of memory part region h)) ≡ Ok t → IsWhole t
    headed part (Err f) e = absurd cc
    headed part (Ok h) e = answered part h (least (table_faults memory part region h)) e

    from : (o : Option Part) → lsda_from memory address region o ≡ Ok t → IsWhole t
    from None e = absurd cc
    from (Some part) e = headed part (head_at part region (address - part.address)) e

-- numbers that are named
pub under : {A B : Type 0} (g : ℕ × A → List B) (f : ℕ → A) (ks : List ℕ) → flat_map g (map (λ k. (k, f k)) ks) ≡ flat_map (λ k. g (k, f k)) ks
under g f [] = refl
under g f (k ∷ ks) = ap (λ xs. g (k, f k) ++ xs) (under g f ks)

filters_named : (t : Table) → IsWhole t → flat_map (λ (a : ℕ × List ℤ). a.1) t.actions ≡ flat_map (filters_at t) (keys (actions_named t))
filters_named t w = ap (flat_map (λ (a : ℕ × List ℤ). a.1)) w.actions ∙ under (λ (a : ℕ × List ℤ). a.1) (filters_at t) (keys (actions_named t))

pub lists_reached : (t : Table) (filters : List ℤ) → IsWhole t → filters ≡ flat_map (filters_at t) (keys (actions_named t)) → flat_map forms.lists_named filters ≡ lists_named t
lists_reached t filters w e = ap (flat_map forms.lists_named) (e ∙ sym (filters_named t w))

pub types_reached : (t : Table) (filters : List ℤ) → IsWhole t → filters ≡ flat_map (filters_at t) (keys (actions_named t)) →
    flat_map entries_named filters ++ flat_map (indices_at t) (keys (lists_named t)) ≡ types_named t
types_reached t filters w e =
    ap (λ fs. flat_map entries_named fs ++ flat_map (indices_at t) (keys (lists_named t))) (e ∙ sym (filters_named t w)) ∙
    ap (λ xs. flat_map entries_named (flat_map (λ (a : ℕ × List ℤ). a.1) t.actions) ++ xs)
    (sym (ap (flat_map (λ (l : ℕ × List ℕ). l.1)) w.lists ∙ under (λ (l : ℕ × List ℕ). l.1) (indices_at t) (keys (lists_named t))))
