-- What a table keeps under the numbers that are named in it.
use Rattle.std.proofs.Common.{◌≡◌, ◌<◌, ◌==◌, ℕ, ℤ, pos, negsuc, zero, suc, true, List, [], ◌∷◌, map, ap, sym, subst, arith, ◌⊎◌, inl, inr}
use Rattle.std.specs.Prelude.{Contains, not, filter, flat_map}
use Rattle.std.proofs.lemmas.Bool.{cond_both}
use Rattle.eh_bytes.specs.declared.frames.Region64.{Region64}
use Rattle.eh_bytes.specs.Memory.{Part, Memory}
use Rattle.table_forms.specs.Keys.{value_at}
use Rattle.table_forms.specs.LsdaHead.{Head}
use Rattle.table_forms.specs.LsdaSites.{site_of, site_records}
use Rattle.table_forms.specs.Lsda as forms
use Rattle.table_forms.specs.Lsda.{Table, table_of, filters_of, entry_value, list_value}
use Rattle.table_forms.proofs.Kept.{IsIn, is_in, value_kept}
use Rattle.lsda_read.specs.Names.{actions_named, types_named, lists_named}

pub sites_kept : (memory : Memory) (part : Part) (region : Region64) (h : Head) (t : Table) → table_of memory part region h ≡ t →
    map (site_of h region) (site_records part h).records ≡ t.sites
unfolding table_of
sites_kept memory part region h t is = ap (λ x. x.sites) is

pub action_kept : (memory : Memory) (part : Part) (region : Region64) (h : Head) (t : Table) (a : ℕ) → table_of memory part region h ≡ t →
    Contains (actions_named t) a → filters_of part h a ≡ value_at [] t.actions a
unfolding table_of
action_kept memory part region h t a is named =
    let P : Table → Type 0 = λ x. Contains (actions_named x) a → filters_of part h a ≡ value_at [] x.actions a in
    subst P is (λ n. sym (value_kept [] (filters_of part h) (actions_named (table_of memory part region h)) a n)) named

pub type_kept : (memory : Memory) (part : Part) (region : Region64) (h : Head) (t : Table) (i : ℕ) → table_of memory part region h ≡ t →
    Contains (types_named t) i → entry_value memory part h h.types i ≡ value_at 0 t.types i
unfolding table_of
type_kept memory part region h t i is named =
    let P : Table → Type 0 = λ x. Contains (types_named x) i → entry_value memory part h h.types i ≡ value_at 0 x.types i in
    subst P is (λ n. sym (value_kept 0 (entry_value memory part h h.types) (types_named (table_of memory part region h)) i n)) named

pub list_kept : (memory : Memory) (part : Part) (region : Region64) (h : Head) (t : Table) (j : ℕ) → table_of memory part region h ≡ t →
    Contains (lists_named t) j → list_value part h.types j ≡ value_at [] t.lists j
unfolding table_of
list_kept memory part region h t j is named =
    let P : Table → Type 0 = λ x. Contains (lists_named x) j → list_value part h.types j ≡ value_at [] x.lists j in
    subst P is (λ n. sym (value_kept [] (list_value part h.types) (lists_named (table_of memory part region h)) j n)) named

-- an action that a site names, and a list that a filter names, is not 0
is_zero : (n : ℕ) → not (n == 0) ≡ true → n ≡ 0 → ⊥
is_zero zero some e = absurd cc
is_zero (suc n) some e = absurd cc

no_zero_left : (ns : List ℕ) → IsIn 0 (filter (λ a. not (a == 0)) ns) → ⊥
no_zero_left [] is = is
no_zero_left (n ∷ ns) is =
    let rest = filter (λ a. not (a == 0)) ns in
    cond_both (not (n == 0)) (n ∷ rest) rest (λ l. IsIn 0 l → ⊥) (λ e. first e (no_zero_left ns)) (λ _. no_zero_left ns) is
  where
    first : not (n == 0) ≡ true → (IsIn 0 (filter (λ a. not (a == 0)) ns) → ⊥) → (n ≡ 0) ⊎ IsIn 0 (filter (λ a. not (a == 0)) ns) → ⊥
    first some none (inl e) = is_zero n some e
    first some none (inr is) = none is

no_list_zero : (fs : List ℤ) → IsIn 0 (flat_map forms.lists_named fs) → ⊥
no_list_zero [] is = is
no_list_zero (pos n ∷ fs) is = no_list_zero fs is
no_list_zero (negsuc n ∷ fs) (inl e) = absurd cc
no_list_zero (negsuc n ∷ fs) (inr is) = no_list_zero fs is

positive : (k : ℕ) (ns : List ℕ) → (IsIn 0 ns → ⊥) → Contains ns k → 0 < k
positive zero ns none (i, inside, at) = absurd (none (is_in 0 ns i 0 inside at))
positive (suc k) ns none named = omega arith

pub action_positive : (t : Table) (a : ℕ) → Contains (actions_named t) a → 0 < a
action_positive t a named = positive a (actions_named t) (no_zero_left (map (λ s. s.action) t.sites)) named

pub list_positive : (t : Table) (j : ℕ) → Contains (lists_named t) j → 0 < j
list_positive t j named = positive j (lists_named t) (no_list_zero (flat_map (λ a. a.1) t.actions)) named
