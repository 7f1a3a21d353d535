-- What the actions of a table name is what the distinct chains of its lists name.
use Rattle.std.proofs.Common.{◌≡◌, ◌≢◌, ◌==◌, ℕ, ℤ, Bool, true, false, not, List, [], ◌∷◌, ◌++◌, map, refl, ap, sym, subst, ◌∙◌, ◌||◌, arith, append_assoc}
use Rattle.std.specs.Prelude.{filter, flat_map, fold}
use Rattle.std.specs.List.{AllByRecursion}
use Rattle.std.proofs.lemmas.Bool.Decides.{nat_tests}
use Rattle.table_forms.specs.Keys.{keys}
use Rattle.table_forms.specs.Lsda.{Table}
use Rattle.table_forms.proofs.Alls.{all_more, all_members}
use Rattle.table_forms.proofs.Kept.{IsIn}
use Rattle.eh_write.proofs.Alls.{all_at, all_flat_map, all_keys, all_map}
use Rattle.personality.proofs.Members.{all_given}
use Rattle.lsda_read.specs.Names.{actions_named}
use Rattle.lsda_read.specs.WholeTable.{IsWhole, filters_at}
use Rattle.lsda_pack.specs.Chains.{add_chain, chains_of, distinct, is_chain, number_in}
use Rattle.lsda_pack.specs.ReadLists.{lists_read}
use Rattle.lsda_pack.proofs.ChainsKept.{is_kept, all_named, found_at, itself, stays}
use Rattle.lsda_pack.proofs.KeysAlike.{Within, within_trans}
use Rattle.lsda_pack.proofs.ListsRead.{first_names}
use Rattle.lsda_pack.proofs.NamesPacked.{chains_added, chains_named, site_kept}
use Rattle.lsda_pack.proofs.TableHas.{filtered_in, not_zero}

-- ---- each action is a site's
abbrev pub IsSited : Table → ℕ × List ℤ → Type 0
IsSited t e = IsIn e.0 (map (λ s. s.action) t.sites) × (e.0 ≢ 0)

abbrev is_some : ℕ → Bool
is_some a = not (a == 0)

all_sited : (t : Table) → IsWhole t → AllByRecursion (IsSited t) t.actions
all_sited t w =
    let named = map (λ s. s.action) t.sites in
    let S : ℕ → Type 0 = λ a. IsIn a named × (a ≢ 0) in
    subst (AllByRecursion (IsSited t)) (sym w.actions)
    (all_map (IsSited t) (λ a. (a, filters_at t a)) (keys (actions_named t))
    (all_keys S (filter is_some named) (all_more (λ a. IsIn a named × (is_some a ≡ true)) S (λ a is. (is.0, not_zero a is.1)) (filter is_some named) (filtered_in is_some named))))

abbrev IsValue : Table → ℕ × List ℤ → Type 0
IsValue t e = IsIn e.0 (map (λ x. x.0) t.actions) × (filters_at t e.0 ≡ e.1)

all_values : (t : Table) → IsWhole t → AllByRecursion (IsValue t) t.actions
all_values t w =
    let ks = keys (actions_named t) in
    let F = filters_at t in
    let names : map (λ (x : ℕ × List ℤ). x.0) t.actions ≡ ks = ap (map (λ (x : ℕ × List ℤ). x.0)) w.actions ∙ first_names F ks in
    subst (AllByRecursion (IsValue t)) (sym w.actions)
    (all_map (IsValue t) (λ a. (a, F a)) ks (all_more (λ a. IsIn a ks) (λ a. IsValue t (a, F a)) (λ a is. (subst (IsIn a) (sym names) is, refl)) ks (all_members ks)))

-- so its filters are a chain of the lists
actions_kept : (t : Table) (start : ℕ) (es : List (ℕ × List ℤ)) → AllByRecursion (IsSited t) es → AllByRecursion (IsValue t) es →
    AllByRecursion (λ e. is_kept (chains_of (lists_read start t)) e.1 ≡ true) es
unfolding lists_read
actions_kept t start [] sited values = tt
actions_kept t start (e ∷ es) sited values =
    let list = lists_read start t in
    let other = sited.0.1 in
    let keeps = site_kept list.chains (chains_of list) start t.actions refl t.sites (all_named list.chains list.sites) e.0 (grind (arith, nat_tests, other)) values.0.0 sited.0.0 in
    (ap (is_kept (chains_of list)) (sym values.0.1) ∙ keeps, actions_kept t start es sited.1 values.1)

-- ---- what chains name
abbrev pub named_in : (ℤ → List ℕ) → List (List ℤ) → List ℕ
named_in g chains = flat_map (flat_map g) chains

chain_within : (g : ℤ → List ℕ) (kept : List (List ℤ)) (c : List ℤ) → is_kept kept c ≡ true → Within (flat_map g c) (named_in g kept)
chain_within g kept c e = all_at (λ d. Within (flat_map g d) (named_in g kept)) kept (number_in kept c) c (all_given (flat_map g) kept) (found_at c kept e)

all_within : (g : ℤ → List ℕ) (kept cs : List (List ℤ)) → AllByRecursion (λ c. is_kept kept c ≡ true) cs → Within (named_in g cs) (named_in g kept)
all_within g kept cs all =
    all_flat_map (λ k. IsIn k (named_in g kept)) (flat_map g) cs (all_more (λ c. is_kept kept c ≡ true) (λ c. Within (flat_map g c) (named_in g kept)) (λ c e. chain_within g kept c e) cs all)

-- the filters of actions
flat_twice : (g : ℤ → List ℕ) (es : List (ℕ × List ℤ)) → flat_map g (flat_map (λ (e : ℕ × List ℤ). e.1) es) ≡ named_in g (map (λ (e : ℕ × List ℤ). e.1) es)
flat_twice g [] = refl
flat_twice g (e ∷ es) = front e.1 (flat_map (λ (x : ℕ × List ℤ). x.1) es) ∙ ap (λ xs. flat_map g e.1 ++ xs) (flat_twice g es)
  where
    front : (fs gs : List ℤ) → flat_map g (fs ++ gs) ≡ flat_map g fs ++ flat_map g gs
    front [] gs = refl
    front (f ∷ fs) gs = ap (λ xs. g f ++ xs) (front fs gs) ∙ sym (append_assoc (g f) (flat_map g fs) (flat_map g gs))

-- ---- distinct chains name the same
each_kept : (cs more : List (List ℤ)) → ((c : List ℤ) → is_kept cs c ≡ true → is_kept more c ≡ true) → AllByRecursion (λ c. is_kept more c ≡ true) cs
each_kept [] more all = tt
each_kept (c ∷ cs) more all = (all c (ap (λ b. b || is_kept cs c) (itself c)), each_kept cs more (λ d e. all d (ap (λ b. is_chain d c || b) e ∙ either (is_chain d c))))
  where
    either : (b : Bool) → (b || true) ≡ true
    either true = refl
    either false = refl

distinct_keeps : (cs : List (List ℤ)) → AllByRecursion (λ c. is_kept (distinct cs) c ≡ true) cs
unfolding distinct
distinct_keeps cs = each_kept cs (fold add_chain [] cs) (λ c e. stays c cs [] e)

distinct_within : (g : ℤ → List ℕ) (cs : List (List ℤ)) → Within (named_in g (distinct cs)) (named_in g cs)
unfolding distinct
distinct_within g cs =
    all_flat_map (λ k. IsIn k (named_in g cs)) (flat_map g) (fold add_chain [] cs) (chains_added (λ c. Within (flat_map g c) (named_in g cs)) cs [] (all_given (flat_map g) cs) tt)

-- ---- both ways
abbrev pub filters_in : Table → List ℤ
filters_in t = flat_map (λ e. e.1) t.actions

abbrev pub chains_in : ℕ → Table → List (List ℤ)
chains_in start t = distinct (chains_of (lists_read start t))

pub filters_within : (g : ℤ → List ℕ) (start : ℕ) (t : Table) → IsWhole t → Within (flat_map g (filters_in t)) (named_in g (chains_in start t))
filters_within g start t w =
    let cs = chains_of (lists_read start t) in
    let fs = map (λ (e : ℕ × List ℤ). e.1) t.actions in
    let kept = all_map (λ c. is_kept cs c ≡ true) (λ (e : ℕ × List ℤ). e.1) t.actions (actions_kept t start t.actions (all_sited t w) (all_values t w)) in
    subst (λ xs. Within xs (named_in g (chains_in start t))) (sym (flat_twice g t.actions))
    (within_trans (named_in g fs) (named_in g cs) (named_in g (distinct cs)) (all_within g cs fs kept) (all_within g (distinct cs) cs (distinct_keeps cs)))

pub within_filters : (g : ℤ → List ℕ) (start : ℕ) (t : Table) → Within (named_in g (chains_in start t)) (flat_map g (filters_in t))
unfolding lists_read
within_filters g start t =
    let list = lists_read start t in
    let cs = chains_of list in
    let fs = map (λ (e : ℕ × List ℤ). e.1) t.actions in
    let own = chains_named (λ c. Within (flat_map g c) (named_in g fs)) fs (all_given (flat_map g) fs) list.sites in
    subst (Within (named_in g (distinct cs))) (sym (flat_twice g t.actions))
    (within_trans (named_in g (distinct cs)) (named_in g cs) (named_in g fs) (distinct_within g cs) (all_flat_map (λ k. IsIn k (named_in g fs)) (flat_map g) cs own))
