-- The lists that sites name.
use Rattle.std.proofs.Common.{◌≡◌, ◌≢◌, ◌∙◌, ◌==◌, refl, ap, sym, ℕ, ℤ, pos, negsuc, suc, Bool, true, false, List, [], ◌∷◌, map, arith, inl, inr, cond, subst, ◌+◌, ◌||◌, add-one}
use Rattle.std.specs.Prelude.{Contains, filter, not}
use Rattle.std.specs.List.{AllByRecursion, list_any}
use Rattle.std.proofs.lemmas.Bool.Decides.{nat_tests}
use Rattle.lsda_read.specs.Names.{actions_named, lists_named}
use Rattle.table_forms.specs.declared.found.Site.{Site}
use Rattle.table_forms.specs.Lsda.{Table}
use Rattle.table_forms.proofs.Kept.{IsIn}
use Rattle.personality.proofs.Members.{contains}
use Rattle.personality.proofs.NamedBy.{filters_named}
use Rattle.personality.specs.Named.{FilterIsNamed}
use Rattle.table_forms.specs.Keys.{value_at}
use Rattle.table_forms.specs.Verdict.{filters_at}
use Rattle.cxa_runtime.specs.Unexpected.{has_list, is_list}

-- a site names an action of the table, unless its action is 0
abbrev pub NamesIts : Table → Site → Type 0
NamesIts t s = s.action ≢ 0 → Contains (actions_named t) s.action

abbrev nonzero : List Site → List ℕ
nonzero sites = filter (λ a. not (a == 0)) (map (λ s. s.action) sites)

is_nonzero : (a : ℕ) → a ≢ 0 → not (a == 0) ≡ true
is_nonzero a ne = grind (arith, nat_tests, ne)

here_in : (b : Bool) (a : ℕ) (rest : List ℕ) → b ≡ true → IsIn a (cond b (a ∷ rest) rest)
here_in true a rest h = inl refl
here_in false a rest h = absurd (cc h)

there_in : (b : Bool) (a x : ℕ) (rest : List ℕ) → IsIn x rest → IsIn x (cond b (a ∷ rest) rest)
there_in true a x rest h = inr h
there_in false a x rest h = h

all_named : (t : Table) (sites : List Site) → ((a : ℕ) → IsIn a (nonzero sites) → Contains (actions_named t) a) → AllByRecursion (NamesIts t) sites
all_named t [] inside = tt
all_named t (s ∷ more) inside = (
  (λ ne. inside s.action (here_in (not (s.action == 0)) s.action (nonzero more) (is_nonzero s.action ne))),
  all_named t more (λ a h. inside a (there_in (not (s.action == 0)) s.action a (nonzero more) h)),
)

pub sites_named : (t : Table) → AllByRecursion (NamesIts t) t.sites
sites_named t = all_named t t.sites (λ a h. contains a (actions_named t) h)

is_this : (j : ℕ) (f : ℤ) → is_list j f ≡ true → f ≡ negsuc j
is_this j (pos n) h = absurd (cc h)
is_this j (negsuc n) h = ap negsuc (let same : n ≡ j = grind (arith, nat_tests, h) in same)

any_named : (t : Table) (j : ℕ) (fs : List ℤ) → AllByRecursion (FilterIsNamed t) fs → list_any (is_list j) fs ≡ true → Contains (lists_named t) (suc j)
any_named t j [] all h = absurd (cc h)
any_named t j (f ∷ fs) all h = go (is_list j f) refl (λ rest. any_named t j fs all.1 rest)
  where
    go : (b : Bool) → is_list j f ≡ b → (list_any (is_list j) fs ≡ true → Contains (lists_named t) (suc j)) → Contains (lists_named t) (suc j)
    go true is others = subst (FilterIsNamed t) (is_this j f is) all.0
    go false is others = others (sym (ap (λ b. b || list_any (is_list j) fs) is) ∙ h)

site_named_by : (t : Table) (j a : ℕ) (b : Bool) → list_any (is_list j) (cond b (pos 0 ∷ []) (value_at [] t.actions a)) ≡ true → Contains (lists_named t) (suc j)
site_named_by t j a true h = absurd (cc h)
site_named_by t j a false h = any_named t j (value_at [] t.actions a) (filters_named t a) h

sites_named_by : (t : Table) (j : ℕ) (sites : List Site) → list_any (λ s. list_any (is_list j) (filters_at t s.action)) sites ≡ true → Contains (lists_named t) (suc j)
sites_named_by t j [] h = absurd (cc h)
sites_named_by t j (s ∷ more) h = go (list_any (is_list j) (filters_at t s.action)) refl (λ rest. sites_named_by t j more rest)
  where
    go : (b : Bool) → list_any (is_list j) (filters_at t s.action) ≡ b → (list_any (λ x. list_any (is_list j) (filters_at t x.action)) more ≡ true → Contains (lists_named t) (suc j)) → Contains (lists_named t) (suc j)
    go true is others = site_named_by t j s.action (s.action == 0) is
    go false is others = others (sym (ap (λ b. b || list_any (λ x. list_any (is_list j) (filters_at t x.action)) more) is) ∙ h)

-- a list that a chain has the filter of is named
pub list_named : (t : Table) (j : ℕ) → has_list j t ≡ true → Contains (lists_named t) (j + 1)
list_named t j h = rw add-one (sites_named_by t j t.sites h)
