-- What the sites, chains and lists of a table name.
use Rattle.std.proofs.Common.{◌≡◌, ◌≢◌, ◌==◌, ℕ, ℤ, pos, negsuc, zero, suc, Bool, true, false, List, [], ◌∷◌, map, refl, ap, sym, ◌∙◌, arith, inl, inr, if◌then◌else◌}
use Rattle.std.specs.Prelude.{Option, Some, None, Contains, find, filter, flat_map, not}
use Rattle.std.specs.List.{AllByRecursion}
use Rattle.std.proofs.lemmas.Bool.{cond_both}
use Rattle.std.proofs.lemmas.Bool.Decides.{nat_tests}
use Rattle.lsda_read.specs.Names.{actions_named, types_named, lists_named}
use Rattle.table_forms.specs.declared.found.Site.{Site}
use Rattle.table_forms.specs.Keys.{value_at}
use Rattle.table_forms.specs.Lsda as forms
use Rattle.table_forms.specs.Lsda.{Table}
use Rattle.table_forms.specs.Verdict.{site_at}
use Rattle.table_forms.proofs.Kept.{IsIn}
use Rattle.personality.specs.Named.{FilterIsNamed, SiteIsNamed}
use Rattle.table_forms.proofs.Alls.{all_more, all_members}
use Rattle.personality.proofs.Members.{contains, in_left, in_right, all_given, all_kept}

-- the filters of a chain name what is there
pub filters_named : (t : Table) (a : ℕ) → AllByRecursion (FilterIsNamed t) (value_at [] t.actions a)
filters_named t a = all_kept (FilterIsNamed t) t.actions a (both (flat_map (λ e. e.1) t.actions) (all_given forms.entries_named fs) (all_given forms.lists_named fs))
  where
    fs : List ℤ
    fs = flat_map (λ e. e.1) t.actions

    entries : List ℕ
    entries = flat_map forms.entries_named fs

    lists : List ℕ
    lists = flat_map forms.lists_named fs

    one : (f : ℤ) → AllByRecursion (λ n. IsIn n entries) (forms.entries_named f) → AllByRecursion (λ n. IsIn n lists) (forms.lists_named f) → FilterIsNamed t f
    one (pos zero) e l = tt
    one (pos (suc i)) e l = contains (suc i) (types_named t) (in_left (suc i) entries (flat_map (λ x. x.1) t.lists) e.0)
    one (negsuc n) e l = contains (suc n) (lists_named t) l.0

    both : (gs : List ℤ) → AllByRecursion (λ f. AllByRecursion (λ n. IsIn n entries) (forms.entries_named f)) gs →
        AllByRecursion (λ f. AllByRecursion (λ n. IsIn n lists) (forms.lists_named f)) gs → AllByRecursion (FilterIsNamed t) gs
    both [] e l = tt
    both (g ∷ gs) e l = (one g e.0 l.0, both gs e.1 l.1)

-- the indices of a list name what is there
pub indices_named : (t : Table) (j : ℕ) → AllByRecursion (Contains (types_named t)) (value_at [] t.lists j)
indices_named t j =
    let entries = flat_map forms.entries_named (flat_map (λ a. a.1) t.actions) in
    let indices = flat_map (λ l. l.1) t.lists in
    all_kept (Contains (types_named t)) t.lists j
    (all_more (λ n. IsIn n indices) (Contains (types_named t)) (λ n is. contains n (types_named t) (in_right n entries indices is)) indices (all_members indices))

-- a site that is found names its action
found_named : (test : Site → Bool) (sites : List Site) (s : Site) → find test sites ≡ Some s → s.action ≢ 0 → IsIn s.action (filter (λ a. not (a == 0)) (map (λ x. x.action) sites))
found_named test [] s found some = cc
found_named test (r ∷ rs) s found some = by_test (test r) found (λ f. found_named test rs s f some)
  where
    Acts : Type 0
    Acts = IsIn s.action (filter (λ a. not (a == 0)) (map (λ x. x.action) rs))

    some_same : (x y : Site) → Some x ≡ Some y → x ≡ y
    some_same x y e = cc

    zero_is : (b : Bool) → (r.action == 0) ≡ b → not b ≡ false → r.action ≡ s.action → ⊥
    zero_is true is passed e = some (let z : r.action ≡ 0 = grind (arith, nat_tests, is) in sym e ∙ z)
    zero_is false is passed e = absurd (let f : true ≡ false = passed in cc)

    behind : Acts → IsIn s.action (filter (λ a. not (a == 0)) (r.action ∷ map (λ x. x.action) rs))
    behind is =
        let rest = filter (λ a. not (a == 0)) (map (λ x. x.action) rs) in
        cond_both (not (r.action == 0)) (r.action ∷ rest) rest (IsIn s.action) (λ _. inr is) (λ _. is)

    first : r ≡ s → IsIn s.action (filter (λ a. not (a == 0)) (r.action ∷ map (λ x. x.action) rs))
    first same =
        let rest = filter (λ a. not (a == 0)) (map (λ x. x.action) rs) in
        let e : r.action ≡ s.action = ap (λ x. x.action) same in
        cond_both (not (r.action == 0)) (r.action ∷ rest) rest (IsIn s.action) (λ _. inl e) (λ passed. absurd (zero_is (r.action == 0) refl passed e))

    by_test : (b : Bool) → (if b then Some r else find test rs) ≡ Some s → (find test rs ≡ Some s → Acts) → IsIn s.action (filter (λ a. not (a == 0)) (r.action ∷ map (λ x. x.action) rs))
    by_test true f later = first (some_same r s f)
    by_test false f later = behind (later f)

pub site_named : (t : Table) (place : ℕ) → SiteIsNamed t (site_at t place)
site_named t place = by_site (site_at t place) refl
  where
    by_site : (found : Option Site) → site_at t place ≡ found → SiteIsNamed t found
    by_site None is = tt
    by_site (Some s) is = λ some. contains s.action (actions_named t) (found_named _ t.sites s is some)
