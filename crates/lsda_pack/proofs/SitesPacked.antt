-- Packed sites are in order, lie in their function, and have chains that are there.
use Rattle.std.proofs.Common.{◌≡◌, ◌≢◌, ◌+◌, ◌-◌, ◌<◌, ◌≤◌, ◌==◌, ℕ, ℤ, Bool, true, false, List, [], ◌∷◌, length, map, refl, ap, subst, ◌∙◌, arith}
use Rattle.std.specs.Prelude.{Option, Some, None, IfSome, option_map, nat_lt, ◌&&◌, ◌||◌, if◌then◌else◌}
use Rattle.std.specs.List.{AllByRecursion}
use Rattle.std.proofs.lemmas.Bool.{cond_both}
use Rattle.std.proofs.lemmas.Bool.Decides.{nat_tests}
use Rattle.std.proofs.lemmas.Option.{slice_get_within}
use Rattle.eh_bytes.specs.declared.frames.Region64.{Region64}
use Rattle.eh_bytes.specs.declared.table.ListSite.{ListSite}
use Rattle.eh_bytes.specs.Memory.{Memory, is_code}
use Rattle.table_forms.specs.declared.found.Site.{Site}
use Rattle.table_forms.specs.WrittenTable.{SiteFits}
use Rattle.eh_write.specs.CanWrite.{AreInOrder}
use Rattle.lsda_pack.specs.Chains.{chain_of, number_in, numbered}
use Rattle.lsda_pack.specs.Joined.{is_same_chain, goes_on, both, joined_from, joined}
use Rattle.lsda_pack.specs.ReadLists.{site_listed}
use Rattle.lsda_pack.specs.Rule.{pads_count}
use Rattle.lsda_pack.proofs.ChainsKept.{HasKept, is_kept, found_at}
use Rattle.lsda_pack.proofs.ListsRead.{SiteIs}
use Rattle.lsda_pack.proofs.SitesJoined.{left_true, right_true}
use Rattle.lsda_pack.proofs.TableHas.{RisesFrom, SiteLies}

-- sites that rise are in order when their places count from the start of the function
pub listed_order : (start : ℕ) (actions : List (ℕ × List ℤ)) (before b : ℕ) (ss : List Site) → AllByRecursion (SiteIs start actions) ss → RisesFrom before ss → b ≤ before - start →
    AreInOrder b (map (site_listed start actions) ss)
listed_order start actions before b [] is rises low = tt
listed_order start actions before b (s ∷ ss) is rises low =
    let own = is.0 in
    let first = own.first in
    let order = own.order in
    let up = rises.0 in
    (omega (arith, low, up, first), listed_order start actions s.end (s.start - start + (s.end - s.start)) ss is.1 rises.1 (omega (arith, first, order)))

pub numbered_order : (chains kept : List (List ℤ)) (b : ℕ) (ss : List ListSite) → AreInOrder b ss → AreInOrder b (map (numbered chains kept) ss)
numbered_order chains kept b [] order = tt
numbered_order chains kept b (s ∷ ss) order = (order.0, numbered_order chains kept (s.start + s.length) ss order.1)

-- where two sites are joined the second begins where the first ends
next_start : (s t : ListSite) → goes_on s t ≡ true → s.start + s.length ≡ t.start
next_start s t e =
    let is = left_true (s.start + s.length == t.start) (s.pad == t.pad) (left_true (s.start + s.length == t.start && s.pad == t.pad) (is_same_chain s.chain t.chain) e) in
    grind (arith, nat_tests, is)

from_order : (ts : List ListSite) (s : ListSite) (b : ℕ) → AreInOrder b (s ∷ ts) → AreInOrder b (joined_from s ts)
from_order [] s b order = order
from_order (t ∷ ts) s b order =
    cond_both (goes_on s t) (joined_from (both s t) ts) (s ∷ joined_from t ts) (AreInOrder b)
    (λ e. let next = next_start s t e in
    let end : t.start + t.length ≡ s.start + (s.length + t.length) = omega (arith, next) in
    from_order ts (both s t) b (order.0, subst (λ n. AreInOrder n ts) end order.1.1))
    (λ e. (order.0, from_order ts t (s.start + s.length) order.1))

pub joined_order : (ss : List ListSite) (b : ℕ) → AreInOrder b ss → AreInOrder b (joined ss)
joined_order [] b order = tt
joined_order (s ∷ ss) b order = from_order ss s b order

-- what holds of sites, and of two as one, holds of the joined ones
all_from : (P : ListSite → Type 0) → ((s t : ListSite) → goes_on s t ≡ true → P s → P t → P (both s t)) → (ts : List ListSite) (s : ListSite) → P s → AllByRecursion P ts →
    AllByRecursion P (joined_from s ts)
all_from P joins [] s own all = (own, tt)
all_from P joins (t ∷ ts) s own all =
    cond_both (goes_on s t) (joined_from (both s t) ts) (s ∷ joined_from t ts) (AllByRecursion P) (λ e. all_from P joins ts (both s t) (joins s t e own all.0) all.1)
    (λ e. (own, all_from P joins ts t all.0 all.1))

pub all_joined : (P : ListSite → Type 0) → ((s t : ListSite) → goes_on s t ≡ true → P s → P t → P (both s t)) → (ss : List ListSite) → AllByRecursion P ss → AllByRecursion P (joined ss)
all_joined P joins [] all = tt
all_joined P joins (s ∷ ss) all = all_from P joins ss s all.0 all.1

pub fits_joined : (memory : Memory) (region : Region64) (ss : List ListSite) → AllByRecursion (SiteFits memory region) ss → AllByRecursion (SiteFits memory region) (joined ss)
fits_joined memory region ss all =
    all_joined (SiteFits memory region)
    (λ s t e one two. let next = next_start s t e in let inside = two.inside in record { inside = omega (arith, next, inside); code = one.code }) ss all

pub fits_numbered : (memory : Memory) (region : Region64) (chains kept : List (List ℤ)) (ss : List ListSite) → AllByRecursion (SiteFits memory region) ss →
    AllByRecursion (SiteFits memory region) (map (numbered chains kept) ss)
fits_numbered memory region chains kept [] all = tt
fits_numbered memory region chains kept (s ∷ ss) all = (record { inside = all.0.inside; code = all.0.code }, fits_numbered memory region chains kept ss all.1)

-- a pad is none, or lies above the start of its function
pad_code : (memory : Memory) (start pad : ℕ) → (pad == 0 || nat_lt start pad) ≡ true → (pad == 0 || is_code memory pad) ≡ true → (if pad == 0 then 0 else pad - start) ≢ 0 →
    is_code memory (start + (if pad == 0 then 0 else pad - start)) ≡ true
pad_code memory start pad counts code some = step (pad == 0) refl counts code some
  where
    step : (b : Bool) → (pad == 0) ≡ b → (b || nat_lt start pad) ≡ true → (b || is_code memory pad) ≡ true → (if b then 0 else pad - start) ≢ 0 →
        is_code memory (start + (if b then 0 else pad - start)) ≡ true
    step true e c d some' = absurd (some' refl)
    step false e c d some' =
        let above : start < pad = grind (arith, nat_tests, c) in
        let place : start + (pad - start) ≡ pad = omega (arith, above) in
        ap (is_code memory) place ∙ d

pub fits_listed : (memory : Memory) (region : Region64) (actions : List (ℕ × List ℤ)) (ss : List Site) → AllByRecursion (SiteIs region.start actions) ss →
    AllByRecursion (SiteLies memory region) ss → pads_count region.start ss ≡ true → AllByRecursion (SiteFits memory region) (map (site_listed region.start actions) ss)
fits_listed memory region actions [] is lie counts = tt
fits_listed memory region actions (s ∷ ss) is lie counts =
    let own = is.0 in
    let first = own.first in
    let order = own.order in
    let end = lie.0.0 in
    let two = both_true (s.pad == 0 || nat_lt region.start s.pad) (pads_count region.start ss) counts in (
      record { inside = omega (arith, first, order, end); code = λ some. pad_code memory region.start s.pad two.0 lie.0.1 some },
      fits_listed memory region actions ss is.1 lie.1 two.1,
    )
  where
    both_true : (a b : Bool) → (a && b) ≡ true → (a ≡ true) × (b ≡ true)
    both_true a b e = (left_true a b e, right_true a b e)

-- a chain is there
abbrev pub ChainThere : List (List ℤ) → Option ℕ → Type 0
ChainThere chains o = IfSome o (λ c. c < length chains)

numbered_there : (chains kept : List (List ℤ)) (s : ListSite) → HasKept chains kept s → ChainThere kept (numbered chains kept s).chain
numbered_there chains kept s has = step (chain_of chains s) has
  where
    step : (o : Option (List ℤ)) → IfSome o (λ c. is_kept kept c ≡ true) → ChainThere kept (option_map (number_in kept) o)
    step None has' = tt
    step (Some c) has' = slice_get_within kept (number_in kept c) c (found_at c kept has')

pub all_numbered_there : (chains kept : List (List ℤ)) (ss : List ListSite) → AllByRecursion (HasKept chains kept) ss → AllByRecursion (λ s. ChainThere kept s.chain) (map (numbered chains kept) ss)
all_numbered_there chains kept [] has = tt
all_numbered_there chains kept (s ∷ ss) has = (numbered_there chains kept s has.0, all_numbered_there chains kept ss has.1)
