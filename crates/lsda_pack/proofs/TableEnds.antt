-- A table ends at or behind each part that is read of it.
use Rattle.std.proofs.Common.{◌≡◌, ◌≢◌, ◌==◌, ◌≤◌, ℕ, Bool, true, false, List, [], ◌∷◌, ◌++◌, take, map, refl, arith}
use Rattle.std.specs.Prelude.{max, fold, flat_map, if◌then◌else◌}
use Rattle.std.specs.List.{AllByRecursion}
use Rattle.std.proofs.lemmas.Bool.Decides.{nat_tests}
use Rattle.eh_bytes.specs.Memory.{Part}
use Rattle.table_forms.specs.LsdaHead.{Head}
use Rattle.table_forms.specs.LsdaSites.{SiteRecord, site_records}
use Rattle.table_forms.specs.LsdaChain.{action_end, chain_of}
use Rattle.table_forms.specs.Lsda.{Table}
use Rattle.table_forms.proofs.Alls.{all_more}
use Rattle.lsda_pack.specs.TableEnd.{record_end, chain_ends, action_ends, name_ends, table_end}

-- the greatest of some numbers and another is at or above each
above : (n : ℕ) (ns : List ℕ) → (n ≤ fold max n ns) × AllByRecursion (λ m. m ≤ fold max n ns) ns
above n [] = (omega arith, tt)
above n (m ∷ ns) =
    let rest = above (max n m) ns in
    let first = rest.0 in
    (omega (arith, first), (omega (arith, first), rest.1))

all_front : {X : Type 0} (P : X → Type 0) (xs ys : List X) → AllByRecursion P (xs ++ ys) → AllByRecursion P xs
all_front P [] ys all = tt
all_front P (x ∷ xs) ys all = (all.0, all_front P xs ys all.1)

all_behind : {X : Type 0} (P : X → Type 0) (xs ys : List X) → AllByRecursion P (xs ++ ys) → AllByRecursion P ys
all_behind P [] ys all = all
all_behind P (x ∷ xs) ys all = all_behind P xs ys all.1

pub all_each : {X Y : Type 0} (P : Y → Type 0) (f : X → List Y) (xs : List X) → AllByRecursion P (flat_map f xs) → AllByRecursion (λ x. AllByRecursion P (f x)) xs
all_each P f [] all = tt
all_each P f (x ∷ xs) all = (all_front P (f x) (flat_map f xs) all, all_each P f xs (all_behind P (f x) (flat_map f xs) all))

pub all_of : {X Y : Type 0} (P : Y → Type 0) (f : X → Y) (xs : List X) → AllByRecursion P (map f xs) → AllByRecursion (λ x. P (f x)) xs
all_of P f [] all = tt
all_of P f (x ∷ xs) all = (all.0, all_of P f xs all.1)

-- the parts of a table, which all end at or before a place
pub record EndBefore (part : Part) (h : Head) (table : Table) (stop : ℕ) : Type 0 where
  pub sites : h.actions_at ≤ stop
  pub chains : AllByRecursion (λ r. r.action ≢ 0 → AllByRecursion (λ l. record_end (take (action_end part h.types) part.bytes) l.at ≤ stop) (chain_of part h r.action).links) (site_records part h).records
  pub names : AllByRecursion (λ n. n ≤ stop) (name_ends part h.types table)

pub ends_before : (part : Part) (h : Head) (table : Table) → EndBefore part h table (table_end part h table)
unfolding table_end
ends_before part h table =
    let stop = fold max h.actions_at (action_ends part h ++ name_ends part h.types table) in
    let P : ℕ → Type 0 = λ n. n ≤ stop in
    let all = above h.actions_at (action_ends part h ++ name_ends part h.types table) in
    let chain : SiteRecord → List ℕ = λ r. if r.action == 0 then [] else chain_ends part h r.action in
    let chains = all_each P chain (site_records part h).records (all_front P (action_ends part h) (name_ends part h.types table) all.1) in
    record {
      sites = all.0;
      chains = all_more (λ r. AllByRecursion P (chain r))
          (λ r. r.action ≢ 0 → AllByRecursion (λ l. P (record_end (take (action_end part h.types) part.bytes) l.at)) (chain_of part h r.action).links)
          (λ r is some. each stop r.action (r.action == 0) refl some is) (site_records part h).records chains;
      names = all_behind P (action_ends part h) (name_ends part h.types table) all.1;
    }
  where
    each : (stop a : ℕ) (b : Bool) → (a == 0) ≡ b → a ≢ 0 → AllByRecursion (λ n. n ≤ stop) (if b then [] else chain_ends part h a) →
        AllByRecursion (λ l. record_end (take (action_end part h.types) part.bytes) l.at ≤ stop) (chain_of part h a).links
    each stop a true is some all = let none : a ≡ 0 = grind (arith, nat_tests, is) in absurd (some none)
    each stop a false is some all = all_of (λ n. n ≤ stop) (λ l. record_end (take (action_end part h.types) part.bytes) l.at) (chain_of part h a).links all
