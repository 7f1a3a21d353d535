-- Regions with what their tables weigh at most.
use Rattle.std.proofs.Common.{◌≡◌, ℕ, ◌+◌, ◌≤◌, Bool, true, false, List, [], ◌∷◌, ◌++◌, if◌then◌else◌, arith}
use Rattle.region_forms.specs.Form.{Value, Op, Cleanup, Region, op, branch, loop, protect, regions_from, in_order}
use Rattle.linear_forms.specs.Emission.{may_raise}
use Rattle.source_bounds.specs.TableWeights.{cleanup_sites, sites_in, sites_in_all, guards_in, guards_in_all}

pub record Tabled (s g : ℕ) (rs : List Region) : Type 0 where
  pub sites : sites_in_all (regions_from rs) ≤ s
  pub guards : guards_in_all (regions_from rs) ≤ g

pub record TabledRegion (s g : ℕ) (r : Region) : Type 0 where
  pub sites : sites_in r ≤ s
  pub guards : guards_in r ≤ g

pub no_table : (s g : ℕ) → Tabled s g []
no_table s g = record { sites = omega arith; guards = omega arith }

pub upto : {s g : ℕ} {rs : List Region} (t h : ℕ) → Tabled s g rs → s ≤ t → g ≤ h → Tabled t h rs
upto t h k a b = record { sites = omega (arith, k.sites, a); guards = omega (arith, k.guards, b) }

pub first_of : {s g t h : ℕ} {r : Region} {rs : List Region} → TabledRegion s g r → Tabled t h rs → Tabled (s + t) (g + h) (r ∷ rs)
first_of k l = record { sites = omega (arith, k.sites, l.sites); guards = omega (arith, k.guards, l.guards) }

pub single : {s g : ℕ} {r : Region} → TabledRegion s g r → Tabled s g (r ∷ [])
single k = record { sites = omega (arith, k.sites); guards = omega (arith, k.guards) }

sites_both : (rs others : List Region) → sites_in_all (regions_from (rs ++ others)) ≡ sites_in_all (regions_from rs) + sites_in_all (regions_from others)
sites_both [] others = omega arith
sites_both (r ∷ rs) others = omega (arith, sites_both rs others)

guards_both : (rs others : List Region) → guards_in_all (regions_from (rs ++ others)) ≡ guards_in_all (regions_from rs) + guards_in_all (regions_from others)
guards_both [] others = omega arith
guards_both (r ∷ rs) others = omega (arith, guards_both rs others)

pub then_others : {s g t h : ℕ} (rs others : List Region) → Tabled s g rs → Tabled t h others → Tabled (s + t) (g + h) (rs ++ others)
then_others rs others k l =
    record { sites = omega (arith, k.sites, l.sites, sites_both rs others); guards = omega (arith, k.guards, l.guards, guards_both rs others) }

pub then_one : {s g t h : ℕ} (rs : List Region) (r : Region) → Tabled s g rs → TabledRegion t h r → Tabled (s + t) (g + h) (rs ++ r ∷ [])
then_one rs r k l = then_others rs (r ∷ []) k (single l)

-- an operation has one site at most
pub an_op : (o : Op) → TabledRegion 1 0 (op o)
an_op o = record { sites = go (may_raise o); guards = omega arith }
  where
    go : (b : Bool) → (if b then 1 else 0) ≤ 1
    go true = omega arith
    go false = omega arith

pub in_a_row : {s g : ℕ} (rs : List Region) → Tabled s g rs → TabledRegion s g (in_order rs)
in_a_row rs k = record { sites = k.sites; guards = k.guards }

pub two_sides : {s g t h : ℕ} (v : Value) (a b : Region) → TabledRegion s g a → TabledRegion t h b → TabledRegion (s + t) (g + h) (branch v a b)
two_sides v a b k l = record { sites = omega (arith, k.sites, l.sites); guards = omega (arith, k.guards, l.guards) }

pub a_loop : {s g : ℕ} (v : Value) (r : Region) → TabledRegion s g r → TabledRegion s g (loop v r)
a_loop v r k = record { sites = k.sites; guards = k.guards }

pub a_scope : {s g : ℕ} (r : Region) (c : Cleanup) → TabledRegion s g r → TabledRegion (s + cleanup_sites c) g (protect r c)
a_scope r c k = record { sites = omega (arith, k.sites); guards = k.guards }
