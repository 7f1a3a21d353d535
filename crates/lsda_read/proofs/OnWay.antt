-- A reader on its way: what answers so far, and what answers of the rest, is what answers of all.
use Rattle.std.proofs.Common.{◌≡◌, ◌≤◌, ◌<◌, ◌+◌, ℕ, zero, suc, Option, None, refl, ap, sym, ◌∙◌, arith}
use Rattle.table_forms.specs.Fault.{Fault, joined}
use Rattle.table_forms.proofs.Least.{joined_joined}

-- rest n p is what answers of the rest from p on, read with so much fuel
pub record OnWay (rest : ℕ → ℕ → Option Fault) (len : ℕ) (total so_far : Option Fault) (p : ℕ) : Type 0 where
  pub fuel : ℕ
  pub enough : len < p + fuel
  pub all : total ≡ joined so_far (rest fuel p)

pub begins : (rest : ℕ → ℕ → Option Fault) (len p : ℕ) → OnWay rest len (rest (1 + len) p) None p
begins rest len p = record { fuel = 1 + len; enough = omega arith; all = refl }

pub goes_on : (rest rest' : ℕ → ℕ → Option Fault) (len : ℕ) (total so_far x : Option Fault) (p q : ℕ) → p < q → p ≤ len →
    ((n : ℕ) → rest (suc n) p ≡ joined x (rest' n q)) → OnWay rest len total so_far p → OnWay rest' len total (joined so_far x) q
goes_on rest rest' len total so_far x p q on inside step w = by_fuel w.fuel w.enough w.all
  where
    by_fuel : (n : ℕ) → len < p + n → total ≡ joined so_far (rest n p) → OnWay rest' len total (joined so_far x) q
    by_fuel zero enough all = absurd (omega (arith, enough, inside))
    by_fuel (suc n) enough all = record { fuel = n; enough = omega (arith, enough, on); all = all ∙ ap (joined so_far) (step n) ∙ joined_joined so_far x (rest' n q) }

pub is_done : (rest : ℕ → ℕ → Option Fault) (len : ℕ) (total so_far x : Option Fault) (p : ℕ) → p ≤ len →
    ((n : ℕ) → rest (suc n) p ≡ x) → OnWay rest len total so_far p → joined so_far x ≡ total
is_done rest len total so_far x p inside step w = by_fuel w.fuel w.enough w.all
  where
    by_fuel : (n : ℕ) → len < p + n → total ≡ joined so_far (rest n p) → joined so_far x ≡ total
    by_fuel zero enough all = absurd (omega (arith, enough, inside))
    by_fuel (suc n) enough all = sym (all ∙ ap (joined so_far) (step n))
