-- A reader on its way: what is still to be read from a place on is what is read of all.
use Rattle.std.proofs.Common.{◌≡◌, ◌≤◌, ◌<◌, ◌+◌, ℕ, zero, suc, refl, ◌∙◌, arith}

-- rest n p is what is read from p on with so much fuel
pub record OnWay {A : Type 0} (rest : ℕ → ℕ → A) (stop : ℕ) (total : A) (p : ℕ) : Type 0 where
  pub fuel : ℕ
  pub enough : stop ≤ p + fuel
  pub all : total ≡ rest fuel p

pub begins : {A : Type 0} (rest : ℕ → ℕ → A) (stop p : ℕ) → OnWay rest stop (rest stop p) p
begins rest stop p = record { fuel = stop; enough = omega arith; all = refl }

pub goes_on : {A : Type 0} (rest rest' : ℕ → ℕ → A) (stop : ℕ) (total : A) (p q : ℕ) → p < q → p < stop →
    ((n : ℕ) → rest (suc n) p ≡ rest' n q) → OnWay rest stop total p → OnWay rest' stop total q
goes_on rest rest' stop total p q on inside step w = by_fuel w.fuel w.enough w.all
  where
    by_fuel : (n : ℕ) → stop ≤ p + n → total ≡ rest n p → OnWay rest' stop total q
    by_fuel zero enough all = absurd (omega (arith, enough, inside))
    by_fuel (suc n) enough all = record { fuel = n; enough = omega (arith, enough, on); all = all ∙ step n }

pub ends : {A : Type 0} (rest : ℕ → ℕ → A) (stop : ℕ) (total x : A) (p : ℕ) → p < stop →
    ((n : ℕ) → rest (suc n) p ≡ x) → OnWay rest stop total p → total ≡ x
ends rest stop total x p inside step w = by_fuel w.fuel w.enough w.all
  where
    by_fuel : (n : ℕ) → stop ≤ p + n → total ≡ rest n p → total ≡ x
    by_fuel zero enough all = absurd (omega (arith, enough, inside))
    by_fuel (suc n) enough all = all ∙ step n

pub is_done : {A : Type 0} (rest : ℕ → ℕ → A) (stop : ℕ) (total x : A) (p : ℕ) →
    ((n : ℕ) → rest n p ≡ x) → OnWay rest stop total p → total ≡ x
is_done rest stop total x p step w = w.all ∙ step w.fuel
