-- Fuel above the turns lasts.
use Rattle.std.proofs.Common.{◌≡◌, ℕ, zero, suc, ◌<◌, ◌≤◌, ℤ, Bool, true, false, refl, sym, ap, arith}
use Rattle.std.specs.Prelude.{nat_le, if◌then◌else◌}
use Rattle.cxx_ast.specs.Plain.{Checked}
use Rattle.meaning_forms.specs.Call.{opened, after_call, open_call, call_with}
use Rattle.meaning_forms.specs.Outcome.{Action, continued, change, stop, deep, ◌>>◌}
use Rattle.meaning_forms.specs.Statement.{spend, spend_turn}
use Rattle.meaning_forms.specs.World.{World}
use Rattle.meaning_forms.proofs.Turns.{call_with-spends}
use Rattle.meaning_forms.proofs.Fuel.{Agree, run_callee-same}
use Rattle.region_statements.specs.Fueled.{fueled_call, FuelLasts}

-- calls are opened the same
opens_same : (lim limit : ℕ) (x y : Action ℤ) → ((w : World) → w.turns < lim → x w ≡ y w) → (w : World) → w.turns < suc lim → open_call limit x w ≡ open_call limit y w
opens_same lim limit x y same w lt = go (nat_le limit w.open_calls)
  where
    spent : (n : ℕ) → n < suc lim
        → continued (spend n w) (λ u. change opened >> (λ v. after_call (x v))) ≡ continued (spend n w) (λ u. change opened >> (λ v. after_call (y v)))
    spent zero lt = refl
    spent (suc n) lt = ap after_call (same (opened (record w { turns = n })) (omega (arith, lt)))

    go : (z : Bool) → (if z then stop deep else (spend_turn >> (change opened >> (λ v. after_call (x v))))) w
        ≡ (if z then stop deep else (spend_turn >> (change opened >> (λ v. after_call (y v))))) w
    go true = refl
    go false = spent w.turns lt

agrees : (p : Checked) (limit lim n : ℕ) → lim ≤ n → Agree lim (call_with p limit n) (fueled_call p limit n)
agrees p limit zero n le callee this given c = record { same = λ w lt. absurd (omega (arith, lt)); spends = record { at = call_with-spends p limit n callee this given c } }
agrees p limit (suc lim) zero le callee this given c = absurd (omega (arith, le))
agrees p limit (suc lim) (suc n) le callee this given c =
    let inner = run_callee-same p lim (call_with p limit n) (fueled_call p limit n) (agrees p limit lim n (omega (arith, le))) callee this given c in
    record { same = opens_same lim limit _ _ inner.same; spends = record { at = call_with-spends p limit (suc n) callee this given c } }

pub fuel_lasts : FuelLasts
fuel_lasts p limit fuel callee this given c w lt = sym ((agrees p limit fuel fuel (omega arith) callee this given c).same w lt)
