-- A call with as much fuel as it needs is opened, and what is done in it makes such calls too.
use Rattle.std.proofs.Common.{◌≡◌, ◌<◌, ℕ, zero, suc, ℤ, Bool, true, false, List, refl, ap, arith}
use Rattle.std.specs.Prelude.{nat_le, if◌then◌else◌}
use Rattle.cxx_ast.specs.Plain.{Checked}
use Rattle.meaning_forms.specs.World.{World, Reference}
use Rattle.meaning_forms.specs.Context.{Context}
use Rattle.meaning_forms.specs.Outcome.{Action, stop, deep, change, ◌>>◌}
use Rattle.meaning_forms.specs.Running.{Callee, Argument}
use Rattle.meaning_forms.specs.Statement.{spend, spend_turn}
use Rattle.meaning_forms.specs.Call.{call_with, run_callee, running, open_call, opened, after_call}
use Rattle.meaning_forms.proofs.Turns.{call_with-spends}
use Rattle.meaning_forms.proofs.Fuel.{Agree, run_callee-same, call_with-enough}
use Rattle.scope_flow.specs.Always.{full_call, always}

agree : (p : Checked) (n : ℕ) → Agree n (call_with p 128 n) (full_call p)
unfolding full_call
agree p n callee x given c = record {
  same = λ w l. call_with-enough p 128 n callee x given c w l;
  spends = record { at = λ w. call_with-spends p 128 n callee x given c w };
}

inside : (p : Checked) (n : ℕ) (callee : Callee) (x : Reference) (given : List Argument) (c : Context) (v : World) → v.turns < n → run_callee (running p 128 n) callee x given c v ≡ run_callee (always p) callee x given c v
inside p n callee x given c v l = (run_callee-same p n (call_with p 128 n) (full_call p) (agree p n) callee x given c).same v l

spent : (n : ℕ) (act act' : Action ℤ) (w : World) → ((v : World) → v.turns < n → act v ≡ act' v) → (spend n >> (change opened >> (λ v. after_call (act v)))) w ≡ (spend n >> (change opened >> (λ v. after_call (act' v)))) w
spent zero act act' w h = refl
spent (suc m) act act' w h = ap after_call (h (opened (record w { turns = m })) (omega arith))

tested : (b : Bool) (act act' : Action ℤ) (w : World) → ((v : World) → v.turns < w.turns → act v ≡ act' v)
    → (if b then stop deep else (spend_turn >> (change opened >> (λ v. after_call (act v))))) w ≡ (if b then stop deep else (spend_turn >> (change opened >> (λ v. after_call (act' v))))) w
tested true act act' w h = refl
tested false act act' w h = spent w.turns act act' w h

pub calls_open : (p : Checked) (callee : Callee) (x : Reference) (given : List Argument) (c : Context) (w : World) → full_call p callee x given c w ≡ open_call 128 (run_callee (always p) callee x given c) w
unfolding full_call
calls_open p callee x given c w =
    tested (nat_le 128 w.open_calls) (run_callee (running p 128 w.turns) callee x given c) (run_callee (always p) callee x given c) w (λ v l. inside p w.turns callee x given c v l)
