-- A call, from what is done in it.
use Rattle.std.proofs.Common.{◌≡◌, ℤ, Bool, true, false, List, refl, ap, sym, subst, Ok, Err, Result as CodeResult}
use Rattle.std.specs.Prelude.{nat_le, if◌then◌else◌}
use Rattle.cxx_ast.specs.Plain.{Checked}
use Rattle.meaning_forms.specs.World.{World, Reference}
use Rattle.meaning_forms.specs.Context.{Context}
use Rattle.meaning_forms.specs.Outcome.{Action, Result, done, stop, deep, change, ◌>>◌}
use Rattle.meaning_forms.specs.Running.{Callee, Argument}
use Rattle.meaning_forms.specs.Statement.{spend_turn}
use Rattle.meaning_forms.specs.Call.{run_callee, opened, closed, after_call}
use Rattle.scope_world.specs.declared.outcome.Halt.{Halt}
use Rattle.scope_world.specs.declared.outcome.Halt.TheVariants.{Thrown, Cancelled, Exited, Aborted, Undefined, OutOfTurns, Deep, NoMemory}
use Rattle.scope_world.specs.Gives.{Gives, Halts}
use Rattle.scope_flow.specs.Always.{full_call, always}
use Rattle.scope_flow.proofs.Passing.{halts_continued, gives_next}
use Rattle.scope_meaning.proofs.Endless.{calls_open}

-- what is done in a call comes out of it, closed
closing : (m : Result ℤ) (answer : CodeResult ℤ Halt) (v : World) → Gives m answer v → Gives (after_call m) answer (closed v)
closing m (Ok a) v g = ap after_call g
closing m (Err (Thrown e)) v g = ap after_call g
closing m (Err (Cancelled n)) v g = ap after_call g
closing m (Err (Exited n)) v g = ap after_call g
closing m (Err Aborted) v g = ap after_call g
closing m (Err Undefined) v g = ap after_call g
closing m (Err OutOfTurns) v g = ap after_call g
closing m (Err Deep) v g = ap after_call g
closing m (Err NoMemory) v g = tt

untested : (b : Bool) (act act' : Action ℤ) (w v : World) (answer : CodeResult ℤ Halt) → b ≡ false → Gives (act' w) answer v → Gives ((if b then act else act') w) answer v
untested false act act' w v answer e g = g
untested true act act' w v answer e g = absurd (cc e)

tested : (b : Bool) (act act' : Action ℤ) (w v : World) (answer : CodeResult ℤ Halt) → b ≡ true → Gives (act w) answer v → Gives ((if b then act else act') w) answer v
tested true act act' w v answer e g = g
tested false act act' w v answer e g = absurd (cc e)

-- what is left of a call once its turn is spent
abbrev inside : Checked → Callee → Reference → List Argument → Context → Action ℤ
inside p callee x given c = change opened >> (λ v. after_call (run_callee (always p) callee x given c v))

-- a call beyond the limit is deep
pub call_deep : (p : Checked) (callee : Callee) (x : Reference) (given : List Argument) (c : Context) (w : World) → nat_le 128 w.open_calls ≡ true → Halts (full_call p callee x given c w) Deep w
call_deep p callee x given c w high =
    rw (calls_open p callee x given c w) (tested (nat_le 128 w.open_calls) (stop deep) (spend_turn >> inside p callee x given c) w w (Err Deep) high refl)

-- a call for which no turn is left
pub call_unspent : (p : Checked) (callee : Callee) (x : Reference) (given : List Argument) (c : Context) (w u : World) (h : Halt)
    → nat_le 128 w.open_calls ≡ false → Halts (spend_turn w) h u → Halts (full_call p callee x given c w) h u
call_unspent p callee x given c w u h low g =
    rw (calls_open p callee x given c w)
    (untested (nat_le 128 w.open_calls) (stop deep) (spend_turn >> inside p callee x given c) w u (Err h) low
    (halts_continued (spend_turn w) (λ a. inside p callee x given c) h u g))

closes : (p : Checked) (callee : Callee) (x : Reference) (given : List Argument) (c : Context) (w u v : World) (answer : CodeResult ℤ Halt)
    → nat_le 128 w.open_calls ≡ false → spend_turn w ≡ done tt u → Gives (run_callee (always p) callee x given c (opened u)) answer v → Gives (full_call p callee x given c w) answer (closed v)
closes p callee x given c w u v answer low spent g =
    rw (calls_open p callee x given c w)
    (untested (nat_le 128 w.open_calls) (stop deep) (spend_turn >> inside p callee x given c) w (closed v) answer low
    (gives_next (spend_turn w) (λ a. inside p callee x given c) tt u (closed v) answer spent (closing (run_callee (always p) callee x given c (opened u)) answer v g)))

-- a call is what is done in it, once a turn is spent
pub call_done : (p : Checked) (callee : Callee) (x : Reference) (given : List Argument) (c : Context) (w u inner v after : World) (answer : CodeResult ℤ Halt)
    → nat_le 128 w.open_calls ≡ false → spend_turn w ≡ done tt u → opened u ≡ inner → closed v ≡ after
    → Gives (run_callee (always p) callee x given c inner) answer v → Gives (full_call p callee x given c w) answer after
call_done p callee x given c w u inner v after answer low spent within out g =
    subst (λ z. Gives (full_call p callee x given c w) answer z) out
    (closes p callee x given c w u v answer low spent (subst (λ z. Gives (run_callee (always p) callee x given c z) answer v) (sym within) g))
