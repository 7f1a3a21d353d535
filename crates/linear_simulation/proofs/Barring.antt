-- A barrier, which holds one operation.
use Rattle.std.proofs.Common.{ℕ, ◌+◌, ◌<◌, ◌∷◌, sym, subst, arith}
use Rattle.meaning_forms.specs.Outcome.{thrown, cancelled, ended, undefined, out_of_turns, deep}
use Rattle.region_forms.specs.Guard.{everything}
use Rattle.region_forms.specs.Outcome.{Flow, normal, leaves, Result, done, stopped}
use Rattle.region_forms.specs.Ending.{Running, after_barrier}
use Rattle.linear_forms.specs.Tables.{bare}
use Rattle.linear_forms.specs.Stub.{compiled}
use Rattle.linear_forms.specs.Activation.{Code, State}
use Rattle.linear_forms.specs.CodeRuns.{Site, context_at, ExitsAt, Never, Any, Runs}
use Rattle.linear_forms.proofs.Running
use Rattle.linear_simulation.specs.Comes.{CallsRun, ComesToEnd}
use Rattle.linear_simulation.proofs.Coming
use Rattle.linear_simulation.proofs.Operations

module _ (code : Code) (most fuel n : ℕ) (run : Running) (calls_run : CallsRun code most fuel run) (s : Site) where
  abbrev pub barred_site : Site
  barred_site = record { func = s.func; cover = bare; frames = s.frames; guards = everything ∷ s.guards }

  ends_run : {c : ℕ} {L : ExitsAt} {m : State} {t p' : ℕ} (r : Result Flow) → ComesToEnd code most m t r c → Runs code most n c Any L s p' m t r
  ends_run {c} {L} {m} {t} {p'} r e =
      subst (λ z. Runs code most n c Any L s p' m t z) (sym e.is) (Operations.end_runs code most n {P = Any} {L = L} e.why e.state e.next e.reaches e.ends)

  pub barrier_out : {c : ℕ} {L : ExitsAt} {m : State} {t p' : ℕ} (r : Result Flow) → t < fuel → Runs code most n c Any Never barred_site p' m t r
      → Runs code most n (c + 2) Any L s p' m t (after_barrier run (context_at s) r)
  barrier_out {c} (done normal st) lt a = record { next = a.next; reaches = Running.slower code most n (c + 2) (omega arith) a.reaches; meets = a.meets }
  barrier_out (done (leaves k) st) lt a = absurd a.meets
  barrier_out (stopped (thrown e) st) lt a = let no = a.meets.2 in absurd (cc no)
  barrier_out {L = L} (stopped (cancelled k) st) lt a =
      ends_run {L = L} _ (Coming.terminate_ends code most fuel run calls_run st.world.installed.terminate_handler
      (record { function = compiled s.func; place = 0; frame = a.meets.0 }) s.frames s.guards st
      (omega (arith, a.reaches.falls, lt)) (Running.reaches_to code most n a.meets.2 a.reaches))
  barrier_out {c} (stopped (ended e) st) lt a = record { next = a.next; reaches = Running.slower code most n (c + 2) (omega arith) a.reaches; meets = a.meets }
  barrier_out {c} (stopped undefined st) lt a = record { next = a.next; reaches = Running.slower code most n (c + 2) (omega arith) a.reaches; meets = a.meets }
  barrier_out {c} (stopped out_of_turns st) lt a = record { next = a.next; reaches = Running.slower code most n (c + 2) (omega arith) a.reaches; meets = a.meets }
  barrier_out {c} (stopped deep st) lt a = record { next = a.next; reaches = Running.slower code most n (c + 2) (omega arith) a.reaches; meets = a.meets }
