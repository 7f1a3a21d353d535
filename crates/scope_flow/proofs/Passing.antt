-- A stop passes outwards, and an answer goes on to what is done next.
use Rattle.std.proofs.Common.{◌≡◌, ◌∙◌, ℕ, true, false, ap, Result as CodeResult}
use Rattle.meaning_forms.specs.World.{World}
use Rattle.meaning_forms.specs.Outcome.{Result, done, thrown, cancelled, stop, Action, continued}
use Rattle.meaning_forms.specs.Throw.{free, after_building}
use Rattle.meaning_forms.specs.Handler.{after_destructor}
use Rattle.scope_world.specs.declared.outcome.Halt.{Halt}
use Rattle.scope_world.specs.declared.outcome.Halt.TheVariants.{Thrown, Cancelled, Exited, Aborted, Undefined, OutOfTurns, Deep, NoMemory}
use Rattle.scope_world.specs.Gives.{Gives, GivesBy, Halts, unwinds}

-- what stops a first computation stops the whole
pub halts_continued : {A B : Type 0} (first : Result A) (next : A → Action B) (h : Halt) (w : World) → Halts first h w → Halts (continued first next) h w
halts_continued first next (Thrown e) w g = ap (λ m. continued m next) g
halts_continued first next (Cancelled n) w g = ap (λ m. continued m next) g
halts_continued first next (Exited n) w g = ap (λ m. continued m next) g
halts_continued first next Aborted w g = ap (λ m. continued m next) g
halts_continued first next Undefined w g = ap (λ m. continued m next) g
halts_continued first next OutOfTurns w g = ap (λ m. continued m next) g
halts_continued first next Deep w g = ap (λ m. continued m next) g
halts_continued first next NoMemory w g = tt

-- what is done next decides where the first computation is done
pub gives_next : {A B : Type 0} (first : Result A) (next : A → Action B) (a : A) (w u : World) (answer : CodeResult B Halt) → first ≡ done a w → Gives (next a w) answer u → Gives (continued first next) answer u
gives_next first next a w u answer e g = rw e g

pub gives_by_next : {A B C : Type 0} (view : C → B) (first : Result A) (next : A → Action B) (a : A) (w u : World) (answer : CodeResult C Halt) → first ≡ done a w → GivesBy view (next a w) answer u → GivesBy view (continued first next) answer u
gives_by_next view first next a w u answer e g = rw e g

pub halts_next : {A B : Type 0} (first : Result A) (next : A → Action B) (a : A) (w u : World) (h : Halt) → first ≡ done a w → Halts (next a w) h u → Halts (continued first next) h u
halts_next first next a w u h e g = rw e g

-- what is built is freed where the building is left by an exception or a forced unwind
pub freed : (n : ℕ) (m : Result ℕ) (h : Halt) (w w' : World) → unwinds h ≡ true → Halts m h w → free n w ≡ done tt w' → Halts (after_building n m) h w'
freed n m (Thrown f) w w' u e h = ap (after_building n) e ∙ ap (λ r. continued r (λ a. stop {A = ℕ} (thrown f))) h
freed n m (Cancelled v) w w' u e h = ap (after_building n) e ∙ ap (λ r. continued r (λ a. stop {A = ℕ} (cancelled v))) h
freed n m (Exited v) w w' u e h = absurd (cc u)
freed n m Aborted w w' u e h = absurd (cc u)
freed n m Undefined w w' u e h = absurd (cc u)
freed n m OutOfTurns w w' u e h = absurd (cc u)
freed n m Deep w w' u e h = absurd (cc u)
freed n m NoMemory w w' u e h = absurd (cc u)

pub not_freed : (n : ℕ) (m : Result ℕ) (h : Halt) (w : World) → unwinds h ≡ false → Halts m h w → Halts (after_building n m) h w
not_freed n m (Thrown f) w u e = absurd (cc u)
not_freed n m (Cancelled v) w u e = absurd (cc u)
not_freed n m (Exited v) w u e = ap (after_building n) e
not_freed n m Aborted w u e = ap (after_building n) e
not_freed n m Undefined w u e = ap (after_building n) e
not_freed n m OutOfTurns w u e = ap (after_building n) e
not_freed n m Deep w u e = ap (after_building n) e
not_freed n m NoMemory w u e = tt

-- an exception object is freed after its destructor, also where that is left by an exception or a forced unwind
pub destroyed : (n : ℕ) (m : Result (Unit {0})) (w w' : World) → m ≡ done tt w → free n w ≡ done tt w' → after_destructor n m ≡ done tt w'
destroyed n m w w' e h = ap (after_destructor n) e ∙ h

pub destroyed_halts : (n : ℕ) (m : Result (Unit {0})) (h : Halt) (w w' : World) → unwinds h ≡ true → Halts m h w → free n w ≡ done tt w' → Halts (after_destructor n m) h w'
destroyed_halts n m (Thrown f) w w' u e h = ap (after_destructor n) e ∙ ap (λ r. continued r (λ a. stop {A = Unit {0}} (thrown f))) h
destroyed_halts n m (Cancelled v) w w' u e h = ap (after_destructor n) e ∙ ap (λ r. continued r (λ a. stop {A = Unit {0}} (cancelled v))) h
destroyed_halts n m (Exited v) w w' u e h = absurd (cc u)
destroyed_halts n m Aborted w w' u e h = absurd (cc u)
destroyed_halts n m Undefined w w' u e h = absurd (cc u)
destroyed_halts n m OutOfTurns w w' u e h = absurd (cc u)
destroyed_halts n m Deep w w' u e h = absurd (cc u)
destroyed_halts n m NoMemory w w' u e h = absurd (cc u)

pub not_destroyed : (n : ℕ) (m : Result (Unit {0})) (h : Halt) (w : World) → unwinds h ≡ false → Halts m h w → Halts (after_destructor n m) h w
not_destroyed n m (Thrown f) w u e = absurd (cc u)
not_destroyed n m (Cancelled v) w u e = absurd (cc u)
not_destroyed n m (Exited v) w u e = ap (after_destructor n) e
not_destroyed n m Aborted w u e = ap (after_destructor n) e
not_destroyed n m Undefined w u e = ap (after_destructor n) e
not_destroyed n m OutOfTurns w u e = ap (after_destructor n) e
not_destroyed n m Deep w u e = ap (after_destructor n) e
not_destroyed n m NoMemory w u e = tt

-- how a computation passes on what comes of its first part
pub ruleset passing = (halts_continued, gives_next, gives_by_next, halts_next)
