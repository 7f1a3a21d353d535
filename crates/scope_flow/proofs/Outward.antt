-- What passes outwards through a specification or a handler, from how what is inside came out.
use Rattle.meaning_forms.specs.Statement.{after_try}
use Rattle.std.proofs.Common.{◌≡◌, ◌∙◌, ℕ, ℤ, Bool, true, false, List, refl, ap, sym, Err, Result as CodeResult}
use Rattle.std.specs.Prelude.{if◌then◌else◌}
use Rattle.meaning_forms.specs.Class.{ObjectType, contains}
use Rattle.meaning_forms.specs.World.{World, Installed, type_at}
use Rattle.meaning_forms.specs.Context.{Context}
use Rattle.meaning_forms.specs.Outcome.{Action, Result, stopped, thrown, stop, Flow}
use Rattle.meaning_forms.specs.Guard.{allows}
use Rattle.meaning_forms.specs.Running.{Running}
use Rattle.meaning_forms.specs.Handler.{goes_on}
use Rattle.meaning_forms.specs.Specification.{end_noexcept, after_unexpected, after_extent, unexpected}
use Rattle.scope_world.specs.declared.outcome.Halt.{Halt}
use Rattle.scope_world.specs.declared.outcome.Halt.TheVariants.{Thrown, Cancelled, Exited, Aborted, Undefined, OutOfTurns, Deep, NoMemory}
use Rattle.scope_world.specs.declared.outcome.Flow.{Flow as CodeFlow}
use Rattle.scope_world.specs.Gives.{GivesBy, Halts, flow_of}
use Rattle.scope_flow.proofs.Left.{throws}

-- what is no exception does not come to a specification
pub extent_passed : (r : Running) (types : List ObjectType) (c : Context) (m : Result Flow) (h : Halt) (w : World) → throws h ≡ false → Halts m h w → Halts (after_extent r types c m) h w
extent_passed r types c m (Thrown e) w u g = absurd (cc u)
extent_passed r types c m (Cancelled n) w u g = ap (after_extent r types c) g
extent_passed r types c m (Exited n) w u g = ap (after_extent r types c) g
extent_passed r types c m Aborted w u g = ap (after_extent r types c) g
extent_passed r types c m Undefined w u g = ap (after_extent r types c) g
extent_passed r types c m OutOfTurns w u g = ap (after_extent r types c) g
extent_passed r types c m Deep w u g = ap (after_extent r types c) g
extent_passed r types c m NoMemory w u g = tt

tested : (b : Bool) (x y : Action Flow) (w v : World) (answer : CodeResult CodeFlow Halt) → b ≡ true → GivesBy flow_of (x w) answer v → GivesBy flow_of ((if b then x else y) w) answer v
tested true x y w v answer e g = g
tested false x y w v answer e g = absurd (cc e)

untested : (b : Bool) (x y : Action Flow) (w v : World) (answer : CodeResult CodeFlow Halt) → b ≡ false → GivesBy flow_of (y w) answer v → GivesBy flow_of ((if b then x else y) w) answer v
untested false x y w v answer e g = g
untested true x y w v answer e g = absurd (cc e)

-- an exception that is allowed passes a specification
pub extent_allowed : (r : Running) (types : List ObjectType) (c : Context) (m : Result Flow) (n : ℕ) (w : World) (b : Bool) → m ≡ stopped (thrown n) w → b ≡ allows r.program types (type_at w n) → b ≡ true → Halts (after_extent r types c m) (Thrown n) w
extent_allowed r types c m n w b e is permitted = rw e (tested (allows r.program types (type_at w n)) (stop (thrown n)) (unexpected r types n c) w w (Err (Thrown n)) (sym is ∙ permitted) refl)

-- any other is unexpected
pub extent_stops : (r : Running) (types : List ObjectType) (c : Context) (m : Result Flow) (n : ℕ) (w v : World) (answer : CodeResult CodeFlow Halt) (b : Bool) → m ≡ stopped (thrown n) w → b ≡ allows r.program types (type_at w n) → b ≡ false
    → GivesBy flow_of (unexpected r types n c w) answer v → GivesBy flow_of (after_extent r types c m) answer v
extent_stops r types c m n w v answer b e is forbidden g = rw e (untested (allows r.program types (type_at w n)) (stop (thrown n)) (unexpected r types n c) w v answer (sym is ∙ forbidden) g)

-- what is no exception passes what is `noexcept`, and an exception ends the program
pub noexcept_passed : (r : Running) (c : Context) (m : Result Flow) (h : Halt) (w : World) → throws h ≡ false → Halts m h w → Halts (after_try (end_noexcept {A = Flow} r c) m) h w
noexcept_passed r c m (Thrown e) w u g = absurd (cc u)
noexcept_passed r c m (Cancelled n) w u g = ap (after_try (end_noexcept {A = Flow} r c)) g
noexcept_passed r c m (Exited n) w u g = ap (after_try (end_noexcept {A = Flow} r c)) g
noexcept_passed r c m Aborted w u g = ap (after_try (end_noexcept {A = Flow} r c)) g
noexcept_passed r c m Undefined w u g = ap (after_try (end_noexcept {A = Flow} r c)) g
noexcept_passed r c m OutOfTurns w u g = ap (after_try (end_noexcept {A = Flow} r c)) g
noexcept_passed r c m Deep w u g = ap (after_try (end_noexcept {A = Flow} r c)) g
noexcept_passed r c m NoMemory w u g = tt

pub noexcept_stops : (r : Running) (c : Context) (m : Result Flow) (n : ℕ) (w v : World) (answer : CodeResult CodeFlow Halt) → m ≡ stopped (thrown n) w → GivesBy flow_of (end_noexcept {A = Flow} r c n w) answer v
    → GivesBy flow_of (after_try (end_noexcept {A = Flow} r c) m) answer v
noexcept_stops r c m n w v answer e g = rw e g

-- what stops an unexpected handler otherwise than by an exception stops all
pub unexpected_passed : (r : Running) (types : List ObjectType) (kept : Installed) (c : Context) (m : Result ℤ) (h : Halt) (w : World) → throws h ≡ false → Halts m h w
    → Halts (after_unexpected {A = Flow} r types kept c m) h w
unexpected_passed r types kept c m (Thrown e) w u g = absurd (cc u)
unexpected_passed r types kept c m (Cancelled n) w u g = ap (after_unexpected {A = Flow} r types kept c) g
unexpected_passed r types kept c m (Exited n) w u g = ap (after_unexpected {A = Flow} r types kept c) g
unexpected_passed r types kept c m Aborted w u g = ap (after_unexpected {A = Flow} r types kept c) g
unexpected_passed r types kept c m Undefined w u g = ap (after_unexpected {A = Flow} r types kept c) g
unexpected_passed r types kept c m OutOfTurns w u g = ap (after_unexpected {A = Flow} r types kept c) g
unexpected_passed r types kept c m Deep w u g = ap (after_unexpected {A = Flow} r types kept c) g
unexpected_passed r types kept c m NoMemory w u g = tt

-- with no exception on its way, one goes on where another handler of it is active
pub active_goes_on : (n : ℕ) (c : Context) (m : Result Flow) (h : Halt) (w : World) → throws h ≡ false → (h ≡ NoMemory → ⊥) → Halts m h w → contains c.handled n ≡ goes_on n c m
active_goes_on n c m (Thrown e) w u k g = absurd (cc u)
active_goes_on n c m (Cancelled v) w u k g = sym (ap (goes_on n c) g)
active_goes_on n c m (Exited v) w u k g = sym (ap (goes_on n c) g)
active_goes_on n c m Aborted w u k g = sym (ap (goes_on n c) g)
active_goes_on n c m Undefined w u k g = sym (ap (goes_on n c) g)
active_goes_on n c m OutOfTurns w u k g = sym (ap (goes_on n c) g)
active_goes_on n c m Deep w u k g = sym (ap (goes_on n c) g)
active_goes_on n c m NoMemory w u k g = absurd (k refl)
