-- What follows from the answer of the unwinder.
use Rattle.std.proofs.Common.{◌≡◌, ◌∙◌, refl, sym, ap, zero, suc, ◌==◌, cond, true, [], ◌∷◌, Some, ℤ, pos, negsuc}
use Rattle.eh_bytes.specs.declared.unit.RuntimeRecord.{RuntimeRecord}
use Rattle.rv64_isa.specs.State.{State}
use Rattle.raise_core.specs.declared.raised.Raised.{Raised}
use Rattle.caught_stack.specs.declared.header.HeaderKind.{HeaderKind}
use Rattle.caught_stack.specs.declared.header.HeaderKind.TheVariants.{Building, Native, Foreign}
use Rattle.caught_stack.specs.Caught.{Caught}
use Rattle.caught_stack.specs.Exceptions.{Exceptions}
use Rattle.caught_stack.specs.Rethrow.{rethrown_on}
use Rattle.cxa_runtime.specs.declared.object.Object.{Object}
use Rattle.cxa_runtime.specs.declared.flight.Flight.{Flight}
use Rattle.cxa_runtime.specs.declared.flight.Flight.TheVariants.{Raised as is_raised, Rethrown as is_rethrown}
use Rattle.cxa_runtime.specs.World.{World, Outcome, argument, a0, needs, with_exceptions}
use Rattle.cxa_runtime.specs.Objects.{is_foreign}
use Rattle.cxa_runtime.specs.Flying.{flown}
use Rattle.cxa_runtime.specs.Terminate.{terminates_now}
use Rattle.cxa_runtime.specs.Raising.{Image, foreign_unhandled, unhandled}
use Rattle.cxa_runtime.specs.Cancel.{unwinds}
use Rattle.cxa_runtime.specs.Throw.{resume_unwind, resume_object}

-- what is done by the answer
pub by_answer : (f : Raised × State → Outcome) (x : Raised × State) (answer known : Raised) (s : State) → (answer, s) ≡ x → answer ≡ known → f (known, s) ≡ f x
by_answer f x answer known s h is = ap (λ a. f (a, s)) (sym is) ∙ ap f h

-- an exception of a module that nothing handles is as before
live_again : (e : Exceptions) (c : Caught) → (rethrown_on c e).1.live ≡ e.live
live_again e [] = refl
live_again e ((s, pos zero) ∷ more) = refl
live_again e ((s, pos (suc n)) ∷ more) = refl
live_again e ((s, negsuc n) ∷ more) = refl

flown_back : (flight : Flight) (e : Exceptions) → record (flown flight e) { caught = e.caught; uncaught = e.uncaught } ≡ e
flown_back is_raised e = refl
flown_back is_rethrown e = ap (λ live. record { live = live; caught = e.caught; uncaught = e.uncaught }) (live_again e e.caught)

as_foreign : (places : RuntimeRecord) (before : Exceptions) (o : Object) (w : World) (kind : HeaderKind) → is_foreign kind ≡ true → foreign_unhandled places before w ≡ unhandled places before o w kind
as_foreign places before o w Building h = absurd (cc h)
as_foreign places before o w (Native type destructor) h = absurd (cc h)
as_foreign places before o w (Foreign k token) h = refl

pub foreign_passes : (places : RuntimeRecord) (flight : Flight) (o : Object) (w : World) → is_foreign o.header.kind ≡ true →
    terminates_now places w ≡ unhandled places w.exceptions o (with_exceptions (flown flight w.exceptions) w) o.header.kind
foreign_passes places flight o w h =
    ap (λ e. terminates_now places (with_exceptions e w)) (sym (flown_back flight w.exceptions))
    ∙ as_foreign places w.exceptions o (with_exceptions (flown flight w.exceptions) w) o.header.kind h

-- for 0 the forced unwind goes on
pub resume_zero : (image : Image) (w : World) (n : ℤ) → argument w a0 ≡ 0 → w.unwinding ≡ Some n → unwinds image n w ≡ resume_unwind image w
resume_zero image w n zero_is on =
    ap (λ u. needs w u (λ m. unwinds image m w)) (sym on)
    ∙ ap (λ a. cond (a == 0) (needs w w.unwinding (λ m. unwinds image m w)) (resume_object image w)) (sym zero_is)
