-- The newest handled exception is entered again, or it was never thrown again, in what both machines keep.
use Rattle.std.proofs.Common.{◌≡◌, ◌∙◌, sym, ap, subst, arith, ℕ, ◌+◌, ◌-◌, ◌==◌, ◌||◌, not, true, false, ℤ, negsuc, List, ◌∷◌}
use Rattle.std.specs.Prelude.{if◌then◌else◌}
use Rattle.std.proofs.lemmas.Bool.Decides.{nat_tests}
use Rattle.caught_stack.specs.Begin.{begun}
use Rattle.caught_stack.specs.Caught.{Caught, is_caught, is_in_front as is_front_slot}
use Rattle.caught_stack.specs.Exceptions.{Exceptions}
use Rattle.cxa_runtime.specs.Catch.{entered}
use Rattle.cxa_runtime.specs.Objects.{is_thrown}
use Rattle.cxa_runtime.specs.declared.object.Object.{Object}
use Rattle.cxa_runtime.specs.World as abi
use Rattle.cxa_runtime.specs.World.{with_exceptions}
use Rattle.region_forms.specs.Caught.{Entry, counted, entered_on, flown}
use Rattle.region_forms.specs.World.{World}
use Rattle.region_forms.specs.Effect.{entered_doomed}
use Rattle.linear_forms.specs.Activation.{Activation}
use Rattle.machine_simulation.specs.Plan.{Plan}
use Rattle.machine_simulation.specs.Exceptions.{Addresses, LinearExceptions, KeptExceptions, addresses_of, exceptions_in, kept_by, destroyed, HasHeader, ExceptionsMatch}
use Rattle.machine_simulation.specs.Matches.{RuntimeMatches}
use Rattle.machine_exceptions.proofs.Enters.{entered_match}
use Rattle.machine_raises.proofs.Again.{again_match}

-- the exceptions of the runtime where the newest one travels again
abbrev pub again_in : Exceptions → (slot more : ℕ) → Caught → Exceptions
again_in x slot n more = record x { caught = (slot, negsuc n) ∷ more; uncaught = x.uncaught + 1 }

abbrev pub again_world : abi.World → (slot more : ℕ) → Caught → abi.World
again_world y slot n more = with_exceptions (again_in y.exceptions slot n more) y

itself : (e : ℕ) → (e == e) ≡ true
itself e = grind (arith, nat_tests)

-- that it travelled again is forgotten where it is entered
entered_again : (x : Entry) (xs : List Entry) → entered_on x.number (flown x.number (x ∷ xs)) ≡ entered_on x.number (x ∷ xs)
entered_again x xs =
    ap (λ b. entered_on x.number ((if b then record x { again = true } else x) ∷ xs)) (itself x.number) ∙ ap (λ b. counted b x.number false (record x { again = true }) xs) (itself x.number)
    ∙ sym (ap (λ b. counted b x.number false x xs) (itself x.number))

front : (slot : ℕ) (n : ℤ) (more : Caught) → is_front_slot ((slot, n) ∷ more) slot ≡ true
front slot n more = ap (λ b. b || not (is_caught ((slot, n) ∷ more) slot)) (itself slot)

again_entered : (t : Addresses) (gone : List ℕ) (v : LinearExceptions) (w : KeptExceptions) (x : Entry) (xs : List Entry) (slot : ℕ) (n : ℤ) (more : Caught) → ExceptionsMatch t gone v w → v.caught ≡ x ∷ xs → w.exceptions.caught ≡ (slot, n) ∷ more →
    (has : HasHeader w.exceptions.live x.number slot) → is_thrown has.header.kind ≡ true → ExceptionsMatch t gone (record v { caught = entered_on x.number v.caught }) (record w { exceptions = begun slot (again_in w.exceptions slot x.more more) })
again_entered t gone v w x xs slot n more m newest top has thrown =
    let again : Exceptions = again_in w.exceptions slot x.more more in
    let flew : LinearExceptions = record v { caught = flown x.number v.caught; uncaught = v.uncaught + 1 } in
    let still : HasHeader again.live x.number slot = record { header = has.header; there = has.there; number = has.number } in
    let one : ExceptionsMatch t gone flew (record w { exceptions = again }) = again_match t gone v w x xs slot n more m newest top in
    let both : ExceptionsMatch t gone (record flew { caught = entered_on x.number flew.caught; uncaught = v.uncaught + 1 - 1 }) (record w { exceptions = begun slot again })
    = entered_match t gone flew (record w { exceptions = again }) x.number slot still one thrown (front slot (negsuc x.more) more) in
    let count : v.uncaught + 1 - 1 ≡ v.uncaught = omega arith in
    let list : entered_on x.number flew.caught ≡ entered_on x.number v.caught
    = ap (λ ys. entered_on x.number (flown x.number ys)) newest ∙ entered_again x xs ∙ sym (ap (entered_on x.number) newest) in
    let two : ExceptionsMatch t gone (record v { caught = entered_on x.number flew.caught; uncaught = v.uncaught }) (record w { exceptions = begun slot again })
    = subst (λ u. ExceptionsMatch t gone (record v { caught = entered_on x.number flew.caught; uncaught = u }) (record w { exceptions = begun slot again })) count both in
    subst (λ (ys : List Entry). ExceptionsMatch t gone (record v { caught = ys; uncaught = v.uncaught }) (record w { exceptions = begun slot again })) list two

-- a native exception that nothing stops, and that was thrown again, is entered
pub again_runtime : (p : Plan) (fs : List Activation) (v : World) (y : abi.World) (x : Entry) (xs : List Entry) (o : Object) (n : ℤ) (more : Caught) → RuntimeMatches p fs v y → v.caught ≡ x ∷ xs → y.exceptions.caught ≡ (o.slot, n) ∷ more →
    (has : HasHeader y.exceptions.live x.number o.slot) → is_thrown has.header.kind ≡ true → RuntimeMatches p fs (entered_doomed x.number v) (entered o (again_world y o.slot x.more more))
again_runtime p fs v y x xs o n more r newest top has thrown = record {
  input = r.input;
  replies = r.replies;
  last_number = r.last_number;
  terminating = r.terminating;
  exceptions = again_entered (addresses_of p) (destroyed fs) (exceptions_in v) (kept_by y) x xs o.slot n more r.exceptions newest top has thrown;
  plan = r.plan;
}

-- a foreign one is not entered, and what travelled again is as before
abbrev pub before_world : Exceptions → abi.World → abi.World
before_world before w = with_exceptions (record (w.exceptions) { caught = before.caught; uncaught = before.uncaught }) w

pub before_runtime : (p : Plan) (fs : List Activation) (v : World) (y : abi.World) (slot n : ℕ) (more : Caught) → RuntimeMatches p fs v y → RuntimeMatches p fs v (before_world y.exceptions (again_world y slot n more))
before_runtime p fs v y slot n more r =
    let m = r.exceptions in
    record {
      input = r.input;
      replies = r.replies;
      last_number = r.last_number;
      terminating = r.terminating;
      exceptions = record {
        sound = record { slots = m.sound.slots; live = m.sound.live; once = m.sound.once; counted = m.sound.counted };
        headers = m.headers;
        live = m.live;
        count = m.count;
        once = m.once;
        numbers = m.numbers;
        caught = m.caught;
        uncaught = m.uncaught;
        terminate_handler = m.terminate_handler;
        unexpected_handler = m.unexpected_handler;
        distinct = m.distinct;
        left = m.left;
      };
      plan = r.plan;
    }
