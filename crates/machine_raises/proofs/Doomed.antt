-- What both machines have of an exception that is thrown and for which there is no handler: it is entered.
use Rattle.std.proofs.Common.{◌≡◌, refl, ap, subst, arith, ℕ, ◌+◌, ◌-◌, Bool, true, false, List, map, slice_set, Option, Some}
use Rattle.std.specs.Prelude.{not, ◌||◌}
use Rattle.meaning_forms.specs.Class.{contains}
use Rattle.caught_stack.specs.declared.header.Header.{Header}
use Rattle.caught_stack.specs.declared.header.HeaderKind.TheVariants.{Building}
use Rattle.caught_stack.specs.Begin.{begun}
use Rattle.caught_stack.specs.Caught.{is_newest, is_caught}
use Rattle.caught_stack.proofs.Headers.{header_changed}
use Rattle.cxa_runtime.specs.declared.object.Object.{Object}
use Rattle.cxa_runtime.specs.Objects.{is_thrown}
use Rattle.cxa_runtime.specs.Catch.{entered}
use Rattle.cxa_runtime.specs.World as abi
use Rattle.cxa_runtime.specs.Throw.{native_object, flying}
use Rattle.region_forms.specs.Caught.{Entry, flown, entered_on}
use Rattle.region_forms.specs.World.{World, Exception, building, native, replaced}
use Rattle.region_forms.specs.Effect.{kept, entered_doomed}
use Rattle.linear_forms.specs.Activation.{Activation}
use Rattle.machine_simulation.specs.Plan.{Plan}
use Rattle.machine_simulation.specs.Exceptions.{Addresses, LinearExceptions, KeptExceptions, addresses_of, exceptions_in, kept_by, destroyed, live_in, HeaderIs, HasHeader, IsFunction, record_address, ExceptionsMatch}
use Rattle.machine_simulation.specs.Matches.{RuntimeMatches}
use Rattle.machine_exceptions.proofs.Headers.{slot_below, none_caught}
use Rattle.machine_exceptions.proofs.Enters.{entered_match}
use Rattle.machine_raises.proofs.Native.{built_stays, thrown_object}
use Rattle.machine_raises.proofs.Replaced.{plan_replaced}
use Rattle.machine_raises.proofs.Thrown.{idle, not_flown, thrown_match}

or_true : (a b : Bool) → b ≡ false → (a || not b) ≡ true
or_true true b h = refl
or_true false b h = ap not h

pub doomed_match : (t : Addresses) (gone : List ℕ) (v : LinearExceptions) (w : KeptExceptions) (e slot : ℕ) (old x : Exception) (new : Header) (m : ExceptionsMatch t gone v w) (h : HasHeader w.exceptions.live e slot) (counts : h.header.kind ≡ Building) →
    live_in v.live e ≡ Some old → contains gone e ≡ false → new.number ≡ e → HeaderIs t false x new → is_thrown new.kind ≡ true →
    ExceptionsMatch t gone (record v { live = map (replaced e x) v.live; caught = entered_on e v.caught })
    (record w { exceptions = begun slot (record w.exceptions { live = slice_set w.exceptions.live slot (Some new); uncaught = w.exceptions.uncaught + 1 }) })
doomed_match t gone v w e slot old x new m h counts there stays number is thrown =
    let headers = w.exceptions.live in
    let flew = thrown_match t gone v w e slot old x new m h counts there stays number is in
    let low = slot_below headers slot h.header h.there in
    let has : HasHeader (slice_set headers slot (Some new)) e slot = record { header = new; there = header_changed headers slot (Some new) low; number = number } in
    let out = none_caught headers slot (idle t gone v w e slot old x new m h counts there stays number is) v.caught w.exceptions.caught m.caught in
    let front = or_true (is_newest w.exceptions.caught slot) (is_caught w.exceptions.caught slot) out in
    let none : flown e v.caught ≡ v.caught = not_flown t gone v w e slot old x new m h counts there stays number is v.caught w.exceptions.caught m.caught in
    let after : KeptExceptions = record w { exceptions = begun slot (record w.exceptions { live = slice_set headers slot (Some new); uncaught = w.exceptions.uncaught + 1 }) } in
    let same : v.uncaught + 1 - 1 ≡ v.uncaught = omega arith in
    let both : ExceptionsMatch t gone (record v { live = map (replaced e x) v.live; caught = entered_on e (flown e v.caught); uncaught = v.uncaught + 1 - 1 }) after
    = entered_match t gone (record v { live = map (replaced e x) v.live; caught = flown e v.caught; uncaught = v.uncaught + 1 })
    (record w { exceptions = record w.exceptions { live = slice_set headers slot (Some new); uncaught = w.exceptions.uncaught + 1 } }) e slot has flew thrown front in
    let one : ExceptionsMatch t gone (record v { live = map (replaced e x) v.live; caught = entered_on e (flown e v.caught); uncaught = v.uncaught }) after
    = subst (λ u. ExceptionsMatch t gone (record v { live = map (replaced e x) v.live; caught = entered_on e (flown e v.caught); uncaught = u }) after) same both in
    subst (λ (xs : List Entry). ExceptionsMatch t gone (record v { live = map (replaced e x) v.live; caught = entered_on e xs; uncaught = v.uncaught }) after) none one

-- the exception travels no further: it is entered
pub doomed_runtime : (p : Plan) (fs : List Activation) (v : World) (w : abi.World) (e slot t k : ℕ) (d : Option ℕ) (r : RuntimeMatches p fs v w) (h : HasHeader w.exceptions.live e slot) → h.header.kind ≡ Building →
    live_in v.live e ≡ Some building → IsFunction (addresses_of p) d k → let o = thrown_object p w slot t k h.header in
    RuntimeMatches p fs (entered_doomed e (kept e t d v)) (entered o (flying o w))
doomed_runtime p fs v w e slot t k d r h counts there function =
    let places : Addresses = addresses_of p in
    let gone : List ℕ = destroyed fs in
    let m = r.exceptions in
    let o : Object = native_object w (record { slot = slot; header = h.header }) (record_address p.base t) k in
    let x : Exception = native t d v.installed in
    let is : HeaderIs places false x o.header = ((k, refl, function), (m.terminate_handler, m.unexpected_handler)) in
    record {
      input = r.input;
      replies = r.replies;
      last_number = r.last_number;
      terminating = r.terminating;
      exceptions = doomed_match places gone (exceptions_in v) (kept_by w) e slot building x o.header m h counts there (built_stays places gone (exceptions_in v) (kept_by w) e m there) h.number is refl;
      plan = plan_replaced p e x building v.live there r.plan;
    }
