-- What the runtime keeps of a native exception that is thrown.
use Rattle.std.proofs.Common.{◌≡◌, ◌∙◌, refl, sym, ap, subst, ℕ, zero, suc, ◌+◌, Bool, true, false, List, [], ◌∷◌, map, slice_set, Option, Some}
use Rattle.meaning_forms.specs.Class.{contains}
use Rattle.caught_stack.specs.declared.header.Header.{Header}
use Rattle.caught_stack.specs.declared.header.HeaderKind.TheVariants.{Building}
use Rattle.caught_stack.specs.Allocate.{with_header}
use Rattle.cxa_runtime.specs.declared.object.Object.{Object}
use Rattle.cxa_runtime.specs.World as abi
use Rattle.cxa_runtime.specs.World.{with_exceptions}
use Rattle.cxa_runtime.specs.Flying.{aimed}
use Rattle.cxa_runtime.specs.Throw.{native_object, flying}
use Rattle.region_forms.specs.Caught.{flown}
use Rattle.region_forms.specs.World.{World, Exception, building, native, replaced}
use Rattle.region_forms.specs.Effect.{flies, kept}
use Rattle.linear_forms.specs.Activation.{Activation}
use Rattle.machine_simulation.specs.Plan.{Plan}
use Rattle.machine_simulation.specs.Exceptions.{Addresses, LinearExceptions, KeptExceptions, addresses_of, exceptions_in, kept_by, destroyed, live_in, HeaderIs, HasHeader, IsFunction, record_address, ExceptionsMatch}
use Rattle.machine_simulation.specs.Matches.{RuntimeMatches}
use Rattle.machine_raises.proofs.Replaced.{plan_replaced}
use Rattle.machine_raises.proofs.Thrown.{thrown_match}

-- an exception that is being built counts so in the runtime too, and its destructor does not run
pub counts_building : (t : Addresses) (b : Bool) (h : Header) → HeaderIs t b building h → h.kind ≡ Building
counts_building t true h is = is
counts_building t false h is = is

pub built_stays : (t : Addresses) (gone : List ℕ) (v : LinearExceptions) (w : KeptExceptions) (e : ℕ) → ExceptionsMatch t gone v w → live_in v.live e ≡ Some building → contains gone e ≡ false
built_stays t gone v w e m there = by (contains gone e) refl
  where
    by : (b : Bool) → contains gone e ≡ b → contains gone e ≡ false
    by false is = is
    by true is =
        let left = m.left e is in
        let both : Some building ≡ Some (native left.type left.destructor left.kept) = sym there ∙ left.live in
        absurd (cc both)

pub set_again : {A : Type 0} (xs : List A) (n : ℕ) (a b : A) → slice_set (slice_set xs n a) n b ≡ slice_set xs n b
set_again [] n a b = refl
set_again (x ∷ xs) zero a b = refl
set_again (x ∷ xs) (suc n) a b = ap (λ ys. x ∷ ys) (set_again xs n a b)

abbrev pub thrown_object : (p : Plan) (w : abi.World) (slot t k : ℕ) → Header → Object
thrown_object p w slot t k h = native_object w (record { slot = slot; header = h }) (record_address p.base t) k

pub thrown_runtime : (p : Plan) (fs : List Activation) (v : World) (w : abi.World) (e slot t k : ℕ) (d : Option ℕ) (cfa table : ℕ) (r : RuntimeMatches p fs v w) (h : HasHeader w.exceptions.live e slot) → h.header.kind ≡ Building →
    live_in v.live e ≡ Some building → IsFunction (addresses_of p) d k → (let o = thrown_object p w slot t k h.header in let w1 = flying o w in
    RuntimeMatches p fs (flies e (kept e t d v)) (with_exceptions (with_header slot (aimed cfa table o.header) w1.exceptions) w1))
thrown_runtime p fs v w e slot t k d cfa table r h counts there function =
    let places : Addresses = addresses_of p in
    let gone : List ℕ = destroyed fs in
    let m = r.exceptions in
    let o : Object = native_object w (record { slot = slot; header = h.header }) (record_address p.base t) k in
    let new : Header = aimed cfa table o.header in
    let x : Exception = native t d v.installed in
    let is : HeaderIs places false x new = ((k, refl, function), (m.terminate_handler, m.unexpected_handler)) in
    let thrown = thrown_match places gone (exceptions_in v) (kept_by w) e slot building x new m h counts there (built_stays places gone (exceptions_in v) (kept_by w) e m there) h.number is in
    record {
      input = r.input;
      replies = r.replies;
      last_number = r.last_number;
      terminating = r.terminating;
      exceptions = subst (λ live. ExceptionsMatch places gone (record (exceptions_in v) { live = map (replaced e x) v.live; caught = flown e v.caught; uncaught = v.uncaught + 1 })
          (record (kept_by w) { exceptions = record w.exceptions { live = live; uncaught = w.exceptions.uncaught + 1 } })) (sym (set_again w.exceptions.live slot (Some o.header) (Some new))) thrown;
      plan = plan_replaced p e x building v.live there r.plan;
    }
