-- The runtime enters an exception that a specification stopped, and tells the handler and the table that are kept with it.
use Rattle.std.proofs.Common.{◌≡◌, ◌∙◌, refl, sym, ap, subst, arith, ℕ, ◌<◌, ◌&&◌, Bool, true, false, List, Option, Some}
use Rattle.std.specs.Prelude.{nat_lt, if◌then◌else◌}
use Rattle.std.proofs.lemmas.Bool.Decides.{nat_tests}
use Rattle.meaning_forms.specs.Class.{contains}
use Rattle.meaning_forms.specs.World.{Installed}
use Rattle.caught_stack.specs.Caught.{handler_count, is_small, is_in_front as is_front_slot}
use Rattle.cxa_runtime.specs.declared.object.Object.{Object}
use Rattle.cxa_runtime.specs.Objects.{object_of, object_where, is_thrown, is_native}
use Rattle.cxa_runtime.specs.MayBegin.{may_begin}
use Rattle.cxa_runtime.specs.World as abi
use Rattle.cxa_runtime.specs.World.{argument, gives_both, needs, refused}
use Rattle.cxa_runtime.specs.Raising.{Image}
use Rattle.cxa_runtime.specs.Catch.{entered as runtime_entered}
use Rattle.cxa_runtime.specs.Unexpected.{unexpected_begin, begins_unexpected}
use Rattle.cxa_runtime.specs.Call.{call_effect, numbered}
use Rattle.region_forms.specs.World.{of_exception, World, Exception, native}
use Rattle.region_forms.specs.Effect.{entered}
use Rattle.region_forms.specs.Lives.{may_enter}
use Rattle.linear_forms.specs.Activation.{Activation}
use Rattle.machine_simulation.specs.Plan.{Plan}
use Rattle.machine_simulation.specs.Exceptions.{Addresses, KeptExceptions, addresses_of, exceptions_in, kept_by, destroyed, live_in, HasHeader, HeaderIs, HandlersAre, ExceptionsMatch}
use Rattle.machine_simulation.specs.Matches.{RuntimeMatches}
use Rattle.machine_exceptions.specs.Enters.{MayEnter}
use Rattle.machine_exceptions.proofs.Travels.{can_enter}
use Rattle.machine_exceptions.proofs.Headers.{slot_below}
use Rattle.machine_exceptions.proofs.Finding.{object_found}
use Rattle.machine_exceptions.proofs.Freed.{slots_alike}
use Rattle.machine_exceptions.proofs.CaughtLists.{front_alike, counts_small}
use Rattle.machine_exceptions.proofs.Enters.{entered_match}

begin_is : (image : Image) (wish : ℕ) (t : abi.World) → call_effect 18 image wish t ≡ unexpected_begin t
unfolding call_effect numbered
begin_is image wish t = refl

-- ---- a native exception in the runtime

-- a native exception that is live, of which no destructor runs, is found by the address of its object; its handlers are those that were kept with it
pub record NativeFound (p : Plan) (e slot : ℕ) (kept : Installed) (w : abi.World) (has : HasHeader w.exceptions.live e slot) : Type 0 where
  pub object : p.at (of_exception e) ≡ object_of slot
  pub below : slot < 1024
  pub native : is_native has.header.kind ≡ true
  pub thrown : is_thrown has.header.kind ≡ true
  pub handlers : HandlersAre (addresses_of p) kept has.header.handlers
  pub found : object_where is_native w.exceptions.live (p.at (of_exception e)) ≡ Some (record { slot = slot; header = has.header })

pub native_found : (p : Plan) (gone : List ℕ) (v : World) (w : abi.World) (e slot type : ℕ) (d : Option ℕ) (kept : Installed) (has : HasHeader w.exceptions.live e slot) → ExceptionsMatch (addresses_of p) gone (exceptions_in v) (kept_by w) →
    live_in v.live e ≡ Some (native type d kept) → contains gone e ≡ false → NativeFound p e slot kept w has
native_found p gone v w e slot type d kept has m live whole =
    let t : Addresses = addresses_of p in
    let h = has.header in
    let x : Exception = native type d kept in
    let s = m.headers slot h has.there in
    let both : Some s.exception ≡ Some x = sym s.live ∙ ap (live_in v.live) has.number ∙ live in
    let same : s.exception ≡ x = cc both in
    let is0 : HeaderIs t (contains gone e) x h = subst (λ y. HeaderIs t (contains gone e) y h) same (subst (λ k. HeaderIs t (contains gone k) s.exception h) has.number s.is) in
    let is : HeaderIs t false x h = subst (λ b. HeaderIs t b x h) whole is0 in
    let object : p.at (of_exception e) ≡ object_of slot = ap (λ k. p.at (of_exception k)) (sym has.number) ∙ s.object in
    let below = slot_below w.exceptions.live slot h has.there in
    let small : slot < 1024 = omega (arith, below, m.sound.slots) in
    let native_kind : is_native h.kind ≡ true = ap is_native is.0.1 in
    record {
      object = object;
      below = small;
      native = native_kind;
      thrown = ap is_thrown is.0.1;
      handlers = is.1;
      found = ap (object_where is_native w.exceptions.live) object ∙ object_found is_native w.exceptions.live slot h small has.there native_kind;
    }

-- ---- it is entered

all_three : (a b c : Bool) → a ≡ true → b ≡ true → c ≡ true → (a && b && c) ≡ true
all_three true true true x y z = refl
all_three true true false x y z = absurd (cc z)
all_three true false c x y z = absurd (cc y)
all_three false b c x y z = absurd (cc x)

-- the exception is entered on both machines
pub record Enters (p : Plan) (fs : List Activation) (v : World) (e slot : ℕ) (w : abi.World) (has : HasHeader w.exceptions.live e slot) : Type 0 where
  pub may : may_begin w.exceptions slot ≡ true
  pub runtime : RuntimeMatches p fs (entered e v) (runtime_entered (record { slot = slot; header = has.header }) w)

pub enters : (p : Plan) (fs : List Activation) (v : World) (w : abi.World) (e slot : ℕ) (has : HasHeader w.exceptions.live e slot) → RuntimeMatches p fs v w → MayEnter fs v e → may_enter v e ≡ true → is_thrown has.header.kind ≡ true → Enters p fs v e slot w has
enters p fs v w e slot has r ok defined thrown =
    let t : Addresses = addresses_of p in
    let gone : List ℕ = destroyed fs in
    let k : KeptExceptions = kept_by w in
    let m = r.exceptions in
    let can = can_enter fs v e ok defined in
    let unique : (a : ℕ) → HasHeader w.exceptions.live e a → slot ≡ a = λ a b. slots_alike t gone (exceptions_in v) k e slot a m has b in
    let front = front_alike w.exceptions.live e slot has unique v.caught w.exceptions.caught m.caught can.front in
    let some : nat_lt 0 w.exceptions.uncaught ≡ true = grind (arith, nat_tests, m.uncaught, can.travels) in
    record {
      may = all_three (nat_lt 0 w.exceptions.uncaught) (is_small (handler_count w.exceptions.caught slot)) (is_front_slot w.exceptions.caught slot) some
          (counts_small w.exceptions.live e slot has unique v.caught w.exceptions.caught m.caught can.few) front;
      runtime = record {
        input = r.input;
        replies = r.replies;
        last_number = r.last_number;
        terminating = r.terminating;
        exceptions = entered_match t gone (exceptions_in v) k e slot has m thrown front;
        plan = r.plan;
      };
    }

-- what runtime call 18 does
pub begins_is : (image : Image) (wish : ℕ) (p : Plan) (e slot : ℕ) (kept : Installed) (w : abi.World) (has : HasHeader w.exceptions.live e slot) → NativeFound p e slot kept w has → may_begin w.exceptions slot ≡ true → argument w 10 ≡ p.at (of_exception e) →
    call_effect 18 image wish w ≡ abi.goes (gives_both has.header.handlers.1 has.header.lsda (runtime_entered (record { slot = slot; header = has.header }) w))
begins_is image wish p e slot kept w has f may given =
    let o : Object = record { slot = slot; header = has.header } in
    begin_is image wish w ∙ ap (λ k. needs w k (begins_unexpected w)) (ap (object_where is_native w.exceptions.live) given ∙ f.found)
    ∙ ap (λ b. if b then abi.goes (gives_both o.header.handlers.1 o.header.lsda (runtime_entered o w)) else refused w) may
