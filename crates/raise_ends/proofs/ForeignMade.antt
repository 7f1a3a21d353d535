-- What both machines have of a foreign exception that is made and never travels.
use Rattle.std.proofs.Common.{◌≡◌, ◌∙◌, refl, sym, ap, subst, arith, ℕ, ◌+◌, ◌==◌, true, false, List, [], ◌∷◌, slice_set, Option, Some, None, is_some}
use Rattle.std.specs.Prelude.{if◌then◌else◌}
use Rattle.std.proofs.lemmas.Bool.Decides.{nat_tests}
use Rattle.eh_outer.specs.declared.module.Reply.{Reply}
use Rattle.caught_stack.specs.declared.header.Header.{Header}
use Rattle.caught_stack.specs.declared.header.HeaderKind.TheVariants.{Foreign}
use Rattle.caught_stack.specs.Live.{Live as Headers, is_vacant}
use Rattle.caught_stack.specs.Caught.{Caught}
use Rattle.caught_stack.proofs.Headers.{vacant_below}
use Rattle.cxa_runtime.specs.Allocate.{new_header}
use Rattle.cxa_runtime.specs.World as abi
use Rattle.cxa_runtime.specs.Foreign.{foreign_made}
use Rattle.region_forms.specs.Caught.{Entry, flown}
use Rattle.region_forms.specs.World.{World, Exception}
use Rattle.region_forms.specs.Effect.{flies}
use Rattle.linear_forms.specs.Activation.{Activation}
use Rattle.machine_simulation.specs.Plan.{Plan}
use Rattle.machine_simulation.specs.Exceptions.{Addresses, LinearExceptions, KeptExceptions, addresses_of, exceptions_in, kept_by, destroyed, live_in, AreCaught, ExceptionsMatch}
use Rattle.machine_simulation.specs.Matches.{RuntimeMatches}
use Rattle.machine_simulation.specs.Objects.{with_object}
use Rattle.machine_exceptions.proofs.Made.{slots_apart}
use Rattle.machine_exceptions.proofs.Making.{Making}
use Rattle.machine_raises.proofs.ForeignMade.{foreign_runtime}
use Rattle.machine_raises.proofs.Native.{set_again}
use Rattle.raise_ends.specs.Modules.{raising_world}

-- no handler has an exception with the next number
new_not_flown : (t : Addresses) (gone : List ℕ) (v : LinearExceptions) (w : KeptExceptions) (xs : List Entry) (ys : Caught) → ExceptionsMatch t gone v w → AreCaught w.exceptions.live xs ys → flown (v.last_number + 1) xs ≡ xs
new_not_flown t gone v w [] ys m c = refl
new_not_flown t gone v w (x ∷ xs) [] m c = absurd c
new_not_flown t gone v w (x ∷ xs) ((s, n) ∷ ys) m c =
    let has = c.0.0 in
    let at = m.headers s has.header has.there in
    let low = m.numbers has.header.number at.exception at.live in
    let number = has.number in
    let other : (x.number == v.last_number + 1) ≡ false = grind (arith, nat_tests, low, number) in
    ap (λ b. (if b then record x { again = true } else x) ∷ xs) other

-- the module has the replies that are left
abbrev pub left_in : abi.World → ℕ → List Reply → abi.World
left_in y k left = record y { replies = slice_set y.replies k left }

abbrev pub made_in : abi.World → (slot k token : ℕ) → List Reply → abi.World
made_in y slot k token left = foreign_made k token slot (left_in y k left)

pub made_runtime : (p : Plan) (fs : List Activation) (v : World) (y : abi.World) (slot k token : ℕ) (left : List Reply) → RuntimeMatches p fs v y → is_vacant y.exceptions.live slot ≡ true →
    RuntimeMatches (with_object p (v.last_number + 1) slot) fs (raising_world v k token left) (made_in y slot k token left)
made_runtime p fs v y slot k token left r vacant =
    let e : ℕ = v.last_number + 1 in
    let q : Plan = with_object p e slot in
    let gone : List ℕ = destroyed fs in
    let made : abi.World = made_in y slot k token left in
    let header : Header = new_header (y.last_number + 1) (Foreign k token) in
    let headers : Headers = y.exceptions.live in
    let u : World = raising_world v k token left in
    let flew : LinearExceptions = exceptions_in (flies e u) in
    let one = foreign_runtime p fs v y slot k token left 0 0 r vacant in
    let kept : Headers → KeptExceptions = λ live. record (kept_by y) { exceptions = record y.exceptions { live = live; uncaught = y.exceptions.uncaught + 1 } } in
    let twice : ExceptionsMatch (addresses_of q) gone flew (kept (slice_set (slice_set headers slot (Some header)) slot (Some header))) = one.exceptions in
    let m = subst (λ live. ExceptionsMatch (addresses_of q) gone flew (kept live)) (set_again headers slot (Some header) (Some header)) twice in
    let count = r.exceptions.uncaught in
    let list : flown e v.caught ≡ v.caught = new_not_flown (addresses_of p) gone (exceptions_in v) (kept_by y) v.caught y.exceptions.caught r.exceptions r.exceptions.caught in
    record {
      input = one.input;
      replies = one.replies;
      last_number = one.last_number;
      terminating = one.terminating;
      exceptions = record {
        sound = record { slots = m.sound.slots; live = m.sound.live; once = m.sound.once; counted = m.sound.counted };
        headers = m.headers;
        live = m.live;
        count = m.count;
        once = m.once;
        numbers = m.numbers;
        caught = subst (λ xs. AreCaught (slice_set headers slot (Some header)) xs y.exceptions.caught) list m.caught;
        uncaught = count;
        terminate_handler = m.terminate_handler;
        unexpected_handler = m.unexpected_handler;
        distinct = m.distinct;
        left = m.left;
      };
      plan = one.plan;
    }

-- ---- the object's bytes

some_there : (o : Option Exception) → is_some o ≡ true → (z : Exception) × (o ≡ Some z)
some_there None h = absurd (cc h)
some_there (Some z) h = (z, refl)

pub making_in : (p : Plan) (fs : List Activation) (v : World) (y : abi.World) (slot k token : ℕ) (left : List Reply) → RuntimeMatches p fs v y → is_vacant y.exceptions.live slot ≡ true → Making p (v.last_number + 1) slot v (raising_world v k token left)
making_in p fs v y slot k token left r vacant = record {
  next = refl;
  number = refl;
  memory = refl;
  calls = refl;
  below = vacant_below y.exceptions.live slot vacant;
  others = λ d live.
      let there = some_there (live_in v.live d) (sym (r.plan.live d) ∙ live) in
      let apart = slots_apart (addresses_of p) (destroyed fs) (exceptions_in v) (kept_by y) slot r.exceptions vacant d there.0 there.1 in
      (apart.0, apart.1, r.plan.size d live, apart.2);
}
