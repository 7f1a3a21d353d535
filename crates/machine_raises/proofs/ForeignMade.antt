-- What both machines have of a foreign exception that a module raises.
use Rattle.std.proofs.Common.{◌≡◌, ◌∙◌, refl, sym, ap, subst, arith, ℕ, ◌+◌, ◌≤◌, ◌<◌, ◌==◌, Bool, true, false, List, [], ◌∷◌, length, map, slice_set, Option, Some, None, is_some}
use Rattle.std.specs.Prelude.{if◌then◌else◌}
use Rattle.std.proofs.lemmas.Bool.Decides.{nat_tests}
use Rattle.eh_outer.specs.declared.module.Reply.{Reply}
use Rattle.run_items.specs.declared.item.Item.TheVariants.{Foreign as ForeignItem}
use Rattle.caught_stack.specs.declared.header.Header.{Header}
use Rattle.caught_stack.specs.declared.header.HeaderKind.TheVariants.{Building, Foreign}
use Rattle.caught_stack.specs.Allocate.{with_header}
use Rattle.caught_stack.specs.Live.{Live as Headers, is_vacant}
use Rattle.caught_stack.proofs.Headers.{vacant_below, header_changed}
use Rattle.cxa_runtime.specs.Allocate.{new_header}
use Rattle.cxa_runtime.specs.World as abi
use Rattle.cxa_runtime.specs.World.{with_exceptions}
use Rattle.cxa_runtime.specs.Flying.{one_uncaught, aimed}
use Rattle.cxa_runtime.specs.Foreign.{foreign_object, foreign_made}
use Rattle.region_forms.specs.Caught.{flown}
use Rattle.region_forms.specs.World.{of_exception, World, Exception, building, foreign, Live, replaced, with_item}
use Rattle.region_forms.specs.Effect.{with_new, flies}
use Rattle.linear_forms.specs.Activation.{Activation}
use Rattle.machine_simulation.specs.Plan.{Plan}
use Rattle.machine_simulation.specs.Exceptions.{LinearExceptions, KeptExceptions, addresses_of, exceptions_in, kept_by, destroyed, live_in, HasHeader, PlanHas, ExceptionsMatch}
use Rattle.machine_simulation.specs.Matches.{RuntimeMatches}
use Rattle.machine_simulation.specs.Objects.{with_object}
use Rattle.machine_exceptions.proofs.LiveLists.{with_one, new_in, other_in}
use Rattle.machine_exceptions.proofs.Made.{made_match}
use Rattle.machine_exceptions.proofs.Making.{new_at, old_at}
use Rattle.machine_raises.proofs.Thrown.{thrown_match}
use Rattle.machine_raises.proofs.Native.{built_stays, set_again}

-- the world in which it is made: its module has the replies that are left
abbrev pub foreign_world : World → (k token : ℕ) → List Reply → World
foreign_world v k token left = with_item (ForeignItem (v.last_number + 1) k token) (with_new (foreign k token) (record v { replies = slice_set v.replies k left }))

itself : (e : ℕ) → (e == e) ≡ true
itself e = grind (arith, nat_tests)

replaced_one : (lives : List Live) (e : ℕ) (x y : Exception) → live_in lives e ≡ None → map (replaced e x) (with_one lives e y) ≡ with_one lives e x
replaced_one [] e x y none = ap (λ b. (if b then record { number = e; exception = x } else record { number = e; exception = y }) ∷ []) (itself e)
replaced_one (z ∷ lives) e x y none = by (z.number == e) refl none (replaced_one lives e x y)
  where
    by : (b : Bool) → (z.number == e) ≡ b → (if b then Some z.exception else live_in lives e) ≡ None → (live_in lives e ≡ None → map (replaced e x) (with_one lives e y) ≡ with_one lives e x) →
        (if b then record { number = e; exception = x } else z) ∷ map (replaced e x) (with_one lives e y) ≡ z ∷ with_one lives e x
    by true is none rest = absurd (cc none)
    by false is none rest = ap (λ zs. z ∷ zs) (rest none)

pub no_such : (lives : List Live) (e last : ℕ) → ((d : ℕ) (x : Exception) → live_in lives d ≡ Some x → d ≤ last) → e ≡ last + 1 → live_in lives e ≡ None
no_such lives e last most next = by (live_in lives e) refl
  where
    by : (o : Option Exception) → live_in lives e ≡ o → live_in lives e ≡ None
    by None is = is
    by (Some x) is = absurd (omega (arith, most e x is, next))

plan_new : (p : Plan) (e slot : ℕ) (x : Exception) (lives : List Live) → live_in lives e ≡ None → PlanHas p lives → PlanHas (with_object p e slot) (with_one lives e x)
plan_new p e slot x lives none h = record {
  live = λ d. live_at d (e == d) refl;
  size = λ d live. size_at d live (e == d) refl;
  ints = λ d live. ints_at d live (e == d) refl;
}
  where
    one : (d : ℕ) → (e == d) ≡ true → of_exception d ≡ of_exception e
    one d is = let same : e ≡ d = grind (arith, nat_tests, is) in ap of_exception (sym same)

    live_at : (d : ℕ) (b : Bool) → (e == d) ≡ b → (with_object p e slot).live (of_exception d) ≡ is_some (live_in (with_one lives e x) d)
    live_at d true is =
        let same : e ≡ d = grind (arith, nat_tests, is) in
        (new_at p e slot (of_exception d) (one d is)).live ∙ ap is_some (sym (ap (live_in (with_one lives e x)) (sym same) ∙ new_in lives e x none))
    live_at d false is = (old_at p e slot (of_exception d) is).live ∙ h.live d ∙ ap is_some (sym (other_in lives e d x is))

    size_at : (d : ℕ) → (with_object p e slot).live (of_exception d) ≡ true → (b : Bool) → (e == d) ≡ b → (with_object p e slot).size (of_exception d) ≡ 0x1000
    size_at d live true is = (new_at p e slot (of_exception d) (one d is)).size
    size_at d live false is = let old = old_at p e slot (of_exception d) is in old.size ∙ h.size d (sym old.live ∙ live)

    ints_at : (d : ℕ) → (with_object p e slot).live (of_exception d) ≡ true → (b : Bool) → (e == d) ≡ b → (with_object p e slot).ints (of_exception d) ≡ true
    ints_at d live true is = (new_at p e slot (of_exception d) (one d is)).ints
    ints_at d live false is = let old = old_at p e slot (of_exception d) is in old.ints ∙ h.ints d (sym old.live ∙ live)

pub foreign_runtime : (p : Plan) (fs : List Activation) (v : World) (y : abi.World) (slot k token : ℕ) (left : List Reply) (cfa table : ℕ) → RuntimeMatches p fs v y → is_vacant y.exceptions.live slot ≡ true →
    (let y1 : abi.World = record y { replies = slice_set y.replies k left } in let made = foreign_made k token slot y1 in let w = with_exceptions (one_uncaught made.exceptions) made in let o = foreign_object y1 k token slot in
    RuntimeMatches (with_object p (v.last_number + 1) slot) fs (flies (v.last_number + 1) (foreign_world v k token left)) (with_exceptions (with_header slot (aimed cfa table o.header) w.exceptions) w))
foreign_runtime p fs v y slot k token left cfa table r vacant =
    let e : ℕ = v.last_number + 1 in
    let q : Plan = with_object p e slot in
    let gone : List ℕ = destroyed fs in
    let m = r.exceptions in
    let x : Exception = foreign k token in
    let headers : Headers = y.exceptions.live in
    let number : y.last_number + 1 ≡ e = ap (λ n. n + 1) r.last_number in
    let none = no_such v.live e v.last_number m.numbers refl in
    let made = made_match (addresses_of p) (λ d. q.at (of_exception d)) gone (exceptions_in v) (kept_by y) e slot m refl vacant (new_at p e slot (of_exception e) refl).at
    (λ d le. (old_at p e slot (of_exception d) (grind (arith, nat_tests, le))).at) in
    let v1 : LinearExceptions = record (exceptions_in v) { live = with_one v.live e building; last_number = e } in
    let w1 : KeptExceptions = record (kept_by y) { exceptions = with_header slot (new_header e Building) y.exceptions } in
    let low : slot < length headers = omega (arith, vacant_below headers slot vacant, m.sound.slots) in
    let has : HasHeader (slice_set headers slot (Some (new_header e Building))) e slot = record { header = new_header e Building; there = header_changed headers slot (Some (new_header e Building)) low; number = refl } in
    let there = new_in v.live e building none in
    let new : Header = aimed cfa table (new_header e (Foreign k token)) in
    let thrown = thrown_match (addresses_of q) gone v1 w1 e slot building x new made has refl there (built_stays (addresses_of q) gone v1 w1 e made there) refl refl in
    let twice : slice_set (slice_set headers slot (Some (new_header e Building))) slot (Some new) ≡ slice_set (slice_set headers slot (Some (new_header e (Foreign k token)))) slot (Some new)
    = set_again headers slot (Some (new_header e Building)) (Some new) ∙ sym (set_again headers slot (Some (new_header e (Foreign k token))) (Some new)) in
    let flew : LinearExceptions = record v1 { live = with_one v.live e x; caught = flown e v.caught; uncaught = v.uncaught + 1 } in
    let one = subst (λ lives. ExceptionsMatch (addresses_of q) gone (record v1 { live = lives; caught = flown e v.caught; uncaught = v.uncaught + 1 })
    (record w1 { exceptions = record w1.exceptions { live = slice_set (slice_set headers slot (Some (new_header e Building))) slot (Some new); uncaught = y.exceptions.uncaught + 1 } })) (replaced_one v.live e x building none) thrown in
    let two = subst (λ live. ExceptionsMatch (addresses_of q) gone flew (record (kept_by y) { exceptions = record y.exceptions { live = live; uncaught = y.exceptions.uncaught + 1 } })) twice one in
    record {
      input = r.input;
      replies = ap (λ replies. slice_set replies k left) r.replies;
      last_number = number;
      terminating = r.terminating;
      exceptions = subst (λ n. ExceptionsMatch (addresses_of q) gone flew (record (kept_by y) {
        exceptions = record y.exceptions { live = slice_set (slice_set headers slot (Some (new_header n (Foreign k token)))) slot (Some (aimed cfa table (new_header n (Foreign k token)))); uncaught = y.exceptions.uncaught + 1 };
      })) (sym number) two;
      plan = plan_new p e slot x v.live none r.plan;
    }
