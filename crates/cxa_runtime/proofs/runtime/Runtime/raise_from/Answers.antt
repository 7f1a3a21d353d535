use Rattle.std.proofs.Common.{◌≡◌, ◌∙◌, sym, ap, subst, ℕ, [], ◌∷◌, ◌++◌}
use Rattle.run_items.specs.declared.item.Item.TheVariants as items
use Rattle.table_forms.specs.Verdict.{foreign}
use Rattle.caught_stack.specs.declared.header.Header.{Header}
use Rattle.caught_stack.specs.declared.header.HeaderKind.TheVariants as kinds
use Rattle.caught_stack.specs.Allocate.{with_header}
use Rattle.cxa_runtime.specs.declared.object.Object.{Object}
use Rattle.cxa_runtime.specs.declared.flight.Flight.TheVariants as flights
use Rattle.cxa_runtime.specs.Flying.{flown}
use Rattle.cxa_runtime.specs.Allocate.{new_header}
use Rattle.cxa_runtime.specs.Kept.{Kept, MakesOver, image_of, world_of}
use Rattle.cxa_runtime.specs.World.{with_exceptions}
use Rattle.cxa_runtime.specs.Raising.{raises}
use Rattle.cxa_runtime.specs.Foreign.{raised_in}
use Rattle.cxa_runtime.proofs.runtime.Runtime.raise_from.Goals as goal

-- the state with the object, by its number and its header
abbrev received : Kept → ℕ → ℕ → ℕ → ℕ → Header → Kept
received k slot guest token n h =
    record k { exceptions = with_header slot h k.exceptions; last_number = h.number; shown = k.shown ++ items.Foreign n guest token ∷ [] }

abbrev object_with : ℕ → Header → Object
object_with slot h = record { slot = slot; header = h }

pub returns-in-Some-clause-made : goal.returns-in-Some-clause-made
returns-in-Some-clause-made c =
    let old = c.args.self.now in
    let slot = c.in-Some.slot in
    let guest = c.args.guest in
    let token = c.args.token in
    let new = c.raise_foreign.new.self in
    let result = c.raise_foreign.result in
    let over = λ (o : Object) (k : Kept). MakesOver (λ image w. raises image w.exceptions o foreign (with_exceptions (flown flights.Raised w.exceptions) w)) k new result in
    let number = c.next_number-number.result in
    let header = c.new_header-header.result in
    let stands : c.show.new.self ≡ received old slot guest token number header =
    c.show.ensures ∙ ap (λ (k : Kept). record k { shown = k.shown ++ items.Foreign number guest token ∷ [] }) (c.in-Some.ensures {u = tt}).made in
    let made = subst (over (object_with slot header)) stands c.raise_foreign.ensures.made in
    let made2 = subst (λ (h : Header). over (object_with slot h) (received old slot guest token number h)) c.new_header-header.ensures made in
    let made3 = subst (λ (n : ℕ). over (object_with slot (new_header n (kinds.Foreign guest token))) (received old slot guest token n (new_header n (kinds.Foreign guest token)))) c.next_number-number.ensures made2 in
    let wished = c.receive.ensures.wished in
    (wished.0, λ t input replies. made3 t input replies ∙ ap (raised_in (image_of t.read.fdes old) (world_of old input replies) guest token) (sym (wished.1 ∙ c.in-Some.is)))
