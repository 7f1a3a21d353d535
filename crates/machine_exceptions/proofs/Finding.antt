-- Live exceptions and their headers, by numbers and by addresses.
use Rattle.std.proofs.Common.{◌≡◌, ◌∙◌, sym, ap, subst, arith, ℕ, ◌-◌, ◌/◌, ◌%◌, ◌<◌, ◌==◌, Bool, true, List, Some, None, option_map}
use Rattle.std.specs.Prelude.{◌&&◌, nat_le, nat_lt, option_and_then, if◌then◌else◌}
use Rattle.std.proofs.lemmas.Bool.Decides.{nat_tests}
use Rattle.meaning_forms.specs.Class.{contains}
use Rattle.caught_stack.specs.declared.header.Header.{Header}
use Rattle.caught_stack.specs.declared.header.HeaderKind.{HeaderKind}
use Rattle.caught_stack.specs.Live.{Live as Headers, header_of}
use Rattle.cxa_runtime.specs.Objects.{object_of, slot_of, object_in, object_where, passing}
use Rattle.region_forms.specs.World.{Exception}
use Rattle.machine_simulation.specs.Exceptions.{Addresses, LinearExceptions, KeptExceptions, live_in, HeaderIs, HasHeader, ExceptionsMatch}
use Rattle.machine_exceptions.proofs.Headers.{slot_below}

-- a live exception in the runtime
pub record LiveHeader (t : Addresses) (gone : List ℕ) (w : KeptExceptions) (e : ℕ) (x : Exception) : Type 0 where
  pub slot : ℕ
  pub has : HasHeader w.exceptions.live e slot
  pub is : HeaderIs t (contains gone e) x has.header
  pub object : t.object e ≡ object_of slot
  pub below : slot < 1024

pub live_header : (t : Addresses) (gone : List ℕ) (v : LinearExceptions) (w : KeptExceptions) (e : ℕ) (x : Exception) → ExceptionsMatch t gone v w → live_in v.live e ≡ Some x → LiveHeader t gone w e x
live_header t gone v w e x m there =
    let found = m.live e x there in
    let slot : ℕ = found.0 in
    let h = found.1 in
    let s = m.headers slot h.header h.there in
    let both : Some s.exception ≡ Some x = sym s.live ∙ ap (live_in v.live) h.number ∙ there in
    let same : s.exception ≡ x = cc both in
    record {
      slot = slot;
      has = h;
      is = subst (λ y. HeaderIs t (contains gone e) y h.header) same (subst (λ d. HeaderIs t (contains gone d) s.exception h.header) h.number s.is);
      object = ap t.object (sym h.number) ∙ s.object;
      below = omega (arith, slot_below w.exceptions.live slot h.header h.there, m.sound.slots);
    }

-- the slot of an object's address
slot_is : (slot : ℕ) → slot < 1024 → slot_of (object_of slot) ≡ Some slot
slot_is slot small =
    let a : ℕ = object_of slot in
    let test : (nat_le 0x6000_0000 a && nat_lt a 0x6040_0000 && (a % 0x1000 == 0)) ≡ true = grind (arith, nat_tests, small) in
    let number : (a - 0x6000_0000) / 0x1000 ≡ slot = omega (arith, small) in
    rw test (ap Some number)

pub object_found : (test : HeaderKind → Bool) (live : Headers) (slot : ℕ) (h : Header) → slot < 1024 → header_of live slot ≡ Some h → test h.kind ≡ true → object_where test live (object_of slot) ≡ Some (record { slot = slot; header = h })
object_found test live slot h small there ok =
    ap (λ n. passing test (option_and_then (object_in live) n)) (slot_is slot small) ∙ ap (λ o. passing test (option_map (λ (y : Header). record { slot = slot; header = y }) o)) there
    ∙ ap (λ b. if b then Some (record { slot = slot; header = h }) else None) ok
