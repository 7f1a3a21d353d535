-- Calls of the runtime's own functions that wait still do where their frames are kept.
use Rattle.std.proofs.Common.{◌≡◌, ◌∙◌, sym, ap, subst, arith, ℕ, ◌+◌, ◌≤◌, ℤ, List, inl, inr}
use Rattle.std.specs.Prelude.{◌⊎◌, true}
use Rattle.rv64_isa.specs.State.{Part}
use Rattle.region_forms.specs.World.{Base, of_exception, Word, World}
use Rattle.linear_forms.specs.Stub.{Function, compiled, end_catch, terminating, call_unexpected}
use Rattle.linear_forms.specs.Activation.{Activation}
use Rattle.machine_forms.specs.Shape.{return_offset}
use Rattle.machine_pieces.specs.Memory.{Apart}
use Rattle.machine_pieces.specs.Frames.{IntAt, AddressAt}
use Rattle.machine_stubs.specs.Stretches.{stub_word, frame_size}
use Rattle.machine_stubs.specs.EndCatch.{object_slot}
use Rattle.machine_stubs.specs.CallUnexpected.{stopped_slot, list_slot, table_slot, thrown_slot}
use Rattle.machine_simulation.specs.Plan.{Plan}
use Rattle.machine_simulation.specs.StubCalls.{KeepsException, KeepsFlying, DestructorWaits, UnexpectedWaits, LeavingWaits, StubWaits}

-- what the bytes of a frame hold they still hold
pub record StubKeeps (f : Function) (stack : ℕ) (old new : List Part) : Type 0 where
  pub address : (o b : ℕ) → o + 8 ≤ frame_size f → AddressAt old (stack + o) b → AddressAt new (stack + o) b
  pub int : (o : ℕ) (z : ℤ) → o + 4 ≤ frame_size f → IntAt old (stack + o) z → IntAt new (stack + o) z

-- memory is as it was
pub stub_same : (f : Function) (stack : ℕ) (memory : List Part) → StubKeeps f stack memory memory
stub_same f stack memory = record { address = λ o b inside h. h; int = λ o z inside h. h }

-- code, tables and the exceptions that were made are where they were
pub record SamePlaces (p q : Plan) (limit : ℕ) : Type 0 where
  pub base : q.base ≡ p.base
  pub tables : (n : ℕ) → q.tables n ≡ p.tables n
  pub object : (e : ℕ) → e ≤ limit → q.at (of_exception e) ≡ p.at (of_exception e)

pub frame_saves : (f : Function) → return_offset + 8 ≤ frame_size f
frame_saves (compiled n) = omega arith
frame_saves end_catch = omega arith
frame_saves terminating = omega arith
frame_saves call_unexpected = omega arith

object_inside : object_slot + 8 ≤ frame_size end_catch
object_inside = omega arith

stopped_inside : stopped_slot + 8 ≤ frame_size call_unexpected
stopped_inside = omega arith

list_inside : list_slot + 4 ≤ frame_size call_unexpected
list_inside = omega arith

table_inside : table_slot + 8 ≤ frame_size call_unexpected
table_inside = omega arith

thrown_inside : thrown_slot + 8 ≤ frame_size call_unexpected
thrown_inside = omega arith

module _ (p q : Plan) (v u : World) (old new : List Part) (a : Activation) (stack back : ℕ) (same : SamePlaces p q v.last_number) (later : v.last_number ≤ u.last_number) (keeps : StubKeeps a.function stack old new) where
  exception_stays : (word : Word) (o : ℕ) → o + 8 ≤ frame_size a.function → KeepsException p word v old (stack + o) → KeepsException q word u new (stack + o)
  exception_stays word o inside h = record {
    number = h.number;
    is = h.is;
    made = omega (arith, h.made, later);
    there = subst (AddressAt new (stack + o)) (sym (same.object h.number h.made)) (keeps.address o (p.at (of_exception h.number)) inside h.there);
  }

  flying_stays : (word : Word) (o : ℕ) → o + 8 ≤ frame_size a.function → KeepsFlying p word v old (stack + o) → KeepsFlying q word u new (stack + o)
  flying_stays word o inside (inl h) = inl (exception_stays word o inside h)
  flying_stays word o inside (inr h) = inr (h.0, h.1, keeps.address o 0 inside h.2)

  destructor_stays : DestructorWaits p a v old stack back → DestructorWaits q a u new stack back
  destructor_stays h = record {
    callee = h.callee;
    place = h.place;
    returns = h.returns ∙ ap (λ b. stub_word b end_catch 13) (sym same.base);
    object = exception_stays (a.frame.slots 0) object_slot (subst (λ f. object_slot + 8 ≤ frame_size f) (sym h.callee) object_inside) h.object;
  }

  unexpected_stays : UnexpectedWaits p a v old stack back → UnexpectedWaits q a u new stack back
  unexpected_stays h = record {
    callee = h.callee;
    place = h.place;
    returns = h.returns ∙ ap (λ b. stub_word b call_unexpected 10) (sym same.base);
    stopped = exception_stays (a.frame.slots 0) stopped_slot (subst (λ f. stopped_slot + 8 ≤ frame_size f) (sym h.callee) stopped_inside) h.stopped;
    selector = h.selector;
    selector_is = h.selector_is;
    list = keeps.int list_slot h.selector (subst (λ f. list_slot + 4 ≤ frame_size f) (sym h.callee) list_inside) h.list;
    owner = h.owner;
    owner_is = h.owner_is;
    table = subst (AddressAt new (stack + table_slot)) (sym (same.tables h.owner))
        (keeps.address table_slot (p.tables h.owner) (subst (λ f. table_slot + 8 ≤ frame_size f) (sym h.callee) table_inside) h.table);
  }

  leaving_stays : LeavingWaits p a v old stack back → LeavingWaits q a u new stack back
  leaving_stays h = record {
    callee = h.callee;
    returns = by h.returns;
    thrown = flying_stays (a.frame.slots 4) thrown_slot (subst (λ f. thrown_slot + 8 ≤ frame_size f) (sym h.callee) thrown_inside) h.thrown;
  }
    where
      by : ((a.place ≡ 15) × (back ≡ stub_word p.base call_unexpected 55)) ⊎ ((a.place ≡ 16) × (back ≡ stub_word p.base call_unexpected 57)) →
          ((a.place ≡ 15) × (back ≡ stub_word q.base call_unexpected 55)) ⊎ ((a.place ≡ 16) × (back ≡ stub_word q.base call_unexpected 57))
      by (inl h) = inl (h.0, h.1 ∙ ap (λ b. stub_word b call_unexpected 55) (sym same.base))
      by (inr h) = inr (h.0, h.1 ∙ ap (λ b. stub_word b call_unexpected 57) (sym same.base))

  -- what is live now is apart from the frame
  pub stub_stays : (outer : ℕ) → ((b : Base) → q.live b ≡ true → Apart (q.at b) (q.size b) stack (frame_size a.function)) → StubWaits p a v old stack back outer → StubWaits q a u new stack back outer
  stub_stays outer alone h = record {
    stands = record {
      above = h.stands.above;
      below = h.stands.below;
      saved = keeps.address return_offset outer (frame_saves a.function) h.stands.saved;
      alone = alone;
    };
    waits = by h.waits;
  }
    where
      by : DestructorWaits p a v old stack back ⊎ UnexpectedWaits p a v old stack back ⊎ LeavingWaits p a v old stack back →
          DestructorWaits q a u new stack back ⊎ UnexpectedWaits q a u new stack back ⊎ LeavingWaits q a u new stack back
      by (inl h) = inl (destructor_stays h)
      by (inr (inl h)) = inr (inl (unexpected_stays h))
      by (inr (inr h)) = inr (inr (leaving_stays h))
