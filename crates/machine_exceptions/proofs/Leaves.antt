-- Leaving a handler is matched.
use Rattle.std.proofs.Common.{◌≡◌, ◌∙◌, refl, ap, subst, arith, ℕ, ◌+◌, ◌-◌, false, List, [], ◌∷◌, ◌++◌, Some}
use Rattle.run_items.specs.declared.item.Item.TheVariants.{Leave}
use Rattle.rv64_isa.specs.Step.{x}
use Rattle.caught_stack.specs.declared.ended.Ended.{Ended}
use Rattle.caught_stack.specs.Exceptions.{Exceptions}
use Rattle.caught_stack.specs.End.{ended_as, ended_on, ended}
use Rattle.cxa_runtime.specs.declared.object.Object.{Object}
use Rattle.cxa_runtime.specs.Leaving.{newest_object, left_by}
use Rattle.cxa_runtime.specs.World as abi
use Rattle.cxa_runtime.specs.Raising.{Image}
use Rattle.region_forms.specs.Caught.{Entry, is_last}
use Rattle.region_forms.specs.World.{World}
use Rattle.region_forms.specs.Effect.{left, newest_of}
use Rattle.linear_forms.specs.Activation.{State as LinearState}
use Rattle.machine_forms.specs.Registers.{sp}
use Rattle.machine_pieces.specs.Turning.{Turns, Reaches}
use Rattle.machine_pieces.proofs.Turning.{turns_then}
use Rattle.machine_pieces.specs.Keeping.{saved_of}
use Rattle.machine_stubs.specs.Stretches.{Stands as StubStands}
use Rattle.linear_forms.specs.Stub.{end_catch}
use Rattle.machine_stubs.specs.ComesBack.{TellsNothing, EndCatchComesBack}
use Rattle.machine_simulation.specs.Plan.{Plan}
use Rattle.machine_simulation.specs.Exceptions.{addresses_of, exceptions_in, kept_by, destroyed, AreCaught, ExceptionsMatch}
use Rattle.machine_simulation.specs.Matches.{Matches}
use Rattle.machine_simulation.proofs.Matching.{stands_by, runtime_stays}
use Rattle.machine_simulation.proofs.Holding.{same_number}
use Rattle.machine_simulation.proofs.Lines.{matches_alike, registers_alike}
use Rattle.machine_exceptions.specs.Leaves.{behind, AtLeave}
use Rattle.machine_exceptions.proofs.Left.{Newest, newest_caught, newest_is, left_match, ended_still}
use Rattle.machine_exceptions.proofs.EndCatching.{CatchCalled, room_below, catch_called}
use Rattle.machine_exceptions.proofs.ComingBack.{runtime_then, returned}

-- ---- end_catch begins

pub catch_stands : (image : Image) (p : Plan) (n : ℕ) (st : LinearState) (w : abi.World) (c : CatchCalled image p n st w) → StubStands p.unit p.base end_catch 0 (x c.after.hart sp - 48) 48 c.after.hart
catch_stands image p n st w c = record {
  pc = c.pc;
  registers = c.registers;
  code = c.code;
  room = room_below c.after.hart.memory (x c.after.hart sp) 48 c.may (omega (arith, c.high)) c.low c.even refl;
}

-- the newest caught exception, in the world in which end_catch begins
pub record Leaving (p : Plan) (st : LinearState) (x : Entry) (xs : List Entry) (w : abi.World) : Type 0 where
  pub new : Newest w.exceptions.live x xs w.exceptions.caught
  pub object : newest_object w.exceptions ≡ Some (record { slot = new.slot; header = new.here.0.header })
  pub ends : ended w.exceptions ≡ (Some (ended_as new.slot new.count), (ended w.exceptions).1)

pub leaving : (p : Plan) (st : LinearState) (x : Entry) (xs : List Entry) (w : abi.World) → ExceptionsMatch (addresses_of p) (destroyed st.frames) (exceptions_in st.world) (kept_by w) → st.world.caught ≡ x ∷ xs → Leaving p st x xs w
leaving p st x xs w m caught =
    let new = newest_caught w.exceptions.live x xs w.exceptions.caught (subst (λ ys. AreCaught w.exceptions.live ys w.exceptions.caught) caught m.caught) in
    record {
      new = new;
      object = newest_is w.exceptions new.slot new.count new.more new.here.0.header new.is new.here.0.there;
      ends = ap (λ c. ((ended_on c).0, (ended w.exceptions).1)) new.is;
    }

pub leave_shown : (v : World) (x : Entry) (xs : List Entry) → v.caught ≡ x ∷ xs → (left v).items ≡ v.items ++ Leave x.number ∷ []
leave_shown v x xs caught = ap (λ ys. v.items ++ Leave (newest_of ys) ∷ []) caught

-- ---- the exception has another handler, or travels again

-- nothing else becomes of it
Silent : Object → Exceptions → Ended → Type 0
Silent o e l = (left_by o (Some l, e) ≡ (Some l, e)) × TellsNothing o l

pub still_handled : EndCatchComesBack → (image : Image) (p : Plan) (n : ℕ) (st middle : LinearState) (y : Entry) (ys : List Entry) (w : abi.World) → Matches p st w → AtLeave p n st middle y ys → is_last y ≡ false →
    Reaches image 14 w (Leave y.number ∷ []) (λ u. Matches p (behind st (left st.world)) u)
unfolding Silent
still_handled comes image p n st middle y ys w h at last =
    let v : World = st.world in
    let stood = stands_by p n st w h at.at.runs in
    let c = catch_called image p n st w h.back stood at.at.there in
    let w1 : abi.World = c.after in
    let r = runtime_stays p st.frames v w w1 c.runtime stood.runtime in
    let l = leaving p st y ys w1 r.exceptions at.caught in
    let o : Object = record { slot = l.new.slot; header = l.new.here.0.header } in
    let e : Exceptions = (ended w1.exceptions).1 in
    let became : Ended = ended_as l.new.slot l.new.count in
    let silent : Silent o e became = ended_still y l.new.slot l.new.count (Silent o e) l.new.counted last (refl, λ t. refl) (refl, λ t. refl) in
    let by : left_by o (ended w1.exceptions) ≡ (Some became, e) = ap (left_by o) l.ends ∙ silent.0 in
    let come = comes image p.unit p.base o became e w1 (omega (arith, c.high)) (catch_stands image p n st w c) c.back_aligned c.back_below l.object by silent.1 in
    let t : abi.World = come.after in
    let back = returned image p n st w h.back c t e stood come.holds in
    let u : World = left v in
    let m = left_match (addresses_of p) (destroyed st.frames) (exceptions_in v) (kept_by w1) y ys r.exceptions at.caught in
    record {
      turns = 2 + come.turns;
      few = omega (arith, come.few);
      after = t;
      runs = subst (λ k. Turns image (2 + come.turns) w t (Leave k ∷ [])) l.new.here.0.number (turns_then image 2 come.turns w w1 t [] (Leave o.header.number ∷ []) c.runs come.runs);
      holds = record {
        number = n;
        back = h.back;
        runs = at.at.runs;
        registers = back.registers;
        pc = back.pc;
        memory = matches_alike p n st.top.frame st.frames v u t.hart.memory (x t.hart sp) h.back refl refl (same_number v) back.memory;
        kept = registers_alike p n st.top.frame st.frames v u t.hart.memory (x t.hart sp) h.back (saved_of t.hart) refl back.memory back.kept;
        runtime = runtime_then p p st.frames st.frames v u w1 t e r come.holds.rest come.holds.exceptions refl refl refl refl m r.plan;
      };
    }
