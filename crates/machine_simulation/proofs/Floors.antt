-- How far up a frame begins: a call has room above the lowest 4 KiB of the stack, or 2 KiB where its function calls nothing.
use Rattle.std.proofs.Common.{◌≡◌, ◌∙◌, refl, sym, ap, subst, arith, ℕ, suc, zero, ◌+◌, ◌^◌, ◌<◌, ◌≤◌, List, [], ◌∷◌}
use Rattle.std.specs.Prelude.{Bool, true, false, slice_get, Some}
use Rattle.std.specs.List.{list_all}
use Rattle.rv64_isa.specs.State.{Part}
use Rattle.region_forms.specs.World.{Frame, World}
use Rattle.linear_forms.specs.Linear.{LinearOp}
use Rattle.linear_forms.specs.Stub.{Function, compiled, end_catch, terminating, call_unexpected}
use Rattle.machine_forms.specs.Leaf.{linear_stays, is_leaf}
use Rattle.machine_pieces.specs.Transfers.{lowest_sp}
use Rattle.machine_stubs.specs.Stretches.{frame_size}
use Rattle.machine_simulation.specs.Plan.{Plan, function, shape}
use Rattle.machine_simulation.specs.StubCalls.{called_from}
use Rattle.machine_simulation.specs.Calls.{CallStands}
use Rattle.machine_simulation.specs.Entering.{begin_room}
use Rattle.machine_simulation.proofs.Bases.{both_true, true_is_not}

-- a frame lies in the stack
pub lowest_floor : (leaf : Bool) (size stack : ℕ) → size < 2 ^ 11 → lowest_sp leaf size ≤ stack → 0x7000_0000 + size ≤ stack
lowest_floor true size stack small h = omega (arith, small, h)
lowest_floor false size stack small h = omega (arith, h)

-- where so many bytes of it are taken
pub begin_above : (leaf : Bool) (size taken stack : ℕ) → stack + taken ≡ 0x7100_0000 → taken + begin_room leaf size ≤ 0x100_0000 → lowest_sp leaf size ≤ stack
begin_above true size taken stack at h = omega (arith, at, h)
begin_above false size taken stack at h = omega (arith, at, h)

all_stay : (ops : List LinearOp) (place : ℕ) (o : LinearOp) → list_all linear_stays ops ≡ true → slice_get ops place ≡ Some o → linear_stays o ≡ true
all_stay [] place o h e = absurd (cc e)
all_stay (y ∷ ops) zero o h e = let same : y ≡ o = cc e in ap linear_stays (sym same) ∙ (both_true (linear_stays y) (list_all linear_stays ops) h).0
all_stay (y ∷ ops) (suc place) o h e = all_stay ops place o (both_true (linear_stays y) (list_all linear_stays ops) h).1 e

-- a function that calls something looks at the stack
pub calls_something : (p : Plan) (n place : ℕ) (o : LinearOp) → slice_get (function p n).ops place ≡ Some o → linear_stays o ≡ false → (shape p n).leaf ≡ false
unfolding is_leaf
calls_something p n place o there leaves = by (list_all linear_stays (function p n).ops) refl
  where
    by : (b : Bool) → list_all linear_stays (function p n).ops ≡ b → list_all linear_stays (function p n).ops ≡ false
    by false e = e
    by true e = absurd (true_is_not (linear_stays o) (all_stay (function p n).ops place o e there) leaves)

-- so its frame begins above the lowest 4 KiB
pub looked_above : (p : Plan) (n place stack : ℕ) (o : LinearOp) → slice_get (function p n).ops place ≡ Some o → linear_stays o ≡ false → lowest_sp (shape p n).leaf (shape p n).size ≤ stack + (shape p n).size → 0x7000_1000 ≤ stack
looked_above p n place stack o there leaves h =
    let looks = calls_something p n place o there leaves in
    let least : lowest_sp false (shape p n).size ≤ stack + (shape p n).size = subst (λ b. lowest_sp b (shape p n).size ≤ stack + (shape p n).size) looks h in
    omega (arith, least)

-- the frame of an open call lies in the stack, and so does that of one of the runtime's own functions
pub call_floor : (p : Plan) (n : ℕ) (frame : Frame) (v : World) (memory : List Part) (stack back : ℕ) → CallStands p n frame v memory stack back → 0x7000_0000 ≤ stack
call_floor p n frame v memory stack back st = let least = lowest_floor (shape p n).leaf (shape p n).size (stack + (shape p n).size) st.small st.above in omega (arith, least)

pub stub_floor : (f : Function) (stack : ℕ) → called_from f ≤ stack + frame_size f → 0x7000_0D00 ≤ stack
stub_floor (compiled n) stack h = omega (arith, h)
stub_floor end_catch stack h = omega (arith, h)
stub_floor terminating stack h = omega (arith, h)
stub_floor call_unexpected stack h = omega (arith, h)

-- the frame of a call at an operation that calls something lies above the lowest 4 KiB
pub caller_above : (p : Plan) (n place : ℕ) (frame : Frame) (v : World) (memory : List Part) (stack back : ℕ) (o : LinearOp) → slice_get (function p n).ops place ≡ Some o → linear_stays o ≡ false →
    CallStands p n frame v memory stack back → 0x7000_1000 ≤ stack
caller_above p n place frame v memory stack back o there leaves st = looked_above p n place stack o there leaves st.above
