-- Where a function begins, the stack has room for it; or the function looks for room, since it calls something, and finds none. What is called as a handler takes nothing.
use Rattle.std.proofs.Common.{◌≡◌, ◌⊎◌, ◌∙◌, refl, sym, subst, arith, ℕ, ◌+◌, ◌≤◌, ◌<◌, inl, inr, Bool, true, false, List, ◌∷◌, length, leb, Option, Some}
use Rattle.std.proofs.lemmas.Bool.Decides.{leb_tells}
use Rattle.rv64_isa.specs.State.{Part}
use Rattle.cxx_ast.specs.Plain.{Checked}
use Rattle.cxa_runtime.specs.World as abi
use Rattle.region_forms.specs.World.{World}
use Rattle.linear_forms.specs.Linear.{LinearOp}
use Rattle.linear_forms.specs.Stub.{Function, compiled, terminating, call_unexpected}
use Rattle.linear_forms.specs.Activation.{Activation, State}
use Rattle.linear_forms.specs.UnitRun.{code_at}
use Rattle.flight_homes.specs.Lives.{HandlerKnown, known_in}
use Rattle.flight_homes.proofs.Names.{handlers_take_nothing}
use Rattle.source_bounds.specs.Compiled.{unit_for}
use Rattle.machine_forms.specs.Leaf.{linear_stays}
use Rattle.machine_forms.proofs.Chosen.{variables_are_kept}
use Rattle.machine_pieces.specs.Transfers.{entry_steps}
use Rattle.machine_stubs.specs.Stretches.{frame_size}
use Rattle.machine_simulation.specs.Plan.{Plan, function, shape}
use Rattle.machine_simulation.specs.Calls.{open_bytes, CallsWait}
use Rattle.machine_simulation.specs.Entering.{begin_room, entry_turns}
use Rattle.machine_simulation.proofs.Floors.{stub_floor}
use Rattle.machine_simulation.proofs.Matching.{stands_by}
use Rattle.own_ends.proofs.Bytes.{waiting_end}
use Rattle.stub_landings.specs.Rests.{StubMemory}
use Rattle.handler_overflows.proofs.Above.{page_free}
use Rattle.step_law.specs.Facts.{regions_for}
use Rattle.step_law.specs.Rows.{Run, IsAt}

-- where open calls leave 2 KiB, there is room, or the function looks for it
pub room_or_none : (leaf : Bool) (bytes size : ℕ) → bytes + 0x800 ≤ 0x100_0000 → (bytes + begin_room leaf size ≤ 0x100_0000) ⊎ ((leaf ≡ false) × (0x100_0000 < bytes + size + 0x1000))
room_or_none true bytes size page = inl page
room_or_none false bytes size page = by (leb_tells (bytes + size + 0x1000) 0x100_0000)
  where
    by : ((leb (bytes + size + 0x1000) 0x100_0000 ≡ true) × (bytes + size + 0x1000 ≤ 0x100_0000)) ⊎ ((leb (bytes + size + 0x1000) 0x100_0000 ≡ false) × (0x100_0000 < bytes + size + 0x1000)) →
        (bytes + (size + 0x1000) ≤ 0x100_0000) ⊎ ((false ≡ false) × (0x100_0000 < bytes + size + 0x1000))
    by (inl room) = inl (let enough = room.1 in omega (arith, enough))
    by (inr lacks) = inr (refl, lacks.1)

-- a compiled function at an operation that leaves it leaves 4 KiB
pub page_here : (x : Run) (q : Plan) (before n : ℕ) (o : LinearOp) (st : State) (w : abi.World) → IsAt x q before n o st w → linear_stays o ≡ false → open_bytes q (st.top ∷ st.frames) + 0x1000 ≤ 0x100_0000
page_here x q before n o st w a leaves = page_free q n st w a.matches.back o (stands_by q n st w a.matches a.runs) a.there leaves

-- The runtime's own functions leave less, but enough: while one runs,
pub own_page : (q : Plan) (f : Function) (fs : List Activation) (v : World) (memory : List Part) (stack back : ℕ) → StubMemory q f fs v memory stack back → frame_size f + open_bytes q fs + 0xD00 ≤ 0x100_0000
own_page q f fs v memory stack back h =
    let ends = waiting_end q fs v memory (stack + frame_size f) back v.calls h.waiting in
    let floor = stub_floor f stack h.stands.above in
    omega (arith, ends, floor)

-- and while call_unexpected waits
pub waiting_page : (q : Plan) (a : Activation) (fs : List Activation) (v : World) (memory : List Part) (stack back limit : ℕ) → a.function ≡ call_unexpected → CallsWait q (a ∷ fs) v memory stack back limit → open_bytes q (a ∷ fs) + 0xD00 ≤ 0x100_0000
waiting_page q a fs v memory stack back limit is h = let least = floor h in omega (arith, waiting_end q (a ∷ fs) v memory stack back limit h, least)
  where
    floor : CallsWait q (a ∷ fs) v memory stack back limit → 0x7000_0D00 ≤ stack
    floor (inl k) = let no : call_unexpected ≡ compiled k.1 = sym is ∙ k.3.callee in absurd (cc no)
    floor (inr (inl k)) = stub_floor a.function stack k.1.stands.above
    floor (inr (inr k)) = let no : call_unexpected ≡ terminating = sym is ∙ k.0.callee in absurd (cc no)

-- few turns enter a function
pub few_to_enter : (p : Plan) (n : ℕ) → entry_turns p n ≤ 34
few_to_enter p n = by (shape p n).leaf ((variables_are_kept (function p n)).saved (shape p n) (function p n).parameters)
  where
    by : (leaf : Bool) {saved : ℕ} → saved ≤ 30 → entry_steps leaf + saved ≤ 34
    by true few = omega (arith, few)
    by false few = omega (arith, few)

-- a handler that is known takes nothing
pub takes_nothing : (p : Checked) (q : Plan) (h : Option ℕ) (m : ℕ) → q.unit ≡ unit_for p → HandlerKnown (known_in (regions_for p)) h → h ≡ Some m → 0 ≡ (function q m).parameters
takes_nothing p q h m unit known is = subst (λ u. 0 ≡ (code_at u m).parameters) (sym unit) (sym (handlers_take_nothing (regions_for p) h m known is).1)

pub handler_there : (p : Checked) (q : Plan) (h : Option ℕ) (m : ℕ) → q.unit ≡ unit_for p → HandlerKnown (known_in (regions_for p)) h → h ≡ Some m → m < length q.unit.functions
handler_there p q h m unit known is = subst (λ u. m < length u.functions) (sym unit) (handlers_take_nothing (regions_for p) h m known is).0
