-- Calls that wait as open calls on the stack.
use Rattle.std.proofs.Common.{◌≡◌, ◌∙◌, refl, sym, ap, subst, arith, ℕ, ◌+◌, ◌-◌, ◌*◌, ◌%◌, ◌<◌, ◌≤◌, ◌==◌, true, false, List, [], ◌∷◌, ◌++◌, length, length-append, Ok, inl, inr}
use Rattle.std.specs.Prelude.{◌⊎◌}
use Rattle.std.proofs.lemmas.Bool.Decides.{nat_tests}
use Rattle.table_forms.specs.Verdict.{Thrown, look_up_place}
use Rattle.rv64_isa.specs.State.{State, Part}
use Rattle.rv64_machine.specs.Load.{word_loaded}
use Rattle.elf_image.specs.Clean.{CleanImage}
use Rattle.eh_run.specs.Program.{program_of}
use Rattle.region_forms.specs.World.{Frame, World}
use Rattle.linear_forms.specs.Stub.{Function, compiled, end_catch, terminating, call_unexpected}
use Rattle.linear_forms.specs.Activation.{Activation, look}
use Rattle.linear_forms.specs.UnitRun.{code_of}
use Rattle.machine_forms.specs.Shape.{return_offset}
use Rattle.machine_forms.specs.StubCode.{stub_first}
use Rattle.machine_forms.proofs.Chosen.{variables_are_kept}
use Rattle.machine_pieces.specs.Standing.{address}
use Rattle.machine_pieces.specs.Frames.{AddressAt}
use Rattle.machine_stubs.specs.Stretches.{stub_word, frame_size}
use Rattle.image_tables.specs.Functions.{IsThere, frame_of, saved_places, records_end, first_byte, operation_at}
use Rattle.image_tables.specs.TableLaws.{IsByteOf}
use Rattle.raise_simulation.specs.OpenCalls.{HasRow, AreSaved, CallsStand, outer_ip}
use Rattle.raise_simulation.specs.Tables.{said}
use Rattle.raise_simulation.specs.Opens.{Open, activations, calls, Judge, TablesAgree, IsFirst, IsBarred}
use Rattle.machine_simulation.specs.Plan.{Plan, function, shape, setting}
use Rattle.machine_simulation.specs.StubCalls.{StubWaits, DestructorWaits, UnexpectedWaits, LeavingWaits}
use Rattle.machine_simulation.specs.Calls.{Waits, CallsWait, stored_behind}
use Rattle.machine_simulation.specs.KeptCalls.{kept_of, KeptCall, KeptCalls}
use Rattle.machine_simulation.specs.Matches.{FrameIs, UnitStands}
use Rattle.machine_simulation.proofs.Floors.{call_floor, stub_floor}
use Rattle.machine_raises.specs.Stacks.{IsRunning, GoesOnIn}
use Rattle.machine_raises.proofs.Words.{byte_before, calls_a_word}
use Rattle.machine_raises.proofs.Saying.{SaysAll, has_row, outermost}
use Rattle.machine_raises.proofs.KeptBehind.{KeptBehind, kept_call, kept_stub, places_of, saved_words, saved_count}
use Rattle.linear_forms.specs.Tables.{bare}
use Rattle.raise_simulation.specs.Verdicts.{told_of, cover_of}

-- ---- the open calls among those that wait, up to terminate
-- one of a compiled function, with what it saved, and one of the runtime's own
abbrev pub call_open : (p : Plan) (n : ℕ) (a : Activation) (fs : List Activation) (v : World) (memory : List Part) (stack outer : ℕ) (regs : List ℕ) → KeptBehind p n a fs v memory stack regs → Open
call_open p n a fs v memory stack outer regs k = record { activation = a; call = record { size = (shape p n).size; back = outer; places = places_of p n; saved = k.call.saves.values } }

abbrev pub stub_open : Activation → (outer : ℕ) → Open
stub_open a outer = record { activation = a; call = record { size = frame_size a.function; back = outer; places = []; saved = [] } }

unfoldable pub opens_of : (p : Plan) (fs : List Activation) (v : World) (memory : List Part) (stack back limit : ℕ) (regs : List ℕ) → CallsWait p fs v memory stack back limit → KeptCalls p fs v memory stack regs → List Open
opens_of p [] v memory stack back limit regs w h = []
opens_of p (a ∷ fs) v memory stack back limit regs (inl (less, n, outer, waits, more)) h =
    let k = kept_call p n a fs v memory stack regs waits.callee h in
    call_open p n a fs v memory stack outer regs k ∷ opens_of p fs v memory (stack + (shape p n).size) outer a.frame.call k.before more k.others
opens_of p (a ∷ fs) v memory stack back limit regs (inr (inl (outer, waits, more))) h =
    stub_open a outer ∷ opens_of p fs v memory (stack + frame_size a.function) outer limit regs more (kept_stub p a fs v memory stack back outer regs waits h)
opens_of p (a ∷ fs) v memory stack back limit regs (inr (inr w)) h = []

unfoldable pub tail_of : (p : Plan) (fs : List Activation) (v : World) (memory : List Part) (stack back limit : ℕ) → CallsWait p fs v memory stack back limit → List Activation
tail_of p [] v memory stack back limit w = []
tail_of p (a ∷ fs) v memory stack back limit (inl (less, n, outer, waits, more)) = tail_of p fs v memory (stack + (shape p n).size) outer a.frame.call more
tail_of p (a ∷ fs) v memory stack back limit (inr (inl (outer, waits, more))) = tail_of p fs v memory (stack + frame_size a.function) outer limit more
tail_of p (a ∷ fs) v memory stack back limit (inr (inr w)) = a ∷ fs

pub all_are : (p : Plan) (fs : List Activation) (v : World) (memory : List Part) (stack back limit : ℕ) (regs : List ℕ) (w : CallsWait p fs v memory stack back limit) (h : KeptCalls p fs v memory stack regs) →
    activations (opens_of p fs v memory stack back limit regs w h) ++ tail_of p fs v memory stack back limit w ≡ fs
unfolding opens_of tail_of
all_are p [] v memory stack back limit regs w h = refl
all_are p (a ∷ fs) v memory stack back limit regs (inl (less, n, outer, waits, more)) h =
    let k = kept_call p n a fs v memory stack regs waits.callee h in
    ap (λ xs. a ∷ xs) (all_are p fs v memory (stack + (shape p n).size) outer a.frame.call k.before more k.others)
all_are p (a ∷ fs) v memory stack back limit regs (inr (inl (outer, waits, more))) h =
    ap (λ xs. a ∷ xs) (all_are p fs v memory (stack + frame_size a.function) outer limit regs more (kept_stub p a fs v memory stack back outer regs waits h))
all_are p (a ∷ fs) v memory stack back limit regs (inr (inr w)) h = refl

-- ---- one open call
-- a return address that a frame holds is loaded
pub saved_back : (s : State) (stack back : ℕ) → AddressAt s.memory (stack + return_offset) back → word_loaded s (stack + 8) ≡ Ok back
saved_back s stack back h =
    let test : ((stack + 8) % 8 == 0) ≡ true = grind (arith, nat_tests, h.aligned) in
    rw test (rw h.holds.there (ap Ok h.holds.is))

pub big_frame : (p : Plan) (n : ℕ) → FrameIs (function p n) → 16 ≤ (shape p n).size
big_frame p n is = omega (arith, is.size)

-- where a call goes on, with its bytes
pub record GoesOnAt (p : Plan) (a : Activation) (ip : ℕ) : Type 0 where
  pub there : IsThere p.unit a.function
  pub byte : ℕ
  pub inside : IsByteOf p.unit a.function a.place byte
  pub is : ip ≡ first_byte p.unit a.function + byte + 1

pub compiled_at : (p : Plan) (n ip : ℕ) (a : Activation) → p.base ≡ records_end p.unit → n < length p.unit.functions → a.function ≡ compiled n → GoesOnIn p n a.place ip → GoesOnAt p a ip
compiled_at p n ip a base known callee on =
    let b = byte_before p n a.place ip base on in
    record {
      there = subst (IsThere p.unit) (sym callee) known;
      byte = b.byte;
      inside = subst (λ f. IsByteOf p.unit f a.place b.byte) (sym callee) (record { first = b.first; last = b.last });
      is = b.is ∙ ap (λ f. first_byte p.unit f + b.byte + 1) (sym callee);
    }

-- a call that waits goes on behind a word of its operation
pub waiting_goes_on : (p : Plan) (n : ℕ) (a : Activation) (v : World) (memory : List Part) (stack back outer : ℕ) → p.base ≡ records_end p.unit → UnitStands p memory → Waits p n a v memory stack back outer → GoesOnAt p a back
waiting_goes_on p n a v memory stack back outer base unit waits =
    let front = waits.front in
    let some = calls_a_word (shape p n) waits.op front (unit.registers n a.place waits.op waits.there) waits.calls waits.is in
    let count = ap length waits.is in
    compiled_at p n back a base waits.stands.known waits.callee (record {
      operation = waits.op;
      there = waits.there;
      word = length front - 1;
      inside = omega (arith, count, length-append front (stored_behind (shape p n) waits.op), some);
      is = waits.returns ∙ ap (address (setting p n).ground) (omega (arith, some));
    })

-- the k-th word of one of the runtime's own functions, in an operation of it
pub stub_at : (p : Plan) (f : Function) (place k ip : ℕ) (a : Activation) → p.base ≡ records_end p.unit → a.function ≡ f → a.place ≡ place → IsThere p.unit f → 0 < k → IsByteOf p.unit f place (4 * k - 1) →
    ip ≡ stub_word p.base f k → first_byte p.unit f ≡ records_end p.unit + 4 * stub_first f → GoesOnAt p a ip
stub_at p f place k ip a base callee at there some inside is first = record {
  there = subst (IsThere p.unit) (sym callee) there;
  byte = 4 * k - 1;
  inside = subst (λ g. IsByteOf p.unit g a.place (4 * k - 1)) (sym callee) (subst (λ q. IsByteOf p.unit f q (4 * k - 1)) (sym at) inside);
  is = omega (arith, is, base, some, first) ∙ ap (λ g. first_byte p.unit g + (4 * k - 1) + 1) (sym callee);
}

pub stub_waits_at : (p : Plan) (a : Activation) (v : World) (memory : List Part) (stack back outer : ℕ) → p.base ≡ records_end p.unit → StubWaits p a v memory stack back outer → GoesOnAt p a back
stub_waits_at p a v memory stack back outer base w = by w.waits
  where
    by : DestructorWaits p a v memory stack back ⊎ UnexpectedWaits p a v memory stack back ⊎ LeavingWaits p a v memory stack back → GoesOnAt p a back
    by (inl d) = stub_at p end_catch 1 13 back a base d.callee d.place tt (omega arith) (record { first = omega arith; last = omega arith }) d.returns refl
    by (inr (inl x)) = stub_at p call_unexpected 1 10 back a base x.callee x.place tt (omega arith) (record { first = omega arith; last = omega arith }) x.returns refl
    by (inr (inr l)) = by_place l l.returns
      where
        by_place : (l : LeavingWaits p a v memory stack back) → ((a.place ≡ 15) × (back ≡ stub_word p.base call_unexpected 55)) ⊎ ((a.place ≡ 16) × (back ≡ stub_word p.base call_unexpected 57)) → GoesOnAt p a back
        by_place l (inl r) = stub_at p call_unexpected 15 55 back a base l.callee r.0 tt (omega arith) (record { first = omega arith; last = omega arith }) r.1 refl
        by_place l (inr r) = stub_at p call_unexpected 16 57 back a base l.callee r.0 tt (omega arith) (record { first = omega arith; last = omega arith }) r.1 refl

-- the frame of one of the runtime's own functions that waits
stub_frame_of : (p : Plan) (a : Activation) (v : World) (memory : List Part) (stack back outer : ℕ) → StubWaits p a v memory stack back outer →
    (frame_of p.unit a.function ≡ frame_size a.function) × (saved_places p.unit a.function ≡ []) × (16 ≤ frame_size a.function)
stub_frame_of p a v memory stack back outer w = by w.waits
  where
    of : (f : Function) → a.function ≡ f → frame_of p.unit f ≡ frame_size f → saved_places p.unit f ≡ [] → 16 ≤ frame_size f →
        (frame_of p.unit a.function ≡ frame_size a.function) × (saved_places p.unit a.function ≡ []) × (16 ≤ frame_size a.function)
    of f callee same none big = (ap (frame_of p.unit) callee ∙ (same ∙ ap frame_size (sym callee)), ap (saved_places p.unit) callee ∙ none, subst (λ g. 16 ≤ frame_size g) (sym callee) big)

    by : DestructorWaits p a v memory stack back ⊎ UnexpectedWaits p a v memory stack back ⊎ LeavingWaits p a v memory stack back →
        (frame_of p.unit a.function ≡ frame_size a.function) × (saved_places p.unit a.function ≡ []) × (16 ≤ frame_size a.function)
    by (inl d) = of end_catch d.callee refl refl (omega arith)
    by (inr (inl x)) = of call_unexpected x.callee refl refl (omega arith)
    by (inr (inr l)) = of call_unexpected l.callee refl refl (omega arith)

-- ---- all of them
-- what the stack has from an address on, and what the tables say of it
pub record StackPart (p : Plan) (i : CleanImage) (judge : Judge) (thrown : Thrown) (s : State) (ip stack : ℕ) (opens : List Open) (tail : List Activation) : Type 0 where
  pub stand : CallsStand s (program_of i).image.fdes ip stack (calls opens)
  pub agree : TablesAgree (code_of p.unit) (operation_at p.unit) judge (said s (program_of i).image.fdes thrown) ip opens
  pub ends : IsFirst (program_of i).image.fdes (said s (program_of i).image.fdes thrown) (outer_ip ip (calls opens)) tail ⊎
      IsBarred (code_of p.unit) (said s (program_of i).image.fdes thrown) (outer_ip ip (calls opens)) tail

pub one_more : (p : Plan) (i : CleanImage) (judge : Judge) (thrown : Thrown) (s : State) (a : Activation) (size ip stack back : ℕ) (places saved : List ℕ) (opens : List Open) (tail : List Activation) → IsRunning p i s →
    SaysAll p.unit (said s (program_of i).image.fdes thrown) judge → GoesOnAt p a ip → frame_of p.unit a.function ≡ size → saved_places p.unit a.function ≡ places → 16 ≤ size → 0x7000_0000 ≤ stack → stack + size ≤ 0x7100_0000 →
    AddressAt s.memory (stack + return_offset) back → AreSaved s stack size places saved → length saved ≤ 10 → StackPart p i judge thrown s back (stack + size) opens tail →
    StackPart p i judge thrown s ip stack (record { activation = a; call = record { size = size; back = back; places = places; saved = saved } } ∷ opens) tail
one_more p i judge thrown s a size ip stack back places saved opens tail running says at frame rooms big low high returns kept few more = record {
  stand = (
    record {
      row = subst (HasRow (program_of i).image.fdes (look_up_place ip false) size) rooms
          (subst (λ k. HasRow (program_of i).image.fdes (look_up_place ip false) k (saved_places p.unit a.function)) frame (has_row p i s a.function a.place at.byte ip running at.there at.inside at.is));
      some = big;
      low = low;
      high = high;
      saved = saved_back s stack back returns;
      kept = kept;
      few = few;
    },
    more.stand,
  );
  agree = (says.operation a at.byte ip at.there at.inside at.is, more.agree);
  ends = more.ends;
}

-- what a call saved is read in its places
pub call_saved : (p : Plan) (n : ℕ) (frame : Frame) (v : World) (s : State) (stack : ℕ) (regs before : List ℕ) (k : KeptCall p n frame v s.memory stack regs before) →
    AreSaved s stack (shape p n).size (places_of p n) k.saves.values × (length k.saves.values ≤ 10)
call_saved p n frame v s stack regs before k =
    let count = saved_count (shape p n) s.memory stack (kept_of p n) k.saves.values k.saves.there in
    (saved_words (shape p n) s stack (kept_of p n) k.saves.values k.saves.there, omega (arith, count, (variables_are_kept (function p n)).few))

pub waiting_stack : (p : Plan) (i : CleanImage) (judge : Judge) (thrown : Thrown) (s : State) (fs : List Activation) (v : World) (stack back limit : ℕ) (regs : List ℕ) → IsRunning p i s →
    SaysAll p.unit (said s (program_of i).image.fdes thrown) judge → UnitStands p s.memory → (w : CallsWait p fs v s.memory stack back limit) (h : KeptCalls p fs v s.memory stack regs) →
    StackPart p i judge thrown s back stack (opens_of p fs v s.memory stack back limit regs w h) (tail_of p fs v s.memory stack back limit w)
unfolding opens_of tail_of
waiting_stack p i judge thrown s [] v stack back limit regs running says unit w h =
    let is : back ≡ records_end p.unit + 7 + 1 = omega (arith, w.0, running.base) in
    record {
      stand = tt;
      agree = tt;
      ends = inl (record { none = refl; outermost = outermost p i s 7 back running (omega arith) is; says = says.start 7 back (omega arith) is });
    }
waiting_stack p i judge thrown s (a ∷ fs) v stack back limit regs running says unit (inl (less, n, outer, waits, more)) h =
    let stands = waits.stands in
    let k = kept_call p n a fs v s.memory stack regs waits.callee h in
    let words = call_saved p n a.frame v s stack regs k.before k.call in
    one_more p i judge thrown s a (shape p n).size back stack outer (places_of p n) k.call.saves.values (opens_of p fs v s.memory (stack + (shape p n).size) outer a.frame.call k.before more k.others)
    (tail_of p fs v s.memory (stack + (shape p n).size) outer a.frame.call more)
    running says (waiting_goes_on p n a v s.memory stack back outer running.base unit waits) (ap (frame_of p.unit) waits.callee) (ap (saved_places p.unit) waits.callee) (big_frame p n (unit.frames n stands.known))
    (call_floor p n a.frame v s.memory stack outer stands) stands.below stands.saved words.0 words.1
    (waiting_stack p i judge thrown s fs v (stack + (shape p n).size) outer a.frame.call k.before running says unit more k.others)
waiting_stack p i judge thrown s (a ∷ fs) v stack back limit regs running says unit (inr (inl (outer, waits, more))) h =
    let frame = stub_frame_of p a v s.memory stack back outer waits in
    let stands = waits.stands in
    let low = stub_floor a.function stack stands.above in
    let others = kept_stub p a fs v s.memory stack back outer regs waits h in
    one_more p i judge thrown s a (frame_size a.function) back stack outer [] [] (opens_of p fs v s.memory (stack + frame_size a.function) outer limit regs more others)
    (tail_of p fs v s.memory (stack + frame_size a.function) outer limit more)
    running says (stub_waits_at p a v s.memory stack back outer running.base waits) frame.0 frame.1 frame.2 (omega (arith, low)) stands.below stands.saved tt (omega arith)
    (waiting_stack p i judge thrown s fs v (stack + frame_size a.function) outer limit regs running says unit more others)
waiting_stack p i judge thrown s (a ∷ fs) v stack back limit regs running says unit (inr (inr (waits, hidden))) h =
    let at = stub_at p terminating 0 6 back a running.base waits.callee waits.place tt (omega arith) (record { first = omega arith; last = omega arith }) waits.returns refl in
    let says_so = says.operation a at.byte back at.there at.inside at.is in
    let barred : cover_of (code_of p.unit) a ≡ bare = ap (λ f. look (code_of p.unit) f a.place) waits.callee ∙ ap (look (code_of p.unit) terminating) waits.place in
    record {
      stand = tt;
      agree = tt;
      ends = inr (record { first = a; others = fs; is = refl; bars = barred; says = says_so ∙ ap (λ c. told_of (operation_at p.unit a.function) c (judge a)) barred });
    }
