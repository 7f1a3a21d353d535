-- What changes in the stack below the newest call's frame leaves all.
use Rattle.std.proofs.Common.{◌≡◌, refl, arith, ℕ, ◌+◌, ◌≤◌, ℤ, List, [], ◌∷◌, inl, inr}
use Rattle.std.specs.Prelude.{◌⊎◌, true}
use Rattle.rv64_isa.specs.State.{Part, with_value}
use Rattle.region_forms.specs.World.{Base, Word, nothing, number_word, address_word, flying, unwinding, object_address, Frame, World}
use Rattle.linear_forms.specs.Stub.{Function}
use Rattle.linear_forms.specs.Activation.{Activation}
use Rattle.machine_forms.specs.Shape.{slot_offset, return_offset}
use Rattle.machine_pieces.specs.Memory.{Holds, Apart, Written}
use Rattle.machine_pieces.specs.Numbers.{int_bits}
use Rattle.machine_pieces.specs.Frames.{Setting, byte_of, IntAt, AddressAt, WordHolds}
use Rattle.machine_pieces.proofs.Storing.{value_written, holds_apart, may_still}
use Rattle.machine_stubs.specs.Stretches.{frame_size, Beside}
use Rattle.machine_simulation.specs.Plan.{Plan, function, shape, setting}
use Rattle.machine_simulation.specs.Extents.{IntsInside}
use Rattle.machine_simulation.specs.Calls.{CallStands, CallsWait}
use Rattle.machine_simulation.specs.KeptCalls.{RegistersMatch}
use Rattle.machine_simulation.specs.Matches.{MemoryMatches}
use Rattle.machine_simulation.proofs.KeptSlots.{kept_slot}
use Rattle.machine_simulation.proofs.KeptCalls.{kept_alone}
use Rattle.machine_simulation.proofs.KeptStores.{registers_still}
use Rattle.machine_simulation.proofs.Keeping.{IntsHold}
use Rattle.machine_simulation.proofs.StubKeeping.{StubKeeps, stub_stays}
use Rattle.machine_simulation.proofs.Holding.{unit_stays, stack_stays, objects_stay, same_number}

-- bytes of the stack below a place
pub record IsFree (stack a k : ℕ) : Type 0 where
  pub low : 0x7000_0000 ≤ a
  pub high : a + k ≤ stack

-- what lies below the stack or from that place on is apart from them
above_apart : (stack a k b n : ℕ) → IsFree stack a k → (b + n ≤ 0x7000_0000) ⊎ (stack ≤ b) → Apart a k b n
above_apart stack a k b n free (inl low) i j hi hj e = omega (arith, free.low, low, hi, hj, e)
above_apart stack a k b n free (inr high) i j hi hj e = omega (arith, free.high, high, hi, hj, e)

-- all that is live is apart from them
abbrev pub LiveApart : Plan → (a k : ℕ) → Type 0
LiveApart p a k = (b : Base) (o n c : ℕ) → p.live b ≡ true → c ≡ p.at b + o → o + n ≤ p.size b → Apart a k c n

live_apart : (p : Plan) (n : ℕ) (frame : Frame) (fs : List Activation) (v : World) (memory : List Part) (stack back a k : ℕ) → MemoryMatches p n frame fs v memory stack back → IsFree stack a k → LiveApart p a k
live_apart p n frame fs v memory stack back a k h free b o m c live at inside i j hi hj e =
    above_apart stack a k (p.at b) (p.size b) free (h.top.clear b live (h.last b live)) i (o + j) hi (omega (arith, inside, hj)) (omega (arith, e, at))

-- a word keeps its bytes
pub word_kept : (t : Setting) (old new : List Part) (a : ℕ) (word : Word) → ((k z : ℕ) → Holds old a k z → Holds new a k z) → WordHolds t old a word → WordHolds t new a word
word_kept t old new a nothing keep h = tt
word_kept t old new a (number_word z) keep h = record { int = h.int; aligned = h.aligned; below = h.below; holds = keep 4 (int_bits z) h.holds }
word_kept t old new a (address_word b) keep h = record { aligned = h.aligned; below = h.below; holds = keep 8 (byte_of t b) h.holds }
word_kept t old new a (flying e target) keep h = record { aligned = h.aligned; below = h.below; holds = keep 8 (byte_of t (object_address e)) h.holds }
word_kept t old new a (unwinding n) keep h = record { aligned = h.aligned; below = h.below; holds = keep 8 0 h.holds }

-- ---- memory is as before beside some bytes

module _ (p : Plan) (v : World) (a k : ℕ) (old new : List Part) (beside : Beside a k old new) where
  int_beside : (b : ℕ) (z : ℤ) → Apart a k b 4 → IntAt old b z → IntAt new b z
  int_beside b z out h = record { int = h.int; aligned = h.aligned; below = h.below; holds = beside.others b 4 (int_bits z) out h.holds }

  address_beside : (b c : ℕ) → Apart a k b 8 → AddressAt old b c → AddressAt new b c
  address_beside b c out h = record { aligned = h.aligned; below = h.below; holds = beside.others b 8 c out h.holds }

  -- a slot from a place on
  slot_beside : (t : Setting) (stack b : ℕ) (word : Word) → IsFree stack a k → stack ≤ b → WordHolds t old b word → WordHolds t new b word
  slot_beside t stack b word free high h = word_kept t old new b word (λ n z there. beside.others b n z (above_apart stack a k b n free (inr high)) there) h

  ints_beside : LiveApart p a k → IntsInside p v → IntsHold p v old → IntsHold p v new
  ints_beside live inside ints c z is_live there = int_beside (p.at c.base + c.offset) z (live c.base c.offset 4 (p.at c.base + c.offset) is_live refl (inside c z is_live there).0) (ints c z is_live there)

  free_call : (n : ℕ) (frame : Frame) (stack back : ℕ) → IsFree stack a k → IntsHold p v new → CallStands p n frame v old stack back → CallStands p n frame v new stack back
  free_call n frame stack back free ints st = record {
    known = st.known;
    small = st.small;
    above = st.above;
    below = st.below;
    holds = record {
      room = st.holds.room;
      slots = λ s inside. slot_beside (setting p n) stack (stack + slot_offset (shape p n) s) (frame.slots s) free (omega arith) (st.holds.slots s inside);
      variables = st.holds.variables;
      own = st.holds.own;
      ints = ints;
      reached = st.holds.reached;
      all_globals = st.holds.all_globals;
    };
    slots = st.slots;
    held = st.held;
    saved = address_beside (stack + return_offset) back (above_apart stack a k (stack + return_offset) 8 free (inr (omega arith))) st.saved;
    alone = st.alone;
    clear = st.clear;
  }

  -- the frame of one of the runtime's own functions from a place on
  free_stub : (stack : ℕ) (f : Function) → IsFree stack a k → StubKeeps f stack old new
  free_stub stack f free = record {
    address = λ o b inside there. address_beside (stack + o) b (above_apart stack a k (stack + o) 8 free (inr (omega arith))) there;
    int = λ o z inside there. int_beside (stack + o) z (above_apart stack a k (stack + o) 4 free (inr (omega arith))) there;
  }

  pub free_waits : (fs : List Activation) (stack back limit : ℕ) → IntsHold p v new → IsFree stack a k → CallsWait p fs v old stack back limit → CallsWait p fs v new stack back limit
  free_waits [] stack back limit ints free h = h
  free_waits (c ∷ fs) stack back limit ints free (inl h) =
      let w = h.3 in inl (
        h.0,
        h.1,
        h.2,
        record { callee = w.callee; op = w.op; there = w.there; calls = w.calls; front = w.front; is = w.is; returns = w.returns; stands = free_call h.1 c.frame stack h.2 free ints w.stands },
        free_waits fs (stack + (shape p h.1).size) h.2 c.frame.call ints (record { low = free.low; high = omega (arith, free.high) }) h.4,
      )
  free_waits (c ∷ fs) stack back limit ints free (inr (inl h)) = inr (inl (
    h.0,
    stub_stays p p v v old new c stack back (record { base = refl; tables = λ n. refl; object = λ e le. refl }) (same_number v) (free_stub stack c.function free) h.0 h.1.stands.alone h.1,
    free_waits fs (stack + frame_size c.function) h.0 limit ints (record { low = free.low; high = omega (arith, free.high) }) h.2,
  ))
  free_waits (c ∷ fs) stack back limit ints free (inr (inr h)) = inr (inr h)

-- bytes of the stack below the newest call's frame have changed
pub beside_matches : (p : Plan) (n : ℕ) (frame : Frame) (fs : List Activation) (v : World) (old new : List Part) (stack back a k : ℕ) → MemoryMatches p n frame fs v old stack back → IsFree stack a k → Beside a k old new →
    MemoryMatches p n frame fs v new stack back
beside_matches p n frame fs v old new stack back a k h free beside =
    let live : LiveApart p a k = live_apart p n frame fs v old stack back a k h free in
    let w : Written old new = beside.written in
    let ints : IntsHold p v new = ints_beside p v a k old new beside live h.inside h.top.holds.ints in
    record {
      top = free_call p v a k old new beside n frame stack back free ints h.top;
      newest = h.newest;
      waiting = free_waits p v a k old new beside fs (stack + (shape p n).size) back frame.call ints (record { low = free.low; high = omega (arith, free.high) }) h.waiting;
      apart = record {
        apart = h.apart.apart;
        may = λ b o m is_live inside. may_still old new (p.at b + o) m w (h.apart.may b o m is_live inside);
        below = h.apart.below;
        aligned = h.apart.aligned;
      };
      inside = h.inside;
      may = stack_stays old new w h.may;
      last = h.last;
      fresh = h.fresh;
      objects = objects_stay p v old new w h.objects;
      unit = unit_stays p old new w h.unit;
    }

pub free_matches : (p : Plan) (n : ℕ) (frame : Frame) (fs : List Activation) (v : World) (memory : List Part) (stack back a k value : ℕ) → MemoryMatches p n frame fs v memory stack back → IsFree stack a k →
    MemoryMatches p n frame fs v (with_value memory a k value) stack back
free_matches p n frame fs v memory stack back a k value h free =
    beside_matches p n frame fs v memory (with_value memory a k value) stack back a k h free (record {
      written = value_written memory a k value (h.may a k free.low (omega (arith, free.high, h.top.below)));
      others = λ b m x out held. holds_apart memory a k value b m x out held;
    })

-- ---- registers of kept variables

-- what holds the bytes from the newest call's frame on keeps what registers hold for all open calls
pub registers_above : (p : Plan) (n : ℕ) (frame : Frame) (fs : List Activation) (v : World) (old new : List Part) (stack back : ℕ) (regs : List ℕ) → MemoryMatches p n frame fs v old stack back →
    ((b m x : ℕ) → stack ≤ b → Holds old b m x → Holds new b m x) → RegistersMatch p n frame fs v old stack regs → RegistersMatch p n frame fs v new stack regs
registers_above p n frame fs v old new stack back regs h keep r =
    registers_still p p.at p.size p.live p.ints n frame frame fs v v old new stack back regs refl h
    (λ m f place home rs before above le st one. record {
      ints = λ s q is. refl;
      saved = λ s q b is held. record { aligned = held.aligned; below = held.below; holds = keep (place + slot_offset (shape p m) s) 8 b (omega (arith, above)) held.holds };
      dead = one.dead;
      alone = λ b s q live is. let k = kept_slot (function p m) s q is in kept_alone p m f v old place rs before b s q one live is k.place k.slot_is;
    }) r

pub registers_beside : (p : Plan) (n : ℕ) (frame : Frame) (fs : List Activation) (v : World) (old new : List Part) (stack back a k : ℕ) (regs : List ℕ) → MemoryMatches p n frame fs v old stack back → IsFree stack a k → Beside a k old new →
    RegistersMatch p n frame fs v old stack regs → RegistersMatch p n frame fs v new stack regs
registers_beside p n frame fs v old new stack back a k regs h free beside r =
    registers_above p n frame fs v old new stack back regs h (λ b m x high held. beside.others b m x (above_apart stack a k b m free (inr high)) held) r
