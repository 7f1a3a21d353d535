-- A store to what is live leaves what registers hold for open calls. An int that is written to a kept variable changes no byte, and is in its register.
use Rattle.std.proofs.Common.{◌≡◌, ◌≢◌, ◌∙◌, refl, sym, ap, subst, arith, ℕ, zero, suc, ◌+◌, ◌^◌, ◌<◌, ◌≤◌, ℤ, List, [], ◌∷◌, ◌++◌, drop, map, length, Some, None}
use Rattle.std.specs.Prelude.{Bool, true, false, slice_get, slice_set, slice_index, if◌then◌else◌}
use Rattle.rv64_isa.specs.State.{State, Part, with_value}
use Rattle.rv64_isa.specs.Step.{x}
use Rattle.region_forms.specs.World.{Base, of_exception, of_variable, Address, Word, number_word, Frame, World, same_address, with_slot, written}
use Rattle.region_forms.specs.WellFormed.{is_variable}
use Rattle.region_forms.specs.Evaluation.{Location, in_memory, in_frame}
use Rattle.region_forms.specs.Effect.{goes, stored_at}
use Rattle.linear_forms.specs.Activation.{Activation}
use Rattle.machine_forms.specs.Registers.{saved_registers}
use Rattle.machine_forms.specs.Shape.{slot_offset}
use Rattle.machine_forms.specs.KeptCode.{register_of}
use Rattle.machine_pieces.specs.Memory.{Apart}
use Rattle.machine_pieces.specs.Numbers.{IsInt, extended}
use Rattle.machine_pieces.specs.Frames.{location_byte}
use Rattle.machine_pieces.specs.Keeping.{saved_of, AreSmall}
use Rattle.machine_pieces.specs.Saving.{IsOut}
use Rattle.machine_pieces.proofs.Numbers.{extended_below}
use Rattle.machine_pieces.proofs.Keeping.{IsSaved, saved_is}
use Rattle.machine_pieces.proofs.Restoring.{AreApart, ten_apart, same_length}
use Rattle.machine_pieces.proofs.Written.{kept_are_written}
use Rattle.machine_simulation.specs.Plan.{Plan, function, shape, slot_kinds, setting}
use Rattle.machine_simulation.specs.Extents.{LocationStands}
use Rattle.machine_simulation.specs.Calls.{CallStands}
use Rattle.machine_simulation.specs.KeptCalls.{kept_of, KeptCall, RegistersMatch}
use Rattle.machine_simulation.specs.Matches.{StillFresh, ObjectsStand, MemoryMatches}
use Rattle.machine_simulation.proofs.Bases.{true_is_not, address_is}
use Rattle.machine_simulation.proofs.StubKeeping.{stub_same}
use Rattle.machine_simulation.proofs.KeptSlots.{kept_slot, plain_slot}
use Rattle.machine_simulation.proofs.KeptCalls.{replaced, KeptStays, kept_still, kept_alone, kept_calls_still}
use Rattle.machine_simulation.proofs.Keeping.{Store, place_of, after, StoreFits, IntsHold, held_later, int_store, address_stays, waits_stay}
use Rattle.machine_simulation.proofs.Holding.{slot_store, same_number}
use Rattle.machine_simulation.proofs.Stored.{stored_there}

-- ---- the newest call and all that wait

-- a frame with the same number has the same kept variables
pub kept_frame : (p : Plan) (n : ℕ) (frame new : Frame) (v : World) (memory : List Part) (stack : ℕ) (regs before : List ℕ) → frame.call ≡ new.call → KeptCall p n frame v memory stack regs before → KeptCall p n new v memory stack regs before
kept_frame p n frame new v memory stack regs before e h = record {
  keeps = subst (λ c. (j s : ℕ) (z : ℤ) → slice_get (kept_of p n) j ≡ Some s → v.memory (record { base = of_variable c s; offset = 0 }) ≡ Some z → IsInt z × (slice_index regs j ≡ extended z)) e h.keeps;
  saves = h.saves;
  dead = subst (λ c. (s r : ℕ) → register_of (kept_of p n) s ≡ Some r → p.live (of_variable c s) ≡ false) e h.dead;
  alone = h.alone;
}

module _ (p : Plan) (at size : Base → ℕ) (live ints : Base → Bool) where
  pub registers_still : (n : ℕ) (frame new_frame : Frame) (fs : List Activation) (v u : World) (old new : List Part) (stack back : ℕ) (regs : List ℕ) → frame.call ≡ new_frame.call → MemoryMatches p n frame fs v old stack back →
      ((m : ℕ) (f : Frame) (place home : ℕ) (rs before : List ℕ) → stack ≤ place → f.call ≤ frame.call → CallStands p m f v old place home → KeptCall p m f v old place rs before → KeptStays p at size live m f.call v u old new place) →
      RegistersMatch p n frame fs v old stack regs → RegistersMatch (replaced p at size live ints) n new_frame fs u new stack regs
  registers_still n frame new_frame fs v u old new stack back regs same h keep r = record {
    small = r.small;
    before = r.before;
    top = kept_frame (replaced p at size live ints) n frame new_frame u new stack regs r.before same
        (kept_still p at size live ints n frame v u old new stack regs r.before (keep n frame stack back regs r.before (omega arith) (omega arith) h.top r.top) r.top);
    waiting = kept_calls_still p at size live ints v u old new stack fs (stack + (shape p n).size) back frame.call r.before (omega arith)
        (λ m f place home rs before above less st one. keep m f place home rs before above (omega (arith, less)) st one) h.waiting r.waiting;
  }

-- ---- a store to what is live

store_stays : (p : Plan) (memory : List Part) (c : Store) (n : ℕ) (frame : Frame) (v u : World) (stack : ℕ) (regs before : List ℕ) → StoreFits p memory c →
    ((s r : ℕ) → register_of (kept_of p n) s ≡ Some r → u.memory (record { base = of_variable frame.call s; offset = 0 }) ≡ v.memory (record { base = of_variable frame.call s; offset = 0 })) →
    KeptCall p n frame v memory stack regs before → KeptStays p p.at p.size p.live n frame.call v u memory (after p c memory) stack
store_stays p memory c n frame v u stack regs before fits ints h = record {
  ints = ints;
  saved = λ s r b is held. address_stays memory (place_of p c) c.size c.value (stack + slot_offset (shape p n) s) b (out s r is) held;
  dead = h.dead;
  alone = λ b s r live is. let k = kept_slot (function p n) s r is in kept_alone p n frame v memory stack regs before b s r h live is k.place k.slot_is;
}
  where
    out : (s r : ℕ) → register_of (kept_of p n) s ≡ Some r → Apart (place_of p c) c.size (stack + slot_offset (shape p n) s) 8
    out s r is i j hi hj e =
        let k = kept_slot (function p n) s r is in
        kept_alone p n frame v memory stack regs before c.base s r h fits.live is k.place k.slot_is j (c.offset + i) hj (omega (arith, hi, fits.inside)) (omega (arith, e))

-- an int that is written at a live address is none of a kept variable
written_other : (p : Plan) (a : Address) (z : ℤ) (v : World) (b : Base) → p.live a.base ≡ true → p.live b ≡ false → (written a z v).memory (record { base = b; offset = 0 }) ≡ v.memory (record { base = b; offset = 0 })
written_other p a z v b live dead = by (same_address a (record { base = b; offset = 0 })) refl
  where
    by : (t : Bool) → same_address a (record { base = b; offset = 0 }) ≡ t → (if t then Some z else v.memory (record { base = b; offset = 0 })) ≡ v.memory (record { base = b; offset = 0 })
    by false e = refl
    by true e =
        let same : a.base ≡ b = ap (λ (y : Address). y.base) (address_is a (record { base = b; offset = 0 }) e) in
        absurd (true_is_not (p.live b) (ap p.live (sym same) ∙ live) dead)

-- a slot that is no variable gets a word
pub slot_kept : (p : Plan) (n : ℕ) (frame : Frame) (fs : List Activation) (v : World) (memory : List Part) (stack back s size value : ℕ) (word : Word) (regs : List ℕ) → MemoryMatches p n frame fs v memory stack back →
    s < length (shape p n).slots → is_variable (slot_kinds p n s) ≡ false → size ≤ 8 → RegistersMatch p n frame fs v memory stack regs →
    RegistersMatch p n (with_slot s word frame) fs v (with_value memory (stack + slot_offset (shape p n) s) size value) stack regs
slot_kept p n frame fs v memory stack back s size value word regs h there plain few r =
    let c : Store = slot_store p frame s size value in
    let place : p.at (of_variable frame.call s) + 0 ≡ stack + slot_offset (shape p n) s = omega (arith, h.top.holds.variables s there) in
    let same : after p c memory ≡ with_value memory (stack + slot_offset (shape p n) s) size value = ap (λ a. with_value memory a size value) place in
    let ok : StoreFits p memory c = record { apart = h.apart; live = h.top.holds.own s there (plain_slot (function p n) s plain); inside = omega (arith, few, h.top.slots.whole s there plain) } in
    subst (λ ps. RegistersMatch p n (with_slot s word frame) fs v ps stack regs) same
    (registers_still p p.at p.size p.live p.ints n frame (with_slot s word frame) fs v v memory (after p c memory) stack back regs refl h
    (λ m f place home rs before above le st one. store_stays p memory c m f v v place rs before ok (λ t q is. refl) one) r)

-- an int is written at a location
pub location_kept : (p : Plan) (n : ℕ) (frame new_frame : Frame) (fs : List Activation) (v new_world : World) (memory : List Part) (stack back : ℕ) (l : Location) (z : ℤ) (regs : List ℕ) →
    MemoryMatches p n frame fs v memory stack back → LocationStands p (shape p n) (slot_kinds p n) l → stored_at l z frame v ≡ goes new_frame new_world → RegistersMatch p n frame fs v memory stack regs →
    RegistersMatch p n new_frame fs new_world (with_value memory (location_byte (setting p n) (shape p n) stack l) 4 (extended z)) stack regs
location_kept p n frame new_frame fs v new_world memory stack back (in_memory a) z regs h ok e r =
    let (there, same_frame, same_world) = stored_there a z frame new_frame v new_world e in
    let c : Store = int_store a z in
    let fits : StoreFits p memory c = record { apart = h.apart; live = ok.0; inside = ok.2 } in
    subst (λ f. RegistersMatch p n f fs new_world (after p c memory) stack regs) same_frame
    (subst (λ u. RegistersMatch p n frame fs u (after p c memory) stack regs) same_world
    (registers_still p p.at p.size p.live p.ints n frame frame fs v (written a z v) memory (after p c memory) stack back regs refl h
    (λ m f place home rs before above le st one. store_stays p memory c m f v (written a z v) place rs before fits (λ s q is. written_other p a z v (of_variable f.call s) ok.0 (one.dead s q is)) one) r))
location_kept p n frame new_frame fs v new_world memory stack back (in_frame s) z regs h ok e r =
    let same_frame : with_slot s (number_word z) frame ≡ new_frame = cc e in
    let same_world : v ≡ new_world = cc e in
    let new : List Part = with_value memory (stack + slot_offset (shape p n) s) 4 (extended z) in
    subst (λ f. RegistersMatch p n f fs new_world new stack regs) same_frame
    (subst (λ u. RegistersMatch p n (with_slot s (number_word z) frame) fs u new stack regs) same_world
    (slot_kept p n frame fs v memory stack back s 4 (extended z) (number_word z) regs h ok.0 ok.1 (omega arith) r))

-- ---- an int of a kept variable: memory

-- a call in a world with other ints, where those at live addresses are in memory
pub call_world : (p : Plan) (n : ℕ) (frame : Frame) (v u : World) (memory : List Part) (stack back : ℕ) → v.last_number ≤ u.last_number → IntsHold p u memory → CallStands p n frame v memory stack back → CallStands p n frame u memory stack back
call_world p n frame v u memory stack back later ints st = record {
  known = st.known;
  small = st.small;
  above = st.above;
  below = st.below;
  holds = record {
    room = st.holds.room;
    slots = st.holds.slots;
    variables = st.holds.variables;
    own = st.holds.own;
    ints = ints;
    reached = st.holds.reached;
    all_globals = st.holds.all_globals;
  };
  slots = st.slots;
  held = λ s b inside is. held_later p v u frame.call b.base later (st.held s b inside is);
  saved = st.saved;
  alone = st.alone;
  clear = st.clear;
}

module _ (p : Plan) (n : ℕ) (frame : Frame) (fs : List Activation) (v : World) (memory : List Part) (stack back s : ℕ) (z : ℤ) (h : MemoryMatches p n frame fs v memory stack back) (dead : p.live (of_variable frame.call s) ≡ false) where
  abbrev a : Address
  a = record { base = of_variable frame.call s; offset = 0 }

  abbrev u : World
  u = written a z v

  -- at a live address nothing has changed
  live_same : (b : Address) → p.live b.base ≡ true → u.memory b ≡ v.memory b
  live_same b live = by (same_address a b) refl
    where
      by : (t : Bool) → same_address a b ≡ t → (if t then Some z else v.memory b) ≡ v.memory b
      by false e = refl
      by true e =
          let same : of_variable frame.call s ≡ b.base = ap (λ (y : Address). y.base) (address_is a b e) in
          absurd (true_is_not (p.live b.base) live (ap p.live (sym same) ∙ dead))

  ints_same : IntsHold p u memory
  ints_same b y live there = h.top.holds.ints b y live (sym (live_same b live) ∙ there)

  fresh_same : StillFresh u
  fresh_same c t o later = by (same_address a (record { base = of_variable c t; offset = o })) refl
    where
      by : (t1 : Bool) → same_address a (record { base = of_variable c t; offset = o }) ≡ t1 → (if t1 then Some z else v.memory (record { base = of_variable c t; offset = o })) ≡ None
      by false e = h.fresh c t o later
      by true e =
          let same : of_variable frame.call s ≡ of_variable c t = ap (λ (y : Address). y.base) (address_is a (record { base = of_variable c t; offset = o }) e) in
          let call : frame.call ≡ c = cc same in
          absurd (omega (arith, call, h.newest, later))

  objects_same : ObjectsStand p u memory
  objects_same = record { may = h.objects.may; made = h.objects.made; fresh = λ e o new. fresh_at e o new (same_address a (record { base = of_exception e; offset = o })) refl; away = h.objects.away; placed = h.objects.placed }
    where
      fresh_at : (e o : ℕ) → v.last_number < e → (t : Bool) → same_address a (record { base = of_exception e; offset = o }) ≡ t → (if t then Some z else v.memory (record { base = of_exception e; offset = o })) ≡ None
      fresh_at e o new false is = h.objects.fresh e o new
      fresh_at e o new true is =
          let same : of_variable frame.call s ≡ of_exception e = ap (λ (y : Address). y.base) (address_is a (record { base = of_exception e; offset = o }) is) in
          absurd (cc same)

  pub register_matches : MemoryMatches p n frame fs (written (record { base = of_variable frame.call s; offset = 0 }) z v) memory stack back
  register_matches = record {
    top = call_world p n frame v u memory stack back (same_number v) ints_same h.top;
    newest = h.newest;
    waiting = waits_stay p fs v u memory memory (stack + (shape p n).size) back frame.call (same_number v) (λ f place home st. stub_same f place memory)
        (λ m g place home less st. call_world p m g v u memory place home (same_number v) ints_same st) h.waiting;
    apart = h.apart;
    inside = λ b y live there. h.inside b y live (sym (live_same b live) ∙ there);
    may = h.may;
    last = h.last;
    fresh = fresh_same;
    objects = objects_same;
    unit = h.unit;
  }

-- ---- an int of a kept variable: registers

small_set : (xs : List ℕ) (j y : ℕ) → y < 2 ^ 64 → AreSmall xs → AreSmall (slice_set xs j y)
small_set [] j y small h = h
small_set (k ∷ xs) zero y small h = (small, h.1)
small_set (k ∷ xs) (suc j) y small h = (h.0, small_set xs j y small h.1)

drop_set : (n : ℕ) (xs : List ℕ) (j y : ℕ) → j < n → drop n (slice_set xs j y) ≡ drop n xs
drop_set zero xs j y less = absurd (omega (arith, less))
drop_set (suc n) [] j y less = refl
drop_set (suc n) (k ∷ xs) zero y less = refl
drop_set (suc n) (k ∷ xs) (suc j) y less = drop_set n xs j y (omega (arith, less))

slot_inside : (xs : List ℕ) (j s : ℕ) → slice_get xs j ≡ Some s → j < length xs
slot_inside [] j s e = absurd (cc e)
slot_inside (k ∷ xs) zero s e = omega arith
slot_inside (k ∷ xs) (suc j) s e = omega (arith, slot_inside xs j s e)

-- another call's variables have other ints
other_call : (c d s t : ℕ) (z : ℤ) (v : World) → c ≢ d → (written (record { base = of_variable c s; offset = 0 }) z v).memory (record { base = of_variable d t; offset = 0 }) ≡ v.memory (record { base = of_variable d t; offset = 0 })
other_call c d s t z v ne = by (same_address (record { base = of_variable c s; offset = 0 }) (record { base = of_variable d t; offset = 0 })) refl
  where
    by : (b : Bool) → same_address (record { base = of_variable c s; offset = 0 }) (record { base = of_variable d t; offset = 0 }) ≡ b →
        (if b then Some z else v.memory (record { base = of_variable d t; offset = 0 })) ≡ v.memory (record { base = of_variable d t; offset = 0 })
    by false e = refl
    by true e =
        let same : of_variable c s ≡ of_variable d t = ap (λ (y : Address). y.base) (address_is (record { base = of_variable c s; offset = 0 }) (record { base = of_variable d t; offset = 0 }) e) in
        absurd (let calls : c ≡ d = cc same in ne calls)

pub register_kept : (p : Plan) (n : ℕ) (frame : Frame) (fs : List Activation) (v : World) (memory : List Part) (stack back j s : ℕ) (z : ℤ) (regs : List ℕ) → MemoryMatches p n frame fs v memory stack back →
    slice_get (kept_of p n) j ≡ Some s → IsInt z → length regs ≡ 10 → RegistersMatch p n frame fs v memory stack regs →
    RegistersMatch p n frame fs (written (record { base = of_variable frame.call s; offset = 0 }) z v) memory stack (slice_set regs j (extended z))
register_kept p n frame fs v memory stack back j s z regs h there int many r =
    let u : World = written (record { base = of_variable frame.call s; offset = 0 }) z v in
    let saves = r.top.saves in
    let count = same_length (shape p n) memory stack (kept_of p n) saves.values saves.there in
    let inside = slot_inside (kept_of p n) j s there in
    record {
      small = small_set regs j (extended z) (extended_below z int) r.small;
      before = r.before;
      top = record {
        keeps = kept_are_written.own (function p n) frame v regs j s z there int many r.top.keeps;
        saves = record {
          values = saves.values;
          there = saves.there;
          before_is = saves.before_is ∙ ap (λ l. saves.values ++ l) (sym (drop_set (length saves.values) regs j (extended z) (omega (arith, count, inside))));
          small = saves.small;
        };
        dead = r.top.dead;
        alone = r.top.alone;
      };
      waiting = kept_calls_still p p.at p.size p.live p.ints v u memory memory stack fs (stack + (shape p n).size) back frame.call r.before (omega arith)
          (λ m f place home rs before above less st one. record {
            ints = λ t q is. other_call frame.call f.call s t z v (λ same. omega (arith, same, less));
            saved = λ t q b is held. held;
            dead = one.dead;
            alone = λ b t q live is. let k = kept_slot (function p m) t q is in kept_alone p m f v memory place rs before b t q one live is k.place k.slot_is;
          }) h.waiting r.waiting;
    }

-- ---- one register of the hart

out_of : (r : ℕ) (rs : List ℕ) (i k : ℕ) → IsOut r rs → slice_get rs i ≡ Some k → r ≢ k
out_of r [] i k out e same = cc e
out_of r (q ∷ rs) zero k out e same = let eq : q ≡ k = cc e in out.0 (same ∙ sym eq)
out_of r (q ∷ rs) (suc i) k out e same = out_of r rs i k out.1 e same

maps_same : (f g : ℕ → ℕ) (rs : List ℕ) → ((i q : ℕ) → slice_get rs i ≡ Some q → f q ≡ g q) → map f rs ≡ map g rs
maps_same f g [] h = refl
maps_same f g (r ∷ rs) h = ap (λ a. a ∷ map f rs) (h 0 r refl) ∙ ap (λ l. g r ∷ l) (maps_same f g rs (λ i q e. h (suc i) q e))

set_map : (f g : ℕ → ℕ) (rs : List ℕ) (j r y : ℕ) → AreApart rs → slice_get rs j ≡ Some r → f r ≡ y → ((i q : ℕ) → slice_get rs i ≡ Some q → q ≢ r → f q ≡ g q) → map f rs ≡ slice_set (map g rs) j y
set_map f g [] j r y apart e is keep = absurd (cc e)
set_map f g (q ∷ rs) zero r y apart e is keep =
    let same : q ≡ r = cc e in
    ap (λ a. a ∷ map f rs) (ap f same ∙ is) ∙ ap (λ l. y ∷ l) (maps_same f g rs (λ i k there. keep (suc i) k there (λ eq. out_of q rs i k apart.3 there (same ∙ sym eq))))
set_map f g (q ∷ rs) (suc j) r y apart e is keep =
    ap (λ a. a ∷ map f rs) (keep 0 q refl (λ eq. out_of q rs j r apart.3 e eq)) ∙ ap (λ l. g q ∷ l) (set_map f g rs j r y apart.4 e is (λ i k there ne. keep (suc i) k there ne))

pub register_set : (s t : State) (j r y : ℕ) → slice_get saved_registers j ≡ Some r → x t r ≡ y → ((q : ℕ) → IsSaved q → q ≢ r → x t q ≡ x s q) → saved_of t ≡ slice_set (saved_of s) j y
register_set s t j r y there is keep = set_map (x t) (x s) saved_registers j r y ten_apart there is (λ i q e ne. keep q (saved_is i q e) ne)
