-- Memory still matches where an exception gets its object.
use Rattle.std.proofs.Common.{◌≡◌, ◌≢◌, ◌∙◌, refl, sym, ap, subst, arith, ℕ, ◌+◌, ◌%◌, ◌^◌, ◌<◌, ◌≤◌, ◌==◌, ℤ, Bool, true, false, List, [], ◌∷◌, Some, None, inl, inr}
use Rattle.std.specs.Prelude.{◌⊎◌, if◌then◌else◌}
use Rattle.std.proofs.lemmas.Bool.Decides.{nat_tests}
use Rattle.rv64_isa.specs.State.{Part}
use Rattle.cxa_runtime.specs.Objects.{object_of}
use Rattle.region_forms.specs.World.{Base, of_global, of_variable, of_exception, Address, Word, nothing, number_word, address_word, flying, unwinding, address_in, object_address, Frame, World}
use Rattle.linear_forms.specs.Activation.{Activation}
use Rattle.machine_forms.specs.Shape.{slot_offset, return_offset}
use Rattle.machine_pieces.specs.Memory.{MayWrite, Apart}
use Rattle.machine_pieces.specs.Frames.{IntAt, AddressAt, WordHolds}
use Rattle.machine_stubs.specs.Stretches.{frame_size}
use Rattle.machine_simulation.specs.Plan.{Plan, shape, setting, function}
use Rattle.machine_simulation.specs.Extents.{newer, StandApart, IntsInside}
use Rattle.machine_simulation.specs.Calls.{HeldBy, CallStands, CallsWait}
use Rattle.machine_simulation.specs.Matches.{IsAway, is_exception, ObjectsStand, MemoryMatches}
use Rattle.machine_simulation.proofs.StubKeeping.{stub_same, stub_stays}
use Rattle.machine_simulation.proofs.Keeping.{IntsHold}
use Rattle.machine_simulation.specs.Objects.{is_object, with_object}
use Rattle.machine_simulation.specs.KeptCalls.{RegistersMatch}
use Rattle.machine_simulation.proofs.KeptSlots.{kept_slot}
use Rattle.machine_simulation.proofs.KeptCalls.{kept_alone}
use Rattle.machine_simulation.proofs.KeptStores.{registers_still}
use Rattle.machine_simulation.proofs.Floors.{call_floor, stub_floor}

-- what is asked of the exception, its slot and the worlds before and behind
pub record Making (p : Plan) (e slot : ℕ) (v u : World) : Type 0 where
  pub next : e ≡ v.last_number + 1
  pub number : u.last_number ≡ e
  pub memory : u.memory ≡ v.memory
  pub calls : u.calls ≡ v.calls
  pub below : slot < 1024
  pub others : (d : ℕ) → p.live (of_exception d) ≡ true → (s : ℕ) × (p.at (of_exception d) ≡ object_of s) × (p.size (of_exception d) ≡ 0x1000) × (s ≢ slot)

-- the object of the exception, or another base
abbrev OneOrNot : ℕ → Base → Type 0
OneOrNot e b = (b ≡ of_exception e) ⊎ (is_object e b ≡ false)

one_or_not : (e : ℕ) (b : Base) → OneOrNot e b
one_or_not e (of_global g) = inr refl
one_or_not e (of_variable c s) = inr refl
one_or_not e (of_exception d) = by (e == d) refl
  where
    by : (b : Bool) → (e == d) ≡ b → OneOrNot e (of_exception d)
    by true is = let same : e ≡ d = grind (arith, nat_tests, is) in inl (ap of_exception (sym same))
    by false is = inr is

itself : (e : ℕ) → (e == e) ≡ true
itself e = grind (arith, nat_tests)

module _ (p : Plan) (e slot : ℕ) where
  abbrev pub q : Plan
  q = with_object p e slot

  -- the new plan at the object, and at another base
  pub record NewAt (b : Base) : Type 0 where
    pub at : q.at b ≡ object_of slot
    pub live : q.live b ≡ true
    pub size : q.size b ≡ 0x1000
    pub ints : q.ints b ≡ true

  pub new_at : (b : Base) → b ≡ of_exception e → NewAt b
  new_at b is =
      let test : is_object e b ≡ true = ap (is_object e) is ∙ itself e in
      record {
        at = ap (λ t. if t then object_of slot else p.at b) test;
        live = ap (λ t. if t then true else p.live b) test;
        size = ap (λ t. if t then 0x1000 else p.size b) test;
        ints = ap (λ t. if t then true else p.ints b) test;
      }

  pub record OldAt (b : Base) : Type 0 where
    pub at : q.at b ≡ p.at b
    pub live : q.live b ≡ p.live b
    pub size : q.size b ≡ p.size b
    pub ints : q.ints b ≡ p.ints b

  pub old_at : (b : Base) → is_object e b ≡ false → OldAt b
  old_at b is = record {
    at = ap (λ t. if t then object_of slot else p.at b) is;
    live = ap (λ t. if t then true else p.live b) is;
    size = ap (λ t. if t then 0x1000 else p.size b) is;
    ints = ap (λ t. if t then true else p.ints b) is;
  }

module _ (p : Plan) (e slot : ℕ) (v u : World) (h : Making p e slot v u) where
  later : v.last_number ≤ u.last_number
  later = omega (arith, h.next, h.number)

  -- what a call holds was made before
  held_other : (c : ℕ) (b : Base) → HeldBy p v c b → is_object e b ≡ false
  held_other c (of_global g) held = refl
  held_other c (of_variable d s) held = refl
  held_other c (of_exception d) held = grind (arith, nat_tests, held, h.next)

  held_still : (c : ℕ) (b : Base) → HeldBy p v c b → HeldBy (with_object p e slot) u c b
  held_still c (of_global g) held = held
  held_still c (of_variable d s) held = held
  held_still c (of_exception d) held = omega (arith, held, later)

  word_still : (n : ℕ) (memory : List Part) (a c : ℕ) (word : Word) → ((b : Address) → address_in word ≡ Some b → HeldBy p v c b.base) → WordHolds (setting p n) memory a word → WordHolds (setting (with_object p e slot) n) memory a word
  word_still n memory a c nothing held w = tt
  word_still n memory a c (number_word z) held w = w
  word_still n memory a c (address_word b) held w =
      subst (AddressAt memory a) (ap (λ k. k + b.offset) (sym (old_at p e slot b.base (held_other c b.base (held b refl))).at)) w
  word_still n memory a c (flying d target) held w =
      subst (AddressAt memory a) (ap (λ k. k + 0) (sym (old_at p e slot (of_exception d) (held_other c (of_exception d) (held (object_address d) refl))).at)) w
  word_still n memory a c (unwinding k) held w = w

  -- bytes of the stack are apart from all that is live
  stack_apart : (b : Base) (a k : ℕ) → 0x7000_0000 ≤ a → (with_object p e slot).live b ≡ true → ((d : Base) → p.live d ≡ true → Apart (p.at d) (p.size d) a k) → OneOrNot e b → Apart ((with_object p e slot).at b) ((with_object p e slot).size b) a k
  stack_apart b a k high live alone (inl is) i j hi hj same = let new = new_at p e slot b is in omega (arith, new.at, new.size, h.below, high, hi, same)
  stack_apart b a k high live alone (inr not_one) i j hi hj same =
      let old = old_at p e slot b not_one in
      alone b (sym old.live ∙ live) i j (omega (arith, hi, old.size)) hj (omega (arith, same, old.at))

  pub call_made : (n : ℕ) (frame : Frame) (memory : List Part) (stack back : ℕ) → IntsHold (with_object p e slot) u memory → CallStands p n frame v memory stack back → CallStands (with_object p e slot) n frame u memory stack back
  call_made n frame memory stack back ints st = record {
    known = st.known;
    small = st.small;
    above = st.above;
    below = st.below;
    holds = record {
      room = st.holds.room;
      slots = λ s inside. word_still n memory (stack + slot_offset (shape p n) s) frame.call (frame.slots s) (λ b is. st.held s b inside is) (st.holds.slots s inside);
      variables = st.holds.variables;
      own = st.holds.own;
      ints = ints;
      reached = st.holds.reached;
      all_globals = st.holds.all_globals;
    };
    slots = record { variables = st.slots.variables; whole = st.slots.whole; aligned = st.slots.aligned; ints = st.slots.ints };
    held = λ s b inside is. held_still frame.call b.base (st.held s b inside is);
    saved = st.saved;
    alone = λ b live. stack_apart b (stack + return_offset) 8 (omega (arith, call_floor p n frame v memory stack back st)) live st.alone (one_or_not e b);
    clear = λ b live older. clear_at b live older (one_or_not e b);
  }
    where
      clear_at : (b : Base) → (with_object p e slot).live b ≡ true → newer frame.call b ≡ false → OneOrNot e b → ((with_object p e slot).at b + (with_object p e slot).size b ≤ 0x7000_0000) ⊎ (stack ≤ (with_object p e slot).at b)
      clear_at b live older (inl is) = let new = new_at p e slot b is in inl (omega (arith, new.at, new.size, h.below))
      clear_at b live older (inr not_one) = let old = old_at p e slot b not_one in to old (st.clear b (sym old.live ∙ live) older)
        where
          to : OldAt p e slot b → (p.at b + p.size b ≤ 0x7000_0000) ⊎ (stack ≤ p.at b) → ((with_object p e slot).at b + (with_object p e slot).size b ≤ 0x7000_0000) ⊎ (stack ≤ (with_object p e slot).at b)
          to old (inl below) = inl (omega (arith, old.at, old.size, below))
          to old (inr above) = inr (omega (arith, old.at, above))

  pub waits_made : (fs : List Activation) (memory : List Part) (stack back limit : ℕ) → IntsHold (with_object p e slot) u memory → CallsWait p fs v memory stack back limit → CallsWait (with_object p e slot) fs u memory stack back limit
  waits_made [] memory stack back limit ints w = w
  waits_made (a ∷ fs) memory stack back limit ints (inl w) =
      let c = w.3 in inl (
        w.0,
        w.1,
        w.2,
        record { callee = c.callee; op = c.op; there = c.there; calls = c.calls; front = c.front; is = c.is; returns = c.returns; stands = call_made w.1 a.frame memory stack w.2 ints c.stands },
        waits_made fs memory (stack + (shape p w.1).size) w.2 a.frame.call ints w.4,
      )
  waits_made (a ∷ fs) memory stack back limit ints (inr (inl w)) = inr (inl (
    w.0,
    stub_stays p (with_object p e slot) v u memory memory a stack back (record { base = refl; tables = λ n. refl; object = λ d le. (old_at p e slot (of_exception d) (grind (arith, nat_tests, le, h.next))).at }) later (stub_same a.function stack memory) w.0
        (λ b live. stack_apart b stack (frame_size a.function) (omega (arith, stub_floor a.function stack w.1.stands.above)) live w.1.stands.alone (one_or_not e b)) w.1,
    waits_made fs memory (stack + frame_size a.function) w.0 limit ints w.2,
  ))
  waits_made (a ∷ fs) memory stack back limit ints (inr (inr w)) = inr (inr w)

  -- ---- bytes of the object, and of all else

  away_from : (a n i j : ℕ) → i < 0x1000 → j < n → object_of slot + i ≡ a + j → IsAway a n → ⊥
  away_from a n i j hi hj same (inl below) = omega (arith, hi, hj, same, below)
  away_from a n i j hi hj same (inr above) = omega (arith, hi, same, above, h.below)

  other_apart : (memory : List Part) (b : Base) → ObjectsStand p v memory → p.live b ≡ true → is_object e b ≡ false → Apart (object_of slot) 0x1000 (p.at b) (p.size b)
  other_apart memory (of_global g) objects live not_one i j hi hj same = away_from (p.at (of_global g)) (p.size (of_global g)) i j hi hj same (objects.away (of_global g) live refl)
  other_apart memory (of_variable c s) objects live not_one i j hi hj same = away_from (p.at (of_variable c s)) (p.size (of_variable c s)) i j hi hj same (objects.away (of_variable c s) live refl)
  other_apart memory (of_exception d) objects live not_one i j hi hj same =
      let o = h.others d live in
      o.3 (slots_same slot o.0 (omega (arith, hi)) (omega (arith, hj, o.2)) (omega (arith, same, o.1)))
    where
      slots_same : (a b : ℕ) → i < 0x1000 → j < 0x1000 → object_of a + i ≡ object_of b + j → b ≡ a
      slots_same a b si sj e = omega (arith, si, sj, e)

  apart_at : (memory : List Part) (a b : Base) → StandApart p memory → ObjectsStand p v memory → (with_object p e slot).live a ≡ true → (with_object p e slot).live b ≡ true → a ≢ b → OneOrNot e a → OneOrNot e b → Apart ((with_object p e slot).at a) ((with_object p e slot).size a) ((with_object p e slot).at b) ((with_object p e slot).size b)
  apart_at memory a b stand objects la lb ne (inl x) (inl y) i j hi hj same = absurd (ne (x ∙ sym y))
  apart_at memory a b stand objects la lb ne (inl x) (inr y) i j hi hj same =
      let new = new_at p e slot a x in
      let old = old_at p e slot b y in
      other_apart memory b objects (sym old.live ∙ lb) y i j (omega (arith, hi, new.size)) (omega (arith, hj, old.size)) (omega (arith, same, new.at, old.at))
  apart_at memory a b stand objects la lb ne (inr x) (inl y) i j hi hj same =
      let old = old_at p e slot a x in
      let new = new_at p e slot b y in
      other_apart memory a objects (sym old.live ∙ la) x j i (omega (arith, hj, new.size)) (omega (arith, hi, old.size)) (omega (arith, same, new.at, old.at))
  apart_at memory a b stand objects la lb ne (inr x) (inr y) i j hi hj same =
      let s = old_at p e slot a x in
      let t = old_at p e slot b y in
      stand.apart a b (sym s.live ∙ la) (sym t.live ∙ lb) ne i j (omega (arith, hi, s.size)) (omega (arith, hj, t.size)) (omega (arith, same, s.at, t.at))

  may_at : (memory : List Part) (b : Base) (o k : ℕ) → StandApart p memory → ObjectsStand p v memory → (with_object p e slot).live b ≡ true → o + k ≤ (with_object p e slot).size b → OneOrNot e b → MayWrite memory ((with_object p e slot).at b + o) k
  may_at memory b o k stand objects live inside (inl x) = let new = new_at p e slot b x in objects.may ((with_object p e slot).at b + o) k (omega (arith, new.at)) (omega (arith, new.at, new.size, inside, h.below))
  may_at memory b o k stand objects live inside (inr x) =
      let old = old_at p e slot b x in
      subst (λ a. MayWrite memory (a + o) k) (sym old.at) (stand.may b o k (sym old.live ∙ live) (omega (arith, inside, old.size)))

  below_at : (memory : List Part) (b : Base) → StandApart p memory → (with_object p e slot).live b ≡ true → OneOrNot e b → (with_object p e slot).at b + (with_object p e slot).size b < 2 ^ 64
  below_at memory b stand live (inl x) = let new = new_at p e slot b x in omega (arith, new.at, new.size, h.below)
  below_at memory b stand live (inr x) = let old = old_at p e slot b x in omega (arith, old.at, old.size, stand.below b (sym old.live ∙ live))

  aligned_at : (memory : List Part) (b : Base) → StandApart p memory → (with_object p e slot).live b ≡ true → OneOrNot e b → (with_object p e slot).at b % 4 ≡ 0
  aligned_at memory b stand live (inl x) = let new = new_at p e slot b x in omega (arith, new.at)
  aligned_at memory b stand live (inr x) = let old = old_at p e slot b x in omega (arith, old.at, stand.aligned b (sym old.live ∙ live))

  stands : (memory : List Part) → StandApart p memory → ObjectsStand p v memory → StandApart (with_object p e slot) memory
  stands memory stand objects = record {
    apart = λ a b la lb ne. apart_at memory a b stand objects la lb ne (one_or_not e a) (one_or_not e b);
    may = λ b o k live inside. may_at memory b o k stand objects live inside (one_or_not e b);
    below = λ b live. below_at memory b stand live (one_or_not e b);
    aligned = λ b live. aligned_at memory b stand live (one_or_not e b);
  }

  -- ---- ints

  -- an int at a live address was there before
  int_before : (memory : List Part) (a : Address) (z : ℤ) → ObjectsStand p v memory → u.memory a ≡ Some z → is_object e a.base ≡ false
  int_before memory a z objects there = by (one_or_not e a.base)
    where
      by : OneOrNot e a.base → is_object e a.base ≡ false
      by (inr x) = x
      by (inl x) =
          let none : v.memory a ≡ None = subst (λ b. v.memory (record { base = b; offset = a.offset }) ≡ None) (sym x) (objects.fresh e a.offset (omega (arith, h.next))) in
          let both : Some z ≡ None = sym there ∙ ap (λ m. m a) h.memory ∙ none in
          absurd (cc both)

  ints_still : (memory : List Part) → ObjectsStand p v memory → IntsHold p v memory → IntsHold (with_object p e slot) u memory
  ints_still memory objects ints a z live there =
      let old = old_at p e slot a.base (int_before memory a z objects there) in
      subst (λ k. IntAt memory (k + a.offset) z) (sym old.at) (ints a z (sym old.live ∙ live) (ap (λ m. m a) (sym h.memory) ∙ there))

  inside_still : (memory : List Part) → ObjectsStand p v memory → IntsInside p v → IntsInside (with_object p e slot) u
  inside_still memory objects inside a z live there =
      let old = old_at p e slot a.base (int_before memory a z objects there) in
      let was = inside a z (sym old.live ∙ live) (ap (λ m. m a) (sym h.memory) ∙ there) in
      (omega (arith, was.0, old.size), old.ints ∙ was.1)

  objects_made : (memory : List Part) → ObjectsStand p v memory → ObjectsStand (with_object p e slot) u memory
  objects_made memory objects = record {
    may = objects.may;
    made = λ d live. made_at d live (one_or_not e (of_exception d));
    fresh = λ d o more. ap (λ m. m (record { base = of_exception d; offset = o })) h.memory ∙ objects.fresh d o (omega (arith, more, later));
    away = away_at;
    placed = λ d. placed_at d (one_or_not e (of_exception d));
  }
    where
      placed_at : (d : ℕ) → OneOrNot e (of_exception d) → (with_object p e slot).at (of_exception d) + (with_object p e slot).size (of_exception d) < 2 ^ 64
      placed_at d (inl x) = let new = new_at p e slot (of_exception d) x in omega (arith, new.at, new.size, h.below)
      placed_at d (inr x) = let old = old_at p e slot (of_exception d) x in omega (arith, old.at, old.size, objects.placed d)

      made_at : (d : ℕ) → (with_object p e slot).live (of_exception d) ≡ true → OneOrNot e (of_exception d) → d ≤ u.last_number
      made_at d live (inl x) = let same : d ≡ e = cc x in omega (arith, same, h.number)
      made_at d live (inr x) = let old = old_at p e slot (of_exception d) x in omega (arith, objects.made d (sym old.live ∙ live), later)

      away_at : (b : Base) → (with_object p e slot).live b ≡ true → is_exception b ≡ false → IsAway ((with_object p e slot).at b) ((with_object p e slot).size b)
      away_at (of_global g) live plain = objects.away (of_global g) live plain
      away_at (of_variable c s) live plain = objects.away (of_variable c s) live plain
      away_at (of_exception d) live plain = absurd (cc plain)

  -- ---- all of memory

  pub matches_made : (n : ℕ) (frame : Frame) (fs : List Activation) (memory : List Part) (stack back : ℕ) → MemoryMatches p n frame fs v memory stack back → MemoryMatches (with_object p e slot) n frame fs u memory stack back
  matches_made n frame fs memory stack back m =
      let ints = ints_still memory m.objects m.top.holds.ints in
      record {
        top = call_made n frame memory stack back ints m.top;
        newest = omega (arith, m.newest, h.calls);
        waiting = waits_made fs memory (stack + (shape p n).size) back frame.call ints m.waiting;
        apart = stands memory m.apart m.objects;
        inside = inside_still memory m.objects m.inside;
        may = m.may;
        last = λ b live. last_at b live (one_or_not e b);
        fresh = λ c s o more. ap (λ k. k (record { base = of_variable c s; offset = o })) h.memory ∙ m.fresh c s o (omega (arith, more, h.calls));
        objects = objects_made memory m.objects;
        unit = record { few = m.unit.few; short = m.unit.short; frames = m.unit.frames; registers = m.unit.registers; stubs = m.unit.stubs; functions = m.unit.functions };
      }
    where
      last_at : (b : Base) → (with_object p e slot).live b ≡ true → OneOrNot e b → newer frame.call b ≡ false
      last_at b live (inl x) = ap (newer frame.call) x
      last_at b live (inr x) = let old = old_at p e slot b x in m.last b (sym old.live ∙ live)

  -- ---- registers

  -- a slot of the stack is apart from what is live, also in the other order
  slot_alone : (a : ℕ) (b : Base) → 0x7000_0000 ≤ a → (with_object p e slot).live b ≡ true → (p.live b ≡ true → Apart a 8 (p.at b) (p.size b)) → OneOrNot e b → Apart a 8 ((with_object p e slot).at b) ((with_object p e slot).size b)
  slot_alone a b high live alone (inl is) i j hi hj same = let new = new_at p e slot b is in omega (arith, new.at, new.size, h.below, high, hj, same)
  slot_alone a b high live alone (inr not_one) i j hi hj same =
      let old = old_at p e slot b not_one in
      alone (sym old.live ∙ live) i j hi (omega (arith, hj, old.size)) (omega (arith, same, old.at))

  pub registers_made : (n : ℕ) (frame : Frame) (fs : List Activation) (memory : List Part) (stack back : ℕ) (regs : List ℕ) → MemoryMatches p n frame fs v memory stack back → RegistersMatch p n frame fs v memory stack regs →
      RegistersMatch (with_object p e slot) n frame fs u memory stack regs
  registers_made n frame fs memory stack back regs m r =
      let q : Plan = with_object p e slot in
      registers_still p q.at q.size q.live q.ints n frame frame fs v u memory memory stack back regs refl m
      (λ k f place home rs before above less st one. record {
        ints = λ s i is. ap (λ w. w (record { base = of_variable f.call s; offset = 0 })) h.memory;
        saved = λ s i b is held. held;
        dead = λ s i is. one.dead s i is;
        alone = λ b s i live is.
            let y = kept_slot (function p k) s i is in
            slot_alone (place + slot_offset (shape p k) s) b (omega (arith, call_floor p k f v memory place home st)) live (λ was. kept_alone p k f v memory place rs before b s i one was is y.place y.slot_is) (one_or_not e b);
      }) r
