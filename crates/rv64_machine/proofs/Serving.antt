-- Reading and writing where one part serves.
use Rattle.std.proofs.Common.{ℕ, zero, suc, ◌≡◌, ◌<◌, ◌≤◌, ◌+◌, ◌-◌, ◌*◌, ◌/◌, ◌%◌, ◌^◌, Bool, true, false, cond, ◌&&◌, List, [], ◌∷◌, length, map, Some, None, option_map, refl, ap, sym, subst, ◌∙◌, arith, get_or, length-set}
use Rattle.std.specs.Prelude.{slice_index, slice_set, slice_get, position, nat_lt, IfSome, option_and_then, if◌then◌else◌}
use Rattle.std.specs.List.{find, list_all, position_or_len}
use Rattle.std.proofs.lemmas.List.Folds.{find_at}
use Rattle.rv64_machine.proofs.Found.{find_mapped}
use Rattle.std.proofs.lemmas.Bool.Decides.{nat_tests}
use Rattle.eh_bytes.specs.declared.segment.Segment.{Segment}
use Rattle.eh_bytes.specs.Extent.{AreApart, Holds, extent_of, extents_of}
use Rattle.rv64_isa.specs.State.{Part, Byte, covers, part_with, byte_of, bytes_at, value_of, with_byte, with_value}
use Rattle.rv64_isa.specs.Step.{fetched}
use Rattle.rv64_machine.specs.declared.bytes.Size.{Size}
use Rattle.rv64_machine.specs.declared.bytes.Size.TheVariants.{Byte as OneByte, Half, Word, Double}
use Rattle.rv64_machine.specs.Bytes.{size_of, number_at, with_number}
use Rattle.rv64_machine.specs.Parts.{part_of, memory_of, IsLaidOut, Spans, access_of, access_in, accessed}
use Rattle.rv64_machine.specs.Serving.{IsFirst, Serves}
use Rattle.rv64_machine.proofs.Joining.{same_access, code_accessed}
use Rattle.rv64_machine.specs.declared.memory.Access.{Access}

pub found_first : (ps : List Part) (i : ℕ) (part : Part) (b : ℕ) → IsFirst ps i part b → part_with ps b ≡ Some part
found_first [] i part b h = absurd h
found_first (p ∷ ps) zero part b (e, h) = ap (λ t. cond t (Some p) (part_with ps b)) h ∙ ap Some e
found_first (p ∷ ps) (suc i) part b (h, more) = ap (λ t. cond t (Some p) (part_with ps b)) h ∙ found_first ps i part b more

-- the part with another byte
abbrev with_byte_in : Part → ℕ → ℕ → Part
with_byte_in part b value = record part { bytes = slice_set part.bytes (b - part.address) value }

pub set_first : (ps : List Part) (i : ℕ) (part : Part) (b value : ℕ) → IsFirst ps i part b → with_byte ps b value ≡ slice_set ps i (with_byte_in part b value)
unfolding with_byte
set_first [] i part b value h = absurd h
set_first (p ∷ ps) zero part b value (e, h) =
    ap (λ t. cond t (with_byte_in p b value ∷ ps) (p ∷ with_byte ps b value)) h ∙ ap (λ q. with_byte_in q b value ∷ ps) e
set_first (p ∷ ps) (suc i) part b value (h, more) =
    ap (λ t. cond t (with_byte_in p b value ∷ ps) (p ∷ with_byte ps b value)) h ∙ ap (λ qs. p ∷ qs) (set_first ps i part b value more)

pub held_first : (ps : List Part) (i : ℕ) (part : Part) (b : ℕ) → IsFirst ps i part b → slice_set ps i part ≡ ps
held_first [] i part b h = absurd h
held_first (p ∷ ps) zero part b (e, h) = ap (λ q. q ∷ ps) (sym e)
held_first (p ∷ ps) (suc i) part b (h, more) = ap (λ qs. p ∷ qs) (held_first ps i part b more)

-- so is another part that takes its place and covers the address
pub kept_first : (ps : List Part) (i : ℕ) (part other : Part) (b : ℕ) → IsFirst ps i part b → covers other b ≡ true → IsFirst (slice_set ps i other) i other b
kept_first [] i part other b h t = absurd h
kept_first (p ∷ ps) zero part other b (e, h) t = (refl, t)
kept_first (p ∷ ps) (suc i) part other b (h, more) t = (h, kept_first ps i part other b more t)

pub set_twice : (ps : List Part) (i : ℕ) (p q : Part) → slice_set (slice_set ps i p) i q ≡ slice_set ps i q
set_twice [] i p q = refl
set_twice (r ∷ ps) zero p q = refl
set_twice (r ∷ ps) (suc i) p q = ap (λ qs. r ∷ qs) (set_twice ps i p q)

pub covers_true : (part : Part) (b : ℕ) → part.address ≤ b → b < part.address + length part.bytes → covers part b ≡ true
covers_true part b low high = grind (arith, nat_tests)

pub covers_below : (part : Part) (b : ℕ) → b < part.address → covers part b ≡ false
covers_below part b low = grind (arith, nat_tests)

pub covers_above : (part : Part) (b : ℕ) → part.address + length part.bytes ≤ b → covers part b ≡ false
covers_above part b high = grind (arith, nat_tests)

covers_holds : (s : Segment) (b : ℕ) → covers (part_of s) b ≡ true → Holds (extent_of s) b
covers_holds s b t = (grind (arith, nat_tests), grind (arith, nat_tests))

-- ---- reading

-- so many bytes of a part from an address on
unfoldable bytes_in : Part → ℕ → ℕ → List Byte
bytes_in part a zero = []
bytes_in part a (suc n) = byte_of part a ∷ bytes_in part (a + 1) n

bytes_served : (n : ℕ) (memory : List Part) (i : ℕ) (part : Part) (a : ℕ) → ((b : ℕ) → a ≤ b → b < a + n → IsFirst memory i part b) → bytes_at memory a n ≡ Some (bytes_in part a n)
unfolding bytes_at bytes_in
bytes_served zero memory i part a first = refl
bytes_served (suc n) memory i part a first =
    let here : part_with memory a ≡ Some part = found_first memory i part a (first a (omega arith) (omega arith)) in
    let more : bytes_at memory (a + 1) n ≡ Some (bytes_in part (a + 1) n) = bytes_served n memory i part (a + 1) (λ b low high. first b (omega arith) (omega arith)) in
    rw (here, more) refl

number_served : (n : ℕ) (part : Part) (a : ℕ) → part.address ≤ a → value_of (bytes_in part a n) ≡ number_at part.bytes (a - part.address) n
unfolding bytes_in value_of number_at
number_served zero part a from = refl
number_served (suc n) part a from =
    let next : (a + 1) - part.address ≡ (a - part.address) + 1 = omega arith in
    let more : value_of (bytes_in part (a + 1) n) ≡ number_at part.bytes ((a - part.address) + 1) n =
    number_served n part (a + 1) (omega arith) ∙ ap (λ at. number_at part.bytes at n) next in
    ap (λ m. slice_index part.bytes (a - part.address) + 2 ^ 8 * m) more

and_same : (t x y : Bool) → x ≡ t → y ≡ t → (x && y) ≡ t
and_same true x y p q = ap (λ b. b && y) p ∙ q
and_same false x y p q = ap (λ b. b && y) p

all_same : (n : ℕ) (t : Bool) (f : Byte → Bool) (part : Part) (a : ℕ) → ((c : ℕ) → f (byte_of part c) ≡ t) → list_all f (bytes_in part a (suc n)) ≡ t
unfolding bytes_in
all_same zero t f part a e = and_one (f (byte_of part a)) ∙ e a
  where
    and_one : (b : Bool) → (b && true) ≡ b
    and_one true = refl
    and_one false = refl
all_same (suc n) t f part a e = and_same t (f (byte_of part a)) (list_all f (bytes_in part (a + 1) (suc n))) (e a) (all_same n t f part (a + 1) e)

accessed_next : (n : ℕ) (memory : List Part) (i : ℕ) (part : Part) (a : ℕ) → Serves memory i part a (suc n) → accessed memory a (suc n) ≡ Some (access_in part a (suc n))
accessed_next n memory i part a s =
    ap (option_map access_of) (bytes_served (suc n) memory i part a s.first) ∙
    ap Some (same_access _ _ _ _ _ _ (number_served (suc n) part a s.from) (all_same n part.write (λ b. b.write) part a (λ _. refl)) (all_same n part.exec (λ b. b.exec) part a (λ _. refl)))

pub accessed_served : (size : Size) (memory : List Part) (i : ℕ) (part : Part) (a : ℕ) → Serves memory i part a (size_of size) → accessed memory a (size_of size) ≡ Some (access_in part a (size_of size))
accessed_served OneByte memory i part a s = accessed_next 0 memory i part a s
accessed_served Half memory i part a s = accessed_next 1 memory i part a s
accessed_served Word memory i part a s = accessed_next 3 memory i part a s
accessed_served Double memory i part a s = accessed_next 7 memory i part a s

-- ---- writing

pub value_served : (n : ℕ) (memory : List Part) (i : ℕ) (part : Part) (a value : ℕ) → slice_set memory i part ≡ memory → Serves memory i part a n →
    with_value memory a n value ≡ slice_set memory i (record part { bytes = with_number part.bytes (a - part.address) n value })
unfolding with_value with_number
value_served zero memory i part a value held s = sym held
value_served (suc n) memory i part a value held s =
    let other = with_byte_in part a (value % 2 ^ 8) in
    let after = slice_set memory i other in
    let long : length other.bytes ≡ length part.bytes = length-set part.bytes (a - part.address) (value % 2 ^ 8) in
    let from : part.address ≤ a = s.from in
    let to : a + suc n ≤ part.address + length part.bytes = s.to in
    let here : with_byte memory a (value % 2 ^ 8) ≡ after = set_first memory i part a (value % 2 ^ 8) (s.first a (omega arith) (omega arith)) in
    let more : Serves after i other (a + 1) n = record {
      from = omega arith;
      to = omega arith;
      first = λ b low high. kept_first memory i part other b (s.first b (omega arith) (omega arith)) (covers_true other b (omega arith) (omega arith));
    } in
    let next : (a + 1) - part.address ≡ (a - part.address) + 1 = omega arith in
    ap (λ m. with_value m (a + 1) n (value / 2 ^ 8)) here ∙
    value_served n after i other (a + 1) (value / 2 ^ 8) (set_twice memory i other other) more ∙
    set_twice memory i other _ ∙
    ap (λ at. slice_set memory i (record part { bytes = with_number other.bytes at n (value / 2 ^ 8) })) next

-- ---- which part serves

apart_tail : (s : Segment) (parts : List Segment) → AreApart (extents_of (s ∷ parts)) → AreApart (extents_of parts)
apart_tail s parts apart i j a t u p q h k = let e : suc i ≡ suc j = apart (suc i) (suc j) a t u p q h k in omega arith

got_extent : (parts : List Segment) (i : ℕ) (s : Segment) → slice_get parts i ≡ Some s → slice_get (extents_of parts) i ≡ Some (extent_of s)
got_extent [] i s e = absurd (cc)
got_extent (t ∷ parts) zero s e = ap (option_map extent_of) e
got_extent (t ∷ parts) (suc i) s e = got_extent parts i s e

some_same : {A : Type 0} {x y : A} → Some x ≡ Some y → x ≡ y
some_same e = cc

pub segment_first : (parts : List Segment) → AreApart (extents_of parts) → (i : ℕ) (s : Segment) (b : ℕ) → slice_get parts i ≡ Some s → covers (part_of s) b ≡ true →
    IsFirst (map part_of parts) i (part_of s) b
segment_first [] apart i s b e t = absurd (cc)
segment_first (r ∷ parts) apart zero s b e t = let same : r ≡ s = some_same e in (ap part_of same, ap (λ q. covers (part_of q) b) same ∙ t)
segment_first (r ∷ parts) apart (suc i) s b e t = (passed (covers (part_of r) b) refl, segment_first parts (apart_tail r parts apart) i s b e t)
  where
    passed : (c : Bool) → covers (part_of r) b ≡ c → c ≡ false
    passed false f = refl
    passed true f = absurd (let two : zero ≡ suc i = apart zero (suc i) b (extent_of r) (extent_of s) refl (got_extent parts i s e) (covers_holds r b f) (covers_holds s b t) in cc)

pub slots_serve : (slots stack : Part) (segments : List Segment) (a n : ℕ) → Spans slots a n → Serves (memory_of slots stack segments) 0 slots a n
slots_serve slots stack segments a n (from, to) = record { from = from; to = to; first = λ b low high. (refl, covers_true slots b (omega arith) (omega arith)) }

pub stack_serves : (slots stack : Part) (segments : List Segment) (a n : ℕ) → IsLaidOut slots stack segments → Spans stack a n →
    Serves (memory_of slots stack segments) 1 stack a n
stack_serves slots stack segments a n laid (from, to) = record {
  from = from;
  to = to;
  first = λ b low high. (covers_above slots b (omega arith), (refl, covers_true stack b (omega arith) (omega arith)));
}

pub segment_serves : (slots stack : Part) (segments : List Segment) (a n i : ℕ) (s : Segment) → IsLaidOut slots stack segments → AreApart (extents_of segments) →
    slice_get segments i ≡ Some s → Spans (part_of s) a n → Serves (memory_of slots stack segments) (suc (suc i)) (part_of s) a n
segment_serves slots stack segments a n i s laid apart e (from, to) =
    let below : s.address + length s.bytes.items ≤ 0x6000_0000 = laid.below i (extent_of s) (got_extent segments i s e) in
    record {
      from = from;
      to = to;
      first = λ b low high. (
        covers_below slots b (omega arith),
        (
          covers_below stack b (omega arith),
          segment_first segments apart i s b e (covers_true (part_of s) b (omega arith) (omega arith)),
        ),
      );
    }

-- what a part that serves gives, of a memory that is known under another name
pub served : (size : Size) (memory view : List Part) (i : ℕ) (part : Part) (a n : ℕ) (access : Access) → view ≡ memory → n ≡ size_of size → Serves view i part a n →
    access ≡ access_in part a (size_of size) → accessed memory a (size_of size) ≡ Some access
served size memory view i part a n access same e s f =
    subst (λ m. accessed m a (size_of size) ≡ Some access) same (accessed_served size view i part a (subst (λ k. Serves view i part a k) e s) ∙ ap Some (sym f))

pub code_served : (memory view : List Part) (i : ℕ) (part : Part) (a w : ℕ) → view ≡ memory → Serves view i part a 4 → part.exec ≡ true → w ≡ number_at part.bytes (a - part.address) 4 →
    fetched memory a ≡ Some w
code_served memory view i part a w same s exec e =
    code_accessed (bytes_at memory a 4) ∙
    ap (option_and_then (λ access. if access.exec then Some access.value else None)) (served Word memory view i part a 4 (access_in part a 4) same refl s refl) ∙
    ap (λ t. if t then Some (number_at part.bytes (a - part.address) 4) else None) exec ∙ ap Some (sym e)

-- ---- a segment with other bytes

pub extents_set : (parts : List Segment) (i : ℕ) (s other : Segment) → slice_get parts i ≡ Some s → extent_of other ≡ extent_of s → extents_of (slice_set parts i other) ≡ extents_of parts
extents_set [] i s other e f = refl
extents_set (r ∷ parts) zero s other e f = ap (λ x. x ∷ extents_of parts) (f ∙ ap extent_of (sym (some_same e)))
extents_set (r ∷ parts) (suc i) s other e f = ap (λ xs. extent_of r ∷ xs) (extents_set parts i s other e f)

pub parts_set : (parts : List Segment) (i : ℕ) (other : Segment) → map part_of (slice_set parts i other) ≡ slice_set (map part_of parts) i (part_of other)
parts_set [] i other = refl
parts_set (r ∷ parts) zero other = refl
parts_set (r ∷ parts) (suc i) other = ap (λ xs. part_of r ∷ xs) (parts_set parts i other)

pub got_here : (parts : List Segment) (i : ℕ) → i < length parts → (s : Segment) × (slice_get parts i ≡ Some s)
got_here [] i h = absurd (omega arith)
got_here (r ∷ parts) zero h = (r, refl)
got_here (r ∷ parts) (suc i) h = got_here parts i (omega arith)

pub get_at : (parts : List Segment) (i : ℕ) (s : Segment) → i < length parts → s ≡ get_or parts i s → slice_get parts i ≡ Some s
get_at [] i s h e = absurd (omega arith)
get_at (r ∷ parts) zero s h e = ap Some (sym e)
get_at (r ∷ parts) (suc i) s h e = get_at parts i s (omega arith) e

-- a part with the low bytes of a value from an address on
abbrev with_value_in : Part → ℕ → ℕ → ℕ → Part
with_value_in part a n value = record part { bytes = with_number part.bytes (a - part.address) n value }

pub put_here : (parts : List Segment) (i : ℕ) (s other : Segment) (a n value : ℕ) → slice_get parts i ≡ Some s → part_of other ≡ with_value_in (part_of s) a n value →
    IfSome (slice_get parts i) (λ part. map part_of (slice_set parts i other) ≡ slice_set (map part_of parts) i (with_value_in (part_of part) a n value))
put_here parts i s other a n value e f =
    subst (λ o. IfSome o (λ part. map part_of (slice_set parts i other) ≡ slice_set (map part_of parts) i (with_value_in (part_of part) a n value))) (sym e)
    (parts_set parts i other ∙ ap (λ p. slice_set (map part_of parts) i p) f)

held_parts : (parts : List Segment) (i : ℕ) (s : Segment) → slice_get parts i ≡ Some s → slice_set (map part_of parts) i (part_of s) ≡ map part_of parts
held_parts [] i s e = refl
held_parts (r ∷ parts) zero s e = ap (λ t. part_of t ∷ map part_of parts) (sym (some_same e))
held_parts (r ∷ parts) (suc i) s e = ap (λ ps. part_of r ∷ ps) (held_parts parts i s e)

-- ---- what a memory is with a value in one part

pub slots_put : (slots stack other : Part) (segments : List Segment) (memory : List Part) (a n m value : ℕ) → memory_of slots stack segments ≡ memory → n ≡ m →
    Spans slots a n → other ≡ with_value_in slots a m value → memory_of other stack segments ≡ with_value memory a m value
slots_put slots stack other segments memory a n m value same e s f =
    let view = memory_of slots stack segments in
    let serves : Serves view 0 slots a m = slots_serve slots stack segments a m (subst (λ k. Spans slots a k) e s) in
    ap (λ p. p ∷ stack ∷ map part_of segments) f ∙ sym (value_served m view 0 slots a value refl serves) ∙ ap (λ v. with_value v a m value) same

pub stack_put : (slots stack other : Part) (segments : List Segment) (memory : List Part) (a n m value : ℕ) → IsLaidOut slots stack segments → memory_of slots stack segments ≡ memory →
    n ≡ m → Spans stack a n → other ≡ with_value_in stack a m value → memory_of slots other segments ≡ with_value memory a m value
stack_put slots stack other segments memory a n m value laid same e s f =
    let view = memory_of slots stack segments in
    let serves : Serves view 1 stack a m = stack_serves slots stack segments a m laid (subst (λ k. Spans stack a k) e s) in
    ap (λ p. slots ∷ p ∷ map part_of segments) f ∙ sym (value_served m view 1 stack a value refl serves) ∙ ap (λ v. with_value v a m value) same

pub segment_put : (slots stack : Part) (segments after : List Segment) (memory : List Part) (a n m i value : ℕ) → IsLaidOut slots stack segments → AreApart (extents_of segments) →
    memory_of slots stack segments ≡ memory → n ≡ m → i < length segments → IfSome (slice_get segments i) (λ part. Spans (part_of part) a n) →
    IfSome (slice_get segments i) (λ part. map part_of after ≡ slice_set (map part_of segments) i (with_value_in (part_of part) a m value)) →
    memory_of slots stack after ≡ with_value memory a m value
segment_put slots stack segments after memory a n m i value laid apart same e inside spans put =
    let view = memory_of slots stack segments in
    let here = got_here segments i inside in
    let s = here.0 in
    let spans' : Spans (part_of s) a m = subst (λ k. Spans (part_of s) a k) e (subst (λ o. IfSome o (λ part. Spans (part_of part) a n)) here.1 spans) in
    let put' : map part_of after ≡ slice_set (map part_of segments) i (with_value_in (part_of s) a m value) =
    subst (λ o. IfSome o (λ part. map part_of after ≡ slice_set (map part_of segments) i (with_value_in (part_of part) a m value))) here.1 put in
    let serves : Serves view (suc (suc i)) (part_of s) a m = segment_serves slots stack segments a m i s laid apart here.1 spans' in
    let held : slice_set view (suc (suc i)) (part_of s) ≡ view = ap (λ ps. slots ∷ stack ∷ ps) (held_parts segments i s here.1) in
    ap (λ ps. slots ∷ stack ∷ ps) put' ∙ sym (value_served m view (suc (suc i)) (part_of s) a value held serves) ∙ ap (λ v. with_value v a m value) same

-- ---- byte by byte

pub spans_1 : (part : Part) (a : ℕ) → covers part a ≡ true → Spans part a 1
spans_1 part a t = (grind (arith, nat_tests), grind (arith, nat_tests))

none_put : (ps : List Part) (a value : ℕ) → part_with ps a ≡ None → with_byte ps a value ≡ ps
unfolding with_byte
none_put [] a value e = refl
none_put (p ∷ ps) a value e = step (covers p a) e (λ e. none_put ps a value e)
  where
    step : (b : Bool) → cond b (Some p) (part_with ps a) ≡ None → (part_with ps a ≡ None → with_byte ps a value ≡ ps) →
        cond b (with_byte_in p a value ∷ ps) (p ∷ with_byte ps a value) ≡ p ∷ ps
    step true e more = absurd (cc)
    step false e more = ap (λ qs. p ∷ qs) (more e)

got_past : {X : Type 0} (xs : List X) (k : ℕ) → length xs ≤ k → slice_get xs k ≡ None
got_past [] k h = refl
got_past (x ∷ xs) zero h = absurd (omega arith)
got_past (x ∷ xs) (suc k) h = got_past xs k (omega arith)

found_nowhere : (parts : List Segment) (p : Segment → Bool) → position p parts ≡ None → find p parts ≡ None
found_nowhere parts p e = find_at p parts ∙ got_past parts (position_or_len p parts) (step (nat_lt (position_or_len p parts) (length parts)) refl e)
  where
    step : (b : Bool) → nat_lt (position_or_len p parts) (length parts) ≡ b → cond b (Some (position_or_len p parts)) None ≡ None → length parts ≤ position_or_len p parts
    step true t e = absurd (cc)
    step false t e = grind (arith, nat_tests)

-- what is found in neither slots nor stack
pub part_behind : (slots stack : Part) (segments : List Segment) (a : ℕ) → covers slots a ≡ false → covers stack a ≡ false →
    part_with (memory_of slots stack segments) a ≡ part_with (map part_of segments) a
part_behind slots stack segments a e f =
    ap (λ b. cond b (Some slots) (part_with (stack ∷ map part_of segments) a)) e ∙ ap (λ b. cond b (Some stack) (part_with (map part_of segments) a)) f

pub byte_nowhere : (slots stack : Part) (segments : List Segment) (memory : List Part) (a value : ℕ) → memory_of slots stack segments ≡ memory → covers slots a ≡ false →
    covers stack a ≡ false → position (λ part. covers (part_of part) a) segments ≡ None → memory ≡ with_value memory a 1 value
unfolding with_value
byte_nowhere slots stack segments memory a value same e f g =
    let none : part_with (map part_of segments) a ≡ None =
    find_mapped (λ part. covers part a) part_of segments ∙ ap (option_map part_of) (found_nowhere segments (λ part. covers (part_of part) a) g) in
    let nowhere : part_with (memory_of slots stack segments) a ≡ None = part_behind slots stack segments a e f ∙ none in
    sym (none_put memory a (value % 2 ^ 8) (ap (λ m. part_with m a) (sym same) ∙ nowhere))

pub with_value-next : (memory after : List Part) (a n m value : ℕ) → n ≡ suc m → after ≡ with_value memory a 1 value → with_value memory a n value ≡ with_value after (a + 1) m (value / 2 ^ 8)
unfolding with_value
with_value-next memory after a n m value e f = ap (λ k. with_value memory a k value) e ∙ ap (λ q. with_value q (a + 1) m (value / 2 ^ 8)) (sym f)

pub with_value-end : (memory : List Part) (a n value : ℕ) → n ≡ 0 → with_value memory a n value ≡ memory
unfolding with_value
with_value-end memory a n value e = ap (λ k. with_value memory a k value) e
