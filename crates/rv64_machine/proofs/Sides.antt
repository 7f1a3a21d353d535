-- Parts of which one side was touched.
use Rattle.std.proofs.Common.{ℕ, ◌≡◌, ◌<◌, ◌≤◌, ◌+◌, ◌-◌, Bool, true, false, List, [], length, refl, ap, sym, subst, ◌∙◌, arith}
use Rattle.std.specs.Prelude.{◌++◌, nat_le, nat_lt, replicate, slice_index, vec_len}
use Rattle.std.specs.Bool.{OnTrue}
use Rattle.std.specs.Global.{Vec}
use Rattle.std.specs.Vec.{with_items}
use Rattle.std.proofs.lemmas.Bool.Decides.{nat_tests}
use Rattle.std.proofs.lemmas.List.{append-nil, length-append, length-replicate, with_items_is}
use Rattle.eh_bytes.specs.declared.segment.Segment.{Segment}
use Rattle.eh_bytes.specs.Extent.{AreBelow, extents_of}
use Rattle.rv64_isa.specs.State.{Part, covers}
use Rattle.rv64_machine.specs.declared.memory.Access.{Access}
use Rattle.rv64_machine.specs.Bytes.{number_at, with_number}
use Rattle.rv64_machine.specs.Initial.{zero_part}
use Rattle.rv64_machine.specs.Parts.{IsLaidOut, Spans, access_in}
use Rattle.rv64_machine.specs.Reserved.{IsGrown, IsReserved, data_part, filled_up, filled_down, number_below, with_number_below}
use Rattle.rv64_machine.proofs.Joining.{same_access}
use Rattle.rv64_machine.proofs.Numbers.{number_1}
use Rattle.rv64_machine.proofs.Serving.{covers_true, covers_below, covers_above}
use Rattle.rv64_machine.proofs.Descending.{below_1}
use Rattle.rv64_machine.proofs.Zeros.{number_up, with_up, grown_up, length_up, none_up, number_down, with_down, grown_down, length_down, none_down, length_with, length_below}

-- ---- where a part lies

pub from_data : (base : ℕ) (bytes : List ℕ) (v : Part) → data_part base bytes ≡ v → v.address ≡ base
from_data base bytes v same = ap (λ p. p.address) (sym same)

-- no more bytes are there than there is room for
pub fits : (size : ℕ) (bytes : Vec ℕ) → IsReserved size bytes → length bytes.items ≤ size
fits size bytes (low, high) = let long = bytes.ok.0 in omega arith

pub long_up : (base size : ℕ) (bytes : Vec ℕ) (v : Part) → data_part base (filled_up size bytes.items) ≡ v → IsReserved size bytes → length v.bytes ≡ size
long_up base size bytes v same room = ap (λ p. length p.bytes) (sym same) ∙ length_up size bytes.items (fits size bytes room)

pub long_down : (base size : ℕ) (bytes : Vec ℕ) (v : Part) → data_part base (filled_down size bytes.items) ≡ v → IsReserved size bytes → length v.bytes ≡ size
long_down base size bytes v same room = ap (λ p. length p.bytes) (sym same) ∙ length_down size bytes.items (fits size bytes room)

-- a part has what it spans
pub within : (base size : ℕ) (v : Part) (a n : ℕ) → v.address ≡ base → length v.bytes ≡ size → Spans v a n → (base ≤ a) × (a + n ≤ base + size)
within base size v a n from long (low, high) = (omega arith, omega arith)

pub spans_up : (base size : ℕ) (bytes : Vec ℕ) (v : Part) (a n m touched : ℕ) → data_part base (filled_up size bytes.items) ≡ v → IsReserved size bytes → touched ≡ vec_len bytes → m ≡ n →
    base ≤ a → a + m ≤ base + touched → Spans v a n
spans_up base size bytes v a n m touched same room is same_size low high =
    let from = from_data base (filled_up size bytes.items) v same in
    let long = long_up base size bytes v same room in
    let inside : vec_len bytes ≤ size = room.0 in
    (omega arith, omega arith)

pub spans_down : (base size end : ℕ) (bytes : Vec ℕ) (v : Part) (a n m touched : ℕ) → data_part base (filled_down size bytes.items) ≡ v → IsReserved size bytes → touched ≡ vec_len bytes → m ≡ n →
    end ≡ base + size → a + m ≤ end → end ≤ a + touched → Spans v a n
spans_down base size end bytes v a n m touched same room is same_size s high low =
    let from = from_data base (filled_down size bytes.items) v same in
    let long = long_down base size bytes v same room in
    let inside : vec_len bytes ≤ size = room.0 in
    (omega arith, omega arith)

-- what a test says of two facts
pub on_both : (b : Bool) (P Q R : Type 0) → OnTrue b P → OnTrue b Q → (P → Q → R) → OnTrue b R
on_both true P Q R p q f = f p q
on_both false P Q R p q f = tt

pub long_put : (part v : Part) (at n value : ℕ) → part ≡ record v { bytes = with_number v.bytes at n value } → length part.bytes ≡ length v.bytes
long_put part v at n value e = ap (λ p. length p.bytes) e ∙ length_with n v.bytes at value

bool_same : (x y : Bool) → (x ≡ true → y ≡ true) → (x ≡ false → y ≡ false) → x ≡ y
bool_same true y t f = sym (t refl)
bool_same false y t f = sym (f refl)

pub covers_up : (base size : ℕ) (v : Part) (a : ℕ) → v.address ≡ base → length v.bytes ≡ size → base ≤ a → nat_lt (a - base) size ≡ covers v a
covers_up base size v a from long low =
    bool_same (nat_lt (a - base) size) (covers v a)
    (λ t. let inside : a - base < size = grind (arith, nat_tests) in covers_true v a (omega arith) (omega arith))
    (λ f. let past : size ≤ a - base = grind (arith, nat_tests) in covers_above v a (omega arith))

pub covers_down : (base size end : ℕ) (v : Part) (a : ℕ) → end ≡ base + size → v.address ≡ base → length v.bytes ≡ size → a < end → nat_le (end - a) size ≡ covers v a
covers_down base size end v a e from long high =
    bool_same (nat_le (end - a) size) (covers v a)
    (λ t. let inside : end - a ≤ size = grind (arith, nat_tests) in covers_true v a (omega arith) (omega arith))
    (λ f. let past : size < end - a = grind (arith, nat_tests) in covers_below v a (omega arith))

pub covers_past : (base size end : ℕ) (v : Part) (a : ℕ) → end ≡ base + size → v.address ≡ base → length v.bytes ≡ size → end ≤ a → false ≡ covers v a
covers_past base size end v a e from long high = sym (covers_above v a (omega arith))

-- ---- what is read

pub access_up : (base size : ℕ) (bs : List ℕ) (v : Part) (a n r : ℕ) → data_part base (filled_up size bs) ≡ v → r ≡ number_at bs (a - base) n →
    (let x : Access = record { value = r; write = true; exec = false } in x) ≡ access_in v a n
access_up base size bs v a n r same e =
    subst (λ p. (let x : Access = record { value = r; write = true; exec = false } in x) ≡ access_in p a n) same
    (same_access _ _ _ _ _ _ (e ∙ sym (number_up size n bs (a - base))) refl refl)

pub byte_up : (base size : ℕ) (bs : List ℕ) (v : Part) (a r : ℕ) → data_part base (filled_up size bs) ≡ v → r ≡ slice_index bs (a - base) →
    (let x : Access = record { value = r; write = true; exec = false } in x) ≡ access_in v a 1
byte_up base size bs v a r same e = access_up base size bs v a 1 r same (e ∙ number_1 bs (a - base))

pub access_down : (base size end : ℕ) (bs : List ℕ) (v : Part) (a n r : ℕ) → data_part base (filled_down size bs) ≡ v → end ≡ base + size → length bs ≤ size → base ≤ a → a + n ≤ end →
    r ≡ number_below bs (end - a) n → (let x : Access = record { value = r; write = true; exec = false } in x) ≡ access_in v a n
access_down base size end bs v a n r same s fits low high e =
    subst (λ p. (let x : Access = record { value = r; write = true; exec = false } in x) ≡ access_in p a n) same
    (same_access _ _ _ _ _ _ (e ∙ sym (number_down size n bs (a - base) (end - a) (omega arith) fits (omega arith))) refl refl)

pub byte_down : (base size end : ℕ) (bs : List ℕ) (v : Part) (a r : ℕ) → data_part base (filled_down size bs) ≡ v → end ≡ base + size → length bs ≤ size → base ≤ a → a + 1 ≤ end →
    r ≡ slice_index bs (end - a - 1) → (let x : Access = record { value = r; write = true; exec = false } in x) ≡ access_in v a 1
byte_down base size end bs v a r same s fits low high e = access_down base size end bs v a 1 r same s fits low high (e ∙ below_1 bs (end - a))

-- ---- what is written

-- a part with the low bytes of a value from an address on
abbrev with_value_in : Part → ℕ → ℕ → ℕ → Part
with_value_in part a n value = record part { bytes = with_number part.bytes (a - part.address) n value }

-- the bytes of a vector that were written as a list
stored : (bytes : Vec ℕ) (now after : List ℕ) → length now ≡ vec_len bytes → length after ≡ length now → (with_items bytes after).items ≡ after
stored bytes now after long same = with_items_is bytes after (same ∙ long)

grown_long : (old new : List ℕ) (k : ℕ) → new ≡ old ++ replicate k 0 → length new ≡ length old + k
grown_long old new k e = ap length e ∙ length-append old (replicate k 0) ∙ ap (λ j. length old + j) (length-replicate {A = ℕ} k 0)

pub not_grown : (bytes : List ℕ) → IsGrown bytes bytes
not_grown bytes = (0, sym (append-nil bytes))

pub put_up : (base size : ℕ) (old grown : Vec ℕ) (now after : List ℕ) (v : Part) (a n value : ℕ) → data_part base (filled_up size old.items) ≡ v → IsReserved size grown →
    IsGrown old.items grown.items → now ≡ grown.items → after ≡ with_number now (a - base) n value → (a - base) + n ≤ length grown.items →
    data_part base (filled_up size (with_items grown after).items) ≡ with_value_in v a n value
put_up base size old grown now after v a n value same room (k, e) is put inside =
    let long : length now ≡ vec_len grown = ap length is ∙ sym grown.ok.0 in
    let kept : length after ≡ length now = ap length put ∙ length_with n now (a - base) value in
    let whole = fits size grown room in
    let more = grown_long old.items grown.items k e in
    let zeros : filled_up size grown.items ≡ filled_up size old.items = ap (filled_up size) e ∙ grown_up size old.items k (omega arith) in
    let written : (with_items grown after).items ≡ with_number grown.items (a - base) n value =
    stored grown now after long kept ∙ put ∙ ap (λ bytes. with_number bytes (a - base) n value) is in
    subst (λ p. data_part base (filled_up size (with_items grown after).items) ≡ with_value_in p a n value) same
    (ap (λ bytes. data_part base bytes)
    (ap (filled_up size) written ∙ sym (with_up size n grown.items (a - base) value inside) ∙ ap (λ bytes. with_number bytes (a - base) n value) zeros))

pub put_down : (base size end : ℕ) (old grown : Vec ℕ) (now after : List ℕ) (v : Part) (a n value : ℕ) → data_part base (filled_down size old.items) ≡ v → IsReserved size grown →
    IsGrown old.items grown.items → now ≡ grown.items → after ≡ with_number_below now (end - a) n value → end ≡ base + size → base ≤ a → a + n ≤ end → end - a ≤ length grown.items →
    data_part base (filled_down size (with_items grown after).items) ≡ with_value_in v a n value
put_down base size end old grown now after v a n value same room (k, e) is put s low high inside =
    let long : length now ≡ vec_len grown = ap length is ∙ sym grown.ok.0 in
    let kept : length after ≡ length now = ap length put ∙ length_below n now (end - a) value in
    let whole = fits size grown room in
    let more = grown_long old.items grown.items k e in
    let zeros : filled_down size grown.items ≡ filled_down size old.items = ap (filled_down size) e ∙ grown_down size old.items k (omega arith) in
    let written : (with_items grown after).items ≡ with_number_below grown.items (end - a) n value =
    stored grown now after long kept ∙ put ∙ ap (λ bytes. with_number_below bytes (end - a) n value) is in
    let place : (a - base) + (end - a) ≡ size = omega arith in
    let near : n ≤ end - a = omega arith in
    subst (λ p. data_part base (filled_down size (with_items grown after).items) ≡ with_value_in p a n value) same
    (ap (λ bytes. data_part base bytes)
    (ap (filled_down size) written ∙ sym (with_down size n grown.items (a - base) (end - a) value place whole near inside) ∙ ap (λ bytes. with_number bytes (a - base) n value) zeros))

-- ---- a new machine

pub zeros_up : (base size : ℕ) (bs : List ℕ) → bs ≡ [] → data_part base (filled_up size bs) ≡ zero_part base size
unfolding zero_part
zeros_up base size bs e = ap (λ bytes. data_part base bytes) (ap (filled_up size) e ∙ none_up size)

pub zeros_down : (base size : ℕ) (bs : List ℕ) → bs ≡ [] → data_part base (filled_down size bs) ≡ zero_part base size
unfolding zero_part
zeros_down base size bs e = ap (λ bytes. data_part base bytes) (ap (filled_down size) e ∙ none_down size)

zero_from : (base size : ℕ) → (zero_part base size).address ≡ base
unfolding zero_part
zero_from base size = refl

zero_long : (base size : ℕ) → length (zero_part base size).bytes ≡ size
unfolding zero_part
zero_long base size = length-replicate {A = ℕ} size 0

pub laid_out : (slots stack : Part) (segments : List Segment) → slots ≡ zero_part 0x6000_0000 0x40_0000 → stack ≡ zero_part 0x7000_0000 0x100_0000 → AreBelow 0x6000_0000 (extents_of segments) →
    IsLaidOut slots stack segments
laid_out slots stack segments e f below = record {
  slots_from = ap (λ p. p.address) e ∙ zero_from 0x6000_0000 0x40_0000;
  slots_size = ap (λ p. length p.bytes) e ∙ zero_long 0x6000_0000 0x40_0000;
  stack_from = ap (λ p. p.address) f ∙ zero_from 0x7000_0000 0x100_0000;
  stack_size = ap (λ p. length p.bytes) f ∙ zero_long 0x7000_0000 0x100_0000;
  below = below;
}
