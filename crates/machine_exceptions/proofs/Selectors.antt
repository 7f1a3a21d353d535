-- A selector is passed: the four bytes that hold it, with the four behind them.
use Rattle.std.proofs.Common.{◌≡◌, ◌∙◌, refl, sym, ap, arith, ℕ, suc, ◌+◌, ◌*◌, ◌%◌, ◌^◌, ◌<◌, List, [], ◌∷◌, Option, Some, None}
use Rattle.std.specs.Prelude.{option_and_then, option_map}
use Rattle.rv64_isa.specs.State.{Part, Byte, byte_at, bytes_at, value_of}
use Rattle.machine_pieces.specs.Memory.{Holds}

-- the first of some bytes, and those behind it
record Parted (memory : List Part) (a n : ℕ) (bytes : List Byte) : Type 0 where
  first : Byte
  others : List Byte
  here : byte_at memory a ≡ Some first
  behind : bytes_at memory (a + 1) n ≡ Some others
  are : bytes ≡ first ∷ others

parted_of : (memory : List Part) (a n : ℕ) (bytes : List Byte) (first : Option Byte) (others : Option (List Byte)) → byte_at memory a ≡ first → bytes_at memory (a + 1) n ≡ others →
    option_and_then (λ b. option_map (λ bytes. b ∷ bytes) others) first ≡ Some bytes → Parted memory a n bytes
parted_of memory a n bytes None others e f h = absurd (cc h)
parted_of memory a n bytes (Some b) None e f h = absurd (cc h)
parted_of memory a n bytes (Some b) (Some bs) e f h = record { first = b; others = bs; here = e; behind = f; are = let same : b ∷ bs ≡ bytes = cc h in sym same }

parted : (memory : List Part) (a n : ℕ) (bytes : List Byte) → bytes_at memory a (suc n) ≡ Some bytes → Parted memory a n bytes
unfolding bytes_at
parted memory a n bytes h = parted_of memory a n bytes (byte_at memory a) (bytes_at memory (a + 1) n) refl refl h

none : (memory : List Part) (a : ℕ) (bytes : List Byte) → bytes_at memory a 0 ≡ Some bytes → bytes ≡ []
unfolding bytes_at
none memory a bytes h = cc h

value_none : value_of [] ≡ 0
unfolding value_of
value_none = refl

value_more : (b : Byte) (bytes : List Byte) → value_of (b ∷ bytes) ≡ b.value + 2 ^ 8 * value_of bytes
unfolding value_of
value_more b bytes = refl

-- one byte of some, and the number of the others
record Front (memory : List Part) (a n value : ℕ) : Type 0 where
  first : Byte
  here : byte_at memory a ≡ Some first
  rest : ℕ
  behind : Holds memory (a + 1) n rest
  is : value ≡ first.value + 2 ^ 8 * rest

front : (memory : List Part) (a n value : ℕ) → Holds memory a (suc n) value → Front memory a n value
front memory a n value h =
    let p = parted memory a n h.bytes h.there in
    record {
      first = p.first;
      here = p.here;
      rest = value_of p.others;
      behind = record { bytes = p.others; there = p.behind; is = refl };
      is = sym h.is ∙ ap value_of p.are ∙ value_more p.first p.others;
    }

same_first : (memory : List Part) (a n m v u : ℕ) (f : Front memory a n v) (g : Front memory a m u) → f.first.value ≡ g.first.value
same_first memory a n m v u f g = let both : Some f.first ≡ Some g.first = sym f.here ∙ g.here in cc both

nothing_held : (memory : List Part) (a v : ℕ) → Holds memory a 0 v → v ≡ 0
nothing_held memory a v h = sym h.is ∙ ap value_of (none memory a h.bytes h.there) ∙ value_none

-- the lower four of eight bytes
pub lower_four : (memory : List Part) (a v u : ℕ) → Holds memory a 8 v → Holds memory a 4 u → u < 2 ^ 32 → v % 2 ^ 32 ≡ u
lower_four memory a v u long short small =
    let f1 = front memory a 7 v long in
    let g1 = front memory a 3 u short in
    let f2 = front memory (a + 1) 6 f1.rest f1.behind in
    let g2 = front memory (a + 1) 2 g1.rest g1.behind in
    let f3 = front memory (a + 1 + 1) 5 f2.rest f2.behind in
    let g3 = front memory (a + 1 + 1) 1 g2.rest g2.behind in
    let f4 = front memory (a + 1 + 1 + 1) 4 f3.rest f3.behind in
    let g4 = front memory (a + 1 + 1 + 1) 0 g3.rest g3.behind in
    let end : g4.rest ≡ 0 = nothing_held memory (a + 1 + 1 + 1 + 1) g4.rest g4.behind in
    let s1 = same_first memory a 7 3 v u f1 g1 in
    let s2 = same_first memory (a + 1) 6 2 f1.rest g1.rest f2 g2 in
    let s3 = same_first memory (a + 1 + 1) 5 1 f2.rest g2.rest f3 g3 in
    let s4 = same_first memory (a + 1 + 1 + 1) 4 0 f3.rest g3.rest f4 g4 in
    let whole : v ≡ u + 4294967296 * f4.rest = omega (arith, f1.is, f2.is, f3.is, f4.is, g1.is, g2.is, g3.is, g4.is, end, s1, s2, s3, s4) in
    omega (arith, whole, small)
