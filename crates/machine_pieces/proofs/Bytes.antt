-- A byte is written: what stands where afterwards.
use Rattle.std.proofs.Common.{◌≡◌, ◌≢◌, ◌∙◌, refl, sym, ap, arith, ℕ, ◌-◌, ◌<◌, ◌≤◌, Bool, true, false, cond, List, [], ◌∷◌, length, map, Some, option_map}
use Rattle.std.specs.Prelude.{slice_set, nat_le, nat_lt, ◌&&◌}
use Rattle.std.proofs.lemmas.Bool.{and_parts, leb-true, ltb-true}
use Rattle.std.proofs.lemmas.List.{length-set, get_or-set_same, get_or-set_other}
use Rattle.rv64_isa.specs.State.{Part, Byte, covers, part_with, byte_of, byte_at, with_byte}
use Rattle.machine_pieces.specs.Memory.{shape_of}

-- the part with another byte at an address
abbrev pub set_in : Part → ℕ → ℕ → Part
set_in part a value = record part { bytes = slice_set part.bytes (a - part.address) value }

-- the same byte with another value
abbrev pub changed : ℕ → Byte → Byte
changed value b = record b { value = value }

pub with_byte_in : (part : Part) (memory : List Part) (a value : ℕ) (b : Bool) → covers part a ≡ b →
    with_byte (part ∷ memory) a value ≡ cond b (set_in part a value ∷ memory) (part ∷ with_byte memory a value)
unfolding with_byte
with_byte_in part memory a value b h = ap (λ t. cond t (set_in part a value ∷ memory) (part ∷ with_byte memory a value)) h

pub byte_in : (part : Part) (memory : List Part) (a : ℕ) (b : Bool) → covers part a ≡ b → byte_at (part ∷ memory) a ≡ cond b (Some (byte_of part a)) (byte_at memory a)
byte_in part memory a true h = ap (λ t. option_map (λ p. byte_of p a) (cond t (Some part) (part_with memory a))) h
byte_in part memory a false h = ap (λ t. option_map (λ p. byte_of p a) (cond t (Some part) (part_with memory a))) h

covers_set : (part : Part) (a b value : ℕ) → covers (set_in part a value) b ≡ covers part b
covers_set part a b value = ap (λ n. nat_le part.address b && nat_lt (b - part.address) n) (length-set part.bytes (a - part.address) value)

-- the places of a part
covered : (part : Part) (a : ℕ) → covers part a ≡ true → (part.address ≤ a) × (a - part.address < length part.bytes)
covered part a h =
    let both = and_parts (nat_le part.address a) (nat_lt (a - part.address) (length part.bytes)) h in
    (leb-true part.address a both.0, ltb-true (a - part.address) (length part.bytes) both.1)

set_here : (part : Part) (a value : ℕ) → covers part a ≡ true → byte_of (set_in part a value) a ≡ changed value (byte_of part a)
set_here part a value h =
    ap (λ v. changed v (byte_of part a)) (get_or-set_same part.bytes (a - part.address) value 0 (covered part a h).1)

set_apart : (part : Part) (a b value : ℕ) → covers part a ≡ true → covers part b ≡ true → a ≢ b → byte_of (set_in part a value) b ≡ byte_of part b
set_apart part a b value h g ne =
    let ha = (covered part a h).0 in
    let hb = (covered part b g).0 in
    let other : b - part.address ≢ a - part.address = λ e. ne (omega (arith, e, ha, hb)) in
    ap (λ v. changed v (byte_of part b)) (get_or-set_other part.bytes (a - part.address) (b - part.address) value 0 other)

-- the byte itself
abbrev IsHere : List Part → ℕ → ℕ → Type 0
IsHere memory a value = byte_at (with_byte memory a value) a ≡ option_map (changed value) (byte_at memory a)

here_in : (part : Part) (memory : List Part) (a value : ℕ) (b : Bool) → covers part a ≡ b → IsHere memory a value → IsHere (part ∷ memory) a value
here_in part memory a value true h others =
    ap (λ m. byte_at m a) (with_byte_in part memory a value true h)
    ∙ byte_in (set_in part a value) memory a true (covers_set part a a value ∙ h)
    ∙ ap Some (set_here part a value h)
    ∙ sym (ap (option_map (changed value)) (byte_in part memory a true h))
here_in part memory a value false h others =
    ap (λ m. byte_at m a) (with_byte_in part memory a value false h)
    ∙ byte_in part (with_byte memory a value) a false h
    ∙ others
    ∙ sym (ap (option_map (changed value)) (byte_in part memory a false h))

pub byte_here : (memory : List Part) (a value : ℕ) → IsHere memory a value
unfolding with_byte
byte_here [] a value = refl
byte_here (part ∷ memory) a value = here_in part memory a value (covers part a) refl (byte_here memory a value)

-- any other byte
abbrev IsApart : List Part → ℕ → ℕ → ℕ → Type 0
IsApart memory a b value = byte_at (with_byte memory a value) b ≡ byte_at memory b

apart_set : (part : Part) (memory : List Part) (a b value : ℕ) (t : Bool) → a ≢ b → covers part a ≡ true → covers part b ≡ t →
    byte_at (set_in part a value ∷ memory) b ≡ byte_at (part ∷ memory) b
apart_set part memory a b value true ne h g =
    byte_in (set_in part a value) memory b true (covers_set part a b value ∙ g) ∙ ap Some (set_apart part a b value h g ne) ∙ sym (byte_in part memory b true g)
apart_set part memory a b value false ne h g = byte_in (set_in part a value) memory b false (covers_set part a b value ∙ g) ∙ sym (byte_in part memory b false g)

apart_behind : (part : Part) (memory : List Part) (a b value : ℕ) (t : Bool) → covers part b ≡ t → IsApart memory a b value →
    byte_at (part ∷ with_byte memory a value) b ≡ byte_at (part ∷ memory) b
apart_behind part memory a b value true g others = byte_in part (with_byte memory a value) b true g ∙ sym (byte_in part memory b true g)
apart_behind part memory a b value false g others = byte_in part (with_byte memory a value) b false g ∙ others ∙ sym (byte_in part memory b false g)

apart_in : (part : Part) (memory : List Part) (a b value : ℕ) (t : Bool) → a ≢ b → covers part a ≡ t → IsApart memory a b value → IsApart (part ∷ memory) a b value
apart_in part memory a b value true ne h others =
    ap (λ m. byte_at m b) (with_byte_in part memory a value true h) ∙ apart_set part memory a b value (covers part b) ne h refl
apart_in part memory a b value false ne h others =
    ap (λ m. byte_at m b) (with_byte_in part memory a value false h) ∙ apart_behind part memory a b value (covers part b) refl others

pub byte_apart : (memory : List Part) (a b value : ℕ) → a ≢ b → IsApart memory a b value
unfolding with_byte
byte_apart [] a b value ne = refl
byte_apart (part ∷ memory) a b value ne = apart_in part memory a b value (covers part a) ne refl (byte_apart memory a b value ne)

-- parts keep their shapes
abbrev HasShapes : List Part → ℕ → ℕ → Type 0
HasShapes memory a value = map shape_of (with_byte memory a value) ≡ map shape_of memory

shape_set : (part : Part) (a value : ℕ) → shape_of (set_in part a value) ≡ shape_of part
shape_set part a value = ap (λ n. record (shape_of part) { size = n }) (length-set part.bytes (a - part.address) value)

shapes_in : (part : Part) (memory : List Part) (a value : ℕ) (b : Bool) → covers part a ≡ b → HasShapes memory a value → HasShapes (part ∷ memory) a value
shapes_in part memory a value true h others = ap (map shape_of) (with_byte_in part memory a value true h) ∙ ap (λ p. p ∷ map shape_of memory) (shape_set part a value)
shapes_in part memory a value false h others = ap (map shape_of) (with_byte_in part memory a value false h) ∙ ap (λ ps. shape_of part ∷ ps) others

pub byte_shapes : (memory : List Part) (a value : ℕ) → HasShapes memory a value
unfolding with_byte
byte_shapes [] a value = refl
byte_shapes (part ∷ memory) a value = shapes_in part memory a value (covers part a) refl (byte_shapes memory a value)
