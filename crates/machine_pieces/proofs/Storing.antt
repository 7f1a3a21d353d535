-- A number is written: what is read there afterwards, and what stays.
use Rattle.std.proofs.Common.{◌≡◌, ◌≢◌, ◌∙◌, refl, sym, ap, subst, arith, ℕ, zero, suc, ◌+◌, ◌*◌, ◌/◌, ◌%◌, ◌^◌, ◌<◌, ◌==◌, true, List, [], ◌∷◌, length, map, Option, Some, None, option_map, option_and_then, inl, inr}
use Rattle.std.specs.Prelude.{not, ◌⊎◌}
use Rattle.std.specs.List.{list_all}
use Rattle.std.proofs.lemmas.Bool.{cases_eq, and_parts, and_from}
use Rattle.rv64_isa.specs.declared.step.Step.TheVariants.{Done}
use Rattle.rv64_isa.specs.State.{State, Part, Byte, state, byte_at, bytes_at, value_of, with_byte, with_value}
use Rattle.rv64_isa.specs.Step.{next, sets, loads, stores}
use Rattle.machine_pieces.specs.Memory.{rights, Written, is_code, WordAt, Holds, MayWrite, shape_of, Apart}
use Rattle.machine_pieces.specs.Laws.{StoresAreRead}
use Rattle.machine_pieces.proofs.Bytes.{changed, byte_here, byte_apart, byte_shapes}

-- ---- some bytes are the first one and the others

abbrev joined : Option Byte → Option (List Byte) → Option (List Byte)
joined first others = option_and_then (λ b. option_map (λ bytes. b ∷ bytes) others) first

record Parted (memory : List Part) (a n : ℕ) (bytes : List Byte) : Type 0 where
  first : Byte
  others : List Byte
  here : byte_at memory a ≡ Some first
  behind : bytes_at memory (a + 1) n ≡ Some others
  are : bytes ≡ first ∷ others

parted_of : (memory : List Part) (a n : ℕ) (bytes : List Byte) (first : Option Byte) (others : Option (List Byte)) → byte_at memory a ≡ first → bytes_at memory (a + 1) n ≡ others →
    joined first others ≡ Some bytes → Parted memory a n bytes
parted_of memory a n bytes None others e f h = absurd (cc h)
parted_of memory a n bytes (Some b) None e f h = absurd (cc h)
parted_of memory a n bytes (Some b) (Some bs) e f h = record { first = b; others = bs; here = e; behind = f; are = let same : b ∷ bs ≡ bytes = cc h in sym same }

parted : (memory : List Part) (a n : ℕ) (bytes : List Byte) → bytes_at memory a (suc n) ≡ Some bytes → Parted memory a n bytes
unfolding bytes_at
parted memory a n bytes h = parted_of memory a n bytes (byte_at memory a) (bytes_at memory (a + 1) n) refl refl h

pub whole : (memory : List Part) (a n : ℕ) (first : Byte) (others : List Byte) → byte_at memory a ≡ Some first → bytes_at memory (a + 1) n ≡ Some others → bytes_at memory a (suc n) ≡ Some (first ∷ others)
unfolding bytes_at
whole memory a n first others e f = ap (λ o. joined o (bytes_at memory (a + 1) n)) e ∙ ap (joined (Some first)) f

none : (memory : List Part) (a : ℕ) (bytes : List Byte) → bytes_at memory a 0 ≡ Some bytes → bytes ≡ []
unfolding bytes_at
none memory a bytes h = let same : [] ≡ bytes = cc h in sym same

pub nothing : (memory : List Part) (a : ℕ) → bytes_at memory a 0 ≡ Some []
unfolding bytes_at
nothing memory a = refl

pub bytes_same : (old new : List Part) (a n : ℕ) → ((i : ℕ) → i < n → byte_at new (a + i) ≡ byte_at old (a + i)) → bytes_at new a n ≡ bytes_at old a n
unfolding bytes_at
bytes_same old new a zero same = refl
bytes_same old new a (suc n) same =
    let here : byte_at new a ≡ byte_at old a = subst (λ k. byte_at new k ≡ byte_at old k) (omega arith) (same 0 (omega arith)) in
    let others : bytes_at new (a + 1) n ≡ bytes_at old (a + 1) n
    = bytes_same old new (a + 1) n (λ i l. subst (λ k. byte_at new k ≡ byte_at old k) (omega arith) (same (i + 1) (omega (arith, l)))) in
    ap (λ o. joined o (bytes_at new (a + 1) n)) here ∙ ap (joined (byte_at old a)) others

pub length_of : (memory : List Part) (a n : ℕ) (bytes : List Byte) → bytes_at memory a n ≡ Some bytes → length bytes ≡ n
length_of memory a zero bytes h = ap length (none memory a bytes h)
length_of memory a (suc n) bytes h =
    let p = parted memory a n bytes h in
    ap length p.are ∙ omega (arith, length_of memory (a + 1) n p.others p.behind)

-- ---- what is apart from the bytes that are written stays

pub value_apart : (memory : List Part) (a n value b : ℕ) → ((i : ℕ) → i < n → a + i ≢ b) → byte_at (with_value memory a n value) b ≡ byte_at memory b
unfolding with_value
value_apart memory a zero value b out = refl
value_apart memory a (suc n) value b out =
    let here : a ≢ b = λ e. out 0 (omega arith) (omega (arith, e)) in
    let others : (i : ℕ) → i < n → a + 1 + i ≢ b = λ i l e. out (i + 1) (omega (arith, l)) (omega (arith, e)) in
    value_apart (with_byte memory a (value % 2 ^ 8)) (a + 1) n (value / 2 ^ 8) b others ∙ byte_apart memory a b (value % 2 ^ 8) here

pub bytes_apart : (memory : List Part) (a n value b k : ℕ) → Apart a n b k → bytes_at (with_value memory a n value) b k ≡ bytes_at memory b k
bytes_apart memory a n value b k out = bytes_same memory (with_value memory a n value) b k (λ j l. value_apart memory a n value (b + j) (λ i h. out i j h l))

-- ---- what was written is read

-- bytes with the values of a number, the lowest first
valued : ℕ → List Byte → List Byte
valued value [] = []
valued value (b ∷ bytes) = changed (value % 2 ^ 8) b ∷ valued (value / 2 ^ 8) bytes

read_back : (memory : List Part) (a n value : ℕ) (bytes : List Byte) → bytes_at memory a n ≡ Some bytes → bytes_at (with_value memory a n value) a n ≡ Some (valued value bytes)
unfolding with_value valued
read_back memory a zero value bytes h = nothing memory a ∙ sym (ap (λ bs. Some (valued value bs)) (none memory a bytes h))
read_back memory a (suc n) value bytes h =
    let p = parted memory a n bytes h in
    let once : List Part = with_byte memory a (value % 2 ^ 8) in
    let all : List Part = with_value once (a + 1) n (value / 2 ^ 8) in
    let here : byte_at all a ≡ Some (changed (value % 2 ^ 8) p.first)
    = value_apart once (a + 1) n (value / 2 ^ 8) a (λ i l e. absurd (omega (arith, e))) ∙ byte_here memory a (value % 2 ^ 8) ∙ ap (option_map (changed (value % 2 ^ 8))) p.here in
    let before : bytes_at once (a + 1) n ≡ Some p.others
    = bytes_same memory once (a + 1) n (λ i l. byte_apart memory a (a + 1 + i) (value % 2 ^ 8) (λ e. absurd (omega (arith, e)))) ∙ p.behind in
    let others : bytes_at all (a + 1) n ≡ Some (valued (value / 2 ^ 8) p.others) = read_back once (a + 1) n (value / 2 ^ 8) p.others before in
    whole all a n (changed (value % 2 ^ 8) p.first) (valued (value / 2 ^ 8) p.others) here others ∙ sym (ap (λ bs. Some (valued value bs)) p.are)

-- the number that so many bytes have of a number
pub low_value : ℕ → ℕ → ℕ
low_value zero value = 0
low_value (suc n) value = value % 2 ^ 8 + 2 ^ 8 * low_value n (value / 2 ^ 8)

value_valued : (bytes : List Byte) (value : ℕ) → value_of (valued value bytes) ≡ low_value (length bytes) value
unfolding valued low_value value_of
value_valued [] value = refl
value_valued (b ∷ bytes) value = ap (λ v. value % 2 ^ 8 + 2 ^ 8 * v) (value_valued bytes (value / 2 ^ 8))

-- of 4 bytes and of 8
pub low_four : (value : ℕ) → low_value 4 value ≡ value % 2 ^ 32
unfolding low_value
low_four value = omega arith

pub low_eight : (value : ℕ) → low_value 8 value ≡ value % 2 ^ 64
unfolding low_value
low_eight value = omega arith

pub holds_stored : (memory : List Part) (a n value : ℕ) → MayWrite memory a n → Holds (with_value memory a n value) a n (low_value n value)
holds_stored memory a n value may = record {
  bytes = valued value may.bytes;
  there = read_back memory a n value may.bytes may.there;
  is = value_valued may.bytes value ∙ ap (λ k. low_value k value) (length_of memory a n may.bytes may.there);
}

pub holds_apart : (memory : List Part) (a n value b k x : ℕ) → Apart a n b k → Holds memory b k x → Holds (with_value memory a n value) b k x
holds_apart memory a n value b k x out h = record { bytes = h.bytes; there = bytes_apart memory a n value b k out ∙ h.there; is = h.is }

-- ---- rights stay, and what may not be written

same_rights : (value : ℕ) (o : Option Byte) → option_map rights (option_map (changed value) o) ≡ option_map rights o
same_rights value None = refl
same_rights value (Some b) = refl

pub written_none : (memory : List Part) → Written memory memory
written_none memory = record { rights = λ a. refl; fixed = λ a b h w. h }

pub written_more : (old mid new : List Part) → Written old mid → Written mid new → Written old new
written_more old mid new first second = record {
  rights = λ a. second.rights a ∙ first.rights a;
  fixed = λ a b h w. second.fixed a b (first.fixed a b h w) w;
}

byte_written : (memory : List Part) (a value : ℕ) (b : Byte) → byte_at memory a ≡ Some b → b.write ≡ true → Written memory (with_byte memory a value)
byte_written memory a value b here may = record { rights = λ c. rights_at c (cases_eq a c); fixed = λ c x h w. fixed_at c x h w (cases_eq a c) }
  where
    rights_at : (c : ℕ) → (a ≡ c) ⊎ (a ≡ c → ⊥) → option_map rights (byte_at (with_byte memory a value) c) ≡ option_map rights (byte_at memory c)
    rights_at c (inl e) =
        subst (λ k. option_map rights (byte_at (with_byte memory a value) k) ≡ option_map rights (byte_at memory k)) e
        (ap (option_map rights) (byte_here memory a value) ∙ same_rights value (byte_at memory a))
    rights_at c (inr ne) = ap (option_map rights) (byte_apart memory a c value ne)

    fixed_at : (c : ℕ) (x : Byte) → byte_at memory c ≡ Some x → not x.write ≡ true → (a ≡ c) ⊎ (a ≡ c → ⊥) → byte_at (with_byte memory a value) c ≡ Some x
    fixed_at c x h w (inl e) =
        let both : Some b ≡ Some x = sym here ∙ ap (byte_at memory) e ∙ h in
        let same : b ≡ x = cc both in
        let writes : not true ≡ true = ap not (sym may ∙ ap (λ (y : Byte). y.write) same) ∙ w in
        absurd (cc writes)
    fixed_at c x h w (inr ne) = byte_apart memory a c value ne ∙ h

-- the byte that another memory has with the same rights
record Alike (memory : List Part) (a : ℕ) (b : Byte) : Type 0 where
  byte : Byte
  there : byte_at memory a ≡ Some byte
  write : byte.write ≡ b.write

alike_of : (memory : List Part) (a : ℕ) (b : Byte) (o : Option Byte) → byte_at memory a ≡ o → option_map rights o ≡ Some (rights b) → Alike memory a b
alike_of memory a b None e h = absurd (cc h)
alike_of memory a b (Some c) e h = let same : rights c ≡ rights b = cc h in record { byte = c; there = e; write = ap (λ p. p.0) same }

alike : (old new : List Part) (a : ℕ) (b : Byte) → Written old new → byte_at old a ≡ Some b → Alike new a b
alike old new a b w h = alike_of new a b (byte_at new a) refl (w.rights a ∙ ap (option_map rights) h)

pub may_still : (old new : List Part) (a n : ℕ) → Written old new → MayWrite old a n → MayWrite new a n
may_still old new a zero w may = record { bytes = []; there = nothing new a; all = refl }
may_still old new a (suc n) w may =
    let p = parted old a n may.bytes may.there in
    let both = and_parts p.first.write (list_all (λ b. b.write) p.others) (sym (ap (list_all (λ (b : Byte). b.write)) p.are) ∙ may.all) in
    let first = alike old new a p.first w p.here in
    let others = may_still old new (a + 1) n w (record { bytes = p.others; there = p.behind; all = both.1 }) in
    record {
      bytes = first.byte ∷ others.bytes;
      there = whole new a n first.byte others.bytes first.there others.there;
      all = and_from first.byte.write (list_all (λ b. b.write) others.bytes) (first.write ∙ both.0) others.all;
    }

pub value_written : (memory : List Part) (a n value : ℕ) → MayWrite memory a n → Written memory (with_value memory a n value)
unfolding with_value
value_written memory a zero value may = written_none memory
value_written memory a (suc n) value may =
    let p = parted memory a n may.bytes may.there in
    let both = and_parts p.first.write (list_all (λ b. b.write) p.others) (sym (ap (list_all (λ (b : Byte). b.write)) p.are) ∙ may.all) in
    let once : List Part = with_byte memory a (value % 2 ^ 8) in
    let first = byte_written memory a (value % 2 ^ 8) p.first p.here both.0 in
    let rest = may_still memory once (a + 1) n first (record { bytes = p.others; there = p.behind; all = both.1 }) in
    written_more memory once (with_value once (a + 1) n (value / 2 ^ 8)) first (value_written once (a + 1) n (value / 2 ^ 8) rest)

code_bytes : (old new : List Part) (a n : ℕ) (bytes : List Byte) → Written old new → bytes_at old a n ≡ Some bytes → list_all is_code bytes ≡ true → bytes_at new a n ≡ Some bytes
code_bytes old new a zero bytes w h code = nothing new a ∙ sym (ap Some (none old a bytes h))
code_bytes old new a (suc n) bytes w h code =
    let p = parted old a n bytes h in
    let both = and_parts (is_code p.first) (list_all is_code p.others) (sym (ap (list_all is_code) p.are) ∙ code) in
    let kept = and_parts p.first.exec (not p.first.write) both.0 in
    whole new a n p.first p.others (w.fixed a p.first p.here kept.1) (code_bytes old new (a + 1) n p.others w p.behind both.1) ∙ sym (ap Some p.are)

-- code stays
pub word_still : (old new : List Part) (a word : ℕ) → Written old new → WordAt old a word → WordAt new a word
word_still old new a word w h = record { aligned = h.aligned; below = h.below; bytes = h.bytes; there = code_bytes old new a 4 h.bytes w h.there h.code; code = h.code; spells = h.spells }

pub value_shapes : (memory : List Part) (a n value : ℕ) → map shape_of (with_value memory a n value) ≡ map shape_of memory
unfolding with_value
value_shapes memory a zero value = refl
value_shapes memory a (suc n) value =
    value_shapes (with_byte memory a (value % 2 ^ 8)) (a + 1) n (value / 2 ^ 8) ∙ byte_shapes memory a (value % 2 ^ 8)

-- ---- what loads and stores do

pub loads_done : (s : State) (size : ℕ) (extended : ℕ → ℕ) (rd a value : ℕ) → (a % size == 0) ≡ true → Holds s.memory a size value → loads s size extended rd a ≡ sets s rd (extended value)
loads_done s size extended rd a value aligned h = rw (aligned, h.there) (ap (λ v. sets s rd (extended v)) h.is)

pub stores_done : (s : State) (size a value : ℕ) → (a % size == 0) ≡ true → MayWrite s.memory a size →
    stores s size a value ≡ (Done, state (next s) s.regs (with_value s.memory a size value))
stores_done s size a value aligned may = rw (aligned, may.there, may.all) refl

-- an int and a number of 64 bits
pub four_stored : (memory : List Part) (a value : ℕ) → MayWrite memory a 4 → Holds (with_value memory a 4 value) a 4 (value % 2 ^ 32)
four_stored memory a value may = subst (Holds (with_value memory a 4 value) a 4) (low_four value) (holds_stored memory a 4 value may)

pub eight_stored : (memory : List Part) (a value : ℕ) → MayWrite memory a 8 → Holds (with_value memory a 8 value) a 8 (value % 2 ^ 64)
eight_stored memory a value may = subst (Holds (with_value memory a 8 value) a 8) (low_eight value) (holds_stored memory a 8 value may)

pub stores_are_read : StoresAreRead
stores_are_read = record { four = four_stored; eight = eight_stored; apart = holds_apart; written = value_written; code = word_still; may = may_still; shapes = value_shapes }
