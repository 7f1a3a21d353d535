-- What a field reads depends only on the bytes that it takes.
use Rattle.std.proofs.Common.{◌≡◌, ◌+◌, ◌-◌, ◌*◌, ◌%◌, ◌^◌, ◌≤◌, ◌<◌, ℕ, ℤ, zero, suc, Bool, true, false, nat_lt, List, [], ◌∷◌, length, take, drop, Result, Ok, Err, refl, ap, sym, subst, ◌∙◌, arith, ◌⊎◌, inl, inr}
use Rattle.std.specs.Prelude.{Option, Some, None, if◌then◌else◌}
use Rattle.std.specs.Int.{Width, byte_len, from_le_bytes, cast_unsigned, w64}
use Rattle.std.proofs.lemmas.Bool.Decides.{nat_tests}
use Rattle.std.proofs.lemmas.List.{length-drop}
use Rattle.eh_bytes.specs.declared.error.ByteError.{ByteError}
use Rattle.eh_bytes.specs.declared.error.ByteError.TheVariants.{Truncated, LebRange}
use Rattle.eh_bytes.specs.declared.encoded.Pointer.{Pointer}
use Rattle.eh_bytes.specs.Field.{Reading, Field, behind, at, byte, fixed}
use Rattle.eh_bytes.specs.Leb128.{goes_on, grouped, in_u64, uleb, sign_extended, ranged, and_taken, in_i64, sleb}
use Rattle.eh_bytes.specs.Encoded.{Format, unsigned, signed, uleb128, sleb128, encoding_format, format_size, wraps, extended, extends, raw, applied, applies, encoded}
use Rattle.eh_bytes.proofs.Grouped.{with_low, group_before, within, grouped-within}
use Rattle.lsda_pack.proofs.Fronts.{Agrees, agrees_length, taken_same, Same}

abbrev pub ok : {A : Type 0} → A → Result A ByteError
ok x = Ok x

abbrev pub taking : {A : Type 0} → A → ℕ → Reading A
taking v n = Ok (v, n)

pub ok_same : {A : Type 0} (x y : A) → ok x ≡ ok y → x ≡ y
ok_same x y e = cc

-- the list has the bytes that are taken, and each list that begins with them reads the same
pub record ReadsFront {A : Type 0} (f : Field A) (xs : List ℕ) (v : A) (n : ℕ) : Type 0 where
  pub own : n ≤ length xs
  pub same : (ys : List ℕ) → Agrees n xs ys → f ys ≡ Ok (v, n)

abbrev pub Front : {A : Type 0} → Field A → Type 0
Front {A} f = (xs : List ℕ) (v : A) (n : ℕ) → f xs ≡ Ok (v, n) → ReadsFront f xs v n

pub front_byte : Front byte
front_byte [] v n read = cc
front_byte (x ∷ xs) v n read =
    let pair = ok_same (x, 1) (v, n) read in
    let one : 1 ≡ n = ap (λ p. p.1) pair in
    record { own = omega (arith, one); same = λ ys same. other ys (subst (λ m. Agrees m (x ∷ xs) ys) (sym one) same) }
  where
    other : (ys : List ℕ) → Agrees 1 (x ∷ xs) ys → byte ys ≡ Ok (v, n)
    other [] same = absurd same
    other (y ∷ ys) same = ap (λ z. taking z 1) (sym same.0) ∙ read

pub front_fixed : (w : Width) → Front (fixed w)
front_fixed w xs v n read = step (nat_lt (length xs) (byte_len w)) refl read
  where
    size : ℕ
    size = byte_len w

    step : (b : Bool) → nat_lt (length xs) size ≡ b → (if b then Err Truncated else taking (from_le_bytes w (take size xs)) size) ≡ taking v n → ReadsFront (fixed w) xs v n
    step true e r = absurd cc
    step false e r =
        let pair = ok_same (from_le_bytes w (take size xs), size) (v, n) r in
        let is : size ≡ n = ap (λ p. p.1) pair in
        record {
          own = grind (arith, nat_tests, e, is);
          same = λ ys same.
              let front = subst (λ m. Agrees m xs ys) (sym is) same in
              let own : size ≤ length xs = grind (arith, nat_tests, e) in
              let enough = agrees_length size xs ys own front in
              let long : nat_lt (length ys) size ≡ false = grind (arith, nat_tests, enough) in
              ap (λ b. if b then Err Truncated else taking (from_le_bytes w (take size ys)) size) long ∙
              ap (λ zs. taking (from_le_bytes w zs) size) (sym (taken_same size xs ys front)) ∙ r;
        }

taken_some : (k : ℕ) (xs : List ℕ) (v n : ℕ) → within k xs ≡ Ok (v, n) → 0 < n
unfolding within
taken_some zero xs v n read = absurd cc
taken_some (suc k) [] v n read = absurd cc
taken_some (suc k) (b ∷ bs) v n read = step (goes_on b) (within k bs) read
  where
    step : (on : Bool) (r : Reading ℕ) → group_before b on r ≡ Ok (v, n) → 0 < n
    step true (Ok (w, m)) e = let is : 1 + m ≡ n = ap (λ p. p.1) (ok_same (b % 128 + 128 * w, 1 + m) (v, n) e) in omega (arith, is)
    step true (Err cause) e = absurd cc
    step false r e = let is : 1 ≡ n = ap (λ p. p.1) (ok_same (b % 128, 1) (v, n) e) in omega (arith, is)

front_within : (k : ℕ) → Front (within k)
unfolding within
front_within zero xs v n read = absurd cc
front_within (suc k) [] v n read = absurd cc
front_within (suc k) (b ∷ bs) v n read = step (goes_on b) refl (within k bs) refl read (λ w m e. front_within k bs w m e)
  where
    step : (on : Bool) → goes_on b ≡ on → (r : Reading ℕ) → within k bs ≡ r → group_before b on r ≡ Ok (v, n) →
        ((w m : ℕ) → within k bs ≡ Ok (w, m) → ReadsFront (within k) bs w m) → ReadsFront (within (suc k)) (b ∷ bs) v n
    step true on (Err cause) is e more = absurd cc
    step true on (Ok (w, m)) is e more =
        let rest = more w m is in
        let size : 1 + m ≡ n = ap (λ p. p.1) (ok_same (b % 128 + 128 * w, 1 + m) (v, n) e) in
        let size' : n ≡ suc m = omega (arith, size) in
        record { own = omega (arith, rest.own, size); same = λ ys same. other ys (subst (λ x. Agrees x (b ∷ bs) ys) size' same) rest.same }
      where
        other : (ys : List ℕ) → Agrees (suc m) (b ∷ bs) ys → ((zs : List ℕ) → Agrees m bs zs → within k zs ≡ Ok (w, m)) → within (suc k) ys ≡ Ok (v, n)
        other [] same rest = absurd same
        other (c ∷ cs) same rest =
            ap (λ x. group_before x (goes_on x) (within k cs)) (sym same.0) ∙ ap (λ x. group_before b x (within k cs)) on ∙
            ap (λ x. with_low (b % 128) x) (rest cs same.1) ∙ e
    step false on r is e more =
        let one : 1 ≡ n = ap (λ p. p.1) (ok_same (b % 128, 1) (v, n) e) in
        let one' : n ≡ suc zero = omega (arith, one) in
        record { own = omega (arith, one); same = λ ys same. other ys (subst (λ x. Agrees x (b ∷ bs) ys) one' same) }
      where
        other : (ys : List ℕ) → Agrees (suc zero) (b ∷ bs) ys → within (suc k) ys ≡ Ok (v, n)
        other [] same = absurd same
        other (c ∷ cs) same =
            ap (λ x. group_before x (goes_on x) (within k cs)) (sym same.0) ∙ ap (λ x. group_before b x (within k cs)) on ∙ e

front_grouped : Front grouped
front_grouped xs v n read =
    let f = front_within 10 xs v n (sym (grouped-within xs) ∙ read) in
    record { own = f.own; same = λ ys same. grouped-within ys ∙ f.same ys same }

-- a test or a change of what is read keeps how many bytes it takes
keeps_front : {A B : Type 0} (f : Field A) (g : Reading A → Reading B) → ((r : Reading A) (v : B) (n : ℕ) → g r ≡ Ok (v, n) → (w : A) × (r ≡ Ok (w, n))) → Front f → Front (λ xs. g (f xs))
keeps_front f g keeps front xs v n read =
    let was = keeps (f xs) v n read in
    let r = front xs was.0 n was.1 in
    record { own = r.own; same = λ ys same. ap g (r.same ys same ∙ sym was.1) ∙ read }

keeps_u64 : (r : Reading ℕ) (v n : ℕ) → in_u64 r ≡ Ok (v, n) → (w : ℕ) × (r ≡ Ok (w, n))
keeps_u64 (Err cause) v n e = absurd cc
keeps_u64 (Ok (w, m)) v n e = step (nat_lt w (2 ^ 64)) e
  where
    step : (b : Bool) → (if b then taking w m else Err LebRange) ≡ taking v n → (x : ℕ) × (taking w m ≡ taking x n)
    step true r = (v, r)
    step false r = absurd cc

keeps_i64 : (r : Reading ℕ) (v : ℤ) (n : ℕ) → in_i64 r ≡ Ok (v, n) → (w : ℕ) × (r ≡ Ok (w, n))
keeps_i64 (Err cause) v n e = absurd cc
keeps_i64 (Ok (w, m)) v n e = step (ranged (sign_extended w (7 * m))) e
  where
    step : (o : Result ℤ ByteError) → and_taken m o ≡ Ok (v, n) → (x : ℕ) × (taking w m ≡ taking x n)
    step (Ok z) r = (w, ap (λ k. taking w k) (ap (λ p. p.1) (ok_same (z, m) (v, n) r)))
    step (Err cause) r = absurd cc

pub front_uleb : Front uleb
unfolding uleb
front_uleb = keeps_front grouped in_u64 keeps_u64 front_grouped

pub front_sleb : Front sleb
unfolding sleb
front_sleb = keeps_front grouped in_i64 keeps_i64 front_grouped

keeps_wraps : (r : Reading ℤ) (v n : ℕ) → wraps r ≡ Ok (v, n) → (w : ℤ) × (r ≡ Ok (w, n))
keeps_wraps (Err cause) v n e = absurd cc
keeps_wraps (Ok (w, m)) v n e = (w, ap (λ k. taking w k) (ap (λ p. p.1) (ok_same (cast_unsigned w64 w, m) (v, n) e)))

keeps_extends : (len : ℕ) (r : Reading ℕ) (v n : ℕ) → extends len r ≡ Ok (v, n) → (w : ℕ) × (r ≡ Ok (w, n))
keeps_extends len (Err cause) v n e = absurd cc
keeps_extends len (Ok (w, m)) v n e = (w, ap (λ k. taking w k) (ap (λ p. p.1) (ok_same (extended len w, m) (v, n) e)))

keeps_applies : (encoding address : ℕ) (r : Reading ℕ) (v : Pointer) (n : ℕ) → applies encoding address r ≡ Ok (v, n) → (w : ℕ) × (r ≡ Ok (w, n))
keeps_applies encoding address (Err cause) v n e = absurd cc
keeps_applies encoding address (Ok (w, m)) v n e = (w, ap (λ k. taking w k) (ap (λ p. p.1) (ok_same (applied encoding address w, m) (v, n) e)))

front_raw : (format : Option Format) → Front (raw format)
unfolding raw
front_raw None xs v n read = absurd cc
front_raw (Some (unsigned w)) xs v n read = front_fixed w xs v n read
front_raw (Some (signed w)) xs v n read = keeps_front (fixed w) (extends (byte_len w)) (keeps_extends (byte_len w)) (front_fixed w) xs v n read
front_raw (Some uleb128) xs v n read = front_uleb xs v n read
front_raw (Some sleb128) xs v n read = keeps_front sleb wraps keeps_wraps front_sleb xs v n read

pub front_encoded : (encoding address : ℕ) → Front (encoded encoding address)
unfolding encoded
front_encoded encoding address = keeps_front (raw (encoding_format encoding)) (applies encoding address) (keeps_applies encoding address) (front_raw (encoding_format encoding))

-- a field at a place, up to the place behind it
pub record ReadsAt {A : Type 0} (f : Field A) (xs : List ℕ) (p : ℕ) (v : A) (q : ℕ) : Type 0 where
  pub forward : p ≤ q
  pub own : q ≤ length xs ⊎ (q ≡ p)
  pub same : (ys : List ℕ) → Same p q xs ys → at f ys p ≡ Ok (v, q)

pub reads_at : {A : Type 0} (f : Field A) → Front f → (xs : List ℕ) (p : ℕ) (v : A) (q : ℕ) → at f xs p ≡ Ok (v, q) → ReadsAt f xs p v q
reads_at f front xs p v q read = step (f (drop p xs)) refl read
  where
    step : (r : Reading _) → f (drop p xs) ≡ r → behind p r ≡ Ok (v, q) → ReadsAt f xs p v q
    step (Err cause) is e = absurd cc
    step (Ok (w, n)) is e =
        let pair = ok_same (w, p + n) (v, q) e in
        let place : p + n ≡ q = ap (λ x. x.1) pair in
        let r = front (drop p xs) w n is in
        let size : q - p ≡ n = omega (arith, place) in
        let long = r.own in
        record {
          forward = omega (arith, place);
          own = within_it n place long;
          same = λ ys same. ap (behind p) (r.same (drop p ys) (subst (λ k. Agrees k (drop p xs) (drop p ys)) size same)) ∙ e;
        }
      where
        within_it : (m : ℕ) → p + m ≡ q → m ≤ length (drop p xs) → q ≤ length xs ⊎ (q ≡ p)
        within_it zero place long = inr (omega (arith, place))
        within_it (suc m) place long = inl (omega (arith, place, long, length-drop p xs))

-- a number takes a byte
sleb_some : (xs : List ℕ) (v : ℤ) (n : ℕ) → sleb xs ≡ Ok (v, n) → 0 < n
unfolding sleb
sleb_some xs v n read = let was = keeps_i64 (grouped xs) v n read in taken_some 10 xs was.0 n (sym (grouped-within xs) ∙ was.1)

pub sleb_forward : (xs : List ℕ) (p : ℕ) (v : ℤ) (q : ℕ) → at sleb xs p ≡ Ok (v, q) → p < q
sleb_forward xs p v q read = step (sleb (drop p xs)) refl read
  where
    step : (r : Reading ℤ) → sleb (drop p xs) ≡ r → behind p r ≡ Ok (v, q) → p < q
    step (Err cause) is e = absurd cc
    step (Ok (w, n)) is e =
        let place : p + n ≡ q = ap (λ x. x.1) (ok_same (w, p + n) (v, q) e) in
        let some = sleb_some (drop p xs) w n is in
        omega (arith, place, some)

-- a pointer whose format has a size takes that many bytes
fixed_size : (w : Width) (xs : List ℕ) (v n : ℕ) → fixed w xs ≡ Ok (v, n) → n ≡ byte_len w
fixed_size w xs v n read = step (nat_lt (length xs) (byte_len w)) read
  where
    step : (b : Bool) → (if b then Err Truncated else taking (from_le_bytes w (take (byte_len w) xs)) (byte_len w)) ≡ taking v n → n ≡ byte_len w
    step true e = absurd cc
    step false e = sym (ap (λ p. p.1) (ok_same (from_le_bytes w (take (byte_len w) xs), byte_len w) (v, n) e))

raw_size : (format : Option Format) (size : ℕ) → format_size format ≡ Some size → (xs : List ℕ) (v n : ℕ) → raw format xs ≡ Ok (v, n) → n ≡ size
unfolding raw
raw_size None size is xs v n read = absurd cc
raw_size (Some (unsigned w)) size is xs v n read = let same : byte_len w ≡ size = cc in fixed_size w xs v n read ∙ same
raw_size (Some (signed w)) size is xs v n read =
    let same : byte_len w ≡ size = cc in
    let was = keeps_extends (byte_len w) (fixed w xs) v n read in
    fixed_size w xs was.0 n was.1 ∙ same
raw_size (Some uleb128) size is xs v n read = absurd cc
raw_size (Some sleb128) size is xs v n read = absurd cc

encoded_size : (encoding address size : ℕ) → format_size (encoding_format encoding) ≡ Some size → (xs : List ℕ) (v : Pointer) (n : ℕ) → encoded encoding address xs ≡ Ok (v, n) → n ≡ size
unfolding encoded
encoded_size encoding address size is xs v n read =
    let was = keeps_applies encoding address (raw (encoding_format encoding) xs) v n read in
    raw_size (encoding_format encoding) size is xs was.0 n was.1

pub sized_at : (encoding address size : ℕ) → format_size (encoding_format encoding) ≡ Some size → (xs : List ℕ) (p : ℕ) (v : Pointer) (q : ℕ) → at (encoded encoding address) xs p ≡ Ok (v, q) → q ≡ p + size
sized_at encoding address size is xs p v q read = step (encoded encoding address (drop p xs)) refl read
  where
    step : (r : Reading Pointer) → encoded encoding address (drop p xs) ≡ r → behind p r ≡ Ok (v, q) → q ≡ p + size
    step (Err cause) at' e = absurd cc
    step (Ok (w, n)) at' e =
        let place : p + n ≡ q = ap (λ x. x.1) (ok_same (w, p + n) (v, q) e) in
        let taken = encoded_size encoding address size is (drop p xs) w n at' in
        omega (arith, place, taken)
