-- What a word looks like: `--`, an option, another word with a dash, or none of these.
use Rattle.std.proofs.Common.{◌≡◌, ◌∙◌, ◌⊎◌, inl, inr, ◌≤◌, ◌+◌, ◌&&◌, ◌==◌, ℕ, Bool, true, false, cond, zero, suc, List, [], ◌∷◌, length, take, Some, None, refl, sym, ap, subst, arith, bytes_eq, nat_lt, lt-ltb}
use Rattle.std.specs.Prelude.{slice_get, ◌||◌, not}
use Rattle.std.specs.Option.{option_and_then}
use Rattle.std.specs.List.{list_any, position_or_len}
use Rattle.std.specs.Char.{encode_utf8}
use Rattle.std.specs.Str.{IsUtf8, chars, encode_utf8_all}
use Rattle.std.proofs.lemmas.Bool.{eqb-true}
use Rattle.std.proofs.lemmas.Bool.Decides.{nat_tests}
use Rattle.std.proofs.lemmas.Str.{encodes-chars}
use Rattle.clap.specs.Lexer.{long_of, long_of_rest, name_and_value, short_of, short_of_rest, strip_byte}
use Rattle.command_line.specs.Parted.{parted, parted_at}
use Rattle.command_line.specs.Pieces.{is_dashed}

-- no option, and not `--`
pub record IsPlain (word : List ℕ) : Type 0 where
  pub dashed : is_dashed word ≡ false
  pub dashes : bytes_eq word (45 ∷ 45 ∷ []) ≡ false
  pub long : long_of word ≡ None
  pub short : short_of word ≡ None

-- a dash, and what is no dash
pub record IsShort (word : List ℕ) : Type 0 where
  pub first : ℕ
  pub rest : List ℕ
  pub word_is : word ≡ 45 ∷ first ∷ rest
  pub other : (first == 45) ≡ false

-- two dashes, and a name
pub record IsLong (word : List ℕ) : Type 0 where
  pub first : ℕ
  pub rest : List ℕ
  pub word_is : word ≡ 45 ∷ 45 ∷ first ∷ rest

abbrev pub Shape : List ℕ → Type 0
Shape word = (word ≡ 45 ∷ 45 ∷ []) ⊎ (IsLong word ⊎ (IsShort word ⊎ IsPlain word))

short_or_long : (c : ℕ) (rest : List ℕ) (b : Bool) → (c == 45) ≡ b → Shape (45 ∷ c ∷ rest)
short_or_long c rest false e = inr (inr (inl (record { first = c; rest = rest; word_is = refl; other = e })))
short_or_long c [] true e = inl (ap (λ x. 45 ∷ x ∷ []) (eqb-true c 45 e))
short_or_long c (x ∷ xs) true e = inr (inl (record { first = x; rest = xs; word_is = ap (λ y. 45 ∷ y ∷ x ∷ xs) (eqb-true c 45 e) }))

no_dash : (b : ℕ) (rest : List ℕ) → (b == 45) ≡ false → IsPlain (b ∷ rest)
no_dash b rest e = record {
  dashed = undashed rest;
  dashes = ap (λ (t : Bool). t && bytes_eq rest (45 ∷ [])) e;
  long = ap (λ (t : Bool). option_and_then long_of_rest (option_and_then (strip_byte 45) (cond t (Some rest) None))) e;
  short = ap (λ (t : Bool). option_and_then short_of_rest (cond t (Some rest) None)) e;
}
  where
    undashed : (xs : List ℕ) → is_dashed (b ∷ xs) ≡ false
    undashed [] = refl
    undashed (x ∷ xs) = e

dash_alone : IsPlain (45 ∷ [])
dash_alone = record { dashed = refl; dashes = refl; long = refl; short = refl }

pub shape_of : (word : List ℕ) → Shape word
shape_of [] = inr (inr (inr (record { dashed = refl; dashes = refl; long = refl; short = refl })))
shape_of (b ∷ rest) = go (b == 45) refl
  where
    dashed : (xs : List ℕ) → Shape (45 ∷ xs)
    dashed [] = inr (inr (inr dash_alone))
    dashed (c ∷ xs) = short_or_long c xs (c == 45) refl

    go : (t : Bool) → (b == 45) ≡ t → Shape (b ∷ rest)
    go true e = subst (λ x. Shape (x ∷ rest)) (sym (eqb-true b 45 e)) (dashed rest)
    go false e = inr (inr (inr (no_dash b rest e)))

-- behind a dash stands a character
pub some_char : (first : ℕ) (rest : List ℕ) → IsUtf8 (45 ∷ first ∷ rest) → (c : ℕ) × (slice_get (chars (first ∷ rest)) 0 ≡ Some c)
unfolding chars encode_utf8
some_char first rest text = go (chars (first ∷ rest)) (encodes-chars (45 ∷ first ∷ rest) text)
  where
    go : (cs : List ℕ) → encode_utf8_all (45 ∷ cs) ≡ 45 ∷ first ∷ rest → (c : ℕ) × (slice_get cs 0 ≡ Some c)
    go [] e = let bad : 45 ∷ [] ≡ 45 ∷ first ∷ rest = e in absurd (cc)
    go (c ∷ cs) e = (c, refl)

-- ---- a name and its value

take_whole : (text : List ℕ) (n : ℕ) → length text ≤ n → take n text ≡ text
take_whole [] zero e = refl
take_whole [] (suc n) e = refl
take_whole (b ∷ bs) zero e = absurd (omega arith)
take_whole (b ∷ bs) (suc n) e = ap (λ (xs : List ℕ). b ∷ xs) (take_whole bs n (omega arith))

any_before_end : (p : ℕ → Bool) (text : List ℕ) → list_any p text ≡ nat_lt (position_or_len p text) (length text)
any_before_end p [] = refl
any_before_end p (b ∷ bs) = go (p b) (any_before_end p bs)
  where
    later : (m n : ℕ) → nat_lt m n ≡ nat_lt (1 + m) (suc n)
    later m n = grind (arith, nat_tests)

    go : (t : Bool) → list_any p bs ≡ nat_lt (position_or_len p bs) (length bs)
        → (t || list_any p bs) ≡ nat_lt (cond (not t) (1 + position_or_len p bs) 0) (suc (length bs))
    go true e = sym (lt-ltb 0 (suc (length bs)) (omega arith))
    go false e = e ∙ later (position_or_len p bs) (length bs)

pub parted_is : (text : List ℕ) → name_and_value text ≡ parted 61 text
parted_is text = go (nat_lt at (length text)) refl
  where
    at : ℕ
    at = position_or_len (λ b. b == 61) text

    go : (t : Bool) → nat_lt at (length text) ≡ t → name_and_value text ≡ parted_at (cond t (Some at) None) text
    go true e = let any : list_any (λ b. b == 61) text ≡ true = any_before_end (λ b. b == 61) text ∙ e in rw any refl
    go false e =
        let any : list_any (λ b. b == 61) text ≡ false = any_before_end (λ b. b == 61) text ∙ e in
        rw any (ap (λ (xs : List ℕ). (xs, None)) (take_whole text at (grind (arith, nat_tests))))
