-- The names of a program stand one behind the other, as its tokens do.
use Rattle.std.proofs.Common.{◌≡◌, ◌∙◌, ◌+◌, ◌≤◌, ℕ, Bool, true, false, List, [], ◌∷◌, length, bytes_eq, codes, refl, sym, subst, arith}
use Rattle.std.proofs.lemmas.Slice.Eq.{bytes_eq-Decides}
use Rattle.cxx_ast.specs.declared.token.Token.{Token}
use Rattle.cxx_ast.specs.declared.token.TokenKind.{TokenKind}
use Rattle.cxx_ast.specs.declared.token.TokenKind.TheVariants as kind
use Rattle.cxx_ast.specs.Piece.{Piece, anywhere, placed, named, Fit}
use Rattle.cxx_ast.specs.Lexeme.{is_word, IsKind}
use Rattle.cxx_ast.specs.Lex.{Part, blank, line_comment, block_comment, token, bytes_of, AreParts, tokens_at, Lex}
use Rattle.region_formed.proofs.Pieces.{Rule, Above, lower}

-- a name of one word
abbrev pub IsOneWord : List ℕ → Type 0
IsOneWord text = bytes_eq text (codes "std::bad_exception") ≡ false

-- the places of names rise, and each is of one word
abbrev pub places : Rule
places = record {
  fits = λ n x. (n ≤ x.place) × IsOneWord x.text;
  next = λ n x. x.place + 1;
  end = λ n. Unit {0};
  rises = λ n x h. let first = h.0 in omega (arith, first);
  lower_fits = λ m n x le h. let first = h.0 in (omega (arith, le, first), h.1);
  lower_next = λ m n x le. omega arith;
  lower_end = λ m n le h. tt;
}

-- the same of tokens
abbrev NameIs : TokenKind → Type 0
NameIs (kind.Name text) = IsOneWord text
NameIs (kind.Word k) = Unit {0}
NameIs (kind.Number n) = Unit {0}
NameIs (kind.Mark m) = Unit {0}

abbrev behind_token : TokenKind → ℕ → ℕ
behind_token (kind.Name text) place = place + 1
behind_token (kind.Word k) place = place
behind_token (kind.Number n) place = place
behind_token (kind.Mark m) place = place

abbrev InOrder : ℕ → List Token → Type 0
InOrder n [] = Unit {0}
InOrder n (t ∷ ts) = (n ≤ t.place) × NameIs t.kind × InOrder (behind_token t.kind t.place) ts

no_less : (k : TokenKind) (place : ℕ) → place ≤ behind_token k place
no_less (kind.Name text) place = omega arith
no_less (kind.Word k) place = omega arith
no_less (kind.Number n) place = omega arith
no_less (kind.Mark m) place = omega arith

above_tokens : (n : ℕ) (ts : List Token) (ps : List Piece) → InOrder n ts → Fit ts ps → Above places n ps
above_tokens n [] [] h f = tt
above_tokens n [] (p ∷ ps) h f = absurd f
above_tokens n (t ∷ ts) [] h f = absurd f
above_tokens n (t ∷ ts) (anywhere k ∷ ps) h f =
    let first = h.0 in let less = no_less t.kind t.place in
    lower places ps n (behind_token t.kind t.place) (omega (arith, first, less)) (above_tokens (behind_token t.kind t.place) ts ps h.2 f.1)
above_tokens n (t ∷ ts) (placed k place ∷ ps) h f =
    let first = h.0 in let less = no_less t.kind t.place in
    lower places ps n (behind_token t.kind t.place) (omega (arith, first, less)) (above_tokens (behind_token t.kind t.place) ts ps h.2 f.1)
above_tokens n (t ∷ ts) (named x ∷ ps) h f =
    let here = subst (λ y. (n ≤ y.place) × NameIs y.kind × InOrder (behind_token y.kind y.place) ts) f.0.0 h in
    ((here.0, here.1), above_tokens (x.place + 1) ts ps here.2 f.1)

-- the tokens of a source stand so
word_text : (text bytes : List ℕ) → IsKind (kind.Name text) bytes → IsOneWord text
word_text text bytes h = go (bytes_eq text (codes "std::bad_exception")) refl
  where
    go : (b : Bool) → bytes_eq text (codes "std::bad_exception") ≡ b → bytes_eq text (codes "std::bad_exception") ≡ false
    go false e = e
    go true e =
        let same : text ≡ codes "std::bad_exception" = (bytes_eq-Decides text (codes "std::bad_exception")).0 e in
        let word : is_word (codes "std::bad_exception") ≡ true = subst (λ t. is_word t ≡ true) (sym h.0 ∙ same) h.1 in
        absurd (cc word)

some_bytes : (bytes : List ℕ) → is_word bytes ≡ true → 1 ≤ length bytes
some_bytes [] h = absurd (cc h)
some_bytes (b ∷ bytes) h = omega arith

name_is : (k : TokenKind) (bytes : List ℕ) → IsKind k bytes → NameIs k
name_is (kind.Name text) bytes h = word_text text bytes h
name_is (kind.Word k) bytes h = tt
name_is (kind.Number n) bytes h = tt
name_is (kind.Mark m) bytes h = tt

next_place : (k : TokenKind) (bytes : List ℕ) (place : ℕ) → IsKind k bytes → behind_token k place ≤ place + length bytes
next_place (kind.Name text) bytes place h = let some = some_bytes bytes h.1 in omega (arith, some)
next_place (kind.Word k) bytes place h = omega arith
next_place (kind.Number n) bytes place h = omega arith
next_place (kind.Mark m) bytes place h = omega arith

lower_tokens : (ts : List Token) (m n : ℕ) → m ≤ n → InOrder n ts → InOrder m ts
lower_tokens [] m n le h = tt
lower_tokens (t ∷ ts) m n le h = let first = h.0 in (omega (arith, le, first), h.1, h.2)

parts_in_order : (place : ℕ) (ps : List Part) (rest : List ℕ) → AreParts ps rest → InOrder place (tokens_at place ps)
parts_in_order place [] rest h = tt
parts_in_order place (token k bytes ∷ ps) rest h =
    let more = parts_in_order (place + length bytes) ps rest h.1 in
    (omega arith, name_is k bytes h.0.0, lower_tokens (tokens_at (place + length bytes) ps) (behind_token k place) (place + length bytes) (next_place k bytes place h.0.0) more)
parts_in_order place (blank b ∷ ps) rest h = lower_tokens _ place (place + length (bytes_of (blank b))) (omega arith) (parts_in_order (place + length (bytes_of (blank b))) ps rest h.1)
parts_in_order place (line_comment text ∷ ps) rest h =
    lower_tokens _ place (place + length (bytes_of (line_comment text))) (omega arith) (parts_in_order (place + length (bytes_of (line_comment text))) ps rest h.1)
parts_in_order place (block_comment text ∷ ps) rest h =
    lower_tokens _ place (place + length (bytes_of (block_comment text))) (omega arith) (parts_in_order (place + length (bytes_of (block_comment text))) ps rest h.1)

pub source_above : (source : List ℕ) (ts : List Token) (ps : List Piece) → Lex source ts → Fit ts ps → Above places 0 ps
source_above source ts ps l f = above_tokens 0 ts ps (subst (InOrder 0) l.told (parts_in_order 0 l.parts [] l.stand)) f
