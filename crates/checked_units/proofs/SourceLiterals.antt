-- The literals of a source are ints, and so are those of the pieces that its tokens spell.
use Rattle.std.proofs.Common.{◌≡◌, refl, ap, subst, arith, ℕ, ℤ, pos, negsuc, ◌+◌, ◌<◌, ◌^◌, Bool, true, false, List, [], ◌∷◌, length, Option, Some, None, option_map}
use Rattle.std.specs.Prelude.{⊤, nat_le, if◌then◌else◌}
use Rattle.std.specs.List.{AllByRecursion}
use Rattle.std.specs.Str.Parse.{digits_value}
use Rattle.std.proofs.lemmas.Bool.Decides.{nat_tests}
use Rattle.cxx_ast.specs.declared.token.Token.{Token}
use Rattle.cxx_ast.specs.declared.token.TokenKind.{TokenKind}
use Rattle.cxx_ast.specs.declared.token.TokenKind.TheVariants as kind
use Rattle.cxx_ast.specs.Lex.{Part, blank, line_comment, block_comment, token, bytes_of, AreParts, tokens_at, Lex}
use Rattle.cxx_ast.specs.Lexeme.{IsKind}
use Rattle.cxx_ast.specs.Literal.{is_decimal, int_of, literal_value}
use Rattle.cxx_ast.specs.Piece.{Piece, anywhere, placed, named, Is, Fit}

-- what a literal writes
abbrev pub IsLiteral : ℤ → Type 0
IsLiteral (pos n) = n < 2 ^ 31
IsLiteral (negsuc n) = ⊥

abbrev KindIsInt : TokenKind → Type 0
KindIsInt (kind.Number n) = IsLiteral n
KindIsInt k = ⊤

abbrev pub PieceIsInt : Piece → Type 0
PieceIsInt (anywhere k) = KindIsInt k
PieceIsInt (placed k place) = KindIsInt k
PieceIsInt (named n) = ⊤

abbrev pub AreInts : List Piece → Type 0
AreInts pieces = AllByRecursion PieceIsInt pieces

some_same : {A : Type 0} {x y : A} → Some x ≡ Some y → x ≡ y
some_same e = cc

some_none : {A : Type 0} (x : A) → None ≡ Some x → ⊥
some_none x e = cc

both : {A : Type 0} (test : Bool) (x : Option A) (a : A) → (if test then x else None) ≡ Some a → (test ≡ true) × (x ≡ Some a)
both true x a e = (refl, e)
both false x a e = absurd (some_none a e)

value_small : (test : Bool) (v : ℕ) (n : ℕ) → nat_le v 2147483647 ≡ test → (if test then Some v else None) ≡ Some n → n < 2 ^ 31
value_small true v n is e =
    let same : v ≡ n = some_same e in
    let small : v < 2 ^ 31 = grind (arith, nat_tests, is) in
    omega (arith, small, same)
value_small false v n is e = absurd (some_none n e)

literal_small : (bytes : List ℕ) (value : Option ℕ) (z : ℤ) → literal_value bytes ≡ value → option_map pos value ≡ Some z → IsLiteral z
literal_small bytes None z is e = absurd (some_none z e)
literal_small bytes (Some n) z is e =
    let v : ℕ = digits_value 10 bytes in
    subst IsLiteral (some_same e) (value_small (nat_le v 2147483647) v n refl (both (is_decimal bytes) (int_of bytes) n is).1)

kind_small : (k : TokenKind) (bytes : List ℕ) → IsKind k bytes → KindIsInt k
kind_small (kind.Number n) bytes h = literal_small bytes (literal_value bytes) n refl h
kind_small (kind.Name text) bytes h = tt
kind_small (kind.Word k) bytes h = tt
kind_small (kind.Mark m) bytes h = tt

tokens_small : (place : ℕ) (parts : List Part) (rest : List ℕ) → AreParts parts rest → AllByRecursion (λ t. KindIsInt t.kind) (tokens_at place parts)
tokens_small place [] rest h = tt
tokens_small place (blank b ∷ ps) rest h = tokens_small (place + length (bytes_of (blank b))) ps rest h.1
tokens_small place (line_comment text ∷ ps) rest h = tokens_small (place + length (bytes_of (line_comment text))) ps rest h.1
tokens_small place (block_comment text ∷ ps) rest h = tokens_small (place + length (bytes_of (block_comment text))) ps rest h.1
tokens_small place (token k bytes ∷ ps) rest h = (kind_small k bytes h.0.0, tokens_small (place + length bytes) ps rest h.1)

piece_small : (t : Token) (p : Piece) → Is t p → KindIsInt t.kind → PieceIsInt p
piece_small t (anywhere k) is h = subst KindIsInt is h
piece_small t (placed k place) is h = subst KindIsInt (ap (λ (x : Token). x.kind) is) h
piece_small t (named n) is h = tt

pieces_small : (ts : List Token) (ps : List Piece) → Fit ts ps → AllByRecursion (λ t. KindIsInt t.kind) ts → AreInts ps
pieces_small [] [] fit h = tt
pieces_small [] (p ∷ ps) fit h = absurd fit
pieces_small (t ∷ ts) [] fit h = absurd fit
pieces_small (t ∷ ts) (p ∷ ps) fit h = (piece_small t p fit.0 h.0, pieces_small ts ps fit.1 h.1)

-- the pieces that a source's tokens spell
pub source_has_ints : (source : List ℕ) (tokens : List Token) (ps : List Piece) → Lex source tokens → Fit tokens ps → AreInts ps
source_has_ints source tokens ps lexed fit = pieces_small tokens ps fit (subst (AllByRecursion (λ t. KindIsInt t.kind)) lexed.told (tokens_small 0 lexed.parts [] lexed.stand))
