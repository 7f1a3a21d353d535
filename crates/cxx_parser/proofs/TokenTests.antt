-- What tests of tokens tell.
use Rattle.std.proofs.Common.{rules, ℕ, ◌≡◌, Bool, true, false, List, ap, refl, arith}
use Rattle.std.proofs.lemmas.Slice.Eq.{bytes_eq-Decides}
use denote.Enum.Bare.{same_true}
use Rattle.cxx_ast.specs.declared.keyword.Keyword.{Keyword}
use Rattle.cxx_ast.specs.declared.mark.Mark.{Mark}
use Rattle.cxx_ast.specs.declared.token.TokenKind.{TokenKind}
use Rattle.cxx_ast.specs.declared.token.TokenKind.TheVariants as kind
use Rattle.cxx_ast.specs.contracts.keyword.Keyword.{the_type as keywords}
use Rattle.cxx_ast.specs.contracts.mark.Mark.{the_type as marks}
use Rattle.cxx_parser.specs.Signs.{is_mark, is_word, is_name}

pub mark_is : (m : Mark) (k : TokenKind) → is_mark m k ≡ true → k ≡ kind.Mark m
mark_is m (kind.Mark n) h = ap kind.Mark (same_true marks (search rules) n m h)
mark_is m (kind.Name text) h = cc
mark_is m (kind.Number n) h = cc
mark_is m (kind.Word w) h = cc

pub word_is : (w : Keyword) (k : TokenKind) → is_word w k ≡ true → k ≡ kind.Word w
word_is w (kind.Word v) h = ap kind.Word (same_true keywords (search rules) v w h)
word_is w (kind.Name text) h = cc
word_is w (kind.Number n) h = cc
word_is w (kind.Mark m) h = cc

pub name_is : (text : List ℕ) (k : TokenKind) → is_name text k ≡ true → k ≡ kind.Name text
name_is text (kind.Name other) h = ap kind.Name (grind (arith, bytes_eq-Decides))
name_is text (kind.Number n) h = cc
name_is text (kind.Word w) h = cc
name_is text (kind.Mark m) h = cc

-- what is not of a kind fails its test
pub not_mark : (m : Mark) (k : TokenKind) → (k ≡ kind.Mark m → ⊥) → is_mark m k ≡ false
not_mark m k h = go (is_mark m k) refl
  where
    go : (b : Bool) → is_mark m k ≡ b → is_mark m k ≡ false
    go true e = absurd (h (mark_is m k e))
    go false e = e

pub not_word : (w : Keyword) (k : TokenKind) → (k ≡ kind.Word w → ⊥) → is_word w k ≡ false
not_word w k h = go (is_word w k) refl
  where
    go : (b : Bool) → is_word w k ≡ b → is_word w k ≡ false
    go true e = absurd (h (word_is w k e))
    go false e = e
