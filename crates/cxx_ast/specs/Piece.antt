-- What a tree says of one token, and the tokens that do what it says.
use Rattle.std.specs.Prelude.{ℕ, ◌≡◌, List, [], ◌∷◌}
use Rattle.cxx_ast.specs.declared.name.Name.{Name}
use Rattle.cxx_ast.specs.declared.name.Bound.TheVariants.{Free}
use Rattle.cxx_ast.specs.declared.keyword.Keyword.{Keyword}
use Rattle.cxx_ast.specs.declared.mark.Mark.{Mark}
use Rattle.cxx_ast.specs.declared.token.Token.{Token}
use Rattle.cxx_ast.specs.declared.token.TokenKind.{TokenKind}
use Rattle.cxx_ast.specs.declared.token.TokenKind.TheVariants as kind

-- a token of a kind, anywhere; one at the place that the tree records; or a name of the tree
pub data Piece : Type 0 where
  anywhere : TokenKind → Piece
  placed : TokenKind → ℕ → Piece
  named : Name → Piece

-- a reserved word
abbrev pub word : Keyword → Piece
word k = anywhere (kind.Word k)

-- a mark
abbrev pub mark : Mark → Piece
mark m = anywhere (kind.Mark m)

-- a reserved word at its place
abbrev pub word_at : Keyword → ℕ → Piece
word_at k place = placed (kind.Word k) place

-- a mark at its place
abbrev pub mark_at : Mark → ℕ → Piece
mark_at m place = placed (kind.Mark m) place

-- a token is as a piece says. In a tree that was read no name is bound.
abbrev pub Is : Token → Piece → Type 0
Is t (anywhere k) = t.kind ≡ k
Is t (placed k place) = t ≡ record { kind = k; place = place }
Is t (named n) = (t ≡ record { kind = kind.Name n.text; place = n.place }) × (n.bound ≡ Free)

-- tokens are as pieces say, one by one
abbrev pub Fit : List Token → List Piece → Type 0
Fit [] [] = Unit {0}
Fit [] (p ∷ ps) = ⊥
Fit (t ∷ ts) [] = ⊥
Fit (t ∷ ts) (p ∷ ps) = Is t p × Fit ts ps

-- tokens are as the first of some pieces say
abbrev pub Begin : List Token → List Piece → Type 0
Begin [] ps = Unit {0}
Begin (t ∷ ts) [] = ⊥
Begin (t ∷ ts) (p ∷ ps) = Is t p × Begin ts ps
