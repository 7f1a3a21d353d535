-- The tree of a list of tokens, and where a list of tokens has none: it is `Unexpected` where no program goes on so, and `TooDeep` where each that
-- does is too deep.
use Rattle.std.specs.Prelude.{ℕ, ◌+◌, ◌≡◌, ◌≤◌, ◌⊎◌, List, [], map, length, take, Some, slice_get}
use Rattle.cxx_ast.specs.declared.token.Token.{Token}
use Rattle.cxx_ast.specs.Plain.{Program}
use Rattle.cxx_ast.specs.Piece.{Fit, Begin}
use Rattle.cxx_ast.specs.Written.{Written, declared, spell_declarations}
use Rattle.cxx_ast.specs.Grammatical.{Each, IsGrammatical}
use Rattle.cxx_ast.specs.Limits.{most_depth}
use Rattle.cxx_ast.specs.Depth.{depth}

-- some declarations are those of the tree, are grammatical and are spelled by the tokens; the tree is not too deep, and has their number and the source's length
pub record Tree (tokens : List Token) (end : ℕ) (p : Program) : Type 0 where
  pub written : List Written
  pub declarations : map declared written ≡ p.declarations
  pub grammatical : Each IsGrammatical written
  pub spelled : Fit tokens (spell_declarations written [])
  pub depth : depth p.declarations ≤ most_depth
  pub tokens_counted : p.tokens ≡ length tokens
  pub length_kept : p.length ≡ end

-- some program that is at most so deep begins with the tokens
pub record IsViableWithin (limit : ℕ) (tokens : List Token) : Type 0 where
  pub written : List Written
  pub grammatical : Each IsGrammatical written
  pub shallow : depth (map declared written) ≤ limit
  pub begun : Begin tokens (spell_declarations written [])

-- some program of any depth begins with the tokens
abbrev pub IsViable : List Token → Type 0
IsViable tokens = (limit : ℕ) × IsViableWithin limit tokens

-- some program of any depth is just the tokens
pub record IsWhole (tokens : List Token) : Type 0 where
  pub written : List Written
  pub grammatical : Each IsGrammatical written
  pub spelled : Fit tokens (spell_declarations written [])

-- token number i stands at a place
abbrev pub StandsAt : List Token → ℕ → ℕ → Type 0
StandsAt tokens i place = (t : Token) × (slice_get tokens i ≡ Some t) × (t.place ≡ place)

-- a program begins with the tokens before the place, and none with the token there too; or the tokens begin programs and are none themselves
abbrev pub Unexpected : List Token → ℕ → ℕ → Type 0
Unexpected tokens end place =
    ((i : ℕ) × StandsAt tokens i place × IsViable (take i tokens) × (IsViable (take (i + 1) tokens) → ⊥))
    ⊎ ((place ≡ end) × IsViable tokens × (IsWhole tokens → ⊥))

-- programs begin with the tokens up to the one at the place, all of them too deep, and without it one is not
abbrev pub TooDeep : List Token → ℕ → Type 0
TooDeep tokens place =
    (i : ℕ) × StandsAt tokens i place × IsViableWithin most_depth (take i tokens) × IsViable (take (i + 1) tokens) × (IsViableWithin most_depth (take (i + 1) tokens) → ⊥)
