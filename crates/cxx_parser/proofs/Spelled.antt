-- Declarations that were read.
use Rattle.std.specs.Prelude.{◌≡◌, List, [], map, length}
use Rattle.cxx_ast.specs.declared.token.Token.{Token}
use Rattle.cxx_ast.specs.Grammatical.{Each, IsStart}
use Rattle.cxx_ast.specs.Piece.{Fit}
use Rattle.cxx_ast.specs.Plain.{Function, Declaration}
use Rattle.cxx_ast.specs.Written.{Written, written_class, written_global, written_function, functions, declared, spell_function, spell_declarations}

-- a function has the number of its tokens
abbrev pub IsCounted : Function → Type 0
IsCounted f = f.tokens ≡ length (spell_function f [])

-- each function of a declaration has, and a global's literal has no sign
abbrev pub AreCounted : Written → Type 0
AreCounted (written_class n is_public base ms) = Each IsCounted (functions ms)
AreCounted (written_global n s) = IsStart s
AreCounted (written_function f) = IsCounted f

-- declarations as they were written are spelled by the tokens, and functions have their numbers of tokens
pub record IsSpelled (tokens : List Token) (ds : List Declaration) : Type 0 where
  pub written : List Written
  pub declarations : map declared written ≡ ds
  pub spelled : Fit tokens (spell_declarations written [])
  pub counted : Each AreCounted written
