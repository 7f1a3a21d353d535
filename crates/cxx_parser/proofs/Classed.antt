-- States of classes that the tokens to come tell apart no more.
use Rattle.std.specs.Prelude.{ℕ, suc, ◌+◌, ◌-◌, ◌≤◌, ◌≡◌, false, List, [], ◌∷◌, ◌++◌, length, map, refl}
use Rattle.std.proofs.Common.{ap, arith}
use Rattle.std.proofs.lemmas.List.{map-append}
use Rattle.cxx_ast.specs.declared.declaration.Func.{Func}
use Rattle.cxx_ast.specs.declared.declaration.Decl.{Decl}
use Rattle.cxx_ast.specs.declared.keyword.Keyword.TheVariants as keyword
use Rattle.cxx_ast.specs.declared.mark.Mark.TheVariants as sign
use Rattle.cxx_ast.specs.declared.name.Name.{Name}
use Rattle.cxx_ast.specs.declared.token.Token.{Token}
use Rattle.cxx_ast.specs.declared.token.TokenKind.TheVariants as kind
use Rattle.cxx_ast.specs.Plain.{Declaration}
use Rattle.cxx_ast.specs.View.{function_of, declaration_of}
use Rattle.cxx_parser.specs.Classes.{feed_name, feed_class_colon, feed_member, begin_member}
use Rattle.cxx_parser.specs.Contexts.{OpenClass, of_base}
use Rattle.cxx_parser.specs.Gives.{begins}
use Rattle.cxx_parser.specs.Reading.{feed, read}
use Rattle.cxx_parser.specs.Signs.{is_mark, is_word}
use Rattle.cxx_parser.specs.States.{want_name, after_class_colon, in_class, want_member}
use Rattle.cxx_parser.proofs.Settled.{stepped}

-- no `public`
pub no_public : (total end : ℕ) (tokens : List Token) (n : Name) (ds : List Declaration) → begins tokens (kind.Word keyword.Public) ≡ false → read total end tokens (after_class_colon n ds) ≡ read total end tokens (want_name (of_base n ds))
unfolding read feed
no_public total end [] n ds i = refl
no_public total end (t ∷ ts) n ds i = ap (stepped total end t ts) (goes i)
  where
    goes : is_word keyword.Public t.kind ≡ false → feed_class_colon t n ds ≡ feed_name t (of_base n ds)
    goes i = rw i refl

-- another member
pub another_member : (total end : ℕ) (tokens : List Token) (c : OpenClass) → begins tokens (kind.Mark sign.CloseBrace) ≡ false → read total end tokens (in_class c) ≡ read total end tokens (want_member c)
unfolding read feed
another_member total end [] c i = refl
another_member total end (t ∷ ts) c i = ap (stepped total end t ts) (goes i)
  where
    goes : is_mark sign.CloseBrace t.kind ≡ false → feed_member (total - length (t ∷ ts)) t c ≡ begin_member (total - length (t ∷ ts)) t c
    goes i = rw i refl

-- the number of tokens before the name of a destructor
pub behind_tilde : (total n : ℕ) → suc n ≤ total → total - suc n + 1 ≡ total - n
behind_tilde total n h = omega arith

-- one function more, and one declaration more
pub mapped_last_function : (fs : List Func) (f : Func) → map function_of (fs ++ f ∷ []) ≡ map function_of fs ++ function_of f ∷ []
mapped_last_function fs f = map-append function_of fs (f ∷ [])

pub mapped_last_declaration : (ds : List Decl) (d : Decl) → map declaration_of (ds ++ d ∷ []) ≡ map declaration_of ds ++ declaration_of d ∷ []
mapped_last_declaration ds d = map-append declaration_of ds (d ∷ [])
