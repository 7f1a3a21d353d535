-- States of functions that the tokens to come tell apart no more, and numbers of tokens.
use Rattle.std.specs.Prelude.{ℕ, suc, ◌+◌, ◌-◌, ◌<◌, ◌≤◌, ◌≡◌, false, codes, List, [], ◌∷◌, ◌++◌, None, length, map, refl}
use Rattle.std.proofs.Common.{ap, arith}
use Rattle.std.proofs.lemmas.List.{map-append}
use Rattle.cxx_ast.specs.declared.declaration.Init.{Init}
use Rattle.cxx_ast.specs.declared.keyword.Keyword.TheVariants as keyword
use Rattle.cxx_ast.specs.declared.mark.Mark.TheVariants as sign
use Rattle.cxx_ast.specs.declared.token.Token.{Token}
use Rattle.cxx_ast.specs.declared.token.TokenKind.TheVariants as kind
use Rattle.cxx_ast.specs.declared.types.Ty.{Ty}
use Rattle.cxx_ast.specs.declared.types.Param.{Param}
use Rattle.cxx_ast.specs.View.{initialiser_of}
use Rattle.cxx_parser.specs.Contexts.{Heading, of_specification}
use Rattle.cxx_parser.specs.Functions.{feed_params, feed_signature, feed_throw_open}
use Rattle.cxx_parser.specs.Gives.{begins}
use Rattle.cxx_parser.specs.Headings.{signature_of}
use Rattle.cxx_parser.specs.Reading.{feed, read}
use Rattle.cxx_parser.specs.Signs.{is_mark, is_word, is_name}
use Rattle.cxx_parser.specs.States.{after_params, after_throw_open, have_signature, want_listed, have_listed, have_types}
use Rattle.cxx_parser.specs.Types.{begin_listed}
use Rattle.cxx_parser.proofs.Settled.{stepped}

-- the tokens from a function's first one to its end
pub tokens_between : (total left behind : ℕ) → behind < left → left ≤ total → (total - suc behind) + 1 - (total - left) ≡ left - behind
tokens_between total left behind h i = omega arith

-- no exception specification
pub no_specification : (total end : ℕ) (tokens : List Token) (ps : List Param) (h : Heading) → begins tokens (kind.Word keyword.Throw) ≡ false → begins tokens (kind.Name (codes "noexcept")) ≡ false → read total end tokens (after_params ps h) ≡ read total end tokens (have_signature (signature_of h ps false None))
unfolding read feed
no_specification total end [] ps h i j = refl
no_specification total end (t ∷ ts) ps h i j = ap (stepped total end t ts) (goes i j)
  where
    goes : is_word keyword.Throw t.kind ≡ false → is_name (codes "noexcept") t.kind ≡ false → feed_params (total - length (t ∷ ts)) t ps h ≡ feed_signature (total - length (t ∷ ts)) t (signature_of h ps false None)
    goes i j = rw (i, j) refl

-- the first type of an exception specification
pub first_type : (total end : ℕ) (tokens : List Token) (ps : List Param) (h : Heading) → begins tokens (kind.Mark sign.CloseParen) ≡ false → read total end tokens (after_throw_open ps h) ≡ read total end tokens (want_listed (of_specification [] ps h))
unfolding read feed
first_type total end [] ps h i = refl
first_type total end (t ∷ ts) ps h i = ap (stepped total end t ts) (goes i)
  where
    goes : is_mark sign.CloseParen t.kind ≡ false → feed_throw_open t ps h ≡ begin_listed t (of_specification [] ps h)
    goes i = rw i refl

-- a type of an exception specification was read
pub type_settles : (total end : ℕ) (tokens : List Token) (ty : Ty) (tys : List Ty) (ps : List Param) (h : Heading) → read total end tokens (have_listed ty (of_specification tys ps h)) ≡ read total end tokens (have_types (tys ++ (ty ∷ [])) ps h)
unfolding read feed
type_settles total end [] ty tys ps h = refl
type_settles total end (t ∷ ts) ty tys ps h = refl

-- one initialiser more
pub mapped_last_init : (is : List Init) (i : Init) → map initialiser_of (is ++ i ∷ []) ≡ map initialiser_of is ++ initialiser_of i ∷ []
mapped_last_init is i = map-append initialiser_of is (i ∷ [])
