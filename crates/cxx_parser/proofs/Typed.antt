-- States of types and parameters that the tokens to come tell apart no more.
use Rattle.std.specs.Prelude.{ℕ, ◌≡◌, false, List, [], ◌∷◌, ◌++◌, None, refl}
use Rattle.std.proofs.Common.{ap}
use Rattle.cxx_ast.specs.declared.mark.Mark.TheVariants as sign
use Rattle.cxx_ast.specs.declared.keyword.Keyword.TheVariants as keyword
use Rattle.cxx_ast.specs.declared.token.Token.{Token}
use Rattle.cxx_ast.specs.declared.token.TokenKind.TheVariants as kind
use Rattle.cxx_ast.specs.declared.types.Ty.{Ty}
use Rattle.cxx_ast.specs.declared.types.Param.{Param}
use Rattle.cxx_parser.specs.Contexts.{Heading, InType, of_param, InTry, of_caught}
use Rattle.cxx_parser.specs.Gives.{begins, first_name, place_at}
use Rattle.cxx_parser.specs.Reading.{feed, read}
use Rattle.cxx_parser.specs.Signs.{is_mark, is_word, name_of}
use Rattle.cxx_parser.specs.States.{want_listed, have_listed, want_caught, have_caught, after_value_type, have_type, after_params_open, want_param, have_param}
use Rattle.cxx_parser.specs.Types.{begin_caught, begin_listed, feed_listed, feed_caught, feed_type, feed_value_type, feed_param, begin_param}
use Rattle.cxx_parser.specs.Functions.{feed_params_open}
use Rattle.cxx_parser.proofs.Settled.{stepped}

-- a type that is no reference
pub value_type_ends : (total end : ℕ) (tokens : List Token) (ty : Ty) (W : InType) → begins tokens (kind.Mark sign.Amp) ≡ false → read total end tokens (after_value_type ty W) ≡ read total end tokens (have_type ty W)
unfolding read feed
value_type_ends total end [] ty W h = refl
value_type_ends total end (t ∷ ts) ty W h = ap (stepped total end t ts) (ends h)
  where
    ends : is_mark sign.Amp t.kind ≡ false → feed_value_type t ty W ≡ feed_type t ty W
    ends h = rw h refl

-- a parameter without a name
pub type_ends : (total end : ℕ) (tokens : List Token) (ty : Ty) (ps : List Param) (h : Heading) → first_name tokens ≡ None → read total end tokens (have_type ty (of_param ps h)) ≡ read total end tokens (have_param (ps ++ (record { ty = ty; name = None } ∷ [])) h)
unfolding read feed
type_ends total end [] ty ps h i = refl
type_ends total end (t ∷ ts) ty ps h i = ap (stepped total end t ts) (ends i)
  where
    ends : name_of t ≡ None → feed_type t ty (of_param ps h) ≡ feed_param t (ps ++ (record { ty = ty; name = None } ∷ [])) h
    ends i = rw (i, feed_type) refl

-- the first of some parameters
pub first_parameter : (total end : ℕ) (tokens : List Token) (h : Heading) → begins tokens (kind.Mark sign.CloseParen) ≡ false → read total end tokens (after_params_open h) ≡ read total end tokens (want_param [] h)
unfolding read feed
first_parameter total end [] h i = refl
first_parameter total end (t ∷ ts) h i = ap (stepped total end t ts) (opens i)
  where
    opens : is_mark sign.CloseParen t.kind ≡ false → feed_params_open t h ≡ begin_param t [] h
    opens i = rw i refl

-- what a handler catches without `const`
pub caught_begins : (total end : ℕ) (tokens : List Token) (T : InTry) → begins tokens (kind.Mark sign.Ellipsis) ≡ false → begins tokens (kind.Word keyword.Const) ≡ false → read total end tokens (want_caught T) ≡ read total end tokens (want_listed (of_caught (place_at tokens end) T))
unfolding read feed
caught_begins total end [] T h i = refl
caught_begins total end (t ∷ ts) T h i = ap (stepped total end t ts) (goes h i)
  where
    goes : is_mark sign.Ellipsis t.kind ≡ false → is_word keyword.Const t.kind ≡ false → begin_caught t T ≡ begin_listed t (of_caught t.place T)
    goes h i = rw (h, i) refl

-- no reference is caught
pub listed_ends : (total end : ℕ) (tokens : List Token) (ty : Ty) (place : ℕ) (T : InTry) → begins tokens (kind.Mark sign.Amp) ≡ false → read total end tokens (have_listed ty (of_caught place T)) ≡ read total end tokens (have_caught ty place T)
unfolding read feed
listed_ends total end [] ty place T h = refl
listed_ends total end (t ∷ ts) ty place T h = ap (stepped total end t ts) (ends h)
  where
    ends : is_mark sign.Amp t.kind ≡ false → feed_listed t ty (of_caught place T) ≡ feed_caught t ty place T
    ends h = rw (h, feed_listed) refl
