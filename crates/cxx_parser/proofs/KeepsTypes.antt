-- What holds of a type's or a parameter's state holds with a token more.
use Rattle.std.specs.Prelude.{ℕ, ◌+◌, ◌≡◌, Bool, true, false, List, [], ◌∷◌, ◌++◌, codes, Option, Some, None, refl, if◌then◌else◌}
use Rattle.std.proofs.Common.{ap, sym, ◌∙◌}
use Rattle.cxx_ast.specs.declared.keyword.Keyword.TheVariants as keyword
use Rattle.cxx_ast.specs.declared.mark.Mark.TheVariants as sign
use Rattle.cxx_ast.specs.declared.name.Name.{Name}
use Rattle.cxx_ast.specs.declared.token.Token.{Token}
use Rattle.cxx_ast.specs.declared.token.TokenKind.TheVariants as kind
use Rattle.cxx_ast.specs.declared.types.Ty.{Ty}
use Rattle.cxx_ast.specs.declared.types.Ty.TheVariants.{Int, Void, Object, IntRef, ObjectRef}
use Rattle.cxx_ast.specs.declared.types.Param.{Param}
use Rattle.cxx_ast.specs.Grammatical.{NotEmpty, IsListedType}
use Rattle.cxx_ast.specs.Piece.{Piece, Is, named, word, mark, word_at, mark_at, anywhere}
use Rattle.cxx_ast.specs.Spelling.{is_bad_exception, spell_class, spell_type, spell_param, spell_caught, first_at}
use Rattle.cxx_ast.specs.Written.{spell_params, spell_more_params, spell_types, spell_more_types}
use Rattle.cxx_parser.specs.Contexts.{Heading, InTry, in_try, InType, of_param, of_local, InListed, of_specification, of_caught, of_const_caught, of_referred}
use Rattle.cxx_parser.specs.Signs.{plain_name, class_of, name_of}
use Rattle.cxx_parser.specs.States.{State, expect, want_name, after_const, after_value_type, have_type, have_listed, have_types, want_caught, have_caught, want_param, have_param, Step, stops, leads}
use Rattle.cxx_parser.specs.Types.{reference_to, bad_exception, feed_param, feed_type, feed_value_type, feed_const, begin_param, begin_listed, handler_body, feed_caught, feed_types, feed_listed, begin_caught}
use Rattle.cxx_parser.proofs.Before.{spell_heading, spell_given_params, spell_given_types, before_try, before_type, before_listed, site_of, try_heading, listed_heading}
use Rattle.cxx_parser.proofs.Held.{Fits, after, Within, Holds, before_listed_type}
use Rattle.cxx_parser.proofs.KeepsExpressions.{not_empty}
use Rattle.cxx_parser.proofs.Steps.{Where, step, restate, on_mark_holds, if_mark, if_word, placed_is, named_is, on_name}

-- the last of some parameters, and of some types
more_params_last : (ps : List Param) (p : Param) (x : List Piece) → spell_more_params (ps ++ (p ∷ [])) x ≡ mark sign.Comma ∷ spell_given_params ps (spell_param p x)
more_params_last [] p x = refl
more_params_last (q ∷ ps) p x = ap (λ y. mark sign.Comma ∷ spell_param q y) (more_params_last ps p x)

pub params_last : (ps : List Param) (p : Param) (x : List Piece) → spell_given_params ps (spell_param p x) ≡ spell_params (ps ++ (p ∷ [])) x
params_last [] p x = refl
params_last (q ∷ ps) p x = sym (ap (spell_param q) (more_params_last ps p x))

more_params_comma : (ps : List Param) (x : List Piece) → spell_more_params ps (mark sign.Comma ∷ x) ≡ mark sign.Comma ∷ spell_given_params ps x
more_params_comma [] x = refl
more_params_comma (q ∷ ps) x = ap (λ y. mark sign.Comma ∷ spell_param q y) (more_params_comma ps x)

pub params_comma : (ps : List Param) → NotEmpty ps → (x : List Piece) → spell_params ps (mark sign.Comma ∷ x) ≡ spell_given_params ps x
params_comma [] h x = absurd h
params_comma (p ∷ ps) h x = ap (spell_param p) (more_params_comma ps x)

more_types_last : (ts : List Ty) (t : Ty) (x : List Piece) → spell_more_types (ts ++ (t ∷ [])) x ≡ mark sign.Comma ∷ spell_given_types ts (spell_type t x)
more_types_last [] t x = refl
more_types_last (u ∷ ts) t x = ap (λ y. mark sign.Comma ∷ spell_type u y) (more_types_last ts t x)

pub types_last : (ts : List Ty) (t : Ty) (x : List Piece) → spell_given_types ts (spell_type t x) ≡ spell_types (ts ++ (t ∷ [])) x
types_last [] t x = refl
types_last (u ∷ ts) t x = sym (ap (spell_type u) (more_types_last ts t x))

more_types_comma : (ts : List Ty) (x : List Piece) → spell_more_types ts (mark sign.Comma ∷ x) ≡ mark sign.Comma ∷ spell_given_types ts x
more_types_comma [] x = refl
more_types_comma (u ∷ ts) x = ap (λ y. mark sign.Comma ∷ spell_type u y) (more_types_comma ts x)

pub types_comma : (ts : List Ty) → NotEmpty ts → (x : List Piece) → spell_types ts (mark sign.Comma ∷ x) ≡ spell_given_types ts x
types_comma [] h x = absurd h
types_comma (t ∷ ts) h x = ap (spell_type t) (more_types_comma ts x)

-- a class's name that is plain spells the class
pub plain_class : (n : Name) → is_bad_exception n ≡ false → (x : List Piece) → named n ∷ x ≡ spell_class n x
plain_class n h x = sym (rw h refl)

-- a token that is the name of a class
pub on_class : (Q : State → Type 1) (t : Token) (f : Name → Step) → ((n : Name) → Is t (named n) → is_bad_exception n ≡ false → Where Q (f n)) → Where Q (elim (class_of t) [ Some n ↦ f n | None ↦ stops ])
on_class Q t f g = go (name_of t) (λ n e. named_is t.kind t.place n e)
  where
    pick : (n : Name) → Is t (named n) → (b : Bool) → is_bad_exception n ≡ b → Where Q (elim (if b then None else Some n) [ Some m ↦ f m | None ↦ stops ])
    pick n is true e = tt
    pick n is false e = g n is e

    go : (o : Option Name) → ((n : Name) → o ≡ Some n → Is t (named n)) → Where Q (elim (plain_name o) [ Some n ↦ f n | None ↦ stops ])
    go (Some n) h = pick n (h n refl) (is_bad_exception n) refl
    go None h = tt

-- a token behind parameters
pub feed_param-holds : (n : ℕ) (F : Fits) (t : Token) (ps : List Param) (h : Heading) → Holds n F (have_param ps h) → Where (Holds (n + 1) (after t F)) (feed_param t ps h)
feed_param-holds n F t ps h w =
    if_mark (Holds (n + 1) (after t F)) sign.Comma t _ _
    (λ is. restate (λ x. spell_heading h (spell_given_params ps x)) _ (λ x. ap (spell_heading h) (params_comma ps w.fine x)) tt (step t (mark sign.Comma) (Unit {0}) is tt w))
    (on_mark_holds (Holds (n + 1) (after t F)) sign.CloseParen t _ (λ is. step t (mark sign.CloseParen) _ is tt w))

-- a parameter behind others
params_hold : (n : ℕ) (F : Fits) (ps : List Param) (h : Heading) (p : Param) → Within n F (site_of h) (λ x. spell_heading h (spell_given_params ps (spell_param p x))) (Unit {0}) → Holds n F (have_param (ps ++ (p ∷ [])) h)
params_hold n F ps h p w = restate (λ x. spell_heading h (spell_params (ps ++ (p ∷ [])) x)) _ (λ x. ap (spell_heading h) (params_last ps p x)) (not_empty ps p) w

-- a token behind a type
pub feed_type-holds : (n : ℕ) (F : Fits) (t : Token) (ty : Ty) (W : InType) → Holds n F (have_type ty W) → Where (Holds (n + 1) (after t F)) (feed_type t ty W)
feed_type-holds n F t ty (of_param ps h) w =
    on_name (Holds (n + 1) (after t F)) t (λ m. leads (have_param (ps ++ (record { ty = ty; name = Some m } ∷ [])) h)) _
    (λ m is. params_hold (n + 1) (after t F) ps h (record { ty = ty; name = Some m }) (step t (named m) (Unit {0}) is tt w))
    (feed_param-holds n F t (ps ++ (record { ty = ty; name = None } ∷ [])) h (params_hold n F ps h (record { ty = ty; name = None }) w))
feed_type-holds n F t ty (of_local C) w =
    on_name (Holds (n + 1) (after t F)) t (λ m. leads (expect (kind.Mark sign.Assign) (want_name (of_referred (record { ty = ty; name = Some m }) C)))) _
    (λ m is. λ u i. step u (mark sign.Assign) _ i tt (step t (named m) (Unit {0}) is tt w)) tt

pub feed_value_type-holds : (n : ℕ) (F : Fits) (t : Token) (W : InType) → Holds n F (after_value_type Int W) → Where (Holds (n + 1) (after t F)) (feed_value_type t Int W)
feed_value_type-holds n F t W w =
    if_mark (Holds (n + 1) (after t F)) sign.Amp t _ _ (λ is. step t (mark sign.Amp) _ is tt w) (feed_type-holds n F t Int W (restate _ _ (λ x. refl) tt w))

pub feed_const-holds : (n : ℕ) (F : Fits) (t : Token) (W : InType) → Holds n F (after_const W) → Where (Holds (n + 1) (after t F)) (feed_const t W)
feed_const-holds n F t W w =
    if_word (Holds (n + 1) (after t F)) keyword.Int t _ _ (λ is. λ u i. step u (mark sign.Amp) _ i tt (step t (word keyword.Int) (Unit {0}) is tt w))
    (on_class (Holds (n + 1) (after t F)) t (λ m. leads (expect (kind.Mark sign.Amp) (have_type (ObjectRef true m) W)))
    (λ m is plain. λ u i. restate (λ x. before_type W (spell_type (ObjectRef true m) x)) _ (λ x. ap (λ y. before_type W (word keyword.Const ∷ y)) (plain_class m plain (mark sign.Amp ∷ x))) tt
    (step u (mark sign.Amp) (Unit {0}) i tt (step t (named m) (Unit {0}) is tt w))))

pub begin_param-holds : (n : ℕ) (F : Fits) (t : Token) (ps : List Param) (h : Heading) → Holds n F (want_param ps h) → Where (Holds (n + 1) (after t F)) (begin_param t ps h)
begin_param-holds n F t ps h w =
    if_word (Holds (n + 1) (after t F)) keyword.Const t _ _ (λ is. step t (word keyword.Const) _ is tt w)
    (if_word (Holds (n + 1) (after t F)) keyword.Int t _ _ (λ is. step t (word keyword.Int) _ is refl w)
    (on_class (Holds (n + 1) (after t F)) t (λ m. leads (expect (kind.Mark sign.Amp) (have_type (ObjectRef false m) (of_param ps h))))
    (λ m is plain. λ u i. restate (λ x. before_type (of_param ps h) (spell_type (ObjectRef false m) x)) _ (λ x. ap (before_type (of_param ps h)) (plain_class m plain (mark sign.Amp ∷ x))) tt
    (step u (mark sign.Amp) (Unit {0}) i tt (step t (named m) (Unit {0}) is tt w)))))

-- a handler without `const` stands at the first token of its type
abbrev pub Fresh : Token → InListed → Type 0
Fresh t (of_caught place T) = place ≡ t.place
Fresh t _ = Unit {0}

-- a listed type that is one token
listed_word : (n : ℕ) (F : Fits) (t : Token) (L : InListed) → t.kind ≡ kind.Word keyword.Int → Fresh t L → Within n F (site_of (listed_heading L)) (before_listed L) (Unit {0}) → Holds (n + 1) (after t F) (have_listed Int L)
listed_word n F t (of_specification tys ps h) is f w = step t (word keyword.Int) _ is tt w
listed_word n F t (of_caught place T) is f w = step t (word_at keyword.Int place) _ (placed_is t (kind.Word keyword.Int) is ∙ ap (λ p. at p) (sym f)) tt w
  where
    at : ℕ → Token
    at p = record { kind = kind.Word keyword.Int; place = p }
listed_word n F t (of_const_caught place T) is f w = step t (word keyword.Int) _ is tt w

-- a listed type that is a class's name
listed_class : (n : ℕ) (F : Fits) (t : Token) (m : Name) (L : InListed) → Is t (named m) → is_bad_exception m ≡ false → Within n F (site_of (listed_heading L)) (before_listed L) (Unit {0}) → Holds (n + 1) (after t F) (have_listed (Object m) L)
listed_class n F t m (of_specification tys ps h) is plain w =
    restate (before_listed_type (of_specification tys ps h) (Object m)) _ (λ x. ap (before_listed (of_specification tys ps h)) (plain_class m plain x)) is.1 (step t (named m) (Unit {0}) is tt w)
listed_class n F t m (of_caught place T) is plain w =
    restate (before_listed_type (of_caught place T) (Object m)) _ (λ x. ap (λ y. before_listed (of_caught place T) (first_at place y)) (plain_class m plain x)) is.1 (step t (named m) (Unit {0}) is tt w)
listed_class n F t m (of_const_caught place T) is plain w =
    restate (before_listed_type (of_const_caught place T) (Object m)) _ (λ x. ap (before_listed (of_const_caught place T)) (plain_class m plain x)) is.1 (step t (named m) (Unit {0}) is tt w)

-- `std::bad_exception`
listed_bad : (n : ℕ) (F : Fits) (t : Token) (L : InListed) → t.kind ≡ kind.Word keyword.Std → Within n F (site_of (listed_heading L)) (before_listed L) (Unit {0}) → Holds (n + 1) (after t F) (expect (kind.Mark sign.ColonColon) (expect (kind.Name (codes "bad_exception")) (have_listed (Object (bad_exception t.place)) L)))
listed_bad n F t (of_specification tys ps h) is w = λ u i v j.
    step v (anywhere (kind.Name (codes "bad_exception"))) _ j refl (step u (mark sign.ColonColon) (Unit {0}) i tt (step t (word_at keyword.Std t.place) (Unit {0}) (placed_is t (kind.Word keyword.Std) is) tt w))
listed_bad n F t (of_caught place T) is w = λ u i v j.
    step v (anywhere (kind.Name (codes "bad_exception"))) _ j refl (step u (mark sign.ColonColon) (Unit {0}) i tt (step t (word_at keyword.Std t.place) (Unit {0}) (placed_is t (kind.Word keyword.Std) is) tt w))
listed_bad n F t (of_const_caught place T) is w = λ u i v j.
    step v (anywhere (kind.Name (codes "bad_exception"))) _ j refl (step u (mark sign.ColonColon) (Unit {0}) i tt (step t (word_at keyword.Std t.place) (Unit {0}) (placed_is t (kind.Word keyword.Std) is) tt w))

pub begin_listed-holds : (n : ℕ) (F : Fits) (t : Token) (L : InListed) → Fresh t L → Within n F (site_of (listed_heading L)) (before_listed L) (Unit {0}) → Where (Holds (n + 1) (after t F)) (begin_listed t L)
begin_listed-holds n F t L f w =
    if_word (Holds (n + 1) (after t F)) keyword.Int t _ _ (λ is. listed_word n F t L is f w)
    (if_word (Holds (n + 1) (after t F)) keyword.Std t _ _ (λ is. listed_bad n F t L is w)
    (on_class (Holds (n + 1) (after t F)) t (λ m. leads (have_listed (Object m) L)) (λ m is plain. listed_class n F t m L is plain w)))

-- a token behind the types of a specification
pub feed_types-holds : (n : ℕ) (F : Fits) (t : Token) (tys : List Ty) (ps : List Param) (h : Heading) → Holds n F (have_types tys ps h) → Where (Holds (n + 1) (after t F)) (feed_types t tys ps h)
feed_types-holds n F t tys ps h w =
    if_mark (Holds (n + 1) (after t F)) sign.Comma t _ _
    (λ is. restate (before_listed (of_specification tys ps h)) _ (λ x. ap (λ y. spell_heading h (spell_params ps (mark sign.CloseParen ∷ word keyword.Throw ∷ mark sign.OpenParen ∷ y))) (types_comma tys w.fine x)) tt (step t (mark sign.Comma) (Unit {0}) is tt w))
    (on_mark_holds (Holds (n + 1) (after t F)) sign.CloseParen t _ (λ is. step t (mark sign.CloseParen) _ is refl w))

-- the body of a handler
pub handler_holds : (n : ℕ) (F : Fits) (ty : Option Ty) (name : Option Name) (place : ℕ) (T : InTry) → Within n F (site_of (try_heading T)) (λ x. before_try T (word keyword.Catch ∷ mark sign.OpenParen ∷ spell_caught place ty name (mark sign.CloseParen ∷ x))) (Unit {0}) → Holds n F (handler_body ty name place T)
handler_holds n F ty name place (in_try ss cs depth C) w = λ u i. step u (mark sign.OpenBrace) _ i tt w

-- a token behind the type that a handler catches
pub feed_caught-holds : (n : ℕ) (F : Fits) (t : Token) (ty : Ty) (place : ℕ) (T : InTry) → Holds n F (have_caught ty place T) → Where (Holds (n + 1) (after t F)) (feed_caught t ty place T)
feed_caught-holds n F t ty place T w =
    on_name (Holds (n + 1) (after t F)) t (λ m. leads (expect (kind.Mark sign.CloseParen) (handler_body (Some ty) (Some m) place T))) _
    (λ m is. λ u i. handler_holds (n + 1 + 1) (after u (after t F)) (Some ty) (Some m) place T (step u (mark sign.CloseParen) (Unit {0}) i tt (step t (named m) (Unit {0}) is tt w)))
    (on_mark_holds (Holds (n + 1) (after t F)) sign.CloseParen t _ (λ is. handler_holds (n + 1) (after t F) (Some ty) None place T (step t (mark sign.CloseParen) (Unit {0}) is tt w)))

-- a reference is spelled as its type with `&`, behind `const` where it refers to that
reference_spelled : (ty : Ty) → IsListedType ty → (x : List Piece) → spell_type ty (mark sign.Amp ∷ x) ≡ spell_type (reference_to false ty) x
reference_spelled Int h x = refl
reference_spelled (Object m) h x = refl
reference_spelled Void h x = absurd h
reference_spelled (IntRef c) h x = absurd h
reference_spelled (ObjectRef c m) h x = absurd h

const_spelled : (ty : Ty) → IsListedType ty → (place : ℕ) (x : List Piece) → word_at keyword.Const place ∷ spell_type ty (mark sign.Amp ∷ x) ≡ first_at place (spell_type (reference_to true ty) x)
const_spelled Int h place x = refl
const_spelled (Object m) h place x = refl
const_spelled Void h place x = absurd h
const_spelled (IntRef c) h place x = absurd h
const_spelled (ObjectRef c m) h place x = absurd h

-- a token behind a type of a list
pub feed_listed-holds : (n : ℕ) (F : Fits) (t : Token) (ty : Ty) (L : InListed) → Holds n F (have_listed ty L) → Where (Holds (n + 1) (after t F)) (feed_listed t ty L)
feed_listed-holds n F t ty (of_specification tys ps h) w =
    feed_types-holds n F t (tys ++ (ty ∷ [])) ps h
    (restate (λ x. spell_heading h (spell_params ps (mark sign.CloseParen ∷ word keyword.Throw ∷ mark sign.OpenParen ∷ spell_types (tys ++ (ty ∷ [])) x))) _
    (λ x. ap (λ y. spell_heading h (spell_params ps (mark sign.CloseParen ∷ word keyword.Throw ∷ mark sign.OpenParen ∷ y))) (types_last tys ty x)) (not_empty tys ty) w)
feed_listed-holds n F t ty (of_caught place T) w =
    if_mark (Holds (n + 1) (after t F)) sign.Amp t _ _
    (λ is. restate (λ x. before_try T (word keyword.Catch ∷ mark sign.OpenParen ∷ first_at place (spell_type (reference_to false ty) x))) _
    (λ x. ap (λ y. before_try T (word keyword.Catch ∷ mark sign.OpenParen ∷ first_at place y)) (reference_spelled ty w.fine x)) tt (step t (mark sign.Amp) (Unit {0}) is tt w))
    (feed_caught-holds n F t ty place T (restate _ _ (λ x. refl) tt w))
feed_listed-holds n F t ty (of_const_caught place T) w =
    on_mark_holds (Holds (n + 1) (after t F)) sign.Amp t _
    (λ is. restate (λ x. before_try T (word keyword.Catch ∷ mark sign.OpenParen ∷ first_at place (spell_type (reference_to true ty) x))) _
    (λ x. ap (λ y. before_try T (word keyword.Catch ∷ mark sign.OpenParen ∷ y)) (const_spelled ty w.fine place x)) tt (step t (mark sign.Amp) (Unit {0}) is tt w))

-- the first token of what a handler catches
pub begin_caught-holds : (n : ℕ) (F : Fits) (t : Token) (T : InTry) → Holds n F (want_caught T) → Where (Holds (n + 1) (after t F)) (begin_caught t T)
begin_caught-holds n F t T w =
    if_mark (Holds (n + 1) (after t F)) sign.Ellipsis t _ _
    (λ is. λ u i. handler_holds (n + 1 + 1) (after u (after t F)) None None t.place T (step u (mark sign.CloseParen) (Unit {0}) i tt (step t (mark_at sign.Ellipsis t.place) (Unit {0}) (placed_is t (kind.Mark sign.Ellipsis) is) tt w)))
    (if_word (Holds (n + 1) (after t F)) keyword.Const t _ _ (λ is. step t (word_at keyword.Const t.place) _ (placed_is t (kind.Word keyword.Const) is) tt w)
    (begin_listed-holds n F t (of_caught t.place T) refl (restate _ _ (λ x. refl) tt w)))
