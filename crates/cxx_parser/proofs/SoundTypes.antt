-- What is read of types and parameters is grammatical, with a token more.
use Rattle.cxx_ast.specs.Plain.{listed}
use Rattle.std.specs.Prelude.{ℕ, ◌≡◌, Bool, true, false, List, [], ◌∷◌, ◌++◌, Option, Some, None, refl, if◌then◌else◌}
use Rattle.std.proofs.Common.{sym, ◌∙◌, subst}
use Rattle.cxx_ast.specs.declared.declaration.FuncKind.TheVariants.{Plain, Method, Constructor, Destructor}
use Rattle.cxx_ast.specs.declared.declaration.FuncKind.{FuncKind}
use Rattle.cxx_ast.specs.declared.keyword.Keyword.TheVariants as keyword
use Rattle.cxx_ast.specs.declared.mark.Mark.TheVariants as sign
use Rattle.cxx_ast.specs.declared.name.Name.{Name}
use Rattle.cxx_ast.specs.declared.name.Bound.TheVariants.{Free}
use Rattle.cxx_ast.specs.declared.token.Token.{Token}
use Rattle.cxx_ast.specs.declared.token.TokenKind.{TokenKind}
use Rattle.cxx_ast.specs.declared.token.TokenKind.TheVariants as kind
use Rattle.cxx_ast.specs.declared.types.Ty.{Ty}
use Rattle.cxx_ast.specs.declared.types.Ty.TheVariants.{Int, Void, Object, IntRef, ObjectRef}
use Rattle.cxx_ast.specs.declared.types.Param.{Param}
use Rattle.cxx_ast.specs.Grammatical.{Each, IsParam, IsListedType, IsCaught}
use Rattle.cxx_ast.specs.Spelling.{is_bad_exception}
use Rattle.cxx_parser.specs.Contexts.{Heading, Signature, InTry, in_try, InType, of_param, of_local, InListed, of_specification, of_caught, of_const_caught, of_referred}
use Rattle.cxx_parser.specs.Signs.{is_mark, is_word, plain_name, class_of, name_at, name_of}
use Rattle.cxx_parser.specs.States.{State, expect, want_name, after_const, after_value_type, have_type, have_listed, want_caught, have_caught, want_param, have_param, have_signature, Step, stops, leads}
use Rattle.cxx_parser.specs.Types.{reference_to, bad_exception, feed_param, feed_type, feed_value_type, feed_const, begin_param, begin_listed, handler_body, feed_caught, feed_types, feed_listed, begin_caught}
use Rattle.cxx_parser.proofs.Sound.{SoundTry, SoundParams, SoundType, SoundListed, HasParts, Sound}
use Rattle.cxx_parser.proofs.SoundExpressions.{each_last}
use Rattle.cxx_parser.proofs.SoundSteps.{Wherever, on_mark_sound, if_sound, on_name_sound}

-- a token that is the name of a class: no name is bound, and it stands at the token's place
pub record ClassNamed (t : Token) (n : Name) : Type 0 where
  pub plain : is_bad_exception n ≡ false
  pub free : n.bound ≡ Free
  pub place : n.place ≡ t.place

pub some_same : (a b : Name) → Some a ≡ Some b → a ≡ b
some_same a b e = cc

named_free : (k : TokenKind) (place : ℕ) (n : Name) → name_at k place ≡ Some n → (n.bound ≡ Free) × (n.place ≡ place)
named_free (kind.Name text) place n e =
    let h : record { text = text; place = place; bound = Free } ≡ n = some_same (record { text = text; place = place; bound = Free }) n e in
    subst (λ (m : Name). (m.bound ≡ Free) × (m.place ≡ place)) h (refl, refl)
named_free (kind.Number v) place n e = cc
named_free (kind.Word w) place n e = cc
named_free (kind.Mark m) place n e = cc

pub on_class_sound : (limit : ℕ) → (Q : State → Type 0) (t : Token) (f : Name → Step) → ((n : Name) → ClassNamed t n → Wherever limit Q (f n)) → Wherever limit Q (elim (class_of t) [ Some n ↦ f n | None ↦ stops ])
on_class_sound limit Q t f g = go (name_of t) (λ n e. named_free t.kind t.place n e)
  where
    pick : (n : Name) → (n.bound ≡ Free) × (n.place ≡ t.place) → (b : Bool) → is_bad_exception n ≡ b → Wherever limit Q (elim (if b then None else Some n) [ Some m ↦ f m | None ↦ stops ])
    pick n is true e = tt
    pick n is false e = g n (record { plain = e; free = is.0; place = is.1 })

    go : (o : Option Name) → ((n : Name) → o ≡ Some n → (n.bound ≡ Free) × (n.place ≡ t.place)) → Wherever limit Q (elim (plain_name o) [ Some n ↦ f n | None ↦ stops ])
    go (Some n) h = pick n (h n refl) (is_bad_exception n) refl
    go None h = tt

pub feed_param-sound : (limit : ℕ) → (t : Token) (ps : List Param) (h : Heading) → Sound limit (have_param ps h) → Wherever limit (Sound limit) (feed_param t ps h)
feed_param-sound limit t ps h s = if_sound limit (Sound limit) (is_mark sign.Comma t.kind) _ _ s (on_mark_sound limit (Sound limit) (is_mark sign.CloseParen t.kind) _ (s.0, s.1, λ d. absurd (s.2 d)))

pub feed_type-sound : (limit : ℕ) → (t : Token) (ty : Ty) (W : InType) → Sound limit (have_type ty W) → Wherever limit (Sound limit) (feed_type t ty W)
feed_type-sound limit t ty (of_param ps h) s =
    on_name_sound limit (Sound limit) (name_of t) (λ m. leads (have_param (ps ++ (record { ty = ty; name = Some m } ∷ [])) h)) _
    (λ m. (each_last IsParam ps (record { ty = ty; name = Some m }) s.1.0 s.0, s.1.1, s.1.2))
    (feed_param-sound limit t (ps ++ (record { ty = ty; name = None } ∷ [])) h (each_last IsParam ps (record { ty = ty; name = None }) s.1.0 s.0, s.1.1, s.1.2))
feed_type-sound limit t ty (of_local C) s =
    on_name_sound limit (Sound limit) (name_of t) (λ m. leads (expect (kind.Mark sign.Assign) (want_name (of_referred (record { ty = ty; name = Some m }) C)))) _ (λ m. (refl, (s.0, tt, s.1.0, s.1.1, s.1.2))) tt

pub feed_value_type-sound : (limit : ℕ) → (t : Token) (ty : Ty) (W : InType) → Sound limit (after_value_type ty W) → Wherever limit (Sound limit) (feed_value_type t ty W)
feed_value_type-sound limit t ty (of_local C) s = absurd s
feed_value_type-sound limit t ty (of_param ps h) s =
    let P : Ty → Type 0 = λ ty. Wherever limit (Sound limit) (feed_value_type t ty (of_param ps h)) in
    subst P (sym s.0) (if_sound limit (Sound limit) (is_mark sign.Amp t.kind) _ _ (tt, s.1) (feed_type-sound limit t Int (of_param ps h) (tt, s.1)))

fits_reference : (limit : ℕ) → (W : InType) (const : Bool) (m : Name) (C : SoundType limit W) → is_bad_exception m ≡ false → Sound limit (have_type (ObjectRef const m) W)
fits_reference limit (of_param ps h) const m s e = (e, s)
fits_reference limit (of_local C) const m s e = (e, s)

fits_int : (limit : ℕ) → (W : InType) (const : Bool) → SoundType limit W → Sound limit (have_type (IntRef const) W)
fits_int limit (of_param ps h) const s = (tt, s)
fits_int limit (of_local C) const s = (tt, s)

pub feed_const-sound : (limit : ℕ) → (t : Token) (W : InType) → Sound limit (after_const W) → Wherever limit (Sound limit) (feed_const t W)
feed_const-sound limit t W s =
    if_sound limit (Sound limit) (is_word keyword.Int t.kind) _ _ (refl, fits_int limit W true s)
    (on_class_sound limit (Sound limit) t (λ m. leads (expect (kind.Mark sign.Amp) (have_type (ObjectRef true m) W))) (λ m c. (refl, fits_reference limit W true m s c.plain)))

pub begin_param-sound : (limit : ℕ) → (t : Token) (ps : List Param) (h : Heading) → Sound limit (want_param ps h) → Wherever limit (Sound limit) (begin_param t ps h)
begin_param-sound limit t ps h s =
    if_sound limit (Sound limit) (is_word keyword.Const t.kind) _ _ s
    (if_sound limit (Sound limit) (is_word keyword.Int t.kind) _ _ (refl, s)
    (on_class_sound limit (Sound limit) t (λ m. leads (expect (kind.Mark sign.Amp) (have_type (ObjectRef false m) (of_param ps h)))) (λ m c. (refl, (c.plain, s)))))

-- a type of a list, with its first token
abbrev pub FreshListed : Token → InListed → Type 0
FreshListed t (of_caught place T) = place ≡ t.place
FreshListed t _ = Unit {0}

int_listed : (limit : ℕ) → (L : InListed) → SoundListed limit L → Sound limit (have_listed Int L)
int_listed limit (of_specification tys ps h) s = (tt, s)
int_listed limit (of_caught place T) s = ((tt, tt), s)
int_listed limit (of_const_caught place T) s = (tt, s)

object_listed : (limit : ℕ) → (L : InListed) (t : Token) (m : Name) → FreshListed t L → m.bound ≡ Free → m.place ≡ t.place → SoundListed limit L → Sound limit (have_listed (Object m) L)
object_listed limit (of_specification tys ps h) t m f b p s = (b, s)
object_listed limit (of_caught place T) t m f b p s = ((b, (b, p ∙ sym f)), s)
object_listed limit (of_const_caught place T) t m f b p s = (b, s)

pub begin_listed-sound : (limit : ℕ) → (t : Token) (L : InListed) → FreshListed t L → SoundListed limit L → Wherever limit (Sound limit) (begin_listed t L)
begin_listed-sound limit t L f s =
    if_sound limit (Sound limit) (is_word keyword.Int t.kind) _ _ (int_listed limit L s)
    (if_sound limit (Sound limit) (is_word keyword.Std t.kind) _ _ (refl, (refl, object_listed limit L t (bad_exception t.place) f refl refl s))
    (on_class_sound limit (Sound limit) t (λ m. leads (have_listed (Object m) L)) (λ m c. object_listed limit L t m f c.free c.place s)))

-- what a kind of function has besides, where it has no initialisers
pub parts_of : (k : FuncKind) (s : Signature) → s.initialisers ≡ [] → (k ≡ Destructor → s.parameters ≡ []) → HasParts k s
parts_of Plain s i f = i
parts_of Method s i f = i
parts_of Constructor s i f = tt
parts_of Destructor s i f = (i, f refl)

-- a token behind the types of a specification
signature_sound : (limit : ℕ) → (h : Heading) (ps : List Param) (tys : List Ty) → Each IsListedType tys → SoundParams limit ps h → Sound limit (have_signature (record { heading = h; parameters = ps; specification = Some (listed tys); in_full = false; initialisers = [] }))
signature_sound limit h ps tys e s =
    (record { heading = s.1; parameters = s.0; specification = e; initialisers = tt; parts = parts_of h.kind (record { heading = h; parameters = ps; specification = Some (listed tys); in_full = false; initialisers = [] }) refl s.2 }, refl)

pub feed_types-sound : (limit : ℕ) → (t : Token) (tys : List Ty) (ps : List Param) (h : Heading) → Each IsListedType tys × SoundParams limit ps h → Wherever limit (Sound limit) (feed_types t tys ps h)
feed_types-sound limit t tys ps h s =
    if_sound limit (Sound limit) (is_mark sign.Comma t.kind) _ _ (tt, (s.0, s.1.0, s.1.1, s.1.2)) (on_mark_sound limit (Sound limit) (is_mark sign.CloseParen t.kind) _ (signature_sound limit h ps tys s.0 s.1))

-- a handler's body
handler_sound : (limit : ℕ) → (ty : Option Ty) (name : Option Name) (place : ℕ) (T : InTry) → IsCaught place ty name → SoundTry limit T → Sound limit (handler_body ty name place T)
handler_sound limit ty name place (in_try ss cs c C) i s = (refl, (refl, tt, (i, s)))

caught_with : (place : ℕ) (ty : Ty) (name : Option Name) → IsCaught place (Some ty) None → IsCaught place (Some ty) name
caught_with place Int name i = tt
caught_with place Void name i = absurd i
caught_with place (Object n) name i = i
caught_with place (IntRef const) name i = tt
caught_with place (ObjectRef true n) name i = i
caught_with place (ObjectRef false n) name i = i

pub feed_caught-sound : (limit : ℕ) → (t : Token) (ty : Ty) (place : ℕ) (T : InTry) → Sound limit (have_caught ty place T) → Wherever limit (Sound limit) (feed_caught t ty place T)
feed_caught-sound limit t ty place T s =
    on_name_sound limit (Sound limit) (name_of t) (λ m. leads (expect (kind.Mark sign.CloseParen) (handler_body (Some ty) (Some m) place T))) _ (λ m. (refl, handler_sound limit (Some ty) (Some m) place T (caught_with place ty (Some m) s.0) s.1))
    (on_mark_sound limit (Sound limit) (is_mark sign.CloseParen t.kind) _ (handler_sound limit (Some ty) None place T s.0 s.1))

caught_reference : (place : ℕ) (ty : Ty) → IsListedType ty → IsCaught place (Some ty) None → IsCaught place (Some (reference_to false ty)) None
caught_reference place Int l i = tt
caught_reference place (Object n) l i = i
caught_reference place Void l i = absurd l
caught_reference place (IntRef const) l i = absurd l
caught_reference place (ObjectRef const n) l i = absurd l

caught_const : (place : ℕ) (ty : Ty) → IsListedType ty → IsCaught place (Some (reference_to true ty)) None
caught_const place Int l = tt
caught_const place (Object n) l = l
caught_const place Void l = absurd l
caught_const place (IntRef const) l = absurd l
caught_const place (ObjectRef const n) l = absurd l

pub feed_listed-sound : (limit : ℕ) → (t : Token) (ty : Ty) (L : InListed) → Sound limit (have_listed ty L) → Wherever limit (Sound limit) (feed_listed t ty L)
feed_listed-sound limit t ty (of_specification tys ps h) s = feed_types-sound limit t (tys ++ (ty ∷ [])) ps h (each_last IsListedType tys ty s.1.0 s.0, (s.1.1, s.1.2, s.1.3))
feed_listed-sound limit t ty (of_caught place T) s =
    if_sound limit (Sound limit) (is_mark sign.Amp t.kind) _ _ (caught_reference place ty s.0.0 s.0.1, s.1) (feed_caught-sound limit t ty place T (s.0.1, s.1))
feed_listed-sound limit t ty (of_const_caught place T) s = on_mark_sound limit (Sound limit) (is_mark sign.Amp t.kind) _ (caught_const place ty s.0, s.1)

pub begin_caught-sound : (limit : ℕ) → (t : Token) (T : InTry) → Sound limit (want_caught T) → Wherever limit (Sound limit) (begin_caught t T)
begin_caught-sound limit t T s =
    if_sound limit (Sound limit) (is_mark sign.Ellipsis t.kind) _ _ (refl, handler_sound limit None None t.place T refl s)
    (if_sound limit (Sound limit) (is_word keyword.Const t.kind) _ _ (tt, s) (begin_listed-sound limit t (of_caught t.place T) refl s))
