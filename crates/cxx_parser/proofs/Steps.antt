-- A token more: what it must be for a step, and what is kept.
use Rattle.std.specs.Prelude.{ℕ, ◌+◌, ◌≡◌, Bool, true, false, List, ◌∷◌, Option, Some, None, ℤ, pos, refl, if◌then◌else◌}
use Rattle.std.proofs.Common.{ap, subst, arith}
use Rattle.cxx_ast.specs.declared.keyword.Keyword.{Keyword}
use Rattle.cxx_ast.specs.declared.mark.Mark.{Mark}
use Rattle.cxx_ast.specs.declared.name.Name.{Name}
use Rattle.cxx_ast.specs.declared.name.Bound.TheVariants.{Free}
use Rattle.cxx_ast.specs.declared.token.Token.{Token}
use Rattle.cxx_ast.specs.declared.token.TokenKind.{TokenKind}
use Rattle.cxx_ast.specs.declared.token.TokenKind.TheVariants as kind
use Rattle.cxx_ast.specs.Grammatical.{IsLiteral}
use Rattle.cxx_ast.specs.Piece.{Piece, Is, named}
use Rattle.cxx_ast.specs.Spelling.{Spelling}
use Rattle.cxx_parser.specs.Expressions.{on_mark}
use Rattle.cxx_parser.specs.Signs.{is_mark, is_word, is_name, is_kind, name_at, name_of, literal_of}
use Rattle.cxx_parser.specs.States.{State, Step, stops, leads, within}
use Rattle.cxx_parser.proofs.Before.{Site}
use Rattle.cxx_parser.proofs.Held.{Fits, after, Outer, Within}
use Rattle.cxx_parser.proofs.SoundSteps.{literal_unsigned}
use Rattle.cxx_parser.proofs.TokenTests.{mark_is, word_is, name_is}

-- a step leads only to what holds
abbrev pub Where : (State → Type 1) → Step → Type 1
Where Q stops = Unit {1}
Where Q (leads s) = Q s
Where Q (within d s) = Q s

pub outer_more : {n : ℕ} {F G : Fits} {site : Site} (t : Token) → Outer n F G site → Outer (n + 1) (after t F) (after t G) site
outer_more t o = record { front = o.front; matches = o.matches; may_tilde = o.may_tilde; carried = λ ts x g. o.carried (t ∷ ts) x g; counted = λ ts x g. let k = o.counted (t ∷ ts) x g in omega (arith, k) }

-- a token more, and its piece
pub step : {n : ℕ} {F : Fits} {site : Site} {P : Spelling} {Q : Type 0} (t : Token) (p : Piece) (New : Type 0) → Is t p → New → Within n F site P Q → Within (n + 1) (after t F) site (λ x. P (p ∷ x)) New
step t p New is f w = record { own = after t w.own; outer = outer_more t w.outer; said = λ ts x g. w.said (t ∷ ts) (p ∷ x) (is, g); fine = f }

-- the same pieces, put otherwise
pub restate : {n : ℕ} {F : Fits} {site : Site} {P : Spelling} {Q : Type 0} (R : Spelling) (New : Type 0) → ((x : List Piece) → P x ≡ R x) → New → Within n F site P Q → Within n F site R New
restate R New e f w = record { own = w.own; outer = w.outer; said = λ ts x g. let fits = w.own in subst (λ y. fits ts y) (e x) (w.said ts x g); fine = f }

-- by tests of the token
pub on_mark_holds : (Q : State → Type 1) (m : Mark) (t : Token) (s : State) → (t.kind ≡ kind.Mark m → Q s) → Where Q (on_mark (is_mark m t.kind) s)
on_mark_holds Q m t s f = go (is_mark m t.kind) refl
  where
    go : (b : Bool) → is_mark m t.kind ≡ b → Where Q (on_mark b s)
    go true e = f (mark_is m t.kind e)
    go false e = tt

pub if_mark : (Q : State → Type 1) (m : Mark) (t : Token) (x y : Step) → (t.kind ≡ kind.Mark m → Where Q x) → Where Q y → Where Q (if is_mark m t.kind then x else y)
if_mark Q m t x y f g = go (is_mark m t.kind) refl
  where
    go : (b : Bool) → is_mark m t.kind ≡ b → Where Q (if b then x else y)
    go true e = f (mark_is m t.kind e)
    go false e = g

pub if_word : (Q : State → Type 1) (w : Keyword) (t : Token) (x y : Step) → (t.kind ≡ kind.Word w → Where Q x) → Where Q y → Where Q (if is_word w t.kind then x else y)
if_word Q w t x y f g = go (is_word w t.kind) refl
  where
    go : (b : Bool) → is_word w t.kind ≡ b → Where Q (if b then x else y)
    go true e = f (word_is w t.kind e)
    go false e = g

pub if_name : (Q : State → Type 1) (text : List ℕ) (t : Token) (x y : Step) → (t.kind ≡ kind.Name text → Where Q x) → Where Q y → Where Q (if is_name text t.kind then x else y)
if_name Q text t x y f g = go (is_name text t.kind) refl
  where
    go : (b : Bool) → is_name text t.kind ≡ b → Where Q (if b then x else y)
    go true e = f (name_is text t.kind e)
    go false e = g

-- a token of a kind stands at its place
pub placed_is : (t : Token) (k : TokenKind) → t.kind ≡ k → t ≡ record { kind = k; place = t.place }
placed_is t k e = ap (λ j. put j) e
  where
    put : TokenKind → Token
    put j = record { kind = j; place = t.place }

some_same : (a b : Name) → Some a ≡ Some b → a ≡ b
some_same a b e = cc

-- a token that is a name
pub named_is : (k : TokenKind) (place : ℕ) (n : Name) → name_at k place ≡ Some n → Is (record { kind = k; place = place }) (named n)
named_is (kind.Name text) place n e =
    let h : record { text = text; place = place; bound = Free } ≡ n = some_same (record { text = text; place = place; bound = Free }) n e in
    subst (λ (m : Name). Is (record { kind = kind.Name text; place = place }) (named m)) h (refl, refl)
named_is (kind.Number v) place n e = cc
named_is (kind.Word w) place n e = cc
named_is (kind.Mark m) place n e = cc

pub on_name : (Q : State → Type 1) (t : Token) (f : Name → Step) (y : Step) → ((n : Name) → Is t (named n) → Where Q (f n)) → Where Q y → Where Q (elim (name_of t) [ Some n ↦ f n | None ↦ y ])
on_name Q t f y g h = go (name_of t) refl
  where
    go : (o : Option Name) → name_of t ≡ o → Where Q (elim o [ Some n ↦ f n | None ↦ y ])
    go (Some n) e = g n (named_is t.kind t.place n e)
    go None e = h

literal_is : (k : TokenKind) (v : ℤ) → literal_of k ≡ Some v → k ≡ kind.Number v
literal_is (kind.Number (pos n)) v e = ap kind.Number (value (pos n) v e)
  where
    value : (a b : ℤ) → Some a ≡ Some b → a ≡ b
    value a b e = cc
literal_is (kind.Number _) v e = cc
literal_is (kind.Name text) v e = cc
literal_is (kind.Word w) v e = cc
literal_is (kind.Mark m) v e = cc

pub on_literal : (Q : State → Type 1) (t : Token) (f : ℤ → Step) (y : Step) → ((v : ℤ) → t.kind ≡ kind.Number v → IsLiteral v → Where Q (f v)) → Where Q y → Where Q (elim (literal_of t.kind) [ Some v ↦ f v | None ↦ y ])
on_literal Q t f y g h = go (literal_of t.kind) refl
  where
    go : (o : Option ℤ) → literal_of t.kind ≡ o → Where Q (elim o [ Some v ↦ f v | None ↦ y ])
    go (Some v) e = g v (literal_is t.kind v e) (literal_unsigned t.kind v e)
    go None e = h

-- a token that must come
pub on_kind_holds : (Q : State → Type 1) (k : TokenKind) (t : Token) (s : State) → (t.kind ≡ k → Q s) → Where Q (on_mark (is_kind k t.kind) s)
on_kind_holds Q (kind.Mark m) t s f = on_mark_holds Q m t s f
on_kind_holds Q (kind.Word w) t s f = go (is_word w t.kind) refl
  where
    go : (b : Bool) → is_word w t.kind ≡ b → Where Q (on_mark b s)
    go true e = f (word_is w t.kind e)
    go false e = tt
on_kind_holds Q (kind.Name text) t s f = go (is_name text t.kind) refl
  where
    go : (b : Bool) → is_name text t.kind ≡ b → Where Q (on_mark b s)
    go true e = f (name_is text t.kind e)
    go false e = tt
on_kind_holds Q (kind.Number v) t s f = tt
