-- A step that leads only to what is sound.
use Rattle.std.specs.Prelude.{ℕ, ◌≡◌, ◌≤◌, ℤ, pos, Bool, true, false, Option, Some, None, refl, if◌then◌else◌}
use Rattle.cxx_ast.specs.declared.name.Name.{Name}
use Rattle.cxx_ast.specs.declared.token.TokenKind.{TokenKind}
use Rattle.cxx_ast.specs.declared.token.TokenKind.TheVariants as kind
use Rattle.cxx_ast.specs.Grammatical.{IsLiteral}
use Rattle.cxx_parser.specs.Expressions.{on_mark}
use Rattle.cxx_parser.specs.Signs.{literal_of}
use Rattle.cxx_parser.specs.States.{State, Step, stops, leads, within}

abbrev pub Wherever : ℕ → (State → Type 0) → Step → Type 0
Wherever limit Q stops = Unit {0}
Wherever limit Q (leads s) = Q s
Wherever limit Q (within d s) = d ≤ limit → Q s

pub on_mark_sound : (limit : ℕ) → (Q : State → Type 0) (b : Bool) (s : State) → Q s → Wherever limit Q (on_mark b s)
on_mark_sound limit Q true s q = q
on_mark_sound limit Q false s q = tt

pub if_sound : (limit : ℕ) → (Q : State → Type 0) (b : Bool) (x y : Step) → Wherever limit Q x → Wherever limit Q y → Wherever limit Q (if b then x else y)
if_sound limit Q true x y f g = f
if_sound limit Q false x y f g = g

pub on_name_sound : (limit : ℕ) → (Q : State → Type 0) (o : Option Name) (f : Name → Step) (y : Step) → ((n : Name) → Wherever limit Q (f n)) → Wherever limit Q y → Wherever limit Q (elim o [ Some n ↦ f n | None ↦ y ])
on_name_sound limit Q (Some n) f y g h = g n
on_name_sound limit Q None f y g h = h

pub literal_unsigned : (k : TokenKind) (v : ℤ) → literal_of k ≡ Some v → IsLiteral v
literal_unsigned (kind.Number (pos n)) (pos m) e = tt
literal_unsigned (kind.Number (pos n)) _ e = cc
literal_unsigned (kind.Number _) v e = cc
literal_unsigned (kind.Name text) v e = cc
literal_unsigned (kind.Word w) v e = cc
literal_unsigned (kind.Mark m) v e = cc

pub on_literal_sound : (limit : ℕ) → (Q : State → Type 0) (k : TokenKind) (f : ℤ → Step) (y : Step) → ((v : ℤ) → IsLiteral v → Wherever limit Q (f v)) → Wherever limit Q y → Wherever limit Q (elim (literal_of k) [ Some v ↦ f v | None ↦ y ])
on_literal_sound limit Q k f y g h = go (literal_of k) refl
  where
    go : (o : Option ℤ) → literal_of k ≡ o → Wherever limit Q (elim o [ Some v ↦ f v | None ↦ y ])
    go (Some v) e = g v (literal_unsigned k v e)
    go None e = h
