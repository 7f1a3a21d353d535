-- A map's entries as the names of a scope.
use Rattle.std.proofs.Common.{◌≡◌, ℕ, Bool, true, false, List, [], ◌∷◌, ◌++◌, Option, Some, None, Vec, refl, ap, ◌∙◌, sym, cond, bytes_eq, find, map, nat_eq, option_map, arith}
use Rattle.std.proofs.lemmas.Bool.Decides.{nat_tests}
use Rattle.std.proofs.lemmas.List.{map-append}
use Rattle.std.proofs.lemmas.Slice.Eq.{bytes_eq-Decides}
use Rattle.std.specs.Map.{lookup}
use Rattle.std.specs.declared.alloc.Global.{Global}
use Rattle.indexmap.specs.IndexMap.{insert_entry}
use Rattle.cxx_ast.specs.Environment.{Entry}
use Rattle.cxx_rules.specs.declared.names.Thing.{Thing as Held}
use Rattle.cxx_rules.specs.NamesOf.{thing_of, entry_of}

nat_same : (x y : ℕ) → nat_eq x y ≡ nat_eq y x
nat_same x y = grind (arith, nat_tests)

pub bytes_same : (xs ys : List ℕ) → bytes_eq xs ys ≡ bytes_eq ys xs
bytes_same [] [] = refl
bytes_same [] (y ∷ ys) = refl
bytes_same (x ∷ xs) [] = refl
bytes_same (x ∷ xs) (y ∷ ys) = rw (nat_same x y, bytes_same xs ys) refl

entry_found : (text : List ℕ) (k : Vec ℕ Global) (t : Held) (es : List (Vec ℕ Global × Held)) (b : Bool) →
    bytes_eq k.items text ≡ b →
    option_map thing_of (lookup (λ k. bytes_eq text k.items) es) ≡ option_map (λ e. e.thing) (find (λ e. bytes_eq e.text text) (map entry_of es)) →
    option_map thing_of (cond b (Some t) (lookup (λ k. bytes_eq text k.items) es))
    ≡ option_map (λ e. e.thing) (cond b (Some (entry_of (k, t))) (find (λ e. bytes_eq e.text text) (map entry_of es)))
entry_found text k t es true e h = refl
entry_found text k t es false e h = h

pub entries_found : (text : List ℕ) (es : List (Vec ℕ Global × Held)) →
    option_map thing_of (lookup (λ k. bytes_eq text k.items) es) ≡ option_map (λ e. e.thing) (find (λ e. bytes_eq e.text text) (map entry_of es))
entries_found text [] = refl
entries_found text ((k, t) ∷ es) =
    rw (bytes_same text k.items) (entry_found text k t es (bytes_eq k.items text) refl (entries_found text es))

pub none_there : (text : List ℕ) (es : List (Vec ℕ Global × Held)) →
    find (λ e. bytes_eq e.text text) (map entry_of es) ≡ None → lookup (λ k. bytes_eq text k.items) es ≡ None
none_there text es e = by (lookup (λ k. bytes_eq text k.items) es) (entries_found text es ∙ ap (option_map (λ x. x.thing)) e)
  where
    by : (o : Option Held) → option_map thing_of o ≡ None → o ≡ None
    by None h = refl
    by (Some t) h = cc

-- what the names are behind a new one
pub name_added : (text : List ℕ) (k : Vec ℕ Global) (t : Held) (old new : List (Vec ℕ Global × Held)) (names : List Entry) →
    new ≡ old ++ (k, t) ∷ [] → k.items ≡ text → map entry_of old ≡ names →
    map entry_of new ≡ names ++ record { text = text; thing = thing_of t } ∷ []
name_added text k t old new names e i n =
    ap (map entry_of) e ∙ map-append entry_of old ((k, t) ∷ []) ∙ ap (λ x. x ++ entry_of (k, t) ∷ []) n
    ∙ ap (λ x. names ++ record { text = x; thing = thing_of t } ∷ []) i

same_key : {X : Type 0} (q : List ℕ) (v w : X) (es : List (Vec ℕ Global × X)) (a b : Bool) → a ≡ b →
    cond a (Some v) (lookup (λ k. bytes_eq q k.items) es) ≡ cond b (Some v) (cond a (Some w) (lookup (λ k. bytes_eq q k.items) es))
same_key q v w es true true h = refl
same_key q v w es true false h = cc
same_key q v w es false true h = cc
same_key q v w es false false h = refl

apart : {X : Type 0} (q k j : List ℕ) (v w : X) (o : Option X) (a b : Bool) → bytes_eq k j ≡ false → bytes_eq q j ≡ a → bytes_eq q k ≡ b →
    cond a (Some w) (cond b (Some v) o) ≡ cond b (Some v) (cond a (Some w) o)
apart q k j v w o true true e f g =
    let same : k ≡ j = sym ((bytes_eq-Decides q k).0 g) ∙ (bytes_eq-Decides q j).0 f in
    let yes = (bytes_eq-Decides k j).1 same in
    cc
apart q k j v w o true false e f g = refl
apart q k j v w o false true e f g = refl
apart q k j v w o false false e f g = refl

inserted : {X : Type 0} (q : List ℕ) (k j : Vec ℕ Global) (v w : X) (es : List (Vec ℕ Global × X)) (b : Bool) → bytes_eq k.items j.items ≡ b →
    lookup (λ k. bytes_eq q k.items) (insert_entry (λ a b. bytes_eq a.items b.items) es k v) ≡ cond (bytes_eq q k.items) (Some v) (lookup (λ k. bytes_eq q k.items) es) →
    lookup (λ k. bytes_eq q k.items) (cond b ((j, v) ∷ es) ((j, w) ∷ insert_entry (λ a b. bytes_eq a.items b.items) es k v))
    ≡ cond (bytes_eq q k.items) (Some v) (cond (bytes_eq q j.items) (Some w) (lookup (λ k. bytes_eq q k.items) es))
inserted q k j v w es true e h =
    same_key q v w es (bytes_eq q j.items) (bytes_eq q k.items) (ap (bytes_eq q) (sym ((bytes_eq-Decides k.items j.items).0 e)))
inserted q k j v w es false e h =
    ap (λ o. cond (bytes_eq q j.items) (Some w) o) h
    ∙ apart q k.items j.items v w (lookup (λ k. bytes_eq q k.items) es) (bytes_eq q j.items) (bytes_eq q k.items) e refl refl

-- what a map says of a text behind an insertion
pub lookup_insert : {X : Type 0} (q : List ℕ) (k : Vec ℕ Global) (v : X) (es : List (Vec ℕ Global × X)) →
    lookup (λ k. bytes_eq q k.items) (insert_entry (λ a b. bytes_eq a.items b.items) es k v) ≡ cond (bytes_eq q k.items) (Some v) (lookup (λ k. bytes_eq q k.items) es)
lookup_insert q k v [] = refl
lookup_insert q k v ((j, w) ∷ es) = inserted q k j v w es (bytes_eq k.items j.items) refl (lookup_insert q k v es)
