-- What is noted of a name with one declaration more.
use Rattle.std.proofs.Common.{◌≡◌, ℕ, zero, suc, Bool, true, false, ◌&&◌, ◌||◌, not, List, [], ◌∷◌, ◌++◌, Option, Some, None, Vec, refl, ap, ◌∙◌, sym, subst, cond, bytes_eq, length, slice_get}
use Rattle.std.proofs.lemmas.List.Folds.{find-append}
use Rattle.std.proofs.lemmas.Slice.Eq.{bytes_eq-Decides}
use Rattle.std.specs.Map.{lookup}
use Rattle.std.specs.Option.{option_or}
use Rattle.std.specs.declared.alloc.Global.{Global}
use Rattle.indexmap.specs.IndexMap.{insert_entry}
use Rattle.cxx_ast.specs.Environment.{Signature}
use Rattle.cxx_ast.specs.Broken.{agree, differs_from, defined_in}
use Rattle.cxx_rules.specs.SignaturesOf.{first_named, IsNoted, Says, AreNoted}
use Rattle.cxx_rules.specs.declared.signatures.Noted.{Noted}
use Rattle.cxx_rules.proofs.AgreeLaws.{agree_same, agree_itself, first_has, none_differs, differs_by}
use Rattle.cxx_rules.proofs.NameLaws.{bytes_same, lookup_insert}

or_false : (a : Bool) → (a || false) ≡ a
or_false true = refl
or_false false = refl

or_more : (a b c : Bool) → (a || (b || c)) ≡ ((a || b) || c)
or_more true b c = refl
or_more false b c = refl

differs_push : (ss : List Signature) (s f : Signature) → differs_from (ss ++ s ∷ []) f ≡ (differs_from ss f || (bytes_eq s.name.text f.name.text && not (agree s f)))
differs_push [] s f = or_false (bytes_eq s.name.text f.name.text && not (agree s f))
differs_push (t ∷ ss) s f =
    ap (λ b. (bytes_eq t.name.text f.name.text && not (agree t f)) || b) (differs_push ss s f)
    ∙ or_more (bytes_eq t.name.text f.name.text && not (agree t f)) (differs_from ss f) (bytes_eq s.name.text f.name.text && not (agree s f))

defined_push : (ss : List Signature) (s : Signature) (text : List ℕ) → defined_in (ss ++ s ∷ []) text ≡ (defined_in ss text || (bytes_eq s.name.text text && s.is_defined))
defined_push [] s text = or_false (bytes_eq s.name.text text && s.is_defined)
defined_push (t ∷ ss) s text =
    ap (λ b. (bytes_eq t.name.text text && t.is_defined) || b) (defined_push ss s text)
    ∙ or_more (bytes_eq t.name.text text && t.is_defined) (defined_in ss text) (bytes_eq s.name.text text && s.is_defined)

pub none_defined : (ss : List Signature) (text : List ℕ) → first_named text ss ≡ None → defined_in ss text ≡ false
none_defined [] text e = refl
none_defined (t ∷ ss) text e = by (bytes_eq t.name.text text) refl (none_defined ss text)
  where
    by : (b : Bool) → bytes_eq t.name.text text ≡ b → (first_named text ss ≡ None → defined_in ss text ≡ false) → defined_in (t ∷ ss) text ≡ false
    by true q rest = let h : Some t ≡ None = sym (ap (λ b. cond b (Some t) (first_named text ss)) q) ∙ e in absurd (cc h)
    by false q rest =
        ap (λ b. (b && t.is_defined) || defined_in ss text) q
        ∙ rest (sym (ap (λ b. cond b (Some t) (first_named text ss)) q) ∙ e)

first_push : (text : List ℕ) (ss : List Signature) (s : Signature) (o : Option Signature) → first_named text ss ≡ o →
    first_named text (ss ++ s ∷ []) ≡ option_or o (cond (bytes_eq s.name.text text) (Some s) None)
first_push text ss s o e = find-append (λ s. bytes_eq s.name.text text) ss (s ∷ []) ∙ ap (λ x. option_or x (cond (bytes_eq s.name.text text) (Some s) None)) e

there_push : (ss : List Signature) (s f : Signature) (i : ℕ) → slice_get ss i ≡ Some f → slice_get (ss ++ s ∷ []) i ≡ Some f
there_push [] s f i e = absurd (cc e)
there_push (t ∷ ss) s f zero e = e
there_push (t ∷ ss) s f (suc i) e = there_push ss s f i e

there_last : (ss : List Signature) (s : Signature) → slice_get (ss ++ s ∷ []) (length ss) ≡ Some s
there_last [] s = refl
there_last (t ∷ ss) s = there_last ss s

text_itself : (text : List ℕ) → bytes_eq text text ≡ true
text_itself text = (bytes_eq-Decides text text).1 refl

-- a name's first declaration
pub noted_first : (ss : List Signature) (s : Signature) (n : Noted) → first_named s.name.text ss ≡ None →
    n.first ≡ length ss → n.differs ≡ false → n.is_defined ≡ s.is_defined → IsNoted s.name.text (ss ++ s ∷ []) n
noted_first ss s n none at differs defined = record {
  first = s;
  there = ap (slice_get (ss ++ s ∷ [])) at ∙ there_last ss s;
  named = first_push s.name.text ss s None none ∙ ap (λ b. cond b (Some s) None) (text_itself s.name.text);
  differs =
      differs ∙ sym (differs_push ss s s ∙ ap (λ b. b || (bytes_eq s.name.text s.name.text && not (agree s s))) (none_differs ss s none)
      ∙ ap (λ b. b && not (agree s s)) (text_itself s.name.text) ∙ ap not (agree_itself s));
  defined =
      defined ∙ sym (defined_push ss s s.name.text ∙ ap (λ b. b || (bytes_eq s.name.text s.name.text && s.is_defined)) (none_defined ss s.name.text none)
      ∙ ap (λ b. b && s.is_defined) (text_itself s.name.text));
}

agree_sides : (f s : Signature) → agree s f ≡ agree f s
agree_sides f s = by (agree f s) (agree s f) refl refl
  where
    by : (a b : Bool) → agree f s ≡ a → agree s f ≡ b → b ≡ a
    by true b e g = sym g ∙ sym (agree_same s f s e) ∙ agree_itself s
    by false true e g = let h : agree f s ≡ true = sym (agree_same f s f g) ∙ agree_itself f in absurd (cc (sym h ∙ e))
    by false false e g = refl

-- a name's further declaration
pub noted_again : (ss : List Signature) (s : Signature) (old n : Noted) → IsNoted s.name.text ss old →
    n.first ≡ old.first → ((f : Signature) → slice_get ss old.first ≡ Some f → n.differs ≡ (old.differs || not (agree f s))) →
    n.is_defined ≡ (old.is_defined || s.is_defined) → IsNoted s.name.text (ss ++ s ∷ []) n
noted_again ss s old n was at differs defined =
    let f = was.first in
    let text = first_has s.name.text ss f was.named in
    record {
      first = f;
      there = ap (slice_get (ss ++ s ∷ [])) at ∙ there_push ss s f old.first was.there;
      named = first_push s.name.text ss s (Some f) was.named;
      differs =
          differs f was.there ∙ ap (λ b. b || not (agree f s)) was.differs
          ∙ ap (λ b. differs_from ss f || not b) (sym (agree_sides f s))
          ∙ ap (λ b. differs_from ss f || (b && not (agree s f))) (sym (ap (bytes_eq s.name.text) text ∙ text_itself s.name.text))
          ∙ sym (differs_push ss s f);
      defined =
          defined ∙ ap (λ b. b || s.is_defined) was.defined ∙ ap (λ b. defined_in ss s.name.text || (b && s.is_defined)) (sym (text_itself s.name.text))
          ∙ sym (defined_push ss s s.name.text);
    }

-- another name
noted_other : (ss : List Signature) (s : Signature) (text : List ℕ) (o : Option Noted) → bytes_eq s.name.text text ≡ false → Says text ss o → Says text (ss ++ s ∷ []) o
noted_other ss s text None apart says = first_push text ss s None says ∙ ap (λ b. cond b (Some s) None) apart
noted_other ss s text (Some n) apart says =
    let f = says.first in
    record {
      first = f;
      there = there_push ss s f n.first says.there;
      named = first_push text ss s (Some f) says.named;
      differs =
          says.differs ∙ sym (or_false (differs_from ss f))
          ∙ ap (λ b. differs_from ss f || (b && not (agree s f))) (sym (ap (bytes_eq s.name.text) (first_has text ss f says.named) ∙ apart))
          ∙ sym (differs_push ss s f);
      defined =
          says.defined ∙ sym (or_false (defined_in ss text)) ∙ ap (λ b. defined_in ss text || (b && s.is_defined)) (sym apart) ∙ sym (defined_push ss s text);
    }

-- all names, where what is noted of one is put in
pub noted_with : (ss : List Signature) (s : Signature) (k : Vec ℕ Global) (n : Noted) (es new : List (Vec ℕ Global × Noted)) →
    AreNoted es ss → k.items ≡ s.name.text → IsNoted s.name.text (ss ++ s ∷ []) n → new ≡ insert_entry (λ a b. bytes_eq a.items b.items) es k n →
    AreNoted new (ss ++ s ∷ [])
noted_with ss s k n es new noted i now e text =
    subst (λ o. Says text (ss ++ s ∷ []) o) (sym (ap (lookup (λ k. bytes_eq text k.items)) e ∙ lookup_insert text k n es)) (by (bytes_eq s.name.text text) refl)
  where
    key : bytes_eq text k.items ≡ bytes_eq s.name.text text
    key = ap (bytes_eq text) i ∙ bytes_same text s.name.text

    by : (b : Bool) → bytes_eq s.name.text text ≡ b → Says text (ss ++ s ∷ []) (cond (bytes_eq text k.items) (Some n) (lookup (λ k. bytes_eq text k.items) es))
    by true h =
        subst (λ b. Says text (ss ++ s ∷ []) (cond b (Some n) (lookup (λ k. bytes_eq text k.items) es))) (sym (key ∙ h))
        (subst (λ t. IsNoted t (ss ++ s ∷ []) n) ((bytes_eq-Decides s.name.text text).0 h) now)
    by false h =
        subst (λ b. Says text (ss ++ s ∷ []) (cond b (Some n) (lookup (λ k. bytes_eq text k.items) es))) (sym (key ∙ h))
        (noted_other ss s text (lookup (λ k. bytes_eq text k.items) es) h (noted text))

-- what is noted of a name says whether a declaration differs from one of it
pub noted_differs : (ss : List Signature) (s : Signature) (n : Noted) (r : Bool) → IsNoted s.name.text ss n →
    ((f : Signature) → slice_get ss n.first ≡ Some f → r ≡ (n.differs || not (agree f s))) → r ≡ differs_from ss s
noted_differs ss s n r noted h =
    h noted.first noted.there ∙ ap (λ b. b || not (agree noted.first s)) noted.differs ∙ sym (differs_by ss noted.first s noted.named)
