-- Refusals that add nothing to those that stand.
use Rattle.std.proofs.Common.{◌≡◌, Bool, true, false, Option, Some, None, refl, ap, sym, subst, ◌∙◌, if◌then◌else◌}
use Rattle.table_forms.specs.Fault.{Fault, is_before, joined}
use Rattle.table_forms.proofs.Least.{joined_joined, joined_none}
use Rattle.lsda_read.proofs.Judged.{before_same, twice, adds_nothing}

-- what adds nothing to the first adds nothing to the second
abbrev pub Absorbs : Option Fault → Option Fault → Type 0
Absorbs o more = (x : Option Fault) → joined o x ≡ o → joined more x ≡ more

pub absorbs_more : (o p : Option Fault) → Absorbs o (joined o p)
absorbs_more o p x e = adds_nothing o p x e

pub taken_in : (o x : Option Fault) → joined (joined o x) x ≡ joined o x
taken_in o x = sym (joined_joined o x x) ∙ ap (joined o) (twice x)

pub skipped : (o x rest : Option Fault) → joined o x ≡ o → joined o (joined x rest) ≡ joined o rest
skipped o x rest e = joined_joined o x rest ∙ ap (λ s. joined s rest) e

-- two that add the same to some refusals add the same to more of them
pub same_added : (o r p q : Option Fault) → joined o p ≡ joined o q → joined (joined o r) p ≡ joined (joined o r) q
same_added None r p q e = ap (joined r) e
same_added (Some f) r None None e = refl
same_added (Some f) r None (Some g) e = sym (joined_none (joined (Some f) r)) ∙ sym (adds_nothing (Some f) r (Some g) (sym e))
same_added (Some f) r (Some g) None e = adds_nothing (Some f) r (Some g) e ∙ joined_none (joined (Some f) r)
same_added (Some f) r (Some g) (Some h) e = by (is_before f g) (is_before f h) refl refl
  where
    some_same : (x y : Fault) → Some x ≡ Some y → x ≡ y
    some_same x y e = cc

    differ : true ≡ false → ⊥
    differ e = cc

    value : (b : Bool) (x : Fault) → is_before f x ≡ b → joined (Some f) (Some x) ≡ (if b then Some f else Some x)
    value b x e = ap (λ c. if c then Some f else Some x) e

    -- the later one does not answer in place of the first
    never : (x y : Fault) → is_before f x ≡ true → is_before f y ≡ false → joined (Some f) (Some x) ≡ joined (Some f) (Some y) → ⊥
    never x y fx fy same =
        let P : Fault → Type 0 = λ z. is_before f z ≡ true in
        let e : f ≡ y = some_same f y (sym (value true x fx) ∙ same ∙ value false y fy) in
        differ (sym (subst P e (before_same f)) ∙ fy)

    by : (a b : Bool) → is_before f g ≡ a → is_before f h ≡ b → joined (joined (Some f) r) (Some g) ≡ joined (joined (Some f) r) (Some h)
    by true true fg fh = adds_nothing (Some f) r (Some g) (value true g fg) ∙ sym (adds_nothing (Some f) r (Some h) (value true h fh))
    by true false fg fh = absurd (never g h fg fh e)
    by false true fg fh = absurd (never h g fh fg (sym e))
    by false false fg fh = ap (joined (joined (Some f) r)) (sym (value false g fg) ∙ e ∙ value false h fh)
