-- Where at most one FDE holds a place, their order does not matter.
use Rattle.std.proofs.Common.{◌≡◌, ◌∙◌, refl, ap, Bool, true, false, List, [], ◌∷◌, Some, if◌then◌else◌}
use Rattle.std.specs.Prelude.{⊤, find}
use Rattle.std.specs.List.{AllByRecursion}
use Rattle.table_forms.specs.Fde.{Fde}
use Rattle.table_forms.specs.Frames.{is_earlier, put_in, sorted}

-- none but the first passes a test, where that does, and so on
abbrev pub AtMostOne : (Fde → Bool) → List Fde → Type 0
AtMostOne P [] = ⊤
AtMostOne P (f ∷ fs) = (P f ≡ true → AllByRecursion (λ g. P g ≡ false) fs) × AtMostOne P fs

differ : (b : Bool) → b ≡ true → b ≡ false → ⊥
differ true e f = cc
differ false e f = cc

put_out : (Q : Fde → Type 0) (f : Fde) (gs : List Fde) → AllByRecursion Q (put_in f gs) → Q f × AllByRecursion Q gs
put_out Q f [] all = (all.0, tt)
put_out Q f (g ∷ gs) all = by (put_out Q f gs) (is_earlier f g) all
  where
    by : (AllByRecursion Q (put_in f gs) → Q f × AllByRecursion Q gs) → (b : Bool) → AllByRecursion Q (if b then f ∷ g ∷ gs else g ∷ put_in f gs) → Q f × AllByRecursion Q (g ∷ gs)
    by more true all = (all.0, all.1)
    by more false all = let later = more all.1 in (later.0, (all.0, later.1))

put_one : (P : Fde → Bool) (f : Fde) (gs : List Fde) → AtMostOne P (put_in f gs) → (P f ≡ true → AllByRecursion (λ g. P g ≡ false) gs) × AtMostOne P gs
put_one P f [] one = (λ e. tt, tt)
put_one P f (g ∷ gs) one = by (put_one P f gs) (is_earlier f g) one
  where
    by : (AtMostOne P (put_in f gs) → (P f ≡ true → AllByRecursion (λ g. P g ≡ false) gs) × AtMostOne P gs) → (b : Bool) → AtMostOne P (if b then f ∷ g ∷ gs else g ∷ put_in f gs) →
        (P f ≡ true → AllByRecursion (λ g. P g ≡ false) (g ∷ gs)) × AtMostOne P (g ∷ gs)
    by more true one = one
    by more false one =
        let later = more one.1 in
        let none : P g ≡ true → (P f ≡ false) × AllByRecursion (λ h. P h ≡ false) gs = λ e. put_out (λ h. P h ≡ false) f gs (one.0 e) in (
          λ e. (other (P g) refl (λ h. differ (P f) e (none h).0), later.0 e),
          (λ e. (none e).1, later.1),
        )
      where
        other : (b : Bool) → P g ≡ b → (P g ≡ true → ⊥) → P g ≡ false
        other true e not_so = absurd (not_so e)
        other false e not_so = e

find_put : (P : Fde → Bool) (f : Fde) (gs : List Fde) → (P f ≡ true → AllByRecursion (λ g. P g ≡ false) gs) → find P (put_in f gs) ≡ (if P f then Some f else find P gs)
find_put P f [] one = refl
find_put P f (g ∷ gs) one = by (find_put P f gs (λ e. (one e).1)) (is_earlier f g)
  where
    either : (b c : Bool) → P f ≡ b → P g ≡ c → find P (put_in f gs) ≡ (if b then Some f else find P gs) → (if c then Some g else find P (put_in f gs)) ≡ (if b then Some f else if c then Some g else find P gs)
    either true true e h more = absurd (differ (P g) h (one e).0)
    either true false e h more = more
    either false true e h more = refl
    either false false e h more = more

    by : find P (put_in f gs) ≡ (if P f then Some f else find P gs) → (b : Bool) → find P (if b then f ∷ g ∷ gs else g ∷ put_in f gs) ≡ (if P f then Some f else if P g then Some g else find P gs)
    by more true = refl
    by more false = either (P f) (P g) refl refl more

pub find_sorted : (P : Fde → Bool) (fs : List Fde) → AtMostOne P (sorted fs) → find P (sorted fs) ≡ find P fs
find_sorted P [] one = refl
find_sorted P (f ∷ fs) one =
    let both = put_one P f (sorted fs) one in
    find_put P f (sorted fs) both.0 ∙ ap (λ o. if P f then Some f else o) (find_sorted P fs both.1)
