-- One filter of a cleanup says as much as several.
use Rattle.std.proofs.Common.{◌≡◌, ℕ, Bool, true, false, List, [], ◌∷◌, Option, Some, None, refl, sym, ap, ◌∙◌}
use Rattle.std.specs.Prelude.{ℤ, ◌||◌, if◌then◌else◌}
use Rattle.meaning_forms.specs.Arithmetic.{int_equal}
use Rattle.meaning_forms.specs.Class.{some_of}
use Rattle.region_forms.specs.Form.{TypeRow}
use Rattle.region_forms.specs.Guard.{matches, allows}
use Rattle.linear_forms.specs.Tables.{Sense, cleanup, clause, list_of, no_sense}
use Rattle.linear_forms.specs.Verdict.{Verdict, target, no_way, clean, nothing_here, or_clean, judged, verdict, pad_verdict, is_cleanup, some_cleanup, has_cleanup}
use Rattle.linear_forms.specs.Emission.{with_cleanup}
use Rattle.linear_forms.specs.Laws.{CleanupsAreSeen}
use Rattle.linear_forms.proofs.Integers.{equal_is_same}

clean_twice : (v : Verdict) → or_clean (or_clean v) ≡ or_clean v
clean_twice (target n) = refl
clean_twice no_way = refl
clean_twice clean = refl
clean_twice nothing_here = refl

chosen : (b : Bool) (n : ℤ) (v : Verdict) → v ≡ or_clean v → (if b then target n else v) ≡ or_clean (if b then target n else v)
chosen true n v e = refl
chosen false n v e = e

allowed : (b : Bool) (n : ℤ) (v : Verdict) → v ≡ or_clean v → (if b then v else target n) ≡ or_clean (if b then v else target n)
allowed true n v e = e
allowed false n v e = refl

-- what stands behind a filter says that there is a cleanup, so the filters say so
judged_clean : (rows : List TypeRow) (t : Option ℕ) (n : ℤ) (x : Sense) (v : Verdict) → v ≡ or_clean v → judged rows t n x v ≡ or_clean (judged rows t n x v)
judged_clean rows t n cleanup v e = sym (clean_twice v)
judged_clean rows t n (clause u) v e = chosen (matches rows t u) n v e
judged_clean rows None n (list_of types) v e = refl
judged_clean rows (Some t) n (list_of types) v e = allowed (allows rows types (Some t)) n v e
judged_clean rows t n no_sense v e = e

-- filters of which one is a cleanup's say so
has_clean : (rows : List TypeRow) (senses : ℤ → Sense) (n : ℤ) → senses n ≡ cleanup → (chain : List ℤ) (t : Option ℕ)
    → some_of (int_equal n) chain ≡ true → verdict rows senses chain t ≡ or_clean (verdict rows senses chain t)
has_clean rows senses n m [] t h = absurd (cc h)
has_clean rows senses n m (k ∷ chain) t h = go (int_equal n k) refl h (has_clean rows senses n m chain t)
  where
    go : (b : Bool) → int_equal n k ≡ b → (b || some_of (int_equal n) chain) ≡ true
        → (some_of (int_equal n) chain ≡ true → verdict rows senses chain t ≡ or_clean (verdict rows senses chain t))
        → judged rows t k (senses k) (verdict rows senses chain t) ≡ or_clean (judged rows t k (senses k) (verdict rows senses chain t))
    go true e i rest =
        let s = ap senses (sym (equal_is_same n k e)) ∙ m in
        let v = verdict rows senses chain t in
        ap (λ x. judged rows t k x v) s ∙ sym (clean_twice v) ∙ ap (λ x. or_clean (judged rows t k x v)) (sym s)
    go false e i rest = judged_clean rows t k (senses k) (verdict rows senses chain t) (rest i)

pad_chain : (rows : List TypeRow) (senses : ℤ → Sense) (n : ℤ) (chain : List ℤ) (t : Option ℕ) → some_of (int_equal n) chain ≡ true
    → pad_verdict rows senses chain t ≡ verdict rows senses chain t
pad_chain rows senses n [] t h = absurd (cc h)
pad_chain rows senses n (k ∷ chain) t h = refl

raised : (rows : List TypeRow) (senses : ℤ → Sense) (n : ℤ) (chain : List ℤ) (t : Option ℕ) → senses n ≡ cleanup
    → pad_verdict rows senses (with_cleanup n chain) t ≡ or_clean (verdict rows senses chain t)
raised rows senses n chain t m = go (some_of (int_equal n) chain) refl
  where
    go : (b : Bool) → some_of (int_equal n) chain ≡ b → pad_verdict rows senses (if b then chain else n ∷ chain) t ≡ or_clean (verdict rows senses chain t)
    go true e = pad_chain rows senses n chain t e ∙ has_clean rows senses n m chain t e
    go false e = ap (λ x. judged rows t n x (verdict rows senses chain t)) m

-- one of the filters is a cleanup's
one_is : (senses : ℤ → Sense) (n : ℤ) → senses n ≡ cleanup → (chain : List ℤ) → some_of (int_equal n) chain ≡ true → some_cleanup senses chain ≡ true
one_is senses n m [] h = absurd (cc h)
one_is senses n m (k ∷ chain) h = go (int_equal n k) refl h (one_is senses n m chain)
  where
    already : (b : Bool) (c : Bool) → c ≡ true → (if b then true else c) ≡ true
    already true c e = refl
    already false c e = e

    go : (b : Bool) → int_equal n k ≡ b → (b || some_of (int_equal n) chain) ≡ true
        → (some_of (int_equal n) chain ≡ true → some_cleanup senses chain ≡ true)
        → (if is_cleanup (senses k) then true else some_cleanup senses chain) ≡ true
    go true e i rest = ap (λ x. if is_cleanup x then true else some_cleanup senses chain) (ap senses (sym (equal_is_same n k e)) ∙ m)
    go false e i rest = already (is_cleanup (senses k)) (some_cleanup senses chain) (rest i)

pad_has : (senses : ℤ → Sense) (chain : List ℤ) → some_cleanup senses chain ≡ true → has_cleanup senses chain ≡ true
pad_has senses [] h = refl
pad_has senses (k ∷ chain) h = h

forced : (senses : ℤ → Sense) (n : ℤ) (chain : List ℤ) → senses n ≡ cleanup → has_cleanup senses (with_cleanup n chain) ≡ true
forced senses n chain m = go (some_of (int_equal n) chain) refl
  where
    go : (b : Bool) → some_of (int_equal n) chain ≡ b → has_cleanup senses (if b then chain else n ∷ chain) ≡ true
    go true e = pad_has senses chain (one_is senses n m chain e)
    go false e = ap (λ x. if is_cleanup x then true else some_cleanup senses chain) m

pub cleanups_are_seen : CleanupsAreSeen
cleanups_are_seen = record { raised = raised; forced = forced }
