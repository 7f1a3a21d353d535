-- How the operations around pads stand.
use Rattle.std.proofs.Common.{◌≡◌, ℕ, zero, suc, pos, Bool, true, false, List, [], ◌∷◌, ◌++◌, map, Option, Some, refl, sym, ap, ◌∙◌, subst}
use Rattle.std.specs.Prelude.{⊤, slice_get}
use Rattle.meaning_forms.specs.Arithmetic.{int_equal}
use Rattle.linear_forms.specs.Linear.{LinearOp, jump_filter}
use Rattle.linear_forms.specs.Tables.{Cover, bare}
use Rattle.linear_forms.specs.Sites.{Placed}
use Rattle.linear_invariant.specs.Phases.{Kind, opens, tests, ends, passes, cleans, marks, other, kind_of, Phase, off, opened, tested, cleaned, passed, labelled, opens_now, next_phase, carries_first, carries_in}

-- what may stand in a phase
abbrev pub plain_kind : Kind → Bool
plain_kind opens = true
plain_kind cleans = true
plain_kind marks = true
plain_kind other = true
plain_kind k = false

abbrev pub may_stand : Phase → Kind → Bool
may_stand off k = plain_kind k
may_stand opened tests = true
may_stand opened ends = true
may_stand opened cleans = true
may_stand opened k = false
may_stand tested tests = true
may_stand tested ends = true
may_stand tested k = false
may_stand cleaned ends = true
may_stand cleaned k = false
may_stand passed k = plain_kind k
may_stand labelled passes = true
may_stand labelled k = plain_kind k

-- nothing comes out of a pad's cleanup
abbrev pub QuietThere : Phase → Kind → Cover → Type 0
QuietThere opened cleans c = c ≡ bare
QuietThere ph k c = ⊤

-- no test is of the number that a forced unwind has
abbrev pub NotForced : LinearOp → Type 0
NotForced (jump_filter s z l) = int_equal (pos 0) z ≡ false
NotForced o = ⊤

abbrev pub may_end : Phase → Bool
may_end off = true
may_end passed = true
may_end labelled = true
may_end ph = false

abbrev pub Shaped : Phase → List Placed → Type 0
Shaped ph [] = may_end ph ≡ true
Shaped ph (x ∷ xs) = (may_stand ph (kind_of x.op) ≡ true) × QuietThere ph (kind_of x.op) x.cover × NotForced x.op × Shaped (next_phase ph (kind_of x.op)) xs

-- code that begins behind no pad may stand behind what goes on outwards

labelled_stands : (k : Kind) → plain_kind k ≡ true → may_stand labelled k ≡ true
labelled_stands opens e = refl
labelled_stands tests e = absurd (cc e)
labelled_stands ends e = absurd (cc e)
labelled_stands passes e = refl
labelled_stands cleans e = refl
labelled_stands marks e = refl
labelled_stands other e = refl

pub behind_label : (xs : List Placed) → Shaped off xs → Shaped labelled xs
behind_label [] h = refl
behind_label (x ∷ xs) h = (labelled_stands (kind_of x.op) h.0, tt, h.2, h.3)

pub behind_end : (xs : List Placed) → Shaped off xs → Shaped passed xs
behind_end [] h = refl
behind_end (x ∷ xs) h = (h.0, tt, h.2, go (kind_of x.op) h.0 h.3)
  where
    go : (k : Kind) → plain_kind k ≡ true → Shaped (opens_now k) xs → Shaped (next_phase passed k) xs
    go opens e i = i
    go tests e i = absurd (cc e)
    go ends e i = absurd (cc e)
    go passes e i = absurd (cc e)
    go cleans e i = i
    go marks e i = behind_label xs i
    go other e i = i

pub both_shaped : (ph : Phase) (a b : List Placed) → Shaped ph a → Shaped off b → Shaped ph (a ++ b)
both_shaped off [] b h i = i
both_shaped opened [] b h i = absurd (cc h)
both_shaped tested [] b h i = absurd (cc h)
both_shaped cleaned [] b h i = absurd (cc h)
both_shaped passed [] b h i = behind_end b i
both_shaped labelled [] b h i = behind_label b i
both_shaped ph (x ∷ a) b h i = (h.0, h.1, h.2, both_shaped (next_phase ph (kind_of x.op)) a b h.3 i)

-- what follows for the places of such code

abbrev pub kinds_of_code : List Placed → List Kind
kinds_of_code is = map (λ x. kind_of x.op) is

-- the operation and the cover at a place
abbrev pub op_in : List Placed → ℕ → Option LinearOp
op_in is p = slice_get (map (λ x. x.op) is) p

abbrev pub cover_at_place : List Placed → ℕ → Option Cover
cover_at_place is p = slice_get (map (λ x. x.cover) is) p

-- what ends a pad's part, or tests
abbrev pub ends_part : Kind → Bool
ends_part tests = true
ends_part ends = true
ends_part passes = true
ends_part k = false

-- control goes on to the next
abbrev pub kind_goes_on : Kind → Bool
kind_goes_on ends = false
kind_goes_on passes = false
kind_goes_on k = true

-- a cleanup, or a test, is followed by a place that carries
first_on : (ph : Phase) (k : Kind) (ks : List Kind) → carries_first ph (k ∷ ks) ≡ true → may_stand ph k ≡ true → kind_goes_on k ≡ true → carries_first (next_phase ph k) ks ≡ true
first_on off k ks e h g = absurd (cc e)
first_on opened opens ks e h g = absurd (cc h)
first_on opened tests ks e h g = refl
first_on opened ends ks e h g = absurd (cc g)
first_on opened passes ks e h g = absurd (cc h)
first_on opened cleans ks e h g = refl
first_on opened marks ks e h g = absurd (cc h)
first_on opened other ks e h g = absurd (cc h)
first_on tested opens ks e h g = absurd (cc h)
first_on tested tests ks e h g = refl
first_on tested ends ks e h g = absurd (cc g)
first_on tested passes ks e h g = absurd (cc h)
first_on tested cleans ks e h g = absurd (cc h)
first_on tested marks ks e h g = absurd (cc h)
first_on tested other ks e h g = absurd (cc h)
first_on cleaned opens ks e h g = absurd (cc h)
first_on cleaned tests ks e h g = absurd (cc h)
first_on cleaned ends ks e h g = absurd (cc g)
first_on cleaned passes ks e h g = absurd (cc h)
first_on cleaned cleans ks e h g = absurd (cc h)
first_on cleaned marks ks e h g = absurd (cc h)
first_on cleaned other ks e h g = absurd (cc h)
first_on passed opens ks e h g = absurd (cc e)
first_on passed tests ks e h g = absurd (cc e)
first_on passed ends ks e h g = absurd (cc e)
first_on passed passes ks e h g = absurd (cc e)
first_on passed cleans ks e h g = absurd (cc e)
first_on passed marks ks e h g = e
first_on passed other ks e h g = absurd (cc e)
first_on labelled opens ks e h g = absurd (cc e)
first_on labelled tests ks e h g = absurd (cc e)
first_on labelled ends ks e h g = absurd (cc e)
first_on labelled passes ks e h g = absurd (cc g)
first_on labelled cleans ks e h g = absurd (cc e)
first_on labelled marks ks e h g = absurd (cc e)
first_on labelled other ks e h g = absurd (cc e)

-- a phase that carries at its first operation, with none, may not end
some_first : (ph : Phase) (xs : List Placed) → Shaped ph xs → carries_first ph (kinds_of_code xs) ≡ true → carries_in ph (kinds_of_code xs) 0 ≡ true
some_first off [] h e = absurd (cc e)
some_first opened [] h e = absurd (cc h)
some_first tested [] h e = absurd (cc h)
some_first cleaned [] h e = absurd (cc h)
some_first passed [] h e = absurd (cc e)
some_first labelled [] h e = absurd (cc e)
some_first ph (x ∷ xs) h e = e

-- control stays among the places that carry up to what goes on outwards
pub stays_on : (ph : Phase) (is : List Placed) (p : ℕ) (o : LinearOp) → Shaped ph is → op_in is p ≡ Some o → carries_in ph (kinds_of_code is) p ≡ true → kind_goes_on (kind_of o) ≡ true →
    carries_in ph (kinds_of_code is) (suc p) ≡ true
stays_on ph [] p o h e c g = absurd (cc e)
stays_on ph (x ∷ xs) zero o h e c g =
    let same : o ≡ x.op = cc e in
    some_first (next_phase ph (kind_of x.op)) xs h.3 (first_on ph (kind_of x.op) (kinds_of_code xs) c h.0 (subst (λ i. kind_goes_on (kind_of i) ≡ true) same g))
stays_on ph (x ∷ xs) (suc p) o h e c g = stays_on (next_phase ph (kind_of x.op)) xs p o h.3 e c g

-- behind a pad one begins
pub begins_there : (ph : Phase) (is : List Placed) (p : ℕ) (o : LinearOp) → Shaped ph is → op_in is p ≡ Some o → kind_of o ≡ opens → carries_in ph (kinds_of_code is) (suc p) ≡ true
begins_there ph [] p o h e k = absurd (cc e)
begins_there ph (x ∷ xs) zero o h e k =
    let same : o ≡ x.op = cc e in
    let opens_here : kind_of x.op ≡ opens = ap kind_of (sym same) ∙ k in
    go ph h.0 opens_here (subst (λ i. Shaped (next_phase ph i) xs) opens_here h.3)
  where
    go : (ph : Phase) → may_stand ph (kind_of x.op) ≡ true → kind_of x.op ≡ opens → Shaped (next_phase ph opens) xs → carries_in (next_phase ph (kind_of x.op)) (kinds_of_code xs) 0 ≡ true
    go off m i s = subst (λ j. carries_in (next_phase off j) (kinds_of_code xs) 0 ≡ true) (sym i) (some_first opened xs s refl)
    go opened m i s = let never : false ≡ true = ap (may_stand opened) (sym i) ∙ m in absurd (cc never)
    go tested m i s = let never : false ≡ true = ap (may_stand tested) (sym i) ∙ m in absurd (cc never)
    go cleaned m i s = let never : false ≡ true = ap (may_stand cleaned) (sym i) ∙ m in absurd (cc never)
    go passed m i s = subst (λ j. carries_in (next_phase passed j) (kinds_of_code xs) 0 ≡ true) (sym i) (some_first opened xs s refl)
    go labelled m i s = subst (λ j. carries_in (next_phase labelled j) (kinds_of_code xs) 0 ≡ true) (sym i) (some_first opened xs s refl)
begins_there ph (x ∷ xs) (suc p) o h e k = begins_there (next_phase ph (kind_of x.op)) xs p o h.3 e k

-- tests, and what goes on outwards, stand at such places
ends_first : (ph : Phase) (k : Kind) (ks : List Kind) → may_stand ph k ≡ true → ends_part k ≡ true → carries_first ph (k ∷ ks) ≡ true
ends_first off opens ks h e = absurd (cc e)
ends_first off tests ks h e = absurd (cc h)
ends_first off ends ks h e = absurd (cc h)
ends_first off passes ks h e = absurd (cc h)
ends_first off cleans ks h e = absurd (cc e)
ends_first off marks ks h e = absurd (cc e)
ends_first off other ks h e = absurd (cc e)
ends_first opened k ks h e = refl
ends_first tested k ks h e = refl
ends_first cleaned k ks h e = refl
ends_first passed opens ks h e = absurd (cc e)
ends_first passed tests ks h e = absurd (cc h)
ends_first passed ends ks h e = absurd (cc h)
ends_first passed passes ks h e = absurd (cc h)
ends_first passed cleans ks h e = absurd (cc e)
ends_first passed marks ks h e = absurd (cc e)
ends_first passed other ks h e = absurd (cc e)
ends_first labelled opens ks h e = absurd (cc e)
ends_first labelled tests ks h e = absurd (cc h)
ends_first labelled ends ks h e = absurd (cc h)
ends_first labelled passes ks h e = refl
ends_first labelled cleans ks h e = absurd (cc e)
ends_first labelled marks ks h e = absurd (cc e)
ends_first labelled other ks h e = absurd (cc e)

pub ends_carry : (ph : Phase) (is : List Placed) (p : ℕ) (o : LinearOp) → Shaped ph is → op_in is p ≡ Some o → ends_part (kind_of o) ≡ true → carries_in ph (kinds_of_code is) p ≡ true
ends_carry ph [] p o h e k = absurd (cc e)
ends_carry ph (x ∷ xs) zero o h e k = let same : o ≡ x.op = cc e in ends_first ph (kind_of x.op) (kinds_of_code xs) h.0 (subst (λ i. ends_part (kind_of i) ≡ true) same k)
ends_carry ph (x ∷ xs) (suc p) o h e k = ends_carry (next_phase ph (kind_of x.op)) xs p o h.3 e k

-- no test is of a forced unwind's number
pub not_forced : (ph : Phase) (is : List Placed) (p : ℕ) (o : LinearOp) → Shaped ph is → op_in is p ≡ Some o → NotForced o
not_forced ph [] p o h e = absurd (cc e)
not_forced ph (x ∷ xs) zero o h e = let same : x.op ≡ o = cc e in subst NotForced same h.2
not_forced ph (x ∷ xs) (suc p) o h e = not_forced (next_phase ph (kind_of x.op)) xs p o h.3 e

-- nothing comes out of a cleanup that carries
quiet_first : (ph : Phase) (k : Kind) (ks : List Kind) (c : Cover) → may_stand ph k ≡ true → carries_first ph (k ∷ ks) ≡ true → k ≡ cleans → QuietThere ph k c → c ≡ bare
quiet_first off k ks c h e i q = absurd (cc e)
quiet_first opened k ks c h e i q = subst (λ j. QuietThere opened j c) i q
quiet_first tested k ks c h e i q = let never : false ≡ true = ap (may_stand tested) (sym i) ∙ h in absurd (cc never)
quiet_first cleaned k ks c h e i q = let never : false ≡ true = ap (may_stand cleaned) (sym i) ∙ h in absurd (cc never)
quiet_first passed k ks c h e i q = let never : false ≡ true = ap (λ j. carries_first passed (j ∷ ks)) (sym i) ∙ e in absurd (cc never)
quiet_first labelled k ks c h e i q = let never : false ≡ true = ap (λ j. carries_first labelled (j ∷ ks)) (sym i) ∙ e in absurd (cc never)

pub quiet_there : (ph : Phase) (is : List Placed) (p : ℕ) (o : LinearOp) → Shaped ph is → op_in is p ≡ Some o → carries_in ph (kinds_of_code is) p ≡ true → kind_of o ≡ cleans → cover_at_place is p ≡ Some bare
quiet_there ph [] p o h e c k = absurd (cc e)
quiet_there ph (x ∷ xs) zero o h e c k =
    let same : o ≡ x.op = cc e in ap (λ i. Some i) (quiet_first ph (kind_of x.op) (kinds_of_code xs) x.cover h.0 c (ap kind_of (sym same) ∙ k) h.1)
quiet_there ph (x ∷ xs) (suc p) o h e c k = quiet_there (next_phase ph (kind_of x.op)) xs p o h.3 e c k
