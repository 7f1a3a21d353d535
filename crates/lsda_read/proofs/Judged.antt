-- A chain that was judged at a site needs no judging at a later one.
use Rattle.std.proofs.Common.{◌≡◌, ◌≤◌, ◌+◌, ◌==◌, ℕ, Bool, true, false, List, [], ◌∷◌, ◌++◌, Option, Some, None, refl, ap, sym, subst, ◌∙◌, arith, if◌then◌else◌}
use Rattle.std.specs.Prelude.{flat_map}
use Rattle.std.proofs.lemmas.Bool.Decides.{nat_tests}
use Rattle.eh_bytes.specs.Memory.{Part, Memory}
use Rattle.table_forms.specs.declared.reason.Reason.TheVariants.{ActionOutside}
use Rattle.table_forms.specs.Fault.{Fault, fault, is_before, lesser, least, joined}
use Rattle.table_forms.specs.LsdaHead.{Head}
use Rattle.table_forms.specs.LsdaChain.{Ending, ended, outside, repeated, ranged, ending_faults, chain_of}
use Rattle.table_forms.specs.LsdaTypes.{filter_faults}
use Rattle.table_forms.specs.Lsda.{action_faults}
use Rattle.table_forms.proofs.Least.{least-append, joined_none, joined_joined}

pub before_same : (f : Fault) → is_before f f ≡ true
unfolding is_before
before_same f = grind (arith, nat_tests)

before_yes : (f g h : Fault) → is_before f g ≡ true → is_before g h ≡ true → is_before f h ≡ true
unfolding is_before
before_yes f g h fg gh = grind (arith, nat_tests, fg, gh)

before_turned : (f g : Fault) → is_before f g ≡ false → is_before g f ≡ true
unfolding is_before
before_turned f g fg = grind (arith, nat_tests, fg)

outside_before : (m n : ℕ) → m ≤ n → is_before (fault ActionOutside m) (fault ActionOutside n) ≡ true
unfolding is_before
outside_before m n order = grind (arith, nat_tests, order)

-- a refusal with itself
pub twice : (o : Option Fault) → joined o o ≡ o
twice None = refl
twice (Some f) = ap (λ b. if b then Some f else Some f) (before_same f)

-- an added refusal, and an added later one
added : (o : Option Fault) (f g : Fault) → is_before f g ≡ true → joined (joined o (Some f)) (joined o (Some g)) ≡ joined o (Some f)
added None f g fg = ap (λ b. if b then Some f else Some g) fg
added (Some h) f g fg = by (is_before h f) (is_before h g) refl refl
  where
    by : (a b : Bool) → is_before h f ≡ a → is_before h g ≡ b → joined (lesser h (Some f)) (lesser h (Some g)) ≡ lesser h (Some f)
    by true true hf hg = rw hf (rw hg (rw (before_same h) refl))
    by true false hf hg = absurd (differ (sym (before_yes h f g hf fg) ∙ hg))
      where
        differ : true ≡ false → ⊥
        differ e = cc
    by false true hf hg = rw hf (rw hg (rw (before_turned h f hf) refl))
    by false false hf hg = rw hf (rw hg (rw fg refl))

-- what is refused in the chain of an action that a record at this place names
abbrev pub at_action : Memory → Part → Head → ℕ → ℕ → Option Fault
at_action memory part h site a = least (action_faults memory part h (record { at = site; start = 0; length = 0; pad = 0; action = a }))

by_ending : (part : Part) (h : Head) (xs : List Fault) (site later a : ℕ) (e : Ending) → site ≤ later →
    joined (least (xs ++ ending_faults part h site a e)) (least (xs ++ ending_faults part h later a e)) ≡ least (xs ++ ending_faults part h site a e)
unfolding least
by_ending part h xs site later a ended order = twice (least (xs ++ []))
by_ending part h xs site later a repeated order = twice (least (xs ++ ending_faults part h site a repeated))
by_ending part h xs site later a (ranged p) order = twice (least (xs ++ ending_faults part h site a (ranged p)))
by_ending part h xs site later a outside order =
    let f = fault ActionOutside (part.file_at + site) in let g = fault ActionOutside (part.file_at + later) in
    ap (λ o. joined o (least (xs ++ g ∷ []))) (least-append xs (f ∷ [])) ∙ ap (joined (joined (least xs) (Some f))) (least-append xs (g ∷ [])) ∙
    added (least xs) f g (outside_before (part.file_at + site) (part.file_at + later) (omega (arith, order))) ∙ sym (least-append xs (f ∷ []))

pub judged_again : (memory : Memory) (part : Part) (h : Head) (site later a : ℕ) → site ≤ later →
    joined (at_action memory part h site a) (at_action memory part h later a) ≡ at_action memory part h site a
unfolding least
judged_again memory part h site later a order =
    let chain = chain_of part h a in
    let xs = flat_map (λ l. filter_faults memory part h h.types l.at l.filter) chain.links in
    by_zero (a == 0) (xs ++ ending_faults part h site a chain.ending) (xs ++ ending_faults part h later a chain.ending) (by_ending part h xs site later a chain.ending order)
  where
    by_zero : (b : Bool) (xs ys : List Fault) → joined (least xs) (least ys) ≡ least xs →
        joined (least (if b then [] else xs)) (least (if b then [] else ys)) ≡ least (if b then [] else xs)
    by_zero true xs ys e = refl
    by_zero false xs ys e = e

before_by : (f g : Fault) → joined (Some f) (Some g) ≡ Some f → is_before f g ≡ true
before_by f g e = by (is_before f g) refl e
  where
    some_same : (x y : Fault) → Some x ≡ Some y → x ≡ y
    some_same x y e = cc

    by : (b : Bool) → is_before f g ≡ b → (if b then Some f else Some g) ≡ Some f → is_before f g ≡ true
    by true fg e = fg
    by false fg e =
        let P : Fault → Type 0 = λ x. is_before f x ≡ true in
        subst P (sym (some_same g f e)) (before_same f)

-- what adds nothing to some refusals adds nothing to more of them
pub adds_nothing : (o p q : Option Fault) → joined o q ≡ o → joined (joined o p) q ≡ joined o p
adds_nothing None p q e = ap (joined p) e ∙ sym (joined_none p)
adds_nothing (Some f) p None e = sym (joined_none (joined (Some f) p))
adds_nothing (Some f) None (Some g) e = e
adds_nothing (Some f) (Some h) (Some g) e = by (is_before f h) refl
  where
    by : (b : Bool) → is_before f h ≡ b → joined (lesser f (Some h)) (Some g) ≡ lesser f (Some h)
    by true fh = rw fh e
    by false fh = rw fh (rw (before_yes h f g (before_turned f h fh) (before_by f g e)) refl)

-- a chain that adds nothing may be left out
pub left_out : (o here chain : Option Fault) (b : Bool) → (b ≡ true → joined o chain ≡ o) →
    joined o (joined here (if b then None else chain)) ≡ joined o (joined here chain)
left_out o here chain true known =
    ap (joined o) (sym (joined_none here)) ∙ sym (adds_nothing o here chain (known refl)) ∙ sym (joined_joined o here chain)
left_out o here chain false known = refl

-- what adds nothing to the last of some refusals adds nothing to all of them
pub adds_nothing_last : (o here chain q : Option Fault) → joined chain q ≡ chain → joined (joined o (joined here chain)) q ≡ joined o (joined here chain)
adds_nothing_last o here chain q e =
    sym (joined_joined o (joined here chain) q) ∙ ap (joined o) (sym (joined_joined here chain q) ∙ ap (joined here) e)

-- action 0 names no chain
pub nothing_judged : (memory : Memory) (part : Part) (h : Head) (site : ℕ) → at_action memory part h site 0 ≡ None
unfolding least
nothing_judged memory part h site = refl
