-- Registers by their rules, one for one.
use Rattle.std.proofs.Common.{◌≡◌, ◌+◌, ◌<◌, ◌≤◌, ℕ, zero, suc, Bool, true, false, ◌==◌, ◌||◌, List, [], ◌∷◌, ◌++◌, ◌⊎◌, inl, inr, length, get_or, set, drop, Option, Some, None, refl, ap, sym, subst, ◌∙◌, arith, length-append, if◌then◌else◌}
use Rattle.std.proofs.Math.Seq.{drop-cons}
use Rattle.std.proofs.lemmas.Bool.Decides.{nat_tests}
use Rattle.std.proofs.lemmas.List.{get_or-set_same, get_or-set_other}
use Rattle.table_forms.specs.declared.found.Rule.{Rule}
use Rattle.table_forms.specs.declared.found.Rule.TheVariants as found
use Rattle.rv64_isa.specs.State.{State}
use Rattle.frame_read.proofs.Members.{In}
use Rattle.frame_walk.specs.Registers.{register_of, registers_from, with_first}
use Rattle.frame_walk.specs.Changed.{is_unspecified, is_listed, HasRulesIn}

-- each register that has a rule is among some, as members
pub record AreChanged (all : List Rule) (changed : List ℕ) : Type 0 where
  pub small : (n : ℕ) → In n changed → n < 64
  pub others : (n : ℕ) → n < 64 → (get_or all n found.Unspecified ≡ found.Unspecified) ⊎ In n changed

either : (a b : Bool) → a || b ≡ true → (a ≡ true) ⊎ (b ≡ true)
either true b e = inl refl
either false b e = inr e

or_true : (a b : Bool) → b ≡ true → a || b ≡ true
or_true true b e = refl
or_true false b e = e

in_listed : (n : ℕ) (xs : List ℕ) → In n xs → is_listed n xs ≡ true
in_listed n [] here = absurd here
in_listed n (x ∷ xs) (inl e) = let same : (n == x) ≡ true = grind (arith, nat_tests, e) in ap (λ b. b || is_listed n xs) same
in_listed n (x ∷ xs) (inr there) = or_true (n == x) (is_listed n xs) (in_listed n xs there)

listed_in : (n : ℕ) (xs : List ℕ) → is_listed n xs ≡ true → In n xs
listed_in n [] e = absurd (let wrong : false ≡ true = e in cc)
listed_in n (x ∷ xs) e = by (λ there. listed_in n xs there) (either (n == x) (is_listed n xs) e)
  where
    by : (is_listed n xs ≡ true → In n xs) → ((n == x) ≡ true) ⊎ (is_listed n xs ≡ true) → In n (x ∷ xs)
    by more (inl same) = inl (grind (arith, nat_tests, same))
    by more (inr there) = inr (more there)

unspecified : (rule : Rule) → is_unspecified rule ≡ true → rule ≡ found.Unspecified
unspecified found.Unspecified e = refl
unspecified found.Undefined e = absurd (let wrong : false ≡ true = e in cc)
unspecified found.Same e = absurd (let wrong : false ≡ true = e in cc)
unspecified (found.Offset n) e = absurd (let wrong : false ≡ true = e in cc)
unspecified (found.ValOffset n) e = absurd (let wrong : false ≡ true = e in cc)
unspecified (found.Register r) e = absurd (let wrong : false ≡ true = e in cc)

pub are_changed : (all : List Rule) (changed : List ℕ) → HasRulesIn all changed → AreChanged all changed
are_changed all changed has = record { small = λ n here. has.small n (in_listed n changed here); others = λ n below. by n (either (is_unspecified (get_or all n found.Unspecified)) (is_listed n changed) (has.others n below)) }
  where
    by : (n : ℕ) → (is_unspecified (get_or all n found.Unspecified) ≡ true) ⊎ (is_listed n changed ≡ true) → (get_or all n found.Unspecified ≡ found.Unspecified) ⊎ In n changed
    by n (inl none) = inl (unspecified (get_or all n found.Unspecified) none)
    by n (inr there) = inr (listed_in n changed there)

has_rules : (all : List Rule) (changed : List ℕ) → AreChanged all changed → HasRulesIn all changed
has_rules all changed are = record { small = λ n here. are.small n (listed_in n changed here); others = λ n below. by n (are.others n below) }
  where
    by : (n : ℕ) → (get_or all n found.Unspecified ≡ found.Unspecified) ⊎ In n changed → is_unspecified (get_or all n found.Unspecified) || is_listed n changed ≡ true
    by n (inl none) = ap (λ r. is_unspecified r || is_listed n changed) none
    by n (inr there) = or_true (is_unspecified (get_or all n found.Unspecified)) (is_listed n changed) (in_listed n changed there)

-- where each register has its value, all have
pub one_for_one : (s : State) (cfa : ℕ) (regs : List ℕ) (k : ℕ) (rules : List Rule) (out : List ℕ) → length rules ≡ length out →
    ((n : ℕ) → n < length out → register_of s cfa regs (k + n) (get_or rules n found.Unspecified) ≡ Some (get_or out n 0)) → registers_from s cfa regs k rules ≡ Some out
one_for_one s cfa regs k [] [] many each = refl
one_for_one s cfa regs k [] (x ∷ out) many each = absurd cc
one_for_one s cfa regs k (rule ∷ rules) [] many each = absurd cc
one_for_one s cfa regs k (rule ∷ rules) (x ∷ out) many each =
    let first : register_of s cfa regs k rule ≡ Some x = let none : k + 0 ≡ k = omega arith in subst (λ j. register_of s cfa regs j rule ≡ Some x) none (each 0 (omega arith)) in
    let rest : registers_from s cfa regs (k + 1) rules ≡ Some out = one_for_one s cfa regs (k + 1) rules out (omega (arith, many))
    (λ n below. let one : k + suc n ≡ k + 1 + n = omega arith in subst (λ j. register_of s cfa regs j (get_or rules n found.Unspecified) ≡ Some (get_or out n 0)) one (each (suc n) (omega (arith, below)))) in
    ap (λ o. with_first o (registers_from s cfa regs (k + 1) rules)) first ∙ ap (with_first (Some x)) rest

-- where one has none, there are not all
pub one_missing : (s : State) (cfa : ℕ) (regs : List ℕ) (k : ℕ) (rules : List Rule) (n : ℕ) → n < length rules →
    register_of s cfa regs (k + n) (get_or rules n found.Unspecified) ≡ None → registers_from s cfa regs k rules ≡ None
one_missing s cfa regs k [] n below none = absurd (omega (arith, below))
one_missing s cfa regs k (rule ∷ rules) zero below none =
    let same : k + 0 ≡ k = omega arith in ap (λ o. with_first o (registers_from s cfa regs (k + 1) rules)) (subst (λ j. register_of s cfa regs j rule ≡ None) same none)
one_missing s cfa regs k (rule ∷ rules) (suc n) below none =
    let one : k + suc n ≡ k + 1 + n = omega arith in
    let rest = one_missing s cfa regs (k + 1) rules n (omega (arith, below)) (subst (λ j. register_of s cfa regs j (get_or rules n found.Unspecified) ≡ None) one none) in
    ap (with_first (register_of s cfa regs k rule)) rest ∙ by (register_of s cfa regs k rule)
  where
    by : (o : Option ℕ) → with_first o None ≡ None
    by None = refl
    by (Some x) = refl

-- each register has its value, or is still to be set
abbrev pub IsSetOr : State → ℕ → List ℕ → List Rule → List ℕ → List ℕ → Type 0
IsSetOr s cfa regs rules left out = (n : ℕ) → n < 64 → (register_of s cfa regs n (get_or rules n found.Unspecified) ≡ Some (get_or out n 0)) ⊎ In n left

-- a register without a rule
pub unchanged : (s : State) (cfa : ℕ) (regs : List ℕ) (rules : List Rule) (changed : List ℕ) → length regs ≡ 64 → AreChanged rules changed → IsSetOr s cfa regs rules changed (set regs 2 cfa)
unchanged s cfa regs rules changed many has n below = by (has.others n below)
  where
    kept : (b : Bool) → (n == 2) ≡ b → Some (if b then cfa else get_or regs n 0) ≡ Some (get_or (set regs 2 cfa) n 0)
    kept true is =
        let two : n ≡ 2 = grind (arith, nat_tests, is) in
        ap (λ x. Some x) (sym (ap (λ i. get_or (set regs 2 cfa) i 0) two ∙ get_or-set_same regs 2 cfa 0 (omega (arith, many))))
    kept false is = ap (λ x. Some x) (sym (get_or-set_other regs 2 n cfa 0 (grind (arith, nat_tests, is))))

    by : (get_or rules n found.Unspecified ≡ found.Unspecified) ⊎ In n changed → (register_of s cfa regs n (get_or rules n found.Unspecified) ≡ Some (get_or (set regs 2 cfa) n 0)) ⊎ In n changed
    by (inr there) = inr there
    by (inl none) = inl (ap (register_of s cfa regs n) none ∙ kept (n == 2) refl)

pub next_left : (changed : List ℕ) (at d : ℕ) → at < length changed → drop at changed ≡ get_or changed at d ∷ drop (at + 1) changed
next_left changed at d inside = let one : suc at ≡ at + 1 = omega arith in subst (λ m. drop at changed ≡ get_or changed at d ∷ drop m changed) one (drop-cons changed at d inside)

-- one more is set
pub one_set : (s : State) (cfa : ℕ) (regs : List ℕ) (rules : List Rule) (left rest out : List ℕ) (r x : ℕ) → length out ≡ 64 → r < 64 → left ≡ r ∷ rest →
    register_of s cfa regs r (get_or rules r found.Unspecified) ≡ Some x → IsSetOr s cfa regs rules left out → IsSetOr s cfa regs rules rest (set out r x)
one_set s cfa regs rules left rest out r x many small is value so_far n below = by (n == r) refl (subst (λ l. (register_of s cfa regs n (get_or rules n found.Unspecified) ≡ Some (get_or out n 0)) ⊎ In n l) is (so_far n below))
  where
    Goal : Type 0
    Goal = (register_of s cfa regs n (get_or rules n found.Unspecified) ≡ Some (get_or (set out r x) n 0)) ⊎ In n rest

    by : (b : Bool) → (n == r) ≡ b → (register_of s cfa regs n (get_or rules n found.Unspecified) ≡ Some (get_or out n 0)) ⊎ In n (r ∷ rest) → Goal
    by true here before =
        let one : n ≡ r = grind (arith, nat_tests, here) in
        inl (subst (λ m. register_of s cfa regs m (get_or rules m found.Unspecified) ≡ Some (get_or (set out r x) m 0)) (sym one)
        (value ∙ ap (λ y. Some y) (sym (get_or-set_same out r x 0 (omega (arith, many, small))))))
    by false other (inl e) = inl (e ∙ ap (λ y. Some y) (sym (get_or-set_other out r n x 0 (grind (arith, nat_tests, other)))))
    by false other (inr (inl e)) = absurd (grind (arith, nat_tests, other, e))
    by false other (inr (inr there)) = inr there

-- all are set
pub all_set : (s : State) (cfa : ℕ) (regs : List ℕ) (rules : List Rule) (left out : List ℕ) → length rules ≡ 64 → length out ≡ 64 → left ≡ [] → IsSetOr s cfa regs rules left out →
    registers_from s cfa regs 0 rules ≡ Some out
all_set s cfa regs rules left out full many none so_far =
    one_for_one s cfa regs 0 rules out (full ∙ sym many) (λ n below. by n (subst (λ l. (register_of s cfa regs n (get_or rules n found.Unspecified) ≡ Some (get_or out n 0)) ⊎ In n l) none (so_far n (omega (arith, many, below)))))
  where
    by : (n : ℕ) → (register_of s cfa regs n (get_or rules n found.Unspecified) ≡ Some (get_or out n 0)) ⊎ ⊥ → register_of s cfa regs (0 + n) (get_or rules n found.Unspecified) ≡ Some (get_or out n 0)
    by n (inl e) = let same : n ≡ 0 + n = omega arith in subst (λ j. register_of s cfa regs j (get_or rules n found.Unspecified) ≡ Some (get_or out n 0)) same e
    by n (inr none) = absurd none

-- members of a list, by their places
pub stands_at : (xs : List ℕ) (i d : ℕ) → i < length xs → In (get_or xs i d) xs
stands_at [] i d below = absurd (omega (arith, below))
stands_at (x ∷ xs) zero d below = inl refl
stands_at (x ∷ xs) (suc i) d below = inr (stands_at xs i d (omega (arith, below)))

-- members of a list with one more behind
pub behind_too : (xs : List ℕ) (y n : ℕ) → In n xs → In n (xs ++ y ∷ [])
behind_too [] y n here = absurd here
behind_too (x ∷ xs) y n (inl e) = inl e
behind_too (x ∷ xs) y n (inr there) = inr (behind_too xs y n there)

pub behind_last : (xs : List ℕ) (y : ℕ) → In y (xs ++ y ∷ [])
behind_last [] y = inl refl
behind_last (x ∷ xs) y = inr (behind_last xs y)

in_either : (xs : List ℕ) (y n : ℕ) → In n (xs ++ y ∷ []) → In n xs ⊎ (n ≡ y)
in_either [] y n (inl e) = inr e
in_either [] y n (inr none) = absurd none
in_either (x ∷ xs) y n (inl e) = inl (inl e)
in_either (x ∷ xs) y n (inr there) = by (in_either xs y n there)
  where
    by : In n xs ⊎ (n ≡ y) → In n (x ∷ xs) ⊎ (n ≡ y)
    by (inl e) = inl (inr e)
    by (inr e) = inr e

-- among the registers before a number, each that has a rule is listed
pub record HasRulesBefore (rules : List Rule) (changed : List ℕ) (number : ℕ) : Type 0 where
  pub few : length changed ≤ number
  pub small : (n : ℕ) → In n changed → n < number
  pub others : (n : ℕ) → n < number → (get_or rules n found.Unspecified ≡ found.Unspecified) ⊎ In n changed

pub none_before : (rules : List Rule) → HasRulesBefore rules [] 0
none_before rules = record { few = omega arith; small = λ n here. absurd here; others = λ n below. absurd (omega (arith, below)) }

pub without_rule : (rules : List Rule) (changed : List ℕ) (number : ℕ) → get_or rules number found.Unspecified ≡ found.Unspecified → HasRulesBefore rules changed number →
    HasRulesBefore rules changed (number + 1)
without_rule rules changed number none before = record {
  few = (let few = before.few in omega (arith, few));
  small = λ n here. (let small = before.small n here in omega (arith, small));
  others = λ n below. by n below (n == number) refl;
}
  where
    by : (n : ℕ) → n < number + 1 → (b : Bool) → (n == number) ≡ b → (get_or rules n found.Unspecified ≡ found.Unspecified) ⊎ In n changed
    by n below true is = let same : n ≡ number = grind (arith, nat_tests, is) in inl (ap (λ i. get_or rules i found.Unspecified) same ∙ none)
    by n below false is = before.others n (grind (arith, nat_tests, is, below))

pub with_rule : (rules : List Rule) (changed : List ℕ) (number : ℕ) → HasRulesBefore rules changed number → HasRulesBefore rules (changed ++ number ∷ []) (number + 1)
with_rule rules changed number before = record {
  few = (let few = before.few in omega (arith, few, length-append changed (number ∷ [])));
  small = λ n here. smaller n (in_either changed number n here);
  others = λ n below. by n below (n == number) refl;
}
  where
    smaller : (n : ℕ) → In n changed ⊎ (n ≡ number) → n < number + 1
    smaller n (inl there) = let small = before.small n there in omega (arith, small)
    smaller n (inr e) = omega (arith, e)

    listed : (n : ℕ) → (get_or rules n found.Unspecified ≡ found.Unspecified) ⊎ In n changed → (get_or rules n found.Unspecified ≡ found.Unspecified) ⊎ In n (changed ++ number ∷ [])
    listed n (inl none) = inl none
    listed n (inr there) = inr (behind_too changed number n there)

    by : (n : ℕ) → n < number + 1 → (b : Bool) → (n == number) ≡ b → (get_or rules n found.Unspecified ≡ found.Unspecified) ⊎ In n (changed ++ number ∷ [])
    by n below true is = let same : n ≡ number = grind (arith, nat_tests, is) in inr (subst (λ m. In m (changed ++ number ∷ [])) (sym same) (behind_last changed number))
    by n below false is = listed n (before.others n (grind (arith, nat_tests, is, below)))

pub all_before : (rules : List Rule) (changed : List ℕ) (number : ℕ) → 64 ≤ number → number ≤ 64 → HasRulesBefore rules changed number → HasRulesIn rules changed
all_before rules changed number low high before = has_rules rules changed (record {
  small = λ n here. (let small = before.small n here in omega (arith, small, high));
  others = λ n below. before.others n (omega (arith, below, low));
})

-- a register that is listed is one of 64
pub small_at : (all : List Rule) (changed : List ℕ) (at : ℕ) → HasRulesIn all changed → at < length changed → get_or changed at 0 < 64
small_at all changed at has below = (are_changed all changed has).small (get_or changed at 0) (stands_at changed at 0 below)

pub not_read : (s : State) (cfa : ℕ) (regs : List ℕ) (rules : List Rule) (n : ℕ) → n < length rules → register_of s cfa regs n (get_or rules n found.Unspecified) ≡ None → registers_from s cfa regs 0 rules ≡ None
not_read s cfa regs rules n below none =
    let same : n ≡ 0 + n = omega arith in
    one_missing s cfa regs 0 rules n below (subst (λ j. register_of s cfa regs j (get_or rules n found.Unspecified) ≡ None) same none)
