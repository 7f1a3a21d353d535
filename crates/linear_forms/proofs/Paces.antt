-- Steps that lead on are put together, and those of them of which something is so are added up.
use Rattle.std.proofs.Common.{◌≡◌, ℕ, zero, suc, ◌+◌, ◌≤◌, Bool, true, false, refl, sym, ap, ◌∙◌, subst, arith}
use Rattle.region_forms.specs.World.{World}
use Rattle.linear_forms.specs.Activation.{Code, State, Final, Next, goes_to, finishes}
use Rattle.linear_forms.specs.Machine.{step, exec, go_on}
use Rattle.linear_forms.specs.Pace.{one_if, after, tally, Leads, LeadsOn}

same_state : (m n : State) → goes_to m ≡ goes_to n → m ≡ n
same_state m n e = cc e

none_before : (b : ℕ) → b ≡ 0 + b
none_before b = omega arith

one_before : (a b : ℕ) → suc (a + b) ≡ suc a + b
one_before a b = omega arith

module _ (code : Code) where
  pub leads_both : (a b : ℕ) (m mid : State) (x : Next) → Leads code a m (goes_to mid) → Leads code b mid x → Leads code (a + b) m x
  leads_both zero b m mid x h k = subst (λ n. Leads code n m x) (none_before b) (subst (λ s. Leads code b s x) (same_state mid m h) k)
  leads_both (suc a) b m mid x h k = subst (λ n. Leads code n m x) (one_before a b) (go (λ s i. leads_both a b s mid x i k) (step code m) h)
    where
      go : ((s : State) → Leads code a s (goes_to mid) → Leads code (a + b) s x) → (y : Next) → LeadsOn a (λ s. Leads code a s (goes_to mid)) (goes_to mid) y
          → LeadsOn (a + b) (λ s. Leads code (a + b) s x) x y
      go rest (goes_to s) h = rest s h
      go rest (finishes e w) h = let never = h.1 in absurd (cc never)

  pub tally_both : (flag : State → Bool) (a b : ℕ) (m mid : State) → Leads code a m (goes_to mid) → tally flag code (a + b) m ≡ tally flag code a m + tally flag code b mid
  tally_both flag zero b m mid h =
      let same : tally flag code b m ≡ tally flag code b mid = ap (tally flag code b) (sym (same_state mid m h)) in
      let none : tally flag code (0 + b) m ≡ tally flag code b m = ap (λ n. tally flag code n m) (sym (none_before b)) in
      omega (arith, same, none)
  tally_both flag (suc a) b m mid h = ap (λ n. tally flag code n m) (sym (one_before a b)) ∙ go (one_if (flag m)) (λ s i. tally_both flag a b s mid i) (step code m) h
    where
      go : (here : ℕ) → ((s : State) → Leads code a s (goes_to mid) → tally flag code (a + b) s ≡ tally flag code a s + tally flag code b mid) → (y : Next)
          → LeadsOn a (λ s. Leads code a s (goes_to mid)) (goes_to mid) y → here + after (tally flag code (a + b)) y ≡ (here + after (tally flag code a) y) + tally flag code b mid
      go here rest (goes_to s) h = let more = rest s h in omega (arith, more)
      go here rest (finishes e w) h = let never = h.1 in absurd (cc never)

  -- a run of so many steps and k more goes on from what they lead to
  pub leads_run : (n k : ℕ) (m : State) (x : Next) → Leads code n m x → exec code (n + k) m ≡ go_on (exec code k) x
  leads_run zero k m x h = ap (λ n. exec code n m) (sym (none_before k)) ∙ ap (go_on (exec code k)) (sym h)
  leads_run (suc n) k m x h = ap (λ j. exec code j m) (sym (one_before n k)) ∙ go (λ s i. leads_run n k s x i) (step code m) h
    where
      go : ((s : State) → Leads code n s x → exec code (n + k) s ≡ go_on (exec code k) x) → (y : Next) → LeadsOn n (λ s. Leads code n s x) x y
          → go_on (exec code (n + k)) y ≡ go_on (exec code k) x
      go rest (goes_to s) h = rest s h
      go rest (finishes e w) h = ap (go_on (exec code k)) (sym h.1)

  pub one_step : (m : State) (x : Next) → step code m ≡ x → Leads code 1 m x
  one_step m x e = subst (λ y. LeadsOn 0 (λ s. Leads code 0 s x) x y) (sym e) (by x)
    where
      by : (x : Next) → LeadsOn 0 (λ s. Leads code 0 s x) x x
      by (goes_to s) = refl
      by (finishes e w) = (refl, refl)

  pub stepped : (n : ℕ) (m mid : State) (x : Next) → step code m ≡ goes_to mid → Leads code n mid x → Leads code (suc n) m x
  stepped n m mid x e h = subst (λ y. LeadsOn n (λ s. Leads code n s x) x y) (sym e) h

  pub tally_step : (flag : State → Bool) (n : ℕ) (m mid : State) → step code m ≡ goes_to mid → tally flag code (suc n) m ≡ one_if (flag m) + tally flag code n mid
  tally_step flag n m mid e =
      let rest : after (tally flag code n) (step code m) ≡ tally flag code n mid = ap (after (tally flag code n)) e in
      omega (arith, rest)

  pub tally_once : (flag : State → Bool) (m : State) → tally flag code 1 m ≡ one_if (flag m)
  tally_once flag m = let none = nothing_left (step code m) in omega (arith, none)
    where
      nothing_left : (x : Next) → after (tally flag code 0) x ≡ 0
      nothing_left (goes_to s) = refl
      nothing_left (finishes e w) = refl

pub one_at_most : (b : Bool) → one_if b ≤ 1
one_at_most true = omega arith
one_at_most false = omega arith

-- where so many steps lead to an end, no run has more such steps
module _ (code : Code) (flag : State → Bool) where
  pub tally_ended : (j n : ℕ) (m : State) (e : Final) (w : World) → Leads code j m (finishes e w) → tally flag code n m ≤ tally flag code j m
  tally_ended j zero m e w h = omega arith
  tally_ended zero (suc n) m e w h = absurd (cc h)
  tally_ended (suc j) (suc n) m e w h = go (one_if (flag m)) (λ s i. tally_ended j n s e w i) (step code m) h
    where
      go : (here : ℕ) → ((s : State) → Leads code j s (finishes e w) → tally flag code n s ≤ tally flag code j s) → (y : Next)
          → LeadsOn j (λ s. Leads code j s (finishes e w)) (finishes e w) y → here + after (tally flag code n) y ≤ here + after (tally flag code j) y
      go here rest (goes_to s) i = let more = rest s i in omega (arith, more)
      go here rest (finishes f v) i = omega arith
