-- What pads let on.
use Rattle.std.proofs.Common.{◌≡◌, ◌⊎◌, inl, inr, ℕ, ℤ, Bool, true, false, List, [], ◌∷◌, Option, Some, None, refl, sym, ap, ◌∙◌, subst, arith}
use Rattle.std.specs.Prelude.{pos, negsuc, ◌++◌, map, find, ◌||◌, if◌then◌else◌}
use Rattle.std.proofs.lemmas.Bool.Decides.{nat_tests}
use Rattle.meaning_forms.specs.Arithmetic.{int_equal}
use Rattle.region_forms.specs.Form.{TypeRow}
use Rattle.region_forms.specs.Guard.{matches, allows}
use Rattle.linear_forms.specs.Laws.{chosen}
use Rattle.linear_forms.specs.Tables.{Cover, bare, unpadded, padded, Sense, cleanup, clause, list_of}
use Rattle.linear_forms.specs.Verdict.{Verdict, target, no_way, clean, nothing_here, or_clean, verdict, pad_verdict}
use Rattle.linear_forms.specs.Emission.{Emitting, chain_of, filters_of}
use Rattle.linear_forms.specs.Agrees.{IsSited}
use Rattle.linear_forms.proofs.Cleanups.{cleanups_are_seen}
use Rattle.linear_forms.proofs.Choosing.{handlers_are_chosen}
use Rattle.flight_homes.specs.Homes.{is_one_of, GoesOnAs}
use Rattle.flight_homes.specs.LetsOn.{IsEntered, IsNone, PadsLetOn, AllPadsLetOn}

module _ (rows : List TypeRow) (senses : ℤ → Sense) (t : Option ℕ) where
  not_entered : {X : Type 0} (v : Verdict) → no_way ≡ v → IsEntered v → X
  not_entered v e (inl c) = let no : no_way ≡ clean = e ∙ c in absurd (cc no)
  not_entered v e (inr (n, c)) = let no : no_way ≡ target n = e ∙ c in absurd (cc no)

  -- a pad with filters, by what they say
  by_pad : (q : ℕ) (chain : List ℤ) (x v : Verdict) → pad_verdict rows senses chain t ≡ x → or_clean x ≡ v → IsEntered v → GoesOnAs rows senses t v (padded q chain)
  by_pad q chain (target n) v e o h = subst (λ y. GoesOnAs rows senses t y (padded q chain)) o e
  by_pad q chain no_way v e o h = not_entered v o h
  by_pad q chain clean v e o h = subst (λ y. GoesOnAs rows senses t y (padded q chain)) o (inl e)
  by_pad q chain nothing_here v e o h = subst (λ y. GoesOnAs rows senses t y (padded q chain)) o (inr e)

  -- a cover that lets something out
  behind : (c : Cover) (v : Verdict) → IsSited c → or_clean (verdict rows senses (chain_of c) t) ≡ v → IsEntered v → GoesOnAs rows senses t v c
  behind bare v sited o h = absurd sited
  behind unpadded v sited o h = subst (λ y. GoesOnAs rows senses t y unpadded) o tt
  behind (padded q []) v sited o h = subst (λ y. GoesOnAs rows senses t y (padded q [])) o (inl refl)
  behind (padded q (n ∷ chain)) v sited o h = by_pad q (n ∷ chain) (verdict rows senses (n ∷ chain) t) v refl o h

  -- one that is entered is a cleanup or a target before and behind
  entered_same : (x v : Verdict) → x ≡ v → IsEntered v → or_clean x ≡ v
  entered_same (target n) v e h = e
  entered_same no_way v e h = e
  entered_same clean v e h = e
  entered_same nothing_here v e (inl c) = let no : nothing_here ≡ clean = e ∙ c in absurd (cc no)
  entered_same nothing_here v e (inr (n, c)) = let no : nothing_here ≡ target n = e ∙ c in absurd (cc no)

  -- the filter of a clause that is found is one of them
  one_more : (a b : Bool) → b ≡ true → (a || b) ≡ true
  one_more true b e = refl
  one_more false b e = e

  same_int : (z : ℤ) → int_equal z z ≡ true
  same_int (pos n) = grind (arith, nat_tests)
  same_int (negsuc n) = grind (arith, nat_tests)

  found_is_one : (em : Emitting) (ts : List (Option ℕ)) (u : Option ℕ) → find (matches rows t) ts ≡ Some u → is_one_of (em.filter (clause u)) (filters_of em ts) ≡ true
  found_is_one em [] u e = absurd (cc e)
  found_is_one em (x ∷ ts) u e = go (matches rows t x) refl e (λ i. found_is_one em ts u i)
    where
      go : (b : Bool) → matches rows t x ≡ b → (if b then Some x else find (matches rows t) ts) ≡ Some u → (find (matches rows t) ts ≡ Some u → is_one_of (em.filter (clause u)) (filters_of em ts) ≡ true) →
          is_one_of (em.filter (clause u)) (filters_of em (x ∷ ts)) ≡ true
      go true m e rest = let same : x ≡ u = cc e in subst (λ y. is_one_of (em.filter (clause u)) (em.filter (clause y) ∷ filters_of em ts) ≡ true) (sym same)
          (ap (λ b. b || is_one_of (em.filter (clause u)) (filters_of em ts)) (same_int (em.filter (clause u))))
      go false m e rest = one_more (int_equal (em.filter (clause u)) (em.filter (clause x))) (is_one_of (em.filter (clause u)) (filters_of em ts)) (rest e)

  -- of clauses none of which takes it
  chosen_none : (em : Emitting) (ts : List (Option ℕ)) (o : Option (Option ℕ)) (x v : Verdict) → find (matches rows t) ts ≡ o → chosen em.filter o x ≡ v → IsNone v (filters_of em ts) → x ≡ v
  chosen_none em ts None x v f e none = e
  chosen_none em ts (Some u) x v f e none =
      let yes = found_is_one em ts u f in
      let no = none (em.filter (clause u)) (sym e) in
      let never : true ≡ false = sym yes ∙ no in absurd (cc never)

-- a specification's list
limit_lets_on : (rows : List TypeRow) (senses : ℤ → Sense) (t : Option ℕ) (c : Cover) (n : ℤ) (types : List ℕ) (v : Verdict) → IsSited c → senses n ≡ list_of types →
    pad_verdict rows senses (n ∷ chain_of c) t ≡ v → IsEntered v → IsNone v (n ∷ []) → GoesOnAs rows senses t v c
limit_lets_on rows senses None c n types v sited means e h none =
    not_entered rows senses None v (sym (handlers_are_chosen.foreign rows senses n types (chain_of c) means) ∙ e) h
limit_lets_on rows senses (Some u) c n types v sited means e h none =
    go (allows rows types (Some u)) (sym (handlers_are_chosen.list rows senses n types (chain_of c) u means) ∙ e)
  where
    go : (b : Bool) → (if b then verdict rows senses (chain_of c) (Some u) else target n) ≡ v → GoesOnAs rows senses (Some u) v c
    go true same = behind rows senses (Some u) c v sited (entered_same rows senses (Some u) (verdict rows senses (chain_of c) (Some u)) v same h) h
    go false same =
        let no = none n (sym same) in
        let yes : is_one_of n (n ∷ []) ≡ true = ap (λ b. b || false) (same_int rows senses (Some u) n) in
        let never : true ≡ false = sym yes ∙ no in absurd (cc never)

pub all_pads_let_on : AllPadsLetOn
all_pads_let_on rows senses t c = record {
  cleanups = λ n v sited means e h. behind rows senses t c v sited (sym (cleanups_are_seen.raised rows senses n (chain_of c) t means) ∙ e) h;
  handlers = λ em u us v sited means e h none.
      let first = handlers_are_chosen.clauses rows senses em (u ∷ us) (chain_of c) t means in
      let same = chosen_none rows senses t em (u ∷ us) (find (matches rows t) (u ∷ us)) (verdict rows senses (chain_of c) t) v refl (sym first ∙ e) none in
      behind rows senses t c v sited (entered_same rows senses t (verdict rows senses (chain_of c) t) v same h) h;
  limits = λ n types v sited means e h none. limit_lets_on rows senses t c n types v sited means e h none;
}
