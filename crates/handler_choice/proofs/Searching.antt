-- The search by tables that say the guards ends where the first guard stands that stops the exception.
use Rattle.std.proofs.Common.{◌≡◌, ℕ, suc, ℤ, Bool, true, false, List, [], ◌∷◌, ◌++◌, map, flat_map, length, Option, Some, None, refl, sym, ap, ◌∙◌, subst, inl, inr}
use Rattle.std.specs.Prelude.{◌⊎◌, find, not, ◌||◌, if◌then◌else◌}
use Rattle.meaning_forms.specs.Class.{some_of}
use Rattle.region_forms.specs.Form.{TypeRow}
use Rattle.region_forms.specs.Guard.{Guard, clauses, listed, everything, matches, allows, stops, dooms}
use Rattle.linear_forms.specs.Tables.{Cover, bare, unpadded, padded, Sense, cleanup, clause, list_of, no_sense}
use Rattle.linear_forms.specs.Verdict.{Verdict, target, no_way, clean, nothing_here, or_clean, judged, verdict, pad_verdict, is_cleanup}
use Rattle.linear_forms.specs.Activation.{Code, Activation, look, sense}
use Rattle.linear_forms.specs.Search.{found_by, found_at, found_above}
use Rattle.handler_choice.specs.Says.{AllOpen, senses_of, stopping, Says}
use Rattle.handler_choice.specs.Chosen.{first_stop, target_call, AllSay, IsFirst}
use Rattle.handler_choice.specs.Laws.{TargetsAreNamed, FirstClausesMatch}

-- the first of a list of which a test holds
here : {A : Type 0} (test : A → Bool) (x : A) (xs : List A) → test x ≡ true → find test (x ∷ xs) ≡ Some x
here test x xs e = ap (λ b. if b then Some x else find test xs) e

behind : {A : Type 0} (test : A → Bool) (x : A) (xs : List A) → test x ≡ false → find test (x ∷ xs) ≡ find test xs
behind test x xs e = ap (λ b. if b then Some x else find test xs) e

module _ (rows : List TypeRow) where
  -- a filter that means this decides
  abbrev decides : Option ℕ → Sense → Bool
  decides t (clause u) = matches rows t u
  decides t (list_of types) = not (allows rows types t)
  decides t s = false

  -- the clauses of a try block: the first that matches, if one does
  abbrev Clauses : Option ℕ → List (Option ℕ) → List Sense → Bool → Type 0
  Clauses t ts rest true = (u : Option ℕ) × (find (matches rows t) ts ≡ Some u) × (find (decides t) (map clause ts ++ rest) ≡ Some (clause u))
  Clauses t ts rest false = find (decides t) (map clause ts ++ rest) ≡ find (decides t) rest

  in_clauses : (t : Option ℕ) (ts : List (Option ℕ)) (rest : List Sense) → Clauses t ts rest (some_of (matches rows t) ts)
  in_clauses t [] rest = refl
  in_clauses t (u ∷ ts) rest = go (matches rows t u) refl (in_clauses t ts rest)
    where
      later : (b : Bool) → matches rows t u ≡ false → Clauses t ts rest b → Clauses t (u ∷ ts) rest b
      later true e h = (h.0, behind (matches rows t) u ts e ∙ h.1, behind (decides t) (clause u) (map clause ts ++ rest) e ∙ h.2)
      later false e h = behind (decides t) (clause u) (map clause ts ++ rest) e ∙ h

      go : (b : Bool) → matches rows t u ≡ b → Clauses t ts rest (some_of (matches rows t) ts) → Clauses t (u ∷ ts) rest (b || some_of (matches rows t) ts)
      go true e h = (u, here (matches rows t) u ts e, here (decides t) (clause u) (map clause ts ++ rest) e)
      go false e h = later (some_of (matches rows t) ts) e h

  -- what decides first among the filters of guards, by the guard that stops the exception
  abbrev First : Option ℕ → List Guard → Option Guard → Type 0
  First t gs None = find (decides t) (flat_map senses_of gs) ≡ None
  First t gs (Some g) = (s : Sense) × (find (decides t) (flat_map senses_of gs) ≡ Some s) × IsFirst rows t g s

  in_guards : (t : Option ℕ) (gs : List Guard) → AllOpen gs → First t gs (find (stops rows t) gs)
  in_guards t [] h = refl
  in_guards t (clauses ts ∷ gs) h = go (some_of (matches rows t) ts) (in_clauses t ts (flat_map senses_of gs)) (in_guards t gs h.1)
    where
      later : (o : Option Guard) → find (decides t) (map clause ts ++ flat_map senses_of gs) ≡ find (decides t) (flat_map senses_of gs) → First t gs o → First t (clauses ts ∷ gs) o
      later None e k = e ∙ k
      later (Some g) e k = (k.0, e ∙ k.1, k.2)

      go : (b : Bool) → Clauses t ts (flat_map senses_of gs) b → First t gs (find (stops rows t) gs) → First t (clauses ts ∷ gs) (if b then Some (clauses ts) else find (stops rows t) gs)
      go true k rest = (clause k.0, k.2, (k.0, k.1, refl))
      go false k rest = later (find (stops rows t) gs) k rest
  in_guards t (listed types ∷ gs) h = go (not (allows rows types t)) refl (in_guards t gs h.1)
    where
      later : (o : Option Guard) → not (allows rows types t) ≡ false → First t gs o → First t (listed types ∷ gs) o
      later None e k = behind (decides t) (list_of types) (flat_map senses_of gs) e ∙ k
      later (Some g) e k = (k.0, behind (decides t) (list_of types) (flat_map senses_of gs) e ∙ k.1, k.2)

      go : (b : Bool) → not (allows rows types t) ≡ b → First t gs (find (stops rows t) gs) → First t (listed types ∷ gs) (if b then Some (listed types) else find (stops rows t) gs)
      go true e rest = (list_of types, here (decides t) (list_of types) (flat_map senses_of gs) e, refl)
      go false e rest = later (find (stops rows t) gs) e rest
  in_guards t (everything ∷ gs) h = absurd (cc h.0)

  module _ (senses : ℤ → Sense) where
    -- a verdict, by what decides first; a foreign exception can't pass the list of a specification
    abbrev Decided : Option ℕ → Verdict → Option Sense → Type 0
    Decided t v None = (v ≡ clean) ⊎ (v ≡ nothing_here)
    Decided None v (Some (list_of types)) = v ≡ no_way
    Decided t v (Some s) = (n : ℤ) × (v ≡ target n) × (senses n ≡ s)

    -- a cleanup in front changes nothing where something decides
    cleaned : (t : Option ℕ) (v : Verdict) (o : Option Sense) → Decided t v o → Decided t (or_clean v) o
    cleaned None v None (inl e) = inl (ap or_clean e)
    cleaned None v None (inr e) = inl (ap or_clean e)
    cleaned (Some u) v None (inl e) = inl (ap or_clean e)
    cleaned (Some u) v None (inr e) = inl (ap or_clean e)
    cleaned None v (Some (list_of types)) e = ap or_clean e
    cleaned None v (Some (clause x)) h = (h.0, ap or_clean h.1, h.2)
    cleaned None v (Some cleanup) h = (h.0, ap or_clean h.1, h.2)
    cleaned None v (Some no_sense) h = (h.0, ap or_clean h.1, h.2)
    cleaned (Some u) v (Some (list_of types)) h = (h.0, ap or_clean h.1, h.2)
    cleaned (Some u) v (Some (clause x)) h = (h.0, ap or_clean h.1, h.2)
    cleaned (Some u) v (Some cleanup) h = (h.0, ap or_clean h.1, h.2)
    cleaned (Some u) v (Some no_sense) h = (h.0, ap or_clean h.1, h.2)

    caught : (t : Option ℕ) (n : ℤ) (u : Option ℕ) (v : Verdict) (o : Option Sense) (b : Bool) → senses n ≡ clause u → Decided t v o → Decided t (if b then target n else v) (if b then Some (clause u) else o)
    caught None n u v o true e h = (n, refl, e)
    caught (Some x) n u v o true e h = (n, refl, e)
    caught None n u v o false e h = h
    caught (Some x) n u v o false e h = h

    stopped : (t : ℕ) (n : ℤ) (types : List ℕ) (v : Verdict) (o : Option Sense) (b : Bool) → senses n ≡ list_of types → Decided (Some t) v o →
        Decided (Some t) (if b then v else target n) (if not b then Some (list_of types) else o)
    stopped t n types v o true e h = h
    stopped t n types v o false e h = (n, refl, e)

    -- one filter in front of a chain
    one : (t : Option ℕ) (n : ℤ) (s : Sense) (v : Verdict) (ss : List Sense) → senses n ≡ s → Decided t v (find (decides t) ss) →
        Decided t (judged rows t n s v) (find (decides t) (if is_cleanup s then ss else s ∷ ss))
    one t n cleanup v ss e h = cleaned t v (find (decides t) ss) h
    one t n (clause u) v ss e h = caught t n u v (find (decides t) ss) (matches rows t u) e h
    one None n (list_of types) v ss e h = refl
    one (Some t) n (list_of types) v ss e h = stopped t n types v (find (decides (Some t)) ss) (allows rows types (Some t)) e h
    one t n no_sense v ss e h = h

    chain_decides : (t : Option ℕ) (chain : List ℤ) → Decided t (verdict rows senses chain t) (find (decides t) (stopping senses chain))
    chain_decides None [] = inr refl
    chain_decides (Some t) [] = inr refl
    chain_decides t (n ∷ chain) = one t n (senses n) (verdict rows senses chain t) (stopping senses chain) refl (chain_decides t chain)

    -- a pad without filters is a cleanup
    pad_decides : (t : Option ℕ) (chain : List ℤ) → Decided t (pad_verdict rows senses chain t) (find (decides t) (stopping senses chain))
    pad_decides None [] = inl refl
    pad_decides (Some t) [] = inl refl
    pad_decides t (n ∷ chain) = chain_decides t (n ∷ chain)

    -- The verdict of a pad whose chain says the guards: none of them stops the exception; the first that does dooms it; or it is the target.
    abbrev Ends : Option ℕ → Verdict → Guard → Bool → Type 0
    Ends t v g true = v ≡ no_way
    Ends t v g false = (n : ℤ) × (v ≡ target n) × IsFirst rows t g (senses n)

    abbrev Verdicts : Option ℕ → Verdict → Option Guard → Type 0
    Verdicts t v None = (v ≡ clean) ⊎ (v ≡ nothing_here)
    Verdicts t v (Some g) = Ends t v g (dooms t (Some g))

    by_guard : (t : Option ℕ) (v : Verdict) (g : Guard) (s : Sense) → Decided t v (Some s) → IsFirst rows t g s → Verdicts t v (Some g)
    by_guard None v (clauses ts) (clause u) h k = (h.0, h.1, (k.0, k.1, h.2 ∙ k.2))
    by_guard (Some x) v (clauses ts) (clause u) h k = (h.0, h.1, (k.0, k.1, h.2 ∙ k.2))
    by_guard t v (clauses ts) (list_of types) h k = absurd (cc k.2)
    by_guard t v (clauses ts) cleanup h k = absurd (cc k.2)
    by_guard t v (clauses ts) no_sense h k = absurd (cc k.2)
    by_guard None v (listed types) (list_of others) h k = h
    by_guard (Some x) v (listed types) (list_of others) h k = (h.0, h.1, h.2 ∙ k)
    by_guard t v (listed types) (clause u) h k = absurd (cc k)
    by_guard t v (listed types) cleanup h k = absurd (cc k)
    by_guard t v (listed types) no_sense h k = absurd (cc k)
    by_guard t v everything s h k = absurd k

    by_first : (t : Option ℕ) (v : Verdict) (gs : List Guard) (o : Option Guard) → First t gs o → Decided t v (find (decides t) (flat_map senses_of gs)) → Verdicts t v o
    by_first None v gs None k h = subst (Decided None v) k h
    by_first (Some x) v gs None k h = subst (Decided (Some x) v) k h
    by_first t v gs (Some g) k h = by_guard t v g k.0 (subst (Decided t v) k.1 h) k.2

    pub verdicts : (t : Option ℕ) (gs : List Guard) (p : ℕ) (chain : List ℤ) → Says senses gs (padded p chain) → Verdicts t (pad_verdict rows senses chain t) (find (stops rows t) gs)
    verdicts t gs p chain h =
        by_first t (pad_verdict rows senses chain t) gs (find (stops rows t) gs) (in_guards t gs h.0) (subst (λ ss. Decided t (pad_verdict rows senses chain t) (find (decides t) ss)) h.1 (pad_decides t chain))

-- so many calls are open as have guards
same_depth : (code : Code) (fs : List Activation) (outer : List (List Guard)) → AllSay code fs outer → length fs ≡ length outer
same_depth code [] [] h = refl
same_depth code [] (gs ∷ outer) h = absurd h
same_depth code (a ∷ fs) [] h = absurd h
same_depth code (a ∷ fs) (gs ∷ outer) h = ap suc (same_depth code fs outer h.1)

-- the target by the verdict of a pad, with d calls below
by_verdict : (rows : List TypeRow) (senses : ℤ → Sense) (t : Option ℕ) (v : Verdict) (o : Option Guard) (d e : ℕ) (outer : List (List Guard)) (rest : Option ℕ) → d ≡ e → rest ≡ target_call t (first_stop rows t outer) →
    Verdicts rows senses t v o → found_by v d rest ≡ target_call t (elim o [ None ↦ first_stop rows t outer | Some g ↦ Some (record { depth = e; guard = g }) ])
by_verdict rows senses t v None d e outer rest same below (inl k) = ap (λ x. found_by x d rest) k ∙ below
by_verdict rows senses t v None d e outer rest same below (inr k) = ap (λ x. found_by x d rest) k ∙ below
by_verdict rows senses t v (Some g) d e outer rest same below k = go (dooms t (Some g)) refl k
  where
    go : (b : Bool) → dooms t (Some g) ≡ b → Ends rows senses t v g b →
        found_by v d rest ≡ (if b then None else Some e)
    go true q k = ap (λ x. found_by x d rest) k
    go false q k = ap (λ x. found_by x d rest) k.1 ∙ ap Some same

-- the target in one call, where that farther out is named
one_call : (rows : List TypeRow) (senses : ℤ → Sense) (t : Option ℕ) (gs : List Guard) (c : Cover) (d : ℕ) (outer : List (List Guard)) (rest : Option ℕ) → d ≡ length outer → rest ≡ target_call t (first_stop rows t outer) →
    Says senses gs c → found_at rows senses c t d rest ≡ target_call t (first_stop rows t (gs ∷ outer))
one_call rows senses t gs bare d outer rest same below h = sym (ap (λ x. target_call t (first_stop rows t (x ∷ outer))) h.1)
one_call rows senses t gs unpadded d outer rest same below h = below ∙ sym (ap (λ x. target_call t (first_stop rows t (x ∷ outer))) h)
one_call rows senses t gs (padded p chain) d outer rest same below h =
    by_verdict rows senses t (pad_verdict rows senses chain t) (find (stops rows t) gs) d (length outer) outer rest same below (verdicts rows senses t gs p chain h)

pub targets_are_named : TargetsAreNamed
targets_are_named code [] [] t h = refl
targets_are_named code [] (gs ∷ outer) t h = absurd h
targets_are_named code (a ∷ fs) [] t h = absurd h
targets_are_named code (a ∷ fs) (gs ∷ outer) t h =
    one_call code.rows (sense code a.function) t gs (look code a.function a.place) (length fs) outer (found_above code t fs) (same_depth code fs outer h.1) (targets_are_named code fs outer t h.1) h.0

pub first_clauses_match : FirstClausesMatch
first_clauses_match rows senses gs p chain t g says first stays =
    let v = pad_verdict rows senses chain t in
    let found = subst (Verdicts rows senses t v) first (verdicts rows senses t gs p chain says) in
    subst (Ends rows senses t v g) stays found
