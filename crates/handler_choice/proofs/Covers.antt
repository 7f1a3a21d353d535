-- What covers say of guards, with a guard or a cleanup more.
use Rattle.std.proofs.Common.{◌≡◌, ℕ, ℤ, Bool, true, false, List, [], ◌∷◌, ◌++◌, map, flat_map, Option, refl, sym, ap, ◌∙◌, subst}
use Rattle.std.specs.Prelude.{if◌then◌else◌}
use Rattle.meaning_forms.specs.Arithmetic.{int_equal}
use Rattle.meaning_forms.specs.Class.{some_of}
use Rattle.region_forms.specs.Guard.{Guard, clauses, listed}
use Rattle.linear_forms.specs.Tables.{Cover, bare, unpadded, padded, Sense, cleanup, clause, list_of}
use Rattle.linear_forms.specs.Verdict.{is_cleanup}
use Rattle.linear_forms.specs.Agrees.{IsSited}
use Rattle.linear_forms.specs.Means.{Means, AllMean}
use Rattle.linear_forms.specs.Emission.{Emitting, chain_of, cleaned, guarded, filters_of}
use Rattle.handler_choice.specs.Says.{AllOpen, senses_of, stopping, Says}

module _ (senses : ℤ → Sense) where
  -- a cover that lets something out says guards that are no barriers
  pub record Opens (gs : List Guard) (c : Cover) : Type 0 where
    pub apart : AllOpen gs
    pub said : stopping senses (chain_of c) ≡ flat_map senses_of gs

  pub opens : (gs : List Guard) (c : Cover) → IsSited c → Says senses gs c → Opens gs c
  opens gs bare s h = absurd s
  opens gs unpadded s h = subst (λ x. Opens x unpadded) (sym h) (record { apart = tt; said = refl })
  opens gs (padded p chain) s h = record { apart = h.0; said = h.1 }

  -- one filter that means a cleanup stops nothing
  no_stop : (n : ℤ) (chain : List ℤ) → senses n ≡ cleanup → stopping senses (n ∷ chain) ≡ stopping senses chain
  no_stop n chain e = ap (λ x. if is_cleanup x then stopping senses chain else x ∷ stopping senses chain) e

  -- filters of clauses mean them, and stop
  stopping_clauses : (filter : Sense → ℤ) (ts : List (Option ℕ)) (chain : List ℤ) → AllMean senses filter ts →
      stopping senses (map (λ t. filter (clause t)) ts ++ chain) ≡ map clause ts ++ stopping senses chain
  stopping_clauses filter [] chain m = refl
  stopping_clauses filter (t ∷ ts) chain m =
      ap (λ x. if is_cleanup x then stopping senses (map (λ u. filter (clause u)) ts ++ chain) else x ∷ stopping senses (map (λ u. filter (clause u)) ts ++ chain)) m.0 ∙
      ap (λ rest. clause t ∷ rest) (stopping_clauses filter ts chain m.1)

  module _ (em : Emitting) where
    -- in the extent of a pad with a cleanup
    pub cleaned_says : (gs : List Guard) (c : Cover) (p : ℕ) → Means senses em.filter cleanup → Opens gs c → Says senses gs (cleaned em p c)
    cleaned_says gs c p m h = (h.apart, go (some_of (int_equal (em.filter cleanup)) (chain_of c)))
      where
        go : (b : Bool) → stopping senses (if b then chain_of c else em.filter cleanup ∷ chain_of c) ≡ flat_map senses_of gs
        go true = h.said
        go false = no_stop (em.filter cleanup) (chain_of c) m ∙ h.said

    -- of a pad with the clauses of a try block
    pub caught_says : (gs : List Guard) (c : Cover) (p : ℕ) (ts : List (Option ℕ)) → AllMean senses em.filter ts → Opens gs c →
        Says senses (clauses ts ∷ gs) (guarded p (filters_of em ts) c)
    caught_says gs c p ts m h = ((refl, h.apart), stopping_clauses em.filter ts (chain_of c) m ∙ ap (λ rest. map clause ts ++ rest) h.said)

    -- of a pad with the list of a specification
    pub limited_says : (gs : List Guard) (c : Cover) (p : ℕ) (types : List ℕ) → Means senses em.filter (list_of types) → Opens gs c →
        Says senses (listed types ∷ gs) (guarded p (em.filter (list_of types) ∷ []) c)
    limited_says gs c p types m h =
        ((refl, h.apart), ap (λ x. if is_cleanup x then stopping senses (chain_of c) else x ∷ stopping senses (chain_of c)) m ∙ ap (λ rest. list_of types ∷ rest) h.said)
