-- Selectors: which filter a pad is entered with, and which tests it passes.
use Rattle.std.proofs.Common.{◌≡◌, ℕ, ◌⊎◌, inl, inr, Bool, true, false, List, [], ◌∷◌, Option, Some, None, refl, sym, ap, ◌∙◌, subst}
use Rattle.std.specs.Prelude.{ℤ, pos, if◌then◌else◌}
use Rattle.meaning_forms.specs.Arithmetic.{int_equal}
use Rattle.region_forms.specs.Form.{TypeRow}
use Rattle.region_forms.specs.World.{number_word}
use Rattle.region_forms.specs.Guard.{matches, allows}
use Rattle.linear_forms.specs.Tables.{Sense, cleanup, clause, list_of, no_sense}
use Rattle.linear_forms.specs.Verdict.{Verdict, target, no_way, clean, nothing_here, or_clean, judged, verdict}
use Rattle.linear_forms.specs.Operation.{holds_number}
use Rattle.linear_forms.specs.Means.{Means}
use Rattle.linear_forms.proofs.Integers.{equal_is_same}

-- the type of a clause
abbrev clause_type : Sense → Option ℕ
clause_type (clause t) = t
clause_type _ = None

-- what a filter that stops an exception means
abbrev pub Stopping : List TypeRow → (ℤ → Sense) → Option ℕ → ℤ → Type 0
Stopping rows senses ty m = ((u : Option ℕ) × (senses m ≡ clause u) × (matches rows ty u ≡ true)) ⊎
    ((types : List ℕ) × (senses m ≡ list_of types) × (allows rows types ty ≡ false))

module _ (rows : List TypeRow) (senses : ℤ → Sense) where
  unclean : (v : Verdict) (m : ℤ) → or_clean v ≡ target m → v ≡ target m
  unclean (target k) m e = e
  unclean no_way m e = absurd (cc e)
  unclean clean m e = absurd (cc e)
  unclean nothing_here m e = absurd (cc e)

  same_target : (k m : ℤ) → target k ≡ target m → k ≡ m
  same_target k m e = cc e

  stopped_by : (ty : Option ℕ) (k m : ℤ) (x : Sense) (v : Verdict) → senses k ≡ x → judged rows ty k x v ≡ target m → (v ≡ target m → Stopping rows senses ty m) → Stopping rows senses ty m
  stopped_by ty k m cleanup v s e rest = rest (unclean v m e)
  stopped_by ty k m (clause u) v s e rest = go (matches rows ty u) refl e
    where
      go : (b : Bool) → matches rows ty u ≡ b → (if b then target k else v) ≡ target m → Stopping rows senses ty m
      go true h q = inl (u, subst (λ z. senses z ≡ clause u) (same_target k m q) s, h)
      go false h q = rest q
  stopped_by None k m (list_of types) v s e rest = absurd (cc e)
  stopped_by (Some t) k m (list_of types) v s e rest = go (allows rows types (Some t)) refl e
    where
      go : (b : Bool) → allows rows types (Some t) ≡ b → (if b then v else target k) ≡ target m → Stopping rows senses (Some t) m
      go true h q = rest q
      go false h q = inr (types, subst (λ z. senses z ≡ list_of types) (same_target k m q) s, h)
  stopped_by ty k m no_sense v s e rest = rest e

  pub stops_so : (chain : List ℤ) (ty : Option ℕ) (m : ℤ) → verdict rows senses chain ty ≡ target m → Stopping rows senses ty m
  stops_so [] ty m e = absurd (cc e)
  stops_so (k ∷ chain) ty m e = stopped_by ty k m (senses k) (verdict rows senses chain ty) refl e (stops_so chain ty m)

  -- a selector is no filter of a clause that does not match
  abbrev pub NoOther : (filter : Sense → ℤ) → Option ℕ → ℤ → Type 0
  NoOther filter ty sel = (t : Option ℕ) → Means senses filter (clause t) → matches rows ty t ≡ false → sel ≡ filter (clause t) → ⊥

  pub zero_no_other : (filter : Sense → ℤ) (ty : Option ℕ) → senses (pos 0) ≡ cleanup → NoOther filter ty (pos 0)
  zero_no_other filter ty z t m h e = let q : cleanup ≡ clause t = sym z ∙ ap senses e ∙ m in cc q

  pub clause_no_other : (filter : Sense → ℤ) (ty u : Option ℕ) → Means senses filter (clause u) → matches rows ty u ≡ true → NoOther filter ty (filter (clause u))
  clause_no_other filter ty u mu hu t m h e =
      let q : u ≡ t = ap clause_type (sym mu ∙ ap senses e ∙ m) in
      let r : true ≡ false = sym hu ∙ ap (matches rows ty) q ∙ h in
      cc r

  pub outer_no_other : (filter : Sense → ℤ) (ty : Option ℕ) (sel : ℤ) → Stopping rows senses ty sel → NoOther filter ty sel
  outer_no_other filter ty sel (inl (u, su, hu)) t m h e =
      let q : u ≡ t = ap clause_type (sym su ∙ ap senses e ∙ m) in
      let r : true ≡ false = sym hu ∙ ap (matches rows ty) q ∙ h in
      cc r
  outer_no_other filter ty sel (inr (types, su, hu)) t m h e = let q : list_of types ≡ clause t = sym su ∙ ap senses e ∙ m in cc q

-- a test fails where the selector is another, and holds where it is the same
pub fails : (sel k : ℤ) → (sel ≡ k → ⊥) → holds_number (number_word sel) k ≡ false
fails sel k ne = go (int_equal sel k) refl
  where
    go : (b : Bool) → int_equal sel k ≡ b → b ≡ false
    go true e = absurd (ne (equal_is_same sel k e))
    go false e = refl
