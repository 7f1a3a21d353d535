-- An object that is freed where a computation comes out.
use Rattle.std.proofs.Common.{◌≡◌, ℕ, ◌≤◌, ◌⊎◌, inl, inr, true, false, List, sym, ap, ◌∙◌, subst, arith}
use Rattle.cxx_ast.specs.Plain.{Checked}
use Rattle.run_items.specs.declared.item.Item.TheVariants.{Free}
use Rattle.meaning_forms.specs.Class.{contains}
use Rattle.meaning_forms.specs.Context.{Guard}
use Rattle.meaning_forms.specs.Guard.{is_doomed}
use Rattle.meaning_forms.specs.World.{exception_type}
use Rattle.meaning_events.specs.Fates.{Story, fate, IsWhole, Tells}
use Rattle.meaning_events.specs.Settles.{Nobody, IsOwn, Spares, Settled, ComesOut}
use Rattle.meaning_events.proofs.Sparing.{made_before, spares_on, spares_change}
use Rattle.meaning_events.proofs.Telling.{without, IsObject, freed_other, freed_is_over, tells_free, handled_other}
use Rattle.meaning_events.proofs.Settling.{not_since, since_on}

-- an exception of a computation's own that is an object and unhandled, while something is done
module _ {own : ℕ → Type 0} (hs : List ℕ) (s s2 : Story) (e : ℕ) (tells : Tells hs s2) (spares : Spares own s s2 (λ q. q ≡ e)) (mine : IsOwn own s e) (object : IsObject (fate s2 e))
    (unhandled : contains hs e ≡ false) where
  made : e ≤ s2.last
  made = made_before hs s2 e tells object.live

  still : {P : ℕ → Type 0} (s3 : Story) → Spares Nobody s2 s3 P → IsObject (fate s3 e)
  still s3 g = subst IsObject (sym (g.spared e (not_since s2 e made))) object

  -- it is freed, and what else comes out stays
  spares_freed : {P : ℕ → Type 0} (s3 : Story) → Spares Nobody s2 s3 P → Spares own s (without e (Free e) s3) P
  spares_freed {P} s3 g =
      spares_change {P = λ q. (q ≡ e) ⊎ P q} s s3 (without e (Free e) s3) e (omega arith) (freed_other s3 e) mine (inr (freed_is_over s3 e (still s3 g))) (λ q other out. rest q other out)
      (spares_on s s2 s3 spares g (λ q out. inl out) (λ q out. inr out))
    where
      rest : (q : ℕ) → (q ≡ e → ⊥) → (q ≡ e) ⊎ P q → P q
      rest q other (inl same) = absurd (other same)
      rest q other (inr out) = out

  pub settled_freed : {P : ℕ → Type 0} (s3 : Story) → Settled hs Nobody s2 s3 P → Settled hs own s (without e (Free e) s3) P
  settled_freed s3 g = record { tells = tells_free hs s3 e (still s3 g.spares) unhandled g.tells; spares = spares_freed s3 g.spares }

  pub comes_freed : (p : Checked) (gs : List Guard) (s3 : Story) (f : ℕ) → Settled hs Nobody s2 s3 (λ q. q ≡ f) → ComesOut p hs gs Nobody s2 s3 f → ComesOut p hs gs own s (without e (Free e) s3) f
  comes_freed p gs s3 f g comes =
      let same : fate (without e (Free e) s3) f ≡ fate s3 f = freed_other s3 e f (other comes.known) in
      record { known = go comes.known; whole = subst IsWhole (sym same) comes.whole; safe = ap (λ x. is_doomed p gs (exception_type x.exception)) same ∙ comes.safe }
    where
      other : (contains hs f ≡ true) ⊎ IsOwn Nobody s2 f → f ≡ e → ⊥
      other (inl there) = handled_other hs e f unhandled there
      other (inr new) = λ same. not_since s2 f (omega (arith, same, made)) new

      go : (contains hs f ≡ true) ⊎ IsOwn Nobody s2 f → (contains hs f ≡ true) ⊎ IsOwn own s f
      go (inl there) = inl there
      go (inr new) = inr (since_on s s2 spares f new)
