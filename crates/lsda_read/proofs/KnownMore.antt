-- What is known stays known while more is refused.
use Rattle.std.proofs.Common.{◌≡◌, ◌≤◌, ◌⊎◌, inl, inr, ℕ, Bool, true, false, List, length, Option, Some, refl, ap, sym, subst, ◌∙◌, arith, if◌then◌else◌}
use Rattle.std.specs.Prelude.{is_some, IfOk, OnOk, Result, Ok, Err, None}
use Rattle.std.specs.Map.{lookup}
use Rattle.std.specs.Ordering.{nat_cmp}
use Rattle.std.specs.BTreeMap.{BTreeMap, IsEmpty, get, is_at}
use Rattle.eh_bytes.specs.Memory.{Part, Memory}
use Rattle.table_forms.specs.Fault.{Fault, joined, least}
use Rattle.table_forms.specs.LsdaHead.{Head}
use Rattle.table_forms.specs.LsdaTypes.{indices_within, list_faults}
use Rattle.lsda_read.specs.declared.known.ListEnd.{ListEnd}
use Rattle.lsda_read.specs.KnownLists.{AreListsKnown, list_end}
use Rattle.lsda_read.proofs.Absorbed.{same_added}
use Rattle.lsda_read.specs.declared.known.ChainEnd.{ChainEnd}
use Rattle.lsda_read.specs.Known.{AddsFrom, IsKnown, Walked, enough, is_on, with_path}
use Rattle.lsda_read.proofs.Adds.{adds_more, adds_later}
use Rattle.lsda_read.proofs.Path.{all_at}
use Rattle.lsda_read.proofs.Unknown.{unknown_grows}

pub lists_stay : (memory : Memory) (part : Part) (h : Head) (stands now more : Option Fault) (lists : ℕ → Option ListEnd) → now ≡ joined stands more →
    AreListsKnown memory part h stands lists → AreListsKnown memory part h now lists
lists_stay memory part h stands now more lists is known =
    let P : Option Fault → Type 0 = λ s. AreListsKnown memory part h s lists in
    subst P (sym is) (λ types p e typed at n named_at first enough.
    same_added stands more (least (list_faults memory part h types named_at (indices_within n part first p))) (list_end part named_at first e) (known types p e typed at n named_at first enough))

pub chains_stay : (memory : Memory) (part : Part) (h : Head) (stands now more : Option Fault) (chains : ℕ → Option ChainEnd) → now ≡ joined stands more →
    IsKnown memory part h stands chains → IsKnown memory part h now chains
chains_stay memory part h stands now more chains is known p e at = adds_more memory part h stands now more (enough part chains) p e is (known p e at)

-- once the end of a walked chain is noted for all of its path, all is known
pub walked_known : (memory : Memory) (part : Part) (h : Head) (whole : ℕ → ℕ → Option Fault) (stands : Option Fault) (chains chains' : ℕ → Option ChainEnd) (path : List ℕ) (end : ChainEnd) →
    Walked memory part h whole stands chains path end → ((p : ℕ) → chains' p ≡ with_path path end chains p) → IsKnown memory part h stands chains'
walked_known memory part h whole stands chains chains' path end w noted p e at = by (is_on path p) refl (sym (noted p) ∙ at)
  where
    same : Some end ≡ Some e → end ≡ e
    same x = cc

    grows : (q : ℕ) → is_some (chains q) ≡ true → is_some (chains' q) ≡ true
    grows q is = ap is_some (noted q) ∙ by' (is_on path q)
      where
        by' : (b : Bool) → is_some (if b then Some end else chains q) ≡ true
        by' true = refl
        by' false = is

    less : enough part chains ≤ enough part chains'
    less = omega (arith, unknown_grows chains chains' (length part.bytes) grows)

    by : (b : Bool) → is_on path p ≡ b → (if b then Some end else chains p) ≡ Some e → AddsFrom memory part h stands (enough part chains') p e
    by true on at =
        adds_later memory part h stands (enough part chains) (enough part chains') p e less
        (subst (AddsFrom memory part h stands (enough part chains) p) (same at) (all_at (λ q. AddsFrom memory part h stands (enough part chains) q end) path p w.walked on))
    by false on at = other (w.others p e at)
      where
        differ : true ≡ false → ⊥
        differ x = cc

        other : AddsFrom memory part h stands (enough part chains) p e ⊎ (is_on path p ≡ true) → AddsFrom memory part h stands (enough part chains') p e
        other (inl adds) = adds_later memory part h stands (enough part chains) (enough part chains') p e less adds
        other (inr is) = absurd (differ (sym is ∙ on))

-- where nothing is known
pub no_key : {X : Type 0} (m : BTreeMap ℕ X) (p : ℕ) (x : X) → IsEmpty m → get nat_cmp m p ≡ Some x → ⊥
no_key {X = X} m p x empty at = none (lookup (is_at (nat_cmp p)) m.entries) (ap (lookup (is_at (nat_cmp p))) empty) at
  where
    none : (o : Option X) → o ≡ None → o ≡ Some x → ⊥
    none o e at = absurd cc

pub on_ok : {X E : Type 0} (r : Result X E) (P Q : Type 0) → (P → Q) → OnOk r P → OnOk r Q
on_ok (Ok x) P Q f p = f p
on_ok (Err e) P Q f p = tt

pub if_both : {X E : Type 0} (r : Result X E) (P Q R : X → Type 0) → ((x : X) → P x → Q x → R x) → IfOk r P → IfOk r Q → IfOk r R
if_both (Ok x) P Q R f p q = f x p q
if_both (Err e) P Q R f p q = tt
