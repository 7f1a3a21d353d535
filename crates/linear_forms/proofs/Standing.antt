-- Each function of a program stands in its unit.
use Rattle.std.proofs.Common.{◌≡◌, ℕ, zero, suc, ◌+◌, ◌<◌, Bool, true, false, List, [], ◌∷◌, length, Some, None, refl, sym, ap, ◌∙◌, subst, arith}
use Rattle.std.specs.Prelude.{slice_get, unwrap_or, if◌then◌else◌}
use Rattle.region_forms.specs.Form.{help_slot, RegionFunction, Regions, kind_of, kinds_of}
use Rattle.region_forms.specs.LowerProgram.{help}
use Rattle.linear_forms.specs.Linear.{LinearOp, plain, label, jump, jump_zero, pad, jump_filter, free, resume, unexpected, return}
use Rattle.linear_forms.specs.Tables.{bare, look_up, sense_in, label_place}
use Rattle.linear_forms.specs.Activation.{Code}
use Rattle.linear_forms.specs.Sites.{Placed}
use Rattle.linear_forms.specs.Frame.{has_pad, code_slots}
use Rattle.linear_forms.specs.Unit.{emitting, placed_code, function_code, unit_of}
use Rattle.linear_forms.specs.UnitRun.{no_code, code_at, code_of}
use Rattle.linear_forms.specs.Means.{FiltersMean}
use Rattle.linear_forms.specs.CodeRuns.{LabelAt, HasAt}
use Rattle.linear_forms.specs.Laws.{FunctionsStand}
use Rattle.linear_forms.proofs.Lists.{mapped, in_front, behind}
use Rattle.linear_forms.proofs.Merging.{sites_are_right}
use Rattle.linear_forms.proofs.Labels.{labels_are_distinct}
use Rattle.linear_forms.proofs.Meaning.{filters_are_right}

-- the code at a function's number is that of the function
code_is : (r : Regions) (n : ℕ) (f : RegionFunction) → slice_get r.functions n ≡ Some f → code_at (unit_of r) n ≡ function_code f
code_is r n f e = ap (λ o. unwrap_or o no_code) (mapped function_code r.functions n f e)

-- code whose function n is this one
record Holds (code : Code) (n : ℕ) (f : RegionFunction) : Type 0 where
  op : (p : ℕ) → code.op_at n p ≡ slice_get (function_code f).ops p
  cover : (p : ℕ) → code.cover_at n p ≡ look_up (function_code f).sites p
  label : (l : ℕ) → code.label_at n l ≡ label_place (function_code f).ops l 0

holds : (r : Regions) (n : ℕ) (f : RegionFunction) → slice_get r.functions n ≡ Some f → Holds (code_of (unit_of r)) n f
holds r n f e =
    let c = code_is r n f e in
    record {
      op = λ p. ap (λ x. slice_get x.ops p) c;
      cover = λ p. ap (λ x. look_up x.sites p) c;
      label = λ l. ap (λ x. label_place x.ops l 0) c;
    }

module _ (code : Code) (n : ℕ) (f : RegionFunction) (h : Holds code n f) where
  label_stands : (o : LinearOp) (p : ℕ) → slice_get (function_code f).ops p ≡ Some o → LabelAt code n p o
  label_stands (plain o) p e = tt
  label_stands (label l) p e = h.label l ∙ labels_are_distinct.found f l p e
  label_stands (jump l) p e = tt
  label_stands (jump_zero v l) p e = tt
  label_stands (pad o s) p e = tt
  label_stands (jump_filter s m l) p e = tt
  label_stands (free s) p e = tt
  label_stands (resume s) p e = tt
  label_stands (unexpected o s) p e = tt
  label_stands (return s) p e = tt

  -- what stands from place p on in the function's code has stood there
  has_from : (post : List Placed) (p : ℕ) → ((k : ℕ) (x : Placed) → slice_get post k ≡ Some x → slice_get (placed_code f) (p + k) ≡ Some x)
      → HasAt code n p post
  has_from [] p at = tt
  has_from (x ∷ post) p at =
      let here : slice_get (placed_code f) p ≡ Some x = subst (λ q. slice_get (placed_code f) q ≡ Some x) (omega arith) (at 0 x refl) in
      let op = mapped (λ y. y.op) (placed_code f) p x here in (
        h.op p ∙ op,
        h.cover p ∙ sites_are_right.said (placed_code f) p ∙ ap (λ o. elim o [ None ↦ bare | Some y ↦ y.cover ]) here,
        label_stands x.op p op,
        has_from post (p + 1) (λ k y e. subst (λ q. slice_get (placed_code f) q ≡ Some y) (omega arith) (at (suc k) y e)),
      )

  has_all : HasAt code n 0 (placed_code f)
  has_all = has_from (placed_code f) 0 (λ k x e. subst (λ q. slice_get (placed_code f) q ≡ Some x) (omega arith) e)

-- what a pad needs are slots for help, and none is as good as one
help_behind : (b : Bool) (k : ℕ) → k < 3 → kind_of (slice_get (if b then help ∷ help ∷ help ∷ [] else []) k) ≡ help_slot
help_behind false k lt = refl
help_behind true zero lt = refl
help_behind true (suc zero) lt = refl
help_behind true (suc (suc zero)) lt = refl
help_behind true (suc (suc (suc k))) lt = absurd (omega (arith, lt))

behind_kind : (f : RegionFunction) (k : ℕ) → k < 3 → kinds_of (code_slots f) (length f.slots + k) ≡ help_slot
behind_kind f k lt =
    ap kind_of (behind f.slots (if has_pad f.body then help ∷ help ∷ help ∷ [] else []) (length f.slots + k) k refl) ∙ help_behind (has_pad f.body) k lt

kinds_are : (r : Regions) (n : ℕ) (f : RegionFunction) → slice_get r.functions n ≡ Some f → (s : ℕ)
    → (code_of (unit_of r)).kinds_at n s ≡ kinds_of (code_slots f) s
kinds_are r n f e s = ap (λ x. kinds_of x.slots s) (code_is r n f e)

pub functions_stand : FunctionsStand
functions_stand r n f e = record {
  has = has_all (code_of (unit_of r)) n f (holds r n f e);
  behind = record {
    object = refl;
    selector = refl;
    way = refl;
    object_kind = kinds_are r n f e (length f.slots) ∙
        subst (λ s. kinds_of (code_slots f) s ≡ help_slot) (omega arith) (behind_kind f 0 (omega arith));
    selector_kind = kinds_are r n f e (length f.slots + 1) ∙ behind_kind f 1 (omega arith);
    way_kind = kinds_are r n f e (length f.slots + 2) ∙ behind_kind f 2 (omega arith);
  };
  kinds = λ s lt. kinds_are r n f e s ∙ ap kind_of (in_front f.slots (if has_pad f.body then help ∷ help ∷ help ∷ [] else []) s lt);
  means = subst (λ x. FiltersMean (sense_in x.types x.lists) (emitting f).filter f.body) (sym (code_is r n f e)) (filters_are_right f.body);
}
