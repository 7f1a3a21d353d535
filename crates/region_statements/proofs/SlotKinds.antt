-- The kinds of a function's slots are those of its variables.
use Rattle.std.proofs.Common.{◌≡◌, ℕ, zero, suc, ◌+◌, ◌<◌, Bool, true, List, [], ◌∷◌, ◌++◌, map, length, refl, ap, ◌∙◌, arith}
use Rattle.std.specs.Prelude.{◌-◌, replicate, slice_get, unwrap_or}
use Rattle.std.proofs.lemmas.List.{length-map}
use Rattle.cxx_ast.specs.declared.types.Ty.{Ty}
use Rattle.cxx_ast.specs.declared.types.Ty.TheVariants.{Int, Void, Object, IntRef, ObjectRef}
use Rattle.cxx_ast.specs.Plain.{Checked}
use Rattle.region_forms.specs.Form.{Slot, address_slot, help_slot, Region, kinds_of}
use Rattle.region_forms.specs.Layout.{Layout}
use Rattle.region_forms.specs.LowerProgram.{slot_for, help, own_slots, slots_for, lowering}
use Rattle.region_simulation.specs.Reach.{kind_for, KindsFit}

kind_first : (xs ys : List Slot) (s : ℕ) → s < length xs → kinds_of (xs ++ ys) s ≡ kinds_of xs s
kind_first [] ys s lt = absurd (omega (arith, lt))
kind_first (x ∷ xs) ys zero lt = refl
kind_first (x ∷ xs) ys (suc s) lt = kind_first xs ys s (omega (arith, lt))

kind_behind : (xs ys : List Slot) (s t : ℕ) → s ≡ length xs + t → kinds_of (xs ++ ys) s ≡ kinds_of ys t
kind_behind [] ys s t e = let same : s ≡ t = omega (arith, e) in ap (λ q. kinds_of ys q) same
kind_behind (x ∷ xs) ys zero t e = absurd (omega (arith, e))
kind_behind (x ∷ xs) ys (suc s) t e = kind_behind xs ys s t (omega (arith, e))

help_kind : (n s : ℕ) → kinds_of (replicate n help) s ≡ help_slot
help_kind zero s = refl
help_kind (suc n) zero = refl
help_kind (suc n) (suc s) = help_kind n s

slot_kind : (l : Layout) (t : Ty) → (slot_for l t).kind ≡ kind_for t
slot_kind l Int = refl
slot_kind l Void = refl
slot_kind l (Object k) = refl
slot_kind l (IntRef c) = refl
slot_kind l (ObjectRef c k) = refl

variable_kind : (l : Layout) (types : List Ty) (n : ℕ) → n < length types → kinds_of (map (slot_for l) types) n ≡ kind_for (unwrap_or (slice_get types n) Int)
variable_kind l [] n lt = absurd (omega (arith, lt))
variable_kind l (t ∷ types) zero lt = slot_kind l t
variable_kind l (t ∷ types) (suc n) lt = variable_kind l types n (omega (arith, lt))

pub slots_fit : (p : Checked) (l : Layout) (is_member : Bool) (types : List Ty) (body : Region) → KindsFit (lowering p l is_member types) (kinds_of (slots_for l is_member types body))
slots_fit p l is_member types body =
    let own = own_slots is_member in
    let all = map (slot_for l) types in
    let long = length-map types (slot_for l) in
    record {
      variables = λ n lt. kind_behind own (all ++ replicate _ help) (length own + n) n refl ∙ kind_first all (replicate _ help) n (omega (arith, lt, long)) ∙ variable_kind l types n lt;
      behind = λ s le.
          kind_behind own (all ++ replicate _ help) s (s - length own) (omega (arith, le)) ∙
          kind_behind all (replicate _ help) (s - length own) (s - length own - length types) (omega (arith, le, long)) ∙ help_kind _ (s - length own - length types);
    }

pub own_kind : (l : Layout) (types : List Ty) (body : Region) → kinds_of (slots_for l true types body) 0 ≡ address_slot
own_kind l types body = refl
