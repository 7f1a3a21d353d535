-- A place that is a kept variable.
use Rattle.std.proofs.Common.{◌≡◌, ◌∙◌, refl, ap, ℕ, Some}
use Rattle.region_forms.specs.Form.{SlotKind, Root, in_slot, through, in_global, Place}
use Rattle.region_forms.specs.World.{of_variable, Frame}
use Rattle.region_forms.specs.Evaluation.{in_memory, slot_location, root_location, locate}
use Rattle.machine_forms.specs.KeptCode.{register_of, root_register}
use Rattle.machine_pieces.specs.Frames.{RootFits}
use Rattle.machine_simulation.specs.Plan.{Plan, function, shape, slot_kinds, setting}
use Rattle.machine_simulation.specs.KeptCalls.{kept_of}
use Rattle.machine_simulation.specs.Operations.{PlaceFits}
use Rattle.machine_simulation.proofs.KeptSlots.{KeptSlot, kept_slot, kept_kind}

-- it is the whole of a slot
pub record KeptPlace (p : Plan) (n : ℕ) (frame : Frame) (q : Place) (rd : ℕ) : Type 0 where
  pub number : ℕ
  pub register : register_of (kept_of p n) number ≡ Some rd
  pub slot : KeptSlot (function p n) number rd
  pub located : locate (slot_kinds p n) frame q ≡ Some (in_memory (record { base = of_variable frame.call number; offset = 0 }))

pub kept_place : (p : Plan) (n : ℕ) (frame : Frame) (q : Place) (rd : ℕ) → root_register (shape p n) q.root ≡ Some rd → PlaceFits p n frame q → KeptPlace p n frame q rd
kept_place p n frame q rd some fits = by q.root q.offset some fits refl
  where
    by : (root : Root) (o : ℕ) → root_register (shape p n) root ≡ Some rd → RootFits (setting p n) (shape p n) (slot_kinds p n) frame root o →
        locate (slot_kinds p n) frame q ≡ root_location (slot_kinds p n) frame root o → KeptPlace p n frame q rd
    by (in_slot s) o is h at =
        let kind = kept_kind (function p n) s rd is in
        record {
          number = s;
          register = is;
          slot = kept_slot (function p n) s rd is;
          located = at ∙ ap (λ (k : SlotKind). Some (slot_location k frame.call s o)) kind ∙ ap (λ i. Some (in_memory (record { base = of_variable frame.call s; offset = i }))) (h.3 rd is);
        }
    by (through s) o is h at = absurd (cc is)
    by (in_global g) o is h at = absurd (cc is)
