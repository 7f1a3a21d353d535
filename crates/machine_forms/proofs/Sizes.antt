-- The bytes of frames.
use Rattle.std.proofs.Common.{◌≡◌, refl, arith, ◌+◌, ◌%◌, ◌≤◌, List, [], ◌∷◌}
use Rattle.region_forms.specs.Form.{Slot}
use Rattle.linear_forms.specs.Frame.{slot_bytes, frame_bytes}
use Rattle.machine_forms.specs.KeptLaws.{FramesAreSmall}

even : (slots : List Slot) → slot_bytes slots % 8 ≡ 0
even [] = refl
even (s ∷ slots) = omega (arith, even slots)

frame : (slots : List Slot) → frame_bytes slots ≤ slot_bytes slots + 24
frame slots = omega (arith, even slots)

pub frames_are_small : FramesAreSmall
frames_are_small = record { even = even; frame = frame; int = λ s e. omega (arith, e) }
