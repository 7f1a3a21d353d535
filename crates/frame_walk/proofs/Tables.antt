-- The segments of a machine, as tables are read from them.
use Rattle.std.proofs.Common.{◌≡◌, List, [], ◌∷◌, map, Option, Some, None, option_map, refl, ap, ◌∙◌, drop}
use Rattle.eh_bytes.specs.declared.segment.Segment.{Segment}
use Rattle.eh_bytes.specs.declared.segment.Segments.{Segments}
use Rattle.eh_bytes.specs.Memory.{part_of, memory_of}
use Rattle.rv64_isa.specs.State.{State}
use Rattle.rv64_machine.specs.Parts as machine
use Rattle.table_forms.specs.Fde.{Fde}
use Rattle.frame_read.specs.Listed.{fde_listed}
use Rattle.frame_read.specs.declared.listed.Fde as shown
use Rattle.frame_walk.specs.Outward.{part_read, tables_of}

pub tables_read : (parts : List Segment) → map part_read (map machine.part_of parts) ≡ map part_of parts
tables_read [] = refl
tables_read (s ∷ parts) = ap (λ l. part_of s ∷ l) (tables_read parts)

-- the FDE that is found of those that are listed
pub none_there : (o : Option Fde) → None ≡ option_map fde_listed o → o ≡ None
none_there None e = refl
none_there (Some f) e = absurd cc

pub one_there : (o : Option Fde) (g : shown.Fde) → Some g ≡ option_map fde_listed o → (f : Fde) × (o ≡ Some f) × (g ≡ fde_listed f)
one_there None g e = absurd cc
one_there (Some f) g e = (f, refl, same g (fde_listed f) e)
  where
    same : (x y : shown.Fde) → (λ (w : Option shown.Fde). w) (Some x) ≡ Some y → x ≡ y
    same x y e = cc

-- they are those that the machine answers
pub tables_same : (s : State) (segments : Segments) → drop 2 s.memory ≡ map machine.part_of segments.parts.items → tables_of s ≡ memory_of segments
tables_same s segments e = ap (map part_read) e ∙ tables_read segments.parts.items
