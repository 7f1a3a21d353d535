-- The state before main.
use Rattle.std.specs.Prelude.{ℕ, List, Some, None, slice_get}
use Rattle.cxx_ast.specs.Plain.{Checked}
use Rattle.eh_outer.specs.declared.module.Reply.{Reply}
use Rattle.meaning_forms.specs.Class.{int_type}
use Rattle.meaning_forms.specs.Context.{no_context}
use Rattle.meaning_forms.specs.Meaning.{first_world as source_first_world}
use Rattle.region_forms.specs.Layout.{Layout}
use Rattle.region_forms.specs.World.{of_global}
use Rattle.region_forms.specs.Meaning.{no_frame, first_world}
use Rattle.region_simulation.specs.Places.{Places}
use Rattle.region_simulation.specs.Stands.{Stands}

-- at first the globals stand, each at itself
abbrev pub first_places : Checked → Places
first_places p o = elim (slice_get p.globals o) [ None ↦ None | Some v ↦ Some (record { base = of_global o; type = int_type }) ]

-- the state of regions before main stands for the world of the source before main
abbrev pub FirstStands : Type 0
FirstStands =
    (l : Layout) (p : Checked) (input : List ℕ) (replies : List (List Reply)) (turns : ℕ)
    → Stands l p (first_places p) no_context (source_first_world p input replies turns)
    (record { frame = no_frame; world = first_world p.globals input replies; turns = turns })
