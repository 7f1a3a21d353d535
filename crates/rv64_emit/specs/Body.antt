-- What the code of a function in memory stands for.
use Rattle.std.specs.Prelude.{◌≡◌, ℕ, List, [], ◌∷◌, ◌++◌, flat_map, length, nat_eq, unwrap_or}
use Rattle.indexmap.specs.IndexMap.{get}
use Rattle.machine_forms.specs.Routine.{Routine}
use Rattle.rv64_emit.specs.declared.body.Body.{Body}
use Rattle.rv64_emit.specs.Starts.{HasStarts}

-- the code of a routine
pub record StandsFor (b : Body) (r : Routine) : Type 0 where
  pub code : b.code ≡ r.front ++ flat_map (λ block. block) r.blocks
  pub starts : HasStarts b.starts r
  pub labels : (l : ℕ) → unwrap_or (get nat_eq b.labels l) (length r.blocks) ≡ r.label_at l

-- the codes of routines, in their order
abbrev pub AllStandFor : List Body → List Routine → Type 0
AllStandFor [] [] = Unit {0}
AllStandFor (b ∷ bs) (r ∷ rs) = StandsFor b r × AllStandFor bs rs
AllStandFor _ _ = ⊥
