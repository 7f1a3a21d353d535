-- The type of an exception as the runtime sees it: the addresses of its record and of the records of its bases.
use Rattle.std.specs.Prelude.{⊤, ℕ, zero, suc, List, [], ◌∷◌, map, length, slice_get, Option, Some, None}
use Rattle.table_forms.specs.Verdict.{Thrown, native, foreign}
use Rattle.region_forms.specs.Form.{TypeRow}
use Rattle.region_forms.specs.Guard.{base_row}
use Rattle.image_forms.specs.Placed.{record_at}

-- a type, its base, the base of that and so on, at most so many
abbrev pub types_within : ℕ → List TypeRow → Option ℕ → List ℕ
types_within zero rows t = []
types_within (suc n) rows None = []
types_within (suc n) rows (Some t) = t ∷ types_within n rows (base_row (slice_get rows t))

-- a type with all its bases, the nearest first
abbrev pub with_bases : List TypeRow → ℕ → List ℕ
with_bases rows t = types_within (suc (length rows)) rows (Some t)

-- a type, its base, the base of that and so on are at most so many
abbrev pub ChainEndsWithin : ℕ → List TypeRow → Option ℕ → Type 0
ChainEndsWithin n rows None = ⊤
ChainEndsWithin zero rows (Some t) = ⊥
ChainEndsWithin (suc n) rows (Some t) = ChainEndsWithin n rows (base_row (slice_get rows t))

-- so many that the runtime reads them all, and no more than there are
pub record ChainEnds (rows : List TypeRow) (t : ℕ) : Type 0 where
  pub read : ChainEndsWithin 64 rows (Some t)
  pub all : ChainEndsWithin (suc (length rows)) rows (Some t)

-- an exception of a type, where the records of types end at an address; one without a type is foreign
abbrev pub thrown_as : (end : ℕ) → List TypeRow → Option ℕ → Thrown
thrown_as end rows None = foreign
thrown_as end rows (Some t) = native (map (record_at end) (with_bases rows t))
