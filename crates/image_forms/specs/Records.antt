-- Type records, their names, and globals (profile). A record is three words: its kind, the address of its name, and that of the record of
-- its base, or 0.
use Rattle.std.specs.Prelude.{ℕ, ℤ, ◌+◌, List, [], ◌∷◌, ◌++◌, length, flat_map, reverse}
use Rattle.std.specs.Int.{w32, w64, to_le_bytes, cast_unsigned}
use Rattle.eh_bytes.specs.declared.unit.TypeRow.{TypeRow}
use Rattle.image_forms.specs.Placed.{base_at}
use Rattle.image_forms.specs.Room.{kept_name}

-- a name with a zero behind it
abbrev pub name_bytes : TypeRow → List ℕ
name_bytes t = kept_name t ++ 0 ∷ []

abbrev pub names_bytes : List TypeRow → List ℕ
names_bytes types = flat_map name_bytes types

-- the words of the record of a type whose name stands at an address, where the records end at another
abbrev pub record_words : (end name : ℕ) → TypeRow → List ℕ
record_words end name t = t.kind ∷ name ∷ base_at end t.base ∷ []

-- those of the records of types, whose names stand one behind the other from an address on
abbrev pub records_words : (end name : ℕ) → List TypeRow → List (List ℕ)
records_words end name [] = []
records_words end name (t ∷ types) = record_words end name t ∷ records_words end (name + length (name_bytes t)) types

abbrev pub words_bytes : List ℕ → List ℕ
words_bytes words = flat_map (to_le_bytes w64) words

-- the records, each below the one before
abbrev pub records_bytes : (end name : ℕ) → List TypeRow → List ℕ
records_bytes end name types = flat_map words_bytes (reverse (records_words end name types))

-- ints, each below the one before
abbrev pub globals_bytes : List ℤ → List ℕ
globals_bytes globals = flat_map (λ value. to_le_bytes w32 (cast_unsigned w32 value)) (reverse globals)
