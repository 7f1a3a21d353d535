-- The code of a unit in memory, with that of the runtime's own functions in front of it.
use Rattle.std.specs.Prelude.{◌≡◌, ℕ, ℤ, ◌+◌, ◌<◌, ◌^◌, List, ◌++◌, slice_get, Some}
use Rattle.std.specs.List.{flat_map}
use Rattle.rv64_isa.specs.State.{Part}
use Rattle.linear_forms.specs.Linear.{UnitCode}
use Rattle.machine_forms.specs.Piece.{Target, Piece, Places}
use Rattle.machine_forms.specs.Routine.{Routine, all_words, routine_places}
use Rattle.machine_forms.specs.StubCode.{start_routine, stub_words}
use Rattle.machine_forms.specs.Emitted.{unit_routines, main_jump, function_first, target_byte, stub_target}
use Rattle.machine_pieces.specs.Standing.{Ground, PiecesAt}

-- how many words there are, those of the runtime's own functions included
abbrev pub whole_words : UnitCode → ℕ
whole_words u = stub_words + (2 + all_words (unit_routines u))

-- where things stand for pieces with places of their own
abbrev pub ground_at : UnitCode → ℕ → Places → Ground
ground_at u base places = record { places = places; base = base; words = whole_words u }

-- the places of a routine's labels
abbrev pub routine_ground : UnitCode → ℕ → (Target → ℤ) → ℕ → Routine → Ground
routine_ground u base target first r = ground_at u base (routine_places target first r)

-- all pieces of a routine
abbrev pub routine_pieces : Routine → List Piece
routine_pieces r = r.front ++ flat_map (λ b. b) r.blocks

-- from an address on: the first function of a run, the unit's jump to main, and main
pub record UnitAt (u : UnitCode) (base : ℕ) (memory : List Part) : Type 0 where
  pub few : whole_words u < 2 ^ 28
  pub start : PiecesAt memory (routine_ground u base stub_target 0 start_routine) 0 (routine_pieces start_routine)
  pub jump : PiecesAt memory (ground_at u base (record { target = target_byte u; label = λ l. l })) stub_words (main_jump u)
  pub main : (r : Routine) → slice_get (unit_routines u) u.main ≡ Some r →
      PiecesAt memory (routine_ground u base (target_byte u) (stub_words + function_first u u.main) r) (stub_words + function_first u u.main) (routine_pieces r)
