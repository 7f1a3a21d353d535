-- The agreement found by the locations at which rows may change: between two of them each row stays as it is.
use Rattle.std.specs.Prelude.{ℕ, zero, suc, ◌+◌, ◌-◌, nat_lt, min, max, Bool, true, false, List, [], ◌∷◌, flat_map, Option, Some, None, if◌then◌else◌}
use Rattle.std.specs.List.{sum_by}
use Rattle.table_forms.specs.Fde.{Fde, overlap, row_at, next_location}
use Rattle.table_forms.specs.Frames.{sorted}
use Rattle.debug_frames.specs.Least.{lesser}
use Rattle.debug_frames.specs.SameRow.{is_row}
use Rattle.debug_frames.specs.Agreement.{Agreement, same, differ}

-- two FDEs, and the locations that both have, which are not none
pub record Piece : Type 0 where
  pub first : Fde
  pub second : Fde
  pub start : ℕ
  pub end : ℕ

abbrev pub piece_of : Fde → Fde → List Piece
piece_of f g =
    if overlap f.region g.region then record {
      first = f;
      second = g;
      start = max f.region.start g.region.start;
      end = min (f.region.start + f.region.length) (g.region.start + g.region.length);
    } ∷ []
    else []

abbrev pub pieces_of : List Fde → List Fde → List Piece
pieces_of fs gs = flat_map (λ f. flat_map (piece_of f) gs) fs

-- the next location at which one of two rows may change
abbrev pub next_change : Fde → Fde → ℕ → Option ℕ
next_change f g pc = lesser (next_location f pc) (next_location g pc)

abbrev pub differ_from : Bool → ℕ → Option ℕ → (ℕ → Option ℕ) → Option ℕ
differ_from false pc next more = Some pc
differ_from true pc None more = None
differ_from true pc (Some l) more = more l

-- the first location from pc on and before an end at which the rows differ, in at most so many steps
unfoldable pub difference_within : ℕ → Fde → Fde → ℕ → ℕ → Option ℕ
difference_within zero f g end pc = None
difference_within (suc n) f g end pc =
    if nat_lt pc end then differ_from (is_row (row_at f pc) (row_at g pc)) pc (next_change f g pc) (difference_within n f g end) else None

abbrev pub difference_in : Piece → Option ℕ
difference_in p = difference_within (p.end - p.start) p.first p.second p.end p.start

abbrev pub with_difference : Piece → Option ℕ → Option Agreement → Option Agreement
with_difference p None rest = rest
with_difference p (Some pc) rest = Some (differ pc (row_at p.first pc) (row_at p.second pc))

-- the first difference of pieces in rising order
abbrev pub first_difference : List Piece → Option Agreement
first_difference [] = None
first_difference (p ∷ ps) = with_difference p (difference_in p) (first_difference ps)

abbrev pub or_same : Option Agreement → ℕ → ℕ → ℕ → Agreement
or_same None both first second = same both first second
or_same (Some a) both first second = a

abbrev pub size_of : List Fde → ℕ
size_of fs = sum_by (λ f. f.region.length) fs

unfoldable pub agreement : List Fde → List Fde → Agreement
agreement fs gs =
    let pieces = pieces_of (sorted fs) (sorted gs) in
    let both = sum_by (λ p. p.end - p.start) pieces in
    or_same (first_difference pieces) both (size_of fs - both) (size_of gs - both)
