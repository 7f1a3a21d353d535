-- The text of a schedule: lines of a hart's number, a blank and a number of turns, each ended by a line feed.
use Rattle.std.specs.Prelude.{ℕ, ◌+◌, ◌^◌, ◌==◌, ◌<◌, ◌≤◌, nat_le, nat_lt, List, [], ◌∷◌, ◌++◌, length, map, flat_map, sum_by, Option, Some, None, option_and_then, option_map, Result, Ok, Err, if◌then◌else◌}
use Rattle.std.specs.List.{AllByRecursion}
use Rattle.std.specs.Fmt.{decimal}
use Rattle.plain_text.specs.Lines.{lines_of}
use Rattle.hart_sched.specs.Decimal.{number_in, turns_in}

-- a hart's number, and how many turns it gets
abbrev pub Slice : Type 0
Slice = ℕ × ℕ

-- ---- the form
abbrev pub line_of : Slice → List ℕ
line_of (hart, turns) = decimal hart ++ (32 ∷ (decimal turns ++ (10 ∷ [])))

abbrev pub text_of : List Slice → List ℕ
text_of slices = flat_map line_of slices

-- ---- reading
-- what stands before the first such byte, and what behind it
unfoldable pub parted : ℕ → List ℕ → Option (List ℕ × List ℕ)
parted byte [] = None
parted byte (b ∷ bs) = if b == byte then Some ([], bs) else option_map (λ (p : List ℕ × List ℕ). (b ∷ p.0, p.1)) (parted byte bs)

-- the numbers of a line, and how many bytes the first has
pub record Line : Type 0 where
  pub hart : ℕ
  pub turns : ℕ
  pub width : ℕ

abbrev pub alone : List ℕ × List ℕ → Option (List ℕ)
alone (text, []) = Some text
alone (text, b ∷ bs) = None

unfoldable pub line_read : List ℕ → Option Line
line_read line =
    option_and_then (λ (a : List ℕ × List ℕ).
    option_and_then (λ (b : List ℕ × List ℕ).
    option_and_then (λ (digits : List ℕ).
    option_and_then (λ hart.
    option_and_then (λ turns. Some (record { hart = hart; turns = turns; width = length a.0 }))
    (turns_in digits))
    (number_in a.0))
    (alone b))
    (parted 10 a.1))
    (parted 32 line)

-- a line with the places of its numbers
pub record Entry : Type 0 where
  pub line : Line
  pub place : ℕ

abbrev pub slice_of : Entry → Slice
slice_of e = (e.line.hart, e.line.turns)

abbrev pub turns_place : Entry → ℕ
turns_place e = e.place + (e.line.width + 1)

-- a refusal by its number, and its place in the file
pub record Refusal : Type 0 where
  pub number : ℕ
  pub place : ℕ

-- 80: a line is none
abbrev pub and_entries : ℕ → Option Line → Result (List Entry) Refusal → Result (List Entry) Refusal
and_entries place None more = Err (record { number = 80; place = place })
and_entries place (Some line) (Err refusal) = Err refusal
and_entries place (Some line) (Ok entries) = Ok (record { line = line; place = place } ∷ entries)

unfoldable pub entries_from : ℕ → List (List ℕ) → Result (List Entry) Refusal
entries_from place [] = Ok []
entries_from place (line ∷ lines) = and_entries place (line_read line) (entries_from (place + length line) lines)

-- the most turns of a whole schedule
abbrev pub most_turns : ℕ
most_turns = 2 ^ 40

-- 81: there is no such hart; 82: behind so many turns there are too many
unfoldable pub fault_from : ℕ → ℕ → List Entry → Option Refusal
fault_from harts turns [] = None
fault_from harts turns (e ∷ es) =
    if nat_le harts e.line.hart then Some (record { number = 81; place = e.place })
    else if nat_lt most_turns (turns + e.line.turns) then Some (record { number = 82; place = turns_place e })
    else fault_from harts (turns + e.line.turns) es

abbrev pub unless_fault : List Entry → Option Refusal → Result (List Slice) Refusal
unless_fault entries None = Ok (map slice_of entries)
unless_fault entries (Some refusal) = Err refusal

abbrev pub tested : ℕ → Result (List Entry) Refusal → Result (List Slice) Refusal
tested harts (Err refusal) = Err refusal
tested harts (Ok entries) = unless_fault entries (fault_from harts 0 entries)

-- the schedule that a file is for so many harts, or its refusal: 80 anywhere before 81 and 82, and of these the first
unfoldable pub schedule : ℕ → List ℕ → Result (List Slice) Refusal
schedule harts bytes = tested harts (entries_from 0 (lines_of bytes))

-- ---- what a schedule keeps
pub record IsSlice (harts : ℕ) (s : Slice) : Type 0 where
  pub hart : s.0 < harts
  pub some : 1 ≤ s.1
  pub few : s.1 ≤ 4294967295

abbrev pub turns_among : List Slice → ℕ
turns_among slices = sum_by (λ (s : Slice). s.1) slices

pub record IsSchedule (harts : ℕ) (slices : List Slice) : Type 0 where
  pub each : AllByRecursion (IsSlice harts) slices
  pub few : turns_among slices ≤ most_turns
