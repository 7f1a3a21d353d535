-- What the reading of a schedule answers.
use Rattle.std.specs.Prelude.{◌≡◌, ⊤, ℕ, ◌+◌, min, List, length, Option, Some, None, Result, Ok, Err}
use Rattle.std.specs.Global.{Vec}
use Rattle.plain_text.specs.Lines.{lines_of}
use Rattle.hart_sched.specs.declared.line.Numbers.{Numbers}
use Rattle.hart_sched.specs.declared.schedule.ScheduleError.{ScheduleError}
use Rattle.hart_sched.specs.declared.schedule.ScheduleError.TheVariants.{Refused, NoMemory}
use Rattle.hart_sched.specs.Schedule.{line_read, entries_from, schedule, Entry, Refusal}

-- a number as it is kept: the greatest number of 64 bits for all from there on
abbrev pub capped : ℕ → ℕ
capped n = min n 18446744073709551615

-- the numbers of a line, the hart's as it is kept
abbrev pub ReadsLine : List ℕ → Option Numbers → Type 0
ReadsLine line None = line_read line ≡ None
ReadsLine line (Some l) = (hart : ℕ) × (line_read line ≡ Some (record { hart = hart; turns = l.turns; width = l.width })) × (l.hart ≡ capped hart)

-- a text has a line that is none, the first of them at a place; or all its lines are of the form
abbrev pub Forms : List ℕ → Option ℕ → Type 0
Forms text (Some place) = entries_from 0 (lines_of text) ≡ Err (record { number = 80; place = place })
Forms text None = (entries : List Entry) × (entries_from 0 (lines_of text) ≡ Ok entries)

-- all lines of a text up to a rest of it are of the form: what its rest's lines are, or where they fail, decides of all
pub record FormSoFar (text rest : List ℕ) : Type 0 where
  pub place : ℕ
  pub at : place + length rest ≡ length text
  pub fails : (refusal : Refusal) → entries_from place (lines_of rest) ≡ Err refusal → entries_from 0 (lines_of text) ≡ Err refusal
  pub reads : (entries : List Entry) → entries_from place (lines_of rest) ≡ Ok entries → (all : List Entry) × (entries_from 0 (lines_of text) ≡ Ok all)

-- the schedule of a text, or its refusal; want of memory is free
abbrev pub Reads : ℕ → List ℕ → Result (Vec (ℕ × ℕ)) ScheduleError → Type 0
Reads harts text (Ok slices) = schedule harts text ≡ Ok slices.items
Reads harts text (Err (Refused number place)) = schedule harts text ≡ Err (record { number = number; place = place })
Reads harts text (Err NoMemory) = ⊤
