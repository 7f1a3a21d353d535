-- A search on its way over instructions.
use Rattle.std.proofs.Common.{◌≡◌, ◌<◌, ℕ, true, false, nat_lt, Option, Some, None, Result, Ok, Err, refl, fold}
use Rattle.std.specs.Prelude.{IsSome, IsOk}
use Rattle.eh_bytes.specs.Memory.{Part}
use Rattle.table_forms.specs.Fault.{Fault}
use Rattle.table_forms.specs.Instruction.{Instruction, Coding, instruction_at}
use Rattle.table_forms.specs.Instructions.{Instructions, states_after, instructions_at}
use Rattle.frame_read.specs.Search.{searched}
use Rattle.frame_read.specs.States.{list_of, states_of}
use Rattle.frame_read.specs.declared.search.Search.{Search}
use Rattle.frame_read.proofs.Folds.{Folds, count_of, starts, goes_some, goes_whole, goes_on, goes_out, whole_counts}

-- some states are remembered there, of which the search takes no note
pub record IsOnWay (c : Coding) (part : Part) (stop first states : ℕ) (before s : Search) (p : ℕ) : Type 0 where
  pub remembered : ℕ
  pub folds : Folds searched (fold searched before (list_of (instructions_at c part stop first states))) (count_of (instructions_at c part stop first states)) c part stop s remembered p

pub begins_way : (c : Coding) (part : Part) (stop first states : ℕ) (before : Search) → IsOk (instructions_at c part stop first states) →
    IsOnWay c part stop first states before before first
begins_way c part stop first states before whole =
    let read = instructions_at c part stop first states in
    record { remembered = states; folds = starts searched c part stop before states first (count_of read) (whole_counts read whole) }

pub way_on : {c : Coding} {part : Part} {stop first states : ℕ} {before s : Search} {p : ℕ} (i : Instruction) (next : ℕ) →
    p < stop → nat_lt p stop ≡ true → p < next → instruction_at c part stop p ≡ Ok (i, next) →
    IsOnWay c part stop first states before s p → IsOnWay c part stop first states before (searched s i) next
way_on {c = c} {part = part} {stop = stop} {first = first} {states = states} {before = before} {s = s} {p = p} i next inside inside' on read way =
    by (states_after i way.remembered) refl (goes_some i next inside inside' read way.folds)
  where
    by : (o : Option ℕ) → states_after i way.remembered ≡ o → IsSome o → IsOnWay c part stop first states before (searched s i) next
    by None e some = absurd cc
    by (Some n) e some = record { remembered = n; folds = goes_on i next n inside inside' on read e way.folds }

pub way_whole : {c : Coding} {part : Part} {stop first states : ℕ} {before s : Search} {p : ℕ} (f : Fault) →
    p < stop → nat_lt p stop ≡ true → instruction_at c part stop p ≡ Err f → IsOnWay c part stop first states before s p → ⊥
way_whole f inside inside' read way = goes_whole f inside inside' read way.folds

pub way_out : {c : Coding} {part : Part} {stop first states : ℕ} {before s : Search} {p : ℕ} →
    nat_lt p stop ≡ false → IsOnWay c part stop first states before s p → fold searched before (list_of (instructions_at c part stop first states)) ≡ s
way_out outside way = (goes_out outside way.folds).0

pub is_whole : (read : Result Instructions Fault) (n : ℕ) → states_of read ≡ Ok n → IsOk read
is_whole (Ok is) n e = refl
is_whole (Err f) n e = absurd cc
