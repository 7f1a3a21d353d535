-- That the code of every region does what the region does.
use Rattle.std.specs.Prelude.{◌≡◌, ℕ, ◌+◌, ◌<◌, ◌≤◌, pos, Bool, true, false, ◌&&◌, List, [], ◌∷◌, length}
use Rattle.meaning_forms.specs.Class.{contains}
use Rattle.region_forms.specs.Form.{Region, seq, op, branch, loop, protect, catch, limit, barrier, leave_region, RegionList, no_regions, region_then, Clauses, no_clauses, clause_then}
use Rattle.region_forms.specs.World.{Frame}
use Rattle.region_forms.specs.Mentioned.{slots_of}
use Rattle.region_forms.specs.Outcome.{State as RegionState}
use Rattle.region_forms.specs.Ending.{Running}
use Rattle.linear_forms.specs.Tables.{Cover, bare, unpadded, padded, cleanup}
use Rattle.linear_forms.specs.Stub.{compiled}
use Rattle.linear_forms.specs.Activation.{Code}
use Rattle.linear_forms.specs.Exits.{Exit, first_label, outs_of}
use Rattle.linear_forms.specs.Emission.{Emitting}
use Rattle.linear_forms.specs.Code.{region_code}
use Rattle.linear_forms.specs.Means.{FiltersMean}
use Rattle.linear_forms.specs.Agrees.{Agrees}
use Rattle.linear_forms.specs.CodeRuns.{HasAt, Site, context_at, SameBelow, LeftAt, Any, Runs, here, SlotsBehind, SameKinds}
use Rattle.linear_forms.specs.Cost.{cost, is_barred}
use Rattle.linear_simulation.specs.Watched.{watched}
use Rattle.linear_simulation.specs.Comes.{CallsRun}

-- Function g of the code is made for one with n slots: the kinds of these, the slots behind them, and that filter 0 is a cleanup.
pub record Fits (code : Code) (run : Running) (em : Emitting) (n g : ℕ) : Type 0 where
  pub kinds : SameKinds code g n run
  pub behind : SlotsBehind code g n em
  pub zero : code.sense_at g (pos 0) ≡ cleanup

-- a cover that lets something out, whose pad has a filter
abbrev pub IsChained : Cover → Type 0
IsChained bare = ⊥
IsChained unpadded = Unit {0}
IsChained (padded p []) = ⊥
IsChained (padded p (n ∷ chain)) = Unit {0}

-- a list of handlers has one
abbrev pub has_one : Clauses → Bool
has_one no_clauses = false
has_one (clause_then t x r cs) = true

-- each region that catches has a clause
abbrev mutual
  pub has_clauses : Region → Bool
  has_clauses (seq rs) = all_have_clauses rs
  has_clauses (op o) = true
  has_clauses (branch v a b) = has_clauses a && has_clauses b
  has_clauses (loop v r) = has_clauses r
  has_clauses (protect r c) = has_clauses r
  has_clauses (catch r cs) = has_one cs && (has_clauses r && clauses_have_clauses cs)
  has_clauses (limit r types) = has_clauses r
  has_clauses (barrier r) = has_clauses r
  has_clauses (leave_region n) = true

  pub all_have_clauses : RegionList → Bool
  all_have_clauses no_regions = true
  all_have_clauses (region_then r rs) = has_clauses r && all_have_clauses rs

  pub clauses_have_clauses : Clauses → Bool
  clauses_have_clauses no_clauses = true
  clauses_have_clauses (clause_then t x r cs) = has_clauses r && clauses_have_clauses cs

-- each exit of these is to one of d regions outside
abbrev pub GoInside : ℕ → List ℕ → Type 0
GoInside d outs = (k : ℕ) → contains outs k ≡ true → k < d

-- wherever an exit to a region outside goes first, that stands at a place or behind it
abbrev pub ExitsAhead : Code → (f q : ℕ) → List Exit → Type 0
ExitsAhead code f q xs = (k : ℕ) → k < length xs → q ≤ code.label_at f (first_label k xs)

-- the code of one region of a function with n slots does what the region does
abbrev pub RegionRuns : Code → (most fuel : ℕ) → Running → Region → Type 0
RegionRuns code most fuel run r =
    (em : Emitting) (n : ℕ) (s : Site) (xs : List Exit) (l p : ℕ) (f : Frame) (st : RegionState)
    → cost r ≤ most → st.turns < fuel → IsChained s.cover → Agrees code (compiled s.func) s.guards s.cover s.frames
    → Fits code run em n s.func → FiltersMean (code.sense_at s.func) em.filter r → is_barred r ≡ true → has_clauses r ≡ true
    → GoInside (length xs) (outs_of r) → ExitsAhead code s.func (p + length (region_code em s.cover xs l p r)) xs → slots_of r ≤ n
    → SameBelow n st.frame f → HasAt code s.func p (region_code em s.cover xs l p r)
    → Runs code most n (cost r) Any (LeftAt code em n s xs (outs_of r)) s (p + length (region_code em s.cover xs l p r)) (here s p f st.world) st.turns
    (watched run r (context_at s) st)

-- the whole: with calls that run, each region runs
abbrev pub CodeRunsWatched : Type 0
CodeRunsWatched = (code : Code) (most fuel : ℕ) (run : Running) → CallsRun code most fuel run → (r : Region) → RegionRuns code most fuel run r
