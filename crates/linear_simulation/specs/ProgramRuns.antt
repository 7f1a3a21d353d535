-- What the run of a program's linear code shows, against the meaning of its regions.
use Rattle.std.specs.Prelude.{◌≡◌, ℕ, ◌+◌, ◌*◌, ◌≤◌, ◌⊎◌, true, List, ◌++◌}
use Rattle.eh_outer.specs.declared.module.Reply.{Reply}
use Rattle.run_items.specs.declared.item.Item.{Item}
use Rattle.meaning_forms.specs.Outcome.{thrown, cancelled, ended, undefined, out_of_turns, deep}
use Rattle.meaning_forms.specs.Meaning.{Meaning, MainOutcome, returned, stopped_by}
use Rattle.region_forms.specs.Form.{Regions}
use Rattle.region_forms.specs.Meaning.{regions_meaning}
use Rattle.region_forms.specs.WellFormed.{is_well_formed}
use Rattle.linear_forms.specs.Unit.{unit_of}
use Rattle.linear_forms.specs.UnitRun.{code_of, first_state, seen_of, seen_run}
use Rattle.linear_forms.specs.Activation.{Code, State, goes_to}
use Rattle.linear_forms.specs.Machine.{Run, over, budget, exec}
use Rattle.linear_forms.specs.Pace.{pays_at, paying, counted, Leads}
use Rattle.linear_simulation.specs.Watched.{watched_meaning}
use Rattle.linear_simulation.specs.FunctionsRun.{AreSound, program_cost, catches_have_clauses}

-- the items of a run
abbrev pub items_of : Run → List Item
items_of (over e w) = w.items
items_of (budget w) = w.items

-- a list begins with another
abbrev pub BeginsWith : List Item → List Item → Type 0
BeginsWith xs ys = (more : List Item) × (ys ≡ xs ++ more)

-- from so many steps on the run is over, and shows what the meaning shows
abbrev pub Ends : Meaning → ℕ → (ℕ → Run) → Type 0
Ends m enough run = (n : ℕ) → enough ≤ n → seen_run (run n) ≡ seen_of m

-- from so many steps on the items of the run begin with those of the meaning
abbrev pub Begins : Meaning → ℕ → (ℕ → Run) → Type 0
Begins m enough run = (n : ℕ) → enough ≤ n → BeginsWith m.items (items_of (run n))

-- Where a meaning ran out of its turns: a state of the run, after so many steps, that has shown just what the meaning shows. Each turn but
-- that of main's own call was paid by a step on the way, and the state's operation would pay for one more: within fewer such steps than
-- turns a run shows no more than the meaning. Each call and each loop that turned back has a turn of its own, as main's call has.
pub record StopsShort (code : Code) (first : State) (m : Meaning) (turns enough : ℕ) : Type 0 where
  pub steps : ℕ
  pub last : State
  pub few : steps ≤ enough
  pub leads : Leads code steps first (goes_to last)
  pub items : last.world.items ≡ m.items
  pub deepest : last.world.deepest ≡ m.deepest
  pub pays : pays_at code last ≡ true
  pub paid : turns ≤ paying code steps first + 1
  pub counts : counted code steps first + 1 ≤ turns

-- what a run shows where the turns are used up; without a single one main is not even called
pub record RunsOut (code : Code) (first : State) (m : Meaning) (turns enough : ℕ) : Type 0 where
  pub begins : Begins m enough (λ n. exec code n first)
  pub short : 1 ≤ turns → StopsShort code first m turns enough

-- what a run shows where the meaning has an end: it comes to just that, and each of its calls and each loop that turns back has a turn of its
-- own, as main's call has
pub record RunsToEnd (code : Code) (first : State) (m : Meaning) (turns enough : ℕ) : Type 0 where
  pub ends : Ends m enough (λ n. exec code n first)
  pub counts : (n : ℕ) → counted code n first + 1 ≤ turns

-- By how main came out: where the meaning has an end the run comes to just that, with its items, its deepest call and its replies; where
-- the turns are used up, it stands at that place in enough steps and not sooner; where nothing more is said, its items are those that the
-- run begins with. No exception comes out of main.
abbrev pub Shows : MainOutcome → Meaning → (turns enough : ℕ) → Code → State → Type 0
Shows (returned v) m turns enough code first = RunsToEnd code first m turns enough
Shows (stopped_by (thrown e)) m turns enough code first = ⊥
Shows (stopped_by (cancelled n)) m turns enough code first = RunsToEnd code first m turns enough
Shows (stopped_by (ended e)) m turns enough code first = RunsToEnd code first m turns enough
Shows (stopped_by undefined) m turns enough code first = RunsToEnd code first m turns enough
Shows (stopped_by out_of_turns) m turns enough code first = RunsOut code first m turns enough
Shows (stopped_by deep) m turns enough code first = Begins m enough (λ n. exec code n first)

-- what the run of a program's linear code shows, against a meaning: for each turn and one more, so many steps are enough
abbrev pub RunShows : Regions → Meaning → (turns most : ℕ) → List ℕ → List (List Reply) → Type 0
RunShows p m turns most input replies =
    Shows m.main m turns ((turns + 1) * most) (code_of (unit_of p)) (first_state (unit_of p) input replies)

-- for every program of sound functions, every limit of open calls, every input, every list of replies and every number of turns
abbrev pub ProgramRuns : Type 0
ProgramRuns =
    (p : Regions) (most limit : ℕ) → AreSound p most → (input : List ℕ) (replies : List (List Reply)) (turns : ℕ)
    → RunShows p (watched_meaning p input replies turns limit) turns most input replies

-- the watched meaning of a program is its meaning, or main stops there as a call that is too deep
abbrev pub WatchedIsMeant : Type 0
WatchedIsMeant =
    (p : Regions) (limit : ℕ) (input : List ℕ) (replies : List (List Reply)) (turns : ℕ)
    → (watched_meaning p input replies turns limit ≡ regions_meaning p input replies turns limit) ⊎
    ((watched_meaning p input replies turns limit).main ≡ stopped_by deep)

-- So it is for well-formed regions of which each that catches has a clause: the run shows what the watched meaning shows, and what the
-- meaning shows where the watched one does not stop as a call that is too deep.
pub record ProgramsRun : Type 0 where
  pub watched : (p : Regions) (limit : ℕ) → is_well_formed p ≡ true → catches_have_clauses p ≡ true → (input : List ℕ) (replies : List (List Reply)) (turns : ℕ)
      → RunShows p (watched_meaning p input replies turns limit) turns (program_cost p) input replies
  pub meant : (p : Regions) (limit : ℕ) → is_well_formed p ≡ true → catches_have_clauses p ≡ true → (input : List ℕ) (replies : List (List Reply)) (turns : ℕ)
      → ((watched_meaning p input replies turns limit).main ≡ stopped_by deep → ⊥)
      → RunShows p (regions_meaning p input replies turns limit) turns (program_cost p) input replies
