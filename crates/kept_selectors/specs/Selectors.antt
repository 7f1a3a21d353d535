-- What open calls have in the slots for the numbers of filters.
use Rattle.std.specs.Prelude.{⊤, ◌≡◌, ◌⊎◌, ℕ, ◌<◌, ℤ, pos, negsuc, true, List, [], ◌∷◌, length, Some, slice_get}
use Rattle.eh_outer.specs.declared.module.Reply.{Reply}
use Rattle.region_forms.specs.Form.{Regions}
use Rattle.region_forms.specs.World.{Word, number_word, flying, Frame}
use Rattle.linear_forms.specs.Linear.{CodeSite, UnitCode, unexpected}
use Rattle.linear_forms.specs.Tables.{padded}
use Rattle.linear_forms.specs.Stub.{Function, compiled, end_catch, terminating, call_unexpected, linear}
use Rattle.linear_forms.specs.Activation.{Code, Activation, State, goes_to}
use Rattle.linear_forms.specs.Defined.{RunsAt}
use Rattle.linear_forms.specs.Machine.{step}
use Rattle.linear_forms.specs.Pace.{Leads}
use Rattle.linear_forms.specs.Unit.{unit_of}
use Rattle.linear_forms.specs.UnitRun.{code_at, code_of, first_state}
use Rattle.flight_homes.specs.Homes.{is_one_of}
use Rattle.flight_homes.specs.Keeps.{Carrying}
use Rattle.flight_homes.specs.Lives.{known_in}
use Rattle.linear_invariant.specs.Calls.{unmarked}
use Rattle.linear_invariant.specs.Handled.{IsGiven}
use Rattle.linear_invariant.specs.Code.{CodeFits, CodeCarries}
use Rattle.linear_invariant.specs.Stands.{StandsIn}
use Rattle.kept_selectors.specs.Stopping.{IsList, Stopping, CodeStops}

-- a filter stands in the chain of what covers a place of a function
pub record IsChained (code : Code) (n : ℕ) (filter : ℤ) : Type 0 where
  pub place : ℕ
  pub pad : ℕ
  pub chain : List ℤ
  pub covers : code.cover_at n place ≡ padded pad chain
  pub index : ℕ
  pub is : slice_get chain index ≡ Some filter

-- the number of a list that is among the filters left at a place
abbrev pub IsLeft : Carrying → ℕ → ℕ → ℤ → Type 0
IsLeft k n p z = IsList z × (is_one_of z (k.left n p) ≡ true)

-- At a place a slot has the number of such a filter, or 0, as for a cleanup; what a specification stopped has that of a list, which is left there.
pub record IsSelector (code : Code) (k : Carrying) (n p : ℕ) (word : Word) : Type 0 where
  pub number : ℤ
  pub is : word ≡ number_word number
  pub named : (number ≡ pos 0) ⊎ IsChained code n number
  pub stopped : Stopping code n p → IsLeft k n p number

-- what call_unexpected was given: the number of a list, and the function that has it in a chain
pub record HasList (code : Code) (x : Frame) : Type 0 where
  pub owner : ℕ
  pub owner_is : x.slots 2 ≡ number_word (pos owner)
  pub list : ℕ
  pub list_is : x.slots 1 ≡ number_word (negsuc list)
  pub chained : IsChained code owner (negsuc list)

-- An open call that carries what a pad caught has such a number in its pads' second slot, and call_unexpected has a list with its function.
abbrev pub FrameNamed : Code → Carrying → Function → ℕ → Frame → Type 0
FrameNamed code k (compiled n) p x = k.carries n p ≡ true → IsSelector code k n p (x.slots (k.selector n))
FrameNamed code k end_catch p x = ⊤
FrameNamed code k terminating p x = ⊤
FrameNamed code k call_unexpected p x = HasList code x

abbrev pub SelectorsNamed : Code → Carrying → List Activation → Type 0
SelectorsNamed code k [] = ⊤
SelectorsNamed code k (a ∷ fs) = FrameNamed code k a.function a.place a.frame × SelectorsNamed code k fs

-- each step keeps that
abbrev pub StepsKeepSelectors : Type 0
StepsKeepSelectors = (r : Regions) (k : Carrying) (steps : ℕ) (st next : State) → let code = code_of (unit_of r) in CodeFits (known_in r) code k → CodeStops code → StandsIn (unmarked (known_in r)) code k steps st →
    SelectorsNamed code k (st.top ∷ st.frames) → step code st ≡ goes_to next → SelectorsNamed code k (next.top ∷ next.frames)

-- it holds in the state in which a program begins
abbrev pub FirstSelectors : Type 0
FirstSelectors = (u : UnitCode) (k : Carrying) (input : List ℕ) (replies : List (List Reply)) → CodeCarries (code_of u) k → let first = first_state u input replies in SelectorsNamed (code_of u) k (first.top ∷ first.frames)

-- so it holds after any number of steps
abbrev pub RunsKeepSelectors : Type 0
RunsKeepSelectors = (r : Regions) (k : Carrying) (input : List ℕ) (replies : List (List Reply)) (n : ℕ) (st : State) → let code = code_of (unit_of r) in CodeFits (known_in r) code k → CodeStops code →
    let first = first_state (unit_of r) input replies in IsGiven first.world → Leads code n first (goes_to st) → SelectorsNamed code k (st.top ∷ st.frames)

-- Where a specification passes on what it stopped, its slot has the number of a list that a chain of the function has, and that is left there.
pub record PassesList (code : Code) (k : Carrying) (n p : ℕ) (word : Word) : Type 0 where
  pub list : ℕ
  pub is : word ≡ number_word (negsuc list)
  pub chained : IsChained code n (negsuc list)
  pub left : is_one_of (negsuc list) (k.left n p) ≡ true

abbrev pub PassesHaveLists : Type 0
PassesHaveLists = (code : Code) (k : Carrying) (st : State) (n o s : ℕ) → CodeCarries code k → SelectorsNamed code k (st.top ∷ st.frames) → st.top.function ≡ compiled n → RunsAt code st (linear (unexpected o s)) →
    PassesList code k n st.top.place (st.top.frame.slots s)

-- An exception that a specification stopped has come to its target.
abbrev pub StoppedAreThere : Type 0
StoppedAreThere = (r : Regions) (k : Carrying) (steps n o s e d : ℕ) (st : State) → let code = code_of (unit_of r) in CodeFits (known_in r) code k → StandsIn (unmarked (known_in r)) code k steps st →
    SelectorsNamed code k (st.top ∷ st.frames) → st.top.function ≡ compiled n → RunsAt code st (linear (unexpected o s)) → st.top.frame.slots o ≡ flying e d → d ≡ length st.frames

-- such a filter is one of a site of a function of the unit
pub record InSite (u : UnitCode) (n : ℕ) (filter : ℤ) : Type 0 where
  pub known : n < length u.functions
  pub place : ℕ
  pub site : CodeSite
  pub there : slice_get (code_at u n).sites place ≡ Some site
  pub index : ℕ
  pub is : slice_get site.filters index ≡ Some filter

abbrev pub ChainsAreSites : Type 0
ChainsAreSites = (u : UnitCode) (n : ℕ) (filter : ℤ) → IsChained (code_of u) n filter → InSite u n filter

-- What call_unexpected has in its slots for the number and the function is a list of that function, in a chain of one of its sites.
abbrev pub OpenListsStand : Type 0
OpenListsStand = (u : UnitCode) (k : Carrying) (st : State) (selector : ℤ) (owner : ℕ) → SelectorsNamed (code_of u) k (st.top ∷ st.frames) → st.top.function ≡ call_unexpected → st.top.frame.slots 1 ≡ number_word selector →
    st.top.frame.slots 2 ≡ number_word (pos owner) → (j : ℕ) × (selector ≡ negsuc j) × InSite u owner (negsuc j)
