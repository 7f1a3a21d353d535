-- Each step keeps what holds of the state.
use Rattle.std.proofs.Common.{◌≡◌, ℕ, zero, suc, ◌+◌, List, [], Option, Some, None, refl, subst, arith, sym}
use Rattle.std.specs.Prelude.{⊤, ◌<◌}
use Rattle.eh_outer.specs.declared.module.Reply.{Reply}
use Rattle.region_forms.specs.Form.{Regions}
use Rattle.region_forms.specs.World.{Word, Frame, World}
use Rattle.linear_forms.specs.Linear.{LinearOp}
use Rattle.linear_forms.specs.Stub.{Function, compiled, end_catch, terminating, call_unexpected}
use Rattle.linear_forms.specs.Activation.{Code, Activation, State, Next, goes_to, finishes, compiled_op, fetch, kinds}
use Rattle.linear_forms.specs.Machine.{step, act_on}
use Rattle.linear_forms.specs.Pace.{LeadsOn, Leads}
use Rattle.linear_forms.specs.Unit.{unit_of}
use Rattle.linear_forms.specs.UnitRun.{code_of, first_state}
use Rattle.flight_homes.specs.Keeps.{Carrying}
use Rattle.flight_homes.specs.Lives.{Known, WorldKnown, known_in}
use Rattle.flight_homes.specs.Whole.{IsWhole}
use Rattle.flight_homes.specs.WholeCalls.{CallsWhole}
use Rattle.flight_homes.proofs.First.{first_states_stand as calls_stand_first}
use Rattle.flight_homes.proofs.Steps.{steps_keep_calls}
use Rattle.flight_homes.proofs.Whole.{nothing_whole}
use Rattle.flight_homes.proofs.Living.{steps_keep_lives}
use Rattle.flight_homes.proofs.WholeRuns.{steps_keep_whole}
use Rattle.linear_invariant.specs.Handled.{IsGiven, WorldKeeps}
use Rattle.linear_invariant.specs.Calls.{Marks, unmarked, CallKeeps, CallsKeep}
use Rattle.linear_invariant.specs.Code.{CodeFits}
use Rattle.linear_invariant.specs.Stands.{LeadsStand, NewMarked, StandsIn, StepsStand, FirstStatesStand, RunsStand}
use Rattle.linear_invariant.proofs.Tops.{called, nothing_forgets, first_carries, Goes}
use Rattle.linear_invariant.proofs.Compiled.{act_goes}
use Rattle.linear_invariant.proofs.Stubs.{catch_goes, ending_goes, passing_goes}

module _ (marks : Marks) (code : Code) (k : Carrying) (fits : CodeFits marks.known code k) (m : ℕ) (fs : List Activation) (w : World) (world : WorldKeeps m w) (lives : WorldKnown marks.known w) (others : CallsWhole code fs) where
  compiled_goes : (n p : ℕ) (x : Frame) → NewMarked marks code (record { top = called (compiled n) p x; frames = fs; world = w }) → CallKeeps code k marks None (called (compiled n) p x) fs w → CallsKeep code k marks (Some (compiled n)) fs w → IsWhole (code.kinds_at n) x →
      (o : Option LinearOp) → code.op_at n p ≡ o → Goes marks code k (m + 1) (act_on code (compiled_op o) (called (compiled n) p x) fs w)
  compiled_goes n p x news own rest whole None e = tt
  compiled_goes n p x news own rest whole (Some o) e = act_goes marks code k fits m n p x fs w own rest world lives whole others news o e

  step_goes : (f : Function) (p : ℕ) (x : Frame) → NewMarked marks code (record { top = called f p x; frames = fs; world = w }) → CallKeeps code k marks None (called f p x) fs w → CallsKeep code k marks (Some f) fs w → IsWhole (kinds code f) x →
      Goes marks code k (m + 1) (act_on code (fetch code f p) (called f p x) fs w)
  step_goes (compiled n) p x news own rest whole = compiled_goes n p x news own rest whole (code.op_at n p) refl
  step_goes end_catch p x news own rest whole = catch_goes marks code k fits m fs w world lives others x rest whole p own
  step_goes terminating p x news own rest whole = ending_goes marks code k fits m fs w world lives others x rest whole p own
  step_goes call_unexpected p x news own rest whole = passing_goes marks code k fits m fs w world lives others x rest whole p news own

-- so it is with any code that is as asked, and with any marks
pub step_stands : (marks : Marks) (code : Code) (k : Carrying) (steps : ℕ) (st next : State) → CodeFits marks.known code k → NewMarked marks code st → StandsIn marks code k steps st → step code st ≡ goes_to next →
    StandsIn marks code k (steps + 1) next
step_stands marks code k steps st next fits news h e =
    let goes = subst (Goes marks code k (steps + 1)) e
    (step_goes marks code k fits steps st.frames st.world h.world h.lives h.whole.1 st.top.function st.top.place st.top.frame news h.calls.0 h.calls.1 h.whole.0) in
    record {
      stand = (steps_keep_calls code st next h.stand e).0;
      lives = steps_keep_lives marks.known code st next fits.names h.lives e;
      whole = steps_keep_whole code st next fits.whole h.whole e;
      calls = goes.0;
      world = goes.1;
    }

-- where nothing is said of words, all are marked
all_marked : (known : Known) (code : Code) (st : State) → NewMarked (unmarked known) code st
all_marked known code st = record { raised = λ o e v d runs i there. tt; cancelled = λ o z v runs i. tt }

pub steps_stand : StepsStand
steps_stand r k steps st next fits h e = step_stands (unmarked (known_in r)) (code_of (unit_of r)) k steps st next fits (all_marked (known_in r) (code_of (unit_of r)) st) h e

module _ (r : Regions) (k : Carrying) (words : Word → Type 0) (input : List ℕ) (replies : List (List Reply)) (fits : CodeFits (known_in r) (code_of (unit_of r)) k) where
  abbrev marks : Marks
  marks = record { known = known_in r; words = words }

  abbrev first : State
  first = first_state (unit_of r) input replies

  pub first_stands : IsGiven first.world → StandsIn marks (code_of (unit_of r)) k 0 first
  first_stands given =
      let begin = calls_stand_first r (unit_of r) input replies in
      record {
        stand = begin.0;
        lives = begin.1;
        whole = (λ s e o h a. nothing_whole e o a, tt);
        calls = (
          record {
            forgets = λ s e h a. nothing_forgets marks (code_of (unit_of r)) k (compiled r.main) [] e a;
            carries = first_carries marks (code_of (unit_of r)) k fits.carries (compiled r.main) first.top.frame [] first.world;
            gone = tt;
            slots = tt;
            waits = tt;
          },
          tt,
        );
        world = record { built = tt; once = tt; few = omega arith; given = given };
      }

same_state : (st next : State) → goes_to next ≡ goes_to st → st ≡ next
same_state st next e = let same : next ≡ st = cc e in sym same

-- after any number of steps, each of which is marked
pub run_stands : (marks : Marks) (code : Code) (k : Carrying) (fits : CodeFits marks.known code k) (n before : ℕ) (st next : State) → ((i : ℕ) (middle : State) → i < n → Leads code i st (goes_to middle) → NewMarked marks code middle) →
    StandsIn marks code k before st → Leads code n st (goes_to next) → StandsIn marks code k (before + n) next
run_stands marks code k fits zero before st next news h e =
    let same : before ≡ before + 0 = omega arith in subst (λ i. StandsIn marks code k i next) same (subst (StandsIn marks code k before) (same_state st next e) h)
run_stands marks code k fits (suc n) before st next news h e = go (step code st) refl e (λ middle here more given j. run_stands marks code k fits n (before + 1) middle next more given j)
  where
    later : (middle : State) → step code st ≡ goes_to middle → (i : ℕ) (last : State) → i < n → Leads code i middle (goes_to last) → NewMarked marks code last
    later middle here i last less leads = news (suc i) last (omega (arith, less)) (subst (LeadsOn i (λ m. Leads code i m (goes_to last)) (goes_to last)) (sym here) leads)

    go : (x : Next) → step code st ≡ x → LeadsOn n (λ m. Leads code n m (goes_to next)) (goes_to next) x →
        ((middle : State) → step code st ≡ goes_to middle → ((i : ℕ) (last : State) → i < n → Leads code i middle (goes_to last) → NewMarked marks code last) → StandsIn marks code k (before + 1) middle → Leads code n middle (goes_to next) →
        StandsIn marks code k (before + 1 + n) next) → StandsIn marks code k (before + suc n) next
    go (goes_to middle) i j rest =
        let same : before + 1 + n ≡ before + suc n = omega arith in
        subst (λ m. StandsIn marks code k m next) same (rest middle i (later middle i) (step_stands marks code k before st middle fits (news 0 st (omega arith) refl) h i) j)
    go (finishes f w) i j rest = absurd (cc j.1)

pub first_states_stand : FirstStatesStand
first_states_stand r k input replies fits given = first_stands r k (λ word. ⊤) input replies fits given

pub leads_stand : LeadsStand
leads_stand r k before n st next fits h e =
    run_stands (unmarked (known_in r)) (code_of (unit_of r)) k fits n before st next (λ i middle less leads. all_marked (known_in r) (code_of (unit_of r)) middle) h e

pub runs_stand : RunsStand
runs_stand r k input replies n st fits given e =
    let same : 0 + n ≡ n = omega arith in
    subst (λ i. StandsIn (unmarked (known_in r)) (code_of (unit_of r)) k i st) same
    (leads_stand r k 0 n (first_state (unit_of r) input replies) st fits (first_stands r k (λ word. ⊤) input replies fits given) e)
