-- A module raises an exception in a whole run, and something stops that.
use Rattle.std.proofs.Common.{◌≡◌, refl, ap, arith, ℕ, ◌+◌, ◌≤◌, pos, Bool, true, false, ◌==◌, ◌||◌, List, [], ◌∷◌, ◌++◌, Option, Some, None}
use Rattle.std.specs.Prelude.{slice_get}
use Rattle.std.proofs.lemmas.Bool.Decides.{nat_tests}
use Rattle.eh_outer.specs.declared.module.Reply.{Reply}
use Rattle.eh_outer.specs.declared.module.Reply.TheVariants.{Raise}
use Rattle.run_items.specs.declared.item.Item.{Item}
use Rattle.run_items.specs.declared.item.Item.TheVariants.{Foreign}
use Rattle.meaning_forms.specs.Class.{contains}
use Rattle.cxa_runtime.specs.World as abi
use Rattle.eh_run.specs.Program.{program_of}
use Rattle.region_forms.specs.Caught.{Entry, flown}
use Rattle.region_forms.specs.Form.{Place, Op}
use Rattle.region_forms.specs.Lives.{is_built, can_travel}
use Rattle.region_forms.specs.World.{World, foreign, exception_at}
use Rattle.region_forms.specs.Effect.{raises, is_full, flies, effect}
use Rattle.linear_forms.specs.Linear.{LinearOp, plain}
use Rattle.linear_forms.specs.Stub.{Function, terminating}
use Rattle.linear_forms.specs.Activation.{Activation, State, Code, goes_to, kinds}
use Rattle.linear_forms.specs.Machine.{step}
use Rattle.linear_forms.specs.Pace.{linear_pays}
use Rattle.flight_homes.specs.Keeps.{Carrying, destroyed_in, gone}
use Rattle.flight_homes.specs.Lives.{Known, known_in}
use Rattle.linear_invariant.specs.Held.{NoneHolds}
use Rattle.linear_invariant.specs.Handled.{Unhandled, AllBuilt}
use Rattle.linear_invariant.proofs.Calls.{new_held}
use Rattle.linear_invariant.proofs.Given.{built_number, found_new}
use Rattle.linear_invariant.proofs.Lists.{unhandled_flown, unhandled_again}
use Rattle.machine_simulation.specs.Plan.{Plan}
use Rattle.machine_simulation.specs.Objects.{with_object}
use Rattle.machine_exceptions.specs.Answers.{CallsModule}
use Rattle.address_invariant.proofs.Plans.{plans_go_on}
use Rattle.stub_landings.specs.Landings.{resting, GoesOn, ModulesLand}
use Rattle.step_law.specs.Facts.{regions_for, code_for}
use Rattle.step_law.specs.Standing.{aims}
use Rattle.step_law.specs.Rows.{Run, IsAt, FollowsIn}
use Rattle.step_law.proofs.At.{step_at}
use Rattle.step_law.proofs.Keeping.{kept_by_picked}
use Rattle.step_law.proofs.Raises.{is_running}
use Rattle.step_law.proofs.Replies.{raised_in}
use Rattle.step_law.proofs.Stopped.{MayTravel, PlanGains, stopped_follows}

-- ---- a new exception

-- no handler has it
new_unhandled : (w : World) → ((i : ℕ) → can_travel w i ≡ true → i ≤ w.last_number) → (xs : List Entry) → AllBuilt w xs → Unhandled (w.last_number + 1) xs
new_unhandled w given [] h = tt
new_unhandled w given (y ∷ ys) h = let older = given y.number h.0 in (grind (arith, nat_tests, older), new_unhandled w given ys h.1)

in_both : (xs ys : List ℕ) (e : ℕ) → contains xs e ≡ false → contains ys e ≡ false → contains (xs ++ ys) e ≡ false
in_both [] ys e h i = i
in_both (x ∷ xs) ys e h i = by (x == e) h (λ j. in_both xs ys e j i)
  where
    by : (b : Bool) → (b || contains xs e) ≡ false → (contains xs e ≡ false → contains (xs ++ ys) e ≡ false) → (b || contains (xs ++ ys) e) ≡ false
    by true h rest = absurd (cc h)
    by false h rest = rest h

-- what no open call holds, none waits for
held_gone : (k : Carrying) (f : Option Function) (fs : List Activation) (e : ℕ) → NoneHolds k f fs e → contains (gone fs) e ≡ false
held_gone k f [] e h = refl
held_gone k f (a ∷ fs) e h = in_both (destroyed_in a.function a.frame) (gone fs) e h.1 (held_gone k (Some a.function) fs e h.2)

-- an operation calls a module whose next reply raises, and there is room for an exception
pub record RaisesHere (x : Run) (q : Plan) (n : ℕ) (o : LinearOp) (wants : Option Place) (st : State) : Type 0 where
  pub op : Op
  pub is : o ≡ plain op
  pub unpaid : linear_pays o ≡ false
  pub k : ℕ
  pub token : ℕ
  pub left : List Reply
  pub called : CallsModule q n st wants o (pos k)
  pub reply : slice_get st.world.replies k ≡ Some (Raise token ∷ left)
  pub room : is_full st.world ≡ false
  pub does : let ks = kinds (code_for x.program) st.top.function in effect ks op st.top.frame st.world ≡ raises (st.world.last_number + 1) (raised_in ks wants st.top.frame st.world k token left)

module _ (x : Run) (q : Plan) (before n : ℕ) (o : LinearOp) (wants : Option Place) (st : State) (w : abi.World) (at : IsAt x q before n o st w) (r : RaisesHere x q n o wants st) where
  abbrev world : World
  world = st.world

  abbrev pub new : ℕ
  new = world.last_number + 1

  abbrev pub raised : World
  raised = raised_in (kinds (code_for x.program) st.top.function) wants st.top.frame world r.k r.token r.left

  abbrev known : Known
  known = known_in (regions_for x.program)

  made_before : (i : ℕ) → can_travel world i ≡ true → i ≤ world.last_number
  made_before i can = (built_number known world.last_number world.live i at.stands.stands.lives.lives can).1

  unhandled : Unhandled new world.caught
  unhandled = new_unhandled world made_before world.caught at.stands.stands.world.built

  pub is_foreign_there : exception_at raised new ≡ foreign r.k r.token
  is_foreign_there = found_new known world.last_number (foreign r.k r.token) world.live at.stands.stands.lives.lives

  free : NoneHolds x.carrying None (st.top ∷ st.frames) new
  free = new_held code x.carrying (aims x.program q (st.top ∷ st.frames) w) world None (st.top ∷ st.frames) at.stands.stands.calls new (omega arith) made_before
    where
      code : Code
      code = code_for x.program

  foreign_travels : MayTravel st new raised
  foreign_travels = record {
    can = ap is_built is_foreign_there;
    whole = held_gone x.carrying None (st.top ∷ st.frames) new free;
    again = unhandled_again new (flown new world.caught) (unhandled_flown new new world.caught unhandled);
    caught = refl;
    ending = refl;
  }

  -- a state in which no call is the next
  abbrev elsewhere : State
  elsewhere = record { top = record { function = terminating; place = 0; frame = record { call = world.calls + 1; slots = st.top.frame.slots } }; frames = []; world = flies new raised }

  object_gains : (slot : ℕ) (next : State) → PlanGains q (resting (with_object q new slot) next) st new raised
  object_gains slot next =
      let made = plans_go_on.made q slot world elsewhere at.stands.reaches.objects refl (λ same. omega (arith, same)) in
      record { goes = record { frames = record { unit = refl; hidden = refl }; base = refl; tables = refl }; same = made.same; objects = made.objects }

  pub raised_follows : ModulesLand → (next : State) → step (code_for x.program) st ≡ goes_to next → GoesOn next → FollowsIn x before st w
  raised_follows run next goes_there on =
      let ran = run x.image x.pick q n st next w o wants r.k r.token r.left at.matches (is_running x q before n o st w at) (step_at x q before n o st w at next goes_there) r.called r.reply r.room
      (at.facts.pads q at.stands.unit) (at.facts.filters q at.stands.unit) on in
      let items : List Item = Foreign new r.k r.token ∷ [] in
      stopped_follows x q before n o st next w at r.op r.is r.unpaid new raised r.does goes_there on foreign_travels
      (resting (with_object q new ran.1) next) (object_gains ran.1 next) ran.3.ran.turns ran.3.ran.after items (record {
        shows = ran.0;
        made = record { run = ran.3.ran.runs.run };
        few = ran.3.ran.few;
        kept = kept_by_picked (program_of x.image).image x.pick ran.3.ran.turns w ran.3.ran.after items ran.3.ran.runs;
        none = λ y. refl;
        rests = ran.3.ran.holds.0;
        depth = ran.3.depth;
        found = ran.3.found;
        aim = ran.3.ran.holds.1;
      })
