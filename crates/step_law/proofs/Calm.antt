-- Several steps one after the other, none of which raises an exception or begins a forced unwind.
use Rattle.std.proofs.Common.{◌≡◌, ◌∙◌, ◌⊎◌, inl, inr, sym, ap, subst, arith, ℕ, zero, suc, ◌+◌, ◌≤◌, ◌<◌, ℤ, List, ◌∷◌, Option, Some, None}
use Rattle.run_items.specs.declared.item.Item.{Item}
use Rattle.cxx_ast.specs.Plain.{Checked}
use Rattle.elf_image.specs.Clean.{CleanImage}
use Rattle.cxa_runtime.specs.World as abi
use Rattle.eh_run.specs.Program.{program_of}
use Rattle.region_forms.specs.Form.{Op}
use Rattle.linear_forms.specs.Linear.{plain}
use Rattle.linear_forms.specs.Stub.{end_catch, linear, stub_op}
use Rattle.linear_forms.specs.Activation.{State, Code, goes_to, fetch}
use Rattle.linear_forms.specs.Machine.{step}
use Rattle.linear_forms.specs.Pace.{paying, Leads, LeadsOn}
use Rattle.linear_forms.proofs.Paces
use Rattle.flight_homes.specs.Keeps.{Carrying}
use Rattle.flight_homes.specs.Lives.{known_in}
use Rattle.linear_invariant.specs.Calls.{unmarked}
use Rattle.linear_invariant.specs.Forced.{newest_forced, ForcedStays}
use Rattle.linear_invariant.specs.Stands.{StandsIn}
use Rattle.linear_invariant.proofs.ForcedRuns.{steps_keep_forced}
use Rattle.linear_invariant.proofs.Steps.{steps_stand}
use Rattle.machine_pieces.specs.Turning.{Turns}
use Rattle.machine_simulation.specs.Objects.{Shows}
use Rattle.machine_simulation.specs.Plan.{Plan}
use Rattle.machine_exceptions.specs.Leaves.{StepsTo}
use Rattle.whole_runs.proofs.Single.{made_by_turns}
use Rattle.whole_runs.proofs.Staying.{once_stays}
use Rattle.whole_runs.proofs.Spending.{first_among}
use Rattle.cost_words.specs.Spends.{spends}
use Rattle.step_law.specs.Facts.{regions_for, code_for, Facts}
use Rattle.step_law.specs.Standing.{StandsBy}
use Rattle.step_law.specs.Rows.{Run, FollowsIn}
use Rattle.step_law.proofs.Keeping.{CalmAt, IsCalm, kept_by_turns, unmarked_stands, ShownBehind, stands_behind}

-- each of so many steps begins where nothing is raised
abbrev pub CalmSteps : Code → ℕ → State → State → Type 0
CalmSteps code zero st next = st ≡ next
CalmSteps code (suc n) st next = CalmAt code st × (middle : State) × (step code st ≡ goes_to middle) × CalmSteps code n middle next

module _ (code : Code) where
  pub calm_leads : (n : ℕ) (st next : State) → CalmSteps code n st next → Leads code n st (goes_to next)
  calm_leads zero st next h = ap goes_to (sym h)
  calm_leads (suc n) st next h = Paces.stepped code n st h.1 (goes_to next) h.2 (calm_leads n h.1 next h.3)

  pub calm_before : (n : ℕ) (st next : State) → CalmSteps code n st next → (j : ℕ) (middle : State) → j < n → Leads code j st (goes_to middle) → CalmAt code middle
  calm_before zero st next h j middle less leads = absurd (omega (arith, less))
  calm_before (suc n) st next h zero middle less leads = let one : st ≡ middle = cc leads in subst (λ m. CalmAt code m) one h.0
  calm_before (suc n) st next h (suc j) middle less leads =
      calm_before n h.1 next h.3 j middle (omega (arith, less)) (subst (LeadsOn j (λ m. Leads code j m (goes_to middle)) (goes_to middle)) h.2 leads)

  -- what is left of steps behind the first
  pub rest_of : (n : ℕ) (st middle next : State) → StepsTo code (suc n) st next → step code st ≡ goes_to middle → StepsTo code n middle next
  rest_of n st middle next h e =
      let both : goes_to h.0 ≡ goes_to middle = sym h.1 ∙ e in let same : h.0 ≡ middle = cc both in subst (λ m. StepsTo code n m next) same h.2

  -- what one step leads to
  pub led_one : (st middle next : State) → step code st ≡ goes_to middle → Leads code 1 st (goes_to next) → middle ≡ next
  led_one st middle next one h =
      let led : LeadsOn 0 (λ m. Leads code 0 m (goes_to next)) (goes_to next) (goes_to middle) = subst (λ y. LeadsOn 0 (λ m. Leads code 0 m (goes_to next)) (goes_to next) y) one h in
      cc led

  -- in end_catch no step raises anything
  none_plain : (p : ℕ) (op : Op) → stub_op end_catch p ≡ Some (linear (plain op)) → ⊥
  none_plain zero op e = cc e
  none_plain (suc zero) op e = cc e
  none_plain (suc (suc zero)) op e = cc e
  none_plain (suc (suc (suc zero))) op e = cc e
  none_plain (suc (suc (suc (suc zero)))) op e = cc e
  none_plain (suc (suc (suc (suc (suc zero))))) op e = cc e
  none_plain (suc (suc (suc (suc (suc (suc zero)))))) op e = cc e
  none_plain (suc (suc (suc (suc (suc (suc (suc p))))))) op e = cc e

  pub catch_calm : (m : State) → m.top.function ≡ end_catch → CalmAt code m
  catch_calm m is op runs = absurd (none_plain m.top.place op (subst (λ f. fetch code f m.top.place ≡ Some (linear (plain op))) is runs))

module _ (p : Checked) (i : CleanImage) (k : Carrying) (tables : ℕ → ℕ) (f : Facts p i k tables) where
  abbrev code_in : Code
  code_in = code_for p

  abbrev pub newest : State → Option ℤ
  newest m = newest_forced k None (m.top ∷ m.frames)

  abbrev pub Stays : (before now : Option ℤ) → Type 0
  Stays before now = (now ≡ None) ⊎ (now ≡ before)

  -- the forced unwind that goes on next is that which was, or none
  one_stays : (steps : ℕ) (st next : State) → StandsIn (unmarked (known_in (regions_for p))) code_in k steps st → CalmAt code_in st → step code_in st ≡ goes_to next → Stays (newest st) (newest next)
  one_stays steps st next h calm e = by (steps_keep_forced (regions_for p) k steps st next f.fits h e)
    where
      by : ForcedStays code_in k st next → Stays (newest st) (newest next)
      by (inl none) = inl none
      by (inr (inl stays)) = inr stays
      by (inr (inr (z, begins, is))) = absurd (subst IsCalm begins.begins (calm begins.op begins.runs))

  pub newest_stays : (n steps : ℕ) (st next : State) → StandsIn (unmarked (known_in (regions_for p))) code_in k steps st → CalmSteps code_in n st next → Stays (newest st) (newest next)
  newest_stays zero steps st next h c = inr (ap newest (sym c))
  newest_stays (suc n) steps st next h c =
      join (newest c.1) (newest_stays n (steps + 1) c.1 next (steps_stand (regions_for p) k steps st c.1 f.fits h c.2) c.3) (one_stays steps st c.1 h c.0 c.2)
    where
      join : (middle : Option ℤ) → Stays middle (newest next) → Stays (newest st) middle → Stays (newest st) (newest next)
      join middle (inl none) first = inl none
      join middle (inr same) (inl none) = inl (same ∙ none)
      join middle (inr same) (inr also) = inr (same ∙ also)

  pub calm_newest : (q : Plan) (before n : ℕ) (st next : State) (w u : abi.World) → StandsBy p i k tables q before st w → CalmSteps code_in n st next → u.unwinding ≡ w.unwinding → (z : ℤ) → newest next ≡ Some z → u.unwinding ≡ Some z
  calm_newest q before n st next w u h c same z now = by (newest_stays n h.steps st next (unmarked_stands p i k tables q before st w h) c)
    where
      by : Stays (newest st) (newest next) → u.unwinding ≡ Some z
      by (inl none) = let no : None ≡ Some z = sym none ∙ now in absurd (cc no)
      by (inr stays) = same ∙ h.forced z (sym stays ∙ now)

-- A round of such steps, of which at most one may pay for a turn. They pay for the turns, and the first of them for all but a few;
pub steps_follow_soon : (x : Run) (q r : Plan) (before steps turns : ℕ) (st next : State) (w u : abi.World) (items : List Item) → Facts x.program x.image x.carrying x.tables → StandsBy x.program x.image x.carrying x.tables q before st w → 0 < steps →
    CalmSteps (code_for x.program) steps st next → paying (code_for x.program) steps st ≤ 1 → 1 ≤ turns → turns ≤ spends (code_for x.program) steps st → turns ≤ spends (code_for x.program) 1 st + 64 → Shows st next items →
    Turns (program_of x.image).image turns w u items → ShownBehind x.program x.carrying q r turns st next w u items → FollowsIn x before st w
steps_follow_soon x q r before steps turns st next w u items f h some calm once many few soon shows turned shown =
    let code : Code = code_for x.program in
    inl (record {
      steps = steps;
      some = some;
      next = next;
      leads = calm_leads code steps st next calm;
      stays = once_stays (program_of x.image).image x.pick code steps st w once;
      items = items;
      shows = shows;
      turns = turns;
      paid = omega (arith, once, many);
      few = few;
      soon = soon;
      after = u;
      made = made_by_turns (program_of x.image).image x.pick turns w u items turned;
      stands = (
        r,
        stands_behind x.program x.image x.carrying x.tables f q r before turns steps st next w u items h (calm_leads code steps st next calm) (calm_before code steps st next calm)
            (kept_by_turns (program_of x.image).image turns w u items turned) shown,
      );
    })

-- or that pays for all
pub steps_follow : (x : Run) (q r : Plan) (before steps turns : ℕ) (st next : State) (w u : abi.World) (items : List Item) → Facts x.program x.image x.carrying x.tables → StandsBy x.program x.image x.carrying x.tables q before st w → 0 < steps →
    CalmSteps (code_for x.program) steps st next → paying (code_for x.program) steps st ≤ 1 → 1 ≤ turns → turns ≤ spends (code_for x.program) 1 st → Shows st next items → Turns (program_of x.image).image turns w u items →
    ShownBehind x.program x.carrying q r turns st next w u items → FollowsIn x before st w
steps_follow x q r before steps turns st next w u items f h some calm once many few shows turned shown =
    let first = first_among (code_for x.program) steps st some in
    steps_follow_soon x q r before steps turns st next w u items f h some calm once many (omega (arith, few, first)) (omega (arith, few)) shows turned shown
