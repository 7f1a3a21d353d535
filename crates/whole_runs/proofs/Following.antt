-- A run of the ABI machine follows the run of linear code, round by round.
use Rattle.std.proofs.Common.{◌≡◌, ℕ, zero, suc, ◌+◌, ◌≤◌, ◌<◌, ◌⊎◌, inl, inr, Option, Some, None, List, [], ◌++◌, refl, sym, ap, ◌∙◌, subst, append_assoc, arith}
use Rattle.run_items.specs.declared.item.Item.{Item}
use Rattle.cxa_runtime.specs.declared.effect.End.TheVariants as ends
use Rattle.cxa_runtime.specs.Raising.{Image}
use Rattle.cxa_runtime.specs.Run.{Ran, run}
use Rattle.cxa_runtime.specs.World as abi
use Rattle.meaning_forms.specs.Outcome as source
use Rattle.region_forms.specs.World.{World}
use Rattle.linear_forms.specs.Activation.{Code, State, by_program}
use Rattle.linear_simulation.specs.ProgramRuns.{BeginsWith}
use Rattle.linear_simulation.proofs.Lengthening
use Rattle.machine_pieces.specs.Turning.{with_items}
use Rattle.whole_runs.specs.Turns.{Invariant}
use Rattle.whole_runs.specs.Steps.{end_of, StaysBehind, GoesOn, Ends, Overflows, Breaks, Follows, StepsFollow, FollowsFor, FollowsOn}
use Rattle.whole_runs.specs.Runs.{IsCutOff, EndsAs, StopsBefore, Starts, RunsFollowSteps}
use Rattle.whole_runs.proofs.Turning.{Shortened, before_end, CutOff, before_world, nothing_run, nothing_shown}
use Rattle.whole_runs.proofs.Arriving.{Arrives, within_or_behind, begun, deepened, Within, Behind, behind, AtEnd, at_end}

-- a run from a state that has shown items already, against where the linear code comes
record Fares (before : List Item) (o : Option source.End) (v : World) (r : Ran) : Type 0 where
  front : BeginsWith (before ++ r.items) v.items
  end : (r.end ≡ ends.Budget) ⊎ ((why : source.End) × (o ≡ Some why) × (r.end ≡ end_of why) × (before ++ r.items ≡ v.items)) ⊎ ((r.end ≡ ends.Stack) × (4096 ≤ v.deepest))

-- behind the same items
under : (xs ys zs : List Item) → BeginsWith ys zs → BeginsWith (xs ++ ys) (xs ++ zs)
under xs ys zs h = (h.0, ap (λ l. xs ++ l) h.1 ∙ sym (append_assoc xs ys h.0))

module _ (image : Image) (pick : ℕ → ℕ) (code : Code) (most : ℕ) where
  -- with fewer turns than lead to a state from which the code comes there
  cut_off : (before items : List Item) (next v : World) (o : Option source.End) (r : Ran) → next.items ≡ before ++ items → BeginsWith next.items v.items → CutOff r items → Fares before o v r
  cut_off before items next v o r shows on short = record {
    front = Lengthening.longer_on (before ++ r.items) next.items v.items (subst (λ xs. BeginsWith (before ++ r.items) xs) (sym shows) (under before r.items items short.front)) on;
    end = inl short.end;
  }

  -- with more of them
  goes_on : (before items : List Item) (next v : World) (o : Option source.End) (r s : Ran) → next.items ≡ before ++ items → r ≡ with_items items s → Fares next.items o v s → Fares before o v r
  goes_on before items next v o r s shows is h =
      let same : before ++ r.items ≡ next.items ++ s.items =
      ap (λ (x : Ran). before ++ x.items) is ∙ sym (append_assoc before items s.items) ∙ ap (λ xs. xs ++ s.items) (sym shows) in
      let ending : r.end ≡ s.end = ap (λ x. x.end) is in
      record { front = subst (λ xs. BeginsWith xs v.items) (sym same) h.front; end = by same ending h.end }
    where
      by : before ++ r.items ≡ next.items ++ s.items → r.end ≡ s.end
          → (s.end ≡ ends.Budget) ⊎ ((why : source.End) × (o ≡ Some why) × (s.end ≡ end_of why) × (next.items ++ s.items ≡ v.items)) ⊎ ((s.end ≡ ends.Stack) × (4096 ≤ v.deepest))
          → (r.end ≡ ends.Budget) ⊎ ((why : source.End) × (o ≡ Some why) × (r.end ≡ end_of why) × (before ++ r.items ≡ v.items)) ⊎ ((r.end ≡ ends.Stack) × (4096 ≤ v.deepest))
      by same ending (inl e) = inl (ending ∙ e)
      by same ending (inr (inl (why, is, e, whole))) = inr (inl (why, is, ending ∙ e, same ∙ whole))
      by same ending (inr (inr (e, deep))) = inr (inr (ending ∙ e, deep))

  -- where the program ends
  ended : (before items : List Item) (v : World) (o : Option source.End) (why : source.End) (r : Ran) → o ≡ Some why → v.items ≡ before ++ items → Shortened r items (end_of why) → Fares before o v r
  ended before items v o why r is shows h = record { front = subst (λ xs. BeginsWith (before ++ r.items) xs) (sym shows) (under before r.items items h.front); end = by h.over }
    where
      by : (r.end ≡ ends.Budget) ⊎ ((r.end ≡ end_of why) × (r.items ≡ items))
          → (r.end ≡ ends.Budget) ⊎ ((why : source.End) × (o ≡ Some why) × (r.end ≡ end_of why) × (before ++ r.items ≡ v.items)) ⊎ ((r.end ≡ ends.Stack) × (4096 ≤ v.deepest))
      by (inl e) = inl e
      by (inr (e, same)) = inr (inl (why, is, e, ap (λ xs. before ++ xs) same ∙ sym shows))

  -- where the stack is used up
  overflowed : (before items : List Item) (next v : World) (o : Option source.End) (r : Ran) → next.items ≡ before ++ items → BeginsWith next.items v.items → 4096 ≤ v.deepest
      → Shortened r items ends.Stack → Fares before o v r
  overflowed before items next v o r shows on deep h = record {
    front = Lengthening.longer_on (before ++ r.items) next.items v.items (subst (λ xs. BeginsWith (before ++ r.items) xs) (sym shows) (under before r.items items h.front)) on;
    end = by h.over;
  }
    where
      by : (r.end ≡ ends.Budget) ⊎ ((r.end ≡ ends.Stack) × (r.items ≡ items))
          → (r.end ≡ ends.Budget) ⊎ ((why : source.End) × (o ≡ Some why) × (r.end ≡ end_of why) × (before ++ r.items ≡ v.items)) ⊎ ((r.end ≡ ends.Stack) × (4096 ≤ v.deepest))
      by (inl e) = inl e
      by (inr (e, same)) = inr (inr (e, deep))

  -- what is shown of a round is asked of those behind it
  abbrev Later : ℕ → World → Option source.End → Type 0
  Later rounds v o =
      (n k before : ℕ) (st : State) (w : abi.World) → n < rounds → before + k ≤ most → FollowsFor image pick code most rounds before st w → Arrives code n k st v o
      → Fares st.world.items o v (run image pick k w)

  fares : (rounds n k before : ℕ) (st : State) (w : abi.World) (v : World) (o : Option source.End) → n < rounds → before + k ≤ most → FollowsFor image pick code most rounds before st w
      → Arrives code n k st v o → Fares st.world.items o v (run image pick k w)
  fares zero n k before st w v o lt few follow a = absurd (omega (arith, lt))
  fares (suc rounds) n zero before st w v o lt few follow a = record {
    front = subst (λ xs. BeginsWith xs v.items) (sym (nothing_shown image pick w st.world.items)) (begun code n 0 st v o a);
    end = inl (nothing_run image pick w);
  }
  fares (suc rounds) n (suc k) before st w v o lt few follow a =
      by (follow (omega (arith, few))) (λ left j t x u lt2 few2 go arrives. fares rounds left j t x u v o lt2 few2 go arrives)
    where
      -- the run comes there within the steps, so it has too few turns to come past it
      short : (m : ℕ) → StaysBehind image pick code m st w → Within code n (suc k) st v m o → Fares st.world.items o v (run image pick (suc k) w)
      short m stays h =
          let cut = stays n (suc k) h.last h.early h.leads h.pays h.few in
          record { front = subst (λ u. BeginsWith (st.world.items ++ (run image pick (suc k) w).items) u.items) h.world cut.0; end = inl cut.1 }

      turned : (g : GoesOn image pick code (FollowsFor image pick code most rounds) before st w) (b : Behind code n (suc k) st v g.steps g.next o) → Later rounds v o
          → ((j : ℕ) × (suc k ≡ g.turns + j)) ⊎ ((d : ℕ) × (g.turns ≡ suc k + suc d)) → Fares st.world.items o v (run image pick (suc k) w)
      turned g b later (inl (j, e)) =
          goes_on st.world.items g.items g.next.world v o (run image pick (suc k) w) (run image pick j g.after) g.shows (ap (λ i. run image pick i w) e ∙ g.made.run j)
          (later b.left j (before + g.turns) g.next g.after (omega (arith, lt, b.count, g.some)) (omega (arith, few, e)) g.stands (b.arrives g.turns j g.paid e))
      turned g b later (inr (d, e)) =
          cut_off st.world.items g.items g.next.world v o (run image pick (suc k) w) g.shows (begun code b.left 0 g.next v o b.comes)
          (before_world image pick (suc k) (suc d) g.turns w g.after g.items e g.made)

      on_from : (g : GoesOn image pick code (FollowsFor image pick code most rounds) before st w) → Later rounds v o → Within code n (suc k) st v g.steps o ⊎ Behind code n (suc k) st v g.steps g.next o
          → Fares st.world.items o v (run image pick (suc k) w)
      on_from g later (inl h) = short g.steps g.stays h
      on_from g later (inr b) = turned g b later (within_or_behind g.turns (suc k))

      over_with : (e : Ends image pick code st w) → Within code n (suc k) st v e.steps o ⊎ AtEnd code n (suc k) st v (by_program e.why) e.world o → Fares st.world.items o v (run image pick (suc k) w)
      over_with e (inl h) = short e.steps e.stays h
      over_with e (inr final) =
          let why : e.why ≡ final.why = cc final.final in
          ended st.world.items e.items v o e.why (run image pick (suc k) w) (final.is ∙ ap Some (sym why)) (ap (λ u. u.items) (sym final.world) ∙ e.shows)
          (before_end image pick (suc k) w e.items (end_of e.why) e.ends)

      used_up : (f : Overflows image pick code st w) → Within code n (suc k) st v f.steps o ⊎ Behind code n (suc k) st v f.steps f.next o → Fares st.world.items o v (run image pick (suc k) w)
      used_up f (inl h) = short f.steps f.stays h
      used_up f (inr b) =
          overflowed st.world.items f.items f.next.world v o (run image pick (suc k) w) f.shows (begun code b.left 0 f.next v o b.comes) (deepened code b.left 0 f.next v 4096 o f.deep b.comes)
          (before_end image pick (suc k) w f.items ends.Stack f.ends)

      broken : (b : Breaks image pick code st w) → Within code n (suc k) st v b.steps o ⊎ AtEnd code n (suc k) st v b.how b.world o → Fares st.world.items o v (run image pick (suc k) w)
      broken b (inl h) = short b.steps b.stays h
      broken b (inr final) = absurd (b.no_end final.why final.final)

      by : Follows image pick code (FollowsFor image pick code most rounds) before st w → Later rounds v o → Fares st.world.items o v (run image pick (suc k) w)
      by (inl g) later = on_from g later (behind code n (suc k) st v g.steps g.next o g.leads a)
      by (inr (inl e)) later = over_with e (at_end code n (suc k) st v e.steps (by_program e.why) e.world o e.over a)
      by (inr (inr (inl f))) later = used_up f (behind code n (suc k) st v f.steps f.next o f.leads a)
      by (inr (inr (inr b))) later = broken b (at_end code n (suc k) st v b.steps b.how b.world o b.over a)

  -- where an invariant says of each step how it goes on, it goes on and on
  module _ (S : Invariant) (follow : StepsFollow image pick code S most) where
    for_rounds : (rounds before : ℕ) (st : State) (w : abi.World) → S before st w → FollowsFor image pick code most rounds before st w
    for_rounds zero before st w s = tt
    for_rounds (suc rounds) before st w s = λ lt. by (follow before st w s lt) (for_rounds rounds)
      where
        by : Follows image pick code S before st w → ((t : ℕ) (x : State) (v : abi.World) → S t x v → FollowsFor image pick code most rounds t x v)
            → Follows image pick code (FollowsFor image pick code most rounds) before st w
        by (inl g) rest = inl (record {
          steps = g.steps;
          some = g.some;
          next = g.next;
          leads = g.leads;
          stays = g.stays;
          items = g.items;
          shows = g.shows;
          turns = g.turns;
          paid = g.paid;
          few = g.few;
          soon = g.soon;
          after = g.after;
          made = g.made;
          stands = rest (before + g.turns) g.next g.after g.stands;
        })
        by (inr (inl e)) rest = inr (inl e)
        by (inr (inr (inl f))) rest = inr (inr (inl f))
        by (inr (inr (inr b))) rest = inr (inr (inr b))

    pub steps_go_on : (before : ℕ) (st : State) (w : abi.World) → S before st w → FollowsOn image pick code most before st w
    steps_go_on before st w s = λ rounds. for_rounds rounds before st w s

  module _ (first : State) (w : abi.World) (s : Starts image pick (FollowsOn image pick code most) first w) (steps n : ℕ) (v : World) (o : Option source.End) (few : n ≤ most) where
    -- what is behind the first turns is a run of its own
    from_start : ((k : ℕ) → n ≡ s.turns + k → Arrives code steps k first v o) → Fares [] o v (run image pick n w)
    from_start a = by (within_or_behind s.turns n)
      where
        by : ((k : ℕ) × (n ≡ s.turns + k)) ⊎ ((d : ℕ) × (s.turns ≡ n + suc d)) → Fares [] o v (run image pick n w)
        by (inl (k, e)) =
            goes_on [] [] first.world v o (run image pick n w) (run image pick k s.after) s.fresh (ap (λ i. run image pick i w) e ∙ s.made.run k)
            (fares (suc steps) steps k s.turns first s.after v o (omega arith) (omega (arith, few, e)) (s.stands (suc steps)) (a k e))
        by (inr (d, e)) =
            cut_off [] [] first.world v o (run image pick n w) s.fresh (subst (λ xs. BeginsWith xs v.items) (sym s.fresh) (v.items, refl))
            (before_world image pick n (suc d) s.turns w s.after [] e s.made)

pub runs_follow_steps : RunsFollowSteps
runs_follow_steps image pick code most first w s steps = record {
  ended = λ n why v few ends. as_ended why v (run image pick n w) (from_start image pick code most first w s steps n v (Some why) few (λ k e. ends));
  going = λ n last few leads pays paid.
      as_going last.world (run image pick n w)
      (from_start image pick code most first w s steps n last.world None few (λ k e. (last, leads, refl, pays, omega (arith, paid, e, s.some))));
}
  where
    as_ended : (why : source.End) (v : World) (r : Ran) → Fares [] (Some why) v r → EndsAs r why v
    as_ended why v r h = record { front = h.front; end = by h.end }
      where
        by : (r.end ≡ ends.Budget) ⊎ ((y : source.End) × (Some why ≡ Some y) × (r.end ≡ end_of y) × (r.items ≡ v.items)) ⊎ ((r.end ≡ ends.Stack) × (4096 ≤ v.deepest))
            → ((r.end ≡ end_of why) × (r.items ≡ v.items)) ⊎ IsCutOff r v.deepest
        by (inl e) = inr (inl e)
        by (inr (inl (y, is, e, whole))) = let same : y ≡ why = cc is in inl (e ∙ ap end_of same, whole)
        by (inr (inr h)) = inr (inr h)

    as_going : (v : World) (r : Ran) → Fares [] None v r → StopsBefore r v
    as_going v r h = record { front = h.front; end = by h.end }
      where
        by : (r.end ≡ ends.Budget) ⊎ ((y : source.End) × (None ≡ Some y) × (r.end ≡ end_of y) × (r.items ≡ v.items)) ⊎ ((r.end ≡ ends.Stack) × (4096 ≤ v.deepest)) → IsCutOff r v.deepest
        by (inl e) = inl e
        by (inr (inl (y, is, e, whole))) = absurd (cc is)
        by (inr (inr h)) = inr h
