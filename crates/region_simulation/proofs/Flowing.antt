-- Regions that do what statements do, one behind another and inside others.
use Rattle.std.proofs.Common.{◌≡◌, ℕ, zero, suc, ◌+◌, ◌<◌, ◌≤◌, Bool, List, [], ◌∷◌, ◌++◌, Option, Some, None, refl, sym, ap, ◌∙◌, subst, arith, length}
use Rattle.std.specs.Prelude.{◌-◌}
use Rattle.cxx_ast.specs.Plain.{Checked}
use Rattle.meaning_forms.specs.World.{World as SourceWorld}
use Rattle.meaning_forms.specs.Context.{Context as SourceContext}
use Rattle.meaning_forms.specs.Frame.{Frame as SourceFrame}
use Rattle.meaning_forms.specs.Statement.{followed as source_followed, ◌then◌}
use Rattle.meaning_forms.specs.Outcome.{Result as SourceResult, done as source_done, stopped as source_stopped, thrown, cancelled, ended, undefined, out_of_turns, deep, Action as SourceAction, continued as source_continued, Flow as SourceFlow, normal as source_normal, breaks, continues, returns}
use Rattle.region_forms.specs.Layout.{Layout}
use Rattle.region_forms.specs.Form.{Region, regions_from, in_order}
use Rattle.region_forms.specs.Outcome.{State, Context, Flow, normal, leaves, Result, done, stopped, Action, continued, pure}
use Rattle.region_forms.specs.Ending.{Running}
use Rattle.region_forms.specs.Meaning.{outwards, followed}
use Rattle.linear_simulation.specs.Watched.{watched as region, watched_all as regions}
use Rattle.region_forms.specs.LowerExpression.{Lowering}
use Rattle.region_forms.specs.LowerStatement.{variable_slot}
use Rattle.region_simulation.specs.Places.{Places}
use Rattle.region_simulation.specs.Stands.{context_of}
use Rattle.region_simulation.specs.Alike.{Follows, Alike}
use Rattle.region_simulation.specs.Flows.{FlowAgrees, DoesAlike}
use Rattle.region_simulation.proofs.Following.{Agreement, alike_less, alike_on}
use Rattle.region_simulation.proofs.Joining.{joined}
use Rattle.region_simulation.proofs.Leaving.{follows_forgetting, scope_left}

module _ (l : Layout) (p : Checked) where
  -- one after the other, where what comes so is said of the world and the state before both
  pub alike_seq : {A B C D : Type 0} (agree : Agreement A B) (next : Agreement C D) (at : Places) (k : ℕ) (c : SourceContext) (w : SourceWorld) (s : State)
      (x : SourceResult A) (y : Result B) (f : A → SourceAction C) (g : B → Action D)
      → Alike l p at k c w s agree x y
      → ((a : A) (b : B) (w2 : SourceWorld) (s2 : State) (h : Follows l p at k w s c w2 s2) → agree a b w2 h.places s2 → Alike l p at k c w s next (f a w2) (g b s2))
      → Alike l p at k c w s next (source_continued x f) (continued y g)
  alike_seq agree next at k c w s (source_done a w2) y f g (b, s2, e, (h, same)) so =
      subst (λ z. Alike l p at k c w s next (f a w2) (continued z g)) (sym e) (so a b w2 s2 h same)
  alike_seq agree next at k c w s (source_stopped (thrown x) w2) y f g (s2, e, h) so = (s2, ap (λ z. continued z g) e, h)
  alike_seq agree next at k c w s (source_stopped (cancelled n) w2) y f g (s2, e, h) so = (s2, ap (λ z. continued z g) e, h)
  alike_seq agree next at k c w s (source_stopped undefined w2) y f g h so = tt
  alike_seq agree next at k c w s (source_stopped (ended x) w2) y f g (s2, e, h) so = (s2, ap (λ z. continued z g) e, h)
  alike_seq agree next at k c w s (source_stopped out_of_turns w2) y f g (s2, e, h) so = (s2, ap (λ z. continued z g) e, h)
  alike_seq agree next at k c w s (source_stopped deep w2) y f g (s2, e, h) so = (s2, ap (λ z. continued z g) e, h)

  -- regions go on without a change of the state
  pub alike_after : {A B D : Type 0} (agree : Agreement A B) (next : Agreement A D) (at : Places) (k : ℕ) (c : SourceContext) (w : SourceWorld) (s : State)
      (x : SourceResult A) (y : Result B) (g : B → D)
      → ((a : A) (b : B) (w2 : SourceWorld) (at2 : Places) (s2 : State) → agree a b w2 at2 s2 → next a (g b) w2 at2 s2)
      → Alike l p at k c w s agree x y → Alike l p at k c w s next x (continued y (λ b. pure (g b)))
  alike_after agree next at k c w s (source_done a w2) y g so (b, s2, e, (h, same)) =
      (g b, s2, ap (λ z. continued z (λ b. pure (g b))) e, (h, so a b w2 h.places s2 same))
  alike_after agree next at k c w s (source_stopped (thrown x) w2) y g so (s2, e, h) = (s2, ap (λ z. continued z (λ b. pure (g b))) e, h)
  alike_after agree next at k c w s (source_stopped (cancelled n) w2) y g so (s2, e, h) = (s2, ap (λ z. continued z (λ b. pure (g b))) e, h)
  alike_after agree next at k c w s (source_stopped undefined w2) y g so h = tt
  alike_after agree next at k c w s (source_stopped (ended x) w2) y g so (s2, e, h) = (s2, ap (λ z. continued z (λ b. pure (g b))) e, h)
  alike_after agree next at k c w s (source_stopped out_of_turns w2) y g so (s2, e, h) = (s2, ap (λ z. continued z (λ b. pure (g b))) e, h)
  alike_after agree next at k c w s (source_stopped deep w2) y g so (s2, e, h) = (s2, ap (λ z. continued z (λ b. pure (g b))) e, h)

-- the end of a region is passed
leaves_one : (m : ℕ) → 1 ≤ m → outwards (leaves (suc m)) ≡ leaves m
leaves_one zero le = absurd (omega (arith, le))
leaves_one (suc m) le = refl

passes_out : (flow : Flow) (m k : ℕ) → 1 ≤ m → k ≡ suc m → flow ≡ leaves k → outwards flow ≡ leaves m
passes_out flow m k le e is = ap outwards is ∙ ap (λ q. outwards (leaves q)) e ∙ leaves_one m le

pub outwards_agrees : (l : Lowering) (gives : Bool) (i d : ℕ) → i < d → (x : SourceFlow) (flow : Flow) (w : SourceWorld) (at : Places) (s : State)
    → FlowAgrees l gives i (d + 1) x flow w at s → FlowAgrees l gives i d x (outwards flow) w at s
outwards_agrees l gives i d lt source_normal flow w at s h = ap outwards h
outwards_agrees l gives i d lt breaks flow w at s h = passes_out flow (d - i + 1) (d + 1 - i + 1) (omega arith) (omega (arith, lt)) h
outwards_agrees l gives i d lt continues flow w at s h = passes_out flow (d - i) (d + 1 - i) (omega (arith, lt)) (omega (arith, lt)) h
outwards_agrees l gives i d lt (returns None) flow w at s h = (passes_out flow d (d + 1) (omega (arith, lt)) (omega arith) h.0, h.1)
outwards_agrees l gives i d lt (returns (Some v)) flow w at s h = (passes_out flow d (d + 1) (omega (arith, lt)) (omega arith) h.0, h.1, h.2)

-- one region in a row
pub single : (b : Running) (x : Region) (c : Context) (s : State) → regions b (regions_from (x ∷ [])) c s ≡ region b x c s
single b x c s = go (region b x c s)
  where
    go : (r : Result Flow) → continued r (followed (pure normal)) ≡ r
    go (done normal t) = refl
    go (done (leaves n) t) = refl
    go (stopped x t) = refl

module _ (l : Lowering) (own : Option ℕ) (gives : Bool) (b : Running) (v : SourceFrame) (c : SourceContext) where
  -- what was in reach before a declaration is in reach behind it
  pub does_later : (n m i d : ℕ) (act : SourceAction SourceFlow) (rs : List Region) → n ≤ m → m ≤ length l.variables
      → DoesAlike l own gives b v c m i d act rs → DoesAlike l own gives b v c n i d act rs
  does_later n m i d act rs le there does at w s stands scope =
      alike_less l.layout l.program (FlowAgrees l gives i d) at (variable_slot l n) (variable_slot l m) c w s (act w) (regions b (regions_from rs) (context_of w.open_calls c) s)
      (omega (arith, le))
      (does at w s stands record {
        reach = scope.reach;
        before = λ q is. (let lt = scope.before q is in omega (arith, lt, le));
        free = λ o q x e is. (let lt = scope.free o q x e is in omega (arith, lt, le));
        there = there;
        running = scope.running;
      })

  -- regions that are done in what another gave
  pub does_then : (n i d : ℕ) (first rest : SourceAction SourceFlow) (xs ys : List Region) → DoesAlike l own gives b v c n i d first xs
      → DoesAlike l own gives b v c n i d rest ys → DoesAlike l own gives b v c n i d (first then rest) (xs ++ ys)
  does_then n i d first rest xs ys does next at w s stands scope =
      let ctx = context_of w.open_calls c in
      let agree = FlowAgrees l gives i d in
      let k = variable_slot l n in
      subst (λ z. Alike l.layout l.program at k c w s agree ((first then rest) w) z) (sym (joined b ctx xs ys s))
      (alike_seq l.layout l.program agree agree at k c w s (first w) (regions b (regions_from xs) ctx s) (source_followed rest) (followed (regions b (regions_from ys) ctx))
      (does at w s stands scope) (λ x flow w2 s2 h same. go x flow w2 s2 h same))
    where
      go : (x : SourceFlow) (flow : Flow) (w2 : SourceWorld) (s2 : State) (h : Follows l.layout l.program at (variable_slot l n) w s c w2 s2)
          → FlowAgrees l gives i d x flow w2 h.places s2
          → Alike l.layout l.program at (variable_slot l n) c w s (FlowAgrees l gives i d) (source_followed rest x w2)
          (followed (regions b (regions_from ys) (context_of w.open_calls c)) flow s2)
      go source_normal flow w2 s2 h same =
          let k = variable_slot l n in
          let agree = FlowAgrees l gives i d in
          let g = follows_forgetting l.layout l.program at k c w s c w2 s2 h in
          subst (λ f. Alike l.layout l.program at k c w s agree (rest w2) (followed (regions b (regions_from ys) (context_of w.open_calls c)) f s2)) (sym same)
          (alike_on l.layout l.program agree at k c c w s w2 s2 g (rest w2) (regions b (regions_from ys) (context_of w.open_calls c) s2)
          (subst (λ m. Alike l.layout l.program g.places k c w2 s2 agree (rest w2) (regions b (regions_from ys) (context_of m c) s2)) h.open_calls
          (next g.places w2 s2 g.stands (scope_left l own v n at w s c c w2 s2 stands h scope))))
      go breaks flow w2 s2 h same = (leaves (d - i + 1), s2, ap (λ f. followed (regions b (regions_from ys) (context_of w.open_calls c)) f s2) same, (h, refl))
      go continues flow w2 s2 h same = (leaves (d - i), s2, ap (λ f. followed (regions b (regions_from ys) (context_of w.open_calls c)) f s2) same, (h, refl))
      go (returns None) flow w2 s2 h same = (leaves d, s2, ap (λ f. followed (regions b (regions_from ys) (context_of w.open_calls c)) f s2) same.0, (h, (refl, same.1)))
      go (returns (Some x)) flow w2 s2 h same = (leaves d, s2, ap (λ f. followed (regions b (regions_from ys) (context_of w.open_calls c)) f s2) same.0, (h, (refl, same.1, same.2)))

  -- regions in a region
  pub does_inside : (n i d : ℕ) (act : SourceAction SourceFlow) (rs : List Region) → i < d → DoesAlike l own gives b v c n i (d + 1) act rs
      → DoesAlike l own gives b v c n i d act (in_order rs ∷ [])
  does_inside n i d act rs lt does at w s stands scope =
      let ctx = context_of w.open_calls c in
      let k = variable_slot l n in
      subst (λ z. Alike l.layout l.program at k c w s (FlowAgrees l gives i d) (act w) z) (sym (single b (in_order rs) ctx s))
      (alike_after l.layout l.program (FlowAgrees l gives i (d + 1)) (FlowAgrees l gives i d) at k c w s (act w) (regions b (regions_from rs) ctx s) outwards
      (λ x flow w2 at2 s2 same. outwards_agrees l gives i d lt x flow w2 at2 s2 same) (does at w s stands scope))
