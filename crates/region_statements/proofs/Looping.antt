-- Loops: each turn of the source is one of the regions, and spends a turn in both.
use Rattle.std.proofs.Common.{◌≡◌, ℕ, zero, suc, ◌+◌, ◌<◌, ◌≤◌, ℤ, Bool, true, false, List, [], ◌∷◌, Option, Some, None, refl, sym, ap, ◌∙◌, subst, arith}
use Rattle.std.specs.Prelude.{◌-◌, if◌then◌else◌}
use Rattle.cxx_ast.specs.Plain.{Checked}
use Rattle.meaning_forms.specs.Arithmetic.{is_zero}
use Rattle.meaning_forms.specs.World.{World as SourceWorld}
use Rattle.meaning_forms.specs.Context.{Context as SourceContext}
use Rattle.meaning_forms.specs.Frame.{Frame as SourceFrame}
use Rattle.meaning_forms.specs.Statement.{spend as source_spend, looped, loop as source_loop}
use Rattle.meaning_forms.specs.Outcome.{Result as SourceResult, done as source_done, stopped as source_stopped, thrown, cancelled, ended, undefined, out_of_turns, deep, Action as SourceAction, continued as source_continued, pure as source_pure, Flow as SourceFlow, normal as source_normal, breaks, continues, returns, world, ◌>>=◌}
use Rattle.region_forms.specs.Form.{Value, Region, loop, regions_from, in_order}
use Rattle.region_forms.specs.Layout.{Layout}
use Rattle.region_forms.specs.World.{number_word}
use Rattle.region_forms.specs.Evaluation.{value_in}
use Rattle.region_forms.specs.Outcome.{State, Flow, normal, leaves, Action, continued, pure, some}
use Rattle.region_forms.specs.Ending.{Running, spend}
use Rattle.region_forms.specs.Meaning.{outwards, followed, value_of, loop_of}
use Rattle.linear_simulation.specs.Watched.{watched as region, watched_all as regions}
use Rattle.region_forms.specs.LowerExpression.{Lowering, result_slot}
use Rattle.region_forms.specs.LowerStatement.{variable_slot}
use Rattle.region_simulation.specs.Places.{Places}
use Rattle.region_simulation.specs.Stands.{Stands, context_of}
use Rattle.region_simulation.specs.Value.{IsValue}
use Rattle.region_simulation.specs.Alike.{Follows, SameSeen, Alike}
use Rattle.region_simulation.specs.Evaluates.{IsMeant}
use Rattle.region_simulation.specs.Flows.{FlowAgrees, InScope, DoesAlike}
use Rattle.region_simulation.proofs.Following.{Agreement, keeps_all, follows_now, alike_on}
use Rattle.region_simulation.proofs.Leaving.{follows_forgetting, scope_left}
use Rattle.region_simulation.proofs.Flowing.{alike_seq, alike_after, single}

module _ (l : Layout) (p : Checked) where
  -- the same can be seen
  pub seen : (at : Places) (c : SourceContext) (w : SourceWorld) (s : State) → Stands l p at c w s → SameSeen w s
  seen at c w s h = record {
    items = ap (λ x. x.items) h.world;
    replies = ap (λ x. x.replies) h.world;
    deepest = ap (λ x. x.deepest) h.world;
  }

  -- turns are spent alike
  spends_from : (at : Places) (k : ℕ) (c : SourceContext) (w : SourceWorld) (s : State) → Stands l p at c w s → (t : ℕ)
      → Alike l p at k c w s (λ x y w2 at2 s2. Unit {0}) (source_spend t w) (spend t s)
  spends_from at k c w s h zero = (s, refl, seen at c w s h)
  spends_from at k c w s h (suc t) = (
    tt,
    record s { turns = t },
    refl,
    (
      record {
        places = at;
        stay = λ o lt. refl;
        objects = omega arith;
        calls = omega arith;
        open_calls = refl;
        keeps = keeps_all k s.frame;
        stands = record {
          world = h.world;
          turns = refl;
          memory = record { made = h.memory.made; apart = h.memory.apart; shaped = h.memory.shaped; holds = h.memory.holds };
          globals = h.globals;
          exceptions = h.exceptions;
          made = h.made;
          sound = h.sound;
          handlers = h.handlers;
          kept = h.kept;
        };
      },
      tt,
    ),
  )

  pub spends : (at : Places) (k : ℕ) (c : SourceContext) (w : SourceWorld) (s : State) → Stands l p at c w s
      → Alike l p at k c w s (λ x y w2 at2 s2. Unit {0}) (source_spend w.turns w) (spend s.turns s)
  spends at k c w s h = subst (λ t. Alike l p at k c w s (λ x y w2 at2 s2. Unit {0}) (source_spend w.turns w) (spend t s)) (sym h.turns) (spends_from at k c w s h w.turns)

  -- a value that changes nothing, then what is done with it
  pub value_next : {B C : Type 0} (next : Agreement B C) (at : Places) (k : ℕ) (c : SourceContext) (w : SourceWorld) (s : State) (r : SourceResult ℤ) (z : Option ℤ)
      (f : ℤ → SourceAction B) (g : ℤ → Action C) → IsValue w r z → ((u : ℤ) → z ≡ Some u → Alike l p at k c w s next (f u w) (g u s))
      → Alike l p at k c w s next (source_continued r f) (continued (some z s) g)
  value_next next at k c w s (source_done u w2) z f g (e, i) so =
      subst (λ q. Alike l p at k c w s next (f u q) (continued (some z s) g)) (sym e)
      (subst (λ q. Alike l p at k c w s next (f u w) (continued (some q s) g)) (sym i) (so u i))
  value_next next at k c w s (source_stopped undefined w2) z f g is so = tt
  value_next next at k c w s (source_stopped (thrown e) w2) z f g is so = absurd is
  value_next next at k c w s (source_stopped (cancelled n) w2) z f g is so = absurd is
  value_next next at k c w s (source_stopped (ended e) w2) z f g is so = absurd is
  value_next next at k c w s (source_stopped out_of_turns w2) z f g is so = absurd is
  value_next next at k c w s (source_stopped deep w2) z f g is so = absurd is

-- flows of the body of a loop that d regions hold, where the body's region ends: it goes on, or the loop is left
abbrev TurnAgrees : Lowering → (gives : Bool) → (d : ℕ) → SourceFlow → Flow → SourceWorld → Places → State → Type 0
TurnAgrees l gives d source_normal flow w at s = flow ≡ normal
TurnAgrees l gives d continues flow w at s = flow ≡ normal
TurnAgrees l gives d breaks flow w at s = flow ≡ leaves 1
TurnAgrees l gives d (returns None) flow w at s = (flow ≡ leaves (d + 1)) × (gives ≡ false)
TurnAgrees l gives d (returns (Some x)) flow w at s = (flow ≡ leaves (d + 1)) × (gives ≡ true) × (s.frame.slots (result_slot l) ≡ number_word x)

turn_agrees : (l : Lowering) (gives : Bool) (d : ℕ) (x : SourceFlow) (flow : Flow) (w : SourceWorld) (at : Places) (s : State)
    → FlowAgrees l gives (d + 1) (d + 2) x flow w at s → TurnAgrees l gives d x (outwards flow) w at s
turn_agrees l gives d source_normal flow w at s h = ap outwards h
turn_agrees l gives d breaks flow w at s h =
    let two : d + 2 - (d + 1) + 1 ≡ suc (suc 0) = omega arith in ap outwards h ∙ ap (λ q. outwards (leaves q)) two
turn_agrees l gives d continues flow w at s h =
    let one : d + 2 - (d + 1) ≡ suc 0 = omega arith in ap outwards h ∙ ap (λ q. outwards (leaves q)) one
turn_agrees l gives d (returns None) flow w at s h = (ap outwards h.0 ∙ more, h.1)
  where
    more : outwards (leaves (d + 2)) ≡ leaves (d + 1)
    more = let two : d + 2 ≡ suc (suc d) = omega arith in let one : d + 1 ≡ suc d = omega arith in ap (λ q. outwards (leaves q)) two ∙ ap (λ q. leaves q) (sym one)
turn_agrees l gives d (returns (Some v)) flow w at s h = (ap outwards h.0 ∙ more, h.1, h.2)
  where
    more : outwards (leaves (d + 2)) ≡ leaves (d + 1)
    more = let two : d + 2 ≡ suc (suc d) = omega arith in let one : d + 1 ≡ suc d = omega arith in ap (λ q. outwards (leaves q)) two ∙ ap (λ q. leaves q) (sym one)

module _ (l : Lowering) (own : Option ℕ) (gives : Bool) (b : Running) (v : SourceFrame) (c : SourceContext) (n i d : ℕ) (lt : i < d)
    (test : SourceAction ℤ) (y : Value) (body : SourceAction SourceFlow) (bs : List Region) (meant : IsMeant l own b v c test y)
    (does : DoesAlike l own gives b v c n (d + 1) (d + 2) body bs) where
  -- how flows agree inside the loop's region: what leaves that goes on behind it
  abbrev Inside : SourceFlow → Flow → SourceWorld → Places → State → Type 0
  Inside x flow w at s = FlowAgrees l gives i d x (outwards flow) w at s

  leaves_all : outwards (leaves (d + 1)) ≡ leaves d
  leaves_all = go d (omega (arith, lt))
    where
      go : (d : ℕ) → 1 ≤ d → outwards (leaves (d + 1)) ≡ leaves d
      go zero le = absurd (omega (arith, le))
      go (suc d) le = let two : suc d + 1 ≡ suc (suc d) = omega arith in ap (λ q. outwards (leaves q)) two

  -- loops with as many tests left
  abbrev Loops : ℕ → Type 0
  Loops m = (at : Places) (w : SourceWorld) (s : State) (depth : ℕ) → depth ≡ w.open_calls → Stands l.layout l.program at c w s → InScope l own n at v s
      → Alike l.layout l.program at (variable_slot l n) c w s Inside (source_loop m test body w) (loop_of m (value_of b y) (region b (in_order bs) (context_of depth c)) s)

  -- behind the body
  turned : (m : ℕ) → Loops m → (at : Places) (w : SourceWorld) (s : State) (depth : ℕ) → depth ≡ w.open_calls → Stands l.layout l.program at c w s → InScope l own n at v s
      → (x : SourceFlow) (flow : Flow) (w2 : SourceWorld) (s2 : State) (h : Follows l.layout l.program at (variable_slot l n) w s c w2 s2) → TurnAgrees l gives d x flow w2 h.places s2
      → Alike l.layout l.program at (variable_slot l n) c w s Inside (looped (source_loop m test body) x w2)
      (followed (loop_of m (value_of b y) (region b (in_order bs) (context_of depth c))) flow s2)
  turned m ih at w s depth e stands scope x flow w2 s2 h same = go x same
    where
      again : (x : SourceFlow) → flow ≡ normal → Alike l.layout l.program at (variable_slot l n) c w s Inside (source_loop m test body w2)
          (followed (loop_of m (value_of b y) (region b (in_order bs) (context_of depth c))) flow s2)
      again x is =
          let k = variable_slot l n in
          let g = follows_forgetting l.layout l.program at k c w s c w2 s2 h in
          let next = loop_of m (value_of b y) (region b (in_order bs) (context_of depth c)) in
          subst (λ f. Alike l.layout l.program at k c w s Inside (source_loop m test body w2) (followed next f s2)) (sym is)
          (alike_on l.layout l.program Inside at k c c w s w2 s2 g (source_loop m test body w2) (next s2)
          (ih g.places w2 s2 depth (e ∙ sym h.open_calls) g.stands (scope_left l own v n at w s c c w2 s2 stands h scope)))

      go : (x : SourceFlow) → TurnAgrees l gives d x flow w2 h.places s2 → Alike l.layout l.program at (variable_slot l n) c w s Inside (looped (source_loop m test body) x w2)
          (followed (loop_of m (value_of b y) (region b (in_order bs) (context_of depth c))) flow s2)
      go source_normal is = again source_normal is
      go continues is = again continues is
      go breaks is = (leaves 1, s2, ap (λ f. followed (loop_of m (value_of b y) (region b (in_order bs) (context_of depth c))) f s2) is, (h, refl))
      go (returns None) is =
          let one : d + 1 ≡ suc d = omega arith in
          (leaves (d + 1), s2, ap (λ f. followed (loop_of m (value_of b y) (region b (in_order bs) (context_of depth c))) f s2) is.0, (h, (leaves_all, is.1)))
      go (returns (Some q)) is =
          (leaves (d + 1), s2, ap (λ f. followed (loop_of m (value_of b y) (region b (in_order bs) (context_of depth c))) f s2) is.0, (h, (leaves_all, is.1, is.2)))

  one_more : (m : ℕ) → Loops m → Loops (suc m)
  one_more m ih at w s depth e stands scope =
      let k = variable_slot l n in
      alike_seq l.layout l.program (λ x z w2 at2 s2. Unit {0}) Inside at k c w s (source_spend w.turns w) (spend s.turns s)
      (λ u. test >>= (λ z. if is_zero z then source_pure source_normal else (body >>= looped (source_loop m test body))))
      (λ u s2. continued (value_of b y s2) (λ z. if is_zero z then pure normal else
      (λ s3. continued (region b (in_order bs) (context_of depth c) s3) (followed (loop_of m (value_of b y) (region b (in_order bs) (context_of depth c)))))))
      (spends l.layout l.program at k c w s stands)
      (λ x z w2 s2 h same.
      let g = follows_forgetting l.layout l.program at k c w s c w2 s2 h in
      let scope2 = scope_left l own v n at w s c c w2 s2 stands h scope in
      alike_on l.layout l.program Inside at k c c w s w2 s2 g _ _
      (value_next l.layout l.program Inside g.places k c w2 s2 (test w2) (value_in b.kinds s2.frame s2.world y) _ _ (meant g.places w2 s2 g.stands scope2.reach)
      (λ u is. go g.places w2 s2 (e ∙ sym h.open_calls) g.stands scope2 (is_zero u))))
    where
      go : (at : Places) (w : SourceWorld) (s : State) → depth ≡ w.open_calls → Stands l.layout l.program at c w s → InScope l own n at v s → (z : Bool)
          → Alike l.layout l.program at (variable_slot l n) c w s Inside ((if z then source_pure source_normal else (body >>= looped (source_loop m test body))) w)
          ((if z then pure normal else
          (λ s3. continued (region b (in_order bs) (context_of depth c) s3) (followed (loop_of m (value_of b y) (region b (in_order bs) (context_of depth c)))))) s)
      go at w s e stands scope true = (normal, s, refl, (follows_now l.layout l.program at (variable_slot l n) c w s stands, refl))
      go at w s e stands scope false =
          let k = variable_slot l n in
          alike_seq l.layout l.program (TurnAgrees l gives d) Inside at k c w s (body w) (region b (in_order bs) (context_of depth c) s) (looped (source_loop m test body))
          (followed (loop_of m (value_of b y) (region b (in_order bs) (context_of depth c))))
          (alike_after l.layout l.program (FlowAgrees l gives (d + 1) (d + 2)) (TurnAgrees l gives d) at k c w s (body w) (regions b (regions_from bs) (context_of depth c) s) outwards
          (λ x flow w2 at2 s2 same. turn_agrees l gives d x flow w2 at2 s2 same)
          (subst (λ q. Alike l.layout l.program at k c w s (FlowAgrees l gives (d + 1) (d + 2)) (body w) (regions b (regions_from bs) (context_of q c) s)) (sym e)
          (does at w s stands scope)))
          (λ x flow w2 s2 h same. turned m ih at w s depth e stands scope x flow w2 s2 h same)

  loops : (m : ℕ) → Loops m
  loops zero at w s depth e stands scope = (s, refl, seen l.layout l.program at c w s stands)
  loops (suc m) at w s depth e stands scope = one_more m (loops m) at w s depth e stands scope

  pub does_loop : DoesAlike l own gives b v c n i d (world >>= (λ w. source_loop (suc w.turns) test body)) (loop y (in_order bs) ∷ [])
  does_loop at w s stands scope =
      let k = variable_slot l n in
      let ctx = context_of w.open_calls c in
      subst (λ q. Alike l.layout l.program at k c w s (FlowAgrees l gives i d) (source_loop (suc w.turns) test body w) q) (sym (single b (loop y (in_order bs)) ctx s))
      (alike_after l.layout l.program Inside (FlowAgrees l gives i d) at k c w s (source_loop (suc w.turns) test body w)
      (loop_of (suc s.turns) (value_of b y) (region b (in_order bs) ctx) s) outwards (λ x flow w2 at2 s2 same. same)
      (subst (λ q. Alike l.layout l.program at k c w s Inside (source_loop (suc w.turns) test body w) (loop_of (suc q) (value_of b y) (region b (in_order bs) ctx) s)) (sym stands.turns)
      (loops (suc w.turns) at w s w.open_calls refl stands scope)))
