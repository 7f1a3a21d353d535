-- A call from its opening to its end: the body, the result, and what the caller has then.
use Rattle.std.proofs.Common.{◌≡◌, ℕ, ◌+◌, ◌<◌, ◌≤◌, ℤ, Bool, true, false, List, [], Option, refl, sym, ap, ◌∙◌, subst, arith, length}
use Rattle.std.specs.Prelude.{nat_le, if◌then◌else◌}
use Rattle.cxx_ast.specs.Plain.{Checked}
use Rattle.cxx_ast.specs.declared.types.Param.{Param}
use Rattle.meaning_forms.specs.World.{World as SourceWorld, Reference}
use Rattle.meaning_forms.specs.Context.{Context as SourceContext, with_travelling}
use Rattle.meaning_forms.specs.Call.{opened, closed, after_call as source_after_call, open_call as source_open_call}
use Rattle.meaning_forms.specs.Frame.{Frame as SourceFrame}
use Rattle.meaning_forms.specs.Statement.{spend as source_spend}
use Rattle.meaning_forms.specs.Outcome.{Result as SourceResult, done as source_done, stopped as source_stopped, thrown, cancelled, ended, undefined, out_of_turns, deep, Action as SourceAction, continued as source_continued, stop as source_stop, Flow as SourceFlow, ◌>>=◌}
use Rattle.region_forms.specs.Form.{Region, RegionFunction, regions_from, in_order, kinds_of}
use Rattle.region_forms.specs.Layout.{Layout}
use Rattle.region_forms.specs.World.{Word}
use Rattle.region_forms.specs.Effect.{result_in}
use Rattle.region_forms.specs.Outcome.{State, Flow, Result, Action, continued, stop, some}
use Rattle.region_forms.specs.Ending.{Running, spend, open_call}
use Rattle.region_forms.specs.Meaning.{outwards, after_call, called_state, function_result}
use Rattle.linear_simulation.specs.Watched.{watched as region, watched_all as regions, watched_body as function_body}
use Rattle.region_forms.specs.LowerExpression.{Lowering}
use Rattle.region_forms.specs.LowerStatement.{variable_slot}
use Rattle.region_simulation.specs.Places.{Places}
use Rattle.region_simulation.specs.Stands.{Stands, context_of}
use Rattle.region_simulation.specs.Value.{IsValue}
use Rattle.region_simulation.specs.Alike.{Follows, SameSeen, Alike}
use Rattle.region_simulation.specs.Flows.{FlowAgrees, DoesAlike}
use Rattle.region_simulation.proofs.Following.{keeps_all, follows_now, alike_less, alike_on}
use Rattle.region_simulation.proofs.Leaving.{forgetting, forgetting_stays, stands_forgetting}
use Rattle.region_simulation.proofs.Flowing.{alike_seq, alike_after}
use Rattle.region_statements.specs.Functions.{all_declared_to}
use Rattle.region_statements.proofs.Looping.{seen, spends}
use Rattle.region_statements.proofs.Entering.{Begun}

-- values are the same
abbrev pub SameValue : ℤ → ℤ → SourceWorld → Places → State → Type 0
SameValue x y w at s = x ≡ y

module _ (l : Layout) (p : Checked) where
  -- the result is what the source computes from the flow of the body
  value_done : (at : Places) (k : ℕ) (c : SourceContext) (w : SourceWorld) (s : State) (r : SourceResult ℤ) (z : Option ℤ) → Stands l p at c w s → IsValue w r z
      → Alike l p at k c w s SameValue r (some z s)
  value_done at k c w s (source_done x w2) z stands (e, is) =
      subst (λ q. Alike l p at k c w s SameValue (source_done x q) (some z s)) (sym e)
      (subst (λ q. Alike l p at k c w s SameValue (source_done x w) (some q s)) (sym is) (x, s, refl, (follows_now l p at k c w s stands, refl)))
  value_done at k c w s (source_stopped undefined w2) z stands h = tt
  value_done at k c w s (source_stopped (thrown e) w2) z stands h = absurd h
  value_done at k c w s (source_stopped (cancelled n) w2) z stands h = absurd h
  value_done at k c w s (source_stopped (ended e) w2) z stands h = absurd h
  value_done at k c w s (source_stopped out_of_turns w2) z stands h = absurd h
  value_done at k c w s (source_stopped deep w2) z stands h = absurd h

  -- What follows in a call follows for its caller, whose frame runs again: the variables of the call stand nowhere then.
  module _ (at : Places) (k : ℕ) (c : SourceContext) (w : SourceWorld) (s : State) (at1 : Places) (w1 : SourceWorld) (s1 : State)
      (stay : (o : ℕ) → o < length w.objects → at1 o ≡ at o) (objects : length w.objects ≤ length w1.objects) (calls : s.world.calls ≤ s1.world.calls)
      (one : w1.open_calls ≡ w.open_calls + 1) where
    follows_call : (d : SourceContext) (w2 : SourceWorld) (s2 : State) → Follows l p at1 0 w1 s1 d w2 s2
        → Follows l p at k w s d (closed w2) (record s2 { frame = s.frame })
    follows_call d w2 s2 h =
        let more = h.objects in let further = h.calls in let same = h.open_calls in
        let standing = stands_forgetting l p (length w.objects) h.places d w2 s2 h.stands in
        record {
          places = forgetting (length w.objects) h.places;
          stay = λ o lt. forgetting_stays (length w.objects) h.places o lt ∙ h.stay o (omega (arith, lt, objects)) ∙ stay o lt;
          objects = omega (arith, more, objects);
          calls = omega (arith, further, calls);
          open_calls = omega (arith, same, one);
          keeps = keeps_all k s.frame;
          stands = record {
            world = standing.world;
            turns = standing.turns;
            memory = record { made = standing.memory.made; apart = standing.memory.apart; shaped = standing.memory.shaped; holds = standing.memory.holds };
            globals = standing.globals;
            exceptions = standing.exceptions;
            made = standing.made;
            sound = standing.sound;
            handlers = standing.handlers;
            kept = standing.kept;
          };
        }

    same_seen : (w2 : SourceWorld) (s2 : State) → SameSeen w2 s2 → SameSeen (closed w2) (record s2 { frame = s.frame })
    same_seen w2 s2 h = record { items = h.items; replies = h.replies; deepest = h.deepest }

    pub call_closes : (x : SourceResult ℤ) (y : Result ℤ) → Alike l p at1 0 c w1 s1 SameValue x y → Alike l p at k c w s SameValue (source_after_call x) (after_call s.frame y)
    call_closes (source_done v w2) y (u, s2, e, (h, same)) = (u, record s2 { frame = s.frame }, ap (after_call s.frame) e, (follows_call c w2 s2 h, same))
    call_closes (source_stopped (thrown x) w2) y (s2, e, h) = (record s2 { frame = s.frame }, ap (after_call s.frame) e, follows_call (with_travelling x c) w2 s2 h)
    call_closes (source_stopped (cancelled n) w2) y (s2, e, h) = (record s2 { frame = s.frame }, ap (after_call s.frame) e, follows_call c w2 s2 h)
    call_closes (source_stopped undefined w2) y h = tt
    call_closes (source_stopped (ended x) w2) y (s2, e, h) = (record s2 { frame = s.frame }, ap (after_call s.frame) e, same_seen w2 s2 h)
    call_closes (source_stopped out_of_turns w2) y (s2, e, h) = (record s2 { frame = s.frame }, ap (after_call s.frame) e, same_seen w2 s2 h)
    call_closes (source_stopped deep w2) y (s2, e, h) = (record s2 { frame = s.frame }, ap (after_call s.frame) e, same_seen w2 s2 h)

  -- a call is opened where the limit allows it, and spends a turn
  pub call_opens : (limit : ℕ) (at : Places) (k : ℕ) (c : SourceContext) (w : SourceWorld) (s : State) (act : SourceAction ℤ) (run : Action ℤ) → Stands l p at c w s
      → ((w2 : SourceWorld) (s2 : State) (h : Follows l p at k w s c w2 s2) → Alike l p h.places k c w2 s2 SameValue (source_after_call (act (opened w2))) (run s2))
      → Alike l p at k c w s SameValue (source_open_call limit act w) (continued (open_call limit (context_of w.open_calls c) s) (λ u. run))
  call_opens limit at k c w s act run stands next = go (nat_le limit w.open_calls)
    where
      go : (z : Bool) → Alike l p at k c w s SameValue
          ((if z then source_stop deep else ((λ v. source_spend v.turns v) >>= (λ u v. source_after_call (act (opened v))))) w)
          (continued ((if z then stop deep else (λ t. spend t.turns t)) s) (λ u. run))
      go true = (s, refl, seen l p at c w s stands)
      go false =
          alike_seq l p (λ x y w2 at2 s2. Unit {0}) SameValue at k c w s (source_spend w.turns w) (spend s.turns s) (λ u v. source_after_call (act (opened v))) (λ u. run)
          (spends l p at k c w s stands)
          (λ x y w2 s2 h same. alike_on l p SameValue at k c c w s w2 s2 h (source_after_call (act (opened w2))) (run s2) (next w2 s2 h))

module _ (l : Lowering) (own : Option ℕ) (gives : Bool) (b : Running) (c : SourceContext) (params : List Param) (rs : List Region) (f : RegionFunction) (body : f.body ≡ in_order rs)
    (act : SourceFrame → SourceAction SourceFlow) (value : SourceFlow → SourceAction ℤ)
    (results : (x : SourceFlow) (flow : Flow) (w : SourceWorld) (at : Places) (s : State) → FlowAgrees l gives 0 1 x flow w at s
    → IsValue w (value x w) (result_in f.result s.frame s.world b.kinds))
    (does : (v : SourceFrame) (references : List Reference) → length references ≡ length params → v.variables ≡ all_declared_to params references []
    → DoesAlike l own gives b v c (length params) 0 1 (act v) rs) where
  -- some flow agrees
  abbrev SomeFlow : SourceFlow → Flow → SourceWorld → Places → State → Type 0
  SomeFlow x flow w at s = (before : Flow) × FlowAgrees l gives 0 1 x before w at s

  body_gives : (v : SourceFrame) (at : Places) (w : SourceWorld) (s : State) (depth : ℕ) → depth ≡ w.open_calls → Stands l.layout l.program at c w s
      → Alike l.layout l.program at 0 c w s (FlowAgrees l gives 0 1) (act v w) (regions b (regions_from rs) (context_of depth c) s)
      → Alike l.layout l.program at 0 c w s SameValue (source_continued (act v w) value) (function_body b f (context_of depth c) s)
  body_gives v at w s depth e stands h =
      subst (λ q. Alike l.layout l.program at 0 c w s SameValue (source_continued (act v w) value) (continued (region b q (context_of depth c) s) (λ u. function_result b.kinds f.result))) (sym body)
      (alike_seq l.layout l.program SomeFlow SameValue at 0 c w s (act v w) (region b (in_order rs) (context_of depth c) s) value (λ u. function_result b.kinds f.result)
      (alike_after l.layout l.program (FlowAgrees l gives 0 1) SomeFlow at 0 c w s (act v w) (regions b (regions_from rs) (context_of depth c) s) outwards
      (λ x flow w2 at2 s2 same. (flow, same)) h)
      (λ x flow w2 s2 g (before, same).
      alike_on l.layout l.program SameValue at 0 c c w s w2 s2 g (value x w2) (function_result b.kinds f.result s2)
      (value_done l.layout l.program g.places 0 c w2 s2 (value x w2) (result_in f.result s2.frame s2.world b.kinds) g.stands (results x before w2 g.places s2 same))))

  -- a function is run as the source runs it
  pub function_runs : (at : Places) (k : ℕ) (w : SourceWorld) (s : State) (words : List Word) (r : SourceResult SourceFrame)
      → Begun l own c at w s params r (called_state (kinds_of f.slots) words (w.open_calls + 1) s)
      → Alike l.layout l.program at k c w s SameValue (source_after_call (source_continued r (λ v. act v >>= value)))
      (after_call s.frame (function_body b f (context_of (w.open_calls + 1) c) (called_state (kinds_of f.slots) words (w.open_calls + 1) s)))
  function_runs at k w s words r h =
      let s2 = called_state (kinds_of f.slots) words (w.open_calls + 1) s in
      subst (λ q. Alike l.layout l.program at k c w s SameValue (source_after_call (source_continued q (λ v. act v >>= value)))
      (after_call s.frame (function_body b f (context_of (w.open_calls + 1) c) s2))) (sym h.is)
      (call_closes l.layout l.program at k c w s h.places h.world s2 h.stay h.objects h.calls h.open_calls (source_continued (act h.frame h.world) value)
      (function_body b f (context_of (w.open_calls + 1) c) s2)
      (body_gives h.frame h.places h.world s2 (w.open_calls + 1) (sym h.open_calls) h.stands
      (alike_less l.layout l.program (FlowAgrees l gives 0 1) h.places 0 (variable_slot l (length params)) c h.world s2 (act h.frame h.world)
      (regions b (regions_from rs) (context_of (w.open_calls + 1) c) s2) (omega arith)
      (subst (λ m. Alike l.layout l.program h.places (variable_slot l (length params)) c h.world s2 (FlowAgrees l gives 0 1) (act h.frame h.world)
      (regions b (regions_from rs) (context_of m c) s2)) h.open_calls
      (does h.frame h.references h.counted h.variables h.places h.world s2 h.stands h.scope)))))
