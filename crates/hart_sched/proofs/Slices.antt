-- The turns of a slice, one after the other.
use Rattle.std.proofs.Common.{◌≡◌, ◌∙◌, refl, sym, ap, subst, ℕ, zero, suc, ◌+◌, ◌-◌, ◌<◌, ◌≤◌, Bool, true, false, List, [], ◌∷◌, ◌++◌, map, replicate, slice_get, slice_set, append-nil, Option, Some, None, arith}
use Rattle.std.specs.Prelude.{Ok, Err, is_some}
use Rattle.eh_outer.specs.Module.{ModuleView}
use Rattle.eh_outer.specs.Sink.{SinkView}
use Rattle.eh_outer.specs.declared.sink.SinkError.{SinkError}
use Rattle.eh_outer.specs.declared.sink.SinkError.TheVariants.{Failed}
use Rattle.run_items.specs.declared.item.Item.{Item}
use Rattle.run_items.specs.Output.{TakesAll, PutsAll}
use Rattle.run_items.proofs.Puts.{takes_none}
use Rattle.frame_read.specs.ReadsFrames.{Listing}
use Rattle.cxa_runtime.specs.declared.effect.End.{End}
use Rattle.cxa_runtime.specs.declared.effect.Turn.{Turn}
use Rattle.cxa_runtime.specs.declared.effect.Turn.TheVariants.{On, Ended}
use Rattle.cxa_runtime.specs.Lasting.{LastsAs}
use Rattle.cxa_runtime.specs.Raising.{Image}
use Rattle.hart_sched.specs.declared.seat.Seat.{Seat}
use Rattle.hart_sched.specs.Hart.{Hart, has_to_wait, live_of, live_over}
use Rattle.hart_sched.specs.Laws.{ended_as}
use Rattle.hart_sched.specs.Run.{Ran, Runs}
use Rattle.hart_sched.specs.Seats.{Stepped, end_as, hart_of, pieces_told, told_then}
use Rattle.hart_sched.specs.Turns.{Had, HasTurns, Remains, Sits}
use Rattle.hart_sched.specs.Turn.{Told, shown, turn}
use Rattle.hart_sched.proofs.Again.{ended_again, live_changes, set_own, set_twice, waits_again}
use Rattle.hart_sched.proofs.Joins.{some_run, runs_join}
use Rattle.hart_sched.proofs.Pieces.{puts_more, puts_before}
use Rattle.hart_sched.proofs.Positions.{set_same}
use Rattle.hart_sched.proofs.Steps.{one_more, seen, step_is_turn, told_as}

-- ---- orders
pub again_and_again : (n m total k : ℕ) → total ≡ n + m → replicate n k ++ replicate m k ≡ replicate total k
again_and_again zero m total k e = ap (λ t. replicate t k) (omega (arith, e))
again_and_again (suc n) m zero k e = absurd (omega (arith, e))
again_and_again (suc n) m (suc total) k e = ap (λ (ks : List ℕ). k ∷ ks) (again_and_again n m total k (omega (arith, e)))

-- ---- on the way
-- behind n turns of a slice
pub record SoFar (k n : ℕ) (trace : Bool) (others : ℕ) (first now : Seat) (before after : List ModuleView) (sink sink' : SinkView) : Type 0 where
  pub remains : Remains n first now
  pub had : (image : Image) (harts : List Hart) → Sits image k first others before harts → Had image k n trace now after harts sink sink'

pub so_far_first : (k : ℕ) (trace : Bool) (others : ℕ) (first : Seat) (before : List ModuleView) (sink : SinkView) → SoFar k 0 trace others first first before before sink sink
so_far_first k trace others first before sink = record {
  remains = record { memory = refl; frames = refl; places = refl; input = refl; turns = omega arith; waits = omega arith };
  had = λ image harts sits. record {
    told = [];
    runs = ap (λ (hs : List Hart). record { told = []; harts = hs }) (set_own harts k (hart_of first) sits.there);
    takes = takes_none sink;
    none = sits.none;
  };
}

-- where the hart stands among the others now
record Stands (image : Image) (k : ℕ) (now : Seat) (others : ℕ) (harts : List Hart) : Type 0 where
  there : slice_get harts k ≡ Some (hart_of now)
  live : live_over harts ≡ others + live_of (hart_of now)
  lasts : LastsAs now.runtime.hart now.runtime.frames image.fdes
  places : now.runtime.places ≡ image.places

stands : (image : Image) (k n : ℕ) (first now : Seat) (others : ℕ) (before : List ModuleView) (harts : List Hart) → Sits image k first others before harts → Remains n first now →
    Stands image k now others (slice_set harts k (hart_of now))
stands image k n first now others before harts sits remains =
    let changed = live_changes harts k (hart_of first) (hart_of now) sits.there in
    let live = sits.live in record {
      there = set_same harts k (hart_of now) (hart_of first) sits.there;
      live = omega (arith, changed, live);
      lasts = subst (λ (frames : Listing). LastsAs now.runtime.hart frames image.fdes) (sym remains.frames) (λ s e. sits.lasts s (e ∙ remains.memory));
      places = remains.places ∙ sits.places;
    }

-- ---- one turn more
told_is : (t : Turn) (items : List Item) → told_as t items ≡ map shown items ++ ended_as (end_as t)
told_is On items = sym (append-nil (map shown items))
told_is (Ended end) items = refl

-- the hart that a step leaves
left_is : (now new : Seat) (before after : List ModuleView) (s : Stepped now new before after) → hart_of new ≡ seen new.runtime now.input.items (end_as s.turn) (now.runtime.turns + 1) now.waits
left_is now new before after s =
    ap (λ (i : List ℕ). seen new.runtime i new.end new.runtime.turns new.waits) s.input ∙ ap (λ (e : Option End). seen new.runtime now.input.items e new.runtime.turns new.waits) s.end ∙
    ap (λ (t : ℕ). seen new.runtime now.input.items (end_as s.turn) t new.waits) s.stays.turns ∙ ap (λ (w : ℕ). seen new.runtime now.input.items (end_as s.turn) (now.runtime.turns + 1) w) s.waits

turn_is : (image : Image) (k : ℕ) (now new : Seat) (others : ℕ) (harts : List Hart) (before after : List ModuleView) (s : Stepped now new before after) → Stands image k now others harts → before ≡ [] →
    now.end ≡ None → has_to_wait (others + live_of (hart_of now)) (hart_of now).world ≡ false →
    turn image s.wish (live_over harts) (hart_of now) ≡ (hart_of new, map shown new.runtime.shown ++ ended_as new.end)
turn_is image k now new others harts before after s stands none goes_on free =
    let live = live_over harts in
    let now_is : hart_of now ≡ seen now.runtime now.input.items None now.runtime.turns now.waits =
    ap (λ (e : Option End). seen now.runtime now.input.items e now.runtime.turns now.waits) goes_on in
    let no_wait : has_to_wait live (hart_of now).world ≡ false = ap (λ l. has_to_wait l (hart_of now).world) stands.live ∙ free in
    ap (turn image s.wish live) now_is ∙
    step_is_turn image now.runtime new.runtime now.input.items now.runtime.turns now.waits live s.wish s.turn stands.lasts stands.places no_wait (λ fdes lasts. (s.step fdes lasts none).0) ∙
    ap (λ (h : Hart). (h, told_as s.turn new.runtime.shown)) (sym (left_is now new before after s)) ∙
    ap (λ (t : List Told). (hart_of new, t)) (told_is s.turn new.runtime.shown ∙ ap (λ (e : Option End). map shown new.runtime.shown ++ ended_as e) (sym s.end))

-- a run with that turn more
more_runs : (image : Image) (k n : ℕ) (told : List (ℕ × Told)) (now new : Seat) (others : ℕ) (harts : List Hart) (before after : List ModuleView) (s : Stepped now new before after) →
    Runs image (replicate n k) harts (record { told = told; harts = slice_set harts k (hart_of now) }) → Stands image k now others (slice_set harts k (hart_of now)) → before ≡ [] → now.end ≡ None →
    has_to_wait (others + live_of (hart_of now)) (hart_of now).world ≡ false →
    Runs image (replicate (n + 1) k) harts (record { told = told ++ told_then k new.runtime.shown new.end; harts = slice_set harts k (hart_of new) })
more_runs image k n told now new others harts before after s runs stands none goes_on free =
    let r : Ran = record { told = told; harts = slice_set harts k (hart_of now) } in
    let one = one_more image (replicate n k) harts r k s.wish (hart_of now) (hart_of new) (map shown new.runtime.shown ++ ended_as new.end) runs stands.there
    (turn_is image k now new others (slice_set harts k (hart_of now)) before after s stands none goes_on free) in
    subst (λ (ks : List ℕ). Runs image ks harts (record { told = told ++ told_then k new.runtime.shown new.end; harts = slice_set harts k (hart_of new) })) (again_and_again n 1 (n + 1) k refl)
    (subst (λ (hs : List Hart). Runs image (replicate n k ++ replicate 1 k) harts (record { told = told ++ told_then k new.runtime.shown new.end; harts = hs })) (set_twice harts k (hart_of now) (hart_of new)) one)

more_remains : (n : ℕ) (first now new : Seat) (before after : List ModuleView) → Stepped now new before after → Remains n first now → Remains (n + 1) first new
more_remains n first now new before after s h =
    let turns = s.stays.turns in
    let so_far = h.turns in
    let waits = s.waits in
    let waited = h.waits in record {
      memory = s.stays.memory ∙ h.memory;
      frames = s.stays.frames ∙ h.frames;
      places = s.stays.places ∙ h.places;
      input = s.input ∙ h.input;
      turns = omega (arith, turns, so_far);
      waits = omega (arith, waits, waited);
    }

-- the lines of the turn went out
pub so_far_next : (k n : ℕ) (trace : Bool) (others : ℕ) (first now new : Seat) (before mods after : List ModuleView) (old mid last : SinkView) → SoFar k n trace others first now before mods old mid → now.end ≡ None →
    has_to_wait (others + live_of (hart_of now)) (hart_of now).world ≡ false → Stepped now new mods after → TakesAll (pieces_told trace (told_then k new.runtime.shown new.end)) mid last →
    SoFar k (n + 1) trace others first new before after old last
so_far_next k n trace others first now new before mods after old mid last h goes_on free s takes = record {
  remains = more_remains n first now new mods after s h.remains;
  had = λ image harts sits.
      let had = h.had image harts sits in
      let stands = stands image k n first now others before harts sits h.remains in record {
        told = had.told ++ told_then k new.runtime.shown new.end;
        runs = more_runs image k n had.told now new others harts mods after s had.runs stands had.none goes_on free;
        takes = puts_more trace had.told (told_then k new.runtime.shown new.end) old mid last (Ok tt) had.takes takes;
        none = (s.step image.fdes stands.lasts had.none).1;
      };
}

-- one of them failed
pub slice_fails : (k n turns : ℕ) (trace : Bool) (others : ℕ) (first now new : Seat) (before mods after : List ModuleView) (old mid last : SinkView) (e : SinkError) → n < turns →
    SoFar k n trace others first now before mods old mid → now.end ≡ None → has_to_wait (others + live_of (hart_of now)) (hart_of now).world ≡ false → Stepped now new mods after →
    PutsAll (pieces_told trace (told_then k new.runtime.shown new.end)) mid last (Err e) → HasTurns k turns trace others first new before after old last (Err e)
slice_fails k n turns trace others first now new before mods after old mid last Failed less h goes_on free s fails = λ image harts sits.
    let had = h.had image harts sits in
    let stands = stands image k n first now others before harts sits h.remains in
    let told = had.told ++ told_then k new.runtime.shown new.end in
    let runs = more_runs image k n had.told now new others harts mods after s had.runs stands had.none goes_on free in
    let r : Ran = record { told = told; harts = slice_set harts k (hart_of new) } in
    let rest = some_run image (replicate (turns - (n + 1)) k) r.harts in
    let all = runs_join image (replicate (n + 1) k) (replicate (turns - (n + 1)) k) harts r rest.0 runs rest.1 in record {
      ran = record { told = told ++ rest.0.told; harts = rest.0.harts };
      runs = subst (λ (ks : List ℕ). Runs image ks harts (record { told = told ++ rest.0.told; harts = rest.0.harts })) (again_and_again (n + 1) (turns - (n + 1)) turns k (omega (arith, less))) all;
      fails = puts_before trace told rest.0.told old last Failed (puts_more trace had.told (told_then k new.runtime.shown new.end) old mid last (Err Failed) had.takes fails);
    }

-- ---- the rest of a slice
-- the turns that are left tell nothing
quiet : (image : Image) (k n m turns : ℕ) (trace : Bool) (now last : Seat) (after : List ModuleView) (harts : List Hart) (old mid : SinkView) → turns ≡ n + m → (h : Had image k n trace now after harts old mid) →
    Runs image (replicate m k) (slice_set harts k (hart_of now)) (record { told = []; harts = slice_set harts k (hart_of last) }) → Had image k turns trace last after harts old mid
quiet image k n m turns trace now last after harts old mid total h rest =
    let r : Ran = record { told = h.told; harts = slice_set harts k (hart_of now) } in
    let q : Ran = record { told = []; harts = slice_set harts k (hart_of last) } in
    let all = runs_join image (replicate n k) (replicate m k) harts r q h.runs rest in record {
      told = h.told;
      runs = subst (λ (ks : List ℕ). Runs image ks harts (record { told = h.told; harts = slice_set harts k (hart_of last) })) (again_and_again n m turns k total)
          (subst (λ (told : List (ℕ × Told)). Runs image (replicate n k ++ replicate m k) harts (record { told = told; harts = slice_set harts k (hart_of last) })) (append-nil h.told) all);
      takes = h.takes;
      none = h.none;
    }

pub record Done (k turns : ℕ) (trace : Bool) (others : ℕ) (first last : Seat) (before after : List ModuleView) (old new : SinkView) : Type 0 where
  pub has : HasTurns k turns trace others first last before after old new (Ok tt)
  pub remains : Remains turns first last

longer : (n turns : ℕ) (first now : Seat) → n ≤ turns → Remains n first now → Remains turns first now
longer n turns first now less h =
    let t = h.turns in
    let w = h.waits in record { memory = h.memory; frames = h.frames; places = h.places; input = h.input; turns = omega (arith, less, t); waits = omega (arith, less, w) }

-- the hart has ended
pub slice_ended : (k n turns : ℕ) (trace : Bool) (others : ℕ) (first now : Seat) (before after : List ModuleView) (old new : SinkView) (end : End) → n ≤ turns →
    SoFar k n trace others first now before after old new → now.end ≡ Some end → Done k turns trace others first now before after old new
slice_ended k n turns trace others first now before after old new end less h is = record {
  has = λ image harts sits.
      let stands = stands image k n first now others before harts sits h.remains in
      quiet image k n (turns - n) turns trace now now after harts old new (omega (arith, less)) (h.had image harts sits)
      (ended_again image k (turns - n) (slice_set harts k (hart_of now)) (hart_of now) end stands.there is);
  remains = longer n turns first now less h.remains;
}

-- it waits
pub slice_waits : (k n turns : ℕ) (trace : Bool) (others : ℕ) (first now last : Seat) (before after : List ModuleView) (old new : SinkView) → n ≤ turns →
    SoFar k n trace others first now before after old new → now.end ≡ None → has_to_wait (others + live_of (hart_of now)) (hart_of now).world ≡ true →
    last ≡ record now { waits = now.waits + (turns - n) } → Done k turns trace others first last before after old new
slice_waits k n turns trace others first now last before after old new less h goes_on wait is = subst (λ (s : Seat). Done k turns trace others first s before after old new) (sym is) (record {
  has = λ image harts sits.
      let stands = stands image k n first now others before harts sits h.remains in
      let waited : Seat = record now { waits = now.waits + (turns - n) } in
      let again = waits_again image k (turns - n) (slice_set harts k (hart_of now)) (hart_of now) stands.there goes_on (ap (λ l. has_to_wait l (hart_of now).world) stands.live ∙ wait) in
      quiet image k n (turns - n) turns trace now waited after harts old new (omega (arith, less)) (h.had image harts sits)
      (subst (λ (hs : List Hart). Runs image (replicate (turns - n) k) (slice_set harts k (hart_of now)) (record { told = []; harts = hs })) (set_twice harts k (hart_of now) (hart_of waited)) again);
  remains =
      let t = h.remains.turns in
      let w = h.remains.waits in
      record { memory = h.remains.memory; frames = h.remains.frames; places = h.remains.places; input = h.remains.input; turns = omega (arith, less, t); waits = omega (arith, less, w) };
})

-- all its turns are taken
pub slice_done : (k n turns : ℕ) (trace : Bool) (others : ℕ) (first now : Seat) (before after : List ModuleView) (old new : SinkView) → n ≡ turns → SoFar k n trace others first now before after old new →
    Done k turns trace others first now before after old new
slice_done k n turns trace others first now before after old new all h =
    subst (λ (m : ℕ). Done k m trace others first now before after old new) all (record { has = h.had; remains = h.remains })

-- ---- the end
pub some_end : (o : Option End) → is_some o ≡ true → (end : End) × (o ≡ Some end)
some_end None e = absurd cc
some_end (Some end) e = (end, refl)

pub none_end : (o : Option End) → is_some o ≡ false → o ≡ None
none_end None e = refl
none_end (Some end) e = absurd cc
