-- A run on its way: what was shown, written and cleaned by the turns that were made.
use Rattle.std.proofs.Common.{◌≡◌, ◌∙◌, refl, sym, ap, subst, ℕ, zero, suc, ◌+◌, ◌<◌, Bool, List, [], ◌∷◌, ◌++◌, map, length, zero-add, arith, None, Option}
use Rattle.std.specs.Prelude.{filter}
use Rattle.std.proofs.lemmas.List.{map-append, length-replicate}
use Rattle.std.proofs.lemmas.List.Elements.{filter-append}
use Rattle.eh_outer.specs.Module.{ModuleView, cleaned}
use Rattle.eh_outer.specs.Sink.{SinkView}
use Rattle.foreign_host.specs.Host.{changed_at}
use Rattle.table_forms.specs.Fde.{Fde}
use Rattle.run_items.specs.declared.item.Item.{Item}
use Rattle.run_items.specs.declared.item.Item.TheVariants as items
use Rattle.run_items.specs.Line.{is_printed, line_of, lines_of}
use Rattle.run_items.specs.Output.{TakesAll, FailsAmong}
use Rattle.run_items.proofs.Puts.{takes_none, takes_more, fails_more}
use Rattle.frame_read.specs.ReadsFrames.{Listing}
use Rattle.caught_stack.specs.declared.header.Header.{Header}
use Rattle.caught_stack.specs.Live.{slots, all_vacant}
use Rattle.cxa_runtime.specs.declared.effect.End.{End}
use Rattle.cxa_runtime.specs.declared.effect.End.TheVariants as ends
use Rattle.cxa_runtime.specs.declared.effect.Turn.{Turn}
use Rattle.cxa_runtime.specs.declared.effect.Turn.TheVariants.{On, Ended}
use Rattle.cxa_runtime.specs.Kept.{Kept, StaysFrozen, image_of, replies_of, world_of}
use Rattle.cxa_runtime.specs.Lasting.{LastsAs}
use Rattle.cxa_runtime.specs.Raising.{Image}
use Rattle.cxa_runtime.specs.Run.{Runs, Turned, turn}
use Rattle.cxa_runtime.specs.Turns.{Answers, Writes, after_cleanups, apart_from_replies}
use Rattle.cxa_runtime.specs.World.{World, begins}
use Rattle.eh_run.specs.Program.{Program}
use Rattle.eh_run.specs.Ready.{IsReady, program_in}
use Rattle.eh_run.specs.Runs.{RunsToEnd, RunsToFault, RunsBy}
use Rattle.eh_run.specs.Steps.{steps_at}
use Rattle.eh_run.proofs.Turning.{Onward, Counts, IsMachines, onward_first, onward_next, onward_ends, onward_budget, turn_counts}

-- ---- cleanups
abbrev apart_one : ModuleView → ModuleView
apart_one seen = record seen { rest = [] }

apart_changed : (k token : ℕ) (ms : List ModuleView) →
    apart_from_replies (changed_at k (λ seen. cleaned seen token) ms) ≡ changed_at k (λ seen. cleaned seen token) (apart_from_replies ms)
apart_changed k token [] = refl
apart_changed zero token (m ∷ ms) = refl
apart_changed (suc k) token (m ∷ ms) = ap (λ (more : List ModuleView). apart_one m ∷ more) (apart_changed k token ms)

-- what modules clean does not depend on the replies that they have left
apart_after : (shown : List Item) (a b : List ModuleView) → apart_from_replies a ≡ apart_from_replies b →
    apart_from_replies (after_cleanups shown a) ≡ apart_from_replies (after_cleanups shown b)
apart_after [] a b h = h
apart_after (items.Clean k token ∷ more) a b h =
    apart_after more (changed_at k (λ seen. cleaned seen token) a) (changed_at k (λ seen. cleaned seen token) b)
    (apart_changed k token a ∙ ap (changed_at k (λ seen. cleaned seen token)) h ∙ sym (apart_changed k token b))
apart_after (items.Line n ∷ more) a b h = apart_after more a b h
apart_after (items.Make n ∷ more) a b h = apart_after more a b h
apart_after (items.Foreign n k token ∷ more) a b h = apart_after more a b h
apart_after (items.Enter n ∷ more) a b h = apart_after more a b h
apart_after (items.Leave n ∷ more) a b h = apart_after more a b h
apart_after (items.Destroy n ∷ more) a b h = apart_after more a b h
apart_after (items.Free n ∷ more) a b h = apart_after more a b h

cleanups_both : (x y : List Item) (ms : List ModuleView) → after_cleanups (x ++ y) ms ≡ after_cleanups y (after_cleanups x ms)
cleanups_both [] y ms = refl
cleanups_both (items.Clean k token ∷ x) y ms = cleanups_both x y (changed_at k (λ seen. cleaned seen token) ms)
cleanups_both (items.Line n ∷ x) y ms = cleanups_both x y ms
cleanups_both (items.Make n ∷ x) y ms = cleanups_both x y ms
cleanups_both (items.Foreign n k token ∷ x) y ms = cleanups_both x y ms
cleanups_both (items.Enter n ∷ x) y ms = cleanups_both x y ms
cleanups_both (items.Leave n ∷ x) y ms = cleanups_both x y ms
cleanups_both (items.Destroy n ∷ x) y ms = cleanups_both x y ms
cleanups_both (items.Free n ∷ x) y ms = cleanups_both x y ms

lines_both : (trace : Bool) (x y : List Item) → lines_of trace (x ++ y) ≡ lines_of trace x ++ lines_of trace y
lines_both trace x y =
    ap (map line_of) (filter-append (is_printed trace) x y) ∙ map-append line_of (filter (is_printed trace) x) (filter (is_printed trace) y)

-- ---- on the way
-- behind k turns, none of which ended the run
pub record Going (program : Program) (input : List ℕ) (trace : Bool) (before : List ModuleView) (old : SinkView) (k : ℕ) (runtime : Kept) (modules : List ModuleView) (sink : SinkView) : Type 0 where
  pub shown : List Item
  pub onward : Onward program.image (begins program.hart input (replies_of before)) (world_of runtime input (replies_of modules)) k shown
  pub lasts : LastsAs runtime.hart runtime.frames program.image.fdes
  pub places : runtime.places ≡ program.image.places
  pub turns : runtime.turns ≡ k
  pub takes : TakesAll (lines_of trace shown) old sink
  pub cleaned : apart_from_replies modules ≡ apart_from_replies (after_cleanups shown before)

slots_at_first : length all_vacant ≡ slots
unfolding all_vacant
slots_at_first = length-replicate {A = Option Header} slots None

-- a run begins
pub going_first : (runtime : Kept) (header : ℕ) (input : List ℕ) (trace : Bool) (modules : List ModuleView) (sink : SinkView) → IsReady runtime header →
    Going (program_in runtime header) input trace modules sink 0 runtime modules sink
going_first runtime header input trace modules sink ready =
    let image = (program_in runtime header).image in
    let w = begins runtime.hart input (replies_of modules) in
    let first : world_of runtime input (replies_of modules) ≡ w = ap (λ (k : Kept). world_of k input (replies_of modules)) ready.fresh in record {
      shown = [];
      onward = subst (λ (v : World). Onward image w v 0 []) (sym first) (onward_first image w slots_at_first);
      lasts = ready.lasts;
      places = refl;
      turns = ap (λ (k : Kept). k.turns) ready.fresh;
      takes = takes_none sink;
      cleaned = refl;
    }

-- what a turn has done
pub record TurnDone (input : List ℕ) (trace : Bool) (old new : Kept) (modules after : List ModuleView) (sink sink' : SinkView) (result : Turn) : Type 0 where
  pub step : (wish : ℕ) × ((fdes : List Fde) → LastsAs old.hart old.frames fdes →
      Answers (turn (image_of fdes old) wish (world_of old input (replies_of modules))) result (world_of new input (replies_of after)))
  pub writes : Writes trace new.shown sink sink' result
  pub stays : StaysFrozen old new
  pub cleans : (fdes : List Fde) → LastsAs old.hart old.frames fdes → apart_from_replies after ≡ apart_from_replies (after_cleanups new.shown modules)

answered_on : (t : Turned) (after : World) → Answers t On after → t ≡ (On, after)
answered_on (answer, w) after h = ap (λ (a : Turn). (a, w)) h.0 ∙ ap (λ (v : World). (On, v)) h.1

answered_end : (t : Turned) (end : End) (after : World) → (t.0 ≡ Ended end) × (t.1 ≡ after) → t ≡ (Ended end, after)
answered_end (answer, w) end after h = ap (λ (a : Turn). (a, w)) h.0 ∙ ap (λ (v : World). (Ended end, v)) h.1

same_image : (image : Image) (k : Kept) → k.places ≡ image.places → image_of image.fdes k ≡ image
same_image image k same = ap (λ places. record { fdes = image.fdes; places = places }) same

cleaned_more : (shown more : List Item) (before modules after : List ModuleView) → apart_from_replies modules ≡ apart_from_replies (after_cleanups shown before) →
    apart_from_replies after ≡ apart_from_replies (after_cleanups more modules) → apart_from_replies after ≡ apart_from_replies (after_cleanups (shown ++ more) before)
cleaned_more shown more before modules after so_far now =
    now ∙ apart_after more modules (after_cleanups shown before) so_far ∙ ap apart_from_replies (sym (cleanups_both shown more before))

-- the run goes on
pub going_next : (program : Program) (input : List ℕ) (trace : Bool) (before : List ModuleView) (first : SinkView) (k : ℕ) (old new : Kept) (modules after : List ModuleView) (sink sink' : SinkView) →
    Going program input trace before first k old modules sink → TurnDone input trace old new modules after sink sink' On → Going program input trace before first (k + 1) new after sink'
going_next program input trace before first k old new modules after sink sink' h t =
    let w = begins program.hart input (replies_of before) in
    let v = world_of old input (replies_of modules) in
    let u = world_of new input (replies_of after) in
    let stays = t.stays in
    let stepped = subst (λ (image : Image). Answers (turn image t.step.0 v) On u) (same_image program.image old h.places) (t.step.1 program.image.fdes h.lasts) in
    let turns = h.turns in
    let more = stays.turns in record {
      shown = h.shown ++ new.shown;
      onward = onward_next program.image w v u k t.step.0 h.shown h.onward (answered_on (turn program.image t.step.0 v) u stepped);
      lasts = subst (λ (frames : Listing). LastsAs new.hart frames program.image.fdes) (sym stays.frames) (λ s e. h.lasts s (e ∙ stays.memory));
      places = stays.places ∙ h.places;
      turns = omega (arith, turns, more);
      takes = subst (λ (lines : List (List ℕ)). TakesAll lines first sink') (sym (lines_both trace h.shown new.shown))
          (takes_more (lines_of trace h.shown) (lines_of trace new.shown) first sink sink' h.takes t.writes);
      cleaned = cleaned_more h.shown new.shown before modules after h.cleaned (t.cleans program.image.fdes h.lasts);
    }

-- the run ends, and its lines were written
to_end : (program : Program) (input : List ℕ) (trace : Bool) (before : List ModuleView) (first : SinkView) (k n : ℕ) (old new : Kept) (modules after : List ModuleView) (sink sink' : SinkView) (wish : ℕ) (end : End) →
    Going program input trace before first k old modules sink → k < n → turn program.image wish (world_of old input (replies_of modules)) ≡ (Ended end, world_of new input (replies_of after)) →
    TakesAll (lines_of trace new.shown) sink sink' → apart_from_replies after ≡ apart_from_replies (after_cleanups new.shown modules) →
    RunsToEnd program input n trace before after first sink' (record { end = end; count = steps_at k end })
to_end program input trace before first k n old new modules after sink sink' wish end h less is takes cleans =
    let w = begins program.hart input (replies_of before) in
    let v = world_of old input (replies_of modules) in
    let u = world_of new input (replies_of after) in
    let counts : (u.count ≡ steps_at v.count end) × IsMachines end = subst (Counts v.count) is (turn_counts program.image v wish h.onward.live).counts in
    let so_far : v.count ≡ k = h.onward.count ∙ zero-add k in record {
      whole = record { items = h.shown ++ new.shown; end = end; world = u };
      runs = onward_ends program.image w v u k n wish h.shown end h.onward less is;
      end = refl;
      count = counts.0 ∙ ap (λ m. steps_at m end) so_far;
      writes = subst (λ (lines : List (List ℕ)). TakesAll lines first sink') (sym (lines_both trace h.shown new.shown))
          (takes_more (lines_of trace h.shown) (lines_of trace new.shown) first sink sink' h.takes takes);
      leaves = record { replies = refl; cleaned = cleaned_more h.shown new.shown before modules after h.cleaned cleans };
    }

-- the run, up to its last step, whose lines could not be written
to_fault : (program : Program) (input : List ℕ) (trace : Bool) (before : List ModuleView) (first : SinkView) (k n : ℕ) (old new : Kept) (modules after : List ModuleView) (sink sink' : SinkView) (wish : ℕ) →
    Going program input trace before first k old modules sink → k < n → (turn program.image wish (world_of old input (replies_of modules))).1 ≡ world_of new input (replies_of after) →
    FailsAmong (lines_of trace new.shown) sink sink' → apart_from_replies after ≡ apart_from_replies (after_cleanups new.shown modules) →
    RunsToFault program input n trace before after first sink' (record { end = ends.WriteFault; count = k })
to_fault program input trace before first k n old new modules after sink sink' wish h less is fails cleans =
    by (turn program.image wish (world_of old input (replies_of modules))) refl is
  where
    fault : (end : End) → Runs program.image (k + 1) (begins program.hart input (replies_of before)) (record { items = h.shown ++ new.shown; end = end; world = world_of new input (replies_of after) }) →
        RunsToFault program input n trace before after first sink' (record { end = ends.WriteFault; count = k })
    fault end ran = record {
      front = record { items = h.shown ++ new.shown; end = end; world = world_of new input (replies_of after) };
      runs = ran;
      budget = less;
      writes = subst (λ (lines : List (List ℕ)). FailsAmong lines first sink') (sym (lines_both trace h.shown new.shown))
          (fails_more (lines_of trace h.shown) (lines_of trace new.shown) first sink sink' h.takes fails);
      leaves = record { replies = refl; cleaned = cleaned_more h.shown new.shown before modules after h.cleaned cleans };
    }

    by : (t : Turned) → turn program.image wish (world_of old input (replies_of modules)) ≡ t → t.1 ≡ world_of new input (replies_of after) →
        RunsToFault program input n trace before after first sink' (record { end = ends.WriteFault; count = k })
    by (On, u) is same =
        let w = begins program.hart input (replies_of before) in
        let v = world_of old input (replies_of modules) in
        let next = onward_next program.image w v (world_of new input (replies_of after)) k wish h.shown h.onward (is ∙ ap (λ (x : World). (On, x)) same) in
        fault ends.Budget (onward_budget program.image w (world_of new input (replies_of after)) (k + 1) (h.shown ++ new.shown) next)
    by (Ended end, u) is same =
        let w = begins program.hart input (replies_of before) in
        let v = world_of old input (replies_of modules) in
        fault end (onward_ends program.image w v (world_of new input (replies_of after)) k (k + 1) wish h.shown end h.onward (omega arith) (is ∙ ap (λ (x : World). (Ended end, x)) same))

-- by the end that the turn answers
pub going_ends : (program : Program) (input : List ℕ) (trace : Bool) (before : List ModuleView) (first : SinkView) (k n : ℕ) (old new : Kept) (modules after : List ModuleView) (sink sink' : SinkView) (end : End) →
    Going program input trace before first k old modules sink → k < n → TurnDone input trace old new modules after sink sink' (Ended end) →
    RunsBy end program input n trace before after first sink' (record { end = end; count = steps_at k end })
going_ends program input trace before first k n old new modules after sink sink' end h less t =
    by end t.writes (subst (λ (image : Image). Answers (turn image t.step.0 (world_of old input (replies_of modules))) (Ended end) (world_of new input (replies_of after)))
    (same_image program.image old h.places) (t.step.1 program.image.fdes h.lasts)) (t.cleans program.image.fdes h.lasts)
  where
    ended : (end : End) → TakesAll (lines_of trace new.shown) sink sink' →
        ((turn program.image t.step.0 (world_of old input (replies_of modules))).0 ≡ Ended end) × ((turn program.image t.step.0 (world_of old input (replies_of modules))).1 ≡ world_of new input (replies_of after)) →
        apart_from_replies after ≡ apart_from_replies (after_cleanups new.shown modules) →
        RunsToEnd program input n trace before after first sink' (record { end = end; count = steps_at k end })
    ended end takes is cleans =
        to_end program input trace before first k n old new modules after sink sink' t.step.0 end h less
        (answered_end (turn program.image t.step.0 (world_of old input (replies_of modules))) end (world_of new input (replies_of after)) is) takes cleans

    by : (end : End) → Writes trace new.shown sink sink' (Ended end) →
        Answers (turn program.image t.step.0 (world_of old input (replies_of modules))) (Ended end) (world_of new input (replies_of after)) →
        apart_from_replies after ≡ apart_from_replies (after_cleanups new.shown modules) →
        RunsBy end program input n trace before after first sink' (record { end = end; count = steps_at k end })
    by (ends.Exit exit) writes is cleans = ended (ends.Exit exit) writes is cleans
    by ends.Aborted writes is cleans = ended ends.Aborted writes is cleans
    by ends.Budget writes is cleans = ended ends.Budget writes is cleans
    by ends.Stack writes is cleans = ended ends.Stack writes is cleans
    by (ends.Fault kind place) writes is cleans = ended (ends.Fault kind place) writes is cleans
    by ends.WriteFault writes is cleans =
        to_fault program input trace before first k n old new modules after sink sink' t.step.0 h less is writes cleans

-- all the steps that were allowed were made
pub going_stops : (program : Program) (input : List ℕ) (trace : Bool) (before : List ModuleView) (first : SinkView) (n : ℕ) (runtime : Kept) (modules : List ModuleView) (sink : SinkView) →
    Going program input trace before first n runtime modules sink → RunsToEnd program input n trace before modules first sink (record { end = ends.Budget; count = n })
going_stops program input trace before first n runtime modules sink h = record {
  whole = record { items = h.shown; end = ends.Budget; world = world_of runtime input (replies_of modules) };
  runs = onward_budget program.image (begins program.hart input (replies_of before)) (world_of runtime input (replies_of modules)) n h.shown h.onward;
  end = refl;
  count = h.onward.count ∙ zero-add n;
  writes = h.takes;
  leaves = record { replies = refl; cleaned = h.cleaned };
}

-- no turn answers that the budget is used up
pub never_budget : (program : Program) (input : List ℕ) (trace : Bool) (before : List ModuleView) (first : SinkView) (k : ℕ) (old new : Kept) (modules after : List ModuleView) (sink sink' : SinkView) (end : End) →
    end ≡ ends.Budget → Going program input trace before first k old modules sink → TurnDone input trace old new modules after sink sink' (Ended end) → ⊥
never_budget program input trace before first k old new modules after sink sink' end is h t =
    let v = world_of old input (replies_of modules) in
    let u = world_of new input (replies_of after) in
    let done = subst (λ (e : End). TurnDone input trace old new modules after sink sink' (Ended e)) is t in
    let answer = subst (λ (image : Image). Answers (turn image done.step.0 v) (Ended ends.Budget) u) (same_image program.image old h.places) (done.step.1 program.image.fdes h.lasts) in
    let counts : (u.count ≡ steps_at v.count ends.Budget) × ⊥ =
    subst (Counts v.count) (answered_end (turn program.image done.step.0 v) ends.Budget u answer) (turn_counts program.image v done.step.0 h.onward.live).counts in
    counts.1
