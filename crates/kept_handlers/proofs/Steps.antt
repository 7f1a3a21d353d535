-- Each step of a compiled function keeps the handlers of open calls in step.
use Rattle.std.proofs.Common.{◌≡◌, ℕ, ◌+◌, ◌-◌, ◌≤◌, ℤ, true, false, List, [], ◌∷◌, Option, Some, None, refl, sym, ap, subst, arith}
use Rattle.std.specs.Prelude.{⊤}
use Rattle.meaning_forms.specs.Arithmetic.{is_zero}
use Rattle.run_items.specs.declared.item.Item.TheVariants.{Free}
use Rattle.region_forms.specs.Evaluation.{value_in}
use Rattle.region_forms.specs.Lives.{is_being_built}
use Rattle.region_forms.specs.World.{Word, nothing, number_word, address_word, flying, unwinding, object_address, address_in, exception_in_slot, Frame, World, with_item}
use Rattle.region_forms.specs.Effect.{Effect, goes, calls, raises, terminates, ends, cancels, leaves_newest, meaningless, effect, finished, freed, result_in, new_world}
use Rattle.linear_forms.specs.Linear.{LinearOp, plain, label, jump, jump_zero, pad, jump_filter, free, resume, unexpected, return}
use Rattle.linear_forms.specs.Stub.{Function, compiled, end_catch, terminating, call_unexpected, linear}
use Rattle.linear_forms.specs.Activation.{Code, Activation, compiled_op, fetch, kinds, at, on, depth_of, enters_function, stub_frame}
use Rattle.linear_forms.specs.Operation.{settled, performed, wanted_by, returned_with, jumped, jumped_zero, holds_number, resumed, act}
use Rattle.linear_forms.specs.Machine.{act_on}
use Rattle.flight_homes.specs.Keeps.{Carrying}
use Rattle.flight_homes.specs.Nest.{is_terminate}
use Rattle.linear_invariant.specs.Handled.{open_handlers}
use Rattle.linear_invariant.specs.Calls.{Marks, comes_back, CallsKeep}
use Rattle.linear_invariant.proofs.Given.{call_quiet}
use Rattle.kept_handlers.specs.Depths.{Depths, depth_at, opens, leaves, CodeOpens}
use Rattle.kept_handlers.specs.Handlers.{IsStopped, KeepsStopped, WaitsForHandler, CallOpens, HandlersStand}
use Rattle.kept_handlers.proofs.Kept.{called, Keeps, keeps_then, quiet_keeps, without_building, unless_not, call_kept, calls_kept}
use Rattle.kept_handlers.proofs.Rows.{own_wants, Lands, newest_lands}
use Rattle.kept_handlers.proofs.Unwinds.{Goes, Stands, either, defined, terminated_goes, unwind_goes, force_goes, raise_goes}
use Rattle.kept_handlers.proofs.Effects.{After, as_it_is, Fine, Calm, finished_fine, op_fine}

-- what was stopped stays in its slot
pub same_stopped : (p q older : ℕ) (x y : Frame) (v : World) → y.slots 0 ≡ x.slots 0 → IsStopped (called call_unexpected p x) older v → IsStopped (called call_unexpected q y) older v
same_stopped p q older x y v same h =
    record { number = h.number; object = subst (λ s. address_in s ≡ Some (object_address h.number)) (sym same) h.object; handled = h.handled; type = h.type; destructor = h.destructor; kept = h.kept; native = h.native }

-- where call_unexpected goes from a place to another it has kept that
abbrev pub Onward : Function → (p q : ℕ) → (x y : Frame) → Type 0
Onward f p q x y = f ≡ call_unexpected → (y.slots 0 ≡ x.slots 0) × (1 ≤ q → q ≤ 15 → (1 ≤ p) × (p ≤ 15))

pub stopped_at : (f : Function) (p q older : ℕ) (x y : Frame) (v : World) → Onward f p q x y → KeepsStopped f (called f p x) older v → KeepsStopped f (called f q y) older v
stopped_at (compiled n) p q older x y v on h = tt
stopped_at end_catch p q older x y v on h = tt
stopped_at terminating p q older x y v on h = tt
stopped_at call_unexpected p q older x y v on h = λ first last. let it = on refl in let from = it.1 first last in same_stopped p q older x y v it.0 (h from.0 from.1)

pub none_compiled : (n : ℕ) {X : Type 0} → compiled n ≡ call_unexpected → X
none_compiled n e = absurd (cc e)

-- what an effect of call_unexpected does at a place: it leaves its slot, and calls from its own places
abbrev pub Own : Function → ℕ → Frame → Effect → Type 0
Own f p x (goes y v) = f ≡ call_unexpected → (y.slots 0 ≡ x.slots 0) × (1 ≤ p)
Own f p x (calls o n given) = f ≡ call_unexpected → p ≡ 1
Own f p x leaves_newest = f ≡ call_unexpected → 15 ≤ p
Own f p x e = ⊤

pub compiled_own : (n p : ℕ) (x : Frame) (e : Effect) → Own (compiled n) p x e
compiled_own n p x (goes y v) = λ i. none_compiled n i
compiled_own n p x (calls o m given) = λ i. none_compiled n i
compiled_own n p x (raises e v) = tt
compiled_own n p x (terminates h v) = tt
compiled_own n p x (ends e v) = tt
compiled_own n p x (cancels z v) = tt
compiled_own n p x leaves_newest = λ i. none_compiled n i
compiled_own n p x meaningless = tt

-- the frame with which a call comes back leaves it as well
abbrev SameSlot : Frame → Effect → Type 0
SameSlot x (goes y v) = y.slots 0 ≡ x.slots 0
SameSlot x e = ⊤

pub freed_after : (e : ℕ) (w : World) → ((most : ℕ) → Keeps most (with_item (Free e) w) (freed e w)) → After w 0 (freed e w)
freed_after e w keeps =
    let most = open_handlers w.caught in record { keeps = keeps_then most w (with_item (Free e) w) (freed e w) (quiet_keeps most w (with_item (Free e) w) refl refl) (keeps most); count = omega arith }

module _ (code : Code) (d : Depths) (opened : CodeOpens code d) where
  -- the same call goes on
  pub goes_at : (f : Function) (p q more : ℕ) (x y : Frame) (fs : List Activation) (w v : World) → Stands d (called f p x) fs w → After w more v → depth_at d f q ≤ depth_at d f p + more → Onward f p q x y → Goes d (at f q y fs v)
  goes_at f p q more x y fs w v h after depth onward =
      let few = h.1.few in
      let count = after.count in
      let own = call_kept d (open_handlers w.caught) w v after.keeps None (called f p x) (open_handlers w.caught) h.0 (omega arith) h.1 in
      (h.0, record { few = omega (arith, few, count, depth); stopped = stopped_at f p q h.0 x y v onward own.stopped; waits = tt; goes_on = tt }, calls_kept d (open_handlers w.caught) w v after.keeps f fs h.0 (omega (arith, few)) h.2)

  -- a call that waits for a function, and those below it
  abbrev pub Below : Function → Activation → List Activation → World → Type 0
  Below g a fs w = (older : ℕ) × CallOpens d (Some g) a (open_handlers w.caught) older w × HandlersStand d a.function fs older w

  pub begins_goes : (n : ℕ) (given : List Word) (a : Activation) (fs : List Activation) (w : World) → Below (compiled n) a fs w → Goes d (enters_function code n given (a ∷ fs) w)
  begins_goes n given a fs w h =
      let most = open_handlers w.caught in
      let v = new_world (code.kinds_at n) given (depth_of (a ∷ fs) + 1) w in
      let q = call_quiet (code.kinds_at n) given (depth_of (a ∷ fs) + 1) w in
      let first = opened.first n in
      let same : open_handlers v.caught ≡ most = ap open_handlers q.caught in
      (most, record { few = omega (arith, first, same); stopped = tt; waits = tt; goes_on = tt }, calls_kept d most w v (quiet_keeps most w v q.live q.caught) (compiled n) (a ∷ fs) most (omega arith) h)

  pub calls_from : (n : ℕ) (a : Activation) (fs : List Activation) (w : World) → Stands d a fs w → depth_at d a.function (a.place + 1) ≤ depth_at d a.function a.place → WaitsForHandler (Some (compiled n)) a → Below (compiled n) a fs w
  calls_from n a fs w h next waits = (h.0, record { few = h.1.few; stopped = h.1.stopped; waits = waits; goes_on = λ e. next }, h.2)

  pub leaves_goes : (a : Activation) (fs : List Activation) (w : World) → Stands d a fs w → depth_at d a.function (a.place + 1) + 1 ≤ depth_at d a.function a.place → WaitsForHandler (Some end_catch) a →
      Goes d (at end_catch 0 (stub_frame nothing nothing nothing) (a ∷ fs) w)
  leaves_goes a fs w h next waits =
      let most = open_handlers w.caught in
      let few = h.1.few in
      (most - 1, record { few = omega (arith, few, next); stopped = tt; waits = tt; goes_on = tt }, (h.0, record { few = omega (arith, few, next); stopped = h.1.stopped; waits = waits; goes_on = λ e. omega (arith, next) }, h.2))

  -- a call comes back
  module _ (g : Function) (back : comes_back g ≡ true) where
    not_terminate : is_terminate g ≡ false
    not_terminate = go g back
      where
        go : (g : Function) → comes_back g ≡ true → is_terminate g ≡ false
        go (compiled n) e = refl
        go end_catch e = refl
        go terminating e = absurd (cc e)
        go call_unexpected e = refl

    module _ (f : Function) (p : ℕ) (x : Frame) (fs : List Activation) (w : World) (most : ℕ) (le : most ≤ open_handlers w.caught) (older : ℕ) (own : CallOpens d (Some g) (called f p x) most older w) (below : HandlersStand d f fs older w) where
      same_slot : (f : Function) (z : ℤ) → f ≡ call_unexpected → SameSlot x (finished (kinds code f) (wanted_by (fetch code f p)) z x w)
      same_slot (compiled n) z e = none_compiled n e
      same_slot end_catch z e = absurd (cc e)
      same_slot terminating z e = absurd (cc e)
      same_slot call_unexpected z e = subst (λ o. SameSlot x (finished (kinds code call_unexpected) o z x w)) (sym (own_wants p)) refl

      onward : (g : Function) (y : Frame) → comes_back g ≡ true → WaitsForHandler (Some g) (called f p x) → (f ≡ call_unexpected → y.slots 0 ≡ x.slots 0) → Onward f p (p + 1) x y
      onward (compiled n) y e waits same is = let here = waits is in (same is, λ first last. (omega (arith, here), omega (arith, here)))
      onward end_catch y e waits same is = let from = waits is in (same is, λ first last. absurd (omega (arith, from, last)))
      onward terminating y e waits same is = absurd (cc e)
      onward call_unexpected y e waits same is = absurd (cc e)

      settled_goes : (e : Effect) → Calm w e → (f ≡ call_unexpected → SameSlot x e) → Goes d (settled e (called f p x) fs w)
      settled_goes (goes y v) fine same =
          let after = fine.0 in
          let count = after.count in
          let few = own.few in
          let next = own.goes_on back in
          let kept = call_kept d (open_handlers w.caught) w v after.keeps (Some g) (called f p x) most older le own in (
            older,
            record { few = omega (arith, few, next, le, count); stopped = stopped_at f p (p + 1) older x y v (onward g y back own.waits same) kept.stopped; waits = tt; goes_on = tt },
            calls_kept d (open_handlers w.caught) w v after.keeps f fs older (omega (arith, few, le)) below,
          )
      settled_goes (calls o n given) fine same = tt
      settled_goes (raises e v) fine same = tt
      settled_goes (terminates h v) fine same = tt
      settled_goes (ends e v) fine same = tt
      settled_goes (cancels z v) fine same = tt
      settled_goes leaves_newest fine same = tt
      settled_goes meaningless fine same = tt

      back_goes : (z : ℤ) → Goes d (settled (finished (kinds code f) (wanted_by (fetch code f p)) z x w) (called f p x) fs w)
      back_goes z = settled_goes (finished (kinds code f) (wanted_by (fetch code f p)) z x w) (finished_fine w x (kinds code f) (wanted_by (fetch code f p)) z w refl refl) (same_slot f z)

    pub returned_goes : (o : Option ℤ) (fs : List Activation) (w : World) (most : ℕ) → most ≤ open_handlers w.caught → HandlersStand d g fs most w → Goes d (returned_with code o fs w)
    returned_goes None fs w most le h = tt
    returned_goes (Some z) [] w most le h = tt
    returned_goes (Some z) (a ∷ fs) w most le h = let it = unless_not g _ not_terminate h in back_goes a.function a.place a.frame fs w most le it.0 it.1 it.2 z

  module _ (k : Carrying) (marks : Marks) (known : World) where
    module _ (f : Function) (p : ℕ) (x : Frame) (fs : List Activation) (w : World) (lands : Lands code d opened f p (depth_at d f p)) (keeps : CallsKeep code k marks (Some f) fs known) (h : Stands d (called f p x) fs w) where
      moved_to : (v : World) → After w 0 v → Stands d (called f p x) fs v
      moved_to v after =
          let few = h.1.few in
          let count = after.count in
          let own = call_kept d (open_handlers w.caught) w v after.keeps None (called f p x) (open_handlers w.caught) h.0 (omega arith) h.1 in
          (h.0, record { few = omega (arith, few, count); stopped = own.stopped; waits = tt; goes_on = tt }, calls_kept d (open_handlers w.caught) w v after.keeps f fs h.0 (omega (arith, few)) h.2)

      pub performed_goes : (more left : ℕ) (e : Effect) → Fine w more left e → Own f p x e → depth_at d f (p + 1) + left ≤ depth_at d f p + more → Goes d (performed code e (called f p x) fs w)
      performed_goes more left (goes y v) fine own next =
          goes_at f p (p + 1) more x y fs w v h fine.0 (omega (arith, next)) (λ is. let it = own is in let first = it.1 in (it.0, λ from last. (first, omega (arith, last))))
      performed_goes more left (calls o n given) fine own next =
          let none = fine.0 in begins_goes n given (called f p x) fs w (calls_from n (called f p x) fs w h (omega (arith, next, none)) own)
      performed_goes more left (raises e v) fine own next = raise_goes code d opened k marks known f p x fs lands keeps e v (moved_to v fine)
      performed_goes more left (terminates m v) fine own next = terminated_goes d m (called f p x ∷ fs) v
      performed_goes more left (ends e v) fine own next = tt
      performed_goes more left (cancels z v) fine own next = force_goes code d opened k marks known f p x fs lands keeps z v (moved_to v fine)
      performed_goes more left leaves_newest fine own next =
          let none = fine.0 in let one = fine.1 in leaves_goes (called f p x) fs w h (omega (arith, next, none, one)) own
      performed_goes more left meaningless fine own next = tt

      pub resumed_goes : (word : Word) → Goes d (resumed code word (called f p x) fs w)
      resumed_goes (flying e t) = unwind_goes code d opened k marks known f p x fs lands keeps t e w h
      resumed_goes (unwinding z) = force_goes code d opened k marks known f p x fs lands keeps z w h
      resumed_goes nothing = tt
      resumed_goes (number_word z) = tt
      resumed_goes (address_word b) = tt

    -- an operation of a compiled function
    module _ (n p : ℕ) (x : Frame) (fs : List Activation) (w : World) (h : Stands d (called (compiled n) p x) fs w) (keeps : CallsKeep code k marks (Some (compiled n)) fs known) where
      abbrev a : Activation
      a = called (compiled n) p x

      moves : (q : ℕ) (v : World) → After w 0 v → d n q ≤ d n p → Goes d (at (compiled n) q x fs v)
      moves q v after le = goes_at (compiled n) p q 0 x x fs w v h after (omega (arith, le)) (λ i. none_compiled n i)

      act_goes : (o : LinearOp) → fetch code (compiled n) p ≡ Some (linear o) → Goes d (act code o a fs w)
      act_goes (plain o) there =
          performed_goes (compiled n) p x fs w (newest_lands code d opened (compiled n) p (plain o) there) keeps h (opens (plain o)) (leaves (plain o)) (effect (code.kinds_at n) o x w) (op_fine w x (code.kinds_at n) o)
          (compiled_own n p x (effect (code.kinds_at n) o x w)) (opened.next n p (plain o) there refl)
      act_goes (label l) there = let next = opened.next n p (label l) there refl in moves (p + 1) w (as_it_is w) (omega (arith, next))
      act_goes (jump l) there = moves (code.label_at n l) w (as_it_is w) (opened.jump n p l (jump l) there refl)
      act_goes (jump_zero v l) there = go (value_in (code.kinds_at n) x w v)
        where
          go : (o : Option ℤ) → Goes d (jumped_zero code o l a fs w)
          go None = tt
          go (Some z) =
              let next = opened.next n p (jump_zero v l) there refl in
              either d (is_zero z) (jumped code l a fs w) (on a x fs w) (moves (code.label_at n l) w (as_it_is w) (opened.jump n p l (jump_zero v l) there refl)) (moves (p + 1) w (as_it_is w) (omega (arith, next)))
      act_goes (pad o s) there = tt
      act_goes (jump_filter s z l) there =
          let next = opened.next n p (jump_filter s z l) there refl in
          either d (holds_number (x.slots s) z) (jumped code l a fs w) (on a x fs w) (moves (code.label_at n l) w (as_it_is w) (opened.jump n p l (jump_filter s z l) there refl)) (moves (p + 1) w (as_it_is w) (omega (arith, next)))
      act_goes (free s) there =
          let e = exception_in_slot x s in
          let next = opened.next n p (free s) there refl in
          defined d (is_being_built w e) w (on a x fs (freed e w))
          (λ built. moves (p + 1) (freed e w) (freed_after e w (λ most. without_building most e (with_item (Free e) w) built)) (omega (arith, next)))
      act_goes (resume s) there = resumed_goes (compiled n) p x fs w (newest_lands code d opened (compiled n) p (resume s) there) keeps h (x.slots s)
      act_goes (unexpected o s) there = (
        open_handlers w.caught,
        record { few = omega arith; stopped = λ first last. absurd (omega (arith, first)); waits = tt; goes_on = tt },
        (h.0, record { few = h.1.few; stopped = tt; waits = tt; goes_on = λ e. absurd (cc e) }, h.2),
      )
      act_goes (return r) there = let few = h.1.few in returned_goes (compiled n) refl (result_in r x w (code.kinds_at n)) fs w h.0 (omega (arith, few)) h.2

      pub compiled_goes : (o : Option LinearOp) → code.op_at n p ≡ o → Goes d (act_on code (compiled_op o) a fs w)
      compiled_goes None there = tt
      compiled_goes (Some o) there = act_goes o (ap compiled_op there)
