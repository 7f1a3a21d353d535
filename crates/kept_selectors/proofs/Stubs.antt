-- So does a step of the runtime's own functions, which leave the list and its function where call_unexpected has them.
use Rattle.std.proofs.Common.{◌≡◌, inl, inr, ℕ, zero, suc, ◌+◌, ℤ, pos, negsuc, Bool, true, false, ◌==◌, List, [], ◌∷◌, Option, Some, None, refl, ap, ◌∙◌, subst, if◌then◌else◌}
use Rattle.std.specs.Prelude.{◌&&◌}
use Rattle.meaning_forms.specs.Arithmetic.{is_zero}
use Rattle.region_forms.specs.Form.{make, throw, rethrow, enter}
use Rattle.region_forms.specs.Caught.{Entry, gives_back, holds_other}
use Rattle.region_forms.specs.Ending.{bad_row}
use Rattle.region_forms.specs.Unexpected.{kept_with}
use Rattle.region_forms.specs.Lives.{is_native, is_being_built, can_travel, may_enter, may_leave}
use Rattle.region_forms.specs.World.{Word, nothing, number_word, address_word, flying, unwinding, object_address, Frame, World, Exception, building, native, foreign, with_slot, exception_in_slot, exception_at, type_at}
use Rattle.region_forms.specs.Effect.{Effect, goes, calls, raises, terminates, ends, cancels, leaves_newest, meaningless, only_where, is_foreign, kept, rethrown, effect, entered, left, newest_of, freed}
use Rattle.linear_forms.specs.Stub.{Function, compiled, end_catch, terminating, call_unexpected}
use Rattle.linear_forms.specs.Activation.{Code, Activation, State, Next, goes_to, fetch, kinds, at, function_word}
use Rattle.linear_forms.specs.Operation.{performed, jumped_zero, holds_number, may_free}
use Rattle.linear_forms.specs.StubOperation.{given_back, newest_left, called_held, destroyed, checked, sense_held}
use Rattle.linear_forms.specs.Machine.{act_on, step}
use Rattle.linear_forms.specs.Unit.{unit_of}
use Rattle.linear_forms.specs.UnitRun.{code_of}
use Rattle.flight_homes.specs.Keeps.{Carrying}
use Rattle.flight_homes.specs.Lives.{known_in}
use Rattle.linear_invariant.specs.Calls.{Marks, unmarked, CallsKeep}
use Rattle.linear_invariant.specs.Code.{CodeCarries, CodeFits}
use Rattle.linear_invariant.specs.Stands.{StandsIn}
use Rattle.kept_selectors.specs.Stopping.{CodeStops}
use Rattle.kept_selectors.specs.Selectors.{HasList, FrameNamed, SelectorsNamed, StepsKeepSelectors}
use Rattle.kept_selectors.proofs.Unwinds.{Named, either, next_named, terminated_named}
use Rattle.kept_selectors.proofs.Steps.{called, Leaves, WaitsFor, begins_named, performed_named, resumed_named, returned_named, compiled_named}

module _ (code : Code) (k : Carrying) (c : CodeCarries code k) (t : CodeStops code) where
  abbrev Goes : Next → Type 0
  Goes = Named code k c t

  both : (b : Bool) (x y : Next) → Goes x → Goes y → Goes (if b then x else y)
  both = either code k c t

  -- what a call of one of them gives, where it keeps the same at every place
  module _ (f : Function) (fs : List Activation) (i : SelectorsNamed code k fs) (every : (p : ℕ) (x : Frame) → FrameNamed code k f p x) (p : ℕ) (x : Frame) where
    given_named : (y : Exception) (e o s l : ℕ) (v : World) → Goes (given_back y e o s l (called f p x) fs v)
    given_named building e o s l v = (every l x, i)
    given_named (native u d handlers) e o s l v = (every (p + 1) (with_slot s (function_word d) (with_slot o (address_word (object_address e)) x)), i)
    given_named (foreign j u) e o s l v = (every l x, i)

    left_named : (o s l : ℕ) (w : World) → Goes (newest_left o s l (called f p x) fs w)
    left_named o s l w =
        let gives = given_back (exception_at w (newest_of w.caught)) (newest_of w.caught) o s l (called f p x) fs (left w) in
        let stays = at f l x fs (left w) in
        next_named code k c t (may_leave w w.caught) w (if gives_back w.caught then gives else stays)
        (both (gives_back w.caught) gives stays (given_named (exception_at w (newest_of w.caught)) (newest_of w.caught) o s l (left w)) (every l x, i))

  -- a destructor or a handler is called, if there is one
  module _ (f : Function) (p : ℕ) (x : Frame) (fs : List Activation) (w : World) (h : SelectorsNamed code k (called f p x ∷ fs)) (next : FrameNamed code k f (p + 1) x) where
    destroyed_named : (y object : Word) → Goes (destroyed code y object (called f p x) fs w)
    destroyed_named (number_word (pos n)) object = begins_named code k c t n (object ∷ []) (called f p x ∷ fs) w h
    destroyed_named (number_word (negsuc n)) object = (next, h.1)
    destroyed_named nothing object = (next, h.1)
    destroyed_named (address_word q) object = (next, h.1)
    destroyed_named (flying e d) object = (next, h.1)
    destroyed_named (unwinding z) object = (next, h.1)

    held_named : (y : Word) → Goes (called_held code y (called f p x) fs w)
    held_named (number_word (pos n)) = begins_named code k c t n [] (called f p x ∷ fs) w h
    held_named (number_word (negsuc n)) = (next, h.1)
    held_named nothing = (next, h.1)
    held_named (address_word q) = (next, h.1)
    held_named (flying e d) = (next, h.1)
    held_named (unwinding z) = (next, h.1)

  module _ (fs : List Activation) (w : World) (i : SelectorsNamed code k fs) where
    catch_named : (p : ℕ) (x : Frame) → WaitsFor code k c t end_catch fs → Goes (act_on code (fetch code end_catch p) (called end_catch p x) fs w)
    catch_named zero x wait = left_named end_catch fs i (λ p x. tt) 0 x 0 1 3 w
    catch_named (suc zero) x wait = destroyed_named end_catch 1 x fs w (tt, i) tt (x.slots 1) (x.slots 0)
    catch_named (suc (suc zero)) x wait = let e = exception_in_slot x 0 in next_named code k c t (may_free end_catch w e) w (at end_catch 3 x fs (freed e w)) (tt, i)
    catch_named (suc (suc (suc zero))) x wait = returned_named code k c t end_catch (Some (pos 0)) fs w wait i
    catch_named (suc (suc (suc (suc zero)))) x wait = tt
    catch_named (suc (suc (suc (suc (suc zero))))) x wait = let e = exception_in_slot x 0 in next_named code k c t (may_free end_catch w e) w (at end_catch 6 x fs (freed e w)) (tt, i)
    catch_named (suc (suc (suc (suc (suc (suc zero)))))) x wait = resumed_named code k c t (x.slots 2) (called end_catch 6 x) fs w (tt, i)
    catch_named (suc (suc (suc (suc (suc (suc (suc p))))))) x wait = tt

    ending_named : (p : ℕ) (x : Frame) → Goes (act_on code (fetch code terminating p) (called terminating p x) fs w)
    ending_named zero x = held_named terminating 0 x fs w (tt, i) tt (x.slots 0)
    ending_named (suc zero) x = tt
    ending_named (suc (suc p)) x = tt

    -- what an operation of call_unexpected does
    module _ (x : Frame) (h : HasList code x) where
      with_other : (s : ℕ) (word : Word) → (s == 1) ≡ false → (s == 2) ≡ false → HasList code (with_slot s word x)
      with_other s word one two = record {
        owner = h.owner;
        owner_is = ap (λ b. if b then word else x.slots 2) two ∙ h.owner_is;
        list = h.list;
        list_is = ap (λ b. if b then word else x.slots 1) one ∙ h.list_is;
        chained = h.chained;
      }

      abbrev Leave : Effect → Type 0
      Leave = Leaves code k c t call_unexpected 0

      where_there : (b : Bool) (e : Effect) → Leave e → Leave (only_where b e)
      where_there true e j = j
      where_there false e j = tt

      one_of : (b : Bool) (d e : Effect) → Leave d → Leave e → Leave (if b then d else e)
      one_of true d e j l = j
      one_of false d e j l = l

      enter_leaves : Leave (effect (kinds code call_unexpected) (enter 4) x w)
      enter_leaves =
          let e = exception_in_slot x 4 in
          let stops = is_foreign (exception_at w e) && holds_other e w.caught in
          let ended = terminates w.installed.terminate_handler w in
          let done = goes x (entered e w) in
          where_there (may_enter w e) (if stops then ended else done) (one_of stops ended done tt h)

      make_leaves : Leave (effect (kinds code call_unexpected) (make 7) x w)
      make_leaves = one_of _ (terminates _ _) (goes _ _) tt (with_other 7 (address_word (object_address (w.last_number + 1))) refl refl)

      throw_leaves : Leave (effect (kinds code call_unexpected) (throw 7 bad_row None) x w)
      throw_leaves = let e = exception_in_slot x 7 in where_there (is_being_built w e) (raises e (kept e bad_row None w)) tt

      rethrow_leaves : (xs : List Entry) → Leave (rethrown xs w)
      rethrow_leaves [] = tt
      rethrow_leaves (y ∷ ys) = one_of y.again (terminates _ _) (only_where (can_travel w y.number) (raises y.number w)) tt (where_there (can_travel w y.number) (raises y.number w) tt)

      -- the place is not asked
      at_any : (p : ℕ) (e : Effect) → Leave e → Leaves code k c t call_unexpected p e
      at_any p e = go e
        where
          go : (e : Effect) → Leave e → Leaves code k c t call_unexpected p e
          go (goes y v) j = j
          go (calls q n given) j = tt
          go (raises d v) j = tt
          go (terminates m v) j = tt
          go (ends d v) j = tt
          go (cancels z v) j = tt
          go leaves_newest j = tt
          go meaningless j = tt

      does : (p : ℕ) (e : Effect) → Leave e → Goes (performed code e (called call_unexpected p x) fs w)
      does p e j = performed_named code k c t e (called call_unexpected p x) fs w (at_any (p + 1) e j) (h, i)

      zero_named : (p : ℕ) (o : Option ℤ) (l : ℕ) → Goes (jumped_zero code o l (called call_unexpected p x) fs w)
      zero_named p None l = tt
      zero_named p (Some z) l = both (is_zero z) (at call_unexpected l x fs w) (at call_unexpected (p + 1) x fs w) (h, i) (h, i)

      passing_named : (p : ℕ) → Goes (act_on code (fetch code call_unexpected p) (called call_unexpected p x) fs w)
      passing_named zero =
          let e = exception_in_slot x 0 in
          let handler = function_word (kept_with (exception_at w e)).unexpected_handler in
          next_named code k c t (is_native (exception_at w e) && may_enter w e) w (at call_unexpected 1 (with_slot 3 handler x) fs (entered e w)) (with_other 3 handler refl refl, i)
      passing_named (suc zero) = held_named call_unexpected 1 x fs w (h, i) h (x.slots 3)
      passing_named (suc (suc zero)) = terminated_named code k c t _ (called call_unexpected 2 x ∷ fs) w (h, i)
      passing_named (suc (suc (suc zero))) = tt
      passing_named (suc (suc (suc (suc zero)))) =
          both (holds_number (x.slots 5) (pos 0)) (at call_unexpected 16 x fs w) (at call_unexpected 5 x fs w) (h, i) (h, i)
      passing_named (suc (suc (suc (suc (suc zero))))) = does 5 (effect (kinds code call_unexpected) (enter 4) x w) enter_leaves
      passing_named (suc (suc (suc (suc (suc (suc zero)))))) =
          (with_other 6 (number_word (checked code.rows (sense_held code (x.slots 2) (x.slots 1)) (type_at w (exception_in_slot x 4)))) refl refl, i)
      passing_named (suc (suc (suc (suc (suc (suc (suc zero))))))) = zero_named 7 _ 10
      passing_named (suc (suc (suc (suc (suc (suc (suc (suc zero)))))))) = zero_named 8 _ 11
      passing_named (suc (suc (suc (suc (suc (suc (suc (suc (suc zero))))))))) = terminated_named code k c t _ (called call_unexpected 9 x ∷ fs) w (h, i)
      passing_named (suc (suc (suc (suc (suc (suc (suc (suc (suc (suc zero)))))))))) = does 10 (effect (kinds code call_unexpected) rethrow x w) (rethrow_leaves w.caught)
      passing_named (suc (suc (suc (suc (suc (suc (suc (suc (suc (suc (suc zero))))))))))) = does 11 (effect (kinds code call_unexpected) (make 7) x w) make_leaves
      passing_named (suc (suc (suc (suc (suc (suc (suc (suc (suc (suc (suc (suc zero)))))))))))) = (h, i)
      passing_named (suc (suc (suc (suc (suc (suc (suc (suc (suc (suc (suc (suc (suc zero))))))))))))) = does 13 (effect (kinds code call_unexpected) (throw 7 bad_row None) x w) throw_leaves
      passing_named (suc (suc (suc (suc (suc (suc (suc (suc (suc (suc (suc (suc (suc (suc zero)))))))))))))) = tt
      passing_named (suc (suc (suc (suc (suc (suc (suc (suc (suc (suc (suc (suc (suc (suc (suc zero))))))))))))))) = (tt, (h, i))
      passing_named (suc (suc (suc (suc (suc (suc (suc (suc (suc (suc (suc (suc (suc (suc (suc (suc zero)))))))))))))))) = (tt, (h, i))
      passing_named (suc (suc (suc (suc (suc (suc (suc (suc (suc (suc (suc (suc (suc (suc (suc (suc (suc zero))))))))))))))))) =
          resumed_named code k c t (x.slots 4) (called call_unexpected 17 x) fs w (h, i)
      passing_named (suc (suc (suc (suc (suc (suc (suc (suc (suc (suc (suc (suc (suc (suc (suc (suc (suc (suc p)))))))))))))))))) = tt

    step_named : (m : Marks) (f : Function) (p : ℕ) (x : Frame) → FrameNamed code k f p x → CallsKeep code k m (Some f) fs w → Goes (act_on code (fetch code f p) (called f p x) fs w)
    step_named m (compiled n) p x h keeps = compiled_named code k c t n p x fs w h i (waits fs keeps) (code.op_at n p) refl
      where
        waits : (fs : List Activation) → CallsKeep code k m (Some (compiled n)) fs w → WaitsFor code k c t (compiled n) fs
        waits [] j = tt
        waits (r ∷ fs) j = (j.0.waits.op, j.0.waits.there, inl j.0.waits.made)
    step_named m end_catch p x h keeps = catch_named p x (waits fs keeps)
      where
        waits : (fs : List Activation) → CallsKeep code k m (Some end_catch) fs w → WaitsFor code k c t end_catch fs
        waits [] j = tt
        waits (r ∷ fs) j = (j.0.waits.op, j.0.waits.there, inr j.0.waits.made)
    step_named m terminating p x h keeps = ending_named p x
    step_named m call_unexpected p x h keeps = passing_named x h p

pub step_keeps : (marks : Marks) (code : Code) (k : Carrying) (steps : ℕ) (st next : State) → CodeFits marks.known code k → CodeStops code → StandsIn marks code k steps st → SelectorsNamed code k (st.top ∷ st.frames) →
    step code st ≡ goes_to next → SelectorsNamed code k (next.top ∷ next.frames)
step_keeps marks code k steps st next fits stops stands h e =
    subst (Named code k fits.carries stops) e (step_named code k fits.carries stops st.frames st.world h.1 marks st.top.function st.top.place st.top.frame h.0 stands.calls.1)

pub steps_keep_selectors : StepsKeepSelectors
steps_keep_selectors r k steps st next fits stops stands h e = step_keeps (unmarked (known_in r)) (code_of (unit_of r)) k steps st next fits stops stands h e
