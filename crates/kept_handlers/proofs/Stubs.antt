-- So does each step of the runtime's own functions.
use Rattle.std.proofs.Common.{◌≡◌, ℕ, zero, suc, ◌+◌, ◌≤◌, ℤ, pos, negsuc, Bool, true, false, List, [], ◌∷◌, Option, Some, None, refl, ap, if◌then◌else◌, arith}
use Rattle.std.specs.Prelude.{◌&&◌}
use Rattle.std.proofs.lemmas.Bool.{and_parts}
use Rattle.meaning_forms.specs.Arithmetic.{is_zero}
use Rattle.run_items.specs.declared.item.Item.TheVariants.{Free, Destroy, Clean}
use Rattle.region_forms.specs.Form.{make, throw, rethrow, enter, leave}
use Rattle.region_forms.specs.Caught.{Entry, gives_back, holds_other}
use Rattle.region_forms.specs.Ending.{bad_row}
use Rattle.region_forms.specs.Unexpected.{kept_with}
use Rattle.region_forms.specs.Lives.{is_native, is_being_built, can_travel, may_enter, may_leave}
use Rattle.region_forms.specs.World.{Word, nothing, number_word, address_word, flying, unwinding, object_address, address_in, exception_of, exception_in_slot, Frame, World, Exception, building, native, foreign, with_item, with_slot, exception_at, type_at}
use Rattle.region_forms.specs.Effect.{Effect, goes, raises, terminates, only_where, is_full, is_foreign, kept, rethrown, effect, entered, left, newest_of, freed, cleaned_up}
use Rattle.linear_forms.specs.Linear.{plain, resume}
use Rattle.linear_forms.specs.Stub.{Function, end_catch, terminating, call_unexpected}
use Rattle.linear_forms.specs.Activation.{Code, Activation, fetch, kinds, at, function_word}
use Rattle.linear_forms.specs.Operation.{jumped_zero, holds_number, may_free}
use Rattle.linear_forms.specs.StubOperation.{is_bad, empty_call, given_back, newest_left, called_held, destroyed, checked, sense_held}
use Rattle.linear_forms.specs.Machine.{act_on}
use Rattle.flight_homes.specs.Keeps.{Carrying}
use Rattle.linear_invariant.specs.Handled.{open_handlers, IsGone}
use Rattle.linear_invariant.specs.Calls.{Marks, CallsKeep}
use Rattle.linear_invariant.proofs.Lists.{few_entered}
use Rattle.kept_handlers.specs.Depths.{Depths, leaving_depth, unexpected_depth, depth_at, opens, leaves, CodeOpens}
use Rattle.kept_handlers.proofs.Handled.{entered_here, left_fewer}
use Rattle.kept_handlers.proofs.Kept.{called, Keeps, keeps_then, quiet_keeps, entered_keeps, left_keeps, without_unhandled, without_foreign, calls_kept, calls_below}
use Rattle.kept_handlers.proofs.Rows.{newest_lands}
use Rattle.kept_handlers.proofs.Unwinds.{Goes, Stands, either, defined, terminated_goes}
use Rattle.kept_handlers.proofs.Effects.{After, after_quiet, as_it_is, op_fine}
use Rattle.kept_handlers.proofs.Steps.{Own, freed_after, goes_at, begins_goes, calls_from, returned_goes, performed_goes, resumed_goes}

module _ (code : Code) (d : Depths) (opened : CodeOpens code d) where
  -- the newest handler is left
  module _ (x : Frame) (fs : List Activation) (w : World) (h : Stands d (called end_catch 0 x) fs w) where
    more : h.0 + 1 ≤ open_handlers w.caught
    more = let few = h.1.few in omega (arith, few)

    goes_left : (p : ℕ) (y : Frame) (v : World) → Keeps h.0 (left w) v → v.caught ≡ (left w).caught → leaving_depth p ≡ 0 → Goes d (at end_catch p y fs v)
    goes_left p y v keeps same none =
        let older = h.0 in
        let le = more in
        let less = left_fewer w.caught (omega (arith, le)) in
        let count : open_handlers v.caught ≡ open_handlers (left w).caught = ap open_handlers same in (
          older,
          record { few = omega (arith, le, less, count, none); stopped = tt; waits = tt; goes_on = tt },
          calls_kept d older w v (keeps_then older w (left w) v (left_keeps older w le) keeps) end_catch fs older (omega arith) h.2,
        )

    given_goes : (y : Exception) (e : ℕ) → exception_at w e ≡ y → Goes d (given_back y e 0 1 3 (called end_catch 0 x) fs (left w))
    given_goes building e is = goes_left 3 x (left w) (quiet_keeps h.0 (left w) (left w) refl refl) refl refl
    given_goes (native t b handlers) e is =
        let v = with_item (Destroy e) (left w) in goes_left 1 (with_slot 1 (function_word b) (with_slot 0 (address_word (object_address e)) x)) v (quiet_keeps h.0 (left w) v refl refl) refl refl
    given_goes (foreign m t) e is =
        let v = with_item (Clean m t) (left w) in
        goes_left 3 x (cleaned_up e m t (left w)) (keeps_then h.0 (left w) v (cleaned_up e m t (left w)) (quiet_keeps h.0 (left w) v refl refl) (without_foreign h.0 e v m t is)) refl refl

    left_goes : Goes d (newest_left 0 1 3 (called end_catch 0 x) fs w)
    left_goes =
        let e = newest_of w.caught in
        let gives = given_back (exception_at w e) e 0 1 3 (called end_catch 0 x) fs (left w) in
        let stays = at end_catch 3 x fs (left w) in
        defined d (may_leave w w.caught) w (if gives_back w.caught then gives else stays)
        (λ may. either d (gives_back w.caught) gives stays (given_goes (exception_at w e) e refl) (goes_left 3 x (left w) (quiet_keeps h.0 (left w) (left w) refl refl) refl refl))

  -- end_catch at another place, and terminate
  module _ (f : Function) (other : (f ≡ call_unexpected) → ⊥) (p : ℕ) (x : Frame) (fs : List Activation) (w : World) (h : Stands d (called f p x) fs w) (next : depth_at d f (p + 1) ≤ depth_at d f p) where
    stays : (v : World) → After w 0 v → Goes d (at f (p + 1) x fs v)
    stays v after = goes_at code d opened f p (p + 1) 0 x x fs w v h after (omega (arith, next)) (λ i. absurd (other i))

    pub held_goes : (y : Word) → Goes d (called_held code y (called f p x) fs w)
    held_goes (number_word (pos n)) = begins_goes code d opened n [] (called f p x) fs w (calls_from code d opened n (called f p x) fs w h next (λ i. absurd (other i)))
    held_goes (number_word (negsuc n)) = stays w (as_it_is w)
    held_goes nothing = stays w (as_it_is w)
    held_goes (address_word q) = stays w (as_it_is w)
    held_goes (flying e t) = stays w (as_it_is w)
    held_goes (unwinding z) = stays w (as_it_is w)

    emptied : (object : Word) → Goes d (at f (p + 1) x fs (if is_bad (type_at w (exception_of (address_in object))) then empty_call fs w else w))
    emptied object = go (is_bad (type_at w (exception_of (address_in object))))
      where
        go : (b : Bool) → Goes d (at f (p + 1) x fs (if b then empty_call fs w else w))
        go true = stays (empty_call fs w) (after_quiet w (empty_call fs w) refl refl)
        go false = stays w (as_it_is w)

    pub destroyed_goes : (y object : Word) → Goes d (destroyed code y object (called f p x) fs w)
    destroyed_goes (number_word (pos n)) object = begins_goes code d opened n (object ∷ []) (called f p x) fs w (calls_from code d opened n (called f p x) fs w h next (λ i. absurd (other i)))
    destroyed_goes (number_word (negsuc n)) object = emptied object
    destroyed_goes nothing object = emptied object
    destroyed_goes (address_word q) object = emptied object
    destroyed_goes (flying e t) object = emptied object
    destroyed_goes (unwinding z) object = emptied object

    -- an object is given back that no handler has
    pub frees : IsGone w (exception_in_slot x 0) → Goes d (at f (p + 1) x fs (freed (exception_in_slot x 0) w))
    frees gone = let e = exception_in_slot x 0 in stays (freed e w) (freed_after e w (λ most. without_unhandled most e (with_item (Free e) w) gone.unhandled))

  module _ (k : Carrying) (marks : Marks) (known : World) (x : Frame) (fs : List Activation) (w : World) where
    pub catch_goes : (p : ℕ) → IsGone w (exception_in_slot x 0) → Stands d (called end_catch p x) fs w → CallsKeep code k marks (Some end_catch) fs known → Goes d (act_on code (fetch code end_catch p) (called end_catch p x) fs w)
    catch_goes zero gone h keeps = left_goes x fs w h
    catch_goes (suc zero) gone h keeps = destroyed_goes end_catch (λ i. cc i) 1 x fs w h (omega arith) (x.slots 1) (x.slots 0)
    catch_goes (suc (suc zero)) gone h keeps = let e = exception_in_slot x 0 in defined d (may_free end_catch w e) w (at end_catch 3 x fs (freed e w)) (λ live. frees end_catch (λ i. cc i) 2 x fs w h (omega arith) gone)
    catch_goes (suc (suc (suc zero))) gone h keeps = let few = h.1.few in returned_goes code d opened end_catch refl (Some (pos 0)) fs w h.0 (omega (arith, few)) h.2
    catch_goes (suc (suc (suc (suc zero)))) gone h keeps = tt
    catch_goes (suc (suc (suc (suc (suc zero))))) gone h keeps =
        let e = exception_in_slot x 0 in defined d (may_free end_catch w e) w (at end_catch 6 x fs (freed e w)) (λ live. frees end_catch (λ i. cc i) 5 x fs w h (omega arith) gone)
    catch_goes (suc (suc (suc (suc (suc (suc zero)))))) gone h keeps =
        resumed_goes code d opened k marks known end_catch 6 x fs w (newest_lands code d opened end_catch 6 (resume 2) refl) keeps h (x.slots 2)
    catch_goes (suc (suc (suc (suc (suc (suc (suc p))))))) gone h keeps = tt

    pub ending_goes : (p : ℕ) → Stands d (called terminating p x) fs w → Goes d (act_on code (fetch code terminating p) (called terminating p x) fs w)
    ending_goes zero h = held_goes terminating (λ i. cc i) 0 x fs w h (omega arith) (x.slots 0)
    ending_goes (suc zero) h = tt
    ending_goes (suc (suc p)) h = tt

    -- call_unexpected enters what was stopped
    begun : (h : Stands d (called call_unexpected 0 x) fs w) → address_in (x.slots 0) ≡ Some (object_address (exception_in_slot x 0)) → (y : Exception) → is_native y ≡ true → exception_at w (exception_in_slot x 0) ≡ y → (handler : Word) →
        Goes d (at call_unexpected 1 (with_slot 3 handler x) fs (entered (exception_in_slot x 0) w))
    begun h object building own is handler = absurd (cc own)
    begun h object (foreign m t) own is handler = absurd (cc own)
    begun h object (native t b handlers) own is handler =
        let e = exception_in_slot x 0 in
        let most = open_handlers w.caught in
        let few = h.1.few in
        let count = few_entered e w.caught in (
          most,
          record {
            few = omega (arith, count);
            stopped = λ first last. record { number = e; object = object; handled = entered_here e w.caught; type = t; destructor = b; kept = handlers; native = is };
            waits = tt;
            goes_on = tt;
          },
          calls_kept d most w (entered e w) (entered_keeps most e w) call_unexpected fs most (omega arith) (calls_below d call_unexpected fs h.0 most w (omega (arith, few)) h.2),
        )

    module _ (keeps : CallsKeep code k marks (Some call_unexpected) fs known) where
      -- it goes on, from behind its first operation up to its last but two
      steps : (p q : ℕ) (y : Frame) (v : World) → Stands d (called call_unexpected p x) fs w → 1 ≤ p → p ≤ 15 → y.slots 0 ≡ x.slots 0 → After w 0 v → unexpected_depth q ≤ unexpected_depth p → Goes d (at call_unexpected q y fs v)
      steps p q y v h first last same after depth = goes_at code d opened call_unexpected p q 0 x y fs w v h after (omega (arith, depth)) (λ i. (same, λ from to. (first, last)))

      quietly : (p q : ℕ) → Stands d (called call_unexpected p x) fs w → 1 ≤ p → p ≤ 15 → unexpected_depth q ≤ unexpected_depth p → Goes d (at call_unexpected q x fs w)
      quietly p q h first last depth = steps p q x w h first last refl (as_it_is w) depth

      handler_goes : Stands d (called call_unexpected 1 x) fs w → (y : Word) → Goes d (called_held code y (called call_unexpected 1 x) fs w)
      handler_goes h (number_word (pos n)) = begins_goes code d opened n [] (called call_unexpected 1 x) fs w (calls_from code d opened n (called call_unexpected 1 x) fs w h (omega arith) (λ i. refl))
      handler_goes h (number_word (negsuc n)) = quietly 1 2 h (omega arith) (omega arith) (omega arith)
      handler_goes h nothing = quietly 1 2 h (omega arith) (omega arith) (omega arith)
      handler_goes h (address_word q) = quietly 1 2 h (omega arith) (omega arith) (omega arith)
      handler_goes h (flying e t) = quietly 1 2 h (omega arith) (omega arith) (omega arith)
      handler_goes h (unwinding z) = quietly 1 2 h (omega arith) (omega arith) (omega arith)

      abbrev OwnAt : ℕ → Effect → Type 0
      OwnAt p e = Own call_unexpected p x e

      where_own : (p : ℕ) (b : Bool) (e : Effect) → OwnAt p e → OwnAt p (only_where b e)
      where_own p true e h = h
      where_own p false e h = tt

      one_own : (p : ℕ) (b : Bool) (e i : Effect) → OwnAt p e → OwnAt p i → OwnAt p (if b then e else i)
      one_own p true e i h j = h
      one_own p false e i h j = j

      enter_own : OwnAt 5 (effect (kinds code call_unexpected) (enter 4) x w)
      enter_own =
          let e = exception_in_slot x 4 in
          let stops = is_foreign (exception_at w e) && holds_other e w.caught in
          let ended = terminates w.installed.terminate_handler w in
          let done = goes x (entered e w) in
          where_own 5 (may_enter w e) (if stops then ended else done) (one_own 5 stops ended done tt (λ i. (refl, omega arith)))

      make_own : OwnAt 11 (effect (kinds code call_unexpected) (make 7) x w)
      make_own = one_own 11 (is_full w) (terminates _ _) (goes _ _) tt (λ i. (refl, omega arith))

      throw_own : OwnAt 13 (effect (kinds code call_unexpected) (throw 7 bad_row None) x w)
      throw_own = let e = exception_in_slot x 7 in where_own 13 (is_being_built w e) (raises e (kept e bad_row None w)) tt

      rethrow_own : (ys : List Entry) → OwnAt 10 (rethrown ys w)
      rethrow_own [] = tt
      rethrow_own (y ∷ ys) = one_own 10 y.again (terminates _ _) (only_where (can_travel w y.number) (raises y.number w)) tt (where_own 10 (can_travel w y.number) (raises y.number w) tt)

      zero_goes : (p l : ℕ) (o : Option ℤ) → Stands d (called call_unexpected p x) fs w → 1 ≤ p → p ≤ 15 → unexpected_depth l ≤ unexpected_depth p → unexpected_depth (p + 1) ≤ unexpected_depth p → Goes d (jumped_zero code o l (called call_unexpected p x) fs w)
      zero_goes p l None h first last there next = tt
      zero_goes p l (Some z) h first last there next =
          either d (is_zero z) (at call_unexpected l x fs w) (at call_unexpected (p + 1) x fs w) (quietly p l h first last there) (quietly p (p + 1) h first last next)

      pub passing_goes : (begins : may_enter w (exception_in_slot x 0) ≡ true → address_in (x.slots 0) ≡ Some (object_address (exception_in_slot x 0))) (p : ℕ) → Stands d (called call_unexpected p x) fs w →
          Goes d (act_on code (fetch code call_unexpected p) (called call_unexpected p x) fs w)
      passing_goes begins zero h =
          let e = exception_in_slot x 0 in
          let handler = function_word (kept_with (exception_at w e)).unexpected_handler in
          defined d (is_native (exception_at w e) && may_enter w e) w (at call_unexpected 1 (with_slot 3 handler x) fs (entered e w))
          (λ both. let parts = and_parts (is_native (exception_at w e)) (may_enter w e) both in begun h (begins parts.1) (exception_at w e) parts.0 refl handler)
      passing_goes begins (suc zero) h = handler_goes h (x.slots 3)
      passing_goes begins (suc (suc zero)) h = terminated_goes d _ (called call_unexpected 2 x ∷ fs) w
      passing_goes begins (suc (suc (suc zero))) h = tt
      passing_goes begins (suc (suc (suc (suc zero)))) h =
          either d (holds_number (x.slots 5) (pos 0)) (at call_unexpected 16 x fs w) (at call_unexpected 5 x fs w) (quietly 4 16 h (omega arith) (omega arith) (omega arith)) (quietly 4 5 h (omega arith) (omega arith) (omega arith))
      passing_goes begins (suc (suc (suc (suc (suc zero))))) h =
          performed_goes code d opened k marks known call_unexpected 5 x fs w (newest_lands code d opened call_unexpected 5 (plain (enter 4)) refl) keeps h (opens (plain (enter 4))) (leaves (plain (enter 4))) (effect (kinds code call_unexpected) (enter 4) x w)
          (op_fine w x (kinds code call_unexpected) (enter 4)) enter_own (omega arith)
      passing_goes begins (suc (suc (suc (suc (suc (suc zero)))))) h =
          let answer = number_word (checked code.rows (sense_held code (x.slots 2) (x.slots 1)) (type_at w (exception_in_slot x 4))) in
          steps 6 7 (with_slot 6 answer x) w h (omega arith) (omega arith) refl (as_it_is w) (omega arith)
      passing_goes begins (suc (suc (suc (suc (suc (suc (suc zero))))))) h = zero_goes 7 10 _ h (omega arith) (omega arith) (omega arith) (omega arith)
      passing_goes begins (suc (suc (suc (suc (suc (suc (suc (suc zero)))))))) h = zero_goes 8 11 _ h (omega arith) (omega arith) (omega arith) (omega arith)
      passing_goes begins (suc (suc (suc (suc (suc (suc (suc (suc (suc zero))))))))) h = terminated_goes d _ (called call_unexpected 9 x ∷ fs) w
      passing_goes begins (suc (suc (suc (suc (suc (suc (suc (suc (suc (suc zero)))))))))) h =
          performed_goes code d opened k marks known call_unexpected 10 x fs w (newest_lands code d opened call_unexpected 10 (plain rethrow) refl) keeps h (opens (plain rethrow)) (leaves (plain rethrow)) (effect (kinds code call_unexpected) rethrow x w)
          (op_fine w x (kinds code call_unexpected) rethrow) (rethrow_own w.caught) (omega arith)
      passing_goes begins (suc (suc (suc (suc (suc (suc (suc (suc (suc (suc (suc zero))))))))))) h =
          performed_goes code d opened k marks known call_unexpected 11 x fs w (newest_lands code d opened call_unexpected 11 (plain (make 7)) refl) keeps h (opens (plain (make 7))) (leaves (plain (make 7))) (effect (kinds code call_unexpected) (make 7) x w)
          (op_fine w x (kinds code call_unexpected) (make 7)) make_own (omega arith)
      passing_goes begins (suc (suc (suc (suc (suc (suc (suc (suc (suc (suc (suc (suc zero)))))))))))) h =
          steps 12 13 x (empty_call fs w) h (omega arith) (omega arith) refl (after_quiet w (empty_call fs w) refl refl) (omega arith)
      passing_goes begins (suc (suc (suc (suc (suc (suc (suc (suc (suc (suc (suc (suc (suc zero))))))))))))) h =
          performed_goes code d opened k marks known call_unexpected 13 x fs w (newest_lands code d opened call_unexpected 13 (plain (throw 7 bad_row None)) refl) keeps h (opens (plain (throw 7 bad_row None))) (leaves (plain (throw 7 bad_row None))) (effect (kinds code call_unexpected) (throw 7 bad_row None) x w)
          (op_fine w x (kinds code call_unexpected) (throw 7 bad_row None)) throw_own (omega arith)
      passing_goes begins (suc (suc (suc (suc (suc (suc (suc (suc (suc (suc (suc (suc (suc (suc zero)))))))))))))) h = tt
      passing_goes begins (suc (suc (suc (suc (suc (suc (suc (suc (suc (suc (suc (suc (suc (suc (suc zero))))))))))))))) h =
          performed_goes code d opened k marks known call_unexpected 15 x fs w (newest_lands code d opened call_unexpected 15 (plain leave) refl) keeps h (opens (plain leave)) (leaves (plain leave)) (effect (kinds code call_unexpected) leave x w)
          (op_fine w x (kinds code call_unexpected) leave) (λ i. omega arith) (omega arith)
      passing_goes begins (suc (suc (suc (suc (suc (suc (suc (suc (suc (suc (suc (suc (suc (suc (suc (suc zero)))))))))))))))) h =
          performed_goes code d opened k marks known call_unexpected 16 x fs w (newest_lands code d opened call_unexpected 16 (plain leave) refl) keeps h (opens (plain leave)) (leaves (plain leave)) (effect (kinds code call_unexpected) leave x w)
          (op_fine w x (kinds code call_unexpected) leave) (λ i. omega arith) (omega arith)
      passing_goes begins (suc (suc (suc (suc (suc (suc (suc (suc (suc (suc (suc (suc (suc (suc (suc (suc (suc zero))))))))))))))))) h =
          resumed_goes code d opened k marks known call_unexpected 17 x fs w (newest_lands code d opened call_unexpected 17 (resume 4) refl) keeps h (x.slots 4)
      passing_goes begins (suc (suc (suc (suc (suc (suc (suc (suc (suc (suc (suc (suc (suc (suc (suc (suc (suc (suc p)))))))))))))))))) h = tt
