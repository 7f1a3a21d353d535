-- What the effect of an operation leaves, and passes on.
use Rattle.std.proofs.Common.{◌≡◌, refl, sym, ap, subst, arith, ℕ, zero, suc, ◌+◌, ◌≤◌, List, [], ◌∷◌, Option, Some, None, inr}
use Rattle.std.specs.Prelude.{⊤, ◌&&◌, Bool, true, false, ℤ, pos, negsuc, slice_get, slice_set, if◌then◌else◌}
use Rattle.cxx_ast.specs.declared.name.Builtin.{Builtin}
use Rattle.cxx_ast.specs.declared.name.Builtin.TheVariants.{WriteInt, ReadByte, Exit, Module, Cancel, Terminate, SetTerminate, SetUnexpected, Uncaught, BadException}
use Rattle.run_items.specs.declared.item.Item.TheVariants.{Line, Make, Foreign}
use Rattle.meaning_forms.specs.Arithmetic.{truth}
use Rattle.eh_outer.specs.declared.module.Reply.{Reply}
use Rattle.eh_outer.specs.declared.module.Reply.TheVariants.{Value as ValueReply, Raise}
use Rattle.region_forms.specs.Form.{Place, Callee, defined, builtin, Value, number, load, unary, binary, call_value, Arguments, Op, evaluate, store, bind, call, construct, destroy, make, throw, rethrow, enter, leave}
use Rattle.region_forms.specs.Caught.{Entry, holds_other}
use Rattle.region_forms.specs.World.{Base, of_global, of_variable, of_exception, Address, Word, number_word, address_word, object_address, address_in, exception_of, exception_in_slot, with_slot, with_item, written, Frame, World, building, foreign, exception_at}
use Rattle.region_forms.specs.Evaluation.{Location, in_memory, in_frame, locate, address_of, value_in, words_in}
use Rattle.region_forms.specs.Lives.{is_there, is_being_built, can_travel, may_enter}
use Rattle.region_forms.specs.Effect.{Effect, only_where, kept, goes, calls, raises, terminates, ends, cancels, leaves_newest, meaningless, if_some, stored_at, finished, is_full, with_new, entered, is_foreign, number_at, handler_at, byte_of, bytes_after, answered, replied, module_called, some_travel, built_in, called, valued, rethrown, enters, effect, newest_of}
use Rattle.linear_forms.specs.Linear.{UnitCode}
use Rattle.linear_forms.specs.Stub.{Function}
use Rattle.linear_forms.specs.Activation.{kinds}
use Rattle.linear_forms.specs.UnitRun.{code_of}
use Rattle.address_bounds.specs.Rooms.{HasRoom}
use Rattle.address_bounds.specs.Reaches.{Needs, exception_bytes, ValueReaches, ArgumentsReach, callee_needs, OpReaches}
use Rattle.address_invariant.specs.Extents.{Extents, LiesInside}
use Rattle.address_invariant.specs.Reaching.{reach_in, CallReaches, ObjectsReach}
use Rattle.machine_simulation.specs.Calls.{IsBegun}
use Rattle.address_invariant.proofs.Places.{none_there, slots_in}
use Rattle.address_invariant.proofs.Following.{Grows, FrameComes, WordComes, slot_comes, old_frame, number_comes}
use Rattle.address_invariant.proofs.Unwinding.{reach_small}
use Rattle.address_invariant.proofs.Given.{GivenComes, address_comes, words_come}

-- a frame of the same call, whose addresses are old ones or those of exceptions
pub record SameCall (x : Extents) (needs : Needs) (v w : World) (f : Function) (old new : Frame) : Type 0 where
  pub call : new.call ≡ old.call
  pub held : FrameComes x needs v w f new

-- what an effect leaves
abbrev pub EffectComes : Extents → Needs → World → Function → Frame → Effect → Type 0
EffectComes x needs v f frame (goes g w) = Grows v w × SameCall x needs v w f frame g
EffectComes x needs v f frame (calls p n given) = GivenComes x v v (needs n) 0 given
EffectComes x needs v f frame (raises e w) = Grows v w × (e ≤ w.last_number)
EffectComes x needs v f frame (terminates h w) = Grows v w
EffectComes x needs v f frame (ends e w) = ⊤
EffectComes x needs v f frame (cancels n w) = Grows v w
EffectComes x needs v f frame leaves_newest = ⊤
EffectComes x needs v f frame meaningless = ⊤

module _ (x : Extents) (u : UnitCode) (needs : Needs) (v : World) (small : (n s : ℕ) → needs n s ≤ exception_bytes) (f : Function) (frame : Frame) (call_reaches : CallReaches x u needs v f frame) where
  abbrev Fits : Effect → Type 0
  Fits = EffectComes x needs v f frame

  same : (w : World) → SameCall x needs v w f frame frame
  same w = record { call = refl; held = old_frame x u needs v w f frame call_reaches }

  pub same_slots : (w : World) (g : Frame) → SameCall x needs v w f frame g → (s : ℕ) (word : Word) → WordComes x v w word (reach_in needs f s) → SameCall x needs v w f frame (with_slot s word g)
  same_slots w g h s word comes = record { call = h.call; held = slot_comes x u needs v w f g s word h.held comes }

  pub with_word : (w : World) (s : ℕ) (word : Word) → WordComes x v w word (reach_in needs f s) → SameCall x needs v w f frame (with_slot s word frame)
  with_word w s word h = same_slots w frame (same w) s word h

  -- what is defined only where a test holds
  where_there : (b : Bool) (z : Effect) → Fits z → Fits (only_where b z)
  where_there true z h = h
  where_there false z h = tt

  stored : (w : World) (z : ℤ) (l : Location) → Grows v w → Fits (stored_at l z frame w)
  stored w z (in_memory a) grows = where_there (is_there w a.base) (goes frame (written a z w)) (record { calls = grows.calls; last_number = grows.last_number }, same (written a z w))
  stored w z (in_frame s) grows = (grows, with_word w s (number_word z) (number_comes x u needs v w z (reach_in needs f s)))

  pub finished_comes : (p : Option Place) (z : ℤ) (w : World) → Grows v w → Fits (finished (kinds (code_of u) f) p z frame w)
  finished_comes None z w grows = (grows, same w)
  finished_comes (Some q) z w grows = by (locate (kinds (code_of u) f) frame q)
    where
      by : (l : Option Location) → Fits (if_some l (λ l. stored_at l z frame w))
      by None = tt
      by (Some l) = stored w z l grows

  grown : Grows v v
  grown = record { calls = omega arith; last_number = omega arith }

  -- ---- built-in functions

  answer_comes : (p : Option Place) (k : ℕ) (r : Reply) (w : World) → Grows v w → Fits (answered (kinds (code_of u) f) p k r frame w)
  answer_comes p k (ValueReply z) w grows = finished_comes p z w grows
  answer_comes p k (Raise t) w grows = by (is_full w)
    where
      by : (b : Bool) → Fits (if b then terminates w.installed.terminate_handler w else raises (w.last_number + 1) (with_item (Foreign (w.last_number + 1) k t) (with_new (foreign k t) w)))
      by true = grows
      by false = (record { calls = grows.calls; last_number = omega (arith, grows.last_number) }, omega arith)

  reply_comes : (p : Option Place) (k : ℕ) (r : Option (List Reply)) → Fits (replied (kinds (code_of u) f) p k r frame v)
  reply_comes p k None = finished_comes p (pos 0) v grown
  reply_comes p k (Some []) = finished_comes p (pos 0) v grown
  reply_comes p k (Some (r ∷ left)) = answer_comes p k r (record v { replies = slice_set v.replies k left }) (record { calls = grown.calls; last_number = grown.last_number })

  module_comes : (p : Option Place) (z : ℤ) → Fits (module_called (kinds (code_of u) f) p z frame v)
  module_comes p (negsuc k) = finished_comes p (pos 0) v grown
  module_comes p (pos k) = reply_comes p k (slice_get v.replies k)

  built_in_comes : (b : Builtin) (p : Option Place) (given : List Word) → Fits (built_in (kinds (code_of u) f) b p given frame v)
  built_in_comes WriteInt p given = finished_comes p (pos 0) (with_item (Line (number_at given 0)) v) (record { calls = grown.calls; last_number = grown.last_number })
  built_in_comes ReadByte p given = finished_comes p (byte_of v.input) (record v { input = bytes_after v.input }) (record { calls = grown.calls; last_number = grown.last_number })
  built_in_comes Exit p given = tt
  built_in_comes Module p given = module_comes p (number_at given 0)
  built_in_comes Cancel p given = grown
  built_in_comes Terminate p given = grown
  built_in_comes SetTerminate p given =
      finished_comes p (pos 0) (record v { installed = record (v.installed) { terminate_handler = handler_at given } }) (record { calls = grown.calls; last_number = grown.last_number })
  built_in_comes SetUnexpected p given =
      finished_comes p (pos 0) (record v { installed = record (v.installed) { unexpected_handler = handler_at given } }) (record { calls = grown.calls; last_number = grown.last_number })
  built_in_comes Uncaught p given = finished_comes p (truth (some_travel v.uncaught)) v grown
  built_in_comes BadException p given = tt

  -- ---- calls and values

  module _ (objects : ObjectsReach x v) where
    called_comes : (c : Callee) (p : Option Place) (args : Arguments) → ArgumentsReach needs (reach_in needs f) (slots_in u f) (callee_needs needs c) 0 args → (t : Option (List Word)) →
        words_in (kinds (code_of u) f) frame v args ≡ t → Fits (if_some t (λ given. called (kinds (code_of u) f) c p given frame v))
    called_comes c p args h None e = tt
    called_comes (defined n) p args h (Some given) e = words_come x u needs v f frame objects call_reaches v args (needs n) 0 given h e
    called_comes (builtin b) p args h (Some given) e = built_in_comes b p given

    settled_comes : (p : Option Place) (t : Option ℤ) → Fits (if_some t (λ z. finished (kinds (code_of u) f) p z frame v))
    settled_comes p None = tt
    settled_comes p (Some z) = finished_comes p z v grown

    valued_comes : (z : Value) (p : Option Place) → ValueReaches needs (reach_in needs f) (slots_in u f) z → Fits (valued (kinds (code_of u) f) z p frame v)
    valued_comes (call_value c args) p h = called_comes c p args h (words_in (kinds (code_of u) f) frame v args) refl
    valued_comes (number k) p h = settled_comes p (value_in (kinds (code_of u) f) frame v (number k))
    valued_comes (load q) p h = settled_comes p (value_in (kinds (code_of u) f) frame v (load q))
    valued_comes (unary o a) p h = settled_comes p (value_in (kinds (code_of u) f) frame v (unary o a))
    valued_comes (binary o a b) p h = settled_comes p (value_in (kinds (code_of u) f) frame v (binary o a b))

    -- ---- addresses

    bound : (s : ℕ) (q : Place) → HasRoom (reach_in needs f) (slots_in u f) q (reach_in needs f s) → (t : Option Address) → address_of (kinds (code_of u) f) frame q ≡ t →
        Fits (if_some t (λ a. goes (with_slot s (address_word a) frame) v))
    bound s q h None e = tt
    bound s q h (Some a) e = (grown, with_word v s (address_word a) (address_comes x u needs v f frame objects call_reaches v q (reach_in needs f s) a h e))

    constructed : (q : Place) (n : ℕ) (args : Arguments) → HasRoom (reach_in needs f) (slots_in u f) q (needs n 0) → ArgumentsReach needs (reach_in needs f) (slots_in u f) (needs n) 1 args → (t : Option Address) →
        address_of (kinds (code_of u) f) frame q ≡ t → (ts : Option (List Word)) → words_in (kinds (code_of u) f) frame v args ≡ ts →
        Fits (if_some t (λ a. if_some ts (λ given. calls None n (address_word a ∷ given))))
    constructed q n args room h None e ts es = tt
    constructed q n args room h (Some a) e None es = tt
    constructed q n args room h (Some a) e (Some given) es = both
      where
        both : GivenComes x v v (needs n) 0 (address_word a ∷ given)
        both zero word there = let first : address_word a ≡ word = cc there in subst (λ d. WordComes x v v d (needs n 0)) first (address_comes x u needs v f frame objects call_reaches v q (needs n 0) a room e)
        both (suc j) word there = let count : 1 + j ≡ 0 + suc j = omega arith in subst (λ k. WordComes x v v word (needs n k)) count (words_come x u needs v f frame objects call_reaches v args (needs n) 1 given h es j word there)

    destroyed : (q : Place) (n : ℕ) → HasRoom (reach_in needs f) (slots_in u f) q (needs n 0) → (t : Option Address) → address_of (kinds (code_of u) f) frame q ≡ t →
        Fits (if_some t (λ a. calls None n (address_word a ∷ [])))
    destroyed q n room None e = tt
    destroyed q n room (Some a) e = one
      where
        one : GivenComes x v v (needs n) 0 (address_word a ∷ [])
        one zero word there = let first : address_word a ≡ word = cc there in subst (λ d. WordComes x v v d (needs n 0)) first (address_comes x u needs v f frame objects call_reaches v q (needs n 0) a room e)
        one (suc j) word there = none_there j word there

    -- ---- exceptions

    made : (s : ℕ) → Fits (effect (kinds (code_of u) f) (make s) frame v)
    made s = by (is_full v)
      where
        e : ℕ
        e = v.last_number + 1

        by : (b : Bool) → Fits (if b then terminates v.installed.terminate_handler v else goes (with_slot s (address_word (object_address e)) frame) (with_item (Make e) (with_new building v)))
        by true = grown
        by false = (record { calls = omega arith; last_number = omega arith }, with_word (with_item (Make e) (with_new building v)) s (address_word (object_address e)) (λ b is. inr (e, sym (cc is), omega arith, reach_small needs small f s)))

    exception_made : (b : Address) (n : ℕ) → LiesInside x v b n → exception_of (Some b) ≤ v.last_number
    exception_made b n h = by b.base refl
      where
        by : (c : Base) → b.base ≡ c → exception_of (Some b) ≤ v.last_number
        by (of_global g) e = let none : exception_of (Some b) ≡ 0 = ap (λ d. exception_of (Some (record { base = d; offset = b.offset }))) e in omega (arith, none)
        by (of_variable c s) e = let none : exception_of (Some b) ≡ 0 = ap (λ d. exception_of (Some (record { base = d; offset = b.offset }))) e in omega (arith, none)
        by (of_exception d) e =
            let one : exception_of (Some b) ≡ d = ap (λ d. exception_of (Some (record { base = d; offset = b.offset }))) e in
            omega (arith, one, subst (IsBegun v) e h.begun)

    pub slot_made : (s : ℕ) → exception_in_slot frame s ≤ v.last_number
    slot_made s = by (address_in (frame.slots s)) refl
      where
        by : (t : Option Address) → address_in (frame.slots s) ≡ t → exception_of (address_in (frame.slots s)) ≤ v.last_number
        by None e = let none : exception_of (address_in (frame.slots s)) ≡ 0 = ap exception_of e in omega (arith, none)
        by (Some b) e = let one : exception_of (address_in (frame.slots s)) ≡ exception_of (Some b) = ap exception_of e in omega (arith, one, exception_made b (reach_in needs f s) (call_reaches.held s b e))

    thrown_again : (xs : List Entry) → newest_of xs ≤ v.last_number → Fits (rethrown xs v)
    thrown_again [] h = grown
    thrown_again (y ∷ ys) h = by y.again
      where
        by : (b : Bool) → Fits (if b then terminates v.installed.terminate_handler v else only_where (can_travel v y.number) (raises y.number v))
        by true = grown
        by false = where_there (can_travel v y.number) (raises y.number v) (grown, h)

    entering : (e : ℕ) → Fits (enters e frame v)
    entering e = where_there (may_enter v e) (if is_foreign (exception_at v e) && holds_other e v.caught then terminates v.installed.terminate_handler v else goes frame (entered e v))
        (by (is_foreign (exception_at v e) && holds_other e v.caught))
      where
        by : (b : Bool) → Fits (if b then terminates v.installed.terminate_handler v else goes frame (entered e v))
        by true = grown
        by false = (record { calls = grown.calls; last_number = grown.last_number }, same (entered e v))

    pub effect_comes : (o : Op) → OpReaches needs (reach_in needs f) (slots_in u f) o → newest_of v.caught ≤ v.last_number → Fits (effect (kinds (code_of u) f) o frame v)
    effect_comes (evaluate z) h newest = valued_comes z None h
    effect_comes (store q z) h newest = valued_comes z (Some q) h.1
    effect_comes (bind s q) h newest = bound s q h (address_of (kinds (code_of u) f) frame q) refl
    effect_comes (call c args) h newest = called_comes c None args h (words_in (kinds (code_of u) f) frame v args) refl
    effect_comes (construct q n args) h newest = constructed q n args h.0 h.1 (address_of (kinds (code_of u) f) frame q) refl (words_in (kinds (code_of u) f) frame v args) refl
    effect_comes (destroy q n) h newest = destroyed q n h (address_of (kinds (code_of u) f) frame q) refl
    effect_comes (make s) h newest = made s
    effect_comes (throw s t d) h newest =
        let e = exception_in_slot frame s in
        where_there (is_being_built v e) (raises e (kept e t d v)) (record { calls = grown.calls; last_number = grown.last_number }, slot_made s)
    effect_comes rethrow h newest = thrown_again v.caught newest
    effect_comes (enter s) h newest = entering (exception_in_slot frame s)
    effect_comes leave h newest = tt
