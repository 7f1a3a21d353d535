-- What a call gives is the same whatever is done with it: its value is stored in a slot between calls, in any other place, or dropped.
use Rattle.std.proofs.Common.{◌≡◌, ℕ, ◌+◌, ℤ, pos, negsuc, Bool, true, false, List, [], ◌∷◌, Option, Some, None, refl, sym, subst}
use Rattle.std.specs.Prelude.{slice_get, slice_set, if◌then◌else◌}
use Rattle.eh_outer.specs.declared.module.Reply.{Reply}
use Rattle.eh_outer.specs.declared.module.Reply.TheVariants.{Value as ValueReply, Raise}
use Rattle.run_items.specs.declared.item.Item.TheVariants.{Line, Foreign}
use Rattle.cxx_ast.specs.declared.name.Builtin.{Builtin}
use Rattle.cxx_ast.specs.declared.name.Builtin.TheVariants.{WriteInt, ReadByte, Exit, Module, Cancel, Terminate, SetTerminate, SetUnexpected, Uncaught, BadException}
use Rattle.meaning_forms.specs.Arithmetic.{truth}
use Rattle.meaning_forms.specs.Outcome.{thrown, cancelled, ended, undefined, out_of_turns, deep, aborted}
use Rattle.region_forms.specs.Form.{Kinds, Callee, defined, builtin, Arguments, help_slot, Place}
use Rattle.region_forms.specs.World.{Word, Frame, World, Exception, building, native, foreign, with_item, exception_at, type_at, written}
use Rattle.region_forms.specs.Evaluation.{Location, in_memory, in_frame, locate, slot_location, words_in}
use Rattle.region_forms.specs.Effect.{goes, raises, terminates, flies, if_some, only_where, stored_at, finished, number_at, handler_at, byte_of, bytes_after, is_full, with_new, replied, module_called, some_travel, built_in, called}
use Rattle.region_forms.specs.Guard.{everything, is_doomed}
use Rattle.region_forms.specs.Lives.{is_there}
use Rattle.region_forms.specs.Outcome.{State, Context, Result, done, stopped, continued, stop, change, guarded_by, ◌>>◌}
use Rattle.region_forms.specs.Ending.{Running, after_terminate_handler, run_terminate_handler, terminate_with, enter_and_terminate, terminate_because, raise, perform, settled}
use Rattle.region_forms.specs.LowerExpression.{slot_place}
use Rattle.region_simulation.proofs.Storing.{with_temporary}

-- One operation came out with the value of a call in slot t. Another that makes the same call comes out where its value is stored in a place, or
-- dropped.
abbrev pub Gives : Kinds → ℕ → Option Place → Result (Unit {0}) → Result (Unit {0}) → Type 0
Gives kinds t q (done u s2) y =
    (n : ℤ) × (s : State) × (s2 ≡ with_temporary t n s) × ((s3 : State) → settled (finished kinds q n s.frame s.world) s ≡ done tt s3 → y ≡ done tt s3)
Gives kinds t q (stopped x s) y = y ≡ stopped x s

-- nothing comes out
abbrev IsStopped : Result (Unit {0}) → Type 0
IsStopped (done u s) = ⊥
IsStopped (stopped x s) = Unit {0}

gives_stopped : (kinds : Kinds) (t : ℕ) (q : Option Place) (y : Result (Unit {0})) → IsStopped y → Gives kinds t q y y
gives_stopped kinds t q (done u s) h = absurd h
gives_stopped kinds t q (stopped x s) h = refl

abbrev meaningless : State → Result (Unit {0})
meaningless s = stopped undefined s

not_done : (s t : State) → meaningless s ≡ done tt t → ⊥
not_done s t e = cc e

module _ (b : Running) (c : Context) where
  -- storing a value needs no more than the frame and the world
  pub settles : (q : Option Place) (z : ℤ) (f : Frame) (w : World) (s s3 : State) → settled (finished b.kinds q z f w) (record s { frame = f; world = w }) ≡ done tt s3
      → perform b (finished b.kinds q z f w) c s ≡ done tt s3
  settles None z f w s s3 e = e
  settles (Some p) z f w s s3 is = go (locate b.kinds f p) is
    where
      there : (x : Bool) (g : World) → settled (only_where x (goes f g)) (record s { frame = f; world = w }) ≡ done tt s3 → perform b (only_where x (goes f g)) c s ≡ done tt s3
      there true g e = e
      there false g e = absurd (not_done (record s { frame = f; world = w }) s3 e)

      go : (l : Option Location) → settled (if_some l (λ m. stored_at m z f w)) (record s { frame = f; world = w }) ≡ done tt s3
          → perform b (if_some l (λ m. stored_at m z f w)) c s ≡ done tt s3
      go None e = absurd (not_done (record s { frame = f; world = w }) s3 e)
      go (Some (in_memory a)) e = there (is_there w a.base) (written a z w) e
      go (Some (in_frame k)) e = e

  handled_stops : (y : Result ℤ) → IsStopped (after_terminate_handler y)
  handled_stops (done n s) = tt
  handled_stops (stopped (thrown e) s) = tt
  handled_stops (stopped (cancelled n) s) = tt
  handled_stops (stopped (ended x) s) = tt
  handled_stops (stopped undefined s) = tt
  handled_stops (stopped out_of_turns s) = tt
  handled_stops (stopped deep s) = tt

  terminate_stops : (h : Option ℕ) (s : State) → IsStopped (terminate_with b h c s)
  terminate_stops h s = go h s.world.ending
    where
      go : (h : Option ℕ) (x : Bool) → IsStopped ((if x then stop (ended aborted) else run_terminate_handler b h c) s)
      go h true = tt
      go None false = tt
      go (Some n) false = handled_stops (b.call n [] (guarded_by everything c) (record s { world = record (s.world) { ending = true } }))

  because_stops : (e : ℕ) (s : State) → IsStopped (terminate_because b e c s)
  because_stops e s = go s.world.ending (exception_at s.world e)
    where
      go : (x : Bool) (y : Exception) → IsStopped ((if x then stop (ended aborted) else enter_and_terminate b e y c) s)
      go true y = tt
      go false building = terminate_stops s.world.installed.terminate_handler s
      go false (native t d kept) = terminate_stops kept.terminate_handler _
      go false (foreign k t) = terminate_stops s.world.installed.terminate_handler s

  raise_stops : (e : ℕ) (s : State) → IsStopped (raise b e c s)
  raise_stops e s = go (is_doomed b.types c.guards (type_at s.world e))
    where
      go : (x : Bool) → IsStopped ((if x then terminate_because b e c else (change (flies e) >> stop (thrown e))) s)
      go true = because_stops e s
      go false = tt

  module _ (t : ℕ) (help : b.kinds t ≡ help_slot) (q : Option Place) where
    -- a value goes to the slot, or to the other place
    finishes : (z : ℤ) (f : Frame) (w : World) (s : State) → Gives b.kinds t q (perform b (finished b.kinds (Some (slot_place t)) z f w) c s) (perform b (finished b.kinds q z f w) c s)
    finishes z f w s =
        subst (λ k. Gives b.kinds t q (perform b (stored_at (slot_location k f.call t 0) z f w) c s) (perform b (finished b.kinds q z f w) c s)) (sym help)
        (z, record s { frame = f; world = w }, refl, λ s3 e. settles q z f w s s3 e)

    returns : (y : Result ℤ) → Gives b.kinds t q (continued y (λ z u. settled (finished b.kinds (Some (slot_place t)) z u.frame u.world) u))
        (continued y (λ z u. settled (finished b.kinds q z u.frame u.world) u))
    returns (done z u) =
        subst (λ k. Gives b.kinds t q (settled (stored_at (slot_location k u.frame.call t 0) z u.frame u.world) u) (settled (finished b.kinds q z u.frame u.world) u)) (sym help)
        (z, u, refl, λ s3 e. e)
    returns (stopped x u) = refl

    terminated : (h : Option ℕ) (w : World) (s : State) → Gives b.kinds t q (perform b (terminates h w) c s) (perform b (terminates h w) c s)
    terminated h w s = gives_stopped b.kinds t q _ (terminate_stops h (record s { world = w }))

    modules : (k : ℕ) (x : Option (List Reply)) (f : Frame) (w : World) (s : State)
        → Gives b.kinds t q (perform b (replied b.kinds (Some (slot_place t)) k x f w) c s) (perform b (replied b.kinds q k x f w) c s)
    modules k None f w s = finishes (pos 0) f w s
    modules k (Some []) f w s = finishes (pos 0) f w s
    modules k (Some (ValueReply z ∷ left)) f w s = finishes z f (record w { replies = slice_set w.replies k left }) s
    modules k (Some (Raise u ∷ left)) f w s = go (is_full w2)
      where
        w2 : World
        w2 = record w { replies = slice_set w.replies k left }

        go : (x : Bool) → Gives b.kinds t q (perform b (if x then terminates w2.installed.terminate_handler w2 else raises (w2.last_number + 1) (with_item (Foreign (w2.last_number + 1) k u) (with_new (foreign k u) w2))) c s)
            (perform b (if x then terminates w2.installed.terminate_handler w2 else raises (w2.last_number + 1) (with_item (Foreign (w2.last_number + 1) k u) (with_new (foreign k u) w2))) c s)
        go true = terminated w2.installed.terminate_handler w2 s
        go false = gives_stopped b.kinds t q _ (raise_stops (w2.last_number + 1) (record s { world = with_item (Foreign (w2.last_number + 1) k u) (with_new (foreign k u) w2) }))

    built_ins : (n : Builtin) (given : List Word) (f : Frame) (w : World) (s : State)
        → Gives b.kinds t q (perform b (built_in b.kinds n (Some (slot_place t)) given f w) c s) (perform b (built_in b.kinds n q given f w) c s)
    built_ins WriteInt given f w s = finishes (pos 0) f (with_item (Line (number_at given 0)) w) s
    built_ins ReadByte given f w s = finishes (byte_of w.input) f (record w { input = bytes_after w.input }) s
    built_ins Exit given f w s = refl
    built_ins Module given f w s = go (number_at given 0)
      where
        go : (z : ℤ) → Gives b.kinds t q (perform b (module_called b.kinds (Some (slot_place t)) z f w) c s) (perform b (module_called b.kinds q z f w) c s)
        go (negsuc k) = finishes (pos 0) f w s
        go (pos k) = modules k (slice_get w.replies k) f w s
    built_ins Cancel given f w s = refl
    built_ins Terminate given f w s = terminated w.installed.terminate_handler w s
    built_ins SetTerminate given f w s = finishes (pos 0) f (record w { installed = record (w.installed) { terminate_handler = handler_at given } }) s
    built_ins SetUnexpected given f w s = finishes (pos 0) f (record w { installed = record (w.installed) { unexpected_handler = handler_at given } }) s
    built_ins Uncaught given f w s = finishes (truth (some_travel w.uncaught)) f w s
    built_ins BadException given f w s = refl

    -- whatever is called
    pub calls_give : (n : Callee) (args : Arguments) (s : State)
        → Gives b.kinds t q (perform b (if_some (words_in b.kinds s.frame s.world args) (λ x. called b.kinds n (Some (slot_place t)) x s.frame s.world)) c s)
        (perform b (if_some (words_in b.kinds s.frame s.world args) (λ x. called b.kinds n q x s.frame s.world)) c s)
    calls_give n args s = go n (words_in b.kinds s.frame s.world args)
      where
        go : (n : Callee) (given : Option (List Word)) → Gives b.kinds t q (perform b (if_some given (λ x. called b.kinds n (Some (slot_place t)) x s.frame s.world)) c s)
            (perform b (if_some given (λ x. called b.kinds n q x s.frame s.world)) c s)
        go n None = refl
        go (builtin f) (Some x) = built_ins f x s.frame s.world s
        go (defined n) (Some x) = returns (b.call n x c s)
