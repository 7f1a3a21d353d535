-- Terminate, once it runs, goes on: nothing that regions do makes it not run.
use Rattle.std.proofs.Common.{◌≡◌, ℕ, zero, suc, ◌+◌, Bool, true, false, List, [], ◌∷◌, ◌++◌, Option, Some, None, refl, sym, ap, ◌∙◌, subst, max}
use Rattle.std.specs.Prelude.{ℤ, pos, negsuc, nat_le, not, ◌==◌, ◌&&◌, slice_get, slice_set, if◌then◌else◌}
use Rattle.cxx_ast.specs.declared.name.Builtin.TheVariants.{WriteInt, ReadByte, Exit, Module, Cancel, Terminate, SetTerminate, SetUnexpected, Uncaught, BadException}
use Rattle.run_items.specs.declared.item.Item.TheVariants.{Line, Foreign, Make, Enter, Destroy}
use Rattle.run_items.specs.declared.item.Item.{Item}
use Rattle.eh_outer.specs.declared.module.Reply.{Reply}
use Rattle.eh_outer.specs.declared.module.Reply.TheVariants.{Value as ValueReply, Raise}
use Rattle.meaning_forms.specs.Arithmetic.{is_zero, truth}
use Rattle.meaning_forms.specs.Class.{contains}
use Rattle.meaning_forms.specs.Outcome.{Stop, thrown, cancelled, ended, undefined, out_of_turns, deep, aborted}
use Rattle.region_forms.specs.Caught.{Entry, holds_other, gives_back}
use Rattle.region_forms.specs.Form.{Kinds, SlotKind, int_slot, address_slot, object_slot, help_slot, Place, Callee, defined, builtin, Value, number, load, unary, binary, call_value, Op, evaluate, store, bind, call, construct, destroy, make, throw, rethrow, enter, leave, Cleanup, destroy_scope, destroy_part, free_object, leave_handler, Region, seq, op, branch, loop, protect, catch, limit, barrier, leave_region, RegionList, no_regions, region_then, Clauses, no_clauses, clause_then, RegionFunction, Regions, kinds_of}
use Rattle.region_forms.specs.World.{Word, nothing, with_item, number_word, address_word, flying, unwinding, with_slot, World, Frame, Exception, building, native, foreign, exception_in_slot, exception_at, type_at, object_address, written}
use Rattle.region_forms.specs.Guard.{clauses, listed, everything, matches, allows, types_of, is_doomed}
use Rattle.region_forms.specs.Evaluation.{Location, in_memory, in_frame, locate, address_of, words_in, value_in}
use Rattle.region_forms.specs.Effect.{Effect, goes, calls, raises, terminates, ends, cancels, leaves_newest, meaningless, if_some, stored_at, finished, is_full, replied, module_called, called, number_at, valued, rethrown, is_foreign, enters, effect, newest_of, world_passed, int_passed_to, entered, left, result_in, flies, kept, byte_of, with_new, bytes_after, handler_at, some_travel, only_where, freed}
use Rattle.region_forms.specs.Outcome.{State, Context, Flow, normal, leaves, Result, done, stopped, Action, continued, pure, stop, some, change, guarded_by, ◌>>=◌, ◌>>◌, only_if}
use Rattle.region_forms.specs.Ending.{Running, terminate_with, run_terminate_handler, terminate_because, enter_and_terminate, raise, after_barrier, behind_barrier, unwound, after_scope, after_part, after_destructor, spend, spend_turn, empty_call, call_destructor, give_back, leave_newest, settled, perform, bad_row, terminate, free}
use Rattle.region_forms.specs.Unexpected.{kept_with, throw_bad, made, keep_bad, enter_stopped}
use Rattle.region_forms.specs.Meaning.{outwards, followed, operation, value_of, loop_of, after_building, after_try, with_object, after_call, called_state, function_result, give_up}
use Rattle.linear_simulation.specs.Watched.{same_type, still, kept_type, kept_on, not_its_own, watched_leave, watched_operation, watched_cleaned, watched_handled, watched_pass, terminate_for, watched_after, watched_handler, watched_unexpected, watched_limit, watched, watched_all, watched_caught, watched_body, watched_function, watched_call, watched_call_of}
use Rattle.linear_simulation.specs.Comes.{state_after}
use Rattle.region_forms.specs.Lives.{is_live, is_there, is_native, is_being_built, can_travel, may_enter, may_leave}

-- terminate runs behind a result, if it ran before
abbrev pub Kept : {A : Type 0} → World → Result A → Type 0
Kept w r = w.ending ≡ true → (state_after r).world.ending ≡ true

-- nothing more comes after a list
pub nothing_more : (xs : List Item) → xs ≡ xs ++ []
nothing_more [] = refl
nothing_more (x ∷ xs) = ap (λ ys. x ∷ ys) (nothing_more xs)

-- a world that follows another has its items and perhaps more, and terminate runs or not as it did
abbrev pub Follows : World → World → Type 0
Follows w v = (v.ending ≡ w.ending) × (more : List Item) × (v.items ≡ w.items ++ more)

-- the worlds of an effect follow the world before it
abbrev pub EffectKeeps : World → Effect → Type 0
EffectKeeps w (goes f v) = Follows w v
EffectKeeps w (calls p n given) = Unit {0}
EffectKeeps w (raises e v) = Follows w v
EffectKeeps w (terminates h v) = Follows w v
EffectKeeps w (ends e v) = Follows w v
EffectKeeps w (cancels z v) = Follows w v
EffectKeeps w leaves_newest = Unit {0}
EffectKeeps w meaningless = Unit {0}

module _ (k : Kinds) (f : Frame) (w : World) where
  some_keeps : {A : Type 0} (x : Option A) (next : A → Effect) → ((z : A) → EffectKeeps w (next z)) → EffectKeeps w (if_some x next)
  some_keeps None next h = tt
  some_keeps (Some z) next h = h z

  where_keeps : (b : Bool) (x : Effect) → EffectKeeps w x → EffectKeeps w (only_where b x)
  where_keeps true x h = h
  where_keeps false x h = tt

  stored_keeps : (l : Location) (v : ℤ) (w0 : World) → Follows w w0 → EffectKeeps w (stored_at l v f w0)
  stored_keeps (in_memory a) v w0 e = where_keeps (is_there w0 a.base) (goes f (written a v w0)) e
  stored_keeps (in_frame s) v w0 e = e

  pub finished_keeps : (p : Option Place) (v : ℤ) (w0 : World) → Follows w w0 → EffectKeeps w (finished k p v f w0)
  finished_keeps None v w0 e = e
  finished_keeps (Some p) v w0 e = some_keeps (locate k f p) (λ l. stored_at l v f w0) (λ l. stored_keeps l v w0 e)

  full_keeps : (b : Bool) (h : Option ℕ) (u : World) (x : Effect) → Follows w u → EffectKeeps w x → EffectKeeps w (if b then terminates h u else x)
  full_keeps true h u x e q = e
  full_keeps false h u x e q = q

  replied_keeps : (p : Option Place) (m : ℕ) (x : Option (List Reply)) → EffectKeeps w (replied k p m x f w)
  replied_keeps p m None = finished_keeps p (pos 0) w (refl, [], nothing_more w.items)
  replied_keeps p m (Some []) = finished_keeps p (pos 0) w (refl, [], nothing_more w.items)
  replied_keeps p m (Some (ValueReply v ∷ left)) = finished_keeps p v (record w { replies = slice_set w.replies m left }) (refl, [], nothing_more w.items)
  replied_keeps p m (Some (Raise t ∷ left)) = full_keeps (is_full w) w.installed.terminate_handler (record w { replies = slice_set w.replies m left })
      (raises (w.last_number + 1) (with_item (Foreign (w.last_number + 1) m t) (with_new (foreign m t) (record w { replies = slice_set w.replies m left }))))
      (refl, [], nothing_more w.items) (refl, Foreign (w.last_number + 1) m t ∷ [], refl)

  module_keeps : (p : Option Place) (v : ℤ) → EffectKeeps w (module_called k p v f w)
  module_keeps p (negsuc m) = finished_keeps p (pos 0) w (refl, [], nothing_more w.items)
  module_keeps p (pos m) = replied_keeps p m (slice_get w.replies m)

  called_keeps : (c : Callee) (p : Option Place) (given : List Word) → EffectKeeps w (called k c p given f w)
  called_keeps (defined m) p given = tt
  called_keeps (builtin WriteInt) p given = finished_keeps p (pos 0) (with_item (Line (number_at given 0)) w) (refl, Line (number_at given 0) ∷ [], refl)
  called_keeps (builtin ReadByte) p given = finished_keeps p (byte_of w.input) (record w { input = bytes_after w.input }) (refl, [], nothing_more w.items)
  called_keeps (builtin Exit) p given = (refl, [], nothing_more w.items)
  called_keeps (builtin Module) p given = module_keeps p (number_at given 0)
  called_keeps (builtin Cancel) p given = (refl, [], nothing_more w.items)
  called_keeps (builtin Terminate) p given = (refl, [], nothing_more w.items)
  called_keeps (builtin SetTerminate) p given =
      finished_keeps p (pos 0) (record w { installed = record (w.installed) { terminate_handler = handler_at given } }) (refl, [], nothing_more w.items)
  called_keeps (builtin SetUnexpected) p given =
      finished_keeps p (pos 0) (record w { installed = record (w.installed) { unexpected_handler = handler_at given } }) (refl, [], nothing_more w.items)
  called_keeps (builtin Uncaught) p given = finished_keeps p (truth (some_travel w.uncaught)) w (refl, [], nothing_more w.items)
  called_keeps (builtin BadException) p given = tt

  valued_keeps : (v : Value) (p : Option Place) → EffectKeeps w (valued k v p f w)
  valued_keeps (number z) p = some_keeps (value_in k f w (number z)) (λ x. finished k p x f w) (λ x. finished_keeps p x w (refl, [], nothing_more w.items))
  valued_keeps (load q) p = some_keeps (value_in k f w (load q)) (λ x. finished k p x f w) (λ x. finished_keeps p x w (refl, [], nothing_more w.items))
  valued_keeps (unary o v) p = some_keeps (value_in k f w (unary o v)) (λ x. finished k p x f w) (λ x. finished_keeps p x w (refl, [], nothing_more w.items))
  valued_keeps (binary o a b) p = some_keeps (value_in k f w (binary o a b)) (λ x. finished k p x f w) (λ x. finished_keeps p x w (refl, [], nothing_more w.items))
  valued_keeps (call_value c args) p = some_keeps _ (λ given. called k c p given f w) (λ given. called_keeps c p given)

  rethrown_keeps : (caught : List Entry) → EffectKeeps w (rethrown caught w)
  rethrown_keeps [] = (refl, [], nothing_more w.items)
  rethrown_keeps (x ∷ xs) =
      full_keeps x.again w.installed.terminate_handler w (only_where (can_travel w x.number) (raises x.number w)) (refl, [], nothing_more w.items)
      (where_keeps (can_travel w x.number) (raises x.number w) (refl, [], nothing_more w.items))

  pub enters_keeps : (e : ℕ) → EffectKeeps w (enters e f w)
  enters_keeps e =
      where_keeps (may_enter w e) _ (full_keeps (is_foreign (exception_at w e) && holds_other e w.caught) w.installed.terminate_handler w (goes f (entered e w))
      (refl, [], nothing_more w.items) (refl, Enter e ∷ [], refl))

  pub effect_keeps : (o : Op) → EffectKeeps w (effect k o f w)
  effect_keeps (evaluate v) = valued_keeps v None
  effect_keeps (store p v) = valued_keeps v (Some p)
  effect_keeps (bind s p) = some_keeps (address_of k f p) (λ x. goes (with_slot s (address_word x) f) w) (λ a. (refl, [], nothing_more w.items))
  effect_keeps (call c args) = some_keeps _ (λ given. called k c None given f w) (λ given. called_keeps c None given)
  effect_keeps (construct p m args) =
      some_keeps (address_of k f p) (λ x. if_some (words_in k f w args) (λ y. calls None m (address_word x ∷ y)))
      (λ a. some_keeps (words_in k f w args) (λ y. calls None m (address_word a ∷ y)) (λ given. tt))
  effect_keeps (destroy p m) = some_keeps (address_of k f p) (λ x. calls None m (address_word x ∷ [])) (λ a. tt)
  effect_keeps (make s) =
      full_keeps (is_full w) w.installed.terminate_handler w
      (goes (with_slot s (address_word (object_address (w.last_number + 1))) f) (with_item (Make (w.last_number + 1)) (with_new building w)))
      (refl, [], nothing_more w.items) (refl, Make (w.last_number + 1) ∷ [], refl)
  effect_keeps (throw s t d) =
      where_keeps (is_being_built w (exception_in_slot f s)) (raises (exception_in_slot f s) (kept (exception_in_slot f s) t d w)) (refl, [], nothing_more w.items)
  effect_keeps rethrow = rethrown_keeps w.caught
  effect_keeps (enter s) = enters_keeps (exception_in_slot f s)
  effect_keeps leave = tt

bind_kept : {A B : Type 0} (w : World) (r : Result A) (next : A → Action B) → Kept w r → ((a : A) (s : State) → Kept s.world (next a s)) → Kept w (continued r next)
bind_kept w (done a s) next h n e = n a s (h e)
bind_kept w (stopped x s) next h n e = h e

if_kept : {A : Type 0} (w : World) (b : Bool) (act : Action A) (s : State) → (w.ending ≡ true → s.world.ending ≡ true) → Kept w (act s) → Kept w (only_if b act s)
if_kept w true act s e h = h
if_kept w false act s e h = e

module _ (run : Running) (calls_keep : (g : ℕ) (words : List Word) (c : Context) (s : State) → Kept s.world (run.call g words c s)) where
  terminate_kept : (A : Type 0) (h : Option ℕ) (c : Context) (s : State) → Kept s.world (terminate_with {A = A} run h c s)
  terminate_kept A h c s = λ e.
      subst (λ b. (state_after {A = A} ((if b then stop (ended aborted) else run_terminate_handler run h c) s)).world.ending ≡ true) (sym e) e

  because_kept : (A : Type 0) (x : ℕ) (c : Context) (s : State) → Kept s.world (terminate_because {A = A} run x c s)
  because_kept A x c s = λ e.
      subst (λ b. (state_after {A = A} ((if b then stop (ended aborted) else enter_and_terminate run x (exception_at s.world x) c) s)).world.ending ≡ true) (sym e) e

  raise_kept : (A : Type 0) (x : ℕ) (c : Context) (s : State) → Kept s.world (raise {A = A} run x c s)
  raise_kept A x c s = go (is_doomed run.types c.guards (type_at s.world x))
    where
      go : (b : Bool) → Kept s.world ((if b then terminate_because {A = A} run x c else (change (flies x) >> stop (thrown x))) s)
      go true = because_kept A x c s
      go false = λ e. e

  settled_kept : (x : Effect) (s : State) → EffectKeeps s.world x → Kept s.world (settled x s)
  settled_kept (goes f w) s h = λ e. h.0 ∙ e
  settled_kept (calls p n given) s h = λ e. e
  settled_kept (raises x w) s h = λ e. e
  settled_kept (terminates x w) s h = λ e. e
  settled_kept (ends x w) s h = λ e. e
  settled_kept (cancels x w) s h = λ e. e
  settled_kept leaves_newest s h = λ e. e
  settled_kept meaningless s h = λ e. e

  empty_kept : (c : Context) (s : State) → Kept s.world (empty_call run c s)
  empty_kept c s = go (nat_le run.limit c.depth)
    where
      after : Unit {0} → Action (Unit {0})
      after x = change (λ w. record w { deepest = max w.deepest (c.depth + 1) })

      spent : (u : ℕ) → Kept s.world (continued (spend u s) after)
      spent zero = λ e. e
      spent (suc u) = λ e. e

      go : (b : Bool) → Kept s.world (continued ((if b then stop deep else spend_turn) s) after)
      go true = λ e. e
      go false = spent s.turns

  destructor_kept : (w : World) (x : ℕ) (r : Result (Unit {0})) → Kept w r → Kept w (after_destructor x r)
  destructor_kept w x (done a s) h = if_kept w (is_live s.world x) (change (freed x)) s h h
  destructor_kept w x (stopped (thrown y) s) h = bind_kept w (free x s) (λ u. stop {A = Unit {0}} (thrown y)) (if_kept w (is_live s.world x) (change (freed x)) s h h) (λ u s2 e. e)
  destructor_kept w x (stopped (cancelled y) s) h = bind_kept w (free x s) (λ u. stop {A = Unit {0}} (cancelled y)) (if_kept w (is_live s.world x) (change (freed x)) s h h) (λ u s2 e. e)
  destructor_kept w x (stopped (ended y) s) h = λ e. h e
  destructor_kept w x (stopped undefined s) h = λ e. h e
  destructor_kept w x (stopped out_of_turns s) h = λ e. h e
  destructor_kept w x (stopped deep s) h = λ e. h e

  call_kept : (t : ℕ) (d : Option ℕ) (x : ℕ) (c : Context) (s : State) → Kept s.world (call_destructor run t d x c s)
  call_kept t None x c s = go (t == bad_row)
    where
      go : (b : Bool) → Kept s.world ((if b then empty_call run c else pure tt) s)
      go true = empty_kept c s
      go false = λ e. e
  call_kept t (Some d) x c s = bind_kept s.world (run.call d _ c s) (λ v. pure tt) (calls_keep d _ c s) (λ v s2 e. e)

  give_kept : (x : ℕ) (y : Exception) (c : Context) (s : State) → Kept s.world (give_back run x y c s)
  give_kept x building c s = λ e. e
  give_kept x (native t d handlers) c s =
      let s2 : State = record s { world = with_item (Destroy x) s.world } in
      destructor_kept s.world x (call_destructor run t d x c s2) (call_kept t d x c s2)
  give_kept x (foreign k t) c s = λ e. e

  newest_kept : (c : Context) (s : State) → Kept s.world (leave_newest run c s)
  newest_kept c s = if_kept s.world (may_leave s.world s.world.caught) _ s (λ e. e) (go (gives_back s.world.caught))
    where
      go : (b : Bool) → Kept s.world ((if b then give_back run (newest_of s.world.caught) (exception_at s.world (newest_of s.world.caught)) c else pure tt) (record s { world = left s.world }))
      go true = give_kept (newest_of s.world.caught) (exception_at s.world (newest_of s.world.caught)) c (record s { world = left s.world })
      go false = λ e. e

  still_kept : (A : Type 0) (w : World) (b : Bool) (x : ℕ) (s : State) → (w.ending ≡ true → s.world.ending ≡ true) → Kept w (still {A = A} b x s)
  still_kept A w true x s h = h
  still_kept A w false x s h = h

  own_kept : {A : Type 0} (w : World) (x : ℕ) (r : Result A) → Kept w r → Kept w (not_its_own x r)
  own_kept w x (done a s) h = h
  own_kept {A} w x (stopped (thrown y) s) h = still_kept A w (not (y == x)) y s h
  own_kept w x (stopped (cancelled y) s) h = h
  own_kept w x (stopped (ended y) s) h = h
  own_kept w x (stopped undefined s) h = h
  own_kept w x (stopped out_of_turns s) h = h
  own_kept w x (stopped deep s) h = h

  leave_kept : (c : Context) (s : State) → Kept s.world (watched_leave run c s)
  leave_kept c s = own_kept s.world (newest_of s.world.caught) (leave_newest run c s) (newest_kept c s)

  perform_kept : (x : Effect) (c : Context) (s : State) → EffectKeeps s.world x → Kept s.world (perform run x c s)
  perform_kept (goes f w) c s h = λ e. h.0 ∙ e
  perform_kept (calls p n given) c s h =
      bind_kept s.world (run.call n given c s) _ (calls_keep n given c s)
      (λ v s2. settled_kept (finished run.kinds p v s2.frame s2.world) s2 (finished_keeps run.kinds s2.frame s2.world p v s2.world (refl, [], nothing_more s2.world.items)))
  perform_kept (raises x w) c s h = λ e. raise_kept (Unit {0}) x c (record s { world = w }) (h.0 ∙ e)
  perform_kept (terminates x w) c s h = λ e. terminate_kept (Unit {0}) x c (record s { world = w }) (h.0 ∙ e)
  perform_kept (ends x w) c s h = λ e. h.0 ∙ e
  perform_kept (cancels x w) c s h = λ e. h.0 ∙ e
  perform_kept leaves_newest c s h = newest_kept c s
  perform_kept meaningless c s h = λ e. e

  operation_kept : (o : Op) (c : Context) (s : State) → Kept s.world (operation run o c s)
  operation_kept o c s = perform_kept (effect run.kinds o s.frame s.world) c s (effect_keeps run.kinds s.frame s.world o)

  watched_kept : (o : Op) (c : Context) (s : State) → Kept s.world (watched_operation run o c s)
  watched_kept (evaluate v) c s = operation_kept (evaluate v) c s
  watched_kept (store p v) c s = operation_kept (store p v) c s
  watched_kept (bind x p) c s = operation_kept (bind x p) c s
  watched_kept (call k args) c s = operation_kept (call k args) c s
  watched_kept (construct p k args) c s = operation_kept (construct p k args) c s
  watched_kept (destroy p k) c s = operation_kept (destroy p k) c s
  watched_kept (make x) c s = operation_kept (make x) c s
  watched_kept (throw x t d) c s = operation_kept (throw x t d) c s
  watched_kept rethrow c s = operation_kept rethrow c s
  watched_kept (enter x) c s = operation_kept (enter x) c s
  watched_kept leave c s = leave_kept c s

  barrier_kept : {A : Type 0} (w : World) (c : Context) (r : Result A) → Kept w r → Kept w (after_barrier run c r)
  barrier_kept w c (done a s) h = h
  barrier_kept w c (stopped (thrown y) s) h = h
  barrier_kept {A} w c (stopped (cancelled y) s) h = λ e. terminate_kept A s.world.installed.terminate_handler c s (h e)
  barrier_kept w c (stopped (ended y) s) h = h
  barrier_kept w c (stopped undefined s) h = h
  barrier_kept w c (stopped out_of_turns s) h = h
  barrier_kept w c (stopped deep s) h = h

  module _ (act : Context → Action (Unit {0})) (keeps : (c : Context) (s : State) → Kept s.world (act c s)) where
    behind_kept : (c : Context) (s : State) → Kept s.world (behind_barrier run c act s)
    behind_kept c s = barrier_kept s.world c (act (guarded_by everything c) s) (keeps (guarded_by everything c) s)

    unwound_kept : (A : Type 0) (c : Context) (x : Stop) (s : State) → Kept s.world (unwound {A = A} run c act x s)
    unwound_kept A c (thrown y) s = bind_kept s.world (behind_barrier run c act s) (λ u. stop {A = A} (thrown y)) (behind_kept c s) (λ v s2 e. e)
    unwound_kept A c (cancelled y) s = bind_kept s.world (behind_barrier run c act s) (λ u. stop {A = A} (cancelled y)) (behind_kept c s) (λ v s2 e. e)
    unwound_kept A c (ended y) s = λ e. e
    unwound_kept A c undefined s = λ e. e
    unwound_kept A c out_of_turns s = λ e. e
    unwound_kept A c deep s = λ e. e

    scope_kept : {A : Type 0} (w : World) (c : Context) (r : Result A) → Kept w r → Kept w (after_scope run c act r)
    scope_kept w c (done a s) h = λ e. bind_kept s.world (act c s) (λ v. pure a) (keeps c s) (λ v s2 q. q) (h e)
    scope_kept {A} w c (stopped x s) h = λ e. unwound_kept A c x s (h e)

    part_kept : {A : Type 0} (w : World) (c : Context) (r : Result A) → Kept w r → Kept w (after_part run c act r)
    part_kept w c (done a s) h = h
    part_kept {A} w c (stopped x s) h = λ e. unwound_kept A c x s (h e)

  building_kept : {A : Type 0} (w : World) (x : ℕ) (r : Result A) → Kept w r → Kept w (after_building x r)
  building_kept w x (done a s) h = h
  building_kept {A} w x (stopped (thrown y) s) h =
      let e = exception_in_slot s.frame x in
      bind_kept w (give_up e s) (λ u. stop {A = A} (thrown y)) (if_kept w (is_being_built s.world e) (change (freed e)) s h h) (λ u s2 q. q)
  building_kept {A} w x (stopped (cancelled y) s) h =
      let e = exception_in_slot s.frame x in
      bind_kept w (give_up e s) (λ u. stop {A = A} (cancelled y)) (if_kept w (is_being_built s.world e) (change (freed e)) s h h) (λ u s2 q. q)
  building_kept w x (stopped (ended y) s) h = h
  building_kept w x (stopped undefined s) h = h
  building_kept w x (stopped out_of_turns s) h = h
  building_kept w x (stopped deep s) h = h

  cleaned_kept : (w : World) (cl : Cleanup) (c : Context) (r : Result Flow) → Kept w r → Kept w (watched_cleaned run cl c r)
  cleaned_kept w (destroy_scope p d) c r h = scope_kept (operation run (destroy p d)) (operation_kept (destroy p d)) w c r h
  cleaned_kept w (destroy_part p d) c r h = part_kept (operation run (destroy p d)) (operation_kept (destroy p d)) w c r h
  cleaned_kept w (free_object x) c r h = building_kept w x r h
  cleaned_kept w leave_handler c r h = scope_kept (watched_leave run) leave_kept w c r h

  type_kept : {A : Type 0} (w : World) (t : Option ℕ) (r : Result A) → Kept w r → Kept w (kept_type t r)
  type_kept w t (done a s) h = h
  type_kept {A} w t (stopped (thrown y) s) h = still_kept A w (same_type t (type_at s.world y)) y s h
  type_kept w t (stopped (cancelled y) s) h = h
  type_kept w t (stopped (ended y) s) h = h
  type_kept w t (stopped undefined s) h = h
  type_kept w t (stopped out_of_turns s) h = h
  type_kept w t (stopped deep s) h = h

  on_kept : {A B : Type 0} (w : World) (r : Result A) (q : Result B) → Kept w q → Kept w (kept_on r q)
  on_kept w (done a s) q h = h
  on_kept w (stopped (thrown y) s) q h = type_kept w (type_at s.world y) q h
  on_kept w (stopped (cancelled y) s) q h = h
  on_kept w (stopped (ended y) s) q h = h
  on_kept w (stopped undefined s) q h = h
  on_kept w (stopped out_of_turns s) q h = h
  on_kept w (stopped deep s) q h = h

  handled_kept : {A : Type 0} (c : Context) (act : Action A) (s : State) → Kept s.world (act s) → Kept s.world (watched_handled run c act s)
  handled_kept c act s h = on_kept s.world (act s) _ (scope_kept (watched_leave run) leave_kept s.world c (act s) h)

  bad_kept : (A : Type 0) (c : Context) (s : State) → Kept s.world (throw_bad {A = A} run c s)
  bad_kept A c s = go (is_full s.world)
    where
      e2 : ℕ
      e2 = s.world.last_number + 1

      after : Action A
      after = keep_bad e2 >> raise run e2 c

      go : (b : Bool) → Kept s.world ((if b then terminate {A = A} run c else (change made >> (empty_call run c >> after))) s)
      go true = terminate_kept A s.world.installed.terminate_handler c s
      go false = bind_kept s.world (empty_call run c (record s { world = made s.world })) (λ u. after) (empty_kept c (record s { world = made s.world }))
          (λ u s2. bind_kept s2.world (keep_bad e2 s2) (λ v. raise {A = A} run e2 c) (if_kept s2.world (is_being_built s2.world e2) (change (kept e2 bad_row None)) s2 (λ e. e) (λ e. e))
          (λ v s3. raise_kept A e2 c s3))

  for_kept : (A : Type 0) (x : ℕ) (h : Option ℕ) (c : Context) (s : State) → Kept s.world (terminate_for {A = A} run x h c s)
  for_kept A x h c s = go (same_type h (kept_with (exception_at s.world x)).terminate_handler)
    where
      go : (b : Bool) → Kept s.world ((if b then terminate_with {A = A} run h c else stop deep) s)
      go true = terminate_kept A h c s
      go false = λ e. e

  pass_kept : (A : Type 0) (types : List ℕ) (x : ℕ) (h : Option ℕ) (y : ℕ) (c : Context) (s : State) → Kept s.world (watched_pass {A = A} run types x h y c s)
  pass_kept A types x h y c s = go (allows run.types types (type_at s.world y)) (contains types bad_row)
    where
      go : (b d : Bool) → Kept s.world ((if b then raise {A = A} run y c else (if d then throw_bad run c else
          terminate_for run x h c)) s)
      go true d = raise_kept A y c s
      go false true = bad_kept A c s
      go false false = for_kept A x h c s

  after_kept : (A : Type 0) (w : World) (types : List ℕ) (x : ℕ) (h : Option ℕ) (c : Context) (r : Result ℤ) → Kept w r → Kept w (watched_after {A = A} run types x h c r)
  after_kept A w types x th c (done v s) h = λ e. for_kept A x th c s (h e)
  after_kept A w types x th c (stopped (thrown y) s) h = λ e.
      bind_kept s.world (perform run (enters y s.frame s.world) c s) _ (perform_kept (enters y s.frame s.world) c s (enters_keeps run.kinds s.frame s.world y))
      (λ u s2. handled_kept c (watched_pass {A = A} run types x th y c) s2 (pass_kept A types x th y c s2)) (h e)
  after_kept A w types x th c (stopped (cancelled y) s) h = h
  after_kept A w types x th c (stopped (ended y) s) h = h
  after_kept A w types x th c (stopped undefined s) h = h
  after_kept A w types x th c (stopped out_of_turns s) h = h
  after_kept A w types x th c (stopped deep s) h = h

  handler_kept : (A : Type 0) (types : List ℕ) (x : ℕ) (h u : Option ℕ) (c : Context) (s : State) → Kept s.world (watched_handler {A = A} run types x h u c s)
  handler_kept A types x h None c s = for_kept A x h c s
  handler_kept A types x h (Some u) c s = after_kept A s.world types x h c (run.call u [] (guarded_by (clauses (None ∷ [])) c) s) (calls_keep u [] (guarded_by (clauses (None ∷ [])) c) s)

  limit_kept : (w : World) (types : List ℕ) (c : Context) (r : Result Flow) → Kept w r → Kept w (watched_limit run types c r)
  limit_kept w types c (done a s) h = h
  limit_kept w types c (stopped (thrown y) s) h = go (allows run.types types (type_at s.world y))
    where
      s1 : State
      s1 = record s { world = entered y s.world }

      go : (b : Bool) → Kept w ((if b then stop (thrown y) else watched_unexpected {A = Flow} run types y c) s)
      go true = h
      go false = λ e. bind_kept s.world (enter_stopped y s) _
          (if_kept s.world (is_native (exception_at s.world y) && may_enter s.world y) (change (entered y)) s (λ q. q) (λ q. q))
          (λ u s2. handled_kept c (watched_handler {A = Flow} run types y (kept_with (exception_at s.world y)).terminate_handler (kept_with (exception_at s.world y)).unexpected_handler c) s2
          (handler_kept Flow types y (kept_with (exception_at s.world y)).terminate_handler (kept_with (exception_at s.world y)).unexpected_handler c s2)) (h e)
  limit_kept w types c (stopped (cancelled y) s) h = h
  limit_kept w types c (stopped (ended y) s) h = h
  limit_kept w types c (stopped undefined s) h = h
  limit_kept w types c (stopped out_of_turns s) h = h
  limit_kept w types c (stopped deep s) h = h

  try_kept : (w : World) (next : ℕ → Action Flow) (r : Result Flow) → ((x : ℕ) (s : State) → Kept s.world (next x s)) → Kept w r → Kept w (after_try next r)
  try_kept w next (done a s) n h = h
  try_kept w next (stopped (thrown y) s) n h = λ e. n y s (h e)
  try_kept w next (stopped (cancelled y) s) n h = h
  try_kept w next (stopped (ended y) s) n h = h
  try_kept w next (stopped undefined s) n h = h
  try_kept w next (stopped out_of_turns s) n h = h
  try_kept w next (stopped deep s) n h = h

  value_kept : (o : Option ℤ) (s : State) → Kept s.world (some o s)
  value_kept None s = λ e. e
  value_kept (Some v) s = λ e. e

  followed_kept : (next : Action Flow) → ((s : State) → Kept s.world (next s)) → (flow : Flow) (s : State) → Kept s.world (followed next flow s)
  followed_kept next h normal s = h s
  followed_kept next h (leaves k) s = λ e. e

  bounded_kept : (w : World) (r : Result Flow) → Kept w r → Kept w (continued r (λ flow. pure (outwards flow)))
  bounded_kept w (done a s) h = h
  bounded_kept w (stopped x s) h = h

  loop_kept : (v : Value) (body : Action Flow) → ((s : State) → Kept s.world (body s)) → (n : ℕ) (s : State) → Kept s.world (loop_of n (value_of run v) body s)
  loop_kept v body h zero s = λ e. e
  loop_kept v body h (suc n) s = spent s.turns (loop_kept v body h n)
    where
      test : ((s2 : State) → Kept s2.world (loop_of n (value_of run v) body s2)) → (b : Bool) (s2 : State)
          → Kept s2.world ((if b then pure normal else (body >>= followed (loop_of n (value_of run v) body))) s2)
      test rest true s2 = λ e. e
      test rest false s2 = bind_kept s2.world (body s2) (followed (loop_of n (value_of run v) body)) (h s2) (λ flow s3. followed_kept (loop_of n (value_of run v) body) rest flow s3)

      spent : (u : ℕ) → ((s2 : State) → Kept s2.world (loop_of n (value_of run v) body s2))
          → Kept s.world (continued (spend u s) (λ x. value_of run v >>= (λ z. if is_zero z then pure normal else (body >>= followed (loop_of n (value_of run v) body)))))
      spent zero rest = λ e. e
      spent (suc u) rest =
          bind_kept s.world (value_of run v (record s { turns = u })) _ (value_kept (value_in run.kinds s.frame s.world v) (record s { turns = u })) (λ z s2. test rest (is_zero z) s2)

  either_kept : (b : Bool) (s : State) (a d : Action Flow) → Kept s.world (a s) → Kept s.world (d s) → Kept s.world ((if b then a else d) s)
  either_kept true s a d h q = h
  either_kept false s a d h q = q

  branch_kept : (v : Value) (s : State) (a b : Action Flow) → ((s2 : State) → Kept s2.world (a s2)) → ((s2 : State) → Kept s2.world (b s2))
      → Kept s.world (continued (value_of run v s) (λ x. if is_zero x then b else a))
  branch_kept v s a b h q =
      bind_kept s.world (value_of run v s) (λ x. if is_zero x then b else a) (value_kept (value_in run.kinds s.frame s.world v) s) (λ z s2. either_kept (is_zero z) s2 b a (q s2) (h s2))

  mutual
    region_kept : (r : Region) (c : Context) (s : State) → Kept s.world (watched run r c s)
    region_kept (seq rs) c s = bounded_kept s.world (watched_all run rs c s) (rows_kept rs c s)
    region_kept (op o) c s = bind_kept s.world (watched_operation run o c s) (λ u. pure normal) (watched_kept o c s) (λ u s2 e. e)
    region_kept (branch v a b) c s =
        bounded_kept s.world (continued (value_of run v s) (λ x. if is_zero x then watched run b c else watched run a c))
        (branch_kept v s (watched run a c) (watched run b c) (region_kept a c) (region_kept b c))
    region_kept (loop v r) c s =
        bounded_kept s.world (loop_of (suc s.turns) (value_of run v) (watched run r c) s) (loop_kept v (watched run r c) (region_kept r c) (suc s.turns) s)
    region_kept (protect r cl) c s =
        bounded_kept s.world (kept_on (watched run r c s) (watched_cleaned run cl c (watched run r c s)))
        (on_kept {B = Flow} s.world (watched run r c s) (watched_cleaned run cl c (watched run r c s)) (cleaned_kept s.world cl c (watched run r c s) (region_kept r c s)))
    region_kept (catch r cs) c s =
        let x = watched run r (guarded_by (clauses (types_of cs)) c) s in
        bounded_kept s.world (after_try (watched_caught run cs c) x) (try_kept s.world (watched_caught run cs c) x (handlers_kept cs c) (region_kept r (guarded_by (clauses (types_of cs)) c) s))
    region_kept (limit r types) c s =
        let x = watched run r (guarded_by (listed types) c) s in
        bounded_kept s.world (watched_limit run types c x) (limit_kept s.world types c x (region_kept r (guarded_by (listed types) c) s))
    region_kept (barrier r) c s =
        let x = watched run r (guarded_by everything c) s in
        bounded_kept s.world (after_barrier run c x) (barrier_kept s.world c x (region_kept r (guarded_by everything c) s))
    region_kept (leave_region k) c s = λ e. e

    rows_kept : (rs : RegionList) (c : Context) (s : State) → Kept s.world (watched_all run rs c s)
    rows_kept no_regions c s = λ e. e
    rows_kept (region_then r rs) c s =
        bind_kept s.world (watched run r c s) (followed (watched_all run rs c)) (region_kept r c s) (λ flow s2. followed_kept (watched_all run rs c) (rows_kept rs c) flow s2)

    handlers_kept : (cs : Clauses) (c : Context) (x : ℕ) (s : State) → Kept s.world (watched_caught run cs c x s)
    handlers_kept no_clauses c x s = λ e. e
    handlers_kept (clause_then t y r cs) c x s =
        either_kept (matches run.types (type_at s.world x) t) s (λ u. watched run r c (with_object y x u)) (watched_caught run cs c x) (region_kept r c (with_object y x s)) (handlers_kept cs c x s)

-- the parameters of a call change neither
abbrev Untouched : World → World → Type 0
Untouched w v = (v.ending ≡ w.ending) × (v.items ≡ w.items)

passed_untouched : (k : SlotKind) (c s : ℕ) (x : Word) (w : World) → Untouched w (int_passed_to k c s x w)
passed_untouched int_slot c s (number_word v) w = (refl, refl)
passed_untouched int_slot c s nothing w = (refl, refl)
passed_untouched int_slot c s (address_word a) w = (refl, refl)
passed_untouched int_slot c s (flying e t) w = (refl, refl)
passed_untouched int_slot c s (unwinding z) w = (refl, refl)
passed_untouched address_slot c s x w = (refl, refl)
passed_untouched object_slot c s x w = (refl, refl)
passed_untouched help_slot c s x w = (refl, refl)

pub given_untouched : (k : Kinds) (given : List Word) (c s : ℕ) (w : World)
    → ((world_passed k c s given w).ending ≡ w.ending) × ((world_passed k c s given w).items ≡ w.items)
given_untouched k [] c s w = (refl, refl)
given_untouched k (x ∷ given) c s w =
    let later = given_untouched k given c (s + 1) (int_passed_to (k s) c s x w) in
    let now = passed_untouched (k s) c s x w in (later.0 ∙ now.0, later.1 ∙ now.1)

frame_kept : (w : World) (x : Frame) (r : Result ℤ) → Kept w r → Kept w (after_call x r)
frame_kept w x (done v s) h = h
frame_kept w x (stopped y s) h = h

pub call_ending : (p : Regions) (most fuel g : ℕ) (words : List Word) (c : Context) (s : State) → Kept s.world (watched_call p most fuel g words c s)
call_ending p most zero g words c s = λ e. e
call_ending p most (suc fuel) g words c s =
    go (slice_get p.functions g) (record { types = p.types; kinds = kinds_of []; limit = most; call = watched_call p most fuel }) (call_ending p most fuel)
  where
    function_kept : (r : Running) (f : RegionFunction) (c2 : Context) (s2 : State) → ((h : ℕ) (ws : List Word) (d : Context) (s3 : State) → Kept s3.world (r.call h ws d s3))
        → Kept s2.world (watched_function r f words c2 s2)
    function_kept r f c2 s2 calls_keep =
        frame_kept s2.world s2.frame (watched_body (record r { kinds = kinds_of f.slots }) f c2 (called_state (kinds_of f.slots) words c2.depth s2))
        (λ e. bind_kept (called_state (kinds_of f.slots) words c2.depth s2).world (watched (record r { kinds = kinds_of f.slots }) f.body c2 (called_state (kinds_of f.slots) words c2.depth s2)) (λ u. function_result (kinds_of f.slots) f.result)
        (region_kept (record r { kinds = kinds_of f.slots }) calls_keep f.body c2 (called_state (kinds_of f.slots) words c2.depth s2))
        (λ u s3. value_kept (record r { kinds = kinds_of f.slots }) calls_keep (result_in f.result s3.frame s3.world (kinds_of f.slots)) s3) ((given_untouched (kinds_of f.slots) words s2.world.calls 0 s2.world).0 ∙ e))

    spent : (r : Running) (f : RegionFunction) (u : ℕ) → ((h : ℕ) (ws : List Word) (d : Context) (s3 : State) → Kept s3.world (r.call h ws d s3))
        → Kept s.world (continued (spend u s) (λ x. watched_function r f words (record c { depth = c.depth + 1 })))
    spent r f zero h = λ e. e
    spent r f (suc u) h = function_kept r f (record c { depth = c.depth + 1 }) (record s { turns = u }) h

    may_open : (r : Running) (f : RegionFunction) (b : Bool) → ((h : ℕ) (ws : List Word) (d : Context) (s3 : State) → Kept s3.world (r.call h ws d s3))
        → Kept s.world (continued ((if b then stop deep else spend_turn) s) (λ x. watched_function r f words (record c { depth = c.depth + 1 })))
    may_open r f true h = λ e. e
    may_open r f false h = spent r f s.turns h

    go : (o : Option RegionFunction) (r : Running) → ((h : ℕ) (ws : List Word) (d : Context) (s3 : State) → Kept s3.world (r.call h ws d s3)) → Kept s.world (watched_call_of o r words c s)
    go None r h = λ e. e
    go (Some f) r h = may_open r f (nat_le r.limit c.depth) h
