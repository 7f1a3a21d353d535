-- What an operation does in a frame it does in one with more slots.
use Rattle.std.proofs.Common.{◌≡◌, ℕ, ◌+◌, ◌<◌, ◌≤◌, Bool, true, false, List, [], ◌∷◌, Option, Some, None, refl, sym, ap, ◌∙◌, subst, arith}
use Rattle.std.specs.Prelude.{ℤ, pos, negsuc, max, ◌==◌, ◌&&◌, slice_get, slice_set, if◌then◌else◌}
use Rattle.cxx_ast.specs.declared.name.Builtin.TheVariants.{WriteInt, ReadByte, Exit, Module, Cancel, Terminate, SetTerminate, SetUnexpected, Uncaught, BadException}
use Rattle.run_items.specs.declared.item.Item.TheVariants.{Line, Foreign}
use Rattle.meaning_forms.specs.Arithmetic.{truth}
use Rattle.eh_outer.specs.declared.module.Reply.{Reply}
use Rattle.eh_outer.specs.declared.module.Reply.TheVariants.{Value as ValueReply, Raise}
use Rattle.region_forms.specs.Form.{Kinds, Root, in_slot, through, in_global, Place, Callee, defined, builtin, Value, number, load, unary, binary, call_value, Op, evaluate, store, bind, call, construct, destroy, make, throw, rethrow, enter, leave}
use Rattle.region_forms.specs.Caught.{Entry, holds_other}
use Rattle.region_forms.specs.World.{Word, number_word, address_word, Frame, World, foreign, with_slot, with_item, address_in, exception_of, exception_in_slot, exception_at, written}
use Rattle.region_forms.specs.Evaluation.{Location, in_memory, in_frame, slot_location, location_behind, root_location, locate, value_in}
use Rattle.region_forms.specs.Effect.{Effect, goes, calls, raises, terminates, if_some, stored_at, finished, is_full, with_new, number_at, handler_at, byte_of, bytes_after, answered, replied, module_called, called, some_travel, valued, kept, rethrown, is_foreign, entered, enters, effect, only_where}
use Rattle.region_forms.specs.Mentioned.{slots_of_root, slots_of_value, slots_of_arguments, slots_of_op}
use Rattle.linear_forms.specs.Emission.{callee_raises, value_raises, may_raise}
use Rattle.linear_forms.specs.CodeRuns.{SameBelow}
use Rattle.linear_forms.proofs.Slots
use Rattle.linear_simulation.specs.Alike.{Alike, InSlots, want_of, IsOther}
use Rattle.region_forms.specs.Lives.{is_there, is_being_built, can_travel, may_enter}

pub max_left : (a b n : ℕ) → max a b ≤ n → a ≤ n
max_left a b n h = omega (arith, h)

pub max_right : (a b n : ℕ) → max a b ≤ n → b ≤ n
max_right a b n h = omega (arith, h)

pub same_slot : (n s : ℕ) (x : Word) (f g : Frame) → SameBelow n f g → SameBelow n (with_slot s x f) (with_slot s x g)
same_slot n s x f g same = record { call = same.call; slots = λ t lt. ap (λ y. if s == t then x else y) (same.slots t lt) }

module _ (n : ℕ) (k j : Kinds) (kinds : (s : ℕ) → s < n → j s ≡ k s) where
  root_same : (f g : Frame) → SameBelow n f g → (r : Root) (o : ℕ) → slots_of_root r ≤ n → root_location j g r o ≡ root_location k f r o
  root_same f g same (in_slot s) o h =
      ap (λ x. Some (slot_location x g.call s o)) (kinds s (omega (arith, h))) ∙ ap (λ c. Some (slot_location (k s) c s o)) same.call
  root_same f g same (through s) o h = ap (λ x. location_behind o (address_in x)) (same.slots s (omega (arith, h)))
  root_same f g same (in_global m) o h = refl

  where_same : (want : Option Place) (b z : Bool) (x y : Effect) → Alike n want b x y → Alike n want b (only_where z x) (only_where z y)
  where_same want b true x y h = h
  where_same want b false x y h = refl

  stored_same : (want : Option Place) (b : Bool) (l : Location) (v : ℤ) (f g : Frame) (w : World) → SameBelow n f g
      → Alike n want b (stored_at l v f w) (stored_at l v g w)
  stored_same want b (in_memory a) v f g w same = where_same want b (is_there w a.base) (goes f (written a v w)) (goes g (written a v w)) (g, same, refl)
  stored_same want b (in_frame s) v f g w same = (with_slot s (number_word v) g, same_slot n s (number_word v) f g same, refl)

  pub finished_same : (want : Option Place) (b : Bool) (p : Option Place) (v : ℤ) (f g : Frame) (w : World) → InSlots n p → SameBelow n f g
      → Alike n want b (finished k p v f w) (finished j p v g w)
  finished_same want b None v f g w h same = (g, same, refl)
  finished_same want b (Some p) v f g w h same =
      subst (λ x. Alike n want b (if_some (locate k f p) (λ l. stored_at l v f w)) (if_some x (λ l. stored_at l v g w)))
      (sym (root_same f g same p.root p.offset h)) (go (locate k f p))
    where
      go : (x : Option Location) → Alike n want b (if_some x (λ l. stored_at l v f w)) (if_some x (λ l. stored_at l v g w))
      go None = refl
      go (Some l) = stored_same want b l v f g w same

  module _ (f g : Frame) (same : SameBelow n f g) where
    answered_same : (p : Option Place) (h : InSlots n p) (m : ℕ) (x : Reply) (w : World) → Alike n p true (answered k p m x f w) (answered j p m x g w)
    answered_same p h m (ValueReply v) w = finished_same p true p v f g w h same
    answered_same p h m (Raise t) w = go (is_full w)
      where
        go : (b : Bool) → Alike n p true
            (if b then terminates w.installed.terminate_handler w else raises (w.last_number + 1) (with_item (Foreign (w.last_number + 1) m t) (with_new (foreign m t) w)))
            (if b then terminates w.installed.terminate_handler w else raises (w.last_number + 1) (with_item (Foreign (w.last_number + 1) m t) (with_new (foreign m t) w)))
        go true = refl
        go false = (refl, refl)

    replied_same : (p : Option Place) (h : InSlots n p) (m : ℕ) (x : Option (List Reply)) (w : World) → Alike n p true (replied k p m x f w) (replied j p m x g w)
    replied_same p h m None w = finished_same p true p (pos 0) f g w h same
    replied_same p h m (Some []) w = finished_same p true p (pos 0) f g w h same
    replied_same p h m (Some (x ∷ left)) w = answered_same p h m x (record w { replies = slice_set w.replies m left })

    module_same : (p : Option Place) (h : InSlots n p) (v : ℤ) (w : World) → Alike n p true (module_called k p v f w) (module_called j p v g w)
    module_same p h (negsuc m) w = finished_same p true p (pos 0) f g w h same
    module_same p h (pos m) w = replied_same p h m (slice_get w.replies m) w

    called_same : (c : Callee) (p : Option Place) (h : InSlots n p) (given : List Word) (w : World)
        → Alike n p (callee_raises c) (called k c p given f w) (called j c p given g w)
    called_same (defined m) p h given w = (refl, refl, refl)
    called_same (builtin WriteInt) p h given w = finished_same p false p (pos 0) f g (with_item (Line (number_at given 0)) w) h same
    called_same (builtin ReadByte) p h given w = finished_same p false p (byte_of w.input) f g (record w { input = bytes_after w.input }) h same
    called_same (builtin Exit) p h given w = refl
    called_same (builtin Module) p h given w = module_same p h (number_at given 0) w
    called_same (builtin Cancel) p h given w = (refl, refl)
    called_same (builtin Terminate) p h given w = refl
    called_same (builtin SetTerminate) p h given w =
        finished_same p false p (pos 0) f g (record w { installed = record (w.installed) { terminate_handler = handler_at given } }) h same
    called_same (builtin SetUnexpected) p h given w =
        finished_same p false p (pos 0) f g (record w { installed = record (w.installed) { unexpected_handler = handler_at given } }) h same
    called_same (builtin Uncaught) p h given w = finished_same p false p (truth (some_travel w.uncaught)) f g w h same
    called_same (builtin BadException) p h given w = refl

    -- what is computed is the same, so what follows is
    some_same : {A : Type 0} (want : Option Place) (b : Bool) (x y : Option A) (a c : A → Effect) → y ≡ x → ((z : A) → Alike n want b (a z) (c z))
        → Alike n want b (if_some x a) (if_some y c)
    some_same want b x y a c e h = subst (λ z. Alike n want b (if_some x a) (if_some z c)) (sym e) (go x)
      where
        go : (z : Option _) → Alike n want b (if_some z a) (if_some z c)
        go None = refl
        go (Some z) = h z

    simple_same : (p : Option Place) (h : InSlots n p) (b : Bool) (v : Value) (w : World) → slots_of_value v ≤ n
        → Alike n p b (if_some (value_in k f w v) (λ x. finished k p x f w)) (if_some (value_in j g w v) (λ x. finished j p x g w))
    simple_same p h b v w le =
        some_same p b (value_in k f w v) (value_in j g w v) (λ x. finished k p x f w) (λ x. finished j p x g w)
        (Slots.value_same n k j kinds f g same w v le) (λ z. finished_same p b p z f g w h same)

    valued_same : (v : Value) (p : Option Place) (h : InSlots n p) (w : World) → slots_of_value v ≤ n
        → Alike n p (value_raises v) (valued k v p f w) (valued j v p g w)
    valued_same (number z) p h w le = simple_same p h false (number z) w le
    valued_same (load q) p h w le = simple_same p h false (load q) w le
    valued_same (unary o v) p h w le = simple_same p h false (unary o v) w le
    valued_same (binary o a b) p h w le = simple_same p h false (binary o a b) w le
    valued_same (call_value c args) p h w le =
        some_same p (callee_raises c) _ _ (λ given. called k c p given f w) (λ given. called j c p given g w)
        (Slots.words_same n k j kinds f g same w args le) (λ given. called_same c p h given w)

    exception_same : (s : ℕ) → s < n → exception_in_slot g s ≡ exception_in_slot f s
    exception_same s h = ap (λ x. exception_of (address_in x)) (same.slots s h)

    rethrown_same : (caught : List Entry) (w : World) → Alike n None true (rethrown caught w) (rethrown caught w)
    rethrown_same [] w = refl
    rethrown_same (x ∷ xs) w = go x.again
      where
        go : (b : Bool) → Alike n None true (if b then terminates w.installed.terminate_handler w else only_where (can_travel w x.number) (raises x.number w))
            (if b then terminates w.installed.terminate_handler w else only_where (can_travel w x.number) (raises x.number w))
        go true = refl
        go false = where_same None true (can_travel w x.number) (raises x.number w) (raises x.number w) (refl, refl)

    entered_same : (e : ℕ) (w : World) → Alike n None false (enters e f w) (enters e g w)
    entered_same e w = where_same None false (may_enter w e) _ _ (go (is_foreign (exception_at w e) && holds_other e w.caught))
      where
        go : (b : Bool) → Alike n None false (if b then terminates w.installed.terminate_handler w else goes f (entered e w))
            (if b then terminates w.installed.terminate_handler w else goes g (entered e w))
        go true = refl
        go false = (g, same, refl)

    made_same : (s : ℕ) (x : Word) (v w : World) (b : Bool) → Alike n None false
        (if b then terminates w.installed.terminate_handler w else goes (with_slot s x f) v)
        (if b then terminates w.installed.terminate_handler w else goes (with_slot s x g) v)
    made_same s x v w true = refl
    made_same s x v w false = (with_slot s x g, same_slot n s x f g same, refl)

    pub effect_same : (o : Op) (w : World) → IsOther o → slots_of_op o ≤ n → Alike n (want_of o) (may_raise o) (effect k o f w) (effect j o g w)
    effect_same (evaluate v) w i h = valued_same v None tt w h
    effect_same (store p v) w i h =
        valued_same v (Some p) (max_left (slots_of_root p.root) (slots_of_value v) n h) w (max_right (slots_of_root p.root) (slots_of_value v) n h)
    effect_same (bind s p) w i h =
        some_same None false _ _ (λ a. goes (with_slot s (address_word a) f) w) (λ a. goes (with_slot s (address_word a) g) w)
        (Slots.address_same n k j kinds f g same w p (max_right (s + 1) (slots_of_root p.root) n h))
        (λ a. (with_slot s (address_word a) g, same_slot n s (address_word a) f g same, refl))
    effect_same (call c args) w i h =
        some_same None (callee_raises c) _ _ (λ given. called k c None given f w) (λ given. called j c None given g w)
        (Slots.words_same n k j kinds f g same w args h) (λ given. called_same c None tt given w)
    effect_same (construct p m args) w i h =
        some_same None true _ _ (λ a. if_some _ (λ given. calls None m (address_word a ∷ given))) (λ a. if_some _ (λ given. calls None m (address_word a ∷ given)))
        (Slots.address_same n k j kinds f g same w p (max_left (slots_of_root p.root) (slots_of_arguments args) n h))
        (λ a. some_same None true _ _ (λ given. calls None m (address_word a ∷ given)) (λ given. calls None m (address_word a ∷ given))
        (Slots.words_same n k j kinds f g same w args (max_right (slots_of_root p.root) (slots_of_arguments args) n h)) (λ given. (refl, refl, refl)))
    effect_same (destroy p m) w i h =
        some_same None true _ _ (λ a. calls None m (address_word a ∷ [])) (λ a. calls None m (address_word a ∷ []))
        (Slots.address_same n k j kinds f g same w p h) (λ a. (refl, refl, refl))
    effect_same (make s) w i h = made_same s _ _ w (is_full w)
    effect_same (throw s t d) w i h =
        let e = exception_in_slot f s in
        subst (λ q. Alike n None true (only_where (is_being_built w e) (raises e (kept e t d w))) (only_where (is_being_built w q) (raises q (kept q t d w))))
        (sym (exception_same s (omega (arith, h)))) (where_same None true (is_being_built w e) (raises e (kept e t d w)) (raises e (kept e t d w)) (refl, refl))
    effect_same rethrow w i h = rethrown_same w.caught w
    effect_same (enter s) w i h =
        subst (λ e. Alike n None false (enters (exception_in_slot f s) f w) (enters e g w)) (sym (exception_same s (omega (arith, h))))
        (entered_same (exception_in_slot f s) w)
    effect_same leave w i h = absurd i
