-- No operation changes whether terminate has begun with a handler.
use Rattle.std.proofs.Common.{◌≡◌, ℕ, ◌+◌, ℤ, pos, negsuc, Bool, true, false, List, [], ◌∷◌, Option, Some, None, refl, ◌∙◌, if◌then◌else◌}
use Rattle.std.specs.Prelude.{◌&&◌, slice_get}
use Rattle.eh_outer.specs.declared.module.Reply.{Reply}
use Rattle.eh_outer.specs.declared.module.Reply.TheVariants.{Value as ValueReply, Raise}
use Rattle.cxx_ast.specs.declared.name.Builtin.{Builtin}
use Rattle.cxx_ast.specs.declared.name.Builtin.TheVariants.{WriteInt, ReadByte, Exit, Module, Cancel, Terminate, SetTerminate, SetUnexpected, Uncaught, BadException}
use Rattle.region_forms.specs.Form.{Kinds, SlotKind, int_slot, address_slot, object_slot, help_slot, Place, Callee, defined, builtin, Value, number, load, unary, binary, call_value, Op, evaluate, store, bind, call, construct, destroy, make, throw, rethrow, enter, leave}
use Rattle.region_forms.specs.Caught.{Entry, holds_other}
use Rattle.region_forms.specs.Lives.{is_there, is_being_built, can_travel, may_enter}
use Rattle.region_forms.specs.World.{Word, nothing, number_word, address_word, flying, unwinding, Frame, World, written, exception_at, exception_in_slot}
use Rattle.region_forms.specs.Evaluation.{Location, in_memory, in_frame, locate, value_in, words_in, address_of}
use Rattle.region_forms.specs.Effect.{Effect, goes, raises, terminates, cancels, if_some, only_where, kept, entered, is_foreign, stored_at, finished, answered, replied, module_called, built_in, called, valued, rethrown, effect, int_passed_to, world_passed}

-- the world of an effect has it as another
abbrev pub Keeps : World → Effect → Type 0
Keeps w (goes f v) = v.ending ≡ w.ending
Keeps w (raises e v) = v.ending ≡ w.ending
Keeps w (terminates h v) = v.ending ≡ w.ending
Keeps w (cancels z v) = v.ending ≡ w.ending
Keeps w e = Unit {0}

either : (w : World) (b : Bool) (x y : Effect) → Keeps w x → Keeps w y → Keeps w (if b then x else y)
either w true x y h k = h
either w false x y h k = k

some_keeps : {A : Type 0} (w : World) (o : Option A) (next : A → Effect) → ((a : A) → Keeps w (next a)) → Keeps w (if_some o next)
some_keeps w None next h = tt
some_keeps w (Some a) next h = h a

-- what is defined only where a test holds
where_there : (w : World) (b : Bool) (x : Effect) → Keeps w x → Keeps w (only_where b x)
where_there w true x h = h
where_there w false x h = tt

stored_keeps : (w : World) (l : Location) (z : ℤ) (f : Frame) (v : World) → v.ending ≡ w.ending → Keeps w (stored_at l z f v)
stored_keeps w (in_memory a) z f v e = where_there w (is_there v a.base) (goes f (written a z v)) e
stored_keeps w (in_frame s) z f v e = e

pub finished_keeps : (w : World) (kinds : Kinds) (p : Option Place) (z : ℤ) (f : Frame) (v : World) → v.ending ≡ w.ending → Keeps w (finished kinds p z f v)
finished_keeps w kinds None z f v e = e
finished_keeps w kinds (Some p) z f v e = some_keeps w (locate kinds f p) (λ l. stored_at l z f v) (λ l. stored_keeps w l z f v e)

answered_keeps : (w : World) (kinds : Kinds) (p : Option Place) (k : ℕ) (x : Reply) (f : Frame) (v : World) → v.ending ≡ w.ending → Keeps w (answered kinds p k x f v)
answered_keeps w kinds p k (ValueReply z) f v e = finished_keeps w kinds p z f v e
answered_keeps w kinds p k (Raise t) f v e = either w _ (terminates _ _) (raises _ _) e e

replied_keeps : (w : World) (kinds : Kinds) (p : Option Place) (k : ℕ) (x : Option (List Reply)) (f : Frame) (v : World) → v.ending ≡ w.ending → Keeps w (replied kinds p k x f v)
replied_keeps w kinds p k None f v e = finished_keeps w kinds p (pos 0) f v e
replied_keeps w kinds p k (Some []) f v e = finished_keeps w kinds p (pos 0) f v e
replied_keeps w kinds p k (Some (x ∷ others)) f v e = answered_keeps w kinds p k x f _ e

module_keeps : (kinds : Kinds) (p : Option Place) (z : ℤ) (f : Frame) (w : World) → Keeps w (module_called kinds p z f w)
module_keeps kinds p (negsuc k) f w = finished_keeps w kinds p (pos 0) f w refl
module_keeps kinds p (pos k) f w = replied_keeps w kinds p k (slice_get w.replies k) f w refl

built_in_keeps : (kinds : Kinds) (b : Builtin) (p : Option Place) (given : List Word) (f : Frame) (w : World) → Keeps w (built_in kinds b p given f w)
built_in_keeps kinds WriteInt p given f w = finished_keeps w kinds p _ f _ refl
built_in_keeps kinds ReadByte p given f w = finished_keeps w kinds p _ f _ refl
built_in_keeps kinds Exit p given f w = tt
built_in_keeps kinds Module p given f w = module_keeps kinds p _ f w
built_in_keeps kinds Cancel p given f w = refl
built_in_keeps kinds Terminate p given f w = refl
built_in_keeps kinds SetTerminate p given f w = finished_keeps w kinds p _ f _ refl
built_in_keeps kinds SetUnexpected p given f w = finished_keeps w kinds p _ f _ refl
built_in_keeps kinds Uncaught p given f w = finished_keeps w kinds p _ f w refl
built_in_keeps kinds BadException p given f w = tt

called_keeps : (kinds : Kinds) (c : Callee) (p : Option Place) (given : List Word) (f : Frame) (w : World) → Keeps w (called kinds c p given f w)
called_keeps kinds (defined n) p given f w = tt
called_keeps kinds (builtin b) p given f w = built_in_keeps kinds b p given f w

valued_keeps : (kinds : Kinds) (v : Value) (p : Option Place) (f : Frame) (w : World) → Keeps w (valued kinds v p f w)
valued_keeps kinds (call_value c args) p f w = some_keeps w (words_in kinds f w args) (λ given. called kinds c p given f w) (λ given. called_keeps kinds c p given f w)
valued_keeps kinds (number z) p f w = some_keeps w (value_in kinds f w (number z)) (λ x. finished kinds p x f w) (λ x. finished_keeps w kinds p x f w refl)
valued_keeps kinds (load q) p f w = some_keeps w (value_in kinds f w (load q)) (λ x. finished kinds p x f w) (λ x. finished_keeps w kinds p x f w refl)
valued_keeps kinds (unary o v) p f w = some_keeps w (value_in kinds f w (unary o v)) (λ x. finished kinds p x f w) (λ x. finished_keeps w kinds p x f w refl)
valued_keeps kinds (binary o a b) p f w = some_keeps w (value_in kinds f w (binary o a b)) (λ x. finished kinds p x f w) (λ x. finished_keeps w kinds p x f w refl)

rethrown_keeps : (es : List Entry) (w : World) → Keeps w (rethrown es w)
rethrown_keeps [] w = refl
rethrown_keeps (x ∷ xs) w =
    let again = raises x.number w in
    either w x.again (terminates w.installed.terminate_handler w) (only_where (can_travel w x.number) again) refl (where_there w (can_travel w x.number) again refl)

pub effect_keeps : (kinds : Kinds) (o : Op) (f : Frame) (w : World) → Keeps w (effect kinds o f w)
effect_keeps kinds (evaluate v) f w = valued_keeps kinds v None f w
effect_keeps kinds (store p v) f w = valued_keeps kinds v (Some p) f w
effect_keeps kinds (bind s p) f w = some_keeps w (address_of kinds f p) _ (λ a. refl)
effect_keeps kinds (call c args) f w = some_keeps w (words_in kinds f w args) (λ given. called kinds c None given f w) (λ given. called_keeps kinds c None given f w)
effect_keeps kinds (construct p n args) f w = some_keeps w (address_of kinds f p) _ (λ a. some_keeps w (words_in kinds f w args) _ (λ given. tt))
effect_keeps kinds (destroy p n) f w = some_keeps w (address_of kinds f p) _ (λ a. tt)
effect_keeps kinds (make s) f w = either w _ (terminates _ _) (goes _ _) refl refl
effect_keeps kinds (throw s t d) f w = let e = exception_in_slot f s in where_there w (is_being_built w e) (raises e (kept e t d w)) refl
effect_keeps kinds rethrow f w = rethrown_keeps w.caught w
effect_keeps kinds (enter s) f w =
    let e = exception_in_slot f s in
    let stops = is_foreign (exception_at w e) && holds_other e w.caught in
    let terminated = terminates w.installed.terminate_handler w in
    let done = goes f (entered e w) in
    where_there w (may_enter w e) (if stops then terminated else done) (either w stops terminated done refl refl)
effect_keeps kinds leave f w = tt

-- nor does what a call is passed

passed_one : (k : SlotKind) (c s : ℕ) (x : Word) (w : World) → (int_passed_to k c s x w).ending ≡ w.ending
passed_one int_slot c s (number_word v) w = refl
passed_one int_slot c s nothing w = refl
passed_one int_slot c s (address_word a) w = refl
passed_one int_slot c s (flying e t) w = refl
passed_one int_slot c s (unwinding z) w = refl
passed_one address_slot c s x w = refl
passed_one object_slot c s x w = refl
passed_one help_slot c s x w = refl

pub passed_keeps : (kinds : Kinds) (c s : ℕ) (given : List Word) (w : World) → (world_passed kinds c s given w).ending ≡ w.ending
passed_keeps kinds c s [] w = refl
passed_keeps kinds c s (x ∷ given) w = passed_keeps kinds c (s + 1) given (int_passed_to (kinds s) c s x w) ∙ passed_one (kinds s) c s x w
