-- An operation whose effect is a call of a function pays for a turn.
use Rattle.std.proofs.Common.{◌≡◌, ℕ, Bool, true, false, List, [], ◌∷◌, Option, Some, None, refl, sym, ap, ◌∙◌}
use Rattle.std.specs.Prelude.{ℤ, pos, negsuc, ◌&&◌, slice_get, slice_set, if◌then◌else◌}
use Rattle.cxx_ast.specs.declared.name.Builtin.{Builtin}
use Rattle.cxx_ast.specs.declared.name.Builtin.TheVariants.{WriteInt, ReadByte, Exit, Module, Cancel, Terminate, SetTerminate, SetUnexpected, Uncaught, BadException}
use Rattle.run_items.specs.declared.item.Item.TheVariants.{Line}
use Rattle.meaning_forms.specs.Arithmetic.{truth}
use Rattle.eh_outer.specs.declared.module.Reply.{Reply}
use Rattle.eh_outer.specs.declared.module.Reply.TheVariants.{Value as ValueReply, Raise}
use Rattle.region_forms.specs.Form.{Kinds, Place, Callee, defined, builtin, Value, number, load, unary, binary, call_value, Op, evaluate, store, bind, call, construct, destroy, make, throw, rethrow, enter, leave}
use Rattle.region_forms.specs.Caught.{Entry, holds_other}
use Rattle.region_forms.specs.World.{Word, Frame, World, exception_in_slot, exception_at, with_item}
use Rattle.region_forms.specs.Lives.{is_there, is_being_built, can_travel, may_enter}
use Rattle.region_forms.specs.Evaluation.{Location, in_memory, in_frame, locate, value_in, address_of, words_in}
use Rattle.region_forms.specs.Effect.{Effect, goes, calls, raises, terminates, ends, cancels, leaves_newest, meaningless, if_some, only_where, stored_at, finished, is_full, number_at, handler_at, byte_of, bytes_after, answered, replied, module_called, built_in, called, valued, rethrown, is_foreign, enters, effect, some_travel}
use Rattle.linear_forms.specs.Counted.{is_calling}
use Rattle.linear_forms.specs.Pace.{is_defined, is_call, op_pays}
use Rattle.linear_simulation.specs.Alike.{Alike}

-- an effect is no call
abbrev IsNoCall : Effect → Type 0
IsNoCall x = is_calling x ≡ false

where_none : (b : Bool) (x : Effect) → IsNoCall x → IsNoCall (only_where b x)
where_none true x h = h
where_none false x h = refl

some_none : {A : Type 0} (x : Option A) (go : A → Effect) → ((a : A) → IsNoCall (go a)) → IsNoCall (if_some x go)
some_none None go h = refl
some_none (Some a) go h = h a

either_none : (b : Bool) (x y : Effect) → IsNoCall x → IsNoCall y → IsNoCall (if b then x else y)
either_none true x y h k = h
either_none false x y h k = k

stored_none : (l : Location) (v : ℤ) (f : Frame) (w : World) → IsNoCall (stored_at l v f w)
stored_none (in_memory a) v f w = where_none (is_there w a.base) _ refl
stored_none (in_frame s) v f w = refl

module _ (kinds : Kinds) (f : Frame) where
  finished_none : (p : Option Place) (v : ℤ) (w : World) → IsNoCall (finished kinds p v f w)
  finished_none None v w = refl
  finished_none (Some p) v w = some_none (locate kinds f p) _ (λ l. stored_none l v f w)

  answered_none : (p : Option Place) (k : ℕ) (x : Reply) (w : World) → IsNoCall (answered kinds p k x f w)
  answered_none p k (ValueReply v) w = finished_none p v w
  answered_none p k (Raise t) w = either_none (is_full w) _ _ refl refl

  replied_none : (p : Option Place) (k : ℕ) (x : Option (List Reply)) (w : World) → IsNoCall (replied kinds p k x f w)
  replied_none p k None w = finished_none p (pos 0) w
  replied_none p k (Some []) w = finished_none p (pos 0) w
  replied_none p k (Some (x ∷ left)) w = answered_none p k x (record w { replies = slice_set w.replies k left })

  module_none : (p : Option Place) (v : ℤ) (w : World) → IsNoCall (module_called kinds p v f w)
  module_none p (negsuc k) w = finished_none p (pos 0) w
  module_none p (pos k) w = replied_none p k (slice_get w.replies k) w

  built_in_none : (b : Builtin) (p : Option Place) (given : List Word) (w : World) → IsNoCall (built_in kinds b p given f w)
  built_in_none WriteInt p given w = finished_none p (pos 0) (with_item (Line (number_at given 0)) w)
  built_in_none ReadByte p given w = finished_none p (byte_of w.input) (record w { input = bytes_after w.input })
  built_in_none Exit p given w = refl
  built_in_none Module p given w = module_none p (number_at given 0) w
  built_in_none Cancel p given w = refl
  built_in_none Terminate p given w = refl
  built_in_none SetTerminate p given w = finished_none p (pos 0) (record w { installed = record (w.installed) { terminate_handler = handler_at given } })
  built_in_none SetUnexpected p given w = finished_none p (pos 0) (record w { installed = record (w.installed) { unexpected_handler = handler_at given } })
  built_in_none Uncaught p given w = finished_none p (truth (some_travel w.uncaught)) w
  built_in_none BadException p given w = refl

  never : {b c : Bool} → c ≡ false → c ≡ true → b ≡ true
  never h k = let no : true ≡ false = sym k ∙ h in absurd (cc no)

  called_pays : (c : Callee) (p : Option Place) (given : List Word) (w : World) → is_calling (called kinds c p given f w) ≡ true → is_defined c ≡ true
  called_pays (defined n) p given w h = refl
  called_pays (builtin b) p given w h = never (built_in_none b p given w) h

  words_pay : (c : Callee) (p : Option Place) (x : Option (List Word)) (w : World) → is_calling (if_some x (λ given. called kinds c p given f w)) ≡ true → is_defined c ≡ true
  words_pay c p None w h = absurd (cc h)
  words_pay c p (Some given) w h = called_pays c p given w h

  simple_none : (p : Option Place) (x : Option ℤ) (w : World) → IsNoCall (if_some x (λ v. finished kinds p v f w))
  simple_none p x w = some_none x _ (λ v. finished_none p v w)

  valued_pays : (v : Value) (p : Option Place) (w : World) → is_calling (valued kinds v p f w) ≡ true → is_call v ≡ true
  valued_pays (call_value c args) p w h = words_pay c p (words_in kinds f w args) w h
  valued_pays (number z) p w h = never (simple_none p (value_in kinds f w (number z)) w) h
  valued_pays (load q) p w h = never (simple_none p (value_in kinds f w (load q)) w) h
  valued_pays (unary o v) p w h = never (simple_none p (value_in kinds f w (unary o v)) w) h
  valued_pays (binary o a b) p w h = never (simple_none p (value_in kinds f w (binary o a b)) w) h

  rethrown_none : (caught : List Entry) (w : World) → IsNoCall (rethrown caught w)
  rethrown_none [] w = refl
  rethrown_none (x ∷ xs) w = either_none x.again _ _ refl (where_none (can_travel w x.number) _ refl)

  enters_none : (e : ℕ) (w : World) → IsNoCall (enters e f w)
  enters_none e w = where_none (may_enter w e) _ (either_none (is_foreign (exception_at w e) && holds_other e w.caught) _ _ refl refl)

  pub calls_pay : (o : Op) (w : World) → is_calling (effect kinds o f w) ≡ true → op_pays o ≡ true
  calls_pay (evaluate v) w h = valued_pays v None w h
  calls_pay (store p v) w h = valued_pays v (Some p) w h
  calls_pay (bind s p) w h = never (some_none (address_of kinds f p) _ (λ a. refl)) h
  calls_pay (call c args) w h = words_pay c None (words_in kinds f w args) w h
  calls_pay (construct p n args) w h = refl
  calls_pay (destroy p n) w h = refl
  calls_pay (make s) w h = never (either_none (is_full w) _ _ refl refl) h
  calls_pay (throw s t d) w h = never (where_none (is_being_built w (exception_in_slot f s)) _ refl) h
  calls_pay rethrow w h = never (rethrown_none w.caught w) h
  calls_pay (enter s) w h = never (enters_none (exception_in_slot f s) w) h
  calls_pay leave w h = absurd (cc h)

  -- an operation that does not pay is no call
  pub no_call : (o : Op) (w : World) → op_pays o ≡ false → is_calling (effect kinds o f w) ≡ false
  no_call o w h = go (is_calling (effect kinds o f w)) refl
    where
      go : (b : Bool) → is_calling (effect kinds o f w) ≡ b → b ≡ false
      go false e = refl
      go true e = let no : true ≡ false = sym (calls_pay o w e) ∙ h in absurd (cc no)

-- what an operation does that never raises is no call
pub quiet_no_call : (n : ℕ) (want : Option Place) (x y : Effect) → Alike n want false x y → is_calling y ≡ false
quiet_no_call n want (goes f w) y h = ap is_calling h.2
quiet_no_call n want (calls p m given) y h = let no = h.1 in absurd (cc no)
quiet_no_call n want (raises e w) y h = let no = h.0 in absurd (cc no)
quiet_no_call n want (terminates k w) y h = ap is_calling h
quiet_no_call n want (ends e w) y h = ap is_calling h
quiet_no_call n want (cancels z w) y h = let no = h.0 in absurd (cc no)
quiet_no_call n want leaves_newest y h = absurd h
quiet_no_call n want meaningless y h = ap is_calling h
