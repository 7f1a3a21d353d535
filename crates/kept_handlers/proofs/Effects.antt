-- What the effect of an operation keeps of handlers.
use Rattle.std.proofs.Common.{◌≡◌, ℕ, ◌+◌, ℤ, pos, negsuc, Bool, true, false, List, [], ◌∷◌, Option, Some, None, refl, ap, if◌then◌else◌, arith}
use Rattle.std.specs.Prelude.{⊤, ◌&&◌, slice_get, slice_set}
use Rattle.eh_outer.specs.declared.module.Reply.{Reply}
use Rattle.eh_outer.specs.declared.module.Reply.TheVariants.{Value as ValueReply, Raise}
use Rattle.cxx_ast.specs.declared.name.Builtin.{Builtin}
use Rattle.cxx_ast.specs.declared.name.Builtin.TheVariants.{WriteInt, ReadByte, Exit, Module, Cancel, Terminate, SetTerminate, SetUnexpected, Uncaught, BadException}
use Rattle.run_items.specs.declared.item.Item.TheVariants.{Make, Foreign}
use Rattle.region_forms.specs.Form.{Kinds, Place, Callee, defined, builtin, Value, number, load, unary, binary, call_value, Arguments, Op, evaluate, store, bind, call, construct, destroy, make, throw, rethrow, enter, leave}
use Rattle.region_forms.specs.Caught.{Entry, holds_other}
use Rattle.region_forms.specs.Lives.{is_there, is_being_built, can_travel, may_enter}
use Rattle.region_forms.specs.World.{Word, address_word, exception_in_slot, Frame, World, building, foreign, exception_at, with_item, with_slot, written}
use Rattle.region_forms.specs.Evaluation.{Location, in_memory, in_frame, locate, value_in, words_in, address_of}
use Rattle.region_forms.specs.Effect.{Effect, goes, calls, raises, terminates, ends, cancels, leaves_newest, meaningless, if_some, only_where, is_full, with_new, kept, entered, is_foreign, stored_at, finished, answered, replied, module_called, built_in, called as called_by, valued, rethrown, effect, bytes_after}
use Rattle.linear_forms.specs.Linear.{plain}
use Rattle.linear_invariant.specs.Handled.{open_handlers}
use Rattle.linear_invariant.proofs.Lists.{few_entered}
use Rattle.kept_handlers.specs.Depths.{opens, leaves}
use Rattle.kept_handlers.proofs.Kept.{Keeps, keeps_then, quiet_keeps, new_keeps, entered_keeps, kept_keeps}

module _ (w : World) where
  -- a world has the older handlers, and so many more than before
  pub record After (more : ℕ) (v : World) : Type 0 where
    pub keeps : Keeps (open_handlers w.caught) w v
    pub count : open_handlers v.caught ≡ open_handlers w.caught + more

  pub after_quiet : (v : World) → v.live ≡ w.live → v.caught ≡ w.caught → After 0 v
  after_quiet v live caught = let same = ap open_handlers caught in record { keeps = quiet_keeps (open_handlers w.caught) w v live caught; count = omega (arith, same) }

  pub as_it_is : After 0 w
  as_it_is = after_quiet w refl refl

  -- an effect opens so many handlers and leaves so many
  abbrev pub Fine : (more left : ℕ) → Effect → Type 0
  Fine more left (goes y v) = After more v × (left ≡ 0)
  Fine more left (calls p n given) = (more ≡ 0) × (left ≡ 0)
  Fine more left (raises e v) = After 0 v
  Fine more left (terminates h v) = ⊤
  Fine more left (ends e v) = ⊤
  Fine more left (cancels z v) = After 0 v
  Fine more left leaves_newest = (more ≡ 0) × (left ≡ 1)
  Fine more left meaningless = ⊤

  abbrev pub Calm : Effect → Type 0
  Calm e = Fine 0 0 e

  some_fine : {A : Type 0} (o : Option A) (next : A → Effect) → ((a : A) → Calm (next a)) → Calm (if_some o next)
  some_fine None next h = tt
  some_fine (Some a) next h = h a

  where_fine : (more : ℕ) (b : Bool) (e : Effect) → (b ≡ true → Fine more 0 e) → Fine more 0 (only_where b e)
  where_fine more true e h = h refl
  where_fine more false e h = tt

  one_fine : (more : ℕ) (b : Bool) (e i : Effect) → Fine more 0 e → Fine more 0 i → Fine more 0 (if b then e else i)
  one_fine more true e i h j = h
  one_fine more false e i h j = j

  module _ (x : Frame) where
    stored_fine : (l : Location) (z : ℤ) (v : World) → v.live ≡ w.live → v.caught ≡ w.caught → Calm (stored_at l z x v)
    stored_fine (in_memory a) z v live caught = where_fine 0 (is_there v a.base) (goes x (written a z v)) (λ there. (after_quiet (written a z v) live caught, refl))
    stored_fine (in_frame s) z v live caught = (after_quiet v live caught, refl)

    pub finished_fine : (ks : Kinds) (o : Option Place) (z : ℤ) (v : World) → v.live ≡ w.live → v.caught ≡ w.caught → Calm (finished ks o z x v)
    finished_fine ks None z v live caught = (after_quiet v live caught, refl)
    finished_fine ks (Some q) z v live caught = some_fine (locate ks x q) (λ l. stored_at l z x v) (λ l. stored_fine l z v live caught)

    answered_fine : (ks : Kinds) (o : Option Place) (i : ℕ) (y : Reply) (v : World) → v.live ≡ w.live → v.caught ≡ w.caught → Calm (answered ks o i y x v)
    answered_fine ks o i (ValueReply z) v live caught = finished_fine ks o z v live caught
    answered_fine ks o i (Raise t) v live caught =
        let most = open_handlers w.caught in
        let n = with_new (foreign i t) v in
        let u = with_item (Foreign (v.last_number + 1) i t) n in
        let keeps = keeps_then most w v u (quiet_keeps most w v live caught) (keeps_then most v n u (new_keeps most (foreign i t) v) (quiet_keeps most n u refl refl)) in
        let same = ap open_handlers caught in
        one_fine 0 (is_full v) (terminates v.installed.terminate_handler v) (raises (v.last_number + 1) u) tt (record { keeps = keeps; count = omega (arith, same) })

    replied_fine : (ks : Kinds) (o : Option Place) (i : ℕ) (ys : Option (List Reply)) → Calm (replied ks o i ys x w)
    replied_fine ks o i None = finished_fine ks o (pos 0) w refl refl
    replied_fine ks o i (Some []) = finished_fine ks o (pos 0) w refl refl
    replied_fine ks o i (Some (y ∷ left)) = answered_fine ks o i y (record w { replies = slice_set w.replies i left }) refl refl

    module_fine : (ks : Kinds) (o : Option Place) (z : ℤ) → Calm (module_called ks o z x w)
    module_fine ks o (negsuc i) = finished_fine ks o (pos 0) w refl refl
    module_fine ks o (pos i) = replied_fine ks o i (slice_get w.replies i)

    built_in_fine : (ks : Kinds) (b : Builtin) (o : Option Place) (given : List Word) → Calm (built_in ks b o given x w)
    built_in_fine ks WriteInt o given = finished_fine ks o (pos 0) _ refl refl
    built_in_fine ks ReadByte o given = finished_fine ks o _ (record w { input = bytes_after w.input }) refl refl
    built_in_fine ks Exit o given = tt
    built_in_fine ks Module o given = module_fine ks o _
    built_in_fine ks Cancel o given = as_it_is
    built_in_fine ks Terminate o given = tt
    built_in_fine ks SetTerminate o given = finished_fine ks o (pos 0) _ refl refl
    built_in_fine ks SetUnexpected o given = finished_fine ks o (pos 0) _ refl refl
    built_in_fine ks Uncaught o given = finished_fine ks o _ w refl refl
    built_in_fine ks BadException o given = tt

    passed_fine : (ks : Kinds) (b : Callee) (args : Arguments) (o : Option Place) → Calm (if_some (words_in ks x w args) (λ given. called_by ks b o given x w))
    passed_fine ks (defined n) args o = some_fine (words_in ks x w args) (λ given. calls o n given) (λ given. (refl, refl))
    passed_fine ks (builtin b) args o = some_fine (words_in ks x w args) (λ given. built_in ks b o given x w) (λ given. built_in_fine ks b o given)

    valued_fine : (ks : Kinds) (v : Value) (o : Option Place) → Calm (valued ks v o x w)
    valued_fine ks (call_value b args) o = passed_fine ks b args o
    valued_fine ks (number z) o = some_fine (value_in ks x w (number z)) (λ y. finished ks o y x w) (λ y. finished_fine ks o y w refl refl)
    valued_fine ks (load q) o = some_fine (value_in ks x w (load q)) (λ y. finished ks o y x w) (λ y. finished_fine ks o y w refl refl)
    valued_fine ks (unary u v) o = some_fine (value_in ks x w (unary u v)) (λ y. finished ks o y x w) (λ y. finished_fine ks o y w refl refl)
    valued_fine ks (binary u a b) o = some_fine (value_in ks x w (binary u a b)) (λ y. finished ks o y x w) (λ y. finished_fine ks o y w refl refl)

    made : After 0 (with_item (Make (w.last_number + 1)) (with_new building w))
    made =
        let most = open_handlers w.caught in
        let n = with_new building w in
        let u = with_item (Make (w.last_number + 1)) n in
        record { keeps = keeps_then most w n u (new_keeps most building w) (quiet_keeps most n u refl refl); count = omega arith }

    rethrown_fine : (ys : List Entry) → Calm (rethrown ys w)
    rethrown_fine [] = tt
    rethrown_fine (y ∷ ys) =
        one_fine 0 y.again (terminates w.installed.terminate_handler w) (only_where (can_travel w y.number) (raises y.number w)) tt (where_fine 0 (can_travel w y.number) (raises y.number w) (λ can. as_it_is))

    pub op_fine : (ks : Kinds) (o : Op) → Fine (opens (plain o)) (leaves (plain o)) (effect ks o x w)
    op_fine ks (evaluate v) = valued_fine ks v None
    op_fine ks (store q v) = valued_fine ks v (Some q)
    op_fine ks (bind s q) = some_fine (address_of ks x q) (λ a. goes (with_slot s (address_word a) x) w) (λ a. (as_it_is, refl))
    op_fine ks (call b args) = passed_fine ks b args None
    op_fine ks (construct q n args) =
        some_fine (address_of ks x q) (λ a. if_some (words_in ks x w args) (λ given. calls None n (address_word a ∷ given)))
        (λ a. some_fine (words_in ks x w args) (λ given. calls None n (address_word a ∷ given)) (λ given. (refl, refl)))
    op_fine ks (destroy q n) = some_fine (address_of ks x q) (λ a. calls None n (address_word a ∷ [])) (λ a. (refl, refl))
    op_fine ks (make s) = one_fine 0 (is_full w) (terminates _ _) (goes _ _) tt (made, refl)
    op_fine ks (throw s t d) =
        let e = exception_in_slot x s in
        where_fine 0 (is_being_built w e) (raises e (kept e t d w)) (λ built. record { keeps = kept_keeps (open_handlers w.caught) e w t d built; count = omega arith })
    op_fine ks rethrow = rethrown_fine w.caught
    op_fine ks (enter s) =
        let e = exception_in_slot x s in
        let stops = is_foreign (exception_at w e) && holds_other e w.caught in
        where_fine 1 (may_enter w e) (if stops then terminates w.installed.terminate_handler w else goes x (entered e w))
        (λ may. one_fine 1 stops (terminates w.installed.terminate_handler w) (goes x (entered e w)) tt (record { keeps = entered_keeps (open_handlers w.caught) e w; count = few_entered e w.caught }, refl))
    op_fine ks leave = (refl, refl)
