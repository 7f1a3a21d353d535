-- Only leaving a handler calls the runtime's function for that.
use Rattle.std.proofs.Common.{ℕ, ℤ, pos, negsuc, Bool, true, false, List, [], ◌∷◌, Option, Some, None, if◌then◌else◌}
use Rattle.std.specs.Prelude.{slice_get}
use Rattle.eh_outer.specs.declared.module.Reply.{Reply}
use Rattle.eh_outer.specs.declared.module.Reply.TheVariants.{Value as ValueReply, Raise}
use Rattle.cxx_ast.specs.declared.name.Builtin.{Builtin}
use Rattle.cxx_ast.specs.declared.name.Builtin.TheVariants.{WriteInt, ReadByte, Exit, Module, Cancel, Terminate, SetTerminate, SetUnexpected, Uncaught, BadException}
use Rattle.region_forms.specs.Form.{Kinds, Place, Callee, defined, builtin, Value, number, load, unary, binary, call_value, Op, evaluate, store, bind, call, construct, destroy, make, throw, rethrow, enter, leave}
use Rattle.region_forms.specs.Caught.{Entry}
use Rattle.region_forms.specs.World.{Word, Frame, World}
use Rattle.region_forms.specs.Evaluation.{Location, in_memory, in_frame, locate, value_in, words_in, address_of}
use Rattle.region_forms.specs.Effect.{Effect, goes, raises, terminates, leaves_newest, if_some, only_where, stored_at, finished, answered, replied, module_called, built_in, called, valued, rethrown, effect}

abbrev pub NotLeaving : Effect → Type 0
NotLeaving leaves_newest = ⊥
NotLeaving e = Unit {0}

either : (b : Bool) (x y : Effect) → NotLeaving x → NotLeaving y → NotLeaving (if b then x else y)
either true x y h k = h
either false x y h k = k

some_not : {A : Type 0} (o : Option A) (next : A → Effect) → ((a : A) → NotLeaving (next a)) → NotLeaving (if_some o next)
some_not None next h = tt
some_not (Some a) next h = h a

where_not : (b : Bool) (x : Effect) → NotLeaving x → NotLeaving (only_where b x)
where_not true x h = h
where_not false x h = tt

stored_not : (l : Location) (v : ℤ) (f : Frame) (w : World) → NotLeaving (stored_at l v f w)
stored_not (in_memory a) v f w = where_not _ (goes _ _) tt
stored_not (in_frame s) v f w = tt

pub finished_not : (kinds : Kinds) (p : Option Place) (v : ℤ) (f : Frame) (w : World) → NotLeaving (finished kinds p v f w)
finished_not kinds None v f w = tt
finished_not kinds (Some p) v f w = some_not (locate kinds f p) (λ l. stored_at l v f w) (λ l. stored_not l v f w)

answered_not : (kinds : Kinds) (p : Option Place) (k : ℕ) (x : Reply) (f : Frame) (w : World) → NotLeaving (answered kinds p k x f w)
answered_not kinds p k (ValueReply v) f w = finished_not kinds p v f w
answered_not kinds p k (Raise t) f w = either _ (terminates _ _) (raises _ _) tt tt

replied_not : (kinds : Kinds) (p : Option Place) (k : ℕ) (x : Option (List Reply)) (f : Frame) (w : World) → NotLeaving (replied kinds p k x f w)
replied_not kinds p k None f w = finished_not kinds p (pos 0) f w
replied_not kinds p k (Some []) f w = finished_not kinds p (pos 0) f w
replied_not kinds p k (Some (x ∷ left)) f w = answered_not kinds p k x f _

module_not : (kinds : Kinds) (p : Option Place) (z : ℤ) (f : Frame) (w : World) → NotLeaving (module_called kinds p z f w)
module_not kinds p (negsuc k) f w = finished_not kinds p (pos 0) f w
module_not kinds p (pos k) f w = replied_not kinds p k (slice_get w.replies k) f w

built_in_not : (kinds : Kinds) (b : Builtin) (p : Option Place) (given : List Word) (f : Frame) (w : World) → NotLeaving (built_in kinds b p given f w)
built_in_not kinds WriteInt p given f w = finished_not kinds p _ f _
built_in_not kinds ReadByte p given f w = finished_not kinds p _ f _
built_in_not kinds Exit p given f w = tt
built_in_not kinds Module p given f w = module_not kinds p _ f w
built_in_not kinds Cancel p given f w = tt
built_in_not kinds Terminate p given f w = tt
built_in_not kinds SetTerminate p given f w = finished_not kinds p _ f _
built_in_not kinds SetUnexpected p given f w = finished_not kinds p _ f _
built_in_not kinds Uncaught p given f w = finished_not kinds p _ f _
built_in_not kinds BadException p given f w = tt

called_not : (kinds : Kinds) (c : Callee) (p : Option Place) (given : List Word) (f : Frame) (w : World) → NotLeaving (called kinds c p given f w)
called_not kinds (defined n) p given f w = tt
called_not kinds (builtin b) p given f w = built_in_not kinds b p given f w

valued_not : (kinds : Kinds) (v : Value) (p : Option Place) (f : Frame) (w : World) → NotLeaving (valued kinds v p f w)
valued_not kinds (call_value c args) p f w = some_not (words_in kinds f w args) (λ given. called kinds c p given f w) (λ given. called_not kinds c p given f w)
valued_not kinds (number z) p f w = some_not (value_in kinds f w (number z)) (λ x. finished kinds p x f w) (λ x. finished_not kinds p x f w)
valued_not kinds (load q) p f w = some_not (value_in kinds f w (load q)) (λ x. finished kinds p x f w) (λ x. finished_not kinds p x f w)
valued_not kinds (unary o v) p f w = some_not (value_in kinds f w (unary o v)) (λ x. finished kinds p x f w) (λ x. finished_not kinds p x f w)
valued_not kinds (binary o a b) p f w = some_not (value_in kinds f w (binary o a b)) (λ x. finished kinds p x f w) (λ x. finished_not kinds p x f w)

rethrown_not : (es : List Entry) (w : World) → NotLeaving (rethrown es w)
rethrown_not [] w = tt
rethrown_not (x ∷ xs) w = either x.again (terminates _ _) (only_where _ (raises _ _)) tt (where_not _ (raises _ _) tt)

abbrev pub NotLeave : Op → Type 0
NotLeave leave = ⊥
NotLeave o = Unit {0}

pub effect_not : (kinds : Kinds) (o : Op) (f : Frame) (w : World) → NotLeave o → NotLeaving (effect kinds o f w)
effect_not kinds (evaluate v) f w h = valued_not kinds v None f w
effect_not kinds (store p v) f w h = valued_not kinds v (Some p) f w
effect_not kinds (bind s p) f w h = some_not (address_of kinds f p) _ (λ a. tt)
effect_not kinds (call c args) f w h = some_not (words_in kinds f w args) (λ given. called kinds c None given f w) (λ given. called_not kinds c None given f w)
effect_not kinds (construct p n args) f w h = some_not (address_of kinds f p) _ (λ a. some_not (words_in kinds f w args) _ (λ given. tt))
effect_not kinds (destroy p n) f w h = some_not (address_of kinds f p) _ (λ a. tt)
effect_not kinds (make s) f w h = either _ (terminates _ _) (goes _ _) tt tt
effect_not kinds (throw s t d) f w h = where_not _ (raises _ _) tt
effect_not kinds rethrow f w h = rethrown_not w.caught w
effect_not kinds (enter s) f w h = where_not _ (if _ then terminates _ _ else goes _ _) (either _ (terminates _ _) (goes _ _) tt tt)
effect_not kinds leave f w h = absurd h
