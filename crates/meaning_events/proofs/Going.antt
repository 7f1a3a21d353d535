-- No computation takes an item back: what it tells comes behind what was told.
use Rattle.std.proofs.Common.{ap, ◌∙◌, sym}
use Rattle.std.specs.Prelude.{◌≡◌, ℕ, Bool, true, false, [], ◌∷◌, Option, Some, None, if◌then◌else◌, List, ℤ, pos, negsuc, refl, ◌+◌, ◌++◌, slice_set}
use Rattle.std.proofs.lemmas.List.{append_assoc, append-nil}
use Rattle.cxx_ast.specs.declared.types.Ty.{Ty}
use Rattle.cxx_ast.specs.declared.types.Ty.TheVariants.{Int, Object}
use Rattle.cxx_ast.specs.declared.name.Name.{Name}
use Rattle.cxx_ast.specs.Plain.{Specification, listed, noexcept}
use Rattle.eh_outer.specs.declared.module.Reply.{Reply}
use Rattle.eh_outer.specs.declared.module.Reply.TheVariants.{Value, Raise}
use Rattle.run_items.specs.declared.item.Item.{Item}
use Rattle.run_items.specs.declared.item.Item.TheVariants.{Free, Clean}
use Rattle.meaning_forms.specs.World.{World, Reference, Exception, building, native, foreign, whole, Installed, type_at, without_exception}
use Rattle.meaning_forms.specs.Context.{Context, barrier, guarded_by, handling}
use Rattle.meaning_forms.specs.Outcome.{Action, Result, done, stopped, Stop, thrown, cancelled, pure, stop, world, continued, ◌>>=◌, ◌>>◌, change, emit, new_object, read_part, read, write}
use Rattle.meaning_forms.specs.Running.{Running, Callee, Argument}
use Rattle.meaning_forms.specs.Terminate.{terminate, terminate_with, run_terminate_handler, after_terminate_handler, enter_and_terminate, terminate_because, after_barrier, behind_barrier}
use Rattle.meaning_forms.specs.Part.{Part, cell, object}
use Rattle.meaning_forms.specs.Throw.{raise_exception, throw_new, rethrow_newest, new_exception, free, after_building, keep, raise_foreign, take_reply, call_module}
use Rattle.meaning_forms.specs.Scope.{unwound, after_scope, scope, after_part, until_complete}
use Rattle.meaning_forms.specs.Construct.{default_object, copy_object, destroy}
use Rattle.meaning_forms.specs.Guard.{allows}
use Rattle.meaning_forms.specs.Statement.{◌then◌}
use Rattle.meaning_forms.specs.Frame.{Frame}
use Rattle.meaning_forms.specs.Handler.{enter, after_destructor, give_back, let_go, while_handled, new_copy, catch_parameter, destroy_parameter, handle, goes_on}
use Rattle.meaning_forms.specs.Specification.{new_bad_exception, pass_on, after_unexpected, run_unexpected_handler, unexpected, after_extent, under_specification, end_noexcept, after_specification}
use Rattle.meaning_forms.specs.Class.{ObjectType, int_type, class_type}
use Rattle.meaning_events.specs.Going.{Follows, items_left, GoesOn, CallsGoOn}

pub follows_same : (xs : List Item) → Follows xs xs
follows_same xs = record { more = []; is = sym (append-nil xs) }

pub follows_as : (xs ys : List Item) → ys ≡ xs → Follows xs ys
follows_as xs ys same = record { more = []; is = same ∙ sym (append-nil xs) }

pub follows_one : (xs : List Item) (i : Item) → Follows xs (xs ++ i ∷ [])
follows_one xs i = record { more = i ∷ []; is = refl }

pub follows_on : {xs ys zs : List Item} → Follows xs ys → Follows ys zs → Follows xs zs
follows_on {xs} h g = record { more = h.more ++ g.more; is = g.is ∙ (ap (λ front. front ++ g.more) h.is ∙ append_assoc xs h.more g.more) }

-- what follows a result tells behind it
pub continued_goes : {A B : Type 0} (n : List Item) (m : Result A) (next : A → Action B) → Follows n (items_left m) → ((a : A) → GoesOn B (next a)) → Follows n (items_left (continued m next))
continued_goes n (done a w) next h k = follows_on h ((k a).at w)
continued_goes n (stopped s w) next h k = h

pub bind_goes : {A B : Type 0} (first : Action A) (next : A → Action B) → GoesOn A first → ((a : A) → GoesOn B (next a)) → GoesOn B (first >>= next)
bind_goes first next h k = record { at = λ w. continued_goes w.items (first w) next (h.at w) k }

pub if_goes : {A : Type 0} (b : Bool) (x y : Action A) → GoesOn A x → GoesOn A y → GoesOn A (if b then x else y)
if_goes true x y h k = h
if_goes false x y h k = k

pub stop_goes : (A : Type 0) (s : Stop) → GoesOn A (stop s)
stop_goes A s = record { at = λ w. follows_same w.items }

pub world_goes : GoesOn World world
world_goes = record { at = λ w. follows_same w.items }

pub emit_goes : (i : _) → GoesOn (Unit {0}) (emit i)
emit_goes i = record { at = λ w. follows_one w.items i }

pub after_terminate_handler_goes : {A : Type 0} (B : Type 0) (n : List Item) (m : Result A) → Follows n (items_left m) → Follows n (items_left (after_terminate_handler {B = B} m))
after_terminate_handler_goes B n (done a w) h = h
after_terminate_handler_goes B n (stopped (thrown e) w) h = h
after_terminate_handler_goes B n (stopped (cancelled e) w) h = h
after_terminate_handler_goes B n (stopped s w) h = h

pub run_terminate_handler_goes : (A : Type 0) (r : Running) (handler : Option ℕ) (c : Context) → CallsGoOn r → GoesOn A (run_terminate_handler r handler c)
run_terminate_handler_goes A r None c h = search stop_goes
run_terminate_handler_goes A r (Some f) c h = record { at = λ w. search (after_terminate_handler_goes, h) }

pub terminate_with_goes : (A : Type 0) (r : Running) (handler : Option ℕ) (c : Context) → CallsGoOn r → GoesOn A (terminate_with r handler c)
terminate_with_goes A r handler c h = search (if_goes, stop_goes, run_terminate_handler_goes)

pub terminate_goes : (A : Type 0) (r : Running) (c : Context) → CallsGoOn r → GoesOn A (terminate r c)
terminate_goes A r c h = search (bind_goes, world_goes, terminate_with_goes)

pub enter_and_terminate_goes : (A : Type 0) (r : Running) (e : ℕ) (x : Exception) (c : Context) → CallsGoOn r → GoesOn A (enter_and_terminate r e x c)
enter_and_terminate_goes A r e (native t o kept) c h = search (bind_goes, emit_goes, terminate_with_goes)
enter_and_terminate_goes A r e _ c h = search terminate_goes

pub terminate_because_goes : (A : Type 0) (r : Running) (e : ℕ) (c : Context) → CallsGoOn r → GoesOn A (terminate_because r e c)
terminate_because_goes A r e c h = search (bind_goes, world_goes, if_goes, stop_goes, enter_and_terminate_goes)

pub raise_exception_goes : (A : Type 0) (r : Running) (e : ℕ) (c : Context) → CallsGoOn r → GoesOn A (raise_exception r e c)
raise_exception_goes A r e c h = search (bind_goes, world_goes, if_goes, stop_goes, terminate_because_goes)

pub pure_goes : (A : Type 0) (a : A) → GoesOn A (pure a)
pure_goes A a = record { at = λ w. follows_same w.items }

pub new_object_goes : (a : Part) → GoesOn ℕ (new_object a)
new_object_goes a = record { at = λ w. follows_same w.items }

pub new_exception_goes : (x : Exception) (item : _) → GoesOn ℕ (new_exception x item)
new_exception_goes x item = record { at = λ w. follows_one w.items (item (w.last_number + 1)) }

pub free_goes : (e : ℕ) → GoesOn (Unit {0}) (free e)
free_goes e = record { at = λ w. follows_one w.items (Free e) }

pub keep_goes : (e o : ℕ) → GoesOn (Unit {0}) (keep e o)
keep_goes e o = record { at = λ w. follows_same w.items }

pub write_goes : (x : Reference) (v : ℤ) → GoesOn (Unit {0}) (write x v)
write_goes x v = record { at = λ w. follows_same w.items }

pub read_part_goes : (a : Part) → GoesOn ℤ (read_part a)
read_part_goes (cell None) = search stop_goes
read_part_goes (cell (Some v)) = search pure_goes
read_part_goes (object k parts) = search stop_goes

pub read_goes : (x : Reference) → GoesOn ℤ (read x)
read_goes x = record { at = λ w. (read_part_goes _).at w }

pub after_barrier_goes : (A : Type 0) (r : Running) (c : Context) (n : List Item) (m : Result A) → CallsGoOn r → Follows n (items_left m) → Follows n (items_left (after_barrier r c m))
after_barrier_goes A r c n (stopped (cancelled k) w) h g = follows_on g ((terminate_goes A r c h).at w)
after_barrier_goes A r c n m h g = g

pub behind_barrier_goes : (A : Type 0) (r : Running) (c : Context) (act : Context → Action A) → CallsGoOn r → ((d : Context) → GoesOn A (act d)) → GoesOn A (behind_barrier r c act)
behind_barrier_goes A r c act h k = record { at = λ w. after_barrier_goes A r c _ (act (guarded_by barrier c) w) h ((k (guarded_by barrier c)).at w) }

pub after_building_goes : (A : Type 0) (e : ℕ) (n : List Item) (m : Result A) → Follows n (items_left m) → Follows n (items_left (after_building e m))
after_building_goes A e n (stopped (thrown f) w) g = follows_on g ((free_goes e).at w)
after_building_goes A e n (stopped (cancelled f) w) g = follows_on g ((free_goes e).at w)
after_building_goes A e n m g = g

pub building_goes : (e : ℕ) (build : Action ℕ) → GoesOn ℕ build → GoesOn ℕ (λ w. after_building e (build w))
building_goes e build k = record { at = λ w. after_building_goes ℕ e _ (build w) (k.at w) }

pub throw_new_goes : (A : Type 0) (r : Running) (c : Context) (build : Action ℕ) → CallsGoOn r → GoesOn ℕ build → GoesOn A (throw_new r c build)
throw_new_goes A r c build h k =
    search (bind_goes, world_goes, if_goes, terminate_goes, new_exception_goes, building_goes, keep_goes, raise_exception_goes) depth 9

pub rethrow_goes : (A : Type 0) (r : Running) (es : List ℕ) (c : Context) → CallsGoOn r → GoesOn A (rethrow_newest r es c)
rethrow_goes A r [] c h = search terminate_goes
rethrow_goes A r (e ∷ es) c h = search (if_goes, terminate_goes, raise_exception_goes)

pub unwound_goes : (A : Type 0) (r : Running) (c : Context) (act : Context → Action (Unit {0})) (s : Stop) → CallsGoOn r → ((d : Context) → GoesOn (Unit {0}) (act d)) → GoesOn A (unwound r c act s)
unwound_goes A r c act (thrown e) h k = search (bind_goes, behind_barrier_goes, stop_goes)
unwound_goes A r c act (cancelled n) h k = search (bind_goes, behind_barrier_goes, stop_goes)
unwound_goes A r c act s h k = search stop_goes

pub after_scope_goes : (A : Type 0) (r : Running) (c : Context) (act : Context → Action (Unit {0})) (n : List Item) (m : Result A) → CallsGoOn r → ((d : Context) → GoesOn (Unit {0}) (act d))
    → Follows n (items_left m) → Follows n (items_left (after_scope r c act m))
after_scope_goes A r c act n (done a w) h k g =
    let p : GoesOn A (act c >> pure a) = search (bind_goes, pure_goes, k) in follows_on g (p.at w)
after_scope_goes A r c act n (stopped s w) h k g = follows_on g ((unwound_goes A r c act s h k).at w)

pub scope_goes : (A : Type 0) (r : Running) (c : Context) (act : Context → Action (Unit {0})) (m : Action A) → CallsGoOn r → ((d : Context) → GoesOn (Unit {0}) (act d)) → GoesOn A m
    → GoesOn A (scope r c act m)
scope_goes A r c act m h k g = record { at = λ w. after_scope_goes A r c act _ (m w) h k (g.at w) }

pub after_part_goes : (A : Type 0) (r : Running) (c : Context) (act : Context → Action (Unit {0})) (n : List Item) (m : Result A) → CallsGoOn r → ((d : Context) → GoesOn (Unit {0}) (act d))
    → Follows n (items_left m) → Follows n (items_left (after_part r c act m))
after_part_goes A r c act n (done a w) h k g = g
after_part_goes A r c act n (stopped s w) h k g = follows_on g ((unwound_goes A r c act s h k).at w)

pub until_complete_goes : (A : Type 0) (r : Running) (c : Context) (act : Context → Action (Unit {0})) (m : Action A) → CallsGoOn r → ((d : Context) → GoesOn (Unit {0}) (act d)) → GoesOn A m
    → GoesOn A (until_complete r c act m)
until_complete_goes A r c act m h k g = record { at = λ w. after_part_goes A r c act _ (m w) h k (g.at w) }

pub call_goes : (r : Running) (callee : Callee) (this : Reference) (given : List Argument) (c : Context) → CallsGoOn r → GoesOn ℤ (r.call callee this given c)
call_goes r callee this given c h = record { at = h callee this given c }

pub default_object_goes : (r : Running) (k : ℕ) (x : Reference) (c : Context) → CallsGoOn r → GoesOn (Unit {0}) (default_object r k x c)
default_object_goes r k x c h = search (bind_goes, call_goes, pure_goes)

pub copy_object_goes : (r : Running) (k : ℕ) (x y : Reference) (c : Context) → CallsGoOn r → GoesOn (Unit {0}) (copy_object r k x y c)
copy_object_goes r k x y c h = search (bind_goes, call_goes, pure_goes)

pub destroy_goes : (r : Running) (t : ObjectType) (x : Reference) (c : Context) → CallsGoOn r → GoesOn (Unit {0}) (destroy r t x c)
destroy_goes r int_type x c h = search pure_goes
destroy_goes r (class_type k) x c h = search (bind_goes, call_goes, pure_goes)

pub raise_foreign_goes : (A : Type 0) (r : Running) (k t : ℕ) (c : Context) → CallsGoOn r → GoesOn A (raise_foreign r k t c)
raise_foreign_goes A r k t c h = search (bind_goes, world_goes, if_goes, terminate_goes, new_exception_goes, raise_exception_goes) depth 9

pub change_goes : (f : World → World) → ((w : World) → (f w).items ≡ w.items) → GoesOn (Unit {0}) (change f)
change_goes f same = record { at = λ w. follows_as w.items (f w).items (same w) }

pub take_reply_goes : (r : Running) (k : ℕ) (o : Option (List Reply)) (c : Context) → CallsGoOn r → GoesOn ℤ (take_reply r k o c)
take_reply_goes r k None c h = search pure_goes
take_reply_goes r k (Some []) c h = search pure_goes
take_reply_goes r k (Some (Value v ∷ left)) c h = bind_goes _ _ (change_goes (λ w. record w { replies = slice_set w.replies k left }) (λ w. refl)) (λ u. pure_goes ℤ v)
take_reply_goes r k (Some (Raise t ∷ left)) c h =
    bind_goes _ _ (change_goes (λ w. record w { replies = slice_set w.replies k left }) (λ w. refl)) (λ u. raise_foreign_goes ℤ r k t c h)

pub call_module_goes : (r : Running) (k : ℤ) (c : Context) → CallsGoOn r → GoesOn ℤ (call_module r k c)
call_module_goes r (negsuc k) c h = search pure_goes
call_module_goes r (pos k) c h = search (bind_goes, world_goes, take_reply_goes)

pub enter_goes : (r : Running) (e : ℕ) (c : Context) → CallsGoOn r → GoesOn (Unit {0}) (enter r e c)
enter_goes r e c h = search (bind_goes, world_goes, if_goes, terminate_goes, emit_goes)

pub after_destructor_goes : (e : ℕ) (n : List Item) (m : Result (Unit {0})) → Follows n (items_left m) → Follows n (items_left (after_destructor e m))
after_destructor_goes e n (done a w) g = follows_on g ((free_goes e).at w)
after_destructor_goes e n (stopped (thrown f) w) g = follows_on g ((free_goes e).at w)
after_destructor_goes e n (stopped (cancelled f) w) g = follows_on g ((free_goes e).at w)
after_destructor_goes e n (stopped s w) g = g

pub destructor_goes : (e : ℕ) (act : Action (Unit {0})) → GoesOn (Unit {0}) act → GoesOn (Unit {0}) (λ w. after_destructor e (act w))
destructor_goes e act k = record { at = λ w. after_destructor_goes e _ (act w) (k.at w) }

pub give_back_goes : (r : Running) (e : ℕ) (x : Exception) (c : Context) → CallsGoOn r → GoesOn (Unit {0}) (give_back r e x c)
give_back_goes r e building c h = search pure_goes
give_back_goes r e (native t o kept) c h =
    bind_goes _ _ (emit_goes _) (λ u. destructor_goes e (destroy r t (whole o) c) (destroy_goes r t (whole o) c h))
give_back_goes r e (foreign k t) c h = bind_goes _ _ (emit_goes (Clean k t)) (λ u. change_goes (λ w. without_exception w e) (λ w. refl))

pub let_go_goes : (r : Running) (e : ℕ) (kept : Bool) (c : Context) → CallsGoOn r → GoesOn (Unit {0}) (let_go r e kept c)
let_go_goes r e kept c h = search (bind_goes, world_goes, emit_goes, if_goes, pure_goes, give_back_goes) depth 9

pub while_handled_goes : (A : Type 0) (r : Running) (e : ℕ) (c : Context) (act : Context → Action A) → CallsGoOn r → ((d : Context) → GoesOn A (act d)) → GoesOn A (while_handled r e c act)
while_handled_goes A r e c act h k =
    record { at = λ w. after_scope_goes A r c (let_go r e (goes_on e c (act (handling e c) w))) _ (act (handling e c) w) h (λ d. let_go_goes r e _ d h) ((k (handling e c)).at w) }

pub new_copy_goes : (r : Running) (k : ℕ) (x : Reference) (c : Context) → CallsGoOn r → GoesOn ℕ (new_copy r k x c)
new_copy_goes r k x c h = search (bind_goes, new_object_goes, behind_barrier_goes, copy_object_goes, pure_goes) depth 9

pub catch_parameter_goes : (r : Running) (t : Option Ty) (x : Reference) (c : Context) → CallsGoOn r → GoesOn Reference (catch_parameter r t x c)
catch_parameter_goes r None x c h = search pure_goes
catch_parameter_goes r (Some Int) x c h = search (bind_goes, read_goes, new_object_goes, pure_goes)
catch_parameter_goes r (Some (Object n)) x c h = search (bind_goes, world_goes, new_copy_goes, pure_goes)
catch_parameter_goes r (Some t) x c h = search (bind_goes, world_goes, pure_goes)

pub destroy_parameter_goes : (r : Running) (t : Option Ty) (x : Reference) (c : Context) → CallsGoOn r → GoesOn (Unit {0}) (destroy_parameter r t x c)
destroy_parameter_goes r (Some (Object n)) x c h = search destroy_goes
destroy_parameter_goes r t x c h = search pure_goes

pub handle_goes : (A : Type 0) (r : Running) (e : ℕ) (t : Option Ty) (n : Option Name) (body : Frame → Context → Action A) (f : Frame) (c : Context) → CallsGoOn r
    → ((g : Frame) (d : Context) → GoesOn A (body g d)) → GoesOn A (handle r e t n body f c)
handle_goes A r e t n body f c h k =
    search (bind_goes, world_goes, catch_parameter_goes, enter_goes, while_handled_goes, scope_goes, destroy_parameter_goes, k) depth 9

pub new_bad_exception_goes : (r : Running) (c : Context) → CallsGoOn r → GoesOn ℕ (new_bad_exception r c)
new_bad_exception_goes r c h = search (bind_goes, new_object_goes, default_object_goes, pure_goes)

pub pass_on_goes : (A : Type 0) (r : Running) (types : List ObjectType) (kept : Installed) (f : ℕ) (c : Context) → CallsGoOn r → GoesOn A (pass_on r types kept f c)
pass_on_goes A r types kept f c h =
    search (bind_goes, world_goes, if_goes, raise_exception_goes, throw_new_goes, new_bad_exception_goes, terminate_with_goes) depth 9

pub after_unexpected_goes : (A : Type 0) (r : Running) (types : List ObjectType) (kept : Installed) (c : Context) (n : List Item) (m : Result ℤ) → CallsGoOn r → Follows n (items_left m)
    → Follows n (items_left (after_unexpected {A = A} r types kept c m))
after_unexpected_goes A r types kept c n (done v w) h g = follows_on g ((terminate_with_goes A r kept.terminate_handler c h).at w)
after_unexpected_goes A r types kept c n (stopped (thrown f) w) h g =
    let p : GoesOn A (enter r f c >> while_handled r f c (pass_on r types kept f)) = search (bind_goes, enter_goes, while_handled_goes, pass_on_goes) in
    follows_on g (p.at w)
after_unexpected_goes A r types kept c n (stopped s w) h g = g

pub run_unexpected_handler_goes : (A : Type 0) (r : Running) (types : List ObjectType) (kept : Installed) (o : Option ℕ) (c : Context) → CallsGoOn r
    → GoesOn A (run_unexpected_handler r types kept o c)
run_unexpected_handler_goes A r types kept None c h = search terminate_with_goes
run_unexpected_handler_goes A r types kept (Some f) c h = record { at = λ w. search (after_unexpected_goes, h) }

pub unexpected_goes : (A : Type 0) (r : Running) (types : List ObjectType) (e : ℕ) (c : Context) → CallsGoOn r → GoesOn A (unexpected r types e c)
unexpected_goes A r types e c h = search (bind_goes, world_goes, enter_goes, while_handled_goes, run_unexpected_handler_goes) depth 9

pub after_extent_goes : (A : Type 0) (r : Running) (types : List ObjectType) (c : Context) (n : List Item) (m : Result A) → CallsGoOn r → Follows n (items_left m)
    → Follows n (items_left (after_extent r types c m))
after_extent_goes A r types c n (stopped (thrown e) w) h g =
    let p : GoesOn A (if allows r.program types (type_at w e) then stop (thrown e) else unexpected r types e c) = search (if_goes, stop_goes, unexpected_goes) in
    follows_on g (p.at w)
after_extent_goes A r types c n m h g = g

-- what comes out of what is noexcept ends
after_noexcept_goes : (A : Type 0) (r : Running) (place : ℕ) (b : Bool) (c : Context) (n : List Item) (m : Result A) → CallsGoOn r → Follows n (items_left m)
    → Follows n (items_left (after_specification r (noexcept place b) c m))
after_noexcept_goes A r place b c n (stopped (thrown e) w) h g =
    let p : GoesOn A (end_noexcept r c e) = search (bind_goes, enter_goes, terminate_goes) in
    follows_on g (p.at w)
after_noexcept_goes A r place b c n m h g = g

pub under_specification_goes : (A : Type 0) (r : Running) (o : Option Specification) (act : Context → Action A) (c : Context) → CallsGoOn r → ((d : Context) → GoesOn A (act d))
    → GoesOn A (under_specification r o act c)
under_specification_goes A r None act c h k = k c
under_specification_goes A r (Some (listed types)) act c h k = record { at = λ w. after_extent_goes A r _ c _ (act _ w) h ((k _).at w) }
under_specification_goes A r (Some (noexcept place b)) act c h k = record { at = λ w. after_noexcept_goes A r place b c _ (act _ w) h ((k _).at w) }
