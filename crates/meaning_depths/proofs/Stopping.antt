-- No computation is stopped as a call that is too deep, where open calls and turns together are below the limit.
use Rattle.std.specs.Prelude.{ℕ, Bool, true, false, [], ◌∷◌, Option, Some, None, if◌then◌else◌, List, ℤ, pos, negsuc, slice_set}
use Rattle.cxx_ast.specs.declared.types.Ty.{Ty}
use Rattle.cxx_ast.specs.declared.types.Ty.TheVariants.{Int, Object}
use Rattle.cxx_ast.specs.declared.name.Name.{Name}
use Rattle.cxx_ast.specs.Plain.{Specification, listed, noexcept}
use Rattle.eh_outer.specs.declared.module.Reply.{Reply}
use Rattle.eh_outer.specs.declared.module.Reply.TheVariants.{Value, Raise}
use Rattle.run_items.specs.declared.item.Item.TheVariants.{Clean}
use Rattle.meaning_forms.specs.World.{World, Reference, Exception, building, native, foreign, whole, Installed, type_at, without_exception}
use Rattle.meaning_forms.specs.Context.{Context, barrier, guarded_by, handling}
use Rattle.meaning_forms.specs.Outcome.{Action, Result, done, stopped, Stop, End, thrown, cancelled, ended, undefined, out_of_turns, deep, pure, stop, world, continued, ◌>>=◌, ◌>>◌, change, emit, new_object, read_part, read, write}
use Rattle.meaning_forms.specs.Running.{Running, Callee, Argument}
use Rattle.meaning_forms.specs.Terminate.{terminate, terminate_with, run_terminate_handler, after_terminate_handler, enter_and_terminate, terminate_because, after_barrier, behind_barrier}
use Rattle.meaning_forms.specs.Part.{Part, cell, object}
use Rattle.meaning_forms.specs.Throw.{raise_exception, throw_new, rethrow_newest, new_exception, free, after_building, keep, raise_foreign, take_reply, call_module}
use Rattle.meaning_forms.specs.Scope.{unwound, after_scope, scope, after_part, until_complete}
use Rattle.meaning_forms.specs.Construct.{default_object, copy_object, destroy}
use Rattle.meaning_forms.specs.Guard.{allows}
use Rattle.meaning_forms.specs.Statement.{◌then◌}
use Rattle.meaning_forms.specs.Frame.{Frame}
use Rattle.meaning_forms.specs.Handler.{enter, after_destructor, give_back, let_go, while_handled, new_copy, catch_parameter, destroy_parameter, handle, goes_on}
use Rattle.meaning_forms.specs.Specification.{new_bad_exception, pass_on, after_unexpected, run_unexpected_handler, unexpected, after_extent, under_specification, end_noexcept, after_specification}
use Rattle.meaning_forms.specs.Class.{ObjectType, int_type, class_type}
use Rattle.meaning_depths.specs.Shallow.{IsBelow, StopsBelow, ComesBelow, Shallow, CallsAreShallow}

-- nor is what follows a result
pub continued_below : {L : ℕ} {A B : Type 0} (m : Result A) (next : A → Action B) → ComesBelow L m → ((a : A) → Shallow L B (next a)) → ComesBelow L (continued m next)
continued_below (done a w) next h k = (k a).at w h
continued_below (stopped s w) next h k = h

pub bind_below : {L : ℕ} {A B : Type 0} (first : Action A) (next : A → Action B) → Shallow L A first → ((a : A) → Shallow L B (next a)) → Shallow L B (first >>= next)
bind_below first next h k = record { at = λ w l. continued_below (first w) next (h.at w l) k }

pub if_below : {L : ℕ} {A : Type 0} (b : Bool) (x y : Action A) → Shallow L A x → Shallow L A y → Shallow L A (if b then x else y)
if_below true x y h k = h
if_below false x y h k = k

pub thrown_below : {L : ℕ} (A : Type 0) (e : ℕ) → Shallow L A (stop (thrown e))
thrown_below A e = record { at = λ w l. l }

pub cancelled_below : {L : ℕ} (A : Type 0) (n : ℤ) → Shallow L A (stop (cancelled n))
cancelled_below A n = record { at = λ w l. l }

pub ended_below : {L : ℕ} (A : Type 0) (e : End) → Shallow L A (stop (ended e))
ended_below A e = record { at = λ w l. l }

pub undefined_below : {L : ℕ} (A : Type 0) → Shallow L A (stop undefined)
undefined_below A = record { at = λ w l. l }

pub turns_below : {L : ℕ} (A : Type 0) → Shallow L A (stop out_of_turns)
turns_below A = record { at = λ w l. l }

pub world_below : {L : ℕ} → Shallow L World world
world_below = record { at = λ w l. l }

pub emit_below : {L : ℕ} (i : _) → Shallow L (Unit {0}) (emit i)
emit_below i = record { at = λ w l. l }

pub after_terminate_handler_below : (L : ℕ) {A : Type 0} (B : Type 0) (m : Result A) → ComesBelow L m → ComesBelow L (after_terminate_handler {B = B} m)
after_terminate_handler_below L B (done a w) h = h
after_terminate_handler_below L B (stopped (thrown e) w) h = h
after_terminate_handler_below L B (stopped (cancelled e) w) h = h
after_terminate_handler_below L B (stopped s w) h = h

pub run_terminate_handler_below : {L : ℕ} (A : Type 0) (r : Running) (handler : Option ℕ) (c : Context) → CallsAreShallow L r → Shallow L A (run_terminate_handler r handler c)
run_terminate_handler_below A r None c h = search ended_below
run_terminate_handler_below A r (Some f) c h = record { at = λ w l. search (after_terminate_handler_below, h, l) }

pub terminate_with_below : {L : ℕ} (A : Type 0) (r : Running) (handler : Option ℕ) (c : Context) → CallsAreShallow L r → Shallow L A (terminate_with r handler c)
terminate_with_below A r handler c h = search (if_below, ended_below, run_terminate_handler_below)

pub terminate_below : {L : ℕ} (A : Type 0) (r : Running) (c : Context) → CallsAreShallow L r → Shallow L A (terminate r c)
terminate_below A r c h = search (bind_below, world_below, terminate_with_below)

pub enter_and_terminate_below : {L : ℕ} (A : Type 0) (r : Running) (e : ℕ) (x : Exception) (c : Context) → CallsAreShallow L r → Shallow L A (enter_and_terminate r e x c)
enter_and_terminate_below A r e (native t o kept) c h = search (bind_below, emit_below, terminate_with_below)
enter_and_terminate_below A r e _ c h = search terminate_below

pub terminate_because_below : {L : ℕ} (A : Type 0) (r : Running) (e : ℕ) (c : Context) → CallsAreShallow L r → Shallow L A (terminate_because r e c)
terminate_because_below A r e c h = search (bind_below, world_below, if_below, ended_below, enter_and_terminate_below)

pub raise_exception_below : {L : ℕ} (A : Type 0) (r : Running) (e : ℕ) (c : Context) → CallsAreShallow L r → Shallow L A (raise_exception r e c)
raise_exception_below A r e c h = search (bind_below, world_below, if_below, thrown_below, terminate_because_below)

pub pure_below : {L : ℕ} (A : Type 0) (a : A) → Shallow L A (pure a)
pure_below A a = record { at = λ w l. l }

pub new_object_below : {L : ℕ} (a : Part) → Shallow L ℕ (new_object a)
new_object_below a = record { at = λ w l. l }

pub new_exception_below : {L : ℕ} (x : Exception) (item : _) → Shallow L ℕ (new_exception x item)
new_exception_below x item = record { at = λ w l. l }

pub free_below : {L : ℕ} (e : ℕ) → Shallow L (Unit {0}) (free e)
free_below e = record { at = λ w l. l }

pub keep_below : {L : ℕ} (e o : ℕ) → Shallow L (Unit {0}) (keep e o)
keep_below e o = record { at = λ w l. l }

pub write_below : {L : ℕ} (x : Reference) (v : ℤ) → Shallow L (Unit {0}) (write x v)
write_below x v = record { at = λ w l. l }

pub read_part_below : {L : ℕ} (a : Part) → Shallow L ℤ (read_part a)
read_part_below (cell None) = search undefined_below
read_part_below (cell (Some v)) = search pure_below
read_part_below (object k parts) = search undefined_below

pub read_below : {L : ℕ} (x : Reference) → Shallow L ℤ (read x)
read_below x = record { at = λ w. (read_part_below _).at w }

pub after_barrier_below : {L : ℕ} (A : Type 0) (r : Running) (c : Context) (m : Result A) → CallsAreShallow L r → ComesBelow L m → ComesBelow L (after_barrier r c m)
after_barrier_below A r c (stopped (cancelled k) w) h g = (terminate_below A r c h).at w g
after_barrier_below A r c m h g = g

pub behind_barrier_below : {L : ℕ} (A : Type 0) (r : Running) (c : Context) (act : Context → Action A) → CallsAreShallow L r → ((d : Context) → Shallow L A (act d)) → Shallow L A (behind_barrier r c act)
behind_barrier_below A r c act h k = record { at = λ w l. after_barrier_below A r c (act (guarded_by barrier c) w) h ((k (guarded_by barrier c)).at w l) }

pub after_building_below : (L : ℕ) (A : Type 0) (e : ℕ) (m : Result A) → ComesBelow L m → ComesBelow L (after_building e m)
after_building_below L A e (stopped (thrown f) w) g = (free_below e).at w g
after_building_below L A e (stopped (cancelled f) w) g = (free_below e).at w g
after_building_below L A e m g = g

pub building_below : {L : ℕ} (e : ℕ) (build : Action ℕ) → Shallow L ℕ build → Shallow L ℕ (λ w. after_building e (build w))
building_below e build k = record { at = λ w l. after_building_below _ ℕ e (build w) (k.at w l) }

pub throw_new_below : {L : ℕ} (A : Type 0) (r : Running) (c : Context) (build : Action ℕ) → CallsAreShallow L r → Shallow L ℕ build → Shallow L A (throw_new r c build)
throw_new_below A r c build h k =
    search (bind_below, world_below, if_below, terminate_below, new_exception_below, building_below, keep_below, raise_exception_below) depth 9

pub rethrow_below : {L : ℕ} (A : Type 0) (r : Running) (es : List ℕ) (c : Context) → CallsAreShallow L r → Shallow L A (rethrow_newest r es c)
rethrow_below A r [] c h = search terminate_below
rethrow_below A r (e ∷ es) c h = search (if_below, terminate_below, raise_exception_below)

pub unwound_below : {L : ℕ} (A : Type 0) (r : Running) (c : Context) (act : Context → Action (Unit {0})) (s : Stop) (w : World) → CallsAreShallow L r → ((d : Context) → Shallow L (Unit {0}) (act d))
    → StopsBelow L s w → ComesBelow L (unwound {A = A} r c act s w)
unwound_below {L} A r c act (thrown e) w h k g = let p : Shallow L A (unwound r c act (thrown e)) = search (bind_below, behind_barrier_below, thrown_below) in p.at w g
unwound_below {L} A r c act (cancelled n) w h k g = let p : Shallow L A (unwound r c act (cancelled n)) = search (bind_below, behind_barrier_below, cancelled_below) in p.at w g
unwound_below A r c act (ended e) w h k g = g
unwound_below A r c act undefined w h k g = g
unwound_below A r c act out_of_turns w h k g = g
unwound_below A r c act deep w h k g = g

pub after_scope_below : {L : ℕ} (A : Type 0) (r : Running) (c : Context) (act : Context → Action (Unit {0})) (m : Result A) → CallsAreShallow L r → ((d : Context) → Shallow L (Unit {0}) (act d))
    → ComesBelow L m → ComesBelow L (after_scope r c act m)
after_scope_below {L} A r c act (done a w) h k g =
    let p : Shallow L A (act c >> pure a) = search (bind_below, pure_below, k) in p.at w g
after_scope_below A r c act (stopped s w) h k g = unwound_below A r c act s w h k g

pub scope_below : {L : ℕ} (A : Type 0) (r : Running) (c : Context) (act : Context → Action (Unit {0})) (m : Action A) → CallsAreShallow L r → ((d : Context) → Shallow L (Unit {0}) (act d)) → Shallow L A m
    → Shallow L A (scope r c act m)
scope_below A r c act m h k g = record { at = λ w l. after_scope_below A r c act (m w) h k (g.at w l) }

pub after_part_below : {L : ℕ} (A : Type 0) (r : Running) (c : Context) (act : Context → Action (Unit {0})) (m : Result A) → CallsAreShallow L r → ((d : Context) → Shallow L (Unit {0}) (act d))
    → ComesBelow L m → ComesBelow L (after_part r c act m)
after_part_below A r c act (done a w) h k g = g
after_part_below A r c act (stopped s w) h k g = unwound_below A r c act s w h k g

pub until_complete_below : {L : ℕ} (A : Type 0) (r : Running) (c : Context) (act : Context → Action (Unit {0})) (m : Action A) → CallsAreShallow L r → ((d : Context) → Shallow L (Unit {0}) (act d)) → Shallow L A m
    → Shallow L A (until_complete r c act m)
until_complete_below A r c act m h k g = record { at = λ w l. after_part_below A r c act (m w) h k (g.at w l) }

pub call_below : {L : ℕ} (r : Running) (callee : Callee) (this : Reference) (given : List Argument) (c : Context) → CallsAreShallow L r → Shallow L ℤ (r.call callee this given c)
call_below r callee this given c h = record { at = h callee this given c }

pub default_object_below : {L : ℕ} (r : Running) (k : ℕ) (x : Reference) (c : Context) → CallsAreShallow L r → Shallow L (Unit {0}) (default_object r k x c)
default_object_below r k x c h = search (bind_below, call_below, pure_below)

pub copy_object_below : {L : ℕ} (r : Running) (k : ℕ) (x y : Reference) (c : Context) → CallsAreShallow L r → Shallow L (Unit {0}) (copy_object r k x y c)
copy_object_below r k x y c h = search (bind_below, call_below, pure_below)

pub destroy_below : {L : ℕ} (r : Running) (t : ObjectType) (x : Reference) (c : Context) → CallsAreShallow L r → Shallow L (Unit {0}) (destroy r t x c)
destroy_below r int_type x c h = search pure_below
destroy_below r (class_type k) x c h = search (bind_below, call_below, pure_below)

pub raise_foreign_below : {L : ℕ} (A : Type 0) (r : Running) (k t : ℕ) (c : Context) → CallsAreShallow L r → Shallow L A (raise_foreign r k t c)
raise_foreign_below A r k t c h = search (bind_below, world_below, if_below, terminate_below, new_exception_below, raise_exception_below) depth 9

pub change_below : {L : ℕ} (f : World → World) → ((w : World) → IsBelow L w → IsBelow L (f w)) → Shallow L (Unit {0}) (change f)
change_below f keeps = record { at = keeps }

pub take_reply_below : {L : ℕ} (r : Running) (k : ℕ) (o : Option (List Reply)) (c : Context) → CallsAreShallow L r → Shallow L ℤ (take_reply r k o c)
take_reply_below r k None c h = search pure_below
take_reply_below r k (Some []) c h = search pure_below
take_reply_below r k (Some (Value v ∷ left)) c h = bind_below _ _ (change_below (λ w. record w { replies = slice_set w.replies k left }) (λ w l. l)) (λ u. pure_below ℤ v)
take_reply_below r k (Some (Raise t ∷ left)) c h =
    bind_below _ _ (change_below (λ w. record w { replies = slice_set w.replies k left }) (λ w l. l)) (λ u. raise_foreign_below ℤ r k t c h)

pub call_module_below : {L : ℕ} (r : Running) (k : ℤ) (c : Context) → CallsAreShallow L r → Shallow L ℤ (call_module r k c)
call_module_below r (negsuc k) c h = search pure_below
call_module_below r (pos k) c h = search (bind_below, world_below, take_reply_below)

pub enter_below : {L : ℕ} (r : Running) (e : ℕ) (c : Context) → CallsAreShallow L r → Shallow L (Unit {0}) (enter r e c)
enter_below r e c h = search (bind_below, world_below, if_below, terminate_below, emit_below)

pub after_destructor_below : (L : ℕ) (e : ℕ) (m : Result (Unit {0})) → ComesBelow L m → ComesBelow L (after_destructor e m)
after_destructor_below L e (done a w) g = (free_below e).at w g
after_destructor_below L e (stopped (thrown f) w) g = (free_below e).at w g
after_destructor_below L e (stopped (cancelled f) w) g = (free_below e).at w g
after_destructor_below L e (stopped s w) g = g

pub destructor_below : {L : ℕ} (e : ℕ) (act : Action (Unit {0})) → Shallow L (Unit {0}) act → Shallow L (Unit {0}) (λ w. after_destructor e (act w))
destructor_below e act k = record { at = λ w l. after_destructor_below _ e (act w) (k.at w l) }

pub give_back_below : {L : ℕ} (r : Running) (e : ℕ) (x : Exception) (c : Context) → CallsAreShallow L r → Shallow L (Unit {0}) (give_back r e x c)
give_back_below r e building c h = search pure_below
give_back_below r e (native t o kept) c h =
    bind_below _ _ (emit_below _) (λ u. destructor_below e (destroy r t (whole o) c) (destroy_below r t (whole o) c h))
give_back_below r e (foreign k t) c h = bind_below _ _ (emit_below (Clean k t)) (λ u. change_below (λ w. without_exception w e) (λ w l. l))

pub let_go_below : {L : ℕ} (r : Running) (e : ℕ) (kept : Bool) (c : Context) → CallsAreShallow L r → Shallow L (Unit {0}) (let_go r e kept c)
let_go_below r e kept c h = search (bind_below, world_below, emit_below, if_below, pure_below, give_back_below) depth 9

pub while_handled_below : {L : ℕ} (A : Type 0) (r : Running) (e : ℕ) (c : Context) (act : Context → Action A) → CallsAreShallow L r → ((d : Context) → Shallow L A (act d)) → Shallow L A (while_handled r e c act)
while_handled_below A r e c act h k =
    record { at = λ w l. after_scope_below A r c (let_go r e (goes_on e c (act (handling e c) w))) (act (handling e c) w) h (λ d. let_go_below r e _ d h) ((k (handling e c)).at w l) }

pub new_copy_below : {L : ℕ} (r : Running) (k : ℕ) (x : Reference) (c : Context) → CallsAreShallow L r → Shallow L ℕ (new_copy r k x c)
new_copy_below r k x c h = search (bind_below, new_object_below, behind_barrier_below, copy_object_below, pure_below) depth 9

pub catch_parameter_below : {L : ℕ} (r : Running) (t : Option Ty) (x : Reference) (c : Context) → CallsAreShallow L r → Shallow L Reference (catch_parameter r t x c)
catch_parameter_below r None x c h = search pure_below
catch_parameter_below r (Some Int) x c h = search (bind_below, read_below, new_object_below, pure_below)
catch_parameter_below r (Some (Object n)) x c h = search (bind_below, world_below, new_copy_below, pure_below)
catch_parameter_below r (Some t) x c h = search (bind_below, world_below, pure_below)

pub destroy_parameter_below : {L : ℕ} (r : Running) (t : Option Ty) (x : Reference) (c : Context) → CallsAreShallow L r → Shallow L (Unit {0}) (destroy_parameter r t x c)
destroy_parameter_below r (Some (Object n)) x c h = search destroy_below
destroy_parameter_below r t x c h = search pure_below

pub handle_below : {L : ℕ} (A : Type 0) (r : Running) (e : ℕ) (t : Option Ty) (n : Option Name) (body : Frame → Context → Action A) (f : Frame) (c : Context) → CallsAreShallow L r
    → ((g : Frame) (d : Context) → Shallow L A (body g d)) → Shallow L A (handle r e t n body f c)
handle_below A r e t n body f c h k =
    search (bind_below, world_below, catch_parameter_below, enter_below, while_handled_below, scope_below, destroy_parameter_below, k) depth 9

pub new_bad_exception_below : {L : ℕ} (r : Running) (c : Context) → CallsAreShallow L r → Shallow L ℕ (new_bad_exception r c)
new_bad_exception_below r c h = search (bind_below, new_object_below, default_object_below, pure_below)

pub pass_on_below : {L : ℕ} (A : Type 0) (r : Running) (types : List ObjectType) (kept : Installed) (f : ℕ) (c : Context) → CallsAreShallow L r → Shallow L A (pass_on r types kept f c)
pass_on_below A r types kept f c h =
    search (bind_below, world_below, if_below, raise_exception_below, throw_new_below, new_bad_exception_below, terminate_with_below) depth 9

pub after_unexpected_below : {L : ℕ} (A : Type 0) (r : Running) (types : List ObjectType) (kept : Installed) (c : Context) (m : Result ℤ) → CallsAreShallow L r → ComesBelow L m
    → ComesBelow L (after_unexpected {A = A} r types kept c m)
after_unexpected_below A r types kept c (done v w) h g = (terminate_with_below A r kept.terminate_handler c h).at w g
after_unexpected_below {L} A r types kept c (stopped (thrown f) w) h g =
    let p : Shallow L A (enter r f c >> while_handled r f c (pass_on r types kept f)) = search (bind_below, enter_below, while_handled_below, pass_on_below) in
    p.at w g
after_unexpected_below A r types kept c (stopped s w) h g = g

pub run_unexpected_handler_below : {L : ℕ} (A : Type 0) (r : Running) (types : List ObjectType) (kept : Installed) (o : Option ℕ) (c : Context) → CallsAreShallow L r
    → Shallow L A (run_unexpected_handler r types kept o c)
run_unexpected_handler_below A r types kept None c h = search terminate_with_below
run_unexpected_handler_below A r types kept (Some f) c h = record { at = λ w l. search (after_unexpected_below, h, l) }

pub unexpected_below : {L : ℕ} (A : Type 0) (r : Running) (types : List ObjectType) (e : ℕ) (c : Context) → CallsAreShallow L r → Shallow L A (unexpected r types e c)
unexpected_below A r types e c h = search (bind_below, world_below, enter_below, while_handled_below, run_unexpected_handler_below) depth 9

pub after_extent_below : {L : ℕ} (A : Type 0) (r : Running) (types : List ObjectType) (c : Context) (m : Result A) → CallsAreShallow L r → ComesBelow L m
    → ComesBelow L (after_extent r types c m)
after_extent_below {L} A r types c (stopped (thrown e) w) h g =
    let p : Shallow L A (if allows r.program types (type_at w e) then stop (thrown e) else unexpected r types e c) = search (if_below, thrown_below, unexpected_below) in
    p.at w g
after_extent_below A r types c m h g = g

-- what comes out of what is noexcept ends
after_noexcept_below : {L : ℕ} (A : Type 0) (r : Running) (place : ℕ) (b : Bool) (c : Context) (m : Result A) → CallsAreShallow L r → ComesBelow L m
    → ComesBelow L (after_specification r (noexcept place b) c m)
after_noexcept_below {L} A r place b c (stopped (thrown e) w) h g =
    let p : Shallow L A (end_noexcept r c e) = search (bind_below, enter_below, terminate_below) in
    p.at w g
after_noexcept_below A r place b c m h g = g

pub under_specification_below : {L : ℕ} (A : Type 0) (r : Running) (o : Option Specification) (act : Context → Action A) (c : Context) → CallsAreShallow L r → ((d : Context) → Shallow L A (act d))
    → Shallow L A (under_specification r o act c)
under_specification_below A r None act c h k = k c
under_specification_below A r (Some (listed types)) act c h k = record { at = λ w l. after_extent_below A r _ c (act _ w) h ((k _).at w l) }
under_specification_below A r (Some (noexcept place b)) act c h k = record { at = λ w l. after_noexcept_below A r place b c (act _ w) h ((k _).at w l) }
