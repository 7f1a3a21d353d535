-- Entering an exception, its handler's parameter, and giving it back, from what is found of it.
use Rattle.std.proofs.Common.{◌≡◌, ◌∙◌, ℕ, ℤ, Bool, true, false, Option, Some, None, refl, ap, sym, subst, Ok, Result as CodeResult}
use Rattle.std.specs.Prelude.{◌==◌, ◌&&◌, not, if◌then◌else◌}
use Rattle.cxx_ast.specs.declared.name.Name.{Name}
use Rattle.cxx_ast.specs.declared.types.Ty.{Ty}
use Rattle.cxx_ast.specs.declared.types.Ty.TheVariants.{Int, IntRef, Void, Object, ObjectRef}
use Rattle.run_items.specs.declared.item.Item.TheVariants.{Enter, Leave, Destroy}
use Rattle.meaning_forms.specs.Class.{class_named, class_type, int_type, some_of}
use Rattle.meaning_forms.specs.Part.{Part, cell, unset}
use Rattle.meaning_forms.specs.World.{World, Exception, Reference, as_class, exception_at, whole}
use Rattle.meaning_forms.specs.Context.{Context, with_travelling}
use Rattle.meaning_forms.specs.Outcome.{Action, Result, Flow, done, emit, new_object, pure, read, ◌>>=◌, ◌>>◌}
use Rattle.meaning_forms.specs.Running.{Running}
use Rattle.meaning_forms.specs.Frame.{bound_as}
use Rattle.meaning_forms.specs.Terminate.{terminate, behind_barrier}
use Rattle.meaning_forms.specs.Scope.{after_scope}
use Rattle.meaning_forms.specs.Construct.{copy_object, destroy}
use Rattle.meaning_forms.specs.Handler.{enter, is_foreign, give_back, let_go, goes_on, after_handler, after_destructor, new_copy, catch_parameter, destroy_parameter, exception_object}
use Rattle.scope_world.specs.declared.exception.Exception.{Exception as CodeException}
use Rattle.scope_world.specs.declared.exception.Exception.TheVariants as exceptions
use Rattle.scope_world.specs.declared.exception.Installed.{Installed as CodeInstalled}
use Rattle.scope_world.specs.declared.object.ObjectType.{ObjectType as CodeType}
use Rattle.scope_world.specs.declared.outcome.Halt.{Halt}
use Rattle.scope_world.specs.declared.outcome.Flow.{Flow as CodeFlow}
use Rattle.scope_world.specs.Gives.{Gives, GivesBy, Halts, flow_of}
use Rattle.scope_world.specs.Objects.{type_of}
use Rattle.scope_world.specs.Seen.{exception_of}
use Rattle.scope_world.specs.Cleaned.{clean_up}
use Rattle.scope_flow.specs.Steps.{entered}
use Rattle.scope_flow.proofs.Passing.{halts_continued, halts_next, gives_next}

-- entering a foreign exception while another is handled calls terminate
pub enter_refused : (r : Running) (e : ℕ) (c : Context) (w v : World) (h : Halt) (b : Bool) → b ≡ (is_foreign (exception_at w e) && some_of (λ f. not (f == e)) c.handled) → b ≡ true
    → Halts (terminate {A = Unit {0}} r (with_travelling e c) w) h v → Halts (enter r e c w) h v
enter_refused r e c w v h b k t g = subst (λ z. Halts ((if z then terminate {A = Unit {0}} r (with_travelling e c) else emit (Enter e)) w) h v) (sym t ∙ k) g

-- any other is entered
pub enter_done : (r : Running) (e : ℕ) (c : Context) (w v : World) (b : Bool) → b ≡ (is_foreign (exception_at w e) && some_of (λ f. not (f == e)) c.handled) → b ≡ false → emit (Enter e) w ≡ done tt v → enter r e c w ≡ done tt v
enter_done r e c w v b k t g = subst (λ z. (if z then terminate {A = Unit {0}} r (with_travelling e c) else emit (Enter e)) w ≡ done tt v) (sym t ∙ k) g

-- nothing is given back of an exception that is still being built
pub given_building : (r : Running) (e : ℕ) (c : Context) (w : World) (it : CodeException) (x : Exception) → exception_of it ≡ x → it ≡ exceptions.Building → give_back r e x c w ≡ done tt w
given_building r e c w it x at is = subst (λ y. give_back r e y c w ≡ done tt w) (sym (ap exception_of is) ∙ at) refl

-- a native exception is destroyed and freed
pub given_native : (r : Running) (e : ℕ) (c : Context) (w u v : World) (it : CodeException) (x : Exception) (t : CodeType) (o : ℕ) (kept : CodeInstalled) (target : Reference) (answer : CodeResult (Unit {0}) Halt)
    → exception_of it ≡ x → it ≡ exceptions.Native t o kept → emit (Destroy e) w ≡ done tt u → target ≡ whole o
    → Gives (after_destructor e (destroy r (type_of t) target c u)) answer v → Gives (give_back r e x c w) answer v
given_native r e c w u v it x t o kept target answer at is begun whole_is g =
    subst (λ y. Gives (give_back r e y c w) answer v) (sym (ap exception_of is) ∙ at)
    (gives_next (emit (Destroy e) w) (λ a z. after_destructor e (destroy r (type_of t) (whole o) c z)) tt u v answer begun
    (subst (λ y. Gives (after_destructor e (destroy r (type_of t) y c u)) answer v) whole_is g))

-- a foreign one is cleaned up
pub given_foreign : (r : Running) (e : ℕ) (c : Context) (w v : World) (it : CodeException) (x : Exception) (k t : ℕ) → exception_of it ≡ x → it ≡ exceptions.Foreign k t → clean_up e k t w ≡ done tt v → give_back r e x c w ≡ done tt v
given_foreign r e c w v it x k t at is g = subst (λ y. give_back r e y c w ≡ done tt v) (sym (ap exception_of is) ∙ at) g

-- an exception that is kept is left alone
pub left_alone : (r : Running) (e : ℕ) (kept : Bool) (c : Context) (w u : World) → emit (Leave e) w ≡ done tt u → kept ≡ true → let_go r e kept c w ≡ done tt u
left_alone r e kept c w u begun is = subst (λ b. let_go r e b c w ≡ done tt u) (sym is) begun

-- any other is given back
pub left_given : (r : Running) (e : ℕ) (kept : Bool) (c : Context) (w u v : World) (answer : CodeResult (Unit {0}) Halt)
    → emit (Leave e) w ≡ done tt u → kept ≡ false → Gives (give_back r e (exception_at u e) c u) answer v → Gives (let_go r e kept c w) answer v
left_given r e kept c w u v answer begun is g =
    subst (λ b. Gives (let_go r e b c w) answer v) (sym is) (gives_next (emit (Leave e) w) (λ a x. give_back r e (exception_at x e) c x) tt u v answer begun g)

-- leaving an exception, once it is known whether it goes on
pub left_knowing : (r : Running) (e : ℕ) (c : Context) (m : Result Flow) (kept : Bool) (v : World) (answer : CodeResult CodeFlow Halt)
    → kept ≡ goes_on e c m → GivesBy flow_of (after_scope r c (let_go r e kept) m) answer v → GivesBy flow_of (after_handler r e c m) answer v
left_knowing r e c m kept v answer k g = subst (λ b. GivesBy flow_of (after_scope r c (let_go r e b) m) answer v) k g

-- what copies an object into a new one
abbrev copying : Running → ℕ → Reference → Context → ℕ → Action (Unit {0})
copying r k source c o = behind_barrier r c (copy_object r k (whole o) source)

-- an object is copied into a new one
pub copied : (r : Running) (k : ℕ) (source : Reference) (c : Context) (w u v : World) (o : ℕ) (a : Part) (x : Reference)
    → a ≡ unset r.program (class_type k) → new_object a w ≡ done o u → x ≡ whole o → behind_barrier r c (copy_object r k x source) u ≡ done tt v → new_copy r k source c w ≡ done o v
copied r k source c w u v o a x e made at built =
    gives_next (new_object (unset r.program (class_type k)) w) (λ n. copying r k source c n >> pure n) o u v (Ok o) (subst (λ b. new_object b w ≡ done o u) e made)
    (gives_next (copying r k source c o u) (λ b. pure o) tt v v (Ok o) (subst (λ y. behind_barrier r c (copy_object r k y source) u ≡ done tt v) at built) refl)

-- or the copying is stopped
pub copy_halted : (r : Running) (k : ℕ) (source : Reference) (c : Context) (w u v : World) (o : ℕ) (a : Part) (x : Reference) (h : Halt)
    → a ≡ unset r.program (class_type k) → new_object a w ≡ done o u → x ≡ whole o → Halts (behind_barrier r c (copy_object r k x source) u) h v → Halts (new_copy r k source c w) h v
copy_halted r k source c w u v o a x h e made at g =
    halts_next (new_object (unset r.program (class_type k)) w) (λ n. copying r k source c n >> pure n) o u v h (subst (λ b. new_object b w ≡ done o u) e made)
    (halts_continued (copying r k source c o u) (λ b. pure o) h v (subst (λ y. Halts (behind_barrier r c (copy_object r k y source) u) h v) at g))

-- an int parameter has the value of the exception object
pub caught_int : (r : Running) (t : Ty) (source x : Reference) (c : Context) (w v : World) (n : ℤ) (o : ℕ) → t ≡ Int → read source w ≡ done n w → new_object (cell (Some n)) w ≡ done o v → x ≡ whole o → catch_parameter r (Some t) source c w ≡ done x v
caught_int r t source x c w v n o is value made at =
    subst (λ s. catch_parameter r (Some s) source c w ≡ done x v) (sym is)
    (gives_next (read source w) (λ m. new_object (cell (Some m)) >>= (λ p. pure (whole p))) n w v (Ok x) value
    (gives_next (new_object (cell (Some n)) w) (λ p. pure (whole p)) o v v (Ok x) made (ap (λ y. done y v) (sym at))))

-- what is left of a copied parameter once its object is there
abbrev copied_in : ℕ → Action Reference
copied_in o = pure (whole o)

-- a parameter of a class is a copy
pub caught_copy : (r : Running) (t : Ty) (source x y : Reference) (c : Context) (w v : World) (n : Name) (k o : ℕ) → t ≡ Object n → k ≡ class_named n → y ≡ as_class w k source → new_copy r k y c w ≡ done o v → x ≡ whole o
    → catch_parameter r (Some t) source c w ≡ done x v
caught_copy r t source x y c w v n k o is class base made at =
    subst (λ s. catch_parameter r (Some s) source c w ≡ done x v) (sym is)
    (subst (λ j. (new_copy r j (as_class w j source) c >>= copied_in) w ≡ done x v) class
    (subst (λ z. (new_copy r k z c >>= copied_in) w ≡ done x v) base (gives_next (new_copy r k y c w) copied_in o v v (Ok x) made (ap (λ z. done z v) (sym at)))))

pub copy_stopped : (r : Running) (t : Ty) (source y : Reference) (c : Context) (w v : World) (n : Name) (k : ℕ) (h : Halt) → t ≡ Object n → k ≡ class_named n → y ≡ as_class w k source → Halts (new_copy r k y c w) h v
    → Halts (catch_parameter r (Some t) source c w) h v
copy_stopped r t source y c w v n k h is class base g =
    subst (λ s. Halts (catch_parameter r (Some s) source c w) h v) (sym is)
    (subst (λ j. Halts ((new_copy r j (as_class w j source) c >>= copied_in) w) h v) class
    (subst (λ z. Halts ((new_copy r k z c >>= copied_in) w) h v) base (halts_continued (new_copy r k y c w) copied_in h v g)))

-- a parameter of another type than int or a class names the exception object or its base
pub caught_bound : (r : Running) (t : Ty) (source x : Reference) (c : Context) (w : World) → (t ≡ Int → ⊥) → ((n : Name) → t ≡ Object n → ⊥) → x ≡ bound_as w t source → catch_parameter r (Some t) source c w ≡ done x w
caught_bound r Int source x c w i k e = absurd (i refl)
caught_bound r (Object n) source x c w i k e = absurd (k n refl)
caught_bound r (IntRef b) source x c w i k e = ap (λ y. done y w) (sym e)
caught_bound r (ObjectRef b n) source x c w i k e = ap (λ y. done y w) (sym e)
caught_bound r Void source x c w i k e = ap (λ y. done y w) (sym e)

-- and is not destroyed
pub not_destroyed_so : (r : Running) (t : Option Ty) (x : Reference) → ((n : Name) → t ≡ Some (Object n) → ⊥) → destroy_parameter r t x ≡ destroy r int_type x
not_destroyed_so r None x k = refl
not_destroyed_so r (Some Int) x k = refl
not_destroyed_so r (Some (Object n)) x k = absurd (k n refl)
not_destroyed_so r (Some (IntRef b)) x k = refl
not_destroyed_so r (Some (ObjectRef b n)) x k = refl
not_destroyed_so r (Some Void) x k = refl

-- what is left of an entry once the parameter is made
abbrev entering : Running → ℕ → Context → Reference → Action Reference
entering r e c parameter = enter r e c >> pure parameter

-- the parameter of the handler of an exception
parameter_at : (r : Running) (t : Option Ty) (e : ℕ) (c : Context) (w : World) (source : Reference) (x : Exception) → source ≡ exception_object x → x ≡ exception_at w e
    → catch_parameter r t source (with_travelling e c) w ≡ catch_parameter r t (exception_object (exception_at w e)) (with_travelling e c) w
parameter_at r t e c w source x from at = ap (λ y. catch_parameter r t y (with_travelling e c) w) (from ∙ ap exception_object at)

pub entered_done : (r : Running) (t : Option Ty) (e : ℕ) (c : Context) (w u v : World) (source parameter : Reference) (x : Exception) → source ≡ exception_object x → x ≡ exception_at w e
    → catch_parameter r t source (with_travelling e c) w ≡ done parameter u → enter r e c u ≡ done tt v → entered r t e c w ≡ done parameter v
entered_done r t e c w u v source parameter x from at made begun =
    gives_next (catch_parameter r t (exception_object (exception_at w e)) (with_travelling e c) w) (entering r e c) parameter u v (Ok parameter) (sym (parameter_at r t e c w source x from at) ∙ made)
    (gives_next (enter r e c u) (λ a. pure parameter) tt v v (Ok parameter) begun refl)

pub entry_halted : (r : Running) (t : Option Ty) (e : ℕ) (c : Context) (w u v : World) (source parameter : Reference) (x : Exception) (h : Halt) → source ≡ exception_object x → x ≡ exception_at w e
    → catch_parameter r t source (with_travelling e c) w ≡ done parameter u → Halts (enter r e c u) h v → Halts (entered r t e c w) h v
entry_halted r t e c w u v source parameter x h from at made g =
    halts_next (catch_parameter r t (exception_object (exception_at w e)) (with_travelling e c) w) (entering r e c) parameter u v h (sym (parameter_at r t e c w source x from at) ∙ made)
    (halts_continued (enter r e c u) (λ a. pure parameter) h v g)

pub parameter_halted : (r : Running) (t : Option Ty) (e : ℕ) (c : Context) (w u : World) (source : Reference) (x : Exception) (h : Halt) → source ≡ exception_object x → x ≡ exception_at w e
    → Halts (catch_parameter r t source (with_travelling e c) w) h u → Halts (entered r t e c w) h u
parameter_halted r t e c w u source x h from at g =
    halts_continued (catch_parameter r t (exception_object (exception_at w e)) (with_travelling e c) w) (entering r e c) h u (subst (λ m. Halts m h u) (parameter_at r t e c w source x from at) g)
