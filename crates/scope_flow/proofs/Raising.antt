-- Terminate because of an exception, and raising one, from what the evaluator finds of it.
use Rattle.std.proofs.Common.{◌≡◌, ◌∙◌, ℕ, ℤ, Bool, true, false, List, [], ◌∷◌, Option, Some, None, refl, subst, sym}
use Rattle.std.specs.Prelude.{if◌then◌else◌}
use Rattle.run_items.specs.declared.item.Item.TheVariants.{Enter, Make, Foreign}
use Rattle.meaning_forms.specs.Class.{ObjectType, contains}
use Rattle.meaning_forms.specs.Part.{part_type}
use Rattle.meaning_forms.specs.World.{World, Installed, building, native, foreign, exception_at, type_at, object_at, with_exception}
use Rattle.meaning_forms.specs.Context.{Context, handling}
use Rattle.meaning_forms.specs.Outcome.{Action, Result, done, emit, stop, ended, aborted, thrown, Flow, ◌>>=◌, ◌>>◌}
use Rattle.meaning_forms.specs.Guard.{is_doomed}
use Rattle.meaning_forms.specs.Running.{Running}
use Rattle.meaning_forms.specs.Terminate.{terminate, terminate_with, enter_and_terminate, terminate_because}
use Rattle.meaning_forms.specs.Throw.{raise_exception, raise_foreign, after_building, keep, new_exception, throw_new, is_full, rethrow_newest}
use Rattle.scope_world.specs.declared.outcome.Halt.{Halt}
use Rattle.scope_world.specs.declared.outcome.Halt.TheVariants.{Thrown}
use Rattle.scope_world.specs.Gives.{Halts}
use Rattle.scope_flow.specs.Steps.{built, newest}
use Rattle.scope_flow.proofs.Passing.{halts_next}

chosen : {A : Type 0} (b : Bool) (x y : Action A) (w v : World) (h : Halt) → b ≡ true → Halts (x w) h v → Halts ((if b then x else y) w) h v
chosen true x y w v h e g = g
chosen false x y w v h e g = absurd (cc e)

other : {A : Type 0} (b : Bool) (x y : Action A) (w v : World) (h : Halt) → b ≡ false → Halts (y w) h v → Halts ((if b then x else y) w) h v
other false x y w v h e g = g
other true x y w v h e g = absurd (cc e)

-- a native exception is entered, and the handler kept with it is used
pub because_native : (A : Type 0) (r : Running) (e : ℕ) (t : ObjectType) (o : ℕ) (kept : Installed) (c : Context) (w u v : World) (h : Halt)
    → c.ending ≡ false → exception_at w e ≡ native t o kept → emit (Enter e) w ≡ done tt u
    → Halts (terminate_with {A = A} r kept.terminate_handler (handling e c) u) h v → Halts (terminate_because {A = A} r e c w) h v
because_native A r e t o kept c w u v h ending at entered g =
    other {A = A} c.ending (stop (ended aborted)) (enter_and_terminate {A = A} r e (exception_at w e) c) w v h ending
    (subst (λ x. Halts (enter_and_terminate {A = A} r e x c w) h v) (sym at)
    (halts_next (emit (Enter e) w) (λ a. terminate_with {A = A} r kept.terminate_handler (handling e c)) tt u v h entered g))

-- any other is not entered
pub because_building : (A : Type 0) (r : Running) (e : ℕ) (c : Context) (w v : World) (h : Halt) → c.ending ≡ false → exception_at w e ≡ building → Halts (terminate {A = A} r c w) h v → Halts (terminate_because {A = A} r e c w) h v
because_building A r e c w v h ending at g =
    other {A = A} c.ending (stop (ended aborted)) (enter_and_terminate {A = A} r e (exception_at w e) c) w v h ending
    (subst (λ x. Halts (enter_and_terminate {A = A} r e x c w) h v) (sym at) g)

pub because_foreign : (A : Type 0) (r : Running) (e k t : ℕ) (c : Context) (w v : World) (h : Halt) → c.ending ≡ false → exception_at w e ≡ foreign k t → Halts (terminate {A = A} r c w) h v → Halts (terminate_because {A = A} r e c w) h v
because_foreign A r e k t c w v h ending at g =
    other {A = A} c.ending (stop (ended aborted)) (enter_and_terminate {A = A} r e (exception_at w e) c) w v h ending
    (subst (λ x. Halts (enter_and_terminate {A = A} r e x c w) h v) (sym at) g)

-- a doomed exception calls terminate
pub raised_doomed : (A : Type 0) (r : Running) (e : ℕ) (c : Context) (w v : World) (h : Halt)
    → is_doomed r.program c.guards (type_at w e) ≡ true → Halts (terminate_because {A = A} r e c w) h v → Halts (raise_exception {A = A} r e c w) h v
raised_doomed A r e c w v h doomed g = chosen {A = A} (is_doomed r.program c.guards (type_at w e)) (terminate_because {A = A} r e c) (stop (thrown e)) w v h doomed g

-- any other travels
pub raised_thrown : (A : Type 0) (r : Running) (e : ℕ) (c : Context) (w : World) → is_doomed r.program c.guards (type_at w e) ≡ false → Halts (raise_exception {A = A} r e c w) (Thrown e) w
raised_thrown A r e c w doomed = other {A = A} (is_doomed r.program c.guards (type_at w e)) (terminate_because {A = A} r e c) (stop (thrown e)) w w (Thrown e) doomed refl

-- an exception whose object is built is kept and raised
pub built_raised : (r : Running) (e o : ℕ) (c : Context) (m : Result ℕ) (w kept v : World) (h : Halt) → after_building e m ≡ done o w → kept ≡ with_exception w e (native (part_type (object_at w o)) o w.installed)
    → Halts (raise_exception {A = Flow} r e c kept) h v → Halts (built r e c m) h v
built_raised r e o c m w kept v h b k g = rw b (subst (λ z. Halts (raise_exception {A = Flow} r e c z) h v) k g)

-- a new exception whose object is built and which is raised
abbrev pub thrown_anew : {A : Type 0} → Running → Context → Action ℕ → Action A
thrown_anew r c build = new_exception building Make >>= (λ e. (λ w. after_building e (build w)) >>= (λ o. keep e o >> raise_exception r e c))

-- a new foreign exception, which is raised
abbrev pub raised_anew : Running → (k t : ℕ) → Context → Action ℤ
raised_anew r k t c = new_exception (foreign k t) (λ n. Foreign n k t) >>= (λ e. raise_exception r e c)

-- with as many exceptions as may be, terminate is called
pub new_full : (A : Type 0) (r : Running) (c : Context) (build : Action ℕ) (w v : World) (h : Halt) (b : Bool) → b ≡ is_full w → b ≡ true → Halts (terminate {A = A} r c w) h v → Halts (throw_new {A = A} r c build w) h v
new_full A r c build w v h b is full g = chosen {A = A} (is_full w) (terminate {A = A} r c) (thrown_anew {A = A} r c build) w v h (sym is ∙ full) g

-- and else one is made, its object is built, and it is raised
pub new_built : (r : Running) (c : Context) (build : Action ℕ) (e : ℕ) (w u v : World) (h : Halt) (b : Bool) → b ≡ is_full w → b ≡ false → new_exception building Make w ≡ done e u → Halts (built r e c (build u)) h v
    → Halts (throw_new {A = Flow} r c build w) h v
new_built r c build e w u v h b is free made g =
    other {A = Flow} (is_full w) (terminate {A = Flow} r c) (thrown_anew r c build) w v h (sym is ∙ free)
    (halts_next (new_exception building Make w) (λ e x. built r e c (build x)) e u v h made g)

-- a foreign exception
pub foreign_full : (r : Running) (k t : ℕ) (c : Context) (w v : World) (h : Halt) (b : Bool) → b ≡ is_full w → b ≡ true → Halts (terminate {A = ℤ} r c w) h v → Halts (raise_foreign {A = ℤ} r k t c w) h v
foreign_full r k t c w v h b is full g = chosen {A = ℤ} (is_full w) (terminate {A = ℤ} r c) (raised_anew r k t c) w v h (sym is ∙ full) g

pub foreign_raised : (r : Running) (k t e : ℕ) (c : Context) (w u v : World) (h : Halt) (b : Bool) → b ≡ is_full w → b ≡ false → new_exception (foreign k t) (λ n. Foreign n k t) w ≡ done e u → Halts (raise_exception {A = ℤ} r e c u) h v
    → Halts (raise_foreign {A = ℤ} r k t c w) h v
foreign_raised r k t e c w u v h b is free made g =
    other {A = ℤ} (is_full w) (terminate {A = ℤ} r c) (raised_anew r k t c) w v h (sym is ∙ free)
    (halts_next (new_exception (foreign k t) (λ n. Foreign n k t) w) (λ e. raise_exception {A = ℤ} r e c) e u v h made g)

-- the newest handled exception is thrown again
pub thrown_again : (r : Running) (ns : List ℕ) (e : ℕ) (c : Context) (w v : World) (h : Halt) (o : Option ℕ) (b : Bool) → o ≡ newest ns → o ≡ Some e → b ≡ contains c.travelling e → b ≡ false
    → Halts (raise_exception {A = Flow} r e c w) h v → Halts (rethrow_newest {A = Flow} r ns c w) h v
thrown_again r [] e c w v h o b is some at free g = absurd (cc (sym is ∙ some))
thrown_again r (n ∷ ns) e c w v h o b is some at free g =
    let same : Some e ≡ Some n = sym some ∙ is in
    let newest_is : e ≡ n = cc same in
    subst (λ x. Halts (rethrow_newest {A = Flow} r (x ∷ ns) c w) h v) newest_is (other {A = Flow} (contains c.travelling e) (terminate {A = Flow} r c) (raise_exception {A = Flow} r e c) w v h (sym at ∙ free) g)

-- but not while it travels
pub travels_already : (r : Running) (ns : List ℕ) (e : ℕ) (c : Context) (w v : World) (h : Halt) (o : Option ℕ) (b : Bool) → o ≡ newest ns → o ≡ Some e → b ≡ contains c.travelling e → b ≡ true
    → Halts (terminate {A = Flow} r c w) h v → Halts (rethrow_newest {A = Flow} r ns c w) h v
travels_already r [] e c w v h o b is some at on g = absurd (cc (sym is ∙ some))
travels_already r (n ∷ ns) e c w v h o b is some at on g =
    let same : Some e ≡ Some n = sym some ∙ is in
    let newest_is : e ≡ n = cc same in
    subst (λ x. Halts (rethrow_newest {A = Flow} r (x ∷ ns) c w) h v) newest_is (chosen {A = Flow} (contains c.travelling e) (terminate {A = Flow} r c) (raise_exception {A = Flow} r e c) w v h (sym at ∙ on) g)

-- with nothing handled, terminate is called
pub nothing_handled : (r : Running) (ns : List ℕ) (c : Context) (w v : World) (h : Halt) (o : Option ℕ) → o ≡ newest ns → o ≡ None → Halts (terminate {A = Flow} r c w) h v → Halts (rethrow_newest {A = Flow} r ns c w) h v
nothing_handled r [] c w v h o is none g = g
nothing_handled r (n ∷ ns) c w v h o is none g = absurd (cc (sym none ∙ is))
