-- Handlers: the one that is chosen, and what is done in it.
use Rattle.std.proofs.Common.{◌≡◌, ◌∙◌, ℕ, Bool, true, false, List, [], ◌∷◌, Option, Some, None, refl, ap, sym, subst, map, Result as CodeResult}
use Rattle.std.specs.List.{find}
use Rattle.cxx_ast.specs.declared.name.Name.{Name}
use Rattle.cxx_ast.specs.declared.types.Ty.{Ty}
use Rattle.cxx_ast.specs.declared.statement.Handler.{Handler}
use Rattle.cxx_ast.specs.Plain.{Statements}
use Rattle.cxx_ast.specs.View.{statements_of, handlers_of}
use Rattle.meaning_forms.specs.Class.{ObjectType}
use Rattle.meaning_forms.specs.World.{World, Reference, Exception, exception_at, exception_type, type_at}
use Rattle.meaning_forms.specs.Context.{Context, try_block, guarded_by, handling}
use Rattle.meaning_forms.specs.Outcome.{Action, Result, done, stopped, thrown, Flow, pure, continued}
use Rattle.meaning_forms.specs.Guard.{matches}
use Rattle.meaning_forms.specs.Running.{Running}
use Rattle.meaning_forms.specs.Frame.{Frame, with_parameter}
use Rattle.meaning_forms.specs.Scope.{scope}
use Rattle.meaning_forms.specs.Handler.{enter, clauses_of, handle, while_handled, after_handler, destroy_parameter}
use Rattle.meaning_forms.specs.Statement.{statements, caught, after_try}
use Rattle.scope_world.specs.declared.outcome.Halt.{Halt}
use Rattle.scope_world.specs.declared.outcome.Halt.TheVariants.{Thrown, Cancelled, Exited, Aborted, Undefined, OutOfTurns, Deep, NoMemory}
use Rattle.scope_world.specs.declared.outcome.Flow.{Flow as CodeFlow}
use Rattle.scope_world.specs.Gives.{GivesBy, Halts, flow_of}
use Rattle.scope_world.specs.Inward.{clause_in}
use Rattle.scope_flow.specs.Steps.{entered}
use Rattle.scope_meaning.specs.Steps.{handler_done, tried}
use Rattle.scope_flow.proofs.Left.{throws}
use Rattle.scope_flow.proofs.Passing.{halts_continued, gives_by_next}

-- a handler's clause matches an exception
abbrev pub catches : Running → World → ℕ → Handler → Bool
catches r w e h = matches r.program (type_at w e) (clause_in h)

-- a handler of an exception
abbrev pub handled : Running → ℕ → Handler → Frame → Context → Action Flow
handled r e h f c = handle r e h.ty h.name (λ g d. statements r (statements_of h.body.items) g d) f c

first_caught : (r : Running) (x : Handler) (hs : List Handler) (h : Handler) (f : Frame) (c : Context) (e : ℕ) (w : World) (b : Bool) → catches r w e x ≡ b
    → Some h ≡ find (catches r w e) (x ∷ hs) → (Some h ≡ find (catches r w e) hs → caught r (handlers_of hs) f c e w ≡ handled r e h f c w)
    → caught r (handlers_of (x ∷ hs)) f c e w ≡ handled r e h f c w
first_caught r x hs h f c e w true t q ih =
    let found : Some h ≡ Some x = rw t at q in
    let same : h ≡ x = cc found in
    rw t (ap (λ y. handled r e y f c w) (sym same))
first_caught r x hs h f c e w false t q ih = rw t (ih (rw t at q))

-- the first handler that catches it handles an exception
pub caught_by : (r : Running) (hs : List Handler) (h : Handler) (f : Frame) (c : Context) (e : ℕ) (w : World) → Some h ≡ find (catches r w e) hs → caught r (handlers_of hs) f c e w ≡ handled r e h f c w
caught_by r [] h f c e w q = absurd (cc q)
caught_by r (x ∷ hs) h f c e w q = first_caught r x hs h f c e w (catches r w e x) refl q (caught_by r hs h f c e w)

first_passed : (r : Running) (x : Handler) (hs : List Handler) (f : Frame) (c : Context) (e : ℕ) (w : World) (b : Bool) → catches r w e x ≡ b
    → None ≡ find (catches r w e) (x ∷ hs) → (None ≡ find (catches r w e) hs → caught r (handlers_of hs) f c e w ≡ stopped (thrown e) w)
    → caught r (handlers_of (x ∷ hs)) f c e w ≡ stopped (thrown e) w
first_passed r x hs f c e w true t q ih = absurd (cc (rw t at q))
first_passed r x hs f c e w false t q ih = rw t (ih (rw t at q))

-- with none it travels on
pub uncaught : (r : Running) (hs : List Handler) (f : Frame) (c : Context) (e : ℕ) (w : World) → None ≡ find (catches r w e) hs → caught r (handlers_of hs) f c e w ≡ stopped (thrown e) w
uncaught r [] f c e w q = refl
uncaught r (x ∷ hs) f c e w q = first_passed r x hs f c e w (catches r w e x) refl q (uncaught r hs f c e w)

-- the clauses of handlers, one by one
pub clauses_listed : (hs : List Handler) → clauses_of (handlers_of hs) ≡ map clause_in hs
clauses_listed [] = refl
clauses_listed (h ∷ hs) = ap (λ clauses. clause_in h ∷ clauses) (clauses_listed hs)

-- what is no exception is not caught
pub try_passed : (catching : ℕ → Action Flow) (m : Result Flow) (h : Halt) (w : World) → throws h ≡ false → Halts m h w → Halts (after_try catching m) h w
try_passed catching m (Thrown e) w u g = absurd (cc u)
try_passed catching m (Cancelled n) w u g = ap (after_try catching) g
try_passed catching m (Exited n) w u g = ap (after_try catching) g
try_passed catching m Aborted w u g = ap (after_try catching) g
try_passed catching m Undefined w u g = ap (after_try catching) g
try_passed catching m OutOfTurns w u g = ap (after_try catching) g
try_passed catching m Deep w u g = ap (after_try catching) g
try_passed catching m NoMemory w u g = tt

-- what is done in a try block
abbrev trying : Running → Statements → List Handler → Frame → Context → World → Result Flow
trying r body hs f c w = statements r body f (guarded_by (try_block (map clause_in hs)) c) w

-- a try block, from how what is done in it comes out
tried_as : (r : Running) (body : Statements) (hs : List Handler) (f : Frame) (c : Context) (w : World) → tried r body (clauses_of (handlers_of hs)) (handlers_of hs) f c w ≡ after_try (caught r (handlers_of hs) f c) (trying r body hs f c w)
tried_as r body hs f c w = ap (λ clauses. tried r body clauses (handlers_of hs) f c w) (clauses_listed hs)

pub tried_done : (r : Running) (body : Statements) (hs : List Handler) (f : Frame) (c : Context) (w u : World) (flow : Flow) → statements r body f (guarded_by (try_block (map clause_in hs)) c) w ≡ done flow u
    → tried r body (clauses_of (handlers_of hs)) (handlers_of hs) f c w ≡ done flow u
tried_done r body hs f c w u flow e = tried_as r body hs f c w ∙ ap (after_try (caught r (handlers_of hs) f c)) e

-- an exception out of it is caught
pub tried_caught : (r : Running) (body : Statements) (hs : List Handler) (f : Frame) (c : Context) (w u v : World) (n : ℕ) (answer : CodeResult CodeFlow Halt)
    → statements r body f (guarded_by (try_block (map clause_in hs)) c) w ≡ stopped (thrown n) u → GivesBy flow_of (caught r (handlers_of hs) f c n u) answer v
    → GivesBy flow_of (tried r body (clauses_of (handlers_of hs)) (handlers_of hs) f c w) answer v
tried_caught r body hs f c w u v n answer e g =
    subst (λ m. GivesBy flow_of m answer v) (sym (tried_as r body hs f c w ∙ ap (after_try (caught r (handlers_of hs) f c)) e)) g

-- and nothing else is
pub tried_halted : (r : Running) (body : Statements) (hs : List Handler) (f : Frame) (c : Context) (w u : World) (h : Halt)
    → throws h ≡ false → Halts (statements r body f (guarded_by (try_block (map clause_in hs)) c) w) h u → Halts (tried r body (clauses_of (handlers_of hs)) (handlers_of hs) f c w) h u
tried_halted r body hs f c w u h k g =
    subst (λ m. Halts m h u) (sym (tried_as r body hs f c w)) (try_passed (caught r (handlers_of hs) f c) (trying r body hs f c w) h u k g)

then_entered : (m : Result Reference) (act : Action (Unit {0})) (next : Reference → Action Flow)
    → continued m (λ p w. continued (act w) (λ a. next p)) ≡ continued (continued m (λ p w. continued (act w) (λ a. pure p))) next
then_entered (done p w) act next = within (act w)
  where
    within : (m : Result (Unit {0})) → continued m (λ a. next p) ≡ continued (continued m (λ a. pure p)) next
    within (done a w) = refl
    within (stopped s w) = refl
then_entered (stopped s w) act next = refl

-- what a handler does once its exception is entered
abbrev after_entry : Running → ℕ → Option Ty → Option Name → Statements → Frame → Context → Reference → Action Flow
after_entry r e t n ss f c parameter = while_handled r e c (λ d. scope r d (destroy_parameter r t parameter) (statements r ss (with_parameter n parameter f) d))

handle_entered : (r : Running) (e : ℕ) (t : Option Ty) (n : Option Name) (ss : Statements) (f : Frame) (c : Context) (w : World)
    → handle r e t n (λ g d. statements r ss g d) f c w ≡ continued (entered r t e c w) (after_entry r e t n ss f c)
handle_entered r e t n ss f c w = then_entered _ (enter r e c) (after_entry r e t n ss f c)

-- the handler that is found for an exception
pub caught_so : (r : Running) (hs : List Handler) (h : Handler) (f : Frame) (c : Context) (e : ℕ) (w v : World) (x : Exception) (t : Option ObjectType) (found : Option Handler) (answer : CodeResult CodeFlow Halt)
    → x ≡ exception_at w e → t ≡ exception_type x → found ≡ find (λ y. matches r.program t (clause_in y)) hs → found ≡ Some h
    → GivesBy flow_of (handle r e h.ty h.name (λ g d. statements r (statements_of h.body.items) g d) f c w) answer v → GivesBy flow_of (caught r (handlers_of hs) f c e w) answer v
caught_so r hs h f c e w v x t found answer at typed is some g =
    let q : Some h ≡ find (catches r w e) hs = sym some ∙ is ∙ ap (λ s. find (λ y. matches r.program s (clause_in y)) hs) (typed ∙ ap exception_type at) in
    subst (λ m. GivesBy flow_of m answer v) (sym (caught_by r hs h f c e w q)) g

pub not_caught : (r : Running) (hs : List Handler) (f : Frame) (c : Context) (e : ℕ) (w : World) (x : Exception) (t : Option ObjectType) (found : Option Handler)
    → x ≡ exception_at w e → t ≡ exception_type x → found ≡ find (λ y. matches r.program t (clause_in y)) hs → found ≡ None → Halts (caught r (handlers_of hs) f c e w) (Thrown e) w
not_caught r hs f c e w x t found at typed is none =
    uncaught r hs f c e w (sym none ∙ is ∙ ap (λ s. find (λ y. matches r.program s (clause_in y)) hs) (typed ∙ ap exception_type at))

-- a handler, from its entry and its body
pub handled_done : (r : Running) (e : ℕ) (t : Option Ty) (n : Option Name) (ss : Statements) (f : Frame) (c : Context) (w u v : World) (parameter : Reference) (answer : CodeResult CodeFlow Halt)
    → entered r t e c w ≡ done parameter u → GivesBy flow_of (after_handler r e c (handler_done r t n ss parameter f (handling e c) u)) answer v
    → GivesBy flow_of (handle r e t n (λ g d. statements r ss g d) f c w) answer v
handled_done r e t n ss f c w u v parameter answer begun g =
    rw (handle_entered r e t n ss f c w) (gives_by_next flow_of (entered r t e c w) (after_entry r e t n ss f c) parameter u v answer begun g)

-- a handler whose entry is stopped
pub handled_halted : (r : Running) (e : ℕ) (t : Option Ty) (n : Option Name) (ss : Statements) (f : Frame) (c : Context) (w u : World) (h : Halt)
    → Halts (entered r t e c w) h u → Halts (handle r e t n (λ g d. statements r ss g d) f c w) h u
handled_halted r e t n ss f c w u h g = rw (handle_entered r e t n ss f c w) (halts_continued (entered r t e c w) (after_entry r e t n ss f c) h u g)

-- what is no exception
pub not_thrown : (h : Halt) → ((n : ℕ) → h ≡ Thrown n → ⊥) → throws h ≡ false
not_thrown (Thrown n) other = absurd (other n refl)
not_thrown (Cancelled n) other = refl
not_thrown (Exited n) other = refl
not_thrown Aborted other = refl
not_thrown Undefined other = refl
not_thrown OutOfTurns other = refl
not_thrown Deep other = refl
not_thrown NoMemory other = refl
