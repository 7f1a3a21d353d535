-- Statements, from their parts: what is assigned, tested and declared.
use Rattle.std.proofs.Common.{◌≡◌, ◌∙◌, ℕ, zero, suc, ℤ, pos, negsuc, true, false, List, ◌∷◌, Option, refl, ap, sym, subst, Ok, Result as CodeResult}
use Rattle.std.specs.Prelude.{if◌then◌else◌}
use Rattle.cxx_ast.specs.declared.name.Name.{Name}
use Rattle.cxx_ast.specs.declared.types.Param.{Param}
use Rattle.cxx_ast.specs.Plain.{Checked, Expression, Expressions, Statement, if_else, local_int, local_object, local_ref, Statements, no_statements, statement_then, Else, no_else, else_do}
use Rattle.meaning_forms.specs.Arithmetic.{is_zero}
use Rattle.meaning_forms.specs.Class.{class_named, class_type}
use Rattle.meaning_forms.specs.Part.{Part, unset}
use Rattle.meaning_forms.specs.World.{World, Reference, whole, written}
use Rattle.meaning_forms.specs.Context.{Context}
use Rattle.meaning_forms.specs.Outcome.{Action, Flow, done, new_object, normal, pure, write, ◌>>◌}
use Rattle.meaning_forms.specs.Running.{Running}
use Rattle.meaning_forms.specs.Frame.{Frame, Variable, bound_as, local_number, lvalue, with_parameter, with_variable}
use Rattle.meaning_forms.specs.Scope.{after_scope, scope}
use Rattle.meaning_forms.specs.Construct.{destroy}
use Rattle.meaning_forms.specs.Handler.{destroy_parameter}
use Rattle.meaning_forms.specs.Expression.{construct, value_of}
use Rattle.meaning_forms.specs.Statement.{local_cell, otherwise, statement, statements}
use Rattle.cxx_ast.specs.declared.types.Ty.{Ty}
use Rattle.scope_world.specs.declared.outcome.Halt.{Halt}
use Rattle.scope_world.specs.declared.outcome.Flow.{Flow as CodeFlow}
use Rattle.scope_world.specs.declared.outcome.Flow.TheVariants as flows
use Rattle.scope_world.specs.Gives.{GivesBy, Halts, flow_of}
use Rattle.scope_meaning.specs.Steps.{assigned, handler_done, object_scoped, plainly}
use Rattle.scope_flow.proofs.Passing.{halts_continued, halts_next, gives_next, gives_by_next}

-- an int is assigned
pub assigned_so : (r : Running) (names : List Name) (e : Expression) (f : Frame) (c : Context) (w u v : World) (n : ℤ) (x : Reference) → value_of r f e c w ≡ done n u → x ≡ lvalue r.program u f names → v ≡ written u x n
    → assigned r names e f c w ≡ done normal v
assigned_so r names e f c w u v n x given at s =
    gives_next (value_of r f e c w) (λ m z. (write (lvalue r.program z f names) m >> pure normal) z) n u v (Ok normal) given
    (subst (λ y. (write y n >> pure normal) u ≡ done normal v) at (ap (λ z. done normal z) (sym s)))

-- what is 0, and what is not
pub zero_is : (n : ℤ) → n ≡ pos 0 → is_zero n ≡ true
zero_is n e = ap is_zero e

pub zero_is_not : (n : ℤ) → (n ≡ pos 0 → ⊥) → is_zero n ≡ false
zero_is_not (pos zero) other = absurd (other refl)
zero_is_not (pos (suc n)) other = refl
zero_is_not (negsuc n) other = refl

-- the sides of an `if`
pub first_side : (r : Running) (e : Expression) (s : Statement) (t : Else) (f : Frame) (c : Context) (w u v : World) (n : ℤ) (ss : Statements) (answer : CodeResult CodeFlow Halt)
    → value_of r f e c w ≡ done n u → (n ≡ pos 0 → ⊥) → ss ≡ statement_then s no_statements → GivesBy flow_of (statements r ss f c u) answer v → GivesBy flow_of (plainly r (if_else e s t) f c w) answer v
first_side r e s t f c w u v n ss answer given other single g =
    gives_by_next flow_of (value_of r f e c w) (λ m. if is_zero m then otherwise r t f c else statement r s (λ h. pure normal) f c) n u v answer given
    (subst (λ b. GivesBy flow_of ((if b then otherwise r t f c else statement r s (λ h. pure normal) f c) u) answer v) (sym (zero_is_not n other))
    (subst (λ z. GivesBy flow_of (statements r z f c u) answer v) single g))

other_side : (r : Running) (e : Expression) (s : Statement) (t : Else) (f : Frame) (c : Context) (w u v : World) (n : ℤ) (answer : CodeResult CodeFlow Halt)
    → value_of r f e c w ≡ done n u → n ≡ pos 0 → GivesBy flow_of (otherwise r t f c u) answer v → GivesBy flow_of (plainly r (if_else e s t) f c w) answer v
other_side r e s t f c w u v n answer given null g =
    gives_by_next flow_of (value_of r f e c w) (λ m. if is_zero m then otherwise r t f c else statement r s (λ h. pure normal) f c) n u v answer given
    (subst (λ b. GivesBy flow_of ((if b then otherwise r t f c else statement r s (λ h. pure normal) f c) u) answer v) (sym (zero_is n null)) g)

pub second_side : (r : Running) (e : Expression) (s s' : Statement) (f : Frame) (c : Context) (w u v : World) (n : ℤ) (ss : Statements) (answer : CodeResult CodeFlow Halt)
    → value_of r f e c w ≡ done n u → n ≡ pos 0 → ss ≡ statement_then s' no_statements → GivesBy flow_of (statements r ss f c u) answer v → GivesBy flow_of (plainly r (if_else e s (else_do s')) f c w) answer v
second_side r e s s' f c w u v n ss answer given null single g = other_side r e s (else_do s') f c w u v n answer given null (subst (λ z. GivesBy flow_of (statements r z f c u) answer v) single g)

pub no_side : (r : Running) (e : Expression) (s : Statement) (f : Frame) (c : Context) (w u : World) (n : ℤ) → value_of r f e c w ≡ done n u → n ≡ pos 0 → plainly r (if_else e s no_else) f c w ≡ done normal u
no_side r e s f c w u n given null = other_side r e s no_else f c w u u n (Ok flows.Normal) given null refl

-- statements with a variable in reach
pub in_reach : (r : Running) (ss : Statements) (n : Name) (x : Reference) (f : Frame) (c : Context) (w v : World) (y : Variable) (answer : CodeResult CodeFlow Halt) → y ≡ record { number = local_number n.bound; reference = x }
    → GivesBy flow_of (statements r ss (record { this = f.this; variables = y ∷ f.variables }) c w) answer v → GivesBy flow_of (statements r ss (with_variable n x f) c w) answer v
in_reach r ss n x f c w v y answer e g = subst (λ z. GivesBy flow_of (statements r ss (record { this = f.this; variables = z ∷ f.variables }) c w) answer v) e g

-- a local int
pub int_declared : (r : Running) (n : Name) (e : Option Expression) (ss : Statements) (f : Frame) (c : Context) (w u v : World) (o : ℕ) (x : Reference) (answer : CodeResult CodeFlow Halt)
    → local_cell r f e c w ≡ done o u → x ≡ whole o → GivesBy flow_of (statements r ss (with_variable n x f) c u) answer v → GivesBy flow_of (statement r (local_int n e) (λ g. statements r ss g c) f c w) answer v
int_declared r n e ss f c w u v o x answer made at g =
    gives_by_next flow_of (local_cell r f e c w) (λ m. statements r ss (with_variable n (whole m) f) c) o u v answer made (subst (λ y. GivesBy flow_of (statements r ss (with_variable n y f) c u) answer v) at g)

-- what a reference is bound to
pub bound_so : (p : Checked) (w : World) (t : Ty) (f : Frame) (names : List Name) (x y : Reference) → x ≡ lvalue p w f names → y ≡ bound_as w t x → y ≡ bound_as w t (lvalue p w f names)
bound_so p w t f names x y at bound = bound ∙ ap (bound_as w t) at

-- a local reference
pub reference_declared : (r : Running) (p : Param) (names : List Name) (ss : Statements) (f : Frame) (c : Context) (w v : World) (y : Reference) (answer : CodeResult CodeFlow Halt)
    → y ≡ bound_as w p.ty (lvalue r.program w f names) → GivesBy flow_of (statements r ss (with_parameter p.name y f) c w) answer v → GivesBy flow_of (statement r (local_ref p names) (λ g. statements r ss g c) f c w) answer v
reference_declared r p names ss f c w v y answer bound g = subst (λ z. GivesBy flow_of (statements r ss (with_parameter p.name z f) c w) answer v) bound g

-- a local object
pub object_declared : (r : Running) (k n : Name) (es : Expressions) (ss : Statements) (f : Frame) (c : Context) (w v : World) (j : ℕ) (answer : CodeResult CodeFlow Halt)
    → j ≡ class_named k → GivesBy flow_of (object_scoped r j n es ss f c w) answer v → GivesBy flow_of (statement r (local_object k n es) (λ g. statements r ss g c) f c w) answer v
object_declared r k n es ss f c w v j answer e g = subst (λ i. GivesBy flow_of (object_scoped r i n es ss f c w) answer v) e g

-- what is left of a local object's scope once the object is there
abbrev scoped : Running → ℕ → Name → Expressions → Statements → Frame → Context → ℕ → Action Flow
scoped r k n es ss f c o = construct r f k es (whole o) c >> scope r c (destroy r (class_type k) (whole o)) (statements r ss (with_variable n (whole o) f) c)

pub object_made : (r : Checked) (k : ℕ) (w u : World) (o : ℕ) (a : Part) → a ≡ unset r (class_type k) → new_object a w ≡ done o u → new_object (unset r (class_type k)) w ≡ done o u
object_made r k w u o a e made = subst (λ b. new_object b w ≡ done o u) e made

pub object_in_scope : (r : Running) (k : ℕ) (n : Name) (es : Expressions) (ss : Statements) (f : Frame) (c : Context) (w u v z : World) (o : ℕ) (x y : Reference) (answer : CodeResult CodeFlow Halt)
    → new_object (unset r.program (class_type k)) w ≡ done o u → x ≡ whole o → construct r f k es x c u ≡ done tt v → y ≡ whole o
    → GivesBy flow_of (after_scope r c (destroy r (class_type k) x) (statements r ss (with_variable n y f) c v)) answer z → GivesBy flow_of (object_scoped r k n es ss f c w) answer z
object_in_scope r k n es ss f c w u v z o x y answer made at built there g =
    gives_by_next flow_of (new_object (unset r.program (class_type k)) w) (scoped r k n es ss f c) o u z answer made
    (gives_by_next flow_of (construct r f k es (whole o) c u) (λ b. scope r c (destroy r (class_type k) (whole o)) (statements r ss (with_variable n (whole o) f) c)) tt v z answer
    (subst (λ q. construct r f k es q c u ≡ done tt v) at built)
    (subst (λ q. GivesBy flow_of (after_scope r c (destroy r (class_type k) q) (statements r ss (with_variable n (whole o) f) c v)) answer z) at
    (subst (λ q. GivesBy flow_of (after_scope r c (destroy r (class_type k) x) (statements r ss (with_variable n q f) c v)) answer z) there g)))

pub object_halted : (r : Running) (k : ℕ) (n : Name) (es : Expressions) (ss : Statements) (f : Frame) (c : Context) (w u v : World) (o : ℕ) (x : Reference) (h : Halt)
    → new_object (unset r.program (class_type k)) w ≡ done o u → x ≡ whole o → Halts (construct r f k es x c u) h v → Halts (object_scoped r k n es ss f c w) h v
object_halted r k n es ss f c w u v o x h made at g =
    halts_next (new_object (unset r.program (class_type k)) w) (scoped r k n es ss f c) o u v h made
    (halts_continued (construct r f k es (whole o) c u) (λ b. scope r c (destroy r (class_type k) (whole o)) (statements r ss (with_variable n (whole o) f) c)) h v (subst (λ q. Halts (construct r f k es q c u) h v) at g))

-- the body of a handler, and its parameter's destruction
pub body_left : (r : Running) (t : Option Ty) (n : Option Name) (ss : Statements) (x y : Reference) (f : Frame) (c : Context) (w v : World) (leaving : Context → Action (Unit {0})) (answer : CodeResult CodeFlow Halt)
    → y ≡ x → destroy_parameter r t x ≡ leaving → GivesBy flow_of (after_scope r c leaving (statements r ss (with_parameter n y f) c w)) answer v → GivesBy flow_of (handler_done r t n ss x f c w) answer v
body_left r t n ss x y f c w v leaving answer e d g =
    subst (λ a. GivesBy flow_of (after_scope r c a (statements r ss (with_parameter n x f) c w)) answer v) (sym d)
    (subst (λ q. GivesBy flow_of (after_scope r c leaving (statements r ss (with_parameter n q f) c w)) answer v) e g)
