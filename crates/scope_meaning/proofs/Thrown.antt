-- The object of a `throw`, from its operand.
use Rattle.std.proofs.Common.{◌≡◌, ◌∙◌, ℕ, Option, Some, None, refl, ap, sym, subst, Ok, Result as CodeResult}
use Rattle.cxx_ast.specs.declared.name.Bound.{Bound}
use Rattle.cxx_ast.specs.declared.name.Name.{Name}
use Rattle.std.proofs.Common.{List}
use Rattle.cxx_ast.specs.Plain.{Expression, Expressions, call, std_call}
use Rattle.meaning_forms.specs.Class.{class_type}
use Rattle.meaning_forms.specs.Part.{Part, part_type, unset}
use Rattle.meaning_forms.specs.World.{World, Reference, part_of, whole}
use Rattle.meaning_forms.specs.Context.{Context}
use Rattle.meaning_forms.specs.Outcome.{done, new_object, pure, ◌>>◌}
use Rattle.meaning_forms.specs.Running.{Running}
use Rattle.meaning_forms.specs.Frame.{Frame, lvalue}
use Rattle.meaning_forms.specs.Expression.{callee_bound, construct}
use Rattle.meaning_forms.specs.Handler.{new_copy}
use Rattle.meaning_forms.specs.Statement.{call_thrown, int_thrown, lvalue_thrown, object_thrown, operand_thrown, part_thrown}
use Rattle.scope_world.specs.declared.object.ObjectType.{ObjectType as CodeType}
use Rattle.scope_world.specs.declared.object.ObjectType.TheVariants as types
use Rattle.scope_world.specs.declared.outcome.Halt.{Halt}
use Rattle.scope_world.specs.Objects.{type_of}
use Rattle.scope_world.specs.Gives.{Gives, Halts}
use Rattle.scope_flow.proofs.Passing.{halts_continued, halts_next, gives_next}

-- an object is built in a new one
pub thrown_object : (r : Running) (f : Frame) (k : ℕ) (es : Expressions) (c : Context) (w u v : World) (o : ℕ) (a : Part) (x : Reference)
    → a ≡ unset r.program (class_type k) → new_object a w ≡ done o u → x ≡ whole o → construct r f k es x c u ≡ done tt v → object_thrown r f k es c w ≡ done o v
thrown_object r f k es c w u v o a x e made at built =
    gives_next (new_object (unset r.program (class_type k)) w) (λ n. construct r f k es (whole n) c >> pure n) o u v (Ok o) (subst (λ b. new_object b w ≡ done o u) e made)
    (gives_next (construct r f k es (whole o) c u) (λ b. pure o) tt v v (Ok o) (subst (λ y. construct r f k es y c u ≡ done tt v) at built) refl)

pub thrown_halted : (r : Running) (f : Frame) (k : ℕ) (es : Expressions) (c : Context) (w u v : World) (o : ℕ) (a : Part) (x : Reference) (h : Halt)
    → a ≡ unset r.program (class_type k) → new_object a w ≡ done o u → x ≡ whole o → Halts (construct r f k es x c u) h v → Halts (object_thrown r f k es c w) h v
thrown_halted r f k es c w u v o a x h e made at g =
    halts_next (new_object (unset r.program (class_type k)) w) (λ n. construct r f k es (whole n) c >> pure n) o u v h (subst (λ b. new_object b w ≡ done o u) e made)
    (halts_continued (construct r f k es (whole o) c u) (λ b. pure o) h v (subst (λ y. Halts (construct r f k es y c u) h v) at g))

-- an operand that is no lvalue
pub thrown_otherwise : (r : Running) (f : Frame) (e : Expression) (o : Option (List Name)) (c : Context) (w v : World) (answer : CodeResult ℕ Halt) → o ≡ None → Gives (int_thrown r f e c w) answer v → Gives (lvalue_thrown r f e o c w) answer v
thrown_otherwise r f e o c w v answer none g = subst (λ z. Gives (lvalue_thrown r f e z c w) answer v) (sym none) g

-- an lvalue of an int
pub thrown_int : (r : Running) (f : Frame) (e : Expression) (o : Option (List Name)) (names : List Name) (c : Context) (w v : World) (x : Reference) (t : CodeType) (answer : CodeResult ℕ Halt)
    → Some names ≡ o → x ≡ lvalue r.program w f names → type_of t ≡ part_type (part_of w x) → t ≡ types.Int → Gives (int_thrown r f e c w) answer v → Gives (lvalue_thrown r f e o c w) answer v
thrown_int r f e o names c w v x t answer is at typed int g =
    subst (λ z. Gives (lvalue_thrown r f e z c w) answer v) is
    (subst (λ y. Gives (part_thrown r f e y (part_type (part_of w y)) c w) answer v) at
    (subst (λ s. Gives (part_thrown r f e x s c w) answer v) (sym (ap type_of int) ∙ typed) g))

-- and one of an object, which is copied
pub thrown_copy : (r : Running) (f : Frame) (e : Expression) (o : Option (List Name)) (names : List Name) (c : Context) (w v : World) (x : Reference) (t : CodeType) (k : ℕ) (answer : CodeResult ℕ Halt)
    → Some names ≡ o → x ≡ lvalue r.program w f names → type_of t ≡ part_type (part_of w x) → t ≡ types.Class k → Gives (new_copy r k x c w) answer v → Gives (lvalue_thrown r f e o c w) answer v
thrown_copy r f e o names c w v x t k answer is at typed class g =
    subst (λ z. Gives (lvalue_thrown r f e z c w) answer v) is
    (subst (λ y. Gives (part_thrown r f e y (part_type (part_of w y)) c w) answer v) at
    (subst (λ s. Gives (part_thrown r f e x s c w) answer v) (sym (ap type_of class) ∙ typed) g))

-- an operand that is a call
pub thrown_call : (r : Running) (f : Frame) (names : List Name) (es : Expressions) (e : Expression) (c : Context) (w v : World) (b : Bound) (answer : CodeResult ℕ Halt)
    → e ≡ call names es → b ≡ callee_bound names → Gives (call_thrown r f b e es c w) answer v → Gives (operand_thrown r f e c w) answer v
thrown_call r f names es e c w v b answer is bound g =
    let at : Gives (call_thrown r f (callee_bound names) (call names es) es c w) answer v = rw (is, bound) at g in
    rw is at

pub thrown_std_call : (r : Running) (f : Frame) (n : Name) (es : Expressions) (place : ℕ) (e : Expression) (c : Context) (w v : World) (answer : CodeResult ℕ Halt)
    → e ≡ std_call n es place → Gives (call_thrown r f n.bound e es c w) answer v → Gives (operand_thrown r f e c w) answer v
thrown_std_call r f n es place e c w v answer is g =
    let at : Gives (call_thrown r f n.bound (std_call n es place) es c w) answer v = rw is at g in
    rw is at
