-- The value of an expression, from its parts, and what is passed, called and built.
use Rattle.std.proofs.Common.{◌≡◌, ◌∙◌, ℕ, ℤ, pos, Bool, false, List, ◌∷◌, Option, Some, None, refl, ap, sym, subst, Ok, Result as CodeResult}
use Rattle.std.specs.Prelude.{if◌then◌else◌}
use Rattle.cxx_ast.specs.declared.expression.BinaryOp.{BinaryOp}
use Rattle.cxx_ast.specs.declared.name.Bound.{Bound}
use Rattle.cxx_ast.specs.declared.name.Bound.TheVariants.{Func, Method}
use Rattle.cxx_ast.specs.declared.name.Builtin.TheVariants.{WriteInt, Exit, Module, Cancel}
use Rattle.cxx_ast.specs.declared.name.Name.{Name}
use Rattle.cxx_ast.specs.declared.types.Ty.{Ty}
use Rattle.cxx_ast.specs.declared.types.Ty.TheVariants.{Int, Void, Object, IntRef, ObjectRef}
use Rattle.cxx_ast.specs.Plain.{Checked, Expression, path, binary, call, Expressions}
use Rattle.run_items.specs.declared.item.Item.TheVariants.{Line}
use Rattle.meaning_forms.specs.Arithmetic.{binary_value, decided}
use Rattle.meaning_forms.specs.Class.{class_named}
use Rattle.meaning_forms.specs.World.{World, Reference, as_class, nowhere}
use Rattle.meaning_forms.specs.Context.{Context}
use Rattle.meaning_forms.specs.Outcome.{Action, done, emit, ended, exit, cancelled, pure, read, stop, ◌>>=◌, ◌>>◌}
use Rattle.meaning_forms.specs.Running.{Running, Argument, by_reference, by_value, Constructor, constructor, function, method}
use Rattle.meaning_forms.specs.Frame.{Frame, bound_as, lvalue}
use Rattle.meaning_forms.specs.Throw.{call_module}
use Rattle.meaning_forms.specs.Expression.{arguments, builtin, called, callee_bound, construct, constructor_chosen, constructor_types, is_reference, lvalue_of, names_of, parameter_types, passed, receiver, value_at, value_of, with_right_side}
use Rattle.scope_world.specs.declared.outcome.Halt.{Halt}
use Rattle.scope_world.specs.declared.outcome.Halt.TheVariants.{Exited, Cancelled}
use Rattle.scope_world.specs.Gives.{Gives, Halts}
use Rattle.scope_flow.specs.Always.{full_call}
use Rattle.scope_flow.specs.Asked.{copied_type}
use Rattle.scope_flow.proofs.Passing.{halts_continued, halts_next, gives_next}

-- an lvalue is read
pub read_so : (r : Running) (f : Frame) (names : List Name) (c : Context) (w : World) (x : Reference) (answer : CodeResult ℤ Halt) → x ≡ lvalue r.program w f names → Gives (read x w) answer w → Gives (value_of r f (path names) c w) answer w
read_so r f names c w x answer e g = subst (λ y. Gives (read y w) answer w) e g

-- a left side that decides
pub decided_so : (r : Running) (f : Frame) (op : BinaryOp) (a b : Expression) (c : Context) (w u : World) (x v : ℤ) (d : Option ℤ) → value_of r f a c w ≡ done x u → d ≡ decided op x → d ≡ Some v → value_of r f (binary op a b) c w ≡ done v u
decided_so r f op a b c w u x v d left e s =
    gives_next (value_of r f a c w) (λ y. with_right_side op y (decided op y) (value_of r f b c)) x u u (Ok v) left
    (subst (λ o. with_right_side op x o (value_of r f b c) u ≡ done v u) (sym s ∙ e) refl)

-- and one that does not
pub undecided : (r : Running) (f : Frame) (op : BinaryOp) (a b : Expression) (c : Context) (w u v : World) (x y : ℤ) (d : Option ℤ) (answer : CodeResult ℤ Halt)
    → value_of r f a c w ≡ done x u → d ≡ decided op x → d ≡ None → value_of r f b c u ≡ done y v → Gives (binary_value op x y v) answer v → Gives (value_of r f (binary op a b) c w) answer v
undecided r f op a b c w u v x y d answer left e n right g =
    gives_next (value_of r f a c w) (λ z. with_right_side op z (decided op z) (value_of r f b c)) x u v answer left
    (subst (λ o. Gives (with_right_side op x o (value_of r f b c) u) answer v) (sym n ∙ e) (gives_next (value_of r f b c u) (λ z. binary_value op x z) y v v answer right g))

pub right_halted : (r : Running) (f : Frame) (op : BinaryOp) (a b : Expression) (c : Context) (w u v : World) (x : ℤ) (d : Option ℤ) (h : Halt)
    → value_of r f a c w ≡ done x u → d ≡ decided op x → d ≡ None → Halts (value_of r f b c u) h v → Halts (value_of r f (binary op a b) c w) h v
right_halted r f op a b c w u v x d h left e n g =
    halts_next (value_of r f a c w) (λ z. with_right_side op z (decided op z) (value_of r f b c)) x u v h left
    (subst (λ o. Halts (with_right_side op x o (value_of r f b c) u) h v) (sym n ∙ e) (halts_continued (value_of r f b c u) (λ z. binary_value op x z) h v g))

-- a call, from what its names are bound to
pub called_by : (r : Running) (f : Frame) (names : List Name) (es : Expressions) (c : Context) (w v : World) (b : Bound) (object : List Name) (types : List Ty) (answer : CodeResult ℤ Halt)
    → b ≡ callee_bound names → object ≡ receiver names → types ≡ parameter_types r.program b → Gives (called r f b object es (arguments r f es types c) c w) answer v → Gives (value_of r f (call names es) c w) answer v
called_by r f names es c w v b object types answer e o t g =
    subst (λ d. Gives (called r f d (receiver names) es (arguments r f es (parameter_types r.program d) c) c w) answer v) e
    (subst (λ q. Gives (called r f b q es (arguments r f es (parameter_types r.program b) c) c w) answer v) o
    (subst (λ ts. Gives (called r f b object es (arguments r f es ts c) c w) answer v) t g))

-- an argument for a reference to an object of a class
pub passed_to_object : (r : Running) (f : Frame) (const : Bool) (n : Name) (types : List Ty) (e : Expression) (computed : Action ℤ) (w : World) (a : Argument)
    → a ≡ by_reference (as_class w (class_named n) (lvalue r.program w f (names_of (lvalue_of e)))) → passed r f (ObjectRef const n ∷ types) e computed w ≡ done a w
passed_to_object r f const n types e computed w a p = ap (λ x. done x w) (sym p)

-- for the implicit copy constructor of a class
pub passed_to_copy : (r : Running) (f : Frame) (k : ℕ) (e : Expression) (computed : Action ℤ) (w : World) (a : Argument)
    → a ≡ by_reference (as_class w k (lvalue r.program w f (names_of (lvalue_of e)))) → passed r f (copied_type k) e computed w ≡ done a w
passed_to_copy r f k e computed w a p = ap (λ x. done x w) (sym p)

-- for a reference to int
pub passed_to_int : (r : Running) (f : Frame) (const : Bool) (types : List Ty) (e : Expression) (computed : Action ℤ) (w : World) (names : List Name) (x : Reference)
    → names ≡ names_of (lvalue_of e) → x ≡ lvalue r.program w f names → passed r f (IntRef const ∷ types) e computed w ≡ done (by_reference x) w
passed_to_int r f const types e computed w names x n p = ap (λ y. done (by_reference y) w) (sym (p ∙ ap (lvalue r.program w f) n))

-- any other is computed
pub is_value : (t : Ty) → ((const : Bool) (n : Name) → t ≡ ObjectRef const n → ⊥) → ((const : Bool) → t ≡ IntRef const → ⊥) → is_reference t ≡ false
is_value Int o i = refl
is_value Void o i = refl
is_value (Object n) o i = refl
is_value (IntRef b) o i = absurd (i b refl)
is_value (ObjectRef b n) o i = absurd (o b n refl)

pub passed_computed : (r : Running) (f : Frame) (t : Ty) (types : List Ty) (e : Expression) (computed : Action ℤ) (w u : World) (v : ℤ) → is_reference t ≡ false → computed w ≡ done v u → passed r f (t ∷ types) e computed w ≡ done (by_value v) u
passed_computed r f t types e computed w u v k g =
    subst (λ b. (if b then pure (by_reference (bound_as w t (lvalue r.program w f (names_of (lvalue_of e))))) else (computed >>= (λ x. pure (by_value x)))) w ≡ done (by_value v) u) (sym k) (gives_next (computed w) (λ x. pure (by_value x)) v u u (Ok (by_value v)) g refl)

pub passed_halted : (r : Running) (f : Frame) (t : Ty) (types : List Ty) (e : Expression) (computed : Action ℤ) (w u : World) (h : Halt) → is_reference t ≡ false → Halts (computed w) h u → Halts (passed r f (t ∷ types) e computed w) h u
passed_halted r f t types e computed w u h k g =
    subst (λ b. Halts ((if b then pure (by_reference (bound_as w t (lvalue r.program w f (names_of (lvalue_of e))))) else (computed >>= (λ x. pure (by_value x)))) w) h u) (sym k) (halts_continued (computed w) (λ x. pure (by_value x)) h u g)

-- built-in functions, from the first of their arguments
pub line_written : (r : Running) (es : Expressions) (given : Action (List Argument)) (c : Context) (w u v : World) (vs : List Argument) (x : ℤ) → given w ≡ done vs u → x ≡ value_at vs 0 → emit (Line x) u ≡ done tt v → builtin r WriteInt es given c w ≡ done (pos 0) v
line_written r es given c w u v vs x g e written =
    gives_next (given w) (λ all. emit (Line (value_at all 0)) >> pure (pos 0)) vs u v (Ok (pos 0)) g
    (subst (λ n. (emit (Line n) >> pure (pos 0)) u ≡ done (pos 0) v) e (gives_next (emit (Line x) u) (λ a. pure (pos 0)) tt v v (Ok (pos 0)) written refl))

pub exited_with : (r : Running) (es : Expressions) (given : Action (List Argument)) (c : Context) (w u : World) (vs : List Argument) (x : ℤ) → given w ≡ done vs u → x ≡ value_at vs 0 → Halts (builtin r Exit es given c w) (Exited x) u
exited_with r es given c w u vs x g e = subst (λ n. Halts (builtin r Exit es given c w) (Exited n) u) (sym e) (halts_next (given w) (λ all. stop (ended (exit (value_at all 0)))) vs u u (Exited (value_at vs 0)) g refl)

pub cancelled_with : (r : Running) (es : Expressions) (given : Action (List Argument)) (c : Context) (w u : World) (vs : List Argument) (x : ℤ) → given w ≡ done vs u → x ≡ value_at vs 0 → Halts (builtin r Cancel es given c w) (Cancelled x) u
cancelled_with r es given c w u vs x g e = subst (λ n. Halts (builtin r Cancel es given c w) (Cancelled n) u) (sym e) (halts_next (given w) (λ all. stop (cancelled (value_at all 0))) vs u u (Cancelled (value_at vs 0)) g refl)

pub module_at : (r : Running) (c : Context) (u v : World) (vs : List Argument) (x : ℤ) (answer : CodeResult ℤ Halt) → x ≡ value_at vs 0 → Gives (call_module r x c u) answer v → Gives (call_module r (value_at vs 0) c u) answer v
module_at r c u v vs x answer e k = subst (λ n. Gives (call_module r n c u) answer v) e k

pub module_called : (r : Running) (es : Expressions) (given : Action (List Argument)) (c : Context) (w u v : World) (vs : List Argument) (answer : CodeResult ℤ Halt) → given w ≡ done vs u → Gives (call_module r (value_at vs 0) c u) answer v
    → Gives (builtin r Module es given c w) answer v
module_called r es given c w u v vs answer g k = gives_next (given w) (λ all. call_module r (value_at all 0) c) vs u v answer g k

-- a function is called with its arguments
pub called_at : (p : Checked) (n : ℕ) (c : Context) (u v : World) (vs : List Argument) (x : Reference) (answer : CodeResult ℤ Halt) → x ≡ nowhere → Gives (full_call p (function n) x vs c u) answer v → Gives (full_call p (function n) nowhere vs c u) answer v
called_at p n c u v vs x answer e k = subst (λ y. Gives (full_call p (function n) y vs c u) answer v) e k

pub function_called : (r : Running) (f : Frame) (n : ℕ) (object : List Name) (es : Expressions) (given : Action (List Argument)) (c : Context) (w u v : World) (vs : List Argument) (answer : CodeResult ℤ Halt)
    → given w ≡ done vs u → Gives (r.call (function n) nowhere vs c u) answer v → Gives (called r f (Func n) object es given c w) answer v
function_called r f n object es given c w u v vs answer g k = gives_next (given w) (λ all. r.call (function n) nowhere all c) vs u v answer g k

-- and one of a class, on an object
pub called_on : (p : Checked) (f : Frame) (k i : ℕ) (object : List Name) (c : Context) (u v : World) (vs : List Argument) (x y : Reference) (answer : CodeResult ℤ Halt)
    → x ≡ lvalue p u f object → y ≡ as_class u k x → Gives (full_call p (method k i) y vs c u) answer v → Gives (full_call p (method k i) (as_class u k (lvalue p u f object)) vs c u) answer v
called_on p f k i object c u v vs x y answer e a m = subst (λ q. Gives (full_call p (method k i) q vs c u) answer v) (a ∙ ap (as_class u k) e) m

pub method_called : (r : Running) (f : Frame) (k i : ℕ) (object : List Name) (es : Expressions) (given : Action (List Argument)) (c : Context) (w u v : World) (vs : List Argument) (answer : CodeResult ℤ Halt)
    → given w ≡ done vs u → Gives (r.call (method k i) (as_class u k (lvalue r.program u f object)) vs c u) answer v → Gives (called r f (Method k i) object es given c w) answer v
method_called r f k i object es given c w u v vs answer g m = gives_next (given w) (λ all z. r.call (method k i) (as_class z k (lvalue r.program z f object)) all c z) vs u v answer g m

-- what is left of a construction once its arguments are there
abbrev building : Running → ℕ → Reference → Context → Constructor → List Argument → Action (Unit {0})
building r k target c which given = r.call (constructor k which) target given c >> pure tt

-- an object is built by the constructor that is chosen
pub built_by : (r : Running) (f : Frame) (k : ℕ) (es : Expressions) (target : Reference) (c : Context) (w u v : World) (which : Constructor) (types : List Ty) (vs : List Argument) (n : ℤ)
    → which ≡ constructor_chosen r.program w f k es → types ≡ constructor_types r.program k which → arguments r f es types c w ≡ done vs u → r.call (constructor k which) target vs c u ≡ done n v → construct r f k es target c w ≡ done tt v
built_by r f k es target c w u v which types vs n e t given made =
    subst (λ z. (arguments r f es (constructor_types r.program k z) c >>= building r k target c z) w ≡ done tt v) e
    (subst (λ ts. (arguments r f es ts c >>= building r k target c which) w ≡ done tt v) t
    (gives_next (arguments r f es types c w) (building r k target c which) vs u v (Ok tt) given (gives_next (r.call (constructor k which) target vs c u) (λ a. pure tt) n v v (Ok tt) made refl)))

pub building_halted : (r : Running) (f : Frame) (k : ℕ) (es : Expressions) (target : Reference) (c : Context) (w u v : World) (which : Constructor) (types : List Ty) (vs : List Argument) (h : Halt)
    → which ≡ constructor_chosen r.program w f k es → types ≡ constructor_types r.program k which → arguments r f es types c w ≡ done vs u → Halts (r.call (constructor k which) target vs c u) h v → Halts (construct r f k es target c w) h v
building_halted r f k es target c w u v which types vs h e t given g =
    subst (λ z. Halts ((arguments r f es (constructor_types r.program k z) c >>= building r k target c z) w) h v) e
    (subst (λ ts. Halts ((arguments r f es ts c >>= building r k target c which) w) h v) t
    (halts_next (arguments r f es types c w) (building r k target c which) vs u v h given (halts_continued (r.call (constructor k which) target vs c u) (λ a. pure tt) h v g)))

pub arguments_halted : (r : Running) (f : Frame) (k : ℕ) (es : Expressions) (target : Reference) (c : Context) (w u : World) (which : Constructor) (types : List Ty) (h : Halt)
    → which ≡ constructor_chosen r.program w f k es → types ≡ constructor_types r.program k which → Halts (arguments r f es types c w) h u → Halts (construct r f k es target c w) h u
arguments_halted r f k es target c w u which types h e t g =
    subst (λ z. Halts ((arguments r f es (constructor_types r.program k z) c >>= building r k target c z) w) h u) e
    (subst (λ ts. Halts ((arguments r f es ts c >>= building r k target c which) w) h u) t (halts_continued (arguments r f es types c w) (building r k target c which) h u g))
