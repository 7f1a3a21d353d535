-- The parts of an object: how one is built, and all of them in turn.
use Rattle.std.proofs.Common.{◌≡◌, ◌∙◌, ℕ, ◌+◌, ℤ, pos, List, ◌∷◌, Option, Some, None, ap, sym, subst, Ok, Result as CodeResult}
use Rattle.cxx_ast.specs.Plain.{Initialiser, Expressions}
use Rattle.meaning_forms.specs.Class.{ObjectType, int_type, class_type}
use Rattle.meaning_forms.specs.World.{World, Reference, part, written}
use Rattle.meaning_forms.specs.Context.{Context}
use Rattle.meaning_forms.specs.Outcome.{Action, Flow, done, read, write, ◌>>=◌}
use Rattle.meaning_forms.specs.Running.{Running}
use Rattle.meaning_forms.specs.Frame.{Frame}
use Rattle.meaning_forms.specs.Scope.{after_part, after_scope, until_complete}
use Rattle.meaning_forms.specs.Construct.{copy_object, default_object, destroy}
use Rattle.meaning_forms.specs.Expression.{construct}
use Rattle.meaning_forms.specs.Call.{build_parts, copy_part, default_part, destroy_parts, initial_part, initial_value, initialiser_for}
use Rattle.scope_world.specs.declared.outcome.Halt.{Halt}
use Rattle.scope_world.specs.declared.outcome.Flow.{Flow as CodeFlow}
use Rattle.scope_world.specs.Gives.{Gives, GivesBy, Halts, flow_of}
use Rattle.scope_flow.proofs.Passing.{halts_continued, gives_next, gives_by_next}

-- an int is set
set_so : (x y : Reference) (n : ℤ) (w v : World) → x ≡ y → v ≡ written w x n → write y n w ≡ done tt v
set_so x y n w v e s = subst (λ z. write z n w ≡ done tt v) e (ap (λ u. done tt u) (sym s))

-- by default to 0
pub zero_set : (r : Running) (this x : Reference) (c : Context) (i : ℕ) (w v : World) → x ≡ part i this → v ≡ written w x (pos 0) → default_part r this c i int_type w ≡ done tt v
zero_set r this x c i w v e s = set_so x (part i this) (pos 0) w v e s

pub default_built : (r : Running) (this x : Reference) (c : Context) (i k : ℕ) (w v : World) (answer : CodeResult (Unit {0}) Halt) → x ≡ part i this → Gives (default_object r k x c w) answer v → Gives (default_part r this c i (class_type k) w) answer v
default_built r this x c i k w v answer e g = subst (λ z. Gives (default_object r k z c w) answer v) e g

-- a copy of another part
pub int_copied : (r : Running) (this from x y : Reference) (c : Context) (i : ℕ) (w v : World) (n : ℤ) → x ≡ part i this → y ≡ part i from → read y w ≡ done n w → v ≡ written w x n → copy_part r this from c i int_type w ≡ done tt v
int_copied r this from x y c i w v n e f taken s =
    gives_next (read (part i from) w) (λ m. write (part i this) m) n w v (Ok tt) (subst (λ z. read z w ≡ done n w) f taken) (set_so x (part i this) n w v e s)

pub copy_unread : (r : Running) (this from y : Reference) (c : Context) (i : ℕ) (w : World) (h : Halt) → y ≡ part i from → Halts (read y w) h w → Halts (copy_part r this from c i int_type w) h w
copy_unread r this from y c i w h f g = subst (λ z. Halts ((read z >>= (λ m. write (part i this) m)) w) h w) f (halts_continued (read y w) (λ m. write (part i this) m) h w g)

pub object_copied : (r : Running) (this from x y : Reference) (c : Context) (i k : ℕ) (w v : World) (answer : CodeResult (Unit {0}) Halt) → x ≡ part i this → y ≡ part i from → Gives (copy_object r k x y c w) answer v
    → Gives (copy_part r this from c i (class_type k) w) answer v
object_copied r this from x y c i k w v answer e f g = subst (λ z. Gives (copy_object r k z (part i from) c w) answer v) e (subst (λ z. Gives (copy_object r k x z c w) answer v) f g)

-- a part by its initialiser
pub int_initialised : (r : Running) (f : Frame) (x : Reference) (c : Context) (i : ℕ) (es : Expressions) (w u v : World) (n : ℤ) → x ≡ part i f.this → initial_value r f es c w ≡ done n u → v ≡ written u x n
    → initial_part r f c i (Some es) int_type w ≡ done tt v
int_initialised r f x c i es w u v n e given s = gives_next (initial_value r f es c w) (λ m. write (part i f.this) m) n u v (Ok tt) given (set_so x (part i f.this) n u v e s)

pub object_initialised : (r : Running) (f : Frame) (x : Reference) (c : Context) (i k : ℕ) (es : Expressions) (w v : World) (answer : CodeResult (Unit {0}) Halt) → x ≡ part i f.this → Gives (construct r f k es x c w) answer v
    → Gives (initial_part r f c i (Some es) (class_type k) w) answer v
object_initialised r f x c i k es w v answer e g = subst (λ z. Gives (construct r f k es z c w) answer v) e g

pub object_by_default : (r : Running) (f : Frame) (x : Reference) (c : Context) (i k : ℕ) (w v : World) (answer : CodeResult (Unit {0}) Halt) → x ≡ part i f.this → Gives (default_object r k x c w) answer v
    → Gives (initial_part r f c i None (class_type k) w) answer v
object_by_default r f x c i k w v answer e g = subst (λ z. Gives (default_object r k z c w) answer v) e g

-- the initialiser that is found for a part
pub initialised_as : (r : Running) (f : Frame) (c : Context) (i : ℕ) (found : Option Expressions) (listed all : List Initialiser) (t : ObjectType) (w v : World) (answer : CodeResult (Unit {0}) Halt)
    → found ≡ initialiser_for r.program listed i → listed ≡ all → Gives (initial_part r f c i found t w) answer v → Gives (initial_part r f c i (initialiser_for r.program all i) t w) answer v
initialised_as r f c i found listed all t w v answer e l g = subst (λ o. Gives (initial_part r f c i o t w) answer v) (e ∙ ap (λ inits. initialiser_for r.program inits i) l) g

-- a part is built, and what is left behind it
pub part_built : (r : Running) (build : ℕ → ObjectType → Action (Unit {0})) (this x : Reference) (i j : ℕ) (t : ObjectType) (types : List ObjectType) (c : Context) (left : Action Flow) (w u v : World) (answer : CodeResult CodeFlow Halt)
    → build i t w ≡ done tt u → x ≡ part i this → j ≡ i + 1 → GivesBy flow_of (after_part r c (destroy r t x) (build_parts r build this j types c left u)) answer v
    → GivesBy flow_of (build_parts r build this i (t ∷ types) c left w) answer v
part_built r build this x i j t types c left w u v answer built e n g =
    gives_by_next flow_of (build i t w) (λ a. until_complete r c (destroy r t (part i this)) (build_parts r build this (i + 1) types c left)) tt u v answer built
    (subst (λ z. GivesBy flow_of (after_part r c (destroy r t z) (build_parts r build this (i + 1) types c left u)) answer v) e
    (subst (λ m. GivesBy flow_of (after_part r c (destroy r t x) (build_parts r build this m types c left u)) answer v) n g))

pub part_halted : (r : Running) (build : ℕ → ObjectType → Action (Unit {0})) (this : Reference) (i : ℕ) (t : ObjectType) (types : List ObjectType) (c : Context) (left : Action Flow) (w u : World) (h : Halt)
    → Halts (build i t w) h u → Halts (build_parts r build this i (t ∷ types) c left w) h u
part_halted r build this i t types c left w u h g = halts_continued (build i t w) (λ a. until_complete r c (destroy r t (part i this)) (build_parts r build this (i + 1) types c left)) h u g

-- the parts behind one are destroyed before it
pub destroyed_behind : (r : Running) (this x : Reference) (i j : ℕ) (t : ObjectType) (types : List ObjectType) (c : Context) (body : Action Flow) (w v : World) (answer : CodeResult CodeFlow Halt)
    → x ≡ part i this → j ≡ i + 1 → GivesBy flow_of (after_scope r c (destroy r t x) (destroy_parts r this j types c body w)) answer v → GivesBy flow_of (destroy_parts r this i (t ∷ types) c body w) answer v
destroyed_behind r this x i j t types c body w v answer e n g =
    subst (λ z. GivesBy flow_of (after_scope r c (destroy r t z) (destroy_parts r this (i + 1) types c body w)) answer v) e
    (subst (λ m. GivesBy flow_of (after_scope r c (destroy r t x) (destroy_parts r this m types c body w)) answer v) n g)
