-- Maps over lists, looked up, changed and thinned out.
use Rattle.std.proofs.Common.{◌≡◌, ◌∙◌, ℕ, zero, suc, Bool, true, false, List, [], ◌∷◌, map, filter, Option, Some, None, refl, ap, arith, length, get_or, ◌<◌}
use Rattle.std.specs.Prelude.{slice_get, unwrap_or}
use Rattle.std.specs.List.{find}
use Rattle.std.specs.Prelude.{◌==◌}
use Rattle.cxx_ast.specs.View.{option_of}
use Rattle.meaning_forms.specs.Part.{cell}
use Rattle.meaning_forms.specs.World.{Reference, nowhere, Exception, building, exception_in, replaced}
use Rattle.meaning_forms.specs.Frame.{variable_in}
use Rattle.scope_world.specs.declared.object.Part.{Part as CodePart}
use Rattle.scope_world.specs.declared.exception.Exception.{Exception as CodeException}
use Rattle.scope_world.specs.declared.exception.Live.{Live as CodeLive}
use Rattle.scope_world.specs.declared.frame.Variable.{Variable as CodeVariable}
use Rattle.scope_world.specs.Objects.{part_of, part_or_unset, reference_of}
use Rattle.scope_world.specs.Seen.{exception_of, live_of, with_live}
use Rattle.scope_world.specs.Inward.{variable_of}

pub get_map : {A B : Type 0} (f : A → B) (xs : List A) (k : ℕ) → slice_get (map f xs) k ≡ option_of f (slice_get xs k)
get_map f [] k = refl
get_map f (x ∷ xs) zero = refl
get_map f (x ∷ xs) (suc k) = get_map f xs k

pub map_map : {A B C : Type 0} (f : A → B) (g : B → C) (xs : List A) → map g (map f xs) ≡ map (λ x. g (f x)) xs
map_map f g [] = refl
map_map f g (x ∷ xs) = ap (λ ys. g (f x) ∷ ys) (map_map f g xs)

pub map_same : {A B : Type 0} (f g : A → B) → ((x : A) → f x ≡ g x) → (xs : List A) → map f xs ≡ map g xs
map_same f g same [] = refl
map_same f g same (x ∷ xs) = ap (λ y. y ∷ map f xs) (same x) ∙ ap (λ ys. g x ∷ ys) (map_same f g same xs)

front : {A B : Type 0} (f : A → B) (p : A → Bool) (q : B → Bool) (x : A) (xs : List A) (b : Bool) → p x ≡ b → q (f x) ≡ b → map f (filter p xs) ≡ filter q (map f xs) → map f (filter p (x ∷ xs)) ≡ filter q (map f (x ∷ xs))
front f p q x xs true e h m = rw (e, h) (ap (λ ys. f x ∷ ys) m)
front f p q x xs false e h m = rw (e, h) m

pub map_filter : {A B : Type 0} (f : A → B) (p : A → Bool) (q : B → Bool) → ((x : A) → q (f x) ≡ p x) → (xs : List A) → map f (filter p xs) ≡ filter q (map f xs)
map_filter f p q same [] = refl
map_filter f p q same (x ∷ xs) = front f p q x xs (p x) refl (same x) (map_filter f p q same xs)

-- an object found by its number
pub object_found : (objects : List CodePart) (o : ℕ) → part_or_unset (slice_get objects o) ≡ unwrap_or (slice_get (map part_of objects) o) (cell None)
object_found objects o = rw (get_map part_of objects o) refl

-- the exception found, or one that is still being built
abbrev pub exception_or_building : Option CodeLive → Exception
exception_or_building None = building
exception_or_building (Some x) = exception_of x.exception

first_exception : (e : ℕ) (x : CodeLive) (xs : List CodeLive) (b : Bool) → (x.number == e) ≡ b → exception_or_building (find (λ x. x.number == e) xs) ≡ exception_in (map live_of xs) e → exception_or_building (find (λ x. x.number == e) (x ∷ xs)) ≡ exception_in (map live_of (x ∷ xs)) e
first_exception e x xs true h m = rw h refl
first_exception e x xs false h m = rw h m

-- the first exception with the number
pub exception_found : (e : ℕ) (xs : List CodeLive) → exception_or_building (find (λ x. x.number == e) xs) ≡ exception_in (map live_of xs) e
exception_found e [] = refl
exception_found e (x ∷ xs) = first_exception e x xs (x.number == e) refl (exception_found e xs)

-- the reference of the variable found, or one to nothing
abbrev pub reference_or_nowhere : Option CodeVariable → Reference
reference_or_nowhere None = nowhere
reference_or_nowhere (Some x) = reference_of x.reference

first_variable : (n : ℕ) (x : CodeVariable) (xs : List CodeVariable) (b : Bool) → (x.number == n) ≡ b → reference_or_nowhere (find (λ x. x.number == n) xs) ≡ variable_in (map variable_of xs) n → reference_or_nowhere (find (λ x. x.number == n) (x ∷ xs)) ≡ variable_in (map variable_of (x ∷ xs)) n
first_variable n x xs true h m = rw h refl
first_variable n x xs false h m = rw h m

pub variable_found : (n : ℕ) (xs : List CodeVariable) → reference_or_nowhere (find (λ x. x.number == n) xs) ≡ variable_in (map variable_of xs) n
variable_found n [] = refl
variable_found n (x ∷ xs) = first_variable n x xs (x.number == n) refl (variable_found n xs)

-- an object of the list, seen through the view
pub object_within : (objects : List CodePart) (o : ℕ) (a : CodePart) → o < length objects → part_of (get_or objects o a) ≡ unwrap_or (slice_get (map part_of objects) o) (cell None)
object_within [] o a low = absurd (omega arith)
object_within (x ∷ xs) zero a low = refl
object_within (x ∷ xs) (suc o) a low = object_within xs o a (omega arith)

one_replaced : (e : ℕ) (x : CodeException) (y : CodeLive) (b : Bool) → (y.number == e) ≡ b → live_of (with_live e x y) ≡ replaced e (exception_of x) (live_of y)
one_replaced e x y true h = rw h refl
one_replaced e x y false h = rw h refl

-- an exception in place of another, in the list and seen through the view
pub all_replaced : (e : ℕ) (x : CodeException) (xs : List CodeLive) → map live_of (map (with_live e x) xs) ≡ map (replaced e (exception_of x)) (map live_of xs)
all_replaced e x [] = refl
all_replaced e x (y ∷ ys) = ap (λ z. z ∷ map live_of (map (with_live e x) ys)) (one_replaced e x y (y.number == e) refl) ∙ ap (λ zs. replaced e (exception_of x) (live_of y) ∷ zs) (all_replaced e x ys)
