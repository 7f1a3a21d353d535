-- Classes with the specifications that count are those classes in all else, and what holds of each type that is listed holds of those that count.
use Rattle.std.specs.Prelude.{◌≡◌, ◌≤◌, refl, ℕ, zero, suc, ◌-◌, Bool, true, false, nat_lt, List, [], ◌∷◌, ◌++◌, map, length, Option, Some, None, option_map, slice_get, if◌then◌else◌}
use Rattle.std.proofs.Common.{ap, arith}
use Rattle.std.specs.List.{AllByRecursion}
use Rattle.std.proofs.lemmas.Bool.Decides.{nat_tests}
use Rattle.cxx_ast.specs.declared.name.Bound.{Bound}
use Rattle.cxx_ast.specs.declared.name.Bound.TheVariants as bound
use Rattle.cxx_ast.specs.declared.name.Name.{Name}
use Rattle.cxx_ast.specs.declared.types.Ty.{Ty}
use Rattle.cxx_ast.specs.declared.types.Ty.TheVariants.{Int, Void, Object, IntRef, ObjectRef}
use Rattle.cxx_ast.specs.declared.types.Param.{Param}
use Rattle.cxx_ast.specs.declared.declaration.FuncKind.{FuncKind}
use Rattle.cxx_ast.specs.declared.declaration.FuncKind.TheVariants.{Plain, Method, Constructor, Destructor}
use Rattle.cxx_ast.specs.declared.standard.Std.{Std}
use Rattle.cxx_ast.specs.declared.standard.Std.TheVariants.{Cxx03, Cxx11}
use Rattle.cxx_ast.specs.Plain.{Specification, listed, noexcept, Function, Class}
use Rattle.cxx_ast.specs.Grammatical.{Each, Where}
use Rattle.cxx_ast.specs.Limits.{most_taken}
use Rattle.cxx_ast.specs.Settled.{Allowed, allowed_by, lists, with_types, allowed_together, taken, allowed_of, allowed_of_base, allowed_of_members, given, settled, settle_function, settle_class, destructor_of, settle_classes, excess}

-- what the destructors of classes allow, behind others
abbrev behind : Std → List Allowed → Class → List Allowed
behind std before c = before ++ allowed_by (destructor_of (given std before c) c.functions) ∷ []

-- the specification that the destructor of the k-th class is given
abbrev pub given_at : Std → List Allowed → List Class → ℕ → Option Specification
given_at std before [] k = None
given_at std before (c ∷ cs) zero = given std before c
given_at std before (c ∷ cs) (suc k) = given_at std (behind std before c) cs k

pub settled_at : (std : Std) (before : List Allowed) (cs : List Class) (k : ℕ) →
    slice_get (settle_classes std before cs) k ≡ option_map (settle_class (given_at std before cs k)) (slice_get cs k)
settled_at std before [] k = refl
settled_at std before (c ∷ cs) zero = refl
settled_at std before (c ∷ cs) (suc k) = settled_at std (behind std before c) cs k

pub settled_length : (std : Std) (before : List Allowed) (cs : List Class) → length (settle_classes std before cs) ≡ length cs
settled_length std before [] = refl
settled_length std before (c ∷ cs) = ap suc (settled_length std (behind std before c) cs)

-- what holds of each class, or of each function, and does not speak of specifications
pub settled_each : (P : Class → Type 0) → ((own : Option Specification) (c : Class) → P c → P (settle_class own c)) → (std : Std) (before : List Allowed) (cs : List Class) →
    Each P cs → Each P (settle_classes std before cs)
settled_each P keeps std before [] h = tt
settled_each P keeps std before (c ∷ cs) h = (keeps (given std before c) c h.0, settled_each P keeps std (behind std before c) cs h.1)

pub settled_functions : (P : Function → Type 0) → ((own : Option Specification) (f : Function) → P f → P (settle_function own f)) → (own : Option Specification) (fs : List Function) →
    Each P fs → Each P (map (settle_function own) fs)
settled_functions P keeps own [] h = tt
settled_functions P keeps own (f ∷ fs) h = (keeps own f h.0, settled_functions P keeps own fs h.1)

-- the same of lists by recursion
pub all_classes : (P : Class → Type 0) → ((own : Option Specification) (c : Class) → P c → P (settle_class own c)) → (std : Std) (before : List Allowed) (cs : List Class) →
    AllByRecursion P cs → AllByRecursion P (settle_classes std before cs)
all_classes P keeps std before [] h = tt
all_classes P keeps std before (c ∷ cs) h = (keeps (given std before c) c h.0, all_classes P keeps std (behind std before c) cs h.1)

pub all_functions : (P : Function → Type 0) → ((own : Option Specification) (f : Function) → P f → P (settle_function own f)) → (own : Option Specification) (fs : List Function) →
    AllByRecursion P fs → AllByRecursion P (map (settle_function own) fs)
all_functions P keeps own [] h = tt
all_functions P keeps own (f ∷ fs) h = (keeps own f h.0, all_functions P keeps own fs h.1)

-- what holds of each type that a specification lists
abbrev pub OfTypes : (Ty → Type 0) → Option Specification → Type 0
OfTypes P None = Unit {0}
OfTypes P (Some (listed types)) = Each P types
OfTypes P (Some (noexcept place b)) = Unit {0}

abbrev pub OfClass : (Ty → Type 0) → Class → Type 0
OfClass P c = Each (λ (f : Function). OfTypes P f.specification) c.functions

module _ (P : Ty → Type 0) where
  abbrev OfAllowed : Allowed → Type 0
  OfAllowed a = Where (Each P) a

  each_both : {A : Type 0} (Q : A → Type 0) (xs ys : List A) → Each Q xs → Each Q ys → Each Q (xs ++ ys)
  each_both Q [] ys h k = k
  each_both Q (x ∷ xs) ys h k = (h.0, each_both Q xs ys h.1 k)

  with_kept : (before types : List Ty) → Each P before → Each P types → Each P (with_types before types)
  with_kept before [] h k = h
  with_kept before (t ∷ types) h k = with_kept (if lists before t then before else before ++ t ∷ []) types (go (lists before t)) k.1
    where
      go : (b : Bool) → Each P (if b then before else before ++ t ∷ [])
      go true = h
      go false = each_both P before (t ∷ []) h (k.0, tt)

  together_kept : (before : List Ty) (more : List Allowed) → Each P before → Each OfAllowed more → OfAllowed (allowed_together before more)
  together_kept before [] h k = h
  together_kept before (None ∷ more) h k = tt
  together_kept before (Some types ∷ more) h k = together_kept (with_types before types) more (with_kept before types h k.0) k.1

  taken_kept : (a : Allowed) → OfAllowed a → OfTypes P (taken a)
  taken_kept None h = tt
  taken_kept (Some []) h = tt
  taken_kept (Some (t ∷ types)) h = go (nat_lt most_taken (length (t ∷ types)))
    where
      go : (b : Bool) → OfTypes P (if b then None else Some (listed (t ∷ types)))
      go true = tt
      go false = h

  option_kept : (o : Option Allowed) → Where OfAllowed o → Each OfAllowed (elim o [ None ↦ [] | Some a ↦ a ∷ [] ])
  option_kept None h = tt
  option_kept (Some a) h = (h, tt)

  at_kept : (before : List Allowed) (k : ℕ) → Each OfAllowed before → Where OfAllowed (slice_get before k)
  at_kept [] k h = tt
  at_kept (a ∷ before) zero h = h.0
  at_kept (a ∷ before) (suc k) h = at_kept before k h.1

  of_kept : (before : List Allowed) (b : Bound) → Each OfAllowed before → Each OfAllowed (allowed_of before b)
  of_kept before (bound.Class k) h = option_kept (slice_get before k) (at_kept before k h)
  of_kept before bound.Free h = tt
  of_kept before (bound.Global n) h = tt
  of_kept before (bound.Local n) h = tt
  of_kept before (bound.Field k i) h = tt
  of_kept before (bound.Func n) h = tt
  of_kept before (bound.Method k i) h = tt
  of_kept before (bound.Builtin b) h = tt

  base_kept : (before : List Allowed) (b : Option Name) → Each OfAllowed before → Each OfAllowed (allowed_of_base before b)
  base_kept before None h = tt
  base_kept before (Some n) h = of_kept before n.bound h

  members_kept : (before : List Allowed) (ps : List Param) → Each OfAllowed before → Each OfAllowed (allowed_of_members before ps)
  members_kept before [] h = tt
  members_kept before (p ∷ ps) h = each_both OfAllowed _ (allowed_of_members before ps) (go p.ty) (members_kept before ps h)
    where
      go : (t : Ty) → Each OfAllowed (elim t [ Object n ↦ allowed_of before n.bound | _ ↦ [] ])
      go Int = tt
      go Void = tt
      go (Object n) = of_kept before n.bound h
      go (IntRef const) = tt
      go (ObjectRef const n) = tt

  given_kept : (std : Std) (before : List Allowed) (c : Class) → Each OfAllowed before → OfTypes P (given std before c)
  given_kept Cxx03 before c h = tt
  given_kept Cxx11 before c h =
      taken_kept _ (together_kept [] (allowed_of_base before c.base ++ allowed_of_members before c.members) tt
      (each_both OfAllowed (allowed_of_base before c.base) (allowed_of_members before c.members) (base_kept before c.base h) (members_kept before c.members h)))

  pub settled_kept : (own : Option Specification) (kind : FuncKind) (o : Option Specification) → OfTypes P own → OfTypes P o → OfTypes P (settled own kind o)
  settled_kept own Destructor None h k = h
  settled_kept own Plain None h k = k
  settled_kept own Method None h k = k
  settled_kept own Constructor None h k = k
  settled_kept own kind (Some (listed types)) h k = k
  settled_kept own kind (Some (noexcept place true)) h k = k
  settled_kept own kind (Some (noexcept place false)) h k = tt

  by_kept : (o : Option Specification) → OfTypes P o → OfAllowed (allowed_by o)
  by_kept None h = tt
  by_kept (Some (listed types)) h = h
  by_kept (Some (noexcept place true)) h = tt
  by_kept (Some (noexcept place false)) h = tt

  destructor_kept : (own : Option Specification) (fs : List Function) → OfTypes P own → Each (λ (f : Function). OfTypes P f.specification) fs → OfTypes P (destructor_of own fs)
  destructor_kept own [] h k = h
  destructor_kept own (f ∷ fs) h k = go f.kind (settled_kept own Destructor f.specification h k.0) (destructor_kept own fs h k.1)
    where
      go : (kind : FuncKind) → OfTypes P (settled own Destructor f.specification) → OfTypes P (destructor_of own fs) →
          OfTypes P (elim kind [ Destructor ↦ settled own Destructor f.specification | _ ↦ destructor_of own fs ])
      go Destructor a b = a
      go Plain a b = b
      go Method a b = b
      go Constructor a b = b

  functions_kept : (own : Option Specification) (fs : List Function) → OfTypes P own → Each (λ (f : Function). OfTypes P f.specification) fs →
      Each (λ (f : Function). OfTypes P f.specification) (map (settle_function own) fs)
  functions_kept own [] h k = tt
  functions_kept own (f ∷ fs) h k = (settled_kept own f.kind f.specification h k.0, functions_kept own fs h k.1)

  pub settled_types : (std : Std) (before : List Allowed) (cs : List Class) → Each OfAllowed before → Each (OfClass P) cs → Each (OfClass P) (settle_classes std before cs)
  settled_types std before [] h k = tt
  settled_types std before (c ∷ cs) h k =
      let own = given_kept std before c h in (
        functions_kept (given std before c) c.functions own k.0,
        settled_types std (behind std before c) cs
            (each_both OfAllowed before _ h (by_kept (destructor_of (given std before c) c.functions) (destructor_kept (given std before c) c.functions own k.0), tt)) k.1,
      )

-- what a destructor takes over, and what counts, lists no more
taken_few : (a : Allowed) → excess (taken a) ≡ 0
taken_few None = refl
taken_few (Some []) = refl
taken_few (Some (t ∷ types)) = go (nat_lt most_taken (length (t ∷ types))) refl
  where
    few : (n : ℕ) → nat_lt most_taken n ≡ false → n - most_taken ≡ 0
    few n e = grind (arith, nat_tests, e)

    go : (b : Bool) → nat_lt most_taken (length (t ∷ types)) ≡ b → excess (if b then None else Some (listed (t ∷ types))) ≡ 0
    go true e = refl
    go false e = few (length (t ∷ types)) e

pub given_few : (std : Std) (before : List Allowed) (c : Class) → excess (given std before c) ≡ 0
given_few Cxx03 before c = refl
given_few Cxx11 before c = taken_few (allowed_together [] (allowed_of_base before c.base ++ allowed_of_members before c.members))

pub settled_few : (own : Option Specification) (kind : FuncKind) (o : Option Specification) → excess own ≡ 0 → excess (settled own kind o) ≤ excess o
settled_few own Destructor None h = omega (arith, h)
settled_few own Plain None h = omega arith
settled_few own Method None h = omega arith
settled_few own Constructor None h = omega arith
settled_few own kind (Some (listed types)) h = omega arith
settled_few own kind (Some (noexcept place true)) h = omega arith
settled_few own kind (Some (noexcept place false)) h = omega arith
