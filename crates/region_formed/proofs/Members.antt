-- A member is no class.
use Rattle.std.proofs.Common.{ℕ, zero, suc, ◌+◌, ◌&&◌, Bool, true, false, List, [], ◌∷◌, length, Option, Some, None, bytes_eq, if◌then◌else◌}
use Rattle.std.specs.Prelude.{slice_get, nat_lt}
use Rattle.cxx_ast.specs.Environment.{Signature, Field, ClassEntry, Environment, Scope, Meaning, unknown, a_field, a_method, a_class}
use Rattle.cxx_ast.specs.Lookup.{in_reach, Found, field_named, is_method, method_named, first_of_two, member_of, own_meaning}

abbrev pub NotClass : Meaning → Type 0
NotClass (a_class k) = ⊥
NotClass _ = Unit {0}

abbrev NotClassFound : Option Found → Type 0
NotClassFound None = Unit {0}
NotClassFound (Some f) = NotClass f.meaning

fields : (limit : Option ℕ) (text : List ℕ) (k i : ℕ) (fs : List Field) → NotClassFound (field_named limit text k i fs)
fields limit text k i [] = tt
fields limit text k i (f ∷ fs) = go (in_reach limit f.name && bytes_eq f.name.text text) (fields limit text k (i + 1) fs)
  where
    go : (b : Bool) → NotClassFound (field_named limit text k (i + 1) fs) →
        NotClassFound (if b then Some (record { place = f.name.place; meaning = a_field k i f.kind }) else field_named limit text k (i + 1) fs)
    go true h = tt
    go false h = h

methods : (limit : Option ℕ) (text : List ℕ) (k i : ℕ) (fs : List Signature) → NotClassFound (method_named limit text k i fs)
methods limit text k i [] = tt
methods limit text k i (f ∷ fs) = go (is_method f.form && in_reach limit f.name && bytes_eq f.name.text text) (methods limit text k (i + 1) fs)
  where
    go : (b : Bool) → NotClassFound (method_named limit text k (i + 1) fs) →
        NotClassFound (if b then Some (record { place = f.name.place; meaning = a_method k i f }) else method_named limit text k (i + 1) fs)
    go true h = tt
    go false h = h

first : (a b : Option Found) → NotClassFound a → NotClassFound b → NotClassFound (first_of_two a b)
first None b h k = k
first (Some a) None h k = h
first (Some a) (Some b) h k = go (nat_lt b.place a.place)
  where
    go : (c : Bool) → NotClassFound (if c then Some b else Some a)
    go true = k
    go false = h

members : (n : ℕ) (env : Environment) (k : ℕ) (limit : Option ℕ) (text : List ℕ) → NotClass (member_of n env k limit text)
members zero env k limit text = tt
members (suc n) env k limit text = of_class (λ b. members n env b limit text) (slice_get env.classes k)
  where
    of_base : ((b : ℕ) → NotClass (member_of n env b limit text)) → (base : Option ℕ) → NotClass (elim base [ None ↦ unknown | Some b ↦ member_of n env b limit text ])
    of_base rest None = tt
    of_base rest (Some b) = rest b

    of_found : ((b : ℕ) → NotClass (member_of n env b limit text)) → (c : ClassEntry) (f : Option Found) → NotClassFound f →
        NotClass (elim f [ Some found ↦ found.meaning | None ↦ elim c.base [ None ↦ unknown | Some b ↦ member_of n env b limit text ] ])
    of_found rest c (Some f) h = h
    of_found rest c None h = of_base rest c.base

    of_class : ((b : ℕ) → NotClass (member_of n env b limit text)) → (o : Option ClassEntry) → NotClass (elim o [
      | None ↦ unknown
      | Some c ↦ elim (first_of_two (field_named limit text k 0 c.fields) (method_named limit text k 0 c.functions)) [
        | Some found ↦ found.meaning
        | None ↦ elim c.base [ None ↦ unknown | Some b ↦ member_of n env b limit text ]
      ]
    ])
    of_class rest None = tt
    of_class rest (Some c) = of_found rest c (first_of_two (field_named limit text k 0 c.fields) (method_named limit text k 0 c.functions))
        (first (field_named limit text k 0 c.fields) (method_named limit text k 0 c.functions) (fields limit text k 0 c.fields) (methods limit text k 0 c.functions))

pub own_not_class : (env : Environment) (sc : Scope) (text : List ℕ) → NotClass (own_meaning env sc text)
own_not_class env sc text = go sc.own
  where
    go : (o : Option ℕ) → NotClass (elim o [ None ↦ unknown | Some k ↦ member_of (length env.classes) env k sc.limit text ])
    go None = tt
    go (Some k) = members (length env.classes) env k sc.limit text
