-- A name that stands for a class stands for one that is declared.
use Rattle.std.proofs.Common.{◌≡◌, ℕ, zero, suc, ◌+◌, ◌<◌, ◌&&◌, Bool, true, false, List, [], ◌∷◌, ◌++◌, Option, Some, None, refl, subst, arith, length, bytes_eq, codes}
use Rattle.std.specs.Prelude.{find, nat_lt, slice_get, if◌then◌else◌}
use Rattle.cxx_ast.specs.declared.name.Name.{Name}
use Rattle.cxx_ast.specs.declared.name.Builtin.TheVariants.{WriteInt, ReadByte, Exit, Module, Cancel}
use Rattle.cxx_ast.specs.declared.name.Bound.TheVariants.{Class}
use Rattle.cxx_ast.specs.Finding.{is_sound}
use Rattle.cxx_ast.specs.Spelling.{is_bad_exception}
use Rattle.cxx_ast.specs.Environment.{Kind, class_kind, Signature, Field, ClassEntry, Thing, global_thing, class_thing, function_thing, Entry, Environment, Variable, Scope, Meaning, unknown, a_local, a_field, a_method, a_global, a_function, a_class, a_builtin}
use Rattle.cxx_ast.specs.Lookup.{variable_named, in_reach, Found, field_named, is_method, method_named, first_of_two, member_of, own_meaning, builtin_named, function_meaning, thing_meaning, entry_of, outer_meaning, look}
use Rattle.cxx_ast.specs.TypeNames.{class_meant, class_wanted, class_of_name, class_found}
use Rattle.cxx_ast.specs.Resolve.{bind, bound_of, resolve_class}
use Rattle.meaning_forms.specs.Class.{class_named}

-- a class that a name stands for is one of the first n
abbrev pub ThingBelow : ℕ → Thing → Type 0
ThingBelow n (class_thing k) = k < n
ThingBelow n _ = Unit {0}

-- so are those of all names
abbrev pub Known : ℕ → List Entry → Type 0
Known n [] = Unit {0}
Known n (e ∷ es) = ThingBelow n e.thing × Known n es

thing_more : (n : ℕ) (t : Thing) → ThingBelow n t → ThingBelow (suc n) t
thing_more n (class_thing k) h = omega (arith, h)
thing_more n (global_thing g) h = tt
thing_more n function_thing h = tt

pub known_more : (n : ℕ) (es : List Entry) → Known n es → Known (suc n) es
known_more n [] h = tt
known_more n (e ∷ es) h = (thing_more n e.thing h.0, known_more n es h.1)

pub known_and : (n : ℕ) (es : List Entry) (e : Entry) → Known n es → ThingBelow n e.thing → Known n (es ++ e ∷ [])
known_and n [] e h t = (t, tt)
known_and n (x ∷ es) e h t = (h.0, known_and n es e h.1 t)

-- an entry that is found is one of them
entry_below : (n : ℕ) (test : Entry → Bool) (es : List Entry) (e : Entry) → Known n es → find test es ≡ Some e → ThingBelow n e.thing
entry_below n test [] e k h = absurd (cc h)
entry_below n test (x ∷ es) e k h = go (test x) h (entry_below n test es e k.1)
  where
    go : (b : Bool) → (if b then Some x else find test es) ≡ Some e → (find test es ≡ Some e → ThingBelow n e.thing) → ThingBelow n e.thing
    go true q rest = let s : x ≡ e = cc q in subst (λ y. ThingBelow n y.thing) s k.0
    go false q rest = rest q

-- a meaning is no class
abbrev NoClass : Meaning → Type 0
NoClass (a_class k) = ⊥
NoClass _ = Unit {0}

abbrev NoClassFound : Option Found → Type 0
NoClassFound None = Unit {0}
NoClassFound (Some f) = NoClass f.meaning

-- a member is no class
field_no_class : (limit : Option ℕ) (text : List ℕ) (k i : ℕ) (fs : List Field) → NoClassFound (field_named limit text k i fs)
field_no_class limit text k i [] = tt
field_no_class limit text k i (f ∷ fs) = go (in_reach limit f.name && bytes_eq f.name.text text) (field_no_class limit text k (i + 1) fs)
  where
    go : (b : Bool) → NoClassFound (field_named limit text k (i + 1) fs) →
        NoClassFound (if b then Some (record { place = f.name.place; meaning = a_field k i f.kind }) else field_named limit text k (i + 1) fs)
    go true h = tt
    go false h = h

method_no_class : (limit : Option ℕ) (text : List ℕ) (k i : ℕ) (fs : List Signature) → NoClassFound (method_named limit text k i fs)
method_no_class limit text k i [] = tt
method_no_class limit text k i (f ∷ fs) =
    go (is_method f.form && in_reach limit f.name && bytes_eq f.name.text text) (method_no_class limit text k (i + 1) fs)
  where
    go : (b : Bool) → NoClassFound (method_named limit text k (i + 1) fs) →
        NoClassFound (if b then Some (record { place = f.name.place; meaning = a_method k i f }) else method_named limit text k (i + 1) fs)
    go true h = tt
    go false h = h

first_no_class : (a b : Option Found) → NoClassFound a → NoClassFound b → NoClassFound (first_of_two a b)
first_no_class None b ha hb = hb
first_no_class (Some a) None ha hb = ha
first_no_class (Some a) (Some b) ha hb = go (nat_lt b.place a.place)
  where
    go : (c : Bool) → NoClassFound (if c then Some b else Some a)
    go true = hb
    go false = ha

member_no_class : (n : ℕ) (env : Environment) (k : ℕ) (limit : Option ℕ) (text : List ℕ) → NoClass (member_of n env k limit text)
member_no_class zero env k limit text = tt
member_no_class (suc n) env k limit text = of_class (λ b. member_no_class n env b limit text) (slice_get env.classes k)
  where
    inherited : ((b : ℕ) → NoClass (member_of n env b limit text)) → (base : Option ℕ) →
        NoClass (elim base [ None ↦ unknown | Some b ↦ member_of n env b limit text ])
    inherited rest None = tt
    inherited rest (Some b) = rest b

    own : ((b : ℕ) → NoClass (member_of n env b limit text)) → (c : ClassEntry) (f : Option Found) → NoClassFound f →
        NoClass (elim f [ Some found ↦ found.meaning | None ↦ elim c.base [ None ↦ unknown | Some b ↦ member_of n env b limit text ] ])
    own rest c (Some f) h = h
    own rest c None h = inherited rest c.base

    of_class : ((b : ℕ) → NoClass (member_of n env b limit text)) → (o : Option ClassEntry) → NoClass (elim o [
      | None ↦ unknown
      | Some c ↦ elim (first_of_two (field_named limit text k 0 c.fields) (method_named limit text k 0 c.functions)) [
        | Some found ↦ found.meaning
        | None ↦ elim c.base [ None ↦ unknown | Some b ↦ member_of n env b limit text ]
      ]
    ])
    of_class rest None = tt
    of_class rest (Some c) = own rest c (first_of_two (field_named limit text k 0 c.fields) (method_named limit text k 0 c.functions))
        (first_no_class (field_named limit text k 0 c.fields) (method_named limit text k 0 c.functions)
        (field_no_class limit text k 0 c.fields) (method_no_class limit text k 0 c.functions))

own_no_class : (env : Environment) (sc : Scope) (text : List ℕ) → NoClass (own_meaning env sc text)
own_no_class env sc text = go sc.own
  where
    go : (o : Option ℕ) → NoClass (elim o [ None ↦ unknown | Some k ↦ member_of (length env.classes) env k sc.limit text ])
    go None = tt
    go (Some k) = member_no_class (length env.classes) env k sc.limit text

-- a meaning is one of the first n classes, or no class
abbrev pub Below : ℕ → Meaning → Type 0
Below n (a_class k) = k < n
Below n _ = Unit {0}

builtin_below : (n : ℕ) (text : List ℕ) → Below n (builtin_named text)
builtin_below n text = go (bytes_eq text (codes "write_int")) (bytes_eq text (codes "read_byte")) (bytes_eq text (codes "exit")) (bytes_eq text (codes "__module")) (bytes_eq text (codes "__cancel"))
  where
    go : (a b c d e : Bool) → Below n (if a then a_builtin WriteInt else if b then a_builtin ReadByte else if c then a_builtin Exit
        else if d then a_builtin Module else if e then a_builtin Cancel else unknown)
    go true b c d e = tt
    go false true c d e = tt
    go false false true d e = tt
    go false false false true e = tt
    go false false false false true = tt
    go false false false false false = tt

function_below : (n : ℕ) (o : Option Signature) → Below n (function_meaning o)
function_below n None = tt
function_below n (Some s) = tt

thing_below : (n : ℕ) (env : Environment) (text : List ℕ) (o : Option Entry) → ((e : Entry) → o ≡ Some e → ThingBelow n e.thing) → Below n (thing_meaning env text o)
thing_below n env text None h = builtin_below n text
thing_below n env text (Some e) h = go e.thing (h e refl)
  where
    go : (t : Thing) → ThingBelow n t → Below n (elim t [
      | global_thing g ↦ a_global g
      | class_thing k ↦ a_class k
      | function_thing ↦ function_meaning (find (λ s. bytes_eq s.name.text text) env.signatures)
    ])
    go (global_thing g) h = tt
    go (class_thing k) h = h
    go function_thing h = function_below n (find (λ s. bytes_eq s.name.text text) env.signatures)

outer_below : (n : ℕ) (env : Environment) (sc : Scope) (text : List ℕ) (m : Meaning) → NoClass m → Known n env.names → Below n (outer_meaning env sc text m)
outer_below n env sc text unknown h k =
    thing_below n env text (entry_of env text) (λ e q. entry_below n (λ x. bytes_eq x.text text) env.names e k q)
outer_below n env sc text (a_class j) h k = absurd h
outer_below n env sc text (a_local v) h k = tt
outer_below n env sc text (a_field i j kind) h k = tt
outer_below n env sc text (a_method i j s) h k = tt
outer_below n env sc text (a_global g) h k = tt
outer_below n env sc text (a_function s) h k = tt
outer_below n env sc text (a_builtin b) h k = tt

look_below : (n : ℕ) (env : Environment) (sc : Scope) (name : Name) → Known n env.names → Below n (look env sc name)
look_below n env sc name k = go (variable_named name.text sc.locals)
  where
    go : (o : Option Variable) → Below n (elim o [ Some v ↦ a_local v | None ↦ outer_meaning env sc name.text (own_meaning env sc name.text) ])
    go (Some v) = tt
    go None = outer_below n env sc name.text (own_meaning env sc name.text) (own_no_class env sc name.text) k

-- a type that is a class, and the name to which it is bound, are one of the first n classes
pub record Stands (n : ℕ) (kind : Kind) (name : Name) : Type 0 where
  pub number : ℕ
  pub kind_is : kind ≡ class_kind number
  pub name_is : class_named name ≡ number
  pub below : number < n

-- where no rule is broken in the name of a class
pub name_stands : (n : ℕ) (env : Environment) (sc : Scope) (name : Name) → 0 < n → Known n env.names → is_sound (class_found env sc name) ≡ true →
    Stands n (class_of_name env sc name) (resolve_class env sc name)
name_stands n env sc name some k sound = go (is_bad_exception name) (look env sc name) (look_below n env sc name k) sound
  where
    go : (b : Bool) (m : Meaning) → Below n m → is_sound (if b then [] else class_wanted name.place m) ≡ true →
        Stands n (if b then class_kind 0 else class_meant m) (if b then bind name (Class 0) else bind name (bound_of env m))
    go true m h s = record { number = 0; kind_is = refl; name_is = refl; below = some }
    go false (a_class j) h s = record { number = j; kind_is = refl; name_is = refl; below = h }
    go false unknown h s = absurd (cc s)
    go false (a_local v) h s = absurd (cc s)
    go false (a_field i j kind) h s = absurd (cc s)
    go false (a_method i j x) h s = absurd (cc s)
    go false (a_global g) h s = absurd (cc s)
    go false (a_function x) h s = absurd (cc s)
    go false (a_builtin x) h s = absurd (cc s)
