-- What a name means where it stands: a variable in reach, or a member of a class that the own one is or derives from.
use Rattle.std.proofs.Common.{◌≡◌, ◌∙◌, ◌+◌, ◌<◌, ◌&&◌, ◌||◌, ◌==◌, ℕ, zero, suc, Bool, true, false, List, [], ◌∷◌, length, Option, Some, None, bytes_eq, find, codes, if◌then◌else◌, refl, sym, ap, subst, arith}
use Rattle.std.specs.Prelude.{slice_get, unwrap_or, nat_lt}
use Rattle.std.proofs.lemmas.Bool.Decides.{nat_tests}
use Rattle.cxx_ast.specs.declared.name.Name.{Name}
use Rattle.cxx_ast.specs.declared.name.Builtin.TheVariants.{WriteInt, ReadByte, Exit, Module, Cancel}
use Rattle.cxx_ast.specs.declared.declaration.FuncKind.{FuncKind}
use Rattle.cxx_ast.specs.declared.declaration.FuncKind.TheVariants.{Plain, Method, Constructor, Destructor}
use Rattle.cxx_ast.specs.Plain.{Checked, Function}
use Rattle.cxx_ast.specs.Environment.{Signature, Field, ClassEntry, Thing, global_thing, class_thing, function_thing, Entry, Environment, Variable, Scope, Meaning, unknown, a_local, a_field, a_method, a_global, a_function, a_class, a_builtin}
use Rattle.cxx_ast.specs.Lookup.{variable_named, in_reach, Found, field_named, is_method, method_named, first_of_two, member_of, own_meaning, builtin_named, function_meaning, thing_meaning, entry_of, outer_meaning, look, derives_within, derives}
use Rattle.cxx_ast.specs.Grammatical.{Each}
use Rattle.cxx_ast.specs.Checked.{IsChecked}
use Rattle.meaning_forms.specs.Class.{no_function, class_at, method_at}
use Rattle.meaning_forms.specs.Frame.{Variable as FrameVariable}
use Rattle.class_layout.proofs.Named.{ThingBelow}
use Rattle.region_simulation.specs.Reach.{is_in_reach}
use Rattle.region_formed.proofs.Meant.{MethodsMeant, Meant, MemberMeant}
use Rattle.region_formed.proofs.Meanings.{found_each, member_meant}
use Rattle.region_typed.specs.Known.{ClassesKnown, InReach}

-- a member of class k itself
abbrev OwnMember : Checked → ℕ → Meaning → Type 0
OwnMember p k (a_field j i kind) = j ≡ k
OwnMember p k (a_method j i s) = (j ≡ k) × ((method_at p j i).kind ≡ Method)
OwnMember p k _ = Unit {0}

abbrev FoundOwn : Checked → ℕ → Option Found → Type 0
FoundOwn p k None = Unit {0}
FoundOwn p k (Some f) = OwnMember p k f.meaning

field_own : (p : Checked) (k : ℕ) (limit : Option ℕ) (text : List ℕ) (i : ℕ) (fs : List Field) → FoundOwn p k (field_named limit text k i fs)
field_own p k limit text i [] = tt
field_own p k limit text i (f ∷ fs) = go (in_reach limit f.name && bytes_eq f.name.text text) (field_own p k limit text (i + 1) fs)
  where
    go : (b : Bool) → FoundOwn p k (field_named limit text k (i + 1) fs) →
        FoundOwn p k (if b then Some (record { place = f.name.place; meaning = a_field k i f.kind }) else field_named limit text k (i + 1) fs)
    go true rest = refl
    go false rest = rest

method_form : (form : FuncKind) → is_method form ≡ true → form ≡ Method
method_form Method h = refl
method_form Plain h = absurd (cc h)
method_form Constructor h = absurd (cc h)
method_form Destructor h = absurd (cc h)

front_true : (a b : Bool) → (a && b) ≡ true → a ≡ true
front_true true b h = refl
front_true false b h = absurd (cc h)

method_own : (p : Checked) (k n : ℕ) (limit : Option ℕ) (text name : List ℕ) (i : ℕ) (ss : List Signature) (fs : List Function) → MethodsMeant n name ss fs →
    ((j : ℕ) (f : Function) → slice_get fs j ≡ Some f → method_at p k (i + j) ≡ f) → FoundOwn p k (method_named limit text k i ss)
method_own p k n limit text name i [] fs h at = tt
method_own p k n limit text name i (s ∷ ss) [] h at = absurd h
method_own p k n limit text name i (s ∷ ss) (f ∷ fs) h at =
    go (is_method s.form && in_reach limit s.name && bytes_eq s.name.text text) refl
    (method_own p k n limit text name (i + 1) ss fs h.1 (λ j x e. let same : i + suc j ≡ i + 1 + j = omega arith in subst (λ m. method_at p k m ≡ x) same (at (suc j) x e)))
  where
    go : (b : Bool) → (is_method s.form && in_reach limit s.name && bytes_eq s.name.text text) ≡ b → FoundOwn p k (method_named limit text k (i + 1) ss) →
        FoundOwn p k (if b then Some (record { place = s.name.place; meaning = a_method k i s }) else method_named limit text k (i + 1) ss)
    go true e rest =
        let none : i + 0 ≡ i = omega arith in
        let here = subst (λ m. method_at p k m ≡ f) none (at 0 f refl) in
        let is = method_form s.form (front_true (is_method s.form) _ (front_true (is_method s.form && in_reach limit s.name) _ e)) in
        (refl, ap (λ g. g.kind) here ∙ (sym h.0.form ∙ is))
    go false e rest = rest

first_own : (p : Checked) (k : ℕ) (a b : Option Found) → FoundOwn p k a → FoundOwn p k b → FoundOwn p k (first_of_two a b)
first_own p k None b ha hb = hb
first_own p k (Some a) None ha hb = ha
first_own p k (Some a) (Some b) ha hb = go (nat_lt b.place a.place)
  where
    go : (c : Bool) → FoundOwn p k (if c then Some b else Some a)
    go true = hb
    go false = ha

-- a member of class k or of one of its bases, by a chain of at most n classes; a function is a member function
abbrev MemberWithin : ℕ → Checked → Environment → ℕ → Meaning → Type 0
MemberWithin n p env k (a_field j i kind) = derives_within n env k j ≡ true
MemberWithin n p env k (a_method j i s) = (derives_within n env k j ≡ true) × ((method_at p j i).kind ≡ Method)
MemberWithin n p env k _ = Unit {0}

abbrev pub MemberIn : Checked → Environment → ℕ → Meaning → Type 0
MemberIn p env k m = MemberWithin (length env.classes) p env k m

same_number : (n : ℕ) → (n == n) ≡ true
same_number n = grind (arith, nat_tests)

or_first : (a b : Bool) → a ≡ true → (a || b) ≡ true
or_first true b h = refl
or_first false b h = absurd (cc h)

or_second : (a b : Bool) → b ≡ true → (a || b) ≡ true
or_second true b h = refl
or_second false b h = h

own_within : (n : ℕ) (p : Checked) (env : Environment) (k : ℕ) (m : Meaning) → OwnMember p k m → MemberWithin (suc n) p env k m
own_within n p env k (a_field j i kind) h = or_first (k == j) _ (subst (λ x. (k == x) ≡ true) (sym h) (same_number k))
own_within n p env k (a_method j i s) h = (or_first (k == j) _ (subst (λ x. (k == x) ≡ true) (sym h.0) (same_number k)), h.1)
own_within n p env k unknown h = tt
own_within n p env k (a_local v) h = tt
own_within n p env k (a_global x) h = tt
own_within n p env k (a_function s) h = tt
own_within n p env k (a_class j) h = tt
own_within n p env k (a_builtin b) h = tt

-- what derives from a base derives from what that derives from
base_derives : (n : ℕ) (env : Environment) (k b j : ℕ) (c : ClassEntry) → slice_get env.classes k ≡ Some c → c.base ≡ Some b → derives_within n env b j ≡ true →
    derives_within (suc n) env k j ≡ true
base_derives n env k b j c e q h =
    or_second (k == j) _
    (ap (λ o. elim o as (λ x. Bool) [ None ↦ false | Some d ↦ elim d.base [ None ↦ false | Some i ↦ derives_within n env i j ] ]) e
    ∙ (ap (λ o. elim o as (λ x. Bool) [ None ↦ false | Some i ↦ derives_within n env i j ]) q ∙ h))

base_within : (n : ℕ) (p : Checked) (env : Environment) (k b : ℕ) (c : ClassEntry) → slice_get env.classes k ≡ Some c → c.base ≡ Some b → (m : Meaning) → MemberWithin n p env b m →
    MemberWithin (suc n) p env k m
base_within n p env k b c e q (a_field j i kind) h = base_derives n env k b j c e q h
base_within n p env k b c e q (a_method j i s) h = (base_derives n env k b j c e q h.0, h.1)
base_within n p env k b c e q unknown h = tt
base_within n p env k b c e q (a_local v) h = tt
base_within n p env k b c e q (a_global x) h = tt
base_within n p env k b c e q (a_function s) h = tt
base_within n p env k b c e q (a_class j) h = tt
base_within n p env k b c e q (a_builtin x) h = tt

module _ (p : Checked) (defined special : List (List ℕ)) (env : Environment) (h : Meant p defined special env) where
  members_within : (n k : ℕ) (limit : Option ℕ) (text : List ℕ) → MemberWithin n p env k (member_of n env k limit text)
  members_within zero k limit text = tt
  members_within (suc n) k limit text = of_class (λ b. members_within n b limit text) (slice_get env.classes k) refl
    where
      derived : ((b : ℕ) → MemberWithin n p env b (member_of n env b limit text)) → (c : ClassEntry) → slice_get env.classes k ≡ Some c → (base : Option ℕ) → c.base ≡ base →
          MemberWithin (suc n) p env k (elim base [ None ↦ unknown | Some b ↦ member_of n env b limit text ])
      derived rest c e None q = tt
      derived rest c e (Some b) q = base_within n p env k b c e q (member_of n env b limit text) (rest b)

      own : ((b : ℕ) → MemberWithin n p env b (member_of n env b limit text)) → (c : ClassEntry) → slice_get env.classes k ≡ Some c → (f : Option Found) → FoundOwn p k f →
          MemberWithin (suc n) p env k (elim f [ Some found ↦ found.meaning | None ↦ elim c.base [ None ↦ unknown | Some b ↦ member_of n env b limit text ] ])
      own rest c e (Some f) q = own_within n p env k f.meaning q
      own rest c e None q = derived rest c e c.base refl

      of_class : ((b : ℕ) → MemberWithin n p env b (member_of n env b limit text)) → (o : Option ClassEntry) → slice_get env.classes k ≡ o → MemberWithin (suc n) p env k (elim o [
        | None ↦ unknown
        | Some c ↦ elim (first_of_two (field_named limit text k 0 c.fields) (method_named limit text k 0 c.functions)) [
          | Some found ↦ found.meaning
          | None ↦ elim c.base [ None ↦ unknown | Some b ↦ member_of n env b limit text ]
        ]
      ])
      of_class rest None q = tt
      of_class rest (Some c) q =
          own rest c q (first_of_two (field_named limit text k 0 c.fields) (method_named limit text k 0 c.functions))
          (first_own p k (field_named limit text k 0 c.fields) (method_named limit text k 0 c.functions) (field_own p k limit text 0 c.fields)
          (method_own p k (length p.classes) limit text c.name 0 c.functions (class_at p k).functions (h.classes k c q).functions
          (λ j f e. let same : j ≡ 0 + j = omega arith in subst (λ m. method_at p k m ≡ f) same (ap (λ o. unwrap_or o no_function) e))))

  -- what a name means as a member of class k
  pub member_in : (k : ℕ) (limit : Option ℕ) (text : List ℕ) → MemberIn p env k (member_of (length env.classes) env k limit text)
  member_in k limit text = members_within (length env.classes) k limit text

-- what a name means in a function of a class, or of none, with these variables in reach
abbrev pub NameIn : Checked → Environment → List FrameVariable → Option ℕ → Meaning → Type 0
NameIn p env xs own (a_local v) = is_in_reach xs v.number ≡ true
NameIn p env xs own (a_field j i kind) = elim own [ None ↦ ⊥ | Some k ↦ derives env k j ≡ true ]
NameIn p env xs own (a_function s) = (text : List ℕ) × (find (λ s. bytes_eq s.name.text text) env.signatures ≡ Some s)
NameIn p env xs own (a_class k) = k < length env.classes
NameIn p env xs own (a_method j i s) = elim own [ None ↦ ⊥ | Some k ↦ (derives env k j ≡ true) × ((method_at p j i).kind ≡ Method) ]
NameIn p env xs own _ = Unit {0}

-- a member of the own class is no variable
member_named : (p : Checked) (env : Environment) (xs : List FrameVariable) (k : ℕ) (m : Meaning) → MemberMeant p k m → MemberIn p env k m → NameIn p env xs (Some k) m
member_named p env xs k (a_field j i kind) a b = b
member_named p env xs k (a_method j i s) a b = b
member_named p env xs k (a_local v) a b = absurd a
member_named p env xs k unknown a b = tt
member_named p env xs k (a_global x) a b = tt
member_named p env xs k (a_function s) a b = absurd a
member_named p env xs k (a_class j) a b = absurd a
member_named p env xs k (a_builtin x) a b = tt

-- a name of the outermost scope is neither
module _ (p : Checked) (env : Environment) (classes : ClassesKnown env) (xs : List FrameVariable) (own : Option ℕ) where
  builtin_in : (text : List ℕ) → NameIn p env xs own (builtin_named text)
  builtin_in text = go (bytes_eq text (codes "write_int")) (bytes_eq text (codes "read_byte")) (bytes_eq text (codes "exit")) (bytes_eq text (codes "__module")) (bytes_eq text (codes "__cancel"))
    where
      go : (a b c d e : Bool) → NameIn p env xs own (if a then a_builtin WriteInt else if b then a_builtin ReadByte else if c then a_builtin Exit
          else if d then a_builtin Module else if e then a_builtin Cancel else unknown)
      go true b c d e = tt
      go false true c d e = tt
      go false false true d e = tt
      go false false false true e = tt
      go false false false false true = tt
      go false false false false false = tt

  function_in : (text : List ℕ) (o : Option Signature) → find (λ s. bytes_eq s.name.text text) env.signatures ≡ o → NameIn p env xs own (function_meaning o)
  function_in text None e = tt
  function_in text (Some s) e = (text, e)

  thing_in : (text : List ℕ) (o : Option Entry) → entry_of env text ≡ o → NameIn p env xs own (thing_meaning env text o)
  thing_in text None q = builtin_in text
  thing_in text (Some e) q = go e.thing (found_each (λ (x : Entry). ThingBelow (length env.classes) x.thing) (λ x. bytes_eq x.text text) env.names e classes q)
    where
      go : (t : Thing) → ThingBelow (length env.classes) t → NameIn p env xs own (elim t [
        | global_thing n ↦ a_global n
        | class_thing k ↦ a_class k
        | function_thing ↦ function_meaning (find (λ s. bytes_eq s.name.text text) env.signatures)
      ])
      go (global_thing n) h = tt
      go (class_thing k) h = h
      go function_thing h = function_in text (find (λ s. bytes_eq s.name.text text) env.signatures) refl

  outer_in : (sc : Scope) (text : List ℕ) (m : Meaning) → NameIn p env xs own m → NameIn p env xs own (outer_meaning env sc text m)
  outer_in sc text unknown h = thing_in text (entry_of env text) refl
  outer_in sc text (a_local v) h = h
  outer_in sc text (a_field j i kind) h = h
  outer_in sc text (a_method j i s) h = h
  outer_in sc text (a_global x) h = h
  outer_in sc text (a_function s) h = h
  outer_in sc text (a_class j) h = h
  outer_in sc text (a_builtin b) h = h

module _ (p : Checked) (checked : IsChecked p) (defined special : List (List ℕ)) (env : Environment) (h : Meant p defined special env)
    (classes : ClassesKnown env) (xs : List FrameVariable) (sc : Scope) (r : InReach xs sc) where
  own_in : (text : List ℕ) → NameIn p env xs sc.own (own_meaning env sc text)
  own_in text = go sc.own
    where
      go : (o : Option ℕ) → NameIn p env xs o (elim o [ None ↦ unknown | Some k ↦ member_of (length env.classes) env k sc.limit text ])
      go None = tt
      go (Some k) =
          member_named p env xs k (member_of (length env.classes) env k sc.limit text)
          (member_meant p checked defined special env h (length env.classes) k sc.limit text) (member_in p defined special env h k sc.limit text)

  local_in : (text : List ℕ) (rows : List (List Variable)) → Each (Each (λ (v : Variable). is_in_reach xs v.number ≡ true)) rows → (v : Variable) → variable_named text rows ≡ Some v →
      is_in_reach xs v.number ≡ true
  local_in text [] q v e = absurd (cc e)
  local_in text (row ∷ rows) q v e = go (find (λ v. bytes_eq v.text text) row) refl e (local_in text rows q.1 v)
    where
      go : (o : Option Variable) → find (λ v. bytes_eq v.text text) row ≡ o → elim o [ Some v ↦ Some v | None ↦ variable_named text rows ] ≡ Some v →
          (variable_named text rows ≡ Some v → is_in_reach xs v.number ≡ true) → is_in_reach xs v.number ≡ true
      go (Some w) a k rest =
          let same : w ≡ v = cc k in
          subst (λ (x : Variable). is_in_reach xs x.number ≡ true) same
          (found_each (λ (x : Variable). is_in_reach xs x.number ≡ true) (λ v. bytes_eq v.text text) row w q.0 a)
      go None a k rest = rest k

  -- what a name means where it stands
  pub look_in : (n : Name) → NameIn p env xs sc.own (look env sc n)
  look_in n = go (variable_named n.text sc.locals) refl
    where
      go : (o : Option Variable) → variable_named n.text sc.locals ≡ o →
          NameIn p env xs sc.own (elim o [ Some v ↦ a_local v | None ↦ outer_meaning env sc n.text (own_meaning env sc n.text) ])
      go (Some v) q = local_in n.text sc.locals r v q
      go None q = outer_in p env classes xs sc.own sc n.text (own_meaning env sc n.text) (own_in n.text)
