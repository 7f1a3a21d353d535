-- What each name means that is sought in a function of a checked program.
use Rattle.std.proofs.Common.{◌≡◌, ◌∙◌, ◌+◌, ◌<◌, ◌≤◌, ◌&&◌, ℕ, zero, suc, Bool, true, false, List, [], ◌∷◌, length, Option, Some, None, option_map, bytes_eq, find, codes, if◌then◌else◌, refl, sym, subst, arith}
use Rattle.std.specs.Prelude.{slice_get, unwrap_or, nat_lt}
use Rattle.cxx_ast.specs.declared.name.Name.{Name}
use Rattle.cxx_ast.specs.declared.name.Builtin.TheVariants.{WriteInt, ReadByte, Exit, Module, Cancel}
use Rattle.cxx_ast.specs.declared.types.Param.{Param}
use Rattle.cxx_ast.specs.Plain.{Checked, Function}
use Rattle.cxx_ast.specs.Environment.{Signature, Field, ClassEntry, Thing, global_thing, class_thing, function_thing, Entry, Environment, Variable, Scope, Meaning, unknown, a_local, a_field, a_method, a_global, a_function, a_class, a_builtin}
use Rattle.cxx_ast.specs.Lookup.{variable_named, in_reach, Found, field_named, is_method, method_named, first_of_two, member_of, own_meaning, builtin_named, function_meaning, thing_meaning, entry_of, outer_meaning, look}
use Rattle.cxx_ast.specs.Grammatical.{Each}
use Rattle.cxx_ast.specs.Checked.{IsChecked}
use Rattle.meaning_forms.specs.Class.{class_type, class_named, no_function, class_at, method_at}
use Rattle.region_forms.specs.Layout.{class_parts}
use Rattle.class_layout.proofs.Apart.{stand_apart}
use Rattle.class_layout.proofs.Program.{classes_fit}
use Rattle.region_ir.proofs.EachFunction.{class_there}
use Rattle.region_formed.proofs.Meant.{ParamsMeant, MethodsMeant, FieldsMeant, EntryMeant, ThingMeant, Meant, Given, size_in_program, VariableMeant, Reach, MemberMeant, MeaningMeant}

-- an item of a list that is found is one of them
pub found_each : {A : Type 0} (P : A → Type 0) (test : A → Bool) (xs : List A) (x : A) → Each P xs → find test xs ≡ Some x → P x
found_each P test [] x h e = absurd (cc e)
found_each P test (y ∷ xs) x h e = go (test y) e (found_each P test xs x h.1)
  where
    go : (b : Bool) → (if b then Some y else find test xs) ≡ Some x → (find test xs ≡ Some x → P x) → P x
    go true q rest = let same : y ≡ x = cc q in subst P same h.0
    go false q rest = rest q

-- it passes the test
pub found_passes : {A : Type 0} (test : A → Bool) (xs : List A) (x : A) → find test xs ≡ Some x → test x ≡ true
found_passes test [] x e = absurd (cc e)
found_passes test (y ∷ xs) x e = go (test y) refl e (found_passes test xs x)
  where
    go : (b : Bool) → test y ≡ b → (if b then Some y else find test xs) ≡ Some x → (find test xs ≡ Some x → test x ≡ true) → test x ≡ true
    go true t q rest = let same : y ≡ x = cc q in subst (λ z. test z ≡ true) same t
    go false t q rest = rest q

-- a base is no larger than what derives from it
base_size : (p : Checked) → IsChecked p → (k b : ℕ) (base : Option Name) → k < length p.classes → (class_at p k).base ≡ base → option_map class_named base ≡ Some b →
    size_in_program p (class_type b) ≤ size_in_program p (class_type k)
base_size p c k b None h e q = absurd (cc q)
base_size p c k b (Some n) h e q =
    let same : class_named n ≡ b = cc q in
    let part : slice_get (class_parts (class_at p k)) 0 ≡ Some (class_type (class_named n)) = rw e refl in
    let inside = (stand_apart p.classes (classes_fit p c)).inside k (class_at p k) 0 (class_type (class_named n)) (class_there p k h) part in
    subst (λ j. size_in_program p (class_type j) ≤ size_in_program p (class_type k)) same (omega (arith, inside))

-- what is found among members
abbrev FoundMeant : Checked → ℕ → Option Found → Type 0
FoundMeant p k None = Unit {0}
FoundMeant p k (Some f) = MemberMeant p k f.meaning

module _ (p : Checked) (k : ℕ) (below : k < length p.classes) where
  -- those from the i-th on
  field_meant : (limit : Option ℕ) (text : List ℕ) (i : ℕ) (fs : List Field) (ms : List Param) → FieldsMeant (length p.classes) fs ms →
      ((j : ℕ) (m : Param) → slice_get ms j ≡ Some m → slice_get (class_at p k).members (i + j) ≡ Some m) →
      FoundMeant p k (field_named limit text k i fs)
  field_meant limit text i [] ms h at = tt
  field_meant limit text i (f ∷ fs) [] h at = absurd h
  field_meant limit text i (f ∷ fs) (m ∷ ms) h at =
      go (in_reach limit f.name && bytes_eq f.name.text text)
      (field_meant limit text (i + 1) fs ms h.1 (λ j x e. let same : i + suc j ≡ i + 1 + j = omega arith in subst (λ n. slice_get (class_at p k).members n ≡ Some x) same (at (suc j) x e)))
    where
      go : (b : Bool) → FoundMeant p k (field_named limit text k (i + 1) fs) →
          FoundMeant p k (if b then Some (record { place = f.name.place; meaning = a_field k i f.kind }) else field_named limit text k (i + 1) fs)
      go true rest =
          let none : i + 0 ≡ i = omega arith in
          (record { below = below; member = m; at = subst (λ n. slice_get (class_at p k).members n ≡ Some m) none (at 0 m refl); typed = h.0 }, omega arith)
      go false rest = rest

  method_meant : (limit : Option ℕ) (text name : List ℕ) (i : ℕ) (ss : List Signature) (fs : List Function) → MethodsMeant (length p.classes) name ss fs →
      ((j : ℕ) (f : Function) → slice_get fs j ≡ Some f → (method_at p k (i + j) ≡ f) × (i + j < length (class_at p k).functions)) →
      FoundMeant p k (method_named limit text k i ss)
  method_meant limit text name i [] fs h at = tt
  method_meant limit text name i (s ∷ ss) [] h at = absurd h
  method_meant limit text name i (s ∷ ss) (f ∷ fs) h at =
      go (is_method s.form && in_reach limit s.name && bytes_eq s.name.text text)
      (method_meant limit text name (i + 1) ss fs h.1 (λ j x e. let same : i + suc j ≡ i + 1 + j = omega arith in
      subst (λ n. (method_at p k n ≡ x) × (n < length (class_at p k).functions)) same (at (suc j) x e)))
    where
      go : (b : Bool) → FoundMeant p k (method_named limit text k (i + 1) ss) →
          FoundMeant p k (if b then Some (record { place = s.name.place; meaning = a_method k i s }) else method_named limit text k (i + 1) ss)
      go true rest =
          let none : i + 0 ≡ i = omega arith in
          let here = subst (λ n. (method_at p k n ≡ f) × (n < length (class_at p k).functions)) none (at 0 f refl) in
          record {
            below = below;
            place = here.1;
            result = h.0.result;
            parameters = subst (λ g. ParamsMeant (length p.classes) s.parameters g.parameters) (sym here.0) h.0.parameters;
          }
      go false rest = rest

first_meant : (p : Checked) (k : ℕ) (a b : Option Found) → FoundMeant p k a → FoundMeant p k b → FoundMeant p k (first_of_two a b)
first_meant p k None b ha hb = hb
first_meant p k (Some a) None ha hb = ha
first_meant p k (Some a) (Some b) ha hb = go (nat_lt b.place a.place)
  where
    go : (c : Bool) → FoundMeant p k (if c then Some b else Some a)
    go true = hb
    go false = ha

-- what a base has, its derived class has
inherited : (p : Checked) (b k : ℕ) (m : Meaning) → size_in_program p (class_type b) ≤ size_in_program p (class_type k) → MemberMeant p b m → MemberMeant p k m
inherited p b k unknown le h = tt
inherited p b k (a_field j i kind) le h = let first = h.1 in (h.0, omega (arith, le, first))
inherited p b k (a_method j i s) le h = h
inherited p b k (a_local v) le h = absurd h
inherited p b k (a_global g) le h = absurd h
inherited p b k (a_function s) le h = absurd h
inherited p b k (a_class j) le h = absurd h
inherited p b k (a_builtin x) le h = absurd h

place_in : (fs : List Function) (j : ℕ) (f : Function) → slice_get fs j ≡ Some f → (unwrap_or (slice_get fs j) no_function ≡ f) × (j < length fs)
place_in [] zero f e = absurd (cc e)
place_in [] (suc j) f e = absurd (cc e)
place_in (g ∷ fs) zero f e = (cc e, omega arith)
place_in (g ∷ fs) (suc j) f e = let rest = place_in fs j f e in let less = rest.1 in (rest.0, omega (arith, less))

module _ (p : Checked) (c : IsChecked p) (defined special : List (List ℕ)) (env : Environment) (h : Meant p defined special env) where
  pub member_meant : (n k : ℕ) (limit : Option ℕ) (text : List ℕ) → MemberMeant p k (member_of n env k limit text)
  member_meant zero k limit text = tt
  member_meant (suc n) k limit text = of_class (λ b. member_meant n b limit text) (slice_get env.classes k) refl
    where
      derived : ((b : ℕ) → MemberMeant p b (member_of n env b limit text)) → (e : ClassEntry) → EntryMeant p special k e → (base : Option ℕ) → e.base ≡ base →
          MemberMeant p k (elim base [ None ↦ unknown | Some b ↦ member_of n env b limit text ])
      derived rest e m None q = tt
      derived rest e m (Some b) q =
          inherited p b k (member_of n env b limit text) (base_size p c k b (class_at p k).base m.below refl (m.base ∙ q)) (rest b)

      own : ((b : ℕ) → MemberMeant p b (member_of n env b limit text)) → (e : ClassEntry) → EntryMeant p special k e → (f : Option Found) → FoundMeant p k f →
          MemberMeant p k (elim f [ Some found ↦ found.meaning | None ↦ elim e.base [ None ↦ unknown | Some b ↦ member_of n env b limit text ] ])
      own rest e m (Some f) q = q
      own rest e m None q = derived rest e m e.base refl

      of_class : ((b : ℕ) → MemberMeant p b (member_of n env b limit text)) → (o : Option ClassEntry) → slice_get env.classes k ≡ o → MemberMeant p k (elim o [
        | None ↦ unknown
        | Some c ↦ elim (first_of_two (field_named limit text k 0 c.fields) (method_named limit text k 0 c.functions)) [
          | Some found ↦ found.meaning
          | None ↦ elim c.base [ None ↦ unknown | Some b ↦ member_of n env b limit text ]
        ]
      ])
      of_class rest None q = tt
      of_class rest (Some e) q =
          let m = h.classes k e q in
          own rest e m (first_of_two (field_named limit text k 0 e.fields) (method_named limit text k 0 e.functions))
          (first_meant p k (field_named limit text k 0 e.fields) (method_named limit text k 0 e.functions)
          (field_meant p k m.below limit text 0 e.fields (class_at p k).members m.fields
          (λ j x i. let same : j ≡ 0 + j = omega arith in subst (λ n. slice_get (class_at p k).members n ≡ Some x) same i))
          (method_meant p k m.below limit text e.name 0 e.functions (class_at p k).functions m.functions
          (λ j f i. let same : j ≡ 0 + j = omega arith in
          subst (λ n. (method_at p k n ≡ f) × (n < length (class_at p k).functions)) same (place_in (class_at p k).functions j f i))))

-- a member of the own class
own_member : (g : Given) (k : ℕ) (m : Meaning) → g.is_member ≡ true → MemberMeant g.program k m → MeaningMeant g m
own_member g k unknown e h = tt
own_member g k (a_field j i kind) e h = (h.0, e)
own_member g k (a_method j i s) e h = (h, e)
own_member g k (a_local v) e h = absurd h
own_member g k (a_global n) e h = absurd h
own_member g k (a_function s) e h = absurd h
own_member g k (a_class j) e h = absurd h
own_member g k (a_builtin x) e h = absurd h

builtin_meant : (g : Given) (text : List ℕ) → MeaningMeant g (builtin_named text)
builtin_meant g text = go (bytes_eq text (codes "write_int")) (bytes_eq text (codes "read_byte")) (bytes_eq text (codes "exit")) (bytes_eq text (codes "__module")) (bytes_eq text (codes "__cancel"))
  where
    go : (a b c d e : Bool) → MeaningMeant g (if a then a_builtin WriteInt else if b then a_builtin ReadByte else if c then a_builtin Exit
        else if d then a_builtin Module else if e then a_builtin Cancel else unknown)
    go true b c d e = tt
    go false true c d e = tt
    go false false true d e = tt
    go false false false true e = tt
    go false false false false true = tt
    go false false false false false = tt

-- where a name stands in a function
module _ (g : Given) where
  function_meant : (text : List ℕ) (o : Option Signature) → find (λ s. bytes_eq s.name.text text) g.env.signatures ≡ o → MeaningMeant g (function_meaning o)
  function_meant text None e = tt
  function_meant text (Some s) e = g.meant.signatures text s e

  thing_meant : (text : List ℕ) (o : Option Entry) → entry_of g.env text ≡ o → MeaningMeant g (thing_meaning g.env text o)
  thing_meant text None q = builtin_meant g text
  thing_meant text (Some e) q = go e.thing (found_each (λ x. ThingMeant g.program g.special x.text x.thing) (λ x. bytes_eq x.text text) g.env.names e g.meant.names q)
    where
      go : (t : Thing) → ThingMeant g.program g.special e.text t → MeaningMeant g (elim t [
        | global_thing n ↦ a_global n
        | class_thing k ↦ a_class k
        | function_thing ↦ function_meaning (find (λ s. bytes_eq s.name.text text) g.env.signatures)
      ])
      go (global_thing n) h = h
      go (class_thing k) h = h.0
      go function_thing h = function_meant text (find (λ s. bytes_eq s.name.text text) g.env.signatures) refl

  module _ (sc : Scope) (r : Reach g sc) where
    own_meant : (text : List ℕ) → MeaningMeant g (own_meaning g.env sc text)
    own_meant text = go sc.own refl
      where
        go : (o : Option ℕ) → sc.own ≡ o → MeaningMeant g (elim o [ None ↦ unknown | Some k ↦ member_of (length g.env.classes) g.env k sc.limit text ])
        go None q = tt
        go (Some k) q =
            own_member g k (member_of (length g.env.classes) g.env k sc.limit text) (r.own k q)
            (member_meant g.program g.checked g.defined g.special g.env g.meant (length g.env.classes) k sc.limit text)

    outer_meant : (text : List ℕ) (m : Meaning) → MeaningMeant g m → MeaningMeant g (outer_meaning g.env sc text m)
    outer_meant text unknown h = thing_meant text (entry_of g.env text) refl
    outer_meant text (a_local v) h = h
    outer_meant text (a_field k i kind) h = h
    outer_meant text (a_method k i s) h = h
    outer_meant text (a_global n) h = h
    outer_meant text (a_function s) h = h
    outer_meant text (a_class k) h = h
    outer_meant text (a_builtin b) h = h

    local_meant : (text : List ℕ) (rows : List (List Variable)) → Each (Each (VariableMeant g)) rows → (v : Variable) → variable_named text rows ≡ Some v → VariableMeant g v
    local_meant text [] h v e = absurd (cc e)
    local_meant text (row ∷ rows) h v e = go (find (λ v. bytes_eq v.text text) row) refl e (local_meant text rows h.1 v)
      where
        go : (o : Option Variable) → find (λ v. bytes_eq v.text text) row ≡ o → elim o [ Some v ↦ Some v | None ↦ variable_named text rows ] ≡ Some v →
            (variable_named text rows ≡ Some v → VariableMeant g v) → VariableMeant g v
        go (Some w) q k rest = let same : w ≡ v = cc k in subst (VariableMeant g) same (found_each (VariableMeant g) (λ v. bytes_eq v.text text) row w h.0 q)
        go None q k rest = rest k

    pub look_meant : (n : Name) → MeaningMeant g (look g.env sc n)
    look_meant n = go (variable_named n.text sc.locals) refl
      where
        go : (o : Option Variable) → variable_named n.text sc.locals ≡ o →
            MeaningMeant g (elim o [ Some v ↦ a_local v | None ↦ outer_meaning g.env sc n.text (own_meaning g.env sc n.text) ])
        go (Some v) q = local_meant n.text sc.locals r.locals v q
        go None q = outer_meant n.text (own_meaning g.env sc n.text) (own_meant n.text)
