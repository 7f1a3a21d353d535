-- What a call calls, where it breaks no rule: with the types of its parameters, and on an object that has it.
use Rattle.std.proofs.Common.{◌≡◌, ◌<◌, ◌==◌, ℕ, Bool, true, false, List, [], ◌∷◌, length, Option, Some, None, bytes_eq, codes, if◌then◌else◌, refl, sym, ap, subst}
use Rattle.cxx_ast.specs.declared.name.Name.{Name}
use Rattle.cxx_ast.specs.declared.name.Bound.{Bound}
use Rattle.cxx_ast.specs.declared.name.Bound.TheVariants.{Free, Global, Local, Class, Func, Field, Method, Builtin as BuiltinBound}
use Rattle.cxx_ast.specs.declared.name.Builtin.{Builtin}
use Rattle.cxx_ast.specs.declared.name.Builtin.TheVariants.{Terminate, SetTerminate, SetUnexpected, Uncaught}
use Rattle.cxx_ast.specs.declared.declaration.FuncKind.TheVariants.{Method as MethodKind}
use Rattle.cxx_ast.specs.Rule.{arity, const_write, main_use, unknown_name}
use Rattle.cxx_ast.specs.Finding.{breaks, uses, breaks_if}
use Rattle.cxx_ast.specs.Environment.{Kind, int_kind, truth_kind, void_kind, class_kind, no_kind, Signature, Environment, Scope, Meaning, unknown, a_local, a_field, a_method, a_global, a_function, a_class, a_builtin}
use Rattle.cxx_ast.specs.Lookup.{member_meaning, meaning_kind, look}
use Rattle.cxx_ast.specs.Lvalue.{reached_from, reached, first_place}
use Rattle.cxx_ast.specs.Reference.{Judgement, arguments_found, all_found}
use Rattle.cxx_ast.specs.Construct.{construction_found}
use Rattle.cxx_ast.specs.Calls.{Valued, broken_call, if_sound, call_valued, builtin_valued, construction_valued, meant_valued, member_valued, receiver as front, last_name, on_object_valued, names_valued, std_builtin, std_valued}
use Rattle.cxx_ast.specs.Resolve.{bind, bound_of, resolve_members, resolve_path, function_number, std_bound}
use Rattle.cxx_ast.specs.Grammatical.{NotEmpty}
use Rattle.meaning_forms.specs.Class.{ObjectType, class_type, function_at, method_at}
use Rattle.meaning_forms.specs.Expression.{callee_bound, receiver}
use Rattle.meaning_forms.specs.Frame.{Variable as FrameVariable}
use Rattle.region_forms.specs.LowerExpression.{lvalue_type}
use Rattle.region_simulation.specs.Names.{AreMembers, IsNamed, AreNamed}
use Rattle.region_simulation.specs.Typing.{AreOfClass}
use Rattle.region_formed.proofs.Fine.{Fine, fine_parts}
use Rattle.region_formed.proofs.Meant.{IsFunction, Typed, ParamsMeant, SignatureMeant, numbered, Given, lowering_in, classes_in, Reach, MethodThere, MemberMeant, MeaningMeant}
use Rattle.region_formed.proofs.Meanings.{member_meant, look_meant}
use Rattle.region_formed.proofs.Inside.{field_typed}
use Rattle.region_formed.proofs.Paths.{from_member, path_meant}
use Rattle.region_formed.proofs.Constructors.{derived}
use Rattle.region_formed.proofs.Called.{Callable, calls_function, calls_method, calls_builtin, builds, bound_called, Fitting}
use Rattle.region_typed.specs.Known.{InReach, SettledIn}
use Rattle.region_typed.proofs.Meaning.{MemberIn, member_in, NameIn, look_in}
use Rattle.region_typed.proofs.Paths.{member_had, field_named}

module _ (g : Given) (xs : List FrameVariable) (sc : Scope) where
  -- what is called is there, as is the object, and the arguments fit it
  abbrev pub CalledTyped : Bool → List Judgement → List Name → Callable → Type 0
  CalledTyped thrown given object (calls_function n s) =
      (n < length g.program.functions) × ParamsMeant (classes_in g) s.parameters (function_at g.program n).parameters × Fitting g s given
  CalledTyped thrown given object (calls_method k i s) =
      MethodThere g.program k i s × ((method_at g.program k i).kind ≡ MethodKind) × AreOfClass (lowering_in g) sc.own xs k object × Fitting g s given
  CalledTyped thrown given object (calls_builtin b place) = IsFunction b × Fine g.defined (builtin_valued g.env sc b place given).found
  CalledTyped thrown given object (builds k place) =
      (thrown ≡ true) × (k < length g.env.classes) × (k < classes_in g) × Fine g.defined (construction_found g.env k given place place)

  -- a call, by what its names are bound to
  pub record CallTyped (thrown : Bool) (given : List Judgement) (b : Bound) (object : List Name) : Type 0 where
    pub what : Callable
    pub bound : b ≡ bound_called what
    pub fine : CalledTyped thrown given object what

-- a call that fits a function
call_fitting : (g : Given) (s : Signature) (place : ℕ) (given : List Judgement) → Fine g.defined (call_valued g.env s place given).found → Fitting g s given
call_fitting g s place given f = go (length given == length s.parameters) refl f
  where
    go : (b : Bool) → (length given == length s.parameters) ≡ b →
        Fine g.defined (if b then if_sound s.result (arguments_found g.env s.parameters given) else broken_call (breaks arity place ∷ []) given).found → Fitting g s given
    go true e h = record { counted = e; found = h }
    go false e h = absurd h

-- no object is reached from what is none
no_class : (env : Environment) (x : Name) (names : List Name) (before k : ℕ) (kind : Kind) → ((j : ℕ) → kind ≡ class_kind j → ⊥) →
    (reached_from env (front (x ∷ names)) before kind).kind ≡ class_kind k → ⊥
no_class env x [] before k kind h e = h k e
no_class env x (y ∷ names) before k (class_kind j) h e = h j refl
no_class env x (y ∷ names) before k int_kind h e = absurd (cc e)
no_class env x (y ∷ names) before k truth_kind h e = absurd (cc e)
no_class env x (y ∷ names) before k void_kind h e = absurd (cc e)
no_class env x (y ∷ names) before k no_kind h e = absurd (cc e)

-- the object of class k that names reach from one of class j, and what the last name is bound to
record LastIn (g : Given) (j k : ℕ) (text : List ℕ) (names : List Name) : Type 0 where
  object : AreMembers g.program (class_type j) (receiver names) (class_type k)
  bound : callee_bound names ≡ bound_of g.env (member_meaning g.env k text)

last_in : (g : Given) (m : Name) (names : List Name) (before j k : ℕ) → (reached_from g.env (front (m ∷ names)) before (class_kind j)).kind ≡ class_kind k →
    LastIn g j k (last_name m names).text (resolve_members g.env (class_kind j) (m ∷ names))
last_in g m [] before j k e =
    let same : j ≡ k = cc e in
    record { object = ap class_type same; bound = ap (λ i. bound_of g.env (member_meaning g.env i m.text)) same }
last_in g m (x ∷ names) before j k e =
    by (member_meaning g.env j m.text) (member_meant g.program g.checked g.defined g.special g.env g.meant (length g.env.classes) j None m.text)
    (member_in g.program g.defined g.special g.env g.meant j None m.text) e (λ c q. last_in g x names m.place c k q)
  where
    by : (y : Meaning) → MemberMeant g.program j y → MemberIn g.program g.env j y → (from_member g.env (front (x ∷ names)) m.place y).kind ≡ class_kind k →
        ((c : ℕ) → (reached_from g.env (front (x ∷ names)) m.place (class_kind c)).kind ≡ class_kind k →
        LastIn g c k (last_name x names).text (resolve_members g.env (class_kind c) (x ∷ names))) →
        LastIn g j k (last_name x names).text (bind m (bound_of g.env y) ∷ resolve_members g.env (meaning_kind y) (x ∷ names))
    by (a_field i h (class_kind c)) a b q rest =
        let r = rest c q in
        let typed = field_typed g.program g.checked i h (class_kind c) a.0 in
        record {
          object = (
            member_had g j i h (class_kind c) b a.0,
            subst (λ u. AreMembers g.program u (receiver (resolve_members g.env (class_kind c) (x ∷ names))) (class_type k)) (sym typed.0) r.object,
          );
          bound = r.bound;
        }
    by (a_field i h int_kind) a b q rest = absurd (no_class g.env x names m.place k int_kind (λ c w. cc w) q)
    by (a_field i h truth_kind) a b q rest = absurd (no_class g.env x names m.place k truth_kind (λ c w. cc w) q)
    by (a_field i h void_kind) a b q rest = absurd (no_class g.env x names m.place k void_kind (λ c w. cc w) q)
    by (a_field i h no_kind) a b q rest = absurd (no_class g.env x names m.place k no_kind (λ c w. cc w) q)
    by unknown a b q rest = absurd (cc q)
    by (a_local v) a b q rest = absurd (cc q)
    by (a_method i h s) a b q rest = absurd (cc q)
    by (a_global i) a b q rest = absurd (cc q)
    by (a_function s) a b q rest = absurd (cc q)
    by (a_class i) a b q rest = absurd (cc q)
    by (a_builtin c) a b q rest = absurd (cc q)

module _ (g : Given) (settled : SettledIn g) (xs : List FrameVariable) (sc : Scope) (r : Reach g sc) (o : InReach xs sc) (thrown : Bool) (given : List Judgement) where
  builtin_called : (b : Builtin) (place : ℕ) (object : List Name) → IsFunction b → Fine g.defined (builtin_valued g.env sc b place given).found →
      CallTyped g xs sc thrown given (BuiltinBound b) object
  builtin_called b place object h f = record { what = calls_builtin b place; bound = refl; fine = (h, f) }

  built : (k first place : ℕ) (object : List Name) → k < length g.env.classes → k < classes_in g →
      Fine g.defined (construction_valued g.env thrown k first place given).found → CallTyped g xs sc thrown given (Class k) object
  built k first place object known h f = go thrown refl f
    where
      go : (b : Bool) → thrown ≡ b → Fine g.defined (construction_valued g.env b k first place given).found → CallTyped g xs sc thrown given (Class k) object
      go true e q = record { what = builds k place; bound = refl; fine = (e, known, h, q) }
      go false e q = absurd q

  -- a call by a name alone
  module _ (n : Name) where
    function_called : (s : Signature) → SignatureMeant g.program g.defined s → NameIn g.program g.env xs sc.own (a_function s) → (b : Bool) →
        Fine g.defined (uses s.name ∷ (if b then broken_call (breaks main_use n.place ∷ []) given else call_valued g.env s n.place given).found) →
        CallTyped g xs sc thrown given (Func (function_number g.env s.name.text)) []
    function_called s h q true f = absurd f.1
    function_called s h q false f =
        let number = ap (λ d. numbered d s.name.text) g.meant.definitions in
        record {
          what = calls_function (numbered g.defined s.name.text) s;
          bound = ap Func number;
          fine = ((h.there f.0).0, settled.functions q.0 s q.1 f.0, call_fitting g s n.place given f.1);
        }

    method_called : (own : Option ℕ) → sc.own ≡ own → (k i : ℕ) (s : Signature) → MethodThere g.program k i s → NameIn g.program g.env xs own (a_method k i s) →
        Fine g.defined (call_valued g.env s n.place given).found → CallTyped g xs sc thrown given (Method k i) []
    method_called None e k i s h q f = absurd q
    method_called (Some c) e k i s h q f = record {
      what = calls_method k i s;
      bound = refl;
      fine = (
        h,
        q.1,
        subst (λ own. AreOfClass (lowering_in g) own xs k []) (sym e) (class_type c, refl, derived g.program g.defined g.special g.env g.meant c k q.0),
        call_fitting g s n.place given f,
      );
    }

    by_meaning : (m : Meaning) → MeaningMeant g m → NameIn g.program g.env xs sc.own m → Fine g.defined (meant_valued g.env sc thrown n given m).found →
        CallTyped g xs sc thrown given (bound_of g.env m) []
    by_meaning unknown h q f = absurd f
    by_meaning (a_method k i s) h q f = method_called sc.own refl k i s h.0 q f
    by_meaning (a_function s) h q f = function_called s h q (bytes_eq n.text (codes "main")) f
    by_meaning (a_class k) h q f = built k n.place n.place [] q h f
    by_meaning (a_builtin b) h q f = builtin_called b n.place [] h f
    by_meaning (a_local v) h q f = absurd f
    by_meaning (a_field k i kind) h q f = absurd f
    by_meaning (a_global x) h q f = absurd f

  -- a call on an object of class k that names reach
  record OnObject (k : ℕ) (text : List ℕ) (names : List Name) : Type 0 where
    object : AreNamed (lowering_in g) sc.own xs (receiver names) (class_type k)
    bound : callee_bound names ≡ bound_of g.env (member_meaning g.env k text)

  module _ (n m : Name) (names : List Name) (k : ℕ) where
    of_kind : (kind : Kind) (b : Bound) (t : ObjectType) → IsNamed (lowering_in g) sc.own xs b t → Typed (classes_in g) kind t →
        (reached_from g.env (front (m ∷ names)) n.place kind).kind ≡ class_kind k → OnObject k (last_name m names).text (bind n b ∷ resolve_members g.env kind (m ∷ names))
    of_kind (class_kind j) b t h typed e =
        let x = last_in g m names n.place j k e in
        record {
          object = (t, h, subst (λ u. AreMembers g.program u (receiver (resolve_members g.env (class_kind j) (m ∷ names))) (class_type k)) (sym typed.0) x.object);
          bound = x.bound;
        }
    of_kind int_kind b t h typed e = absurd (no_class g.env m names n.place k int_kind (λ c w. cc w) e)
    of_kind truth_kind b t h typed e = absurd typed
    of_kind void_kind b t h typed e = absurd typed
    of_kind no_kind b t h typed e = absurd typed

    first_in : (y : Meaning) → MeaningMeant g y → NameIn g.program g.env xs sc.own y → (reached_from g.env (front (m ∷ names)) n.place (meaning_kind y)).kind ≡ class_kind k →
        OnObject k (last_name m names).text (bind n (bound_of g.env y) ∷ resolve_members g.env (meaning_kind y) (m ∷ names))
    first_in (a_local v) h q e = of_kind v.kind (Local v.number) _ (q, refl) h.typed e
    first_in (a_field j i kind) h q e = of_kind kind (Field j i) _ (field_named g xs sc.own j i kind h.0 q) (field_typed g.program g.checked j i kind h.0) e
    first_in (a_global x) h q e = of_kind int_kind (Global x) _ (h, refl) refl e
    first_in unknown h q e = absurd (no_class g.env m names n.place k no_kind (λ c w. cc w) e)
    first_in (a_method j i s) h q e = absurd (no_class g.env m names n.place k no_kind (λ c w. cc w) e)
    first_in (a_function s) h q e = absurd (no_class g.env m names n.place k no_kind (λ c w. cc w) e)
    first_in (a_class j) h q e = absurd (no_class g.env m names n.place k no_kind (λ c w. cc w) e)
    first_in (a_builtin b) h q e = absurd (no_class g.env m names n.place k no_kind (λ c w. cc w) e)

  member_called : (k : ℕ) (const : Bool) (first : ℕ) (n : Name) (object : List Name) → AreNamed (lowering_in g) sc.own xs object (class_type k) → (y : Meaning) →
      MemberMeant g.program k y → MemberIn g.program g.env k y → Fine g.defined (member_valued g.env const first n given y).found →
      CallTyped g xs sc thrown given (bound_of g.env y) object
  member_called k const first n object there (a_method j i s) h q f =
      let parts = fine_parts g.defined (call_valued g.env s n.place given).found (breaks_if const const_write first) f in
      record {
        what = calls_method j i s;
        bound = refl;
        fine = (h, q.1, (class_type k, there, derived g.program g.defined g.special g.env g.meant k j q.0), call_fitting g s n.place given parts.0);
      }
  member_called k const first n object there unknown h q f = absurd f
  member_called k const first n object there (a_local v) h q f = absurd f
  member_called k const first n object there (a_field j i kind) h q f = absurd f
  member_called k const first n object there (a_global x) h q f = absurd f
  member_called k const first n object there (a_function s) h q f = absurd f
  member_called k const first n object there (a_class j) h q f = absurd f
  member_called k const first n object there (a_builtin b) h q f = absurd f

  object_called : (n m : Name) (names : List Name) → Fine g.defined (names_valued g.env sc thrown (n ∷ m ∷ names) given).found →
      CallTyped g xs sc thrown given (callee_bound (resolve_path g.env sc (n ∷ m ∷ names))) (receiver (resolve_path g.env sc (n ∷ m ∷ names)))
  object_called n m names f = go (reached g.env sc (n ∷ front (m ∷ names))).kind refl f
    where
      go : (kind : Kind) → (reached g.env sc (n ∷ front (m ∷ names))).kind ≡ kind →
          Fine g.defined (on_object_valued g.env (n ∷ m ∷ names) (last_name m names) given (reached g.env sc (n ∷ front (m ∷ names))) kind).found →
          CallTyped g xs sc thrown given (callee_bound (resolve_path g.env sc (n ∷ m ∷ names))) (receiver (resolve_path g.env sc (n ∷ m ∷ names)))
      go (class_kind k) e h =
          let on = first_in n m names k (look g.env sc n) (look_meant g sc r n)
          (look_in g.program g.checked g.defined g.special g.env g.meant settled.classes xs sc o n) e in
          subst (λ b. CallTyped g xs sc thrown given b (receiver (resolve_path g.env sc (n ∷ m ∷ names)))) (sym on.bound)
          (member_called k (reached g.env sc (n ∷ front (m ∷ names))).is_const (first_place (n ∷ m ∷ names)) (last_name m names)
          (receiver (resolve_path g.env sc (n ∷ m ∷ names))) on.object (member_meaning g.env k (last_name m names).text)
          (member_meant g.program g.checked g.defined g.special g.env g.meant (length g.env.classes) k None (last_name m names).text)
          (member_in g.program g.defined g.special g.env g.meant k None (last_name m names).text) h)
      go no_kind e h =
          let path = path_meant g sc r n (front (m ∷ names)) (fine_parts g.defined (reached g.env sc (n ∷ front (m ∷ names))).found (all_found given) h).0 in
          absurd (subst (λ kind. Typed (classes_in g) kind (lvalue_type (lowering_in g) (resolve_path g.env sc (n ∷ front (m ∷ names))))) e path.typed)
      go int_kind e h = absurd h
      go truth_kind e h = absurd h
      go void_kind e h = absurd h

  -- a call by its names
  pub call_typed : (names : List Name) → NotEmpty names → Fine g.defined (names_valued g.env sc thrown names given).found →
      CallTyped g xs sc thrown given (callee_bound (resolve_path g.env sc names)) (receiver (resolve_path g.env sc names))
  call_typed [] some f = absurd some
  call_typed (n ∷ []) some f =
      by_meaning n (look g.env sc n) (look_meant g sc r n) (look_in g.program g.checked g.defined g.special g.env g.meant settled.classes xs sc o n) f
  call_typed (n ∷ m ∷ names) some f = object_called n m names f

  -- a call of `std::` something
  pub std_typed : (place : ℕ) (n : Name) → Fine g.defined (std_valued g.env sc thrown place n given).found →
      CallTyped g xs sc thrown given (std_bound n.text) []
  std_typed place n f = go (bytes_eq n.text (codes "bad_exception")) f
    where
      go : (b : Bool) → Fine g.defined (if b then construction_valued g.env thrown 0 place n.place given else elim (std_builtin n.text) as (λ x. Valued) [
        | None ↦ broken_call (breaks unknown_name n.place ∷ []) given
        | Some c ↦ builtin_valued g.env sc c n.place given
      ]).found →
          CallTyped g xs sc thrown given (if b then Class 0 else elim (std_builtin n.text) [ None ↦ Free | Some c ↦ BuiltinBound c ]) []
      go true h = built 0 place n.place [] settled.some g.meant.some h
      go false h =
          by (bytes_eq n.text (codes "terminate")) (bytes_eq n.text (codes "uncaught_exception")) (bytes_eq n.text (codes "set_terminate")) (bytes_eq n.text (codes "set_unexpected")) h
        where
          by : (a b c d : Bool) → Fine g.defined (elim (if a then Some Terminate else if b then Some Uncaught else if c then Some SetTerminate else if d then Some SetUnexpected else None)
              as (λ x. Valued) [ None ↦ broken_call (breaks unknown_name n.place ∷ []) given | Some c ↦ builtin_valued g.env sc c n.place given ]).found →
              CallTyped g xs sc thrown given (elim (if a then Some Terminate else if b then Some Uncaught else if c then Some SetTerminate else if d then Some SetUnexpected else None)
              [ None ↦ Free | Some c ↦ BuiltinBound c ]) []
          by true b c d q = builtin_called Terminate n.place [] tt q
          by false true c d q = builtin_called Uncaught n.place [] tt q
          by false false true d q = builtin_called SetTerminate n.place [] tt q
          by false false false true q = builtin_called SetUnexpected n.place [] tt q
          by false false false false q = absurd q
