-- A name that means a variable has the number of one that is in reach.
use Rattle.std.proofs.Common.{◌+◌, ◌<◌, ℕ, zero, suc, Bool, true, false, ◌&&◌, List, [], ◌∷◌, length, Option, Some, None, bytes_eq}
use Rattle.std.specs.Prelude.{⊤, slice_get, find, codes, nat_lt, if◌then◌else◌}
use Rattle.cxx_ast.specs.declared.name.Name.{Name}
use Rattle.cxx_ast.specs.Environment.{Signature, Field, ClassEntry, Thing, global_thing, class_thing, function_thing, Entry, Environment, Variable, Scope, Meaning, unknown, a_local, a_field, a_method, a_global, a_class}
use Rattle.cxx_ast.specs.Lookup.{variable_named, Found, field_named, in_reach, is_method, method_named, first_of_two, member_of, own_meaning, builtin_named, function_meaning, thing_meaning, entry_of, outer_meaning, look}
use Rattle.cxx_ast.specs.Resolve.{bound_of, resolve_path}
use Rattle.landing_pads.specs.Numbered.{BoundFits, PathFits}

-- a meaning that is no variable
abbrev NoVariable : Meaning → Type 0
NoVariable (a_local v) = ⊥
NoVariable m = ⊤

abbrev FoundNone : Option Found → Type 0
FoundNone None = ⊤
FoundNone (Some f) = NoVariable f.meaning

chosen_none : (b : Bool) (x y : Option Found) → FoundNone x → FoundNone y → FoundNone (if b then x else y)
chosen_none true x y h k = h
chosen_none false x y h k = k

field_none : (limit : Option ℕ) (text : List ℕ) (k i : ℕ) (fs : List Field) → FoundNone (field_named limit text k i fs)
field_none limit text k i [] = tt
field_none limit text k i (f ∷ fs) =
    chosen_none (in_reach limit f.name && bytes_eq f.name.text text) (Some (record { place = f.name.place; meaning = a_field k i f.kind }))
    (field_named limit text k (i + 1) fs) tt (field_none limit text k (i + 1) fs)

method_none : (limit : Option ℕ) (text : List ℕ) (k i : ℕ) (fs : List Signature) → FoundNone (method_named limit text k i fs)
method_none limit text k i [] = tt
method_none limit text k i (f ∷ fs) =
    chosen_none (is_method f.form && in_reach limit f.name && bytes_eq f.name.text text) (Some (record { place = f.name.place; meaning = a_method k i f }))
    (method_named limit text k (i + 1) fs) tt (method_none limit text k (i + 1) fs)

first_none : (a b : Option Found) → FoundNone a → FoundNone b → FoundNone (first_of_two a b)
first_none None b h k = k
first_none (Some a) None h k = h
first_none (Some a) (Some b) h k = chosen_none (nat_lt b.place a.place) (Some b) (Some a) k h

-- a member of a class, or of its base, if it has one
behind_none : (rest : ℕ → Meaning) → ((b : ℕ) → NoVariable (rest b)) → (o : Option ℕ) → NoVariable (elim o [ None ↦ unknown | Some b ↦ rest b ])
behind_none rest h None = tt
behind_none rest h (Some b) = h b

here_none : (rest : ℕ → Meaning) → ((b : ℕ) → NoVariable (rest b)) → (o : Option Found) (b : Option ℕ) → FoundNone o →
    NoVariable (elim o [ Some found ↦ found.meaning | None ↦ elim b [ None ↦ unknown | Some b ↦ rest b ] ])
here_none rest h None b k = behind_none rest h b
here_none rest h (Some f) b k = k

in_class : (env : Environment) (limit : Option ℕ) (text : List ℕ) (k : ℕ) (rest : ℕ → Meaning) → ((b : ℕ) → NoVariable (rest b)) → (o : Option ClassEntry) →
    NoVariable (elim o [
      | None ↦ unknown
      | Some c ↦ elim (first_of_two (field_named limit text k 0 c.fields) (method_named limit text k 0 c.functions)) [
        | Some found ↦ found.meaning
        | None ↦ elim c.base [ None ↦ unknown | Some b ↦ rest b ]
      ]
    ])
in_class env limit text k rest h None = tt
in_class env limit text k rest h (Some c) =
    here_none rest h (first_of_two (field_named limit text k 0 c.fields) (method_named limit text k 0 c.functions)) c.base
    (first_none (field_named limit text k 0 c.fields) (method_named limit text k 0 c.functions) (field_none limit text k 0 c.fields) (method_none limit text k 0 c.functions))

member_none : (n : ℕ) (env : Environment) (k : ℕ) (limit : Option ℕ) (text : List ℕ) → NoVariable (member_of n env k limit text)
member_none zero env k limit text = tt
member_none (suc n) env k limit text =
    in_class env limit text k (λ b. member_of n env b limit text) (λ b. member_none n env b limit text) (slice_get env.classes k)

own_none : (env : Environment) (sc : Scope) (text : List ℕ) → NoVariable (own_meaning env sc text)
own_none env sc text = go sc.own
  where
    go : (o : Option ℕ) → NoVariable (elim o [ None ↦ unknown | Some k ↦ member_of (length env.classes) env k sc.limit text ])
    go None = tt
    go (Some k) = member_none (length env.classes) env k sc.limit text

either : (b : Bool) (x y : Meaning) → NoVariable x → NoVariable y → NoVariable (if b then x else y)
either true x y h k = h
either false x y h k = k

builtin_none : (text : List ℕ) → NoVariable (builtin_named text)
builtin_none text =
    either (bytes_eq text (codes "write_int")) _ _ tt (either (bytes_eq text (codes "read_byte")) _ _ tt (either (bytes_eq text (codes "exit")) _ _ tt
    (either (bytes_eq text (codes "__module")) _ _ tt (either (bytes_eq text (codes "__cancel")) _ _ tt tt))))

function_none : (s : Option Signature) → NoVariable (function_meaning s)
function_none None = tt
function_none (Some s) = tt

thing_none : (env : Environment) (text : List ℕ) (o : Option Entry) → NoVariable (thing_meaning env text o)
thing_none env text None = builtin_none text
thing_none env text (Some e) = go e.thing
  where
    go : (t : Thing) → NoVariable (elim t [
      | global_thing n ↦ a_global n
      | class_thing k ↦ a_class k
      | function_thing ↦ function_meaning (find (λ s. bytes_eq s.name.text text) env.signatures)
    ])
    go (global_thing n) = tt
    go (class_thing k) = tt
    go function_thing = function_none (find (λ s. bytes_eq s.name.text text) env.signatures)

outer_none : (env : Environment) (sc : Scope) (text : List ℕ) (m : Meaning) → NoVariable m → NoVariable (outer_meaning env sc text m)
outer_none env sc text unknown h = thing_none env text (entry_of env text)
outer_none env sc text m h = h

none_fits : (n : ℕ) (env : Environment) (m : Meaning) → NoVariable m → BoundFits n (bound_of env m)
none_fits n env (a_local v) h = absurd h
none_fits n env m h = tt

-- the variables in reach have numbers below n
abbrev pub AllIn : ℕ → List Variable → Type 0
AllIn n [] = ⊤
AllIn n (v ∷ scope) = (v.number < n) × AllIn n scope

abbrev pub AllBelow : ℕ → List (List Variable) → Type 0
AllBelow n [] = ⊤
AllBelow n (scope ∷ scopes) = AllIn n scope × AllBelow n scopes

abbrev VariableBelow : ℕ → Option Variable → Type 0
VariableBelow n None = ⊤
VariableBelow n (Some v) = v.number < n

found_below : (n : ℕ) (test : Variable → Bool) (scope : List Variable) → AllIn n scope → VariableBelow n (find test scope)
found_below n test [] h = tt
found_below n test (v ∷ scope) h = go (test v) (found_below n test scope h.1)
  where
    go : (b : Bool) → VariableBelow n (find test scope) → VariableBelow n (if b then Some v else find test scope)
    go true rest = h.0
    go false rest = rest

named_below : (n : ℕ) (text : List ℕ) (scopes : List (List Variable)) → AllBelow n scopes → VariableBelow n (variable_named text scopes)
named_below n text [] h = tt
named_below n text (scope ∷ scopes) h = go (find (λ v. bytes_eq v.text text) scope) (found_below n (λ v. bytes_eq v.text text) scope h.0) (named_below n text scopes h.1)
  where
    go : (o : Option Variable) → VariableBelow n o → VariableBelow n (variable_named text scopes) →
        VariableBelow n (elim o [ Some v ↦ Some v | None ↦ variable_named text scopes ])
    go None k rest = rest
    go (Some v) k rest = k

pub looked_fits : (n : ℕ) (env : Environment) (sc : Scope) (x : Name) → AllBelow n sc.locals → BoundFits n (bound_of env (look env sc x))
looked_fits n env sc x h = go (variable_named x.text sc.locals) (named_below n x.text sc.locals h)
  where
    go : (o : Option Variable) → VariableBelow n o →
        BoundFits n (bound_of env (elim o [ Some v ↦ a_local v | None ↦ outer_meaning env sc x.text (own_meaning env sc x.text) ]))
    go None k = none_fits n env (outer_meaning env sc x.text (own_meaning env sc x.text)) (outer_none env sc x.text (own_meaning env sc x.text) (own_none env sc x.text))
    go (Some v) k = k

pub path_fits : (n : ℕ) (env : Environment) (sc : Scope) (names : List Name) → AllBelow n sc.locals → PathFits n (resolve_path env sc names)
path_fits n env sc [] h = tt
path_fits n env sc (x ∷ names) h = looked_fits n env sc x h
