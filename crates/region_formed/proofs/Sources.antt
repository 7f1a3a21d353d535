-- In the program of a source classes' names are those of nothing else, so its regions are well-formed.
use Rattle.std.proofs.Common.{◌≡◌, ◌||◌, ℕ, true, false, not, List, [], ◌∷◌, ◌++◌, map, Option, Some, None, bytes_eq, codes, refl, sym, ap, subst}
use Rattle.std.specs.Prelude.{flat_map}
use Rattle.std.proofs.lemmas.Slice.Eq.{bytes_eq-Decides}
use Rattle.cxx_ast.specs.declared.name.Name.{Name}
use Rattle.cxx_ast.specs.declared.types.Param.{Param}
use Rattle.cxx_ast.specs.declared.declaration.FuncKind.{FuncKind}
use Rattle.cxx_ast.specs.declared.declaration.FuncKind.TheVariants.{Plain, Method, Constructor, Destructor}
use Rattle.cxx_ast.specs.Rule.{redeclared, no_main}
use Rattle.cxx_ast.specs.Finding.{breaks_if}
use Rattle.cxx_ast.specs.declared.standard.Std.{Std}
use Rattle.cxx_ast.specs.Plain.{Function, Class, Program, class_declaration}
use Rattle.cxx_ast.specs.Environment.{Environment}
use Rattle.cxx_ast.specs.Lookup.{is_method}
use Rattle.cxx_ast.specs.FunctionRules.{has_text}
use Rattle.cxx_ast.specs.Declare.{name_of, next_class, class_entry, declare_behind, at_the_start, definitions}
use Rattle.cxx_ast.specs.ClassRules.{is_taken, base_found, field_found, method_names, stands_before, twice_among, specials_found, size_found, method_found, class_rules_found}
use Rattle.cxx_ast.specs.DeclaredNames.{some_name, param_names, class_names, once_only_found}
use Rattle.cxx_ast.specs.Broken.{Valid, broken, declaration_found, declarations_found, has_main}
use Rattle.cxx_ast.specs.Grammatical.{Each}
use Rattle.cxx_ast.specs.Written.{Written, written_class, written_global, written_function, data_members, functions, declared}
use Rattle.cxx_ast.specs.Standards.{standard_found}
use Rattle.cxx_ast.specs.Checked.{checked}
use Rattle.region_formed.specs.WellFormed.{CheckedRegionsAreWellFormed, SourceRegionsAreWellFormed}
use Rattle.region_formed.proofs.Fine.{Fine, fine_parts, not_broken, nothing_refused}
use Rattle.region_formed.proofs.Heads.{NameAlone}
use Rattle.region_formed.proofs.Declarations.{DeclarationAlone}
use Rattle.region_formed.proofs.Programs.{class_texts, well_formed}
use Rattle.region_formed.proofs.Places.{source_above}
use Rattle.region_formed.proofs.Spelled.{Apart, field_names, MembersApart, program_passed}
use Rattle.region_formed.proofs.Lists.{each_map, each_both, each_front, each_back, flipped, behind_true}
use Rattle.region_formed.proofs.Once.{NotBefore, none_before, differ_by, asked_names, strangers}

module _ (special : List (List ℕ)) where
  -- a name is none of a class
  abbrev Stranger : Name → Type 0
  Stranger y = has_text y.text special ≡ false

  fields_alone : (ps : List Param) → Each Stranger (map name_of ps) → Each (λ (x : Param). Stranger (name_of x)) ps
  fields_alone [] h = tt
  fields_alone (x ∷ ps) h = (h.0, fields_alone ps h.1)

  params_alone : (ps : List Param) → Each Stranger (param_names ps) → Each (λ (x : Param). NameAlone special x.name) ps
  params_alone [] h = tt
  params_alone (x ∷ ps) h = (go x.name (each_front Stranger (some_name x.name) (param_names ps) h), params_alone ps (each_back Stranger (some_name x.name) (param_names ps) h))
    where
      go : (y : Option Name) → Each Stranger (some_name y) → NameAlone special y
      go None k = tt
      go (Some y) k = k.0

  functions_alone : (fs : List Function) → Each Stranger (flat_map (λ (f : Function). param_names f.parameters) fs) →
      Each (λ (f : Function). Each (λ (x : Param). NameAlone special x.name) f.parameters) fs
  functions_alone [] h = tt
  functions_alone (f ∷ fs) h =
      (params_alone f.parameters (each_front Stranger (param_names f.parameters) _ h), functions_alone fs (each_back Stranger (param_names f.parameters) _ h))

-- what holds of the names of member functions
methods_only : (P : Name → Type 0) (fs : List Function) → Each P (method_names fs) → Each (λ (f : Function). is_method f.kind ≡ true → P f.name) fs
methods_only P [] h = tt
methods_only P (f ∷ fs) h = go f.kind h (methods_only P fs)
  where
    go : (k : FuncKind) → Each P (elim k [ Method ↦ f.name ∷ method_names fs | _ ↦ method_names fs ]) →
        (Each P (method_names fs) → Each (λ (f : Function). is_method f.kind ≡ true → P f.name) fs) →
        (is_method k ≡ true → P f.name) × Each (λ (f : Function). is_method f.kind ≡ true → P f.name) fs
    go Method q rest = ((λ e. q.0), rest q.1)
    go Plain q rest = ((λ e. absurd (cc e)), rest q)
    go Constructor q rest = ((λ e. absurd (cc e)), rest q)
    go Destructor q rest = ((λ e. absurd (cc e)), rest q)

methods_among : (P : Name → Type 0) (fs : List Function) → Each P (map (λ (f : Function). f.name) fs) → Each P (method_names fs)
methods_among P [] h = tt
methods_among P (f ∷ fs) h = go f.kind (methods_among P fs h.1)
  where
    go : (k : FuncKind) → Each P (method_names fs) → Each P (elim k [ Method ↦ f.name ∷ method_names fs | _ ↦ method_names fs ])
    go Method r = (h.0, r)
    go Plain r = r
    go Constructor r = r
    go Destructor r = r

-- members of a class stand once
twice_each : (defined : List (List ℕ)) (all names : List Name) → Fine defined (twice_among all names) → Each (λ (n : Name). Each (λ (m : Name). NotBefore m n) all) names
twice_each defined all [] f = tt
twice_each defined all (n ∷ names) f =
    let parts = fine_parts defined (breaks_if (stands_before all n) redeclared n.place) (twice_among all names) f in
    (none_before all n (not_broken defined (stands_before all n) redeclared n.place parts.0), twice_each defined all names parts.1)

module _ (defined : List (List ℕ)) (env : Environment) (c : Class) (f : Fine defined (class_rules_found env c)) where
  abbrev fields : List Name
  fields = map name_of c.members

  abbrev methods : List Name
  methods = method_names c.functions

  once : Each (λ (n : Name). Each (λ (m : Name). NotBefore m n) (fields ++ methods)) (fields ++ methods)
  once =
      let names = fields ++ methods in
      let taken = breaks_if (is_taken env c.name.text) redeclared c.name.place in
      let base = base_found env c c.base in
      let types = flat_map (field_found env c) c.members in
      let specials = specials_found (next_class env) c.name.text [] (class_entry env c).functions in
      let size = size_found (class_entry env c) c.name.place in
      let a = fine_parts defined (taken ++ base ++ types ++ twice_among names names ++ specials ++ size) (flat_map (method_found env c) c.functions) f in
      let b = fine_parts defined (taken ++ base ++ types ++ twice_among names names ++ specials) size a.0 in
      let d = fine_parts defined (taken ++ base ++ types ++ twice_among names names) specials b.0 in
      twice_each defined names names (fine_parts defined (taken ++ base ++ types) (twice_among names names) d.0).1

  abbrev Row : Name → Type 0
  Row m = Each (λ (x : Name). NotBefore m x × NotBefore x m) fields

  pairs : Each Row methods
  pairs =
      each_both (λ (m : Name). Each (λ (x : Name). NotBefore m x) fields) (λ (m : Name). Each (λ (x : Name). NotBefore x m) fields) Row
      (λ m a b. each_both (λ (x : Name). NotBefore m x) (λ (x : Name). NotBefore x m) (λ (x : Name). NotBefore m x × NotBefore x m) (λ x u v. (u, v)) fields a b) methods
      (flipped (λ (x m : Name). NotBefore m x) fields methods
      (each_map (λ (n : Name). Each (λ (m : Name). NotBefore m n) (fields ++ methods)) (λ (n : Name). Each (λ (m : Name). NotBefore m n) methods)
      (λ n h. each_back (λ (m : Name). NotBefore m n) fields methods h) fields (each_front _ fields methods once)))
      (each_map (λ (n : Name). Each (λ (m : Name). NotBefore m n) (fields ++ methods)) (λ (n : Name). Each (λ (m : Name). NotBefore m n) fields)
      (λ n h. each_front (λ (m : Name). NotBefore m n) fields methods h) methods (each_back _ fields methods once))

  members_apart : Apart fields (map (λ (g : Function). g.name) c.functions) →
      Each (λ (g : Function). is_method g.kind ≡ true → Each (λ (x : Param). bytes_eq (name_of x).text g.name.text ≡ false) c.members) c.functions
  members_apart apart =
      methods_only (λ (m : Name). Each (λ (x : Param). bytes_eq (name_of x).text m.text ≡ false) c.members) c.functions
      (each_both Row (λ (m : Name). Each (λ (x : Name). x.place ≡ m.place → ⊥) fields) (λ (m : Name). Each (λ (x : Param). bytes_eq (name_of x).text m.text ≡ false) c.members)
      (λ m h k. of_params m c.members (each_both (λ (x : Name). NotBefore m x × NotBefore x m) (λ (x : Name). x.place ≡ m.place → ⊥) (λ (x : Name). bytes_eq x.text m.text ≡ false)
      (λ x a b. differ_by x m a.1 a.0 b) fields h k)) methods pairs
      (methods_among (λ (m : Name). Each (λ (x : Name). x.place ≡ m.place → ⊥) fields) c.functions
      (flipped (λ (x m : Name). x.place ≡ m.place → ⊥) fields (map (λ (g : Function). g.name) c.functions) apart)))
    where
      of_params : (m : Name) (ps : List Param) → Each (λ (x : Name). bytes_eq x.text m.text ≡ false) (map name_of ps) → Each (λ (x : Param). bytes_eq (name_of x).text m.text ≡ false) ps
      of_params m [] h = tt
      of_params m (x ∷ ps) h = (h.0, of_params m ps h.1)

-- each class's name is among them
abbrev NamedIn : List (List ℕ) → Written → Type 0
NamedIn special (written_class x is_public base ms) = has_text x.text special ≡ true
NamedIn special (written_global x s) = Unit {0}
NamedIn special (written_function f) = Unit {0}

all_named : (special : List (List ℕ)) (ws : List Written) → ((t : List ℕ) → has_text t (class_names (map declared ws)) ≡ true → has_text t special ≡ true) → Each (NamedIn special) ws
all_named special [] h = tt
all_named special (written_class x is_public base ms ∷ ws) h = (
  h x.text (ap (λ b. b || has_text x.text (class_names (map declared ws))) ((bytes_eq-Decides x.text x.text).1 refl)),
  all_named special ws (λ t k. h t (behind_true (bytes_eq x.text t) (has_text t (class_names (map declared ws))) k)),
)
all_named special (written_global x s ∷ ws) h = (tt, all_named special ws h)
all_named special (written_function f ∷ ws) h = (tt, all_named special ws h)

-- each declaration
declarations_alone : (defined special : List (List ℕ)) (ws : List Written) (env : Environment) → Fine defined (declarations_found env (map declared ws)) →
    Each (Stranger special) (flat_map asked_names ws) → Each MembersApart ws → Each (NamedIn special) ws → Each (DeclarationAlone special) (map declared ws)
declarations_alone defined special [] env f s m n = tt
declarations_alone defined special (written_class x is_public base ms ∷ ws) env f s m n =
    let c : Class = record { name = x; base = base; members = data_members ms; functions = functions ms } in
    let d = class_declaration c in
    let parts = fine_parts defined (declaration_found env d) (declarations_found (declare_behind env d) (map declared ws)) f in
    let own = each_front (Stranger special) (asked_names (written_class x is_public base ms)) (flat_map asked_names ws) s in
    let behind = each_back (Stranger special) (field_names ms) _ own in (
      (
        record {
          fields = fields_alone special (data_members ms) (each_front (Stranger special) (field_names ms) _ own);
          methods = methods_only (Stranger special) (functions ms) (each_front (Stranger special) (method_names (functions ms)) _ behind);
          parameters = functions_alone special (functions ms) (each_back (Stranger special) (method_names (functions ms)) _ behind);
          apart = members_apart defined env c parts.0 m.0;
        },
        n.0,
      ),
      declarations_alone defined special ws (declare_behind env d) parts.1 (each_back (Stranger special) (asked_names (written_class x is_public base ms)) (flat_map asked_names ws) s) m.1 n.1,
    )
declarations_alone defined special (written_global x v ∷ ws) env f s m n =
    let d = declared (written_global x v) in
    (tt, declarations_alone defined special ws (declare_behind env d) (fine_parts defined (declaration_found env d) (declarations_found (declare_behind env d) (map declared ws)) f).1 s m.1 n.1)
declarations_alone defined special (written_function g ∷ ws) env f s m n =
    let d = declared (written_function g) in (
      params_alone special g.parameters (each_front (Stranger special) (param_names g.parameters) (flat_map asked_names ws) s),
      declarations_alone defined special ws (declare_behind env d) (fine_parts defined (declaration_found env d) (declarations_found (declare_behind env d) (map declared ws)) f).1
          (each_back (Stranger special) (param_names g.parameters) (flat_map asked_names ws) s) m.1 n.1,
    )

-- a valid program breaks no rule in its declarations, and declares what is declared once only once
valid_parts : (std : Std) (p : Program) → Valid std p →
    (Fine (definitions p.declarations) (declarations_found (at_the_start p.declarations) p.declarations)) × (Fine (definitions p.declarations) (once_only_found p.declarations))
unfolding broken
valid_parts std p valid =
    let defined = definitions p.declarations in
    let walked = declarations_found (at_the_start p.declarations) p.declarations in
    let once = once_only_found p.declarations in
    let main = breaks_if (not (has_main p.declarations)) no_main p.length in
    let own = standard_found std p.declarations in
    let all = fine_parts defined (walked ++ once ++ main) own (nothing_refused defined (walked ++ once ++ main ++ own) valid) in
    fine_parts defined walked once (fine_parts defined (walked ++ once) main all.0).0

-- the program of a source
pub source_well_formed : CheckedRegionsAreWellFormed
source_well_formed p c =
    let ds = c.program.declarations in
    let defined = definitions ds in
    let ws = c.tree.written in
    let back = sym c.tree.declarations in
    let passed = program_passed ws 0 c.tree.grammatical (source_above c.source c.tokens _ c.lexed c.tree.spelled) in
    let fine = valid_parts c.std c.program c.valid in
    let walked = subst (λ xs. Fine defined (declarations_found (at_the_start ds) xs)) back fine.0 in
    let once = subst (λ xs. Fine defined (once_only_found xs)) back fine.1 in
    let apart = strangers defined ws c.tree.grammatical passed once in
    let named = all_named (class_texts (map declared ws)) ws (λ t h. behind_true (bytes_eq (codes "std::bad_exception") t) (has_text t (class_names (map declared ws))) h) in
    let alone = declarations_alone defined (class_texts (map declared ws)) ws (at_the_start ds) walked apart passed.members named in
    well_formed p c (subst (λ xs. Each (DeclarationAlone (class_texts xs)) xs) c.tree.declarations alone)

-- and of a valid source
pub valid_well_formed : SourceRegionsAreWellFormed
valid_well_formed source tokens std p lexed tree valid =
    source_well_formed (checked std p)
    (record { std = std; source = source; tokens = tokens; program = p; lexed = lexed; tree = tree; valid = valid; resolved = refl })
