-- What is known besides is kept by each declaration.
use Rattle.std.proofs.Common.{◌≡◌, ◌∙◌, ◌<◌, ℕ, ℤ, zero, suc, true, List, [], ◌∷◌, ◌++◌, length, Option, Some, None, ◌⊎◌, inl, inr, find, refl, sym, ap, subst, arith}
use Rattle.std.specs.Prelude.{slice_get}
use Rattle.std.proofs.lemmas.List.{length-append}
use Rattle.cxx_ast.specs.declared.name.Name.{Name}
use Rattle.cxx_ast.specs.Plain.{Checked, Class, Function, Declaration, class_declaration, global_declaration, function_declaration}
use Rattle.cxx_ast.specs.Environment.{Signature, ClassEntry, Thing, global_thing, class_thing, function_thing, Entry, Environment}
use Rattle.cxx_ast.specs.Lookup.{entry_of}
use Rattle.cxx_ast.specs.TypeNames.{signature}
use Rattle.cxx_ast.specs.Locals.{outermost}
use Rattle.cxx_ast.specs.FunctionRules.{has_text}
use Rattle.cxx_ast.specs.Declare.{needs_no_arguments, with_name, next_class, with_signature, class_entry, declare_behind, declare_all}
use Rattle.cxx_ast.specs.Grammatical.{Each}
use Rattle.cxx_ast.specs.Checked.{IsChecked}
use Rattle.meaning_forms.specs.Class.{function_at}
use Rattle.class_layout.proofs.Declared.{named_classes}
use Rattle.class_layout.proofs.Named.{ThingBelow}
use Rattle.region_formed.proofs.Meant.{ParamsMeant, EntryMeant, numbered}
use Rattle.region_formed.proofs.Classes.{with_entry, entry_meant}
use Rattle.region_formed.proofs.Definitions.{named, first_kept}
use Rattle.region_formed.proofs.Lists.{each_map, each_last}
use Rattle.region_typed.specs.Known.{ClassesKnown, Settled}
use Rattle.region_typed.proofs.Defaults.{DefaultsKnown, can_default, built_next}
use Rattle.region_typed.proofs.Walk.{ClassStep, FunctionStep}

-- what is kept
pub record Steady (p : Checked) (env : Environment) : Type 0 where
  pub some : 0 < length env.classes
  pub classes : ClassesKnown env
  pub defaults : DefaultsKnown p env

-- what holds of all names and of one more
names_with : (P : Entry → Type 0) (env : Environment) (text : List ℕ) (t : Thing) → P (record { text = text; thing = t }) → Each P env.names → Each P (with_name env text t).names
names_with P env text t new h = go (entry_of env text)
  where
    go : (x : Option Entry) → Each P (with_entry env text t x).names
    go (Some e) = h
    go None = each_last P env.names (record { text = text; thing = t }) h new

signature_names : (P : Entry → Type 0) (env : Environment) (s : Signature) → P (record { text = s.name.text; thing = function_thing }) → Each P env.names → Each P (with_signature env s).names
signature_names P env s new h = go (entry_of env s.name.text)
  where
    old : (t : Thing) → Each P (elim t as (λ x. Environment) [ function_thing ↦ record env { signatures = env.signatures ++ (s ∷ []) } | _ ↦ env ]).names
    old function_thing = h
    old (global_thing n) = h
    old (class_thing k) = h

    go : (x : Option Entry) → Each P (elim x as (λ y. Environment) [
      | None ↦ record (with_name env s.name.text function_thing) { signatures = env.signatures ++ (s ∷ []) }
      | Some e ↦ elim e.thing [ function_thing ↦ record env { signatures = env.signatures ++ (s ∷ []) } | _ ↦ env ]
    ]).names
    go None = names_with P env s.name.text function_thing new h
    go (Some e) = old e.thing

thing_more : (n : ℕ) (t : Thing) → ThingBelow n t → ThingBelow (suc n) t
thing_more n (class_thing k) h = omega (arith, h)
thing_more n (global_thing x) h = tt
thing_more n function_thing h = tt

-- where no class is declared
steady_same : (p : Checked) (env next : Environment) → next.classes ≡ env.classes → Each (λ (e : Entry). ThingBelow (length env.classes) e.thing) next.names → Steady p env → Steady p next
steady_same p env next same names s = record {
  some = subst (λ cs. 0 < length cs) (sym same) s.some;
  classes = subst (λ cs. Each (λ (e : Entry). ThingBelow (length cs) e.thing) next.names) (sym same) names;
  defaults = λ k c at h. s.defaults k c (sym (ap (λ cs. slice_get cs k) same) ∙ at) h;
}

pub steady_global : (p : Checked) (env : Environment) (n : Name) (v : ℤ) → Steady p env → Steady p (declare_behind env (global_declaration n v))
steady_global p env n v s =
    let t = global_thing env.globals in
    steady_same p env (declare_behind env (global_declaration n v)) (named_classes env n.text t)
    (names_with (λ (e : Entry). ThingBelow (length env.classes) e.thing) env n.text t tt s.classes) s

-- the last of a list, or one before it
slice_last : {A : Type 0} (xs : List A) (x y : A) (i : ℕ) → slice_get (xs ++ (x ∷ [])) i ≡ Some y → (slice_get xs i ≡ Some y) ⊎ ((i ≡ length xs) × (x ≡ y))
slice_last [] x y zero e = inr (refl, cc e)
slice_last [] x y (suc i) e = absurd (cc e)
slice_last (z ∷ xs) x y zero e = inl e
slice_last (z ∷ xs) x y (suc i) e = elim (slice_last xs x y i e) [ inl h ↦ inl h | inr h ↦ inr (ap suc h.0, h.1) ]

module _ (p : Checked) (checked : IsChecked p) (defined special : List (List ℕ)) (env : Environment) where
  pub steady_function : (f : Function) → FunctionStep p checked defined special env f → Steady p env → Steady p (declare_behind env (function_declaration f))
  steady_function f step s =
      steady_same p env (declare_behind env (function_declaration f)) step.classes
      (signature_names (λ (e : Entry). ThingBelow (length env.classes) e.thing) env (signature env outermost f) tt s.classes) s

  pub steady_class : (c : Class) → ClassStep p checked defined special env c → Steady p env → Steady p (declare_behind env (class_declaration c))
  steady_class c step s =
      let t = class_thing (next_class env) in
      let below : ThingBelow (suc (length env.classes)) t = omega arith in
      let known = named_classes env c.name.text t in
      let size = ap length known in
      let more = length-append (with_name env c.name.text t).classes (class_entry env c ∷ []) in
      let count : suc (length env.classes) ≡ length (declare_behind env (class_declaration c)).classes = omega (arith, size, more) in
      record {
        some = omega (arith, count);
        classes = subst (λ n. Each (λ (e : Entry). ThingBelow n e.thing) (with_name env c.name.text t).names) count
            (names_with (λ (e : Entry). ThingBelow (suc (length env.classes)) e.thing) env c.name.text t below
            (each_map (λ (e : Entry). ThingBelow (length env.classes) e.thing) (λ (e : Entry). ThingBelow (suc (length env.classes)) e.thing)
            (λ e h. thing_more (length env.classes) e.thing h) env.names s.classes));
        defaults = λ k e at h.
            let here = sym (ap (λ cs. slice_get (cs ++ (class_entry env c ∷ [])) k) known) ∙ at in
            elim (slice_last env.classes (class_entry env c) e k here) [
              | inl q ↦ s.defaults k e q h
              | inr q ↦ built_next p checked special env s.defaults k q.0 (class_entry env c)
                  (subst (λ j. EntryMeant p special j (class_entry env c)) (sym q.0)
                  (entry_meant p defined special env step.meant c step.own step.placed step.below step.named step.data_members step.functions step.alone step.fine))
                  (needs k q.0) (sym (ap (λ (x : ClassEntry). x.has_default) (sym q.1)) ∙ h)
            ];
      }
    where
      needs : (k : ℕ) → k ≡ length env.classes → (class_entry env c).has_default ≡
          needs_no_arguments env k (class_entry env c).name (class_entry env c).base (class_entry env c).fields (class_entry env c).functions
      needs k e = ap (λ j. needs_no_arguments env j (class_entry env c).name (class_entry env c).base (class_entry env c).fields (class_entry env c).functions) (sym e)

-- what is known at a place where the declarations behind it give the first declarations of functions
pub settled_by : (p : Checked) (defined : List (List ℕ)) (last : List Signature) (env : Environment) (ds : List Declaration) → Steady p env → last ≡ (declare_all env ds).signatures →
    ((text : List ℕ) (s : Signature) → find (named text) last ≡ Some s → has_text s.name.text defined ≡ true →
    ParamsMeant (length p.classes) s.parameters (function_at p (numbered defined s.name.text)).parameters) → Settled p defined env
settled_by p defined last env ds s e known = record {
  some = s.some;
  classes = s.classes;
  defaults = λ k c at h. let x = s.defaults k c at h in let below = x.0 in can_default p k (suc k) x.0 (omega (arith, below)) x.1;
  functions = λ text x q h. known text x (ap (find (named text)) e ∙ first_kept ds env text x q) h;
}
