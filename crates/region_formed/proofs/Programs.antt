-- The declared functions of a checked program pass their tests, where classes' names are those of nothing else.
use Rattle.std.proofs.Common.{◌≡◌, ◌∙◌, ◌+◌, ◌<◌, ℕ, zero, suc, Bool, true, not, List, [], ◌∷◌, ◌++◌, map, length, Option, Some, None, option_map, codes, find, refl, sym, ap, subst, arith, false}
use Rattle.std.specs.Prelude.{slice_get, unwrap_or}
use Rattle.std.proofs.lemmas.Slice.Eq.{bytes_eq-Decides}
use Rattle.std.proofs.lemmas.Option.{slice_get_within, slice_get-map}
use Rattle.cxx_ast.specs.Finding.{breaks_if}
use Rattle.cxx_ast.specs.Rule.{no_main}
use Rattle.cxx_ast.specs.declared.standard.Std.{Std}
use Rattle.cxx_ast.specs.Plain.{Specification, Function, Class, Declaration, Program, Checked}
use Rattle.cxx_ast.specs.Environment.{Signature, ClassEntry, Environment}
use Rattle.cxx_ast.specs.Lookup.{entry_of}
use Rattle.cxx_ast.specs.FunctionRules.{has_text}
use Rattle.cxx_ast.specs.DeclaredNames.{class_names, once_only_found}
use Rattle.cxx_ast.specs.Declare.{at_the_start, definitions, declare_all}
use Rattle.cxx_ast.specs.Broken.{Valid, broken, declarations_found, has_main}
use Rattle.cxx_ast.specs.Grammatical.{Each, IsGrammatical}
use Rattle.cxx_ast.specs.Written.{Written, declared}
use Rattle.cxx_ast.specs.Checked.{IsChecked, bad_exception, resolve_declarations, classes_of, globals_of, functions_of, checked}
use Rattle.cxx_ast.specs.Settled.{Allowed, allowed_by, destructor_of, given, settled, settle_function, settle_classes}
use Rattle.cxx_ast.specs.Standards.{standard_found}
use Rattle.cxx_ast.proofs.Settled.{OfTypes, OfClass, settled_kept, settled_types}
use Rattle.meaning_forms.specs.Class.{class_named, class_at, no_class, no_function}
use Rattle.meaning_forms.specs.Expression.{types_of}
use Rattle.region_forms.specs.Layout.{layout_of}
use Rattle.region_forms.specs.LowerProgram.{declared_function, regions_of}
use Rattle.region_forms.specs.WellFormed.{is_well_formed}
use Rattle.region_ir.specs.Implicit.{body_passes, DeclaredPass}
use Rattle.region_ir.proofs.Joined.{checked_joined}
use Rattle.region_formed.proofs.Fine.{Fine, fine_parts, nothing_refused}
use Rattle.region_formed.proofs.Meant.{FieldsMeant, MethodsMeant, Shaped, EntryMeant, Meant, numbered}
use Rattle.region_formed.proofs.Meanings.{found_each, found_passes}
use Rattle.region_formed.proofs.Definitions.{Good, named, Declared, defined_at, position_of, all_good}
use Rattle.region_formed.proofs.Functions.{HasRow}
use Rattle.region_formed.proofs.Declarations.{DeclarationAlone, MethodPasses, FunctionPasses, ClassesPass, Left, Known, AllPass, declarations_pass}
use Rattle.region_formed.proofs.Lists.{each_at, text_first}

-- the names of classes, with that of class 0
abbrev pub class_texts : List Declaration → List (List ℕ)
class_texts ds = codes "std::bad_exception" ∷ class_names ds

-- functions and classes with the specifications that count
module _ (p : Checked) where
  abbrev MethodDone : ℕ → Function → Type 0
  MethodDone k f = body_passes (regions_of p (layout_of p)) (declared_function p (layout_of p) true false k f) ≡ true

  abbrev FunctionDone : Function → Type 0
  FunctionDone f = (is_main : Bool) → body_passes (regions_of p (layout_of p)) (declared_function p (layout_of p) false is_main 0 f) ≡ true

  abbrev ClassesDone : ℕ → List Class → Type 0
  ClassesDone k [] = Unit {0}
  ClassesDone k (c ∷ cs) = Each (MethodDone k) c.functions × ClassesDone (k + 1) cs

  functions_done : (fs : List Function) → Each (FunctionPasses p) fs → Each FunctionDone (map (settle_function None) fs)
  functions_done [] h = tt
  functions_done (f ∷ fs) h =
      (h.0.1 (settled None f.kind f.specification) (settled_kept (HasRow p) None f.kind f.specification tt h.0.0), functions_done fs h.1)

  -- the types that the functions of classes list have rows
  own_lists : (k : ℕ) (fs : List Function) → Each (MethodPasses p k) fs → Each (λ (f : Function). OfTypes (HasRow p) f.specification) fs
  own_lists k [] h = tt
  own_lists k (f ∷ fs) h = (h.0.0, own_lists k fs h.1)

  class_lists : (k : ℕ) (cs : List Class) → ClassesPass p k cs → Each (OfClass (HasRow p)) cs
  class_lists k [] h = tt
  class_lists k (c ∷ cs) h = (own_lists k c.functions h.0, class_lists (k + 1) cs h.1)

  methods_done : (own : Option Specification) (k : ℕ) (fs : List Function) → Each (MethodPasses p k) fs →
      Each (λ (f : Function). OfTypes (HasRow p) f.specification) (map (settle_function own) fs) → Each (MethodDone k) (map (settle_function own) fs)
  methods_done own k [] h r = tt
  methods_done own k (f ∷ fs) h r = (h.0.1 (settled own f.kind f.specification) r.0, methods_done own k fs h.1 r.1)

  classes_done : (std : Std) (before : List Allowed) (k : ℕ) (cs : List Class) → ClassesPass p k cs → Each (OfClass (HasRow p)) (settle_classes std before cs) →
      ClassesDone k (settle_classes std before cs)
  classes_done std before k [] h r = tt
  classes_done std before k (c ∷ cs) h r =
      let own = given std before c in
      (methods_done own k c.functions h.0 r.0, classes_done std (before ++ allowed_by (destructor_of own c.functions) ∷ []) (k + 1) cs h.1 r.1)

  method_at_class : (cs : List Class) (n k i : ℕ) (f : Function) → ClassesDone n cs → k < length cs →
      slice_get (unwrap_or (slice_get cs k) no_class).functions i ≡ Some f → MethodDone (n + k) f
  method_at_class [] n k i f h below e = absurd (omega (arith, below))
  method_at_class (c ∷ cs) n zero i f h below e =
      let none : n ≡ n + 0 = omega arith in subst (λ j. MethodDone j f) none (each_at (MethodDone n) c.functions i f h.0 e)
  method_at_class (c ∷ cs) n (suc k) i f h below e =
      let more : n + 1 + k ≡ n + suc k = omega arith in
      subst (λ j. MethodDone j f) more (method_at_class cs (n + 1) k i f h.1 (omega (arith, below)) e)

-- the class of `std::bad_exception`
first_class : (p : Checked) (special : List (List ℕ)) → 0 < length p.classes → class_at p 0 ≡ bad_exception → (name : List ℕ) → has_text name special ≡ true →
    EntryMeant p special 0 (record { name = name; base = None; fields = []; functions = []; size = 4; chain = 1; has_default = true })
first_class p special below is name named = record {
  below = below;
  base = ap (λ c. option_map class_named c.base) is;
  fields = subst (λ c. FieldsMeant (length p.classes) [] c.members) (sym is) tt;
  functions = subst (λ c. MethodsMeant (length p.classes) name [] c.functions) (sym is) tt;
  alone = record { fields = tt; methods = tt; apart = λ text kind e k i. absurd (cc e) };
  named = named;
}

-- the first declaration of each function, by the functions that are defined
known_functions : (p : Checked) (ws : List Written) (env : Environment) → Each IsGrammatical ws → (functions : p.functions ≡ map (settle_function None) (functions_of (resolve_declarations env (map declared ws)))) →
    env.signatures ≡ [] → Fine (definitions (map declared ws)) (declarations_found env (map declared ws)) →
    (special : List (List ℕ)) (c : IsChecked p) → Known p c (definitions (map declared ws)) special (declare_all env (map declared ws)).signatures
known_functions p ws env w functions none f special c text s e =
    let defined = definitions (map declared ws) in
    let last = (declare_all env (map declared ws)).signatures in
    let start : Declared env = record { good = subst (Each Good) (sym none) tt; entered = subst (λ ss. Each (λ (s : Signature). entry_of env s.name.text ≡ None → ⊥) ss) (sym none) tt } in
    let good = found_each Good (named text) last s (all_good defined ws env start w f) e in
    let same : s.name.text ≡ text = (bytes_eq-Decides s.name.text text).0 (found_passes (named text) last s e) in
    let own : find (named s.name.text) last ≡ Some s = subst (λ t. find (named t) last ≡ Some s) (sym same) e in
    record {
      result = good.result;
      there = λ h.
          let n = numbered defined s.name.text in
          let d = defined_at defined ws env start w f s n own (position_of defined s.name.text h) in
          let found = functions_of (resolve_declarations env (map declared ws)) in
          let at : slice_get p.functions n ≡ Some (settle_function None d.function) =
          ap (λ fs. slice_get fs n) functions ∙ slice_get-map (settle_function None) found n ∙ ap (option_map (settle_function None)) d.at in (
            slice_get_within p.functions n (settle_function None d.function) at,
            subst (λ g. Shaped s.parameters (types_of g.parameters)) (sym (ap (λ o. unwrap_or o no_function) at)) d.shape,
          );
    }

module _ (std : Std) (p : Program) (ws : List Written) (e : map declared ws ≡ p.declarations) (w : Each IsGrammatical ws) (valid : Valid std p)
    (alone : Each (DeclarationAlone (class_texts p.declarations)) p.declarations) where
  fine_there : Fine (definitions p.declarations) (declarations_found (at_the_start p.declarations) p.declarations)
  unfolding broken
  fine_there =
      let defined = definitions p.declarations in
      let walked = declarations_found (at_the_start p.declarations) p.declarations in
      let once = once_only_found p.declarations in
      let main = breaks_if (not (has_main p.declarations)) no_main p.length in
      let own = standard_found std p.declarations in
      let all = fine_parts defined (walked ++ once ++ main) own (nothing_refused defined (walked ++ once ++ main ++ own) valid) in
      (fine_parts defined walked once (fine_parts defined (walked ++ once) main all.0).0).0

  pub program_passes : IsChecked (checked std p) → DeclaredPass (checked std p) (layout_of (checked std p))
  unfolding checked
  program_passes c =
      let env = at_the_start p.declarations in
      let defined = definitions (map declared ws) in
      let special = class_texts p.declarations in
      let q = checked std p in
      let back = sym e in
      let fine = subst (λ ds. Fine (definitions ds) (declarations_found env ds)) back fine_there in
      let known = known_functions q ws env w (ap (λ ds. map (settle_function None) (functions_of (resolve_declarations env ds))) back) refl fine special c in
      let m : Meant q defined special env = record {
        some = omega arith;
        classes = λ k x h. one_class k x h;
        names = tt;
        signatures = λ text s h. absurd (cc h);
        definitions = ap definitions back;
      } in
      let left : Left q c defined special std (declare_all env (map declared ws)).signatures env (map declared ws) = record {
        meant = m;
        done = bad_exception ∷ [];
        allowed = allowed_by (destructor_of (given std [] bad_exception) []) ∷ [];
        classes = ap (λ ds. settle_classes std [] (bad_exception ∷ classes_of (resolve_declarations env ds))) back;
        count = refl;
        before = [];
        globals = ap (λ ds. globals_of (resolve_declarations env ds)) back;
        globals_count = refl;
        last_is = refl;
      } in
      let all = declarations_pass q c defined special std (declare_all env (map declared ws)).signatures known ws env left w (subst (Each (DeclarationAlone special)) back alone) fine in
      let here = subst (λ ds. AllPass q c defined special 1 (resolve_declarations env ds)) e all in
      let functions = functions_done q (functions_of (resolve_declarations env p.declarations)) here.functions in
      let cs = bad_exception ∷ classes_of (resolve_declarations env p.declarations) in
      let classes : ClassesPass q 0 cs = (tt, here.classes) in
      let rows = settled_types (HasRow q) std [] cs tt (class_lists q 0 cs classes) in
      let methods = classes_done q std [] 0 cs classes rows in
      record {
        own = λ is_main i f h. each_at (FunctionDone q) q.functions i f functions h is_main;
        method = λ k i f below h. let none : 0 + k ≡ k = omega arith in subst (λ j. MethodDone q j f) none (method_at_class q q.classes 0 k i f methods below h);
      }
    where
      one_class : (k : ℕ) (x : ClassEntry) → slice_get (at_the_start p.declarations).classes k ≡ Some x → EntryMeant (checked std p) (class_texts p.declarations) k x
      one_class zero x h =
          subst (EntryMeant (checked std p) (class_texts p.declarations) 0) (cc h)
          (first_class (checked std p) (class_texts p.declarations) (omega arith) refl (codes "std::bad_exception") (text_first (codes "std::bad_exception") (class_names p.declarations)))
      one_class (suc zero) x h = absurd (cc h)
      one_class (suc (suc k)) x h = absurd (cc h)

-- the regions of a checked program, where classes' names are those of nothing else
pub well_formed : (p : Checked) (c : IsChecked p) → Each (DeclarationAlone (class_texts c.program.declarations)) c.program.declarations →
    is_well_formed (regions_of p (layout_of p)) ≡ true
well_formed p c alone =
    checked_joined p c
    (subst (λ q. IsChecked q → DeclaredPass q (layout_of q)) (sym c.resolved)
    (program_passes c.std c.program c.tree.written c.tree.declarations c.tree.grammatical c.valid alone) c)
