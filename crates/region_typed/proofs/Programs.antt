-- Checked programs are typed.
use Rattle.std.proofs.Common.{◌≡◌, ◌∙◌, ◌+◌, ◌<◌, ◌||◌, ◌&&◌, ◌==◌, ℕ, zero, suc, Bool, true, false, not, List, [], ◌∷◌, ◌++◌, map, length, Option, Some, None, option_map, bytes_eq, codes, find, if◌then◌else◌, refl, sym, ap, subst, arith}
use Rattle.std.specs.Prelude.{slice_get, unwrap_or}
use Rattle.std.proofs.lemmas.Bool.{and_parts}
use Rattle.std.proofs.lemmas.Slice.Eq.{bytes_eq-Decides}
use Rattle.std.proofs.lemmas.Option.{slice_get_within, slice_get-map}
use Rattle.cxx_ast.specs.declared.types.Ty.{Ty}
use Rattle.cxx_ast.specs.declared.types.Ty.TheVariants.{Int, Void, Object, IntRef, ObjectRef}
use Rattle.cxx_ast.specs.declared.types.Param.{Param}
use Rattle.cxx_ast.specs.Finding.{breaks_if}
use Rattle.cxx_ast.specs.Rule.{no_main}
use Rattle.cxx_ast.specs.Plain.{Class, Declaration, class_declaration, global_declaration, function_declaration, Program, Checked, Specification, Function}
use Rattle.cxx_ast.specs.TypeNames.{has_body}
use Rattle.cxx_ast.specs.Environment.{int_kind, Passing, Signature, ClassEntry, Environment}
use Rattle.cxx_ast.specs.Lookup.{entry_of}
use Rattle.cxx_ast.specs.FunctionRules.{has_text}
use Rattle.cxx_ast.specs.DeclaredNames.{class_names, once_only_found}
use Rattle.cxx_ast.specs.Declare.{at_the_start, definitions, declare_all}
use Rattle.cxx_ast.specs.Broken.{Valid, broken, declarations_found, is_main, has_main}
use Rattle.cxx_ast.specs.Grammatical.{Each, IsGrammatical}
use Rattle.cxx_ast.specs.Written.{Written, declared}
use Rattle.cxx_ast.specs.Checked.{IsChecked, bad_exception, resolve_declarations, classes_of, globals_of, functions_of, checked}
use Rattle.meaning_forms.specs.Class.{class_type, class_named, class_at, no_class, no_function, function_at, method_at, parts_of}
use Rattle.meaning_forms.specs.Construct.{constructor_for}
use Rattle.meaning_forms.specs.Expression.{types_of}
use Rattle.region_forms.specs.Layout.{layout_of}
use Rattle.class_layout.proofs.Apart.{stand_apart}
use Rattle.class_layout.proofs.Program.{classes_fit}
use Rattle.region_statements.specs.Whole.{IsTypedProgram}
use Rattle.region_formed.proofs.Fine.{Fine, fine_parts, held, nothing_refused}
use Rattle.region_formed.proofs.Meant.{FieldsMeant, MethodsMeant, ParamsMeant, Shaped, EntryMeant, Meant, numbered}
use Rattle.region_formed.proofs.Meanings.{found_each, found_passes}
use Rattle.region_formed.proofs.Definitions.{Good, named, Declared, defined_at, position_of, all_good as all_signatures_good}
use Rattle.region_formed.proofs.Declarations.{DeclarationAlone, Left, Known}
use Rattle.region_formed.proofs.Lists.{each_at, text_first, behind_true}
use Rattle.region_formed.proofs.Places.{source_above}
use Rattle.region_formed.proofs.Programs.{class_texts}
use Rattle.region_formed.proofs.Spelled.{program_passed}
use Rattle.region_formed.proofs.Once.{strangers}
use Rattle.region_typed.proofs.Building.{some_item}
use Rattle.region_typed.proofs.Defaults.{BuiltBy, part_before}
use Rattle.region_typed.proofs.Walk.{walked}
use Rattle.region_typed.proofs.Definitions.{result_kind_of, parameters_known, main_first}
use Rattle.region_typed.proofs.Order.{FieldsOrdered, all_ordered}
use Rattle.region_typed.proofs.Settling.{Steady}
use Rattle.region_typed.proofs.Bodies.{FunctionGood, MethodGood, AnyFunction, AnyMethod, ClassesGood, AllGood, all_good}
use Rattle.region_typed.proofs.Sources.{all_named, declarations_alone, valid_parts}
use Rattle.cxx_ast.specs.declared.standard.Std.{Std}
use Rattle.cxx_ast.specs.Settled.{Allowed, allowed_by, destructor_of, given, settled, settle_function, settle_classes}
use Rattle.cxx_ast.specs.Standards.{standard_found}

-- the class of `std::bad_exception`
first_class : (p : Checked) (special : List (List ℕ)) → 0 < length p.classes → class_at p 0 ≡ bad_exception → (name : List ℕ) → has_text name special ≡ true →
    EntryMeant p special 0 (record { name = name; base = None; fields = []; functions = []; size = 4; chain = 1; has_default = true })
first_class p special below is name named = record {
  below = below;
  base = ap (λ c. option_map class_named c.base) is;
  fields = subst (λ c. FieldsMeant (length p.classes) [] c.members) (sym is) tt;
  functions = subst (λ c. MethodsMeant (length p.classes) name [] c.functions) (sym is) tt;
  alone = record { fields = tt; methods = tt; apart = λ text kind e k i. absurd (cc e) };
  named = named;
}

-- no function is declared yet
none_declared : (env : Environment) → env.signatures ≡ [] → Declared env
none_declared env none = record {
  good = subst (Each Good) (sym none) tt;
  entered = subst (λ ss. Each (λ (s : Signature). entry_of env s.name.text ≡ None → ⊥) ss) (sym none) tt;
}

-- the first declaration of each function, by the functions that are defined
known_functions : (p : Checked) (ws : List Written) (env : Environment) → Each IsGrammatical ws → (functions : p.functions ≡ map (settle_function None) (functions_of (resolve_declarations env (map declared ws)))) →
    env.signatures ≡ [] → Fine (definitions (map declared ws)) (declarations_found env (map declared ws)) →
    (special : List (List ℕ)) (c : IsChecked p) → Known p c (definitions (map declared ws)) special (declare_all env (map declared ws)).signatures
known_functions p ws env w functions none f special c text s e =
    let defined = definitions (map declared ws) in
    let last = (declare_all env (map declared ws)).signatures in
    let start = none_declared env none in
    let good = found_each Good (named text) last s (all_signatures_good defined ws env start w f) e in
    let same : s.name.text ≡ text = (bytes_eq-Decides s.name.text text).0 (found_passes (named text) last s e) in
    let own : find (named s.name.text) last ≡ Some s = subst (λ t. find (named t) last ≡ Some s) (sym same) e in
    record {
      result = good.result;
      there = λ h.
          let n = numbered defined s.name.text in
          let d = defined_at defined ws env start w f s n own (position_of defined s.name.text h) in
          let found = functions_of (resolve_declarations env (map declared ws)) in
          let at : slice_get p.functions n ≡ Some (settle_function None d.function) =
          ap (λ fs. slice_get fs n) functions ∙ slice_get-map (settle_function None) found n ∙ ap (option_map (settle_function None)) d.at in (
            slice_get_within p.functions n (settle_function None d.function) at,
            subst (λ g. Shaped s.parameters (types_of g.parameters)) (sym (ap (λ o. unwrap_or o no_function) at)) d.shape,
          );
    }

-- main is defined
first_true : (a b : Bool) → a ≡ true → (a || b) ≡ true
first_true true b h = refl
first_true false b h = absurd (cc h)

main_defined : (ds : List Declaration) → has_main ds ≡ true → has_text (codes "main") (definitions ds) ≡ true
main_defined [] h = absurd (cc h)
main_defined (class_declaration c ∷ ds) h = main_defined ds h
main_defined (global_declaration n v ∷ ds) h = main_defined ds h
main_defined (function_declaration f ∷ ds) h = by (is_main f) refl h (main_defined ds)
  where
    more : (b : Bool) → has_text (codes "main") (definitions ds) ≡ true → has_text (codes "main") (if b then f.name.text ∷ definitions ds else definitions ds) ≡ true
    more true q = behind_true (bytes_eq f.name.text (codes "main")) (has_text (codes "main") (definitions ds)) q
    more false q = q

    by : (b : Bool) → is_main f ≡ b → (b || has_main ds) ≡ true → (has_main ds ≡ true → has_text (codes "main") (definitions ds) ≡ true) →
        has_text (codes "main") (if has_body f.body then f.name.text ∷ definitions ds else definitions ds) ≡ true
    by true e q rest =
        let third = and_parts (bytes_eq f.name.text (codes "main") && has_body f.body && length f.parameters == 0) _ e in
        let second = and_parts (bytes_eq f.name.text (codes "main") && has_body f.body) (length f.parameters == 0) third.0 in
        let first = and_parts (bytes_eq f.name.text (codes "main")) (has_body f.body) second.0 in
        subst (λ b. has_text (codes "main") (if b then f.name.text ∷ definitions ds else definitions ds) ≡ true) (sym first.1) (first_true (bytes_eq f.name.text (codes "main")) _ first.0)
    by false e q rest = more (has_body f.body) (rest q)

int_is_result : (t : Ty) → result_kind_of t ≡ int_kind → t ≡ Int
int_is_result Int h = refl
int_is_result Void h = absurd (cc h)
int_is_result (Object n) h = absurd (cc h)
int_is_result (IntRef const) h = absurd (cc h)
int_is_result (ObjectRef const n) h = absurd (cc h)

no_params_left : (n : ℕ) (qs : List Passing) (xs : List Param) → qs ≡ [] → ParamsMeant n qs xs → xs ≡ []
no_params_left n qs [] e h = refl
no_params_left n [] (x ∷ xs) e h = absurd h
no_params_left n (q ∷ qs) (x ∷ xs) e h = absurd (cc e)

-- an item with its number
item_at : {A : Type 0} (xs : List A) (n : ℕ) (other : A) → n < length xs → slice_get xs n ≡ Some (unwrap_or (slice_get xs n) other)
item_at xs n other h = let x = some_item xs n h in x.1 ∙ ap Some (sym (ap (λ o. unwrap_or o other) x.1))

-- functions and classes with the specifications that count
functions_settled : (p : Checked) (fs : List Function) → Each (AnyFunction p) fs → Each (FunctionGood p) (map (settle_function None) fs)
functions_settled p [] h = tt
functions_settled p (f ∷ fs) h = (h.0 (settled None f.kind f.specification), functions_settled p fs h.1)

methods_settled : (p : Checked) (own : Option Specification) (k : ℕ) (fs : List Function) → Each (AnyMethod p k) fs → Each (MethodGood p k) (map (settle_function own) fs)
methods_settled p own k [] h = tt
methods_settled p own k (f ∷ fs) h = (h.0 (settled own f.kind f.specification), methods_settled p own k fs h.1)

classes_settled : (p : Checked) (std : Std) (before : List Allowed) (k : ℕ) (cs : List Class) → ClassesGood p (AnyMethod p) k cs →
    ClassesGood p (MethodGood p) k (settle_classes std before cs)
classes_settled p std before k [] h = tt
classes_settled p std before k (c ∷ cs) h =
    let own = given std before c in (
      (h.0.0, methods_settled p own k c.functions h.0.1),
      classes_settled p std (before ++ allowed_by (destructor_of own c.functions) ∷ []) (k + 1) cs h.1,
    )

-- a class with its number
class_good : (p : Checked) (cs : List Class) (n k : ℕ) → ClassesGood p (MethodGood p) n cs → k < length cs →
    (class_named (unwrap_or (slice_get cs k) no_class).name ≡ n + k) × Each (MethodGood p (n + k)) (unwrap_or (slice_get cs k) no_class).functions
class_good p [] n k h below = absurd (omega (arith, below))
class_good p (c ∷ cs) n zero h below =
    let none : n ≡ n + 0 = omega arith in (h.0.0 ∙ none, subst (λ j. Each (MethodGood p j) c.functions) none h.0.1)
class_good p (c ∷ cs) n (suc k) h below =
    let more : n + 1 + k ≡ n + suc k = omega arith in
    let r = class_good p cs (n + 1) k h.1 (omega (arith, below)) in
    (r.0 ∙ more, subst (λ j. Each (MethodGood p j) (unwrap_or (slice_get cs k) no_class).functions) more r.1)

module _ (std : Std) (p : Program) (ws : List Written) (e : map declared ws ≡ p.declarations) (w : Each IsGrammatical ws) (valid : Valid std p)
    (alone : Each (DeclarationAlone (class_texts p.declarations)) p.declarations) (ordered : Each FieldsOrdered ws) where
  main_there : has_main p.declarations ≡ true
  unfolding broken
  main_there =
      let defined = definitions p.declarations in
      let walked = declarations_found (at_the_start p.declarations) p.declarations in
      let once = once_only_found p.declarations in
      let main = breaks_if (not (has_main p.declarations)) no_main p.length in
      let own = standard_found std p.declarations in
      let all = fine_parts defined (walked ++ once ++ main) own (nothing_refused defined (walked ++ once ++ main ++ own) valid) in
      held defined (has_main p.declarations) no_main p.length (fine_parts defined (walked ++ once) main all.0).1

  pub program_typed : IsChecked (checked std p) → IsTypedProgram (checked std p) (layout_of (checked std p))
  unfolding checked
  program_typed c =
      let env = at_the_start p.declarations in
      let defined = definitions (map declared ws) in
      let special = class_texts p.declarations in
      let q = checked std p in
      let back = sym e in
      let last = (declare_all env (map declared ws)).signatures in
      let fine = subst (λ ds. Fine (definitions ds) (declarations_found env ds)) back (valid_parts std p valid).0 in
      let functions : q.functions ≡ map (settle_function None) (functions_of (resolve_declarations env (map declared ws))) =
      ap (λ ds. map (settle_function None) (functions_of (resolve_declarations env ds))) back in
      let known = known_functions q ws env w functions refl fine special c in
      let m : Meant q defined special env = record {
        some = omega arith;
        classes = λ k x h. one_class k x h;
        names = tt;
        signatures = λ text s h. absurd (cc h);
        definitions = ap definitions back;
      } in
      let left : Left q c defined special std last env (map declared ws) = record {
        meant = m;
        done = bad_exception ∷ [];
        allowed = allowed_by (destructor_of (given std [] bad_exception) []) ∷ [];
        classes = ap (λ ds. settle_classes std [] (bad_exception ∷ classes_of (resolve_declarations env ds))) back;
        count = refl;
        before = [];
        globals = ap (λ ds. globals_of (resolve_declarations env ds)) back;
        globals_count = refl;
        last_is = refl;
      } in
      let steps = walked q c defined special std last known ws env left w (subst (Each (DeclarationAlone special)) back alone) fine in
      let start = none_declared env refl in
      let exact = parameters_known q c defined special ws env start steps refl functions in
      let steady : Steady q env = record { some = omega arith; classes = tt; defaults = λ k x at h. first_default k x at } in
      let all = all_good q c defined special last (λ text s f h. (exact text s f h).0) ws env refl steps ordered steady in
      let here = subst (λ ds. AllGood q c defined special 1 (resolve_declarations env ds)) e all in
      let first = main_first q c defined special ws env start steps (subst (λ ds. has_main ds ≡ true) back main_there) in
      let s = first.signature_of in
      let text : s.name.text ≡ codes "main" = (bytes_eq-Decides s.name.text (codes "main")).0 (found_passes (named (codes "main")) last s first.found) in
      let is_defined : has_text s.name.text defined ≡ true =
      subst (λ t. has_text t defined ≡ true) (sym text) (main_defined (map declared ws) (subst (λ ds. has_main ds ≡ true) back main_there)) in
      let main : numbered defined s.name.text ≡ q.main = ap (numbered defined) text ∙ ap (λ ds. numbered (definitions ds) (codes "main")) e in
      let there = subst (λ n. n < length q.functions) main ((known (codes "main") s first.found).there is_defined).0 in
      let meant = exact (codes "main") s first.found is_defined in
      let parameters = subst (λ n. (function_at q n).parameters ≡ []) main
      (no_params_left (length q.classes) s.parameters (function_at q (numbered defined s.name.text)).parameters first.none meant.0) in
      let result = subst (λ n. (function_at q n).result ≡ Int) main (int_is_result (function_at q (numbered defined s.name.text)).result (sym meant.1 ∙ first.int)) in
      let own : (n : ℕ) → n < length q.functions → FunctionGood q (function_at q n) =
      λ n h. each_at (FunctionGood q) q.functions n (function_at q n) (functions_settled q (functions_of (resolve_declarations env p.declarations)) here.functions) (item_at q.functions n no_function h) in
      let named : ClassesGood q (AnyMethod q) 0 (bad_exception ∷ classes_of (resolve_declarations env p.declarations)) = ((refl, tt), here.classes) in
      let classes : ClassesGood q (MethodGood q) 0 q.classes = classes_settled q std [] 0 (bad_exception ∷ classes_of (resolve_declarations env p.declarations)) named in
      record {
        apart = stand_apart q.classes (classes_fit q c);
        main_there = there;
        main_result = result;
        main_parameters = parameters;
        main_jumps = (own q.main there).jumps;
        plain = λ n h. (own n h).plain;
        functions = λ n h. (own n h).typed;
        methods = λ k i h below. (of_class classes k i h below).typed;
        constructors = λ k i h below is. (of_class classes k i h below).constructor is;
        destructors = λ k i h below is. (of_class classes k i h below).destructor is;
        named = λ k h. class_numbered classes k h;
        parts = λ k i j h at. let less = part_before q c k i j h at in omega (arith, less, h);
      }
    where
      one_class : (k : ℕ) (x : ClassEntry) → slice_get (at_the_start p.declarations).classes k ≡ Some x → EntryMeant (checked std p) (class_texts p.declarations) k x
      one_class zero x h =
          subst (EntryMeant (checked std p) (class_texts p.declarations) 0) (cc h)
          (first_class (checked std p) (class_texts p.declarations) (omega arith) refl (codes "std::bad_exception") (text_first (codes "std::bad_exception") (class_names p.declarations)))
      one_class (suc zero) x h = absurd (cc h)
      one_class (suc (suc k)) x h = absurd (cc h)

      -- std::bad_exception has no parts
      none_at : (i j : ℕ) → slice_get (parts_of (checked std p) 0) i ≡ Some (class_type j) → ⊥
      none_at zero j h = cc h
      none_at (suc i) j h = cc h

      first_default : (k : ℕ) (x : ClassEntry) → slice_get (at_the_start p.declarations).classes k ≡ Some x → (k < length (checked std p).classes) × BuiltBy (suc k) (checked std p) k (constructor_for (checked std p) k 0)
      first_default zero x h = (omega arith, (refl, λ i j at. absurd (none_at i j at)))
      first_default (suc zero) x h = absurd (cc h)
      first_default (suc (suc k)) x h = absurd (cc h)

      of_class : ClassesGood (checked std p) (MethodGood (checked std p)) 0 (checked std p).classes → (k i : ℕ) → k < length (checked std p).classes →
          i < length (class_at (checked std p) k).functions → MethodGood (checked std p) k (method_at (checked std p) k i)
      of_class h k i below less =
          let same : 0 + k ≡ k = omega arith in
          let r = class_good (checked std p) (checked std p).classes 0 k h below in
          let fs = (class_at (checked std p) k).functions in
          subst (λ j. MethodGood (checked std p) j (method_at (checked std p) k i)) same
          (each_at (MethodGood (checked std p) (0 + k)) fs i (method_at (checked std p) k i) r.1 (item_at fs i no_function less))

      class_numbered : ClassesGood (checked std p) (MethodGood (checked std p)) 0 (checked std p).classes → (k : ℕ) → k < length (checked std p).classes →
          class_named (class_at (checked std p) k).name ≡ k
      class_numbered h k below =
          let same : 0 + k ≡ k = omega arith in (class_good (checked std p) (checked std p).classes 0 k h below).0 ∙ same

-- the program of a source
pub checked_typed : (p : Checked) → IsChecked p → IsTypedProgram p (layout_of p)
checked_typed p c =
    let ds = c.program.declarations in
    let defined = definitions ds in
    let ws = c.tree.written in
    let back = sym c.tree.declarations in
    let above = source_above c.source c.tokens _ c.lexed c.tree.spelled in
    let passed = program_passed ws 0 c.tree.grammatical above in
    let fine = valid_parts c.std c.program c.valid in
    let found = subst (λ xs. Fine defined (declarations_found (at_the_start ds) xs)) back fine.0 in
    let once = subst (λ xs. Fine defined (once_only_found xs)) back fine.1 in
    let apart = strangers defined ws c.tree.grammatical passed once in
    let named = all_named (class_texts (map declared ws)) ws (λ t h. behind_true (bytes_eq (codes "std::bad_exception") t) (has_text t (class_names (map declared ws))) h) in
    let alone = declarations_alone defined (class_texts (map declared ws)) ws (at_the_start ds) found apart passed.members named in
    subst (λ q. IsChecked q → IsTypedProgram q (layout_of q)) (sym c.resolved)
    (program_typed c.std c.program ws c.tree.declarations c.tree.grammatical c.valid (subst (λ xs. Each (DeclarationAlone (class_texts xs)) xs) c.tree.declarations alone)
    (all_ordered ws 0 c.tree.grammatical above)) c
