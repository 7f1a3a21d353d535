-- Chains of bases in a program without a broken rule, declaration after declaration.
use Rattle.std.proofs.Common.{◌≡◌, ◌∙◌, refl, sym, ap, subst, arith, ℕ, zero, suc, ◌+◌, ◌<◌, ◌≤◌, ◌==◌, ◌||◌, Bool, true, false, List, [], ◌∷◌, ◌++◌, length, length-append, map, Option, Some, None, inl, inr, ◌⊎◌}
use Rattle.std.specs.Prelude.{nat_lt, slice_get, flat_map, if◌then◌else◌}
use Rattle.std.proofs.lemmas.List.{append_assoc}
use Rattle.std.proofs.lemmas.Bool.Decides.{nat_tests}
use Rattle.cxx_ast.specs.declared.name.Name.{Name}
use Rattle.cxx_ast.specs.Plain.{Class, Declaration, class_declaration, global_declaration, function_declaration}
use Rattle.cxx_ast.specs.Rule.{redeclared, incomplete_class, class_too_large}
use Rattle.cxx_ast.specs.Limits.{most_class_bytes, most_chained}
use Rattle.cxx_ast.specs.Finding.{Finding, is_sound, breaks_if}
use Rattle.cxx_ast.specs.Environment.{class_kind, same_kind, ClassEntry, global_thing, class_thing, Environment}
use Rattle.cxx_ast.specs.TypeNames.{class_found, class_of_name, signature}
use Rattle.cxx_ast.specs.Locals.{outermost}
use Rattle.cxx_ast.specs.Sizes.{chain_of}
use Rattle.cxx_ast.specs.Resolve.{resolve_class}
use Rattle.cxx_ast.specs.Declare.{next_class, with_class_name, other_class, name_of, class_entry, declare_behind}
use Rattle.cxx_ast.specs.ClassRules.{is_taken, base_found, field_found, method_names, twice_among, specials_found, size_found, method_found, class_rules_found}
use Rattle.cxx_ast.specs.Broken.{declaration_found, declarations_found}
use Rattle.cxx_ast.specs.Checked.{resolve_base, resolve_class_tree, resolve_declarations, classes_of}
use Rattle.meaning_forms.specs.Class.{class_named}
use Rattle.region_forms.specs.Form.{TypeRow}
use Rattle.region_forms.specs.Guard.{base_row}
use Rattle.region_forms.specs.Layout.{ClassLayout, class_layout}
use Rattle.region_forms.specs.Numbering.{base_number, class_row, class_rows, int_row}
use Rattle.class_layout.proofs.Sound.{front_sound, back_sound, not_broken, before_test}
use Rattle.class_layout.proofs.Named.{Known, known_more, name_stands}
use Rattle.class_layout.proofs.Declared.{Matches, kept, named_classes, named_known, behind_function, behind_class}
use Rattle.linear_forms.proofs.Lists.{mapped, behind}
use Rattle.table_verdicts.specs.Types.{ChainEndsWithin}

-- ---- rows
abbrev pub rows_of : List Class → List TypeRow
rows_of all = int_row ∷ class_rows all

-- the base of a class is that of its row
base_of_row : (all : List Class) (n : ℕ) (c : Class) → slice_get all n ≡ Some c → base_row (slice_get (rows_of all) (suc n)) ≡ base_number c.base
base_of_row [] n c e = absurd (cc e)
base_of_row (x ∷ xs) zero c e = ap (λ y. base_number y.base) (same x c e)
  where
    same : (a b : Class) → Some a ≡ Some b → a ≡ b
    same a b e = cc
base_of_row (x ∷ xs) (suc n) c e = ap base_row (mapped (class_row 2) xs n c e)

pub longer : (n m : ℕ) (rows : List TypeRow) (o : Option ℕ) → n ≤ m → ChainEndsWithin n rows o → ChainEndsWithin m rows o
longer n m rows None le ends = tt
longer zero m rows (Some t) le ends = absurd ends
longer (suc n) zero rows (Some t) le ends = absurd (omega (arith, le))
longer (suc n) (suc m) rows (Some t) le ends = longer n m rows (base_row (slice_get rows t)) (omega (arith, le)) ends

-- ---- one class
-- The chain of class k has as many classes as its entry says: few, and none that is declared behind it.
pub record IsChained (rows : List TypeRow) (k : ℕ) (e : ClassEntry) : Type 0 where
  pub few : e.chain ≤ 64
  pub early : e.chain ≤ k + 1
  pub ends : ChainEndsWithin e.chain rows (Some (suc k))

abbrev pub AreChained : List TypeRow → List ClassEntry → Type 0
AreChained rows es = (k : ℕ) (e : ClassEntry) → slice_get es k ≡ Some e → IsChained rows k e

not_either : (a b : Bool) → (a || b) ≡ false → b ≡ false
not_either true b h = absurd (cc h)
not_either false b h = h

entry_there : (es : List ClassEntry) (k : ℕ) → k < length es → (e : ClassEntry) × (slice_get es k ≡ Some e)
entry_there [] k inside = absurd (omega (arith, inside))
entry_there (e ∷ es) zero inside = (e, refl)
entry_there (e ∷ es) (suc k) inside = entry_there es k (omega (arith, inside))

-- the second and the sixth of seven parts
second_and_sixth : (a b c d e f g : List Finding) → is_sound (a ++ b ++ c ++ d ++ e ++ f ++ g) ≡ true → (is_sound b ≡ true) × (is_sound f ≡ true)
second_and_sixth a b c d e f g h =
    let to_sixth = front_sound (a ++ b ++ c ++ d ++ e ++ f) g h in
    let to_third = front_sound (a ++ b ++ c) d (front_sound (a ++ b ++ c ++ d) e (front_sound (a ++ b ++ c ++ d ++ e) f to_sixth)) in
    (back_sound a b (front_sound (a ++ b) c to_third), back_sound (a ++ b ++ c ++ d ++ e) f to_sixth)

module _ (env : Environment) (laid : List ClassLayout) (m : Matches env laid) (c : Class) (s : is_sound (class_rules_found env c) ≡ true) where
  found : (is_sound (base_found env c c.base) ≡ true) × (is_sound (size_found (class_entry env c) c.name.place) ≡ true)
  found = let names = map name_of c.members ++ method_names c.functions in
      second_and_sixth (breaks_if (is_taken env c.name.text) redeclared c.name.place) (base_found env c c.base) (flat_map (field_found env c) c.members)
      (twice_among names names) (specials_found (next_class env) c.name.text [] (class_entry env c).functions)
      (size_found (class_entry env c) c.name.place) (flat_map (method_found env c) c.functions) s

  small_chain : (class_entry env c).chain ≤ 64
  small_chain =
      let e = class_entry env c in
      let test : nat_lt most_chained e.chain ≡ false
      = not_either (nat_lt most_class_bytes e.size) (nat_lt most_chained e.chain)
      (not_broken (nat_lt most_class_bytes e.size || nat_lt most_chained e.chain) class_too_large c.name.place found.1) in
      grind (arith, nat_tests, test)

  names_known : Known (suc (length env.classes)) (with_class_name env c).names
  names_known = named_known (suc (length env.classes)) env c.name.text (class_thing (length env.classes)) (omega arith) (known_more (length env.classes) env.names m.known)

  -- a base in its entry
  declared_base : Option Name → Option ℕ
  declared_base o = elim o [ None ↦ None | Some b ↦ other_class (next_class env) (class_of_name (with_class_name env c) outermost b) ]

  -- the chain by a base
  record Based (rows : List TypeRow) (o : Option Name) : Type 0 where
    early : chain_of env (declared_base o) ≤ length env.classes + 1
    ends : base_row (slice_get rows (suc (length env.classes))) ≡ base_number (resolve_base env c o) → ChainEndsWithin (chain_of env (declared_base o)) rows (Some (suc (length env.classes)))

  other_base : (k : ℕ) (b : Bool) → b ≡ false → (if b then None else Some k) ≡ Some k
  other_base k true e = absurd (cc e)
  other_base k false e = refl

  not_self : (k n : ℕ) → k < suc n → (k == n) ≡ false → k < n
  not_self k n lt e = grind (arith, nat_tests, lt, e)

  with_base : (rows : List TypeRow) (b : Name) → AreChained rows env.classes → is_sound (base_found env c (Some b)) ≡ true → Based rows (Some b)
  unfolding declared_base
  with_base rows b chained sound =
      let count = length env.classes in
      let parts = before_test (class_found (with_class_name env c) outermost b) (same_kind (class_of_name (with_class_name env c) outermost b) (class_kind (next_class env))) incomplete_class b.place sound in
      let n = name_stands (suc count) (with_class_name env c) outermost b (omega arith) names_known parts.0 in
      let other : (n.number == count) ≡ false = subst (λ x. same_kind x (class_kind (next_class env)) ≡ false) n.kind_is parts.1 in
      let below = not_self n.number count n.below other in
      let entry = entry_there env.classes n.number below in
      let is = chained n.number entry.0 entry.1 in
      let chain : chain_of env (declared_base (Some b)) ≡ entry.0.chain + 1
      = ap (λ x. chain_of env (other_class (next_class env) x)) n.kind_is ∙ (ap (chain_of env) (other_base n.number (n.number == count) other)
      ∙ ap (λ o. elim o [ None ↦ 1 | Some e ↦ e.chain + 1 ]) entry.1) in
      let early = is.early in
      let next : class_named (resolve_class (with_class_name env c) outermost b) + 1 ≡ suc n.number = omega (arith, n.name_is) in
      let more : entry.0.chain + 1 ≡ suc entry.0.chain = omega arith in
      record {
        early = omega (arith, chain, early, below);
        ends = λ row. subst (λ k. ChainEndsWithin k rows (Some (suc count))) (sym (chain ∙ more)) (subst (ChainEndsWithin entry.0.chain rows) (sym (row ∙ ap Some next)) is.ends);
      }

  without_base : (rows : List TypeRow) → Based rows None
  unfolding declared_base
  without_base rows = record { early = omega arith; ends = λ row. subst (ChainEndsWithin 0 rows) (sym row) tt }

  based : (rows : List TypeRow) (o : Option Name) → AreChained rows env.classes → is_sound (base_found env c o) ≡ true → Based rows o
  based rows None chained sound = without_base rows
  based rows (Some b) chained sound = with_base rows b chained sound

  pub new_chained : (all : List Class) → AreChained (rows_of all) env.classes → slice_get all (length env.classes) ≡ Some (resolve_class_tree env c) → IsChained (rows_of all) (length env.classes) (class_entry env c)
  unfolding declared_base
  new_chained all chained there =
      let by = based (rows_of all) c.base chained found.0 in
      record { few = small_chain; early = by.early; ends = by.ends (base_of_row all (length env.classes) (resolve_class_tree env c) there) }

-- ---- all classes
last_or_before : (es : List ClassEntry) (x : ClassEntry) (k : ℕ) (e : ClassEntry) → slice_get (es ++ x ∷ []) k ≡ Some e → (slice_get es k ≡ Some e) ⊎ ((k ≡ length es) × (x ≡ e))
last_or_before [] x zero e h = inr (refl, same x e h)
  where
    same : (a b : ClassEntry) → Some a ≡ Some b → a ≡ b
    same a b e = cc
last_or_before [] x (suc k) e h = absurd (cc h)
last_or_before (y ∷ es) x zero e h = inl h
last_or_before (y ∷ es) x (suc k) e h = by (last_or_before es x k e h)
  where
    by : (slice_get es k ≡ Some e) ⊎ ((k ≡ length es) × (x ≡ e)) → (slice_get es k ≡ Some e) ⊎ ((suc k ≡ suc (length es)) × (x ≡ e))
    by (inl f) = inl f
    by (inr f) = inr (ap suc f.0, f.1)

one_more : (rows : List TypeRow) (es : List ClassEntry) (x : ClassEntry) → AreChained rows es → IsChained rows (length es) x → AreChained rows (es ++ x ∷ [])
one_more rows es x chained new k e h = by (last_or_before es x k e h)
  where
    by : (slice_get es k ≡ Some e) ⊎ ((k ≡ length es) × (x ≡ e)) → IsChained rows k e
    by (inl f) = chained k e f
    by (inr f) = subst (λ n. IsChained rows n e) (sym f.0) (subst (IsChained rows (length es)) f.1 new)

-- a chain that is few and early
pub record Ends (rows : List TypeRow) (k : ℕ) : Type 0 where
  pub chain : ℕ
  pub few : chain ≤ 64
  pub early : chain ≤ k + 1
  pub ends : ChainEndsWithin chain rows (Some (suc k))

pub all_end : (ds : List Declaration) (env : Environment) (laid : List ClassLayout) (done all : List Class) → Matches env laid → length done ≡ length env.classes → all ≡ done ++ classes_of (resolve_declarations env ds) →
    AreChained (rows_of all) env.classes → is_sound (declarations_found env ds) ≡ true → (k : ℕ) → k < length all → Ends (rows_of all) k
all_end [] env laid done all m count is chained sound k inside =
    let entry = entry_there env.classes k (omega (arith, inside, ap length is, length-append done [], count)) in
    let c = chained k entry.0 entry.1 in
    record { chain = entry.0.chain; few = c.few; early = c.early; ends = c.ends }
all_end (class_declaration c ∷ ds) env laid done all m count is chained sound k inside =
    let here = front_sound (class_rules_found env c) (declarations_found (declare_behind env (class_declaration c)) ds) sound in
    let tree = resolve_class_tree env c in
    let rest = classes_of (resolve_declarations (declare_behind env (class_declaration c)) ds) in
    let same = named_classes env c.name.text (class_thing (next_class env)) in
    let at : length env.classes ≡ length done + 0 = omega (arith, count) in
    let there : slice_get all (length env.classes) ≡ Some tree = ap (λ cs. slice_get cs (length env.classes)) is ∙ behind done (tree ∷ rest) (length env.classes) 0 at in
    let new = new_chained env laid m c here all chained there in
    let more : AreChained (rows_of all) (declare_behind env (class_declaration c)).classes
    = subst (λ es. AreChained (rows_of all) (es ++ class_entry env c ∷ [])) (sym same) (one_more (rows_of all) env.classes (class_entry env c) chained new) in
    let entries : length (declare_behind env (class_declaration c)).classes ≡ length env.classes + 1
    = ap (λ es. length (es ++ class_entry env c ∷ [])) same ∙ length-append env.classes (class_entry env c ∷ []) in
    all_end ds (declare_behind env (class_declaration c)) (laid ++ class_layout laid tree ∷ []) (done ++ tree ∷ []) all (behind_class env laid m c here)
    (omega (arith, length-append done (tree ∷ []), count, entries)) (is ∙ sym (append_assoc done (tree ∷ []) rest)) more
    (back_sound (class_rules_found env c) (declarations_found (declare_behind env (class_declaration c)) ds) sound) k inside
all_end (global_declaration n value ∷ ds) env laid done all m count is chained sound k inside =
    let next = declare_behind env (global_declaration n value) in
    let same = named_classes env n.text (global_thing env.globals) in
    all_end ds next laid done all (kept env next laid (record { classes = same; known = λ j h. named_known j env n.text (global_thing env.globals) tt h }) m)
    (count ∙ ap length (sym same)) is (subst (AreChained (rows_of all)) (sym same) chained)
    (back_sound (declaration_found env (global_declaration n value)) (declarations_found next ds) sound) k inside
all_end (function_declaration f ∷ ds) env laid done all m count is chained sound k inside =
    let next = declare_behind env (function_declaration f) in
    let behind_it = behind_function env (signature env outermost f) in
    all_end ds next laid done all (kept env next laid behind_it m) (count ∙ ap length (sym behind_it.classes)) is (subst (AreChained (rows_of all)) (sym behind_it.classes) chained)
    (back_sound (declaration_found env (function_declaration f)) (declarations_found next ds) sound) k inside
