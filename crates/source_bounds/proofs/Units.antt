-- What a program becomes: for each of its tokens at most 128 words, and few beside them.
use Rattle.std.proofs.Common.{◌≡◌, ◌∙◌, ℕ, zero, suc, ◌+◌, ◌*◌, ◌≤◌, ◌==◌, Bool, true, false, List, [], ◌∷◌, ◌++◌, map, length, Option, Some, None, if◌then◌else◌, refl, sym, ap, subst, arith}
use Rattle.std.proofs.lemmas.Bool.Decides.{nat_tests}
use Rattle.std.proofs.lemmas.List.{length-append, length-map}
use Rattle.std.specs.List.{AllByRecursion}
use Rattle.std.specs.Prelude.{nat_lt, slice_get, unwrap_or}
use Rattle.cxx_ast.specs.declared.name.Name.{Name}
use Rattle.cxx_ast.specs.declared.declaration.FuncKind.{FuncKind}
use Rattle.cxx_ast.specs.declared.declaration.FuncKind.TheVariants.{Plain, Method, Constructor, Destructor}
use Rattle.cxx_ast.specs.Plain.{Function, Class, Program, Checked, Statements, Specification, listed, noexcept}
use Rattle.cxx_ast.specs.Checked.{checked, IsChecked, bad_exception, resolve_declarations, classes_of, functions_of}
use Rattle.cxx_ast.specs.Declare.{at_the_start}
use Rattle.meaning_forms.specs.Class.{class_at, no_class, parts_of, base_part, member_part}
use Rattle.meaning_forms.specs.Call.{statements_in}
use Rattle.region_forms.specs.Form.{RegionFunction}
use Rattle.region_forms.specs.Layout.{Layout, class_parts}
use Rattle.region_forms.specs.Numbering.{variables_of, type_rows}
use Rattle.region_forms.specs.LowerProgram.{lowering, copied_type, some_constructor, declared_function, implicit_default_function, implicit_copy_function, implicit_destructor_function, own_functions, functions_of_class, functions_of_classes, regions_of}
use Rattle.linear_forms.specs.Filters.{type_uses}
use Rattle.class_layout.specs.Fit.{CheckedClassesFit}
use Rattle.source_bounds.specs.LeastTokens.{initialisers_tokens, statements_tokens, parameters_tokens, specification_tokens, body_tokens, function_tokens, functions_tokens, base_tokens, class_tokens, classes_tokens, declarations_tokens}
use Rattle.source_bounds.specs.NamedTypes.{FunctionNamesRows}
use Rattle.source_bounds.specs.RegionWords.{region_words, HasFewWays}
use Rattle.source_bounds.proofs.Budget.{Whole, AreNamed}
use Rattle.source_bounds.proofs.Functions.{specification_words, kind_words, extra_words, whole_body, default_whole, copy_whole, destructor_whole}
use Rattle.source_bounds.proofs.Spelled.{source_spelled}
use Rattle.source_bounds.proofs.Bound.{declarations_kept, classes_settled, functions_settled}
use Rattle.source_bounds.proofs.Rows.{checked_named}
use Rattle.source_bounds.proofs.Parts.{checked_parts}
use Rattle.source_bounds.proofs.Classes.{FewSpecials, checked_few, extras, all_extras}
use Rattle.source_bounds.proofs.Sums.{sum_from}
use Rattle.source_bounds.proofs.Lists.{both_all, at_or}
use Rattle.cxx_ast.specs.declared.standard.Std.{Std}

-- the words of functions, with fifty beside each body
abbrev pub code_words : List RegionFunction → ℕ
code_words [] = 0
code_words (f ∷ fs) = region_words f.body + 50 + code_words fs

-- what is said of functions of regions
pub record FineFunctions (rows m : ℕ) (fs : List RegionFunction) : Type 0 where
  pub few : AllByRecursion (λ f. HasFewWays f.body) fs
  pub named : AllByRecursion (λ f. AreNamed rows (type_uses f.body)) fs
  pub words : code_words fs ≤ m

no_function : (rows : ℕ) → FineFunctions rows 0 []
no_function rows = record { few = tt; named = tt; words = omega arith }

one_function : {rows b m k : ℕ} (f : RegionFunction) (fs : List RegionFunction) → Whole rows 0 0 b f.body → b + 50 ≤ m → FineFunctions rows k fs → FineFunctions rows (m + k) (f ∷ fs)
one_function f fs h le g = record { few = (h.few, g.few); named = (h.named, g.named); words = omega (arith, h.words, le, g.words) }

words_both : (fs gs : List RegionFunction) → code_words (fs ++ gs) ≡ code_words fs + code_words gs
words_both [] gs = omega arith
words_both (f ∷ fs) gs = omega (arith, words_both fs gs)

both_functions : {rows m k : ℕ} (fs gs : List RegionFunction) → FineFunctions rows m fs → FineFunctions rows k gs → FineFunctions rows (m + k) (fs ++ gs)
both_functions {rows} {m} {k} fs gs h g = record {
  few = both_all (λ f. HasFewWays f.body) fs gs h.few g.few;
  named = both_all (λ f. AreNamed rows (type_uses f.body)) fs gs h.named g.named;
  words = omega (arith, words_both fs gs, h.words, g.words);
}

with_more : {rows m : ℕ} {fs : List RegionFunction} (k : ℕ) → FineFunctions rows m fs → m ≤ k → FineFunctions rows k fs
with_more k h le = record { few = h.few; named = h.named; words = omega (arith, h.words, le) }

-- a body has its statements' tokens, and two more
pub body_counted : (o : Option Statements) → statements_tokens (statements_in o) + 2 ≤ body_tokens o
body_counted None = omega arith
body_counted (Some ss) = omega arith

pub many_parameters : (n : ℕ) → 16 ≤ n → 31 ≤ parameters_tokens n
many_parameters zero h = absurd (omega (arith, h))
many_parameters (suc n) h = omega (arith, h)

pub not_small : (n : ℕ) → nat_lt n 16 ≡ false → 16 ≤ n
not_small n e = grind (arith, nat_tests, e)

-- what a kind of function does beside its statements is paid for, with its specification, but for the extra words
pub kind_counted : (k : FuncKind) (m : ℕ) (f : Function) (o : Option Specification) → m ≤ 256 →
    kind_words k m f + specification_words o + 54
    ≤ 128 * (parameters_tokens (length f.parameters) + initialisers_tokens f.initialisers + specification_tokens k o + 5) + extra_words k m (length f.parameters)
kind_counted Plain m f None h = omega arith
kind_counted Plain m f (Some (listed types)) h = omega arith
kind_counted Plain m f (Some (noexcept place b)) h = omega arith
kind_counted Method m f None h = omega arith
kind_counted Method m f (Some (listed types)) h = omega arith
kind_counted Method m f (Some (noexcept place b)) h = omega arith
kind_counted Destructor m f None h = omega arith
kind_counted Destructor m f (Some (listed types)) h = omega arith
kind_counted Destructor m f (Some (noexcept place b)) h = omega arith
kind_counted Constructor m f o h = omega (arith, go (nat_lt (length f.parameters) 16) refl, of_constructor o)
  where
    of_constructor : (s : Option Specification) → specification_words s ≤ 128 * specification_tokens Constructor s + 445
    of_constructor None = omega arith
    of_constructor (Some (listed types)) = omega arith
    of_constructor (Some (noexcept place b)) = omega arith

    go : (b : Bool) → nat_lt (length f.parameters) 16 ≡ b →
        16 * m + 32 * initialisers_tokens f.initialisers + 499 ≤ 128 * (parameters_tokens (length f.parameters) + initialisers_tokens f.initialisers + 5) + (if b then 16 * m else 0)
    go true e = omega arith
    go false e = omega (arith, h, many_parameters (length f.parameters) (not_small (length f.parameters) e))

pub base_counted : (o : Option Name) → (length (base_part o) ≤ 1) × (2 * length (base_part o) ≤ base_tokens o)
base_counted None = (omega arith, omega arith)
base_counted (Some b) = (omega arith, omega arith)

module _ (rows : ℕ) (p : Checked) (layout : Layout) where
  declared_fine : (is_member is_main : Bool) (k : ℕ) (f : Function) {m : ℕ} (fs : List RegionFunction) → FunctionNamesRows rows f → length (parts_of p k) ≤ 256 → FineFunctions rows m fs →
      FineFunctions rows (128 * function_tokens f + extra_words f.kind (length (parts_of p k)) (length f.parameters) + m) (declared_function p layout is_member is_main k f ∷ fs)
  declared_fine is_member is_main k f fs h small g =
      let l = lowering p layout is_member (variables_of f) in
      one_function (declared_function p layout is_member is_main k f) fs (whole_body rows l is_main k f h)
      (omega (arith, kind_counted f.kind (length (parts_of p k)) f f.specification small, body_counted f.body)) g

  own_fine : (n : ℕ) (fs : List Function) → length (parts_of p 0) ≡ 0 → AllByRecursion (FunctionNamesRows rows) fs →
      FineFunctions rows (128 * functions_tokens fs) (own_functions p layout n fs)
  own_fine n [] none h = no_function rows
  own_fine n (f ∷ fs) none h =
      with_more (128 * functions_tokens (f ∷ fs))
      (declared_fine false (n == p.main) 0 f (own_functions p layout (n + 1) fs) h.0 (omega (arith, none)) (own_fine (n + 1) fs none h.1))
      (omega (arith, nothing_extra f.kind (length (parts_of p 0)) (length f.parameters) none))
    where
      nothing_extra : (k : FuncKind) (m c : ℕ) → m ≡ 0 → extra_words k m c ≤ 0
      nothing_extra Plain m c e = omega arith
      nothing_extra Method m c e = omega arith
      nothing_extra Destructor m c e = omega (arith, e)
      nothing_extra Constructor m c e = go (nat_lt c 16)
        where
          go : (b : Bool) → (if b then 16 * m else 0) ≤ 0
          go true = omega (arith, e)
          go false = omega arith

  methods_fine : (k : ℕ) (fs : List Function) → length (parts_of p k) ≤ 256 → AllByRecursion (FunctionNamesRows rows) fs →
      FineFunctions rows (128 * functions_tokens fs + extras (length (parts_of p k)) fs) (map (declared_function p layout true false k) fs)
  methods_fine k [] small h = no_function rows
  methods_fine k (f ∷ fs) small h =
      with_more (128 * functions_tokens (f ∷ fs) + extras (length (parts_of p k)) (f ∷ fs))
      (declared_fine true false k f (map (declared_function p layout true false k) fs) h.0 small (methods_fine k fs small h.1)) (omega arith)

  parts_counted : (c : Class) → length (class_parts c) ≤ 256 → 385 * length (class_parts c) + 150 ≤ 128 * (3 * length c.members + base_tokens c.base + 5)
  parts_counted c small =
      omega (arith, small, length-append (base_part c.base) (map member_part c.members), length-map c.members member_part, (base_counted c.base).0, (base_counted c.base).1)

  class_fine : (k : ℕ) → length (class_parts (class_at p k)) ≤ 256 → AllByRecursion (FunctionNamesRows rows) (class_at p k).functions → FewSpecials (class_at p k) →
      FineFunctions rows (128 * class_tokens (class_at p k)) (functions_of_class p layout k)
  class_fine k small h few =
      let c = class_at p k in
      let m = length (class_parts c) in
      let l = lowering p layout true [] in
      let copying = lowering p layout true (copied_type c) in
      let last = one_function {m = 47 * m + 50} (implicit_destructor_function p layout k) [] (destructor_whole rows l k) (omega arith) (no_function rows) in
      let copied = one_function {m = 19 * m + 50} (implicit_copy_function p layout k) (implicit_destructor_function p layout k ∷ []) (copy_whole rows copying k) (omega arith) last in
      let implicit = one_function {m = (if some_constructor c.functions then 0 else 16 * m) + 50} (implicit_default_function p layout k)
      (implicit_copy_function p layout k ∷ implicit_destructor_function p layout k ∷ []) (default_whole rows l (some_constructor c.functions) k) (omega arith) copied in
      with_more (128 * class_tokens c)
      (both_functions (map (declared_function p layout true false k) c.functions)
      (implicit_default_function p layout k ∷ implicit_copy_function p layout k ∷ implicit_destructor_function p layout k ∷ []) (methods_fine k c.functions small h) implicit)
      (omega (arith, all_extras m c few, parts_counted c small))

  -- what holds of each class
  record ClassFits (c : Class) : Type 0 where
    parts : length (class_parts c) ≤ 256
    named : AllByRecursion (FunctionNamesRows rows) c.functions
    few : FewSpecials c

  classes_fine : (k n : ℕ) → ((i : ℕ) → ClassFits (class_at p i)) →
      FineFunctions rows (128 * sum_from (λ i. class_tokens (class_at p i)) k n) (functions_of_classes p layout k n)
  classes_fine k zero h = no_function rows
  classes_fine k (suc n) h =
      let own = h k in
      with_more (128 * sum_from (λ i. class_tokens (class_at p i)) k (suc n))
      (both_functions (functions_of_class p layout k) (functions_of_classes p layout (k + 1) n) (class_fine k own.parts own.named own.few) (classes_fine (k + 1) n h)) (omega arith)

-- sums by number

shifted : (g : ℕ → ℕ) (j n : ℕ) → sum_from g (suc j) n ≡ sum_from (λ i. g (suc i)) j n
shifted g j zero = refl
shifted g j (suc n) =
    let next : suc j + 1 ≡ suc (j + 1) = omega arith in
    ap (λ i. g (suc j) + sum_from g i n) next ∙ ap (λ s. g (suc j) + s) (shifted g (j + 1) n)

pub summed : (cs : List Class) → sum_from (λ i. class_tokens (unwrap_or (slice_get cs i) no_class)) 0 (length cs) ≡ classes_tokens cs
summed [] = refl
summed (c ∷ cs) =
    ap (λ s. class_tokens c + s) (shifted (λ i. class_tokens (unwrap_or (slice_get (c ∷ cs) i) no_class)) 0 (length cs) ∙ summed cs)

-- a checked program

no_parts : (std : Std) (p : Program) → length (parts_of (checked std p) 0) ≡ 0
unfolding checked
no_parts std p = refl

program_tokens : (std : Std) (p : Program) →
    classes_tokens (checked std p).classes + functions_tokens (checked std p).functions + 3 * length (checked std p).globals ≤ declarations_tokens p.declarations + 5
unfolding checked
program_tokens std p =
    let ds = resolve_declarations (at_the_start p.declarations) p.declarations in
    let kept = declarations_kept (at_the_start p.declarations) p.declarations in
    let classes = classes_settled std [] (bad_exception ∷ classes_of ds) in
    let functions = functions_settled None (functions_of ds) refl in
    omega (arith, kept, classes, functions)

kept_tokens : (std : Std) (p : Program) → (checked std p).program.tokens ≡ p.tokens
unfolding checked
kept_tokens std p = refl

pub checked_tokens : (p : Checked) → IsChecked p → classes_tokens p.classes + functions_tokens p.functions + 3 * length p.globals ≤ p.program.tokens + 5
checked_tokens p h =
    let tree = h.tree in
    let spelled = source_spelled h.tokens tree.written tree.grammatical tree.spelled in
    let same : declarations_tokens h.program.declarations ≡ declarations_tokens _ = ap declarations_tokens (sym tree.declarations) in
    subst (λ q. classes_tokens q.classes + functions_tokens q.functions + 3 * length q.globals ≤ q.program.tokens + 5) (sym h.resolved)
    (omega (arith, program_tokens h.std h.program, same, spelled, kept_tokens h.std h.program, tree.tokens_counted))

-- a function of no class has no parts to build
pub no_own_parts : (p : Checked) → IsChecked p → length (parts_of p 0) ≡ 0
no_own_parts p h = subst (λ q. length (parts_of q 0) ≡ 0) (sym h.resolved) (no_parts h.std h.program)

pub checked_fine : CheckedClassesFit → (p : Checked) (l : Layout) → IsChecked p →
    FineFunctions (length (type_rows p)) (128 * p.program.tokens + 640) (regions_of p l).functions
checked_fine fit p l h =
    let rows = length (type_rows p) in
    let named = checked_named p h in
    let parts = checked_parts fit p h in
    let few = checked_few p h in
    let classes : (i : ℕ) → ClassFits rows p l (class_at p i) = λ i. record {
      parts = at_or (λ c. length (class_parts c) ≤ 256) p.classes i no_class parts (omega arith);
      named = at_or (λ c. AllByRecursion (FunctionNamesRows rows) c.functions) p.classes i no_class named.methods tt;
      few = at_or FewSpecials p.classes i no_class few (record { constructors = omega arith; destructors = omega arith });
    } in
    with_more (128 * p.program.tokens + 640)
    (both_functions (own_functions p l 0 p.functions) (functions_of_classes p l 0 (length p.classes)) (own_fine rows p l 0 p.functions (no_own_parts p h) named.own)
    (classes_fine rows p l 0 (length p.classes) classes)) (omega (arith, checked_tokens p h, summed p.classes))
