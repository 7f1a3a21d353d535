-- Each function of a checked program has fewer than 2^18 words.
use Rattle.std.proofs.Common.{◌≡◌, ℕ, zero, suc, ◌+◌, ◌*◌, ◌<◌, ◌≤◌, ◌==◌, Bool, true, false, List, [], ◌∷◌, map, length, Option, Some, None, if◌then◌else◌, arith}
use Rattle.std.specs.List.{AllByRecursion}
use Rattle.cxx_ast.specs.declared.declaration.FuncKind.{FuncKind}
use Rattle.cxx_ast.specs.declared.declaration.FuncKind.TheVariants.{Plain, Method, Constructor, Destructor}
use Rattle.cxx_ast.specs.Plain.{Function, Class, Checked, Specification, listed, noexcept}
use Rattle.cxx_ast.specs.Checked.{IsChecked}
use Rattle.meaning_forms.specs.Class.{class_at, no_class, parts_of}
use Rattle.meaning_forms.specs.Call.{statements_in}
use Rattle.region_forms.specs.Form.{RegionFunction, in_order}
use Rattle.region_forms.specs.Layout.{Layout, layout_of, class_parts}
use Rattle.region_forms.specs.Numbering.{variables_of, type_rows}
use Rattle.region_forms.specs.LowerExpression.{Lowering}
use Rattle.region_forms.specs.LowerProgram.{lowering, copied_type, some_constructor, declared_function, limited, body_of, last_result, own_functions, functions_of_class, functions_of_classes, regions_of}
use Rattle.linear_forms.specs.Unit.{function_code}
use Rattle.class_layout.proofs.Program.{classes_fit}
use Rattle.machine_forms.specs.Routine.{routine_words}
use Rattle.machine_forms.specs.Emitted.{function_routine}
use Rattle.source_bounds.specs.LeastTokens.{statements_tokens, function_tokens}
use Rattle.source_bounds.specs.NamedTypes.{FunctionNamesRows}
use Rattle.source_bounds.specs.RegionWords.{region_words, HasFewWays}
use Rattle.source_bounds.specs.WordLaws.{routine_pieces}
use Rattle.source_bounds.proofs.Counted.{counted_once, pieces_counted}
use Rattle.source_bounds.proofs.Functions.{specification_words, kind_words, whole_body, default_whole, copy_whole, destructor_whole}
use Rattle.source_bounds.proofs.Limits.{checked_short}
use Rattle.source_bounds.proofs.Lists.{both_all, at_or}
use Rattle.source_bounds.proofs.Parts.{checked_parts}
use Rattle.source_bounds.proofs.Regions.{functions_are_short}
use Rattle.source_bounds.proofs.Rows.{checked_named}
use Rattle.source_bounds.proofs.Units.{body_counted, no_own_parts, checked_fine}
use Rattle.function_lengths.specs.Lengths.{extent_words, CheckedFunctionsAreShort}
use Rattle.function_lengths.proofs.Destructors.{destructors_are_short}

-- a region so short that its function, with what stands around the body, is short
abbrev pub IsShort : RegionFunction → Type 0
IsShort f = region_words f.body + 50 < 262144

specification_small : (o : Option Specification) → specification_words o ≤ 573
specification_small None = omega arith
specification_small (Some (listed types)) = omega arith
specification_small (Some (noexcept place b)) = omega arith

extent_small : (o : Option Specification) → extent_words o ≤ 573
extent_small None = omega arith
extent_small (Some (listed types)) = omega arith
extent_small (Some (noexcept place b)) = omega arith

-- the region of a declared function's body
abbrev body_words : Lowering → Bool → ℕ → Function → FuncKind → ℕ
body_words l is_main k f kind = region_words (in_order (limited l f.specification (body_of l kind k f) 1 ∷ last_result l is_main))

short_by_kind : (l : Lowering) (is_main : Bool) (k : ℕ) (f : Function) (kind : FuncKind) → length (parts_of l.program k) ≤ 256 → function_tokens f ≤ 2000 →
    body_words l is_main k f kind ≤ 4 + (kind_words kind (length (parts_of l.program k)) f + 128 * statements_tokens (statements_in f.body) + specification_words f.specification) →
    body_words l is_main k f kind + 50 < 262144
short_by_kind l is_main k f Plain parts few h = omega (arith, h, few, body_counted f.body, specification_small f.specification)
short_by_kind l is_main k f Method parts few h = omega (arith, h, few, body_counted f.body, specification_small f.specification)
short_by_kind l is_main k f Constructor parts few h = omega (arith, h, few, parts, body_counted f.body, specification_small f.specification)
short_by_kind l is_main k f Destructor parts few h = omega (arith, destructors_are_short l is_main k f, few, parts, body_counted f.body, extent_small f.specification)

module _ (rows : ℕ) (p : Checked) (layout : Layout) where
  -- a declared function of at most 2,000 tokens
  declared_short : (is_member is_main : Bool) (k : ℕ) (f : Function) → FunctionNamesRows rows f → length (parts_of p k) ≤ 256 → function_tokens f ≤ 2000 →
      IsShort (declared_function p layout is_member is_main k f)
  declared_short is_member is_main k f named parts few =
      let l = lowering p layout is_member (variables_of f) in
      short_by_kind l is_main k f f.kind parts few (whole_body rows l is_main k f named).words

  own_short : (n : ℕ) (fs : List Function) → length (parts_of p 0) ≡ 0 → AllByRecursion (FunctionNamesRows rows) fs → AllByRecursion (λ f. function_tokens f ≤ 2000) fs →
      AllByRecursion IsShort (own_functions p layout n fs)
  own_short n [] none named few = tt
  own_short n (f ∷ fs) none named few = (declared_short false (n == p.main) 0 f named.0 (omega (arith, none)) few.0, own_short (n + 1) fs none named.1 few.1)

  methods_short : (k : ℕ) (fs : List Function) → length (parts_of p k) ≤ 256 → AllByRecursion (FunctionNamesRows rows) fs → AllByRecursion (λ f. function_tokens f ≤ 2000) fs →
      AllByRecursion IsShort (map (declared_function p layout true false k) fs)
  methods_short k [] parts named few = tt
  methods_short k (f ∷ fs) parts named few = (declared_short true false k f named.0 parts few.0, methods_short k fs parts named.1 few.1)

  -- what holds of each class
  record ClassIs (c : Class) : Type 0 where
    parts : length (class_parts c) ≤ 256
    named : AllByRecursion (FunctionNamesRows rows) c.functions
    few : AllByRecursion (λ f. function_tokens f ≤ 2000) c.functions

  default_short : (is_declared : Bool) (m : ℕ) → m ≤ 256 → (if is_declared then 0 else 16 * m) ≤ 4096
  default_short true m h = omega arith
  default_short false m h = omega (arith, h)

  class_short : (k : ℕ) → ClassIs (class_at p k) → AllByRecursion IsShort (functions_of_class p layout k)
  class_short k h =
      let l = lowering p layout true [] in
      let declared = some_constructor (class_at p k).functions in
      both_all IsShort (map (declared_function p layout true false k) (class_at p k).functions) _ (methods_short k (class_at p k).functions h.parts h.named h.few) (
        omega (arith, (default_whole rows l declared k).words, default_short declared (length (parts_of p k)) h.parts),
        (omega (arith, (copy_whole rows (lowering p layout true (copied_type (class_at p k))) k).words, h.parts), (omega (arith, (destructor_whole rows l k).words, h.parts), tt)),
      )

  classes_short : (k n : ℕ) → ((i : ℕ) → ClassIs (class_at p i)) → AllByRecursion IsShort (functions_of_classes p layout k n)
  classes_short k zero h = tt
  classes_short k (suc n) h = both_all IsShort (functions_of_class p layout k) (functions_of_classes p layout (k + 1) n) (class_short k (h k)) (classes_short (k + 1) n h)

-- the words of functions
all_short : (fs : List RegionFunction) → AllByRecursion (λ f. HasFewWays f.body) fs → AllByRecursion IsShort fs →
    AllByRecursion (λ g. routine_words (function_routine g) < 262144) (map function_code fs)
all_short [] few short = tt
all_short (f ∷ fs) few short =
    let r = function_routine (function_code f) in
    (omega (arith, functions_are_short f few.0, pieces_counted r, counted_once (routine_pieces r), short.0), all_short fs few.1 short.1)

pub checked_bodies_are_short : (p : Checked) → IsChecked p → AllByRecursion IsShort (regions_of p (layout_of p)).functions
checked_bodies_are_short p h =
    let l = layout_of p in
    let rows = length (type_rows p) in
    let named = checked_named p h in
    let parts = checked_parts classes_fit p h in
    let few = checked_short p h in
    let classes : (i : ℕ) → ClassIs rows p l (class_at p i) = λ i. record {
      parts = at_or (λ c. length (class_parts c) ≤ 256) p.classes i no_class parts (omega arith);
      named = at_or (λ c. AllByRecursion (FunctionNamesRows rows) c.functions) p.classes i no_class named.methods tt;
      few = at_or (λ c. AllByRecursion (λ f. function_tokens f ≤ 2000) c.functions) p.classes i no_class few.methods tt;
    } in
    both_all IsShort (own_functions p l 0 p.functions) (functions_of_classes p l 0 (length p.classes)) (own_short rows p l 0 p.functions (no_own_parts p h) named.own few.own)
    (classes_short rows p l 0 (length p.classes) classes)

pub checked_functions_are_short : CheckedFunctionsAreShort
checked_functions_are_short p h = all_short (regions_of p (layout_of p)).functions (checked_fine classes_fit p (layout_of p) h).few (checked_bodies_are_short p h)
