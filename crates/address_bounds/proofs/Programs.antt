-- All functions of a typed program reach inside what their addresses begin at.
use Rattle.std.proofs.Common.{◌≡◌, ◌∙◌, refl, sym, ap, subst, arith, ℕ, zero, suc, ◌+◌, ◌<◌, ◌≤◌, ◌==◌, Bool, true, false, List, [], ◌∷◌, ◌++◌, length, Some, None, if◌then◌else◌}
use Rattle.std.specs.Prelude.{⊤, map, slice_get, unwrap_or}
use Rattle.cxx_ast.specs.Limits.{most_class_bytes}
use Rattle.cxx_ast.specs.declared.declaration.FuncKind.{FuncKind}
use Rattle.cxx_ast.specs.declared.declaration.FuncKind.TheVariants.{Plain}
use Rattle.cxx_ast.specs.declared.types.Ty.{Ty}
use Rattle.cxx_ast.specs.Plain.{Checked, Function}
use Rattle.meaning_forms.specs.Class.{ObjectType, class_type, class_at, function_at, method_at, no_function, parts_of}
use Rattle.region_forms.specs.Form.{Region, RegionFunction, in_order}
use Rattle.region_forms.specs.Layout.{Layout, laid_size}
use Rattle.region_forms.specs.Numbering.{variables_of}
use Rattle.region_forms.specs.LowerExpression.{Lowering, slot_place}
use Rattle.region_forms.specs.LowerStatement.{nothing_more}
use Rattle.region_forms.specs.LowerProgram.{limited, build_parts, destroy_parts, default_part, copy_part, lowering, slots_for, last_result, body_of, declared_function, some_constructor, implicit_default_function, implicit_copy_function, implicit_destructor_function, copied_type, own_functions, functions_of_class, functions_of_classes, regions_of}
use Rattle.linear_forms.specs.Emission.{way_place}
use Rattle.linear_forms.specs.Frame.{has_pad, code_slots}
use Rattle.linear_forms.specs.Unit.{emitting}
use Rattle.region_statements.specs.Functions.{IsTypedBody}
use Rattle.region_statements.specs.Members.{CanInitialiseParts}
use Rattle.region_statements.specs.Whole.{IsTypedProgram}
use Rattle.address_bounds.specs.Rooms.{HasRoom}
use Rattle.address_bounds.specs.Reaches.{RegionReaches}
use Rattle.address_bounds.specs.Givens.{Given, own_given, class_given, implicit_given, givens_of_class, givens_of_classes, givens_of, reach_of, needs_of, no_given}
use Rattle.address_bounds.specs.Laws.{RegionsReachInside}
use Rattle.address_bounds.proofs.Where.{Where, Known, AllReach, from_reach, help_room}
use Rattle.address_bounds.proofs.Functions.{is_member, pad_slots, where_of, known_of, slots_many}
use Rattle.address_bounds.proofs.Bodies.{body_reaches, limited_reaches, last_reaches, build_reaches, destroy_reaches, default_part_reaches, copy_part_reaches, member_reaches}

-- ---- two lists, item by item

abbrev Paired : (RegionFunction → Given → Type 0) → List RegionFunction → List Given → Type 0
Paired P [] [] = ⊤
Paired P (f ∷ fs) (g ∷ gs) = P f g × Paired P fs gs
Paired P _ _ = ⊥

paired_both : (P : RegionFunction → Given → Type 0) (fs hs : List RegionFunction) (gs js : List Given) → Paired P fs gs → Paired P hs js → Paired P (fs ++ hs) (gs ++ js)
paired_both P [] hs [] js a b = b
paired_both P [] hs (g ∷ gs) js a b = absurd a
paired_both P (f ∷ fs) hs [] js a b = absurd a
paired_both P (f ∷ fs) hs (g ∷ gs) js a b = (a.0, paired_both P fs hs gs js a.1 b)

paired_at : (P : RegionFunction → Given → Type 0) (fs : List RegionFunction) (gs : List Given) (n : ℕ) (f : RegionFunction) → Paired P fs gs → slice_get fs n ≡ Some f → P f (unwrap_or (slice_get gs n) no_given)
paired_at P [] [] n f a e = absurd (cc e)
paired_at P [] (g ∷ gs) n f a e = absurd a
paired_at P (x ∷ fs) [] n f a e = absurd a
paired_at P (x ∷ fs) (g ∷ gs) zero f a e = let same : x ≡ f = cc e in subst (λ y. P y g) same a.0
paired_at P (x ∷ fs) (g ∷ gs) (suc n) f a e = paired_at P fs gs n f a.1 e

module _ (p : Checked) (l : Layout) (typed : IsTypedProgram p l) (small : (k : ℕ) → laid_size l (class_type k) ≤ most_class_bytes) where
  abbrev Fine : RegionFunction → Given → Type 0
  Fine f g = RegionReaches (needs_of p l) (reach_of l g) (code_slots f) f.body

  -- the slots of pads are behind all others
  abbrev Padded : RegionFunction → Given → Type 0
  Padded f g = (most_class_bytes ≤ reach_of l g (length f.slots)) × HasRoom (reach_of l g) (code_slots f) (way_place (emitting f)) 4

  abbrev Both : RegionFunction → Given → Type 0
  Both f g = Fine f g × Padded f g

  pads_of : (g : Given) (body : Region) → let n = length (slots_for l (is_member g.own) g.variables body) in
      (most_class_bytes ≤ reach_of l g n) × HasRoom (reach_of l g) (slots_for l (is_member g.own) g.variables body ++ pad_slots (has_pad body)) (slot_place (n + 2)) 4
  pads_of g body =
      let w : Where = where_of p l g body in
      let known = known_of p l g body typed small in
      let n : ℕ = length (slots_for l (is_member g.own) g.variables body) in
      let many = slots_many p l g body in
      let all = known.behind n many in
      (omega (arith, all), help_room w known (n + 2) 4 (omega (arith, many)) (omega arith))

  -- a function that is declared, where its body reaches inside
  declared_fine : (g : Given) (is_main : Bool) (k : ℕ) (f : Function) → g.variables ≡ variables_of f → ((w : Where) → Known w → w.lowering ≡ lowering p l (is_member g.own) (variables_of f) → w.own ≡ g.own → (d : ℕ) →
      AllReach w (body_of w.lowering f.kind k f d)) → Fine (declared_function p l (is_member g.own) is_main k f) g
  declared_fine g is_main k f same h =
      subst (λ vs. RegionReaches (needs_of p l) (reach_of l (record { own = g.own; variables = vs })) (code_slots (declared_function p l (is_member g.own) is_main k f)) (declared_function p l (is_member g.own) is_main k f).body) (sym same)
      (let own : Given = record { own = g.own; variables = variables_of f } in
      let inner : Lowering = lowering p l (is_member g.own) (variables_of f) in
      let body : Region = in_order (limited inner f.specification (body_of inner f.kind k f) 1 ∷ last_result inner is_main) in
      let w : Where = where_of p l own body in
      let known = known_of p l own body typed small in
      from_reach w (limited inner f.specification (body_of inner f.kind k f) 1 ∷ last_result inner is_main)
      (limited_reaches w known f.specification (body_of inner f.kind k f) 1 (λ d. h w known refl refl d), last_reaches w known is_main))

  declared_pads : (g : Given) (is_main : Bool) (k : ℕ) (f : Function) → g.variables ≡ variables_of f → Padded (declared_function p l (is_member g.own) is_main k f) g
  declared_pads g is_main k f same =
      let inner : Lowering = lowering p l (is_member g.own) (variables_of f) in
      subst (λ vs. Padded (declared_function p l (is_member g.own) is_main k f) (record { own = g.own; variables = vs })) (sym same)
      (pads_of (record { own = g.own; variables = variables_of f }) (in_order (limited inner f.specification (body_of inner f.kind k f) 1 ∷ last_result inner is_main)))

  -- the program's own functions
  own_fine : (n : ℕ) (fs : List Function) → ((i : ℕ) (f : Function) → slice_get fs i ≡ Some f → (n + i < length p.functions) × (function_at p (n + i) ≡ f)) → Paired Both (own_functions p l n fs) (map own_given fs)
  own_fine n [] are = tt
  own_fine n (f ∷ fs) are = (
    (first, declared_pads (own_given f) (n == p.main) 0 f refl),
    own_fine (n + 1) fs (λ i g e. let a = are (suc i) g e in let one : n + suc i ≡ n + 1 + i = omega arith in
        (let below = a.0 in omega (arith, below), ap (function_at p) (sym one) ∙ a.1)),
  )
    where
      there : (n < length p.functions) × (function_at p n ≡ f)
      there = let a = are 0 f refl in let none : n + 0 ≡ n = omega arith in let below = a.0 in (omega (arith, below), ap (function_at p) (sym none) ∙ a.1)

      first : Fine (declared_function p l false (n == p.main) 0 f) (own_given f)
      first = declared_fine (own_given f) (n == p.main) 0 f refl (λ w k is own d. plain w k is own d f.kind (ap (λ g. g.kind) (sym there.1) ∙ typed.plain n there.0))
        where
          plain : (w : Where) → Known w → w.lowering ≡ lowering p l false (variables_of f) → w.own ≡ None → (d : ℕ) (kind : FuncKind) → kind ≡ Plain → AllReach w (body_of w.lowering kind 0 f d)
          plain w k is own d kind e =
              subst (λ x. AllReach w (body_of w.lowering x 0 f d)) (sym e)
              (body_reaches w k f (subst (λ x. IsTypedBody x w.own f) (sym is) (subst (λ x. IsTypedBody (lowering p l false (variables_of f)) x f) (sym own)
              (subst (λ x. IsTypedBody (lowering p l false (variables_of x)) None x) there.1 (typed.functions n there.0)))) d)

  -- ---- the functions of a class

  parts_there : (k : ℕ) → k < length p.classes → (i j : ℕ) → slice_get (parts_of p k) i ≡ Some (class_type j) → j < length p.classes
  parts_there k below i j e = typed.parts k i j below e

  method_fine : (k i : ℕ) → k < length p.classes → i < length (class_at p k).functions → Fine (declared_function p l true false k (method_at p k i)) (class_given k (method_at p k i))
  method_fine k i below inside = declared_fine (class_given k (method_at p k i)) false k (method_at p k i) refl (λ w known is own d. by w known is own d)
    where
      f : Function
      f = method_at p k i

      by : (w : Where) → Known w → w.lowering ≡ lowering p l true (variables_of f) → w.own ≡ Some k → (d : ℕ) → AllReach w (body_of w.lowering f.kind k f d)
      by w known is own d =
          member_reaches w known k own f f.kind (subst (λ x. (i j : ℕ) → slice_get (parts_of x.program k) i ≡ Some (class_type j) → j < length x.program.classes) (sym is) (parts_there k below))
          (subst (λ x. IsTypedBody x w.own f) (sym is) (subst (λ o. IsTypedBody (lowering p l true (variables_of f)) o f) (sym own) (typed.methods k i below inside)))
          (λ kind. subst (λ x. CanInitialiseParts x k f) (sym is) (typed.constructors k i below inside kind).1) d

  methods_fine : (k n : ℕ) (fs : List Function) → k < length p.classes → ((i : ℕ) (f : Function) → slice_get fs i ≡ Some f → (n + i < length (class_at p k).functions) × (method_at p k (n + i) ≡ f)) →
      Paired Both (map (declared_function p l true false k) fs) (map (class_given k) fs)
  methods_fine k n [] below are = tt
  methods_fine k n (f ∷ fs) below are = (
    let a = are 0 f refl in subst (λ g. Both (declared_function p l true false k g) (class_given k g)) a.1 (method_fine k (n + 0) below a.0, declared_pads (class_given k (method_at p k (n + 0))) false k (method_at p k (n + 0)) refl),
    methods_fine k (n + 1) fs below (λ i g e. let a = are (suc i) g e in let one : n + suc i ≡ n + 1 + i = omega arith in (let less = a.0 in omega (arith, less), ap (method_at p k) (sym one) ∙ a.1)),
  )

  -- parts from the first on
  all_parts : (k j : ℕ) (t : ObjectType) → slice_get (parts_of p k) j ≡ Some t → slice_get (parts_of p k) (0 + j) ≡ Some t
  all_parts k j t e = let none : j ≡ 0 + j = omega arith in subst (λ n. slice_get (parts_of p k) n ≡ Some t) none e

  default_fine : (k : ℕ) → k < length p.classes → Fine (implicit_default_function p l k) (implicit_given k [])
  default_fine k below = by (some_constructor (class_at p k).functions)
    where
      inner : Lowering
      inner = lowering p l true []

      by : (b : Bool) → RegionReaches (needs_of p l) (reach_of l (implicit_given k []))
          (slots_for l true [] (in_order (if b then [] else build_parts inner k (default_part inner k) 0 (parts_of p k) nothing_more 1)) ++
          pad_slots (has_pad (in_order (if b then [] else build_parts inner k (default_part inner k) 0 (parts_of p k) nothing_more 1)))) (in_order (if b then [] else build_parts inner k (default_part inner k) 0 (parts_of p k) nothing_more 1))
      by true = tt
      by false =
          let body : Region = in_order (build_parts inner k (default_part inner k) 0 (parts_of p k) nothing_more 1) in
          let w : Where = where_of p l (implicit_given k []) body in
          let known = known_of p l (implicit_given k []) body typed small in
          from_reach w (build_parts inner k (default_part inner k) 0 (parts_of p k) nothing_more 1)
          (build_reaches w known k refl (default_part inner k) nothing_more (parts_there k below) (default_part_reaches w known k refl (parts_there k below)) (λ d. tt) 0 (parts_of p k) (all_parts k) 1)

  copy_fine : (k : ℕ) → k < length p.classes → Fine (implicit_copy_function p l k) (implicit_given k (copied_type (class_at p k)))
  copy_fine k below =
      let types : List Ty = copied_type (class_at p k) in
      let inner : Lowering = lowering p l true types in
      let body : Region = in_order (build_parts inner k (copy_part inner k) 0 (parts_of p k) nothing_more 1) in
      let w : Where = where_of p l (implicit_given k types) body in
      let known = known_of p l (implicit_given k types) body typed small in
      from_reach w (build_parts inner k (copy_part inner k) 0 (parts_of p k) nothing_more 1)
      (build_reaches w known k refl (copy_part inner k) nothing_more (parts_there k below)
      (copy_part_reaches w known k refl (ap (λ c. laid_size l (class_type c)) (typed.named k below)) (parts_there k below)) (λ d. tt) 0 (parts_of p k) (all_parts k) 1)

  destructor_fine : (k : ℕ) → k < length p.classes → Fine (implicit_destructor_function p l k) (implicit_given k [])
  destructor_fine k below =
      let inner : Lowering = lowering p l true [] in
      let body : Region = in_order (destroy_parts inner k 0 (parts_of p k) nothing_more 1) in
      let w : Where = where_of p l (implicit_given k []) body in
      let known = known_of p l (implicit_given k []) body typed small in
      from_reach w (destroy_parts inner k 0 (parts_of p k) nothing_more 1)
      (destroy_reaches w known k refl nothing_more (parts_there k below) (λ d. tt) 0 (parts_of p k) (all_parts k) 1)

  got : {A : Type 0} (xs : List A) (d : A) (i : ℕ) (x : A) → slice_get xs i ≡ Some x → (i < length xs) × (unwrap_or (slice_get xs i) d ≡ x)
  got [] d i x e = absurd (cc e)
  got (y ∷ xs) d zero x e = (omega arith, cc e)
  got (y ∷ xs) d (suc i) x e = let a = got xs d i x e in let less = a.0 in (omega (arith, less), a.1)

  class_fine : (k : ℕ) → k < length p.classes → Paired Both (functions_of_class p l k) (givens_of_class p k)
  class_fine k below =
      paired_both Both (map (declared_function p l true false k) (class_at p k).functions) _ (map (class_given k) (class_at p k).functions) _
      (methods_fine k 0 (class_at p k).functions below (λ i f e. let a = got (class_at p k).functions no_function i f e in let none : 0 + i ≡ i = omega arith in (let less = a.0 in omega (arith, less), ap (method_at p k) none ∙ a.1))) (
        (default_fine k below, pads_of (implicit_given k []) (implicit_default_function p l k).body),
        (
          (copy_fine k below, pads_of (implicit_given k (copied_type (class_at p k))) (implicit_copy_function p l k).body),
          ((destructor_fine k below, pads_of (implicit_given k []) (implicit_destructor_function p l k).body), tt),
        ),
      )

  classes_fine : (k n : ℕ) → k + n ≤ length p.classes → Paired Both (functions_of_classes p l k n) (givens_of_classes p k n)
  classes_fine k zero below = tt
  classes_fine k (suc n) below =
      paired_both Both (functions_of_class p l k) (functions_of_classes p l (k + 1) n) (givens_of_class p k) (givens_of_classes p (k + 1) n) (class_fine k (omega (arith, below))) (classes_fine (k + 1) n (omega (arith, below)))

  pub all_fine : Paired Both (regions_of p l).functions (givens_of p)
  all_fine =
      paired_both Both (own_functions p l 0 p.functions) (functions_of_classes p l 0 (length p.classes)) (map own_given p.functions) (givens_of_classes p 0 (length p.classes))
      (own_fine 0 p.functions (λ i f e. let a = got p.functions no_function i f e in let none : 0 + i ≡ i = omega arith in (let less = a.0 in omega (arith, less), ap (function_at p) none ∙ a.1)))
      (classes_fine 0 (length p.classes) (omega arith))

pub regions_reach_inside : RegionsReachInside
regions_reach_inside p l typed small n f e = (paired_at (Both p l typed small) (regions_of p l).functions (givens_of p) n f (all_fine p l typed small) e).0

pub pads_known : (p : Checked) (l : Layout) → IsTypedProgram p l → ((k : ℕ) → laid_size l (class_type k) ≤ most_class_bytes) → (n : ℕ) (f : RegionFunction) → slice_get (regions_of p l).functions n ≡ Some f →
    (most_class_bytes ≤ needs_of p l n (length f.slots)) × HasRoom (needs_of p l n) (code_slots f) (way_place (emitting f)) 4
pads_known p l typed small n f e = (paired_at (Both p l typed small) (regions_of p l).functions (givens_of p) n f (all_fine p l typed small) e).1
