-- Each function has the slots that its body mentions; those behind its variables are for values between calls.
use Rattle.std.proofs.Common.{◌≡◌, ◌∙◌, ◌+◌, ◌-◌, ◌≤◌, ◌<◌, ℕ, zero, suc, nat_le, nat_lt, Bool, true, false, List, [], ◌∷◌, ◌++◌, map, length, replicate, Option, Some, None, if◌then◌else◌, refl, ap, ap₂, arith}
use Rattle.std.proofs.lemmas.Bool.Decides.{nat_tests}
use Rattle.std.proofs.lemmas.List.{length-map, length-append, length-replicate}
use Rattle.std.specs.Cmp.Derive.{both_true}
use Rattle.cxx_ast.specs.declared.types.Ty.{Ty}
use Rattle.cxx_ast.specs.declared.types.Ty.TheVariants.{Int}
use Rattle.cxx_ast.specs.Plain.{Checked, Function}
use Rattle.meaning_forms.specs.Class.{class_at, parts_of}
use Rattle.region_forms.specs.Form.{Slot, help_slot, Region, kinds_of, in_order}
use Rattle.region_forms.specs.Layout.{Layout}
use Rattle.region_forms.specs.Mentioned.{slots_of}
use Rattle.region_forms.specs.Numbering.{variables_of, declared_in_body}
use Rattle.region_forms.specs.LowerExpression.{Lowering, result_slot, exception_slot}
use Rattle.region_forms.specs.LowerProgram.{slot_for, help, own_slots, slots_for, lowering, result_for, with_body, copied_type, limited, last_result, body_of, some_constructor, build_parts, destroy_parts, default_part, copy_part, declared_function, implicit_default_function, implicit_copy_function, implicit_destructor_function, regions_of}
use Rattle.region_forms.specs.LowerStatement.{nothing_more}
use Rattle.region_forms.specs.WellFormed.{every, slot_test, is_help}
use Rattle.region_ir.specs.SlotsSuffice.{slots_suffice, HelpsBehind}
use Rattle.region_ir.proofs.EachFunction.{each_passes}

-- how many slots stand for what is named
abbrev pub named_slots : Bool → List Ty → ℕ
named_slots is_member variables = length (own_slots is_member) + length variables

counted : (l : Layout) (m : Bool) (types : List Ty) (body : Region) →
    length (slots_for l m types body) ≡ length (own_slots m) + (length types + (2 + (slots_of body - (named_slots m types + 2))))
counted l m types body =
    let n = 2 + (slots_of body - (named_slots m types + 2)) in
    length-append (own_slots m) (map (slot_for l) types ++ replicate n help) ∙ ap (λ k. length (own_slots m) + k)
    (length-append (map (slot_for l) types) (replicate n help) ∙ ap₂ (λ a b. a + b) (length-map types (slot_for l)) (length-replicate n help))

-- no fewer than are mentioned, and two more than are named
pub all_mentioned : (l : Layout) (m : Bool) (types : List Ty) (body : Region) → slots_of body ≤ length (slots_for l m types body)
all_mentioned l m types body = let e = counted l m types body in omega (arith, e)

pub two_more : (l : Layout) (m : Bool) (types : List Ty) (body : Region) → named_slots m types + 2 ≤ length (slots_for l m types body)
two_more l m types body = let e = counted l m types body in omega (arith, e)

-- the kind of a slot behind others
kind_behind : (xs ys : List Slot) (s : ℕ) → length xs ≤ s → kinds_of (xs ++ ys) s ≡ kinds_of ys (s - length xs)
kind_behind [] ys s h = let e : s ≡ s - 0 = omega arith in ap (kinds_of ys) e
kind_behind (x ∷ xs) ys zero h = absurd (omega (arith, h))
kind_behind (x ∷ xs) ys (suc s) h =
    let e : s - length xs ≡ suc s - suc (length xs) = omega arith in kind_behind xs ys s (omega (arith, h)) ∙ ap (kinds_of ys) e

help_kind : (n s : ℕ) → kinds_of (replicate n help) s ≡ help_slot
help_kind zero zero = refl
help_kind zero (suc s) = refl
help_kind (suc n) zero = refl
help_kind (suc n) (suc s) = help_kind n s

pub helps_behind : (l : Layout) (m : Bool) (types : List Ty) (body : Region) (s : ℕ) → named_slots m types ≤ s →
    kinds_of (slots_for l m types body) s ≡ help_slot
helps_behind l m types body s h =
    let n = 2 + (slots_of body - (named_slots m types + 2)) in
    let e = length-map types (slot_for l) in
    kind_behind (own_slots m) (map (slot_for l) types ++ replicate n help) s (omega (arith, h))
    ∙ (kind_behind (map (slot_for l) types) (replicate n help) (s - length (own_slots m)) (omega (arith, h, e))
    ∙ help_kind n (s - length (own_slots m) - length (map (slot_for l) types)))

-- a slot behind the variables that is there
help_there : (l : Layout) (m : Bool) (types : List Ty) (body : Region) (s : ℕ) → named_slots m types ≤ s → s < length (slots_for l m types body) →
    slot_test is_help (slots_for l m types body) s ≡ true
help_there l m types body s h below =
    let there : nat_lt s (length (slots_for l m types body)) ≡ true = grind (arith, nat_tests, below) in
    both_true there (ap is_help (helps_behind l m types body s h))

pub helps : (l : Layout) (m : Bool) (types : List Ty) (body : Region) → HelpsBehind l m types body
helps l m types body =
    let all = all_mentioned l m types body in
    let more = two_more l m types body in
    record {
      mentioned = λ s h below. help_there l m types body s h (omega (arith, all, below));
      exception = λ p. help_there l m types body (exception_slot (lowering p l m types)) (omega arith) (omega (arith, more));
    }

-- a result has the first slot behind the variables
abbrev IsResult : ℕ → Option ℕ → Type 0
IsResult n None = Unit {0}
IsResult n (Some s) = s ≡ n

suffices : (l : Layout) (m : Bool) (types : List Ty) (parameters : ℕ) (name : List ℕ) (result : Option ℕ) (body : Region) →
    parameters ≤ named_slots m types → IsResult (named_slots m types) result → slots_suffice (with_body l m types parameters name result body) ≡ true
suffices l m types parameters name None body h r =
    let all = all_mentioned l m types body in
    let more = two_more l m types body in
    let mentioned : nat_le (slots_of body) (length (slots_for l m types body)) ≡ true = grind (arith, nat_tests, all) in
    let passed : nat_le parameters (length (slots_for l m types body)) ≡ true = grind (arith, nat_tests, h, more) in
    both_true mentioned (both_true passed refl)
suffices l m types parameters name (Some s) body h r =
    let all = all_mentioned l m types body in
    let more = two_more l m types body in
    let mentioned : nat_le (slots_of body) (length (slots_for l m types body)) ≡ true = grind (arith, nat_tests, all) in
    let passed : nat_le parameters (length (slots_for l m types body)) ≡ true = grind (arith, nat_tests, h, more) in
    both_true mentioned (both_true passed (help_there l m types body s (omega (arith, r)) (omega (arith, r, more))))

result_is : (l : Lowering) (t : Ty) → IsResult (result_slot l) (result_for l t)
result_is l Int = refl
result_is l t = tt

parameters_named : (m : Bool) (f : Function) → length (own_slots m) + length f.parameters ≤ named_slots m (variables_of f)
parameters_named m f =
    let e = length-append (map (λ x. x.ty) f.parameters) (declared_in_body f.body) in
    let g = length-map f.parameters (λ x. x.ty) in omega (arith, e, g)

declared_suffices : (p : Checked) (layout : Layout) (m is_main : Bool) (k : ℕ) (f : Function) →
    slots_suffice (declared_function p layout m is_main k f) ≡ true
declared_suffices p layout m is_main k f =
    let l = lowering p layout m (variables_of f) in
    suffices layout m (variables_of f) (l.first_variable + length f.parameters) f.name.text (result_for l f.result)
    (in_order (limited l f.specification (body_of l f.kind k f) 1 ∷ last_result l is_main)) (parameters_named m f) (result_is l f.result)

default_suffices : (p : Checked) (layout : Layout) (k : ℕ) → slots_suffice (implicit_default_function p layout k) ≡ true
default_suffices p layout k =
    let l = lowering p layout true [] in
    suffices layout true [] 1 (class_at p k).name.text None
    (in_order (if some_constructor (class_at p k).functions then [] else build_parts l k (default_part l k) 0 (parts_of p k) nothing_more 1)) (omega arith) tt

copy_suffices : (p : Checked) (layout : Layout) (k : ℕ) → slots_suffice (implicit_copy_function p layout k) ≡ true
copy_suffices p layout k =
    let l = lowering p layout true (copied_type (class_at p k)) in
    suffices layout true (copied_type (class_at p k)) 2 (class_at p k).name.text None
    (in_order (build_parts l k (copy_part l k) 0 (parts_of p k) nothing_more 1)) (omega arith) tt

destructor_suffices : (p : Checked) (layout : Layout) (k : ℕ) → slots_suffice (implicit_destructor_function p layout k) ≡ true
destructor_suffices p layout k =
    let l = lowering p layout true [] in
    suffices layout true [] 1 (class_at p k).name.text None (in_order (destroy_parts l k 0 (parts_of p k) nothing_more 1)) (omega arith) tt

pub regions_suffice : (p : Checked) (l : Layout) → every slots_suffice (regions_of p l).functions ≡ true
regions_suffice p l = each_passes p l slots_suffice (record {
  own = λ is_main i f e. declared_suffices p l false is_main 0 f;
  method = λ k i f below e. declared_suffices p l true false k f;
  default = λ k below. default_suffices p l k;
  copy = λ k below. copy_suffices p l k;
  destructor = λ k below. destructor_suffices p l k;
})
