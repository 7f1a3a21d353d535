-- The slots of a function that hold its variables, and those behind them.
use Rattle.std.proofs.Common.{◌≡◌, ◌∙◌, ◌+◌, ◌-◌, ◌≤◌, ◌<◌, ℕ, zero, suc, nat_lt, Bool, true, List, [], ◌∷◌, ◌++◌, map, length, replicate, Some, refl, ap, arith}
use Rattle.std.specs.Prelude.{slice_get, unwrap_or}
use Rattle.std.proofs.lemmas.Bool.Decides.{nat_tests}
use Rattle.std.proofs.lemmas.List.{length-map, length-append, length-replicate}
use Rattle.std.proofs.lemmas.Option.{slice_get_within}
use Rattle.std.specs.Cmp.Derive.{both_true}
use Rattle.cxx_ast.specs.declared.types.Ty.{Ty}
use Rattle.cxx_ast.specs.declared.types.Ty.TheVariants.{Int}
use Rattle.region_forms.specs.Form.{SlotKind, Slot, kind_of}
use Rattle.region_forms.specs.LowerExpression.{slot_place}
use Rattle.region_forms.specs.LowerProgram.{slot_for, help, own_slots, slots_for}
use Rattle.region_forms.specs.Layout.{Layout}
use Rattle.region_forms.specs.Form.{Region}
use Rattle.region_forms.specs.Mentioned.{slots_of}
use Rattle.region_forms.specs.WellFormed.{holds_ints, slot_test, within, int_place}
use Rattle.region_ir.proofs.SlotCounts.{named_slots, all_mentioned, two_more}
use Rattle.region_formed.proofs.Meant.{Given, lowering_in, slots_in, regions_in}

-- what stands in front of others, and what stands behind them
pub in_front : {A : Type 0} (xs ys : List A) (n : ℕ) → n < length xs → slice_get (xs ++ ys) n ≡ slice_get xs n
in_front [] ys n h = absurd (omega (arith, h))
in_front (x ∷ xs) ys zero h = refl
in_front (x ∷ xs) ys (suc n) h = in_front xs ys n (omega (arith, h))

pub behind : {A : Type 0} (xs ys : List A) (n k : ℕ) → n ≡ length xs + k → slice_get (xs ++ ys) n ≡ slice_get ys k
behind [] ys n k h = let e : n ≡ k = omega (arith, h) in ap (slice_get ys) e
behind (x ∷ xs) ys zero k h = absurd (omega (arith, h))
behind (x ∷ xs) ys (suc n) k h = behind xs ys n k (omega (arith, h))

mapped_at : {A B : Type 0} (f : A → B) (xs : List A) (n : ℕ) (other : A) → n < length xs → slice_get (map f xs) n ≡ Some (f (unwrap_or (slice_get xs n) other))
mapped_at f [] n other h = absurd (omega (arith, h))
mapped_at f (x ∷ xs) zero other h = refl
mapped_at f (x ∷ xs) (suc n) other h = mapped_at f xs n other (omega (arith, h))

replicated : {A : Type 0} (n k : ℕ) (x : A) → k < n → slice_get (replicate n x) k ≡ Some x
replicated zero k x h = absurd (omega (arith, h))
replicated (suc n) zero x h = refl
replicated (suc n) (suc k) x h = replicated n k x (omega (arith, h))

-- a slot that is there
pub slot_there : (test : SlotKind → Bool) (slots : List Slot) (s : ℕ) (x : Slot) → slice_get slots s ≡ Some x → test x.kind ≡ true → slot_test test slots s ≡ true
slot_there test slots s x e h =
    let less = slice_get_within slots s x e in
    let there : nat_lt s (length slots) ≡ true = grind (arith, nat_tests, less) in
    both_true there (ap (λ o. test (kind_of o)) e ∙ h)

-- the slot of a variable
pub variable_slot_at : (l : Layout) (m : Bool) (types : List Ty) (body : Region) (n : ℕ) → n < length types →
    slice_get (slots_for l m types body) (length (own_slots m) + n) ≡ Some (slot_for l (unwrap_or (slice_get types n) Int))
variable_slot_at l m types body n h =
    let count = length-map types (slot_for l) in
    behind (own_slots m) _ (length (own_slots m) + n) n refl
    ∙ (in_front (map (slot_for l) types) _ n (omega (arith, count, h)) ∙ mapped_at (slot_for l) types n Int h)

-- a slot behind the variables
pub help_at : (l : Layout) (m : Bool) (types : List Ty) (body : Region) (s : ℕ) → named_slots m types ≤ s → s < length (slots_for l m types body) →
    slice_get (slots_for l m types body) s ≡ Some help
help_at l m types body s h below =
    let n = 2 + (slots_of body - (named_slots m types + 2)) in
    let mapped = length-map types (slot_for l) in
    let repeated = length-replicate n help in
    let all = length-append (own_slots m) (map (slot_for l) types ++ replicate n help) in
    let more = length-append (map (slot_for l) types) (replicate n help) in
    behind (own_slots m) _ s (s - length (own_slots m)) (omega (arith, h))
    ∙ (behind (map (slot_for l) types) _ (s - length (own_slots m)) (s - length (own_slots m) - length types) (omega (arith, h, mapped))
    ∙ replicated n (s - length (own_slots m) - length types) help (omega (arith, below, mapped, repeated, all, more)))

-- a slot for values between calls, where the body mentions it
pub temporary_at : (g : Given) (s : ℕ) → named_slots g.is_member g.variables ≤ s → s + 1 ≤ slots_of g.body → slice_get (slots_in g) s ≡ Some help
temporary_at g s h below =
    let l = (lowering_in g).layout in
    let all = all_mentioned l g.is_member g.variables g.body in
    help_at l g.is_member g.variables g.body s h (omega (arith, all, below))

-- the slots of the result and of an exception object's address
pub result_at : (g : Given) → slice_get (slots_in g) (named_slots g.is_member g.variables) ≡ Some help
result_at g =
    let l = (lowering_in g).layout in
    let more = two_more l g.is_member g.variables g.body in
    help_at l g.is_member g.variables g.body (named_slots g.is_member g.variables) (omega arith) (omega (arith, more))

pub exception_at : (g : Given) → slice_get (slots_in g) (named_slots g.is_member g.variables + 1) ≡ Some help
exception_at g =
    let l = (lowering_in g).layout in
    let more = two_more l g.is_member g.variables g.body in
    help_at l g.is_member g.variables g.body (named_slots g.is_member g.variables + 1) (omega arith) (omega (arith, more))

-- an int may stand in it
pub int_in : (g : Given) (s : ℕ) → slice_get (slots_in g) s ≡ Some help → int_place (regions_in g) (slots_in g) (slot_place s) ≡ true
int_in g s e = both_true (slot_there holds_ints (slots_in g) s help e refl) (ap (λ o. within o 0) e)
