-- Where control can go from an operation of linear code, inside one call.
use Rattle.std.specs.Prelude.{◌≡◌, ◌⊎◌, ℕ, ◌+◌, ◌≤◌, ℤ, Bool, true, false, List, Option, Some, None, slice_get}
use Rattle.region_forms.specs.Form.{Value}
use Rattle.linear_forms.specs.Linear.{LinearOp, label, jump, jump_zero, jump_filter, resume, unexpected, return, FunctionCode}
use Rattle.linear_forms.specs.Tables.{padded, look_up, label_place}

-- Control can come to the next operation. What a resume or a specification passes on for good never comes back.
abbrev pub goes_on : LinearOp → Bool
goes_on (jump l) = false
goes_on (resume s) = false
goes_on (unexpected o s) = false
goes_on (return result) = false
goes_on o = true

-- the label to which an operation can jump
abbrev pub label_of : LinearOp → Option ℕ
label_of (jump l) = Some l
label_of (jump_zero v l) = Some l
label_of (jump_filter s n l) = Some l
label_of o = None

-- the place of a label
abbrev pub place_of : FunctionCode → ℕ → ℕ
place_of g l = label_place g.ops l 0

-- From the operation at place p control can go to the next one, to the label of a jump, or to the landing pad of the site that covers the
-- operation.
abbrev pub CanGo : FunctionCode → ℕ → LinearOp → ℕ → Type 0
CanGo g p o q =
    ((goes_on o ≡ true) × (q ≡ p + 1)) ⊎
    ((l : ℕ) × (label_of o ≡ Some l) × (q ≡ place_of g l)) ⊎
    ((chain : List ℤ) × (look_up g.sites p ≡ padded q chain))

-- A loop turns back: the jump at its end, in front of the label behind the loop, goes to the label in front of the loop's test, which stands
-- before it.
pub record TurnsBack (g : FunctionCode) (p q : ℕ) : Type 0 where
  pub first : ℕ
  pub last : ℕ
  pub value : Value
  pub before : q ≤ p
  pub back : slice_get g.ops p ≡ Some (jump first)
  pub end : slice_get g.ops (p + 1) ≡ Some (label last)
  pub begin : slice_get g.ops q ≡ Some (label first)
  pub test : slice_get g.ops (q + 1) ≡ Some (jump_zero value last)
