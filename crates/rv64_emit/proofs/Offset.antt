-- The offsets of slots.
use Rattle.std.proofs.Common.{◌≡◌, ◌∙◌, ℕ, zero, suc, ◌+◌, ◌-◌, List, [], ◌∷◌, take, get_or, refl, sym, ap, arith}
use Rattle.region_forms.specs.Form.{Slot}
use Rattle.linear_forms.specs.Frame.{rounded_up, slot_bytes}
use Rattle.rv64_emit.specs.Offsets.{offsets_below}

twice_below : (a b c : ℕ) → a - b - c ≡ a - (b + c)
twice_below a b c = omega arith

from_end : (end : ℕ) (slots : List Slot) (s : ℕ) → get_or (offsets_below end slots) s (end - slot_bytes slots) ≡ end - slot_bytes (take (suc s) slots)
from_end end [] zero = refl
from_end end [] (suc s) = refl
from_end end (x ∷ slots) zero = omega arith
from_end end (x ∷ slots) (suc s) =
    let size = rounded_up 7 x.size in
    let e : end - slot_bytes (x ∷ slots) ≡ end - size - slot_bytes slots = sym (twice_below end size (slot_bytes slots)) in
    ap (get_or (offsets_below (end - size) slots) s) e
    ∙ (from_end (end - size) slots s ∙ twice_below end size (slot_bytes (take (suc s) slots)))

-- the offset of a slot, among those made for all
pub offset_of : (end : ℕ) (slots : List Slot) (offsets : List ℕ) (lowest s : ℕ) → offsets ≡ offsets_below end slots → lowest ≡ end - slot_bytes slots →
    get_or offsets s lowest ≡ end - slot_bytes (take (s + 1) slots)
offset_of end slots offsets lowest s e h =
    let next : suc s ≡ s + 1 = omega arith in
    ap (λ l. get_or l s lowest) e ∙ (ap (get_or (offsets_below end slots) s) h ∙ (from_end end slots s ∙ ap (λ n. end - slot_bytes (take n slots)) next))
