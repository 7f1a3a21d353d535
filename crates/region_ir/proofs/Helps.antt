-- Slots for values between calls.
use Rattle.std.proofs.Common.{◌≡◌, ◌∙◌, ℕ, zero, suc, ◌+◌, ◌-◌, List, [], ◌∷◌, ◌++◌, map, length, replicate, refl, ap, sym, append_assoc, arith}
use Rattle.std.proofs.lemmas.List.{map_push, length-map, length-append}
use Rattle.cxx_ast.specs.declared.types.Ty.{Ty}
use Rattle.region_forms.specs.Layout.{Layout}
use Rattle.region_forms.specs.Form.{Slot}
use Rattle.region_forms.specs.LowerProgram.{help, slot_for}
use Rattle.region_ir.specs.declared.place.Slot.{Slot as SlotValue}
use Rattle.region_ir.specs.View.{slot_of}

replicate_push : (n : ℕ) (x : Slot) → replicate n x ++ x ∷ [] ≡ replicate (suc n) x
replicate_push zero x = refl
replicate_push (suc n) x = ap (λ xs. x ∷ xs) (replicate_push n x)

-- one more of them
pub one_more : (old : List SlotValue) (x : SlotValue) (start : List Slot) (n : ℕ) → map slot_of old ≡ start ++ replicate n help → slot_of x ≡ help →
    map slot_of (old ++ x ∷ []) ≡ start ++ replicate (n + 1) help
one_more old x start n e h =
    let one : n + 1 ≡ suc n = omega arith in
    map_push slot_of old x ∙ (ap (λ xs. xs ++ slot_of x ∷ []) e ∙ (append_assoc start (replicate n help) (slot_of x ∷ []) ∙
    (ap (λ y. start ++ (replicate n help ++ y ∷ [])) h ∙ (ap (λ xs. start ++ xs) (replicate_push n help) ∙ ap (λ m. start ++ replicate m help) (sym one)))))

-- behind those that are named stand as many as are mentioned besides
pub counted : (l : Layout) (own : List Slot) (types : List Ty) (named now : List SlotValue) (n mentioned : ℕ) → map slot_of named ≡ own ++ map (slot_for l) types →
    n ≡ length named → map slot_of now ≡ map slot_of named ++ replicate (2 + (mentioned - (n + 2))) help →
    map slot_of now ≡ own ++ (map (slot_for l) types ++ replicate (2 + (mentioned - (length own + length types + 2))) help)
counted l own types named now n mentioned e counts f =
    let all : n ≡ length own + length types =
    counts ∙ (sym (length-map named slot_of) ∙ (ap (λ xs. length xs) e ∙ (length-append own (map (slot_for l) types) ∙
    ap (λ m. length own + m) (length-map types (slot_for l))))) in
    f ∙ (ap (λ xs. xs ++ replicate (2 + (mentioned - (n + 2))) help) e ∙ (append_assoc own (map (slot_for l) types) (replicate (2 + (mentioned - (n + 2))) help) ∙
    ap (λ m. own ++ (map (slot_for l) types ++ replicate (2 + (mentioned - (m + 2))) help)) all))
