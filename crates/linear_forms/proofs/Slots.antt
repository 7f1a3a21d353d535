-- What an operation does looks at the slots that it mentions alone, so the pads' slots behind a function's own do not matter.
use Rattle.std.proofs.Common.{◌≡◌, ℕ, ◌<◌, ◌≤◌, ◌∷◌, Option, Some, None, refl, ap, ◌∙◌, arith}
use Rattle.std.specs.Prelude.{max}
use Rattle.meaning_forms.specs.Arithmetic.{decided}
use Rattle.region_forms.specs.Form.{Kinds, SlotKind, int_slot, address_slot, object_slot, help_slot, Root, in_slot, through, in_global, Place, Value, number, load, unary, binary, call_value, Argument, int_argument, address_argument, handler_argument, Arguments, no_arguments, argument_then}
use Rattle.region_forms.specs.World.{Address, number_word, address_word, Frame, World, address_in, number_in}
use Rattle.region_forms.specs.Evaluation.{slot_location, location_behind, root_location, with_some, read_location, location_address, address_of, unary_result, with_right, value_in, word_in, words_in}
use Rattle.region_forms.specs.Mentioned.{slots_of_root, slots_of_value, slots_of_argument, slots_of_arguments}
use Rattle.linear_forms.specs.CodeRuns.{SameBelow}

max_left : (a b n : ℕ) → max a b ≤ n → a ≤ n
max_left a b n h = omega (arith, h)

max_right : (a b n : ℕ) → max a b ≤ n → b ≤ n
max_right a b n h = omega (arith, h)

module _ (n : ℕ) (k j : Kinds) (kinds : (s : ℕ) → s < n → j s ≡ k s) (f g : Frame) (same : SameBelow n f g) (w : World) where
  root_same : (r : Root) (o : ℕ) → slots_of_root r ≤ n → root_location j g r o ≡ root_location k f r o
  root_same (in_slot s) o h =
      ap (λ x. Some (slot_location x g.call s o)) (kinds s (omega (arith, h))) ∙ ap (λ c. Some (slot_location (k s) c s o)) same.call
  root_same (through s) o h = ap (λ x. location_behind o (address_in x)) (same.slots s (omega (arith, h)))
  root_same (in_global m) o h = refl

  -- a slot is read alike, whatever its kind
  slot_read : (x : SlotKind) (s o : ℕ) → s < n → read_location g w (slot_location x g.call s o) ≡ read_location f w (slot_location x f.call s o)
  slot_read int_slot s o h = ap (λ c. read_location g w (slot_location int_slot c s o)) same.call
  slot_read object_slot s o h = ap (λ c. read_location g w (slot_location object_slot c s o)) same.call
  slot_read address_slot s o h = ap number_in (same.slots s h)
  slot_read help_slot s o h = ap number_in (same.slots s h)

  read_behind : (o : ℕ) (a : Option Address) → with_some (location_behind o a) (read_location g w) ≡ with_some (location_behind o a) (read_location f w)
  read_behind o None = refl
  read_behind o (Some a) = refl

  root_read : (r : Root) (o : ℕ) → slots_of_root r ≤ n → with_some (root_location j g r o) (read_location g w) ≡ with_some (root_location k f r o) (read_location f w)
  root_read (in_slot s) o h =
      ap (λ x. read_location g w (slot_location x g.call s o)) (kinds s (omega (arith, h))) ∙ slot_read (k s) s o (omega (arith, h))
  root_read (through s) o h =
      ap (λ x. with_some (location_behind o (address_in x)) (read_location g w)) (same.slots s (omega (arith, h))) ∙ read_behind o (address_in (f.slots s))
  root_read (in_global m) o h = refl

  pub address_same : (p : Place) → slots_of_root p.root ≤ n → address_of j g p ≡ address_of k f p
  address_same p h = ap (λ x. with_some x location_address) (root_same p.root p.offset h)

  pub value_same : (v : Value) → slots_of_value v ≤ n → value_in j g w v ≡ value_in k f w v
  value_same (number z) h = refl
  value_same (load p) h = root_read p.root p.offset h
  value_same (unary o v) h = ap (λ x. with_some x (unary_result o)) (value_same v h)
  value_same (binary o a b) h =
      ap (λ x. with_some x (λ y. with_right o y (decided o y) (value_in j g w b))) (value_same a (max_left (slots_of_value a) (slots_of_value b) n h)) ∙
      ap (λ x. with_some (value_in k f w a) (λ y. with_right o y (decided o y) x)) (value_same b (max_right (slots_of_value a) (slots_of_value b) n h))
  value_same (call_value c args) h = refl

  pub word_same : (a : Argument) → slots_of_argument a ≤ n → word_in j g w a ≡ word_in k f w a
  word_same (int_argument v) h = ap (λ x. with_some x (λ y. Some (number_word y))) (value_same v h)
  word_same (address_argument p) h = ap (λ x. with_some x (λ a. Some (address_word a))) (address_same p h)
  word_same (handler_argument m) h = refl

  pub words_same : (args : Arguments) → slots_of_arguments args ≤ n → words_in j g w args ≡ words_in k f w args
  words_same no_arguments h = refl
  words_same (argument_then a args) h =
      ap (λ x. with_some x (λ y. with_some (words_in j g w args) (λ ys. Some (y ∷ ys)))) (word_same a (max_left (slots_of_argument a) (slots_of_arguments args) n h)) ∙
      ap (λ x. with_some (word_in k f w a) (λ y. with_some x (λ ys. Some (y ∷ ys)))) (words_same args (max_right (slots_of_argument a) (slots_of_arguments args) n h))
