-- Exits behind a cleanup: what is named once, and tests that lead on.
use Rattle.std.proofs.Common.{◌≡◌, ℕ, ◌+◌, ◌⊎◌, inl, inr, Bool, true, false, List, [], ◌∷◌, ◌++◌, length, Some, refl, ap, ◌∙◌, subst, arith}
use Rattle.std.specs.Prelude.{pos, ◌==◌, ◌||◌, not, if◌then◌else◌}
use Rattle.std.proofs.lemmas.Bool.Decides.{nat_tests}
use Rattle.cxx_ast.specs.declared.expression.BinaryOp.TheVariants.{NotEqual}
use Rattle.meaning_forms.specs.Arithmetic.{is_zero, truth, int_equal, decided}
use Rattle.meaning_forms.specs.Class.{contains, some_of}
use Rattle.region_forms.specs.Form.{number, load, binary}
use Rattle.region_forms.specs.World.{number_word, number_in, Frame, World}
use Rattle.region_forms.specs.Evaluation.{slot_location, read_location, with_some, with_right}
use Rattle.linear_forms.specs.Linear.{jump_zero}
use Rattle.linear_forms.specs.Distinct.{among, added, added_all, same_number, distinct}
use Rattle.linear_forms.specs.Stub.{compiled}
use Rattle.linear_forms.specs.Activation.{Code, Activation, goes_to, at}
use Rattle.linear_forms.specs.Operation.{jumped_zero}
use Rattle.linear_forms.specs.Machine.{step}
use Rattle.linear_forms.specs.Exits.{Exit, first_label, name_of}
use Rattle.linear_forms.specs.Emission.{Emitting, way_place, way_test, way_tests}
use Rattle.linear_forms.specs.Pace.{Paced}
use Rattle.linear_forms.specs.CodeRuns.{HasAt, Site, here, SlotsBehind}
use Rattle.linear_forms.proofs.Running
use Rattle.linear_simulation.proofs.Parts.{has_left, has_right}

turned : (a b : ℕ) → (a == b) ≡ true → (b == a) ≡ true
turned a b e = grind (arith, nat_tests)

itself : (a : ℕ) → (a == a) ≡ true
itself a = grind (arith, nat_tests)

among_has : (xs : List ℕ) (k : ℕ) → among same_number xs k ≡ true → contains xs k ≡ true
among_has [] k h = absurd (cc h)
among_has (x ∷ xs) k h = go (k == x) refl h (among_has xs k)
  where
    go : (b : Bool) → (k == x) ≡ b → (b || some_of (same_number k) xs) ≡ true → (among same_number xs k ≡ true → contains xs k ≡ true)
        → ((x == k) || contains xs k) ≡ true
    go true e i f = ap (λ b. b || contains xs k) (turned k x e)
    go false e i f = has_right (x ∷ []) xs k (f i)

added_keeps : (xs : List ℕ) (y k : ℕ) → contains xs k ≡ true → contains (added same_number xs y) k ≡ true
added_keeps xs y k h = go (among same_number xs y)
  where
    go : (b : Bool) → contains (if b then xs else xs ++ y ∷ []) k ≡ true
    go true = h
    go false = has_left xs (y ∷ []) k h

added_has : (xs : List ℕ) (y k : ℕ) → (y == k) ≡ true → contains (added same_number xs y) k ≡ true
added_has xs y k e = go (among same_number xs y) refl
  where
    one : contains (y ∷ []) k ≡ true
    one = ap (λ b. b || false) e

    moved : among same_number xs y ≡ true → contains xs k ≡ true
    moved h = subst (λ z. contains xs z ≡ true) (same y k e) (among_has xs y h)
      where
        same : (y k : ℕ) → (y == k) ≡ true → y ≡ k
        same y k e = grind (arith, nat_tests)

    go : (b : Bool) → among same_number xs y ≡ b → contains (if b then xs else xs ++ y ∷ []) k ≡ true
    go true h = moved h
    go false h = has_right xs (y ∷ []) k one

all_keeps : (ys xs : List ℕ) (k : ℕ) → contains xs k ≡ true → contains (added_all same_number xs ys) k ≡ true
all_keeps [] xs k h = h
all_keeps (y ∷ ys) xs k h = all_keeps ys (added same_number xs y) k (added_keeps xs y k h)

all_has : (ys xs : List ℕ) (k : ℕ) → contains ys k ≡ true → contains (added_all same_number xs ys) k ≡ true
all_has [] xs k h = absurd (cc h)
all_has (y ∷ ys) xs k h = go (y == k) refl h (all_has ys (added same_number xs y) k)
  where
    go : (b : Bool) → (y == k) ≡ b → (b || contains ys k) ≡ true → (contains ys k ≡ true → contains (added_all same_number (added same_number xs y) ys) k ≡ true)
        → contains (added_all same_number (added same_number xs y) ys) k ≡ true
    go true e i f = all_keeps ys (added same_number xs y) k (added_has xs y k e)
    go false e i f = f i

-- what is named, is named once
pub distinct_has : (ys : List ℕ) (k : ℕ) → contains ys k ≡ true → contains (distinct ys) k ≡ true
distinct_has ys k h = all_has ys [] k h

split_has : (xs : List ℕ) (y k : ℕ) → contains (xs ++ y ∷ []) k ≡ true → (contains xs k ≡ true) ⊎ ((y == k) ≡ true)
split_has [] y k h = inr (go (y == k) h)
  where
    go : (b : Bool) → (b || false) ≡ true → b ≡ true
    go true e = refl
    go false e = e
split_has (x ∷ xs) y k h = go (x == k) h (split_has xs y k)
  where
    go : (b : Bool) → (b || contains (xs ++ y ∷ []) k) ≡ true → (contains (xs ++ y ∷ []) k ≡ true → (contains xs k ≡ true) ⊎ ((y == k) ≡ true))
        → ((b || contains xs k) ≡ true) ⊎ ((y == k) ≡ true)
    go true e f = inl refl
    go false e f = f e

added_of : (xs : List ℕ) (y k : ℕ) → contains (added same_number xs y) k ≡ true → (contains xs k ≡ true) ⊎ ((y == k) ≡ true)
added_of xs y k h = go (among same_number xs y) h
  where
    go : (b : Bool) → contains (if b then xs else xs ++ y ∷ []) k ≡ true → (contains xs k ≡ true) ⊎ ((y == k) ≡ true)
    go true i = inl i
    go false i = split_has xs y k i

all_of : (ys xs : List ℕ) (k : ℕ) → contains (added_all same_number xs ys) k ≡ true → (contains xs k ≡ true) ⊎ (contains ys k ≡ true)
all_of [] xs k h = inl h
all_of (y ∷ ys) xs k h = go (all_of ys (added same_number xs y) k h)
  where
    last : (contains xs k ≡ true) ⊎ ((y == k) ≡ true) → (contains xs k ≡ true) ⊎ (contains (y ∷ ys) k ≡ true)
    last (inl e) = inl e
    last (inr e) = inr (ap (λ b. b || contains ys k) e)

    go : (contains (added same_number xs y) k ≡ true) ⊎ (contains ys k ≡ true) → (contains xs k ≡ true) ⊎ (contains (y ∷ ys) k ≡ true)
    go (inl e) = last (added_of xs y k e)
    go (inr e) = inr (has_right (y ∷ []) ys k e)

-- what is named once, is named
pub distinct_of : (ys : List ℕ) (k : ℕ) → contains (distinct ys) k ≡ true → contains ys k ≡ true
distinct_of ys k h = go (all_of ys [] k h)
  where
    go : (contains [] k ≡ true) ⊎ (contains ys k ≡ true) → contains ys k ≡ true
    go (inl e) = absurd (cc e)
    go (inr e) = e

other : (a b : ℕ) → (a ≡ b → ⊥) → int_equal (pos a) (pos b) ≡ false
other a b ne = grind (arith, nat_tests, ne)

module _ (code : Code) (most n : ℕ) where
  -- a test that another name fails
  pass_step : (em : Emitting) (xs : List Exit) (s : Site) (p m z : ℕ) (f : Frame) (w : World) → SlotsBehind code s.func n em
      → f.slots em.way ≡ number_word (pos z) → (z ≡ name_of m xs → ⊥) → code.op_at s.func p ≡ Some (way_test em xs m).op
      → step code (here s p f w) ≡ at (compiled s.func) (p + 1) f s.frames w
  pass_step em xs s p m z f w b way ne e =
      let a : Activation = record { function = compiled s.func; place = p; frame = f } in
      Running.step_at code most n s p f w (jump_zero (binary NotEqual (load (way_place em)) (number (pos (name_of m xs)))) (first_label m xs)) e ∙
      ap (λ k. jumped_zero code (with_some (read_location f w (slot_location k f.call em.way 0)) (λ x. with_right NotEqual x (decided NotEqual x) (Some (pos (name_of m xs))))) (first_label m xs) a s.frames w)
      (ap (code.kinds_at s.func) b.way ∙ b.way_kind) ∙
      ap (λ y. jumped_zero code (with_some (number_in y) (λ x. with_right NotEqual x (decided NotEqual x) (Some (pos (name_of m xs))))) (first_label m xs) a s.frames w) way ∙
      ap (λ c. if is_zero (truth (not c)) then at (compiled s.func) (code.label_at s.func (first_label m xs)) f s.frames w else at (compiled s.func) (p + 1) f s.frames w)
      (other z (name_of m xs) ne)

  -- tests for other names lead behind them
  pub ways_pass : (em : Emitting) (xs : List Exit) (s : Site) (z : ℕ) (f : Frame) (w : World) (t : ℕ) → SlotsBehind code s.func n em
      → f.slots em.way ≡ number_word (pos z) → (outs : List ℕ) (p : ℕ) → ((m : ℕ) → contains outs m ≡ true → z ≡ name_of m xs → ⊥)
      → HasAt code s.func p (way_tests em xs outs)
      → Paced code most (here s p f w) t (goes_to (here s (p + length outs) f w)) t (length outs)
  ways_pass em xs s z f w t b way [] p ne has =
      subst (λ q. Paced code most (here s p f w) t (goes_to (here s q f w)) t 0) (omega arith) (Running.reaches_now code most n (here s p f w) t)
  ways_pass em xs s z f w t b way (m ∷ outs) p ne has =
      let first = pass_step em xs s p m z f w b way (ne m (ap (λ c. c || contains outs m) (itself m))) has.0 in
      let quiet = Running.test_quiet code most n s p (binary NotEqual (load (way_place em)) (number (pos (name_of m xs)))) (first_label m xs) f w has.0 in
      let rest = ways_pass em xs s z f w t b way outs (p + 1) (λ k h. ne k (has_right (m ∷ []) outs k h)) has.3 in
      let e : p + 1 + length outs ≡ p + length (m ∷ outs) = omega arith in
      Running.slower code most n (length (m ∷ outs)) (omega arith) (Running.reaches_on code most n (Running.free_step code most n t first quiet)
      (subst (λ q. Paced code most (here s (p + 1) f w) t (goes_to (here s q f w)) t (length outs)) e rest))
