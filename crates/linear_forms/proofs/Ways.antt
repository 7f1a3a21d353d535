-- Behind a cleanup an exit goes on to where the slot says.
use Rattle.std.proofs.Common.{◌≡◌, ℕ, ◌+◌, ◌<◌, Bool, true, false, List, [], ◌∷◌, length, Some, refl, sym, ap, ◌∙◌, subst, arith, length-drop}
use Rattle.std.specs.Prelude.{pos, ◌==◌, ◌||◌, not, if◌then◌else◌}
use Rattle.std.proofs.lemmas.Bool.Decides.{nat_tests}
use Rattle.cxx_ast.specs.declared.expression.BinaryOp.TheVariants.{NotEqual}
use Rattle.meaning_forms.specs.Arithmetic.{is_zero, truth, int_equal, decided}
use Rattle.meaning_forms.specs.Class.{contains}
use Rattle.region_forms.specs.Form.{number, load, binary}
use Rattle.region_forms.specs.World.{number_word, number_in, Frame, World}
use Rattle.region_forms.specs.Evaluation.{slot_location, read_location, with_some, with_right}
use Rattle.linear_forms.specs.Linear.{jump_zero}
use Rattle.linear_forms.specs.Stub.{compiled}
use Rattle.linear_forms.specs.Activation.{Code, Activation, at}
use Rattle.linear_forms.specs.Operation.{jumped_zero}
use Rattle.linear_forms.specs.Machine.{step}
use Rattle.linear_forms.specs.Exits.{Exit, first_label, name_of}
use Rattle.linear_forms.specs.Emission.{Emitting, way_place, way_test, way_tests}
use Rattle.linear_forms.specs.Pace.{Paced}
use Rattle.linear_forms.specs.CodeRuns.{HasAt, Site, here, SlotsBehind}
use Rattle.linear_forms.proofs.Running

equal_same : (a : ℕ) → int_equal (pos a) (pos a) ≡ true
equal_same a = grind (arith, nat_tests)

equal_other : (a b : ℕ) → (a ≡ b → ⊥) → int_equal (pos a) (pos b) ≡ false
equal_other a b ne = grind (arith, nat_tests, ne)

is_same : (m k : ℕ) → (m == k) ≡ true → m ≡ k
is_same m k e = grind (arith, nat_tests)

not_same : (m k : ℕ) → (m == k) ≡ false → m ≡ k → ⊥
not_same m k e q = grind (arith, nat_tests)

names_differ : (xs : List Exit) (m k : ℕ) → k < length xs → (m ≡ k → ⊥) → name_of k xs ≡ name_of m xs → ⊥
names_differ xs m k lt ne e = ne (omega (arith, length-drop m xs, length-drop k xs, e, lt))

module _ (code : Code) (most n : ℕ) where
  -- one test
  test_step : (em : Emitting) (xs : List Exit) (s : Site) (p m z : ℕ) (f : Frame) (w : World) → SlotsBehind code s.func n em
      → f.slots em.way ≡ number_word (pos z) → code.op_at s.func p ≡ Some (way_test em xs m).op
      → step code (here s p f w) ≡ (if is_zero (truth (not (int_equal (pos z) (pos (name_of m xs)))))
      then at (compiled s.func) (code.label_at s.func (first_label m xs)) f s.frames w
      else at (compiled s.func) (p + 1) f s.frames w)
  test_step em xs s p m z f w b way e =
      let a : Activation = record { function = compiled s.func; place = p; frame = f } in
      Running.step_at code most n s p f w (jump_zero (binary NotEqual (load (way_place em)) (number (pos (name_of m xs)))) (first_label m xs)) e ∙
      ap (λ k. jumped_zero code (with_some (read_location f w (slot_location k f.call em.way 0)) (λ x. with_right NotEqual x (decided NotEqual x) (Some (pos (name_of m xs))))) (first_label m xs) a s.frames w)
      (ap (code.kinds_at s.func) b.way ∙ b.way_kind) ∙
      ap (λ y. jumped_zero code (with_some (number_in y) (λ x. with_right NotEqual x (decided NotEqual x) (Some (pos (name_of m xs))))) (first_label m xs) a s.frames w) way

  -- the tests behind a cleanup lead to where the exit goes first
  pub ways_reach : (em : Emitting) (xs : List Exit) (s : Site) (k : ℕ) (f : Frame) (w : World) (t : ℕ) → SlotsBehind code s.func n em → k < length xs
      → f.slots em.way ≡ number_word (pos (name_of k xs)) → (outs : List ℕ) (p : ℕ) → contains outs k ≡ true
      → HasAt code s.func p (way_tests em xs outs)
      → Paced code most (here s p f w) t (at (compiled s.func) (code.label_at s.func (first_label k xs)) f s.frames w) t (length outs)
  ways_reach em xs s k f w t b lt way [] p is has = absurd (cc is)
  ways_reach em xs s k f w t b lt way (m ∷ outs) p is has = go (m == k) refl is (ways_reach em xs s k f w t b lt way outs (p + 1))
    where
      go : (c : Bool) → (m == k) ≡ c → (c || contains outs k) ≡ true
          → (contains outs k ≡ true → HasAt code s.func (p + 1) (way_tests em xs outs)
          → Paced code most (here s (p + 1) f w) t (at (compiled s.func) (code.label_at s.func (first_label k xs)) f s.frames w) t (length outs))
          → Paced code most (here s p f w) t (at (compiled s.func) (code.label_at s.func (first_label k xs)) f s.frames w) t (length (m ∷ outs))
      go true e is rest =
          let quiet = Running.test_quiet code most n s p (binary NotEqual (load (way_place em)) (number (pos (name_of m xs)))) (first_label m xs) f w has.0 in
          let q = test_step em xs s p m (name_of k xs) f w b way has.0 ∙
          ap (λ c. if is_zero (truth (not c)) then at (compiled s.func) (code.label_at s.func (first_label m xs)) f s.frames w else at (compiled s.func) (p + 1) f s.frames w)
          (subst (λ j. int_equal (pos (name_of k xs)) (pos (name_of j xs)) ≡ true) (sym (is_same m k e)) (equal_same (name_of k xs))) ∙
          ap (λ j. at (compiled s.func) (code.label_at s.func (first_label j xs)) f s.frames w) (is_same m k e) in
          Running.slower code most n (length (m ∷ outs)) (omega arith) (Running.free_step code most n t q quiet)
      go false e is rest =
          let quiet = Running.test_quiet code most n s p (binary NotEqual (load (way_place em)) (number (pos (name_of m xs)))) (first_label m xs) f w has.0 in
          let q = test_step em xs s p m (name_of k xs) f w b way has.0 ∙
          ap (λ c. if is_zero (truth (not c)) then at (compiled s.func) (code.label_at s.func (first_label m xs)) f s.frames w else at (compiled s.func) (p + 1) f s.frames w)
          (equal_other (name_of k xs) (name_of m xs) (names_differ xs m k lt (not_same m k e))) in
          Running.slower code most n (length (m ∷ outs)) (omega arith) (Running.reaches_on code most n (Running.free_step code most n t q quiet) (rest is has.3))
