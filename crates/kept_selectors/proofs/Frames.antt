-- What open calls have in the slots for numbers moves with control.
use Rattle.std.proofs.Common.{◌≡◌, ◌⊎◌, inl, inr, ℕ, ◌+◌, ℤ, pos, negsuc, Bool, true, false, ◌==◌, ◌||◌, Some, refl, sym, ap, ◌∙◌, subst, if◌then◌else◌, arith}
use Rattle.std.proofs.lemmas.Bool.Decides.{nat_tests}
use Rattle.meaning_forms.specs.Arithmetic.{int_equal}
use Rattle.region_forms.specs.World.{Word, number_word, with_slot, Frame}
use Rattle.linear_forms.specs.Linear.{LinearOp, label, pad, jump_filter, resume, unexpected}
use Rattle.linear_forms.specs.Stub.{compiled}
use Rattle.linear_forms.specs.Activation.{Code}
use Rattle.cost_paths.specs.Control.{goes_on, label_of}
use Rattle.flight_homes.specs.Homes.{is_one_of}
use Rattle.flight_homes.specs.Keeps.{Carrying}
use Rattle.linear_invariant.specs.Code.{StepsTo, carries_on, CodeCarries}
use Rattle.kept_selectors.specs.Stopping.{IsList, Stopping, GoesBehind, GoesToHandler, CodeStops}
use Rattle.kept_selectors.specs.Selectors.{IsChained, IsLeft, FrameNamed}

-- an operation that begins a landing pad
abbrev pub is_pad : LinearOp → Bool
is_pad (pad o s) = true
is_pad o = false

-- a number is the same as itself
same_number : (z : ℤ) → int_equal z z ≡ true
same_number (pos n) = grind (arith, nat_tests)
same_number (negsuc n) = grind (arith, nat_tests)

-- the second slot of a pad behind it
second_slot : (o s : ℕ) (word number : Word) (x : Frame) → (with_slot s number (with_slot o word x)).slots s ≡ number
second_slot o s word number x =
    let self : (s == s) ≡ true = grind (arith, nat_tests) in ap (λ b. if b then number else (with_slot o word x).slots s) self

module _ (code : Code) (k : Carrying) (c : CodeCarries code k) (t : CodeStops code) where
  -- control comes to a place at which a call carries from another
  pub carried_here : (n p : ℕ) (o : LinearOp) → code.op_at n p ≡ Some o → is_pad o ≡ false → (q : ℕ) → StepsTo code n p o q → k.carries n q ≡ true → k.carries n p ≡ true
  carried_here n p o there other q s e = go (c.comes n p q o there s e)
    where
      go : (k.carries n p ≡ true) ⊎ (o ≡ pad (k.object n) (k.selector n)) → k.carries n p ≡ true
      go (inl h) = h
      go (inr h) = let never : true ≡ false = sym (ap is_pad h) ∙ other in absurd (cc never)

  -- no operation but the label falls into what passes on, and none into its label
  module _ (n p : ℕ) (o : LinearOp) (there : code.op_at n p ≡ Some o) where
    -- what stands at another name of the place
    there_as : (q : ℕ) (y : LinearOp) → p ≡ q → code.op_at n q ≡ Some y → o ≡ y
    there_as q y e h = let both : Some o ≡ Some y = sym there ∙ (ap (code.op_at n) e ∙ h) in cc both

    falls : (z : ℤ) → k.carries n p ≡ true → (Stopping code n p → IsLeft k n p z) → goes_on o ≡ true → Stopping code n (p + 1) → IsLeft k n (p + 1) z
    falls z carries h on (inl s) =
        let st = t.stops n (p + 1) s.0 s.1 s.2 in
        let here : p ≡ st.test + 2 = omega (arith, st.place) in
        let is : o ≡ label st.name = there_as (st.test + 2) (label st.name) here st.begins in
        let own = h (inr (st.name, s.0, s.1, ap (code.op_at n) here ∙ st.begins, s.2)) in
        (own.0, ap (is_one_of z) (c.others n p o there carries on (λ a b y i. let both : label st.name ≡ jump_filter a y b = sym is ∙ i in cc both)) ∙ own.1)
    falls z carries h on (inr s) =
        let st = t.stops n (p + 1 + 1) s.1 s.2 s.4 in
        let here : p ≡ st.test + 1 = omega (arith, st.place) in
        let is : o ≡ resume st.object = there_as (st.test + 1) (resume st.object) here st.lets in
        let never : false ≡ true = sym (ap goes_on is) ∙ on in
        absurd (cc never)

  -- a test goes there with the number of a list
  module _ (n p s l : ℕ) (z : ℤ) (there : code.op_at n p ≡ Some (jump_filter s z l)) where
    behind : GoesBehind code n p l → Stopping code n (code.label_at n l) → IsList z
    behind g (inl i) =
        let both : Some (label l) ≡ Some (unexpected i.0 i.1) = sym g.begins ∙ (ap (code.op_at n) (sym g.place) ∙ i.2) in absurd (cc both)
    behind g (inr i) =
        let u : code.label_at n l + 1 ≡ p + 3 = omega (arith, g.place) in
        let st = t.stops n (p + 3) i.1 i.2 (ap (code.op_at n) (sym u) ∙ i.4) in
        let here : p ≡ st.test = omega (arith, st.place) in
        let both : Some (jump_filter s z l) ≡ Some (jump_filter st.slot (negsuc st.list) st.goal) = sym there ∙ (ap (code.op_at n) here ∙ st.tests) in
        (st.list, cc both)

    handled : GoesToHandler code n l → k.carries n (code.label_at n l) ≡ true → {X : Type 0} → X
    handled g carries =
        let next = c.on n (code.label_at n l) (label l) g.begins carries refl in
        let never : false ≡ true = c.form n (code.label_at n l + 1) _ g.binds next in
        absurd (cc never)

    taken : k.carries n (code.label_at n l) ≡ true → Stopping code n (code.label_at n l) → IsList z
    taken carries i = go (t.tests n p s l z there)
      where
        go : GoesBehind code n p l ⊎ GoesToHandler code n l → IsList z
        go (inl g) = behind g i
        go (inr g) = handled g carries

  -- control goes on to the next place
  pub goes_next : (n p : ℕ) (o : LinearOp) (x : Frame) → code.op_at n p ≡ Some o → is_pad o ≡ false → goes_on o ≡ true → FrameNamed code k (compiled n) p x → FrameNamed code k (compiled n) (p + 1) x
  goes_next n p o x there other on h carries =
      let own = h (carried_here n p o there other (p + 1) (inl (on, refl)) carries) in
      record { number = own.number; is = own.is; named = own.named; stopped = λ s. falls n p o there own.number (carried_here n p o there other (p + 1) (inl (on, refl)) carries) own.stopped on s }

  -- a test is taken with its number
  pub goes_tested : (n p s l : ℕ) (z : ℤ) (x : Frame) → code.op_at n p ≡ Some (jump_filter s z l) → ((y : ℤ) → x.slots (k.selector n) ≡ number_word y → y ≡ z) → FrameNamed code k (compiled n) p x → FrameNamed code k (compiled n) (code.label_at n l) x
  goes_tested n p s l z x there same h carries =
      let own = h (carried_here n p (jump_filter s z l) there refl (code.label_at n l) (inr (l, refl, refl)) carries) in
      let is = same own.number own.is in
      record {
        number = own.number;
        is = own.is;
        named = own.named;
        stopped = λ i.
            subst (IsLeft k n (code.label_at n l)) (sym is)
            (taken n p s l z there carries i, ap (is_one_of z) (c.taken n p s l z there (carried_here n p (jump_filter s z l) there refl (code.label_at n l) (inr (l, refl, refl)) carries) carries) ∙ ap (λ b. b || false) (same_number z));
      }

  -- no other jump goes to a place at which a call carries
  pub goes_off : (n p l : ℕ) (o : LinearOp) (x : Frame) → code.op_at n p ≡ Some o → is_pad o ≡ false → label_of o ≡ Some l → carries_on o ≡ false → FrameNamed code k (compiled n) (code.label_at n l) x
  goes_off n p l o x there other is none carries =
      let here = carried_here n p o there other (code.label_at n l) (inr (l, is, refl)) carries in
      let never : false ≡ true = sym none ∙ c.form n p o there here in
      absurd (cc never)

  -- a pad gives a number
  pub lands : (n q o s : ℕ) (word : Word) (z : ℤ) (x : Frame) → code.op_at n q ≡ Some (pad o s) → (z ≡ pos 0) ⊎ IsChained code n z → FrameNamed code k (compiled n) (q + 1) (with_slot s (number_word z) (with_slot o word x))
  lands n q o s word z x there named carries = record {
    number = z;
    is = ap (with_slot s (number_word z) (with_slot o word x)).slots (sym (c.pads n q o s there).1) ∙ second_slot o s word (number_word z) x;
    named = named;
    stopped = no;
  }
    where
      no : Stopping code n (q + 1) → IsLeft k n (q + 1) z
      no (inl i) =
          let st = t.stops n (q + 1) i.0 i.1 i.2 in
          let here : q ≡ st.test + 2 = omega (arith, st.place) in
          let is : pad o s ≡ label st.name = there_as n q (pad o s) there (st.test + 2) (label st.name) here st.begins in
          absurd (cc is)
      no (inr i) =
          let st = t.stops n (q + 1 + 1) i.1 i.2 i.4 in
          let here : q ≡ st.test + 1 = omega (arith, st.place) in
          let is : pad o s ≡ resume st.object = there_as n q (pad o s) there (st.test + 1) (resume st.object) here st.lets in
          absurd (cc is)
