-- What steps spend adds up, and the first of them is among them.
use Rattle.std.proofs.Common.{◌≡◌, ℕ, zero, suc, ◌+◌, ◌*◌, ◌≤◌, ◌<◌, Bool, true, false, ◌∷◌, Some, sym, ap, ◌∙◌, arith}
use Rattle.std.specs.Prelude.{nat_lt}
use Rattle.std.proofs.lemmas.Bool.Decides.{nat_tests}
use Rattle.linear_forms.specs.Linear.{LinearOp}
use Rattle.linear_forms.specs.Stub.{compiled, CodeOp, linear}
use Rattle.linear_forms.specs.Activation.{Code, State, Next, goes_to, finishes, fetch, counts, depth_of}
use Rattle.linear_forms.specs.Machine.{step}
use Rattle.linear_forms.specs.Pace.{Leads, LeadsOn}
use Rattle.cost_turns.specs.Weights.{is_own, weight_of}
use Rattle.cost_turns.specs.Turns.{flag, calls, begins_terminate, turned}
use Rattle.cost_turns.specs.Runs.{after, entered, weighed, turns}
use Rattle.cost_words.specs.Spends.{op_weight, spends}

same_state : (m n : State) → goes_to m ≡ goes_to n → m ≡ n
same_state m n e = cc e

none_before : (b : ℕ) → 0 + b ≡ b
none_before b = omega arith

one_before : (a b : ℕ) → suc a + b ≡ suc (a + b)
one_before a b = omega arith

module _ (code : Code) where
  weighed_both : (weigh : Bool → CodeOp → ℕ) (a b : ℕ) (st mid : State) → Leads code a st (goes_to mid) → weighed code weigh (a + b) st ≡ weighed code weigh a st + weighed code weigh b mid
  weighed_both weigh zero b st mid h =
      let same : weighed code weigh b st ≡ weighed code weigh b mid = ap (weighed code weigh b) (sym (same_state mid st h)) in
      let none : weighed code weigh (0 + b) st ≡ weighed code weigh b st = ap (λ n. weighed code weigh n st) (none_before b) in
      omega (arith, same, none)
  weighed_both weigh (suc a) b st mid h =
      ap (λ n. weighed code weigh n st) (one_before a b)
      ∙ go (weight_of (weigh (is_own st.top.function)) (fetch code st.top.function st.top.place)) (λ s i. weighed_both weigh a b s mid i) (step code st) h
    where
      go : (here : ℕ) → ((s : State) → Leads code a s (goes_to mid) → weighed code weigh (a + b) s ≡ weighed code weigh a s + weighed code weigh b mid) → (y : Next)
          → LeadsOn a (λ s. Leads code a s (goes_to mid)) (goes_to mid) y
          → here + after (entered code weigh st) (weighed code weigh (a + b)) y ≡ (here + after (entered code weigh st) (weighed code weigh a) y) + weighed code weigh b mid
      go here rest (goes_to s) h = let more = rest s h in omega (arith, more)
      go here rest (finishes e w) h = let never = h.1 in absurd (cc never)

  turns_both : (a b : ℕ) (st mid : State) → Leads code a st (goes_to mid) → turns code (a + b) st ≡ turns code a st + turns code b mid
  turns_both zero b st mid h =
      let same : turns code b st ≡ turns code b mid = ap (turns code b) (sym (same_state mid st h)) in
      let none : turns code (0 + b) st ≡ turns code b st = ap (λ n. turns code n st) (none_before b) in
      omega (arith, same, none)
  turns_both (suc a) b st mid h = ap (λ n. turns code n st) (one_before a b) ∙ go (λ s i. turns_both a b s mid i) (step code st) h
    where
      go : ((s : State) → Leads code a s (goes_to mid) → turns code (a + b) s ≡ turns code a s + turns code b mid) → (y : Next) → LeadsOn a (λ s. Leads code a s (goes_to mid)) (goes_to mid) y
          → after (turned code st) (turns code (a + b)) y ≡ after (turned code st) (turns code a) y + turns code b mid
      go rest (goes_to s) h = let more = rest s h in omega (arith, more)
      go rest (finishes e w) h = let never = h.1 in absurd (cc never)

  -- steps, then others from where they lead
  pub spends_both : (a b : ℕ) (st mid : State) → Leads code a st (goes_to mid) → spends code (a + b) st ≡ spends code a st + spends code b mid
  spends_both a b st mid h = omega (arith, weighed_both op_weight a b st mid h, turns_both a b st mid h)

  -- the first step, then others
  pub first_spends : (n : ℕ) (st : State) → spends code 1 st ≤ spends code (suc n) st
  first_spends n st = by (step code st)
    where
      by : (y : Next) → weight_of (op_weight (is_own st.top.function)) (fetch code st.top.function st.top.place) + after (entered code op_weight st) (weighed code op_weight 0) y
          + 64 * after (turned code st) (turns code 0) y
          ≤ weight_of (op_weight (is_own st.top.function)) (fetch code st.top.function st.top.place) + after (entered code op_weight st) (weighed code op_weight n) y + 64 * after (turned code st) (turns code n) y
      by (goes_to m) = omega arith
      by (finishes e w) = omega arith

  -- the first of some steps is among them
  pub first_among : (steps : ℕ) (st : State) → 0 < steps → spends code 1 st ≤ spends code steps st
  first_among zero st some = absurd (omega (arith, some))
  first_among (suc n) st some = first_spends n st

  -- the first step spends at least what its operation weighs
  pub weight_spends : (st : State) (n : ℕ) → n ≤ weight_of (op_weight (is_own st.top.function)) (fetch code st.top.function st.top.place) → n ≤ spends code 1 st
  weight_spends st n le = by (step code st)
    where
      by : (y : Next) → n ≤ weight_of (op_weight (is_own st.top.function)) (fetch code st.top.function st.top.place) + after (entered code op_weight st) (weighed code op_weight 0) y
          + 64 * after (turned code st) (turns code 0) y
      by (goes_to m) = omega (arith, le)
      by (finishes e w) = omega (arith, le)

  -- and 64 more where it calls a compiled function, and where terminate begins
  pub turn_spends : (st next : State) (n : ℕ) → step code st ≡ goes_to next → n ≤ weight_of (op_weight (is_own st.top.function)) (fetch code st.top.function st.top.place) + 64 → 1 ≤ turned code st next
      → n ≤ spends code 1 st
  turn_spends st next n e le turn =
      let many : turns code 1 st ≡ turned code st next + 0 = ap (after (turned code st) (turns code 0)) e in
      let weights : weighed code op_weight 1 st ≡ weight_of (op_weight (is_own st.top.function)) (fetch code st.top.function st.top.place) + (entered code op_weight st next + 0) =
      ap (λ y. weight_of (op_weight (is_own st.top.function)) (fetch code st.top.function st.top.place) + after (entered code op_weight st) (weighed code op_weight 0) y) e in
      omega (arith, many, weights, le, turn)

  -- so the last of some steps pays that beside what the first of them pays
  pub last_turn_spends : (steps : ℕ) (st last next : State) → 0 < steps → Leads code steps st (goes_to last) → step code last ≡ goes_to next → 1 ≤ turned code last next → spends code 1 st + 64 ≤ spends code (steps + 1) st
  last_turn_spends steps st last next some leads e turn =
      let both = spends_both steps 1 st last leads in
      let first = first_among steps st some in
      let more = turn_spends last next 64 e (omega arith) turn in
      omega (arith, both, first, more)

  -- and what the landing pad weighs that it enters
  pub pad_spends : (st next : State) (n : ℕ) → step code st ≡ goes_to next → n ≤ weight_of (op_weight (is_own st.top.function)) (fetch code st.top.function st.top.place) + entered code op_weight st next
      → n ≤ spends code 1 st
  pad_spends st next n e le =
      let weights : weighed code op_weight 1 st ≡ weight_of (op_weight (is_own st.top.function)) (fetch code st.top.function st.top.place) + (entered code op_weight st next + 0) =
      ap (λ y. weight_of (op_weight (is_own st.top.function)) (fetch code st.top.function st.top.place) + after (entered code op_weight st) (weighed code op_weight 0) y) e in
      omega (arith, weights, le)

  -- a call of a compiled function is a turn
  pub call_turns : (st next : State) (n : ℕ) → next.top.function ≡ compiled n → next.frames ≡ st.top ∷ st.frames → 1 ≤ turned code st next
  call_turns st next n runs frames =
      let one : counts next.top.function ≡ 1 = ap counts runs in
      let others : depth_of next.frames ≡ depth_of (st.top ∷ st.frames) = ap depth_of frames in
      let more : calls st next ≡ true = deeper (depth_of (st.top ∷ st.frames)) (depth_of (next.top ∷ next.frames)) (omega (arith, one, others)) in
      let turn = ap flag more in
      omega (arith, turn)
    where
      deeper : (a b : ℕ) → a < b → nat_lt a b ≡ true
      deeper a b lt = grind (arith, nat_tests, lt)

  -- so is where terminate begins
  pub terminate_turns : (st next : State) → begins_terminate next ≡ true → 1 ≤ turned code st next
  terminate_turns st next begins = let turn = ap flag begins in omega (arith, turn)

  -- what is known of the operation at which a state stands: of a compiled function
  module _ (st : State) (n : ℕ) (o : LinearOp) (runs : st.top.function ≡ compiled n) (there : fetch code st.top.function st.top.place ≡ Some (linear o)) where
    weighs : weight_of (op_weight (is_own st.top.function)) (fetch code st.top.function st.top.place) ≡ op_weight false (linear o)
    weighs = ap (λ y. weight_of (op_weight (is_own st.top.function)) y) there ∙ ap (λ f. op_weight (is_own f) (linear o)) runs

    pub op_spends : (k : ℕ) → k ≤ op_weight false (linear o) → k ≤ spends code 1 st
    op_spends k le = weight_spends st k (omega (arith, le, weighs))

    pub op_turn_spends : (next : State) (k : ℕ) → step code st ≡ goes_to next → k ≤ op_weight false (linear o) + 64 → 1 ≤ turned code st next → k ≤ spends code 1 st
    op_turn_spends next k e le turn = turn_spends st next k e (omega (arith, le, weighs)) turn

    pub op_pad_spends : (next : State) (k : ℕ) → step code st ≡ goes_to next → k ≤ op_weight false (linear o) + entered code op_weight st next → k ≤ spends code 1 st
    op_pad_spends next k e le = pad_spends st next k e (omega (arith, le, weighs))

  -- or of one of the runtime's own
  pub own_spends : (st : State) (o : CodeOp) (k : ℕ) → is_own st.top.function ≡ true → fetch code st.top.function st.top.place ≡ Some o → k ≤ op_weight true o → k ≤ spends code 1 st
  own_spends st o k own there le =
      let weighs : weight_of (op_weight (is_own st.top.function)) (fetch code st.top.function st.top.place) ≡ op_weight true o =
      ap (λ y. weight_of (op_weight (is_own st.top.function)) y) there ∙ ap (λ b. op_weight b o) own in
      weight_spends st k (omega (arith, le, weighs))
