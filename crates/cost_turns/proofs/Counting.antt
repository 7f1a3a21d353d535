-- Each call and each loop that turns back is a step that counts.
use Rattle.std.proofs.Common.{◌≡◌, ℕ, zero, suc, ◌+◌, ◌≤◌, ◌⊎◌, inl, inr, Bool, true, false, ◌∷◌, Option, Some, None, refl, sym, ap, ◌∙◌, subst, arith}
use Rattle.std.specs.Prelude.{nat_lt}
use Rattle.std.proofs.lemmas.Bool.Decides.{nat_tests}
use Rattle.linear_forms.specs.Linear.{plain, label, jump, jump_zero, pad, jump_filter, free, resume, unexpected, return}
use Rattle.linear_forms.specs.Stub.{Function, CodeOp, linear, runtime, leave_newest, destroy_held, call_held, begin_unexpected, check_unexpected, construct_bad, terminate_for, abort}
use Rattle.linear_forms.specs.Activation.{Code, State, Next, goes_to, finishes, fetch, depth_of}
use Rattle.linear_forms.specs.Machine.{step}
use Rattle.linear_forms.specs.Counted.{counts_op, counts_at, Within}
use Rattle.linear_forms.specs.Pace.{one_if, tally}
use Rattle.linear_forms.specs.Pace.{after as after_step, counted as counted_steps}
use Rattle.linear_forms.proofs.Deepening.{only_calls_deepen}
use Rattle.cost_turns.specs.Turns.{flag, calls, back_from, jumps_back}
use Rattle.cost_turns.specs.Runs.{after}
use Rattle.cost_turns.specs.Once.{counted}
use Rattle.cost_turns.specs.Counting.{AllAreCounted}

-- an operation is a jump, or turns nothing back
abbrev MayJump : Code → Function → ℕ → Option CodeOp → Type 0
MayJump code f p o = ((l : ℕ) × (o ≡ Some (linear (jump l)))) ⊎ (back_from code f p o ≡ false)

may_jump : (code : Code) (f : Function) (p : ℕ) (o : Option CodeOp) → MayJump code f p o
may_jump code f p None = inr refl
may_jump code f p (Some (linear (plain o))) = inr refl
may_jump code f p (Some (linear (label l))) = inr refl
may_jump code f p (Some (linear (jump l))) = inl (l, refl)
may_jump code f p (Some (linear (jump_zero v l))) = inr refl
may_jump code f p (Some (linear (pad o s))) = inr refl
may_jump code f p (Some (linear (jump_filter s n l))) = inr refl
may_jump code f p (Some (linear (free s))) = inr refl
may_jump code f p (Some (linear (resume s))) = inr refl
may_jump code f p (Some (linear (unexpected o s))) = inr refl
may_jump code f p (Some (linear (return r))) = inr refl
may_jump code f p (Some (runtime (leave_newest o d l))) = inr refl
may_jump code f p (Some (runtime (destroy_held d o))) = inr refl
may_jump code f p (Some (runtime (call_held h))) = inr refl
may_jump code f p (Some (runtime (begin_unexpected o h))) = inr refl
may_jump code f p (Some (runtime (check_unexpected s g o a))) = inr refl
may_jump code f p (Some (runtime construct_bad)) = inr refl
may_jump code f p (Some (runtime (terminate_for o))) = inr refl
may_jump code f p (Some (runtime abort)) = inr refl

none_deeper : (m n : ℕ) → n ≤ m → flag (nat_lt m n) ≡ 0
none_deeper m n le = ap flag (low m n le)
  where
    low : (m n : ℕ) → n ≤ m → nat_lt m n ≡ false
    low m n le = grind (arith, nat_tests, le)

same_flag : (b : Bool) → flag b ≡ one_if b
same_flag true = refl
same_flag false = refl

flag_at_most : (b : Bool) → flag b ≤ 1
flag_at_most true = omega arith
flag_at_most false = omega arith

module _ (code : Code) (st : State) where
  -- what is counted of the step to a state
  step_counted : (next : State) → step code st ≡ goes_to next → flag (calls st next) + flag (jumps_back code st) ≤ one_if (counts_at code st)
  step_counted next e = go (may_jump code st.top.function st.top.place (fetch code st.top.function st.top.place))
    where
      depth : ℕ
      depth = depth_of (st.top ∷ st.frames)

      inside : Within depth (step code st) → flag (calls st next) ≡ 0
      inside h = none_deeper depth (depth_of (next.top ∷ next.frames)) (subst (λ x. Within depth x) e h)

      quiet : (b : Bool) → counts_at code st ≡ b → flag (calls st next) ≤ one_if b
      quiet true q = flag_at_most (calls st next)
      quiet false q = let none = inside (only_calls_deepen.quiet code st q) in omega (arith, none)

      go : MayJump code st.top.function st.top.place (fetch code st.top.function st.top.place) → flag (calls st next) + flag (jumps_back code st) ≤ one_if (counts_at code st)
      go (inl (l, is)) =
          let none = inside (only_calls_deepen.jumps code st l is) in
          let same : jumps_back code st ≡ counts_at code st =
          ap (back_from code st.top.function st.top.place) is ∙ sym (ap (λ o. counts_op code o st) is) in
          let flags = ap flag same ∙ same_flag (counts_at code st) in
          omega (arith, none, flags)
      go (inr none) =
          let low = quiet (counts_at code st) refl in
          let flags : flag (jumps_back code st) ≡ 0 = ap flag none in
          omega (arith, low, flags)

pub all_are_counted : AllAreCounted
all_are_counted code zero st = omega arith
all_are_counted code (suc n) st = go (step code st) (λ next e. step_counted code st next e) (λ next. all_are_counted code n next)
  where
    go : (x : Next) → ((next : State) → x ≡ goes_to next → flag (calls st next) + flag (jumps_back code st) ≤ one_if (counts_at code st))
        → ((next : State) → counted code n next ≤ counted_steps code n next)
        → after (λ next. flag (calls st next) + flag (jumps_back code st)) (counted code n) x ≤ one_if (counts_at code st) + after_step (tally (counts_at code) code n) x
    go (goes_to next) here rest = let one = here next refl in let more = rest next in omega (arith, one, more)
    go (finishes e w) here rest = omega arith
