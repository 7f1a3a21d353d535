-- Where the frames of open calls end, and so the targets that headers have, as calls begin and end.
use Rattle.std.proofs.Common.{◌≡◌, ◌∙◌, refl, sym, ap, arith, ℕ, ◌-◌, ◌≤◌, ◌<◌, false, List, [], ◌∷◌, length, Some, if◌then◌else◌}
use Rattle.std.specs.Prelude.{◌==◌}
use Rattle.std.proofs.lemmas.Bool.Decides.{nat_tests}
use Rattle.linear_forms.specs.Activation.{Activation}
use Rattle.machine_simulation.specs.Plan.{Plan}
use Rattle.machine_simulation.specs.Calls.{stack_end, frames_bytes, open_bytes}
use Rattle.machine_raises.specs.Targets.{target_call}
use Rattle.step_law.specs.Standing.{call_end}

-- The open calls that are there before and after have their frames' ends where they were, and they are calls of the same functions.
pub record CallsAlign (q r : Plan) (fs gs : List Activation) : Type 0 where
  pub targets : (d : ℕ) → d < length fs → d < length gs → call_end r d gs ≡ call_end q d fs
  pub calls : (d : ℕ) → d < length fs → d < length gs → target_call d gs ≡ target_call d fs

-- what a plan says of frames does not change with what is live
pub record SameFrames (q r : Plan) : Type 0 where
  pub unit : r.unit ≡ q.unit
  pub hidden : r.hidden ≡ q.hidden

module _ (q r : Plan) (same : SameFrames q r) where
  pub same_bytes : (fs : List Activation) → open_bytes r fs ≡ open_bytes q fs
  same_bytes fs = ap (λ u. frames_bytes u r.hidden fs) same.unit ∙ ap (λ n. frames_bytes q.unit n fs) same.hidden

  same_ends : (d : ℕ) (fs : List Activation) → call_end r d fs ≡ call_end q d fs
  same_ends d [] = refl
  same_ends d (a ∷ fs) = ap (λ n. if length fs == d then stack_end - n else call_end r d fs) (same_bytes fs) ∙ ap (λ n. if length fs == d then stack_end - open_bytes q fs else n) (same_ends d fs)

  -- in the same call
  pub align_same : (a b : Activation) (fs : List Activation) → b.function ≡ a.function → CallsAlign q r (a ∷ fs) (b ∷ fs)
  align_same a b fs is = record {
    targets = λ d less also. same_ends d (a ∷ fs);
    calls = λ d less also. ap (λ f. if length fs == d then Some f else target_call d fs) is;
  }

  -- a call begins
  other : (d : ℕ) (fs : List Activation) → d < length fs → (length fs == d) ≡ false
  other d fs less = grind (arith, nat_tests, less)

  pub align_push : (b : Activation) (fs : List Activation) → CallsAlign q r fs (b ∷ fs)
  align_push b fs = record {
    targets = λ d less also. ap (λ c. if c then stack_end - open_bytes r fs else call_end r d fs) (other d fs less) ∙ same_ends d fs;
    calls = λ d less also. ap (λ c. if c then Some b.function else target_call d fs) (other d fs less);
  }

  -- a call is over
  pub align_pop : (b : Activation) (fs : List Activation) → CallsAlign q r (b ∷ fs) fs
  align_pop b fs = record {
    targets = λ d less also. same_ends d fs ∙ sym (ap (λ c. if c then stack_end - open_bytes q fs else call_end q d fs) (other d fs also));
    calls = λ d less also. sym (ap (λ c. if c then Some b.function else target_call d fs) (other d fs also));
  }

pub itself : (q : Plan) → SameFrames q q
itself q = record { unit = refl; hidden = refl }

-- two calls begin, one in the other
pub align_push_two : (q r : Plan) → SameFrames q r → (b a : Activation) (fs : List Activation) → CallsAlign q r fs (b ∷ a ∷ fs)
align_push_two q r same b a fs =
    let first = align_push q q (itself q) a fs in
    let second = align_push q r same b (a ∷ fs) in
    record {
      targets = λ d less also. second.targets d (omega (arith, less)) also ∙ first.targets d less (omega (arith, less));
      calls = λ d less also. second.calls d (omega (arith, less)) also ∙ first.calls d less (omega (arith, less));
    }

-- where the first calls are no fewer than those between
pub align_then : (q r s : Plan) (fs gs hs : List Activation) → length hs ≤ length gs → CallsAlign q r fs gs → CallsAlign r s gs hs → CallsAlign q s fs hs
align_then q r s fs gs hs more a b = record {
  targets = λ d less also. b.targets d (omega (arith, also, more)) also ∙ a.targets d less (omega (arith, also, more));
  calls = λ d less also. b.calls d (omega (arith, also, more)) also ∙ a.calls d less (omega (arith, also, more));
}

-- a call is over, and the one below it goes on
pub align_return : (q r : Plan) → SameFrames q r → (b a c : Activation) (fs : List Activation) → c.function ≡ a.function → CallsAlign q r (b ∷ (a ∷ fs)) (c ∷ fs)
align_return q r same b a c fs is = align_then q q r (b ∷ (a ∷ fs)) (a ∷ fs) (c ∷ fs) (omega arith) (align_pop q q (itself q) b (a ∷ fs)) (align_same q r same a c fs is)
