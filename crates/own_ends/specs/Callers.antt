-- Who called one of the runtime's own functions.
use Rattle.std.specs.Prelude.{◌≡◌, ◌⊎◌, ℕ, List, ◌∷◌}
use Rattle.linear_forms.specs.Stub.{compiled, call_unexpected}
use Rattle.linear_forms.specs.Activation.{Activation}

-- The newest call that waits is of a compiled function. So it is where call_unexpected runs, which nothing else calls.
pub record CalledBy (fs : List Activation) : Type 0 where
  pub number : ℕ
  pub caller : Activation
  pub others : List Activation
  pub frames : fs ≡ caller ∷ others
  pub is : caller.function ≡ compiled number

-- or it is of call_unexpected, which a compiled function called: end_catch is called by either
pub record CalledByUnexpected (fs : List Activation) : Type 0 where
  pub unexpected : Activation
  pub others : List Activation
  pub frames : fs ≡ unexpected ∷ others
  pub is : unexpected.function ≡ call_unexpected
  pub called : CalledBy others

abbrev pub CalledBelow : List Activation → Type 0
CalledBelow fs = CalledBy fs ⊎ CalledByUnexpected fs
