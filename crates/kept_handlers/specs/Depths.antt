-- How many handlers a call has open at each place of its function.
use Rattle.std.specs.Prelude.{◌≡◌, ℕ, ◌+◌, ◌≤◌, nat_le, ℤ, true, Some, List, if◌then◌else◌}
use Rattle.region_forms.specs.Form.{enter, leave}
use Rattle.linear_forms.specs.Linear.{LinearOp, plain}
use Rattle.linear_forms.specs.Tables.{padded}
use Rattle.linear_forms.specs.Stub.{Function, compiled, end_catch, terminating, call_unexpected, linear}
use Rattle.linear_forms.specs.Activation.{Code, fetch}
use Rattle.cost_paths.specs.Control.{goes_on, label_of}

-- at the places of compiled functions
abbrev pub Depths : Type 0
Depths = (n place : ℕ) → ℕ

-- end_catch leaves one by its first operation
abbrev pub leaving_depth : ℕ → ℕ
leaving_depth p = if nat_le 1 p then 0 else 1

-- call_unexpected opens one by its first operation, another behind its pad, and leaves both by its last operations but one
abbrev pub unexpected_depth : ℕ → ℕ
unexpected_depth p = if nat_le 17 p then 0 else if nat_le 16 p then 1 else if nat_le 6 p then 2 else if nat_le 1 p then 1 else 0

abbrev pub depth_at : Depths → Function → ℕ → ℕ
depth_at d (compiled n) p = d n p
depth_at d end_catch p = leaving_depth p
depth_at d terminating p = 0
depth_at d call_unexpected p = unexpected_depth p

-- what an operation opens, and what it leaves
abbrev pub opens : LinearOp → ℕ
opens (plain (enter s)) = 1
opens o = 0

abbrev pub leaves : LinearOp → ℕ
leaves (plain leave) = 1
leaves o = 0

-- Control goes on with no more handlers than there are: to the next operation, to the label of a jump, and behind a pad, where what is left was left.
pub record CodeOpens (code : Code) (d : Depths) : Type 0 where
  pub first : (n : ℕ) → d n 0 ≡ 0
  pub next : (n p : ℕ) (o : LinearOp) → fetch code (compiled n) p ≡ Some (linear o) → goes_on o ≡ true → d n (p + 1) + leaves o ≤ d n p + opens o
  pub jump : (n p l : ℕ) (o : LinearOp) → fetch code (compiled n) p ≡ Some (linear o) → label_of o ≡ Some l → d n (code.label_at n l) ≤ d n p
  pub behind : (n p pad : ℕ) (chain : List ℤ) (o : LinearOp) → fetch code (compiled n) p ≡ Some (linear o) → code.cover_at n p ≡ padded pad chain → d n (pad + 1) + leaves o ≤ d n p
