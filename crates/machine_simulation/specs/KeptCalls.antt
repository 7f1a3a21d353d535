-- What registers hold that calls keep: for the newest call the ints of its kept variables, and for each call that waits what they hold when it
-- goes on. What a call's registers held for its caller is in the slots of its kept variables.
use Rattle.std.specs.Prelude.{⊤, ◌≡◌, ℕ, ◌+◌, true, false, List, [], ◌∷◌, Some}
use Rattle.rv64_isa.specs.State.{Part}
use Rattle.region_forms.specs.World.{Base, of_variable, Frame, World}
use Rattle.linear_forms.specs.Stub.{Function, compiled, end_catch, terminating, call_unexpected}
use Rattle.linear_forms.specs.Activation.{Activation}
use Rattle.machine_forms.specs.KeptCode.{register_of}
use Rattle.machine_pieces.specs.Keeping.{KeptHolds, AreSmall}
use Rattle.machine_pieces.specs.Saving.{SavedIn, AreApartFrom}
use Rattle.machine_stubs.specs.Stretches.{frame_size}
use Rattle.machine_simulation.specs.Plan.{Plan, shape}

-- the slots of a function's kept variables
abbrev pub kept_of : Plan → ℕ → List ℕ
kept_of p n = (shape p n).kept

-- One open call of a compiled function: the ints of its kept variables are in `regs`, and what its registers held for the caller is in their slots,
-- which with the other registers is `before`. No address means bytes of a kept variable, and nothing that is live lies in its slot.
pub record KeptCall (p : Plan) (n : ℕ) (frame : Frame) (v : World) (memory : List Part) (stack : ℕ) (regs before : List ℕ) : Type 0 where
  pub keeps : KeptHolds (kept_of p n) frame v regs
  pub saves : SavedIn (shape p n) (kept_of p n) memory stack regs before
  pub dead : (s r : ℕ) → register_of (kept_of p n) s ≡ Some r → p.live (of_variable frame.call s) ≡ false
  pub alone : (b : Base) → p.live b ≡ true → AreApartFrom (shape p n) stack (p.at b) (p.size b) (kept_of p n)

-- One call that waits, and those that wait behind it. The runtime's own functions leave these registers; below terminate, which never comes back,
-- nothing is asked.
abbrev pub kept_behind : Plan → Function → Frame → World → List Part → (stack : ℕ) → (regs : List ℕ) → (others : ℕ → List ℕ → Type 0) → Type 0
kept_behind p (compiled n) frame v memory stack regs others =
    (before : List ℕ) × KeptCall p n frame v memory stack regs before × others (stack + (shape p n).size) before
kept_behind p end_catch frame v memory stack regs others = others (stack + frame_size end_catch) regs
kept_behind p terminating frame v memory stack regs others = ⊤
kept_behind p call_unexpected frame v memory stack regs others = others (stack + frame_size call_unexpected) regs

-- The calls that wait, innermost first, the first one's frame beginning at `stack`: what registers hold when each goes on.
abbrev pub KeptCalls : Plan → List Activation → World → List Part → (stack : ℕ) → (regs : List ℕ) → Type 0
KeptCalls p [] v memory stack regs = ⊤
KeptCalls p (a ∷ fs) v memory stack regs = kept_behind p a.function a.frame v memory stack regs (λ next outer. KeptCalls p fs v memory next outer)

-- the registers of the newest call, whose frame begins at `stack`, and of those that wait
pub record RegistersMatch (p : Plan) (n : ℕ) (frame : Frame) (fs : List Activation) (v : World) (memory : List Part) (stack : ℕ) (regs : List ℕ) : Type 0 where
  pub small : AreSmall regs
  pub before : List ℕ
  pub top : KeptCall p n frame v memory stack regs before
  pub waiting : KeptCalls p fs v memory (stack + (shape p n).size) before
