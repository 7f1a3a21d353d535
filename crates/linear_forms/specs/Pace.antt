-- How steps pay for turns. A turn that a computation of regions spends is paid by a step of the machine whose operation has a word of its
-- own: a call's, a loop's test, or the call of an empty destructor or constructor. So a run shows no turn for which it made no such step.
use Rattle.std.specs.Prelude.{◌≡◌, ℕ, zero, suc, ◌+◌, ◌*◌, ◌≤◌, Bool, true, false, Option, Some, None}
use Rattle.region_forms.specs.Form.{Callee, defined, builtin, Value, call_value, Op, evaluate, store, call, construct, destroy}
use Rattle.region_forms.specs.World.{World}
use Rattle.linear_forms.specs.Linear.{LinearOp, plain, jump_zero}
use Rattle.linear_forms.specs.Stub.{CodeOp, linear, runtime, StubOp, construct_bad, destroy_held, call_held}
use Rattle.linear_forms.specs.Activation.{Code, State, Next, goes_to, finishes, fetch}
use Rattle.linear_forms.specs.Machine.{step}
use Rattle.linear_forms.specs.Counted.{counts_at}

-- a function of the program, and no built-in one
abbrev pub is_defined : Callee → Bool
is_defined (defined n) = true
is_defined (builtin b) = false

-- a value that is a call of one
abbrev pub is_call : Value → Bool
is_call (call_value c args) = is_defined c
is_call v = false

-- an operation of regions that calls a function
abbrev pub op_pays : Op → Bool
op_pays (evaluate v) = is_call v
op_pays (store p v) = is_call v
op_pays (call c args) = is_defined c
op_pays (construct p n args) = true
op_pays (destroy p n) = true
op_pays o = false

-- an operation of linear code that calls a function or tests a value, as a loop does
abbrev pub linear_pays : LinearOp → Bool
linear_pays (plain o) = op_pays o
linear_pays (jump_zero v l) = true
linear_pays o = false

-- an operation of the runtime's own that calls a function, or would call one that does nothing
abbrev pub stub_pays : StubOp → Bool
stub_pays construct_bad = true
stub_pays (destroy_held d o) = true
stub_pays (call_held h) = true
stub_pays o = false

-- an operation that may pay for a turn
abbrev pub pays : Option CodeOp → Bool
pays None = false
pays (Some (linear o)) = linear_pays o
pays (Some (runtime o)) = stub_pays o

-- the operation at which a state stands may pay for a turn
abbrev pub pays_at : Code → State → Bool
pays_at code st = pays (fetch code st.top.function st.top.place)

abbrev pub one_if : Bool → ℕ
one_if true = 1
one_if false = 0

-- what is counted of the steps that are left; behind an end there is none
abbrev pub after : (State → ℕ) → Next → ℕ
after rest (goes_to m) = rest m
after rest (finishes e w) = 0

-- how many of at most n steps begin at states of which this is so
abbrev pub tally : (State → Bool) → Code → ℕ → State → ℕ
tally flag code zero st = 0
tally flag code (suc n) st = one_if (flag st) + after (tally flag code n) (step code st)

-- how many may pay for a turn
abbrev pub paying : Code → ℕ → State → ℕ
paying code n st = tally (pays_at code) code n st

-- how many are calls, or loops that turn back
abbrev pub counted : Code → ℕ → State → ℕ
counted code n st = tally (counts_at code) code n st

-- what so many more steps lead to
abbrev pub LeadsOn : ℕ → (State → Type 0) → Next → Next → Type 0
LeadsOn n more x (goes_to m) = more m
LeadsOn n more x (finishes e w) = (n ≡ 0) × (x ≡ finishes e w)

-- just so many steps lead from a state to what is next
abbrev pub Leads : Code → ℕ → State → Next → Type 0
Leads code zero st x = x ≡ goes_to st
Leads code (suc n) st x = LeadsOn n (λ m. Leads code n m x) x (step code st)

-- From a state the machine comes to what is next, while t turns become u: in at most `most` steps for each turn and c besides, with a step
-- that may pay for each turn that is spent, and with a turn that is spent for each call and each loop that turns back.
pub record Paced (code : Code) (most : ℕ) (st : State) (t : ℕ) (x : Next) (u c : ℕ) : Type 0 where
  pub falls : u ≤ t
  pub steps : ℕ
  pub leads : Leads code steps st x
  pub quick : steps + u * most ≤ t * most + c
  pub paid : t ≤ paying code steps st + u
  pub counts : counted code steps st + u ≤ t

-- the machine still runs, in this world, at an operation that would pay for a turn
abbrev pub MustPay : Code → World → Next → Type 0
MustPay code w x = (m : State) × (x ≡ goes_to m) × (m.world ≡ w) × (pays_at code m ≡ true)
