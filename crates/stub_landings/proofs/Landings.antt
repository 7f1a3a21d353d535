-- What is raised, goes on or is unwound in a compiled function comes to where the next state rests.
use Rattle.std.proofs.Common.{◌≡◌, ◌∙◌, sym, ap, subst, ℕ, ◌+◌, append-nil, length}
use Rattle.rv64_isa.specs.Step.{x}
use Rattle.cxa_runtime.specs.World as abi
use Rattle.region_forms.specs.Form.{rethrow}
use Rattle.region_forms.specs.World.{World, type_at}
use Rattle.region_forms.specs.Effect.{newest_of}
use Rattle.linear_forms.specs.Linear.{plain}
use Rattle.linear_forms.specs.Stub.{compiled}
use Rattle.linear_forms.specs.Activation.{Activation, State}
use Rattle.machine_forms.specs.Registers.{sp}
use Rattle.machine_forms.specs.LinearCode.{linear_code}
use Rattle.machine_pieces.specs.Laws.{CallsAreTurns, ValuesAreComputed}
use Rattle.machine_stubs.specs.Calls.{CallsAreMade}
use Rattle.raise_simulation.specs.Raises.{RaisesAgree}
use Rattle.raise_simulation.specs.Resumes.{ResumesAgree, ForcedAgree}
use Rattle.machine_simulation.specs.Plan.{Plan, shape}
use Rattle.machine_simulation.proofs.Asked.{value_stands}
use Rattle.machine_simulation.proofs.Matching.{stands_by}
use Rattle.machine_raises.specs.Throws.{RaisedTo}
use Rattle.machine_raises.specs.Resumes.{TypeIsThere}
use Rattle.machine_raises.proofs.Throwing.{throw_runs}
use Rattle.machine_raises.proofs.Rethrowing.{rethrow_step, rethrow_runs}
use Rattle.machine_raises.proofs.Modules.{module_runs}
use Rattle.machine_raises.proofs.Resuming.{resume_runs}
use Rattle.machine_raises.proofs.Forcing.{forced_runs}
use Rattle.machine_raises.proofs.Cancelling.{cancel_op, cancel_step, cancel_runs}
use Rattle.stub_landings.specs.Rests.{Rests}
use Rattle.stub_landings.specs.OwnCalls.{IsOwn}
use Rattle.stub_landings.specs.Landings.{resting, pad_words, ThrowsLand, RethrowsLand, ModulesLand, ResumesLand, ForcedLands, CancelsLand}
use Rattle.stub_landings.proofs.Entering.{RaisesHere, enters_any}

-- a compiled function is none of the runtime's own
raises_here : (a : Activation) (n : ℕ) → a.function ≡ compiled n → RaisesHere a
raises_here a n callee place own = absurd (subst IsOwn callee own)

abbrev Resting : State → Plan → abi.World → Type 0
Resting next p u = Rests (resting p next) next u

pub throws_land : CallsAreTurns → CallsAreMade → RaisesAgree → ThrowsLand
throws_land turns made agree i p n s e t d st next w h running at may plains ints on =
    let enters = enters_any i st.top next (raises_here st.top n at.runs) on in
    let all = throw_runs turns made agree (pad_words next.top.function) (Resting next) i p n s e t d st next w h.back enters on (stands_by p n st w h at.runs) running at may plains ints in
    (ap (λ (u : World). u.items) all.0 ∙ sym (append-nil st.world.items), all.1)

pub rethrows_land : CallsAreTurns → CallsAreMade → RaisesAgree → RethrowsLand
rethrows_land turns made agree i p n st next w h running at types plains ints on =
    let enters = enters_any i st.top next (raises_here st.top n at.runs) on in
    let step = rethrow_step p n st next at on in
    let number : newest_of st.world.caught ≡ step.entry.number = ap newest_of step.caught in
    let words : ℕ = pad_words next.top.function in
    let all = rethrow_runs turns made agree words (Resting next) i p n st next w h.back enters on (stands_by p n st w h at.runs) running at step (subst (λ k. TypeIsThere p (type_at st.world k)) number types) plains ints in
    (ap (λ (u : World). u.items) all.0 ∙ sym (append-nil st.world.items), subst (λ k. RaisedTo p i st next w k (x w.hart sp) (length (linear_code (shape p n) (plain rethrow)) + words) (Resting next p)) (sym number) all.1)

pub modules_land : CallsAreTurns → CallsAreMade → RaisesAgree → ModulesLand
modules_land turns made agree i pick p n st next w o wants k token left h running at calls reply free plains ints on =
    let enters = enters_any i st.top next (raises_here st.top n at.runs) on in
    let all = module_runs turns made agree (pad_words next.top.function) (Resting next) i pick p n st next w h.back o wants k token left enters on (stands_by p n st w h at.runs) running at calls reply free plains ints in
    (ap (λ (u : World). u.items) all.world, all.slot, all.below, all.raised)

pub resumes_land : CallsAreTurns → CallsAreMade → ResumesAgree → ResumesLand
resumes_land turns made agree i p n s e d st next w h running at asks plains ints on =
    let enters = enters_any i st.top next (raises_here st.top n at.runs) on in
    let all = resume_runs turns made agree (pad_words next.top.function) (Resting next) i p n s e d st next w h.back enters on (stands_by p n st w h at.runs) running at asks plains ints in
    (ap (λ (u : World). u.items) all.0 ∙ sym (append-nil st.world.items), all.1)

pub forced_lands : CallsAreTurns → CallsAreMade → ForcedAgree → ForcedLands
forced_lands turns made agree i p n s k st next w h running at asks plains ints on =
    let enters = enters_any i st.top next (raises_here st.top n at.runs) on in
    let all = forced_runs turns made agree (pad_words next.top.function) (Resting next) i p n s k st next w h.back enters on (stands_by p n st w h at.runs) running at asks plains ints in
    (ap (λ (u : World). u.items) all.0 ∙ sym (append-nil st.world.items), all.1)

pub cancels_land : CallsAreTurns → CallsAreMade → ValuesAreComputed → ForcedAgree → CancelsLand
cancels_land turns made values agree i p n st next w o v h running at is asks plains ints on =
    let enters = enters_any i st.top next (raises_here st.top n at.runs) on in
    let stood = stands_by p n st w h at.runs in
    let op = cancel_op p n v st o at.runs at.there is in
    let went = cancel_step p n v st next o op at.step in
    let all = cancel_runs turns made values agree (pad_words next.top.function) (Resting next) i p n st next w h.back o v enters on stood running at op
    (value_stands p n st.top.frame st.world w.hart.memory (x w.hart sp) h.back stood.memory.top v asks) went plains ints in
    (ap (λ (u : World). u.items) all.0 ∙ sym (append-nil st.world.items), went.value, went.is, all.1)
