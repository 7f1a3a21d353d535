-- The machine for linear code enters what came out of the unexpected handler, and checks it.
use Rattle.std.proofs.Common.{◌≡◌, ◌∙◌, refl, ap, ℕ, ◌+◌, ◌&&◌, Bool, true, false, ℤ, pos, negsuc, Option, Some}
use Rattle.std.specs.Prelude.{if◌then◌else◌}
use Rattle.meaning_forms.specs.World.{Installed}
use Rattle.elf_image.specs.Clean.{CleanImage}
use Rattle.cxa_runtime.specs.World as abi
use Rattle.region_forms.specs.Caught.{holds_other}
use Rattle.region_forms.specs.Lives.{may_enter}
use Rattle.region_forms.specs.World.{Word, World, native, flying, number_word, with_slot, exception_of, exception_in_slot, address_in, exception_type, exception_at, type_at}
use Rattle.region_forms.specs.Effect.{goes, terminates, only_where, is_foreign, entered, Effect}
use Rattle.linear_forms.specs.Stub.{call_unexpected}
use Rattle.linear_forms.specs.StubOperation.{checked, sense_held}
use Rattle.linear_forms.specs.Activation.{Activation, State, Next, goes_to, on}
use Rattle.linear_forms.specs.Machine.{step}
use Rattle.linear_forms.specs.Operation.{holds_number, jumped, performed}
use Rattle.linear_forms.specs.UnitRun.{code_of}
use Rattle.machine_simulation.specs.Plan.{Plan}
use Rattle.machine_simulation.specs.Exceptions.{live_in}
use Rattle.machine_exceptions.specs.Leaves.{StepsTo}
use Rattle.machine_exceptions.proofs.Enters.{exception_is}
use Rattle.unexpected_calls.specs.Leaves.{leaving_at}
use Rattle.unexpected_calls.specs.Thrown.{ThrownOut, list_says, checked_state}
use Rattle.unexpected_calls.proofs.Steps.{steps_on}
use Rattle.unexpected_calls.proofs.Leaving.{in_unexpected_at}

-- a state of call_unexpected at a place, in a world
abbrev pub at_place : ℕ → World → State → State
at_place place v st = record { top = leaving_at place st; frames = st.frames; world = v }

pub goes_on : (p : Plan) (st : State) → st.top.function ≡ call_unexpected → st.top.place ≡ 4 → st.top.frame.slots 5 ≡ number_word (pos 1) → step (code_of p.unit) st ≡ goes_to (at_place 5 st.world st)
goes_on p st runs there slot =
    let a : Activation = leaving_at 4 st in
    let to : Word → Next = λ word. if holds_number word (pos 0) then jumped (code_of p.unit) 16 a st.frames st.world else on a a.frame st.frames st.world in
    in_unexpected_at p 4 st runs there ∙ ap to slot

pub number_is : (st : State) (e d : ℕ) → st.top.frame.slots 4 ≡ flying e d → exception_in_slot st.top.frame 4 ≡ e
number_is st e d is = ap (λ word. exception_of (address_in word)) is

pub enter_step : (p : Plan) (st : State) (e d type : ℕ) (destructor : Option ℕ) (kept : Installed) → st.top.frame.slots 4 ≡ flying e d → live_in st.world.live e ≡ Some (native type destructor kept) → may_enter st.world e ≡ true →
    step (code_of p.unit) (at_place 5 st.world st) ≡ goes_to (at_place 6 (entered e st.world) st)
enter_step p st e d type destructor kept flies live may =
    let v : World = st.world in
    let a : Activation = leaving_at 5 st in
    let does : Effect → Next = λ x. performed (code_of p.unit) x a st.frames v in
    let rest : Bool → Effect = λ b. if b then terminates v.installed.terminate_handler v else goes a.frame (entered e v) in
    ap (λ k. does (only_where (may_enter v k) (if is_foreign (exception_at v k) && holds_other k v.caught then terminates v.installed.terminate_handler v else goes a.frame (entered k v)))) (number_is st e d flies)
    ∙ ap (λ y. does (only_where (may_enter v e) (rest (is_foreign y && holds_other e v.caught)))) (exception_is v.live e (native type destructor kept) live) ∙ ap (λ b. does (only_where b (rest false))) may

check_step : (p : Plan) (st : State) (e d type owner j : ℕ) (destructor : Option ℕ) (kept : Installed) (answer selector : ℤ) → st.top.frame.slots 4 ≡ flying e d → live_in st.world.live e ≡ Some (native type destructor kept) → st.top.frame.slots 1 ≡ number_word selector →
    selector ≡ negsuc j → st.top.frame.slots 2 ≡ number_word (pos owner) → list_says p owner j type ≡ answer → step (code_of p.unit) (at_place 6 (entered e st.world) st) ≡ goes_to (checked_state 7 e answer st)
check_step p st e d type owner j destructor kept answer selector flies live slot list function says =
    let v : World = entered e st.world in
    let code = code_of p.unit in
    let a : Activation = leaving_at 6 st in
    let to : ℤ → Next = λ n. on a (with_slot 6 (number_word n) a.frame) st.frames v in
    ap (λ k. to (checked code.rows (sense_held code (a.frame.slots 2) (a.frame.slots 1)) (type_at v k))) (number_is st e d flies)
    ∙ ap (λ y. to (checked code.rows (sense_held code (a.frame.slots 2) (a.frame.slots 1)) (exception_type y))) (exception_is st.world.live e (native type destructor kept) live)
    ∙ ap (λ k. to (checked code.rows (sense_held code k (a.frame.slots 1)) (Some type))) function ∙ ap (λ k. to (checked code.rows (sense_held code (number_word (pos owner)) k) (Some type))) (slot ∙ ap number_word list) ∙ ap to says

-- up to behind the check
up_to_check : (i : CleanImage) (p : Plan) (e d type : ℕ) (destructor : Option ℕ) (kept : Installed) (j : ℕ) (answer : ℤ) (st : State) (w : abi.World) → (h : ThrownOut i p e d type destructor kept j st w) → list_says p h.rests.kept.owner j type ≡ answer → (n : ℕ) (next : State) →
    StepsTo (code_of p.unit) n (checked_state 7 e answer st) next → StepsTo (code_of p.unit) (3 + n) st next
up_to_check i p e d type destructor kept j answer st w h says n next rest =
    let k = h.rests.kept in
    let three : StepsTo (code_of p.unit) 3 st (checked_state 7 e answer st) = (
      at_place 5 st.world st,
      goes_on p st h.rests.rests.runs h.rests.place h.selector,
      (
        at_place 6 (entered e st.world) st,
        enter_step p st e d type destructor kept h.flies h.native h.defined,
        (checked_state 7 e answer st, check_step p st e d type k.owner j destructor kept answer k.selector h.flies h.native k.selector_is h.list k.owner_is says, refl),
      ),
    ) in
    steps_on (code_of p.unit) 3 n st (checked_state 7 e answer st) next three rest

pub steps_to_allowed : (i : CleanImage) (p : Plan) (e d type : ℕ) (destructor : Option ℕ) (kept : Installed) (j : ℕ) (st : State) (w : abi.World) → (h : ThrownOut i p e d type destructor kept j st w) → list_says p h.rests.kept.owner j type ≡ pos 0 →
    StepsTo (code_of p.unit) 4 st (checked_state 10 e (pos 0) st)
steps_to_allowed i p e d type destructor kept j st w h says = up_to_check i p e d type destructor kept j (pos 0) st w h says 1 (checked_state 10 e (pos 0) st) (checked_state 10 e (pos 0) st, refl, refl)

pub steps_to_bad : (i : CleanImage) (p : Plan) (e d type : ℕ) (destructor : Option ℕ) (kept : Installed) (j : ℕ) (st : State) (w : abi.World) → (h : ThrownOut i p e d type destructor kept j st w) → list_says p h.rests.kept.owner j type ≡ pos 1 →
    StepsTo (code_of p.unit) 5 st (checked_state 11 e (pos 1) st)
steps_to_bad i p e d type destructor kept j st w h says =
    up_to_check i p e d type destructor kept j (pos 1) st w h says 2 (checked_state 11 e (pos 1) st) (checked_state 8 e (pos 1) st, refl, (checked_state 11 e (pos 1) st, refl, refl))

pub steps_to_unlisted : (i : CleanImage) (p : Plan) (e d type : ℕ) (destructor : Option ℕ) (kept : Installed) (j : ℕ) (st : State) (w : abi.World) → (h : ThrownOut i p e d type destructor kept j st w) → list_says p h.rests.kept.owner j type ≡ pos 2 →
    StepsTo (code_of p.unit) 5 st (checked_state 9 e (pos 2) st)
steps_to_unlisted i p e d type destructor kept j st w h says =
    up_to_check i p e d type destructor kept j (pos 2) st w h says 2 (checked_state 9 e (pos 2) st) (checked_state 8 e (pos 2) st, refl, (checked_state 9 e (pos 2) st, refl, refl))
