-- A forced unwind that goes on from one of the runtime's own functions: what linear code does, and what the unwinder answers.
use Rattle.std.proofs.Common.{◌≡◌, ◌∙◌, refl, sym, ap, subst, ℕ, ℤ, List, ◌∷◌, ◌++◌, Some, inl, inr}
use Rattle.std.specs.Prelude.{◌⊎◌}
use Rattle.meaning_forms.specs.Outcome.{exit}
use Rattle.rv64_isa.specs.State as hart
use Rattle.rv64_isa.specs.Step.{x}
use Rattle.elf_image.specs.Clean.{CleanImage}
use Rattle.raise_core.specs.declared.raised.Raised.{Raised}
use Rattle.raise_core.specs.declared.raised.Raised.TheVariants.{Terminate, NoHandler}
use Rattle.raise_core.specs.Raise as unwinder
use Rattle.eh_run.specs.Program.{program_of}
use Rattle.region_forms.specs.World.{unwinding, World}
use Rattle.linear_forms.specs.Tables.{unpadded}
use Rattle.linear_forms.specs.Stub.{Function, end_catch, call_unexpected, linear}
use Rattle.linear_forms.specs.Linear.{resume}
use Rattle.linear_forms.specs.Activation.{Code, Activation, State, Next, finishes, by_program, fetch, look}
use Rattle.linear_forms.specs.Machine.{act_on, step}
use Rattle.linear_forms.specs.Operation.{resumed}
use Rattle.linear_forms.specs.Forced.{forced_at, forced_above}
use Rattle.linear_forms.specs.UnitRun.{code_of}
use Rattle.machine_forms.specs.Registers.{sp}
use Rattle.image_tables.specs.Functions.{operation_at as operation_byte}
use Rattle.raise_simulation.specs.Opens.{Open, activations}
use Rattle.raise_simulation.specs.Raises.{Lands, IsTerminated}
use Rattle.raise_simulation.specs.Resumes.{ForcedAgree}
use Rattle.machine_simulation.specs.Plan.{Plan}
use Rattle.machine_raises.specs.Stacks.{IsRunning}
use Rattle.machine_raises.proofs.OnStack.{OnStack}
use Rattle.machine_raises.proofs.Stacks.{top_opens, top_tail, top_are, top_unwound}
use Rattle.raise_ends.proofs.Barring.{IsBarred, EntersPad}
use Rattle.stub_landings.specs.OwnRaises.{ResumesAt}

-- ---- the step

-- the operation, which lets all out
record LastOp (code : Code) (f : Function) (place slot : ℕ) : Type 0 where
  there : fetch code f place ≡ Some (linear (resume slot))
  cover : look code f place ≡ unpadded

last_op : (code : Code) (f : Function) (place slot : ℕ) → ResumesAt f place slot → LastOp code f place slot
last_op code f place slot (inl (is, there, at)) =
    subst (λ g. LastOp code g place slot) (sym is) (subst (λ n. LastOp code end_catch n slot) (sym there) (subst (LastOp code end_catch 6) (sym at) (record { there = refl; cover = refl })))
last_op code f place slot (inr (is, there, at)) =
    subst (λ g. LastOp code g place slot) (sym is) (subst (λ n. LastOp code call_unexpected n slot) (sym there) (subst (LastOp code call_unexpected 17) (sym at) (record { there = refl; cover = refl })))

-- it unwinds the calls that wait
pub unwinds_from : (p : Plan) (f : Function) (place slot : ℕ) (k : ℤ) (st : State) → ResumesAt f place slot → st.top.function ≡ f → st.top.place ≡ place → st.top.frame.slots slot ≡ unwinding k →
    (step (code_of p.unit) st ≡ forced_above (code_of p.unit) k (st.top ∷ st.frames) st.world) × (forced_above (code_of p.unit) k (st.top ∷ st.frames) st.world ≡ forced_above (code_of p.unit) k st.frames st.world)
unwinds_from p f place slot k st resumes runs there is =
    let code = code_of p.unit in
    let v : World = st.world in
    let last = last_op code f place slot resumes in
    let op : fetch code st.top.function st.top.place ≡ Some (linear (resume slot)) = ap (λ g. fetch code g st.top.place) runs ∙ ap (fetch code f) there ∙ last.there in
    let cover : look code st.top.function st.top.place ≡ unpadded = ap (λ g. look code g st.top.place) runs ∙ ap (look code f) there ∙ last.cover in (
      ap (λ o. act_on code o st.top st.frames v) op ∙ ap (λ y. resumed code y st.top st.frames v) is,
      ap (λ c. forced_at code c k st.top.function st.top.frame st.frames v (forced_above code k st.frames v)) cover,
    )

-- ---- the unwinder's answer is that of linear code

-- an end of it
abbrev pub Answers : (i : CleanImage) (p : Plan) (k : ℤ) (a : Activation) (fs : List Activation) (v : World) (s : hart.State) → Type 0
Answers i p k a fs v s = let next = forced_above (code_of p.unit) k (a ∷ fs) v in let result = unwinder.forced_unwind (program_of i).image.fdes s in
    EntersPad (code_of p.unit) v next ⊎ (IsBarred v next × (result ≡ (Terminate, s))) ⊎ ((next ≡ finishes (by_program (exit k)) v) × (result ≡ (NoHandler, s)))

pub unwound : ForcedAgree → (i : CleanImage) (p : Plan) (k : ℤ) (a : Activation) (fs : List Activation) (v : World) (s : hart.State) → IsRunning p i s → OnStack p a fs v s → Answers i p k a fs v s
unwound agree i p k a fs v s running h = by (agree (code_of p.unit) (operation_byte p.unit) (program_of i).image.fdes k v s (x s sp) opens tail (top_unwound p i a fs v s running h))
  where
    opens : List Open
    opens = top_opens p a fs v s h

    tail : List Activation
    tail = top_tail p a fs v s h

    result : Raised × hart.State
    result = unwinder.forced_unwind (program_of i).image.fdes s

    whole : Next
    whole = forced_above (code_of p.unit) k (activations opens ++ tail) v

    same : forced_above (code_of p.unit) k (a ∷ fs) v ≡ whole
    same = ap (λ xs. forced_above (code_of p.unit) k xs v) (sym (top_are p a fs v s h))

    by : Lands (code_of p.unit) (operation_byte p.unit) (unwinding k) v s (x s sp) opens tail 0 0 whole result ⊎ (IsTerminated v opens tail whole × (result ≡ (Terminate, s))) ⊎ ((whole ≡ finishes (by_program (exit k)) v) × (result ≡ (NoHandler, s))) →
        Answers i p k a fs v s
    by (inl l) = inl (record {
      activation = l.landing.activation;
      pad = l.pad;
      chain = l.chain;
      covers = l.covers;
      word = unwinding k;
      selector = l.selector;
      rest = activations l.outer ++ tail;
      enters = same ∙ l.enters;
    })
    by (inr (inl (t, is))) = inr (inl (record { barring = t.barring; outer = t.outer; terminates = same ∙ t.terminates }, is))
    by (inr (inr (e, is))) = inr (inr (same ∙ e, is))
