-- Which items a step of the machine for linear code has more.
use Rattle.std.proofs.Common.{◌≡◌, ◌∙◌, sym, ap, ℕ, ℤ, List, [], ◌++◌, append-nil, Option, Some, None, inl, inr}
use Rattle.run_items.specs.declared.item.Item.{Item}
use Rattle.region_forms.specs.Form.{Kinds, Place, evaluate, store, bind}
use Rattle.region_forms.specs.World.{Frame, World}
use Rattle.region_forms.specs.Evaluation.{Location, in_memory, in_frame, locate}
use Rattle.region_forms.specs.Effect.{goes, if_some, finished, stored_at, byte_of}
use Rattle.linear_forms.specs.Linear.{LinearOp, plain, label, jump, jump_zero}
use Rattle.linear_forms.specs.Activation.{State}
use Rattle.machine_simulation.specs.Plan.{Plan, slot_kinds}
use Rattle.machine_simulation.specs.Calls.{wanted}
use Rattle.machine_simulation.specs.Operations.{IsQuiet}
use Rattle.machine_simulation.specs.Steps.{StepAt, StepMade}
use Rattle.machine_simulation.proofs.Quiet.{store_step, bind_step, value_step, label_step, jump_step, test_step}
use Rattle.machine_simulation.proofs.Given.{same_beside}
use Rattle.machine_simulation.proofs.Entering.{call_step}
use Rattle.machine_simulation.proofs.Calling.{same_next, enters_to}
use Rattle.machine_simulation.proofs.Returning.{return_step}
use Rattle.machine_simulation.proofs.Reading.{taken, read_op, finished_step}
use Rattle.linear_forms.specs.UnitRun.{code_of}
use Rattle.machine_simulation.proofs.Stored.{stored_there}

-- what is stored is no item
stored_items : (l : Location) (z : ℤ) (frame new_frame : Frame) (v u : World) → stored_at l z frame v ≡ goes new_frame u → u.items ≡ v.items
stored_items (in_memory a) z frame new_frame v u e = let (there, kept, same) = stored_there a z frame new_frame v u e in ap (λ (y : World). y.items) (sym same)
stored_items (in_frame s) z frame new_frame v u e = let same : v ≡ u = cc e in ap (λ (y : World). y.items) (sym same)

finished_items : (kinds : Kinds) (q : Option Place) (z : ℤ) (frame new_frame : Frame) (v u : World) → finished kinds q z frame v ≡ goes new_frame u → u.items ≡ v.items
finished_items kinds None z frame new_frame v u e = let same : v ≡ u = cc e in ap (λ (y : World). y.items) (sym same)
finished_items kinds (Some q) z frame new_frame v u e = by (locate kinds frame q) e
  where
    by : (o : Option Location) → if_some o (λ l. stored_at l z frame v) ≡ goes new_frame u → u.items ≡ v.items
    by None got = absurd (cc got)
    by (Some l) got = stored_items l z frame new_frame v u got

quiet_items : (p : Plan) (n : ℕ) (st next : State) (o : LinearOp) → StepAt p st next n o → IsQuiet o → next.world.items ≡ st.world.items
quiet_items p n st next (plain (evaluate v)) h quiet = ap (λ (y : State). y.world.items) (sym (value_step p n st next v h.runs h.there quiet h.step))
quiet_items p n st next (plain (store q v)) h quiet =
    let went = store_step p n st next v q h.runs h.there quiet h.step in
    ap (λ (y : State). y.world.items) (sym went.next_is) ∙ stored_items went.location went.value st.top.frame went.frame st.world went.world went.stored
quiet_items p n st next (plain (bind s q)) h quiet = ap (λ (y : State). y.world.items) (sym (bind_step p n st next s q h.runs h.there h.step).next_is)
quiet_items p n st next (label l) h quiet = ap (λ (y : State). y.world.items) (sym (label_step p n st next l h.runs h.there h.step))
quiet_items p n st next (jump l) h quiet = ap (λ (y : State). y.world.items) (sym (jump_step p n st next l h.runs h.there h.step))
quiet_items p n st next (jump_zero v l) h quiet = ap (λ (y : State). y.world.items) (sym (test_step p n st next v l h.runs h.there h.step).next_is)
quiet_items p n st next o h quiet = absurd quiet

-- where nothing is shown
nothing_more : (st next : State) (items : List Item) → items ≡ [] → next.world.items ≡ st.world.items → next.world.items ≡ st.world.items ++ items
nothing_more st next items none same = same ∙ sym (append-nil st.world.items) ∙ ap (λ is. st.world.items ++ is) (sym none)

pub step_items : (p q : Plan) (st next : State) (most : ℕ) (items : List Item) → StepMade p st next q most items → next.world.items ≡ st.world.items ++ items
step_items p q st next most items (inl s) = nothing_more st next items s.nothing_shown (quiet_items p s.number st next s.operation s.at s.quiet)
step_items p q st next most items (inr (inl s)) = s.line.more
step_items p q st next most items (inr (inr (inl s))) =
    let read = read_op p s.number s.wants st s.operation s.at.runs s.at.there s.reads in
    let went = finished_step (code_of p.unit) (slot_kinds p s.number) s.wants (byte_of st.world.input) (taken st.world) st next (read.steps next s.at.step) in
    nothing_more st next items s.nothing_shown
    (ap (λ (y : State). y.world.items) (sym went.next_is) ∙ finished_items (slot_kinds p s.number) s.wants (byte_of st.world.input) st.top.frame went.frame (taken st.world) went.world went.stored)
step_items p q st next most items (inr (inr (inr (inl s)))) =
    let went = same_next (enters_to p s.call.number s.given st) next (call_step p s.number st next s.operation s.call s.given s.at.runs s.at.there s.is s.passed s.at.step) in
    nothing_more st next items s.nothing_shown (ap (λ (y : State). y.world.items) (sym went) ∙ (same_beside (slot_kinds p s.call.number) st.world.calls 0 s.given st.world).items)
step_items p q st next most items (inr (inr (inr (inr s)))) =
    let went = return_step p s.number s.caller st next s.waiting s.others s.result s.operation s.at.runs s.at.there s.frames s.callee s.waits s.at.step in
    nothing_more st next items s.nothing_shown
    (ap (λ (y : State). y.world.items) (sym went.next_is) ∙ finished_items (slot_kinds p s.caller) (wanted s.operation) went.value s.waiting.frame went.frame st.world went.world went.stored)
