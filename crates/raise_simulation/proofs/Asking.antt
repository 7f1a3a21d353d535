-- What is asked of the frame of an open call: its verdict, and where it is as a target.
use Rattle.std.proofs.Common.{◌≡◌, ◌∙◌, sym, ap, arith, ℕ, ◌+◌, true, false, List, ◌∷◌, if◌then◌else◌}
use Rattle.std.specs.Prelude.{pos, Some, option_map, option_and_then}
use Rattle.table_forms.specs.declared.found.Verdict.{Verdict}
use Rattle.table_forms.specs.Fde.{Fde, fde_for, row_at}
use Rattle.table_forms.specs.Verdict.{Thrown, look_up_place, verdict}
use Rattle.rv64_isa.specs.State.{State}
use Rattle.frame_read.specs.Listed.{fde_listed}
use Rattle.frame_walk.specs.declared.frame.Frame.{Frame}
use Rattle.frame_walk.specs.Registers.{offset_by}
use Rattle.frame_walk.specs.Outward.{tables_of}
use Rattle.raise_core.specs.declared.goal.Goal.{Goal}
use Rattle.raise_core.specs.Asked.{table_of, verdict_of, as_target, target_at}
use Rattle.raise_core.specs.First.{stops, first_in}
use Rattle.raise_simulation.specs.OpenCalls.{OpenCall, CallStands}
use Rattle.raise_simulation.specs.Opens.{table_in, table_at}
use Rattle.raise_simulation.specs.Tables.{said}
use Rattle.raise_simulation.proofs.Offsets.{above}
use Rattle.raise_simulation.proofs.Outward.{IsFrame}

pub verdict_is : (s : State) (fdes : List Fde) (thrown : Thrown) (f : Frame) → f.signal ≡ false → verdict_of s fdes thrown f ≡ said s fdes thrown f.pc
unfolding verdict_of
verdict_is s fdes thrown f plain = ap (λ b. verdict (option_and_then (table_of (tables_of s)) (fde_for fdes (look_up_place f.pc b))) f.pc b thrown) plain

-- the frame of an open call as a target: its canonical frame address is where the frame outward begins, and its table that of its place
pub target_is : (s : State) (fdes : List Fde) (f : Frame) (sp : ℕ) (c : OpenCall) → IsFrame f sp → CallStands s fdes f.pc sp c →
    target_at fdes f ≡ Some (record { cfa = sp + c.size; lsda = table_at fdes f.pc })
unfolding target_at
target_is s fdes f sp c h stands =
    let row = stands.row in
    let high = stands.high in
    ap (λ b. option_map (as_target f) (option_map (λ d. (fde_listed d, row_at d (look_up_place f.pc b))) (fde_for fdes (look_up_place f.pc b)))) h.plain
    ∙ ap (λ o. option_map (as_target f) (option_map (λ d. (fde_listed d, row_at d (look_up_place f.pc false))) o)) row.found ∙ ap (λ r. Some (as_target f (fde_listed row.fde, r))) row.row
    ∙ ap (λ a. Some (record { cfa = offset_by a (pos c.size); lsda = (fde_listed row.fde).lsda })) h.pointer ∙ ap (λ a. Some (record { cfa = a; lsda = (fde_listed row.fde).lsda })) (above sp c.size (omega (arith, high)))
    ∙ ap (λ o. Some (record { cfa = sp + c.size; lsda = table_in o })) (sym row.found)

-- ---- a search over frames

-- a frame at which a phase stops
pub stops_here : (s : State) (fdes : List Fde) (thrown : Thrown) (goal : Goal) (f : Frame) (fs : List Frame) (v : Verdict) → verdict_of s fdes thrown f ≡ v → stops fdes goal f v ≡ true →
    first_in s fdes thrown goal (f ∷ fs) ≡ Some f
stops_here s fdes thrown goal f fs v is here = ap (λ b. if b then Some f else first_in s fdes thrown goal fs) (ap (stops fdes goal f) is ∙ here)

-- and one that it passes
pub passes_here : (s : State) (fdes : List Fde) (thrown : Thrown) (goal : Goal) (f : Frame) (fs : List Frame) (v : Verdict) → verdict_of s fdes thrown f ≡ v → stops fdes goal f v ≡ false →
    first_in s fdes thrown goal (f ∷ fs) ≡ first_in s fdes thrown goal fs
passes_here s fdes thrown goal f fs v is passes = ap (λ b. if b then Some f else first_in s fdes thrown goal fs) (ap (stops fdes goal f) is ∙ passes)
