use Rattle.std.proofs.Common.{◌≡◌, ℕ, false, List, fold, ap, sym, refl, ◌∙◌}
use Rattle.arrayvec.specs.ArrayVec.{array_vec_len}
use Rattle.eh_bytes.specs.Memory.{part_of}
use Rattle.table_forms.specs.Instruction.{Instruction}
use Rattle.table_forms.specs.Instructions.{instructions_at}
use Rattle.table_forms.specs.Row.{begun, stepped, with_initial, row_of}
use Rattle.frame_read.specs.Seen.{coding_seen}
use Rattle.frame_read.specs.SeenRow.{folding_seen}
use Rattle.frame_read.specs.States.{list_of, states_of}
use Rattle.frame_read.proofs.Folds.{same_off, states_read}
use Rattle.frame_read.proofs.row_fold.full_row_of.Goals as goal

pub returns : goal.returns
unfolding row_of
returns c = λ is own common_read own_read.
    let s = part_of c.args.segment.now in let cie = c.args.cie.now in let f = c.args.fde.now in let co = coding_seen cie.coding in
    let pc = c.args.pc in let k = c.keeps_initial.new.self in let start = f.region.start in
    let behind : ℕ → List Instruction = λ n. list_of (instructions_at co s f.stop f.first n) in
    let common : ℕ → List Instruction = λ n. list_of (instructions_at co s cie.stop cie.first n) in
    let first = c.goes_over.ensures.seen ∙ ap (λ x. fold (stepped pc) x (common (array_vec_len c.begun-folding.result.states))) c.begun-folding.ensures.seen ∙
    ap (λ n. fold (stepped pc) (begun start) (common n)) c.begun-folding.ensures.states in
    let count : k.stopped ≡ false → array_vec_len k.states ≡ is.states = λ e. c.keeps_initial.ensures.states ∙
    ap states_read (sym (c.goes_over.ensures.kept (sym c.keeps_initial.ensures.stopped ∙ e)) ∙
    ap (λ n. states_of (instructions_at co s cie.stop cie.first n)) c.begun-folding.ensures.states ∙ ap states_of common_read) in
    c.into_row.ensures ∙ ap (λ x. x.row) (c.goes_on_over.ensures.seen ∙
    same_off pc (folding_seen k) k.stopped (behind (array_vec_len k.states)) (behind is.states) refl (λ e. ap behind (count e)) ∙
    ap (λ x. fold (stepped pc) x (behind is.states)) (c.keeps_initial.ensures.seen ∙ ap with_initial first)) ∙
    ap (λ l. (fold (stepped pc) (with_initial (fold (stepped pc) (begun start) l)) (behind is.states)).row) (ap list_of common_read) ∙
    ap (λ l. (fold (stepped pc) (with_initial (fold (stepped pc) (begun start) is.list)) l).row) (ap list_of own_read)
