use Rattle.std.proofs.Common.{◌≡◌, ℕ, false, List, Some, fold, ap, sym, refl, ◌∙◌}
use Rattle.eh_bytes.specs.Memory.{part_of}
use Rattle.table_forms.specs.Instruction.{Instruction}
use Rattle.table_forms.specs.Instructions.{instructions_at}
use Rattle.table_forms.specs.Row.{begun, stepped, with_initial, row_of}
use Rattle.frame_read.specs.Seen.{coding_seen}
use Rattle.frame_read.specs.Plain.{plain_seen}
use Rattle.frame_read.specs.States.{list_of, states_of}
use Rattle.frame_read.proofs.Folds.{same_off, states_read}
use Rattle.frame_read.proofs.plain.plain_row_of.Goals as goal

pub goes_on_over-requires-clause-whole : goal.goes_on_over-requires-clause-whole
goes_on_over-requires-clause-whole c = λ e. c.requires.own 0 (c.in_ok-stopped.ensures.kept (ap Some e))

pub returns : goal.returns
unfolding row_of
returns c = λ is own common_read own_read.
    let s = part_of c.args.segment.now in let cie = c.args.cie.now in let f = c.args.fde.now in let co = coding_seen cie.coding in
    let pc = c.args.pc in let k = c.keeps_initial.new.self in let start = f.region.start in
    let stopped = c.in_ok-stopped.stopped in
    let behind : ℕ → List Instruction = λ n. list_of (instructions_at co s f.stop f.first n) in
    let common : List Instruction = list_of (instructions_at co s cie.stop cie.first 0) in
    let first = c.in_ok-stopped.ensures.seen ∙ ap (λ x. fold (stepped pc) x common) c.begun-plain.ensures.seen in
    let count : stopped ≡ false → 0 ≡ is.states = λ e. ap states_read (sym (c.in_ok-stopped.ensures.kept (ap Some e)) ∙ ap states_of common_read) in
    c.into_row.ensures ∙ ap (λ x. x.row) (c.in_ok-_stopped.ensures.seen ∙
    same_off pc (plain_seen stopped k) stopped (behind 0) (behind is.states) refl (λ e. ap behind (count e)) ∙
    ap (λ x. fold (stepped pc) x (behind is.states)) (c.keeps_initial.ensures.seen stopped ∙ ap with_initial first)) ∙
    ap (λ l. (fold (stepped pc) (with_initial (fold (stepped pc) (begun start) l)) (behind is.states)).row) (ap list_of common_read) ∙
    ap (λ l. (fold (stepped pc) (with_initial (fold (stepped pc) (begun start) is.list)) l).row) (ap list_of own_read)
