use Rattle.std.proofs.Common.{ℕ, List, true, false, Some, Ok, Err, option_map, ap, ◌∙◌}
use Rattle.eh_bytes.specs.Cursor.{Cursor}
use Rattle.eh_bytes.specs.Leb128.{uleb}
use Rattle.eh_bytes.specs.Memory.{part_of}
use Rattle.table_forms.specs.Fault.{joined}
use Rattle.table_forms.specs.LsdaTypes.{cut_by}
use Rattle.table_forms.specs.Seen.{fault_of}
use Rattle.lsda_read.proofs.ListTurning.{cursor_reads, end_is, over_zero, over_ranged, over_cut}
use Rattle.lsda_read.proofs.list_walk.judge_index.Goals as goal

pub returns-then-index-eq0-clause-turn : goal.returns-then-index-eq0-clause-turn
returns-then-index-eq0-clause-turn c = λ m h t.
    let s = part_of c.args.segment.now in let p = c.args.place in
    let at_place : List ℕ → Cursor = λ bytes. record { bytes = bytes; position = p } in
    let read = cursor_reads uleb c.new-cursor.result (at_place s.bytes) (Ok (c.in-Ok.index, c.take_uleb.new.self.position)) (c.new-cursor.ensures ∙ ap at_place c.as_slice.ensures.value) c.in-Ok.ensures.takes in
    over_zero m s h t (option_map fault_of c.args.known.now.least) p c.take_uleb.new.self.position c.ended.result (end_is c.ended.result false c.ended.ensures.outside c.ended.ensures.cut)
    (λ first. ap (cut_by s first p) (read ∙ ap (λ k. Ok (k, c.take_uleb.new.self.position)) c.if-index-eq0.true))

pub returns-in-Err-LebRange-clause-turn : goal.returns-in-Err-LebRange-clause-turn
returns-in-Err-LebRange-clause-turn c = λ m h t.
    let s = part_of c.args.segment.now in let p = c.args.place in
    let at_place : List ℕ → Cursor = λ bytes. record { bytes = bytes; position = p } in
    let read = cursor_reads uleb c.new-cursor.result (at_place s.bytes) (Err c.in-Err-LebRange.field-0) (c.new-cursor.ensures ∙ ap at_place c.as_slice.ensures.value) c.in-Err-LebRange.ensures.takes.0 in
    over_ranged m s h t (option_map fault_of c.args.known.now.least) (option_map fault_of c.joined-known.result) p c.ended-in-Err-LebRange.result
    (end_is c.ended-in-Err-LebRange.result false c.ended-in-Err-LebRange.ensures.outside c.ended-in-Err-LebRange.ensures.cut)
    (λ first. ap (cut_by s first p) (read ∙ ap Err c.in-Err-LebRange.field-0-is))
    (c.joined-known.ensures ∙ ap (λ f. joined (option_map fault_of c.args.known.now.least) (Some f)) c.refused-ranged.ensures)

pub returns-in-Err-Truncated-clause-turn : goal.returns-in-Err-Truncated-clause-turn
returns-in-Err-Truncated-clause-turn c = λ m h t.
    let s = part_of c.args.segment.now in let p = c.args.place in
    let at_place : List ℕ → Cursor = λ bytes. record { bytes = bytes; position = p } in
    let read = cursor_reads uleb c.new-cursor.result (at_place s.bytes) (Err c.in-Err-Truncated.field-0) (c.new-cursor.ensures ∙ ap at_place c.as_slice.ensures.value) c.in-Err-Truncated.ensures.takes.0 in
    over_cut m s h t (option_map fault_of c.args.known.now.least) p c.ended-in-Err-Truncated.result
    (end_is c.ended-in-Err-Truncated.result true c.ended-in-Err-Truncated.ensures.outside c.ended-in-Err-Truncated.ensures.cut)
    (λ first. ap (cut_by s first p) (read ∙ ap Err c.in-Err-Truncated.field-0-is))

pub returns-in-Err-Encoding-clause-turn : goal.returns-in-Err-Encoding-clause-turn
returns-in-Err-Encoding-clause-turn c = λ m h t.
    let s = part_of c.args.segment.now in let p = c.args.place in
    let at_place : List ℕ → Cursor = λ bytes. record { bytes = bytes; position = p } in
    let read = cursor_reads uleb c.new-cursor.result (at_place s.bytes) (Err c.in-Err-Encoding.field-0) (c.new-cursor.ensures ∙ ap at_place c.as_slice.ensures.value) c.in-Err-Encoding.ensures.takes.0 in
    over_cut m s h t (option_map fault_of c.args.known.now.least) p c.ended-in-Err-Encoding.result
    (end_is c.ended-in-Err-Encoding.result true c.ended-in-Err-Encoding.ensures.outside c.ended-in-Err-Encoding.ensures.cut)
    (λ first. ap (cut_by s first p) (read ∙ ap Err c.in-Err-Encoding.field-0-is))
