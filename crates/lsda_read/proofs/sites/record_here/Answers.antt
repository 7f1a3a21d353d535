use Rattle.std.proofs.Common.{◌≡◌, nat_lt, true, false, ap, ◌∙◌, arith}
use Rattle.std.proofs.lemmas.Bool.Decides.{nat_tests}
use Rattle.table_forms.specs.LsdaSites.{record_at}
use Rattle.lsda_read.specs.Heads.{head_seen}
use Rattle.lsda_read.specs.Left.{records_left, record_read, and_records}
use Rattle.lsda_read.proofs.Steps.{record_first}
use Rattle.lsda_read.proofs.sites.record_here.Goals as goal

pub returns-then-place-head-clause-gives : goal.returns-then-place-head-clause-gives
returns-then-place-head-clause-gives c = λ n.
    let bs = c.args.bytes.now in let f = c.args.file_at in let h = head_seen c.args.head.now in let p = c.args.place in
    let outside : nat_lt p h.actions_at ≡ false = grind (arith, nat_tests, c.if-place-head.true) in
    record_first bs f h n p ∙ ap (λ b. and_records (record_read b (record_at bs f h p)) (records_left bs f h n)) outside

pub returns-in-Err-clause-gives : goal.returns-in-Err-clause-gives
returns-in-Err-clause-gives c = λ n.
    let bs = c.args.bytes.now in let f = c.args.file_at in let h = head_seen c.args.head.now in let p = c.args.place in
    let inside : nat_lt p h.actions_at ≡ true = grind (arith, nat_tests, c.if-place-head.false) in
    record_first bs f h n p ∙ ap (λ b. and_records (record_read b (record_at bs f h p)) (records_left bs f h n)) inside ∙
    ap (λ r. and_records (record_read true r) (records_left bs f h n)) c.in-Err.ensures.reads

pub returns-in-Ok-clause-gives : goal.returns-in-Ok-clause-gives
returns-in-Ok-clause-gives c = λ n.
    let bs = c.args.bytes.now in let f = c.args.file_at in let h = head_seen c.args.head.now in let p = c.args.place in
    let inside : nat_lt p h.actions_at ≡ true = grind (arith, nat_tests, c.if-place-head.false) in
    record_first bs f h n p ∙ ap (λ b. and_records (record_read b (record_at bs f h p)) (records_left bs f h n)) inside ∙
    ap (λ r. and_records (record_read true r) (records_left bs f h n)) c.in-Ok.ensures.reads
