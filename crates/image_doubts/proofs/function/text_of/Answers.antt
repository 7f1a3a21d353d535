use Rattle.std.proofs.Common.{rules, ◌≡◌, []}
use Rattle.table_dump.proofs.Dumped.{whole_of}
use Rattle.image_doubts.proofs.Turned.{whole}
use Rattle.image_doubts.proofs.function.text_of.Goals as goal

pub put_functions-requires-clause-functions : goal.put_functions-requires-clause-functions
put_functions-requires-clause-functions c =
    let i = c.requires.0 in let is = c.requires.1 in
    let w = whole_of is.file i c.args.image.now is.cleans is.seen in
    let these = w.functions in (i.functions, search (rules, these))

pub returns : goal.returns
returns c = λ i is.
    let w = whole_of is.file i c.args.image.now is.cleans is.seen in
    let these = w.functions in
    let new : c.new-out.result.items ≡ [] = search rules in
    whole c.args.image.now i c.new-out.result.items c.put_functions.new.out.items is.seen.image new (c.in_ok-put_functions.ensures i i.functions is (search (rules, these)))
