use Rattle.std.proofs.Common.{◌∙◌, ap, get_or, arith}
use Rattle.std.specs.Option.{unwrap_or}
use Rattle.rv64_emit.proofs.WordsBefore.{word_of_place}
use Rattle.rv64_emit.proofs.starts.Starts.word.Goals as goal

pub returns : goal.returns
returns c r h =
    let s = c.args.self.now in
    let p = c.args.place in
    c.unwrap_or.ensures ∙ (ap (λ o. unwrap_or o s.end) c.copied.ensures ∙ (c.get.ensures.lookup.4 (omega arith) s.end ∙ (ap (λ l. get_or l p s.end) c.deref.ensures.value
    ∙ word_of_place s r p h)))
