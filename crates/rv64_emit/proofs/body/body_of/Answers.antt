use Rattle.std.proofs.Common.{◌∙◌, ap, map, length, sym}
use Rattle.std.proofs.lemmas.List.{length-map}
use Rattle.landing_pads.specs.View.{code_of, linear_of}
use Rattle.linear_forms.specs.Tables.{label_place}
use Rattle.rv64_emit.proofs.Composed.{body_stands}
use Rattle.rv64_emit.proofs.body.body_of.Goals as goal

pub returns : goal.returns
returns c =
    let ops = c.as_slice.result.now in
    body_stands (record { code = c.put_operations.new.code; starts = c.in_ok-starts.starts; labels = c.in_ok-labels.labels }) (code_of c.args.function.now)
    c.args.frame.now c.new-code.result c.put_front.new.code (map linear_of ops) (length c.as_slice-2.result.now) c.requires c.new-code.ensures
    c.in_ok-put_front.ensures (ap (map linear_of) c.as_slice.ensures.value) c.in_ok-starts.ensures.code c.in_ok-starts.ensures.starts c.in_ok-starts.ensures.end
    (ap length (c.as_slice-2.ensures.value ∙ sym c.as_slice.ensures.value) ∙ sym (length-map ops linear_of))
    (λ l. c.in_ok-labels.ensures l ∙ ap (λ os. label_place (map linear_of os) l 0) (c.as_slice-2.ensures.value ∙ sym c.as_slice.ensures.value))
