use Rattle.std.proofs.Common.{◌<◌, ◌≤◌, ◌^◌, ◌-◌, ◌∙◌, [], ◌∷◌, drop, slice_set, ap, sym, subst, rules, refl, codes}
use Rattle.std.proofs.lemmas.List.{length-set}
use Rattle.eh_commands.specs.Report.{Says}
use Rattle.eh_commands.proofs.Reports.{says_then}
use Rattle.eh_commands.proofs.Hexadecimal.{hex_none, hex_more, hex_last, behind}
use Rattle.eh_commands.proofs.report.say_hex.Goals as goal

pub loop-rest-init : goal.loop-rest-init
loop-rest-init g c =
    let small : c.args.number < 2 ^ 64 = search rules in
    (hex_none c.args.number (0 ∷ 0 ∷ 0 ∷ 0 ∷ 0 ∷ 0 ∷ 0 ∷ 0 ∷ 0 ∷ 0 ∷ 0 ∷ 0 ∷ 0 ∷ 0 ∷ 0 ∷ 0 ∷ []) refl small, refl)

pub loop-rest-preserved : goal.loop-rest-preserved
loop-rest-preserved g c =
    let some : 16 ≤ c.loop-rest.rest = search rules in
    let full = c.loop-rest.invariant.1 in
    let more = hex_more c.args.number c.loop-rest.text c.loop-rest.start c.loop-rest.rest c.loop-rest.invariant.0 some full in
    (rw c.glyph.ensures more, length-set c.loop-rest.text (c.loop-rest.start - 1) c.glyph.result ∙ full)

pub returns-then-say : goal.returns-then-say
returns-then-say g c =
    let few : c.loop-rest.rest < 16 = search rules in
    let last = hex_last c.args.number c.loop-rest.text c.loop-rest.start c.loop-rest.rest c.loop-rest.invariant.0 few c.loop-rest.invariant.1 in
    let spelled = last ∙ ap (λ d. drop (c.loop-rest.start - 1) (slice_set c.loop-rest.text (c.loop-rest.start - 1) d)) (sym c.glyph-2.ensures) in
    let front = subst (λ b. Says (codes "0x") (g.Er.Sink.view c.args.err.now) (g.Er.Sink.view c.say.new.err) b) c.if-say.true c.say.ensures in
    let text = slice_set c.loop-rest.text (c.loop-rest.start - 1) c.glyph-2.result in
    let full = length-set c.loop-rest.text (c.loop-rest.start - 1) c.glyph-2.result ∙ c.loop-rest.invariant.1 in
    let put = subst (λ bytes. Says bytes (g.Er.Sink.view c.say.new.err) (g.Er.Sink.view c.say_bytes.new.err) c.say_bytes.result) (behind text (c.loop-rest.start - 1) full) c.say_bytes.ensures in
    rw spelled (says_then (codes "0x") (drop (c.loop-rest.start - 1) text) (g.Er.Sink.view c.args.err.now) (g.Er.Sink.view c.say.new.err) (g.Er.Sink.view c.say_bytes.new.err) c.say_bytes.result front put)
