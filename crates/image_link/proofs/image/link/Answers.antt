use Rattle.std.proofs.Common.{◌+◌, ◌*◌, ◌≤◌, length, subst, sym}
use Rattle.eh_bytes.specs.Listed.{listed_unit}
use Rattle.image_link.specs.Runs.{RunsUnit}
use Rattle.image_link.proofs.Images.{few_bytes}
use Rattle.image_link.proofs.image.link.Goals as goal

pub returns : goal.returns
returns c =
    let u = listed_unit c.args.emitted.now in
    let image = c.in_ok-link_placed.ensures in
    record {
      bytes = image.bytes;
      stands = image.stands;
      lists = image.lists;
      runs = λ can. subst (RunsUnit u) (sym image.bytes) (image.runs can);
      few = λ can. subst (λ bytes. length bytes ≤ 768 * u.tokens + 131072) (sym image.bytes) (few_bytes u can);
    }
