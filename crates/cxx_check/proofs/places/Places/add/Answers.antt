use Rattle.std.proofs.Common.{ap, ◌∙◌, bytes_eq}
use Rattle.std.specs.Map.{lookup}
use Rattle.cxx_check.specs.Places.{lesser_place}
use Rattle.cxx_check.proofs.PlaceLaws.{places_with}
use Rattle.cxx_check.proofs.places.Places.add.Goals as goal

pub returns : goal.returns
returns c names h =
    let n = c.args.name.now in
    let es = c.args.self.now.first.entries in
    record {
      first = places_with n c.in_ok-key.key c.lesser_place-least.result es _ names h.first (c.in_ok-key.ensures.items ∙ c.as_bytes-text.ensures)
          (c.lesser_place-least.ensures ∙ ap (lesser_place n.place) (c.copied.ensures ∙ c.get.ensures.value ∙ ap (λ t. lookup (λ k. bytes_eq t k.items) es) c.as_bytes-text.ensures))
          c.in_ok-insert.ensures.entries;
    }
