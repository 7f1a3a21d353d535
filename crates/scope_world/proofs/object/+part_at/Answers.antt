use Rattle.std.proofs.Common.{◌≡◌, ◌∷◌, rules, refl, None}
use Rattle.meaning_forms.specs.Part.{cell, subparts, nth_part}
use Rattle.scope_world.specs.Objects.{part_of}
use Rattle.scope_world.proofs.Parted.{past_end}
use Rattle.scope_world.proofs.object.+part_at.Goals as goal

pub returns-in-Cell : goal.returns-in-Cell
returns-in-Cell t c =
    let all : c.args.path.now ≡ c.in-Some.place.now ∷ c.in-Some.path.now = search rules in
    past_end (part_of c.args.part.now) c.in-Some.path.now c.args.path.now c.in-Some.place.now all (rw c.in-Cell.is refl)

pub returns-in-None : goal.returns-in-None
returns-in-None t c =
    let all : c.args.path.now ≡ c.in-Some.place.now ∷ c.in-Some.path.now = search rules in
    let gone : nth_part (subparts (part_of c.args.part.now)) c.in-Some.place.now ≡ cell None = search rules in
    past_end (part_of c.args.part.now) c.in-Some.path.now c.args.path.now c.in-Some.place.now all gone
