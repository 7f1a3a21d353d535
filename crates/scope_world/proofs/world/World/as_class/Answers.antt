use Rattle.std.proofs.Common.{◌∙◌, ◌++◌, sym, ap}
use Rattle.std.proofs.lemmas.List.{append-nil}
use Rattle.meaning_forms.specs.Part.{path_to_class}
use Rattle.scope_world.specs.Objects.{part_of}
use Rattle.scope_world.proofs.world.World.as_class.Goals as goal

pub returns-in-None : goal.returns-in-None
returns-in-None g c = λ d.
    let path = c.args.at.path.items in
    ap (λ p. record { object = c.args.at.object; path = p }) (sym (append-nil path) ∙ ap (λ a. path ++ path_to_class c.args.class a) (c.in-None.ensures d))

pub returns-in_ok-put_path_to-in-Some : goal.returns-in_ok-put_path_to-in-Some
returns-in_ok-put_path_to-in-Some g c = λ d.
    let path = c.args.at.path.items in
    ap (λ p. record { object = c.args.at.object; path = p })
    (c.in_ok-put_path_to-in-Some.ensures
    ∙ ap (λ p. p ++ path_to_class c.args.class (part_of c.in-Some.part.now)) (c.in_ok-path.ensures.items ∙ c.as_slice.ensures.value)
    ∙ ap (λ a. path ++ path_to_class c.args.class a) (c.in-Some.ensures d))
