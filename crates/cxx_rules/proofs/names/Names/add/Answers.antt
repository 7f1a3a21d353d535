use Rattle.std.proofs.Common.{◌∙◌, bytes_eq}
use Rattle.indexmap.proofs.CallerLemmas.{insert_entry-new}
use Rattle.cxx_rules.proofs.NameLaws.{none_there, name_added}
use Rattle.cxx_rules.proofs.names.Names.add.Goals as goal

pub returns : goal.returns
returns c =
    let text = c.in_ok-from_slice.ensures.items in
    let absent = none_there c.in_ok-from_slice.field-0.items c.self.inside.map.entries (rw text (rw c.self.view_is c.requires)) in
    let added = insert_entry-new (λ a b. bytes_eq a.items b.items) c.self.inside.map c.in_ok-from_slice.field-0 c.args.thing absent in
    name_added c.args.text.now c.in_ok-from_slice.field-0 c.args.thing c.self.inside.map.entries _ _ (c.in_ok-insert.ensures.entries ∙ added) text c.self.view_is
