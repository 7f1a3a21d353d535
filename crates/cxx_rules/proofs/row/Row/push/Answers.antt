use Rattle.std.proofs.Common.{ap, ◌∙◌, sym, subst, bytes_eq, find, ◌++◌, ◌∷◌, []}
use Rattle.std.proofs.lemmas.List.{map-append}
use Rattle.indexmap.proofs.CallerLemmas.{insert_entry-new}
use Rattle.cxx_rules.specs.ScopeOf.{variables_of, AreNamed}
use Rattle.cxx_rules.proofs.RowLaws.{named_found, named_push, none_found}
use Rattle.cxx_rules.proofs.row.Row.push.Goals as goal

pub invariant_of-self-2 : goal.invariant_of-self-2
invariant_of-self-2 c =
    let es = c.self.inside.variables.entries in
    let name = c.in_ok-name.ensures.items ∙ c.text.ensures in
    let absent = named_found c.in_ok-name.name.items es c.self.invariant ∙ ap (λ t. find (λ v. bytes_eq v.text t) (variables_of es)) name
    ∙ ap (find (λ v. bytes_eq v.text c.args.variable.text)) c.self.view_is ∙ none_found _ c.requires in
    let added = insert_entry-new (λ a b. bytes_eq a.items b.items) c.self.inside.variables c.in_ok-name.name c.args.variable absent in
    subst AreNamed (sym (c.in_ok-insert.ensures.entries ∙ added)) (named_push c.in_ok-name.name c.args.variable es c.self.invariant name)

pub returns : goal.returns
returns c =
    let es = c.self.inside.variables.entries in
    let name = c.in_ok-name.ensures.items ∙ c.text.ensures in
    let absent = named_found c.in_ok-name.name.items es c.self.invariant ∙ ap (λ t. find (λ v. bytes_eq v.text t) (variables_of es)) name
    ∙ ap (find (λ v. bytes_eq v.text c.args.variable.text)) c.self.view_is ∙ none_found _ c.requires in
    let added = insert_entry-new (λ a b. bytes_eq a.items b.items) c.self.inside.variables c.in_ok-name.name c.args.variable absent in
    ap variables_of (c.in_ok-insert.ensures.entries ∙ added) ∙ map-append (λ e. e.1) es ((c.in_ok-name.name, c.args.variable) ∷ [])
    ∙ ap (λ vs. vs ++ c.args.variable ∷ []) c.self.view_is
