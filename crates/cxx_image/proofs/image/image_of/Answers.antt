use Rattle.std.proofs.Common.{◌≡◌, ◌∙◌, ℕ, List, Option, sym, ap, subst, IfOk}
use Rattle.eh_bytes.specs.Listed.{ListedUnit, listed_unit}
use Rattle.cxx_ast.specs.View.{checked_of}
use Rattle.region_forms.specs.Layout.{ClassLayout, layout_of}
use Rattle.region_forms.specs.LowerProgram.{regions_of}
use Rattle.linear_forms.specs.Unit.{unit_of}
use Rattle.machine_forms.specs.Emitted.{emitted_of}
use Rattle.image_forms.specs.Linkable.{IsLinkable}
use Rattle.image_forms.specs.Symbols.{Names, named}
use Rattle.image_link.specs.Names.{names_of}
use Rattle.symbol_names.specs.Names.{functions_names, types_names}
use Rattle.cxx_image.specs.Image.{names_for}
use Rattle.image_link.specs.Runs.{RunsUnit}
use Rattle.source_bounds.specs.Compiled.{emitted_for}
use Rattle.class_layout.specs.View.{laid_out}
use Rattle.class_layout.proofs.Program.{classes_fit}
use Rattle.cxx_image.proofs.image.image_of.Goals as goal

abbrev made : (functions types globals : List (Option (List ℕ))) → Names
made functions types globals = record { functions = functions; types = types; globals = globals }

pub layout-requires : goal.layout-requires
layout-requires c = classes_fit (checked_of c.args.program.now) c.requires

pub returns-clause-bytes : goal.returns-clause-bytes
returns-clause-bytes c =
    let p = checked_of c.args.program.now in
    let laid : laid_out c.in_ok-layout.layout ≡ layout_of p = ap (λ (classes : List ClassLayout). record { classes = classes }) c.in_ok-layout.ensures.exact in
    let regions = c.in_ok-regions.ensures.lowered ∙ ap (regions_of p) laid in
    let unit = c.in_ok-unit.ensures ∙ ap unit_of regions in
    let emitted : listed_unit c.in_ok-emitted.emitted ≡ emitted_for p = c.in_ok-emitted.ensures ∙ ap emitted_of unit in
    let given = c.in_ok-names.names in
    let said = c.in_ok-names.ensures in
    let names : names_of given ≡ names_for p = ap (λ fs. made fs given.types.items given.globals.items) said.functions ∙
    ap (λ ts. made (functions_names p) ts given.globals.items) said.types ∙ ap (made (functions_names p) (types_names p)) said.globals in
    subst (λ bytes. IfOk c.link_named.result (λ file. file.items ≡ bytes)) (ap (λ n. named n (listed_unit c.in_ok-emitted.emitted)) names ∙ ap (named (names_for p)) emitted) c.link_named.ensures.bytes

pub returns-clause-runs : goal.returns-clause-runs
returns-clause-runs c =
    let p = checked_of c.args.program.now in
    let laid : laid_out c.in_ok-layout.layout ≡ layout_of p = ap (λ (classes : List ClassLayout). record { classes = classes }) c.in_ok-layout.ensures.exact in
    let regions = c.in_ok-regions.ensures.lowered ∙ ap (regions_of p) laid in
    let unit = c.in_ok-unit.ensures ∙ ap unit_of regions in
    let emitted : listed_unit c.in_ok-emitted.emitted ≡ emitted_for p = c.in_ok-emitted.ensures ∙ ap emitted_of unit in
    subst (λ u. IfOk c.link_named.result (λ file. RunsUnit u file.items)) emitted (c.link_named.ensures.runs (subst IsLinkable (sym emitted) (c.checked_is_linkable.ensures p c.requires)))
