use Rattle.std.proofs.Common.{◌∙◌, ap, map}
use Rattle.landing_pads.specs.View.{code_of, site_of}
use Rattle.machine_forms.specs.Emitted.{function_routine}
use Rattle.machine_forms.specs.Routine.{chains_of, listed_site}
use Rattle.rv64_emit.proofs.Listed.{same_table}
use Rattle.rv64_emit.proofs.table.table_of.Goals as goal

pub returns : goal.returns
returns c =
    let r = function_routine (code_of c.args.function.now) in
    let sites = c.as_slice-sites.ensures.value in
    let chains = c.in_ok-chains.ensures ∙ ap (λ xs. chains_of (map site_of xs)) sites in
    let named = ap (map (λ x. x.items)) c.as_slice.ensures.value ∙ chains in
    same_table (c.in_ok-listed_sites.ensures r c.requires named ∙ ap (λ xs. map (listed_site r) (map site_of xs)) sites) chains
    (c.in_ok-types_of.ensures ∙ c.as_slice-2.ensures.value) (c.in_ok-lists_of.ensures ∙ ap (map (λ x. x.items)) c.as_slice-3.ensures.value)
