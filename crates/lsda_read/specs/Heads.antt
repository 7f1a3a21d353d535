-- A head as the definition has it.
use Rattle.std.specs.Prelude.{ℕ, Option, option_map}
use Rattle.table_forms.specs.LsdaHead as forms
use Rattle.lsda_read.specs.declared.head.Types.{Types}
use Rattle.lsda_read.specs.declared.head.Head.{Head}

abbrev pub types_of : Types → forms.Types
types_of t = record { base = t.base; encoding = t.encoding; size = t.size }

abbrev pub types_seen : Option Types × ℕ → Option forms.Types × ℕ
types_seen x = (option_map types_of x.0, x.1)

abbrev pub head_seen : Head → forms.Head
head_seen h = record {
  pads_from = h.pads_from;
  types = option_map types_of h.types;
  site_encoding = h.site_encoding;
  sites_at = h.sites_at;
  actions_at = h.actions_at;
}
