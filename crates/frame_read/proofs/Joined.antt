-- The refusal that answers of lists put together.
use Rattle.std.proofs.Common.{◌≡◌, List, ◌++◌, Option, Some, None, option_map, refl, ap, ◌∙◌}
use Rattle.table_forms.specs.Fault.{Fault, least, joined}
use Rattle.table_forms.specs.Seen.{fault_of}
use Rattle.frame_read.specs.SeenSpan.{cut_of}
use Rattle.table_forms.specs.declared.refusal.Refusal.{Refusal}
use Rattle.table_forms.proofs.Least.{least-append}

-- the law of lists, by a name that an attribute can have
pub two : (a b : List Fault) → least (a ++ b) ≡ joined (least a) (least b)
two a b = least-append a b

pub three : (a b c : List Fault) → least (a ++ b ++ c) ≡ joined (joined (least a) (least b)) (least c)
three a b c = least-append (a ++ b) c ∙ ap (λ o. joined o (least c)) (least-append a b)

pub least_cut : (cut : Option Refusal) → least (cut_of cut) ≡ option_map fault_of cut
unfolding least
least_cut None = refl
least_cut (Some e) = refl
