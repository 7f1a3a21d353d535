-- What is refused of places where something may be written.
use Rattle.std.proofs.Common.{◌≡◌, ◌∙◌, refl, sym, ap, List, [], ◌∷◌, ◌++◌, length, map, Option}
use Rattle.std.specs.Prelude.{flat_map}
use Rattle.eh_bytes.specs.Memory.{Memory}
use Rattle.table_forms.specs.Fault.{Fault, least, joined}
use Rattle.table_forms.proofs.Least.{least-append, joined_joined, joined_none}
use Rattle.frame_read.specs.Listed.{fde_listed}
use Rattle.frame_read.specs.declared.listed.Fde.{Fde}
use Rattle.elf_image.specs.Clean.{Function}
use Rattle.elf_image.specs.Runnable as forms
use Rattle.eh_run.specs.Written.{table_written, tables_written}

-- one table more
pub one_more : (memory : Memory) (o : Option Fault) (f : Fde) (fs : List Fde) →
    joined o (least (tables_written memory (f ∷ fs))) ≡ joined (joined o (least (table_written memory f.lsda))) (least (tables_written memory fs))
one_more memory o f fs =
    ap (joined o) (least-append (table_written memory f.lsda) (tables_written memory fs)) ∙ joined_joined o (least (table_written memory f.lsda)) (least (tables_written memory fs))

pub no_more : (memory : Memory) (o : Option Fault) → joined o (least (tables_written memory [])) ≡ o
unfolding least
no_more memory o = sym (joined_none o)

-- of three lists
pub least_of_three : (a b d : List Fault) → joined (joined (least a) (least b)) (least d) ≡ least (a ++ b ++ d)
least_of_three a b d = sym (least-append (a ++ b) d ∙ ap (λ o. joined o (least d)) (least-append a b))

-- the tables that functions name are those of their FDEs
pub tables_listed : (memory : Memory) (gs : List Function) → tables_written memory (map (λ g. fde_listed g.fde) gs) ≡ flat_map (forms.table_written memory) gs
tables_listed memory [] = refl
tables_listed memory (g ∷ gs) = ap (λ fs. table_written memory g.fde.lsda ++ fs) (tables_listed memory gs)

pub empty : (fs : List Fde) → length fs ≡ 0 → fs ≡ []
empty [] e = refl
empty (f ∷ fs) e = absurd cc
