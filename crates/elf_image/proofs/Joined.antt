-- The refusal that answers of two groups, and of the segments that are loaded one by one.
use Rattle.std.proofs.Common.{◌≡◌, ◌+◌, ◌<◌, ℕ, List, [], ◌∷◌, ◌++◌, length, take, drop, slice_index_or, ap, sym, ◌∙◌, append-nil}
use Rattle.std.specs.Prelude.{Option, None}
use Rattle.table_forms.specs.declared.reason.Reason.TheVariants.{SegmentRange}
use Rattle.table_forms.specs.Fault.{Fault, unless, least, joined}
use Rattle.table_forms.proofs.Least.{least-append, joined_joined, joined_none}
use Rattle.elf_image.proofs.Turns.{drop_turn, take_turn}
use Rattle.elf_image.specs.declared.program.ProgramHeader.{ProgramHeader}
use Rattle.elf_image.specs.Loads.{one_faults, load_faults, is_low, low_faults}

pub least_of_both : (a b : List Fault) → joined (least a) (least b) ≡ least (a ++ b)
least_of_both a b = sym (least-append a b)

-- behind the refusals of those before come those of one and then of the rest
more : (so_far : Option Fault) (a b : List Fault) → joined so_far (least (a ++ b)) ≡ joined (joined so_far (least a)) (least b)
more so_far a b = ap (joined so_far) (least-append a b) ∙ joined_joined so_far (least a) (least b)

pub load_turn : (so_far : Option Fault) (len before : ℕ) (all : List ProgramHeader) (at : ℕ) (d : ProgramHeader) → at < length all →
    joined so_far (least (load_faults len before (take at all) (drop at all))) ≡
    joined (joined so_far (least (one_faults len before (take at all) (slice_index_or all at d))))
    (least (load_faults len (before + (slice_index_or all at d).memory_size) (take (at + 1) all) (drop (at + 1) all)))
load_turn so_far len before all at d inside =
    let h = slice_index_or all at d in
    ap (λ x. joined so_far (least (load_faults len before (take at all) x))) (drop_turn all at d inside) ∙
    more so_far (one_faults len before (take at all) h) (load_faults len (before + h.memory_size) (take at all ++ h ∷ []) (drop (at + 1) all)) ∙
    ap (λ x. joined (joined so_far (least (one_faults len before (take at all) h))) (least (load_faults len (before + h.memory_size) x (drop (at + 1) all))))
    (sym (take_turn all at d inside))

pub load_end : (so_far : Option Fault) (len before : ℕ) (earlier rest : List ProgramHeader) → rest ≡ [] → joined so_far (least (load_faults len before earlier rest)) ≡ so_far
unfolding least
load_end so_far len before earlier rest none = ap (λ x. joined so_far (least (load_faults len before earlier x))) none ∙ sym (joined_none so_far)

pub low_step : (so_far : Option Fault) (before : ℕ) (h : ProgramHeader) (rest : List ProgramHeader) →
    joined so_far (least (low_faults before (h ∷ rest))) ≡ joined (joined so_far (least (unless (is_low before h) SegmentRange h.place))) (least (low_faults (before + h.memory_size) rest))
low_step so_far before h rest = more so_far (unless (is_low before h) SegmentRange h.place) (low_faults (before + h.memory_size) rest)

pub none_more : (so_far : Option Fault) → joined so_far None ≡ so_far
none_more so_far = sym (joined_none so_far)

pub no_more_faults : (a : List Fault) → least (a ++ []) ≡ least a
no_more_faults a = ap least (append-nil a)
