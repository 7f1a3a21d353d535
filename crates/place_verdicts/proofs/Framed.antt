-- The text of a frame, put part by part.
use Rattle.std.proofs.Common.{◌≡◌, ◌++◌, ℕ, Bool, List, ap, ◌∙◌, append_assoc, Option}
use Rattle.eh_bytes.specs.Memory.{Memory}
use Rattle.table_forms.specs.declared.found.Verdict.{Verdict}
use Rattle.table_forms.specs.Fde as forms
use Rattle.table_forms.specs.Lsda.{Table}
use Rattle.table_forms.specs.Verdict.{Thrown, look_up_place, verdict}
use Rattle.elf_image.specs.Clean.{Function}
use Rattle.frame_read.specs.declared.listed.Fde.{Fde}
use Rattle.frame_read.specs.ReadsFrames.{Listing}
use Rattle.table_dump.specs.Seen.{IsFunction}
use Rattle.table_dump.specs.Entry.{IsEntry}
use Rattle.table_dump.specs.Rows.{frame_line, row_text}
use Rattle.place_verdicts.specs.Filters.{sites_text}
use Rattle.place_verdicts.specs.Frame.{verdict_line, frame_text}

four : (out a b d e : List ℕ) → out ++ a ++ b ++ d ++ e ≡ out ++ (a ++ b ++ d ++ e)
four out a b d e =
    ap (λ o. o ++ d ++ e) (append_assoc out a b) ∙ ap (λ o. o ++ e) (append_assoc out (a ++ b) d) ∙ append_assoc out (a ++ b ++ d) e

pub framed : (memory : Memory) (l : Listing) (fde : Fde) (g : Function) (thrown : Thrown) (pc : ℕ) (signal : Bool) (place : ℕ) (t : Option Table) (v : Verdict) (out a b d e : List ℕ) → IsFunction memory l fde g →
    place ≡ look_up_place pc signal → a ≡ out ++ frame_line fde.region.start fde.region.length → ((f : forms.Fde) → IsEntry memory l fde f → b ≡ a ++ row_text f place) → t ≡ g.table →
    d ≡ b ++ sites_text t thrown place → v ≡ verdict t pc signal thrown → e ≡ d ++ verdict_line v → e ≡ out ++ frame_text thrown pc signal g
framed memory l fde g thrown pc signal place t v out a b d e is at p q same r w s =
    let listed = is.entry.listed in
    let F = frame_line g.fde.region.start g.fde.region.length in
    let V = verdict_line (verdict g.table pc signal thrown) in
    s ∙ ap (λ x. d ++ verdict_line x) (w ∙ ap (λ x. verdict x pc signal thrown) same) ∙
    ap (λ o. o ++ V) (r ∙ ap (λ x. b ++ sites_text x thrown place) same ∙ ap (λ o. o ++ sites_text g.table thrown place)
    (q g.fde is.entry ∙ ap (λ o. o ++ row_text g.fde place) (p ∙ ap (λ (x : Fde). out ++ frame_line x.region.start x.region.length) listed))) ∙
    four out F (row_text g.fde place) (sites_text g.table thrown place) V ∙
    ap (λ x. out ++ (F ++ row_text g.fde x ++ sites_text g.table thrown x ++ V)) at
