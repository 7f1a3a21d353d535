use Rattle.std.proofs.Common.{◌++◌, fold, ap, sym, ◌∙◌}
use Rattle.std.proofs.lemmas.List.Sums.{fold-append}
use Rattle.eh_bytes.specs.Memory.{part_of}
use Rattle.table_forms.specs.Instructions.{instructions_at}
use Rattle.frame_read.specs.Seen.{coding_seen}
use Rattle.frame_read.specs.Search.{searched}
use Rattle.frame_read.specs.States.{list_of}
use Rattle.frame_read.specs.declared.search.Search.{Search}
use Rattle.frame_read.proofs.Searched.{is_whole}
use Rattle.frame_read.proofs.Searches.{begins, finds}
use Rattle.frame_read.proofs.search_fold.next_of.Goals as goal

pub returns : goal.returns
returns c =
    let s = part_of c.args.segment.now in let cie = c.args.cie.now in let f = c.args.fde.now in let co = coding_seen cie.coding in
    let common = instructions_at co s cie.stop cie.first 0 in
    let own = instructions_at co s f.stop f.first cie.states in
    ap (λ (x : Search). x.least) (
    c.goes_over-2.ensures.seen cie.states c.requires.own ∙
    ap (λ (x : Search). fold searched x (list_of own)) (c.goes_over.ensures.seen 0 (is_whole common cie.states c.requires.whole))
    ) ∙
    ap (λ (x : Search). x.least) (sym (fold-append searched (begins f.region c.args.pc) (list_of common) (list_of own))) ∙
    finds f.region c.args.pc (list_of common ++ list_of own) c.requires.ends
