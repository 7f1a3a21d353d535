use Rattle.std.proofs.Common.{◌+◌, option_map, vec_len, Some, None, Option, arith, ap, ◌∙◌, subst, sym, Ok}
use Rattle.table_forms.proofs.Least.{joined_none}
use Rattle.eh_bytes.specs.Memory.{part_of, memory_of}
use Rattle.table_forms.specs.LsdaTypes.{entry_at}
use Rattle.table_forms.specs.Fault.{Fault, least, joined, refusal_of}
use Rattle.table_forms.specs.Seen.{fault_of}
use Rattle.lsda_read.specs.Heads.{head_seen, types_of}
use Rattle.lsda_read.proofs.OnWay.{OnWay, is_done, goes_on}
use Rattle.lsda_read.proofs.Indices.{list_rest, list_fails, list_ends, list_goes}
use Rattle.lsda_read.proofs.list.list_refusal.Goals as goal

pub returns-in-Err : goal.returns-in-Err
returns-in-Err c =
    let m = memory_of c.args.memory.now in let s = part_of c.args.segment.now in let h = head_seen c.args.head.now in let t = types_of c.args.types.now in
    c.joined.ensures ∙
    is_done (list_rest m s h t c.args.named_at c.args.first) (vec_len c.args.segment.now.bytes) (list_rest m s h t c.args.named_at c.args.first (1 + vec_len c.args.segment.now.bytes) c.args.first) (option_map fault_of c.indices.least) (Some (fault_of c.in-Err.e)) c.indices.place c.indices.invariant.0
    (λ n. list_fails m s h t c.args.named_at c.args.first c.indices.place n (fault_of c.in-Err.e) c.in-Err.ensures.reads) c.indices.invariant.1

pub returns-then-index-eq0 : goal.returns-then-index-eq0
returns-then-index-eq0 c =
    let m = memory_of c.args.memory.now in let s = part_of c.args.segment.now in let h = head_seen c.args.head.now in let t = types_of c.args.types.now in
    joined_none (option_map fault_of c.indices.least) ∙
    is_done (list_rest m s h t c.args.named_at c.args.first) (vec_len c.args.segment.now.bytes) (list_rest m s h t c.args.named_at c.args.first (1 + vec_len c.args.segment.now.bytes) c.args.first) (option_map fault_of c.indices.least) None c.indices.place c.indices.invariant.0
    (λ n. list_ends m s h t c.args.named_at c.args.first c.indices.place c.in-Ok.next n (c.in-Ok.ensures.reads ∙ ap (λ k. Ok (k, c.in-Ok.next)) c.if-index-eq0.true)) c.indices.invariant.1

pub indices-preserved : goal.indices-preserved
indices-preserved c =
    let m = memory_of c.args.memory.now in let s = part_of c.args.segment.now in let h = head_seen c.args.head.now in let t = types_of c.args.types.now in
    let R = list_rest m s h t c.args.named_at c.args.first in
    let total = list_rest m s h t c.args.named_at c.args.first (1 + vec_len c.args.segment.now.bytes) c.args.first in
    let P : Option Fault → Type 0 = λ o. OnWay R (vec_len c.args.segment.now.bytes) total o c.in-Ok.next in (
      c.in-Ok.ensures.inside,
      subst P (sym (c.joined-least.ensures ∙ ap (joined (option_map fault_of c.indices.least)) c.entry_refusal.ensures))
          (goes_on R R (vec_len c.args.segment.now.bytes) total (option_map fault_of c.indices.least) (least (refusal_of (entry_at m s h t c.args.named_at c.in-Ok.index))) c.indices.place c.in-Ok.next c.in-Ok.ensures.on c.indices.invariant.0
          (λ n. list_goes m s h t c.args.named_at c.args.first c.indices.place c.in-Ok.index c.in-Ok.next n (omega (arith, c.if-index-eq0.false)) c.in-Ok.ensures.reads) c.indices.invariant.1),
    )
