use Rattle.std.proofs.Common.{◌≡◌, ◌∙◌, ◌<◌, ◌+◌, [], ◌∷◌, ◌++◌, drop, length, map, ap, sym, refl, subst, arith, rules}
use Rattle.std.proofs.lemmas.List.{drop_all, drop_more}
use Rattle.region_forms.specs.Form.{barrier, bind, branch, catch, limit, loop, protect, seq, regions_from, region_then, clause_then, through}
use Rattle.linear_forms.specs.Linear.{jump, jump_filter, jump_zero, label, pad, plain, resume, unexpected}
use Rattle.linear_forms.specs.Code.{labels, labels_all, labels_clauses, region_code, all_code, clauses_code}
use Rattle.region_forms.specs.Guard.{types_of}
use Rattle.linear_forms.specs.Emission.{filters_of, guarded, quiet, outward}
use Rattle.linear_forms.specs.Tables.{bare}
use Rattle.linear_forms.specs.Distinct.{distinct}
use Rattle.linear_forms.specs.Exits.{beyond, exit_to, outs_of}
use Rattle.region_ir.specs.View.{cleanup_of, clauses_of, region_of, value_of}
use Rattle.landing_pads.specs.Emitted.{Emitted}
use Rattle.landing_pads.specs.Given.{emitting_of, exit_of, exits_of}
use Rattle.landing_pads.specs.View.{cover_of, placed_of}
use Rattle.landing_pads.proofs.Weight.{weight, weight_all, weight_clauses}
use Rattle.landing_pads.proofs.Composed.{all_done, clauses_done, types_counted, branch_emitted, catch_emitted, clauses_onward, all_onward, handlers_moved, closed_emitted, limit_emitted, loop_emitted, protect_emitted, sequence_emitted}
use Rattle.landing_pads.proofs.Stack.{exits_pushed, popped}
use Rattle.std.specs.Prelude.{IfOk, OnOk}
use Rattle.std.specs.Vec.{vec_len}
use Rattle.region_ir.proofs.Rows.{region_rows}
use Rattle.std.proofs.lemmas.Int.{to_z-of_z}
use mir.Syntax.{w64}
use mir.Val.{SFits}
use Rattle.landing_pads.proofs.emission.+emission.Goals as goal

pub branched-returns-clause-code : goal.branched-returns-clause-code
branched-returns-clause-code t c =
    let em = emitting_of c.args.e.now in
    let cover = cover_of c.args.cover.now in
    let l = c.args.label in
    let v = value_of c.args.test.now in
    let a = region_of c.args.first.now in
    let b = region_of c.args.second.now in
    let xs = exits_of c.args.exits.now.items in
    let s0 = c.args.code.now.items in
    let s1 = c.put_test.new.code.items in
    let s2 = c.inside.new.code.items in
    let s3 = c.put_quiet.new.code.items in
    let s4 = c.put_quiet-2.new.code.items in
    let s5 = c.inside-2.new.code.items in
    let s6 = c.put_quiet-3.new.code.items in
    let test : Emitted s0 s1 (quiet (jump_zero v (l + 1)) ∷ []) =
    subst (λ m. Emitted s0 s1 (quiet (jump_zero v m) ∷ [])) c.in_ok-other_side.ensures
    c.in_ok-put_test.ensures in
    let side : Emitted s3 s4 (quiet (label (l + 1)) ∷ []) = subst (λ m. Emitted s3 s4 (quiet (label m) ∷ [])) c.in_ok-other_side.ensures c.in_ok-put_quiet-2.ensures in
    branch_emitted em cover xs (exit_of c.exit_to.result ∷ xs) (exit_of c.exit_to-2.result ∷ exits_of c.inside.new.exits.items) l c.in_ok-behind.field-0 c.in_ok-next.next v a b
    s0 s1 s2 s3 s4 s5 s6 (ap (λ x. x ∷ xs) c.exit_to.ensures)
    (ap (λ x. x ∷ exits_of c.inside.new.exits.items) c.exit_to-2.ensures ∙ ap (λ ys. exit_to l ∷ exits_of ys) c.in_ok-next.ensures.exits)
    c.in_ok-behind.ensures c.in_ok-next.ensures.next test c.in_ok-next.ensures.code c.in_ok-put_quiet.ensures side c.in_ok-next-2.ensures.code c.in_ok-put_quiet-3.ensures

pub repeated-returns-clause-code : goal.repeated-returns-clause-code
repeated-returns-clause-code t c =
    let em = emitting_of c.args.e.now in
    let cover = cover_of c.args.cover.now in
    let l = c.args.label in
    let v = value_of c.args.test.now in
    let xs = exits_of c.args.exits.now.items in
    let s0 = c.args.code.now.items in
    let s1 = c.put_quiet.new.code.items in
    let s2 = c.put_test.new.code.items in
    let s3 = c.inside.new.code.items in
    let s4 = c.put_quiet-2.new.code.items in
    let s5 = c.put_quiet-3.new.code.items in
    let front : Emitted s0 s1 (quiet (label (l + 1)) ∷ []) = subst (λ m. Emitted s0 s1 (quiet (label m) ∷ [])) c.in_ok-start.ensures c.in_ok-put_quiet.ensures in
    let test : Emitted s1 s2 (quiet (jump_zero v l) ∷ []) = c.in_ok-put_test.ensures in
    let back : Emitted s3 s4 (quiet (jump (l + 1)) ∷ []) = subst (λ m. Emitted s3 s4 (quiet (jump m) ∷ [])) c.in_ok-start.ensures c.in_ok-put_quiet-2.ensures in
    loop_emitted em cover xs (exit_of c.exit_to.result ∷ xs) l c.in_ok-behind.field-0 v (region_of c.args.body.now) s0 s1 s2 s3 s4 s5 (ap (λ x. x ∷ xs) c.exit_to.ensures)
    c.in_ok-behind.ensures front test c.in_ok-next.ensures.code back c.in_ok-put_quiet-3.ensures

pub protected-returns-clause-code : goal.protected-returns-clause-code
protected-returns-clause-code t c =
    let em = emitting_of c.args.e.now in
    let cover = cover_of c.args.cover.now in
    let l = c.args.label in
    let xs = exits_of c.args.exits.now.items in
    protect_emitted em (cleanup_of c.args.cleanup) cover (cover_of c.in_ok-inner.inner) xs (exit_of c.in_ok-exit.exit ∷ xs) (exits_of c.as_slice-2.result.now) l
    c.in_ok-first.first c.in_ok-pad.pad (distinct (beyond (outs_of (region_of c.args.body.now)))) (region_of c.args.body.now) c.args.code.now.items c.put_protect_pad.new.code.items c.covered.new.code.items
    c.put_exits.new.code.items c.put_quiet.new.code.items c.in_ok-inner.ensures (c.in_ok-pad.ensures ∙ ap (λ ys. length ys + 1) c.as_slice.ensures.value)
    (ap (λ x. x ∷ xs) c.in_ok-exit.ensures) (ap exits_of (c.as_slice-2.ensures.value ∙ c.in_ok-next.ensures.exits)) c.in_ok-first.ensures refl c.in_ok-put_protect_pad.ensures
    c.in_ok-next.ensures.code c.in_ok-put_exits.ensures c.in_ok-put_quiet.ensures

pub limited-returns-clause-code : goal.limited-returns-clause-code
limited-returns-clause-code t c =
    let em = emitting_of c.args.e.now in
    let cover = cover_of c.args.cover.now in
    let l = c.args.label in
    let xs = exits_of c.args.exits.now.items in
    let n = c.in_ok-filter.filter in
    let q = c.in_ok-pad.pad in
    let s0 = c.args.code.now.items in
    let s1 = c.put_limit_pad.new.code.items in
    let fits : SFits w64 n = search rules in
    let plain = to_z-of_z w64 n fits in
    let chain : cover_of c.in_ok-inner.inner ≡ guarded q (n ∷ []) cover =
    c.in_ok-inner.ensures ∙ ap (λ z. guarded q (z ∷ []) cover) plain in
    let front = subst
    (λ z. Emitted s0 s1 (quiet (jump (l + 1)) ∷ quiet (pad em.object em.selector) ∷ quiet (jump_filter em.selector z (l + 2)) ∷ outward (resume em.object) cover ∷
    quiet (label (l + 2)) ∷ outward (unexpected em.object em.selector) cover ∷ quiet (label (l + 1)) ∷ []))
    plain c.in_ok-put_limit_pad.ensures in
    limit_emitted em cover (cover_of c.in_ok-inner.inner) xs (exit_of c.exit_to.result ∷ xs) l c.in_ok-first.first q n c.args.listed.now (region_of c.args.body.now)
    s0 s1 c.covered.new.code.items c.put_quiet.new.code.items chain (c.in_ok-pad.ensures ∙ ap (λ ys. length ys + 1) c.as_slice.ensures.value)
    c.in_ok-filter.ensures (ap (λ x. x ∷ xs) c.exit_to.ensures) c.in_ok-first.ensures front c.in_ok-next.ensures.code c.in_ok-put_quiet.ensures

pub closed-returns-clause-code : goal.closed-returns-clause-code
closed-returns-clause-code t c cover =
    let em = emitting_of c.args.e.now in
    let l = c.args.label in
    let xs = exits_of c.args.exits.now.items in
    closed_emitted em cover bare xs (exit_of c.exit_to-exit.result ∷ xs) l c.in_ok-behind.field-0 (region_of c.args.body.now) c.args.code.now.items c.inside.new.code.items
    c.put_quiet.new.code.items refl (ap (λ x. x ∷ xs) c.exit_to-exit.ensures) c.in_ok-behind.ensures c.in_ok-next.ensures.code c.in_ok-put_quiet.ensures

pub inside-returns-clause-code : goal.inside-returns-clause-code
inside-returns-clause-code t c =
    let em = emitting_of c.args.e.now in
    let old = c.args.exits.now.items in
    let s = c.args.code.now.items in
    subst (λ ys. Emitted s c.region_code.new.code.items (region_code em (cover_of c.args.cover.now) ys c.args.label (length s) (region_of c.args.region.now)))
    (ap exits_of c.in_ok-push.ensures.items ∙ exits_pushed old c.args.exit) c.in_ok-next.ensures.code

pub inside-returns-clause-exits : goal.inside-returns-clause-exits
inside-returns-clause-exits t c =
    popped c.args.exits.now.items c.region_code.new.exits.items c.pop.new.self.items (vec_len c.region_code.new.exits) c.args.exit (c.in_ok-next.ensures.exits ∙ c.in_ok-push.ensures.items) (search rules) c.pop.ensures.rest

pub sequence-returns-clause-code : goal.sequence-returns-clause-code
sequence-returns-clause-code t c =
    let em = emitting_of c.args.e.now in
    let old = c.args.exits.now.items in
    let xs = exits_of old in
    sequence_emitted em (cover_of c.args.cover.now) xs (exits_of c.push.new.self.items) c.args.label c.in_ok-behind.field-0 (regions_from (map region_of c.args.regions.now))
    c.args.code.now.items c.all_code.new.code.items c.put_quiet.new.code.items
    (ap exits_of c.in_ok-push.ensures.items ∙ (exits_pushed old c.exit_to.result ∙ ap (λ x. x ∷ xs) c.exit_to.ensures)) c.in_ok-behind.ensures c.in_ok-next.ensures.code
    c.in_ok-put_quiet.ensures

pub sequence-returns-clause-exits : goal.sequence-returns-clause-exits
sequence-returns-clause-exits t c =
    popped c.args.exits.now.items c.all_code.new.exits.items c.pop.new.self.items (vec_len c.all_code.new.exits) c.exit_to.result (c.in_ok-next.ensures.exits ∙ c.in_ok-push.ensures.items) (search rules) c.pop.ensures.rest

pub handlers-returns-clause-code : goal.handlers-returns-clause-code
handlers-returns-clause-code t c =
    let em = emitting_of c.args.e.now in
    let old = c.args.exits.now.items in
    let s = c.args.code.now.items in
    let inner = c.args.first + length c.args.clauses.now in
    handlers_moved em (clauses_of c.args.clauses.now) (cover_of c.args.cover.now) (exits_of c.push.new.self.items) (exit_to c.args.label ∷ exits_of old) c.args.label c.args.first
    c.args.first c.in_ok-inner.inner inner (length s) (length s) s c.clauses_code.new.code.items
    (ap exits_of c.in_ok-push.ensures.items ∙ (exits_pushed old c.exit_to.result ∙ ap (λ x. x ∷ exits_of old) c.exit_to.ensures)) refl c.in_ok-inner.ensures refl
    c.in_ok-next.ensures.code

pub handlers-returns-clause-exits : goal.handlers-returns-clause-exits
handlers-returns-clause-exits t c =
    popped c.args.exits.now.items c.clauses_code.new.exits.items c.pop.new.self.items (vec_len c.clauses_code.new.exits) c.exit_to.result (c.in_ok-next.ensures.exits ∙ c.in_ok-push.ensures.items) (search rules) c.pop.ensures.rest

pub all_code-loop-region-preserved : goal.all_code-loop-region-preserved
all_code-loop-region-preserved t c =
    let rs = c.args.regions.now in
    let i = c.loop-region.region-index in
    let r = c.region-item.result in
    let left = regions_from (map region_of (drop i rs)) in
    let rest = regions_from (map region_of (drop (i + 1) rs)) in
    let within : i < length rs = omega (arith, c.loop-region-test.true) in
    let first = drop_more rs i r within ∙ ap (λ ys. ys ∷ drop (i + 1) rs) (sym c.region-item.is) in
    let split : left ≡ region_then (region_of r) rest = ap (λ x. regions_from (map region_of x)) first in
    let labelled : labels_all left ≡ labels (region_of r) + labels_all rest = ap labels_all split in
    let weighed : weight_all left ≡ weight (region_of r) + weight_all rest + 1 = ap weight_all split in
    let xs = exits_of c.args.exits.now.items in
    record {
      code =
          all_onward (emitting_of c.args.e.now) (cover_of c.args.cover.now) xs (exits_of c.loop-region.exits.items) c.loop-region.next c.in_ok-next.next (region_of r) rest left
          c.loop-region.code.items c.region_code.new.code.items
          (map placed_of c.args.code.now.items ++ all_code (emitting_of c.args.e.now) (cover_of c.args.cover.now) xs c.args.label (length c.args.code.now.items) (regions_from (map region_of rs)))
          split (ap exits_of c.loop-region.invariant.exits) c.in_ok-next.ensures.next c.in_ok-next.ensures.code c.loop-region.invariant.code;
      next = omega (arith, labelled, c.in_ok-next.ensures.next, c.loop-region.invariant.next);
      exits = c.in_ok-next.ensures.exits ∙ c.loop-region.invariant.exits;
      lighter = omega (arith, weighed, c.loop-region.invariant.lighter);
    }

pub all_code-returns-clause-code : goal.all_code-returns-clause-code
all_code-returns-clause-code t c =
    let rs = c.args.regions.now in
    let em = emitting_of c.args.e.now in
    let cover = cover_of c.args.cover.now in
    let xs = exits_of c.args.exits.now.items in
    let s = c.loop-region.code.items in
    let none = drop_all c.loop-region.region-index rs c.loop-region-test.false in
    all_done em cover xs c.loop-region.next (regions_from (map region_of (drop c.loop-region.region-index rs))) c.args.code.now.items s
    (all_code em cover xs c.args.label (length c.args.code.now.items) (regions_from (map region_of rs))) (ap (λ x. regions_from (map region_of x)) none) c.loop-region.invariant.code

pub clauses_code-loop-clause-preserved : goal.clauses_code-loop-clause-preserved
clauses_code-loop-clause-preserved t c =
    let cs = c.args.clauses.now in
    let i = c.loop-clause.clause-index in
    let x = c.clause-item.result in
    let r = region_of x.body in
    let left = clauses_of (drop i cs) in
    let rest = clauses_of (drop (i + 1) cs) in
    let within : i < length cs = omega (arith, c.loop-clause-test.true) in
    let first = drop_more cs i x within ∙ ap (λ ys. ys ∷ drop (i + 1) cs) (sym c.clause-item.is) in
    let split : left ≡ clause_then x.ty x.object r rest = ap clauses_of first in
    let labelled : labels_clauses left ≡ labels r + labels_clauses rest = ap labels_clauses split in
    let weighed : weight_clauses left ≡ weight r + weight_clauses rest + 1 = ap weight_clauses split in
    let em = emitting_of c.args.e.now in
    let cover = cover_of c.args.cover.now in
    let xs = exits_of c.args.exits.now.items in
    let s1 = c.put_quiet.new.code.items in
    let s2 = c.put_quiet-in-loop-clause.new.code.items in
    let bound : Emitted s1 s2 (quiet (plain (bind x.object (record { root = through em.object; offset = 0 }))) ∷ []) =
    subst (λ o. Emitted s1 s2 (quiet o ∷ [])) c.bind_object.ensures c.in_ok-put_quiet-2.ensures in
    record {
      code =
          clauses_onward em cover xs (exits_of c.loop-clause.exits.items) c.args.end c.loop-clause.begin c.in_ok-begin.begin c.loop-clause.next c.in_ok-next.next x.ty x.object r rest left
          c.loop-clause.code.items s1 s2 c.region_code.new.code.items c.put_quiet-in-loop-clause-2.new.code.items
          (map placed_of c.args.code.now.items ++ clauses_code em cover xs c.args.end c.args.first c.args.label (length c.args.code.now.items) (clauses_of cs))
          split (ap exits_of c.loop-clause.invariant.exits) c.in_ok-next.ensures.next c.in_ok-begin.ensures c.in_ok-put_quiet.ensures bound c.in_ok-next.ensures.code
          c.in_ok-put_quiet-3.ensures c.loop-clause.invariant.code;
      next = omega (arith, labelled, c.in_ok-next.ensures.next, c.loop-clause.invariant.next);
      exits = c.in_ok-next.ensures.exits ∙ c.loop-clause.invariant.exits;
      lighter = omega (arith, weighed, c.loop-clause.invariant.lighter);
    }

pub clauses_code-returns-clause-code : goal.clauses_code-returns-clause-code
clauses_code-returns-clause-code t c =
    let cs = c.args.clauses.now in
    let em = emitting_of c.args.e.now in
    let cover = cover_of c.args.cover.now in
    let xs = exits_of c.args.exits.now.items in
    let none = drop_all c.loop-clause.clause-index cs c.loop-clause-test.false in
    clauses_done em cover xs c.args.end c.loop-clause.begin c.loop-clause.next (clauses_of (drop c.loop-clause.clause-index cs)) c.args.code.now.items c.loop-clause.code.items
    (clauses_code em cover xs c.args.end c.args.first c.args.label (length c.args.code.now.items) (clauses_of cs)) (ap clauses_of none) c.loop-clause.invariant.code

pub caught-returns-clause-code : goal.caught-returns-clause-code
caught-returns-clause-code t c =
    let em = emitting_of c.args.e.now in
    let cover = cover_of c.args.cover.now in
    let l = c.args.label in
    let xs = exits_of c.args.exits.now.items in
    let given = c.args.clauses.now in
    let cs = clauses_of given in
    let s2 = c.handlers.new.code.items in
    let s3 = c.put_quiet.new.code.items in
    let after = exits_of c.handlers.new.exits.items in
    let chain = filters_of em (types_of cs) in
    let side : Emitted s2 s3 (quiet (label (l + 1)) ∷ []) = subst (λ m. Emitted s2 s3 (quiet (label m) ∷ [])) c.in_ok-behind.ensures c.in_ok-put_quiet.ensures in
    catch_emitted em cover (cover_of c.in_ok-inner.inner) xs (exit_of c.exit_to.result ∷ after) l c.in_ok-first.first c.in_ok-next.next c.in_ok-pad.pad (length given) chain
    (region_of c.args.body.now) cs c.args.code.now.items c.put_clause_pad.new.code.items s2 s3 c.covered.new.code.items c.put_quiet-2.new.code.items
    c.in_ok-inner.ensures (c.in_ok-pad.ensures ∙ ap (λ ys. length ys + 1) c.as_slice.ensures.value) refl
    (ap (λ x. x ∷ after) c.exit_to.ensures ∙ ap (λ ys. exit_to l ∷ exits_of ys) c.in_ok-next.ensures.exits) c.in_ok-first.ensures (sym (types_counted given))
    c.in_ok-next.ensures.next c.in_ok-put_clause_pad.ensures c.in_ok-next.ensures.code side c.in_ok-next-2.ensures.code c.in_ok-put_quiet-2.ensures

pub caught-returns-clause-next : goal.caught-returns-clause-next
caught-returns-clause-next t c =
    omega (arith, types_counted c.args.clauses.now, c.in_ok-first.ensures, c.in_ok-next.ensures.next, c.in_ok-next-2.ensures.next)

pub region_code-returns-in-Branch-clause-code : goal.region_code-returns-in-Branch-clause-code
region_code-returns-in-Branch-clause-code t c =
    let em = emitting_of c.args.e.now in
    let s = c.args.code.now.items in
    let meant : branch (value_of c.in-Branch.test) (region_of c.deref.result.now) (region_of c.deref-in-Branch.result.now) ≡ region_of c.args.region.now = search (rules, region_rows, c.in-Branch.is, c.deref.ensures, c.deref-in-Branch.ensures) in
    subst (λ r. OnOk c.branched.result (Emitted s c.branched.new.code.items (region_code em (cover_of c.args.cover.now) (exits_of c.args.exits.now.items) c.args.label (length s) r)))
    meant c.branched.ensures.code

pub region_code-returns-in-Protect-clause-code : goal.region_code-returns-in-Protect-clause-code
region_code-returns-in-Protect-clause-code t c =
    let em = emitting_of c.args.e.now in
    let s = c.args.code.now.items in
    let meant : protect (region_of c.deref-in-Protect.result.now) (cleanup_of c.in-Protect.cleanup) ≡ region_of c.args.region.now = search (rules, region_rows, c.in-Protect.is, c.deref-in-Protect.ensures) in
    subst (λ r. OnOk c.protected.result (Emitted s c.protected.new.code.items (region_code em (cover_of c.args.cover.now) (exits_of c.args.exits.now.items) c.args.label (length s) r)))
    meant c.protected.ensures.code

pub region_code-returns-in-Catch-clause-code : goal.region_code-returns-in-Catch-clause-code
region_code-returns-in-Catch-clause-code t c =
    let em = emitting_of c.args.e.now in
    let s = c.args.code.now.items in
    let meant : catch (region_of c.deref-in-Catch.result.now) (clauses_of c.as_slice-in-Catch.result.now) ≡ region_of c.args.region.now = search (rules, region_rows, c.in-Catch.is, c.deref-in-Catch.ensures, c.as_slice-in-Catch.ensures.value) in
    subst (λ r. OnOk c.caught.result (Emitted s c.caught.new.code.items (region_code em (cover_of c.args.cover.now) (exits_of c.args.exits.now.items) c.args.label (length s) r)))
    meant c.caught.ensures.code

pub region_code-returns-in-Limit-clause-code : goal.region_code-returns-in-Limit-clause-code
region_code-returns-in-Limit-clause-code t c =
    let em = emitting_of c.args.e.now in
    let s = c.args.code.now.items in
    let meant : limit (region_of c.deref-in-Limit.result.now) c.as_slice-in-Limit.result.now ≡ region_of c.args.region.now = search (rules, region_rows, c.in-Limit.is, c.deref-in-Limit.ensures, c.as_slice-in-Limit.ensures.value) in
    subst (λ r. OnOk c.limited.result (Emitted s c.limited.new.code.items (region_code em (cover_of c.args.cover.now) (exits_of c.args.exits.now.items) c.args.label (length s) r)))
    meant c.limited.ensures.code

pub region_code-returns-in-Barrier-clause-code : goal.region_code-returns-in-Barrier-clause-code
region_code-returns-in-Barrier-clause-code t c =
    let em = emitting_of c.args.e.now in
    let s = c.args.code.now.items in
    let meant : barrier (region_of c.deref-in-Barrier.result.now) ≡ region_of c.args.region.now = search (rules, region_rows, c.in-Barrier.is, c.deref-in-Barrier.ensures) in
    subst (λ r. OnOk c.closed.result (Emitted s c.closed.new.code.items (region_code em (cover_of c.args.cover.now) (exits_of c.args.exits.now.items) c.args.label (length s) r)))
    meant (c.closed.ensures.code (cover_of c.args.cover.now))

pub region_code-returns-in-Branch-clause-next : goal.region_code-returns-in-Branch-clause-next
region_code-returns-in-Branch-clause-next t c =
    let meant : branch (value_of c.in-Branch.test) (region_of c.deref.result.now) (region_of c.deref-in-Branch.result.now) ≡ region_of c.args.region.now = search (rules, region_rows, c.in-Branch.is, c.deref.ensures, c.deref-in-Branch.ensures) in
    subst (λ r. IfOk c.branched.result (λ n. n ≡ c.args.label + labels r)) meant c.branched.ensures.next

pub region_code-returns-in-Protect-clause-next : goal.region_code-returns-in-Protect-clause-next
region_code-returns-in-Protect-clause-next t c =
    let meant : protect (region_of c.deref-in-Protect.result.now) (cleanup_of c.in-Protect.cleanup) ≡ region_of c.args.region.now = search (rules, region_rows, c.in-Protect.is, c.deref-in-Protect.ensures) in
    subst (λ r. IfOk c.protected.result (λ n. n ≡ c.args.label + labels r)) meant c.protected.ensures.next

pub region_code-returns-in-Catch-clause-next : goal.region_code-returns-in-Catch-clause-next
region_code-returns-in-Catch-clause-next t c =
    let meant : catch (region_of c.deref-in-Catch.result.now) (clauses_of c.as_slice-in-Catch.result.now) ≡ region_of c.args.region.now = search (rules, region_rows, c.in-Catch.is, c.deref-in-Catch.ensures, c.as_slice-in-Catch.ensures.value) in
    subst (λ r. IfOk c.caught.result (λ n. n ≡ c.args.label + labels r)) meant c.caught.ensures.next

pub region_code-returns-in-Limit-clause-next : goal.region_code-returns-in-Limit-clause-next
region_code-returns-in-Limit-clause-next t c =
    let meant : limit (region_of c.deref-in-Limit.result.now) c.as_slice-in-Limit.result.now ≡ region_of c.args.region.now = search (rules, region_rows, c.in-Limit.is, c.deref-in-Limit.ensures, c.as_slice-in-Limit.ensures.value) in
    subst (λ r. IfOk c.limited.result (λ n. n ≡ c.args.label + labels r)) meant c.limited.ensures.next

pub region_code-returns-in-Barrier-clause-next : goal.region_code-returns-in-Barrier-clause-next
region_code-returns-in-Barrier-clause-next t c =
    let meant : barrier (region_of c.deref-in-Barrier.result.now) ≡ region_of c.args.region.now = search (rules, region_rows, c.in-Barrier.is, c.deref-in-Barrier.ensures) in
    subst (λ r. IfOk c.closed.result (λ n. n ≡ c.args.label + labels r)) meant c.closed.ensures.next

pub region_code-returns-in-Loop-clause-code : goal.region_code-returns-in-Loop-clause-code
region_code-returns-in-Loop-clause-code t c =
    let em = emitting_of c.args.e.now in
    let s = c.args.code.now.items in
    let meant : loop (value_of c.in-Loop.test) (region_of c.deref-in-Loop.result.now) ≡ region_of c.args.region.now = search (rules, region_rows, c.in-Loop.is, c.deref-in-Loop.ensures) in
    subst (λ r. OnOk c.repeated.result (Emitted s c.repeated.new.code.items (region_code em (cover_of c.args.cover.now) (exits_of c.args.exits.now.items) c.args.label (length s) r)))
    meant c.repeated.ensures.code

pub region_code-returns-in-Loop-clause-next : goal.region_code-returns-in-Loop-clause-next
region_code-returns-in-Loop-clause-next t c =
    let meant : loop (value_of c.in-Loop.test) (region_of c.deref-in-Loop.result.now) ≡ region_of c.args.region.now = search (rules, region_rows, c.in-Loop.is, c.deref-in-Loop.ensures) in
    subst (λ r. IfOk c.repeated.result (λ n. n ≡ c.args.label + labels r)) meant c.repeated.ensures.next

pub region_code-returns-in-Seq-clause-code : goal.region_code-returns-in-Seq-clause-code
region_code-returns-in-Seq-clause-code t c =
    let em = emitting_of c.args.e.now in
    let s = c.args.code.now.items in
    let meant : seq (regions_from (map region_of c.as_slice.result.now)) ≡ region_of c.args.region.now = search (rules, region_rows, c.in-Seq.is, c.as_slice.ensures.value) in
    subst (λ r. OnOk c.sequence.result (Emitted s c.sequence.new.code.items (region_code em (cover_of c.args.cover.now) (exits_of c.args.exits.now.items) c.args.label (length s) r)))
    meant c.sequence.ensures.code

pub region_code-returns-in-Seq-clause-next : goal.region_code-returns-in-Seq-clause-next
region_code-returns-in-Seq-clause-next t c =
    let meant : seq (regions_from (map region_of c.as_slice.result.now)) ≡ region_of c.args.region.now = search (rules, region_rows, c.in-Seq.is, c.as_slice.ensures.value) in
    subst (λ r. IfOk c.sequence.result (λ n. n ≡ c.args.label + labels r)) meant c.sequence.ensures.next
