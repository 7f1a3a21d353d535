use Rattle.std.proofs.Common.{rules, ◌≡◌, ◌<◌, sym, subst, ℕ, List, [], length, Option, None, Some}
use Rattle.std.specs.Prelude.{option_map}
use Rattle.hart_sched.specs.declared.line.Numbers.{Numbers}
use Rattle.hart_sched.specs.Decimal.{number_in, turns_in}
use Rattle.hart_sched.specs.Reads.{ReadsLine, capped}
use Rattle.hart_sched.specs.Schedule.{parted}
use Rattle.plain_text.proofs.Texts.{empty}
use Rattle.hart_sched.proofs.ReadLine.{no_blank, no_end, more_behind, no_hart, no_turns, line_is_read}
use Rattle.hart_sched.proofs.line.read_line.Goals as goal

pub returns-in_err-digits-clause-reads : goal.returns-in_err-digits-clause-reads
returns-in_err-digits-clause-reads c =
    let line = c.args.line.now in
    let a : parted 32 line ≡ None = search rules in
    let none : c.from_residual.result ≡ None = search rules in
    subst (λ (r : Option Numbers). ReadsLine line r) (sym none) (no_blank line a)

pub returns-in_err-more-clause-reads : goal.returns-in_err-more-clause-reads
returns-in_err-more-clause-reads c =
    let line = c.args.line.now in
    let hart = c.in_ok-digits.digits.now in
    let others = c.in_ok-digits.others.now in
    let a : parted 32 line ≡ Some (hart, others) = search rules in
    let b : parted 10 others ≡ None = search rules in
    let none : c.from_residual-in_err-more.result ≡ None = search rules in
    subst (λ (r : Option Numbers). ReadsLine line r) (sym none) (no_end line hart others a b)

pub returns-then-not-is_empty-clause-reads : goal.returns-then-not-is_empty-clause-reads
returns-then-not-is_empty-clause-reads c =
    let line = c.args.line.now in
    let hart = c.in_ok-digits.digits.now in
    let others = c.in_ok-digits.others.now in
    let turns = c.in_ok-more.more.now in
    let behind = c.in_ok-more.behind.now in
    let a : parted 32 line ≡ Some (hart, others) = search rules in
    let b : parted 10 others ≡ Some (turns, behind) = search rules in
    let some : 0 < length behind = search rules in
    more_behind line hart others turns behind a b some

pub returns-in_err-hart-clause-reads : goal.returns-in_err-hart-clause-reads
returns-in_err-hart-clause-reads c =
    let line = c.args.line.now in
    let hart = c.in_ok-digits.digits.now in
    let others = c.in_ok-digits.others.now in
    let turns = c.in_ok-more.more.now in
    let behind = c.in_ok-more.behind.now in
    let nothing : length behind ≡ 0 = search rules in
    let a : parted 32 line ≡ Some (hart, others) = search rules in
    let b : parted 10 others ≡ Some (turns, behind) = search rules in
    let b' : parted 10 others ≡ Some (turns, []) = subst (λ (r : List ℕ). parted 10 others ≡ Some (turns, r)) (empty behind nothing) b in
    let missing : None ≡ option_map capped (number_in hart) = search rules in
    let none : c.from_residual-in_err-hart.result ≡ None = search rules in
    subst (λ (r : Option Numbers). ReadsLine line r) (sym none) (no_hart line hart others turns a b' missing)

pub returns-in_err-turns-clause-reads : goal.returns-in_err-turns-clause-reads
returns-in_err-turns-clause-reads c =
    let line = c.args.line.now in
    let hart = c.in_ok-digits.digits.now in
    let others = c.in_ok-digits.others.now in
    let turns = c.in_ok-more.more.now in
    let behind = c.in_ok-more.behind.now in
    let nothing : length behind ≡ 0 = search rules in
    let a : parted 32 line ≡ Some (hart, others) = search rules in
    let b : parted 10 others ≡ Some (turns, behind) = search rules in
    let b' : parted 10 others ≡ Some (turns, []) = subst (λ (r : List ℕ). parted 10 others ≡ Some (turns, r)) (empty behind nothing) b in
    let some : Some c.in_ok-hart.hart ≡ option_map capped (number_in hart) = search rules in
    let missing : None ≡ turns_in turns = search rules in
    let none : c.from_residual-in_err-turns.result ≡ None = search rules in
    subst (λ (r : Option Numbers). ReadsLine line r) (sym none) (no_turns line hart others turns c.in_ok-hart.hart a b' some missing)

pub returns-clause-reads : goal.returns-clause-reads
returns-clause-reads c =
    let line = c.args.line.now in
    let hart = c.in_ok-digits.digits.now in
    let others = c.in_ok-digits.others.now in
    let turns = c.in_ok-more.more.now in
    let behind = c.in_ok-more.behind.now in
    let nothing : length behind ≡ 0 = search rules in
    let a : parted 32 line ≡ Some (hart, others) = search rules in
    let b : parted 10 others ≡ Some (turns, behind) = search rules in
    let b' : parted 10 others ≡ Some (turns, []) = subst (λ (r : List ℕ). parted 10 others ≡ Some (turns, r)) (empty behind nothing) b in
    let some : Some c.in_ok-hart.hart ≡ option_map capped (number_in hart) = search rules in
    let found : Some c.in_ok-turns.turns ≡ turns_in turns = search rules in
    line_is_read line hart others turns c.in_ok-hart.hart c.in_ok-turns.turns a b' some found
