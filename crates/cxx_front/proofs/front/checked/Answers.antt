use Rattle.std.proofs.Common.{◌∙◌, ap, subst, sym, Err}
use Rattle.std.proofs.lemmas.Result.{err_from_is_err_and}
use Rattle.cxx_ast.specs.View.{program_of}
use Rattle.cxx_front.specs.Answer.{Answers}
use Rattle.cxx_front.proofs.Passes.{Lexed, lexer_refuses, lexer_reads, parser_refuses, checker_refuses, checker_accepts}
use Rattle.cxx_front.proofs.front.checked.Goals as goal

pub returns-in_err-tokens : goal.returns-in_err-tokens
returns-in_err-tokens c =
    let p = err_from_is_err_and c.from_residual.result c.from_residual.ensures.1 in
    let told = c.in_err-tokens.ensures in
    let lexed : Lexed c.args.source.now (Err c.in_err-tokens.field-0.0) =
    record { tokens = told.tokens; bad_byte = told.bad_byte; literal_range = told.literal_range; open_comment = told.open_comment; too_many_tokens = told.too_many_tokens } in
    subst (Answers c.args.standard c.args.source.now) (sym (p.1 ∙ ap Err p.2)) (lexer_refuses c.args.standard c.args.source.now c.in_err-tokens.field-0.0 lexed)

pub parse-requires : goal.parse-requires
parse-requires c =
    let told = c.in_ok-tokens.ensures in
    let has = lexer_reads c.args.source.now c.in_ok-tokens.tokens c.as_slice.result.now c.as_slice.ensures.value told.tokens told.bad_byte told.literal_range told.open_comment told.too_many_tokens in
    has.lexed.few

pub returns-in_err-program : goal.returns-in_err-program
returns-in_err-program c =
    let p = err_from_is_err_and c.from_residual-in_err-program.result c.from_residual-in_err-program.ensures.1 in
    let told = c.in_ok-tokens.ensures in
    let has = lexer_reads c.args.source.now c.in_ok-tokens.tokens c.as_slice.result.now c.as_slice.ensures.value told.tokens told.bad_byte told.literal_range told.open_comment told.too_many_tokens in
    subst (Answers c.args.standard c.args.source.now) (sym (p.1 ∙ ap Err p.2))
    (parser_refuses c.args.standard c.args.source.now c.as_slice.result.now has c.in_err-program.ensures.one c.in_err-program.field-0.0 c.in_err-program.ensures.refusal)

pub returns-in_err-checked : goal.returns-in_err-checked
returns-in_err-checked c =
    let p = err_from_is_err_and c.from_residual-in_err-checked.result c.from_residual-in_err-checked.ensures.1 in
    let told = c.in_ok-tokens.ensures in
    let has = lexer_reads c.args.source.now c.in_ok-tokens.tokens c.as_slice.result.now c.as_slice.ensures.value told.tokens told.bad_byte told.literal_range told.open_comment told.too_many_tokens in
    subst (Answers c.args.standard c.args.source.now) (sym (p.1 ∙ ap Err p.2))
    (checker_refuses c.args.standard c.args.source.now c.as_slice.result.now has c.in_ok-program.ensures.one (program_of c.in_ok-program.program) c.in_ok-program.ensures.tree c.in_err-checked.field-0.0 c.in_err-checked.ensures)

pub returns : goal.returns
returns c =
    let told = c.in_ok-tokens.ensures in
    let has = lexer_reads c.args.source.now c.in_ok-tokens.tokens c.as_slice.result.now c.as_slice.ensures.value told.tokens told.bad_byte told.literal_range told.open_comment told.too_many_tokens in
    checker_accepts c.args.standard c.args.source.now c.as_slice.result.now has c.in_ok-program.ensures.one (program_of c.in_ok-program.program) c.in_ok-program.ensures.tree c.in_ok-checked.checked c.in_ok-checked.ensures
