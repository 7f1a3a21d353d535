use Rattle.std.proofs.Common.{rules, ◌≡◌, ◌∙◌, ℕ, Option, Some, None, [], map}
use Rattle.std.proofs.lemmas.Result.{IfOk-weaker}
use Rattle.std.specs.Prelude.{option_map}
use Rattle.eh_bytes.specs.Encoded.{encoding_format, format_size}
use Rattle.eh_bytes.specs.Memory.{memory_of, part_of}
use Rattle.table_forms.specs.LsdaHead.{Types}
use Rattle.lsda_pack.specs.Extents.{words_by, words_for}
use Rattle.lsda_pack.specs.Placings.{HasTypes}
use Rattle.lsda_pack.specs.Reaches.{extent_taken}
use Rattle.lsda_pack.proofs.WordsNamed.{no_words, some_words}
use Rattle.lsda_pack.proofs.placing.words_named.Goals as goal

pub returns-in-None : goal.returns-in-None
returns-in-None c o has none =
    let omitted : c.args.base ≡ None = search rules in
    let nothing : c.new.result.items ≡ [] = search rules in
    nothing ∙ no_words (memory_of c.args.memory.now) (part_of c.args.segment.now) c.args.types.now o (none ∙ omitted)

pub returns-in-Some : goal.returns-in-Some
returns-in-Some c =
    let m = memory_of c.args.memory.now in
    let part = part_of c.args.segment.now in
    let s = c.args.shape.now in
    let is = c.args.types.now in
    let base = c.in-Some.base in
    let given : c.args.base ≡ Some base = search rules in
    IfOk-weaker c.words_of.result
    (λ taken. (size : ℕ) → format_size (encoding_format s.ttype) ≡ Some size → taken.items ≡ map extent_taken (words_by m part s.ttype base size is))
    (λ taken. (o : Option Types) → HasTypes s o → option_map (λ t. t.base) o ≡ c.args.base → taken.items ≡ map extent_taken (words_for m part o is))
    (λ taken words o has e. some_words m part s base is taken.items words o has (e ∙ given))
    c.words_of.ensures
